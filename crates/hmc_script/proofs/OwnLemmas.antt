-- The requests of a host.
use Rattle.std.proofs.Common.{◌≡◌, ◌≢◌, ◌≤◌, ◌<◌, ◌+◌, ◌∙◌, ◌==◌, ℕ, Bool, true, false, cond, List, [], ◌∷◌, ◌++◌, length, take, ap, sym, arith, append-nil, length-take}
use Rattle.std.specs.Prelude.{slice_get, Some}
use Rattle.std.proofs.lemmas.Option.{slice_get_within, get_or_from_slice_get}
use Rattle.std.proofs.lemmas.Bool.{eq-eqb, ne_eqb}
use Rattle.std.proofs.lemmas.List.Elements.{filter_more}
use Rattle.std.proofs.lemmas.List.Sums.{length-filter, count_by-le-length}
use Rattle.hmc_script.specs.Items.{ItemFields, of_host}

-- the host has asked
abbrev asks : ℕ → ItemFields → Bool
asks number item = item.host == number

step : (number at : ℕ) (script : List ItemFields) (item : ItemFields) (is : Bool) → slice_get script at ≡ Some item → asks number item ≡ is →
    of_host number (take (at + 1) script) ≡ of_host number (take at script) ++ cond is (item ∷ []) []
step number at script item is found asked =
    let here = get_or_from_slice_get script at item item found in
    filter_more (asks number) script at item (slice_get_within script at item found)
    ∙ ap (λ (x : ItemFields). of_host number (take at script) ++ cond (asks number x) (x ∷ []) []) here
    ∙ ap (λ (b : Bool). of_host number (take at script) ++ cond b (item ∷ []) []) asked

-- the next request is the host's
pub one_more : (number at : ℕ) (script items items' : List ItemFields) (item : ItemFields) →
    items ≡ of_host number (take at script) → slice_get script at ≡ Some item → item.host ≡ number → items' ≡ items ++ item ∷ [] →
    items' ≡ of_host number (take (at + 1) script)
one_more number at script items items' item so_far found is now =
    now ∙ ap (λ (l : List ItemFields). l ++ item ∷ []) so_far ∙ sym (step number at script item true found (eq-eqb item.host number is))

-- the next request is another's
pub another : (number at : ℕ) (script items items' : List ItemFields) (item : ItemFields) →
    items ≡ of_host number (take at script) → slice_get script at ≡ Some item → item.host ≢ number → items' ≡ items →
    items' ≡ of_host number (take (at + 1) script)
another number at script items items' item so_far found is now =
    now ∙ so_far ∙ sym (step number at script item false found (ne_eqb item.host number is) ∙ append-nil (of_host number (take at script)))

-- so there is room for one more
pub has_room : (number : ℕ) (script : List ItemFields) (at : ℕ) (items : List ItemFields) →
    items ≡ of_host number (take at script) → at < length script → length script ≤ 4294967295 → length items < 4294967295
has_room number script at items is small few =
    omega (arith, ap length is, length-filter (asks number) (take at script), count_by-le-length (asks number) (take at script), length-take at script)
