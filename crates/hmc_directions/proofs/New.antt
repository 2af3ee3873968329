-- Ends that did nothing.
use Rattle.std.proofs.Common.{◌≡◌, ◌<◌, ◌*◌, ◌+◌, ◌==◌, ◌∙◌, ℕ, Bool, true, false, List, [], ◌∷◌, ◌++◌, length, refl, sym, subst, arith, eqb-true, eq-eqb}
use Rattle.std.specs.Prelude.{slice_index_or}
use Rattle.std.proofs.lemmas.List.{get_or_push, length_push, get_or_append_left}
use Rattle.hmc_codes.specs.Link.{LinkFields, IsLinkSetup}
use Rattle.hmc_case.specs.declared.setup.LinkRow.{LinkRow}
use Rattle.hmc_routes.specs.Directions.{other}
use Rattle.hmc_send.specs.LinkCalls.{IsLawful}
use Rattle.hmc_send.specs.LinkSenders.{sender_entries}
use Rattle.hmc_send.specs.LinkEntries as ways
use Rattle.hmc_send.specs.declared.toward.Toward.{Toward}
use Rattle.hmc_ends.specs.End.{EndFields}
use Rattle.hmc_ends.specs.Parts.{parts_of}
use Rattle.hmc_ends.specs.StandsFor.{EndStandsFor}
use Rattle.hmc_wire.specs.Conditions.{AreHanded, AreFed}
use Rattle.hmc_wire.specs.LinkLaws.{IsKept}
use Rattle.hmc_journal.specs.Links.{toward}
use Rattle.hmc_journal.proofs.Joins.{other_half, other_inside}
use Rattle.hmc_directions.specs.Ends.{EndsHold}
use Rattle.hmc_kept.specs.Called.{sizes_at, sizes_by}

-- an end of a link of this size that did nothing
pub record IsNewEnd (rows : List LinkRow) (direction : ℕ) (e : EndFields) : Type 0 where
  pub sizes : IsLinkSetup (sizes_by rows direction)
  pub stands : (d : Toward) → EndStandsFor (sizes_by rows direction) e (parts_of (sizes_by rows direction) d [])

abbrev pub AreNewEnds : List LinkRow → List EndFields → Type 0
AreNewEnds rows ends = (direction : ℕ) (d : EndFields) → direction < length ends → IsNewEnd rows direction (slice_index_or ends direction d)

not_it : (i j : ℕ) → (i == j) ≡ false → j ≡ i → ⊥
not_it i j apart same = absurd (let is : (i == j) ≡ true = eq-eqb i j (sym same) in let clash : true ≡ false = sym is ∙ apart in cc)

pub one_more : (rows : List LinkRow) (ends : List EndFields) (e : EndFields) → AreNewEnds rows ends → IsNewEnd rows (length ends) e → AreNewEnds rows (ends ++ e ∷ [])
one_more rows ends e before here at d less = by_test (length ends == at) refl
  where
    by_test : (test : Bool) → (length ends == at) ≡ test → IsNewEnd rows at (slice_index_or (ends ++ e ∷ []) at d)
    by_test true is =
        subst (λ (n : ℕ). IsNewEnd rows n (slice_index_or (ends ++ e ∷ []) n d)) (eqb-true (length ends) at is) (subst (IsNewEnd rows (length ends)) (sym (get_or_push ends e d (length ends) refl)) here)
    by_test false is =
        let apart = not_it (length ends) at is in
        let long = length_push ends e in
        let inside : at < length ends = omega (arith, apart) in
        subst (IsNewEnd rows at) (sym (get_or_append_left ends (e ∷ []) d at inside)) (before at d inside)

kept_new : (link : LinkFields) → IsLinkSetup link → IsKept link []
unfolding IsLawful AreHanded AreFed sender_entries
kept_new link sizes = record {
  retry = sizes.retry;
  lawful = tt;
  met = record { handed = tt; forth = tt; back = tt };
}

pub all_new : (rows : List LinkRow) (ends : List EndFields) → length ends ≡ 2 * length rows → AreNewEnds rows ends → EndsHold rows ends (λ link. [])
all_new rows ends count new = record {
  count = count;
  stand = λ direction d less.
      let here = new direction d less in
      let there_less : other direction < length ends = (let inside = other_inside direction (length rows) (omega (arith, count)) in omega (arith, count)) in
      let there = new (other direction) d there_less in
      let far = there.stands (ways.other (toward direction)) in
      record {
        sizes = here.sizes;
        kept = kept_new (sizes_by rows direction) here.sizes;
        sending = here.stands (toward direction);
        landing = subst (λ (n : ℕ). EndStandsFor (sizes_at rows n) (slice_index_or ends (other direction) d) (parts_of (sizes_at rows n) (ways.other (toward direction)) [])) (other_half direction) far;
      };
}
