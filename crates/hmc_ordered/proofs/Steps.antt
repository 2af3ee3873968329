-- What is in order step by step is in order at each moment.
use Rattle.std.proofs.Common.{◌≡◌, ◌∙◌, ◌==◌, ◌&&◌, ℕ, Bool, true, false, not, List, [], ◌∷◌, ◌++◌, refl, ap, subst, append_assoc, eqb-true}
use Rattle.std.proofs.lemmas.Bool.{and_parts}
use Rattle.hmc_entries.specs.declared.entry.Entry.{Entry}
use Rattle.hmc_entries.specs.declared.entry.Entry.TheVariants.{Gave, Executed}
use Rattle.hmc_journal.specs.Choice.{append_if}
use Rattle.hmc_journal.specs.Delivered.{IsPrefix}
use Rattle.hmc_journal.specs.Filters.{TaggedRequest}
use Rattle.hmc_arrivals.specs.Arrivals.{given_at}
use Rattle.hmc_seen.specs.Stepwise.{IsNext}
use Rattle.hmc_ordered.specs.Ordered.{executed_at}

-- each execution is of the next request that its host gave to its cube
unfoldable pub AreNext : List Entry → Type 0
AreNext [] = Unit {0}
AreNext (Executed unit host tag request answer ∷ past) =
    IsNext (executed_at host request.cube past) (record { tag = tag; request = request })
    (given_at host request.cube past)
    × AreNext past
AreNext (_ ∷ past) = AreNext past

longer : {X : Type 0} (b : Bool) (more done all : List X) → IsPrefix done all →
    IsPrefix done (append_if b more all)
longer true more done all p =
    (p.0 ++ more, ap (λ l. l ++ more) p.1 ∙ append_assoc done p.0 more)
longer false more done all p = p

further : {X : Type 0} (b : Bool) (x : X) (done all : List X) → (b ≡ true → IsNext done x all) →
    IsPrefix done all → IsPrefix (append_if b (x ∷ []) done) all
further true x done all next p = next refl
further false x done all next p = p

pub in_order : (j : List Entry) → AreNext j → (h c : ℕ) →
    IsPrefix (executed_at h c j) (given_at h c j)
unfolding AreNext executed_at given_at
in_order [] steps h c = ([], refl)
in_order (Gave host tag poisoned request ∷ j) steps h c =
    longer ((host == h) && (not poisoned && (request.cube == c)))
    (record { tag = tag; request = request } ∷ [])
    (executed_at h c j) (given_at h c j) (in_order j steps h c)
in_order (Executed unit host tag request answer ∷ j) steps h c =
    let x : TaggedRequest = record { tag = tag; request = request } in
    further ((host == h) && (request.cube == c)) x (executed_at h c j) (given_at h c j)
    (λ is.
    let both = and_parts (host == h) (request.cube == c) is in
    subst (λ n. IsNext (executed_at h n j) x (given_at h n j)) (eqb-true request.cube c both.1)
    (subst (λ n. IsNext (executed_at n request.cube j) x (given_at n request.cube j))
    (eqb-true host h both.0) steps.0))
    (in_order j steps.1 h c)
in_order (_ ∷ j) steps h c = in_order j steps h c

-- an earlier moment goes by steps too
pub earlier_steps : (later past : List Entry) → AreNext (later ++ past) → AreNext past
unfolding AreNext
earlier_steps [] past steps = steps
earlier_steps (Executed unit host tag request answer ∷ later) past steps =
    earlier_steps later past steps.1
earlier_steps (_ ∷ later) past steps = earlier_steps later past steps
