-- The journal of a case is whole.
use Rattle.std.proofs.Common.{◌≡◌, ◌+◌, ◌⊎◌, inl, inr, ℕ, zero, suc, Bool, true, false, Option, Some, List, [], ◌∷◌, length, drop, slice_get, refl, sym, subst, arith}
use Rattle.hmc_schedule.specs.declared.step.Step.{Step}
use Rattle.hmc_entries.specs.declared.entry.Entry.{Entry}
use Rattle.hmc_journal.specs.Setup.{Setup}
use Rattle.hmc_journal.specs.Next.{next}
use Rattle.hmc_journal.specs.Lawful.{Follows, has_passed, Lawful, IsWhole, journal_behind, journal_of}
use Rattle.hmc_journal.proofs.OneJournal.{goes_on, ends_there}

-- what stands at a place is the first of the rest
at_rest : {X : Type 0} (xs : List X) (n : ℕ) (x : X) (rest : List X) → drop n xs ≡ x ∷ rest → slice_get xs n ≡ Some x
at_rest [] zero x rest is = absurd (cc)
at_rest [] (suc n) x rest is = absurd (cc)
at_rest (y ∷ ys) zero x rest is = cc
at_rest (y ∷ ys) (suc n) x rest is = at_rest ys n x rest is

past_rest : {X : Type 0} (xs : List X) (n : ℕ) (x : X) (rest : List X) → drop n xs ≡ x ∷ rest → drop (suc n) xs ≡ rest
past_rest [] zero x rest is = absurd (cc)
past_rest [] (suc n) x rest is = absurd (cc)
past_rest (y ∷ ys) zero x rest is = cc
past_rest (y ∷ ys) (suc n) x rest is = past_rest ys n x rest is

-- after a lawful journal the entries of the steps that are left make it whole
pub record IsMade (setup : Setup) (count : ℕ) (journal : List Entry) : Type 0 where
  pub lawful : Lawful setup journal
  pub whole : (length journal ≡ count) ⊎ (has_passed journal ≡ true)

made_by : (setup : Setup) (past : List Entry) (step : Step) (steps : List Step) (passed : Bool) → has_passed past ≡ passed → Lawful setup past → drop (length past) setup.schedule ≡ step ∷ steps
    → (Lawful setup (next setup past step ∷ past) → IsMade setup (length past + length (step ∷ steps)) (journal_behind setup (next setup past step ∷ past) steps))
    → IsMade setup (length past + length (step ∷ steps)) (journal_behind setup past (step ∷ steps))
unfolding Lawful
made_by setup past step steps true passed lawful left more =
    subst (IsMade setup (length past + length (step ∷ steps))) (sym (ends_there setup past (step ∷ steps) passed)) (record { lawful = lawful; whole = inr passed })
made_by setup past step steps false passed lawful left more =
    let follows : Follows setup past (slice_get setup.schedule (length past)) (next setup past step) =
    subst (λ (s : Option Step). Follows setup past s (next setup past step)) (sym (at_rest setup.schedule (length past) step steps left)) refl in
    subst (IsMade setup (length past + length (step ∷ steps))) (sym (goes_on setup past step steps passed)) (more (passed, follows, lawful))

made_none : (setup : Setup) (past : List Entry) → Lawful setup past → IsMade setup (length past + 0) (journal_behind setup past [])
unfolding journal_behind
made_none setup past lawful = record { lawful = lawful; whole = inl (omega arith) }

one_later : (setup : Setup) (n k : ℕ) (journal : List Entry) → IsMade setup (suc n + k) journal → IsMade setup (n + suc k) journal
one_later setup n k journal is = let same : suc n + k ≡ n + suc k = omega arith in subst (λ (m : ℕ). IsMade setup m journal) same is

pub made_whole : (setup : Setup) (past : List Entry) (steps : List Step) → Lawful setup past → drop (length past) setup.schedule ≡ steps
    → IsMade setup (length past + length steps) (journal_behind setup past steps)
made_whole setup past [] lawful left = made_none setup past lawful
made_whole setup past (step ∷ steps) lawful left =
    made_by setup past step steps (has_passed past) refl lawful left
    (λ next_lawful. one_later setup (length past) (length steps) _ (made_whole setup (next setup past step ∷ past) steps next_lawful (past_rest setup.schedule (length past) step steps left)))

from_zero : (setup : Setup) (count : ℕ) (journal : List Entry) → (length journal ≡ 0 + count) ⊎ (has_passed journal ≡ true) → (length journal ≡ count) ⊎ (has_passed journal ≡ true)
from_zero setup count journal (inl is) = inl (omega arith)
from_zero setup count journal (inr is) = inr is

pub journal_is_whole : (setup : Setup) → IsWhole setup (journal_of setup)
unfolding journal_of Lawful
journal_is_whole setup = let made = made_whole setup [] setup.schedule tt refl in record { lawful = made.lawful; whole = from_zero setup (length setup.schedule) (journal_of setup) made.whole }
