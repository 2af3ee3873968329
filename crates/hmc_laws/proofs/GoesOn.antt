-- A lawful journal that isn't whole goes on.
use Rattle.std.proofs.Common.{◌≡◌, ◌<◌, ◌≤◌, inl, inr, ℕ, zero, suc, Bool, true, false, Option, Some, None, List, [], ◌∷◌, length, slice_get, refl, sym, subst, arith}
use Rattle.std.proofs.lemmas.Option.{slice_get_within}
use Rattle.hmc_schedule.specs.declared.step.Step.{Step}
use Rattle.hmc_entries.specs.declared.entry.Entry.{Entry}
use Rattle.hmc_journal.specs.Lawful.{Follows, has_passed, Lawful, IsWhole}
use Rattle.hmc_journal.specs.Next.{next}
use Rattle.hmc_journal.specs.Setup.{Setup}

-- an entry that follows is that of a step which the schedule has
follows_within : (setup : Setup) (past : List Entry) (entry : Entry) (found : Option Step) → slice_get setup.schedule (length past) ≡ found → Follows setup past found entry → length past < length setup.schedule
follows_within setup past entry None at follows = absurd follows
follows_within setup past entry (Some step) at follows = slice_get_within setup.schedule (length past) step at

-- a lawful journal has no more entries than the schedule has steps
pub lawful_few : (setup : Setup) (past : List Entry) → Lawful setup past → length past ≤ length setup.schedule
unfolding Lawful
lawful_few setup [] lawful = omega arith
lawful_few setup (entry ∷ past) lawful =
    let within = follows_within setup past entry (slice_get setup.schedule (length past)) refl lawful.1 in omega arith

-- past the end of a list nothing is found, and before it something is
found_before : {X : Type 0} (xs : List X) (n : ℕ) → slice_get xs n ≡ None → length xs ≤ n
found_before [] n none = omega arith
found_before (x ∷ xs) zero none = absurd (cc)
found_before (x ∷ xs) (suc n) none = let later = found_before xs n none in omega arith

goes_by : (setup : Setup) (past : List Entry) (passed : Bool) (found : Option Step) → has_passed past ≡ passed → slice_get setup.schedule (length past) ≡ found → Lawful setup past → (IsWhole setup past → ⊥)
    → (entry : Entry) × Lawful setup (entry ∷ past)
unfolding Lawful
goes_by setup past true found on at lawful part = absurd (part (record { lawful = lawful; whole = inr on }))
goes_by setup past false None on at lawful part =
    let few = lawful_few setup past lawful in
    let most = found_before setup.schedule (length past) at in
    let all : length past ≡ length setup.schedule = omega arith in
    absurd (part (record { lawful = lawful; whole = inl all }))
goes_by setup past false (Some step) on at lawful part =
    (next setup past step, (on, subst (λ (s : Option Step). Follows setup past s (next setup past step)) (sym at) refl, lawful))

pub lawful_more : (setup : Setup) (past : List Entry) → Lawful setup past → (IsWhole setup past → ⊥) → (entry : Entry) × Lawful setup (entry ∷ past)
lawful_more setup past lawful part = goes_by setup past (has_passed past) (slice_get setup.schedule (length past)) refl refl lawful part
