-- The steps of a case are taken one after another: those that are left, and the lines of the entries.
use Rattle.std.proofs.Common.{◌≡◌, ◌≤◌, ◌<◌, ◌+◌, ◌∙◌, inl, inr, ℕ, suc, Bool, true, false, Some, List, [], ◌∷◌, ◌++◌, length, drop, slice_get, get_or, refl, sym, ap, arith, add-one, append-nil, append_assoc, length-drop}
use Rattle.std.proofs.Math.ListN.{drop_of_length-le}
use Rattle.std.proofs.Math.Seq.{drop-cons}
use Rattle.std.proofs.lemmas.Option.{slice_get-get_or}
use Rattle.hmc_schedule.specs.RoundsLeft.{LeftFields, steps_left}
use Rattle.hmc_schedule.specs.declared.step.Step.{Step}
use Rattle.hmc_entries.specs.Event.{is_passed}
use Rattle.hmc_entries.specs.Lines.{line_of}
use Rattle.hmc_entries.specs.Text.{lines_of}
use Rattle.hmc_entries.specs.declared.entry.Entry.{Entry}
use Rattle.hmc_journal.specs.Lawful.{has_passed, Lawful, journal_behind, journal_of}
use Rattle.hmc_journal.specs.Left.{LeavesSteps}
use Rattle.hmc_journal.specs.Next.{next}
use Rattle.hmc_journal.specs.Setup.{Setup}
use Rattle.hmc_journal.proofs.OneJournal.{goes_on, ends_there, behind, journal_of-whole}

-- ---- lists

-- what is left begins with what stands at that place
some_drop : {X : Type 0} (xs : List X) (k : ℕ) (x : X) (rest : List X) → drop k xs ≡ x ∷ rest → suc k ≤ length xs
some_drop xs k x rest is = omega (arith, length-drop k xs, ap length is)

at_drop : {X : Type 0} (xs : List X) (k : ℕ) (x : X) (rest : List X) → drop k xs ≡ x ∷ rest → slice_get xs k ≡ Some x
at_drop xs k x rest is =
    let inside = some_drop xs k x rest is in
    let first = drop-cons xs k x inside in slice_get-get_or xs k x inside ∙ (cc (first, is))

after_drop : {X : Type 0} (xs : List X) (k : ℕ) (x : X) (rest : List X) → drop k xs ≡ x ∷ rest → drop (suc k) xs ≡ rest
after_drop xs k x rest is = let first = drop-cons xs k x (some_drop xs k x rest is) in cc (first, is)

end_drop : {X : Type 0} (xs : List X) (k : ℕ) → drop k xs ≡ [] → k ≤ length xs → k ≡ length xs
end_drop xs k is le = omega (arith, le, length-drop k xs, ap length is)

-- ---- the steps that are left

-- before the first entry all are
pub none_taken : (setup : Setup) (steps : List Step) → setup.schedule ≡ steps → LeavesSteps setup [] steps
none_taken setup steps is = record { goes_on = refl; left_is = is; few = omega arith }

-- the first of them comes next
pub next_step : (setup : Setup) (past : List Entry) (step : Step) (left : List Step) → LeavesSteps setup past (step ∷ left) → slice_get setup.schedule (length past) ≡ Some step
next_step setup past step left is = at_drop setup.schedule (length past) step left is.left_is

-- so the schedule has more
pub some_left : (setup : Setup) (past : List Entry) (step : Step) (left : List Step) → LeavesSteps setup past (step ∷ left) → length past < length setup.schedule
some_left setup past step left is = some_drop setup.schedule (length past) step left is.left_is

-- after the entry of one, which passed nothing, the others are left
pub one_taken : (setup : Setup) (past : List Entry) (entry : Entry) (step : Step) (left : List Step) → LeavesSteps setup past (step ∷ left) → is_passed entry ≡ false → LeavesSteps setup (entry ∷ past) left
one_taken setup past entry step left is on = record {
  goes_on = on;
  left_is = after_drop setup.schedule (length past) step left is.left_is;
  few = some_drop setup.schedule (length past) step left is.left_is;
}

pub same_left : (setup : Setup) (past : List Entry) (left other : List Step) → LeavesSteps setup past left → left ≡ other → LeavesSteps setup past other
same_left setup past left other is same = record { goes_on = is.goes_on; left_is = is.left_is ∙ same; few = is.few }

-- where none is left, each step of the schedule has its entry
pub all_taken : (setup : Setup) (past : List Entry) → LeavesSteps setup past [] → length past ≡ length setup.schedule
all_taken setup past is = end_drop setup.schedule (length past) is.left_is is.few

-- and the journal is that of the case
pub all_whole : (setup : Setup) (past : List Entry) → Lawful setup past → LeavesSteps setup past [] → past ≡ journal_of setup
all_whole setup past lawful is = journal_of-whole setup past (record { lawful = lawful; whole = inl (all_taken setup past is) })

-- as it is after a landing that passed
pub passed_whole : (setup : Setup) (past : List Entry) (entry : Entry) → Lawful setup (entry ∷ past) → is_passed entry ≡ true → entry ∷ past ≡ journal_of setup
passed_whole setup past entry lawful is = journal_of-whole setup (entry ∷ past) (record { lawful = lawful; whole = inr is })

-- ---- the steps of the round at hand

round_over : (rounds : LeftFields) (round : List Step) (k : ℕ) → length round ≤ k → steps_left rounds (drop k round) ≡ steps_left rounds []
round_over rounds round k le = ap (steps_left rounds) (drop_of_length-le round le)

due_left : (rounds new : LeftFields) (round : List Step) (k : ℕ) (d due : Step) → k < length round → ((rest : List Step) → steps_left rounds (get_or round k d ∷ rest) ≡ due ∷ steps_left new rest) → steps_left rounds (drop k round) ≡ due ∷ steps_left new (drop (k + 1) round)
due_left rounds new round k d due small is =
    ap (steps_left rounds) (drop-cons round k d small) ∙ is (drop (suc k) round) ∙ ap (λ j. due ∷ steps_left new (drop j round)) (sym (add-one k))

-- the step at hand comes next; these are left after it
pub due_here : (setup : Setup) (past : List Entry) (rounds new : LeftFields) (round : List Step) (k : ℕ) (d due : Step) → k < length round → ((rest : List Step) → steps_left rounds (get_or round k d ∷ rest) ≡ due ∷ steps_left new rest) → LeavesSteps setup past (steps_left rounds (drop k round)) → LeavesSteps setup past (due ∷ steps_left new (drop (k + 1) round))
due_here setup past rounds new round k d due small is here = same_left setup past _ _ here (due_left rounds new round k d due small is)

-- none of the round is left
pub over_here : (setup : Setup) (past : List Entry) (rounds : LeftFields) (round : List Step) (k : ℕ) → length round ≤ k → LeavesSteps setup past (steps_left rounds (drop k round)) → LeavesSteps setup past (steps_left rounds [])
over_here setup past rounds round k le here = same_left setup past _ _ here (round_over rounds round k le)

-- ---- the lines

pub lines-next : (entry : Entry) (past : List Entry) → lines_of (entry ∷ past) ≡ lines_of past ++ line_of entry ∷ []
unfolding lines_of
lines-next entry past = refl

-- by whether the last entry is a landing that passed
by_passed : (setup : Setup) (past : List Entry) (step : Step) (steps : List Step) (passed : Bool) → has_passed past ≡ passed
    → (rest : List (List ℕ)) × (lines_of (journal_behind setup (next setup past step ∷ past) steps) ≡ lines_of (next setup past step ∷ past) ++ rest)
    → (rest : List (List ℕ)) × (lines_of (journal_behind setup past (step ∷ steps)) ≡ lines_of past ++ rest)
by_passed setup past step steps true is later = ([], ap lines_of (ends_there setup past (step ∷ steps) is) ∙ sym (append-nil (lines_of past)))
by_passed setup past step steps false is later =
    let entry = next setup past step in (
      (line_of entry ∷ []) ++ later.0,
      ap lines_of (goes_on setup past step steps is) ∙ later.1 ∙ ap (λ l. l ++ later.0) (lines-next entry past) ∙ append_assoc (lines_of past) (line_of entry ∷ []) later.0,
    )

-- a journal's lines begin those of any that goes on after it
lines-behind : (setup : Setup) (past : List Entry) (steps : List Step) → (rest : List (List ℕ)) × (lines_of (journal_behind setup past steps) ≡ lines_of past ++ rest)
unfolding journal_behind
lines-behind setup past [] = ([], sym (append-nil (lines_of past)))
lines-behind setup past (step ∷ steps) = by_passed setup past step steps (has_passed past) refl (lines-behind setup (next setup past step ∷ past) steps)

-- the lines of a lawful journal are the first of those of the whole one
pub begins : (setup : Setup) (past : List Entry) → Lawful setup past → (rest : List (List ℕ)) × (lines_of (journal_of setup) ≡ lines_of past ++ rest)
unfolding journal_of
begins setup past lawful =
    let later = lines-behind setup past (drop (length past) setup.schedule) in
    (later.0, ap lines_of (behind setup past lawful) ∙ later.1)
