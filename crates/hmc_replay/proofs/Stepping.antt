-- Taking the steps of a case one after another, and writing the line of each.
use Rattle.std.proofs.Common.{◌≡◌, ◌∙◌, ◌+◌, ◌⊎◌, inl, Result, Ok, Err, IsErrAnd, ℕ, Bool, true, false, List, [], ◌∷◌, ◌++◌, ◌≤◌, ◌<◌, get_or, length, drop, refl, sym, ap, subst}
use Rattle.hmc_schedule.specs.declared.step.Step.{Step}
use Rattle.hmc_schedule.specs.RoundsLeft.{LeftFields, steps_left}
use Rattle.hmc_entries.specs.declared.entry.Entry.{Entry}
use Rattle.hmc_entries.specs.declared.entry.Entry.TheVariants.{Passed, Idle}
use Rattle.hmc_entries.specs.Event.{is_passed}
use Rattle.hmc_journal.specs.Lawful.{has_passed, journal_of}
use Rattle.hmc_entries.specs.Lines.{line_of}
use Rattle.hmc_journal.specs.Setup.{Setup}
use Rattle.hmc_entries.specs.Text.{lines_of}
use Rattle.hmc_journal.proofs.Left.{next_step, one_taken, same_left, all_whole, passed_whole, due_here, over_here, lines-next, begins}
use Rattle.hmc_net.specs.NetState.{NetState}
use Rattle.hmc_net.specs.Stands.{StandsFor, IsNext}
use Rattle.hmc_outside.specs.Lines.{WritesLines, BreaksOff}
use Rattle.hmc_outside.specs.Views.{SinkView}
use Rattle.hmc_outside.proofs.LinesLemmas.{WritesLines-none, WritesLines-after, BreaksOff-after, BreaksOff-after-rest, BreaksOff-more}
use Rattle.hmc_net.specs.Went.{went_of}
use Rattle.hmc_replay.specs.Steps.{IsBefore, IsAfter, TookAll, TookRound, WroteRound, BreaksAt, Stepped, step_passed}
use Rattle.hmc_outside.specs.declared.counts.Failed.{Failed}
use Rattle.hmc_replay.specs.declared.extent.Extent.{Extent}
use Rattle.hmc_replay.specs.declared.extent.Extent.TheVariants.{Whole, Short, Bound}
use Rattle.hmc_replay.proofs.Passes.{passes_is}

-- after it
pub after_step : (net : NetState) (setup : Setup) (past : List Entry) (entry : Entry) (passed : Bool) → StandsFor net setup (entry ∷ past) → net.last ≡ entry → passed ≡ is_passed net.last → IsAfter net setup past passed
after_step net setup past entry passed stands is passed_is =
    record { stands = subst (λ (e : Entry). StandsFor net setup (e ∷ past)) (sym is) stands; passed_is = passed_is }

-- ---- by what is left

-- the step that comes next
pub next_left : (net : NetState) (setup : Setup) (past : List Entry) (step : Step) (left : List Step) → IsBefore net setup past (step ∷ left) → IsNext net setup past step
next_left net setup past step left is = record { stands = is.stands; goes_on = is.leaves.goes_on; step_is = next_step setup past step left is.leaves }

-- one more was taken
pub left_more : (net new : NetState) (setup : Setup) (past : List Entry) (step : Step) (left : List Step) (passed : Bool) → IsBefore net setup past (step ∷ left) → IsAfter new setup past passed → passed ≡ false → IsBefore new setup (new.last ∷ past) left
left_more net new setup past step left passed is after on =
    record { stands = after.stands; leaves = one_taken setup past new.last step left is.leaves (sym after.passed_is ∙ on) }

-- the same steps are left
pub left_same : (net : NetState) (setup : Setup) (past : List Entry) (left other : List Step) → IsBefore net setup past left → left ≡ other → IsBefore net setup past other
left_same net setup past left other is same = record { stands = is.stands; leaves = same_left setup past left other is.leaves same }

-- how a step went says whether it passed
pub went_passed : (entry : Entry) → step_passed (went_of entry) ≡ is_passed entry
went_passed entry = by_kind entry where
  by_kind : (entry : Entry) → step_passed (went_of entry) ≡ is_passed entry
  by_kind (Passed direction flit) = refl
  by_kind (Idle step cause) = refl
  by_kind _ = refl

-- the network stands for the whole journal
pub took_all : (net : NetState) (setup : Setup) (past : List Entry) → IsBefore net setup past [] → TookAll net setup false
took_all net setup past is =
    let whole = all_whole setup past is.stands.lawful is.leaves in record {
      stands = subst (StandsFor net setup) whole is.stands;
      passed_is = sym is.leaves.goes_on ∙ ap has_passed whole ∙ sym (passes_is setup);
      last = λ wrong. absurd (cc);
    }

-- as it does after a landing that passed
whole_after : (net : NetState) (setup : Setup) (past : List Entry) (passed : Bool) → IsAfter net setup past passed → passed ≡ true → net.last ∷ past ≡ journal_of setup
whole_after net setup past passed after is = passed_whole setup past net.last after.stands.lawful (sym after.passed_is ∙ is)

pub took_passed : (net : NetState) (setup : Setup) (past : List Entry) (passed : Bool) → IsAfter net setup past passed → passed ≡ true → TookAll net setup true
took_passed net setup past passed after is =
    let whole = whole_after net setup past passed after is in record {
      stands = subst (StandsFor net setup) whole after.stands;
      passed_is = sym is ∙ after.passed_is ∙ ap has_passed whole ∙ sym (passes_is setup);
      last = λ _. (past, sym whole);
    }

-- the step at hand comes next; these are left after it
pub left_due : (net : NetState) (setup : Setup) (past : List Entry) (rounds new : LeftFields) (round : List Step) (k : ℕ) (d due : Step) → k < length round → ((rest : List Step) → steps_left rounds (get_or round k d ∷ rest) ≡ due ∷ steps_left new rest) → IsBefore net setup past (steps_left rounds (drop k round)) → IsBefore net setup past (due ∷ steps_left new (drop (k + 1) round))
left_due net setup past rounds new round k d due small is here = record { stands = here.stands; leaves = due_here setup past rounds new round k d due small is here.leaves }

-- none of the round is left
pub left_over : (net : NetState) (setup : Setup) (past : List Entry) (rounds : LeftFields) (round : List Step) (k : ℕ) → length round ≤ k → IsBefore net setup past (steps_left rounds (drop k round)) → IsBefore net setup past (steps_left rounds [])
left_over net setup past rounds round k le here = record { stands = here.stands; leaves = over_here setup past rounds round k le here.leaves }

-- by whether a landing passed in it
pub round_took : (net : NetState) (setup : Setup) (left : List Step) (passed told : Bool) → passed ≡ told → TookRound passed net setup left → TookRound told net setup left
round_took net setup left passed told is took = subst (λ (p : Bool). TookRound p net setup left) is took

-- none is left
pub all_took : (net : NetState) (setup : Setup) (left : List Step) (past : List Entry) → IsBefore net setup past left → left ≡ [] → TookAll net setup false
all_took net setup left past is none = took_all net setup past (left_same net setup past left [] is none)

-- ---- the lines

-- none was written
pub lines-none : (a : SinkView) → WritesLines a a (lines_of [])
unfolding lines_of
lines-none a = WritesLines-none a

-- the line of one more entry was
pub lines_more : (a b c : SinkView) (entry : Entry) (past : List Entry) → WritesLines a b (lines_of past) → WritesLines b c (line_of entry ∷ []) → WritesLines a c (lines_of (entry ∷ past))
lines_more a b c entry past before here = subst (WritesLines a c) (sym (lines-next entry past)) (WritesLines-after a b c (lines_of past) (line_of entry ∷ []) before here)

-- the lines of the whole journal were
pub wrote_passed : (net : NetState) (setup : Setup) (past : List Entry) (passed : Bool) (a b : SinkView) → IsAfter net setup past passed → passed ≡ true → WritesLines a b (lines_of (net.last ∷ past)) → WritesLines a b (lines_of (journal_of setup))
wrote_passed net setup past passed a b after is written = subst (λ (j : List Entry). WritesLines a b (lines_of j)) (whole_after net setup past passed after is) written

pub all_wrote : (net : NetState) (setup : Setup) (left : List Step) (past : List Entry) (a b : SinkView) → IsBefore net setup past left → left ≡ [] → WritesLines a b (lines_of past) → TookAll net setup false × WritesLines a b (lines_of (journal_of setup))
all_wrote net setup left past a b is none written =
    let end = left_same net setup past left [] is none in
    (took_all net setup past end, subst (λ (j : List Entry). WritesLines a b (lines_of j)) (all_whole setup past end.stands.lawful end.leaves) written)

-- the same of a round, by its result
pub round_wrote : (net : NetState) (setup : Setup) (left : List Step) (a b : SinkView) (result told : Result Bool Failed) → result ≡ told → WroteRound result net setup left a b → WroteRound told net setup left a b
round_wrote net setup left a b result told is wrote = subst (λ (r : Result Bool Failed). WroteRound r net setup left a b) is wrote

-- of one line none is left after it
one_line : (line : List ℕ) (whole : List (List ℕ)) (broken : List ℕ) (rest : List (List ℕ)) → line ∷ [] ≡ whole ++ broken ∷ rest → rest ≡ []
one_line line [] broken rest is = cc
one_line line (first ∷ []) broken rest is = absurd (cc)
one_line line (first ∷ second ∷ whole) broken rest is = absurd (cc)

-- the line of a step was broken off
pub broken_at : (net : NetState) (setup : Setup) (past : List Entry) (passed : Bool) (a b c : SinkView) → IsAfter net setup past passed → WritesLines a b (lines_of past) → BreaksOff b c (line_of net.last ∷ []) → BreaksAt net setup a c
broken_at net setup past passed a b c after written broken =
    let here = BreaksOff-after a b c (lines_of past) (line_of net.last ∷ []) written broken in
    let none = BreaksOff-after-rest a b c (lines_of past) (line_of net.last ∷ []) written broken ∙ one_line (line_of net.last) broken.whole broken.line broken.rest broken.parts in record {
      past = net.last ∷ past;
      stands = after.stands;
      broken = record {
        whole = here.whole;
        line = here.line;
        rest = here.rest;
        parts = lines-next net.last past ∙ here.parts;
        prefix = here.prefix;
        cut = here.cut;
        halves = here.halves;
        pieces = here.pieces;
        bytes = here.bytes;
        writes = here.writes;
        finishes = here.finishes;
        last = here.last;
        failed = here.failed;
        faults = here.faults;
      };
      last = none;
    }

-- and so the lines of the whole journal were
pub broken_all : (net : NetState) (setup : Setup) (a b : SinkView) → BreaksAt net setup a b → BreaksOff a b (lines_of (journal_of setup))
broken_all net setup a b broken =
    let later = begins setup broken.past broken.stands.lawful in subst (BreaksOff a b) (sym later.1) (BreaksOff-more a b (lines_of broken.past) later.0 broken.broken)

-- ---- how far the network came, by the result

-- a call failed
pub stepped_err : (net : NetState) (setup : Setup) (a b : SinkView) (error : Failed) (result : Result Bool Failed) → IsErrAnd result (λ told. told ≡ error) → StandsFor net setup (journal_of setup) ⊎ BreaksAt net setup a b → Stepped result Whole net setup a b
stepped_err net setup a b error (Ok passed) told far = absurd told
stepped_err net setup a b error (Err cause) told far = far

-- the error is forwarded as it is
pub stepped_on : (extent : Extent) (net : NetState) (setup : Setup) (a b : SinkView) (error : Failed) (result : Result Bool Failed) → IsErrAnd result (λ told. told ≡ error) → Stepped (Err error) extent net setup a b → Stepped result extent net setup a b
stepped_on extent net setup a b error (Ok passed) told far = absurd told
stepped_on Whole net setup a b error (Err cause) told far = far
stepped_on Short net setup a b error (Err cause) told far = far
stepped_on Bound net setup a b error (Err cause) told far = far

-- the finish failed
pub stepped_late : (extent : Extent) (net : NetState) (setup : Setup) (a b : SinkView) (error : Failed) (result : Result Bool Failed) → IsErrAnd result (λ told. told ≡ error) → StandsFor net setup (journal_of setup) → Stepped result extent net setup a b
stepped_late extent net setup a b error (Ok passed) told far = absurd told
stepped_late Whole net setup a b error (Err cause) told far = inl far
stepped_late Short net setup a b error (Err cause) told far = far
stepped_late Bound net setup a b error (Err cause) told far = far
