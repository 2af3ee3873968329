-- Printed steps are read line by line.
use Rattle.std.proofs.Common.{◌≡◌, ◌∙◌, ◌≤◌, ℕ, ◌+◌, Ok, None, List, [], ◌∷◌, ◌++◌, length, refl, sym, ap, arith, append_assoc, append-nil, length-append}
use Rattle.std.specs.Prelude.{Result, nat_le, true}
use Rattle.std.specs.List.{All, flat_map}
use Rattle.std.proofs.lemmas.Bool.Decides.{nat_tests}
use Rattle.std.proofs.lemmas.Grind.{flat_map-append}
use Rattle.std.proofs.lemmas.List.Elements.{All-head, All-tail}
use Rattle.hmc_codes.specs.Limits.{most_steps}
use Rattle.hmc_codes.specs.Text.{spaced_words}
use Rattle.hmc_text.specs.InTurn.{after_lines, at_line, next_number}
use Rattle.hmc_text.specs.Lines.{lines_of}
use Rattle.hmc_text.specs.Reading.{◌>>=◌}
use Rattle.hmc_text.specs.Words.{words_of}
use Rattle.hmc_text.proofs.InTurnLemmas.{after_lines-ok}
use Rattle.hmc_script.proofs.WordsText.{words_of-spaced, lines_of-line}
use Rattle.hmc_schedule.specs.declared.fault.ScheduleKind.{ScheduleKind}
use Rattle.hmc_schedule.specs.declared.meaning.Meaning.{Meaning}
use Rattle.hmc_schedule.specs.declared.step.Step.{Step}
use Rattle.hmc_schedule.specs.Meaning.{meaning_of}
use Rattle.hmc_schedule.specs.Plan.{PlanFields}
use Rattle.hmc_schedule.specs.Schedule.{Progress, add_steps, add_one, after_meaning, after_line, schedule_of}
use Rattle.hmc_step_text.specs.Laws.{IsPrintable, PrintedStepsAreRead}
use Rattle.hmc_step_text.specs.Text.{written_words, step_line, schedule_text}
use Rattle.hmc_step_text.proofs.StepWords.{meaning_of-step, step_are_words}

-- these steps were read, and no noise
abbrev so_far : List Step → Progress
so_far steps = record { steps = steps; noise = None }

room_for : (steps : List Step) (step : Step) → length steps + 1 ≤ most_steps → add_one (so_far steps) step ≡ Ok (so_far (steps ++ step ∷ []))
unfolding add_one add_steps
room_for steps step few =
    let fits : nat_le (length steps + 1) most_steps ≡ true = grind (arith, nat_tests) in
    rw fits refl

-- a written line is read as its step
step_does : (plan : PlanFields) (number : ℕ) (steps : List Step) (step : Step) (rest : List ℕ) → IsPrintable plan step → length steps + 1 ≤ most_steps →
    after_lines (after_line plan) number (so_far steps) (lines_of (step_line step ++ rest)) ≡ after_lines (after_line plan) (next_number number) (so_far (steps ++ step ∷ [])) (lines_of rest)
unfolding after_line
step_does plan number steps step rest is few =
    let are = step_are_words step is.bytes is.mask in
    let says = meaning_of-step plan step is.bytes is.within is.mask in
    let said : after_line plan (so_far steps) (spaced_words (written_words step)) ≡ Ok (so_far (steps ++ step ∷ [])) =
    ap (λ ws. meaning_of plan ws >>= after_meaning plan (so_far steps)) (words_of-spaced (written_words step) are) ∙ ap (λ (r : Result Meaning ScheduleKind). r >>= after_meaning plan (so_far steps)) says ∙ room_for steps step few in
    ap (after_lines (after_line plan) number (so_far steps)) (lines_of-line (written_words step) rest are)
    ∙ after_lines-ok (after_line plan) number (so_far steps) (so_far (steps ++ step ∷ [])) (spaced_words (written_words step)) (lines_of rest) (ap (at_line number) said)

-- after the last line feed nothing is stated
end_does : (plan : PlanFields) (number : ℕ) (progress : Progress) → after_lines (after_line plan) number progress (lines_of []) ≡ Ok progress
unfolding lines_of words_of meaning_of after_line after_lines
end_does plan number progress = refl

-- so are all of them
steps_do : (plan : PlanFields) (number : ℕ) (read steps : List Step) → All (IsPrintable plan) steps → length read + length steps ≤ most_steps →
    after_lines (after_line plan) number (so_far read) (lines_of (schedule_text steps)) ≡ Ok (so_far (read ++ steps))
unfolding schedule_text
steps_do plan number read [] all few =
    end_does plan number (so_far read) ∙ ap (λ (l : List Step). Ok (so_far l)) (sym (append-nil read))
steps_do plan number read (step ∷ steps) all few =
    step_does plan number read step (schedule_text steps) (All-head (IsPrintable plan) step steps all) (omega arith)
    ∙ steps_do plan (next_number number) (read ++ step ∷ []) steps (All-tail (IsPrintable plan) step steps all) (omega (arith, length-append read (step ∷ [])))
    ∙ ap (λ (l : List Step). Ok (so_far l)) (append_assoc read (step ∷ []) steps)

-- what is printed is read again
pub printed_steps_are_read : PrintedStepsAreRead
unfolding schedule_of
printed_steps_are_read plan steps all few =
    ap (λ (r : Result Progress (ℕ × ScheduleKind)). r >>= (λ progress. Ok progress.steps)) (steps_do plan 1 [] steps all (omega (arith, few)))

-- one step more
pub schedule_text-[] : schedule_text [] ≡ []
unfolding schedule_text
schedule_text-[] = refl

pub schedule_text-more : (steps : List Step) (step : Step) → schedule_text (steps ++ step ∷ []) ≡ schedule_text steps ++ step_line step
unfolding schedule_text
schedule_text-more steps step = flat_map-append step_line steps (step ∷ []) ∙ ap (λ (l : List ℕ). flat_map step_line steps ++ l) (append-nil (step_line step))
