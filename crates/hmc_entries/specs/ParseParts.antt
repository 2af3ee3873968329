-- What several words of an entry line are read as: a unit, an outcome, an answer, a step.
use Rattle.std.specs.Prelude.{ℕ, List, codes, Option, Some, None, if◌then◌else◌}
use Rattle.std.specs.Str.{bytes_eq}
use Rattle.hmc_codes.specs.Flit.{zero_flit}
use Rattle.hmc_codes.specs.declared.answer.Answer.{Answer}
use Rattle.hmc_codes.specs.declared.answer.Answer.TheVariants as answers
use Rattle.hmc_codes.specs.declared.unit.Unit.{Unit}
use Rattle.hmc_codes.specs.declared.unit.Unit.TheVariants as units
use Rattle.hmc_packet.specs.declared.outcome.Outcome.{Outcome}
use Rattle.hmc_schedule.specs.declared.step.Step.{Step}
use Rattle.hmc_schedule.specs.declared.step.Step.TheVariants as steps
use Rattle.hmc_text.specs.Words.{first_word}
use Rattle.hmc_words.specs.Taking.{◌>>=◌, take_number}
use Rattle.hmc_entries.specs.ParseWords.{byte_of, outcome_named, short_outcomes, aborted_outcomes, ran_outcomes, lift_of, flag_of, returned_of, value_of}

-- a bank of this vault, or the registers where the vault's word is `r`
unfoldable pub take_bank : ℕ → List ℕ → List (List ℕ) → Option (Unit × List (List ℕ))
take_bank cube word words = do
  vault ← byte_of word
  bank ← take_number 256 words
  Some (units.Bank cube vault bank.0, bank.1)

-- a cube, and then a vault and a bank, or `r` for the registers
unfoldable pub take_unit : List (List ℕ) → Option (Unit × List (List ℕ))
take_unit words = do
  cube ← take_number 256 words
  second ← first_word cube.1
  if bytes_eq second.0 (codes "r") then Some (units.Registers cube.0, second.1)
      else take_bank cube.0 second.0 second.1

-- one of these outcomes, by the next word
unfoldable pub outcome_among : List Outcome → List (List ℕ) → Option Outcome
outcome_among outcomes words = do
  first ← first_word words
  outcome_named outcomes first.0

-- an outcome, of one word or two
unfoldable pub outcome_in : List (List ℕ) → Option Outcome
outcome_in words = do
  first ← first_word words
  if bytes_eq first.0 (codes "aborted") then outcome_among aborted_outcomes first.1
      else if bytes_eq first.0 (codes "ran") then outcome_among ran_outcomes first.1
      else outcome_named short_outcomes first.0

-- a flag
unfoldable pub done_in : List (List ℕ) → Option Answer
done_in words = do
  first ← first_word words
  flag ← flag_of first.0
  Some (answers.Done flag)

-- a flag, and the bytes that were read
unfoldable pub read_in : List (List ℕ) → Option Answer
read_in words = do
  first ← first_word words
  flag ← flag_of first.0
  second ← first_word first.1
  payload ← returned_of second.0
  Some (answers.Read flag payload)

-- the value of a register
unfoldable pub register_in : List (List ℕ) → Option Answer
register_in words = do
  first ← first_word words
  value ← value_of first.0
  Some (answers.Register value)

-- an error that a response can carry
unfoldable pub refused_in : List (List ℕ) → Option Answer
refused_in words = do
  errstat ← take_number 128 words
  Some (answers.Refused errstat.0)

-- the rest of an answer after its first word
unfoldable pub answer_after : List ℕ → List (List ℕ) → Option Answer
answer_after word words =
    if bytes_eq word (codes "silent") then Some answers.Silent
    else if bytes_eq word (codes "stored") then Some answers.Stored
    else if bytes_eq word (codes "done") then done_in words
    else if bytes_eq word (codes "read") then read_in words
    else if bytes_eq word (codes "register") then register_in words
    else if bytes_eq word (codes "error") then refused_in words else None

-- an answer
unfoldable pub answer_in : List (List ℕ) → Option Answer
answer_in words = do
  first ← first_word words
  answer_after first.0 first.1

-- a step of one number
unfoldable pub numbered_step : List ℕ → ℕ → Option Step
numbered_step word number =
    if bytes_eq word (codes "give") then Some (steps.Give number)
    else if bytes_eq word (codes "send") then Some (steps.Send number)
    else if bytes_eq word (codes "land") then Some (steps.Land number zero_flit)
    else if bytes_eq word (codes "registers") then Some (steps.Registers number)
    else if bytes_eq word (codes "take") then Some (steps.Take number)
    else if bytes_eq word (codes "unlock") then Some (steps.Unlock number)
    else if bytes_eq word (codes "retire") then Some (steps.Retire number) else None

-- a step of two numbers
unfoldable pub pair_step : List ℕ → ℕ → ℕ → Option Step
pair_step word first second =
    if bytes_eq word (codes "shift") then Some (steps.Shift first second)
    else if bytes_eq word (codes "spread") then Some (steps.Spread first second)
    else if bytes_eq word (codes "through") then Some (steps.Through first second) else None

-- a cube, a vault and its bank
unfoldable pub take_bank_step : ℕ → List (List ℕ) → Option (Step × List (List ℕ))
take_bank_step cube words = do
  vault ← take_number 256 words
  bank ← take_number 256 vault.1
  Some (steps.Bank cube vault.0 bank.0, bank.1)

-- a cube, and where its answer comes from
unfoldable pub take_lift_step : ℕ → List (List ℕ) → Option (Step × List (List ℕ))
take_lift_step cube words = do
  first ← first_word words
  from ← lift_of first.0
  Some (steps.Lift cube from, first.1)

-- a cube, and a port or a vault
unfoldable pub take_pair_step : List ℕ → ℕ → List (List ℕ) → Option (Step × List (List ℕ))
take_pair_step word first words = do
  second ← take_number 256 words
  step ← pair_step word first second.0
  Some (step, second.1)

-- a step with more than one number
unfoldable pub take_long_step : List ℕ → ℕ → List (List ℕ) → Option (Step × List (List ℕ))
take_long_step word number words =
    if bytes_eq word (codes "bank") then take_bank_step number words
    else if bytes_eq word (codes "lift") then take_lift_step number words
    else take_pair_step word number words

-- the step of one number, if there is one, or else another
abbrev pub step_or : Option Step → ℕ → List ℕ → List (List ℕ) → Option (Step × List (List ℕ))
step_or (Some step) number word words = Some (step, words)
step_or None number word words = take_long_step word number words

-- a step; its mask isn't written, and is read as zero
unfoldable pub take_step : List (List ℕ) → Option (Step × List (List ℕ))
take_step words = do
  first ← first_word words
  number ← take_number 256 first.1
  step_or (numbered_step first.0 number.0) number.0 first.0 number.1
