-- What a line of a schedule states.
use Rattle.std.specs.Prelude.{ℕ, List, length, codes, Some, None, IfSome, Result, Ok, if◌then◌else◌}
use Rattle.std.specs.Str.{bytes_eq}
use Rattle.hmc_text.specs.Reading.{◌>>=◌, or_fault, next_word, no_word}
use Rattle.hmc_text.specs.Words.{is_passed_over}
use Rattle.hmc_schedule.specs.declared.fault.ScheduleKind.{ScheduleKind}
use Rattle.hmc_schedule.specs.declared.fault.ScheduleKind.TheVariants as kinds
use Rattle.hmc_schedule.specs.declared.meaning.Meaning.{Meaning}
use Rattle.hmc_schedule.specs.declared.meaning.Meaning.TheVariants.{Nothing, One, Rounds, Noisy}
use Rattle.hmc_schedule.specs.declared.step.Step.{Step}
use Rattle.hmc_schedule.specs.declared.step.Step.TheVariants as steps
use Rattle.hmc_schedule.specs.declared.verb.Verb.{Verb}
use Rattle.hmc_schedule.specs.declared.verb.Verb.TheVariants.{Give, Send, Land, Shift, Spread, Bank, Registers, Lift, Take, Through, Unlock, Retire}
use Rattle.hmc_schedule.specs.Operands.{index_word, port_words, vault_words, lift_word, mask_words, due_mask, count_word}
use Rattle.hmc_schedule.specs.Noise.{IsNoise}
use Rattle.hmc_schedule.specs.Plan.{PlanFields, IsWorking, slots, vaults_at, banks_at}
use Rattle.hmc_schedule.specs.Verb.{verb_of}

-- a step with one number below the limit
unfoldable pub numbered_step : (ℕ → Step) → ℕ → List (List ℕ)
    → Result (Step × List (List ℕ)) ScheduleKind
numbered_step step limit words = do
  number ← index_word limit words
  Ok (step number.0, number.1)

-- a direction, and maybe a mask
unfoldable pub land_of : PlanFields → List (List ℕ) → Result (Step × List (List ℕ)) ScheduleKind
land_of plan words = do
  direction ← index_word plan.directions words
  mask ← mask_words direction.1
  Ok (steps.Land direction.0 mask.0, mask.1)

-- a cube and its port
unfoldable pub port_step : (ℕ → ℕ → Step) → PlanFields → List (List ℕ)
    → Result (Step × List (List ℕ)) ScheduleKind
port_step step plan words = do
  port ← port_words plan words
  Ok (step port.0 port.1, port.2)

-- a cube and its vault
unfoldable pub spread_of : PlanFields → List (List ℕ) → Result (Step × List (List ℕ)) ScheduleKind
spread_of plan words = do
  vault ← vault_words plan words
  Ok (steps.Spread vault.0 vault.1, vault.2)

-- a cube, its vault and that vault's bank
unfoldable pub bank_of : PlanFields → List (List ℕ) → Result (Step × List (List ℕ)) ScheduleKind
bank_of plan words = do
  vault ← vault_words plan words
  bank ← index_word (banks_at plan vault.0) vault.2
  Ok (steps.Bank vault.0 vault.1 bank.0, bank.1)

-- a cube and a queue of its answers
unfoldable pub lift_of : PlanFields → List (List ℕ) → Result (Step × List (List ℕ)) ScheduleKind
lift_of plan words = do
  cube ← index_word (length plan.cubes) words
  lift ← lift_word (vaults_at plan cube.0) cube.1
  Ok (steps.Lift cube.0 lift.0, lift.1)

-- a step of this kind, and the words after it
unfoldable pub step_of : PlanFields → Verb → List (List ℕ)
    → Result (Step × List (List ℕ)) ScheduleKind
step_of plan Give words = numbered_step steps.Give plan.hosts words
step_of plan Send words = numbered_step steps.Send plan.directions words
step_of plan Land words = land_of plan words
step_of plan Shift words = port_step steps.Shift plan words
step_of plan Spread words = spread_of plan words
step_of plan Bank words = bank_of plan words
step_of plan Registers words = numbered_step steps.Registers (length plan.cubes) words
step_of plan Lift words = lift_of plan words
step_of plan Take words = numbered_step steps.Take plan.hosts words
step_of plan Through words = port_step steps.Through plan words
step_of plan Unlock words = numbered_step steps.Unlock plan.directions words
step_of plan Retire words = numbered_step steps.Retire slots words

-- one step, after which no word follows
unfoldable pub one_of : PlanFields → List ℕ → List (List ℕ) → Result Meaning ScheduleKind
one_of plan first words = do
  verb ← or_fault kinds.Step (verb_of first)
  step ← step_of plan verb words
  end ← no_word kinds.Words step.1
  Ok (One step.0)

-- some rounds, after which no word follows
unfoldable pub rounds_meaning : List (List ℕ) → Result Meaning ScheduleKind
rounds_meaning words = do
  count ← count_word words
  end ← no_word kinds.Words count.1
  Ok (Rounds count.0)

-- the end of noise, after which no word follows
unfoldable pub noise_end : List (List ℕ) → Result Meaning ScheduleKind
noise_end words = do
  end ← no_word kinds.Words words
  Ok (Noisy None)

-- noise that begins: its number and its mask, after which no word follows
unfoldable pub noise_begin : List (List ℕ) → Result Meaning ScheduleKind
noise_begin words = do
  every ← count_word words
  mask ← due_mask every.1
  end ← no_word kinds.Words mask.1
  Ok (Noisy (Some (record { every = every.0; mask = mask.0; count = 0 })))

-- noise ends, or begins with the count 0
unfoldable pub noise_meaning : List (List ℕ) → Result Meaning ScheduleKind
noise_meaning words = do
  first ← next_word kinds.Words words
  if bytes_eq first.0 (codes "off") then noise_end first.1 else noise_begin words

-- noise, or one step
unfoldable pub noise_or_one : PlanFields → List ℕ → List (List ℕ) → Result Meaning ScheduleKind
noise_or_one plan first words =
    if bytes_eq first (codes "noise") then noise_meaning words else one_of plan first words

-- rounds, noise, or one step
unfoldable pub statement_of : PlanFields → List (List ℕ) → Result Meaning ScheduleKind
statement_of plan words = do
  first ← next_word kinds.Words words
  if bytes_eq first.0 (codes "round") then rounds_meaning first.1
      else noise_or_one plan first.0 first.1

-- what the words of a line state
unfoldable pub meaning_of : PlanFields → List (List ℕ) → Result Meaning ScheduleKind
meaning_of plan words = if is_passed_over words then Ok Nothing else statement_of plan words

-- what the meaning of every line keeps: a step is one of the plan, and noise counted nothing yet
abbrev pub IsMeaning : PlanFields → Meaning → Type 0
IsMeaning plan (One step) = IsWorking plan step
IsMeaning plan (Noisy noise) = IfSome noise (IsNoise 0)
IsMeaning plan meaning = Unit {0}
