-- The words after the first word of a line, from left to right.
use Rattle.std.specs.Prelude.{ℕ, ◌+◌, ◌==◌, List, [], ◌∷◌, length, codes, Some, None, Result, Ok, if◌then◌else◌}
use Rattle.std.specs.Result.{result_ok}
use Rattle.std.specs.Str.{bytes_eq}
use Rattle.hex.specs.Hex.{decode_sized}
use Rattle.hmc_codes.specs.Limits.{ports, most_steps}
use Rattle.hmc_codes.specs.declared.lift.Lift.{Lift}
use Rattle.hmc_codes.specs.declared.lift.Lift.TheVariants as lifts
use Rattle.hmc_text.specs.Reading.{◌>>=◌, or_fault, next_word, number_word}
use Rattle.hmc_schedule.specs.declared.fault.ScheduleKind.{ScheduleKind}
use Rattle.hmc_schedule.specs.declared.fault.ScheduleKind.TheVariants as kinds
use Rattle.hmc_schedule.specs.Plan.{PlanFields, is_joined, vaults_at}
use Rattle.hmc_codes.specs.Flit.{zero_flit}

-- a number below the limit: the word is missing, no number, or out of range
abbrev pub index_word : ℕ → List (List ℕ) → Result (ℕ × List (List ℕ)) ScheduleKind
index_word limit words = number_word kinds.Words kinds.Number kinds.Range limit words

-- a cube and one of its joined ports
unfoldable pub port_words : PlanFields → List (List ℕ) → Result (ℕ × ℕ × List (List ℕ)) ScheduleKind
port_words plan words = do
  cube ← index_word (length plan.cubes) words
  port ← index_word ports cube.1
  joined ← or_fault kinds.Range (if is_joined plan cube.0 port.0 then Some port.0 else None)
  Ok (cube.0, joined, port.1)

-- a cube and one of its vaults
unfoldable pub vault_words : PlanFields → List (List ℕ)
    → Result (ℕ × ℕ × List (List ℕ)) ScheduleKind
vault_words plan words = do
  cube ← index_word (length plan.cubes) words
  vault ← index_word (vaults_at plan cube.0) cube.1
  Ok (cube.0, vault.0, vault.1)

-- one of so many vaults
unfoldable pub vault_lift : ℕ → List (List ℕ) → Result (Lift × List (List ℕ)) ScheduleKind
vault_lift vaults words = do
  vault ← index_word vaults words
  Ok (lifts.Vault vault.0, vault.1)

-- a vault, or `r` for the registers
unfoldable pub lift_word : ℕ → List (List ℕ) → Result (Lift × List (List ℕ)) ScheduleKind
lift_word vaults words = do
  first ← next_word kinds.Words words
  if bytes_eq first.0 (codes "r") then Ok (lifts.Registers, first.1) else vault_lift vaults words

-- two hexadecimal digits for each byte of a flit
unfoldable pub mask_word : List ℕ → Result (List ℕ) ScheduleKind
mask_word word = or_fault kinds.Mask (result_ok (decode_sized word 16))

-- a mask, which is zero where there is no word
unfoldable pub mask_words : List (List ℕ) → Result (List ℕ × List (List ℕ)) ScheduleKind
mask_words [] = Ok (zero_flit, [])
mask_words (word ∷ words) = do
  mask ← mask_word word
  Ok (mask, words)

-- a mask that may not be missing
unfoldable pub due_mask : List (List ℕ) → Result (List ℕ × List (List ℕ)) ScheduleKind
due_mask words = do
  first ← next_word kinds.Words words
  mask ← mask_word first.0
  Ok (mask, first.1)

-- a number of rounds or of landings, which is 1 to that of the steps of a schedule
unfoldable pub count_word : List (List ℕ) → Result (ℕ × List (List ℕ)) ScheduleKind
count_word words = do
  count ← index_word (most_steps + 1) words
  some ← or_fault kinds.Range (if count.0 == 0 then None else Some count.0)
  Ok (some, count.1)
