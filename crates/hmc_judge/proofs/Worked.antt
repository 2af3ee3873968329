-- The walk, computed on small journals: two hosts and one block of one cube.
use Rattle.std.proofs.Common.{◌≡◌, ℕ, Bool, true, false, Option, Some, None, List, [], ◌∷◌, replicate, refl}
use Rattle.std.specs.Prelude.{is_some}
use Rattle.hmc_codes.specs.declared.answer.Answer.TheVariants as answers
use Rattle.hmc_codes.specs.declared.command.Command.TheVariants as commands
use Rattle.hmc_codes.specs.declared.unit.Unit.{Unit as RequestUnit}
use Rattle.hmc_codes.specs.declared.unit.Unit.TheVariants as units
use Rattle.hmc_codes.specs.Bytes.{padded_bytes}
use Rattle.hmc_codes.specs.Request.{RequestFields}
use Rattle.hmc_codes.specs.Table.{table_line}
use Rattle.hmc_registers.specs.Registers.{opening_registers}
use Rattle.hmc_atomics.specs.Act.{acted_of}
use Rattle.hmc_atomics.specs.Effects.{effect_of}
use Rattle.hmc_atomics.specs.Operations.{atomic_of}
use Rattle.hmc_serial.specs.Actions.{action_of}
use Rattle.hmc_serial.specs.Cube.{opening}
use Rattle.hmc_serial.specs.Errors.{memory_error}
use Rattle.hmc_serial.specs.Machine.{State, opening_state, apply, answer_to}
use Rattle.hmc_serial.specs.Perform.{perform_on}
use Rattle.hmc_serial.specs.Unit.{unit_of}
use Rattle.hmc_entries.specs.declared.entry.Entry.{Entry}
use Rattle.hmc_entries.specs.declared.entry.Entry.TheVariants.{Executed, Gave, Took}
use Rattle.hmc_search.specs.Alone.{alone}
use Rattle.hmc_judge.specs.Picked.{first_out}
use Rattle.hmc_search.specs.declared.waiting.Waiting.{Waiting}
use Rattle.hmc_judge.specs.Walk.{left_ready, left_waiting, same_waiting, walk_step, walked}

abbrev machine : State
machine = opening_state (record { vault_bits = 0; bank_bits = 0; rows = 1; block = 32 } ∷ []) []

-- sixteen bytes of one value
abbrev bytes : ℕ → List ℕ
bytes n = n ∷ replicate 15 0

abbrev bank : RequestUnit
bank = units.Bank 0 0 0

abbrev write : RequestFields
write = record { command = commands.Wr16; cube = 0; address = 16; payload = bytes 3 }

abbrev swap : RequestFields
swap = record { command = commands.Swap16; cube = 0; address = 16; payload = bytes 2 }

abbrev read : RequestFields
read = record { command = commands.Rd16; cube = 0; address = 16; payload = [] }

-- the walk goes to the end
abbrev goes : List Entry → Bool
goes journal = is_some (walked (alone (record {
  vault_bits = 0;
  bank_bits = 0;
  rows = 1;
  block = 32;
} ∷ [])) machine journal)

-- one swaps, the other writes: the swap was first and saw zeros
swap_first : goes (Took 0 1 (answers.Read false (bytes 0)) ∷ Took 1 1 (answers.Done false)
    ∷ Executed bank 1 (Some 1) write (answers.Done false)
    ∷ Executed bank 0 (Some 1) swap (answers.Read false (bytes 0))
    ∷ Gave 1 (Some 1) false write ∷ Gave 0 (Some 1) false swap ∷ []) ≡ true
unfolding walked walk_step left_waiting left_ready first_out opening_state opening opening_registers apply answer_to perform_on action_of atomic_of memory_error acted_of effect_of table_line unit_of padded_bytes
swap_first = refl

-- the write was first, and the swap saw it
write_first : goes (Took 0 1 (answers.Read false (bytes 3)) ∷ Took 1 1 (answers.Done false)
    ∷ Executed bank 0 (Some 1) swap (answers.Read false (bytes 3))
    ∷ Executed bank 1 (Some 1) write (answers.Done false)
    ∷ Gave 1 (Some 1) false write ∷ Gave 0 (Some 1) false swap ∷ []) ≡ true
unfolding walked walk_step left_waiting left_ready first_out opening_state opening opening_registers apply answer_to perform_on action_of atomic_of memory_error acted_of effect_of table_line unit_of padded_bytes
write_first = refl

-- the machine doesn't give this answer
wrong_answer : goes (Executed bank 0 (Some 1) swap (answers.Read false (bytes 3))
    ∷ Gave 1 (Some 1) false write ∷ Gave 0 (Some 1) false swap ∷ []) ≡ false
unfolding walked walk_step left_waiting left_ready first_out opening_state opening opening_registers apply answer_to perform_on action_of atomic_of memory_error acted_of effect_of table_line unit_of padded_bytes
wrong_answer = refl

-- an answer is taken that was not given
other_answer : goes (Took 0 1 (answers.Read false (bytes 3))
    ∷ Executed bank 0 (Some 1) swap (answers.Read false (bytes 0))
    ∷ Gave 0 (Some 1) false swap ∷ []) ≡ false
unfolding walked walk_step left_waiting left_ready first_out opening_state opening opening_registers apply answer_to perform_on action_of atomic_of memory_error acted_of effect_of table_line unit_of padded_bytes
other_answer = refl

-- an answer is taken before the execution
too_early : goes (Executed bank 0 (Some 1) swap (answers.Read false (bytes 0))
    ∷ Took 0 1 (answers.Read false (bytes 0)) ∷ Gave 0 (Some 1) false swap ∷ []) ≡ false
unfolding walked walk_step left_waiting left_ready first_out opening_state opening opening_registers apply answer_to perform_on action_of atomic_of memory_error acted_of effect_of table_line unit_of padded_bytes
too_early = refl

-- a host's second request to a bank is executed before its first
second_first : goes (Executed bank 0 (Some 2) read (answers.Read false (bytes 0))
    ∷ Gave 0 (Some 2) false read ∷ Gave 0 (Some 1) false write ∷ []) ≡ false
unfolding walked walk_step left_waiting left_ready first_out opening_state opening opening_registers apply answer_to perform_on action_of atomic_of memory_error acted_of effect_of table_line unit_of padded_bytes
second_first = refl

-- another host's may be
other_host : goes (Executed bank 1 (Some 2) read (answers.Read false (bytes 0))
    ∷ Gave 1 (Some 2) false read ∷ Gave 0 (Some 1) false write ∷ []) ≡ true
unfolding walked walk_step left_waiting left_ready first_out opening_state opening opening_registers apply answer_to perform_on action_of atomic_of memory_error acted_of effect_of table_line unit_of padded_bytes
other_host = refl

-- no unit executes what no host gave, nor a request twice
never_given : goes (Executed bank 1 (Some 1) write (answers.Done false)
    ∷ Executed bank 1 (Some 1) write (answers.Done false) ∷ Gave 1 (Some 1) false write ∷ []) ≡ false
unfolding walked walk_step left_waiting left_ready first_out opening_state opening opening_registers apply answer_to perform_on action_of atomic_of memory_error acted_of effect_of table_line unit_of padded_bytes
never_given = refl

-- nor another unit
other_unit : goes (Executed (units.Registers 0) 1 (Some 1) write (answers.Done false)
    ∷ Gave 1 (Some 1) false write ∷ []) ≡ false
unfolding walked walk_step left_waiting left_ready first_out opening_state opening opening_registers apply answer_to perform_on action_of atomic_of memory_error acted_of effect_of table_line unit_of padded_bytes
other_unit = refl

-- a poisoned request is never executed
poisoned_write : goes (Executed bank 1 None write (answers.Done false)
    ∷ Gave 1 None true write ∷ []) ≡ false
unfolding walked walk_step left_waiting left_ready first_out opening_state opening opening_registers apply answer_to perform_on action_of atomic_of memory_error acted_of effect_of table_line unit_of padded_bytes
poisoned_write = refl

-- A request is the same only where its host, its tag and all four values are.
abbrev waits : (host : ℕ) → Option ℕ → RequestFields → Waiting
waits host tag request = record { host = host; tag = tag; request = request }

all_same : same_waiting (waits 0 (Some 1) write) (waits 0 (Some 1) write) ≡ true
unfolding table_line
all_same = refl

no_tags : same_waiting (waits 0 None write) (waits 0 None write) ≡ true
unfolding table_line
no_tags = refl

one_tag : same_waiting (waits 0 None write) (waits 0 (Some 1) write) ≡ false
one_tag = refl

other_tag : same_waiting (waits 0 (Some 1) write) (waits 0 (Some 2) write) ≡ false
other_tag = refl

other_giver : same_waiting (waits 0 (Some 1) write) (waits 1 (Some 1) write) ≡ false
other_giver = refl

other_command : same_waiting (waits 0 None write)
    (waits 0 None (record write { command = commands.Swap16 })) ≡ false
unfolding table_line
other_command = refl

other_cube : same_waiting (waits 0 None write) (waits 0 None (record write { cube = 1 })) ≡ false
unfolding table_line
other_cube = refl

other_address : same_waiting (waits 0 None write)
    (waits 0 None (record write { address = 32 })) ≡ false
unfolding table_line
other_address = refl

other_payload : same_waiting (waits 0 None write)
    (waits 0 None (record write { payload = bytes 2 })) ≡ false
unfolding table_line
other_payload = refl
