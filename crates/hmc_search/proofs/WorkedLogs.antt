-- Small logs that no executions explain: the search keeps no state of them. Each is refused for one
-- reason. Of a log the newest entry stands first.
use Rattle.std.proofs.Common.{ℕ, false, true, Some, None, List, [], ◌∷◌, replicate, refl}
use Rattle.hmc_codes.specs.Bytes.{padded_bytes}
use Rattle.hmc_codes.specs.Request.{RequestFields}
use Rattle.hmc_codes.specs.Table.{table_line}
use Rattle.hmc_codes.specs.declared.answer.Answer.TheVariants as answers
use Rattle.hmc_codes.specs.declared.answer.Answer.{Answer}
use Rattle.hmc_codes.specs.declared.command.Command.TheVariants as commands
use Rattle.hmc_registers.specs.Registers.{opening_registers}
use Rattle.hmc_atomics.specs.Act.{acted_of}
use Rattle.hmc_atomics.specs.Effects.{effect_of}
use Rattle.hmc_atomics.specs.Operations.{atomic_of}
use Rattle.hmc_serial.specs.Actions.{action_of}
use Rattle.hmc_serial.specs.Errors.{memory_error}
use Rattle.hmc_serial.specs.Cube.{opening}
use Rattle.hmc_serial.specs.Machine.{State, opening_state, apply, answer_to}
use Rattle.hmc_serial.specs.Perform.{perform_on}
use Rattle.hmc_serial.specs.Unit.{unit_of}
use Rattle.hmc_entries.specs.declared.entry.Entry.{Entry}
use Rattle.hmc_entries.specs.declared.entry.Entry.TheVariants.{Gave, Took}
use Rattle.hmc_journal.specs.Setup.{Topology}
use Rattle.hmc_seen.specs.Explained.{IsExplained}
use Rattle.hmc_search.specs.Kept.{gathered, is_free, choices, hand, takes, kept}
use Rattle.hmc_search.proofs.Keeping.{not_kept}

-- one cube of two vaults of one bank of 32 bytes
abbrev cubes : Topology
cubes = record {
  cubes = record {
    shape = record { vault_bits = 1; bank_bits = 0; rows = 1; block = 32 };
    queue = 1;
  } ∷ [];
  links = [];
}

abbrev machine : State
machine = opening_state (record { vault_bits = 1; bank_bits = 0; rows = 1; block = 32 } ∷ []) []

-- executions explain a log
abbrev IsPossible : List Entry → Type 0
IsPossible log = IsExplained cubes machine log

-- sixteen bytes of which the first is this one
abbrev bytes : ℕ → List ℕ
bytes n = n ∷ replicate 15 0

-- two blocks of one bank, and one of another
abbrev x : ℕ
x = 16

abbrev beside : ℕ
beside = 0

abbrev y : ℕ
y = 48

abbrev write : ℕ → ℕ → RequestFields
write address n = record { command = commands.Wr16; cube = 0; address = address; payload = bytes n }

abbrev posted : ℕ → ℕ → RequestFields
posted address n =
    record { command = commands.Pwr16; cube = 0; address = address; payload = bytes n }

abbrev swap : ℕ → ℕ → RequestFields
swap address n =
    record { command = commands.Swap16; cube = 0; address = address; payload = bytes n }

abbrev read : ℕ → RequestFields
read address = record { command = commands.Rd16; cube = 0; address = address; payload = [] }

abbrev done : Answer
done = answers.Done false

abbrev value : ℕ → Answer
value n = answers.Read false (bytes n)

-- a host gives under a tag, and without one
abbrev asks : (host tag : ℕ) → RequestFields → Entry
asks host tag request = Gave host (Some tag) false request

abbrev posts : (host : ℕ) → RequestFields → Entry
posts host request = Gave host None false request

-- Two hosts and one block: a swap finds what it wrote itself.
swap_finds_neither : IsPossible (Took 0 0 (value 2) ∷ Took 1 0 done ∷ asks 1 0 (write x 3) ∷ asks 0 0 (swap x 2) ∷ []) → ⊥
unfolding kept takes hand choices is_free gathered opening_state opening opening_registers apply answer_to perform_on action_of atomic_of memory_error acted_of effect_of table_line unit_of padded_bytes
swap_finds_neither =
    not_kept cubes machine
    (Took 0 0 (value 2) ∷ Took 1 0 done ∷ asks 1 0 (write x 3) ∷ asks 0 0 (swap x 2) ∷ [])
    tt refl

-- A read was given after both writes were answered, and returns the first.
read_after_both : IsPossible (Took 1 0 (value 1) ∷ asks 1 0 (read x) ∷ Took 0 0 done ∷ asks 0 0 (write x 2) ∷ Took 0 0 done ∷ asks 0 0 (write x 1) ∷ []) → ⊥
unfolding kept takes hand choices is_free gathered opening_state opening opening_registers apply answer_to perform_on action_of atomic_of memory_error acted_of effect_of table_line unit_of padded_bytes
read_after_both =
    not_kept cubes machine
    (Took 1 0 (value 1) ∷ asks 1 0 (read x) ∷ Took 0 0 done ∷ asks 0 0 (write x 2) ∷ Took 0 0 done ∷ asks 0 0 (write x 1) ∷ [])
    tt refl

-- A host reads what it wrote just before, in one bank, and finds the bytes before its write.
own_order : IsPossible (Took 0 1 (value 0) ∷ asks 0 1 (read x) ∷ asks 0 0 (write x 1) ∷ []) → ⊥
unfolding kept takes hand choices is_free gathered opening_state opening opening_registers apply answer_to perform_on action_of atomic_of memory_error acted_of effect_of table_line unit_of padded_bytes
own_order =
    not_kept cubes machine
    (Took 0 1 (value 0) ∷ asks 0 1 (read x) ∷ asks 0 0 (write x 1) ∷ [])
    tt refl

-- The same after a posted write: no answer waits for it, but the read of its host does.
own_posted : IsPossible (Took 0 0 (value 0) ∷ asks 0 0 (read x) ∷ posts 0 (posted x 1) ∷ []) → ⊥
unfolding kept takes hand choices is_free gathered opening_state opening opening_registers apply answer_to perform_on action_of atomic_of memory_error acted_of effect_of table_line unit_of padded_bytes
own_posted =
    not_kept cubes machine
    (Took 0 0 (value 0) ∷ asks 0 0 (read x) ∷ posts 0 (posted x 1) ∷ [])
    tt refl

-- A posted write of 1 explains no 2.
other_posted : IsPossible (Took 1 0 (value 2) ∷ asks 1 0 (read x) ∷ posts 0 (posted x 1) ∷ []) → ⊥
unfolding kept takes hand choices is_free gathered opening_state opening opening_registers apply answer_to perform_on action_of atomic_of memory_error acted_of effect_of table_line unit_of padded_bytes
other_posted =
    not_kept cubes machine
    (Took 1 0 (value 2) ∷ asks 1 0 (read x) ∷ posts 0 (posted x 1) ∷ [])
    tt refl

-- Only a poisoned write would explain the 1.
poisoned : IsPossible (Took 1 0 (value 1) ∷ asks 1 0 (read x) ∷ Gave 0 None true (write x 1) ∷ []) → ⊥
unfolding kept takes hand choices is_free gathered opening_state opening opening_registers apply answer_to perform_on action_of atomic_of memory_error acted_of effect_of table_line unit_of padded_bytes
poisoned =
    not_kept cubes machine
    (Took 1 0 (value 1) ∷ asks 1 0 (read x) ∷ Gave 0 None true (write x 1) ∷ [])
    (refl, tt) refl

-- One request under a tag, and two answers.
answered_twice : IsPossible (Took 0 0 (value 0) ∷ Took 0 0 (value 0) ∷ asks 0 0 (read x) ∷ []) → ⊥
unfolding kept takes hand choices is_free gathered opening_state opening opening_registers apply answer_to perform_on action_of atomic_of memory_error acted_of effect_of table_line unit_of padded_bytes
answered_twice =
    not_kept cubes machine
    (Took 0 0 (value 0) ∷ Took 0 0 (value 0) ∷ asks 0 0 (read x) ∷ [])
    tt refl

-- An answer under a tag that was given no request.
answered_unasked : IsPossible (Took 0 1 (value 0) ∷ asks 0 0 (read x) ∷ []) → ⊥
unfolding kept takes hand choices is_free gathered opening_state opening opening_registers apply answer_to perform_on action_of atomic_of memory_error acted_of effect_of table_line unit_of padded_bytes
answered_unasked =
    not_kept cubes machine
    (Took 0 1 (value 0) ∷ asks 0 0 (read x) ∷ [])
    tt refl

-- The tag is used twice: the second answer is that to the first request.
answers_exchanged : IsPossible (Took 0 0 done ∷ asks 0 0 (read x) ∷ Took 0 0 (value 1) ∷ asks 0 0 (write x 1) ∷ []) → ⊥
unfolding kept takes hand choices is_free gathered opening_state opening opening_registers apply answer_to perform_on action_of atomic_of memory_error acted_of effect_of table_line unit_of padded_bytes
answers_exchanged =
    not_kept cubes machine
    (Took 0 0 done ∷ asks 0 0 (read x) ∷ Took 0 0 (value 1) ∷ asks 0 0 (write x 1) ∷ [])
    tt refl

-- An answer before its request.
early_answer : IsPossible (asks 0 0 (read x) ∷ Took 0 0 (value 0) ∷ []) → ⊥
unfolding kept takes hand choices is_free gathered opening_state opening opening_registers apply answer_to perform_on action_of atomic_of memory_error acted_of effect_of table_line unit_of padded_bytes
early_answer =
    not_kept cubes machine
    (asks 0 0 (read x) ∷ Took 0 0 (value 0) ∷ [])
    tt refl

-- Message passing in one bank: the reader sees the second write and misses the first.
message_in_a_bank : IsPossible (Took 1 1 (value 0) ∷ Took 1 0 (value 1) ∷ asks 1 1 (read x) ∷ asks 1 0 (read beside) ∷ asks 0 1 (write beside 1) ∷ asks 0 0 (write x 1) ∷ []) → ⊥
unfolding kept takes hand choices is_free gathered opening_state opening opening_registers apply answer_to perform_on action_of atomic_of memory_error acted_of effect_of table_line unit_of padded_bytes
message_in_a_bank =
    not_kept cubes machine
    (Took 1 1 (value 0) ∷ Took 1 0 (value 1) ∷ asks 1 1 (read x) ∷ asks 1 0 (read beside) ∷ asks 0 1 (write beside 1) ∷ asks 0 0 (write x 1) ∷ [])
    tt refl

-- Message passing over two banks with fences: each host waits for its answer.
message_fenced : IsPossible (Took 1 0 (value 0) ∷ asks 1 0 (read x) ∷ Took 1 0 (value 1) ∷ asks 1 0 (read y) ∷ asks 0 0 (write y 1) ∷ Took 0 0 done ∷ asks 0 0 (write x 1) ∷ []) → ⊥
unfolding kept takes hand choices is_free gathered opening_state opening opening_registers apply answer_to perform_on action_of atomic_of memory_error acted_of effect_of table_line unit_of padded_bytes
message_fenced =
    not_kept cubes machine
    (Took 1 0 (value 0) ∷ asks 1 0 (read x) ∷ Took 1 0 (value 1) ∷ asks 1 0 (read y) ∷ asks 0 0 (write y 1) ∷ Took 0 0 done ∷ asks 0 0 (write x 1) ∷ [])
    tt refl

-- Store buffering in one bank: each host misses the write of the other.
store_buffering : IsPossible (Took 1 1 (value 0) ∷ Took 0 1 (value 0) ∷ asks 1 1 (read x) ∷ asks 1 0 (write beside 1) ∷ asks 0 1 (read beside) ∷ asks 0 0 (write x 1) ∷ []) → ⊥
unfolding kept takes hand choices is_free gathered opening_state opening opening_registers apply answer_to perform_on action_of atomic_of memory_error acted_of effect_of table_line unit_of padded_bytes
store_buffering =
    not_kept cubes machine
    (Took 1 1 (value 0) ∷ Took 0 1 (value 0) ∷ asks 1 1 (read x) ∷ asks 1 0 (write beside 1) ∷ asks 0 1 (read beside) ∷ asks 0 0 (write x 1) ∷ [])
    tt refl

-- Load buffering in one bank: each host reads what the other writes afterwards.
load_buffering : IsPossible (Took 1 0 (value 1) ∷ Took 0 0 (value 1) ∷ asks 1 1 (write x 1) ∷ asks 1 0 (read beside) ∷ asks 0 1 (write beside 1) ∷ asks 0 0 (read x) ∷ []) → ⊥
unfolding kept takes hand choices is_free gathered opening_state opening opening_registers apply answer_to perform_on action_of atomic_of memory_error acted_of effect_of table_line unit_of padded_bytes
load_buffering =
    not_kept cubes machine
    (Took 1 0 (value 1) ∷ Took 0 0 (value 1) ∷ asks 1 1 (write x 1) ∷ asks 1 0 (read beside) ∷ asks 0 1 (write beside 1) ∷ asks 0 0 (read x) ∷ [])
    tt refl

-- Two writes in one bank, of which two readers see the one alone and the other alone.
readers_disagree : IsPossible (Took 3 1 (value 0) ∷ Took 3 0 (value 1) ∷ Took 2 1 (value 0) ∷ Took 2 0 (value 1) ∷ asks 3 1 (read x) ∷ asks 3 0 (read beside) ∷ asks 2 1 (read beside) ∷ asks 2 0 (read x) ∷ asks 1 0 (write beside 1) ∷ asks 0 0 (write x 1) ∷ []) → ⊥
unfolding kept takes hand choices is_free gathered opening_state opening opening_registers apply answer_to perform_on action_of atomic_of memory_error acted_of effect_of table_line unit_of padded_bytes
readers_disagree =
    not_kept cubes machine
    (Took 3 1 (value 0) ∷ Took 3 0 (value 1) ∷ Took 2 1 (value 0) ∷ Took 2 0 (value 1) ∷ asks 3 1 (read x) ∷ asks 3 0 (read beside) ∷ asks 2 1 (read beside) ∷ asks 2 0 (read x) ∷ asks 1 0 (write beside 1) ∷ asks 0 0 (write x 1) ∷ [])
    tt refl
