-- Litmus tests of several hosts: which outcomes are ordered where both blocks are in one cube, and
-- which where they are in two. Of each list the newest entry stands first.
use Rattle.std.proofs.Common.{◌≡◌, ℕ, false, true, None, Some, List, [], ◌∷◌, refl, subst}
use Rattle.std.specs.Prelude.{replicate}
use Rattle.hmc_codes.specs.Bytes.{padded_bytes}
use Rattle.hmc_codes.specs.Request.{RequestFields}
use Rattle.hmc_codes.specs.Table.{table_line}
use Rattle.hmc_codes.specs.declared.answer.Answer.TheVariants as answers
use Rattle.hmc_codes.specs.declared.answer.Answer.{Answer}
use Rattle.hmc_codes.specs.declared.command.Command.TheVariants as commands
use Rattle.hmc_codes.specs.declared.unit.Unit.TheVariants as units
use Rattle.hmc_registers.specs.Registers.{opening_registers}
use Rattle.hmc_atomics.specs.Act.{acted_of}
use Rattle.hmc_atomics.specs.Effects.{effect_of}
use Rattle.hmc_atomics.specs.Operations.{atomic_of}
use Rattle.hmc_serial.specs.Actions.{action_of}
use Rattle.hmc_serial.specs.Errors.{memory_error}
use Rattle.hmc_serial.specs.Cube.{opening}
use Rattle.hmc_serial.specs.Machine.{State, opening_state, apply, answer_to}
use Rattle.hmc_serial.specs.Perform.{perform_on}
use Rattle.hmc_serial.specs.Unit.{unit_of}
use Rattle.hmc_entries.specs.declared.entry.Entry.{Entry}
use Rattle.hmc_entries.specs.declared.entry.Entry.TheVariants.{Gave, Took, Executed}
use Rattle.hmc_journal.specs.Filters.{given_to, executed_by, asked_under, replies_under, answers_under}
use Rattle.hmc_journal.specs.Serial.{IsSerial, state_after}
use Rattle.hmc_journal.specs.Setup.{Topology}
use Rattle.hmc_arrivals.specs.Arrivals.{given_at}
use Rattle.hmc_seen.specs.Explained.{IsExplained}
use Rattle.hmc_seen.specs.Seen.{seen_of}
use Rattle.hmc_seen.specs.Stepwise.{IsStepwise}
use Rattle.hmc_seen.proofs.Stepping.{moments_of}
use Rattle.hmc_search.specs.Kept.{gathered, is_free, choices, hand, takes, kept}
use Rattle.hmc_search.specs.Reached.{IsUntagged}
use Rattle.hmc_search.proofs.Keeping.{not_kept}
use Rattle.hmc_ordered.specs.Ordered.{AsksNoUnits, executed_at, IsOrdered, is_for_a_unit}
use Rattle.hmc_ordered.proofs.Relabelled.{ordered_is_explained}
use Rattle.hmc_ordered.proofs.Steps.{AreNext, in_order, earlier_steps}

-- ---- cubes and blocks

-- one cube of two vaults of one bank of 32 bytes
abbrev one : Topology
one = record {
  cubes = record {
    shape = record { vault_bits = 1; bank_bits = 0; rows = 1; block = 32 };
    queue = 1;
  } ∷ [];
  links = [];
}

abbrev machine : State
machine = opening_state (record { vault_bits = 1; bank_bits = 0; rows = 1; block = 32 } ∷ []) []

-- a cube of as many bytes in one bank
abbrev flat : Topology
flat = record {
  cubes = record {
    shape = record { vault_bits = 0; bank_bits = 0; rows = 1; block = 64 };
    queue = 1;
  } ∷ [];
  links = [];
}

-- two cubes of one bank of 32 bytes
abbrev two : Topology
two = record {
  cubes = record {
    shape = record { vault_bits = 0; bank_bits = 0; rows = 1; block = 32 };
    queue = 1;
  } ∷ record {
    shape = record { vault_bits = 0; bank_bits = 0; rows = 1; block = 32 };
    queue = 1;
  } ∷ [];
  links = [];
}

abbrev machines : State
machines = opening_state (record { vault_bits = 0; bank_bits = 0; rows = 1; block = 32 }
    ∷ record { vault_bits = 0; bank_bits = 0; rows = 1; block = 32 } ∷ []) []

-- where a block is
record Place : Type 0 where
  cube : ℕ
  address : ℕ

abbrev x : Place
x = record { cube = 0; address = 16 }

-- the other block: in the other vault of the cube, or in the other cube
abbrev near : Place
near = record { cube = 0; address = 48 }

abbrev far : Place
far = record { cube = 1; address = 16 }

-- sixteen bytes of which the first is this one
abbrev bytes : ℕ → List ℕ
bytes n = n ∷ replicate 15 0

abbrev write : Place → RequestFields
write at = record { command = commands.Wr16; cube = at.cube; address = at.address; payload = bytes 1 }

abbrev read : Place → RequestFields
read at = record { command = commands.Rd16; cube = at.cube; address = at.address; payload = [] }

abbrev done : Answer
done = answers.Done false

abbrev value : ℕ → Answer
value n = answers.Read false (bytes n)

-- a host gives under a tag
abbrev asks : (host tag : ℕ) → RequestFields → Entry
asks host tag request = Gave host (Some tag) false request

-- the only unit of a cube executes a request of a host under a tag
abbrev runs : (host tag : ℕ) → RequestFields → Answer → Entry
runs host tag request answer =
    Executed (units.Bank request.cube 0 0) host (Some tag) request answer

-- a vault of the one cube does
abbrev runs_in : (vaults host tag : ℕ) → RequestFields → Answer → Entry
runs_in vaults host tag request answer =
    Executed (units.Bank 0 vaults 0) host (Some tag) request answer

-- ---- logic units

-- reads and writes ask no units
memory_alone : AsksNoUnits (asks 0 1 (read x) ∷ asks 0 0 (write x) ∷ [])
unfolding AsksNoUnits
memory_alone = (refl, (refl, tt))

-- nor does a poisoned request for one
abbrev unit : RequestFields
unit = record { command = commands.Unit7; cube = 0; address = 0; payload = [] }

poisoned_unit : AsksNoUnits (Gave 0 None true unit ∷ [])
unfolding AsksNoUnits
poisoned_unit = (refl, tt)

unit_asked : is_for_a_unit unit.command ≡ true
unit_asked = refl

-- an order that gives every answer, step by step
by : (log journal : List Entry) → seen_of journal ≡ log → IsSerial machines journal →
    IsStepwise two journal → AreNext journal → IsOrdered two machines log
by log journal seen serial steps next = record {
  journal = journal;
  orders = record {
    explains = record { seen = seen; serial = serial; moments = moments_of two journal steps };
    in_order = λ later past parts h c.
        in_order past (earlier_steps later past (subst AreNext parts next)) h c;
  };
}

-- no order by cube where there is none by bank of a cube of one bank
none : (log : List Entry) → kept flat machine log ≡ [] → IsUntagged log → IsOrdered one machine log → ⊥
none log empty untagged ordered =
    not_kept flat machine log untagged empty (ordered_is_explained flat one machine log ordered)

-- Message passing: host 0 writes x and then y; host 1 reads the new y and then the old x.
abbrev message : (y : Place) → List Entry
message y =
    Took 1 1 (value 0) ∷ Took 1 0 (value 1) ∷ Took 0 1 done ∷ Took 0 0 done
    ∷ asks 1 1 (read x) ∷ asks 1 0 (read y) ∷ asks 0 1 (write y) ∷ asks 0 0 (write x) ∷ []

message_near : IsOrdered one machine (message near) → ⊥
unfolding kept takes hand choices is_free gathered opening_state opening opening_registers apply answer_to perform_on action_of atomic_of memory_error acted_of effect_of table_line unit_of padded_bytes
message_near = none (message near) refl tt

-- The banks of that one cube allow it: of each bank the requests of a host are in order.
banks_allow : IsExplained one machine (message near)
unfolding seen_of IsSerial state_after IsStepwise AreNext given_to given_at executed_by executed_at asked_under replies_under answers_under opening_state opening opening_registers apply answer_to perform_on action_of atomic_of memory_error acted_of effect_of table_line unit_of padded_bytes
banks_allow = record {
  journal = allowed;
  explains = record { seen = refl; serial = (refl, (refl, (refl, (refl, tt)))); moments = moments_of one allowed allowed_steps };
} where
  allowed : List Entry
  allowed = Took 1 1 (value 0) ∷ Took 1 0 (value 1) ∷ Took 0 1 done ∷ Took 0 0 done ∷ runs_in 0 0 0 (write x) done ∷ runs_in 0 1 1 (read x) (value 0) ∷ runs_in 1 1 0 (read near) (value 1) ∷ runs_in 1 0 1 (write near) done ∷ asks 1 1 (read x) ∷ asks 1 0 (read near) ∷ asks 0 1 (write near) ∷ asks 0 0 (write x) ∷ []

  allowed_steps : IsStepwise one allowed
  allowed_steps = (([], refl), (([], refl), (([], refl), (([], refl), (([], refl), (([], refl), (([], refl), (([], refl), (([], refl), (([], refl), (([], refl), (([], refl), tt))))))))))))

message_far : IsOrdered two machines (message far)
unfolding seen_of IsSerial state_after IsStepwise AreNext given_to given_at executed_by executed_at asked_under replies_under answers_under opening_state opening opening_registers apply answer_to perform_on action_of atomic_of memory_error acted_of effect_of table_line unit_of padded_bytes
message_far =
    by (message far)
    (Took 1 1 (value 0) ∷ Took 1 0 (value 1) ∷ Took 0 1 done ∷ Took 0 0 done ∷ runs 0 0 (write x) done ∷ runs 1 1 (read x) (value 0) ∷ runs 1 0 (read far) (value 1) ∷ runs 0 1 (write far) done ∷ asks 1 1 (read x) ∷ asks 1 0 (read far) ∷ asks 0 1 (write far) ∷ asks 0 0 (write x) ∷ [])
    refl (refl, (refl, (refl, (refl, tt))))
    (([], refl), (([], refl), (([], refl), (([], refl), (([], refl), (([], refl), (([], refl), (([], refl), (([], refl), (([], refl), (([], refl), (([], refl), tt))))))))))))
    (([], refl), (([], refl), (([], refl), (([], refl), tt))))

-- Message passing over two cubes with fences: each host waits for its first answer, and the reader
-- gives its reads after the writer was answered. This is refused bank by bank already.
abbrev fenced : List Entry
fenced =
    Took 1 0 (value 0) ∷ asks 1 0 (read x) ∷ Took 1 0 (value 1) ∷ asks 1 0 (read far)
    ∷ asks 0 0 (write far) ∷ Took 0 0 done ∷ asks 0 0 (write x) ∷ []

fenced_far : IsOrdered two machines fenced → ⊥
unfolding kept takes hand choices is_free gathered opening_state opening opening_registers apply answer_to perform_on action_of atomic_of memory_error acted_of effect_of table_line unit_of padded_bytes
fenced_far ordered = not_kept two machines fenced tt refl (ordered_is_explained two two machines fenced ordered)

-- Store buffering: each host writes its block, and then reads the old bytes of the other.
abbrev store : (y : Place) → List Entry
store y =
    Took 1 1 (value 0) ∷ Took 1 0 done ∷ Took 0 1 (value 0) ∷ Took 0 0 done
    ∷ asks 1 1 (read x) ∷ asks 1 0 (write y) ∷ asks 0 1 (read y) ∷ asks 0 0 (write x) ∷ []

store_near : IsOrdered one machine (store near) → ⊥
unfolding kept takes hand choices is_free gathered opening_state opening opening_registers apply answer_to perform_on action_of atomic_of memory_error acted_of effect_of table_line unit_of padded_bytes
store_near = none (store near) refl tt

store_far : IsOrdered two machines (store far)
unfolding seen_of IsSerial state_after IsStepwise AreNext given_to given_at executed_by executed_at asked_under replies_under answers_under opening_state opening opening_registers apply answer_to perform_on action_of atomic_of memory_error acted_of effect_of table_line unit_of padded_bytes
store_far =
    by (store far)
    (Took 1 1 (value 0) ∷ Took 1 0 done ∷ Took 0 1 (value 0) ∷ Took 0 0 done ∷ runs 1 0 (write far) done ∷ runs 0 0 (write x) done ∷ runs 1 1 (read x) (value 0) ∷ runs 0 1 (read far) (value 0) ∷ asks 1 1 (read x) ∷ asks 1 0 (write far) ∷ asks 0 1 (read far) ∷ asks 0 0 (write x) ∷ [])
    refl (refl, (refl, (refl, (refl, tt))))
    (([], refl), (([], refl), (([], refl), (([], refl), (([], refl), (([], refl), (([], refl), (([], refl), (([], refl), (([], refl), (([], refl), (([], refl), tt))))))))))))
    (([], refl), (([], refl), (([], refl), (([], refl), tt))))

-- Load buffering: each host reads what the other writes after its own read.
abbrev load : (y : Place) → List Entry
load y =
    Took 1 1 done ∷ Took 1 0 (value 1) ∷ Took 0 1 done ∷ Took 0 0 (value 1)
    ∷ asks 1 1 (write x) ∷ asks 1 0 (read y) ∷ asks 0 1 (write y) ∷ asks 0 0 (read x) ∷ []

load_near : IsOrdered one machine (load near) → ⊥
unfolding kept takes hand choices is_free gathered opening_state opening opening_registers apply answer_to perform_on action_of atomic_of memory_error acted_of effect_of table_line unit_of padded_bytes
load_near = none (load near) refl tt

load_far : IsOrdered two machines (load far)
unfolding seen_of IsSerial state_after IsStepwise AreNext given_to given_at executed_by executed_at asked_under replies_under answers_under opening_state opening opening_registers apply answer_to perform_on action_of atomic_of memory_error acted_of effect_of table_line unit_of padded_bytes
load_far =
    by (load far)
    (Took 1 1 done ∷ Took 1 0 (value 1) ∷ Took 0 1 done ∷ Took 0 0 (value 1) ∷ runs 1 0 (read far) (value 1) ∷ runs 0 0 (read x) (value 1) ∷ runs 1 1 (write x) done ∷ runs 0 1 (write far) done ∷ asks 1 1 (write x) ∷ asks 1 0 (read far) ∷ asks 0 1 (write far) ∷ asks 0 0 (read x) ∷ [])
    refl (refl, (refl, (refl, (refl, tt))))
    (([], refl), (([], refl), (([], refl), (([], refl), (([], refl), (([], refl), (([], refl), (([], refl), (([], refl), (([], refl), (([], refl), (([], refl), tt))))))))))))
    (([], refl), (([], refl), (([], refl), (([], refl), tt))))

-- Independent reads of independent writes: hosts 0 and 1 write a block each; host 2 sees the write of
-- x and not yet that of y, host 3 that of y and not yet that of x.
abbrev independent : (y : Place) → List Entry
independent y =
    Took 3 1 (value 0) ∷ Took 3 0 (value 1) ∷ Took 2 1 (value 0) ∷ Took 2 0 (value 1) ∷ Took 1 0 done ∷ Took 0 0 done
    ∷ asks 3 1 (read x) ∷ asks 3 0 (read y) ∷ asks 2 1 (read y) ∷ asks 2 0 (read x) ∷ asks 1 0 (write y) ∷ asks 0 0 (write x) ∷ []

independent_near : IsOrdered one machine (independent near) → ⊥
unfolding kept takes hand choices is_free gathered opening_state opening opening_registers apply answer_to perform_on action_of atomic_of memory_error acted_of effect_of table_line unit_of padded_bytes
independent_near = none (independent near) refl tt

independent_far : IsOrdered two machines (independent far)
unfolding seen_of IsSerial state_after IsStepwise AreNext given_to given_at executed_by executed_at asked_under replies_under answers_under opening_state opening opening_registers apply answer_to perform_on action_of atomic_of memory_error acted_of effect_of table_line unit_of padded_bytes
independent_far =
    by (independent far)
    (Took 3 1 (value 0) ∷ Took 3 0 (value 1) ∷ Took 2 1 (value 0) ∷ Took 2 0 (value 1) ∷ Took 1 0 done ∷ Took 0 0 done ∷ runs 2 0 (read x) (value 1) ∷ runs 0 0 (write x) done ∷ runs 3 1 (read x) (value 0) ∷ runs 3 0 (read far) (value 1) ∷ runs 1 0 (write far) done ∷ runs 2 1 (read far) (value 0) ∷ asks 3 1 (read x) ∷ asks 3 0 (read far) ∷ asks 2 1 (read far) ∷ asks 2 0 (read x) ∷ asks 1 0 (write far) ∷ asks 0 0 (write x) ∷ [])
    refl (refl, (refl, (refl, (refl, (refl, (refl, tt))))))
    (([], refl), (([], refl), (([], refl), (([], refl), (([], refl), (([], refl), (([], refl), (([], refl), (([], refl), (([], refl), (([], refl), (([], refl), (([], refl), (([], refl), (([], refl), (([], refl), (([], refl), (([], refl), tt))))))))))))))))))
    (([], refl), (([], refl), (([], refl), (([], refl), (([], refl), (([], refl), tt))))))
