-- Small logs of two hosts, each with a journal that explains it: the log with executions put in. Of
-- each list the newest entry stands first.
use Rattle.std.proofs.Common.{◌≡◌, ℕ, false, true, Some, None, List, [], ◌∷◌, refl}
use Rattle.std.specs.Prelude.{replicate}
use Rattle.hmc_codes.specs.Bytes.{padded_bytes}
use Rattle.hmc_codes.specs.Request.{RequestFields}
use Rattle.hmc_codes.specs.Table.{table_line}
use Rattle.hmc_codes.specs.declared.answer.Answer.TheVariants as answers
use Rattle.hmc_codes.specs.declared.answer.Answer.{Answer}
use Rattle.hmc_codes.specs.declared.command.Command.TheVariants as commands
use Rattle.hmc_codes.specs.declared.unit.Unit.TheVariants as units
use Rattle.hmc_codes.specs.declared.unit.Unit.{Unit as RequestUnit}
use Rattle.hmc_registers.specs.Registers.{opening_registers}
use Rattle.hmc_atomics.specs.Act.{acted_of}
use Rattle.hmc_atomics.specs.Effects.{effect_of}
use Rattle.hmc_atomics.specs.Operations.{atomic_of}
use Rattle.hmc_serial.specs.Actions.{action_of}
use Rattle.hmc_serial.specs.Errors.{memory_error}
use Rattle.hmc_serial.specs.Cube.{opening}
use Rattle.hmc_serial.specs.Machine.{State, opening_state, apply, answer_to}
use Rattle.hmc_serial.specs.Perform.{perform_on}
use Rattle.hmc_serial.specs.Unit.{unit_of}
use Rattle.hmc_entries.specs.declared.entry.Entry.{Entry}
use Rattle.hmc_entries.specs.declared.entry.Entry.TheVariants.{Gave, Took, Executed}
use Rattle.hmc_journal.specs.Filters.{given_to, executed_by, asked_under, replies_under, answers_under}
use Rattle.hmc_journal.specs.Serial.{IsSerial, state_after}
use Rattle.hmc_journal.specs.Setup.{Topology}
use Rattle.hmc_seen.specs.Explained.{IsExplained}
use Rattle.hmc_seen.specs.Seen.{seen_of}
use Rattle.hmc_seen.specs.Stepwise.{IsStepwise}
use Rattle.hmc_seen.proofs.Stepping.{moments_of}

-- one cube of two vaults of one bank of 32 bytes
abbrev cubes : Topology
cubes = record {
  cubes = record {
    shape = record { vault_bits = 1; bank_bits = 0; rows = 1; block = 32 };
    queue = 1;
  } ∷ [];
  links = [];
}

abbrev machine : State
machine = opening_state (record { vault_bits = 1; bank_bits = 0; rows = 1; block = 32 } ∷ []) []

-- a log with a journal that gives every answer and goes by steps is explained
by : (log journal : List Entry) → seen_of journal ≡ log → IsSerial machine journal →
    IsStepwise cubes journal → IsExplained cubes machine log
by log journal seen serial steps = record {
  journal = journal;
  explains = record { seen = seen; serial = serial; moments = moments_of cubes journal steps };
}

-- sixteen bytes of which the first is this one
abbrev bytes : ℕ → List ℕ
bytes n = n ∷ replicate 15 0

-- the units of x and of y
abbrev vault : ℕ → RequestUnit
vault n = units.Bank 0 n 0

-- a block in the one, and a block in the other
abbrev x : ℕ
x = 16

abbrev y : ℕ
y = 48

abbrev write : ℕ → ℕ → RequestFields
write address n = record { command = commands.Wr16; cube = 0; address = address; payload = bytes n }

abbrev posted : ℕ → ℕ → RequestFields
posted address n =
    record { command = commands.Pwr16; cube = 0; address = address; payload = bytes n }

abbrev swap : ℕ → ℕ → RequestFields
swap address n =
    record { command = commands.Swap16; cube = 0; address = address; payload = bytes n }

abbrev read : ℕ → RequestFields
read address = record { command = commands.Rd16; cube = 0; address = address; payload = [] }

abbrev done : Answer
done = answers.Done false

abbrev value : ℕ → Answer
value n = answers.Read false (bytes n)

-- a host gives under a tag, and without one
abbrev asks : (host tag : ℕ) → RequestFields → Entry
asks host tag request = Gave host (Some tag) false request

abbrev posts : (host : ℕ) → RequestFields → Entry
posts host request = Gave host None false request

-- a vault executes a request of a host under a tag
abbrev runs : (vaults host tag : ℕ) → RequestFields → Answer → Entry
runs vaults host tag request answer = Executed (vault vaults) host (Some tag) request answer

-- Two hosts and one block: a swap and a write. The swap finds the bytes before the write, or those
-- that the write left.
abbrev exchange : ℕ → List Entry
exchange n =
    Took 0 0 (value n) ∷ Took 1 0 done ∷ asks 1 0 (write x 3) ∷ asks 0 0 (swap x 2) ∷ []

swap_first : IsExplained cubes machine (exchange 0)
unfolding seen_of IsSerial state_after IsStepwise given_to executed_by asked_under replies_under answers_under opening_state opening opening_registers apply answer_to perform_on action_of atomic_of memory_error acted_of effect_of table_line unit_of padded_bytes
swap_first =
    by (exchange 0)
    (Took 0 0 (value 0) ∷ Took 1 0 done ∷ runs 0 1 0 (write x 3) done ∷ runs 0 0 0 (swap x 2) (value 0) ∷ asks 1 0 (write x 3) ∷ asks 0 0 (swap x 2) ∷ [])
    refl (refl, (refl, tt))
    ((([]), refl), ((([]), refl), ((([]), refl), ((([]), refl), ((([]), refl), ((([]), refl), tt))))))

write_first : IsExplained cubes machine (exchange 3)
unfolding seen_of IsSerial state_after IsStepwise given_to executed_by asked_under replies_under answers_under opening_state opening opening_registers apply answer_to perform_on action_of atomic_of memory_error acted_of effect_of table_line unit_of padded_bytes
write_first =
    by (exchange 3)
    (Took 0 0 (value 3) ∷ runs 0 0 0 (swap x 2) (value 3) ∷ Took 1 0 done ∷ runs 0 1 0 (write x 3) done ∷ asks 1 0 (write x 3) ∷ asks 0 0 (swap x 2) ∷ [])
    refl (refl, (refl, tt))
    ((([]), refl), ((([]), refl), ((([]), refl), ((([]), refl), ((([]), refl), ((([]), refl), tt))))))

-- A read returns a value that was there when it was given, although another write was answered
-- before the read was: the read was executed between the two writes.
abbrev overwritten : List Entry
overwritten =
    Took 1 0 (value 1) ∷ Took 0 0 done ∷ asks 0 0 (write x 2) ∷ asks 1 0 (read x) ∷ Took 0 0 done
    ∷ asks 0 0 (write x 1) ∷ []

read_between : IsExplained cubes machine (overwritten)
unfolding seen_of IsSerial state_after IsStepwise given_to executed_by asked_under replies_under answers_under opening_state opening opening_registers apply answer_to perform_on action_of atomic_of memory_error acted_of effect_of table_line unit_of padded_bytes
read_between =
    by (overwritten)
    (Took 1 0 (value 1) ∷ Took 0 0 done ∷ runs 0 0 0 (write x 2) done ∷ runs 0 1 0 (read x) (value 1) ∷ asks 0 0 (write x 2) ∷ asks 1 0 (read x) ∷ Took 0 0 done ∷ runs 0 0 0 (write x 1) done ∷ asks 0 0 (write x 1) ∷ [])
    refl (refl, (refl, (refl, tt)))
    ((([]), refl), ((([]), refl), ((([]), refl), ((([]), refl), ((([]), refl), ((([]), refl), ((([]), refl), ((([]), refl), ((([]), refl), tt)))))))))

-- A posted write has no answer. It may explain a read of another host, or still be on its way.
abbrev after_posted : ℕ → List Entry
after_posted n = Took 1 0 (value n) ∷ asks 1 0 (read x) ∷ posts 0 (posted x 1) ∷ []

posted_seen : IsExplained cubes machine (after_posted 1)
unfolding seen_of IsSerial state_after IsStepwise given_to executed_by asked_under replies_under answers_under opening_state opening opening_registers apply answer_to perform_on action_of atomic_of memory_error acted_of effect_of table_line unit_of padded_bytes
posted_seen =
    by (after_posted 1)
    (Took 1 0 (value 1) ∷ runs 0 1 0 (read x) (value 1) ∷ Executed (vault 0) 0 None (posted x 1) answers.Silent ∷ asks 1 0 (read x) ∷ posts 0 (posted x 1) ∷ [])
    refl (refl, (refl, tt))
    ((([]), refl), ((([]), refl), ((([]), refl), ((([]), refl), (tt, tt)))))

posted_waits : IsExplained cubes machine (after_posted 0)
unfolding seen_of IsSerial state_after IsStepwise given_to executed_by asked_under replies_under answers_under opening_state opening opening_registers apply answer_to perform_on action_of atomic_of memory_error acted_of effect_of table_line unit_of padded_bytes
posted_waits =
    by (after_posted 0)
    (Took 1 0 (value 0) ∷ runs 0 1 0 (read x) (value 0) ∷ asks 1 0 (read x) ∷ posts 0 (posted x 1) ∷ [])
    refl (refl, tt)
    ((([]), refl), ((([]), refl), ((([]), refl), tt)))

-- A poisoned write leaves the bytes as they were.
abbrev after_poisoned : ℕ → List Entry
after_poisoned n =
    Took 1 0 (value n) ∷ asks 1 0 (read x) ∷ Gave 0 None true (write x 1) ∷ []

poisoned_ignored : IsExplained cubes machine (after_poisoned 0)
unfolding seen_of IsSerial state_after IsStepwise given_to executed_by asked_under replies_under answers_under opening_state opening opening_registers apply answer_to perform_on action_of atomic_of memory_error acted_of effect_of table_line unit_of padded_bytes
poisoned_ignored =
    by (after_poisoned 0)
    (Took 1 0 (value 0) ∷ runs 0 1 0 (read x) (value 0) ∷ asks 1 0 (read x) ∷ Gave 0 None true (write x 1) ∷ [])
    refl (refl, tt)
    ((([]), refl), ((([]), refl), ((([]), refl), tt)))

-- It is no request to be executed before the next of its host.
abbrev after_own_poisoned : List Entry
after_own_poisoned =
    Took 0 0 (value 0) ∷ asks 0 0 (read x) ∷ Gave 0 None true (write x 1) ∷ []

poisoned_passed : IsExplained cubes machine (after_own_poisoned)
unfolding seen_of IsSerial state_after IsStepwise given_to executed_by asked_under replies_under answers_under opening_state opening opening_registers apply answer_to perform_on action_of atomic_of memory_error acted_of effect_of table_line unit_of padded_bytes
poisoned_passed =
    by (after_own_poisoned)
    (Took 0 0 (value 0) ∷ runs 0 0 0 (read x) (value 0) ∷ asks 0 0 (read x) ∷ Gave 0 None true (write x 1) ∷ [])
    refl (refl, tt)
    ((([]), refl), ((([]), refl), ((([]), refl), tt)))

-- A tag is free again after its answer: the second answer is that to the second request.
abbrev tag_again : List Entry
tag_again =
    Took 0 0 (value 1) ∷ asks 0 0 (read x) ∷ Took 0 0 done ∷ asks 0 0 (write x 1) ∷ []

tag_reused : IsExplained cubes machine (tag_again)
unfolding seen_of IsSerial state_after IsStepwise given_to executed_by asked_under replies_under answers_under opening_state opening opening_registers apply answer_to perform_on action_of atomic_of memory_error acted_of effect_of table_line unit_of padded_bytes
tag_reused =
    by (tag_again)
    (Took 0 0 (value 1) ∷ runs 0 0 0 (read x) (value 1) ∷ asks 0 0 (read x) ∷ Took 0 0 done ∷ runs 0 0 0 (write x 1) done ∷ asks 0 0 (write x 1) ∷ [])
    refl (refl, (refl, tt))
    ((([]), refl), ((([]), refl), ((([]), refl), ((([]), refl), ((([]), refl), ((([]), refl), tt))))))

-- Two banks: host 0 writes x and then y; host 1 reads the new y and then the old x. No order of all
-- four requests keeps the order of both hosts. Each bank alone has one that does: of x the read
-- comes first, of y the write.
abbrev message : ℕ → ℕ → List Entry
message n m =
    Took 1 1 (value m) ∷ Took 1 0 (value n) ∷ Took 0 1 done ∷ Took 0 0 done ∷ asks 1 1 (read x)
    ∷ asks 1 0 (read y) ∷ asks 0 1 (write y 1) ∷ asks 0 0 (write x 1) ∷ []

banks_apart : IsExplained cubes machine (message 1 0)
unfolding seen_of IsSerial state_after IsStepwise given_to executed_by asked_under replies_under answers_under opening_state opening opening_registers apply answer_to perform_on action_of atomic_of memory_error acted_of effect_of table_line unit_of padded_bytes
banks_apart =
    by (message 1 0)
    (Took 1 1 (value 0) ∷ Took 1 0 (value 1) ∷ Took 0 1 done ∷ Took 0 0 done ∷ runs 0 0 0 (write x 1) done ∷ runs 0 1 1 (read x) (value 0) ∷ runs 1 1 0 (read y) (value 1) ∷ runs 1 0 1 (write y 1) done ∷ asks 1 1 (read x) ∷ asks 1 0 (read y) ∷ asks 0 1 (write y 1) ∷ asks 0 0 (write x 1) ∷ [])
    refl (refl, (refl, (refl, (refl, tt))))
    ((([]), refl), ((([]), refl), ((([]), refl), ((([]), refl), ((([]), refl), ((([]), refl), ((([]), refl), ((([]), refl), ((([]), refl), ((([]), refl), ((([]), refl), ((([]), refl), tt))))))))))))

-- The same where the reader waits for its first answer: the write of x may still be on its way,
-- since its writer doesn't wait. (Where the writer waits too, nothing explains the old x: that is a
-- row of hmc_search.)
abbrev fenced : List Entry
fenced =
    Took 1 1 (value 0) ∷ asks 1 1 (read x) ∷ Took 1 0 (value 1) ∷ asks 1 0 (read y)
    ∷ asks 0 1 (write y 1) ∷ asks 0 0 (write x 1) ∷ []

fence_of_one : IsExplained cubes machine (fenced)
unfolding seen_of IsSerial state_after IsStepwise given_to executed_by asked_under replies_under answers_under opening_state opening opening_registers apply answer_to perform_on action_of atomic_of memory_error acted_of effect_of table_line unit_of padded_bytes
fence_of_one =
    by (fenced)
    (Took 1 1 (value 0) ∷ runs 0 1 1 (read x) (value 0) ∷ asks 1 1 (read x) ∷ Took 1 0 (value 1) ∷ runs 1 1 0 (read y) (value 1) ∷ runs 1 0 1 (write y 1) done ∷ asks 1 0 (read y) ∷ asks 0 1 (write y 1) ∷ asks 0 0 (write x 1) ∷ [])
    refl (refl, (refl, (refl, tt)))
    ((([]), refl), ((([]), refl), ((([]), refl), ((([]), refl), ((([]), refl), ((([]), refl), ((([]), refl), ((([]), refl), tt))))))))
