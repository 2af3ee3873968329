-- Definitions computed at their edges: queues at their sizes, and journals that break a promise.
use Rattle.std.proofs.Common.{◌≡◌, ◌≤◌, ℕ, true, false, Some, None, [], ◌∷◌, arith, refl}
use Rattle.std.specs.Prelude.{map}
use Rattle.hmc_codes.specs.Request.{RequestFields}
use Rattle.hmc_codes.specs.declared.profile.Profile.TheVariants.{One}
use Rattle.hmc_codes.specs.declared.command.Command.TheVariants.{Rd16, Pinc8}
use Rattle.hmc_codes.specs.declared.lift.Lift.TheVariants as lifts
use Rattle.hmc_codes.specs.declared.place.Place.TheVariants as places
use Rattle.hmc_codes.specs.declared.unit.Unit.TheVariants as units
use Rattle.hmc_serial.specs.Unit.{unit_of}
use Rattle.hmc_entries.specs.declared.entry.Entry.TheVariants.{Gave}
use Rattle.hmc_journal.specs.Setup.{Topology}
use Rattle.hmc_journal.specs.Queues.QueueId.{Output, Port, Host, Vault, Bank, Registers, Answers}
use Rattle.hmc_journal.specs.Waiting.{size_of, is_filled}
use Rattle.hmc_journal.specs.Filters.{given_to, executed_by, asked_under, answers_under}
use Rattle.hmc_journal.specs.Delivered.{DeliveredInOrder, AllServed}

-- queues of 3 packets in the cube, output queues of 2
abbrev sizes : Topology
sizes = record {
  cubes = record { shape = record { vault_bits = 1; bank_bits = 1; rows = 1; block = 256 }; queue = 3 } ∷ [];
  links = record {
    join = record { a = places.Host 0; b = places.Port 0 0 };
    setup = record { line = 5; tokens = 17; retry = 18; output = 2; profile = One };
  } ∷ [];
}

-- the sizes of queues; buffers of flits have none
size_of-outputs : map (size_of sizes) (Output 0 ∷ Output 1 ∷ Port 0 0 ∷ Host 0 ∷ []) ≡ Some 2 ∷ Some 2 ∷ None ∷ None ∷ []
size_of-outputs = refl

size_of-cube : map (size_of sizes) (Vault 0 1 ∷ Bank 0 1 1 ∷ Registers 0 ∷ Answers 0 (lifts.Vault 1) ∷ Answers 0 lifts.Registers ∷ []) ≡ Some 3 ∷ Some 3 ∷ Some 3 ∷ Some 3 ∷ Some 3 ∷ []
size_of-cube = refl

-- a queue is full at its size, and not one packet before
is_filled-edge : map (is_filled (Some 3)) (2 ∷ 3 ∷ 4 ∷ []) ≡ false ∷ true ∷ true ∷ []
is_filled-edge = refl

is_filled-never : map (is_filled None) (0 ∷ 1000 ∷ []) ≡ false ∷ false ∷ []
is_filled-never = refl

abbrev read : RequestFields
read = record { command = Rd16; cube = 0; address = 0x40; payload = [] }

abbrev posted : RequestFields
posted = record { command = Pinc8; cube = 0; address = 0x40; payload = [] }

-- two requests out under one tag are not in order
twice_out : DeliveredInOrder (record { topology = sizes; slots = []; script = []; schedule = [] }) (Gave 0 (Some 0) false read ∷ Gave 0 (Some 0) false read ∷ []) → ⊥
unfolding asked_under answers_under
twice_out is = let most : 2 ≤ 1 = is.out 0 0 in absurd (omega arith)

-- a request that isn't answered, or isn't executed, is not served
not_answered : AllServed sizes (Gave 0 (Some 0) false read ∷ []) → ⊥
unfolding asked_under answers_under
not_answered is = let none : ◌≡◌ {A = ℕ} 0 1 = is.taken 0 0 in absurd (omega arith)

not_executed : AllServed sizes (Gave 0 None false posted ∷ []) → ⊥
unfolding given_to executed_by unit_of
not_executed is = let none = is.executed 0 (units.Bank 0 0 0) in cc
