-- Definitions computed: a logic unit at work in a journal, until it is retired. The flits are those
-- of a model outside this repository.
use Rattle.std.proofs.Common.{◌≡◌, ◌+◌, ◌*◌, ℕ, false, List, [], ◌∷◌, ◌++◌, Some, None, refl}
use Rattle.std.specs.Prelude.{map, replicate}
use mathlib.Core.Bool.{xor}
use Rattle.hmc_codes.specs.Bytes.{padded_bytes}
use Rattle.hmc_codes.specs.Codes.{all_commands, command_of}
use Rattle.hmc_codes.specs.Flit.{zero_flit}
use Rattle.hmc_codes.specs.Request.{RequestFields}
use Rattle.hmc_codes.specs.Table.{table_line}
use Rattle.hmc_codes.specs.declared.answer.Answer.{Answer}
use Rattle.hmc_codes.specs.declared.answer.Answer.TheVariants.{Read, Refused}
use Rattle.hmc_codes.specs.declared.command.Command.TheVariants.{Rd16, Unit1}
use Rattle.hmc_codes.specs.declared.place.Place.TheVariants as places
use Rattle.hmc_codes.specs.declared.profile.Profile.TheVariants.{One}
use Rattle.hmc_codes.specs.declared.unit.Unit.TheVariants as units
use Rattle.hmc_crc.specs.Bits.{bits_below, bits_of, number_of}
use Rattle.hmc_crc.specs.Remainder.{coefficients, divisor, zeros, plus, divide, remainder, crc_of}
use Rattle.hmc_packet.specs.declared.outcome.Outcome.TheVariants.{Gathered, Accepted}
use Rattle.hmc_packet.specs.Header.{header_of, header_is_clean}
use Rattle.hmc_packet.specs.Landings.{pending}
use Rattle.hmc_packet.specs.Parts.{word_of, half_of, lng_of}
use Rattle.hmc_packet.specs.Reading.{is_null, is_null_alone, has_length, fitting, command_in, is_clean, poison_in, packet_from, seen_in, judgement_of, bytes_read, read_of}
use Rattle.hmc_packet.specs.Tail.{tail_word, tail_of, tail_is_clean}
use Rattle.hmc_packet.specs.Transactions.{payload_of, request_in}
use Rattle.hmc_registers.specs.Registers.{opening_registers}
use Rattle.hmc_units.specs.Shipped.{stamp_unit}
use Rattle.hmc_serial.specs.Actions.{action_of}
use Rattle.hmc_serial.specs.Cube.{opening}
use Rattle.hmc_serial.specs.Errors.{memory_error}
use Rattle.hmc_serial.specs.Machine.{opening_state, apply, answer_to, retire}
use Rattle.hmc_serial.specs.Perform.{perform_on}
use Rattle.hmc_schedule.specs.declared.step.Step.TheVariants as steps
use Rattle.hmc_entries.specs.declared.outcome.Cause.TheVariants.{Empty}
use Rattle.hmc_entries.specs.declared.outcome.Goal.TheVariants.{Vault}
use Rattle.hmc_entries.specs.declared.entry.Entry.{Entry}
use Rattle.hmc_entries.specs.declared.entry.Entry.TheVariants.{Landed, Shifted, Spread, Executed, Retired, Idle}
use Rattle.hmc_journal.specs.Setup.{Topology, Setup}
use Rattle.hmc_routes.specs.Directions.{direction_among}
use Rattle.hmc_routes.specs.Distance.{within, distance}
use Rattle.hmc_routes.specs.Neighbours.{joined_to}
use Rattle.hmc_routes.specs.Ports.{port_to_cube, port_to_host}
use Rattle.hmc_journal.specs.Directions.{unsent, receiver_of, landed_packets, awaits_first}
use Rattle.hmc_journal.specs.Queues.{contents, entered, left, leaves, enters}
use Rattle.hmc_journal.specs.StepView.{opening_of, view_of, state_of}
use Rattle.hmc_journal.specs.Serial.{state_after, IsSerial}
use Rattle.hmc_journal.specs.Next.{next, choice}
use Rattle.hmc_journal.specs.Piped.{forwarded_onto, pipe_onto}

abbrev one_cube : Topology
one_cube = record {
  cubes = record { shape = record { vault_bits = 0; bank_bits = 0; rows = 1; block = 256 }; queue = 4 } ∷ [];
  links = record {
    join = record { a = places.Host 0; b = places.Port 0 0 };
    setup = record { line = 1; tokens = 17; retry = 17; output = 4; profile = One };
  } ∷ [];
}

-- slot 0 is empty, and the unit in slot 1 stamps blocks
abbrev one_unit : Setup
one_unit = record {
  topology = one_cube;
  slots = None ∷ Some (stamp_unit 0 1 0) ∷ [];
  script = [];
  schedule = [];
}

abbrev stamp : RequestFields
stamp = record { command = Unit1; cube = 0; address = 0x40; payload = replicate 16 0x11 }

abbrev read : RequestFields
read = record { command = Rd16; cube = 0; address = 0x40; payload = [] }

-- the block after so many stamps
abbrev stamped : ℕ → List ℕ
stamped count = count ∷ replicate 7 0 ++ replicate 8 0x11

abbrev executed : (tag : ℕ) → RequestFields → Answer → Entry
executed tag request answer = Executed (units.Bank 0 0 0) 0 (Some tag) request answer

-- a stamp under a tag comes to the bank: its first flit, and its check
abbrev at_bank : (tag : ℕ) → (check : List ℕ) → List Entry → List Entry
at_bank tag check past =
    Spread 0 0 0 ∷ Shifted 0 0 (Vault 0) ∷ Landed 0 (replicate 8 0x11 ++ 0 ∷ 2 ∷ 4 ∷ 0 ∷ check) Accepted
    ∷ Landed 0 (0x71 ∷ (1 + 16 * tag) ∷ 0 ∷ 0x40 ∷ 0 ∷ 0 ∷ 0 ∷ 0 ∷ replicate 8 0x11) Gathered ∷ past

abbrev first : List Entry
first = at_bank 0 (0x4a ∷ 0xca ∷ 0x6d ∷ 0xd7 ∷ []) []

abbrev second : List Entry
second = at_bank 1 (0xf6 ∷ 0x93 ∷ 0xd ∷ 0x99 ∷ []) (executed 0 stamp (Read false (replicate 16 0)) ∷ first)

abbrev third : List Entry
third = at_bank 2 (0x32 ∷ 0x79 ∷ 0xad ∷ 0x4b ∷ []) (Retired 1 ∷ executed 1 stamp (Read false (stamped 1)) ∷ second)

-- the answers are the blocks before; where the unit is retired there is none that serves
next-first : next one_unit first (steps.Bank 0 0 0) ≡ executed 0 stamp (Read false (replicate 16 0))
unfolding next choice view_of contents entered left leaves enters unsent landed_packets receiver_of pending direction_among joined_to within distance port_to_cube port_to_host read_of is_null_alone is_null zero_flit has_length lng_of word_of half_of bytes_read judgement_of command_in fitting all_commands command_of table_line is_clean header_is_clean tail_is_clean tail_word header_of tail_of poison_in packet_from seen_in crc_of remainder divide plus zeros divisor coefficients bits_below bits_of number_of xor request_in payload_of state_of state_after opening_state opening opening_registers apply answer_to retire perform_on action_of memory_error stamp_unit padded_bytes forwarded_onto pipe_onto awaits_first
next-first = refl

next-second : next one_unit second (steps.Bank 0 0 0) ≡ executed 1 stamp (Read false (stamped 1))
unfolding next choice view_of contents entered left leaves enters unsent landed_packets receiver_of pending direction_among joined_to within distance port_to_cube port_to_host read_of is_null_alone is_null zero_flit has_length lng_of word_of half_of bytes_read judgement_of command_in fitting all_commands command_of table_line is_clean header_is_clean tail_is_clean tail_word header_of tail_of poison_in packet_from seen_in crc_of remainder divide plus zeros divisor coefficients bits_below bits_of number_of xor request_in payload_of state_of state_after opening_state opening opening_registers apply answer_to retire perform_on action_of memory_error stamp_unit padded_bytes forwarded_onto pipe_onto awaits_first
next-second = refl

next-third : next one_unit third (steps.Bank 0 0 0) ≡ executed 2 stamp (Refused 6)
unfolding next choice view_of contents entered left leaves enters unsent landed_packets receiver_of pending direction_among joined_to within distance port_to_cube port_to_host read_of is_null_alone is_null zero_flit has_length lng_of word_of half_of bytes_read judgement_of command_in fitting all_commands command_of table_line is_clean header_is_clean tail_is_clean tail_word header_of tail_of poison_in packet_from seen_in crc_of remainder divide plus zeros divisor coefficients bits_below bits_of number_of xor request_in payload_of state_of state_after opening_state opening opening_registers apply answer_to retire perform_on action_of memory_error stamp_unit padded_bytes forwarded_onto pipe_onto awaits_first
next-third = refl

-- a unit is retired once; a slot that is empty, or isn't there, has none
next-retired : map (λ slot. next one_unit first (steps.Retire slot)) (0 ∷ 1 ∷ 2 ∷ 7 ∷ [])
    ≡ Idle (steps.Retire 0) Empty ∷ Retired 1 ∷ Idle (steps.Retire 2) Empty ∷ Idle (steps.Retire 7) Empty ∷ []
unfolding next choice view_of state_of state_after opening_state forwarded_onto pipe_onto awaits_first
next-retired = refl

next-retired_again : next one_unit (Retired 1 ∷ first) (steps.Retire 1) ≡ Idle (steps.Retire 1) Empty
unfolding next choice view_of state_of state_after opening_state retire forwarded_onto pipe_onto awaits_first
next-retired_again = refl

-- the executions run on a plain machine whose unit is retired at the same place, and what it stamped
-- stays
serial-units : IsSerial (opening_of one_unit) (executed 3 read (Read false (stamped 2)) ∷ executed 2 stamp (Refused 6) ∷ third)
unfolding IsSerial state_after opening_state opening opening_registers apply answer_to retire perform_on action_of memory_error table_line stamp_unit padded_bytes
serial-units = (refl, (refl, (refl, (refl, tt))))
