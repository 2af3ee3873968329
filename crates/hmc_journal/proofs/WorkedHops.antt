-- Definitions computed at two cubes in a row: a request over both links, and its answer.
use Rattle.hmc_codes.specs.declared.profile.Profile.TheVariants.{One}
use Rattle.std.proofs.Common.{◌≡◌, ◌++◌, ℕ, List, [], ◌∷◌, Some, false, refl}
use Rattle.std.specs.Prelude.{map}
use mathlib.Core.Bool.{xor}
use Rattle.hmc_codes.specs.Request.{RequestFields}
use Rattle.hmc_codes.specs.Table.{table_line}
use Rattle.hmc_codes.specs.declared.answer.Answer.TheVariants.{Done}
use Rattle.hmc_codes.specs.declared.lift.Lift.TheVariants as lifts
use Rattle.hmc_codes.specs.declared.place.Place.TheVariants as places
use Rattle.hmc_codes.specs.declared.unit.Unit.TheVariants as units
use Rattle.hmc_schedule.specs.declared.step.Step.TheVariants as steps
use Rattle.hmc_packet.specs.declared.what.What.TheVariants.{New}
use Rattle.hmc_crc.specs.Bits.{bits_below, bits_of, number_of}
use Rattle.hmc_crc.specs.Remainder.{coefficients, divisor, zeros, plus, divide, remainder, crc_of}
use Rattle.hmc_codes.specs.Codes.{all_commands, command_of}
use Rattle.hmc_packet.specs.Header.{header_of, header_is_clean}
use Rattle.hmc_packet.specs.Tail.{tail_word, tail_of, tail_is_clean}
use Rattle.hmc_codes.specs.Flit.{zero_flit}
use Rattle.hmc_packet.specs.Parts.{word_of, half_of, lng_of}
use Rattle.hmc_packet.specs.Reading.{is_null, is_null_alone, has_length, fitting, command_in, is_clean, poison_in, packet_from, seen_in, judgement_of, bytes_read, read_of}
use Rattle.hmc_packet.specs.Transactions.{reply_packet, payload_of, request_in, answer_by, answer_in}
use Rattle.hmc_registers.specs.Registers.{opening_registers}
use Rattle.hmc_atomics.specs.Operations.{atomic_of}
use Rattle.hmc_atomics.specs.Act.{acted_of}
use Rattle.hmc_atomics.specs.Effects.{effect_of}
use Rattle.hmc_serial.specs.Actions.{action_of}
use Rattle.hmc_serial.specs.Cube.{opening}
use Rattle.hmc_serial.specs.Errors.{memory_error}
use Rattle.hmc_serial.specs.Machine.{opening_state, apply, answer_to}
use Rattle.hmc_serial.specs.Perform.{perform_on}
use Rattle.hmc_entries.specs.declared.outcome.Cause.TheVariants.{Full, Empty}
use Rattle.hmc_packet.specs.declared.outcome.Outcome.TheVariants.{Accepted}
use Rattle.hmc_packet.specs.Landings.{pending}
use Rattle.hmc_packet.specs.Landings as landings
use Rattle.hmc_entries.specs.declared.entry.Entry.{Entry}
use Rattle.hmc_entries.specs.declared.entry.Entry.TheVariants.{Gave, Sent, Landed, Shifted, Spread, Executed, Lifted, Took, Idle}
use Rattle.hmc_serial.specs.Unit.{unit_of}
use Rattle.hmc_journal.specs.Setup.{Topology, Setup}
use Rattle.hmc_routes.specs.Directions.{direction_among}
use Rattle.hmc_routes.specs.Distance.{within, distance}
use Rattle.hmc_routes.specs.Neighbours.{joined_to}
use Rattle.hmc_routes.specs.Ports.{port_to_cube, port_to_host}
use Rattle.hmc_journal.specs.Directions.{unsent, receiver_of, landed_packets, awaits_first, accepted}
use Rattle.hmc_journal.specs.Queues.{contents, entered, left, leaves, enters}
use Rattle.hmc_journal.specs.StepView.{view_of, state_of}
use Rattle.hmc_journal.specs.Serial.{state_after}
use Rattle.hmc_journal.specs.Next.{next, choice}
use Rattle.hmc_journal.specs.Filters.{given_to, executed_by, TaggedRequest, TaggedAnswer}
use Rattle.hmc_journal.specs.Carried.{tagged_requests, requests_along, answers_along, answers_lifted, answers_taken, answers_to}
use Rattle.hmc_codes.specs.Link.{LinkFields}
use Rattle.hmc_case.specs.Setup.{CubeSetupFields}
use Rattle.hmc_codes.specs.declared.command.Command.TheVariants.{Inc8}
use Rattle.hmc_entries.specs.declared.outcome.Goal.TheVariants as goals
use Rattle.hmc_routes.specs.Route.{hops_from}
use Rattle.hmc_journal.specs.Routes.{route_to_cube, route_to_host}
use Rattle.hmc_journal.specs.Piped.{forwarded_onto, pipe_onto}

abbrev one_vault : CubeSetupFields
one_vault = record { shape = record { vault_bits = 0; bank_bits = 0; rows = 1; block = 256 }; queue = 1 }

abbrev sizes : LinkFields
sizes = record { line = 1; tokens = 17; retry = 17; output = 1; profile = One }

-- host 0 is joined to port 0 of cube 0, and port 1 of this to port 0 of cube 1; each queue has room
-- for one packet
abbrev two_cubes : Topology
two_cubes = record {
  cubes = one_vault ∷ one_vault ∷ [];
  links =
      record { join = record { a = places.Host 0; b = places.Port 0 0 }; setup = sizes } ∷
      record { join = record { a = places.Port 0 1; b = places.Port 1 0 }; setup = sizes } ∷ [];
}

-- it increments bytes of cube 1
abbrev increment : RequestFields
increment = record { command = Inc8; cube = 1; address = 0x40; payload = [] }

abbrev one_request : Setup
one_request = record {
  topology = two_cubes;
  slots = [];
  script = record { host = 0; fenced = false; poisoned = false; request = increment } ∷ [];
  schedule = [];
}

-- the request and its answer as they are sent on each link
abbrev request_flit : List ℕ
request_flit = 0xd0 ∷ 0 ∷ 0 ∷ 0x40 ∷ 0 ∷ 0 ∷ 0 ∷ 0x20 ∷ 0 ∷ 0x02 ∷ 0x04 ∷ 0 ∷ 0x02 ∷ 0xbe ∷ 0x64 ∷ 0x54 ∷ []

abbrev answer_flit : List ℕ
answer_flit = 0xb9 ∷ 0 ∷ 0 ∷ 0 ∷ 0 ∷ 0 ∷ 0 ∷ 0x20 ∷ 0 ∷ 0x02 ∷ 0x04 ∷ 0 ∷ 0x9d ∷ 0x85 ∷ 0x08 ∷ 0xb3 ∷ []

-- the request goes over two links, and the answer over both of them back
abbrev at_cube_0 : List Entry
at_cube_0 = Landed 0 request_flit Accepted ∷ Sent 0 New request_flit ∷ Gave 0 (Some 0) false increment ∷ []

abbrev at_cube_1 : List Entry
at_cube_1 = Landed 2 request_flit Accepted ∷ Sent 2 New request_flit ∷ Shifted 0 0 (goals.Port 1) ∷ at_cube_0

abbrev answered : List Entry
answered = Executed (units.Bank 1 0 0) 0 (Some 0) increment (Done false) ∷ Spread 1 0 0 ∷ Shifted 1 0 (goals.Vault 0) ∷ at_cube_1

abbrev back_at_cube_0 : List Entry
back_at_cube_0 = Landed 3 answer_flit Accepted ∷ Sent 3 New answer_flit ∷ Lifted 1 (lifts.Vault 0) 0 ∷ answered

abbrev back_at_host : List Entry
back_at_host = Landed 1 answer_flit Accepted ∷ Sent 1 New answer_flit ∷ Shifted 0 1 (goals.Port 0) ∷ back_at_cube_0

-- ---- routes

route_to_cube-each : map (route_to_cube two_cubes 0) (0 ∷ 1 ∷ []) ≡ (0 ∷ []) ∷ (0 ∷ 2 ∷ []) ∷ []
unfolding route_to_cube hops_from direction_among joined_to within distance port_to_cube port_to_host
route_to_cube-each = refl

route_to_host-each : map (λ cube. route_to_host two_cubes cube 0) (0 ∷ 1 ∷ []) ≡ (1 ∷ []) ∷ (3 ∷ 1 ∷ []) ∷ []
unfolding route_to_host hops_from direction_among joined_to within distance port_to_cube port_to_host
route_to_host-each = refl

-- ---- steps

-- a request for another cube goes out through the port towards it
next-onwards : next one_request at_cube_0 (steps.Shift 0 0) ≡ Shifted 0 0 (goals.Port 1)
unfolding next choice view_of contents entered left leaves enters unsent landed_packets receiver_of pending direction_among joined_to within distance port_to_cube port_to_host read_of is_null_alone is_null zero_flit has_length lng_of word_of half_of bytes_read judgement_of command_in fitting all_commands command_of table_line is_clean header_is_clean tail_is_clean tail_word header_of tail_of poison_in packet_from seen_in crc_of remainder divide plus zeros divisor coefficients bits_below bits_of number_of xor request_in payload_of state_of state_after opening_state opening opening_registers apply answer_to perform_on action_of atomic_of memory_error acted_of forwarded_onto pipe_onto awaits_first
next-onwards = refl

-- it waits where the output queue of that port is full
next-full : next one_request (Landed 0 request_flit Accepted ∷ Shifted 0 0 (goals.Port 1) ∷ at_cube_0) (steps.Shift 0 0) ≡ Idle (steps.Shift 0 0) Full
unfolding next choice view_of contents entered left leaves enters unsent landed_packets receiver_of pending direction_among joined_to within distance port_to_cube port_to_host read_of is_null_alone is_null zero_flit has_length lng_of word_of half_of bytes_read judgement_of command_in fitting all_commands command_of table_line is_clean header_is_clean tail_is_clean tail_word header_of tail_of poison_in packet_from seen_in crc_of remainder divide plus zeros divisor coefficients bits_below bits_of number_of xor request_in payload_of state_of state_after opening_state opening opening_registers apply answer_to perform_on action_of atomic_of memory_error acted_of forwarded_onto pipe_onto awaits_first
next-full = refl

-- at its cube it goes in, and is executed on the memory of this cube
next-inwards : next one_request at_cube_1 (steps.Shift 1 0) ≡ Shifted 1 0 (goals.Vault 0)
unfolding next choice view_of contents entered left leaves enters unsent landed_packets receiver_of pending direction_among joined_to within distance port_to_cube port_to_host read_of is_null_alone is_null zero_flit has_length lng_of word_of half_of bytes_read judgement_of command_in fitting all_commands command_of table_line is_clean header_is_clean tail_is_clean tail_word header_of tail_of poison_in packet_from seen_in crc_of remainder divide plus zeros divisor coefficients bits_below bits_of number_of xor request_in payload_of state_of state_after opening_state opening opening_registers apply answer_to perform_on action_of atomic_of memory_error acted_of forwarded_onto pipe_onto awaits_first
next-inwards = refl

next-executed : next one_request (Spread 1 0 0 ∷ Shifted 1 0 (goals.Vault 0) ∷ at_cube_1) (steps.Bank 1 0 0) ≡ Executed (units.Bank 1 0 0) 0 (Some 0) increment (Done false)
unfolding next choice view_of contents entered left leaves enters unsent landed_packets receiver_of pending direction_among joined_to within distance port_to_cube port_to_host read_of is_null_alone is_null zero_flit has_length lng_of word_of half_of bytes_read judgement_of command_in fitting all_commands command_of table_line is_clean header_is_clean tail_is_clean tail_word header_of tail_of poison_in packet_from seen_in crc_of remainder divide plus zeros divisor coefficients bits_below bits_of number_of xor request_in payload_of state_of state_after opening_state opening opening_registers apply answer_to perform_on action_of atomic_of memory_error acted_of effect_of forwarded_onto pipe_onto awaits_first
next-executed = refl

-- the answer goes back the same way, port by port
next-lifted : next one_request answered (steps.Lift 1 (lifts.Vault 0)) ≡ Lifted 1 (lifts.Vault 0) 0
unfolding next choice view_of contents entered left leaves enters unsent landed_packets receiver_of pending direction_among joined_to within distance port_to_cube port_to_host read_of is_null_alone is_null zero_flit has_length lng_of word_of half_of bytes_read judgement_of command_in fitting all_commands command_of table_line is_clean header_is_clean tail_is_clean tail_word header_of tail_of poison_in packet_from seen_in crc_of remainder divide plus zeros divisor coefficients bits_below bits_of number_of xor request_in payload_of state_of state_after opening_state opening opening_registers apply answer_to perform_on action_of atomic_of memory_error acted_of reply_packet forwarded_onto pipe_onto awaits_first
next-lifted = refl

next-back : next one_request back_at_cube_0 (steps.Shift 0 1) ≡ Shifted 0 1 (goals.Port 0)
unfolding next choice view_of contents entered left leaves enters unsent landed_packets receiver_of pending direction_among joined_to within distance port_to_cube port_to_host read_of is_null_alone is_null zero_flit has_length lng_of word_of half_of bytes_read judgement_of command_in fitting all_commands command_of table_line is_clean header_is_clean tail_is_clean tail_word header_of tail_of poison_in packet_from seen_in crc_of remainder divide plus zeros divisor coefficients bits_below bits_of number_of xor request_in payload_of state_of state_after opening_state opening opening_registers apply answer_to perform_on action_of atomic_of memory_error acted_of forwarded_onto pipe_onto awaits_first
next-back = refl

next-taken : next one_request back_at_host (steps.Take 0) ≡ Took 0 0 (Done false)
unfolding next choice view_of contents entered left leaves enters unsent landed_packets receiver_of pending direction_among joined_to within distance port_to_cube port_to_host read_of is_null_alone is_null zero_flit has_length lng_of word_of half_of bytes_read judgement_of command_in fitting all_commands command_of table_line is_clean header_is_clean tail_is_clean tail_word header_of tail_of poison_in packet_from seen_in crc_of remainder divide plus zeros divisor coefficients bits_below bits_of number_of xor request_in payload_of state_of state_after opening_state opening opening_registers apply answer_to perform_on action_of atomic_of memory_error acted_of answer_in answer_by forwarded_onto pipe_onto awaits_first
next-taken = refl

-- nothing is at the other cube, and nothing in the wrong bank
next-elsewhere : next one_request at_cube_0 (steps.Shift 1 0) ≡ Idle (steps.Shift 1 0) Empty
unfolding next choice view_of contents entered left leaves enters unsent landed_packets receiver_of pending direction_among joined_to within distance port_to_cube port_to_host read_of is_null_alone is_null zero_flit has_length lng_of word_of half_of bytes_read judgement_of command_in fitting all_commands command_of table_line is_clean header_is_clean tail_is_clean tail_word header_of tail_of poison_in packet_from seen_in crc_of remainder divide plus zeros divisor coefficients bits_below bits_of number_of xor request_in payload_of state_of state_after opening_state opening opening_registers apply answer_to perform_on action_of atomic_of memory_error acted_of forwarded_onto pipe_onto awaits_first
next-elsewhere = refl

-- ---- what was carried

abbrev asked : List TaggedRequest
asked = record { tag = Some 0; request = increment } ∷ []

abbrev told : List TaggedAnswer
told = record { tag = 0; answer = Done false } ∷ []

-- given, carried over both directions, executed
requests_along-two : given_to two_cubes 0 (units.Bank 1 0 0) back_at_host ∷ requests_along two_cubes 0 (units.Bank 1 0 0) back_at_host ++ executed_by 0 (units.Bank 1 0 0) back_at_host ∷ [] ≡ asked ∷ asked ∷ asked ∷ asked ∷ []
unfolding given_to executed_by tagged_requests unit_of accepted landings.accepted route_to_cube hops_from next choice view_of contents entered left leaves enters unsent landed_packets receiver_of pending direction_among joined_to within distance port_to_cube port_to_host read_of is_null_alone is_null zero_flit has_length lng_of word_of half_of bytes_read judgement_of command_in fitting all_commands command_of table_line is_clean header_is_clean tail_is_clean tail_word header_of tail_of poison_in packet_from seen_in crc_of remainder divide plus zeros divisor coefficients bits_below bits_of number_of xor request_in payload_of state_of state_after opening_state opening opening_registers apply answer_to perform_on action_of atomic_of memory_error acted_of forwarded_onto pipe_onto awaits_first
requests_along-two = refl

-- not yet carried over the second
requests_along-one : requests_along two_cubes 0 (units.Bank 1 0 0) at_cube_0 ++ executed_by 0 (units.Bank 1 0 0) at_cube_0 ∷ [] ≡ asked ∷ [] ∷ [] ∷ []
unfolding given_to executed_by tagged_requests unit_of accepted landings.accepted route_to_cube hops_from next choice view_of contents entered left leaves enters unsent landed_packets receiver_of pending direction_among joined_to within distance port_to_cube port_to_host read_of is_null_alone is_null zero_flit has_length lng_of word_of half_of bytes_read judgement_of command_in fitting all_commands command_of table_line is_clean header_is_clean tail_is_clean tail_word header_of tail_of poison_in packet_from seen_in crc_of remainder divide plus zeros divisor coefficients bits_below bits_of number_of xor request_in payload_of state_of state_after opening_state opening opening_registers apply answer_to perform_on action_of atomic_of memory_error acted_of forwarded_onto pipe_onto awaits_first
requests_along-one = refl

-- lifted, carried over both directions back, taken
answers_along-two : answers_lifted two_cubes 1 0 back_at_host ∷ answers_along two_cubes 1 0 back_at_host ++ answers_taken two_cubes 1 0 (Took 0 0 (Done false) ∷ back_at_host) ∷ [] ≡ told ∷ told ∷ told ∷ told ∷ []
unfolding answers_lifted answers_taken answers_to accepted landings.accepted route_to_host hops_from answer_in answer_by reply_packet next choice view_of contents entered left leaves enters unsent landed_packets receiver_of pending direction_among joined_to within distance port_to_cube port_to_host read_of is_null_alone is_null zero_flit has_length lng_of word_of half_of bytes_read judgement_of command_in fitting all_commands command_of table_line is_clean header_is_clean tail_is_clean tail_word header_of tail_of poison_in packet_from seen_in crc_of remainder divide plus zeros divisor coefficients bits_below bits_of number_of xor request_in payload_of state_of state_after opening_state opening opening_registers apply answer_to perform_on action_of atomic_of memory_error acted_of forwarded_onto pipe_onto awaits_first
answers_along-two = refl

-- an answer of the one cube isn't one of the other
answers_along-other : answers_lifted two_cubes 0 0 back_at_host ∷ answers_along two_cubes 0 0 back_at_host ≡ [] ∷ [] ∷ []
unfolding answers_lifted answers_taken answers_to accepted landings.accepted route_to_host hops_from answer_in answer_by reply_packet next choice view_of contents entered left leaves enters unsent landed_packets receiver_of pending direction_among joined_to within distance port_to_cube port_to_host read_of is_null_alone is_null zero_flit has_length lng_of word_of half_of bytes_read judgement_of command_in fitting all_commands command_of table_line is_clean header_is_clean tail_is_clean tail_word header_of tail_of poison_in packet_from seen_in crc_of remainder divide plus zeros divisor coefficients bits_below bits_of number_of xor request_in payload_of state_of state_after opening_state opening opening_registers apply answer_to perform_on action_of atomic_of memory_error acted_of forwarded_onto pipe_onto awaits_first
answers_along-other = refl
