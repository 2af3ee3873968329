-- Worked values of the number under way: a request as it goes through a case of one cube, and two
-- that were given.
use Rattle.hmc_codes.specs.declared.profile.Profile.TheVariants.{One}
use Rattle.std.proofs.Common.{◌≡◌, ℕ, List, [], ◌∷◌, Some, true, false, refl}
use Rattle.std.specs.Prelude.{map, replicate}
use mathlib.Core.Bool.{xor}
use Rattle.hmc_codes.specs.Codes.{all_commands, command_of}
use Rattle.hmc_codes.specs.Flit.{zero_flit}
use Rattle.hmc_codes.specs.Request.{RequestFields}
use Rattle.hmc_codes.specs.Table.{table_line}
use Rattle.hmc_codes.specs.declared.answer.Answer.TheVariants.{Read}
use Rattle.hmc_codes.specs.declared.command.Command.TheVariants.{Rd16}
use Rattle.hmc_codes.specs.declared.lift.Lift.TheVariants as lifts
use Rattle.hmc_codes.specs.declared.place.Place.TheVariants as places_there
use Rattle.hmc_codes.specs.declared.unit.Unit.TheVariants as units
use Rattle.hmc_crc.specs.Bits.{bits_below, bits_of, number_of}
use Rattle.hmc_crc.specs.Remainder.{coefficients, divisor, zeros, plus, divide, remainder, crc_of}
use Rattle.hmc_packet.specs.declared.outcome.Outcome.TheVariants.{Accepted}
use Rattle.hmc_packet.specs.declared.what.What.TheVariants.{New}
use Rattle.hmc_packet.specs.Header.{header_of, header_is_clean}
use Rattle.hmc_packet.specs.Landings as landings
use Rattle.hmc_packet.specs.Landings.{pending}
use Rattle.hmc_packet.specs.Parts.{word_of, half_of, lng_of}
use Rattle.hmc_packet.specs.Reading.{is_null, is_null_alone, has_length, fitting, command_in, is_clean, poison_in, packet_from, seen_in, judgement_of, bytes_read, read_of}
use Rattle.hmc_packet.specs.Irtry.{irtry_in}
use Rattle.hmc_packet.specs.Receptions.{reception_of, reception_by, landing_view}
use Rattle.hmc_packet.specs.Spelling.{training_flit}
use Rattle.hmc_packet.specs.Tail.{tail_word, tail_of, tail_is_clean}
use Rattle.hmc_packet.specs.Transactions.{request_packet, reply_packet, payload_of, request_in}
use Rattle.hmc_routes.specs.Directions.{direction_among}
use Rattle.hmc_routes.specs.Distance.{within, distance}
use Rattle.hmc_routes.specs.Neighbours.{joined_to}
use Rattle.hmc_routes.specs.Ports.{port_to_cube, port_to_host}
use Rattle.hmc_tokens.specs.Account.{code_for}
use Rattle.hmc_send.specs.Entries.{places, unfinished, taken_fronts}
use Rattle.hmc_send.specs.LinkEntries.{receiver_entries, takes, handed_packets}
use Rattle.hmc_send.specs.LinkSenders.{given_after, sender_entries, tokens}
use Rattle.hmc_entries.specs.declared.entry.Entry.{Entry}
use Rattle.hmc_entries.specs.declared.entry.Entry.TheVariants.{Gave, Sent, Landed, Shifted, Spread, Executed, Lifted}
use Rattle.hmc_entries.specs.declared.outcome.Goal.TheVariants.{Vault}
use Rattle.hmc_journal.specs.Directions.{unsent, receiver_of, landed_packets, awaits_first, accepted}
use Rattle.hmc_journal.specs.Links.{link_entries}
use Rattle.hmc_journal.specs.Piped.{forwarded_onto, pipe_onto}
use Rattle.hmc_journal.specs.Queues.{contents, entered, left, leaves, enters}
use Rattle.hmc_journal.specs.Setup.{Topology}
use Rattle.hmc_journal.specs.UnderWay.{under_way}

abbrev one_cube : Topology
one_cube = record {
  cubes =
      record { shape = record { vault_bits = 0; bank_bits = 0; rows = 4; block = 256 }; queue = 1 }
      ∷ [];
  links = record {
    join = record { a = places_there.Host 0; b = places_there.Port 0 0 };
    setup = record { line = 1; tokens = 17; retry = 17; output = 2; profile = One };
  } ∷ [];
}

abbrev read_at : ℕ → RequestFields
read_at address = record { command = Rd16; cube = 0; address = address; payload = [] }

-- the first request as it is sent
abbrev first_flit : List ℕ
first_flit =
    0xb0 ∷ 0 ∷ 0 ∷ 0x40 ∷ 0 ∷ 0 ∷ 0 ∷ 0 ∷ 0 ∷ 0x02 ∷ 0x04 ∷ 0 ∷ 0x0d ∷ 0x2e ∷ 0xe0 ∷ 0x99 ∷ []

abbrev given : List Entry
given = Gave 0 (Some 0) false (read_at 0x40) ∷ []

abbrev begun : List Entry
begun = Sent 0 New first_flit ∷ given

abbrev came : List Entry
came = Landed 0 first_flit Accepted ∷ begun

abbrev at_bank : List Entry
at_bank = Spread 0 0 0 ∷ Shifted 0 0 (Vault 0) ∷ came

abbrev answered : List Entry
answered =
    Executed (units.Bank 0 0 0) 0 (Some 0) (read_at 0x40) (Read false (replicate 16 0)) ∷ at_bank

abbrev lifted : List Entry
lifted = Lifted 0 (lifts.Vault 0) 0 ∷ answered

-- none; two, also where one of them is poisoned; and one all the way from the host to the cube and
-- until its answer waits to be sent
under_way-each : map (under_way one_cube)
    ([] ∷ (Gave 0 (Some 1) false (read_at 0x80) ∷ given)
    ∷ (Gave 0 (Some 1) true (read_at 0x80) ∷ given)
    ∷ given ∷ begun ∷ came ∷ at_bank ∷ answered ∷ lifted ∷ [])
    ≡ 0 ∷ 2 ∷ 2 ∷ 1 ∷ 1 ∷ 1 ∷ 1 ∷ 1 ∷ 1 ∷ []
unfolding under_way contents entered left leaves enters unsent landed_packets receiver_of accepted landings.accepted pending awaits_first direction_among joined_to within distance port_to_cube port_to_host link_entries tokens sender_entries given_after places unfinished receiver_entries takes code_for forwarded_onto pipe_onto taken_fronts handed_packets reception_of reception_by landing_view landings.mode landings.is_training training_flit irtry_in request_packet reply_packet payload_of request_in
    read_of is_null_alone is_null zero_flit has_length lng_of word_of half_of bytes_read
    judgement_of command_in fitting all_commands command_of table_line is_clean header_is_clean
    tail_is_clean tail_word header_of tail_of poison_in packet_from seen_in crc_of remainder
    divide plus zeros divisor coefficients bits_below bits_of number_of xor
under_way-each = refl
