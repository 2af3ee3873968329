-- What the calls of a receiver answer, worked. The flits are those of a model outside this repository.
use Rattle.std.proofs.Common.{◌≡◌, ℕ, true, false, List, [], ◌∷◌, Some, None, refl}
use mathlib.Core.Bool.{xor}
use Rattle.hmc_codes.specs.declared.command.Command.TheVariants.{Rd16}
use Rattle.hmc_codes.specs.declared.profile.Profile.TheVariants.{One}
use Rattle.hmc_codes.specs.Codes.{all_commands, command_of}
use Rattle.hmc_codes.specs.Flit.{zero_flit}
use Rattle.hmc_codes.specs.Table.{table_line}
use Rattle.hmc_crc.specs.Bits.{bits_below, bits_of, number_of}
use Rattle.hmc_crc.specs.Remainder.{coefficients, divisor, zeros, plus, divide, remainder, crc_of}
use Rattle.hmc_packet.specs.declared.kind.Kind.TheVariants.{Clear}
use Rattle.hmc_packet.specs.declared.landed.Landed.TheVariants as outcomes
use Rattle.hmc_packet.specs.declared.outcome.Outcome.TheVariants.{Quiet, Trained, Accepted, Poisoned, Repeat, Ran}
use Rattle.hmc_packet.specs.declared.view.Mode.TheVariants.{Train, Abort, Good}
use Rattle.hmc_packet.specs.Header.{header_of, header_is_clean}
use Rattle.hmc_packet.specs.Irtry.{irtry_in}
use Rattle.hmc_packet.specs.Landings.{ReceiverEntry, mode, pending, run, is_training, training, accepted, receiver_view}
use Rattle.hmc_packet.specs.Landings.ReceiverEntry.{Land, Unlock}
use Rattle.hmc_packet.specs.Packet.{PacketFields, null_packet}
use Rattle.hmc_packet.specs.Parts.{word_of, half_of, lng_of}
use Rattle.hmc_packet.specs.Reading.{is_null, is_null_alone, has_length, fitting, command_in, is_clean, poison_in, packet_from, seen_in, judgement_of, bytes_read, read_of}
use Rattle.hmc_packet.specs.Receptions.{landing_view, reception_by, reception_of}
use Rattle.hmc_packet.specs.Spelling.{training_flit}
use Rattle.hmc_packet.specs.Tail.{tail_word, tail_is_clean, tail_of}
use Rattle.hmc_receive.specs.StandsFor.{latest, landing_of}

-- an rd16, and it poisoned
abbrev read_1 : List ℕ
read_1 = (0xb0 ∷ 0 ∷ 0 ∷ 0x40 ∷ 0 ∷ 0 ∷ 0 ∷ 0 ∷ 0 ∷ 2 ∷ 4 ∷ 0 ∷ 0xd ∷ 0x2e ∷ 0xe0 ∷ 0x99 ∷ [])

abbrev poisoned_1 : List ℕ
poisoned_1 = (0xb0 ∷ 0 ∷ 0 ∷ 0x40 ∷ 0 ∷ 0 ∷ 0 ∷ 0 ∷ 0 ∷ 2 ∷ 4 ∷ 0 ∷ 0xf2 ∷ 0xd1 ∷ 0x1f ∷ 0x66 ∷ [])

-- a Clear that returns pointer 5
abbrev clear : List ℕ
clear = (0x83 ∷ 0 ∷ 0 ∷ 0 ∷ 0 ∷ 0 ∷ 0 ∷ 0 ∷ 5 ∷ 4 ∷ 0 ∷ 0 ∷ 3 ∷ 0xdc ∷ 0x22 ∷ 0x6d ∷ [])

abbrev read_packet : PacketFields
read_packet = record null_packet { command = Rd16; address = 0x40; seq = 1; frp = 1 }

-- a receiver that is good and has gathered nothing, and one that waits for Clears
abbrev good : List ReceiverEntry
good = Land clear (Ran Clear) ∷ Land training_flit Trained ∷ []

abbrev waiting : List ReceiverEntry
waiting = Land training_flit Trained ∷ []

-- the packet accepted last: a poisoned one counts, and a repeat does not
latest-none : latest One good ≡ null_packet
unfolding latest training_flit is_training mode pending run training accepted read_of is_null_alone is_null zero_flit has_length lng_of word_of half_of bytes_read judgement_of command_in fitting all_commands command_of table_line is_clean header_is_clean tail_is_clean tail_word tail_of header_of seen_in poison_in packet_from crc_of remainder divide plus zeros divisor coefficients bits_below bits_of number_of xor irtry_in
latest-none = refl

latest-accepted : latest One (Land read_1 Accepted ∷ good) ≡ read_packet
unfolding latest training_flit is_training mode pending run training accepted read_of is_null_alone is_null zero_flit has_length lng_of word_of half_of bytes_read judgement_of command_in fitting all_commands command_of table_line is_clean header_is_clean tail_is_clean tail_word tail_of header_of seen_in poison_in packet_from crc_of remainder divide plus zeros divisor coefficients bits_below bits_of number_of xor irtry_in
latest-accepted = refl

latest-poisoned : latest One (Land zero_flit Quiet ∷ Land poisoned_1 Poisoned ∷ good) ≡ record read_packet { poisoned = true }
unfolding latest training_flit is_training mode pending run training accepted read_of is_null_alone is_null zero_flit has_length lng_of word_of half_of bytes_read judgement_of command_in fitting all_commands command_of table_line is_clean header_is_clean tail_is_clean tail_word tail_of header_of seen_in poison_in packet_from crc_of remainder divide plus zeros divisor coefficients bits_below bits_of number_of xor irtry_in
latest-poisoned = refl

latest-repeat : latest One (Land poisoned_1 Repeat ∷ Land read_1 Accepted ∷ good) ≡ read_packet
unfolding latest training_flit is_training mode pending run training accepted read_of is_null_alone is_null zero_flit has_length lng_of word_of half_of bytes_read judgement_of command_in fitting all_commands command_of table_line is_clean header_is_clean tail_is_clean tail_word tail_of header_of seen_in poison_in packet_from crc_of remainder divide plus zeros divisor coefficients bits_below bits_of number_of xor irtry_in
latest-repeat = refl

-- what a sender at the same end sees
view-new : receiver_view One [] ≡ record { mode = Train; rrp = 0 }
unfolding training_flit is_training mode pending run training accepted read_of is_null_alone is_null zero_flit has_length lng_of word_of half_of bytes_read judgement_of command_in fitting all_commands command_of table_line is_clean header_is_clean tail_is_clean tail_word tail_of header_of seen_in poison_in packet_from crc_of remainder divide plus zeros divisor coefficients bits_below bits_of number_of xor irtry_in
view-new = refl

view-accepted : receiver_view One (Land read_1 Accepted ∷ good) ≡ record { mode = Good; rrp = 1 }
unfolding training_flit is_training mode pending run training accepted read_of is_null_alone is_null zero_flit has_length lng_of word_of half_of bytes_read judgement_of command_in fitting all_commands command_of table_line is_clean header_is_clean tail_is_clean tail_word tail_of header_of seen_in poison_in packet_from crc_of remainder divide plus zeros divisor coefficients bits_below bits_of number_of xor irtry_in
view-accepted = refl

view-unlocked : receiver_view One (Unlock ∷ Land read_1 Accepted ∷ good) ≡ record { mode = Abort; rrp = 1 }
unfolding training_flit is_training mode pending run training accepted read_of is_null_alone is_null zero_flit has_length lng_of word_of half_of bytes_read judgement_of command_in fitting all_commands command_of table_line is_clean header_is_clean tail_is_clean tail_word tail_of header_of seen_in poison_in packet_from crc_of remainder divide plus zeros divisor coefficients bits_below bits_of number_of xor irtry_in
view-unlocked = refl

-- landings with the packet
landing-null : landing_of One good zero_flit ≡ record { outcome = outcomes.Quiet; rrp = None; checked = true }
unfolding latest training_flit is_training mode pending run training accepted landing_view reception_by reception_of read_of is_null_alone is_null zero_flit has_length lng_of word_of half_of bytes_read judgement_of command_in fitting all_commands command_of table_line is_clean header_is_clean tail_is_clean tail_word tail_of header_of seen_in poison_in packet_from crc_of remainder divide plus zeros divisor coefficients bits_below bits_of number_of xor irtry_in
landing-null = refl

landing-accepted : landing_of One good read_1 ≡ record { outcome = outcomes.Accepted read_packet; rrp = Some 0; checked = true }
unfolding latest training_flit is_training mode pending run training accepted landing_view reception_by reception_of read_of is_null_alone is_null zero_flit has_length lng_of word_of half_of bytes_read judgement_of command_in fitting all_commands command_of table_line is_clean header_is_clean tail_is_clean tail_word tail_of header_of seen_in poison_in packet_from crc_of remainder divide plus zeros divisor coefficients bits_below bits_of number_of xor irtry_in
landing-accepted = refl

landing-poisoned : landing_of One good poisoned_1 ≡ record { outcome = outcomes.Poisoned (record read_packet { poisoned = true }); rrp = Some 0; checked = true }
unfolding latest training_flit is_training mode pending run training accepted landing_view reception_by reception_of read_of is_null_alone is_null zero_flit has_length lng_of word_of half_of bytes_read judgement_of command_in fitting all_commands command_of table_line is_clean header_is_clean tail_is_clean tail_word tail_of header_of seen_in poison_in packet_from crc_of remainder divide plus zeros divisor coefficients bits_below bits_of number_of xor irtry_in
landing-poisoned = refl

landing-lost : landing_of One waiting read_1 ≡ record { outcome = outcomes.Quiet; rrp = None; checked = false }
unfolding latest training_flit is_training mode pending run training accepted landing_view reception_by reception_of read_of is_null_alone is_null zero_flit has_length lng_of word_of half_of bytes_read judgement_of command_in fitting all_commands command_of table_line is_clean header_is_clean tail_is_clean tail_word tail_of header_of seen_in poison_in packet_from crc_of remainder divide plus zeros divisor coefficients bits_below bits_of number_of xor irtry_in
landing-lost = refl
