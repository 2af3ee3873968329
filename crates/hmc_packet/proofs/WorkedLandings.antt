-- Landings worked, one flit after another. The flits are those of a model outside this repository.
use Rattle.std.proofs.Common.{◌≡◌, ℕ, List, [], ◌∷◌, ◌++◌, length, replicate, Some, None, refl}
use mathlib.Core.Bool.{xor}
use Rattle.hmc_codes.specs.declared.profile.Profile.{Profile}
use Rattle.hmc_codes.specs.declared.profile.Profile.TheVariants.{One, Two}
use Rattle.hmc_codes.specs.Codes.{all_commands, command_of}
use Rattle.hmc_codes.specs.Flit.{zero_flit}
use Rattle.hmc_codes.specs.Table.{table_line}
use Rattle.hmc_crc.specs.Bits.{bits_below, bits_of, number_of}
use Rattle.hmc_crc.specs.Remainder.{coefficients, divisor, zeros, plus, divide, remainder, crc_of}
use Rattle.hmc_packet.specs.declared.bad.Bad.TheVariants as bads
use Rattle.hmc_packet.specs.declared.kind.Kind.TheVariants.{Start, Clear}
use Rattle.hmc_packet.specs.declared.landed.Landed.TheVariants as words
use Rattle.hmc_packet.specs.declared.outcome.Outcome.TheVariants.{Quiet, Trained, Gathered, Accepted, Poisoned, Repeat, AbortedBad, AbortedOrder, Ran}
use Rattle.hmc_packet.specs.declared.view.Mode.{Mode}
use Rattle.hmc_packet.specs.declared.view.Mode.TheVariants.{Train, Abort, Good}
use Rattle.hmc_packet.specs.Header.{header_of, header_is_clean}
use Rattle.hmc_packet.specs.Irtry.{irtry_in}
use Rattle.hmc_packet.specs.Landings.{ReceiverEntry, mode, pending, run, is_training, training, accepted, pointer_of}
use Rattle.hmc_packet.specs.Landings.ReceiverEntry.{Land, Unlock}
use Rattle.hmc_packet.specs.Packet.{null_packet}
use Rattle.hmc_packet.specs.Parts.{word_of, half_of, lng_of}
use Rattle.hmc_packet.specs.Reading.{is_null, is_null_alone, has_length, fitting, command_in, is_clean, poison_in, packet_from, seen_in, judgement_of, bytes_read, read_of}
use Rattle.hmc_packet.specs.Receptions.{LandingView, landing_view, unchecked, checked, reception_by, reception_of, landing_entry, landed_with}
use Rattle.hmc_packet.specs.Spelling.{training_flit}
use Rattle.hmc_packet.specs.Tail.{tail_word, tail_is_clean, tail_of}

-- IRTRYs and a PRET that return pointer 5
abbrev start : List ℕ
start = (0x83 ∷ 0 ∷ 0 ∷ 0 ∷ 0 ∷ 0 ∷ 0 ∷ 0 ∷ 5 ∷ 2 ∷ 0 ∷ 0 ∷ 0xca ∷ 0x24 ∷ 0x2e ∷ 9 ∷ [])

abbrev clear : List ℕ
clear = (0x83 ∷ 0 ∷ 0 ∷ 0 ∷ 0 ∷ 0 ∷ 0 ∷ 0 ∷ 5 ∷ 4 ∷ 0 ∷ 0 ∷ 3 ∷ 0xdc ∷ 0x22 ∷ 0x6d ∷ [])

abbrev pret : List ℕ
pret = (0x81 ∷ 0 ∷ 0 ∷ 0 ∷ 0 ∷ 0 ∷ 0 ∷ 0 ∷ 5 ∷ 0 ∷ 0 ∷ 0 ∷ 0xcf ∷ 0xe5 ∷ 0x3f ∷ 0xd ∷ [])

-- the three flits of a wr32 of zeros: the second is like a NULL
abbrev write_1 : List ℕ
write_1 = (0x89 ∷ 1 ∷ 0 ∷ 0 ∷ 0 ∷ 0 ∷ 0 ∷ 0 ∷ 0 ∷ 0 ∷ 0 ∷ 0 ∷ 0 ∷ 0 ∷ 0 ∷ 0 ∷ [])

abbrev write_2 : List ℕ
write_2 = (0 ∷ 0 ∷ 0 ∷ 0 ∷ 0 ∷ 0 ∷ 0 ∷ 0 ∷ 0 ∷ 0 ∷ 0 ∷ 0 ∷ 0 ∷ 0 ∷ 0 ∷ 0 ∷ [])

abbrev write_3 : List ℕ
write_3 = (0 ∷ 0 ∷ 0 ∷ 0 ∷ 0 ∷ 0 ∷ 0 ∷ 0 ∷ 0 ∷ 6 ∷ 4 ∷ 0 ∷ 0x89 ∷ 0x12 ∷ 0xaf ∷ 0xe8 ∷ [])

abbrev write_3_changed : List ℕ
write_3_changed = (0 ∷ 0 ∷ 0 ∷ 0 ∷ 0 ∷ 0 ∷ 0 ∷ 0 ∷ 0 ∷ 6 ∷ 4 ∷ 0 ∷ 0x89 ∷ 0x12 ∷ 0xaf ∷ 0xe9 ∷ [])

-- an rd16 with pointer 1 and sequence number 1; poisoned; and with other numbers
abbrev read_1 : List ℕ
read_1 = (0xb0 ∷ 0 ∷ 0 ∷ 0x40 ∷ 0 ∷ 0 ∷ 0 ∷ 0 ∷ 0 ∷ 2 ∷ 4 ∷ 0 ∷ 0xd ∷ 0x2e ∷ 0xe0 ∷ 0x99 ∷ [])

abbrev poisoned_1 : List ℕ
poisoned_1 = (0xb0 ∷ 0 ∷ 0 ∷ 0x40 ∷ 0 ∷ 0 ∷ 0 ∷ 0 ∷ 0 ∷ 2 ∷ 4 ∷ 0 ∷ 0xf2 ∷ 0xd1 ∷ 0x1f ∷ 0x66 ∷ [])

abbrev read_2 : List ℕ
read_2 = (0xb0 ∷ 0 ∷ 0 ∷ 0x40 ∷ 0 ∷ 0 ∷ 0 ∷ 0 ∷ 0 ∷ 4 ∷ 8 ∷ 0 ∷ 0xee ∷ 0x21 ∷ 0x92 ∷ 0x6e ∷ [])

abbrev read_2_1 : List ℕ
read_2_1 = (0xb0 ∷ 0 ∷ 0 ∷ 0x40 ∷ 0 ∷ 0 ∷ 0 ∷ 0 ∷ 0 ∷ 4 ∷ 4 ∷ 0 ∷ 0xc4 ∷ 0xd6 ∷ 0xec ∷ 0xfd ∷ [])

abbrev read_3_1 : List ℕ
read_3_1 = (0xb0 ∷ 0 ∷ 0 ∷ 0x40 ∷ 0 ∷ 0 ∷ 0 ∷ 0 ∷ 0 ∷ 6 ∷ 4 ∷ 0 ∷ 0x83 ∷ 0x7e ∷ 0x17 ∷ 0xde ∷ [])

abbrev read_0 : List ℕ
read_0 = (0xb0 ∷ 0 ∷ 0 ∷ 0x40 ∷ 0 ∷ 0 ∷ 0 ∷ 0 ∷ 0 ∷ 0 ∷ 0 ∷ 0 ∷ 0xac ∷ 0xd4 ∷ 0x31 ∷ 0xcb ∷ [])

-- the same in profile Two
abbrev two_read_1 : List ℕ
two_read_1 = (0xb0 ∷ 0 ∷ 0 ∷ 0x40 ∷ 0 ∷ 0 ∷ 0 ∷ 0 ∷ 0 ∷ 8 ∷ 0x40 ∷ 0 ∷ 0x22 ∷ 0x71 ∷ 0x23 ∷ 0x6e ∷ [])

abbrev two_read_0 : List ℕ
two_read_0 = (0xb0 ∷ 0 ∷ 0 ∷ 0x40 ∷ 0 ∷ 0 ∷ 0 ∷ 0 ∷ 0 ∷ 0 ∷ 0 ∷ 0 ∷ 0xac ∷ 0xd4 ∷ 0x31 ∷ 0xcb ∷ [])

-- a wr256 whose payload is fifteen Clears between eight zero bytes and eight
abbrev alike_first : List ℕ
alike_first = (0xcf ∷ 8 ∷ 0 ∷ 0 ∷ 0 ∷ 0 ∷ 0 ∷ 0 ∷ 0 ∷ 0 ∷ 0 ∷ 0 ∷ 0 ∷ 0 ∷ 0 ∷ 0 ∷ [])

abbrev alike_middle : List ℕ
alike_middle = (0x83 ∷ 0 ∷ 0 ∷ 0 ∷ 0 ∷ 0 ∷ 0 ∷ 0 ∷ 0 ∷ 4 ∷ 0 ∷ 0 ∷ 0xfb ∷ 0x22 ∷ 0x99 ∷ 0xc1 ∷ [])

abbrev alike_last : List ℕ
alike_last = (0 ∷ 0 ∷ 0 ∷ 0 ∷ 0 ∷ 0 ∷ 0 ∷ 0 ∷ 0 ∷ 0x22 ∷ 4 ∷ 0 ∷ 0x47 ∷ 0x2f ∷ 0x20 ∷ 0x3f ∷ [])

-- a receiver that is good and has gathered nothing, and one that waits for Clears
abbrev good : List ReceiverEntry
good = Land clear (Ran Clear) ∷ Land training_flit Trained ∷ []

abbrev waiting : List ReceiverEntry
waiting = Land training_flit Trained ∷ []

-- one that has seen so many training flits
abbrev trained : ℕ → List ReceiverEntry
trained count = replicate count (Land training_flit Quiet)

-- what a landing sees where these flits and packets were accepted and nothing is pending, and where
-- so many IRTRYs of each kind are last
abbrev after_packets : (flits packets : ℕ) → LandingView
after_packets flits packets = record { mode = Good; training = 0; run = λ kind. 0; flits = flits; packets = packets; pending = [] }

abbrev after_irtrys : Mode → ℕ → LandingView
after_irtrys mode count = record { mode = mode; training = 0; run = λ kind. count; flits = 0; packets = 0; pending = [] }

-- the entries after these flits land
abbrev after_flits : Profile → List ReceiverEntry → List (List ℕ) → List ReceiverEntry
after_flits profile past [] = past
after_flits profile past (flit ∷ rest) = after_flits profile (landing_entry profile past flit ∷ past) rest

-- ---- modes

mode-new : mode [] ≡ Train
unfolding mode
mode-new = refl

mode-trained : mode waiting ≡ Abort
unfolding mode
mode-trained = refl

mode-good : mode good ≡ Good
unfolding mode
mode-good = refl

-- a run of Starts leaves a receiver where it is, and before training so does everything
mode-starts : mode (Land start (Ran Start) ∷ waiting) ≡ Abort
unfolding mode
mode-starts = refl

mode-untrained : mode (Land clear (Ran Clear) ∷ []) ≡ Train
unfolding mode
mode-untrained = refl

mode-bad : mode (Land read_1 (AbortedBad bads.Crc) ∷ good) ≡ Abort
unfolding mode
mode-bad = refl

mode-order : mode (Land read_2 AbortedOrder ∷ good) ≡ Abort
unfolding mode
mode-order = refl

mode-repeat : mode (Land read_1 Repeat ∷ good) ≡ Good
unfolding mode
mode-repeat = refl

-- an unlock in each mode
mode-unlocked : mode (Unlock ∷ good) ≡ Abort
unfolding mode
mode-unlocked = refl

mode-unlocked_in_abort : mode (Unlock ∷ waiting) ≡ Abort
unfolding mode
mode-unlocked_in_abort = refl

mode-unlocked_in_train : mode (Unlock ∷ trained 7) ≡ Train
unfolding mode
mode-unlocked_in_train = refl

-- ---- gathered flits

pending-one : pending (Land write_1 Gathered ∷ good) ≡ write_1 ∷ []
unfolding pending
pending-one = refl

pending-two : pending (Land write_2 Gathered ∷ Land write_1 Gathered ∷ good) ≡ write_1 ∷ write_2 ∷ []
unfolding pending
pending-two = refl

pending-whole : pending (Land write_3 Accepted ∷ Land write_2 Gathered ∷ Land write_1 Gathered ∷ good) ≡ []
unfolding pending
pending-whole = refl

pending-unlocked : pending (Unlock ∷ Land write_1 Gathered ∷ good) ≡ []
unfolding pending
pending-unlocked = refl

-- ---- runs and training

run-two : run One Clear (Land clear Quiet ∷ Land clear (Ran Clear) ∷ []) ≡ 2
unfolding run read_of is_null_alone is_null zero_flit has_length lng_of word_of half_of bytes_read judgement_of command_in fitting all_commands command_of table_line is_clean header_is_clean tail_is_clean tail_word tail_of header_of seen_in poison_in packet_from crc_of remainder divide plus zeros divisor coefficients bits_below bits_of number_of xor irtry_in
run-two = refl

-- a NULL ends a run, and so do an IRTRY of the other kind, the last flit of training and an unlock
run-null : run One Clear (Land zero_flit Quiet ∷ Land clear Quiet ∷ []) ≡ 0
unfolding run read_of is_null_alone is_null zero_flit has_length lng_of word_of half_of bytes_read judgement_of command_in fitting all_commands command_of table_line is_clean header_is_clean tail_is_clean tail_word tail_of header_of seen_in poison_in packet_from crc_of remainder divide plus zeros divisor coefficients bits_below bits_of number_of xor irtry_in
run-null = refl

run-other : run One Clear (Land start Quiet ∷ Land clear Quiet ∷ []) ≡ 0
unfolding run read_of is_null_alone is_null zero_flit has_length lng_of word_of half_of bytes_read judgement_of command_in fitting all_commands command_of table_line is_clean header_is_clean tail_is_clean tail_word tail_of header_of seen_in poison_in packet_from crc_of remainder divide plus zeros divisor coefficients bits_below bits_of number_of xor irtry_in
run-other = refl

run-trained : run One Clear (Land clear Trained ∷ Land clear Quiet ∷ []) ≡ 0
unfolding run read_of is_null_alone is_null zero_flit has_length lng_of word_of half_of bytes_read judgement_of command_in fitting all_commands command_of table_line is_clean header_is_clean tail_is_clean tail_word tail_of header_of seen_in poison_in packet_from crc_of remainder divide plus zeros divisor coefficients bits_below bits_of number_of xor irtry_in
run-trained = refl

run-unlocked : run One Clear (Unlock ∷ Land clear Quiet ∷ []) ≡ 0
unfolding run read_of is_null_alone is_null zero_flit has_length lng_of word_of half_of bytes_read judgement_of command_in fitting all_commands command_of table_line is_clean header_is_clean tail_is_clean tail_word tail_of header_of seen_in poison_in packet_from crc_of remainder divide plus zeros divisor coefficients bits_below bits_of number_of xor irtry_in
run-unlocked = refl

training-seven : training One (Land clear Quiet ∷ trained 6) ≡ 7
unfolding training is_training training_flit read_of is_null_alone is_null zero_flit has_length lng_of word_of half_of bytes_read judgement_of command_in fitting all_commands command_of table_line is_clean header_is_clean tail_is_clean tail_word tail_of header_of seen_in poison_in packet_from crc_of remainder divide plus zeros divisor coefficients bits_below bits_of number_of xor irtry_in
training-seven = refl

training-null : training One (Land zero_flit Quiet ∷ trained 6) ≡ 0
unfolding training is_training training_flit read_of is_null_alone is_null zero_flit has_length lng_of word_of half_of bytes_read judgement_of command_in fitting all_commands command_of table_line is_clean header_is_clean tail_is_clean tail_word tail_of header_of seen_in poison_in packet_from crc_of remainder divide plus zeros divisor coefficients bits_below bits_of number_of xor irtry_in
training-null = refl

training-unlocked : training One (Unlock ∷ trained 6) ≡ 0
unfolding training is_training training_flit read_of is_null_alone is_null zero_flit has_length lng_of word_of half_of bytes_read judgement_of command_in fitting all_commands command_of table_line is_clean header_is_clean tail_is_clean tail_word tail_of header_of seen_in poison_in packet_from crc_of remainder divide plus zeros divisor coefficients bits_below bits_of number_of xor irtry_in
training-unlocked = refl

-- ---- accepted packets: a poisoned one counts, and a repeat doesn't

pointer-none : pointer_of One good ≡ 0
unfolding accepted pending read_of is_null_alone is_null zero_flit has_length lng_of word_of half_of bytes_read judgement_of command_in fitting all_commands command_of table_line is_clean header_is_clean tail_is_clean tail_word tail_of header_of seen_in poison_in packet_from crc_of remainder divide plus zeros divisor coefficients bits_below bits_of number_of xor irtry_in
pointer-none = refl

pointer-write : pointer_of One (Land write_3 Accepted ∷ Land write_2 Gathered ∷ Land write_1 Gathered ∷ good) ≡ 3
unfolding accepted pending read_of is_null_alone is_null zero_flit has_length lng_of word_of half_of bytes_read judgement_of command_in fitting all_commands command_of table_line is_clean header_is_clean tail_is_clean tail_word tail_of header_of seen_in poison_in packet_from crc_of remainder divide plus zeros divisor coefficients bits_below bits_of number_of xor irtry_in
pointer-write = refl

pointer-poisoned : pointer_of One (Land poisoned_1 Poisoned ∷ good) ≡ 1
unfolding accepted pending read_of is_null_alone is_null zero_flit has_length lng_of word_of half_of bytes_read judgement_of command_in fitting all_commands command_of table_line is_clean header_is_clean tail_is_clean tail_word tail_of header_of seen_in poison_in packet_from crc_of remainder divide plus zeros divisor coefficients bits_below bits_of number_of xor irtry_in
pointer-poisoned = refl

pointer-repeat : pointer_of One (Land read_1 Repeat ∷ Land read_1 Accepted ∷ good) ≡ 1
unfolding accepted pending read_of is_null_alone is_null zero_flit has_length lng_of word_of half_of bytes_read judgement_of command_in fitting all_commands command_of table_line is_clean header_is_clean tail_is_clean tail_word tail_of header_of seen_in poison_in packet_from crc_of remainder divide plus zeros divisor coefficients bits_below bits_of number_of xor irtry_in
pointer-repeat = refl

accepted-poisoned : length (accepted One (Land poisoned_1 Poisoned ∷ good)) ≡ 1
unfolding accepted pending read_of is_null_alone is_null zero_flit has_length lng_of word_of half_of bytes_read judgement_of command_in fitting all_commands command_of table_line is_clean header_is_clean tail_is_clean tail_word tail_of header_of seen_in poison_in packet_from crc_of remainder divide plus zeros divisor coefficients bits_below bits_of number_of xor irtry_in
accepted-poisoned = refl

-- ---- in Train

train-seventh : reception_of One (trained 6) training_flit ≡ checked Quiet None
unfolding training_flit is_training mode pending run training accepted landing_view reception_by reception_of read_of is_null_alone is_null zero_flit has_length lng_of word_of half_of bytes_read judgement_of command_in fitting all_commands command_of table_line is_clean header_is_clean tail_is_clean tail_word tail_of header_of seen_in poison_in packet_from crc_of remainder divide plus zeros divisor coefficients bits_below bits_of number_of xor irtry_in
train-seventh = refl

train-eighth : reception_of One (trained 7) training_flit ≡ checked Trained None
unfolding training_flit is_training mode pending run training accepted landing_view reception_by reception_of read_of is_null_alone is_null zero_flit has_length lng_of word_of half_of bytes_read judgement_of command_in fitting all_commands command_of table_line is_clean header_is_clean tail_is_clean tail_word tail_of header_of seen_in poison_in packet_from crc_of remainder divide plus zeros divisor coefficients bits_below bits_of number_of xor irtry_in
train-eighth = refl

-- an IRTRY trains too, and its pointer isn't taken
train-irtry : reception_of One (trained 7) clear ≡ checked Trained None
unfolding training_flit is_training mode pending run training accepted landing_view reception_by reception_of read_of is_null_alone is_null zero_flit has_length lng_of word_of half_of bytes_read judgement_of command_in fitting all_commands command_of table_line is_clean header_is_clean tail_is_clean tail_word tail_of header_of seen_in poison_in packet_from crc_of remainder divide plus zeros divisor coefficients bits_below bits_of number_of xor irtry_in
train-irtry = refl

train-null : reception_of One (trained 7) zero_flit ≡ unchecked Quiet
unfolding training_flit is_training mode pending run training accepted landing_view reception_by reception_of read_of is_null_alone is_null zero_flit has_length lng_of word_of half_of bytes_read judgement_of command_in fitting all_commands command_of table_line is_clean header_is_clean tail_is_clean tail_word tail_of header_of seen_in poison_in packet_from crc_of remainder divide plus zeros divisor coefficients bits_below bits_of number_of xor irtry_in
train-null = refl

train-unlocked : reception_of One (Unlock ∷ trained 7) training_flit ≡ checked Quiet None
unfolding training_flit is_training mode pending run training accepted landing_view reception_by reception_of read_of is_null_alone is_null zero_flit has_length lng_of word_of half_of bytes_read judgement_of command_in fitting all_commands command_of table_line is_clean header_is_clean tail_is_clean tail_word tail_of header_of seen_in poison_in packet_from crc_of remainder divide plus zeros divisor coefficients bits_below bits_of number_of xor irtry_in
train-unlocked = refl

-- ---- in Abort

abort-null : reception_of One waiting zero_flit ≡ unchecked Quiet
unfolding training_flit is_training mode pending run training accepted landing_view reception_by reception_of read_of is_null_alone is_null zero_flit has_length lng_of word_of half_of bytes_read judgement_of command_in fitting all_commands command_of table_line is_clean header_is_clean tail_is_clean tail_word tail_of header_of seen_in poison_in packet_from crc_of remainder divide plus zeros divisor coefficients bits_below bits_of number_of xor irtry_in
abort-null = refl

abort-clear : reception_of One waiting clear ≡ checked Quiet None
unfolding training_flit is_training mode pending run training accepted landing_view reception_by reception_of read_of is_null_alone is_null zero_flit has_length lng_of word_of half_of bytes_read judgement_of command_in fitting all_commands command_of table_line is_clean header_is_clean tail_is_clean tail_word tail_of header_of seen_in poison_in packet_from crc_of remainder divide plus zeros divisor coefficients bits_below bits_of number_of xor irtry_in
abort-clear = refl

-- the 24th of a run ends it, and from it on the pointers are taken
abort-23 : reception_by One (after_irtrys Abort 22) clear ≡ checked Quiet None
unfolding reception_by read_of is_null_alone is_null zero_flit has_length lng_of word_of half_of bytes_read judgement_of command_in fitting all_commands command_of table_line is_clean header_is_clean tail_is_clean tail_word tail_of header_of seen_in poison_in packet_from crc_of remainder divide plus zeros divisor coefficients bits_below bits_of number_of xor irtry_in
abort-23 = refl

abort-24 : reception_by One (after_irtrys Abort 23) clear ≡ checked (Ran Clear) (Some 5)
unfolding reception_by read_of is_null_alone is_null zero_flit has_length lng_of word_of half_of bytes_read judgement_of command_in fitting all_commands command_of table_line is_clean header_is_clean tail_is_clean tail_word tail_of header_of seen_in poison_in packet_from crc_of remainder divide plus zeros divisor coefficients bits_below bits_of number_of xor irtry_in
abort-24 = refl

abort-25 : reception_by One (after_irtrys Abort 24) start ≡ checked Quiet (Some 5)
unfolding reception_by read_of is_null_alone is_null zero_flit has_length lng_of word_of half_of bytes_read judgement_of command_in fitting all_commands command_of table_line is_clean header_is_clean tail_is_clean tail_word tail_of header_of seen_in poison_in packet_from crc_of remainder divide plus zeros divisor coefficients bits_below bits_of number_of xor irtry_in
abort-25 = refl

-- the flits of a packet full of Clears are all quiet: fifteen of its seventeen are user data
look_alike : after_flits One waiting (alike_first ∷ (replicate 15 alike_middle ++ alike_last ∷ [])) ≡ Land alike_last Quiet ∷ (replicate 15 (Land alike_middle Quiet) ++ Land alike_first Quiet ∷ waiting)
unfolding training_flit is_training mode pending run training accepted landing_view reception_by reception_of read_of is_null_alone is_null zero_flit has_length lng_of word_of half_of bytes_read judgement_of command_in fitting all_commands command_of table_line is_clean header_is_clean tail_is_clean tail_word tail_of header_of seen_in poison_in packet_from crc_of remainder divide plus zeros divisor coefficients bits_below bits_of number_of xor irtry_in
look_alike = refl

look_alike-mode : mode (Land alike_last Quiet ∷ (replicate 15 (Land alike_middle Quiet) ++ Land alike_first Quiet ∷ waiting)) ≡ Abort
unfolding mode
look_alike-mode = refl

-- ---- in Good

-- a NULL between packets, and the same flit within one
good-null : reception_of One good zero_flit ≡ checked Quiet None
unfolding training_flit is_training mode pending run training accepted landing_view reception_by reception_of read_of is_null_alone is_null zero_flit has_length lng_of word_of half_of bytes_read judgement_of command_in fitting all_commands command_of table_line is_clean header_is_clean tail_is_clean tail_word tail_of header_of seen_in poison_in packet_from crc_of remainder divide plus zeros divisor coefficients bits_below bits_of number_of xor irtry_in
good-null = refl

good-null_within : reception_of One (Land write_1 Gathered ∷ good) zero_flit ≡ unchecked Gathered
unfolding training_flit is_training mode pending run training accepted landing_view reception_by reception_of read_of is_null_alone is_null zero_flit has_length lng_of word_of half_of bytes_read judgement_of command_in fitting all_commands command_of table_line is_clean header_is_clean tail_is_clean tail_word tail_of header_of seen_in poison_in packet_from crc_of remainder divide plus zeros divisor coefficients bits_below bits_of number_of xor irtry_in
good-null_within = refl

good-training : reception_of One good training_flit ≡ unchecked (AbortedBad bads.Length)
unfolding training_flit is_training mode pending run training accepted landing_view reception_by reception_of read_of is_null_alone is_null zero_flit has_length lng_of word_of half_of bytes_read judgement_of command_in fitting all_commands command_of table_line is_clean header_is_clean tail_is_clean tail_word tail_of header_of seen_in poison_in packet_from crc_of remainder divide plus zeros divisor coefficients bits_below bits_of number_of xor irtry_in
good-training = refl

good-first : reception_of One good write_1 ≡ unchecked Gathered
unfolding training_flit is_training mode pending run training accepted landing_view reception_by reception_of read_of is_null_alone is_null zero_flit has_length lng_of word_of half_of bytes_read judgement_of command_in fitting all_commands command_of table_line is_clean header_is_clean tail_is_clean tail_word tail_of header_of seen_in poison_in packet_from crc_of remainder divide plus zeros divisor coefficients bits_below bits_of number_of xor irtry_in
good-first = refl

good-whole : reception_of One (Land write_2 Gathered ∷ Land write_1 Gathered ∷ good) write_3 ≡ checked Accepted (Some 0)
unfolding training_flit is_training mode pending run training accepted landing_view reception_by reception_of read_of is_null_alone is_null zero_flit has_length lng_of word_of half_of bytes_read judgement_of command_in fitting all_commands command_of table_line is_clean header_is_clean tail_is_clean tail_word tail_of header_of seen_in poison_in packet_from crc_of remainder divide plus zeros divisor coefficients bits_below bits_of number_of xor irtry_in
good-whole = refl

good-changed : reception_of One (Land write_2 Gathered ∷ Land write_1 Gathered ∷ good) write_3_changed ≡ unchecked (AbortedBad bads.Crc)
unfolding training_flit is_training mode pending run training accepted landing_view reception_by reception_of read_of is_null_alone is_null zero_flit has_length lng_of word_of half_of bytes_read judgement_of command_in fitting all_commands command_of table_line is_clean header_is_clean tail_is_clean tail_word tail_of header_of seen_in poison_in packet_from crc_of remainder divide plus zeros divisor coefficients bits_below bits_of number_of xor irtry_in
good-changed = refl

good-pret : reception_of One good pret ≡ checked Quiet (Some 5)
unfolding training_flit is_training mode pending run training accepted landing_view reception_by reception_of read_of is_null_alone is_null zero_flit has_length lng_of word_of half_of bytes_read judgement_of command_in fitting all_commands command_of table_line is_clean header_is_clean tail_is_clean tail_word tail_of header_of seen_in poison_in packet_from crc_of remainder divide plus zeros divisor coefficients bits_below bits_of number_of xor irtry_in
good-pret = refl

good-second_irtry : reception_of One good clear ≡ checked Quiet None
unfolding training_flit is_training mode pending run training accepted landing_view reception_by reception_of read_of is_null_alone is_null zero_flit has_length lng_of word_of half_of bytes_read judgement_of command_in fitting all_commands command_of table_line is_clean header_is_clean tail_is_clean tail_word tail_of header_of seen_in poison_in packet_from crc_of remainder divide plus zeros divisor coefficients bits_below bits_of number_of xor irtry_in
good-second_irtry = refl

good-24 : reception_by One (after_irtrys Good 23) start ≡ checked (Ran Start) (Some 5)
unfolding reception_by read_of is_null_alone is_null zero_flit has_length lng_of word_of half_of bytes_read judgement_of command_in fitting all_commands command_of table_line is_clean header_is_clean tail_is_clean tail_word tail_of header_of seen_in poison_in packet_from crc_of remainder divide plus zeros divisor coefficients bits_below bits_of number_of xor irtry_in
good-24 = refl

good-25 : reception_by One (after_irtrys Good 24) clear ≡ checked Quiet (Some 5)
unfolding reception_by read_of is_null_alone is_null zero_flit has_length lng_of word_of half_of bytes_read judgement_of command_in fitting all_commands command_of table_line is_clean header_is_clean tail_is_clean tail_word tail_of header_of seen_in poison_in packet_from crc_of remainder divide plus zeros divisor coefficients bits_below bits_of number_of xor irtry_in
good-25 = refl

good-accepted : reception_of One good read_1 ≡ checked Accepted (Some 0)
unfolding training_flit is_training mode pending run training accepted landing_view reception_by reception_of read_of is_null_alone is_null zero_flit has_length lng_of word_of half_of bytes_read judgement_of command_in fitting all_commands command_of table_line is_clean header_is_clean tail_is_clean tail_word tail_of header_of seen_in poison_in packet_from crc_of remainder divide plus zeros divisor coefficients bits_below bits_of number_of xor irtry_in
good-accepted = refl

good-poisoned : reception_of One good poisoned_1 ≡ checked Poisoned (Some 0)
unfolding training_flit is_training mode pending run training accepted landing_view reception_by reception_of read_of is_null_alone is_null zero_flit has_length lng_of word_of half_of bytes_read judgement_of command_in fitting all_commands command_of table_line is_clean header_is_clean tail_is_clean tail_word tail_of header_of seen_in poison_in packet_from crc_of remainder divide plus zeros divisor coefficients bits_below bits_of number_of xor irtry_in
good-poisoned = refl

good-after_poisoned : reception_of One (Land poisoned_1 Poisoned ∷ good) read_2 ≡ checked Accepted (Some 0)
unfolding training_flit is_training mode pending run training accepted landing_view reception_by reception_of read_of is_null_alone is_null zero_flit has_length lng_of word_of half_of bytes_read judgement_of command_in fitting all_commands command_of table_line is_clean header_is_clean tail_is_clean tail_word tail_of header_of seen_in poison_in packet_from crc_of remainder divide plus zeros divisor coefficients bits_below bits_of number_of xor irtry_in
good-after_poisoned = refl

good-repeat : reception_of One (Land read_1 Accepted ∷ good) read_1 ≡ checked Repeat (Some 0)
unfolding training_flit is_training mode pending run training accepted landing_view reception_by reception_of read_of is_null_alone is_null zero_flit has_length lng_of word_of half_of bytes_read judgement_of command_in fitting all_commands command_of table_line is_clean header_is_clean tail_is_clean tail_word tail_of header_of seen_in poison_in packet_from crc_of remainder divide plus zeros divisor coefficients bits_below bits_of number_of xor irtry_in
good-repeat = refl

-- ---- which packet is next: both numbers go on from the accepted packets

-- the pointer fits alone, and the sequence number alone
order-pointer : reception_by One (after_packets 1 1) read_2_1 ≡ checked AbortedOrder (Some 0)
unfolding reception_by read_of is_null_alone is_null zero_flit has_length lng_of word_of half_of bytes_read judgement_of command_in fitting all_commands command_of table_line is_clean header_is_clean tail_is_clean tail_word tail_of header_of seen_in poison_in packet_from crc_of remainder divide plus zeros divisor coefficients bits_below bits_of number_of xor irtry_in
order-pointer = refl

order-sequence : reception_by One (after_packets 8 8) read_3_1 ≡ checked Repeat (Some 0)
unfolding reception_by read_of is_null_alone is_null zero_flit has_length lng_of word_of half_of bytes_read judgement_of command_in fitting all_commands command_of table_line is_clean header_is_clean tail_is_clean tail_word tail_of header_of seen_in poison_in packet_from crc_of remainder divide plus zeros divisor coefficients bits_below bits_of number_of xor irtry_in
order-sequence = refl

-- after eight packets of one flit the first comes again, though its sequence number is the next one
order-eight : reception_by One (after_packets 8 8) read_1 ≡ checked Repeat (Some 0)
unfolding reception_by read_of is_null_alone is_null zero_flit has_length lng_of word_of half_of bytes_read judgement_of command_in fitting all_commands command_of table_line is_clean header_is_clean tail_is_clean tail_word tail_of header_of seen_in poison_in packet_from crc_of remainder divide plus zeros divisor coefficients bits_below bits_of number_of xor irtry_in
order-eight = refl

order-511 : reception_by One (after_packets 511 511) read_0 ≡ checked Accepted (Some 0)
unfolding reception_by read_of is_null_alone is_null zero_flit has_length lng_of word_of half_of bytes_read judgement_of command_in fitting all_commands command_of table_line is_clean header_is_clean tail_is_clean tail_word tail_of header_of seen_in poison_in packet_from crc_of remainder divide plus zeros divisor coefficients bits_below bits_of number_of xor irtry_in
order-511 = refl

order-2047 : reception_by Two (after_packets 2047 2047) two_read_0 ≡ checked Accepted (Some 0)
unfolding reception_by read_of is_null_alone is_null zero_flit has_length lng_of word_of half_of bytes_read judgement_of command_in fitting all_commands command_of table_line is_clean header_is_clean tail_is_clean tail_word tail_of header_of seen_in poison_in packet_from crc_of remainder divide plus zeros divisor coefficients bits_below bits_of number_of xor irtry_in
order-2047 = refl

order-511_in_two : reception_by Two (after_packets 511 511) two_read_0 ≡ checked Repeat (Some 0)
unfolding reception_by read_of is_null_alone is_null zero_flit has_length lng_of word_of half_of bytes_read judgement_of command_in fitting all_commands command_of table_line is_clean header_is_clean tail_is_clean tail_word tail_of header_of seen_in poison_in packet_from crc_of remainder divide plus zeros divisor coefficients bits_below bits_of number_of xor irtry_in
order-511_in_two = refl

-- the repeats that are known: 255 flits behind in profile One, and 1,023 in profile Two
order-300 : reception_by One (after_packets 300 300) read_1 ≡ checked AbortedOrder (Some 0)
unfolding reception_by read_of is_null_alone is_null zero_flit has_length lng_of word_of half_of bytes_read judgement_of command_in fitting all_commands command_of table_line is_clean header_is_clean tail_is_clean tail_word tail_of header_of seen_in poison_in packet_from crc_of remainder divide plus zeros divisor coefficients bits_below bits_of number_of xor irtry_in
order-300 = refl

order-300_in_two : reception_by Two (after_packets 300 300) two_read_1 ≡ checked Repeat (Some 0)
unfolding reception_by read_of is_null_alone is_null zero_flit has_length lng_of word_of half_of bytes_read judgement_of command_in fitting all_commands command_of table_line is_clean header_is_clean tail_is_clean tail_word tail_of header_of seen_in poison_in packet_from crc_of remainder divide plus zeros divisor coefficients bits_below bits_of number_of xor irtry_in
order-300_in_two = refl

order-255 : reception_by One (after_packets 256 256) read_1 ≡ checked Repeat (Some 0)
unfolding reception_by read_of is_null_alone is_null zero_flit has_length lng_of word_of half_of bytes_read judgement_of command_in fitting all_commands command_of table_line is_clean header_is_clean tail_is_clean tail_word tail_of header_of seen_in poison_in packet_from crc_of remainder divide plus zeros divisor coefficients bits_below bits_of number_of xor irtry_in
order-255 = refl

order-256 : reception_by One (after_packets 257 257) read_1 ≡ checked AbortedOrder (Some 0)
unfolding reception_by read_of is_null_alone is_null zero_flit has_length lng_of word_of half_of bytes_read judgement_of command_in fitting all_commands command_of table_line is_clean header_is_clean tail_is_clean tail_word tail_of header_of seen_in poison_in packet_from crc_of remainder divide plus zeros divisor coefficients bits_below bits_of number_of xor irtry_in
order-256 = refl

order-1023 : reception_by Two (after_packets 1024 1024) two_read_1 ≡ checked Repeat (Some 0)
unfolding reception_by read_of is_null_alone is_null zero_flit has_length lng_of word_of half_of bytes_read judgement_of command_in fitting all_commands command_of table_line is_clean header_is_clean tail_is_clean tail_word tail_of header_of seen_in poison_in packet_from crc_of remainder divide plus zeros divisor coefficients bits_below bits_of number_of xor irtry_in
order-1023 = refl

order-1024 : reception_by Two (after_packets 1025 1025) two_read_1 ≡ checked AbortedOrder (Some 0)
unfolding reception_by read_of is_null_alone is_null zero_flit has_length lng_of word_of half_of bytes_read judgement_of command_in fitting all_commands command_of table_line is_clean header_is_clean tail_is_clean tail_word tail_of header_of seen_in poison_in packet_from crc_of remainder divide plus zeros divisor coefficients bits_below bits_of number_of xor irtry_in
order-1024 = refl

with-accepted : landed_with Accepted null_packet ≡ words.Accepted null_packet
with-accepted = refl

with-ran : landed_with (Ran Start) null_packet ≡ words.Ran Start
with-ran = refl

-- ---- a receiver from its beginning on

-- eight rd16s of one flit each
abbrev read_3 : List ℕ
read_3 = (0xb0 ∷ 0 ∷ 0 ∷ 0x40 ∷ 0 ∷ 0 ∷ 0 ∷ 0 ∷ 0 ∷ 6 ∷ 0xc ∷ 0 ∷ 0x4f ∷ 0xdb ∷ 0x43 ∷ 0x3c ∷ [])

abbrev read_4 : List ℕ
read_4 = (0xb0 ∷ 0 ∷ 0 ∷ 0x40 ∷ 0 ∷ 0 ∷ 0 ∷ 0 ∷ 0 ∷ 8 ∷ 0x10 ∷ 0 ∷ 0xff ∷ 0xb2 ∷ 0x6d ∷ 0xf4 ∷ [])

abbrev read_5 : List ℕ
read_5 = (0xb0 ∷ 0 ∷ 0 ∷ 0x40 ∷ 0 ∷ 0 ∷ 0 ∷ 0 ∷ 0 ∷ 0xa ∷ 0x14 ∷ 0 ∷ 0x5e ∷ 0x48 ∷ 0xbc ∷ 0xa6 ∷ [])

abbrev read_6 : List ℕ
read_6 = (0xb0 ∷ 0 ∷ 0 ∷ 0x40 ∷ 0 ∷ 0 ∷ 0 ∷ 0 ∷ 0 ∷ 0xc ∷ 0x18 ∷ 0 ∷ 0xbd ∷ 0x47 ∷ 0xce ∷ 0x51 ∷ [])

abbrev read_7 : List ℕ
read_7 = (0xb0 ∷ 0 ∷ 0 ∷ 0x40 ∷ 0 ∷ 0 ∷ 0 ∷ 0 ∷ 0 ∷ 0xe ∷ 0x1c ∷ 0 ∷ 0x1c ∷ 0xbd ∷ 0x1f ∷ 3 ∷ [])

abbrev read_8 : List ℕ
read_8 = (0xb0 ∷ 0 ∷ 0 ∷ 0x40 ∷ 0 ∷ 0 ∷ 0 ∷ 0 ∷ 0 ∷ 0x10 ∷ 0 ∷ 0 ∷ 0x43 ∷ 0x1a ∷ 0xf7 ∷ 0xa0 ∷ [])

-- it is trained, opened by 24 Clears, accepts eight packets, and then the first comes again
abbrev life : List ReceiverEntry
life = Land read_1 Repeat ∷ Land read_8 Accepted ∷ Land read_7 Accepted ∷ Land read_6 Accepted ∷ Land read_5 Accepted ∷ Land read_4 Accepted ∷ Land read_3 Accepted ∷ Land read_2 Accepted ∷ Land read_1 Accepted ∷ Land clear Quiet ∷ Land clear (Ran Clear) ∷ (replicate 23 (Land clear Quiet) ++ Land training_flit Trained ∷ replicate 7 (Land training_flit Quiet))

life-is : after_flits One [] (replicate 8 training_flit ++ replicate 25 clear ++ read_1 ∷ read_2 ∷ read_3 ∷ read_4 ∷ read_5 ∷ read_6 ∷ read_7 ∷ read_8 ∷ read_1 ∷ []) ≡ life
unfolding training_flit is_training mode pending run training accepted landing_view reception_by reception_of read_of is_null_alone is_null zero_flit has_length lng_of word_of half_of bytes_read judgement_of command_in fitting all_commands command_of table_line is_clean header_is_clean tail_is_clean tail_word tail_of header_of seen_in poison_in packet_from crc_of remainder divide plus zeros divisor coefficients bits_below bits_of number_of xor irtry_in
life-is = refl

life-view : landing_view One life ≡ record { mode = Good; training = 0; run = λ kind. 0; flits = 8; packets = 8; pending = [] }
unfolding training_flit is_training mode pending run training accepted landing_view reception_by reception_of read_of is_null_alone is_null zero_flit has_length lng_of word_of half_of bytes_read judgement_of command_in fitting all_commands command_of table_line is_clean header_is_clean tail_is_clean tail_word tail_of header_of seen_in poison_in packet_from crc_of remainder divide plus zeros divisor coefficients bits_below bits_of number_of xor irtry_in
life-view = refl
