-- A link's two directions by numbers, read off its list of entries.
use Rattle.std.specs.Prelude.{ℕ, ◌-◌, if◌then◌else◌, List, [], ◌∷◌, map, drop, filter, length}
use Rattle.hmc_codes.specs.Link.{LinkFields}
use Rattle.hmc_codes.specs.declared.profile.Profile.{Profile}
use Rattle.hmc_packet.specs.Landings.{pending, training}
use Rattle.hmc_packet.specs.Packet.{PacketFields, flits_of}
use Rattle.hmc_packet.specs.Parts.{lng_of}
use Rattle.hmc_send.specs.declared.toward.Toward.{Toward}
use Rattle.hmc_send.specs.declared.toward.Toward.TheVariants.{Forth, Back}
use Rattle.hmc_send.specs.Entries.{shows_pointer, unfinished, starts, others, go_back, is_open}
use Rattle.hmc_send.specs.LinkEntries.{LinkEntry, other, same_way, receiver_entries, accepted_packets, takes}
use Rattle.hmc_send.specs.LinkSenders.{sender_entries, queue_in}
use Rattle.hmc_send.specs.Places.{is_token}
use Rattle.hmc_wire.specs.FieldsAre.{half_after}
use Rattle.hmc_link_state.specs.State.{Setup, Side}
use Rattle.hmc_link_state.specs.Steps.{Link}

abbrev pub setup_of : LinkFields → Setup
setup_of link = record { line = link.line; tokens = link.tokens; retry = link.retry }

-- the stamp of the flit that was sent last in a direction with its return pointer, 0 where none was
unfoldable pub ack_sent_in : LinkFields → Toward → List LinkEntry → ℕ
ack_sent_in link d [] = 0
ack_sent_in link d (LinkEntry.sent way feed what flit ∷ past) =
    if same_way d way
    then (if shows_pointer what flit (unfinished (sender_entries link d past)) then length
    (accepted_packets link.profile (other d) past) else ack_sent_in link d past)
    else ack_sent_in link d past
ack_sent_in link d (_ ∷ past) = ack_sent_in link d past

-- the flits that pending ones lack, by the length that the first one names
abbrev pub lacking : List (List ℕ) → ℕ
lacking [] = 0
lacking (first ∷ rest) = lng_of first - length (first ∷ rest)

-- those after the landing that was the last one
unfoldable pub missing_in : Toward → List LinkEntry → ℕ
missing_in d [] = 0
missing_in d (LinkEntry.landed way mask flit outcome ∷ past) =
    if same_way d way then lacking
    (pending (receiver_entries d (LinkEntry.landed way mask flit outcome ∷ past)))
    else missing_in d past
missing_in d (_ ∷ past) = missing_in d past

-- flits of the packets that wait in the output queue
abbrev pub queue_flits : LinkFields → Toward → List LinkEntry → List ℕ
queue_flits link d past = map flits_of (queue_in link d past)

-- packets in the buffer: the token packets that were accepted and not taken
abbrev pub buffer_in : Profile → Toward → List LinkEntry → List PacketFields
buffer_in profile d past = drop (takes d past) (filter is_token (accepted_packets profile d past))

abbrev pub buffer_flits : Profile → Toward → List LinkEntry → List ℕ
buffer_flits profile d past = map flits_of (buffer_in profile d past)

-- a direction
abbrev pub side_in : LinkFields → Toward → List LinkEntry → Side
side_in link d past = record {
  half = half_after link d past;
  starts = starts (sender_entries link d past);
  others = others (sender_entries link d past);
  go_back = go_back (sender_entries link d past);
  is_open = is_open (sender_entries link d past);
  ack_sent = ack_sent_in link d past;
  steady = training link.profile (receiver_entries d past);
  missing = missing_in d past;
  queue = queue_flits link d past;
  buffer = buffer_flits link.profile d past;
}

abbrev pub link_in : LinkFields → List LinkEntry → Link
link_in link past = record { forth = side_in link Forth past; back = side_in link Back past }
