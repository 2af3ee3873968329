-- What a send gives, by its ten rows in their order: the first that gives something.
use Rattle.std.specs.Prelude.{not, ◌==◌, ◌&&◌, List, [], ◌∷◌, Option, option_map}
use Rattle.hmc_codes.specs.Flit.{zero_flit}
use Rattle.hmc_codes.specs.declared.profile.Profile.{Profile}
use Rattle.hmc_packet.specs.declared.kind.Kind.TheVariants as kind
use Rattle.hmc_packet.specs.declared.what.What.TheVariants as what
use Rattle.hmc_packet.specs.Rows.{given_if, first_row}
use Rattle.hmc_packet.specs.Spelling.{training_flit}
use Rattle.hmc_send.specs.declared.sent.Sent.{Sent}
use Rattle.hmc_send.specs.declared.sent.Sent.TheVariants.{Out}
use Rattle.hmc_send.specs.Choice.{SendView, is_train, is_abort, irtry_sent, first_flit, next_of_view, may_take, may_return, part_what, next_flit, unless_starved}
use Rattle.hmc_send.specs.Entries.{or_null}
use Rattle.hmc_send.specs.Places.{tret_packet, pret_packet, packet_in, flit_of}

-- its own receiver is in Train: a training flit
abbrev pub training : SendView → Option Sent
training s = given_if (is_train s.given.own.mode) (Out training_flit what.Train)

-- a packet is begun: its next flit, or nothing where a forwarded packet's flit isn't there
abbrev pub begun : Profile → SendView → Option Sent
begun profile s =
    option_map (λ b. unless_starved (part_what b.part)
    (next_flit profile s.given.own.rrp s.given.feed b.place b.part)) s.under_way

-- a burst isn't finished: its next IRTRY
abbrev pub burst : Profile → SendView → Option Sent
burst profile s = option_map (irtry_sent profile s.given.own.rrp) s.burst

-- a go-back is due: the first Clear
abbrev pub clear : Profile → SendView → Option Sent
clear profile s = given_if s.go_back (irtry_sent profile s.given.own.rrp kind.Clear)

-- its own receiver is in Abort, and enough other flits were sent: the first Start
abbrev pub start : Profile → SendView → Option Sent
start profile s =
    given_if (is_abort s.given.own.mode && s.may_start)
    (irtry_sent profile s.given.own.rrp kind.Start)

-- the position isn't at the end: the packet there again
abbrev pub again : Profile → SendView → Option Sent
again profile s =
    option_map (λ place. first_flit profile s.given.own.rrp what.Again (packet_in place)) s.again

-- it is open, and there are tokens and room for the front of the queue: that packet
abbrev pub queued : Profile → SendView → Option Sent
queued profile s =
    given_if (s.is_open && may_take s s.given.front)
    (first_flit profile s.given.own.rrp what.New (next_of_view profile s (or_null s.given.front)))

-- it is open, tokens are due, and there is room: a TRET
abbrev pub tret : Profile → SendView → Option Sent
tret profile s =
    given_if (s.is_open && may_return s)
    (first_flit profile s.given.own.rrp what.Tret (next_of_view profile s tret_packet))

-- the return pointer isn't the one shown last: a PRET
abbrev pub pret : Profile → SendView → Option Sent
pret profile s =
    given_if (not (s.given.own.rrp == s.shown))
    (Out (flit_of profile pret_packet s.given.own.rrp 0) what.Pret)

-- a NULL
abbrev pub null : SendView → Sent
null s = Out zero_flit what.Null

abbrev pub send_rows : Profile → List (SendView → Option Sent)
send_rows profile =
    training
    ∷ begun profile
    ∷ burst profile
    ∷ clear profile
    ∷ start profile
    ∷ again profile
    ∷ queued profile
    ∷ tret profile
    ∷ pret profile
    ∷ []

abbrev pub choice_by_rows : Profile → SendView → Sent
choice_by_rows profile s = first_row (send_rows profile) null s
