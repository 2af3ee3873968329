-- What the landing of a flit gives: its outcome, the return pointer that is taken, and whether a
-- check succeeded. Each mode has its rows, and the first that fits is taken.
use Rattle.std.specs.Prelude.{ℕ, ◌+◌, ◌-◌, ◌%◌, Bool, true, false, ◌==◌, ◌&&◌, ◌||◌, nat_lt, nat_le, if◌then◌else◌, List, [], ◌∷◌, ◌++◌, length, Option, Some, None, Result, Ok, Err}
use Rattle.hmc_codes.specs.Commands.{layout_of}
use Rattle.hmc_codes.specs.Profile.{modulus_of, window_of}
use Rattle.hmc_codes.specs.declared.layout.Layout.{Layout}
use Rattle.hmc_codes.specs.declared.layout.Layout.TheVariants as layouts
use Rattle.hmc_codes.specs.declared.profile.Profile.{Profile}
use Rattle.hmc_packet.specs.declared.bad.Bad.{Bad}
use Rattle.hmc_packet.specs.declared.bad.Bad.TheVariants as bads
use Rattle.hmc_packet.specs.declared.kind.Kind.{Kind}
use Rattle.hmc_packet.specs.declared.landed.Landed.{Landed}
use Rattle.hmc_packet.specs.declared.landed.Landed.TheVariants as words
use Rattle.hmc_packet.specs.declared.outcome.Outcome.{Outcome}
use Rattle.hmc_packet.specs.declared.outcome.Outcome.TheVariants.{Quiet, Trained, Gathered, Accepted, Poisoned, Repeat, AbortedBad, AbortedOrder, Ran}
use Rattle.hmc_packet.specs.declared.reception.Reception.{Reception}
use Rattle.hmc_packet.specs.declared.seen.Seen.{Seen}
use Rattle.hmc_packet.specs.declared.view.Mode.{Mode}
use Rattle.hmc_packet.specs.declared.view.Mode.TheVariants.{Train, Abort, Good}
use Rattle.hmc_packet.specs.Irtry.{kind_of, irtry_in}
use Rattle.hmc_packet.specs.Landings.{ReceiverEntry, mode, pending, whole_run, run, whole_training, is_training, training, accepted, flits_in}
use Rattle.hmc_packet.specs.Packet.{PacketFields, flits_of}
use Rattle.hmc_packet.specs.Parts.{lng_of}
use Rattle.hmc_packet.specs.Reading.{is_null, read_of}

-- what a landing sees of the entries before it
pub record LandingView : Type 0 where
  pub mode : Mode
  -- the flits in a row that train
  pub training : ℕ
  -- the IRTRYs of a kind in a row
  pub run : Kind → ℕ
  -- the flits of the accepted packets, and their number
  pub flits : ℕ
  pub packets : ℕ
  pub pending : List (List ℕ)

unfoldable pub landing_view : Profile → List ReceiverEntry → LandingView
landing_view profile past = record {
  mode = mode past;
  training = training profile past;
  run = λ kind. run profile kind past;
  flits = flits_in (accepted profile past);
  packets = length (accepted profile past);
  pending = pending past;
}

-- no check succeeds, and no pointer is taken
abbrev pub unchecked : Outcome → Reception
unchecked outcome = record { outcome = outcome; rrp = None; checked = false }

-- a check succeeds
abbrev pub checked : Outcome → Option ℕ → Reception
checked outcome rrp = record { outcome = outcome; rrp = rrp; checked = true }

-- Train: the eighth flit in a row that trains ends training
abbrev pub train_reception : Profile → LandingView → List ℕ → Reception
train_reception profile view flit =
    if is_training profile flit
    then checked (if view.training + 1 == whole_training then Trained else Quiet) None
    else unchecked Quiet

-- an IRTRY after so many of its kind: the 24th ends a run, and from it on the pointers are taken
abbrev pub irtry_reception : (before : ℕ) → Kind → (rrp : ℕ) → Reception
irtry_reception before kind rrp =
    checked (if before + 1 == whole_run then Ran kind else Quiet)
    (if nat_le whole_run (before + 1) then Some rrp else None)

-- Abort: each flit is read alone
abbrev pub abort_reception : LandingView → Option (Kind × ℕ) → Reception
abort_reception view None = unchecked Quiet
abort_reception view (Some irtry) = irtry_reception (view.run irtry.0) irtry.0 irtry.1

-- the packet is the next one: its pointer and its sequence number go on from the accepted packets
abbrev pub is_next : Profile → LandingView → PacketFields → Bool
is_next profile view p =
    (p.frp == (view.flits + flits_of p) % modulus_of profile) && (p.seq == (view.packets + 1) % 8)

-- the packet ends less than half of the modulus behind the last accepted one
abbrev pub is_repeat : Profile → LandingView → PacketFields → Bool
is_repeat profile view p =
    nat_lt ((view.flits + (modulus_of profile - p.frp)) % modulus_of profile) (window_of profile)

-- a sequenced packet
abbrev pub sequenced_outcome : Profile → LandingView → PacketFields → Outcome
sequenced_outcome profile view p =
    if is_next profile view p then (if p.poisoned then Poisoned else Accepted) else
    if is_repeat profile view p then Repeat else AbortedOrder

-- a packet that was read, by its layout
abbrev pub packet_reception : Profile → LandingView → Layout → Seen → Reception
packet_reception profile view layouts.Null seen = checked Quiet None
packet_reception profile view layouts.Irtry seen =
    irtry_reception (view.run (kind_of seen.packet.frp)) (kind_of seen.packet.frp) seen.rrp
packet_reception profile view layouts.Pret seen = checked Quiet (Some seen.rrp)
packet_reception profile view _ seen =
    checked (sequenced_outcome profile view seen.packet) (Some seen.rrp)

-- flits that are as many as their LNG says: a Bad aborts
abbrev pub read_reception : Profile → LandingView → Result Seen Bad → Reception
read_reception profile view (Err bad) = unchecked (AbortedBad bad)
read_reception profile view (Ok seen) =
    packet_reception profile view (layout_of seen.packet.command) seen

-- the flits of a packet: fewer than their LNG says are gathered
abbrev pub flits_reception : Profile → LandingView → (lng : ℕ) → List (List ℕ) → Reception
flits_reception profile view lng flits =
    if nat_lt (length flits) lng then unchecked Gathered
    else read_reception profile view (read_of profile flits)

-- no packet has this length
abbrev pub is_no_length : ℕ → Bool
is_no_length lng = lng == 0 || nat_lt 17 lng

-- the length of the packet that a flit belongs to: the LNG of its first flit
abbrev pub lng_with : (pending : List (List ℕ)) → List ℕ → ℕ
lng_with [] flit = lng_of flit
lng_with (first ∷ rest) flit = lng_of first

-- Good: a NULL between packets, a first flit of no packet, or a flit of a packet
abbrev pub good_reception : Profile → LandingView → List ℕ → Reception
good_reception profile view flit =
    if length view.pending == 0 && is_null flit then checked Quiet None else
    if length view.pending == 0 && is_no_length (lng_of flit)
    then unchecked (AbortedBad bads.Length)
    else flits_reception profile view (lng_with view.pending flit) (view.pending ++ flit ∷ [])

abbrev pub mode_reception : Mode → Profile → LandingView → List ℕ → Reception
mode_reception Train profile view flit = train_reception profile view flit
mode_reception Abort profile view flit = abort_reception view (irtry_in profile flit)
mode_reception Good profile view flit = good_reception profile view flit

-- what the landing of a flit gives, by what it sees
unfoldable pub reception_by : Profile → LandingView → List ℕ → Reception
reception_by profile view flit = mode_reception view.mode profile view flit

-- what the landing of a flit gives after these entries
unfoldable pub reception_of : Profile → List ReceiverEntry → List ℕ → Reception
reception_of profile past flit = reception_by profile (landing_view profile past) flit

-- the landing of a flit as an entry
abbrev pub landing_entry : Profile → List ReceiverEntry → List ℕ → ReceiverEntry
landing_entry profile past flit = ReceiverEntry.Land flit (reception_of profile past flit).outcome

-- an outcome with the packet that was accepted
abbrev pub landed_with : Outcome → PacketFields → Landed
landed_with Quiet packet = words.Quiet
landed_with Trained packet = words.Trained
landed_with Gathered packet = words.Gathered
landed_with Accepted packet = words.Accepted packet
landed_with Poisoned packet = words.Poisoned packet
landed_with Repeat packet = words.Repeat
landed_with (AbortedBad bad) packet = words.AbortedBad bad
landed_with AbortedOrder packet = words.AbortedOrder
landed_with (Ran kind) packet = words.Ran kind

-- a packet arrived with this outcome, poisoned or not
abbrev pub is_arrival : Outcome → Bool
is_arrival Accepted = true
is_arrival Poisoned = true
is_arrival _ = false
