-- A receiver, as the contracts see it, and what each kind of landing leaves of it.
use Rattle.std.specs.Prelude.{◌≡◌, ◌≢◌, ◌<◌, ℕ, ◌+◌, ◌%◌, Bool, true, false, ◌&&◌, nat_lt, nat_le, if◌then◌else◌, List, [], ◌∷◌, ◌++◌, length, Option, Some, None}
use Rattle.hmc_codes.specs.Profile.{modulus_of}
use Rattle.hmc_codes.specs.declared.layout.Layout.{Layout}
use Rattle.hmc_codes.specs.declared.layout.Layout.TheVariants as layouts
use Rattle.hmc_codes.specs.declared.profile.Profile.{Profile}
use Rattle.hmc_irtry.specs.Runs.{RunFields, run_of, after_seen, counted_of}
use Rattle.hmc_irtry.specs.Train.{TrainFields, after_flit, ends_training}
use Rattle.hmc_irtry.specs.declared.runs.Counted.{Counted}
use Rattle.hmc_irtry.specs.declared.runs.Counted.TheVariants.{Now}
use Rattle.hmc_packet.specs.declared.kind.Kind.{Kind}
use Rattle.hmc_packet.specs.declared.kind.Kind.TheVariants.{Start, Clear}
use Rattle.hmc_packet.specs.declared.seen.Seen.{Seen}
use Rattle.hmc_packet.specs.declared.view.Mode.{Mode}
use Rattle.hmc_packet.specs.declared.view.Mode.TheVariants.{Train, Abort, Good}
use Rattle.hmc_packet.specs.Irtry.{kind_of}
use Rattle.hmc_packet.specs.Landings.{ReceiverEntry, mode_after, gathered_after, irtry_of_entry, trains, accepted_by}
use Rattle.hmc_packet.specs.Packet.{PacketFields, flits_of}
use Rattle.hmc_packet.specs.Parts.{lng_of}
use Rattle.hmc_packet.specs.Receptions.{LandingView, is_next, is_repeat}

-- what it waits for; the training and the run that it is in; the pointer of the packet accepted
-- last, the number of accepted packets modulo 8, and that packet; the flits that are gathered
pub record ReceiverFields : Type 0 where
  pub profile : Profile
  pub mode : Mode
  pub train : TrainFields
  pub runs : RunFields
  pub frp : ℕ
  pub seq : ℕ
  pub packet : PacketFields
  pub gathered : List (List ℕ)

-- fewer flits than the LNG of the first one, which is a packet's
abbrev pub is_partial : List (List ℕ) → Bool
is_partial [] = true
is_partial (first ∷ rest) =
    nat_lt (length (first ∷ rest)) (lng_of first) && nat_le (lng_of first) 17

-- what each receiver keeps
pub record IsReceiver (r : ReceiverFields) : Type 0 where
  pub train : r.train.profile ≡ r.profile
  pub frp : r.frp < modulus_of r.profile
  pub seq : r.seq < 8
  pub gathered : is_partial r.gathered ≡ true

-- what a landing sees of a receiver
abbrev pub view_of : ReceiverFields → LandingView
view_of r = record {
  mode = r.mode;
  training = r.train.count;
  run = λ kind. run_of kind r.runs;
  flits = r.frp;
  packets = r.seq;
  pending = r.gathered;
}

-- a flit that belongs to no run and is not gathered
abbrev pub after_other : ReceiverFields → ReceiverFields
after_other r = record r { runs = after_seen None r.runs; gathered = [] }

-- packets are lost until the next run of Clears
abbrev pub after_abort : ReceiverFields → ReceiverFields
after_abort r = record r { mode = Abort; runs = after_seen None r.runs; gathered = [] }

-- a flit is gathered
abbrev pub after_gathered : List ℕ → ReceiverFields → ReceiverFields
after_gathered flit r =
    record r { runs = after_seen None r.runs; gathered = r.gathered ++ flit ∷ [] }

-- the mode after a run: one of Clears opens the receiver
abbrev pub mode_ran : Kind → Mode → Mode
mode_ran Clear before = Good
mode_ran Start before = before

-- the mode after an IRTRY, which ends a run or doesn't
abbrev pub mode_counted : Counted → Kind → Mode → Mode
mode_counted Now kind before = mode_ran kind before
mode_counted _ kind before = before

-- an IRTRY
abbrev pub after_irtry : Kind → (rrp : ℕ) → ReceiverFields → ReceiverFields
after_irtry kind rrp r = record r {
  mode = mode_counted (counted_of (Some (kind, rrp)) r.runs) kind r.mode;
  runs = after_seen (Some (kind, rrp)) r.runs;
  gathered = [];
}

-- a packet is accepted
abbrev pub after_accepted : PacketFields → ReceiverFields → ReceiverFields
after_accepted p r = record r {
  runs = after_seen None r.runs;
  frp = p.frp;
  seq = p.seq;
  packet = p;
  gathered = [];
}

-- a sequenced packet came
abbrev pub after_sequenced : PacketFields → ReceiverFields → ReceiverFields
after_sequenced p r =
    if is_next r.profile (view_of r) p then after_accepted p r else
    if is_repeat r.profile (view_of r) p then after_other r else after_abort r

-- a packet came
abbrev pub after_packet : Layout → Seen → ReceiverFields → ReceiverFields
after_packet layouts.Null seen r = after_other r
after_packet layouts.Irtry seen r = after_irtry (kind_of seen.packet.frp) seen.rrp r
after_packet layouts.Pret seen r = after_other r
after_packet _ seen r = after_sequenced seen.packet r

-- Train: a flit came, which trains or doesn't; the last of a training ends it
abbrev pub after_training : (trains : Bool) → ReceiverFields → ReceiverFields
after_training trains r = record (after_other r) {
  mode = if ends_training trains r.train then Abort else r.mode;
  train = after_flit trains r.train;
}

-- Abort: a flit came, which alone is an IRTRY or none
abbrev pub after_alone : Option (Kind × ℕ) → ReceiverFields → ReceiverFields
after_alone None r = after_other r
after_alone (Some irtry) r = after_irtry irtry.0 irtry.1 r

-- the framing was lost
abbrev pub after_unlock : Mode → ReceiverFields → ReceiverFields
after_unlock Train r = record (after_other r) { train = after_flit false r.train }
after_unlock _ r = after_abort r

-- the packets that an entry accepts, at most one, are those that a receiver accepted
abbrev pub Accepts : (r s : ReceiverFields) → List PacketFields → Type 0
Accepts r s [] = (s.frp ≡ r.frp) × (s.seq ≡ r.seq) × (s.packet ≡ r.packet)
Accepts r s (p ∷ rest) =
    (rest ≡ [])
    × (s.frp ≡ (r.frp + flits_of p) % modulus_of r.profile)
    × (s.seq ≡ (r.seq + 1) % 8)
    × (s.packet ≡ p)

-- what an entry changes of a receiver
pub record Follows (r s : ReceiverFields) (entry : ReceiverEntry) : Type 0 where
  pub profile : s.profile ≡ r.profile
  pub mode : s.mode ≡ mode_after r.mode entry
  pub train : s.mode ≡ Train → s.train ≡ after_flit (trains r.profile entry) r.train
  pub runs : r.mode ≢ Train → s.runs ≡ after_seen (irtry_of_entry r.profile entry) r.runs
  pub fresh : r.mode ≡ Train → s.runs.count ≡ 0
  pub accepted : Accepts r s (accepted_by r.profile r.gathered entry)
  pub gathered : s.gathered ≡ gathered_after r.gathered entry
