-- The entries that move nothing inside cubes.
use Rattle.std.proofs.Common.{◌≡◌, ◌∙◌, ℕ, Bool, false, Option, Some, None, List, [], ◌++◌, refl, sym, ap, append-nil}
use Rattle.std.specs.Prelude.{filter, option_map}
use Rattle.hmc_codes.specs.declared.place.Place.{Place}
use Rattle.hmc_codes.specs.declared.place.Place.TheVariants as places
use Rattle.hmc_packet.specs.Packet.{PacketFields}
use Rattle.hmc_packet.specs.declared.what.What.TheVariants as whats
use Rattle.hmc_send.specs.Places.{is_token}
use Rattle.hmc_entries.specs.declared.entry.Entry.{Entry}
use Rattle.hmc_entries.specs.declared.entry.Entry.TheVariants.{Gave, Sent, Landed, Dropped, Took, Discarded, Through, Unlocked, Passed}
use Rattle.hmc_journal.specs.Directions.{unsent, awaits_first, landed_packets}
use Rattle.hmc_journal.specs.Piped.{forwarded_onto, goes_on}
use Rattle.hmc_journal.specs.Queues.{QueueId, same_queue, is_at, leaves, enters, buffer_at, landing_buffer, arrived, arrival_in, unless_gone, QueueId as ids}
use Rattle.hmc_journal.specs.Setup.{Topology, end_of, direction_from}
use Rattle.hmc_journal.proofs.Moves.{arrives, arrived_off, arrived_first, begins_off}
use Rattle.hmc_kept.proofs.InCubes.{outside}
use Rattle.hmc_kept.specs.InCubes.{IsCubeQueue, without_front}
use Rattle.hmc_check.specs.Kept.{moved}

-- an entry that moves nothing inside a cube
abbrev pub IsOuter : Entry → Type 0
IsOuter (Gave host tag poisoned request) = Unit {0}
IsOuter (Sent direction what flit) = Unit {0}
IsOuter (Landed direction flit outcome) = Unit {0}
IsOuter (Dropped cube port) = Unit {0}
IsOuter (Took host tag answer) = Unit {0}
IsOuter (Discarded host) = Unit {0}
IsOuter (Through cube port direction) = Unit {0}
IsOuter (Unlocked direction) = Unit {0}
IsOuter (Passed direction flit) = Unit {0}
IsOuter _ = ⊥

buffer_apart : (place : Place) (q : QueueId) → IsCubeQueue q → same_queue (buffer_at place) q ≡ false
buffer_apart (places.Host host) q inner = outside (ids.Host host) q (λ no. no) inner
buffer_apart (places.Port cube port) q inner = outside (ids.Port cube port) q (λ no. no) inner

-- what leaves
pub out_apart : (past : List Entry) (entry : Entry) (q : QueueId) → IsOuter entry → IsCubeQueue q → is_at (leaves past entry) q ≡ false
unfolding leaves
out_apart past (Gave host tag poisoned request) q outer inner = refl
out_apart past (Sent direction whats.New flit) q outer inner = begins_off (awaits_first direction past) (unsent direction past) direction q (outside (ids.Output direction) q (λ no. no) inner)
out_apart past (Landed direction flit outcome) q outer inner = refl
out_apart past (Dropped cube port) q outer inner = outside (ids.Port cube port) q (λ no. no) inner
out_apart past (Took host tag answer) q outer inner = outside (ids.Host host) q (λ no. no) inner
out_apart past (Discarded host) q outer inner = outside (ids.Host host) q (λ no. no) inner
out_apart past (Through cube port direction) q outer inner = refl
out_apart past (Unlocked direction) q outer inner = refl
out_apart past (Passed direction flit) q outer inner = refl
out_apart past (Sent direction what flit) q outer inner = refl
out_apart past _ q outer inner = absurd outer

-- what enters
output_in : (q : QueueId) (direction : Option ℕ) (packet : Unit {0} → PacketFields) → IsCubeQueue q → arrived q (arrival_in (option_map ids.Output direction) packet) ≡ []
output_in q None packet inner = refl
output_in q (Some direction) packet inner = arrived_off (Some (ids.Output direction)) packet q (outside (ids.Output direction) q (λ no. no) inner)

pub into_none : (topology : Topology) (past : List Entry) (entry : Entry) (q : QueueId) → IsOuter entry → IsCubeQueue q → arrived q (arrives topology past entry) ≡ []
unfolding enters
into_none topology past (Gave host tag poisoned request) q outer inner = output_in q (direction_from topology (places.Host host)) _ inner
into_none topology past (Landed direction flit outcome) q outer inner =
    arrived_first (landing_buffer topology direction) q (unless_gone (goes_on outcome (forwarded_onto topology direction past)) (filter is_token (landed_packets topology direction flit outcome past))) (buffer_apart (end_of topology direction) q inner)
into_none topology past (Sent direction what flit) q outer inner = refl
into_none topology past (Dropped cube port) q outer inner = refl
into_none topology past (Took host tag answer) q outer inner = refl
into_none topology past (Discarded host) q outer inner = refl
into_none topology past (Through cube port direction) q outer inner = refl
into_none topology past (Unlocked direction) q outer inner = refl
into_none topology past (Passed direction flit) q outer inner = refl
into_none topology past _ q outer inner = absurd outer

-- so the queues inside cubes stay
pub outer_queues : (topology : Topology) (past : List Entry) (entry : Entry) (inside : QueueId → List PacketFields) (q : QueueId) → IsOuter entry → IsCubeQueue q → inside q ≡ moved (leaves past entry) (arrives topology past entry) inside q
outer_queues topology past entry inside q outer inner =
    sym (append-nil (inside q))
    ∙ ap (λ (l : List PacketFields). inside q ++ l) (sym (into_none topology past entry q outer inner))
    ∙ ap (λ (b : Bool). without_front b (inside q) ++ arrived q (arrives topology past entry)) (sym (out_apart past entry q outer inner))
