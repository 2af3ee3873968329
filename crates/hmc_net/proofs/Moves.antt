-- The queues of the cubes after one more entry.
use Rattle.std.proofs.Common.{◌≡◌, ◌≤◌, ◌∙◌, Bool, true, false, Option, Some, None, List, [], ◌∷◌, ◌++◌, length, drop, refl, sym, ap, append-nil}
use Rattle.hmc_journal.proofs.Moves.{arrives}
use Rattle.hmc_packet.specs.Packet.{PacketFields}
use Rattle.hmc_cube.specs.Cube.{CubeFields}
use Rattle.hmc_entries.specs.declared.entry.Entry.{Entry}
use Rattle.hmc_journal.specs.Setup.{Topology}
use Rattle.hmc_journal.specs.Queues.{QueueId, same_queue, is_at, leaves, Arrival, arrived, packet_if, left, entered, contents}
use Rattle.hmc_kept.specs.InCubes.{IsCubeQueue, change_if}
use Rattle.hmc_kept.proofs.InCubes.{IsLeft, contents_step}
use Rattle.hmc_net.specs.NetState.{inside, IsQueueOf}
use Rattle.hmc_net.proofs.QueueChanges.{changed, inside_changed}

-- the packets that are left after a change
abbrev pub without : List CubeFields → Option QueueId → List CubeFields
without cubes None = cubes
without cubes (Some r) = changed cubes r (drop 1)

abbrev pub with_arrival : List CubeFields → Option Arrival → List CubeFields
with_arrival cubes None = cubes
with_arrival cubes (Some arrival) = changed cubes arrival.queue (λ l. l ++ arrival.packet tt ∷ [])

abbrev pub IsThere : List CubeFields → Option QueueId → Type 0
IsThere cubes None = Unit {0}
IsThere cubes (Some r) = IsQueueOf cubes r

abbrev pub IsGoing : List CubeFields → Option Arrival → Type 0
IsGoing cubes None = Unit {0}
IsGoing cubes (Some arrival) = IsQueueOf cubes arrival.queue

without_held : (cubes : List CubeFields) (leaving : Option QueueId) (q : QueueId) → IsCubeQueue q → IsThere cubes leaving → inside (without cubes leaving) q ≡ change_if (is_at leaving q) (drop 1) (inside cubes q)
without_held cubes None q cube is = refl
without_held cubes (Some r) q cube is = inside_changed cubes r q (drop 1) cube is

one_more : (here : Bool) (p : Unit {0} → PacketFields) (l : List PacketFields) → change_if here (λ l. l ++ p tt ∷ []) l ≡ l ++ packet_if here p
one_more true p l = refl
one_more false p l = sym (append-nil l)

with_held : (cubes : List CubeFields) (entering : Option Arrival) (q : QueueId) → IsCubeQueue q → IsGoing cubes entering → inside (with_arrival cubes entering) q ≡ inside cubes q ++ arrived q entering
with_held cubes None q cube is = sym (append-nil (inside cubes q))
with_held cubes (Some arrival) q cube is = inside_changed cubes arrival.queue q (λ l. l ++ arrival.packet tt ∷ []) cube is ∙ one_more (same_queue arrival.queue q) arrival.packet (inside cubes q)

-- After an entry the queues hold what they held, without the front of the one and with the packet
-- that enters the other.
pub queues_step : (topology : Topology) (past : List Entry) (entry : Entry) (cubes : List CubeFields) → IsLeft topology past (leaves past entry) → IsThere cubes (leaves past entry) → IsGoing (without cubes (leaves past entry)) (arrives topology past entry)
    → (q : QueueId) → IsCubeQueue q → left past q ≤ length (entered topology past q) → inside cubes q ≡ contents topology past q
    → inside (with_arrival (without cubes (leaves past entry)) (arrives topology past entry)) q ≡ contents topology (entry ∷ past) q
queues_step topology past entry cubes is leaves_there enters_there q cube within same =
    with_held (without cubes (leaves past entry)) (arrives topology past entry) q cube enters_there ∙
    ap (λ (l : List PacketFields). l ++ arrived q (arrives topology past entry)) (without_held cubes (leaves past entry) q cube leaves_there ∙ ap (change_if (is_at (leaves past entry) q) (drop 1)) same) ∙
    sym (contents_step topology past entry q cube is within)
