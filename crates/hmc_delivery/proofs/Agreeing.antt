-- The queues of a journal hold what they hold after its moves.
use Rattle.std.proofs.Common.{◌≡◌, ◌<◌, ◌∙◌, ◌==◌, ℕ, Bool, true, false, if◌then◌else◌, Option, Some, None, List, [], ◌∷◌, map, refl, sym, ap, eqb-true, eq-eqb}
use Rattle.std.specs.Prelude.{option_and_then, nat_lt}
use Rattle.std.proofs.lemmas.Bool.{false_from_ne_true}
use mathlib.Core.Bool.{and-false, and-true}
use Rattle.hmc_codes.specs.declared.place.Place.{Place}
use Rattle.hmc_codes.specs.declared.place.Place.TheVariants as places
use Rattle.hmc_packet.specs.Packet.{PacketFields}
use Rattle.hmc_routes.specs.Ports.{port_to_cube, port_to_host}
use Rattle.hmc_hops.specs.Map.{Map, End, IsMap, End as ends}
use Rattle.hmc_routes.specs.Route.{Goal as goals}
use Rattle.hmc_hops.specs.Queues.{same_queue as same_hop, QueueId as hops}
use Rattle.hmc_hops.specs.Moves.{Move, without, without_if, packet_if as hop_if, contents as hop_contents}
use Rattle.hmc_entries.specs.declared.entry.Entry.{Entry}
use Rattle.hmc_journal.specs.Queues.{QueueId, same_queue, buffer_at, packet_if, contents, QueueId as queues}
use Rattle.hmc_journal.specs.Setup.{Topology, graph_of, cubes_in, hosts_in, directions_in, start_of, end_of, direction_from}
use Rattle.hmc_journal.proofs.Moves.{same_queue_refl}
use Rattle.hmc_laws.proofs.Contents.{pop}
use Rattle.hmc_laws.proofs.Wired.{Wired, ends_there, same_buffers}
use Rattle.hmc_delivery.proofs.Seen.{seen, hop_queue, arriving, or_zero}
use Rattle.hmc_delivery.proofs.Underway.{line_on}
use Rattle.hmc_routes.proofs.Joined.{same_place-true}

-- ---- the map of a topology

-- the end of a direction, as routes see it
abbrev pub end_at : Place → End
end_at (places.Host host) = ends.Host host
end_at (places.Port cube port) = ends.Cube cube

-- the direction out of a port
abbrev pub out_by : Topology → (cube : ℕ) → (port : Option ℕ) → Option ℕ
out_by topology cube port = option_and_then (λ p. direction_from topology (places.Port cube p)) port

-- What a map of routes has to say of a topology's directions.
pub record IsMapOf (topology : Topology) (m : Map) : Type 0 where
  pub is : IsMap m
  pub starts : (d : ℕ) → d < directions_in topology → m.start_of d ≡ end_at (start_of topology d)
  pub finish : (d : ℕ) → d < directions_in topology → m.end_of d ≡ end_at (end_of topology d)
  pub from_host : (host d : ℕ) → direction_from topology (places.Host host) ≡ Some d → m.from_host host ≡ d
  pub next_cube : (goal cube : ℕ) → m.next (goals.ToCube goal) cube ≡ (if cube == goal then None else out_by topology cube (port_to_cube (graph_of topology) goal cube))
  pub next_host : (host cube : ℕ) → m.next (goals.ToHost host) cube ≡ out_by topology cube (port_to_host (graph_of topology) host cube)
  pub is_cube : (cube : ℕ) → m.is_cube cube ≡ nat_lt cube (cubes_in topology)
  pub goal_cube : (cube : ℕ) → m.is_goal (goals.ToCube cube) ≡ nat_lt cube (cubes_in topology)
  pub goal_host : (host : ℕ) → m.is_goal (goals.ToHost host) ≡ nat_lt host (hosts_in topology)

-- ---- queues that are there

pub record EndsAt (topology : Topology) (place : Place) : Type 0 where
  pub direction : ℕ
  pub inside : direction < directions_in topology
  pub ends : end_of topology direction ≡ place

-- a buffer is at the end of a direction
abbrev pub IsReal : Topology → QueueId → Type 0
IsReal topology (queues.Port cube port) = EndsAt topology (places.Port cube port)
IsReal topology (queues.Host host) = EndsAt topology (places.Host host)
IsReal topology _ = Unit {0}

pub arriving_is : (topology : Topology) (place : Place) → Wired topology → (at : EndsAt topology place) → arriving topology place ≡ at.direction
arriving_is topology place wires at = ap (arriving topology) (sym at.ends) ∙ ap or_zero (ends_there topology wires at.direction at.inside)

same_place_of : (p q : Place) → same_queue (buffer_at p) (buffer_at q) ≡ true → p ≡ q
same_place_of p q is = same_place-true p q (sym (same_buffers p q) ∙ is)

buffers : (topology : Topology) (p q : Place) → Wired topology → EndsAt topology p → EndsAt topology q → same_queue (buffer_at p) (buffer_at q) ≡ (arriving topology p == arriving topology q)
buffers topology p q wires at_p at_q = by_test (arriving topology p == arriving topology q) refl
  where
    by_test : (same : Bool) → (arriving topology p == arriving topology q) ≡ same → same_queue (buffer_at p) (buffer_at q) ≡ same
    by_test true is =
        let one : arriving topology p ≡ arriving topology q = eqb-true (arriving topology p) (arriving topology q) is in
        let d : at_p.direction ≡ at_q.direction = sym (arriving_is topology p wires at_p) ∙ one ∙ arriving_is topology q wires at_q in
        let same : p ≡ q = sym at_p.ends ∙ ap (end_of topology) d ∙ at_q.ends in
        ap (λ (x : Place). same_queue (buffer_at x) (buffer_at q)) same ∙ same_queue_refl (buffer_at q)
    by_test false is = false_from_ne_true (same_queue (buffer_at p) (buffer_at q)) (λ at.
        let same : p ≡ q = same_place_of p q at in
        let clash : true ≡ false = sym (eq-eqb (arriving topology p) (arriving topology q) (ap (arriving topology) same)) ∙ is in cc)

-- the same queue, either way
pub same_hops : (topology : Topology) (p q : QueueId) → Wired topology → IsReal topology p → IsReal topology q → same_queue p q ≡ same_hop (hop_queue topology p) (hop_queue topology q)
same_hops topology (queues.Output d) (queues.Output e) wires p_is q_is = refl
same_hops topology (queues.Output d) (queues.Port e q) wires p_is q_is = refl
same_hops topology (queues.Output d) (queues.Host k) wires p_is q_is = refl
same_hops topology (queues.Output d) (queues.Vault e w) wires p_is q_is = refl
same_hops topology (queues.Output d) (queues.Bank e w a) wires p_is q_is = refl
same_hops topology (queues.Output d) (queues.Registers e) wires p_is q_is = refl
same_hops topology (queues.Output d) (queues.Answers e to) wires p_is q_is = refl
same_hops topology (queues.Port c p) (queues.Output e) wires p_is q_is = refl
same_hops topology (queues.Port c p) (queues.Port e q) wires p_is q_is = buffers topology (places.Port c p) (places.Port e q) wires p_is q_is
same_hops topology (queues.Port c p) (queues.Host k) wires p_is q_is = buffers topology (places.Port c p) (places.Host k) wires p_is q_is
same_hops topology (queues.Port c p) (queues.Vault d w) wires p_is q_is = refl
same_hops topology (queues.Port c p) (queues.Bank d w a) wires p_is q_is = refl
same_hops topology (queues.Port c p) (queues.Registers d) wires p_is q_is = refl
same_hops topology (queues.Port c p) (queues.Answers d to) wires p_is q_is = refl
same_hops topology (queues.Host h) (queues.Output e) wires p_is q_is = refl
same_hops topology (queues.Host h) (queues.Port e q) wires p_is q_is = buffers topology (places.Host h) (places.Port e q) wires p_is q_is
same_hops topology (queues.Host h) (queues.Host k) wires p_is q_is = buffers topology (places.Host h) (places.Host k) wires p_is q_is
same_hops topology (queues.Host h) (queues.Vault d w) wires p_is q_is = refl
same_hops topology (queues.Host h) (queues.Bank d w a) wires p_is q_is = refl
same_hops topology (queues.Host h) (queues.Registers d) wires p_is q_is = refl
same_hops topology (queues.Host h) (queues.Answers d to) wires p_is q_is = refl
same_hops topology (queues.Vault c v) (queues.Output e) wires p_is q_is = refl
same_hops topology (queues.Vault c v) (queues.Port e q) wires p_is q_is = refl
same_hops topology (queues.Vault c v) (queues.Host k) wires p_is q_is = refl
same_hops topology (queues.Vault c v) (queues.Vault d w) wires p_is q_is = refl
same_hops topology (queues.Vault c v) (queues.Bank d w a) wires p_is q_is = refl
same_hops topology (queues.Vault c v) (queues.Registers d) wires p_is q_is = refl
same_hops topology (queues.Vault c v) (queues.Answers d to) wires p_is q_is = refl
same_hops topology (queues.Bank c v b) (queues.Output e) wires p_is q_is = refl
same_hops topology (queues.Bank c v b) (queues.Port e q) wires p_is q_is = refl
same_hops topology (queues.Bank c v b) (queues.Host k) wires p_is q_is = refl
same_hops topology (queues.Bank c v b) (queues.Vault d w) wires p_is q_is = refl
same_hops topology (queues.Bank c v b) (queues.Bank d w a) wires p_is q_is = refl
same_hops topology (queues.Bank c v b) (queues.Registers d) wires p_is q_is = sym (and-false (c == d))
same_hops topology (queues.Bank c v b) (queues.Answers d to) wires p_is q_is = refl
same_hops topology (queues.Registers c) (queues.Output e) wires p_is q_is = refl
same_hops topology (queues.Registers c) (queues.Port e q) wires p_is q_is = refl
same_hops topology (queues.Registers c) (queues.Host k) wires p_is q_is = refl
same_hops topology (queues.Registers c) (queues.Vault d w) wires p_is q_is = refl
same_hops topology (queues.Registers c) (queues.Bank d w a) wires p_is q_is = sym (and-false (c == d))
same_hops topology (queues.Registers c) (queues.Registers d) wires p_is q_is = sym (and-true (c == d))
same_hops topology (queues.Registers c) (queues.Answers d to) wires p_is q_is = refl
same_hops topology (queues.Answers c from) (queues.Output e) wires p_is q_is = refl
same_hops topology (queues.Answers c from) (queues.Port e q) wires p_is q_is = refl
same_hops topology (queues.Answers c from) (queues.Host k) wires p_is q_is = refl
same_hops topology (queues.Answers c from) (queues.Vault d w) wires p_is q_is = refl
same_hops topology (queues.Answers c from) (queues.Bank d w a) wires p_is q_is = refl
same_hops topology (queues.Answers c from) (queues.Registers d) wires p_is q_is = refl
same_hops topology (queues.Answers c from) (queues.Answers d to) wires p_is q_is = refl

-- no queue is a line
pub not_line : (topology : Topology) (p : QueueId) (d : ℕ) → same_hop (hop_queue topology p) (hops.Line d) ≡ false
not_line topology (queues.Output e) d = refl
not_line topology (queues.Port c p) d = refl
not_line topology (queues.Host h) d = refl
not_line topology (queues.Vault c v) d = refl
not_line topology (queues.Bank c v b) d = refl
not_line topology (queues.Registers c) d = refl
not_line topology (queues.Answers c from) d = refl

-- ---- one more entry

-- what is seen of it
pub pop_seen : (topology : Topology) (goes : Bool) (packets : List PacketFields) → map (seen topology) (pop goes packets) ≡ without_if goes 0 (map (seen topology) packets)
unfolding without
pop_seen topology true [] = refl
pop_seen topology true (p ∷ packets) = refl
pop_seen topology false packets = refl

pub if_seen : (topology : Topology) (here : Bool) (packet : Unit {0} → PacketFields) → map (seen topology) (packet_if here packet) ≡ hop_if here (seen topology (packet tt))
if_seen topology true packet = refl
if_seen topology false packet = refl

-- each queue holds what it holds after the moves
pub record Agrees (topology : Topology) (m : Map) (past : List Entry) (moved : List Move) : Type 0 where
  pub queues : (queue : QueueId) → IsReal topology queue → map (seen topology) (contents topology past queue) ≡ hop_contents m moved (hop_queue topology queue)
  pub lines : (d : ℕ) → map (seen topology) (line_on topology d past) ≡ hop_contents m moved (hops.Line d)
