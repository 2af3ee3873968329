-- What waits in a journal's queues is what waits after its moves.
use Rattle.std.proofs.Common.{◌≡◌, ◌<◌, ◌∙◌, ℕ, Option, Some, None, List, [], ◌∷◌, ◌++◌, inl, inr, refl, sym, ap, ap₂, append-nil}
use Rattle.std.specs.List.{filter_map, cons_option}
use Rattle.hmc_codes.specs.declared.place.Place.{Place}
use Rattle.hmc_codes.specs.declared.unit.Unit.{Unit as RequestUnit}
use Rattle.hmc_codes.specs.declared.unit.Unit.TheVariants as units
use Rattle.hmc_packet.specs.Packet.{PacketFields}
use Rattle.hmc_hops.specs.Map.{Map}
use Rattle.hmc_hops.specs.Moves.{Move}
use Rattle.hmc_hops.specs.Flows.{Flow, pick, waiting_at as hop_waiting_at, waiting_on as hop_waiting_on, waiting_along as hop_waiting_along, waiting_inside as hop_waiting_inside}
use Rattle.hmc_journal.specs.Carried.{underway_on, waiting_on, waiting_along, waiting_for}
use Rattle.hmc_entries.specs.declared.entry.Entry.{Entry}
use Rattle.hmc_journal.specs.Queues.{QueueId, landing_buffer, contents, QueueId as queues}
use Rattle.hmc_journal.specs.Setup.{Topology, directions_in, end_of, direction_from, unit_cube}
use Rattle.hmc_laws.proofs.Wired.{Wired}
use Rattle.hmc_delivery.proofs.Seen.{spot_of, hop_queue}
use Rattle.hmc_delivery.proofs.Agreeing.{IsReal, Agrees}
use Rattle.hmc_delivery.proofs.LineMoves.{buffer_hop, buffer_real}
use Rattle.hmc_wire.specs.LinkLaws.{IsKept}
use Rattle.hmc_journal.specs.Links.{sizes_on, entries_on}
use Rattle.hmc_delivery.proofs.Underway.{line_on, is_shown}
use Rattle.hmc_delivery.proofs.Carrying.{IsRead}

-- in a queue
waits_at : {X : Type 0} (topology : Topology) (m : Map) (f : Flow X) (said : List PacketFields → List X) (past : List Entry) (moved : List Move) → IsRead topology f said → Agrees topology m past moved
    → (queue : QueueId) → IsReal topology queue → (hop_waiting_at m f moved (hop_queue topology queue)) ≡ said (contents topology past queue)
waits_at topology m f said past moved reads agrees queue real = ap (pick f) (sym (agrees.queues queue real)) ∙ reads.seen_as (contents topology past queue)

-- a NULL in place of a copy that isn't known yet says nothing
abbrev pub AreLinked : Topology → List Entry → Type 0
AreLinked topology past = (d : ℕ) → IsKept (sizes_on topology d) (entries_on topology d past)

line_said : {X : Type 0} (topology : Topology) (f : Flow X) (said : List PacketFields → List X) (d : ℕ) (past : List Entry) → IsRead topology f said → IsKept (sizes_on topology d) (entries_on topology d past) → said (line_on topology d past) ≡ said (underway_on topology d past)
line_said topology f said d past reads kept =
    let shown = is_shown topology d past kept in
    let nothing : said shown.rest ≡ [] =
    elim shown.is [
      | inl none ↦ ap said none ∙ reads.none
      | inr null ↦ ap said null ∙ reads.null
    ] in
    sym (ap said shown.are ∙ reads.append (line_on topology d past) shown.rest ∙ ap (λ l. said (line_on topology d past) ++ l) nothing ∙ append-nil (said (line_on topology d past)))

-- on a direction
waits_on : {X : Type 0} (topology : Topology) (m : Map) (f : Flow X) (said : List PacketFields → List X) (past : List Entry) (moved : List Move) → IsRead topology f said → Agrees topology m past moved → AreLinked topology past → Wired topology
    → (d : ℕ) → d < directions_in topology → (hop_waiting_on m f moved d) ≡ said (waiting_on topology past d)
waits_on topology m f said past moved reads agrees linked wires d inside =
    let here = buffer_hop topology d wires inside in
    let buffer = ap (λ q. (hop_waiting_at m f moved q)) (sym here) ∙ waits_at topology m f said past moved reads agrees (landing_buffer topology d) (buffer_real topology (end_of topology d) d inside refl) in
    let line = ap (pick f) (sym (agrees.lines d)) ∙ reads.seen_as (line_on topology d past) ∙ line_said topology f said d past reads (linked d) in
    let output = waits_at topology m f said past moved reads agrees (queues.Output d) tt in
    ap₂ (λ a b. a ++ b) buffer
    (ap₂ (λ a b. a ++ b) line output
    ∙ sym (reads.append (underway_on topology d past) (contents topology past (queues.Output d))))
    ∙ sym (reads.append (contents topology past (landing_buffer topology d)) (underway_on topology d past ++ contents topology past (queues.Output d)))

-- on a route
abbrev pub AreInside : Topology → List ℕ → Type 0
AreInside topology [] = Unit {0}
AreInside topology (d ∷ ds) = (d < directions_in topology) × AreInside topology ds

pub waits_along : {X : Type 0} (topology : Topology) (m : Map) (f : Flow X) (said : List PacketFields → List X) (past : List Entry) (moved : List Move) → IsRead topology f said → Agrees topology m past moved → AreLinked topology past → Wired topology
    → (ds : List ℕ) → AreInside topology ds → (hop_waiting_along m f moved ds) ≡ said (waiting_along topology past ds)
unfolding waiting_along hop_waiting_along
waits_along topology m f said past moved reads agrees linked wires [] inside = sym reads.none
waits_along topology m f said past moved reads agrees linked wires (d ∷ ds) inside =
    ap₂ (λ a b. a ++ b) (waits_along topology m f said past moved reads agrees linked wires ds inside.1) (waits_on topology m f said past moved reads agrees linked wires d inside.0)
    ∙ sym (reads.append (waiting_along topology past ds) (waiting_on topology past d))

-- in the cube of a unit
pub waits_inside : {X : Type 0} (topology : Topology) (m : Map) (f : Flow X) (said : List PacketFields → List X) (past : List Entry) (moved : List Move) → IsRead topology f said → Agrees topology m past moved
    → (unit : RequestUnit) → (hop_waiting_inside m f moved (unit_cube unit) (spot_of unit)) ≡ said (waiting_for topology past unit)
waits_inside topology m f said past moved reads agrees (units.Registers cube) = waits_at topology m f said past moved reads agrees (queues.Registers cube) tt
waits_inside topology m f said past moved reads agrees (units.Bank cube vault bank) =
    ap₂ (λ a b. a ++ b) (waits_at topology m f said past moved reads agrees (queues.Bank cube vault bank) tt) (waits_at topology m f said past moved reads agrees (queues.Vault cube vault) tt)
    ∙ sym (reads.append (contents topology past (queues.Bank cube vault bank)) (contents topology past (queues.Vault cube vault)))

-- the directions that start at places are there
cons_inside : (topology : Topology) (place : Place) (o : Option ℕ) (ds : List ℕ) → Wired topology → direction_from topology place ≡ o → AreInside topology ds → AreInside topology (cons_option o ds)
cons_inside topology place None ds wires is rest = rest
cons_inside topology place (Some d) ds wires is rest = (wires.inside place d is, rest)

pub all_inside : (topology : Topology) (steps : List Place) → Wired topology → AreInside topology (filter_map (direction_from topology) steps)
all_inside topology [] wires = tt
all_inside topology (place ∷ steps) wires = cons_inside topology place (direction_from topology place) (filter_map (direction_from topology) steps) wires refl (all_inside topology steps wires)
