-- One more entry, and its move: the queues agree.
use Rattle.std.proofs.Common.{◌≡◌, ◌≤◌, ◌<◌, ◌∙◌, ◌==◌, ◌⊎◌, inl, inr, ℕ, Bool, true, false, if◌then◌else◌, Option, Some, None, List, [], ◌∷◌, ◌++◌, map, length, refl, sym, ap, ap₂, append-nil, lt-ltb, eq-eqb}
use Rattle.std.specs.Prelude.{option_map}
use Rattle.std.proofs.lemmas.List.{map-append}
use Rattle.hmc_codes.specs.Commands.{is_posted}
use Rattle.hmc_codes.specs.Request.{RequestFields}
use Rattle.hmc_codes.specs.Shape.{vault_of, bank_of}
use Rattle.hmc_codes.specs.declared.family.Family.{Family}
use Rattle.hmc_codes.specs.declared.family.Family.TheVariants as families
use Rattle.hmc_codes.specs.declared.place.Place.{Place}
use Rattle.hmc_codes.specs.declared.place.Place.TheVariants as places
use Rattle.hmc_codes.specs.declared.unit.Unit.TheVariants as units
use Rattle.hmc_packet.specs.Packet.{PacketFields}
use Rattle.hmc_routes.specs.Ports.{port_to_cube, port_to_host}
use Rattle.hmc_serial.specs.Unit.{is_for_registers, unit_of, unit_by}
use Rattle.hmc_hops.specs.Packets.{Packet, Spot as spots}
use Rattle.hmc_hops.specs.Map.{Map, goal_by as hop_goal_by, goal_of as hop_goal}
use Rattle.hmc_routes.specs.Route.{Goal, Goal as targets}
use Rattle.hmc_hops.specs.Queues.{QueueId as HopQueue, next_queue, first_queue, at_cube, after_buffer, after_answers, unless_poisoned, same_queue as same_hop, is_at as is_at_hop, QueueId as hops}
use Rattle.hmc_hops.specs.Moves.{Move, without_if, packet_if as hop_if, contents as hop_contents}
use Rattle.hmc_hops.specs.Moves.Move.{Goes}
use Rattle.hmc_entries.specs.declared.outcome.Goal.{Goal as PortGoal}
use Rattle.hmc_entries.specs.declared.outcome.Goal.TheVariants as goals
use Rattle.hmc_entries.specs.declared.entry.Entry.{Entry}
use Rattle.hmc_journal.specs.Queues.{QueueId, is_at, arrival_in, arrived, leaves, left, entered, contents, front_of, goal_queue, output_from, QueueId as queues}
use Rattle.hmc_journal.specs.Setup.{Topology, Setup, graph_of, shape_of, cubes_in, hosts_in, direction_from}
use Rattle.hmc_journal.proofs.EntryRule.{EntryRule, HasShifted, HasDropped, HasSpread, HasLifted, goal_of}
use Rattle.hmc_journal.proofs.Moves.{HasBegun, arrives, arrived_is, entering}
use Rattle.hmc_laws.proofs.Standing.{IsAsking, IsReplying, IsSpoiled, IsMoving, IsBound, request_of_packet}
use Rattle.hmc_laws.proofs.Standing.IsMoving.{ToCube, ToHost, Spoiled}
use Rattle.hmc_laws.proofs.Entering.{has_direction, asking_goal, replying_goal, out_port, no_vault, no_registers, no_port, is_here}
use Rattle.hmc_crossbar.specs.To.{into_cube, out_of_cube, request_to, unpoisoned_to}
use Rattle.hmc_codes.specs.declared.lift.Lift.{Lift}
use Rattle.hmc_journal.specs.Next.{goal_at}
use Rattle.hmc_journal.specs.StepView.{view_of}
use Rattle.hmc_laws.proofs.Wired.{Wired}
use Rattle.hmc_laws.proofs.Contents.{pop, contents-more}
use Rattle.hmc_delivery.proofs.Seen.{seen, kind_by, spot_of, spot_by, hop_queue, arriving}
use Rattle.hmc_delivery.proofs.Underway.{line_on}
use Rattle.hmc_delivery.proofs.Agreeing.{IsMapOf, EndsAt, IsReal, Agrees, end_at, out_by, arriving_is, same_hops, not_line, pop_seen, if_seen}
use Rattle.hmc_laws.proofs.ForwardingLandings.{back_false}
use Rattle.hmc_journal.proofs.Packets.{inside_goal}

-- ---- a queue after one more entry

pub queue-more : (setup : Setup) (entry : Entry) (past : List Entry) (queue : QueueId) (goes : Bool) (new before : List Packet) → EntryRule setup past entry → HasBegun setup past entry
    → ((q : QueueId) → left past q ≤ length (entered setup.topology past q)) → is_at (leaves past entry) queue ≡ goes → map (seen setup.topology) (entering setup.topology past entry queue) ≡ new
    → map (seen setup.topology) (contents setup.topology past queue) ≡ before → map (seen setup.topology) (contents setup.topology (entry ∷ past) queue) ≡ without_if goes 0 before ++ new
queue-more setup entry past queue goes new before right begun within leaves_is enters_is before_is =
    let inside = contents setup.topology past queue in
    ap (map (seen setup.topology)) (contents-more setup entry past queue right begun within)
    ∙ map-append (seen setup.topology) (pop (is_at (leaves past entry) queue) inside) (entering setup.topology past entry queue)
    ∙ ap₂ (λ (l m : List Packet). l ++ m) (ap (λ (b : Bool). map (seen setup.topology) (pop b inside)) leaves_is ∙ pop_seen setup.topology goes inside ∙ ap (without_if goes 0) before_is) enters_is

-- no move
pub still_step : (setup : Setup) (m : Map) (past : List Entry) (moved : List Move) (entry : Entry) → Agrees setup.topology m past moved → EntryRule setup past entry → HasBegun setup past entry
    → ((q : QueueId) → left past q ≤ length (entered setup.topology past q)) → leaves past entry ≡ None → ((q : QueueId) → entering setup.topology past entry q ≡ [])
    → ((d : ℕ) → map (seen setup.topology) (line_on setup.topology d (entry ∷ past)) ≡ map (seen setup.topology) (line_on setup.topology d past)) → Agrees setup.topology m (entry ∷ past) moved
still_step setup m past moved entry agrees right begun within leaves_is enters_is under = record {
  queues = λ q real.
      queue-more setup entry past q false [] (hop_contents m moved (hop_queue setup.topology q)) right begun within (ap (λ (o : Option QueueId). is_at o q) leaves_is) (ap (map (seen setup.topology)) (enters_is q)) (agrees.queues q real)
      ∙ append-nil (hop_contents m moved (hop_queue setup.topology q));
  lines = λ d. under d ∙ agrees.lines d;
}

-- a front goes on
abbrev pub RealTo : Topology → Option QueueId → Type 0
RealTo topology None = Unit {0}
RealTo topology (Some queue) = IsReal topology queue

is_at_hops : (topology : Topology) (to : Option QueueId) (q : QueueId) → Wired topology → RealTo topology to → IsReal topology q → is_at to q ≡ is_at_hop (option_map (hop_queue topology) to) (hop_queue topology q)
is_at_hops topology None q wires real q_real = refl
is_at_hops topology (Some p) q wires real q_real = same_hops topology p q wires real q_real

no_line_to : (topology : Topology) (to : Option QueueId) (d : ℕ) → is_at_hop (option_map (hop_queue topology) to) (hops.Line d) ≡ false
no_line_to topology None d = refl
no_line_to topology (Some p) d = not_line topology p d

pub front_step : (setup : Setup) (m : Map) (past : List Entry) (moved : List Move) (entry : Entry) (p : QueueId) (to : Option QueueId) → Wired setup.topology → Agrees setup.topology m past moved → EntryRule setup past entry → HasBegun setup past entry
    → ((q : QueueId) → left past q ≤ length (entered setup.topology past q)) → leaves past entry ≡ Some p → arrives setup.topology past entry ≡ arrival_in to (λ _. front_of (contents setup.topology past p)) → IsReal setup.topology p → RealTo setup.topology to
    → next_queue m (hop_queue setup.topology p) (seen setup.topology (front_of (contents setup.topology past p))) ≡ option_map (hop_queue setup.topology) to
    → ((d : ℕ) → line_on setup.topology d (entry ∷ past) ≡ line_on setup.topology d past)
    → Agrees setup.topology m (entry ∷ past) (Goes (hop_queue setup.topology p) 0 (seen setup.topology (front_of (contents setup.topology past p))) ∷ moved)
unfolding entering hop_contents
front_step setup m past moved entry p to wires agrees right begun within leaves_is arrives_is p_real to_real next_is under =
    let t = setup.topology in
    let front = front_of (contents t past p) in
    let x = seen t front in
    let hop = hop_queue t p in record {
      queues = λ q q_real.
          queue-more setup entry past q (same_hop hop (hop_queue t q)) (hop_if (is_at_hop (next_queue m hop x) (hop_queue t q)) x) (hop_contents m moved (hop_queue t q)) right begun within
          (ap (λ (o : Option QueueId). is_at o q) leaves_is ∙ same_hops t p q wires p_real q_real)
          (ap (λ a. map (seen t) (arrived q a)) arrives_is ∙ ap (map (seen t)) (arrived_is to (λ _. front) q) ∙ if_seen t (is_at to q) (λ _. front)
          ∙ ap (λ (b : Bool). hop_if b x) (is_at_hops t to q wires to_real q_real ∙ ap (λ o. is_at_hop o (hop_queue t q)) (sym next_is)))
          (agrees.queues q q_real);
      lines = λ d.
          ap (map (seen t)) (under d) ∙ agrees.lines d
          ∙ sym (ap₂ (λ (b c : Bool). without_if b 0 (hop_contents m moved (hops.Line d)) ++ hop_if c x) (not_line t p d) (ap (λ o. is_at_hop o (hops.Line d)) next_is ∙ no_line_to t to d)
          ∙ append-nil (hop_contents m moved (hops.Line d)));
    }

-- ---- where a front goes

pub buffer_end : (topology : Topology) (m : Map) (place : Place) → IsMapOf topology m → Wired topology → EndsAt topology place → m.end_of (arriving topology place) ≡ end_at place
buffer_end topology m place map_of wires at =
    ap m.end_of (arriving_is topology place wires at) ∙ map_of.finish at.direction at.inside ∙ ap end_at at.ends

no_way : (poisoned : Bool) → unless_poisoned poisoned None ≡ None
no_way true = refl
no_way false = refl

-- a host takes its front, poisoned or not
pub host_next : (topology : Topology) (m : Map) (host : ℕ) (x : Packet) → IsMapOf topology m → Wired topology → EndsAt topology (places.Host host) → next_queue m (hop_queue topology (queues.Host host)) x ≡ None
host_next topology m host x map_of wires at =
    ap (λ e. unless_poisoned x.poisoned (after_buffer m e x)) (buffer_end topology m (places.Host host) map_of wires at) ∙ no_way x.poisoned

-- the goal of a packet
request_kind : (posted : Bool) (host cube : ℕ) → hop_goal_by (kind_by families.Ask posted) host cube ≡ targets.ToCube cube
request_kind true host cube = refl
request_kind false host cube = refl

pub asking_for : (topology : Topology) (packet : PacketFields) → IsAsking topology packet → hop_goal (seen topology packet) ≡ targets.ToCube packet.cube
unfolding seen
asking_for topology packet asking =
    ap (λ (f : Family). hop_goal_by (kind_by f (is_posted packet.command)) packet.slid packet.cube) asking.asks ∙ request_kind (is_posted packet.command) packet.slid packet.cube

pub replying_for : (topology : Topology) (packet : PacketFields) → IsReplying topology packet → hop_goal (seen topology packet) ≡ targets.ToHost packet.slid
unfolding seen
replying_for topology packet replying = ap (λ (f : Family). hop_goal_by (kind_by f (is_posted packet.command)) packet.slid packet.cube) replying.replies

-- the unit of a request
spot_when : (registers : Bool) (cube vault bank : ℕ) → spot_of (if registers then units.Registers cube else units.Bank cube vault bank) ≡ (if registers then spots.Registers else spots.Bank vault bank)
spot_when true cube vault bank = refl
spot_when false cube vault bank = refl

unit_when : (registers : Bool) (topology : Topology) (request : RequestFields) → unit_by registers (shape_of topology request.cube) request
    ≡ (if registers then units.Registers request.cube else units.Bank request.cube (vault_of (shape_of topology request.cube) request.address) (bank_of (shape_of topology request.cube) request.address))
unit_when true topology request = refl
unit_when false topology request = refl

pub spot_is : (topology : Topology) (cube : ℕ) (packet : PacketFields) → IsAsking topology packet → packet.cube ≡ cube
    → (seen topology packet).spot ≡ (if is_for_registers packet.command then spots.Registers else spots.Bank (vault_of (shape_of topology cube) packet.address) (bank_of (shape_of topology cube) packet.address))
unfolding seen unit_of
spot_is topology cube packet asking own =
    let request = asking.request in
    let parts = request_of_packet packet request asking.found in
    let there : request.cube ≡ cube = parts.cube ∙ own in
    ap (spot_by topology) asking.found ∙ ap spot_of (unit_when (is_for_registers request.command) topology request)
    ∙ spot_when (is_for_registers request.command) request.cube (vault_of (shape_of topology request.cube) request.address) (bank_of (shape_of topology request.cube) request.address)
    ∙ ap₂ (λ (c : Bool) (a : ℕ). if c then spots.Registers else spots.Bank (vault_of (shape_of topology request.cube) a) (bank_of (shape_of topology request.cube) a)) (ap is_for_registers parts.command) parts.address
    ∙ ap (λ (n : ℕ). if is_for_registers packet.command then spots.Registers else spots.Bank (vault_of (shape_of topology n) packet.address) (bank_of (shape_of topology n) packet.address)) there

first_vault : (registers : Bool) (cube v b vault : ℕ) → (if registers then goals.Registers else goals.Vault v) ≡ goals.Vault vault → first_queue cube (if registers then spots.Registers else spots.Bank v b) ≡ hops.Vault cube vault
first_vault true cube v b vault is = cc
first_vault false cube v b vault is = let same : v ≡ vault = cc in ap (hops.Vault cube) same

first_registers : (registers : Bool) (cube v b : ℕ) → (if registers then goals.Registers else goals.Vault v) ≡ goals.Registers → first_queue cube (if registers then spots.Registers else spots.Bank v b) ≡ hops.UnitQueue cube spots.Registers
first_registers true cube v b is = refl
first_registers false cube v b is = cc

spot_bank : (registers : Bool) (v b vault bank : ℕ) → (if registers then goals.Registers else goals.Vault v) ≡ goals.Vault vault → b ≡ bank → (if registers then spots.Registers else spots.Bank v b) ≡ spots.Bank vault bank
spot_bank true v b vault bank is same = cc
spot_bank false v b vault bank is same = let one : v ≡ vault = cc in ap₂ (λ (n k : ℕ). spots.Bank n k) one same

-- a request in its cube goes on to no direction
stops_here : (topology : Topology) (m : Map) (cube : ℕ) (packet : PacketFields) → IsMapOf topology m → IsAsking topology packet → packet.cube ≡ cube → m.next (hop_goal (seen topology packet)) cube ≡ None
stops_here topology m cube packet map_of asking own =
    ap (λ (g : Goal). m.next g cube) (asking_for topology packet asking) ∙ map_of.next_cube packet.cube cube
    ∙ ap (λ (b : Bool). if b then None else out_by topology cube (port_to_cube (graph_of topology) packet.cube cube)) (eq-eqb cube packet.cube (sym own))

-- through a port
abbrev goal_request : Topology → (cube : ℕ) → PacketFields → (here : Bool) → Option PortGoal
goal_request topology cube packet here = goal_at (request_to (graph_of topology) (shape_of topology cube) cube packet here)

asked_out : (topology : Topology) (cube out : ℕ) (packet : PacketFields) (here : Bool) → goal_request topology cube packet here ≡ Some (goals.Port out) → (here ≡ false) × (port_to_cube (graph_of topology) packet.cube cube ≡ Some out)
asked_out topology cube out packet true is =
    absurd (no_port (is_for_registers packet.command) (vault_of (shape_of topology cube) packet.address) out
    (inside_goal (is_for_registers packet.command) (vault_of (shape_of topology cube) packet.address) (goals.Port out) is))
asked_out topology cube out packet false is = (refl, out_port (port_to_cube (graph_of topology) packet.cube cube) out is)

request_out : (topology : Topology) (m : Map) (cube out d : ℕ) (packet : PacketFields) → IsMapOf topology m → IsAsking topology packet → goal_of topology cube packet ≡ Some (goals.Port out)
    → direction_from topology (places.Port cube out) ≡ Some d → m.next (hop_goal (seen topology packet)) cube ≡ Some d
request_out topology m cube out d packet map_of asking is starts =
    let parts = asked_out topology cube out packet (packet.cube == cube) (asking_goal topology cube packet (goals.Port out) asking is) in
    ap (λ (g : Goal). m.next g cube) (asking_for topology packet asking) ∙ map_of.next_cube packet.cube cube
    ∙ ap (λ (b : Bool). if b then None else out_by topology cube (port_to_cube (graph_of topology) packet.cube cube)) (back_false packet.cube cube parts.0)
    ∙ ap (out_by topology cube) parts.1 ∙ starts

pub answer_out : (topology : Topology) (m : Map) (cube out d : ℕ) (packet : PacketFields) → IsMapOf topology m → IsReplying topology packet → port_to_host (graph_of topology) packet.slid cube ≡ Some out
    → direction_from topology (places.Port cube out) ≡ Some d → m.next (hop_goal (seen topology packet)) cube ≡ Some d
answer_out topology m cube out d packet map_of replying port starts =
    ap (λ (g : Goal). m.next g cube) (replying_for topology packet replying) ∙ map_of.next_host packet.slid cube ∙ ap (out_by topology cube) port ∙ starts

pub not_spoiled : (topology : Topology) (packet : PacketFields) → packet.poisoned ≡ false → IsSpoiled topology packet → ⊥
not_spoiled topology packet clean spoiled = let clash : true ≡ false = sym spoiled.poisoned ∙ clean in cc

pub onwards : (topology : Topology) (m : Map) (cube out d : ℕ) (packet : PacketFields) → IsMapOf topology m → packet.poisoned ≡ false → IsMoving topology packet → goal_of topology cube packet ≡ Some (goals.Port out)
    → direction_from topology (places.Port cube out) ≡ Some d → m.next (hop_goal (seen topology packet)) cube ≡ Some d
onwards topology m cube out d packet map_of clean (ToCube asking) is starts = request_out topology m cube out d packet map_of asking is starts
onwards topology m cube out d packet map_of clean (Spoiled spoiled) is starts = absurd (not_spoiled topology packet clean spoiled)
onwards topology m cube out d packet map_of clean (ToHost replying) is starts =
    answer_out topology m cube out d packet map_of replying (out_port (port_to_host (graph_of topology) packet.slid cube) out (replying_goal topology cube packet (goals.Port out) replying is)) starts

-- ---- where the front of a port's buffer goes

pub unpoisoned_next : (topology : Topology) (m : Map) (cube port : ℕ) (packet : PacketFields) (direction : Option ℕ) → IsMapOf topology m → Wired topology → EndsAt topology (places.Port cube port) → packet.poisoned ≡ false
    → m.next (hop_goal (seen topology packet)) cube ≡ direction → next_queue m (hop_queue topology (queues.Port cube port)) (seen topology packet) ≡ at_cube direction (first_queue cube (seen topology packet).spot)
unfolding seen
unpoisoned_next topology m cube port packet direction map_of wires at clean next_is =
    ap (λ e. unless_poisoned packet.poisoned (after_buffer m e (seen topology packet))) (buffer_end topology m (places.Port cube port) map_of wires at)
    ∙ ap (λ (b : Bool). unless_poisoned b (at_cube (m.next (hop_goal (seen topology packet)) cube) (first_queue cube (seen topology packet).spot))) clean
    ∙ ap (λ o. at_cube o (first_queue cube (seen topology packet).spot)) next_is

some_out : (topology : Topology) (found : Option ℕ) (d : ℕ) → found ≡ Some d → Some (hops.Output d) ≡ option_map (hop_queue topology) (option_map queues.Output found)
some_out topology found d is = ap (λ (o : Option ℕ). option_map (hop_queue topology) (option_map queues.Output o)) (sym is)

pub shifted_next : (setup : Setup) (m : Map) (past : List Entry) (cube port : ℕ) (goal : PortGoal) → IsMapOf setup.topology m → Wired setup.topology → EndsAt setup.topology (places.Port cube port) → (has : HasShifted setup past cube port goal)
    → IsMoving setup.topology has.at.front → next_queue m (hop_queue setup.topology (queues.Port cube port)) (seen setup.topology has.at.front) ≡ option_map (hop_queue setup.topology) (goal_queue setup.topology cube goal)
shifted_next setup m past cube port (goals.Vault vault) map_of wires at has moving =
    let t = setup.topology in
    let here = is_here t cube (goals.Vault vault) has.at.front has.unpoisoned moving has.is_goal (λ out is. no_vault out vault is) in
    let v = vault_of (shape_of t cube) has.at.front.address in
    let b = bank_of (shape_of t cube) has.at.front.address in
    unpoisoned_next t m cube port has.at.front None map_of wires at has.unpoisoned (stops_here t m cube has.at.front map_of here.asking here.own)
    ∙ ap (λ s. Some (first_queue cube s)) (spot_is t cube has.at.front here.asking here.own) ∙ ap Some (first_vault (is_for_registers has.at.front.command) cube v b vault here.is_goal)
shifted_next setup m past cube port goals.Registers map_of wires at has moving =
    let t = setup.topology in
    let here = is_here t cube goals.Registers has.at.front has.unpoisoned moving has.is_goal (λ out is. no_registers out is) in
    let v = vault_of (shape_of t cube) has.at.front.address in
    let b = bank_of (shape_of t cube) has.at.front.address in
    unpoisoned_next t m cube port has.at.front None map_of wires at has.unpoisoned (stops_here t m cube has.at.front map_of here.asking here.own)
    ∙ ap (λ s. Some (first_queue cube s)) (spot_is t cube has.at.front here.asking here.own) ∙ ap Some (first_registers (is_for_registers has.at.front.command) cube v b here.is_goal)
shifted_next setup m past cube port (goals.Port out) map_of wires at has moving =
    let t = setup.topology in
    let to = has_direction t (view_of setup past) (places.Port cube out) has.room in
    unpoisoned_next t m cube port has.at.front (Some to.0) map_of wires at has.unpoisoned (onwards t m cube out to.0 has.at.front map_of has.unpoisoned moving has.is_goal to.1)
    ∙ some_out t (direction_from t (places.Port cube out)) to.0 to.1

-- a packet that has a goal which is there isn't lost
no_goal_at : (found : Option ℕ) → goal_at (out_of_cube found) ≡ None → found ≡ None
no_goal_at None is = refl
no_goal_at (Some port) is = absurd (cc)

goes_in : (registers : Bool) (vault : ℕ) → goal_at (into_cube registers vault) ≡ None → ⊥
goes_in true vault is = cc
goes_in false vault is = cc

asked_none : (topology : Topology) (cube : ℕ) (packet : PacketFields) (here : Bool) → goal_request topology cube packet here ≡ None → (here ≡ false) × (port_to_cube (graph_of topology) packet.cube cube ≡ None)
asked_none topology cube packet true is = absurd (goes_in (is_for_registers packet.command) (vault_of (shape_of topology cube) packet.address) is)
asked_none topology cube packet false is = (refl, no_goal_at (port_to_cube (graph_of topology) packet.cube cube) is)

abbrev goal_for_family : (topology : Topology) (cube : ℕ) (packet : PacketFields) → Family → Option PortGoal
goal_for_family topology cube packet family = goal_at (unpoisoned_to (graph_of topology) (shape_of topology cube) cube packet family)

to_cubes : (c d : ℕ) → targets.ToCube c ≡ targets.ToCube d → c ≡ d
to_cubes c d same = cc

pub not_lost : (topology : Topology) (m : Map) (cube : ℕ) (packet : PacketFields) → IsMapOf topology m → cube < cubes_in topology → packet.poisoned ≡ false → IsMoving topology packet → goal_of topology cube packet ≡ None → ⊥
not_lost topology m cube packet map_of there clean (ToCube asking) is =
    let parts = asked_none topology cube packet (packet.cube == cube) (sym (ap (goal_for_family topology cube packet) asking.asks) ∙ is) in
    let none : m.next (targets.ToCube packet.cube) cube ≡ None =
    map_of.next_cube packet.cube cube ∙ ap (λ (b : Bool). if b then None else out_by topology cube (port_to_cube (graph_of topology) packet.cube cube)) (back_false packet.cube cube parts.0) ∙ ap (out_by topology cube) parts.1 in
    let known : m.is_goal (targets.ToCube packet.cube) ≡ true = map_of.goal_cube packet.cube ∙ lt-ltb packet.cube (cubes_in topology) asking.cube in
    let here = map_of.is.arrives (targets.ToCube packet.cube) cube known (map_of.is_cube cube ∙ lt-ltb cube (cubes_in topology) there) none in
    let clash : true ≡ false = sym (eq-eqb packet.cube cube (to_cubes packet.cube cube here)) ∙ parts.0 in cc
not_lost topology m cube packet map_of there clean (Spoiled spoiled) is = absurd (not_spoiled topology packet clean spoiled)
not_lost topology m cube packet map_of there clean (ToHost replying) is =
    let port = no_goal_at (port_to_host (graph_of topology) packet.slid cube) (sym (ap (goal_for_family topology cube packet) replying.replies) ∙ is) in
    let none : m.next (targets.ToHost packet.slid) cube ≡ None = map_of.next_host packet.slid cube ∙ ap (out_by topology cube) port in
    let known : m.is_goal (targets.ToHost packet.slid) ≡ true = map_of.goal_host packet.slid ∙ lt-ltb packet.slid (hosts_in topology) replying.slid in
    let here : targets.ToHost packet.slid ≡ targets.ToCube cube = map_of.is.arrives (targets.ToHost packet.slid) cube known (map_of.is_cube cube ∙ lt-ltb cube (cubes_in topology) there) none in cc

poisoned_none : (poisoned : Bool) (there : Option HopQueue) → poisoned ≡ true → unless_poisoned poisoned there ≡ None
poisoned_none true there is = refl
poisoned_none false there is = cc

pub dropped_next : (setup : Setup) (m : Map) (past : List Entry) (cube port : ℕ) → IsMapOf setup.topology m → Wired setup.topology → EndsAt setup.topology (places.Port cube port) → cube < cubes_in setup.topology → (has : HasDropped setup past cube port)
    → IsMoving setup.topology has.at.front → next_queue m (hop_queue setup.topology (queues.Port cube port)) (seen setup.topology has.at.front) ≡ None
unfolding seen
dropped_next setup m past cube port map_of wires at there has moving = by_cause has.is_lost
  where
    by_poison : (poisoned : Bool) → has.at.front.poisoned ≡ poisoned → goal_of setup.topology cube has.at.front ≡ None → next_queue m (hop_queue setup.topology (queues.Port cube port)) (seen setup.topology has.at.front) ≡ None
    by_poison true poisoned none = poisoned_none has.at.front.poisoned (after_buffer m (m.end_of (arriving setup.topology (places.Port cube port))) (seen setup.topology has.at.front)) poisoned
    by_poison false clean none = absurd (not_lost setup.topology m cube has.at.front map_of there clean moving none)

    by_cause : (has.at.front.poisoned ≡ true) ⊎ (goal_of setup.topology cube has.at.front ≡ None) → next_queue m (hop_queue setup.topology (queues.Port cube port)) (seen setup.topology has.at.front) ≡ None
    by_cause (inl poisoned) = poisoned_none has.at.front.poisoned (after_buffer m (m.end_of (arriving setup.topology (places.Port cube port))) (seen setup.topology has.at.front)) poisoned
    by_cause (inr none) = by_poison has.at.front.poisoned refl none

pub spread_next : (setup : Setup) (m : Map) (past : List Entry) (cube vault bank : ℕ) → (has : HasSpread setup past cube vault bank) → IsBound setup.topology cube (goals.Vault vault) has.at.front
    → next_queue m (hops.Vault cube vault) (seen setup.topology has.at.front) ≡ Some (hops.UnitQueue cube (spots.Bank vault bank))
spread_next setup m past cube vault bank has bound =
    let t = setup.topology in
    let v = vault_of (shape_of t cube) has.at.front.address in
    let b = bank_of (shape_of t cube) has.at.front.address in
    ap (λ s. Some (hops.UnitQueue cube s)) (spot_is t cube has.at.front bound.asking bound.own ∙ spot_bank (is_for_registers has.at.front.command) v b vault bank bound.is_goal (sym has.is_bank))

after_out : (topology : Topology) (found : Option ℕ) → after_answers found ≡ option_map (hop_queue topology) (option_map queues.Output found)
after_out topology None = refl
after_out topology (Some d) = refl

pub lifted_next : (setup : Setup) (m : Map) (past : List Entry) (cube : ℕ) (from : Lift) (port : ℕ) → IsMapOf setup.topology m → (has : HasLifted setup past cube from port)
    → next_queue m (hops.Answers cube from) (seen setup.topology has.at.front) ≡ option_map (hop_queue setup.topology) (output_from setup.topology (places.Port cube port))
unfolding seen
lifted_next setup m past cube from port map_of has =
    ap after_answers (map_of.next_host has.at.front.slid cube ∙ ap (out_by setup.topology cube) has.is_port) ∙ after_out setup.topology (direction_from setup.topology (places.Port cube port))
