-- Where all the cube's and the host's steps are idle, the host's buffer is empty, and a reply waits
-- to be sent or the cube is empty.
use Rattle.std.proofs.Common.{◌≡◌, ◌≤◌, ◌<◌, ◌+◌, ◌/◌, ◌^◌, ◌∙◌, ◌⊎◌, ◌==◌, ◌&&◌, inl, inr, ℕ, suc, Bool, true, false, not, nat_le, if◌then◌else◌, Option, Some, List, [], ◌∷◌, ◌++◌, All, length, map, refl, sym, ap, ap₂, subst, arith, eq-eqb}
use Rattle.std.specs.Prelude.{option_map, slice_index_or}
use Rattle.std.specs.List.{flat_map}
use Rattle.std.proofs.lemmas.Bool.{lt-leb}
use Rattle.std.proofs.lemmas.List.Elements.{All-head}
use Rattle.hmc_codes.specs.Commands.{is_posted, family_of}
use Rattle.hmc_codes.specs.Request.{RequestFields}
use Rattle.hmc_codes.specs.Shape.{vault_of, bank_of}
use Rattle.hmc_codes.specs.declared.family.Family.{Family}
use Rattle.hmc_codes.specs.declared.lift.Lift.{Lift}
use Rattle.hmc_codes.specs.declared.lift.Lift.TheVariants as lifts
use Rattle.hmc_codes.specs.declared.place.Place.TheVariants as places
use Rattle.hmc_codes.specs.declared.unit.Unit.{Unit as RequestUnit}
use Rattle.hmc_codes.specs.declared.unit.Unit.TheVariants as units
use Rattle.hmc_packet.specs.Packet.{PacketFields, flits_of}
use Rattle.hmc_packet.specs.Transactions.{request_in}
use Rattle.hmc_case.specs.Setup.{CubeSetupFields, IsCubeSetup}
use Rattle.hmc_case.specs.declared.setup.LinkRow.{LinkRow}
use Rattle.hmc_codes.specs.Link.{IsLinkSetup}
use Rattle.hmc_crossbar.specs.declared.to.To.TheVariants as tos
use Rattle.hmc_crossbar.specs.To.{into_cube, out_of_cube, request_to, unpoisoned_to}
use Rattle.hmc_host.specs.Settle.{settle_says}
use Rattle.hmc_host.specs.declared.settled.Settled.{Settled}
use Rattle.hmc_host.specs.declared.settled.Settled.TheVariants as settles
use Rattle.hmc_routes.specs.Ports.{port_to_host}
use Rattle.hmc_schedule.specs.declared.step.Step.{Step}
use Rattle.hmc_schedule.specs.declared.step.Step.TheVariants as steps
use Rattle.hmc_send.specs.LinkEntries.{LinkEntry}
use Rattle.hmc_serial.specs.Unit.{is_for_registers}
use Rattle.hmc_vault.specs.Execute.{must_wait}
use Rattle.hmc_link_state.specs.Round.{IsStuck}
use Rattle.hmc_link_state.specs.State.{inside_cube}
use Rattle.hmc_link_state.specs.Steps.{Doing}
use Rattle.hmc_entries.specs.declared.outcome.Goal.{Goal}
use Rattle.hmc_entries.specs.declared.outcome.Goal.TheVariants as goals
use Rattle.hmc_entries.specs.declared.entry.Entry.{Entry}
use Rattle.hmc_entries.specs.declared.entry.Entry.TheVariants.{Shifted, Spread, Lifted}
use Rattle.hmc_journal.specs.Answers.{took_entry}
use Rattle.hmc_journal.specs.CubeSteps.{goal_at, shifted_entry, shift_entry, execution_entry, lifted_entry}
use Rattle.hmc_journal.specs.Lawful.{Lawful}
use Rattle.hmc_journal.specs.Network.{IsNetwork}
use Rattle.hmc_journal.specs.Next.{next, choice}
use Rattle.hmc_journal.specs.Queues.{QueueId, contents, output_from, goal_queue}
use Rattle.hmc_journal.specs.Queues.QueueId.{Output, Port, Host, Vault, Bank, Registers, Answers}
use Rattle.hmc_journal.specs.Setup.{Setup, Topology, no_link, shape_of, graph_of, hosts_in, cubes_in, cube_setup, link_of}
use Rattle.hmc_journal.specs.Setup.{no_setup}
use Rattle.hmc_journal.specs.StepView.{view_of}
use Rattle.hmc_journal.specs.Waiting.{is_filled, lacks_room, with_front, unless_full}
use Rattle.hmc_laws.proofs.Entering.{contents_stand}
use Rattle.hmc_laws.proofs.Sound.{kept}
use Rattle.hmc_laws.proofs.Standing.{Stands, IsMoving}
use Rattle.hmc_laws.proofs.Standing.IsMoving.{ToCube, ToHost, Spoiled}
use Rattle.hmc_rounds.specs.Counted.{counted, is_idle}
use Rattle.hmc_rounds.specs.CubeQueues.{vaults_in, banks_in, queues_of_vaults, queues_of_units, queues_of_answers}
use Rattle.hmc_journal.specs.UnderWay.{count_in}
use Rattle.hmc_rounds.proofs.EachEntry.{below_power}
use Rattle.hmc_rounds.proofs.EntryMoves.{Scene, port_buffer, host_buffer, back_queue, as_long}
use Rattle.hmc_rounds.proofs.Every.{Every, every_of, every_flat_of}
use Rattle.hmc_rounds.proofs.Idle.{ran_idle}
use Rattle.hmc_rounds.proofs.Placed.{IsLiftThere}
use Rattle.hmc_rounds.proofs.Single.{Joined}
use Rattle.hmc_rounds.proofs.Tried.{IsIdleAt}

-- all those steps are idle
pub record AllIdle (setup : Setup) (j : Joined setup.topology) (past : List Entry) : Type 0 where
  pub shift : IsIdleAt setup past (steps.Shift 0 j.port)
  pub spreads : (v : ℕ) → v < vaults_in setup.topology → IsIdleAt setup past (steps.Spread 0 v)
  pub banks : (v b : ℕ) → v < vaults_in setup.topology → b < banks_in setup.topology →
      IsIdleAt setup past (steps.Bank 0 v b)
  pub registers : IsIdleAt setup past (steps.Registers 0)
  pub lifts_are : (from : Lift) → IsLiftThere setup.topology from →
      IsIdleAt setup past (steps.Lift 0 from)
  pub take : IsIdleAt setup past (steps.Take 0)

-- a queue is empty where its step is idle and no front would be
none_waits : (P : PacketFields → Type 0) (step : Step) (packets : List PacketFields)
    (does : PacketFields → Entry) → All P packets →
    ((p : PacketFields) → P p → is_idle (does p) ≡ false) →
    is_idle (with_front step packets does) ≡ true → packets ≡ []
none_waits P step [] does all goes idle = refl
none_waits P step (p ∷ packets) does all goes idle =
    absurd (let clash : false ≡ true = sym (goes p (All-head P p packets all)) ∙ idle in cc)

not_filled : (size : ℕ) (packets : List PacketFields) → 1 ≤ size → packets ≡ [] →
    is_filled (Some size) (length packets) ≡ false
not_filled size packets some none =
    let long : length packets ≡ 0 = ap length none in
    lt-leb size (length packets) (omega (arith, some, long))

-- ---- sizes

pub some_output : (setup : Setup) (j : Joined setup.topology) → IsNetwork setup →
    1 ≤ (link_of setup.topology j.back).setup.output
some_output setup j network =
    let is : (link_of setup.topology j.back).setup.output ≡ j.link.setup.output =
    ap₂ (λ (ls : List LinkRow) (n : ℕ). (slice_index_or ls n no_link).setup.output) j.one_link
    j.link_back in
    let sizes =
    All-head (λ (link : LinkRow). IsLinkSetup link.setup) j.link []
    (subst (All (λ (link : LinkRow). IsLinkSetup link.setup)) j.one_link network.sizes) in
    subst (λ (n : ℕ). 1 ≤ n) (sym is) sizes.some_output

pub some_queue : (setup : Setup) (j : Joined setup.topology) → IsNetwork setup →
    1 ≤ (cube_setup setup.topology 0).queue
some_queue setup j network =
    let is : (cube_setup setup.topology 0).queue ≡ j.cube.queue =
    ap (λ (cs : List CubeSetupFields). (slice_index_or cs 0 no_setup).queue) j.cubes in
    let sizes = All-head IsCubeSetup j.cube [] (subst (All IsCubeSetup) j.cubes network.cubes) in
    subst (λ (n : ℕ). 1 ≤ n) (sym is) sizes.some_queue

only_host : (t : Topology) (j : Joined t) (slid : ℕ) → slid < hosts_in t → slid ≡ 0
only_host t j slid less =
    let small : slid < 1 = subst (λ (n : ℕ). slid < n) j.one_host less in omega (arith, small)

only_cube : (t : Topology) (j : Joined t) (cube : ℕ) → cube < cubes_in t → cube ≡ 0
only_cube t j cube less =
    let small : cube < 1 = subst (λ (cs : List CubeSetupFields). cube < length cs) j.cubes less in
    omega (arith, small)

-- ---- what a front does

out_open : (setup : Setup) (j : Joined setup.topology) (past : List Entry) → IsNetwork setup →
    contents setup.topology past (Output j.back) ≡ [] →
    lacks_room setup.topology (view_of setup past)
    (output_from setup.topology (places.Port 0 j.port)) ≡ false
unfolding view_of
out_open setup j past network none =
    ap (λ (o : Option ℕ). lacks_room setup.topology (view_of setup past) (option_map Output o))
    j.from_port
    ∙ not_filled (link_of setup.topology j.back).setup.output
    (contents setup.topology past (Output j.back)) (some_output setup j network) none

lift_goes : (setup : Setup) (j : Joined setup.topology) (past : List Entry) (from : Lift)
    (port : Option ℕ) → port ≡ Some j.port → IsNetwork setup →
    contents setup.topology past (Output j.back) ≡ [] →
    is_idle (lifted_entry setup.topology (view_of setup past) 0 from port) ≡ false
lift_goes setup j past from port is network none =
    ap (λ (o : Option ℕ). is_idle (lifted_entry setup.topology (view_of setup past) 0 from o)) is
    ∙ ap (λ (b : Bool). is_idle (unless_full (steps.Lift 0 from) b (Lifted 0 from j.port)))
    (out_open setup j past network none)

and_false : (b c : Bool) → c ≡ false → (b && c) ≡ false
and_false true c is = is
and_false false c is = refl

run_goes : (unit : RequestUnit) (step : Step) (front : PacketFields) (answers : List PacketFields)
    (size : ℕ) (state : _) (found : Option RequestFields) (request : RequestFields) →
    found ≡ Some request → 1 ≤ size → answers ≡ [] →
    is_idle (execution_entry unit step front answers size state found) ≡ false
run_goes unit step front answers size state found request is some none =
    ap (λ (o : Option RequestFields).
    is_idle (execution_entry unit step front answers size state o)) is
    ∙ ran_idle unit step (must_wait request answers size) front.slid front.tag request _
    ∙ and_false (not (is_posted request.command)) (nat_le size (length answers))
    (not_filled size answers some none)

goal_goes : (setup : Setup) (past : List Entry) (port : ℕ) (goal : Goal) →
    lacks_room setup.topology (view_of setup past) (goal_queue setup.topology 0 goal) ≡ false →
    is_idle (shifted_entry setup.topology (view_of setup past) 0 port (Some goal)) ≡ false
goal_goes setup past port goal room =
    ap (λ (b : Bool). is_idle (unless_full (steps.Shift 0 port) b (Shifted 0 port goal))) room

-- the queues after the port, and the output queue, are empty
record BehindPort (setup : Setup) (j : Joined setup.topology) (past : List Entry) : Type 0 where
  out : contents setup.topology past (Output j.back) ≡ []
  registers : contents setup.topology past (Registers 0) ≡ []
  vaults : (v : ℕ) → v < vaults_in setup.topology → contents setup.topology past (Vault 0 v) ≡ []

shift_goes : (setup : Setup) (j : Joined setup.topology) (past : List Entry) (p : PacketFields) →
    IsNetwork setup → BehindPort setup j past → IsMoving setup.topology p →
    is_idle (shift_entry setup.topology (view_of setup past) 0 j.port p) ≡ false
unfolding view_of
shift_goes setup j past p network none moving = by_poison p.poisoned refl moving
  where
    t : Topology
    t = setup.topology

    says : Option Goal → Bool
    says goal = is_idle (shifted_entry setup.topology (view_of setup past) 0 j.port goal)

    inside : (registers : Bool) →
        is_idle (shifted_entry setup.topology (view_of setup past) 0 j.port
        (goal_at (into_cube registers (vault_of (shape_of setup.topology 0) p.address)))) ≡ false
    inside true =
        goal_goes setup past j.port goals.Registers
        (not_filled (cube_setup setup.topology 0).queue (contents setup.topology past (Registers 0))
        (some_queue setup j network) none.registers)
    inside false =
        let v = vault_of (shape_of setup.topology 0) p.address in
        goal_goes setup past j.port (goals.Vault v)
        (not_filled (cube_setup setup.topology 0).queue (contents setup.topology past (Vault 0 v))
        (some_queue setup j network)
        (none.vaults v
        (below_power (p.address / (shape_of setup.topology 0).block)
        (shape_of setup.topology 0).vault_bits)))

    by_poison : (poisoned : Bool) → p.poisoned ≡ poisoned → IsMoving setup.topology p
        → is_idle
        (shifted_entry setup.topology (view_of setup past) 0 j.port
        (goal_at (if poisoned then tos.Nowhere
        else unpoisoned_to (graph_of setup.topology) (shape_of setup.topology 0) 0 p
        (family_of p.command)))) ≡ false
    by_poison true is moving = refl
    by_poison false is (ToCube ask) =
        let here : (p.cube == 0) ≡ true =
        eq-eqb p.cube 0 (only_cube setup.topology j p.cube ask.cube) in
        ap (λ (f : Family).
        is_idle (shifted_entry setup.topology (view_of setup past) 0 j.port
        (goal_at (unpoisoned_to (graph_of setup.topology) (shape_of setup.topology 0) 0 p f))))
        ask.asks
        ∙ ap (λ (b : Bool).
        is_idle (shifted_entry setup.topology (view_of setup past) 0 j.port
        (goal_at (request_to (graph_of setup.topology) (shape_of setup.topology 0) 0 p b)))) here
        ∙ inside (is_for_registers p.command)
    by_poison false is (ToHost reply) =
        let towards : port_to_host (graph_of setup.topology) p.slid 0 ≡ Some j.port =
        ap (λ (n : ℕ). port_to_host (graph_of setup.topology) n 0)
        (only_host setup.topology j p.slid reply.slid) ∙ j.towards in
        ap (λ (f : Family).
        is_idle (shifted_entry setup.topology (view_of setup past) 0 j.port
        (goal_at (unpoisoned_to (graph_of setup.topology) (shape_of setup.topology 0) 0 p f))))
        reply.replies
        ∙ ap (λ (o : Option ℕ).
        is_idle (shifted_entry setup.topology (view_of setup past) 0 j.port
        (goal_at (out_of_cube o)))) towards
        ∙ goal_goes setup past j.port (goals.Port j.port) (out_open setup j past network none.out)
    by_poison false is (Spoiled spoiled) =
        absurd (let clash : true ≡ false = sym spoiled.poisoned ∙ is in cc)

take_goes : (settled : Settled) → is_idle (took_entry 0 settled) ≡ false
take_goes settles.Discarded = refl
take_goes (settles.Took tag answer) = refl

-- ---- the queues, from the last to the first

abbrev Empty : Setup → List Entry → QueueId → Type 0
Empty setup past queue = contents setup.topology past queue ≡ []

host_empty : (setup : Setup) (j : Joined setup.topology) (past : List Entry) → IsNetwork setup →
    Lawful setup past → IsIdleAt setup past (steps.Take 0) → Empty setup past (Host 0)
unfolding next choice view_of
host_empty setup j past network lawful idle =
    none_waits (Stands setup.topology (Host 0)) (steps.Take 0)
    (contents setup.topology past (Host 0)) (λ front. took_entry 0 (settle_says front))
    (contents_stand setup past (Host 0) (kept setup past network lawful))
    (λ p is. take_goes (settle_says p)) idle

answers_empty : (setup : Setup) (j : Joined setup.topology) (past : List Entry) (from : Lift) →
    IsNetwork setup → Lawful setup past → Empty setup past (Output j.back) →
    IsIdleAt setup past (steps.Lift 0 from) → Empty setup past (Answers 0 from)
unfolding next choice view_of
answers_empty setup j past from network lawful none idle =
    none_waits (Stands setup.topology (Answers 0 from)) (steps.Lift 0 from)
    (contents setup.topology past (Answers 0 from)) _
    (contents_stand setup past (Answers 0 from) (kept setup past network lawful))
    (λ p is. lift_goes setup j past from (port_to_host (graph_of setup.topology) p.slid 0)
    (ap (λ (n : ℕ). port_to_host (graph_of setup.topology) n 0)
    (only_host setup.topology j p.slid is.replying.slid) ∙ j.towards) network none) idle

bank_empty : (setup : Setup) (j : Joined setup.topology) (past : List Entry) (v b : ℕ) →
    IsNetwork setup → Lawful setup past → Empty setup past (Answers 0 (lifts.Vault v)) →
    IsIdleAt setup past (steps.Bank 0 v b) → Empty setup past (Bank 0 v b)
unfolding next choice view_of
bank_empty setup j past v b network lawful none idle =
    none_waits (Stands setup.topology (Bank 0 v b)) (steps.Bank 0 v b)
    (contents setup.topology past (Bank 0 v b)) _
    (contents_stand setup past (Bank 0 v b) (kept setup past network lawful))
    (λ p is. run_goes (units.Bank 0 v b) (steps.Bank 0 v b) p
    (contents setup.topology past (Answers 0 (lifts.Vault v))) (cube_setup setup.topology 0).queue _
    (request_in p) is.bound.asking.request is.bound.asking.found (some_queue setup j network) none)
    idle

registers_empty : (setup : Setup) (j : Joined setup.topology) (past : List Entry) →
    IsNetwork setup → Lawful setup past → Empty setup past (Answers 0 lifts.Registers) →
    IsIdleAt setup past (steps.Registers 0) → Empty setup past (Registers 0)
unfolding next choice view_of
registers_empty setup j past network lawful none idle =
    none_waits (Stands setup.topology (Registers 0)) (steps.Registers 0)
    (contents setup.topology past (Registers 0)) _
    (contents_stand setup past (Registers 0) (kept setup past network lawful))
    (λ p is. run_goes (units.Registers 0) (steps.Registers 0) p
    (contents setup.topology past (Answers 0 lifts.Registers)) (cube_setup setup.topology 0).queue _
    (request_in p) is.asking.request is.asking.found (some_queue setup j network) none) idle

vault_empty : (setup : Setup) (j : Joined setup.topology) (past : List Entry) (v : ℕ) →
    IsNetwork setup → Lawful setup past →
    ((b : ℕ) → b < banks_in setup.topology → Empty setup past (Bank 0 v b)) →
    IsIdleAt setup past (steps.Spread 0 v) → Empty setup past (Vault 0 v)
unfolding next choice view_of
vault_empty setup j past v network lawful none idle =
    none_waits (Stands setup.topology (Vault 0 v)) (steps.Spread 0 v)
    (contents setup.topology past (Vault 0 v)) _
    (contents_stand setup past (Vault 0 v) (kept setup past network lawful))
    (λ p is.
    (let b = bank_of (shape_of setup.topology 0) p.address in
    let less : b < banks_in setup.topology =
    below_power
    (p.address / (shape_of setup.topology 0).block / 2 ^ (shape_of setup.topology 0).vault_bits)
    (shape_of setup.topology 0).bank_bits in
    ap (λ (full : Bool). is_idle (unless_full (steps.Spread 0 v) full (Spread 0 v b)))
    (not_filled (cube_setup setup.topology 0).queue (contents setup.topology past (Bank 0 v b))
    (some_queue setup j network) (none b less)))) idle

port_empty : (setup : Setup) (j : Joined setup.topology) (past : List Entry) → IsNetwork setup →
    Lawful setup past → BehindPort setup j past → IsIdleAt setup past (steps.Shift 0 j.port) →
    Empty setup past (Port 0 j.port)
unfolding next choice view_of
port_empty setup j past network lawful none idle =
    none_waits (Stands setup.topology (Port 0 j.port)) (steps.Shift 0 j.port)
    (contents setup.topology past (Port 0 j.port))
    (shift_entry setup.topology (view_of setup past) 0 j.port)
    (contents_stand setup past (Port 0 j.port) (kept setup past network lawful))
    (λ p is. shift_goes setup j past p network none is.goes) idle

held_none : (setup : Setup) (past : List Entry) (rooms : List QueueId) →
    Every (Empty setup past) rooms → count_in setup.topology past rooms ≡ 0
held_none setup past [] none = refl
held_none setup past (q ∷ rooms) none =
    ap (λ (ps : List PacketFields). length (ps ++ flat_map (contents setup.topology past) rooms))
    none.0 ∙ held_none setup past rooms none.1

four_zero : (a b c d : ℕ) → a ≡ 0 → b ≡ 0 → c ≡ 0 → d ≡ 0 → a + b + c + d ≡ 0
four_zero a b c d p q r s = omega arith

cube_empty : (setup : Setup) (doings : List LinkEntry → List Doing) (sc : Scene setup doings)
    (past : List Entry) → Lawful setup past → AllIdle setup sc.joined past → (b : Bool) →
    Empty setup past (Output sc.joined.back) →
    inside_cube (counted setup.topology doings past b) ≡ 0
cube_empty setup doings sc past lawful idle b none =
    let j = sc.joined in
    let n = sc.network in
    let answers =
    λ (from : Lift) (there : IsLiftThere setup.topology from). answers_empty setup j past from n
    lawful none (idle.lifts_are from there) in
    let banks =
    λ (v a : ℕ) (v_less : v < vaults_in setup.topology) (a_less : a < banks_in setup.topology).
    bank_empty setup j past v a n lawful (answers (lifts.Vault v) v_less)
    (idle.banks v a v_less a_less) in
    let registers =
    registers_empty setup j past n lawful (answers lifts.Registers tt) idle.registers in
    let vaults =
    λ (v : ℕ) (less : v < vaults_in setup.topology). vault_empty setup j past v n lawful
    (λ a a_less. banks v a less a_less) (idle.spreads v less) in
    let port =
    port_empty setup j past n lawful
    (record { out = none; registers = registers; vaults = vaults }) idle.shift in
    four_zero _ _ _ _ (as_long _ _ (port_buffer setup doings sc past lawful) ∙ ap length port)
    (held_none setup past (queues_of_vaults setup.topology)
    (every_of (Empty setup past) (Vault 0) 0 (vaults_in setup.topology)
    (λ i less. vaults i (omega (arith, less)))))
    (held_none setup past (queues_of_units setup.topology) (
      registers,
      every_flat_of (Empty setup past) _ 0 (vaults_in setup.topology)
          (λ i less. every_of (Empty setup past) (Bank 0 i) 0 (banks_in setup.topology)
          (λ k k_less. banks i k (omega (arith, less)) (omega (arith, k_less)))),
    ))
    (held_none setup past (queues_of_answers setup.topology) (
      answers lifts.Registers tt,
      every_of (Empty setup past) _ 0 (vaults_in setup.topology)
          (λ i less. answers (lifts.Vault i) (omega (arith, less))),
    ))

pub stuck : (setup : Setup) (doings : List LinkEntry → List Doing) (sc : Scene setup doings)
    (past : List Entry) → Lawful setup past → AllIdle setup sc.joined past → (b : Bool) →
    IsStuck (counted setup.topology doings past b)
stuck setup doings sc past lawful idle b = record {
  taken =
      host_buffer setup doings sc past lawful
      ∙ ap (map flits_of) (host_empty setup sc.joined past sc.network lawful idle.take);
  full = by_queue (contents setup.topology past (Output sc.joined.back)) refl;
}
  where
    by_queue : (packets : List PacketFields) →
        contents setup.topology past (Output sc.joined.back) ≡ packets →
        (1 ≤ length (counted setup.topology doings past b).back.queue)
        ⊎ (inside_cube (counted setup.topology doings past b) ≡ 0)
    by_queue [] is = inr (cube_empty setup doings sc past lawful idle b is)
    by_queue (p ∷ packets) is =
        let long : length (counted setup.topology doings past b).back.queue ≡ suc (length packets) =
        as_long _ _ (back_queue setup doings sc past lawful) ∙ ap length is in
        inl (omega (arith, long))
