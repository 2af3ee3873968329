-- Each step of the cube and of the host makes a move, or is idle; whether it is idle is seen from
-- the cube's queues.
use Rattle.std.proofs.Common.{◌≡◌, ◌<◌, ◌∙◌, ◌⊎◌, inl, inr, ℕ, zero, Bool, true, false, if◌then◌else◌, Option, Some, None, List, [], ◌∷◌, length, refl, sym, ap, subst}
use Rattle.std.specs.Prelude.{option_map}
use Rattle.hmc_codes.specs.Commands.{is_posted}
use Rattle.hmc_codes.specs.Request.{RequestFields}
use Rattle.hmc_codes.specs.Shape.{bank_of}
use Rattle.hmc_codes.specs.declared.answer.Answer.{Answer}
use Rattle.hmc_codes.specs.declared.lift.Lift.{Lift}
use Rattle.hmc_codes.specs.declared.lift.Lift.TheVariants as lifts
use Rattle.hmc_codes.specs.declared.place.Place.TheVariants as places
use Rattle.hmc_codes.specs.declared.unit.Unit.{Unit as RequestUnit}
use Rattle.hmc_codes.specs.declared.unit.Unit.TheVariants as units
use Rattle.hmc_packet.specs.Packet.{PacketFields}
use Rattle.hmc_packet.specs.Transactions.{request_in}
use Rattle.hmc_crossbar.specs.To.{where_to}
use Rattle.hmc_host.specs.Settle.{settle_says}
use Rattle.hmc_host.specs.declared.settled.Settled.{Settled}
use Rattle.hmc_host.specs.declared.settled.Settled.TheVariants as settles
use Rattle.hmc_send.specs.LinkEntries.{LinkEntry}
use Rattle.hmc_schedule.specs.declared.step.Step.{Step}
use Rattle.hmc_schedule.specs.declared.step.Step.TheVariants as steps
use Rattle.hmc_serial.specs.Machine.{State}
use Rattle.hmc_vault.specs.Execute.{must_wait}
use Rattle.hmc_vault.specs.declared.execute.Executed.TheVariants as executions
use Rattle.hmc_link_state.specs.Steps.{Doing}
use Rattle.hmc_entries.specs.declared.outcome.Goal.{Goal}
use Rattle.hmc_entries.specs.declared.outcome.Goal.TheVariants as goals
use Rattle.hmc_entries.specs.declared.entry.Entry.{Entry}
use Rattle.hmc_entries.specs.declared.entry.Entry.TheVariants.{Shifted, Spread, Executed, Lifted, Idle}
use Rattle.hmc_entries.specs.Event.{is_passed}
use Rattle.hmc_journal.specs.Lawful.{Lawful}
use Rattle.hmc_journal.specs.Next.{next, choice}
use Rattle.hmc_journal.specs.Answers.{ran_entry, took_entry, tag_of}
use Rattle.hmc_journal.specs.CubeSteps.{goal_at, shifted_entry, shift_entry, execution_entry, lifted_entry}
use Rattle.hmc_journal.specs.Waiting.{is_full, lacks_room, with_front, unless_full, queue_size, size_of, is_filled}
use Rattle.hmc_journal.specs.Queues.{QueueId, goal_queue, output_from}
use Rattle.hmc_journal.specs.Queues.QueueId.{Output, Port, Host, Vault, Bank, Registers, Answers}
use Rattle.hmc_journal.specs.Routes.{port_towards}
use Rattle.hmc_journal.specs.Setup.{Setup, Topology, shape_of, graph_of, direction_from}
use Rattle.hmc_journal.specs.StepView.{StepView, view_of}
use Rattle.hmc_laws.proofs.Wired.{Wired}
use Rattle.hmc_rounds.specs.Counted.{is_idle}
use Rattle.hmc_rounds.specs.CubeQueues.{vaults_in, banks_in}
use Rattle.hmc_rounds.proofs.EachEntry.{IsMove, out_is_back, dropped_moves, shifted_moves, spread_moves, executed_moves, lifted_moves, took_moves, discarded_moves}
use Rattle.hmc_rounds.proofs.EntryMoves.{Scene}
use Rattle.hmc_rounds.proofs.Placed.{IsLiftThere, at_bank, at_registers, at_answers}
use Rattle.hmc_rounds.proofs.Single.{Joined}

-- the cube's and the host's steps of a round
abbrev pub IsCubeStep : (t : Topology) → Joined t → Step → Type 0
IsCubeStep t j (steps.Shift zero port) = port ≡ j.port
IsCubeStep t j (steps.Spread zero vault) = vault < vaults_in t
IsCubeStep t j (steps.Bank zero vault bank) = (vault < vaults_in t) × (bank < banks_in t)
IsCubeStep t j (steps.Registers zero) = Unit {0}
IsCubeStep t j (steps.Lift zero from) = IsLiftThere t from
IsCubeStep t j (steps.Take zero) = Unit {0}
IsCubeStep t j _ = ⊥

-- ---- what the entries are

abbrev pub Result : (setup : Setup) (doings : List LinkEntry → List Doing) → List Entry → Entry →
    Type 0
Result setup doings past entry =
    (is_passed entry ≡ false)
    × ((is_idle entry ≡ true)
    ⊎ ((is_idle entry ≡ false) × (Lawful setup (entry ∷ past) → IsMove setup doings entry past)))

idle_stays : (setup : Setup) (doings : List LinkEntry → List Doing) (past : List Entry)
    (step : Step) (cause : _) → Result setup doings past (Idle step cause)
idle_stays setup doings past step cause = (refl, inl refl)

unless_result : (setup : Setup) (doings : List LinkEntry → List Doing) (past : List Entry)
    (step : Step) (full : Bool) (entry : Entry) → Result setup doings past entry →
    Result setup doings past (unless_full step full entry)
unless_result setup doings past step true entry is = (refl, inl refl)
unless_result setup doings past step false entry is = is

shift_goal : (setup : Setup) (doings : List LinkEntry → List Doing) (sc : Scene setup doings)
    (past : List Entry) (v : StepView) (goal : Option Goal) →
    Result setup doings past (shifted_entry setup.topology v 0 sc.joined.port goal)
shift_goal setup doings sc past v None =
    (refl, inr (refl, λ lawful. dropped_moves setup doings sc past lawful))
shift_goal setup doings sc past v (Some goal) =
    unless_result setup doings past (steps.Shift 0 sc.joined.port)
    (lacks_room setup.topology v (goal_queue setup.topology 0 goal)) (Shifted 0 sc.joined.port goal)
    (refl, inr (refl, λ lawful. shifted_moves setup doings sc past goal lawful))

front_result : (setup : Setup) (doings : List LinkEntry → List Doing) (past : List Entry)
    (step : Step) (packets : List PacketFields) (does : PacketFields → Entry) →
    ((p : PacketFields) → Result setup doings past (does p)) →
    Result setup doings past (with_front step packets does)
front_result setup doings past step [] does is = (refl, inl refl)
front_result setup doings past step (p ∷ packets) does is = is p

ran_result : (setup : Setup) (doings : List LinkEntry → List Doing) (past : List Entry)
    (unit : RequestUnit) (step : Step) (waits : Bool) (host tag : ℕ) (request : RequestFields)
    (answer : Answer)
    → ((tag : Option ℕ) → Result setup doings past (Executed unit host tag request answer)) →
    Result setup doings past
    (ran_entry unit step (if waits then executions.Full
    else executions.Ran host tag request answer))
ran_result setup doings past unit step true host tag request answer is = (refl, inl refl)
ran_result setup doings past unit step false host tag request answer is =
    is (tag_of (is_posted request.command) tag)

execution_result : (setup : Setup) (doings : List LinkEntry → List Doing) (past : List Entry)
    (unit : RequestUnit) (step : Step) (front : PacketFields) (answers : List PacketFields)
    (size : ℕ) (state : State) (found : Option RequestFields)
    → ((host : ℕ) (tag : Option ℕ) (request : RequestFields) (answer : Answer) →
    Result setup doings past (Executed unit host tag request answer)) →
    Result setup doings past (execution_entry unit step front answers size state found)
execution_result setup doings past unit step front answers size state None is = (refl, inl refl)
execution_result setup doings past unit step front answers size state (Some request) is =
    ran_result setup doings past unit step (must_wait request answers size) front.slid front.tag
    request _ (λ tag. is front.slid tag request _)

lift_result : (setup : Setup) (doings : List LinkEntry → List Doing) (sc : Scene setup doings)
    (past : List Entry) (v : StepView) (from : Lift) (port : Option ℕ) →
    IsLiftThere setup.topology from →
    Result setup doings past (lifted_entry setup.topology v 0 from port)
lift_result setup doings sc past v from None there = (refl, inl refl)
lift_result setup doings sc past v from (Some port) there =
    unless_result setup doings past (steps.Lift 0 from)
    (lacks_room setup.topology v (output_from setup.topology (places.Port 0 port)))
    (Lifted 0 from port)
    (refl, inr (refl, λ lawful. lifted_moves setup doings sc past from port there lawful))

take_result : (setup : Setup) (doings : List LinkEntry → List Doing) (sc : Scene setup doings)
    (past : List Entry) (settled : Settled) → Result setup doings past (took_entry 0 settled)
take_result setup doings sc past settles.Discarded =
    (refl, inr (refl, λ lawful. discarded_moves setup doings sc past lawful))
take_result setup doings sc past (settles.Took tag answer) =
    (refl, inr (refl, λ lawful. took_moves setup doings sc past tag answer lawful))

choice_result : (setup : Setup) (doings : List LinkEntry → List Doing) (sc : Scene setup doings)
    (past : List Entry) (v : StepView) (step : Step) → IsCubeStep setup.topology sc.joined step →
    Result setup doings past (choice setup.topology v step)
unfolding choice
choice_result setup doings sc past v (steps.Shift zero port) is =
    subst (λ (n : ℕ). Result setup doings past
    (with_front (steps.Shift 0 n) (v.inside (Port 0 n)) (shift_entry setup.topology v 0 n)))
    (sym is)
    (front_result setup doings past (steps.Shift 0 sc.joined.port)
    (v.inside (Port 0 sc.joined.port)) (shift_entry setup.topology v 0 sc.joined.port)
    (λ front. shift_goal setup doings sc past v
    (goal_at (where_to (graph_of setup.topology) (shape_of setup.topology 0) 0 front))))
choice_result setup doings sc past v (steps.Spread zero vault) is =
    let bank = λ (front : PacketFields). bank_of (shape_of setup.topology 0) front.address in
    front_result setup doings past (steps.Spread 0 vault) (v.inside (Vault 0 vault)) _
    (λ front. unless_result setup doings past (steps.Spread 0 vault)
    (is_full setup.topology v (Bank 0 vault (bank front))) (Spread 0 vault (bank front))
    (refl, inr (refl, λ lawful. spread_moves setup doings sc past vault (bank front) is lawful)))
choice_result setup doings sc past v (steps.Bank zero vault bank) is =
    front_result setup doings past (steps.Bank 0 vault bank) (v.inside (Bank 0 vault bank)) _
    (λ front. execution_result setup doings past (units.Bank 0 vault bank) (steps.Bank 0 vault bank)
    front (v.inside (Answers 0 (lifts.Vault vault)))
    (queue_size setup.topology (units.Bank 0 vault bank)) v.state (request_in front)
    (λ host tag request answer. (
      refl,
      inr (
        refl,
        λ lawful. executed_moves setup doings sc past (units.Bank 0 vault bank) host
            tag request answer (at_bank setup.topology sc.joined vault bank is.0 is.1)
            (at_answers setup.topology sc.joined (lifts.Vault vault) is.0) lawful,
      ),
    )))
choice_result setup doings sc past v (steps.Registers zero) is =
    front_result setup doings past (steps.Registers 0) (v.inside (Registers 0)) _
    (λ front. execution_result setup doings past (units.Registers 0) (steps.Registers 0) front
    (v.inside (Answers 0 lifts.Registers)) (queue_size setup.topology (units.Registers 0)) v.state
    (request_in front)
    (λ host tag request answer. (
      refl,
      inr (
        refl,
        λ lawful. executed_moves setup doings sc past (units.Registers 0) host tag
            request answer (at_registers setup.topology sc.joined)
            (at_answers setup.topology sc.joined lifts.Registers tt) lawful,
      ),
    )))
choice_result setup doings sc past v (steps.Lift zero from) is =
    front_result setup doings past (steps.Lift 0 from) (v.inside (Answers 0 from)) _
    (λ front. lift_result setup doings sc past v from (port_towards setup.topology 0 front.slid) is)
choice_result setup doings sc past v (steps.Take zero) is =
    front_result setup doings past (steps.Take 0) (v.inside (Host 0)) _
    (λ front. take_result setup doings sc past (settle_says front))
choice_result setup doings sc past v _ is = absurd is

pub step_result : (setup : Setup) (doings : List LinkEntry → List Doing) (sc : Scene setup doings)
    (past : List Entry) (step : Step) → IsCubeStep setup.topology sc.joined step →
    Result setup doings past (next setup past step)
unfolding next
step_result setup doings sc past step is =
    choice_result setup doings sc past (view_of setup past) step is

-- ---- what idleness depends on

abbrev pub IsInner : (back port : ℕ) → QueueId → Type 0
IsInner back port (Output d) = d ≡ back
IsInner back port (Port c p) = (c ≡ 0) × (p ≡ port)
IsInner back port (Host h) = h ≡ 0
IsInner back port queue = Unit {0}

abbrev pub Agree : (back port : ℕ) → (v w : StepView) → Type 0
Agree back port v w = (queue : QueueId) → IsInner back port queue → v.inside queue ≡ w.inside queue

full_alike : (t : Topology) (v w : StepView) (queue : QueueId) → v.inside queue ≡ w.inside queue →
    is_full t v queue ≡ is_full t w queue
full_alike t v w queue same =
    ap (λ (ps : List PacketFields). is_filled (size_of t queue) (length ps)) same

lacks_alike : (t : Topology) (back port : ℕ) (v w : StepView) → Agree back port v w →
    (there : Option ℕ) → ((d : ℕ) → there ≡ Some d → d ≡ back) →
    lacks_room t v (option_map Output there) ≡ lacks_room t w (option_map Output there)
lacks_alike t back port v w same None is = refl
lacks_alike t back port v w same (Some d) is =
    full_alike t v w (Output d) (same (Output d) (is d refl))

goal_alike : (t : Topology) (j : Joined t) → Wired t → (v w : StepView) → Agree j.back j.port v w →
    (goal : Goal) → lacks_room t v (goal_queue t 0 goal) ≡ lacks_room t w (goal_queue t 0 goal)
goal_alike t j wires v w same (goals.Vault vault) =
    full_alike t v w (Vault 0 vault) (same (Vault 0 vault) tt)
goal_alike t j wires v w same goals.Registers =
    full_alike t v w (Registers 0) (same (Registers 0) tt)
goal_alike t j wires v w same (goals.Port out) =
    lacks_alike t j.back j.port v w same (direction_from t (places.Port 0 out))
    (out_is_back t j wires out)

shifted_alike : (t : Topology) (j : Joined t) → Wired t → (v w : StepView) →
    Agree j.back j.port v w → (port : ℕ) (goal : Option Goal) →
    is_idle (shifted_entry t v 0 port goal) ≡ is_idle (shifted_entry t w 0 port goal)
shifted_alike t j wires v w same port None = refl
shifted_alike t j wires v w same port (Some goal) =
    ap (λ (b : Bool). is_idle (unless_full (steps.Shift 0 port) b (Shifted 0 port goal)))
    (goal_alike t j wires v w same goal)

fronts_alike : (step : Step) (xs ys : List PacketFields) (f g : PacketFields → Entry) → xs ≡ ys →
    ((p : PacketFields) → is_idle (f p) ≡ is_idle (g p)) →
    is_idle (with_front step xs f) ≡ is_idle (with_front step ys g)
fronts_alike step xs ys f g same alike =
    ap (λ (ps : List PacketFields). is_idle (with_front step ps f)) same ∙ by_list ys
  where
    by_list : (ps : List PacketFields) →
        is_idle (with_front step ps f) ≡ is_idle (with_front step ps g)
    by_list [] = refl
    by_list (p ∷ ps) = alike p

pub ran_idle : (unit : RequestUnit) (step : Step) (waits : Bool) (host tag : ℕ)
    (request : RequestFields) (answer : Answer) →
    is_idle (ran_entry unit step (if waits then executions.Full
    else executions.Ran host tag request answer)) ≡ waits
ran_idle unit step true host tag request answer = refl
ran_idle unit step false host tag request answer = refl

executions_alike : (unit : RequestUnit) (step : Step) (front : PacketFields)
    (xs ys : List PacketFields) (size : ℕ) (m n : State) (found : Option RequestFields) → xs ≡ ys →
    is_idle (execution_entry unit step front xs size m found) ≡ is_idle
    (execution_entry unit step front ys size n found)
executions_alike unit step front xs ys size m n None same = refl
executions_alike unit step front xs ys size m n (Some request) same =
    ran_idle unit step (must_wait request xs size) front.slid front.tag request _
    ∙ ap (λ (ps : List PacketFields). must_wait request ps size) same
    ∙ sym (ran_idle unit step (must_wait request ys size) front.slid front.tag request _)

lifts_alike : (t : Topology) (j : Joined t) → Wired t → (v w : StepView) → Agree j.back j.port v w →
    (from : Lift) (port : Option ℕ) →
    is_idle (lifted_entry t v 0 from port) ≡ is_idle (lifted_entry t w 0 from port)
lifts_alike t j wires v w same from None = refl
lifts_alike t j wires v w same from (Some port) =
    ap (λ (b : Bool). is_idle (unless_full (steps.Lift 0 from) b (Lifted 0 from port)))
    (lacks_alike t j.back j.port v w same (direction_from t (places.Port 0 port))
    (out_is_back t j wires port))

pub idle_alike : (t : Topology) (j : Joined t) → Wired t → (v w : StepView) →
    Agree j.back j.port v w → (step : Step) → IsCubeStep t j step →
    is_idle (choice t v step) ≡ is_idle (choice t w step)
unfolding choice
idle_alike t j wires v w same (steps.Shift zero port) is =
    fronts_alike (steps.Shift 0 port) (v.inside (Port 0 port)) (w.inside (Port 0 port))
    (shift_entry t v 0 port) (shift_entry t w 0 port) (same (Port 0 port) (refl, is))
    (λ front. shifted_alike t j wires v w same port
    (goal_at (where_to (graph_of t) (shape_of t 0) 0 front)))
idle_alike t j wires v w same (steps.Spread zero vault) is =
    fronts_alike (steps.Spread 0 vault) (v.inside (Vault 0 vault)) (w.inside (Vault 0 vault)) _ _
    (same (Vault 0 vault) tt)
    (λ front. let bank = bank_of (shape_of t 0) front.address in
    ap (λ (b : Bool). is_idle (unless_full (steps.Spread 0 vault) b (Spread 0 vault bank)))
    (full_alike t v w (Bank 0 vault bank) (same (Bank 0 vault bank) tt)))
idle_alike t j wires v w same (steps.Bank zero vault bank) is =
    fronts_alike (steps.Bank 0 vault bank) (v.inside (Bank 0 vault bank))
    (w.inside (Bank 0 vault bank)) _ _ (same (Bank 0 vault bank) tt)
    (λ front. executions_alike (units.Bank 0 vault bank) (steps.Bank 0 vault bank) front
    (v.inside (Answers 0 (lifts.Vault vault))) (w.inside (Answers 0 (lifts.Vault vault)))
    (queue_size t (units.Bank 0 vault bank)) v.state w.state (request_in front)
    (same (Answers 0 (lifts.Vault vault)) tt))
idle_alike t j wires v w same (steps.Registers zero) is =
    fronts_alike (steps.Registers 0) (v.inside (Registers 0)) (w.inside (Registers 0)) _ _
    (same (Registers 0) tt)
    (λ front. executions_alike (units.Registers 0) (steps.Registers 0) front
    (v.inside (Answers 0 lifts.Registers)) (w.inside (Answers 0 lifts.Registers))
    (queue_size t (units.Registers 0)) v.state w.state (request_in front)
    (same (Answers 0 lifts.Registers) tt))
idle_alike t j wires v w same (steps.Lift zero from) is =
    fronts_alike (steps.Lift 0 from) (v.inside (Answers 0 from)) (w.inside (Answers 0 from)) _ _
    (same (Answers 0 from) tt)
    (λ front. lifts_alike t j wires v w same from (port_towards t 0 front.slid))
idle_alike t j wires v w same (steps.Take zero) is =
    ap (λ (ps : List PacketFields).
    is_idle (with_front (steps.Take 0) ps (λ front. took_entry 0 (settle_says front))))
    (same (Host 0) refl)
idle_alike t j wires v w same _ is = absurd is
