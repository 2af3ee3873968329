-- Only the step of unlocking makes the entry of an unlock.
use Rattle.std.proofs.Common.{◌≡◌, ◌∙◌, ◌/◌, ℕ, Bool, true, false, not, if◌then◌else◌, Option, Some, None, List, [], ◌∷◌, slice_get, refl, sym, ap}
use Rattle.std.specs.Prelude.{option_and_then}
use Rattle.hmc_codes.specs.Link.{LinkFields}
use Rattle.hmc_codes.specs.Request.{RequestFields}
use Rattle.hmc_codes.specs.Shape.{bank_of}
use Rattle.hmc_codes.specs.declared.lift.Lift.{Lift}
use Rattle.hmc_codes.specs.declared.place.Place.TheVariants as places
use Rattle.hmc_codes.specs.declared.unit.Unit.{Unit as RequestUnit}
use Rattle.hmc_codes.specs.declared.unit.Unit.TheVariants as units
use Rattle.hmc_packet.specs.Packet.{PacketFields}
use Rattle.hmc_packet.specs.Transactions.{request_in}
use Rattle.hmc_packet.specs.declared.head.Head.{Head}
use Rattle.hmc_packet.specs.declared.outcome.Outcome.{Outcome}
use Rattle.hmc_crossbar.specs.To.{where_to}
use Rattle.hmc_host.specs.Give.{give_says}
use Rattle.hmc_host.specs.Settle.{settle_says}
use Rattle.hmc_host.specs.declared.given.Given.{Given}
use Rattle.hmc_host.specs.declared.given.Given.TheVariants as givens
use Rattle.hmc_host.specs.declared.settled.Settled.{Settled}
use Rattle.hmc_host.specs.declared.settled.Settled.TheVariants as settles
use Rattle.hmc_schedule.specs.declared.step.Step.{Step}
use Rattle.hmc_schedule.specs.declared.step.Step.TheVariants as steps
use Rattle.hmc_send.specs.LinkEntries.{LinkEntry}
use Rattle.hmc_send.specs.Choice as sends
use Rattle.hmc_send.specs.LinkCalls as calls
use Rattle.hmc_send.specs.LinkLines.{StampedFlit, line}
use Rattle.hmc_send.specs.declared.sent.Sent.{Sent as Sending}
use Rattle.hmc_send.specs.declared.sent.Sent.TheVariants.{Out, Starved}
use Rattle.hmc_serial.specs.Machine.{State, cube_state_at}
use Rattle.hmc_units.specs.Bench.{is_live}
use Rattle.hmc_vault.specs.Execute.{runs}
use Rattle.hmc_vault.specs.declared.execute.Executed.{Executed as Execution}
use Rattle.hmc_vault.specs.declared.execute.Executed.TheVariants as executions
use Rattle.hmc_entries.specs.declared.outcome.Cause.TheVariants as causes
use Rattle.hmc_entries.specs.declared.outcome.Goal.{Goal}
use Rattle.hmc_entries.specs.declared.entry.Entry.{Entry}
use Rattle.hmc_entries.specs.declared.entry.Entry.TheVariants.{Shifted, Spread, Lifted, Through, Unlocked, Retired, Idle}
use Rattle.hmc_journal.specs.CubeSteps.{goal_at, execution_entry, executed_entry, lifted_entry, retired_entry, shift_entry, shifted_entry, spread_to_bank}
use Rattle.hmc_journal.specs.Next.{choice, gave_entry, took_entry, sent_entry, send_entry, landed_entry, landed_front, land_entry, ran_entry, is_full, lacks_room, queue_size, with_front, unless_full}
use Rattle.hmc_journal.specs.Links.{toward, sizes_on, fed_after}
use Rattle.hmc_journal.specs.Queues.{output_from, queue_of, answers_of, goal_queue}
use Rattle.hmc_journal.specs.Queues.QueueId.{Port, Host, Vault, Bank, Answers}
use Rattle.hmc_journal.specs.Routes.{port_towards}
use Rattle.hmc_journal.specs.Setup.{Topology, shape_of, graph_of, direction_from, direction_to}
use Rattle.hmc_journal.specs.StepView.{StepView}
use Rattle.hmc_journal.specs.ThroughSteps.{gathered_head, onward_port, forwarded_entry, through_entry, through_head}

is_unlock : Entry → Bool
is_unlock (Unlocked direction) = true
is_unlock _ = false

abbrev IsOther : Entry → Type 0
IsOther entry = is_unlock entry ≡ false

full_other : (step : Step) (full : Bool) (entry : Entry) → IsOther entry → IsOther (unless_full step full entry)
unfolding is_unlock
full_other step true entry is = refl
full_other step false entry is = is

front_other : (step : Step) (packets : List PacketFields) (does : PacketFields → Entry) → ((front : PacketFields) → IsOther (does front)) → IsOther (with_front step packets does)
unfolding is_unlock
front_other step [] does is = refl
front_other step (front ∷ rest) does is = is front

gave_other : (host : ℕ) (given : Given) → IsOther (gave_entry host given)
unfolding is_unlock
gave_other host (givens.Gave packet request tag poisoned) = refl
gave_other host _ = refl

sent_other : (direction : ℕ) (full : Bool) (sending : Sending) → IsOther (sent_entry direction full sending)
unfolding is_unlock
sent_other direction true sending = refl
sent_other direction false Starved = refl
sent_other direction false (Out flit what) = refl

landed_other : (direction : ℕ) (passed : Bool) (flit : List ℕ) (outcome : Outcome) → IsOther (landed_entry direction passed flit outcome)
unfolding is_unlock
landed_other direction true flit outcome = refl
landed_other direction false flit outcome = refl

land_other : (sizes : LinkFields) (direction : ℕ) (past : List LinkEntry) (mask : List ℕ) (front : Option StampedFlit) → IsOther (landed_front sizes direction past mask front)
unfolding is_unlock
land_other sizes direction past mask None = refl
land_other sizes direction past mask (Some front) = landed_other direction _ _ _

shift_other : (topology : Topology) (view : StepView) (cube port : ℕ) (goal : Option Goal) → IsOther (shifted_entry topology view cube port goal)
unfolding is_unlock
shift_other topology view cube port None = refl
shift_other topology view cube port (Some goal) = full_other (steps.Shift cube port) (lacks_room topology view (goal_queue topology cube goal)) (Shifted cube port goal) refl

ran_other : (unit : RequestUnit) (step : Step) (ran : Execution) → IsOther (ran_entry unit step ran)
unfolding is_unlock
ran_other unit step executions.Empty = refl
ran_other unit step executions.Full = refl
ran_other unit step (executions.Ran host tag request answer) = refl

executed_other : (unit : RequestUnit) (step : Step) (front : PacketFields) (answers : List PacketFields) (size : ℕ) (state : State) (found : Option RequestFields) → IsOther (execution_entry unit step front answers size state found)
unfolding is_unlock
executed_other unit step front answers size state None = refl
executed_other unit step front answers size state (Some request) = ran_other unit step (runs front request answers size (cube_state_at state request.cube) state.slots)

unit_other : (topology : Topology) (view : StepView) (unit : RequestUnit) (step : Step) → IsOther (executed_entry topology view unit step)
unit_other topology view unit step =
    let does = λ (front : PacketFields). execution_entry unit step front (view.inside (answers_of unit)) (queue_size topology unit) view.state (request_in front) in
    front_other step (view.inside (queue_of unit)) does (λ front. executed_other unit step front (view.inside (answers_of unit)) (queue_size topology unit) view.state (request_in front))

lift_other : (topology : Topology) (view : StepView) (cube : ℕ) (from : Lift) (port : Option ℕ) → IsOther (lifted_entry topology view cube from port)
unfolding is_unlock
lift_other topology view cube from None = refl
lift_other topology view cube from (Some port) = full_other (steps.Lift cube from) (lacks_room topology view (output_from topology (places.Port cube port))) (Lifted cube from port) refl

took_other : (host : ℕ) (settled : Settled) → IsOther (took_entry host settled)
unfolding is_unlock
took_other host settles.Discarded = refl
took_other host (settles.Took tag answer) = refl

busy_other : (busy : Bool) (cube port direction : ℕ) → IsOther (if busy then Idle (steps.Through cube port) causes.Busy else Through cube port direction)
unfolding is_unlock
busy_other true cube port direction = refl
busy_other false cube port direction = refl

forwarded_other : (topology : Topology) (view : StepView) (cube port : ℕ) (head : Head) (onto : Option ℕ) → IsOther (forwarded_entry topology view cube port head onto)
unfolding is_unlock
forwarded_other topology view cube port head None = refl
forwarded_other topology view cube port head (Some direction) = busy_other _ cube port direction

through_other : (topology : Topology) (view : StepView) (cube port : ℕ) (found : Option Head) → IsOther (through_head topology view cube port found)
unfolding is_unlock
through_other topology view cube port None = refl
through_other topology view cube port (Some head) =
    forwarded_other topology view cube port head (option_and_then (λ (onward : ℕ). direction_from topology (places.Port cube onward)) (onward_port topology cube port head))

retire_other : (slot : ℕ) (live : Bool) → IsOther (if live then Retired slot else Idle (steps.Retire slot) causes.Empty)
unfolding is_unlock
retire_other slot true = refl
retire_other slot false = refl

clash : (entry : Entry) (direction : ℕ) → IsOther entry → entry ≡ Unlocked direction → ⊥
unfolding is_unlock
clash entry direction other is = let same : false ≡ true = sym other ∙ ap is_unlock is in absurd (cc)

pub unlock_step : (topology : Topology) (view : StepView) (step : Step) (direction : ℕ) → choice topology view step ≡ Unlocked direction → step ≡ steps.Unlock direction
unfolding choice is_unlock
unlock_step topology view (steps.Give host) direction is =
    absurd (clash (gave_entry host (give_says (view.host host) (not (lacks_room topology view (output_from topology (places.Host host)))))) direction (gave_other host _) is)
unlock_step topology view (steps.Send d) direction is =
    let sizes = sizes_on topology d in
    let feed = fed_after sizes (toward d) (view.entries (d / 2)) (view.pipe d) in
    absurd (clash (send_entry sizes d (view.entries (d / 2)) feed) direction
    (sent_other d (calls.is_full sizes (toward d) (view.entries (d / 2))) (sends.choice sizes.profile (calls.view_in sizes (toward d) (view.entries (d / 2)) feed))) is)
unlock_step topology view (steps.Land d mask) direction is =
    let sizes = sizes_on topology d in
    absurd (clash (land_entry sizes d (view.entries (d / 2)) mask) direction (land_other sizes d (view.entries (d / 2)) mask (slice_get (line sizes.profile (toward d) (view.entries (d / 2))) 0)) is)
unlock_step topology view (steps.Shift cube port) direction is =
    absurd (clash (with_front (steps.Shift cube port) (view.inside (Port cube port)) (shift_entry topology view cube port)) direction
    (front_other (steps.Shift cube port) (view.inside (Port cube port)) (shift_entry topology view cube port)
    (λ front. shift_other topology view cube port (goal_at (where_to (graph_of topology) (shape_of topology cube) cube front)))) is)
unlock_step topology view (steps.Spread cube vault) direction is =
    let does = λ (front : PacketFields). spread_to_bank topology view cube vault (bank_of (shape_of topology cube) front.address) in
    absurd (clash (with_front (steps.Spread cube vault) (view.inside (Vault cube vault)) does) direction
    (front_other (steps.Spread cube vault) (view.inside (Vault cube vault)) does
    (λ front. full_other (steps.Spread cube vault) (is_full topology view (Bank cube vault (bank_of (shape_of topology cube) front.address))) (Spread cube vault (bank_of (shape_of topology cube) front.address)) refl)) is)
unlock_step topology view (steps.Bank cube vault bank) direction is = absurd (clash _ direction (unit_other topology view (units.Bank cube vault bank) (steps.Bank cube vault bank)) is)
unlock_step topology view (steps.Registers cube) direction is = absurd (clash _ direction (unit_other topology view (units.Registers cube) (steps.Registers cube)) is)
unlock_step topology view (steps.Lift cube from) direction is =
    let does = λ (front : PacketFields). lifted_entry topology view cube from (port_towards topology cube front.slid) in
    absurd (clash (with_front (steps.Lift cube from) (view.inside (Answers cube from)) does) direction
    (front_other (steps.Lift cube from) (view.inside (Answers cube from)) does (λ front. lift_other topology view cube from (port_towards topology cube front.slid))) is)
unlock_step topology view (steps.Take host) direction is =
    let does = λ (front : PacketFields). took_entry host (settle_says front) in
    absurd (clash (with_front (steps.Take host) (view.inside (Host host)) does) direction
    (front_other (steps.Take host) (view.inside (Host host)) does (λ front. took_other host (settle_says front))) is)
unlock_step topology view (steps.Unlock d) direction is = let same : d ≡ direction = cc in ap steps.Unlock same
unlock_step topology view (steps.Through cube port) direction is =
    absurd (clash (through_entry topology view cube port) direction (through_other topology view cube port (gathered_head view (direction_to topology (places.Port cube port)))) is)
unlock_step topology view (steps.Retire slot) direction is = absurd (clash (retired_entry view slot) direction (retire_other slot (is_live view.state.slots slot)) is)
