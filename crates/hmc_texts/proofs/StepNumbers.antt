-- The numbers that an entry has from its step fit their types where the step's do.
use Rattle.std.proofs.Common.{◌<◌, ◌/◌, ◌||◌, not, ℕ, Bool, true, false, if◌then◌else◌, Option, Some, None, List, [], ◌∷◌, slice_get}
use Rattle.std.specs.Prelude.{is_none, option_and_then}
use Rattle.hmc_codes.specs.Link.{LinkFields}
use Rattle.hmc_codes.specs.Request.{RequestFields}
use Rattle.hmc_codes.specs.Shape.{bank_of}
use Rattle.hmc_codes.specs.declared.lift.Lift.{Lift}
use Rattle.hmc_codes.specs.declared.place.Place.TheVariants as places
use Rattle.hmc_codes.specs.declared.unit.Unit.{Unit as RequestUnit}
use Rattle.hmc_codes.specs.declared.unit.Unit.TheVariants as units
use Rattle.hmc_crossbar.specs.To.{where_to}
use Rattle.hmc_packet.specs.Masks.{under_mask}
use Rattle.hmc_packet.specs.Packet.{PacketFields}
use Rattle.hmc_packet.specs.Transactions.{request_in}
use Rattle.hmc_packet.specs.declared.head.Head.{Head}
use Rattle.hmc_packet.specs.declared.outcome.Outcome.{Outcome}
use Rattle.hmc_schedule.specs.declared.step.Step.{Step}
use Rattle.hmc_schedule.specs.declared.step.Step.TheVariants as steps
use Rattle.hmc_send.specs.LinkEntries.{LinkEntry}
use Rattle.hmc_send.specs.LinkLines.{StampedFlit, line}
use Rattle.hmc_send.specs.declared.sent.Sent.{Sent as Sending}
use Rattle.hmc_send.specs.declared.sent.Sent.TheVariants.{Out, Starved}
use Rattle.hmc_serial.specs.Machine.{State}
use Rattle.hmc_host.specs.Settle.{settle_says}
use Rattle.hmc_host.specs.declared.given.Given.{Given}
use Rattle.hmc_host.specs.declared.given.Given.TheVariants as givens
use Rattle.hmc_host.specs.declared.settled.Settled.{Settled}
use Rattle.hmc_host.specs.declared.settled.Settled.TheVariants as settles
use Rattle.hmc_vault.specs.declared.execute.Executed.{Executed as Execution}
use Rattle.hmc_vault.specs.declared.execute.Executed.TheVariants as executions
use Rattle.hmc_entries.specs.declared.outcome.Cause.TheVariants as causes
use Rattle.hmc_entries.specs.declared.outcome.Goal.{Goal}
use Rattle.hmc_entries.specs.declared.entry.Entry.{Entry}
use Rattle.hmc_entries.specs.declared.entry.Entry.TheVariants.{Gave, Sent, Landed, Shifted, Dropped, Spread, Executed, Lifted, Took, Discarded, Through, Unlocked, Retired, Passed, Idle}
use Rattle.hmc_entries.specs.Parse.{IsUnit, IsLift, IsStep}
use Rattle.hmc_journal.specs.Links.{toward, sizes_on}
use Rattle.hmc_journal.specs.Next.{next, choice, with_front, unless_full, gave_entry, took_entry, ran_entry, sent_entry, landed_entry, landed_front, goal_at, shifted_entry, shift_entry, spread_to_bank, execution_entry, executed_entry, lifted_entry}
use Rattle.hmc_journal.specs.Queues.{queue_of, answers_of}
use Rattle.hmc_journal.specs.Queues.QueueId.{Port, Host, Vault, Bank, Answers}
use Rattle.hmc_journal.specs.Routes.{port_towards}
use Rattle.hmc_journal.specs.Setup.{Setup, Topology, graph_of, shape_of, direction_from, direction_to}
use Rattle.hmc_journal.specs.StepView.{StepView}
use Rattle.hmc_journal.specs.ThroughSteps.{onward_port, gathered_head, is_forwarded, takes_on, forwarded_entry, through_head}
use Rattle.hmc_journal.specs.Waiting.{is_full, queue_size}

-- the numbers that an entry has from its step
abbrev pub FitsStep : Entry → Type 0
FitsStep (Gave host tag poisoned request) = host < 256
FitsStep (Sent direction what flit) = direction < 256
FitsStep (Landed direction flit outcome) = direction < 256
FitsStep (Shifted cube port goal) = (cube < 256) × (port < 256)
FitsStep (Dropped cube port) = (cube < 256) × (port < 256)
FitsStep (Spread cube vault bank) = (cube < 256) × (vault < 256)
FitsStep (Executed unit host tag request answer) = IsUnit unit
FitsStep (Lifted cube from port) = (cube < 256) × IsLift from
FitsStep (Took host tag answer) = host < 256
FitsStep (Discarded host) = host < 256
FitsStep (Through cube port direction) = (cube < 256) × (port < 256)
FitsStep (Unlocked direction) = direction < 256
FitsStep (Retired slot) = slot < 256
FitsStep (Passed direction flit) = direction < 256
FitsStep (Idle step cause) = IsStep step

unless : (step : Step) (full : Bool) (entry : Entry) → IsStep step → FitsStep entry →
    FitsStep (unless_full step full entry)
unless step true entry idle is = idle
unless step false entry idle is = is

fronted : (step : Step) (packets : List PacketFields) (does : PacketFields → Entry) →
    IsStep step → ((front : PacketFields) → FitsStep (does front)) →
    FitsStep (with_front step packets does)
fronted step [] does idle is = idle
fronted step (front ∷ rest) does idle is = is front

gave : (host : ℕ) (given : Given) → host < 256 → FitsStep (gave_entry host given)
gave host givens.Ended small = small
gave host givens.Fence small = small
gave host givens.Tags small = small
gave host givens.Full small = small
gave host (givens.Gave packet request tag poisoned) small = small

took : (host : ℕ) (settled : Settled) → host < 256 → FitsStep (took_entry host settled)
took host settles.Discarded small = small
took host (settles.Took tag answer) small = small

sent : (direction : ℕ) (full : Bool) (sending : Sending) → direction < 256 →
    FitsStep (sent_entry direction full sending)
sent direction true sending small = small
sent direction false Starved small = small
sent direction false (Out flit what) small = small

landed : (direction : ℕ) (passed : Bool) (flit : List ℕ) (outcome : Outcome) → direction < 256 →
    FitsStep (landed_entry direction passed flit outcome)
landed direction true flit outcome small = small
landed direction false flit outcome small = small

land : (sizes : LinkFields) (direction : ℕ) (past : List LinkEntry) (mask : List ℕ)
    (front : Option StampedFlit) → direction < 256 →
    FitsStep (landed_front sizes direction past mask front)
land sizes direction past mask None small = small
land sizes direction past mask (Some front) small =
    landed direction _ (under_mask mask front.flit) _ small

shifted : (topology : Topology) (view : StepView) (cube port : ℕ) (goal : Option Goal) →
    IsStep (steps.Shift cube port) → FitsStep (shifted_entry topology view cube port goal)
shifted topology view cube port None is = is
shifted topology view cube port (Some goal) is =
    unless (steps.Shift cube port) _ (Shifted cube port goal) is is

ran : (unit : RequestUnit) (step : Step) (execution : Execution) → IsStep step → IsUnit unit →
    FitsStep (ran_entry unit step execution)
ran unit step executions.Empty idle is = idle
ran unit step executions.Full idle is = idle
ran unit step (executions.Ran host tag request answer) idle is = is

execution : (unit : RequestUnit) (step : Step) (front : PacketFields)
    (answers : List PacketFields) (size : ℕ) (state : State) (found : Option RequestFields) →
    IsStep step → IsUnit unit →
    FitsStep (execution_entry unit step front answers size state found)
execution unit step front answers size state None idle is = idle
execution unit step front answers size state (Some request) idle is = ran unit step _ idle is

lifted : (topology : Topology) (view : StepView) (cube : ℕ) (from : Lift) (port : Option ℕ) →
    IsStep (steps.Lift cube from) → FitsStep (lifted_entry topology view cube from port)
lifted topology view cube from None is = is
lifted topology view cube from (Some port) is =
    unless (steps.Lift cube from) _ (Lifted cube from port) is is

retired : (slot : ℕ) (live : Bool) → slot < 256 →
    FitsStep (if live then Retired slot else Idle (steps.Retire slot) causes.Empty)
retired slot true small = small
retired slot false small = small

executed_by : (topology : Topology) (view : StepView) (unit : RequestUnit) (step : Step) →
    IsStep step → IsUnit unit → FitsStep (executed_entry topology view unit step)
executed_by topology view unit step idle is =
    let does = λ (front : PacketFields). execution_entry unit step front
    (view.inside (answers_of unit)) (queue_size topology unit) view.state (request_in front) in
    fronted step (view.inside (queue_of unit)) does idle
    (λ front. execution unit step front (view.inside (answers_of unit))
    (queue_size topology unit) view.state (request_in front) idle is)

begun : (cube port direction : ℕ) (busy : Bool) → IsStep (steps.Through cube port) →
    FitsStep (if busy then Idle (steps.Through cube port) causes.Busy
    else Through cube port direction)
begun cube port direction true is = is
begun cube port direction false is = is

forwarded_on : (topology : Topology) (view : StepView) (cube port : ℕ) (head : Head)
    (onto : Option ℕ) → IsStep (steps.Through cube port) →
    FitsStep (forwarded_entry topology view cube port head onto)
forwarded_on topology view cube port head None is = is
forwarded_on topology view cube port head (Some direction) is =
    begun cube port direction
    (is_forwarded view (direction_to topology (places.Port cube port))
    || not (is_none (slice_get (view.inside (Port cube port)) 0))
    || not (takes_on topology view direction head.flits)) is

through : (topology : Topology) (view : StepView) (cube port : ℕ) (found : Option Head) →
    IsStep (steps.Through cube port) → FitsStep (through_head topology view cube port found)
through topology view cube port None is = is
through topology view cube port (Some head) is =
    forwarded_on topology view cube port head
    (option_and_then (λ onward. direction_from topology (places.Port cube onward))
    (onward_port topology cube port head)) is

choice_fits : (topology : Topology) (view : StepView) (step : Step) → IsStep step →
    FitsStep (choice topology view step)
unfolding choice
choice_fits topology view (steps.Give host) is = gave host _ is
choice_fits topology view (steps.Send direction) is = sent direction _ _ is
choice_fits topology view (steps.Land direction mask) is =
    land (sizes_on topology direction) direction (view.entries (direction / 2)) mask
    (slice_get (line (sizes_on topology direction).profile (toward direction)
    (view.entries (direction / 2))) 0) is
choice_fits topology view (steps.Shift cube port) is =
    fronted (steps.Shift cube port) (view.inside (Port cube port))
    (shift_entry topology view cube port) is
    (λ front. shifted topology view cube port
    (goal_at (where_to (graph_of topology) (shape_of topology cube) cube front)) is)
choice_fits topology view (steps.Spread cube vault) is =
    let bank = λ (front : PacketFields). bank_of (shape_of topology cube) front.address in
    fronted (steps.Spread cube vault) (view.inside (Vault cube vault))
    (λ front. spread_to_bank topology view cube vault (bank front)) is
    (λ front. unless (steps.Spread cube vault)
    (is_full topology view (Bank cube vault (bank front))) (Spread cube vault (bank front)) is is)
choice_fits topology view (steps.Bank cube vault bank) is =
    executed_by topology view (units.Bank cube vault bank) (steps.Bank cube vault bank) is is
choice_fits topology view (steps.Registers cube) is =
    executed_by topology view (units.Registers cube) (steps.Registers cube) is is
choice_fits topology view (steps.Lift cube from) is =
    fronted (steps.Lift cube from) (view.inside (Answers cube from))
    (λ front. lifted_entry topology view cube from (port_towards topology cube front.slid)) is
    (λ front. lifted topology view cube from (port_towards topology cube front.slid) is)
choice_fits topology view (steps.Take host) is =
    fronted (steps.Take host) (view.inside (Host host))
    (λ front. took_entry host (settle_says front)) is (λ front. took host (settle_says front) is)
choice_fits topology view (steps.Unlock direction) is = is
choice_fits topology view (steps.Retire slot) is = retired slot _ is
choice_fits topology view (steps.Through cube port) is =
    through topology view cube port
    (gathered_head view (direction_to topology (places.Port cube port))) is

pub next_fits : (setup : Setup) (past : List Entry) (step : Step) → IsStep step →
    FitsStep (next setup past step)
unfolding next
next_fits setup past step is = choice_fits setup.topology _ step is
