-- Which steps yield the entry that a host has given all: its gives, where no request is left.
use Rattle.std.proofs.Common.{◌≡◌, ◌∙◌, ◌/◌, ◌==◌, ◌||◌, ◌&&◌, ℕ, Bool, true, false, not, if◌then◌else◌, Option, Some, None, List, [], ◌∷◌, refl, sym, ap, subst, eqb-true, eq-eqb}
use Rattle.std.specs.Prelude.{slice_get, is_none, option_and_then}
use Rattle.hmc_codes.specs.Link.{LinkFields}
use Rattle.hmc_codes.specs.Shape.{bank_of}
use Rattle.hmc_codes.specs.declared.place.Place.TheVariants as places
use Rattle.hmc_codes.specs.declared.unit.Unit.TheVariants as units
use Rattle.hmc_codes.specs.Request.{RequestFields}
use Rattle.hmc_codes.specs.declared.lift.Lift.{Lift}
use Rattle.hmc_codes.specs.declared.unit.Unit.{Unit as RequestUnit}
use Rattle.hmc_packet.specs.Packet.{PacketFields}
use Rattle.hmc_packet.specs.declared.head.Head.{Head}
use Rattle.hmc_packet.specs.declared.outcome.Outcome.{Outcome}
use Rattle.hmc_script.specs.Items.{ItemFields}
use Rattle.hmc_schedule.specs.declared.step.Step.{Step}
use Rattle.hmc_schedule.specs.declared.step.Step.TheVariants as steps
use Rattle.hmc_host.specs.declared.given.Given.TheVariants as givens
use Rattle.hmc_host.specs.declared.settled.Settled.{Settled}
use Rattle.hmc_host.specs.declared.settled.Settled.TheVariants as settles
use Rattle.hmc_host.specs.Give.{next_says, next_item, give_says, gave_request, tag_for, lacks_tag}
use Rattle.hmc_host.specs.Host.{HostFields}
use Rattle.hmc_host.specs.Tags.{is_some_out}
use Rattle.hmc_send.specs.LinkEntries.{LinkEntry, receiver_entries}
use Rattle.hmc_send.specs.LinkCalls.{is_full, view_in}
use Rattle.hmc_send.specs.Choice as cases
use Rattle.hmc_crossbar.specs.To.{where_to}
use Rattle.hmc_host.specs.Settle.{settle_says}
use Rattle.hmc_packet.specs.Receptions.{reception_of}
use Rattle.hmc_packet.specs.Transactions.{request_in}
use Rattle.hmc_units.specs.Bench.{is_live}
use Rattle.hmc_vault.specs.Execute as execute
use Rattle.hmc_packet.specs.Masks.{under_mask}
use Rattle.hmc_send.specs.LinkLines.{StampedFlit, line, passes}
use Rattle.hmc_send.specs.declared.sent.Sent.{Sent as Sending}
use Rattle.hmc_send.specs.declared.sent.Sent.TheVariants.{Out, Starved}
use Rattle.hmc_serial.specs.Machine.{State, cube_state_at}
use Rattle.hmc_vault.specs.declared.execute.Executed.{Executed as Execution}
use Rattle.hmc_vault.specs.declared.execute.Executed.TheVariants as executions
use Rattle.hmc_entries.specs.declared.outcome.Goal.{Goal}
use Rattle.hmc_entries.specs.declared.outcome.Cause.TheVariants as causes
use Rattle.hmc_entries.specs.declared.entry.Entry.{Entry}
use Rattle.hmc_entries.specs.declared.entry.Entry.TheVariants.{Shifted, Spread, Lifted, Through, Retired, Idle}
use Rattle.hmc_journal.specs.Answers.{gave_entry, took_entry, ran_entry}
use Rattle.hmc_journal.specs.CubeSteps.{goal_at, shifted_entry, shift_entry, spread_to_bank, execution_entry, executed_entry, lifted_entry}
use Rattle.hmc_journal.specs.Hosts.{host_of}
use Rattle.hmc_journal.specs.LinkSteps.{sent_entry, landed_entry, landed_front}
use Rattle.hmc_journal.specs.Next.{next, choice}
use Rattle.hmc_journal.specs.Setup.{Setup, Topology, graph_of, shape_of, direction_from, direction_to}
use Rattle.hmc_journal.specs.Routes.{port_towards}
use Rattle.hmc_journal.specs.Queues.{output_from, goal_queue, queue_of, answers_of}
use Rattle.hmc_journal.specs.Queues.QueueId.{Port, Host, Vault, Bank, Answers}
use Rattle.hmc_journal.specs.Links.{toward, sizes_on, fed_after}
use Rattle.hmc_journal.specs.StepView.{StepView, view_of}
use Rattle.hmc_journal.specs.ThroughSteps.{through_head, forwarded_entry, is_forwarded, takes_on, onward_port, gathered_head}
use Rattle.hmc_journal.specs.Waiting.{lacks_room, queue_size, with_front, unless_full}
use Rattle.hmc_journal.specs.Waiting as waiting
use Rattle.hmc_growing.specs.Growing.{is_end_of, IsEndGive}

-- ---- steps other than a give

front : (h : ℕ) (step : Step) (packets : List PacketFields) (does : PacketFields → Entry) → ((p : PacketFields) → is_end_of h (does p) ≡ false) → is_end_of h (with_front step packets does) ≡ false
front h step [] does each = refl
front h step (p ∷ rest) does each = each p

unless : (h : ℕ) (step : Step) (full : Bool) (entry : Entry) → is_end_of h entry ≡ false → is_end_of h (unless_full step full entry) ≡ false
unless h step true entry is = refl
unless h step false entry is = is

sends : (h d : ℕ) (full : Bool) (sending : Sending) → is_end_of h (sent_entry d full sending) ≡ false
sends h d true sending = refl
sends h d false Starved = refl
sends h d false (Out flit what) = refl

lands : (h d : ℕ) (passed : Bool) (flit : List ℕ) (outcome : Outcome) → is_end_of h (landed_entry d passed flit outcome) ≡ false
lands h d true flit outcome = refl
lands h d false flit outcome = refl

lands_front : (h : ℕ) (sizes : LinkFields) (d : ℕ) (past : List LinkEntry) (mask : List ℕ) (o : Option StampedFlit) → is_end_of h (landed_front sizes d past mask o) ≡ false
lands_front h sizes d past mask None = refl
lands_front h sizes d past mask (Some flit) = lands h d (passes sizes.profile (toward d) past mask (under_mask mask flit.flit)) (under_mask mask flit.flit) (reception_of sizes.profile (receiver_entries (toward d) past) (under_mask mask flit.flit)).outcome

shifts : (h : ℕ) (topology : Topology) (view : StepView) (cube port : ℕ) (goal : Option Goal) → is_end_of h (shifted_entry topology view cube port goal) ≡ false
shifts h topology view cube port None = refl
shifts h topology view cube port (Some goal) = unless h (steps.Shift cube port) (lacks_room topology view (goal_queue topology cube goal)) (Shifted cube port goal) refl

runs : (h : ℕ) (unit : RequestUnit) (step : Step) (ran : Execution) → is_end_of h (ran_entry unit step ran) ≡ false
runs h unit step executions.Empty = refl
runs h unit step executions.Full = refl
runs h unit step (executions.Ran host tag request answer) = refl

executes : (h : ℕ) (unit : RequestUnit) (step : Step) (p : PacketFields) (answers : List PacketFields) (size : ℕ) (state : State) (o : Option RequestFields) → is_end_of h (execution_entry unit step p answers size state o) ≡ false
executes h unit step p answers size state None = refl
executes h unit step p answers size state (Some request) = runs h unit step (execute.runs p request answers size (cube_state_at state request.cube) state.slots)

lifts_to : (h : ℕ) (topology : Topology) (view : StepView) (cube : ℕ) (from : Lift) (port : Option ℕ) → is_end_of h (lifted_entry topology view cube from port) ≡ false
lifts_to h topology view cube from None = refl
lifts_to h topology view cube from (Some port) = unless h (steps.Lift cube from) (lacks_room topology view (output_from topology (places.Port cube port))) (Lifted cube from port) refl

takes : (h host : ℕ) (settled : Settled) → is_end_of h (took_entry host settled) ≡ false
takes h host settles.Discarded = refl
takes h host (settles.Took tag answer) = refl

retires : (h slot : ℕ) (live : Bool) → is_end_of h (if live then Retired slot else Idle (steps.Retire slot) causes.Empty) ≡ false
retires h slot true = refl
retires h slot false = refl

goes : (h cube port d : ℕ) (busy : Bool) → is_end_of h (if busy then Idle (steps.Through cube port) causes.Busy else Through cube port d) ≡ false
goes h cube port d true = refl
goes h cube port d false = refl

forwards : (h : ℕ) (topology : Topology) (view : StepView) (cube port : ℕ) (head : Head) (onto : Option ℕ) → is_end_of h (forwarded_entry topology view cube port head onto) ≡ false
forwards h topology view cube port head None = refl
forwards h topology view cube port head (Some d) =
    goes h cube port d (is_forwarded view (direction_to topology (places.Port cube port)) || not (is_none (slice_get (view.inside (Port cube port)) 0)) || not (takes_on topology view d head.flits))

throughs : (h : ℕ) (topology : Topology) (view : StepView) (cube port : ℕ) (o : Option Head) → is_end_of h (through_head topology view cube port o) ≡ false
throughs h topology view cube port None = refl
throughs h topology view cube port (Some head) =
    forwards h topology view cube port head (option_and_then (λ (onward : ℕ). direction_from topology (places.Port cube onward)) (onward_port topology cube port head))

-- ---- a give

held : (h k number : ℕ) (item : ItemFields) (tag : Option ℕ) (fence lacks full : Bool) → is_end_of h (gave_entry k (if fence then givens.Fence else if lacks then givens.Tags else if full then givens.Full else gave_request number item tag)) ≡ false
held h k number item tag true lacks full = refl
held h k number item tag false true full = refl
held h k number item tag false false true = refl
held h k number item tag false false false = refl

gives : (h k : ℕ) (host : HostFields) (o : Option ItemFields) (room : Bool) → is_end_of h (gave_entry k (next_says host o room)) ≡ true → (h ≡ k) × (o ≡ None)
gives h k host None room is = (eqb-true h k is, refl)
gives h k host (Some item) room is =
    let never : is_end_of h (gave_entry k (next_says host (Some item) room)) ≡ false = held h k host.number item (tag_for item host.tags) (item.fenced && is_some_out host.tags) (lacks_tag item host.tags) (not room) in absurd (cc)

pub itself : (n : ℕ) → (n == n) ≡ true
itself n = eq-eqb n n refl

-- a give yields it where no request is left, and only then
ends_by : (setup : Setup) (past : List Entry) (h k : ℕ) → (h ≡ k) × (next_item (host_of setup past k) ≡ None) → IsEndGive setup past (steps.Give k) h
ends_by setup past h k is = subst (λ (j : ℕ). IsEndGive setup past (steps.Give k) j) (sym is.0) (record { gives = refl; none_left = is.1 })

end_of_give : (setup : Setup) (past : List Entry) (k h : ℕ) → is_end_of h (next setup past (steps.Give k)) ≡ true → IsEndGive setup past (steps.Give k) h
unfolding next choice give_says view_of
end_of_give setup past k h is =
    ends_by setup past h k (gives h k (host_of setup past k) (next_item (host_of setup past k)) (not (lacks_room setup.topology (view_of setup past) (output_from setup.topology (places.Host k)))) is)

give_at_end : (setup : Setup) (past : List Entry) (h : ℕ) → next_item (host_of setup past h) ≡ None → is_end_of h (next setup past (steps.Give h)) ≡ true
unfolding next choice give_says view_of
give_at_end setup past h none =
    let room = not (lacks_room setup.topology (view_of setup past) (output_from setup.topology (places.Host h))) in
    ap (λ (o : Option ItemFields). is_end_of h (gave_entry h (next_says (host_of setup past h) o room))) none ∙ itself h

pub give_is_end : (setup : Setup) (past : List Entry) (step : Step) (h : ℕ) → IsEndGive setup past step h → is_end_of h (next setup past step) ≡ true
give_is_end setup past step h is = subst (λ (s : Step). is_end_of h (next setup past s) ≡ true) (sym is.gives) (give_at_end setup past h is.none_left)

-- ---- each step

unit_not_end : (topology : Topology) (view : StepView) (unit : RequestUnit) (step : Step) (h : ℕ) → is_end_of h (executed_entry topology view unit step) ≡ false
unit_not_end topology view unit step h =
    front h step (view.inside (queue_of unit)) (λ p. execution_entry unit step p (view.inside (answers_of unit)) (queue_size topology unit) view.state (request_in p))
    (λ p. executes h unit step p (view.inside (answers_of unit)) (queue_size topology unit) view.state (request_in p))

-- the step is a give
abbrev is_give : Step → Bool
is_give (steps.Give h) = true
is_give _ = false

give_of : (step : Step) → is_give step ≡ true → (h : ℕ) × (step ≡ steps.Give h)
give_of (steps.Give h) is = (h, refl)
give_of _ is = absurd cc

-- no other step yields it
not_end : (topology : Topology) (view : StepView) (step : Step) (h : ℕ) → is_give step ≡ false → is_end_of h (choice topology view step) ≡ false
unfolding choice
not_end topology view (steps.Give k) h other = absurd cc
not_end topology view (steps.Send d) h other = sends h d (is_full (sizes_on topology d) (toward d) (view.entries (d / 2))) (cases.choice (sizes_on topology d).profile (view_in (sizes_on topology d) (toward d) (view.entries (d / 2)) (fed_after (sizes_on topology d) (toward d) (view.entries (d / 2)) (view.pipe d))))
not_end topology view (steps.Land d mask) h other = lands_front h (sizes_on topology d) d (view.entries (d / 2)) mask (slice_get (line (sizes_on topology d).profile (toward d) (view.entries (d / 2))) 0)
not_end topology view (steps.Shift cube port) h other =
    front h (steps.Shift cube port) (view.inside (Port cube port)) (shift_entry topology view cube port) (λ p. shifts h topology view cube port (goal_at (where_to (graph_of topology) (shape_of topology cube) cube p)))
not_end topology view (steps.Spread cube vault) h other =
    front h (steps.Spread cube vault) (view.inside (Vault cube vault)) (λ p. spread_to_bank topology view cube vault (bank_of (shape_of topology cube) p.address))
    (λ p. unless h (steps.Spread cube vault) (waiting.is_full topology view (Bank cube vault (bank_of (shape_of topology cube) p.address))) (Spread cube vault (bank_of (shape_of topology cube) p.address)) refl)
not_end topology view (steps.Bank cube vault bank) h other = unit_not_end topology view (units.Bank cube vault bank) (steps.Bank cube vault bank) h
not_end topology view (steps.Registers cube) h other = unit_not_end topology view (units.Registers cube) (steps.Registers cube) h
not_end topology view (steps.Lift cube from) h other =
    front h (steps.Lift cube from) (view.inside (Answers cube from)) (λ p. lifted_entry topology view cube from (port_towards topology cube p.slid)) (λ p. lifts_to h topology view cube from (port_towards topology cube p.slid))
not_end topology view (steps.Take host) h other = front h (steps.Take host) (view.inside (Host host)) (λ p. took_entry host (settle_says p)) (λ p. takes h host (settle_says p))
not_end topology view (steps.Through cube port) h other = throughs h topology view cube port (gathered_head view (direction_to topology (places.Port cube port)))
not_end topology view (steps.Unlock d) h other = refl
not_end topology view (steps.Retire slot) h other = retires h slot (is_live view.state.slots slot)

ends_at : (setup : Setup) (past : List Entry) (step : Step) (h : ℕ) (give : Bool) → is_give step ≡ give → is_end_of h (next setup past step) ≡ true → IsEndGive setup past step h
unfolding next
ends_at setup past step h false other is = let never = not_end setup.topology (view_of setup past) step h other in absurd cc
ends_at setup past step h true is_one is =
    let give = give_of step is_one in
    subst (λ (s : Step). IsEndGive setup past s h) (sym give.1) (end_of_give setup past give.0 h (subst (λ (s : Step). is_end_of h (next setup past s) ≡ true) give.1 is))

-- the entry says so only at a give of this host that has no request left
pub end_is_give : (setup : Setup) (past : List Entry) (step : Step) (h : ℕ) → is_end_of h (next setup past step) ≡ true → IsEndGive setup past step h
end_is_give setup past step h is = ends_at setup past step h (is_give step) refl is
