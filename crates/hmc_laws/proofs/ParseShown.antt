-- The line of each entry of a lawful journal shows all of it: an idle landing has no mask, and an
-- answer is silent or one that a response can carry.
use Rattle.std.proofs.Common.{◌≡◌, ◌∙◌, ◌+◌, ◌/◌, ◌%◌, ◌&&◌, ◌||◌, ◌==◌, inl, inr, nat_le, ℕ, Bool, true, false, if◌then◌else◌, Option, Some, None, List, [], ◌∷◌, length, slice_get, refl, sym, ap, subst, arith, not}
use Rattle.std.specs.Prelude.{is_none, option_and_then}
use Rattle.std.specs.List.{All}
use Rattle.std.proofs.lemmas.Bool.Decides.{nat_tests}
use Rattle.std.proofs.lemmas.List.Elements.{All-nil, All-cons}
use Rattle.std.proofs.lemmas.Option.{same_Some}
use Rattle.hmc_codes.specs.Answer.{is_returned, CanReply}
use Rattle.hmc_codes.specs.Commands.{allows_of, is_posted}
use Rattle.hmc_codes.specs.Link.{LinkFields}
use Rattle.hmc_codes.specs.Request.{RequestFields}
use Rattle.hmc_codes.specs.Shape.{bank_of}
use Rattle.hmc_codes.specs.Table.{table_line}
use Rattle.hmc_codes.specs.declared.answer.Answer.{Answer}
use Rattle.hmc_codes.specs.declared.answer.Answer.TheVariants.{Silent, Done, Read, Register, Stored, Refused}
use Rattle.hmc_codes.specs.declared.command.Command.{Command}
use Rattle.hmc_codes.specs.declared.command.Command.TheVariants.{WrRs, RdRs, MdRdRs, MdWrRs, Error}
use Rattle.hmc_codes.specs.declared.lift.Lift.{Lift}
use Rattle.hmc_codes.specs.declared.place.Place.TheVariants as places
use Rattle.hmc_codes.specs.declared.unit.Unit.{Unit as RequestUnit}
use Rattle.hmc_codes.specs.declared.unit.Unit.TheVariants as units
use Rattle.hmc_crossbar.specs.To.{where_to}
use Rattle.hmc_packet.specs.Packet.{PacketFields, IsPacket}
use Rattle.hmc_packet.specs.Transactions.{answer_by, answer_in, request_in}
use Rattle.hmc_packet.specs.declared.head.Head.{Head}
use Rattle.hmc_packet.specs.declared.outcome.Outcome.{Outcome}
use Rattle.hmc_schedule.specs.declared.step.Step.{Step}
use Rattle.hmc_schedule.specs.declared.step.Step.TheVariants as steps
use Rattle.hmc_send.specs.LinkEntries.{LinkEntry}
use Rattle.hmc_packet.specs.Masks.{under_mask}
use Rattle.hmc_send.specs.LinkLines.{StampedFlit, line}
use Rattle.hmc_send.specs.declared.sent.Sent.{Sent as Sending}
use Rattle.hmc_send.specs.declared.sent.Sent.TheVariants.{Out, Starved}
use Rattle.hmc_serial.specs.Machine.{State, cube_state_at, answer_to}
use Rattle.hmc_serial.proofs.AnswerLemmas.{performed_is_carried}
use Rattle.hmc_host.specs.Settle.{settle_says}
use Rattle.hmc_host.specs.declared.given.Given.{Given}
use Rattle.hmc_host.specs.declared.given.Given.TheVariants as givens
use Rattle.hmc_host.specs.declared.settled.Settled.{Settled}
use Rattle.hmc_host.specs.declared.settled.Settled.TheVariants as settles
use Rattle.hmc_vault.specs.declared.execute.Executed.{Executed as Execution}
use Rattle.hmc_vault.specs.declared.execute.Executed.TheVariants as executions
use Rattle.hmc_entries.specs.declared.outcome.Cause.TheVariants as causes
use Rattle.hmc_entries.specs.declared.outcome.Goal.{Goal}
use Rattle.hmc_entries.specs.declared.entry.Entry.{Entry}
use Rattle.hmc_entries.specs.declared.entry.Entry.TheVariants.{Gave, Shifted, Spread, Executed, Lifted, Took, Through, Retired, Idle}
use Rattle.hmc_journal.specs.Network.{IsNetwork}
use Rattle.hmc_journal.specs.Lawful.{Follows, Lawful}
use Rattle.hmc_journal.specs.Links.{toward, sizes_on}
use Rattle.hmc_journal.specs.Queues.{queue_of, answers_of}
use Rattle.hmc_journal.specs.Queues.QueueId.{Port, Host, Vault, Bank, Answers}
use Rattle.hmc_journal.specs.Routes.{port_towards}
use Rattle.hmc_journal.specs.Waiting.{is_full, queue_size}
use Rattle.hmc_journal.specs.Setup.{Setup, Topology, graph_of, shape_of, direction_from, direction_to}
use Rattle.hmc_journal.specs.StepView.{StepView, state_of}
use Rattle.hmc_journal.specs.Next.{next, choice, with_front, unless_full, gave_entry, took_entry, ran_entry, sent_entry, landed_entry, landed_front, goal_at, shifted_entry, shift_entry, spread_to_bank, execution_entry, executed_entry, lifted_entry}
use Rattle.hmc_journal.specs.ThroughSteps.{onward_port, gathered_head, is_forwarded, takes_on, forwarded_entry, through_head}
use Rattle.hmc_entries.specs.Parse.{CanBeShown, HasNoMask, IsShown}
use Rattle.hmc_journal.proofs.EntryRule.{EntryRule, HasExecuted, HasTaken, entry_rule, lawful_past}
use Rattle.hmc_laws.proofs.Entering.{Kept, front_stands, runs_request, sends}
use Rattle.hmc_laws.proofs.Machine.{cube_there}
use Rattle.hmc_laws.proofs.Sound.{kept}
use Rattle.hmc_laws.proofs.Standing.{GoesTo}

-- MASKS

-- an idle entry has no mask
abbrev IsUnmasked : Entry → Type 0
IsUnmasked (Idle step cause) = HasNoMask step
IsUnmasked entry = Unit {0}

unless : (step : Step) (full : Bool) (entry : Entry) → HasNoMask step → IsUnmasked entry → IsUnmasked (unless_full step full entry)
unless step true entry none is = none
unless step false entry none is = is

fronted : (step : Step) (packets : List PacketFields) (does : PacketFields → Entry) → HasNoMask step → ((front : PacketFields) → IsUnmasked (does front)) → IsUnmasked (with_front step packets does)
fronted step [] does none is = none
fronted step (front ∷ rest) does none is = is front

gave : (host : ℕ) (given : Given) → IsUnmasked (gave_entry host given)
gave host givens.Ended = tt
gave host givens.Fence = tt
gave host givens.Tags = tt
gave host givens.Full = tt
gave host (givens.Gave packet request tag poisoned) = tt

took : (host : ℕ) (settled : Settled) → IsUnmasked (took_entry host settled)
took host settles.Discarded = tt
took host (settles.Took tag answer) = tt

sent : (direction : ℕ) (full : Bool) (sending : Sending) → IsUnmasked (sent_entry direction full sending)
sent direction true sending = tt
sent direction false Starved = tt
sent direction false (Out flit what) = tt

landed : (direction : ℕ) (passed : Bool) (flit : List ℕ) (outcome : Outcome) → IsUnmasked (landed_entry direction passed flit outcome)
landed direction true flit outcome = tt
landed direction false flit outcome = tt

land : (sizes : LinkFields) (direction : ℕ) (past : List LinkEntry) (mask : List ℕ) (front : Option StampedFlit) → IsUnmasked (landed_front sizes direction past mask front)
land sizes direction past mask None = refl
land sizes direction past mask (Some front) = landed direction _ (under_mask mask front.flit) _

shifted : (topology : Topology) (view : StepView) (cube port : ℕ) (goal : Option Goal) → IsUnmasked (shifted_entry topology view cube port goal)
shifted topology view cube port None = tt
shifted topology view cube port (Some goal) = unless (steps.Shift cube port) _ (Shifted cube port goal) tt tt

ran : (unit : RequestUnit) (step : Step) (execution : Execution) → HasNoMask step → IsUnmasked (ran_entry unit step execution)
ran unit step executions.Empty none = none
ran unit step executions.Full none = none
ran unit step (executions.Ran host tag request answer) none = tt

execution : (unit : RequestUnit) (step : Step) (front : PacketFields) (answers : List PacketFields) (size : ℕ) (state : State) (found : Option RequestFields) → HasNoMask step → IsUnmasked (execution_entry unit step front answers size state found)
execution unit step front answers size state None none = none
execution unit step front answers size state (Some request) none = ran unit step _ none

lifted : (topology : Topology) (view : StepView) (cube : ℕ) (from : Lift) (port : Option ℕ) → IsUnmasked (lifted_entry topology view cube from port)
lifted topology view cube from None = tt
lifted topology view cube from (Some port) = unless (steps.Lift cube from) _ (Lifted cube from port) tt tt

retired : (slot : ℕ) (live : Bool) → IsUnmasked (if live then Retired slot else Idle (steps.Retire slot) causes.Empty)
retired slot true = tt
retired slot false = tt

executed_by : (topology : Topology) (view : StepView) (unit : RequestUnit) (step : Step) → HasNoMask step → IsUnmasked (executed_entry topology view unit step)
executed_by topology view unit step none =
    fronted step (view.inside (queue_of unit)) (λ front. execution_entry unit step front (view.inside (answers_of unit)) (queue_size topology unit) view.state (request_in front)) none
    (λ front. execution unit step front (view.inside (answers_of unit)) (queue_size topology unit) view.state (request_in front) none)

begun : (cube port direction : ℕ) (busy : Bool) → IsUnmasked (if busy then Idle (steps.Through cube port) causes.Busy else Through cube port direction)
begun cube port direction true = tt
begun cube port direction false = tt

forwarded_on : (topology : Topology) (view : StepView) (cube port : ℕ) (head : Head) (onto : Option ℕ) → IsUnmasked (forwarded_entry topology view cube port head onto)
forwarded_on topology view cube port head None = tt
forwarded_on topology view cube port head (Some direction) =
    begun cube port direction
    (is_forwarded view (direction_to topology (places.Port cube port)) || not (is_none (slice_get (view.inside (Port cube port)) 0)) || not (takes_on topology view direction head.flits))

through : (topology : Topology) (view : StepView) (cube port : ℕ) (found : Option Head) → IsUnmasked (through_head topology view cube port found)
through topology view cube port None = tt
through topology view cube port (Some head) =
    forwarded_on topology view cube port head (option_and_then (λ onward. direction_from topology (places.Port cube onward)) (onward_port topology cube port head))

choice_unmasked : (topology : Topology) (view : StepView) (step : Step) → IsUnmasked (choice topology view step)
unfolding choice
choice_unmasked topology view (steps.Give host) = gave host _
choice_unmasked topology view (steps.Send direction) = sent direction _ _
choice_unmasked topology view (steps.Land direction mask) =
    land (sizes_on topology direction) direction (view.entries (direction / 2)) mask (slice_get (line (sizes_on topology direction).profile (toward direction) (view.entries (direction / 2))) 0)
choice_unmasked topology view (steps.Shift cube port) =
    fronted (steps.Shift cube port) (view.inside (Port cube port)) (shift_entry topology view cube port) tt
    (λ front. shifted topology view cube port (goal_at (where_to (graph_of topology) (shape_of topology cube) cube front)))
choice_unmasked topology view (steps.Spread cube vault) =
    fronted (steps.Spread cube vault) (view.inside (Vault cube vault)) (λ front. spread_to_bank topology view cube vault (bank_of (shape_of topology cube) front.address)) tt
    (λ front. unless (steps.Spread cube vault) (is_full topology view (Bank cube vault (bank_of (shape_of topology cube) front.address))) (Spread cube vault (bank_of (shape_of topology cube) front.address)) tt tt)
choice_unmasked topology view (steps.Bank cube vault bank) = executed_by topology view (units.Bank cube vault bank) (steps.Bank cube vault bank) tt
choice_unmasked topology view (steps.Registers cube) = executed_by topology view (units.Registers cube) (steps.Registers cube) tt
choice_unmasked topology view (steps.Lift cube from) =
    fronted (steps.Lift cube from) (view.inside (Answers cube from)) (λ front. lifted_entry topology view cube from (port_towards topology cube front.slid)) tt
    (λ front. lifted topology view cube from (port_towards topology cube front.slid))
choice_unmasked topology view (steps.Take host) =
    fronted (steps.Take host) (view.inside (Host host)) (λ front. took_entry host (settle_says front)) tt (λ front. took host (settle_says front))
choice_unmasked topology view (steps.Retire slot) = retired slot _
choice_unmasked topology view (steps.Through cube port) = through topology view cube port (gathered_head view (direction_to topology (places.Port cube port)))
choice_unmasked topology view _ = tt

next_unmasked : (setup : Setup) (past : List Entry) (step : Step) → IsUnmasked (next setup past step)
unfolding next
next_unmasked setup past step = choice_unmasked setup.topology _ step

follows_unmasked : (setup : Setup) (past : List Entry) (step : Option Step) (entry : Entry) → Follows setup past step entry → IsUnmasked entry
follows_unmasked setup past None entry follows = absurd follows
follows_unmasked setup past (Some step) entry follows = subst IsUnmasked (sym follows) (next_unmasked setup past step)

lawful_unmasked : (setup : Setup) (entry : Entry) (past : List Entry) → Lawful setup (entry ∷ past) → IsUnmasked entry
unfolding Lawful
lawful_unmasked setup entry past lawful = follows_unmasked setup past _ entry lawful.1

-- ANSWERS

can_be_shown : (answer : Answer) → CanReply answer → CanBeShown answer
can_be_shown Silent can = tt
can_be_shown (Done flag) can = tt
can_be_shown (Read flag payload) can = can
can_be_shown (Register value) can = tt
can_be_shown Stored can = tt
can_be_shown (Refused errstat) can = can

executed_shown : (setup : Setup) (past : List Entry) (unit : RequestUnit) (host : ℕ) (tag : Option ℕ) (request : RequestFields) (answer : Answer) (posted : Bool) → HasExecuted setup past unit host tag request answer → Kept setup past
    → is_posted request.command ≡ posted → CanBeShown answer
unfolding answer_to
executed_shown setup past unit host tag request answer true has keeps posted =
    let run = runs_request setup past unit host tag request answer has keeps in
    let state = state_of setup past in
    let carried = performed_is_carried (cube_state_at state request.cube) state.slots request (cube_there setup.topology state request.cube keeps.state run.there) run.is in
    subst CanBeShown (sym (has.is_answer ∙ carried.silent posted)) tt
executed_shown setup past unit host tag request answer false has keeps posted =
    can_be_shown answer (sends setup past unit host tag request answer has keeps posted).carried

-- as many flits as a read has are as many bytes as a response can carry
few_bytes : (n : ℕ) → n % 16 ≡ 0 → ((nat_le 2 (1 + n / 16) && nat_le (1 + n / 16) 9) || (1 + n / 16 == 17)) ≡ true → is_returned n ≡ true
few_bytes n whole allowed = grind (arith, nat_tests)

allowed_returned : (n : ℕ) → n % 16 ≡ 0 → allows_of RdRs (1 + n / 16) ≡ true → is_returned n ≡ true
unfolding table_line
allowed_returned n whole allowed = few_bytes n whole allowed

replied : (command : Command) (packet : PacketFields) (answer : Answer) → command ≡ packet.command → IsPacket packet → answer_by command packet ≡ Some answer → CanReply answer
unfolding answer_by
replied WrRs packet answer own is found = subst CanReply (same_Some _ answer found) tt
replied RdRs packet answer own is found =
    subst CanReply (same_Some _ answer found) (allowed_returned (length packet.payload) is.payload.whole (ap (λ c. allows_of c (1 + length packet.payload / 16)) own ∙ is.payload.allowed))
replied MdRdRs packet answer own is found = subst CanReply (same_Some _ answer found) tt
replied MdWrRs packet answer own is found = subst CanReply (same_Some _ answer found) tt
replied Error packet answer own is found = subst CanReply (same_Some _ answer found) is.ranges.errstat
replied _ packet answer own is found = absurd (cc found)

taken_shown : (setup : Setup) (past : List Entry) (host tag : ℕ) (answer : Answer) → HasTaken setup past host tag answer → Kept setup past → CanBeShown answer
unfolding answer_in
taken_shown setup past host tag answer has keeps = by_goes (front_stands setup past (Host host) keeps has.at).goes
  where
    by_goes : GoesTo setup.topology (places.Host host) has.at.front → CanBeShown answer
    by_goes (inl bound) = can_be_shown answer (replied has.at.front.command has.at.front answer refl bound.replying.counted.is_packet has.is_answer)
    by_goes (inr spoiled) = absurd (let clash : true ≡ false = sym spoiled.poisoned ∙ has.unpoisoned in cc)

-- ENTRIES

entry_shown : (setup : Setup) (past : List Entry) (entry : Entry) → IsUnmasked entry → EntryRule setup past entry → Kept setup past → IsShown entry
entry_shown setup past (Executed unit host tag request answer) none rule keeps = executed_shown setup past unit host tag request answer _ rule keeps refl
entry_shown setup past (Took host tag answer) none rule keeps = taken_shown setup past host tag answer rule keeps
entry_shown setup past (Idle step cause) none rule keeps = none
entry_shown setup past (Gave host tag poisoned request) none rule keeps = tt
entry_shown setup past _ none rule keeps = tt

pub lawful_shown : (setup : Setup) (past : List Entry) → IsNetwork setup → Lawful setup past → All IsShown past
lawful_shown setup [] network lawful = All-nil IsShown
lawful_shown setup (entry ∷ past) network lawful =
    let before = lawful_past setup entry past lawful in
    All-cons IsShown entry past (entry_shown setup past entry (lawful_unmasked setup entry past lawful) (entry_rule setup entry past lawful) (kept setup past network before)) (lawful_shown setup past network before)
