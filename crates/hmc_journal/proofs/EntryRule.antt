-- What an entry is that follows: by its variant, what its step saw.
use Rattle.std.proofs.Common.{◌≡◌, ◌==◌, ◌&&◌, ◌||◌, ◌⊎◌, ◌∙◌, inl, inr, ℕ, Bool, true, false, not, if◌then◌else◌, Option, Some, None, is_none, List, [], ◌∷◌, length, drop, slice_get, zero, suc, refl, sym, ap, subst}
use Rattle.std.specs.Prelude.{is_some, option_and_then}
use Rattle.hmc_codes.specs.Commands.{is_posted, family_of}
use Rattle.hmc_codes.specs.Request.{RequestFields}
use Rattle.hmc_codes.specs.Shape.{ShapeFields, vault_of, bank_of}
use Rattle.hmc_codes.specs.declared.answer.Answer.{Answer}
use Rattle.hmc_codes.specs.declared.lift.Lift.{Lift}
use Rattle.hmc_codes.specs.declared.unit.Unit.{Unit as RequestUnit}
use Rattle.hmc_codes.specs.declared.unit.Unit.TheVariants as units
use Rattle.hmc_packet.specs.declared.what.What.{What}
use Rattle.hmc_packet.specs.declared.feed.Feed.{Feed}
use Rattle.hmc_packet.specs.declared.feed.Feed.TheVariants.{Waiting}
use Rattle.hmc_packet.specs.declared.head.Head.{Head}
use Rattle.hmc_packet.specs.Head.{head_in}
use Rattle.hmc_packet.specs.Landings.{pending}
use Rattle.hmc_packet.specs.declared.outcome.Outcome.{Outcome}
use Rattle.hmc_packet.specs.Packet.{PacketFields}
use Rattle.hmc_packet.specs.Receptions.{reception_of}
use Rattle.hmc_packet.specs.Transactions.{request_in, answer_in}
use Rattle.hmc_schedule.specs.declared.step.Step.{Step}
use Rattle.hmc_schedule.specs.declared.step.Step.TheVariants as steps
use Rattle.hmc_script.specs.Items.{ItemFields}
use Rattle.hmc_serial.specs.Machine.{performed, answer_to}
use Rattle.hmc_serial.specs.Unit.{is_for_registers}
use Rattle.hmc_crossbar.specs.declared.to.To.TheVariants as tos
use Rattle.hmc_crossbar.specs.To.{unpoisoned_to}
use Rattle.hmc_vault.specs.declared.execute.Executed.TheVariants as executions
use Rattle.hmc_vault.specs.Execute.{must_wait}
use Rattle.hmc_host.specs.declared.given.Given.TheVariants as givens
use Rattle.hmc_host.specs.declared.settled.Settled.TheVariants as settles
use Rattle.hmc_host.specs.Tags.{is_some_out, lowest_free}
use Rattle.hmc_host.specs.Host.{items_of}
use Rattle.hmc_host.specs.Give.{wants_tag, tag_for, lacks_tag, next_item, next_says, give_says, gave_request}
use Rattle.hmc_host.specs.Settle.{took_answer}
use Rattle.hmc_entries.specs.declared.outcome.Cause.TheVariants as causes
use Rattle.hmc_entries.specs.declared.outcome.Goal.{Goal}
use Rattle.hmc_entries.specs.declared.outcome.Goal.TheVariants as goals
use Rattle.hmc_entries.specs.declared.entry.Entry.{Entry}
use Rattle.hmc_entries.specs.declared.entry.Entry.TheVariants.{Gave, Sent, Landed, Shifted, Dropped, Spread, Executed, Lifted, Took, Discarded, Through, Unlocked, Retired, Passed, Idle}
use Rattle.hmc_codes.specs.declared.place.Place.TheVariants as places
use Rattle.hmc_send.specs.declared.sent.Sent.{Sent as Sending}
use Rattle.hmc_send.specs.declared.sent.Sent.TheVariants.{Out, Starved}
use Rattle.hmc_send.specs.Choice as cases
use Rattle.hmc_send.specs.LinkCalls.{is_full, view_in, may_pass_on}
use Rattle.hmc_send.specs.LinkEntries.{receiver_entries}
use Rattle.hmc_packet.specs.Masks.{under_mask}
use Rattle.hmc_send.specs.LinkLines.{StampedFlit, line, passes}
use Rattle.hmc_send.proofs.LinkLawful.{IsSend, IsLanding}
use Rattle.hmc_journal.specs.Setup.{Setup, Topology, shape_of, graph_of, direction_from}
use Rattle.hmc_journal.specs.Routes.{port_towards}
use Rattle.hmc_journal.specs.Queues.{QueueId, contents, queue_of, output_from, goal_queue}
use Rattle.hmc_journal.specs.Queues.QueueId.{Port, Host, Vault, Answers}
use Rattle.hmc_journal.specs.Hosts.{given_count, host_of}
use Rattle.hmc_journal.specs.Piped.{forwarded_onto, pipe_onto}
use Rattle.hmc_journal.specs.StepView.{state_of, view_of}
use Rattle.hmc_journal.specs.Links.{toward, sizes_on, entries_on, direction_to, fed_after}
use Rattle.hmc_journal.specs.Waiting.{lacks_room}
use Rattle.hmc_journal.specs.Next.{next, choice, lifted_entry, with_front, unless_full, gave_entry, sent_entry, landed_entry, landed_front, goal_at, shifted_entry, tag_of, execution_entry, ran_entry, took_entry}
use Rattle.hmc_journal.specs.ThroughSteps.{port_by, other_than, gathered_head, is_forwarded, takes_on, forwarded_entry, through_head}
use Rattle.hmc_journal.specs.Lawful.{Follows, has_passed, Lawful}

-- the room has this front
pub record HasFront (setup : Setup) (past : List Entry) (room : QueueId) : Type 0 where
  pub front : PacketFields
  pub rest : List PacketFields
  pub is : contents setup.topology past room ≡ front ∷ rest

-- a request that is answered has the lowest tag that isn't out, and each other one has none
abbrev pub IsTagged : (awaited : Bool) → (free tag : Option ℕ) → Type 0
IsTagged true free tag = (t : ℕ) × (free ≡ Some t) × (tag ≡ Some t)
IsTagged false free tag = tag ≡ None

pub record HasGiven (setup : Setup) (past : List Entry) (host : ℕ) (tag : Option ℕ) (poisoned : Bool) (request : RequestFields) : Type 0 where
  pub item : ItemFields
  pub is_next : slice_get (items_of host setup.script) (given_count host past) ≡ Some item
  pub is_poisoned : poisoned ≡ item.poisoned
  pub is_request : request ≡ item.request
  pub is_tagged : IsTagged (wants_tag item) (lowest_free (host_of setup past host).tags) tag
  pub room : lacks_room setup.topology (view_of setup past) (output_from setup.topology (places.Host host)) ≡ false

-- what a send on a direction is fed
abbrev pub feed_on : Topology → List Entry → (direction : ℕ) → Feed
feed_on topology past direction = fed_after (sizes_on topology direction) (toward direction) (entries_on topology direction past) (pipe_onto topology direction past)

-- the line had room, and the flit is the sender's choice
abbrev pub HasSent : Setup → List Entry → (direction : ℕ) → What → List ℕ → Type 0
HasSent setup past direction what flit =
    IsSend (sizes_on setup.topology direction) (entries_on setup.topology direction past) (toward direction) (feed_on setup.topology past direction) what flit

-- the front of the line landed under the mask of the step
pub record HasLanded (setup : Setup) (past : List Entry) (direction : ℕ) (flit : List ℕ) (outcome : Outcome) : Type 0 where
  pub mask : List ℕ
  pub step : slice_get setup.schedule (length past) ≡ Some (steps.Land direction mask)
  pub landing : IsLanding (sizes_on setup.topology direction) (entries_on setup.topology direction past) (toward direction) mask flit outcome

-- the front of the line passed under the mask of the step
pub record HasPassed (setup : Setup) (past : List Entry) (direction : ℕ) (flit : List ℕ) : Type 0 where
  pub mask : List ℕ
  pub step : slice_get setup.schedule (length past) ≡ Some (steps.Land direction mask)
  pub front : StampedFlit
  pub is_front : slice_get (line (sizes_on setup.topology direction).profile (toward direction) (entries_on setup.topology direction past)) 0 ≡ Some front
  pub flit_is : flit ≡ under_mask mask front.flit

-- where an unpoisoned request goes in its cube, of this shape
abbrev pub goal_by : ShapeFields → PacketFields → Goal
goal_by shape packet = if is_for_registers packet.command then goals.Registers else goals.Vault (vault_of shape packet.address)

-- where an unpoisoned packet goes, if it goes anywhere
abbrev pub goal_of : Topology → (cube : ℕ) → PacketFields → Option Goal
goal_of topology cube packet = goal_at (unpoisoned_to (graph_of topology) (shape_of topology cube) cube packet (family_of packet.command))

pub record HasShifted (setup : Setup) (past : List Entry) (cube port : ℕ) (goal : Goal) : Type 0 where
  pub at : HasFront setup past (Port cube port)
  pub unpoisoned : at.front.poisoned ≡ false
  pub is_goal : goal_of setup.topology cube at.front ≡ Some goal
  pub room : lacks_room setup.topology (view_of setup past) (goal_queue setup.topology cube goal) ≡ false

pub record HasDropped (setup : Setup) (past : List Entry) (cube port : ℕ) : Type 0 where
  pub at : HasFront setup past (Port cube port)
  pub is_lost : (at.front.poisoned ≡ true) ⊎ (goal_of setup.topology cube at.front ≡ None)

pub record HasSpread (setup : Setup) (past : List Entry) (cube vault bank : ℕ) : Type 0 where
  pub at : HasFront setup past (Vault cube vault)
  pub is_bank : bank ≡ bank_of (shape_of setup.topology cube) at.front.address

pub record HasExecuted (setup : Setup) (past : List Entry) (unit : RequestUnit) (host : ℕ) (tag : Option ℕ) (request : RequestFields) (answer : Answer) : Type 0 where
  pub at : HasFront setup past (queue_of unit)
  pub is_request : request_in at.front ≡ Some request
  pub is_host : host ≡ at.front.slid
  pub is_tag : tag ≡ tag_of (is_posted request.command) at.front.tag
  pub is_answer : answer ≡ answer_to (state_of setup past) request

pub record HasLifted (setup : Setup) (past : List Entry) (cube : ℕ) (from : Lift) (port : ℕ) : Type 0 where
  pub at : HasFront setup past (Answers cube from)
  pub is_port : port_towards setup.topology cube at.front.slid ≡ Some port
  pub room : lacks_room setup.topology (view_of setup past) (output_from setup.topology (places.Port cube port)) ≡ false

pub record HasTaken (setup : Setup) (past : List Entry) (host tag : ℕ) (answer : Answer) : Type 0 where
  pub at : HasFront setup past (Host host)
  pub unpoisoned : at.front.poisoned ≡ false
  pub is_answer : answer_in at.front ≡ Some answer
  pub is_tag : tag ≡ at.front.tag

pub record HasDiscarded (setup : Setup) (past : List Entry) (host : ℕ) : Type 0 where
  pub at : HasFront setup past (Host host)
  pub is_none : (at.front.poisoned ≡ true) ⊎ (answer_in at.front ≡ None)

-- a packet was being gathered at the port, and may go on, onto the direction from a port towards its
-- goal
pub record HasThrough (setup : Setup) (past : List Entry) (cube port direction : ℕ) : Type 0 where
  pub from : ℕ
  pub arrives : direction_to setup.topology (places.Port cube port) ≡ Some from
  pub flit : List ℕ
  pub rest : List (List ℕ)
  pub gathered : pending (receiver_entries (toward from) (entries_on setup.topology from past)) ≡ flit ∷ rest
  pub head : Head
  pub is_head : head_in flit ≡ Some head
  pub onward : ℕ
  pub is_onward : port_by setup.topology cube head (family_of head.command) ≡ Some onward
  pub other_port : (onward == port) ≡ false
  pub starts : direction_from setup.topology (places.Port cube onward) ≡ Some direction
  pub alone : forwarded_onto setup.topology from past ≡ None
  pub empty : contents setup.topology past (Port cube port) ≡ []
  pub may : may_pass_on (view_in (sizes_on setup.topology direction) (toward direction) (entries_on setup.topology direction past) Waiting) head.flits ≡ true

abbrev pub EntryRule : Setup → List Entry → Entry → Type 0
EntryRule setup past (Gave host tag poisoned request) = HasGiven setup past host tag poisoned request
EntryRule setup past (Sent direction what flit) = HasSent setup past direction what flit
EntryRule setup past (Landed direction flit outcome) = HasLanded setup past direction flit outcome
EntryRule setup past (Shifted cube port goal) = HasShifted setup past cube port goal
EntryRule setup past (Dropped cube port) = HasDropped setup past cube port
EntryRule setup past (Spread cube vault bank) = HasSpread setup past cube vault bank
EntryRule setup past (Executed unit host tag request answer) = HasExecuted setup past unit host tag request answer
EntryRule setup past (Lifted cube from port) = HasLifted setup past cube from port
EntryRule setup past (Took host tag answer) = HasTaken setup past host tag answer
EntryRule setup past (Discarded host) = HasDiscarded setup past host
EntryRule setup past (Unlocked direction) = Unit {0}
EntryRule setup past (Passed direction flit) = HasPassed setup past direction flit
EntryRule setup past (Through cube port direction) = HasThrough setup past cube port direction
EntryRule setup past (Retired slot) = Unit {0}
EntryRule setup past (Idle step cause) = Unit {0}

unless : (setup : Setup) (past : List Entry) (step : Step) (full : Bool) (entry : Entry) → EntryRule setup past entry → EntryRule setup past (unless_full step full entry)
unless setup past step true entry right = tt
unless setup past step false entry right = right

fronted : (setup : Setup) (past : List Entry) (step : Step) (room : QueueId) (packets : List PacketFields) (does : PacketFields → Entry) → contents setup.topology past room ≡ packets
    → ((at : HasFront setup past room) → EntryRule setup past (does at.front)) → EntryRule setup past (with_front step packets does)
fronted setup past step room [] does is right = tt
fronted setup past step room (front ∷ rest) does is right = right (record { front = front; rest = rest; is = is })

-- give

-- what is left begins with the element at a place
pub drop-first : {X : Type 0} (xs : List X) (n : ℕ) → slice_get (drop n xs) 0 ≡ slice_get xs n
drop-first [] zero = refl
drop-first [] (suc n) = refl
drop-first (x ∷ xs) zero = refl
drop-first (x ∷ xs) (suc n) = drop-first xs n

-- the next request of a host, by its place among those of the script
pub next_at : (setup : Setup) (past : List Entry) (host : ℕ) → next_item (host_of setup past host) ≡ slice_get (items_of host setup.script) (given_count host past)
unfolding host_of
next_at setup past host = drop-first (items_of host setup.script) (given_count host past)

tagged : (item : ItemFields) (tags : List Bool) (awaited : Bool) (free : Option ℕ) → wants_tag item ≡ awaited → lowest_free tags ≡ free → (awaited && is_none free) ≡ false
    → IsTagged awaited free (if awaited then free else None)
tagged item tags true (Some tag) needs found lacks = (tag, refl, refl)
tagged item tags true None needs found lacks = cc
tagged item tags false free needs found lacks = refl

give_item : (setup : Setup) (past : List Entry) (host : ℕ) (item : ItemFields) (fence lacks lacks_place : Bool) → next_item (host_of setup past host) ≡ Some item → lacks_tag item (host_of setup past host).tags ≡ lacks
    → lacks_room setup.topology (view_of setup past) (output_from setup.topology (places.Host host)) ≡ lacks_place
    → EntryRule setup past (gave_entry host (if fence then givens.Fence else if lacks then givens.Tags else if not (not lacks_place) then givens.Full else gave_request (host_of setup past host).number item (tag_for item (host_of setup past host).tags)))
give_item setup past host item true lacks lacks_place is lack none = tt
give_item setup past host item false true lacks_place is lack none = tt
give_item setup past host item false false true is lack none = tt
give_item setup past host item false false false is lack none = record {
  item = item;
  is_next = sym (next_at setup past host) ∙ is;
  is_poisoned = refl;
  is_request = refl;
  is_tagged = tagged item (host_of setup past host).tags (wants_tag item) (lowest_free (host_of setup past host).tags) refl refl lack;
  room = none;
}

give : (setup : Setup) (past : List Entry) (host : ℕ) (item : Option ItemFields) → next_item (host_of setup past host) ≡ item
    → EntryRule setup past (gave_entry host (next_says (host_of setup past host) item (not (lacks_room setup.topology (view_of setup past) (output_from setup.topology (places.Host host))))))
give setup past host None is = tt
give setup past host (Some item) is =
    give_item setup past host item (item.fenced && is_some_out (host_of setup past host).tags) (lacks_tag item (host_of setup past host).tags) _ is refl refl

-- send
send : (setup : Setup) (past : List Entry) (direction : ℕ) (full : Bool) (sending : Sending) → is_full (sizes_on setup.topology direction) (toward direction) (entries_on setup.topology direction past) ≡ full
    → cases.choice (sizes_on setup.topology direction).profile (view_in (sizes_on setup.topology direction) (toward direction) (entries_on setup.topology direction past) (feed_on setup.topology past direction)) ≡ sending
    → EntryRule setup past (sent_entry direction full sending)
send setup past direction true sending full is = tt
send setup past direction false Starved full is = tt
send setup past direction false (Out flit what) full is = record { has_room = full; chosen = is }

-- land
land_flit : (setup : Setup) (past : List Entry) (direction : ℕ) (mask : List ℕ) (front : StampedFlit) (passed : Bool) → slice_get setup.schedule (length past) ≡ Some (steps.Land direction mask)
    → slice_get (line (sizes_on setup.topology direction).profile (toward direction) (entries_on setup.topology direction past)) 0 ≡ Some front
    → passes (sizes_on setup.topology direction).profile (toward direction) (entries_on setup.topology direction past) mask (under_mask mask front.flit) ≡ passed
    → EntryRule setup past (landed_entry direction passed (under_mask mask front.flit) (reception_of (sizes_on setup.topology direction).profile (receiver_entries (toward direction) (entries_on setup.topology direction past)) (under_mask mask front.flit)).outcome)
land_flit setup past direction mask front true step is passed = record { mask = mask; step = step; front = front; is_front = is; flit_is = refl }
land_flit setup past direction mask front false step is passed =
    record { mask = mask; step = step; landing = record { front = front; is_front = is; flit_is = refl; outcome_is = refl; caught = passed } }

land : (setup : Setup) (past : List Entry) (direction : ℕ) (mask : List ℕ) (front : Option StampedFlit) → slice_get setup.schedule (length past) ≡ Some (steps.Land direction mask)
    → slice_get (line (sizes_on setup.topology direction).profile (toward direction) (entries_on setup.topology direction past)) 0 ≡ front
    → EntryRule setup past (landed_front (sizes_on setup.topology direction) direction (entries_on setup.topology direction past) mask front)
land setup past direction mask None step is = tt
land setup past direction mask (Some front) step is = land_flit setup past direction mask front _ step is refl

-- in a cube
shift_room : (setup : Setup) (past : List Entry) (cube port : ℕ) (at : HasFront setup past (Port cube port)) (goal : Goal) (lacks : Bool) → at.front.poisoned ≡ false → goal_of setup.topology cube at.front ≡ Some goal
    → lacks_room setup.topology (view_of setup past) (goal_queue setup.topology cube goal) ≡ lacks → EntryRule setup past (unless_full (steps.Shift cube port) lacks (Shifted cube port goal))
shift_room setup past cube port at goal true clean is none = tt
shift_room setup past cube port at goal false clean is none = record { at = at; unpoisoned = clean; is_goal = is; room = none }

shift_goal : (setup : Setup) (past : List Entry) (cube port : ℕ) (at : HasFront setup past (Port cube port)) (goal : Option Goal) → at.front.poisoned ≡ false → goal_of setup.topology cube at.front ≡ goal
    → EntryRule setup past (shifted_entry setup.topology (view_of setup past) cube port goal)
shift_goal setup past cube port at None clean is = record { at = at; is_lost = inr is }
shift_goal setup past cube port at (Some goal) clean is = shift_room setup past cube port at goal _ clean is refl

shift_by : (setup : Setup) (past : List Entry) (cube port : ℕ) (at : HasFront setup past (Port cube port)) (poisoned : Bool) → at.front.poisoned ≡ poisoned
    → EntryRule setup past (shifted_entry setup.topology (view_of setup past) cube port (goal_at (if poisoned then tos.Nowhere else unpoisoned_to (graph_of setup.topology) (shape_of setup.topology cube) cube at.front (family_of at.front.command))))
shift_by setup past cube port at true is = record { at = at; is_lost = inl is }
shift_by setup past cube port at false is = shift_goal setup past cube port at _ is refl

run : (setup : Setup) (past : List Entry) (unit : RequestUnit) (step : Step) (at : HasFront setup past (queue_of unit)) (request : RequestFields) (waits : Bool) → request_in at.front ≡ Some request
    → EntryRule setup past (ran_entry unit step (if waits then executions.Full else executions.Ran at.front.slid at.front.tag request (performed (state_of setup past) request).answer))
unfolding answer_to
run setup past unit step at request true is = tt
run setup past unit step at request false is = record { at = at; is_request = is; is_host = refl; is_tag = refl; is_answer = refl }

execute : (setup : Setup) (past : List Entry) (unit : RequestUnit) (step : Step) (answers : List PacketFields) (size : ℕ) (at : HasFront setup past (queue_of unit)) (found : Option RequestFields) → request_in at.front ≡ found
    → EntryRule setup past (execution_entry unit step at.front answers size (state_of setup past) found)
execute setup past unit step answers size at None is = tt
execute setup past unit step answers size at (Some request) is = run setup past unit step at request (must_wait request answers size) is

execute_front : (setup : Setup) (past : List Entry) (unit : RequestUnit) (step : Step) (answers : List PacketFields) (size : ℕ)
    → EntryRule setup past (with_front step (contents setup.topology past (queue_of unit)) (λ front. execution_entry unit step front answers size (state_of setup past) (request_in front)))
execute_front setup past unit step answers size =
    fronted setup past step (queue_of unit) _ (λ front. execution_entry unit step front answers size (state_of setup past) (request_in front)) refl
    (λ at. execute setup past unit step answers size at (request_in at.front) refl)

-- lift
lift_by : (setup : Setup) (past : List Entry) (cube : ℕ) (from : Lift) (at : HasFront setup past (Answers cube from)) (port : ℕ) (lacks : Bool) → port_towards setup.topology cube at.front.slid ≡ Some port
    → lacks_room setup.topology (view_of setup past) (output_from setup.topology (places.Port cube port)) ≡ lacks
    → EntryRule setup past (unless_full (steps.Lift cube from) lacks (Lifted cube from port))
lift_by setup past cube from at port true is none = tt
lift_by setup past cube from at port false is none = record { at = at; is_port = is; room = none }

lift : (setup : Setup) (past : List Entry) (cube : ℕ) (from : Lift) (at : HasFront setup past (Answers cube from)) (port : Option ℕ) → port_towards setup.topology cube at.front.slid ≡ port
    → EntryRule setup past (lifted_entry setup.topology (view_of setup past) cube from port)
lift setup past cube from at None is = tt
lift setup past cube from at (Some port) is = lift_by setup past cube from at port _ is refl

-- take
take_answer : (setup : Setup) (past : List Entry) (host : ℕ) (at : HasFront setup past (Host host)) (found : Option Answer) → at.front.poisoned ≡ false → answer_in at.front ≡ found
    → EntryRule setup past (took_entry host (took_answer at.front.tag found))
take_answer setup past host at None clean is = record { at = at; is_none = inr is }
take_answer setup past host at (Some answer) clean is = record { at = at; unpoisoned = clean; is_answer = is; is_tag = refl }

take_front : (setup : Setup) (past : List Entry) (host : ℕ) (at : HasFront setup past (Host host)) (poisoned : Bool) → at.front.poisoned ≡ poisoned
    → EntryRule setup past (took_entry host (if poisoned then settles.Discarded else took_answer at.front.tag (answer_in at.front)))
take_front setup past host at true is = record { at = at; is_none = inl is }
take_front setup past host at false is = take_answer setup past host at (answer_in at.front) is refl

-- retire
retire : (setup : Setup) (past : List Entry) (slot : ℕ) (live : Bool) → EntryRule setup past (if live then Retired slot else Idle (steps.Retire slot) causes.Empty)
retire setup past slot true = tt
retire setup past slot false = tt

-- through
none_forwarded : (onto : Option ℕ) → is_some onto ≡ false → onto ≡ None
none_forwarded None is = refl
none_forwarded (Some direction) is = absurd (cc)

none_inside : (packets : List PacketFields) → not (is_none (slice_get packets 0)) ≡ false → packets ≡ []
none_inside [] is = refl
none_inside (packet ∷ packets) is = absurd (cc)

-- what is known of a packet that is gathered at a port, once its way is known
record IsGathered (setup : Setup) (past : List Entry) (cube port : ℕ) (head : Head) : Type 0 where
  from : ℕ
  arrives : direction_to setup.topology (places.Port cube port) ≡ Some from
  flit : List ℕ
  rest : List (List ℕ)
  gathered : pending (receiver_entries (toward from) (entries_on setup.topology from past)) ≡ flit ∷ rest
  is_head : head_in flit ≡ Some head

through_busy : (setup : Setup) (past : List Entry) (cube port : ℕ) (head : Head) (onward direction : ℕ) (on held full : Bool) → IsGathered setup past cube port head
    → port_by setup.topology cube head (family_of head.command) ≡ Some onward → (onward == port) ≡ false → direction_from setup.topology (places.Port cube onward) ≡ Some direction
    → is_forwarded (view_of setup past) (direction_to setup.topology (places.Port cube port)) ≡ on → not (is_none (slice_get (contents setup.topology past (Port cube port)) 0)) ≡ held
    → not (takes_on setup.topology (view_of setup past) direction head.flits) ≡ full
    → EntryRule setup past (if on || held || full then Idle (steps.Through cube port) causes.Busy else Through cube port direction)
unfolding view_of
through_busy setup past cube port head onward direction true held full is towards other_port starts forwarded holds takes = tt
through_busy setup past cube port head onward direction false true full is towards other_port starts forwarded holds takes = tt
through_busy setup past cube port head onward direction false false true is towards other_port starts forwarded holds takes = tt
through_busy setup past cube port head onward direction false false false is towards other_port starts forwarded holds takes = record {
  from = is.from;
  arrives = is.arrives;
  flit = is.flit;
  rest = is.rest;
  gathered = is.gathered;
  head = head;
  is_head = is.is_head;
  onward = onward;
  is_onward = towards;
  other_port = other_port;
  starts = starts;
  alone = none_forwarded (forwarded_onto setup.topology is.from past) (sym (ap (is_forwarded (view_of setup past)) is.arrives) ∙ forwarded);
  empty = none_inside (contents setup.topology past (Port cube port)) holds;
  may = not_false (may_pass_on (view_in (sizes_on setup.topology direction) (toward direction) (entries_on setup.topology direction past) Waiting) head.flits) takes;
}
  where
    not_false : (b : Bool) → not b ≡ false → b ≡ true
    not_false true at = refl
    not_false false at = absurd (cc)

through_onto : (setup : Setup) (past : List Entry) (cube port : ℕ) (head : Head) (onward : ℕ) (found : Option ℕ) → IsGathered setup past cube port head
    → port_by setup.topology cube head (family_of head.command) ≡ Some onward → (onward == port) ≡ false → direction_from setup.topology (places.Port cube onward) ≡ found
    → EntryRule setup past (forwarded_entry setup.topology (view_of setup past) cube port head found)
unfolding view_of
through_onto setup past cube port head onward None is towards other_port starts = tt
through_onto setup past cube port head onward (Some direction) is towards other_port starts = through_busy setup past cube port head onward direction _ _ _ is towards other_port starts refl refl refl

through_port : (setup : Setup) (past : List Entry) (cube port : ℕ) (head : Head) (onward : ℕ) (same : Bool) → IsGathered setup past cube port head
    → port_by setup.topology cube head (family_of head.command) ≡ Some onward → (onward == port) ≡ same
    → EntryRule setup past (forwarded_entry setup.topology (view_of setup past) cube port head (option_and_then (λ there. direction_from setup.topology (places.Port cube there)) (if same then None else Some onward)))
through_port setup past cube port head onward true is towards same = tt
through_port setup past cube port head onward false is towards same = through_onto setup past cube port head onward _ is towards same refl

through_towards : (setup : Setup) (past : List Entry) (cube port : ℕ) (head : Head) (found : Option ℕ) → IsGathered setup past cube port head → port_by setup.topology cube head (family_of head.command) ≡ found
    → EntryRule setup past (forwarded_entry setup.topology (view_of setup past) cube port head (option_and_then (λ there. direction_from setup.topology (places.Port cube there)) (other_than port found)))
through_towards setup past cube port head None is towards = tt
through_towards setup past cube port head (Some onward) is towards = through_port setup past cube port head onward _ is towards refl

through_head_by : (setup : Setup) (past : List Entry) (cube port from : ℕ) (flit : List ℕ) (rest : List (List ℕ)) (found : Option Head) → direction_to setup.topology (places.Port cube port) ≡ Some from
    → pending (receiver_entries (toward from) (entries_on setup.topology from past)) ≡ flit ∷ rest → head_in flit ≡ found → EntryRule setup past (through_head setup.topology (view_of setup past) cube port found)
through_head_by setup past cube port from flit rest None arrives gathered is = tt
through_head_by setup past cube port from flit rest (Some head) arrives gathered is =
    through_towards setup past cube port head _ (record { from = from; arrives = arrives; flit = flit; rest = rest; gathered = gathered; is_head = is }) refl

through_pending : (setup : Setup) (past : List Entry) (cube port from : ℕ) (flits : List (List ℕ)) → direction_to setup.topology (places.Port cube port) ≡ Some from
    → pending (receiver_entries (toward from) (entries_on setup.topology from past)) ≡ flits → EntryRule setup past (through_head setup.topology (view_of setup past) cube port (option_and_then head_in (slice_get flits 0)))
through_pending setup past cube port from [] arrives gathered = tt
through_pending setup past cube port from (flit ∷ rest) arrives gathered = through_head_by setup past cube port from flit rest (head_in flit) arrives gathered refl

through_from : (setup : Setup) (past : List Entry) (cube port : ℕ) (found : Option ℕ) → direction_to setup.topology (places.Port cube port) ≡ found
    → EntryRule setup past (through_head setup.topology (view_of setup past) cube port (gathered_head (view_of setup past) found))
unfolding view_of
through_from setup past cube port None arrives = tt
through_from setup past cube port (Some from) arrives = through_pending setup past cube port from _ arrives refl

pub next_rule : (setup : Setup) (past : List Entry) (step : Step) → slice_get setup.schedule (length past) ≡ Some step → EntryRule setup past (next setup past step)
unfolding next choice view_of give_says
next_rule setup past (steps.Give host) there = give setup past host (next_item (host_of setup past host)) refl
next_rule setup past (steps.Send direction) there = send setup past direction _ _ refl refl
next_rule setup past (steps.Land direction mask) there = land setup past direction mask _ there refl
next_rule setup past (steps.Shift cube port) there =
    fronted setup past (steps.Shift cube port) (Port cube port) _ _ refl
    (λ at. shift_by setup past cube port at at.front.poisoned refl)
next_rule setup past (steps.Spread cube vault) there =
    fronted setup past (steps.Spread cube vault) (Vault cube vault) _ _ refl
    (λ at. unless setup past (steps.Spread cube vault) _ (Spread cube vault (bank_of (shape_of setup.topology cube) at.front.address)) (record { at = at; is_bank = refl }))
next_rule setup past (steps.Bank cube vault bank) there = execute_front setup past (units.Bank cube vault bank) (steps.Bank cube vault bank) _ _
next_rule setup past (steps.Registers cube) there = execute_front setup past (units.Registers cube) (steps.Registers cube) _ _
next_rule setup past (steps.Lift cube from) there =
    fronted setup past (steps.Lift cube from) (Answers cube from) _ _ refl
    (λ at. lift setup past cube from at (port_towards setup.topology cube at.front.slid) refl)
next_rule setup past (steps.Take host) there = fronted setup past (steps.Take host) (Host host) _ _ refl (λ at. take_front setup past host at at.front.poisoned refl)
next_rule setup past (steps.Retire slot) there = retire setup past slot _
next_rule setup past (steps.Through cube port) there = through_from setup past cube port _ refl
next_rule setup past _ there = tt

follows_rule : (setup : Setup) (past : List Entry) (step : Option Step) (entry : Entry) → slice_get setup.schedule (length past) ≡ step → Follows setup past step entry → EntryRule setup past entry
follows_rule setup past (Some step) entry there follows = subst (EntryRule setup past) (sym follows) (next_rule setup past step there)
follows_rule setup past None entry there follows = absurd follows

-- a lawful journal's newest entry is right after the others, which are lawful
pub entry_rule : (setup : Setup) (entry : Entry) (past : List Entry) → Lawful setup (entry ∷ past) → EntryRule setup past entry
unfolding Lawful
entry_rule setup entry past lawful = follows_rule setup past _ entry refl lawful.1

pub lawful_past : (setup : Setup) (entry : Entry) (past : List Entry) → Lawful setup (entry ∷ past) → Lawful setup past
unfolding Lawful
lawful_past setup entry past lawful = lawful.2

-- nothing follows a landing that passed
pub not_passed : (setup : Setup) (entry : Entry) (past : List Entry) → Lawful setup (entry ∷ past) → has_passed past ≡ false
unfolding Lawful
not_passed setup entry past lawful = lawful.0
