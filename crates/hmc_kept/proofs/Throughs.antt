-- What the step through finds and gives.
use Rattle.std.proofs.Common.{◌≡◌, ◌<◌, ◌/◌, ◌&&◌, ◌||◌, ◌∙◌, ℕ, Bool, true, false, not, if◌then◌else◌, Option, Some, None, List, [], ◌∷◌, refl, sym, ap, ap₂}
use Rattle.std.specs.Prelude.{is_none, slice_get, option_and_then, is_some}
use Rattle.std.proofs.lemmas.Bool.{and_parts}
use Rattle.hmc_codes.specs.declared.place.Place.{Place}
use Rattle.hmc_codes.specs.declared.place.Place.TheVariants as places
use Rattle.hmc_packet.specs.declared.feed.Feed.TheVariants.{Waiting}
use Rattle.hmc_packet.specs.declared.head.Head.{Head}
use Rattle.hmc_packet.specs.Head.{head_in}
use Rattle.hmc_send.specs.LinkCalls.{view_in, may_pass_on}
use Rattle.hmc_send.specs.LinkEntries.{LinkEntry, receiver_entries}
use Rattle.hmc_schedule.specs.declared.step.Step.TheVariants as steps
use Rattle.hmc_entries.specs.declared.outcome.Cause.TheVariants as causes
use Rattle.hmc_entries.specs.declared.entry.Entry.{Entry}
use Rattle.hmc_entries.specs.declared.entry.Entry.TheVariants.{Through, Idle}
use Rattle.hmc_journal.specs.Links.{toward, direction_to, forwarded_on}
use Rattle.hmc_journal.specs.Next.{choice}
use Rattle.hmc_journal.specs.Queues.{buffer_at, landing_buffer}
use Rattle.hmc_journal.specs.Queues.QueueId.{Port}
use Rattle.hmc_journal.specs.Setup.{Topology, directions_in, direction_from}
use Rattle.hmc_journal.specs.StepView.{StepView}
use Rattle.hmc_journal.specs.ThroughSteps.{gathered_head, is_forwarded, takes_on, forwarded_entry, through_head}
use Rattle.hmc_kept.specs.Called.{sizes_by}
use Rattle.hmc_kept.specs.Pipes.{PipesHeld, forwarded_at}
use Rattle.hmc_kept.specs.Shown.{gathered, some_flits, KeepsLaws}
use Rattle.hmc_kept.specs.Throughs.{is_free}
use Rattle.hmc_journal.proofs.DirectionEnds.{ends_at, starts_there}
use Rattle.hmc_packet.specs.Packet.{PacketFields}
use Rattle.hmc_ends.specs.Answers.{front_in}
use Rattle.hmc_packet.specs.Landings.{mode}
use Rattle.hmc_ends.specs.End.{flits_seen}
use Rattle.hmc_kept.proofs.Found.{flits_first, not_some}

-- the entry by the head of the packet that is gathered at the port
pub by_head : (topology : Topology) (view : StepView) (cube port from : ℕ) (head : Option Head) → direction_to topology (places.Port cube port) ≡ Some from → head ≡ gathered_head view (Some from) → through_head topology view cube port head ≡ choice topology view (steps.Through cube port)
unfolding choice
by_head topology view cube port from head ends is =
    ap (through_head topology view cube port) (is ∙ ap (gathered_head view) (sym ends))

-- busy exactly where it isn't free
pub busy_by : (forwarded empty taken : Bool) → (forwarded || not empty || not taken) ≡ not ((not forwarded && empty) && taken)
busy_by true true true = refl
busy_by true true false = refl
busy_by true false true = refl
busy_by true false false = refl
busy_by false true true = refl
busy_by false true false = refl
busy_by false false true = refl
busy_by false false false = refl

-- the entry of a packet that has a way, by whether it can go on now
abbrev pub free_entry : (cube port onto : ℕ) → Bool → Entry
free_entry cube port onto free = if not free then Idle (steps.Through cube port) causes.Busy else Through cube port onto

pub free_seen : (topology : Topology) (view : StepView) (cube port from onto : ℕ) (head : Head) → direction_to topology (places.Port cube port) ≡ Some from
    → free_entry cube port onto (is_free topology view from onto head.flits) ≡ forwarded_entry topology view cube port head (Some onto)
free_seen topology view cube port from onto head ends =
    let at = ends_at topology (places.Port cube port) from ends in
    let empty = is_none (slice_get (view.inside (Port cube port)) 0) in
    ap (λ (p : Place). free_entry cube port onto ((not (is_forwarded view (Some from)) && is_none (slice_get (view.inside (buffer_at p)) 0)) && takes_on topology view onto head.flits)) at.ends
    ∙ ap (λ (t : Bool). if t then Idle (steps.Through cube port) causes.Busy else Through cube port onto) (sym (busy_by (is_forwarded view (Some from)) empty (takes_on topology view onto head.flits)))
    ∙ ap (λ (d : Option ℕ). if is_forwarded view d || not empty || not (takes_on topology view onto head.flits) then Idle (steps.Through cube port) causes.Busy else Through cube port onto) (sym ends)

-- the first flit of what is gathered
pub forwarded_first : (link onto : ℕ) (came : List (List ℕ)) (past : List LinkEntry) (first : List ℕ) → slice_get came 0 ≡ Some first → forwarded_on link onto came past ≡ forwarded_on link onto (first ∷ []) past
forwarded_first link onto [] past first is = absurd (cc)
forwarded_first link onto (head ∷ rest) past first is = let same : head ≡ first = cc in ap (λ (h : List ℕ). forwarded_on link onto (h ∷ []) past) same

-- a direction onto which a packet goes is there
pub onto_by : (topology : Topology) (cube onto : ℕ) (onward : Option ℕ) → Some onto ≡ option_and_then (λ (p : ℕ). direction_from topology (places.Port cube p)) onward → onto < directions_in topology
onto_by topology cube onto None is = absurd (cc)
onto_by topology cube onto (Some p) is = starts_there topology (places.Port cube p) onto (sym is)

-- what is found of the flits that are gathered is all of them
pub all_found : (topology : Topology) (view : StepView) (from : ℕ) (found : Option (List (List ℕ))) → KeepsLaws topology view → from < directions_in topology
    → found ≡ flits_seen (mode (receiver_entries (toward from) (view.entries (from / 2)))) (gathered view from) → found ≡ some_flits (gathered view from)
all_found topology view from found laws there is = is ∙ (laws.directions from there).gathers

-- the head of the first one
pub head_found : (topology : Topology) (view : StepView) (from : ℕ) (found : Option (List (List ℕ))) → KeepsLaws topology view → from < directions_in topology
    → found ≡ flits_seen (mode (receiver_entries (toward from) (view.entries (from / 2)))) (gathered view from)
    → option_and_then head_in (option_and_then (λ (l : List (List ℕ)). slice_get l 0) found) ≡ gathered_head view (Some from)
head_found topology view from found laws there is =
    ap (λ (f : Option (List (List ℕ))). option_and_then head_in (option_and_then (λ (l : List (List ℕ)). slice_get l 0) f)) (all_found topology view from found laws there is)
    ∙ ap (option_and_then head_in) (flits_first (gathered view from))

-- whether a packet can be forwarded now
pub free_found : (topology : Topology) (view : StepView) (piped : PipesHeld) (from onto flits : ℕ) (forwarded arrived ready : Bool) → KeepsLaws topology view → from < directions_in topology → forwarded_at piped from ≡ view.forwarded from
    → forwarded ≡ is_some (forwarded_at piped from) → arrived ≡ is_some (front_in (sizes_by topology.links from) (toward from) (view.entries (from / 2)))
    → ready ≡ may_pass_on (view_in (sizes_by topology.links onto) (toward onto) (view.entries (onto / 2)) Waiting) flits
    → ((not forwarded && not arrived) && ready) ≡ is_free topology view from onto flits
free_found topology view piped from onto flits forwarded arrived ready laws there same forwarded_is arrived_is ready_is =
    let goes : forwarded ≡ is_forwarded view (Some from) = forwarded_is ∙ ap (λ (o : Option ℕ). is_some o) same in
    let waits : not arrived ≡ is_none (slice_get (view.inside (landing_buffer topology from)) 0) =
    ap not arrived_is ∙ not_some (front_in (sizes_by topology.links from) (toward from) (view.entries (from / 2)))
    ∙ sym (ap (λ (l : List PacketFields). is_none (slice_get l 0)) (laws.directions from there).buffer) in
    ap₂ (λ (a b : Bool). (not a && b) && ready) goes waits ∙ ap (λ (r : Bool). (not (is_forwarded view (Some from)) && is_none (slice_get (view.inside (landing_buffer topology from)) 0)) && r) ready_is

-- what can go on is taken by the direction onward
pub free_takes : (topology : Topology) (view : StepView) (from onto flits : ℕ) → true ≡ is_free topology view from onto flits → may_pass_on (view_in (sizes_by topology.links onto) (toward onto) (view.entries (onto / 2)) Waiting) flits ≡ true
free_takes topology view from onto flits is = (and_parts _ (takes_on topology view onto flits) (sym is)).1
