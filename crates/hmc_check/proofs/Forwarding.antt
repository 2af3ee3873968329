-- The step through.
use Rattle.std.proofs.Common.{◌≡◌, ◌≤◌, ◌<◌, ◌/◌, ◌&&◌, ◌∙◌, ℕ, Bool, true, false, not, Option, Some, None, List, [], length, refl, sym, ap, ap₂, subst, arith}
use Rattle.std.specs.Prelude.{is_some, slice_get, slice_index_or, option_and_then}
use Rattle.hmc_codes.specs.declared.place.Place.{Place}
use Rattle.hmc_codes.specs.declared.place.Place.TheVariants as places
use Rattle.hmc_codes.specs.declared.profile.Profile.{Profile}
use Rattle.hmc_case.specs.declared.setup.LinkRow.{LinkRow}
use Rattle.hmc_packet.specs.declared.feed.Feed.TheVariants.{Waiting}
use Rattle.hmc_packet.specs.declared.head.Head.{Head}
use Rattle.hmc_packet.specs.Head.{head_in}
use Rattle.hmc_packet.specs.Parts.{lng_of}
use Rattle.hmc_send.specs.LinkCalls.{LinkCall, view_in, may_pass_on, names_flits}
use Rattle.hmc_send.specs.LinkEntries.{LinkEntry}
use Rattle.hmc_ends.specs.End.{EndFields}
use Rattle.hmc_through.specs.Pipe.{PipeFields}
use Rattle.hmc_schedule.specs.declared.step.Step.{Step}
use Rattle.hmc_schedule.specs.declared.step.Step.TheVariants as steps
use Rattle.hmc_entries.specs.declared.outcome.Cause.TheVariants as causes
use Rattle.hmc_entries.specs.declared.entry.Entry.{Entry}
use Rattle.hmc_entries.specs.declared.entry.Entry.TheVariants.{Through, Idle}
use Rattle.hmc_journal.specs.Directions.{profile_of}
use Rattle.hmc_journal.specs.Lawful.{has_passed}
use Rattle.hmc_journal.specs.Links.{toward, direction_to, forwarded_on}
use Rattle.hmc_journal.specs.Next.{choice, next}
use Rattle.hmc_journal.specs.Setup.{Topology, Setup, directions_in}
use Rattle.hmc_journal.specs.StepView.{view_of}
use Rattle.hmc_journal.specs.ThroughSteps.{gathered_head, onward_port, forwarded_entry}
use Rattle.hmc_kept.specs.After.{entries_after, gathered_from, begun_from}
use Rattle.hmc_kept.specs.Pipes.{forwarded_at, after_begin}
use Rattle.hmc_kept.specs.Shown.{AreShort, gathered, some_flits}
use Rattle.hmc_kept.specs.Throughs.{pipe_fields, IsOnto, is_free}
use Rattle.hmc_journal.proofs.DirectionEnds.{ends_at}
use Rattle.hmc_kept.proofs.Called.{called_puts, begin_call}
use Rattle.hmc_kept.proofs.PipeLemmas.{begin_counted}
use Rattle.hmc_kept.proofs.Found.{found_by, none_by, short_by, names_lng, head_here}
use Rattle.hmc_journal.proofs.Packets.{head_lng}
use Rattle.hmc_directions.specs.Ends.{EndsHold}
use Rattle.hmc_kept.specs.ByDirection.{IsArrival, IsGathered, IsTaking, MayBegin}
use Rattle.hmc_kept.specs.Called.{sizes_by, called}
use Rattle.hmc_check.specs.Inside.{inside_of}
use Rattle.hmc_check.specs.Moving.{IsHeadAt, IsFree, IsComing}
use Rattle.hmc_check.specs.Past.{PastFields, Holds, IsNextStep, TakesStep, IsNextOfSome}
use Rattle.hmc_check.proofs.Holding.{takes, idle_takes, same_hold, laws_of}
use Rattle.hmc_check.proofs.Landing.{forwarded_seen}
use Rattle.hmc_check.proofs.Outer.{outer_queues}
use Rattle.hmc_kept.proofs.Throughs.{onto_by, by_head, free_entry, forwarded_first, all_found as all_seen, head_found as head_seen, free_seen, free_found as found_free, free_takes as takes_seen}
use Rattle.hmc_check.proofs.Outgoing.{view_hold}

-- ---- what is kept is what is seen

in_setup : (setup : Setup) (past : List Entry) (p : PastFields) (d : ℕ) → Holds setup past p → d < directions_in p.topology → d < directions_in setup.topology
in_setup setup past p d holds there = subst (λ (t : Topology). d < directions_in t) holds.topology there

choice_own : (setup : Setup) (past : List Entry) (p : PastFields) (step : Step) → Holds setup past p → choice p.topology (view_of setup past) step ≡ next setup past step
unfolding next
choice_own setup past p step holds = ap (λ (t : Topology). choice t (view_of setup past) step) holds.topology

-- ---- the flits that are gathered

all_found : (setup : Setup) (past : List Entry) (p : PastFields) (from : ℕ) (found : Option (List (List ℕ))) → Holds setup past p → has_passed past ≡ false → from < directions_in p.topology → IsGathered EndsHold p.ends from found → found ≡ some_flits (gathered (view_of setup past) from)
all_found setup past p from found holds on there is =
    all_seen setup.topology (view_of setup past) from found (laws_of setup past p holds) (in_setup setup past p from holds there) (is setup.topology.links (view_of setup past).entries (view_hold setup past p holds on))

-- the head of the first one
pub head_found : (setup : Setup) (past : List Entry) (p : PastFields) (from : ℕ) (found : Option (List (List ℕ))) → Holds setup past p → has_passed past ≡ false → from < length p.ends → IsGathered EndsHold p.ends from found
    → option_and_then head_in (option_and_then (λ (l : List (List ℕ)). slice_get l 0) found) ≡ gathered_head (view_of setup past) (Some from)
head_found setup past p from found holds on there is =
    let inside = in_setup setup past p from holds (omega (arith, there, holds.sized.ends)) in
    head_seen setup.topology (view_of setup past) from found (laws_of setup past p holds) inside (is setup.topology.links (view_of setup past).entries (view_hold setup past p holds on))

-- ---- whether it can go on

pub free_found : (p : PastFields) (from onto flits : ℕ) (forwarded arrived ready : Bool) → from < length p.ends → forwarded ≡ is_some (forwarded_at p.piped from) → IsArrival EndsHold p.ends from arrived → IsTaking EndsHold p.ends onto flits ready → IsFree p from onto flits ((not forwarded && not arrived) && ready)
free_found p from onto flits forwarded arrived ready there forwarded_is arrived_is ready_is = λ setup past holds on.
    let view = view_of setup past in
    let hold = view_hold setup past p holds on in
    let inside = in_setup setup past p from holds (omega (arith, there, holds.sized.ends)) in
    subst (λ (t : Topology). ((not forwarded && not arrived) && ready) ≡ is_free t view from onto flits) (sym holds.topology)
    (found_free setup.topology view p.piped from onto flits forwarded arrived ready (laws_of setup past p holds) inside (forwarded_seen setup past p from holds inside) forwarded_is
    (arrived_is setup.topology.links view.entries hold) (ready_is setup.topology.links view.entries hold))

-- what can go on is taken by the direction onward
free_takes : (setup : Setup) (past : List Entry) (p : PastFields) (from onto flits : ℕ) → Holds setup past p → true ≡ is_free p.topology (view_of setup past) from onto flits
    → may_pass_on (view_in (sizes_by setup.topology.links onto) (toward onto) ((view_of setup past).entries (onto / 2)) Waiting) flits ≡ true
free_takes setup past p from onto flits holds is =
    takes_seen setup.topology (view_of setup past) from onto flits (subst (λ (t : Topology). true ≡ is_free t (view_of setup past) from onto flits) holds.topology is)

-- ---- what goes on

-- what a journal says of the flits of a packet that goes on
pub record AreSeen (setup : Setup) (past : List Entry) (from onto : ℕ) (flits : List (List ℕ)) : Type 0 where
  pub same : flits ≡ gathered (view_of setup past) from
  pub first : slice_get (gathered (view_of setup past) from) 0 ≡ Some (slice_index_or flits 0 [])
  pub takes : may_pass_on (view_in (sizes_by setup.topology.links onto) (toward onto) ((view_of setup past).entries (onto / 2)) Waiting) (lng_of (slice_index_or flits 0 [])) ≡ true

-- the flits of a packet that goes on from one direction onto another
pub record AreGoingOn (p : PastFields) (from onto : ℕ) (flits : List (List ℕ)) : Type 0 where
  pub some : 1 ≤ length flits
  pub more : length flits < lng_of (slice_index_or flits 0 [])
  pub few : lng_of (slice_index_or flits 0 []) ≤ 17
  pub named : names_flits (lng_of (slice_index_or flits 0 [])) (head_in (slice_index_or flits 0 [])) ≡ true
  pub seen : (setup : Setup) (past : List Entry) → Holds setup past p → has_passed past ≡ false → AreSeen setup past from onto flits

pub going_on : (p : PastFields) (step : Step) (cube port from onto : ℕ) (flits : List (List ℕ)) → IsNextOfSome p step → IsComing p cube port from onto → IsGathered EndsHold p.ends from (Some flits) → AreGoingOn p from onto flits
going_on p step cube port from onto flits some coming found =
    let setup = some.setup in
    let past = some.past in
    let holds = some.is.holds in
    let on = some.is.goes_on in
    let there = (ends_at p.topology (places.Port cube port) from coming.ends).there in
    let own = found_by flits (gathered (view_of setup past) from) (all_found setup past p from (Some flits) holds on there found) in
    let short = short_by flits own.some (subst AreShort (sym own.same) ((laws_of setup past p holds).directions from (in_setup setup past p from holds there)).short) in
    let head = head_here coming.head (slice_index_or flits 0 []) _ (coming.gathers setup past holds on) own.first in
    let long = head_lng (slice_index_or flits 0 []) coming.head head in
    record {
      some = own.some;
      more = short.more;
      few = short.few;
      named = names_lng (slice_index_or flits 0 []) coming.head head (omega (arith, own.some, short.more));
      seen = λ other lines keeps goes.
          (let here = found_by flits (gathered (view_of other lines) from) (all_found other lines p from (Some flits) keeps goes there found) in
          record {
            same = here.same;
            first = here.first;
            takes = ap (may_pass_on (view_in (sizes_by other.topology.links onto) (toward onto) ((view_of other lines).entries (onto / 2)) Waiting)) (sym long) ∙ free_takes other lines p from onto coming.head.flits keeps (coming.free other lines keeps goes);
          });
    }

-- flits are gathered of a packet that goes on
pub some_going_on : (p : PastFields) (step : Step) (cube port from onto : ℕ) → IsNextOfSome p step → IsComing p cube port from onto → IsGathered EndsHold p.ends from None → ⊥
some_going_on p step cube port from onto some coming found =
    let there = (ends_at p.topology (places.Port cube port) from coming.ends).there in
    let none = none_by (gathered (view_of some.setup some.past) from) (all_found some.setup some.past p from None some.is.holds some.is.goes_on there found) in
    let clash : Some coming.head ≡ None = coming.gathers some.setup some.past some.is.holds some.is.goes_on ∙ ap (λ (l : List (List ℕ)). option_and_then head_in (slice_get l 0)) none in
    cc

-- the direction onward can take it
pub may_begin : (p : PastFields) (step : Step) (from onto lng : ℕ) (flits : List (List ℕ)) → IsNextOfSome p step → AreGoingOn p from onto flits → lng ≡ lng_of (slice_index_or flits 0 []) → MayBegin EndsHold p.ends onto lng
may_begin p step from onto lng flits some is same =
    let setup = some.setup in
    let view = view_of setup some.past in record {
      rows = setup.topology.links;
      entries = view.entries;
      stand = view_hold setup some.past p some.is.holds some.is.goes_on;
      ready = ap (may_pass_on (view_in (sizes_by setup.topology.links onto) (toward onto) (view.entries (onto / 2)) Waiting)) same ∙ (is.seen setup some.past some.is.holds some.is.goes_on).takes;
    }

pub onto_there : (p : PastFields) (cube port onto : ℕ) (head : Head) → IsOnto p.topology cube port head (Some onto) → onto < directions_in p.topology
onto_there p cube port onto head is = onto_by p.topology cube onto (onward_port p.topology cube port head) is

-- ---- the entry

chosen_free : (setup : Setup) (past : List Entry) (p : PastFields) (cube port from onto : ℕ) (head : Head) (free : Bool) → IsNextStep setup past p (steps.Through cube port) → direction_to p.topology (places.Port cube port) ≡ Some from → IsHeadAt p from (Some head) → IsOnto p.topology cube port head (Some onto) → IsFree p from onto head.flits free
    → free_entry cube port onto free ≡ next setup past (steps.Through cube port)
chosen_free setup past p cube port from onto head free is ends gathers goes can =
    let view = view_of setup past in
    ap (free_entry cube port onto) (can setup past is.holds is.goes_on) ∙ free_seen p.topology view cube port from onto head ends ∙ ap (forwarded_entry p.topology view cube port head) goes
    ∙ by_head p.topology view cube port from (Some head) ends (gathers setup past is.holds is.goes_on) ∙ choice_own setup past p (steps.Through cube port) is.holds

pub nothing_gathered : (old new : PastFields) (cube port from : ℕ) → direction_to old.topology (places.Port cube port) ≡ Some from → IsHeadAt old from None → new ≡ record old { last = Idle (steps.Through cube port) causes.NoPacket } → TakesStep old new (steps.Through cube port)
nothing_gathered old new cube port from ends gathers now =
    idle_takes old new (steps.Through cube port) (steps.Through cube port) causes.NoPacket now
    (λ setup past is. by_head old.topology (view_of setup past) cube port from None ends (gathers setup past is.holds is.goes_on) ∙ choice_own setup past old (steps.Through cube port) is.holds)

pub no_way_on : (old new : PastFields) (cube port from : ℕ) (head : Head) → direction_to old.topology (places.Port cube port) ≡ Some from → IsHeadAt old from (Some head) → IsOnto old.topology cube port head None → new ≡ record old { last = Idle (steps.Through cube port) causes.NoPacket } → TakesStep old new (steps.Through cube port)
no_way_on old new cube port from head ends gathers goes now =
    idle_takes old new (steps.Through cube port) (steps.Through cube port) causes.NoPacket now
    (λ setup past is. ap (forwarded_entry old.topology (view_of setup past) cube port head) goes ∙ by_head old.topology (view_of setup past) cube port from (Some head) ends (gathers setup past is.holds is.goes_on) ∙ choice_own setup past old (steps.Through cube port) is.holds)

pub busy_now : (old new : PastFields) (cube port from onto : ℕ) (head : Head) → direction_to old.topology (places.Port cube port) ≡ Some from → IsHeadAt old from (Some head) → IsOnto old.topology cube port head (Some onto) → IsFree old from onto head.flits false
    → new ≡ record old { last = Idle (steps.Through cube port) causes.Busy } → TakesStep old new (steps.Through cube port)
busy_now old new cube port from onto head ends gathers goes can now =
    idle_takes old new (steps.Through cube port) (steps.Through cube port) causes.Busy now
    (λ setup past is. chosen_free setup past old cube port from onto head false is ends gathers goes can)

-- ---- a packet goes on

-- a packet begins to be forwarded in a direction
abbrev pub Begins : List EndFields → List EndFields → (onto : ℕ) → (head : List ℕ) → (flits : ℕ) → Type 0
Begins ends now onto head flits = (rows : List LinkRow) (entries : ℕ → List LinkEntry) → EndsHold rows ends entries → EndsHold rows now (called rows onto (λ d. LinkCall.begin d head flits) entries)

ends_in : (p : PastFields) (setup : Setup) (past : List Entry) (place : Place) (from : ℕ) → Holds setup past p → direction_to p.topology place ≡ Some from → direction_to setup.topology place ≡ Some from
ends_in p setup past place from holds to = subst (λ (t : Topology). direction_to t place ≡ Some from) holds.topology to

begin_takes : (old new : PastFields) (cube port from onto : ℕ) (flits : List (List ℕ)) (profile : Profile) (ends : List EndFields) → IsComing old cube port from onto → AreGoingOn old from onto flits → profile ≡ profile_of old.topology from
    → Begins old.ends ends onto (slice_index_or flits 0 []) (lng_of (slice_index_or flits 0 []))
    → new ≡ record old { ends = ends; piped = after_begin onto (record { from = from; pipe = pipe_fields flits profile }) old.piped; last = Through cube port onto } → TakesStep old new (steps.Through cube port)
begin_takes old new cube port from onto flits profile ends coming goes profile_is stand now =
    let first = slice_index_or flits 0 [] in
    let lng = lng_of first in
    subst (λ (p : PastFields). TakesStep old p (steps.Through cube port)) (sym now)
    (takes old _ (steps.Through cube port) (λ setup past is.
    let sized = is.holds.sized in
    let rows = setup.topology.links in
    let view = view_of setup past in
    let seen = goes.seen setup past is.holds is.goes_on in
    let own = ends_in old setup past (places.Port cube port) from is.holds coming.ends in
    let held = stand rows view.entries (view_hold setup past old is.holds is.goes_on) in
    record {
      entry = Through cube port onto;
      last = refl;
      is_next = chosen_free setup past old cube port from onto coming.head true is coming.ends coming.gathers coming.goes coming.free;
      after = record {
        topology = refl;
        queues = λ q inner. outer_queues setup.topology past (Through cube port onto) (inside_of old.queues) q tt inner;
        state = refl;
        hosts = refl;
        host = tt;
        piped = ap (λ (f : PipeFields). after_begin onto (record { from = from; pipe = f }) old.piped) (ap₂ pipe_fields seen.same (profile_is ∙ ap (λ (t : Topology). profile_of t from) is.holds.topology))
            ∙ ap (λ (f : Option ℕ). begun_from setup.topology view f onto old.piped) (sym own);
        ends = λ on. same_hold rows ends (called rows onto (λ d. LinkCall.begin d first lng) view.entries) (entries_after setup.topology view (Through cube port onto))
            (λ link. called_puts rows onto link (λ d. LinkCall.begin d first lng) (λ n d. LinkEntry.through d first lng) view.entries (begin_call rows onto first lng view.entries seen.takes goes.named)
            ∙ sym (forwarded_first link onto (gathered view from) (view.entries link) first seen.first)
            ∙ ap (λ (f : Option ℕ). forwarded_on link onto (gathered_from view f) (view.entries link)) (sym own)) held;
        sized = record {
          queues = sized.queues;
          fits = sized.fits;
          cubes = sized.cubes;
          hosts = sized.hosts;
          ends = subst (λ (t : Topology). length ends ≡ directions_in t) (sym is.holds.topology) held.count;
          piped = begin_counted old.piped (directions_in old.topology) onto (record { from = from; pipe = pipe_fields flits profile }) sized.piped;
        };
      };
    }) refl)

-- the same by what the calls give
pub forward_takes : (old new : PastFields) (cube port from onto lng : ℕ) (flits : List (List ℕ)) (profile : Profile) (pipe : PipeFields) (ends : List EndFields) → IsComing old cube port from onto → AreGoingOn old from onto flits → profile ≡ profile_of old.topology from → pipe ≡ pipe_fields flits profile → lng ≡ lng_of (slice_index_or flits 0 [])
    → Begins old.ends ends onto (slice_index_or flits 0 []) lng
    → new ≡ record old { ends = ends; piped = after_begin onto (record { from = from; pipe = pipe }) old.piped; last = Through cube port onto } → TakesStep old new (steps.Through cube port)
forward_takes old new cube port from onto lng flits profile pipe ends coming goes profile_is pipe_is lng_is stand now =
    begin_takes old new cube port from onto flits profile ends coming goes profile_is
    (subst (Begins old.ends ends onto (slice_index_or flits 0 [])) lng_is stand)
    (now ∙ ap (λ (f : PipeFields). record old { ends = ends; piped = after_begin onto (record { from = from; pipe = f }) old.piped; last = Through cube port onto }) pipe_is)
