-- The step through.
use Rattle.std.proofs.Common.{◌≡◌, ◌<◌, ◌/◌, ◌∙◌, ℕ, Bool, true, false, Option, Some, None, List, [], refl, sym, ap, ap₂, subst}
use Rattle.std.specs.Prelude.{slice_get, slice_index_or}
use Rattle.hmc_codes.specs.declared.place.Place.TheVariants as places
use Rattle.hmc_packet.specs.declared.feed.Feed.TheVariants.{Waiting}
use Rattle.hmc_packet.specs.declared.head.Head.{Head}
use Rattle.hmc_packet.specs.Head.{head_in}
use Rattle.hmc_packet.specs.Parts.{lng_of}
use Rattle.hmc_case.specs.declared.setup.LinkRow.{LinkRow}
use Rattle.hmc_link.specs.Held.{LinkHeld}
use Rattle.hmc_send.specs.LinkCalls.{LinkCall, view_in, may_pass_on, names_flits}
use Rattle.hmc_send.specs.LinkEntries.{LinkEntry}
use Rattle.hmc_schedule.specs.declared.step.Step.TheVariants as steps
use Rattle.hmc_entries.specs.declared.outcome.Cause.TheVariants as causes
use Rattle.hmc_entries.specs.declared.entry.Entry.{Entry}
use Rattle.hmc_entries.specs.declared.entry.Entry.TheVariants.{Through, Idle}
use Rattle.hmc_journal.specs.Links.{toward, direction_to, forwarded_on}
use Rattle.hmc_journal.specs.Next.{choice}
use Rattle.hmc_journal.specs.Piped.{pipe_of}
use Rattle.hmc_journal.specs.Setup.{directions_in}
use Rattle.hmc_journal.specs.StepView.{StepView}
use Rattle.hmc_journal.specs.ThroughSteps.{onward_port, forwarded_entry}
use Rattle.hmc_net.specs.Apply.{DoesStep}
use Rattle.hmc_kept.specs.After.{gathered_from, begun_from}
use Rattle.hmc_kept.specs.Called.{sizes_by, called}
use Rattle.hmc_links.specs.LinkList.{LinksStandFor, IsGathered}
use Rattle.hmc_net.specs.NetState.{NetState}
use Rattle.hmc_kept.specs.Pipes.{PipesHeld, AreCounted, after_begin}
use Rattle.hmc_through.specs.Pipe.{PipeFields}
use Rattle.hmc_codes.specs.declared.profile.Profile.{Profile}
use Rattle.hmc_journal.specs.Directions.{profile_of}
use Rattle.hmc_net.specs.Sees.{Sees, IsSized, IsReady}
use Rattle.hmc_kept.specs.Shown.{gathered}
use Rattle.hmc_net.specs.Throughs.{IsHeadAt, IsFree, IsComing}
use Rattle.hmc_kept.specs.Throughs.{IsOnto, pipe_fields}
use Rattle.hmc_net.proofs.Doing.{links_do, idle_does}
use Rattle.hmc_kept.proofs.Called.{called_puts, begin_call}
use Rattle.hmc_journal.proofs.DirectionEnds.{ends_at}
use Rattle.hmc_links.proofs.LinkCalls.{same_entries}
use Rattle.hmc_kept.proofs.PipeLemmas.{begin_counted}
use Rattle.hmc_net.proofs.ThroughFacts.{going_on}
use Rattle.hmc_kept.proofs.Throughs.{by_head, free_entry, free_seen, forwarded_first, onto_by}

pub nothing_gathered : (net now : NetState) (cube port from : ℕ) → IsSized net → direction_to net.topology (places.Port cube port) ≡ Some from → IsHeadAt net from None → now ≡ record net { last = Idle (steps.Through cube port) causes.NoPacket } → DoesStep net now (steps.Through cube port)
nothing_gathered net now cube port from sized ends is now_is =
    idle_does net now (steps.Through cube port) (steps.Through cube port) causes.NoPacket now_is sized (λ view sees. by_head net.topology view cube port from None ends (is view sees))

pub no_way_on : (net now : NetState) (cube port from : ℕ) (head : Head) → IsSized net → direction_to net.topology (places.Port cube port) ≡ Some from → IsHeadAt net from (Some head) → IsOnto net.topology cube port head None → now ≡ record net { last = Idle (steps.Through cube port) causes.NoPacket } → DoesStep net now (steps.Through cube port)
no_way_on net now cube port from head sized ends is goes now_is =
    idle_does net now (steps.Through cube port) (steps.Through cube port) causes.NoPacket now_is sized
    (λ view sees. ap (forwarded_entry net.topology view cube port head) goes ∙ by_head net.topology view cube port from (Some head) ends (is view sees))

chosen_free : (net : NetState) (view : StepView) (cube port from onto : ℕ) (head : Head) (free : Bool) → Sees net view → direction_to net.topology (places.Port cube port) ≡ Some from → IsHeadAt net from (Some head) → IsOnto net.topology cube port head (Some onto) → IsFree net from onto head.flits free
    → free_entry cube port onto free ≡ choice net.topology view (steps.Through cube port)
chosen_free net view cube port from onto head free sees ends is goes can =
    ap (free_entry cube port onto) (can view sees) ∙ free_seen net.topology view cube port from onto head ends ∙ ap (forwarded_entry net.topology view cube port head) goes ∙ by_head net.topology view cube port from (Some head) ends (is view sees)

pub busy_now : (net now : NetState) (cube port from onto : ℕ) (head : Head) → IsSized net → direction_to net.topology (places.Port cube port) ≡ Some from → IsHeadAt net from (Some head) → IsOnto net.topology cube port head (Some onto) → IsFree net from onto head.flits false
    → now ≡ record net { last = Idle (steps.Through cube port) causes.Busy } → DoesStep net now (steps.Through cube port)
busy_now net now cube port from onto head sized ends is goes can now_is =
    idle_does net now (steps.Through cube port) (steps.Through cube port) causes.Busy now_is sized (λ view sees. chosen_free net view cube port from onto head false sees ends is goes can)

-- ---- a packet goes on

pub begin_does : (net now : NetState) (cube port from onto : ℕ) (first : List ℕ) (own : List LinkHeld) (piped : PipesHeld) → IsReady net → IsComing net cube port from onto → onto < directions_in net.topology
    → ((view : StepView) → Sees net view → slice_get (gathered view from) 0 ≡ Some first)
    → ((view : StepView) → Sees net view → may_pass_on (view_in (sizes_by net.topology.links onto) (toward onto) (view.entries (onto / 2)) Waiting) (lng_of first) ≡ true)
    → names_flits (lng_of first) (head_in first) ≡ true
    → ((rows : List LinkRow) (entries : ℕ → List LinkEntry) → LinksStandFor rows net.links entries → LinksStandFor rows own (called rows onto (λ d. LinkCall.begin d first (lng_of first)) entries))
    → ((view : StepView) → Sees net view → piped ≡ after_begin onto (pipe_of net.topology from (gathered view from)) net.piped)
    → now ≡ record net { links = own; piped = piped; last = Through cube port onto } → DoesStep net now (steps.Through cube port)
begin_does net now cube port from onto first own piped ready coming there gets may named stand piped_is now_is =
    let rows = net.topology.links in
    let view0 = ready.view in
    links_do net now own piped (Through cube port onto) (steps.Through cube port) ready.sized now_is (record {
      chosen = λ view sees. chosen_free net view cube port from onto coming.head true sees coming.ends coming.gathers coming.goes coming.free;
      cubes_are = λ view. refl;
      hosts_are = refl;
      slots_are = λ view. refl;
      piped_are = λ view sees. piped_is view sees ∙ ap (λ (f : Option ℕ). begun_from net.topology view f onto net.piped) (sym coming.ends);
      links_are = λ view sees on. same_entries rows own (called rows onto (λ d. LinkCall.begin d first (lng_of first)) view.entries) (λ link. forwarded_on link onto (gathered_from view (direction_to net.topology (places.Port cube port))) (view.entries link)) (stand rows view.entries sees.shows.links)
          (λ link. called_puts rows onto link (λ d. LinkCall.begin d first (lng_of first)) (λ _ d. LinkEntry.through d first (lng_of first)) view.entries (begin_call rows onto first (lng_of first) view.entries (may view sees) named)
          ∙ sym (forwarded_first link onto (gathered view from) (view.entries link) first (gets view sees))
          ∙ ap (λ (f : Option ℕ). forwarded_on link onto (gathered_from view f) (view.entries link)) (sym coming.ends));
      there = tt;
      host = tt;
      counted = subst (AreCounted (directions_in net.topology)) (sym (piped_is view0 ready.sees)) (begin_counted net.piped (directions_in net.topology) onto (pipe_of net.topology from (gathered view0 from)) ready.sized.piped);
      idle = λ cause is. absurd (cc);
    })

pub onto_there : (net : NetState) (cube port onto : ℕ) (head : Head) → IsOnto net.topology cube port head (Some onto) → onto < directions_in net.topology
onto_there net cube port onto head is = onto_by net.topology cube onto (onward_port net.topology cube port head) is

-- the same where the network is read through its fields
pub begin_for : (own old : NetState) (now : List LinkHeld) (piped : PipesHeld) (last : Entry) (cube port from onto lng : ℕ) (first : List ℕ) (flits : List (List ℕ)) (profile : Profile) (pipe : PipeFields)
    → own ≡ old → IsReady old → IsComing old cube port from onto → IsGathered own.links from (Some flits)
    → profile ≡ profile_of own.topology from → pipe ≡ pipe_fields flits profile → first ≡ slice_index_or flits 0 [] → lng ≡ lng_of first
    → ((rows : List LinkRow) (entries : ℕ → List LinkEntry) → LinksStandFor rows own.links entries → LinksStandFor rows now (called rows onto (λ d. LinkCall.begin d first lng) entries))
    → piped ≡ after_begin onto (record { from = from; pipe = pipe }) own.piped → last ≡ Through cube port onto
    → DoesStep old (record own { links = now; piped = piped; last = last }) (steps.Through cube port)
begin_for own old now piped last cube port from onto lng first flits profile pipe same ready coming found profile_is pipe_is first_is lng_is stand piped_is last_is =
    let P : NetState → Type 0 = λ n. DoesStep n (record own { links = now; piped = piped; last = last }) (steps.Through cube port) in
    let is = subst IsReady (sym same) ready in
    let comes = subst (λ (n : NetState). IsComing n cube port from onto) (sym same) coming in
    let at = ends_at own.topology (places.Port cube port) from comes.ends in
    let flits_are = going_on own cube port from onto flits is comes at.there found in
    subst P same
    (begin_does own (record own { links = now; piped = piped; last = last }) cube port from onto (slice_index_or flits 0 []) now piped is comes (onto_there own cube port onto comes.head comes.goes)
    flits_are.first flits_are.takes flits_are.named
    (subst (λ (n : ℕ). (rows : List LinkRow) (entries : ℕ → List LinkEntry) → LinksStandFor rows own.links entries → LinksStandFor rows now (called rows onto (λ d. LinkCall.begin d (slice_index_or flits 0 []) n) entries)) (lng_is ∙ ap lng_of first_is)
    (subst (λ (f : List ℕ). (rows : List LinkRow) (entries : ℕ → List LinkEntry) → LinksStandFor rows own.links entries → LinksStandFor rows now (called rows onto (λ d. LinkCall.begin d f lng) entries)) first_is stand))
    (λ view sees. piped_is ∙ ap (λ (p : PipeFields). after_begin onto (record { from = from; pipe = p }) own.piped) (pipe_is ∙ ap₂ pipe_fields (flits_are.same view sees) profile_is))
    (ap (λ (e : Entry). record own { links = now; piped = piped; last = e }) last_is))
