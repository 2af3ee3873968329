-- The steps of links.
use Rattle.std.proofs.Common.{◌≡◌, ◌<◌, ◌/◌, ◌∙◌, ℕ, true, false, List, length, refl, sym, ap, ap₂}
use Rattle.std.specs.Prelude.{slice_get}
use Rattle.hmc_case.specs.declared.setup.LinkRow.{LinkRow}
use Rattle.hmc_packet.specs.declared.feed.Feed.{Feed}
use Rattle.hmc_send.specs.Choice as sends
use Rattle.hmc_send.specs.LinkCalls.{LinkCall, is_full, view_in}
use Rattle.hmc_send.specs.LinkEntries.{LinkEntry}
use Rattle.hmc_send.specs.LinkLines.{line}
use Rattle.hmc_ends.specs.Answers.{link_sent, sends_none}
use Rattle.hmc_link.specs.Held.{LinkHeld}
use Rattle.hmc_ends.specs.Outcomes.{front_outcome, outcome_passed, outcome_none}
use Rattle.hmc_ends.specs.declared.link_outcome.LinkOutcome.{LinkOutcome}
use Rattle.hmc_ends.specs.declared.link_outcome.LinkOutcome.TheVariants as lands
use Rattle.hmc_ends.specs.declared.link_sent.LinkSent.{LinkSent}
use Rattle.hmc_ends.specs.declared.link_sent.LinkSent.TheVariants as links
use Rattle.hmc_schedule.specs.declared.step.Step.TheVariants as steps
use Rattle.hmc_entries.specs.declared.entry.Entry.{Entry}
use Rattle.hmc_entries.specs.declared.entry.Entry.TheVariants.{Unlocked}
use Rattle.hmc_journal.specs.Links.{toward}
use Rattle.hmc_journal.specs.Next.{choice}
use Rattle.hmc_journal.specs.Piped.{fed}
use Rattle.hmc_journal.specs.Setup.{directions_in}
use Rattle.hmc_journal.specs.StepView.{StepView}
use Rattle.hmc_journal.proofs.LinkKept.{line-flit}
use Rattle.hmc_net.specs.Apply.{cubes_after, IsEntryIn, DoesStep}
use Rattle.hmc_kept.specs.Hosts.{hosts_after, IsHostIn}
use Rattle.hmc_kept.specs.After.{slots_after, pipes_after, entries_after}
use Rattle.hmc_kept.specs.Called.{sizes_by, called, taken_where}
use Rattle.hmc_links.specs.LinkList.{LinksStandFor, MaySend}
use Rattle.hmc_kept.specs.LinkAnswers.{sent_by, landed_by, landing_goes_on, after_landing}
use Rattle.hmc_net.specs.NetState.{NetState}
use Rattle.hmc_kept.specs.Pipes.{PipesHeld, AreCounted, after_loss}
use Rattle.hmc_wiring.specs.Ready.{IsLandingIn}
use Rattle.hmc_net.specs.Sees.{Sees, IsReady}
use Rattle.hmc_net.proofs.Doing.{with_parts, does_by, links_do, sized_links}
use Rattle.hmc_kept.proofs.Called.{called_puts, sent_call, taken_calls}
use Rattle.hmc_links.proofs.LinkCalls.{same_entries, one_there}
use Rattle.hmc_kept.proofs.Linking.{unlocked_call}
use Rattle.hmc_kept.proofs.Sending.{feed_fits, sent_same, IsFedBy, sent_entries, idle_sent}
use Rattle.hmc_kept.proofs.Landing.{landed_on, idle_landed, landed_same, passed_same, landed_entries, none_goes, none_piped, taken_after, HoldsLanded}

-- an entry of a send or of a landing changes no cube, no host and no unit
abbrev leaves_parts : NetState → StepView → Entry → Type 0
leaves_parts net view entry = (net.cubes ≡ cubes_after view entry net.cubes) × (net.hosts ≡ hosts_after entry net.hosts) × IsEntryIn net.cubes entry × IsHostIn net.hosts entry × (net.slots ≡ slots_after view entry net.slots)

sent_leaves : (net : NetState) (view : StepView) (direction : ℕ) (sent : LinkSent) → leaves_parts net view (sent_by direction sent)
sent_leaves net view direction links.Full = (refl, refl, tt, tt, refl)
sent_leaves net view direction links.Starved = (refl, refl, tt, tt, refl)
sent_leaves net view direction (links.Out flit what) = (refl, refl, tt, tt, refl)

landed_leaves : (net : NetState) (view : StepView) (direction : ℕ) (landed : LinkOutcome) → leaves_parts net view (landed_by direction landed)
landed_leaves net view direction lands.Empty = (refl, refl, tt, tt, refl)
landed_leaves net view direction (lands.Passed flit) = (refl, refl, tt, tt, refl)
landed_leaves net view direction (lands.Came flit landed) = (refl, refl, tt, tt, refl)

sent_piped : (net : NetState) (view : StepView) (direction : ℕ) (sent : LinkSent) → net.piped ≡ pipes_after net.topology view (sent_by direction sent) net.piped
sent_piped net view direction links.Full = refl
sent_piped net view direction links.Starved = refl
sent_piped net view direction (links.Out flit what) = refl

landed_piped : (net : NetState) (view : StepView) (direction : ℕ) (landed : LinkOutcome) → after_landing direction landed net.piped ≡ pipes_after net.topology view (landed_by direction landed) net.piped
landed_piped net view direction lands.Empty = refl
landed_piped net view direction (lands.Passed flit) = refl
landed_piped net view direction (lands.Came flit landed) = refl

-- ---- send

pub send_does : (net now : NetState) (direction : ℕ) (feed : Feed) (sent : LinkSent) (own : List LinkHeld) → IsReady net → ((view : StepView) → Sees net view → IsFedBy net.topology view direction feed)
    → ((rows : List LinkRow) (entries : ℕ → List LinkEntry) → LinksStandFor rows net.links entries → sent
    ≡ link_sent (is_full (sizes_by rows direction) (toward direction) (entries (direction / 2))) (sends.choice (sizes_by rows direction).profile (view_in (sizes_by rows direction) (toward direction) (entries (direction / 2)) feed)))
    → ((rows : List LinkRow) (entries : ℕ → List LinkEntry) → LinksStandFor rows net.links entries → LinksStandFor rows own (called rows direction (λ d. LinkCall.send d feed) entries))
    → (sends_none sent ≡ true → own ≡ net.links) → now ≡ with_parts net net.cubes net.hosts own (sent_by direction sent) → DoesStep net now (steps.Send direction)
unfolding choice
send_does net now direction feed sent own ready fed answer stand idle now_is =
    let rows = net.topology.links in
    let parts = sent_leaves net ready.view direction sent in
    does_by net now net.cubes net.hosts net.slots own (sent_by direction sent) (steps.Send direction) now_is (record {
      chosen = λ view sees. ap (sent_by direction) (answer rows view.entries sees.shows.links)
          ∙ ap (λ (f : Feed). sent_by direction (link_sent (is_full (sizes_by rows direction) (toward direction) (view.entries (direction / 2))) (sends.choice (sizes_by rows direction).profile (view_in (sizes_by rows direction) (toward direction) (view.entries (direction / 2)) f)))) (fed view sees)
          ∙ sent_same direction _ _;
      cubes_are = λ view sees. (sent_leaves net view direction sent).0;
      hosts_are = parts.1;
      slots_are = λ view sees. (sent_leaves net view direction sent).4;
      piped_are = λ view sees. sent_piped net view direction sent;
      links_are = λ view sees on. same_entries rows own (called rows direction (λ d. LinkCall.send d feed) view.entries) (entries_after net.topology view (sent_by direction sent)) (stand rows view.entries sees.shows.links)
          (λ link. sent_entries net.topology view direction link feed _ _ (fed view sees) (sent_call rows direction feed view.entries _ _ refl refl)
          ∙ ap (λ (s : LinkSent). entries_after net.topology view (sent_by direction s) link) (sym (answer rows view.entries sees.shows.links)));
      there = parts.2;
      host = parts.3;
      sized = sized_links net own (sent_by direction sent) ready.sized;
      idle = λ cause is. ap (λ (l : List LinkHeld). with_parts net net.cubes net.hosts l (sent_by direction sent)) (idle (idle_sent direction sent cause is));
    })

pub may_send : (net : NetState) (direction : ℕ) (feed : Feed) → IsReady net → direction < directions_in net.topology → ((view : StepView) → Sees net view → IsFedBy net.topology view direction feed) → MaySend net.links direction feed
may_send net direction feed ready there fed = record {
  rows = net.topology.links;
  entries = ready.view.entries;
  stand = ready.sees.shows.links;
  fed = feed_fits net.topology ready.view direction feed ready.sees.laws there (fed ready.view ready.sees);
}

-- ---- land

pub land_does : (net now : NetState) (direction : ℕ) (mask : List ℕ) (landed : LinkOutcome) (between own : List LinkHeld) (piped : PipesHeld) → IsReady net → IsLandingIn net.topology direction (length mask)
    → ((rows : List LinkRow) (entries : ℕ → List LinkEntry) → LinksStandFor rows net.links entries → landed
    ≡ front_outcome (sizes_by rows direction) (toward direction) (entries (direction / 2)) mask (slice_get (line (sizes_by rows direction).profile (toward direction) (entries (direction / 2))) 0))
    → ((rows : List LinkRow) (entries : ℕ → List LinkEntry) → LinksStandFor rows net.links entries → outcome_passed landed ≡ false → LinksStandFor rows between (called rows direction (λ d. LinkCall.land d mask) entries))
    → (outcome_none landed ≡ true → between ≡ net.links)
    → ((rows : List LinkRow) (entries : ℕ → List LinkEntry) → LinksStandFor rows between entries → LinksStandFor rows own (taken_where (landing_goes_on net.piped direction landed) rows direction entries))
    → (landing_goes_on net.piped direction landed ≡ false → own ≡ between)
    → piped ≡ after_landing direction landed net.piped → AreCounted (directions_in net.topology) piped
    → ((view : StepView) → Sees net view → HoldsLanded net.topology view net.piped direction landed)
    → now ≡ record net { links = own; piped = piped; last = landed_by direction landed } → DoesStep net now (steps.Land direction mask)
unfolding choice
land_does net now direction mask landed between own piped ready there answer stand idle take stay piped_is counted holds now_is =
    let rows = net.topology.links in
    let parts = landed_leaves net ready.view direction landed in
    links_do net now own piped (landed_by direction landed) (steps.Land direction mask) ready.sized now_is (record {
      chosen = λ view sees. ap (landed_by direction) (answer rows view.entries sees.shows.links)
          ∙ landed_same direction (sizes_by rows direction) (toward direction) (view.entries (direction / 2)) mask _ refl;
      cubes_are = λ view. (landed_leaves net view direction landed).0;
      hosts_are = parts.1;
      slots_are = λ view. (landed_leaves net view direction landed).4;
      piped_are = λ view sees. piped_is ∙ landed_piped net view direction landed;
      links_are = λ view sees on.
          (let says = answer rows view.entries sees.shows.links in
          let fine : outcome_passed landed ≡ false = sym (passed_same direction landed) ∙ on in
          let came : (link : ℕ) → called rows direction (λ d. LinkCall.land d mask) view.entries link ≡ landed_on net.topology view (landed_by direction landed) link = λ link.
          landed_entries net.topology view direction link mask _ refl there.long
          (λ f at. (line-flit (sizes_by rows direction) (view.entries (direction / 2)) (toward direction) f (one_there rows net.links view.entries direction sees.shows.links there.some_direction).kept at).long)
          (sym (ap outcome_passed says) ∙ fine)
          ∙ ap (λ (l : LinkOutcome). landed_on net.topology view (landed_by direction l) link) (sym says) in
          same_entries rows own (taken_where (landing_goes_on net.piped direction landed) rows direction (landed_on net.topology view (landed_by direction landed))) (entries_after net.topology view (landed_by direction landed))
          (take rows (landed_on net.topology view (landed_by direction landed)) (same_entries rows between (called rows direction (λ d. LinkCall.land d mask) view.entries) (landed_on net.topology view (landed_by direction landed)) (stand rows view.entries sees.shows.links fine) came))
          (λ link. taken_calls rows direction link (landing_goes_on net.piped direction landed) (landed_on net.topology view (landed_by direction landed)) (holds view sees)
          ∙ taken_after net.topology view net.piped direction link landed (sees.shows.forwarded direction there.some_direction)));
      there = parts.2;
      host = parts.3;
      counted = counted;
      idle = λ cause is.
          (let none = idle_landed direction landed cause is in
          ap₂ (λ (l : List LinkHeld) (p : PipesHeld). record net { links = l; piped = p; last = landed_by direction landed }) (stay (none_goes net.piped direction landed none) ∙ idle none) (piped_is ∙ none_piped net.piped direction landed none));
    })

-- ---- unlock

pub unlock_does : (net now : NetState) (direction : ℕ) (own : List LinkHeld) (piped : PipesHeld) → IsReady net
    → ((rows : List LinkRow) (entries : ℕ → List LinkEntry) → LinksStandFor rows net.links entries → LinksStandFor rows own (called rows direction LinkCall.unlock entries))
    → piped ≡ after_loss direction net.piped → AreCounted (directions_in net.topology) piped
    → now ≡ record net { links = own; piped = piped; last = Unlocked direction } → DoesStep net now (steps.Unlock direction)
unfolding choice
unlock_does net now direction own piped ready stand piped_is counted now_is = links_do net now own piped (Unlocked direction) (steps.Unlock direction) ready.sized now_is (record {
  chosen = λ view sees. refl;
  cubes_are = λ view. refl;
  hosts_are = refl;
  slots_are = λ view. refl;
  piped_are = λ view sees. piped_is;
  links_are = λ view sees on. same_entries net.topology.links own (called net.topology.links direction LinkCall.unlock view.entries) (entries_after net.topology view (Unlocked direction)) (stand net.topology.links view.entries sees.shows.links)
      (λ link. called_puts net.topology.links direction link LinkCall.unlock (λ _. LinkEntry.unlocked) view.entries (unlocked_call (sizes_by net.topology.links direction) (view.entries (direction / 2)) (toward direction)));
  there = tt;
  host = tt;
  counted = counted;
  idle = λ cause is. absurd (cc);
})
