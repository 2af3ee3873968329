-- The steps send and unlock.
use Rattle.std.proofs.Common.{◌≡◌, ◌<◌, ◌/◌, ◌∙◌, ℕ, Option, Some, None, List, length, refl, sym, ap, subst}
use Rattle.hmc_case.specs.declared.setup.LinkRow.{LinkRow}
use Rattle.hmc_packet.specs.declared.feed.Feed.{Feed}
use Rattle.hmc_send.specs.Choice.{choice as send_choice}
use Rattle.hmc_send.specs.LinkCalls.{LinkCall, is_full, view_in}
use Rattle.hmc_send.specs.LinkEntries.{LinkEntry}
use Rattle.hmc_ends.specs.Answers.{link_sent}
use Rattle.hmc_ends.specs.declared.link_sent.LinkSent.{LinkSent}
use Rattle.hmc_ends.specs.declared.link_sent.LinkSent.TheVariants as sends
use Rattle.hmc_ends.specs.End.{EndFields}
use Rattle.hmc_schedule.specs.declared.step.Step.{Step}
use Rattle.hmc_schedule.specs.declared.step.Step.TheVariants as steps
use Rattle.hmc_entries.specs.declared.outcome.Cause.TheVariants as causes
use Rattle.hmc_entries.specs.declared.entry.Entry.{Entry}
use Rattle.hmc_entries.specs.declared.entry.Entry.TheVariants.{Sent, Unlocked}
use Rattle.hmc_journal.specs.Links.{toward, link_entries}
use Rattle.hmc_journal.specs.Next.{choice, next}
use Rattle.hmc_journal.specs.Setup.{Topology, Setup, directions_in}
use Rattle.hmc_journal.specs.StepView.{view_of}
use Rattle.hmc_kept.specs.After.{entries_after, pipes_after}
use Rattle.hmc_kept.specs.Hosts.{hosts_after, IsHostIn}
use Rattle.hmc_kept.proofs.Called.{called_puts, sent_call}
use Rattle.std.proofs.lemmas.List.{length-set}
use Rattle.hmc_through.specs.Pipe.{PipeFields}
use Rattle.hmc_journal.specs.Piped.{fed}
use Rattle.hmc_kept.specs.Pipes.{PipesHeld, AreCounted, AreGathering, forwarded_at, pipe_at, after_change, after_loss, IsPlace}
use Rattle.hmc_kept.proofs.Linking.{unlocked_call}
use Rattle.hmc_directions.specs.Ends.{EndsHold, HoldSome}
use Rattle.hmc_kept.specs.ByDirection.{IsThroughAt, MaySend}
use Rattle.hmc_kept.specs.Called.{sizes_by, called}
use Rattle.hmc_check.specs.Inside.{inside_of}
use Rattle.hmc_kept.specs.InCubes.{IsCubeQueue}
use Rattle.hmc_check.specs.Kept.{moved, worked}
use Rattle.hmc_check.specs.Past.{PastFields, IsNextStep, TakesStep, IsNextOfSome}
use Rattle.hmc_check.proofs.Holding.{takes, ends_stay, same_hold, idle_queues, laws_of, pipes_of}
use Rattle.hmc_check.proofs.Outer.{outer_queues}
use Rattle.hmc_send.specs.LinkCalls as calls
use Rattle.hmc_journal.specs.Queues.{QueueId, leaves}
use Rattle.hmc_journal.proofs.Moves.{arrives}
use Rattle.hmc_serial.specs.Machine.{machine_of}
use Rattle.hmc_packet.specs.Packet.{PacketFields}
use Rattle.hmc_kept.specs.LinkAnswers.{sent_by}
use Rattle.hmc_kept.proofs.Sending.{IsFedBy, sent_entries, sent_same, feed_seen, place_seen, feed_fits}
use Rattle.hmc_kept.proofs.Forwarded.{are_gathering}

-- ---- conditions of the calls

pub hold_some : (p : PastFields) (step : Step) → IsNextOfSome p step → HoldSome p.ends
hold_some p step some = record { rows = some.setup.topology.links; entries = λ link. link_entries some.setup.topology link some.past; hold = some.is.holds.ends some.is.goes_on }

pub gathering : (p : PastFields) (step : Step) (direction : ℕ) → IsNextOfSome p step → direction < directions_in p.topology → AreGathering p.piped direction
gathering p step direction some there =
    let holds = some.is.holds in
    are_gathering some.setup.topology (view_of some.setup some.past) p.piped direction (laws_of some.setup some.past p holds) (pipes_of some.setup some.past p holds)
    (subst (λ (t : Topology). direction < directions_in t) holds.topology there)

counted_change : (n : ℕ) (held : PipesHeld) (found : Option ℕ) (goes_on : Option ℕ → Option ℕ) (changed : PipeFields → PipeFields) (direction : ℕ) → AreCounted n held → AreCounted n (after_change found goes_on changed direction held)
counted_change n held None goes_on changed direction are = are
counted_change n held (Some onto) goes_on changed direction are = record {
  forwarded = length-set held.forwarded direction (goes_on (Some onto)) ∙ are.forwarded;
  pipes = length-set held.pipes onto _ ∙ are.pipes;
}

-- ---- unlock

unlock_next : (setup : Setup) (past : List Entry) (direction : ℕ) → Unlocked direction ≡ next setup past (steps.Unlock direction)
unfolding next choice
unlock_next setup past direction = refl

unlock_entries : (setup : Setup) (past : List Entry) (direction link : ℕ) → called setup.topology.links direction LinkCall.unlock (view_of setup past).entries link ≡ entries_after setup.topology (view_of setup past) (Unlocked direction) link
unlock_entries setup past direction link =
    called_puts setup.topology.links direction link LinkCall.unlock (λ n d. LinkEntry.unlocked d) (view_of setup past).entries
    (unlocked_call (sizes_by setup.topology.links direction) ((view_of setup past).entries (direction / 2)) (toward direction))

pub unlock_takes : (old new : PastFields) (direction : ℕ) (ends : List EndFields) → ((rows : List LinkRow) (entries : ℕ → List LinkEntry) → EndsHold rows old.ends entries → EndsHold rows ends (called rows direction LinkCall.unlock entries))
    → new ≡ record old { ends = ends; piped = after_loss direction old.piped; last = Unlocked direction } → TakesStep old new (steps.Unlock direction)
unlock_takes old new direction ends hold now =
    subst (λ (p : PastFields). TakesStep old p (steps.Unlock direction)) (sym now)
    (takes old _ (steps.Unlock direction) (λ setup past is.
    let sized = is.holds.sized in
    let held = hold setup.topology.links (view_of setup past).entries (ends_stay setup past old (steps.Unlock direction) is) in
    record {
      entry = Unlocked direction;
      last = refl;
      is_next = unlock_next setup past direction;
      after = record {
        topology = refl;
        queues = λ q inner. outer_queues setup.topology past (Unlocked direction) (inside_of old.queues) q tt inner;
        state = refl;
        hosts = refl;
        host = tt;
        piped = refl;
        ends = λ on. same_hold setup.topology.links ends (called setup.topology.links direction LinkCall.unlock (view_of setup past).entries) (entries_after setup.topology (view_of setup past) (Unlocked direction)) (unlock_entries setup past direction) held;
        sized = record {
          queues = sized.queues;
          fits = sized.fits;
          cubes = sized.cubes;
          hosts = sized.hosts;
          ends = subst (λ (t : Topology). length ends ≡ directions_in t) (sym is.holds.topology) held.count;
          piped = counted_change (directions_in old.topology) old.piped (forwarded_at old.piped direction) _ _ direction sized.piped;
        };
      };
    }) refl)

-- ---- send

pub inside_is : (p : PastFields) (step : Step) (direction : ℕ) (setup : Setup) (past : List Entry) → IsNextStep setup past p step → direction < directions_in p.topology → direction < directions_in setup.topology
inside_is p step direction setup past is there = subst (λ (t : Topology). direction < directions_in t) is.holds.topology there

fed_seen : (setup : Setup) (past : List Entry) (p : PastFields) (step : Step) (direction : ℕ) (place : Option ℕ) (feed : Feed) → IsNextStep setup past p step → direction < directions_in setup.topology → IsThroughAt EndsHold p.ends direction place → feed ≡ fed place (pipe_at p.piped direction) → IsFedBy setup.topology (view_of setup past) direction feed
fed_seen setup past p step direction place feed is there at fed_is =
    let pipe = (pipes_of setup past p is.holds).pipes direction there in
    feed_seen setup.topology (view_of setup past) p.piped direction place feed pipe (at setup.topology.links (view_of setup past).entries (ends_stay setup past p step is)) fed_is

pub place_there : (p : PastFields) (step : Step) (direction : ℕ) (place : Option ℕ) → IsNextOfSome p step → direction < directions_in p.topology → IsThroughAt EndsHold p.ends direction place → IsPlace (pipe_at p.piped direction) place
place_there p step direction place some there at =
    let setup = some.setup in
    let past = some.past in
    let holds = some.is.holds in
    let inside = inside_is p step direction setup past some.is there in
    let pipe = (pipes_of setup past p holds).pipes direction inside in
    place_seen setup.topology (view_of setup past) p.piped direction place (laws_of setup past p holds) inside pipe (at setup.topology.links (view_of setup past).entries (ends_stay setup past p step some.is))

pub may_send : (p : PastFields) (step : Step) (direction : ℕ) (place : Option ℕ) (feed : Feed) → IsNextOfSome p step → direction < directions_in p.topology → IsThroughAt EndsHold p.ends direction place → feed ≡ fed place (pipe_at p.piped direction) → MaySend EndsHold p.ends direction feed
may_send p step direction place feed some there at fed_is =
    let setup = some.setup in
    let past = some.past in
    let inside = inside_is p step direction setup past some.is there in
    record {
      rows = setup.topology.links;
      entries = (view_of setup past).entries;
      stand = ends_stay setup past p step some.is;
      fed = feed_fits setup.topology (view_of setup past) direction feed (laws_of setup past p some.is.holds) inside (fed_seen setup past p step direction place feed some.is inside at fed_is);
    }

-- the other parts stay
sent_queues : (setup : Setup) (past : List Entry) (direction : ℕ) (sent : LinkSent) (inside : QueueId → List PacketFields) (q : QueueId) → IsCubeQueue q → inside q ≡ moved (leaves past (sent_by direction sent)) (arrives setup.topology past (sent_by direction sent)) inside q
sent_queues setup past direction sends.Full inside q inner = idle_queues setup past (steps.Send direction) causes.Full inside q
sent_queues setup past direction sends.Starved inside q inner = idle_queues setup past (steps.Send direction) causes.Starved inside q
sent_queues setup past direction (sends.Out flit what) inside q inner = outer_queues setup.topology past (Sent direction what flit) inside q tt inner

sent_stay : (direction : ℕ) (sent : LinkSent) (setup : Setup) (past : List Entry) (old : PastFields) → (old.hosts ≡ hosts_after (sent_by direction sent) old.hosts) × IsHostIn old.hosts (sent_by direction sent) × (old.piped ≡ pipes_after setup.topology (view_of setup past) (sent_by direction sent) old.piped) × (machine_of old.cubes old.slots ≡ worked (sent_by direction sent) (machine_of old.cubes old.slots))
sent_stay direction sends.Full setup past old = (refl, tt, refl, refl)
sent_stay direction sends.Starved setup past old = (refl, tt, refl, refl)
sent_stay direction (sends.Out flit what) setup past old = (refl, tt, refl, refl)

send_next : (setup : Setup) (past : List Entry) (direction : ℕ) (feed : Feed) (sent : LinkSent) → IsFedBy setup.topology (view_of setup past) direction feed
    → sent ≡ link_sent (is_full (sizes_by setup.topology.links direction) (toward direction) ((view_of setup past).entries (direction / 2))) (send_choice (sizes_by setup.topology.links direction).profile (view_in (sizes_by setup.topology.links direction) (toward direction) ((view_of setup past).entries (direction / 2)) feed))
    → sent_by direction sent ≡ next setup past (steps.Send direction)
unfolding next choice
send_next setup past direction feed sent fed_is answer =
    let view = view_of setup past in
    let sizes = sizes_by setup.topology.links direction in
    ap (sent_by direction) answer
    ∙ ap (λ (f : Feed). sent_by direction (link_sent (is_full sizes (toward direction) (view.entries (direction / 2))) (send_choice sizes.profile (view_in sizes (toward direction) (view.entries (direction / 2)) f)))) fed_is
    ∙ sent_same direction (is_full sizes (toward direction) (view.entries (direction / 2))) _

pub send_takes : (old new : PastFields) (direction : ℕ) (place : Option ℕ) (feed : Feed) (sent : LinkSent) (ends : List EndFields) → direction < directions_in old.topology → IsThroughAt EndsHold old.ends direction place → feed ≡ fed place (pipe_at old.piped direction)
    → ((rows : List LinkRow) (entries : ℕ → List LinkEntry) → EndsHold rows old.ends entries → sent ≡ link_sent (is_full (sizes_by rows direction) (toward direction) (entries (direction / 2))) (send_choice (sizes_by rows direction).profile (view_in (sizes_by rows direction) (toward direction) (entries (direction / 2)) feed)))
    → ((rows : List LinkRow) (entries : ℕ → List LinkEntry) → EndsHold rows old.ends entries → EndsHold rows ends (called rows direction (λ d. LinkCall.send d feed) entries))
    → new ≡ record old { ends = ends; last = sent_by direction sent } → TakesStep old new (steps.Send direction)
send_takes old new direction place feed sent ends there at fed_is answer hold now =
    subst (λ (p : PastFields). TakesStep old p (steps.Send direction)) (sym now)
    (takes old _ (steps.Send direction) (λ setup past is.
    let sized = is.holds.sized in
    let rows = setup.topology.links in
    let view = view_of setup past in
    let before = ends_stay setup past old (steps.Send direction) is in
    let held = hold rows view.entries before in
    let feeds = fed_seen setup past old (steps.Send direction) direction place feed is (inside_is old (steps.Send direction) direction setup past is there) at fed_is in
    let stays = sent_stay direction sent setup past old in
    record {
      entry = sent_by direction sent;
      last = refl;
      is_next = send_next setup past direction feed sent feeds (answer rows view.entries before);
      after = record {
        topology = refl;
        queues = λ q inner. sent_queues setup past direction sent (inside_of old.queues) q inner;
        state = stays.3;
        hosts = stays.0;
        host = stays.1;
        piped = stays.2;
        ends = λ on. same_hold rows ends (called rows direction (λ d. LinkCall.send d feed) view.entries) (entries_after setup.topology view (sent_by direction sent))
            (λ link. sent_entries setup.topology view direction link feed _ _ feeds (sent_call rows direction feed view.entries _ _ refl refl) ∙ ap (λ (s : LinkSent). entries_after setup.topology view (sent_by direction s) link) (sym (answer rows view.entries before))) held;
        sized = record {
          queues = sized.queues;
          fits = sized.fits;
          cubes = sized.cubes;
          hosts = sized.hosts;
          ends = subst (λ (t : Topology). length ends ≡ directions_in t) (sym is.holds.topology) held.count;
          piped = sized.piped;
        };
      };
    }) refl)
