-- The step take.
use Rattle.std.proofs.Common.{◌≡◌, ◌<◌, ◌/◌, ◌∙◌, ℕ, Bool, false, Option, Some, None, List, length, refl, sym, ap, subst}
use Rattle.std.specs.Prelude.{slice_get, slice_index_or}
use Rattle.std.proofs.lemmas.List.{length-set}
use Rattle.hmc_codes.specs.declared.place.Place.{Place}
use Rattle.hmc_codes.specs.declared.place.Place.TheVariants as places
use Rattle.hmc_case.specs.declared.setup.LinkRow.{LinkRow}
use Rattle.hmc_host.specs.Host.{HostFields}
use Rattle.hmc_host.specs.Settle.{IsAwaited, settle_says, after_settle}
use Rattle.hmc_host.specs.declared.settled.Settled.{Settled}
use Rattle.hmc_host.specs.declared.settled.Settled.TheVariants as settles
use Rattle.hmc_packet.specs.Packet.{PacketFields}
use Rattle.hmc_send.specs.LinkCalls.{LinkCall}
use Rattle.hmc_send.specs.LinkEntries.{LinkEntry}
use Rattle.hmc_ends.specs.End.{EndFields}
use Rattle.hmc_serial.specs.Machine.{machine_of}
use Rattle.hmc_schedule.specs.declared.step.Step.{Step}
use Rattle.hmc_schedule.specs.declared.step.Step.TheVariants as steps
use Rattle.hmc_journal.specs.Answers.{took_entry}
use Rattle.hmc_entries.specs.declared.outcome.Cause.TheVariants as causes
use Rattle.hmc_entries.specs.declared.entry.Entry.{Entry}
use Rattle.hmc_entries.specs.declared.entry.Entry.TheVariants.{Took, Discarded, Idle}
use Rattle.hmc_journal.specs.Hosts.{host_of}
use Rattle.hmc_journal.specs.Links.{toward, direction_to}
use Rattle.hmc_journal.specs.Next.{choice, next}
use Rattle.hmc_journal.specs.QueueInvariant.{IsAnswerFor}
use Rattle.hmc_journal.specs.Queues.{QueueId, leaves, buffer_at}
use Rattle.hmc_journal.specs.Queues.QueueId.{Host}
use Rattle.hmc_journal.specs.Setup.{Topology, Setup, directions_in}
use Rattle.hmc_journal.specs.StepView.{view_of}
use Rattle.hmc_journal.proofs.Moves.{arrives}
use Rattle.hmc_kept.specs.After.{entries_after, pipes_after}
use Rattle.hmc_kept.specs.Hosts.{with_host, IsHostIn, host_in, no_host}
use Rattle.hmc_journal.proofs.DirectionEnds.{ends_at}
use Rattle.hmc_kept.proofs.Called.{called_puts}
use Rattle.hmc_kept.proofs.Fronts.{front_some, front_none, front_all, no_packet}
use Rattle.hmc_kept.proofs.Elements.{default_same}
use Rattle.hmc_kept.proofs.Linking.{taken_call}
use Rattle.hmc_kept.proofs.LawsShown.{direction_shown}
use Rattle.hmc_directions.specs.Ends.{EndsHold}
use Rattle.hmc_kept.specs.ByDirection.{IsFrontAt, IsArrival}
use Rattle.hmc_kept.specs.Called.{sizes_by, called}
use Rattle.hmc_check.specs.Inside.{inside_of}
use Rattle.hmc_kept.specs.InCubes.{IsCubeQueue}
use Rattle.hmc_check.specs.Kept.{moved, worked}
use Rattle.hmc_check.specs.Past.{PastFields, IsNextStep, TakesStep, IsNextOfSome}
use Rattle.hmc_check.proofs.Holding.{takes, idle_takes, ends_stay, law_of, same_hold}
use Rattle.hmc_check.proofs.Outer.{outer_queues}
use Rattle.hmc_kept.proofs.HostSteps.{took_hosts, took_entries}

-- ---- the front where a direction lands

pub front_at : (setup : Setup) (past : List Entry) (p : PastFields) (step : Step) (place : Place) (direction : ℕ) (found : Option PacketFields) → IsNextStep setup past p step → direction_to setup.topology place ≡ Some direction → IsFrontAt EndsHold p.ends direction found → slice_get ((view_of setup past).inside (buffer_at place)) 0 ≡ found
front_at setup past p step place direction found is to front_is =
    let at = ends_at setup.topology place direction to in
    let law = law_of setup past p is.holds in
    ap (λ (x : Place). slice_get ((view_of setup past).inside (buffer_at x)) 0) (sym at.ends)
    ∙ ap (λ (l : List PacketFields). slice_get l 0) (direction_shown setup past direction (law.queues.links direction at.there) (law.fed direction at.there)).buffer
    ∙ sym (front_is setup.topology.links (view_of setup past).entries (ends_stay setup past p step is))

pub none_arrived : (ends : List EndFields) (direction : ℕ) (arrived : Bool) → arrived ≡ false → IsArrival EndsHold ends direction arrived → IsFrontAt EndsHold ends direction None
none_arrived ends direction arrived none is = λ rows entries hold. no_packet arrived _ none (is rows entries hold)

own_to : (setup : Setup) (past : List Entry) (p : PastFields) (step : Step) (place : Place) (direction : ℕ) → IsNextStep setup past p step → direction_to p.topology place ≡ Some direction → direction_to setup.topology place ≡ Some direction
own_to setup past p step place direction is to = subst (λ (t : Topology). direction_to t place ≡ Some direction) is.holds.topology to

-- ---- hosts

-- a host that was read at its place
pub host_read : (hosts : List HostFields) (at host : ℕ) (h : HostFields) → at ≡ host → host < length hosts → h ≡ slice_index_or hosts at h → h ≡ host_in hosts host
host_read hosts at host h is less read = read ∙ ap (λ (n : ℕ). slice_index_or hosts n h) is ∙ default_same hosts host h no_host less

view_awaited : (setup : Setup) (past : List Entry) (p : PastFields) (step : Step) (host : ℕ) (front : PacketFields) → IsNextStep setup past p step → host < length p.hosts → slice_get ((view_of setup past).inside (Host host)) 0 ≡ Some front → front.poisoned ≡ false → IsAwaited (host_in p.hosts host) front
unfolding view_of
view_awaited setup past p step host front is there first good =
    subst (λ (h : HostFields). IsAwaited h front) (sym (is.holds.hosts host there))
    (front_all (IsAnswerFor (host_of setup past host)) _ front first ((law_of setup past p is.holds).awaited.hosts host) good)

pub awaited : (p : PastFields) (host direction : ℕ) (front : PacketFields) → IsNextOfSome p (steps.Take host) → host < length p.hosts → direction_to p.topology (places.Host host) ≡ Some direction → IsFrontAt EndsHold p.ends direction (Some front) → front.poisoned ≡ false → IsAwaited (host_in p.hosts host) front
awaited p host direction front some there to is good =
    view_awaited some.setup some.past p (steps.Take host) host front some.is there
    (front_at some.setup some.past p (steps.Take host) (places.Host host) direction (Some front) some.is (own_to some.setup some.past p (steps.Take host) (places.Host host) direction some.is to) is) good

-- ---- take

take_empty : (setup : Setup) (past : List Entry) (host : ℕ) → slice_get ((view_of setup past).inside (Host host)) 0 ≡ None → Idle (steps.Take host) causes.Empty ≡ next setup past (steps.Take host)
unfolding next choice
take_empty setup past host none = sym (front_none (steps.Take host) ((view_of setup past).inside (Host host)) (λ f. took_entry host (settle_says f)) none)

take_next : (setup : Setup) (past : List Entry) (host : ℕ) (front : PacketFields) → slice_get ((view_of setup past).inside (Host host)) 0 ≡ Some front → took_entry host (settle_says front) ≡ next setup past (steps.Take host)
unfolding next choice
take_next setup past host front first = sym (front_some (steps.Take host) ((view_of setup past).inside (Host host)) front (λ f. took_entry host (settle_says f)) first)

pub nothing_taken : (old new : PastFields) (host direction : ℕ) → direction_to old.topology (places.Host host) ≡ Some direction → IsFrontAt EndsHold old.ends direction None → new ≡ record old { last = Idle (steps.Take host) causes.Empty } → TakesStep old new (steps.Take host)
nothing_taken old new host direction to none now =
    idle_takes old new (steps.Take host) (steps.Take host) causes.Empty now
    (λ setup past is. take_empty setup past host (front_at setup past old (steps.Take host) (places.Host host) direction None is (own_to setup past old (steps.Take host) (places.Host host) direction is to) none))

took_stay : (setup : Setup) (past : List Entry) (old : PastFields) (host : ℕ) (settled : Settled) → host < length old.hosts → IsHostIn old.hosts (took_entry host settled) × (old.piped ≡ pipes_after setup.topology (view_of setup past) (took_entry host settled) old.piped) × (machine_of old.cubes old.slots ≡ worked (took_entry host settled) (machine_of old.cubes old.slots))
took_stay setup past old host settles.Discarded there = (tt, refl, refl)
took_stay setup past old host (settles.Took tag answer) there = (there, refl, refl)

took_queues : (setup : Setup) (past : List Entry) (host : ℕ) (settled : Settled) (inside : QueueId → List PacketFields) (q : QueueId) → IsCubeQueue q → inside q ≡ moved (leaves past (took_entry host settled)) (arrives setup.topology past (took_entry host settled)) inside q
took_queues setup past host settles.Discarded inside q inner = outer_queues setup.topology past (Discarded host) inside q tt inner
took_queues setup past host (settles.Took tag answer) inside q inner = outer_queues setup.topology past (Took host tag answer) inside q tt inner

pub take_takes : (old new : PastFields) (host direction : ℕ) (front : PacketFields) (settled : Settled) (ends : List EndFields) → host < length old.hosts → direction_to old.topology (places.Host host) ≡ Some direction → IsFrontAt EndsHold old.ends direction (Some front) → settled ≡ settle_says front
    → ((rows : List LinkRow) (entries : ℕ → List LinkEntry) → EndsHold rows old.ends entries → EndsHold rows ends (called rows direction LinkCall.take entries))
    → new ≡ record old { hosts = with_host host (after_settle settled) old.hosts; ends = ends; last = took_entry host settled } → TakesStep old new (steps.Take host)
take_takes old new host direction front settled ends there to front_is says hold now =
    subst (λ (p : PastFields). TakesStep old p (steps.Take host)) (sym now)
    (takes old _ (steps.Take host) (λ setup past is.
    let sized = is.holds.sized in
    let rows = setup.topology.links in
    let view = view_of setup past in
    let own = own_to setup past old (steps.Take host) (places.Host host) direction is to in
    let before = ends_stay setup past old (steps.Take host) is in
    let held = hold rows view.entries before in
    let stays = took_stay setup past old host settled there in
    record {
      entry = took_entry host settled;
      last = refl;
      is_next = ap (took_entry host) says ∙ take_next setup past host front (front_at setup past old (steps.Take host) (places.Host host) direction (Some front) is own front_is);
      after = record {
        topology = refl;
        queues = λ q inner. took_queues setup past host settled (inside_of old.queues) q inner;
        state = stays.2;
        hosts = took_hosts old.hosts host settled;
        host = stays.0;
        piped = stays.1;
        ends = λ on. same_hold rows ends (called rows direction LinkCall.take view.entries) (entries_after setup.topology view (took_entry host settled))
            (λ link. called_puts rows direction link LinkCall.take (λ n. LinkEntry.taken) view.entries
            (taken_call (sizes_by rows direction) (view.entries (direction / 2)) (toward direction) front (sym (front_is rows view.entries before)))
            ∙ took_entries setup.topology view host direction link settled own) held;
        sized = record {
          queues = sized.queues;
          fits = sized.fits;
          cubes = sized.cubes;
          hosts = length-set old.hosts host (after_settle settled (host_in old.hosts host)) ∙ sized.hosts;
          ends = subst (λ (t : Topology). length ends ≡ directions_in t) (sym is.holds.topology) held.count;
          piped = sized.piped;
        };
      };
    }) refl)
