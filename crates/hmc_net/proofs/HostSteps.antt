-- The steps of hosts.
use Rattle.std.proofs.Common.{◌≡◌, ◌<◌, ◌/◌, ◌∙◌, ℕ, Bool, false, not, Option, Some, None, List, length, refl, sym, ap, ap₂, subst, arith}
use Rattle.std.proofs.lemmas.List.{length-set, set-get_or}
use Rattle.hmc_codes.specs.Request.{RequestFields, IsRequest}
use Rattle.hmc_codes.specs.declared.place.Place.TheVariants as places
use Rattle.hmc_case.specs.declared.setup.LinkRow.{LinkRow}
use Rattle.hmc_packet.specs.Packet.{PacketFields}
use Rattle.hmc_packet.specs.Transactions.{request_packet}
use Rattle.hmc_host.specs.declared.given.Given.{Given}
use Rattle.hmc_host.specs.declared.given.Given.TheVariants as givens
use Rattle.hmc_host.specs.declared.given.Hindrance.{Hindrance}
use Rattle.hmc_host.specs.declared.settled.Settled.{Settled}
use Rattle.hmc_host.specs.declared.settled.Settled.TheVariants as settles
use Rattle.hmc_host.specs.Host.{HostFields}
use Rattle.hmc_host.specs.Give.{give_says, after_give, hindrance_of}
use Rattle.hmc_host.specs.Settle.{IsAwaited, settle_says, after_settle}
use Rattle.hmc_units.specs.Unit.{UnitFields}
use Rattle.hmc_cube.specs.Cube.{CubeFields}
use Rattle.hmc_link.specs.Held.{LinkHeld}
use Rattle.hmc_send.specs.LinkCalls.{LinkCall}
use Rattle.hmc_send.specs.LinkEntries.{LinkEntry}
use Rattle.hmc_schedule.specs.declared.step.Step.TheVariants as steps
use Rattle.hmc_entries.specs.declared.outcome.Cause.{Cause}
use Rattle.hmc_entries.specs.declared.outcome.Cause.TheVariants as causes
use Rattle.hmc_entries.specs.declared.entry.Entry.{Entry}
use Rattle.hmc_entries.specs.declared.entry.Entry.TheVariants.{Idle}
use Rattle.hmc_entries.specs.Event.{cause_of}
use Rattle.hmc_journal.specs.Links.{toward, put_on, direction_to}
use Rattle.hmc_journal.specs.Next.{choice, gave_entry, took_entry}
use Rattle.hmc_journal.specs.QueueInvariant.{IsAnswerFor}
use Rattle.hmc_journal.specs.Queues.{tag_number}
use Rattle.hmc_journal.specs.Queues.QueueId.{Host}
use Rattle.hmc_journal.specs.Setup.{hosts_in, direction_from, Topology}
use Rattle.hmc_journal.specs.StepView.{StepView}
use Rattle.hmc_net.specs.Apply.{cubes_after, DoesStep, IsEntryIn}
use Rattle.hmc_kept.specs.Hosts.{with_host, cause_by, host_in, no_host}
use Rattle.hmc_kept.specs.After.{slots_after, pipes_after, entries_after}
use Rattle.hmc_net.specs.Gives.{IsGiven, IsRequested, entries_given}
use Rattle.hmc_kept.specs.Pipes.{PipesHeld}
use Rattle.hmc_kept.specs.Called.{sizes_by, called}
use Rattle.hmc_links.specs.LinkList.{LinksStandFor, IsRoom, IsFrontAt, MayHand}
use Rattle.hmc_net.specs.NetState.{NetState}
use Rattle.hmc_net.specs.Sees.{Sees, IsSized, IsReady}
use Rattle.hmc_net.proofs.Doing.{with_parts, does_by, idle_does}
use Rattle.hmc_kept.proofs.Seen.{place_room, front_seen}
use Rattle.hmc_kept.proofs.Called.{called_puts}
use Rattle.hmc_kept.proofs.Fronts.{front_some, front_none, front_all}
use Rattle.hmc_links.proofs.LinkCalls.{same_entries}
use Rattle.hmc_kept.proofs.Linking.{handed_call, taken_call}
use Rattle.hmc_kept.proofs.HostSteps.{IsGivenBy, given_is, asked_taken, hindered_entry, gave_hosts, took_hosts, gave_host_in, took_host_in, took_busy, took_entries}

-- ---- what a host gives

-- a packet of a request may be handed where there is room
pub may_hand : (links : List LinkHeld) (direction : ℕ) (given : Given) (packet : PacketFields) (request : RequestFields) (tag : Option ℕ) (poisoned : Bool) → IsRequest request → IsGiven links direction given → given ≡ givens.Gave packet request tag poisoned → MayHand links direction packet
may_hand links direction given packet request tag poisoned is fit same =
    let here = subst (IsGiven links direction) same fit in
    record { rows = here.rows; entries = here.entries; stand = here.stand; room = here.room; fit = asked_taken (sizes_by here.rows direction).profile request packet (tag_number tag) here.host poisoned is here.same }

-- what a host's give leaves a link to do
pub given_fits : (net : NetState) (direction : ℕ) (room : Bool) (given : Given) (host : HostFields) → IsReady net → IsRoom net.links direction room → given ≡ give_says host room → IsGiven net.links direction given
given_fits net direction room given host ready is says = by_given given (given_is host room given says)
  where
    by_given : (given : Given) → IsGivenBy given room host.number → IsGiven net.links direction given
    by_given givens.Ended by = tt
    by_given givens.Fence by = tt
    by_given givens.Tags by = tt
    by_given givens.Full by = tt
    by_given (givens.Gave packet request tag poisoned) by = record {
      rows = net.topology.links;
      entries = ready.view.entries;
      stand = ready.sees.shows.links;
      room = sym (is net.topology.links ready.view.entries ready.sees.shows.links) ∙ by.0;
      host = host.number;
      same = by.1;
    }

-- ---- give

-- what the definition gives for a give
give_seen : (net : NetState) (view : StepView) (host direction : ℕ) (room : Bool) → Sees net view → host < length net.hosts → direction_from net.topology (places.Host host) ≡ Some direction → IsRoom net.links direction room
    → gave_entry host (give_says (host_in net.hosts host) room) ≡ choice net.topology view (steps.Give host)
unfolding choice
give_seen net view host direction room sees there from is =
    ap₂ (λ (h : HostFields) (r : Bool). gave_entry host (give_says h r)) (sees.shows.hosts host there) (place_room net.topology view (places.Host host) direction room sees.laws from (is net.topology.links view.entries sees.shows.links))

pub hindered_does : (net now : NetState) (host direction : ℕ) (room : Bool) (hindrance : Hindrance) (cause : Cause) → IsSized net → host < hosts_in net.topology → direction_from net.topology (places.Host host) ≡ Some direction → IsRoom net.links direction room
    → hindrance_of (give_says (host_in net.hosts host) room) ≡ Some hindrance → cause ≡ cause_by hindrance → now ≡ record net { last = Idle (steps.Give host) cause } → DoesStep net now (steps.Give host)
hindered_does net now host direction room hindrance cause sized there from is held cause_is same =
    let inside : host < length net.hosts = omega (arith, there, sized.hosts) in
    idle_does net now (steps.Give host) (steps.Give host) cause same sized
    (λ view sees. ap (Idle (steps.Give host)) cause_is ∙ sym (hindered_entry host (give_says (host_in net.hosts host) room) hindrance held) ∙ give_seen net view host direction room sees inside from is)

gave_links : (net : NetState) (view : StepView) (host direction : ℕ) (room : Bool) (given : Given) (links : List LinkHeld) → Sees net view → direction_from net.topology (places.Host host) ≡ Some direction → IsRoom net.links direction room → IsGivenBy given room host → IsRequested given
    → LinksStandFor net.topology.links links (entries_given net.topology.links direction given view.entries) → LinksStandFor net.topology.links links (entries_after net.topology view (gave_entry host given))
gave_links net view host direction room givens.Ended links sees from is by asks stand = stand
gave_links net view host direction room givens.Fence links sees from is by asks stand = stand
gave_links net view host direction room givens.Tags links sees from is by asks stand = stand
gave_links net view host direction room givens.Full links sees from is by asks stand = stand
gave_links net view host direction room (givens.Gave packet request tag poisoned) links sees from is by asks stand =
    same_entries net.topology.links links (called net.topology.links direction (λ d. LinkCall.hand d packet) view.entries) (entries_after net.topology view (gave_entry host (givens.Gave packet request tag poisoned))) stand
    (λ link. called_puts net.topology.links direction link (λ d. LinkCall.hand d packet) (λ _ d. LinkEntry.handed d packet) view.entries
    (handed_call (sizes_by net.topology.links direction) (view.entries (direction / 2)) (toward direction) packet (sym (is net.topology.links view.entries sees.shows.links) ∙ by.0)
    (ap not (asked_taken (sizes_by net.topology.links direction).profile request packet (tag_number tag) host poisoned asks by.1).token))
    ∙ ap (λ (p : PacketFields). put_on link (Some direction) (λ d. LinkEntry.handed d p) (view.entries link)) by.1
    ∙ ap (λ (d : Option ℕ). put_on link d (λ w. LinkEntry.handed w (request_packet request (tag_number tag) host poisoned)) (view.entries link)) (sym from))

gave_in : (cubes : List CubeFields) (host : ℕ) (given : Given) → IsEntryIn cubes (gave_entry host given)
gave_in cubes host givens.Ended = tt
gave_in cubes host givens.Fence = tt
gave_in cubes host givens.Tags = tt
gave_in cubes host givens.Full = tt
gave_in cubes host (givens.Gave packet request tag poisoned) = tt

gave_cubes : (view : StepView) (cubes : List CubeFields) (host : ℕ) (given : Given) → cubes ≡ cubes_after view (gave_entry host given) cubes
gave_cubes view cubes host givens.Ended = refl
gave_cubes view cubes host givens.Fence = refl
gave_cubes view cubes host givens.Tags = refl
gave_cubes view cubes host givens.Full = refl
gave_cubes view cubes host (givens.Gave packet request tag poisoned) = refl

gave_slots : (view : StepView) (slots : List (Option UnitFields)) (host : ℕ) (given : Given) → slots ≡ slots_after view (gave_entry host given) slots
gave_slots view slots host givens.Ended = refl
gave_slots view slots host givens.Fence = refl
gave_slots view slots host givens.Tags = refl
gave_slots view slots host givens.Full = refl
gave_slots view slots host (givens.Gave packet request tag poisoned) = refl

gave_piped : (topology : Topology) (view : StepView) (piped : PipesHeld) (host : ℕ) (given : Given) → piped ≡ pipes_after topology view (gave_entry host given) piped
gave_piped topology view piped host givens.Ended = refl
gave_piped topology view piped host givens.Fence = refl
gave_piped topology view piped host givens.Tags = refl
gave_piped topology view piped host givens.Full = refl
gave_piped topology view piped host (givens.Gave packet request tag poisoned) = refl

gave_idle : (hosts : List HostFields) (host : ℕ) (given : Given) (cause : Cause) → cause_of (gave_entry host given) ≡ Some cause → with_host host (after_give given) hosts ≡ hosts
gave_idle hosts host givens.Ended cause is = set-get_or hosts host no_host
gave_idle hosts host givens.Fence cause is = set-get_or hosts host no_host
gave_idle hosts host givens.Tags cause is = set-get_or hosts host no_host
gave_idle hosts host givens.Full cause is = set-get_or hosts host no_host
gave_idle hosts host (givens.Gave packet request tag poisoned) cause is = absurd (cc)

sized_host : (net : NetState) (host : ℕ) (changed : HostFields → HostFields) (links : List LinkHeld) (entry : Entry) → IsSized net → IsSized (with_parts net net.cubes (with_host host changed net.hosts) links entry)
sized_host net host changed links entry sized = record { cubes = sized.cubes; hosts = length-set net.hosts host (changed (host_in net.hosts host)) ∙ sized.hosts; fits = sized.fits; piped = sized.piped }

pub give_does : (net now : NetState) (host direction : ℕ) (room : Bool) (given : Given) (links : List LinkHeld) → IsReady net → host < hosts_in net.topology → direction_from net.topology (places.Host host) ≡ Some direction → IsRoom net.links direction room
    → given ≡ give_says (host_in net.hosts host) room → IsRequested given
    → ((rows : List LinkRow) (entries : ℕ → List LinkEntry) → LinksStandFor rows net.links entries → LinksStandFor rows links (entries_given rows direction given entries))
    → ((cause : Cause) → cause_of (gave_entry host given) ≡ Some cause → links ≡ net.links)
    → now ≡ with_parts net net.cubes (with_host host (after_give given) net.hosts) links (gave_entry host given) → DoesStep net now (steps.Give host)
give_does net now host direction room given links ready there from is says asks hand same now_is =
    let inside : host < length net.hosts = omega (arith, there, ready.sized.hosts) in
    let number : (host_in net.hosts host).number ≡ host = ap (λ (h : HostFields). h.number) (ready.sees.shows.hosts host inside) ∙ ready.sees.laws.numbers host in
    let by : IsGivenBy given room host = subst (IsGivenBy given room) number (given_is (host_in net.hosts host) room given says) in
    does_by net now net.cubes (with_host host (after_give given) net.hosts) net.slots links (gave_entry host given) (steps.Give host) now_is (record {
      chosen = λ view sees. ap (gave_entry host) says ∙ give_seen net view host direction room sees inside from is;
      cubes_are = λ view sees. gave_cubes view net.cubes host given;
      hosts_are = gave_hosts net.hosts host given;
      slots_are = λ view sees. gave_slots view net.slots host given;
      piped_are = λ view sees. gave_piped net.topology view net.piped host given;
      links_are = λ view sees on. gave_links net view host direction room given links sees from is by asks (hand net.topology.links view.entries sees.shows.links);
      there = gave_in net.cubes host given;
      host = gave_host_in net.hosts host given inside;
      sized = sized_host net host (after_give given) links (gave_entry host given) ready.sized;
      idle = λ cause idle. ap₂ (λ (l : List LinkHeld) (h : List HostFields). with_parts net net.cubes h l (gave_entry host given)) (same cause idle) (gave_idle net.hosts host given cause idle);
    })

-- ---- take

pub awaited_front : (net : NetState) (host direction : ℕ) (front : PacketFields) → IsReady net → host < hosts_in net.topology → direction_to net.topology (places.Host host) ≡ Some direction → IsFrontAt net.links direction (Some front) → front.poisoned ≡ false → IsAwaited (host_in net.hosts host) front
awaited_front net host direction front ready there to is good =
    let inside : host < length net.hosts = omega (arith, there, ready.sized.hosts) in
    subst (λ (h : HostFields). IsAwaited h front) (sym (ready.sees.shows.hosts host inside))
    (front_all (IsAnswerFor (ready.view.host host)) (ready.view.inside (Host host)) front (front_seen net.topology ready.view (places.Host host) direction (Some front) ready.sees.laws to (is net.topology.links ready.view.entries ready.sees.shows.links)) (ready.sees.laws.hosts host) good)

pub nothing_taken : (net now : NetState) (host direction : ℕ) → IsSized net → direction_to net.topology (places.Host host) ≡ Some direction → IsFrontAt net.links direction None → now ≡ record net { last = Idle (steps.Take host) causes.Empty } → DoesStep net now (steps.Take host)
unfolding choice
nothing_taken net now host direction sized to is same =
    idle_does net now (steps.Take host) (steps.Take host) causes.Empty same sized
    (λ view sees. sym (front_none (steps.Take host) (view.inside (Host host)) (λ f. took_entry host (settle_says f)) (front_seen net.topology view (places.Host host) direction None sees.laws to (is net.topology.links view.entries sees.shows.links))))

took_cubes : (view : StepView) (cubes : List CubeFields) (host : ℕ) (settled : Settled) → cubes ≡ cubes_after view (took_entry host settled) cubes
took_cubes view cubes host settles.Discarded = refl
took_cubes view cubes host (settles.Took tag answer) = refl

took_slots : (view : StepView) (slots : List (Option UnitFields)) (host : ℕ) (settled : Settled) → slots ≡ slots_after view (took_entry host settled) slots
took_slots view slots host settles.Discarded = refl
took_slots view slots host (settles.Took tag answer) = refl

took_piped : (topology : Topology) (view : StepView) (piped : PipesHeld) (host : ℕ) (settled : Settled) → piped ≡ pipes_after topology view (took_entry host settled) piped
took_piped topology view piped host settles.Discarded = refl
took_piped topology view piped host (settles.Took tag answer) = refl

took_in : (cubes : List CubeFields) (host : ℕ) (settled : Settled) → IsEntryIn cubes (took_entry host settled)
took_in cubes host settles.Discarded = tt
took_in cubes host (settles.Took tag answer) = tt

pub take_does : (net now : NetState) (host direction : ℕ) (front : PacketFields) (settled : Settled) (links : List LinkHeld) → IsReady net → host < hosts_in net.topology → direction_to net.topology (places.Host host) ≡ Some direction → IsFrontAt net.links direction (Some front)
    → settled ≡ settle_says front
    → ((rows : List LinkRow) (entries : ℕ → List LinkEntry) → LinksStandFor rows net.links entries → LinksStandFor rows links (called rows direction LinkCall.take entries))
    → now ≡ with_parts net net.cubes (with_host host (after_settle settled) net.hosts) links (took_entry host settled) → DoesStep net now (steps.Take host)
unfolding choice
take_does net now host direction front settled links ready there to is says take now_is =
    let inside : host < length net.hosts = omega (arith, there, ready.sized.hosts) in
    does_by net now net.cubes (with_host host (after_settle settled) net.hosts) net.slots links (took_entry host settled) (steps.Take host) now_is (record {
      chosen = λ view sees. ap (took_entry host) says ∙ sym (front_some (steps.Take host) (view.inside (Host host)) front (λ f. took_entry host (settle_says f)) (front_seen net.topology view (places.Host host) direction (Some front) sees.laws to (is net.topology.links view.entries sees.shows.links)));
      cubes_are = λ view sees. took_cubes view net.cubes host settled;
      hosts_are = took_hosts net.hosts host settled;
      slots_are = λ view sees. took_slots view net.slots host settled;
      piped_are = λ view sees. took_piped net.topology view net.piped host settled;
      links_are = λ view sees on. same_entries net.topology.links links (called net.topology.links direction LinkCall.take view.entries) (entries_after net.topology view (took_entry host settled)) (take net.topology.links view.entries sees.shows.links)
          (λ link. called_puts net.topology.links direction link LinkCall.take (λ _. LinkEntry.taken) view.entries
          (taken_call (sizes_by net.topology.links direction) (view.entries (direction / 2)) (toward direction) front (sym (is net.topology.links view.entries sees.shows.links)))
          ∙ took_entries net.topology view host direction link settled to);
      there = took_in net.cubes host settled;
      host = took_host_in net.hosts host settled inside;
      sized = sized_host net host (after_settle settled) links (took_entry host settled) ready.sized;
      idle = λ cause idle. absurd (took_busy host settled cause idle);
    })
