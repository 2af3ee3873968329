-- The room of the direction that starts at a place, and the step give.
use Rattle.std.proofs.Common.{◌≡◌, ◌<◌, ◌/◌, ◌∙◌, ◌⊎◌, inl, inr, ℕ, Bool, true, false, not, Option, Some, None, List, length, refl, sym, ap, ap₂, subst, arith}
use Rattle.std.proofs.lemmas.List.{length-set}
use Rattle.hmc_codes.specs.Request.{RequestFields, IsRequest}
use Rattle.hmc_codes.specs.declared.place.Place.{Place}
use Rattle.hmc_codes.specs.declared.place.Place.TheVariants as places
use Rattle.hmc_case.specs.declared.setup.LinkRow.{LinkRow}
use Rattle.hmc_packet.specs.Packet.{PacketFields}
use Rattle.hmc_packet.specs.Transactions.{request_packet}
use Rattle.hmc_host.specs.declared.given.Given.{Given}
use Rattle.hmc_host.specs.declared.given.Given.TheVariants as givens
use Rattle.hmc_host.specs.declared.given.Hindrance.{Hindrance}
use Rattle.hmc_host.specs.Host.{HostFields}
use Rattle.hmc_host.specs.Give.{give_says, after_give, hindrance_of}
use Rattle.hmc_ends.specs.End.{EndFields}
use Rattle.hmc_send.specs.LinkCalls.{LinkCall}
use Rattle.hmc_send.specs.LinkEntries.{LinkEntry}
use Rattle.hmc_schedule.specs.declared.step.Step.{Step}
use Rattle.hmc_schedule.specs.declared.step.Step.TheVariants as steps
use Rattle.hmc_journal.specs.Answers.{gave_entry}
use Rattle.hmc_entries.specs.declared.outcome.Cause.{Cause}
use Rattle.hmc_entries.specs.declared.entry.Entry.{Entry}
use Rattle.hmc_entries.specs.declared.entry.Entry.TheVariants.{Gave, Idle}
use Rattle.hmc_journal.specs.Hosts.{host_of}
use Rattle.hmc_journal.specs.Lawful.{has_passed}
use Rattle.hmc_journal.specs.Links.{toward, put_on}
use Rattle.hmc_journal.specs.Next.{choice, next}
use Rattle.hmc_journal.specs.Queues.{output_from, tag_number}
use Rattle.hmc_journal.specs.Setup.{Topology, Setup, directions_in, direction_from}
use Rattle.hmc_journal.specs.StepView.{view_of}
use Rattle.hmc_journal.specs.Waiting.{lacks_room}
use Rattle.hmc_kept.specs.After.{entries_after}
use Rattle.hmc_kept.specs.Hosts.{with_host, cause_by, host_in}
use Rattle.hmc_journal.proofs.DirectionEnds.{starts_there}
use Rattle.hmc_kept.proofs.Called.{called_puts}
use Rattle.hmc_kept.proofs.HostSteps.{asked_taken, IsGivenBy, given_is, hindered_entry}
use Rattle.hmc_kept.proofs.Linking.{handed_call}
use Rattle.hmc_directions.specs.Ends.{EndsHold, IsDirection}
use Rattle.hmc_kept.specs.ByDirection.{HasRoom, MayHand}
use Rattle.hmc_kept.specs.Called.{sizes_by, called}
use Rattle.hmc_check.specs.Inside.{inside_of}
use Rattle.hmc_check.specs.Past.{PastFields, Holds, IsNextStep, IsNextOfSome, TakesStep}
use Rattle.hmc_check.proofs.Holding.{takes, idle_takes, same_hold, laws_of}
use Rattle.hmc_check.proofs.Outer.{outer_queues}
use Rattle.hmc_kept.proofs.Seen.{place_room as room_seen}
use Rattle.hmc_kept.proofs.LawsShown.{number_is}

-- ---- the room of a direction

pub own_from : (setup : Setup) (past : List Entry) (p : PastFields) (place : Place) (direction : ℕ) → Holds setup past p → direction_from p.topology place ≡ Some direction → direction_from setup.topology place ≡ Some direction
own_from setup past p place direction holds from = subst (λ (t : Topology). direction_from t place ≡ Some direction) holds.topology from

pub view_hold : (setup : Setup) (past : List Entry) (p : PastFields) → Holds setup past p → has_passed past ≡ false → EndsHold setup.topology.links p.ends (view_of setup past).entries
unfolding view_of
view_hold setup past p holds on = holds.ends on

pub place_room : (setup : Setup) (past : List Entry) (p : PastFields) (place : Place) (direction : ℕ) (room : Bool) → Holds setup past p → has_passed past ≡ false → direction_from setup.topology place ≡ Some direction → HasRoom EndsHold p.ends direction room
    → room ≡ not (lacks_room setup.topology (view_of setup past) (output_from setup.topology place))
place_room setup past p place direction room holds on from is =
    room_seen setup.topology (view_of setup past) place direction room (laws_of setup past p holds) from (is setup.topology.links (view_of setup past).entries (view_hold setup past p holds on))

-- the direction that starts at a place is one of those that are kept
pub starts_in : (p : PastFields) (step : Step) (place : Place) (direction : ℕ) → IsNextOfSome p step → direction_from p.topology place ≡ Some direction → IsDirection p.ends direction
starts_in p step place direction some from = omega (arith, starts_there p.topology place direction from, some.is.holds.sized.ends)

-- ---- what a host gives

room_by : (given : Given) (room : Bool) (number : ℕ) → IsGivenBy given room number → hindrance_of given ≡ None → room ≡ true
room_by givens.Ended room number by none = absurd (cc)
room_by givens.Fence room number by none = absurd (cc)
room_by givens.Tags room number by none = absurd (cc)
room_by givens.Full room number by none = absurd (cc)
room_by (givens.Gave packet request tag poisoned) room number by none = by.0

-- where nothing hinders there is room
pub has_given_room : (host : HostFields) (room : Bool) → hindrance_of (give_says host room) ≡ None → room ≡ true
has_given_room host room none = room_by (give_says host room) room host.number (given_is host room (give_says host room) refl) none

-- what hinders is a cause
pub never_given : (given : Given) → (given ≡ givens.Ended) ⊎ ((given ≡ givens.Fence) ⊎ ((given ≡ givens.Tags) ⊎ (given ≡ givens.Full))) → hindrance_of given ≡ None → ⊥
never_given given (inl is) none = let clash = sym (ap hindrance_of is) ∙ none in absurd (cc)
never_given given (inr (inl is)) none = let clash = sym (ap hindrance_of is) ∙ none in absurd (cc)
never_given given (inr (inr (inl is))) none = let clash = sym (ap hindrance_of is) ∙ none in absurd (cc)
never_given given (inr (inr (inr is))) none = let clash = sym (ap hindrance_of is) ∙ none in absurd (cc)

host_shown : (setup : Setup) (past : List Entry) (host : ℕ) → (view_of setup past).host host ≡ host_of setup past host
unfolding view_of
host_shown setup past host = refl

-- ---- give

give_next : (setup : Setup) (past : List Entry) (p : PastFields) (host direction : ℕ) (room : Bool) → IsNextStep setup past p (steps.Give host) → host < length p.hosts → direction_from setup.topology (places.Host host) ≡ Some direction → HasRoom EndsHold p.ends direction room
    → gave_entry host (give_says (host_in p.hosts host) room) ≡ next setup past (steps.Give host)
unfolding next choice
give_next setup past p host direction room is there from room_is =
    ap₂ (λ (h : HostFields) (r : Bool). gave_entry host (give_says h r)) (is.holds.hosts host there ∙ sym (host_shown setup past host)) (place_room setup past p (places.Host host) direction room is.holds is.goes_on from room_is)

pub give_hindered : (old new : PastFields) (host direction : ℕ) (room : Bool) (hindrance : Hindrance) (cause : Cause) → host < length old.hosts → direction_from old.topology (places.Host host) ≡ Some direction → HasRoom EndsHold old.ends direction room
    → hindrance_of (give_says (host_in old.hosts host) room) ≡ Some hindrance → cause ≡ cause_by hindrance → new ≡ record old { last = Idle (steps.Give host) cause } → TakesStep old new (steps.Give host)
give_hindered old new host direction room hindrance cause there from room_is held cause_is now =
    idle_takes old new (steps.Give host) (steps.Give host) cause now
    (λ setup past is. ap (Idle (steps.Give host)) cause_is ∙ sym (hindered_entry host (give_says (host_in old.hosts host) room) hindrance held)
    ∙ give_next setup past old host direction room is there (own_from setup past old (places.Host host) direction is.holds from) room_is)

-- the packet of a request may be handed where there is room
pub give_may : (p : PastFields) (step : Step) (host direction : ℕ) (packet : PacketFields) (request : RequestFields) (tag : Option ℕ) (poisoned : Bool) → IsNextOfSome p step → HasRoom EndsHold p.ends direction true → IsRequest request → givens.Gave packet request tag poisoned ≡ give_says (host_in p.hosts host) true → MayHand EndsHold p.ends direction packet
give_may p step host direction packet request tag poisoned some room asks is =
    let setup = some.setup in
    let past = some.past in
    let hold = view_hold setup past p some.is.holds some.is.goes_on in
    record {
      rows = setup.topology.links;
      entries = (view_of setup past).entries;
      stand = hold;
      room = sym (room setup.topology.links (view_of setup past).entries hold);
      fit = asked_taken (sizes_by setup.topology.links direction).profile request packet (tag_number tag) (host_in p.hosts host).number poisoned asks (given_is (host_in p.hosts host) true (givens.Gave packet request tag poisoned) is).1;
    }

pub give_takes : (old new : PastFields) (host direction : ℕ) (packet : PacketFields) (request : RequestFields) (tag : Option ℕ) (poisoned : Bool) (ends : List EndFields) → host < length old.hosts → direction_from old.topology (places.Host host) ≡ Some direction → HasRoom EndsHold old.ends direction true
    → IsRequest request → givens.Gave packet request tag poisoned ≡ give_says (host_in old.hosts host) true
    → ((rows : List LinkRow) (entries : ℕ → List LinkEntry) → EndsHold rows old.ends entries → EndsHold rows ends (called rows direction (λ d. LinkCall.hand d packet) entries))
    → new ≡ record old { hosts = with_host host (after_give (givens.Gave packet request tag poisoned)) old.hosts; ends = ends; last = Gave host tag poisoned request } → TakesStep old new (steps.Give host)
give_takes old new host direction packet request tag poisoned ends there from room_is asks is_given hold now =
    subst (λ (p : PastFields). TakesStep old p (steps.Give host)) (sym now)
    (takes old _ (steps.Give host) (λ setup past is.
    let sized = is.holds.sized in
    let rows = setup.topology.links in
    let view = view_of setup past in
    let own = own_from setup past old (places.Host host) direction is.holds from in
    let before = view_hold setup past old is.holds is.goes_on in
    let held = hold rows view.entries before in
    let number : (host_in old.hosts host).number ≡ host = ap (λ (h : HostFields). h.number) (is.holds.hosts host there) ∙ number_is setup past host in
    let packet_is : packet ≡ request_packet request (tag_number tag) host poisoned =
    (given_is (host_in old.hosts host) true (givens.Gave packet request tag poisoned) is_given).1 ∙ ap (λ (n : ℕ). request_packet request (tag_number tag) n poisoned) number in
    let fit = asked_taken (sizes_by rows direction).profile request packet (tag_number tag) host poisoned asks packet_is in
    record {
      entry = Gave host tag poisoned request;
      last = refl;
      is_next = ap (gave_entry host) is_given ∙ give_next setup past old host direction true is there own room_is;
      after = record {
        topology = refl;
        queues = λ q inner. outer_queues setup.topology past (Gave host tag poisoned request) (inside_of old.queues) q tt inner;
        state = refl;
        hosts = refl;
        host = there;
        piped = refl;
        ends = λ on. same_hold rows ends (called rows direction (λ d. LinkCall.hand d packet) view.entries) (entries_after setup.topology view (Gave host tag poisoned request))
            (λ link. called_puts rows direction link (λ d. LinkCall.hand d packet) (λ n d. LinkEntry.handed d packet) view.entries
            (handed_call (sizes_by rows direction) (view.entries (direction / 2)) (toward direction) packet (sym (room_is rows view.entries before)) (ap not fit.token))
            ∙ ap (λ (x : PacketFields). put_on link (Some direction) (λ d. LinkEntry.handed d x) (view.entries link)) packet_is
            ∙ ap (λ (d : Option ℕ). put_on link d (λ w. LinkEntry.handed w (request_packet request (tag_number tag) host poisoned)) (view.entries link)) (sym own)) held;
        sized = record {
          queues = sized.queues;
          fits = sized.fits;
          cubes = sized.cubes;
          hosts = length-set old.hosts host (after_give (givens.Gave packet request tag poisoned) (host_in old.hosts host)) ∙ sized.hosts;
          ends = subst (λ (t : Topology). length ends ≡ directions_in t) (sym is.holds.topology) held.count;
          piped = sized.piped;
        };
      };
    }) refl)
