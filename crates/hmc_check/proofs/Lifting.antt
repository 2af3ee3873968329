-- The way out of a cube, and the step lift.
use Rattle.std.proofs.Common.{◌≡◌, ◌<◌, ◌/◌, ◌∙◌, ℕ, Bool, true, false, not, Option, Some, None, List, ◌++◌, length, drop, refl, sym, ap, ap₂, subst, append-nil}
use Rattle.std.specs.Prelude.{slice_get}
use Rattle.hmc_codes.specs.declared.lift.Lift.{Lift}
use Rattle.hmc_codes.specs.declared.lift.Lift.TheVariants as lifts
use Rattle.hmc_codes.specs.declared.place.Place.TheVariants as places
use Rattle.hmc_case.specs.declared.setup.LinkRow.{LinkRow}
use Rattle.hmc_packet.specs.Packet.{PacketFields}
use Rattle.hmc_ends.specs.End.{EndFields}
use Rattle.hmc_send.specs.LinkCalls.{LinkCall, has_room}
use Rattle.hmc_send.specs.LinkEntries.{LinkEntry}
use Rattle.hmc_schedule.specs.declared.step.Step.TheVariants as steps
use Rattle.hmc_journal.specs.CubeSteps.{lifted_entry}
use Rattle.hmc_entries.specs.declared.outcome.Cause.TheVariants as causes
use Rattle.hmc_entries.specs.declared.entry.Entry.{Entry}
use Rattle.hmc_entries.specs.declared.entry.Entry.TheVariants.{Lifted, Idle}
use Rattle.hmc_journal.specs.Lawful.{has_passed}
use Rattle.hmc_journal.specs.Links.{toward, put_on}
use Rattle.hmc_journal.specs.Next.{choice, next}
use Rattle.hmc_journal.specs.QueueInvariant.{IsHostAnswer}
use Rattle.hmc_journal.specs.Queues.{QueueId, same_queue, leaves, enters, contents, output_from, front_of, QueueId as ids}
use Rattle.hmc_journal.specs.Routes.{port_towards}
use Rattle.hmc_journal.specs.Setup.{Topology, Setup, hosts_in, directions_in, direction_from}
use Rattle.hmc_journal.specs.StepView.{view_of}
use Rattle.hmc_journal.specs.Waiting.{lacks_room, unless_full}
use Rattle.hmc_journal.proofs.Moves.{arrives, arrived_off, output_off}
use Rattle.hmc_kept.proofs.InCubes.{outside}
use Rattle.hmc_kept.specs.After.{entries_after}
use Rattle.hmc_wiring.specs.Ready.{IsLiftIn}
use Rattle.hmc_kept.proofs.Called.{called_puts}
use Rattle.hmc_kept.proofs.Fronts.{front_some, front_none, front_all}
use Rattle.hmc_journal.proofs.Packets.{front_is_first}
use Rattle.hmc_kept.proofs.Linking.{handed_call}
use Rattle.hmc_queues.specs.declared.queue_name.QueueName.TheVariants as names
use Rattle.hmc_queues.specs.Queues.{IsQueue, packets_at, with_packets}
use Rattle.hmc_directions.specs.Ends.{EndsHold}
use Rattle.hmc_kept.specs.ByDirection.{HasRoom, MayHand}
use Rattle.hmc_kept.specs.Called.{sizes_by, called}
use Rattle.hmc_check.specs.Inside.{inside_of}
use Rattle.hmc_kept.specs.InCubes.{IsCubeQueue, without_front}
use Rattle.hmc_check.specs.Kept.{moved}
use Rattle.hmc_check.specs.Moving.{Seen, IsWayOut}
use Rattle.hmc_units.specs.Unit.{UnitFields}
use Rattle.hmc_check.specs.Past.{PastFields, PastParts, past_of, IsSized, Holds, IsNextOfSome, TakesStep}
use Rattle.hmc_check.proofs.Holding.{takes, idle_takes, law_of, same_hold, laws_of}
use Rattle.hmc_check.proofs.Outgoing.{own_from, view_hold, place_room}
use Rattle.hmc_check.proofs.QueuesLaw.{popped}
use Rattle.hmc_check.proofs.Spreading.{cube_there, vault_queue, is_open, moved_fits}
use Rattle.hmc_kept.proofs.Ways.{lacks_by, answer_taken}
use Rattle.hmc_kept.proofs.Seen.{place_has_room}

-- ---- the way out of a cube

-- whether the direction that starts at a port has room
pub way_seen : (p : PastFields) (cube port direction : ℕ) (room : Bool) → direction_from p.topology (places.Port cube port) ≡ Some direction → HasRoom EndsHold p.ends direction room
    → Seen p (λ view. lacks_room p.topology view (output_from p.topology (places.Port cube port)) ≡ not room)
way_seen p cube port direction room from is = λ setup past holds on.
    subst (λ (t : Topology). lacks_room t (view_of setup past) (output_from t (places.Port cube port)) ≡ not room) (sym holds.topology)
    (lacks_by room _ (place_room setup past p (places.Port cube port) direction room holds on (own_from setup past p (places.Port cube port) direction holds from) is))

pub way_some : (p : PastFields) (cube port direction : ℕ) → direction_from p.topology (places.Port cube port) ≡ Some direction → HasRoom EndsHold p.ends direction true → IsWayOut p cube port (Some direction)
way_some p cube port direction from is = record {
  room = way_seen p cube port direction true from is;
  from = λ other same. from ∙ same;
}

pub way_none : (p : PastFields) (cube port direction : ℕ) → direction_from p.topology (places.Port cube port) ≡ Some direction → HasRoom EndsHold p.ends direction false → IsWayOut p cube port None
way_none p cube port direction from is = record {
  room = way_seen p cube port direction false from is;
  from = λ other same. absurd (cc);
}

-- the same by the case
pub way_lacks : (setup : Setup) (past : List Entry) (p : PastFields) (cube port : ℕ) (found : Option ℕ) (lacks : Bool) → Holds setup past p → Seen p (λ view. lacks_room p.topology view (output_from p.topology (places.Port cube port)) ≡ lacks) → has_passed past ≡ false
    → lacks_room setup.topology (view_of setup past) (output_from setup.topology (places.Port cube port)) ≡ lacks
way_lacks setup past p cube port found lacks holds seen on =
    subst (λ (t : Topology). lacks_room t (view_of setup past) (output_from t (places.Port cube port)) ≡ lacks) holds.topology (seen setup past holds on)

-- where there is a way out its direction has room
pub way_room : (setup : Setup) (past : List Entry) (p : PastFields) (cube port direction : ℕ) → Holds setup past p → has_passed past ≡ false → IsWayOut p cube port (Some direction)
    → has_room (sizes_by setup.topology.links direction) (toward direction) ((view_of setup past).entries (direction / 2)) ≡ true
way_room setup past p cube port direction holds on way =
    place_has_room setup.topology (view_of setup past) (places.Port cube port) direction (laws_of setup past p holds) (own_from setup past p (places.Port cube port) direction holds (way.from direction refl))
    ∙ ap not (way_lacks setup past p cube port (Some direction) false holds way.room on)

-- ---- queues of answers

pub answers_queue : (p : PastFields) (cube : ℕ) (from : Lift) → IsSized p → IsLiftIn p.topology cube from → IsQueue p.queues cube (names.Answers from)
answers_queue p cube (lifts.Vault vault) sized there =
    let room = vault_queue p cube vault sized (record { some_cube = there.some_cube; some_vault = there.some_lift }) in record { some_cube = room.some_cube; there = room.there }
answers_queue p cube lifts.Registers sized there = record { some_cube = cube_there p cube sized there.some_cube; there = refl }

answers_first : (setup : Setup) (past : List Entry) (p : PastFields) (cube : ℕ) (from : Lift) (found : Option PacketFields) → Holds setup past p → slice_get (packets_at p.queues cube (names.Answers from)) 0 ≡ found → slice_get (contents setup.topology past (ids.Answers cube from)) 0 ≡ found
answers_first setup past p cube from found holds first = ap (λ (l : List PacketFields). slice_get l 0) (sym (holds.inner.queues (ids.Answers cube from) tt)) ∙ first

answers_view : (setup : Setup) (past : List Entry) (p : PastFields) (cube : ℕ) (from : Lift) (found : Option PacketFields) → Holds setup past p → slice_get (packets_at p.queues cube (names.Answers from)) 0 ≡ found → slice_get ((view_of setup past).inside (ids.Answers cube from)) 0 ≡ found
unfolding view_of
answers_view setup past p cube from found holds first = answers_first setup past p cube from found holds first

lift_answer : (setup : Setup) (past : List Entry) (p : PastFields) (cube : ℕ) (from : Lift) (front : PacketFields) → Holds setup past p → slice_get (packets_at p.queues cube (names.Answers from)) 0 ≡ Some front → IsHostAnswer setup.topology front
lift_answer setup past p cube from front holds first =
    front_all (IsHostAnswer setup.topology) (contents setup.topology past (ids.Answers cube from)) front (answers_first setup past p cube from (Some front) holds first) ((law_of setup past p holds).queues.answers cube from)

pub lift_host : (p : PastFields) (cube : ℕ) (from : Lift) (front : PacketFields) → IsNextOfSome p (steps.Lift cube from) → slice_get (packets_at p.queues cube (names.Answers from)) 0 ≡ Some front → front.slid < hosts_in p.topology
lift_host p cube from front some first =
    subst (λ (t : Topology). front.slid < hosts_in t) (sym some.is.holds.topology) (lift_answer some.setup some.past p cube from front some.is.holds first).host

-- ---- which entry it is

lift_idle : (setup : Setup) (past : List Entry) (p : PastFields) (cube : ℕ) (from : Lift) → Holds setup past p → slice_get (packets_at p.queues cube (names.Answers from)) 0 ≡ None → Idle (steps.Lift cube from) causes.Empty ≡ next setup past (steps.Lift cube from)
unfolding next choice
lift_idle setup past p cube from holds none =
    sym (front_none (steps.Lift cube from) ((view_of setup past).inside (ids.Answers cube from)) (λ f. lifted_entry setup.topology (view_of setup past) cube from (port_towards setup.topology cube f.slid)) (answers_view setup past p cube from None holds none))

lift_next : (setup : Setup) (past : List Entry) (p : PastFields) (cube : ℕ) (from : Lift) (front : PacketFields) (port : ℕ) → Holds setup past p → slice_get (packets_at p.queues cube (names.Answers from)) 0 ≡ Some front → port_towards setup.topology cube front.slid ≡ Some port
    → unless_full (steps.Lift cube from) (lacks_room setup.topology (view_of setup past) (output_from setup.topology (places.Port cube port))) (Lifted cube from port) ≡ next setup past (steps.Lift cube from)
unfolding next choice
lift_next setup past p cube from front port holds first towards =
    sym (ap (lifted_entry setup.topology (view_of setup past) cube from) towards)
    ∙ sym (front_some (steps.Lift cube from) ((view_of setup past).inside (ids.Answers cube from)) front (λ f. lifted_entry setup.topology (view_of setup past) cube from (port_towards setup.topology cube f.slid)) (answers_view setup past p cube from (Some front) holds first))

own_towards : (setup : Setup) (past : List Entry) (p : PastFields) (cube host port : ℕ) → Holds setup past p → port_towards p.topology cube host ≡ Some port → port_towards setup.topology cube host ≡ Some port
own_towards setup past p cube host port holds is = subst (λ (t : Topology). port_towards t cube host ≡ Some port) holds.topology is

pub lift_empty : (old new : PastFields) (cube : ℕ) (from : Lift) → slice_get (packets_at old.queues cube (names.Answers from)) 0 ≡ None → new ≡ record old { last = Idle (steps.Lift cube from) causes.Empty } → TakesStep old new (steps.Lift cube from)
lift_empty old new cube from none now =
    idle_takes old new (steps.Lift cube from) (steps.Lift cube from) causes.Empty now (λ setup past is. lift_idle setup past old cube from is.holds none)

pub lift_full : (old new : PastFields) (cube : ℕ) (from : Lift) (front : PacketFields) (port : ℕ) → slice_get (packets_at old.queues cube (names.Answers from)) 0 ≡ Some front → port_towards old.topology cube front.slid ≡ Some port → IsWayOut old cube port None
    → new ≡ record old { last = Idle (steps.Lift cube from) causes.Full } → TakesStep old new (steps.Lift cube from)
lift_full old new cube from front port first towards way now =
    idle_takes old new (steps.Lift cube from) (steps.Lift cube from) causes.Full now
    (λ setup past is. ap (λ (t : Bool). unless_full (steps.Lift cube from) t (Lifted cube from port)) (sym (way_lacks setup past old cube port None true is.holds way.room is.goes_on))
    ∙ lift_next setup past old cube from front port is.holds first (own_towards setup past old cube front.slid port is.holds towards))

pub lift_may : (p : PastFields) (cube : ℕ) (from : Lift) (front : PacketFields) (port onward : ℕ) → IsNextOfSome p (steps.Lift cube from) → slice_get (packets_at p.queues cube (names.Answers from)) 0 ≡ Some front → IsWayOut p cube port (Some onward) → MayHand EndsHold p.ends onward front
lift_may p cube from front port onward some first way =
    let setup = some.setup in
    let past = some.past in
    record {
      rows = setup.topology.links;
      entries = (view_of setup past).entries;
      stand = view_hold setup past p some.is.holds some.is.goes_on;
      room = way_room setup past p cube port onward some.is.holds some.is.goes_on way;
      fit = answer_taken (sizes_by setup.topology.links onward).profile setup.topology front (lift_answer setup past p cube from front some.is.holds first);
    }

-- ---- what it leaves

lift_queues : (setup : Setup) (past : List Entry) (p : PastFields) (cube port : ℕ) (from : Lift) (q : QueueId) → IsSized p → IsQueue p.queues cube (names.Answers from) → IsCubeQueue q
    → inside_of (with_packets cube (names.Answers from) (drop 1 (packets_at p.queues cube (names.Answers from))) p.queues) q ≡ moved (leaves past (Lifted cube from port)) (arrives setup.topology past (Lifted cube from port)) (inside_of p.queues) q
unfolding leaves enters
lift_queues setup past p cube port from q sized room inner =
    popped p.queues cube (names.Answers from) q (is_open p cube (names.Answers from) sized room)
    ∙ sym (append-nil (without_front (same_queue (ids.Answers cube from) q) (inside_of p.queues q)))
    ∙ ap (λ (l : List PacketFields). without_front (same_queue (ids.Answers cube from) q) (inside_of p.queues q) ++ l)
    (sym (arrived_off (output_from setup.topology (places.Port cube port)) (λ n. front_of (contents setup.topology past (ids.Answers cube from))) q (output_off (direction_from setup.topology (places.Port cube port)) q (λ d. outside (ids.Output d) q (λ no. no) inner))))

pub lift_takes : (old new : PastFields) (cube : ℕ) (from : Lift) (front : PacketFields) (port onward : ℕ) (ends : List EndFields) → IsQueue old.queues cube (names.Answers from) → slice_get (packets_at old.queues cube (names.Answers from)) 0 ≡ Some front
    → port_towards old.topology cube front.slid ≡ Some port → IsWayOut old cube port (Some onward)
    → ((rows : List LinkRow) (entries : ℕ → List LinkEntry) → EndsHold rows old.ends entries → EndsHold rows ends (called rows onward (λ d. LinkCall.hand d front) entries))
    → new ≡ record old { queues = with_packets cube (names.Answers from) (drop 1 (packets_at old.queues cube (names.Answers from))) old.queues; ends = ends; last = Lifted cube from port } → TakesStep old new (steps.Lift cube from)
lift_takes old new cube from front port onward ends room first towards way hold now =
    subst (λ (p : PastFields). TakesStep old p (steps.Lift cube from)) (sym now)
    (takes old _ (steps.Lift cube from) (λ setup past is.
    let rows = setup.topology.links in
    let view = view_of setup past in
    let before = view_hold setup past old is.holds is.goes_on in
    let held = hold rows view.entries before in
    let own = own_from setup past old (places.Port cube port) onward is.holds (way.from onward refl) in
    let fit = answer_taken (sizes_by rows onward).profile setup.topology front (lift_answer setup past old cube from front is.holds first) in
    let fits = moved_fits old cube (names.Answers from) (drop 1 (packets_at old.queues cube (names.Answers from))) is.holds.sized room.some_cube in
    record {
      entry = Lifted cube from port;
      last = refl;
      is_next = ap (λ (t : Bool). unless_full (steps.Lift cube from) t (Lifted cube from port)) (sym (way_lacks setup past old cube port (Some onward) false is.holds way.room is.goes_on))
          ∙ lift_next setup past old cube from front port is.holds first (own_towards setup past old cube front.slid port is.holds towards);
      after = record {
        topology = refl;
        queues = λ q inner. lift_queues setup past old cube port from q is.holds.sized room inner;
        state = refl;
        hosts = refl;
        host = tt;
        piped = refl;
        ends = λ on. same_hold rows ends (called rows onward (λ d. LinkCall.hand d front) view.entries) (entries_after setup.topology view (Lifted cube from port))
            (λ link. called_puts rows onward link (λ d. LinkCall.hand d front) (λ n d. LinkEntry.handed d front) view.entries
            (handed_call (sizes_by rows onward) (view.entries (onward / 2)) (toward onward) front (way_room setup past old cube port onward is.holds is.goes_on way) (ap not fit.token))
            ∙ ap₂ (λ (d : Option ℕ) (x : PacketFields). put_on link d (λ w. LinkEntry.handed w x) (view.entries link)) (sym own)
            (sym (front_is_first (view.inside (ids.Answers cube from)) front (answers_view setup past old cube from (Some front) is.holds first)))) held;
        sized = record {
          queues = fits.queues;
          fits = fits.fits;
          cubes = fits.cubes;
          hosts = fits.hosts;
          ends = subst (λ (t : Topology). length ends ≡ directions_in t) (sym is.holds.topology) held.count;
          piped = fits.piped;
        };
      };
    }) refl)

-- the way out by what is inside
pub way_in : {B : Type 0} (slots : B → List (Option UnitFields)) (v w : PastParts B) (cube port : ℕ) (found other : Option ℕ) → v ≡ w → found ≡ other → IsWayOut (past_of slots w) cube port found → IsWayOut (past_of slots v) cube port other
way_in slots v w cube port found other same is way =
    subst (λ (o : Option ℕ). IsWayOut (past_of slots v) cube port o) is (subst (λ (p : PastParts _). IsWayOut (past_of slots p) cube port found) (sym same) way)
