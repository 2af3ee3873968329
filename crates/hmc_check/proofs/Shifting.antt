-- The step shift.
use Rattle.std.proofs.Common.{◌≡◌, ◌<◌, ◌/◌, ◌∙◌, ℕ, Bool, true, false, not, nat_le, nat_lt, Option, Some, None, List, [], ◌∷◌, ◌++◌, length, refl, sym, ap, ap₂, subst, arith, append-nil}
use Rattle.std.specs.Prelude.{slice_get}
use Rattle.hmc_codes.specs.declared.place.Place.TheVariants as places
use Rattle.hmc_case.specs.declared.setup.LinkRow.{LinkRow}
use Rattle.hmc_packet.specs.Packet.{PacketFields}
use Rattle.hmc_serial.specs.Unit.{is_for_registers}
use Rattle.hmc_crossbar.specs.declared.to.To.{To}
use Rattle.hmc_crossbar.specs.declared.to.To.TheVariants as tos
use Rattle.hmc_crossbar.specs.To.{where_to, HasWay}
use Rattle.hmc_ends.specs.End.{EndFields}
use Rattle.hmc_send.specs.Given.{IsTaken}
use Rattle.hmc_send.specs.LinkCalls.{LinkCall, has_room}
use Rattle.hmc_send.specs.LinkEntries.{LinkEntry}
use Rattle.hmc_schedule.specs.declared.step.Step.{Step}
use Rattle.hmc_schedule.specs.declared.step.Step.TheVariants as steps
use Rattle.hmc_journal.specs.CubeSteps.{goal_at, shifted_entry, shift_entry}
use Rattle.hmc_entries.specs.declared.outcome.Cause.TheVariants as causes
use Rattle.hmc_entries.specs.declared.outcome.Goal.{Goal}
use Rattle.hmc_entries.specs.declared.outcome.Goal.TheVariants as goals
use Rattle.hmc_entries.specs.declared.entry.Entry.{Entry}
use Rattle.hmc_entries.specs.declared.entry.Entry.TheVariants.{Shifted, Dropped, Idle}
use Rattle.hmc_journal.specs.Basics.{packet_if}
use Rattle.hmc_journal.specs.Links.{toward, put_on, direction_to}
use Rattle.hmc_journal.specs.Next.{choice, next}
use Rattle.hmc_journal.specs.QueueInvariant.{IsOnItsWay}
use Rattle.hmc_journal.specs.Queues.{QueueId, same_queue, leaves, enters, contents, output_from, goal_queue, front_of, QueueId as ids}
use Rattle.hmc_journal.specs.Setup.{Topology, Setup, graph_of, shape_of, cube_setup, cubes_in, directions_in, direction_from}
use Rattle.hmc_journal.specs.StepView.{StepView, view_of}
use Rattle.hmc_journal.specs.Waiting.{lacks_room, unless_full}
use Rattle.hmc_journal.proofs.Moves.{arrives, arrived_off, output_off}
use Rattle.hmc_kept.proofs.InCubes.{outside}
use Rattle.hmc_kept.specs.After.{entries_after}
use Rattle.hmc_kept.proofs.Called.{called_puts}
use Rattle.hmc_kept.proofs.Fronts.{front_some, front_none, front_all}
use Rattle.hmc_journal.proofs.Packets.{front_is_first}
use Rattle.hmc_journal.proofs.DirectionEnds.{ends_at, starts_there}
use Rattle.hmc_kept.proofs.Linking.{handed_call}
use Rattle.hmc_queues.specs.declared.queue_name.QueueName.{QueueName}
use Rattle.hmc_queues.specs.Queues.{IsQueue, packets_at, size_at, with_packets}
use Rattle.hmc_directions.specs.Ends.{EndsHold, IsDirection}
use Rattle.hmc_kept.specs.ByDirection.{IsFrontAt, MayHand}
use Rattle.hmc_kept.specs.Called.{sizes_by, called}
use Rattle.hmc_check.specs.Inside.{inside_of, queue_at}
use Rattle.hmc_kept.specs.InCubes.{IsCubeQueue, without_front}
use Rattle.hmc_check.specs.Kept.{moved}
use Rattle.hmc_check.specs.Moving.{IsShifting, IsWayOut, IsGoalQueue}
use Rattle.hmc_units.specs.Unit.{UnitFields}
use Rattle.hmc_check.specs.Past.{PastFields, PastParts, past_of, IsSized, Holds, IsNextStep, IsNextOfSome, TakesStep}
use Rattle.hmc_check.proofs.Holding.{takes, idle_takes, law_of, same_hold}
use Rattle.hmc_check.proofs.Lifting.{way_lacks, way_room}
use Rattle.hmc_check.proofs.Outer.{outer_queues}
use Rattle.hmc_check.proofs.Outgoing.{own_from, view_hold}
use Rattle.hmc_check.proofs.QueuesLaw.{pushed}
use Rattle.hmc_check.proofs.Spreading.{cube_there, vault_queue, is_open, moved_fits}
use Rattle.hmc_check.proofs.Taking.{front_at}
use Rattle.hmc_kept.proofs.Ways.{has_way, way_taken, goes_good, vault_below, going_in}
use Rattle.hmc_check.proofs.Tests.{le_not}
use Rattle.hmc_kept.proofs.Seen.{taken_entries as entries_taken, room_after as room_stays}

-- ---- packets at ports

own_to : (setup : Setup) (past : List Entry) (p : PastFields) (cube port direction : ℕ) → Holds setup past p → direction_to p.topology (places.Port cube port) ≡ Some direction → direction_to setup.topology (places.Port cube port) ≡ Some direction
own_to setup past p cube port direction holds to = subst (λ (t : Topology). direction_to t (places.Port cube port) ≡ Some direction) holds.topology to

-- the direction that ends at a port is one of those that are kept
pub ends_in : (p : PastFields) (step : Step) (cube port direction : ℕ) → IsNextOfSome p step → direction_to p.topology (places.Port cube port) ≡ Some direction → IsDirection p.ends direction
ends_in p step cube port direction some to =
    let at = ends_at p.topology (places.Port cube port) direction to in
    let there = at.there in omega (arith, there, some.is.holds.sized.ends)

port_front : (setup : Setup) (past : List Entry) (p : PastFields) (cube port direction : ℕ) (found : Option PacketFields) → IsNextStep setup past p (steps.Shift cube port) → direction_to p.topology (places.Port cube port) ≡ Some direction → IsFrontAt EndsHold p.ends direction found
    → slice_get ((view_of setup past).inside (ids.Port cube port)) 0 ≡ found
port_front setup past p cube port direction found is to front_is = front_at setup past p (steps.Shift cube port) (places.Port cube port) direction found is (own_to setup past p cube port direction is.holds to) front_is

port_first : (setup : Setup) (past : List Entry) (cube port : ℕ) (found : Option PacketFields) → slice_get ((view_of setup past).inside (ids.Port cube port)) 0 ≡ found → slice_get (contents setup.topology past (ids.Port cube port)) 0 ≡ found
unfolding view_of
port_first setup past cube port found first = first

on_way : (setup : Setup) (past : List Entry) (p : PastFields) (cube port : ℕ) (front : PacketFields) → Holds setup past p → slice_get ((view_of setup past).inside (ids.Port cube port)) 0 ≡ Some front → IsOnItsWay setup.topology front
on_way setup past p cube port front holds first =
    front_all (IsOnItsWay setup.topology) (contents setup.topology past (ids.Port cube port)) front (port_first setup past cube port (Some front) first) ((law_of setup past p holds).queues.ports cube port)

pub front_way : (p : PastFields) (cube port direction : ℕ) (front : PacketFields) → IsNextOfSome p (steps.Shift cube port) → direction_to p.topology (places.Port cube port) ≡ Some direction → IsFrontAt EndsHold p.ends direction (Some front) → HasWay (graph_of p.topology) front front.poisoned
front_way p cube port direction front some to is =
    subst (λ (t : Topology). HasWay (graph_of t) front front.poisoned) (sym some.is.holds.topology)
    (has_way (graph_of some.setup.topology) front front.poisoned
    (on_way some.setup some.past p cube port front some.is.holds (port_front some.setup some.past p cube port direction (Some front) some.is to is)).goal)

-- ---- which entry it is

shift_idle : (setup : Setup) (past : List Entry) (cube port : ℕ) → slice_get ((view_of setup past).inside (ids.Port cube port)) 0 ≡ None → Idle (steps.Shift cube port) causes.Empty ≡ next setup past (steps.Shift cube port)
unfolding next choice
shift_idle setup past cube port none = sym (front_none (steps.Shift cube port) ((view_of setup past).inside (ids.Port cube port)) (shift_entry setup.topology (view_of setup past) cube port) none)

shift_found : (setup : Setup) (past : List Entry) (cube port : ℕ) (front : PacketFields) → slice_get ((view_of setup past).inside (ids.Port cube port)) 0 ≡ Some front → shift_entry setup.topology (view_of setup past) cube port front ≡ next setup past (steps.Shift cube port)
unfolding next choice
shift_found setup past cube port front first = sym (front_some (steps.Shift cube port) ((view_of setup past).inside (ids.Port cube port)) front (shift_entry setup.topology (view_of setup past) cube port) first)

own_goes : (setup : Setup) (past : List Entry) (p : PastFields) (cube : ℕ) (front : PacketFields) (found : Option Goal) → Holds setup past p → goal_at (where_to (graph_of p.topology) (shape_of p.topology cube) cube front) ≡ found → goal_at (where_to (graph_of setup.topology) (shape_of setup.topology cube) cube front) ≡ found
own_goes setup past p cube front found holds is = subst (λ (t : Topology). goal_at (where_to (graph_of t) (shape_of t cube) cube front) ≡ found) holds.topology is

-- what a shift of this front to this goal gives
shift_next : (setup : Setup) (past : List Entry) (p : PastFields) (cube port direction : ℕ) (front : PacketFields) (goal : Goal) → IsNextStep setup past p (steps.Shift cube port) → IsShifting p cube port direction front goal
    → unless_full (steps.Shift cube port) (lacks_room setup.topology (view_of setup past) (goal_queue setup.topology cube goal)) (Shifted cube port goal) ≡ next setup past (steps.Shift cube port)
shift_next setup past p cube port direction front goal is shifts =
    sym (ap (shifted_entry setup.topology (view_of setup past) cube port) (own_goes setup past p cube front (Some goal) is.holds shifts.goes))
    ∙ shift_found setup past cube port front (port_front setup past p cube port direction (Some front) is shifts.ends shifts.is_front)

pub shift_none : (old new : PastFields) (cube port direction : ℕ) → direction_to old.topology (places.Port cube port) ≡ Some direction → IsFrontAt EndsHold old.ends direction None → new ≡ record old { last = Idle (steps.Shift cube port) causes.Empty } → TakesStep old new (steps.Shift cube port)
shift_none old new cube port direction to none now =
    idle_takes old new (steps.Shift cube port) (steps.Shift cube port) causes.Empty now
    (λ setup past is. shift_idle setup past cube port (port_front setup past old cube port direction None is to none))

-- ---- a packet is dropped

-- the entries of the links after a take
taken_entries : (setup : Setup) (past : List Entry) (p : PastFields) (cube port direction link : ℕ) (front : PacketFields) → IsNextStep setup past p (steps.Shift cube port) → direction_to p.topology (places.Port cube port) ≡ Some direction → IsFrontAt EndsHold p.ends direction (Some front)
    → called setup.topology.links direction LinkCall.take (view_of setup past).entries link ≡ put_on link (direction_to setup.topology (places.Port cube port)) LinkEntry.taken ((view_of setup past).entries link)
taken_entries setup past p cube port direction link front is to front_is =
    entries_taken setup.topology (view_of setup past) (places.Port cube port) direction link front (own_to setup past p cube port direction is.holds to) (front_is setup.topology.links (view_of setup past).entries (view_hold setup past p is.holds is.goes_on))

pub dropped_takes : (old new : PastFields) (cube port direction : ℕ) (front : PacketFields) (to : To) (ends : List EndFields) → direction_to old.topology (places.Port cube port) ≡ Some direction → IsFrontAt EndsHold old.ends direction (Some front)
    → to ≡ where_to (graph_of old.topology) (shape_of old.topology cube) cube front → to ≡ tos.Nowhere
    → ((rows : List LinkRow) (entries : ℕ → List LinkEntry) → EndsHold rows old.ends entries → EndsHold rows ends (called rows direction LinkCall.take entries))
    → new ≡ record old { ends = ends; last = Dropped cube port } → TakesStep old new (steps.Shift cube port)
dropped_takes old new cube port direction front to ends at front_is to_is nowhere hold now =
    subst (λ (p : PastFields). TakesStep old p (steps.Shift cube port)) (sym now)
    (takes old _ (steps.Shift cube port) (λ setup past is.
    let sized = is.holds.sized in
    let rows = setup.topology.links in
    let view = view_of setup past in
    let held = hold rows view.entries (view_hold setup past old is.holds is.goes_on) in
    let goes : goal_at (where_to (graph_of old.topology) (shape_of old.topology cube) cube front) ≡ None = ap goal_at (sym to_is ∙ nowhere) in
    record {
      entry = Dropped cube port;
      last = refl;
      is_next = sym (ap (shifted_entry setup.topology view cube port) (own_goes setup past old cube front None is.holds goes)) ∙ shift_found setup past cube port front (port_front setup past old cube port direction (Some front) is at front_is);
      after = record {
        topology = refl;
        queues = λ q inner. outer_queues setup.topology past (Dropped cube port) (inside_of old.queues) q tt inner;
        state = refl;
        hosts = refl;
        host = tt;
        piped = refl;
        ends = λ on. same_hold rows ends (called rows direction LinkCall.take view.entries) (entries_after setup.topology view (Dropped cube port)) (λ link. taken_entries setup past old cube port direction link front is at front_is) held;
        sized = record { queues = sized.queues; fits = sized.fits; cubes = sized.cubes; hosts = sized.hosts; ends = subst (λ (t : Topology). length ends ≡ directions_in t) (sym is.holds.topology) held.count; piped = sized.piped };
      };
    }) refl)

-- ---- into the cube

-- the queue of a goal in the cube is there
pub goal_there : (p : PastFields) (cube : ℕ) (front : PacketFields) (goal : Goal) (room : QueueName) → IsSized p → cube < cubes_in p.topology → goal_at (where_to (graph_of p.topology) (shape_of p.topology cube) cube front) ≡ Some goal → IsGoalQueue goal room → IsQueue p.queues cube room
goal_there p cube front (goals.Vault vault) room sized there goes is =
    let inside = (going_in p.topology cube front (goals.Vault vault) goes tt).goal_is in
    subst (IsQueue p.queues cube) (sym is) (vault_queue p cube vault sized (record { some_cube = there; some_vault = vault_below (shape_of p.topology cube) front (is_for_registers front.command) vault inside }))
goal_there p cube front goals.Registers room sized there goes is = subst (IsQueue p.queues cube) (sym is) (record { some_cube = cube_there p cube sized there; there = refl })
goal_there p cube front (goals.Port port) room sized there goes is = absurd is

inside_view : (setup : Setup) (past : List Entry) (p : PastFields) (q : QueueId) → Holds setup past p → IsCubeQueue q → inside_of p.queues q ≡ (view_of setup past).inside q
unfolding view_of
inside_view setup past p q holds inner = holds.inner.queues q inner

-- whether the goal is full, by its queue
goal_lacks : (setup : Setup) (past : List Entry) (p : PastFields) (cube : ℕ) (goal : Goal) (room : QueueName) (has : Bool) → Holds setup past p → cube < length p.queues → IsGoalQueue goal room → nat_lt (length (packets_at p.queues cube room)) (size_at p.queues cube) ≡ has
    → lacks_room setup.topology (view_of setup past) (goal_queue setup.topology cube goal) ≡ not has
goal_lacks setup past p cube (goals.Vault vault) room has holds less is test =
    ap₂ (λ (n : ℕ) (l : List PacketFields). nat_le n (length l)) (sym ((holds.sized.fits cube less).size ∙ ap (λ (t : Topology). (cube_setup t cube).queue) holds.topology)) (sym (inside_view setup past p (ids.Vault cube vault) holds tt))
    ∙ ap (λ (r : QueueName). nat_le (size_at p.queues cube) (length (packets_at p.queues cube r))) (sym is) ∙ le_not (length (packets_at p.queues cube room)) (size_at p.queues cube) has test
goal_lacks setup past p cube goals.Registers room has holds less is test =
    ap₂ (λ (n : ℕ) (l : List PacketFields). nat_le n (length l)) (sym ((holds.sized.fits cube less).size ∙ ap (λ (t : Topology). (cube_setup t cube).queue) holds.topology)) (sym (inside_view setup past p (ids.Registers cube) holds tt))
    ∙ ap (λ (r : QueueName). nat_le (size_at p.queues cube) (length (packets_at p.queues cube r))) (sym is) ∙ le_not (length (packets_at p.queues cube room)) (size_at p.queues cube) has test
goal_lacks setup past p cube (goals.Port port) room has holds less is test = absurd is

pub shift_in_full : (old new : PastFields) (cube port direction : ℕ) (front : PacketFields) (goal : Goal) (room : QueueName) → cube < length old.queues → IsShifting old cube port direction front goal → IsGoalQueue goal room
    → nat_lt (length (packets_at old.queues cube room)) (size_at old.queues cube) ≡ false → new ≡ record old { last = Idle (steps.Shift cube port) causes.Full } → TakesStep old new (steps.Shift cube port)
shift_in_full old new cube port direction front goal room less shifts inner has now =
    idle_takes old new (steps.Shift cube port) (steps.Shift cube port) causes.Full now
    (λ setup past is. ap (λ (t : Bool). unless_full (steps.Shift cube port) t (Shifted cube port goal)) (sym (goal_lacks setup past old cube goal room false is.holds less inner has))
    ∙ shift_next setup past old cube port direction front goal is shifts)

-- the front is what comes into the queue of the goal
goal_queues : (setup : Setup) (past : List Entry) (inside : QueueId → List PacketFields) (cube port : ℕ) (goal : Goal) (room : QueueName) (front : PacketFields) (q : QueueId) → IsGoalQueue goal room → IsCubeQueue q → front ≡ front_of (contents setup.topology past (ids.Port cube port))
    → inside q ++ packet_if (same_queue (queue_at cube room) q) (λ n. front) ≡ moved (leaves past (Shifted cube port goal)) (arrives setup.topology past (Shifted cube port goal)) inside q
unfolding leaves enters
goal_queues setup past inside cube port (goals.Vault vault) room front q is inner front_is =
    ap (λ (r : QueueName). inside q ++ packet_if (same_queue (queue_at cube r) q) (λ n. front)) is
    ∙ ap₂ (λ (b : Bool) (x : PacketFields). without_front b (inside q) ++ packet_if (same_queue (ids.Vault cube vault) q) (λ n. x)) (sym (outside (ids.Port cube port) q (λ no. no) inner)) front_is
goal_queues setup past inside cube port goals.Registers room front q is inner front_is =
    ap (λ (r : QueueName). inside q ++ packet_if (same_queue (queue_at cube r) q) (λ n. front)) is
    ∙ ap₂ (λ (b : Bool) (x : PacketFields). without_front b (inside q) ++ packet_if (same_queue (ids.Registers cube) q) (λ n. x)) (sym (outside (ids.Port cube port) q (λ no. no) inner)) front_is
goal_queues setup past inside cube port (goals.Port out) room front q is inner front_is = absurd is

goal_entries : (topology : Topology) (view : StepView) (cube port link : ℕ) (goal : Goal) (room : QueueName) → IsGoalQueue goal room → put_on link (direction_to topology (places.Port cube port)) LinkEntry.taken (view.entries link) ≡ entries_after topology view (Shifted cube port goal) link
goal_entries topology view cube port link (goals.Vault vault) room is = refl
goal_entries topology view cube port link goals.Registers room is = refl
goal_entries topology view cube port link (goals.Port out) room is = absurd is

pub shift_in_takes : (old new : PastFields) (cube port direction : ℕ) (front : PacketFields) (goal : Goal) (room : QueueName) (ends : List EndFields) → IsQueue old.queues cube room → IsShifting old cube port direction front goal → IsGoalQueue goal room
    → nat_lt (length (packets_at old.queues cube room)) (size_at old.queues cube) ≡ true
    → ((rows : List LinkRow) (entries : ℕ → List LinkEntry) → EndsHold rows old.ends entries → EndsHold rows ends (called rows direction LinkCall.take entries))
    → new ≡ record old { queues = with_packets cube room (packets_at old.queues cube room ++ front ∷ []) old.queues; ends = ends; last = Shifted cube port goal } → TakesStep old new (steps.Shift cube port)
shift_in_takes old new cube port direction front goal room ends there shifts inner_goal has hold now =
    subst (λ (p : PastFields). TakesStep old p (steps.Shift cube port)) (sym now)
    (takes old _ (steps.Shift cube port) (λ setup past is.
    let rows = setup.topology.links in
    let view = view_of setup past in
    let held = hold rows view.entries (view_hold setup past old is.holds is.goes_on) in
    let first = port_front setup past old cube port direction (Some front) is shifts.ends shifts.is_front in
    let front_is = sym (front_is_first (contents setup.topology past (ids.Port cube port)) front (port_first setup past cube port (Some front) first)) in
    let fits = moved_fits old cube room (packets_at old.queues cube room ++ front ∷ []) is.holds.sized there.some_cube in
    record {
      entry = Shifted cube port goal;
      last = refl;
      is_next = ap (λ (t : Bool). unless_full (steps.Shift cube port) t (Shifted cube port goal)) (sym (goal_lacks setup past old cube goal room true is.holds there.some_cube inner_goal has))
          ∙ shift_next setup past old cube port direction front goal is shifts;
      after = record {
        topology = refl;
        queues = λ q inner. pushed old.queues cube room front q (is_open old cube room is.holds.sized there) ∙ goal_queues setup past (inside_of old.queues) cube port goal room front q inner_goal inner front_is;
        state = refl;
        hosts = refl;
        host = tt;
        piped = refl;
        ends = λ on. same_hold rows ends (called rows direction LinkCall.take view.entries) (entries_after setup.topology view (Shifted cube port goal))
            (λ link. taken_entries setup past old cube port direction link front is shifts.ends shifts.is_front ∙ goal_entries setup.topology view cube port link goal room inner_goal) held;
        sized = record { queues = fits.queues; fits = fits.fits; cubes = fits.cubes; hosts = fits.hosts; ends = subst (λ (t : Topology). length ends ≡ directions_in t) (sym is.holds.topology) held.count; piped = fits.piped };
      };
    }) refl)

-- ---- on through another port

-- a direction has room after a take at a port where it had room before
room_after : (setup : Setup) (past : List Entry) (p : PastFields) (cube port direction out onward : ℕ) (front : PacketFields) → IsNextStep setup past p (steps.Shift cube port) → direction_to p.topology (places.Port cube port) ≡ Some direction → IsFrontAt EndsHold p.ends direction (Some front) → IsWayOut p cube out (Some onward)
    → has_room (sizes_by setup.topology.links onward) (toward onward) (called setup.topology.links direction LinkCall.take (view_of setup past).entries (onward / 2)) ≡ true
room_after setup past p cube port direction out onward front is to front_is way =
    room_stays setup.topology (view_of setup past) direction onward front (front_is setup.topology.links (view_of setup past).entries (view_hold setup past p is.holds is.goes_on))
    ∙ way_room setup past p cube out onward is.holds is.goes_on way

-- what goes on is a packet that the link can carry
out_taken : (setup : Setup) (past : List Entry) (p : PastFields) (cube port direction out onward : ℕ) (front : PacketFields) → IsNextStep setup past p (steps.Shift cube port) → IsShifting p cube port direction front (goals.Port out) → IsTaken (sizes_by setup.topology.links onward).profile front
out_taken setup past p cube port direction out onward front is shifts =
    way_taken (sizes_by setup.topology.links onward).profile setup.topology front (on_way setup past p cube port front is.holds (port_front setup past p cube port direction (Some front) is shifts.ends shifts.is_front))
    (goes_good setup.topology cube front (goals.Port out) (own_goes setup past p cube front (Some (goals.Port out)) is.holds shifts.goes))

pub shift_out_may : (p : PastFields) (cube port direction out onward : ℕ) (front : PacketFields) (ends : List EndFields) → IsNextOfSome p (steps.Shift cube port) → IsShifting p cube port direction front (goals.Port out) → IsWayOut p cube out (Some onward)
    → ((rows : List LinkRow) (entries : ℕ → List LinkEntry) → EndsHold rows p.ends entries → EndsHold rows ends (called rows direction LinkCall.take entries)) → MayHand EndsHold ends onward front
shift_out_may p cube port direction out onward front ends some shifts way take =
    let setup = some.setup in
    let past = some.past in
    record {
      rows = setup.topology.links;
      entries = called setup.topology.links direction LinkCall.take (view_of setup past).entries;
      stand = take setup.topology.links (view_of setup past).entries (view_hold setup past p some.is.holds some.is.goes_on);
      room = room_after setup past p cube port direction out onward front some.is shifts.ends shifts.is_front way;
      fit = out_taken setup past p cube port direction out onward front some.is shifts;
    }

-- the direction onward is there after the take
pub onward_after : (p : PastFields) (cube port direction out onward : ℕ) (ends : List EndFields) → IsNextOfSome p (steps.Shift cube port) → IsWayOut p cube out (Some onward)
    → ((rows : List LinkRow) (entries : ℕ → List LinkEntry) → EndsHold rows p.ends entries → EndsHold rows ends (called rows direction LinkCall.take entries)) → IsDirection ends onward
onward_after p cube port direction out onward ends some way take =
    let setup = some.setup in
    let past = some.past in
    let there = starts_there setup.topology (places.Port cube out) onward (own_from setup past p (places.Port cube out) onward some.is.holds (way.from onward refl)) in
    let after = (take setup.topology.links (view_of setup past).entries (view_hold setup past p some.is.holds some.is.goes_on)).count in omega (arith, there, after)

pub shift_out_full : (old new : PastFields) (cube port direction out : ℕ) (front : PacketFields) → IsShifting old cube port direction front (goals.Port out) → IsWayOut old cube out None → new ≡ record old { last = Idle (steps.Shift cube port) causes.Full } → TakesStep old new (steps.Shift cube port)
shift_out_full old new cube port direction out front shifts way now =
    idle_takes old new (steps.Shift cube port) (steps.Shift cube port) causes.Full now
    (λ setup past is. ap (λ (t : Bool). unless_full (steps.Shift cube port) t (Shifted cube port (goals.Port out))) (sym (way_lacks setup past old cube out None true is.holds way.room is.goes_on))
    ∙ shift_next setup past old cube port direction front (goals.Port out) is shifts)

-- the queues inside cubes stay
out_queues : (setup : Setup) (past : List Entry) (inside : QueueId → List PacketFields) (cube port out : ℕ) (q : QueueId) → IsCubeQueue q → inside q ≡ moved (leaves past (Shifted cube port (goals.Port out))) (arrives setup.topology past (Shifted cube port (goals.Port out))) inside q
unfolding leaves enters
out_queues setup past inside cube port out q inner =
    sym (append-nil (inside q))
    ∙ ap₂ (λ (b : Bool) (l : List PacketFields). without_front b (inside q) ++ l) (sym (outside (ids.Port cube port) q (λ no. no) inner))
    (sym (arrived_off (output_from setup.topology (places.Port cube out)) (λ n. front_of (contents setup.topology past (ids.Port cube port))) q (output_off (direction_from setup.topology (places.Port cube out)) q (λ d. outside (ids.Output d) q (λ no. no) inner))))

pub shift_out_takes : (old new : PastFields) (cube port direction out onward : ℕ) (front : PacketFields) (taken ends : List EndFields) → IsShifting old cube port direction front (goals.Port out) → IsWayOut old cube out (Some onward)
    → ((rows : List LinkRow) (entries : ℕ → List LinkEntry) → EndsHold rows old.ends entries → EndsHold rows taken (called rows direction LinkCall.take entries))
    → ((rows : List LinkRow) (entries : ℕ → List LinkEntry) → EndsHold rows taken entries → EndsHold rows ends (called rows onward (λ d. LinkCall.hand d front) entries))
    → new ≡ record old { ends = ends; last = Shifted cube port (goals.Port out) } → TakesStep old new (steps.Shift cube port)
shift_out_takes old new cube port direction out onward front taken ends shifts way take hand now =
    subst (λ (p : PastFields). TakesStep old p (steps.Shift cube port)) (sym now)
    (takes old _ (steps.Shift cube port) (λ setup past is.
    let sized = is.holds.sized in
    let rows = setup.topology.links in
    let view = view_of setup past in
    let first = port_front setup past old cube port direction (Some front) is shifts.ends shifts.is_front in
    let own = own_from setup past old (places.Port cube out) onward is.holds (way.from onward refl) in
    let between = called rows direction LinkCall.take view.entries in
    let held = hand rows between (take rows view.entries (view_hold setup past old is.holds is.goes_on)) in
    let fit = out_taken setup past old cube port direction out onward front is shifts in
    record {
      entry = Shifted cube port (goals.Port out);
      last = refl;
      is_next = ap (λ (t : Bool). unless_full (steps.Shift cube port) t (Shifted cube port (goals.Port out))) (sym (way_lacks setup past old cube out (Some onward) false is.holds way.room is.goes_on))
          ∙ shift_next setup past old cube port direction front (goals.Port out) is shifts;
      after = record {
        topology = refl;
        queues = λ q inner. out_queues setup past (inside_of old.queues) cube port out q inner;
        state = refl;
        hosts = refl;
        host = tt;
        piped = refl;
        ends = λ on. same_hold rows ends (called rows onward (λ d. LinkCall.hand d front) between) (entries_after setup.topology view (Shifted cube port (goals.Port out)))
            (λ link. called_puts rows onward link (λ d. LinkCall.hand d front) (λ n d. LinkEntry.handed d front) between
            (handed_call (sizes_by rows onward) (between (onward / 2)) (toward onward) front (room_after setup past old cube port direction out onward front is shifts.ends shifts.is_front way) (ap not fit.token))
            ∙ ap (λ (l : List LinkEntry). put_on link (Some onward) (λ d. LinkEntry.handed d front) l) (taken_entries setup past old cube port direction link front is shifts.ends shifts.is_front)
            ∙ ap₂ (λ (d : Option ℕ) (x : PacketFields). put_on link d (λ w. LinkEntry.handed w x) (put_on link (direction_to setup.topology (places.Port cube port)) LinkEntry.taken (view.entries link)))
            (sym own) (sym (front_is_first (view.inside (ids.Port cube port)) front first))) held;
        sized = record { queues = sized.queues; fits = sized.fits; cubes = sized.cubes; hosts = sized.hosts; ends = subst (λ (t : Topology). length ends ≡ directions_in t) (sym is.holds.topology) held.count; piped = sized.piped };
      };
    }) refl)

-- the same by what is inside
pub shifting_in : {B : Type 0} (slots : B → List (Option UnitFields)) (v w : PastParts B) (cube port direction : ℕ) (front : PacketFields) (goal : Goal) → v ≡ w → IsShifting (past_of slots w) cube port direction front goal → IsShifting (past_of slots v) cube port direction front goal
shifting_in slots v w cube port direction front goal same is = subst (λ (p : PastParts _). IsShifting (past_of slots p) cube port direction front goal) (sym same) is
