-- The steps at the ports of cubes: shift and lift.
use Rattle.std.proofs.Common.{◌≡◌, ◌<◌, ◌/◌, ◌^◌, ◌∙◌, ℕ, Bool, true, false, not, nat_le, Option, Some, None, List, length, slice_get, refl, sym, ap, ap₂, subst, arith}
use Rattle.std.proofs.lemmas.Bool.{lt-leb}
use Rattle.hmc_codes.specs.Shape.{ShapeFields}
use Rattle.hmc_codes.specs.declared.lift.Lift.{Lift}
use Rattle.hmc_codes.specs.declared.lift.Lift.TheVariants as lifts
use Rattle.hmc_codes.specs.declared.place.Place.TheVariants as places
use Rattle.hmc_case.specs.declared.setup.LinkRow.{LinkRow}
use Rattle.hmc_packet.specs.Packet.{PacketFields}
use Rattle.hmc_serial.specs.Unit.{is_for_registers}
use Rattle.hmc_crossbar.specs.declared.to.To.{To}
use Rattle.hmc_crossbar.specs.declared.to.To.TheVariants as tos
use Rattle.hmc_crossbar.specs.To.{where_to, HasWay}
use Rattle.hmc_cube.specs.Cube.{CubeFields}
use Rattle.hmc_cube.specs.After.{after_enter, after_lift}
use Rattle.hmc_cube.specs.Places.{IsHere, IsFor, HasLift, entrance, answers_at}
use Rattle.hmc_cube.specs.Parts.{AreParts}
use Rattle.hmc_link.specs.Held.{LinkHeld}
use Rattle.hmc_send.specs.LinkCalls.{LinkCall, has_room}
use Rattle.hmc_send.specs.LinkEntries.{LinkEntry}
use Rattle.hmc_schedule.specs.declared.step.Step.TheVariants as steps
use Rattle.hmc_entries.specs.declared.outcome.Cause.TheVariants as causes
use Rattle.hmc_entries.specs.declared.outcome.Goal.{Goal}
use Rattle.hmc_entries.specs.declared.outcome.Goal.TheVariants as goals
use Rattle.hmc_entries.specs.declared.entry.Entry.TheVariants as entries
use Rattle.hmc_journal.specs.Links.{toward, put_on, direction_to}
use Rattle.hmc_journal.specs.Next.{choice, unless_full, lacks_room, goal_at, shift_entry, shifted_entry, lifted_entry}
use Rattle.hmc_journal.specs.QueueInvariant.{IsOnItsWay, IsHostAnswer}
use Rattle.hmc_journal.specs.Queues.{front_of, output_from, goal_queue}
use Rattle.hmc_journal.specs.Queues.QueueId.{Port, Vault, Registers, Answers}
use Rattle.hmc_journal.specs.Routes.{port_towards}
use Rattle.hmc_journal.specs.Setup.{graph_of, shape_of, cube_setup, cubes_in, direction_from}
use Rattle.hmc_journal.specs.StepView.{StepView}
use Rattle.hmc_net.specs.Apply.{to_of, cubes_after, with_cube, IsEntryIn, DoesStep}
use Rattle.hmc_kept.specs.After.{entries_after}
use Rattle.hmc_kept.specs.Called.{sizes_by, called}
use Rattle.hmc_links.specs.LinkList.{LinksStandFor, IsDirection, IsRoom, IsFrontAt, MayHand}
use Rattle.hmc_net.specs.NetState.{NetState, cube_in}
use Rattle.hmc_net.specs.Ports.{IsShifting, IsLeaving, IsLifting, IsWayOut}
use Rattle.hmc_kept.specs.Ways.{IsInner}
use Rattle.hmc_wiring.specs.Ready.{IsLiftIn}
use Rattle.hmc_net.specs.Sees.{Sees, IsSized, IsReady}
use Rattle.hmc_net.proofs.CubeSteps.{sized_cube, cube_inside}
use Rattle.hmc_net.proofs.Doing.{with_parts, does_by, idle_does, starts_in, sized_links}
use Rattle.hmc_kept.proofs.Seen.{place_room, place_has_room, front_seen, taken_entries, room_after}
use Rattle.hmc_kept.proofs.Called.{called_puts}
use Rattle.hmc_kept.proofs.Fronts.{front_some, front_none, front_all}
use Rattle.hmc_links.proofs.LinkCalls.{same_entries}
use Rattle.hmc_kept.proofs.Linking.{handed_call}
use Rattle.hmc_journal.proofs.Packets.{front_is_first}
use Rattle.hmc_kept.proofs.Ways.{has_way, way_taken, goes_good, answer_taken, lacks_by, IsGoingIn, vault_below, for_vault, for_registers, at_most, shift_links, going_in}

-- ---- packets at ports

pub port_front : (net : NetState) (view : StepView) (cube port direction : ℕ) (found : Option PacketFields) → Sees net view → direction_to net.topology (places.Port cube port) ≡ Some direction → IsFrontAt net.links direction found → slice_get (view.inside (Port cube port)) 0 ≡ found
port_front net view cube port direction found sees to is = front_seen net.topology view (places.Port cube port) direction found sees.laws to (is net.topology.links view.entries sees.shows.links)

on_way : (net : NetState) (cube port direction : ℕ) (front : PacketFields) → IsReady net → direction_to net.topology (places.Port cube port) ≡ Some direction → IsFrontAt net.links direction (Some front) → IsOnItsWay net.topology front
on_way net cube port direction front ready to is =
    front_all (IsOnItsWay net.topology) (ready.view.inside (Port cube port)) front (port_front net ready.view cube port direction (Some front) ready.sees to is) (ready.sees.laws.ports cube port)

pub front_way : (net : NetState) (cube port direction : ℕ) (front : PacketFields) → IsReady net → direction_to net.topology (places.Port cube port) ≡ Some direction → IsFrontAt net.links direction (Some front) → HasWay (graph_of net.topology) front front.poisoned
front_way net cube port direction front ready to is = has_way (graph_of net.topology) front front.poisoned (on_way net cube port direction front ready to is).goal

-- ---- the way out of a cube

pub way_out : (net : NetState) (cube port direction : ℕ) (room : Bool) → direction_from net.topology (places.Port cube port) ≡ Some direction → IsRoom net.links direction room
    → (view : StepView) → Sees net view → lacks_room net.topology view (output_from net.topology (places.Port cube port)) ≡ not room
way_out net cube port direction room from is view sees = lacks_by room _ (place_room net.topology view (places.Port cube port) direction room sees.laws from (is net.topology.links view.entries sees.shows.links))

-- where there is a way out its direction has room
pub way_room : (net : NetState) (view : StepView) (cube port direction : ℕ) → Sees net view → IsWayOut net cube port (Some direction) → has_room (sizes_by net.topology.links direction) (toward direction) (view.entries (direction / 2)) ≡ true
way_room net view cube port direction sees is =
    place_has_room net.topology view (places.Port cube port) direction sees.laws (is.from direction refl) ∙ ap not (is.room view sees)

-- ---- shift

-- what a shift of this front to this goal gives
shift_seen : (net : NetState) (view : StepView) (cube port direction : ℕ) (front : PacketFields) (goal : Goal) → Sees net view → IsShifting net cube port direction front goal
    → unless_full (steps.Shift cube port) (lacks_room net.topology view (goal_queue net.topology cube goal)) (entries.Shifted cube port goal) ≡ choice net.topology view (steps.Shift cube port)
unfolding choice
shift_seen net view cube port direction front goal sees is =
    sym (ap (shifted_entry net.topology view cube port) is.goes)
    ∙ sym (front_some (steps.Shift cube port) (view.inside (Port cube port)) front (shift_entry net.topology view cube port) (port_front net view cube port direction (Some front) sees is.ends is.is_front))

pub shift_none : (net now : NetState) (cube port direction : ℕ) → IsSized net → direction_to net.topology (places.Port cube port) ≡ Some direction → IsFrontAt net.links direction None → now ≡ record net { last = entries.Idle (steps.Shift cube port) causes.Empty } → DoesStep net now (steps.Shift cube port)
unfolding choice
shift_none net now cube port direction sized to is now_is =
    idle_does net now (steps.Shift cube port) (steps.Shift cube port) causes.Empty now_is sized
    (λ view sees. sym (front_none (steps.Shift cube port) (view.inside (Port cube port)) (shift_entry net.topology view cube port) (port_front net view cube port direction None sees to is)))

pub dropped_does : (net now : NetState) (cube port direction : ℕ) (front : PacketFields) (to : To) (links : List LinkHeld) → IsReady net → direction_to net.topology (places.Port cube port) ≡ Some direction → IsFrontAt net.links direction (Some front)
    → to ≡ where_to (graph_of net.topology) (shape_of net.topology cube) cube front → to ≡ tos.Nowhere
    → ((rows : List LinkRow) (entries : ℕ → List LinkEntry) → LinksStandFor rows net.links entries → LinksStandFor rows links (called rows direction LinkCall.take entries))
    → now ≡ with_parts net net.cubes net.hosts links (entries.Dropped cube port) → DoesStep net now (steps.Shift cube port)
unfolding choice
dropped_does net now cube port direction front to links ready ends is to_is nowhere take now_is = does_by net now net.cubes net.hosts net.slots links (entries.Dropped cube port) (steps.Shift cube port) now_is (record {
  chosen = λ view sees. ap (λ (t : To). shifted_entry net.topology view cube port (goal_at t)) (sym nowhere ∙ to_is)
      ∙ sym (front_some (steps.Shift cube port) (view.inside (Port cube port)) front (shift_entry net.topology view cube port) (port_front net view cube port direction (Some front) sees ends is));
  cubes_are = λ view sees. refl;
  hosts_are = refl;
  slots_are = λ view sees. refl;
  piped_are = λ view sees. refl;
  links_are = λ view sees on. same_entries net.topology.links links (called net.topology.links direction LinkCall.take view.entries) (entries_after net.topology view (entries.Dropped cube port)) (take net.topology.links view.entries sees.shows.links)
      (λ link. taken_entries net.topology view (places.Port cube port) direction link front ends (is net.topology.links view.entries sees.shows.links));
  there = tt;
  host = tt;
  sized = sized_links net links (entries.Dropped cube port) ready.sized;
  idle = λ cause idle. absurd (cc);
})

-- ---- into the cube

here_by : (x : CubeFields) (shape : ShapeFields) (packet : PacketFields) (goal : Goal) → x.state.shape ≡ shape → IsInner goal → IsGoingIn shape packet goal → IsHere x (to_of goal)
here_by x shape packet (goals.Vault vault) same inner is = subst (λ (s : ShapeFields). vault < 2 ^ s.vault_bits) (sym same) (vault_below shape packet (is_for_registers packet.command) vault is.goal_is)
here_by x shape packet goals.Registers same inner is = tt
here_by x shape packet (goals.Port port) same inner is = absurd inner

-- the front goes where it leads
pub leaving_by : (net : NetState) (cube port direction : ℕ) (front : PacketFields) (to : To)
    (goal : Goal) → direction_to net.topology (places.Port cube port) ≡ Some direction
    → IsFrontAt net.links direction (Some front)
    → to ≡ where_to (graph_of net.topology) (shape_of net.topology cube) cube front
    → goal_at to ≡ Some goal → IsLeaving net cube port direction goal
leaving_by net cube port direction front to goal ends is where_is goes = record {
  front = front;
  shifting = record { ends = ends; is_front = is; goes = ap goal_at (sym where_is) ∙ goes };
}

-- the front that is found again is the same
front_again : (net : NetState) (direction : ℕ) (front : PacketFields) (found : Option PacketFields)
    → IsReady net → IsFrontAt net.links direction (Some front)
    → IsFrontAt net.links direction found → found ≡ Some front
front_again net direction front found ready is again =
    again net.topology.links ready.view.entries ready.sees.shows.links
    ∙ sym (is net.topology.links ready.view.entries ready.sees.shows.links)

pub shifting_again : (net : NetState) (cube port direction : ℕ) (goal : Goal)
    (found : PacketFields) → IsReady net → IsLeaving net cube port direction goal
    → IsFrontAt net.links direction (Some found)
    → IsShifting net cube port direction found goal
shifting_again net cube port direction goal found ready leaving again =
    let is = front_again net direction leaving.front (Some found) ready leaving.shifting.is_front
    again in
    let same : leaving.front ≡ found = cc in
    subst (λ (f : PacketFields). IsShifting net cube port direction f goal) same leaving.shifting

-- where there is a front, none isn't what is found
pub one_front : (net : NetState) (direction : ℕ) (front : PacketFields) → IsReady net
    → IsFrontAt net.links direction (Some front) → IsFrontAt net.links direction None → ⊥
one_front net direction front ready some none =
    let is = front_again net direction front None ready some none in
    cc

pub some_leaving : (net : NetState) (cube port direction : ℕ) (goal : Goal) → IsReady net
    → IsLeaving net cube port direction goal → IsFrontAt net.links direction None → ⊥
some_leaving net cube port direction goal ready leaving none =
    let is = front_again net direction leaving.front None ready leaving.shifting.is_front none in
    cc

pub shift_here : (net : NetState) (cube port direction : ℕ) (front : PacketFields) (goal : Goal) → IsSized net → cube < cubes_in net.topology → IsShifting net cube port direction front goal → IsInner goal → IsHere (cube_in net.cubes cube) (to_of goal)
shift_here net cube port direction front goal sized there is inner =
    here_by (cube_in net.cubes cube) (shape_of net.topology cube) front goal (sized.fits cube (cube_inside net cube sized there)).shape inner (going_in net.topology cube front goal is.goes inner)

pub shift_for : (net : NetState) (cube port direction : ℕ) (front : PacketFields) (goal : Goal) → IsShifting net cube port direction front goal → IsInner goal → IsFor (to_of goal) front
shift_for net cube port direction front (goals.Vault vault) is inner =
    let going = going_in net.topology cube front (goals.Vault vault) is.goes inner in
    record { asks = going.asks; unpoisoned = going.unpoisoned; not_for_registers = for_vault (shape_of net.topology cube) front (is_for_registers front.command) vault refl going.goal_is }
shift_for net cube port direction front goals.Registers is inner =
    let going = going_in net.topology cube front goals.Registers is.goes inner in
    record { unpoisoned = going.unpoisoned; for_registers = for_registers (shape_of net.topology cube) front (is_for_registers front.command) refl going.goal_is }
shift_for net cube port direction front (goals.Port port') is inner = absurd inner

-- whether the goal is full, by its queue
inner_lacks : (net : NetState) (view : StepView) (cube : ℕ) (goal : Goal) (test : Bool) → Sees net view → IsInner goal → (cube_in net.cubes cube).size ≡ (cube_setup net.topology cube).queue → nat_le (cube_in net.cubes cube).size (length (entrance (cube_in net.cubes cube) (to_of goal))) ≡ test
    → lacks_room net.topology view (goal_queue net.topology cube goal) ≡ test
inner_lacks net view cube (goals.Vault vault) test sees inner size is = ap₂ (λ (n : ℕ) (l : List PacketFields). nat_le n (length l)) (sym size) (sym (sees.shows.queues (Vault cube vault) tt)) ∙ is
inner_lacks net view cube goals.Registers test sees inner size is = ap₂ (λ (n : ℕ) (l : List PacketFields). nat_le n (length l)) (sym size) (sym (sees.shows.queues (Registers cube) tt)) ∙ is
inner_lacks net view cube (goals.Port port) test sees inner size is = absurd inner

pub shift_full : (net now : NetState) (cube port direction : ℕ) (front : PacketFields) (goal : Goal) → IsSized net → cube < cubes_in net.topology → IsShifting net cube port direction front goal → IsInner goal
    → (length (entrance (cube_in net.cubes cube) (to_of goal)) < (cube_in net.cubes cube).size → ⊥) → now ≡ record net { last = entries.Idle (steps.Shift cube port) causes.Full } → DoesStep net now (steps.Shift cube port)
shift_full net now cube port direction front goal sized there is inner full now_is =
    idle_does net now (steps.Shift cube port) (steps.Shift cube port) causes.Full now_is sized
    (λ view sees. ap (λ (t : Bool). unless_full (steps.Shift cube port) t (entries.Shifted cube port goal))
    (sym (inner_lacks net view cube goal true sees inner (sized.fits cube (cube_inside net cube sized there)).queue (at_most (cube_in net.cubes cube).size _ full)))
    ∙ shift_seen net view cube port direction front goal sees is)

enter_kept : (x : CubeFields) (goal : Goal) (front : PacketFields) → ((after_enter (to_of goal) front x).state.shape ≡ x.state.shape) × ((after_enter (to_of goal) front x).size ≡ x.size)
enter_kept x (goals.Vault vault) front = (refl, refl)
enter_kept x goals.Registers front = (refl, refl)
enter_kept x (goals.Port port) front = (refl, refl)

shift_cubes : (view : StepView) (cubes : List CubeFields) (cube port : ℕ) (goal : Goal) (front : PacketFields) → IsInner goal → front_of (view.inside (Port cube port)) ≡ front → with_cube cube (after_enter (to_of goal) front) cubes ≡ cubes_after view (entries.Shifted cube port goal) cubes
shift_cubes view cubes cube port (goals.Vault vault) front inner is = ap (λ (p : PacketFields). with_cube cube (after_enter (tos.Vault vault) p) cubes) (sym is)
shift_cubes view cubes cube port goals.Registers front inner is = ap (λ (p : PacketFields). with_cube cube (after_enter tos.Registers p) cubes) (sym is)
shift_cubes view cubes cube port (goals.Port out) front inner is = absurd inner

shift_entry_in : (cubes : List CubeFields) (cube port : ℕ) (goal : Goal) → cube < length cubes → AreParts (cube_in cubes cube) → IsHere (cube_in cubes cube) (to_of goal) → IsInner goal → IsEntryIn cubes (entries.Shifted cube port goal)
shift_entry_in cubes cube port (goals.Vault vault) there parts here inner = (there, subst (λ (n : ℕ). vault < n) (sym parts.vaults) here)
shift_entry_in cubes cube port goals.Registers there parts here inner = (there, tt)
shift_entry_in cubes cube port (goals.Port out) there parts here inner = absurd inner

pub shift_in_does : (net now : NetState) (cube port direction : ℕ) (front : PacketFields) (goal : Goal) (links : List LinkHeld) → IsReady net → cube < cubes_in net.topology → IsShifting net cube port direction front goal → IsInner goal → AreParts (cube_in net.cubes cube)
    → length (entrance (cube_in net.cubes cube) (to_of goal)) < (cube_in net.cubes cube).size
    → ((rows : List LinkRow) (entries : ℕ → List LinkEntry) → LinksStandFor rows net.links entries → LinksStandFor rows links (called rows direction LinkCall.take entries))
    → now ≡ with_parts net (with_cube cube (after_enter (to_of goal) front) net.cubes) net.hosts links (entries.Shifted cube port goal) → DoesStep net now (steps.Shift cube port)
shift_in_does net now cube port direction front goal links ready there is inner parts room take now_is =
    let sized = ready.sized in
    let less = cube_inside net cube sized there in
    let kept = enter_kept (cube_in net.cubes cube) goal front in
    does_by net now (with_cube cube (after_enter (to_of goal) front) net.cubes) net.hosts net.slots links (entries.Shifted cube port goal) (steps.Shift cube port) now_is (record {
      chosen = λ view sees. ap (λ (t : Bool). unless_full (steps.Shift cube port) t (entries.Shifted cube port goal))
          (sym (inner_lacks net view cube goal false sees inner (sized.fits cube less).queue (lt-leb (cube_in net.cubes cube).size _ room)))
          ∙ shift_seen net view cube port direction front goal sees is;
      cubes_are = λ view sees. shift_cubes view net.cubes cube port goal front inner (front_is_first (view.inside (Port cube port)) front (port_front net view cube port direction (Some front) sees is.ends is.is_front));
      hosts_are = refl;
      slots_are = λ view sees. refl;
      piped_are = λ view sees. refl;
      links_are = λ view sees on. same_entries net.topology.links links (called net.topology.links direction LinkCall.take view.entries) (entries_after net.topology view (entries.Shifted cube port goal)) (take net.topology.links view.entries sees.shows.links)
          (λ link. taken_entries net.topology view (places.Port cube port) direction link front is.ends (is.is_front net.topology.links view.entries sees.shows.links) ∙ shift_links net.topology view cube port link goal inner);
      there = shift_entry_in net.cubes cube port goal less parts (shift_here net cube port direction front goal sized there is inner) inner;
      host = tt;
      sized = sized_cube net cube (after_enter (to_of goal) front (cube_in net.cubes cube)) links (entries.Shifted cube port goal) sized less kept.0 kept.1;
      idle = λ cause idle. absurd (cc);
    })

-- ---- on through another port

pub shift_out_may : (net : NetState) (cube port direction out onward : ℕ) (front : PacketFields) (links : List LinkHeld) → IsReady net → IsShifting net cube port direction front (goals.Port out) → IsWayOut net cube out (Some onward)
    → ((rows : List LinkRow) (entries : ℕ → List LinkEntry) → LinksStandFor rows net.links entries → LinksStandFor rows links (called rows direction LinkCall.take entries)) → MayHand links onward front
shift_out_may net cube port direction out onward front links ready is way take = record {
  rows = net.topology.links;
  entries = called net.topology.links direction LinkCall.take ready.view.entries;
  stand = take net.topology.links ready.view.entries ready.sees.shows.links;
  room = room_after net.topology ready.view direction onward front (is.is_front net.topology.links ready.view.entries ready.sees.shows.links) ∙ way_room net ready.view cube out onward ready.sees way;
  fit = way_taken (sizes_by net.topology.links onward).profile net.topology front (on_way net cube port direction front ready is.ends is.is_front) (goes_good net.topology cube front (goals.Port out) is.goes);
}

-- the direction onward is there after the take
pub onward_after : (net : NetState) (cube port direction out onward : ℕ) (links : List LinkHeld) → IsReady net → IsWayOut net cube out (Some onward)
    → ((rows : List LinkRow) (entries : ℕ → List LinkEntry) → LinksStandFor rows net.links entries → LinksStandFor rows links (called rows direction LinkCall.take entries)) → IsDirection links onward
onward_after net cube port direction out onward links ready way take =
    let own = starts_in net (places.Port cube out) onward ready (way.from onward refl) in
    let before = ready.sees.shows.links.count in
    let after = (take net.topology.links ready.view.entries ready.sees.shows.links).count in omega arith

pub shift_out_full : (net now : NetState) (cube port direction out : ℕ) (front : PacketFields) → IsSized net → IsShifting net cube port direction front (goals.Port out) → IsWayOut net cube out None → now ≡ record net { last = entries.Idle (steps.Shift cube port) causes.Full } → DoesStep net now (steps.Shift cube port)
shift_out_full net now cube port direction out front sized is way now_is =
    idle_does net now (steps.Shift cube port) (steps.Shift cube port) causes.Full now_is sized
    (λ view sees. ap (λ (t : Bool). unless_full (steps.Shift cube port) t (entries.Shifted cube port (goals.Port out))) (sym (way.room view sees)) ∙ shift_seen net view cube port direction front (goals.Port out) sees is)

pub shift_out_does : (net now : NetState) (cube port direction out onward : ℕ) (front : PacketFields) (taken links : List LinkHeld) → IsReady net → IsShifting net cube port direction front (goals.Port out) → IsWayOut net cube out (Some onward)
    → ((rows : List LinkRow) (entries : ℕ → List LinkEntry) → LinksStandFor rows net.links entries → LinksStandFor rows taken (called rows direction LinkCall.take entries))
    → ((rows : List LinkRow) (entries : ℕ → List LinkEntry) → LinksStandFor rows taken entries → LinksStandFor rows links (called rows onward (λ d. LinkCall.hand d front) entries))
    → now ≡ with_parts net net.cubes net.hosts links (entries.Shifted cube port (goals.Port out)) → DoesStep net now (steps.Shift cube port)
shift_out_does net now cube port direction out onward front taken links ready is way take hand now_is = does_by net now net.cubes net.hosts net.slots links (entries.Shifted cube port (goals.Port out)) (steps.Shift cube port) now_is (record {
  chosen = λ view sees. ap (λ (t : Bool). unless_full (steps.Shift cube port) t (entries.Shifted cube port (goals.Port out))) (sym (way.room view sees)) ∙ shift_seen net view cube port direction front (goals.Port out) sees is;
  cubes_are = λ view sees. refl;
  hosts_are = refl;
  slots_are = λ view sees. refl;
  piped_are = λ view sees. refl;
  links_are = λ view sees on.
      (let rows = net.topology.links in
      let after = called rows direction LinkCall.take view.entries in
      let fit = way_taken (sizes_by rows onward).profile net.topology front (on_way net cube port direction front ready is.ends is.is_front) (goes_good net.topology cube front (goals.Port out) is.goes) in
      same_entries rows links (called rows onward (λ d. LinkCall.hand d front) after) (entries_after net.topology view (entries.Shifted cube port (goals.Port out)))
      (hand rows after (take rows view.entries sees.shows.links))
      (λ link. called_puts rows onward link (λ d. LinkCall.hand d front) (λ _ d. LinkEntry.handed d front) after
      (handed_call (sizes_by rows onward) (after (onward / 2)) (toward onward) front (room_after net.topology view direction onward front (is.is_front net.topology.links view.entries sees.shows.links) ∙ way_room net view cube out onward sees way) (ap not fit.token))
      ∙ ap (λ (past : List LinkEntry). put_on link (Some onward) (λ d. LinkEntry.handed d front) past) (taken_entries net.topology view (places.Port cube port) direction link front is.ends (is.is_front net.topology.links view.entries sees.shows.links))
      ∙ ap₂ (λ (d : Option ℕ) (p : PacketFields). put_on link d (λ w. LinkEntry.handed w p) (put_on link (direction_to net.topology (places.Port cube port)) LinkEntry.taken (view.entries link)))
      (sym (way.from onward refl)) (sym (front_is_first (view.inside (Port cube port)) front (port_front net view cube port direction (Some front) sees is.ends is.is_front)))));
  there = tt;
  host = tt;
  sized = sized_links net links (entries.Shifted cube port (goals.Port out)) ready.sized;
  idle = λ cause idle. absurd (cc);
})

-- ---- lift

answers_seen : (net : NetState) (view : StepView) (cube : ℕ) (from : Lift) → Sees net view → answers_at (cube_in net.cubes cube) from ≡ view.inside (Answers cube from)
answers_seen net view cube from sees = sees.shows.queues (Answers cube from) tt

pub lift_here : (net : NetState) (cube : ℕ) (from : Lift) → IsSized net → IsLiftIn net.topology cube from → HasLift (cube_in net.cubes cube) from
lift_here net cube (lifts.Vault vault) sized there = subst (λ (s : ShapeFields). vault < 2 ^ s.vault_bits) (sym (sized.fits cube (cube_inside net cube sized there.some_cube)).shape) there.some_lift
lift_here net cube lifts.Registers sized there = tt

pub lift_none : (net now : NetState) (cube : ℕ) (from : Lift) → IsSized net → slice_get (answers_at (cube_in net.cubes cube) from) 0 ≡ None → now ≡ record net { last = entries.Idle (steps.Lift cube from) causes.Empty } → DoesStep net now (steps.Lift cube from)
unfolding choice
lift_none net now cube from sized none now_is =
    idle_does net now (steps.Lift cube from) (steps.Lift cube from) causes.Empty now_is sized
    (λ view sees. sym (front_none (steps.Lift cube from) (view.inside (Answers cube from)) _ (ap (λ (l : List PacketFields). slice_get l 0) (sym (answers_seen net view cube from sees)) ∙ none)))

lift_seen : (net : NetState) (view : StepView) (cube : ℕ) (from : Lift) (front : PacketFields) (port : ℕ) → Sees net view → slice_get (answers_at (cube_in net.cubes cube) from) 0 ≡ Some front → port_towards net.topology cube front.slid ≡ Some port
    → unless_full (steps.Lift cube from) (lacks_room net.topology view (output_from net.topology (places.Port cube port))) (entries.Lifted cube from port) ≡ choice net.topology view (steps.Lift cube from)
unfolding choice
lift_seen net view cube from front port sees some towards =
    sym (ap (lifted_entry net.topology view cube from) towards)
    ∙ sym (front_some (steps.Lift cube from) (view.inside (Answers cube from)) front (λ f. lifted_entry net.topology view cube from (port_towards net.topology cube f.slid)) (ap (λ (l : List PacketFields). slice_get l 0) (sym (answers_seen net view cube from sees)) ∙ some))

pub lift_answer : (net : NetState) (cube : ℕ) (from : Lift) (front : PacketFields) → IsReady net → slice_get (answers_at (cube_in net.cubes cube) from) 0 ≡ Some front → IsHostAnswer net.topology front
lift_answer net cube from front ready some =
    front_all (IsHostAnswer net.topology) (ready.view.inside (Answers cube from)) front (ap (λ (l : List PacketFields). slice_get l 0) (sym (answers_seen net ready.view cube from ready.sees)) ∙ some) (ready.sees.laws.answers cube from)

pub lift_full : (net now : NetState) (cube : ℕ) (from : Lift) (front : PacketFields) (port : ℕ) → IsSized net → slice_get (answers_at (cube_in net.cubes cube) from) 0 ≡ Some front → port_towards net.topology cube front.slid ≡ Some port → IsWayOut net cube port None
    → now ≡ record net { last = entries.Idle (steps.Lift cube from) causes.Full } → DoesStep net now (steps.Lift cube from)
lift_full net now cube from front port sized some towards way now_is =
    idle_does net now (steps.Lift cube from) (steps.Lift cube from) causes.Full now_is sized
    (λ view sees. ap (λ (t : Bool). unless_full (steps.Lift cube from) t (entries.Lifted cube from port)) (sym (way.room view sees)) ∙ lift_seen net view cube from front port sees some towards)

pub lift_may : (net : NetState) (cube : ℕ) (from : Lift) (front : PacketFields) (port onward : ℕ) → IsReady net → slice_get (answers_at (cube_in net.cubes cube) from) 0 ≡ Some front → IsWayOut net cube port (Some onward) → MayHand net.links onward front
lift_may net cube from front port onward ready some way = record {
  rows = net.topology.links;
  entries = ready.view.entries;
  stand = ready.sees.shows.links;
  room = way_room net ready.view cube port onward ready.sees way;
  fit = answer_taken (sizes_by net.topology.links onward).profile net.topology front (lift_answer net cube from front ready some);
}

-- the front that is found again is the same
pub lifting_again : (net : NetState) (cube : ℕ) (from : Lift) (port onward : ℕ) (found : PacketFields) → IsLifting net cube from port onward → slice_get (answers_at (cube_in net.cubes cube) from) 0 ≡ Some found → port_towards net.topology cube found.slid ≡ Some port
lifting_again net cube from port onward found lifting some =
    let is : Some lifting.front ≡ Some found = sym lifting.is_front ∙ some in
    let same : lifting.front ≡ found = cc in
    subst (λ (f : PacketFields). port_towards net.topology cube f.slid ≡ Some port) same lifting.towards

pub some_lifting : (net : NetState) (cube : ℕ) (from : Lift) (port onward : ℕ) → IsLifting net cube from port onward → slice_get (answers_at (cube_in net.cubes cube) from) 0 ≡ None → ⊥
some_lifting net cube from port onward lifting none =
    let is = sym lifting.is_front ∙ none in
    cc

lift_kept : (x : CubeFields) (from : Lift) → ((after_lift from x).state.shape ≡ x.state.shape) × ((after_lift from x).size ≡ x.size)
lift_kept x (lifts.Vault vault) = (refl, refl)
lift_kept x lifts.Registers = (refl, refl)

lift_entry_in : (cubes : List CubeFields) (cube port : ℕ) (from : Lift) → cube < length cubes → AreParts (cube_in cubes cube) → HasLift (cube_in cubes cube) from → IsEntryIn cubes (entries.Lifted cube from port)
lift_entry_in cubes cube port (lifts.Vault vault) there parts here = (there, subst (λ (n : ℕ). vault < n) (sym parts.vaults) here)
lift_entry_in cubes cube port lifts.Registers there parts here = (there, tt)

pub lift_does : (net now : NetState) (cube : ℕ) (from : Lift) (front : PacketFields) (port onward : ℕ) (links : List LinkHeld) → IsReady net → IsLiftIn net.topology cube from → AreParts (cube_in net.cubes cube) → slice_get (answers_at (cube_in net.cubes cube) from) 0 ≡ Some front
    → port_towards net.topology cube front.slid ≡ Some port → IsWayOut net cube port (Some onward)
    → ((rows : List LinkRow) (entries : ℕ → List LinkEntry) → LinksStandFor rows net.links entries → LinksStandFor rows links (called rows onward (λ d. LinkCall.hand d front) entries))
    → now ≡ with_parts net (with_cube cube (after_lift from) net.cubes) net.hosts links (entries.Lifted cube from port) → DoesStep net now (steps.Lift cube from)
lift_does net now cube from front port onward links ready there parts some towards way hand now_is =
    let sized = ready.sized in
    let less = cube_inside net cube sized there.some_cube in
    let kept = lift_kept (cube_in net.cubes cube) from in
    let fit = answer_taken (sizes_by net.topology.links onward).profile net.topology front (lift_answer net cube from front ready some) in
    does_by net now (with_cube cube (after_lift from) net.cubes) net.hosts net.slots links (entries.Lifted cube from port) (steps.Lift cube from) now_is (record {
      chosen = λ view sees. ap (λ (t : Bool). unless_full (steps.Lift cube from) t (entries.Lifted cube from port)) (sym (way.room view sees)) ∙ lift_seen net view cube from front port sees some towards;
      cubes_are = λ view sees. refl;
      hosts_are = refl;
      slots_are = λ view sees. refl;
      piped_are = λ view sees. refl;
      links_are = λ view sees on. same_entries net.topology.links links (called net.topology.links onward (λ d. LinkCall.hand d front) view.entries) (entries_after net.topology view (entries.Lifted cube from port)) (hand net.topology.links view.entries sees.shows.links)
          (λ link. called_puts net.topology.links onward link (λ d. LinkCall.hand d front) (λ _ d. LinkEntry.handed d front) view.entries
          (handed_call (sizes_by net.topology.links onward) (view.entries (onward / 2)) (toward onward) front (way_room net view cube port onward sees way) (ap not fit.token))
          ∙ ap₂ (λ (d : Option ℕ) (p : PacketFields). put_on link d (λ w. LinkEntry.handed w p) (view.entries link)) (sym (way.from onward refl))
          (sym (front_is_first (view.inside (Answers cube from)) front (ap (λ (l : List PacketFields). slice_get l 0) (sym (answers_seen net view cube from sees)) ∙ some))));
      there = lift_entry_in net.cubes cube port from less parts (lift_here net cube from sized there);
      host = tt;
      sized = sized_cube net cube (after_lift from (cube_in net.cubes cube)) links (entries.Lifted cube from port) sized less kept.0 kept.1;
      idle = λ cause idle. absurd (cc);
    })
