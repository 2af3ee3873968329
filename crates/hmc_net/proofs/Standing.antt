-- A network that stands for a journal stands for it with one more entry.
use Rattle.std.proofs.Common.{◌≡◌, ◌<◌, ◌+◌, ◌^◌, ◌∙◌, ℕ, suc, Bool, true, false, if◌then◌else◌, Option, Some, None, List, ◌∷◌, length, map, refl, sym, ap, ap₂, subst, arith}
use Rattle.std.specs.Prelude.{slice_set}
use Rattle.std.proofs.lemmas.Option.{slice_get_within}
use Rattle.std.proofs.lemmas.List.{map-set}
use Rattle.std.proofs.Math.Seq.{map-set_same}
use Rattle.std.proofs.Math.ListN.{get_or-map}
use Rattle.hmc_codes.specs.Request.{RequestFields}
use Rattle.hmc_codes.specs.declared.lift.Lift.TheVariants as lifts
use Rattle.hmc_codes.specs.declared.unit.Unit.{Unit as RequestUnit}
use Rattle.hmc_codes.specs.declared.unit.Unit.TheVariants as units
use Rattle.hmc_codes.specs.declared.answer.Answer.{Answer}
use Rattle.hmc_units.specs.Unit.{UnitFields}
use Rattle.hmc_serial.specs.Cube.{CubeState}
use Rattle.hmc_serial.specs.Machine.{State, apply, retire, cube_state_at}
use Rattle.hmc_serial.specs.Perform.{perform_on}
use Rattle.hmc_crossbar.specs.declared.to.To.TheVariants as tos
use Rattle.hmc_vault.specs.declared.execute.Executed.TheVariants.{Ran}
use Rattle.hmc_vault.specs.declared.spread.Spread.TheVariants.{Moved}
use Rattle.hmc_cube.specs.Cube.{CubeFields}
use Rattle.hmc_cube.specs.After.{after_enter, after_spread, after_execute, after_registers, after_lift}
use Rattle.hmc_host.specs.Host.{HostFields}
use Rattle.hmc_schedule.specs.declared.step.Step.{Step}
use Rattle.hmc_entries.specs.declared.outcome.Goal.TheVariants as goals
use Rattle.hmc_entries.specs.declared.entry.Entry.{Entry}
use Rattle.hmc_entries.specs.declared.entry.Entry.TheVariants.{Gave, Sent, Landed, Shifted, Dropped, Spread, Executed, Lifted, Took, Discarded, Through, Unlocked, Retired, Passed, Idle}
use Rattle.hmc_entries.specs.declared.outcome.Cause.{Cause}
use Rattle.hmc_entries.specs.declared.event.Event.TheVariants as events
use Rattle.hmc_entries.specs.Event.{event_of, cause_of, is_passed}
use Rattle.hmc_journal.specs.Hosts.{host_of}
use Rattle.hmc_journal.specs.Lawful.{Follows, Lawful}
use Rattle.hmc_send.specs.LinkEntries.{receiver_entries}
use Rattle.hmc_journal.specs.Directions.{receiver_of}
use Rattle.hmc_journal.specs.Links.{toward, entries_on, link_entries}
use Rattle.hmc_journal.specs.Next.{next}
use Rattle.hmc_journal.specs.Queues.{front_of, tag_number}
use Rattle.hmc_journal.specs.Queues.QueueId.{Port}
use Rattle.hmc_journal.specs.Serial.{state_after}
use Rattle.hmc_journal.specs.Setup.{Topology, Setup, unit_cube, directions_in}
use Rattle.hmc_journal.specs.StepView.{StepView, state_of, view_of}
use Rattle.hmc_journal.proofs.EntryRule.{EntryRule, next_rule}
use Rattle.hmc_net.specs.Apply.{after_unit, cubes_after, IsAfter, DoesStep, IsEntryIn, with_cube}
use Rattle.hmc_kept.specs.Hosts.{hosts_after, IsHostIn, host_in}
use Rattle.hmc_kept.specs.After.{slots_after, pipes_after, entries_after}
use Rattle.hmc_links.specs.LinkList.{LinksStandFor}
use Rattle.hmc_net.specs.NetState.{NetState, cube_in, no_cube, inside, machine_in}
use Rattle.hmc_kept.specs.Pipes.{AreCounted}
use Rattle.hmc_net.specs.Sees.{Sees}
use Rattle.hmc_net.specs.Stands.{StandsFor, IsNext}
use Rattle.hmc_tally.specs.Tally.{TallyFields, IsWithin, tallied, step_changes, unlocks_good}
use Rattle.hmc_net.specs.Went.{went_by, went_of}
use Rattle.hmc_net.specs.declared.went.Went.{Went}
use Rattle.hmc_net.specs.declared.went.Went.TheVariants as wents
use Rattle.hmc_net.proofs.CubeMoves.{moves_of}
use Rattle.hmc_journal.proofs.DirectionEnds.{ends_at}
use Rattle.hmc_kept.proofs.PipedThen.{ArePiped, piped_then}
use Rattle.hmc_links.proofs.LinkCalls.{same_entries}
use Rattle.hmc_kept.proofs.InCubes.{left_by_rule, within_step}
use Rattle.hmc_net.proofs.Moves.{queues_step}
use Rattle.hmc_kept.proofs.LawsShown.{IsLawBound}
use Rattle.hmc_net.proofs.Seeing.{sees_of, choice_seen}
use Rattle.hmc_tally.proofs.TallyLaw.{IsToldBy, tally_next}
use Rattle.hmc_kept.proofs.Telling.{told_by}
use Rattle.hmc_kept.proofs.Leaving.{hosts_then, entries_then, lawful_pipes}
use Rattle.hmc_kept.proofs.Units.{IsOwn, own_of}

-- ---- the plain machine

-- a change of a cube that leaves its state
state_same : (cubes : List CubeFields) (slots : List (Option UnitFields)) (c : ℕ) (f : CubeFields → CubeFields) → (f (cube_in cubes c)).state ≡ (cube_in cubes c).state → machine_in (with_cube c f cubes) slots ≡ machine_in cubes slots
state_same cubes slots c f same = ap {B = State} (λ (l : List CubeState). record { cubes = l; slots = slots }) (map-set_same (λ (x : CubeFields). x.state) cubes c (f (cube_in cubes c)) no_cube same)

pub state_at : (cubes : List CubeFields) (slots : List (Option UnitFields)) (c : ℕ) → cube_state_at (machine_in cubes slots) c ≡ (cube_in cubes c).state
state_at cubes slots c = get_or-map (λ (x : CubeFields). x.state) cubes c no_cube

-- an execution leaves of the machine what it leaves of its cube and of the logic units
state_run : (cubes : List CubeFields) (slots : List (Option UnitFields)) (c : ℕ) (f : CubeFields → CubeFields) (request : RequestFields) → request.cube ≡ c → (f (cube_in cubes c)).state ≡ (perform_on (cube_in cubes c).state slots request).cube
    → machine_in (with_cube c f cubes) (perform_on (cube_state_at (machine_in cubes slots) c) slots request).slots ≡ apply (machine_in cubes slots) request
unfolding apply
state_run cubes slots c f request own run =
    let left = (perform_on (cube_state_at (machine_in cubes slots) c) slots request).slots in
    ap {B = State} (λ (l : List CubeState). record { cubes = l; slots = left }) (map-set (λ (x : CubeFields). x.state) cubes c (f (cube_in cubes c)))
    ∙ ap {B = State} (λ (s : CubeState). record { cubes = slice_set (map (λ (x : CubeFields). x.state) cubes) c s; slots = left }) (run ∙ ap (λ (s : CubeState). (perform_on s slots request).cube) (sym (state_at cubes slots c)))
    ∙ ap {B = State} (λ (n : ℕ). record { cubes = slice_set (map (λ (x : CubeFields). x.state) cubes) n (perform_on (cube_state_at (machine_in cubes slots) n) slots request).cube; slots = (perform_on (cube_state_at (machine_in cubes slots) n) slots request).slots }) (sym own)

-- what the step saw of the machine is what it has
seen_first : (view : StepView) (cubes : List CubeFields) (slots : List (Option UnitFields)) (unit : RequestUnit) (host : ℕ) (tag : Option ℕ) (request : RequestFields) (answer : Answer) → view.state ≡ machine_in cubes slots
    → machine_in (after_unit unit (Executed unit host tag request answer) view.state.slots cubes) (perform_on (cube_state_at view.state (unit_cube unit)) slots request).slots
    ≡ machine_in (after_unit unit (Executed unit host tag request answer) slots cubes) (perform_on (cube_state_at (machine_in cubes slots) (unit_cube unit)) slots request).slots
seen_first view cubes slots unit host tag request answer seen =
    ap (λ (s : State). machine_in (after_unit unit (Executed unit host tag request answer) s.slots cubes) (perform_on (cube_state_at s (unit_cube unit)) slots request).slots) seen

state_then : (view : StepView) (setup : Setup) (past : List Entry) (entry : Entry) (cubes : List CubeFields) (slots : List (Option UnitFields)) → IsOwn entry → view.state ≡ machine_in cubes slots → machine_in cubes slots ≡ state_of setup past
    → machine_in (cubes_after view entry cubes) (slots_after view entry slots) ≡ state_of setup (entry ∷ past)
unfolding state_of state_after retire
state_then view setup past (Executed (units.Bank cube vault bank) host tag request answer) cubes slots own seen same =
    seen_first view cubes slots (units.Bank cube vault bank) host tag request answer seen ∙ state_run cubes slots cube (after_execute vault bank (Ran host (tag_number tag) request answer) slots) request own refl ∙ ap (λ (s : State). apply s request) same
state_then view setup past (Executed (units.Registers cube) host tag request answer) cubes slots own seen same =
    seen_first view cubes slots (units.Registers cube) host tag request answer seen ∙ state_run cubes slots cube (after_registers (Ran host (tag_number tag) request answer) slots) request own refl ∙ ap (λ (s : State). apply s request) same
state_then view setup past (Retired slot) cubes slots own seen same = ap (λ (s : State). retire s slot) same
state_then view setup past (Shifted cube port (goals.Vault vault)) cubes slots own seen same = state_same cubes slots cube (after_enter (tos.Vault vault) (front_of (view.inside (Port cube port)))) refl ∙ same
state_then view setup past (Shifted cube port goals.Registers) cubes slots own seen same = state_same cubes slots cube (after_enter tos.Registers (front_of (view.inside (Port cube port)))) refl ∙ same
state_then view setup past (Shifted cube port (goals.Port out)) cubes slots own seen same = same
state_then view setup past (Spread cube vault bank) cubes slots own seen same = state_same cubes slots cube (after_spread vault (Moved bank)) refl ∙ same
state_then view setup past (Lifted cube (lifts.Vault vault) port) cubes slots own seen same = state_same cubes slots cube (after_lift (lifts.Vault vault)) refl ∙ same
state_then view setup past (Lifted cube lifts.Registers port) cubes slots own seen same = state_same cubes slots cube (after_lift lifts.Registers) refl ∙ same
state_then view setup past (Gave host tag poisoned request) cubes slots own seen same = same
state_then view setup past (Sent direction what flit) cubes slots own seen same = same
state_then view setup past (Landed direction flit outcome) cubes slots own seen same = same
state_then view setup past (Dropped cube port) cubes slots own seen same = same
state_then view setup past (Took host tag answer) cubes slots own seen same = same
state_then view setup past (Discarded host) cubes slots own seen same = same
state_then view setup past (Through cube port direction) cubes slots own seen same = same
state_then view setup past (Unlocked direction) cubes slots own seen same = same
state_then view setup past (Passed direction flit) cubes slots own seen same = same
state_then view setup past (Idle step cause) cubes slots own seen same = same

-- ---- the journal

lawful_then : (net : NetState) (past : List Entry) (setup : Setup) (step : Step) (entry : Entry) → IsNext net setup past step → entry ≡ next setup past step → Lawful setup (entry ∷ past)
unfolding Lawful
lawful_then net past setup step entry is next_is = (is.goes_on, subst (λ s. Follows setup past s entry) (sym is.step_is) next_is, is.stands.lawful)

pub chosen_next : (net now : NetState) (past : List Entry) (setup : Setup) (step : Step) → IsNext net setup past step → IsLawBound setup past → DoesStep net now step → now.last ≡ next setup past step
chosen_next net now past setup step is law does =
    does.entry (view_of setup past) (sees_of net past setup is.stands is.goes_on law) ∙ choice_seen net past setup step is.stands

stands_by : (net now : NetState) (tally : TallyFields) (changed was_good : Bool) (past : List Entry) (setup : Setup) (step : Step) (entry : Entry) → entry ≡ now.last → IsNext net setup past step → IsLawBound setup past → entry ≡ next setup past step → EntryRule setup past entry → DoesStep net now step
    → tally ≡ tallied changed was_good (event_of entry) net.tally → IsToldBy setup.topology past changed was_good entry → IsWithin (length past + 1) tally
    → StandsFor (record now { tally = tally }) setup (entry ∷ past)
stands_by net now tally changed was_good past setup step entry last is law next_is rule does tally_is told within =
    let stands = is.stands in
    let view = view_of setup past in
    let sees = sees_of net past setup stands is.goes_on law in
    let after : IsAfter view net now = does.parts view sees in
    let there : IsEntryIn net.cubes entry = subst (IsEntryIn net.cubes) (sym last) does.there in
    let cubes : now.cubes ≡ cubes_after view entry net.cubes = after.cubes ∙ ap (λ (e : Entry). cubes_after view e net.cubes) (sym last) in
    let hosts : now.hosts ≡ hosts_after entry net.hosts = after.hosts ∙ ap (λ (e : Entry). hosts_after e net.hosts) (sym last) in
    let slots : now.slots ≡ slots_after view entry net.slots = after.slots ∙ ap (λ (e : Entry). slots_after view e net.slots) (sym last) in
    let moved = moves_of setup past entry net.cubes rule stands.queues there in
    let receivers : (d : ℕ) → d < directions_in setup.topology → receiver_of d past ≡ receiver_entries (toward d) (entries_on setup.topology d past) = λ d inside. (law.queues.links d inside).receiver in
    let piped : now.piped ≡ pipes_after setup.topology view entry net.piped = after.piped ∙ ap₂ (λ (t : Topology) (e : Entry). pipes_after t view e net.piped) stands.topology (sym last) in
    let are : ArePiped setup.topology past net.piped = record { counted = subst (λ (t : Topology). AreCounted (directions_in t) net.piped) stands.topology stands.sized.piped; forwarded = stands.forwarded; pipes = stands.pipes } in
    let next : ArePiped setup.topology (entry ∷ past) now.piped = subst (ArePiped setup.topology (entry ∷ past)) (sym piped) (piped_then setup past entry net.piped stands.network rule (lawful_pipes setup past law receivers) receivers are) in
    let left_is = left_by_rule setup past entry rule in
    record {
      network = stands.network;
      steps = stands.steps;
      topology = after.topology ∙ stands.topology;
      sized = record { cubes = does.sized.cubes; hosts = does.sized.hosts; fits = does.sized.fits; piped = does.sized.piped };
      lawful = lawful_then net past setup step entry is next_is;
      queues = λ queue cube. ap (λ (l : List CubeFields). inside l queue) cubes ∙ moved.same queue ∙ queues_step setup.topology past entry net.cubes left_is moved.there moved.going queue cube (stands.moves queue cube) (stands.queues queue cube);
      moves = λ queue cube. within_step setup.topology past entry queue cube left_is (stands.moves queue cube);
      state = ap₂ machine_in cubes slots ∙ state_then view setup past entry net.cubes net.slots (own_of setup past entry law rule) (sym sees.shows.state) stands.state;
      hosts = subst (λ (l : List HostFields). (host : ℕ) → host < length l → host_in l host ≡ host_of setup (entry ∷ past) host) (sym hosts) (hosts_then setup past entry net.hosts (subst (IsHostIn net.hosts) (sym last) does.host) stands.hosts);
      forwarded = next.forwarded;
      pipes = next.pipes;
      links = λ on. same_entries setup.topology.links now.links (entries_after setup.topology view entry) (λ link. link_entries setup.topology link (entry ∷ past))
          (subst (λ (t : Topology). LinksStandFor t.links now.links (entries_after t view entry)) stands.topology
          (subst (λ (e : Entry). LinksStandFor net.topology.links now.links (entries_after net.topology view e)) (sym last) (after.links (ap is_passed (sym last) ∙ on)))) (λ link. entries_then setup past entry link (λ d place is. receivers d (ends_at setup.topology place d is).there));
      few = stands.few;
      within = (let more : length past + 1 ≡ suc (length past) = omega arith in subst (λ (n : ℕ). IsWithin n tally) more within);
      tally = λ on. tally_is ∙ ap (tallied changed was_good (event_of entry)) (stands.tally is.goes_on) ∙ tally_next setup.topology past entry changed was_good on told;
    }

-- the network stands for the journal with the entry of the step
pub stands_stepped : (net now : NetState) (tally : TallyFields) (was_good : Bool) (past : List Entry) (setup : Setup) (step : Step) → IsNext net setup past step → IsLawBound setup past → DoesStep net now step
    → ((view : StepView) → Sees net view → was_good ≡ unlocks_good view step) → tally ≡ tallied (step_changes step) was_good (event_of now.last) now.tally → ((most : ℕ) → IsWithin most now.tally → IsWithin (most + 1) tally)
    → StandsFor (record now { tally = tally }) setup (next setup past step ∷ past)
stands_stepped net now tally was_good past setup step is law does good tally_is within =
    let last = chosen_next net now past setup step is law does in
    let told = told_by past setup step law is.stands.steps is.step_is in
    let good_is : was_good ≡ unlocks_good (view_of setup past) step = good (view_of setup past) (sees_of net past setup is.stands is.goes_on law) in
    stands_by net now tally (step_changes step) was_good past setup step (next setup past step) (sym last) is law refl (next_rule setup past step is.step_is) does
    (tally_is ∙ ap (λ (e : Entry). tallied (step_changes step) was_good (event_of e) now.tally) last ∙ ap (tallied (step_changes step) was_good (event_of (next setup past step))) does.tally)
    (subst (λ (g : Bool). IsToldBy setup.topology past (step_changes step) g (next setup past step)) (sym good_is) told)
    (within (length past) (subst (IsWithin (length past)) (sym does.tally) is.stands.within))

-- the next step can be counted
pub countable : (net now : NetState) (past : List Entry) (setup : Setup) (step : Step) → IsNext net setup past step → DoesStep net now step → (most : ℕ) × (most + 1 < 2 ^ 32) × IsWithin most now.tally
countable net now past setup step is does =
    (length past, (let some = slice_get_within setup.schedule (length past) step is.step_is in let few = is.stands.few in omega arith), subst (IsWithin (length past)) (sym does.tally) is.stands.within)

-- an idle step is not counted
idle_other : (entry : Entry) (cause : Cause) → cause_of entry ≡ Some cause → event_of entry ≡ events.Other
idle_other (Idle step why) cause is = refl
idle_other (Gave host tag poisoned request) cause is = absurd (cc)
idle_other (Sent direction what flit) cause is = absurd (cc)
idle_other (Landed direction flit outcome) cause is = absurd (cc)
idle_other (Dropped cube port) cause is = absurd (cc)
idle_other (Executed unit host tag request answer) cause is = absurd (cc)
idle_other (Took host tag answer) cause is = absurd (cc)
idle_other (Unlocked direction) cause is = absurd (cc)
idle_other _ cause is = refl

pub idle_stays : (net now : NetState) (tally : TallyFields) (changed was_good : Bool) (cause : Cause) (step : Step) → DoesStep net now step → cause_of now.last ≡ Some cause → tally ≡ tallied changed was_good (event_of now.last) now.tally
    → ◌≡◌ {A = NetState} (record now { tally = tally }) (record net { last = now.last })
idle_stays net now tally changed was_good cause step does is tally_is =
    let none : tally ≡ net.tally = tally_is ∙ ap (λ e. tallied changed was_good e now.tally) (idle_other now.last cause is) ∙ does.tally in
    ap (λ (n : NetState). record n { tally = tally }) (does.idle cause is) ∙ ap (λ (t : TallyFields). record net { last = now.last; tally = t }) none

-- a step that is idle has a cause
idle_cause : (passed : Bool) (found : Option Cause) (cause : Cause) → (if passed then wents.Passed else went_by found) ≡ wents.Idle cause → found ≡ Some cause
idle_cause true found cause is = absurd (cc)
idle_cause false None cause is = absurd (cc)
idle_cause false (Some why) cause is = cc

pub went_cause : (entry : Entry) (cause : Cause) → went_of entry ≡ wents.Idle cause → cause_of entry ≡ Some cause
went_cause entry cause is = idle_cause (is_passed entry) (cause_of entry) cause is

-- and nothing is counted of it
pub idle_uncounted : (entry : Entry) (went : Went) (cause : Cause) (changed was_good : Bool) (tally : TallyFields) → went ≡ went_of entry → went ≡ wents.Idle cause → tally ≡ tallied changed was_good (event_of entry) tally
idle_uncounted entry went cause changed was_good tally is idle =
    ap (λ e. tallied changed was_good e tally) (sym (idle_other entry cause (went_cause entry cause (sym is ∙ idle))))
