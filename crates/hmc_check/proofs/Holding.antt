-- What is kept after a step, by what each part is after its entry.
use Rattle.std.proofs.Common.{◌≡◌, ◌<◌, ◌∙◌, ℕ, false, Option, List, ◌∷◌, length, refl, sym, subst, append-nil}
use Rattle.std.specs.Prelude.{slice_index_or, ◌/◌}
use Rattle.hmc_routes.specs.Directions.{other}
use Rattle.hmc_packet.specs.Packet.{PacketFields}
use Rattle.hmc_units.specs.Unit.{UnitFields}
use Rattle.hmc_host.specs.Host.{HostFields}
use Rattle.hmc_send.specs.LinkEntries.{LinkEntry, receiver_entries}
use Rattle.hmc_serial.specs.Machine.{State, machine_of}
use Rattle.hmc_schedule.specs.declared.step.Step.{Step}
use Rattle.hmc_entries.specs.declared.outcome.Cause.{Cause}
use Rattle.hmc_entries.specs.declared.entry.Entry.{Entry}
use Rattle.hmc_entries.specs.declared.entry.Entry.TheVariants.{Idle}
use Rattle.hmc_entries.specs.Event.{is_passed}
use Rattle.hmc_journal.specs.Directions.{receiver_of}
use Rattle.hmc_journal.specs.Hosts.{host_of}
use Rattle.hmc_journal.specs.Lawful.{Follows, Lawful}
use Rattle.hmc_journal.specs.Links.{toward, entries_on, link_entries}
use Rattle.hmc_journal.specs.Next.{next}
use Rattle.hmc_journal.specs.Queues.{QueueId, leaves, enters}
use Rattle.hmc_journal.specs.Setup.{Topology, Setup, directions_in}
use Rattle.hmc_journal.specs.StepView.{view_of}
use Rattle.hmc_journal.proofs.EntryRule.{EntryRule, next_rule}
use Rattle.hmc_journal.proofs.Moves.{arrives}
use Rattle.hmc_kept.specs.Hosts.{hosts_after, IsHostIn, host_in}
use Rattle.hmc_kept.specs.After.{pipes_after, entries_after}
use Rattle.hmc_kept.specs.Pipes.{AreCounted}
use Rattle.hmc_journal.proofs.DirectionEnds.{ends_at}
use Rattle.hmc_kept.proofs.Laws.{law_bound}
use Rattle.hmc_kept.proofs.PipedThen.{ArePiped, piped_then}
use Rattle.hmc_kept.proofs.LawsShown.{IsLawBound, laws_kept}
use Rattle.hmc_case.specs.declared.setup.LinkRow.{LinkRow}
use Rattle.hmc_ends.specs.End.{EndFields}
use Rattle.hmc_ends.specs.StandsFor.{EndsStandFor}
use Rattle.hmc_directions.specs.Ends.{EndsHold}
use Rattle.hmc_kept.specs.Called.{sizes_by}
use Rattle.hmc_check.specs.Inside.{inside_of}
use Rattle.hmc_kept.specs.InCubes.{IsCubeQueue}
use Rattle.hmc_check.specs.Kept.{KeepsInner, moved, worked}
use Rattle.hmc_check.specs.Past.{PastFields, PastParts, past_of, IsSized, Holds, IsNextStep, IsNextOfSome, IsTaken, TakesStep}
use Rattle.hmc_check.proofs.Inner.{inner_then}
use Rattle.hmc_kept.specs.Shown.{KeepsLaws, ShowsPipes}
use Rattle.hmc_kept.proofs.Leaving.{hosts_then, entries_then, lawful_pipes}

-- ---- from the network: hosts, links and pipes after an entry

-- ---- links

-- ---- the packets that are forwarded

-- ---- what is kept inside cubes

pub inner_same : (setup : Setup) (past : List Entry) (inside other : QueueId → List PacketFields) (state here : State) → ((q : QueueId) → IsCubeQueue q → other q ≡ inside q) → here ≡ state → KeepsInner setup past (record { inside = inside; state = state }) → KeepsInner setup past (record { inside = other; state = here })
inner_same setup past inside other state here same is keeps = record {
  queues = λ q inner. same q inner ∙ keeps.queues q inner;
  moves = keeps.moves;
  state = is ∙ keeps.state;
}

-- ---- all parts

-- what an entry leaves of each part
pub record IsAfter (setup : Setup) (past : List Entry) (old new : PastFields) (entry : Entry) : Type 0 where
  pub topology : new.topology ≡ old.topology
  pub queues : (q : QueueId) → IsCubeQueue q → inside_of new.queues q ≡ moved (leaves past entry) (arrives setup.topology past entry) (inside_of old.queues) q
  pub state : machine_of new.cubes new.slots ≡ worked entry (machine_of old.cubes old.slots)
  pub hosts : new.hosts ≡ hosts_after entry old.hosts
  pub host : IsHostIn old.hosts entry
  pub piped : new.piped ≡ pipes_after setup.topology (view_of setup past) entry old.piped
  pub ends : is_passed entry ≡ false → EndsHold setup.topology.links new.ends (entries_after setup.topology (view_of setup past) entry)
  pub sized : IsSized new

lawful_then : (setup : Setup) (past : List Entry) (old : PastFields) (step : Step) (entry : Entry) → IsNextStep setup past old step → entry ≡ next setup past step → Lawful setup (entry ∷ past)
unfolding Lawful
lawful_then setup past old step entry is next_is = (is.goes_on, subst (λ s. Follows setup past s entry) (sym is.step_is) next_is, is.holds.lawful)

pub same_hold : (rows : List LinkRow) (ends : List EndFields) (entries now : ℕ → List LinkEntry) → ((link : ℕ) → entries link ≡ now link) → EndsHold rows ends entries → EndsHold rows ends now
same_hold rows ends entries now same hold = record {
  count = hold.count;
  stand = λ at d less. subst (λ (l : List LinkEntry). EndsStandFor (sizes_by rows at) (toward at) (slice_index_or ends at d) (slice_index_or ends (other at) d) l) (same (at / 2)) (hold.stand at d less);
}

pub law_of : (setup : Setup) (past : List Entry) (p : PastFields) → Holds setup past p → IsLawBound setup past
law_of setup past p holds = law_bound setup past holds.network holds.lawful

pub laws_of : (setup : Setup) (past : List Entry) (p : PastFields) → Holds setup past p → KeepsLaws setup.topology (view_of setup past)
laws_of setup past p holds = laws_kept setup past (law_of setup past p holds)

-- the packets that are kept as forwarded are those that are seen
pub pipes_of : (setup : Setup) (past : List Entry) (p : PastFields) → Holds setup past p → ShowsPipes setup.topology (view_of setup past) p.piped
unfolding view_of
pipes_of setup past p holds = record {
  counted = subst (λ (t : Topology). AreCounted (directions_in t) p.piped) holds.topology holds.sized.piped;
  forwarded = holds.forwarded;
  pipes = holds.pipes;
}

pub holds_after : (setup : Setup) (past : List Entry) (old new : PastFields) (step : Step) (entry : Entry) → IsNextStep setup past old step → entry ≡ next setup past step → EntryRule setup past entry → IsAfter setup past old new entry → Holds setup (entry ∷ past) new
holds_after setup past old new step entry is next_is rule after =
    let holds = is.holds in
    let law = law_of setup past old holds in
    let receivers : (d : ℕ) → d < directions_in setup.topology → receiver_of d past ≡ receiver_entries (toward d) (entries_on setup.topology d past) = λ d inside. (law.queues.links d inside).receiver in
    let are : ArePiped setup.topology past old.piped = record { counted = subst (λ (t : Topology). AreCounted (directions_in t) old.piped) holds.topology holds.sized.piped; forwarded = holds.forwarded; pipes = holds.pipes } in
    let after_pipes : ArePiped setup.topology (entry ∷ past) new.piped = subst (ArePiped setup.topology (entry ∷ past)) (sym after.piped) (piped_then setup past entry old.piped holds.network rule (lawful_pipes setup past law receivers) receivers are) in
    record {
      network = holds.network;
      steps = holds.steps;
      topology = after.topology ∙ holds.topology;
      sized = after.sized;
      lawful = lawful_then setup past old step entry is next_is;
      inner = inner_same setup (entry ∷ past) _ (inside_of new.queues) _ (machine_of new.cubes new.slots) after.queues after.state (inner_then setup past entry (record { inside = inside_of old.queues; state = machine_of old.cubes old.slots }) rule holds.inner);
      hosts = subst (λ (l : List HostFields). (host : ℕ) → host < length l → host_in l host ≡ host_of setup (entry ∷ past) host) (sym after.hosts) (hosts_then setup past entry old.hosts after.host holds.hosts);
      forwarded = after_pipes.forwarded;
      pipes = after_pipes.pipes;
      ends = λ on. same_hold setup.topology.links new.ends (entries_after setup.topology (view_of setup past) entry) (λ link. link_entries setup.topology link (entry ∷ past))
          (λ link. entries_then setup past entry link (λ d place to. receivers d (ends_at setup.topology place d to).there)) (after.ends on);
    }

-- a step whose entry this is
pub record IsDone (setup : Setup) (past : List Entry) (old new : PastFields) (step : Step) : Type 0 where
  pub entry : Entry
  pub last : new.last ≡ entry
  pub is_next : entry ≡ next setup past step
  pub after : IsAfter setup past old new entry

taken_by : (setup : Setup) (past : List Entry) (old new : PastFields) (step : Step) → IsNextStep setup past old step → IsDone setup past old new step → IsTaken setup past new step
taken_by setup past old new step is done = record {
  holds = subst (λ (e : Entry). Holds setup (e ∷ past) new) done.is_next
      (holds_after setup past old new step done.entry is done.is_next (subst (EntryRule setup past) (sym done.is_next) (next_rule setup past step is.step_is)) done.after);
  last = done.last ∙ done.is_next;
}

pub takes : (old new : PastFields) (step : Step) → ((setup : Setup) (past : List Entry) → IsNextStep setup past old step → IsDone setup past old new step) → new.tally ≡ old.tally → TakesStep old new step
takes old new step does tally = record { taken = λ setup past is. taken_by setup past old new step is (does setup past is); tally = tally }

-- ---- an idle step

view_entries : (setup : Setup) (past : List Entry) (old : PastFields) → EndsHold setup.topology.links old.ends (λ link. link_entries setup.topology link past) → EndsHold setup.topology.links old.ends (view_of setup past).entries
unfolding view_of
view_entries setup past old hold = hold

pub ends_stay : (setup : Setup) (past : List Entry) (old : PastFields) (step : Step) → IsNextStep setup past old step → EndsHold setup.topology.links old.ends (view_of setup past).entries
ends_stay setup past old step is = view_entries setup past old (is.holds.ends is.goes_on)

pub idle_queues : (setup : Setup) (past : List Entry) (here : Step) (cause : Cause) (inside : QueueId → List PacketFields) (q : QueueId) → inside q ≡ moved (leaves past (Idle here cause)) (arrives setup.topology past (Idle here cause)) inside q
unfolding leaves enters
idle_queues setup past here cause inside q = sym (append-nil (inside q))

idle_after : (setup : Setup) (past : List Entry) (old : PastFields) (step here : Step) (cause : Cause) → IsNextStep setup past old step → IsAfter setup past old (record old { last = Idle here cause }) (Idle here cause)
idle_after setup past old step here cause is =
    let sized = is.holds.sized in record {
      topology = refl;
      queues = λ q inner. idle_queues setup past here cause (inside_of old.queues) q;
      state = refl;
      hosts = refl;
      host = tt;
      piped = refl;
      ends = λ on. ends_stay setup past old step is;
      sized = record { queues = sized.queues; fits = sized.fits; cubes = sized.cubes; hosts = sized.hosts; ends = sized.ends; piped = sized.piped };
    }

pub idle_takes : (old new : PastFields) (step here : Step) (cause : Cause) → new ≡ record old { last = Idle here cause } → ((setup : Setup) (past : List Entry) → IsNextStep setup past old step → Idle here cause ≡ next setup past step) → TakesStep old new step
idle_takes old new step here cause now is_idle =
    subst (λ (p : PastFields). TakesStep old p step) (sym now)
    (takes old (record old { last = Idle here cause }) step (λ setup past is. record { entry = Idle here cause; last = refl; is_next = is_idle setup past is; after = idle_after setup past old step here cause is }) refl)

-- the same by what is inside
pub of_parts : {B : Type 0} (slots : B → List (Option UnitFields)) (v w : PastParts B) (new : PastFields) (step : Step) → v ≡ w → TakesStep (past_of slots v) new step → TakesStep (past_of slots w) new step
of_parts slots v w new step same does = subst (λ (p : PastParts _). TakesStep (past_of slots p) new step) same does

pub some_of : {B : Type 0} (slots : B → List (Option UnitFields)) (v w : PastParts B) (step : Step) → v ≡ w → IsNextOfSome (past_of slots w) step → IsNextOfSome (past_of slots v) step
some_of slots v w step same some = subst (λ (p : PastParts _). IsNextOfSome (past_of slots p) step) (sym same) some
