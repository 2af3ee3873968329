-- The step land.
use Rattle.std.proofs.Common.{◌≡◌, ◌<◌, ◌/◌, ◌∙◌, ℕ, Bool, true, false, Some, List, length, refl, sym, ap, subst}
use Rattle.std.specs.Prelude.{slice_get}
use Rattle.hmc_codes.specs.Flit.{zero_flit}
use Rattle.hmc_case.specs.declared.setup.LinkRow.{LinkRow}
use Rattle.hmc_packet.specs.Packet.{PacketFields}
use Rattle.hmc_send.specs.LinkCalls.{LinkCall}
use Rattle.hmc_send.specs.LinkCalls as calls
use Rattle.hmc_send.specs.LinkEntries.{LinkEntry}
use Rattle.hmc_send.specs.LinkLines.{StampedFlit, line}
use Rattle.hmc_ends.specs.End.{EndFields}
use Rattle.hmc_ends.specs.Outcomes.{front_outcome, outcome_passed}
use Rattle.hmc_ends.specs.declared.link_outcome.LinkOutcome.{LinkOutcome}
use Rattle.hmc_ends.specs.declared.link_outcome.LinkOutcome.TheVariants as lands
use Rattle.hmc_serial.specs.Machine.{machine_of}
use Rattle.hmc_schedule.specs.declared.step.Step.{Step}
use Rattle.hmc_schedule.specs.declared.step.Step.TheVariants as steps
use Rattle.hmc_entries.specs.declared.outcome.Cause.TheVariants as causes
use Rattle.hmc_entries.specs.declared.entry.Entry.{Entry}
use Rattle.hmc_entries.specs.declared.entry.Entry.TheVariants.{Landed, Passed}
use Rattle.hmc_journal.specs.Links.{toward, entries_on, sizes_on}
use Rattle.hmc_journal.specs.Next.{choice, next}
use Rattle.hmc_journal.specs.Queues.{QueueId, leaves}
use Rattle.hmc_journal.specs.Setup.{Topology, Setup, directions_in}
use Rattle.hmc_journal.specs.StepView.{view_of}
use Rattle.hmc_journal.proofs.LinkKept.{line-flit}
use Rattle.hmc_journal.proofs.Moves.{arrives}
use Rattle.hmc_kept.specs.After.{entries_after, pipes_after}
use Rattle.hmc_kept.specs.Hosts.{hosts_after, IsHostIn}
use Rattle.hmc_kept.specs.LinkAnswers.{landed_by, landing_goes_on, after_landing, IsCameFlit}
use Rattle.hmc_kept.specs.Called.{taken_where, sizes_by, called}
use Rattle.hmc_kept.specs.Pipes.{IsLastOf, forwarded_at}
use Rattle.hmc_kept.proofs.Called.{taken_calls}
use Rattle.hmc_kept.proofs.Landing.{passed_same, landed_on, landed_entries, taken_after, landed_same, holds_landed}
use Rattle.hmc_kept.proofs.PipeLemmas.{landing_counted}
use Rattle.hmc_directions.specs.Ends.{EndsHold, HoldSome}
use Rattle.hmc_check.specs.Inside.{inside_of}
use Rattle.hmc_kept.specs.InCubes.{IsCubeQueue}
use Rattle.hmc_check.specs.Kept.{moved, worked}
use Rattle.hmc_check.specs.Past.{PastFields, Holds, IsNextStep, TakesStep, IsNextOfSome}
use Rattle.hmc_check.proofs.Holding.{takes, ends_stay, law_of, same_hold, idle_queues, laws_of, pipes_of}
use Rattle.hmc_check.proofs.Outer.{outer_queues}
use Rattle.hmc_check.proofs.Sending.{inside_is}
use Rattle.hmc_check.proofs.Spreading.{step_there}
use Rattle.hmc_kept.proofs.Forwarded.{is_last}

-- ---- the entry

-- what a landing gives, by the entries of its link
abbrev pub IsLanding : List LinkRow → (direction : ℕ) → (mask : List ℕ) → (ℕ → List LinkEntry) → LinkOutcome → Type 0
IsLanding rows direction mask entries landed = landed ≡ front_outcome (sizes_by rows direction) (toward direction) (entries (direction / 2)) mask (slice_get (line (sizes_by rows direction).profile (toward direction) (entries (direction / 2))) 0)

land_next : (setup : Setup) (past : List Entry) (direction : ℕ) (mask : List ℕ) (landed : LinkOutcome) → IsLanding setup.topology.links direction mask (view_of setup past).entries landed → landed_by direction landed ≡ next setup past (steps.Land direction mask)
unfolding next choice
land_next setup past direction mask landed is =
    ap (landed_by direction) is ∙ landed_same direction (sizes_by setup.topology.links direction) (toward direction) ((view_of setup past).entries (direction / 2)) mask _ refl

-- ---- the parts that stay

landed_queues : (setup : Setup) (past : List Entry) (direction : ℕ) (landed : LinkOutcome) (inside : QueueId → List PacketFields) (q : QueueId) → IsCubeQueue q → inside q ≡ moved (leaves past (landed_by direction landed)) (arrives setup.topology past (landed_by direction landed)) inside q
landed_queues setup past direction lands.Empty inside q inner = idle_queues setup past (steps.Land direction zero_flit) causes.Empty inside q
landed_queues setup past direction (lands.Passed flit) inside q inner = outer_queues setup.topology past (Passed direction flit) inside q tt inner
landed_queues setup past direction (lands.Came flit landed) inside q inner = outer_queues setup.topology past (Landed direction flit landed) inside q tt inner

landed_stay : (direction : ℕ) (landed : LinkOutcome) (setup : Setup) (past : List Entry) (old : PastFields) → (old.hosts ≡ hosts_after (landed_by direction landed) old.hosts) × IsHostIn old.hosts (landed_by direction landed) × (after_landing direction landed old.piped ≡ pipes_after setup.topology (view_of setup past) (landed_by direction landed) old.piped) × (machine_of old.cubes old.slots ≡ worked (landed_by direction landed) (machine_of old.cubes old.slots))
landed_stay direction lands.Empty setup past old = (refl, tt, refl, refl)
landed_stay direction (lands.Passed flit) setup past old = (refl, tt, refl, refl)
landed_stay direction (lands.Came flit landed) setup past old = (refl, tt, refl, refl)

-- ---- the entries of a link after a landing, before what goes on is taken

-- ---- what is kept is what is seen

pub forwarded_seen : (setup : Setup) (past : List Entry) (p : PastFields) (direction : ℕ) → Holds setup past p → direction < directions_in setup.topology → forwarded_at p.piped direction ≡ (view_of setup past).forwarded direction
unfolding view_of
forwarded_seen setup past p direction holds there = holds.forwarded direction there

line_long : (setup : Setup) (past : List Entry) (p : PastFields) (direction : ℕ) (front : StampedFlit) → Holds setup past p → direction < directions_in setup.topology
    → slice_get (line (sizes_by setup.topology.links direction).profile (toward direction) ((view_of setup past).entries (direction / 2))) 0 ≡ Some front → length front.flit ≡ 16
unfolding view_of
line_long setup past p direction front holds there at =
    (line-flit (sizes_on setup.topology direction) (entries_on setup.topology direction past) (toward direction) front ((law_of setup past p holds).queues.links direction there).kept at).long

-- ---- what goes on is the front of its buffer

-- ---- a packet that came whole has all its flits

-- ---- conditions of the calls

-- what the ends say of a landing
abbrev pub Answers : List EndFields → (direction : ℕ) → (mask : List ℕ) → LinkOutcome → Type 0
Answers ends direction mask landed = (rows : List LinkRow) (entries : ℕ → List LinkEntry) → EndsHold rows ends entries → IsLanding rows direction mask entries landed

abbrev pub Stands : List EndFields → List EndFields → (direction : ℕ) → (mask : List ℕ) → LinkOutcome → Type 0
Stands ends between direction mask landed = (rows : List LinkRow) (entries : ℕ → List LinkEntry) → EndsHold rows ends entries → outcome_passed landed ≡ false → EndsHold rows between (called rows direction (λ d. LinkCall.land d mask) entries)

pub hold_between : (p : PastFields) (step : Step) (direction : ℕ) (mask flit : List ℕ) (landed : _) (between : List EndFields) → IsNextOfSome p step → Stands p.ends between direction mask (lands.Came flit landed) → HoldSome between
hold_between p step direction mask flit landed between some stand = record {
  rows = some.setup.topology.links;
  entries = called some.setup.topology.links direction (λ d. LinkCall.land d mask) (view_of some.setup some.past).entries;
  hold = stand some.setup.topology.links (view_of some.setup some.past).entries (ends_stay some.setup some.past p step some.is) refl;
}

pub last_landing : (p : PastFields) (step : Step) (direction : ℕ) (mask flit : List ℕ) (landed : _) → IsNextOfSome p step → direction < directions_in p.topology → Answers p.ends direction mask (lands.Came flit landed) → IsLastOf p.piped direction landed
last_landing p step direction mask flit landed some there answer =
    let setup = some.setup in
    let past = some.past in
    let holds = some.is.holds in
    is_last setup.topology (view_of setup past) p.piped direction mask (lands.Came flit landed) (laws_of setup past p holds) (pipes_of setup past p holds) (inside_is p step direction setup past some.is there)
    (answer setup.topology.links (view_of setup past).entries (ends_stay setup past p step some.is))

-- ---- land

ends_after : (setup : Setup) (past : List Entry) (old : PastFields) (direction : ℕ) (mask : List ℕ) (landed : LinkOutcome) (between ends : List EndFields) → IsNextStep setup past old (steps.Land direction mask) → direction < directions_in setup.topology → length mask ≡ 16 → IsCameFlit landed
    → Answers old.ends direction mask landed → Stands old.ends between direction mask landed
    → ((rows : List LinkRow) (entries : ℕ → List LinkEntry) → EndsHold rows between entries → EndsHold rows ends (taken_where (landing_goes_on old.piped direction landed) rows direction entries))
    → outcome_passed landed ≡ false → EndsHold setup.topology.links ends (entries_after setup.topology (view_of setup past) (landed_by direction landed))
ends_after setup past old direction mask landed between ends is there long size answer stand take fine =
    let rows = setup.topology.links in
    let view = view_of setup past in
    let before = ends_stay setup past old (steps.Land direction mask) is in
    let says = answer rows view.entries before in
    let entry = landed_by direction landed in
    let here : (link : ℕ) → called rows direction (λ d. LinkCall.land d mask) view.entries link ≡ landed_on setup.topology view entry link = λ link.
    landed_entries setup.topology view direction link mask _ refl long
    (λ f at. line_long setup past old direction f is.holds there at)
    (sym (ap outcome_passed says) ∙ fine)
    ∙ ap (λ (l : LinkOutcome). landed_on setup.topology view (landed_by direction l) link) (sym says) in
    same_hold rows ends (taken_where (landing_goes_on old.piped direction landed) rows direction (landed_on setup.topology view entry)) (entries_after setup.topology view entry)
    (λ link. taken_calls rows direction link (landing_goes_on old.piped direction landed) (landed_on setup.topology view entry) (holds_landed setup.topology view old.piped direction mask landed (laws_of setup past old is.holds) there (forwarded_seen setup past old direction is.holds there) says size)
    ∙ taken_after setup.topology view old.piped direction link landed (forwarded_seen setup past old direction is.holds there))
    (take rows (landed_on setup.topology view entry) (same_hold rows between (called rows direction (λ d. LinkCall.land d mask) view.entries) (landed_on setup.topology view entry) here (stand rows view.entries before fine)))

count_by : (setup : Setup) (past : List Entry) (old : PastFields) (step : Step) (ends : List EndFields) (passed : Bool) (entries : ℕ → List LinkEntry) → IsNextStep setup past old step → (passed ≡ true → length ends ≡ length old.ends) → (passed ≡ false → EndsHold setup.topology.links ends entries) → length ends ≡ directions_in old.topology
count_by setup past old step ends true entries is same hold = same refl ∙ is.holds.sized.ends
count_by setup past old step ends false entries is same hold = subst (λ (t : Topology). length ends ≡ directions_in t) (sym is.holds.topology) (hold refl).count

pub land_takes : (old new : PastFields) (direction : ℕ) (mask : List ℕ) (landed : LinkOutcome) (between ends : List EndFields) → IsCameFlit landed
    → Answers old.ends direction mask landed → Stands old.ends between direction mask landed
    → ((rows : List LinkRow) (entries : ℕ → List LinkEntry) → EndsHold rows between entries → EndsHold rows ends (taken_where (landing_goes_on old.piped direction landed) rows direction entries))
    → (outcome_passed landed ≡ true → length ends ≡ length old.ends)
    → new ≡ record old { ends = ends; piped = after_landing direction landed old.piped; last = landed_by direction landed } → TakesStep old new (steps.Land direction mask)
land_takes old new direction mask landed between ends size answer stand take same now =
    subst (λ (p : PastFields). TakesStep old p (steps.Land direction mask)) (sym now)
    (takes old _ (steps.Land direction mask) (λ setup past is.
    let sized = is.holds.sized in
    let for = step_there setup past old (steps.Land direction mask) is in
    let there = inside_is old (steps.Land direction mask) direction setup past is for.some_direction in
    let before = ends_stay setup past old (steps.Land direction mask) is in
    let stays = landed_stay direction landed setup past old in
    let hold = ends_after setup past old direction mask landed between ends is there for.long size answer stand take in
    record {
      entry = landed_by direction landed;
      last = refl;
      is_next = land_next setup past direction mask landed (answer setup.topology.links (view_of setup past).entries before);
      after = record {
        topology = refl;
        queues = λ q inner. landed_queues setup past direction landed (inside_of old.queues) q inner;
        state = stays.3;
        hosts = stays.0;
        host = stays.1;
        piped = stays.2;
        ends = λ on. hold (sym (passed_same direction landed) ∙ on);
        sized = record {
          queues = sized.queues;
          fits = sized.fits;
          cubes = sized.cubes;
          hosts = sized.hosts;
          ends = count_by setup past old (steps.Land direction mask) ends (outcome_passed landed) _ is same hold;
          piped = landing_counted old.piped direction (directions_in old.topology) landed sized.piped;
        };
      };
    }) refl)
