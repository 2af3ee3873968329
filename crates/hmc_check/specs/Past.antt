-- What a check keeps of the lines so far, when it is what the journal of these lines says, and what
-- each step has to do.
use Rattle.std.specs.Prelude.{◌≡◌, ◌<◌, ◌^◌, ℕ, false, List, All, length, ◌∷◌, slice_get, slice_index_or, Option, Some}
use Rattle.hmc_host.specs.Host.{HostFields}
use Rattle.hmc_ends.specs.End.{EndFields}
use Rattle.hmc_schedule.specs.declared.step.Step.{Step}
use Rattle.hmc_serial.specs.Cube.{CubeState}
use Rattle.hmc_serial.specs.Machine.{machine_of}
use Rattle.hmc_units.specs.Unit.{UnitFields}
use Rattle.hmc_entries.specs.declared.entry.Entry.{Entry}
use Rattle.hmc_journal.specs.Hosts.{host_of}
use Rattle.hmc_journal.specs.Lawful.{Lawful, has_passed}
use Rattle.hmc_journal.specs.Links.{link_entries}
use Rattle.hmc_journal.specs.Network.{IsNetwork}
use Rattle.hmc_journal.specs.Next.{next}
use Rattle.hmc_journal.specs.Piped.{forwarded_onto, pipe_onto}
use Rattle.hmc_journal.specs.Setup.{Topology, Setup, cube_setup, cubes_in, hosts_in, directions_in}
use Rattle.hmc_kept.specs.Hosts.{host_in}
use Rattle.hmc_kept.specs.Pipes.{PipesHeld, AreCounted, forwarded_at, pipe_at}
use Rattle.hmc_wiring.specs.Ready.{IsStepFor}
use Rattle.hmc_queues.specs.Queues.{CubeQueuesFields, queues_at}
use Rattle.hmc_directions.specs.Ends.{EndsHold}
use Rattle.hmc_tally.specs.Tally.{TallyFields, IsWithin, tally_of}
use Rattle.hmc_check.specs.Inside.{inside_of, QueuesFit}
use Rattle.hmc_check.specs.Kept.{KeepsInner}

-- the queues inside cubes; the cubes and the logic units of a plain machine; the hosts; the ends of
-- the links, by the directions in which they send; the packets that are forwarded; what is counted;
-- and the entry of the latest line
pub record PastFields : Type 0 where
  pub topology : Topology
  pub queues : List CubeQueuesFields
  pub cubes : List CubeState
  pub slots : List (Option UnitFields)
  pub hosts : List HostFields
  pub ends : List EndFields
  pub piped : PipesHeld
  pub tally : TallyFields
  pub last : Entry

-- the same with the bench itself
pub record PastParts (B : Type 0) : Type 0 where
  pub topology : Topology
  pub queues : List CubeQueuesFields
  pub cubes : List CubeState
  pub bench : B
  pub hosts : List HostFields
  pub ends : List EndFields
  pub piped : PipesHeld
  pub tally : TallyFields
  pub last : Entry

-- the slots of a bench are those that its type shows
abbrev pub past_of : {B : Type 0} → (slots : B → List (Option UnitFields)) → PastParts B →
    PastFields
past_of slots parts = record {
  topology = parts.topology;
  queues = parts.queues;
  cubes = parts.cubes;
  slots = slots parts.bench;
  hosts = parts.hosts;
  ends = parts.ends;
  piped = parts.piped;
  tally = parts.tally;
  last = parts.last;
}

-- the parts are as many and as large as the topology says
pub record IsSized (p : PastFields) : Type 0 where
  pub queues : length p.queues ≡ cubes_in p.topology
  pub fits : (cube : ℕ) → cube < length p.queues →
      QueuesFit (cube_setup p.topology cube) (queues_at p.queues cube)
  pub cubes : length p.cubes ≡ cubes_in p.topology
  pub hosts : length p.hosts ≡ hosts_in p.topology
  pub ends : length p.ends ≡ directions_in p.topology
  pub piped : AreCounted (directions_in p.topology) p.piped

-- The parts are as this lawful journal of the case says. Nothing is said of the ends once a landing
-- passed.
pub record Holds (setup : Setup) (past : List Entry) (p : PastFields) : Type 0 where
  pub network : IsNetwork setup
  pub steps : All (IsStepFor setup.topology) setup.schedule
  pub topology : p.topology ≡ setup.topology
  pub sized : IsSized p
  pub lawful : Lawful setup past
  pub inner : KeepsInner setup past
      (record { inside = inside_of p.queues; state = machine_of p.cubes p.slots })
  pub hosts : (host : ℕ) → host < length p.hosts → host_in p.hosts host ≡ host_of setup past host
  pub forwarded : (direction : ℕ) → direction < directions_in setup.topology →
      forwarded_at p.piped direction ≡ forwarded_onto setup.topology direction past
  pub pipes : (direction : ℕ) → direction < directions_in setup.topology →
      pipe_at p.piped direction ≡ pipe_onto setup.topology direction past
  pub ends : has_passed past ≡ false →
      EndsHold setup.topology.links p.ends (λ link. link_entries setup.topology link past)

-- what is counted is what the journal counts: no more than its entries, which are few
pub record Counts (setup : Setup) (past : List Entry) (tally : TallyFields) : Type 0 where
  pub few : length setup.schedule < 2 ^ 32
  pub within : IsWithin (length past) tally
  pub counted : has_passed past ≡ false → tally ≡ tally_of setup.topology past

-- both
pub record Keeps (setup : Setup) (past : List Entry) (p : PastFields) : Type 0 where
  pub holds : Holds setup past p
  pub counts : Counts setup past p.tally

-- and this is the next step of the case's schedule; no landing passed
pub record IsNextStep (setup : Setup) (past : List Entry) (p : PastFields) (step : Step)
    : Type 0 where
  pub holds : Holds setup past p
  pub goes_on : has_passed past ≡ false
  pub step_is : slice_get setup.schedule (length past) ≡ Some step

-- the parts are as the journal with the next entry says, which is the entry of the latest line
pub record IsTaken (setup : Setup) (past : List Entry) (new : PastFields) (step : Step)
    : Type 0 where
  pub holds : Holds setup (next setup past step ∷ past) new
  pub last : new.last ≡ next setup past step

-- What each step has to do, by the journal's table of steps. It isn't counted yet.
pub record TakesStep (old new : PastFields) (step : Step) : Type 0 where
  pub taken : (setup : Setup) (past : List Entry) → IsNextStep setup past old step →
      IsTaken setup past new step
  pub tally : new.tally ≡ old.tally

-- some case and lines of which this is the next step
pub record IsNextOfSome (p : PastFields) (step : Step) : Type 0 where
  pub setup : Setup
  pub past : List Entry
  pub is : IsNextStep setup past p step
