-- When a network stands for a case and the journal of its steps.
use Rattle.std.specs.Prelude.{◌≡◌, ◌≤◌, ◌<◌, ◌^◌, ℕ, false, List, All, length, slice_get, Some}
use Rattle.hmc_schedule.specs.declared.step.Step.{Step}
use Rattle.hmc_entries.specs.declared.entry.Entry.{Entry}
use Rattle.hmc_journal.specs.Hosts.{host_of}
use Rattle.hmc_journal.specs.Lawful.{Lawful, has_passed}
use Rattle.hmc_journal.specs.Links.{link_entries}
use Rattle.hmc_journal.specs.Network.{IsNetwork}
use Rattle.hmc_journal.specs.Queues.{QueueId, left, entered, contents}
use Rattle.hmc_journal.specs.Piped.{forwarded_onto, pipe_onto}
use Rattle.hmc_journal.specs.Setup.{Setup, directions_in}
use Rattle.hmc_journal.specs.StepView.{state_of}
use Rattle.hmc_links.specs.LinkList.{LinksStandFor}
use Rattle.hmc_kept.specs.Pipes.{forwarded_at, pipe_at}
use Rattle.hmc_net.specs.NetState.{NetState, inside, machine_in}
use Rattle.hmc_kept.specs.InCubes.{IsCubeQueue}
use Rattle.hmc_kept.specs.Hosts.{host_in}
use Rattle.hmc_wiring.specs.Ready.{IsStepFor}
use Rattle.hmc_net.specs.Sees.{IsSized}
use Rattle.hmc_tally.specs.Tally.{IsWithin, tally_of}

-- The parts of the network are as this journal says, which is a lawful journal of the case, and the
-- steps of the case are steps of its parts. Each link stands for the entries that the journal has
-- of it, and what is counted is what the journal counts: no more than its entries, which are fewer
-- than 2 ^ 32. Nothing is said of the links and of the counts once a landing passed.
pub record StandsFor (net : NetState) (setup : Setup) (past : List Entry) : Type 0 where
  pub network : IsNetwork setup
  pub steps : All (IsStepFor setup.topology) setup.schedule
  pub topology : net.topology ≡ setup.topology
  pub sized : IsSized net
  pub lawful : Lawful setup past
  pub queues : (queue : QueueId) → IsCubeQueue queue →
      inside net.cubes queue ≡ contents setup.topology past queue
  pub moves : (queue : QueueId) → IsCubeQueue queue →
      left past queue ≤ length (entered setup.topology past queue)
  pub state : machine_in net.cubes net.slots ≡ state_of setup past
  pub hosts : (host : ℕ) → host < length net.hosts →
      host_in net.hosts host ≡ host_of setup past host
  pub forwarded : (direction : ℕ) → direction < directions_in setup.topology →
      forwarded_at net.piped direction ≡ forwarded_onto setup.topology direction past
  pub pipes : (direction : ℕ) → direction < directions_in setup.topology →
      pipe_at net.piped direction ≡ pipe_onto setup.topology direction past
  pub links : has_passed past ≡ false →
      LinksStandFor setup.topology.links net.links
      (λ link. link_entries setup.topology link past)
  pub few : length setup.schedule < 2 ^ 32
  pub within : IsWithin (length past) net.tally
  pub tally : has_passed past ≡ false → net.tally ≡ tally_of setup.topology past

-- and this is the next step of the case's schedule; no landing passed
pub record IsNext (net : NetState) (setup : Setup) (past : List Entry)
    (step : Step) : Type 0 where
  pub stands : StandsFor net setup past
  pub goes_on : has_passed past ≡ false
  pub step_is : slice_get setup.schedule (length past) ≡ Some step
