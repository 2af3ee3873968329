-- A network and its journal.
use Rattle.std.specs.Prelude.{◌≡◌, ◌≤◌, false, length, slice_get, List, Option, Some}
use Rattle.hmc_units.specs.Unit.{UnitFields}
use Rattle.hmc_schedule.specs.declared.step.Step.{Step}
use Rattle.hmc_entries.specs.Journal.{JournalFields}
use Rattle.hmc_journal.specs.Lawful.{has_passed}
use Rattle.hmc_journal.specs.Setup.{Setup}
use Rattle.hmc_net.specs.NetState.{NetState, NetParts, net_of}
use Rattle.hmc_net.specs.Stands.{StandsFor}

-- the network, and the entries of all its steps
pub record JournaledNet : Type 0 where
  pub network : NetState
  pub journal : JournalFields

-- the same with the bench itself
pub record JournaledParts (B : Type 0) : Type 0 where
  pub network : NetParts B
  pub journal : JournalFields

-- the slots of the bench are those that its type shows
abbrev pub journaled_of : {B : Type 0} → (slots : B → List (Option UnitFields)) →
    JournaledParts B → JournaledNet
journaled_of slots parts =
    record { network = net_of slots parts.network; journal = parts.journal }

-- the network stands for the case and the journal, which has room for an entry of each step
pub record NetStandsFor (net : JournaledNet) (setup : Setup) : Type 0 where
  pub stands : StandsFor net.network setup net.journal.past
  pub most : length setup.schedule ≤ net.journal.most

-- and this is the next step of the case's schedule; no landing passed
pub record IsNetNext (net : JournaledNet) (setup : Setup) (step : Step) : Type 0 where
  pub stands : NetStandsFor net setup
  pub goes_on : has_passed net.journal.past ≡ false
  pub step_is : slice_get setup.schedule (length net.journal.past) ≡ Some step
