-- What a step does of a network, part by part.
use Rattle.std.proofs.Common.{◌≡◌, ℕ, false, Option, Some, List, refl, sym, ap, subst, arith}
use Rattle.hmc_codes.specs.declared.place.Place.{Place}
use Rattle.hmc_units.specs.Unit.{UnitFields}
use Rattle.hmc_serial.specs.Machine.{State}
use Rattle.hmc_cube.specs.Cube.{CubeFields}
use Rattle.hmc_host.specs.Host.{HostFields}
use Rattle.hmc_link.specs.Held.{LinkHeld}
use Rattle.hmc_schedule.specs.declared.step.Step.{Step}
use Rattle.hmc_entries.specs.declared.outcome.Cause.{Cause}
use Rattle.hmc_entries.specs.declared.entry.Entry.{Entry}
use Rattle.hmc_entries.specs.declared.entry.Entry.TheVariants.{Idle}
use Rattle.hmc_entries.specs.Event.{cause_of, is_passed}
use Rattle.hmc_journal.specs.Links.{direction_to}
use Rattle.hmc_journal.specs.Next.{choice}
use Rattle.hmc_journal.specs.Setup.{directions_in, direction_from}
use Rattle.hmc_journal.specs.StepView.{StepView}
use Rattle.hmc_net.specs.Apply.{cubes_after, DoesStep, IsEntryIn}
use Rattle.hmc_kept.specs.Hosts.{hosts_after, IsHostIn}
use Rattle.hmc_kept.specs.After.{slots_after, pipes_after, entries_after}
use Rattle.hmc_kept.specs.Pipes.{PipesHeld, AreCounted}
use Rattle.hmc_links.specs.LinkList.{LinksStandFor, IsDirection}
use Rattle.hmc_net.specs.NetState.{NetState}
use Rattle.hmc_net.specs.Sees.{Sees, IsSized, IsReady}
use Rattle.hmc_journal.proofs.DirectionEnds.{starts_there, ends_at}

-- a network with other parts and another last entry
abbrev pub with_all : NetState → List CubeFields → List HostFields → List (Option UnitFields) → List LinkHeld → Entry → NetState
with_all net cubes hosts slots links entry = record net { cubes = cubes; hosts = hosts; slots = slots; links = links; last = entry }

-- the same where the logic units stay
abbrev pub with_parts : NetState → List CubeFields → List HostFields → List LinkHeld → Entry → NetState
with_parts net cubes hosts links entry = with_all net cubes hosts net.slots links entry

-- what a step has to show of its parts
pub record IsDone (net : NetState) (cubes : List CubeFields) (hosts : List HostFields) (slots : List (Option UnitFields)) (links : List LinkHeld) (entry : Entry) (step : Step) : Type 0 where
  pub chosen : (view : StepView) → Sees net view → entry ≡ choice net.topology view step
  pub cubes_are : (view : StepView) → Sees net view → cubes ≡ cubes_after view entry net.cubes
  pub hosts_are : hosts ≡ hosts_after entry net.hosts
  pub slots_are : (view : StepView) → Sees net view → slots ≡ slots_after view entry net.slots
  pub piped_are : (view : StepView) → Sees net view → net.piped ≡ pipes_after net.topology view entry net.piped
  pub links_are : (view : StepView) → Sees net view → is_passed entry ≡ false → LinksStandFor net.topology.links links (entries_after net.topology view entry)
  pub there : IsEntryIn net.cubes entry
  pub host : IsHostIn net.hosts entry
  pub sized : IsSized (with_all net cubes hosts slots links entry)
  pub idle : (cause : Cause) → cause_of entry ≡ Some cause → with_all net cubes hosts slots links entry ≡ record net { last = entry }

pub does_by : (net now : NetState) (cubes : List CubeFields) (hosts : List HostFields) (slots : List (Option UnitFields)) (links : List LinkHeld) (entry : Entry) (step : Step) → now ≡ with_all net cubes hosts slots links entry → IsDone net cubes hosts slots links entry step → DoesStep net now step
does_by net now cubes hosts slots links entry step same done = subst (λ (n : NetState). DoesStep net n step) (sym same) (record {
  entry = done.chosen;
  parts = λ view sees. record { topology = refl; cubes = done.cubes_are view sees; hosts = done.hosts_are; slots = done.slots_are view sees; piped = done.piped_are view sees; links = done.links_are view sees };
  there = done.there;
  host = done.host;
  sized = done.sized;
  tally = refl;
  idle = done.idle;
})

-- the sizes stay where the cubes do
pub sized_links : (net : NetState) (links : List LinkHeld) (entry : Entry) → IsSized net → IsSized (with_parts net net.cubes net.hosts links entry)
sized_links net links entry sized = record { cubes = sized.cubes; hosts = sized.hosts; fits = sized.fits; piped = sized.piped }

-- and where other logic units are left
pub sized_units : (net : NetState) (slots : List (Option UnitFields)) → IsSized net → IsSized (record net { slots = slots })
sized_units net slots sized = record { cubes = sized.cubes; hosts = sized.hosts; fits = sized.fits; piped = sized.piped }

-- the logic units are those that are seen
pub units_seen : (net : NetState) (view : StepView) → Sees net view → net.slots ≡ view.state.slots
units_seen net view sees = ap (λ (s : State). s.slots) sees.shows.state

-- what a step has to show that changes links and pipes alone
pub record IsLinkDone (net : NetState) (links : List LinkHeld) (piped : PipesHeld) (entry : Entry) (step : Step) : Type 0 where
  pub chosen : (view : StepView) → Sees net view → entry ≡ choice net.topology view step
  pub cubes_are : (view : StepView) → net.cubes ≡ cubes_after view entry net.cubes
  pub hosts_are : net.hosts ≡ hosts_after entry net.hosts
  pub slots_are : (view : StepView) → net.slots ≡ slots_after view entry net.slots
  pub piped_are : (view : StepView) → Sees net view → piped ≡ pipes_after net.topology view entry net.piped
  pub links_are : (view : StepView) → Sees net view → is_passed entry ≡ false → LinksStandFor net.topology.links links (entries_after net.topology view entry)
  pub there : IsEntryIn net.cubes entry
  pub host : IsHostIn net.hosts entry
  pub counted : AreCounted (directions_in net.topology) piped
  pub idle : (cause : Cause) → cause_of entry ≡ Some cause → ◌≡◌ {A = NetState} (record net { links = links; piped = piped; last = entry }) (record net { last = entry })

pub links_do : (net now : NetState) (links : List LinkHeld) (piped : PipesHeld) (entry : Entry) (step : Step) → IsSized net → now ≡ record net { links = links; piped = piped; last = entry } → IsLinkDone net links piped entry step → DoesStep net now step
links_do net now links piped entry step sized same done = subst (λ (n : NetState). DoesStep net n step) (sym same) (record {
  entry = done.chosen;
  parts = λ view sees. record { topology = refl; cubes = done.cubes_are view; hosts = done.hosts_are; slots = done.slots_are view; piped = done.piped_are view sees; links = done.links_are view sees };
  there = done.there;
  host = done.host;
  sized = record { cubes = sized.cubes; hosts = sized.hosts; fits = sized.fits; piped = done.counted };
  tally = refl;
  idle = done.idle;
})

-- an idle step
pub idle_does : (net now : NetState) (step here : Step) (cause : Cause) → now ≡ record net { last = Idle here cause } → IsSized net → ((view : StepView) → Sees net view → Idle here cause ≡ choice net.topology view step) → DoesStep net now step
idle_does net now step here cause same sized chosen = does_by net now net.cubes net.hosts net.slots net.links (Idle here cause) step same (record {
  chosen = chosen;
  cubes_are = λ view sees. refl;
  hosts_are = refl;
  slots_are = λ view sees. refl;
  piped_are = λ view sees. refl;
  links_are = λ view sees on. sees.shows.links;
  there = tt;
  host = tt;
  sized = sized_links net net.links (Idle here cause) sized;
  idle = λ why is. refl;
})

-- ---- directions and places

-- the direction that starts, or ends, at a place is one of the network's links
pub starts_in : (net : NetState) (place : Place) (d : ℕ) → IsReady net → direction_from net.topology place ≡ Some d → IsDirection net.links d
starts_in net place d ready is = omega (arith, starts_there net.topology place d is, ready.sees.shows.links.count)

pub ends_in : (net : NetState) (place : Place) (d : ℕ) → IsReady net → direction_to net.topology place ≡ Some d → IsDirection net.links d
ends_in net place d ready is = omega (arith, (ends_at net.topology place d is).there, ready.sees.shows.links.count)
