-- What an entry leaves of the parts of a network.
use Rattle.std.specs.Prelude.{◌≡◌, ℕ, false, List, slice_set, Option, Some}
use Rattle.hmc_codes.specs.declared.unit.Unit.{Unit as RequestUnit}
use Rattle.hmc_codes.specs.declared.unit.Unit.TheVariants as units
use Rattle.hmc_units.specs.Unit.{UnitFields}
use Rattle.hmc_crossbar.specs.declared.to.To.{To}
use Rattle.hmc_crossbar.specs.declared.to.To.TheVariants as tos
use Rattle.hmc_vault.specs.declared.execute.Executed.TheVariants.{Ran}
use Rattle.hmc_vault.specs.declared.spread.Spread.TheVariants.{Moved}
use Rattle.hmc_cube.specs.Cube.{CubeFields}
use Rattle.hmc_cube.specs.After.{after_enter, after_spread, after_execute, after_registers, after_lift}
use Rattle.hmc_schedule.specs.declared.step.Step.{Step}
use Rattle.hmc_entries.specs.declared.outcome.Cause.{Cause}
use Rattle.hmc_entries.specs.declared.outcome.Goal.{Goal}
use Rattle.hmc_entries.specs.declared.outcome.Goal.TheVariants as goals
use Rattle.hmc_entries.specs.declared.entry.Entry.{Entry}
use Rattle.hmc_entries.specs.declared.entry.Entry.TheVariants.{Shifted, Spread, Executed, Lifted}
use Rattle.hmc_entries.specs.Event.{is_passed, cause_of}
use Rattle.hmc_journal.specs.Next.{choice}
use Rattle.hmc_journal.specs.Queues.{front_of, tag_number, queue_of}
use Rattle.hmc_journal.specs.Queues.QueueId.{Port, Vault, Bank, Registers, Answers}
use Rattle.hmc_journal.specs.StepView.{StepView}
use Rattle.hmc_links.specs.LinkList.{LinksStandFor}
use Rattle.hmc_net.specs.NetState.{NetState, cube_in, IsQueueOf}
use Rattle.hmc_net.specs.Sees.{Sees, IsSized}
use Rattle.hmc_kept.specs.After.{slots_after, pipes_after, entries_after}
use Rattle.hmc_kept.specs.Hosts.{IsHostIn, hosts_after}

-- the place in a cube that a goal is
abbrev pub to_of : Goal → To
to_of (goals.Vault vault) = tos.Vault vault
to_of goals.Registers = tos.Registers
to_of (goals.Port port) = tos.Port port

-- one of the cubes is changed, by its number
abbrev pub with_cube : ℕ → (CubeFields → CubeFields) → List CubeFields → List CubeFields
with_cube cube changed cubes = slice_set cubes cube (changed (cube_in cubes cube))

-- a unit executed the front of its queue
abbrev pub after_unit : RequestUnit → Entry → List (Option UnitFields) → List CubeFields →
    List CubeFields
after_unit (units.Bank cube vault bank) (Executed unit host tag request answer) slots cubes =
    with_cube cube (after_execute vault bank (Ran host (tag_number tag) request answer) slots) cubes
after_unit (units.Registers cube) (Executed unit host tag request answer) slots cubes =
    with_cube cube (after_registers (Ran host (tag_number tag) request answer) slots) cubes
after_unit unit entry slots cubes = cubes

-- the cubes after an entry, by what its step saw
abbrev pub cubes_after : StepView → Entry → List CubeFields → List CubeFields
cubes_after view (Shifted cube port (goals.Port out)) cubes = cubes
cubes_after view (Shifted cube port goal) cubes =
    with_cube cube (after_enter (to_of goal) (front_of (view.inside (Port cube port)))) cubes
cubes_after view (Spread cube vault bank) cubes =
    with_cube cube (after_spread vault (Moved bank)) cubes
cubes_after view (Executed unit host tag request answer) cubes =
    after_unit unit (Executed unit host tag request answer) view.state.slots cubes
cubes_after view (Lifted cube from port) cubes = with_cube cube (after_lift from) cubes
cubes_after view _ cubes = cubes

-- the cube and the queue that an entry changes in a cube are there
abbrev pub IsEntryIn : List CubeFields → Entry → Type 0
IsEntryIn cubes (Shifted cube port goals.Registers) = IsQueueOf cubes (Registers cube)
IsEntryIn cubes (Shifted cube port (goals.Vault vault)) = IsQueueOf cubes (Vault cube vault)
IsEntryIn cubes (Spread cube vault bank) = IsQueueOf cubes (Bank cube vault bank)
IsEntryIn cubes (Executed unit host tag request answer) = IsQueueOf cubes (queue_of unit)
IsEntryIn cubes (Lifted cube from port) = IsQueueOf cubes (Answers cube from)
IsEntryIn cubes _ = Unit {0}

-- What a step leaves, by its entry and by what it saw: of the links only unless a landing passed.
pub record IsAfter (view : StepView) (old new : NetState) : Type 0 where
  pub topology : new.topology ≡ old.topology
  pub cubes : new.cubes ≡ cubes_after view new.last old.cubes
  pub hosts : new.hosts ≡ hosts_after new.last old.hosts
  pub slots : new.slots ≡ slots_after view new.last old.slots
  pub piped : new.piped ≡ pipes_after old.topology view new.last old.piped
  pub links : is_passed new.last ≡ false →
      LinksStandFor old.topology.links new.links (entries_after old.topology view new.last)

-- What a step does: by what it sees, the last entry is the one that the journal's definition gives,
-- and each part is left as this entry says. The entry is of parts that are there, and the sizes of
-- parts stay. It isn't counted yet. An idle step changes nothing but the last entry.
pub record DoesStep (old new : NetState) (step : Step) : Type 0 where
  pub entry : (view : StepView) → Sees old view → new.last ≡ choice old.topology view step
  pub parts : (view : StepView) → Sees old view → IsAfter view old new
  pub there : IsEntryIn old.cubes new.last
  pub host : IsHostIn old.hosts new.last
  pub sized : IsSized new
  pub tally : new.tally ≡ old.tally
  pub idle : (cause : Cause) → cause_of new.last ≡ Some cause →
      new ≡ record old { last = new.last }
