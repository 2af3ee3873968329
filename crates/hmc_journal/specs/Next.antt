-- The table of steps: the entry of a step, by what it sees. LinkSteps, CubeSteps and ThroughSteps
-- say what the steps do; `with_front` and `unless_full` give the causes of idle steps.
use Rattle.std.specs.Prelude.{◌/◌, not, List}
use Rattle.hmc_codes.specs.Shape.{bank_of}
use Rattle.hmc_codes.specs.declared.place.Place.TheVariants as places
use Rattle.hmc_codes.specs.declared.unit.Unit.TheVariants as units
use Rattle.hmc_schedule.specs.declared.step.Step.{Step}
use Rattle.hmc_schedule.specs.declared.step.Step.TheVariants as steps
use Rattle.hmc_host.specs.Give.{give_says}
use Rattle.hmc_host.specs.Settle.{settle_says}
use Rattle.hmc_entries.specs.declared.entry.Entry.{Entry}
use Rattle.hmc_entries.specs.declared.entry.Entry.TheVariants.{Unlocked}
use Rattle.hmc_journal.specs.Setup.{Topology, Setup, shape_of}
use Rattle.hmc_journal.specs.Routes.{port_towards}
use Rattle.hmc_journal.specs.Queues.{output_from}
use Rattle.hmc_journal.specs.Queues.QueueId.{Port, Host, Vault, Answers}
use Rattle.hmc_journal.specs.Links.{toward, sizes_on, fed_after}
use Rattle.hmc_journal.specs.StepView.{StepView, view_of}
pub use Rattle.hmc_journal.specs.Waiting.{size_of, queue_size, is_full, lacks_room, with_front, unless_full}
pub use Rattle.hmc_journal.specs.Answers.{gave_entry, took_entry, spread_entry, tag_of, ran_entry}
pub use Rattle.hmc_journal.specs.LinkSteps.{sent_entry, send_entry, landed_entry, landed_flit, landed_front, land_entry}
pub use Rattle.hmc_journal.specs.CubeSteps.{goal_at, shifted_entry, shift_entry, spread_to_bank, execution_entry, executed_entry, lifted_entry, retired_entry}
pub use Rattle.hmc_journal.specs.ThroughSteps.{through_entry}

-- the entry of a step by what it sees
unfoldable pub choice : Topology → StepView → Step → Entry
choice topology view (steps.Give host) =
    gave_entry host
    (give_says (view.host host)
    (not (lacks_room topology view (output_from topology (places.Host host)))))
choice topology view (steps.Send direction) =
    let entries = view.entries (direction / 2) in
    send_entry (sizes_on topology direction) direction entries
    (fed_after (sizes_on topology direction) (toward direction) entries (view.pipe direction))
choice topology view (steps.Land direction mask) =
    land_entry (sizes_on topology direction) direction (view.entries (direction / 2)) mask
choice topology view (steps.Shift cube port) =
    with_front (steps.Shift cube port) (view.inside (Port cube port))
    (shift_entry topology view cube port)
choice topology view (steps.Spread cube vault) =
    with_front (steps.Spread cube vault) (view.inside (Vault cube vault))
    (λ front. spread_to_bank topology view cube vault
    (bank_of (shape_of topology cube) front.address))
choice topology view (steps.Bank cube vault bank) =
    executed_entry topology view (units.Bank cube vault bank) (steps.Bank cube vault bank)
choice topology view (steps.Registers cube) =
    executed_entry topology view (units.Registers cube) (steps.Registers cube)
choice topology view (steps.Lift cube from) =
    with_front (steps.Lift cube from) (view.inside (Answers cube from))
    (λ front. lifted_entry topology view cube from (port_towards topology cube front.slid))
choice topology view (steps.Take host) =
    with_front (steps.Take host) (view.inside (Host host))
    (λ front. took_entry host (settle_says front))
choice topology view (steps.Unlock direction) = Unlocked direction
choice topology view (steps.Retire slot) = retired_entry view slot
choice topology view (steps.Through cube port) = through_entry topology view cube port

-- the entry of a step after a journal
unfoldable pub next : Setup → List Entry → Step → Entry
next setup past step = choice setup.topology (view_of setup past) step
