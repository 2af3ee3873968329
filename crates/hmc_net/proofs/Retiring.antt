-- The step retire.
use Rattle.std.proofs.Common.{◌≡◌, ◌∙◌, ℕ, Bool, true, false, if◌then◌else◌, Option, List, refl, sym, ap}
use Rattle.hmc_units.specs.Unit.{UnitFields}
use Rattle.hmc_units.specs.Bench.{is_live, retired_slots}
use Rattle.hmc_schedule.specs.declared.step.Step.TheVariants as steps
use Rattle.hmc_entries.specs.declared.outcome.Cause.TheVariants as causes
use Rattle.hmc_entries.specs.declared.entry.Entry.TheVariants.{Retired, Idle}
use Rattle.hmc_journal.specs.Next.{choice}
use Rattle.hmc_journal.specs.StepView.{StepView}
use Rattle.hmc_kept.proofs.Units.{empty_stays}
use Rattle.hmc_net.specs.Apply.{DoesStep}
use Rattle.hmc_net.specs.Links.{retired_by}
use Rattle.hmc_net.specs.NetState.{NetState}
use Rattle.hmc_net.specs.Sees.{Sees, IsSized}
use Rattle.hmc_net.proofs.Doing.{with_parts, does_by, idle_does, sized_links, sized_units, units_seen}

live_seen : (net : NetState) (view : StepView) (slot : ℕ) (live : Bool) → Sees net view → is_live net.slots slot ≡ live → retired_by slot live ≡ choice net.topology view (steps.Retire slot)
unfolding choice
live_seen net view slot true sees is = ap (λ (t : Bool). if t then Retired slot else Idle (steps.Retire slot) causes.Empty) (sym is ∙ ap (λ (s : List (Option UnitFields)). is_live s slot) (units_seen net view sees))
live_seen net view slot false sees is = ap (λ (t : Bool). if t then Retired slot else Idle (steps.Retire slot) causes.Empty) (sym is ∙ ap (λ (s : List (Option UnitFields)). is_live s slot) (units_seen net view sees))

retired_does : (net now : NetState) (slot : ℕ) → IsSized net → is_live net.slots slot ≡ true → now ≡ record net { slots = retired_slots net.slots slot; last = Retired slot } → DoesStep net now (steps.Retire slot)
retired_does net now slot sized live now_is = does_by net now net.cubes net.hosts (retired_slots net.slots slot) net.links (Retired slot) (steps.Retire slot) now_is (record {
  chosen = λ view sees. live_seen net view slot true sees live;
  cubes_are = λ view sees. refl;
  hosts_are = refl;
  slots_are = λ view sees. refl;
  piped_are = λ view sees. refl;
  links_are = λ view sees on. sees.shows.links;
  there = tt;
  host = tt;
  sized = sized_units (with_parts net net.cubes net.hosts net.links (Retired slot)) (retired_slots net.slots slot) (sized_links net net.links (Retired slot) sized);
  idle = λ cause is. absurd (cc);
})

retire_none : (net now : NetState) (slot : ℕ) → IsSized net → is_live net.slots slot ≡ false → now ≡ record net { slots = retired_slots net.slots slot; last = Idle (steps.Retire slot) causes.Empty } → DoesStep net now (steps.Retire slot)
retire_none net now slot sized gone now_is =
    idle_does net now (steps.Retire slot) (steps.Retire slot) causes.Empty
    (now_is ∙ ap (λ (s : List (Option UnitFields)). record net { slots = s; last = Idle (steps.Retire slot) causes.Empty }) (empty_stays net.slots slot gone)) sized
    (λ view sees. live_seen net view slot false sees gone)

pub retire_does : (net now : NetState) (slot : ℕ) (live : Bool) → IsSized net → live ≡ is_live net.slots slot → now ≡ record net { slots = retired_slots net.slots slot; last = retired_by slot live } → DoesStep net now (steps.Retire slot)
retire_does net now slot true sized is now_is = retired_does net now slot sized (sym is) now_is
retire_does net now slot false sized is now_is = retire_none net now slot sized (sym is) now_is
