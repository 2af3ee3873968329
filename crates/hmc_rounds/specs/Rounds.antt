-- Whole rounds of a journal.
use Rattle.std.specs.Prelude.{◌≡◌, ℕ, false, List, [], ◌∷◌, ◌++◌, length, drop}
use Rattle.hmc_codes.specs.Flit.{zero_flit}
use Rattle.hmc_case.specs.Plan.{plans_of}
use Rattle.hmc_schedule.specs.declared.step.Step.{Step}
use Rattle.hmc_schedule.specs.declared.step.Step.TheVariants.{Send, Land, Registers, Take}
use Rattle.hmc_schedule.specs.Plan.{PlanFields}
use Rattle.hmc_schedule.specs.Round.{rounds_of, shifts_of, spreads_of, banks_of, lifts_of}
use Rattle.hmc_entries.specs.declared.entry.Entry.{Entry}
use Rattle.hmc_journal.specs.Hosts.{given_count}
use Rattle.hmc_journal.specs.Lawful.{Lawful, has_passed}
use Rattle.hmc_journal.specs.Next.{next}
use Rattle.hmc_journal.specs.Setup.{Setup, Topology, hosts_in, directions_in}

-- the parts that a round goes over
abbrev pub plan_of : Topology → PlanFields
plan_of topology = record {
  hosts = hosts_in topology;
  directions = directions_in topology;
  cubes = plans_of topology.links 0 topology.cubes;
}

-- the journal after more steps
unfoldable pub journal_after : Setup → List Entry → List Step → List Entry
journal_after setup past [] = past
journal_after setup past (step ∷ steps) = journal_after setup (next setup past step ∷ past) steps

-- what a round of one cube and one link is: the link's steps, then the cube's
abbrev pub link_steps : List Step
link_steps = Send 0 ∷ Send 1 ∷ Land 0 zero_flit ∷ Land 1 zero_flit ∷ []

abbrev pub cube_steps : PlanFields → List Step
cube_steps plan =
    shifts_of plan 0 ++ spreads_of plan 0 ++ banks_of plan 0 ++ Registers 0 ∷ [] ++ lifts_of plan 0
    ++ Take 0 ∷ []

-- After a lawful journal the schedule goes on with n whole rounds without noise; they gave no
-- request, and no landing passed.
pub record RoundsFollow (setup : Setup) (past later : List Entry) (n : ℕ) : Type 0 where
  pub lawful : Lawful setup (later ++ past)
  pub unpassed : has_passed (later ++ past) ≡ false
  pub rest : List Step
  pub scheduled : drop (length past) setup.schedule ≡ rounds_of (plan_of setup.topology) n ++ rest
  pub long : length later ≡ length (rounds_of (plan_of setup.topology) n)
  pub idle : (host : ℕ) → given_count host (later ++ past) ≡ given_count host past
