-- Why a session doesn't take a step, and why it doesn't ask a host.
use Rattle.std.specs.Prelude.{ℕ, ◌||◌, ◌&&◌, not, if◌then◌else◌, nat_lt, nat_le, Bool, List, length, Option, Some, None}
use Rattle.hmc_codes.specs.Limits.{most_asked, most_taken, ports}
use Rattle.hmc_host.specs.Host.{HostFields, asked_count}
use Rattle.hmc_codes.specs.declared.lift.Lift.{Lift}
use Rattle.hmc_codes.specs.declared.lift.Lift.TheVariants as lifts
use Rattle.hmc_schedule.specs.declared.step.Step.{Step}
use Rattle.hmc_schedule.specs.declared.step.Step.TheVariants as steps
use Rattle.hmc_schedule.specs.Plan.{PlanFields, is_joined, vaults_at, banks_at, slots}
use Rattle.hmc_kept.specs.Hosts.{host_in}
use Rattle.hmc_session.specs.declared.refusal.NotTaken.{NotTaken}
use Rattle.hmc_session.specs.declared.refusal.NotTaken.TheVariants.{Unknown, Over, Waits}
use Rattle.hmc_session.specs.declared.refusal.NotAsked.{NotAsked}
use Rattle.hmc_session.specs.declared.refusal.NotAsked.TheVariants.{NoHost, NoCube, Finished, Full}
use Rattle.hmc_session.specs.Session.{SessionFields, is_finished, waits, waits_in}

-- a plan has the cube
abbrev pub has_cube : PlanFields → (cube : ℕ) → Bool
has_cube plan cube = nat_lt cube (length plan.cubes)

-- a plan has the cube, and a link joins its port
abbrev pub has_port : PlanFields → (cube port : ℕ) → Bool
has_port plan cube port =
    has_cube plan cube && nat_lt port ports && is_joined plan cube port

-- a plan has the cube, which has the vault
abbrev pub has_vault : PlanFields → (cube vault : ℕ) → Bool
has_vault plan cube vault = has_cube plan cube && nat_lt vault (vaults_at plan cube)

-- a plan has the cube, which has the queue of answers
abbrev pub has_lift : PlanFields → (cube : ℕ) → Lift → Bool
has_lift plan cube (lifts.Vault vault) = has_vault plan cube vault
has_lift plan cube lifts.Registers = has_cube plan cube

-- each number that the step names is one of the plan, or of a slot
abbrev pub has_step : PlanFields → Step → Bool
has_step plan (steps.Give host) = nat_lt host plan.hosts
has_step plan (steps.Send direction) = nat_lt direction plan.directions
has_step plan (steps.Land direction mask) = nat_lt direction plan.directions
has_step plan (steps.Shift cube port) = has_port plan cube port
has_step plan (steps.Spread cube vault) = has_vault plan cube vault
has_step plan (steps.Bank cube vault bank) =
    has_vault plan cube vault && nat_lt bank (banks_at plan cube)
has_step plan (steps.Registers cube) = has_cube plan cube
has_step plan (steps.Lift cube from) = has_lift plan cube from
has_step plan (steps.Take host) = nat_lt host plan.hosts
has_step plan (steps.Through cube port) = has_port plan cube port
has_step plan (steps.Unlock direction) = nat_lt direction plan.directions
has_step plan (steps.Retire slot) = nat_lt slot slots

-- why a step isn't taken where one may follow, if it isn't
abbrev pub refusal_in : PlanFields → (finished : List Bool) → (hosts : List HostFields) → Step →
    Option NotTaken
refusal_in plan finished hosts step =
    (if not (has_step plan step) then Some Unknown else
    if waits_in finished hosts step then Some Waits else None)

-- why a step isn't taken, if it isn't: it is none of the plan, none may follow, or it waits
abbrev pub step_refusal : SessionFields → Step → Option NotTaken
step_refusal session step =
    (if not (has_step session.plan step) then Some Unknown else
    if session.passed || nat_le most_taken session.taken then Some Over else
    if waits session step then Some Waits else None)

-- why a host isn't asked for a request to a cube, if it isn't
abbrev pub ask_refusal : SessionFields → (host cube : ℕ) → Option NotAsked
ask_refusal session host cube =
    (if nat_le session.plan.hosts host then Some NoHost else
    if nat_le (length session.plan.cubes) cube then Some NoCube else
    if is_finished session host then Some Finished else
    if nat_le most_asked (asked_count (host_in session.net.hosts host)) then Some Full else
    None)
