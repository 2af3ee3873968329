-- The entries of steps inside cubes, by what is kept.
use Rattle.std.proofs.Common.{◌≡◌, ◌∙◌, ℕ, List, [], ◌∷◌, length, refl, ap, ap₂}
use Rattle.hmc_codes.specs.Shape.{bank_of}
use Rattle.hmc_codes.specs.declared.unit.Unit.{Unit as RequestUnit}
use Rattle.hmc_codes.specs.declared.unit.Unit.TheVariants as units
use Rattle.hmc_packet.specs.Packet.{PacketFields}
use Rattle.hmc_packet.specs.Transactions.{request_in}
use Rattle.hmc_serial.specs.Machine.{State}
use Rattle.hmc_schedule.specs.declared.step.Step.{Step}
use Rattle.hmc_schedule.specs.declared.step.Step.TheVariants as steps
use Rattle.hmc_entries.specs.declared.entry.Entry.{Entry}
use Rattle.hmc_entries.specs.declared.entry.Entry.TheVariants.{Spread}
use Rattle.hmc_journal.specs.CubeSteps.{execution_entry}
use Rattle.hmc_journal.specs.Next.{choice, next}
use Rattle.hmc_journal.specs.Queues.{QueueId, contents, queue_of, answers_of}
use Rattle.hmc_journal.specs.Queues.QueueId.{Vault, Bank, Registers}
use Rattle.hmc_journal.specs.Setup.{Topology, Setup, shape_of}
use Rattle.hmc_journal.specs.StepView.{view_of, state_of}
use Rattle.hmc_journal.specs.Waiting.{is_filled, size_of, queue_size, with_front, unless_full}
use Rattle.hmc_check.specs.Kept.{InnerKept, KeepsInner}
use Rattle.hmc_check.specs.Inner.{spread_by, executed_by, retired_by}

-- spread
spread_on : (topology : Topology) (inside other : QueueId → List PacketFields) (cube vault : ℕ) (packets : List PacketFields) → ((bank : ℕ) → inside (Bank cube vault bank) ≡ other (Bank cube vault bank))
    → with_front (steps.Spread cube vault) packets (λ front. let bank = bank_of (shape_of topology cube) front.address in unless_full (steps.Spread cube vault) (is_filled (size_of topology (Bank cube vault bank)) (length (inside (Bank cube vault bank)))) (Spread cube vault bank))
    ≡ with_front (steps.Spread cube vault) packets (λ front. let bank = bank_of (shape_of topology cube) front.address in unless_full (steps.Spread cube vault) (is_filled (size_of topology (Bank cube vault bank)) (length (other (Bank cube vault bank)))) (Spread cube vault bank))
spread_on topology inside other cube vault [] banks = refl
spread_on topology inside other cube vault (front ∷ rest) banks =
    let bank = bank_of (shape_of topology cube) front.address in
    ap (λ (l : List PacketFields). unless_full (steps.Spread cube vault) (is_filled (size_of topology (Bank cube vault bank)) (length l)) (Spread cube vault bank)) (banks bank)

pub spread_next : (setup : Setup) (past : List Entry) (kept : InnerKept) (cube vault : ℕ) → KeepsInner setup past kept → spread_by setup.topology kept cube vault ≡ next setup past (steps.Spread cube vault)
unfolding next choice view_of
spread_next setup past kept cube vault keeps =
    spread_on setup.topology kept.inside (contents setup.topology past) cube vault (kept.inside (Vault cube vault)) (λ bank. keeps.queues (Bank cube vault bank) tt)
    ∙ ap (λ (l : List PacketFields). with_front (steps.Spread cube vault) l (λ front. let bank = bank_of (shape_of setup.topology cube) front.address in unless_full (steps.Spread cube vault) (is_filled (size_of setup.topology (Bank cube vault bank)) (length (contents setup.topology past (Bank cube vault bank)))) (Spread cube vault bank))) (keeps.queues (Vault cube vault) tt)

-- execution
execute_on : (topology : Topology) (unit : RequestUnit) (step : Step) (packets answers others : List PacketFields) (state other : State) → answers ≡ others → state ≡ other
    → with_front step packets (λ front. execution_entry unit step front answers (queue_size topology unit) state (request_in front))
    ≡ with_front step packets (λ front. execution_entry unit step front others (queue_size topology unit) other (request_in front))
execute_on topology unit step [] answers others state other same is = refl
execute_on topology unit step (front ∷ rest) answers others state other same is =
    ap₂ (λ (a : List PacketFields) (s : State). execution_entry unit step front a (queue_size topology unit) s (request_in front)) same is

execute_all : (setup : Setup) (past : List Entry) (kept : InnerKept) (unit : RequestUnit) (step : Step) → KeepsInner setup past kept → kept.inside (queue_of unit) ≡ contents setup.topology past (queue_of unit) → kept.inside (answers_of unit) ≡ contents setup.topology past (answers_of unit)
    → executed_by setup.topology kept unit step
    ≡ with_front step (contents setup.topology past (queue_of unit)) (λ front. execution_entry unit step front (contents setup.topology past (answers_of unit)) (queue_size setup.topology unit) (state_of setup past) (request_in front))
execute_all setup past kept unit step keeps waiting answers =
    execute_on setup.topology unit step (kept.inside (queue_of unit)) (kept.inside (answers_of unit)) (contents setup.topology past (answers_of unit)) kept.state (state_of setup past) answers keeps.state
    ∙ ap (λ (l : List PacketFields). with_front step l (λ front. execution_entry unit step front (contents setup.topology past (answers_of unit)) (queue_size setup.topology unit) (state_of setup past) (request_in front))) waiting

pub bank_next : (setup : Setup) (past : List Entry) (kept : InnerKept) (cube vault bank : ℕ) → KeepsInner setup past kept → executed_by setup.topology kept (units.Bank cube vault bank) (steps.Bank cube vault bank) ≡ next setup past (steps.Bank cube vault bank)
unfolding next choice view_of
bank_next setup past kept cube vault bank keeps =
    execute_all setup past kept (units.Bank cube vault bank) (steps.Bank cube vault bank) keeps (keeps.queues (Bank cube vault bank) tt) (keeps.queues (answers_of (units.Bank cube vault bank)) tt)

pub registers_next : (setup : Setup) (past : List Entry) (kept : InnerKept) (cube : ℕ) → KeepsInner setup past kept → executed_by setup.topology kept (units.Registers cube) (steps.Registers cube) ≡ next setup past (steps.Registers cube)
unfolding next choice view_of
registers_next setup past kept cube keeps =
    execute_all setup past kept (units.Registers cube) (steps.Registers cube) keeps (keeps.queues (Registers cube) tt) (keeps.queues (answers_of (units.Registers cube)) tt)

-- retirement
pub retire_next : (setup : Setup) (past : List Entry) (kept : InnerKept) (slot : ℕ) → KeepsInner setup past kept → retired_by kept slot ≡ next setup past (steps.Retire slot)
unfolding next choice view_of
retire_next setup past kept slot keeps = ap (λ (s : State). retired_by (record { inside = kept.inside; state = s }) slot) keeps.state
