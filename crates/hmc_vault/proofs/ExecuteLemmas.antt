-- Executions.
use Rattle.std.proofs.Common.{◌≡◌, ◌≤◌, ◌<◌, ◌∙◌, ◌+◌, ℕ, Bool, false, not, List, [], ◌∷◌, length, drop, set, leb, sum_by, Option, Some, refl, sym, ap, subst, arith, leb-false}
use Rattle.std.specs.Prelude.{◌&&◌, nat_le, slice_get}
use Rattle.std.specs.List.{All}
use Rattle.std.proofs.lemmas.List.{length-set}
use Rattle.std.proofs.lemmas.List.Elements.{All-same, All-drop, All-head}
use Rattle.hmc_codes.specs.Commands.{is_posted}
use Rattle.hmc_codes.specs.Request.{RequestFields, IsRequest}
use Rattle.hmc_codes.specs.declared.answer.Answer.{Answer}
use Rattle.hmc_memory.specs.Banks.{BanksFields, IsBanks}
use Rattle.hmc_registers.specs.Registers.{IsRegisters}
use Rattle.hmc_packet.specs.Packet.{PacketFields}
use Rattle.hmc_codes.specs.Answer.{CanReply}
use Rattle.hmc_units.specs.Unit.{UnitFields}
use Rattle.hmc_serial.specs.Cube.{Outcome, IsCube, cube_state_of, outcome_of_parts}
use Rattle.hmc_serial.specs.Perform.{perform_on}
use Rattle.hmc_tokens.specs.Queue.{one, all_cost_one}
use Rattle.hmc_vault.specs.declared.execute.Executed.{Executed}
use Rattle.hmc_vault.specs.declared.execute.Executed.TheVariants.{Empty, Full, Ran}
use Rattle.hmc_vault.specs.Vault.{VaultFields, bank_at}
use Rattle.hmc_vault.specs.Execute.{waiting_after, answers_after, execute_gives}
use Rattle.hmc_serial.proofs.AnswerLemmas.{performed_is_carried}
use Rattle.hmc_vault.proofs.VaultLemmas.{bank_stays}

-- a test of the costs is the test of must_wait
pub waits : (answers : List PacketFields) (size used room : ℕ) (posted : Bool) → posted ≡ false → size ≡ room → used ≡ sum_by one answers → leb size used ≡ (not posted && nat_le room (length answers))
waits answers size used room posted is same cost =
    ap (leb size) (cost ∙ all_cost_one answers) ∙ ap (λ n. leb n (length answers)) same ∙ ap (λ b. not b && nat_le room (length answers)) (sym is)

-- a reply that need not wait has room
pub has_place : (answers : List PacketFields) (size : ℕ) (posted : Bool) → posted ≡ false → (not posted && nat_le size (length answers)) ≡ false → sum_by one answers + 1 ≤ size
has_place answers size posted is room =
    let below : length answers < size = leb-false size (length answers) (ap (λ b. not b && nat_le size (length answers)) (sym is) ∙ room) in
    omega (arith, below, all_cost_one answers)

pub cube_is : (banks : BanksFields) (registers : List ℕ) → IsBanks banks → IsRegisters registers → IsCube (cube_state_of banks registers)
cube_is banks registers kept are = record { is_shape = kept.shape; capacity = kept.capacity; bytes = kept.bytes; are_registers = are }

-- the answer to a request that is not posted can be carried
pub answer_carried : (banks banks' : BanksFields) (registers registers' : List ℕ) (slots slots' : List (Option UnitFields)) (request : RequestFields) (answer : Answer) → IsBanks banks → IsRegisters registers → IsRequest request →
    outcome_of_parts banks' registers' slots' answer ≡ perform_on (cube_state_of banks registers) slots request → is_posted request.command ≡ false → CanReply answer
answer_carried banks banks' registers registers' slots slots' request answer kept are is outcome answered =
    subst CanReply (sym (ap (λ (o : Outcome). o.answer) outcome)) ((performed_is_carried (cube_state_of banks registers) slots request (cube_is banks registers kept are) is).carried answered)

-- what holds of all that wait holds of those that are left
pub waiting_all : (P : PacketFields → Type 0) (result : Executed) (waiting waiting' : List PacketFields) → waiting' ≡ waiting_after result waiting → All P waiting → All P waiting'
waiting_all P Empty waiting waiting' is all = All-same P waiting' waiting is all
waiting_all P Full waiting waiting' is all = All-same P waiting' waiting is all
waiting_all P (Ran host tag request answer) waiting waiting' is all = All-same P waiting' (drop 1 waiting) is (All-drop P 1 waiting all)

-- the front is one of all
pub front_is : (P : PacketFields → Type 0) (packets : List PacketFields) (front : PacketFields) → All P packets → slice_get packets 0 ≡ Some front → P front
front_is P [] front all is = absurd (cc)
front_is P (packet ∷ rest) front all is = let same : packet ≡ front = cc in subst P same (All-head P packet rest all)

-- a vault with this queue of a bank and these answers
abbrev with_answers : VaultFields → ℕ → List PacketFields → List PacketFields → VaultFields
with_answers now bank waiting answers = record { vault_queue = now.vault_queue; banks = set now.banks bank waiting; answers = answers; size = now.size }

same_answers : (now : VaultFields) (bank : ℕ) (waiting waiting' answers answers' : List PacketFields) → waiting ≡ waiting' → answers ≡ answers' → with_answers now bank waiting answers ≡ with_answers now bank waiting' answers'
same_answers now bank waiting waiting' answers answers' w a = ap (λ l. with_answers now bank l answers) w ∙ ap (with_answers now bank waiting') a

nothing_ran : (now : VaultFields) (bank : ℕ) (waiting answers : List PacketFields) → waiting ≡ bank_at now bank → answers ≡ now.answers → with_answers now bank waiting answers ≡ now
nothing_ran now bank waiting answers w a =
    same_answers now bank waiting (bank_at now bank) answers now.answers w a ∙ ap (λ b. record now { banks = b }) (bank_stays now bank)

-- what the execution of the front left is what the execution by a bank gives
pub execution_gives : (result : Executed) (now : VaultFields) (bank : ℕ) (waiting answers : List PacketFields) → waiting ≡ waiting_after result (bank_at now bank) → answers ≡ answers_after result now.answers →
    with_answers now bank waiting answers ≡ execute_gives bank result now
execution_gives Empty now bank waiting answers w a = nothing_ran now bank waiting answers w a
execution_gives Full now bank waiting answers w a = nothing_ran now bank waiting answers w a
execution_gives (Ran host tag request answer) now bank waiting answers w a = same_answers now bank waiting _ answers _ w a

-- What stays at an execution.
pub banks_of_execution : (bank : ℕ) (result : Executed) (now : VaultFields) → length (execute_gives bank result now).banks ≡ length now.banks
banks_of_execution bank Empty now = refl
banks_of_execution bank Full now = refl
banks_of_execution bank (Ran host tag request answer) now = length-set now.banks bank (drop 1 (bank_at now bank))

pub size_of_execution : (bank : ℕ) (result : Executed) (now : VaultFields) → (execute_gives bank result now).size ≡ now.size
size_of_execution bank Empty now = refl
size_of_execution bank Full now = refl
size_of_execution bank (Ran host tag request answer) now = refl
