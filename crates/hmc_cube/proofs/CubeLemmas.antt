-- How a cube keeps its parts.
use Rattle.std.proofs.Common.{◌≡◌, ◌≤◌, ◌<◌, ◌∙◌, ◌+◌, ◌*◌, ◌%◌, ◌^◌, ℕ, List, [], ◌∷◌, ◌++◌, length, sum_by, true, refl, sym, ap, subst, arith}
use Rattle.std.specs.Prelude.{replicate}
use Rattle.std.specs.List.{All}
use Rattle.std.proofs.lemmas.List.Elements.{All-same, All-push, All-weaker}
use Rattle.std.proofs.Math.Nat.{pow-le-pow_right}
use Rattle.hmc_codes.specs.Table.{table_line}
use Rattle.hmc_codes.specs.Commands.{family_of}
use Rattle.hmc_codes.specs.Limits.{most_vault_bits}
use Rattle.hmc_codes.specs.Shape.{ShapeFields, capacity_of}
use Rattle.hmc_codes.specs.declared.command.Command.{Command}
use Rattle.hmc_codes.specs.declared.command.Command.TheVariants.{Mdrd, Mdwr}
use Rattle.hmc_codes.specs.declared.family.Family.TheVariants as families
use Rattle.hmc_memory.specs.Banks.{BanksFields}
use Rattle.hmc_packet.specs.Packet.{PacketFields}
use Rattle.hmc_tokens.specs.declared.queue.Queue.{Queue}
use Rattle.hmc_tokens.specs.Queue.{packets_of, size_of, one, all_cost_one}
use Rattle.hmc_vault.specs.Packets.{CarriesRequest}
use Rattle.hmc_vault.specs.Vault.{VaultFields, opening_vault}
use Rattle.hmc_registers.specs.Registers.{opening_registers}
use Rattle.hmc_serial.specs.Cube.{opening}
use Rattle.hmc_serial.specs.Unit.{is_for_registers}
use Rattle.hmc_cube.specs.Cube.{CubeFields, opening_cube}
use Rattle.hmc_cube.specs.Places.{IsForRegisters}
use Rattle.hmc_cube.specs.Kept.{cube_of_parts, IsCubeOfParts}
use Rattle.hmc_cube.specs.Parts.{VaultFits}

-- reads and writes of registers are requests
register_command_asks : (command : Command) → is_for_registers command ≡ true → family_of command ≡ families.Ask
unfolding table_line
register_command_asks Mdrd is = refl
register_command_asks Mdwr is = refl
register_command_asks _ is = absurd (cc)

pub registers_ask : (packet : PacketFields) → IsForRegisters packet → CarriesRequest packet
registers_ask packet is = register_command_asks packet.command is.for_registers

-- a queue of the registers that stays as large
pub kept_queues : (shape shape' : ShapeFields) (vaults : List VaultFields) (register_queue register_queue' answers answers' : Queue) → IsCubeOfParts shape vaults register_queue answers → shape' ≡ shape → size_of register_queue' ≡ size_of register_queue → size_of answers' ≡ size_of answers → All IsForRegisters (packets_of register_queue') → IsCubeOfParts shape' vaults register_queue' answers'
kept_queues shape shape' vaults register_queue register_queue' answers answers' kept same waiting_size answers_size requests =
    subst (λ s. IsCubeOfParts s vaults register_queue' answers') (sym same) (record {
      is_shape = kept.is_shape;
      count = kept.count;
      are_vaults = All-weaker (VaultFits shape (size_of register_queue)) (VaultFits shape (size_of register_queue')) (λ vault is. record { banks = is.banks; same_size = is.same_size ∙ sym waiting_size }) vaults kept.are_vaults;
      answers_size = answers_size ∙ kept.answers_size ∙ sym waiting_size;
      small = omega (arith, kept.small);
      requests = requests;
    })

-- one more request to the registers
pub requests_with_one_more : (packets packets' : List PacketFields) (packet : PacketFields) → packets' ≡ packets ++ packet ∷ [] → All IsForRegisters packets → IsForRegisters packet → All IsForRegisters packets'
requests_with_one_more packets packets' packet is all one_more = All-same IsForRegisters packets' (packets ++ packet ∷ []) is (All-push IsForRegisters packets packet all one_more)

-- room in the queue of the registers
pub room_in : (banks : BanksFields) (registers : List ℕ) (vaults : List VaultFields) (register_queue answers : Queue) (now : CubeFields) → cube_of_parts banks registers vaults register_queue answers ≡ now → length now.register_queue < now.size → sum_by one (packets_of register_queue) + 1 ≤ size_of register_queue
room_in banks registers vaults register_queue answers now view room =
    omega (arith, all_cost_one (packets_of register_queue), ap (λ (c : CubeFields). length c.register_queue) view, ap (λ (c : CubeFields). c.size) view)

pub few_vaults : (shape : ShapeFields) (vaults : List VaultFields) (register_queue answers : Queue) → IsCubeOfParts shape vaults register_queue answers → length vaults ≤ 2 ^ most_vault_bits
few_vaults shape vaults register_queue answers kept =
    let powers : 2 ^ shape.vault_bits ≤ 2 ^ 5 = pow-le-pow_right {n = 2} (omega arith) kept.is_shape.vault_bits in
    omega (arith, kept.count)

powers : (bits : ℕ) → bits ≤ 5 → 1 * 2 ^ bits % 2 ^ 64 ≡ 2 ^ bits
powers bits few =
    let most : 2 ^ bits ≤ 2 ^ 5 = pow-le-pow_right {n = 2} (omega arith) few in
    omega arith

-- new parts make a new cube; the fields of the shape that were read are `own`
pub opening_is : (number : ℕ) (shape own : ShapeFields) (size : ℕ) (banks : BanksFields) (registers : List ℕ) (vaults : List VaultFields) (register_queue answers : Queue) → own ≡ shape → own.vault_bits ≤ 5 → banks.shape ≡ shape → banks.bytes ≡ replicate (capacity_of shape) 0 →
    registers ≡ opening_registers number shape → vaults ≡ replicate (1 * 2 ^ own.vault_bits % 2 ^ 64) (opening_vault own.bank_bits size) → packets_of register_queue ≡ [] → size_of register_queue ≡ size → packets_of answers ≡ [] → cube_of_parts banks registers vaults register_queue answers ≡ opening_cube number shape size
unfolding opening
opening_is number shape own size banks registers vaults register_queue answers own_is few shaped zeros regs made none sized no_answers =
    let vaults_is : vaults ≡ replicate (2 ^ shape.vault_bits) (opening_vault shape.bank_bits size) =
    made ∙ ap (λ n. replicate n (opening_vault own.bank_bits size)) (powers own.vault_bits few) ∙ ap (λ (s : ShapeFields). replicate (2 ^ s.vault_bits) (opening_vault s.bank_bits size)) own_is in
    cc
