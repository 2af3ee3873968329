-- Definitions computed at a cube of two vaults of two banks of one row, whose number is 6.
use Rattle.std.proofs.Common.{◌≡◌, ℕ, List, [], ◌∷◌, Some, None, false, refl}
use Rattle.std.specs.Prelude.{map, replicate, slice_get}
use Rattle.hmc_codes.specs.Shape.{ShapeFields}
use Rattle.hmc_codes.specs.Request.{RequestFields}
use Rattle.hmc_codes.specs.Table.{table_line}
use Rattle.hmc_codes.specs.declared.answer.Answer.TheVariants as answers
use Rattle.hmc_codes.specs.declared.command.Command.{Command}
use Rattle.hmc_codes.specs.declared.command.Command.TheVariants.{Rd16, Mdrd, Mdwr, WrRs}
use Rattle.hmc_codes.specs.declared.lift.Lift.TheVariants as lifts
use Rattle.hmc_packet.specs.Packet.{PacketFields, null_packet}
use Rattle.hmc_packet.specs.Transactions.{reply_packet, payload_of, request_in}
use Rattle.hmc_registers.specs.Registers.{opening_registers}
use Rattle.hmc_serial.specs.Actions.{action_of}
use Rattle.hmc_serial.specs.Cube.{CubeState, opening}
use Rattle.hmc_serial.specs.Errors.{register_error, register_write_error}
use Rattle.hmc_serial.specs.Perform.{perform_on}
use Rattle.hmc_crossbar.specs.declared.to.To.TheVariants.{Vault, Registers}
use Rattle.hmc_vault.specs.declared.spread.Spread.TheVariants as spreads
use Rattle.hmc_vault.specs.declared.execute.Executed.TheVariants.{Empty, Full, Ran}
use Rattle.hmc_vault.specs.Vault.{VaultFields, opening_vault}
use Rattle.hmc_cube.specs.Cube.{CubeFields, opening_cube, vault_at, held_in_cube}
use Rattle.hmc_cube.specs.Places.{entrance, answers_at}
use Rattle.hmc_cube.specs.After.{after_enter, after_spread, bank_says, after_execute, registers_say, after_registers, after_lift}

abbrev two_vaults : ShapeFields
two_vaults = record { vault_bits = 1; bank_bits = 1; rows = 1; block = 256 }

-- its registers, with a value in the fifth
abbrev state_with : (value : ℕ) → CubeState
state_with value = record { shape = two_vaults; memory = []; registers = 6 ∷ 1 ∷ 1 ∷ 1 ∷ value ∷ replicate 11 0 }

abbrev packet_with : Command → (tag : ℕ) → PacketFields
packet_with command tag = record null_packet { command = command; tag = tag; cube = 6; slid = 5 }

abbrev read : (tag : ℕ) → PacketFields
read tag = packet_with Rd16 tag

abbrev done : (tag : ℕ) → PacketFields
done tag = packet_with WrRs tag

abbrev read_of_register : RequestFields
read_of_register = record { command = Mdrd; cube = 6; address = 4; payload = [] }

abbrev write_of_register : RequestFields
write_of_register = record { command = Mdwr; cube = 6; address = 4; payload = 7 ∷ replicate 15 0 }

abbrev first_vault : VaultFields
first_vault = record { vault_queue = read 1 ∷ []; banks = (read 2 ∷ []) ∷ [] ∷ []; answers = done 3 ∷ []; size = 2 }

abbrev second_vault : VaultFields
second_vault = record { vault_queue = read 4 ∷ []; banks = [] ∷ (read 5 ∷ read 6 ∷ []) ∷ []; answers = done 7 ∷ done 8 ∷ []; size = 2 }

abbrev cube_with : (first second : VaultFields) (register_queue answers : List PacketFields) → CubeFields
cube_with first second register_queue answers = record { state = state_with 9; vaults = first ∷ second ∷ []; register_queue = register_queue; answers = answers; size = 2 }

-- a read of a register waits, and an answer
abbrev register_queue : List PacketFields
register_queue = record (packet_with Mdrd 10) { address = 4 } ∷ []

abbrev cube : CubeFields
cube = cube_with first_vault second_vault register_queue (done 11 ∷ [])

opening_cube-vaults : (opening_cube 6 two_vaults 3).vaults ≡ opening_vault 1 3 ∷ opening_vault 1 3 ∷ []
opening_cube-vaults = refl

opening_cube-registers : map (slice_get (opening_cube 6 two_vaults 3).state.registers) (0 ∷ 15 ∷ 16 ∷ []) ≡ Some 6 ∷ Some 0 ∷ None ∷ []
unfolding opening opening_registers
opening_cube-registers = refl

held_in_cube-each : held_in_cube cube ≡ 10
held_in_cube-each = refl

vault_at-second : vault_at cube 1 ≡ second_vault
vault_at-second = refl

entrance-each : map (entrance cube) (Vault 0 ∷ Vault 1 ∷ Registers ∷ []) ≡ (read 1 ∷ []) ∷ (read 4 ∷ []) ∷ register_queue ∷ []
entrance-each = refl

answers_at-each : map (answers_at cube) (lifts.Vault 0 ∷ lifts.Vault 1 ∷ lifts.Registers ∷ []) ≡ (done 3 ∷ []) ∷ (done 7 ∷ done 8 ∷ []) ∷ (done 11 ∷ []) ∷ []
answers_at-each = refl

-- the other vault and the registers stay
after_enter-vault : after_enter (Vault 1) (read 12) cube ≡ cube_with first_vault (record second_vault { vault_queue = read 4 ∷ read 12 ∷ [] }) register_queue (done 11 ∷ [])
after_enter-vault = refl

after_enter-registers : after_enter Registers (packet_with Mdrd 12) cube ≡ record cube { register_queue = record (packet_with Mdrd 10) { address = 4 } ∷ packet_with Mdrd 12 ∷ [] }
after_enter-registers = refl

after_spread-vault : after_spread 1 (spreads.Moved 0) cube ≡ cube_with first_vault (record second_vault { vault_queue = []; banks = (read 4 ∷ []) ∷ (read 5 ∷ read 6 ∷ []) ∷ [] }) register_queue (done 11 ∷ [])
after_spread-vault = refl

after_spread-nothing : map (λ spread. after_spread 0 spread cube) (spreads.Empty ∷ spreads.Full ∷ []) ≡ cube ∷ cube ∷ []
after_spread-nothing = refl

-- bank 0 of the second vault has nothing to do, and bank 1 waits since that vault's answers are full
bank_says-second : map (bank_says cube [] 1) (0 ∷ 1 ∷ []) ≡ Empty ∷ Full ∷ []
unfolding request_in payload_of table_line
bank_says-second = refl

-- bank 0 of the first vault has executed its front
after_execute-vault : after_execute 0 0 (Ran 5 2 write_of_register (answers.Done false)) [] cube ≡
    record (cube_with (record first_vault { banks = [] ∷ [] ∷ []; answers = done 3 ∷ done 2 ∷ [] }) second_vault register_queue (done 11 ∷ [])) { state = state_with 7 }
unfolding table_line reply_packet perform_on action_of register_write_error
after_execute-vault = refl

after_execute-nothing : map (λ executed. after_execute 0 0 executed [] cube) (Empty ∷ Full ∷ []) ≡ cube ∷ cube ∷ []
after_execute-nothing = refl

-- a register is read, and the reply is the last answer
registers_say-read : registers_say cube [] ≡ Ran 5 10 read_of_register (answers.Register 9)
unfolding request_in payload_of table_line perform_on action_of register_error
registers_say-read = refl

registers_say-full : registers_say (record cube { answers = done 11 ∷ done 12 ∷ [] }) [] ≡ Full
unfolding request_in payload_of table_line
registers_say-full = refl

after_registers-write : after_registers (Ran 5 10 write_of_register (answers.Done false)) [] cube ≡ record cube { state = state_with 7; register_queue = []; answers = done 11 ∷ done 10 ∷ [] }
unfolding table_line reply_packet perform_on action_of register_write_error
after_registers-write = refl

after_registers-nothing : map (λ executed. after_registers executed [] cube) (Empty ∷ Full ∷ []) ≡ cube ∷ cube ∷ []
after_registers-nothing = refl

after_lift-each : map (λ lift. after_lift lift cube) (lifts.Vault 1 ∷ lifts.Registers ∷ []) ≡
    cube_with first_vault (record second_vault { answers = done 8 ∷ [] }) register_queue (done 11 ∷ []) ∷ record cube { answers = [] } ∷ []
after_lift-each = refl
