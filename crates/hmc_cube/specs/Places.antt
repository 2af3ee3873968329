-- The queues of a cube that packets enter, and those that they are lifted from.
use Rattle.std.specs.Prelude.{◌≡◌, ◌<◌, ◌^◌, true, false, List, []}
use Rattle.hmc_codes.specs.declared.lift.Lift.{Lift}
use Rattle.hmc_codes.specs.declared.lift.Lift.TheVariants as lifts
use Rattle.hmc_packet.specs.Packet.{PacketFields}
use Rattle.hmc_serial.specs.Unit.{is_for_registers}
use Rattle.hmc_crossbar.specs.declared.to.To.{To}
use Rattle.hmc_crossbar.specs.declared.to.To.TheVariants.{Vault, Registers}
use Rattle.hmc_vault.specs.Packets.{IsForBanks}
use Rattle.hmc_cube.specs.Cube.{CubeFields, vault_at}

-- an unpoisoned request that reads or writes a register
pub record IsForRegisters (packet : PacketFields) : Type 0 where
  pub unpoisoned : packet.poisoned ≡ false
  pub for_registers : is_for_registers packet.command ≡ true

-- a vault of the cube, or its registers
abbrev pub IsHere : CubeFields → To → Type 0
IsHere cube (Vault vault) = vault < 2 ^ cube.state.shape.vault_bits
IsHere cube Registers = Unit {0}
IsHere cube _ = ⊥

-- the packet is a request to a bank, or to the registers
abbrev pub IsFor : To → PacketFields → Type 0
IsFor (Vault vault) packet = IsForBanks packet
IsFor Registers packet = IsForRegisters packet
IsFor _ packet = ⊥

-- the queue that packets to a place enter
abbrev pub entrance : CubeFields → To → List PacketFields
entrance cube (Vault vault) = (vault_at cube vault).vault_queue
entrance cube Registers = cube.register_queue
entrance cube _ = []

-- the answers of a vault of the cube, or those of its registers
abbrev pub HasLift : CubeFields → Lift → Type 0
HasLift cube (lifts.Vault vault) = vault < 2 ^ cube.state.shape.vault_bits
HasLift cube lifts.Registers = Unit {0}

-- the queue that answers are lifted from
abbrev pub answers_at : CubeFields → Lift → List PacketFields
answers_at cube (lifts.Vault vault) = (vault_at cube vault).answers
answers_at cube lifts.Registers = cube.answers
