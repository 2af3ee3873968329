-- The packets that a vault or the registers hold.
use Rattle.std.specs.Prelude.{◌≡◌, false}
use Rattle.hmc_codes.specs.Commands.{family_of}
use Rattle.hmc_codes.specs.declared.family.Family.TheVariants as families
use Rattle.hmc_packet.specs.Packet.{PacketFields}
use Rattle.hmc_serial.specs.Unit.{is_for_registers}

-- the packet carries a request
abbrev pub CarriesRequest : PacketFields → Type 0
CarriesRequest packet = family_of packet.command ≡ families.Ask

-- an unpoisoned request to a bank: it neither reads nor writes a register
pub record IsForBanks (packet : PacketFields) : Type 0 where
  pub asks : CarriesRequest packet
  pub unpoisoned : packet.poisoned ≡ false
  pub not_for_registers : is_for_registers packet.command ≡ false
