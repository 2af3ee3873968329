-- Definitions computed at two cubes of two vaults of two banks, with blocks of 256 and of 64 bytes.
-- Host 0 is joined to port 0 of cube 0, port 1 of this to port 0 of cube 1, and port 3 of that to
-- host 1.
use Rattle.std.proofs.Common.{◌≡◌, ℕ, Bool, [], ◌∷◌, true, false, refl}
use Rattle.std.specs.Prelude.{map}
use Rattle.hmc_codes.specs.Graph.{GraphFields}
use Rattle.hmc_codes.specs.Shape.{ShapeFields}
use Rattle.hmc_codes.specs.Table.{table_line}
use Rattle.hmc_codes.specs.declared.command.Command.{Command}
use Rattle.hmc_codes.specs.declared.command.Command.TheVariants.{Rd16, Wr16, Mdrd, Mdwr, Inc8, Unit7, RdRs, Error, Tret}
use Rattle.hmc_codes.specs.declared.place.Place.TheVariants as places
use Rattle.hmc_packet.specs.Packet.{PacketFields, null_packet}
use Rattle.hmc_routes.specs.Distance.{within, distance}
use Rattle.hmc_routes.specs.Neighbours.{joined_to}
use Rattle.hmc_routes.specs.Ports.{port_to_cube, port_to_host}
use Rattle.hmc_crossbar.specs.declared.to.To.{To}
use Rattle.hmc_crossbar.specs.declared.to.To.TheVariants.{Vault, Registers, Port, Nowhere}
use Rattle.hmc_crossbar.specs.To.{where_to}

abbrev two_vaults : ShapeFields
two_vaults = record { vault_bits = 1; bank_bits = 1; rows = 2; block = 256 }

abbrev two_cubes : GraphFields
two_cubes = record {
  cubes = 2;
  joins =
      record { a = places.Host 0; b = places.Port 0 0 } ∷ record { a = places.Port 0 1; b = places.Port 1 0 } ∷
      record { a = places.Port 1 3; b = places.Host 1 } ∷ [];
}

abbrev packet_with : Command → (address : ℕ) → Bool → PacketFields
packet_with command address poisoned = record null_packet { command = command; address = address; poisoned = poisoned }

-- where it goes in cube 0
abbrev to_in : ShapeFields → PacketFields → To
to_in shape packet = where_to two_cubes shape 0 packet

-- blocks of 256 bytes are in the two vaults by turns, in each bank and row, and past the memory
where_to-memory : map (λ address. to_in two_vaults (packet_with Rd16 address false)) (0 ∷ 0xff ∷ 0x100 ∷ 0x200 ∷ 0x5f0 ∷ 0x900 ∷ []) ≡ Vault 0 ∷ Vault 0 ∷ Vault 1 ∷ Vault 0 ∷ Vault 1 ∷ Vault 1 ∷ []
unfolding table_line
where_to-memory = refl

where_to-commands : map (λ command. to_in two_vaults (packet_with command 0x100 false)) (Wr16 ∷ Mdrd ∷ Mdwr ∷ []) ≡ Vault 1 ∷ Registers ∷ Registers ∷ []
unfolding table_line
where_to-commands = refl

where_to-poisoned : map (λ command. to_in two_vaults (packet_with command 0x100 true)) (Wr16 ∷ Mdrd ∷ Mdwr ∷ RdRs ∷ []) ≡ Nowhere ∷ Nowhere ∷ Nowhere ∷ Nowhere ∷ []
where_to-poisoned = refl

-- blocks of 64 bytes are in the two vaults by turns
where_to-small_blocks : map (λ address. to_in (record two_vaults { block = 64 }) (packet_with Rd16 address false)) (0 ∷ 0x30 ∷ 0x40 ∷ 0x80 ∷ 0x5c0 ∷ []) ≡ Vault 0 ∷ Vault 0 ∷ Vault 1 ∷ Vault 0 ∷ Vault 1 ∷ []
unfolding table_line
where_to-small_blocks = refl

-- a unit command goes to its vault, as an atomic one
where_to-units : map (λ command. to_in two_vaults (packet_with command 0x100 false)) (Inc8 ∷ Unit7 ∷ []) ≡ Vault 1 ∷ Vault 1 ∷ []
unfolding table_line
where_to-units = refl

-- a request for another cube goes towards it, also one for a register; at its cube it goes in
where_to-requests : map (λ cube. where_to two_cubes two_vaults cube (record (packet_with Rd16 0x100 false) { cube = 1 })) (0 ∷ 1 ∷ []) ≡ Port 1 ∷ Vault 1 ∷ []
unfolding table_line joined_to within distance port_to_cube
where_to-requests = refl

where_to-registers : map (λ cube. where_to two_cubes two_vaults cube (packet_with Mdrd 0 false)) (0 ∷ 1 ∷ []) ≡ Registers ∷ Port 0 ∷ []
unfolding table_line joined_to within distance port_to_cube
where_to-registers = refl

-- an answer goes to its host, whatever its cube; at the cube of its host through the host's port
abbrev answer_for : Command → (host : ℕ) → PacketFields
answer_for command host = record (packet_with command 0 false) { slid = host; cube = 1 }

where_to-answers : map (λ host. where_to two_cubes two_vaults 0 (answer_for RdRs host)) (0 ∷ 1 ∷ []) ≡ Port 0 ∷ Port 1 ∷ []
unfolding table_line joined_to within distance port_to_cube port_to_host
where_to-answers = refl

where_to-answers_there : map (λ host. where_to two_cubes two_vaults 1 (answer_for Error host)) (0 ∷ 1 ∷ []) ≡ Port 0 ∷ Port 3 ∷ []
unfolding table_line joined_to within distance port_to_cube port_to_host
where_to-answers_there = refl

-- what isn't a request or an answer has no goal
where_to-flow : to_in two_vaults (packet_with Tret 0 false) ≡ Nowhere
unfolding table_line
where_to-flow = refl
