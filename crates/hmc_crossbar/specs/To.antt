-- Where a packet goes from a port of a cube.
use Rattle.std.specs.Prelude.{◌≡◌, ◌<◌, ℕ, Bool, true, false, ◌==◌, if◌then◌else◌, Option, Some, None}
use Rattle.hmc_codes.specs.Commands.{family_of}
use Rattle.hmc_codes.specs.Graph.{GraphFields}
use Rattle.hmc_codes.specs.Shape.{ShapeFields, vault_of}
use Rattle.hmc_codes.specs.declared.family.Family.{Family}
use Rattle.hmc_codes.specs.declared.family.Family.TheVariants.{Flow, Ask, Reply}
use Rattle.hmc_packet.specs.Packet.{PacketFields}
use Rattle.hmc_routes.specs.Ports.{port_to_cube, port_to_host}
use Rattle.hmc_routes.specs.WellFormed.{is_host_of}
use Rattle.hmc_serial.specs.Unit.{is_for_registers}
use Rattle.hmc_crossbar.specs.declared.to.To.{To}
use Rattle.hmc_crossbar.specs.declared.to.To.TheVariants.{Vault, Registers, Port, Nowhere}

-- in its cube: what reads or writes a register goes to the registers, and all else to this vault
abbrev pub into_cube : (registers : Bool) → (vault : ℕ) → To
into_cube true vault = Registers
into_cube false vault = Vault vault

-- out through a port; there is one wherever a packet has a way
abbrev pub out_of_cube : Option ℕ → To
out_of_cube (Some port) = Port port
out_of_cube None = Nowhere

-- a request that is at its cube goes in, and another goes towards its cube
abbrev pub request_to : GraphFields → ShapeFields → (cube : ℕ) → PacketFields → (here : Bool) → To
request_to graph shape cube packet true =
    into_cube (is_for_registers packet.command) (vault_of shape packet.address)
request_to graph shape cube packet false = out_of_cube (port_to_cube graph packet.cube cube)

-- an answer goes towards its host, and a request to its cube
abbrev pub unpoisoned_to : GraphFields → ShapeFields → (cube : ℕ) → PacketFields → Family → To
unpoisoned_to graph shape cube packet Reply = out_of_cube (port_to_host graph packet.slid cube)
unpoisoned_to graph shape cube packet Ask =
    request_to graph shape cube packet (packet.cube == cube)
unpoisoned_to graph shape cube packet Flow = Nowhere

-- a poisoned packet goes nowhere
abbrev pub where_to : GraphFields → ShapeFields → (cube : ℕ) → PacketFields → To
where_to graph shape cube packet =
    if packet.poisoned then Nowhere
    else unpoisoned_to graph shape cube packet (family_of packet.command)

-- a request to a cube of the graph, or an answer to a host of it
abbrev pub HasGoal : GraphFields → PacketFields → Family → Type 0
HasGoal graph packet Ask = packet.cube < graph.cubes
HasGoal graph packet Reply = is_host_of graph packet.slid ≡ true
HasGoal graph packet Flow = ⊥

-- a packet that has a way: it is poisoned, or it has such a goal
abbrev pub HasWay : GraphFields → PacketFields → (poisoned : Bool) → Type 0
HasWay graph packet true = Unit {0}
HasWay graph packet false = HasGoal graph packet (family_of packet.command)
