-- Where a packet goes, by what was read of it.
use Rattle.std.proofs.Common.{◌≡◌, ◌∙◌, ℕ, Bool, true, false, Option, Some, refl, sym}
use Rattle.std.specs.Prelude.{◌==◌}
use Rattle.std.proofs.lemmas.Bool.{eq-eqb, ne_eqb}
use Rattle.hmc_codes.specs.Commands.{family_of}
use Rattle.hmc_codes.specs.Graph.{GraphFields}
use Rattle.hmc_codes.specs.Shape.{ShapeFields, vault_of}
use Rattle.hmc_codes.specs.declared.family.Family.{Family}
use Rattle.hmc_codes.specs.declared.family.Family.TheVariants.{Reply}
use Rattle.hmc_packet.specs.Packet.{PacketFields}
use Rattle.hmc_routes.specs.Ports.{port_to_cube, port_to_host}
use Rattle.hmc_serial.specs.Unit.{is_for_registers}
use Rattle.hmc_crossbar.specs.To.{request_to, where_to}
use Rattle.hmc_crossbar.specs.declared.to.To.TheVariants.{Vault, Registers, Port, Nowhere}

-- a request of another cube
pub elsewhere : (graph : GraphFields) (shape : ShapeFields) (cube : ℕ) (packet : PacketFields)
    (goal port : ℕ) (way : Option ℕ) → goal ≡ packet.cube → (goal ≡ cube → ⊥) →
    way ≡ port_to_cube graph goal cube → way ≡ Some port →
    Port port ≡ request_to graph shape cube packet (packet.cube == cube)
elsewhere graph shape cube packet goal port way read apart exact some =
    rw (ne_eqb packet.cube cube (λ same. apart (read ∙ same)), ← read, ← exact, some) refl

-- a request in its cube that is one of the registers
pub to_registers : (graph : GraphFields) (shape : ShapeFields) (cube : ℕ) (packet : PacketFields)
    (goal : ℕ) (registers : Bool) → goal ≡ packet.cube → goal ≡ cube →
    registers ≡ is_for_registers packet.command → registers ≡ true →
    Registers ≡ request_to graph shape cube packet (packet.cube == cube)
to_registers graph shape cube packet goal registers read same test is =
    rw (eq-eqb packet.cube cube (sym read ∙ same), sym test ∙ is) refl

-- a request in its cube that is not one of the registers
pub to_vault : (graph : GraphFields) (shape : ShapeFields) (cube : ℕ) (packet : PacketFields)
    (goal vault : ℕ) (registers : Bool) → goal ≡ packet.cube → goal ≡ cube →
    registers ≡ is_for_registers packet.command → registers ≡ false →
    vault ≡ vault_of shape packet.address →
    Vault vault ≡ request_to graph shape cube packet (packet.cube == cube)
to_vault graph shape cube packet goal vault registers read same test is place =
    rw (eq-eqb packet.cube cube (sym read ∙ same), sym test ∙ is, place) refl

-- a poisoned packet
pub nowhere : (graph : GraphFields) (shape : ShapeFields) (cube : ℕ) (packet : PacketFields)
    (poisoned : Bool) → poisoned ≡ packet.poisoned → poisoned ≡ true →
    Nowhere ≡ where_to graph shape cube packet
nowhere graph shape cube packet poisoned read is = rw (sym read ∙ is) refl

-- an answer that is not poisoned
pub to_host : (graph : GraphFields) (shape : ShapeFields) (cube : ℕ) (packet : PacketFields)
    (port : ℕ) (poisoned : Bool) (family : Family) → poisoned ≡ packet.poisoned → poisoned ≡ false →
    family ≡ family_of packet.command → family ≡ Reply →
    port_to_host graph packet.slid cube ≡ Some port → Port port ≡ where_to graph shape cube packet
to_host graph shape cube packet port poisoned family read is family_read family_is exact =
    rw (sym read ∙ is, sym family_read ∙ family_is, exact) refl
