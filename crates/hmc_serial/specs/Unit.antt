-- The unit that executes a request.
use Rattle.std.specs.Prelude.{Bool, true, false}
use Rattle.hmc_codes.specs.Request.{RequestFields}
use Rattle.hmc_codes.specs.Shape.{ShapeFields, vault_of, bank_of}
use Rattle.hmc_codes.specs.declared.command.Command.{Command}
use Rattle.hmc_codes.specs.declared.command.Command.TheVariants.{Mdrd, Mdwr}
use Rattle.hmc_codes.specs.declared.unit.Unit.{Unit as RequestUnit}
use Rattle.hmc_codes.specs.declared.unit.Unit.TheVariants as units

-- the command reads or writes a register
abbrev pub is_for_registers : Command → Bool
is_for_registers Mdrd = true
is_for_registers Mdwr = true
is_for_registers _ = false

-- the registers of the request's cube, or the bank that its address names
abbrev pub unit_by : Bool → ShapeFields → RequestFields → RequestUnit
unit_by true shape request = units.Registers request.cube
unit_by false shape request =
    units.Bank request.cube (vault_of shape request.address) (bank_of shape request.address)

-- the unit that executes a request, by the shape of its cube
unfoldable pub unit_of : ShapeFields → RequestFields → RequestUnit
unit_of shape request = unit_by (is_for_registers request.command) shape request
