-- The errors of a request, by what decides them.
use Rattle.std.specs.Prelude.{ℕ, false, List, [], Option, None}
use Rattle.hmc_codes.specs.Request.{RequestFields}
use Rattle.hmc_codes.specs.Shape.{ShapeFields}
use Rattle.hmc_units.specs.Unit.{UnitFields}
use Rattle.hmc_serial.specs.declared.action.Action.{Action}
use Rattle.hmc_serial.specs.declared.action.Action.TheVariants.{Work}
use Rattle.hmc_serial.specs.Errors.{memory_error, unit_error, error_of}

-- errors 1 to 5: the address and the shape of the cube
abbrev pub cube_error : Action → ShapeFields → RequestFields → Option ℕ
cube_error (Work code) shape request = memory_error shape 16 false request.address
cube_error action shape request = error_of action shape [] request

-- error 6, if there is none of these: the logic units
abbrev pub bench_error : Action → List (Option UnitFields) → RequestFields → Option ℕ
bench_error (Work code) slots request = unit_error None slots request.cube code
bench_error action slots request = None
