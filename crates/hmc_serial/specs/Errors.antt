-- The errors of requests, by their numbers, in the order of the tests.
use Rattle.std.specs.Prelude.{ℕ, ◌+◌, ◌/◌, ◌%◌, Bool, false, not, ◌==◌, ◌||◌, ◌&&◌, nat_lt, nat_le, if◌then◌else◌, List, length, Option, Some, None}
use Rattle.std.specs.List.{list_any}
use Rattle.hmc_codes.specs.Request.{RequestFields}
use Rattle.hmc_codes.specs.Shape.{ShapeFields, offset_of, row_of}
use Rattle.hmc_atomics.specs.Operations.{by_halves}
use Rattle.hmc_units.specs.Unit.{UnitFields}
use Rattle.hmc_units.specs.Bench.{serves}
use Rattle.hmc_serial.specs.declared.action.Action.{Action}
use Rattle.hmc_serial.specs.declared.action.Action.TheVariants.{Read, Write, ReadRegister, WriteRegister, Act, Work}

-- bits 2 to 0 of the address are not zero, or bit 3 is not zero and the command doesn't act on
-- halves
abbrev pub is_misaligned : (halves : Bool) → (address : ℕ) → Bool
is_misaligned halves address = not (address % 8 == 0) || (not halves && not (address / 8 % 2 == 0))

-- 1: misaligned; 2: past the end of its block; 3: no such row
unfoldable pub memory_error : ShapeFields → (size : ℕ) → (halves : Bool) → (address : ℕ) → Option ℕ
memory_error shape size halves address =
    (if is_misaligned halves address then Some 1 else
    (if nat_lt shape.block (offset_of shape address + size) then Some 2 else
    (if nat_le shape.rows (row_of shape address) then Some 3 else None)))

-- 4: no such register
unfoldable pub register_error : (address : ℕ) → Option ℕ
register_error address = (if nat_le 16 address then Some 4 else None)

-- 4: no such register; 5: a read-only one
unfoldable pub register_write_error : (address : ℕ) → Option ℕ
register_write_error address =
    (if nat_le 16 address then Some 4 else
    (if nat_lt address 4 then Some 5 else None))

-- 6, if there is no error before it: no live logic unit has this cube and this code
abbrev pub unit_error : Option ℕ → List (Option UnitFields) → (cube code : ℕ) → Option ℕ
unit_error (Some errstat) slots cube code = Some errstat
unit_error None slots cube code = (if list_any (serves cube code) slots then None else Some 6)

-- the bytes that an atomic command touches
abbrev pub acted_size : Bool → ℕ
acted_size halves = (if halves then 8 else 16)

-- the error of a request to a cube of this shape, with these logic units
abbrev pub error_of : Action → ShapeFields → List (Option UnitFields) → RequestFields → Option ℕ
error_of (Read size) shape slots request = memory_error shape size false request.address
error_of Write shape slots request =
    memory_error shape (length request.payload) false request.address
error_of ReadRegister shape slots request = register_error request.address
error_of WriteRegister shape slots request = register_write_error request.address
error_of (Act op) shape slots request =
    memory_error shape (acted_size (by_halves op)) (by_halves op) request.address
error_of (Work code) shape slots request =
    unit_error (memory_error shape 16 false request.address) slots request.cube code
