-- The number of an error fits the error number of either profile.
use Rattle.std.proofs.Common.{◌≡◌, ◌<◌, ℕ, Bool, true, false, if◌then◌else◌, List, Option, Some, None, length, refl, arith}
use Rattle.std.specs.List.{list_any}
use Rattle.hmc_codes.specs.Commands.{reply_of, is_posted}
use Rattle.hmc_codes.specs.Request.{RequestFields}
use Rattle.hmc_codes.specs.declared.command.Command.{Command}
use Rattle.hmc_codes.specs.declared.command.Command.TheVariants as commands
use Rattle.hmc_codes.specs.declared.answer.Answer.{Answer}
use Rattle.hmc_codes.specs.declared.answer.Answer.TheVariants as answers
use Rattle.hmc_codes.specs.declared.answer.Acted.{Acted}
use Rattle.hmc_units.specs.Unit.{UnitFields}
use Rattle.hmc_units.specs.Bench.{serves}
use Rattle.hmc_serial.specs.declared.action.Action.{Action}
use Rattle.hmc_serial.specs.declared.action.Action.TheVariants.{Read, Write, ReadRegister, WriteRegister, Act, Work}
use Rattle.hmc_serial.specs.Actions.{action_of}
use Rattle.hmc_serial.specs.Cube.{CubeState}
use Rattle.hmc_codes.specs.Shape.{ShapeFields}
use Rattle.hmc_atomics.specs.Operations.{by_halves}
use Rattle.hmc_serial.specs.Errors.{memory_error, register_error, register_write_error, unit_error, acted_size, error_of}
use Rattle.hmc_serial.specs.Perform.{unless_error, acted_answer, acted_at, leaves_worked, carry_out, perform_action, perform_on}
use Rattle.hmc_laws.proofs.Standing.{IsSmallError}

-- each error has one of six numbers
three_numbers : (a b c : Bool) (e : ℕ) → (if a then Some 1 else (if b then Some 2 else (if c then Some 3 else None))) ≡ Some e → e < 8
three_numbers true b c e is = let same : 1 ≡ e = cc in omega arith
three_numbers false true c e is = let same : 2 ≡ e = cc in omega arith
three_numbers false false true e is = let same : 3 ≡ e = cc in omega arith
three_numbers false false false e is = absurd (cc)

two_numbers : (a b : Bool) (e : ℕ) → (if a then Some 4 else (if b then Some 5 else None)) ≡ Some e → e < 8
two_numbers true b e is = let same : 4 ≡ e = cc in omega arith
two_numbers false true e is = let same : 5 ≡ e = cc in omega arith
two_numbers false false e is = absurd (cc)

one_number : (a : Bool) (e : ℕ) → (if a then Some 4 else None) ≡ Some e → e < 8
one_number true e is = let same : 4 ≡ e = cc in omega arith
one_number false e is = absurd (cc)

memory_number : (shape : ShapeFields) (size : ℕ) (halves : Bool) (address e : ℕ) → memory_error shape size halves address ≡ Some e → e < 8
unfolding memory_error
memory_number shape size halves address e is = three_numbers _ _ _ e is

unit_free : (served : Bool) (e : ℕ) → (if served then None else Some 6) ≡ Some e → e < 8
unit_free true e is = absurd (cc)
unit_free false e is = let same : 6 ≡ e = cc in omega arith

unit_number : (before : Option ℕ) (slots : List (Option UnitFields)) (cube code e : ℕ) → ((k : ℕ) → before ≡ Some k → k < 8) → unit_error before slots cube code ≡ Some e → e < 8
unit_number (Some k) slots cube code e small is = small e is
unit_number None slots cube code e small is = unit_free (list_any (serves cube code) slots) e is

error_number : (action : Action) (shape : ShapeFields) (slots : List (Option UnitFields)) (request : RequestFields) (e : ℕ) → error_of action shape slots request ≡ Some e → e < 8
unfolding register_error register_write_error
error_number (Read size) shape slots request e is = memory_number shape size false request.address e is
error_number Write shape slots request e is = memory_number shape (length request.payload) false request.address e is
error_number ReadRegister shape slots request e is = one_number _ e is
error_number WriteRegister shape slots request e is = two_numbers _ _ e is
error_number (Act op) shape slots request e is = memory_number shape (acted_size (by_halves op)) (by_halves op) request.address e is
error_number (Work code) shape slots request e is = unit_number (memory_error shape 16 false request.address) slots request.cube code e (λ k. memory_number shape 16 false request.address k) is

unless_small : (posted : Bool) (answer : Answer) → IsSmallError answer → IsSmallError (if posted then answers.Silent else answer)
unless_small true answer small = tt
unless_small false answer small = small

acted_small : (reply : Option Command) (acted : Acted) → IsSmallError (acted_answer reply acted)
acted_small (Some commands.RdRs) acted = tt
acted_small (Some commands.WrRs) acted = tt
acted_small (Some _) acted = tt
acted_small None acted = tt

worked_small : (cube : CubeState) (slots : List (Option UnitFields)) (request : RequestFields) (acted : Option Acted) → IsSmallError (leaves_worked cube slots request acted).answer
worked_small cube slots request None = tt
worked_small cube slots request (Some acted) = acted_small (reply_of request.command) acted

carried_small : (action : Action) (cube : CubeState) (slots : List (Option UnitFields)) (request : RequestFields) → IsSmallError (carry_out action cube slots request).answer
carried_small (Read size) cube slots request = tt
carried_small Write cube slots request = unless_small (is_posted request.command) (answers.Done false) tt
carried_small ReadRegister cube slots request = tt
carried_small WriteRegister cube slots request = tt
carried_small (Act op) cube slots request = acted_small (reply_of request.command) (acted_at op cube.memory request.address request.payload)
carried_small (Work code) cube slots request = worked_small cube _ request _

by_error : (error : Option ℕ) (action : Action) (cube : CubeState) (slots : List (Option UnitFields)) (request : RequestFields) → error_of action cube.shape slots request ≡ error
    → IsSmallError (unless_error error cube slots request.command (carry_out action cube slots request)).answer
by_error None action cube slots request is = carried_small action cube slots request
by_error (Some errstat) action cube slots request is =
    let few = error_number action cube.shape slots request errstat is in
    unless_small (is_posted request.command) (answers.Refused errstat) (omega arith)

by_action : (action : Option Action) (cube : CubeState) (slots : List (Option UnitFields)) (request : RequestFields) → IsSmallError (perform_action action cube slots request).answer
by_action None cube slots request = tt
by_action (Some action) cube slots request = by_error _ action cube slots request refl

pub performed_small : (cube : CubeState) (slots : List (Option UnitFields)) (request : RequestFields) → IsSmallError (perform_on cube slots request).answer
unfolding perform_on
performed_small cube slots request = by_action (action_of request.command) cube slots request
