-- A request by its action and its errors.
use Rattle.std.proofs.Common.{◌≡◌, ◌∙◌, ℕ, List, Option, Some, None, sym, ap}
use Rattle.hmc_codes.specs.Request.{RequestFields}
use Rattle.hmc_codes.specs.Shape.{ShapeFields}
use Rattle.hmc_codes.specs.declared.answer.Answer.TheVariants as answers
use Rattle.hmc_units.specs.Unit.{UnitFields}
use Rattle.hmc_serial.specs.declared.action.Action.{Action}
use Rattle.hmc_serial.specs.declared.action.Action.TheVariants.{Read, Write, ReadRegister, WriteRegister, Act, Work}
use Rattle.hmc_serial.specs.Actions.{action_of}
use Rattle.hmc_serial.specs.Cube.{CubeState}
use Rattle.hmc_serial.specs.Errors.{unit_error, error_of}
use Rattle.hmc_serial.specs.Tested.{cube_error, bench_error}
use Rattle.hmc_serial.specs.Perform.{unchanged_with, answer_unless_posted, unless_error, carry_out, perform_action, perform_on}

-- an error that the cube decides counts
some_error : (action : Action) (shape : ShapeFields) (slots : List (Option UnitFields)) (request : RequestFields) (errstat : ℕ) → cube_error action shape request ≡ Some errstat → error_of action shape slots request ≡ Some errstat
some_error (Read size) shape slots request errstat is = is
some_error Write shape slots request errstat is = is
some_error ReadRegister shape slots request errstat is = is
some_error WriteRegister shape slots request errstat is = is
some_error (Act op) shape slots request errstat is = is
some_error (Work code) shape slots request errstat is = ap (λ before. unit_error before slots request.cube code) is

-- where there is none, that of the bench does
no_error : (action : Action) (shape : ShapeFields) (slots : List (Option UnitFields)) (request : RequestFields) → cube_error action shape request ≡ None → error_of action shape slots request ≡ bench_error action slots request
no_error (Read size) shape slots request is = is
no_error Write shape slots request is = is
no_error ReadRegister shape slots request is = is
no_error WriteRegister shape slots request is = is
no_error (Act op) shape slots request is = is
no_error (Work code) shape slots request is = ap (λ before. unit_error before slots request.cube code) is

pub no_request : (cube : CubeState) (slots : List (Option UnitFields)) (own request : RequestFields) → own ≡ request → None ≡ action_of own.command → unchanged_with cube slots answers.Silent ≡ perform_on cube slots request
unfolding perform_on
no_request cube slots own request view_is is = ap (λ a. perform_action a cube slots own) is ∙ ap (λ r. perform_action (action_of r.command) cube slots r) view_is

pub with_error : (cube : CubeState) (slots : List (Option UnitFields)) (own request : RequestFields) (action : Action) (errstat : ℕ) → own ≡ request → Some action ≡ action_of own.command → Some errstat ≡ cube_error action cube.shape request →
    unchanged_with cube slots (answer_unless_posted own.command (answers.Refused errstat)) ≡ perform_on cube slots request
unfolding perform_on
with_error cube slots own request action errstat view_is is error =
    ap (λ r. unchanged_with cube slots (answer_unless_posted r.command (answers.Refused errstat))) view_is
    ∙ ap (λ e. unless_error e cube slots request.command (carry_out action cube slots request)) (sym (some_error action cube.shape slots request errstat (sym error)))
    ∙ ap (λ a. perform_action a cube slots request) (is ∙ ap (λ r. action_of r.command) view_is)

pub without_error : (cube : CubeState) (slots : List (Option UnitFields)) (own request : RequestFields) (action : Action) → own ≡ request → Some action ≡ action_of own.command → None ≡ cube_error action cube.shape request →
    unless_error (bench_error action slots request) cube slots request.command (carry_out action cube slots request) ≡ perform_on cube slots request
unfolding perform_on
without_error cube slots own request action view_is is error =
    ap (λ e. unless_error e cube slots request.command (carry_out action cube slots request)) (sym (no_error action cube.shape slots request (sym error)))
    ∙ ap (λ a. perform_action a cube slots request) (is ∙ ap (λ r. action_of r.command) view_is)
