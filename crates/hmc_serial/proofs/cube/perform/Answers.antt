use Rattle.std.proofs.Common.{◌∙◌, ap, sym}
use Rattle.hmc_serial.specs.Cube.{cube_state_of, outcome_of_parts}
use Rattle.hmc_serial.specs.Tested.{cube_error}
use Rattle.hmc_serial.proofs.Performed.{no_request, with_error, without_error}
use Rattle.hmc_serial.proofs.cube.perform.Goals as goal

pub returns-in_default-clause-outcome : goal.returns-in_default-clause-outcome
returns-in_default-clause-outcome g c =
    no_request (cube_state_of c.args.banks.now c.args.registers.now) (g.B.Workbench.slots c.args.bench.now) _ c.args.request.now c.request.view_is c.in_default.ensures

pub returns-in-Some-error-clause-outcome : goal.returns-in-Some-error-clause-outcome
returns-in-Some-error-clause-outcome g c =
    ap (outcome_of_parts c.args.banks.now c.args.registers.now (g.B.Workbench.slots c.args.bench.now)) c.answer_unless_posted.ensures
    ∙ with_error (cube_state_of c.args.banks.now c.args.registers.now) (g.B.Workbench.slots c.args.bench.now) _ c.args.request.now c.in-Some.action c.in-Some-error.errstat c.request.view_is (sym c.in-Some.is ∙ c.of.ensures)
    (sym c.in-Some-error.is ∙ c.error.ensures ∙ ap (λ s. cube_error c.in-Some.action s c.args.request.now) c.shape.ensures)

pub returns-in-None-clause-outcome : goal.returns-in-None-clause-outcome
returns-in-None-clause-outcome g c =
    c.carry_out.ensures.outcome
    ∙ without_error (cube_state_of c.args.banks.now c.args.registers.now) (g.B.Workbench.slots c.args.bench.now) _ c.args.request.now c.in-Some.action c.request.view_is (sym c.in-Some.is ∙ c.of.ensures)
    (sym c.in-None.is ∙ c.error.ensures ∙ ap (λ s. cube_error c.in-Some.action s c.args.request.now) c.shape.ensures)
