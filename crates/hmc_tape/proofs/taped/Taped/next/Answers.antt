-- A step that the tape has no memory for stays.
use Rattle.std.proofs.Common.{◌≡◌, ◌∙◌, List, Result, Some, Err, ap, subst}
use Rattle.std.specs.Prelude.{slice_get}
use Rattle.hmc_net.specs.declared.went.Went.{Went}
use Rattle.hmc_schedule.specs.declared.step.Step.{Step}
use Rattle.hmc_tape.specs.Calls.{TapesBy}
use Rattle.hmc_tape.specs.Tape.{TapedFields, taped_of}
use Rattle.hmc_tape.specs.declared.taped.NotTaped.{NotTaped}
use Rattle.hmc_tape.specs.declared.taped.NotTaped.TheVariants as causes
use Rattle.hmc_tape.proofs.taped.Taped.next.Goals as goal

pub returns-in-Err-Memory-clause-steps : goal.returns-in-Err-Memory-clause-steps
returns-in-Err-Memory-clause-steps g c = λ step rest is.
    let before : TapedFields = taped_of g.B.Workbench.slots c.args.self.now in
    let now : TapedFields = taped_of g.B.Workbench.slots c.step.new.self in
    let first : Some c.in-Some.step ≡ Some step =
    c.in-Some.ensures ∙ ap (λ (steps : List Step). slice_get steps 0) is in
    let same : c.in-Some.step ≡ step = cc in
    let cause : c.step.result ≡ Err causes.Memory =
    c.in-Err-Memory.is ∙ ap (λ (cause : NotTaped). Err cause) c.in-Err-Memory.field-0-is in (
      is,
      subst (λ (s : Step). TapesBy before now s (Err causes.Memory)) same
          (subst (λ (r : Result Went NotTaped). TapesBy before now c.in-Some.step r) cause
          c.step.ensures.steps),
    )
