-- The schedule is read as the steps of the case.
use Rattle.std.proofs.Common.{◌≡◌, ◌∙◌, ap}
use Rattle.hmc_schedule.specs.Schedule.{schedule_of}
use Rattle.hmc_tape.specs.Tape.{TapedFields, taped_of}
use Rattle.hmc_tape.proofs.TapeLaw.{schedule_read}
use Rattle.hmc_tape.proofs.taped.Taped.schedule.Goals as goal

pub returns-clause-read : goal.returns-clause-read
returns-clause-read g c = λ setup past is few.
    let now : TapedFields = taped_of g.B.Workbench.slots c.args.self.now in
    let text : c.as_str.result.now ≡ now.schedule = c.as_str.ensures.value ∙ ap (λ (t : TapedFields). t.schedule) (ap (taped_of g.B.Workbench.slots) c.self.view_is) in
    ap (schedule_of now.session.plan) text ∙ schedule_read now setup past is few
