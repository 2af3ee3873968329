-- The script is read as the requests of the case.
use Rattle.std.proofs.Common.{◌≡◌, ◌∙◌, ap, length}
use Rattle.hmc_script.specs.Script.{script_of}
use Rattle.hmc_tape.specs.Tape.{TapedFields, taped_of}
use Rattle.hmc_tape.proofs.TapeLaw.{script_read}
use Rattle.hmc_tape.proofs.taped.Taped.script.Goals as goal

pub returns-clause-read : goal.returns-clause-read
returns-clause-read g c = λ setup past is few.
    let now : TapedFields = taped_of g.B.Workbench.slots c.args.self.now in
    let text : c.as_str.result.now ≡ now.script = c.as_str.ensures.value ∙ ap (λ (t : TapedFields). t.script) (ap (taped_of g.B.Workbench.slots) c.self.view_is) in
    ap (script_of now.session.plan.hosts (length now.session.plan.cubes)) text ∙ script_read now setup past is few
