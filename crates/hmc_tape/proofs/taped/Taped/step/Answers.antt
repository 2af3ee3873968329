-- The line of the step is the last of the tape.
use Rattle.std.proofs.Common.{◌≡◌, ◌∙◌, ◌++◌, Ok, List, ℕ, string_bytes, refl, sym, ap, subst}
use Rattle.hmc_tape.specs.Calls.{TapesBy}
use Rattle.hmc_tape.specs.Tape.{TapedFields, taped_of}
use Rattle.hmc_tape.proofs.Taping.{takes}
use Rattle.hmc_tape.proofs.taped.Taped.step.Goals as goal

pub returns-clause-steps : goal.returns-clause-steps
returns-clause-steps g c =
    let i = c.self.inside in
    let slots = g.B.Workbench.slots in
    let before : TapedFields = taped_of slots (record { session = i.session; script = string_bytes i.script; schedule = string_bytes i.schedule }) in
    let now : TapedFields = taped_of slots (record { session = c.take.new.self; script = string_bytes i.script; schedule = string_bytes c.push_str.new.self }) in
    let same : before ≡ taped_of slots c.args.self.now = ap (taped_of slots) c.self.view_is in
    let line : now.schedule ≡ before.schedule ++ c.step_line.result.bytes = c.in_default-push_str.ensures.bytes ∙ ap (λ (l : List ℕ). before.schedule ++ l) c.as_str.ensures.value in
    subst (λ (b : TapedFields). TapesBy b now c.args.step.now (Ok c.take.result)) same
    (takes before now c.args.step.now c.take.result (sym c.in_default.ensures.value) (c.in_default.ensures.within refl) c.step_fits.ensures.bytes c.step_fits.ensures.mask c.take.ensures.plan refl
    (line ∙ ap (λ (l : List ℕ). before.schedule ++ l) c.step_line.ensures) c.take.ensures.stands c.take.ensures.went)
