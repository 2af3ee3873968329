use Rattle.std.proofs.Common.{◌∙◌, ◌∷◌, ◌+◌, ℕ, ap, drop, sym}
use Rattle.hmc_schedule.specs.Written.{WrittenFields}
use Rattle.hmc_schedule.proofs.RepeatLemmas.{drop_first, hand_empty}
use Rattle.std.proofs.Math.Nat.{sub-zero}
use Rattle.hmc_schedule.proofs.steps_left.StepsLeft.take_found.Goals as goal

pub invariant_of-self : goal.invariant_of-self
invariant_of-self c =
    let w = c.self.inside.written in
    hand_empty w (c.next_at-at.result + 1) c.passed.result (c.passed.ensures w c.find-found.ensures.repeats)

pub returns-clause-taken : goal.returns-clause-taken
returns-clause-taken c =
    let steps = c.self.inside.written.steps in
    let step = c.find-found.result.step in
    ap (λ (v : WrittenFields). v.steps) (sym c.self.view_is)
    ∙ ap (λ (n : ℕ). drop n steps) (sym c.next_at-at.ensures)
    ∙ drop_first steps c.next_at-at.result step c.find-found.ensures.step
    ∙ ap (λ (n : ℕ). step ∷ drop n steps) (sym (sub-zero (c.next_at-at.result + 1)))
