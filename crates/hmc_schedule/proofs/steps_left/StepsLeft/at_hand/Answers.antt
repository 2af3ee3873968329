-- What is kept at hand is what comes first.
use Rattle.std.proofs.Common.{◌≡◌, ◌-◌, List, length, take, drop, ap, sym, subst}
use Rattle.hmc_schedule.specs.declared.step.Step.{Step}
use Rattle.hmc_schedule.specs.StepsLeft.{next_at}
use Rattle.hmc_schedule.specs.Written.{WrittenFields}
use Rattle.hmc_schedule.proofs.RepeatLemmas.{hand_first}
use Rattle.hmc_schedule.proofs.steps_left.StepsLeft.at_hand.Goals as goal

pub returns : goal.returns
returns c =
    let w = c.self.inside.written in
    let hand = c.self.inside.hand in
    let some = take (hand.end - hand.place) (drop hand.place w.kept) in
    let steps : drop (next_at hand) w.steps ≡ c.args.self.now.steps = ap (λ (v : WrittenFields). v.steps) c.self.view_is in
    subst (λ (l : List Step). take (length l) c.args.self.now.steps ≡ l) (sym c.kept_steps.ensures)
    (subst (λ (l : List Step). take (length some) l ≡ some) steps (hand_first w hand c.self.invariant))
