-- What is at hand is taken, where something is or was brought.
use Rattle.std.proofs.Common.{◌≡◌, ◌∙◌, ◌<◌, ap, arith, drop, subst, sym}
use Rattle.hmc_schedule.specs.StepsLeft.{IsHand, next_at}
use Rattle.hmc_schedule.specs.Written.{WrittenFields}
use Rattle.hmc_schedule.specs.declared.steps_left.StepsLeft.TheInside.{Inside}
use Rattle.hmc_schedule.proofs.RepeatLemmas.{hand_off, hand_passed}
use Rattle.hmc_schedule.proofs.steps_left.StepsLeft.take_kept.Goals as goal
use Rattle.hmc_schedule.proofs.steps_left.StepsLeft.take_kept.Goals.{then-self+else-self-2, else-self}

-- a step is at hand, and the list is the one that it was before
record IsReady (inside : Inside) (old : WrittenFields) : Type 0 where
  more : inside.hand.place < inside.hand.end
  is : IsHand inside.written inside.hand
  view : record { kept = inside.written.kept; steps = drop (next_at inside.hand) inside.written.steps } ≡ old

ready : (c : goal.After-self-1) → IsReady c.if-self.self-inside c.args.self.now
ready c = elim c.if-self.branch [
  | then-self+else-self-2 w ↦
      let w0 = c.self.inside.written in
      subst (λ (i : Inside). IsReady i c.args.self.now) (sym w.self-inside-is) (record {
        more = omega (arith, w.if-self-2.false);
        is = w.turn.ensures.hand w0 c.self.invariant;
        view = ap (λ n. record { kept = w0.kept; steps = drop n w0.steps }) w.turn.ensures.at ∙ c.self.view_is;
      })
  | else-self w ↦ subst (λ (i : Inside). IsReady i c.args.self.now) (sym w.self-inside-is) (record {
    more = omega (arith, w.if-self.false);
    is = c.self.invariant;
    view = c.self.view_is;
  })
]

pub invariant_of-self : goal.invariant_of-self
invariant_of-self c = c.turn.ensures.hand c.self.inside.written c.self.invariant

pub invariant_of-self-2 : goal.invariant_of-self-2
invariant_of-self-2 c =
    let is = ready c in
    hand_passed c.if-self.self-inside.written c.if-self.self-inside.hand is.more is.is

pub returns-clause-taken : goal.returns-clause-taken
returns-clause-taken c =
    let is = ready c in
    hand_off c.if-self.self-inside.written c.args.self.now c.if-self.self-inside.hand is.more is.is is.view
