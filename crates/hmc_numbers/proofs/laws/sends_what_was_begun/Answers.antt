use Rattle.std.proofs.Common.{ℕ, ◌%◌, ◌≤◌, List}
use Rattle.hmc_numbers.specs.Direction.{begun}
use Rattle.hmc_numbers.specs.Events.{Event}
use Rattle.hmc_numbers.specs.May.{MayAll}
use Rattle.hmc_numbers.specs.Weights.{size}
use Rattle.hmc_numbers.specs.Events.{after}
use Rattle.hmc_numbers.proofs.Step.{order_after}
use Rattle.hmc_numbers.proofs.DirectionLaws.{position_begun, unfinished, bursts}
use Rattle.hmc_numbers.proofs.laws.sends_what_was_begun.Goals as goal

-- the packet that is being sent
sent : (r : ℕ) (past : List Event) → MayAll r past → 1 ≤ (after past).left →
    (1 ≤ (after past).last) × ((after past).last ≤ begun (after past)) × ((after past).left ≤ size (after past).first (after past).last) × (size (after past).first (after past).last ≤ 17)
sent r past m i =
    let w = after past in
    let o = order_after r past m in
    unfinished r w w.left o.valid_sizes o.last o.unfinished i

pub returns : goal.returns
returns c =
    record {
      position = λ r past m. position_begun r (after past) (order_after r past m);
      burst = λ r past m. let w = after past in bursts (w.clears % 32) w.last (order_after r past m).burst;
      first = λ r past m i. (sent r past m i).0;
      begun = λ r past m i. (sent r past m i).1;
      left = λ r past m i. (sent r past m i).2;
    }
