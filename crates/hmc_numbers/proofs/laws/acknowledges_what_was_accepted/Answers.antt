use Rattle.hmc_numbers.specs.Pair.{pair_after}
use Rattle.hmc_numbers.proofs.Together.{both_after}
use Rattle.hmc_numbers.proofs.PairLaws.{points}
use Rattle.hmc_numbers.proofs.laws.acknowledges_what_was_accepted.Goals as goal

pub returns : goal.returns
returns c =
    record {
      stamped = λ r adv past m. let b = both_after r adv past m in (b.forth.stamped, b.back.stamped);
      rising = λ r adv past m. let b = both_after r adv past m in (b.forth.stamps, b.back.stamps);
      sent =
          λ r adv e x xs past m.
          let b = both_after r adv past m in
          let p = pair_after past in (
            λ may count. points r adv p.forth p.back b.forth.order e may count x xs,
            λ may count. points r adv p.back p.forth b.back.order e may count x xs,
          );
    }
