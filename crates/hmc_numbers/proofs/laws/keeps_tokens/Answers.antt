use Rattle.hmc_numbers.proofs.PairLaws.{tokens_after}
use Rattle.hmc_numbers.proofs.laws.keeps_tokens.Goals as goal

pub returns : goal.returns
returns c =
    record {
      held = λ r adv past m. let t = tokens_after r adv past m in (t.0.held, t.1.held);
      transit = λ r adv past m. let t = tokens_after r adv past m in (t.0.transit, t.1.transit);
      used = λ r adv past m. let t = tokens_after r adv past m in (t.0.used, t.1.used);
      due = λ r adv past m. let t = tokens_after r adv past m in (t.0.due, t.1.due);
      returning = λ r adv past m. let t = tokens_after r adv past m in (t.0.returning, t.1.returning);
      fits = λ r adv past m. let t = tokens_after r adv past m in (t.0.fits, t.1.fits);
      sum = λ r adv past m. let t = tokens_after r adv past m in (t.0.sum, t.1.sum);
    }
