use Rattle.hmc_numbers.proofs.Together.{both_after}
use Rattle.hmc_numbers.proofs.laws.trains_first.Goals as goal

pub returns : goal.returns
returns c =
    record {
      idle =
          λ r adv past m.
          let b = both_after r adv past m in
          (λ q. let t = b.forth.trains q in (t.0, t.1), λ q. let t = b.back.trains q in (t.0, t.1));
      shut = λ r adv past m. let b = both_after r adv past m in (λ q. (b.forth.trains q).2, λ q. (b.back.trains q).2);
    }
