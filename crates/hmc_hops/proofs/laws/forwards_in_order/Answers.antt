use Rattle.hmc_hops.proofs.Forwarding.{is_forwarded}
use Rattle.hmc_hops.proofs.FreeWay.{opens, stays}
use Rattle.hmc_hops.proofs.laws.forwards_in_order.Goals as goal

pub returns : goal.returns
returns c =
    record {
      forward = is_forwarded;
      opens = λ m past e d empty none. opens m e d past empty none;
      stays = λ m move past e d map lawful may none is. stays m map e d move past lawful may none is;
    }
