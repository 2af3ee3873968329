-- The pointer is that of the packet that was found.
use Rattle.std.proofs.Common.{◌≡◌, ◌+◌, ◌-◌, ◌∙◌, ap, arith}
use Rattle.hmc_retry.specs.RetryBuffer.{packet_at}
use Rattle.hmc_retry.proofs.Kept.{found}
use Rattle.hmc_retry.proofs.buffer.RetryBuffer.acknowledge.Goals as goal

pub overflow_add-place : goal.overflow_add-place
overflow_add-place c = omega (arith, (found c.args.self.now c.args.rrp c.in-Some.place c.invariant.ensures c.in-Some.ensures).few)

pub drop_front-requires : goal.drop_front-requires
drop_front-requires c =
    let at = found c.args.self.now c.args.rrp c.in-Some.place c.invariant.ensures c.in-Some.ensures in record {
      some = omega arith;
      there = omega (arith, at.there);
      pointer = let e : c.in-Some.place + 1 - 1 ≡ c.in-Some.place = omega arith in ap (λ n. (packet_at c.args.self.now.kept n).frp) e ∙ at.pointer;
    }

pub overflow_add-result : goal.overflow_add-result
overflow_add-result c = omega (arith, (found c.args.self.now c.args.rrp c.in-Some.place c.invariant.ensures c.in-Some.ensures).few)
