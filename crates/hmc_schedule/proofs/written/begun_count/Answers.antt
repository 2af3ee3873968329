use Rattle.std.proofs.Common.{rules, of_calls, nat_le}
use Rattle.std.proofs.lemmas.Fn.{always_returns_same}
use Rattle.hmc_schedule.specs.declared.written.Segment.{Segment}
use Rattle.hmc_schedule.proofs.WrittenLemmas.{partitioned, point_of}
use Rattle.hmc_schedule.proofs.written.begun_count.Goals as goal

pub returns-clause-point : goal.returns-clause-point
returns-clause-point c =
    point_of c.args.segments.now c.args.at c.partition_point.result
    (c.partition_point.ensures.partitioned (λ (s : Segment). nat_le s.start c.args.at) (always_returns_same _ _ _ (λ a r f k. search (rules, of_calls))) (partitioned c.args.segments.now c.args.at c.requires))
