use Rattle.std.proofs.Common.{refl}
use Rattle.hmc_schedule.proofs.CountdownLemmas.{none_left, next_line, next_count}
use Rattle.hmc_schedule.specs.Written.{kept_of}
use Rattle.hmc_schedule.proofs.rounds_left.RoundsLeft.next.Goals as goal

pub returns-in_default-clause-none : goal.returns-in_default-clause-none
returns-in_default-clause-none c =
    none_left _ c.lines.self-inside.noise c.lines.self-inside.count c.lines.self-inside.round.now (kept_of c.lines.self-inside.kept.now c.lines.self-inside.many.now) c.lines.self-inside.segments.now c.lines-test.true c.in_default.len_below c.lines.invariant.1

pub returns-in_default-clause-ended : goal.returns-in_default-clause-ended
returns-in_default-clause-ended c =
    none_left _ c.lines.self-inside.noise c.lines.self-inside.count c.lines.self-inside.round.now (kept_of c.lines.self-inside.kept.now c.lines.self-inside.many.now) c.lines.self-inside.segments.now c.lines-test.true c.in_default.len_below refl

pub lines-preserved : goal.lines-preserved
lines-preserved c =
    let line = next_line _ c.lines.self-inside.noise _ c.lines.self-inside.count c.lines.self-inside.round.now _ (kept_of c.lines.self-inside.kept.now c.lines.self-inside.many.now) c.lines.self-inside.segments.now _ c.lines-test.true c.in-len1-up.len_at_least c.lines.invariant.1 c.line_of-line.ensures.steps c.lines.invariant.0.held c.line_of-line.ensures.keeps in
    let count = next_count _ c.lines.self-inside.count _ c.lines.self-inside.many.now c.lines.self-inside.segments.now _ c.lines-test.true c.in-len1-up.len_at_least c.lines.invariant.2 c.line_of-line.ensures.count in
    (line.0, line.1, count)
