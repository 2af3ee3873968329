-- One line more; or one broke off; or none is left.
use Rattle.std.proofs.Common.{◌∷◌, [], length, ap, subst, arith}
use Rattle.hmc_outside.specs.Lines.{WritesLines, BreaksOff}
use Rattle.hmc_replay.proofs.Reports.{lines-start, lines-one, lines-broken, lines-all}
use Rattle.hmc_replay.proofs.report.write_final.Goals as goal

pub lines-init : goal.lines-init
lines-init g c = lines-start _ _ _ c.new-lines.ensures

pub lines-preserved : goal.lines-preserved
lines-preserved g c =
    let before = c.lines.invariant in
    let here = subst (λ l. WritesLines (g.O.Sink.shows c.lines.sink) (g.O.Sink.shows c.write_line.new.sink) (l ∷ [])) c.as_str.ensures.value c.in-Ok.ensures in
    lines-one _ _ _ _ before.0 _ _ c.in-Some.line.bytes before.1 c.in-Some.ensures.line before.2 here

pub lines-smaller : goal.lines-smaller
lines-smaller g c = omega (arith, ap length c.in-Some.ensures.line)

pub returns-in-Err : goal.returns-in-Err
returns-in-Err g c =
    let before = c.lines.invariant in
    let here = subst (λ l. BreaksOff (g.O.Sink.shows c.lines.sink) (g.O.Sink.shows c.write_line.new.sink) (l ∷ [])) c.as_str.ensures.value c.in-Err.ensures in
    lines-broken _ _ _ _ before.0 _ _ c.in-Some.line.bytes before.1 c.in-Some.ensures.line before.2 here

pub returns : goal.returns
returns g c = let before = c.lines.invariant in lines-all _ _ _ before.0 _ before.1 c.in_default.ensures.none before.2
