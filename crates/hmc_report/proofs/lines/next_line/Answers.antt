use Rattle.std.proofs.Common.{◌∙◌, refl}
use Rattle.hmc_report.proofs.LeftLemmas.{given-later}
use Rattle.hmc_report.proofs.lines.next_line.Goals as goal

pub steps-init : goal.steps-init
steps-init g c = (refl, c.requires.cursor, c.requires.empty)

pub steps-preserved : goal.steps-preserved
steps-preserved g c =
    let gives = c.in-Nothing.ensures in (c.steps.invariant.0 ∙ gives.left, gives.cursor, gives.empty)

pub steps-smaller : goal.steps-smaller
steps-smaller g c = c.in-Nothing.ensures.fewer

pub returns-in-Line-clause-line : goal.returns-in-Line-clause-line
returns-in-Line-clause-line g c =
    given-later (g.N.Finished.final_values c.args.net.now) c.args.from c.steps.cursor c.in-Line.next _ c.steps.invariant.0 c.in-Line.ensures

pub returns-in-End-clause-none : goal.returns-in-End-clause-none
returns-in-End-clause-none g c = c.steps.invariant.0 ∙ c.in-End.ensures
