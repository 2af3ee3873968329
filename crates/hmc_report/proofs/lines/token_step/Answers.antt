use Rattle.std.proofs.Common.{arith}
use Rattle.hmc_report.proofs.LeftLemmas.{tokens-line, tokens-none}
use Rattle.hmc_report.proofs.lines.token_step.Goals as goal

pub returns-then-direction-directions : goal.returns-then-direction-directions
returns-then-direction-directions g c =
    tokens-none (g.N.Finished.final_values c.args.net.now) c.args.direction _ (omega arith) c.requires

pub returns : goal.returns
returns g c =
    tokens-line (g.N.Finished.final_values c.args.net.now) c.args.direction c.tokens.result _ (omega arith) c.tokens.ensures c.token_line.ensures.text c.token_line.ensures.short
