use Rattle.hmc_report.proofs.LeftLemmas.{from-memory, from-tokens}
use Rattle.hmc_report.proofs.lines.first_cursor.Goals as goal

pub returns-in-Memory-clause-left : goal.returns-in-Memory-clause-left
returns-in-Memory-clause-left g c =
    from-memory (g.N.Finished.final_values c.args.net.now) c.args.from _ c.in-Memory.is c.memories_from.ensures.left

pub returns-in-Tokens-clause-left : goal.returns-in-Tokens-clause-left
returns-in-Tokens-clause-left g c =
    from-tokens (g.N.Finished.final_values c.args.net.now) c.args.from c.in-Tokens.is
