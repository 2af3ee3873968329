use Rattle.hmc_report.proofs.LeftLemmas.{block-line, block-none}
use Rattle.hmc_report.proofs.lines.block_step.Goals as goal

pub returns-in-Some : goal.returns-in-Some
returns-in-Some g c =
    block-line (g.N.Finished.final_values c.args.net.now) c.args.cube c.args.from c.in-Some.found _ _ c.requires.cube c.in-Some.ensures.left c.get16-bytes.ensures c.memory_line.ensures.text c.memory_line.ensures.short

pub returns-in-None : goal.returns-in-None
returns-in-None g c =
    block-none (g.N.Finished.final_values c.args.net.now) c.args.cube c.args.from _ _ c.requires.cube c.in-None.ensures.none c.memories_from.ensures.left c.memories_from.ensures.cursor c.memories_from.ensures.rank c.requires.empty
