use Rattle.hmc_report.proofs.LeftLemmas.{register-line, register-none}
use Rattle.hmc_report.proofs.lines.register_step.Goals as goal

pub returns-in-Some : goal.returns-in-Some
returns-in-Some g c =
    register-line (g.N.Finished.final_values c.args.net.now) c.args.cube c.args.from c.in-Some.found _ _ c.requires.cube c.in-Some.ensures.left c.value_at-value.ensures c.register_line.ensures.text c.register_line.ensures.short

pub returns-in-None : goal.returns-in-None
returns-in-None g c =
    register-none (g.N.Finished.final_values c.args.net.now) c.args.cube c.args.from _ _ c.requires.cube c.in-None.ensures.none c.registers_from.ensures.left c.registers_from.ensures.cursor c.registers_from.ensures.rank c.requires.empty
