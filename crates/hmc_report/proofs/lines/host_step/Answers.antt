use Rattle.std.proofs.Common.{arith}
use Rattle.hmc_report.proofs.LeftLemmas.{host-line, host-none}
use Rattle.hmc_report.proofs.lines.host_step.Goals as goal

pub returns-then-host-hosts : goal.returns-then-host-hosts
returns-then-host-hosts g c =
    host-none (g.N.Finished.final_values c.args.net.now) c.args.host _ (omega arith) c.requires

pub returns : goal.returns
returns g c =
    host-line (g.N.Finished.final_values c.args.net.now) c.args.host c.host_counts.result _ (omega arith) c.host_counts.ensures c.host_line.ensures.text c.host_line.ensures.short
