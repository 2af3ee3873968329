-- The network of a case stands for it, and its journal has room for an entry of each step.
use Rattle.std.proofs.Common.{◌≡◌, ◌≤◌, ◌∙◌, ℕ, ap, sym, subst, length, arith}
use Rattle.std.proofs.lemmas.Grind.{common_steps}
use Rattle.hmc_entries.specs.Journal.{JournalFields}
use Rattle.hmc_journal.specs.Setup.{setup_of}
use Rattle.hmc_net.specs.NetState.{net_of}
use Rattle.hmc_net.specs.Stands.{StandsFor}
use Rattle.hmc_net.proofs.net.Net.build.Goals as goal

enough : (steps counted most : ℕ) → counted ≡ steps → most ≡ counted → steps ≤ most
enough steps counted most a b = grind (arith, common_steps)

pub returns-clause-stands : goal.returns-clause-stands
returns-clause-stands g c = record {
  stands = subst (λ past. StandsFor (net_of g.B.Workbench.slots c.in_ok-network.network) (setup_of c.args.case.now (g.B.Workbench.slots c.args.bench)) past) (sym (ap (λ (j : JournalFields). j.past) c.in_ok-journal.ensures)) c.in_ok-network.ensures;
  most = enough (length c.args.case.now.schedule) c.len.result c.in_ok-journal.journal.most (c.len.ensures ∙ ap length c.schedule.ensures) (ap (λ (j : JournalFields). j.most) c.in_ok-journal.ensures);
}
