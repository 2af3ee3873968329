use Rattle.std.proofs.Common.{◌∙◌, sym}
use Rattle.hmc_case.proofs.HostsLemmas.{few_hosts, from_zero}
use Rattle.hmc_case.proofs.together.are_from_zero.Goals as goal

pub returns-then-are_below-clause-few : goal.returns-then-are_below-clause-few
returns-then-are_below-clause-few c = λ is small. few_hosts c.args.numbers.now small (sym c.have_all_below.ensures ∙ is)

pub returns-then-are_below-clause-exact : goal.returns-then-are_below-clause-exact
returns-then-are_below-clause-exact c = λ is number. from_zero c.args.numbers.now (sym c.are_below.ensures ∙ c.if-are_below.true) (sym c.have_all_below.ensures ∙ is) number
