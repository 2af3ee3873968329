use Rattle.std.proofs.Common.{string_bytes}
use Rattle.hmc_script.proofs.LawLemmas.{print_is_read}
use Rattle.hmc_script.proofs.script.Script.print.Goals as goal

pub returns-clause-again : goal.returns-clause-again
returns-clause-again c =
    print_is_read string_bytes c.print_items.result c.args.self.now c.invariant.ensures c.print_items.ensures
