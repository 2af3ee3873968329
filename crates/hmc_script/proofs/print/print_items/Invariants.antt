use Rattle.std.proofs.Common.{◌≡◌, take, string_bytes}
use Rattle.hmc_script.specs.Text.{script_text}
use Rattle.hmc_script.proofs.print.print_items.Given as goal

abbrev pub invariant-items : goal.invariant-items
invariant-items l = string_bytes l.text ≡ script_text (take l.at l.script)
