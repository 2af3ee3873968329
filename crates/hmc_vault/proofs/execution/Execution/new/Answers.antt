use Rattle.std.proofs.Common.{refl, ap, sym, lit<, true≢false}
use Rattle.hmc_codes.specs.Table.{table_line}
use Rattle.hmc_codes.specs.Text.{is_mdwr}
use Rattle.hmc_vault.proofs.execution.Execution.new.Goals as goal

-- a request of 16 bytes carries none
pub invariant_of-result : goal.invariant_of-result
unfolding table_line
invariant_of-result c = rw c.empty.ensures (record {
  asks = refl;
  cube = lit< tt;
  address = lit< tt;
  payload = refl;
  bytes = λ k. lit< tt;
  zeros = λ is. absurd (true≢false (sym (ap is_mdwr is)));
})
