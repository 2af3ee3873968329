-- Both lines, or one of them broke off.
use Rattle.std.proofs.Common.{◌∙◌}
use Rattle.hmc_replay.proofs.BoundReports.{first-broken, both-written}
use Rattle.hmc_replay.proofs.Writing.{passed_on}
use Rattle.hmc_replay.proofs.bound_lines.write_bound.Goals as goal

pub returns-in_err-write_number : goal.returns-in_err-write_number
returns-in_err-write_number g c = λ setup past stands off.
    passed_on _ _ _ c.in_err-write_number.field-0.0 c.from_residual.result
    c.from_residual.ensures.1
    (first-broken _ _ _ _ _ (c.from.ensures ∙ c.under_way.ensures setup past stands off)
    c.in_err-write_number.ensures)

pub returns : goal.returns
returns g c = λ setup past stands off.
    both-written _ _ _ _ _ _ _ _ (c.from.ensures ∙ c.under_way.ensures setup past stands off)
    (c.drain_bound.ensures.value setup past stands off)
    c.in_ok-write_number.ensures c.write_number-2.ensures
