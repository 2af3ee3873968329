use Rattle.std.proofs.Common.{ℕ, ap}
use Rattle.hmc_tally.specs.Tally.{no_host_steps, one_taken, with_row}
use Rattle.hmc_tally.proofs.tally.add_taken.Goals as goal

pub returns-then-from-rows : goal.returns-then-from-rows
returns-then-from-rows c = ap (λ (host : ℕ). with_row no_host_steps host one_taken c.args.rows.now)
    c.from-then-from-rows.ensures
