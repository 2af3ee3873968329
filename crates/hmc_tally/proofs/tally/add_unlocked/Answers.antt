use Rattle.std.proofs.Common.{◌∙◌, ℕ, ap}
use Rattle.std.specs.Prelude.{slice_set, slice_index_or}
use Rattle.hmc_tally.specs.Tally.{no_counters, one_unlocked, with_row}
use Rattle.hmc_tally.proofs.tally.add_unlocked.Goals as goal

pub returns-then-from-rows : goal.returns-then-from-rows
returns-then-from-rows c =
    let rows = c.args.rows.now in
    let place = c.from-then-from-rows.result in
    (λ i. slice_set rows place (record (slice_index_or rows place no_counters)
    { aborts = c.count_if-row.ensures i }))
    ∙ ap (λ (direction : ℕ). with_row no_counters direction (one_unlocked c.args.was_good) rows)
    c.from-then-from-rows.ensures
