use Rattle.std.proofs.Common.{◌≡◌, ℕ, ◌<◌, length, slice_index_or}
use Rattle.hmc_routes.specs.Tables.{IsTableOf}
use Rattle.hmc_routes.specs.declared.table.Table.{Table}
use Rattle.hmc_routes.proofs.table.tables_of.Given as goal

abbrev pub invariant-each : goal.invariant-each
invariant-each l = record {
  all : length l.tables.items ≡ l.goal;
  each : (k : ℕ) (d : Table) → k < l.goal → IsTableOf l.graph k (slice_index_or l.tables.items k d);
}
