-- Of an entry with other parts nothing is said.
use Rattle.std.proofs.Common.{◌≡◌, length, subst}
use Rattle.hmc_entries.specs.declared.last_entry.Short.{Short}
use Rattle.hmc_entries.specs.declared.last_entry.Short.TheVariants as shorts
use Rattle.hmc_entries.specs.Event.{IsLongFlit}
use Rattle.hmc_entries.specs.LastEntry.{Parts, entry_of}
use Rattle.hmc_entries.proofs.last_entry.LastEntry.flit_is_long.Goals as goal

long_by : (short : Short) (p : Parts) → length p.flit ≡ 16 → IsLongFlit (entry_of short p)
long_by (shorts.Landed direction outcome) p is = is
long_by _ p is = tt

pub returns : goal.returns
returns c = subst IsLongFlit c.self.view_is (long_by _ _ c.is_long.ensures)
