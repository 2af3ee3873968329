use Rattle.std.proofs.Common.{◌≡◌, ◌<◌, length, map}
use Rattle.hmc_serial.specs.Machine.{State}
use Rattle.hmc_search.specs.Alone.{alone}
use Rattle.hmc_search.specs.Kept.{kept}
use Rattle.hmc_search.specs.Point.{start_at}
use Rattle.hmc_judge.specs.Explaining.{first_entries}
use Rattle.hmc_judge.proofs.verdict.judge_from.Given as goal

abbrev pub invariant-entries : goal.invariant-entries
invariant-entries g l = record {
  some : 0 < length l.holders.items;
  kept : (opening : State) → g.P.Holder.point l.fn.first ≡ start_at opening →
      map g.P.Holder.point l.holders.items ≡ kept (alone l.shapes) opening (first_entries l.at l.log);
}
