use Rattle.std.proofs.Common.{◌≡◌, ◌≤◌, ◌<◌, ◌-◌, suc, false, length}
use Rattle.std.specs.Io.KnownBytes.{Consumes}
use Rattle.hmc_outside.specs.Reading.{ReadsFew}
use Rattle.hmc_replay.proofs.input.read_input.Given as goal

abbrev pub invariant-reads : goal.invariant-reads
invariant-reads g l = record {
  within : length l.input.items ≤ suc l.most;
  taken : Consumes (g.S.Source.shows l.initial.source).left (g.S.Source.shows l.source).left l.input.items;
  reads : ReadsFew (g.S.Source.shows l.initial.source) (g.S.Source.shows l.source) (length l.input.items);
  stops : (g.S.Source.shows l.source).stops ≡ (g.S.Source.shows l.initial.source).stops;
  faults : (g.S.Source.shows l.source).faults ≡ (g.S.Source.shows l.initial.source).faults;
  not_failed : 0 < length l.input.items → (g.S.Source.shows l.source).failed ≡ false;
}

abbrev pub decreases-reads : goal.decreases-reads
decreases-reads g l = suc l.most - length l.input.items
