-- What several reads in a row come to.
use Rattle.std.proofs.Common.{◌≡◌, ◌≤◌, ◌<◌, ◌∙◌, ℕ, zero, suc, refl, sym, ap, arith}
use Rattle.hmc_outside.specs.Raised.{raised, raised_by}
use Rattle.hmc_outside.specs.Reading.{empty_after, ReadsOnce, ReadsFew}
use Rattle.hmc_outside.specs.Views.{SourceView}

-- raised once more
raised_by-more : (times n : ℕ) → raised_by (suc times) n ≡ raised (raised_by times n)
unfolding raised_by
raised_by-more zero n = refl
raised_by-more (suc times) n = raised_by-more times (raised n)

raised_by-none : (n : ℕ) → n ≡ raised_by 0 n
unfolding raised_by
raised_by-none n = refl

empty_after-some : (asked n : ℕ) → 0 < asked → empty_after asked n ≡ n
empty_after-some zero n some = absurd (omega (arith, some))
empty_after-some (suc asked) n some = refl

-- there was no read
pub ReadsFew-none : (a : SourceView) (most : ℕ) → ReadsFew a a most
ReadsFew-none a most = record { times = 0; few = omega arith; reads = raised_by-none a.reads; empty_reads = refl }

-- there was one more, which asked for a byte at least
pub ReadsFew-more : (a b c : SourceView) (most asked : ℕ) → ReadsFew a b most → ReadsOnce b c asked → 0 < asked → ReadsFew a c (suc most)
ReadsFew-more a b c most asked before here some = record {
  times = suc before.times;
  few = omega (arith, before.few);
  reads = here.reads ∙ ap raised before.reads ∙ sym (raised_by-more before.times a.reads);
  empty_reads = here.empty_reads ∙ empty_after-some asked b.empty_reads some ∙ before.empty_reads;
}

-- there may have been more
pub ReadsFew-most : (a b : SourceView) (most more : ℕ) → ReadsFew a b most → most ≤ more → ReadsFew a b more
ReadsFew-most a b most more reads le = record { times = reads.times; few = omega (arith, reads.few, le); reads = reads.reads; empty_reads = reads.empty_reads }
