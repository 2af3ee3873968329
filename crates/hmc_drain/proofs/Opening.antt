-- A receiver in Abort is Good within some 520 rounds: the sender at its own end begins a burst of
-- Starts, which is answered by one of Clears.
use Rattle.std.proofs.Common.{◌≡◌, ◌≢◌, ℕ, ◌%◌, ◌≤◌, List, ◌⊎◌, inl, inr, refl, arith}
use Rattle.hmc_codes.specs.declared.profile.Profile.{Profile}
use Rattle.hmc_numbers.specs.Direction.{Reached}
use Rattle.hmc_numbers.specs.Direction.Reached.{training, aborting, between, inside, spoilt}
use Rattle.hmc_numbers.specs.May.{IsGood}
use Rattle.hmc_link_state.specs.State.{Setup, Side, wire}
use Rattle.hmc_drain.specs.Stages.{BecomesGood}
use Rattle.hmc_drain.proofs.Blocks.{Any, block_none_left}
use Rattle.hmc_drain.proofs.Backlog.{zero_or_more}
use Rattle.hmc_drain.proofs.RunEnds.{IsCleanFar, AreClean, cleans_stay, IsClearItem}
use Rattle.hmc_drain.proofs.FourSteps.{FourSteps, four_falls}
use Rattle.hmc_link_state.proofs.Keeps.{with_moved}
use Rattle.hmc_drain.proofs.OpeningSends.{Open, open_y_send, open_x_send}
use Rattle.hmc_drain.proofs.TrainSends.{NoMatter}
use Rattle.hmc_drain.proofs.OpeningSends.Open.{good, landing, clearing, due, starting, begins, calm, waits, lefts, others, ending}
use Rattle.hmc_drain.proofs.OpeningLands.{open_y_land, open_x_land}

open_moved : (m : ℕ) (x y : Side) (n i : ℕ) (bx by qx qy : List ℕ) → Open m m m m x y →
    Open m m m m (with_moved x n bx qx) (with_moved y i by qy)
open_moved m x y n i bx by qx qy (good g) = good g
open_moved m x y n i bx by qx qy (landing t) = landing t
open_moved m x y n i bx by qx qy (clearing j v t s f o p) = clearing j v t s f o p
open_moved m x y n i bx by qx qy (due t s) = due t s
open_moved m x y n i bx by qx qy (starting v t s) = starting v t s
open_moved m x y n i bx by qx qy (begins j v t s f o p) = begins j v t s f o p
open_moved m x y n i bx by qx qy (calm g t r z s v) =
    calm g t (record { others = r.others; starts = r.starts }) z s v
open_moved m x y n i bx by qx qy (waits r z s) =
    waits (record { others = r.others; starts = r.starts }) z s
open_moved m x y n i bx by qx qy (lefts r s) =
    lefts (record { others = r.others; starts = r.starts }) s
open_moved m x y n i bx by qx qy (others z s) = others z s
open_moved m x y n i bx by qx qy (ending v s) = ending v s

open_four : (c : Setup) → c.line ≤ 64 → FourSteps c AreClean Open
open_four c u = record {
  y_send = λ m b x y bo k l h. open_y_send c u m b x y bo k l h;
  x_send = λ m a x y bo k l h. open_x_send c u m a x y bo k l h;
  y_land = λ m e x y look bo k l h. open_y_land c m e x y look bo k l h;
  x_land = λ m d x y look bo k l h. open_x_land c m d x y look bo k l h;
  moved = open_moved;
}

open_first : (x y : Side) → Open 1000 1000 1000 1000 x y
open_first x y = by_starts (zero_or_more (y.starts % 32))
  where
    by_starts : (y.starts % 32 ≡ 0) ⊎ (1 ≤ y.starts % 32) → Open 1000 1000 1000 1000 x y
    by_starts (inl z) = others z (omega arith)
    by_starts (inr n) = ending (λ z. absurd (omega (arith, n, z))) (omega (arith, n))

open_last : (x y : Side) → Open 0 0 0 0 x y → IsGood (wire x).far
open_last x y (good g) = g
open_last x y (landing t) =
    absurd (block_none_left IsClearItem NoMatter Any 23 24 (wire x).clear_run (wire x).before
    (wire x).line (omega arith) t)
open_last x y (clearing j i t s f o p) = absurd (omega (arith, f))
open_last x y (due t s) = absurd (omega (arith, s))
open_last x y (starting i t s) = absurd (omega (arith, s))
open_last x y (begins j i t s f o p) = absurd (omega (arith, f))
open_last x y (calm g t r z s i) = absurd (omega (arith, i))
open_last x y (waits r z s) = absurd (omega (arith, s))
open_last x y (lefts r s) = absurd (omega (arith, s))
open_last x y (others z s) = absurd (omega (arith, s))
open_last x y (ending n s) = absurd (omega (arith, s))

clean_far : (far : Reached) → far ≢ training → far ≢ spoilt → IsCleanFar far
clean_far training a b = absurd (a refl)
clean_far aborting a b = tt
clean_far between a b = tt
clean_far (inside n k) a b = tt
clean_far spoilt a b = absurd (b refl)

pub becomes_good : (p : Profile) (c : Setup) → BecomesGood p c
becomes_good p c = λ f run r a h.
    let k : AreClean (run 0).forth (run 0).back = (
      clean_far (wire (run 0).forth).far h.1.0.0 h.1.1,
      clean_far (wire (run 0).back).far h.1.0.1 h.1.2,
    ) in
    let z =
    four_falls p c AreClean Open (cleans_stay c) (open_four c f.line.1) f run 1000 0 1000 r
    (omega arith) a h.0 k (open_first (run 0).forth (run 0).back)
    (open_first (run 0).back (run 0).forth) in
    (open_last (run 1000).forth (run 1000).back z.0, open_last (run 1000).back (run 1000).forth z.1)
