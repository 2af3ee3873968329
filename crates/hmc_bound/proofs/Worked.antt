-- Worked values of the drain bound: how many whole rounds are enough where nothing is under way, or
-- two packets.
use Rattle.std.proofs.Common.{◌≡◌, ◌+◌, ◌*◌, inl, inr, ℕ, List, ap, arith}
use Rattle.hmc_entries.specs.declared.entry.Entry.{Entry}
use Rattle.hmc_journal.specs.Settled.{AreSettled}
use Rattle.hmc_journal.specs.Setup.{Setup, Topology}
use Rattle.hmc_journal.specs.UnderWay.{under_way}
use Rattle.hmc_bound.specs.Bound.{drain_bound}
use Rattle.hmc_bound.specs.Ends.{AreEnough}

drain_bound-none : (topology : Topology) (past : List Entry) → under_way topology past ≡ 0 → drain_bound topology past ≡ 6000
drain_bound-none topology past none = ap (λ (k : ℕ). 4000 + 2000 * (k + 1)) none

drain_bound-two : (topology : Topology) (past : List Entry) → under_way topology past ≡ 2 → drain_bound topology past ≡ 10000
drain_bound-two topology past two = ap (λ (k : ℕ). 4000 + 2000 * (k + 1)) two

-- with nothing under way 6,000 are enough from any link, and one less only from a settled one
AreEnough-any : (setup : Setup) (past : List Entry) → under_way setup.topology past ≡ 0 → AreEnough setup past 6000
AreEnough-any setup past none = inr (omega (arith, none))

AreEnough-one_less : (setup : Setup) (past : List Entry) → under_way setup.topology past ≡ 0 → AreEnough setup past 5999 → AreSettled setup.topology past
AreEnough-one_less setup past none (inl is) = is.0
AreEnough-one_less setup past none (inr is) = absurd (omega (arith, none, is))

-- from a settled link 2,000 are enough, and one less never
AreEnough-settled : (setup : Setup) (past : List Entry) → under_way setup.topology past ≡ 0 → AreSettled setup.topology past → AreEnough setup past 2000
AreEnough-settled setup past none settled = inl (settled, omega (arith, none))

AreEnough-few : (setup : Setup) (past : List Entry) → under_way setup.topology past ≡ 0 → AreEnough setup past 1999 → ⊥
AreEnough-few setup past none (inl is) = absurd (omega (arith, none, is.1))
AreEnough-few setup past none (inr is) = absurd (omega (arith, none, is))
