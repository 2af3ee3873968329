-- Lemmas on rounds, cited anywhere in a run.
use Rattle.std.proofs.Common.{◌≡◌, ℕ, zero, suc, ◌+◌, ◌≤◌, sym, subst, arith}
use Rattle.hmc_codes.specs.declared.profile.Profile.{Profile}
use Rattle.hmc_link_state.specs.State.{Setup, State, under_way, weight}
use Rattle.hmc_link_state.specs.Round.{IsRound, Rounds}
use Rattle.hmc_link_state.specs.Facts.{Facts}
use Rattle.hmc_link_state.specs.EachRound.{IsFit, Leads, Any, KeepsFacts}

pub fewer : (c : Setup) (run : ℕ → State) (m n : ℕ) → Rounds c run n → m ≤ n → Rounds c run m
fewer c run m n r h = λ i k. r i (omega arith)

step : (i k : ℕ) → suc (i + k) ≡ suc i + k
step i k = omega arith

pub later : (c : Setup) (run : ℕ → State) (k m n : ℕ) → Rounds c run n → m + k ≤ n →
    Rounds c (λ i. run (i + k)) m
later c run k m n r h =
    λ i l. subst (λ j. IsRound c (run (i + k)) (run j)) (step i k) (r (i + k) (omega arith))

-- a lemma, `k` rounds into a run
pub along : (p : Profile) (c : Setup) (m : ℕ) (H : State → Type 0) (G : State → State → Type 0) →
    Leads p c m H G → IsFit p c → (run : ℕ → State) (k n : ℕ) → Rounds c run n → m + k ≤ n →
    Facts c (run k) → H (run k) → G (run k) (run (m + k))
along p c m H G l f run k n r h a b =
    let q : k ≡ 0 + k = omega arith in
    subst (λ j. G (run j) (run (m + k))) (sym q)
    (l f (λ i. run (i + k)) (later c run k m n r h) (subst (λ j. Facts c (run j)) q a)
    (subst (λ j. H (run j)) q b))

-- what each round keeps
pub kept : (p : Profile) (c : Setup) (H : State → Type 0) → KeepsFacts p c →
    Leads p c 1 H (λ s t. H t) → IsFit p c → (run : ℕ → State) (m k n : ℕ) → Rounds c run n →
    m + k ≤ n → Facts c (run k) → H (run k) → Facts c (run (m + k)) × H (run (m + k))
    × (under_way (run (m + k)) ≤ under_way (run k)) × (weight (run (m + k)) ≤ weight (run k))
kept p c H K l f run zero k n r h a b =
    let q : k ≡ 0 + k = omega arith in
    subst (λ j. Facts c (run j) × H (run j) × (under_way (run j) ≤ under_way (run k))
    × (weight (run j) ≤ weight (run k))) q (a, b, omega arith, omega arith)
kept p c H K l f run (suc m) k n r h a b =
    let z : Facts c (run (m + k)) × H (run (m + k)) × (under_way (run (m + k)) ≤ under_way (run k))
    × (weight (run (m + k)) ≤ weight (run k)) =
    kept p c H K l f run m k n r (omega arith) a b in
    let x : Facts c (run (1 + (m + k))) × (under_way (run (1 + (m + k))) ≤ under_way (run (m + k)))
    × (weight (run (1 + (m + k))) ≤ weight (run (m + k))) =
    along p c 1 Any (λ s t. Facts c t × (under_way t ≤ under_way s) × (weight t ≤ weight s)) K f run
    (m + k) n r (omega arith) z.0 tt in
    let y : H (run (1 + (m + k))) =
    along p c 1 H (λ s t. H t) l f run (m + k) n r (omega arith) z.0 z.1 in
    let q : 1 + (m + k) ≡ suc m + k = omega arith in
    subst (λ j. Facts c (run j) × H (run j) × (under_way (run j) ≤ under_way (run k))
    × (weight (run j) ≤ weight (run k))) q (x.0, y, omega arith, omega arith)

pub any : (p : Profile) (c : Setup) → Leads p c 1 Any (λ s t. Any t)
any p c = λ f run r a b. tt
