-- The bound from the lemmas on rounds.
use Rattle.std.proofs.Common.{◌≡◌, ℕ, zero, suc, ◌+◌, ◌-◌, ◌*◌, ◌≤◌, ◌⊎◌, inl, inr, subst, arith}
use Rattle.hmc_codes.specs.declared.profile.Profile.{Profile}
use Rattle.hmc_link_state.specs.State.{Setup, State, under_way, weight, crossing, IsSteady, IsSettled}
use Rattle.hmc_link_state.specs.Round.{Rounds}
use Rattle.hmc_link_state.specs.Facts.{Facts}
use Rattle.hmc_link_state.specs.EachRound.{IsFit, Any, IsReady}
use Rattle.hmc_drain.specs.Stages.{HasNoTrain, IsClean, AreGood, Crosses, CrossesNot, IsQuiet, IsLighterBy, SettlesInAll, DrainsSettled, DrainsAny}
use Rattle.hmc_link_state.proofs.Along.{fewer, later, along, kept, any}
use Rattle.hmc_link_state.proofs.Steady.{steadies, stays_steady}
use Rattle.hmc_link_state.proofs.Settled.{stays_settled}
use Rattle.hmc_drain.proofs.Clean.{cleans}
use Rattle.hmc_link_state.proofs.Ready.{stays_ready}
use Rattle.hmc_drain.proofs.Training.{leaves}
use Rattle.hmc_drain.proofs.Opening.{becomes_good}
use Rattle.hmc_drain.proofs.Settling.{settles_good}
use Rattle.hmc_link_state.proofs.Keeps.{keeps}
use Rattle.hmc_drain.proofs.Catching.{catches}
use Rattle.hmc_drain.proofs.Moving.{moves}
use Rattle.hmc_drain.proofs.Arriving.{arrives}
use Rattle.hmc_drain.proofs.Beginning.{begins}
use Rattle.hmc_drain.proofs.Weight.{crossing_weighs, quiet_weighs, under_way_weighs, little, crosses_or_not}
use Rattle.hmc_drain.proofs.Backlog.{zero_or_more}

-- what is under way k rounds into a run bounds what is under way at its end
ends : (p : Profile) (c : Setup) → IsFit p c → (run : ℕ → State) (n k : ℕ) → Rounds c run n →
    k ≤ n → Facts c (run k) → under_way (run n) ≤ under_way (run k)
ends p c f run n k r h a =
    let z : Facts c (run (n - k + k)) × Any (run (n - k + k))
    × (under_way (run (n - k + k)) ≤ under_way (run k))
    × (weight (run (n - k + k)) ≤ weight (run k)) =
    kept p c Any (keeps p c) (any p c) f run (n - k) k n r (omega arith) a tt in
    let q : n - k + k ≡ n = omega arith in
    subst (λ j. under_way (run j) ≤ under_way (run k)) q z.2

-- from any later ready state that weighs less
abbrev Next : Profile → Setup → (ℕ → State) → (n fuel : ℕ) → Type 0
Next p c run n fuel =
    (k : ℕ) → weight (run k) ≤ fuel → weight (run k) + k ≤ n → Facts c (run k) → IsReady c (run k) →
    under_way (run n) ≡ 0

lighter : (p : Profile) (c : Setup) → IsFit p c → (run : ℕ → State) (n fuel k m by : ℕ) →
    Rounds c run n → Next p c run n fuel → weight (run k) ≤ suc fuel → weight (run k) + k ≤ n →
    Facts c (run k) → IsReady c (run k) → 1 ≤ by → m ≤ by → m + k ≤ n →
    IsLighterBy by (run k) (run (m + k)) → under_way (run n) ≡ 0
lighter p c f run n fuel k m by r next w h a b one less here z =
    let y : Facts c (run (m + k)) × IsReady c (run (m + k))
    × (under_way (run (m + k)) ≤ under_way (run k)) × (weight (run (m + k)) ≤ weight (run k)) =
    kept p c (IsReady c) (keeps p c) (stays_ready p c) f run m k n r here a b in
    next (m + k) (omega arith) (omega arith) y.0 y.1

moved : (p : Profile) (c : Setup) → IsFit p c → (run : ℕ → State) (n fuel k : ℕ) → Rounds c run n →
    Next p c run n fuel → weight (run k) ≤ suc fuel → weight (run k) + k ≤ n → Facts c (run k) →
    IsReady c (run k) → 1 + k ≤ n → IsLighterBy 1 (run k) (run (1 + k))
    ⊎ (IsQuiet (run (1 + k)) × (weight (run (1 + k)) ≡ weight (run k))) → under_way (run n) ≡ 0
moved p c f run n fuel k r next w h a b here (inl z) =
    lighter p c f run n fuel k 1 1 r next w h a b (omega arith) (omega arith) here z
moved p c f run n fuel k r next w h a b here (inr z) =
    let y : Facts c (run (1 + k)) × IsReady c (run (1 + k))
    × (under_way (run (1 + k)) ≤ under_way (run k)) × (weight (run (1 + k)) ≤ weight (run k)) =
    kept p c (IsReady c) (keeps p c) (stays_ready p c) f run 1 k n r here a b in
    let o : 800 ≤ weight (run (1 + k)) = quiet_weighs (run (1 + k)) z.0 in
    let x : IsLighterBy 800 (run (1 + k)) (run (799 + (1 + k))) =
    along p c 799 (λ s. IsReady c s × IsQuiet s) (IsLighterBy 800) (begins p c) f run (1 + k) n
    r (omega (arith, o, z.1, h)) y.0 (y.1, z.0) in
    let v : Facts c (run (799 + (1 + k))) × IsReady c (run (799 + (1 + k)))
    × (under_way (run (799 + (1 + k))) ≤ under_way (run (1 + k)))
    × (weight (run (799 + (1 + k))) ≤ weight (run (1 + k))) =
    kept p c (IsReady c) (keeps p c) (stays_ready p c) f run 799 (1 + k) n r
    (omega (arith, o, z.1, h)) y.0 y.1 in
    next (799 + (1 + k)) (omega (arith, x, z.1, w)) (omega (arith, x, z.1, h)) v.0 v.1

crossed : (p : Profile) (c : Setup) → IsFit p c → (run : ℕ → State) (n fuel k : ℕ) →
    Rounds c run n → Next p c run n fuel → weight (run k) ≤ suc fuel → weight (run k) + k ≤ n →
    Facts c (run k) → IsReady c (run k) → 1 ≤ under_way (run k) → Crosses (run k)
    ⊎ CrossesNot (run k) → under_way (run n) ≡ 0
crossed p c f run n fuel k r next w h a b u (inl z) =
    let o : 100 ≤ weight (run k) = crossing_weighs (run k) z in
    lighter p c f run n fuel k 100 100 r next w h a b (omega arith) (omega arith)
    (omega (arith, o, h))
    (along p c 100 (λ s. IsReady c s × Crosses s) (IsLighterBy 100) (arrives p c) f run k n r
    (omega (arith, o, h)) a (b, z))
crossed p c f run n fuel k r next w h a b u (inr z) =
    let o : 1 ≤ weight (run k) = under_way_weighs (run k) u in
    let here : 1 + k ≤ n = omega (arith, o, h) in
    moved p c f run n fuel k r next w h a b here
    (along p c 1 (λ s. IsReady c s × CrossesNot s × (1 ≤ under_way s)) (λ s t. IsLighterBy 1 s t
    ⊎ (IsQuiet t × (weight t ≡ weight s))) (moves p c) f run k n r here a (b, z, u))

-- what is under way, or nothing
by_under_way : (p : Profile) (c : Setup) → IsFit p c → (run : ℕ → State) (n fuel k : ℕ) →
    Rounds c run n → Next p c run n fuel → weight (run k) ≤ suc fuel → weight (run k) + k ≤ n →
    Facts c (run k) → IsReady c (run k) → (under_way (run k) ≡ 0) ⊎ (1 ≤ under_way (run k)) →
    under_way (run n) ≡ 0
by_under_way p c f run n fuel k r next w h a b (inl z) =
    let e : under_way (run n) ≤ under_way (run k) = ends p c f run n k r (omega (arith, h)) a in
    omega (arith, e, z)
by_under_way p c f run n fuel k r next w h a b (inr z) =
    crossed p c f run n fuel k r next w h a b z
    (crosses_or_not (crossing (run k).forth) (crossing (run k).back))

drains_from : (p : Profile) (c : Setup) → IsFit p c → (run : ℕ → State) (n : ℕ) → Rounds c run n →
    (fuel : ℕ) → Next p c run n fuel
drains_from p c f run n r zero = λ k w h a b.
    let e : under_way (run n) ≤ under_way (run k) = ends p c f run n k r (omega (arith, h)) a in
    omega (arith, e, w)
drains_from p c f run n r (suc fuel) =
    λ k w h a b. by_under_way p c f run n fuel k r (drains_from p c f run n r fuel) w h a b
    (zero_or_more (under_way (run k)))

facts_at : (p : Profile) (c : Setup) → IsFit p c → (run : ℕ → State) (n k : ℕ) → Rounds c run n →
    k + 0 ≤ n → Facts c (run 0) → Facts c (run (k + 0))
    × (under_way (run (k + 0)) ≤ under_way (run 0)) × (weight (run (k + 0)) ≤ weight (run 0))
facts_at p c f run n k r h a =
    let z : Facts c (run (k + 0)) × Any (run (k + 0))
    × (under_way (run (k + 0)) ≤ under_way (run 0)) × (weight (run (k + 0)) ≤ weight (run 0)) =
    kept p c Any (keeps p c) (any p c) f run k 0 n r h a tt in
    (z.0, z.2, z.3)

-- steady from the first round on
steady_at : (p : Profile) (c : Setup) → IsFit p c → (run : ℕ → State) (n k : ℕ) → Rounds c run n →
    k + 1 ≤ n → Facts c (run 0) → Facts c (run (k + 1)) × IsSteady c (run (k + 1))
steady_at p c f run n k r h a =
    let x : IsSteady c (run 1) =
    along p c 1 Any (λ s t. IsSteady c t) (steadies p c) f run 0 n r (omega (arith, h)) a tt in
    let y : Facts c (run 1) = (facts_at p c f run n 1 r (omega (arith, h)) a).0 in
    let z : Facts c (run (k + 1)) × IsSteady c (run (k + 1))
    × (under_way (run (k + 1)) ≤ under_way (run 1)) × (weight (run (k + 1)) ≤ weight (run 1)) =
    kept p c (IsSteady c) (keeps p c) (stays_steady p c) f run k 1 n r h y x in
    (z.0, z.1)

pub settles : (p : Profile) (c : Setup) → SettlesInAll p c
settles p c = λ f run r a b.
    let s1 : Facts c (run 1) × IsSteady c (run 1) = steady_at p c f run 4000 0 r (omega arith) a in
    let t : HasNoTrain (run 401) =
    along p c 400 (IsSteady c) (λ s t. HasNoTrain t) (leaves p c) f run 1 4000 r (omega arith)
    s1.0 s1.1 in
    let s2 : Facts c (run 401) × IsSteady c (run 401) =
    steady_at p c f run 4000 400 r (omega arith) a in
    let u : IsClean (run 417) =
    along p c 16 (λ s. IsSteady c s × HasNoTrain s) (λ s t. IsClean t) (cleans p c) f run 401
    4000 r (omega arith) s2.0 (s2.1, t) in
    let s3 : Facts c (run 417) × IsSteady c (run 417) =
    steady_at p c f run 4000 416 r (omega arith) a in
    let v : AreGood (run 1417) =
    along p c 1000 (λ s. IsSteady c s × IsClean s) (λ s t. AreGood t) (becomes_good p c) f run
    417 4000 r (omega arith) s3.0 (s3.1, u) in
    let s4 : Facts c (run 1417) × IsSteady c (run 1417) =
    steady_at p c f run 4000 1416 r (omega arith) a in
    let w : IsSettled (run 1917) =
    along p c 500 (λ s. IsSteady c s × AreGood s) (λ s t. IsSettled t) (settles_good p c) f run
    1417 4000 r (omega arith) s4.0 (s4.1, v) in
    let s5 : Facts c (run 1917) × IsSteady c (run 1917) =
    steady_at p c f run 4000 1916 r (omega arith) a in
    let x : Facts c (run 4000) × IsSettled (run 4000)
    × (under_way (run 4000) ≤ under_way (run 1917)) × (weight (run 4000) ≤ weight (run 1917)) =
    kept p c IsSettled (keeps p c) (stays_settled p c) f run 2083 1917 4000 r (omega arith) s5.0
    w in
    (x.1, (facts_at p c f run 4000 4000 r (omega arith) a).1)

pub settled : (p : Profile) (c : Setup) → DrainsSettled p c
settled p c = λ f run n r a b h.
    let s1 : Facts c (run 1) × IsSteady c (run 1) =
    steady_at p c f run n 0 r (omega (arith, h)) a in
    let x : Facts c (run 1) × IsSettled (run 1) × (under_way (run 1) ≤ under_way (run 0))
    × (weight (run 1) ≤ weight (run 0)) =
    kept p c IsSettled (keeps p c) (stays_settled p c) f run 1 0 n r (omega (arith, h)) a b in
    let y : IsReady c (run 1501) =
    along p c 1500 (λ s. IsSteady c s × IsSettled s) (λ s t. IsReady c t) (catches p c) f run 1
    n r (omega (arith, h)) s1.0 (s1.1, x.1) in
    let z : Facts c (run 1501) × (under_way (run 1501) ≤ under_way (run 0))
    × (weight (run 1501) ≤ weight (run 0)) = facts_at p c f run n 1501 r (omega (arith, h)) a in
    let q : weight (run 0) ≤ 1805 * under_way (run 0) = little (run 0) in
    drains_from p c f run n r (weight (run 1501)) 1501 (omega arith) (omega (arith, z.2, q, h)) z.0
    y

pub any_state : (p : Profile) (c : Setup) → DrainsAny p c
any_state p c = λ f run n r a h.
    let here : 4000 ≤ n = omega (arith, h) in
    let x : IsSettled (run 4000) × (under_way (run 4000) ≤ under_way (run 0)) =
    settles p c f run (fewer c run 4000 n r here) a tt in
    let y : Facts c (run 4000) × (under_way (run 4000) ≤ under_way (run 0))
    × (weight (run 4000) ≤ weight (run 0)) =
    facts_at p c f run n 4000 r (omega (arith, here)) a in
    let z : under_way (run (n - 4000 + 4000)) ≡ 0 =
    settled p c f (λ i. run (i + 4000)) (n - 4000)
    (later c run 4000 (n - 4000) n r (omega (arith, here))) y.0 x.0 (omega (arith, x.1, h)) in
    let q : n - 4000 + 4000 ≡ n = omega (arith, here) in
    subst (λ j. under_way (run j) ≡ 0) q z
