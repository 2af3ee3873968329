-- What each round keeps, of a link that is fit for a case.
use Rattle.std.specs.Prelude.{ℕ, ◌≤◌}
use Rattle.hmc_codes.specs.declared.profile.Profile.{Profile}
use Rattle.hmc_codes.specs.Profile.{window_of as window}
use Rattle.hmc_link_state.specs.State.{Setup, State, under_way, weight, IsSettled, IsSteady, IsCaughtUp}
use Rattle.hmc_link_state.specs.Round.{Rounds}
use Rattle.hmc_link_state.specs.Facts.{Facts}

-- limits of a case
pub record IsFit (p : Profile) (c : Setup) : Type 0 where
  pub line : (1 ≤ c.line) × (c.line ≤ 64)
  pub tokens : (17 ≤ c.tokens) × (c.tokens ≤ 1024)
  pub retry : (17 ≤ c.retry) × (c.retry ≤ window p) × (c.retry ≤ 1024)

-- where `n` rounds stand after a state with Hypothesis, the state after them has Goal
abbrev pub Leads : (p : Profile) (c : Setup) (rounds : ℕ) (Hypothesis : State → Type 0)
    (Goal : State → State → Type 0) → Type 0
Leads p c n H G =
    IsFit p c → (run : ℕ → State) → Rounds c run n → Facts c (run 0) → H (run 0) → G (run 0) (run n)

abbrev pub Any : State → Type 0
Any s = Unit {0}

-- steady, settled and caught up
abbrev pub IsReady : Setup → State → Type 0
IsReady c s = IsSteady c s × IsSettled s × IsCaughtUp s

-- Each round keeps the facts and doesn't raise the number under way or the weight.
abbrev pub KeepsFacts : Profile → Setup → Type 0
KeepsFacts p c =
    Leads p c 1 Any (λ s t. Facts c t × (under_way t ≤ under_way s) × (weight t ≤ weight s))

abbrev pub Steadies : Profile → Setup → Type 0
Steadies p c = Leads p c 1 Any (λ s t. IsSteady c t)

-- From a steady state on each direction sends one flit and lands one.
abbrev pub StaysSteady : Profile → Setup → Type 0
StaysSteady p c = Leads p c 1 (IsSteady c) (λ s t. IsSteady c t)

abbrev pub StaysSettled : Profile → Setup → Type 0
StaysSettled p c = Leads p c 1 IsSettled (λ s t. IsSettled t)

abbrev pub StaysReady : Profile → Setup → Type 0
StaysReady p c = Leads p c 1 (IsReady c) (λ s t. IsReady c t)
