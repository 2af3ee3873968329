-- The stages of the drain bound, in the order of proof. `run` is a list of states by number, `n`
-- rounds of it are given.
use Rattle.std.specs.Prelude.{false, ◌≡◌, ◌≢◌, ℕ, ◌+◌, ◌*◌, ◌≤◌, ◌⊎◌}
use Rattle.hmc_codes.specs.declared.profile.Profile.{Profile}
use Rattle.hmc_numbers.specs.Direction.Reached.{training, spoilt}
use Rattle.hmc_link_state.specs.State.{Setup, State, wire, crossing, under_way, weight, IsSettled, IsSteady}
use Rattle.hmc_link_state.specs.Round.{Rounds, IsStuck}
use Rattle.hmc_link_state.specs.Facts.{Facts}
use Rattle.hmc_numbers.specs.May.{IsGood}
use Rattle.hmc_link_state.specs.EachRound.{IsFit, Leads, Any, IsReady}

abbrev pub HasNoTrain : State → Type 0
HasNoTrain s = ((wire s.forth).far ≢ training) × ((wire s.back).far ≢ training)

abbrev pub IsClean : State → Type 0
IsClean s = HasNoTrain s × ((wire s.forth).far ≢ spoilt) × ((wire s.back).far ≢ spoilt)

abbrev pub AreGood : State → Type 0
AreGood s = IsGood (wire s.forth).far × IsGood (wire s.back).far

abbrev pub Crosses : State → Type 0
Crosses s = 1 ≤ crossing s.forth + crossing s.back

-- nothing crosses and nothing can move but by a packet that begins
abbrev pub IsQuiet : State → Type 0
IsQuiet s =
    (crossing s.forth ≡ 0) × (crossing s.back ≡ 0) × IsStuck s × (1 ≤ under_way s)
    × (s.can_move ≡ false)

-- Settling

abbrev pub LeavesTrain : Profile → Setup → Type 0
LeavesTrain p c = Leads p c 400 (λ s. IsSteady c s) (λ s t. HasNoTrain t)

abbrev pub Cleans : Profile → Setup → Type 0
Cleans p c = Leads p c 16 (λ s. IsSteady c s × HasNoTrain s) (λ s t. IsClean t)

abbrev pub BecomesGood : Profile → Setup → Type 0
BecomesGood p c = Leads p c 1000 (λ s. IsSteady c s × IsClean s) (λ s t. AreGood t)

abbrev pub Settles : Profile → Setup → Type 0
Settles p c = Leads p c 500 (λ s. IsSteady c s × AreGood s) (λ s t. IsSettled t)

abbrev pub SettlesInAll : Profile → Setup → Type 0
SettlesInAll p c = Leads p c 4000 Any (λ s t. IsSettled t × (under_way t ≤ under_way s))

-- Draining

abbrev pub CatchesUp : Profile → Setup → Type 0
CatchesUp p c = Leads p c 1500 (λ s. IsSteady c s × IsSettled s) (λ s t. IsReady c t)

-- after so many rounds the weight is less by as many
abbrev pub IsLighterBy : ℕ → State → State → Type 0
IsLighterBy n s t = weight t + n ≤ weight s

abbrev pub CrossesNot : State → Type 0
CrossesNot s = (crossing s.forth ≡ 0) × (crossing s.back ≡ 0)

-- Where nothing crosses, a round makes a move, or nothing can move.
abbrev pub MovesOrRests : Profile → Setup → Type 0
MovesOrRests p c =
    Leads p c 1 (λ s. IsReady c s × CrossesNot s × (1 ≤ under_way s)) (λ s t. IsLighterBy 1 s t
    ⊎ (IsQuiet t × (weight t ≡ weight s)))

abbrev pub Arrives : Profile → Setup → Type 0
Arrives p c = Leads p c 100 (λ s. IsReady c s × Crosses s) (IsLighterBy 100)

abbrev pub Begins : Profile → Setup → Type 0
Begins p c = Leads p c 799 (λ s. IsReady c s × IsQuiet s) (IsLighterBy 800)

abbrev pub WeighsLittle : Type 0
WeighsLittle = (s : State) → weight s ≤ 1805 * under_way s

-- The bound

abbrev pub DrainsSettled : Profile → Setup → Type 0
DrainsSettled p c =
    IsFit p c →
    (run : ℕ → State) (n : ℕ) → Rounds c run n → Facts c (run 0) → IsSettled (run 0) →
    2000 * (under_way (run 0) + 1) ≤ n → under_way (run n) ≡ 0

abbrev pub DrainsAny : Profile → Setup → Type 0
DrainsAny p c =
    IsFit p c → (run : ℕ → State) (n : ℕ) → Rounds c run n → Facts c (run 0) →
    4000 + 2000 * (under_way (run 0) + 1) ≤ n → under_way (run n) ≡ 0
