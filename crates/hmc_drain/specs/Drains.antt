-- The drain bound from every list of steps.
use Rattle.std.specs.Prelude.{◌≡◌, ℕ, ◌+◌, ◌*◌, ◌≤◌, List}
use Rattle.hmc_codes.specs.declared.profile.Profile.{Profile}
use Rattle.hmc_link_state.specs.State.{Setup, State, under_way}
use Rattle.hmc_link_state.specs.Round.{Rounds}
use Rattle.hmc_link_state.specs.EachRound.{IsFit}
use Rattle.hmc_link_state.specs.Steps.{Doing, Link, link_after, MayAll}

abbrev pub DrainsAfter : Profile → Setup → (more : ℕ) → (Link → Type 0) → Type 0
DrainsAfter p c more P =
    IsFit p c →
    (past : List Doing) → MayAll c past → P (link_after c past) → (run : ℕ → State) (n : ℕ) →
    Rounds c run n → (run 0).forth ≡ (link_after c past).forth →
    (run 0).back ≡ (link_after c past).back → more + 2000 * (under_way (run 0) + 1) ≤ n →
    under_way (run n) ≡ 0

abbrev pub AnyLink : Link → Type 0
AnyLink l = Unit {0}
