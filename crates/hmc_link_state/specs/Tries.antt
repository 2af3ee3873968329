-- The cube's and the host's part of a round as tries in order: each makes a move, or changes
-- nothing and has a reason.
use Rattle.std.specs.Prelude.{◌≡◌, ℕ, suc, ◌<◌, ◌⊎◌}
use Rattle.hmc_link_state.specs.State.{State}
use Rattle.hmc_link_state.specs.Round.{Moves}

-- n tries; `Refuses i s` is the reason why try i makes no move in state s
abbrev pub Tries : (n : ℕ) (Refuses : ℕ → State → Type 0) (at : ℕ → State) → Type 0
Tries n R at = (i : ℕ) → i < n → Moves (at i) (at (suc i)) ⊎ ((at (suc i) ≡ at i) × R i (at i))
