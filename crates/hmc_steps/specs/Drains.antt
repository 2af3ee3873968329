-- The drain bound from every kept list of a link.
use Rattle.std.specs.Prelude.{◌≡◌, ℕ, ◌+◌, ◌*◌, ◌≤◌, List}
use Rattle.hmc_codes.specs.Link.{LinkFields}
use Rattle.hmc_send.specs.LinkEntries.{LinkEntry}
use Rattle.hmc_wire.specs.LinkLaws.{IsKept}
use Rattle.hmc_link_state.specs.EachRound.{IsFit}
use Rattle.hmc_link_state.specs.Round.{Rounds}
use Rattle.hmc_link_state.specs.State.{State, under_way}
use Rattle.hmc_steps.specs.Doings.{AreWhole}
use Rattle.hmc_steps.specs.SideIn.{setup_of, link_in}

-- where P holds of a list, so many rounds of states that begin with its numbers leave nothing under
-- way
abbrev pub DrainsFrom : (more : ℕ) → (LinkFields → List LinkEntry → Type 0) → Type 0
DrainsFrom more P =
    (link : LinkFields) (past : List LinkEntry) → IsKept link past → AreWhole past →
    IsFit link.profile (setup_of link) → P link past →
    (run : ℕ → State) (n : ℕ) → Rounds (setup_of link) run n →
    (run 0).forth ≡ (link_in link past).forth → (run 0).back ≡ (link_in link past).back →
    more + 2000 * (under_way (run 0) + 1) ≤ n → under_way (run n) ≡ 0

abbrev pub AnyList : LinkFields → List LinkEntry → Type 0
AnyList link past = Unit {0}
