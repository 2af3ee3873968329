-- The five numbers of a direction add up to what its end advertises, where none of them would fall
-- below 0.
use Rattle.std.proofs.Common.{◌≡◌, ◌≤◌, ℕ, ◌+◌, ◌-◌}
use Rattle.hmc_send.specs.LinkTokens.{TokenSources, flits_begun, flits_accepted, flits_taken, tokens_returned, tokens_credited, token_row}
use native.Mathlib.Omega.{arith}

telescoped : (advertised begun accepted taken returned credited : ℕ) → begun ≤ credited → accepted ≤ begun → taken ≤ accepted → returned ≤ advertised + taken → credited ≤ returned → (credited - begun) + (begun - accepted) + (accepted - taken) + ((advertised + taken) - returned) + (returned - credited) ≡ advertised
telescoped advertised begun accepted taken returned credited held transit used due returning = omega arith

-- as many flits were begun as tokens were credited at most, and so on
pub record IsCovered (s : TokenSources) : Type 0 where
  pub held : flits_begun s.begun ≤ tokens_credited s.accepted_back
  pub transit : flits_accepted s.accepted ≤ flits_begun s.begun
  pub used : flits_taken s.takes s.accepted ≤ flits_accepted s.accepted
  pub due : tokens_returned s.begun_back ≤ s.advertised + flits_taken s.takes s.accepted
  pub returning : tokens_credited s.accepted_back ≤ tokens_returned s.begun_back

pub tokens-sum : (s : TokenSources) → IsCovered s → (token_row s).held + (token_row s).transit + (token_row s).used + (token_row s).due + (token_row s).returning ≡ s.advertised
tokens-sum s covered = telescoped s.advertised (flits_begun s.begun) (flits_accepted s.accepted) (flits_taken s.takes s.accepted) (tokens_returned s.begun_back) (tokens_credited s.accepted_back) covered.held covered.transit covered.used covered.due covered.returning
