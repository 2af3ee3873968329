-- The sizes of a link.
use Rattle.std.specs.Prelude.{◌≤◌, ℕ}
use Rattle.hmc_codes.specs.Limits.{most_line, least_flits, most_tokens, most_queue}
use Rattle.hmc_codes.specs.Profile.{most_retry}
use Rattle.hmc_codes.specs.declared.profile.Profile.{Profile}

-- the flits that a line holds, the tokens that an end advertises, the flits of a retry buffer, the
-- packets of an output queue, and the profile of both directions
pub record LinkFields : Type 0 where
  pub line : ℕ
  pub tokens : ℕ
  pub retry : ℕ
  pub output : ℕ
  pub profile : Profile

-- A line and an output queue hold something, and each buffer of flits the longest packet.
pub record IsLinkSetup (link : LinkFields) : Type 0 where
  pub some_line : 1 ≤ link.line
  pub line : link.line ≤ most_line
  pub some_tokens : least_flits ≤ link.tokens
  pub tokens : link.tokens ≤ most_tokens
  pub some_retry : least_flits ≤ link.retry
  pub retry : link.retry ≤ most_retry link.profile
  pub some_output : 1 ≤ link.output
  pub output : link.output ≤ most_queue
