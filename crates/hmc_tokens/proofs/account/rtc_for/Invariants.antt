-- No greater code has all its tokens due.
use Rattle.std.proofs.Common.{◌≡◌, ◌<◌}
use Rattle.hmc_tokens.specs.Account.{code_for, greatest_code}
use Rattle.hmc_tokens.proofs.account.rtc_for.Given as goal

abbrev pub invariant-codes : goal.invariant-codes
invariant-codes l = (l.code < 8) × (code_for l.due ≡ greatest_code l.code l.due)

abbrev pub decreases-codes : goal.decreases-codes
decreases-codes l = l.code
