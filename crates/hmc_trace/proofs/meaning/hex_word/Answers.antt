-- Two digits a byte.
use Rattle.std.proofs.Common.{◌∙◌, sym}
use Rattle.hmc_trace.proofs.Digits.{digits_long}
use Rattle.hmc_trace.proofs.meaning.hex_word.Goals as goal

pub returns-clause-long : goal.returns-clause-long
returns-clause-long c = digits_long c.in_ok-digits.digits.now (sym c.is_hex.ensures
    ∙ c.if-not-is_hex.false)
