-- No bytes have no digits.
use Rattle.std.proofs.Common.{◌∙◌, ap, arith, length, sym}
use Rattle.hmc_codes.proofs.SixteenBytes.{none_more, empty_of}
use Rattle.hmc_codes.proofs.pieces.append_few.Goals as goal

pub returns-then-is_empty-clause-text : goal.returns-then-is_empty-clause-text
returns-then-is_empty-clause-text g c = none_more c.args.into.now.bytes c.args.bytes.now (empty_of c.args.bytes.now (sym c.is_empty.ensures ∙ c.if-is_empty.true))

pub returns-then-is_empty-clause-len : goal.returns-then-is_empty-clause-len
returns-then-is_empty-clause-len g c = omega (arith, ap length (empty_of c.args.bytes.now (sym c.is_empty.ensures ∙ c.if-is_empty.true)))
