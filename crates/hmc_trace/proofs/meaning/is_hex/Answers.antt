-- An even number of digits.
use Rattle.hmc_trace.proofs.Digits.{digits_test}
use Rattle.hmc_trace.proofs.meaning.is_hex.Goals as goal

pub returns-then-word-eq0 : goal.returns-then-word-eq0
returns-then-word-eq0 c = digits_test c.args.word.now c.all_digits.result c.if-word-eq0.true
    c.all_digits.ensures
