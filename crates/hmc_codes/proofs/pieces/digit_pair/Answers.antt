-- What is computed of a byte is right for each of the 256.
use Rattle.std.proofs.Common.{◌∙◌, ◌/◌, ◌%◌, ap₂}
use Rattle.hmc_codes.proofs.Pairs.{pair_of, first_is_right, second_is_right}
use Rattle.hmc_codes.proofs.pieces.digit_pair.Goals as goal

pub returns : goal.returns
returns c = record {
  first = ap₂ (λ a b. pair_of a b % 256) c.from.ensures c.from-2.ensures ∙ first_is_right c.args.byte c.ranges.byte.fits;
  second = ap₂ (λ a b. pair_of a b / 256) c.from.ensures c.from-2.ensures ∙ second_is_right c.args.byte c.ranges.byte.fits;
}
