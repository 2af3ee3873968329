use Rattle.hmc_codes.proofs.pieces.+append_decimal_digits.Given as goal

abbrev pub decreases-append_decimal_digits : goal.decreases-append_decimal_digits
decreases-append_decimal_digits l = l.number
