use Rattle.hmc_codes.proofs.pieces.+append_hex_digits.Given as goal

abbrev pub decreases-append_hex_digits : goal.decreases-append_hex_digits
decreases-append_hex_digits l = l.number
