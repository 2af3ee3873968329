-- Pairs of hexadecimal digits.
use Rattle.std.proofs.Common.{◌≡◌, ◌/◌, ◌%◌, ◌↔◌, ℕ, Bool, true, false, List, length, IsTrue, Result, Ok, Err, refl, sym, ap, arith}
use Rattle.std.specs.List.{AllPass}
use Rattle.std.specs.Option.{is_some}
use Rattle.std.specs.Result.{result_ok}
use Rattle.hex.specs.Hex.{decode_of, is_hex_digit}
use Rattle.hex.specs.declared.error.FromHexError.{FromHexError}
use Rattle.hex.proofs.HexLemmas.{decode_of-digits, decode_of-ok}
use Rattle.hmc_accesses.specs.Meaning.{bytes_in, bytes_or_none, bytes_of_digits}

-- the test of the digits
pub digits_test : (digits : List ℕ) (b : Bool) → length digits % 2 ≡ 0 →
    (IsTrue b ↔ AllPass is_hex_digit digits) → b ≡ is_some (bytes_in digits)
digits_test digits true even is =
    let ok = decode_of-digits digits even (is.0 refl) in
    ap (λ r. is_some (result_ok r)) (sym ok.1)
digits_test digits false even is = by_decoded (decode_of digits) refl
  where
    by_decoded : (found : Result (List ℕ) FromHexError) → decode_of digits ≡ found →
        false ≡ is_some (result_ok found)
    by_decoded (Ok bytes) at = let wrong : false ≡ true = is.1 (decode_of-ok digits bytes at).1 in
        absurd (cc)
    by_decoded (Err e) at = refl

-- two digits a byte
pub digits_long : (digits : List ℕ) → is_some (bytes_in digits) ≡ true →
    length (bytes_of_digits digits) ≡ length digits / 2
digits_long digits some = by_decoded (decode_of digits) refl some
  where
    by_decoded : (found : Result (List ℕ) FromHexError) → decode_of digits ≡ found →
        is_some (result_ok found) ≡ true → length (bytes_or_none (result_ok found)) ≡ length digits
        / 2
    by_decoded (Ok bytes) at some = let ok = decode_of-ok digits bytes at in omega (arith, ok.2)
    by_decoded (Err e) at some = absurd (cc)
