-- What hexadecimal digits give.
use Rattle.std.proofs.Common.{◌≡◌, ◌∙◌, ℕ, IfSome, Result, Ok, Err, List, length, refl, sym, arith}
use Rattle.std.specs.Result.{result_ok}
use Rattle.hex.specs.Hex.{decode_sized}
use Rattle.hex.specs.declared.error.FromHexError.{FromHexError}
use Rattle.hex.proofs.HexLemmas.{decode_of-ok, decode_sized-ok, decode_sized-twice}
use Rattle.hmc_codes.specs.Bytes.{IsBytes}

-- so many bytes
pub record AreBytes (len : ℕ) (list : List ℕ) : Type 0 where
  pub long : length list ≡ len
  pub bytes : IsBytes list

pub digits_known : (word : List ℕ) (len : ℕ)
    → IfSome (result_ok (decode_sized word len)) (AreBytes len)
digits_known word len = by (decode_sized word len) refl
  where
    by : (read : Result (List ℕ) FromHexError) → decode_sized word len ≡ read
        → IfSome (result_ok read) (AreBytes len)
    by (Ok bytes) is =
        let twice = decode_sized-ok word len bytes is in
        let parts = decode_of-ok word bytes (sym (decode_sized-twice word len twice) ∙ is) in
        record { long = omega (arith, twice, parts.2); bytes = parts.3 }
    by (Err fault) is = tt
