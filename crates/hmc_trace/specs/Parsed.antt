-- Loads and stores as the code reads them.
use Rattle.std.specs.Prelude.{◌≡◌, ◌≤◌, ◌<◌, ◌+◌, ◌/◌, ℕ, List, length, slice_index_or, Ok}
use Rattle.hex.specs.Hex.{decode_of}
use Rattle.hmc_codes.specs.Limits.{most_cubes, most_memory}
use Rattle.hmc_codes.specs.Shape.{ShapeFields, capacity_of}
use Rattle.hmc_trace.specs.declared.meaning.Parsed.{Parsed}
use Rattle.hmc_trace.specs.declared.meaning.Parsed.TheVariants as variants
use Rattle.hmc_accesses.specs.Meaning.{bytes_of_digits, no_shape}
use Rattle.hmc_accesses.specs.Trace.{Access}
use Rattle.hmc_accesses.specs.Trace.Access.{load, store}

-- a store has its bytes as digits
abbrev pub parsed_access : Parsed → Access
parsed_access (variants.Load cube place size) = load cube place size
parsed_access (variants.Store cube place digits) = store cube place (bytes_of_digits digits.now)

-- 1 to 4,096 bytes, wholly below a capacity
pub record IsSmall (capacity place size : ℕ) : Type 0 where
  pub some : 1 ≤ size
  pub few : size ≤ 4096
  pub fits : place + size ≤ capacity

-- the digits are pairs of hexadecimal digits
pub record AreDigits (digits : List ℕ) : Type 0 where
  pub bytes : decode_of digits ≡ Ok (bytes_of_digits digits)
  pub long : length (bytes_of_digits digits) ≡ length digits / 2

-- the access is to this cube, whose capacity it keeps to
abbrev pub IsParsed : (cube capacity : ℕ) → Parsed → Type 0
IsParsed cube capacity (variants.Load at place size) = (at ≡ cube) × IsSmall capacity place size
IsParsed cube capacity (variants.Store at place digits) =
    (at ≡ cube) × AreDigits digits.now × IsSmall capacity place (length digits.now / 2)

-- the access is to one of the cubes
abbrev pub IsParsedIn : List ShapeFields → Parsed → Type 0
IsParsedIn cubes (variants.Load at place size) =
    (at < length cubes) × IsSmall (capacity_of (slice_index_or cubes at no_shape)) place size
IsParsedIn cubes (variants.Store at place digits) =
    (at < length cubes) × AreDigits digits.now
    × IsSmall (capacity_of (slice_index_or cubes at no_shape)) place (length digits.now / 2)

-- the access is to a cube that there can be, and has its bytes among those that there can be
abbrev pub IsSmallParsed : Parsed → Type 0
IsSmallParsed (variants.Load at place size) = (at < most_cubes) × IsSmall most_memory place size
IsSmallParsed (variants.Store at place digits) =
    (at < most_cubes) × AreDigits digits.now × IsSmall most_memory place (length digits.now / 2)
