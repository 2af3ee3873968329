-- Masks of landings: what a mask changes.
use Rattle.std.specs.Prelude.{ℕ, Bool, not, List, map, zip, bit_xor}
use Rattle.std.specs.Str.{bytes_eq}
use Rattle.hmc_codes.specs.Flit.{zero_flit}

-- a flit with the bits of a mask turned over
abbrev pub under_mask : (mask flit : List ℕ) → List ℕ
under_mask mask flit = map (λ pair. bit_xor pair.0 pair.1) (zip mask flit)

-- a flit is changed where its mask isn't zero
abbrev pub changes : (mask : List ℕ) → Bool
changes mask = not (bytes_eq mask zero_flit)
