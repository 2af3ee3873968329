-- Retry pointers: numbers of flits modulo 512 or 2048, by the profile.
use Rattle.std.specs.Prelude.{◌≡◌, ℕ, ◌+◌, ◌-◌, ◌%◌, ◌<◌, List}
use Rattle.hmc_codes.specs.Profile.{modulus_of, window_of}
use Rattle.hmc_codes.specs.declared.profile.Profile.{Profile}
use Rattle.hmc_numbers.specs.Weights.{Weight, flits_to}

-- the FRP of the n-th packet: the flits up to and including it
abbrev pub pointer : Profile → List Weight → ℕ → ℕ
pointer p ps n = flits_to ps n % modulus_of p

-- the test for the next packet, of a receiver that has accepted n packets of f flits in all:
-- a packet of l flits has an FRP that is l ahead, and a SEQ that is one ahead
abbrev pub IsNext : Profile → (f n l frp seq : ℕ) → Type 0
IsNext p f n l frp seq = (frp ≡ (f + l) % modulus_of p) × (seq ≡ (n + 1) % 8)

-- the test for a repeat: the FRP is less than the window behind
abbrev pub IsBehind : Profile → (f frp : ℕ) → Type 0
IsBehind p f frp = (f % modulus_of p + (modulus_of p - frp)) % modulus_of p < window_of p
