-- The sequenced packets of one direction, in the order in which they are begun, by numbers alone.
-- A sequenced packet is a request, a response or a TRET: it is kept for retry, and has an FRP and a
-- SEQ. Packets are numbered from 1.
use Rattle.std.specs.Prelude.{ℕ, zero, suc, ◌+◌, ◌-◌, ◌≤◌, Bool, List, [], ◌∷◌}

-- what counts of a packet
pub record Weight : Type 0 where
  pub flits : ℕ  -- its size
  pub token : Bool  -- a request or a response costs a token per flit, a TRET costs none
  pub returns : ℕ  -- the tokens that its RTC returns, which the other direction may spend

-- the sum of a number g over the first n packets, or over all where there are fewer
abbrev pub upto : (Weight → ℕ) → List Weight → ℕ → ℕ
upto g [] n = 0
upto g (p ∷ ps) zero = 0
upto g (p ∷ ps) (suc n) = g p + upto g ps n

-- the flits of the first n packets
abbrev pub flits_to : List Weight → ℕ → ℕ
flits_to ps n = upto (λ p. p.flits) ps n

-- the flits of the n-th packet
abbrev pub size : List Weight → ℕ → ℕ
size ps n = flits_to ps n - flits_to ps (n - 1)

-- a packet has 1 to 17 flits
abbrev pub HasValidSize : Weight → Type 0
HasValidSize s = (1 ≤ s.flits) × (s.flits ≤ 17)

-- each of them has
abbrev pub HaveValidSizes : List Weight → Type 0
HaveValidSizes [] = Unit {0}
HaveValidSizes (p ∷ ps) = HasValidSize p × HaveValidSizes ps
