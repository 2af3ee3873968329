-- The tokens of a direction, by sums over what is begun and accepted. One token is for one flit of
-- the receiver's input buffer. A request or a response costs its flits when it is begun. When it
-- leaves the buffer, these tokens fall due, and the RTC of packets of the other direction returns
-- them.
use Rattle.std.specs.Prelude.{ℕ, ◌+◌, ◌-◌, Bool, true, false}
use Rattle.hmc_numbers.specs.Weights.{Weight, upto}
use Rattle.hmc_numbers.specs.Direction.{Direction, begun}
use Rattle.hmc_numbers.specs.Pair.{Half}

-- n for a request or a response, 0 for a TRET
abbrev pub if_token : Bool → ℕ → ℕ
if_token true n = n
if_token false n = 0

-- the tokens that a packet costs
abbrev pub cost : Weight → ℕ
cost s = if_token s.token s.flits

-- Sums over the packets begun, and over those accepted

-- what the packets begun cost
abbrev pub cost_begun : Direction → ℕ
cost_begun w = upto cost w.first (begun w)

-- what the packets accepted cost
abbrev pub cost_accepted : Direction → ℕ
cost_accepted w = upto cost w.first w.accepted

-- what the RTCs of the packets begun return
abbrev pub tokens_begun : Direction → ℕ
tokens_begun w = upto (λ s. s.returns) w.first (begun w)

-- what the RTCs of the packets accepted return
abbrev pub tokens_accepted : Direction → ℕ
tokens_accepted w = upto (λ s. s.returns) w.first w.accepted

-- Each advertised token of direction own is in one of five places. Sums of this direction count
-- what it costs, those of the other one count what it gets back.

-- at the sender, for new packets
abbrev pub held_tokens : (own other : Half) → ℕ
held_tokens own other = tokens_accepted other.direction - cost_begun own.direction

-- in a packet that is begun and not accepted
abbrev pub transit_tokens : Half → ℕ
transit_tokens own = cost_begun own.direction - cost_accepted own.direction

-- in a packet in the input buffer
abbrev pub used_tokens : Half → ℕ
used_tokens own = cost_accepted own.direction - own.moved

-- at the receiver, to be returned
abbrev pub due_tokens : (advertised : ℕ) → (own other : Half) → ℕ
due_tokens adv own other = adv + own.moved - tokens_begun other.direction

-- in the RTC of a packet of the other direction that is begun and not accepted
abbrev pub returning_tokens : (other : Half) → ℕ
returning_tokens other = tokens_begun other.direction - tokens_accepted other.direction
