-- One link and its cube by numbers: two directions, each with its sender and its receiver, and what
-- the cube holds.
use Rattle.std.specs.Prelude.{◌≡◌, ℕ, zero, suc, ◌+◌, ◌-◌, ◌*◌, ◌%◌, ◌≤◌, nat_le, Bool, true, false, List, [], ◌∷◌, length, Option, Some, None}
use Rattle.hmc_numbers.specs.Weights.{Weight, flits_to, upto}
use Rattle.hmc_numbers.specs.Direction.{Item, Direction, begun, position}
use Rattle.hmc_numbers.specs.Direction.Filler.{start}
use Rattle.hmc_numbers.specs.Direction.Item.{filler, part}
use Rattle.hmc_numbers.specs.Pair.{Half}
use Rattle.hmc_numbers.specs.Tokens.{transit_tokens}
use Rattle.hmc_numbers.specs.May.{IsGood}

pub record Setup : Type 0 where
  pub line : ℕ
  pub tokens : ℕ
  pub retry : ℕ

pub record Side : Type 0 where
  pub half : Half
  pub starts : ℕ  -- Starts sent
  pub others : ℕ  -- other flits sent since the last Start, and 64 where none was sent
  pub go_back : Bool
  pub is_open : Bool
  pub ack_sent : ℕ  -- the packets that the return pointer sent last stands for
  pub steady : ℕ  -- in Train the run of training flits and IRTRYs
  pub missing : ℕ  -- flits that a gathering with a changed flit still lacks
  pub queue : List ℕ  -- flits of the packets in the output queue, the front first
  pub buffer : List ℕ  -- flits of the packets in the receiving buffer

pub record State : Type 0 where
  pub forth : Side  -- from the host to the cube
  pub back : Side
  pub vaults : ℕ  -- requests in vault queues
  pub banks : ℕ  -- in bank queues and the register queue
  pub answers : ℕ  -- replies in answers queues
  pub can_move :
      Bool  -- whether the cube or the host could move something when the last round ended

abbrev pub wire : Side → Direction
wire x = x.half.direction

abbrev pub front_of : List ℕ → Option ℕ
front_of [] = None
front_of (n ∷ ns) = Some n

abbrev pub count_if : Bool → ℕ
count_if true = 1
count_if false = 0

-- one for a request or a response
abbrev pub count_of : Weight → ℕ
count_of s = count_if s.token

abbrev pub flits_of : List ℕ → ℕ
flits_of [] = 0
flits_of (n ∷ ns) = n + flits_of ns

abbrev pub AreFairSizes : List ℕ → Type 0
AreFairSizes [] = Unit {0}
AreFairSizes (n ∷ ns) = (1 ≤ n) × (n ≤ 17) × AreFairSizes ns

-- token packets begun and not accepted
abbrev pub crossing : Side → ℕ
crossing x =
    upto count_of (wire x).first (begun (wire x)) - upto count_of (wire x).first
    (wire x).accepted

abbrev pub inside_cube : State → ℕ
inside_cube s = length s.forth.buffer + s.vaults + s.banks + s.answers

abbrev pub under_way : State → ℕ
under_way s =
    length s.forth.queue + crossing s.forth + inside_cube s + length s.back.queue + crossing s.back
    + length s.back.buffer

-- flits to send before the sender is caught up
abbrev pub backlog : Side → ℕ
backlog x =
    (wire x).left
    + (flits_to (wire x).first (begun (wire x)) - flits_to (wire x).first (position (wire x)))

abbrev pub room : Setup → Side → ℕ
room s x =
    s.retry - (flits_to (wire x).first (begun (wire x)) - flits_to (wire x).first
    (wire x).acked)

-- moves left of each packet under way, each begin 800, each acceptance 100, each other move 1
abbrev pub weight : State → ℕ
weight s =
    1805 * length s.forth.queue + 1005 * crossing s.forth + 905 * length s.forth.buffer
    + 904 * s.vaults + 903 * s.banks + 902 * s.answers
    + 901 * length s.back.queue + 101 * crossing s.back + length s.back.buffer

-- The line

abbrev pub IsNoStart : Item → Type 0
IsNoStart (filler start) = ⊥
IsNoStart x = Unit {0}

abbrev pub HaveNoStart : List Item → Type 0
HaveNoStart [] = Unit {0}
HaveNoStart (x ∷ xs) = IsNoStart x × HaveNoStart xs

-- how many are accepted once the line has landed in Good
abbrev pub higher : (ended n a : ℕ) → ℕ
higher zero n a = elim (nat_le a n) as (λ b. ℕ) [ true ↦ n | false ↦ a ]
higher (suc more) n a = a

abbrev pub reached : ℕ → List Item → ℕ
reached a [] = a
reached a (part n k more ∷ xs) = reached (higher more n a) xs
reached a (x ∷ xs) = reached a xs

-- Settled

pub record IsSettledSide (x : Side) : Type 0 where
  pub good : IsGood (wire x).far
  pub opened : x.is_open ≡ true
  pub clears : (wire x).clears % 32 ≡ 0
  pub starts : x.starts % 32 ≡ 0
  pub back : x.go_back ≡ false
  pub line : HaveNoStart (wire x).line

abbrev pub IsSettled : State → Type 0
IsSettled s = IsSettledSide s.forth × IsSettledSide s.back

-- a line that isn't full before its send
abbrev pub IsSteady : Setup → State → Type 0
IsSteady c s =
    (suc (length (wire s.forth).line) ≤ c.line) × (suc (length (wire s.back).line) ≤ c.line)

abbrev pub IsCaughtUp : State → Type 0
IsCaughtUp s =
    (position (wire s.forth) ≡ begun (wire s.forth))
    × (position (wire s.back) ≡ begun (wire s.back))

-- every queue and buffer is empty, and no token is in transit
pub record IsEmpty (s : State) : Type 0 where
  pub requests : s.forth.queue ≡ []
  pub received : s.forth.buffer ≡ []
  pub vaults : s.vaults ≡ 0
  pub banks : s.banks ≡ 0
  pub answers : s.answers ≡ 0
  pub replies : s.back.queue ≡ []
  pub taken : s.back.buffer ≡ []
  pub forth : transit_tokens s.forth.half ≡ 0
  pub back : transit_tokens s.back.half ≡ 0
