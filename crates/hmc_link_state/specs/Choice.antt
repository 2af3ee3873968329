-- What a sender sends: the first case that fits, by what it sees.
use Rattle.std.specs.Prelude.{ℕ, ◌%◌, ◌==◌, nat_lt, nat_le, Bool, true, false, not, ◌&&◌, if◌then◌else◌, Option, Some, None}

-- the mode of the other direction's receiver, which is the sender's own
pub data Mode : Type 0 where
  training : Mode
  abort : Mode
  good : Mode

-- the front of the output queue is a packet of so many flits, and the tokens that are due
pub record Sight : Type 0 where
  pub mode : Mode
  pub left : ℕ  -- flits left to send of the begun packet
  pub is_there : Bool  -- its next flit is there
  pub clears : ℕ  -- Clears sent
  pub starts : ℕ
  pub go_back : Bool  -- a go-back is due
  pub is_long_ago : Bool  -- no Start was sent, or 64 other flits after the last one
  pub position : ℕ
  pub begun : ℕ  -- packets begun for the first time
  pub is_open : Bool
  pub front : Option ℕ  -- flits of the front of the output queue
  pub held : ℕ
  pub room : ℕ
  pub due : ℕ
  pub is_acknowledged : Bool  -- the return pointer is the one sent last

pub data Choice : Type 0 where
  train : Choice
  starved : Choice
  next : Choice
  clear : Choice
  start : Choice
  again : Choice
  new : (flits : ℕ) → Choice
  tret : Choice
  pret : Choice
  null : Choice

-- the tokens that a packet brings back where so many are due: the greatest power of two up to 64
-- that isn't above
abbrev pub tokens_for : ℕ → ℕ
tokens_for due =
    if due == 0 then 0
    else (if nat_lt due 2 then 1 else (if nat_lt due 4 then 2 else (if nat_lt due 8 then 4
    else (if nat_lt due 16 then 8
    else (if nat_lt due 32 then 16 else (if nat_lt due 64 then 32 else 64))))))

abbrev pub fits : Option ℕ → (held room : ℕ) → Bool
fits None held room = false
fits (Some n) held room = nat_le n held && nat_le n room

abbrev pub flits_or : Option ℕ → ℕ
flits_or None = 0
flits_or (Some n) = n

abbrev pub is_training : Mode → Bool
is_training training = true
is_training m = false

abbrev pub is_abort : Mode → Bool
is_abort abort = true
is_abort m = false

abbrev pub idle_choice : Sight → Choice
idle_choice s = if not s.is_acknowledged then pret else null

abbrev pub new_choice : Sight → Choice
new_choice s =
    if s.is_open && fits s.front s.held s.room then new (flits_or s.front)
    else (if s.is_open && (nat_lt 0 s.due && nat_le 1 s.room) then tret else idle_choice s)

abbrev pub packet_choice : Sight → Choice
packet_choice s = if nat_lt s.position s.begun then again else new_choice s

abbrev pub free_choice : Sight → Choice
free_choice s =
    if not (s.starts % 32 == 0) then start
    else (if s.go_back then clear
    else (if is_abort s.mode && s.is_long_ago then start else packet_choice s))

abbrev pub begun_choice : Sight → Choice
begun_choice s =
    if not (s.left == 0) then (if s.is_there then next else starved)
    else (if not (s.clears % 32 == 0) then clear else free_choice s)

abbrev pub choice : Sight → Choice
choice s = if is_training s.mode then train else begun_choice s
