-- Packets as routes see them: requests, answers, and packets that only return tokens.
use Rattle.std.specs.Prelude.{ℕ, Bool, true, false, not, ◌==◌, ◌&&◌, []}
use Rattle.hmc_codes.specs.Request.{RequestFields}
use Rattle.hmc_codes.specs.declared.answer.Answer.{Answer}
use Rattle.hmc_codes.specs.declared.command.Command.TheVariants.{Null}

-- the unit of its cube that executes a request
pub data Spot : Type 0 where
  Bank : (vault bank : ℕ) → Spot
  Registers : Spot

-- a request that is answered, a posted request, an answer, or a packet that only returns tokens
pub data Kind : Type 0 where
  Asks : Kind
  Posts : Kind
  Replies : Kind
  Returns : Kind

-- A packet goes between a host and a cube: a request from the host to the cube, an answer from the
-- cube to the host. Only a request has a spot and a request, and only an answer has an answer.
pub record Packet : Type 0 where
  pub kind : Kind
  pub host : ℕ
  pub cube : ℕ
  pub spot : Spot
  pub tag : ℕ
  pub poisoned : Bool
  pub request : RequestFields
  pub answer : Answer

-- in a packet without a request
abbrev pub no_request : RequestFields
no_request = record { command = Null; cube = 0; address = 0; payload = [] }

-- the same bank, or the registers
abbrev pub same_spot : Spot → Spot → Bool
same_spot (Bank v b) (Bank w a) = (v == w) && (b == a)
same_spot Registers Registers = true
same_spot _ _ = false

-- a request, posted or not
abbrev pub is_request : Kind → Bool
is_request Asks = true
is_request Posts = true
is_request _ = false

-- an answer
abbrev pub is_reply : Kind → Bool
is_reply Replies = true
is_reply _ = false

-- a request or an answer: it is in buffers, and takes tokens
abbrev pub is_token : Kind → Bool
is_token Returns = false
is_token _ = true

-- a packet that counts: a request or an answer that isn't poisoned
abbrev pub is_live : Packet → Bool
is_live x = not x.poisoned && is_token x.kind

-- the packet of the answer to a request
abbrev pub reply_to : Packet → Answer → Packet
reply_to x answer = record x {
  kind = Replies;
  spot = Registers;
  poisoned = false;
  request = no_request;
  answer = answer;
}
