-- The tags of hosts: what was asked, executed, answered and taken under each, and where its one
-- packet is.
use Rattle.std.specs.Prelude.{◌≡◌, ◌≤◌, ℕ, suc, Bool, true, false, not, ◌==◌, ◌&&◌, List, [], ◌∷◌, ◌++◌, length}
use Rattle.hmc_codes.specs.Request.{RequestFields}
use Rattle.hmc_codes.specs.declared.answer.Answer.{Answer}
use Rattle.hmc_codes.specs.declared.answer.Answer.TheVariants.{Silent}
use Rattle.hmc_hops.specs.Packets.{Packet, Kind, is_reply, no_request}
use Rattle.hmc_hops.specs.Packets.Kind.{Asks, Replies}
use Rattle.hmc_hops.specs.Map.{Map}
use Rattle.hmc_hops.specs.Queues.{QueueId, same_queue}
use Rattle.hmc_hops.specs.Queues.QueueId.{Output, Buffer}
use Rattle.hmc_hops.specs.Moves.{Move, contents}
use Rattle.hmc_hops.specs.Moves.Move.{Comes, Goes, Executes}
use Rattle.hmc_hops.specs.Flows.{Flow, item_if, pick, collect, is_host}
use Rattle.hmc_hops.specs.Delivered.{IsPrefix}

-- a request that is answered
abbrev pub is_asks : Kind → Bool
is_asks Asks = true
is_asks _ = false

-- a packet with a tag: a request that is answered, or an answer
abbrev pub is_tagged : Kind → Bool
is_tagged Asks = true
is_tagged Replies = true
is_tagged _ = false

-- what a packet carries under a tag: the request asked, or the answer replied
pub data Errand : Type 0 where
  Asked : RequestFields → Errand
  Replied : Answer → Errand

-- the answer, or the request
abbrev pub errand_by : (reply : Bool) → Packet → Errand
errand_by true x = Replied x.answer
errand_by false x = Asked x.request

-- the packets with a tag of a host, except poisoned ones
abbrev pub errands_of : (host tag : ℕ) → Flow Errand
errands_of h t = record {
  mine = λ x. (not x.poisoned && is_tagged x.kind) && ((x.host == h) && (x.tag == t));
  value = λ x. errand_by (is_reply x.kind) x;
}

-- the host gives a request under the tag
abbrev pub asks_now : (host tag : ℕ) → Move → Bool
asks_now h t (Comes (Output d) x) =
    (not x.poisoned && is_asks x.kind) && ((x.host == h) && (x.tag == t))
asks_now h t _ = false

-- a unit executes a request under the tag
abbrev pub executes_now : (host tag : ℕ) → Move → Bool
executes_now h t (Executes c s n x answer) = is_asks x.kind && ((x.host == h) && (x.tag == t))
executes_now h t _ = false

-- the host takes an answer under the tag
abbrev pub takes_now : Map → (host tag : ℕ) → Move → Bool
takes_now m h t (Goes (Buffer d) n x) =
    is_host (m.end_of d) h && (not x.poisoned && (x.tag == t))
takes_now m h t _ = false

-- the request that a move gives or executes
abbrev pub request_of : Move → RequestFields
request_of (Comes into x) = x.request
request_of (Executes c s n x answer) = x.request
request_of _ = no_request

-- the answer that a move makes, or moves
abbrev pub answer_of : Move → Answer
answer_of (Executes c s n x answer) = answer
answer_of (Goes from n x) = x.answer
answer_of _ = Silent

-- the requests that a host gave under a tag
abbrev pub asked_under : (host tag : ℕ) → List Move → List RequestFields
asked_under h t past = collect (λ move. item_if (asks_now h t move) (request_of move)) past

-- those that were executed
abbrev pub executed_under : (host tag : ℕ) → List Move → List RequestFields
executed_under h t past = collect (λ move. item_if (executes_now h t move) (request_of move)) past

-- their answers
abbrev pub replied_under : (host tag : ℕ) → List Move → List Answer
replied_under h t past = collect (λ move. item_if (executes_now h t move) (answer_of move)) past

-- the answers that the host took
abbrev pub answers_under : Map → (host tag : ℕ) → List Move → List Answer
answers_under m h t past = collect (λ move. item_if (takes_now m h t move) (answer_of move)) past

-- whether a tag is out after a move
abbrev pub out_after : (asks takes before : Bool) → Bool
out_after true takes before = true
out_after false true before = false
out_after false false before = before

-- a tag is out from its request to its answer
unfoldable pub is_out : Map → (host tag : ℕ) → List Move → Bool
is_out m h t [] = false
is_out m h t (move ∷ past) =
    out_after (asks_now h t move) (takes_now m h t move) (is_out m h t past)

-- each request is given under a tag that isn't out
unfoldable pub KeepsTags : Map → List Move → Type 0
KeepsTags m [] = Unit {0}
KeepsTags m (move ∷ past) =
    ((h t : ℕ) → asks_now h t move ≡ true → is_out m h t past ≡ false) × KeepsTags m past

-- a tag is free, or one packet of the whole network has it, in one queue
pub data Phase : Type 0 where
  Free : Phase
  Held : QueueId → Errand → Phase

-- what the packet carries, where a test holds
abbrev pub errands_if : Bool → Errand → List Errand
errands_if true errand = errand ∷ []
errands_if false errand = []

-- what a queue has of a tag in this phase
abbrev pub held : Phase → QueueId → List Errand
held Free queue = []
held (Held here errand) queue = errands_if (same_queue here queue) errand

-- the request asked that isn't executed yet
abbrev pub asks_left : Phase → List RequestFields
asks_left (Held queue (Asked request)) = request ∷ []
asks_left _ = []

-- the answer that isn't taken yet
abbrev pub replies_left : Phase → List Answer
replies_left (Held queue (Replied answer)) = answer ∷ []
replies_left _ = []

-- some packet has the tag
abbrev pub is_held : Phase → Bool
is_held Free = false
is_held (Held queue errand) = true

-- what was asked, executed, replied and taken under a tag, by its phase
pub record PhaseAccounts (phase : Phase) (asked executed : List RequestFields)
    (replied taken : List Answer) (out : Bool) : Type 0 where
  pub asked_is : asked ≡ executed ++ asks_left phase
  pub replied_is : replied ≡ taken ++ replies_left phase
  pub out_is : out ≡ is_held phase

-- A tag of a host has a phase, which says where its packet is and what is left to do for it.
pub record HasPhase (m : Map) (h t : ℕ) (past : List Move) : Type 0 where
  pub phase : Phase
  pub places : (queue : QueueId) → pick (errands_of h t) (contents m past queue) ≡ held phase queue
  pub accounts : PhaseAccounts phase (asked_under h t past) (executed_under h t past)
      (replied_under h t past) (answers_under m h t past) (is_out m h t past)

-- what holds of each tag of a host
pub record IsAnswered (m : Map) (h t : ℕ) (past : List Move) : Type 0 where
  -- the answers taken are a prefix of those replied
  pub answered : IsPrefix (answers_under m h t past) (replied_under h t past)
  -- the requests executed are a prefix of those asked
  pub executed : IsPrefix (executed_under h t past) (asked_under h t past)
  -- at most one that was asked isn't answered yet
  pub one_out : length (asked_under h t past) ≤ suc (length (answers_under m h t past))
  -- a tag is out where some queue has a packet of it
  pub finds : (queue : QueueId) (errand : Errand) (rest : List Errand) →
      pick (errands_of h t) (contents m past queue) ≡ errand ∷ rest → is_out m h t past ≡ true
