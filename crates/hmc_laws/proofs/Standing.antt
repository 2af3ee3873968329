-- Which packets may wait in which queue.
use Rattle.std.proofs.Common.{◌≡◌, ◌≤◌, ◌<◌, ◌^◌, ◌∙◌, ◌⊎◌, inl, inr, ℕ, Bool, true, false, if◌then◌else◌, Some, None, is_some, List, ◌++◌, All, length, slice_get, refl, sym, ap, subst, arith}
use Rattle.hmc_journal.proofs.EntryRule.{goal_by}
use Rattle.std.proofs.lemmas.List.{drop_at}
use Rattle.std.proofs.lemmas.List.Elements.{All-drop, All-same}
use Rattle.std.proofs.lemmas.Option.{slice_get_within, get_or_from_slice_get}
use Rattle.hmc_codes.specs.Commands.{layout_of, family_of, is_ask, is_flow}
use Rattle.hmc_codes.specs.Request.{RequestFields, IsRequest}
use Rattle.hmc_codes.specs.Shape.{bank_of}
use Rattle.hmc_codes.specs.declared.answer.Answer.{Answer}
use Rattle.hmc_codes.specs.declared.answer.Answer.TheVariants.{Silent, Done, Read, Register, Stored, Refused}
use Rattle.hmc_codes.specs.declared.command.Command.{Command}
use Rattle.hmc_codes.specs.declared.command.Command.TheVariants.{WrRs, RdRs, MdRdRs, MdWrRs, Error}
use Rattle.hmc_codes.specs.Graph.{GraphFields}
use Rattle.hmc_codes.specs.declared.family.Family.{Family}
use Rattle.hmc_codes.specs.declared.family.Family.TheVariants as families
use Rattle.hmc_routes.specs.WellFormed.{is_host_of}
use Rattle.hmc_packet.specs.Packet.{PacketFields, IsPacket}
use Rattle.hmc_codes.specs.Answer.{CanReply, IsAnswer}
use Rattle.hmc_packet.specs.Transactions.{request_packet, reply_packet, request_in, answer_by, answer_in, payload_of}
use Rattle.hmc_packet.proofs.TransactionLemmas.{asks-layout, IsPacket-request_packet, request_in-request_packet, IsPacket-reply_packet, answer_in-reply_packet, answer_in-replies}
use Rattle.hmc_crossbar.specs.To.{HasGoal}
use Rattle.hmc_entries.specs.declared.outcome.Goal.{Goal}
use Rattle.hmc_entries.specs.declared.outcome.Goal.TheVariants as goals
use Rattle.hmc_journal.specs.Setup.{Topology, graph_of, shape_of, end_of, cubes_in, hosts_in, directions_in}
use Rattle.hmc_codes.specs.declared.place.Place.{Place}
use Rattle.hmc_codes.specs.declared.place.Place.TheVariants as places
use Rattle.hmc_journal.specs.Queues.{QueueId}
use Rattle.hmc_journal.specs.Queues.QueueId.{Output, Port, Host, Vault, Bank, Registers, Answers}
use Rattle.hmc_journal.specs.Delivered.{unnumbered}
use Rattle.hmc_journal.proofs.Packets.{reply_layout}

-- a packet of a transaction, with an error number that fits either profile
pub record IsCounted (packet : PacketFields) : Type 0 where
  pub is_packet : IsPacket packet
  pub layout : is_flow (layout_of packet.command) ≡ false
  pub errstat : packet.errstat < 8

-- a request of a host that is there to a cube that is there
pub record IsAsking (topology : Topology) (packet : PacketFields) : Type 0 where
  pub counted : IsCounted packet
  pub asks : family_of packet.command ≡ families.Ask
  pub cube : packet.cube < cubes_in topology
  pub slid : packet.slid < hosts_in topology
  pub request : RequestFields
  pub is_request : IsRequest request
  pub found : request_in packet ≡ Some request

-- an answer of such a cube to such a host
pub record IsReplying (topology : Topology) (packet : PacketFields) : Type 0 where
  pub counted : IsCounted packet
  pub replies : family_of packet.command ≡ families.Reply
  pub cube : packet.cube < cubes_in topology
  pub slid : packet.slid < hosts_in topology
  pub unpoisoned : packet.poisoned ≡ false
  pub answer : Answer
  pub found : answer_in packet ≡ Some answer

-- the poisoned copy of a packet that was forwarded; its goal is there
pub record IsSpoiled (topology : Topology) (packet : PacketFields) : Type 0 where
  pub is_packet : IsPacket packet
  pub layout : is_flow (layout_of packet.command) ≡ false
  pub poisoned : packet.poisoned ≡ true
  pub goal : HasGoal (graph_of topology) packet (family_of packet.command)

-- any of them
pub data IsMoving (topology : Topology) (packet : PacketFields) : Type 0 where
  ToCube : IsAsking topology packet → IsMoving topology packet
  ToHost : IsReplying topology packet → IsMoving topology packet
  Spoiled : IsSpoiled topology packet → IsMoving topology packet

-- a request in its cube, on its way to a unit
pub record IsBound (topology : Topology) (cube : ℕ) (goal : Goal) (packet : PacketFields) : Type 0 where
  pub asking : IsAsking topology packet
  pub own : packet.cube ≡ cube
  pub unpoisoned : packet.poisoned ≡ false
  pub is_goal : goal_by (shape_of topology cube) packet ≡ goal

pub record IsBoundIn (topology : Topology) (cube bank : ℕ) (goal : Goal) (packet : PacketFields) : Type 0 where
  pub bound : IsBound topology cube goal packet
  pub is_bank : bank_of (shape_of topology cube) packet.address ≡ bank

-- an answer in its cube
pub record IsLeaving (topology : Topology) (cube : ℕ) (packet : PacketFields) : Type 0 where
  pub replying : IsReplying topology packet
  pub own : packet.cube ≡ cube

-- an answer to this host
pub record IsFor (topology : Topology) (host : ℕ) (packet : PacketFields) : Type 0 where
  pub replying : IsReplying topology packet
  pub slid : packet.slid ≡ host

-- what goes to a place: a host gets its answers, and spoiled packets
abbrev pub GoesTo : Topology → Place → PacketFields → Type 0
GoesTo topology (places.Host host) packet = IsFor topology host packet ⊎ IsSpoiled topology packet
GoesTo topology (places.Port cube port) packet = IsMoving topology packet

-- it goes by a direction that is there
pub record IsOut (topology : Topology) (direction : ℕ) (packet : PacketFields) : Type 0 where
  pub inside : direction < directions_in topology
  pub goes : GoesTo topology (end_of topology direction) packet

-- it came by a direction that is there
pub record IsAtEnd (topology : Topology) (place : Place) (packet : PacketFields) : Type 0 where
  pub direction : ℕ
  pub inside : direction < directions_in topology
  pub ends : end_of topology direction ≡ place
  pub goes : GoesTo topology place packet

-- what stands in a room
abbrev pub Stands : Topology → QueueId → PacketFields → Type 0
Stands topology (Output direction) packet = IsOut topology direction packet
Stands topology (Port cube port) packet = IsAtEnd topology (places.Port cube port) packet
Stands topology (Vault cube vault) packet = IsBound topology cube (goals.Vault vault) packet
Stands topology (Bank cube vault bank) packet = IsBoundIn topology cube bank (goals.Vault vault) packet
Stands topology (Registers cube) packet = IsBound topology cube goals.Registers packet
Stands topology (Answers cube from) packet = IsLeaving topology cube packet
Stands topology (Host host) packet = IsAtEnd topology (places.Host host) packet

-- numbers on the way change nothing of it
answer_unnumbered : (command : Command) (packet : PacketFields) → answer_by command (unnumbered packet) ≡ answer_by command packet
unfolding answer_by
answer_unnumbered WrRs packet = refl
answer_unnumbered RdRs packet = refl
answer_unnumbered MdRdRs packet = refl
answer_unnumbered MdWrRs packet = refl
answer_unnumbered Error packet = refl
answer_unnumbered _ packet = refl

pub answer_in-unnumbered : (packet : PacketFields) → answer_in (unnumbered packet) ≡ answer_in packet
unfolding answer_in
answer_in-unnumbered packet = answer_unnumbered packet.command packet

pub request_in-unnumbered : (packet : PacketFields) → request_in (unnumbered packet) ≡ request_in packet
unfolding request_in
request_in-unnumbered packet = refl

-- of two packets that are alike apart from their numbers
pub alike : {X : Type 0} (view : PacketFields → X) → ((p : PacketFields) → view (unnumbered p) ≡ view p) → (packet other : PacketFields) → unnumbered packet ≡ unnumbered other → view packet ≡ view other
alike view blind packet other same = sym (blind packet) ∙ ap view same ∙ blind other

IsCounted-alike : (packet other : PacketFields) → unnumbered packet ≡ unnumbered other → IsPacket packet → IsCounted other → IsCounted packet
IsCounted-alike packet other same fits is = record {
  is_packet = fits;
  layout = alike (λ p. is_flow (layout_of p.command)) (λ p. refl) packet other same ∙ is.layout;
  errstat = subst (λ (n : ℕ). n < 8) (sym (alike (λ p. p.errstat) (λ p. refl) packet other same)) is.errstat;
}

IsAsking-alike : (topology : Topology) (packet other : PacketFields) → unnumbered packet ≡ unnumbered other → IsPacket packet → IsAsking topology other → IsAsking topology packet
IsAsking-alike topology packet other same fits is = record {
  counted = IsCounted-alike packet other same fits is.counted;
  asks = alike (λ p. family_of p.command) (λ p. refl) packet other same ∙ is.asks;
  cube = subst (λ (n : ℕ). n < cubes_in topology) (sym (alike (λ p. p.cube) (λ p. refl) packet other same)) is.cube;
  slid = subst (λ (n : ℕ). n < hosts_in topology) (sym (alike (λ p. p.slid) (λ p. refl) packet other same)) is.slid;
  request = is.request;
  is_request = is.is_request;
  found = alike request_in request_in-unnumbered packet other same ∙ is.found;
}

IsReplying-alike : (topology : Topology) (packet other : PacketFields) → unnumbered packet ≡ unnumbered other → IsPacket packet → IsReplying topology other → IsReplying topology packet
IsReplying-alike topology packet other same fits is = record {
  counted = IsCounted-alike packet other same fits is.counted;
  replies = alike (λ p. family_of p.command) (λ p. refl) packet other same ∙ is.replies;
  cube = subst (λ (n : ℕ). n < cubes_in topology) (sym (alike (λ p. p.cube) (λ p. refl) packet other same)) is.cube;
  slid = subst (λ (n : ℕ). n < hosts_in topology) (sym (alike (λ p. p.slid) (λ p. refl) packet other same)) is.slid;
  unpoisoned = alike (λ p. p.poisoned) (λ p. refl) packet other same ∙ is.unpoisoned;
  answer = is.answer;
  found = alike answer_in answer_in-unnumbered packet other same ∙ is.found;
}

goal_by_family : (graph : GraphFields) (packet other : PacketFields) (family : Family) → packet.cube ≡ other.cube → packet.slid ≡ other.slid → HasGoal graph other family → HasGoal graph packet family
goal_by_family graph packet other families.Ask cube slid goal = subst (λ (n : ℕ). n < graph.cubes) (sym cube) goal
goal_by_family graph packet other families.Reply cube slid goal = ap (is_host_of graph) slid ∙ goal
goal_by_family graph packet other families.Flow cube slid goal = goal

HasGoal-alike : (topology : Topology) (packet other : PacketFields) → unnumbered packet ≡ unnumbered other → HasGoal (graph_of topology) other (family_of other.command) → HasGoal (graph_of topology) packet (family_of packet.command)
HasGoal-alike topology packet other same goal =
    subst (HasGoal (graph_of topology) packet) (sym (alike (λ p. family_of p.command) (λ p. refl) packet other same))
    (goal_by_family (graph_of topology) packet other (family_of other.command) (alike (λ p. p.cube) (λ p. refl) packet other same) (alike (λ p. p.slid) (λ p. refl) packet other same) goal)

IsSpoiled-alike : (topology : Topology) (packet other : PacketFields) → unnumbered packet ≡ unnumbered other → IsPacket packet → IsSpoiled topology other → IsSpoiled topology packet
IsSpoiled-alike topology packet other same fits is = record {
  is_packet = fits;
  layout = alike (λ p. is_flow (layout_of p.command)) (λ p. refl) packet other same ∙ is.layout;
  poisoned = alike (λ p. p.poisoned) (λ p. refl) packet other same ∙ is.poisoned;
  goal = HasGoal-alike topology packet other same is.goal;
}

-- what moves counts, unless it is spoiled
pub IsCounted-moving : (topology : Topology) (packet : PacketFields) → packet.poisoned ≡ false → IsMoving topology packet → IsCounted packet
IsCounted-moving topology packet clean (ToCube is) = is.counted
IsCounted-moving topology packet clean (ToHost is) = is.counted
IsCounted-moving topology packet clean (Spoiled is) = absurd (let clash : true ≡ false = sym is.poisoned ∙ clean in cc)

IsMoving-alike : (topology : Topology) (packet other : PacketFields) → unnumbered packet ≡ unnumbered other → IsPacket packet → IsMoving topology other → IsMoving topology packet
IsMoving-alike topology packet other same fits (ToCube is) = ToCube (IsAsking-alike topology packet other same fits is)
IsMoving-alike topology packet other same fits (ToHost is) = ToHost (IsReplying-alike topology packet other same fits is)
IsMoving-alike topology packet other same fits (Spoiled is) = Spoiled (IsSpoiled-alike topology packet other same fits is)

GoesTo-alike : (topology : Topology) (place : Place) (packet other : PacketFields) → unnumbered packet ≡ unnumbered other → IsPacket packet → GoesTo topology place other → GoesTo topology place packet
GoesTo-alike topology (places.Host host) packet other same fits (inl is) =
    inl (record { replying = IsReplying-alike topology packet other same fits is.replying; slid = alike (λ p. p.slid) (λ p. refl) packet other same ∙ is.slid })
GoesTo-alike topology (places.Host host) packet other same fits (inr is) = inr (IsSpoiled-alike topology packet other same fits is)
GoesTo-alike topology (places.Port cube port) packet other same fits is = IsMoving-alike topology packet other same fits is

-- a packet stands with other numbers too
pub Stands-alike : (topology : Topology) (direction : ℕ) (packet other : PacketFields) → unnumbered packet ≡ unnumbered other → IsPacket packet → Stands topology (Output direction) other → Stands topology (Output direction) packet
Stands-alike topology direction packet other same fits is = record { inside = is.inside; goes = GoesTo-alike topology (end_of topology direction) packet other same fits is.goes }

pub All-back : {X : Type 0} (P : X → Type 0) (xs ys : List X) → All P (xs ++ ys) → All P ys
All-back P xs ys all = All-same P _ _ (sym (drop_at xs ys (length xs) refl)) (All-drop P (length xs) (xs ++ ys) all)

pub all_get : {X : Type 0} (P : X → Type 0) (xs : List X) (i : ℕ) (x : X) → All P xs → slice_get xs i ≡ Some x → P x
all_get P xs i x all is = subst P (get_or_from_slice_get xs i x x is) (all i x (slice_get_within xs i x is))

-- the request that a packet carries has its command, its cube and its address
pub record IsRequestOf (packet : PacketFields) (request : RequestFields) : Type 0 where
  pub command : request.command ≡ packet.command
  pub cube : request.cube ≡ packet.cube
  pub address : request.address ≡ packet.address

request_by : (asks : Bool) (packet : PacketFields) (request : RequestFields) → (if asks then Some (record { command = packet.command; cube = packet.cube; address = packet.address; payload = payload_of packet.command packet.payload }) else None) ≡ Some request
    → IsRequestOf packet request
request_by false packet request is = absurd (cc)
request_by true packet request is =
    let same : record { command = packet.command; cube = packet.cube; address = packet.address; payload = payload_of packet.command packet.payload } ≡ request = cc in record {
      command = sym (ap (λ (r : RequestFields). r.command) same);
      cube = sym (ap (λ (r : RequestFields). r.cube) same);
      address = sym (ap (λ (r : RequestFields). r.address) same);
    }

pub request_of_packet : (packet : PacketFields) (request : RequestFields) → request_in packet ≡ Some request → IsRequestOf packet request
unfolding request_in
request_of_packet packet request is = request_by (is_ask (layout_of packet.command)) packet request is

-- a request that is given
pub IsAsking-request_packet : (topology : Topology) (request : RequestFields) (tag host : ℕ) (poisoned : Bool) → IsRequest request → request.cube < cubes_in topology → tag < 2 ^ 11 → host < hosts_in topology → hosts_in topology ≤ 8
    → IsAsking topology (request_packet request tag host poisoned)
unfolding request_packet
IsAsking-request_packet topology request tag host poisoned is cube few there most = record {
  counted = record { is_packet = IsPacket-request_packet request tag host poisoned is few (omega arith); layout = ap is_flow (asks-layout (layout_of request.command) is.asks); errstat = omega arith };
  asks = is.asks;
  cube = cube;
  slid = there;
  request = request;
  is_request = is;
  found = request_in-request_packet request tag host poisoned is;
}

-- an answer that is sent
pub clean_reply : (answer : Answer) (tag host cube : ℕ) → (reply_packet answer tag host cube).poisoned ≡ false
unfolding reply_packet
clean_reply Silent tag host cube = refl
clean_reply (Done flag) tag host cube = refl
clean_reply (Read flag payload) tag host cube = refl
clean_reply (Register value) tag host cube = refl
clean_reply Stored tag host cube = refl
clean_reply (Refused errstat) tag host cube = refl

pub replied_slid : (answer : Answer) (tag host cube : ℕ) → CanReply answer → (reply_packet answer tag host cube).slid ≡ host
unfolding reply_packet
replied_slid Silent tag host cube can = absurd can
replied_slid (Done flag) tag host cube can = refl
replied_slid (Read flag payload) tag host cube can = refl
replied_slid (Register value) tag host cube can = refl
replied_slid Stored tag host cube can = refl
replied_slid (Refused errstat) tag host cube can = refl

pub replied_cube : (answer : Answer) (tag host cube : ℕ) → CanReply answer → (reply_packet answer tag host cube).cube ≡ cube
unfolding reply_packet
replied_cube Silent tag host cube can = absurd can
replied_cube (Done flag) tag host cube can = refl
replied_cube (Read flag payload) tag host cube can = refl
replied_cube (Register value) tag host cube can = refl
replied_cube Stored tag host cube can = refl
replied_cube (Refused errstat) tag host cube can = refl

pub replied_tag : (answer : Answer) (tag host cube : ℕ) → CanReply answer → (reply_packet answer tag host cube).tag ≡ tag
unfolding reply_packet
replied_tag Silent tag host cube can = absurd can
replied_tag (Done flag) tag host cube can = refl
replied_tag (Read flag payload) tag host cube can = refl
replied_tag (Register value) tag host cube can = refl
replied_tag Stored tag host cube can = refl
replied_tag (Refused errstat) tag host cube can = refl

-- the number of an error fits either profile
abbrev pub IsSmallError : Answer → Type 0
IsSmallError (Refused errstat) = errstat < 8
IsSmallError _ = Unit {0}

small_error : (answer : Answer) (tag host cube : ℕ) → CanReply answer → IsSmallError answer → (reply_packet answer tag host cube).errstat < 8
unfolding reply_packet
small_error Silent tag host cube can small = absurd can
small_error (Done flag) tag host cube can small = omega arith
small_error (Read flag payload) tag host cube can small = omega arith
small_error (Register value) tag host cube can small = omega arith
small_error Stored tag host cube can small = omega arith
small_error (Refused errstat) tag host cube can small = small

pub IsReplying-reply_packet : (topology : Topology) (answer : Answer) (tag host cube : ℕ) → CanReply answer → IsAnswer answer → IsSmallError answer → tag < 2 ^ 11 → host < hosts_in topology → hosts_in topology ≤ 8 → cube < cubes_in topology → cubes_in topology ≤ 8
    → IsReplying topology (reply_packet answer tag host cube)
IsReplying-reply_packet topology answer tag host cube can fits small few there most own all =
    let found = answer_in-reply_packet answer tag host cube can fits in
    let replies = (answer_in-replies (reply_packet answer tag host cube)).0 (ap is_some found) in record {
      counted = record { is_packet = IsPacket-reply_packet answer tag host cube can fits few (omega arith) (omega arith); layout = reply_layout _ replies; errstat = small_error answer tag host cube can small };
      replies = replies;
      cube = subst (λ (n : ℕ). n < cubes_in topology) (sym (replied_cube answer tag host cube can)) own;
      slid = subst (λ (n : ℕ). n < hosts_in topology) (sym (replied_slid answer tag host cube can)) there;
      unpoisoned = clean_reply answer tag host cube;
      answer = answer;
      found = found;
    }
