-- No packet that counts is of a host or a cube that isn't there.
use Rattle.std.proofs.Common.{◌≡◌, ◌∙◌, ◌==◌, ℕ, Bool, true, false, List, [], ◌∷◌, ◌++◌, refl, sym, ap, ap₂}
use Rattle.std.proofs.lemmas.Bool.{false_from_ne_true}
use Rattle.hmc_routes.specs.Route.Goal.{ToHost, ToCube}
use Rattle.hmc_hops.specs.Packets.{Packet, Spot, is_live}
use Rattle.hmc_hops.specs.Map.{Map, IsMap}
use Rattle.hmc_hops.specs.Queues.{QueueId, same_queue}
use Rattle.hmc_hops.specs.Queues.QueueId.{Output, Line, Buffer, Vault, UnitQueue, Answers}
use Rattle.hmc_hops.specs.Moves.{Move, leaves, contents, May, MayAll}
use Rattle.hmc_hops.specs.Moves.Move.{Rests, Comes, Goes, Executes}
use Rattle.hmc_hops.specs.Flows.{Flow, TaggedRequest, item_if, pick, collect, flow_left, waiting_at, requests_to, answers_to, given_packets, lifted_packets, is_host, taken_packets, given_to, answers_lifted, answers_taken}
use Rattle.hmc_hops.specs.OnWay.{IsKnown, IsOnWay}
use Rattle.hmc_hops.specs.Delivered.{IsStranger, NoneOfRequests, NoneOfAnswers}
use Rattle.hmc_hops.proofs.QueueLaws.{same_collected, pick_none}
use Rattle.hmc_hops.proofs.OnRoute.{Each, all_on_way, mover_on_way}
use Rattle.hmc_hops.proofs.Requests.{request_of_flow, live_request, executed_left}
use Rattle.hmc_hops.proofs.Replies.{answer_of_flow, live_answer}

known_of : (m : Map) (queue : QueueId) (x : Packet) → IsOnWay m queue x → is_live x ≡ true → IsKnown m x
known_of m (Output d) x own live = (own live).known
known_of m (Line d) x own live = (own live).known
known_of m (Buffer d) x own live = (own.1 live).known
known_of m (Vault c v) x own live = own.0.known
known_of m (UnitQueue c s) x own live = own.0.known
known_of m (Answers c l) x own live = own.known

-- a flow of packets that count, of which none is known
pub record IsUnknown {X : Type 0} (m : Map) (f : Flow X) : Type 0 where
  pub live : (x : Packet) → f.mine x ≡ true → is_live x ≡ true
  pub unknown : (x : Packet) → f.mine x ≡ true → IsKnown m x → ⊥

not_mine : {X : Type 0} (m : Map) (f : Flow X) (queue : QueueId) (x : Packet) → IsUnknown m f → IsOnWay m queue x → f.mine x ≡ false
not_mine m f queue x u own = false_from_ne_true (f.mine x) (λ mine. u.unknown x mine (known_of m queue x own (u.live x mine)))

collected_none : {X : Type 0} (past : List Move) → collect {X = X} (λ move. []) past ≡ []
unfolding collect
collected_none [] = refl
collected_none {X = X} (move ∷ past) = ap (λ (l : List X). l ++ []) (collected_none past)

-- no move adds anything
none_by : {X : Type 0} (m : Map) (piece : Move → List X) → ((move : Move) (past : List Move) → May m past move → MayAll m past → piece move ≡ []) → (past : List Move) → MayAll m past → collect piece past ≡ []
none_by m piece none past lawful = same_collected m piece (λ move. []) none past lawful ∙ collected_none past

none_left : {X : Type 0} (m : Map) (f : Flow X) (past : List Move) (queue : QueueId) → IsMap m → MayAll m past → IsUnknown m f → flow_left f past queue ≡ []
unfolding pick
none_left m f past queue map lawful u = none_by m (λ move. pick f (leaves move queue)) none past lawful
  where
    none : (move : Move) (before : List Move) → May m before move → MayAll m before → pick f (leaves move queue) ≡ []
    none Rests before may law = refl
    none (Comes into x) before may law = refl
    none (Goes p n x) before may law = pick_none f (same_queue p queue) x (not_mine m f p x u (mover_on_way m map before law p n x may.1))
    none (Executes c s n x answer) before may law = pick_none f (same_queue (UnitQueue c s) queue) x (not_mine m f (UnitQueue c s) x u (mover_on_way m map before law (UnitQueue c s) n x may))

none_in : {X : Type 0} (m : Map) (f : Flow X) (queue : QueueId) (xs : List Packet) → IsUnknown m f → Each (IsOnWay m queue) xs → pick f xs ≡ []
unfolding pick
none_in m f queue [] u each = refl
none_in m f queue (x ∷ xs) u each =
    ap₂ (λ a b. a ++ b) (ap (λ (b : Bool). item_if b (f.value x)) (not_mine m f queue x u each.0)) (none_in m f queue xs u each.1)

none_waits : {X : Type 0} (m : Map) (f : Flow X) (past : List Move) (queue : QueueId) → IsMap m → MayAll m past → IsUnknown m f → waiting_at m f past queue ≡ []
none_waits m f past queue map lawful u = none_in m f queue (contents m past queue) u (all_on_way m map past lawful queue)

-- a host or a cube isn't there
stranger_off : (m : Map) (h c : ℕ) (x : Packet) → IsStranger m h c → x.host ≡ h → x.cube ≡ c → IsKnown m x → ⊥
stranger_off m h c x stranger host cube known =
    stranger (sym (ap (λ (k : ℕ). m.is_goal (ToHost k)) host) ∙ known.host) (sym (ap (λ (k : ℕ). m.is_goal (ToCube k)) cube) ∙ known.cube)

unknown_requests : (m : Map) (h c : ℕ) (s : Spot) → IsStranger m h c → IsUnknown m (requests_to h c s)
unknown_requests m h c s stranger = record {
  live = λ x mine. live_request h c s x (request_of_flow h c s x mine);
  unknown = λ x mine known. let is = request_of_flow h c s x mine in stranger_off m h c x stranger is.host is.cube known;
}

unknown_answers : (m : Map) (h c : ℕ) → IsStranger m h c → IsUnknown m (answers_to c h)
unknown_answers m h c stranger = record {
  live = λ x mine. live_answer c h x (answer_of_flow c h x mine);
  unknown = λ x mine known. let is = answer_of_flow c h x mine in stranger_off m h c x stranger is.host is.cube known;
}

none_given : (m : Map) (h c : ℕ) (s : Spot) (past : List Move) → MayAll m past → IsStranger m h c → given_to h c s past ≡ []
unfolding pick
none_given m h c s past lawful stranger = none_by m (λ move. pick (requests_to h c s) (given_packets move)) none past lawful
  where
    f : Flow TaggedRequest
    f = requests_to h c s

    none : (move : Move) (before : List Move) → May m before move → MayAll m before → pick (requests_to h c s) (given_packets move) ≡ []
    none Rests before may law = refl
    none (Comes (Output d) x) before may law = pick_none (requests_to h c s) true x (false_from_ne_true ((requests_to h c s).mine x) (λ mine. (unknown_requests m h c s stranger).unknown x mine (record { host = may.host; cube = may.cube })))
    none (Comes (Line d) x) before may law = refl
    none (Comes (Buffer d) x) before may law = refl
    none (Comes (Vault d v) x) before may law = refl
    none (Comes (UnitQueue d t) x) before may law = refl
    none (Comes (Answers d l) x) before may law = refl
    none (Goes p n x) before may law = refl
    none (Executes d t n x answer) before may law = refl

pub requests_none : (m : Map) (past : List Move) (h c : ℕ) (s : Spot) → IsMap m → MayAll m past → IsStranger m h c → NoneOfRequests m past h c s
requests_none m past h c s map lawful stranger =
    let u = unknown_requests m h c s stranger in record {
      given = none_given m h c s past lawful stranger;
      accepted = λ d. none_left m (requests_to h c s) past (Line d) map lawful u;
      executed = sym (executed_left m h c s past map lawful) ∙ none_left m (requests_to h c s) past (UnitQueue c s) map lawful u;
      waiting = λ queue. none_waits m (requests_to h c s) past queue map lawful u;
    }

none_lifted : (m : Map) (c h : ℕ) (past : List Move) → IsMap m → MayAll m past → IsStranger m h c → answers_lifted c h past ≡ []
unfolding pick
none_lifted m c h past map lawful stranger = none_by m (λ move. pick (answers_to c h) (lifted_packets c move)) none past lawful
  where
    goes : (p : QueueId) (n : ℕ) (x : Packet) → IsOnWay m p x → pick (answers_to c h) (lifted_packets c (Goes p n x)) ≡ []
    goes (Output d) n x own = refl
    goes (Line d) n x own = refl
    goes (Buffer d) n x own = refl
    goes (Vault d v) n x own = refl
    goes (UnitQueue d t) n x own = refl
    goes (Answers d l) n x own = pick_none (answers_to c h) (d == c) x (not_mine m (answers_to c h) (Answers d l) x (unknown_answers m h c stranger) own)

    none : (move : Move) (before : List Move) → May m before move → MayAll m before → pick (answers_to c h) (lifted_packets c move) ≡ []
    none Rests before may law = refl
    none (Comes into x) before may law = refl
    none (Goes p n x) before may law = goes p n x (mover_on_way m map before law p n x may.1)
    none (Executes d t n x answer) before may law = refl

none_taken : (m : Map) (c h : ℕ) (past : List Move) → IsMap m → MayAll m past → IsStranger m h c → answers_taken m c h past ≡ []
unfolding pick
none_taken m c h past map lawful stranger = none_by m (λ move. pick (answers_to c h) (taken_packets m h move)) none past lawful
  where
    goes : (p : QueueId) (n : ℕ) (x : Packet) → IsOnWay m p x → pick (answers_to c h) (taken_packets m h (Goes p n x)) ≡ []
    goes (Output d) n x own = refl
    goes (Line d) n x own = refl
    goes (Buffer d) n x own = pick_none (answers_to c h) (is_host (m.end_of d) h) x (not_mine m (answers_to c h) (Buffer d) x (unknown_answers m h c stranger) own)
    goes (Vault d v) n x own = refl
    goes (UnitQueue d t) n x own = refl
    goes (Answers d l) n x own = refl

    none : (move : Move) (before : List Move) → May m before move → MayAll m before → pick (answers_to c h) (taken_packets m h move) ≡ []
    none Rests before may law = refl
    none (Comes into x) before may law = refl
    none (Goes p n x) before may law = goes p n x (mover_on_way m map before law p n x may.1)
    none (Executes d t n x answer) before may law = refl

pub answers_none : (m : Map) (past : List Move) (c h : ℕ) → IsMap m → MayAll m past → IsStranger m h c → NoneOfAnswers m past c h
answers_none m past c h map lawful stranger =
    let u = unknown_answers m h c stranger in record {
      lifted = none_lifted m c h past map lawful stranger;
      accepted = λ d. none_left m (answers_to c h) past (Line d) map lawful u;
      taken = none_taken m c h past map lawful stranger;
      waiting = λ queue. none_waits m (answers_to c h) past queue map lawful u;
    }
