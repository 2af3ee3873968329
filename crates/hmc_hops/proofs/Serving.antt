-- A unit executes requests in the order in which they arrived at its cube, whichever hosts gave them.
use Rattle.std.proofs.Common.{◌≡◌, ◌∙◌, ◌==◌, ◌&&◌, ℕ, Bool, true, false, not, Option, Some, None, List, [], ◌∷◌, ◌++◌, refl, sym, ap, subst, eq-eqb, append-nil, append_assoc}
use Rattle.std.proofs.lemmas.Bool.{and_parts, and_from, not-true, false_from_ne_true}
use Rattle.hmc_hops.specs.Packets.{Packet, Spot, is_token, is_request, same_spot, reply_to}
use Rattle.hmc_hops.specs.Packets.Spot.{Bank, Registers}
use Rattle.hmc_routes.specs.Route.{Goal}
use Rattle.hmc_routes.specs.Route.Goal.{ToCube}
use Rattle.hmc_hops.specs.Map.{Map, IsMap, End, goal_of}
use Rattle.hmc_hops.specs.Map.End.{Cube}
use Rattle.hmc_hops.specs.Queues.{QueueId, same_queue, is_at, next_queue, first_queue, after_line, at_cube, after_buffer, after_answers, unless_poisoned}
use Rattle.hmc_hops.specs.Queues.QueueId.{Output, Line, Buffer, Vault, UnitQueue, Answers}
use Rattle.hmc_hops.specs.Moves.{Move, packet_if, leaves, enters, contents, IsSource, May, MayAll}
use Rattle.hmc_hops.specs.Moves.Move.{Rests, Comes, Goes, Executes}
use Rattle.hmc_hops.specs.Flows.{Flow, HostRequest, item_if, pick, collect, flow_entered, flow_left, waiting_at, host_request, requests_for, is_cube, arriving_packets, arrived_for, executed_here, executed_for}
use Rattle.hmc_hops.specs.Order.{departed, IsStrict, InOrder}
use Rattle.hmc_hops.specs.Delivered.{IsPrefix}
use Rattle.hmc_hops.specs.OnWay.{IsOnWay}
use Rattle.hmc_hops.proofs.SameQueue.{bool_same, spot_is, spot_same, queue_is, at_is, at_of}
use Rattle.hmc_hops.proofs.QueueLaws.{same_collected, pick_none, pick-append}
use Rattle.hmc_hops.proofs.OnRoute.{mover_on_way, request_goal}
use Rattle.hmc_hops.proofs.Junctions.{IsAfter, junction, buffer_to, answer_queue_off, vault_bank}
use Rattle.hmc_hops.proofs.Arrivals.{cube_is}
use Rattle.hmc_hops.proofs.Order.{whole_is}

-- what a packet is that one unit is to execute
pub record IsRequestFor (c : ℕ) (s : Spot) (x : Packet) : Type 0 where
  pub clean : x.poisoned ≡ false
  pub request : is_request x.kind ≡ true
  pub cube : x.cube ≡ c
  pub spot : x.spot ≡ s

pub request_for_flow : (c : ℕ) (s : Spot) (x : Packet) → (requests_for c s).mine x ≡ true → IsRequestFor c s x
request_for_flow c s x mine =
    let one = and_parts (not x.poisoned && is_request x.kind) ((x.cube == c) && same_spot x.spot s) mine in
    let kind = and_parts (not x.poisoned) (is_request x.kind) one.0 in
    let two = and_parts (x.cube == c) (same_spot x.spot s) one.1 in
    record { clean = not-true x.poisoned kind.0; request = kind.1; cube = Rattle.std.proofs.Common.eqb-true x.cube c two.0; spot = spot_is x.spot s two.1 }

mine_for : (c : ℕ) (s : Spot) (x : Packet) → IsRequestFor c s x → (requests_for c s).mine x ≡ true
mine_for c s x is =
    and_from (not x.poisoned && is_request x.kind) ((x.cube == c) && same_spot x.spot s)
    (and_from (not x.poisoned) (is_request x.kind) (ap not is.clean) is.request)
    (and_from (x.cube == c) (same_spot x.spot s) (eq-eqb x.cube c is.cube) (ap (same_spot x.spot) (sym is.spot) ∙ spot_same x.spot))

-- ---- a queue that no packet passes another in

picked : {X : Type 0} (f : Flow X) (piece : Move → List Packet) (past : List Move) → pick f (collect piece past) ≡ collect (λ move. pick f (piece move)) past
unfolding pick collect
picked f piece [] = refl
picked f piece (move ∷ past) = pick-append f (collect piece past) (piece move) ∙ ap (λ l. l ++ pick f (piece move)) (picked f piece past)

pub strict_law : {X : Type 0} (m : Map) (f : Flow X) (past : List Move) (queue : QueueId) → IsStrict queue → MayAll m past → InOrder past → flow_entered m f past queue ≡ flow_left f past queue ++ waiting_at m f past queue
strict_law m f past queue strict lawful line =
    sym (picked f (λ move. enters m move queue) past)
    ∙ ap (pick f) (whole_is m past queue strict lawful line)
    ∙ pick-append f (departed past queue) (contents m past queue)
    ∙ ap (λ l. l ++ waiting_at m f past queue) (picked f (λ move. leaves move queue) past)

-- ---- what arrives enters the first queue in the cube, and nothing else does

pub entry_no_output : (c : ℕ) (s : Spot) (d : ℕ) → first_queue c s ≡ Output d → ⊥
entry_no_output c (Bank v b) d is = cc
entry_no_output c Registers d is = cc

pub some_is : (a b : QueueId) → Some a ≡ Some b → a ≡ b
some_is a b is = cc

pub record FromBuffer (m : Map) (c : ℕ) (p : QueueId) : Type 0 where
  pub direction : ℕ
  pub is : p ≡ Buffer direction
  pub ends : m.end_of direction ≡ Cube c

entry_back : (m : Map) (c : ℕ) (s : Spot) → (p : QueueId) (x : Packet) → x.spot ≡ s → IsOnWay m p x → next_queue m p x ≡ Some (first_queue c s) → FromBuffer m c p
entry_back m c (Bank v b) (Output k) x spot own goes = cc
entry_back m c Registers (Output k) x spot own goes = cc
entry_back m c s (Line k) x spot own goes = absurd (by s (is_token x.kind) goes)
  where
    by : (t : Spot) (b : Bool) → after_line b k ≡ Some (first_queue c t) → ⊥
    by (Bank v a) true is = cc
    by Registers true is = cc
    by t false is = cc
entry_back m c s (Buffer k) x spot own goes =
    let b = buffer_to m k x (first_queue c s) goes in
    let cube : b.cube ≡ c = by (m.next (goal_of x) b.cube) b.cube s (ap (λ (t : Spot). at_cube (m.next (goal_of x) b.cube) (first_queue b.cube t)) (sym spot) ∙ b.goes) in
    record { direction = k; is = refl; ends = b.ends ∙ ap Cube cube }
  where
    by : (o : Option ℕ) (e : ℕ) (t : Spot) → at_cube o (first_queue e t) ≡ Some (first_queue c t) → e ≡ c
    by (Some k) e (Bank v b) is = cc
    by (Some k) e Registers is = cc
    by None e (Bank v b) is = cc
    by None e Registers is = cc
entry_back m c (Bank v b) (Vault e w) x spot own goes = cc
entry_back m c Registers (Vault e w) x spot own goes =
    let clash : Registers ≡ Bank w own.1.0 = sym spot ∙ own.1.1 in cc
entry_back m c s (UnitQueue e t) x spot own goes = cc
entry_back m c s (Answers e l) x spot own goes = absurd (by (m.next (Goal.ToHost x.host) e) goes)
  where
    by : (o : Option ℕ) → after_answers o ≡ Some (first_queue c s) → ⊥
    by (Some k) is = entry_no_output c s k (sym (some_is (Output k) (first_queue c s) is))
    by None is = cc

pub enters_first : (m : Map) → IsMap m → (c d : ℕ) (s : Spot) (x : Packet) → IsRequestFor c s x → m.end_of d ≡ Cube c → next_queue m (Buffer d) x ≡ Some (first_queue c s)
enters_first m map c d s x is ends =
    ap (λ (b : Bool). unless_poisoned b (after_buffer m (m.end_of d) x)) is.clean
    ∙ ap (λ (end : End). after_buffer m end x) ends
    ∙ ap (λ (g : Goal). at_cube (m.next g c) (first_queue c x.spot)) ((request_goal m x is.request).0 ∙ ap ToCube is.cube)
    ∙ ap (λ (o : Option ℕ). at_cube o (first_queue c x.spot)) (map.stops c)
    ∙ ap (λ (t : Spot). Some (first_queue c t)) is.spot

buffer_same : (d e : ℕ) → Buffer d ≡ Buffer e → d ≡ e
buffer_same d e is = cc

arrives_first : (m : Map) → IsMap m → (c d : ℕ) (s : Spot) (x : Packet) (mine : Bool) → (requests_for c s).mine x ≡ mine → IsOnWay m (Buffer d) x
    → pick (requests_for c s) (packet_if (is_cube (m.end_of d) c) x) ≡ pick (requests_for c s) (packet_if (is_at (next_queue m (Buffer d) x) (first_queue c s)) x)
arrives_first m map c d s x false is own = pick_none (requests_for c s) (is_cube (m.end_of d) c) x is ∙ sym (pick_none (requests_for c s) (is_at (next_queue m (Buffer d) x) (first_queue c s)) x is)
arrives_first m map c d s x true is own =
    let r = request_for_flow c s x is in
    ap (λ (b : Bool). pick (requests_for c s) (packet_if b x))
    (bool_same (is_cube (m.end_of d) c) (is_at (next_queue m (Buffer d) x) (first_queue c s))
    (λ here. at_of (next_queue m (Buffer d) x) (first_queue c s) (enters_first m map c d s x r (cube_is (m.end_of d) c here)))
    (λ at. let f = entry_back m c s (Buffer d) x r.spot own (at_is (next_queue m (Buffer d) x) (first_queue c s) at) in
    ap (λ (e : End). is_cube e c) (ap m.end_of (buffer_same d f.direction f.is) ∙ f.ends) ∙ eq-eqb c c refl))

-- from no other queue
abbrev NoBuffer : QueueId → Type 0
NoBuffer (Buffer d) = ⊥
NoBuffer _ = Unit {0}

no_buffer : (m : Map) (c : ℕ) (p : QueueId) → NoBuffer p → FromBuffer m c p → ⊥
no_buffer m c (Output d) none from = let clash : Output d ≡ Buffer from.direction = from.is in cc
no_buffer m c (Line d) none from = let clash : Line d ≡ Buffer from.direction = from.is in cc
no_buffer m c (Buffer d) none from = none
no_buffer m c (Vault e v) none from = let clash : Vault e v ≡ Buffer from.direction = from.is in cc
no_buffer m c (UnitQueue e t) none from = let clash : UnitQueue e t ≡ Buffer from.direction = from.is in cc
no_buffer m c (Answers e l) none from = let clash : Answers e l ≡ Buffer from.direction = from.is in cc

enters_not : (m : Map) (c : ℕ) (s : Spot) (p : QueueId) (x : Packet) (mine : Bool) → NoBuffer p → (requests_for c s).mine x ≡ mine → IsOnWay m p x → [] ≡ pick (requests_for c s) (packet_if (is_at (next_queue m p x) (first_queue c s)) x)
unfolding pick
enters_not m c s p x false none is own = sym (pick_none (requests_for c s) (is_at (next_queue m p x) (first_queue c s)) x is)
enters_not m c s p x true none is own =
    ap (λ (b : Bool). pick (requests_for c s) (packet_if b x)) (sym (false_from_ne_true (is_at (next_queue m p x) (first_queue c s)) (λ at.
    no_buffer m c p none (entry_back m c s p x (request_for_flow c s x is).spot own (at_is (next_queue m p x) (first_queue c s) at)))))

after_first : (c : ℕ) (s : Spot) → IsAfter (first_queue c s)
after_first c (Bank v b) = tt
after_first c Registers = tt

comes_not : (c : ℕ) (s : Spot) (m : Map) (into : QueueId) (x : Packet) → IsSource m into x → same_queue into (first_queue c s) ≡ false
comes_not c (Bank v b) m (Output d) x source = refl
comes_not c Registers m (Output d) x source = refl
comes_not c (Bank v b) m (Line d) x source = refl
comes_not c Registers m (Line d) x source = refl
comes_not c s m (Buffer d) x source = absurd source
comes_not c s m (Vault d v) x source = absurd source
comes_not c s m (UnitQueue d t) x source = absurd source
comes_not c s m (Answers d l) x source = absurd source

pub arrived_entered : (m : Map) (c : ℕ) (s : Spot) (past : List Move) → IsMap m → MayAll m past → arrived_for m c s past ≡ flow_entered m (requests_for c s) past (first_queue c s)
unfolding pick
arrived_entered m c s past map lawful = same_collected m (λ move. pick (requests_for c s) (arriving_packets m c move)) (λ move. pick (requests_for c s) (enters m move (first_queue c s))) agree past lawful
  where
    goes : (p : QueueId) (n : ℕ) (x : Packet) → IsOnWay m p x → pick (requests_for c s) (arriving_packets m c (Goes p n x)) ≡ pick (requests_for c s) (packet_if (is_at (next_queue m p x) (first_queue c s)) x)
    goes (Output d) n x own = enters_not m c s (Output d) x ((requests_for c s).mine x) tt refl own
    goes (Line d) n x own = enters_not m c s (Line d) x ((requests_for c s).mine x) tt refl own
    goes (Buffer d) n x own = arrives_first m map c d s x ((requests_for c s).mine x) refl own
    goes (Vault d v) n x own = enters_not m c s (Vault d v) x ((requests_for c s).mine x) tt refl own
    goes (UnitQueue d t) n x own = refl
    goes (Answers d l) n x own = enters_not m c s (Answers d l) x ((requests_for c s).mine x) tt refl own

    agree : (move : Move) (before : List Move) → May m before move → MayAll m before → pick (requests_for c s) (arriving_packets m c move) ≡ pick (requests_for c s) (enters m move (first_queue c s))
    agree Rests before may law = refl
    agree (Comes into x) before may law = sym (ap (λ (b : Bool). pick (requests_for c s) (packet_if b x)) (comes_not c s m into x may))
    agree (Goes p n x) before may law = goes p n x (mover_on_way m map before law p n x may.1)
    agree (Executes d t n x answer) before may law = sym (ap (λ (b : Bool). pick (requests_for c s) (packet_if b (reply_to x answer))) (answer_queue_off x.kind d t (first_queue c s) (after_first c s)))

-- ---- what leaves the queue of the unit is executed

executed_one : (m : Map) (c : ℕ) (s : Spot) (d : ℕ) (t : Spot) (x : Packet) (here : Bool) → same_queue (UnitQueue d t) (UnitQueue c s) ≡ here → IsOnWay m (UnitQueue d t) x
    → pick (requests_for c s) (packet_if here x) ≡ item_if here (host_request x)
unfolding pick
executed_one m c s d t x false is own = refl
executed_one m c s d t x true is own =
    let at : IsOnWay m (UnitQueue c s) x = subst (λ (r : QueueId). IsOnWay m r x) (queue_is (UnitQueue d t) (UnitQueue c s) is) own in
    ap (λ (b : Bool). item_if b (host_request x) ++ []) (mine_for c s x (record { clean = at.0.clean; request = at.0.request; cube = at.0.cube; spot = at.1 }))

left_off : (c : ℕ) (s : Spot) (p : QueueId) → Rattle.hmc_hops.specs.Moves.CanLeave p → same_queue p (UnitQueue c s) ≡ false
left_off c s (Output d) left = refl
left_off c s (Line d) left = refl
left_off c s (Buffer d) left = refl
left_off c s (Vault e v) left = refl
left_off c s (UnitQueue e t) left = absurd left
left_off c s (Answers e l) left = refl

executed_left : (m : Map) (c : ℕ) (s : Spot) (past : List Move) → IsMap m → MayAll m past → flow_left (requests_for c s) past (UnitQueue c s) ≡ executed_for c s past
unfolding pick
executed_left m c s past map lawful = same_collected m (λ move. pick (requests_for c s) (leaves move (UnitQueue c s))) (executed_here c s) agree past lawful
  where
    agree : (move : Move) (before : List Move) → May m before move → MayAll m before → pick (requests_for c s) (leaves move (UnitQueue c s)) ≡ executed_here c s move
    agree Rests before may law = refl
    agree (Comes into x) before may law = refl
    agree (Goes p n x) before may law = ap (λ (b : Bool). pick (requests_for c s) (packet_if b x)) (left_off c s p may.0)
    agree (Executes d t n x answer) before may law = executed_one m c s d t x (same_queue (UnitQueue d t) (UnitQueue c s)) refl (mover_on_way m map before law (UnitQueue d t) n x may)

-- what of requests to a unit is in its cube, on its way to the unit
abbrev pub inside : Map → List Move → (cube : ℕ) → Spot → List HostRequest
inside m past c Registers = waiting_at m (requests_for c Registers) past (UnitQueue c Registers)
inside m past c (Bank v b) = waiting_at m (requests_for c (Bank v b)) past (UnitQueue c (Bank v b)) ++ waiting_at m (requests_for c (Bank v b)) past (Vault c v)

-- those that arrived are those executed, and then those that wait in the cube
pub arrived_is : (m : Map) (past : List Move) → IsMap m → MayAll m past → InOrder past → (c : ℕ) (s : Spot) → arrived_for m c s past ≡ executed_for c s past ++ inside m past c s
arrived_is m past map lawful line c Registers =
    let f = requests_for c Registers in
    arrived_entered m c Registers past map lawful
    ∙ strict_law m f past (UnitQueue c Registers) tt lawful line
    ∙ ap (λ l. l ++ waiting_at m f past (UnitQueue c Registers)) (executed_left m c Registers past map lawful)
arrived_is m past map lawful line c (Bank v b) =
    let f = requests_for c (Bank v b) in
    arrived_entered m c (Bank v b) past map lawful
    ∙ strict_law m f past (Vault c v) tt lawful line
    ∙ ap (λ l. l ++ waiting_at m f past (Vault c v))
    (junction m f (Vault c v) (UnitQueue c (Bank v b)) map (vault_bank m f c v b (λ x mine. (request_for_flow c (Bank v b) x mine).spot)) past lawful
    ∙ strict_law m f past (UnitQueue c (Bank v b)) tt lawful line
    ∙ ap (λ l. l ++ waiting_at m f past (UnitQueue c (Bank v b))) (executed_left m c (Bank v b) past map lawful))
    ∙ append_assoc (executed_for c (Bank v b) past) (waiting_at m f past (UnitQueue c (Bank v b))) (waiting_at m f past (Vault c v))

pub executed_first : (m : Map) (past : List Move) → IsMap m → MayAll m past → InOrder past → (c : ℕ) (s : Spot) → IsPrefix (executed_for c s past) (arrived_for m c s past)
executed_first m past map lawful line c s = (inside m past c s, arrived_is m past map lawful line c s)
