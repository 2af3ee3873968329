-- The requests of a host to a unit.
use Rattle.std.proofs.Common.{◌≡◌, ◌≤◌, ◌∙◌, ◌==◌, ◌&&◌, ℕ, zero, suc, Bool, true, false, not, Option, Some, None, List, [], ◌∷◌, ◌++◌, refl, sym, ap, subst, eqb-true, eq-eqb, append_assoc}
use Rattle.std.proofs.lemmas.Bool.{and_parts, and_from, not-true, false_from_ne_true}
use Rattle.hmc_hops.specs.Packets.{Packet, Spot, Kind, is_live, is_token, is_request, is_reply, reply_to, same_spot}
use Rattle.hmc_hops.specs.Packets.Spot.{Bank, Registers}
use Rattle.hmc_hops.specs.Packets.Kind.{Asks, Posts, Replies, Returns}
use Rattle.hmc_hops.specs.Map.{Map, IsMap, End, goal_of, leg, after, after_end, hops_at, route}
use Rattle.hmc_hops.specs.Map.End.{Host, Cube}
use Rattle.hmc_routes.specs.Route.Goal.{ToHost, ToCube}
use Rattle.hmc_hops.specs.Queues.{QueueId, same_queue, is_at, next_queue, after_line}
use Rattle.hmc_hops.specs.Queues.QueueId.{Output, Line, Buffer, Vault, UnitQueue, Answers}
use Rattle.hmc_hops.specs.Moves.{Move, packet_if, leaves, enters, answer_queue, contents, same_flow, IsGiven, IsSource, CanLeave, May, MayAll}
use Rattle.hmc_hops.specs.Moves.Move.{Rests, Comes, Goes, Executes}
use Rattle.hmc_hops.specs.Flows.{TaggedRequest, item_if, pick, flow_entered, flow_left, waiting_at, waiting_along, waiting_inside, tagged_request, requests_to, given_packets, executed_requests, given_to, executed_by}
use Rattle.hmc_hops.specs.Delivered.{IsPrefix}
use Rattle.hmc_hops.proofs.SameQueue.{spot_is, spot_same, queue_is, at_is}
use Rattle.hmc_hops.proofs.Legs.{follows}
use Rattle.hmc_hops.proofs.QueueLaws.{IsFlow, queue_law, same_collected, pick_none}
use Rattle.hmc_hops.specs.OnWay.{IsOnWay}
use Rattle.hmc_hops.proofs.OnRoute.{mover_on_way, request_goal}
use Rattle.hmc_hops.proofs.Junctions.{junction, buffer_to, at_cube_output, answer_queue_off, Ends, buffer_entry, vault_bank}
use Rattle.hmc_hops.proofs.Telescope.{IsWalked, Sinks, telescope, sent_law, landed_law, prefix_then}

-- what a packet of the flow is
pub record IsRequestOf (h c : ℕ) (s : Spot) (x : Packet) : Type 0 where
  pub clean : x.poisoned ≡ false
  pub request : is_request x.kind ≡ true
  pub host : x.host ≡ h
  pub cube : x.cube ≡ c
  pub spot : x.spot ≡ s

pub request_of_flow : (h c : ℕ) (s : Spot) (x : Packet) → (requests_to h c s).mine x ≡ true → IsRequestOf h c s x
request_of_flow h c s x mine =
    let one = and_parts (not x.poisoned && is_request x.kind) (((x.host == h) && (x.cube == c)) && same_spot x.spot s) mine in
    let kind = and_parts (not x.poisoned) (is_request x.kind) one.0 in
    let two = and_parts ((x.host == h) && (x.cube == c)) (same_spot x.spot s) one.1 in
    let three = and_parts (x.host == h) (x.cube == c) two.0 in
    record { clean = not-true x.poisoned kind.0; request = kind.1; host = eqb-true x.host h three.0; cube = eqb-true x.cube c three.1; spot = spot_is x.spot s two.1 }

pub request_token : (k : Kind) → is_request k ≡ true → is_token k ≡ true
request_token Asks is = refl
request_token Posts is = refl
request_token Replies is = refl
request_token Returns is = cc

pub live_request : (h c : ℕ) (s : Spot) (x : Packet) → IsRequestOf h c s x → is_live x ≡ true
live_request h c s x is = and_from (not x.poisoned) (is_token x.kind) (ap not is.clean) (request_token x.kind is.request)

requests_same_flow : (h c : ℕ) (s : Spot) (x y : Packet) → IsRequestOf h c s x → IsRequestOf h c s y → same_flow x y ≡ true
requests_same_flow h c s x y a b =
    and_from _ _ (and_from _ _ (live_request h c s x a) (live_request h c s y b))
    (and_from _ _ (and_from _ _ (eq-eqb x.host y.host (a.host ∙ sym b.host)) (eq-eqb x.cube y.cube (a.cube ∙ sym b.cube)))
    (party (is_request x.kind) (is_request y.kind) (is_reply x.kind && is_reply y.kind) a.request b.request))
  where
    party : (p q r : Bool) → p ≡ true → q ≡ true → Rattle.hmc_hops.specs.Moves.same_work (p && q) r ≡ true
    party true true r p q = refl
    party true false r p q = cc
    party false q r p q' = cc

pub requests_flow : (m : Map) (h c : ℕ) (s : Spot) → IsFlow m (requests_to h c s) (ToCube c) (m.from_host h)
requests_flow m h c s = record {
  live = λ x mine. live_request h c s x (request_of_flow h c s x mine);
  goal_is = λ x mine. let is = request_of_flow h c s x mine in (request_goal m x is.request).0 ∙ ap ToCube is.cube;
  first_is = λ x mine. let is = request_of_flow h c s x mine in (request_goal m x is.request).1 ∙ ap (λ (k : ℕ). Some (m.from_host k)) is.host;
  apart = λ x y mine more. requests_same_flow h c s x y (request_of_flow h c s x mine) (request_of_flow h c s y more);
}

pub requests_walk : (m : Map) (h c : ℕ) (s : Spot) (past : List Move) → IsMap m → MayAll m past → IsWalked m (requests_to h c s) (ToCube c) (m.from_host h) past
requests_walk m h c s past map lawful = record { map = map; flow = requests_flow m h c s; lawful = lawful }

-- The host's end: only what it gives enters its output queue.
no_way : (m : Map) (h c : ℕ) (s : Spot) → IsMap m → m.is_goal (ToHost h) ≡ true → (p : QueueId) (x : Packet) → (requests_to h c s).mine x ≡ true → IsOnWay m p x → next_queue m p x ≡ Some (Output (m.from_host h)) → ⊥
no_way m h c s map known (Output d) x mine own goes = cc
no_way m h c s map known (Line d) x mine own goes = by (is_token x.kind) goes
  where
    by : (b : Bool) → after_line b d ≡ Some (Output (m.from_host h)) → ⊥
    by true is = cc
    by false is = cc
no_way m h c s map known (Buffer d) x mine own goes =
    let b = buffer_to m d x (Output (m.from_host h)) goes in
    let n : m.next (goal_of x) b.cube ≡ Some (m.from_host h) = at_cube_output (m.next (goal_of x) b.cube) b.cube x.spot (m.from_host h) b.goes in
    let start : Cube b.cube ≡ Host h = sym (map.starts (goal_of x) b.cube (m.from_host h) n) ∙ map.host_starts h known in cc
no_way m h c s map known (Vault d v) x mine own goes = cc
no_way m h c s map known (UnitQueue d t) x mine own goes = cc
no_way m h c s map known (Answers d l) x mine own goes =
    let request : is_request x.kind ≡ true = (request_of_flow h c s x mine).request in
    let reply : is_request x.kind ≡ false = ap is_request own.reply in cc

goes_not : (m : Map) (h c : ℕ) (s : Spot) → IsMap m → m.is_goal (ToHost h) ≡ true → (p : QueueId) (x : Packet) (mine : Bool) → (requests_to h c s).mine x ≡ mine → IsOnWay m p x → [] ≡ pick (requests_to h c s) (packet_if (is_at (next_queue m p x) (Output (m.from_host h))) x)
unfolding pick
goes_not m h c s map known p x false is own = sym (pick_none (requests_to h c s) (is_at (next_queue m p x) (Output (m.from_host h))) x is)
goes_not m h c s map known p x true is own =
    ap (λ (b : Bool). pick (requests_to h c s) (packet_if b x)) (sym (false_from_ne_true (is_at (next_queue m p x) (Output (m.from_host h))) (λ at. no_way m h c s map known p x is own (at_is (next_queue m p x) (Output (m.from_host h)) at))))

comes_given : (m : Map) (h c : ℕ) (s : Spot) (d : ℕ) (x : Packet) (mine : Bool) → (requests_to h c s).mine x ≡ mine → IsGiven m d x → pick (requests_to h c s) (x ∷ []) ≡ pick (requests_to h c s) (packet_if (d == m.from_host h) x)
unfolding pick
comes_given m h c s d x false is source = pick_none (requests_to h c s) true x is ∙ sym (pick_none (requests_to h c s) (d == m.from_host h) x is)
comes_given m h c s d x true is source =
    ap (λ (b : Bool). pick (requests_to h c s) (packet_if b x)) (sym (eq-eqb d (m.from_host h) (source.direction ∙ ap m.from_host (request_of_flow h c s x is).host)))

pub given_entered : (m : Map) (h c : ℕ) (s : Spot) (past : List Move) → IsMap m → MayAll m past → m.is_goal (ToHost h) ≡ true → given_to h c s past ≡ flow_entered m (requests_to h c s) past (Output (m.from_host h))
unfolding pick
given_entered m h c s past map lawful known =
    same_collected m (λ move. pick (requests_to h c s) (given_packets move)) (λ move. pick (requests_to h c s) (enters m move (Output (m.from_host h)))) agree past lawful
  where
    agree : (move : Move) (before : List Move) → May m before move → MayAll m before → pick (requests_to h c s) (given_packets move) ≡ pick (requests_to h c s) (enters m move (Output (m.from_host h)))
    agree Rests before may law = refl
    agree (Comes (Output d) x) before may law = comes_given m h c s d x ((requests_to h c s).mine x) refl may
    agree (Comes (Line d) x) before may law = refl
    agree (Comes (Buffer d) x) before may law = absurd may
    agree (Comes (Vault d v) x) before may law = absurd may
    agree (Comes (UnitQueue d t) x) before may law = absurd may
    agree (Comes (Answers d l) x) before may law = absurd may
    agree (Goes p n x) before may law = goes_not m h c s map known p x ((requests_to h c s).mine x) refl (mover_on_way m map before law p n x may.1)
    agree (Executes d t n x answer) before may law = ap (λ (b : Bool). pick (requests_to h c s) (packet_if b (reply_to x answer))) (sym (answer_queue_off x.kind d t (Output (m.from_host h)) tt))

-- The unit's end: what leaves its queue is executed.
mine_here : (h c : ℕ) (s : Spot) (x : Packet) → x.poisoned ≡ false → is_request x.kind ≡ true → x.cube ≡ c → x.spot ≡ s → (requests_to h c s).mine x ≡ (x.host == h)
mine_here h c s x clean request cube spot = by (not x.poisoned) (is_request x.kind) (x.host == h) (x.cube == c) (same_spot x.spot s) (ap not clean) request (eq-eqb x.cube c cube) (ap (same_spot x.spot) (sym spot) ∙ spot_same x.spot)
  where
    by : (p q r t u : Bool) → p ≡ true → q ≡ true → t ≡ true → u ≡ true → ((p && q) && ((r && t) && u)) ≡ r
    by true true true true true p q t u = refl
    by true true false true true p q t u = refl
    by false q r t u p q' t' u' = cc
    by true false r t u p q' t' u' = cc
    by true true r false u p q' t' u' = cc
    by true true r true false p q' t' u' = cc

executed_requests_are : (m : Map) (h c : ℕ) (s : Spot) (d : ℕ) (t : Spot) (x : Packet) (here : Bool) → same_queue (UnitQueue d t) (UnitQueue c s) ≡ here → IsOnWay m (UnitQueue d t) x
    → pick (requests_to h c s) (packet_if here x) ≡ item_if ((x.host == h) && here) (tagged_request x)
unfolding pick
executed_requests_are m h c s d t x false is own = sym (ap (λ (b : Bool). item_if b (tagged_request x)) (by (x.host == h)))
  where
    by : (b : Bool) → (b && false) ≡ false
    by true = refl
    by false = refl
executed_requests_are m h c s d t x true is own =
    let at : IsOnWay m (UnitQueue c s) x = subst (λ (r : QueueId). IsOnWay m r x) (queue_is (UnitQueue d t) (UnitQueue c s) is) own in
    ap (λ (b : Bool). item_if b ((requests_to h c s).value x) ++ []) (mine_here h c s x at.0.clean at.0.request at.0.cube at.1) ∙ by (x.host == h)
  where
    by : (b : Bool) → item_if b ((requests_to h c s).value x) ++ [] ≡ item_if (b && true) (tagged_request x)
    by true = refl
    by false = refl

left_off : (c : ℕ) (s : Spot) (p : QueueId) → CanLeave p → same_queue p (UnitQueue c s) ≡ false
left_off c s (Output d) left = refl
left_off c s (Line d) left = refl
left_off c s (Buffer d) left = refl
left_off c s (Vault e v) left = refl
left_off c s (UnitQueue e t) left = absurd left
left_off c s (Answers e l) left = refl

pub executed_left : (m : Map) (h c : ℕ) (s : Spot) (past : List Move) → IsMap m → MayAll m past → flow_left (requests_to h c s) past (UnitQueue c s) ≡ executed_by h c s past
unfolding pick
executed_left m h c s past map lawful = same_collected m (λ move. pick (requests_to h c s) (leaves move (UnitQueue c s))) (executed_requests h c s) agree past lawful
  where
    agree : (move : Move) (before : List Move) → May m before move → MayAll m before → pick (requests_to h c s) (leaves move (UnitQueue c s)) ≡ executed_requests h c s move
    agree Rests before may law = refl
    agree (Comes into x) before may law = refl
    agree (Goes p n x) before may law = ap (λ (b : Bool). pick (requests_to h c s) (packet_if b x)) (left_off c s p may.0)
    agree (Executes d t n x answer) before may law = executed_requests_are m h c s d t x (same_queue (UnitQueue d t) (UnitQueue c s)) refl (mover_on_way m map before law (UnitQueue d t) n x may)

-- the route ends at the cube
last_end : (m : Map) (h c : ℕ) (s : Spot) → IsMap m → m.is_goal (ToHost h) ≡ true → m.is_goal (ToCube c) ≡ true → (i d : ℕ) (end : End) → leg m (ToCube c) (Some (m.from_host h)) i ≡ Some d → leg m (ToCube c) (Some (m.from_host h)) (suc i) ≡ None → m.end_of d ≡ end
    → Ends m (requests_to h c s) (ToCube c) d c s
unfolding leg
last_end m h c s map host cube zero d (Host k) at last is =
    let a = map.host_ends h host in
    let same : m.from_host h ≡ d = cc in
    let both : Cube a.0 ≡ Host k = sym a.1 ∙ ap m.end_of same ∙ is in absurd (cc)
last_end m h c s map host cube (suc i) d (Host k) at last is = absurd (by (leg m (ToCube c) (Some (m.from_host h)) i) at)
  where
    by : (o : Option ℕ) → after m (ToCube c) o ≡ Some d → ⊥
    by None at = cc
    by (Some e) at =
        let f = follows m (ToCube c) e d at in
        let g : ToCube c ≡ ToHost k = map.reaches (ToCube c) f.cube d k f.next is in cc
last_end m h c s map host cube i d (Cube k) at last is =
    let next : m.next (ToCube c) k ≡ None = sym (ap (after m (ToCube c)) at ∙ ap (after_end m (ToCube c)) is) ∙ last in
    let g : ToCube c ≡ ToCube k = map.arrives (ToCube c) k cube (map.cubes d k is) next in
    let same : k ≡ c = cc in
    record { ends = is ∙ ap Cube same; last = map.stops c; spot = λ x mine. (request_of_flow h c s x mine).spot }

-- from the last buffer to the unit
in_cube : (m : Map) (h c : ℕ) (s : Spot) (past : List Move) → IsMap m → MayAll m past → (i d : ℕ) → leg m (ToCube c) (Some (m.from_host h)) i ≡ Some d → Ends m (requests_to h c s) (ToCube c) d c s
    → flow_left (requests_to h c s) past (Buffer d) ≡ executed_by h c s past ++ waiting_inside m (requests_to h c s) past c s
in_cube m h c Registers past map lawful i d at ends =
    let f = requests_to h c Registers in
    junction m f (Buffer d) (UnitQueue c Registers) map (buffer_entry m f (ToCube c) (m.from_host h) i d c Registers map (requests_flow m h c Registers) at ends) past lawful
    ∙ queue_law m f (requests_flow m h c Registers).apart past (UnitQueue c Registers) lawful
    ∙ ap (λ (l : List TaggedRequest). l ++ waiting_at m f past (UnitQueue c Registers)) (executed_left m h c Registers past map lawful)
in_cube m h c (Bank v b) past map lawful i d at ends =
    let s = Bank v b in
    let f = requests_to h c (Bank v b) in
    junction m f (Buffer d) (Vault c v) map (buffer_entry m f (ToCube c) (m.from_host h) i d c (Bank v b) map (requests_flow m h c (Bank v b)) at ends) past lawful
    ∙ queue_law m f (requests_flow m h c (Bank v b)).apart past (Vault c v) lawful
    ∙ ap (λ (l : List TaggedRequest). l ++ waiting_at m f past (Vault c v))
    (junction m f (Vault c v) (UnitQueue c (Bank v b)) map (vault_bank m f c v b (λ x mine. (request_of_flow h c (Bank v b) x mine).spot)) past lawful
    ∙ queue_law m f (requests_flow m h c (Bank v b)).apart past (UnitQueue c (Bank v b)) lawful
    ∙ ap (λ (l : List TaggedRequest). l ++ waiting_at m f past (UnitQueue c (Bank v b))) (executed_left m h c (Bank v b) past map lawful))
    ∙ append_assoc (executed_by h c (Bank v b) past) (waiting_at m f past (UnitQueue c (Bank v b))) (waiting_at m f past (Vault c v))

sink_is : (m : Map) (h c : ℕ) (s : Spot) (past : List Move) → IsMap m → MayAll m past → m.is_goal (ToHost h) ≡ true → m.is_goal (ToCube c) ≡ true
    → Sinks m (requests_to h c s) (ToCube c) (m.from_host h) past (executed_by h c s past ++ waiting_inside m (requests_to h c s) past c s)
sink_is m h c s past map lawful host cube j e at last = in_cube m h c s past map lawful j e at (last_end m h c s map host cube j e (m.end_of e) at last refl)

pub given_is : (m : Map) (past : List Move) → IsMap m → MayAll m past → (h c more : ℕ) (s : Spot) → m.is_goal (ToHost h) ≡ true → m.is_goal (ToCube c) ≡ true → hops_at m (ToCube c) (m.end_of (m.from_host h)) ≤ more
    → given_to h c s past ≡ executed_by h c s past ++ (waiting_inside m (requests_to h c s) past c s ++ waiting_along m (requests_to h c s) past (route m (ToCube c) more (Some (m.from_host h))))
unfolding leg
given_is m past map lawful h c more s host cube far =
    given_entered m h c s past map lawful host
    ∙ telescope m (requests_to h c s) (ToCube c) (m.from_host h) past (executed_by h c s past ++ waiting_inside m (requests_to h c s) past c s) (requests_walk m h c s past map lawful) (sink_is m h c s past map lawful host cube) more 0 (m.from_host h) refl far
    ∙ append_assoc (executed_by h c s past) (waiting_inside m (requests_to h c s) past c s) (waiting_along m (requests_to h c s) past (route m (ToCube c) more (Some (m.from_host h))))

-- the prefix chain
pub first_hop : (m : Map) (past : List Move) → IsMap m → MayAll m past → (h c : ℕ) (s : Spot) → m.is_goal (ToHost h) ≡ true → m.is_goal (ToCube c) ≡ true → IsPrefix (flow_left (requests_to h c s) past (Line (m.from_host h))) (given_to h c s past)
first_hop m past map lawful h c s host cube = (_, given_entered m h c s past map lawful host ∙ sent_law m (requests_to h c s) (ToCube c) (m.from_host h) past (requests_walk m h c s past map lawful) (m.from_host h))

pub last_hop : (m : Map) (past : List Move) → IsMap m → MayAll m past → (h c i d : ℕ) (s : Spot) → m.is_goal (ToHost h) ≡ true → m.is_goal (ToCube c) ≡ true
    → leg m (ToCube c) (Some (m.from_host h)) i ≡ Some d → leg m (ToCube c) (Some (m.from_host h)) (suc i) ≡ None → IsPrefix (executed_by h c s past) (flow_left (requests_to h c s) past (Line d))
last_hop m past map lawful h c i d s host cube at last =
    let f = requests_to h c s in
    prefix_then (flow_left f past (Line d)) (flow_left f past (Buffer d)) (waiting_at m f past (Buffer d)) (executed_by h c s past) (waiting_inside m f past c s)
    (landed_law m f (ToCube c) (m.from_host h) past (requests_walk m h c s past map lawful) d)
    (in_cube m h c s past map lawful i d at (last_end m h c s map host cube i d (m.end_of d) at last refl))
