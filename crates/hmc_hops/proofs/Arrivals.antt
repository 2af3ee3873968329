-- The requests of a host to a cube, whatever their units are, arrive there in the order given.
use Rattle.std.proofs.Common.{◌≡◌, ◌≤◌, ◌∙◌, ◌==◌, ◌&&◌, ℕ, zero, suc, Bool, true, false, not, Option, Some, None, List, [], ◌∷◌, ◌++◌, refl, sym, ap, eqb-true, eq-eqb, arith}
use Rattle.std.proofs.lemmas.Bool.{and_parts, and_from, not-true, false_from_ne_true}
use Rattle.hmc_hops.specs.Packets.{Packet, is_live, is_token, is_request, is_reply, reply_to}
use Rattle.hmc_hops.specs.Map.{Map, IsMap, End, goal_of, leg, after, after_end, hops_at}
use Rattle.hmc_hops.specs.Map.End.{Host, Cube}
use Rattle.hmc_routes.specs.Route.Goal.{ToHost, ToCube}
use Rattle.hmc_hops.specs.Queues.{QueueId, is_at, next_queue, after_line}
use Rattle.hmc_hops.specs.Queues.QueueId.{Output, Line, Buffer, Vault, UnitQueue, Answers}
use Rattle.hmc_hops.specs.Moves.{Move, packet_if, leaves, enters, same_flow, same_work, IsGiven, May, MayAll}
use Rattle.hmc_hops.specs.Moves.Move.{Rests, Comes, Goes, Executes}
use Rattle.hmc_hops.specs.Flows.{pick, collect, flow_entered, flow_left, waiting_along, requests_at, given_packets, is_cube, arriving_packets, given_at, arrived_at}
use Rattle.hmc_hops.specs.Delivered.{IsPrefix, request_route}
use Rattle.hmc_hops.specs.OnWay.{IsOnWay}
use Rattle.hmc_hops.proofs.SameQueue.{bool_same, at_is}
use Rattle.hmc_hops.proofs.Legs.{follows, one_leg}
use Rattle.hmc_hops.proofs.QueueLaws.{IsFlow, same_collected, pick_none}
use Rattle.hmc_hops.proofs.OnRoute.{mover_on_way, request_goal}
use Rattle.hmc_hops.proofs.Junctions.{buffer_to, at_cube_output, answer_queue_off, leg_of}
use Rattle.hmc_hops.proofs.Telescope.{Sinks, telescope}
use Rattle.hmc_hops.proofs.Requests.{request_token}

-- what a packet of the flow is
pub record IsRequestAt (h c : ℕ) (x : Packet) : Type 0 where
  pub clean : x.poisoned ≡ false
  pub request : is_request x.kind ≡ true
  pub host : x.host ≡ h
  pub cube : x.cube ≡ c

pub request_at_flow : (h c : ℕ) (x : Packet) → (requests_at h c).mine x ≡ true → IsRequestAt h c x
request_at_flow h c x mine =
    let one = and_parts (not x.poisoned && is_request x.kind) ((x.host == h) && (x.cube == c)) mine in
    let kind = and_parts (not x.poisoned) (is_request x.kind) one.0 in
    let two = and_parts (x.host == h) (x.cube == c) one.1 in
    record { clean = not-true x.poisoned kind.0; request = kind.1; host = eqb-true x.host h two.0; cube = eqb-true x.cube c two.1 }

live_at : (h c : ℕ) (x : Packet) → IsRequestAt h c x → is_live x ≡ true
live_at h c x is = and_from (not x.poisoned) (is_token x.kind) (ap not is.clean) (request_token x.kind is.request)

at_same_flow : (h c : ℕ) (x y : Packet) → IsRequestAt h c x → IsRequestAt h c y → same_flow x y ≡ true
at_same_flow h c x y a b =
    and_from _ _ (and_from _ _ (live_at h c x a) (live_at h c y b))
    (and_from _ _ (and_from _ _ (eq-eqb x.host y.host (a.host ∙ sym b.host)) (eq-eqb x.cube y.cube (a.cube ∙ sym b.cube)))
    (party (is_request x.kind) (is_request y.kind) (is_reply x.kind && is_reply y.kind) a.request b.request))
  where
    party : (p q r : Bool) → p ≡ true → q ≡ true → same_work (p && q) r ≡ true
    party true true r p q = refl
    party true false r p q = cc
    party false q r p q' = cc

pub requests_at_flow : (m : Map) (h c : ℕ) → IsFlow m (requests_at h c) (ToCube c) (m.from_host h)
requests_at_flow m h c = record {
  live = λ x mine. live_at h c x (request_at_flow h c x mine);
  goal_is = λ x mine. let is = request_at_flow h c x mine in (request_goal m x is.request).0 ∙ ap ToCube is.cube;
  first_is = λ x mine. let is = request_at_flow h c x mine in (request_goal m x is.request).1 ∙ ap (λ (k : ℕ). Some (m.from_host k)) is.host;
  apart = λ x y mine more. at_same_flow h c x y (request_at_flow h c x mine) (request_at_flow h c y more);
}

-- The host's end: only what it gives enters its output queue.
no_way : (m : Map) (h c : ℕ) → IsMap m → m.is_goal (ToHost h) ≡ true → (p : QueueId) (x : Packet) → (requests_at h c).mine x ≡ true → IsOnWay m p x → next_queue m p x ≡ Some (Output (m.from_host h)) → ⊥
no_way m h c map known (Output d) x mine own goes = cc
no_way m h c map known (Line d) x mine own goes = by (is_token x.kind) goes
  where
    by : (b : Bool) → after_line b d ≡ Some (Output (m.from_host h)) → ⊥
    by true is = cc
    by false is = cc
no_way m h c map known (Buffer d) x mine own goes =
    let b = buffer_to m d x (Output (m.from_host h)) goes in
    let n : m.next (goal_of x) b.cube ≡ Some (m.from_host h) = at_cube_output (m.next (goal_of x) b.cube) b.cube x.spot (m.from_host h) b.goes in
    let start : Cube b.cube ≡ Host h = sym (map.starts (goal_of x) b.cube (m.from_host h) n) ∙ map.host_starts h known in cc
no_way m h c map known (Vault d v) x mine own goes = cc
no_way m h c map known (UnitQueue d t) x mine own goes = cc
no_way m h c map known (Answers d l) x mine own goes =
    let request : is_request x.kind ≡ true = (request_at_flow h c x mine).request in
    let reply : is_request x.kind ≡ false = ap is_request own.reply in cc

goes_not : (m : Map) (h c : ℕ) → IsMap m → m.is_goal (ToHost h) ≡ true → (p : QueueId) (x : Packet) (mine : Bool) → (requests_at h c).mine x ≡ mine → IsOnWay m p x → [] ≡ pick (requests_at h c) (packet_if (is_at (next_queue m p x) (Output (m.from_host h))) x)
unfolding pick
goes_not m h c map known p x false is own = sym (pick_none (requests_at h c) (is_at (next_queue m p x) (Output (m.from_host h))) x is)
goes_not m h c map known p x true is own =
    ap (λ (b : Bool). pick (requests_at h c) (packet_if b x)) (sym (false_from_ne_true (is_at (next_queue m p x) (Output (m.from_host h))) (λ at. no_way m h c map known p x is own (at_is (next_queue m p x) (Output (m.from_host h)) at))))

comes_given : (m : Map) (h c d : ℕ) (x : Packet) (mine : Bool) → (requests_at h c).mine x ≡ mine → IsGiven m d x → pick (requests_at h c) (x ∷ []) ≡ pick (requests_at h c) (packet_if (d == m.from_host h) x)
unfolding pick
comes_given m h c d x false is source = pick_none (requests_at h c) true x is ∙ sym (pick_none (requests_at h c) (d == m.from_host h) x is)
comes_given m h c d x true is source =
    ap (λ (b : Bool). pick (requests_at h c) (packet_if b x)) (sym (eq-eqb d (m.from_host h) (source.direction ∙ ap m.from_host (request_at_flow h c x is).host)))

given_entered : (m : Map) (h c : ℕ) (past : List Move) → IsMap m → MayAll m past → m.is_goal (ToHost h) ≡ true → given_at h c past ≡ flow_entered m (requests_at h c) past (Output (m.from_host h))
unfolding pick
given_entered m h c past map lawful known =
    same_collected m (λ move. pick (requests_at h c) (given_packets move)) (λ move. pick (requests_at h c) (enters m move (Output (m.from_host h)))) agree past lawful
  where
    agree : (move : Move) (before : List Move) → May m before move → MayAll m before → pick (requests_at h c) (given_packets move) ≡ pick (requests_at h c) (enters m move (Output (m.from_host h)))
    agree Rests before may law = refl
    agree (Comes (Output d) x) before may law = comes_given m h c d x ((requests_at h c).mine x) refl may
    agree (Comes (Line d) x) before may law = refl
    agree (Comes (Buffer d) x) before may law = absurd may
    agree (Comes (Vault d v) x) before may law = absurd may
    agree (Comes (UnitQueue d t) x) before may law = absurd may
    agree (Comes (Answers d l) x) before may law = absurd may
    agree (Goes p n x) before may law = goes_not m h c map known p x ((requests_at h c).mine x) refl (mover_on_way m map before law p n x may.1)
    agree (Executes d t n x answer) before may law = ap (λ (b : Bool). pick (requests_at h c) (packet_if b (reply_to x answer))) (sym (answer_queue_off x.kind d t (Output (m.from_host h)) tt))

-- The cube's end.
pub cube_is : (end : End) (c : ℕ) → is_cube end c ≡ true → end ≡ Cube c
cube_is (Host k) c is = cc
cube_is (Cube k) c is = ap Cube (eqb-true k c is)

arrives : (m : Map) (h c i e d : ℕ) (x : Packet) (mine : Bool) → IsMap m → leg m (ToCube c) (Some (m.from_host h)) i ≡ Some e → m.end_of e ≡ Cube c → (requests_at h c).mine x ≡ mine → IsOnWay m (Buffer d) x
    → pick (requests_at h c) (packet_if (d == e) x) ≡ pick (requests_at h c) (packet_if (is_cube (m.end_of d) c) x)
arrives m h c i e d x false map at end is own = pick_none (requests_at h c) (d == e) x is ∙ sym (pick_none (requests_at h c) (is_cube (m.end_of d) c) x is)
arrives m h c i e d x true map at end is own =
    let flow = requests_at_flow m h c in
    let l = leg_of m (requests_at h c) (ToCube c) (m.from_host h) d flow x is (own.1 (flow.live x is)) in
    ap (λ (b : Bool). pick (requests_at h c) (packet_if b x))
    (bool_same (d == e) (is_cube (m.end_of d) c)
    (λ same. ap (λ (k : ℕ). is_cube (m.end_of k) c) (eqb-true d e same) ∙ ap (λ (n : End). is_cube n c) end ∙ eq-eqb c c refl)
    (λ here. eq-eqb d e (one_leg m (ToCube c) (m.from_host h) l.0 i d e map l.1 at (ap (hops_at m (ToCube c)) (cube_is (m.end_of d) c here ∙ sym end)))))

arrived_left : (m : Map) (h c i e : ℕ) (past : List Move) → IsMap m → MayAll m past → leg m (ToCube c) (Some (m.from_host h)) i ≡ Some e → m.end_of e ≡ Cube c → flow_left (requests_at h c) past (Buffer e) ≡ arrived_at m h c past
unfolding pick
arrived_left m h c i e past map lawful at end = same_collected m (λ move. pick (requests_at h c) (leaves move (Buffer e))) (λ move. pick (requests_at h c) (arriving_packets m c move)) agree past lawful
  where
    goes : (p : QueueId) (n : ℕ) (x : Packet) → IsOnWay m p x → pick (requests_at h c) (leaves (Goes p n x) (Buffer e)) ≡ pick (requests_at h c) (arriving_packets m c (Goes p n x))
    goes (Output d) n x own = refl
    goes (Line d) n x own = refl
    goes (Buffer d) n x own = arrives m h c i e d x ((requests_at h c).mine x) map at end refl own
    goes (Vault d v) n x own = refl
    goes (UnitQueue d t) n x own = refl
    goes (Answers d l) n x own = refl

    agree : (move : Move) (before : List Move) → May m before move → MayAll m before → pick (requests_at h c) (leaves move (Buffer e)) ≡ pick (requests_at h c) (arriving_packets m c move)
    agree Rests before may law = refl
    agree (Comes into x) before may law = refl
    agree (Goes p n x) before may law = goes p n x (mover_on_way m map before law p n x may.1)
    agree (Executes d t n x answer) before may law = refl

-- the route ends at the cube
last_end : (m : Map) (h c : ℕ) → IsMap m → m.is_goal (ToHost h) ≡ true → m.is_goal (ToCube c) ≡ true → (i d : ℕ) (end : End) → leg m (ToCube c) (Some (m.from_host h)) i ≡ Some d → leg m (ToCube c) (Some (m.from_host h)) (suc i) ≡ None → m.end_of d ≡ end
    → m.end_of d ≡ Cube c
unfolding leg
last_end m h c map host cube zero d (Host k) at last is =
    let a = map.host_ends h host in
    let same : m.from_host h ≡ d = cc in
    let both : Cube a.0 ≡ Host k = sym a.1 ∙ ap m.end_of same ∙ is in absurd (cc)
last_end m h c map host cube (suc i) d (Host k) at last is = absurd (by (leg m (ToCube c) (Some (m.from_host h)) i) at)
  where
    by : (o : Option ℕ) → after m (ToCube c) o ≡ Some d → ⊥
    by None at = cc
    by (Some e) at =
        let f = follows m (ToCube c) e d at in
        let g : ToCube c ≡ ToHost k = map.reaches (ToCube c) f.cube d k f.next is in cc
last_end m h c map host cube i d (Cube k) at last is =
    let next : m.next (ToCube c) k ≡ None = sym (ap (after m (ToCube c)) at ∙ ap (after_end m (ToCube c)) is) ∙ last in
    let g : ToCube c ≡ ToCube k = map.arrives (ToCube c) k cube (map.cubes d k is) next in
    let same : k ≡ c = cc in is ∙ ap Cube same

sink_is : (m : Map) (h c : ℕ) (past : List Move) → IsMap m → MayAll m past → m.is_goal (ToHost h) ≡ true → m.is_goal (ToCube c) ≡ true → Sinks m (requests_at h c) (ToCube c) (m.from_host h) past (arrived_at m h c past)
sink_is m h c past map lawful host cube j e at last = arrived_left m h c j e past map lawful at (last_end m h c map host cube j e (m.end_of e) at last refl)

-- what was given are those that arrived, and then those on the route
pub given_at_is : (m : Map) (past : List Move) → IsMap m → MayAll m past → (h c more : ℕ) → m.is_goal (ToHost h) ≡ true → m.is_goal (ToCube c) ≡ true → hops_at m (ToCube c) (m.end_of (m.from_host h)) ≤ more
    → given_at h c past ≡ arrived_at m h c past ++ waiting_along m (requests_at h c) past (request_route m h c more)
unfolding leg
given_at_is m past map lawful h c more host cube far =
    given_entered m h c past map lawful host
    ∙ telescope m (requests_at h c) (ToCube c) (m.from_host h) past (arrived_at m h c past) (record { map = map; flow = requests_at_flow m h c; lawful = lawful }) (sink_is m h c past map lawful host cube) more 0 (m.from_host h) refl far

-- nothing arrives between a host and a cube of which one isn't there
none_arrives : (m : Map) (h c d : ℕ) (x : Packet) (mine here : Bool) → (m.is_goal (ToHost h) ≡ true → m.is_goal (ToCube c) ≡ true → ⊥) → (requests_at h c).mine x ≡ mine → IsOnWay m (Buffer d) x → pick (requests_at h c) (packet_if here x) ≡ []
unfolding pick
none_arrives m h c d x false here strange is own = pick_none (requests_at h c) here x is
none_arrives m h c d x true here strange is own =
    let r = request_at_flow h c x is in
    let known = (own.1 (live_at h c x r)).known in
    absurd (strange (ap (λ (k : ℕ). m.is_goal (ToHost k)) (sym r.host) ∙ known.host) (ap (λ (k : ℕ). m.is_goal (ToCube k)) (sym r.cube) ∙ known.cube))

nothing_collected : {X : Type 0} (past : List Move) → collect {X = X} (λ move. []) past ≡ []
unfolding collect
nothing_collected [] = refl
nothing_collected (move ∷ past) = ap (λ l. l ++ []) (nothing_collected past)

strangers : (m : Map) (h c : ℕ) (past : List Move) → IsMap m → MayAll m past → (m.is_goal (ToHost h) ≡ true → m.is_goal (ToCube c) ≡ true → ⊥) → arrived_at m h c past ≡ []
unfolding pick
strangers m h c past map lawful strange = same_collected m (λ move. pick (requests_at h c) (arriving_packets m c move)) (λ move. []) agree past lawful ∙ nothing_collected past
  where
    goes : (p : QueueId) (n : ℕ) (x : Packet) → IsOnWay m p x → pick (requests_at h c) (arriving_packets m c (Goes p n x)) ≡ []
    goes (Output d) n x own = refl
    goes (Line d) n x own = refl
    goes (Buffer d) n x own = none_arrives m h c d x ((requests_at h c).mine x) (is_cube (m.end_of d) c) strange refl own
    goes (Vault d v) n x own = refl
    goes (UnitQueue d t) n x own = refl
    goes (Answers d l) n x own = refl

    agree : (move : Move) (before : List Move) → May m before move → MayAll m before → pick (requests_at h c) (arriving_packets m c move) ≡ []
    agree Rests before may law = refl
    agree (Comes into x) before may law = refl
    agree (Goes p n x) before may law = goes p n x (mover_on_way m map before law p n x may.1)
    agree (Executes d t n x answer) before may law = refl

pub arrived_first : (m : Map) (past : List Move) → IsMap m → MayAll m past → (h c : ℕ) → IsPrefix (arrived_at m h c past) (given_at h c past)
arrived_first m past map lawful h c = by (m.is_goal (ToHost h)) (m.is_goal (ToCube c)) refl refl
  where
    none : (m.is_goal (ToHost h) ≡ true → m.is_goal (ToCube c) ≡ true → ⊥) → IsPrefix (arrived_at m h c past) (given_at h c past)
    none strange = (given_at h c past, ap (λ l. l ++ given_at h c past) (sym (strangers m h c past map lawful strange)))

    by : (host cube : Bool) → m.is_goal (ToHost h) ≡ host → m.is_goal (ToCube c) ≡ cube → IsPrefix (arrived_at m h c past) (given_at h c past)
    by true true host cube = (_, given_at_is m past map lawful h c (hops_at m (ToCube c) (m.end_of (m.from_host h))) host cube (omega arith))
    by false cube off is = none (λ host at. let clash : false ≡ true = sym off ∙ host in cc)
    by true false is off = none (λ host at. let clash : false ≡ true = sym off ∙ at in cc)
