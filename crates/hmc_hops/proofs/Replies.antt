-- The answers of a cube to a host.
use Rattle.std.proofs.Common.{◌≡◌, ◌≤◌, ◌∙◌, ◌+◌, ◌==◌, ◌&&◌, ℕ, zero, suc, Bool, true, false, not, Option, Some, None, List, [], ◌++◌, refl, sym, ap, ap₂, eqb-true, eq-eqb, arith}
use Rattle.std.proofs.lemmas.Bool.{and_parts, and_from, not-true, false_from_ne_true}
use Rattle.hmc_codes.specs.declared.lift.Lift.{Lift}
use Rattle.hmc_hops.specs.Packets.{Packet, Kind, is_live, is_token, is_request, is_reply, reply_to}
use Rattle.hmc_hops.specs.Packets.Kind.{Asks, Posts, Replies, Returns}
use Rattle.hmc_routes.specs.Route.{Goal}
use Rattle.hmc_hops.specs.Map.{Map, IsMap, End, goal_of, leg, after, after_end, hops_at, route}
use Rattle.hmc_hops.specs.Map.End.{Host, Cube}
use Rattle.hmc_routes.specs.Route.Goal.{ToHost, ToCube}
use Rattle.hmc_hops.specs.Queues.{QueueId, is_at, next_queue, after_line, after_answers}
use Rattle.hmc_hops.specs.Queues.QueueId.{Output, Line, Buffer, Vault, UnitQueue, Answers}
use Rattle.hmc_hops.specs.Moves.{Move, packet_if, leaves, enters, same_flow, same_work, May, MayAll}
use Rattle.hmc_hops.specs.Moves.Move.{Rests, Comes, Goes, Executes}
use Rattle.hmc_hops.specs.Flows.{TaggedAnswer, pick, flow_entered, flow_left, waiting_at, waiting_along, answers_to, lifted_packets, answers_lifted, is_host, taken_packets, answers_taken}
use Rattle.hmc_hops.specs.Delivered.{IsPrefix}
use Rattle.hmc_hops.proofs.SameQueue.{bool_same, at_is, at_of}
use Rattle.hmc_hops.proofs.Legs.{Follows, follows, follow, one_leg, hops_leg}
use Rattle.hmc_hops.proofs.QueueLaws.{IsFlow, same_collected, pick_none}
use Rattle.hmc_hops.specs.OnWay.{IsOnWay}
use Rattle.hmc_hops.proofs.OnRoute.{mover_on_way, reply_goal}
use Rattle.hmc_hops.proofs.Junctions.{buffer_to, at_cube_output, answer_queue_off, leg_of}
use Rattle.hmc_hops.proofs.Telescope.{IsWalked, Sinks, telescope, sent_law, landed_law}

pub record IsAnswerOf (c h : ℕ) (x : Packet) : Type 0 where
  pub clean : x.poisoned ≡ false
  pub reply : x.kind ≡ Replies
  pub host : x.host ≡ h
  pub cube : x.cube ≡ c

pub reply_kind : (k : Kind) → is_reply k ≡ true → k ≡ Replies
reply_kind Asks is = cc
reply_kind Posts is = cc
reply_kind Replies is = refl
reply_kind Returns is = cc

pub answer_of_flow : (c h : ℕ) (x : Packet) → (answers_to c h).mine x ≡ true → IsAnswerOf c h x
answer_of_flow c h x mine =
    let one = and_parts (not x.poisoned && is_reply x.kind) ((x.host == h) && (x.cube == c)) mine in
    let kind = and_parts (not x.poisoned) (is_reply x.kind) one.0 in
    let two = and_parts (x.host == h) (x.cube == c) one.1 in
    record { clean = not-true x.poisoned kind.0; reply = reply_kind x.kind kind.1; host = eqb-true x.host h two.0; cube = eqb-true x.cube c two.1 }

pub live_answer : (c h : ℕ) (x : Packet) → IsAnswerOf c h x → is_live x ≡ true
live_answer c h x is = and_from (not x.poisoned) (is_token x.kind) (ap not is.clean) (ap is_token is.reply)

answers_same_flow : (c h : ℕ) (x y : Packet) → IsAnswerOf c h x → IsAnswerOf c h y → same_flow x y ≡ true
answers_same_flow c h x y a b =
    and_from _ _ (and_from _ _ (live_answer c h x a) (live_answer c h y b))
    (and_from _ _ (and_from _ _ (eq-eqb x.host y.host (a.host ∙ sym b.host)) (eq-eqb x.cube y.cube (a.cube ∙ sym b.cube)))
    (ap₂ (λ (k l : Kind). same_work (is_request k && is_request l) (is_reply k && is_reply l)) a.reply b.reply))

pub answers_flow : (m : Map) (c h first : ℕ) → m.next (ToHost h) c ≡ Some first → IsFlow m (answers_to c h) (ToHost h) first
answers_flow m c h first next = record {
  live = λ x mine. live_answer c h x (answer_of_flow c h x mine);
  goal_is = λ x mine. let is = answer_of_flow c h x mine in (reply_goal m x is.reply).0 ∙ ap ToHost is.host;
  first_is = λ x mine. let is = answer_of_flow c h x mine in (reply_goal m x is.reply).1 ∙ ap₂ (λ (k e : ℕ). m.next (ToHost k) e) is.host is.cube ∙ next;
  apart = λ x y mine more. answers_same_flow c h x y (answer_of_flow c h x mine) (answer_of_flow c h y more);
}

pub answers_walk : (m : Map) (c h first : ℕ) (past : List Move) → IsMap m → MayAll m past → m.next (ToHost h) c ≡ Some first → IsWalked m (answers_to c h) (ToHost h) first past
answers_walk m c h first past map lawful next = record { map = map; flow = answers_flow m c h first next; lawful = lawful }

-- The cube's end: only what is lifted there enters the output queue.
no_way_back : (m : Map) (c h first : ℕ) → IsMap m → m.next (ToHost h) c ≡ Some first → (d : ℕ) (x : Packet) → (answers_to c h).mine x ≡ true → IsOnWay m (Buffer d) x → next_queue m (Buffer d) x ≡ Some (Output first) → ⊥
unfolding leg
no_way_back m c h first map next d x mine own goes =
    let flow = answers_flow m c h first next in
    let b = buffer_to m d x (Output first) goes in
    let n : m.next (goal_of x) b.cube ≡ Some first = at_cube_output (m.next (goal_of x) b.cube) b.cube x.spot first b.goes in
    let f : Follows m (ToHost h) d first = record { cube = b.cube; ends = b.ends; next = ap (λ (g : Goal). m.next g b.cube) (sym (flow.goal_is x mine)) ∙ n } in
    let l = leg_of m (answers_to c h) (ToHost h) first d flow x mine (own.1 (flow.live x mine)) in
    let r : hops_at m (ToHost h) (m.end_of first) + suc l.0 ≡ hops_at m (ToHost h) (m.end_of first) = hops_leg m (ToHost h) first (suc l.0) first map (ap (after m (ToHost h)) l.1 ∙ follow m (ToHost h) d first f) in
    absurd (omega arith)

-- no packet of the flow comes from here
goes_not : (m : Map) (c h first : ℕ) (p : QueueId) (x : Packet) (mine : Bool) → (answers_to c h).mine x ≡ mine → (mine ≡ true → next_queue m p x ≡ Some (Output first) → ⊥) → [] ≡ pick (answers_to c h) (packet_if (is_at (next_queue m p x) (Output first)) x)
unfolding pick
goes_not m c h first p x false is none = sym (pick_none (answers_to c h) (is_at (next_queue m p x) (Output first)) x is)
goes_not m c h first p x true is none =
    ap (λ (b : Bool). pick (answers_to c h) (packet_if b x)) (sym (false_from_ne_true (is_at (next_queue m p x) (Output first)) (λ at. none refl (at_is (next_queue m p x) (Output first) at))))

lift_goes : (m : Map) (c h first d : ℕ) (l : Lift) (x : Packet) (mine : Bool) → m.next (ToHost h) c ≡ Some first → (answers_to c h).mine x ≡ mine → IsOnWay m (Answers d l) x
    → pick (answers_to c h) (packet_if (d == c) x) ≡ pick (answers_to c h) (packet_if (is_at (after_answers (m.next (ToHost x.host) d)) (Output first)) x)
lift_goes m c h first d l x false next is own = pick_none (answers_to c h) (d == c) x is ∙ sym (pick_none (answers_to c h) (is_at (after_answers (m.next (ToHost x.host) d)) (Output first)) x is)
lift_goes m c h first d l x true next is own =
    let t = answer_of_flow c h x is in
    let here : d ≡ c = sym own.cube ∙ t.cube in
    let goes : after_answers (m.next (ToHost x.host) d) ≡ Some (Output first) = ap₂ (λ (k e : ℕ). after_answers (m.next (ToHost k) e)) t.host here ∙ ap after_answers next in
    ap (λ (b : Bool). pick (answers_to c h) (packet_if b x)) (eq-eqb d c here ∙ sym (at_of (after_answers (m.next (ToHost x.host) d)) (Output first) goes))

request_not_mine : (c h : ℕ) (x : Packet) → is_request x.kind ≡ true → (answers_to c h).mine x ≡ false
request_not_mine c h x request = false_from_ne_true ((answers_to c h).mine x) (λ mine. let off : is_request x.kind ≡ false = ap is_request (answer_of_flow c h x mine).reply in cc)

line_no_output : (b : Bool) (d e : ℕ) → after_line b d ≡ Some (Output e) → ⊥
line_no_output true d e is = cc
line_no_output false d e is = cc

pub lifted_entered : (m : Map) (c h first : ℕ) (past : List Move) → IsMap m → MayAll m past → m.next (ToHost h) c ≡ Some first → answers_lifted c h past ≡ flow_entered m (answers_to c h) past (Output first)
unfolding pick
lifted_entered m c h first past map lawful next =
    same_collected m (λ move. pick (answers_to c h) (lifted_packets c move)) (λ move. pick (answers_to c h) (enters m move (Output first))) agree past lawful
  where
    goes : (p : QueueId) (n : ℕ) (x : Packet) → IsOnWay m p x → pick (answers_to c h) (lifted_packets c (Goes p n x)) ≡ pick (answers_to c h) (packet_if (is_at (next_queue m p x) (Output first)) x)
    goes (Output d) n x own = refl
    goes (Line d) n x own = goes_not m c h first (Line d) x ((answers_to c h).mine x) refl (λ mine is. line_no_output (is_token x.kind) d first is)
    goes (Buffer d) n x own = goes_not m c h first (Buffer d) x ((answers_to c h).mine x) refl (λ mine is. no_way_back m c h first map next d x mine own is)
    goes (Vault d v) n x own = refl
    goes (UnitQueue d t) n x own = refl
    goes (Answers d l) n x own = lift_goes m c h first d l x ((answers_to c h).mine x) next refl own

    agree : (move : Move) (before : List Move) → May m before move → MayAll m before → pick (answers_to c h) (lifted_packets c move) ≡ pick (answers_to c h) (enters m move (Output first))
    agree Rests before may law = refl
    agree (Comes (Output d) x) before may law = sym (pick_none (answers_to c h) (d == first) x (request_not_mine c h x may.request))
    agree (Comes (Line d) x) before may law = refl
    agree (Comes (Buffer d) x) before may law = absurd may
    agree (Comes (Vault d v) x) before may law = absurd may
    agree (Comes (UnitQueue d t) x) before may law = absurd may
    agree (Comes (Answers d l) x) before may law = absurd may
    agree (Goes p n x) before may law = goes p n x (mover_on_way m map before law p n x may.1)
    agree (Executes d t n x answer) before may law = ap (λ (b : Bool). pick (answers_to c h) (packet_if b (reply_to x answer))) (sym (answer_queue_off x.kind d t (Output first) tt))

-- The host's end.
pub host_is : (end : End) (h : ℕ) → is_host end h ≡ true → end ≡ Host h
host_is (Host k) h is = ap Host (eqb-true k h is)
host_is (Cube c) h is = cc

takes_taken : (m : Map) (c h first i e d : ℕ) (x : Packet) (mine : Bool) → IsMap m → m.next (ToHost h) c ≡ Some first → leg m (ToHost h) (Some first) i ≡ Some e → m.end_of e ≡ Host h → (answers_to c h).mine x ≡ mine → IsOnWay m (Buffer d) x
    → pick (answers_to c h) (packet_if (d == e) x) ≡ pick (answers_to c h) (packet_if (is_host (m.end_of d) h) x)
takes_taken m c h first i e d x false map next at end is own = pick_none (answers_to c h) (d == e) x is ∙ sym (pick_none (answers_to c h) (is_host (m.end_of d) h) x is)
takes_taken m c h first i e d x true map next at end is own =
    let flow = answers_flow m c h first next in
    let l = leg_of m (answers_to c h) (ToHost h) first d flow x is (own.1 (flow.live x is)) in
    ap (λ (b : Bool). pick (answers_to c h) (packet_if b x))
    (bool_same (d == e) (is_host (m.end_of d) h)
    (λ same. ap (λ (k : ℕ). is_host (m.end_of k) h) (eqb-true d e same) ∙ ap (λ (n : End). is_host n h) end ∙ eq-eqb h h refl)
    (λ here. eq-eqb d e (one_leg m (ToHost h) first l.0 i d e map l.1 at (ap (hops_at m (ToHost h)) (host_is (m.end_of d) h here ∙ sym end)))))

taken_left : (m : Map) (c h first i e : ℕ) (past : List Move) → IsMap m → MayAll m past → m.next (ToHost h) c ≡ Some first → leg m (ToHost h) (Some first) i ≡ Some e → m.end_of e ≡ Host h → flow_left (answers_to c h) past (Buffer e) ≡ answers_taken m c h past
unfolding pick
taken_left m c h first i e past map lawful next at end = same_collected m (λ move. pick (answers_to c h) (leaves move (Buffer e))) (λ move. pick (answers_to c h) (taken_packets m h move)) agree past lawful
  where
    goes : (p : QueueId) (n : ℕ) (x : Packet) → IsOnWay m p x → pick (answers_to c h) (leaves (Goes p n x) (Buffer e)) ≡ pick (answers_to c h) (taken_packets m h (Goes p n x))
    goes (Output d) n x own = refl
    goes (Line d) n x own = refl
    goes (Buffer d) n x own = takes_taken m c h first i e d x ((answers_to c h).mine x) map next at end refl own
    goes (Vault d v) n x own = refl
    goes (UnitQueue d t) n x own = refl
    goes (Answers d l) n x own = refl

    agree : (move : Move) (before : List Move) → May m before move → MayAll m before → pick (answers_to c h) (leaves move (Buffer e)) ≡ pick (answers_to c h) (taken_packets m h move)
    agree Rests before may law = refl
    agree (Comes into x) before may law = refl
    agree (Goes p n x) before may law = goes p n x (mover_on_way m map before law p n x may.1)
    agree (Executes d t n x answer) before may law = refl

-- the route ends at the host
last_host : (m : Map) (c h first : ℕ) → IsMap m → m.is_goal (ToHost h) ≡ true → m.next (ToHost h) c ≡ Some first → (i d : ℕ) (end : End) → leg m (ToHost h) (Some first) i ≡ Some d → leg m (ToHost h) (Some first) (suc i) ≡ None → m.end_of d ≡ end
    → m.end_of d ≡ Host h
unfolding leg
last_host m c h first map host next i d (Cube k) at last is =
    let none : m.next (ToHost h) k ≡ None = sym (ap (after m (ToHost h)) at ∙ ap (after_end m (ToHost h)) is) ∙ last in
    let g : ToHost h ≡ ToCube k = map.arrives (ToHost h) k host (map.cubes d k is) none in cc
last_host m c h first map host next zero d (Host k) at last is =
    let g : ToHost h ≡ ToHost k = map.reaches (ToHost h) c d k (next ∙ at) is in
    let same : k ≡ h = cc in is ∙ ap Host same
last_host m c h first map host next (suc i) d (Host k) at last is = by (leg m (ToHost h) (Some first) i) at
  where
    by : (o : Option ℕ) → after m (ToHost h) o ≡ Some d → m.end_of d ≡ Host h
    by None at = cc
    by (Some e) at =
        let f = follows m (ToHost h) e d at in
        let g : ToHost h ≡ ToHost k = map.reaches (ToHost h) f.cube d k f.next is in
        let same : k ≡ h = cc in is ∙ ap Host same

sink_is : (m : Map) (c h first : ℕ) (past : List Move) → IsMap m → MayAll m past → m.is_goal (ToHost h) ≡ true → m.next (ToHost h) c ≡ Some first → Sinks m (answers_to c h) (ToHost h) first past (answers_taken m c h past)
sink_is m c h first past map lawful host next j e at last = taken_left m c h first j e past map lawful next at (last_host m c h first map host next j e (m.end_of e) at last refl)

pub answers_lifted_is : (m : Map) (past : List Move) → IsMap m → MayAll m past → (c h more d : ℕ) → m.is_goal (ToHost h) ≡ true → m.next (ToHost h) c ≡ Some d → hops_at m (ToHost h) (m.end_of d) ≤ more
    → answers_lifted c h past ≡ answers_taken m c h past ++ waiting_along m (answers_to c h) past (route m (ToHost h) more (Some d))
unfolding leg
answers_lifted_is m past map lawful c h more d host next far =
    lifted_entered m c h d past map lawful next
    ∙ telescope m (answers_to c h) (ToHost h) d past (answers_taken m c h past) (answers_walk m c h d past map lawful next) (sink_is m c h d past map lawful host next) more 0 d refl far

-- the prefix chain
pub first_back : (m : Map) (past : List Move) → IsMap m → MayAll m past → (c h d : ℕ) → m.is_goal (ToHost h) ≡ true → m.next (ToHost h) c ≡ Some d → IsPrefix (flow_left (answers_to c h) past (Line d)) (answers_lifted c h past)
first_back m past map lawful c h d host next = (_, lifted_entered m c h d past map lawful next ∙ sent_law m (answers_to c h) (ToHost h) d past (answers_walk m c h d past map lawful next) d)

pub last_back : (m : Map) (past : List Move) → IsMap m → MayAll m past → (c h i f d : ℕ) → m.is_goal (ToHost h) ≡ true → m.next (ToHost h) c ≡ Some f
    → leg m (ToHost h) (Some f) i ≡ Some d → leg m (ToHost h) (Some f) (suc i) ≡ None → IsPrefix (answers_taken m c h past) (flow_left (answers_to c h) past (Line d))
last_back m past map lawful c h i f d host next at last = (
  waiting_at m (answers_to c h) past (Buffer d),
  landed_law m (answers_to c h) (ToHost h) f past (answers_walk m c h f past map lawful next) d
      ∙ ap (λ (l : List TaggedAnswer). l ++ waiting_at m (answers_to c h) past (Buffer d)) (sink_is m c h f past map lawful host next i d at last),
)
