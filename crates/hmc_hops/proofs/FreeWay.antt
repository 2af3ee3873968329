-- From a cut-through until a packet leaves the line, no packet of its flow enters the buffer or the output queue.
use Rattle.std.proofs.Common.{◌≡◌, ◌∙◌, ◌==◌, ◌&&◌, ℕ, zero, suc, Bool, true, false, not, Option, Some, None, List, [], ◌∷◌, ◌++◌, refl, sym, ap, ap₂, subst, eqb-true, eq-eqb}
use Rattle.std.proofs.lemmas.Bool.{and_parts, and_from, false_from_ne_true}
use Rattle.hmc_hops.specs.Packets.{Packet, Kind, is_live, is_request, is_reply, reply_to}
use Rattle.hmc_hops.specs.Packets.Kind.{Asks, Posts, Replies, Returns}
use Rattle.hmc_routes.specs.Route.{Goal}
use Rattle.hmc_hops.specs.Map.{Map, IsMap, goal_of, first_of, leg, after}
use Rattle.hmc_routes.specs.Route.Goal.{ToHost, ToCube}
use Rattle.hmc_hops.specs.Queues.{QueueId, same_queue, is_at, next_queue}
use Rattle.hmc_hops.specs.Queues.QueueId.{Output, Line, Buffer, Vault, UnitQueue, Answers}
use Rattle.hmc_hops.specs.Moves.{Move, packet_if, leaves, enters, answer_queue, without, without_if, remaining, contents, same_flow, same_work, IsPlaced, IsSource, May, MayAll}
use Rattle.hmc_hops.specs.Moves.Move.{Rests, Comes, Goes, Executes}
use Rattle.hmc_hops.specs.Flows.{Flow, requests_at, answers_to}
use Rattle.hmc_hops.specs.CutThrough.{NoneOfFlow, HasFreeWay}
use Rattle.hmc_hops.proofs.SameQueue.{queue_is, queue_same, at_is, live_parts}
use Rattle.hmc_hops.proofs.Legs.{Follows, follow, no_leg}
use Rattle.hmc_hops.proofs.QueueLaws.{IsFlow}
use Rattle.hmc_hops.specs.OnWay.{IsOnWay}
use Rattle.hmc_hops.proofs.OnRoute.{mover_on_way, reply_goal, reply_if_live}
use Rattle.hmc_hops.proofs.Junctions.{buffer_to, at_cube_output, buffer_output, buffer_back, answer_queue_off}
use Rattle.hmc_hops.proofs.Arrivals.{requests_at_flow}
use Rattle.hmc_hops.proofs.Replies.{answers_flow, reply_kind}

-- what two packets of one flow share
pub record IsSameFlow (x y : Packet) : Type 0 where
  pub live : is_live x ≡ true
  pub live_too : is_live y ≡ true
  pub host : x.host ≡ y.host
  pub cube : x.cube ≡ y.cube
  pub party : same_work (is_request x.kind && is_request y.kind) (is_reply x.kind && is_reply y.kind) ≡ true

is_same_flow : (x y : Packet) → same_flow x y ≡ true → IsSameFlow x y
is_same_flow x y is =
    let one = and_parts (is_live x && is_live y) (((x.host == y.host) && (x.cube == y.cube)) && same_work (is_request x.kind && is_request y.kind) (is_reply x.kind && is_reply y.kind)) is in
    let live = and_parts (is_live x) (is_live y) one.0 in
    let two = and_parts ((x.host == y.host) && (x.cube == y.cube)) (same_work (is_request x.kind && is_request y.kind) (is_reply x.kind && is_reply y.kind)) one.1 in
    let three = and_parts (x.host == y.host) (x.cube == y.cube) two.0 in
    record { live = live.0; live_too = live.1; host = eqb-true x.host y.host three.0; cube = eqb-true x.cube y.cube three.1; party = two.1 }

mine_request : (h c : ℕ) (x : Packet) → is_live x ≡ true → is_request x.kind ≡ true → x.host ≡ h → x.cube ≡ c → (requests_at h c).mine x ≡ true
mine_request h c x live request host cube =
    and_from (not x.poisoned && is_request x.kind) ((x.host == h) && (x.cube == c))
    (and_from (not x.poisoned) (is_request x.kind) (ap not (live_parts x live).0) request)
    (and_from (x.host == h) (x.cube == c) (eq-eqb x.host h host) (eq-eqb x.cube c cube))

mine_answer : (c h : ℕ) (x : Packet) → is_live x ≡ true → x.kind ≡ Replies → x.host ≡ h → x.cube ≡ c → (answers_to c h).mine x ≡ true
mine_answer c h x live reply host cube =
    and_from (not x.poisoned && is_reply x.kind) ((x.host == h) && (x.cube == c)) (and_from (not x.poisoned) (is_reply x.kind) (ap not (live_parts x live).0) (ap is_reply reply))
    (and_from (x.host == h) (x.cube == c) (eq-eqb x.host h host) (eq-eqb x.cube c cube))

-- the other is a request too, or an answer too
party_request : (q r : Bool) → same_work (true && q) r ≡ true → r ≡ false → q ≡ true
party_request true r is off = refl
party_request false r is off = absurd (cc)

request_no_reply : (k l : Kind) → is_request k ≡ true → (is_reply k && is_reply l) ≡ false
request_no_reply Asks l is = refl
request_no_reply Posts l is = refl
request_no_reply Replies l is = cc
request_no_reply Returns l is = cc

-- so it comes into the output queue from the same buffer alone
pub record FromThere (m : Map) (e d : ℕ) (y : Packet) : Type 0 where
  pub back : (p : QueueId) → IsOnWay m p y → next_queue m p y ≡ Some (Output d) → p ≡ Buffer e
  pub source : IsSource m (Output d) y → ⊥

pub hop_of : (m : Map) (e d : ℕ) (x : Packet) (goal : Goal) → goal_of x ≡ goal → next_queue m (Buffer e) x ≡ Some (Output d) → Follows m goal e d
hop_of m e d x goal is goes =
    let b = buffer_to m e x (Output d) goes in
    record { cube = b.cube; ends = b.ends; next = ap (λ (g : Goal). m.next g b.cube) (sym is) ∙ at_cube_output (m.next (goal_of x) b.cube) b.cube x.spot d b.goes }

from_there : {X : Type 0} (m : Map) → IsMap m → (f : Flow X) (goal : Goal) (first e d i : ℕ) (x y : Packet) → IsFlow m f goal first → f.mine x ≡ true → f.mine y ≡ true → leg m (goal_of x) (first_of m x) i ≡ Some e → next_queue m (Buffer e) x ≡ Some (Output d)
    → FromThere m e d y
unfolding leg
from_there m map f goal first e d i x y flow mine more at goes =
    let here : leg m goal (Some first) i ≡ Some e = ap₂ (λ (g : Goal) (o : Option ℕ). leg m g o i) (sym (flow.goal_is x mine)) (sym (flow.first_is x mine)) ∙ at in
    let hop = hop_of m e d x goal (flow.goal_is x mine) goes in
    let joins = buffer_output m f goal first i e d map flow here hop (ap (after m goal) here ∙ follow m goal e d hop) in
    record { back = λ p own to_d. joins.back p y more own to_d; source = λ source. joins.source y more source }

one_source : (m : Map) → IsMap m → (e d i : ℕ) (x y : Packet) (request : Bool) → is_request x.kind ≡ request → IsSameFlow x y → leg m (goal_of x) (first_of m x) i ≡ Some e → next_queue m (Buffer e) x ≡ Some (Output d) → FromThere m e d y
one_source m map e d i x y true request both at goes =
    let party = party_request (is_request y.kind) (is_reply x.kind && is_reply y.kind)
    (ap (λ (b : Bool). same_work (b && is_request y.kind) (is_reply x.kind && is_reply y.kind)) (sym request) ∙ both.party) (request_no_reply x.kind y.kind request) in
    from_there m map (requests_at x.host x.cube) (ToCube x.cube) (m.from_host x.host) e d i x y (requests_at_flow m x.host x.cube)
    (mine_request x.host x.cube x both.live request refl refl)
    (mine_request x.host x.cube y both.live_too party (sym both.host) (sym both.cube)) at goes
one_source m map e d i x y false request both at goes = by (m.next (ToHost x.host) x.cube) refl
  where
    kind : x.kind ≡ Replies
    kind = reply_if_live x.kind (live_parts x both.live).1 request

    other : y.kind ≡ Replies
    other = reply_kind y.kind (and_parts (is_reply x.kind) (is_reply y.kind) (ap (λ (b : Bool). same_work (b && is_request y.kind) (is_reply x.kind && is_reply y.kind)) (sym request) ∙ both.party)).1

    by : (o : Option ℕ) → m.next (ToHost x.host) x.cube ≡ o → FromThere m e d y
    by None next = absurd (no_leg m (goal_of x) i e (ap (λ (o : Option ℕ). leg m (goal_of x) o i) (sym ((reply_goal m x kind).1 ∙ next)) ∙ at))
    by (Some first) next =
        from_there m map (answers_to x.cube x.host) (ToHost x.host) first e d i x y (answers_flow m x.cube x.host first next)
        (mine_answer x.cube x.host x both.live kind refl refl) (mine_answer x.cube x.host y both.live_too other (sym both.host) (sym both.cube)) at goes

-- no packet of a list is of the flow
apart-append : (x : Packet) (xs ys : List Packet) → NoneOfFlow x xs → NoneOfFlow x ys → NoneOfFlow x (xs ++ ys)
apart-append x [] ys all more = more
apart-append x (y ∷ xs) ys all more = (all.0, apart-append x xs ys all.1 more)

apart-without : (x : Packet) (n : ℕ) (xs : List Packet) → NoneOfFlow x xs → NoneOfFlow x (without n xs)
unfolding without
apart-without x n [] all = tt
apart-without x zero (y ∷ xs) all = all.1
apart-without x (suc n) (y ∷ xs) all = (all.0, apart-without x n xs all.1)

apart-without_if : (x : Packet) (here : Bool) (n : ℕ) (xs : List Packet) → NoneOfFlow x xs → NoneOfFlow x (without_if here n xs)
apart-without_if x true n xs all = apart-without x n xs all
apart-without_if x false n xs all = all

apart_kept : (x : Packet) (move : Move) (queue : QueueId) (xs : List Packet) → NoneOfFlow x xs → NoneOfFlow x (remaining move queue xs)
apart_kept x Rests queue xs all = all
apart_kept x (Comes into y) queue xs all = all
apart_kept x (Goes from n y) queue xs all = apart-without_if x (same_queue from queue) n xs all
apart_kept x (Executes c s n y answer) queue xs all = apart-without_if x (same_queue (UnitQueue c s) queue) n xs all

apart_if : (x y : Packet) (here : Bool) → (here ≡ true → same_flow x y ≡ true → ⊥) → NoneOfFlow x (packet_if here y)
apart_if x y true none = (false_from_ne_true (same_flow x y) (none refl), tt)
apart_if x y false none = tt

-- nothing comes into the buffer
leaves_some : (from queue : QueueId) (n : ℕ) (y : Packet) → from ≡ queue → leaves (Goes from n y) queue ≡ [] → ⊥
leaves_some from queue n y same none =
    let is : y ∷ [] ≡ [] = sym (ap (λ (b : Bool). packet_if b y) (ap (λ (r : QueueId). same_queue r queue) same ∙ queue_same queue)) ∙ none in cc

kept_nil : (move : Move) (queue : QueueId) (xs : List Packet) → xs ≡ [] → remaining move queue xs ≡ []
unfolding without
kept_nil move queue xs none = ap (remaining move queue) none ∙ by move
  where
    by_if : (b : Bool) (n : ℕ) → without_if b n [] ≡ []
    by_if true n = refl
    by_if false n = refl

    by : (mv : Move) → remaining mv queue [] ≡ []
    by Rests = refl
    by (Comes into x) = refl
    by (Goes from n x) = by_if (same_queue from queue) n
    by (Executes c s n x answer) = by_if (same_queue (UnitQueue c s) queue) n

none_into : (m : Map) (e : ℕ) (move : Move) (past : List Move) → May m past move → leaves move (Line e) ≡ [] → enters m move (Buffer e) ≡ []
none_into m e Rests past may none = refl
none_into m e (Comes (Output d) x) past may none = refl
none_into m e (Comes (Line d) x) past may none = refl
none_into m e (Comes (Buffer d) x) past may none = absurd may
none_into m e (Comes (Vault c v) x) past may none = refl
none_into m e (Comes (UnitQueue c s) x) past may none = refl
none_into m e (Comes (Answers c l) x) past may none = refl
none_into m e (Goes p n x) past may none =
    ap (λ (b : Bool). packet_if b x) (false_from_ne_true (is_at (next_queue m p x) (Buffer e)) (λ at. leaves_some p (Line e) n x (buffer_back m e p x (at_is (next_queue m p x) (Buffer e) at)) none))
none_into m e (Executes c s n x answer) past may none = ap (λ (b : Bool). packet_if b (reply_to x answer)) (answer_queue_off x.kind c s (Buffer e) tt)

placed_nil : (n : ℕ) (x : Packet) (xs : List Packet) → xs ≡ [] → IsPlaced n x xs → ⊥
placed_nil n x xs none at = subst (IsPlaced n x) none at

-- what comes into the output queue is of no flow over e
apart_entering : (m : Map) → IsMap m → (e d i : ℕ) (x : Packet) (move : Move) (past : List Move) → MayAll m past → May m past move → contents m past (Buffer e) ≡ [] → leg m (goal_of x) (first_of m x) i ≡ Some e → next_queue m (Buffer e) x ≡ Some (Output d)
    → NoneOfFlow x (enters m move (Output d))
apart_entering m map e d i x Rests past law may empty at goes = tt
apart_entering m map e d i x (Comes into y) past law may empty at goes =
    apart_if x y (same_queue into (Output d)) (λ here both. (one_source m map e d i x y (is_request x.kind) refl (is_same_flow x y both) at goes).source (subst (λ (r : QueueId). IsSource m r y) (queue_is into (Output d) here) may))
apart_entering m map e d i x (Goes p n y) past law may empty at goes =
    apart_if x y (is_at (next_queue m p y) (Output d)) (λ here both.
    let same : p ≡ Buffer e = (one_source m map e d i x y (is_request x.kind) refl (is_same_flow x y both) at goes).back p (mover_on_way m map past law p n y may.1) (at_is (next_queue m p y) (Output d) here) in
    placed_nil n y (contents m past (Buffer e)) empty (subst (λ (r : QueueId). IsPlaced n y (contents m past r)) same may.1))
apart_entering m map e d i x (Executes c s n y answer) past law may empty at goes =
    apart_if x (reply_to y answer) (is_at (answer_queue y.kind c s) (Output d)) (λ here both. let off : is_at (answer_queue y.kind c s) (Output d) ≡ false = answer_queue_off y.kind c s (Output d) tt in let clash : true ≡ false = sym here ∙ off in cc)

pub stays : (m : Map) → IsMap m → (e d : ℕ) (move : Move) (past : List Move) → MayAll m past → May m past move → leaves move (Line e) ≡ [] → HasFreeWay m past e d → HasFreeWay m (move ∷ past) e d
unfolding contents
stays m map e d move past law may none is = record {
  empty = ap₂ (λ (xs ys : List Packet). xs ++ ys) (kept_nil move (Buffer e) (contents m past (Buffer e)) is.empty) (none_into m e move past may none);
  apart = λ x i live at goes.
      apart-append x (remaining move (Output d) (contents m past (Output d))) (enters m move (Output d)) (apart_kept x move (Output d) (contents m past (Output d)) (is.apart x i live at goes))
      (apart_entering m map e d i x move past law may is.empty at goes);
}

-- the way is free where both queues are empty
pub opens : (m : Map) (e d : ℕ) (past : List Move) → contents m past (Buffer e) ≡ [] → contents m past (Output d) ≡ [] → HasFreeWay m past e d
opens m e d past empty none = record { empty = empty; apart = λ x i live at goes. subst (NoneOfFlow x) (sym none) tt }
