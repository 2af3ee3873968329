-- Every packet is on its way: in each queue there are only packets that have to pass it.
use Rattle.std.proofs.Common.{◌≡◌, ◌∙◌, ℕ, zero, suc, Bool, true, false, not, Option, Some, None, List, [], ◌∷◌, ◌++◌, All, refl, sym, ap, subst}
use Rattle.std.proofs.lemmas.List.Elements.{All-nil, All-cons}
use Rattle.std.proofs.lemmas.Bool.{and_from}
use Rattle.hmc_codes.specs.declared.answer.Answer.{Answer}
use Rattle.hmc_hops.specs.Packets.{Packet, Spot, Kind, is_live, is_token, is_request, reply_to}
use Rattle.hmc_hops.specs.Packets.Spot.{Bank, Registers}
use Rattle.hmc_hops.specs.Packets.Kind.{Asks, Posts, Replies, Returns}
use Rattle.hmc_hops.specs.Map.{Map, IsMap, End, goal_of, goal_by, first_of, first_by, leg, after}
use Rattle.hmc_hops.specs.Map.End.{Host, Cube}
use Rattle.hmc_routes.specs.Route.Goal.{ToHost, ToCube}
use Rattle.hmc_hops.specs.Queues.{QueueId, same_queue, is_at, next_queue, first_queue, after_line, at_cube, after_buffer, unless_poisoned, after_answers, lift_of}
use Rattle.hmc_hops.specs.Queues.QueueId.{Output, Line, Buffer, Vault, UnitQueue, Answers}
use Rattle.hmc_hops.specs.Moves.{Move, packet_if, enters, answer_queue, without, without_if, remaining, contents, IsPlaced, IsGiven, IsSource, May, MayAll}
use Rattle.hmc_hops.specs.Moves.Move.{Rests, Comes, Goes, Executes}
use Rattle.hmc_hops.specs.OnWay.{IsKnown, IsOnRoute, IsInCube, IsFromCube, IsOnWay}
use Rattle.hmc_hops.proofs.SameQueue.{live_parts, queue_is}
use Rattle.hmc_hops.proofs.Legs.{Follows, follow}

-- all packets of a list
abbrev pub Each : (Packet → Type 0) → List Packet → Type 0
Each P [] = Unit {0}
Each P (x ∷ xs) = P x × Each P xs

each-append : (P : Packet → Type 0) (xs ys : List Packet) → Each P xs → Each P ys → Each P (xs ++ ys)
each-append P [] ys all more = more
each-append P (x ∷ xs) ys all more = (all.0, each-append P xs ys all.1 more)

each-without : (P : Packet → Type 0) (n : ℕ) (xs : List Packet) → Each P xs → Each P (without n xs)
unfolding without
each-without P n [] all = tt
each-without P zero (x ∷ xs) all = all.1
each-without P (suc n) (x ∷ xs) all = (all.0, each-without P n xs all.1)

each-without_if : (P : Packet → Type 0) (here : Bool) (n : ℕ) (xs : List Packet) → Each P xs → Each P (without_if here n xs)
each-without_if P true n xs all = each-without P n xs all
each-without_if P false n xs all = all

each_remaining : (P : Packet → Type 0) (move : Move) (queue : QueueId) (xs : List Packet) → Each P xs → Each P (remaining move queue xs)
each_remaining P Rests queue xs all = all
each_remaining P (Comes into x) queue xs all = all
each_remaining P (Goes from n x) queue xs all = each-without_if P (same_queue from queue) n xs all
each_remaining P (Executes c s n x answer) queue xs all = each-without_if P (same_queue (UnitQueue c s) queue) n xs all

pub each_placed : (P : Packet → Type 0) (n : ℕ) (x : Packet) (xs : List Packet) → IsPlaced n x xs → Each P xs → P x
each_placed P n x [] at all = absurd at
each_placed P zero x (y ∷ ys) at all = subst P at all.0
each_placed P (suc n) x (y ∷ ys) at all = each_placed P n x ys at.1 all.1

each_if : (P : QueueId → Packet → Type 0) (there : QueueId) (queue : QueueId) (x : Packet) (here : Bool) → same_queue there queue ≡ here → P there x → Each (P queue) (packet_if here x)
each_if P there queue x true is own = (subst (λ (r : QueueId). P r x) (queue_is there queue is) own, tt)
each_if P there queue x false is own = tt

each_at : (P : QueueId → Packet → Type 0) (o : Option QueueId) (queue : QueueId) (x : Packet) → ((there : QueueId) → o ≡ Some there → P there x) → Each (P queue) (packet_if (is_at o queue) x)
each_at P None queue x own = tt
each_at P (Some there) queue x own = each_if P there queue x (same_queue there queue) refl (own there refl)

-- a request has the cube as its goal, an answer the host
pub request_goal : (m : Map) (x : Packet) → is_request x.kind ≡ true → (goal_of x ≡ ToCube x.cube) × (first_of m x ≡ Some (m.from_host x.host))
request_goal m x is = by x.kind refl is
  where
    by : (k : Kind) → x.kind ≡ k → is_request k ≡ true → (goal_of x ≡ ToCube x.cube) × (first_of m x ≡ Some (m.from_host x.host))
    by Asks k is = (ap (λ (y : Kind). goal_by y x.host x.cube) k, ap (λ (y : Kind). first_by m y x.host x.cube) k)
    by Posts k is = (ap (λ (y : Kind). goal_by y x.host x.cube) k, ap (λ (y : Kind). first_by m y x.host x.cube) k)
    by Replies k is = cc
    by Returns k is = cc

pub reply_goal : (m : Map) (x : Packet) → x.kind ≡ Replies → (goal_of x ≡ ToHost x.host) × (first_of m x ≡ m.next (ToHost x.host) x.cube)
reply_goal m x k = (ap (λ (y : Kind). goal_by y x.host x.cube) k, ap (λ (y : Kind). first_by m y x.host x.cube) k)

-- a live packet is a request or an answer
pub reply_if_live : (k : Kind) → is_token k ≡ true → (is_request k ≡ false) → k ≡ Replies
reply_if_live Asks live off = cc
reply_if_live Posts live off = cc
reply_if_live Replies live off = refl
reply_if_live Returns live off = cc

-- a packet goes on: from an output queue, and from a line
travels_on : (m : Map) (d e : ℕ) (x : Packet) → Follows m (goal_of x) d e → IsOnRoute m d x → IsOnRoute m e x
unfolding leg
travels_on m d e x f t = record { known = t.known; index = suc t.index; is = ap (after m (goal_of x)) t.is ∙ follow m (goal_of x) d e f }

-- from a buffer at a cube: onwards, or into the cube, which is the goal
in_entry : (m : Map) (c : ℕ) (x : Packet) (s : Spot) → x.spot ≡ s → IsInCube m c x → IsOnWay m (first_queue c s) x
in_entry m c x (Bank v b) is own = (own, (b, is))
in_entry m c x Registers is own = (own, is)

at_goal : (m : Map) (c : ℕ) (x : Packet) (request : Bool) → is_request x.kind ≡ request → is_live x ≡ true → IsKnown m x → m.is_cube c ≡ true → goal_of x ≡ ToCube c → IsInCube m c x
at_goal m c x true is live known real goal =
    let g : ToCube x.cube ≡ ToCube c = sym (request_goal m x is).0 ∙ goal in
    record { known = known; request = is; clean = (live_parts x live).0; cube = cc; is_cube = real }
at_goal m c x false is live known real goal =
    let g : ToHost x.host ≡ ToCube c = sym (reply_goal m x (reply_if_live x.kind (live_parts x live).1 is)).0 ∙ goal in cc

knows_goal : (m : Map) (x : Packet) (request : Bool) → is_request x.kind ≡ request → is_live x ≡ true → IsKnown m x → m.is_goal (goal_of x) ≡ true
knows_goal m x true is live known = ap m.is_goal (request_goal m x is).0 ∙ known.cube
knows_goal m x false is live known = ap m.is_goal (reply_goal m x (reply_if_live x.kind (live_parts x live).1 is)).0 ∙ known.host

shift_on_way : (m : Map) (map : IsMap m) (d c : ℕ) (x : Packet) (queue : QueueId) (o : Option ℕ) → m.next (goal_of x) c ≡ o → m.end_of d ≡ Cube c → is_live x ≡ true → IsOnRoute m d x → at_cube o (first_queue c x.spot) ≡ Some queue → IsOnWay m queue x
shift_on_way m map d c x queue (Some e) next ends live t goes =
    subst (λ (r : QueueId). IsOnWay m r x) (out_is queue goes) (λ _. travels_on m d e x (record { cube = c; ends = ends; next = next }) t)
  where
    out_is : (r : QueueId) → Some (Output e) ≡ Some r → Output e ≡ r
    out_is r is = cc
shift_on_way m map d c x queue None next ends live t goes =
    subst (λ (r : QueueId). IsOnWay m r x) (in_is queue goes)
    (in_entry m c x x.spot refl (at_goal m c x (is_request x.kind) refl live t.known (map.cubes d c ends) (map.arrives (goal_of x) c (knows_goal m x (is_request x.kind) refl live t.known) (map.cubes d c ends) next)))
  where
    in_is : (r : QueueId) → Some (first_queue c x.spot) ≡ Some r → first_queue c x.spot ≡ r
    in_is r is = cc

buffer_on_way : (m : Map) (map : IsMap m) (d : ℕ) (x : Packet) (queue : QueueId) (poisoned : Bool) (end : End) → x.poisoned ≡ poisoned → m.end_of d ≡ end → (is_live x ≡ true → IsOnRoute m d x) → is_token x.kind ≡ true
    → unless_poisoned poisoned (after_buffer m end x) ≡ Some queue → IsOnWay m queue x
buffer_on_way m map d x queue true end p ends t carried goes = cc
buffer_on_way m map d x queue false (Host h) p ends t carried goes = cc
buffer_on_way m map d x queue false (Cube c) p ends t carried goes =
    let live : is_live x ≡ true = and_from (not x.poisoned) (is_token x.kind) (ap not p) carried in
    shift_on_way m map d c x queue (m.next (goal_of x) c) refl ends live (t live) goes

line_on_way : (m : Map) (d : ℕ) (x : Packet) (queue : QueueId) (carried : Bool) → is_token x.kind ≡ carried → (is_live x ≡ true → IsOnRoute m d x) → after_line carried d ≡ Some queue → IsOnWay m queue x
line_on_way m d x queue true is t goes = subst (λ (r : QueueId). IsOnWay m r x) (in_is queue goes) (is, t)
  where
    in_is : (r : QueueId) → Some (Buffer d) ≡ Some r → Buffer d ≡ r
    in_is r same = cc
line_on_way m d x queue false is t goes = cc

lift_on_way : (m : Map) (c : ℕ) (x : Packet) (queue : QueueId) (o : Option ℕ) → m.next (ToHost x.host) c ≡ o → IsFromCube m c x → after_answers o ≡ Some queue → IsOnWay m queue x
unfolding leg
lift_on_way m c x queue (Some d) next own goes =
    let at : m.next (ToHost x.host) x.cube ≡ Some d = ap (m.next (ToHost x.host)) own.cube ∙ next in
    subst (λ (r : QueueId). IsOnWay m r x) (in_is queue goes) (λ _. record { known = own.known; index = 0; is = (reply_goal m x own.reply).1 ∙ at })
  where
    in_is : (r : QueueId) → Some (Output d) ≡ Some r → Output d ≡ r
    in_is r same = cc
lift_on_way m c x queue None next own goes = cc

-- where a packet goes it is on its way
pub goes_on_way : (m : Map) (map : IsMap m) (from queue : QueueId) (x : Packet) → IsOnWay m from x → next_queue m from x ≡ Some queue → IsOnWay m queue x
goes_on_way m map (Output d) queue x own goes = subst (λ (r : QueueId). IsOnWay m r x) (in_is queue goes) own
  where
    in_is : (r : QueueId) → Some (Line d) ≡ Some r → Line d ≡ r
    in_is r same = cc
goes_on_way m map (Line d) queue x own goes = line_on_way m d x queue (is_token x.kind) refl own goes
goes_on_way m map (Buffer d) queue x own goes = buffer_on_way m map d x queue x.poisoned (m.end_of d) refl refl own.1 own.0 goes
goes_on_way m map (Vault c v) queue x own goes = subst (λ (r : QueueId). IsOnWay m r x) (in_is queue goes) (own.0, refl)
  where
    in_is : (r : QueueId) → Some (UnitQueue c x.spot) ≡ Some r → UnitQueue c x.spot ≡ r
    in_is r same = cc
goes_on_way m map (UnitQueue c s) queue x own goes = cc
goes_on_way m map (Answers c l) queue x own goes = lift_on_way m c x queue (m.next (ToHost x.host) c) refl own goes

answer_on_way : (m : Map) (c : ℕ) (s : Spot) (x : Packet) (answer : Answer) (k : Kind) (queue : QueueId) → IsInCube m c x → answer_queue k c s ≡ Some queue → IsOnWay m queue (reply_to x answer)
answer_on_way m c s x answer Asks queue own goes = subst (λ (r : QueueId). IsOnWay m r (reply_to x answer)) (in_is queue goes) (record { known = record { host = own.known.host; cube = own.known.cube }; reply = refl; clean = refl; cube = own.cube; is_cube = own.is_cube })
  where
    in_is : (r : QueueId) → Some (Answers c (lift_of s)) ≡ Some r → Answers c (lift_of s) ≡ r
    in_is r same = cc
answer_on_way m c s x answer Posts queue own goes = cc
answer_on_way m c s x answer Replies queue own goes = cc
answer_on_way m c s x answer Returns queue own goes = cc

given_on_way : (m : Map) (d : ℕ) (x : Packet) → IsGiven m d x → IsOnRoute m d x
unfolding leg
given_on_way m d x g = record { known = record { host = g.host; cube = g.cube }; index = 0; is = (request_goal m x g.request).1 ∙ ap Some (sym g.direction) }

not_live : (m : Map) (d : ℕ) (x : Packet) → is_live x ≡ false → is_live x ≡ true → IsOnRoute m d x
not_live m d x off on = cc

source_on_way : (m : Map) (into : QueueId) (x : Packet) → IsSource m into x → IsOnWay m into x
source_on_way m (Output d) x source = λ _. given_on_way m d x source
source_on_way m (Line d) x source = not_live m d x source
source_on_way m (Buffer d) x source = absurd source
source_on_way m (Vault c v) x source = absurd source
source_on_way m (UnitQueue c s) x source = absurd source
source_on_way m (Answers c l) x source = absurd source

entering_on_way : (m : Map) (map : IsMap m) (move : Move) (past : List Move) → May m past move → ((queue : QueueId) → Each (IsOnWay m queue) (contents m past queue)) → (queue : QueueId) → Each (IsOnWay m queue) (enters m move queue)
entering_on_way m map Rests past may all queue = tt
entering_on_way m map (Comes into x) past may all queue = each_if (IsOnWay m) into queue x (same_queue into queue) refl (source_on_way m into x may)
entering_on_way m map (Goes from n x) past may all queue =
    each_at (IsOnWay m) (next_queue m from x) queue x (λ there goes. goes_on_way m map from there x (each_placed (IsOnWay m from) n x (contents m past from) may.1 (all from)) goes)
entering_on_way m map (Executes c s n x answer) past may all queue =
    each_at (IsOnWay m) (answer_queue x.kind c s) queue (reply_to x answer)
    (λ there goes. answer_on_way m c s x answer x.kind there (each_placed (IsOnWay m (UnitQueue c s)) n x (contents m past (UnitQueue c s)) may (all (UnitQueue c s))).0 goes)

pub all_on_way : (m : Map) → IsMap m → (past : List Move) → MayAll m past → (queue : QueueId) → Each (IsOnWay m queue) (contents m past queue)
unfolding contents MayAll
all_on_way m map [] lawful queue = tt
all_on_way m map (move ∷ past) lawful queue =
    each-append (IsOnWay m queue) (remaining move queue (contents m past queue)) (enters m move queue)
    (each_remaining (IsOnWay m queue) move queue (contents m past queue) (all_on_way m map past lawful.1 queue))
    (entering_on_way m map move past lawful.0 (all_on_way m map past lawful.1) queue)

-- a packet that goes was on its way
pub mover_on_way : (m : Map) → IsMap m → (past : List Move) → MayAll m past → (from : QueueId) (n : ℕ) (x : Packet) → IsPlaced n x (contents m past from) → IsOnWay m from x
mover_on_way m map past lawful from n x at = each_placed (IsOnWay m from) n x (contents m past from) at (all_on_way m map past lawful from)

-- the same of all elements, as contracts say it
pub all_of_each : (P : Packet → Type 0) (xs : List Packet) → Each P xs → All P xs
all_of_each P [] each = All-nil P
all_of_each P (x ∷ xs) each = All-cons P x xs each.0 (all_of_each P xs each.1)

pub on_way : (m : Map) (past : List Move) (queue : QueueId) → IsMap m → MayAll m past → All (IsOnWay m queue) (contents m past queue)
on_way m past queue map lawful = all_of_each (IsOnWay m queue) (contents m past queue) (all_on_way m map past lawful queue)
