-- What of a flow entered a queue left it, or is in it.
use Rattle.std.proofs.Common.{◌≡◌, ◌∙◌, ℕ, zero, suc, Bool, true, false, Some, List, [], ◌∷◌, ◌++◌, refl, sym, ap, ap₂, subst, append-nil, append_assoc}
use Rattle.hmc_hops.specs.Packets.{Packet, is_live}
use Rattle.hmc_routes.specs.Route.{Goal}
use Rattle.hmc_hops.specs.Map.{Map, goal_of, first_of}
use Rattle.hmc_hops.specs.Queues.{QueueId, same_queue}
use Rattle.hmc_hops.specs.Queues.QueueId.{UnitQueue}
use Rattle.hmc_hops.specs.Moves.{Move, packet_if, leaves, enters, without, without_if, remaining, contents, same_flow, IsPlaced, May, MayAll}
use Rattle.hmc_hops.specs.Moves.Move.{Rests, Comes, Goes, Executes}
use Rattle.hmc_hops.specs.Flows.{Flow, item_if, pick, collect, flow_entered, flow_left, waiting_at}
use Rattle.hmc_hops.proofs.SameQueue.{queue_is}

-- what a flow is: its packets count, have one route, and none overtakes another
pub record IsFlow {X : Type 0} (m : Map) (f : Flow X) (goal : Goal) (first : ℕ) : Type 0 where
  pub live : (x : Packet) → f.mine x ≡ true → is_live x ≡ true
  pub goal_is : (x : Packet) → f.mine x ≡ true → goal_of x ≡ goal
  pub first_is : (x : Packet) → f.mine x ≡ true → first_of m x ≡ Some first
  pub apart : (x y : Packet) → f.mine x ≡ true → f.mine y ≡ true → same_flow x y ≡ true

pub pick-append : {X : Type 0} (f : Flow X) (xs ys : List Packet) → pick f (xs ++ ys) ≡ pick f xs ++ pick f ys
unfolding pick
pick-append f [] ys = refl
pick-append f (x ∷ xs) ys = ap (λ l. item_if (f.mine x) (f.value x) ++ l) (pick-append f xs ys) ∙ sym (append_assoc (item_if (f.mine x) (f.value x)) (pick f xs) (pick f ys))

-- a packet passes those of other flows
swap : {X : Type 0} (here there : Bool) (v w : X) (zs : List X) → (here ≡ true → there ≡ true → ⊥) → item_if there w ++ ((item_if here v ++ []) ++ zs) ≡ (item_if here v ++ []) ++ (item_if there w ++ zs)
swap true true v w zs off = absurd (off refl refl)
swap true false v w zs off = refl
swap false there v w zs off = refl

placed : {X : Type 0} (f : Flow X) → ((x y : Packet) → f.mine x ≡ true → f.mine y ≡ true → same_flow x y ≡ true) → (n : ℕ) (x : Packet) (xs : List Packet) → IsPlaced n x xs → pick f xs ≡ pick f (x ∷ []) ++ pick f (without n xs)
unfolding pick without
placed f apart n x [] at = absurd at
placed f apart zero x (y ∷ ys) at = ap (λ (z : Packet). item_if (f.mine z) (f.value z) ++ pick f ys) at ∙ ap (λ l. l ++ pick f ys) (sym (append-nil (item_if (f.mine x) (f.value x))))
placed f apart (suc n) x (y ∷ ys) at =
    ap (λ l. item_if (f.mine y) (f.value y) ++ l) (placed f apart n x ys at.1)
    ∙ swap (f.mine x) (f.mine y) (f.value x) (f.value y) (pick f (without n ys)) (λ a b. let t : same_flow x y ≡ true = apart x y a b in let o = at.0 in cc)

takes_if : {X : Type 0} (f : Flow X) → ((x y : Packet) → f.mine x ≡ true → f.mine y ≡ true → same_flow x y ≡ true) → (here : Bool) (n : ℕ) (x : Packet) (xs : List Packet) → (here ≡ true → IsPlaced n x xs)
    → pick f xs ≡ pick f (packet_if here x) ++ pick f (without_if here n xs)
unfolding pick
takes_if f apart true n x xs at = placed f apart n x xs (at refl)
takes_if f apart false n x xs at = refl

pub takes : {X : Type 0} (m : Map) (f : Flow X) → ((x y : Packet) → f.mine x ≡ true → f.mine y ≡ true → same_flow x y ≡ true) → (move : Move) (past : List Move) (queue : QueueId) → May m past move
    → pick f (contents m past queue) ≡ pick f (leaves move queue) ++ pick f (remaining move queue (contents m past queue))
unfolding pick
takes m f apart Rests past queue may = refl
takes m f apart (Comes into x) past queue may = refl
takes m f apart (Goes from n x) past queue may =
    takes_if f apart (same_queue from queue) n x (contents m past queue) (λ same. subst (λ (r : QueueId). IsPlaced n x (contents m past r)) (queue_is from queue same) may.1)
takes m f apart (Executes c s n x answer) past queue may =
    takes_if f apart (same_queue (UnitQueue c s) queue) n x (contents m past queue) (λ same. subst (λ (r : QueueId). IsPlaced n x (contents m past r)) (queue_is (UnitQueue c s) queue same) may)

-- The one lemma of queues: what leaves at the front and what enters at the end keep the equation "what
-- entered is what left, and then what waits".
pub stretch_keeps : {X : Type 0} (flow_entered flow_left waiting_along leaves rest enters : List X) → flow_entered ≡ flow_left ++ waiting_along → waiting_along ≡ leaves ++ rest → flow_entered ++ enters ≡ (flow_left ++ leaves) ++ (rest ++ enters)
stretch_keeps flow_entered flow_left waiting_along leaves rest enters is front =
    ap (λ l. l ++ enters) (is ∙ ap (λ l. flow_left ++ l) front ∙ sym (append_assoc flow_left leaves rest)) ∙ append_assoc (flow_left ++ leaves) rest enters

pub queue_law : {X : Type 0} (m : Map) (f : Flow X) → ((x y : Packet) → f.mine x ≡ true → f.mine y ≡ true → same_flow x y ≡ true) → (past : List Move) (queue : QueueId) → MayAll m past
    → flow_entered m f past queue ≡ flow_left f past queue ++ waiting_at m f past queue
unfolding collect pick contents MayAll
queue_law m f apart [] queue lawful = refl
queue_law m f apart (move ∷ past) queue lawful =
    stretch_keeps (flow_entered m f past queue) (flow_left f past queue) (waiting_at m f past queue) (pick f (leaves move queue)) (pick f (remaining move queue (contents m past queue))) (pick f (enters m move queue))
    (queue_law m f apart past queue lawful.1) (takes m f apart move past queue lawful.0)
    ∙ ap (λ l. (flow_left f past queue ++ pick f (leaves move queue)) ++ l) (sym (pick-append f (remaining move queue (contents m past queue)) (enters m move queue)))

-- two ways to collect that agree on each move that may come
pub same_collected : {X : Type 0} (m : Map) (one other : Move → List X) → ((move : Move) (past : List Move) → May m past move → MayAll m past → one move ≡ other move) → (past : List Move) → MayAll m past → collect one past ≡ collect other past
unfolding collect MayAll
same_collected m one other agree [] lawful = refl
same_collected m one other agree (move ∷ past) lawful = ap₂ (λ a b. a ++ b) (same_collected m one other agree past lawful.1) (agree move past lawful.0 lawful.1)

-- what isn't of the flow
pub pick_none : {X : Type 0} (f : Flow X) (here : Bool) (x : Packet) → f.mine x ≡ false → pick f (packet_if here x) ≡ []
unfolding pick
pick_none f true x off = ap (λ (b : Bool). item_if b (f.value x) ++ []) off
pick_none f false x off = refl
