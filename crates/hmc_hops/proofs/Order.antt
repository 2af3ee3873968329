-- A queue that no packet passes is a list, first in and first out.
use Rattle.std.proofs.Common.{◌≡◌, ◌∙◌, ℕ, Bool, true, false, List, [], ◌∷◌, ◌++◌, length, drop, refl, sym, ap, subst}
use Rattle.std.proofs.Math.Seq.{drop-append_seam}
use Rattle.hmc_hops.specs.Packets.{Packet}
use Rattle.hmc_hops.specs.Map.{Map}
use Rattle.hmc_hops.specs.Queues.{QueueId, same_queue}
use Rattle.hmc_hops.specs.Queues.QueueId.{UnitQueue}
use Rattle.hmc_hops.specs.Moves.{Move, packet_if, leaves, enters, without, without_if, remaining, contents, IsPlaced, May, MayAll}
use Rattle.hmc_hops.specs.Moves.Move.{Rests, Comes, Goes, Executes}
use Rattle.hmc_hops.specs.Flows.{collect}
use Rattle.hmc_hops.specs.Order.{entered, departed, IsStrict, TakesFront, InOrder, IsQueue}
use Rattle.hmc_hops.proofs.SameQueue.{queue_is}
use Rattle.hmc_hops.proofs.QueueLaws.{stretch_keeps}

front_leaves : (x : Packet) (xs : List Packet) → IsPlaced 0 x xs → xs ≡ (x ∷ []) ++ without 0 xs
unfolding without
front_leaves x [] at = absurd at
front_leaves x (y ∷ ys) at = ap (λ (z : Packet). z ∷ ys) at

front_goes : (n : ℕ) (x : Packet) (xs : List Packet) (here : Bool) → (here ≡ true → (n ≡ 0) × IsPlaced n x xs) → xs ≡ packet_if here x ++ without_if here n xs
front_goes n x xs false at = refl
front_goes n x xs true at =
    let both = at refl in
    subst (λ (k : ℕ). xs ≡ (x ∷ []) ++ without k xs) (sym both.0) (front_leaves x xs (subst (λ (k : ℕ). IsPlaced k x xs) both.0 both.1))

queue_takes : (m : Map) (move : Move) (past : List Move) (queue : QueueId) → IsStrict queue → May m past move → TakesFront move → contents m past queue ≡ leaves move queue ++ remaining move queue (contents m past queue)
queue_takes m Rests past queue strict may behind = refl
queue_takes m (Comes into x) past queue strict may behind = refl
queue_takes m (Goes from n x) past queue strict may behind =
    front_goes n x (contents m past queue) (same_queue from queue)
    (λ same. (behind (subst IsStrict (sym (queue_is from queue same)) strict), subst (λ (r : QueueId). IsPlaced n x (contents m past r)) (queue_is from queue same) may.1))
queue_takes m (Executes c s n x answer) past queue strict may behind =
    front_goes n x (contents m past queue) (same_queue (UnitQueue c s) queue) (λ same. (behind, subst (λ (r : QueueId). IsPlaced n x (contents m past r)) (queue_is (UnitQueue c s) queue same) may))

pub whole_is : (m : Map) (past : List Move) (queue : QueueId) → IsStrict queue → MayAll m past → InOrder past → entered m past queue ≡ departed past queue ++ contents m past queue
unfolding collect contents MayAll InOrder
whole_is m [] queue strict lawful line = refl
whole_is m (move ∷ past) queue strict lawful line =
    stretch_keeps (entered m past queue) (departed past queue) (contents m past queue) (leaves move queue) (remaining move queue (contents m past queue)) (enters m move queue)
    (whole_is m past queue strict lawful.1 line.1) (queue_takes m move past queue strict lawful.0 line.0)

next_is : (front waiting_along rest : List Packet) (x : Packet) → front ++ waiting_along ≡ (front ++ x ∷ []) ++ rest → IsPlaced 0 x waiting_along
next_is [] [] rest x is = cc
next_is [] (y ∷ ys) rest x is = cc
next_is (z ∷ front) waiting_along rest x is = next_is front waiting_along rest x (cc)

pub is_queue : (m : Map) (past : List Move) (queue : QueueId) → IsStrict queue → MayAll m past → InOrder past → IsQueue m past queue
is_queue m past queue strict lawful line = record {
  whole = whole_is m past queue strict lawful line;
  rest = ap (drop (length (departed past queue))) (whole_is m past queue strict lawful line) ∙ drop-append_seam (departed past queue) (contents m past queue);
  next = λ x prefix. next_is (departed past queue) (contents m past queue) prefix.0 x (sym (whole_is m past queue strict lawful line) ∙ prefix.1);
}
