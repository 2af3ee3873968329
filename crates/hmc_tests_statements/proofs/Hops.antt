-- Lists of moves that break a law of moves, over the network of `hmc_hops` proofs/Worked.antt: host 0,
-- cube 0 and cube 1 in a row.
use Rattle.std.proofs.Common.{◌≡◌, ◌≤◌, ℕ, Bool, true, false, List, [], ◌∷◌, length, refl, ap, arith}
use Rattle.hmc_codes.specs.declared.answer.Answer.TheVariants.{Stored}
use Rattle.hmc_codes.specs.declared.lift.Lift.TheVariants as lifts
use Rattle.hmc_routes.specs.Directions.{direction_among}
use Rattle.hmc_routes.specs.Neighbours.{joined_to}
use Rattle.hmc_hops.specs.Delivered.{AllServed}
use Rattle.hmc_hops.specs.Flows.{collect, pick}
use Rattle.hmc_hops.specs.Moves.{contents, without}
use Rattle.hmc_hops.specs.Moves.Move.{Comes, Goes, Executes}
use Rattle.hmc_hops.specs.Order.{IsQueue}
use Rattle.hmc_hops.specs.Packets.{Packet}
use Rattle.hmc_hops.specs.Packets.Spot.{Bank}
use Rattle.hmc_hops.specs.Queues.{QueueId, same_queue}
use Rattle.hmc_hops.specs.Queues.QueueId.{Output, Line, Buffer, Answers}
use Rattle.hmc_hops.specs.Tags.{Phase, held, errands_if, PhaseAccounts, HasPhase, IsAnswered}
use Rattle.hmc_hops.specs.Tags.Phase.{Free, Held}
use Rattle.hmc_hops.specs.Tags.Errand.{Asked}
use Rattle.hmc_hops.proofs.Worked.{two, ask, reply, write}

-- ---- what never holds

not_true : false ≡ true → ⊥
not_true is = cc

not_false : true ≡ false → ⊥
not_false is = cc

abbrev is_empty : {X : Type 0} → List X → Bool
is_empty [] = true
is_empty (x ∷ xs) = false

-- ---- a queue is a list

-- what never entered left
queue-whole : IsQueue two (Goes (Line 0) 0 ask ∷ []) (Line 0) → ⊥
unfolding collect contents without
queue-whole is = not_false (ap is_empty is.whole)

-- the second of two left
abbrev second : Packet
second = record ask { tag = 6 }

abbrev first_tag : List Packet → ℕ
first_tag [] = 0
first_tag (x ∷ xs) = x.tag

queue-rest : IsQueue two (Goes (Line 0) 1 second ∷ Goes (Output 0) 0 second ∷ Goes (Output 0) 0 ask ∷ []) (Line 0) → ⊥
unfolding collect contents without
queue-rest is = let off : ◌≡◌ {A = ℕ} 6 5 = ap first_tag is.rest in omega (arith, off)

-- ---- all is served: given and not executed, lifted and not taken

served-unexecuted : AllServed two (Comes (Output 0) ask ∷ []) → ⊥
unfolding collect pick direction_among joined_to
served-unexecuted is = not_false (ap is_empty (is.executed 0 1 (Bank 3 0) refl refl))

served-untaken : AllServed two (Goes (Answers 1 (lifts.Vault 3)) 0 reply ∷ []) → ⊥
unfolding collect pick direction_among joined_to
served-untaken is = not_false (ap is_empty (is.taken 1 0 refl refl))

-- ---- tags

-- taken and not executed, executed and not asked, asked twice
answered-unexecuted : IsAnswered two 0 5 (Goes (Buffer 1) 0 reply ∷ []) → ⊥
unfolding collect direction_among joined_to
answered-unexecuted is = not_false (ap is_empty is.answered.1)

answered-unasked : IsAnswered two 0 5 (Executes 1 (Bank 3 0) 0 ask Stored ∷ []) → ⊥
unfolding collect direction_among joined_to
answered-unasked is = not_false (ap is_empty is.executed.1)

answered-twice : IsAnswered two 0 5 (Comes (Output 0) ask ∷ Comes (Output 0) ask ∷ []) → ⊥
unfolding collect direction_among joined_to
answered-twice is = let few : 2 ≤ 1 = is.one_out in omega (arith, few)

-- a tag has at most one packet
held_one : (phase : Phase) (queue : QueueId) → length (held phase queue) ≤ 1
held_one Free queue = let none : 0 ≤ 1 = omega arith in none
held_one (Held here errand) queue = by (same_queue here queue)
  where
    by : (b : Bool) → length (errands_if b errand) ≤ 1
    by true = let one : 1 ≤ 1 = omega arith in one
    by false = let none : 0 ≤ 1 = omega arith in none

phase-twice : HasPhase two 0 5 (Comes (Output 0) ask ∷ Comes (Output 0) ask ∷ []) → ⊥
unfolding collect pick contents without direction_among joined_to
phase-twice is =
    let both : ◌≡◌ {A = ℕ} 2 (length (held is.phase (Output 0))) = ap length (is.places (Output 0)) in
    omega (arith, both, held_one is.phase (Output 0))

-- a request that is asked is executed or left, one that is replied is taken or left, and a tag that
-- has a packet is out
accounts-asked : PhaseAccounts Free (write ∷ []) [] [] [] false → ⊥
accounts-asked is = not_true (ap is_empty is.asked_is)

accounts-replied : PhaseAccounts Free [] [] (Stored ∷ []) [] false → ⊥
accounts-replied is = not_true (ap is_empty is.replied_is)

accounts-out : PhaseAccounts (Held (Output 0) (Asked write)) (write ∷ []) [] [] [] false → ⊥
accounts-out is = not_true is.out_is
