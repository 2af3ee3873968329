-- What is begun in a direction, and what is accepted in it, only grows.
use Rattle.std.proofs.Common.{◌≡◌, ◌∙◌, ◌≤◌, ◌%◌, ℕ, List, [], ◌∷◌, ◌++◌, length, sym, ap, arith, append-nil}
use Rattle.hmc_codes.specs.Link.{LinkFields}
use Rattle.hmc_codes.specs.Profile.{modulus_of}
use Rattle.hmc_codes.specs.declared.profile.Profile.{Profile}
use Rattle.hmc_send.specs.declared.toward.Toward.{Toward}
use Rattle.hmc_send.specs.declared.toward.Toward.TheVariants.{Forth, Back}
use Rattle.hmc_send.specs.LinkEntries.{LinkEntry, LinkEntry as entry}
use Rattle.hmc_numbers.specs.Direction.{Direction}
use Rattle.hmc_numbers.specs.Pair.{Half, Pair, Move as moves, Turn as turns, turned, pair_after, own_after, other_after}
use Rattle.hmc_numbers.specs.Pointers.{pointer}
use Rattle.hmc_numbers.specs.Turns.{MayMove, MayTurn, MayTurns}
use Rattle.hmc_numbers.specs.Weights.{Weight}
use Rattle.hmc_numbers.proofs.Effect.{effect, new_weights}
use Rattle.hmc_numbers.proofs.Sums.{upto-append}
use Rattle.hmc_wire.specs.EntryTurns.{turns_of}
use Rattle.hmc_wire.specs.FieldsAre.{half_on, half_after}
use Rattle.hmc_wire.specs.LinkLaws.{IsKept}
use Rattle.hmc_wire.proofs.EntryTurns.{turns-may}

pub record Grows (w v : Direction) : Type 0 where
  pub new : List Weight
  pub first : v.first ≡ w.first ++ new
  pub accepted : w.accepted ≤ v.accepted

stays : (w : Direction) → Grows w w
stays w = record { new = []; first = sym (append-nil w.first); accepted = omega arith }

own-grows : (r adv : ℕ) (own other : Half) (n : ℕ) (m : moves) → MayMove r adv own other m →
    Grows own.direction (own_after own n m).direction
own-grows r adv own other n (moves.does e) may =
    let x = effect r adv own other e may in
    record { new = new_weights e; first = x.first; accepted = x.accepted }
own-grows r adv own other n (moves.counts e) may =
    let x = effect r adv own other e may.0 in
    record { new = new_weights e; first = x.first; accepted = x.accepted }
own-grows r adv own other n (moves.moves k) may = stays own.direction

other-grows : (own other : Half) (m : moves) →
    Grows other.direction (other_after own other m).direction
other-grows own other (moves.does e) = stays other.direction
other-grows own other (moves.counts e) =
    record { new = []; first = sym (append-nil other.direction.first); accepted = omega arith }
other-grows own other (moves.moves k) = stays other.direction

turn-grows : (r adv : ℕ) (p : Pair) (t : turns) (d : Toward) → MayTurn r adv p t →
    Grows (half_on d p).direction (half_on d (turned p t)).direction
turn-grows r adv p (turns.forth m) Forth may =
    own-grows r adv p.forth p.back p.back.direction.accepted m may
turn-grows r adv p (turns.forth m) Back may = other-grows p.forth p.back m
turn-grows r adv p (turns.back m) Forth may = other-grows p.back p.forth m
turn-grows r adv p (turns.back m) Back may =
    own-grows r adv p.back p.forth p.forth.direction.accepted m may

-- one entry more
entry-grows : (link : LinkFields) (x : LinkEntry) (past : List LinkEntry) (d : Toward) →
    MayTurns link.retry link.tokens (turns_of link (x ∷ past)) →
    Grows (half_after link d past).direction (half_after link d (x ∷ past)).direction
unfolding turns_of
entry-grows link (entry.handed v packet) past d may = stays (half_after link d past).direction
entry-grows link (entry.taken v) past d may =
    turn-grows link.retry link.tokens (pair_after (turns_of link past)) _ d may.0
entry-grows link (entry.sent v feed w flit) past d may =
    turn-grows link.retry link.tokens (pair_after (turns_of link past)) _ d may.0
entry-grows link (entry.landed v mask flit o) past d may =
    turn-grows link.retry link.tokens (pair_after (turns_of link past)) _ d may.0
entry-grows link (entry.unlocked v) past d may =
    turn-grows link.retry link.tokens (pair_after (turns_of link past)) _ d may.0
entry-grows link (entry.through v head flits) past d may =
    turn-grows link.retry link.tokens (pair_after (turns_of link past)) _ d may.0

pub half-grows : (link : LinkFields) (e : LinkEntry) (past : List LinkEntry) (d : Toward) →
    IsKept link (e ∷ past) →
    Grows (half_after link d past).direction (half_after link d (e ∷ past)).direction
half-grows link e past d kept = entry-grows link e past d (turns-may link (e ∷ past) kept)

-- the pointer of a packet that was begun stays
pub pointer-grows : (q : Profile) (w v : Direction) (n : ℕ) → Grows w v → n ≤ length w.first →
    pointer q w.first n ≡ pointer q v.first n
pointer-grows q w v n g le =
    ap (λ (k : ℕ). k % modulus_of q) (sym (upto-append (λ p. p.flits) w.first g.new n le))
    ∙ ap (λ (l : List Weight). pointer q l n) (sym g.first)
