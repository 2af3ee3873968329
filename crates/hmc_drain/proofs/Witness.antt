-- The bound says something: from every state that has facts there is a run of as many rounds as one
-- likes, with a cube that answers at once.
use Rattle.std.proofs.Common.{◌≡◌, ℕ, zero, suc, ◌+◌, ◌*◌, ◌≤◌, true, false, List, [], ◌∷◌, ◌++◌, length, ◌⊎◌, inl, inr, refl, ◌∙◌, ap, arith, length-append}
use Rattle.hmc_numbers.specs.Direction.{Item}
use Rattle.hmc_numbers.specs.Direction.Filler.{null, train, start, pret}
use Rattle.hmc_numbers.specs.Direction.Item.{filler, clear, part}
use Rattle.hmc_numbers.specs.Events.{Reading}
use Rattle.hmc_numbers.specs.Events.Reading.{plain, as_start, as_clear}
use Rattle.hmc_codes.specs.declared.profile.Profile.{Profile}
use Rattle.hmc_link_state.specs.EachRound.{IsFit}
use Rattle.hmc_link_state.specs.Steps.{Doing, MayAll, link_after, side_opening}
use Rattle.hmc_drain.proofs.AfterSteps.{drains_any}
use Rattle.hmc_link_state.specs.Round.{Reads, front, sent_both, landed_forth, link_round, Moves, CubeRound, StaysIdle, IsRound, Rounds}
use Rattle.hmc_link_state.specs.State.{Setup, State, flits_of, AreFairSizes, crossing, inside_cube, under_way}
use Rattle.hmc_link_state.proofs.Empty.{none}

abbrev look_of : Item → Reading
look_of (filler start) = as_start
look_of (filler f) = plain
look_of clear = as_clear
look_of (part n k more) = plain

reads_of : (i : Item) → Reads i (look_of i)
reads_of (filler start) = refl
reads_of (filler null) = refl
reads_of (filler train) = refl
reads_of (filler pret) = refl
reads_of clear = refl
reads_of (part n zero more) = refl
reads_of (part n (suc k) more) = tt

abbrev ones : ℕ → List ℕ
ones zero = []
ones (suc n) = 1 ∷ ones n

ones_length : (n : ℕ) → length (ones n) ≡ n
ones_length zero = refl
ones_length (suc n) = ap suc (ones_length n)

ones_fair : (n : ℕ) → AreFairSizes (ones n)
ones_fair zero = tt
ones_fair (suc n) = (omega arith, omega arith, ones_fair n)

-- each request in the cube is answered by a packet of one flit, each answer at the host is taken
instant : State → State
instant s =
    record {
      forth =
          record s.forth {
            half = record s.forth.half { moved = s.forth.half.moved + flits_of s.forth.buffer };
            buffer = [];
          };
      back =
          record s.back {
            half = record s.back.half { moved = s.back.half.moved + flits_of s.back.buffer };
            buffer = [];
            queue = s.back.queue ++ ones (inside_cube s);
          };
      vaults = 0;
      banks = 0;
      answers = 0;
      can_move = false;
    }

abbrev Rests : State → Type 0
Rests s =
    s.can_move ≡ false → (s.forth.buffer ≡ []) × (s.vaults + s.banks + s.answers ≡ 0)
    × (s.back.buffer ≡ [])

none_or : (n : ℕ) → (n ≡ 0) ⊎ (1 ≤ n)
none_or zero = inl refl
none_or (suc n) = inr (omega arith)

instant_moves : (s : State) → 1 ≤ inside_cube s + length s.back.buffer → Moves s (instant s)
unfolding instant
instant_moves s h =
    let l : length (s.back.queue ++ ones (inside_cube s)) ≡ length s.back.queue
    + length (ones (inside_cube s)) = length-append s.back.queue (ones (inside_cube s)) in
    let o = ones_length (inside_cube s) in
    record {
      lighter =
          less (length s.forth.queue) (crossing s.forth) (length s.forth.buffer) s.vaults s.banks
          s.answers (length s.back.queue) (length (s.back.queue ++ ones (inside_cube s)))
          (length (ones (inside_cube s))) (crossing s.back) (length s.back.buffer) l o h;
      fewer =
          few (length s.forth.queue) (crossing s.forth) (length s.forth.buffer) s.vaults s.banks
          s.answers (length s.back.queue) (length (s.back.queue ++ ones (inside_cube s)))
          (length (ones (inside_cube s))) (crossing s.back) (length s.back.buffer) l o;
      rises = (omega arith, omega arith);
      forth = refl;
      back = refl;
      shifted = omega arith;
      taken = omega arith;
      lifted = (ones (inside_cube s), ones_fair (inside_cube s), refl);
    }
  where
    less : (q x b v k a p p' n y e : ℕ) → p' ≡ p + n → n ≡ b + v + k + a → 1 ≤ b + v + k + a + e →
        suc (1805 * q + 1005 * x + 905 * 0 + 904 * 0 + 903 * 0 + 902 * 0 + 901 * p' + 101 * y
        + 0) ≤ 1805 * q + 1005 * x + 905 * b + 904 * v + 903 * k + 902 * a + 901 * p + 101 * y + e
    less q x b v k a p p' n y e l o h = omega arith

    few : (q x b v k a p p' n y e : ℕ) → p' ≡ p + n → n ≡ b + v + k + a → q + x + (0 + 0 + 0 + 0)
        + p' + y + 0 ≤ q + x + (b + v + k + a) + p + y + e
    few q x b v k a p p' n y e l o = omega arith

-- the round's end
done : State → State
done s = record s { can_move = false }

ends_with : (s : State) → (inside_cube s + length s.back.buffer ≡ 0)
    ⊎ (1 ≤ inside_cube s + length s.back.buffer) → State
ends_with s (inl h) = done s
ends_with s (inr h) = instant s

pub next_round : Setup → State → State
next_round c s =
    let l : Reading = look_of (front (sent_both c s).forth) in
    let m : Reading = look_of (front (landed_forth l (sent_both c s)).back) in
    let u : State = link_round c l m s in
    ends_with u (none_or (inside_cube u + length u.back.buffer))

cube_goes : (s : State) (o : (inside_cube s + length s.back.buffer ≡ 0)
    ⊎ (1 ≤ inside_cube s + length s.back.buffer)) → CubeRound s (ends_with s o)
unfolding ends_with done
cube_goes s (inl h) =
    inr (
      refl,
      record { taken = none s.back.buffer (omega (arith, h)); full = inr (omega (arith, h)) },
    )
cube_goes s (inr h) = inl (instant_moves s h)

idle_stays : (z s : State) (o : (inside_cube s + length s.back.buffer ≡ 0)
    ⊎ (1 ≤ inside_cube s + length s.back.buffer)) → Rests z → s.vaults ≡ z.vaults →
    s.banks ≡ z.banks → s.answers ≡ z.answers → StaysIdle z s (ends_with s o)
unfolding ends_with done
idle_stays z s (inl h) r v k a = λ c q f b. refl
idle_stays z s (inr h) r v k a = λ c q f b.
    let t = r c in
    let x : length s.forth.buffer ≡ 0 = ap length f ∙ ap length t.0 in
    let y : length s.back.buffer ≡ 0 = ap length b ∙ ap length t.2 in
    absurd (omega (arith, h, x, y, t.1, v, k, a))

rests_after : (s : State) (o : (inside_cube s + length s.back.buffer ≡ 0)
    ⊎ (1 ≤ inside_cube s + length s.back.buffer)) → Rests (ends_with s o)
unfolding ends_with done instant
rests_after s (inl h) =
    λ q. (
      none s.forth.buffer (omega (arith, h)),
      omega (arith, h),
      none s.back.buffer (omega (arith, h)),
    )
rests_after s (inr h) = λ q. (refl, refl, refl)

pub is_round : (c : Setup) (s : State) → Rests s → IsRound c s (next_round c s)
    × Rests (next_round c s)
unfolding next_round
is_round c s r =
    let l : Reading = look_of (front (sent_both c s).forth) in
    let m : Reading = look_of (front (landed_forth l (sent_both c s)).back) in
    let u : State = link_round c l m s in
    let o : (inside_cube u + length u.back.buffer ≡ 0)
    ⊎ (1 ≤ inside_cube u + length u.back.buffer) =
    none_or (inside_cube u + length u.back.buffer) in (
      (
        l,
        m,
        reads_of (front (sent_both c s).forth),
        reads_of (front (landed_forth l (sent_both c s)).back),
        cube_goes u o,
        idle_stays s u o r refl refl refl,
      ),
      rests_after u o,
    )

pub rounds_from : Setup → State → ℕ → State
rounds_from c s zero = record s { can_move = true }
rounds_from c s (suc i) = next_round c (rounds_from c s i)

pub rounds_rest : (c : Setup) (s : State) (i : ℕ) → Rests (rounds_from c s i)
unfolding rounds_from
rounds_rest c s zero = λ q. absurd (cc q)
rounds_rest c s (suc i) = (is_round c (rounds_from c s i) (rounds_rest c s i)).1

pub are_rounds : (c : Setup) (s : State) (n : ℕ) → Rounds c (rounds_from c s) n
unfolding rounds_from
are_rounds c s n = λ i h. (is_round c (rounds_from c s i) (rounds_rest c s i)).0

-- So the bound holds of such a run: it ends with nothing under way.
pub ends_empty : (p : Profile) (c : Setup) → IsFit p c → (past : List Doing) → MayAll c past →
    (run : State) → run.forth ≡ (link_after c past).forth → run.back ≡ (link_after c past).back →
    (n : ℕ) → 4000 + 2000 * (under_way (rounds_from c run 0) + 1) ≤ n →
    under_way (rounds_from c run n) ≡ 0
unfolding rounds_from
ends_empty p c f past m s q r n l =
    drains_any p c f past m tt (rounds_from c s) n (are_rounds c s n) q r l

pub some_run : (c : Setup) (s : State) (n : ℕ) → (run : ℕ → State)
    × (((run 0).forth ≡ s.forth) × ((run 0).back ≡ s.back) × Rounds c run n)
unfolding rounds_from
some_run c s n = (rounds_from c s, (refl, refl, are_rounds c s n))

-- Computed: two requests, of two flits and of one, in the output queue of a link at its beginning.
-- Both are under way after 70 rounds, and nothing is after 80.

small : Setup
small = record { line = 8; tokens = 64; retry = 128 }

two_requests : State
two_requests =
    record {
      forth = record side_opening { queue = 2 ∷ 1 ∷ [] };
      back = side_opening;
      vaults = 0;
      banks = 0;
      answers = 0;
      can_move = true;
    }

still_queued : under_way (rounds_from small two_requests 70) ≡ 2
unfolding rounds_from next_round ends_with instant done none_or small two_requests
still_queued = refl

drained : under_way (rounds_from small two_requests 80) ≡ 0
unfolding rounds_from next_round ends_with instant done none_or small two_requests
drained = refl
