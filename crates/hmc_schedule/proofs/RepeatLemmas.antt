-- Steps of a round, over and over.
use Rattle.std.proofs.Common.{◌≡◌, ◌∙◌, ◌<◌, ◌≤◌, ◌+◌, ◌-◌, ◌*◌, ◌/◌, ◌%◌, ℕ, zero, suc, List, [], ◌∷◌, length, drop, take, slice_get, get_or, Option, Some, None, inl, inr, refl, sym, ap, ap₂, subst, arith}
use Rattle.std.specs.Option.{option_map_or, unwrap_or}
use Rattle.std.specs.List.Sorted.{IsNonDecreasingBy, IsPartitionPoint}
use Rattle.std.proofs.lemmas.Bool.{cases_lt}
use Rattle.std.proofs.lemmas.List.{length-drop, length-take-le}
use Rattle.std.proofs.lemmas.Option.{slice_get-get_or}
use Rattle.std.proofs.Math.Nat.{add-mod_left, mod-eq_of_lt, mod-lt, mul-add-mod_self_right}
use Rattle.std.proofs.lemmas.Nat.{div-add-mod'}
use Rattle.hmc_schedule.specs.declared.step.Step.{Step}
use Rattle.hmc_schedule.specs.declared.step.Step.TheVariants.{Give}
use Rattle.hmc_schedule.specs.declared.steps_left.Hand.{Hand}
use Rattle.hmc_schedule.specs.declared.written.Held.TheVariants as holds
use Rattle.hmc_schedule.specs.declared.written.Repeats.{Repeats}
use Rattle.hmc_schedule.specs.declared.written.Rounds.{Rounds}
use Rattle.hmc_schedule.specs.declared.written.Segment.{Segment}
use Rattle.hmc_schedule.specs.declared.written.Stretch.TheVariants.{Many}
use Rattle.hmc_schedule.specs.StepsLeft.{AreRepeated, HoldRepeats, IsHand, IsRepeatsAt, TakesKept, next_at}
use Rattle.hmc_schedule.specs.Written.{WrittenFields, Kept, IsRounds, IsWritten, held_steps, steps_in, stretch_of}
use Rattle.hmc_schedule.proofs.WrittenLemmas.{in_order, in_round, place_at, quiet_place, start_few}

-- after the last step of a round its first one comes next
pub pass-last : (w : WrittenFields) (at : ℕ) (r : Repeats) → r.next + 1 ≡ r.end → AreRepeated w at r → AreRepeated w (at + 1) (record r { next = r.from })
pass-last w at r last is =
    let full : is.place + 1 ≡ is.len = omega (arith, last, is.next_is, is.end_is) in
    record {
      len = is.len;
      place = 0;
      next_is = omega arith;
      end_is = is.end_is;
      small = omega (arith, is.small);
      inside = is.inside;
      few = is.few;
      each = λ k below.
          let step : (at + 1) + k ≡ at + (k + 1) = omega arith in
          let turn : is.place + (k + 1) ≡ is.len + k = omega (arith, full) in
          let first : k ≡ 0 + k = omega arith in
          ap (slice_get w.steps) step
          ∙ is.each (k + 1) (omega (arith, below))
          ∙ ap (λ i. slice_get w.kept (r.from + i % is.len)) turn
          ∙ ap (λ i. slice_get w.kept (r.from + i)) (add-mod_left is.len k)
          ∙ ap (λ i. slice_get w.kept (r.from + i % is.len)) first;
    }

-- before that, the next one
pub pass-next : (w : WrittenFields) (at : ℕ) (r : Repeats) → (r.next + 1 ≡ r.end → ⊥) → AreRepeated w at r → AreRepeated w (at + 1) (record r { next = r.next + 1 })
pass-next w at r more is = record {
  len = is.len;
  place = is.place + 1;
  next_is = omega (arith, is.next_is);
  end_is = is.end_is;
  small = omega (arith, more, is.next_is, is.end_is, is.small);
  inside = is.inside;
  few = is.few;
  each = λ k below.
      let step : (at + 1) + k ≡ at + (k + 1) = omega arith in
      let turn : is.place + (k + 1) ≡ (is.place + 1) + k = omega arith in
      ap (slice_get w.steps) step
      ∙ is.each (k + 1) (omega (arith, below))
      ∙ ap (λ i. slice_get w.kept (r.from + i % is.len)) turn;
}

-- the turn after a whole one
turned : (w : WrittenFields) (at len : ℕ) (r : Repeats) → at + len < r.until → len ≡ r.end - r.next → AreRepeated w at r → AreRepeated w (at + len) (record { from = r.from; next = r.from; end = r.end; until = r.until })
turned w at len r again full is =
    let ends : is.place + len ≡ is.len = omega (arith, full, is.next_is, is.end_is, is.small) in
    record {
      len = is.len;
      place = 0;
      next_is = omega arith;
      end_is = is.end_is;
      small = omega (arith, is.small);
      inside = is.inside;
      few = is.few;
      each = λ k below.
          let step : (at + len) + k ≡ at + (len + k) = omega arith in
          let turn : is.place + (len + k) ≡ is.len + k = omega (arith, ends) in
          let first : k ≡ 0 + k = omega arith in
          ap (slice_get w.steps) step
          ∙ is.each (len + k) (omega (arith, below))
          ∙ ap (λ i. slice_get w.kept (r.from + i % is.len)) turn
          ∙ ap (λ i. slice_get w.kept (r.from + i)) (add-mod_left is.len k)
          ∙ ap (λ i. slice_get w.kept (r.from + i % is.len)) first;
    }

-- what is at hand of steps that repeat, up to the end of the round
pub hand_taken : (w : WrittenFields) (at len : ℕ) (r : Repeats) → len ≤ r.until - at → len ≤ r.end - r.next → (at + len < r.until → len ≡ r.end - r.next) → IsRepeatsAt w at r
    → IsHand w (record { place = r.next; end = r.next + len; until = at + len; later = record { from = r.from; next = r.from; end = r.end; until = r.until } })
hand_taken w at len r few turn whole repeats = record {
  near = omega arith;
  ahead = omega arith;
  inside = λ some.
      let is = repeats (omega (arith, few, some)) in
      omega (arith, is.inside, is.end_is, is.next_is, is.small, turn);
  each = λ k below.
      let is = repeats (omega (arith, few, below)) in
      let first : (at + len) - ((r.next + len) - r.next) ≡ at = omega arith in
      let small : is.place + k < is.len = omega (arith, is.next_is, is.end_is, turn, below) in
      let place : r.from + (is.place + k) ≡ r.next + k = omega (arith, is.next_is) in
      ap (λ i. slice_get w.steps (i + k)) first
      ∙ is.each k (omega (arith, few, below))
      ∙ ap (λ i. slice_get w.kept (r.from + i)) (mod-eq_of_lt small)
      ∙ ap (slice_get w.kept) place;
  later = λ again. turned w at len r again (whole again) (repeats (omega (arith, again)));
}

-- a remainder and more have the same remainder as the whole
mod-more : (at k len : ℕ) → (at % len + k) % len ≡ (at + k) % len
mod-more at k len =
    let all : (at / len * len + (at % len + k)) ≡ at + k = omega (arith, div-add-mod' at len) in
    sym (mul-add-mod_self_right (at / len) len (at % len + k)) ∙ ap (λ i. i % len) all

-- rounds without noise
pub hold-rounds : (kept : List Step) (rounds : Rounds) (at until : ℕ) → IsRounds kept rounds → at < length (stretch_of kept (Many rounds)) → rounds.noise ≡ None
    → HoldRepeats (stretch_of kept (Many rounds)) kept at (record { from = rounds.round.start; next = rounds.round.start + at % rounds.round.len; end = rounds.round.start + rounds.round.len; until = until })
hold-rounds kept rounds at until is small quiet = record {
  len = rounds.round.len;
  place = at % rounds.round.len;
  next_is = refl;
  end_is = refl;
  small = (in_round kept rounds at is small).small;
  inside = is.round.inside;
  each = λ k below.
      let place = in_round kept rounds (at + k) is below in
      quiet_place kept rounds (at + k) (Give 0) is below quiet
      ∙ sym (slice_get-get_or kept (rounds.round.start + (at + k) % rounds.round.len) (Give 0) place.inside)
      ∙ ap (λ i. slice_get kept (rounds.round.start + i)) (sym (mod-more at k rounds.round.len));
}

-- past the end of a list there is nothing
slice_get_none : {X : Type 0} (xs : List X) (n : ℕ) → length xs ≤ n → slice_get xs n ≡ None
slice_get_none [] n over = refl
slice_get_none (x ∷ xs) zero over = absurd (omega (arith, over))
slice_get_none (x ∷ xs) (suc n) over = slice_get_none xs n (omega (arith, over))

-- so many segments begin at or before a later place too, up to where the next one begins
later_point : (segments : List Segment) (at j until len n : ℕ) → IsNonDecreasingBy (λ s. s.start) segments → until ≡ option_map_or (λ (s : Segment). s.start) (slice_get segments n) len → at ≤ j → j < until
    → IsPartitionPoint (λ s. s.start ≤ at) (λ s. at < s.start) segments n → IsPartitionPoint (λ s. s.start ≤ j) (λ s. j < s.start) segments n
later_point segments at j until len n ordered ends later below point = (
  λ i d low high. let begun = point.0 i d low high in omega (arith, begun, later),
  λ i d low high.
      let inside : n < length segments = omega (arith, low, high) in
      let is : until ≡ (get_or segments n d).start = ends ∙ ap (λ (o : Option Segment). option_map_or (λ (s : Segment). s.start) o len) (slice_get-get_or segments n d inside) in
      let rises = ordered n i d low high in
      omega (arith, below, is, rises),
)

-- where the next segment begins, or the end
until_few : (kept : Kept) (segments : List Segment) (until len n : ℕ) → IsWritten kept segments len → until ≡ option_map_or (λ (s : Segment). s.start) (slice_get segments n) len → until ≤ length (steps_in kept segments)
until_few kept segments until len n is ends = elim (cases_lt n (length segments)) [
  | inl under ↦
      let d : Segment = record { start = 0; held = holds.One (Give 0) } in
      let at : until ≡ (get_or segments n d).start = ends ∙ ap (λ (o : Option Segment). option_map_or (λ (s : Segment). s.start) o len) (slice_get-get_or segments n d under) in
      let few = start_few kept segments len n d is under in
      omega (arith, at, few)
  | inr over ↦
      let at : until ≡ len = ends ∙ ap (λ (o : Option Segment). option_map_or (λ (s : Segment). s.start) o len) (slice_get_none segments n over) in
      omega (arith, at, is.total)
]

-- the steps from a place on, as the segment that has it holds them
pub repeated_at : (kept again : Kept) (segments looked : List Segment) (len at n until : ℕ) (w : WrittenFields) (s : Segment) (r : Repeats) → IsWritten kept segments len → record { kept = kept.steps; steps = steps_in kept segments } ≡ w → at < length w.steps → looked ≡ segments → n ≤ length looked → IsPartitionPoint (λ s. s.start ≤ at) (λ s. at < s.start) looked n
    → s ≡ get_or segments (n - 1) s → again ≡ kept → until ≡ option_map_or (λ (s : Segment). s.start) (slice_get looked n) len → r.until ≡ until → s.start ≤ at → HoldRepeats (held_steps again s.held) again.steps (at - s.start) r → AreRepeated w at r
repeated_at kept again segments looked len at n until w s r is view within same few point found again_is ends ends_at begun hold =
    let ordered : IsNonDecreasingBy (λ s. s.start) looked = subst (λ (l : List Segment). IsNonDecreasingBy (λ s. s.start) l) (sym same) (in_order kept segments len is) in
    let steps : steps_in kept segments ≡ w.steps = ap (λ (v : WrittenFields). v.steps) view in
    let kept_is : again.steps ≡ w.kept = ap (λ (k : Kept). k.steps) again_is ∙ ap (λ (v : WrittenFields). v.kept) view in
    let last : until ≤ length w.steps = subst (λ (l : List Step). until ≤ length l) steps (until_few kept segments until len n is (subst (λ (l : List Segment). until ≡ option_map_or (λ (s : Segment). s.start) (slice_get l n) len) same ends)) in
    record {
      len = hold.len;
      place = hold.place;
      next_is = hold.next_is;
      end_is = hold.end_is;
      small = hold.small;
      inside = subst (λ (l : List Step). r.end ≤ length l) kept_is hold.inside;
      few = omega (arith, ends_at, last);
      each = λ k below.
          let j = at + k in
          let short : j < until = omega (arith, below, ends_at) in
          let place = place_at kept again segments looked len j n w s is view (omega (arith, short, last)) same few (later_point looked at j until len n ordered ends (omega arith) short point) found again_is in
          let index : j - s.start ≡ (at - s.start) + k = omega (arith, begun) in
          let i = r.from + (hold.place + k) % hold.len in
          let some : 0 < hold.len = omega (arith, hold.small) in
          let less : i < length again.steps = omega (arith, mod-lt (hold.place + k) some, hold.end_is, hold.inside) in
          let x = get_or again.steps i (Give 0) in
          let value : slice_get again.steps i ≡ Some x = slice_get-get_or again.steps i (Give 0) less in
          let held : slice_get (held_steps again s.held) (j - s.start) ≡ Some x = ap (slice_get (held_steps again s.held)) index ∙ hold.each k (subst (λ m. m < length (held_steps again s.held)) index place.inside) ∙ value in
          place.is x held ∙ sym value ∙ ap (λ (l : List Step). slice_get l i) kept_is;
    }

one_further : (k : ℕ) → suc k + 1 ≡ suc (k + 1)
one_further k = omega arith

-- the first step is taken off a list
pub drop_first : (steps : List Step) (at : ℕ) (step : Step) → slice_get steps at ≡ Some step → drop at steps ≡ step ∷ drop (at + 1) steps
drop_first [] at step is = absurd cc
drop_first (x ∷ steps) zero step is = ap (λ (o : Option Step). unwrap_or o x ∷ steps) is
drop_first (x ∷ steps) (suc k) step is = drop_first steps k step is ∙ ap (λ (n : ℕ). step ∷ drop n (x ∷ steps)) (sym (one_further k))

-- the hand without its first step
pub hand_passed : (w : WrittenFields) (hand : Hand) → hand.place < hand.end → IsHand w hand → IsHand w (record hand { place = hand.place + 1 })
hand_passed w hand more is = record {
  near = omega (arith, more);
  ahead = omega (arith, is.ahead);
  inside = λ some. is.inside more;
  each = λ k below.
      let at : (hand.until - (hand.end - (hand.place + 1))) + k ≡ next_at hand + (k + 1) = omega (arith, more, is.ahead) in
      let place : hand.place + (k + 1) ≡ (hand.place + 1) + k = omega arith in
      ap (slice_get w.steps) at ∙ is.each (k + 1) (omega (arith, below)) ∙ ap (slice_get w.kept) place;
  later = is.later;
}

-- none is at hand, and what follows is known
pub hand_empty : (w : WrittenFields) (at : ℕ) (r : Repeats) → IsRepeatsAt w at r → IsHand w (record { place = 0; end = 0; until = at; later = r })
hand_empty w at r repeats = record {
  near = omega arith;
  ahead = omega arith;
  inside = λ some. absurd (omega (arith, some));
  each = λ k below. absurd (omega (arith, below));
  later = repeats;
}

-- the step at hand is taken off a list
pub hand_off : (w old : WrittenFields) (hand : Hand) → hand.place < hand.end → IsHand w hand → record { kept = w.kept; steps = drop (next_at hand) w.steps } ≡ old → TakesKept old hand.place (record { kept = w.kept; steps = drop (next_at (record hand { place = hand.place + 1 })) w.steps })
hand_off w old hand more is view =
    let small : hand.place < length w.kept = omega (arith, more, is.inside more) in
    let step = get_or w.kept hand.place (Give 0) in
    let found : slice_get w.kept hand.place ≡ Some step = slice_get-get_or w.kept hand.place (Give 0) small in
    let at : next_at hand ≡ next_at hand + 0 = omega arith in
    let place : hand.place + 0 ≡ hand.place = omega arith in
    let first : slice_get w.steps (next_at hand) ≡ Some step = ap (slice_get w.steps) at ∙ is.each 0 (omega (arith, more)) ∙ ap (slice_get w.kept) place ∙ found in
    let further : next_at hand + 1 ≡ next_at (record hand { place = hand.place + 1 }) = omega (arith, more, is.ahead) in
    record {
      step = step;
      is = found;
      small = small;
      first = ap (λ (v : WrittenFields). v.steps) (sym view) ∙ drop_first w.steps (next_at hand) step first ∙ ap (λ (n : ℕ). step ∷ drop n w.steps) further;
      kept = ap (λ (v : WrittenFields). v.kept) view;
    }

-- ---- several steps at hand

get-drop : (steps : List Step) (n k : ℕ) → slice_get (drop n steps) k ≡ slice_get steps (n + k)
get-drop steps zero k = let same : k ≡ 0 + k = omega arith in ap (slice_get steps) same
get-drop [] (suc n) k = refl
get-drop (x ∷ steps) (suc n) k = let next : suc (n + k) ≡ suc n + k = omega arith in get-drop steps n k ∙ ap (slice_get (x ∷ steps)) next

-- lists with the same first elements
same_front : (n : ℕ) (some others : List Step) → n ≤ length others → ((k : ℕ) → k < n → slice_get some k ≡ slice_get others k) → take n some ≡ take n others
same_front zero some others few each = refl
same_front (suc n) some [] few each = absurd (omega (arith, few))
same_front (suc n) [] (y ∷ others) few each = let none : None ≡ Some y = each 0 (omega arith) in absurd cc
same_front (suc n) (x ∷ some) (y ∷ others) few each =
    let first : Some x ≡ Some y = each 0 (omega arith) in
    ap₂ (λ (a : Step) (l : List Step). a ∷ l) (ap (λ (o : Option Step). unwrap_or o x) first)
    (same_front n some others (omega (arith, few)) (λ k below. each (suc k) (omega (arith, below))))

-- those at hand are the first ones of the list
pub hand_first : (w : WrittenFields) (hand : Hand) → IsHand w hand → take (length (take (hand.end - hand.place) (drop hand.place w.kept))) (drop (next_at hand) w.steps) ≡ take (hand.end - hand.place) (drop hand.place w.kept)
hand_first w hand is = elim (cases_lt hand.place hand.end) [
  | inl some ↦
      let n = hand.end - hand.place in
      let kept = drop hand.place w.kept in
      let few : n ≤ length kept = omega (arith, is.inside some, length-drop hand.place w.kept) in
      ap (λ (m : ℕ). take m (drop (next_at hand) w.steps)) (length-take-le n kept few)
      ∙ same_front n (drop (next_at hand) w.steps) kept few (λ k below. get-drop w.steps (next_at hand) k ∙ is.each k (omega (arith, below)) ∙ sym (get-drop w.kept hand.place k))
  | inr none ↦
      let no : hand.end - hand.place ≡ 0 = omega (arith, none) in
      subst (λ (n : ℕ). take (length (take n (drop hand.place w.kept))) (drop (next_at hand) w.steps) ≡ take n (drop hand.place w.kept)) (sym no) refl
]

-- the hand without so many of its first steps
pub hand_less : (w : WrittenFields) (hand : Hand) (count : ℕ) → count ≤ hand.end - hand.place → IsHand w hand → IsHand w (record hand { place = hand.place + count })
hand_less w hand count few is = record {
  near = omega (arith, few, is.near);
  ahead = omega (arith, is.ahead);
  inside = λ some. is.inside (omega (arith, some));
  each = λ k below.
      let at : (hand.until - (hand.end - (hand.place + count))) + k ≡ next_at hand + (count + k) = omega (arith, few, is.ahead) in
      let place : hand.place + (count + k) ≡ (hand.place + count) + k = omega arith in
      ap (slice_get w.steps) at ∙ is.each (count + k) (omega (arith, below)) ∙ ap (slice_get w.kept) place;
  later = is.later;
}
