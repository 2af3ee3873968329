-- In which segment a place is, and the step there.
use Rattle.std.proofs.Common.{◌≡◌, ◌∙◌, ◌<◌, ◌≤◌, ℕ, zero, suc, ◌+◌, ◌-◌, ◌*◌, ◌/◌, ◌%◌, List, [], ◌∷◌, ◌++◌, length, take, drop, get_or, slice_get, slice_index_or, replicate, filter, Option, Some, None, nat_le, true, false, inl, inr, refl, sym, ap, subst, arith, append-nil, length-append}
use Rattle.std.specs.List.{All, flat_map}
use Rattle.std.specs.Option.{option_map_or}
use Rattle.std.specs.Prelude.{IsSomeAnd}
use Rattle.std.proofs.lemmas.List.Elements.{All-nil, All-cons, All-head, All-tail, All-append, All-take}
use Rattle.std.specs.List.Sorted.{IsNonDecreasingBy, IsPartitionPoint, IsPartitionedBy}
use Rattle.std.proofs.lemmas.Bool.{cases_lt}
use Rattle.std.proofs.lemmas.Bool.Decides.{nat_tests}
use Rattle.std.proofs.lemmas.Grind.{flat_map-append}
use Rattle.std.proofs.lemmas.List.{append_assoc, take-append-drop, take-append-le, drop-append-le, length-take-le, length-drop, take_all, get_or_append_left, get_or-append-add, get_or-take, get_or-drop}
use Rattle.std.proofs.lemmas.Option.{slice_get-get_or}
use Rattle.std.proofs.Math.Nat.{add-mod_left, mod-eq_of_lt, mod-lt}
use Rattle.std.proofs.Math.Seq.{take-suc, take-append_seam, take-length, drop-append_seam, get_or-append_seam}
use Rattle.hmc_codes.specs.Limits.{most_steps}
use Rattle.hmc_schedule.specs.declared.step.Step.{Step}
use Rattle.hmc_schedule.specs.declared.written.Held.{Held}
use Rattle.hmc_schedule.specs.declared.written.Held.TheVariants as holds
use Rattle.hmc_schedule.specs.declared.written.Segment.{Segment}
use Rattle.hmc_schedule.specs.declared.written.Stretch.{Stretch}
use Rattle.hmc_schedule.specs.declared.written.Stretch.TheVariants.{One, Many}
use Rattle.hmc_schedule.specs.declared.noise.Noise.{Noise}
use Rattle.hmc_schedule.specs.declared.step.Step.TheVariants.{Give, Land}
use Rattle.hmc_schedule.specs.declared.written.KeptRound.{KeptRound}
use Rattle.hmc_schedule.specs.declared.written.Rounds.{Rounds}
use Rattle.hmc_schedule.specs.Noise.{is_land, lands_in, lands_of, mask_at, noisy_step, noisy, noisy_if}
use Rattle.hmc_schedule.specs.Round.{repeated}
use Rattle.hmc_schedule.specs.Written.{WrittenFields, Kept, kept_of, held_of, held_steps, rounds_of_line, round_at, stretch_of, noisy_at, steps_in, IsHeld, IsKept, IsRounds, IsStretch, IsWritten}
use Rattle.hmc_schedule.proofs.NoiseLemmas.{noisy_if-length, noisy-rounds, number_in_round}

-- the number of steps of the first k segments
abbrev before : Kept → List Segment → ℕ → ℕ
before kept segments k = length (steps_in kept (take k segments))

pub steps_in-more : (kept : Kept) (segments : List Segment) (s : Segment) → steps_in kept (segments ++ s ∷ []) ≡ steps_in kept segments ++ held_steps kept s.held
unfolding steps_in
steps_in-more kept segments s =
    flat_map-append (λ t. held_steps kept t.held) segments (s ∷ []) ∙ ap (λ l. steps_in kept segments ++ l) (append-nil (held_steps kept s.held))

before-more : (kept : Kept) (segments : List Segment) (k : ℕ) (d : Segment) → k < length segments → before kept segments (suc k) ≡ before kept segments k + length (held_steps kept (get_or segments k d).held)
before-more kept segments k d small =
    ap (λ l. length (steps_in kept l)) (take-suc segments k d small) ∙ ap length (steps_in-more kept (take k segments) (get_or segments k d)) ∙ length-append (steps_in kept (take k segments)) (held_steps kept (get_or segments k d).held)

length-flat-take : {X Y : Type 0} (f : X → List Y) (xs : List X) (i j : ℕ) → i ≤ j → length (flat_map f (take i xs)) ≤ length (flat_map f (take j xs))
length-flat-take f xs zero j le = omega arith
length-flat-take f xs (suc i) zero le = absurd (omega (arith, le))
length-flat-take f [] (suc i) (suc j) le = omega arith
length-flat-take f (x ∷ xs) (suc i) (suc j) le =
    let later = length-flat-take f xs i j (omega (arith, le)) in
    rw (length-append (f x) (flat_map f (take i xs)), length-append (f x) (flat_map f (take j xs))) (omega (arith, later))

before-le : (kept : Kept) (segments : List Segment) (i j : ℕ) → i ≤ j → before kept segments i ≤ before kept segments j
unfolding steps_in
before-le kept segments i j le = length-flat-take (λ s. held_steps kept s.held) segments i j le

-- a segment begins among the steps
pub start_few : (kept : Kept) (segments : List Segment) (len n : ℕ) (d : Segment) → IsWritten kept segments len → n < length segments → (get_or segments n d).start ≤ length (steps_in kept segments)
start_few kept segments len n d is small =
    rw (is.starts n d small) (subst (λ (l : List Segment). length (steps_in kept (take n segments)) ≤ length (steps_in kept l)) (take-length segments) (before-le kept segments n (length segments) (omega (arith, small))))

-- segments begin in order
pub in_order : (kept : Kept) (segments : List Segment) (len : ℕ) → IsWritten kept segments len → IsNonDecreasingBy (λ s. s.start) segments
in_order kept segments len is i j d le small =
    rw (is.starts i d (omega (arith, le, small)), is.starts j d small) (before-le kept segments i j le)

-- a place in a segment: the segment's place, and the place in the segment
pub record IsPlace (kept : Kept) (s : Segment) (steps : List Step) (at : ℕ) : Type 0 where
  pub begun : s.start ≤ at
  pub inside : at - s.start < length (held_steps kept s.held)
  pub held : IsHeld kept s.held
  pub is : (x : Step) → slice_get (held_steps kept s.held) (at - s.start) ≡ Some x → slice_get steps at ≡ Some x

slice_get_or : {X : Type 0} (xs : List X) (k : ℕ) (x : X) → k < length xs → get_or xs k x ≡ x → slice_get xs k ≡ Some x
slice_get_or xs k x small is = slice_get-get_or xs k x small ∙ ap Some is

or_slice_get : {X : Type 0} (xs : List X) (k : ℕ) (x : X) → k < length xs → slice_get xs k ≡ Some x → get_or xs k x ≡ x
or_slice_get xs k x small is = grind (arith, slice_get-get_or xs k x small, is)

-- what is in the middle part of a list
in_middle : {X : Type 0} (a b rest : List X) (at start : ℕ) (x : X) → start ≡ length a → start ≤ at → at - start < length b → slice_get b (at - start) ≡ Some x → slice_get (a ++ (b ++ rest)) at ≡ Some x
in_middle a b rest at start x from begun inside is =
    let j = at - start in
    let place : at ≡ length a + j = omega (arith, from, begun) in
    let value : get_or (a ++ (b ++ rest)) (length a + j) x ≡ x =
    get_or-append-add a (b ++ rest) j x ∙ get_or_append_left b rest x j inside ∙ or_slice_get b j x inside is in
    let small : length a + j < length (a ++ (b ++ rest)) =
    rw (length-append a (b ++ rest), length-append b rest) (omega (arith, inside)) in
    rw place (slice_get_or (a ++ (b ++ rest)) (length a + j) x small value)

-- the segment before the first that begins after a place
pub place_in : (kept : Kept) (segments : List Segment) (len at n : ℕ) (d : Segment) → IsWritten kept segments len → at < length (steps_in kept segments) → n ≤ length segments → IsPartitionPoint (λ s. s.start ≤ at) (λ s. at < s.start) segments n
    → (0 < n) × IsPlace kept (get_or segments (n - 1) d) (steps_in kept segments) at
unfolding steps_in
place_in kept segments len at n d is within few point =
    let k = n - 1 in
    let small : k < length segments = omega (arith, some, few) in
    let s = get_or segments k d in
    let starts : s.start ≡ before kept segments k = is.starts k d small in
    let next : suc k ≡ n = omega (arith, some) in
    let until : at < before kept segments (suc k) = rw next ends in
    let more = before-more kept segments k d small in
    let begun : s.start ≤ at = point.0 k d (omega arith) (omega (arith, some)) in
    let inside : at - s.start < length (held_steps kept s.held) = omega (arith, starts, until, more, begun) in
    let all : segments ≡ take k segments ++ s ∷ drop (suc k) segments =
    sym (take-append-drop (suc k) segments) ∙ ap (λ l. l ++ drop (suc k) segments) (take-suc segments k d small) ∙ append_assoc (take k segments) (s ∷ []) (drop (suc k) segments) in
    let parts : steps_in kept segments ≡ steps_in kept (take k segments) ++ (held_steps kept s.held ++ steps_in kept (drop (suc k) segments)) =
    ap (steps_in kept) all ∙ flat_map-append (λ t. held_steps kept t.held) (take k segments) (s ∷ drop (suc k) segments) in (
      some,
      record {
        begun = begun;
        inside = inside;
        held = is.held k d small;
        is = λ x found. rw parts (in_middle (steps_in kept (take k segments)) (held_steps kept s.held) (steps_in kept (drop (suc k) segments)) at s.start x starts begun inside found);
      },
    ) where
      ends : at < before kept segments n
      ends = elim (cases_lt n (length segments)) [
        | inl under ↦ subst (λ m. at < m) (is.starts n d under) (point.1 n d (omega arith) under)
        | inr over ↦ rw (take_all n segments over) within
      ]

      some : 0 < n
      some = elim (cases_lt 0 n) [
        | inl more ↦ more
        | inr none ↦
            let first : n ≡ 0 = omega (arith, none) in
            absurd (omega (arith, subst (λ m. at < before kept segments m) first ends))
      ]

-- rounds have at each place the step of one round
get_or-rounds : (n : ℕ) (round : List Step) (j : ℕ) (x : Step) → j < n * length round → get_or (flat_map (λ steps. steps) (replicate n round)) j x ≡ get_or round (j % length round) x
get_or-rounds zero round j x small = absurd (omega (arith, small))
get_or-rounds (suc n) round j x small =
    let later = flat_map (λ steps. steps) (replicate n round) in
    elim (cases_lt j (length round)) [
      | inl first ↦ get_or_append_left round later x j first ∙ ap (λ k. get_or round k x) (sym (mod-eq_of_lt first))
      | inr over ↦
          let k = j - length round in
          let place : j ≡ length round + k = omega (arith, over) in
          let shorter : k < n * length round = omega (arith, small, over, suc_times) in
          rw place (get_or-append-add round later k x ∙ get_or-rounds n round k x shorter ∙ ap (λ m. get_or round m x) (sym (add-mod_left (length round) k)))
    ] where
      suc_times : (suc n) * length round ≡ length round + n * length round
      suc_times = grind arith

pub length-rounds : (n : ℕ) (round : List Step) → length (flat_map (λ steps. steps) (replicate n round)) ≡ n * length round
length-rounds zero round = grind arith
length-rounds (suc n) round =
    length-append round (flat_map (λ steps. steps) (replicate n round)) ∙ ap (λ k. length round + k) (length-rounds n round) ∙ grind arith

-- a round that has a place in some rounds has steps
some_round : (n : ℕ) (round : List Step) (j : ℕ) → j < length (flat_map (λ steps. steps) (replicate n round)) → 0 < length round
some_round n [] j small = absurd (omega (arith, length-rounds n [], small))
some_round n (x ∷ xs) j small = omega arith

-- what more is kept leaves what a segment holds
pub record IsGrown (kept new : Kept) : Type 0 where
  pub steps : (h : Held) → IsHeld kept h → held_steps new h ≡ held_steps kept h
  pub held : (h : Held) → IsHeld kept h → IsHeld new h

pub steps_in-grown : (kept new : Kept) (segments : List Segment) → IsGrown kept new → All (λ s. IsHeld kept s.held) segments → steps_in new segments ≡ steps_in kept segments
unfolding steps_in
steps_in-grown kept new [] grown all = refl
steps_in-grown kept new (s ∷ segments) grown all =
    let first = grown.steps s.held (All-head (λ (t : Segment). IsHeld kept t.held) s segments all) in
    let later = steps_in-grown kept new segments grown (All-tail (λ (t : Segment). IsHeld kept t.held) s segments all) in
    ap (λ l. l ++ flat_map (λ (t : Segment). held_steps new t.held) segments) first ∙ ap (λ l. held_steps kept s.held ++ l) later

pub IsWritten-grown : (kept new : Kept) (segments : List Segment) (len : ℕ) → IsGrown kept new → length new.many ≤ len → IsWritten kept segments len → IsWritten new segments len
IsWritten-grown kept new segments len grown some is = record {
  few = is.few;
  total = is.total ∙ ap length (sym (steps_in-grown kept new segments grown is.held));
  starts = λ k d small. is.starts k d small ∙ ap length (sym (steps_in-grown kept new (take k segments) grown (All-take (λ s. IsHeld kept s.held) k segments is.held)));
  held = λ k d small. grown.held (get_or segments k d).held (is.held k d small);
  some = some;
}

-- one round more is kept
round_at-more : (kept more : List Step) (round : KeptRound) → IsKept kept round → round_at (kept ++ more) round ≡ round_at kept round
round_at-more kept more round is =
    let long : round.len ≤ length (drop round.start kept) = omega (arith, is.inside, length-drop round.start kept) in
    ap (take round.len) (drop-append-le round.start kept more (omega (arith, is.inside))) ∙ take-append-le round.len (drop round.start kept) more long

IsKept-more : (kept more : List Step) (round : KeptRound) → IsKept kept round → IsKept (kept ++ more) round
IsKept-more kept more round is = record {
  inside = omega (arith, is.inside, length-append kept more);
  lands = ap (filter is_land) (round_at-more kept more round is) ∙ is.lands;
}

IsRounds-more : (kept more : List Step) (rounds : Rounds) → IsRounds kept rounds → IsRounds (kept ++ more) rounds
IsRounds-more kept more rounds is =
    record { round = IsKept-more kept more rounds.round is.round; noise = is.noise }

stretch_of-more : (kept more : List Step) (rounds : Rounds) → IsRounds kept rounds → stretch_of (kept ++ more) (Many rounds) ≡ stretch_of kept (Many rounds)
stretch_of-more kept more rounds is =
    ap (λ (r : List Step). noisy_if rounds.noise (repeated rounds.count r)) (round_at-more kept more rounds.round is.round)

pub grown-kept : (kept more : List Step) (many : List Rounds) → IsGrown (kept_of kept many) (kept_of (kept ++ more) many)
grown-kept kept more many = record { steps = steps; held = held } where
  some_steps : (o : Option Rounds) → IsSomeAnd o (IsRounds kept) → option_map_or (λ (r : Rounds). stretch_of (kept ++ more) (Many r)) o [] ≡ option_map_or (λ (r : Rounds). stretch_of kept (Many r)) o []
  some_steps None is = refl
  some_steps (Some r) is = stretch_of-more kept more r is

  some_held : (o : Option Rounds) → IsSomeAnd o (IsRounds kept) → IsSomeAnd o (IsRounds (kept ++ more))
  some_held None is = is
  some_held (Some r) is = IsRounds-more kept more r is

  steps : (h : Held) → IsHeld (kept_of kept many) h → held_steps (kept_of (kept ++ more) many) h ≡ held_steps (kept_of kept many) h
  steps (holds.One step) is = refl
  steps (holds.Many at) is = some_steps (slice_get many at) is

  held : (h : Held) → IsHeld (kept_of kept many) h → IsHeld (kept_of (kept ++ more) many) h
  held (holds.One step) is = tt
  held (holds.Many at) is = some_held (slice_get many at) is

-- rounds of one line more are kept
get-more : {X : Type 0} (P : X → Type 0) (xs ys : List X) (k : ℕ) → IsSomeAnd (slice_get xs k) P → slice_get (xs ++ ys) k ≡ slice_get xs k
get-more P [] ys k is = absurd is
get-more P (x ∷ xs) ys zero is = refl
get-more P (x ∷ xs) ys (suc k) is = get-more P xs ys k is

get-last : {X : Type 0} (xs : List X) (x : X) → slice_get (xs ++ x ∷ []) (length xs) ≡ Some x
get-last [] x = refl
get-last (y ∷ xs) x = get-last xs x

pub grown-many : (kept : List Step) (many more : List Rounds) → IsGrown (kept_of kept many) (kept_of kept (many ++ more))
grown-many kept many more = record { steps = steps; held = held } where
  steps : (h : Held) → IsHeld (kept_of kept many) h → held_steps (kept_of kept (many ++ more)) h ≡ held_steps (kept_of kept many) h
  steps (holds.One step) is = refl
  steps (holds.Many at) is =
      ap (λ (o : Option Rounds). option_map_or (λ (r : Rounds). stretch_of kept (Many r)) o []) (get-more (IsRounds kept) many more at is)

  held : (h : Held) → IsHeld (kept_of kept many) h → IsHeld (kept_of kept (many ++ more)) h
  held (holds.One step) is = tt
  held (holds.Many at) is =
      subst (λ (o : Option Rounds). IsSomeAnd o (IsRounds kept)) (sym (get-more (IsRounds kept) many more at is)) is

-- a stretch as a segment holds it
pub held-stretch : (kept : List Step) (many : List Rounds) (stretch : Stretch) → IsStretch kept stretch → IsHeld (kept_of kept (many ++ rounds_of_line stretch)) (held_of (length many) stretch)
held-stretch kept many (One step) is = tt
held-stretch kept many (Many rounds) is =
    subst (λ (o : Option Rounds). IsSomeAnd o (IsRounds kept)) (sym (get-last many rounds)) is

pub held-steps : (kept : List Step) (many : List Rounds) (stretch : Stretch) → held_steps (kept_of kept (many ++ rounds_of_line stretch)) (held_of (length many) stretch) ≡ stretch_of kept stretch
held-steps kept many (One step) = refl
held-steps kept many (Many rounds) =
    ap (λ (o : Option Rounds). option_map_or (λ (r : Rounds). stretch_of kept (Many r)) o []) (get-last many rounds)

one_line : (stretch : Stretch) → length (rounds_of_line stretch) ≤ 1
one_line (One step) = omega arith
one_line (Many rounds) = omega arith

pub steps_in-stretch : (kept : List Step) (many : List Rounds) (segments : List Segment) (len : ℕ) (stretch : Stretch) → IsWritten (kept_of kept many) segments len → steps_in (kept_of kept (many ++ rounds_of_line stretch)) (segments ++ record { start = len; held = held_of (length many) stretch } ∷ []) ≡ steps_in (kept_of kept many) segments ++ stretch_of kept stretch
steps_in-stretch kept many segments len stretch is =
    let new = kept_of kept (many ++ rounds_of_line stretch) in
    steps_in-more new segments (record { start = len; held = held_of (length many) stretch })
    ∙ ap (λ l. l ++ held_steps new (held_of (length many) stretch)) (steps_in-grown (kept_of kept many) new segments (grown-many kept many (rounds_of_line stretch)) is.held)
    ∙ ap (λ l. steps_in (kept_of kept many) segments ++ l) (held-steps kept many stretch)

-- a stretch more
pub IsWritten-more : (kept : List Step) (many : List Rounds) (segments : List Segment) (len count : ℕ) (stretch : Stretch) → IsWritten (kept_of kept many) segments len → IsStretch kept stretch → 1 ≤ count → count ≡ length (stretch_of kept stretch) → len + count ≤ most_steps
    → IsWritten (kept_of kept (many ++ rounds_of_line stretch)) (segments ++ record { start = len; held = held_of (length many) stretch } ∷ []) (len + count)
IsWritten-more kept many segments len count stretch is kept_is some counted room =
    let old = kept_of kept many in
    let new = kept_of kept (many ++ rounds_of_line stretch) in
    let grown : IsGrown old new = grown-many kept many (rounds_of_line stretch) in
    let last_held : Held = held_of (length many) stretch in
    let s : Segment = record { start = len; held = last_held } in
    record {
      few = room;
      total =
          let more : length (steps_in new (segments ++ s ∷ [])) ≡ length (steps_in old segments) + length (stretch_of kept stretch) =
          ap length (steps_in-stretch kept many segments len stretch is) ∙ length-append (steps_in old segments) (stretch_of kept stretch) in
          omega (arith, more, is.total, counted);
      starts = λ k d small. elim (cases_lt k (length segments)) [
        | inl under ↦
            rw (get_or_append_left segments (s ∷ []) d k under, take-append-le k segments (s ∷ []) (omega (arith, under))) (is.starts k d under ∙ ap length (sym (steps_in-grown old new (take k segments) grown (All-take (λ t. IsHeld old t.held) k segments is.held))))
        | inr over ↦
            let last : k ≡ length segments = omega (arith, over, length-append segments (s ∷ []), small) in
            rw (last, get_or-append_seam segments s [] d, take-append_seam segments (s ∷ [])) (is.total ∙ ap length (sym (steps_in-grown old new segments grown is.held)))
      ];
      held = All-append (λ t. IsHeld new t.held) segments (s ∷ []) (λ k d small. grown.held (get_or segments k d).held (is.held k d small)) (All-cons (λ t. IsHeld new t.held) s [] (held-stretch kept many stretch kept_is) (All-nil (λ t. IsHeld new t.held)));
      some = omega (arith, length-append many (rounds_of_line stretch), one_line stretch, is.some, some);
    }

-- the round that was kept last
pub round_at-last : (kept round : List Step) (lands : ℕ) → round_at (kept ++ round) (record { start = length kept; len = length round; lands = lands }) ≡ round
round_at-last kept round lands =
    ap (take (length round)) (drop-append_seam kept round) ∙ take-length round

pub IsKept-last : (kept round : List Step) (lands : ℕ) → filter is_land round ≡ lands_of lands → IsKept (kept ++ round) (record { start = length kept; len = length round; lands = lands })
IsKept-last kept round lands is = record {
  inside = omega (arith, length-append kept round);
  lands = ap (filter is_land) (round_at-last kept round lands) ∙ is;
}

-- where starts don't decrease, those at or before a place come first
pub partitioned : (segments : List Segment) (at : ℕ) → IsNonDecreasingBy (λ s. s.start) segments → IsPartitionedBy (λ s. nat_le s.start at) segments
partitioned segments at ordered i j d le small begun =
    grind (arith, nat_tests, ordered i j d le small, begun)

pub point_of : (segments : List Segment) (at n : ℕ) → IsPartitionPoint (λ s. nat_le s.start at ≡ true) (λ s. nat_le s.start at ≡ false) segments n → IsPartitionPoint (λ s. s.start ≤ at) (λ s. at < s.start) segments n
point_of segments at n is =
    (λ k d low high. grind (arith, nat_tests, is.0 k d low high), λ k d low high. grind (arith, nat_tests, is.1 k d low high))

-- how long a kept round is, and rounds of it
pub length-round_at : (kept : List Step) (round : KeptRound) → IsKept kept round → length (round_at kept round) ≡ round.len
length-round_at kept round is =
    length-take-le round.len (drop round.start kept) (omega (arith, is.inside, length-drop round.start kept))

pub length-stretch : (kept : List Step) (rounds : Rounds) → IsKept kept rounds.round → length (stretch_of kept (Many rounds)) ≡ rounds.count * rounds.round.len
length-stretch kept rounds is =
    noisy_if-length rounds.noise (repeated rounds.count (round_at kept rounds.round)) ∙ length-rounds rounds.count (round_at kept rounds.round) ∙ ap (λ k. rounds.count * k) (length-round_at kept rounds.round is)

-- a round that has a place in some rounds has steps
some_steps : (n len at : ℕ) → at < n * len → 0 < len
some_steps n zero at small = let none : n * 0 ≡ 0 = grind arith in absurd (omega (arith, small, none))
some_steps n (suc len) at small = omega arith

-- a place in a kept round
pub record IsPlaceInRound (kept : List Step) (round : KeptRound) (at : ℕ) : Type 0 where
  pub some : 0 < round.len
  pub small : at % round.len < round.len
  pub inside : round.start + at % round.len < length kept

pub in_round : (kept : List Step) (rounds : Rounds) (at : ℕ) → IsRounds kept rounds → at < length (stretch_of kept (Many rounds)) → IsPlaceInRound kept rounds.round at
in_round kept rounds at is small =
    let some = some_steps rounds.count rounds.round.len at (rw (← length-stretch kept rounds is.round) small) in
    let less : at % rounds.round.len < rounds.round.len = mod-lt at some in
    record {
      some = some;
      small = less;
      inside = omega (arith, is.round.inside, less);
    }

-- the step at a place of rounds without noise
quiet_step : (kept : List Step) (rounds : Rounds) (at : ℕ) (d : Step) → IsRounds kept rounds → at < rounds.count * rounds.round.len → IsPlaceInRound kept rounds.round at → get_or (repeated rounds.count (round_at kept rounds.round)) at d ≡ get_or (round_at kept rounds.round) (at % rounds.round.len) d
quiet_step kept rounds at d is small place =
    let long = length-round_at kept rounds.round is.round in
    get_or-rounds rounds.count (round_at kept rounds.round) at d (rw long small) ∙ ap (λ k. get_or (round_at kept rounds.round) (at % k) d) long

-- the same in what is kept
kept_step : (kept : List Step) (round : KeptRound) (at : ℕ) (d : Step) → IsPlaceInRound kept round at → get_or (round_at kept round) (at % round.len) d ≡ get_or kept (round.start + at % round.len) d
kept_step kept round at d place =
    get_or-take round.len (drop round.start kept) (at % round.len) d place.small ∙ get_or-drop round.start kept (at % round.len) d

-- a landing is counted after those in the directions below
by_direction : (kept : List Step) (round : KeptRound) (noise : Noise) (at : ℕ) (d x : Step) → IsKept kept round → IsPlaceInRound kept round at → get_or (round_at kept round) (at % round.len) d ≡ x → noisy_step noise (noise.count + (at / round.len * round.lands + lands_in (take (at % round.len) (round_at kept round)))) x ≡ noisy_at noise round at x
by_direction kept round noise at d (Land direction mask) is place same =
    let number = number_in_round round.lands (round_at kept round) (at % round.len) direction mask d is.lands (rw (length-round_at kept round is) place.small) same in
    let count : noise.count + (at / round.len * round.lands + lands_in (take (at % round.len) (round_at kept round))) ≡ noise.count + at / round.len * round.lands + direction = omega (arith, number) in
    ap (λ k. Land direction (mask_at noise (k + 1) mask)) count
by_direction kept round noise at d x is place same = refl

-- the step at a place of rounds with noise
noisy_place_step : (kept : List Step) (rounds : Rounds) (noise : Noise) (at : ℕ) (d : Step) → IsRounds kept rounds → at < rounds.count * rounds.round.len → IsPlaceInRound kept rounds.round at → get_or (noisy noise noise.count (repeated rounds.count (round_at kept rounds.round))) at d ≡ noisy_at noise rounds.round at (get_or (round_at kept rounds.round) (at % rounds.round.len) d)
noisy_place_step kept rounds noise at d is small place =
    let round = round_at kept rounds.round in
    let long = length-round_at kept rounds.round is.round in
    let all : length (repeated rounds.count round) ≡ rounds.count * rounds.round.len = length-rounds rounds.count round ∙ ap (λ k. rounds.count * k) long in
    noisy-rounds noise rounds.round.lands round rounds.count at rounds.round.len d long is.round.lands small all (quiet_step kept rounds at d is small place)
    ∙ by_direction kept rounds.round noise at d (get_or round (at % rounds.round.len) d) is.round place refl

pub quiet_place : (kept : List Step) (rounds : Rounds) (at : ℕ) (d : Step) → IsRounds kept rounds → at < length (stretch_of kept (Many rounds)) → rounds.noise ≡ None → slice_get (stretch_of kept (Many rounds)) at ≡ Some (slice_index_or kept (rounds.round.start + at % rounds.round.len) d)
quiet_place kept rounds at d is small none =
    let place = in_round kept rounds at is small in
    let less : at < rounds.count * rounds.round.len = subst (λ k. at < k) (length-stretch kept rounds is.round) small in
    let steps : stretch_of kept (Many rounds) ≡ repeated rounds.count (round_at kept rounds.round) = ap (λ (n : Option Noise). noisy_if n (repeated rounds.count (round_at kept rounds.round))) none in
    slice_get-get_or (stretch_of kept (Many rounds)) at d small ∙ ap Some (ap (λ (l : List Step). get_or l at d) steps ∙ quiet_step kept rounds at d is less place ∙ kept_step kept rounds.round at d place)

pub noisy_place : (kept : List Step) (rounds : Rounds) (noise : Noise) (at : ℕ) (d : Step) → IsRounds kept rounds → at < length (stretch_of kept (Many rounds)) → rounds.noise ≡ Some noise → slice_get (stretch_of kept (Many rounds)) at ≡ Some (noisy_at noise rounds.round at (slice_index_or kept (rounds.round.start + at % rounds.round.len) d))
noisy_place kept rounds noise at d is small some =
    let place = in_round kept rounds at is small in
    let less : at < rounds.count * rounds.round.len = subst (λ k. at < k) (length-stretch kept rounds is.round) small in
    let steps : stretch_of kept (Many rounds) ≡ noisy noise noise.count (repeated rounds.count (round_at kept rounds.round)) = ap (λ (n : Option Noise). noisy_if n (repeated rounds.count (round_at kept rounds.round))) some in
    slice_get-get_or (stretch_of kept (Many rounds)) at d small ∙ ap Some (ap (λ (l : List Step). get_or l at d) steps ∙ noisy_place_step kept rounds noise at d is less place ∙ ap (noisy_at noise rounds.round at) (kept_step kept rounds.round at d place))

place_of : (kept : Kept) (segments looked : List Segment) (len at n : ℕ) (w : WrittenFields) (d : Segment) → IsWritten kept segments len → record { kept = kept.steps; steps = steps_in kept segments } ≡ w → at < length w.steps → looked ≡ segments → n ≤ length looked → IsPartitionPoint (λ s. s.start ≤ at) (λ s. at < s.start) looked n
    → (0 < n) × IsPlace kept (get_or segments (n - 1) d) w.steps at
place_of kept segments looked len at n w d is view within same few point =
    let steps : steps_in kept segments ≡ w.steps = ap (λ (v : WrittenFields). v.steps) view in
    let n_few = subst (λ l. n ≤ length l) same few in
    let n_point = subst (λ l. IsPartitionPoint (λ s. s.start ≤ at) (λ s. at < s.start) l n) same point in
    rw (← steps) (place_in kept segments len at n d is (rw steps within) n_few n_point)

pub some_begun : (kept : Kept) (segments looked : List Segment) (len at n : ℕ) (w : WrittenFields) → IsWritten kept segments len → record { kept = kept.steps; steps = steps_in kept segments } ≡ w → at < length w.steps → looked ≡ segments → n ≤ length looked → IsPartitionPoint (λ s. s.start ≤ at) (λ s. at < s.start) looked n
    → 0 < n
some_begun kept segments looked len at n w is view within same few point =
    (place_of kept segments looked len at n w (record { start = 0; held = holds.One (Give 0) }) is view within same few point).0

pub place_at : (kept again : Kept) (segments looked : List Segment) (len at n : ℕ) (w : WrittenFields) (s : Segment) → IsWritten kept segments len → record { kept = kept.steps; steps = steps_in kept segments } ≡ w → at < length w.steps → looked ≡ segments → n ≤ length looked → IsPartitionPoint (λ s. s.start ≤ at) (λ s. at < s.start) looked n
    → s ≡ get_or segments (n - 1) s → again ≡ kept → IsPlace again s w.steps at
place_at kept again segments looked len at n w s is view within same few point found again_is =
    let place = (place_of kept segments looked len at n w s is view within same few point).1 in
    subst (λ (r : Kept). IsPlace r s w.steps at) (sym again_is) (subst (λ (t : Segment). IsPlace kept t w.steps at) (sym found) place)

-- the same two lists
pub same_kept : {kept again : List Step} {many more : List Rounds} → again ≡ kept → more ≡ many → kept_of again more ≡ kept_of kept many
same_kept kept_is many_is = cc (kept_is, many_is)
