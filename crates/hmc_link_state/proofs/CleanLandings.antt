-- A landing of a whole round, with a zero mask, is a lawful one.
use Rattle.std.proofs.Common.{◌≡◌, ◌≢◌, ℕ, zero, suc, ◌+◌, ◌-◌, ◌<◌, ◌≤◌, ◌==◌, nat_le, Bool, true, false, ◌&&◌, if◌then◌else◌, List, [], ◌∷◌, ◌++◌, length, ◌⊎◌, inl, inr, refl, sym, ◌∙◌, ap, subst, arith, append-nil}
use Rattle.std.proofs.lemmas.Grind.{common_steps}
use Rattle.hmc_numbers.specs.Weights.{upto, size}
use Rattle.hmc_numbers.specs.Direction.{Item, Reached, Direction, begun, rest, front_or, number_of}
use Rattle.hmc_numbers.specs.Direction.Item.{filler, clear, part}
use Rattle.hmc_numbers.specs.Direction.Filler.{null, train, start, pret}
use Rattle.hmc_numbers.specs.Direction.Reached.{training, aborting, between, inside, spoilt}
use Rattle.hmc_numbers.specs.Events.{Reading, Event, happens}
use Rattle.hmc_numbers.specs.Events.Reading.{plain, as_start, as_clear}
use Rattle.hmc_numbers.specs.Events.Event.{drops, trains, opens, passes, gathers, accepts, repeats, spoils, breaks}
use Rattle.hmc_numbers.specs.May.{IsGood, IsShut, IsSome, IsNoPart, IsMiddle, IsEnd, CanReadAs, May}
use Rattle.hmc_numbers.specs.Pair.{Half, event_at}
use Rattle.hmc_numbers.specs.Tokens.{cost, used_tokens}
use Rattle.hmc_numbers.specs.Turns.{MayHere, MayMove, MayCount, IsLong, IsPret}
use Rattle.hmc_numbers.proofs.Near.{real_front}
use Rattle.hmc_numbers.proofs.Step.{number_real}
use Rattle.hmc_numbers.proofs.Order.{Order}
use Rattle.hmc_numbers.proofs.DirectionLaws.{at_most_next}
use Rattle.hmc_link_state.specs.State.{Setup, Side, wire, flits_of}
use Rattle.hmc_link_state.specs.Round.{Reads, is_steady, event_in_good, event_in_abort, event_at_far, front, event_here, is_long, is_pret, is_counted_at, is_start_item, is_ran_start_at, token_flits, steady_after, costs_next}
use Rattle.hmc_link_state.specs.Facts.{SideFacts}
use Rattle.hmc_link_state.proofs.Chosen.{eq_same, not_same, most_le, most_not}
use Rattle.hmc_link_state.proofs.Lines.{far_lands}
use Rattle.hmc_link_state.specs.Landing.{IsLanding, move_of, reading_of, IsProper, MustCount, Ran, Lands}
use Rattle.hmc_link_state.proofs.TokenSums.{cost_next, flits-more}

pub some_front : (x : Item) (xs : List Item) → 1 ≤ length xs → xs ≡ front_or x xs ∷ rest xs
some_front x [] h = absurd (omega (arith, h))
some_front x (y ∷ ys) h = refl

reads_can : (i : Item) (look : Reading) → Reads i look → CanReadAs i look
reads_can (filler start) look h = subst (CanReadAs (filler start)) (sym h) tt
reads_can (filler null) look h = subst (CanReadAs (filler null)) (sym h) tt
reads_can (filler train) look h = subst (CanReadAs (filler train)) (sym h) tt
reads_can (filler pret) look h = subst (CanReadAs (filler pret)) (sym h) tt
reads_can clear look h = subst (CanReadAs clear) (sym h) tt
reads_can (part n zero more) look h = subst (CanReadAs (part n zero more)) (sym h) tt
reads_can (part n (suc k) more) plain h = tt
reads_can (part n (suc k) more) as_start h = omega arith
reads_can (part n (suc k) more) as_clear h = omega arith

-- the front of the line
record Front (w : Direction) (i : Item) : Type 0 where
  line : w.line ≡ i ∷ rest w.line
  front : front_or w.before w.line ≡ i

has_some : (w : Direction) (i : Item) → Front w i → IsSome w.line
has_some w i f = subst IsSome (sym f.line) tt

can_read : (w : Direction) (i : Item) (look : Reading) → Front w i → CanReadAs i look →
    CanReadAs (front_or w.before w.line) look
can_read w i look f h = subst (λ x. CanReadAs x look) (sym f.front) h

good_may : (r : ℕ) (w : Direction) (i : Item) → Order r w → Front w i → IsGood w.far →
    May r w (event_in_good w i)
good_may r w (filler start) o f g =
    (g, subst IsNoPart (sym f.line) tt, can_read w (filler start) as_start f tt)
good_may r w (filler null) o f g = (g, subst IsNoPart (sym f.line) tt, tt)
good_may r w (filler train) o f g = (g, subst IsNoPart (sym f.line) tt, tt)
good_may r w (filler pret) o f g = (g, subst IsNoPart (sym f.line) tt, tt)
good_may r w clear o f g = (g, subst IsNoPart (sym f.line) tt, can_read w clear as_clear f tt)
good_may r w (part n k (suc more)) o f g = (g, subst IsMiddle (sym f.line) tt)
good_may r w (part n k zero) o f g = by_next (n == w.accepted + 1) refl
  where
    e : IsEnd w.line
    e = subst IsEnd (sym f.line) tt

    n_is : number_of (front_or w.before w.line) ≡ n
    n_is = ap number_of f.front

    by_next : (b : Bool) → (n == w.accepted + 1) ≡ b → May r w (if b then accepts else repeats)
    by_next true q = (g, e, n_is ∙ eq_same n (w.accepted + 1) q)
    by_next false q =
        let l : n ≤ w.accepted + 1 = at_most_next r w o n k 0 (rest w.line) g f.line in
        let d : n ≢ w.accepted + 1 = not_same n (w.accepted + 1) q in
        (g, e, omega (arith, n_is, l, d))

abort_may : (r : ℕ) (w : Direction) (i : Item) (look : Reading) → Front w i → CanReadAs i look →
    w.far ≡ aborting → May r w (event_in_abort w.clear_run look)
abort_may r w i plain f h q = (subst IsShut (sym q) tt, has_some w i f, tt)
abort_may r w i as_start f h q =
    (subst IsShut (sym q) tt, has_some w i f, can_read w i as_start f h)
abort_may r w i as_clear f h q = by_run (w.clear_run == 23) refl
  where
    by_run : (b : Bool) → (w.clear_run == 23) ≡ b → May r w (if b then opens else drops as_clear)
    by_run true e = (q, has_some w i f, can_read w i as_clear f h, eq_same w.clear_run 23 e)
    by_run false e = (subst IsShut (sym q) tt, has_some w i f, can_read w i as_clear f h)

far_may : (r : ℕ) (x : Side) (look : Reading) (i : Item) (far : Reached) → Order r (wire x) →
    Front (wire x) i → CanReadAs i look → (wire x).far ≡ far →
    May r (wire x) (event_at_far x look i far)
far_may r x look i training o f h q = by_steady (is_steady i look && (x.steady == 7))
  where
    by_steady : (b : Bool) → May r (wire x) (if b then trains else drops look)
    by_steady true = (q, has_some (wire x) i f)
    by_steady false =
        (subst IsShut (sym q) tt, has_some (wire x) i f, can_read (wire x) i look f h)
far_may r x look i aborting o f h q = abort_may r (wire x) i look f h q
far_may r x look i between o f h q = good_may r (wire x) i o f (subst IsGood (sym q) tt)
far_may r x look i (inside n k) o f h q = good_may r (wire x) i o f (subst IsGood (sym q) tt)
far_may r x look i spoilt o f h q = by_missing (nat_le x.missing 1)
  where
    by_missing : (b : Bool) → May r (wire x) (if b then breaks false else spoils false)
    by_missing true = (
      subst (λ y. Rattle.hmc_numbers.specs.May.IsTouched y false) (sym q) tt,
      has_some (wire x) i f,
    )
    by_missing false = (
      subst (λ y. Rattle.hmc_numbers.specs.May.IsTouched y false) (sym q) tt,
      has_some (wire x) i f,
    )

-- a landing is May and MayHere
here_landing : (r adv : ℕ) (own other : Half) (e : Event) → IsLanding e → May r own.direction e →
    MayHere r adv own other e
here_landing r adv own other (drops look) h m = m
here_landing r adv own other trains h m = m
here_landing r adv own other opens h m = m
here_landing r adv own other (passes look) h m = m
here_landing r adv own other gathers h m = m
here_landing r adv own other accepts h m = m
here_landing r adv own other repeats h m = m
here_landing r adv own other (spoils c) h m = m
here_landing r adv own other (breaks c) h m = m
here_landing r adv own other e h m = absurd h

-- what is counted

long_is : (x : Side) (look : Reading) → is_long x look ≡ true → IsLong (wire x) look
long_is x plain h = absurd (cc h)
long_is x as_start h = most_le 23 (wire x).start_run h
long_is x as_clear h = most_le 23 (wire x).clear_run h

is_longer : (x : Side) (look : Reading) → IsLong (wire x) look → is_long x look ≡ true
is_longer x plain h = absurd h
is_longer x as_start h = grind (arith, common_steps)
is_longer x as_clear h = grind (arith, common_steps)

pub pret_is : (i : Item) → is_pret i ≡ true → IsPret i
pret_is (filler pret) h = tt
pret_is (filler null) h = absurd (cc h)
pret_is (filler train) h = absurd (cc h)
pret_is (filler start) h = absurd (cc h)
pret_is clear h = absurd (cc h)
pret_is (part n k more) h = absurd (cc h)

pub is_a_pret : (i : Item) → IsPret i → is_pret i ≡ true
is_a_pret (filler pret) h = refl
is_a_pret (filler null) h = absurd h
is_a_pret (filler train) h = absurd h
is_a_pret (filler start) h = absurd h
is_a_pret clear h = absurd h
is_a_pret (part n k more) h = absurd h

counted_may : (x : Side) (far : Reached) (e : Event) → (wire x).far ≡ far →
    is_counted_at x far e ≡ true → MayCount (wire x) e
counted_may x aborting (drops look) q h = (q, long_is x look h)
counted_may x training (drops look) q h = absurd (cc h)
counted_may x between (drops look) q h = absurd (cc h)
counted_may x (inside n k) (drops look) q h = absurd (cc h)
counted_may x spoilt (drops look) q h = absurd (cc h)
counted_may x aborting opens q h = tt
counted_may x far opens q h = tt
counted_may x aborting (passes plain) q h = inr (pret_is (front x) h)
counted_may x far (passes plain) q h = inr (pret_is (front x) h)
counted_may x aborting (passes as_start) q h = inl (long_is x as_start h)
counted_may x far (passes as_start) q h = inl (long_is x as_start h)
counted_may x aborting (passes as_clear) q h = inl (long_is x as_clear h)
counted_may x far (passes as_clear) q h = inl (long_is x as_clear h)
counted_may x aborting accepts q h = tt
counted_may x far accepts q h = tt
counted_may x aborting repeats q h = tt
counted_may x far repeats q h = tt
counted_may x aborting e q h = absurd (cc h)
counted_may x far e q h = absurd (cc h)

not_pret : (i : Item) (look : Reading) → look ≡ reading_of i → look ≢ plain → IsPret i → ⊥
not_pret (filler pret) look q n h = n q
not_pret (filler null) look q n h = h
not_pret (filler train) look q n h = h
not_pret (filler start) look q n h = h
not_pret clear look q n h = h
not_pret (part m k more) look q n h = h

passes_counted : (x : Side) (look : Reading) → look ≡ reading_of (front x) → IsLong (wire x) look
    ⊎ IsPret (front x) → is_counted_at x between (passes look) ≡ true
passes_counted x plain q (inl h) = absurd h
passes_counted x plain q (inr h) = is_a_pret (front x) h
passes_counted x as_start q (inl h) = is_longer x as_start h
passes_counted x as_start q (inr h) = absurd (not_pret (front x) as_start q (λ z. absurd (cc z)) h)
passes_counted x as_clear q (inl h) = is_longer x as_clear h
passes_counted x as_clear q (inr h) = absurd (not_pret (front x) as_clear q (λ z. absurd (cc z)) h)

far_passes : (x : Side) (far : Reached) (look : Reading) →
    is_counted_at x far (passes look) ≡ is_counted_at x between (passes look)
far_passes x aborting plain = refl
far_passes x far plain = refl
far_passes x aborting as_start = refl
far_passes x far as_start = refl
far_passes x aborting as_clear = refl
far_passes x far as_clear = refl

must_counted : (x : Side) (far : Reached) (e : Event) → IsProper (front x) e →
    MustCount (wire x) e → is_counted_at x far e ≡ true
must_counted x aborting opens p m = refl
must_counted x far opens p m = refl
must_counted x aborting accepts p m = refl
must_counted x far accepts p m = refl
must_counted x aborting repeats p m = refl
must_counted x far repeats p m = refl
must_counted x far (passes look) p m = far_passes x far look ∙ passes_counted x look p m
must_counted x far e p m = absurd m

good_proper : (w : Direction) (i : Item) → IsProper i (event_in_good w i)
good_proper w (filler start) = refl
good_proper w (filler null) = refl
good_proper w (filler train) = refl
good_proper w (filler pret) = refl
good_proper w clear = refl
good_proper w (part n k (suc more)) = tt
good_proper w (part n k zero) = by_next (n == w.accepted + 1)
  where
    by_next : (b : Bool) → IsProper (part n k zero) (if b then accepts else repeats)
    by_next true = tt
    by_next false = tt

far_proper : (x : Side) (look : Reading) (i : Item) (far : Reached) →
    IsProper i (event_at_far x look i far)
far_proper x look i training = by_b (is_steady i look && (x.steady == 7))
  where
    by_b : (b : Bool) → IsProper i (if b then trains else drops look)
    by_b true = tt
    by_b false = tt
far_proper x plain i aborting = tt
far_proper x as_start i aborting = tt
far_proper x as_clear i aborting = by_b ((wire x).clear_run == 23)
  where
    by_b : (b : Bool) → IsProper i (if b then opens else drops as_clear)
    by_b true = tt
    by_b false = tt
far_proper x look i between = good_proper (wire x) i
far_proper x look i (inside n k) = good_proper (wire x) i
far_proper x look i spoilt = by_b (nat_le x.missing 1)
  where
    by_b : (b : Bool) → IsProper i (if b then breaks false else spoils false)
    by_b true = tt
    by_b false = tt

good_ran : (w : Direction) (i : Item) → (is_start_item i && (w.start_run == 23)) ≡ true →
    Ran w (event_in_good w i)
good_ran w (filler start) h = eq_same w.start_run 23 h
good_ran w (filler null) h = absurd (cc h)
good_ran w (filler train) h = absurd (cc h)
good_ran w (filler pret) h = absurd (cc h)
good_ran w clear h = absurd (cc h)
good_ran w (part n k more) h = absurd (cc h)

far_ran : (x : Side) (look : Reading) (far : Reached) → is_ran_start_at x far look ≡ true →
    Ran (wire x) (event_at_far x look (front x) far)
far_ran x look training h = absurd (cc h)
far_ran x plain aborting h = absurd (cc h)
far_ran x as_start aborting h = eq_same (wire x).start_run 23 h
far_ran x as_clear aborting h = absurd (cc h)
far_ran x look between h = good_ran (wire x) (front x) h
far_ran x look (inside n k) h = good_ran (wire x) (front x) h
far_ran x look spoilt h = absurd (cc h)

-- a changed gathering lacks one less

good_not_spoilt : (w : Direction) (i : Item) → (happens w (event_in_good w i)).far ≡ spoilt → ⊥
good_not_spoilt w (filler start) h = cc h
good_not_spoilt w (filler null) h = cc h
good_not_spoilt w (filler train) h = cc h
good_not_spoilt w (filler pret) h = cc h
good_not_spoilt w clear h = cc h
good_not_spoilt w (part n k (suc more)) h = cc h
good_not_spoilt w (part n k zero) h = by_next (n == w.accepted + 1) h
  where
    by_next : (b : Bool) → (happens w (if b then accepts else repeats)).far ≡ spoilt → ⊥
    by_next true q = cc q
    by_next false q = cc q

far_lacks : (x : Side) (look : Reading) (i : Item) (far : Reached) → (wire x).far ≡ far →
    ((wire x).far ≡ spoilt → (1 ≤ x.missing) × (x.missing ≤ 16)) →
    (happens (wire x) (event_at_far x look i far)).far ≡ spoilt → (1 ≤ x.missing - 1)
    × (x.missing - 1 ≤ 16)
far_lacks x look i training q f h = absurd (by_b (is_steady i look && (x.steady == 7)) h)
  where
    by_b : (b : Bool) → (happens (wire x) (if b then trains else drops look)).far ≡ spoilt → ⊥
    by_b true z = cc z
    by_b false z = let y : training ≡ spoilt = sym q ∙ z in cc y
far_lacks x plain i aborting q f h = absurd (let y : aborting ≡ spoilt = sym q ∙ h in cc y)
far_lacks x as_start i aborting q f h = absurd (let y : aborting ≡ spoilt = sym q ∙ h in cc y)
far_lacks x as_clear i aborting q f h = absurd (by_b ((wire x).clear_run == 23) h)
  where
    by_b : (b : Bool) → (happens (wire x) (if b then opens else drops as_clear)).far ≡ spoilt → ⊥
    by_b true z = cc z
    by_b false z = let y : aborting ≡ spoilt = sym q ∙ z in cc y
far_lacks x look i between q f h = absurd (good_not_spoilt (wire x) i h)
far_lacks x look i (inside n k) q f h = absurd (good_not_spoilt (wire x) i h)
far_lacks x look i spoilt q f h = by_b (nat_le x.missing 1) refl h
  where
    by_b : (b : Bool) → nat_le x.missing 1 ≡ b →
        (happens (wire x) (if b then breaks false else spoils false)).far ≡ spoilt →
        (1 ≤ x.missing - 1) × (x.missing - 1 ≤ 16)
    by_b true e z = absurd (cc z)
    by_b false e z =
        let l = most_not x.missing 1 e in let k = f q in (omega (arith, l), omega (arith, k.1))

-- the buffer

abbrev pub buffer_after : (x : Side) → Bool → Event → List ℕ
buffer_after x costs e = if costs then x.buffer ++ token_flits x e else x.buffer

same_buffer : (costs : Bool) (b : List ℕ) → flits_of (if costs then b ++ [] else b) ≡ flits_of b
same_buffer true b = ap flits_of (append-nil b)
same_buffer false b = refl

more_buffer : (costs : Bool) (b : List ℕ) (n : ℕ) →
    flits_of (if costs then b ++ n ∷ [] else b) ≡ flits_of b + (if costs then n else 0)
more_buffer true b n = flits-more b n
more_buffer false b n = omega arith

pub accepts_below : (r : ℕ) (w : Direction) → Order r w →
    number_of (front_or w.before w.line) ≡ w.accepted + 1 → w.accepted < begun w
accepts_below r w o q =
    let b =
    number_real w.first (front_or w.before w.line)
    (real_front r w.first w.accepted w.before w.line o.real o.near) in omega (arith, q, b)

fills_after : (r adv : ℕ) (x : Side) (e : Event) → IsLanding e → Order r (wire x) →
    May r (wire x) e → x.half.moved ≤ upto cost (wire x).first (wire x).accepted →
    flits_of x.buffer ≡ used_tokens x.half →
    flits_of (buffer_after x (costs_next x) e) ≡ used_tokens (event_at x.half 0 e)
fills_after r adv x accepts h o m u f =
    let z = cost_next (wire x).first (wire x).accepted (accepts_below r (wire x) o m.2) in
    let y = more_buffer (costs_next x) x.buffer (size (wire x).first ((wire x).accepted + 1)) in
    omega (arith, z, y, f, u)
fills_after r adv x (drops look) h o m u f = same_buffer (costs_next x) x.buffer ∙ f
fills_after r adv x trains h o m u f = same_buffer (costs_next x) x.buffer ∙ f
fills_after r adv x opens h o m u f = same_buffer (costs_next x) x.buffer ∙ f
fills_after r adv x (passes look) h o m u f = same_buffer (costs_next x) x.buffer ∙ f
fills_after r adv x gathers h o m u f = same_buffer (costs_next x) x.buffer ∙ f
fills_after r adv x repeats h o m u f = same_buffer (costs_next x) x.buffer ∙ f
fills_after r adv x (spoils c) h o m u f = same_buffer (costs_next x) x.buffer ∙ f
fills_after r adv x (breaks c) h o m u f = same_buffer (costs_next x) x.buffer ∙ f
fills_after r adv x e h o m u f = absurd h

may_move : (r adv : ℕ) (own other : Half) (b : Bool) (e : Event) → MayHere r adv own other e →
    (b ≡ true → MayCount own.direction e) → MayMove r adv own other (move_of b e)
may_move r adv own other true e m k = (m, k refl)
may_move r adv own other false e m k = m

pub here_may : (c : Setup) (own other : Side) (look : Reading) → SideFacts c own other →
    1 ≤ length (wire own).line → Reads (front own) look →
    May c.retry (wire own) (event_here own look)
here_may c own other look f l h =
    far_may c.retry own look (front own) (wire own).far f.joined.order
    (record { line = some_front (wire own).before (wire own).line l; front = refl })
    (reads_can (front own) look h) refl

not_23 : (w : Direction) (look : Reading) → event_in_abort w.clear_run look ≡ drops as_clear →
    w.clear_run ≢ 23
not_23 w plain h q = absurd (cc h)
not_23 w as_start h q = absurd (cc h)
not_23 w as_clear h q = by_run (w.clear_run == 23) refl h
  where
    by_run : (b : Bool) → (w.clear_run == 23) ≡ b →
        (if b then opens else drops as_clear) ≡ drops as_clear → ⊥
    by_run true e z = cc z
    by_run false e z = not_same w.clear_run 23 e q

far_few : (x : Side) (look : Reading) (i : Item) (far : Reached) →
    event_at_far x look i far ≡ drops as_clear → far ≡ aborting → (wire x).clear_run ≢ 23
far_few x look i aborting h q = not_23 (wire x) look h
far_few x look i training h q = absurd (cc q)
far_few x look i between h q = absurd (cc q)
far_few x look i (inside n k) h q = absurd (cc q)
far_few x look i spoilt h q = absurd (cc q)

good_not_training : (w : Direction) (i : Item) → (happens w (event_in_good w i)).far ≡ training → ⊥
good_not_training w (filler start) h = cc h
good_not_training w (filler null) h = cc h
good_not_training w (filler train) h = cc h
good_not_training w (filler pret) h = cc h
good_not_training w clear h = cc h
good_not_training w (part n k (suc more)) h = cc h
good_not_training w (part n k zero) h = by_next (n == w.accepted + 1) h
  where
    by_next : (b : Bool) → (happens w (if b then accepts else repeats)).far ≡ training → ⊥
    by_next true q = cc q
    by_next false q = cc q

far_pace : (x : Side) (look : Reading) (far : Reached) → (wire x).far ≡ far →
    ((wire x).far ≡ training → x.steady ≤ 7) →
    (happens (wire x) (event_at_far x look (front x) far)).far ≡ training → steady_after x look ≤ 7
far_pace x look training q f h = by_steady (is_steady (front x) look) refl
  where
    by_seven : (b : Bool) → (x.steady == 7) ≡ b →
        (happens (wire x) (if b then trains else drops look)).far ≡ training → x.steady + 1 ≤ 7
    by_seven true e z = absurd (cc z)
    by_seven false e z = let n = not_same x.steady 7 e in omega (arith, n, f q)

    by_steady : (b : Bool) → is_steady (front x) look ≡ b → (if b then x.steady + 1 else 0) ≤ 7
    by_steady true e =
        by_seven (x.steady == 7) refl
        (subst (λ b. (happens (wire x) (if b && (x.steady == 7) then trains else drops look)).far
        ≡ training) e h)
    by_steady false e = omega arith
far_pace x plain aborting q f h = absurd (let y : aborting ≡ training = sym q ∙ h in cc y)
far_pace x as_start aborting q f h = absurd (let y : aborting ≡ training = sym q ∙ h in cc y)
far_pace x as_clear aborting q f h = absurd (by_b ((wire x).clear_run == 23) h)
  where
    by_b : (b : Bool) → (happens (wire x) (if b then opens else drops as_clear)).far ≡ training → ⊥
    by_b true z = cc z
    by_b false z = let y : aborting ≡ training = sym q ∙ z in cc y
far_pace x look between q f h = absurd (good_not_training (wire x) (front x) h)
far_pace x look (inside n k) q f h = absurd (good_not_training (wire x) (front x) h)
far_pace x look spoilt q f h = absurd (by_b (nat_le x.missing 1) h)
  where
    by_b : (b : Bool) →
        (happens (wire x) (if b then breaks false else spoils false)).far ≡ training → ⊥
    by_b true z = cc z
    by_b false z = cc z

pub here_pace : (c : Setup) (own other : Side) (look : Reading) → SideFacts c own other →
    (happens (wire own) (event_here own look)).far ≡ training → steady_after own look ≤ 7
here_pace c own other look f h = far_pace own look (wire own).far refl f.steady h

pub here_lands : (c : Setup) (own other : Side) (look : Reading) → SideFacts c own other →
    1 ≤ length (wire own).line → Reads (front own) look →
    Lands c own other (event_here own look)
    (is_counted_at own (wire own).far (event_here own look))
    (is_ran_start_at own (wire own).far look) (own.missing - 1)
    (buffer_after own (costs_next own) (event_here own look))
here_lands c own other look f l h =
    let e : Event = event_here own look in
    let i : IsLanding e = far_lands own look (front own) (wire own).far in
    let m : May c.retry (wire own) e = here_may c own other look f l h in
    let p : IsProper (front own) e = far_proper own look (front own) (wire own).far in
    record {
      landing = i;
      may =
          may_move c.retry c.tokens own.half other.half (is_counted_at own (wire own).far e) e
          (here_landing c.retry c.tokens own.half other.half e i m)
          (counted_may own (wire own).far e refl);
      proper = p;
      counted = must_counted own (wire own).far e p;
      ended = far_ran own look (wire own).far;
      few = far_few own look (front own) (wire own).far;
      lacks = far_lacks own look (front own) (wire own).far refl f.missing;
      fills = fills_after c.retry c.tokens own e i f.joined.order m f.joined.used f.buffer;
    }
