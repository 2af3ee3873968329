-- The ends after a call in a direction.
use Rattle.std.proofs.Common.{◌≡◌, ◌≢◌, ◌<◌, ◌*◌, ◌+◌, ◌-◌, ◌/◌, ◌%◌, ◌==◌, ◌∙◌, ℕ, zero, suc, Bool, true, false, if◌then◌else◌, List, [], ◌∷◌, length, refl, sym, ap, subst, arith, eqb-true, eq-eqb}
use Rattle.std.specs.Prelude.{slice_set, slice_index_or}
use Rattle.std.proofs.lemmas.List.{length-set, get_or-set_same, get_or-set_other}
use Rattle.hmc_codes.specs.Link.{LinkFields}
use Rattle.hmc_case.specs.declared.setup.LinkRow.{LinkRow}
use Rattle.hmc_routes.specs.Directions.{other}
use Rattle.hmc_send.specs.LinkCalls.{LinkCall}
use Rattle.hmc_send.specs.LinkEntries as ways
use Rattle.hmc_send.specs.LinkEntries.{LinkEntry}
use Rattle.hmc_send.specs.declared.toward.Toward.{Toward}
use Rattle.hmc_send.specs.declared.toward.Toward.TheVariants.{Forth, Back}
use Rattle.hmc_ends.specs.Answers.{after_call}
use Rattle.hmc_ends.specs.End.{EndFields}
use Rattle.hmc_ends.specs.StandsFor.{EndsStandFor}
use Rattle.hmc_journal.specs.Links.{toward}
use Rattle.hmc_journal.proofs.Joins.{other_other, other_half, other_inside}
use Rattle.hmc_directions.specs.Ends.{EndsHold}
use Rattle.hmc_kept.specs.Called.{sizes_at, sizes_by, called}
use Rattle.hmc_kept.proofs.Called.{called_here, called_other}

-- ---- the two directions of a link

not_same : (a b : ℕ) → (a == b) ≡ false → a ≡ b → ⊥
not_same a b apart same = absurd (let is : (a == b) ≡ true = eq-eqb a b same in let clash : true ≡ false = sym is ∙ apart in cc)

by_test : (d : ℕ) (t : Bool) → (d % 2 == 0) ≡ t → (other d ≡ (if t then d + 1 else d - 1)) × (toward d ≡ (if t then Forth else Back))
by_test d t is = (ap (λ (b : Bool). if b then d + 1 else d - 1) is, ap (λ (b : Bool). if b then Forth else Back) is)

odd_one : (d : ℕ) → (d % 2 == 0) ≡ false → d % 2 ≡ 1
odd_one d is = let none = not_same (d % 2) 0 is in omega (arith, none)

even_as : (d : ℕ) → d % 2 ≡ 0 → (d % 2 == 0) ≡ true
even_as d is = eq-eqb (d % 2) 0 is

odd_as : (d : ℕ) (t : Bool) → (d % 2 == 0) ≡ t → d % 2 ≡ 1 → t ≡ false
odd_as d false is odd = refl
odd_as d true is odd = absurd (let e = eqb-true (d % 2) 0 is in omega arith)

-- the opposite direction goes the opposite way
pub other_way : (d : ℕ) → toward (other d) ≡ ways.other (toward d)
other_way d = by (d % 2 == 0) refl
  where
    by : (t : Bool) → (d % 2 == 0) ≡ t → toward (other d) ≡ ways.other (toward d)
    by true is =
        let e = eqb-true (d % 2) 0 is in
        let o : other d ≡ d + 1 = (by_test d true is).0 in
        let odd : (other d % 2 == 0) ≡ false = odd_as (other d) (other d % 2 == 0) refl (omega arith) in
        (by_test (other d) false odd).1 ∙ sym (ap ways.other (by_test d true is).1)
    by false is =
        let e = odd_one d is in
        let o : other d ≡ d - 1 = (by_test d false is).0 in
        (by_test (other d) true (even_as (other d) (omega arith))).1 ∙ sym (ap ways.other (by_test d false is).1)

pub other_apart : (d : ℕ) → other d ≢ d
other_apart d = by (d % 2 == 0) refl
  where
    by : (t : Bool) → (d % 2 == 0) ≡ t → other d ≢ d
    by true is same = let o = (by_test d true is).0 in omega arith
    by false is same = let o = (by_test d false is).0 in let e = odd_one d is in omega arith

-- the directions of a link are these two
pub same_link : (d at : ℕ) → d / 2 ≡ at / 2 → at ≢ d → at ≢ other d → ⊥
same_link d at half apart others = by (d % 2 == 0) refl
  where
    by : (t : Bool) → (d % 2 == 0) ≡ t → ⊥
    by true is = let e = eqb-true (d % 2) 0 is in let o = (by_test d true is).0 in omega (arith, apart, others)
    by false is = let e = odd_one d is in let o = (by_test d false is).0 in omega (arith, apart, others)

-- ---- the entries

-- ---- the ends

-- the ends of a direction are changed, and no others
pub record Changed (ends now : List EndFields) (direction : ℕ) (s l : EndFields) : Type 0 where
  pub count : length now ≡ length ends
  pub here : (d : EndFields) → slice_index_or now direction d ≡ s
  pub there : (d : EndFields) → slice_index_or now (other direction) d ≡ l
  pub rest : (at : ℕ) (d : EndFields) → at ≢ direction → at ≢ other direction → slice_index_or now at d ≡ slice_index_or ends at d

other_inside_of : (n d : ℕ) (rows : List LinkRow) → n ≡ 2 * length rows → d < n → other d < n
other_inside_of n d rows count less = let inside = other_inside d (length rows) (omega arith) in omega arith

pub other_there : (rows : List LinkRow) (ends : List EndFields) (entries : ℕ → List LinkEntry) (d : ℕ) → EndsHold rows ends entries → d < length ends → other d < length ends
other_there rows ends entries d hold less = other_inside_of (length ends) d rows hold.count less

-- the ends of a direction, seen from the other end of its link
flip : (link : LinkFields) (w v : Toward) (s l : EndFields) (past : List LinkEntry) → v ≡ ways.other w → EndsStandFor link w s l past → EndsStandFor link v l s past
flip link Forth v s l past is both = subst (λ (x : Toward). EndsStandFor link x l s past) (sym is) (record { sizes = both.sizes; kept = both.kept; sending = both.landing; landing = both.sending })
flip link Back v s l past is both = subst (λ (x : Toward). EndsStandFor link x l s past) (sym is) (record { sizes = both.sizes; kept = both.kept; sending = both.landing; landing = both.sending })

abbrev StandsAt : List LinkRow → (ℕ → List LinkEntry) → List EndFields → (at : ℕ) → EndFields → Type 0
StandsAt rows entries now at d = EndsStandFor (sizes_by rows at) (toward at) (slice_index_or now at d) (slice_index_or now (other at) d) (entries (at / 2))

stand_by : (rows : List LinkRow) (ends now : List EndFields) (entries : ℕ → List LinkEntry) (direction : ℕ) (call : Toward → LinkCall) (s l : EndFields) → Changed ends now direction s l
    → EndsStandFor (sizes_by rows direction) (toward direction) s l (after_call (sizes_by rows direction) (entries (direction / 2)) (call (toward direction)))
    → (at : ℕ) (d : EndFields) (one two half : Bool) → (at == direction) ≡ one → (at == other direction) ≡ two → (direction / 2 == at / 2) ≡ half → StandsAt rows entries ends at d → StandsAt rows (called rows direction call entries) now at d
stand_by rows ends now entries direction call s l change stands at d true two half is_one is_two is_half before =
    let same : at ≡ direction = eqb-true at direction is_one in
    subst (λ (n : ℕ). StandsAt rows (called rows direction call entries) now n d) (sym same)
    (subst (λ (e : EndFields). EndsStandFor (sizes_by rows direction) (toward direction) e (slice_index_or now (other direction) d) (called rows direction call entries (direction / 2))) (sym (change.here d))
    (subst (λ (e : EndFields). EndsStandFor (sizes_by rows direction) (toward direction) s e (called rows direction call entries (direction / 2))) (sym (change.there d))
    (subst (EndsStandFor (sizes_by rows direction) (toward direction) s l) (sym (called_here rows direction call entries)) stands)))
stand_by rows ends now entries direction call s l change stands at d false true half is_one is_two is_half before =
    let same : at ≡ other direction = eqb-true at (other direction) is_two in
    let back : other at ≡ direction = ap other same ∙ other_other direction in
    let link : at / 2 ≡ direction / 2 = ap (λ (n : ℕ). n / 2) same ∙ other_half direction in
    let way : toward at ≡ ways.other (toward direction) = ap toward same ∙ other_way direction in
    let here : slice_index_or now at d ≡ l = ap (λ (n : ℕ). slice_index_or now n d) same ∙ change.there d in
    let far : slice_index_or now (other at) d ≡ s = ap (λ (n : ℕ). slice_index_or now n d) back ∙ change.here d in
    subst (λ (n : ℕ). EndsStandFor (sizes_at rows n) (toward at) (slice_index_or now at d) (slice_index_or now (other at) d) (called rows direction call entries n)) (sym link)
    (subst (λ (e : EndFields). EndsStandFor (sizes_by rows direction) (toward at) e (slice_index_or now (other at) d) (called rows direction call entries (direction / 2))) (sym here)
    (subst (λ (e : EndFields). EndsStandFor (sizes_by rows direction) (toward at) l e (called rows direction call entries (direction / 2))) (sym far)
    (subst (EndsStandFor (sizes_by rows direction) (toward at) l s) (sym (called_here rows direction call entries))
    (flip (sizes_by rows direction) (toward direction) (toward at) s l _ way stands))))
stand_by rows ends now entries direction call s l change stands at d false false true is_one is_two is_half before =
    absurd (same_link direction at (eqb-true (direction / 2) (at / 2) is_half) (not_same at direction is_one) (not_same at (other direction) is_two))
stand_by rows ends now entries direction call s l change stands at d false false false is_one is_two is_half before =
    let one = not_same at direction is_one in
    let two = not_same at (other direction) is_two in
    let far_one : other at ≢ direction = λ is. two (sym (other_other at) ∙ ap other is) in
    let far_two : other at ≢ other direction = λ is. one (sym (other_other at) ∙ ap other is ∙ other_other direction) in
    subst (λ (e : EndFields). EndsStandFor (sizes_by rows at) (toward at) e (slice_index_or now (other at) d) (called rows direction call entries (at / 2))) (sym (change.rest at d one two))
    (subst (λ (e : EndFields). EndsStandFor (sizes_by rows at) (toward at) (slice_index_or ends at d) e (called rows direction call entries (at / 2))) (sym (change.rest (other at) d far_one far_two))
    (subst (EndsStandFor (sizes_by rows at) (toward at) (slice_index_or ends at d) (slice_index_or ends (other at) d)) (sym (called_other rows direction (at / 2) call entries is_half)) before))

-- all ends stand for the entries after a call, where those of its direction do
pub hold_after : (rows : List LinkRow) (ends now : List EndFields) (entries : ℕ → List LinkEntry) (direction : ℕ) (call : Toward → LinkCall) (s l : EndFields) → EndsHold rows ends entries → Changed ends now direction s l
    → EndsStandFor (sizes_by rows direction) (toward direction) s l (after_call (sizes_by rows direction) (entries (direction / 2)) (call (toward direction)))
    → EndsHold rows now (called rows direction call entries)
hold_after rows ends now entries direction call s l hold change stands = record {
  count = change.count ∙ hold.count;
  stand = λ at d less. (let inside : at < length ends = omega (arith, change.count) in
      stand_by rows ends now entries direction call s l change stands at d (at == direction) (at == other direction) (direction / 2 == at / 2) refl refl refl (hold.stand at d inside));
}

-- the end that sends in a direction is changed
pub changed_here : (rows : List LinkRow) (ends : List EndFields) (entries : ℕ → List LinkEntry) (direction : ℕ) (s l : EndFields) → EndsHold rows ends entries → direction < length ends → ((d : EndFields) → slice_index_or ends (other direction) d ≡ l) → Changed ends (slice_set ends direction s) direction s l
changed_here rows ends entries direction s l hold less far = record {
  count = length-set ends direction s;
  here = λ d. get_or-set_same ends direction s d less;
  there = λ d. get_or-set_other ends direction (other direction) s d (other_apart direction) ∙ far d;
  rest = λ at d one two. get_or-set_other ends direction at s d one;
}

-- the end where it lands is changed
pub changed_there : (rows : List LinkRow) (ends : List EndFields) (entries : ℕ → List LinkEntry) (direction : ℕ) (s l : EndFields) → EndsHold rows ends entries → direction < length ends → ((d : EndFields) → slice_index_or ends direction d ≡ s) → Changed ends (slice_set ends (other direction) l) direction s l
changed_there rows ends entries direction s l hold less near = record {
  count = length-set ends (other direction) l;
  here = λ d. get_or-set_other ends (other direction) direction l d (λ is. other_apart direction (sym is)) ∙ near d;
  there = λ d. get_or-set_same ends (other direction) l d (other_there rows ends entries direction hold less);
  rest = λ at d one two. get_or-set_other ends (other direction) at l d two;
}

-- an end that is there, whatever stands in for one that isn't
pub there_is : (ends : List EndFields) (at : ℕ) (d e : EndFields) → at < length ends → slice_index_or ends at d ≡ slice_index_or ends at e
there_is [] at d e less = absurd (omega arith)
there_is (x ∷ rest) zero d e less = refl
there_is (x ∷ rest) (suc at) d e less = there_is rest at d e (omega arith)
