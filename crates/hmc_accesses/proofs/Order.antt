-- The order within each unit and under each tag decides what is before each thing in its unit.
use Rattle.std.proofs.Common.{◌≡◌, ◌∙◌, Bool, true, false, List, [], ◌∷◌, ◌++◌, refl, sym, ap, subst, append_assoc, append-nil}
use Rattle.std.specs.Prelude.{filter, if◌then◌else◌}
use Rattle.std.specs.List.{All}
use Rattle.std.proofs.lemmas.List.Elements.{filter-append, All-head, All-tail}
use Rattle.hmc_hops.specs.Delivered.{IsPrefix}
use Rattle.hmc_accesses.proofs.Histories.{After, after_units}

-- each thing belongs to at most one class
abbrev pub IsClassed : {X C : Type 0} → (C → X → Bool) → Type 0
IsClassed {X = X} {C = C} test = (c d : C) (x : X) → test c x ≡ true → test d x ≡ true → c ≡ d

head_is : {X : Type 0} (x y : X) (xs ys : List X) → x ∷ xs ≡ y ∷ ys → x ≡ y
head_is x y xs ys same = cc

tail_is : {X : Type 0} (x y : X) (xs ys : List X) → x ∷ xs ≡ y ∷ ys → xs ≡ ys
tail_is x y xs ys same = cc

-- a filter at one thing more
kept : {X : Type 0} (p : X → Bool) (x : X) (xs : List X) → p x ≡ true →
    filter p (x ∷ xs) ≡ x ∷ filter p xs
kept p x xs is = ap (λ b. if b then x ∷ filter p xs else filter p xs) is

left_out : {X : Type 0} (p : X → Bool) (x : X) (xs : List X) → p x ≡ false →
    filter p (x ∷ xs) ≡ filter p xs
left_out p x xs is = ap (λ b. if b then x ∷ filter p xs else filter p xs) is

-- a list cut at one thing
pub record Cut {X : Type 0} (p q : X → Bool) (e : X) (all : List X) : Type 0 where
  pub front : List X
  pub back : List X
  pub is : all ≡ front ++ e ∷ back
  pub none_p : filter p front ≡ []
  pub none_q : filter q front ≡ []

cut_more : {X : Type 0} (p q : X → Bool) (e g : X) (all : List X) → p g ≡ false → q g ≡ false →
    Cut p q e all → Cut p q e (g ∷ all)
cut_more p q e g all no_p no_q cut = record {
  front = g ∷ cut.front;
  back = cut.back;
  is = ap (λ l. g ∷ l) cut.is;
  none_p = left_out p g cut.front no_p ∙ cut.none_p;
  none_q = left_out q g cut.front no_q ∙ cut.none_q;
}

cut_here : {X : Type 0} (p q : X → Bool) (e g : X) (all : List X) → g ≡ e → Cut p q e (g ∷ all)
cut_here p q e g all same = record {
  front = [];
  back = all;
  is = ap (λ x. x ∷ all) same;
  none_p =
      refl;
  none_q = refl;
}

both_by : {X : Type 0} (p q : X → Bool) (e g : X) (all ps qs : List X) (a b : Bool) → p g ≡ a →
    q g ≡ b → filter p (g ∷ all) ≡ e ∷ ps → filter q (g ∷ all) ≡ e ∷ qs
    → (filter p all ≡ e ∷ ps → filter q all ≡ e ∷ qs → Cut p q e all) → Cut p q e (g ∷ all)
both_by p q e g all ps qs true b is_p is_q first_p first_q more =
    cut_here p q e g all (head_is g e (filter p all) ps (sym (kept p g all is_p) ∙ first_p))
both_by p q e g all ps qs false true is_p is_q first_p first_q more =
    cut_here p q e g all (head_is g e (filter q all) qs (sym (kept q g all is_q) ∙ first_q))
both_by p q e g all ps qs false false is_p is_q first_p first_q more =
    cut_more p q e g all is_p is_q (more (sym (left_out p g all is_p) ∙ first_p)
    (sym (left_out q g all is_q) ∙ first_q))

-- what is first by two tests is at one place
pub both_first : {X : Type 0} (p q : X → Bool) (e : X) (all ps qs : List X) → filter p all ≡ e ∷ ps
    → filter q all ≡ e ∷ qs → Cut p q e all
both_first p q e [] ps qs first_p first_q = absurd (cc)
both_first p q e (g ∷ all) ps qs first_p first_q =
    both_by p q e g all ps qs (p g) (q g) refl refl first_p first_q (both_first p q e all ps qs)

-- without the thing where the list was cut, a list that begins with it under some test begins with
-- the rest
rest_after : {X : Type 0} (r : X → Bool) (e : X) (front back done rest : List X) (b : Bool) →
    r e ≡ b → (r e ≡ true → filter r front ≡ []) →
    filter r (front ++ e ∷ back) ≡ filter r (e ∷ done) ++ rest →
    filter r (front ++ back) ≡ filter r done ++ rest
rest_after r e front back done rest true is none begins =
    let clear = none is in
    let whole : e ∷ filter r back ≡ e ∷ (filter r done ++ rest) =
    sym (filter-append r front (e ∷ back) ∙ ap (λ l. l ++ filter r (e ∷ back)) clear
    ∙ kept r e back is)
    ∙ begins ∙ ap (λ l. l ++ rest) (kept r e done is) in
    filter-append r front back ∙ ap (λ l. l ++ filter r back) clear
    ∙ tail_is e e (filter r back) (filter r done ++ rest) whole
rest_after r e front back done rest false is none begins =
    filter-append r front back ∙ ap (λ l. filter r front ++ l) (sym (left_out r e back is))
    ∙ sym (filter-append r front (e ∷ back))
    ∙ begins ∙ ap (λ l. l ++ rest) (left_out r e done is)

-- what is before a thing counts by units alone
same_after : {X U : Type 0} (in_unit : U → X → Bool) (unit : X → U) (one other all : List X) →
    ((u : U) → filter (in_unit u) one ≡ filter (in_unit u) other) →
    after_units in_unit unit one all ≡ after_units in_unit unit other all
same_after in_unit unit one other [] same = refl
same_after {U = U} in_unit unit one other (x ∷ xs) same =
    let more : (u : U) → filter (in_unit u) (one ++ x ∷ []) ≡ filter (in_unit u) (other ++ x ∷ []) =
    λ u. filter-append (in_unit u) one (x ∷ []) ∙ ap (λ l. l ++ filter (in_unit u) (x ∷ []))
    (same u) ∙ sym (filter-append (in_unit u) other (x ∷ [])) in
    ap (λ l. (record { item = x; earlier = l }) ∷ after_units in_unit unit (one ++ x ∷ []) xs)
    (same (unit x))
    ∙ ap (λ l. (record { item = x; earlier = filter (in_unit (unit x)) other }) ∷ l)
    (same_after in_unit unit (one ++ x ∷ []) (other ++ x ∷ []) xs more)

-- a thing of the unit that no thing of a list is of
not_of : {X U : Type 0} (in_unit : U → X → Bool) (unit : X → U) → IsClassed in_unit →
    ((x : X) → in_unit (unit x) x ≡ true) → (e x : X) (b c : Bool) → in_unit (unit e) x ≡ b →
    in_unit (unit x) e ≡ c → b ≡ false → c ≡ false
not_of in_unit unit classed own e x b false is other apart = refl
not_of in_unit unit classed own e x true true is other apart = absurd (cc)
not_of in_unit unit classed own e x false true is other apart =
    let same = classed (unit x) (unit e) e other (own e) in
    let own_x : in_unit (unit e) x ≡ true = subst (λ u. in_unit u x ≡ true) same (own x) in
    absurd (cc)

first_out : {X : Type 0} (p : X → Bool) (x : X) (xs : List X) (b : Bool) → p x ≡ b →
    filter p (x ∷ xs) ≡ [] → (p x ≡ false) × (filter p xs ≡ [])
first_out p x xs true is none = absurd (let more = sym (kept p x xs is) ∙ none in cc)
first_out p x xs false is none = (is, sym (left_out p x xs is) ∙ none)

-- things of other units do not count
apart_after : {X U : Type 0} (in_unit : U → X → Bool) (unit : X → U) → IsClassed in_unit →
    ((x : X) → in_unit (unit x) x ≡ true) → (e : X) (one other all : List X)
    → ((u : U) → in_unit u e ≡ false → filter (in_unit u) one ≡ filter (in_unit u) other) →
    filter (in_unit (unit e)) all ≡ [] → after_units in_unit unit one all ≡ after_units in_unit
    unit other all
apart_after in_unit unit classed own e one other [] same none = refl
apart_after {U = U} in_unit unit classed own e one other (x ∷ xs) same none =
    let out = first_out (in_unit (unit e)) x xs (in_unit (unit e) x) refl none in
    let apart = not_of in_unit unit classed own e x (in_unit (unit e) x) (in_unit (unit x) e) refl
    refl out.0 in
    let more : (u : U) → in_unit u e ≡ false →
    filter (in_unit u) (one ++ x ∷ []) ≡ filter (in_unit u) (other ++ x ∷ []) =
    λ u other_unit. filter-append (in_unit u) one (x ∷ [])
    ∙ ap (λ l. l ++ filter (in_unit u) (x ∷ [])) (same u other_unit)
    ∙ sym (filter-append (in_unit u) other (x ∷ [])) in
    ap (λ l. (record { item = x; earlier = l }) ∷ after_units in_unit unit (one ++ x ∷ []) xs)
    (same (unit x) apart)
    ∙ ap (λ l. (record { item = x; earlier = filter (in_unit (unit x)) other }) ∷ l)
    (apart_after in_unit unit classed own e (one ++ x ∷ []) (other ++ x ∷ []) xs more out.1)

pub after-append : {X U : Type 0} (in_unit : U → X → Bool) (unit : X → U) (before xs ys : List X) →
    after_units in_unit unit before (xs ++ ys) ≡ after_units in_unit unit before xs
    ++ after_units in_unit unit (before ++ xs) ys
after-append in_unit unit before [] ys =
    ap (λ b. after_units in_unit unit b ys) (sym (append-nil before))
after-append in_unit unit before (x ∷ xs) ys =
    ap (λ l. (record { item = x; earlier = filter (in_unit (unit x)) before }) ∷ l)
    (after-append in_unit unit (before ++ x ∷ []) xs ys
    ∙ ap (λ b. after_units in_unit unit (before ++ x ∷ []) xs ++ after_units in_unit unit b ys)
    (append_assoc before (x ∷ []) xs))

-- a test of things, for things with what is before them
abbrev pub of_item : {X : Type 0} → (X → Bool) → After X → Bool
of_item test after = test after.item

none_after : {X U : Type 0} (in_unit : U → X → Bool) (unit : X → U) (p : X →
    Bool) (before all : List X) → filter p all ≡ [] →
    filter (of_item p) (after_units in_unit unit before all) ≡ []
none_after in_unit unit p before [] none = refl
none_after in_unit unit p before (x ∷ xs) none =
    let out = first_out p x xs (p x) refl none in
    left_out (of_item p) (record { item = x; earlier = filter (in_unit (unit x)) before })
    (after_units in_unit unit (before ++ x ∷ []) xs) out.0
    ∙ none_after in_unit unit p (before ++ x ∷ []) xs out.1

-- the thing is put back
put_back : {X : Type 0} (p : X → Bool) (e : X) (front back done rest : List X) (b : Bool) →
    p e ≡ b → (p e ≡ true → filter p front ≡ []) → filter p (front ++ back) ≡ filter p done ++ rest
    → filter p (front ++ e ∷ back) ≡ filter p (e ∷ done) ++ rest
put_back p e front back done rest true is none begins =
    let clear = none is in
    let left : filter p back ≡ filter p done ++ rest = sym (filter-append p front back
    ∙ ap (λ l. l ++ filter p back) clear) ∙ begins in
    filter-append p front (e ∷ back) ∙ ap (λ l. l ++ filter p (e ∷ back)) clear ∙ kept p e back is
    ∙ ap (λ l. e ∷ l) left ∙ ap (λ l. l ++ rest) (sym (kept p e done is))
put_back p e front back done rest false is none begins =
    filter-append p front (e ∷ back) ∙ ap (λ l. filter p front ++ l) (left_out p e back is)
    ∙ sym (filter-append p front back) ∙ begins
    ∙ ap (λ l. l ++ rest) (sym (left_out p e done is))

-- the order of two things of different units is free
swapped : {X : Type 0} (p : X → Bool) (e : X) (before front : List X) (b : Bool) → p e ≡ b →
    (p e ≡ true → filter p front ≡ []) → filter p ((before ++ front) ++ e ∷ []) ≡ filter p
    ((before ++ e ∷ []) ++ front)
swapped p e before front true is none =
    let clear = none is in
    filter-append p (before ++ front) (e ∷ [])
    ∙ ap (λ l. l ++ filter p (e ∷ [])) (filter-append p before front
    ∙ ap (λ l. filter p before ++ l) clear ∙ append-nil (filter p before))
    ∙ sym (filter-append p (before ++ e ∷ []) front
    ∙ ap (λ l. filter p (before ++ e ∷ []) ++ l) clear
    ∙ append-nil (filter p (before ++ e ∷ [])) ∙ filter-append p before (e ∷ []))
swapped p e before front false is none =
    filter-append p (before ++ front) (e ∷ []) ∙ ap (λ l. filter p (before ++ front) ++ l)
    (left_out p e [] is) ∙ append-nil (filter p (before ++ front))
    ∙ filter-append p before front
    ∙ sym (filter-append p (before ++ e ∷ []) front
    ∙ ap (λ l. l ++ filter p front) (filter-append p before (e ∷ [])
    ∙ ap (λ l. filter p before ++ l) (left_out p e [] is) ∙ append-nil (filter p before)))

without : {X : Type 0} (p : X → Bool) (e : X) (before : List X) → p e ≡ false →
    filter p (before ++ e ∷ []) ≡ filter p before
without p e before is = filter-append p before (e ∷ [])
    ∙ ap (λ l. filter p before ++ l) (left_out p e [] is) ∙ append-nil (filter p before)

-- what is asked and done, both ways of classing it
pub record Ways {X U T : Type 0} (in_unit : U → X → Bool) (unit : X → U) (under : T → X →
    Bool) : Type 0 where
  pub units : IsClassed in_unit
  pub own : (x : X) → in_unit (unit x) x ≡ true
  pub tags : IsClassed under

-- a thing has a tag
abbrev pub HasTag : {X T : Type 0} → (T → X → Bool) → X → Type 0
HasTag {T = T} under x = (t : T) × (under t x ≡ true)

-- where a list is cut at a thing of a unit and a tag that its front has not
asked_after : {X U T : Type 0} (in_unit : U → X → Bool) (unit : X → U) (under : T → X → Bool) →
    Ways in_unit unit under → (before front back : List X) (e : X) →
    filter (in_unit (unit e)) front ≡ [] →
    (after_units in_unit unit before (front ++ e ∷ back) ≡ after_units in_unit unit before front
    ++ (record { item = e; earlier = filter (in_unit (unit e)) before }) ∷ after_units in_unit
    unit ((before ++ e ∷ []) ++ front) back)
    × (after_units in_unit unit (before ++ e ∷ []) (front ++ back) ≡ after_units in_unit unit before
    front ++ after_units in_unit unit ((before ++ e ∷ []) ++ front) back)
asked_after {X = X} {U = U} in_unit unit under ways before front back e none =
    let H = after_units in_unit unit in
    let clear : (u : U) → in_unit u e ≡ true → filter (in_unit u) front ≡ [] =
    λ u is. subst (λ v. filter (in_unit v) front ≡ []) (ways.units (unit e) u e (ways.own e) is)
    none in
    let here : filter (in_unit (unit e)) (before ++ front) ≡ filter (in_unit (unit e)) before =
    filter-append (in_unit (unit e)) before front
    ∙ ap (λ l. filter (in_unit (unit e)) before ++ l) none
    ∙ append-nil (filter (in_unit (unit e)) before) in
    let behind : H ((before ++ front) ++ e ∷ []) back ≡ H ((before ++ e ∷ []) ++ front) back =
    same_after in_unit unit ((before ++ front) ++ e ∷ []) ((before ++ e ∷ []) ++ front) back
    (λ u. swapped (in_unit u) e before front (in_unit u e) refl (clear u)) in
    let first : H (before ++ e ∷ []) front ≡ H before front =
    apart_after in_unit unit ways.units ways.own e (before ++ e ∷ []) before front
    (λ u is. without (in_unit u) e before is) none in (
      after-append in_unit unit before front (e ∷ back)
          ∙ ap (λ l. H before front ++ (record { item = e; earlier = l })
          ∷ H ((before ++ front) ++ e ∷ []) back) here
          ∙ ap (λ l. H before front ++ (record {
            item = e;
            earlier =
                filter (in_unit (unit e)) before;
          }) ∷ l) behind,
      after-append in_unit unit (before ++ e ∷ []) front back
          ∙ ap (λ l. l ++ H ((before ++ e ∷ []) ++ front) back) first,
    )

-- Where each unit does what was asked of it in order, and so it is under each tag, then under each
-- tag the things done have before them in their unit what they have in the order asked.
pub order_kept : {X U T : Type 0} (in_unit : U → X → Bool) (unit : X → U) (under : T → X → Bool) →
    Ways in_unit unit under → (before asked done : List X) → All (HasTag under) done
    → ((u : U) → IsPrefix (filter (in_unit u) done) (filter (in_unit u) asked)) →
    ((t : T) → IsPrefix (filter (under t) done) (filter (under t) asked))
    → (t : T) → IsPrefix (filter (of_item (under t)) (after_units in_unit unit before done))
    (filter (of_item (under t)) (after_units in_unit unit before asked))
order_kept in_unit unit under ways before asked [] tagged by_unit by_tag t =
    (filter (of_item (under t)) (after_units in_unit unit before asked), refl)
order_kept {U = U} {T = T} in_unit unit under ways before asked (e ∷ done) tagged by_unit by_tag t =
    let first = All-head (HasTag under) e done tagged in
    let tag = first.0 in
    let has : under tag e ≡ true = first.1 in
    let unit_first = (by_unit (unit e)).1
    ∙ ap (λ l. l ++ (by_unit (unit e)).0) (kept (in_unit (unit e)) e done (ways.own e)) in
    let tag_first = (by_tag tag).1 ∙ ap (λ l. l ++ (by_tag tag).0) (kept (under tag) e done has) in
    let cut = both_first (in_unit (unit e)) (under tag) e asked (filter (in_unit (unit e)) done
    ++ (by_unit (unit e)).0) (filter (under tag) done ++ (by_tag tag).0) unit_first tag_first in
    let clear_unit : (u : U) → in_unit u e ≡ true → filter (in_unit u) cut.front ≡ [] =
    λ u is. subst (λ v. filter (in_unit v) cut.front ≡ [])
    (ways.units (unit e) u e (ways.own e) is) cut.none_p in
    let clear_tag : (s : T) → under s e ≡ true → filter (under s) cut.front ≡ [] =
    λ s is. subst (λ v. filter (under v) cut.front ≡ []) (ways.tags tag s e has is) cut.none_q
    in
    let more_unit : (u : U) →
    IsPrefix (filter (in_unit u) done) (filter (in_unit u) (cut.front ++ cut.back)) =
    λ u. (
      (by_unit u).0,
      rest_after (in_unit u) e cut.front cut.back done (by_unit u).0
          (in_unit u e) refl (clear_unit u) (ap (filter (in_unit u)) (sym cut.is) ∙ (by_unit u).1),
    ) in
    let more_tag : (s : T) → IsPrefix (filter (under s) done)
    (filter (under s) (cut.front ++ cut.back)) =
    λ s. (
      (by_tag s).0,
      rest_after (under s) e cut.front cut.back done (by_tag s).0 (under s e) refl
          (clear_tag s) (ap (filter (under s)) (sym cut.is) ∙ (by_tag s).1),
    ) in
    let more = order_kept in_unit unit under ways (before ++ e ∷ []) (cut.front ++ cut.back) done
    (All-tail (HasTag under) e done tagged) more_unit more_tag t in
    let seen = asked_after in_unit unit under ways before cut.front cut.back e cut.none_p in
    let A = after_units in_unit unit before cut.front in
    let B = after_units in_unit unit ((before ++ e ∷ []) ++ cut.front) cut.back in
    let D = after_units in_unit unit (before ++ e ∷ []) done in
    let p = of_item (under t) in
    let clear_after : under t e ≡ true → filter p A ≡ [] =
    λ is. none_after in_unit unit (under t) before cut.front (clear_tag t is) in (
      more.0,
      ap (λ l. filter p (after_units in_unit unit before l)) cut.is ∙ ap (filter p) seen.0
          ∙ put_back p (record { item = e; earlier = filter (in_unit (unit e)) before }) A B D
          more.0 (under t e) refl clear_after (sym (ap (filter p) seen.1) ∙ more.1),
    )
