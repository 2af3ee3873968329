-- Joins lead back, and directions lead along joins.
use Rattle.std.proofs.Common.{◌≡◌, ◌∙◌, ◌+◌, ◌-◌, ◌/◌, ◌%◌, ◌==◌, ◌||◌, ℕ, Bool, true, false, not, cond, List, [], ◌∷◌, ◌++◌, length, get_or, append_assoc, Option, Some, None, refl, sym, ap, subst, eq-eqb, arith}
use Rattle.std.proofs.lemmas.Bool.{and_parts, and_from, or_parts, not-true, ne_eqb}
use Rattle.std.proofs.lemmas.List.{get_or-append_right, length_push}
use Rattle.std.specs.List.{list_any, list_all}
use Rattle.hmc_codes.specs.Places.{same_place}
use Rattle.hmc_codes.specs.declared.place.Join.{Join}
use Rattle.hmc_codes.specs.declared.place.Place.{Place}
use Rattle.hmc_routes.proofs.Joined.{same_place-true, same_place-refl, joined-cons, joined-nil, joined-passes}
use Rattle.hmc_routes.specs.Directions.{no_join, join_of, start_of, end_of, direction_among, direction_from}
use Rattle.hmc_routes.specs.Neighbours.{ends_at, far_end, joined_to}
use Rattle.hmc_routes.specs.WellFormed.{ends_of, are_distinct}

none_all : (test : Place → Bool) (places : List Place) → list_any test places ≡ false → list_all (λ place. not (test place)) places ≡ true
none_all test [] none = refl
none_all test (place ∷ places) none =
    let parts = or_parts (test place) (list_any test places) none in
    and_from (not (test place)) (list_all (λ p. not (test p)) places) (ap not parts.0) (none_all test places parts.1)

-- what a place is joined to is joined to that place, where each end is joined once
pub joined-back : (joins : List Join) (place end : Place) → are_distinct (ends_of joins) ≡ true → joined_to joins place ≡ Some end → joined_to joins end ≡ Some place
joined-back [] place end once is = let clash : None ≡ Some end = sym (joined-nil place) ∙ is in absurd (cc)
joined-back (join ∷ joins) place end once is =
    let first = and_parts (not (list_any (same_place join.a) (join.b ∷ ends_of joins))) (are_distinct (join.b ∷ ends_of joins)) once in
    let second = and_parts (not (list_any (same_place join.b) (ends_of joins))) (are_distinct (ends_of joins)) first.1 in
    let a_once = or_parts (same_place join.a join.b) (list_any (same_place join.a) (ends_of joins)) (not-true (same_place join.a join.b || list_any (same_place join.a) (ends_of joins)) first.0) in
    let b_once : list_any (same_place join.b) (ends_of joins) ≡ false = not-true (list_any (same_place join.b) (ends_of joins)) second.0 in
    joined-cons join joins end
    ∙ by a_once.0 a_once.1 b_once (same_place join.a place) (same_place join.b place) refl refl (sym (joined-cons join joins place) ∙ is) (λ later. joined-back joins place end second.1 later)
  where
    at_a : (a : Bool) → same_place join.a end ≡ a → same_place join.b end ≡ true → (a ≡ true → cond a join.b join.a ≡ place) → (a ≡ false → cond a join.b join.a ≡ place) → cond (same_place join.a end || same_place join.b end) (Some (far_end end join)) (joined_to joins end) ≡ Some place
    at_a true is_a is_b one two =
        ap (λ (b : Bool). cond (b || same_place join.b end) (Some (far_end end join)) (joined_to joins end)) is_a
        ∙ ap (λ (b : Bool). Some (cond b join.b join.a)) is_a ∙ ap (λ (p : Place). Some p) (one refl)
    at_a false is_a is_b one two =
        ap (λ (b : Bool). cond (b || same_place join.b end) (Some (far_end end join)) (joined_to joins end)) is_a
        ∙ ap (λ (b : Bool). cond b (Some (far_end end join)) (joined_to joins end)) is_b
        ∙ ap (λ (b : Bool). Some (cond b join.b join.a)) is_a ∙ ap (λ (p : Place). Some p) (two refl)

    by : same_place join.a join.b ≡ false → list_any (same_place join.a) (ends_of joins) ≡ false → list_any (same_place join.b) (ends_of joins) ≡ false → (a b : Bool) → same_place join.a place ≡ a → same_place join.b place ≡ b
        → cond (ends_at place join) (Some (far_end place join)) (joined_to joins place) ≡ Some end → (joined_to joins place ≡ Some end → joined_to joins end ≡ Some place)
        → cond (ends_at end join) (Some (far_end end join)) (joined_to joins end) ≡ Some place
    by apart a_once b_once true b is_a is_b is later =
        let there : Some (far_end place join) ≡ Some end = sym (ap (λ (c : Bool). cond (c || same_place join.b place) (Some (far_end place join)) (joined_to joins place)) is_a) ∙ is in
        let far : far_end place join ≡ end = cc in
        let b_is : join.b ≡ end = sym (ap (λ (c : Bool). cond c join.b join.a) is_a) ∙ far in
        let a_is : join.a ≡ place = same_place-true join.a place is_a in
        at_a false (sym (ap (λ (p : Place). same_place join.a p) b_is) ∙ apart) (ap (λ (p : Place). same_place p end) b_is ∙ same_place-refl end) (λ clash. absurd (cc)) (λ same. a_is)
    by apart a_once b_once false true is_a is_b is later =
        let here : ends_at place join ≡ true = ap (λ (c : Bool). c || same_place join.b place) is_a ∙ is_b in
        let there : Some (far_end place join) ≡ Some end = sym (ap (λ (c : Bool). cond c (Some (far_end place join)) (joined_to joins place)) here) ∙ is in
        let far : far_end place join ≡ end = cc in
        let a_is : join.a ≡ end = sym (ap (λ (c : Bool). cond c join.b join.a) is_a) ∙ far in
        let b_is : join.b ≡ place = same_place-true join.b place is_b in
        let on : same_place join.a end ≡ true = ap (λ (p : Place). same_place p end) a_is ∙ same_place-refl end in
        ap (λ (c : Bool). cond (c || same_place join.b end) (Some (far_end end join)) (joined_to joins end)) on
        ∙ ap (λ (c : Bool). Some (cond c join.b join.a)) on ∙ ap (λ (p : Place). Some p) b_is
    by apart a_once b_once false false is_a is_b is later =
        let off : ends_at place join ≡ false = ap (λ (c : Bool). c || same_place join.b place) is_a ∙ is_b in
        let rest : joined_to joins place ≡ Some end = sym (ap (λ (c : Bool). cond c (Some (far_end place join)) (joined_to joins place)) off) ∙ is in
        let a_off : same_place join.a end ≡ false = not-true (same_place join.a end) (joined-passes (λ p. not (same_place join.a p)) joins place end (none_all (same_place join.a) (ends_of joins) a_once) rest).1 in
        let b_off : same_place join.b end ≡ false = not-true (same_place join.b end) (joined-passes (λ p. not (same_place join.b p)) joins place end (none_all (same_place join.b) (ends_of joins) b_once) rest).1 in
        ap (λ (c : Bool). cond (c || same_place join.b end) (Some (far_end end join)) (joined_to joins end)) a_off
        ∙ ap (λ (c : Bool). cond c (Some (far_end end join)) (joined_to joins end)) b_off ∙ later rest

-- the join after so many others
join_at : (before joins : List Join) (join d : Join) (n : ℕ) → length before ≡ n → get_or (before ++ join ∷ joins) n d ≡ join
join_at before joins join d n long =
    let none : n - n ≡ 0 = omega arith in
    get_or-append_right before (join ∷ joins) n n d long (omega arith) ∙ ap (λ (k : ℕ). get_or (join ∷ joins) k d) none

even_is : (n : ℕ) → ((n + n) % 2 == 0) ≡ true
even_is n = eq-eqb ((n + n) % 2) 0 (omega arith)

odd_is : (n : ℕ) → ((n + n + 1) % 2 == 0) ≡ false
odd_is n = ne_eqb ((n + n + 1) % 2) 0 (λ clash. omega arith)

-- what a direction starts from and ends at
pub record Leads (joins : List Join) (place end : Place) (direction : ℕ) : Type 0 where
  pub starts : start_of joins direction ≡ place
  pub ends : end_of joins direction ≡ end

forth : (before joins : List Join) (join : Join) (n : ℕ) → length before ≡ n → Leads (before ++ join ∷ joins) join.a join.b (n + n)
forth before joins join n long =
    let half : (n + n) / 2 ≡ n = omega arith in
    let here : join_of (before ++ join ∷ joins) (n + n) ≡ join = ap (λ (k : ℕ). get_or (before ++ join ∷ joins) k no_join) half ∙ join_at before joins join no_join n long in record {
      starts = ap (λ (b : Bool). cond b (join_of (before ++ join ∷ joins) (n + n)).a (join_of (before ++ join ∷ joins) (n + n)).b) (even_is n) ∙ ap (λ (j : Join). j.a) here;
      ends = ap (λ (b : Bool). cond b (join_of (before ++ join ∷ joins) (n + n)).b (join_of (before ++ join ∷ joins) (n + n)).a) (even_is n) ∙ ap (λ (j : Join). j.b) here;
    }

back : (before joins : List Join) (join : Join) (n : ℕ) → length before ≡ n → Leads (before ++ join ∷ joins) join.b join.a (n + n + 1)
back before joins join n long =
    let half : (n + n + 1) / 2 ≡ n = omega arith in
    let here : join_of (before ++ join ∷ joins) (n + n + 1) ≡ join = ap (λ (k : ℕ). get_or (before ++ join ∷ joins) k no_join) half ∙ join_at before joins join no_join n long in record {
      starts = ap (λ (b : Bool). cond b (join_of (before ++ join ∷ joins) (n + n + 1)).a (join_of (before ++ join ∷ joins) (n + n + 1)).b) (odd_is n) ∙ ap (λ (j : Join). j.b) here;
      ends = ap (λ (b : Bool). cond b (join_of (before ++ join ∷ joins) (n + n + 1)).b (join_of (before ++ join ∷ joins) (n + n + 1)).a) (odd_is n) ∙ ap (λ (j : Join). j.a) here;
    }

-- where a place is joined to another a direction leads from the one to the other
pub record HasDirection (joins : List Join) (place end : Place) (found : Option ℕ) : Type 0 where
  pub direction : ℕ
  pub is : found ≡ Some direction
  pub leads : Leads joins place end direction

among_directed : (before joins : List Join) (place end : Place) (n : ℕ) → length before ≡ n → joined_to joins place ≡ Some end → HasDirection (before ++ joins) place end (direction_among (n + n) joins place)
unfolding direction_among
among_directed before [] place end n long is = let clash : None ≡ Some end = sym (joined-nil place) ∙ is in absurd (cc)
among_directed before (join ∷ joins) place end n long is =
    let one : length (before ++ join ∷ []) ≡ n + 1 = omega (arith, length_push before join) in
    let next : n + 1 + (n + 1) ≡ n + n + 2 = omega arith in
    by (same_place join.a place) (same_place join.b place) refl refl (sym (joined-cons join joins place) ∙ is)
    (λ later. subst (λ (xs : List Join). HasDirection xs place end (direction_among (n + n + 2) joins place)) (append_assoc before (join ∷ []) joins)
    (subst (λ (k : ℕ). HasDirection ((before ++ join ∷ []) ++ joins) place end (direction_among k joins place)) next (among_directed (before ++ join ∷ []) joins place end (n + 1) one later)))
  where
    by : (a b : Bool) → same_place join.a place ≡ a → same_place join.b place ≡ b
        → cond (ends_at place join) (Some (far_end place join)) (joined_to joins place) ≡ Some end
        → (joined_to joins place ≡ Some end → HasDirection (before ++ join ∷ joins) place end (direction_among (n + n + 2) joins place))
        → HasDirection (before ++ join ∷ joins) place end (cond (same_place join.a place) (Some (n + n)) (cond (same_place join.b place) (Some (n + n + 1)) (direction_among (n + n + 2) joins place)))
    by true b is_a is_b is later =
        let there : Some (far_end place join) ≡ Some end = sym (ap (λ (c : Bool). cond (c || same_place join.b place) (Some (far_end place join)) (joined_to joins place)) is_a) ∙ is in
        let far : far_end place join ≡ end = cc in
        let lead = forth before joins join n long in record {
          direction = n + n;
          is = ap (λ (c : Bool). cond c (Some (n + n)) (cond (same_place join.b place) (Some (n + n + 1)) (direction_among (n + n + 2) joins place))) is_a;
          leads = record {
            starts = lead.starts ∙ same_place-true join.a place is_a;
            ends = lead.ends ∙ (sym (ap (λ (c : Bool). cond c join.b join.a) is_a) ∙ far);
          };
        }
    by false true is_a is_b is later =
        let here : ends_at place join ≡ true = ap (λ (c : Bool). c || same_place join.b place) is_a ∙ is_b in
        let there : Some (far_end place join) ≡ Some end = sym (ap (λ (c : Bool). cond c (Some (far_end place join)) (joined_to joins place)) here) ∙ is in
        let far : far_end place join ≡ end = cc in
        let lead = back before joins join n long in record {
          direction = n + n + 1;
          is = ap (λ (c : Bool). cond c (Some (n + n)) (cond (same_place join.b place) (Some (n + n + 1)) (direction_among (n + n + 2) joins place))) is_a
              ∙ ap (λ (c : Bool). cond c (Some (n + n + 1)) (direction_among (n + n + 2) joins place)) is_b;
          leads = record {
            starts = lead.starts ∙ same_place-true join.b place is_b;
            ends = lead.ends ∙ (sym (ap (λ (c : Bool). cond c join.b join.a) is_a) ∙ far);
          };
        }
    by false false is_a is_b is later =
        let off : ends_at place join ≡ false = ap (λ (c : Bool). c || same_place join.b place) is_a ∙ is_b in
        let rest = later (sym (ap (λ (c : Bool). cond c (Some (far_end place join)) (joined_to joins place)) off) ∙ is) in record {
          direction = rest.direction;
          is = ap (λ (c : Bool). cond c (Some (n + n)) (cond (same_place join.b place) (Some (n + n + 1)) (direction_among (n + n + 2) joins place))) is_a
              ∙ ap (λ (c : Bool). cond c (Some (n + n + 1)) (direction_among (n + n + 2) joins place)) is_b ∙ rest.is;
          leads = rest.leads;
        }

pub directed : (joins : List Join) (place end : Place) → joined_to joins place ≡ Some end → HasDirection joins place end (direction_from joins place)
directed joins place end is = among_directed [] joins place end 0 refl is

-- where a place is joined to nothing no direction starts there
among_none : (first : ℕ) (joins : List Join) (place : Place) → joined_to joins place ≡ None → direction_among first joins place ≡ None
unfolding direction_among
among_none first [] place none = refl
among_none first (join ∷ joins) place none = by (same_place join.a place) (same_place join.b place) refl refl (sym (joined-cons join joins place) ∙ none) (among_none (first + 2) joins place)
  where
    by : (a b : Bool) → same_place join.a place ≡ a → same_place join.b place ≡ b
        → cond (a || b) (Some (far_end place join)) (joined_to joins place) ≡ None
        → (joined_to joins place ≡ None → direction_among (first + 2) joins place ≡ None)
        → cond a (Some first) (cond b (Some (first + 1)) (direction_among (first + 2) joins place)) ≡ None
    by true b is_a is_b none later = cc
    by false true is_a is_b none later = cc
    by false false is_a is_b none later = later none

pub undirected : (joins : List Join) (place : Place) → joined_to joins place ≡ None → direction_from joins place ≡ None
undirected joins place none = among_none 0 joins place none
