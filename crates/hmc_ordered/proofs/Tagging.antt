-- Under each tag of a host the moved journal is at most one completion ahead of the true one.
use Rattle.std.proofs.Common.{◌≡◌, ◌∙◌, ◌⊎◌, inl, inr, Bool, true, false, List, [], ◌∷◌, ◌++◌, map, refl, sym, ap, append_assoc, append-nil}
use Rattle.hmc_codes.specs.Request.{RequestFields}
use Rattle.hmc_codes.specs.declared.unit.Unit.{Unit as RequestUnit}
use Rattle.hmc_hops.specs.Flows.{item_if}
use Rattle.hmc_journal.specs.Choice.{append_if}
use Rattle.hmc_journal.specs.Delivered.{IsPrefix}
use Rattle.hmc_journal.specs.Filters.{Completion, same_unit}
use Rattle.hmc_ordered.proofs.Simulating.{unit_is}

-- The completions under a tag, all of them and those of each unit, are the same in both journals.
pub record Same (moved past : List Completion) (moved_by past_by : RequestUnit → List Completion) : Type 0 where
  pub all : moved ≡ past
  pub each : (u : RequestUnit) → moved_by u ≡ past_by u

-- Or the moved journal has one more, of one unit.
pub record Ahead (moved past : List Completion) (moved_by past_by : RequestUnit → List Completion) : Type 0 where
  pub unit : RequestUnit
  pub one : Completion
  pub all : moved ≡ past ++ one ∷ []
  pub this : moved_by unit ≡ past_by unit ++ one ∷ []
  pub others : (u : RequestUnit) → same_unit unit u ≡ false → moved_by u ≡ past_by u

-- What is kept: one of the two, and the moved journal answers the first of the requests asked.
pub record Keeps (moved past : List Completion) (moved_by past_by : RequestUnit → List Completion) (asked : List RequestFields) : Type 0 where
  pub ahead : (Same moved past moved_by past_by) ⊎ (Ahead moved past moved_by past_by)
  pub first : IsPrefix (map (λ (reply : Completion). reply.request) moved) asked

longer_not : {X : Type 0} (xs : List X) (x : X) (more : List X) → xs ≡ (xs ++ x ∷ []) ++ more → ⊥
longer_not [] x more is = cc
longer_not (y ∷ xs) x more is = longer_not xs x more (cc)

one_is : {X : Type 0} (xs : List X) (x y : X) (more : List X) → xs ++ y ∷ [] ≡ (xs ++ x ∷ []) ++ more → y ≡ x
one_is [] x y more is = cc
one_is (z ∷ xs) x y more is = one_is xs x y more (cc)

-- ---- what is alike

-- a journal whose units have the same completions under the tag keeps it
pub alike : (moved past : List Completion) (moved_by past_by moved_too past_too : RequestUnit → List Completion) (asked : List RequestFields)
    → ((u : RequestUnit) → moved_too u ≡ moved_by u) → ((u : RequestUnit) → past_too u ≡ past_by u)
    → Keeps moved past moved_by past_by asked → Keeps moved past moved_too past_too asked
alike moved past moved_by past_by moved_too past_too asked one two k = record { ahead = by k.ahead; first = k.first }
  where
    by : (Same moved past moved_by past_by) ⊎ (Ahead moved past moved_by past_by) → (Same moved past moved_too past_too) ⊎ (Ahead moved past moved_too past_too)
    by (inl s) = inl (record { all = s.all; each = λ u. one u ∙ s.each u ∙ sym (two u) })
    by (inr a) = inr (record {
      unit = a.unit;
      one = a.one;
      all = a.all;
      this = one a.unit ∙ a.this ∙ ap (λ l. l ++ a.one ∷ []) (sym (two a.unit));
      others = λ u off. one u ∙ a.others u off ∙ sym (two u);
    })

-- so does one in which more was asked
pub more_asked : (moved past : List Completion) (moved_by past_by : RequestUnit → List Completion) (asked : List RequestFields) (b : Bool) (request : RequestFields)
    → Keeps moved past moved_by past_by asked → Keeps moved past moved_by past_by (append_if b (request ∷ []) asked)
more_asked moved past moved_by past_by asked false request k = k
more_asked moved past moved_by past_by asked true request k = record {
  ahead = k.ahead;
  first = (
    k.first.0 ++ request ∷ [],
    ap (λ l. l ++ request ∷ []) k.first.1
        ∙ append_assoc (map (λ (reply : Completion). reply.request) moved) k.first.0 (request ∷ []),
  );
}

-- ---- an arrival under the tag

-- where no unit has one more, the moved journal isn't ahead
none_ahead : (moved past : List Completion) (moved_by past_by : RequestUnit → List Completion) → (Same moved past moved_by past_by) ⊎ (Ahead moved past moved_by past_by) → ((u : RequestUnit) → moved_by u ≡ past_by u) → moved ≡ past
none_ahead moved past moved_by past_by (inl same) each = same.all
none_ahead moved past moved_by past_by (inr a) each = absurd (longer_not (past_by a.unit) a.one [] (sym (each a.unit) ∙ a.this ∙ sym (append-nil (past_by a.unit ++ a.one ∷ []))))

map_push : (xs : List Completion) (x : Completion) → map (λ (reply : Completion). reply.request) (xs ++ x ∷ []) ≡ map (λ (reply : Completion). reply.request) xs ++ x.request ∷ []
map_push [] x = refl
map_push (y ∷ xs) x = ap (λ l. y.request ∷ l) (map_push xs x)

pub arrived : (moved past : List Completion) (moved_by past_by : RequestUnit → List Completion) (asked : List RequestFields) (here : RequestUnit) (x : Completion)
    → Keeps moved past moved_by past_by asked → ((u : RequestUnit) → moved_by u ≡ past_by u) → asked ≡ map (λ (reply : Completion). reply.request) past ++ x.request ∷ []
    → same_unit here here ≡ true → Keeps (moved ++ x ∷ []) past (λ u. moved_by u ++ item_if (same_unit here u) x) past_by asked
arrived moved past moved_by past_by asked here x k each is self =
    let same : moved ≡ past = none_ahead moved past moved_by past_by k.ahead each in record {
      ahead = inr (record {
        unit = here;
        one = x;
        all = ap (λ l. l ++ x ∷ []) same;
        this = ap (λ (b : Bool). moved_by here ++ item_if b x) self ∙ ap (λ l. l ++ x ∷ []) (each here);
        others = λ u off. ap (λ (b : Bool). moved_by u ++ item_if b x) off ∙ append-nil (moved_by u) ∙ each u;
      });
      first = ([], is ∙ sym (map_push past x) ∙ ap (λ l. map (λ (reply : Completion). reply.request) (l ++ x ∷ [])) (sym same) ∙ sym (append-nil (map (λ (reply : Completion). reply.request) (moved ++ x ∷ []))));
    }

-- ---- an execution under the tag

pub executed : (moved past : List Completion) (moved_by past_by : RequestUnit → List Completion) (asked : List RequestFields) (here : RequestUnit) (x : Completion)
    → Keeps moved past moved_by past_by asked → same_unit here here ≡ true → IsPrefix (past_by here ++ x ∷ []) (moved_by here)
    → Keeps moved (past ++ x ∷ []) moved_by (λ u. past_by u ++ item_if (same_unit here u) x) asked
executed moved past moved_by past_by asked here x k self prefix = record { ahead = by k.ahead; first = k.first }
  where
    each : (a : Ahead moved past moved_by past_by) → a.unit ≡ here → a.one ≡ x → (u : RequestUnit) (b : Bool) → same_unit here u ≡ b → moved_by u ≡ past_by u ++ item_if b x
    each a at one u true is =
        let same : a.unit ≡ u = at ∙ unit_is here u is in
        ap moved_by (sym same) ∙ a.this ∙ ap (λ (y : Completion). past_by a.unit ++ y ∷ []) one ∙ ap (λ v. past_by v ++ x ∷ []) same
    each a at one u false is = a.others u (ap (λ v. same_unit v u) at ∙ is) ∙ sym (append-nil (past_by u))

    there : (a : Ahead moved past moved_by past_by) (b : Bool) → same_unit a.unit here ≡ b → a.unit ≡ here
    there a true is = unit_is a.unit here is
    there a false is = absurd (longer_not (past_by here) x prefix.0 (sym (a.others here is) ∙ prefix.1))

    by : (Same moved past moved_by past_by) ⊎ (Ahead moved past moved_by past_by) → (Same moved (past ++ x ∷ []) moved_by (λ u. past_by u ++ item_if (same_unit here u) x)) ⊎ (Ahead moved (past ++ x ∷ []) moved_by (λ u. past_by u ++ item_if (same_unit here u) x))
    by (inl s) = absurd (longer_not (past_by here) x prefix.0 (sym (s.each here) ∙ prefix.1))
    by (inr a) =
        let at : a.unit ≡ here = there a (same_unit a.unit here) refl in
        let one : a.one ≡ x = one_is (past_by here) x a.one prefix.0 (ap (λ v. past_by v ++ a.one ∷ []) (sym at) ∙ sym a.this ∙ ap moved_by at ∙ prefix.1) in
        inl (record { all = a.all ∙ ap (λ (y : Completion). past ++ y ∷ []) one; each = λ u. each a at one u (same_unit here u) refl })
