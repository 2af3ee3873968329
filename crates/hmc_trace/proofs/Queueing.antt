-- A queue is added to, or taken from.
use Rattle.std.proofs.Common.{◌≡◌, ◌<◌, ◌∙◌, ◌==◌, ℕ, zero, suc, Bool, true, false, List, [], ◌∷◌, ◌++◌, length, refl, sym, ap, subst, arith}
use Rattle.std.specs.Prelude.{slice_index_or, slice_set, map, if◌then◌else◌, drop, Result, Ok, Err, OnOk}
use Rattle.std.proofs.lemmas.Bool.{eqb-true, eq-eqb}
use Rattle.std.proofs.lemmas.List.{length-map}
use Rattle.hmc_trace.specs.Queues.{queue_of, IsAdded, IsTakenOut}

set_here : {X Y : Type 0} (view : X → List Y) (xs : List X) (i : ℕ) (x : X) → i < length xs →
    queue_of (map view (slice_set xs i x)) i ≡ view x
set_here view [] i x less = absurd (omega arith)
set_here view (y ∷ xs) zero x less = refl
set_here view (y ∷ xs) (suc i) x less = set_here view xs i x (omega arith)

set_apart : {X Y : Type 0} (view : X → List Y) (xs : List X) (i : ℕ) (x : X) (t : ℕ) →
    (t ≡ i → ⊥) → queue_of (map view (slice_set xs i x)) t ≡ queue_of (map view xs) t
set_apart view [] i x t apart = refl
set_apart view (y ∷ xs) zero x zero apart = absurd (apart refl)
set_apart view (y ∷ xs) zero x (suc t) apart = refl
set_apart view (y ∷ xs) (suc i) x zero apart = refl
set_apart view (y ∷ xs) (suc i) x (suc t) apart =
    set_apart view xs i x t (λ same. apart (ap suc same))

-- what one place was set to, by what it was
pub set_to : {X Y : Type 0} (view : X → List Y) (f : List Y → List Y) (xs : List X) (i : ℕ) (x : X)
    → i < length xs → view x ≡ f (queue_of (map view xs) i) → (t : ℕ) →
    queue_of (map view (slice_set xs i x)) t
    ≡ (if i == t then f (queue_of (map view xs) t) else queue_of (map view xs) t)
set_to view f xs i x less is t = by (i == t) refl
  where
    by : (b : Bool) → (i == t) ≡ b → queue_of (map view (slice_set xs i x)) t
        ≡ (if b then f (queue_of (map view xs) t) else queue_of (map view xs) t)
    by true here =
        let same = eqb-true i t here in
        ap (queue_of (map view (slice_set xs i x))) (sym same) ∙ set_here view xs i x less ∙ is
        ∙ ap (λ k. f (queue_of (map view xs) k)) same
    by false here = set_apart view xs i x t (λ same. let wrong = eq-eqb i t (sym same) in
        absurd (cc))

-- an empty queue more
pub one_more : {X Y : Type 0} (view : X → List Y) (xs : List X) (x : X) → view x ≡ [] → (t : ℕ) →
    queue_of (map view (xs ++ x ∷ [])) t ≡ queue_of (map view xs) t
one_more view [] x empty zero = empty
one_more view [] x empty (suc t) = refl
one_more view (y ∷ xs) x empty zero = refl
one_more view (y ∷ xs) x empty (suc t) = one_more view xs x empty t

-- the queue at a place
pub queue_at : {X Y : Type 0} (view : X → List Y) (xs : List X) (i : ℕ) (x d : X) → i < length xs →
    x ≡ slice_index_or xs i d → queue_of (map view xs) i ≡ view x
queue_at view [] i x d less is = absurd (omega arith)
queue_at view (y ∷ xs) zero x d less is = ap view (sym is)
queue_at view (y ∷ xs) (suc i) x d less is = queue_at view xs i x d (omega arith) is

pub is_taken_out : {X Y : Type 0} (view : X → List Y) (old : List (List Y)) (xs : List X)
    (i tag : ℕ)
    (x was : X) → old ≡ map view xs → i ≡ tag → i < length xs → was ≡ slice_index_or xs i was →
    view x ≡ drop 1 (view was) → IsTakenOut old (map view (slice_set xs i x)) tag
is_taken_out view old xs i tag x was seen same less is rest t =
    ap (λ k. queue_of (map view (slice_set xs k x)) t) same
    ∙ set_to view (drop 1) xs tag x (subst (λ k. k < length xs) same less) here t
    ∙ ap (λ o. if tag == t then drop 1 (queue_of o t) else queue_of o t) (sym seen)
  where
    here : view x ≡ drop 1 (queue_of (map view xs) tag)
    here = rest ∙ ap (drop 1) (sym (queue_at view xs i was was less is)
        ∙ ap (queue_of (map view xs)) same)

pub is_added : {X Y T E : Type 0} (view : X → List Y) (result : Result T E)
    (old seen : List (List Y))
    (xs : List X) (i tag : ℕ) (x was : X) (answer : Y) →
    ((t : ℕ) → queue_of seen t ≡ queue_of old t)
    → seen ≡ map view xs → i ≡ tag → tag < length seen → was ≡ slice_index_or xs i was →
    OnOk result (view x ≡ view was ++ answer ∷ []) →
    OnOk result (IsAdded old (map view (slice_set xs i x)) tag answer)
is_added view (Err error) old seen xs i tag x was answer kept shows same less is more = tt
is_added view (Ok done) old seen xs i tag x was answer kept shows same there is more = λ t.
    ap (λ k. queue_of (map view (slice_set xs k x)) t) same
    ∙ set_to view (λ l. l ++ answer ∷ []) xs tag x less here t
    ∙ ap (λ o. if tag == t then queue_of o t ++ answer ∷ [] else queue_of o t) (sym shows)
    ∙ ap (λ q. if tag == t then q ++ answer ∷ [] else q) (kept t)
  where
    less : tag < length xs
    less = subst (λ n. tag < n) (ap length shows ∙ length-map xs view) there

    here : view x ≡ queue_of (map view xs) tag ++ answer ∷ []
    here = more ∙ ap (λ l. l ++ answer ∷ [])
        (sym (queue_at view xs i was was (subst (λ k. k < length xs) (sym same) less) is)
        ∙ ap (queue_of (map view xs)) same)
