-- The two lists of the requests that a host has not given yet.
use Rattle.std.proofs.Common.{◌≡◌, ◌≤◌, ◌<◌, ◌+◌, ◌∙◌, ℕ, zero, suc, List, [], ◌∷◌, ◌++◌, length, drop, inl, inr, refl, sym, ap, arith, append-nil}
use Rattle.std.specs.Prelude.{slice_get}
use Rattle.std.proofs.lemmas.Bool.{cases_lt}
use Rattle.hmc_script.specs.Items.{ItemFields}
use Rattle.hmc_host.specs.Waiting.{waiting_in, IsWaiting}

drop_whole : {X : Type 0} (xs : List X) → drop (length xs) xs ≡ []
drop_whole [] = refl
drop_whole (x ∷ xs) = drop_whole xs

-- nothing is left of the front, and so nothing waits
none_left : (front : List ItemFields) (at : ℕ) (back : List ItemFields) → IsWaiting front at back → at ≡ length front → waiting_in front at back ≡ []
none_left front at back is same =
    ap (λ (n : ℕ). drop n front ++ back) same ∙ ap (λ (xs : List ItemFields). xs ++ back) (drop_whole front) ∙ is.turned same

-- the next request is at its place in the front
first_by : (front : List ItemFields) (at : ℕ) (back : List ItemFields) → at ≤ length front → (at ≡ length front → back ≡ []) → slice_get (drop at front ++ back) 0 ≡ slice_get front at
first_by [] zero back within turned = ap (λ (xs : List ItemFields). slice_get xs 0) (turned refl)
first_by [] (suc at) back within turned = absurd (omega (arith, within))
first_by (x ∷ front) zero back within turned = refl
first_by (x ∷ front) (suc at) back within turned = first_by front at back (omega (arith, within)) (λ same. turned (ap suc same))

pub first_at : (front : List ItemFields) (at : ℕ) (back : List ItemFields) → IsWaiting front at back → slice_get (waiting_in front at back) 0 ≡ slice_get front at
first_at front at back is = first_by front at back is.within is.turned

-- where a request waits one is left of the front
pub is_left : (front : List ItemFields) (at : ℕ) (back waiting : List ItemFields) → IsWaiting front at back → waiting_in front at back ≡ waiting → 0 < length waiting → at < length front
is_left front at back waiting is view some = elim (cases_lt at (length front)) [
  | inl less ↦ less
  | inr past ↦
      let none : waiting ≡ [] = sym view ∙ none_left front at back is (omega (arith, past, is.within)) in
      absurd (omega (arith, some, ap length none))
]

-- the next one is dropped
dropped_by : (front : List ItemFields) (at : ℕ) (back : List ItemFields) → at < length front → drop 1 (drop at front ++ back) ≡ drop (suc at) front ++ back
dropped_by [] at back less = absurd (omega (arith, less))
dropped_by (x ∷ front) zero back less = refl
dropped_by (x ∷ front) (suc at) back less = dropped_by front at back (omega (arith, less))

dropped_one : (front : List ItemFields) (at : ℕ) (back waiting : List ItemFields) → waiting_in front at back ≡ waiting → at < length front → drop 1 waiting ≡ waiting_in front (at + 1) back
dropped_one front at back waiting view less =
    let next : suc at ≡ at + 1 = omega arith in
    ap (drop 1) (sym view) ∙ dropped_by front at back less ∙ ap (λ (n : ℕ). waiting_in front n back) next

-- one is left of the front
pub dropped_stays : (front : List ItemFields) (at : ℕ) (back waiting : List ItemFields) → IsWaiting front at back → waiting_in front at back ≡ waiting → at < length front → (at + 1 ≡ length front → ⊥) → IsWaiting front (at + 1) back × (waiting_in front (at + 1) back ≡ drop 1 waiting)
dropped_stays front at back waiting is view less more = (
  record {
    within = omega (arith, less);
    few = omega (arith, is.few, less);
    turned = λ same. absurd (more same);
  },
  sym (dropped_one front at back waiting view less),
)

-- none is left of it: the lists change places
pub dropped_turns : (front : List ItemFields) (at : ℕ) (back waiting front' back' : List ItemFields) → IsWaiting front at back → waiting_in front at back ≡ waiting → at < length front → at + 1 ≡ length front → front' ≡ back → back' ≡ [] → IsWaiting front' 0 back' × (waiting_in front' 0 back' ≡ drop 1 waiting)
dropped_turns front at back waiting front' back' is view less last here none =
    let whole : waiting_in front (at + 1) back ≡ back = ap (λ (n : ℕ). drop n front ++ back) last ∙ ap (λ (xs : List ItemFields). xs ++ back) (drop_whole front) in
    rw (here, none) (
      record {
        within = omega arith;
        few = omega (arith, is.few);
        turned = λ same. refl;
      },
      append-nil back ∙ sym (dropped_one front at back waiting view less ∙ whole),
    )
