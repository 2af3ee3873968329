-- A direction is a first-in first-out list: what each event adds at its end and takes from its
-- front. Used by DirectionLaws.
use Rattle.std.proofs.Common.{◌≡◌, ℕ, zero, suc, ◌+◌, ◌<◌, ◌≤◌, List, [], ◌∷◌, ◌++◌, length, refl, sym, ◌∙◌, ap, arith, append_assoc, append-nil}
use Rattle.hmc_numbers.specs.Weights.{Weight}
use Rattle.hmc_numbers.specs.Direction.{Direction, begun}
use Rattle.hmc_numbers.specs.Events.{Event, happens}
use Rattle.hmc_numbers.specs.Events.Event.{rests, sends_filler, sends_clear, begins, begins_through, begins_again, goes_on, acknowledges, drops, trains, opens, passes, gathers, accepts, repeats, spoils, breaks, unlocks}
use Rattle.hmc_numbers.specs.Places.{place, places_above, places, is_token, put_by, taken_by}

place_last : (n : ℕ) (ps : List Weight) (q : Weight) (a : ℕ) → a ≤ length ps → places_above n (ps ++ q ∷ []) a ≡ places_above n ps a ++ place q.token (suc (n + length ps))
place_last n [] q zero l = append-nil (place q.token (suc n)) ∙ ap (λ m. place q.token (suc m)) (omega arith)
place_last n [] q (suc a) l = absurd (omega arith)
place_last n (p ∷ ps) q (suc a) l = place_last (suc n) ps q a (omega arith) ∙ ap (λ m. places_above (suc n) ps a ++ place q.token (suc m)) (omega arith)
place_last n (p ∷ ps) q zero l =
    ap (λ xs. place p.token (suc n) ++ xs) (place_last (suc n) ps q zero (omega arith)) ∙ sym (append_assoc (place p.token (suc n)) (places_above (suc n) ps zero) (place q.token (suc (suc n + length ps)))) ∙
    ap (λ m. (place p.token (suc n) ++ places_above (suc n) ps zero) ++ place q.token (suc m)) (omega arith)

place_front : (n : ℕ) (ps : List Weight) (a : ℕ) → a < length ps → places_above n ps a ≡ place (is_token ps (suc a)) (suc (n + a)) ++ places_above n ps (suc a)
place_front n [] a l = absurd (omega arith)
place_front n (p ∷ ps) zero l = ap (λ m. place p.token (suc m) ++ places_above (suc n) ps zero) (omega arith)
place_front n (p ∷ ps) (suc a) l = place_front (suc n) ps a (omega arith) ∙ ap (λ m. place (is_token ps (suc a)) (suc m) ++ places_above (suc n) ps (suc a)) (omega arith)

-- what was there and what is added are what is taken and what is there then
pub places_step : (w : Direction) (e : Event) → w.accepted ≤ begun w → (e ≡ accepts → w.accepted < begun w) → places w ++ put_by w e ≡ taken_by w e ++ places (happens w e)
places_step w (begins s) l h = sym (place_last 0 w.first s w.accepted l ∙ ap (λ m. places w ++ place s.token (suc m)) (omega arith))
places_step w (begins_through s) l h = sym (place_last 0 w.first s w.accepted l ∙ ap (λ m. places w ++ place s.token (suc m)) (omega arith))
places_step w accepts l h =
    let e : suc w.accepted ≡ w.accepted + 1 = omega arith in
    append-nil (places w) ∙ place_front 0 w.first w.accepted (h refl) ∙ ap (λ m. place (is_token w.first (suc w.accepted)) (suc m) ++ places_above 0 w.first (suc w.accepted)) (omega arith) ∙
    ap (λ m. place (is_token w.first (suc w.accepted)) (suc w.accepted) ++ places_above 0 w.first m) e
places_step w rests l h = append-nil (places w)
places_step w (sends_filler f) l h = append-nil (places w)
places_step w sends_clear l h = append-nil (places w)
places_step w begins_again l h = append-nil (places w)
places_step w goes_on l h = append-nil (places w)
places_step w (acknowledges n) l h = append-nil (places w)
places_step w (drops reading) l h = append-nil (places w)
places_step w trains l h = append-nil (places w)
places_step w opens l h = append-nil (places w)
places_step w (passes reading) l h = append-nil (places w)
places_step w gathers l h = append-nil (places w)
places_step w repeats l h = append-nil (places w)
places_step w (spoils c) l h = append-nil (places w)
places_step w (breaks c) l h = append-nil (places w)
places_step w unlocks l h = append-nil (places w)
