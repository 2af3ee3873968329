-- The content of a queue, as journals define it: what entered, without as many packets as left. With
-- each entry it changes as by a move of the front.
use Rattle.std.proofs.Common.{◌≡◌, ◌≤◌, ◌<◌, ◌∙◌, ◌+◌, ℕ, zero, suc, Bool, true, false, List, [], ◌∷◌, ◌++◌, length, map, drop, refl, sym, ap, arith}
use Rattle.std.proofs.lemmas.List.{drop-map, map-append, length-map}
use Rattle.hmc_hops.specs.Packets.{Packet}
use Rattle.hmc_hops.specs.Moves.{without, without_if, one_if}

drop_more : (n : ℕ) (xs ys : List Packet) → n ≤ length xs → drop n (xs ++ ys) ≡ drop n xs ++ ys
drop_more zero xs ys less = refl
drop_more (suc n) [] ys less = absurd (omega arith)
drop_more (suc n) (x ∷ xs) ys less = drop_more n xs ys (omega arith)

drop_front : (n : ℕ) (xs ys : List Packet) → n < length xs → drop (suc n) (xs ++ ys) ≡ without 0 (drop n xs) ++ ys
unfolding without
drop_front zero [] ys less = absurd (omega arith)
drop_front zero (x ∷ xs) ys less = refl
drop_front (suc n) [] ys less = absurd (omega arith)
drop_front (suc n) (x ∷ xs) ys less = drop_front n xs ys (omega arith)

-- n packets left before; one more leaves, or none; and some enter
pub drop_step : (leaves : Bool) (n : ℕ) (entered enters : List Packet) → n ≤ length entered → (leaves ≡ true → n < length entered) → drop (one_if leaves + n) (entered ++ enters) ≡ without_if leaves 0 (drop n entered) ++ enters
drop_step true n entered enters within some =
    let next : 1 + n ≡ suc n = omega arith in ap (λ (k : ℕ). drop k (entered ++ enters)) next ∙ drop_front n entered enters (some refl)
drop_step false n entered enters within some =
    let same : 0 + n ≡ n = omega arith in ap (λ (k : ℕ). drop k (entered ++ enters)) same ∙ drop_more n entered enters within

-- the same where each packet is seen as another one
pub drop_step-map : {X : Type 0} (seen : X → Packet) (leaves : Bool) (n : ℕ) (entered enters : List X) → n ≤ length entered → (leaves ≡ true → n < length entered)
    → map seen (drop (one_if leaves + n) (entered ++ enters)) ≡ without_if leaves 0 (map seen (drop n entered)) ++ map seen enters
drop_step-map seen leaves n entered enters within some =
    let long : length (map seen entered) ≡ length entered = length-map entered seen in
    sym (drop-map seen (one_if leaves + n) (entered ++ enters)) ∙ ap (drop (one_if leaves + n)) (map-append seen entered enters)
    ∙ drop_step leaves n (map seen entered) (map seen enters) (omega arith) (λ is. let less : n < length entered = some is in omega arith)
    ∙ ap (λ (xs : List Packet). without_if leaves 0 xs ++ map seen enters) (drop-map seen n entered)
