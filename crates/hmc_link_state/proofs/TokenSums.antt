-- What the next packet adds to the sums over what is accepted.
use Rattle.std.proofs.Common.{◌≡◌, ℕ, zero, suc, ◌+◌, ◌-◌, ◌<◌, Bool, true, false, if◌then◌else◌, List, [], ◌∷◌, ◌++◌, length, refl, ◌∙◌, ap, arith}
use Rattle.hmc_numbers.specs.Weights.{Weight, upto, flits_to, size}
use Rattle.hmc_numbers.specs.Places.{is_token}
use Rattle.hmc_numbers.specs.Tokens.{cost, if_token}
use Rattle.hmc_numbers.proofs.Sums.{upto-none}
use Rattle.hmc_link_state.specs.State.{count_of, count_if, flits_of}

cost_by : (b : Bool) (n : ℕ) → if_token b n ≡ (if b then n else 0)
cost_by true n = refl
cost_by false n = refl

count_by : (b : Bool) → count_if b ≡ (if b then 1 else 0)
count_by true = refl
count_by false = refl

cost_suc : (ps : List Weight) (a : ℕ) → a < length ps → upto cost ps (suc a) ≡ upto cost ps a
    + (if is_token ps (suc a) then flits_to ps (suc a) - flits_to ps a else 0)
cost_suc [] a l = absurd (omega (arith, l))
cost_suc (p ∷ ps) zero l = by_token p.token refl
  where
    by_token : (b : Bool) → p.token ≡ b → cost p + upto cost ps 0 ≡ 0
        + (if b then p.flits + flits_to ps 0 - 0 else 0)
    by_token true q =
        let z : cost p ≡ p.flits = ap (λ b. if_token b p.flits) q in
        omega (arith, z, upto-none cost ps, upto-none (λ x. x.flits) ps)
    by_token false q =
        let z : cost p ≡ 0 = ap (λ b. if_token b p.flits) q in omega (arith, z, upto-none cost ps)
cost_suc (p ∷ ps) (suc a) l =
    let h : upto cost ps (suc a) ≡ upto cost ps a
    + (if is_token ps (suc a) then flits_to ps (suc a) - flits_to ps a else 0) =
    cost_suc ps a (omega (arith, l)) in
    let e : p.flits + flits_to ps (suc a) - (p.flits + flits_to ps a) ≡ flits_to ps
    (suc a) - flits_to ps a = omega arith in
    let d : (if is_token ps (suc a) then p.flits + flits_to ps (suc a) - (p.flits + flits_to ps a)
    else 0) ≡ (if is_token ps (suc a) then flits_to ps (suc a) - flits_to ps a else 0) = ap
    (λ n. if is_token ps (suc a) then n else 0) e in
    omega (arith, h, d)

count_suc : (ps : List Weight) (a : ℕ) → a < length ps →
    upto count_of ps (suc a) ≡ upto count_of ps a + (if is_token ps (suc a) then 1 else 0)
count_suc [] a l = absurd (omega (arith, l))
count_suc (p ∷ ps) zero l = let z = count_by p.token in omega (arith, z, upto-none count_of ps)
count_suc (p ∷ ps) (suc a) l =
    let h : upto count_of ps (suc a) ≡ upto count_of ps a + (if is_token ps (suc a) then 1 else 0) =
    count_suc ps a (omega (arith, l)) in
    omega (arith, h)

pub cost_next : (ps : List Weight) (a : ℕ) → a < length ps → upto cost ps (a + 1) ≡ upto cost ps a
    + (if is_token ps (a + 1) then size ps (a + 1) else 0)
cost_next ps a l =
    let q : suc a ≡ a + 1 = omega arith in
    let e : flits_to ps (suc a) - flits_to ps a ≡ size ps (a + 1) =
    ap (λ n. flits_to ps n - flits_to ps a) q
    ∙ ap (λ n. flits_to ps (a + 1) - flits_to ps n) (omega arith) in
    ap (upto cost ps) (omega arith) ∙ cost_suc ps a l
    ∙ ap (λ n. upto cost ps a + (if is_token ps n then flits_to ps (suc a) - flits_to ps a else 0))
    q
    ∙ ap (λ n. upto cost ps a + (if is_token ps (a + 1) then n else 0)) e

pub count_next : (ps : List Weight) (a : ℕ) → a < length ps →
    upto count_of ps (a + 1) ≡ upto count_of ps a + (if is_token ps (a + 1) then 1 else 0)
count_next ps a l =
    let q : suc a ≡ a + 1 = omega arith in
    ap (upto count_of ps) (omega arith) ∙ count_suc ps a l
    ∙ ap (λ n. upto count_of ps a + (if is_token ps n then 1 else 0)) q

pub flits-more : (xs : List ℕ) (n : ℕ) → flits_of (xs ++ n ∷ []) ≡ flits_of xs + n
flits-more [] n = omega arith
flits-more (x ∷ xs) n = let h = flits-more xs n in omega (arith, h)
