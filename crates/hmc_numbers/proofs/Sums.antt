-- Sums over the first packets of a direction: lemmas that most files here use.
use Rattle.std.proofs.Common.{◌≡◌, ℕ, zero, suc, ◌+◌, ◌-◌, ◌<◌, ◌≤◌, List, [], ◌∷◌, ◌++◌, length, refl, ◌∙◌, ap, arith}
use Rattle.hmc_numbers.specs.Weights.{Weight, upto, flits_to, size, HasValidSize, HaveValidSizes}

pub upto-append : (g : Weight → ℕ) (ps qs : List Weight) (n : ℕ) → n ≤ length ps → upto g (ps ++ qs) n ≡ upto g ps n
upto-append g [] [] n l = refl
upto-append g [] (q ∷ qs) zero l = refl
upto-append g [] (q ∷ qs) (suc n) l = absurd (omega arith)
upto-append g (p ∷ ps) qs zero l = refl
upto-append g (p ∷ ps) qs (suc n) l = ap (λ x. g p + x) (upto-append g ps qs n (omega arith))

pub upto-none : (g : Weight → ℕ) (ps : List Weight) → upto g ps 0 ≡ 0
upto-none g [] = refl
upto-none g (p ∷ ps) = refl

upto-snoc_suc : (g : Weight → ℕ) (ps : List Weight) (q : Weight) → upto g (ps ++ q ∷ []) (suc (length ps)) ≡ upto g ps (length ps) + g q
upto-snoc_suc g [] q = omega arith
upto-snoc_suc g (p ∷ ps) q = let h = upto-snoc_suc g ps q in omega arith

pub upto-snoc : (g : Weight → ℕ) (ps : List Weight) (q : Weight) → upto g (ps ++ q ∷ []) (length ps + 1) ≡ upto g ps (length ps) + g q
upto-snoc g ps q = ap (λ n. upto g (ps ++ q ∷ []) n) (omega arith) ∙ upto-snoc_suc g ps q

pub upto-up : (g : Weight → ℕ) (ps : List Weight) (i j : ℕ) → i ≤ j → upto g ps i ≤ upto g ps j
upto-up g [] i j l = omega arith
upto-up g (p ∷ ps) zero j l = omega arith
upto-up g (p ∷ ps) (suc i) zero l = absurd (omega arith)
upto-up g (p ∷ ps) (suc i) (suc j) l = let h = upto-up g ps i j (omega arith) in omega arith

flits-next_suc : (ps : List Weight) (n : ℕ) → HaveValidSizes ps → n < length ps → (flits_to ps n + 1 ≤ flits_to ps (suc n)) × (flits_to ps (suc n) ≤ flits_to ps n + 17)
flits-next_suc [] n f l = absurd (omega arith)
flits-next_suc (p ∷ ps) zero f l = let z = upto-none (λ p. p.flits) ps in (omega (arith, f.0, z), omega (arith, f.0, z))
flits-next_suc (p ∷ ps) (suc n) f l = let h = flits-next_suc ps n f.1 (omega arith) in (omega (arith, h), omega (arith, h))

pub flits-next : (ps : List Weight) (n : ℕ) → HaveValidSizes ps → n < length ps → (flits_to ps n + 1 ≤ flits_to ps (n + 1)) × (flits_to ps (n + 1) ≤ flits_to ps n + 17)
flits-next ps n f l =
    let e : flits_to ps (n + 1) ≡ flits_to ps (suc n) = ap (λ i. flits_to ps i) (omega arith) in
    let h = flits-next_suc ps n f l in
    (omega (arith, h), omega (arith, h))

pub flits-less : (ps : List Weight) (i j : ℕ) → HaveValidSizes ps → i < j → j ≤ length ps → flits_to ps i + 1 ≤ flits_to ps j
flits-less ps i j f l m = let h = flits-next ps i f (omega arith) in let u = upto-up (λ p. p.flits) ps (i + 1) j (omega arith) in omega (arith, h)

pub valid_sizes-snoc : (ps : List Weight) (q : Weight) → HaveValidSizes ps → HasValidSize q → HaveValidSizes (ps ++ q ∷ [])
valid_sizes-snoc [] q f i = (i, tt)
valid_sizes-snoc (p ∷ ps) q f i = (f.0, valid_sizes-snoc ps q f.1 i)

pub record Size (ps : List Weight) (n : ℕ) : Type 0 where
  pub least : 1 ≤ size ps n
  pub most : size ps n ≤ 17
  pub sum : flits_to ps (n - 1) + size ps n ≡ flits_to ps n

pub size-valid : (ps : List Weight) (n : ℕ) → HaveValidSizes ps → 1 ≤ n → n ≤ length ps → Size ps n
size-valid ps zero f l m = absurd (omega arith)
size-valid ps (suc n) f l m =
    let h = flits-next ps n f (omega arith) in
    let e : flits_to ps (suc n) ≡ flits_to ps (n + 1) = ap (λ i. flits_to ps i) (omega arith) in
    let d : flits_to ps (suc n - 1) ≡ flits_to ps n = ap (λ i. flits_to ps i) (omega arith) in
    record { least = omega (arith, h); most = omega (arith, h); sum = omega (arith, h) }

pub size-append : (ps qs : List Weight) (n : ℕ) → n ≤ length ps → size (ps ++ qs) n ≡ size ps n
size-append ps qs n l =
    let a = upto-append (λ p. p.flits) ps qs n l in
    let b = upto-append (λ p. p.flits) ps qs (n - 1) (omega arith) in
    omega arith

pub size-snoc : (ps : List Weight) (q : Weight) → size (ps ++ q ∷ []) (length ps + 1) ≡ q.flits
size-snoc ps q =
    let a = upto-snoc (λ p. p.flits) ps q in
    let b = upto-append (λ p. p.flits) ps (q ∷ []) (length ps) (omega arith) in
    let d : flits_to (ps ++ q ∷ []) (length ps + 1 - 1) ≡ flits_to (ps ++ q ∷ []) (length ps) = ap (λ i. flits_to (ps ++ q ∷ []) i) (omega arith) in
    omega arith
