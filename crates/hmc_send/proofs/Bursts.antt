-- Bursts: how many IRTRYs the last one lacks.
use Rattle.std.proofs.Common.{◌≡◌, ◌≢◌, ◌∙◌, ◌-◌, ◌⊎◌, inl, inr, ℕ, zero, suc, min, Bool, true, false, Some, None, refl, sym, ap, arith}
use Rattle.std.specs.Prelude.{◌==◌, not, nat_le, if◌then◌else◌}
use Rattle.std.proofs.lemmas.Grind.{common_steps}
use Rattle.std.proofs.lemmas.Bool.{eqb-true, eq-eqb}
use Rattle.hmc_codes.proofs.General.{suc-some}
use Rattle.hmc_packet.specs.declared.kind.Kind.{Kind}
use Rattle.hmc_packet.specs.declared.kind.Kind.TheVariants.{Start, Clear}
use Rattle.hmc_irtry.specs.Burst.{BurstFields, next_of}
use Rattle.hmc_send.specs.Choice.{burst_of}
use Rattle.hmc_send.specs.Entries.{are_bursts}
use Rattle.hmc_send.specs.Sender.{burst_after}
use Rattle.hmc_send.specs.StandsFor.{lacking, left_of}

pub none-lacks : (n : ℕ) → (lacking n == 0) ≡ are_bursts n
none-lacks n = grind (arith, common_steps)

begun : (n left : ℕ) → left ≡ 0 → left ≡ lacking n → 31 ≡ lacking (suc n)
begun n left none lacks = omega arith

fewer : (n left : ℕ) → left ≢ 0 → left ≡ lacking n → left - 1 ≡ lacking (suc n)
fewer n left some lacks = omega arith

-- what an IRTRY of a kind makes of the counts
abbrev pub clears_with : Kind → ℕ → ℕ
clears_with Clear n = suc n
clears_with Start n = n

abbrev pub starts_with : Kind → ℕ → ℕ
starts_with Clear n = n
starts_with Start n = suc n

pub record Lacks (kind : Kind) (left clears starts : ℕ) : Type 0 where
  pub of_clears : left_of Clear kind left ≡ lacking clears
  pub of_starts : left_of Start kind left ≡ lacking starts

some : (left : ℕ) → (left == 0) ≡ false → left ≢ 0
some left test none = let clash : true ≡ false = sym (eq-eqb left 0 none) ∙ test in cc

abbrev burst_by : Bool → (of kind : Kind) → (left : ℕ) → BurstFields
burst_by b of kind left = if b then record { kind = of; left = 31 } else record { kind = kind; left = left - 1 }

-- one IRTRY more
lacks-by : (b : Bool) (of kind : Kind) (left clears starts : ℕ) → (left == 0) ≡ b → Lacks kind left clears starts → (left ≡ 0) ⊎ (kind ≡ of) →
    Lacks (burst_by b of kind left).kind (burst_by b of kind left).left (clears_with of clears) (starts_with of starts)
lacks-by true Clear Clear left c s test is due = record { of_clears = begun c left (eqb-true left 0 test) is.of_clears; of_starts = is.of_starts }
lacks-by true Clear Start left c s test is due = record { of_clears = begun c 0 refl is.of_clears; of_starts = sym (eqb-true left 0 test) ∙ is.of_starts }
lacks-by true Start Clear left c s test is due = record { of_clears = sym (eqb-true left 0 test) ∙ is.of_clears; of_starts = begun s 0 refl is.of_starts }
lacks-by true Start Start left c s test is due = record { of_clears = is.of_clears; of_starts = begun s left (eqb-true left 0 test) is.of_starts }
lacks-by false Clear Clear left c s test is due = record { of_clears = fewer c left (some left test) is.of_clears; of_starts = is.of_starts }
lacks-by false Start Start left c s test is due = record { of_clears = is.of_clears; of_starts = fewer s left (some left test) is.of_starts }
lacks-by false Clear Start left c s test is (inl none) = absurd (some left test none)
lacks-by false Clear Start left c s test is (inr same) = let clash : Start ≡ Clear = same in absurd cc
lacks-by false Start Clear left c s test is (inl none) = absurd (some left test none)
lacks-by false Start Clear left c s test is (inr same) = let clash : Clear ≡ Start = same in absurd cc

pub lacks-after : (of kind : Kind) (left clears starts : ℕ) → Lacks kind left clears starts → (left ≡ 0) ⊎ (kind ≡ of) →
    Lacks (burst_after of kind left).kind (burst_after of kind left).left (clears_with of clears) (starts_with of starts)
lacks-after of kind left c s is due = lacks-by (left == 0) of kind left c s refl is due

-- the kind of a burst that isn't whole
next-by : (kind : Kind) (left : ℕ) → next_of kind left ≡ (if not (left_of Clear kind left == 0) then Some Clear else if not (left_of Start kind left == 0) then Some Start else None)
next-by Clear zero = refl
next-by Clear (suc m) = ap (λ (b : Bool). if not b then Some Clear else if not (0 == 0) then Some Start else None) (sym (suc-some m))
next-by Start zero = refl
next-by Start (suc m) = ap (λ (b : Bool). if not b then Some Start else None) (sym (suc-some m))

pub burst-same : (kind : Kind) (left clears starts : ℕ) → Lacks kind left clears starts → next_of kind left ≡ burst_of clears starts
burst-same kind left c s is =
    let of_clears : (left_of Clear kind left == 0) ≡ are_bursts c = ap (λ (n : ℕ). n == 0) is.of_clears ∙ none-lacks c in
    let of_starts : (left_of Start kind left == 0) ≡ are_bursts s = ap (λ (n : ℕ). n == 0) is.of_starts ∙ none-lacks s in
    next-by kind left ∙ (λ i. if not (of_clears i) then Some Clear else if not (of_starts i) then Some Start else None)

-- no burst that lacks some is of another kind
pub left-none : (kind : Kind) (left : ℕ) → next_of kind left ≡ None → left ≡ 0
left-none kind zero none = refl
left-none kind (suc m) none = absurd cc

pub left-some : (kind : Kind) (left : ℕ) (of : Kind) → next_of kind left ≡ Some of → kind ≡ of
left-some kind zero of some = absurd cc
left-some kind (suc m) of some = cc

-- a burst of Clears begins where none is lacking
pub begins-clears : (kind : Kind) (left clears starts : ℕ) → Lacks kind left clears starts → (left ≡ 0) ⊎ (kind ≡ Clear) → (left == 0) ≡ are_bursts clears
begins-clears Clear left c s is due = ap (λ (n : ℕ). n == 0) is.of_clears ∙ none-lacks c
begins-clears Start zero c s is due = ap (λ (n : ℕ). n == 0) is.of_clears ∙ none-lacks c
begins-clears Start (suc m) c s is (inl none) = absurd (omega arith)
begins-clears Start (suc m) c s is (inr same) = let clash : Start ≡ Clear = same in absurd cc

pub enough : (n : ℕ) → nat_le 64 (min n 64) ≡ nat_le 64 n
enough n = grind (arith, common_steps)

pub one_more : (n : ℕ) → min (suc (min n 64)) 64 ≡ min (suc n) 64
one_more n = omega arith
