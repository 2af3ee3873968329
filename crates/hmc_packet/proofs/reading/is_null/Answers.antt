-- Sixteen bytes make the number 0 exactly where each of them is 0.
use Rattle.std.proofs.Common.{◌≡◌, ◌≤◌, ◌<◌, ◌^◌, ◌∙◌, ℕ, zero, suc, List, length, Decides, refl}
use Rattle.std.proofs.Common.{ap, sym, inl, inr, arith}
use Rattle.std.specs.Prelude.{◌==◌, slice_index}
use Rattle.std.specs.Int.{w128, byte_worth, sum_through, from_le_bytes}
use Rattle.std.specs.Str.{bytes_eq}
use Rattle.std.proofs.lemmas.Bool.{cases_eq, eqb-true, eq-eqb}
use Rattle.std.proofs.lemmas.Bool.Decides.{same_from_decides}
use Rattle.std.proofs.lemmas.Grind.{same_number_lists}
use Rattle.std.proofs.lemmas.List.{get_or-replicate}
use Rattle.std.proofs.lemmas.Slice.Eq.{bytes_eq-Decides}
use Rattle.hmc_codes.specs.Flit.{zero_flit}
use Rattle.hmc_packet.specs.Reading.{is_null}
use Rattle.hmc_packet.proofs.reading.is_null.Goals as goal

power_some : (i : ℕ) → 0 < 256 ^ i
power_some zero = omega arith
power_some (suc i) = let below = power_some i in omega arith

worth_zero : (i b : ℕ) → byte_worth i b ≡ 0 → b ≡ 0
worth_zero zero b none = none
worth_zero (suc i) zero none = refl
worth_zero (suc i) (suc b) none = let some = power_some (suc i) in absurd (omega arith)

sum_zero : (f : ℕ → ℕ) (k i : ℕ) → sum_through f k ≡ 0 → i ≤ k → f i ≡ 0
sum_zero f zero i none within = let first : i ≡ 0 = omega arith in rw first none
sum_zero f (suc k) i none within = elim (cases_eq i (suc k)) [
  | inl last ↦ rw last (omega arith)
  | inr other ↦ sum_zero f k i (omega arith) (omega arith)
]

all_zero : (flit : List ℕ) → length flit ≡ 16 → from_le_bytes w128 flit ≡ 0 → flit ≡ zero_flit
unfolding zero_flit
all_zero flit len none =
    same_number_lists flit _ len (λ k within.
    worth_zero k _ (sum_zero (λ i. byte_worth i (slice_index flit i)) 15 k none (omega arith))
    ∙ sym (get_or-replicate 16 k 0 0 (omega arith)))

zero_number : from_le_bytes w128 zero_flit ≡ 0
unfolding zero_flit
zero_number = refl

decides : (flit : List ℕ) (number : ℕ) → length flit ≡ 16 → number ≡ from_le_bytes w128 flit →
    Decides (number == 0) (flit ≡ zero_flit)
decides flit number len is = (
  λ yes. all_zero flit len (sym is ∙ eqb-true number 0 yes),
  λ same. eq-eqb number 0 (is
      ∙ ap (from_le_bytes w128) same ∙ zero_number),
)

pub returns-clause-value : goal.returns-clause-value
unfolding is_null
returns-clause-value c =
    let flit = c.args.flit.now in
    same_from_decides _ (bytes_eq flit zero_flit)
    (decides flit c.from_le_bytes.result (omega arith) c.from_le_bytes.ensures)
    (bytes_eq-Decides flit zero_flit)

pub returns-clause-zeros : goal.returns-clause-zeros
returns-clause-zeros c =
    decides c.args.flit.now c.from_le_bytes.result (omega arith) c.from_le_bytes.ensures
