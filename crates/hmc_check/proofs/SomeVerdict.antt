-- Each report is lawful or has a first line that fits no whole lawful journal.
use Rattle.std.proofs.Common.{◌≡◌, ◌⊎◌, ◌∙◌, inl, inr, ℕ, suc, Bool, true, false, nat_eq, List, [], ◌∷◌, ◌++◌, length, refl, sym, ap, subst, arith, append-nil}
use Rattle.std.proofs.lemmas.Bool.{eqb-true}
use Rattle.hmc_journal.specs.Lawful.{journal_of}
use Rattle.hmc_journal.specs.Setup.{Setup}
use Rattle.hmc_check.specs.Differs.{DiffersAt, HaveInCommon}
use Rattle.hmc_check.specs.Fronts.{feeds_in, lines_in}
use Rattle.hmc_check.specs.Verdict.{IsLawfulReport, IsLeastUnfit}
use Rattle.hmc_check.proofs.Fronts.{differs_here, differs_end}
use Rattle.hmc_check.proofs.Verdicts.{text_of, lawful_by, least_unfit}

-- ---- two texts have some bytes in common, and are apart after these

none_common : (a b : List ℕ) → ((x : ℕ) (xs ys : List ℕ) → a ≡ x ∷ xs → b ≡ x ∷ ys → ⊥) →
    HaveInCommon a b 0
none_common a b apart = record {
  came = [];
  a_rest = a;
  b_rest = b;
  a_is = refl;
  b_is = refl;
  count = refl;
  apart = apart;
}

one_more : (x : ℕ) (a b : List ℕ) (n : ℕ) → HaveInCommon a b n → HaveInCommon (x ∷ a) (x ∷ b) (suc n)
one_more x a b n common = record {
  came = x ∷ common.came;
  a_rest = common.a_rest;
  b_rest = common.b_rest;
  a_is = ap (λ (t : List ℕ). x ∷ t) common.a_is;
  b_is = ap (λ (t : List ℕ). x ∷ t) common.b_is;
  count = ap suc common.count;
  apart = common.apart;
}

heads_apart : (x y : ℕ) → nat_eq x y ≡ false → (z : ℕ) (a b xs ys : List ℕ) → x ∷ a ≡ z ∷ xs →
    y ∷ b ≡ z ∷ ys → ⊥
heads_apart x y other z a b xs ys is as_is =
    let x_is : x ≡ z = cc in
    let y_is : y ≡ z = cc in
    grind (arith, other, x_is, y_is)

common_of : (a b : List ℕ) → (n : ℕ) × HaveInCommon a b n
common_of [] b = (0, none_common [] b (λ x xs ys is other. absurd (cc)))
common_of (x ∷ a) [] = (0, none_common (x ∷ a) [] (λ y xs ys is other. absurd (cc)))
common_of (x ∷ a) (y ∷ b) = by (nat_eq x y) refl (common_of a b)
  where
    by : (same : Bool) → nat_eq x y ≡ same → (n : ℕ) × HaveInCommon a b n →
        (n : ℕ) × HaveInCommon (x ∷ a) (y ∷ b) n
    by true same rest = (
      suc rest.0,
      subst (λ (z : ℕ). HaveInCommon (x ∷ a) (z ∷ b) (suc rest.0)) (eqb-true x y same)
          (one_more x a b rest.0 rest.1),
    )
    by false other rest = (
      0,
      none_common (x ∷ a) (y ∷ b)
          (λ z xs ys is as_is. heads_apart x y other z a b xs ys is as_is),
    )

-- ---- a report is a text, or differs from it first in some line

compared : (report text came : List ℕ) (a b : List ℕ) → report ≡ came ++ a → text ≡ came ++ b →
    ((x : ℕ) (xs ys : List ℕ) → a ≡ x ∷ xs → b ≡ x ∷ ys → ⊥) →
    (report ≡ text) ⊎ ((k : ℕ) × DiffersAt text report k)
compared report text came [] [] is text_is apart = inl (is ∙ sym text_is)
compared report text came [] (y ∷ ys) is text_is apart =
    let whole : report ≡ came = is ∙ append-nil came in
    inr (
      suc (lines_in report),
      subst (λ (t : List ℕ). DiffersAt t report (suc (lines_in report)))
          (sym (text_is ∙ ap (λ (t : List ℕ). t ++ y ∷ ys) (sym whole))) (differs_end report y ys),
    )
compared report text came (x ∷ xs) b is text_is apart =
    let differs = differs_here came x xs b (λ others b_is. apart x xs others refl b_is) in
    inr (
      suc (feeds_in came),
      subst (λ (r : List ℕ). DiffersAt text r (suc (feeds_in came))) (sym is)
          (subst (λ (t : List ℕ). DiffersAt t (came ++ x ∷ xs) (suc (feeds_in came))) (sym text_is)
          differs),
    )

pub a_verdict : (setup : Setup) (report : List ℕ) →
    ((entries : ℕ) × IsLawfulReport setup report entries)
    ⊎ ((number : ℕ) × IsLeastUnfit setup report number)
a_verdict setup report = by (compared report (text_of setup) common.came common.a_rest common.b_rest common.a_is common.b_is common.apart)
  where
    common : HaveInCommon report (text_of setup) (common_of report (text_of setup)).0
    common = (common_of report (text_of setup)).1

    by : (report ≡ text_of setup) ⊎ ((k : ℕ) × DiffersAt (text_of setup) report k) →
        ((entries : ℕ) × IsLawfulReport setup report entries)
        ⊎ ((number : ℕ) × IsLeastUnfit setup report number)
    by (inl same) = inl (length (journal_of setup), lawful_by setup report same)
    by (inr found) = inr (found.0, least_unfit setup report found.0 found.1)
