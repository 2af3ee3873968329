-- What has come of a report and of a text, and where they differ.
use Rattle.std.proofs.Common.{◌≡◌, ◌≤◌, ◌<◌, ◌+◌, ◌-◌, ◌∙◌, ℕ, zero, suc, Bool, true, false, not, if◌then◌else◌, nat_lt, Some, None, List, [], ◌∷◌, ◌++◌, length, take, drop, min, get_or, slice_get, ◌==◌, refl, sym, ap, subst, arith, append_assoc, append-nil, lt-ltb, eq-eqb, ne_eqb, eqb-true}
use Rattle.std.proofs.Math.Seq.{take-append_seam, drop-append_seam, take-suc}
use Rattle.std.specs.Str.{bytes_eq}
use Rattle.std.specs.List.{concat}
use Rattle.std.proofs.lemmas.Bool.Decides.{Decides-eqb}
use Rattle.std.proofs.lemmas.Slice.Eq.{starts_is}
use Rattle.std.proofs.lemmas.List.{take-append-drop, length-append, length-take-le}
use Rattle.hmc_check.specs.Fronts.{is_feed, feeds_in, is_open_after, lines_in}
use Rattle.hmc_check.specs.Verdict.{capped}
use Rattle.hmc_check.specs.Differs.{DiffersAt, Compares, HaveInCommon, HasCome, differs_line}
use Rattle.hmc_check.proofs.Fronts.{differs_here, differs_end}

pub line_came : (text report rest due more left now : List ℕ) → HasCome text report rest left → left ≡ due ++ now → rest ≡ due ++ more → HasCome text report more now
line_came text report rest due more left now come left_is rest_is = record {
  came = come.came ++ due;
  report_is = come.report_is ∙ ap (λ (t : List ℕ). come.came ++ t) rest_is ∙ sym (append_assoc come.came due more);
  text_is = come.text_is ∙ ap (λ (t : List ℕ). come.came ++ t) left_is ∙ sym (append_assoc come.came due now);
}

-- the line with a place at which the report has a byte
inside : (came : List ℕ) (byte : ℕ) (rest : List ℕ) (place : ℕ) → place ≡ length came → differs_line place (came ++ byte ∷ rest) ≡ suc (feeds_in came)
inside came byte rest place is =
    let less : length came < length (came ++ byte ∷ rest) = omega (arith, length-append came (byte ∷ rest)) in
    ap (λ (p : ℕ). differs_line p (came ++ byte ∷ rest)) is
    ∙ ap (λ (t : Bool). if t then suc (feeds_in (take (length came) (came ++ byte ∷ rest))) else suc (lines_in (came ++ byte ∷ rest))) (lt-ltb (length came) (length (came ++ byte ∷ rest)) less)
    ∙ ap (λ (t : List ℕ). suc (feeds_in t)) (take-append_seam came (byte ∷ rest))

not_less : (n : ℕ) → nat_lt n n ≡ false
not_less n = grind arith

outside : (report : List ℕ) (place : ℕ) → place ≡ length report → differs_line place report ≡ suc (lines_in report)
outside report place is =
    ap (λ (p : ℕ). differs_line p report) is
    ∙ ap (λ (t : Bool). if t then suc (feeds_in (take (length report) report)) else suc (lines_in report)) (not_less (length report))

-- the text ends before the report
pub report_more : (text report rest : List ℕ) (byte : ℕ) (more : List ℕ) (place : ℕ) (line : ℕ) → HasCome text report rest [] → rest ≡ byte ∷ more → place ≡ length report - length rest → line ≡ capped (differs_line place report) → Compares text report (Some line)
report_more text report rest byte more place line come rest_is place_is line_is =
    let report_is : report ≡ come.came ++ byte ∷ more = come.report_is ∙ ap (λ (t : List ℕ). come.came ++ t) rest_is in
    let at : place ≡ length come.came = omega (arith, place_is, length-append come.came rest, ap length come.report_is) in (
      suc (feeds_in come.came),
      line_is ∙ ap capped (ap (differs_line place) report_is ∙ inside come.came byte more place at),
      subst (λ (r : List ℕ). DiffersAt text r (suc (feeds_in come.came))) (sym report_is)
          (subst (λ (t : List ℕ). DiffersAt t (come.came ++ byte ∷ more) (suc (feeds_in come.came))) (sym come.text_is) (differs_here come.came byte more [] (λ others is. absurd (cc)))),
    )

-- both have ended
pub report_whole : (text report : List ℕ) → HasCome text report [] [] → report ≡ text
report_whole text report come = come.report_is ∙ sym come.text_is

-- the due line isn't the next one of the report
apart_by : (text report came : List ℕ) (a_rest : List ℕ) (byte : ℕ) (others : List ℕ) (place line : ℕ) → report ≡ came ++ a_rest → text ≡ came ++ byte ∷ others → place ≡ length came → line ≡ capped (differs_line place report)
    → ((x : ℕ) (xs : List ℕ) → a_rest ≡ x ∷ xs → byte ≡ x → ⊥) → Compares text report (Some line)
apart_by text report came [] byte others place line report_is text_is at line_is apart =
    let whole : report ≡ came = report_is ∙ append-nil came in (
      suc (lines_in report),
      line_is ∙ ap capped (outside report place (at ∙ ap length (sym whole))),
      subst (λ (t : List ℕ). DiffersAt t report (suc (lines_in report))) (sym (text_is ∙ ap (λ (t : List ℕ). t ++ byte ∷ others) (sym whole))) (differs_end report byte others),
    )
apart_by text report came (x ∷ xs) byte others place line report_is text_is at line_is apart = (
  suc (feeds_in came),
  line_is ∙ ap capped (ap (differs_line place) report_is ∙ inside came x xs place at),
  subst (λ (r : List ℕ). DiffersAt text r (suc (feeds_in came))) (sym report_is)
      (subst (λ (t : List ℕ). DiffersAt t (came ++ x ∷ xs) (suc (feeds_in came))) (sym text_is)
      (differs_here came x xs (byte ∷ others) (λ more is. apart x xs refl (cc)))),
)

-- what is due but not in common begins with a byte
due_more : (text report rest due now came a_rest : List ℕ) (b_rest : List ℕ) (n place line : ℕ) → HasCome text report rest (due ++ now) → rest ≡ came ++ a_rest → due ≡ came ++ b_rest → length came ≡ n → n < length due
    → ((x : ℕ) (xs ys : List ℕ) → a_rest ≡ x ∷ xs → b_rest ≡ x ∷ ys → ⊥) → place ≡ length report - length rest + n → line ≡ capped (differs_line place report) → Compares text report (Some line)
due_more text report rest due now came a_rest [] n place line come rest_is due_is count less apart place_is line_is =
    absurd (let same : length due ≡ length came = ap length (due_is ∙ append-nil came) in omega (arith, less, count))
due_more text report rest due now came a_rest (byte ∷ others) n place line come rest_is due_is count less apart place_is line_is =
    apart_by text report (come.came ++ came) a_rest byte (others ++ now) place line
    (come.report_is ∙ ap (λ (t : List ℕ). come.came ++ t) rest_is ∙ sym (append_assoc come.came came a_rest))
    (come.text_is ∙ ap (λ (t : List ℕ). come.came ++ (t ++ now)) due_is ∙ ap (λ (t : List ℕ). come.came ++ t) (append_assoc came (byte ∷ others) now) ∙ sym (append_assoc come.came came (byte ∷ (others ++ now))))
    (omega (arith, place_is, count, ap length come.report_is, length-append come.came rest, length-append come.came came))
    line_is (λ x xs rest_x same. apart x xs others rest_x (ap (λ (y : ℕ). y ∷ others) same))

pub line_differs : (text report rest due now left : List ℕ) (n place line : ℕ) → HasCome text report rest left → left ≡ due ++ now → HaveInCommon rest due n → n < length due
    → place ≡ length report - length rest + n → line ≡ capped (differs_line place report) → Compares text report (Some line)
line_differs text report rest due now left n place line come left_is common less place_is line_is =
    due_more text report rest due now common.came common.a_rest common.b_rest n place line (subst (HasCome text report rest) left_is come) common.a_is common.b_is common.count less common.apart place_is line_is

-- all of the due line is in common
all_due : (rest due came a_rest : List ℕ) (b_rest : List ℕ) (n : ℕ) → rest ≡ came ++ a_rest → due ≡ came ++ b_rest → length came ≡ n → length due ≤ n → rest ≡ due ++ drop n rest
all_due rest due came a_rest [] n rest_is due_is count most =
    let due_came : due ≡ came = due_is ∙ append-nil came in
    let left : drop n rest ≡ a_rest = subst (λ (m : ℕ). drop m rest ≡ a_rest) count (ap (drop (length came)) rest_is ∙ drop-append_seam came a_rest) in
    rest_is ∙ ap (λ (t : List ℕ). t ++ a_rest) (sym due_came) ∙ ap (λ (t : List ℕ). due ++ t) (sym left)
all_due rest due came a_rest (byte ∷ others) n rest_is due_is count most =
    absurd (omega (arith, ap length due_is, length-append came (byte ∷ others), count, most))

pub line_same : (rest due : List ℕ) (n : ℕ) → HaveInCommon rest due n → length due ≤ n → rest ≡ due ++ drop n rest
line_same rest due n common most = all_due rest due common.came common.a_rest common.b_rest n common.a_is common.b_is common.count most

-- ---- line feeds

feeds_more : (front : List ℕ) (byte : ℕ) → feeds_in (front ++ byte ∷ []) ≡ feeds_in front + (if is_feed byte then 1 else 0)
unfolding feeds_in
feeds_more [] byte = omega arith
feeds_more (first ∷ front) byte = let later = feeds_more front byte in omega (arith, later)

-- the last byte tells whether a piece is open
pub open_last : (piece : Bool) (report : List ℕ) (byte : ℕ) → slice_get report (length report - 1) ≡ Some byte → is_open_after piece report ≡ not (is_feed byte)
unfolding is_open_after
open_last piece [] byte is = absurd (cc)
open_last piece (first ∷ []) byte is = let same : first ≡ byte = cc in ap (λ (b : ℕ). not (is_feed b)) same
open_last piece (first ∷ next ∷ rest) byte is =
    let at : length (first ∷ next ∷ rest) - 1 ≡ suc (length (next ∷ rest) - 1) = omega arith in
    open_last (not (is_feed first)) (next ∷ rest) byte (subst (λ (n : ℕ). slice_get (first ∷ next ∷ rest) n ≡ Some byte) at is)

found_there : (xs : List ℕ) (n : ℕ) → n < length xs → slice_get xs n ≡ None → ⊥
found_there [] n less is = absurd (omega (arith, less))
found_there (x ∷ xs) zero less is = absurd (cc)
found_there (x ∷ xs) (suc n) less is = found_there xs n (omega (arith, less)) is

none_last : (first : ℕ) (rest : List ℕ) → slice_get (first ∷ rest) (length (first ∷ rest) - 1) ≡ None → ⊥
none_last first rest is = let less : length (first ∷ rest) - 1 < length (first ∷ rest) = omega arith in found_there (first ∷ rest) (length (first ∷ rest) - 1) less is

pub open_none : (report : List ℕ) → slice_get report (length report - 1) ≡ None → is_open_after false report ≡ false
unfolding is_open_after
open_none [] is = refl
open_none (first ∷ rest) is = absurd (none_last first rest is)

-- a place up to which two texts are the same, where they differ or one of them ends
same_parts : (a b : List ℕ) (n : ℕ) → take n a ≡ take n b → n ≤ length a → ((x : ℕ) (xs ys : List ℕ) → drop n a ≡ x ∷ xs → drop n b ≡ x ∷ ys → ⊥) → HaveInCommon a b n
same_parts a b n same few apart = record {
  came = take n a;
  a_rest = drop n a;
  b_rest = drop n b;
  a_is = sym (take-append-drop n a);
  b_is = sym (take-append-drop n b) ∙ ap (λ (t : List ℕ). t ++ drop n b) (sym same);
  count = length-take-le n a few;
  apart = apart;
}

first_left : (a : List ℕ) (n x : ℕ) (xs : List ℕ) → drop n a ≡ x ∷ xs → get_or a n 0 ≡ x
first_left [] zero x xs is = absurd (cc)
first_left [] (suc n) x xs is = absurd (cc)
first_left (y ∷ ys) zero x xs is = cc
first_left (y ∷ ys) (suc n) x xs is = first_left ys n x xs is

pub common_apart : (a b : List ℕ) (n : ℕ) → take n a ≡ take n b → n ≤ length a → (get_or a n 0 ≡ get_or b n 0 → ⊥) → HaveInCommon a b n
common_apart a b n same few apart = same_parts a b n same few (λ x xs ys a_is b_is. apart (first_left a n x xs a_is ∙ sym (first_left b n x ys b_is)))

-- one begins with all of the other
pub common_front : (a b : List ℕ) → bytes_eq b (take (length b) a) ≡ true → HaveInCommon a b (length b)
common_front a b is = record {
  came = b;
  a_rest = drop (length b) a;
  b_rest = [];
  a_is = (starts_is Decides-eqb a b true (sym is)).0 refl;
  b_is = sym (append-nil b);
  count = refl;
  apart = λ x xs ys a_is b_is. absurd (cc);
}

none_left : (a : List ℕ) (n x : ℕ) (xs : List ℕ) → drop n a ≡ x ∷ xs → n < length a
none_left [] zero x xs is = absurd (cc)
none_left [] (suc n) x xs is = absurd (cc)
none_left (y ∷ ys) zero x xs is = omega arith
none_left (y ∷ ys) (suc n) x xs is = let later = none_left ys n x xs is in omega (arith, later)

pub common_end : (a b : List ℕ) (n : ℕ) → take n a ≡ take n b → n ≡ min (length a) (length b) → HaveInCommon a b n
common_end a b n same most = same_parts a b n same (omega (arith, most)) (λ x xs ys a_is b_is.
    let in_a = none_left a n x xs a_is in
    let in_b = none_left b n x ys b_is in
    omega (arith, most, in_a, in_b))

pub feeds_next : (bytes : List ℕ) (n : ℕ) → n < length bytes → feeds_in (take (n + 1) bytes) ≡ feeds_in (take n bytes) + (if is_feed (get_or bytes n 0) then 1 else 0)
feeds_next bytes n less =
    let at : n + 1 ≡ suc n = omega arith in
    ap (λ (m : ℕ). feeds_in (take m bytes)) at ∙ ap feeds_in (take-suc bytes n 0 less) ∙ feeds_more (take n bytes) (get_or bytes n 0)

pub report_longer : (text report rest : List ℕ) (left : List (List ℕ)) (line : ℕ) → HasCome text report rest (concat left) → left ≡ [] → (length rest == 0) ≡ false → line ≡ capped (differs_line (length report - length rest) report) → Compares text report (Some line)
report_longer text report [] left line come none some line_is = absurd (cc)
report_longer text report (byte ∷ more) left line come none some line_is =
    report_more text report (byte ∷ more) byte more (length report - length (byte ∷ more)) line (subst (λ (l : List (List ℕ)). HasCome text report (byte ∷ more) (concat l)) none come) refl refl line_is

pub feeds_one : (bytes : List ℕ) (i n m : ℕ) → i < length bytes → n ≡ feeds_in (take i bytes) → get_or bytes i 0 ≡ 10 → m ≡ n + 1 → m ≡ feeds_in (take (i + 1) bytes)
feeds_one bytes i n m less count byte m_is =
    m_is ∙ ap (λ (k : ℕ). k + 1) count ∙ ap (λ (t : Bool). feeds_in (take i bytes) + (if t then 1 else 0)) (sym (eq-eqb (get_or bytes i 0) 10 byte)) ∙ sym (feeds_next bytes i less)

pub feeds_zero : (bytes : List ℕ) (i n m : ℕ) → i < length bytes → n ≡ feeds_in (take i bytes) → (get_or bytes i 0 ≡ 10 → ⊥) → m ≡ n → m ≡ feeds_in (take (i + 1) bytes)
feeds_zero bytes i n m less count byte m_is =
    let more : n ≡ n + 0 = omega arith in
    m_is ∙ more ∙ ap (λ (k : ℕ). k + 0) count ∙ ap (λ (t : Bool). feeds_in (take i bytes) + (if t then 1 else 0)) (sym (ne_eqb (get_or bytes i 0) 10 byte)) ∙ sym (feeds_next bytes i less)

-- one line more, or the line by which they differ
pub line_follows : (text report rest due later more : List ℕ) (n : ℕ) → HasCome text report rest (due ++ later) → HaveInCommon rest due n → length due ≤ n → more ≡ drop n rest → HasCome text report more later
line_follows text report rest due later more n come common most more_is =
    subst (λ (r : List ℕ). HasCome text report r later) (sym more_is)
    (line_came text report rest due (drop n rest) (due ++ later) later come refl (line_same rest due n common most))

pub line_parts : (text report rest due later : List ℕ) (n line : ℕ) → HasCome text report rest (due ++ later) → HaveInCommon rest due n → n < length due → line ≡ capped (differs_line (length report - length rest + n) report) → Compares text report (Some line)
line_parts text report rest due later n line come common less line_is = line_differs text report rest due later (due ++ later) n (length report - length rest + n) line come refl common less refl line_is

pub end_longer : (text report rest : List ℕ) (line : ℕ) → HasCome text report rest [] → (length rest == 0) ≡ false → line ≡ capped (differs_line (length report - length rest) report) → Compares text report (Some line)
end_longer text report rest line come some line_is = report_longer text report rest [] line come refl some line_is

pub end_whole : (text report rest : List ℕ) → HasCome text report rest [] → (length rest == 0) ≡ true → report ≡ text
end_whole text report [] come none = report_whole text report come
end_whole text report (byte ∷ more) come none = absurd (let zero_is = eqb-true (length (byte ∷ more)) 0 none in omega (arith, zero_is))
