-- The lines before a place of a report, and the line that has it.
use Rattle.std.proofs.Common.{◌≡◌, ◌≤◌, ◌+◌, ◌∙◌, inl, inr, ℕ, zero, suc, Bool, true, false, not, if◌then◌else◌, List, [], ◌∷◌, ◌++◌, length, refl, sym, ap, subst, arith, append_assoc}
use Rattle.hmc_check.specs.Fronts.{is_feed, front_lines, feeds_in, is_open_after, lines_in}
use Rattle.hmc_check.specs.Differs.{BeginsWith, DiffersAt}

begins_more : (byte : ℕ) (text bytes : List ℕ) → BeginsWith text bytes → BeginsWith (byte ∷ text) (byte ∷ bytes)
begins_more byte text bytes begins = record { rest = begins.rest; is = ap (λ (t : List ℕ). byte ∷ t) begins.is }

begins_none : (text : List ℕ) → BeginsWith text []
begins_none text = record { rest = text; is = refl }

-- a report begins with its first lines
pub front_begins : (k : ℕ) (report : List ℕ) → BeginsWith report (front_lines k report)
unfolding front_lines
front_begins zero report = begins_none report
front_begins (suc k) [] = begins_none []
front_begins (suc k) (byte ∷ report) = begins_more byte report (front_lines (if is_feed byte then k else suc k) report) (front_begins (if is_feed byte then k else suc k) report)

fewer : (test : Bool) (j n : ℕ) → suc j ≤ (if test then 1 else 0) + n → (if test then j else suc j) ≤ n
fewer true j n few = omega arith
fewer false j n few = omega arith

-- where no more lines are asked for than line feeds have come, they have come
front_before : (j : ℕ) (came more : List ℕ) → j ≤ feeds_in came → BeginsWith came (front_lines j (came ++ more))
unfolding front_lines feeds_in
front_before zero came more few = begins_none came
front_before (suc j) [] more few = absurd (omega (arith, few))
front_before (suc j) (byte ∷ came) more few =
    begins_more byte came (front_lines (if is_feed byte then j else suc j) (came ++ more)) (front_before (if is_feed byte then j else suc j) came more (fewer (is_feed byte) j (feeds_in came) few))

counted : (test : Bool) (n : ℕ) (report : List ℕ) → front_lines (if test then (if test then 1 else 0) + n else suc ((if test then 1 else 0) + n)) report ≡ front_lines (suc n) report
counted true n report = let same : 1 + n ≡ suc n = omega arith in ap (λ (m : ℕ). front_lines m report) same
counted false n report = let same : 0 + n ≡ n = omega arith in ap (λ (m : ℕ). front_lines (suc m) report) same

-- the line after these has the next byte
front_at : (came : List ℕ) (byte : ℕ) (rest : List ℕ) → (after : List ℕ) × (front_lines (suc (feeds_in came)) (came ++ byte ∷ rest) ≡ came ++ byte ∷ after)
unfolding front_lines feeds_in
front_at [] byte rest = (front_lines (if is_feed byte then 0 else 1) rest, refl)
front_at (first ∷ came) byte rest =
    let later = front_at came byte rest in
    (later.0, ap (λ (t : List ℕ). first ∷ t) (counted (is_feed first) (feeds_in came) (came ++ byte ∷ rest) ∙ later.1))

some_by : (test : Bool) (byte : ℕ) (report : List ℕ) → is_feed byte ≡ test → 1 ≤ feeds_in report + (if is_open_after true report then 1 else 0)
    → 1 ≤ (if is_feed byte then 1 else 0) + feeds_in report + (if is_open_after (not (is_feed byte)) report then 1 else 0)
some_by true byte report is later = subst (λ (t : Bool). 1 ≤ (if t then 1 else 0) + feeds_in report + (if is_open_after (not t) report then 1 else 0)) (sym is) (omega arith)
some_by false byte report is later = subst (λ (t : Bool). 1 ≤ (if t then 1 else 0) + feeds_in report + (if is_open_after (not t) report then 1 else 0)) (sym is) (omega (arith, later))

-- a line is begun by a byte
some_line : (report : List ℕ) → 1 ≤ feeds_in report + (if is_open_after true report then 1 else 0)
unfolding feeds_in is_open_after
some_line [] = omega arith
some_line (byte ∷ report) = some_by (is_feed byte) byte report refl (some_line report)

begun_line : (piece : Bool) (byte : ℕ) (report : List ℕ) → 1 ≤ feeds_in (byte ∷ report) + (if is_open_after piece (byte ∷ report) then 1 else 0)
unfolding feeds_in is_open_after
begun_line piece byte report = some_by (is_feed byte) byte report refl (some_line report)

lines_reach : (piece : Bool) (came : List ℕ) (byte : ℕ) (rest : List ℕ) → suc (feeds_in came) ≤ feeds_in (came ++ byte ∷ rest) + (if is_open_after piece (came ++ byte ∷ rest) then 1 else 0)
unfolding feeds_in is_open_after
lines_reach piece [] byte rest = begun_line piece byte rest
lines_reach piece (first ∷ came) byte rest = let later = lines_reach (not (is_feed first)) came byte rest in omega arith

-- after the same bytes come different ones
parts_after : (came one two : List ℕ) → came ++ one ≡ came ++ two → one ≡ two
parts_after [] one two same = same
parts_after (byte ∷ came) one two same = parts_after came one two (cc)

pub differs_here : (came : List ℕ) (byte : ℕ) (rest after : List ℕ) → ((others : List ℕ) → after ≡ byte ∷ others → ⊥) → DiffersAt (came ++ after) (came ++ byte ∷ rest) (suc (feeds_in came))
differs_here came byte rest after other = record {
  some = omega arith;
  before = λ j less.
      let begins = front_before j came (byte ∷ rest) (omega (arith, less)) in
      record { rest = begins.rest ++ after; is = ap (λ (t : List ℕ). t ++ after) begins.is ∙ append_assoc (front_lines j (came ++ byte ∷ rest)) begins.rest after };
  at = inl (
    lines_reach false came byte rest,
    λ begins.
        let line = front_at came byte rest in
        other (line.0 ++ begins.rest) (parts_after came after (byte ∷ (line.0 ++ begins.rest))
        (begins.is ∙ ap (λ (t : List ℕ). t ++ begins.rest) line.1 ∙ append_assoc came (byte ∷ line.0) begins.rest)),
  );
}

-- nothing that is more than a text is the text
longer : (text : List ℕ) (byte : ℕ) (after : List ℕ) → text ≡ text ++ byte ∷ after → ⊥
longer [] byte after same = absurd (cc)
longer (first ∷ text) byte after same = longer text byte after (cc)

pub differs_end : (report : List ℕ) (byte : ℕ) (after : List ℕ) → DiffersAt (report ++ byte ∷ after) report (suc (lines_in report))
differs_end report byte after = record {
  some = omega arith;
  before = λ j less.
      let begins = front_begins j report in
      record { rest = begins.rest ++ byte ∷ after; is = ap (λ (t : List ℕ). t ++ byte ∷ after) begins.is ∙ append_assoc (front_lines j report) begins.rest (byte ∷ after) };
  at = inr (refl, longer report byte after);
}

-- ---- a report has no more lines than bytes

few_by : (test piece : Bool) (feeds left long : ℕ) → feeds + left ≤ long + (if not test then 1 else 0) →
    ((if test then 1 else 0) + feeds) + left ≤ suc long + (if piece then 1 else 0)
few_by true piece feeds left long few = omega (arith, few)
few_by false piece feeds left long few = omega (arith, few)

lines_few : (piece : Bool) (report : List ℕ) →
    feeds_in report + (if is_open_after piece report then 1 else 0)
    ≤ length report + (if piece then 1 else 0)
unfolding feeds_in is_open_after
lines_few piece [] = omega arith
lines_few piece (byte ∷ report) =
    few_by (is_feed byte) piece (feeds_in report)
    (if is_open_after (not (is_feed byte)) report then 1 else 0) (length report)
    (lines_few (not (is_feed byte)) report)

pub lines_in-few : (report : List ℕ) → lines_in report ≤ length report
lines_in-few report = let few = lines_few false report in omega (arith, few)
