-- Steps that gave something: what each of them gave.
use Rattle.std.proofs.Common.{◌≡◌, ◌∙◌, ℕ, ◌^◌, Bool, true, false, Option, Some, None, option_map, Result, Ok, Err, List, [], ◌∷◌, nat_lt, codes, refl, sym, ap, arith}
use Rattle.std.specs.Prelude.{if◌then◌else◌}
use Rattle.std.specs.Str.{bytes_eq}
use Rattle.std.proofs.lemmas.Bool.Decides.{nat_tests}
use Rattle.std.proofs.lemmas.Option.{same_Some}
use Rattle.hmc_codes.specs.Limits.{tags}
use Rattle.hmc_text.specs.Number.{below, number_of}
use Rattle.hmc_text.specs.Reading as reading
use Rattle.hmc_words.specs.Taking as taking
use Rattle.hmc_words.specs.Taking.{take_number}
use Rattle.hmc_entries.specs.ParseWords as entries
use Rattle.hmc_entries.specs.ParseEntry.{take_tag}
use Rattle.hmc_log.specs.declared.fault.LogKind.{LogKind}
use Rattle.hmc_log.specs.declared.fault.LogKind.TheVariants as kinds
use Rattle.hmc_log.specs.Meaning.{number_word, tag_of, tag_word}

-- both steps gave a value
pub ok_then : {A B K : Type 0} (first : Result A K) (second : A → Result B K) (y : B) →
    reading.◌>>=◌ first second ≡ Ok y → (x : A) × (first ≡ Ok x) × (second x ≡ Ok y)
ok_then (Ok x) second y is = (x, refl, is)
ok_then (Err kind) second y is = absurd (cc is)

pub some_then : {A B : Type 0} (first : Option A) (second : A → Option B) (y : B) →
    taking.◌>>=◌ first second ≡ Some y → (x : A) × (first ≡ Some x) × (second x ≡ Some y)
some_then (Some x) second y is = (x, refl, is)
some_then None second y is = absurd (cc is)

-- the fault that a test would have given
pub if_ok : {A K : Type 0} (b : Bool) (kind : K) (x : Result A K) (y : A) →
    (if b then Err kind else x) ≡ Ok y → (b ≡ false) × (x ≡ Ok y)
if_ok true kind x y is = absurd (cc is)
if_ok false kind x y is = (refl, is)

pub if_passed : {A K : Type 0} (b : Bool) (kind : K) (x : Result A K) (y : A) →
    (if b then x else Err kind) ≡ Ok y → (b ≡ true) × (x ≡ Ok y)
if_passed true kind x y is = (refl, is)
if_passed false kind x y is = absurd (cc is)

pub or_fault_ok : {A K : Type 0} (kind : K) (o : Option A) (y : A) →
    reading.or_fault kind o ≡ Ok y → o ≡ Some y
or_fault_ok kind None y is = absurd (cc is)
or_fault_ok kind (Some x) y is = cc is

below_some : (limit : ℕ) (o : Option ℕ) (n : ℕ) → below limit o ≡ Some n → o ≡ Some n
below_some limit None n is = is
below_some limit (Some m) n is = by (nat_lt m limit) is where
  by : (b : Bool) → (if b then Some m else None) ≡ Some n → Some m ≡ Some n
  by true same = same
  by false none = absurd (cc none)

-- a number that was read, and the words after it
abbrev pub IsNumber : List (List ℕ) → ℕ × List (List ℕ) → Type 0
IsNumber [] read = ⊥
IsNumber (word ∷ words) read = (number_of word ≡ Some read.0) × (words ≡ read.1)

pub number_read : (kind : LogKind) (limit : ℕ) (words : List (List ℕ)) (read : ℕ × List (List ℕ)) →
    number_word kind limit words ≡ Ok read → IsNumber words read
unfolding reading.number_word
number_read kind limit [] read is = absurd (cc is)
number_read kind limit (word ∷ words) read is =
    let number = ok_then (reading.or_fault kind (number_of word)) _ read is in
    let small = ok_then (reading.or_fault kind (below limit (Some number.0))) _ read number.2 in
    let same = same_Some number.0 small.0
    (below_some limit (Some number.0) small.0 (or_fault_ok kind _ small.0 small.1)) in
    let read_is : (small.0, words) ≡ read = cc small.2 in
    (or_fault_ok kind (number_of word) number.0 number.1 ∙ ap Some same ∙ ap (λ r. Some r.0) read_is, ap (λ r. r.1) read_is)

pub number_taken : (limit : ℕ) (words : List (List ℕ)) (read : ℕ × List (List ℕ)) →
    take_number limit words ≡ Some read → IsNumber words read
unfolding take_number
number_taken limit [] read is = absurd (cc is)
number_taken limit (word ∷ words) read is =
    let number = some_then (below limit (number_of word)) _ read is in
    let read_is : (number.0, words) ≡ read = same_Some (number.0, words) read number.2 in (
      below_some limit (number_of word) number.0 number.1 ∙ ap (λ r. Some r.0) read_is,
      ap (λ r. r.1) read_is,
    )

-- two readings of the same words
pub same_number : (words : List (List ℕ)) (read other : ℕ × List (List ℕ)) →
    IsNumber words read → IsNumber words other → (read.0 ≡ other.0) × (read.1 ≡ other.1)
same_number [] read other is also = absurd is
same_number (word ∷ words) read other is also =
    (same_Some read.0 other.0 (sym is.0 ∙ also.0), sym is.1 ∙ also.1)

-- a tag below 2,048 is one of 16 bits
wide_tag : (word : List ℕ) (tag : Option ℕ) → tag_of word ≡ Some tag →
    entries.tag_of word ≡ Some tag
unfolding tag_of entries.tag_of
wide_tag word tag is = by (bytes_eq word (codes "-")) (number_of word) is where
  wide : (number : Option ℕ) → option_map Some (below tags number) ≡ Some tag →
      option_map Some (below (2 ^ 16) number) ≡ Some tag
  wide None none = none
  wide (Some n) some = small (nat_lt n tags) refl some where
    small : (b : Bool) → nat_lt n tags ≡ b →
        option_map Some (if b then Some n else None) ≡ Some tag →
        option_map Some (below (2 ^ 16) (Some n)) ≡ Some tag
    small false large none = absurd (cc none)
    small true low same =
        let wider : nat_lt n (2 ^ 16) ≡ true = grind (arith, nat_tests) in
        ap (λ b. option_map Some (if b then Some n else None)) wider ∙ same

  by : (b : Bool) (number : Option ℕ) →
      (if b then Some None else option_map Some (below tags number)) ≡ Some tag →
      (if b then Some None else option_map Some (below (2 ^ 16) number)) ≡ Some tag
  by true number dash = dash
  by false number some = wide number some

pub same_tag : (words : List (List ℕ)) (read other : Option ℕ × List (List ℕ)) →
    tag_word words ≡ Ok read → take_tag words ≡ Some other → read.0 ≡ other.0
unfolding tag_word take_tag
same_tag [] read other is also = absurd (cc is)
same_tag (word ∷ words) read other is also =
    let mine = ok_then (reading.or_fault kinds.Tag (tag_of word)) _ read is in
    let theirs = some_then (entries.tag_of word) _ other also in
    let wide = wide_tag word mine.0 (or_fault_ok kinds.Tag (tag_of word) mine.0 mine.1) in
    let same = same_Some mine.0 theirs.0 (sym wide ∙ theirs.1) in
    let mine_is : (mine.0, words) ≡ read = cc mine.2 in
    let theirs_is : (theirs.0, words) ≡ other = same_Some (theirs.0, words) other theirs.2 in
    ap (λ r. r.0) (sym mine_is) ∙ same ∙ ap (λ r. r.0) theirs_is
