-- The entry whose line a text is.
use Rattle.std.proofs.Common.{◌≡◌, ◌∙◌, ◌↔◌, ℕ, Bool, true, false, Option, Some, None, IfSome, List, [], ◌∷◌, ◌++◌, ◌-◌, ◌*◌, length, take, codes, refl, sym, ap, arith}
use Rattle.std.specs.Prelude.{if◌then◌else◌}
use Rattle.std.specs.Str.{bytes_eq}
use Rattle.std.proofs.Math.Seq.{take-append_seam}
use Rattle.std.proofs.lemmas.List.{append_cancel_right, length-append}
use Rattle.std.proofs.lemmas.Slice.Eq.{bytes_eq-Decides}
use Rattle.std.specs.Fmt.{decimal}
use Rattle.std.specs.Int.{w32, to_be_bytes}
use Rattle.hex.specs.Hex.{encode_lower}
use Rattle.hmc_codes.specs.Text.{spaced_words, line, hex_number}
use Rattle.hmc_report.specs.Lines as report
use Rattle.hmc_script.proofs.WordsText.{line-spaced}
use Rattle.hmc_text.specs.Words.{words_of}
use Rattle.hmc_entries.specs.declared.entry.Entry.{Entry}
use Rattle.hmc_entries.specs.Lines.{line_of}
use Rattle.hmc_entries.specs.Parse.{IsPrintable, IsLineOf}
use Rattle.hmc_entries.specs.ParseHead.{head_of, all_heads}
use Rattle.hmc_entries.specs.ParseEntry.{gave_in, took_in, retired_in, entry_after, entry_in}
use Rattle.hmc_entries.proofs.ParseText.{line_back}
use Rattle.hmc_log.specs.Lines.{is_line, written, EndsWithFeed}
use Rattle.hmc_log.proofs.Fitting.{gave_fits, took_fits, retired_fits}

-- bytes are compared with their last one or without it
same_front : (front text : List ℕ) (b : Bool) → bytes_eq front text ≡ b →
    bytes_eq (front ++ (10 ∷ [])) (text ++ (10 ∷ [])) ≡ b
same_front front text true is =
    (bytes_eq-Decides (front ++ (10 ∷ [])) (text ++ (10 ∷ []))).1
    (ap (λ l. l ++ (10 ∷ [])) ((bytes_eq-Decides front text).0 is))
same_front front text false is = by (bytes_eq (front ++ (10 ∷ [])) (text ++ (10 ∷ []))) refl
  where
    by : (b : Bool) → bytes_eq (front ++ (10 ∷ [])) (text ++ (10 ∷ [])) ≡ b → b ≡ false
    by false other = refl
    by true other =
        let same = append_cancel_right front text (10 ∷ [])
        ((bytes_eq-Decides (front ++ (10 ∷ [])) (text ++ (10 ∷ []))).0 other) in
        absurd (cc (is, (bytes_eq-Decides front text).1 same))

front_of : (front : List ℕ) →
    take (length (front ++ (10 ∷ [])) - 1) (front ++ (10 ∷ [])) ≡ front
front_of front =
    let long : length (front ++ (10 ∷ [])) - 1 ≡ length front =
    omega (arith, length-append front (10 ∷ [])) in
    ap (λ n. take n (front ++ (10 ∷ []))) long ∙ take-append_seam front (10 ∷ [])

-- the line that is compared without its line feed
pub line_same : (line looked text other : List ℕ) (same : Bool) → EndsWithFeed line →
    looked ≡ line → other ≡ text → same ≡ bytes_eq (take (length looked - 1) looked) other →
    same ≡ is_line text line
line_same line looked text other same ends is own test =
    let front = ends.0 in
    let whole : looked ≡ front ++ (10 ∷ []) = is ∙ ends.1 in
    let fronts : take (length looked - 1) looked ≡ front =
    ap (λ l. take (length l - 1) l) whole ∙ front_of front in
    let tested : same ≡ bytes_eq front text =
    test ∙ ap (λ l. bytes_eq l other) fronts ∙ ap (bytes_eq front) own in
    sym (ap (λ l. bytes_eq l (text ++ (10 ∷ []))) ends.1 ∙ same_front front text same (sym tested))

-- no line is empty
pub no_empty_line : (line looked : List ℕ) (A : Type 0) → EndsWithFeed line → looked ≡ line →
    length looked ≡ 0 → A
no_empty_line line looked A ends is none =
    absurd (omega (arith, none, ap length is, ap length ends.1, length-append ends.0 (10 ∷ [])))

-- the lines of the end
pub words_end : (words : List (List ℕ)) → EndsWithFeed (line words)
words_end words = (spaced_words words, line-spaced words)

pub memory_ends : (cube block : ℕ) (bytes : List ℕ) → EndsWithFeed (report.memory_line cube block bytes)
unfolding report.memory_line
memory_ends cube block bytes = words_end
    (codes "memory" ∷ decimal cube ∷ hex_number (16 * block) ∷ encode_lower bytes ∷ [])

pub register_ends : (cube register value : ℕ) → EndsWithFeed (report.register_line cube register value)
unfolding report.register_line
register_ends cube register value = words_end (codes "register" ∷ decimal cube ∷
    decimal register ∷ encode_lower (to_be_bytes w32 value) ∷ [])

pub state_ends : (drained : Bool) → EndsWithFeed (report.state_line drained)
unfolding report.state_line
state_ends drained = words_end (codes "state" ∷ report.state_word drained ∷ [])

-- what reading a line gives is the entry whose line it is
parse_is : (text : List ℕ) (read result : Option Entry) → entry_in (words_of text) ≡ read →
    IfSome read IsPrintable →
    ((entry : Entry) → result ≡ Some entry ↔ (IsPrintable entry × IsLineOf text entry)) →
    result ≡ written text read
parse_is text read (Some entry) reads fits parses =
    let is = (parses entry).0 refl in
    let back = sym reads ∙ line_back text entry is.0 is.1 in
    let same : is_line text (line_of entry) ≡ true =
    (bytes_eq-Decides (line_of entry) (text ++ (10 ∷ []))).1 is.1 in
    sym (ap (written text) back ∙ ap (λ b. if b then Some entry else None) same)
parse_is text None None reads fits parses = refl
parse_is text (Some entry) None reads fits parses = by (is_line text (line_of entry)) refl
  where
    by : (b : Bool) → is_line text (line_of entry) ≡ b →
        ◌≡◌ {A = Option Entry} None (if b then Some entry else None)
    by false other = refl
    by true same = (parses entry).1
        (fits, (bytes_eq-Decides (line_of entry) (text ++ (10 ∷ []))).0 same)

gave_word : (words : List (List ℕ)) → entry_in (codes "gave" ∷ words) ≡ gave_in words
unfolding entry_in entry_after head_of all_heads
gave_word words = refl

took_word : (words : List (List ℕ)) → entry_in (codes "took" ∷ words) ≡ took_in words
unfolding entry_in entry_after head_of all_heads
took_word words = refl

retired_word : (words : List (List ℕ)) → entry_in (codes "retired" ∷ words) ≡ retired_in words
unfolding entry_in entry_after head_of all_heads
retired_word words = refl

pub gave_written : (text : List ℕ) (words : List (List ℕ)) (result : Option Entry) →
    ((entry : Entry) → result ≡ Some entry ↔ (IsPrintable entry × IsLineOf text entry)) →
    words_of text ≡ codes "gave" ∷ words → result ≡ written text (gave_in words)
gave_written text words result parses is =
    parse_is text (gave_in words) result (ap entry_in is ∙ gave_word words) (gave_fits words) parses

pub took_written : (text : List ℕ) (words : List (List ℕ)) (result : Option Entry) →
    ((entry : Entry) → result ≡ Some entry ↔ (IsPrintable entry × IsLineOf text entry)) →
    words_of text ≡ codes "took" ∷ words → result ≡ written text (took_in words)
took_written text words result parses is =
    parse_is text (took_in words) result (ap entry_in is ∙ took_word words) (took_fits words) parses

pub retired_written : (text : List ℕ) (words : List (List ℕ)) (result : Option Entry) →
    ((entry : Entry) → result ≡ Some entry ↔ (IsPrintable entry × IsLineOf text entry)) →
    words_of text ≡ codes "retired" ∷ words → result ≡ written text (retired_in words)
retired_written text words result parses is =
    parse_is text (retired_in words) result (ap entry_in is ∙ retired_word words)
    (retired_fits words) parses
