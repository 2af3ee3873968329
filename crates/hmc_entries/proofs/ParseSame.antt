-- A text whose last byte is a line feed is compared without it.
use Rattle.std.proofs.Common.{◌≡◌, ◌∙◌, ◌↔◌, ◌-◌, ℕ, Bool, IsTrue, Option, Some, None, List, [], ◌∷◌, ◌++◌, length, take, sym, ap, subst, arith}
use Rattle.std.specs.Str.{bytes_eq}
use Rattle.std.proofs.Math.Seq.{take-append_seam}
use Rattle.std.proofs.lemmas.List.{append_cancel_right, length-append}
use Rattle.std.proofs.lemmas.Slice.Eq.{bytes_eq-Decides}
use Rattle.std.proofs.lemmas.Option.{same_Some}
use Rattle.hmc_codes.specs.Text.{spaced_words}
use Rattle.hmc_script.proofs.WordsText.{line-spaced}
use Rattle.hmc_text.specs.Words.{words_of}
use Rattle.hmc_entries.specs.declared.entry.Entry.{Entry}
use Rattle.hmc_entries.specs.Lines.{line_of}
use Rattle.hmc_entries.specs.Parse.{FitsTypes, IsLineOf, IsPrintable, IsShown}
use Rattle.hmc_entries.specs.ParseEntry.{entry_in}
use Rattle.hmc_entries.proofs.ParseLines.{entry_words, line_of-words}
use Rattle.hmc_entries.proofs.ParseText.{line_back}

front_of : (xs : List ℕ) (x : ℕ) → take (length (xs ++ (x ∷ [])) - 1) (xs ++ (x ∷ [])) ≡ xs
front_of xs x =
    let long : length (xs ++ (x ∷ [])) - 1 ≡ length xs = omega (arith, length-append xs (x ∷ [])) in
    ap (λ n. take n (xs ++ (x ∷ []))) long ∙ take-append_seam xs (x ∷ [])

-- the line of an entry is compared without its last byte, which is a line feed
pub front_same : (entry : Entry) (bytes line other : List ℕ) (same : Bool) → bytes ≡ line_of entry → other ≡ line → same ≡ bytes_eq (take (length bytes - 1) bytes) other → IsTrue same ↔ IsLineOf line entry
front_same entry bytes line other same is own test =
    let front = spaced_words (entry_words entry) in
    let ends : bytes ≡ front ++ (10 ∷ []) = is ∙ line_of-words entry ∙ line-spaced (entry_words entry) in
    let fronts : take (length bytes - 1) bytes ≡ front = ap (λ l. take (length l - 1) l) ends ∙ front_of front 10 in
    let decides = bytes_eq-Decides front line in
    let tested : same ≡ bytes_eq front line = test ∙ ap (λ l. bytes_eq l other) fronts ∙ ap (bytes_eq front) own in
    (λ t. sym is ∙ ends ∙ ap (λ l. l ++ (10 ∷ [])) (decides.0 (sym tested ∙ t)), λ p. tested ∙ decides.1 (append_cancel_right front line (10 ∷ []) (sym ends ∙ is ∙ p)))

-- the words are read as no entry: then none has this line
pub nothing_read : (text : List ℕ) → entry_in (words_of text) ≡ None → (entry : Entry) → ◌≡◌ {A = Option Entry} None (Some entry) ↔ (IsPrintable entry × IsLineOf text entry)
nothing_read text none entry = (λ same. absurd (cc same), λ is. cc (none, line_back text entry is.0 is.1))

-- the words are read as an entry that has this line: then no other has it
pub found_read : (text : List ℕ) (found : Entry) → entry_in (words_of text) ≡ Some found → FitsTypes found → IsShown found → IsLineOf text found → (entry : Entry) → ◌≡◌ {A = Option Entry} (Some found) (Some entry) ↔ (IsPrintable entry × IsLineOf text entry)
found_read text found reads fits shown line_is entry =
    (λ same. subst (λ e. IsPrintable e × IsLineOf text e) (same_Some found entry same) (record { fits = fits; shown = shown }, line_is), λ is. sym reads ∙ line_back text entry is.0 is.1)

-- the words are read as an entry that has another line: then none has this one
pub other_read : (text : List ℕ) (found : Entry) → entry_in (words_of text) ≡ Some found → (IsLineOf text found → ⊥) → (entry : Entry) → ◌≡◌ {A = Option Entry} None (Some entry) ↔ (IsPrintable entry × IsLineOf text entry)
other_read text found reads other entry = (λ same. absurd (cc same), λ is. differs is.0 is.1) where
  differs : IsPrintable entry → IsLineOf text entry → ◌≡◌ {A = Option Entry} None (Some entry)
  differs is line_is =
      let back : entry_in (words_of text) ≡ Some entry = line_back text entry is line_is in
      let same : found ≡ entry = same_Some found entry (sym reads ∙ back) in
      absurd (other (subst (IsLineOf text) (sym same) line_is))
