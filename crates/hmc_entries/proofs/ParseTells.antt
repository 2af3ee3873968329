-- Equal texts are of equal entries: the first line shows the first entry, and what is left the rest.
use Rattle.std.proofs.Common.{◌≡◌, ◌∙◌, ℕ, Some, None, List, [], ◌∷◌, ◌++◌, map, reverse, refl, sym, ap, subst}
use Rattle.std.specs.List.{All, concat}
use Rattle.std.proofs.lemmas.List.{reverse-append, reverse-reverse}
use Rattle.std.proofs.lemmas.List.Elements.{All-head, All-tail, All-nil, All-cons, All-append}
use Rattle.hmc_codes.specs.Text.{spaced_words}
use Rattle.hmc_script.proofs.WordsText.{lines_of-line, words_of-spaced}
use Rattle.hmc_text.specs.Lines as texts
use Rattle.hmc_text.specs.Words.{words_of}
use Rattle.hmc_entries.specs.declared.entry.Entry.{Entry}
use Rattle.hmc_entries.specs.Lines.{line_of}
use Rattle.hmc_entries.specs.Parse.{IsPrintable, LineTells, TextTells, text_of}
use Rattle.hmc_entries.specs.Text.{lines_of}
use Rattle.hmc_entries.specs.ParseEntry.{entry_in}
use Rattle.hmc_entries.proofs.InOrder.{lines_of-reverse}
use Rattle.hmc_entries.proofs.ParseLines.{entry_words, line_of-words}
use Rattle.hmc_entries.proofs.ParseText.{entry_are_words, entry_back, line_tells}

-- the first line of a text
open_line : (entry : Entry) (rest : List ℕ) → IsPrintable entry → texts.lines_of (line_of entry ++ rest) ≡ spaced_words (entry_words entry) ∷ texts.lines_of rest
open_line entry rest is =
    ap (λ l. texts.lines_of (l ++ rest)) (line_of-words entry) ∙ lines_of-line (entry_words entry) rest (entry_are_words entry is)

words_back : (entry : Entry) → IsPrintable entry → entry_in (words_of (spaced_words (entry_words entry))) ≡ Some entry
words_back entry is = ap entry_in (words_of-spaced (entry_words entry) (entry_are_words entry is)) ∙ entry_back entry is

no_lines : texts.lines_of [] ≡ [] ∷ []
unfolding texts.lines_of
no_lines = refl

no_entry : entry_in (words_of []) ≡ None
unfolding entry_in words_of
no_entry = refl

first_same : {A : Type 0} (x y : A) (xs ys : List A) → x ∷ xs ≡ y ∷ ys → x ≡ y
first_same x y xs ys same = cc

rest_same : {A : Type 0} (x y : A) (xs ys : List A) → x ∷ xs ≡ y ∷ ys → xs ≡ ys
rest_same x y xs ys same = cc

-- an empty line is that of no entry
not_empty : (entry : Entry) → IsPrintable entry → [] ≡ spaced_words (entry_words entry) → ⊥
not_empty entry is empty =
    let back : entry_in (words_of []) ≡ Some entry = ap (λ t. entry_in (words_of t)) empty ∙ words_back entry is in
    cc (no_entry, back)

lines_tell : (entries others : List Entry) → All IsPrintable entries → All IsPrintable others → texts.lines_of (text_of entries) ≡ texts.lines_of (text_of others) → entries ≡ others
unfolding text_of
lines_tell [] [] fits are same = refl
lines_tell [] (other ∷ others) fits are same =
    let is = All-head IsPrintable other others are in
    let opened = sym no_lines ∙ same ∙ open_line other (text_of others) is in
    absurd (not_empty other is (first_same _ _ _ _ opened))
lines_tell (entry ∷ entries) [] fits are same =
    let is = All-head IsPrintable entry entries fits in
    let opened = sym no_lines ∙ sym same ∙ open_line entry (text_of entries) is in
    absurd (not_empty entry is (first_same _ _ _ _ opened))
lines_tell (entry ∷ entries) (other ∷ others) fits are same =
    let is = All-head IsPrintable entry entries fits in
    let fit = All-head IsPrintable other others are in
    let opened = sym (open_line entry (text_of entries) is) ∙ same ∙ open_line other (text_of others) fit in
    let texts_same = first_same _ _ _ _ opened in
    let later = lines_tell entries others (All-tail IsPrintable entry entries fits) (All-tail IsPrintable other others are) (rest_same _ _ _ _ opened) in
    let first : Some entry ≡ Some other = sym (words_back entry is) ∙ ap (λ t. entry_in (words_of t)) texts_same ∙ words_back other fit in
    cc

pub line_tells_entry : LineTells
line_tells_entry = line_tells

pub text_tells_entries : TextTells
text_tells_entries entries others fits are same = lines_tell entries others fits are (ap texts.lines_of same)

-- A JOURNAL, whose newest entry is its first

All-reverse : {X : Type 0} (P : X → Type 0) (xs : List X) → All P xs → All P (reverse xs)
All-reverse P [] all = All-nil P
All-reverse P (x ∷ xs) all =
    subst (All P) (sym (reverse-append (x ∷ []) xs)) (All-append P (reverse xs) (x ∷ []) (All-reverse P xs (All-tail P x xs all)) (All-cons P x [] (All-head P x xs all) (All-nil P)))

concat_lines : (entries : List Entry) → concat (map line_of entries) ≡ text_of entries
unfolding text_of
concat_lines [] = refl
concat_lines (entry ∷ entries) = ap (λ t. line_of entry ++ t) (concat_lines entries)

-- the lines of a journal are in the order of its entries
in_order : (journal : List Entry) → concat (lines_of journal) ≡ text_of (reverse journal)
in_order journal =
    ap (λ l. concat (lines_of l)) (sym (reverse-reverse journal)) ∙ ap concat (lines_of-reverse (reverse journal)) ∙ concat_lines (reverse journal)

-- equal texts are of equal journals
pub lines_tell_journal : (journal another : List Entry) → All IsPrintable journal → All IsPrintable another → concat (lines_of journal) ≡ concat (lines_of another) → journal ≡ another
lines_tell_journal journal another is are same =
    let back : reverse journal ≡ reverse another = text_tells_entries (reverse journal) (reverse another) (All-reverse IsPrintable journal is) (All-reverse IsPrintable another are) (sym (in_order journal) ∙ same ∙ in_order another) in
    sym (reverse-reverse journal) ∙ ap reverse back ∙ reverse-reverse another
