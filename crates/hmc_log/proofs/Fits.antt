-- What each entry of a log that was read keeps.
use Rattle.std.proofs.Common.{◌≡◌, ◌<◌, ℕ, Bool, true, false, Option, Some, None, Ok, Err, List, [], ◌∷◌, length, reverse, not, nat_lt, codes, refl, sym, ap, subst, arith}
use Rattle.std.specs.Prelude.{if◌then◌else◌, is_some}
use Rattle.std.specs.Str.{bytes_eq}
use Rattle.std.specs.List.{All}
use Rattle.std.proofs.lemmas.Bool.Decides.{nat_tests}
use Rattle.std.proofs.lemmas.List.{reverse-append}
use Rattle.std.proofs.lemmas.List.Elements.{All-nil, All-cons, All-append, All-head, All-tail}
use Rattle.std.proofs.lemmas.Option.{same_Some}
use Rattle.hmc_codes.specs.Limits.{tags}
use Rattle.hmc_codes.specs.Request.{RequestFields}
use Rattle.hmc_codes.specs.Shape.{ShapeFields}
use Rattle.hmc_text.specs.InTurn.{after_lines, at_line, next_number}
use Rattle.hmc_text.specs.Number.{below, number_of}
use Rattle.hmc_text.specs.Reading as reading
use Rattle.hmc_text.specs.Words.{words_of}
use Rattle.hmc_entries.specs.declared.entry.Entry.TheVariants.{Gave, Took, Retired}
use Rattle.hmc_entries.specs.ParseEntry.{gave_in, took_in, retired_in}
use Rattle.hmc_log.specs.declared.given.Given.{Given}
use Rattle.hmc_log.specs.declared.given.Taken.{Taken}
use Rattle.hmc_log.specs.declared.fault.LogKind.{LogKind}
use Rattle.hmc_log.specs.declared.fault.LogKind.TheVariants as kinds
use Rattle.hmc_log.specs.Answers.{takes_tag}
use Rattle.hmc_log.specs.Before.{out_under}
use Rattle.hmc_log.specs.Laws.{FitsCase, ReadEntriesFit}
use Rattle.hmc_log.specs.Lines.{written, lines_in}
use Rattle.hmc_log.specs.Log.{LogFields}
use Rattle.hmc_log.specs.Meaning.{number_word, tag_word, is_due, given_as, given_of, taken_of, slot_of, memory_of, register_of, drained_of}
use Rattle.hmc_log.specs.Text.{Progress, nothing_yet, at_end, may_give, answers_to, may_retire, may_have_block, may_have_register, add_given, add_taken, add_retired, add_block, add_register, gave_line, took_line, retired_line, memory_line, register_line, state_line, entry_line, is_entry_word, line_with, statement, after_line, with_end, log_of}
use Rattle.hmc_log.proofs.Steps.{ok_then, if_ok, if_passed, or_fault_ok}
use Rattle.hmc_log.proofs.Shown.{given_entry, taken_entry}
use Rattle.hmc_log.proofs.Reprinted.{same_ok, at_line_ok}

-- a number that was read is below its limit
below_small : (limit n m : ℕ) → below limit (Some n) ≡ Some m → m < limit
below_small limit n m is = by (nat_lt n limit) refl is where
  by : (b : Bool) → nat_lt n limit ≡ b → (if b then Some n else None) ≡ Some m → m < limit
  by true low same =
      let less : n < limit = grind (arith, nat_tests) in
      subst (λ k. k < limit) (same_Some n m same) less
  by false high none = absurd (cc none)

number_small : (kind : LogKind) (limit : ℕ) (words : List (List ℕ))
    (read : ℕ × List (List ℕ)) → number_word kind limit words ≡ Ok read → read.0 < limit
unfolding reading.number_word
number_small kind limit [] read is = absurd (cc is)
number_small kind limit (word ∷ words) read is =
    let number = ok_then (reading.or_fault kind (number_of word)) _ read is in
    let small = ok_then (reading.or_fault kind (below limit (Some number.0))) _ read number.2 in
    let read_is : (small.0, words) ≡ read = cc small.2 in
    subst (λ (r : ℕ × List (List ℕ)). r.0 < limit) read_is
    (below_small limit number.0 small.0 (or_fault_ok kind _ small.0 small.1))

not_less : (n limit : ℕ) → not (nat_lt n limit) ≡ false → n < limit
not_less n limit is = by (nat_lt n limit) refl is where
  by : (b : Bool) → nat_lt n limit ≡ b → not b ≡ false → n < limit
  by true low passed = grind (arith, nat_tests)
  by false high none = absurd (cc none)

-- ---- the entries

given_as_fits : (hosts cubes host : ℕ) (tag : Option ℕ) (poisoned : Bool)
    (request : RequestFields) (given : Given) → host < hosts →
    given_as cubes host tag poisoned request ≡ Ok given →
    FitsCase hosts cubes (Gave given.host given.tag given.poisoned given.request)
given_as_fits hosts cubes host tag poisoned request given low is =
    let there = if_ok (not (nat_lt request.cube cubes)) kinds.Request _ given is in
    let due = if_passed (is_due tag (takes_tag poisoned request.command)) kinds.Tag _ given there.1 in
    let made : record { host = host; tag = tag; poisoned = poisoned; request = request } ≡ given =
    cc due.1 in
    subst (λ (g : Given). FitsCase hosts cubes (Gave g.host g.tag g.poisoned g.request)) made
    (low, not_less request.cube cubes there.0, due.0)

given_fits : (hosts cubes : ℕ) (text : List ℕ) (words : List (List ℕ)) (given : Given) →
    given_of hosts cubes text words ≡ Ok given →
    FitsCase hosts cubes (Gave given.host given.tag given.poisoned given.request)
unfolding given_of
given_fits hosts cubes text words given is =
    let host = ok_then (number_word kinds.Host hosts words) _ given is in
    let tag = ok_then (tag_word host.0.1) _ given host.2 in
    let entry = given_entry cubes host.0.0 tag.0.0 tag.0.1 (written text (gave_in words)) given
    tag.2 in
    given_as_fits hosts cubes host.0.0 tag.0.0 entry.2 entry.3 given
    (number_small kinds.Host hosts words host.0 host.1) entry.5

taken_fits : (hosts : ℕ) (text : List ℕ) (words : List (List ℕ)) (taken : Taken) →
    taken_of hosts text words ≡ Ok taken → taken.host < hosts
unfolding taken_of
taken_fits hosts text words taken is =
    let host = ok_then (number_word kinds.Host hosts words) _ taken is in
    let tag = ok_then (number_word kinds.Tag tags host.0.1) _ taken host.2 in
    let entry = taken_entry host.0.0 tag.0.0 tag.0.1 (written text (took_in words)) taken tag.2 in
    subst (λ (t : Taken). t.host < hosts) entry.4
    (number_small kinds.Host hosts words host.0 host.1)

slot_fits : (text : List ℕ) (words : List (List ℕ)) (slot : ℕ) →
    slot_of text words ≡ Ok slot → slot < 8
unfolding slot_of
slot_fits text words slot is =
    let number = ok_then (number_word kinds.Slot 8 words) _ slot is in
    let over = ok_then (reading.no_word kinds.Words number.0.1) _ slot number.2 in
    let found = ok_then (reading.or_fault kinds.Slot (written text (retired_in words))) _ slot over.2 in
    let same : number.0.0 ≡ slot = cc found.2 in
    subst (λ s. s < 8) same (number_small kinds.Slot 8 words number.0 number.1)

-- ---- the lines

abbrev AllFit : (hosts cubes : ℕ) → Progress → Type 0
AllFit hosts cubes p = All (FitsCase hosts cubes) p.past

gave_fit : (hosts cubes : ℕ) (p q : Progress) (text : List ℕ) (words : List (List ℕ)) →
    AllFit hosts cubes p → gave_line hosts cubes p text words ≡ Ok q → AllFit hosts cubes q
unfolding gave_line add_given
gave_fit hosts cubes p q text words fit is =
    let given = ok_then (given_of hosts cubes text words) _ q is in
    let may = ok_then (may_give p.past given.0.host given.0.tag) _ q given.2 in
    subst (AllFit hosts cubes) (same_ok _ q may.2)
    (All-cons (FitsCase hosts cubes)
    (Gave given.0.host given.0.tag given.0.poisoned given.0.request) p.past
    (given_fits hosts cubes text words given.0 given.1) fit)

took_fit : (hosts cubes : ℕ) (p q : Progress) (text : List ℕ) (words : List (List ℕ)) →
    AllFit hosts cubes p → took_line hosts p text words ≡ Ok q → AllFit hosts cubes q
unfolding took_line add_taken
took_fit hosts cubes p q text words fit is =
    let taken = ok_then (taken_of hosts text words) _ q is in
    let may = ok_then (answers_to (out_under taken.0.host taken.0.tag p.past) taken.0.answer) _ q
    taken.2 in
    subst (AllFit hosts cubes) (same_ok _ q may.2)
    (All-cons (FitsCase hosts cubes) (Took taken.0.host taken.0.tag taken.0.answer) p.past
    (taken_fits hosts text words taken.0 taken.1) fit)

retired_fit : (hosts cubes : ℕ) (p q : Progress) (text : List ℕ) (words : List (List ℕ)) →
    AllFit hosts cubes p → retired_line p text words ≡ Ok q → AllFit hosts cubes q
unfolding retired_line add_retired
retired_fit hosts cubes p q text words fit is =
    let slot = ok_then (slot_of text words) _ q is in
    let may = ok_then (may_retire p.past slot.0) _ q slot.2 in
    subst (AllFit hosts cubes) (same_ok _ q may.2)
    (All-cons (FitsCase hosts cubes) (Retired slot.0) p.past (slot_fits text words slot.0 slot.1)
    fit)

-- the lines of an end leave the entries as they are
memory_fit : (hosts cubes : ℕ) (shapes : List ShapeFields) (p q : Progress) (text : List ℕ)
    (words : List (List ℕ)) → AllFit hosts cubes p → memory_line shapes p text words ≡ Ok q →
    AllFit hosts cubes q
unfolding memory_line add_block
memory_fit hosts cubes shapes p q text words fit is =
    let block = ok_then (memory_of shapes text words) _ q is in
    let may = if_passed (may_have_block p block.0) kinds.Memory _ q block.2 in
    subst (AllFit hosts cubes) (same_ok _ q may.1) fit

register_fit : (hosts cubes : ℕ) (p q : Progress) (text : List ℕ) (words : List (List ℕ)) →
    AllFit hosts cubes p → register_line cubes p text words ≡ Ok q → AllFit hosts cubes q
unfolding register_line add_register
register_fit hosts cubes p q text words fit is =
    let register = ok_then (register_of cubes text words) _ q is in
    let may = if_passed (may_have_register p register.0) kinds.Register _ q register.2 in
    subst (AllFit hosts cubes) (same_ok _ q may.1) fit

state_fit : (hosts cubes : ℕ) (p q : Progress) (text : List ℕ) (words : List (List ℕ)) →
    AllFit hosts cubes p → state_line p text words ≡ Ok q → AllFit hosts cubes q
unfolding state_line
state_fit hosts cubes p q text words fit is =
    let drained = ok_then (drained_of text words) _ q is in
    subst (AllFit hosts cubes) (same_ok _ q drained.2) fit

entry_line_fit : (hosts cubes : ℕ) (p q : Progress) (text word : List ℕ)
    (words : List (List ℕ)) → AllFit hosts cubes p →
    entry_line hosts cubes p text word words ≡ Ok q → AllFit hosts cubes q
unfolding entry_line
entry_line_fit hosts cubes p q text word words fit is =
    by (bytes_eq word (codes "gave")) (bytes_eq word (codes "took"))
    (if_ok (at_end p) kinds.End _ q is).1
  where
    by : (gave took : Bool) →
        (if gave then gave_line hosts cubes p text words
        else if took then took_line hosts p text words else retired_line p text words) ≡ Ok q →
        AllFit hosts cubes q
    by true took made = gave_fit hosts cubes p q text words fit made
    by false true made = took_fit hosts cubes p q text words fit made
    by false false made = retired_fit hosts cubes p q text words fit made

line_with_fit : (hosts : ℕ) (shapes : List ShapeFields) (p q : Progress) (text word : List ℕ)
    (words : List (List ℕ)) → AllFit hosts (length shapes) p →
    line_with hosts shapes p text word words ≡ Ok q → AllFit hosts (length shapes) q
unfolding line_with
line_with_fit hosts shapes p q text word words fit is =
    by (is_entry_word word) (bytes_eq word (codes "memory")) (bytes_eq word (codes "register"))
    (bytes_eq word (codes "state")) is
  where
    by : (entry memory register state : Bool) →
        (if entry then entry_line hosts (length shapes) p text word words
        else if memory then memory_line shapes p text words
        else if register then register_line (length shapes) p text words
        else if state then state_line p text words else Err kinds.Word) ≡ Ok q →
        AllFit hosts (length shapes) q
    by true memory register state made =
        entry_line_fit hosts (length shapes) p q text word words fit made
    by false true register state made =
        memory_fit hosts (length shapes) shapes p q text words fit made
    by false false true state made = register_fit hosts (length shapes) p q text words fit made
    by false false false true made = state_fit hosts (length shapes) p q text words fit made
    by false false false false made = absurd (cc made)

line_fit : (hosts : ℕ) (shapes : List ShapeFields) (p q : Progress) (text : List ℕ) →
    AllFit hosts (length shapes) p → after_line hosts shapes p text ≡ Ok q →
    AllFit hosts (length shapes) q
unfolding after_line statement
line_fit hosts shapes p q text fit is =
    let first = if_ok (is_some p.drained) kinds.End _ q is in
    let next = ok_then (statement hosts shapes p text) _ q first.1 in
    let words = ok_then (reading.next_word kinds.Word (words_of text)) _ next.0 next.1 in
    subst (AllFit hosts (length shapes)) (same_ok _ q next.2)
    (line_with_fit hosts shapes p next.0 text words.0.0 words.0.1 fit words.2)

lines_fit : (hosts : ℕ) (shapes : List ShapeFields) (number : ℕ) (p q : Progress)
    (texts : List (List ℕ)) → AllFit hosts (length shapes) p →
    after_lines (after_line hosts shapes) number p texts ≡ Ok q → AllFit hosts (length shapes) q
unfolding after_lines
lines_fit hosts shapes number p q [] fit is =
    subst (AllFit hosts (length shapes)) (same_ok p q is) fit
lines_fit hosts shapes number p q (text ∷ texts) fit is =
    let next = ok_then (at_line number (after_line hosts shapes p text)) _ q is in
    lines_fit hosts shapes (next_number number) next.0 q texts
    (line_fit hosts shapes p next.0 text fit
    (at_line_ok number (after_line hosts shapes p text) next.0 next.1)) next.2

-- ---- all entries, the oldest first

pub All-reverse : {X : Type 0} (P : X → Type 0) (xs : List X) → All P xs → All P (reverse xs)
All-reverse P [] all = All-nil P
All-reverse P (x ∷ xs) all =
    subst (All P) (sym (reverse-append (x ∷ []) xs))
    (All-append P (reverse xs) (x ∷ []) (All-reverse P xs (All-tail P x xs all))
    (All-cons P x [] (All-head P x xs all) (All-nil P)))

with_end_entries : (p : Progress) (drained : Option Bool) (log : LogFields) →
    with_end p drained ≡ Ok log → reverse p.past ≡ log.entries
with_end_entries p (Some drained) log is = ap (λ (l : LogFields). l.entries) (same_ok _ log is)
with_end_entries p None log is =
    let before = if_ok (at_end p) (p.lines, kinds.End) _ log is in
    ap (λ (l : LogFields). l.entries) (same_ok _ log before.1)

pub read_entries_fit : ReadEntriesFit
unfolding log_of
read_entries_fit hosts shapes text log is =
    let progress = ok_then (after_lines (after_line hosts shapes) 1 nothing_yet (lines_in text)) _
    log is in
    subst (All (FitsCase hosts (length shapes)))
    (with_end_entries progress.0 progress.0.drained log progress.2)
    (All-reverse (FitsCase hosts (length shapes)) progress.0.past
    (lines_fit hosts shapes 1 nothing_yet progress.0 (lines_in text)
    (All-nil (FitsCase hosts (length shapes))) progress.1))
