-- A log that was read has as its text the lines that were read.
use Rattle.std.proofs.Common.{◌≡◌, ◌∙◌, ◌<◌, ℕ, Bool, true, false, Option, Some, None, Result, Ok, Err, List, [], ◌∷◌, ◌++◌, length, reverse, codes, refl, sym, ap, subst, arith, append-nil, append_assoc}
use Rattle.std.specs.Prelude.{◌&&◌, ◌||◌, ◌==◌, nat_lt, is_some, if◌then◌else◌}
use Rattle.std.specs.Str.{bytes_eq}
use Rattle.std.specs.List.{flat_map, slice_split, onto_first, All}
use Rattle.std.proofs.lemmas.Bool.{and_parts}
use Rattle.std.proofs.lemmas.Bool.Decides.{nat_tests}
use Rattle.std.proofs.lemmas.Grind.{flat_map-append}
use Rattle.std.proofs.lemmas.List.{reverse-append}
use Rattle.std.proofs.lemmas.List.Elements.{All-nil, All-cons}
use Rattle.std.proofs.lemmas.List.Splits.{slice_split_at, slice_split-cons_yes, slice_split-cons_no, length-slice_split}
use Rattle.hmc_codes.specs.Shape.{ShapeFields}
use Rattle.hmc_report.specs.Lines as report
use Rattle.hmc_text.specs.InTurn.{after_lines, at_line, next_number}
use Rattle.hmc_text.specs.Lines.{is_line_feed}
use Rattle.hmc_text.specs.Reading as reading
use Rattle.hmc_text.specs.Words.{words_of}
use Rattle.hmc_entries.specs.declared.entry.Entry.{Entry}
use Rattle.hmc_entries.specs.declared.entry.Entry.TheVariants.{Gave, Took, Retired}
use Rattle.hmc_entries.specs.Lines.{line_of}
use Rattle.hmc_log.specs.declared.end_lines.MemoryLine.{MemoryLine}
use Rattle.hmc_log.specs.declared.end_lines.RegisterLine.{RegisterLine}
use Rattle.hmc_log.specs.declared.fault.LogKind.TheVariants as kinds
use Rattle.hmc_log.specs.Before.{out_under}
use Rattle.hmc_log.specs.Lines as lines
use Rattle.hmc_log.specs.Lines.{end_text, log_text, without_empty, lines_in}
use Rattle.hmc_log.specs.Log.{LogFields}
use Rattle.hmc_log.specs.Meaning.{given_of, taken_of, slot_of, memory_of, register_of, drained_of}
use Rattle.hmc_log.specs.Text.{Progress, nothing_yet, at_end, may_give, answers_to, may_retire, may_have_block, may_have_register, add_entry, add_given, add_taken, add_retired, add_block, add_register, gave_line, took_line, retired_line, memory_line, register_line, state_line, entry_line, is_entry_word, line_with, statement, after_line, with_end, log_of}
use Rattle.hmc_log.specs.Laws.{PrintedIsRead}
use Rattle.hmc_log.proofs.Steps.{ok_then, if_ok, if_passed}
use Rattle.hmc_log.proofs.Shown.{Is, given_line, taken_line, slot_line, block_line, value_line, drained_line}

-- ---- what was read, written again

abbrev state_text : Option Bool → List ℕ
state_text None = []
state_text (Some drained) = report.state_line drained

abbrev parts_text : List Entry → List MemoryLine → List RegisterLine → Option Bool → List ℕ
parts_text past memory registers drained =
    flat_map line_of (reverse past) ++ (flat_map lines.memory_line memory ++
    (flat_map lines.register_line registers ++ state_text drained))

abbrev text_of : Progress → List ℕ
text_of p = parts_text p.past p.memory p.registers p.drained

-- a step added a line
abbrev Adds : (old new : Progress) → List ℕ → Type 0
Adds old new text = text_of new ≡ text_of old ++ (text ++ (10 ∷ []))

one_more : {A : Type 0} (f : A → List ℕ) (xs : List A) (x : A) →
    flat_map f (xs ++ (x ∷ [])) ≡ flat_map f xs ++ f x
one_more f xs x =
    flat_map-append f xs (x ∷ []) ∙ ap (λ (l : List ℕ). flat_map f xs ++ l) (append-nil (f x))

entry_more : (past : List Entry) (entry : Entry) →
    flat_map line_of (reverse (entry ∷ past)) ≡ flat_map line_of (reverse past) ++ line_of entry
entry_more past entry =
    ap (flat_map line_of) (reverse-append (entry ∷ []) past) ∙ one_more line_of (reverse past) entry

entry_parts : (past : List Entry) (memory : List MemoryLine) (registers : List RegisterLine)
    (drained : Option Bool) (entry : Entry) (text : List ℕ) → memory ≡ [] → registers ≡ [] →
    drained ≡ None → Is text (line_of entry) →
    parts_text (entry ∷ past) memory registers drained
    ≡ parts_text past memory registers drained ++ (text ++ (10 ∷ []))
entry_parts past memory registers drained entry text none no_value still is =
    rw (none, no_value, still) (
    append-nil (flat_map line_of (reverse (entry ∷ past))) ∙ entry_more past entry
    ∙ ap (λ l. flat_map line_of (reverse past) ++ l) is
    ∙ ap (λ l. l ++ (text ++ (10 ∷ []))) (sym (append-nil (flat_map line_of (reverse past))))
    )

block_parts : (past : List Entry) (memory : List MemoryLine) (registers : List RegisterLine)
    (drained : Option Bool) (block : MemoryLine) (text : List ℕ) → registers ≡ [] →
    drained ≡ None → Is text (lines.memory_line block) →
    parts_text past (memory ++ (block ∷ [])) registers drained
    ≡ parts_text past memory registers drained ++ (text ++ (10 ∷ []))
block_parts past memory registers drained block text none still is =
    let before = flat_map line_of (reverse past) in
    let blocks = flat_map lines.memory_line memory in
    rw (none, still) (
    ap (λ l. before ++ l) (append-nil (flat_map lines.memory_line (memory ++ (block ∷ [])))
    ∙ one_more lines.memory_line memory block ∙ ap (λ l. blocks ++ l) is)
    ∙ sym (append_assoc before blocks (text ++ (10 ∷ [])))
    ∙ ap (λ l. (before ++ l) ++ (text ++ (10 ∷ []))) (sym (append-nil blocks))
    )

value_parts : (past : List Entry) (memory : List MemoryLine) (registers : List RegisterLine)
    (drained : Option Bool) (register : RegisterLine) (text : List ℕ) → drained ≡ None →
    Is text (lines.register_line register) →
    parts_text past memory (registers ++ (register ∷ [])) drained
    ≡ parts_text past memory registers drained ++ (text ++ (10 ∷ []))
value_parts past memory registers drained register text still is =
    let before = flat_map line_of (reverse past) in
    let blocks = flat_map lines.memory_line memory in
    let values = flat_map lines.register_line registers in
    let line = text ++ (10 ∷ []) in
    rw still (
    ap (λ l. before ++ (blocks ++ l))
    (append-nil (flat_map lines.register_line (registers ++ (register ∷ [])))
    ∙ one_more lines.register_line registers register ∙ ap (λ l. values ++ l) is
    ∙ ap (λ l. l ++ line) (sym (append-nil values)))
    ∙ ap (λ l. before ++ l) (sym (append_assoc blocks (values ++ []) line))
    ∙ sym (append_assoc before (blocks ++ (values ++ [])) line)
    )

state_parts : (past : List Entry) (memory : List MemoryLine) (registers : List RegisterLine)
    (old : Option Bool) (drained : Bool) (text : List ℕ) → old ≡ None →
    Is text (report.state_line drained) →
    parts_text past memory registers (Some drained)
    ≡ parts_text past memory registers old ++ (text ++ (10 ∷ []))
state_parts past memory registers old drained text still is =
    let before = flat_map line_of (reverse past) in
    let blocks = flat_map lines.memory_line memory in
    let values = flat_map lines.register_line registers in
    let line = text ++ (10 ∷ []) in
    rw still (
    ap (λ l. before ++ (blocks ++ (values ++ l))) is
    ∙ ap (λ l. before ++ (blocks ++ (l ++ line))) (sym (append-nil values))
    ∙ ap (λ l. before ++ l) (sym (append_assoc blocks (values ++ []) line))
    ∙ sym (append_assoc before (blocks ++ (values ++ [])) line)
    )

-- ---- lines by their first words

no_items : {A : Type 0} (xs : List A) → nat_lt 0 (length xs) ≡ false → xs ≡ []
no_items [] none = refl
no_items (x ∷ xs) some = absurd (grind (arith, nat_tests))

or_false : (a b : Bool) → (a || b) ≡ false → (a ≡ false) × (b ≡ false)
or_false false b is = (refl, is)
or_false true b is = absurd (cc is)

entry_adds : (p : Progress) (entry : Entry) (text : List ℕ) → at_end p ≡ false →
    p.drained ≡ None → Is text (line_of entry) → Adds p (add_entry p entry) text
entry_adds p entry text before still is =
    let both = or_false (nat_lt 0 (length p.memory)) (nat_lt 0 (length p.registers)) before in
    entry_parts p.past p.memory p.registers p.drained entry text (no_items p.memory both.0)
    (no_items p.registers both.1) still is

pub same_ok : {A K : Type 0} (x y : A) → ◌≡◌ {A = Result A K} (Ok x) (Ok y) → x ≡ y
same_ok x y is = cc is

gave_adds : (hosts cubes : ℕ) (p q : Progress) (text : List ℕ) (words : List (List ℕ)) →
    at_end p ≡ false → p.drained ≡ None → gave_line hosts cubes p text words ≡ Ok q →
    Adds p q text
unfolding gave_line add_given
gave_adds hosts cubes p q text words before still is =
    let given = ok_then (given_of hosts cubes text words) _ q is in
    let may = ok_then (may_give p.past given.0.host given.0.tag) _ q given.2 in
    subst (λ r. Adds p r text) (same_ok _ q may.2)
    (entry_adds p (Gave given.0.host given.0.tag given.0.poisoned given.0.request) text before still
    (given_line hosts cubes text words given.0 given.1))

took_adds : (hosts : ℕ) (p q : Progress) (text : List ℕ) (words : List (List ℕ)) →
    at_end p ≡ false → p.drained ≡ None → took_line hosts p text words ≡ Ok q → Adds p q text
unfolding took_line add_taken
took_adds hosts p q text words before still is =
    let taken = ok_then (taken_of hosts text words) _ q is in
    let may = ok_then (answers_to (out_under taken.0.host taken.0.tag p.past) taken.0.answer) _ q
    taken.2 in
    subst (λ r. Adds p r text) (same_ok _ q may.2)
    (entry_adds p (Took taken.0.host taken.0.tag taken.0.answer) text before still
    (taken_line hosts text words taken.0 taken.1))

retired_adds : (p q : Progress) (text : List ℕ) (words : List (List ℕ)) →
    at_end p ≡ false → p.drained ≡ None → retired_line p text words ≡ Ok q → Adds p q text
unfolding retired_line add_retired
retired_adds p q text words before still is =
    let slot = ok_then (slot_of text words) _ q is in
    let may = ok_then (may_retire p.past slot.0) _ q slot.2 in
    subst (λ r. Adds p r text) (same_ok _ q may.2)
    (entry_adds p (Retired slot.0) text before still (slot_line text words slot.0 slot.1))

no_length : {A : Type 0} (xs : List A) (last : Bool) → (length xs == 0 && last) ≡ true → xs ≡ []
no_length [] last is = refl
no_length (x ∷ xs) last is =
    let first = (and_parts (length (x ∷ xs) == 0) last is).0 in absurd (grind (arith, nat_tests))

memory_adds : (shapes : List ShapeFields) (p q : Progress) (text : List ℕ)
    (words : List (List ℕ)) → p.drained ≡ None → memory_line shapes p text words ≡ Ok q →
    Adds p q text
unfolding memory_line add_block
memory_adds shapes p q text words still is =
    let block = ok_then (memory_of shapes text words) _ q is in
    let may = if_passed (may_have_block p block.0) kinds.Memory _ q block.2 in
    subst (λ r. Adds p r text) (same_ok _ q may.1)
    (block_parts p.past p.memory p.registers p.drained block.0 text
    (no_length p.registers _ may.0) still (block_line shapes text words block.0 block.1))

register_adds : (cubes : ℕ) (p q : Progress) (text : List ℕ) (words : List (List ℕ)) →
    p.drained ≡ None → register_line cubes p text words ≡ Ok q → Adds p q text
unfolding register_line add_register
register_adds cubes p q text words still is =
    let register = ok_then (register_of cubes text words) _ q is in
    let may = if_passed (may_have_register p register.0) kinds.Register _ q register.2 in
    subst (λ r. Adds p r text) (same_ok _ q may.1)
    (value_parts p.past p.memory p.registers p.drained register.0 text still
    (value_line cubes text words register.0 register.1))

state_adds : (p q : Progress) (text : List ℕ) (words : List (List ℕ)) → p.drained ≡ None →
    state_line p text words ≡ Ok q → Adds p q text
unfolding state_line
state_adds p q text words still is =
    let drained = ok_then (drained_of text words) _ q is in
    subst (λ r. Adds p r text) (same_ok _ q drained.2)
    (state_parts p.past p.memory p.registers p.drained drained.0 text still
    (drained_line text words drained.0 drained.1))

entry_line_adds : (hosts cubes : ℕ) (p q : Progress) (text word : List ℕ)
    (words : List (List ℕ)) → p.drained ≡ None →
    entry_line hosts cubes p text word words ≡ Ok q → Adds p q text
unfolding entry_line
entry_line_adds hosts cubes p q text word words still is =
    let before = if_ok (at_end p) kinds.End _ q is in
    by before.0 (bytes_eq word (codes "gave")) (bytes_eq word (codes "took")) before.1
  where
    by : at_end p ≡ false → (gave took : Bool) →
        (if gave then gave_line hosts cubes p text words
        else if took then took_line hosts p text words else retired_line p text words) ≡ Ok q →
        Adds p q text
    by before true took made = gave_adds hosts cubes p q text words before still made
    by before false true made = took_adds hosts p q text words before still made
    by before false false made = retired_adds p q text words before still made

line_with_adds : (hosts : ℕ) (shapes : List ShapeFields) (p q : Progress) (text word : List ℕ)
    (words : List (List ℕ)) → p.drained ≡ None →
    line_with hosts shapes p text word words ≡ Ok q → Adds p q text
unfolding line_with
line_with_adds hosts shapes p q text word words still is =
    by (is_entry_word word) (bytes_eq word (codes "memory")) (bytes_eq word (codes "register"))
    (bytes_eq word (codes "state")) is
  where
    by : (entry memory register state : Bool) →
        (if entry then entry_line hosts (length shapes) p text word words
        else if memory then memory_line shapes p text words
        else if register then register_line (length shapes) p text words
        else if state then state_line p text words else Err kinds.Word) ≡ Ok q → Adds p q text
    by true memory register state made =
        entry_line_adds hosts (length shapes) p q text word words still made
    by false true register state made = memory_adds shapes p q text words still made
    by false false true state made = register_adds (length shapes) p q text words still made
    by false false false true made = state_adds p q text words still made
    by false false false false made = absurd (cc made)

statement_adds : (hosts : ℕ) (shapes : List ShapeFields) (p q : Progress) (text : List ℕ) →
    p.drained ≡ None → statement hosts shapes p text ≡ Ok q → Adds p q text
unfolding statement
statement_adds hosts shapes p q text still is =
    let first = ok_then (reading.next_word kinds.Word (words_of text)) _ q is in
    line_with_adds hosts shapes p q text first.0.0 first.0.1 still first.2

not_yet : (drained : Option Bool) → is_some drained ≡ false → drained ≡ None
not_yet None is = refl
not_yet (Some d) is = absurd (cc is)

line_adds : (hosts : ℕ) (shapes : List ShapeFields) (p q : Progress) (text : List ℕ) →
    after_line hosts shapes p text ≡ Ok q → Adds p q text
unfolding after_line
line_adds hosts shapes p q text is =
    let first = if_ok (is_some p.drained) kinds.End _ q is in
    let next = ok_then (statement hosts shapes p text) _ q first.1 in
    subst (λ r. Adds p r text) (same_ok _ q next.2)
    (statement_adds hosts shapes p next.0 text (not_yet p.drained first.0) next.1)

-- ---- all lines

abbrev joined : List (List ℕ) → List ℕ
joined [] = []
joined (line ∷ lines) = (line ++ (10 ∷ [])) ++ joined lines

pub at_line_ok : {A K : Type 0} (number : ℕ) (r : Result A K) (x : A) → at_line number r ≡ Ok x →
    r ≡ Ok x
at_line_ok number (Ok y) x is = cc is
at_line_ok number (Err kind) x is = absurd (cc is)

lines_add : (hosts : ℕ) (shapes : List ShapeFields) (number : ℕ) (p q : Progress)
    (texts : List (List ℕ)) → after_lines (after_line hosts shapes) number p texts ≡ Ok q →
    text_of q ≡ text_of p ++ joined texts
unfolding after_lines
lines_add hosts shapes number p q [] is =
    ap text_of (sym (same_ok p q is)) ∙ sym (append-nil (text_of p))
lines_add hosts shapes number p q (text ∷ texts) is =
    let next = ok_then (at_line number (after_line hosts shapes p text)) _ q is in
    let one = line_adds hosts shapes p next.0 text
    (at_line_ok number (after_line hosts shapes p text) next.0 next.1) in
    lines_add hosts shapes (next_number number) next.0 q texts next.2
    ∙ ap (λ l. l ++ joined texts) one
    ∙ append_assoc (text_of p) (text ++ (10 ∷ [])) (joined texts)

with_end_text : (p : Progress) (drained : Option Bool) (log : LogFields) → p.drained ≡ drained →
    with_end p drained ≡ Ok log → log_text log ≡ text_of p
unfolding log_text end_text
with_end_text p (Some drained) log still is =
    ap log_text (sym (same_ok _ log is))
    ∙ ap (λ l. flat_map line_of (reverse p.past) ++ l)
    (append_assoc (flat_map lines.memory_line p.memory)
    (flat_map lines.register_line p.registers) (report.state_line drained))
    ∙ ap (λ d. parts_text p.past p.memory p.registers d) (sym still)
with_end_text p None log still is =
    let before = if_ok (at_end p) (p.lines, kinds.End) _ log is in
    let both = or_false (nat_lt 0 (length p.memory)) (nat_lt 0 (length p.registers)) before.0 in
    ap log_text (sym (same_ok _ log before.1))
    ∙ none_text p.past p.memory p.registers p.drained (no_items p.memory both.0)
    (no_items p.registers both.1) still
  where
    none_text : (past : List Entry) (memory : List MemoryLine) (registers : List RegisterLine)
        (d : Option Bool) → memory ≡ [] → registers ≡ [] → d ≡ None →
        flat_map line_of (reverse past) ++ [] ≡ parts_text past memory registers d
    none_text past memory registers d none no_value no_state = rw (none, no_value, no_state) refl

-- ---- the lines of a text have no line feed

abbrev NoFeeds : List (List ℕ) → Type 0
NoFeeds [] = Unit {0}
NoFeeds (line ∷ lines) = All (λ b. is_line_feed b ≡ false) line × NoFeeds lines

onto_no_feeds : (b : ℕ) (lines : List (List ℕ)) → is_line_feed b ≡ false → NoFeeds lines →
    NoFeeds (onto_first b lines)
onto_no_feeds b [] other none =
    (All-cons (λ c. is_line_feed c ≡ false) b [] other (All-nil (λ c. is_line_feed c ≡ false)), tt)
onto_no_feeds b (line ∷ lines) other none =
    (All-cons (λ c. is_line_feed c ≡ false) b line other none.0, none.1)

split_no_feeds : (text : List ℕ) → NoFeeds (slice_split is_line_feed text)
split_no_feeds [] = (All-nil (λ c. is_line_feed c ≡ false), tt)
split_no_feeds (b ∷ bs) = by (is_line_feed b) refl (split_no_feeds bs) where
  by : (feed : Bool) → is_line_feed b ≡ feed → NoFeeds (slice_split is_line_feed bs) →
      NoFeeds (slice_split is_line_feed (b ∷ bs))
  by true is later =
      subst NoFeeds (sym (slice_split-cons_yes is_line_feed b bs is))
      (All-nil (λ c. is_line_feed c ≡ false), later)
  by false is later =
      subst NoFeeds (sym (slice_split-cons_no is_line_feed b bs is))
      (onto_no_feeds b (slice_split is_line_feed bs) is later)

without_no_feeds : (lines : List (List ℕ)) → NoFeeds lines → NoFeeds (without_empty lines)
without_no_feeds [] none = tt
without_no_feeds ([] ∷ []) none = tt
without_no_feeds ([] ∷ line ∷ lines) none = (none.0, without_no_feeds (line ∷ lines) none.1)
without_no_feeds ((b ∷ bs) ∷ lines) none = (none.0, without_no_feeds lines none.1)

without_cons : (line : List ℕ) (lines : List (List ℕ)) → 0 < length lines →
    without_empty (line ∷ lines) ≡ line ∷ without_empty lines
without_cons [] [] some = absurd (omega (arith, some))
without_cons [] (line ∷ lines) some = refl
without_cons (b ∷ bs) lines some = refl

joined_lines : (texts : List (List ℕ)) → NoFeeds texts → lines_in (joined texts) ≡ texts
unfolding lines_in
joined_lines [] none = refl
joined_lines (line ∷ texts) none =
    ap (λ t. without_empty (slice_split is_line_feed t))
    (append_assoc line (10 ∷ []) (joined texts))
    ∙ ap without_empty (slice_split_at is_line_feed line 10 (joined texts) none.0 refl)
    ∙ without_cons line (slice_split is_line_feed (joined texts))
    (omega (arith, length-slice_split is_line_feed (joined texts)))
    ∙ ap (λ l. line ∷ l) (joined_lines texts none.1)

lines_no_feeds : (text : List ℕ) → NoFeeds (lines_in text)
unfolding lines_in
lines_no_feeds text = without_no_feeds (slice_split is_line_feed text) (split_no_feeds text)

-- what is printed is read again
pub printed_is_read : PrintedIsRead
unfolding log_of
printed_is_read hosts shapes text log is =
    let progress = ok_then (after_lines (after_line hosts shapes) 1 nothing_yet (lines_in text)) _
    log is in
    let written : log_text log ≡ joined (lines_in text) =
    with_end_text progress.0 progress.0.drained log refl progress.2
    ∙ lines_add hosts shapes 1 nothing_yet progress.0 (lines_in text) progress.1 in
    let same : lines_in (log_text log) ≡ lines_in text =
    ap lines_in written ∙ joined_lines (lines_in text) (lines_no_feeds text) in
    ap (λ l. reading.◌>>=◌ (after_lines (after_line hosts shapes) 1 nothing_yet l)
    (λ p. with_end p p.drained)) same ∙ is
