-- What a line states, written again, is the line.
use Rattle.std.proofs.Common.{◌≡◌, ◌∙◌, ℕ, ◌^◌, Bool, true, false, Option, Some, None, Result, Ok, Err, List, [], ◌∷◌, ◌++◌, length, not, codes, refl, sym, ap, subst}
use Rattle.std.specs.Prelude.{◌&&◌, ◌==◌, ◌%◌, nat_lt, nat_le, slice_index_or, if◌then◌else◌}
use Rattle.std.proofs.lemmas.Bool.{and_parts}
use Rattle.std.proofs.lemmas.Slice.Eq.{bytes_eq-Decides}
use Rattle.std.proofs.lemmas.Option.{same_Some}
use Rattle.hmc_codes.specs.Limits.{tags}
use Rattle.hmc_codes.specs.Request.{RequestFields}
use Rattle.hmc_codes.specs.Shape.{ShapeFields, capacity_of}
use Rattle.hmc_codes.specs.declared.answer.Answer.{Answer}
use Rattle.hmc_report.specs.Lines as report
use Rattle.hmc_script.specs.Taken.{take_request}
use Rattle.hmc_text.specs.Reading as reading
use Rattle.hmc_words.specs.Taking.{take_number, take_this}
use Rattle.hmc_entries.specs.declared.entry.Entry.{Entry}
use Rattle.hmc_entries.specs.declared.entry.Entry.TheVariants.{Gave, Took, Retired}
use Rattle.hmc_entries.specs.Lines.{line_of}
use Rattle.hmc_entries.specs.ParseParts.{answer_in}
use Rattle.hmc_entries.specs.ParseEntry.{take_tag, gave_in, took_in, retired_in}
use Rattle.hmc_entries.specs.ParseWords.{value_of}
use Rattle.hmc_log.specs.declared.end_lines.MemoryLine.{MemoryLine}
use Rattle.hmc_log.specs.declared.end_lines.RegisterLine.{RegisterLine}
use Rattle.hmc_log.specs.declared.given.Given.{Given}
use Rattle.hmc_log.specs.declared.given.Taken.{Taken}
use Rattle.hmc_log.specs.declared.fault.LogKind.TheVariants as kinds
use Rattle.hmc_log.specs.Answers.{takes_tag}
use Rattle.hmc_log.specs.Lines.{memory_line, register_line, is_line, written}
use Rattle.hmc_log.specs.Meaning.{number_word, tag_word, is_due, given_as, given_by_entry, given_of, taken_by_entry, taken_of, slot_of, no_shape, block_of, is_memory, memory_of, is_register, register_of, drained_of}
use Rattle.hmc_log.proofs.Steps.{ok_then, some_then, if_ok, if_passed, or_fault_ok, number_read, number_taken, same_number, same_tag}

-- the text is the line
abbrev pub Is : (text line : List ℕ) → Type 0
Is text line = line ≡ text ++ (10 ∷ [])

pub line_is : (text line : List ℕ) → is_line text line ≡ true → Is text line
line_is text line same = (bytes_eq-Decides line (text ++ (10 ∷ []))).0 same

-- an entry that was written is one whose line the text is
written_is : (text : List ℕ) (read : Option Entry) (entry : Entry) →
    written text read ≡ Some entry → (read ≡ Some entry) × Is text (line_of entry)
written_is text None entry is = absurd (cc is)
written_is text (Some other) entry is = by (is_line text (line_of other)) refl is where
  by : (b : Bool) → is_line text (line_of other) ≡ b → (if b then Some other else None) ≡ Some entry
      → (Some other ≡ Some entry) × Is text (line_of entry)
  by false apart none = absurd (cc none)
  by true same found = (
    found,
    subst (λ e. Is text (line_of e)) (same_Some other entry found)
        (line_is text (line_of other) same),
  )

-- ---- requests

pub given_entry : (cubes host : ℕ) (tag : Option ℕ) (words : List (List ℕ)) (read : Option Entry)
    (given : Given) → given_by_entry cubes host tag words read ≡ Ok given →
    (h : ℕ) × (t : Option ℕ) × (poisoned : Bool) × (request : RequestFields)
    × (read ≡ Some (Gave h t poisoned request))
    × (given_as cubes host tag poisoned request ≡ Ok given)
given_entry cubes host tag words (Some (Gave h t poisoned request)) given is =
    (h, t, poisoned, request, refl, is)
given_entry cubes host tag words _ given is = absurd (cc is)

given_parts : (cubes host : ℕ) (tag : Option ℕ) (poisoned : Bool) (request : RequestFields)
    (given : Given) → given_as cubes host tag poisoned request ≡ Ok given →
    record { host = host; tag = tag; poisoned = poisoned; request = request } ≡ given
given_parts cubes host tag poisoned request given is =
    let there = if_ok (not (nat_lt request.cube cubes)) kinds.Request _ given is in
    let due = if_passed (is_due tag (takes_tag poisoned request.command)) kinds.Tag _ given there.1 in
    cc due.1

-- the host and the tag that were read
gave_parts : (words : List (List ℕ)) (h : ℕ) (t : Option ℕ) (poisoned : Bool)
    (request : RequestFields) → gave_in words ≡ Some (Gave h t poisoned request) →
    (host : ℕ × List (List ℕ)) × (tag : Option ℕ × List (List ℕ))
    × (take_number 256 words ≡ Some host) × (take_tag host.1 ≡ Some tag) × (host.0 ≡ h)
    × (tag.0 ≡ t)
unfolding gave_in
gave_parts words h t poisoned request is =
    let host = some_then (take_number 256 words) _ (Gave h t poisoned request) is in
    let tag = some_then (take_tag host.0.1) _ (Gave h t poisoned request) host.2 in
    let asked = some_then (take_request (take_this (codes "poison") tag.0.1).1) _
    (Gave h t poisoned request) tag.2 in
    (host.0, tag.0, host.1, tag.1, cc asked.2, cc asked.2)

gave_same : (text : List ℕ) (host h : ℕ) (tag t : Option ℕ) (poisoned : Bool)
    (request : RequestFields) → host ≡ h → tag ≡ t →
    Is text (line_of (Gave h t poisoned request)) → Is text (line_of (Gave host tag poisoned request))
gave_same text host h tag t poisoned request hosts tags_are line = rw (hosts, tags_are) line

pub given_line : (hosts cubes : ℕ) (text : List ℕ) (words : List (List ℕ)) (given : Given) →
    given_of hosts cubes text words ≡ Ok given →
    Is text (line_of (Gave given.host given.tag given.poisoned given.request))
unfolding given_of
given_line hosts cubes text words given is =
    let host = ok_then (number_word kinds.Host hosts words) _ given is in
    let tag = ok_then (tag_word host.0.1) _ given host.2 in
    let entry = given_entry cubes host.0.0 tag.0.0 tag.0.1 (written text (gave_in words)) given
    tag.2 in
    let line = written_is text (gave_in words) (Gave entry.0 entry.1 entry.2 entry.3) entry.4 in
    let parts = gave_parts words entry.0 entry.1 entry.2 entry.3 line.0 in
    let hosts_are = same_number words host.0 parts.0 (number_read kinds.Host hosts words host.0 host.1)
    (number_taken 256 words parts.0 parts.2) in
    let tags_are : tag.0.0 ≡ parts.1.0 =
    same_tag host.0.1 tag.0 parts.1 tag.1 (ap take_tag hosts_are.1 ∙ parts.3) in
    let whole = given_parts cubes host.0.0 tag.0.0 entry.2 entry.3 given entry.5 in
    subst (λ (g : Given). Is text (line_of (Gave g.host g.tag g.poisoned g.request))) whole
    (gave_same text host.0.0 entry.0 tag.0.0 entry.1 entry.2 entry.3 (hosts_are.0 ∙ parts.4)
    (tags_are ∙ parts.5) line.1)

-- ---- answers

took_same : (text : List ℕ) (host h tag t : ℕ) (answer : Answer) → host ≡ h → tag ≡ t →
    Is text (line_of (Took h t answer)) → Is text (line_of (Took host tag answer))
took_same text host h tag t answer hosts tags_are line = rw (hosts, tags_are) line

pub taken_entry : (host tag : ℕ) (words : List (List ℕ)) (read : Option Entry) (taken : Taken) →
    taken_by_entry host tag words read ≡ Ok taken →
    (h : ℕ) × (t : ℕ) × (answer : Answer) × (read ≡ Some (Took h t answer))
    × (record { host = host; tag = tag; answer = answer } ≡ taken)
taken_entry host tag words (Some (Took h t answer)) taken is = (h, t, answer, refl, cc is)
taken_entry host tag words _ taken is = absurd (cc is)

took_parts : (words : List (List ℕ)) (h t : ℕ) (answer : Answer) →
    took_in words ≡ Some (Took h t answer) →
    (host : ℕ × List (List ℕ)) × (tag : ℕ × List (List ℕ))
    × (take_number 256 words ≡ Some host) × (take_number (2 ^ 16) host.1 ≡ Some tag)
    × (host.0 ≡ h) × (tag.0 ≡ t)
unfolding took_in
took_parts words h t answer is =
    let host = some_then (take_number 256 words) _ (Took h t answer) is in
    let tag = some_then (take_number (2 ^ 16) host.0.1) _ (Took h t answer) host.2 in
    let said = some_then (answer_in tag.0.1) _ (Took h t answer) tag.2 in
    (host.0, tag.0, host.1, tag.1, cc said.2, cc said.2)

pub taken_line : (hosts : ℕ) (text : List ℕ) (words : List (List ℕ)) (taken : Taken) →
    taken_of hosts text words ≡ Ok taken →
    Is text (line_of (Took taken.host taken.tag taken.answer))
unfolding taken_of
taken_line hosts text words taken is =
    let host = ok_then (number_word kinds.Host hosts words) _ taken is in
    let tag = ok_then (number_word kinds.Tag tags host.0.1) _ taken host.2 in
    let entry = taken_entry host.0.0 tag.0.0 tag.0.1 (written text (took_in words)) taken tag.2 in
    let line = written_is text (took_in words) (Took entry.0 entry.1 entry.2) entry.3 in
    let parts = took_parts words entry.0 entry.1 entry.2 line.0 in
    let hosts_are = same_number words host.0 parts.0 (number_read kinds.Host hosts words host.0 host.1)
    (number_taken 256 words parts.0 parts.2) in
    let tags_are = same_number host.0.1 tag.0 parts.1
    (number_read kinds.Tag tags host.0.1 tag.0 tag.1)
    (number_taken (2 ^ 16) host.0.1 parts.1 (ap (take_number (2 ^ 16)) hosts_are.1 ∙ parts.3)) in
    subst (λ (g : Taken). Is text (line_of (Took g.host g.tag g.answer))) entry.4
    (took_same text host.0.0 entry.0 tag.0.0 entry.1 entry.2 (hosts_are.0 ∙ parts.4)
    (tags_are.0 ∙ parts.5) line.1)

-- ---- retirements

retired_parts : (words : List (List ℕ)) (entry : Entry) → retired_in words ≡ Some entry →
    (slot : ℕ × List (List ℕ)) × (take_number 256 words ≡ Some slot) × (Retired slot.0 ≡ entry)
unfolding retired_in
retired_parts words entry is =
    let slot = some_then (take_number 256 words) _ entry is in
    (slot.0, slot.1, same_Some (Retired slot.0.0) entry slot.2)

pub slot_line : (text : List ℕ) (words : List (List ℕ)) (slot : ℕ) →
    slot_of text words ≡ Ok slot → Is text (line_of (Retired slot))
unfolding slot_of
slot_line text words slot is =
    let number = ok_then (number_word kinds.Slot 8 words) _ slot is in
    let over = ok_then (reading.no_word kinds.Words number.0.1) _ slot number.2 in
    let found = ok_then (reading.or_fault kinds.Slot (written text (retired_in words))) _ slot over.2 in
    let line = written_is text (retired_in words) found.0
    (or_fault_ok kinds.Slot (written text (retired_in words)) found.0 found.1) in
    let parts = retired_parts words found.0 line.0 in
    let slots_are = same_number words number.0 parts.0
    (number_read kinds.Slot 8 words number.0 number.1) (number_taken 256 words parts.0 parts.1) in
    let same : number.0.0 ≡ slot = cc found.2 in
    let entry_is : found.0 ≡ Retired slot = sym parts.2 ∙ ap Retired (sym slots_are.0 ∙ same) in
    subst (λ e. Is text (line_of e)) entry_is line.1

-- ---- the end

last_of : (first second last : Bool) → (first && second && last) ≡ true → last ≡ true
last_of true true last is = is
last_of true false last is = absurd (cc is)
last_of false second last is = absurd (cc is)

memory_last : (shapes : List ShapeFields) (text : List ℕ) (block : MemoryLine) →
    is_memory shapes text block ≡ true → is_line text (memory_line block) ≡ true
unfolding is_memory
memory_last shapes text block is =
    last_of (block.address % 16 == 0)
    (nat_lt block.address (capacity_of (slice_index_or shapes block.cube no_shape)))
    (is_line text (memory_line block)) is

pub block_line : (shapes : List ShapeFields) (text : List ℕ) (words : List (List ℕ))
    (block : MemoryLine) → memory_of shapes text words ≡ Ok block → Is text (memory_line block)
unfolding memory_of
block_line shapes text words block is =
    let cube = ok_then (number_word kinds.Memory (length shapes) words) _ block is in
    let address = ok_then (number_word kinds.Memory (2 ^ 34) cube.0.1) _ block cube.2 in
    let digits = ok_then (reading.next_word kinds.Words address.0.1) _ block address.2 in
    let bytes = ok_then (reading.or_fault kinds.Memory (block_of digits.0.0)) _ block digits.2 in
    let over = ok_then (reading.no_word kinds.Words digits.0.1) _ block bytes.2 in
    let made : MemoryLine = record { cube = cube.0.0; address = address.0.0; bytes = bytes.0 } in
    let passed = if_passed (is_memory shapes text made) kinds.Memory (Ok made) block over.2 in
    let same : made ≡ block = cc passed.1 in
    subst (λ (m : MemoryLine). Is text (memory_line m)) same
    (line_is text (memory_line made) (memory_last shapes text made passed.0))

register_last : (text : List ℕ) (register : RegisterLine) →
    is_register text register ≡ true → is_line text (register_line register) ≡ true
unfolding is_register
register_last text register is =
    (and_parts (nat_le 4 register.number) (is_line text (register_line register)) is).1

pub value_line : (cubes : ℕ) (text : List ℕ) (words : List (List ℕ)) (register : RegisterLine) →
    register_of cubes text words ≡ Ok register → Is text (register_line register)
unfolding register_of
value_line cubes text words register is =
    let cube = ok_then (number_word kinds.Register cubes words) _ register is in
    let number = ok_then (number_word kinds.Register 16 cube.0.1) _ register cube.2 in
    let digits = ok_then (reading.next_word kinds.Words number.0.1) _ register number.2 in
    let value = ok_then (reading.or_fault kinds.Register (value_of digits.0.0)) _ register digits.2 in
    let over = ok_then (reading.no_word kinds.Words digits.0.1) _ register value.2 in
    let made : RegisterLine = record { cube = cube.0.0; number = number.0.0; value = value.0 } in
    let passed = if_passed (is_register text made) kinds.Register (Ok made) register over.2 in
    let same : made ≡ register = cc passed.1 in
    subst (λ (m : RegisterLine). Is text (register_line m)) same
    (line_is text (register_line made) (register_last text made passed.0))

pub drained_line : (text : List ℕ) (words : List (List ℕ)) (drained : Bool) →
    drained_of text words ≡ Ok drained → Is text (report.state_line drained)
unfolding drained_of
drained_line text words drained is =
    let first = ok_then (reading.next_word kinds.Words words) _ drained is in
    let over = ok_then (reading.no_word kinds.Words first.0.1) _ drained first.2 in
    by (is_line text (report.state_line true)) refl over.2
  where
    busy : (b : Bool) → is_line text (report.state_line false) ≡ b →
        ◌≡◌ {A = Result Bool _} (if b then Ok false else Err kinds.End) (Ok drained) →
        Is text (report.state_line drained)
    busy false apart none = absurd (cc none)
    busy true same found =
        let value : false ≡ drained = cc found in
        subst (λ d. Is text (report.state_line d)) value (line_is text (report.state_line false) same)

    by : (b : Bool) → is_line text (report.state_line true) ≡ b →
        ◌≡◌ {A = Result Bool _} (if b then Ok true else if is_line text (report.state_line false)
        then Ok false else Err kinds.End) (Ok drained) → Is text (report.state_line drained)
    by true same found =
        let value : true ≡ drained = cc found in
        subst (λ d. Is text (report.state_line d)) value (line_is text (report.state_line true) same)
    by false apart found = busy (is_line text (report.state_line false)) refl found
