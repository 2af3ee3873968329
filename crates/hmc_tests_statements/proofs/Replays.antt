-- Results of a call of `replay` that break its promises, one row for each promise. At first the
-- source shows its bytes, and nothing was read, written or finished.
use Rattle.std.proofs.Common.{Ok, Err, Result, subst, ◌≡◌, ◌≤◌, ◌<◌, ◌++◌, ◌⊎◌, ◌∙◌, ℕ, zero, suc, Bool, true, false, List, [], ◌∷◌, length, append-nil, if◌then◌else◌, Option, Some, None, inl, inr, ⊎_elim, refl, ap, arith}
use Rattle.std.specs.Prelude.{codes}
use Rattle.std.specs.Io.KnownBytes.{Consumes, IsAtEnd}
use Rattle.std.specs.List.{concat}
use Rattle.hmc_codes.specs.Limits.{most_input}
use Rattle.hmc_outside.specs.Finish.{HandsOn, FailsToHandOn}
use Rattle.hmc_outside.specs.Lines.{BreaksOff}
use Rattle.hmc_outside.specs.Raised.{raised_by}
use Rattle.hmc_outside.specs.Views.{SourceView, SinkView}
use Rattle.hmc_report.specs.Final.{AppendsSome}
use Rattle.hmc_case.specs.Case.{CaseFields, case_of}
use Rattle.hmc_case.specs.Reading.{Fault}
use Rattle.hmc_journal.specs.Final.{final_lines_of}
use Rattle.hmc_entries.specs.Text.{lines_of}
use Rattle.hmc_replay.specs.MakeAnswer.{made_setup}
use Rattle.hmc_journal.specs.Report.{lines_unless, report_lines}
use Rattle.hmc_replay.specs.Report.{passes, report_of, short_report_of}
use Rattle.hmc_replay.specs.Reported.{EndsAtPass}
use Rattle.hmc_replay.specs.RunAnswer.{IsRunAnswer}
use Rattle.hmc_replay.specs.Top.{NoneOf, Replayed}
use Rattle.hmc_replay.specs.Words.{IsMake}
use Rattle.hmc_journal.specs.Setup.{setup_of}
use Rattle.hmc_journal.specs.Guarantees.{Guarantees}
use Rattle.hmc_journal.specs.Lawful.{journal_of, has_passed}
use Rattle.hmc_replay.specs.declared.form.Form.TheVariants.{Run, Make}

-- ---- what never holds

not_one : ◌≡◌ {A = ℕ} 0 1 → ⊥
not_one is = omega arith

nor_one : ◌≡◌ {A = ℕ} 1 0 → ⊥
nor_one is = omega arith

not_true : false ≡ true → ⊥
not_true is = cc

not_false : true ≡ false → ⊥
not_false is = cc

abbrev is_empty : {X : Type 0} → List X → Bool
is_empty [] = true
is_empty (x ∷ xs) = false

-- ---- calls

abbrev source : List ℕ → SourceView
source bytes = record { left = Some bytes; reads = 0; empty_reads = 0; faults = 0; stops = 0; stopped = false; failed = false }

abbrev sink : SinkView
sink = record { pieces = Some []; bytes = Some []; writes = 0; finishes = 0; faults = 0; failed = false; finished = false }

abbrev run : List (List ℕ)
run = codes "run" ∷ []

-- these words, over a source with these bytes
abbrev Gives : (words : List (List ℕ)) → (bytes : List ℕ) → SourceView → SinkView → (status : ℕ) → Type 0
Gives words bytes source' sink' status =
    Replayed (λ (s : SourceView). s) (λ (o : SinkView). o) words [] (source bytes) source' sink sink' status

-- the same where nothing is read or written
abbrev GivesAtOnce : (words : List (List ℕ)) → (status : ℕ) → Type 0
GivesAtOnce words status = Gives words [] (source []) sink status

-- the end was read
abbrev ended : SourceView
ended = record (source []) { reads = 1; stops = 1; stopped = true }

abbrev failed_read : SourceView
failed_read = record ended { faults = 1; failed = true }

-- the sink was finished, with nothing written
abbrev finished : SinkView
finished = record sink { finishes = 1; finished = true }

-- a call of it failed
abbrev failed_write : SinkView
failed_write = record sink { writes = 1; faults = 1; failed = true }

-- without a finish lines aren't handed on
no_finish : (lines : List (List ℕ)) → HandsOn sink sink lines → ⊥
no_finish lines is = not_one is.calls.finishes

-- and without a fault no call failed
no_fault : (lines : List (List ℕ)) → FailsToHandOn sink sink lines → ⊥
no_fault lines is = ⊎_elim (λ breaks. not_one breaks.faults) (λ fails. not_one fails.faults) is

-- ---- lines that are written

-- no line, another line, and two lines in the wrong order
abbrev wrote : List (List ℕ) → SinkView
wrote pieces = record finished { pieces = Some pieces; bytes = Some (concat pieces); writes = length pieces }

abbrev first_byte : Option (List (List ℕ)) → ℕ
first_byte (Some ((byte ∷ bytes) ∷ pieces)) = byte
first_byte _ = 0

hands_on-none : HandsOn sink (record finished { writes = 1 }) ((97 ∷ []) ∷ []) → ⊥
hands_on-none is = let off : ◌≡◌ {A = ℕ} 0 97 = ap first_byte is.calls.pieces in omega (arith, off)

hands_on-order : HandsOn sink (wrote ((98 ∷ []) ∷ (97 ∷ []) ∷ [])) ((97 ∷ []) ∷ (98 ∷ []) ∷ []) → ⊥
hands_on-order is = let off : ◌≡◌ {A = ℕ} 98 97 = ap first_byte is.calls.pieces in omega (arith, off)

-- two writes for one line, and a call after the finish
hands_on-writes : HandsOn sink (record (wrote ((97 ∷ []) ∷ [])) { writes = 2 }) ((97 ∷ []) ∷ []) → ⊥
unfolding raised_by
hands_on-writes is = let off : ◌≡◌ {A = ℕ} 2 1 = is.calls.writes in omega (arith, off)

hands_on-later : HandsOn sink (record finished { finished = false }) [] → ⊥
hands_on-later is = not_true is.calls.last

-- a write failed though there was no line
breaks_off-no_line : (sink' : SinkView) → BreaksOff sink sink' [] → ⊥
breaks_off-no_line sink' is = none is.whole is.line is.rest is.parts
  where
    none : (whole : List (List ℕ)) (line : List ℕ) (rest : List (List ℕ)) → [] ≡ whole ++ line ∷ rest → ⊥
    none [] line rest parts = not_false (ap is_empty parts)
    none (first ∷ whole) line rest parts = not_false (ap is_empty parts)

-- what was appended is none of the lines
appends_some-other : AppendsSome [] (97 ∷ []) [] → ⊥
appends_some-other is = none is.whole is.rest is.parts is.appended
  where
    none : (whole rest : List (List ℕ)) → [] ≡ whole ++ rest → (97 ∷ []) ≡ [] ++ concat whole → ⊥
    none [] rest parts appended = not_true (ap is_empty appended)
    none (line ∷ lines) rest parts appended = not_false (ap is_empty parts)

-- the bytes aren't those of the lines
hands_on-bytes : HandsOn sink (record (wrote ((97 ∷ []) ∷ [])) { bytes = Some (98 ∷ []) }) ((97 ∷ []) ∷ []) → ⊥
hands_on-bytes is = let off : ◌≡◌ {A = ℕ} 98 97 = ap first is.calls.bytes in omega (arith, off)
  where
    first : List ℕ → ℕ
    first [] = 0
    first (byte ∷ bytes) = byte

-- ---- the words

usage-run : GivesAtOnce run 2 → ⊥
usage-run is = let none : Some Run ≡ None = is.usage.0 refl in cc

usage-none : GivesAtOnce [] 0 → ⊥
usage-none is = let two : ◌≡◌ {A = ℕ} 0 2 = is.usage.1 refl in omega (arith, two)

untouched-source : Gives [] [] ended sink 2 → ⊥
untouched-source is = nor_one (ap (λ (s : SourceView). s.stops) (is.untouched refl).0)

untouched-sink : Gives [] [] (source []) finished 2 → ⊥
untouched-sink is = nor_one (ap (λ (o : SinkView). o.finishes) (is.untouched refl).1)

-- ---- what is read

-- 0, 2, 4, 6 and 8 are none of 1, 3 and 5
zero_whole : NoneOf (1 ∷ 3 ∷ 5 ∷ []) 0
zero_whole is = grind (arith, is)

zero_done : NoneOf (1 ∷ 3 ∷ 4 ∷ 5 ∷ []) 0
zero_done is = grind (arith, is)

six_whole : NoneOf (1 ∷ 3 ∷ 5 ∷ []) 6
six_whole is = grind (arith, is)

six_done : NoneOf (1 ∷ 3 ∷ 4 ∷ 5 ∷ []) 6
six_done is = grind (arith, is)

seven_done : NoneOf (1 ∷ 3 ∷ 4 ∷ 5 ∷ []) 7
seven_done is = grind (arith, is)

four_whole : NoneOf (1 ∷ 3 ∷ 5 ∷ []) 4
four_whole is = grind (arith, is)

-- a byte is left, or the end was not read, or was read twice
whole-left : Gives run (7 ∷ []) (record ended { left = Some (7 ∷ []) }) finished 0 → ⊥
whole-left is = not_true (ap is_empty ((is.replays Run refl).read.whole zero_whole).ended)

whole-no_stop : Gives run [] (source []) finished 6 → ⊥
whole-no_stop is = not_one ((is.replays Run refl).read.whole six_whole).stops.counted

whole-two_stops : Gives run [] (record ended { stops = 2 }) finished 0 → ⊥
whole-two_stops is = let off : ◌≡◌ {A = ℕ} 2 1 = ((is.replays Run refl).read.whole zero_whole).stops.counted in omega (arith, off)

-- written before the end was read
whole-early : Gives run (7 ∷ []) (source (7 ∷ [])) failed_write 4 → ⊥
whole-early is = not_true (ap is_empty ((is.replays Run refl).read.whole four_whole).ended)

-- no byte was there, and so not one too many
too_long-empty : GivesAtOnce run 5 → ⊥
too_long-empty is = let r = is.replays Run refl in none r.input r.read.reading.consumed (r.read.too_long refl).0
  where
    none : (input : List ℕ) → [] ≡ input ++ [] → length input ≡ suc most_input → ⊥
    none [] parts full = let off : ◌≡◌ {A = ℕ} 0 (suc most_input) = full in omega (arith, off)
    none (byte ∷ input) parts full = not_false (ap is_empty parts)

too_long-stopped : Gives run [] ended sink 5 → ⊥
too_long-stopped is = nor_one ((is.replays Run refl).read.too_long refl).1

-- out of memory after two stops, or after one though bytes are left
memory-two_stops : Gives run [] (record ended { stops = 2 }) sink 1 → ⊥
memory-two_stops is = ⊎_elim (λ whole. let off : ◌≡◌ {A = ℕ} 2 1 = whole.stops.counted in omega (arith, off)) (λ (e : ◌≡◌ {A = ℕ} 2 0). omega (arith, e)) ((is.replays Run refl).read.memory refl)

memory-left : Gives run (7 ∷ []) (record ended { left = Some (7 ∷ []) }) sink 1 → ⊥
memory-left is = ⊎_elim (λ whole. not_true (ap is_empty whole.ended)) (λ (e : ◌≡◌ {A = ℕ} 1 0). omega (arith, e)) ((is.replays Run refl).read.memory refl)

-- a fault of the source that was none, and one that was passed over
read_fault-none : GivesAtOnce run 3 → ⊥
read_fault-none is = not_true ((is.replays Run refl).read.read_fault.0 refl)

read_fault-done : Gives run [] failed_read finished 0 → ⊥
read_fault-done is = let three : ◌≡◌ {A = ℕ} 0 3 = (is.replays Run refl).read.read_fault.1 refl in omega (arith, three)

no_fault-counted : Gives run [] (record ended { faults = 1 }) finished 0 → ⊥
no_fault-counted is = ⊎_elim (λ (e : ◌≡◌ {A = ℕ} 0 3). omega (arith, e)) nor_one (is.replays Run refl).read.no_fault

one_fault-two : Gives run [] (record failed_read { faults = 2 }) sink 3 → ⊥
one_fault-two is = let off : ◌≡◌ {A = ℕ} 2 1 = ((is.replays Run refl).read.one_fault refl).1 in omega (arith, off)

-- one read more than bytes and one, and a read of no bytes
reads-more : Gives run [] (record ended { reads = 3 }) finished 0 → ⊥
unfolding raised_by
reads-more is =
    let r = is.replays Run refl in
    let reading = r.read.reading in by_times r.input reading.consumed reading.reads.times reading.reads.few reading.reads.reads
  where
    by_times : (input : List ℕ) → [] ≡ input ++ [] → (times : ℕ) → times ≤ suc (length input) → 3 ≡ raised_by times 0 → ⊥
    by_times [] parts zero few is = omega (arith, is)
    by_times [] parts (suc zero) few is = omega (arith, is)
    by_times [] parts (suc (suc times)) few is = omega (arith, few)
    by_times (byte ∷ input) parts times few is = not_false (ap is_empty parts)

reads-no_bytes : Gives run [] (record ended { empty_reads = 1 }) finished 0 → ⊥
reads-no_bytes is = nor_one (is.replays Run refl).read.reading.reads.empty_reads

make_reads_nothing : (words : List (List ℕ)) (number : ℕ) → IsMake words number → Gives words [] ended finished 0 → ⊥
make_reads_nothing words number make is = nor_one (ap (λ (s : SourceView). s.stops) (is.replays (Make number) make).read.same)

make_no_fault : (words : List (List ℕ)) (number : ℕ) → IsMake words number → GivesAtOnce words 3 → ⊥
make_no_fault words number make is = (is.replays (Make number) make).read.no_read (inl refl)

-- ---- what is written

-- nothing was written, and the sink not finished
answered-report : Gives run [] ended sink 0 → ⊥
answered-report is = no_finish _ ((is.replays Run refl).written.answered zero_done).written

answered-passed : Gives run [] ended sink 7 → ⊥
answered-passed is = no_finish _ ((is.replays Run refl).written.answered seven_done).written

answered-refusal : Gives run [] ended sink 6 → ⊥
answered-refusal is = no_finish _ ((is.replays Run refl).written.answered six_done).written

answered-made : (words : List (List ℕ)) (number : ℕ) → IsMake words number → GivesAtOnce words 0 → ⊥
answered-made words number make is = no_finish _ ((is.replays (Make number) make).written.answered zero_done).written

-- no call failed, or calls went on after it
cut_off-no_fault : Gives run [] ended sink 4 → ⊥
cut_off-no_fault is = no_fault _ ((is.replays Run refl).written.cut_off refl).written

cut_off-more : Gives run [] ended (record failed_write { failed = false }) 4 → ⊥
cut_off-more is = ⊎_elim (λ breaks. not_true breaks.failed) (λ fails. not_true fails.failed) ((is.replays Run refl).written.cut_off refl).written

cut_off-made : (words : List (List ℕ)) (number : ℕ) → IsMake words number → GivesAtOnce words 4 → ⊥
cut_off-made words number make is = no_fault _ ((is.replays (Make number) make).written.cut_off refl).written

unwritten-memory : Gives run [] ended finished 1 → ⊥
unwritten-memory is = nor_one (ap (λ (o : SinkView). o.finishes) ((is.replays Run refl).written.unwritten (inl refl)))

unwritten-fault : Gives run [] failed_read finished 3 → ⊥
unwritten-fault is = nor_one (ap (λ (o : SinkView). o.finishes) ((is.replays Run refl).written.unwritten (inr (inl refl))))

-- ---- which answer is due

eight_done : NoneOf (1 ∷ 3 ∷ 4 ∷ 5 ∷ []) 8
eight_done is = grind (arith, is)

report_status_is : (b : Bool) (n : ℕ) → n ≡ (if b then 7 else 0) → (n ≡ 0) ⊎ (n ≡ 7)
report_status_is true n is = inr is
report_status_is false n is = inl is

-- there is no status 8
answer-eight : (source' : SourceView) (sink' : SinkView) → Gives run [] source' sink' 8 → ⊥
answer-eight source' sink' is = by_due _ ((is.replays Run refl).written.answered eight_done).due
  where
    by_due : (input : List ℕ) {lines : List (List ℕ)} → IsRunAnswer [] input 8 lines → ⊥
    by_due input (inl a) = ⊎_elim (λ (e : ◌≡◌ {A = ℕ} 8 0). omega (arith, e)) (λ (e : ◌≡◌ {A = ℕ} 8 7). omega (arith, e)) (report_status_is (passes (setup_of a.case [])) 8 a.report.status_is)
    by_due input (inr a) = let six : ◌≡◌ {A = ℕ} 8 6 = a.refusal.status_is in omega (arith, six)

-- what was read to its end is all that there was
input_is : (bytes : List ℕ) (left : Option (List ℕ)) (input : List ℕ) → Consumes (Some bytes) left input → IsAtEnd left → bytes ≡ input
input_is bytes None input consumed none = absurd consumed
input_is bytes (Some rest) input consumed none = consumed ∙ ap (λ l. input ++ l) none ∙ append-nil input

case_fault : (result : Result CaseFields Fault) (case : CaseFields) (fault : Fault) → result ≡ Ok case → result ≡ Err fault → ⊥
case_fault result case fault is other = cc

-- a case isn't refused, and nothing else is reported
case-refused : (bytes : List ℕ) (source' : SourceView) (sink' : SinkView) (case : CaseFields) → case_of bytes ≡ Ok case → Gives run bytes source' sink' 6 → ⊥
case-refused bytes source' sink' case is_case is =
    let r = is.replays Run refl in by_due r.input (input_is bytes source'.left r.input r.read.reading.consumed (r.read.whole six_whole).ended) (r.written.answered six_done).due
  where
    by_due : (input : List ℕ) {lines : List (List ℕ)} → bytes ≡ input → IsRunAnswer [] input 6 lines → ⊥
    by_due input same (inl a) = ⊎_elim (λ (e : ◌≡◌ {A = ℕ} 6 0). omega (arith, e)) (λ (e : ◌≡◌ {A = ℕ} 6 7). omega (arith, e)) (report_status_is (passes (setup_of a.case [])) 6 a.report.status_is)
    by_due input same (inr a) = case_fault (case_of bytes) case a.fault is_case (ap case_of same ∙ a.is_fault)

fault-reported : (bytes : List ℕ) (source' : SourceView) (sink' : SinkView) (fault : Fault) → case_of bytes ≡ Err fault → Gives run bytes source' sink' 0 → ⊥
fault-reported bytes source' sink' fault is_fault is =
    let r = is.replays Run refl in by_due r.input (input_is bytes source'.left r.input r.read.reading.consumed (r.read.whole zero_whole).ended) (r.written.answered zero_done).due
  where
    by_due : (input : List ℕ) {lines : List (List ℕ)} → bytes ≡ input → IsRunAnswer [] input 0 lines → ⊥
    by_due input same (inl a) = case_fault (case_of bytes) a.case fault (ap case_of same ∙ a.is_case) is_fault
    by_due input same (inr a) = let six : ◌≡◌ {A = ℕ} 0 6 = a.refusal.status_is in omega (arith, six)

-- an input that is too long isn't judged
excess-refused : (bytes : List ℕ) (source' : SourceView) (sink' : SinkView) → most_input < length bytes → Gives run bytes source' sink' 6 → ⊥
excess-refused bytes source' sink' many is =
    let r = is.replays Run refl in
    let whole = r.read.whole six_whole in
    omega (arith, many, whole.few, ap length (input_is bytes source'.left r.input r.read.reading.consumed whole.ended))

-- with status 0 and 7 the bytes read are a case whose journal has the guarantees, and what was
-- written are its lines
reported-guarantees : (bytes : List ℕ) (source' : SourceView) (sink' : SinkView) → Gives run bytes source' sink' 0 → (input : List ℕ) × (case : CaseFields) × (case_of input ≡ Ok case) × Guarantees (setup_of case []) (journal_of (setup_of case []))
    × HandsOn sink sink' (lines_of (journal_of (setup_of case [])) ++ lines_unless (has_passed (journal_of (setup_of case []))) (final_lines_of (setup_of case []) (journal_of (setup_of case []))))
unfolding report_of report_lines
reported-guarantees bytes source' sink' is = let r = is.replays Run refl in let answered = r.written.answered zero_done in by_due r.input answered.lines answered.due answered.written
  where
    by_due : (input : List ℕ) (lines : List (List ℕ)) → IsRunAnswer [] input 0 lines → HandsOn sink sink' lines → (input : List ℕ) × (case : CaseFields) × (case_of input ≡ Ok case) × Guarantees (setup_of case []) (journal_of (setup_of case []))
        × HandsOn sink sink' (lines_of (journal_of (setup_of case [])) ++ lines_unless (has_passed (journal_of (setup_of case []))) (final_lines_of (setup_of case []) (journal_of (setup_of case []))))
    by_due input lines (inl a) written = (input, a.case, a.is_case, a.report.guarantees, subst (HandsOn sink sink') a.report.lines_are written)
    by_due input lines (inr a) written = let six : ◌≡◌ {A = ℕ} 0 6 = a.refusal.status_is in absurd (omega (arith, six))

passed-guarantees : (bytes : List ℕ) (source' : SourceView) (sink' : SinkView) → Gives run bytes source' sink' 7 → (input : List ℕ) × (case : CaseFields) ×
    (case_of input ≡ Ok case) × Guarantees (setup_of case []) (journal_of (setup_of case [])) × EndsAtPass (journal_of (setup_of case []))
passed-guarantees bytes source' sink' is = let r = is.replays Run refl in let answered = r.written.answered seven_done in by_due r.input answered.lines answered.due
  where
    by_due : (input : List ℕ) (lines : List (List ℕ)) → IsRunAnswer [] input 7 lines → (input : List ℕ) × (case : CaseFields) ×
        (case_of input ≡ Ok case) × Guarantees (setup_of case []) (journal_of (setup_of case [])) × EndsAtPass (journal_of (setup_of case []))
    by_due input lines (inl a) = (input, a.case, a.is_case, a.report.guarantees, a.report.passed refl)
    by_due input lines (inr a) = let six : ◌≡◌ {A = ℕ} 7 6 = a.refusal.status_is in absurd (omega (arith, six))

made-guarantees : (words : List (List ℕ)) (number : ℕ) (source' : SourceView) (sink' : SinkView) → IsMake words number → Gives words [] source' sink' 0
    → Guarantees (made_setup [] number) (journal_of (made_setup [] number)) × HandsOn sink sink' (short_report_of (made_setup [] number))
made-guarantees words number source' sink' make is =
    let answered = (is.replays (Make number) make).written.answered zero_done in
    (answered.due.guarantees, subst (HandsOn sink sink') answered.due.lines_are answered.written)
