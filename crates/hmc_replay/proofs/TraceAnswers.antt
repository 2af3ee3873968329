-- What is due for a trace.
use Rattle.std.proofs.Common.{◌≡◌, ◌∙◌, inl, inr, ℕ, true, false, Bool, List, [], ◌∷◌, Result, Ok, Err, refl, sym, ap, subst, arith}
use Rattle.std.specs.Prelude.{map}
use Rattle.std.specs.Str.{is_utf8}
use Rattle.hmc_outside.specs.Views.{SinkView}
use Rattle.hmc_script.specs.Items.{ItemFields}
use Rattle.hmc_script.specs.Text.{item_text}
use Rattle.hmc_text.specs.Reading.{◌>>=◌}
use Rattle.hmc_accesses.specs.Compiled.{CompiledFields, compiled_of}
use Rattle.hmc_trace.specs.Line.{bad_line, no_text_line}
use Rattle.hmc_accesses.specs.Text.{trace_of, compiled_text}
use Rattle.hmc_accesses.specs.Trace.{Trace}
use Rattle.hmc_accesses.specs.declared.fault.TraceKind.{TraceKind}
use Rattle.hmc_replay.specs.Answered.{IsLine, Answers}
use Rattle.hmc_replay.specs.Top.{NoneOf}
use Rattle.hmc_replay.specs.TraceAnswer.{IsScript, IsTextAnswer, IsTraceAnswer}
use Rattle.hmc_replay.specs.declared.run.RunError.{RunError}
use Rattle.hmc_replay.proofs.Answering.{answers_so}

-- ---- a text that is compiled is a trace

pub record IsTraceOf (text : List ℕ) (compiled : CompiledFields) : Type 0 where
  pub trace : Trace
  pub is_trace : trace_of text ≡ Ok trace
  pub compiled_is : compiled_of trace ≡ compiled

pub trace_compiled : (text : List ℕ) (compiled : CompiledFields) →
    compiled_text text ≡ Ok compiled → IsTraceOf text compiled
unfolding compiled_text
trace_compiled text compiled is = by (trace_of text) refl is
  where
    by : (read : Result Trace (ℕ × TraceKind)) → trace_of text ≡ read →
        (read >>= (λ trace. Ok (compiled_of trace))) ≡ Ok compiled → IsTraceOf text compiled
    by (Ok trace) at is = record { trace = trace; is_trace = at; compiled_is = cc }
    by (Err fault) at is = absurd (cc)

pub trace_fault : (text : List ℕ) (fault : ℕ × TraceKind) → compiled_text text ≡ Err fault →
    trace_of text ≡ Err fault
unfolding compiled_text
trace_fault text fault is = by (trace_of text) refl is
  where
    by : (read : Result Trace (ℕ × TraceKind)) → trace_of text ≡ read →
        (read >>= (λ trace. Ok (compiled_of trace))) ≡ Err fault → trace_of text ≡ Err fault
    by (Ok trace) at is = absurd (cc)
    by (Err other) at is =
        let same : other ≡ fault = cc in
        at ∙ ap Err same

-- ---- what was written is due

-- the lines of the script
pub answers_printed : {O : Type 0} (view : O → SinkView) (old new : O) (text : List ℕ)
    (compiled : CompiledFields) (script : List ItemFields) (result : Result (Unit {0}) RunError) →
    compiled_text text ≡ Ok compiled → script ≡ compiled.script →
    Answers (IsScript script) result view old new → Answers (IsTextAnswer text) result view old new
answers_printed view old new text compiled script result is script_is answer =
    answers_so (IsScript script) (IsTextAnswer text)
    (λ status lines due. inr (record {
      trace = of.trace;
      is_trace = of.is_trace;
      script = subst (λ s. IsScript s status lines) (script_is ∙ ap (λ c. c.script) (sym of.compiled_is)) due;
    }))
    view old new result answer
  where
    of : IsTraceOf text compiled
    of = trace_compiled text compiled is

-- a line and a kind
pub same_pair : (line line' : ℕ) (kind kind' : TraceKind) → line' ≡ line → kind' ≡ kind →
    ◌≡◌ {A = ℕ × TraceKind} (line, kind) (line', kind')
same_pair line line' kind kind' l k =
    ap (λ (x : ℕ). (x, kind)) (sym l) ∙ ap (λ (x : TraceKind). (line', x)) (sym k)

-- the line of a fault
pub answers_bad : {O : Type 0} (view : O → SinkView) (old new : O) (text : List ℕ)
    (fault : ℕ × TraceKind) (result : Result (Unit {0}) RunError) → compiled_text text ≡ Err fault →
    Answers (IsLine 6 (bad_line fault)) result view old new →
    Answers (IsTextAnswer text) result view old new
answers_bad view old new text fault result is answer =
    answers_so (IsLine 6 (bad_line fault)) (IsTextAnswer text)
    (λ status lines due.
    inl (record { fault = fault; is_fault = trace_fault text fault is; refusal = due }))
    view old new result answer

-- a text is an input
pub answers_text : {O : Type 0} (view : O → SinkView) (old new : O) (input : List ℕ)
    (result : Result (Unit {0}) RunError) → is_utf8 input ≡ true →
    Answers (IsTextAnswer input) result view old new →
    Answers (IsTraceAnswer input) result view old new
answers_text view old new input result text answer =
    answers_so (IsTextAnswer input) (IsTraceAnswer input) (λ status lines due. inr (text, due))
    view old new result answer

pub answers_no_text : {O : Type 0} (view : O → SinkView) (old new : O) (input : List ℕ)
    (result : Result (Unit {0}) RunError) → is_utf8 input ≡ false →
    Answers (IsLine 6 no_text_line) result view old new →
    Answers (IsTraceAnswer input) result view old new
answers_no_text view old new input result none answer =
    answers_so (IsLine 6 no_text_line) (IsTraceAnswer input)
    (λ status lines due. inl (record { no_text = none; refusal = due })) view old new result answer

-- ---- it is one

same_line : (line : List ℕ) (one other : ℕ) (first second : List (List ℕ)) →
    IsLine 6 line one first → IsLine 6 line other second → (one ≡ other) × (first ≡ second)
same_line line one other first second a b =
    (a.status_is ∙ sym b.status_is, a.lines_are ∙ sym b.lines_are)

text_is_one : (text : List ℕ) (read : Result Trace (ℕ × TraceKind)) → trace_of text ≡ read →
    (one other : ℕ) (first second : List (List ℕ)) → IsTextAnswer text one first →
    IsTextAnswer text other second → (one ≡ other) × (first ≡ second)
text_is_one text read at one other first second (inl a) (inl b) =
    let same : a.fault ≡ b.fault = err_is a.fault b.fault (sym a.is_fault ∙ b.is_fault) in (
      a.refusal.status_is ∙ sym b.refusal.status_is,
      a.refusal.lines_are ∙ ap (λ f. bad_line f ∷ []) same ∙ sym b.refusal.lines_are,
    )
  where
    err_is : (f g : ℕ × TraceKind) → ◌≡◌ {A = Result Trace (ℕ × TraceKind)} (Err f) (Err g) → f ≡ g
    err_is f g is = cc
text_is_one text read at one other first second (inl a) (inr b) =
    absurd (let wrong = sym a.is_fault ∙ b.is_trace in cc)
text_is_one text read at one other first second (inr a) (inl b) =
    absurd (let wrong = sym b.is_fault ∙ a.is_trace in cc)
text_is_one text read at one other first second (inr a) (inr b) =
    let same : a.trace ≡ b.trace = ok_is a.trace b.trace (sym a.is_trace ∙ b.is_trace) in (
      a.script.status_is ∙ sym b.script.status_is,
      a.script.lines_are ∙ ap (λ t. map item_text (compiled_of t).script) same ∙ sym b.script.lines_are,
    )
  where
    ok_is : (f g : Trace) → ◌≡◌ {A = Result Trace (ℕ × TraceKind)} (Ok f) (Ok g) → f ≡ g
    ok_is f g is = cc

pub trace_is_one : (input : List ℕ) (one other : ℕ) (first second : List (List ℕ)) →
    IsTraceAnswer input one first → IsTraceAnswer input other second →
    (one ≡ other) × (first ≡ second)
trace_is_one input one other first second (inl a) (inl b) =
    same_line no_text_line one other first second a.refusal b.refusal
trace_is_one input one other first second (inl a) (inr b) =
    absurd (let none = a.no_text in let text = b.0 in cc)
trace_is_one input one other first second (inr a) (inl b) =
    absurd (let none = b.no_text in let text = a.0 in cc)
trace_is_one input one other first second (inr a) (inr b) =
    text_is_one input (trace_of input) refl one other first second a.1 b.1

-- 1 to 5 are the status of no answer
pub trace_status : (input : List ℕ) (status : ℕ) (lines : List (List ℕ)) →
    IsTraceAnswer input status lines → NoneOf (1 ∷ 2 ∷ 3 ∷ 4 ∷ 5 ∷ []) status
trace_status input status lines (inl a) =
    let six : status ≡ 6 = a.refusal.status_is in λ one. grind (arith, six, one)
trace_status input status lines (inr (text, inl a)) =
    let six : status ≡ 6 = a.refusal.status_is in λ one. grind (arith, six, one)
trace_status input status lines (inr (text, inr a)) =
    let zero : status ≡ 0 = a.script.status_is in λ one. grind (arith, zero, one)

-- and each input has one
pub trace_is_answered : (input : List ℕ) →
    (status : ℕ) × (lines : List (List ℕ)) × IsTraceAnswer input status lines
trace_is_answered input = by_text (is_utf8 input) refl (trace_of input) refl
  where
    by_text : (text : Bool) → is_utf8 input ≡ text → (read : Result Trace (ℕ × TraceKind)) →
        trace_of input ≡ read → (status : ℕ) × (lines : List (List ℕ)) × IsTraceAnswer input status lines
    by_text false none read at = (
      6,
      no_text_line ∷ [],
      inl (record { no_text = none; refusal = record { status_is = refl; lines_are = refl } }),
    )
    by_text true text (Ok trace) at = (
      0,
      map item_text (compiled_of trace).script,
      inr (
        text,
        inr (record {
          trace = trace;
          is_trace = at;
          script = record { status_is = refl; lines_are = refl };
        }),
      ),
    )
    by_text true text (Err fault) at = (
      6,
      bad_line fault ∷ [],
      inr (text, inl (record { fault = fault; is_fault = at; refusal = record { status_is = refl; lines_are = refl } })),
    )
