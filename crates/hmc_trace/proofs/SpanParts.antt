-- What a store has of a block of 256, part by part.
use Rattle.std.proofs.Common.{◌≡◌, ◌∙◌, ◌-◌, ◌/◌, ℕ, List, ◌++◌, Result, Ok, Err, ap, subst}
use Rattle.hmc_codes.specs.Request.{RequestFields}
use Rattle.hmc_script.specs.Items.{ItemFields}
use Rattle.hmc_text.specs.declared.fault.TextFault.{TextFault}
use Rattle.hmc_accesses.specs.declared.fault.TraceKind.{TraceKind}
use Rattle.hmc_trace.specs.Appending.{Appends}
use Rattle.hmc_accesses.specs.declared.span.Span.{Span}
use Rattle.hmc_accesses.specs.Requests.{run_of, cut_run, write_at, masked_span, write_span, store_span, head_end, tail_start}
use Rattle.hmc_trace.proofs.Appending.{appends_more, appends_less}

abbrev parts_at : (cube place : ℕ) → (bytes : List ℕ) → Span → (head tail : ℕ) → List RequestFields
parts_at cube place bytes span head tail =
    masked_span cube place bytes (record { start = span.start; end = head })
    ++ (run_of (write_at cube place bytes) head (cut_run ((tail - head) / 16))
    ++ masked_span cube place bytes (record { start = tail; end = span.end }))

span_parts : (cube place : ℕ) (bytes : List ℕ) (span : Span) (head tail : ℕ) → head ≡ head_end span
    → tail ≡ tail_start span → parts_at cube place bytes span head tail ≡ store_span cube place
    bytes span
unfolding store_span write_span
span_parts cube place bytes span head tail head_is tail_is =
    ap (λ h. parts_at cube place bytes span h tail) head_is
    ∙ ap (parts_at cube place bytes span (head_end span)) tail_is

pub span_first : (line : ℕ) (a b : List ItemFields) (cube place : ℕ) (bytes : List ℕ) (span : Span)
    (head tail : ℕ) (e : TextFault TraceKind) → head ≡ head_end span → tail ≡ tail_start span
    → Appends line a (masked_span cube place bytes (record { start = span.start; end = head })) b
    (Err e) → Appends line a (store_span cube place bytes span) b (Err e)
span_first line a b cube place bytes span head tail e head_is tail_is first =
    subst (λ l. Appends line a l b (Err e)) (span_parts cube place bytes span head tail head_is
    tail_is)
    (appends_less line a b b (masked_span cube place bytes (record {
      start = span.start;
      end =
          head;
    })) _ e first)

pub span_second : (line : ℕ) (a b c : List ItemFields) (cube place : ℕ) (bytes : List ℕ)
    (span : Span) (head tail : ℕ) (e : TextFault TraceKind) → head ≡ head_end span →
    tail ≡ tail_start span
    → Appends line a (masked_span cube place bytes (record { start = span.start; end = head })) b
    (Ok tt) → Appends line b (run_of (write_at cube place bytes) head
    (cut_run ((tail - head) / 16))) c (Err e) →
    Appends line a (store_span cube place bytes span) c (Err e)
span_second line a b c cube place bytes span head tail e head_is tail_is first second =
    subst (λ l. Appends line a l c (Err e)) (span_parts cube place bytes span head tail head_is
    tail_is)
    (appends_more line a b c (masked_span cube place bytes (record {
      start = span.start;
      end =
          head;
    })) _ (Err e) first
    (appends_less line b c c (run_of (write_at cube place bytes) head
    (cut_run ((tail - head) / 16))) (masked_span cube place bytes (record {
      start = tail;
      end =
          span.end;
    })) e second))

pub span_last : (line : ℕ) (a b c d : List ItemFields) (cube place : ℕ) (bytes : List ℕ)
    (span : Span) (head tail : ℕ) (result : Result (Unit {0}) (TextFault TraceKind)) →
    head ≡ head_end span → tail ≡ tail_start span
    → Appends line a (masked_span cube place bytes (record { start = span.start; end = head })) b
    (Ok tt) → Appends line b (run_of (write_at cube place bytes) head
    (cut_run ((tail - head) / 16))) c (Ok tt)
    → Appends line c (masked_span cube place bytes (record { start = tail; end = span.end })) d
    result → Appends line a (store_span cube place bytes span) d result
span_last line a b c d cube place bytes span head tail result head_is tail_is first second third =
    subst (λ l. Appends line a l d result) (span_parts cube place bytes span head tail head_is
    tail_is)
    (appends_more line a b d (masked_span cube place bytes (record {
      start = span.start;
      end =
          head;
    })) _ result first
    (appends_more line b c d (run_of (write_at cube place bytes) head
    (cut_run ((tail - head) / 16))) (masked_span cube place bytes (record {
      start = tail;
      end =
          span.end;
    })) result second third))
