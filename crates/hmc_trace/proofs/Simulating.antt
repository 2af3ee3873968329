-- What is made in memory is the script of the trace.
use Rattle.std.proofs.Common.{◌≡◌, ◌∙◌, ◌+◌, ◌-◌, ◌^◌, ◌==◌, ℕ, Bool, true, false, List, [], ◌∷◌, ◌++◌, length, Result, Ok, Err, refl, sym, ap, arith}
use Rattle.std.specs.Prelude.{nat_le, min, if◌then◌else◌, codes}
use Rattle.std.specs.Str.{bytes_eq}
use Rattle.std.proofs.lemmas.Bool.{lt-ltb}
use Rattle.std.proofs.lemmas.List.{length-append}
use Rattle.hmc_codes.specs.Limits.{most_requests}
use Rattle.hmc_codes.specs.Shape.{ShapeFields}
use Rattle.hmc_text.specs.InTurn.{after_lines, at_line, next_number}
use Rattle.hmc_text.specs.Lines.{lines_of}
use Rattle.hmc_text.specs.Reading.{◌>>=◌}
use Rattle.hmc_text.specs.Words.{words_of, is_passed_over}
use Rattle.hmc_accesses.specs.declared.fault.TraceKind.{TraceKind}
use Rattle.hmc_accesses.specs.declared.fault.TraceKind.TheVariants as kinds
use Rattle.hmc_accesses.specs.Compiled.{CompiledFields, requests_of, with_access, nothing_compiled, compiled_after, compiled_of}
use Rattle.hmc_trace.specs.Making.{Made, nothing_made, compile_access, make_cube, make_access, make_from_line, make_statement, make_line, made_lines, made_text}
use Rattle.hmc_accesses.specs.Meaning.{access_of}
use Rattle.hmc_accesses.specs.Text.{nothing_yet, total, cube_of, has_begun, cube_line, add_access, access_line, statement, after_line, with_cubes, trace_of, compiled_text}
use Rattle.hmc_accesses.specs.Trace.{Access, Trace}

-- what a trace makes
abbrev made_by : Trace → Made
made_by trace = record {
  cubes = trace.cubes;
  begun = has_begun trace;
  compiled =
      compiled_of trace;
}

abbrev made_result : {K : Type 0} → Result Trace K → Result Made K
made_result (Ok trace) = Ok (made_by trace)
made_result (Err kind) = Err kind

compiled_more : (compiled : CompiledFields) (accesses : List Access) (access : Access) →
    compiled_after compiled (accesses ++ access ∷ []) ≡ with_access
    (compiled_after compiled accesses) access
unfolding compiled_after
compiled_more compiled [] access = refl
compiled_more compiled (first ∷ accesses) access =
    compiled_more (with_access compiled first) accesses access

more_compiled : (trace : Trace) (access : Access) →
    compiled_of (record trace { accesses = trace.accesses ++ access ∷ [] }) ≡ with_access
    (compiled_of trace) access
unfolding compiled_of
more_compiled trace access = compiled_more nothing_compiled trace.accesses access

same_compiled : (trace : Trace) (cubes : List ShapeFields) →
    compiled_of (record trace { cubes = cubes }) ≡ compiled_of trace
unfolding compiled_of
same_compiled trace cubes = refl

now_begun : (trace : Trace) (access : Access) →
    has_begun (record trace { accesses = trace.accesses ++ access ∷ [] }) ≡ true
now_begun trace access = lt-ltb 0 (length (trace.accesses ++ access ∷ []))
    (omega (arith, length-append trace.accesses (access ∷ [])))

sim_cube : (trace : Trace) (words : List (List ℕ)) → make_cube (made_by trace) words ≡ made_result
    (cube_line trace words)
unfolding make_cube cube_line
sim_cube trace words = by_shape (cube_of (has_begun trace) (length trace.cubes) (total trace.cubes)
    words)
  where
    made_with : List ShapeFields → CompiledFields → Made
    made_with cubes compiled = record {
      cubes = cubes;
      begun = has_begun trace;
      compiled =
          compiled;
    }

    by_shape : (shape : Result ShapeFields TraceKind) →
        (shape >>= (λ s. Ok (record (made_by trace) { cubes = trace.cubes ++ s ∷ [] })))
        ≡ made_result (shape >>= (λ s. Ok (record trace { cubes = trace.cubes ++ s ∷ [] })))
    by_shape (Ok s) = ap (λ c. Ok (made_with (trace.cubes ++ s ∷ []) c))
        (sym (same_compiled trace (trace.cubes ++ s ∷ [])))
    by_shape (Err kind) = refl

sim_access : (trace : Trace) (access : Access) → make_access (made_by trace) access ≡ made_result
    (add_access trace access)
unfolding make_access compile_access add_access
sim_access trace access =
    by_test (nat_le (length (compiled_of trace).script + length (requests_of access)) most_requests)
  where
    made_with : Bool → CompiledFields → Made
    made_with begun compiled = record { cubes = trace.cubes; begun = begun; compiled = compiled }

    more : Trace
    more = record trace { accesses = trace.accesses ++ access ∷ [] }

    by_test : (b : Bool) → ((if b then Ok (with_access (compiled_of trace) access) else Err
        kinds.TooMany) >>= (λ c. Ok (record { cubes = trace.cubes; begun = true; compiled = c })))
        ≡ made_result (if b then Ok (record trace { accesses = trace.accesses ++ access ∷ [] }) else
        Err kinds.TooMany)
    by_test true = ap (λ b. Ok (made_with b (with_access (compiled_of trace) access)))
        (sym (now_begun trace access)) ∙ ap (λ c. Ok (made_with (has_begun more) c))
        (sym (more_compiled trace access))
    by_test false = refl

sim_access_line : (trace : Trace) (words : List (List ℕ)) → make_from_line (made_by trace) words
    ≡ made_result (access_line trace words)
unfolding make_from_line access_line
sim_access_line trace words = by_access (access_of trace.cubes words)
  where
    by_access : (access : Result Access TraceKind) → (access >>= make_access (made_by trace))
        ≡ made_result (access >>= add_access trace)
    by_access (Ok access) = sim_access trace access
    by_access (Err kind) = refl

sim_statement : (trace : Trace) (words : List (List ℕ)) → make_statement (made_by trace) words
    ≡ made_result (statement trace words)
unfolding make_statement statement
sim_statement trace [] = refl
sim_statement trace (word ∷ words) =
    elim (bytes_eq word (codes "cube")) as (λ b.
    (if b then make_cube (made_by trace) words else make_from_line (made_by trace)
    (word ∷ words)) ≡ made_result (if b then cube_line trace words else access_line trace
    (word ∷ words))) [
      | true ↦ sim_cube trace words
      | false ↦ sim_access_line trace (word ∷ words)
    ]

sim_line : (trace : Trace) (line : List ℕ) → make_line (made_by trace) line ≡ made_result
    (after_line trace line)
unfolding make_line after_line
sim_line trace line =
    elim (is_passed_over (words_of line)) as (λ b. (if b then Ok (made_by trace) else make_statement
    (made_by trace) (words_of line)) ≡ made_result (if b then Ok trace else statement trace
    (words_of line))) [
      | true ↦ refl
      | false ↦ sim_statement trace (words_of line)
    ]

sim_lines : (number : ℕ) (trace : Trace) (lines : List (List ℕ)) →
    after_lines make_line number (made_by trace) lines ≡ made_result
    (after_lines after_line number trace lines)
unfolding after_lines
sim_lines number trace [] = refl
sim_lines number trace (line ∷ lines) =
    ap (λ (r : Result Made TraceKind). at_line number r >>=
    (λ q. after_lines make_line (next_number number) q lines)) (sim_line trace line)
    ∙ by_next (after_line trace line) (λ next. sim_lines (next_number number) next lines)
  where
    by_next : (r : Result Trace TraceKind) →
        ((next : Trace) → after_lines make_line (next_number number) (made_by next) lines
        ≡ made_result (after_lines after_line (next_number number) next lines))
        → (at_line number (made_result r) >>= (λ q. after_lines make_line (next_number number) q
        lines)) ≡ made_result (at_line number r >>=
        (λ q. after_lines after_line (next_number number) q lines))
    by_next (Ok next) more = more next
    by_next (Err kind) more = refl

nothing_is : nothing_made ≡ made_by nothing_yet
unfolding compiled_of compiled_after
nothing_is = refl

-- the end of a text
abbrev with_last : ℕ → Made → Result (Made × ℕ) (ℕ × TraceKind)
with_last last made = Ok (made, last)

abbrev checked : Made × ℕ → Result CompiledFields (ℕ × TraceKind)
checked made = if length made.0.cubes == 0 then Err (made.1, kinds.Cubes) else Ok made.0.compiled

abbrev compiles : Trace → Result CompiledFields (ℕ × TraceKind)
compiles trace = Ok (compiled_of trace)

ended : (last : ℕ) (r : Result Trace (ℕ × TraceKind)) →
    ((made_result r >>= with_last last) >>= checked) ≡ ((r >>= with_cubes last) >>= compiles)
unfolding with_cubes
ended last (Ok trace) = elim (length trace.cubes == 0) as (λ b.
    (if b then Err (last, kinds.Cubes) else Ok (compiled_of trace))
    ≡ ((if b then Err (last, kinds.Cubes) else Ok trace) >>= compiles)) [
      | true ↦ refl
      | false ↦ refl
    ]
ended last (Err kind) = refl

-- the text gives what its trace compiles to
pub made_is_compiled : (text : List ℕ) → made_text text ≡ compiled_text text
unfolding made_text made_lines compiled_text trace_of
made_is_compiled text =
    let last = min (length (lines_of text)) (2 ^ 32 - 1) in
    ap (λ (m : Made). (after_lines make_line 1 m (lines_of text) >>= with_last last) >>= checked)
    nothing_is
    ∙ ap (λ (r : Result Made (ℕ × TraceKind)). (r >>= with_last last) >>= checked)
    (sim_lines 1 nothing_yet (lines_of text))
    ∙ ended last (after_lines after_line 1 nothing_yet (lines_of text))
