-- What the lines make in memory.
use Rattle.std.proofs.Common.{◌≡◌, ◌≤◌, ◌<◌, ◌∙◌, ◌+◌, ◌-◌, ◌%◌, ℕ, List, [], ◌∷◌, ◌++◌, length, Result, Ok, Err, sym, ap, subst, arith}
use Rattle.std.specs.Prelude.{if◌then◌else◌, map, min, ◌^◌, Some}
use Rattle.std.proofs.lemmas.Bool.{le-leb, lt-leb}
use Rattle.std.proofs.lemmas.List.{length-append, length-map, append-nil}
use Rattle.hmc_codes.specs.Limits.{most_requests}
use Rattle.hmc_script.specs.Items.{ItemFields}
use Rattle.hmc_text.proofs.InTurnLemmas as turns
use Rattle.hmc_text.proofs.InTurnLemmas.{after_left}
use Rattle.hmc_text.specs.Lines.{lines_of, is_line_feed, without_return}
use Rattle.std.specs.List.{slice_split}
use Rattle.std.proofs.lemmas.List.Splits.{length-slice_split}
use Rattle.hmc_text.specs.Reading.{◌>>=◌}
use Rattle.hmc_text.specs.InTurn.{after_lines, at_line, Numbered, IsNextLine, ReportsBy, fault_of}
use Rattle.hmc_text.specs.declared.fault.TextFault.{TextFault}
use Rattle.hmc_text.specs.declared.fault.TextFault.TheVariants as faults
use Rattle.hmc_accesses.specs.declared.fault.TraceKind.{TraceKind}
use Rattle.hmc_accesses.specs.declared.fault.TraceKind.TheVariants as kinds
use Rattle.hmc_accesses.specs.declared.load.Load.{Load}
use Rattle.hmc_trace.specs.Appending.{Appends}
use Rattle.hmc_accesses.specs.Compiled.{CompiledFields, requests_of, item_of, loads_of, with_access}
use Rattle.std.specs.Borrow.{Bor}
use Rattle.hmc_trace.specs.declared.meaning.Parsed.{Parsed}
use Rattle.hmc_trace.specs.declared.meaning.Parsed.TheVariants as variants
use Rattle.hmc_trace.specs.Parsed.{parsed_access}
use Rattle.hmc_accesses.specs.Meaning.{bytes_of_digits}
use Rattle.hmc_trace.specs.Making.{Made, compile_access, Compiles, make_line, made_lines}
use Rattle.hmc_accesses.specs.Requests.{load_requests, store_requests}
use Rattle.hmc_accesses.specs.Trace.{Access}
use Rattle.hmc_accesses.specs.Trace.Access.{load, store}

-- an access for which there is room
pub appended_ok : (line : ℕ) (old : CompiledFields) (script : List ItemFields) (loads : List Load)
    (access : Access) → Appends line old.script (requests_of access) script (Ok tt) →
    loads ≡ old.loads ++ loads_of (length old.script) access →
    at_line line (compile_access old access) ≡ Ok (record { script = script; loads = loads })
unfolding compile_access
appended_ok line old script loads access appends loads_is =
    let made : List ItemFields → List Load → CompiledFields = λ s l. record {
      script = s;
      loads =
          l;
    } in
    ap (λ b. at_line line (if b then Ok (with_access old access) else Err kinds.TooMany))
    (le-leb (length old.script + length (requests_of access)) most_requests appends.1)
    ∙ ap (λ s. Ok (made s (old.loads ++ loads_of (length old.script) access))) (sym appends.0)
    ∙ ap (λ l. Ok (made script l)) (sym loads_is)

-- and one for which there is none
pub appended_err : (line : ℕ) (old : CompiledFields) (script : List ItemFields) (access : Access)
    (e : TextFault TraceKind) → Appends line old.script (requests_of access) script (Err e) →
    ReportsBy fault_of e (at_line line (compile_access old access))
unfolding compile_access
appended_err line old script access faults.Memory appends = tt
appended_err line old script access (faults.Fault at kind) appends =
    ap (λ b. at_line line (if b then Ok (with_access old access) else Err kinds.TooMany))
    (lt-leb (length old.script + length (requests_of access)) most_requests appends.2)
    ∙ ap (λ n. Err (n, kinds.TooMany)) (sym appends.0) ∙ ap (λ k. Err (at, k)) (sym appends.1)

-- the load that is noted
pub load_noted : (line : ℕ) (old script : List ItemFields) (cube place size first count skip : ℕ) →
    Appends line old (load_requests cube place size) script (Ok tt) → first ≡ length old →
    count ≡ length script - first → skip ≡ place % 16 →
    (record { first = first; count = count; skip = skip; length = size }) ∷ [] ≡ loads_of
    (length old) (load cube place size)
load_noted line old script cube place size first count skip appends first_is count_is skip_is =
    let made : ℕ → ℕ → ℕ → List Load =
    λ f n s. (record { first = f; count = n; skip = s; length = size }) ∷ [] in
    let many : count ≡ length (load_requests cube place size) =
    omega (
      arith,
      ap length appends.0,
      length-append old
          (map item_of (load_requests cube place size)),
      length-map (load_requests cube place size)
          item_of,
      first_is,
      count_is,
    ) in
    ap (λ f. made f count skip) first_is ∙ ap (λ n. made (length old) n skip) many
    ∙ ap (made (length old) (length (load_requests cube place size))) skip_is

pub stored_compiles : (line : ℕ) (a b : List ItemFields) (loads : List Load) (parsed : Parsed)
    (cube place : ℕ) (digits : Bor (List ℕ)) (result : Result (Unit {0}) (TextFault TraceKind)) →
    parsed ≡ variants.Store cube place digits →
    Appends line a (store_requests cube place (bytes_of_digits digits.now)) b result →
    Compiles line (record { script = a; loads = loads }) (parsed_access parsed)
    (record { script = b; loads = loads }) result
stored_compiles line a b loads parsed cube place digits (Ok x) is appends =
    subst (λ d. Compiles line (record { script = a; loads = loads }) (parsed_access d)
    (record { script = b; loads = loads }) (Ok x)) (sym is)
    (appended_ok line (record { script = a; loads = loads }) b loads
    (store cube place (bytes_of_digits digits.now)) appends (sym (append-nil loads)))
stored_compiles line a b loads parsed cube place digits (Err e) is appends =
    subst (λ d. Compiles line (record { script = a; loads = loads }) (parsed_access d)
    (record { script = b; loads = loads }) (Err e)) (sym is)
    (appended_err line (record { script = a; loads = loads }) b
    (store cube place (bytes_of_digits digits.now)) e appends)

pub load_as : (line : ℕ) (a b : List ItemFields) (cube place size same : ℕ)
    (result : Result (Unit {0}) (TextFault TraceKind)) → size ≡ same →
    Appends line a (load_requests cube place size) b result →
    Appends line a (load_requests cube place same) b result
load_as line a b cube place size same result is appends =
    subst (λ n. Appends line a (load_requests cube place n) b result) is appends

-- ---- lines in turn

-- how many lines were read, and the number of the last one
pub record Counted (all : List (List ℕ)) (left : Numbered) (last : ℕ) : Type 0 where
  pub fewer : length left.lines ≤ length all
  pub number : left.number ≡ min (length all - length left.lines + 1) (2 ^ 32 - 1)
  pub noted : length left.lines < length all → last ≡ min (length all - length left.lines)
      (2 ^ 32 - 1)

pub counted_first : (all : List (List ℕ)) (last : ℕ) →
    Counted all (record { number = 1; lines = all }) last
counted_first all last = record {
  fewer = omega arith;
  number = omega arith;
  noted =
      λ less. absurd (omega arith);
}

pub counted_next : (all : List (List ℕ)) (left rest : Numbered) (line : ℕ × Bor (List ℕ)) (last : ℕ)
    → IsNextLine left (Some line) rest → Counted all left last → Counted all rest line.0
counted_next all left rest line last is counted =
    let number : left.number ≡ line.0 = ap (λ n. n.number) is.0 in
    let longer : length left.lines ≡ length rest.lines + 1 = ap (λ n. length n.lines) is.0
    ∙ omega arith in record {
      fewer = omega (arith, counted.fewer);
      number = is.1 ∙ omega (arith, counted.number, counted.fewer);
      noted = λ less. omega (arith, counted.number, counted.fewer);
    }

pub counted_last : (all : List (List ℕ)) (left : Numbered) (last : ℕ) → left.lines ≡ [] →
    1 ≤ length all → Counted all left last → last ≡ min (length all) (2 ^ 32 - 1)
counted_last all left last none some counted =
    let zero_left : length left.lines ≡ 0 = ap length none in
    counted.noted (omega arith) ∙ omega arith

pub lines_ok : (made all : Made) (text : List ℕ) (left : Numbered) (last : ℕ) → left.lines ≡ [] →
    after_left make_line all left ≡ after_lines make_line 1 made (lines_of text) →
    last ≡ min (length (lines_of text)) (2 ^ 32 - 1) → made_lines made text ≡ Ok (all, last)
unfolding made_lines
lines_ok made all text left last none so_far last_is =
    ap (λ (r : Result Made (ℕ × TraceKind)).
    r >>= (λ q. Ok (q, min (length (lines_of text)) (2 ^ 32 - 1)))) (sym so_far
    ∙ turns.none_left make_line left all none)
    ∙ ap (λ n. Ok (all, n)) (sym last_is)

pub lines_err : (made state : Made) (text : List ℕ) (left rest : Numbered) (line : ℕ × Bor (List ℕ))
    (fault : TextFault TraceKind) → IsNextLine left (Some line) rest →
    ReportsBy fault_of fault (at_line line.0 (make_line state line.1.now)) →
    after_left make_line state left ≡ after_lines make_line 1 made (lines_of text) →
    ReportsBy fault_of fault (made_lines made text)
unfolding made_lines
lines_err made state text left rest line fault is read so_far =
    turns.fault_made (λ (q : Made). (q, min (length (lines_of text)) (2 ^ 32 - 1)))
    (after_lines make_line 1 made (lines_of text)) fault
    (turns.first_fault make_line left rest line state (after_lines make_line 1 made (lines_of text))
    fault is read so_far)

pub some_line : (text : List ℕ) → 1 ≤ length (lines_of text)
unfolding lines_of
some_line text = omega (
  arith,
  length-map (slice_split is_line_feed text) without_return,
  length-slice_split is_line_feed text,
)
