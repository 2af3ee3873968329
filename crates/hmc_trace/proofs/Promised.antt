-- What the calls promise of the trace.
use Rattle.std.proofs.Common.{◌≡◌, ◌∙◌, ℕ, true, List, length, Option, Some, None, Result, Ok, Err, IfOk, IfSome, sym, ap, subst}
use Rattle.std.specs.Prelude.{map, reverse, option_map}
use Rattle.std.specs.List.{slice_get}
use Rattle.hmc_entries.specs.declared.entry.Entry.{Entry}
use Rattle.hmc_journal.specs.Drained.{is_drained}
use Rattle.hmc_journal.specs.Filters.{given_by}
use Rattle.hmc_journal.specs.Lawful.{Lawful}
use Rattle.hmc_journal.specs.Network.{IsNetwork}
use Rattle.hmc_journal.specs.Setup.{Setup, shapes_of}
use Rattle.hmc_text.specs.InTurn.{Answers}
use Rattle.hmc_text.specs.Reading.{◌>>=◌}
use Rattle.hmc_text.specs.declared.fault.TextFault.{TextFault}
use Rattle.hmc_accesses.specs.declared.fault.TraceKind.{TraceKind}
use Rattle.hmc_accesses.specs.declared.load.Load.{Load}
use Rattle.hmc_accesses.specs.Compiled.{CompiledFields, compiled_of}
use Rattle.hmc_accesses.specs.Laws.{IsPerformed}
use Rattle.hmc_accesses.specs.Text.{trace_of, compiled_text}
use Rattle.hmc_accesses.specs.Trace.{Trace, IsTrace, loaded}
use Rattle.hmc_accesses.specs.Value.{value_in}
use Rattle.hmc_accesses.proofs.Drained.{all_are_loaded}
use Rattle.hmc_accesses.proofs.Loaded.{values_are_loaded}
use Rattle.hmc_accesses.proofs.Performed.{is_performed}
use Rattle.hmc_accesses.proofs.Sound.{trace_kept}
use Rattle.hmc_units.specs.Unit.{UnitFields}

-- the text compiles to its trace
compiled_is : (text : List ℕ) (trace : Trace) → trace_of text ≡ Ok trace →
    compiled_text text ≡ Ok (compiled_of trace)
unfolding compiled_text
compiled_is text trace is =
    ap (λ (r : Result Trace (ℕ × TraceKind)). r >>= (λ t. Ok (compiled_of t))) is

pub performed_by : (result : Result CompiledFields (TextFault TraceKind)) (text : List ℕ)
    (trace : Trace) (slots : List (Option UnitFields)) →
    Answers (λ compiled. compiled) result (compiled_text text) → trace_of text ≡ Ok trace →
    IfOk result (λ compiled. IsPerformed compiled trace slots)
performed_by (Ok x) text trace slots answers is =
    let same : compiled_of trace ≡ x = ok_is (compiled_of trace) x (sym (compiled_is text trace is)
    ∙ answers) in
    subst (λ c. IsPerformed c trace slots) same
    (is_performed trace slots (trace_kept text trace is))
  where
    ok_is : (a b : CompiledFields) → ◌≡◌ {A = Result CompiledFields (ℕ × TraceKind)} (Ok a) (Ok b) →
        a ≡ b
    ok_is a b is = cc
performed_by (Err e) text trace slots answers is = tt

pub loaded_by : {V E : Type 0} (items : V → List ℕ) (result : Result (Option V) E)
    (compiled : CompiledFields) (journal : List Entry) (i : ℕ) (own : Load) (trace : Trace)
    (setup : Setup) → slice_get compiled.loads i ≡ Some own
    → IfOk result (λ b. (own : Load) → slice_get compiled.loads i ≡ Some own →
    option_map items b ≡ value_in compiled (reverse journal) own)
    → IsTrace trace → compiled ≡ compiled_of trace → IsNetwork setup →
    Lawful setup (reverse journal) → shapes_of setup.topology ≡ trace.cubes →
    setup.script ≡ compiled.script
    → IfOk result (λ found. IfSome found (λ b. slice_get (loaded trace) i ≡ Some (items b)))
loaded_by items (Ok (Some b)) compiled journal i own trace setup at gives is same network lawful
    cubes script =
    values_are_loaded trace setup (reverse journal) is network lawful cubes (script
    ∙ ap (λ c. c.script) same) i own (items b)
    (ap (λ c. slice_get c.loads i) (sym same) ∙ at) (ap (λ c. value_in c (reverse journal) own)
    (sym same) ∙ sym (gives own at))
loaded_by items (Ok None) compiled journal i own trace setup at gives is same network lawful cubes
    script = tt
loaded_by items (Err e) compiled journal i own trace setup at gives is same network lawful cubes
    script = tt

pub all_loaded_by : {V E : Type 0} (shown : V → List (Option (List ℕ))) (result : Result V E)
    (compiled : CompiledFields) (journal : List Entry) (trace : Trace) (setup : Setup) →
    IfOk result (λ v. shown v ≡ map (value_in compiled (reverse journal)) compiled.loads) →
    IsTrace trace → compiled ≡ compiled_of trace → IsNetwork setup → Lawful setup (reverse journal)
    → shapes_of setup.topology ≡ trace.cubes → setup.script ≡ compiled.script →
    length (given_by 0 (reverse journal)) ≡ length setup.script →
    is_drained setup.topology (reverse journal) ≡ true →
    IfOk result (λ v. shown v ≡ map Some (loaded trace))
all_loaded_by shown (Ok v) compiled journal trace setup gives is same network lawful cubes script
    given drained =
    gives ∙ ap (λ c. map (value_in c (reverse journal)) c.loads) same
    ∙ all_are_loaded trace setup (reverse journal) is network lawful cubes
    (script ∙ ap (λ c. c.script) same) given drained
all_loaded_by shown (Err e) compiled journal trace setup gives is same network lawful cubes script
    given drained = tt
