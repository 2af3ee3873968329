-- A trace without fault is answered by its script, unless memory runs out or a fault comes first.
use Rattle.std.proofs.Common.{inr, ◌≡◌, ◌≤◌, ℕ, true, List, [], ◌∷◌, length, Option, None, Some, IfSome, Ok, refl}
use Rattle.std.specs.Prelude.{map}
use Rattle.std.specs.Str.{is_utf8}
use Rattle.hmc_codes.specs.Limits.{most_input}
use Rattle.hmc_outside.specs.Views.{SourceView, SinkView}
use Rattle.hmc_script.specs.Text.{item_text}
use Rattle.hmc_accesses.specs.Compiled.{compiled_of}
use Rattle.hmc_accesses.specs.Text.{trace_of}
use Rattle.hmc_accesses.specs.Trace.{Trace}
use Rattle.hmc_units.specs.Unit.{UnitFields}
use Rattle.hmc_replay.specs.Answer.{IsAnswer}
use Rattle.hmc_replay.specs.Top.{OneOf, Replays}
use Rattle.hmc_replay.specs.declared.form.Form.TheVariants as forms
use Rattle.hmc_replay.proofs.Complete.{complete}

-- 0 where the source shows a trace that is not too long; else memory ran out (1), or the source (3)
-- or the sink (4) failed
pub trace_completes : {S O : Type 0} (source_view : S → SourceView) (sink_view : O → SinkView)
    (slots : List (Option UnitFields)) (source source' : S) (sink sink' : O) (status : ℕ)
    (trace : Trace) →
    Replays forms.Trace source_view sink_view slots source source' sink sink' status →
    IfSome (source_view source).left
    (λ all. length all ≤ most_input → is_utf8 all ≡ true → trace_of all ≡ Ok trace →
    OneOf (0 ∷ 1 ∷ 3 ∷ 4 ∷ []) status)
trace_completes source_view sink_view slots source source' sink sink' status trace replays =
    by (source_view source).left
    (complete forms.Trace source_view sink_view slots source source' sink sink' status most_input
    refl replays)
  where
    by : (left : Option (List ℕ)) →
        IfSome left
        (λ all. length all ≤ most_input → (due : ℕ) (lines : List (List ℕ)) →
        IsAnswer forms.Trace slots all due lines → OneOf (due ∷ 1 ∷ 3 ∷ 4 ∷ []) status) →
        IfSome left
        (λ all. length all ≤ most_input → is_utf8 all ≡ true → trace_of all ≡ Ok trace →
        OneOf (0 ∷ 1 ∷ 3 ∷ 4 ∷ []) status)
    by None ends = tt
    by (Some all) ends = λ few text is.
        ends few 0 (map item_text (compiled_of trace).script)
        (inr (
          text,
          inr (record {
            trace = trace;
            is_trace = is;
            script = record { status_is = refl; lines_are = refl };
          }),
        ))
