-- Two units that are pushed one after another are in the slots 0 and 1.
use Rattle.std.proofs.Common.{◌≡◌, ◌∙◌, List, ℕ, [], ◌∷◌, ◌++◌, Option, Some, ap, subst}
use Rattle.hmc_outside.specs.Views.{SourceView, SinkView}
use Rattle.hmc_units.specs.Unit.{UnitFields}
use Rattle.hmc_units.specs.Shipped.{reverse_unit, stamp_unit}
use Rattle.hmc_replay.specs.Complete.{IsComplete}
use Rattle.hmc_replay.specs.Top.{Replayed}
use Rattle.hmc_replay.specs.Units.{slots_of}
use Rattle.hmc_replay.specs.Words.{form_of}
use Rattle.hmc_replay.specs.declared.form.Form.{Form}
use Rattle.hmc_main.specs.Ends.{Completes}
use Rattle.hmc_main.specs.Shipped.{shipped_slots}

two_slots : {U : Type 0} (meaning : U → UnitFields) (none one two : List U) (first second : U) → two ≡ one ++ second ∷ [] → one ≡ none ++ first ∷ [] → none ≡ [] → meaning first ≡ reverse_unit 0 0 → meaning second ≡ stamp_unit 0 1 0 → slots_of meaning two ≡ shipped_slots
two_slots meaning none one two first second is_two is_one is_none is_first is_second =
    let both : two ≡ first ∷ second ∷ [] = is_two ∙ ap (λ l. l ++ second ∷ []) (is_one ∙ ap (λ l. l ++ first ∷ []) is_none) in
    ap (slots_of meaning) both ∙ ap (λ (u : UnitFields). Some u ∷ Some (meaning second) ∷ []) is_first ∙ ap (λ (u : UnitFields). Some (reverse_unit 0 0) ∷ Some u ∷ []) is_second

pub shipped : {U S O : Type 0} (meaning : U → UnitFields) (source_view : S → SourceView) (sink_view : O → SinkView) (words : List (List ℕ)) (none one two : List U) (first second : U) (source source' : S) (sink sink' : O) (status : ℕ)
    → Replayed source_view sink_view words (slots_of meaning two) source source' sink sink' status → two ≡ one ++ second ∷ [] → one ≡ none ++ first ∷ [] → none ≡ [] → meaning first ≡ reverse_unit 0 0 → meaning second ≡ stamp_unit 0 1 0
    → Replayed source_view sink_view words shipped_slots source source' sink sink' status
shipped meaning source_view sink_view words none one two first second source source' sink sink' status replayed is_two is_one is_none is_first is_second =
    subst (λ (s : List (Option UnitFields)). Replayed source_view sink_view words s source source' sink sink' status) (two_slots meaning none one two first second is_two is_one is_none is_first is_second) replayed

pub shipped_completes : {U : Type 0} (meaning : U → UnitFields) (words : List (List ℕ)) (left : Option (List ℕ)) (none one two : List U) (first second : U) (status : ℕ)
    → ((form : Form) → form_of words ≡ Some form → IsComplete form (slots_of meaning two) left status) → two ≡ one ++ second ∷ [] → one ≡ none ++ first ∷ [] → none ≡ [] → meaning first ≡ reverse_unit 0 0 → meaning second ≡ stamp_unit 0 1 0
    → Completes words left status
shipped_completes meaning words left none one two first second status completes is_two is_one is_none is_first is_second =
    subst (λ (s : List (Option UnitFields)). (form : Form) → form_of words ≡ Some form → IsComplete form s left status) (two_slots meaning none one two first second is_two is_one is_none is_first is_second) completes
