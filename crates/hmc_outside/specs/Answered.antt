-- Whether a writer that was called has answered.
use Rattle.std.specs.Prelude.{◌≡◌, Bool, true, false, Result, Ok, Err}

-- it has where it succeeded, or failed otherwise than by an interruption
abbrev pub HasAnswered : {T E : Type 0} → (IsInterruption : E → Type 0) → Result T E → Bool → Type 0
HasAnswered IsInterruption (Ok value) answered = answered ≡ true
HasAnswered IsInterruption (Err e) answered = record {
  failed : (IsInterruption e → ⊥) → answered ≡ true;
  interrupted : IsInterruption e → answered ≡ false;
}
