-- Where there is no memory for the units, the status is 1, which may come for each form.
use Rattle.std.proofs.Common.{◌≡◌, ℕ, true, List, Option, Some, None, ap, inl, inr}
use Rattle.std.specs.Prelude.{IfSome, is_some}
use Rattle.hmc_replay.specs.Words.{form_of}
use Rattle.hmc_main.specs.Ends.{Completes}

if_some : {A : Type 0} (o : Option A) (P : A → Type 0) → ((x : A) → P x) → IfSome o P
if_some None P holds = tt
if_some (Some x) P holds = holds x

pub memory_completes : (words : List (List ℕ)) (left : Option (List ℕ)) (status : ℕ) → (is_some (form_of words) ≡ true → status ≡ 1) → Completes words left status
memory_completes words left status memory = λ form is.
    let one : status ≡ 1 = memory (ap is_some is) in
    record {
      answered = λ most limit. if_some left _ (λ input few due lines answer. inr (inl one));
      too_long = λ most limit. if_some left _ (λ input many. inr (inl one));
      made = λ none due lines answer. inr (inl one);
    }
