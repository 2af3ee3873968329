-- What a run does is what the top call promises.
use Rattle.std.proofs.Common.{inl, inr, ◌≡◌, ℕ, true, false, List, [], ◌∷◌, Option, None, Some, Result, Ok, Err, refl, sym, ap, subst, arith}
use Rattle.hmc_units.specs.Unit.{UnitFields}
use Rattle.hmc_outside.specs.Views.{SourceView, SinkView}
use Rattle.hmc_replay.specs.Answer.{limit_of, IsAnswer}
use Rattle.hmc_replay.specs.Answered.{IsAnswered, Answers}
use Rattle.hmc_replay.specs.Causes.{cause_of_input, status_of}
use Rattle.hmc_replay.specs.Input.{ReadsWhole, ReadsPart}
use Rattle.hmc_replay.specs.Runs.{Runs}
use Rattle.hmc_replay.specs.Top.{OneOf, NoneOf, IsRead, Reads, Writes, Replays, Replayed}
use Rattle.hmc_replay.specs.Words.{form_of}
use Rattle.hmc_replay.specs.declared.form.Form.{Form}
use Rattle.hmc_replay.specs.declared.input.InputError.{InputError}
use Rattle.hmc_replay.specs.declared.input.InputError.TheVariants as inputs
use Rattle.hmc_replay.specs.declared.run.RunError.{RunError}
use Rattle.hmc_replay.specs.declared.run.RunError.TheVariants as runs

-- ---- what was read

-- an input that was read whole
read_whole : (most : ℕ) (source source' : SourceView) (input : List ℕ) (status : ℕ) → NoneOf (3 ∷ 5 ∷ []) status → ReadsWhole most source source' input → IsRead most source source' input status
read_whole most source source' input status other read = record {
  reading = read.reading;
  whole = λ _. read.whole;
  memory = λ _. inl read.whole;
  read_fault = (λ is. absurd (other (inl is)), λ failed. absurd (both _ failed read.not_failed));
  one_fault = λ is. absurd (other (inl is));
  no_fault = inr read.faults;
  too_long = λ is. absurd (other (inr (inl is)));
}
  where
    both : (failed : _) → failed ≡ true → failed ≡ false → ⊥
    both failed is isnt = cc

-- reading that ended early
read_part : (most : ℕ) (error : InputError) (source source' : SourceView) (input : List ℕ) → ReadsPart most error source source' input → IsRead most source source' input (status_of (Err (cause_of_input error)))
read_part most inputs.Memory source source' input part = record {
  reading = part.reading;
  whole = λ none. absurd (none (inl refl));
  memory = λ _. inr part.stops;
  read_fault = (λ is. absurd (omega (arith, is)), λ failed. absurd (both _ failed part.not_failed));
  one_fault = λ is. absurd (omega (arith, is));
  no_fault = inr part.faults;
  too_long = λ is. absurd (omega (arith, is));
}
  where
    both : (failed : _) → failed ≡ true → failed ≡ false → ⊥
    both failed is isnt = cc
read_part most inputs.Fault source source' input part = record {
  reading = part.reading;
  whole = λ none. absurd (none (inr (inl refl)));
  memory = λ is. absurd (omega (arith, is));
  read_fault = (λ _. part.failed, λ _. refl);
  one_fault = λ _. (part.stops, part.faults);
  no_fault = inl refl;
  too_long = λ is. absurd (omega (arith, is));
}
read_part most inputs.TooLong source source' input part = record {
  reading = part.reading;
  whole = λ none. absurd (none (inr (inr (inl refl))));
  memory = λ is. absurd (omega (arith, is));
  read_fault = (λ is. absurd (omega (arith, is)), λ failed. absurd (both _ failed part.not_failed));
  one_fault = λ is. absurd (omega (arith, is));
  no_fault = inr part.faults;
  too_long = λ _. (part.full, part.stops);
}
  where
    both : (failed : _) → failed ≡ true → failed ≡ false → ⊥
    both failed is isnt = cc

-- ---- what was written

module _ {O : Type 0} (Due : ℕ → List (List ℕ) → Type 0) (view : O → SinkView) where
  -- the status of an answer
  writes_answer : (old new : O) (status : ℕ) → NoneOf (1 ∷ 3 ∷ 4 ∷ 5 ∷ []) status → IsAnswered Due status (view old) (view new) → Writes Due view old new status
  writes_answer old new status other answer = record {
    answered = λ _. answer;
    cut_off = λ is. absurd (other (inr (inr (inl is))));
    unwritten = λ is. absurd (other (among status is));
  }
    where
      among : (n : ℕ) → OneOf (1 ∷ 3 ∷ 5 ∷ []) n → OneOf (1 ∷ 3 ∷ 4 ∷ 5 ∷ []) n
      among n (inl is) = inl is
      among n (inr (inl is)) = inr (inl is)
      among n (inr (inr (inl is))) = inr (inr (inr (inl is)))
      among n (inr (inr (inr none))) = absurd none

  -- nothing
  pub writes_nothing : (old new : O) (status : ℕ) → OneOf (1 ∷ 3 ∷ 5 ∷ []) status → new ≡ old → Writes Due view old new status
  writes_nothing old new status is same = record {
    answered = λ none. absurd (none (among status is));
    cut_off = λ four. absurd (not_four status four is);
    unwritten = λ _. same;
  }
    where
      among : (n : ℕ) → OneOf (1 ∷ 3 ∷ 5 ∷ []) n → OneOf (1 ∷ 3 ∷ 4 ∷ 5 ∷ []) n
      among n (inl is) = inl is
      among n (inr (inl is)) = inr (inl is)
      among n (inr (inr (inl is))) = inr (inr (inr (inl is)))
      among n (inr (inr (inr none))) = absurd none

      not_four : (n : ℕ) → n ≡ 4 → OneOf (1 ∷ 3 ∷ 5 ∷ []) n → ⊥
      not_four n four is = grind (arith, four, is)

  -- by the result
  pub writes_by : (old new : O) (result : Result (Unit {0}) RunError) → Answers Due result view old new → Writes Due view old new (status_of result)
  writes_by old new (Ok done) answer = writes_answer old new 0 (λ is. grind (arith, is)) answer
  writes_by old new (Err runs.BadInput) answer = writes_answer old new 6 (λ is. grind (arith, is)) answer
  writes_by old new (Err runs.Passed) answer = writes_answer old new 7 (λ is. grind (arith, is)) answer
  writes_by old new (Err runs.Unlawful) answer = writes_answer old new 8 (λ is. grind (arith, is)) answer
  writes_by old new (Err runs.WriteFault) cut = record {
    answered = λ none. absurd (none (inr (inr (inl refl))));
    cut_off = λ _. cut;
    unwritten = λ is. absurd (grind (arith, is));
  }
  writes_by old new (Err runs.Memory) same = writes_nothing old new 1 (inl refl) same
  writes_by old new (Err runs.ReadFault) none = absurd none
  writes_by old new (Err runs.TooLong) none = absurd none

  -- which is no fault of the source, and no input that is too long
  pub reads_by : (old new : O) (result : Result (Unit {0}) RunError) → Answers Due result view old new → NoneOf (3 ∷ 5 ∷ []) (status_of result)
  reads_by old new (Ok done) answer = λ is. grind (arith, is)
  reads_by old new (Err runs.BadInput) answer = λ is. grind (arith, is)
  reads_by old new (Err runs.Passed) answer = λ is. grind (arith, is)
  reads_by old new (Err runs.Unlawful) answer = λ is. grind (arith, is)
  reads_by old new (Err runs.WriteFault) answer = λ is. grind (arith, is)
  reads_by old new (Err runs.Memory) answer = λ is. grind (arith, is)
  reads_by old new (Err runs.ReadFault) none = absurd none
  reads_by old new (Err runs.TooLong) none = absurd none

-- where reading ended early
part_is : (error : InputError) → OneOf (1 ∷ 3 ∷ 5 ∷ []) (status_of (Err (cause_of_input error)))
part_is inputs.Memory = inl refl
part_is inputs.Fault = inr (inl refl)
part_is inputs.TooLong = inr (inr (inl refl))

-- ---- the words

not_usage : (result : Result (Unit {0}) RunError) → status_of result ≡ 2 → ⊥
not_usage (Ok done) is = omega (arith, is)
not_usage (Err runs.Memory) is = omega (arith, is)
not_usage (Err runs.ReadFault) is = omega (arith, is)
not_usage (Err runs.WriteFault) is = omega (arith, is)
not_usage (Err runs.TooLong) is = omega (arith, is)
not_usage (Err runs.BadInput) is = omega (arith, is)
not_usage (Err runs.Passed) is = omega (arith, is)
not_usage (Err runs.Unlawful) is = omega (arith, is)

no_form : (form : Option Form) (some : Form) → form ≡ Some some → form ≡ None → ⊥
no_form form some is none = cc

same_form : (form : Option Form) (one other : Form) → form ≡ Some one → form ≡ Some other → one ≡ other
same_form form one other is as_other = cc

module _ {S O : Type 0} (source_view : S → SourceView) (sink_view : O → SinkView) (words : List (List ℕ)) (slots : List (Option UnitFields)) where
  -- no defined form
  pub replayed_none : (source : S) (sink : O) → form_of words ≡ None → Replayed source_view sink_view words slots source source sink sink 2
  replayed_none source sink none = record {
    usage = (λ _. none, λ _. refl);
    untouched = λ _. (refl, refl);
    replays = λ form is. absurd (no_form _ form is none);
  }

  -- a form, with another status than 2
  replayed_form : (form : Form) (source source' : S) (sink sink' : O) (status : ℕ) → form_of words ≡ Some form → (status ≡ 2 → ⊥) → Replays form source_view sink_view slots source source' sink sink' status
      → Replayed source_view sink_view words slots source source' sink sink' status
  replayed_form form source source' sink sink' status is other replays = record {
    usage = (λ two. absurd (other two), λ none. absurd (no_form _ form is none));
    untouched = λ two. absurd (other two);
    replays = λ form' is'. subst (λ (f : Form). Replays f source_view sink_view slots source source' sink sink' status) (same_form _ form form' is is') replays;
  }

  reads_some : (limit : Option ℕ) (most : ℕ) (source source' : S) (input : List ℕ) (status : ℕ) → limit ≡ Some most → IsRead most (source_view source) (source_view source') input status → Reads limit source_view source source' input status
  reads_some limit most source source' input status is read = subst (λ (l : Option ℕ). Reads l source_view source source' input status) (sym is) read

  -- a form that reads an input
  replays_of : (form : Form) (most : ℕ) (source source' : S) (sink sink' : O) (result : Result (Unit {0}) RunError) → limit_of form ≡ Some most → Runs most (IsAnswer form slots) source_view sink_view source source' sink sink' result
      → Replays form source_view sink_view slots source source' sink sink' (status_of result)
  replays_of form most source source' sink sink' result limit (inl run) = record {
    input = run.input;
    read = reads_some (limit_of form) most source source' run.input _ limit (read_whole most _ _ run.input _ (reads_by (IsAnswer form slots run.input) sink_view sink sink' result run.answer) run.whole);
    written = writes_by (IsAnswer form slots run.input) sink_view sink sink' result run.answer;
  }
  replays_of form most source source' sink sink' result limit (inr (run, same)) =
      subst (Replays form source_view sink_view slots source source' sink sink') (ap status_of (sym run.cause)) (record {
        input = run.input;
        read = reads_some (limit_of form) most source source' run.input _ limit (read_part most run.error _ _ run.input run.part);
        written = writes_nothing (IsAnswer form slots run.input) sink_view sink sink' _ (part_is run.error) same;
      })

  pub replayed_of : (form : Form) (most : ℕ) (source source' : S) (sink sink' : O) (result : Result (Unit {0}) RunError) (status : ℕ) → form_of words ≡ Some form → limit_of form ≡ Some most → status ≡ status_of result
      → Runs most (IsAnswer form slots) source_view sink_view source source' sink sink' result → Replayed source_view sink_view words slots source source' sink sink' status
  replayed_of form most source source' sink sink' result status is limit status_is run =
      subst (Replayed source_view sink_view words slots source source' sink sink') (sym status_is) (replayed_form form source source' sink sink' (status_of result) is (not_usage result) (replays_of form most source source' sink sink' result limit run))

  -- a form that reads nothing
  replays_made : (form : Form) (source : S) (sink sink' : O) (result : Result (Unit {0}) RunError) → limit_of form ≡ None → Answers (IsAnswer form slots []) result sink_view sink sink' → Replays form source_view sink_view slots source source sink sink' (status_of result)
  replays_made form source sink sink' result limit answer = record {
    input = [];
    read = subst (λ (l : Option ℕ). Reads l source_view source source [] (status_of result)) (sym limit) (record { same = refl; none = refl; no_read = reads_by (IsAnswer form slots []) sink_view sink sink' result answer });
    written = writes_by (IsAnswer form slots []) sink_view sink sink' result answer;
  }

  pub made_of : (form : Form) (source : S) (sink sink' : O) (result : Result (Unit {0}) RunError) (status : ℕ) → form_of words ≡ Some form → limit_of form ≡ None → status ≡ status_of result → Answers (IsAnswer form slots []) result sink_view sink sink'
      → Replayed source_view sink_view words slots source source sink sink' status
  made_of form source sink sink' result status is limit status_is answer =
      subst (Replayed source_view sink_view words slots source source sink sink') (sym status_is) (replayed_form form source source sink sink' (status_of result) is (not_usage result) (replays_made form source sink sink' result limit answer))
