-- What is due is the answer, unless memory runs out or a fault comes.
use Rattle.std.proofs.Common.{inl, inr, ◌≡◌, ◌≤◌, ◌<◌, ◌⊎◌, ◌+◌, ◌∙◌, ℕ, zero, suc, List, [], ◌∷◌, length, Option, None, Some, IfSome, refl, ap, subst, arith, length-append}
use Rattle.std.specs.Io.KnownBytes.{Consumes}
use Rattle.std.proofs.KnownBytes.{Consumes-whole}
use Rattle.hmc_outside.specs.Views.{SourceView, SinkView}
use Rattle.hmc_units.specs.Unit.{UnitFields}
use Rattle.hmc_replay.specs.Answer.{limit_of, IsAnswer}
use Rattle.hmc_replay.specs.Complete.{IsComplete}
use Rattle.hmc_replay.specs.Top.{OneOf, NoneOf, IsRead, ReadsNothing, Reads, Writes, Replays}
use Rattle.hmc_replay.specs.declared.form.Form.{Form}
use Rattle.hmc_replay.proofs.OneAnswer.{answer_is_one}

-- ---- a number is one of these or none of them

suc_same : (a b : ℕ) → (a ≡ b) ⊎ (a ≡ b → ⊥) → (suc a ≡ suc b) ⊎ (suc a ≡ suc b → ⊥)
suc_same a b (inl is) = inl (ap (λ (k : ℕ). suc k) is)
suc_same a b (inr other) = inr (λ is. other (omega (arith, is)))

same_or_other : (a b : ℕ) → (a ≡ b) ⊎ (a ≡ b → ⊥)
same_or_other zero zero = inl refl
same_or_other zero (suc b) = inr (λ is. omega (arith, is))
same_or_other (suc a) zero = inr (λ is. omega (arith, is))
same_or_other (suc a) (suc b) = suc_same a b (same_or_other a b)

neither : (m : ℕ) (ms : List ℕ) (n : ℕ) → (n ≡ m → ⊥) → NoneOf ms n → OneOf (m ∷ ms) n → ⊥
neither m ms n other none (inl is) = other is
neither m ms n other none (inr one) = none one

first_or_rest : (m : ℕ) (ms : List ℕ) (n : ℕ) → (n ≡ m) ⊎ (n ≡ m → ⊥) → OneOf ms n ⊎ NoneOf ms n → OneOf (m ∷ ms) n ⊎ NoneOf (m ∷ ms) n
first_or_rest m ms n (inl is) rest = inl (inl is)
first_or_rest m ms n (inr other) (inl one) = inl (inr one)
first_or_rest m ms n (inr other) (inr none) = inr (neither m ms n other none)

pub one_or_none : (ms : List ℕ) (n : ℕ) → OneOf ms n ⊎ NoneOf ms n
one_or_none [] n = inr (λ none. none)
one_or_none (m ∷ ms) n = first_or_rest m ms n (same_or_other n m) (one_or_none ms n)

-- ---- what was read, against what there was

-- more bytes were read than an input may have
long_some : (left left' : Option (List ℕ)) (input : List ℕ) (P : List ℕ → Type 0) → Consumes left left' input → ((all : List ℕ) → length input ≤ length all → P all) → IfSome left P
long_some None left' input P consumed p = tt
long_some (Some all) None input P consumed p = absurd consumed
long_some (Some all) (Some rest) input P consumed p =
    let whole : length all ≡ length input + length rest = ap length consumed ∙ length-append input rest in
    p all (omega (arith, whole))

always : (shown : Option (List ℕ)) (P : List ℕ → Type 0) → ((x : List ℕ) → P x) → IfSome shown P
always None P p = tt
always (Some x) P p = p x

-- ---- a form that reads an input

module _ {O : Type 0} (form : Form) (slots : List (Option UnitFields)) (most : ℕ) (source source' : SourceView) (input : List ℕ) (sink_view : O → SinkView) (sink sink' : O) (status : ℕ)
    (read : IsRead most source source' input status) (written : Writes (IsAnswer form slots input) sink_view sink sink' status) where
  abbrev Completes : List ℕ → Type 0
  Completes all = length all ≤ most → (due : ℕ) (lines : List (List ℕ)) → IsAnswer form slots all due lines → OneOf (due ∷ 1 ∷ 3 ∷ 4 ∷ []) status

  by_status : OneOf (1 ∷ 3 ∷ 4 ∷ 5 ∷ []) status ⊎ NoneOf (1 ∷ 3 ∷ 4 ∷ 5 ∷ []) status → IfSome source.left Completes
  by_status (inl (inl is)) = always source.left Completes (λ all few due lines answer. inr (inl is))
  by_status (inl (inr (inl is))) = always source.left Completes (λ all few due lines answer. inr (inr (inl is)))
  by_status (inl (inr (inr (inl is)))) = always source.left Completes (λ all few due lines answer. inr (inr (inr (inl is))))
  by_status (inl (inr (inr (inr (inl is))))) =
      long_some source.left source'.left input Completes read.reading.consumed (λ all more few due lines answer. absurd (omega (arith, more, few, (read.too_long is).0)))
  by_status (inl (inr (inr (inr (inr none))))) = absurd none
  by_status (inr none) =
      let whole = read.whole (λ one. none (among status one)) in
      let answered = written.answered none in
      Consumes-whole source.left source'.left input Completes read.reading.consumed whole.ended
      (λ few due lines answer. inl (answer_is_one form slots input status due answered.lines lines answered.due answer).0)
    where
      among : (n : ℕ) → OneOf (1 ∷ 3 ∷ 5 ∷ []) n → OneOf (1 ∷ 3 ∷ 4 ∷ 5 ∷ []) n
      among n (inl is) = inl is
      among n (inr (inl is)) = inr (inl is)
      among n (inr (inr (inl is))) = inr (inr (inr (inl is)))
      among n (inr (inr (inr none))) = absurd none

  abbrev Excess : List ℕ → Type 0
  Excess all = most < length all → OneOf (5 ∷ 1 ∷ 3 ∷ []) status

  by_excess : OneOf (1 ∷ 3 ∷ 5 ∷ []) status ⊎ NoneOf (1 ∷ 3 ∷ 5 ∷ []) status → IfSome source.left Excess
  by_excess (inl (inl is)) = always source.left Excess (λ all more. inr (inl is))
  by_excess (inl (inr (inl is))) = always source.left Excess (λ all more. inr (inr (inl is)))
  by_excess (inl (inr (inr (inl is)))) = always source.left Excess (λ all more. inl is)
  by_excess (inl (inr (inr (inr none)))) = absurd none
  by_excess (inr none) =
      let whole = read.whole none in
      Consumes-whole source.left source'.left input Excess read.reading.consumed whole.ended (λ more. absurd (omega (arith, more, whole.few)))

module _ {S O : Type 0} (form : Form) (source_view : S → SourceView) (sink_view : O → SinkView) (slots : List (Option UnitFields)) (source source' : S) (sink sink' : O) (status : ℕ) where
  read_some : (limit : Option ℕ) (most : ℕ) (input : List ℕ) → limit ≡ Some most → Reads limit source_view source source' input status → IsRead most (source_view source) (source_view source') input status
  read_some limit most input is reads = subst (λ (l : Option ℕ). Reads l source_view source source' input status) is reads

  read_none : (limit : Option ℕ) (input : List ℕ) → limit ≡ None → Reads limit source_view source source' input status → ReadsNothing source source' input status
  read_none limit input is reads = subst (λ (l : Option ℕ). Reads l source_view source source' input status) is reads

  -- Where the source shows an input that is not too long, the status is that of its answer, unless
  -- memory runs out (1) or a fault of the source (3) or of the sink (4) comes first.
  pub complete : (most : ℕ) → limit_of form ≡ Some most → Replays form source_view sink_view slots source source' sink sink' status
      → IfSome (source_view source).left (λ all. length all ≤ most → (due : ℕ) (lines : List (List ℕ)) → IsAnswer form slots all due lines → OneOf (due ∷ 1 ∷ 3 ∷ 4 ∷ []) status)
  complete most is r =
      by_status form slots most (source_view source) (source_view source') r.input sink_view sink sink' status (read_some (limit_of form) most r.input is r.read) r.written (one_or_none (1 ∷ 3 ∷ 4 ∷ 5 ∷ []) status)

  -- Where it is too long, the status is 5, unless memory runs out or the source fails first.
  pub excess : (most : ℕ) → limit_of form ≡ Some most → Replays form source_view sink_view slots source source' sink sink' status → IfSome (source_view source).left (λ all. most < length all → OneOf (5 ∷ 1 ∷ 3 ∷ []) status)
  excess most is r =
      by_excess form slots most (source_view source) (source_view source') r.input sink_view sink sink' status (read_some (limit_of form) most r.input is r.read) r.written (one_or_none (1 ∷ 3 ∷ 5 ∷ []) status)

  -- A form that reads nothing ends with the status of its answer, unless memory runs out or the sink
  -- fails first.
  made_by : (input : List ℕ) (due : ℕ) (lines : List (List ℕ)) → input ≡ [] → ReadsNothing source source' input status → Writes (IsAnswer form slots input) sink_view sink sink' status → IsAnswer form slots [] due lines
      → OneOf (1 ∷ 3 ∷ 4 ∷ 5 ∷ []) status ⊎ NoneOf (1 ∷ 3 ∷ 4 ∷ 5 ∷ []) status → OneOf (due ∷ 1 ∷ 4 ∷ []) status
  made_by input due lines none read written answer (inl (inl is)) = inr (inl is)
  made_by input due lines none read written answer (inl (inr (inl is))) = absurd (read.no_read (inl is))
  made_by input due lines none read written answer (inl (inr (inr (inl is)))) = inr (inr (inl is))
  made_by input due lines none read written answer (inl (inr (inr (inr (inl is))))) = absurd (read.no_read (inr (inl is)))
  made_by input due lines none read written answer (inl (inr (inr (inr (inr nothing))))) = absurd nothing
  made_by input due lines none read written answer (inr other) =
      let answered = written.answered other in
      let here = subst (λ (i : List ℕ). IsAnswer form slots i status answered.lines) none answered.due in
      inl (answer_is_one form slots [] status due answered.lines lines here answer).0

  pub made_complete : limit_of form ≡ None → Replays form source_view sink_view slots source source' sink sink' status → (due : ℕ) (lines : List (List ℕ)) → IsAnswer form slots [] due lines → OneOf (due ∷ 1 ∷ 4 ∷ []) status
  made_complete is r due lines answer =
      let read = read_none (limit_of form) r.input is r.read in made_by r.input due lines read.none read r.written answer (one_or_none (1 ∷ 3 ∷ 4 ∷ 5 ∷ []) status)

  -- all of it
  pub completes : Replays form source_view sink_view slots source source' sink sink' status → IsComplete form slots (source_view source).left status
  completes r = record {
    answered = λ most is. complete most is r;
    too_long = λ most is. excess most is r;
    made = λ is due lines answer. made_complete is r due lines answer;
  }
