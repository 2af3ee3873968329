-- Each place of both lists is empty, and behind them is none.
use Rattle.std.proofs.Common.{◌≡◌, ◌∙◌, ℕ, zero, suc, Option, None, List, length, refl, ap}
use Rattle.std.specs.Prelude.{replicate, slice_index_or}
use Rattle.std.proofs.lemmas.List.{length-replicate}
use Rattle.hmc_journal.specs.Piped.{PipeFrom}
use Rattle.hmc_kept.proofs.pipes.Pipes.build.Goals as goal

-- nothing, of a type
abbrev the_none : (X : Type 0) → Option X
the_none X = None

none_at : {X : Type 0} (n k : ℕ) → slice_index_or (replicate n (the_none X)) k None ≡ None
none_at zero k = refl
none_at (suc n) zero = refl
none_at (suc n) (suc k) = none_at n k

pub returns-clause-counted : goal.returns-clause-counted
returns-clause-counted c = record {
  forwarded = ap (λ (l : List (Option ℕ)). length l) c.in_ok-forwarded.ensures ∙ length-replicate c.args.directions None;
  pipes = ap (λ (l : List (Option PipeFrom)). length l) c.in_ok-pipes.ensures ∙ length-replicate c.args.directions None;
}

pub returns-clause-unused : goal.returns-clause-unused
returns-clause-unused c = record {
  forwarded = λ k. ap (λ (l : List (Option ℕ)). slice_index_or l k None) c.in_ok-forwarded.ensures ∙ none_at c.args.directions k;
  pipes = λ k. ap (λ (l : List (Option PipeFrom)). slice_index_or l k None) c.in_ok-pipes.ensures ∙ none_at c.args.directions k;
}
