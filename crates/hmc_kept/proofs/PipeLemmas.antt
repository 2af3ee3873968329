-- Pipes after what happens to them.
use Rattle.std.proofs.Common.{◌≡◌, ◌<◌, ◌+◌, ◌==◌, ◌&&◌, ◌∙◌, ℕ, Bool, true, false, if◌then◌else◌, Option, Some, None, List, length, refl, sym, ap, ap₂, subst, eqb-true, eq-eqb}
use Rattle.std.specs.Prelude.{is_none, option_map, slice_set, slice_index_or}
use Rattle.std.proofs.lemmas.List.{length-set}
use Rattle.hmc_packet.specs.declared.outcome.Outcome.{Outcome}
use Rattle.hmc_packet.specs.declared.outcome.Outcome.TheVariants as outcomes
use Rattle.hmc_through.specs.Pipe.{PipeFields}
use Rattle.hmc_ends.specs.declared.link_outcome.LinkOutcome.{LinkOutcome}
use Rattle.hmc_ends.specs.declared.link_outcome.LinkOutcome.TheVariants as landings
use Rattle.hmc_journal.specs.Piped.{PipeFrom, while_gathered, with_landing, with_unlock, while_gathering}
use Rattle.hmc_kept.specs.LinkAnswers.{after_landing}
use Rattle.hmc_kept.specs.Pipes.{PipesHeld, AreCounted, forwarded_at, pipe_at, changed_pipe, after_begin, after_change, after_loss, MayLand, MayLose, is_whole_outcome}
use Rattle.hmc_kept.proofs.Elements.{default_same}

pub same_pipe : (a b : PipeFrom) → Some a ≡ Some b → a ≡ b
same_pipe a b is = cc

-- ---- as many directions as before

pub change_counted : (held : PipesHeld) (n direction : ℕ) (onto : Option ℕ) (goes : Option ℕ → Option ℕ) (changed : PipeFields → PipeFields) → AreCounted n held → AreCounted n (after_change onto goes changed direction held)
change_counted held n direction None goes changed is = is
change_counted held n direction (Some onto) goes changed is = record {
  forwarded = length-set held.forwarded direction (goes (Some onto)) ∙ is.forwarded;
  pipes = length-set held.pipes onto (option_map (changed_pipe changed) (pipe_at held onto)) ∙ is.pipes;
}

pub landing_counted : (held : PipesHeld) (direction n : ℕ) (landed : LinkOutcome) → AreCounted n held → AreCounted n (after_landing direction landed held)
landing_counted held direction n landings.Empty is = is
landing_counted held direction n (landings.Passed flit) is = is
landing_counted held direction n (landings.Came flit landed) is = change_counted held n direction (forwarded_at held direction) (while_gathered landed) (with_landing flit landed) is

pub loss_counted : (held : PipesHeld) (direction n : ℕ) → AreCounted n held → AreCounted n (after_loss direction held)
loss_counted held direction n is = change_counted held n direction (forwarded_at held direction) (λ onto. None) with_unlock is

pub begin_counted : (held : PipesHeld) (n onto : ℕ) (p : PipeFrom) → AreCounted n held → AreCounted n (after_begin onto p held)
begin_counted held n onto p is = record { forwarded = length-set held.forwarded p.from (Some onto) ∙ is.forwarded; pipes = length-set held.pipes onto (Some p) ∙ is.pipes }

-- ---- a landing by its outcome

pub none_gathered : (outcome : Outcome) → while_gathered outcome None ≡ None
none_gathered outcomes.Gathered = refl
none_gathered outcomes.Quiet = refl
none_gathered outcomes.Trained = refl
none_gathered outcomes.Accepted = refl
none_gathered outcomes.Poisoned = refl
none_gathered outcomes.Repeat = refl
none_gathered (outcomes.AbortedBad bad) = refl
none_gathered outcomes.AbortedOrder = refl
none_gathered (outcomes.Ran kind) = refl

-- ---- which pipes a change reaches

-- what a change does to a pipe, by whether its packet is gathered at that direction
changed_while : (direction : ℕ) (change : PipeFields → PipeFields) (p : PipeFrom) (test : Bool) → ((p.from == direction) && is_none p.pipe.good) ≡ test → while_gathering direction change p ≡ (if test then record p { pipe = change p.pipe } else p)
changed_while direction change p test is = ap (λ (t : Bool). if t then record p { pipe = change p.pipe } else p) is

pub while_here : (direction : ℕ) (change : PipeFields → PipeFields) (p : PipeFrom) → p.from ≡ direction → p.pipe.good ≡ None → while_gathering direction change p ≡ record p { pipe = change p.pipe }
while_here direction change p from unended =
    changed_while direction change p true (ap₂ (λ (a b : Bool). a && b) (eq-eqb p.from direction from) (ap (λ (g : Option Bool). is_none g) unended))

-- a pipe of another packet stays, and so does one whose gathering has ended
pub while_apart : (direction : ℕ) (change : PipeFields → PipeFields) (p : PipeFrom) → (p.from ≡ direction → p.pipe.good ≡ None → ⊥) → while_gathering direction change p ≡ p
while_apart direction change p apart = by_test (p.from == direction) p.pipe.good refl refl
  where
    by_test : (here : Bool) (good : Option Bool) → (p.from == direction) ≡ here → p.pipe.good ≡ good → while_gathering direction change p ≡ p
    by_test false good here unended = changed_while direction change p false (ap₂ (λ (a : Bool) (g : Option Bool). a && is_none g) here unended)
    by_test true (Some good) here unended = changed_while direction change p false (ap₂ (λ (a : Bool) (g : Option Bool). a && is_none g) here unended)
    by_test true None here unended = absurd (apart (eqb-true p.from direction here) unended)

-- ---- as the code finds them

pub forwarded_found : (held : PipesHeld) (forwarded : List (Option ℕ)) (pipes : List (Option PipeFrom)) (at direction : ℕ) (x : Option ℕ) → ◌≡◌ {A = PipesHeld} (record { forwarded = forwarded; pipes = pipes }) held → at ≡ direction → x ≡ slice_index_or forwarded at x → direction < length held.forwarded → x ≡ forwarded_at held direction
forwarded_found held forwarded pipes at direction x same at_is found there =
    found ∙ ap₂ (λ (l : List (Option ℕ)) (n : ℕ). slice_index_or l n x) (ap (λ (h : PipesHeld). h.forwarded) same) at_is ∙ default_same held.forwarded direction x None there

pub pipe_found : (held : PipesHeld) (forwarded : List (Option ℕ)) (pipes : List (Option PipeFrom)) (at onto : ℕ) (x : Option PipeFrom) → ◌≡◌ {A = PipesHeld} (record { forwarded = forwarded; pipes = pipes }) held → at ≡ onto → x ≡ slice_index_or pipes at x → onto < length held.pipes → x ≡ pipe_at held onto
pipe_found held forwarded pipes at onto x same at_is found there =
    found ∙ ap₂ (λ (l : List (Option PipeFrom)) (n : ℕ). slice_index_or l n x) (ap (λ (h : PipesHeld). h.pipes) same) at_is ∙ default_same held.pipes onto x None there

-- where no packet is forwarded nothing changes
pub unchanged : (held : PipesHeld) (direction : ℕ) (goes : Option ℕ → Option ℕ) (changed : PipeFields → PipeFields) → forwarded_at held direction ≡ None → held ≡ after_change (forwarded_at held direction) goes changed direction held
unchanged held direction goes changed none = ap (λ (o : Option ℕ). after_change o goes changed direction held) (sym none)

pub change_made : (held : PipesHeld) (forwarded : List (Option ℕ)) (pipes : List (Option PipeFrom)) (at direction to onto : ℕ) (next : Option ℕ) (pipe : Option PipeFrom) (goes : Option ℕ → Option ℕ) (changed : PipeFields → PipeFields) → ◌≡◌ {A = PipesHeld} (record { forwarded = forwarded; pipes = pipes }) held → at ≡ direction → to ≡ onto
    → forwarded_at held direction ≡ Some onto → next ≡ goes (Some onto) → pipe ≡ option_map (changed_pipe changed) (pipe_at held onto)
    → ◌≡◌ {A = PipesHeld} (record { forwarded = slice_set forwarded at next; pipes = slice_set pipes to pipe }) (after_change (forwarded_at held direction) goes changed direction held)
change_made held forwarded pipes at direction to onto next pipe goes changed same at_is to_is is next_is pipe_is =
    ap (λ (h : PipesHeld). record { forwarded = slice_set h.forwarded at next; pipes = slice_set h.pipes to pipe }) same
    ∙ ap₂ (λ (a b : ℕ). record { forwarded = slice_set held.forwarded a next; pipes = slice_set held.pipes b pipe }) at_is to_is
    ∙ ap₂ (λ (o : Option ℕ) (p : Option PipeFrom). record { forwarded = slice_set held.forwarded direction o; pipes = slice_set held.pipes onto p }) next_is pipe_is
    ∙ ap (λ (o : Option ℕ). after_change o goes changed direction held) (sym is)

-- what may land in a pipe, and what may be lost of one
pub may_land : (pipe : Option PipeFrom) (p : PipeFrom) (outcome : Outcome) → pipe ≡ Some p → p.pipe.good ≡ None → length p.pipe.came < p.pipe.flits → (is_whole_outcome outcome ≡ true → length p.pipe.came + 1 ≡ p.pipe.flits) → MayLand pipe outcome
may_land pipe p outcome is unended more last = subst (λ (o : Option PipeFrom). MayLand o outcome) (sym is) (unended, more, last)

pub may_lose : (pipe : Option PipeFrom) (p : PipeFrom) → pipe ≡ Some p → p.pipe.good ≡ None → MayLose pipe
may_lose pipe p is unended = subst MayLose (sym is) unended
