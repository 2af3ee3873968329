-- What a segment holds where it holds rounds: those at a place of the list of rounds.
use Rattle.std.proofs.Common.{◌≡◌, ◌∙◌, ◌<◌, ℕ, List, [], length, slice_get, slice_index_or, Option, Some, None, refl, sym, ap, subst}
use Rattle.std.specs.Option.{option_map_or}
use Rattle.std.specs.Prelude.{IsSomeAnd}
use Rattle.std.proofs.lemmas.Option.{slice_get_within, get_or_from_slice_get}
use Rattle.hmc_schedule.specs.declared.step.Step.{Step}
use Rattle.hmc_schedule.specs.declared.written.Held.{Held}
use Rattle.hmc_schedule.specs.declared.written.Held.TheVariants as holds
use Rattle.hmc_schedule.specs.declared.written.Rounds.{Rounds}
use Rattle.hmc_schedule.specs.declared.written.Stretch.TheVariants.{Many}
use Rattle.hmc_schedule.specs.Written.{kept_of, held_steps, stretch_of, IsHeld, IsRounds}

pub record AreRounds (kept : List Step) (many : List Rounds) (held : Held) (place : ℕ) (rounds : Rounds) : Type 0 where
  pub within : place < length many
  pub found : slice_get many place ≡ Some rounds
  pub are : IsRounds kept rounds
  pub steps : held_steps (kept_of kept many) held ≡ stretch_of kept (Many rounds)

some_rounds : (o : Option Rounds) (P : Rounds → Type 0) → IsSomeAnd o P → (r : Rounds) × (o ≡ Some r) × P r
some_rounds None P is = absurd is
some_rounds (Some r) P is = (r, refl, is)

pub held_rounds : (kept : List Step) (many : List Rounds) (held : Held) (place : ℕ) (d : Rounds) → held ≡ holds.Many place → IsHeld (kept_of kept many) held → AreRounds kept many held place (slice_index_or many place d)
held_rounds kept many held place d held_is is =
    let some = some_rounds (slice_get many place) (IsRounds kept) (subst (IsHeld (kept_of kept many)) held_is is) in
    let read : slice_index_or many place d ≡ some.0 = get_or_from_slice_get many place some.0 d some.1 in
    record {
      within = slice_get_within many place some.0 some.1;
      found = some.1 ∙ ap (λ (r : Rounds). Some r) (sym read);
      are = subst (IsRounds kept) (sym read) some.2;
      steps = ap (held_steps (kept_of kept many)) held_is
          ∙ ap (λ (o : Option Rounds). option_map_or (λ (r : Rounds). stretch_of kept (Many r)) o []) (some.1 ∙ ap (λ (r : Rounds). Some r) (sym read));
    }

pub held_within : (kept : List Step) (many : List Rounds) (held : Held) (place : ℕ) → held ≡ holds.Many place → IsHeld (kept_of kept many) held → place < length many
held_within kept many held place held_is is =
    let some = some_rounds (slice_get many place) (IsRounds kept) (subst (IsHeld (kept_of kept many)) held_is is) in
    slice_get_within many place some.0 some.1
