-- What is next in a walk, by its place.
use Rattle.std.proofs.Common.{◌≡◌, ◌∙◌, ℕ, Bool, Some, None, List, get_or, sym, ap}
use Rattle.std.specs.Prelude.{◌&&◌}
use Rattle.std.specs.List.{position, remove}
use Rattle.hmc_codes.specs.declared.answer.Answer.{Answer}
use Rattle.hmc_codes.specs.declared.answer.Answer.TheVariants.{Silent}
use Rattle.hmc_codes.specs.declared.unit.Unit.{Unit as RequestUnit}
use Rattle.hmc_journal.specs.Filters.{same_unit}
use Rattle.hmc_journal.specs.Setup.{Topology, unit_in}
use Rattle.hmc_search.specs.declared.waiting.Ready.{Ready}
use Rattle.hmc_search.specs.declared.waiting.Waiting.{Waiting}
use Rattle.hmc_search.specs.Kept.{same_answer}
use Rattle.hmc_search.specs.Point.{ready_under}
use Rattle.hmc_judge.specs.Picked.{Picked}
use Rattle.hmc_judge.specs.Walk.{is_before, left_by, left_if, left_ready, left_waiting, same_waiting, some_if}
use Rattle.hmc_judge.proofs.Firsts.{at_first, at_none}

module _ (topology : Topology) (unit : RequestUnit) (next : Waiting) (waiting : List Waiting) where
  pub none_to_execute : position (is_before topology next) waiting ≡ None →
      left_waiting topology unit next waiting ≡ None
  unfolding left_waiting
  none_to_execute is = ap (left_by topology unit next)
      (at_none (is_before topology next) waiting next is)

  pub execute_at : (n : ℕ) (first : Waiting) (fits : Bool) →
      position (is_before topology next) waiting ≡ Some n → first ≡ get_or waiting n first →
      fits ≡ (same_waiting next first && same_unit (unit_in topology next.request) unit) →
      left_waiting topology unit next waiting ≡ some_if fits (remove waiting n)
  unfolding left_waiting
  execute_at n first fits is there e =
      ap (left_by topology unit next) (at_first (is_before topology next) waiting n first is)
      ∙ ap (λ (w : Waiting). some_if (same_waiting next w && same_unit (unit_in topology next.request) unit)
      (remove waiting n)) (sym there)
      ∙ ap (λ b. some_if b (remove waiting n)) (sym e)

module _ (host tag : ℕ) (answer : Answer) (ready : List Ready) where
  no_ready : Ready
  no_ready = record { host = 0; tag = None; answer = Silent }

  pub none_to_take : position (ready_under host tag) ready ≡ None →
      left_ready host tag answer ready ≡ None
  unfolding left_ready
  none_to_take is = ap (left_if answer) (at_none (ready_under host tag) ready no_ready is)

  pub take_at : (n : ℕ) (first : Ready) (fits : Bool) → position (ready_under host tag) ready ≡ Some n →
      fits ≡ same_answer (get_or ready n first).answer answer →
      left_ready host tag answer ready ≡ some_if fits (remove ready n)
  unfolding left_ready
  take_at n first fits is e =
      ap (left_if answer) (at_first (ready_under host tag) ready n first is)
      ∙ ap (λ b. some_if b (remove ready n)) (sym e)
