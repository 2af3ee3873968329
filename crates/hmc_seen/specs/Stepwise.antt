-- The same of an explanation, entry by entry: which request a unit executes next, and which answer
-- a host takes next.
use Rattle.std.specs.Prelude.{ℕ, List, [], ◌∷◌, ◌++◌, map, Option, Some, None}
use Rattle.hmc_codes.specs.Request.{RequestFields}
use Rattle.hmc_entries.specs.declared.entry.Entry.{Entry}
use Rattle.hmc_entries.specs.declared.entry.Entry.TheVariants.{Took, Executed}
use Rattle.hmc_journal.specs.Delivered.{IsPrefix}
use Rattle.hmc_journal.specs.Filters.{given_to, executed_by, asked_under, replies_under, answers_under}
use Rattle.hmc_journal.specs.Setup.{Topology}

-- after those that are done, this is the next of all
abbrev pub IsNext : {X : Type 0} → (done : List X) → X → (all : List X) → Type 0
IsNext done next all = IsPrefix (done ++ next ∷ []) all

-- a request is the next that its host gave under its tag, if it has one
abbrev pub IsNextUnder : (host : ℕ) → Option ℕ → RequestFields → List Entry → Type 0
IsNextUnder host None request past = Unit {0}
IsNextUnder host (Some tag) request past =
    IsNext (map (λ reply. reply.request) (replies_under host tag past)) request
    (asked_under host tag past)

-- Each execution is of the next request that its host gave to its unit, and the next under its
-- tag. Each answer taken is that to the next request executed under its tag.
unfoldable pub IsStepwise : Topology → List Entry → Type 0
IsStepwise topology [] = Unit {0}
IsStepwise topology (Executed unit host tag request answer ∷ past) =
    IsNext (executed_by host unit past) (record { tag = tag; request = request })
    (given_to topology host unit past)
    × (IsNextUnder host tag request past × IsStepwise topology past)
IsStepwise topology (Took host tag answer ∷ past) =
    IsNext (answers_under host tag past) answer
    (map (λ reply. reply.answer) (replies_under host tag past))
    × IsStepwise topology past
IsStepwise topology (_ ∷ past) = IsStepwise topology past
