-- A state of the search stands for a journal.
use Rattle.std.specs.Prelude.{◌≡◌, ℕ, Bool, true, false, List, [], ◌∷◌, ◌++◌, map}
use Rattle.hmc_codes.specs.declared.unit.Unit.{Unit as RequestUnit}
use Rattle.hmc_serial.specs.Machine.{State}
use Rattle.hmc_entries.specs.declared.entry.Entry.{Entry}
use Rattle.hmc_journal.specs.Filters.{TaggedRequest, given_to, executed_by, asked_under, replies_under, answers_under}
use Rattle.hmc_journal.specs.Serial.{state_after}
use Rattle.hmc_journal.specs.Setup.{Topology}
use Rattle.hmc_search.specs.Point.{Waiting, Point, in_lane, under_tag, ready_under}

-- a list with one more at its front where a test holds
abbrev pub front_if : {X : Type 0} → Bool → X → List X → List X
front_if true x xs = x ∷ xs
front_if false x xs = xs

-- what is shown of those that pass a test
unfoldable pub picked : {X Y : Type 0} → (X → Bool) → (X → Y) → List X → List Y
picked test show [] = []
picked test show (x ∷ xs) = front_if (test x) (show x) (picked test show xs)

-- a request with its tag
abbrev pub tagged : Waiting → TaggedRequest
tagged waiting = record { tag = waiting.tag; request = waiting.request }

-- its machine is the journal's, and what it holds is what the journal has left open
pub record Stands (topology : Topology) (opening : State) (point : Point) (journal : List Entry)
    : Type 0 where
  pub machine : point.machine ≡ state_after opening journal
  pub lanes : (host : ℕ) (unit : RequestUnit) → given_to topology host unit journal
      ≡ executed_by host unit journal ++ picked (in_lane topology host unit) tagged point.waiting
  pub tags : (host tag : ℕ) → asked_under host tag journal
      ≡ map (λ reply. reply.request) (replies_under host tag journal)
      ++ picked (under_tag host tag) (λ waiting. waiting.request) point.waiting
  pub answers : (host tag : ℕ) → map (λ reply. reply.answer) (replies_under host tag journal)
      ≡ answers_under host tag journal
      ++ picked (ready_under host tag) (λ ready. ready.answer) point.ready
