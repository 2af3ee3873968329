-- When a request that changes nothing can be executed at once.
use Rattle.std.specs.Prelude.{◌≡◌, ℕ, true, false, List, [], ◌∷◌, ◌++◌}
use Rattle.hmc_codes.specs.declared.answer.Answer.{Answer}
use Rattle.hmc_serial.specs.Machine.{apply, answer_to}
use Rattle.hmc_entries.specs.declared.entry.Entry.{Entry}
use Rattle.hmc_entries.specs.declared.entry.Entry.TheVariants.{Took}
use Rattle.hmc_journal.specs.Setup.{Topology}
use Rattle.hmc_search.specs.Reached.{Leads}
use Rattle.hmc_search.specs.Point.{Waiting, Point, under_tag, ready_under, NonePasses}

-- no answer under the tag of this request is taken
abbrev pub HasNoAnswer : Waiting → List Entry → Type 0
HasNoAnswer waiting [] = Unit {0}
HasNoAnswer waiting (Took host tag answer ∷ log) =
    (under_tag host tag waiting ≡ false) × HasNoAnswer waiting log
HasNoAnswer waiting (_ ∷ log) = HasNoAnswer waiting log

-- the first answer that a log takes under the tag of this request, if any, is this one
abbrev pub IsFirstAnswer : Waiting → Answer → List Entry → Type 0
IsFirstAnswer waiting answer log =
    (later earlier : List Entry) (host tag : ℕ) (taken : Answer) →
    log ≡ later ++ Took host tag taken ∷ earlier → under_tag host tag waiting ≡ true →
    HasNoAnswer waiting earlier → taken ≡ answer

-- A request that can be executed at once.
pub record IsEarly (topology : Topology) (point : Point) (next : Waiting) (log : List Entry)
    : Type 0 where
  -- it changes nothing, now or later
  pub pure : (past : List Entry) (later : Point) → Leads topology point past later →
      apply later.machine next.request ≡ later.machine
  -- no answer under its tag is ready
  pub alone : (host tag : ℕ) → under_tag host tag next ≡ true →
      NonePasses (ready_under host tag) point.ready
  -- the answer that it gives now is the one that the log takes
  pub answer : IsFirstAnswer next (answer_to point.machine next.request) log
