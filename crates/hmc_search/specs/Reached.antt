-- The states that the search reaches.
use Rattle.std.specs.Prelude.{◌≡◌, ℕ, true, false, List, [], ◌∷◌, Option, None}
use Rattle.hmc_codes.specs.Request.{RequestFields}
use Rattle.hmc_codes.specs.declared.answer.Answer.{Answer}
use Rattle.hmc_serial.specs.Machine.{State, retire}
use Rattle.hmc_entries.specs.declared.entry.Entry.{Entry}
use Rattle.hmc_entries.specs.declared.entry.Entry.TheVariants.{Gave, Took, Retired}
use Rattle.hmc_journal.specs.Setup.{Topology}
use Rattle.hmc_search.specs.Point.{Waiting, Ready, Point, start_at, IsNext, IsTaken, given, executed}

-- Entries, the newest first, lead from a state to another: each does its part, and between any two
-- of them requests are executed.
pub data Leads (topology : Topology) (from : Point) : List Entry → Point → Type 0 where
  Starts : Leads topology from [] from
  Gives : {log : List Entry} {point : Point} (host : ℕ) (tag : Option ℕ)
      (request : RequestFields) →
      Leads topology from log point →
      Leads topology from (Gave host tag false request ∷ log)
      (given point (record { host = host; tag = tag; request = request }))
  Poisons : {log : List Entry} {point : Point} (host : ℕ) (request : RequestFields) →
      Leads topology from log point →
      Leads topology from (Gave host None true request ∷ log) point
  Executes : {log : List Entry} {point : Point} (next : Waiting) (rest : List Waiting) →
      IsNext topology point.waiting next rest → Leads topology from log point →
      Leads topology from log (executed point next rest)
  Takes : {log : List Entry} {point : Point} (host tag : ℕ) (answer : Answer)
      (rest : List Ready) →
      IsTaken point.ready host tag answer rest → Leads topology from log point →
      Leads topology from (Took host tag answer ∷ log) (record point { ready = rest })
  Retires : {log : List Entry} {point : Point} (slot : ℕ) →
      Leads topology from log point →
      Leads topology from (Retired slot ∷ log)
      (record point { machine = retire point.machine slot })

-- the states that a log leads to from the machine's opening
abbrev pub Reaches : Topology → State → List Entry → Point → Type 0
Reaches topology opening log point = Leads topology (start_at opening) log point

-- no poisoned request of a log has a tag
abbrev pub IsUntagged : List Entry → Type 0
IsUntagged [] = Unit {0}
IsUntagged (Gave host tag true request ∷ log) = (tag ≡ None) × IsUntagged log
IsUntagged (_ ∷ log) = IsUntagged log
