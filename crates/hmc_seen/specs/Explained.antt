-- Which logs of hosts can be: executions explain them. Of a log and of a journal the newest entry
-- stands first.
use Rattle.std.specs.Prelude.{◌≡◌, ℕ, true, List, ◌++◌, map}
use Rattle.hmc_codes.specs.declared.unit.Unit.{Unit as RequestUnit}
use Rattle.hmc_serial.specs.Machine.{State}
use Rattle.hmc_entries.specs.declared.entry.Entry.{Entry}
use Rattle.hmc_journal.specs.Delivered.{IsPrefix, AllServed}
use Rattle.hmc_journal.specs.Filters.{given_to, executed_by, asked_under, replies_under, answers_under}
use Rattle.hmc_journal.specs.Serial.{IsSerial, state_after}
use Rattle.hmc_journal.specs.Setup.{Topology}
use Rattle.hmc_seen.specs.End.{End, memory_of, registers_of}
use Rattle.hmc_seen.specs.Seen.{seen_of}

-- What holds at each moment of an explanation.
pub record Explains (topology : Topology) (past : List Entry) : Type 0 where
  -- what a unit executed of a host are the first of the requests that the host gave to it, in the
  -- order given; none of them is poisoned
  pub requests : (host : ℕ) (unit : RequestUnit) →
      IsPrefix (executed_by host unit past) (given_to topology host unit past)
  -- under each tag of a host the requests executed are the first of those given
  pub replied : (host tag : ℕ) →
      IsPrefix (map (λ reply. reply.request) (replies_under host tag past))
      (asked_under host tag past)
  -- and the answers taken are the first of those to the requests executed
  pub answered : (host tag : ℕ) →
      IsPrefix (answers_under host tag past)
      (map (λ reply. reply.answer) (replies_under host tag past))

-- A journal explains a log: it is the log with executions put in. One at a time on a plain machine
-- these give every answer, and at each moment they are of requests that were given before.
pub record IsExplainedBy (topology : Topology) (opening : State) (log journal : List Entry) : Type 0
  where
    pub seen : seen_of journal ≡ log
    pub serial : IsSerial opening journal
    pub moments : (later past : List Entry) → journal ≡ later ++ past → Explains topology past

-- some journal explains the log
pub record IsExplained (topology : Topology) (opening : State) (log : List Entry) : Type 0 where
  pub journal : List Entry
  pub explains : IsExplainedBy topology opening log journal

-- The journal ends as hosts saw it: each request that isn't poisoned was executed, each with a tag
-- was answered, and the lines are those of the machine that the executions leave.
pub record EndsAs (topology : Topology) (opening : State) (end : End) (journal : List Entry)
    : Type 0 where
  pub served : AllServed topology journal
  pub memory : end.memory ≡ memory_of topology (state_after opening journal)
  pub registers : end.registers ≡ registers_of topology (state_after opening journal)

-- Some journal explains the log up to its end. While a packet is on its way the end asks nothing:
-- which requests were executed can't be told then.
pub record IsExplainedTo (topology : Topology) (opening : State) (log : List Entry) (end : End)
    : Type 0 where
  pub journal : List Entry
  pub explains : IsExplainedBy topology opening log journal
  pub ends : end.drained ≡ true → EndsAs topology opening end journal
