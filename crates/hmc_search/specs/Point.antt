-- The states of the search.
use Rattle.std.specs.Prelude.{◌≡◌, ℕ, Bool, false, ◌==◌, ◌&&◌, List, [], ◌∷◌, ◌++◌, Some}
use Rattle.hmc_codes.specs.declared.answer.Answer.{Answer}
use Rattle.hmc_codes.specs.declared.unit.Unit.{Unit as RequestUnit}
use Rattle.hmc_serial.specs.Machine.{State, apply, answer_to}
pub use Rattle.hmc_search.specs.declared.waiting.Waiting.{Waiting}
pub use Rattle.hmc_search.specs.declared.waiting.Ready.{Ready}
use Rattle.hmc_journal.specs.Filters.{same_unit, same_tag}
use Rattle.hmc_journal.specs.Setup.{Topology, unit_in}

-- the machine, and both lists, the oldest first
pub record Point : Type 0 where
  pub machine : State
  pub waiting : List Waiting
  pub ready : List Ready

-- before the first entry
abbrev pub start_at : State → Point
start_at opening = record { machine = opening; waiting = []; ready = [] }

-- a request waits in the lane of its host and its unit
abbrev pub in_lane : Topology → (host : ℕ) → RequestUnit → Waiting → Bool
in_lane topology host unit waiting =
    (waiting.host == host) && same_unit (unit_in topology waiting.request) unit

-- a request has this tag of this host
abbrev pub under_tag : (host tag : ℕ) → Waiting → Bool
under_tag host tag waiting = (waiting.host == host) && same_tag waiting.tag tag

-- so has an answer
abbrev pub ready_under : (host tag : ℕ) → Ready → Bool
ready_under host tag ready = (ready.host == host) && same_tag ready.tag tag

-- no element passes the test
abbrev pub NonePasses : {X : Type 0} → (X → Bool) → List X → Type 0
NonePasses test [] = Unit {0}
NonePasses test (x ∷ xs) = (test x ≡ false) × NonePasses test xs

-- a request can be executed next, and these are left: none of its lane or of its tag is before it
pub record IsNext (topology : Topology) (waiting : List Waiting) (next : Waiting)
    (rest : List Waiting) : Type 0 where
  pub before : List Waiting
  pub after : List Waiting
  pub parts : waiting ≡ before ++ next ∷ after
  pub left : rest ≡ before ++ after
  pub lane : NonePasses (in_lane topology next.host (unit_in topology next.request)) before
  pub tag : (tag : ℕ) → next.tag ≡ Some tag → NonePasses (under_tag next.host tag) before

-- an answer can be taken next, and these are left: none of its tag is before it
pub record IsTaken (ready : List Ready) (host tag : ℕ) (answer : Answer) (rest : List Ready)
    : Type 0 where
  pub before : List Ready
  pub after : List Ready
  pub parts : ready ≡ before ++ record { host = host; tag = Some tag; answer = answer } ∷ after
  pub left : rest ≡ before ++ after
  pub none : NonePasses (ready_under host tag) before

-- a request was given
abbrev pub given : Point → Waiting → Point
given point waiting = record point { waiting = point.waiting ++ waiting ∷ [] }

-- a request was executed, and these are left
abbrev pub executed : Point → Waiting → (rest : List Waiting) → Point
executed point next rest = record {
  machine = apply point.machine next.request;
  waiting = rest;
  ready = point.ready ++ record {
    host = next.host;
    tag = next.tag;
    answer = answer_to point.machine next.request;
  } ∷ [];
}
