-- What a session keeps, and which case and which journal it stands for.
use Rattle.std.specs.Prelude.{◌≡◌, ◌<◌, ℕ, Bool, true, false, not, ◌&&◌, List, [], ◌∷◌, length, slice_index_or, Option}
use Rattle.hmc_codes.specs.Limits.{most_asked, most_hosts}
use Rattle.hmc_units.specs.Unit.{UnitFields}
use Rattle.hmc_schedule.specs.declared.step.Step.{Step}
use Rattle.hmc_schedule.specs.declared.step.Step.TheVariants as steps
use Rattle.hmc_schedule.specs.Plan.{PlanFields, IsStepOf, HasFlit}
use Rattle.hmc_host.specs.Host.{HostFields, asked_count}
use Rattle.hmc_host.specs.Give.{is_at_end}
use Rattle.hmc_case.specs.Case.{CaseFields}
use Rattle.hmc_entries.specs.declared.entry.Entry.{Entry}
use Rattle.hmc_journal.specs.Lawful.{has_passed}
use Rattle.hmc_journal.specs.Setup.{Setup}
use Rattle.hmc_growing.specs.Growing.{IsEndGive, IsOpen}
use Rattle.hmc_kept.specs.Hosts.{host_in}
use Rattle.hmc_wiring.specs.Ready.{IsStepFor}
use Rattle.hmc_net.specs.NetState.{NetState, NetParts, net_of}
use Rattle.hmc_net.specs.Stands.{StandsFor}

-- its network, the parts that its steps may name, which hosts are finished, how many steps were
-- taken, and whether a landing passed
pub record SessionFields : Type 0 where
  pub net : NetState
  pub plan : PlanFields
  pub finished : List Bool
  pub taken : ℕ
  pub passed : Bool

-- the same with the bench itself, as a session keeps it
pub record SessionParts (B : Type 0) : Type 0 where
  pub network : NetParts B
  pub plan : PlanFields
  pub finished : List Bool
  pub taken : ℕ
  pub passed : Bool

-- the slots of a bench are those that its type shows
abbrev pub session_of : {B : Type 0} → (slots : B → List (Option UnitFields)) → SessionParts B →
    SessionFields
session_of slots parts = record {
  net = net_of slots parts.network;
  plan = parts.plan;
  finished = parts.finished;
  taken = parts.taken;
  passed = parts.passed;
}

-- a host of which nothing more is asked; one that isn't there is finished
abbrev pub is_finished : SessionFields → (host : ℕ) → Bool
is_finished session host = slice_index_or session.finished host true

-- the entry is the latest of the journal; of an empty one nothing is said
abbrev pub IsLast : Entry → List Entry → Type 0
IsLast last [] = Unit {0}
IsLast last (entry ∷ past) = last ≡ entry

-- The case so far has the requests that its hosts were asked for, and the steps that were taken;
-- its journal has an entry for each of them. No entry says that a host has given all which isn't
-- finished.
pub record StandsIn (session : SessionFields) (setup : Setup) (past : List Entry) : Type 0 where
  pub stands : StandsFor session.net setup past
  pub all : length past ≡ length setup.schedule
  pub taken : session.taken ≡ length past
  pub passed : session.passed ≡ has_passed past
  pub last : IsLast session.net.last past
  pub free : (host : ℕ) → is_finished session host ≡ false → IsOpen host past

-- what every session keeps: it stands for some case and its journal, and the steps that its plan
-- has are steps of its network
pub record IsSession (session : SessionFields) : Type 0 where
  pub parts : (step : Step) → IsStepOf session.plan step → HasFlit step →
      IsStepFor session.net.topology step
  pub sized : length session.finished ≡ most_hosts
  pub case : Setup
  pub journal : List Entry
  pub stands : StandsIn session case journal

-- a give of a host that has given all of its requests and isn't finished
abbrev pub waits_in : (finished : List Bool) → (hosts : List HostFields) → Step → Bool
waits_in finished hosts (steps.Give host) =
    not (slice_index_or finished host true) && is_at_end (host_in hosts host)
waits_in finished hosts _ = false

abbrev pub waits : SessionFields → Step → Bool
waits session step = waits_in session.finished session.net.hosts step

-- the host of a give is one of so many
abbrev pub IsHostOf : (hosts : ℕ) → Step → Type 0
IsHostOf hosts (steps.Give host) = host < hosts
IsHostOf hosts _ = Unit {0}

-- a step waits: it is a give of a host that isn't finished, and no request of the host is left
pub record IsWaiting (finished : List Bool) (setup : Setup) (past : List Entry) (step : Step)
    : Type 0 where
  pub host : ℕ
  pub free : slice_index_or finished host true ≡ false
  pub ends : IsEndGive setup past step host

-- a host may be asked for a request to a cube: both are there, the host isn't finished, and it was
-- asked for fewer requests than it may be
pub record MayAsk (session : SessionFields) (host cube : ℕ) : Type 0 where
  pub some_host : host < session.plan.hosts
  pub some_cube : cube < length session.plan.cubes
  pub free : is_finished session host ≡ false
  pub room : asked_count (host_in session.net.hosts host) < most_asked

-- a case without its steps
abbrev pub begun : CaseFields → List (Option UnitFields) → Setup
begun case slots = record {
  topology = record { cubes = case.net.cubes; links = case.net.links };
  slots = slots;
  script = case.script;
  schedule = [];
}
