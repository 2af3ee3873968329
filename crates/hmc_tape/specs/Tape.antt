-- A session with a tape: two texts, a script and a schedule, of what the session did.
use Rattle.std.specs.Prelude.{◌≡◌, ℕ, List, Option}
use Rattle.std.specs.List.{All}
use Rattle.hmc_units.specs.Unit.{UnitFields}
use Rattle.hmc_script.specs.Text.{script_text}
use Rattle.hmc_case.specs.Case.{CaseFields}
use Rattle.hmc_case.specs.Net.{NetFields, net_with}
use Rattle.hmc_case.specs.Plan.{plan_of}
use Rattle.hmc_entries.specs.declared.entry.Entry.{Entry}
use Rattle.hmc_step_text.specs.Laws.{IsPrintable}
use Rattle.hmc_step_text.specs.Text.{schedule_text}
use Rattle.hmc_journal.specs.Setup.{Setup}
use Rattle.hmc_session.specs.Session.{SessionFields, SessionParts, StandsIn, session_of}

-- a session, the script of its requests and the schedule of its steps
pub record TapedFields : Type 0 where
  pub session : SessionFields
  pub script : List ℕ
  pub schedule : List ℕ

-- the same with the bench itself
pub record TapedParts (B : Type 0) : Type 0 where
  pub session : SessionParts B
  pub script : List ℕ
  pub schedule : List ℕ

-- the slots of a bench are those that its type shows
abbrev pub taped_of : {B : Type 0} → (slots : B → List (Option UnitFields)) → TapedParts B →
    TapedFields
taped_of slots parts = record {
  session = session_of slots parts.session;
  script = parts.script;
  schedule = parts.schedule;
}

-- the cubes and links of a setup, and its hosts, which are those that the links join
abbrev pub net_in : Setup → NetFields
net_in setup = net_with setup.topology.cubes setup.topology.links

-- the case of a setup: all but its logic units
abbrev pub case_in : Setup → CaseFields
case_in setup = record {
  net = net_in setup;
  script = setup.script;
  schedule = setup.schedule;
}

-- The session stands for the case and its journal, and the tape has the requests and the steps of
-- this case, printed. Its plan is that of the case.
pub record IsTapeOf (taped : TapedFields) (setup : Setup) (past : List Entry) : Type 0 where
  pub stands : StandsIn taped.session setup past
  pub plan : taped.session.plan ≡ plan_of (net_in setup)
  pub script : taped.script ≡ script_text setup.script
  pub schedule : taped.schedule ≡ schedule_text setup.schedule
  pub steps : All (IsPrintable taped.session.plan) setup.schedule
