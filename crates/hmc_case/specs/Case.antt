-- The case that some bytes are, or their first fault.
use Rattle.std.specs.Prelude.{ℕ, List, length, Result, Ok, Err}
use Rattle.std.specs.List.{All}
use Rattle.hmc_schedule.specs.Plan.{IsStepOf, HasFlit}
use Rattle.hmc_schedule.specs.Schedule.{schedule_of}
use Rattle.hmc_schedule.specs.declared.step.Step.{Step}
use Rattle.hmc_script.specs.Items.{ItemFields, IsWithin, IsScript}
use Rattle.hmc_script.specs.Script.{script_of}
use Rattle.hmc_text.specs.Reading.{◌>>=◌}
use Rattle.hmc_case.specs.Net.{NetFields, IsNet, net_of}
use Rattle.hmc_case.specs.Parts.{table_in, parts_of}
use Rattle.hmc_case.specs.Plan.{plan_of}
use Rattle.hmc_case.specs.Reading.{Fault, in_section}
use Rattle.hmc_case.specs.declared.fault.CaseKind.{CaseKind}
use Rattle.hmc_case.specs.declared.fault.CaseKind.TheVariants as kinds
use Rattle.hmc_case.specs.declared.fault.Section.{Section}
use Rattle.hmc_case.specs.declared.fault.Section.TheVariants.{Toml, Top, Script, Schedule}

-- the fault is that of a line of this text
abbrev pub in_text : {A K : Type 0} → Section → (K → CaseKind) → Result A (ℕ × K) → Result A Fault
in_text section kind_of (Ok x) = Ok x
in_text section kind_of (Err fault) =
    Err (record { section = section; line = fault.0; kind = kind_of fault.1 })

-- a case: its cubes and links, its script and its schedule
pub record CaseFields : Type 0 where
  pub net : NetFields
  pub script : List ItemFields
  pub schedule : List Step

-- a case of these cubes and links, by the texts of its script, which comes first, and its schedule
abbrev pub case_with : NetFields → (script schedule : List ℕ) → Result CaseFields Fault
case_with net script_text schedule_text = do
  script ← in_text Script kinds.Script (script_of net.hosts (length net.cubes) script_text)
  schedule ← in_text Schedule kinds.Schedule (schedule_of (plan_of net) schedule_text)
  Ok (record { net = net; script = script; schedule = schedule })

-- The document comes first, then its keys, then the cubes and links, then the script, and the
-- schedule last.
unfoldable pub case_of : List ℕ → Result CaseFields Fault
case_of bytes = do
  table ← in_section Toml 0 (table_in bytes)
  parts ← in_section Top 0 (parts_of table)
  net ← net_of parts.profile parts.cubes parts.links
  case_with net parts.script parts.schedule

-- what every case keeps: each request is good, and of one of its hosts to one of its cubes; each
-- step names its parts, and each mask is as long as a flit
pub record IsCase (case : CaseFields) : Type 0 where
  pub net : IsNet case.net
  pub requests : IsScript case.script
  pub script : All (IsWithin case.net.hosts (length case.net.cubes)) case.script
  pub schedule : All (IsStepOf (plan_of case.net)) case.schedule
  pub masks : All HasFlit case.schedule
