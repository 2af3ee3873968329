-- A case that grows: by one more step, or by one more request.
use Rattle.std.specs.Prelude.{◌≡◌, ◌==◌, ℕ, Bool, false, List, [], ◌∷◌, ◌++◌, None}
use Rattle.hmc_script.specs.Items.{ItemFields}
use Rattle.hmc_schedule.specs.declared.step.Step.{Step}
use Rattle.hmc_schedule.specs.declared.step.Step.TheVariants as steps
use Rattle.hmc_host.specs.Give.{next_item}
use Rattle.hmc_entries.specs.declared.outcome.Cause.{Cause}
use Rattle.hmc_entries.specs.declared.outcome.Cause.TheVariants as causes
use Rattle.hmc_entries.specs.declared.entry.Entry.{Entry}
use Rattle.hmc_entries.specs.declared.entry.Entry.TheVariants.{Idle}
use Rattle.hmc_journal.specs.Hosts.{host_of}
use Rattle.hmc_journal.specs.Setup.{Setup}

-- the same case, with this step after those of its schedule
abbrev pub with_step : Setup → Step → Setup
with_step setup step = record {
  topology = setup.topology;
  slots = setup.slots;
  script = setup.script;
  schedule = setup.schedule ++ step ∷ [];
}

-- the same case, with this request after those of its script
abbrev pub with_item : Setup → ItemFields → Setup
with_item setup item = record {
  topology = setup.topology;
  slots = setup.slots;
  script = setup.script ++ item ∷ [];
  schedule = setup.schedule;
}

-- the step is a give of this host
abbrev pub gives_to : ℕ → Step → Bool
gives_to host (steps.Give h) = host == h
gives_to host _ = false

-- the step did nothing since it is a give of this host, and no request was left
abbrev pub is_end_by : ℕ → Cause → Step → Bool
is_end_by host causes.Ended step = gives_to host step
is_end_by host _ step = false

-- the entry says that this host has given all of its requests: `idle give HOST ended`
abbrev pub is_end_of : ℕ → Entry → Bool
is_end_of host (Idle step cause) = is_end_by host cause step
is_end_of host _ = false

-- no entry says so: this host may be asked for more
unfoldable pub IsOpen : ℕ → List Entry → Type 0
IsOpen host [] = Unit {0}
IsOpen host (entry ∷ past) = (is_end_of host entry ≡ false) × IsOpen host past

-- the step is a give of this host, which has given all of its requests
pub record IsEndGive (setup : Setup) (past : List Entry) (step : Step) (host : ℕ) : Type 0 where
  pub gives : step ≡ steps.Give host
  pub none_left : next_item (host_of setup past host) ≡ None
