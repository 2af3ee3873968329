-- The two texts of a tape.
use Rattle.std.specs.Prelude.{ℕ, List}
use Rattle.hmc_script.specs.Text.{script_text}
use Rattle.hmc_step_text.specs.Text.{schedule_text}
use Rattle.hmc_journal.specs.Setup.{Setup}
use Rattle.hmc_c.specs.declared.tape.TapeText.{TapeText}
use Rattle.hmc_c.specs.declared.tape.TapeText.TheVariants.{Schedule, Script}

-- the requests of the case, or its steps
abbrev pub tape_text : TapeText → Setup → List ℕ
tape_text Script setup = script_text setup.script
tape_text Schedule setup = schedule_text setup.schedule
