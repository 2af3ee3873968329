-- How the cause of reading that ended early becomes the cause of the run, and this the status.
use Rattle.std.specs.Prelude.{ℕ, Result, Ok, Err}
use Rattle.hmc_replay.specs.declared.input.InputError.{InputError}
use Rattle.hmc_replay.specs.declared.input.InputError.TheVariants as input
use Rattle.hmc_replay.specs.declared.run.RunError.{RunError}
use Rattle.hmc_replay.specs.declared.run.RunError.TheVariants.{Memory, ReadFault, WriteFault, TooLong, BadInput, Passed, Unlawful}

-- why reading the input ended early
abbrev pub cause_of_input : InputError → RunError
cause_of_input input.Memory = Memory
cause_of_input input.Fault = ReadFault
cause_of_input input.TooLong = TooLong

-- the status of a run
abbrev pub status_of : Result (Unit {0}) RunError → ℕ
status_of (Ok done) = 0
status_of (Err Memory) = 1
status_of (Err ReadFault) = 3
status_of (Err WriteFault) = 4
status_of (Err TooLong) = 5
status_of (Err BadInput) = 6
status_of (Err Passed) = 7
status_of (Err Unlawful) = 8
