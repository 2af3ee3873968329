-- What calls return.
use Rattle.std.specs.Prelude.{ℕ}
use Rattle.hmc_net.specs.declared.went.Went.{Went}
use Rattle.hmc_net.specs.declared.went.Went.TheVariants.{Done, Idle, Passed}
use Rattle.hmc_session.specs.declared.refusal.NotTaken.{NotTaken}
use Rattle.hmc_session.specs.declared.refusal.NotTaken.TheVariants.{Unknown, Over, Waits}
use Rattle.hmc_session.specs.declared.refusal.NotAsked.{NotAsked}
use Rattle.hmc_session.specs.declared.refusal.NotAsked.TheVariants.{NoHost, NoCube, Finished, Full, Memory}

-- it is done
abbrev pub ok : ℕ
ok = 0

-- out of memory
abbrev pub memory : ℕ
memory = 1

-- the text, or the numbers, are none that are read here
abbrev pub bad : ℕ
bad = 6

-- it is done, and a landing passed
abbrev pub passed : ℕ
passed = 7

-- there is no such step, or part
abbrev pub none : ℕ
none = 8

-- the handle is closed
abbrev pub closed : ℕ
closed = 9

-- none may follow
abbrev pub over : ℕ
over = 11

-- there is no such host
abbrev pub no_host : ℕ
no_host = 12

-- a report is not that of its case
abbrev pub unlawful : ℕ
unlawful = 20

-- a step that was taken: whether its landing passed
abbrev pub taken_status : Went → ℕ
taken_status Passed = passed
taken_status Done = ok
taken_status (Idle cause) = ok

-- why a step wasn't taken
abbrev pub refused_status : NotTaken → ℕ
refused_status Unknown = none
refused_status Waits = 10
refused_status Over = over

-- why a host wasn't asked
abbrev pub asked_status : NotAsked → ℕ
asked_status Memory = memory
asked_status NoHost = no_host
asked_status NoCube = 13
asked_status Finished = 14
asked_status Full = 15
