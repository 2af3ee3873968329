-- The drain bound of a case of one cube and one link.
use Rattle.std.specs.Prelude.{ℕ, ◌+◌, ◌*◌, List}
use Rattle.hmc_entries.specs.declared.entry.Entry.{Entry}
use Rattle.hmc_journal.specs.Network.{IsNetwork}
use Rattle.hmc_journal.specs.Setup.{Setup, Topology}
use Rattle.hmc_journal.specs.UnderWay.{under_way}
use Rattle.hmc_rounds.specs.Bound.{DrainsSettled, DrainsAny}
use Rattle.hmc_rounds.specs.Single.{IsSingle}

-- so many whole rounds drain what is under way after a journal
abbrev pub drain_bound : Topology → List Entry → ℕ
drain_bound topology past = 4000 + 2000 * (under_way topology past + 1)

-- From a settled link 2,000 whole rounds for each packet under way, and 2,000 more, leave the
-- journal drained; from any link 4,000 more.
abbrev pub Drains : Setup → Type 0
Drains setup = IsNetwork setup → IsSingle setup.topology → DrainsSettled setup × DrainsAny setup
