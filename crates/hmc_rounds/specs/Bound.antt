-- The drain bound on journals.
use Rattle.std.specs.Prelude.{◌≡◌, ◌≤◌, ◌+◌, ◌*◌, ℕ, true, List, ◌++◌}
use Rattle.hmc_entries.specs.declared.entry.Entry.{Entry}
use Rattle.hmc_journal.specs.Drained.{is_drained}
use Rattle.hmc_journal.specs.Network.{IsNetwork}
use Rattle.hmc_journal.specs.Setup.{Setup}
use Rattle.hmc_send.specs.LinkEntries.{LinkEntry}
use Rattle.hmc_link_state.specs.Steps.{Doing}
use Rattle.hmc_journal.specs.Links.{sizes_on}
use Rattle.hmc_rounds.specs.LinkPart.{LinkPart, LinkRounds, requests_of}
use Rattle.hmc_rounds.specs.Single.{IsSingle}
use Rattle.hmc_rounds.specs.Rounds.{RoundsFollow}
use Rattle.hmc_journal.specs.Settled.{AreSettled}
use Rattle.hmc_journal.specs.UnderWay.{under_way}

-- so many rounds more, after any journal of which P holds
abbrev pub DrainsJournal : Setup → (more : ℕ) → (List Entry → Type 0) → Type 0
DrainsJournal setup more P =
    (past later : List Entry) (n : ℕ) → P past → RoundsFollow setup past later n →
    more + 2000 * (under_way setup.topology past + 1) ≤ n →
    is_drained setup.topology (later ++ past) ≡ true

-- from a settled link, and from any
abbrev pub DrainsSettled : Setup → Type 0
DrainsSettled setup = DrainsJournal setup 0 (AreSettled setup.topology)

abbrev pub DrainsAny : Setup → Type 0
DrainsAny setup = DrainsJournal setup 4000 (λ past. Unit {0})

-- both, of a case of one cube and one link, where its link's entries are steps by numbers
abbrev pub DrainsOver : Setup → (List LinkEntry → List Doing) → Type 0
DrainsOver setup doings =
    IsNetwork setup → IsSingle setup.topology →
    LinkPart (sizes_on setup.topology 0) (requests_of setup.topology) doings →
    LinkRounds setup doings → DrainsSettled setup × DrainsAny setup
