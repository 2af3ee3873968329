-- Which logs of hosts can be, by the order in which requests arrive at cubes: each host's requests
-- to one cube arrive in the order given, and each bank executes in order of arrival. So where no
-- logic unit works, the answers are those of a machine that performs each request as it arrives.
use Rattle.std.specs.Prelude.{◌≡◌, ℕ, Bool, true, false, not, ◌==◌, ◌&&◌, List, [], ◌∷◌, ◌++◌}
use Rattle.hmc_codes.specs.declared.command.Command.{Command}
use Rattle.hmc_codes.specs.declared.command.Command.TheVariants as commands
use Rattle.hmc_serial.specs.Machine.{State}
use Rattle.hmc_entries.specs.declared.entry.Entry.{Entry}
use Rattle.hmc_entries.specs.declared.entry.Entry.TheVariants.{Gave, Executed}
use Rattle.hmc_journal.specs.Choice.{append_if}
use Rattle.hmc_journal.specs.Delivered.{IsPrefix}
use Rattle.hmc_journal.specs.Filters.{TaggedRequest}
use Rattle.hmc_journal.specs.Setup.{Topology}
use Rattle.hmc_arrivals.specs.Arrivals.{given_at}
use Rattle.hmc_seen.specs.Explained.{IsExplainedBy}

-- the command is for a logic unit
abbrev pub is_for_a_unit : Command → Bool
is_for_a_unit commands.Unit0 = true
is_for_a_unit commands.Unit1 = true
is_for_a_unit commands.Unit2 = true
is_for_a_unit commands.Unit3 = true
is_for_a_unit commands.Unit4 = true
is_for_a_unit commands.Unit5 = true
is_for_a_unit commands.Unit6 = true
is_for_a_unit commands.Unit7 = true
is_for_a_unit _ = false

-- no request that a host gave is for a logic unit, except poisoned ones
unfoldable pub AsksNoUnits : List Entry → Type 0
AsksNoUnits [] = Unit {0}
AsksNoUnits (Gave host tag poisoned request ∷ past) =
    (not poisoned && is_for_a_unit request.command ≡ false) × AsksNoUnits past
AsksNoUnits (_ ∷ past) = AsksNoUnits past

-- the requests of a host that a cube executed
unfoldable pub executed_at : (host cube : ℕ) → List Entry → List TaggedRequest
executed_at h c [] = []
executed_at h c (Executed unit host tag request answer ∷ past) =
    append_if ((host == h) && (request.cube == c)) (record { tag = tag; request = request } ∷ [])
    (executed_at h c past)
executed_at h c (_ ∷ past) = executed_at h c past

-- A journal explains a log, and at each moment what a cube executed of a host are the first of the
-- requests that the host gave to it, in the order given, whatever their banks are.
pub record IsOrderedBy (topology : Topology) (opening : State) (log journal : List Entry) : Type 0
  where
    pub explains : IsExplainedBy topology opening log journal
    pub in_order : (later past : List Entry) → journal ≡ later ++ past → (host cube : ℕ) →
        IsPrefix (executed_at host cube past) (given_at host cube past)

-- Some journal explains the log in this order. An execution in it may be one that its bank had
-- still to do when the log ended.
pub record IsOrdered (topology : Topology) (opening : State) (log : List Entry) : Type 0 where
  pub journal : List Entry
  pub orders : IsOrderedBy topology opening log journal
