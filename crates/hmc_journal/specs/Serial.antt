-- The executions of a journal, run in order on a plain machine, whose logic units are retired where
-- the journal says so.
use Rattle.std.specs.Prelude.{◌≡◌, List, [], ◌∷◌}
use Rattle.hmc_serial.specs.Machine.{State, apply, answer_to, retire}
use Rattle.hmc_entries.specs.declared.entry.Entry.{Entry}
use Rattle.hmc_entries.specs.declared.entry.Entry.TheVariants.{Executed, Retired}

-- the state that it leaves
unfoldable pub state_after : State → List Entry → State
state_after opening [] = opening
state_after opening (Executed unit host tag request answer ∷ past) =
    apply (state_after opening past) request
state_after opening (Retired slot ∷ past) = retire (state_after opening past) slot
state_after opening (_ ∷ past) = state_after opening past

-- each execution shows the answer that the machine gives at its place
unfoldable pub IsSerial : State → List Entry → Type 0
IsSerial opening [] = Unit {0}
IsSerial opening (Executed unit host tag request answer ∷ past) =
    (answer ≡ answer_to (state_after opening past) request) × IsSerial opening past
IsSerial opening (_ ∷ past) = IsSerial opening past
