-- What the calls of a cube return and leave.
use Rattle.std.specs.Prelude.{ℕ, List, [], ◌∷◌, ◌++◌, drop, Option}
use Rattle.hmc_codes.specs.declared.lift.Lift.{Lift}
use Rattle.hmc_codes.specs.declared.lift.Lift.TheVariants as lifts
use Rattle.hmc_packet.specs.Packet.{PacketFields}
use Rattle.hmc_units.specs.Unit.{UnitFields}
use Rattle.hmc_crossbar.specs.declared.to.To.{To}
use Rattle.hmc_crossbar.specs.declared.to.To.TheVariants.{Vault, Registers}
use Rattle.hmc_vault.specs.declared.spread.Spread.{Spread}
use Rattle.hmc_vault.specs.declared.spread.Spread.TheVariants.{Moved}
use Rattle.hmc_vault.specs.declared.execute.Executed.{Executed}
use Rattle.hmc_vault.specs.declared.execute.Executed.TheVariants.{Ran}
use Rattle.hmc_vault.specs.Vault.{bank_at}
use Rattle.hmc_vault.specs.Spread.{spread_gives}
use Rattle.hmc_vault.specs.Execute.{execute_says, execute_gives, waiting_after, answers_after, cube_after}
use Rattle.hmc_cube.specs.Cube.{CubeFields, vault_at, with_vault}

-- a packet has entered a vault, or the queue of the registers
abbrev pub after_enter : To → PacketFields → CubeFields → CubeFields
after_enter (Vault vault) packet cube =
    with_vault cube vault (record (vault_at cube vault) {
      vault_queue = (vault_at cube vault).vault_queue ++ packet ∷ [];
    })
after_enter Registers packet cube =
    record cube { register_queue = cube.register_queue ++ packet ∷ [] }
after_enter _ packet cube = cube

-- a spread of a vault has returned this
abbrev pub after_spread : (vault : ℕ) → Spread → CubeFields → CubeFields
after_spread vault (Moved bank) cube =
    with_vault cube vault (spread_gives (Moved bank) (vault_at cube vault))
after_spread vault _ cube = cube

-- what an execution by a bank returns
abbrev pub bank_says : CubeFields → List (Option UnitFields) → (vault bank : ℕ) → Executed
bank_says cube slots vault bank =
    execute_says (bank_at (vault_at cube vault) bank) (vault_at cube vault).answers
    cube.size cube.state slots

-- an execution by a bank has returned this, with logic units as they were before
abbrev pub after_execute : (vault bank : ℕ) → Executed → List (Option UnitFields) → CubeFields
    → CubeFields
after_execute vault bank (Ran host tag request answer) slots cube =
    let ran = Ran host tag request answer in
    record (with_vault cube vault (execute_gives bank ran (vault_at cube vault))) {
      state = cube_after ran cube.state slots;
    }
after_execute vault bank _ slots cube = cube

-- what an execution by the registers returns
abbrev pub registers_say : CubeFields → List (Option UnitFields) → Executed
registers_say cube slots = execute_says cube.register_queue cube.answers cube.size cube.state slots

-- an execution by the registers has returned this
abbrev pub after_registers : Executed → List (Option UnitFields) → CubeFields → CubeFields
after_registers executed slots cube =
    record cube {
      state = cube_after executed cube.state slots;
      register_queue = waiting_after executed cube.register_queue;
      answers = answers_after executed cube.answers;
    }

-- the front of the answers of a place was lifted, if there was one
abbrev pub after_lift : Lift → CubeFields → CubeFields
after_lift (lifts.Vault vault) cube =
    with_vault cube vault
    (record (vault_at cube vault) { answers = drop 1 (vault_at cube vault).answers })
after_lift lifts.Registers cube = record cube { answers = drop 1 cube.answers }
