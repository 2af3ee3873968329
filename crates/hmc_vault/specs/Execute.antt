-- What an execution returns, and what it leaves.
use Rattle.std.specs.Prelude.{ℕ, Bool, false, not, ◌&&◌, nat_le, if◌then◌else◌, List, [], ◌∷◌, ◌++◌, length, drop, slice_set, Option, Some, None}
use Rattle.hmc_codes.specs.Commands.{is_posted}
use Rattle.hmc_codes.specs.declared.command.Command.{Command}
use Rattle.hmc_codes.specs.Request.{RequestFields}
use Rattle.hmc_codes.specs.declared.answer.Answer.{Answer}
use Rattle.hmc_packet.specs.Packet.{PacketFields}
use Rattle.hmc_packet.specs.Transactions.{reply_packet, request_in}
use Rattle.hmc_units.specs.Unit.{UnitFields}
use Rattle.hmc_serial.specs.Cube.{CubeState}
use Rattle.hmc_serial.specs.Perform.{perform_on}
use Rattle.hmc_vault.specs.declared.execute.Executed.{Executed}
use Rattle.hmc_vault.specs.declared.execute.Executed.TheVariants.{Empty, Full, Ran}
use Rattle.hmc_vault.specs.Vault.{VaultFields, bank_at}

-- a command with an answer waits where the answers queue is full
abbrev pub command_waits : Command → (answers : List PacketFields) → (size : ℕ) → Bool
command_waits command answers size = not (is_posted command) && nat_le size (length answers)

-- so does a request
abbrev pub must_wait : RequestFields → (answers : List PacketFields) → (size : ℕ) → Bool
must_wait request answers size = command_waits request.command answers size

-- the front of these requests waits
abbrev pub front_waits : (waiting answers : List PacketFields) → (size : ℕ) → Bool
front_waits [] answers size = false
front_waits (front ∷ rest) answers size = command_waits front.command answers size

-- a request of a host and under a tag runs, unless it must wait
abbrev pub runs : PacketFields → RequestFields →
    (answers : List PacketFields) → (size : ℕ) → CubeState → List (Option UnitFields) → Executed
runs front request answers size cube slots =
    (if must_wait request answers size then Full else
    Ran front.slid front.tag request (perform_on cube slots request).answer)

-- the request that the front carries runs
abbrev pub carried_runs : PacketFields → Option RequestFields →
    (answers : List PacketFields) → (size : ℕ) → CubeState → List (Option UnitFields) → Executed
carried_runs front None answers size cube slots = Empty
carried_runs front (Some request) answers size cube slots =
    runs front request answers size cube slots

-- what an execution returns where these requests wait, with these answers before theirs
abbrev pub execute_says : (waiting answers : List PacketFields) → (size : ℕ) →
    CubeState → List (Option UnitFields) → Executed
execute_says [] answers size cube slots = Empty
execute_says (front ∷ rest) answers size cube slots =
    carried_runs front (request_in front) answers size cube slots

-- the reply to a request, or none where it is posted
abbrev pub replies_to : RequestFields → Answer → (host tag : ℕ) → List PacketFields
replies_to request answer host tag =
    (if is_posted request.command then [] else reply_packet answer tag host request.cube ∷ [])

-- what an execution leaves of the requests that wait
abbrev pub waiting_after : Executed → List PacketFields → List PacketFields
waiting_after (Ran host tag request answer) waiting = drop 1 waiting
waiting_after _ waiting = waiting

-- what it leaves of the answers
abbrev pub answers_after : Executed → List PacketFields → List PacketFields
answers_after (Ran host tag request answer) answers = answers ++ replies_to request answer host tag
answers_after _ answers = answers

-- what it leaves of the cube
abbrev pub cube_after : Executed → CubeState → List (Option UnitFields) → CubeState
cube_after (Ran host tag request answer) cube slots = (perform_on cube slots request).cube
cube_after _ cube slots = cube

-- and of the logic units
abbrev pub slots_after : Executed → CubeState → List (Option UnitFields) →
    List (Option UnitFields)
slots_after (Ran host tag request answer) cube slots = (perform_on cube slots request).slots
slots_after _ cube slots = slots

-- what an execution by a bank leaves of the vault
abbrev pub execute_gives : (bank : ℕ) → Executed → VaultFields → VaultFields
execute_gives bank (Ran host tag request answer) vault =
    let ran = Ran host tag request answer in
    record vault {
      banks = slice_set vault.banks bank (waiting_after ran (bank_at vault bank));
      answers = answers_after ran vault.answers;
    }
execute_gives bank _ vault = vault
