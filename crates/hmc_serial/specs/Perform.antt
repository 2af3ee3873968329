-- What a request does to a cube and to the logic units: one case per kind of command.
use Rattle.std.specs.Prelude.{ℕ, ◌+◌, ◌-◌, ◌/◌, ◌%◌, Bool, false, not, ◌==◌, if◌then◌else◌, List, slice_range, slice_index, slice_set, Option, Some, None}
use Rattle.hmc_codes.specs.Bytes.{padded_bytes}
use Rattle.hmc_codes.specs.Commands.{is_posted, reply_of}
use Rattle.hmc_codes.specs.Request.{RequestFields}
use Rattle.hmc_codes.specs.Text.{value_in}
use Rattle.hmc_codes.specs.declared.command.Command.{Command}
use Rattle.hmc_codes.specs.declared.command.Command.TheVariants as commands
use Rattle.hmc_codes.specs.declared.answer.Answer.{Answer}
use Rattle.hmc_codes.specs.declared.answer.Answer.TheVariants as answers
use Rattle.hmc_codes.specs.declared.answer.Acted.{Acted}
use Rattle.hmc_memory.specs.Banks.{written_bytes}
use Rattle.hmc_atomics.specs.declared.atomic.Atomic.{Atomic}
use Rattle.hmc_atomics.specs.Act.{acted_of}
use Rattle.hmc_units.specs.Unit.{UnitFields}
use Rattle.hmc_units.specs.Bench.{bench_acted, worked_slots}
use Rattle.hmc_serial.specs.declared.action.Action.{Action}
use Rattle.hmc_serial.specs.declared.action.Action.TheVariants.{Read, Write, ReadRegister, WriteRegister, Act, Work}
use Rattle.hmc_serial.specs.Actions.{action_of}
use Rattle.hmc_serial.specs.Cube.{CubeState, Outcome}
use Rattle.hmc_serial.specs.Errors.{error_of}

-- nothing changes
abbrev pub unchanged_with : CubeState → List (Option UnitFields) → Answer → Outcome
unchanged_with cube slots answer = record { cube = cube; slots = slots; answer = answer }

-- of the cube only the memory changes
abbrev pub leaves_memory : CubeState → List (Option UnitFields) → List ℕ → Answer → Outcome
leaves_memory cube slots memory answer =
    record { cube = record cube { memory = memory }; slots = slots; answer = answer }

-- only the registers change
abbrev pub leaves_registers : CubeState → List (Option UnitFields) → List ℕ → Answer → Outcome
leaves_registers cube slots registers answer =
    record { cube = record cube { registers = registers }; slots = slots; answer = answer }

-- a posted request has no answer
abbrev pub answer_unless_posted : Command → Answer → Answer
answer_unless_posted command answer = (if is_posted command then answers.Silent else answer)

-- a request with an error changes nothing, and is refused
abbrev pub unless_error : Option ℕ → CubeState → List (Option UnitFields) → Command → Outcome →
    Outcome
unless_error None cube slots command outcome = outcome
unless_error (Some errstat) cube slots command outcome =
    unchanged_with cube slots (answer_unless_posted command (answers.Refused errstat))

-- the answer to a command that acts on a block: the old bytes if its response is RD_RS, and the
-- flag alone if it is WR_RS
abbrev pub acted_answer : Option Command → Acted → Answer
acted_answer (Some commands.RdRs) acted = answers.Read acted.flag acted.answer
acted_answer (Some commands.WrRs) acted = answers.Done acted.flag
acted_answer _ acted = answers.Silent

-- the address of the 16-byte block that holds an address
abbrev pub block_start : ℕ → ℕ
block_start address = address - address % 16

-- that block
abbrev pub block_at : (memory : List ℕ) → (address : ℕ) → List ℕ
block_at memory address =
    slice_range memory (block_start address) (block_start address + 16)

-- the address is in the high half of its block
abbrev pub is_high : ℕ → Bool
is_high address = not (address / 8 % 2 == 0)

-- an atomic command acts on the block that holds its address; without a payload its operand is
-- zeros
abbrev pub acted_at : Atomic → List ℕ → (address : ℕ) → (payload : List ℕ) → Acted
acted_at op memory address payload =
    acted_of op (is_high address) (block_at memory address) (padded_bytes 16 payload)

-- the block has its new bytes
abbrev pub leaves_acted : CubeState → List (Option UnitFields) → RequestFields → Acted → Outcome
leaves_acted cube slots request acted =
    leaves_memory cube slots (written_bytes cube.memory (block_start request.address) acted.block)
    (acted_answer (reply_of request.command) acted)

-- the block has the new bytes that a logic unit gave, if there is one
abbrev pub leaves_worked : CubeState → List (Option UnitFields) → RequestFields → Option Acted →
    Outcome
leaves_worked cube slots request None = unchanged_with cube slots answers.Silent
leaves_worked cube slots request (Some acted) = leaves_acted cube slots request acted

-- the logic unit of the request's cube with this code works on the block that holds the address;
-- its operand is the payload
abbrev pub work_with : (code : ℕ) → CubeState → List (Option UnitFields) → RequestFields → Outcome
work_with code cube slots request =
    let block = block_at cube.memory request.address in
    let operand = padded_bytes 16 request.payload in
    leaves_worked cube (worked_slots slots request.cube code block operand) request
    (bench_acted slots request.cube code block operand)

-- what a request without an error does, one case per kind of command
abbrev pub carry_out : Action → CubeState → List (Option UnitFields) → RequestFields → Outcome
carry_out (Read size) cube slots request =
    unchanged_with cube slots
    (answers.Read false (slice_range cube.memory request.address (request.address + size)))
carry_out Write cube slots request =
    leaves_memory cube slots (written_bytes cube.memory request.address request.payload)
    (answer_unless_posted request.command (answers.Done false))
carry_out ReadRegister cube slots request =
    unchanged_with cube slots (answers.Register (slice_index cube.registers request.address))
carry_out WriteRegister cube slots request =
    leaves_registers cube slots
    (slice_set cube.registers request.address (value_in request.payload)) answers.Stored
carry_out (Act op) cube slots request =
    leaves_acted cube slots request (acted_at op cube.memory request.address request.payload)
carry_out (Work code) cube slots request = work_with code cube slots request

-- what isn't a request does nothing
abbrev pub perform_action : Option Action → CubeState → List (Option UnitFields) →
    RequestFields → Outcome
perform_action None cube slots request = unchanged_with cube slots answers.Silent
perform_action (Some action) cube slots request =
    unless_error (error_of action cube.shape slots request) cube slots request.command
    (carry_out action cube slots request)

-- what a request leaves of its cube and of the logic units, and its answer
unfoldable pub perform_on : CubeState → List (Option UnitFields) → RequestFields → Outcome
perform_on cube slots request = perform_action (action_of request.command) cube slots request
