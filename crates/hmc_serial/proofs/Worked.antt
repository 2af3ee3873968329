-- Definitions computed at a cube of one bank of four rows: the errors, each at its edges, and where atomic commands act.
-- Then at a cube with blocks of 64 bytes: errors, reads and writes, and registers; at last logic units.
use Rattle.std.proofs.Common.{◌≡◌, ℕ, List, [], ◌∷◌, ◌++◌, Option, Some, None, true, false, refl}
use Rattle.std.specs.Prelude.{map, replicate, slice_get}
use Rattle.hmc_codes.specs.Shape.{ShapeFields}
use Rattle.hmc_codes.specs.Request.{RequestFields}
use Rattle.hmc_codes.specs.declared.command.Command.{Command}
use Rattle.hmc_codes.specs.declared.command.Command.TheVariants as commands
use Rattle.hmc_codes.specs.declared.answer.Answer.{Answer}
use Rattle.hmc_codes.specs.declared.unit.Unit.TheVariants as units
use Rattle.hmc_codes.specs.declared.answer.Answer.TheVariants as answers
use Rattle.hmc_atomics.specs.declared.atomic.Atomic.TheVariants.{Inc8, Add16, TwoAdd8, Eq8}
use Rattle.hmc_atomics.specs.Operations.{atomic_of}
use Rattle.hmc_serial.specs.declared.action.Action.{Action}
use Rattle.hmc_serial.specs.declared.action.Action.TheVariants.{Read, Write, ReadRegister, WriteRegister, Act, Work}
use Rattle.hmc_serial.specs.Actions.{action_of}
use Rattle.hmc_serial.specs.Errors.{memory_error, register_error, register_write_error, error_of}
use Rattle.hmc_registers.specs.Registers.{opening_registers}
use Rattle.hmc_serial.specs.Cube.{CubeState, opening}
use Rattle.hmc_serial.specs.Machine.{State, cube_state_at, opening_state, apply, answer_to, retire}
use Rattle.hmc_serial.specs.Perform.{answer_unless_posted, block_start, is_high, perform_on}
use Rattle.hmc_serial.specs.Unit.{is_for_registers, unit_of}
use Rattle.hmc_codes.specs.Table.{table_line}
use Rattle.hmc_codes.specs.Bytes.{padded_bytes}
use Rattle.hmc_units.specs.Unit.{UnitFields}
use Rattle.hmc_units.specs.Shipped.{reverse_unit, stamp_unit}

abbrev four_rows : ShapeFields
four_rows = record { vault_bits = 0; bank_bits = 0; rows = 4; block = 256 }

-- the error of an action on a cube without logic units, at an address and with a payload of this length
abbrev error_at : Action → ShapeFields → (address len : ℕ) → Option ℕ
error_at action shape address len = error_of action shape [] (record { command = commands.Rd16; cube = 1; address = address; payload = replicate len 0 })

abbrev errors_of_read : ℕ → List ℕ → List (Option ℕ)
errors_of_read size addresses = map (λ address. error_at (Read size) four_rows address 0) addresses

-- aligned and inside; bit 3, and bit 0; past the last row
errors_of_read-block : errors_of_read 16 (0 ∷ 0x3f0 ∷ 0x8 ∷ 0x11 ∷ 0x400 ∷ []) ≡ None ∷ None ∷ Some 1 ∷ Some 1 ∷ Some 3 ∷ []
unfolding memory_error
errors_of_read-block = refl

-- up to the row's end, and past it; the lowest number counts
errors_of_read-two_blocks : errors_of_read 32 (0xe0 ∷ 0xf0 ∷ 0x4f0 ∷ 0xf8 ∷ []) ≡ None ∷ Some 2 ∷ Some 2 ∷ Some 1 ∷ []
unfolding memory_error
errors_of_read-two_blocks = refl

errors_of_read-row : errors_of_read 256 (0x300 ∷ 0x310 ∷ 0x400 ∷ []) ≡ None ∷ Some 2 ∷ Some 3 ∷ []
unfolding memory_error
errors_of_read-row = refl

-- a write is as long as its payload
error_of-write : map (error_at Write four_rows 0xf0) (16 ∷ 32 ∷ []) ≡ None ∷ Some 2 ∷ []
unfolding memory_error
error_of-write = refl

-- a command on eight bytes may be in the high half, up to the row's end
error_of-increment : map (λ address. error_at (Act Inc8) four_rows address 0) (0xf8 ∷ 0x3f8 ∷ 0x4 ∷ 0x408 ∷ []) ≡
    None ∷ None ∷ Some 1 ∷ Some 3 ∷ []
unfolding memory_error
error_of-increment = refl

error_of-comparison : map (λ address. error_at (Act Eq8) four_rows address 16) (0xf8 ∷ 0x10 ∷ []) ≡ None ∷ None ∷ []
unfolding memory_error
error_of-comparison = refl

-- the others act on the whole block, sums of two halves too
error_of-sums : map (λ op. error_at (Act op) four_rows 0x8 16) (Add16 ∷ TwoAdd8 ∷ []) ≡ Some 1 ∷ Some 1 ∷ []
unfolding memory_error
error_of-sums = refl

error_of-read_register : map (λ number. error_at ReadRegister four_rows number 0) (0 ∷ 15 ∷ 16 ∷ []) ≡ None ∷ None ∷ Some 4 ∷ []
unfolding register_error
error_of-read_register = refl

error_of-write_register : map (λ number. error_at WriteRegister four_rows number 16) (0 ∷ 3 ∷ 4 ∷ 15 ∷ 16 ∷ []) ≡
    Some 5 ∷ Some 5 ∷ None ∷ None ∷ Some 4 ∷ []
unfolding register_write_error
error_of-write_register = refl

-- that no logic unit is there is found last
error_of-unit : map (λ address. error_at (Work 7) four_rows address 16) (0 ∷ 0x8 ∷ 0x400 ∷ []) ≡ Some 6 ∷ Some 1 ∷ Some 3 ∷ []
unfolding memory_error
error_of-unit = refl

action_of-some : map action_of (commands.Pwr256 ∷ commands.Rd112 ∷ commands.Mdrd ∷ commands.Pinc8 ∷ commands.Unit7 ∷ commands.WrRs ∷ []) ≡
    Some Write ∷ Some (Read 112) ∷ Some ReadRegister ∷ Some (Act Inc8) ∷ Some (Work 7) ∷ None ∷ []
unfolding action_of atomic_of
action_of-some = refl

block_start-last : map block_start (0 ∷ 0x8 ∷ 0x18 ∷ 0x1f ∷ []) ≡ 0 ∷ 0 ∷ 0x10 ∷ 0x10 ∷ []
block_start-last = refl

is_high-bit_three : map is_high (0 ∷ 0x8 ∷ 0x10 ∷ 0x18 ∷ []) ≡ false ∷ true ∷ false ∷ true ∷ []
is_high-bit_three = refl

unless_posted-error : answer_unless_posted commands.Pwr16 (answers.Refused 1) ≡ answers.Silent
unfolding table_line
unless_posted-error = refl

-- two vaults of one bank of four blocks of 64 bytes
abbrev small_blocks : ShapeFields
small_blocks = record { vault_bits = 1; bank_bits = 0; rows = 4; block = 64 }

-- past the block's end, twice: from 0x30 on, and longer than a block; past the last row; a whole block
error_of-small_blocks : (error_at (Read 32) small_blocks 0x30 0 ∷ error_at (Read 128) small_blocks 0 0 ∷ error_at (Read 16) small_blocks 0x200 0 ∷ error_at (Read 64) small_blocks 0x40 0 ∷ error_at (Read 32) small_blocks 0x20 0 ∷ error_at (Read 16) small_blocks 0x1f0 0 ∷ []) ≡
    Some 2 ∷ Some 2 ∷ Some 3 ∷ None ∷ None ∷ None ∷ []
unfolding memory_error
error_of-small_blocks = refl

-- an atomic command and one on a half, in the last bytes of a block
error_of-small_acted : (error_at (Act Add16) small_blocks 0x30 16 ∷ error_at (Act Inc8) small_blocks 0x38 0 ∷ error_at (Work 0) small_blocks 0x30 16 ∷ []) ≡ None ∷ None ∷ Some 6 ∷ []
unfolding memory_error
error_of-small_acted = refl

-- 256 bytes are more than any smaller block, wherever they begin
error_of-write_of_256 : map (λ bytes. error_at Write (record small_blocks { block = bytes }) 0 256) (32 ∷ 64 ∷ 128 ∷ 256 ∷ []) ≡ Some 2 ∷ Some 2 ∷ Some 2 ∷ None ∷ []
unfolding memory_error
error_of-write_of_256 = refl

-- the cube 1, with sevens in its second block
abbrev small_cube : CubeState
small_cube = record { shape = small_blocks; memory = replicate 64 0 ++ replicate 64 7 ++ replicate 384 0; registers = 1 ∷ 1 ∷ 0 ∷ 4 ∷ replicate 12 0 }

abbrev request_with : Command → (address : ℕ) → List ℕ → RequestFields
request_with command address payload = record { command = command; cube = 1; address = address; payload = payload }

abbrev answer_of : RequestFields → Answer
answer_of request = (perform_on small_cube [] request).answer

perform_on-read : answer_of (request_with commands.Rd64 0x40 []) ≡ answers.Read false (replicate 64 7)
unfolding perform_on action_of memory_error
perform_on-read = refl

perform_on-errors : map answer_of (request_with commands.Rd32 0x30 [] ∷ request_with commands.Rd128 0 [] ∷ request_with commands.Rd16 0x200 [] ∷ request_with commands.Rd16 0x48 [] ∷ []) ≡
    answers.Refused 2 ∷ answers.Refused 2 ∷ answers.Refused 3 ∷ answers.Refused 1 ∷ []
unfolding perform_on action_of memory_error table_line
perform_on-errors = refl

-- 16 bytes of the second block are written, and nothing else
perform_on-write : perform_on small_cube [] (request_with commands.Wr16 0x50 (replicate 16 9)) ≡
    record {
      cube = record small_cube { memory = replicate 64 0 ++ replicate 16 7 ++ replicate 16 9 ++ replicate 32 7 ++ replicate 384 0 };
      slots = [];
      answer = answers.Done false;
    }
unfolding perform_on action_of memory_error table_line
perform_on-write = refl

-- a refused write changes nothing
perform_on-refused_write : (perform_on small_cube [] (request_with commands.Wr32 0x70 (replicate 32 9))).cube ≡ small_cube
unfolding perform_on action_of memory_error table_line
perform_on-refused_write = refl

-- Registers 0 to 3 are read and not written, 4 to 15 are both, and there is no register 16.
perform_on-read_register : map (λ number. answer_of (request_with commands.Mdrd number [])) (0 ∷ 1 ∷ 2 ∷ 3 ∷ 4 ∷ 15 ∷ 16 ∷ []) ≡
    answers.Register 1 ∷ answers.Register 1 ∷ answers.Register 0 ∷ answers.Register 4 ∷ answers.Register 0 ∷ answers.Register 0 ∷ answers.Refused 4 ∷ []
unfolding perform_on action_of register_error table_line
perform_on-read_register = refl

-- the value 0x04030201
abbrev write_of : (number : ℕ) → RequestFields
write_of number = request_with commands.Mdwr number (1 ∷ 2 ∷ 3 ∷ 4 ∷ replicate 12 0)

perform_on-write_register : map (λ number. answer_of (write_of number)) (0 ∷ 3 ∷ 4 ∷ 15 ∷ 16 ∷ []) ≡
    answers.Refused 5 ∷ answers.Refused 5 ∷ answers.Stored ∷ answers.Stored ∷ answers.Refused 4 ∷ []
unfolding perform_on action_of register_write_error table_line
perform_on-write_register = refl

perform_on-registers : map (λ number. (perform_on small_cube [] (write_of number)).cube.registers) (0 ∷ 4 ∷ 15 ∷ 16 ∷ []) ≡
    (1 ∷ 1 ∷ 0 ∷ 4 ∷ replicate 12 0) ∷ (1 ∷ 1 ∷ 0 ∷ 4 ∷ 0x04030201 ∷ replicate 11 0) ∷ (1 ∷ 1 ∷ 0 ∷ 4 ∷ replicate 11 0 ++ 0x04030201 ∷ []) ∷
    (1 ∷ 1 ∷ 0 ∷ 4 ∷ replicate 12 0) ∷ []
unfolding perform_on action_of register_write_error table_line
perform_on-registers = refl

-- the cubes of a machine are numbered from 0
cube_at-numbers : map (λ number. slice_get (cube_state_at (opening_state (four_rows ∷ small_blocks ∷ []) []) number).registers 0) (0 ∷ 1 ∷ 2 ∷ []) ≡ Some 0 ∷ Some 1 ∷ None ∷ []
unfolding opening_state opening opening_registers
cube_at-numbers = refl

-- a request changes its own cube, and no other
apply-second : map (λ number. (cube_state_at (apply (record { cubes = small_cube ∷ small_cube ∷ []; slots = [] }) (write_of 4)) number).registers) (0 ∷ 1 ∷ []) ≡
    (1 ∷ 1 ∷ 0 ∷ 4 ∷ replicate 12 0) ∷ (1 ∷ 1 ∷ 0 ∷ 4 ∷ 0x04030201 ∷ replicate 11 0) ∷ []
unfolding apply perform_on action_of register_write_error table_line
apply-second = refl

answer_to-second : answer_to (record { cubes = opening four_rows 0 ∷ small_cube ∷ []; slots = [] }) (request_with commands.Rd16 0x40 []) ≡ answers.Read false (replicate 16 7)
unfolding answer_to perform_on action_of memory_error
answer_to-second = refl

-- registers execute mdrd and mdwr, and banks all else, also past the capacity
is_for_registers-each : map is_for_registers (commands.Mdrd ∷ commands.Mdwr ∷ commands.Rd16 ∷ commands.Wr16 ∷ commands.Inc8 ∷ commands.Unit0 ∷ []) ≡ true ∷ true ∷ false ∷ false ∷ false ∷ false ∷ []
is_for_registers-each = refl

unit_of-registers : map (λ command. unit_of small_blocks (request_with command 0x40 [])) (commands.Mdrd ∷ commands.Mdwr ∷ []) ≡ units.Registers 1 ∷ units.Registers 1 ∷ []
unfolding unit_of
unit_of-registers = refl

unit_of-banks : map (λ address. unit_of (record small_blocks { bank_bits = 1 }) (request_with commands.Rd16 address [])) (0x30 ∷ 0x40 ∷ 0x80 ∷ 0xc0 ∷ 0x100 ∷ 0x4c0 ∷ []) ≡
    units.Bank 1 0 0 ∷ units.Bank 1 1 0 ∷ units.Bank 1 0 1 ∷ units.Bank 1 1 1 ∷ units.Bank 1 0 0 ∷ units.Bank 1 1 1 ∷ []
unfolding unit_of
unit_of-banks = refl

-- a stamp and a unit that reverses in cube 1, an empty slot, and a unit of cube 0
abbrev four_slots : (count : ℕ) → List (Option UnitFields)
four_slots count = Some (stamp_unit 1 0 count) ∷ None ∷ Some (reverse_unit 1 3) ∷ Some (reverse_unit 0 5) ∷ []

abbrev unit_errors : ShapeFields → (code : ℕ) → List ℕ → List (Option ℕ)
unit_errors shape code addresses = map (λ address. error_of (Work code) shape (four_slots 0) (request_with commands.Rd16 address (replicate 16 0))) addresses

-- the two units of the cube; the code of another cube's unit, and one of no unit
error_of-units : map (λ code. unit_errors small_blocks code (0x30 ∷ [])) (0 ∷ 3 ∷ 5 ∷ 1 ∷ []) ≡ (None ∷ []) ∷ (None ∷ []) ∷ (Some 6 ∷ []) ∷ (Some 6 ∷ []) ∷ []
unfolding memory_error reverse_unit stamp_unit
error_of-units = refl

-- the errors 1 and 3 count before 6
error_of-before_units : map (λ code. unit_errors small_blocks code (0x8 ∷ 0x18 ∷ 0x200 ∷ [])) (0 ∷ 1 ∷ []) ≡ (Some 1 ∷ Some 1 ∷ Some 3 ∷ []) ∷ (Some 1 ∷ Some 1 ∷ Some 3 ∷ []) ∷ []
unfolding memory_error reverse_unit stamp_unit
error_of-before_units = refl

-- and 2, in blocks too short for any cube
error_of-short_blocks : map (λ code. unit_errors (record small_blocks { block = 8 }) code (0 ∷ [])) (0 ∷ 1 ∷ []) ≡ (Some 2 ∷ []) ∷ (Some 2 ∷ []) ∷ []
unfolding memory_error reverse_unit stamp_unit
error_of-short_blocks = refl

-- sixteen numbers, from the lowest and from the highest
abbrev up : List ℕ
up = 0 ∷ 1 ∷ 2 ∷ 3 ∷ 4 ∷ 5 ∷ 6 ∷ 7 ∷ 8 ∷ 9 ∷ 10 ∷ 11 ∷ 12 ∷ 13 ∷ 14 ∷ 15 ∷ []

abbrev down : List ℕ
down = 15 ∷ 14 ∷ 13 ∷ 12 ∷ 11 ∷ 10 ∷ 9 ∷ 8 ∷ 7 ∷ 6 ∷ 5 ∷ 4 ∷ 3 ∷ 2 ∷ 1 ∷ 0 ∷ []

-- the cube 1 with these bytes in its second 16 bytes
abbrev with_block : List ℕ → CubeState
with_block block = record small_cube { memory = replicate 16 0 ++ block ++ replicate 480 0 }

-- a cube 0 beside it, and the logic units
abbrev two_cubes : List ℕ → (count : ℕ) → State
two_cubes block count = record { cubes = small_cube ∷ with_block block ∷ []; slots = four_slots count }

abbrev work_of : Command → RequestFields
work_of command = request_with command 0x10 (replicate 8 9 ++ replicate 8 2)

-- reversed once, and twice; the answer has the old bytes
apply-reversed : apply (two_cubes up 0) (work_of commands.Unit3) ≡ two_cubes down 0
unfolding apply perform_on action_of memory_error table_line padded_bytes reverse_unit stamp_unit
apply-reversed = refl

apply-reversed_twice : apply (apply (two_cubes up 0) (work_of commands.Unit3)) (work_of commands.Unit3) ≡ two_cubes up 0
unfolding apply perform_on action_of memory_error table_line padded_bytes reverse_unit stamp_unit
apply-reversed_twice = refl

answer_to-reversed : answer_to (two_cubes up 0) (work_of commands.Unit3) ≡ answers.Read false up
unfolding answer_to perform_on action_of memory_error table_line padded_bytes reverse_unit stamp_unit
answer_to-reversed = refl

-- a stamp counts, and writes the number and the operand's first half
abbrev stamped : (count : ℕ) → List ℕ
stamped count = count ∷ replicate 7 0 ++ replicate 8 9

apply-stamped : apply (two_cubes up 0) (work_of commands.Unit0) ≡ two_cubes (stamped 1) 1
unfolding apply perform_on action_of memory_error table_line padded_bytes reverse_unit stamp_unit
apply-stamped = refl

apply-stamped_twice : apply (apply (two_cubes up 0) (work_of commands.Unit0)) (work_of commands.Unit0) ≡ two_cubes (stamped 2) 2
unfolding apply perform_on action_of memory_error table_line padded_bytes reverse_unit stamp_unit
apply-stamped_twice = refl

answer_to-stamped : answer_to (two_cubes (stamped 1) 1) (work_of commands.Unit0) ≡ answers.Read false (stamped 1)
unfolding answer_to perform_on action_of memory_error table_line padded_bytes reverse_unit stamp_unit
answer_to-stamped = refl

-- no unit has the code in this cube: error 6, and nothing changes
apply-no_unit : map (apply (two_cubes up 0)) (work_of commands.Unit1 ∷ work_of commands.Unit5 ∷ []) ≡ two_cubes up 0 ∷ two_cubes up 0 ∷ []
unfolding apply perform_on action_of memory_error table_line reverse_unit stamp_unit
apply-no_unit = refl

answer_to-no_unit : map (answer_to (two_cubes up 0)) (work_of commands.Unit1 ∷ work_of commands.Unit5 ∷ []) ≡ answers.Refused 6 ∷ answers.Refused 6 ∷ []
unfolding answer_to perform_on action_of memory_error table_line reverse_unit stamp_unit
answer_to-no_unit = refl

-- so it is once the unit was retired
answer_to-retired : answer_to (retire (two_cubes up 0) 2) (work_of commands.Unit3) ≡ answers.Refused 6
unfolding answer_to retire perform_on action_of memory_error table_line reverse_unit stamp_unit
answer_to-retired = refl

-- a refused unit command leaves the count
apply-refused : apply (two_cubes up 4) (record (work_of commands.Unit0) { address = 0x18 }) ≡ two_cubes up 4
unfolding apply perform_on action_of memory_error table_line reverse_unit stamp_unit
apply-refused = refl

-- no other command asks a unit
perform_on-slots : map (λ command. (perform_on small_cube (four_slots 4) (work_of command)).slots) (commands.Inc8 ∷ commands.Pinc8 ∷ commands.Add16 ∷ commands.Wr16 ∷ commands.Rd16 ∷ commands.Mdrd ∷ []) ≡ replicate 6 (four_slots 4)
unfolding perform_on action_of atomic_of memory_error register_error table_line reverse_unit stamp_unit
perform_on-slots = refl
