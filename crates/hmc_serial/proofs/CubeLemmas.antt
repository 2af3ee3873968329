-- What a request leaves of a cube is a cube, and so is a new one.
use Rattle.std.proofs.Common.{◌≡◌, ◌≤◌, ◌<◌, ◌∙◌, ◌+◌, ◌^◌, ℕ, zero, suc, Bool, true, false, if◌then◌else◌, List, [], ◌∷◌, ◌++◌, length, take, drop, Option, Some, None, refl, arith, length-append}
use Rattle.std.specs.Prelude.{slice_index, slice_set}
use Rattle.std.specs.Int.{w32, w64, from_le_bytes, to_le_bytes}
use Rattle.std.proofs.lemmas.List.{length-take, length-drop, length-set, length-replicate}
use Rattle.hmc_codes.specs.Bytes.{IsBytes, padded_bytes}
use Rattle.hmc_codes.proofs.BytesLemmas.{IsBytes-append, IsBytes-take, IsBytes-drop, IsBytes-zeros, IsBytes-low}
use Rattle.hmc_codes.specs.Request.{RequestFields, IsRequest}
use Rattle.hmc_codes.specs.Shape.{ShapeFields, IsShape, capacity_of}
use Rattle.hmc_codes.specs.declared.answer.Acted.{Acted}
use Rattle.hmc_units.specs.Unit.{IsBlock, UnitFields}
use Rattle.hmc_units.specs.Bench.{bench_acted, worked_slots}
use Rattle.hmc_atomics.specs.declared.atomic.Atomic.{Atomic}
use Rattle.hmc_atomics.specs.Operations.{by_halves}
use Rattle.hmc_atomics.specs.Effects.{Effect}
use Rattle.hmc_atomics.specs.Act.{acted_half, acted_block, effect_on, acted_of}
use Rattle.hmc_memory.specs.Banks.{written_bytes}
use Rattle.hmc_memory.proofs.WrittenLemmas.{length-written, IsBytes-written}
use Rattle.hmc_registers.specs.Registers.{IsRegisters, opening_registers}
use Rattle.hmc_serial.specs.declared.action.Action.{Action}
use Rattle.hmc_serial.specs.declared.action.Action.TheVariants.{Read, Write, ReadRegister, WriteRegister, Act, Work}
use Rattle.hmc_serial.specs.Actions.{action_of}
use Rattle.hmc_serial.specs.Cube.{CubeState, IsCube, opening}
use Rattle.hmc_serial.specs.Errors.{memory_error, acted_size, error_of}
use Rattle.hmc_serial.specs.Perform.{unless_error, acted_at, block_at, block_start, is_high, leaves_worked, carry_out, perform_action, perform_on}
use Rattle.hmc_serial.proofs.AnswerLemmas.{inside, block_inside, IsBlock-at, IsAsked, unit_address, unit_worked}
use Rattle.hmc_serial.proofs.WorkLemmas.{IsWorked}
use Rattle.hmc_serial.proofs.Fine.{some_bytes}

-- memory that is written
IsCube-written : (cube : CubeState) (address : ℕ) (new : List ℕ) → IsCube cube → IsBytes new → address + length new ≤ length cube.memory → IsCube (record cube { memory = written_bytes cube.memory address new })
IsCube-written cube address new is bytes inside = record {
  is_shape = is.is_shape;
  capacity = length-written cube.memory address new inside ∙ is.capacity;
  bytes = IsBytes-written cube.memory address new is.bytes bytes;
  are_registers = is.are_registers;
}

-- a block that is acted on
IsBlock-half : (high : Bool) (block half : List ℕ) → IsBlock block → length half ≡ 8 → IsBytes half → IsBlock (if high then take 8 block ++ half else half ++ drop 8 block)
IsBlock-half true block half is eight bytes = record {
  sixteen = omega (arith, length-append (take 8 block) half, length-take 8 block, is.sixteen);
  are_bytes = IsBytes-append (take 8 block) half (IsBytes-take 8 block is.are_bytes) bytes;
}
IsBlock-half false block half is eight bytes = record {
  sixteen = omega (arith, length-append half (drop 8 block), length-drop 8 block, is.sixteen);
  are_bytes = IsBytes-append half (drop 8 block) bytes (IsBytes-drop 8 block is.are_bytes);
}

IsBlock-acted : (op : Atomic) (high : Bool) (block operand : List ℕ) → IsBlock block → IsBlock (acted_of op high block operand).block
unfolding acted_of
IsBlock-acted op high block operand is =
    let effect : Effect = effect_on op high block operand in
    elim (by_halves op) as (λ b. IsBlock (if b then acted_half high block effect else acted_block block effect).block) [
      | true ↦ IsBlock-half high block (to_le_bytes w64 effect.value) is refl (IsBytes-low 0 8 effect.value)
      | false ↦ record { sixteen = refl; are_bytes = IsBytes-low 0 16 effect.value }
    ]

-- a block that has new bytes
IsCube-block : (cube : CubeState) (address : ℕ) (new : List ℕ) → IsCube cube → address < length cube.memory → IsBlock new → IsCube (record cube { memory = written_bytes cube.memory (block_start address) new })
IsCube-block cube address new is first block = IsCube-written cube (block_start address) new is block.are_bytes (omega (arith, block.sixteen, block_inside cube address is first))

IsCube-acted : (cube : CubeState) (op : Atomic) (address : ℕ) (payload : List ℕ) → IsCube cube → memory_error cube.shape (acted_size (by_halves op)) (by_halves op) address ≡ None
    → IsCube (record cube { memory = written_bytes cube.memory (block_start address) (acted_at op cube.memory address payload).block })
IsCube-acted cube op address payload is none =
    let first : address < length cube.memory = omega (arith, some_bytes (by_halves op), inside cube (acted_size (by_halves op)) (by_halves op) address is none) in
    IsCube-block cube address _ is first (IsBlock-acted op (is_high address) (block_at cube.memory address) (padded_bytes 16 payload) (IsBlock-at cube address is first))

-- by what a logic unit made
by_worked : (cube : CubeState) (slots : List (Option UnitFields)) (request : RequestFields) (worked : Option Acted) → IsCube cube → request.address < length cube.memory → IsWorked worked → IsCube (leaves_worked cube slots request worked).cube
by_worked cube slots request None is first worked = is
by_worked cube slots request (Some acted) is first worked = IsCube-block cube request.address acted.block is first worked.block

-- a register that is written
set_small : (numbers : List ℕ) (at number k : ℕ) → ((i : ℕ) → slice_index numbers i < 2 ^ 32) → number < 2 ^ 32 → slice_index (slice_set numbers at number) k < 2 ^ 32
set_small [] at number k is small = is k
set_small (n ∷ numbers) zero number zero is small = small
set_small (n ∷ numbers) zero number (suc k) is small = is (suc k)
set_small (n ∷ numbers) (suc at) number zero is small = is zero
set_small (n ∷ numbers) (suc at) number (suc k) is small = set_small numbers at number k (λ i. is (suc i)) small

IsRegisters-set : (numbers : List ℕ) (at number : ℕ) → IsRegisters numbers → number < 2 ^ 32 → IsRegisters (slice_set numbers at number)
IsRegisters-set numbers at number is small = record { sixteen = length-set numbers at number ∙ is.sixteen; small = λ k. set_small numbers at number k is.small small }

number-small : (bytes : List ℕ) → IsBytes bytes → from_le_bytes w32 bytes < 2 ^ 32
number-small bytes is = omega (arith, is 0, is 1, is 2, is 3)

-- what is done where there is no error
IsCube-carried_out : (action : Action) (cube : CubeState) (slots : List (Option UnitFields)) (request : RequestFields) → IsAsked cube slots request action → IsCube (carry_out action cube slots request).cube
IsCube-carried_out (Read size) cube slots request is = is.kept
IsCube-carried_out Write cube slots request is = IsCube-written cube request.address request.payload is.kept is.is.bytes (inside cube (length request.payload) false request.address is.kept is.no_error)
IsCube-carried_out ReadRegister cube slots request is = is.kept
IsCube-carried_out WriteRegister cube slots request is = record {
  is_shape = is.kept.is_shape;
  capacity = is.kept.capacity;
  bytes = is.kept.bytes;
  are_registers = IsRegisters-set cube.registers request.address (from_le_bytes w32 (take 4 request.payload)) is.kept.are_registers (number-small (take 4 request.payload) (IsBytes-take 4 request.payload is.is.bytes));
}
IsCube-carried_out (Act op) cube slots request is = IsCube-acted cube op request.address request.payload is.kept is.no_error
IsCube-carried_out (Work code) cube slots request is =
    let block = block_at cube.memory request.address in
    let operand = padded_bytes 16 request.payload in
    by_worked cube (worked_slots slots request.cube code block operand) request (bench_acted slots request.cube code block operand) is.kept (unit_address cube slots request code is) (unit_worked cube slots request code is)

by_error : (error : Option ℕ) (action : Action) (cube : CubeState) (slots : List (Option UnitFields)) (request : RequestFields) → IsCube cube → IsRequest request → action_of request.command ≡ Some action → error_of action cube.shape slots request ≡ error
    → IsCube (unless_error error cube slots request.command (carry_out action cube slots request)).cube
by_error None action cube slots request kept is asked none = IsCube-carried_out action cube slots request (record { kept = kept; is = is; asked = asked; no_error = none })
by_error (Some errstat) action cube slots request kept is asked some = kept

by_action : (action : Option Action) (cube : CubeState) (slots : List (Option UnitFields)) (request : RequestFields) → IsCube cube → IsRequest request → action_of request.command ≡ action → IsCube (perform_action action cube slots request).cube
by_action None cube slots request kept is asked = kept
by_action (Some action) cube slots request kept is asked = by_error (error_of action cube.shape slots request) action cube slots request kept is asked refl

pub IsCube-performed : (cube : CubeState) (slots : List (Option UnitFields)) (request : RequestFields) → IsCube cube → IsRequest request → IsCube (perform_on cube slots request).cube
unfolding perform_on
IsCube-performed cube slots request kept is = by_action (action_of request.command) cube slots request kept is refl

-- a new cube
opening_small : (shape : ShapeFields) (number k : ℕ) → IsShape shape → number < 2 ^ 32 → slice_index (opening_registers number shape) k < 2 ^ 32
unfolding opening_registers
opening_small shape number zero is small = small
opening_small shape number (suc zero) is small = omega (arith, is.vault_bits)
opening_small shape number (suc (suc zero)) is small = omega (arith, is.bank_bits)
opening_small shape number (suc (suc (suc zero))) is small = omega (arith, is.rows)
opening_small shape number (suc (suc (suc (suc k)))) is small = omega (arith, IsBytes-zeros 12 k)

opening_sixteen : (shape : ShapeFields) (number : ℕ) → length (opening_registers number shape) ≡ 16
unfolding opening_registers
opening_sixteen shape number = refl

pub IsCube-opening : (shape : ShapeFields) (number : ℕ) → IsShape shape → number < 2 ^ 32 → IsCube (opening shape number)
unfolding opening
IsCube-opening shape number is small = record {
  is_shape = is;
  capacity = length-replicate {A = ℕ} (capacity_of shape) 0;
  bytes = IsBytes-zeros (capacity_of shape);
  are_registers = record { sixteen = opening_sixteen shape number; small = λ k. opening_small shape number k is small };
}
