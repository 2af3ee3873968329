-- A response can carry the answer to a request.
use Rattle.std.proofs.Common.{◌≡◌, ◌≤◌, ◌<◌, ◌∙◌, ◌+◌, ◌-◌, ◌^◌, ℕ, Bool, true, false, List, ◌++◌, length, take, drop, Option, Some, None, refl, sym, ap, subst, arith, lit<, length-append}
use Rattle.std.specs.Prelude.{slice_range, replicate, is_none, if◌then◌else◌}
use Rattle.std.specs.List.{list_any}
use Rattle.std.proofs.lemmas.List.{length-take, length-drop, length-replicate}
use Rattle.hmc_codes.specs.Bytes.{IsBytes, padded_bytes}
use Rattle.hmc_codes.proofs.BytesLemmas.{IsBytes-append, IsBytes-take, IsBytes-drop, IsBytes-zeros}
use Rattle.hmc_codes.specs.Commands.{reply_of, is_posted}
use Rattle.hmc_codes.specs.Request.{RequestFields, IsRequest}
use Rattle.hmc_units.specs.Unit.{IsBlock, UnitFields}
use Rattle.hmc_units.specs.Bench.{serves, bench_acted, worked_slots}
use Rattle.hmc_codes.specs.Shape.{ShapeFields}
use Rattle.hmc_codes.specs.declared.command.Command.{Command}
use Rattle.hmc_codes.specs.declared.command.Command.TheVariants as commands
use Rattle.hmc_codes.specs.declared.answer.Answer.{Answer}
use Rattle.hmc_codes.specs.declared.answer.Answer.TheVariants as answers
use Rattle.hmc_codes.specs.declared.answer.Acted.{Acted}
use Rattle.hmc_atomics.specs.declared.atomic.Atomic.{Atomic}
use Rattle.hmc_atomics.specs.Operations.{by_halves}
use Rattle.hmc_atomics.specs.Halves.{block_half}
use Rattle.hmc_atomics.specs.Effects.{Effect}
use Rattle.hmc_atomics.specs.Act.{acted_half, acted_block, effect_on, acted_of}
use Rattle.hmc_codes.specs.Answer.{CanReply, IsAnswer, is_returned}
use Rattle.hmc_serial.specs.declared.action.Action.{Action}
use Rattle.hmc_serial.specs.declared.action.Action.TheVariants.{Read, Write, ReadRegister, WriteRegister, Act, Work}
use Rattle.hmc_serial.specs.Actions.{action_of}
use Rattle.hmc_serial.specs.Cube.{CubeState, IsCube}
use Rattle.hmc_serial.specs.Errors.{memory_error, register_error, register_write_error, unit_error, acted_size, error_of}
use Rattle.hmc_serial.specs.Perform.{answer_unless_posted, unless_error, acted_answer, acted_at, block_at, block_start, is_high, leaves_worked, carry_out, perform_action, perform_on}
use Rattle.hmc_memory.proofs.KeptLemmas.{block_below}
use Rattle.hmc_serial.proofs.Errorless.{errorless, inside_capacity}
use Rattle.hmc_serial.proofs.Fine.{some_bytes}
use Rattle.hmc_serial.proofs.CommandLemmas.{asks_for_something, read_of, read_of_register, write_of_register, posted_is_unanswered, IsActedReply, acted_reply, unit_reply}
use Rattle.hmc_serial.proofs.Payloads.{unit_payload}
use Rattle.hmc_serial.proofs.WorkLemmas.{IsWorked, IsWorked-served, IsBlock-padded}

-- an answer is silent where the request is posted, and else can be carried
pub record IsCarried (posted : Bool) (answer : Answer) : Type 0 where
  pub silent : posted ≡ true → answer ≡ answers.Silent
  pub carried : posted ≡ false → CanReply answer
  pub fits : IsAnswer answer

-- an answer that can be carried, to a request that is not posted
answered : (posted : Bool) (answer : Answer) → posted ≡ false → CanReply answer → IsAnswer answer → IsCarried posted answer
answered posted answer is carried fits = record { silent = λ q. absurd (cc); carried = λ _. carried; fits = fits }

-- an answer that can be carried, unless the request is posted
unless : (command : Command) (answer : Answer) → CanReply answer → IsAnswer answer → IsCarried (is_posted command) (answer_unless_posted command answer)
unless command answer carried fits =
    elim (is_posted command) as (λ b. IsCarried b (if b then answers.Silent else answer)) [ true ↦ record { silent = λ _. refl; carried = λ q. absurd (cc); fits = tt } | false ↦ answered false answer refl carried fits ]

-- The numbers of errors are small.
three_numbers : (a b c : Bool) (e : ℕ) → (if a then Some 1 else (if b then Some 2 else (if c then Some 3 else None))) ≡ Some e → e < 7
three_numbers true b c e is = let same : 1 ≡ e = cc in subst (λ n. n < 7) same (lit< tt)
three_numbers false true c e is = let same : 2 ≡ e = cc in subst (λ n. n < 7) same (lit< tt)
three_numbers false false true e is = let same : 3 ≡ e = cc in subst (λ n. n < 7) same (lit< tt)
three_numbers false false false e is = absurd (cc)

two_numbers : (a b : Bool) (e : ℕ) → (if a then Some 4 else (if b then Some 5 else None)) ≡ Some e → e < 7
two_numbers true b e is = let same : 4 ≡ e = cc in subst (λ n. n < 7) same (lit< tt)
two_numbers false true e is = let same : 5 ≡ e = cc in subst (λ n. n < 7) same (lit< tt)
two_numbers false false e is = absurd (cc)

one_number : (a : Bool) (e : ℕ) → (if a then Some 4 else None) ≡ Some e → e < 7
one_number true e is = let same : 4 ≡ e = cc in subst (λ n. n < 7) same (lit< tt)
one_number false e is = absurd (cc)

memory_number : (shape : ShapeFields) (size : ℕ) (halves : Bool) (address e : ℕ) → memory_error shape size halves address ≡ Some e → e < 7
unfolding memory_error
memory_number shape size halves address e is = three_numbers _ _ _ e is

unit_number : (before : Option ℕ) (slots : List (Option UnitFields)) (cube code e : ℕ) → ((k : ℕ) → before ≡ Some k → k < 7) → unit_error before slots cube code ≡ Some e → e < 7
unit_number (Some k) slots cube code e small is = small e is
unit_number None slots cube code e small is =
    (elim (list_any (serves cube code) slots) as (λ b. (if b then None else Some 6) ≡ Some e → e < 7) [
      | true ↦ λ none. absurd (cc)
      | false ↦ λ six. let same : 6 ≡ e = cc in subst (λ n. n < 7) same (lit< tt)
    ]) is

error_number : (action : Action) (shape : ShapeFields) (slots : List (Option UnitFields)) (request : RequestFields) (e : ℕ) → error_of action shape slots request ≡ Some e → e < 7
unfolding register_error register_write_error
error_number (Read size) shape slots request e is = memory_number shape size false request.address e is
error_number Write shape slots request e is = memory_number shape (length request.payload) false request.address e is
error_number ReadRegister shape slots request e is = one_number _ e is
error_number WriteRegister shape slots request e is = two_numbers _ _ e is
error_number (Act op) shape slots request e is = memory_number shape (acted_size (by_halves op)) (by_halves op) request.address e is
error_number (Work code) shape slots request e is =
    unit_number (memory_error shape 16 false request.address) slots request.cube code e (λ k. memory_number shape 16 false request.address k) is

abbrev unserved : Bool → Option ℕ
unserved b = (if b then None else Some 6)

served_test : (b : Bool) → unserved b ≡ None → b ≡ true
served_test true is = refl
served_test false is = absurd (cc)

-- a unit command has no error only where the memory has none, and a unit serves
no_unit_error : (before : Option ℕ) (slots : List (Option UnitFields)) (cube code : ℕ) → unit_error before slots cube code ≡ None → (before ≡ None) × (list_any (serves cube code) slots ≡ true)
no_unit_error (Some k) slots cube code is = absurd (cc)
no_unit_error None slots cube code is =
    (refl, served_test (list_any (serves cube code) slots) is)

-- Bytes that are read.
pub length-range : (xs : List ℕ) (at size : ℕ) → at + size ≤ length xs → length (slice_range xs at (at + size)) ≡ size
length-range xs at size inside = omega (arith, length-take (at + size - at) (drop at xs), length-drop at xs)

pub IsBytes-range : (xs : List ℕ) (at next : ℕ) → IsBytes xs → IsBytes (slice_range xs at next)
IsBytes-range xs at next bytes = IsBytes-take (next - at) (drop at xs) (IsBytes-drop at xs bytes)

-- memory that has no error is inside
pub inside : (cube : CubeState) (size : ℕ) (halves : Bool) (address : ℕ) → IsCube cube → memory_error cube.shape size halves address ≡ None → address + size ≤ length cube.memory
inside cube size halves address kept none =
    let free = errorless cube.shape size halves address none in
    omega (arith, kept.capacity, inside_capacity cube.shape size address free.fits free.row)

-- the block of an address that is inside
pub block_inside : (cube : CubeState) (address : ℕ) → IsCube cube → address < length cube.memory → block_start address + 16 ≤ length cube.memory
block_inside cube address kept below =
    omega (arith, kept.capacity, block_below cube.shape (block_start address) kept.is_shape (omega arith) (omega (arith, kept.capacity)))

-- that block is a block of bytes
pub IsBlock-at : (cube : CubeState) (address : ℕ) → IsCube cube → address < length cube.memory → IsBlock (block_at cube.memory address)
IsBlock-at cube address kept below = record {
  sixteen = length-range cube.memory (block_start address) 16 (block_inside cube address kept below);
  are_bytes = IsBytes-range cube.memory (block_start address) (block_start address + 16) kept.bytes;
}

-- what an atomic command answers is a block of bytes
IsBlock-half : (high : Bool) (block : List ℕ) → IsBlock block → IsBlock (block_half high block ++ replicate 8 0)
IsBlock-half true block is = record {
  sixteen = omega (arith, length-append (drop 8 block) (replicate 8 0), length-drop 8 block, is.sixteen, length-replicate {A = ℕ} 8 0);
  are_bytes = IsBytes-append (drop 8 block) (replicate 8 0) (IsBytes-drop 8 block is.are_bytes) (IsBytes-zeros 8);
}
IsBlock-half false block is = record {
  sixteen = omega (arith, length-append (take 8 block) (replicate 8 0), length-take 8 block, is.sixteen, length-replicate {A = ℕ} 8 0);
  are_bytes = IsBytes-append (take 8 block) (replicate 8 0) (IsBytes-take 8 block is.are_bytes) (IsBytes-zeros 8);
}

IsBlock-acted : (op : Atomic) (high : Bool) (block operand : List ℕ) → IsBlock block → IsBlock (acted_of op high block operand).answer
unfolding acted_of
IsBlock-acted op high block operand is =
    let effect : Effect = effect_on op high block operand in
    elim (by_halves op) as (λ b. IsBlock (if b then acted_half high block effect else acted_block block effect).answer) [ true ↦ IsBlock-half high block is | false ↦ is ]

data_carried : (flag : Bool) (payload : List ℕ) (size : ℕ) → length payload ≡ size → is_returned size ≡ true → CanReply (answers.Read flag payload)
data_carried flag payload size long returned = ap is_returned long ∙ returned

by_reply : (reply : Option Command) (acted : Acted) → IsActedReply reply → IsBlock acted.answer → IsCarried (is_none reply) (acted_answer reply acted)
by_reply None acted is block = record { silent = λ _. refl; carried = λ q. absurd (cc); fits = tt }
by_reply (Some commands.RdRs) acted is block = answered false _ refl (data_carried acted.flag acted.answer 16 block.sixteen refl) block.are_bytes
by_reply (Some commands.WrRs) acted is block = answered false _ refl tt tt
by_reply (Some _) acted is block = absurd is

-- a request that asks for this of a cube, with these logic units
pub record IsAsked (cube : CubeState) (slots : List (Option UnitFields)) (request : RequestFields) (action : Action) : Type 0 where
  pub kept : IsCube cube
  pub is : IsRequest request
  pub asked : action_of request.command ≡ Some action
  pub no_error : error_of action cube.shape slots request ≡ None

-- the answer where there is no error
abbrev done : CubeState → List (Option UnitFields) → RequestFields → Action → Type 0
done cube slots request action = IsCarried (is_posted request.command) (carry_out action cube slots request).answer

read_done : (cube : CubeState) (slots : List (Option UnitFields)) (request : RequestFields) (size : ℕ) → IsAsked cube slots request (Read size) → done cube slots request (Read size)
read_done cube slots request size is =
    let read = read_of request.command size is.asked in
    answered _ _ read.answered
    (data_carried false _ size (length-range cube.memory request.address size (inside cube size false request.address is.kept is.no_error)) read.returned)
    (IsBytes-range cube.memory request.address (request.address + size) is.kept.bytes)

-- the answer to a command that acts on a block
reply_done : (request : RequestFields) (acted : Acted) → IsRequest request → IsActedReply (reply_of request.command) → IsBlock acted.answer → IsCarried (is_posted request.command) (acted_answer (reply_of request.command) acted)
reply_done request acted kept is block =
    subst (λ b. IsCarried b (acted_answer (reply_of request.command) acted)) (sym (posted_is_unanswered request.command kept.asks))
    (by_reply (reply_of request.command) acted is block)

acted_done : (cube : CubeState) (slots : List (Option UnitFields)) (request : RequestFields) (op : Atomic) → IsAsked cube slots request (Act op) → done cube slots request (Act op)
acted_done cube slots request op is =
    let first : request.address < length cube.memory = omega (arith, some_bytes (by_halves op), inside cube (acted_size (by_halves op)) (by_halves op) request.address is.kept is.no_error) in
    reply_done request (acted_at op cube.memory request.address request.payload) is.is (acted_reply request.command op is.asked)
    (IsBlock-acted op (is_high request.address) (block_at cube.memory request.address) (padded_bytes 16 request.payload) (IsBlock-at cube request.address is.kept first))

-- a unit command without an error has its block in the memory
pub unit_address : (cube : CubeState) (slots : List (Option UnitFields)) (request : RequestFields) (code : ℕ) → IsAsked cube slots request (Work code) → request.address < length cube.memory
unit_address cube slots request code is =
    let none = no_unit_error (memory_error cube.shape 16 false request.address) slots request.cube code is.no_error in
    omega (arith, inside cube 16 false request.address is.kept none.0)

-- it is served, and its unit makes blocks
pub unit_worked : (cube : CubeState) (slots : List (Option UnitFields)) (request : RequestFields) (code : ℕ) → IsAsked cube slots request (Work code)
    → IsWorked (bench_acted slots request.cube code (block_at cube.memory request.address) (padded_bytes 16 request.payload))
unit_worked cube slots request code is =
    let none = no_unit_error (memory_error cube.shape 16 false request.address) slots request.cube code is.no_error in
    let short : length request.payload ≤ 16 = omega (arith, is.is.payload, unit_payload request.command code is.asked) in
    IsWorked-served request.cube code (block_at cube.memory request.address) (padded_bytes 16 request.payload) slots
    (IsBlock-at cube request.address is.kept (unit_address cube slots request code is)) (IsBlock-padded request.payload short is.is.bytes) none.1

by_worked : (cube : CubeState) (slots : List (Option UnitFields)) (request : RequestFields) (worked : Option Acted) → IsRequest request → IsActedReply (reply_of request.command) → IsWorked worked
    → IsCarried (is_posted request.command) (leaves_worked cube slots request worked).answer
by_worked cube slots request None kept is worked = absurd worked
by_worked cube slots request (Some acted) kept is worked = reply_done request acted kept is worked.answer

worked_done : (cube : CubeState) (slots : List (Option UnitFields)) (request : RequestFields) (code : ℕ) → IsAsked cube slots request (Work code) → done cube slots request (Work code)
worked_done cube slots request code is =
    let block = block_at cube.memory request.address in
    let operand = padded_bytes 16 request.payload in
    by_worked cube (worked_slots slots request.cube code block operand) request (bench_acted slots request.cube code block operand) is.is (unit_reply request.command code is.asked) (unit_worked cube slots request code is)

all_done : (action : Action) (cube : CubeState) (slots : List (Option UnitFields)) (request : RequestFields) → IsAsked cube slots request action → done cube slots request action
all_done (Read size) cube slots request is = read_done cube slots request size is
all_done Write cube slots request is = unless request.command (answers.Done false) tt tt
all_done ReadRegister cube slots request is = answered _ _ (read_of_register request.command is.asked) tt (is.kept.are_registers.small request.address)
all_done WriteRegister cube slots request is = answered _ _ (write_of_register request.command is.asked) tt tt
all_done (Act op) cube slots request is = acted_done cube slots request op is
all_done (Work code) cube slots request is = worked_done cube slots request code is

-- with an error or without one
by_error : (error : Option ℕ) (action : Action) (cube : CubeState) (slots : List (Option UnitFields)) (request : RequestFields) → IsCube cube → IsRequest request → action_of request.command ≡ Some action →
    error_of action cube.shape slots request ≡ error → IsCarried (is_posted request.command) (unless_error error cube slots request.command (carry_out action cube slots request)).answer
by_error None action cube slots request kept is asked none = all_done action cube slots request (record { kept = kept; is = is; asked = asked; no_error = none })
by_error (Some errstat) action cube slots request kept is asked some =
    let small : errstat < 2 ^ 7 = omega (arith, error_number action cube.shape slots request errstat some) in
    unless request.command (answers.Refused errstat) small tt

by_action : (action : Option Action) (cube : CubeState) (slots : List (Option UnitFields)) (request : RequestFields) → IsCube cube → IsRequest request → action_of request.command ≡ action →
    IsCarried (is_posted request.command) (perform_action action cube slots request).answer
by_action None cube slots request kept is asked = absurd (asks_for_something request.command asked is.asks)
by_action (Some action) cube slots request kept is asked = by_error _ action cube slots request kept is asked refl

-- the answer to any request
pub performed_is_carried : (cube : CubeState) (slots : List (Option UnitFields)) (request : RequestFields) → IsCube cube → IsRequest request → IsCarried (is_posted request.command) (perform_on cube slots request).answer
unfolding perform_on
performed_is_carried cube slots request kept is = by_action (action_of request.command) cube slots request kept is refl
