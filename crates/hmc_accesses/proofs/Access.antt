-- Reads, writes and masked writes that have no error, on a machine.
use Rattle.std.proofs.Common.{◌≡◌, ◌≤◌, ◌<◌, ◌∙◌, ◌+◌, ◌-◌, ◌%◌, inl, inr, ℕ, Bool, true, false, List, [], length, take, drop, Option, Some, None, refl, sym, ap, subst, arith}
use Rattle.std.specs.Prelude.{slice_index, slice_range, ◌==◌, if◌then◌else◌, map}
use Rattle.std.specs.List.{All}
use Rattle.std.specs.Int.{w64, from_le_bytes, to_le_bytes}
use Rattle.std.proofs.lemmas.Bool.Decides.{nat_tests}
use Rattle.std.proofs.lemmas.Bool.{cases_eq, eq-eqb, ne_eqb}
use Rattle.std.proofs.lemmas.List.{get_or-set_same, get_or-set_other, get_or-take, get_or-drop, length-take, length-drop, length-set, ext_get_or}
use Rattle.std.proofs.lemmas.List.FromFn.{length-map-range_with_len, get_or-map-range_with_len}
use Rattle.std.proofs.lemmas.List.Elements.{All-set}
use Rattle.hmc_codes.specs.Bytes.{IsBytes, padded_bytes}
use Rattle.hmc_codes.specs.Numbers.{upto}
use Rattle.hmc_codes.specs.Commands.{reply_of, payload_len_of, is_posted}
use Rattle.hmc_codes.specs.Table.{table_line}
use Rattle.hmc_codes.specs.Request.{RequestFields, IsRequest}
use Rattle.hmc_codes.specs.Shape.{ShapeFields}
use Rattle.hmc_codes.specs.declared.answer.Answer.{Answer}
use Rattle.hmc_codes.specs.declared.answer.Answer.TheVariants as answers
use Rattle.hmc_codes.specs.declared.command.Command.TheVariants as commands
use Rattle.hmc_codes.proofs.BytesLemmas.{IsBytes-take, IsBytes-drop}
use Rattle.hmc_units.specs.Unit.{UnitFields}
use Rattle.hmc_atomics.specs.declared.atomic.Atomic.TheVariants.{Bwr}
use Rattle.hmc_atomics.specs.Act.{acted_of}
use Rattle.hmc_atomics.specs.Effects.{effect_of}
use Rattle.hmc_atomics.specs.Halves.{block_half, with_half}
use Rattle.hmc_memory.specs.Banks.{written_bytes}
use Rattle.hmc_serial.specs.Actions.{action_of}
use Rattle.hmc_serial.specs.Cube.{CubeState, IsCube}
use Rattle.hmc_serial.specs.Errors.{error_of, memory_error}
use Rattle.hmc_serial.specs.Machine.{State, apply, answer_to, cube_state_at, performed, no_cube_state}
use Rattle.hmc_serial.specs.declared.action.Action.{Action}
use Rattle.hmc_serial.specs.declared.action.Action.TheVariants.{Read, Write, ReadRegister, WriteRegister, Act, Work}
use Rattle.hmc_serial.specs.Perform.{block_start, block_at, is_high, acted_at, perform_on, perform_action, unless_error, carry_out, answer_unless_posted, acted_answer}
use Rattle.hmc_serial.proofs.AnswerLemmas.{inside, block_inside, length-range, IsBlock-at}
use Rattle.hmc_serial.proofs.CubeLemmas.{IsCube-performed}
use Rattle.hmc_serial.proofs.Errorless.{errorless}
use Rattle.hmc_serial.proofs.WorkLemmas.{IsBlock-padded}
use Rattle.hmc_accesses.proofs.Merged.{merged, merged_number, merged_half}
use Rattle.hmc_accesses.proofs.Touched.{touched_by, written_at, mixed_memory, then_is, else_is}

-- a read, a write that is not posted, or a masked write
abbrev pub IsPlain : Action → RequestFields → Type 0
IsPlain (Read size) request = Unit {0}
IsPlain Write request = Unit {0}
IsPlain (Act op) request = (op ≡ Bwr) × (request.command ≡ commands.Bwr)
IsPlain _ request = ⊥

-- an access to a cube of this shape that has no error
pub record IsAccess (shape : ShapeFields) (request : RequestFields) : Type 0 where
  pub action : Action
  pub asks : action_of request.command ≡ Some action
  pub plain : IsPlain action request
  pub no_error : error_of action shape [] request ≡ None
  pub is : IsRequest request
  pub some_block : 0 < shape.block
  pub answered : is_posted request.command ≡ false

-- what it touches of its cube
abbrev pub touched_here : Option Action → RequestFields → (a old : ℕ) → ℕ
touched_here None request a old = old
touched_here (Some action) request a old = touched_by action request.address request.payload a old

-- logic units don't count
no_units : (action : Action) (shape : ShapeFields) (slots : List (Option UnitFields))
    (request : RequestFields) → IsPlain action request → error_of action shape [] request ≡ None →
    error_of action shape slots request ≡ None
no_units (Read size) shape slots request plain none = none
no_units Write shape slots request plain none = none
no_units ReadRegister shape slots request plain none = absurd plain
no_units WriteRegister shape slots request plain none = absurd plain
no_units (Act op) shape slots request plain none = none
no_units (Work code) shape slots request plain none = absurd plain

-- it is carried out
pub performed_is : (cube : CubeState) (slots : List (Option UnitFields)) (request : RequestFields)
    (access : IsAccess cube.shape request) → perform_on cube slots request ≡ carry_out access.action
    cube slots request
unfolding perform_on
performed_is cube slots request access =
    ap (λ a. perform_action a cube slots request) access.asks
    ∙ ap (λ e. unless_error e cube slots request.command
    (carry_out access.action cube slots request))
    (no_units access.action cube.shape slots request access.plain access.no_error)

-- the block of a masked write
bwr_block : (high : Bool) (block operand : List ℕ) → (acted_of Bwr high block operand).block
    ≡ with_half high block (to_le_bytes w64
    (merged_number (from_le_bytes w64 (block_half high block)) (from_le_bytes w64 (take 8 operand))
    (from_le_bytes w64 (drop 8 operand))))
unfolding acted_of effect_of
bwr_block high block operand = refl

half_long : (high : Bool) (block : List ℕ) → length block ≡ 16 → length (block_half high block) ≡ 8
half_long true block long = omega (arith, length-drop 8 block)
half_long false block long = omega (arith, length-take 8 block)

half_bytes : (high : Bool) (block : List ℕ) → IsBytes block → IsBytes (block_half high block)
half_bytes true block bytes = IsBytes-drop 8 block bytes
half_bytes false block bytes = IsBytes-take 8 block bytes

bwr_value : (high : Bool) (block operand : List ℕ) (j : ℕ) → j < 8 → length block ≡ 16 →
    IsBytes block → length operand ≡ 16 → IsBytes operand →
    slice_index (to_le_bytes w64 (merged_number (from_le_bytes w64 (block_half high block))
    (from_le_bytes w64 (take 8 operand)) (from_le_bytes w64 (drop 8 operand)))) j
    ≡ merged (slice_index (drop 8 operand) j) (slice_index (take 8 operand) j)
    (slice_index (block_half high block) j)
bwr_value high block operand j less long bytes op_long op_bytes =
    merged_half (block_half high block) (take 8 operand) (drop 8 operand) j less
    (half_long high block long) (omega (arith, length-take 8 operand))
    (omega (arith, length-drop 8 operand))
    (half_bytes high block bytes) (IsBytes-take 8 operand op_bytes)
    (IsBytes-drop 8 operand op_bytes)

misaligned_none : (shape : ShapeFields) (size address : ℕ) → memory_error shape size true address
    ≡ None → address % 8 ≡ 0
misaligned_none shape size address none = let free =
    (errorless shape size true address none).aligned in grind (arith, nat_tests)

-- the bytes that a masked write leaves
bwr_bytes : (cube : CubeState) (address : ℕ) (payload : List ℕ) (a : ℕ) → IsCube cube →
    length payload ≤ 16 → IsBytes payload → memory_error cube.shape 8 true address ≡ None →
    slice_index (written_bytes cube.memory (block_start address)
    (acted_at Bwr cube.memory address payload).block) a ≡ touched_by (Act Bwr) address payload a
    (slice_index cube.memory a)
bwr_bytes cube address payload a is short bytes none =
    let within = inside cube 8 true address is none in
    let there : address < length cube.memory = omega arith in
    let block = block_at cube.memory address in
    let operand = padded_bytes 16 payload in
    let kept = IsBlock-at cube address is there in
    let given = IsBlock-padded payload short bytes in
    let high = is_high address in
    ap (λ b. slice_index (written_bytes cube.memory (block_start address) b) a)
    (bwr_block high block operand)
    ∙ mixed_memory cube.memory block
    (to_le_bytes w64 (merged_number (from_le_bytes w64 (block_half high block))
    (from_le_bytes w64 (take 8 operand)) (from_le_bytes w64 (drop 8 operand))))
    (λ j old. merged (slice_index (drop 8 operand) j) (slice_index (take 8 operand) j) old) address
    a high refl (misaligned_none cube.shape 8 address none) refl kept.sixteen refl
    (block_inside cube address is there)
    (λ j less. bwr_value high block operand j less kept.sixteen kept.are_bytes given.sixteen
    given.are_bytes)

-- a masked write has sixteen bytes
bwr_long : (request : RequestFields) → IsRequest request → request.command ≡ commands.Bwr →
    length request.payload ≡ 16
unfolding table_line
bwr_long request is command = is.payload ∙ ap payload_len_of command

carried_bytes : (action : Action) (cube : CubeState) (slots : List (Option UnitFields))
    (request : RequestFields) → IsCube cube → IsPlain action request →
    error_of action cube.shape [] request ≡ None → IsRequest request → (a : ℕ) →
    slice_index (carry_out action cube slots request).cube.memory a ≡ touched_by action
    request.address request.payload a (slice_index cube.memory a)
carried_bytes (Read size) cube slots request is plain none asked a = refl
carried_bytes Write cube slots request is plain none asked a =
    written_at cube.memory request.address request.payload a
    (inside cube (length request.payload) false request.address is none)
carried_bytes ReadRegister cube slots request is plain none asked a = absurd plain
carried_bytes WriteRegister cube slots request is plain none asked a = absurd plain
carried_bytes (Act op) cube slots request is plain none asked a =
    let long = bwr_long request asked plain.1 in
    let at : (error_of (Act Bwr) cube.shape [] request ≡ None) →
    slice_index (carry_out (Act Bwr) cube slots request).cube.memory a ≡ touched_by
    (Act Bwr) request.address request.payload a (slice_index cube.memory a) =
    λ free. bwr_bytes cube request.address request.payload a is (omega arith) asked.bytes free in
    subst (λ o. (error_of (Act o) cube.shape [] request ≡ None) →
    slice_index (carry_out (Act o) cube slots request).cube.memory a ≡ touched_by
    (Act o) request.address request.payload a (slice_index cube.memory a)) (sym plain.0) at none
carried_bytes (Work code) cube slots request is plain none asked a = absurd plain

carried_shape : (action : Action) (cube : CubeState) (slots : List (Option UnitFields))
    (request : RequestFields) → IsPlain action request →
    (carry_out action cube slots request).cube.shape ≡ cube.shape
carried_shape (Read size) cube slots request plain = refl
carried_shape Write cube slots request plain = refl
carried_shape ReadRegister cube slots request plain = absurd plain
carried_shape WriteRegister cube slots request plain = absurd plain
carried_shape (Act op) cube slots request plain = refl
carried_shape (Work code) cube slots request plain = absurd plain

-- the answer to an access, by the bytes from its address on
abbrev pub expected : Action → RequestFields → (ℕ → ℕ) → Answer
expected (Read size) request byte = answers.Read false (map byte (upto size))
expected Write request byte = answer_unless_posted request.command (answers.Done false)
expected (Act op) request byte = answers.Done false
expected _ request byte = answers.Silent

pub range_bytes : (memory : List ℕ) (address size : ℕ) → address + size ≤ length memory →
    slice_range memory address (address + size) ≡ map (λ k. slice_index memory (address + k))
    (upto size)
range_bytes memory address size fits =
    let byte : ℕ → ℕ = λ k. slice_index memory (address + k) in
    let long : length (map byte (upto size)) ≡ size = length-map-range_with_len byte 0 size in
    ext_get_or 0 (slice_range memory address (address + size)) (map byte (upto size))
    (length-range memory address size fits ∙ sym long)
    (λ i less. let less_size : i < size = omega (arith, length-range memory address size fits) in
    get_or-take (address + size - address) (drop address memory) i 0 (omega arith)
    ∙ get_or-drop address memory i 0
    ∙ sym (get_or-map-range_with_len byte 0 size i i 0 less_size (omega arith)))

bwr_answer : (high : Bool) (block operand : List ℕ) → (acted_of Bwr high block operand).flag ≡ false
unfolding acted_of effect_of
bwr_answer high block operand = refl

carried_answer : (action : Action) (cube : CubeState) (slots : List (Option UnitFields))
    (request : RequestFields) → IsCube cube → IsPlain action request →
    error_of action cube.shape [] request ≡ None →
    (carry_out action cube slots request).answer ≡ expected action request
    (λ k. slice_index cube.memory (request.address + k))
unfolding table_line
carried_answer (Read size) cube slots request is plain none =
    ap (answers.Read false) (range_bytes cube.memory request.address size
    (inside cube size false request.address is none))
carried_answer Write cube slots request is plain none = refl
carried_answer ReadRegister cube slots request is plain none = absurd plain
carried_answer WriteRegister cube slots request is plain none = absurd plain
carried_answer (Act op) cube slots request is plain none =
    ap (λ c. acted_answer (reply_of c) (acted_at op cube.memory request.address request.payload))
    plain.1
    ∙ ap answers.Done (ap (λ o. (acted_at o cube.memory request.address request.payload).flag)
    plain.0 ∙ bwr_answer (is_high request.address) (block_at cube.memory request.address)
    (padded_bytes 16 request.payload))
carried_answer (Work code) cube slots request is plain none = absurd plain

-- a machine of so many cubes of these shapes
pub record Holds (count : ℕ) (shape_at : ℕ → ShapeFields) (state : State) : Type 0 where
  pub many : length state.cubes ≡ count
  pub cubes : All IsCube state.cubes
  pub shapes : (c : ℕ) → (cube_state_at state c).shape ≡ shape_at c

-- the byte of a cube at an address
abbrev pub byte_in : State → (cube address : ℕ) → ℕ
byte_in state cube address = slice_index (cube_state_at state cube).memory address

-- what a request leaves of a byte of a cube
abbrev pub touched : RequestFields → (cube address old : ℕ) → ℕ
touched request cube address old = if cube == request.cube then touched_here
    (action_of request.command) request address old else old

-- an access to one of the cubes
pub record IsAccessOf (count : ℕ) (shape_at : ℕ → ShapeFields) (request : RequestFields) : Type 0
  where
    pub there : request.cube < count
    pub access : IsAccess (shape_at request.cube) request

cube_of : (count : ℕ) (shape_at : ℕ → ShapeFields) (state : State) (cube : ℕ) →
    Holds count shape_at state → cube < count → IsCube (cube_state_at state cube)
cube_of count shape_at state cube holds less =
    holds.cubes cube no_cube_state (omega (arith, holds.many))

at_cube : (count : ℕ) (shape_at : ℕ → ShapeFields) (state : State) (request : RequestFields) →
    Holds count shape_at state → IsAccessOf count shape_at request →
    IsAccess (cube_state_at state request.cube).shape request
at_cube count shape_at state request holds of =
    subst (λ s. IsAccess s request) (sym (holds.shapes request.cube)) of.access

-- what a request leaves of its cube
cube_bytes : (cube : CubeState) (slots : List (Option UnitFields)) (request : RequestFields) →
    IsCube cube → IsAccess cube.shape request → (a : ℕ) →
    slice_index (perform_on cube slots request).cube.memory a ≡ touched_here
    (action_of request.command) request a (slice_index cube.memory a)
cube_bytes cube slots request is access a =
    ap (λ o. slice_index o.cube.memory a) (performed_is cube slots request access)
    ∙ carried_bytes access.action cube slots request is access.plain access.no_error access.is a
    ∙ ap (λ o. touched_here o request a (slice_index cube.memory a)) (sym access.asks)

cube_shape : (cube : CubeState) (slots : List (Option UnitFields)) (request : RequestFields) →
    IsAccess cube.shape request → (perform_on cube slots request).cube.shape ≡ cube.shape
cube_shape cube slots request access =
    ap (λ o. o.cube.shape) (performed_is cube slots request access)
    ∙ carried_shape access.action cube slots request access.plain

-- the cubes after a request
after_same : (state : State) (request : RequestFields) (c : ℕ) → request.cube < length state.cubes →
    c ≡ request.cube → cube_state_at (apply state request) c ≡ (performed state request).cube
unfolding apply
after_same state request c less same = ap (λ k. cube_state_at (apply state request) k) same
    ∙ get_or-set_same state.cubes request.cube (performed state request).cube no_cube_state less

after_other : (state : State) (request : RequestFields) (c : ℕ) → (c ≡ request.cube → ⊥) →
    cube_state_at (apply state request) c ≡ cube_state_at state c
unfolding apply
after_other state request c other = get_or-set_other state.cubes request.cube c
    (performed state request).cube no_cube_state other

pub Holds-apply : (count : ℕ) (shape_at : ℕ → ShapeFields) (state : State) (request : RequestFields)
    → Holds count shape_at state → IsAccessOf count shape_at request →
    Holds count shape_at (apply state request)
unfolding apply
Holds-apply count shape_at state request holds of =
    let is = cube_of count shape_at state request.cube holds of.there in
    let access = at_cube count shape_at state request holds of in
    let inside : request.cube < length state.cubes = omega (arith, holds.many, of.there) in record {
      many = length-set state.cubes request.cube (performed state request).cube ∙ holds.many;
      cubes = All-set IsCube state.cubes request.cube (performed state request).cube
          (IsCube-performed (cube_state_at state request.cube) state.slots request is access.is)
          holds.cubes;
      shapes = λ c. elim (cases_eq c request.cube) as (λ _.
          (cube_state_at (apply state request) c).shape ≡ shape_at c) [
            | inl same ↦ ap (λ k. k.shape) (after_same state request c inside same)
                ∙ cube_shape (cube_state_at state request.cube) state.slots request access
                ∙ holds.shapes request.cube ∙ ap shape_at (sym same)
            | inr other ↦ ap (λ k. k.shape) (after_other state request c other) ∙ holds.shapes c
          ];
    }

pub apply_bytes : (count : ℕ) (shape_at : ℕ → ShapeFields) (state : State) (request : RequestFields)
    → Holds count shape_at state → IsAccessOf count shape_at request → (c a : ℕ) →
    byte_in (apply state request) c a ≡ touched request c a (byte_in state c a)
apply_bytes count shape_at state request holds of c a =
    let is = cube_of count shape_at state request.cube holds of.there in
    let access = at_cube count shape_at state request holds of in
    let inside : request.cube < length state.cubes = omega (arith, holds.many, of.there) in
    elim (cases_eq c request.cube) as (λ _. byte_in (apply state request) c a ≡ touched request c a
    (byte_in state c a)) [
      | inl same ↦ ap (λ k. slice_index k.memory a) (after_same state request c inside same)
          ∙ cube_bytes (cube_state_at state request.cube) state.slots request is access a
          ∙ ap (λ k. touched_here (action_of request.command) request a (byte_in state k a))
          (sym same)
          ∙ sym (then_is (c == request.cube) (touched_here (action_of request.command) request a
          (byte_in state c a)) (byte_in state c a) (eq-eqb c request.cube same))
      | inr other ↦ ap (λ k. slice_index k.memory a) (after_other state request c other)
          ∙ sym (else_is (c == request.cube) (touched_here (action_of request.command) request a
          (byte_in state c a)) (byte_in state c a) (ne_eqb c request.cube other))
    ]

-- the answer, by the bytes that the request finds
abbrev pub expected_by : Option Action → RequestFields → (ℕ → ℕ) → Answer
expected_by None request byte = answers.Silent
expected_by (Some action) request byte = expected action request byte

pub answer_is : (count : ℕ) (shape_at : ℕ → ShapeFields) (state : State) (request : RequestFields) →
    Holds count shape_at state → IsAccessOf count shape_at request →
    answer_to state request ≡ expected_by (action_of request.command) request
    (λ k. byte_in state request.cube (request.address + k))
unfolding answer_to
answer_is count shape_at state request holds of =
    let is = cube_of count shape_at state request.cube holds of.there in
    let access = at_cube count shape_at state request holds of in
    let cube = cube_state_at state request.cube in
    ap (λ o. o.answer) (performed_is cube state.slots request access)
    ∙ carried_answer access.action cube state.slots request is access.plain access.no_error
    ∙ ap (λ o. expected_by o request (λ k. byte_in state request.cube (request.address + k)))
    (sym access.asks)
