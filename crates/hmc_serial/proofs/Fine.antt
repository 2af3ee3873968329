-- What the calls need to know of a request that has no error.
use Rattle.std.proofs.Common.{◌≡◌, ◌≤◌, ◌<◌, ◌∙◌, ◌+◌, ◌%◌, ℕ, Bool, true, false, lit≤, Some, None, length, sym, ap, subst, arith}
use Rattle.hmc_codes.specs.Shape.{ShapeFields, capacity_of}
use Rattle.hmc_codes.specs.Request.{RequestFields, IsRequest}
use Rattle.hmc_atomics.specs.declared.atomic.Atomic.{Atomic}
use Rattle.hmc_atomics.specs.Operations.{by_halves}
use Rattle.hmc_serial.specs.declared.action.Action.{Action}
use Rattle.hmc_serial.specs.declared.action.Action.TheVariants.{Read, Write, ReadRegister, WriteRegister, Act, Work}
use Rattle.hmc_serial.specs.Actions.{action_of}
use Rattle.hmc_serial.specs.Errors.{memory_error, acted_size}
use Rattle.hmc_serial.specs.Tested.{cube_error}
use Rattle.hmc_serial.proofs.Errorless.{errorless, aligned_block, inside_capacity, register_there, register_written}
use Rattle.hmc_serial.proofs.Payloads.{read_size, register_payload, acted_payload, unit_payload}

-- a request that asks for this and has no error; the fields that were read of it are `own`
pub record IsFine (shape : ShapeFields) (action : Action) (own request : RequestFields) : Type 0 where
  pub asks : action_of request.command ≡ Some action
  pub no_error : cube_error action shape request ≡ None
  pub kept : IsRequest request
  pub view_is : own ≡ request

own_address : (shape : ShapeFields) (action : Action) (own request : RequestFields) → IsFine shape action own request → request.address ≡ own.address
own_address shape action own request fine = sym (ap (λ r. r.address) fine.view_is)

-- where the bytes from an address on are whole blocks inside
pub record AreBlocks (shape : ShapeFields) (address size : ℕ) : Type 0 where
  pub multiple : address % 16 ≡ 0
  pub inside : address + size ≤ capacity_of shape

blocks : (shape : ShapeFields) (address size : ℕ) → memory_error shape size false address ≡ None → AreBlocks shape address size
blocks shape address size none =
    let free = errorless shape size false address none in
    record { multiple = aligned_block address free.aligned; inside = inside_capacity shape size address free.fits free.row }

at_own : (shape : ShapeFields) (action : Action) (own request : RequestFields) (size : ℕ) → IsFine shape action own request → AreBlocks shape request.address size → AreBlocks shape own.address size
at_own shape action own request size fine found = subst (λ a. AreBlocks shape a size) (own_address shape action own request fine) found

pub read_blocks : (shape : ShapeFields) (action : Action) (own request : RequestFields) (size : ℕ) → action ≡ Read size → IsFine shape action own request → AreBlocks shape own.address size
read_blocks shape action own request size is fine =
    at_own shape action own request size fine
    (blocks shape request.address size (ap (λ a. cube_error a shape request) (sym is) ∙ fine.no_error))

pub read_sizes : (shape : ShapeFields) (action : Action) (own request : RequestFields) (size : ℕ) → action ≡ Read size → IsFine shape action own request → (size % 16 ≡ 0) × (size ≤ 256)
read_sizes shape action own request size is fine = read_size request.command size (fine.asks ∙ ap Some is)

pub write_blocks : (shape : ShapeFields) (action : Action) (own request : RequestFields) → action ≡ Write → IsFine shape action own request → AreBlocks shape own.address (length own.payload)
write_blocks shape action own request is fine =
    at_own shape action own request (length own.payload) fine
    (subst (λ r. AreBlocks shape request.address (length r.payload)) (sym fine.view_is)
    (blocks shape request.address (length request.payload) (ap (λ a. cube_error a shape request) (sym is) ∙ fine.no_error)))

pub read_register_there : (shape : ShapeFields) (action : Action) (own request : RequestFields) → action ≡ ReadRegister → IsFine shape action own request → own.address < 16
read_register_there shape action own request is fine =
    subst (λ a. a < 16) (own_address shape action own request fine)
    (register_there request.address (ap (λ a. cube_error a shape request) (sym is) ∙ fine.no_error))

pub write_register_there : (shape : ShapeFields) (action : Action) (own request : RequestFields) → action ≡ WriteRegister → IsFine shape action own request → (own.address < 16) × (4 ≤ own.address)
write_register_there shape action own request is fine =
    subst (λ a. (a < 16) × (4 ≤ a)) (own_address shape action own request fine)
    (register_written request.address (ap (λ a. cube_error a shape request) (sym is) ∙ fine.no_error))

pub write_register_long : (shape : ShapeFields) (action : Action) (own request : RequestFields) → action ≡ WriteRegister → IsFine shape action own request → length own.payload ≡ 16
write_register_long shape action own request is fine =
    ap (λ r. length r.payload) fine.view_is ∙ fine.kept.payload ∙ register_payload request.command (fine.asks ∙ ap Some is)

pub acted_short : (shape : ShapeFields) (action : Action) (own request : RequestFields) (op : Atomic) → action ≡ Act op → IsFine shape action own request → length own.payload ≤ 16
acted_short shape action own request op is fine =
    omega (arith, ap (λ r. length r.payload) fine.view_is, fine.kept.payload, acted_payload request.command op (fine.asks ∙ ap Some is))

-- an atomic command touches 8 bytes at least
pub some_bytes : (halves : Bool) → 8 ≤ acted_size halves
some_bytes false = lit≤ tt
some_bytes true = lit≤ tt

pub acted_inside : (shape : ShapeFields) (action : Action) (own request : RequestFields) (op : Atomic) → action ≡ Act op → IsFine shape action own request → own.address < capacity_of shape
acted_inside shape action own request op is fine =
    let none : memory_error shape (acted_size (by_halves op)) (by_halves op) request.address ≡ None = ap (λ a. cube_error a shape request) (sym is) ∙ fine.no_error in
    let free = errorless shape (acted_size (by_halves op)) (by_halves op) request.address none in
    let inside = inside_capacity shape (acted_size (by_halves op)) request.address free.fits free.row in
    subst (λ a. a < capacity_of shape) (own_address shape action own request fine) (omega (arith, inside, some_bytes (by_halves op)))

-- a logic unit works on a block
pub worked_short : (request : RequestFields) (action : Action) (code : ℕ) → action ≡ Work code → action_of request.command ≡ Some action → IsRequest request → length request.payload ≤ 16
worked_short request action code is asks kept = omega (arith, kept.payload, unit_payload request.command code (asks ∙ ap Some is))

pub worked_inside : (shape : ShapeFields) (request : RequestFields) (action : Action) (code : ℕ) → action ≡ Work code → cube_error action shape request ≡ None → request.address < capacity_of shape
worked_inside shape request action code is none =
    let free = errorless shape 16 false request.address (ap (λ a. cube_error a shape request) (sym is) ∙ none) in
    omega (arith, inside_capacity shape 16 request.address free.fits free.row)
