-- The requests of runs and of masked halves have no error.
use Rattle.std.proofs.Common.{◌≡◌, ◌≤◌, ◌<◌, ◌∙◌, ◌+◌, ◌-◌, ◌*◌, ◌/◌, ◌%◌, ◌^◌, ℕ, zero, suc, Bool, true, false, not, List, [], ◌∷◌, length, Some, None, refl, sym, ap, subst, arith}
use Rattle.std.specs.Prelude.{slice_index, ◌==◌, ◌||◌, nat_lt, nat_le, if◌then◌else◌, map}
use Rattle.std.specs.List.{range_with_len}
use Rattle.std.proofs.lemmas.Bool.{eq-eqb, le-ltb, lt-leb}
use Rattle.std.proofs.lemmas.Nat.{div_below, pow_pos}
use Rattle.std.proofs.lemmas.List.{length-append}
use Rattle.std.proofs.lemmas.List.FromFn.{length-map-range_with_len}
use Rattle.hmc_atomics.specs.declared.atomic.Atomic.TheVariants.{Bwr}
use Rattle.hmc_codes.specs.Bytes.{IsBytes}
use Rattle.hmc_codes.specs.Commands.{payload_len_of, is_posted, family_of}
use Rattle.hmc_codes.specs.Table.{table_line}
use Rattle.hmc_codes.specs.Request.{IsRequest}
use Rattle.hmc_codes.specs.Shape.{ShapeFields, capacity_of, offset_of, row_of}
use Rattle.hmc_codes.specs.declared.command.Command.{Command}
use Rattle.hmc_codes.specs.declared.command.Command.TheVariants as commands
use Rattle.hmc_codes.specs.declared.family.Family.TheVariants as families
use Rattle.hmc_codes.proofs.BytesLemmas.{IsBytes-append, IsBytes-[]}
use Rattle.hmc_serial.specs.Actions.{action_of}
use Rattle.hmc_serial.specs.Errors.{memory_error, is_misaligned}
use Rattle.hmc_serial.specs.declared.action.Action.{Action}
use Rattle.hmc_serial.specs.declared.action.Action.TheVariants.{Read, Write, WriteRegister, Act}
use Rattle.hmc_accesses.specs.declared.span.Span.{Span}
use Rattle.hmc_accesses.specs.Requests.{within, masked_bytes, read_at, write_at, read_command, write_command}
use Rattle.hmc_accesses.proofs.Access.{IsAccessOf}
use Rattle.hmc_accesses.proofs.Sizes.{IsSize, few, whole, reading, writing}
use Rattle.hmc_accesses.proofs.Storing.{stored_byte, half_request, bwr_action}
use Rattle.hmc_accesses.proofs.Touched.{else_is}

-- a cube of a trace
pub record IsTraceCube (count : ℕ) (shape_at : ℕ → ShapeFields) (cube : ℕ) : Type 0 where
  pub there : cube < count
  pub few : count ≤ 8
  pub block : (shape_at cube).block ≡ 256
  pub small : capacity_of (shape_at cube) ≤ 2 ^ 34

row_there : (shape : ShapeFields) (address : ℕ) → shape.block ≡ 256 → address < capacity_of shape →
    row_of shape address < shape.rows
row_there shape address is less =
    let v = 2 ^ shape.vault_bits in
    let b = 2 ^ shape.bank_bits in
    let some_v : 0 < 2 ^ shape.vault_bits = pow_pos shape.vault_bits in
    let some_b : 0 < 2 ^ shape.bank_bits = pow_pos shape.bank_bits in
    let one : address / shape.block < 2 ^ shape.vault_bits * 2 ^ shape.bank_bits * shape.rows =
    div_below address shape.block (2 ^ shape.vault_bits * 2 ^ shape.bank_bits * shape.rows)
    (omega arith) (omega arith) in
    let two : address / shape.block / 2 ^ shape.vault_bits < 2 ^ shape.bank_bits * shape.rows =
    div_below (address / shape.block) (2 ^ shape.vault_bits) (2 ^ shape.bank_bits * shape.rows)
    some_v (omega arith) in
    div_below (address / shape.block / 2 ^ shape.vault_bits) (2 ^ shape.bank_bits) shape.rows some_b
    (omega arith)

no_error : (shape : ShapeFields) (size : ℕ) (halves : Bool) (address : ℕ) → shape.block ≡ 256 →
    is_misaligned halves address ≡ false → address % 256 + size ≤ 256 → address < capacity_of shape
    → memory_error shape size halves address ≡ None
unfolding memory_error
no_error shape size halves address is aligned fits less =
    let inside : offset_of shape address + size ≤ shape.block =
    subst (λ b. address % b + size ≤ b) (sym is) fits in
    else_is (is_misaligned halves address) (Some 1) _ aligned
    ∙ else_is (nat_lt shape.block (offset_of shape address + size)) (Some 2) _
    (le-ltb shape.block (offset_of shape address + size) inside)
    ∙ else_is (nat_le shape.rows (row_of shape address)) (Some 3) None
    (lt-leb shape.rows (row_of shape address) (row_there shape address is less))

aligned_16 : (address : ℕ) → address % 16 ≡ 0 → is_misaligned false address ≡ false
aligned_16 address is =
    ap (λ b. not b || not (address / 8 % 2 == 0)) (eq-eqb (address % 8) 0 (omega arith))
    ∙ ap not (eq-eqb (address / 8 % 2) 0 (omega arith))

aligned_8 : (address : ℕ) → address % 8 ≡ 0 → is_misaligned true address ≡ false
aligned_8 address is = ap (λ b. not b || false) (eq-eqb (address % 8) 0 is)

not_mdwr : (command : Command) (action : Action) → action_of command ≡ Some action →
    (WriteRegister ≡ action → ⊥) → command ≡ commands.Mdwr → ⊥
unfolding action_of
not_mdwr command action is other same = other (let e : action_of commands.Mdwr ≡ Some action =
    ap action_of (sym same) ∙ is in cc)

pub IsBytes-map : {X : Type 0} (f : X → ℕ) (xs : List X) → ((x : X) → f x < 256) →
    IsBytes (map f xs)
IsBytes-map f [] small k = IsBytes-[] k
IsBytes-map f (x ∷ xs) small zero = small x
IsBytes-map f (x ∷ xs) small (suc k) = IsBytes-map f xs small k

size_some : (blocks : ℕ) → IsSize blocks → 1 ≤ blocks
size_some blocks (few some most) = some
size_some blocks (whole is) = omega arith

pub read_is : (cube address blocks : ℕ) → IsSize blocks → cube < 8 → address < 2 ^ 34 →
    IsRequest (read_at cube address blocks)
read_is cube address blocks size eight small =
    let command = reading blocks size in record {
      asks = command.asks;
      cube = eight;
      address = small;
      payload = sym command.empty;
      bytes = IsBytes-[];
      zeros = λ same. absurd (not_mdwr (read_command blocks) (Read (16 * blocks)) command.action
          (λ e. absurd (cc)) same);
    }

pub access_read : (count : ℕ) (shape_at : ℕ → ShapeFields) (cube address blocks : ℕ) →
    IsTraceCube count shape_at cube → IsSize blocks → address % 16 ≡ 0 →
    address % 256 + 16 * blocks ≤ 256 → address + 16 * blocks ≤ capacity_of (shape_at cube) →
    IsAccessOf count shape_at (read_at cube address blocks)
access_read count shape_at cube address blocks is size aligned fits inside =
    let command = reading blocks size in
    let some = size_some blocks size in record {
      there = is.there;
      access = record {
        action = Read (16 * blocks);
        asks = command.action;
        plain = tt;
        no_error = no_error (shape_at cube) (16 * blocks) false address is.block
            (aligned_16 address aligned) fits (omega arith);
        is = read_is cube address blocks size (omega (arith, is.there, is.few))
            (omega (arith, is.small));
        some_block = omega (arith, is.block);
        answered = command.answered;
      };
    }

pub write_is : (cube place : ℕ) (bytes : List ℕ) (address blocks : ℕ) →
    ((a : ℕ) → stored_byte place bytes a < 256) → IsSize blocks → cube < 8 → address < 2 ^ 34 →
    IsRequest (write_at cube place bytes address blocks)
write_is cube place bytes address blocks small size eight below =
    let command = writing blocks size in
    let long : length (write_at cube place bytes address blocks).payload ≡ 16 * blocks =
    length-map-range_with_len (stored_byte place bytes) address (16 * blocks) in record {
      asks = command.asks;
      cube = eight;
      address = below;
      payload = long ∙ sym command.long;
      bytes = IsBytes-map (stored_byte place bytes) (range_with_len address (16 * blocks)) small;
      zeros = λ same. absurd (not_mdwr (write_command blocks) Write command.action
          (λ e. absurd (cc)) same);
    }

pub access_write : (count : ℕ) (shape_at : ℕ → ShapeFields) (cube place : ℕ) (bytes : List ℕ)
    (address blocks : ℕ) → IsTraceCube count shape_at cube →
    ((a : ℕ) → stored_byte place bytes a < 256) → IsSize blocks → address % 16 ≡ 0 →
    address % 256 + 16 * blocks ≤ 256 → address + 16 * blocks ≤ capacity_of (shape_at cube) →
    IsAccessOf count shape_at (write_at cube place bytes address blocks)
access_write count shape_at cube place bytes address blocks is small size aligned fits inside =
    let command = writing blocks size in
    let some = size_some blocks size in
    let long : length (write_at cube place bytes address blocks).payload ≡ 16 * blocks =
    length-map-range_with_len (stored_byte place bytes) address (16 * blocks) in record {
      there = is.there;
      access = record {
        action = Write;
        asks = command.action;
        plain = tt;
        no_error = subst (λ n. memory_error (shape_at cube) n false address ≡ None) (sym long)
            (no_error (shape_at cube) (16 * blocks) false address is.block
            (aligned_16 address aligned) fits (omega arith));
        is = write_is cube place bytes address blocks small size (omega (arith, is.there, is.few))
            (omega (arith, is.small));
        some_block = omega (arith, is.block);
        answered = command.answered;
      };
    }

if_small : (b : Bool) (x y : ℕ) → x < 256 → y < 256 → (if b then x else y) < 256
if_small true x y first second = first
if_small false x y first second = second

bwr_asks : family_of commands.Bwr ≡ families.Ask
unfolding table_line
bwr_asks = refl

bwr_answered : is_posted commands.Bwr ≡ false
unfolding table_line
bwr_answered = refl

bwr_sixteen : payload_len_of commands.Bwr ≡ 16
unfolding table_line
bwr_sixteen = refl

-- a masked write whose payload is that of a half
pub half_valid : (cube place : ℕ) (bytes : List ℕ) (span : Span) (half : ℕ) (payload : List ℕ) →
    payload ≡ masked_bytes place bytes span half → IsBytes payload → cube < 8 → half < 2 ^ 34 →
    IsRequest (record {
      command = commands.Bwr;
      cube = cube;
      address = half;
      payload = payload;
    })
half_valid cube place bytes span half payload is small eight below =
    let new : ℕ → ℕ = λ a. if within span a then slice_index bytes (a - place) else 0 in
    let mask : ℕ → ℕ = λ a. if within span a then 255 else 0 in
    let long : length (masked_bytes place bytes span half) ≡ 16 =
    omega (
      arith,
      length-append (map new (range_with_len half 8))
          (map mask (range_with_len half 8)),
      length-map-range_with_len new half 8,
      length-map-range_with_len mask half 8,
    ) in record {
      asks = bwr_asks;
      cube = eight;
      address = below;
      payload = ap length is ∙ (long ∙ sym bwr_sixteen);
      bytes = small;
      zeros = λ same. absurd (not_mdwr commands.Bwr (Act Bwr) bwr_action (λ e. absurd (cc)) same);
    }

pub half_is : (cube place : ℕ) (bytes : List ℕ) (span : Span) (half : ℕ) →
    ((a : ℕ) → stored_byte place bytes a < 256) → cube < 8 → half < 2 ^ 34 →
    IsRequest (half_request cube place bytes span half)
half_is cube place bytes span half small eight below =
    let new : ℕ → ℕ = λ a. if within span a then slice_index bytes (a - place) else 0 in
    let mask : ℕ → ℕ = λ a. if within span a then 255 else 0 in
    half_valid cube place bytes span half (masked_bytes place bytes span half) refl
    (IsBytes-append (map new (range_with_len half 8)) (map mask (range_with_len half 8))
    (IsBytes-map new (range_with_len half 8)
    (λ a. if_small (within span a) (slice_index bytes (a - place)) 0 (small a) (omega arith)))
    (IsBytes-map mask (range_with_len half 8)
    (λ a. if_small (within span a) 255 0 (omega arith) (omega arith)))) eight below

pub access_half : (count : ℕ) (shape_at : ℕ → ShapeFields) (cube place : ℕ) (bytes : List ℕ)
    (span : Span) (half : ℕ) → IsTraceCube count shape_at cube →
    ((a : ℕ) → stored_byte place bytes a < 256) → half % 8 ≡ 0 → half < capacity_of (shape_at cube)
    → IsAccessOf count shape_at (half_request cube place bytes span half)
access_half count shape_at cube place bytes span half is small aligned inside = record {
  there = is.there;
  access = record {
    action = Act Bwr;
    asks = bwr_action;
    plain = (refl, refl);
    no_error = no_error (shape_at cube) 8 true half is.block (aligned_8 half aligned) (omega arith)
        inside;
    is = half_is cube place bytes span half small (omega (arith, is.there, is.few))
        (omega (arith, is.small));
    some_block = omega (arith, is.block);
    answered = bwr_answered;
  };
}
