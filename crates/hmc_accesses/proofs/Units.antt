-- An access touches, and sees, bytes of its unit alone.
use Rattle.std.proofs.Common.{◌≡◌, ◌≤◌, ◌<◌, ◌∙◌, ◌+◌, ◌-◌, ◌*◌, ◌/◌, ◌%◌, ◌^◌, inl, inr, ℕ, true, false, [], length, Some, None, refl, sym, ap, subst, arith}
use Rattle.std.specs.Prelude.{slice_index, ◌==◌, ◌&&◌}
use Rattle.std.proofs.lemmas.Nat.{div-add-mod', div-mul-add}
use Rattle.std.proofs.lemmas.Bool.{cases_eq, eq-eqb, eqb-true, ne_eqb, and_parts}
use Rattle.hmc_codes.specs.Request.{RequestFields}
use Rattle.hmc_codes.specs.Shape.{ShapeFields, vault_of, bank_of, offset_of}
use Rattle.hmc_codes.specs.declared.command.Command.{Command}
use Rattle.hmc_codes.specs.declared.command.Command.TheVariants as commands
use Rattle.hmc_codes.specs.declared.unit.Unit.{Unit as RequestUnit}
use Rattle.hmc_codes.specs.declared.unit.Unit.TheVariants as units
use Rattle.hmc_serial.specs.Actions.{action_of}
use Rattle.hmc_serial.specs.Errors.{error_of}
use Rattle.hmc_serial.specs.Unit.{is_for_registers, unit_by, unit_of}
use Rattle.hmc_serial.specs.declared.action.Action.{Action}
use Rattle.hmc_serial.specs.declared.action.Action.TheVariants.{Read, Write, ReadRegister, WriteRegister, Act, Work}
use Rattle.hmc_serial.proofs.Errorless.{errorless}
use Rattle.hmc_journal.specs.Filters.{same_unit}
use Rattle.hmc_accesses.proofs.Touched.{Where, where_is, below, inside, above, in_range, touched_by, in_range-below, in_range-above, then_is, else_is}
use Rattle.hmc_accesses.proofs.Access.{IsPlain, IsAccess, touched_here, touched}

-- how many bytes an access touches or sees
abbrev pub reach : Action → RequestFields → ℕ
reach (Read size) request = size
reach Write request = length request.payload
reach (Act op) request = 8
reach _ request = 0

-- the bank of an address
abbrev pub bank_at : (ℕ → ShapeFields) → (cube address : ℕ) → RequestUnit
bank_at shape_at cube address = units.Bank cube (vault_of (shape_at cube) address)
    (bank_of (shape_at cube) address)

-- addresses of one block
pub same_block : (block size address a : ℕ) → 0 < block → address % block + size ≤ block →
    address ≤ a → a < address + size → a / block ≡ address / block
same_block block size address a some fits least less =
    let whole = div-add-mod' address block in
    let at : (address / block) * block + (address % block + (a - address)) ≡ a = omega arith in
    ap (λ n. n / block) (sym at)
    ∙ div-mul-add (address / block) block (address % block + (a - address)) (omega arith)

pub same_bank : (shape_at : ℕ → ShapeFields) (cube size address a : ℕ) → 0 < (shape_at cube).block →
    offset_of (shape_at cube) address + size ≤ (shape_at cube).block → address ≤ a →
    a < address + size → bank_at shape_at cube a ≡ bank_at shape_at cube address
same_bank shape_at cube size address a some fits least less =
    let shape = shape_at cube in
    ap (λ n. units.Bank cube (n % 2 ^ shape.vault_bits)
    (n / 2 ^ shape.vault_bits % 2 ^ shape.bank_bits))
    (same_block shape.block size address a some fits least less)

-- an access fits its block
pub fits_block : (action : Action) (shape : ShapeFields) (request : RequestFields) →
    IsPlain action request → error_of action shape [] request ≡ None →
    offset_of shape request.address + reach action request ≤ shape.block
fits_block (Read size) shape request plain none =
    (errorless shape size false request.address none).fits
fits_block Write shape request plain none =
    (errorless shape (length request.payload) false request.address none).fits
fits_block ReadRegister shape request plain none = absurd plain
fits_block WriteRegister shape request plain none = absurd plain
fits_block (Act op) shape request plain none =
    let none_bwr = subst (λ o. error_of (Act o) shape [] request ≡ None) plain.0 none in
    (errorless shape 8 true request.address none_bwr).fits
fits_block (Work code) shape request plain none = absurd plain

-- an access isn't to a register
not_register : (command : Command) (action : Action) (request : RequestFields) →
    IsPlain action request → action_of command ≡ Some action → is_for_registers command ≡ false
unfolding action_of
not_register commands.Mdrd action request plain is = let same : ReadRegister ≡ action = cc in
    absurd (subst (λ a. IsPlain a request) (sym same) plain)
not_register commands.Mdwr action request plain is = let same : WriteRegister ≡ action = cc in
    absurd (subst (λ a. IsPlain a request) (sym same) plain)
not_register _ action request plain is = refl

pub unit_is_bank : (shape_at : ℕ → ShapeFields) (request : RequestFields) →
    IsAccess (shape_at request.cube) request → unit_of (shape_at request.cube) request
    ≡ bank_at shape_at request.cube request.address
unfolding unit_of
unit_is_bank shape_at request access = ap (λ b. unit_by b (shape_at request.cube) request)
    (not_register request.command access.action request access.plain access.asks)

-- what an access does outside of the bytes that it reaches
outside : (action : Action) (request : RequestFields) (a old : ℕ) →
    Where request.address (reach action request) a →
    (request.address ≤ a → a < request.address + reach action request → ⊥) →
    touched_by action request.address request.payload a old ≡ old
outside (Read size) request a old place out = refl
outside Write request a old (below less) out =
    else_is (in_range request.address (length request.payload) a)
    (slice_index request.payload (a - request.address)) old (in_range-below request.address
    (length request.payload) a less)
outside Write request a old (inside least less) out = absurd (out least less)
outside Write request a old (above most) out =
    else_is (in_range request.address (length request.payload) a)
    (slice_index request.payload (a - request.address)) old (in_range-above request.address
    (length request.payload) a most)
outside ReadRegister request a old place out = refl
outside WriteRegister request a old place out = refl
outside (Act op) request a old (below less) out = else_is (in_range request.address 8 a) _ old
    (in_range-below request.address 8 a less)
outside (Act op) request a old (inside least less) out = absurd (out least less)
outside (Act op) request a old (above most) out = else_is (in_range request.address 8 a) _ old
    (in_range-above request.address 8 a most)
outside (Work code) request a old place out = refl

pub same_unit-self : (u : RequestUnit) → same_unit u u ≡ true
same_unit-self (units.Bank c v b) = ap (λ x. x && ((v == v) && (b == b))) (eq-eqb c c refl)
    ∙ ap (λ x. x && (b == b)) (eq-eqb v v refl) ∙ eq-eqb b b refl
same_unit-self (units.Registers c) = eq-eqb c c refl

pub same_unit-is : (u v : RequestUnit) → same_unit u v ≡ true → u ≡ v
same_unit-is (units.Bank c v b) (units.Bank d w a) is =
    let first = and_parts (c == d) ((v == w) && (b == a)) is in
    let second = and_parts (v == w) (b == a) first.1 in
    let cubes = eqb-true c d first.0 in
    let vaults = eqb-true v w second.0 in
    let banks = eqb-true b a second.1 in
    ap (λ n. units.Bank n v b) cubes ∙ ap (λ n. units.Bank d n b) vaults ∙ ap (units.Bank d w) banks
same_unit-is (units.Bank c v b) (units.Registers d) is = absurd (cc)
same_unit-is (units.Registers c) (units.Bank d w a) is = absurd (cc)
same_unit-is (units.Registers c) (units.Registers d) is = ap units.Registers (eqb-true c d is)

pub other_unit : (shape_at : ℕ → ShapeFields) (request : RequestFields) (c a old : ℕ) →
    IsAccess (shape_at request.cube) request → same_unit (unit_of (shape_at request.cube) request)
    (bank_at shape_at c a) ≡ false → touched request c a old ≡ old
other_unit shape_at request c a old access other =
    elim (cases_eq c request.cube) as (λ _. touched request c a old ≡ old) [
      | inl same ↦
          then_is (c == request.cube) (touched_here (action_of request.command) request a old) old
          (eq-eqb c request.cube same)
          ∙ ap (λ o. touched_here o request a old) access.asks
          ∙ outside access.action request a old
          (where_is request.address (reach access.action request) a)
          (λ least less.
          let unit : unit_of (shape_at request.cube) request ≡ bank_at shape_at c a =
          unit_is_bank shape_at request access
          ∙ sym (same_bank shape_at request.cube (reach access.action request) request.address a
          access.some_block (fits_block access.action (shape_at request.cube) request
          access.plain access.no_error) least less)
          ∙ ap (λ n. bank_at shape_at n a) (sym same) in
          let here : same_unit (unit_of (shape_at request.cube) request) (bank_at shape_at c a)
          ≡ true = ap (same_unit (unit_of (shape_at request.cube) request)) (sym unit)
          ∙ same_unit-self (unit_of (shape_at request.cube) request) in
          absurd (cc))
      | inr apart ↦ else_is (c == request.cube) (touched_here (action_of request.command) request a
          old) old (ne_eqb c request.cube apart)
    ]
