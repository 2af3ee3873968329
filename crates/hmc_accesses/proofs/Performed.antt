-- A compiled trace on a plain machine.
use Rattle.std.proofs.Common.{◌≡◌, ◌≤◌, ◌<◌, ◌∙◌, ◌*◌, ◌%◌, ◌^◌, inl, inr, ℕ, List, [], ◌∷◌, length, Option, refl, sym, ap, subst, arith}
use Rattle.std.specs.Prelude.{map}
use Rattle.std.specs.List.{All, slice_get}
use Rattle.std.proofs.lemmas.Bool.{cases_lt}
use Rattle.std.proofs.lemmas.Nat.{mul-le, pow_below}
use Rattle.std.proofs.lemmas.List.{ext_get_or, get_or-map, get_or_past, length-map}
use Rattle.hmc_codes.specs.Request.{RequestFields}
use Rattle.hmc_codes.specs.Shape.{ShapeFields, IsShape, capacity_of}
use Rattle.hmc_serial.specs.Cube.{CubeState, IsCube}
use Rattle.hmc_serial.specs.Machine.{State, opening_state, cube_state_at, no_cube_state}
use Rattle.hmc_units.specs.Unit.{UnitFields}
use Rattle.hmc_accesses.specs.Compiled.{item_of, nothing_compiled, compiled_of}
use Rattle.hmc_accesses.specs.Laws.{IsPerformed, requests_in, script_of}
use Rattle.hmc_accesses.specs.Meaning.{no_shape}
use Rattle.hmc_accesses.specs.Serial.{machine_after, answers_to}
use Rattle.hmc_accesses.specs.Trace.{Trace, IsTrace, bytes_of, zeros, memory_of}
use Rattle.hmc_accesses.specs.Value.{load_value}
use Rattle.hmc_accesses.proofs.Mirror.{shape_at, AreCubes, Mirrors, Mirrors-opening, machine_is}
use Rattle.hmc_accesses.proofs.Replies.{state_by}
use Rattle.hmc_accesses.proofs.Storing.{own}
use Rattle.hmc_accesses.proofs.LoadValues.{requests_all, compiled_script, carried_out, IsCarriedOut}

-- the requests of items made of requests
pub requests_are : (xs : List RequestFields) → requests_in (map item_of xs) ≡ xs
requests_are [] = refl
requests_are (x ∷ xs) = ap (λ l. x ∷ l) (requests_are xs)

pub script_is : (trace : Trace) → script_of trace ≡ map item_of (requests_all trace.accesses)
unfolding compiled_of
script_is trace = compiled_script nothing_compiled trace.accesses

pub requests_is : (trace : Trace) → requests_in (script_of trace) ≡ requests_all trace.accesses
requests_is trace = ap requests_in (script_is trace) ∙ requests_are (requests_all trace.accesses)

capacity_small : (shape : ShapeFields) → IsShape shape → shape.block ≡ 256 →
    capacity_of shape ≤ 2 ^ 34
capacity_small shape is block =
    let vaults : 2 ^ shape.vault_bits < 2 ^ 6 =
    pow_below shape.vault_bits 6 (omega (arith, is.vault_bits)) in
    let banks : 2 ^ shape.bank_bits < 2 ^ 5 =
    pow_below shape.bank_bits 5 (omega (arith, is.bank_bits)) in
    let first = mul-le shape.block (2 ^ shape.vault_bits) 256 64 (omega arith) (omega arith) in
    let second = mul-le (shape.block * 2 ^ shape.vault_bits) (2 ^ shape.bank_bits) 16384 32
    (omega arith) (omega arith) in
    let third = mul-le (shape.block * 2 ^ shape.vault_bits * 2 ^ shape.bank_bits) shape.rows 524288
    1024 (omega arith) (omega (arith, is.rows)) in
    omega arith

capacity_whole : (shape : ShapeFields) → shape.block ≡ 256 → capacity_of shape % 16 ≡ 0
capacity_whole shape block =
    ap (λ b. b * 2 ^ shape.vault_bits * 2 ^ shape.bank_bits * shape.rows % 16) block
    ∙ multiple (2 ^ shape.vault_bits) (2 ^ shape.bank_bits) shape.rows
  where
    multiple : (v b r : ℕ) → (256 * v * b * r) % 16 ≡ 0
    multiple v b r = omega arith

in_or_past : (P : ShapeFields → Type 0) (cubes : List ShapeFields) (c : ℕ) → All P cubes →
    P no_shape → P (shape_at cubes c)
in_or_past P cubes c all none = elim (cases_lt c (length cubes)) as (λ _. P (shape_at cubes c)) [
  | inl less ↦ all c no_shape less
  | inr past ↦ subst P (sym (get_or_past cubes c no_shape past)) none
]

pub are_cubes : (trace : Trace) → IsTrace trace → AreCubes trace.cubes
are_cubes trace is =
    let block = λ (c : ℕ). in_or_past (λ shape. shape.block ≡ 256) trace.cubes c is.blocks refl in
    record {
      few = is.few_cubes;
      shapes = is.shapes;
      blocks = block;
      small = λ c. elim (cases_lt c (length trace.cubes)) as (λ _.
          capacity_of (shape_at trace.cubes c) ≤ 2 ^ 34) [
            | inl less ↦ capacity_small (shape_at trace.cubes c) (is.shapes c no_shape less)
                (block c)
            | inr past ↦ subst (λ s. capacity_of s ≤ 2 ^ 34)
                (sym (get_or_past trace.cubes c no_shape past)) (omega arith)
          ];
      whole = λ c. capacity_whole (shape_at trace.cubes c) (block c);
    }

-- a machine that has the bytes of a memory has that memory
memory_is : (cubes : List ShapeFields) (state : State) (memory : List (List ℕ)) →
    Mirrors cubes state memory → map (λ (cube : CubeState). cube.memory) state.cubes ≡ memory
memory_is cubes state memory mirrors =
    let f = λ (cube : CubeState). cube.memory in
    let long : length (map f state.cubes) ≡ length state.cubes = length-map state.cubes f in
    ext_get_or [] (map f state.cubes) memory (long ∙ mirrors.holds.many ∙ sym mirrors.many)
    (λ c less.
    let in_state : c < length state.cubes = omega arith in
    let in_cubes : c < length cubes = omega (arith, mirrors.holds.many) in
    let cube = cube_state_at state c in
    let is : IsCube (cube_state_at state c) = mirrors.holds.cubes c no_cube_state in_state in
    get_or-map f state.cubes c no_cube_state [] in_state
    ∙ ext_get_or 0 cube.memory (bytes_of memory c) (is.capacity
    ∙ ap capacity_of (mirrors.holds.shapes c) ∙ sym (mirrors.long c in_cubes))
    (λ a inside. mirrors.bytes c a))

pub performed_all : (trace : Trace) (slots : List (Option UnitFields)) → IsTrace trace →
    IsCarriedOut trace.cubes nothing_compiled (opening_state trace.cubes slots) (zeros trace.cubes)
    trace.accesses (script_of trace) (answers_to (opening_state trace.cubes slots)
    (requests_all trace.accesses))
performed_all trace slots is =
    let are = are_cubes trace is in
    carried_out trace.cubes nothing_compiled (opening_state trace.cubes slots) (zeros trace.cubes)
    trace.accesses (script_of trace) (answers_to (opening_state trace.cubes slots)
    (requests_all trace.accesses)) []
    are is.accesses (Mirrors-opening trace.cubes slots is.shapes is.few_cubes) (script_is trace)
    refl refl

pub is_performed : (trace : Trace) (slots : List (Option UnitFields)) → IsTrace trace →
    IsPerformed (compiled_of trace) trace slots
unfolding compiled_of
is_performed trace slots is =
    let opening = opening_state trace.cubes slots in
    let all = performed_all trace slots is in
    let asked = requests_is trace in record {
      memory = ap (λ xs. map (λ (cube : CubeState). cube.memory) (machine_after opening xs).cubes)
          asked
          ∙ ap (λ (s : State). map (λ (cube : CubeState). cube.memory) s.cubes)
          (machine_is opening (requests_all trace.accesses))
          ∙ memory_is trace.cubes (state_by own opening (requests_all trace.accesses))
          (memory_of trace) all.mirrors;
      values = ap (λ xs. map (load_value (slice_get (answers_to opening xs)) (script_of trace))
          (compiled_of trace).loads) asked ∙ all.values;
    }
