-- Machines of cubes.
use Rattle.std.proofs.Common.{◌≡◌, ◌≤◌, ◌<◌, ◌∙◌, ◌+◌, ℕ, List, [], ◌∷◌, ◌++◌, length, take, set, Option, refl, sym, ap, arith}
use Rattle.std.specs.Prelude.{slice_index_or}
use Rattle.std.specs.List.{All}
use Rattle.std.proofs.lemmas.List.{take_more, take_all, get_or_read, length-take}
use Rattle.hmc_codes.specs.Limits.{most_cubes}
use Rattle.hmc_codes.specs.Shape.{ShapeFields}
use Rattle.hmc_codes.specs.Request.{RequestFields}
use Rattle.hmc_codes.specs.declared.answer.Answer.{Answer}
use Rattle.hmc_units.specs.Unit.{UnitFields}
use Rattle.hmc_serial.specs.Cube.{CubeState, IsCube, opening}
use Rattle.hmc_serial.specs.Perform.{perform_on}
use Rattle.hmc_serial.specs.Machine.{openings_from, machine_of, no_cube_state, cube_in, apply, answer_to, IsMachine}

openings_from-push : (n : ℕ) (shapes : List ShapeFields) (shape : ShapeFields) → openings_from n (shapes ++ shape ∷ []) ≡ openings_from n shapes ++ opening shape (n + length shapes) ∷ []
openings_from-push n [] shape = ap (λ k. opening shape k ∷ []) (omega arith)
openings_from-push n (first ∷ shapes) shape =
    ap (λ rest. opening first n ∷ rest) (openings_from-push (n + 1) shapes shape ∙ ap (λ k. openings_from (n + 1) shapes ++ opening shape k ∷ []) (omega arith))

pub length-openings_from : (n : ℕ) (shapes : List ShapeFields) → length (openings_from n shapes) ≡ length shapes
length-openings_from n [] = refl
length-openings_from n (shape ∷ shapes) = omega (arith, length-openings_from (n + 1) shapes)

-- one more cube is made
pub one_more_cube : (shapes : List ShapeFields) (cubes : List CubeState) (i : ℕ) (shape : ShapeFields) → i < length shapes → shape ≡ slice_index_or shapes i shape → cubes ≡ openings_from 0 (take i shapes) →
    cubes ++ opening shape i ∷ [] ≡ openings_from 0 (take (i + 1) shapes)
one_more_cube shapes cubes i shape inside read so_far =
    let front : length (take i shapes) ≡ i = omega (arith, length-take i shapes) in
    let last : i ≡ 0 + length (take i shapes) = omega arith in
    ap (λ l. l ++ opening shape i ∷ []) so_far
    ∙ ap (λ k. openings_from 0 (take i shapes) ++ opening shape k ∷ []) last
    ∙ sym (openings_from-push 0 (take i shapes) shape)
    ∙ ap (λ x. openings_from 0 (take i shapes ++ x ∷ [])) read ∙ ap (openings_from 0) (sym (take_more shapes i shape inside))

-- a machine with other logic units
pub other_slots : (cubes : List CubeState) (slots others : List (Option UnitFields)) → IsMachine (machine_of cubes slots) → IsMachine (machine_of cubes others)
other_slots cubes slots others is = record { some_cubes = is.some_cubes; few_cubes = is.few_cubes; cubes = is.cubes }

pub machine_made : (shapes : List ShapeFields) (cubes : List CubeState) (i : ℕ) → length shapes ≤ i → 1 ≤ length shapes → length shapes ≤ most_cubes → cubes ≡ openings_from 0 (take i shapes) → All IsCube cubes →
    (cubes ≡ openings_from 0 shapes) × IsMachine (machine_of cubes [])
machine_made shapes cubes i end some few so_far each =
    let whole : cubes ≡ openings_from 0 shapes = so_far ∙ ap (openings_from 0) (take_all i shapes end) in
    let long : length cubes ≡ length shapes = ap length whole ∙ length-openings_from 0 shapes in
    (whole, record { some_cubes = omega arith; few_cubes = omega arith; cubes = each })

-- the cube that was found at the number of a request
found : (cubes : List CubeState) (own request : RequestFields) (place : ℕ) (cube : CubeState) → own ≡ request → place ≡ own.cube → place < length cubes → cube ≡ slice_index_or cubes place cube → cube ≡ cube_in cubes request.cube
found cubes own request place cube view_is place_is there read =
    get_or_read cubes place cube there read no_cube_state ∙ ap (cube_in cubes) (place_is ∙ ap (λ r. r.cube) view_is)

-- it performs the request
pub applied : (cubes : List CubeState) (slots left : List (Option UnitFields)) (own request : RequestFields) (place : ℕ) (cube new : CubeState) → own ≡ request → place ≡ own.cube → place < length cubes → cube ≡ slice_index_or cubes place cube
    → new ≡ (perform_on cube slots request).cube → left ≡ (perform_on cube slots request).slots →
    machine_of (set cubes place new) left ≡ apply (machine_of cubes slots) request
unfolding apply
applied cubes slots left own request place cube new view_is place_is there read performed worked =
    let is : cube ≡ cube_in cubes request.cube = found cubes own request place cube view_is place_is there read in
    ap (λ p. machine_of (set cubes p new) left) (place_is ∙ ap (λ r. r.cube) view_is)
    ∙ ap (λ c. machine_of (set cubes request.cube c) left) (performed ∙ ap (λ c. (perform_on c slots request).cube) is)
    ∙ ap (machine_of (set cubes request.cube (perform_on (cube_in cubes request.cube) slots request).cube)) (worked ∙ ap (λ c. (perform_on c slots request).slots) is)

pub answered : (cubes : List CubeState) (slots : List (Option UnitFields)) (own request : RequestFields) (place : ℕ) (cube : CubeState) (answer : Answer) → own ≡ request → place ≡ own.cube → place < length cubes → cube ≡ slice_index_or cubes place cube
    → answer ≡ (perform_on cube slots request).answer → answer ≡ answer_to (machine_of cubes slots) request
unfolding answer_to
answered cubes slots own request place cube answer view_is place_is there read performed =
    performed ∙ ap (λ c. (perform_on c slots request).answer) (found cubes own request place cube view_is place_is there read)
