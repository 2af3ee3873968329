-- New cubes, one more at a time.
use Rattle.std.proofs.Common.{◌≡◌, ◌<◌, ◌∙◌, ℕ, List, [], ◌∷◌, ◌++◌, length, ap}
use Rattle.std.specs.Prelude.{slice_index_or}
use Rattle.std.proofs.lemmas.List.{get_or_default}
use Rattle.hmc_case.specs.Setup.{CubeSetupFields}
use Rattle.hmc_cube.specs.Cube.{CubeFields, opening_cube}
use Rattle.hmc_kept.proofs.Pushed.{each_pushed}

-- the cube with a number is new, by its setup
abbrev IsNewCube : List CubeSetupFields → ℕ → CubeFields → Type 0
IsNewCube setups cube held = (d : CubeSetupFields) → cube < length setups → held ≡ opening_cube cube (slice_index_or setups cube d).shape (slice_index_or setups cube d).queue

-- the cubes of the first setups are new
abbrev pub AreFirstCubes : List CubeSetupFields → List CubeFields → Type 0
AreFirstCubes setups cubes = (cube : ℕ) (e : CubeFields) → cube < length cubes → IsNewCube setups cube (slice_index_or cubes cube e)

pub first_more : (setups : List CubeSetupFields) (cubes : List CubeFields) (setup : CubeSetupFields) (now : CubeFields) → AreFirstCubes setups cubes → length cubes < length setups → setup ≡ slice_index_or setups (length cubes) setup
    → now ≡ opening_cube (length cubes) setup.shape setup.queue → AreFirstCubes setups (cubes ++ now ∷ [])
first_more setups cubes setup now before less is new =
    each_pushed (IsNewCube setups) cubes now before
    (λ d inside. new ∙ ap (λ (s : CubeSetupFields). opening_cube (length cubes) s.shape s.queue) (is ∙ get_or_default setups (length cubes) setup d inside))
