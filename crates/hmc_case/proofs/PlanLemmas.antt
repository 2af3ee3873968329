-- The plan of a case.
use Rattle.std.proofs.Common.{◌≡◌, ℕ, suc, ◌+◌, ◌<◌, ◌≤◌, List, [], ◌∷◌, ◌++◌, length, drop, get_or, refl, ap, append_assoc, append-nil}
use Rattle.std.proofs.lemmas.List.{drop_more, drop_all}
use Rattle.hmc_schedule.specs.Plan.{CubePlanFields}
use Rattle.hmc_case.specs.Plan.{ports_of, plans_of}
use Rattle.hmc_case.specs.Setup.{CubeSetupFields}
use Rattle.hmc_case.specs.declared.setup.LinkRow.{LinkRow}

-- one more cube
pub plans_of-more : (links : List LinkRow) (cubes : List CubeSetupFields) (i : ℕ) (cube : CubeSetupFields) (old new : List CubePlanFields) → i < length cubes → cube ≡ get_or cubes i cube →
    new ≡ old ++ ports_of links i cube ∷ [] →
    new ++ plans_of links (i + 1) (drop (i + 1) cubes) ≡ old ++ plans_of links i (drop i cubes)
plans_of-more links cubes i cube old new h at grown =
    let rest = plans_of links (i + 1) (drop (i + 1) cubes) in
    rw (drop_more cubes i cube h, ← at, grown) (append_assoc old (ports_of links i cube ∷ []) rest)

-- after the last cube
pub plans_of-end : (links : List LinkRow) (cubes : List CubeSetupFields) (i : ℕ) (plans : List CubePlanFields) → length cubes ≤ i → plans ++ plans_of links i (drop i cubes) ≡ plans
plans_of-end links cubes i plans h = rw (drop_all i cubes h) (append-nil plans)

pub length-plans_of : (links : List LinkRow) (i : ℕ) (cubes : List CubeSetupFields) → length (plans_of links i cubes) ≡ length cubes
length-plans_of links i [] = refl
length-plans_of links i (cube ∷ cubes) = ap suc (length-plans_of links (i + 1) cubes)
