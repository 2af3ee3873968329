-- The cubes of a machine stay cubes.
use Rattle.std.proofs.Common.{◌≡◌, ◌≤◌, ◌<◌, ◌+◌, ◌∙◌, ℕ, suc, List, [], ◌∷◌, All, length, refl, ap, arith}
use Rattle.std.specs.Prelude.{map}
use Rattle.std.proofs.lemmas.List.{length-set, length-map}
use Rattle.std.proofs.lemmas.List.Elements.{All-set, All-nil, All-cons, All-head, All-tail}
use Rattle.hmc_case.specs.Setup.{CubeSetupFields, IsCubeSetup}
use Rattle.hmc_codes.specs.Request.{RequestFields, IsRequest}
use Rattle.hmc_codes.specs.Shape.{ShapeFields, IsShape}
use Rattle.hmc_serial.specs.Cube.{IsCube, opening}
use Rattle.hmc_serial.specs.Machine.{State, cube_state_at, performed, apply, retire, no_cube_state, openings_from, opening_state}
use Rattle.hmc_serial.proofs.CubeLemmas.{IsCube-performed, IsCube-opening}
use Rattle.hmc_journal.specs.Setup.{Topology, Setup, shapes_of, cubes_in}
use Rattle.hmc_journal.specs.Network.{IsNetwork}
use Rattle.hmc_journal.specs.StepView.{opening_of}

-- a machine of the cubes of a topology
pub record HasCubes (topology : Topology) (state : State) : Type 0 where
  pub count : length state.cubes ≡ cubes_in topology
  pub cubes : All IsCube state.cubes

pub cube_there : (topology : Topology) (state : State) (cube : ℕ) → HasCubes topology state → cube < cubes_in topology → IsCube (cube_state_at state cube)
cube_there topology state cube has less = let many = has.count in has.cubes cube no_cube_state (omega arith)

pub HasCubes-apply : (topology : Topology) (state : State) (request : RequestFields) → HasCubes topology state → IsRequest request → request.cube < cubes_in topology → HasCubes topology (apply state request)
unfolding apply
HasCubes-apply topology state request has is less =
    let new = (performed state request).cube in record {
      count = length-set state.cubes request.cube new ∙ has.count;
      cubes = All-set IsCube state.cubes request.cube new (IsCube-performed (cube_state_at state request.cube) state.slots request (cube_there topology state request.cube has less) is) has.cubes;
    }

pub HasCubes-retire : (topology : Topology) (state : State) (slot : ℕ) → HasCubes topology state → HasCubes topology (retire state slot)
unfolding retire
HasCubes-retire topology state slot has = record { count = has.count; cubes = has.cubes }

opened : (number : ℕ) (shapes : List ShapeFields) → All IsShape shapes → number + length shapes ≤ 8 → All IsCube (openings_from number shapes)
opened number [] all few = All-nil IsCube
opened number (shape ∷ shapes) all few =
    All-cons IsCube (opening shape number) (openings_from (number + 1) shapes) (IsCube-opening shape number (All-head IsShape shape shapes all) (omega arith))
    (opened (number + 1) shapes (All-tail IsShape shape shapes all) (omega arith))

opened_count : (number : ℕ) (shapes : List ShapeFields) → length (openings_from number shapes) ≡ length shapes
opened_count number [] = refl
opened_count number (shape ∷ shapes) = ap suc (opened_count (number + 1) shapes)

are_shapes : (cubes : List CubeSetupFields) → All IsCubeSetup cubes → All IsShape (map (λ (cube : CubeSetupFields). cube.shape) cubes)
are_shapes [] all = All-nil IsShape
are_shapes (cube ∷ cubes) all =
    All-cons IsShape cube.shape (map (λ (c : CubeSetupFields). c.shape) cubes) (All-head IsCubeSetup cube cubes all).shape (are_shapes cubes (All-tail IsCubeSetup cube cubes all))

pub HasCubes-opening : (setup : Setup) → IsNetwork setup → HasCubes setup.topology (opening_of setup)
unfolding opening_state
HasCubes-opening setup network =
    let cubes = setup.topology.cubes in
    let count = length-map cubes (λ (cube : CubeSetupFields). cube.shape) in
    let few = network.graph.few_cubes in record {
      count = opened_count 0 (shapes_of setup.topology) ∙ count;
      cubes = opened 0 (shapes_of setup.topology) (are_shapes cubes network.cubes) (omega arith);
    }
