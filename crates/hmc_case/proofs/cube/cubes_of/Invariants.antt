use Rattle.std.proofs.Common.{◌≡◌, drop, [], vec_len}
use Rattle.std.specs.List.{All}
use Rattle.hmc_case.specs.Setup.{IsCubeSetup}
use Rattle.toml.specs.View.{items_view}
use Rattle.hmc_case.specs.Cubes.{next_cube}
use Rattle.hmc_case.specs.Reading.{in_turn}
use Rattle.hmc_case.proofs.cube.cubes_of.Given as goal

abbrev pub invariant-values : goal.invariant-values
invariant-values l = record {
  count : vec_len l.cubes ≡ l.value-index;
  within : All IsCubeSetup l.cubes.items;
  so_far : in_turn (next_cube l.profile) l.cubes.items (items_view (drop l.value-index l.values.items)) ≡ in_turn (next_cube l.profile) [] (items_view l.values.items);
}
