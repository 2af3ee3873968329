use Rattle.std.proofs.Common.{◌≡◌, drop, [], vec_len}
use Rattle.hmc_case.specs.Graph.{AreLinks}
use Rattle.toml.specs.View.{items_view}
use Rattle.hmc_case.specs.Links.{next_link}
use Rattle.hmc_case.specs.Reading.{in_turn}
use Rattle.hmc_case.proofs.link.links_of.Given as goal

abbrev pub invariant-values : goal.invariant-values
invariant-values l = record {
  count : vec_len l.links ≡ l.value-index;
  so_far : in_turn (next_link l.profile l.cubes) l.links.items (items_view (drop l.value-index l.values.items)) ≡ in_turn (next_link l.profile l.cubes) [] (items_view l.values.items);
  within : AreLinks l.cubes l.links.items;
}
