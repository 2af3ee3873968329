-- Links that did nothing, one more at a time.
use Rattle.std.proofs.Common.{◌≡◌, ◌<◌, ℕ, true, List, [], ◌∷◌, ◌++◌, length}
use Rattle.std.specs.Prelude.{slice_index_or}
use Rattle.hmc_case.specs.declared.setup.LinkRow.{LinkRow}
use Rattle.hmc_link.specs.Held.{LinkHeld}
use Rattle.hmc_link.specs.StandsFor.{LinkStandsFor}
use Rattle.hmc_kept.specs.Called.{sizes_at}
use Rattle.hmc_links.specs.LinkList.{AreGoing}
use Rattle.hmc_kept.proofs.Pushed.{each_pushed}

-- the links of the first rows did nothing
pub record AreNewLinks (rows : List LinkRow) (links : List LinkHeld) : Type 0 where
  pub going : AreGoing links
  pub stand : (link : ℕ) (d : LinkHeld) → link < length links → LinkStandsFor (sizes_at rows link) (slice_index_or links link d) []

pub new_more : (rows : List LinkRow) (links : List LinkHeld) (now : LinkHeld) → AreNewLinks rows links → now.going ≡ true → LinkStandsFor (sizes_at rows (length links)) now [] → AreNewLinks rows (links ++ now ∷ [])
new_more rows links now before going stands = record {
  going = each_pushed (λ link (held : LinkHeld). held.going ≡ true) links now before.going going;
  stand = each_pushed (λ link (held : LinkHeld). LinkStandsFor (sizes_at rows link) held []) links now before.stand stands;
}
