use Rattle.std.proofs.Common.{◌≡◌, ◌<◌, ℕ, true, subst}
use Rattle.hmc_codes.specs.Graph.{GraphFields}
use Rattle.hmc_routes.proofs.Certificate.{distances-certified, certified-distance}
use Rattle.hmc_routes.specs.Distance.{certifies, distance}
use Rattle.hmc_routes.proofs.routes.Routes.invariant.Goals as goal

pub returns-clause-certificate : goal.returns-clause-certificate
returns-clause-certificate c =
    subst (λ (g : GraphFields). (goal : ℕ) → goal < g.cubes → certifies g goal (distance g goal) ≡ true) c.self.view_is
    (λ goal real. distances-certified c.self.inside.graph goal c.self.invariant.is_graph c.self.invariant.one_part real)

pub returns-clause-only : goal.returns-clause-only
returns-clause-only c =
    subst (λ (g : GraphFields). (goal cube : ℕ) (hops : ℕ → ℕ) → goal < g.cubes → cube < g.cubes → certifies g goal hops ≡ true → hops cube ≡ distance g goal cube) c.self.view_is
    (λ goal cube hops goal_real cube_real is. certified-distance c.self.inside.graph goal cube hops c.self.invariant.is_graph goal_real cube_real is)
