-- A flit that didn't come is a zero one.
use Rattle.std.proofs.Common.{◌≡◌, ◌∙◌, get_or, rules, arith}
use Rattle.std.specs.Option.{unwrap_or}
use Rattle.std.proofs.lemmas.Grind.{common_steps, elements}
use Rattle.hmc_codes.specs.Flit.{zero_flit}
use Rattle.hmc_through.proofs.pipe.Pipe.flit_at.Goals as goal

pub returns : goal.returns
unfolding zero_flit
returns c =
    let found : unwrap_or c.copied.result zero_flit
    ≡ get_or c.args.self.now.came c.args.at zero_flit = first_of (
      search rules,
      grind (arith, common_steps),
      grind (arith, elements),
    ) in
    c.unwrap_or.ensures ∙ found
