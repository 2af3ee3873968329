use Rattle.std.proofs.Common.{◌+◌, ◌%◌, arith}
use Rattle.hmc_make.proofs.ChainLemmas.{net_of_parts, script_of_parts}
use Rattle.hmc_make.proofs.case.make.Goals as goal

pub of-requires-clause-net : goal.of-requires-clause-net
of-requires-clause-net c =
    net_of_parts (1 + c.args.number % 4) c.in_ok-cubes.cubes.items c.in_ok-links.links.items (omega arith) (omega arith) c.in_ok-cubes.ensures c.in_ok-links.ensures

pub of-requires-clause-script : goal.of-requires-clause-script
of-requires-clause-script c =
    script_of_parts (1 + c.args.number % 4) c.in_ok-cubes.cubes.items c.in_ok-links.links.items c.in_ok-script.script (omega arith) (omega arith) c.in_ok-cubes.ensures c.in_ok-links.ensures c.in_ok-script.ensures.within
