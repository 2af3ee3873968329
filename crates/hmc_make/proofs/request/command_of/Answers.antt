use Rattle.std.proofs.Common.{◌≡◌, ◌%◌, arith}
use Rattle.hmc_make.proofs.request.command_of.Goals as goal
use Rattle.hmc_make.specs.Requests.{command_of}

pub returns-in_default-clause-value : goal.returns-in_default-clause-value
unfolding command_of
returns-in_default-clause-value c =
    let five : c.args.drawn % 6 ≡ 5 = omega (arith, c.in_default) in
    rw five
