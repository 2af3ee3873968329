-- The command of a part has no payload.
use Rattle.hmc_trace.proofs.Runs.{read_part}
use Rattle.hmc_trace.proofs.requests.add_read.Goals as goal

pub invariant_of-request : goal.invariant_of-request
invariant_of-request c = rw (c.read_command.ensures, c.empty.ensures)
    (read_part c.args.cube c.args.address c.args.blocks c.requires.part c.requires.cube
    c.requires.address)
