-- The payload of a part is as long as the table says.
use Rattle.hmc_trace.proofs.Runs.{write_part}
use Rattle.hmc_trace.proofs.requests.add_write.Goals as goal

pub invariant_of-request : goal.invariant_of-request
invariant_of-request c = rw (c.write_command.ensures, c.part-payload.ensures.value)
    (write_part c.args.stored.now.cube c.args.stored.now.place c.args.stored.now.bytes.now
    c.args.address c.args.blocks c.part-payload.ensures.are_bytes c.requires.part c.requires.cube
    c.requires.address)
