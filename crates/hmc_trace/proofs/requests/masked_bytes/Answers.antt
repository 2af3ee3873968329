-- All bytes of both halves are written.
use Rattle.hmc_trace.proofs.Runs.{halves_are}
use Rattle.hmc_trace.proofs.requests.masked_bytes.Goals as goal

pub returns : goal.returns
returns c = halves_are c.args.stored.now.place c.args.stored.now.bytes.now c.args.span c.args.half
    c.bytes.payload c.bytes.i c.bytes-test.false c.bytes.invariant.long
    c.bytes.invariant.first c.bytes.invariant.last
