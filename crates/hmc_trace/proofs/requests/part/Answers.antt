-- Byte by byte.
use Rattle.std.proofs.Common.{◌∙◌}
use Rattle.hmc_trace.proofs.Runs.{part_bytes}
use Rattle.hmc_trace.proofs.requests.part.Goals as goal

pub returns-clause-value : goal.returns-clause-value
returns-clause-value c = (rw c.unwrap.ensures at c.from_slice.ensures.bytes)
    ∙ part_bytes c.args.place c.args.bytes.now c.args.address c.args.size c.requires.from
    c.requires.to
