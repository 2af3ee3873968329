-- A half that has something of the span, or none.
use Rattle.std.proofs.Common.{rules}
use Rattle.hmc_accesses.proofs.Valid.{half_valid}
use Rattle.hmc_trace.proofs.Runs.{half_some}
use Rattle.hmc_trace.proofs.requests.add_half.Goals as goal

pub invariant_of-request : goal.invariant_of-request
invariant_of-request c =
    half_valid c.args.stored.now.cube c.args.stored.now.place c.args.stored.now.bytes.now
    c.args.span c.args.half c.half_payload-payload.result c.half_payload-payload.ensures.value
    c.half_payload-payload.ensures.are_bytes c.requires.cube c.requires.small

pub returns : goal.returns
returns c =
    half_some c.args.number c.args.script.now c.add.new.script c.args.stored.now.cube
    c.args.stored.now.place c.args.stored.now.bytes.now c.args.span c.args.half
    c.half_payload-payload.result c.add.result c.max.result c.min.result (search rules)
    (search rules) c.if-max-min.false c.half_payload-payload.ensures.value c.add.ensures
