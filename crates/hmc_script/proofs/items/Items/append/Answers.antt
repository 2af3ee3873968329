use Rattle.hmc_script.proofs.items.Items.append.Goals as goal

pub push-requires-clause-request : goal.push-requires-clause-request
push-requires-clause-request c = rw (c.as_slice.ensures.bytes, c.request.view_is) c.invariant.ensures

pub returns-clause-ok : goal.returns-clause-ok
returns-clause-ok c = rw (← c.request.view_is, ← c.as_slice.ensures.bytes) c.push.ensures.ok
