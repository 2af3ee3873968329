-- A store notes no load.
use Rattle.hmc_trace.proofs.Making.{stored_compiles}
use Rattle.hmc_trace.proofs.compiled.perform.Goals as goal

pub returns-in-Store : goal.returns-in-Store
returns-in-Store c = stored_compiles c.args.number c.args.script.now c.add_stored.new.script
    c.args.loads.now.items c.args.parsed.now c.in-Store.cube c.in-Store.place c.in-Store.digits
    c.add_stored.result c.in-Store.is c.add_stored.ensures
