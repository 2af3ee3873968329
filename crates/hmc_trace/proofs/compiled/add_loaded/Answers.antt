-- The reads are appended, and the load is noted.
use Rattle.std.proofs.Common.{◌∙◌, ◌++◌, ◌-◌, ap, refl, Ok, Err}
use Rattle.hmc_accesses.specs.Trace.Access.{load}
use Rattle.hmc_trace.proofs.Making.{appended_ok, appended_err, load_noted, load_as}
use Rattle.hmc_trace.proofs.compiled.add_loaded.Goals as goal

pub returns-in-Err : goal.returns-in-Err
returns-in-Err c =
    appended_err c.args.number (record {
      script = c.args.script.now;
      loads =
          c.args.loads.now.items;
    }) c.add_load.new.script
    (load c.args.cube c.args.place c.args.length) c.in-Err.fault
    (load_as c.args.number c.args.script.now c.add_load.new.script c.args.cube c.args.place
    c.from.result c.args.length (Err c.in-Err.fault) c.from.ensures c.in-Err.ensures)

pub returns : goal.returns
returns c =
    appended_ok c.args.number (record {
      script = c.args.script.now;
      loads =
          c.args.loads.now.items;
    }) c.add_load.new.script c.append.new.items.items
    (load c.args.cube c.args.place c.args.length)
    (load_as c.args.number c.args.script.now c.add_load.new.script c.args.cube c.args.place
    c.from.result c.args.length (Ok tt) c.from.ensures c.in_default.ensures)
    (c.in_default-append.ensures ∙ ap (λ l. c.args.loads.now.items ++ l)
    (load_noted c.args.number c.args.script.now c.add_load.new.script c.args.cube c.args.place
    c.args.length c.len-first.result _ _
    (load_as c.args.number c.args.script.now c.add_load.new.script c.args.cube c.args.place
    c.from.result c.args.length (Ok tt) c.from.ensures c.in_default.ensures) c.len-first.ensures
    (ap (λ n. n - c.len-first.result) c.len.ensures) refl))
