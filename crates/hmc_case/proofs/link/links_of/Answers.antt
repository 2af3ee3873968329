use Rattle.std.proofs.Common.{◌∙◌, sym, ap, Vec, Global, get_or, arith}
use Rattle.hmc_case.proofs.InTurnLemmas.{in_turn-ok, in_turn-err, in_turn-end, Gains-length}
use Rattle.hmc_case.specs.Links.{next_link, links_of}
use Rattle.hmc_case.specs.declared.setup.LinkRow.{LinkRow}
use Rattle.toml.specs.View.{view, array_view}
use Rattle.hmc_case.proofs.link.links_of.Goals as goal

pub returns-in-Err-clause-value : goal.returns-in-Err-clause-value
returns-in-Err-clause-value c =
    in_turn-err (λ (links : Vec LinkRow Global). links.items) (next_link c.args.profile c.args.cubes) c.args.values.now.items c.values.value-index c.value-item.result c.values.links.items c.read_link.new.links.items c.in-Err.fault (links_of c.args.profile c.args.cubes (array_view c.args.values.now))
    (omega arith) (c.value-item.is ∙ ap (λ vs. get_or vs c.values.value-index c.value-item.result) c.deref-value-items.ensures.value) c.in-Err.ensures.value c.values.invariant.so_far

pub values-preserved : goal.values-preserved
values-preserved c =
    let read = next_link c.args.profile c.args.cubes c.values.links.items (view c.value-item.result) in
    let longer = Gains-length c.values.links.items c.read_link.new.links.items c.in_default.field-0 read c.in_default.ensures.value in
    let next = in_turn-ok (next_link c.args.profile c.args.cubes) c.args.values.now.items c.values.value-index c.value-item.result c.values.links.items c.read_link.new.links.items c.in_default.field-0 (omega arith) (c.value-item.is ∙ ap (λ vs. get_or vs c.values.value-index c.value-item.result) c.deref-value-items.ensures.value) c.in_default.ensures.value in
    record {
      count = omega (arith, longer);
      so_far = sym next ∙ c.values.invariant.so_far;
      within = c.in_default.ensures.within c.values.invariant.within;
    }

pub returns-clause-value : goal.returns-clause-value
returns-clause-value c = sym c.values.invariant.so_far ∙ in_turn-end (next_link c.args.profile c.args.cubes) c.args.values.now.items c.values.value-index c.values.links.items (omega arith)
