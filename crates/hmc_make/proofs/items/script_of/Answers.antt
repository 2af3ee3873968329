use Rattle.std.proofs.Common.{◌∙◌, ◌∷◌, [], ◌++◌, length, ap, arith, length-append, subst, sym}
use Rattle.std.specs.List.{All}
use Rattle.hmc_make.proofs.RequestLemmas.{items-more, items-end, items-within}
use Rattle.hmc_make.proofs.items.script_of.Goals as goal
use Rattle.hmc_make.specs.Requests.{item_of}
use Rattle.hmc_script.specs.Items.{ItemFields, IsWithin}

pub requests-preserved : goal.requests-preserved
requests-preserved c =
    let state = c.requests.draws.state in
    let old = c.requests.script in
    let item : ItemFields = item_of c.draw_request-request.result in
    let grown = c.in_default.ensures.ok ∙ ap (λ request. old ++ item_of request ∷ []) c.draw_request-request.ensures.request in
    record {
      items = items-more 200 c.requests._request c.args.cubes state c.draw_request-request.new.draws.state old c.add.new.self _ c.requests-test.true grown c.draw_request-request.ensures.state c.requests.invariant.items;
      len = omega (arith, ap length c.in_default.ensures.ok, length-append old (item ∷ []), c.requests.invariant.len);
    }

pub returns-clause-items : goal.returns-clause-items
returns-clause-items c = items-end 200 c.requests._request c.args.cubes c.requests.draws.state c.requests.script _ c.requests-test.false c.requests.invariant.items

pub returns-clause-within : goal.returns-clause-within
returns-clause-within c =
    let all = items-end 200 c.requests._request c.args.cubes c.requests.draws.state c.requests.script _ c.requests-test.false c.requests.invariant.items in
    subst (All (IsWithin 1 c.args.cubes)) (sym all) (items-within 200 c.args.cubes c.args.number c.requires.some)
