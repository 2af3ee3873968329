-- Request by request.
use Rattle.std.proofs.Common.{◌≡◌, ◌∙◌, ◌++◌, ◌+◌, ◌-◌, sym, subst, ap}
use Rattle.std.specs.Prelude.{option_map}
use Rattle.hmc_accesses.specs.InOrder.{known_answer}
use Rattle.hmc_accesses.specs.Value.{joined}
use Rattle.hmc_trace.proofs.Joining.{joined_more, joined_none, joined_end}
use Rattle.hmc_trace.proofs.loaded_value.joined.Goals as goal

pub returns-in_default : goal.returns-in_default
returns-in_default c =
    joined_none (known_answer c.args.answers.now) c.args.script.now c.requests.place
    (c.args.first + c.args.count) c.requests.bytes.items _ c.requests-test.true
    (sym c.bytes_at.ensures ∙ c.in_default.is) c.requests.invariant

pub requests-preserved : goal.requests-preserved
requests-preserved c =
    let answer = known_answer c.args.answers.now in
    let last = c.args.first + c.args.count in
    let items : c.extend_from_slice.new.self.items ≡ c.requests.bytes.items ++ c.in-Some.payload =
    c.in_default-extend_from_slice.ensures.items
    ∙ ap (λ l. c.requests.bytes.items ++ l) c.as_slice.ensures.bytes in
    subst (λ l. option_map (λ more. l ++ more) (joined answer c.args.script.now
    (c.requests.place + 1) (last - (c.requests.place + 1))) ≡ joined answer c.args.script.now
    c.args.first c.args.count) (sym items)
    (joined_more answer c.args.script.now c.requests.place last c.requests.bytes.items
    c.in-Some.payload _ c.requests-test.true (sym c.bytes_at.ensures
    ∙ c.in-Some.is) c.requests.invariant)

pub returns : goal.returns
returns c =
    joined_end (known_answer c.args.answers.now) c.args.script.now c.requests.place
    (c.args.first + c.args.count) c.requests.bytes.items _ c.requests-test.false
    c.requests.invariant
