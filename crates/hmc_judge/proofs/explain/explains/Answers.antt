use Rattle.std.proofs.Common.{◌≡◌, ◌∙◌, ◌<◌, ◌≤◌, ◌+◌, Some, None, true, false, length, reverse, sym, ap, subst, arith, []}
use Rattle.hmc_serial.specs.Machine.{machine_of}
use Rattle.hmc_search.specs.Alone.{alone}
use Rattle.hmc_judge.specs.Explaining.{IsFirstWrong}
use Rattle.hmc_judge.specs.Walk.{point_of, some_if, walk_step, walked}
use Rattle.hmc_judge.proofs.Explaining.{all_entries, all_served, explanation, first_wrong, machine_left, nothing_walked, walked_more}
use Rattle.hmc_judge.proofs.explain.explains.Goals as goal

pub entries-init : goal.entries-init
entries-init g c =
    let opening = machine_of c.args.plain.now (g.B.Workbench.slots c.args.bench.now) in
    nothing_walked c.args.shapes.now opening
    ∙ ap (λ ws. Some (point_of c.args.plain.now (g.B.Workbench.slots c.args.bench.now) ws []))
    (sym c.new.ensures.items)
    ∙ ap (λ rs. Some (point_of c.args.plain.now (g.B.Workbench.slots c.args.bench.now)
    c.new.result.items rs)) (sym c.new-2.ensures.items)

pub entries-preserved : goal.entries-preserved
entries-preserved g c =
    let slots = g.B.Workbench.slots in
    let after = point_of c.step.new.plain (slots c.step.new.bench) c.step.new.desk.waiting.items
    c.step.new.desk.ready.items in
    walked_more c.args.shapes.now (machine_of c.args.plain.now (slots c.args.bench.now))
    c.args.entries.now c.entries.at c.index-entries-at.result
    (point_of c.entries.plain (slots c.entries.bench) c.entries.desk.waiting.items
    c.entries.desk.ready.items)
    (Some after) c.entries-test.true c.index-entries-at.is c.entries.invariant
    (c.in_ok-went.ensures ∙ ap (λ b. some_if b after) c.if-not-went.false)

pub returns-then-not-went-clause-wrong : goal.returns-then-not-went-clause-wrong
returns-then-not-went-clause-wrong g c = λ at result.
    let slots = g.B.Workbench.slots in
    let opening = machine_of c.args.plain.now (slots c.args.bench.now) in
    let before = point_of c.entries.plain (slots c.entries.bench) c.entries.desk.waiting.items
    c.entries.desk.ready.items in
    let after = point_of c.step.new.plain (slots c.step.new.bench) c.step.new.desk.waiting.items
    c.step.new.desk.ready.items in
    let wrong : IsFirstWrong c.args.shapes.now opening c.args.entries.now c.entries.at =
    first_wrong c.args.shapes.now opening c.args.entries.now c.entries.at before
    c.entries-test.true c.entries.invariant
    (walked_more c.args.shapes.now opening c.args.entries.now c.entries.at
    c.index-entries-at.result before None c.entries-test.true c.index-entries-at.is
    c.entries.invariant
    (c.in_ok-went.ensures ∙ ap (λ b. some_if b after) c.if-not-went.true)) in
    subst (λ n. IsFirstWrong c.args.shapes.now opening c.args.entries.now n) (cc) wrong

pub returns-clause-right : goal.returns-clause-right
returns-clause-right g c = λ served result.
    let slots = g.B.Workbench.slots in
    let opening = machine_of c.args.plain.now (slots c.args.bench.now) in
    let whole = all_entries c.args.entries.now c.entries.at c.entries-test.false in
    let last = point_of c.entries.plain (slots c.entries.bench) c.entries.desk.waiting.items
    c.entries.desk.ready.items in
    explanation c.args.shapes.now opening (reverse c.args.entries.now) last
    (ap (λ l. walked (alone c.args.shapes.now) opening l) (sym whole) ∙ c.entries.invariant)

pub returns-clause-machine : goal.returns-clause-machine
returns-clause-machine g c = λ served result.
    let slots = g.B.Workbench.slots in
    let opening = machine_of c.args.plain.now (slots c.args.bench.now) in
    let whole = all_entries c.args.entries.now c.entries.at c.entries-test.false in
    let last = point_of c.entries.plain (slots c.entries.bench) c.entries.desk.waiting.items
    c.entries.desk.ready.items in
    machine_left c.args.shapes.now opening (reverse c.args.entries.now) last
    (ap (λ l. walked (alone c.args.shapes.now) opening l) (sym whole) ∙ c.entries.invariant)

pub returns-clause-served : goal.returns-clause-served
returns-clause-served g c = λ result.
    let slots = g.B.Workbench.slots in
    let opening = machine_of c.args.plain.now (slots c.args.bench.now) in
    let whole = all_entries c.args.entries.now c.entries.at c.entries-test.false in
    let last = point_of c.entries.plain (slots c.entries.bench) c.entries.desk.waiting.items
    c.entries.desk.ready.items in
    let yes : c.are_empty-served.result ≡ true = cc in
    all_served c.args.shapes.now opening (reverse c.args.entries.now) last
    (ap (λ l. walked (alone c.args.shapes.now) opening l) (sym whole) ∙ c.entries.invariant)
    (ap length (sym c.deref.ensures.value) ∙ c.are_empty-served.ensures.waiting yes)
    (ap length (sym c.deref-2.ensures.value) ∙ c.are_empty-served.ensures.ready yes)
