use Rattle.std.proofs.Common.{◌≤◌, ap, arith, rules}
use Rattle.std.proofs.lemmas.Bool.Decides.{nat_tests}
use Rattle.hmc_schedule.proofs.WrittenLemmas.{IsWritten-more, steps_in-stretch}
use Rattle.hmc_schedule.specs.Written.{WrittenFields}
use Rattle.hmc_schedule.proofs.written.Written.append.Goals as goal

pub invariant_of-self-2 : goal.invariant_of-self-2
invariant_of-self-2 c =
    let kept_is = ap (λ (w : WrittenFields). w.kept) c.self.view_is in
    let steps_is = ap (λ (w : WrittenFields). w.steps) c.self.view_is in
    let some : 1 ≤ c.args.count = grind (arith, nat_tests, c.if-count-eq0.false) in
    rw (c.in_default.ensures.items, c.in_ok-held.ensures.held, c.in_ok-held.ensures.more) (IsWritten-more c.self.inside.kept.items c.self.inside.many.items c.self.inside.segments.items c.self.inside.len c.args.count c.args.stretch c.self.invariant (search rules) some (search rules) (search rules))

pub returns-clause-ok : goal.returns-clause-ok
returns-clause-ok c =
    let kept_is = ap (λ (w : WrittenFields). w.kept) c.self.view_is in
    let steps_is = ap (λ (w : WrittenFields). w.steps) c.self.view_is in
    rw (c.in_default.ensures.items, c.in_ok-held.ensures.held, c.in_ok-held.ensures.more, ← kept_is, ← steps_is) (steps_in-stretch c.self.inside.kept.items c.self.inside.many.items c.self.inside.segments.items c.self.inside.len c.args.stretch c.self.invariant)
