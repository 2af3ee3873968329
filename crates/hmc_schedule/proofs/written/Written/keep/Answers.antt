use Rattle.std.proofs.Common.{◌∙◌, ◌++◌, ap}
use Rattle.hmc_schedule.proofs.WrittenLemmas.{IsKept-last, IsWritten-grown, steps_in-grown}
use Rattle.hmc_schedule.proofs.WrittenLemmas.{grown-kept, round_at-last}
use Rattle.hmc_schedule.specs.Written.{WrittenFields, kept_of}
use Rattle.hmc_schedule.proofs.written.Written.keep.Goals as goal

pub invariant_of-self-2 : goal.invariant_of-self-2
invariant_of-self-2 c =
    let kept = c.self.inside.kept.items in
    let many = c.self.inside.many.items in
    rw (c.in_ok-extend_from_slice.ensures.items)
    (IsWritten-grown (kept_of kept many) (kept_of (kept ++ c.args.round.now) many)
    c.self.inside.segments.items c.self.inside.len (grown-kept kept c.args.round.now many)
    c.self.invariant.some c.self.invariant)

pub returns-clause-steps : goal.returns-clause-steps
returns-clause-steps c =
    let kept = c.self.inside.kept.items in
    let many = c.self.inside.many.items in
    rw (c.in_ok-extend_from_slice.ensures.items)
    (steps_in-grown (kept_of kept many) (kept_of (kept ++ c.args.round.now) many)
    c.self.inside.segments.items (grown-kept kept c.args.round.now many) c.self.invariant.held
    ∙ ap (λ (w : WrittenFields). w.steps) c.self.view_is)

pub returns-clause-kept : goal.returns-clause-kept
returns-clause-kept c =
    let kept = c.self.inside.kept.items in
    rw (
      c.in_ok-extend_from_slice.ensures.items,
      c.len-start.ensures
          ∙ c.self.inside.kept.ok.0,
    ) (IsKept-last kept c.args.round.now c.args.lands c.requires)

pub returns-clause-round : goal.returns-clause-round
returns-clause-round c =
    let kept = c.self.inside.kept.items in
    rw (
      c.in_ok-extend_from_slice.ensures.items,
      c.len-start.ensures
          ∙ c.self.inside.kept.ok.0,
    ) (round_at-last kept c.args.round.now c.args.lands)
