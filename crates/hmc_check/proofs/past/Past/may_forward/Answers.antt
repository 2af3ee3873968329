-- A packet can go on if it isn't forwarded yet, no packet waits there, and the other direction is ready.
use Rattle.std.proofs.Common.{◌∙◌, ℕ, Option, ap, sym, subst}
use Rattle.std.specs.Prelude.{is_some}
use Rattle.hmc_directions.specs.Ends.{EndsHold}
use Rattle.hmc_kept.specs.ByDirection.{IsArrival, IsTaking}
use Rattle.hmc_kept.specs.Pipes.{forwarded_at}
use Rattle.hmc_check.specs.Moving.{IsFree}
use Rattle.hmc_check.specs.Past.{PastParts, past_of}
use Rattle.hmc_check.proofs.Forwarding.{free_found}
use Rattle.hmc_check.proofs.past.Past.may_forward.Goals as goal

pub returns : goal.returns
returns g c =
    let p = past_of g.B.Workbench.slots c.args.self.now in
    subst (IsFree p c.args.from c.args.onto c.args.flits) (sym c.may_go.ensures)
    (free_found p c.args.from c.args.onto c.args.flits c.is_some.result c.has_arrived-arrived.result c.through_ready-ready.result c.requires.from
    (c.is_some.ensures ∙ ap (λ (o : Option ℕ). is_some o) (c.onto-forwarded.ensures ∙ ap (λ (p : PastParts _). forwarded_at p.piped c.args.from) c.self.view_is))
    (subst (λ (p : PastParts _). IsArrival EndsHold p.ends c.args.from c.has_arrived-arrived.result) c.self.view_is c.has_arrived-arrived.ensures)
    (subst (λ (p : PastParts _). IsTaking EndsHold p.ends c.args.onto c.args.flits c.through_ready-ready.result) c.self.view_is c.through_ready-ready.ensures))
