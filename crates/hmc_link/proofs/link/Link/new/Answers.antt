use Rattle.std.proofs.Common.{refl}
use Rattle.hmc_send.specs.declared.toward.Toward.TheVariants.{Forth, Back}
use Rattle.hmc_link.proofs.Joins.{link-new, new-stands}
use Rattle.hmc_link.proofs.link.Link.new.Goals as goal

pub returns-clause-stands : goal.returns-clause-stands
returns-clause-stands g c = link-new c.args.setup _ c.invariant.ensures (c.in_ok-a.ensures Forth) (c.in_ok-b.ensures Back) refl refl

pub invariant_of-result : goal.invariant_of-result
invariant_of-result g c = λ going.
    new-stands c.args.setup _ (link-new c.args.setup _ c.invariant.ensures (c.in_ok-a.ensures Forth) (c.in_ok-b.ensures Back) refl refl)
