-- For all that it stands for.
use Rattle.std.proofs.Common.{subst, sym}
use Rattle.hmc_ends.specs.End.{EndFields}
use Rattle.hmc_ends.specs.StandsFor.{EndStandsFor}
use Rattle.hmc_ends.proofs.Simple.{stands-unlocked}
use Rattle.hmc_link_end.proofs.end.End.unlock.Goals as goal

pub returns : goal.returns
returns g c link p s =
    let held = subst (λ (e : EndFields). EndStandsFor link e p) (sym c.self.view_is) s in
    stands-unlocked link _ p c.unlock.new.self held (c.unlock.ensures link.profile p.received held.receiver)
