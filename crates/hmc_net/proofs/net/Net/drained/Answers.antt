use Rattle.std.proofs.Common.{◌≡◌, ◌∙◌, List, Option, sym, subst}
use Rattle.hmc_units.specs.Unit.{UnitFields}
use Rattle.hmc_entries.specs.declared.entry.Entry.{Entry}
use Rattle.hmc_journal.specs.Setup.{Setup}
use Rattle.hmc_net.specs.Journaled.{JournaledParts}
use Rattle.hmc_net.specs.NetState.{net_of}
use Rattle.hmc_net.specs.Stands.{StandsFor}
use Rattle.hmc_net.proofs.net.Net.drained.Goals as goal

inside : {B : Type 0} (slots : B → List (Option UnitFields)) (x y : JournaledParts B)
    (setup : Setup) (past : List Entry) → x ≡ y → StandsFor (net_of slots y.network) setup past →
    StandsFor (net_of slots x.network) setup past
inside {B = B} slots x y setup past e h =
    subst (λ (z : JournaledParts B). StandsFor (net_of slots z.network) setup past) (sym e) h

pub returns-clause-bound : goal.returns-clause-bound
returns-clause-bound g c = λ setup stands off single past later n is follow enough.
    c.drained.ensures setup c.args.self.now.journal.past
    (inside g.B.Workbench.slots _ _ setup c.args.self.now.journal.past c.self.view_is
    stands.stands) off
    ∙ c.drains.ensures.journal setup c.args.self.now.journal.past stands.stands.network single past
    later n is follow enough
