-- A case is a network, and its steps are steps of the network's parts.
use Rattle.std.proofs.Common.{List, [], refl, subst}
use Rattle.hmc_case.specs.Setup.{CubeSetupFields}
use Rattle.hmc_case.specs.declared.setup.LinkRow.{LinkRow}
use Rattle.hmc_journal.specs.Setup.{setup_of}
use Rattle.hmc_journal.proofs.Networks.{network_of}
use Rattle.hmc_wiring.proofs.Cases.{steps_fit}
use Rattle.hmc_links.specs.LinkList.{LinksStandFor}
use Rattle.hmc_net.specs.Opening.{AreNewCubes}
use Rattle.hmc_net.proofs.Opening.{opening_stands}
use Rattle.hmc_net.proofs.network.Network.build.Goals as goal

pub returns : goal.returns
returns g c =
    let case = c.args.case.now in
    let slots = g.B.Workbench.slots c.args.bench in
    let is = c.in_ok-parts.ensures in
    let new = is.parts in
    opening_stands (setup_of case slots) _ (network_of case slots is.case) (steps_fit case slots is.case) is.few (record {
      same_topology = new.same_topology;
      same_slots = refl;
      cubes = subst (λ (l : List CubeSetupFields). AreNewCubes l c.in_ok-cubes.cubes.items) c.cubes.ensures c.in_ok-cubes.ensures;
      piped = new.counted;
      unused = new.unused;
      hosts = new.new_hosts;
      links = subst (λ (l : List LinkRow). LinksStandFor l c.in_ok-links.links (λ link. [])) c.links.ensures c.in_ok-links.ensures;
      tally = new.uncounted;
    })
