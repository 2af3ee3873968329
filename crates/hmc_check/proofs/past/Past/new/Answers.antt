-- What is kept of a case before its first line.
use Rattle.std.proofs.Common.{◌∙◌, List, [], refl, ap, subst}
use Rattle.hmc_case.specs.Setup.{CubeSetupFields}
use Rattle.hmc_case.specs.declared.setup.LinkRow.{LinkRow}
use Rattle.hmc_serial.specs.Machine.{openings_from}
use Rattle.hmc_journal.specs.Setup.{setup_of}
use Rattle.hmc_journal.proofs.Networks.{network_of}
use Rattle.hmc_wiring.proofs.Cases.{steps_fit}
use Rattle.hmc_directions.specs.Ends.{EndsHold}
use Rattle.hmc_check.specs.Opening.{new_queues, shapes_of}
use Rattle.hmc_check.proofs.Opening.{opening_keeps}
use Rattle.hmc_check.proofs.past.Past.new.Goals as goal

pub returns : goal.returns
returns g c =
    let case = c.args.case.now in
    let slots = g.B.Workbench.slots c.args.bench in
    let is = c.in_ok-parts.ensures in
    let new = is.parts in
    opening_keeps (setup_of case slots) _ (network_of case slots is.case) (steps_fit case slots is.case) is.few (record {
      same_topology = new.same_topology;
      queues = c.in_ok-queues.ensures ∙ ap new_queues c.cubes.ensures;
      cubes = c.in_ok-plain.ensures ∙ ap (λ (l : List CubeSetupFields). openings_from 0 (shapes_of l)) c.cubes-2.ensures;
      same_slots = refl;
      hosts = new.new_hosts;
      ends = subst (λ (l : List LinkRow). EndsHold l c.in_ok-ends.ends (λ link. [])) c.links.ensures c.in_ok-ends.ensures;
      piped = new.counted;
      unused = new.unused;
      tally = new.uncounted;
    })
