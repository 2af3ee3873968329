use Rattle.hmc_case.proofs.NetLemmas.{links-read}
use Rattle.hmc_case.specs.declared.fault.Section.TheVariants as sections
use Rattle.hmc_case.proofs.link.read_link.Goals as goal

pub returns-clause-within : goal.returns-clause-within
returns-clause-within c =
    links-read sections.Link c.len-number.result c.args.cubes c.deref.result.now c.args.links.now.items c.append.new.items.items c.link_of.result c.in_ok-link.link
    c.deref.ensures.value c.in_ok-link.ensures.value c.link_of.ensures.join c.link_of.ensures.sizes c.in_ok-append.ensures.ok
