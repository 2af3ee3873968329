-- A case is a network of few parts.
use Rattle.std.proofs.Common.{◌≡◌, ◌≤◌, ◌<◌, ◌^◌, ◌∙◌, ℕ, List, [], length, ap, sym, subst, arith}
use Rattle.hmc_codes.specs.Limits.{most_hosts}
use Rattle.hmc_script.specs.Items.{ItemFields}
use Rattle.hmc_journal.specs.Setup.{Topology, hosts_in, setup_of}
use Rattle.hmc_journal.proofs.Networks.{network_of}
use Rattle.hmc_wiring.specs.Wiring.{IsLaidOut}
use Rattle.hmc_wiring.proofs.Cases.{laid_out, topology_is}
use Rattle.hmc_kept.specs.Parts.{AreNewParts}
use Rattle.hmc_kept.proofs.Opening.{ok_then}
use Rattle.hmc_kept.proofs.parts.Parts.build.Goals as goal

few_by : (steps counted : ℕ) → counted < 2 ^ 32 → counted ≡ steps → steps < 2 ^ 32
few_by steps counted few is = omega (arith, few, is)

pub opening-requires-clause-laid_out : goal.opening-requires-clause-laid_out
opening-requires-clause-laid_out c =
    subst IsLaidOut (sym (topology_is c.cubes.result.now c.args.case.now.net.cubes c.links.result.now c.args.case.now.net.links c.cubes.ensures c.links.ensures)) (laid_out (setup_of c.args.case.now []) (network_of c.args.case.now [] c.invariant.ensures))

pub opening-requires-clause-hosts : goal.opening-requires-clause-hosts
opening-requires-clause-hosts c =
    c.hosts.ensures ∙ c.invariant.ensures.net.all_hosts
    ∙ ap hosts_in (sym (topology_is c.cubes.result.now c.args.case.now.net.cubes c.links.result.now c.args.case.now.net.links c.cubes.ensures c.links.ensures))

pub opening-requires-clause-few : goal.opening-requires-clause-few
opening-requires-clause-few c = subst (λ n. n ≤ most_hosts) (sym c.hosts.ensures) c.invariant.ensures.net.few_hosts

pub returns-clause-parts : goal.returns-clause-parts
returns-clause-parts c =
    let case = c.args.case.now in
    let same = topology_is c.cubes.result.now case.net.cubes c.links.result.now case.net.links c.cubes.ensures c.links.ensures in
    ok_then
    (λ p. AreNewParts (record { cubes = c.cubes.result.now; links = c.links.result.now }) c.script-2.result.now p.wiring p.hosts.items p.piped p.tally)
    (λ p. AreNewParts (record { cubes = case.net.cubes; links = case.net.links }) case.script p.wiring p.hosts.items p.piped p.tally) c.opening.result
    (λ p is. subst (λ (t : Topology). AreNewParts t case.script p.wiring p.hosts.items p.piped p.tally) same
    (subst (λ (s : List ItemFields). AreNewParts (record { cubes = c.cubes.result.now; links = c.links.result.now }) s p.wiring p.hosts.items p.piped p.tally) c.script-2.ensures is))
    c.opening.ensures

pub returns-clause-few : goal.returns-clause-few
returns-clause-few c = few_by (length c.args.case.now.schedule) c.len.result c.len.type_inv (c.len.ensures ∙ ap length c.schedule.ensures)
