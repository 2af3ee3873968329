-- What is built first is what the cubes and links say.
use Rattle.std.proofs.Common.{◌∙◌, ◌*◌, ℕ, length, ap, sym, subst}
use Rattle.std.specs.Prelude.{IfOk, replicate}
use Rattle.hmc_journal.specs.Setup.{Topology, hosts_in}
use Rattle.hmc_tally.specs.Tally.{opening_tally, no_counters, no_host_steps, no_cube_counts}
use Rattle.hmc_kept.specs.Parts.{AreNewParts}
use Rattle.hmc_kept.proofs.parts.Parts.opening.Goals as goal

pub with_hosts-requires-clause-hosts : goal.with_hosts-requires-clause-hosts
with_hosts-requires-clause-hosts c = c.requires.hosts ∙ ap hosts_in (sym c.in_ok-wiring.ensures)

pub with_hosts-requires-clause-uncounted : goal.with_hosts-requires-clause-uncounted
with_hosts-requires-clause-uncounted c =
    c.in_ok-tally.ensures
    ∙ ap (λ (n : ℕ). record { directions = replicate (2 * length c.args.links.now) no_counters; hosts = replicate n no_host_steps; cubes = replicate (length c.args.cubes.now) no_cube_counts }) c.requires.hosts
    ∙ ap opening_tally (sym c.in_ok-wiring.ensures)

pub returns : goal.returns
returns c =
    subst (λ (t : Topology). IfOk c.with_hosts.result (λ parts. AreNewParts t c.args.script.now parts.wiring parts.hosts.items parts.piped parts.tally)) c.in_ok-wiring.ensures c.with_hosts.ensures
