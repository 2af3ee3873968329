-- A host is there where a direction starts at it.
use Rattle.std.proofs.Common.{◌≤◌, ◌<◌, ◌↔◌, ◌∙◌, IsTrue, None, sym, ap, subst, arith, ltb-true}
use Rattle.std.specs.Prelude.{is_some, slice_index_or}
use Rattle.hmc_journal.specs.Setup.{Topology, hosts_in}
use Rattle.hmc_wiring.proofs.Places.{host_start, has_start}
use Rattle.hmc_wiring.proofs.wiring.Wiring.has_host.Goals as goal

pub returns-then-from-lt-HOSTS : goal.returns-then-from-lt-HOSTS
returns-then-from-lt-HOSTS c =
    let few : c.args.host < 8 = omega (arith, c.from.ensures, c.if-from-lt-HOSTS.true) in
    subst (λ (t : Topology). IsTrue c.is_some.result ↔ (c.args.host < hosts_in t)) c.self.view_is
    (has_start _ c.self.inside.hosts c.args.host c.is_some.result c.self.invariant.laid_out c.self.invariant.host_starts few
    (c.is_some.ensures ∙ ap (λ n. is_some (slice_index_or c.self.inside.hosts n None)) c.from-then-from-lt-HOSTS.ensures))

pub returns-else-from-lt-HOSTS : goal.returns-else-from-lt-HOSTS
returns-else-from-lt-HOSTS c =
    let many : 8 ≤ c.args.host = omega (arith, c.from.ensures, c.if-from-lt-HOSTS.false) in (
      λ yes. (let low = ltb-true c.from.result 8 yes in absurd (omega (arith, low, c.if-from-lt-HOSTS.false))),
      λ less.
          let start = host_start _ c.self.inside.hosts c.args.host c.self.invariant.laid_out c.self.invariant.host_starts (subst (λ (t : Topology). c.args.host < hosts_in t) (sym c.self.view_is) less) in
          absurd (omega (arith, many, start.few)),
    )
