-- Landings of packets that are forwarded.
use Rattle.std.proofs.Common.{◌≡◌, ◌<◌, ◌/◌, ℕ, false, List, refl, arith}
use Rattle.std.specs.Prelude.{slice_get}
use Rattle.hmc_ends.specs.Outcomes.{front_outcome, outcome_passed}
use Rattle.hmc_ends.specs.declared.link_outcome.LinkOutcome.{LinkOutcome}
use Rattle.hmc_ends.specs.declared.link_outcome.LinkOutcome.TheVariants as lands
use Rattle.hmc_send.specs.LinkCalls.{LinkCall}
use Rattle.hmc_send.specs.LinkEntries.{LinkEntry}
use Rattle.hmc_send.specs.LinkLines.{line}
use Rattle.hmc_journal.specs.Links.{toward}
use Rattle.hmc_journal.specs.Setup.{directions_in}
use Rattle.hmc_kept.specs.Called.{sizes_by, called}
use Rattle.hmc_links.specs.LinkList.{LinksStandFor}
use Rattle.hmc_case.specs.declared.setup.LinkRow.{LinkRow}
use Rattle.hmc_link.specs.Held.{LinkHeld}
use Rattle.hmc_net.specs.Links.{MayForward}
use Rattle.hmc_net.specs.NetState.{NetState}
use Rattle.hmc_net.specs.Sees.{IsReady}
use Rattle.hmc_kept.proofs.Forwarded.{are_gathering, is_last}
use Rattle.hmc_net.proofs.Seeing.{shows_pipes}

-- what the landing of a packet that is forwarded rests on
pub may_forward_landed : (net : NetState) (direction : ℕ) (mask : List ℕ) (landed : LinkOutcome) (between : List LinkHeld) → IsReady net → direction < directions_in net.topology
    → ((rows : List LinkRow) (entries : ℕ → List LinkEntry) → LinksStandFor rows net.links entries → landed
    ≡ front_outcome (sizes_by rows direction) (toward direction) (entries (direction / 2)) mask (slice_get (line (sizes_by rows direction).profile (toward direction) (entries (direction / 2))) 0))
    → ((rows : List LinkRow) (entries : ℕ → List LinkEntry) → LinksStandFor rows net.links entries → outcome_passed landed ≡ false → LinksStandFor rows between (called rows direction (λ d. LinkCall.land d mask) entries))
    → MayForward between net.piped direction landed
may_forward_landed net direction mask lands.Empty between ready there answer stand = tt
may_forward_landed net direction mask (lands.Passed flit) between ready there answer stand = tt
may_forward_landed net direction mask (lands.Came flit landed) between ready there answer stand =
    let stands = stand net.topology.links ready.view.entries ready.sees.shows.links refl in (
      omega (arith, there, stands.count),
      stands.going,
      are_gathering net.topology ready.view net.piped direction ready.sees.laws (shows_pipes net ready.view ready.sized ready.sees) there,
      is_last net.topology ready.view net.piped direction mask (lands.Came flit landed) ready.sees.laws (shows_pipes net ready.view ready.sized ready.sees) there (answer net.topology.links ready.view.entries ready.sees.shows.links),
    )
