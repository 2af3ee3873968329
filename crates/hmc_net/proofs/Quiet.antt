-- Where a link holds something, something is on its way.
use Rattle.std.proofs.Common.{◌≡◌, ◌↔◌, Bool, true, false}
use Rattle.std.specs.Prelude.{IsTrue}
use Rattle.std.specs.List.{All}
use Rattle.hmc_net.specs.NetState.{NetState}
use Rattle.hmc_links.specs.Quiet.{IsQuietLink}
use Rattle.hmc_net.specs.Quiescent.{IsQuiescent}

pub links_hold : (net : NetState) (links : Bool) → IsTrue links ↔ All IsQuietLink net.links → links ≡ false → IsTrue links ↔ IsQuiescent net
links_hold net true are is = absurd (cc)
links_hold net false are is = (λ no. absurd (cc), λ quiet. are.1 quiet.links)
