use Rattle.hmc_packet.proofs.LandingRows.{reception_rows}
use Rattle.hmc_packet.proofs.link_laws.landings_are_by_rows.Goals as goal

pub returns : goal.returns
returns c = reception_rows
