-- What is kept stands for what its session stands for.
use Rattle.std.proofs.Common.{List}
use Rattle.hmc_entries.specs.declared.entry.Entry.{Entry}
use Rattle.hmc_journal.specs.Setup.{Setup}
use Rattle.hmc_session.specs.Session.{StandsIn}
use Rattle.hmc_c.specs.Kept.{KeptStands, fields_in}
use Rattle.hmc_c.specs.declared.kept.Kept.{Kept}
use Rattle.hmc_c.specs.declared.kept.Kept.TheVariants.{OnTape, Untaped}

pub stands_in : (kept : Kept) (setup : Setup) (past : List Entry) → KeptStands kept setup past →
    StandsIn (fields_in kept) setup past
stands_in (Untaped session) setup past stands = stands
stands_in (OnTape taped) setup past stands = stands.stands
