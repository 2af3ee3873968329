-- The session with its tape does it.
use Rattle.std.proofs.Common.{List, subst, sym}
use Rattle.hmc_entries.specs.declared.entry.Entry.{Entry}
use Rattle.hmc_journal.specs.Setup.{Setup}
use Rattle.hmc_c.specs.Kept.{KeptStands, fields_in, has_tape}
use Rattle.hmc_c.specs.Laying.{NextBy}
use Rattle.hmc_c.specs.declared.kept.Kept.{Kept}
use Rattle.hmc_c.specs.declared.kept.Kept.TheVariants.{OnTape}
use Rattle.hmc_c.proofs.kept.Kept.next.Goals as goal

pub returns-in-OnTape-clause-does : goal.returns-in-OnTape-clause-does
returns-in-OnTape-clause-does c =
    subst (λ (kept : Kept). (setup : Setup) (past : List Entry) → KeptStands kept setup past → NextBy c.next_taped.result (has_tape kept) (fields_in kept) (KeptStands (OnTape c.next_taped.new.taped)) setup past c.args.laid.now c.next_taped.new.laid)
    (sym c.in-OnTape.is) c.next_taped.ensures.does
