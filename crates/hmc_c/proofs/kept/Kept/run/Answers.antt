-- The session with its tape does it.
use Rattle.std.proofs.Common.{List, subst, sym}
use Rattle.hmc_entries.specs.declared.entry.Entry.{Entry}
use Rattle.hmc_journal.specs.Setup.{Setup}
use Rattle.hmc_c.specs.Kept.{KeptStands, fields_in, has_tape}
use Rattle.hmc_c.specs.Laying.{RunBy}
use Rattle.hmc_c.specs.declared.kept.Kept.{Kept}
use Rattle.hmc_c.specs.declared.kept.Kept.TheVariants.{OnTape}
use Rattle.hmc_c.proofs.kept.Kept.run.Goals as goal

pub returns-in-OnTape-clause-does : goal.returns-in-OnTape-clause-does
returns-in-OnTape-clause-does c =
    subst (λ (kept : Kept). (setup : Setup) (past : List Entry) → KeptStands kept setup past → RunBy c.run_taped.result (has_tape kept) (KeptStands (OnTape c.run_taped.new.taped)) (fields_in (OnTape c.run_taped.new.taped)) setup past c.args.laid.now c.run_taped.new.laid c.args.stops.now c.args.most)
    (sym c.in-OnTape.is) c.run_taped.ensures.does
