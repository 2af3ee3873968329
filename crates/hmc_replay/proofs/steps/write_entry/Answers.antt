-- One write is one line, and a line isn't empty.
use Rattle.hmc_entries.specs.Lines.{line_of}
use Rattle.hmc_replay.proofs.EntryLines.{line_of-some}
use Rattle.hmc_replay.proofs.Writing.{Writes-one}
use Rattle.hmc_replay.proofs.steps.write_entry.Goals as goal

pub returns : goal.returns
returns g c =
    let wrote = c.write_line.ensures in
    let entry = c.args.entry.now in
    Writes-one _ _ (line_of entry) c.write_line.result (line_of-some entry) wrote.counted wrote.finishes wrote.not_finished wrote.piece wrote.appended wrote.sound wrote.prefix wrote.fault wrote.failed
