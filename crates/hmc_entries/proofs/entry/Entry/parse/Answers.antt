use Rattle.std.proofs.Common.{◌≡◌, None, Some, sym}
use Rattle.hmc_text.specs.Words.{words_of}
use Rattle.hmc_entries.specs.ParseEntry.{entry_in}
use Rattle.hmc_entries.proofs.ParseSame.{nothing_read, found_read, other_read}
use Rattle.hmc_entries.proofs.entry.Entry.parse.Goals as goal

pub returns-in_err-entry : goal.returns-in_err-entry
returns-in_err-entry c =
    let none : entry_in (words_of c.args.line.now) ≡ None = cc (c.candidate.ensures.value, c.in_err-entry.was) in
    rw c.from_residual.ensures (nothing_read c.args.line.now none)

pub returns-then-has_line : goal.returns-then-has_line
returns-then-has_line c =
    let found : entry_in (words_of c.args.line.now) ≡ Some c.in_ok-entry.entry = sym c.in_ok-entry.ensures.value in
    found_read c.args.line.now c.in_ok-entry.entry found c.invariant.ensures c.in_ok-entry.ensures.shown (c.has_line.ensures.0 c.if-has_line.true)

pub returns-else-has_line : goal.returns-else-has_line
returns-else-has_line c =
    let found : entry_in (words_of c.args.line.now) ≡ Some c.in_ok-entry.entry = sym c.in_ok-entry.ensures.value in
    other_read c.args.line.now c.in_ok-entry.entry found (λ own. absurd (cc (c.has_line.ensures.1 own, c.if-has_line.false)))
