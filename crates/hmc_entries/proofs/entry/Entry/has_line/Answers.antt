use Rattle.std.proofs.Common.{◌≡◌}
use Rattle.hmc_entries.specs.Lines.{line_of}
use Rattle.hmc_entries.proofs.ParseSame.{front_same}
use Rattle.hmc_entries.proofs.entry.Entry.has_line.Goals as goal

pub returns-in-10 : goal.returns-in-10
returns-in-10 c =
    let whole : c.as_bytes.result.now ≡ line_of c.args.self.now = cc (c.as_bytes.ensures.value, c.as_str.ensures.value, c.line.ensures.text) in
    front_same c.args.self.now c.as_bytes.result.now c.args.line.now c.as_bytes-in-10.result.now c.is_same.result whole c.as_bytes-in-10.ensures.value c.is_same.ensures
