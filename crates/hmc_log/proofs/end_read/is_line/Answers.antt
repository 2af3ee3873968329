-- The line is compared without its line feed.
use Rattle.std.proofs.Common.{◌∙◌}
use Rattle.hmc_log.proofs.Writing.{line_same}
use Rattle.hmc_log.proofs.end_read.is_line.Goals as goal

pub returns-in-len1-up : goal.returns-in-len1-up
returns-in-len1-up c =
    line_same c.args.line.now.bytes c.as_bytes.result.now c.args.text.now
    c.as_bytes-in-len1-up.result.now c.is_same.result c.requires
    (c.as_bytes.ensures.value ∙ c.as_str.ensures.value) c.as_bytes-in-len1-up.ensures.value
    c.is_same.ensures
