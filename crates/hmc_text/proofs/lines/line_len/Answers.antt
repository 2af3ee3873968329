use Rattle.hmc_text.proofs.PartsLemmas.{position-searched, searched-few}
use Rattle.hmc_text.specs.Lines.{is_line_feed}
use Rattle.hmc_text.proofs.lines.line_len.Goals as goal

pub returns : goal.returns
returns c = record {
  length = rw c.unwrap_or.ensures (position-searched is_line_feed c.args.text.now c.memchr.result c.memchr.ensures);
  few = rw c.unwrap_or.ensures (searched-few is_line_feed c.args.text.now c.memchr.result c.memchr.ensures);
}
