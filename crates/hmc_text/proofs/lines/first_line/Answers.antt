use Rattle.hmc_text.proofs.LinesLemmas.{lines_of-first}
use Rattle.hmc_text.proofs.lines.first_line.Goals as goal

pub returns : goal.returns
returns c =
    rw (c.without_return.ensures, c.after_feed.ensures) (lines_of-first c.args.text.now _ _ c.line_len.result c.line_len.ensures.length c.split_at.ensures.front c.split_at.ensures.back)
