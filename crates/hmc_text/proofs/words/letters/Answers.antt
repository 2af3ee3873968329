use Rattle.hmc_text.proofs.PartsLemmas.{position-searched, searched-few}
use Rattle.hmc_text.specs.Words.{is_blank}
use Rattle.hmc_text.proofs.words.letters.Goals as goal

pub returns : goal.returns
returns c = record {
  length = rw c.unwrap_or.ensures (position-searched is_blank c.args.line.now c.memchr2.result c.memchr2.ensures);
  few = rw c.unwrap_or.ensures (searched-few is_blank c.args.line.now c.memchr2.result c.memchr2.ensures);
}
