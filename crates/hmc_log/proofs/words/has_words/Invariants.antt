-- The words that were passed, and those that are left.
use Rattle.std.proofs.Common.{◌≡◌, ◌+◌, length}
use Rattle.hmc_text.specs.Words.{words_of}
use Rattle.hmc_log.proofs.words.has_words.Given as goal

abbrev pub invariant-words : goal.invariant-words
invariant-words l = length (words_of l.fn.line) ≡ l.at + length (words_of l.left)
