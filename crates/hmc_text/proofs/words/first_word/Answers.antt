use Rattle.std.proofs.Common.{◌∙◌, sym, ap, drop, take, Some, List, ℕ}
use Rattle.std.specs.List.{position_or_len}
use Rattle.hmc_text.specs.Words.{is_blank, words_of}
use Rattle.hmc_text.proofs.WordsLemmas.{no_word_left, one_word}
use Rattle.hmc_text.proofs.words.first_word.Goals as goal

pub returns-then-is_empty : goal.returns-then-is_empty
returns-then-is_empty c =
    let rest = c.split_at.ensures.back ∙ ap (λ n. drop n c.args.line.now) c.blanks.ensures.length in
    no_word_left c.args.line.now c.split_at.result.1.now rest (sym c.is_empty.ensures ∙ c.if-is_empty.true)

pub returns : goal.returns
returns c =
    let line = c.split_at.result.1.now in
    let rest = c.split_at.ensures.back ∙ ap (λ n. drop n c.args.line.now) c.blanks.ensures.length in
    let word = c.split_at-2.ensures.front ∙ ap (λ n. take n line) c.letters.ensures.length in
    let after = c.split_at-2.ensures.back ∙ ap (λ n. drop n line) c.letters.ensures.length in
    ap (λ (p : List ℕ × List ℕ). Some (p.0, words_of p.1)) (ap (λ w. (w, c.split_at-2.result.1.now)) word ∙ ap (λ b. (take (position_or_len is_blank line) line, b)) after)
    ∙ one_word c.args.line.now line rest (sym c.is_empty.ensures ∙ c.if-is_empty.false)
