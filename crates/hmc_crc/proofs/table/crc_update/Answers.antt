-- Each word comes in at the register's front, and after the last one the bytes that are left.
use Rattle.std.proofs.Common.{◌≡◌, ◌+◌, ◌≤◌, List, ℕ, drop, get_or, length, refl, sym, ap, ◌∙◌, arith}
use Rattle.std.proofs.lemmas.List.{take_rest}
use Rattle.hmc_crc.specs.Remainder.{crc_update}
use Rattle.hmc_crc.specs.Bits.{number_of}
use Rattle.hmc_crc.proofs.Update.{crc_update-is, crc_update-joined}
use Rattle.hmc_crc.proofs.WordLemmas.{drop_four, remainder_from-word}
use Rattle.hmc_crc.proofs.table.crc_update.Goals as goal

pub words-init : goal.words-init
words-init c = record { within = omega arith; fits = omega arith; remains = refl }

pub words-preserved : goal.words-preserved
words-preserved c =
    let bytes : List ℕ = c.args.more.now in
    let i : ℕ = c.words.at in
    let room : i + 4 ≤ length bytes = omega (arith, c.words-test.true, c.words.invariant.within) in
    record {
      within = room;
      fits = c.with_word-register.type_inv;
      remains = remainder_from-word c.words.register (get_or bytes i 0) (get_or bytes (i + 1) 0) (get_or bytes (i + 2) 0) (get_or bytes (i + 3) 0)
          c.word_at.result c.with_word-register.result (drop (i + 4) bytes) c.word_at.ensures c.with_word-register.ensures
          ∙ (rw (drop_four bytes i room) at c.words.invariant.remains);
    }

exact : (c : goal.After-with_bytes) → c.with_bytes.result ≡ crc_update c.args.check c.args.more.now
exact c =
    c.with_bytes.ensures
    ∙ ap (crc_update c.words.register) (take_rest c.args.more.now c.words.at)
    ∙ crc_update-is c.words.register (drop c.words.at c.args.more.now)
    ∙ ap number_of c.words.invariant.remains
    ∙ sym (crc_update-is c.args.check c.args.more.now)

pub returns-clause-exact : goal.returns-clause-exact
returns-clause-exact = exact

pub returns-clause-joined : goal.returns-clause-joined
returns-clause-joined c = λ before is. exact c ∙ ap (λ (n : ℕ). crc_update n c.args.more.now) is ∙ crc_update-joined before c.args.more.now
