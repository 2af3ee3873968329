-- Each byte comes in at the register's front, and after the last one the register is the check.
use Rattle.std.proofs.Common.{◌≡◌, ◌+◌, List, ℕ, [], ◌∷◌, drop, get_or, refl, sym, ◌∙◌, arith}
use Rattle.std.proofs.lemmas.List.{drop_more, drop_all}
use Rattle.hmc_crc.proofs.Check.{remainder_from, remainder_from-more, remainder_from-last}
use Rattle.hmc_crc.proofs.Update.{crc_update-is}
use Rattle.hmc_crc.proofs.table.with_bytes.Goals as goal

pub loop-byte-init : goal.loop-byte-init
loop-byte-init c = record { fits = omega arith; whole = refl }

pub loop-byte-preserved : goal.loop-byte-preserved
loop-byte-preserved c =
    let bytes : List ℕ = c.args.bytes.now in
    let i : ℕ = c.loop-byte.byte-index in
    let byte : ℕ = get_or bytes i 0 in
    let rest : List ℕ = drop (i + 1) bytes in
    let front : drop i bytes ≡ byte ∷ rest = drop_more bytes i 0 c.loop-byte-test.true in
    record {
      fits = c.with_byte-register.type_inv;
      whole = remainder_from-more c.loop-byte.register byte c.with_byte-register.result rest c.with_byte-register.ensures
          ∙ (rw front at c.loop-byte.invariant.whole);
    }

pub returns : goal.returns
returns c =
    let none : drop c.loop-byte.byte-index c.args.bytes.now ≡ [] = drop_all c.loop-byte.byte-index c.args.bytes.now c.loop-byte-test.false in
    remainder_from-last c.loop-byte.register (remainder_from c.args.start c.args.bytes.now) c.loop-byte.invariant.fits (rw none at c.loop-byte.invariant.whole)
    ∙ sym (crc_update-is c.args.start c.args.bytes.now)
