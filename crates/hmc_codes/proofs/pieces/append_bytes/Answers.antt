-- Sixteen bytes after sixteen, and then the rest.
use Rattle.std.proofs.Common.{◌≡◌, ◌∙◌, ◌/◌, ℕ, List, ◌++◌, length, ap, arith, rules}
use Rattle.hex.specs.Hex.{encode_lower}
use Rattle.hmc_codes.proofs.SixteenBytes.{none_written, sixteen_more, block_is, block_long, block_fits, rest_short, rest_fits, all_written, twice_as_long}
use Rattle.hmc_codes.proofs.pieces.append_bytes.Goals as goal

pub sixteens-init : goal.sixteens-init
sixteens-init g c = none_written c.args.into.now.bytes c.args.bytes.now

pub append_block-requires : goal.append_block-requires
append_block-requires g c = (
  search rules,
  (
    block_long c.args.bytes.now c.sixteens.block c.sixteens-test.true,
    block_fits c.args.into.now.bytes c.sixteens.into.bytes c.args.bytes.now c.sixteens.block _ c.sixteens.invariant c.sixteens-test.true c.requires.room,
  ),
)

pub sixteens-preserved : goal.sixteens-preserved
sixteens-preserved g c =
    sixteen_more c.args.into.now.bytes c.sixteens.into.bytes c.append_block.new.into.bytes c.args.bytes.now c.sixteens.block c.sixteens.invariant
    (c.append_block.ensures.text ∙ ap (λ (l : List ℕ). c.sixteens.into.bytes ++ encode_lower l) (block_is c.args.bytes.now c.sixteens.block))

pub append_few-requires : goal.append_few-requires
append_few-requires g c =
    let all : c.sixteens.block ≡ length c.args.bytes.now / 16 = omega arith in (
      search rules,
      (
        rest_short c.args.bytes.now,
        rest_fits c.args.into.now.bytes c.sixteens.into.bytes c.args.bytes.now c.sixteens.block _ c.sixteens.invariant all c.requires.room,
      ),
    )

pub returns : goal.returns
returns g c =
    let all : c.sixteens.block ≡ length c.args.bytes.now / 16 = omega arith in
    let text = all_written c.args.into.now.bytes c.sixteens.into.bytes c.append_few.new.into.bytes c.args.bytes.now c.sixteens.block c.sixteens.invariant all c.append_few.ensures.text in
    record { text = text; len = twice_as_long c.args.into.now.bytes c.append_few.new.into.bytes c.args.bytes.now text }
