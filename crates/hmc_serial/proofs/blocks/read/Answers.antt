use Rattle.std.proofs.Common.{rules, ◌∙◌, arith}
use Rattle.hmc_serial.proofs.BlockLemmas.{read_more}
use Rattle.hmc_serial.proofs.blocks.read.Goals as goal

pub loop-i-preserved : goal.loop-i-preserved
loop-i-preserved c =
    read_more c.loop-i.bytes c.args.banks.now.bytes c.args.address c.loop-i.i c.copy_from_slice.new.self (search rules) (omega arith) (c.copy_from_slice.ensures.after ∙ c.get16.ensures) (omega arith) c.loop-i.invariant
