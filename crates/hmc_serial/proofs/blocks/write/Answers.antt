use Rattle.std.proofs.Common.{◌∙◌, arith}
use Rattle.hmc_serial.proofs.BlockLemmas.{write_more}
use Rattle.hmc_serial.proofs.blocks.write.Goals as goal

pub loop-i-preserved : goal.loop-i-preserved
loop-i-preserved c = (
  c.put16.ensures.shape ∙ c.loop-i.invariant.0,
  write_more c.args.banks.now.bytes c.loop-i.banks.bytes c.put16.new.self.bytes c.args.bytes.now c.copy_from_slice.new.self c.args.address c.loop-i.i (omega (arith, c.invariant.ensures.capacity)) (omega arith) c.copy_from_slice.ensures.after
      c.loop-i.invariant.1 c.put16.ensures.bytes,
)
