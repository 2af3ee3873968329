use Rattle.std.proofs.Common.{Bool, ap, sym}
use Rattle.hmc_codec.specs.Plain.{profile_of}
use Rattle.hmc_codec.proofs.reading.profile_of.Goals as goal

pub returns-then-two : goal.returns-then-two
returns-then-two c = ap (λ (two : Bool). profile_of two) (sym c.if-two.true)

pub returns-else-two : goal.returns-else-two
returns-else-two c = ap (λ (two : Bool). profile_of two) (sym c.if-two.false)
