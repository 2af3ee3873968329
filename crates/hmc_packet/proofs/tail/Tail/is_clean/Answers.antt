-- The fields of a word fit a tail.
use Rattle.std.proofs.Common.{sym, subst}
use Rattle.hmc_packet.specs.Tail.{IsTail}
use Rattle.hmc_packet.proofs.TailLemmas.{IsTail-of}
use Rattle.hmc_packet.proofs.tail.Tail.is_clean.Goals as goal

pub pack-requires : goal.pack-requires
pack-requires c = subst (IsTail c.args.profile) (sym c.unpack-tail.ensures) (IsTail-of c.args.profile c.args.layout c.args.word)
