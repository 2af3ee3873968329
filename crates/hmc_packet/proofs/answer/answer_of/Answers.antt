use Rattle.std.proofs.Common.{Option, sym, subst}
use Rattle.std.specs.Prelude.{◌↔◌, ◌≡◌, IsSome}
use Rattle.hmc_codes.specs.Commands.{family_of}
use Rattle.hmc_codes.specs.declared.answer.Answer.{Answer}
use Rattle.hmc_codes.specs.declared.family.Family.TheVariants as families
use Rattle.hmc_packet.proofs.TransactionLemmas.{answer_in-replies}
use Rattle.hmc_packet.proofs.answer.answer_of.Goals as goal

pub returns-clause-replies : goal.returns-clause-replies
returns-clause-replies c =
    subst (λ (o : Option Answer). IsSome o ↔ (family_of c.args.packet.now.command ≡ families.Reply)) (sym c.answer_in.ensures) (answer_in-replies c.args.packet.now)
