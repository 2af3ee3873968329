use Rattle.std.proofs.Common.{ℕ, map}
use Rattle.hmc_schedule.specs.declared.step.Step.TheVariants.{Bank}
use Rattle.hmc_codes.specs.Numbers.{upto}
use Rattle.hmc_schedule.proofs.RoundLemmas.{one_more}
use Rattle.hmc_schedule.proofs.round.banks.Goals as goal

pub loop-vault-preserved : goal.loop-vault-preserved
loop-vault-preserved c =
    one_more (λ v. v.items) (λ (vault : ℕ). map (Bank c.args.cube vault) (upto c.banks-banks.result)) c.loop-vault.vault c.bank_steps.result c.loop-vault.steps.items c.add.new.steps.items c.in_default.ensures c.bank_steps.ensures c.loop-vault.invariant
