use Rattle.std.proofs.Common.{◌≡◌, map}
use Rattle.std.specs.List.{flat_map}
use Rattle.hmc_schedule.specs.declared.step.Step.TheVariants.{Bank}
use Rattle.hmc_codes.specs.Numbers.{upto}
use Rattle.hmc_schedule.proofs.round.banks.Given as goal

abbrev pub invariant-loop-vault : goal.invariant-loop-vault
invariant-loop-vault l = l.steps.items ≡ flat_map (λ vault. map (Bank l.cube vault) (upto l.banks)) (upto l.vault)
