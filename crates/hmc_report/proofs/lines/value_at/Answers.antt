use Rattle.hmc_report.proofs.LeftLemmas.{value-there, some-there, same-value}
use Rattle.hmc_report.proofs.lines.value_at.Goals as goal

pub unwrap-requires : goal.unwrap-requires
unwrap-requires g c =
    some-there _ _ (value-there _ c.args.register _ c.register.ensures.sixteen c.requires.register c.register.ensures.value)

pub returns : goal.returns
returns g c =
    same-value _ _ _ (value-there _ c.args.register _ c.register.ensures.sixteen c.requires.register c.register.ensures.value) c.unwrap.ensures
