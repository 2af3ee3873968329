-- The input was read whole, or reading ended early.
use Rattle.std.proofs.Common.{inl, inr, refl, sym, subst}
use Rattle.hmc_codes.specs.Limits.{most_check_input}
use Rattle.hmc_replay.specs.Input.{ReadsWhole}
use Rattle.hmc_replay.proofs.Writing.{err_is}
use Rattle.hmc_replay.proofs.check.run_check.Goals as goal

pub returns-in_err-input : goal.returns-in_err-input
returns-in_err-input g c =
    inr (
      record {
        input = c.in_err-input.ensures.0;
        error = c.in_err-input.field-0.0;
        cause = err_is c.from_residual.result _ c.from_residual.ensures.1;
        part = c.in_err-input.ensures.1;
      },
      refl,
    )

pub returns : goal.returns
returns g c = inl (record {
  input = c.deref.result.now;
  whole = subst (ReadsWhole most_check_input (g.S.Source.shows c.args.source.now)
      (g.S.Source.shows c.read_input.new.source)) (sym c.deref.ensures.value) c.in_ok-input.ensures;
  answer = c.answer.ensures;
})
