-- The text is held, and then the bytes are.
use Rattle.hmc_outside.proofs.HeldLemmas.{held_after, prefix_held, none_written}
use Rattle.hmc_outside.proofs.std_sink.StdSink.hold.Goals as goal

pub returns-clause-appended : goal.returns-clause-appended
returns-clause-appended g c =
    held_after c.write_whole.result _ _ _ _ _ _ c.in_ok-hold_text.ensures.none c.in_ok-hold_text.ensures.all c.hold_text.ensures.kept c.write_whole.ensures.appended

pub returns-clause-prefix : goal.returns-clause-prefix
returns-clause-prefix g c =
    prefix_held c.write_whole.result _ _ _ _ _ _ c.in_ok-hold_text.ensures.none c.in_ok-hold_text.ensures.all c.hold_text.ensures.kept c.write_whole.ensures.prefix

pub returns-in_err-hold_text-clause-prefix : goal.returns-in_err-hold_text-clause-prefix
returns-in_err-hold_text-clause-prefix g c =
    none_written c.from_residual.result _ _ _ c.hold_text.ensures.kept
