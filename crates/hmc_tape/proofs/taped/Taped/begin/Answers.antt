-- The tape begins with the script of the case.
use Rattle.std.proofs.Common.{◌∙◌, string_bytes, ap}
use Rattle.hmc_script.specs.Text.{script_text}
use Rattle.hmc_tape.specs.Tape.{taped_of}
use Rattle.hmc_tape.proofs.Taping.{begins}
use Rattle.hmc_tape.proofs.taped.Taped.begin.Goals as goal

pub returns-clause-tape : goal.returns-clause-tape
returns-clause-tape g c =
    let slots = g.B.Workbench.slots in
    begins (taped_of slots (record { session = c.in_ok-session.session; script = string_bytes c.in_ok-script.script; schedule = string_bytes c.new.result })) c.args.case.now (slots c.args.bench)
    c.invariant.ensures c.in_ok-session.ensures.stands c.in_ok-session.ensures.plan (c.in_ok-script.ensures.text ∙ ap script_text c.script.ensures) c.new.ensures.bytes
