-- The line of the step is gathered, or the report differs before it.
use Rattle.std.proofs.Common.{◌∙◌, ◌+◌, ◌++◌, ap}
use Rattle.hmc_entries.specs.Lines.{line_of}
use Rattle.hmc_check.proofs.Following.{next_due, line_come, line_has, rest_few}
use Rattle.hmc_check.proofs.Rounds.{followed_step}
use Rattle.hmc_check.proofs.checker.follow_step.Goals as goal

pub take_step-passed-requires : goal.take_step-passed-requires
take_step-passed-requires g c =
    let is = c.requires.3 in (c.requires.0, c.requires.1, next_due _ c.requires.0 c.requires.1 _ c.requires.2 is.before)

pub make_room-requires : goal.make_room-requires
make_room-requires g c = let is = c.requires.3 in rest_few _ _ _ _ is.lines

pub returns-in-Ok : goal.returns-in-Ok
returns-in-Ok g c = λ setup lines left is.
    let after = c.take_step-passed.ensures setup lines (next_due _ setup lines _ left is.before) in
    let lawful = after.stands.holds.lawful in
    let come = c.in-Ok.ensures.follows _ _ (line_come setup lines _ _ _ _ lawful is.lines) in
    let line = c.put.ensures.text ∙ ap (λ e. c.make_room.new.followed.text.bytes ++ line_of e) c.last.ensures in
    followed_step _ _ setup lines _ left _ _ _ _ _ is.before after (line_has setup lines _ _ _ _ _ lawful come line) (ap (λ n. n + 1) (c.make_room.ensures.entries ∙ is.entries_are))

pub returns-in-Err : goal.returns-in-Err
returns-in-Err g c = λ setup lines left is.
    let after = c.take_step-passed.ensures setup lines (next_due _ setup lines _ left is.before) in
    c.in-Err.ensures.follows _ _ (line_come setup lines _ _ _ _ after.stands.holds.lawful is.lines)
