-- One entry more.
use Rattle.std.proofs.Common.{◌∙◌, Bool, sym, ap, subst}
use Rattle.hmc_entries.specs.Event.{event_of, IsLongFlit}
use Rattle.hmc_entries.specs.declared.event.Event.{Event}
use Rattle.hmc_tally.specs.Tally.{tallied, step_changes, IsWithin}
use Rattle.hmc_check.specs.Past.{PastParts}
use Rattle.hmc_check.proofs.past.Past.count.Goals as goal

pub add-requires : goal.add-requires
add-requires g c = (c.requires.0, c.requires.1, subst (λ (v : PastParts _). IsWithin c.requires.0 v.tally) (sym c.self.view_is) c.requires.2)

pub returns-clause-counted : goal.returns-clause-counted
returns-clause-counted g c = ap (λ (v : PastParts _). record v { tally = c.add.new.self }) c.self.view_is

pub returns-clause-tally : goal.returns-clause-tally
returns-clause-tally g c =
    c.add.ensures.counted
    ∙ ap (λ (b : Bool). tallied b c.args.was_good c.event-event.result c.self.inside.tally) c.step_changes.ensures
    ∙ ap (λ (e : Event). tallied (step_changes c.args.step.now) c.args.was_good e c.self.inside.tally) c.event-event.ensures
    ∙ ap (λ (v : PastParts _). tallied (step_changes c.args.step.now) c.args.was_good (event_of v.last) v.tally) c.self.view_is

pub returns-clause-within : goal.returns-clause-within
returns-clause-within g c = λ most within. c.add.ensures.within most (subst (λ (v : PastParts _). IsWithin most v.tally) (sym c.self.view_is) within)

pub returns-clause-long : goal.returns-clause-long
returns-clause-long g c = subst (λ (v : PastParts _). IsLongFlit v.last) c.self.view_is c.flit_is_long.ensures
