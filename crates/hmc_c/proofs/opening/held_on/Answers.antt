-- The box has what is kept and the steps of the case.
use Rattle.std.proofs.Common.{◌≡◌, ◌∙◌, sym, subst}
use Rattle.std.proofs.lemmas.Result.{IfOk-weaker}
use Rattle.hmc_case.specs.Plan.{plan_of}
use Rattle.hmc_units.specs.Kinds.{unit_of}
use Rattle.hmc_units.specs.Slots.{units_in}
use Rattle.hmc_c.specs.Handles.{IsHeld}
use Rattle.hmc_c.specs.Kept.{fields_in}
use Rattle.hmc_c.specs.declared.held.Held.{Held}
use Rattle.hmc_c.proofs.Known.{all_known}
use Rattle.hmc_c.proofs.opening.held_on.Goals as goal

pub returns-in-Ok : goal.returns-in-Ok
returns-in-Ok c =
    let begun = c.in-Ok.ensures in
    let slots = units_in unit_of c.args.bench in
    let held : Held = record { kept = c.in-Ok.kept; laid = c.new-laid.result } in
    let laid = c.new-laid.ensures ∙ c.into_schedule.ensures in
    let is : IsHeld held c.args.tape c.args.case slots = record {
      stands = begun.stands;
      tape_is = begun.tape_is;
      laid = laid;
      unfinished = begun.unfinished;
      plan = begun.plan;
      known = all_known (plan_of c.args.case.net) (fields_in c.in-Ok.kept).plan c.args.case.schedule c.new-laid.result begun.plan laid c.invariant.ensures.schedule;
    } in
    IfOk-weaker c.boxed.result (λ made. made.value ≡ held) (λ made. IsHeld made.value c.args.tape c.args.case slots) (λ made same. subst (λ (h : Held). IsHeld h c.args.tape c.args.case slots) (sym same) is) c.boxed.ensures
