-- A step is counted.
use Rattle.std.proofs.Common.{◌≡◌, ◌<◌, ◌+◌, ◌^◌, ◌/◌, ◌∙◌, ℕ, suc, Bool, List, ◌∷◌, length, sym, ap, subst, arith}
use Rattle.std.proofs.lemmas.Option.{slice_get_within}
use Rattle.hmc_packet.specs.Landings.{mode}
use Rattle.hmc_packet.specs.declared.view.Mode.{Mode}
use Rattle.hmc_schedule.specs.declared.step.Step.{Step}
use Rattle.hmc_schedule.specs.declared.step.Step.TheVariants as steps
use Rattle.hmc_send.specs.LinkEntries.{LinkEntry, receiver_entries}
use Rattle.hmc_journal.specs.Counts.{is_good}
use Rattle.hmc_entries.specs.Event.{IsLongFlit, event_of}
use Rattle.hmc_journal.specs.Links.{toward, link_entries}
use Rattle.hmc_journal.specs.Next.{next}
use Rattle.hmc_journal.specs.Setup.{Setup}
use Rattle.hmc_journal.specs.StepView.{view_of}
use Rattle.hmc_entries.specs.declared.entry.Entry.{Entry}
use Rattle.hmc_wiring.specs.Ready.{IsStepFor}
use Rattle.hmc_ends.specs.End.{EndFields}
use Rattle.hmc_case.specs.declared.setup.LinkRow.{LinkRow}
use Rattle.hmc_directions.specs.Ends.{EndsHold}
use Rattle.hmc_tally.specs.Tally.{TallyFields, IsWithin, tallied, step_changes, unlocks_good}
use Rattle.hmc_check.specs.Past.{PastFields, Holds, Counts, Keeps, IsNextStep, TakesStep}
use Rattle.hmc_tally.proofs.TallyLaw.{IsToldBy, tally_next}
use Rattle.hmc_wiring.proofs.Cases.{step_at}
use Rattle.hmc_kept.proofs.Telling.{told_by}
use Rattle.hmc_check.proofs.Holding.{law_of}

-- ---- a step of a part that is there

fits : (setup : Setup) (past : List Entry) (p : PastFields) (step : Step) → IsNextStep setup past p step → IsStepFor setup.topology step
fits setup past p step is = step_at (IsStepFor setup.topology) setup.schedule (length past) step is.holds.steps is.step_is

-- the receiver that an unlock finds good
pub good_seen : (setup : Setup) (past : List Entry) (p : PastFields) (step : Step) (d : ℕ) (ends : List EndFields) (found : Mode) → IsNextStep setup past p step → ends ≡ p.ends → step ≡ steps.Unlock d
    → ((rows : List LinkRow) (entries : ℕ → List LinkEntry) → EndsHold rows ends entries → found ≡ mode (receiver_entries (toward d) (entries (d / 2))))
    → is_good found ≡ unlocks_good (view_of setup past) step
unfolding view_of
good_seen setup past p step d ends found is same step_is told =
    let entries = λ (link : ℕ). link_entries setup.topology link past in
    ap is_good (told setup.topology.links entries (subst (λ (e : List EndFields). EndsHold setup.topology.links e entries) (sym same) (is.holds.ends is.goes_on)))
    ∙ sym (ap (unlocks_good (view_of setup past)) step_is)

-- ---- the counts

-- the next step can be counted
pub countable : (old new : PastFields) (past : List Entry) (setup : Setup) (step : Step) → IsNextStep setup past old step → Counts setup past old.tally → TakesStep old new step → (most : ℕ) × (most + 1 < 2 ^ 32) × IsWithin most new.tally
countable old new past setup step is counts does =
    (length past, (let some = slice_get_within setup.schedule (length past) step is.step_is in let few = counts.few in omega arith), subst (IsWithin (length past)) (sym does.tally) counts.within)

counts_then : (old new : PastFields) (tally : TallyFields) (was_good : Bool) (past : List Entry) (setup : Setup) (step : Step) → IsNextStep setup past old step → Counts setup past old.tally → TakesStep old new step
    → IsLongFlit new.last → was_good ≡ unlocks_good (view_of setup past) step → tally ≡ tallied (step_changes step) was_good (event_of new.last) new.tally → ((most : ℕ) → IsWithin most new.tally → IsWithin (most + 1) tally)
    → Counts setup (next setup past step ∷ past) tally
counts_then old new tally was_good past setup step is counts does long good tally_is within =
    let last = (does.taken setup past is).last in
    let told = subst (λ (g : Bool). IsToldBy setup.topology past (step_changes step) g (next setup past step)) (sym good) (told_by past setup step (law_of setup past old is.holds) is.holds.steps is.step_is) in
    record {
      few = counts.few;
      within = (let more : length past + 1 ≡ suc (length past) = omega arith in subst (λ (n : ℕ). IsWithin n tally) more (within (length past) (subst (IsWithin (length past)) (sym does.tally) counts.within)));
      counted = λ on. tally_is ∙ ap (λ (e : Entry). tallied (step_changes step) was_good (event_of e) new.tally) last ∙ ap (tallied (step_changes step) was_good (event_of (next setup past step))) (does.tally ∙ counts.counted is.goes_on)
          ∙ tally_next setup.topology past (next setup past step) (step_changes step) was_good on told;
    }

-- what is counted is no part of what holds
with_tally : (setup : Setup) (past : List Entry) (p : PastFields) (tally : TallyFields) → Holds setup past p → Holds setup past (record p { tally = tally })
with_tally setup past p tally holds =
    let sized = holds.sized in
    record {
      network = holds.network;
      steps = holds.steps;
      topology = holds.topology;
      sized = record { queues = sized.queues; fits = sized.fits; cubes = sized.cubes; hosts = sized.hosts; ends = sized.ends; piped = sized.piped };
      lawful = holds.lawful;
      inner = holds.inner;
      hosts = holds.hosts;
      forwarded = holds.forwarded;
      pipes = holds.pipes;
      ends = holds.ends;
    }

-- all parts are as the journal with the next entry says
pub keeps_then : (old new : PastFields) (tally : TallyFields) (was_good : Bool) (past : List Entry) (setup : Setup) (step : Step) → IsNextStep setup past old step → Counts setup past old.tally → TakesStep old new step
    → IsLongFlit new.last → was_good ≡ unlocks_good (view_of setup past) step → tally ≡ tallied (step_changes step) was_good (event_of new.last) new.tally → ((most : ℕ) → IsWithin most new.tally → IsWithin (most + 1) tally)
    → Keeps setup (next setup past step ∷ past) (record new { tally = tally })
keeps_then old new tally was_good past setup step is counts does long good tally_is within = record {
  holds = with_tally setup (next setup past step ∷ past) new tally (does.taken setup past is).holds;
  counts = counts_then old new tally was_good past setup step is counts does long good tally_is within;
}
