-- What the entry of a step adds to the counts.
use Rattle.std.proofs.Common.{◌≡◌, ◌∙◌, ℕ, List, length, refl, sym, ap, subst, Some}
use Rattle.std.specs.List.{All}
use Rattle.std.specs.Prelude.{slice_get}
use Rattle.hmc_packet.specs.Landings.{ReceiverEntry, mode, pending}
use Rattle.hmc_packet.specs.declared.outcome.Outcome.{Outcome}
use Rattle.hmc_schedule.specs.declared.step.Step.{Step}
use Rattle.hmc_schedule.specs.declared.step.Step.TheVariants as steps
use Rattle.hmc_send.specs.LinkEntries.{receiver_entries}
use Rattle.hmc_packet.specs.Masks.{changes}
use Rattle.hmc_journal.proofs.EntryRule.{EntryRule, HasLanded, next_rule}
use Rattle.hmc_journal.proofs.LinkKept.{line-flit}
use Rattle.hmc_journal.proofs.Projections.{received}
use Rattle.hmc_journal.specs.Counts.{is_good}
use Rattle.hmc_journal.specs.Directions.{profile_of}
use Rattle.hmc_journal.specs.Links.{toward, landing_mask, sizes_on, entries_on}
use Rattle.hmc_journal.specs.Next.{next}
use Rattle.hmc_journal.specs.Setup.{Setup}
use Rattle.hmc_journal.specs.StepView.{view_of}
use Rattle.hmc_entries.specs.declared.entry.Entry.{Entry}
use Rattle.hmc_entries.specs.declared.entry.Entry.TheVariants.{Landed, Unlocked}
use Rattle.hmc_wiring.specs.Ready.{IsStepFor, IsLandingIn}
use Rattle.hmc_tally.specs.Tally.{step_changes, unlocks_good}
use Rattle.hmc_tally.proofs.Accepting.{IsCounted, accepts_counted}
use Rattle.hmc_kept.proofs.Masks.{mask_found}
use Rattle.hmc_kept.proofs.NoUnlocks.{unlock_step}
use Rattle.hmc_tally.proofs.TallyLaw.{IsToldBy}
use Rattle.hmc_kept.proofs.LawsShown.{IsLawBound}
use Rattle.hmc_wiring.proofs.Cases.{step_at}

landed_tells : (past : List Entry) (setup : Setup) (step : Step) (d : ℕ) (flit : List ℕ) (outcome : Outcome) → IsLawBound setup past → slice_get setup.schedule (length past) ≡ Some step → IsStepFor setup.topology step → HasLanded setup past d flit outcome
    → IsToldBy setup.topology past (step_changes step) (unlocks_good (view_of setup past) step) (Landed d flit outcome)
landed_tells past setup step d flit outcome law step_is fits rule =
    let same : step ≡ steps.Land d rule.mask = (let both = sym step_is ∙ rule.step in cc) in
    let there : IsLandingIn setup.topology d (length rule.mask) = subst (IsStepFor setup.topology) same fits in
    let front = rule.landing.front in
    let entries = entries_on setup.topology d past in
    let kept = (law.queues.links d there.some_direction).kept in
    let size : length front.flit ≡ 16 = (line-flit (sizes_on setup.topology d) entries (toward d) front kept rule.landing.is_front).long in
    let found = mask_found (sizes_on setup.topology d) (toward d) entries front rule.mask rule.landing.is_front there.long size in
    let counted = accepts_counted (profile_of setup.topology d) (receiver_entries (toward d) entries) flit in (
      ap changes (ap (landing_mask (sizes_on setup.topology d) (toward d) entries) rule.landing.flit_is ∙ found) ∙ ap step_changes (sym same),
      subst (λ (rs : List ReceiverEntry). IsCounted (profile_of setup.topology d) (pending rs) flit outcome) (sym (received setup.topology d past))
          (subst (IsCounted (profile_of setup.topology d) (pending (receiver_entries (toward d) entries)) flit) (sym rule.landing.outcome_is) counted),
    )

unlocked_tells : (past : List Entry) (setup : Setup) (step : Step) (d : ℕ) → Unlocked d ≡ next setup past step
    → IsToldBy setup.topology past (step_changes step) (unlocks_good (view_of setup past) step) (Unlocked d)
unfolding next view_of
unlocked_tells past setup step d is =
    let same : step ≡ steps.Unlock d = unlock_step setup.topology (view_of setup past) step d (sym is) in
    ap (unlocks_good (view_of setup past)) same ∙ ap (λ (rs : List ReceiverEntry). is_good (mode rs)) (sym (received setup.topology d past))

tells : (past : List Entry) (setup : Setup) (step : Step) (entry : Entry) → IsLawBound setup past → slice_get setup.schedule (length past) ≡ Some step → IsStepFor setup.topology step → entry ≡ next setup past step → EntryRule setup past entry
    → IsToldBy setup.topology past (step_changes step) (unlocks_good (view_of setup past) step) entry
tells past setup step (Landed d flit outcome) law step_is fits next_is rule = landed_tells past setup step d flit outcome law step_is fits rule
tells past setup step (Unlocked d) law step_is fits next_is rule = unlocked_tells past setup step d next_is
tells past setup step _ law step_is fits next_is rule = tt

-- the next entry of a lawful journal tells what the counts have to know
pub told_by : (past : List Entry) (setup : Setup) (step : Step) → IsLawBound setup past → All (IsStepFor setup.topology) setup.schedule → slice_get setup.schedule (length past) ≡ Some step
    → IsToldBy setup.topology past (step_changes step) (unlocks_good (view_of setup past) step) (next setup past step)
told_by past setup step law steps_are step_is =
    tells past setup step (next setup past step) law step_is (step_at (IsStepFor setup.topology) setup.schedule (length past) step steps_are step_is) refl (next_rule setup past step step_is)
