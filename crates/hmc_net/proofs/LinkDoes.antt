-- The steps of links, where the network is read through its fields.
use Rattle.std.proofs.Common.{◌≡◌, ◌/◌, ℕ, true, false, Option, List, length, sym, ap, subst, ◌<◌}
use Rattle.std.specs.Prelude.{slice_get}
use Rattle.hmc_packet.specs.declared.feed.Feed.{Feed}
use Rattle.hmc_case.specs.declared.setup.LinkRow.{LinkRow}
use Rattle.hmc_send.specs.Choice as sends
use Rattle.hmc_send.specs.LinkCalls.{LinkCall, is_full, view_in}
use Rattle.hmc_send.specs.LinkEntries.{LinkEntry}
use Rattle.hmc_send.specs.LinkLines.{line}
use Rattle.hmc_link.specs.Held.{LinkHeld}
use Rattle.hmc_ends.specs.Answers.{link_sent, sends_none}
use Rattle.hmc_ends.specs.Outcomes.{front_outcome, outcome_passed, outcome_none}
use Rattle.hmc_ends.specs.declared.link_outcome.LinkOutcome.{LinkOutcome}
use Rattle.hmc_ends.specs.declared.link_sent.LinkSent.{LinkSent}
use Rattle.hmc_schedule.specs.declared.step.Step.{Step}
use Rattle.hmc_schedule.specs.declared.step.Step.TheVariants as steps
use Rattle.hmc_entries.specs.declared.entry.Entry.{Entry}
use Rattle.hmc_entries.specs.declared.entry.Entry.TheVariants.{Unlocked}
use Rattle.hmc_journal.specs.Links.{toward}
use Rattle.hmc_journal.specs.Piped.{fed}
use Rattle.hmc_journal.specs.Setup.{directions_in}
use Rattle.hmc_net.specs.Apply.{DoesStep}
use Rattle.hmc_kept.specs.Called.{sizes_by, called, taken_where}
use Rattle.hmc_links.specs.LinkList.{LinksStandFor, IsThroughAt}
use Rattle.hmc_kept.specs.LinkAnswers.{sent_by, landed_by, landing_goes_on, after_landing, IsCameFlit}
use Rattle.hmc_kept.specs.Pipes.{PipesHeld, AreCounted, pipe_at, after_loss}
use Rattle.hmc_net.specs.NetState.{NetState}
use Rattle.hmc_wiring.specs.Ready.{IsLandingIn}
use Rattle.hmc_net.specs.Sees.{IsReady}
use Rattle.hmc_net.proofs.Doing.{with_parts}
use Rattle.hmc_net.proofs.LinkSteps.{send_does, land_does, unlock_does}
use Rattle.hmc_kept.proofs.Sending.{feed_seen}
use Rattle.hmc_kept.proofs.PipeLemmas.{landing_counted, loss_counted}
use Rattle.hmc_kept.proofs.Landing.{holds_landed}

does_for : (own old now : NetState) (step : Step) → own ≡ old → IsReady old → (IsReady own → DoesStep own now step) → DoesStep old now step
does_for own old now step same ready does = subst (λ (n : NetState). DoesStep n now step) same (does (subst IsReady (sym same) ready))

pub send_for : (own old : NetState) (now : List LinkHeld) (last : Entry) (direction : ℕ) (place : Option ℕ) (feed : Feed) (sent : LinkSent) → own ≡ old → IsReady old → direction < directions_in old.topology → last ≡ sent_by direction sent
    → IsThroughAt own.links direction place → feed ≡ fed place (pipe_at own.piped direction)
    → ((rows : List LinkRow) (entries : ℕ → List LinkEntry) → LinksStandFor rows own.links entries → sent
    ≡ link_sent (is_full (sizes_by rows direction) (toward direction) (entries (direction / 2))) (sends.choice (sizes_by rows direction).profile (view_in (sizes_by rows direction) (toward direction) (entries (direction / 2)) feed)))
    → ((rows : List LinkRow) (entries : ℕ → List LinkEntry) → LinksStandFor rows own.links entries → LinksStandFor rows now (called rows direction (λ d. LinkCall.send d feed) entries))
    → (sends_none sent ≡ true → now ≡ own.links) → DoesStep old (record own { links = now; last = last }) (steps.Send direction)
send_for own old now last direction place feed sent same ready there last_is at fed_is answer stand none =
    does_for own old (record own { links = now; last = last }) (steps.Send direction) same ready
    (λ is. send_does own (record own { links = now; last = last }) direction feed sent now is
    (λ view sees. feed_seen own.topology view own.piped direction place feed (sees.shows.pipes direction (subst (λ (n : NetState). direction < directions_in n.topology) (sym same) there)) (at own.topology.links view.entries sees.shows.links) fed_is) answer stand none (ap (λ (e : Entry). with_parts own own.cubes own.hosts now e) last_is))

pub land_for : (own old : NetState) (between now : List LinkHeld) (piped : PipesHeld) (last : Entry) (direction : ℕ) (mask : List ℕ) (landed : LinkOutcome) → own ≡ old → IsReady old → IsLandingIn old.topology direction (length mask) → last ≡ landed_by direction landed → IsCameFlit landed
    → ((rows : List LinkRow) (entries : ℕ → List LinkEntry) → LinksStandFor rows own.links entries → landed
    ≡ front_outcome (sizes_by rows direction) (toward direction) (entries (direction / 2)) mask (slice_get (line (sizes_by rows direction).profile (toward direction) (entries (direction / 2))) 0))
    → ((rows : List LinkRow) (entries : ℕ → List LinkEntry) → LinksStandFor rows own.links entries → outcome_passed landed ≡ false → LinksStandFor rows between (called rows direction (λ d. LinkCall.land d mask) entries))
    → (outcome_none landed ≡ true → between ≡ own.links)
    → ((rows : List LinkRow) (entries : ℕ → List LinkEntry) → LinksStandFor rows between entries → LinksStandFor rows now (taken_where (landing_goes_on own.piped direction landed) rows direction entries))
    → (landing_goes_on own.piped direction landed ≡ false → now ≡ between)
    → piped ≡ after_landing direction landed own.piped
    → DoesStep old (record own { links = now; piped = piped; last = last }) (steps.Land direction mask)
land_for own old between now piped last direction mask landed same ready there last_is size answer stand none take stay piped_is =
    does_for own old (record own { links = now; piped = piped; last = last }) (steps.Land direction mask) same ready
    (λ is.
    (let here = subst (λ (n : NetState). IsLandingIn n.topology direction (length mask)) (sym same) there in
    land_does own (record own { links = now; piped = piped; last = last }) direction mask landed between now piped is here answer stand none take stay piped_is
    (subst (AreCounted (directions_in own.topology)) (sym piped_is) (landing_counted own.piped direction (directions_in own.topology) landed is.sized.piped))
    (λ view sees. holds_landed own.topology view own.piped direction mask landed sees.laws here.some_direction (sees.shows.forwarded direction here.some_direction) (answer own.topology.links view.entries sees.shows.links) size)
    (ap (λ (e : Entry). record own { links = now; piped = piped; last = e }) last_is)))

pub unlock_for : (own old : NetState) (now : List LinkHeld) (piped : PipesHeld) (last : Entry) (direction : ℕ) → own ≡ old → IsReady old → last ≡ Unlocked direction
    → ((rows : List LinkRow) (entries : ℕ → List LinkEntry) → LinksStandFor rows own.links entries → LinksStandFor rows now (called rows direction LinkCall.unlock entries))
    → piped ≡ after_loss direction own.piped
    → DoesStep old (record own { links = now; piped = piped; last = last }) (steps.Unlock direction)
unlock_for own old now piped last direction same ready last_is stand piped_is =
    does_for own old (record own { links = now; piped = piped; last = last }) (steps.Unlock direction) same ready
    (λ is. unlock_does own (record own { links = now; piped = piped; last = last }) direction now piped is stand piped_is
    (subst (AreCounted (directions_in own.topology)) (sym piped_is) (loss_counted own.piped direction (directions_in own.topology) is.sized.piped))
    (ap (λ (e : Entry). record own { links = now; piped = piped; last = e }) last_is))
