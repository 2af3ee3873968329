-- What a case leaves under way says how many rounds drain it.
use Rattle.std.proofs.Common.{◌≡◌, ◌∙◌, ◌≤◌, ◌<◌, ◌+◌, ◌*◌, inl, inr, ℕ, zero, suc, false, Option, Some, None, List, [], ◌∷◌, ◌++◌, length, drop, take, slice_get, length-append, refl, sym, ap, subst, arith}
use Rattle.std.proofs.lemmas.List.{take-append-drop, length-drop}
use Rattle.hmc_schedule.specs.declared.step.Step.{Step}
use Rattle.hmc_schedule.specs.Round.{rounds_of}
use Rattle.hmc_schedule.proofs.WorkLemmas.{rounds_masks}
use Rattle.hmc_entries.specs.declared.entry.Entry.{Entry}
use Rattle.hmc_journal.specs.Hosts.{host_of, given_count}
use Rattle.hmc_journal.specs.Lawful.{Follows, has_passed, Lawful, journal_of}
use Rattle.hmc_journal.specs.Network.{IsNetwork}
use Rattle.hmc_journal.specs.Next.{next}
use Rattle.hmc_journal.specs.Setup.{Setup}
use Rattle.hmc_journal.specs.StepView.{view_of, state_of}
use Rattle.hmc_journal.proofs.EntryRule.{lawful_past}
use Rattle.hmc_journal.proofs.OneJournal.{journal_of-whole}
use Rattle.hmc_journal.proofs.Whole.{journal_is_whole}
use Rattle.hmc_rounds.specs.Rounds.{plan_of}
use Rattle.hmc_rounds.specs.Single.{IsSingle}
use Rattle.hmc_journal.specs.UnderWay.{under_way}
use Rattle.hmc_bound.specs.Appended.{with_rounds, BoundDrains}
use Rattle.hmc_bound.specs.Ends.{before_rounds, EndsWithRounds, AreEnough}
use Rattle.hmc_bound.proofs.Ends.{ends_drained, whole_length}

-- a step gives what it gives without the schedule
next_same : (setup : Setup) (more : List Step) (past : List Entry) (step : Step) →
    next (record setup { schedule = more }) past step ≡ next setup past step
unfolding next view_of host_of state_of
next_same setup more past step = refl

get_front : (s more : List Step) (k : ℕ) → k < length s → slice_get (s ++ more) k ≡ slice_get s k
get_front [] more k less = absurd (omega (arith, less))
get_front (x ∷ s) more zero less = refl
get_front (x ∷ s) more (suc k) less = get_front s more k (omega (arith, less))

follows_same : (setup : Setup) (more : List Step) (past : List Entry) (step : Option Step)
    (entry : Entry) → Follows (record setup { schedule = more }) past step entry →
    Follows setup past step entry
follows_same setup more past None entry f = f
follows_same setup more past (Some step) entry f = f ∙ next_same setup more past step

-- a journal within the first steps is one of these alone
lawful_front : (setup : Setup) (more : List Step) (past : List Entry) →
    length past ≤ length setup.schedule →
    Lawful (record setup { schedule = setup.schedule ++ more }) past → Lawful setup past
unfolding Lawful
lawful_front setup more [] few lawful = tt
lawful_front setup more (entry ∷ past) few lawful = (
  lawful.0,
  follows_same setup (setup.schedule ++ more) past (slice_get setup.schedule (length past)) entry
      (subst (λ o. Follows (record setup { schedule = setup.schedule ++ more }) past o entry)
      (get_front setup.schedule more (length past) (omega (arith, few))) lawful.1),
  lawful_front setup more past (omega (arith, few)) lawful.2,
)

lawful_later : (setup : Setup) (xs past : List Entry) → Lawful setup (xs ++ past) →
    Lawful setup past
lawful_later setup [] past lawful = lawful
lawful_later setup (x ∷ xs) past lawful =
    lawful_later setup xs past (lawful_past setup x (xs ++ past) lawful)

-- the journal before the rounds is that of the case without them
before_is : (setup : Setup) (n : ℕ) → has_passed (journal_of (with_rounds setup n)) ≡ false →
    before_rounds (with_rounds setup n) n ≡ journal_of setup
before_is setup n off =
    let all = with_rounds setup n in
    let R = rounds_of (plan_of setup.topology) n in
    let m = length R in
    let J = journal_of all in
    let long : length J ≡ length setup.schedule + m =
    whole_length all off ∙ length-append setup.schedule R in
    let dropped = length-drop m J in
    let count : length (drop m J) ≡ length setup.schedule = omega (arith, long, dropped) in
    let lawful : Lawful all (drop m J) =
    lawful_later all (take m J) (drop m J)
    (subst (Lawful all) (sym (take-append-drop m J)) (journal_is_whole all).lawful) in
    journal_of-whole setup (drop m J)
    (record {
      lawful = lawful_front setup R (drop m J) (omega (arith, count)) lawful;
      whole = inl count;
    })

-- with the rounds it is still a network
still_network : (setup : Setup) (n : ℕ) → IsNetwork setup → IsNetwork (with_rounds setup n)
still_network setup n is = record {
  some_hosts = is.some_hosts;
  few_hosts = is.few_hosts;
  few_links = is.few_links;
  graph = is.graph;
  one_part = is.one_part;
  hosts = is.hosts;
  cubes = is.cubes;
  sizes = is.sizes;
  items = is.items;
  masks = rounds_masks (plan_of setup.topology) None n setup.schedule tt is.masks;
}

pub bound_drains : (setup : Setup) → IsNetwork setup → IsSingle setup.topology → BoundDrains setup
bound_drains setup network single n enough off idle =
    let all = with_rounds setup n in
    let is = before_is setup n off in
    let ends : EndsWithRounds all n =
    record {
      before = setup.schedule;
      is = refl;
      idle = λ host. idle host ∙ ap (λ (j : List Entry). given_count host j) (sym is);
      unpassed = off;
    } in
    let many : AreEnough all (before_rounds all n) n =
    inr (subst (λ (j : List Entry). 4000 + 2000 * (under_way setup.topology j + 1) ≤ n)
    (sym is) enough) in
    ends_drained all (still_network setup n network) single n ends many
