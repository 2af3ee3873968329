-- The drain bound on journals, from the journal itself.
use Rattle.std.proofs.Common.{◌≡◌, ◌<◌, ◌+◌, ◌∙◌, ◌⊎◌, ◌==◌, ◌&&◌, inl, inr, ℕ, suc, Bool, true, Option, Some, None, List, [], ◌∷◌, ◌++◌, length, take, drop, slice_get, refl, sym, ap, ap₂, subst, arith, eq-eqb, length-append}
use Rattle.std.specs.List.{list_all}
use Rattle.hmc_codes.specs.Link.{LinkFields}
use Rattle.hmc_codes.specs.Numbers.{upto}
use Rattle.hmc_case.specs.declared.setup.LinkRow.{LinkRow}
use Rattle.hmc_schedule.specs.declared.step.Step.{Step}
use Rattle.hmc_send.specs.declared.toward.Toward.{Toward}
use Rattle.hmc_send.specs.declared.toward.Toward.TheVariants.{Forth, Back}
use Rattle.hmc_send.specs.LinkEntries.{LinkEntry, other}
use Rattle.hmc_send.specs.LinkSenders.{tokens}
use Rattle.hmc_numbers.specs.Tokens.{transit_tokens}
use Rattle.hmc_link_state.specs.Facts.{Facts}
use Rattle.hmc_link_state.specs.State as drain
use Rattle.hmc_link_state.specs.State.{Side}
use Rattle.hmc_link_state.specs.Steps.{Doing, IsSettledLink}
use Rattle.hmc_drain.specs.Drains.{AnyLink}
use Rattle.hmc_drain.proofs.AfterSteps.{drains_settled, drains_any}
use Rattle.hmc_link_state.proofs.Empty.{empty}
use Rattle.hmc_link_state.proofs.StepFacts.{facts_after}
use Rattle.hmc_entries.specs.declared.entry.Entry.{Entry}
use Rattle.hmc_journal.specs.Counts.{token_counts}
use Rattle.hmc_journal.specs.Drained.{is_drained, queues_of}
use Rattle.hmc_journal.specs.Hosts.{given_count}
use Rattle.hmc_journal.specs.Lawful.{Lawful, Follows}
use Rattle.hmc_journal.specs.Links.{toward, link_sizes, link_entries, sizes_on, entries_on}
use Rattle.hmc_journal.specs.Network.{IsNetwork}
use Rattle.hmc_journal.specs.Next.{next}
use Rattle.hmc_journal.specs.Queues.{QueueId, contents}
use Rattle.hmc_journal.specs.Setup.{Setup}
use Rattle.hmc_rounds.specs.Bound.{DrainsOver}
use Rattle.hmc_rounds.specs.Counted.{counted}
use Rattle.hmc_rounds.specs.LinkPart.{LinkPart, link_of, sizes_by, side_on, way_of, requests_of}
use Rattle.hmc_rounds.specs.Single.{IsSingle}
use Rattle.hmc_rounds.specs.Rounds.{journal_after, RoundsFollow}
use Rattle.hmc_journal.specs.Settled.{IsSettledDirection, IsSettled, AreSettled}
use Rattle.hmc_journal.specs.UnderWay.{count_in, under_way}
use Rattle.hmc_rounds.proofs.Assembly.{turns, many_steps, rounds_are, rounds_post, RoundsFit, fit, falls}
use Rattle.hmc_rounds.proofs.EntryMoves.{Scene, kept_entries, side_forth, side_back}
use Rattle.hmc_rounds.proofs.Journals.{IsFine, fine_earlier, journal_after-append, get_drop, take_snoc, take_front}
use Rattle.hmc_rounds.proofs.Single.{Joined, joined}
use Rattle.hmc_rounds.proofs.Totals.{sum, flat_sum}
use Rattle.hmc_rounds.proofs.UnderWays.{under_ways}

-- ---- a journal is that of its steps

last_step : (setup : Setup) (past : List Entry) (xs : List Step) (step : Step) →
    journal_after setup past (xs ++ step ∷ []) ≡ next setup (journal_after setup past xs) step
    ∷ journal_after setup past xs
unfolding journal_after
last_step setup past xs step = journal_after-append setup past xs (step ∷ [])

by_step : (setup : Setup) (entry : Entry) (later past : List Entry) (xs : List Step)
    (found : Option Step) → later ++ past ≡ journal_after setup past (take (length later) xs) →
    slice_get xs (length later) ≡ found → Follows setup (later ++ past) found entry
    → entry ∷ later ++ past ≡ journal_after setup past (take (suc (length later)) xs)
by_step setup entry later past xs None is at follows = absurd follows
by_step setup entry later past xs (Some step) is at follows =
    let now = journal_after setup past (take (length later) xs) in
    ap₂ (λ e p. e ∷ p) (follows ∙ ap (λ (p : List Entry). next setup p step) is) is
    ∙ sym (last_step setup past (take (length later) xs) step)
    ∙ sym (ap (journal_after setup past) (take_snoc xs (length later) step at))

later_is : (setup : Setup) (later past : List Entry) → Lawful setup (later ++ past) →
    later ++ past ≡ journal_after setup past
    (take (length later) (drop (length past) setup.schedule))
unfolding Lawful journal_after
later_is setup [] past lawful = refl
later_is setup (entry ∷ later) past lawful =
    let xs = drop (length past) setup.schedule in
    let at : slice_get xs (length later) ≡ slice_get setup.schedule (length (later ++ past)) =
    get_drop (length past) (length later) (length (later ++ past)) setup.schedule
    (let l = length-append later past in omega (arith, l)) in
    by_step setup entry later past xs (slice_get setup.schedule (length (later ++ past)))
    (later_is setup later past lawful.2) at lawful.1

fits : (setup : Setup) (j : Joined setup.topology) (past later : List Entry) (n : ℕ)
    (f : RoundsFollow setup past later n) → RoundsFit setup past n f.rest
    × (later ++ past ≡ turns setup past n)
fits setup j past later n f =
    let t = setup.topology in
    let steps_is = rounds_are t j n in
    let scheduled : drop (length past) setup.schedule ≡ many_steps t n ++ f.rest =
    f.scheduled ∙ ap (λ (xs : List Step). xs ++ f.rest) steps_is in
    let long : length later ≡ length (many_steps t n) = f.long ∙ ap length steps_is in
    let taken : take (length later) (drop (length past) setup.schedule) ≡ many_steps t n =
    ap (take (length later)) scheduled
    ∙ take_front (many_steps t n) f.rest (length later) long in
    let is : later ++ past ≡ journal_after setup past (many_steps t n) =
    later_is setup later past f.lawful ∙ ap (journal_after setup past) taken in
    let whole : IsFine setup (later ++ past) =
    record { lawful = f.lawful; unpassed = f.unpassed } in
    let fine : IsFine setup (journal_after setup past (many_steps t n)) =
    subst (IsFine setup) is whole in
    let begin : IsFine setup past = fine_earlier setup past (many_steps t n) fine in (
      record {
        ready = record {
          lawful = begin.lawful;
          unpassed = begin.unpassed;
          scheduled =
              scheduled;
        };
        fine = fine;
        given = sym (ap (λ p. given_count 0 p) is) ∙ f.idle 0;
      },
      is ∙ rounds_post setup past n,
    )

-- ---- nothing under way is drained

none_held : (f : QueueId → ℕ) (rooms : List QueueId) → sum f rooms ≡ 0 →
    list_all (λ queue. f queue == 0) rooms ≡ true
none_held f [] none = refl
none_held f (q ∷ rooms) none =
    let both = parts (f q) (sum f rooms) none in
    ap₂ (λ (x y : Bool). x && y) (eq-eqb (f q) 0 both.0) (none_held f rooms both.1)
  where
    parts : (a b : ℕ) → a + b ≡ 0 → (a ≡ 0) × (b ≡ 0)
    parts a b e = (omega arith, omega arith)

drained : (setup : Setup) (doings : List LinkEntry → List Doing) (sc : Scene setup doings)
    (past : List Entry) → Lawful setup past → under_way setup.topology past ≡ 0 →
    is_drained setup.topology past ≡ true
unfolding under_way is_drained token_counts
drained setup doings sc past lawful none =
    let t = setup.topology in
    let j = sc.joined in
    let c = sizes_by (sizes_on t 0) in
    let keeps = kept_entries setup past sc.network sc.joined lawful in
    let es = entries_on t 0 past in
    let facts_are =
    facts_after (sizes_on t 0).profile c (fit setup j sc.network).retry.1 (doings es)
    (sc.part.may es keeps) in
    let facts : Facts c (counted t doings past true) =
    record { forth = facts_are.0; back = facts_are.1 } in
    let is_empty =
    empty c (counted t doings past true) facts (under_ways setup doings sc past lawful true
    ∙ none) in
    let forth : (tokens (sizes_on t 0) j.requests es).transit ≡ 0 =
    sym (sc.part.transit j.requests es keeps)
    ∙ ap (λ (x : Side). transit_tokens x.half) (side_forth j.requests (link_of t doings past))
    ∙ is_empty.forth in
    let back : (tokens (sizes_on t 0) (other j.requests) es).transit ≡ 0 =
    sym (sc.part.transit (other j.requests) es keeps)
    ∙ ap (λ (x : Side). transit_tokens x.half) (side_back j.requests (link_of t doings past))
    ∙ is_empty.back in
    let on_forth : transit_of j.forth ≡ 0 =
    ap₂ (λ n w. (tokens (link_sizes t n) w (link_entries t n past)).transit) j.link_forth
    j.way_forth ∙ forth in
    let on_back : transit_of j.back ≡ 0 =
    ap₂ (λ n w. (tokens (link_sizes t n) w (link_entries t n past)).transit) j.link_back
    j.way_back ∙ back in
    let parts = two_parts (count_in t past (queues_of t)) _ none in
    let rooms =
    none_held (λ (q : QueueId). length (contents t past q)) (queues_of t)
    (sym (flat_sum (contents t past) (queues_of t)) ∙ parts.0) in
    ap₂ (λ (x y : Bool). x && y) rooms
    (ap (λ (n : ℕ). list_all (λ direction. transit_of direction == 0) (upto n)) j.two
    ∙ both_of j.order on_forth on_back)
  where
    transit_of : ℕ → ℕ
    transit_of d =
        (tokens (sizes_on setup.topology d) (toward d) (entries_on setup.topology d past)).transit

    two_parts : (a b : ℕ) → a + b ≡ 0 → (a ≡ 0) × (b ≡ 0)
    two_parts a b e = (omega arith, omega arith)

    both_by : (a b : ℕ) → a ≡ 0 → b ≡ 0 → ((a == 0) && ((b == 0) && true)) ≡ true
    both_by a b x y = ap₂ (λ (p q : Bool). p && (q && true)) (eq-eqb a 0 x) (eq-eqb b 0 y)

    both_of : ((sc.joined.forth ≡ 0) × (sc.joined.back ≡ 1))
        ⊎ ((sc.joined.forth ≡ 1) × (sc.joined.back ≡ 0)) → transit_of sc.joined.forth ≡ 0 →
        transit_of sc.joined.back ≡ 0 →
        list_all (λ direction. transit_of direction == 0) (upto 2) ≡ true
    both_of (inl o) x y =
        both_by (transit_of 0) (transit_of 1) (sym (ap transit_of o.0) ∙ x) (sym (ap transit_of o.1)
        ∙ y)
    both_of (inr o) x y =
        both_by (transit_of 0) (transit_of 1) (sym (ap transit_of o.1) ∙ y) (sym (ap transit_of o.0)
        ∙ x)

-- ---- settled

direction_settled : (link : LinkFields) (past : List LinkEntry) → IsSettled link past →
    (way : Toward) → IsSettledDirection link way past
direction_settled link past settled Forth = settled.0
direction_settled link past settled Back = settled.1

settled_way : (setup : Setup) (doings : List LinkEntry → List Doing) (sc : Scene setup doings)
    (past : List Entry) → Lawful setup past → (way : Toward) → AreSettled setup.topology past →
    drain.IsSettledSide (side_on sc.joined.requests way (link_of setup.topology doings past))
settled_way setup doings sc past lawful way settled =
    let t = setup.topology in
    let links = ap (λ (l : List LinkRow). length l) sc.joined.one_link in
    let one : 0 < length t.links = omega (arith, links) in
    sc.part.settled way (entries_on t 0 past)
    (kept_entries setup past sc.network sc.joined lawful)
    (direction_settled (link_sizes t 0) (link_entries t 0 past) (settled 0 one) way)

settled_link : (setup : Setup) (doings : List LinkEntry → List Doing) (sc : Scene setup doings)
    (past : List Entry) → Lawful setup past → AreSettled setup.topology past →
    IsSettledLink (link_of setup.topology doings past)
settled_link setup doings sc past lawful settled =
    let requests = sc.joined.requests in
    let l = link_of setup.topology doings past in (
      subst drain.IsSettledSide (side_forth requests l)
          (settled_way setup doings sc past lawful requests settled),
      subst drain.IsSettledSide (side_back requests l)
          (settled_way setup doings sc past lawful (other requests) settled),
    )

-- ---- both parts

scene : (setup : Setup) (doings : List LinkEntry → List Doing) → IsNetwork setup →
    IsSingle setup.topology →
    LinkPart (sizes_on setup.topology 0) (requests_of setup.topology) doings → Scene setup doings
scene setup doings network single part =
    let j = joined setup network single in
    let way : requests_of setup.topology ≡ j.requests = ap way_of j.from_host ∙ j.way_forth in
    record {
      network = network;
      joined = j;
      part = subst (λ w. LinkPart (sizes_on setup.topology 0) w doings) way part;
    }

end_drained : (setup : Setup) (doings : List LinkEntry → List Doing) (sc : Scene setup doings)
    (past later : List Entry) (n : ℕ) (f : RoundsFollow setup past later n) →
    under_way setup.topology (turns setup past n) ≡ 0 →
    is_drained setup.topology (later ++ past) ≡ true
end_drained setup doings sc past later n f none =
    let is = (fits setup sc.joined past later n f).1 in
    drained setup doings sc (later ++ past) f.lawful (ap (under_way setup.topology) is ∙ none)

pub drains_over : (setup : Setup) (doings : List LinkEntry → List Doing) → DrainsOver setup doings
drains_over setup doings network single part links =
    let sc = scene setup doings network single part in
    let p = (sizes_on setup.topology 0).profile in
    let c = sizes_by (sizes_on setup.topology 0) in (
      λ past later n settled f many.
          end_drained setup doings sc past later n f
          (falls setup doings sc links 0 IsSettledLink (drains_settled p c) past n f.rest
          (fits setup sc.joined past later n f).0
          (settled_link setup doings sc past (fits setup sc.joined past later n f).0.ready.lawful
          settled) many),
      λ past later n any f many. end_drained setup doings sc past later n f
          (falls setup doings sc links 4000 AnyLink (drains_any p c) past n f.rest
          (fits setup sc.joined past later n f).0 tt many),
    )
