-- What a step adds to the counts is what its entry adds to those of the journal.
use Rattle.std.proofs.Common.{◌≡◌, ◌∙◌, ◌+◌, ◌/◌, ◌==◌, ◌&&◌, ℕ, Bool, true, false, Some, List, [], ◌∷◌, length, map, refl, sym, ap, subst, arith, eqb-true, append-nil, length-append}
use Rattle.hmc_codes.specs.Numbers.{upto}
use Rattle.hmc_codes.specs.declared.counts.Counters.{Counters}
use Rattle.hmc_codes.specs.declared.counts.CubeCounts.{CubeCounts}
use Rattle.hmc_codes.specs.declared.profile.Profile.{Profile}
use Rattle.hmc_packet.specs.Landings as receivers
use Rattle.hmc_packet.specs.Landings.{ReceiverEntry, mode, pending}
use Rattle.hmc_packet.specs.Receptions.{is_arrival}
use Rattle.hmc_packet.specs.declared.outcome.Outcome.{Outcome}
use Rattle.hmc_packet.specs.declared.outcome.Outcome.TheVariants.{Repeat, AbortedBad, AbortedOrder}
use Rattle.hmc_send.specs.LinkEntries.{LinkEntry, same_way, put_if}
use Rattle.hmc_packet.specs.Masks.{changes}
use Rattle.hmc_send.specs.declared.toward.Toward.{Toward}
use Rattle.hmc_journal.specs.Choice.{choose, append_if}
use Rattle.hmc_journal.specs.Counts.{taken_count, executed_count, dropped_count, cube_counts, changed_landings, repeats, is_good, aborts, direction_counts}
use Rattle.hmc_journal.specs.Directions.{sent_flits, landed_flits, receiver_of, profile_of, accepted}
use Rattle.hmc_entries.specs.Event.{event_of, is_passed}
use Rattle.hmc_journal.specs.Hosts.{given_count, count_if}
use Rattle.hmc_journal.specs.Links.{toward, landing_mask, link_sizes, link_entries, entries_on}
use Rattle.hmc_journal.specs.Setup.{Topology, unit_cube, cubes_in, hosts_in, directions_in}
use Rattle.hmc_entries.specs.declared.entry.Entry.{Entry}
use Rattle.hmc_entries.specs.declared.entry.Entry.TheVariants.{Gave, Sent, Landed, Shifted, Dropped, Executed, Lifted, Took, Discarded, Through, Unlocked, Passed}
use Rattle.hmc_journal.proofs.Projections.{IsBlind, feed_in, goes_at, came_at, put_on-same, taken_if-same, forwarded_on-same, shifted-same, same_direction, IsNoLanding}
use Rattle.hmc_tally.specs.Tally.{no_counters, no_host_steps, no_cube_counts, is_repeat, is_abort, one_more_sent, one_landed, one_unlocked, one_given, one_taken, one_executed, one_dropped, directions_after, host_steps_after, cube_counts_after, tallied, host_steps, opening_tally, tally_of}
use Rattle.hmc_tally.specs.declared.tally.HostSteps.{HostSteps}
use Rattle.hmc_tally.proofs.Accepting.{IsCounted}
use Rattle.hmc_tally.proofs.Rows.{rows_same, rows_changed, rows_opened}

-- what the counts of a direction have to know of the step of an entry
abbrev pub IsToldBy : Topology → List Entry → (changed was_good : Bool) → Entry → Type 0
IsToldBy topology past changed was_good (Landed d flit outcome) =
    (changes (landing_mask (link_sizes topology (d / 2)) (toward d) (entries_on topology d past) flit) ≡ changed) × IsCounted (profile_of topology d) (pending (receiver_of d past)) flit outcome
IsToldBy topology past changed was_good (Unlocked d) = was_good ≡ is_good (mode (receiver_of d past))
IsToldBy topology past changed was_good _ = Unit {0}

-- ---- the counts of one direction

one_more : {X : Type 0} (test : Bool) (x : X) (list : List X) → length (append_if test (x ∷ []) list) ≡ count_if test (length list)
one_more true x list = omega (arith, length-append list (x ∷ []))
one_more false x list = refl

blind_changed : (d : Toward) → IsBlind (changed_landings d)
unfolding changed_landings
blind_changed d = record { handed = λ e packet past. refl; taken = λ e past. refl }

changed_put : (here : Bool) (d way : Toward) (mask flit : List ℕ) (outcome : Outcome) (past : List LinkEntry) → changed_landings d (put_if here (LinkEntry.landed way mask flit outcome) past) ≡ count_if ((here && same_way d way) && changes mask) (changed_landings d past)
unfolding changed_landings
changed_put true d way mask flit outcome past = refl
changed_put false d way mask flit outcome past = refl

changed_same : (topology : Topology) (k : ℕ) (entry : Entry) (past : List Entry) → IsNoLanding entry → changed_landings (toward k) (entries_on topology k (entry ∷ past)) ≡ changed_landings (toward k) (entries_on topology k past)
unfolding link_entries changed_landings
changed_same topology k (Gave host tag poisoned request) past none = put_on-same (changed_landings (toward k)) (k / 2) _ (λ way. LinkEntry.handed way _) (entries_on topology k past) (λ e. refl)
changed_same topology k (Sent direction what flit) past none = put_on-same (changed_landings (toward k)) (k / 2) (Some direction) (λ way. LinkEntry.sent way (feed_in topology (k / 2) direction past way) what flit) (entries_on topology k past) (λ e. refl)
changed_same topology k (Landed direction flit outcome) past none = absurd none
changed_same topology k (Unlocked direction) past none = put_on-same (changed_landings (toward k)) (k / 2) (Some direction) LinkEntry.unlocked (entries_on topology k past) (λ e. refl)
changed_same topology k (Shifted cube port goal) past none = shifted-same (changed_landings (toward k)) (blind_changed (toward k)) topology (k / 2) cube port goal _ (entries_on topology k past)
changed_same topology k (Dropped cube port) past none = put_on-same (changed_landings (toward k)) (k / 2) _ LinkEntry.taken (entries_on topology k past) (λ e. refl)
changed_same topology k (Lifted cube from port) past none = put_on-same (changed_landings (toward k)) (k / 2) _ (λ way. LinkEntry.handed way _) (entries_on topology k past) (λ e. refl)
changed_same topology k (Took host tag answer) past none = put_on-same (changed_landings (toward k)) (k / 2) _ LinkEntry.taken (entries_on topology k past) (λ e. refl)
changed_same topology k (Discarded host) past none = put_on-same (changed_landings (toward k)) (k / 2) _ LinkEntry.taken (entries_on topology k past) (λ e. refl)
changed_same topology k (Through cube port direction) past none = forwarded_on-same (changed_landings (toward k)) (k / 2) direction (came_at topology cube port past) (entries_on topology k past) (λ e head flits. refl)
changed_same topology k _ past none = refl

-- where a landing is one of this direction, the mask that is read off it is that of the step
masked : (topology : Topology) (past : List Entry) (d k : ℕ) (flit : List ℕ) (changed here : Bool) (n : ℕ) → (d == k) ≡ here
    → changes (landing_mask (link_sizes topology (d / 2)) (toward d) (entries_on topology d past) flit) ≡ changed
    → count_if (here && changes (landing_mask (link_sizes topology (k / 2)) (toward d) (entries_on topology k past) flit)) n ≡ count_if (here && changed) n
masked topology past d k flit changed false n is told = refl
masked topology past d k flit changed true n is told =
    ap (λ (b : Bool). count_if b n) (ap (λ (j : ℕ). changes (landing_mask (link_sizes topology (j / 2)) (toward d) (entries_on topology j past) flit)) (sym (eqb-true d k is)) ∙ told)

changed_landed : (topology : Topology) (past : List Entry) (d k : ℕ) (flit : List ℕ) (outcome : Outcome) (changed : Bool)
    → changes (landing_mask (link_sizes topology (d / 2)) (toward d) (entries_on topology d past) flit) ≡ changed
    → changed_landings (toward k) (entries_on topology k (Landed d flit outcome ∷ past)) ≡ count_if ((d == k) && changed) (changed_landings (toward k) (entries_on topology k past))
unfolding link_entries changed_landings
changed_landed topology past d k flit outcome changed told =
    let mask = landing_mask (link_sizes topology (k / 2)) (toward d) (entries_on topology k past) flit in
    let n = changed_landings (toward k) (entries_on topology k past) in
    taken_if-same (changed_landings (toward k)) (goes_at topology d outcome past) (k / 2) d (put_if (d / 2 == k / 2) (LinkEntry.landed (toward d) mask flit outcome) (entries_on topology k past)) (λ e. refl)
    ∙ changed_put (d / 2 == k / 2) (toward k) (toward d) mask flit outcome (entries_on topology k past)
    ∙ ap (λ (b : Bool). count_if (b && changes mask) n) (sym (same_direction k d))
    ∙ masked topology past d k flit changed (d == k) n refl told

more_by : (a : Bool) (n : ℕ) → n + choose a 1 0 ≡ count_if a n
more_by true n = refl
more_by false n = omega arith

accepted_put : (here : Bool) (q : Profile) (rs : List ReceiverEntry) (flit : List ℕ) (outcome : Outcome) → (here ≡ true → IsCounted q (pending rs) flit outcome)
    → length (receivers.accepted q (put_if here (ReceiverEntry.Land flit outcome) rs)) ≡ count_if (here && is_arrival outcome) (length (receivers.accepted q rs))
unfolding receivers.accepted
accepted_put true q rs flit outcome told =
    length-append (receivers.accepted q rs) (receivers.accepted_by q (pending rs) (ReceiverEntry.Land flit outcome))
    ∙ ap (λ (n : ℕ). length (receivers.accepted q rs) + n) (told refl) ∙ more_by (is_arrival outcome) (length (receivers.accepted q rs))
accepted_put false q rs flit outcome told = refl

accepted_unlocked : (here : Bool) (q : Profile) (rs : List ReceiverEntry) → length (receivers.accepted q (put_if here ReceiverEntry.Unlock rs)) ≡ length (receivers.accepted q rs)
unfolding receivers.accepted
accepted_unlocked true q rs = ap length (append-nil (receivers.accepted q rs))
accepted_unlocked false q rs = refl

repeats_put : (here : Bool) (flit : List ℕ) (outcome : Outcome) (rs : List ReceiverEntry) → repeats (put_if here (ReceiverEntry.Land flit outcome) rs) ≡ count_if (here && is_repeat outcome) (repeats rs)
unfolding repeats
repeats_put false flit outcome rs = refl
repeats_put true flit Repeat rs = omega arith
repeats_put true flit _ rs = refl

repeats_unlocked : (here : Bool) (rs : List ReceiverEntry) → repeats (put_if here ReceiverEntry.Unlock rs) ≡ repeats rs
unfolding repeats
repeats_unlocked true rs = refl
repeats_unlocked false rs = refl

aborts_put : (here : Bool) (flit : List ℕ) (outcome : Outcome) (rs : List ReceiverEntry) → aborts (put_if here (ReceiverEntry.Land flit outcome) rs) ≡ count_if (here && is_abort outcome) (aborts rs)
unfolding aborts
aborts_put false flit outcome rs = refl
aborts_put true flit (AbortedBad bad) rs = omega arith
aborts_put true flit AbortedOrder rs = omega arith
aborts_put true flit _ rs = refl

aborts_unlocked : (here was_good : Bool) (rs : List ReceiverEntry) → (here ≡ true → was_good ≡ is_good (mode rs)) → aborts (put_if here ReceiverEntry.Unlock rs) ≡ count_if (here && was_good) (aborts rs)
unfolding aborts
aborts_unlocked true was_good rs told = ap (λ (b : Bool). count_if b (aborts rs)) (sym (told refl))
aborts_unlocked false was_good rs told = refl

-- six counts at once
counts_are : (s s' l l' c c' a a' r r' b b' : ℕ) → s ≡ s' → l ≡ l' → c ≡ c' → a ≡ a' → r ≡ r' → b ≡ b'
    → ◌≡◌ {A = Counters} (record { sent = s; landed = l; changed = c; accepted = a; repeats = r; aborts = b }) (record { sent = s'; landed = l'; changed = c'; accepted = a'; repeats = r'; aborts = b' })
counts_are s s' l l' c c' a a' r r' b b' hs hl hc ha hr hb = λ i. record { sent = hs i; landed = hl i; changed = hc i; accepted = ha i; repeats = hr i; aborts = hb i }

sent_by : (here : Bool) (row : Counters) → ◌≡◌ {A = Counters} (record row { sent = count_if here row.sent }) (choose here (one_more_sent row) row)
sent_by true row = refl
sent_by false row = refl

landed_by : (here changed : Bool) (outcome : Outcome) (row : Counters)
    → ◌≡◌ {A = Counters} (record row { landed = count_if here row.landed; changed = count_if (here && changed) row.changed; accepted = count_if (here && is_arrival outcome) row.accepted; repeats = count_if (here && is_repeat outcome) row.repeats; aborts = count_if (here && is_abort outcome) row.aborts })
    (choose here (one_landed changed outcome row) row)
landed_by true changed outcome row = refl
landed_by false changed outcome row = refl

unlocked_by : (here was_good : Bool) (row : Counters) → ◌≡◌ {A = Counters} (record row { aborts = count_if (here && was_good) row.aborts }) (choose here (one_unlocked was_good row) row)
unlocked_by true was_good row = refl
unlocked_by false was_good row = refl

sent_row : (topology : Topology) (past : List Entry) (d k : ℕ) (entry : Entry) (flit : List ℕ) → sent_flits k (entry ∷ past) ≡ append_if (d == k) (flit ∷ []) (sent_flits k past) → landed_flits k (entry ∷ past) ≡ landed_flits k past → receiver_of k (entry ∷ past) ≡ receiver_of k past → IsNoLanding entry
    → direction_counts topology (entry ∷ past) k ≡ choose (d == k) (one_more_sent (direction_counts topology past k)) (direction_counts topology past k)
unfolding direction_counts accepted
sent_row topology past d k entry flit sends lands receives none =
    counts_are _ _ _ _ _ _ _ _ _ _ _ _
    (ap length sends ∙ one_more (d == k) flit (sent_flits k past)) (ap length lands) (changed_same topology k entry past none)
    (ap (λ (rs : List ReceiverEntry). length (receivers.accepted (profile_of topology k) rs)) receives) (ap repeats receives) (ap aborts receives)
    ∙ sent_by (d == k) (direction_counts topology past k)

landed_row : (topology : Topology) (past : List Entry) (d k : ℕ) (flit : List ℕ) (outcome : Outcome) (changed was_good : Bool) → IsToldBy topology past changed was_good (Landed d flit outcome)
    → direction_counts topology (Landed d flit outcome ∷ past) k ≡ choose (d == k) (one_landed changed outcome (direction_counts topology past k)) (direction_counts topology past k)
unfolding direction_counts accepted receiver_of sent_flits landed_flits
landed_row topology past d k flit outcome changed was_good told =
    counts_are _ _ _ _ _ _ _ _ _ _ _ _
    refl (one_more (d == k) flit (landed_flits k past)) (changed_landed topology past d k flit outcome changed told.0)
    (accepted_put (d == k) (profile_of topology k) (receiver_of k past) flit outcome (λ is. subst (λ (j : ℕ). IsCounted (profile_of topology j) (pending (receiver_of j past)) flit outcome) (eqb-true d k is) told.1))
    (repeats_put (d == k) flit outcome (receiver_of k past)) (aborts_put (d == k) flit outcome (receiver_of k past))
    ∙ landed_by (d == k) changed outcome (direction_counts topology past k)

unlocked_row : (topology : Topology) (past : List Entry) (d k : ℕ) (changed was_good : Bool) → IsToldBy topology past changed was_good (Unlocked d)
    → direction_counts topology (Unlocked d ∷ past) k ≡ choose (d == k) (one_unlocked was_good (direction_counts topology past k)) (direction_counts topology past k)
unfolding direction_counts accepted receiver_of sent_flits landed_flits
unlocked_row topology past d k changed was_good told =
    counts_are _ _ _ _ _ _ _ _ _ _ _ _
    refl refl (changed_same topology k (Unlocked d) past tt) (accepted_unlocked (d == k) (profile_of topology k) (receiver_of k past)) (repeats_unlocked (d == k) (receiver_of k past))
    (aborts_unlocked (d == k) was_good (receiver_of k past) (λ is. subst (λ (j : ℕ). was_good ≡ is_good (mode (receiver_of j past))) (eqb-true d k is) told))
    ∙ unlocked_by (d == k) was_good (direction_counts topology past k)

-- an entry of no direction
abbrev IsElsewhere : Entry → Type 0
IsElsewhere (Sent direction what flit) = ⊥
IsElsewhere (Landed direction flit outcome) = ⊥
IsElsewhere (Unlocked direction) = ⊥
IsElsewhere (Passed direction flit) = ⊥
IsElsewhere _ = Unit {0}

no_landing : (entry : Entry) → IsElsewhere entry → IsNoLanding entry
no_landing (Landed direction flit outcome) is = is
no_landing _ is = tt

sends_same : (k : ℕ) (past : List Entry) (entry : Entry) → IsElsewhere entry → sent_flits k (entry ∷ past) ≡ sent_flits k past
unfolding sent_flits
sends_same k past (Sent direction what flit) is = absurd is
sends_same k past _ is = refl

lands_same : (k : ℕ) (past : List Entry) (entry : Entry) → IsElsewhere entry → landed_flits k (entry ∷ past) ≡ landed_flits k past
unfolding landed_flits
lands_same k past (Landed direction flit outcome) is = absurd is
lands_same k past (Passed direction flit) is = absurd is
lands_same k past _ is = refl

receives_same : (k : ℕ) (past : List Entry) (entry : Entry) → IsElsewhere entry → receiver_of k (entry ∷ past) ≡ receiver_of k past
unfolding receiver_of
receives_same k past (Landed direction flit outcome) is = absurd is
receives_same k past (Unlocked direction) is = absurd is
receives_same k past _ is = refl

same_row : (topology : Topology) (past : List Entry) (k : ℕ) (entry : Entry) → IsElsewhere entry → direction_counts topology (entry ∷ past) k ≡ direction_counts topology past k
unfolding direction_counts accepted
same_row topology past k entry is =
    let receives = receives_same k past entry is in
    counts_are _ _ _ _ _ _ _ _ _ _ _ _
    (ap length (sends_same k past entry is)) (ap length (lands_same k past entry is)) (changed_same topology k entry past (no_landing entry is))
    (ap (λ (rs : List ReceiverEntry). length (receivers.accepted (profile_of topology k) rs)) receives) (ap repeats receives) (ap aborts receives)

-- ---- all counts

directions_next : (topology : Topology) (past : List Entry) (entry : Entry) (changed was_good : Bool) (n : ℕ) → is_passed entry ≡ false → IsToldBy topology past changed was_good entry
    → directions_after changed was_good (event_of entry) (map (direction_counts topology past) (upto n)) ≡ map (direction_counts topology (entry ∷ past)) (upto n)
unfolding sent_flits landed_flits receiver_of
directions_next topology past (Sent d what flit) changed was_good n on told =
    rows_changed no_counters one_more_sent (direction_counts topology past) (direction_counts topology (Sent d what flit ∷ past)) n d (λ k. sent_row topology past d k (Sent d what flit) flit refl refl refl tt)
directions_next topology past (Landed d flit outcome) changed was_good n on told =
    rows_changed no_counters (one_landed changed outcome) (direction_counts topology past) (direction_counts topology (Landed d flit outcome ∷ past)) n d (λ k. landed_row topology past d k flit outcome changed was_good told)
directions_next topology past (Unlocked d) changed was_good n on told =
    rows_changed no_counters (one_unlocked was_good) (direction_counts topology past) (direction_counts topology (Unlocked d ∷ past)) n d (λ k. unlocked_row topology past d k changed was_good told)
directions_next topology past (Passed d flit) changed was_good n on told = absurd (cc)
directions_next topology past entry changed was_good n on told =
    rows_same (direction_counts topology past) (direction_counts topology (entry ∷ past)) n (λ k. same_row topology past k entry tt)

given_by : (here : Bool) (row : HostSteps) → ◌≡◌ {A = HostSteps} (record row { given = count_if here row.given }) (choose here (one_given row) row)
given_by true row = refl
given_by false row = refl

taken_by : (here : Bool) (row : HostSteps) → ◌≡◌ {A = HostSteps} (record row { taken = count_if here row.taken }) (choose here (one_taken row) row)
taken_by true row = refl
taken_by false row = refl

hosts_next : (past : List Entry) (entry : Entry) (n : ℕ) → host_steps_after (event_of entry) (map (host_steps past) (upto n)) ≡ map (host_steps (entry ∷ past)) (upto n)
unfolding given_count taken_count
hosts_next past (Gave h tag poisoned request) n = rows_changed no_host_steps one_given (host_steps past) (host_steps (Gave h tag poisoned request ∷ past)) n h (λ k. given_by (h == k) (host_steps past k))
hosts_next past (Took h tag answer) n = rows_changed no_host_steps one_taken (host_steps past) (host_steps (Took h tag answer ∷ past)) n h (λ k. taken_by (h == k) (host_steps past k))
hosts_next past _ n = refl

executed_by : (here : Bool) (row : CubeCounts) → ◌≡◌ {A = CubeCounts} (record row { executed = count_if here row.executed }) (choose here (one_executed row) row)
executed_by true row = refl
executed_by false row = refl

dropped_by : (here : Bool) (row : CubeCounts) → ◌≡◌ {A = CubeCounts} (record row { dropped = count_if here row.dropped }) (choose here (one_dropped row) row)
dropped_by true row = refl
dropped_by false row = refl

cubes_next : (past : List Entry) (entry : Entry) (n : ℕ) → cube_counts_after (event_of entry) (map (cube_counts past) (upto n)) ≡ map (cube_counts (entry ∷ past)) (upto n)
unfolding cube_counts executed_count dropped_count
cubes_next past (Executed unit h tag request answer) n =
    rows_changed no_cube_counts one_executed (cube_counts past) (cube_counts (Executed unit h tag request answer ∷ past)) n (unit_cube unit) (λ k. executed_by (unit_cube unit == k) (cube_counts past k))
cubes_next past (Dropped c port) n = rows_changed no_cube_counts one_dropped (cube_counts past) (cube_counts (Dropped c port ∷ past)) n c (λ k. dropped_by (c == k) (cube_counts past k))
cubes_next past _ n = refl

-- an entry that didn't pass
pub tally_next : (topology : Topology) (past : List Entry) (entry : Entry) (changed was_good : Bool) → is_passed entry ≡ false → IsToldBy topology past changed was_good entry
    → tallied changed was_good (event_of entry) (tally_of topology past) ≡ tally_of topology (entry ∷ past)
tally_next topology past entry changed was_good on told =
    let d = directions_next topology past entry changed was_good (directions_in topology) on told in
    let h = hosts_next past entry (hosts_in topology) in
    let c = cubes_next past entry (cubes_in topology) in
    λ i. record { directions = d i; hosts = h i; cubes = c i }

-- no entry
pub tally_none : (topology : Topology) → opening_tally topology ≡ tally_of topology []
unfolding direction_counts accepted receivers.accepted receiver_of sent_flits landed_flits link_entries changed_landings repeats aborts given_count taken_count cube_counts executed_count dropped_count
tally_none topology =
    let d = rows_opened (direction_counts topology []) no_counters 0 (directions_in topology) (λ k. refl) in
    let h = rows_opened (host_steps []) no_host_steps 0 (hosts_in topology) (λ k. refl) in
    let c = rows_opened (cube_counts []) no_cube_counts 0 (cubes_in topology) (λ k. refl) in
    λ i. record { directions = d i; hosts = h i; cubes = c i }
