-- Flits are gathered in Good alone.
use Rattle.std.proofs.Common.{◌≡◌, ◌≤◌, ◌+◌, ◌==◌, ◌&&◌, ◌||◌, ◌∙◌, ℕ, Bool, true, false, not, nat_lt, if◌then◌else◌, Option, Some, None, Result, Ok, Err, List, [], ◌∷◌, ◌++◌, length, refl, sym, ap, ap₂, subst, ltb-true, ltb-false}
use Rattle.std.specs.Prelude.{slice_get}
use Rattle.hmc_codes.specs.Link.{LinkFields}
use Rattle.hmc_codes.specs.declared.profile.Profile.{Profile}
use Rattle.hmc_codes.specs.Commands.{layout_of}
use Rattle.hmc_codes.specs.declared.layout.Layout.{Layout}
use Rattle.hmc_codes.specs.declared.layout.Layout.TheVariants as layouts
use Rattle.hmc_packet.specs.declared.bad.Bad.{Bad}
use Rattle.hmc_packet.specs.declared.bad.Bad.TheVariants as bads
use Rattle.hmc_packet.specs.declared.reception.Reception.{Reception}
use Rattle.hmc_packet.specs.declared.seen.Seen.{Seen}
use Rattle.hmc_packet.specs.declared.kind.Kind.{Kind}
use Rattle.hmc_packet.specs.declared.outcome.Outcome.{Outcome}
use Rattle.hmc_packet.specs.declared.outcome.Outcome.TheVariants as outcomes
use Rattle.hmc_packet.specs.declared.view.Mode.{Mode}
use Rattle.hmc_packet.specs.declared.view.Mode.TheVariants as modes
use Rattle.hmc_packet.specs.Irtry.{irtry_in, kind_of}
use Rattle.hmc_packet.specs.Landings.{ReceiverEntry, mode, mode_after, pending, gathered_after, is_training, whole_training, whole_run}
use Rattle.hmc_packet.specs.Receptions.{LandingView, landing_view, reception_by, reception_of, mode_reception, abort_reception, good_reception, flits_reception, read_reception, packet_reception, is_next, is_repeat, lng_with, is_no_length, unchecked, checked}
use Rattle.hmc_packet.specs.Parts.{lng_of}
use Rattle.hmc_packet.specs.Reading.{is_null, read_of}
use Rattle.hmc_send.specs.LinkCalls.{LinkCall, IsLawful, next_entry, entry_if, landed_front}
use Rattle.hmc_send.specs.LinkEntries.{LinkEntry, receiver_entries}
use Rattle.hmc_packet.specs.Masks.{under_mask}
use Rattle.hmc_send.specs.LinkLines.{StampedFlit, line, passes}
use Rattle.hmc_send.specs.declared.toward.Toward.{Toward}
use Rattle.hmc_send.specs.declared.toward.Toward.TheVariants.{Forth, Back}
use Rattle.hmc_ends.specs.End.{flits_seen}
use Rattle.hmc_kept.specs.Pipes.{is_gathered}
use Rattle.hmc_kept.specs.Shown.{some_flits, AreShort}

-- flits are gathered only in Good
abbrev pub AreInGood : Mode → List (List ℕ) → Type 0
AreInGood modes.Good flits = Unit {0}
AreInGood mode flits = flits ≡ []

-- a test on outcomes that no outcome meets which comes outside of Good
pub record NeedsGood (test : Outcome → Bool) : Type 0 where
  pub trained : test outcomes.Trained ≡ false
  pub quiet : test outcomes.Quiet ≡ false
  pub ran : (kind : Kind) → test (outcomes.Ran kind) ≡ false

trained_fails : (test : Outcome → Bool) → NeedsGood test → (ends is : Bool) → test (if is then checked (if ends then outcomes.Trained else outcomes.Quiet) None else unchecked outcomes.Quiet).outcome ≡ false
trained_fails test needs true true = needs.trained
trained_fails test needs false true = needs.quiet
trained_fails test needs ends false = needs.quiet

irtry_fails : (test : Outcome → Bool) → NeedsGood test → (kind : Kind) (ends : Bool) → test (if ends then outcomes.Ran kind else outcomes.Quiet) ≡ false
irtry_fails test needs kind true = needs.ran kind
irtry_fails test needs kind false = needs.quiet

aborted_fails : (test : Outcome → Bool) → NeedsGood test → (view : LandingView) (irtry : Option (Kind × ℕ)) → test (abort_reception view irtry).outcome ≡ false
aborted_fails test needs view None = needs.quiet
aborted_fails test needs view (Some irtry) = irtry_fails test needs irtry.0 (view.run irtry.0 + 1 == whole_run)

pub comes_in_good : (test : Outcome → Bool) → NeedsGood test → (m : Mode) (q : Profile) (view : LandingView) (flit : List ℕ) → test (mode_reception m q view flit).outcome ≡ true → m ≡ modes.Good
comes_in_good test needs modes.Good q view flit is = refl
comes_in_good test needs modes.Train q view flit is = absurd (let clash : true ≡ false = sym is ∙ trained_fails test needs (view.training + 1 == whole_training) (is_training q flit) in cc)
comes_in_good test needs modes.Abort q view flit is = absurd (let clash : true ≡ false = sym is ∙ aborted_fails test needs view (irtry_in q flit) in cc)

-- an outcome that goes on gathering comes in Good alone
gathering_needs : NeedsGood is_gathered
gathering_needs = record { trained = refl; quiet = refl; ran = λ kind. refl }

gathers_good : (q : Profile) (past : List ReceiverEntry) (flit : List ℕ) → is_gathered (reception_of q past flit).outcome ≡ true → mode past ≡ modes.Good
unfolding reception_of reception_by landing_view
gathers_good q past flit is = comes_in_good is_gathered gathering_needs (mode past) q (landing_view q past) flit is

nothing_left : (m : Mode) → AreInGood m []
nothing_left modes.Good = tt
nothing_left modes.Train = refl
nothing_left modes.Abort = refl

-- after one more landing
good_gathering : (m : Mode) (flits : List (List ℕ)) (flit : List ℕ) → m ≡ modes.Good → AreInGood (mode_after m (ReceiverEntry.Land flit outcomes.Gathered)) (flits ++ flit ∷ [])
good_gathering m flits flit is = subst (λ (n : Mode). AreInGood (mode_after n (ReceiverEntry.Land flit outcomes.Gathered)) (flits ++ flit ∷ [])) (sym is) tt

landed_good : (m : Mode) (flits : List (List ℕ)) (flit : List ℕ) (outcome : Outcome) → (is_gathered outcome ≡ true → m ≡ modes.Good) → AreInGood (mode_after m (ReceiverEntry.Land flit outcome)) (gathered_after flits (ReceiverEntry.Land flit outcome))
landed_good m flits flit outcomes.Gathered good = good_gathering m flits flit (good refl)
landed_good m flits flit outcomes.Quiet good = nothing_left _
landed_good m flits flit outcomes.Trained good = nothing_left _
landed_good m flits flit outcomes.Accepted good = nothing_left _
landed_good m flits flit outcomes.Poisoned good = nothing_left _
landed_good m flits flit outcomes.Repeat good = nothing_left _
landed_good m flits flit (outcomes.AbortedBad bad) good = nothing_left _
landed_good m flits flit outcomes.AbortedOrder good = nothing_left _
landed_good m flits flit (outcomes.Ran kind) good = nothing_left _

-- a lawful landing has the outcome of the definition
lawful_outcome : (link : LinkFields) (past : List LinkEntry) (way : Toward) (mask flit : List ℕ) (outcome : Outcome) (front : Option StampedFlit) → landed_front link way past mask front ≡ Some (LinkEntry.landed way mask flit outcome)
    → outcome ≡ (reception_of link.profile (receiver_entries way past) flit).outcome
lawful_outcome link past way mask flit outcome None is = absurd (cc)
lawful_outcome link past way mask flit outcome (Some front) is = by_passed (not (passes link.profile way past mask (under_mask mask front.flit))) is
  where
    by_passed : (goes : Bool) → entry_if goes (LinkEntry.landed way mask (under_mask mask front.flit) (reception_of link.profile (receiver_entries way past) (under_mask mask front.flit)).outcome) ≡ Some (LinkEntry.landed way mask flit outcome)
        → outcome ≡ (reception_of link.profile (receiver_entries way past) flit).outcome
    by_passed false same = absurd (cc)
    by_passed true same =
        let flits : under_mask mask front.flit ≡ flit = cc in
        let outs : (reception_of link.profile (receiver_entries way past) (under_mask mask front.flit)).outcome ≡ outcome = cc in
        sym outs ∙ ap (λ (f : List ℕ). (reception_of link.profile (receiver_entries way past) f).outcome) flits

-- after one more entry in this direction
land_good : (link : LinkFields) (d : Toward) (mask flit : List ℕ) (outcome : Outcome) (past : List LinkEntry) → next_entry link past (LinkCall.land d mask) ≡ Some (LinkEntry.landed d mask flit outcome) → AreInGood (mode (receiver_entries d past)) (pending (receiver_entries d past))
    → AreInGood (mode (ReceiverEntry.Land flit outcome ∷ receiver_entries d past)) (pending (ReceiverEntry.Land flit outcome ∷ receiver_entries d past))
unfolding next_entry mode pending
land_good link d mask flit outcome past lawful before =
    let same = lawful_outcome link past d mask flit outcome (slice_get (line link.profile d past) 0) lawful in
    landed_good (mode (receiver_entries d past)) (pending (receiver_entries d past)) flit outcome (λ is. gathers_good link.profile (receiver_entries d past) flit (ap is_gathered (sym same) ∙ is))

unlock_good : (past : List ReceiverEntry) → AreInGood (mode (ReceiverEntry.Unlock ∷ past)) (pending (ReceiverEntry.Unlock ∷ past))
unfolding mode pending
unlock_good past = nothing_left _

pub are_good : (link : LinkFields) (d : Toward) (past : List LinkEntry) → IsLawful link past → AreInGood (mode (receiver_entries d past)) (pending (receiver_entries d past))
unfolding IsLawful receiver_entries mode pending
are_good link d [] lawful = refl
are_good link Forth (LinkEntry.landed Forth mask flit outcome ∷ past) lawful = land_good link Forth mask flit outcome past lawful.0 (are_good link Forth past lawful.1)
are_good link Back (LinkEntry.landed Back mask flit outcome ∷ past) lawful = land_good link Back mask flit outcome past lawful.0 (are_good link Back past lawful.1)
are_good link Forth (LinkEntry.landed Back mask flit outcome ∷ past) lawful = are_good link Forth past lawful.1
are_good link Back (LinkEntry.landed Forth mask flit outcome ∷ past) lawful = are_good link Back past lawful.1
are_good link Forth (LinkEntry.unlocked Forth ∷ past) lawful = unlock_good (receiver_entries Forth past)
are_good link Back (LinkEntry.unlocked Back ∷ past) lawful = unlock_good (receiver_entries Back past)
are_good link Forth (LinkEntry.unlocked Back ∷ past) lawful = are_good link Forth past lawful.1
are_good link Back (LinkEntry.unlocked Forth ∷ past) lawful = are_good link Back past lawful.1
are_good link d (LinkEntry.handed way packet ∷ past) lawful = are_good link d past lawful.1
are_good link d (LinkEntry.taken way ∷ past) lawful = are_good link d past lawful.1
are_good link d (LinkEntry.sent way feed what flit ∷ past) lawful = are_good link d past lawful.1
are_good link d (LinkEntry.through way head flits ∷ past) lawful = are_good link d past lawful.1

-- what is seen of the flits that are gathered is all of them
pub all_seen : (m : Mode) (flits : List (List ℕ)) → AreInGood m flits → flits_seen m flits ≡ some_flits flits
all_seen modes.Good [] is = refl
all_seen modes.Good (flit ∷ flits) is = refl
all_seen modes.Train flits is = sym (ap some_flits is)
all_seen modes.Abort flits is = sym (ap some_flits is)

-- ---- fewer flits are gathered than the first one names

packet_gathers : (q : Profile) (view : LandingView) (next poisoned repeat : Bool) → is_gathered (if next then (if poisoned then outcomes.Poisoned else outcomes.Accepted) else if repeat then outcomes.Repeat else outcomes.AbortedOrder) ≡ false
packet_gathers q view true true repeat = refl
packet_gathers q view true false repeat = refl
packet_gathers q view false poisoned true = refl
packet_gathers q view false poisoned false = refl

layout_gathers : (q : Profile) (view : LandingView) (layout : Layout) (seen : Seen) → is_gathered (packet_reception q view layout seen).outcome ≡ false
layout_gathers q view layouts.Null seen = refl
layout_gathers q view layouts.Irtry seen = irtry_fails is_gathered gathering_needs (kind_of seen.packet.frp) (view.run (kind_of seen.packet.frp) + 1 == whole_run)
layout_gathers q view layouts.Pret seen = refl
layout_gathers q view layouts.Tret seen = packet_gathers q view (is_next q view seen.packet) seen.packet.poisoned (is_repeat q view seen.packet)
layout_gathers q view layouts.Ask seen = packet_gathers q view (is_next q view seen.packet) seen.packet.poisoned (is_repeat q view seen.packet)
layout_gathers q view layouts.Reply seen = packet_gathers q view (is_next q view seen.packet) seen.packet.poisoned (is_repeat q view seen.packet)

read_gathers : (q : Profile) (view : LandingView) (read : Result Seen Bad) → is_gathered (read_reception q view read).outcome ≡ false
read_gathers q view (Err bad) = refl
read_gathers q view (Ok seen) = layout_gathers q view (layout_of seen.packet.command) seen

gathered_parts : (q : Profile) (view : LandingView) (flit : List ℕ) (empty : Bool) → (length view.pending == 0) ≡ empty → (null none : Bool) → is_null flit ≡ null → is_no_length (lng_of flit) ≡ none → is_gathered (good_reception q view flit).outcome ≡ true
    → (nat_lt (length (view.pending ++ flit ∷ [])) (lng_with view.pending flit) ≡ true) × (view.pending ≡ [] → none ≡ false)
gathered_parts q view flit empty at null none null_is none_is is = by_tests empty null none at null_is none_is (sym (same_reception empty null none at null_is none_is) ∙ is)
  where
    flits : List (List ℕ)
    flits = view.pending ++ flit ∷ []

    rest : Reception
    rest = flits_reception q view (lng_with view.pending flit) flits

    same_reception : (e n z : Bool) → (length view.pending == 0) ≡ e → is_null flit ≡ n → is_no_length (lng_of flit) ≡ z
        → is_gathered (good_reception q view flit).outcome ≡ is_gathered (if e && n then checked outcomes.Quiet None else if e && z then unchecked (outcomes.AbortedBad bads.Length) else rest).outcome
    same_reception e n z e_is n_is z_is =
        ap (λ (t : Bool). is_gathered (if t && is_null flit then checked outcomes.Quiet None else if t && is_no_length (lng_of flit) then unchecked (outcomes.AbortedBad bads.Length) else rest).outcome) e_is
        ∙ ap₂ (λ (a b : Bool). is_gathered (if e && a then checked outcomes.Quiet None else if e && b then unchecked (outcomes.AbortedBad bads.Length) else rest).outcome) n_is z_is

    fewer : (less : Bool) → nat_lt (length flits) (lng_with view.pending flit) ≡ less → is_gathered rest.outcome ≡ true → less ≡ true
    fewer true less on = refl
    fewer false less on = absurd (let clash : true ≡ false = sym on ∙ ap (λ (t : Bool). is_gathered (if t then unchecked outcomes.Gathered else read_reception q view (read_of q flits)).outcome) less ∙ read_gathers q view (read_of q flits) in cc)

    empty_is : (l : List (List ℕ)) → (length l == 0) ≡ false → l ≡ [] → ⊥
    empty_is [] not_empty is = absurd (cc)
    empty_is (x ∷ l) not_empty is = absurd (cc)

    by_tests : (e n z : Bool) → (length view.pending == 0) ≡ e → is_null flit ≡ n → is_no_length (lng_of flit) ≡ z → is_gathered (if e && n then checked outcomes.Quiet None else if e && z then unchecked (outcomes.AbortedBad bads.Length) else rest).outcome ≡ true
        → (nat_lt (length flits) (lng_with view.pending flit) ≡ true) × (view.pending ≡ [] → z ≡ false)
    by_tests true true z e_is n_is z_is on = absurd (cc)
    by_tests true false true e_is n_is z_is on = absurd (cc)
    by_tests true false false e_is n_is z_is on = (fewer _ refl on, λ none. refl)
    by_tests false n z e_is n_is z_is on = (fewer _ refl on, λ none. absurd (empty_is view.pending e_is none))

length_fits : (lng : ℕ) → is_no_length lng ≡ false → lng ≤ 17
length_fits lng is = by_tests (lng == 0) (nat_lt 17 lng) refl is
  where
    by_tests : (zero long : Bool) → nat_lt 17 lng ≡ long → (zero || long) ≡ false → lng ≤ 17
    by_tests true long at gone = absurd (cc)
    by_tests false true at gone = absurd (cc)
    by_tests false false at gone = ltb-false 17 lng at

short_more : (q : Profile) (flits : List (List ℕ)) (flit : List ℕ) → AreShort flits → nat_lt (length (flits ++ flit ∷ [])) (lng_with flits flit) ≡ true → (flits ≡ [] → is_no_length (lng_of flit) ≡ false) → AreShort (flits ++ flit ∷ [])
short_more q [] flit short less none = (ltb-true _ _ less, length_fits (lng_of flit) (none refl))
short_more q (first ∷ rest) flit short less none = (ltb-true _ _ less, short.1)

mode_short : (m : Mode) (q : Profile) (view : LandingView) (flit : List ℕ) → AreShort view.pending → is_gathered (mode_reception m q view flit).outcome ≡ true → AreShort (view.pending ++ flit ∷ [])
mode_short modes.Good q view flit short is =
    let parts = gathered_parts q view flit _ refl _ _ refl refl is in short_more q view.pending flit short parts.0 parts.1
mode_short modes.Train q view flit short is = absurd (let clash : true ≡ false = sym is ∙ trained_fails is_gathered gathering_needs (view.training + 1 == whole_training) (is_training q flit) in cc)
mode_short modes.Abort q view flit short is = absurd (let clash : true ≡ false = sym is ∙ aborted_fails is_gathered gathering_needs view (irtry_in q flit) in cc)

next_short : (q : Profile) (past : List ReceiverEntry) (flit : List ℕ) → AreShort (pending past) → is_gathered (reception_of q past flit).outcome ≡ true → AreShort (pending past ++ flit ∷ [])
unfolding reception_of reception_by landing_view
next_short q past flit short is = mode_short (mode past) q (landing_view q past) flit short is

landed_short : (flits : List (List ℕ)) (flit : List ℕ) (outcome : Outcome) → (is_gathered outcome ≡ true → AreShort (flits ++ flit ∷ [])) → AreShort (gathered_after flits (ReceiverEntry.Land flit outcome))
landed_short flits flit outcomes.Gathered more = more refl
landed_short flits flit outcomes.Quiet more = tt
landed_short flits flit outcomes.Trained more = tt
landed_short flits flit outcomes.Accepted more = tt
landed_short flits flit outcomes.Poisoned more = tt
landed_short flits flit outcomes.Repeat more = tt
landed_short flits flit (outcomes.AbortedBad bad) more = tt
landed_short flits flit outcomes.AbortedOrder more = tt
landed_short flits flit (outcomes.Ran kind) more = tt

land_short : (link : LinkFields) (d : Toward) (mask flit : List ℕ) (outcome : Outcome) (past : List LinkEntry) → next_entry link past (LinkCall.land d mask) ≡ Some (LinkEntry.landed d mask flit outcome) → AreShort (pending (receiver_entries d past)) → AreShort (pending (ReceiverEntry.Land flit outcome ∷ receiver_entries d past))
unfolding next_entry pending
land_short link d mask flit outcome past lawful before =
    let same = lawful_outcome link past d mask flit outcome (slice_get (line link.profile d past) 0) lawful in
    landed_short (pending (receiver_entries d past)) flit outcome (λ is. next_short link.profile (receiver_entries d past) flit before (ap is_gathered (sym same) ∙ is))

pub are_short : (link : LinkFields) (d : Toward) (past : List LinkEntry) → IsLawful link past → AreShort (pending (receiver_entries d past))
unfolding IsLawful receiver_entries pending
are_short link d [] lawful = tt
are_short link Forth (LinkEntry.landed Forth mask flit outcome ∷ past) lawful = land_short link Forth mask flit outcome past lawful.0 (are_short link Forth past lawful.1)
are_short link Back (LinkEntry.landed Back mask flit outcome ∷ past) lawful = land_short link Back mask flit outcome past lawful.0 (are_short link Back past lawful.1)
are_short link Forth (LinkEntry.landed Back mask flit outcome ∷ past) lawful = are_short link Forth past lawful.1
are_short link Back (LinkEntry.landed Forth mask flit outcome ∷ past) lawful = are_short link Back past lawful.1
are_short link Forth (LinkEntry.unlocked Forth ∷ past) lawful = tt
are_short link Back (LinkEntry.unlocked Back ∷ past) lawful = tt
are_short link Forth (LinkEntry.unlocked Back ∷ past) lawful = are_short link Forth past lawful.1
are_short link Back (LinkEntry.unlocked Forth ∷ past) lawful = are_short link Back past lawful.1
are_short link d (LinkEntry.handed way packet ∷ past) lawful = are_short link d past lawful.1
are_short link d (LinkEntry.taken way ∷ past) lawful = are_short link d past lawful.1
are_short link d (LinkEntry.sent way feed what flit ∷ past) lawful = are_short link d past lawful.1
are_short link d (LinkEntry.through way head flits ∷ past) lawful = are_short link d past lawful.1
