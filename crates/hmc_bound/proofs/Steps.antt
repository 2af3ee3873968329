-- The link's steps of a round of a journal are those of hmc_link_state.
use Rattle.std.proofs.Common.{◌≡◌, ◌∙◌, ◌≤◌, ◌==◌, ℕ, nat_lt, nat_le, Bool, true, false, Option, Some, None, List, [], ◌∷◌, length, refl, sym, ap, subst, arith}
use Rattle.std.specs.Prelude.{not, if◌then◌else◌, slice_get}
use Rattle.std.specs.Str.{bytes_eq}
use Rattle.std.proofs.lemmas.Grind.{common_steps}
use Rattle.std.proofs.lemmas.Slice.Eq.{bytes_eq-Decides}
use Rattle.hmc_codes.specs.Flit.{zero_flit}
use Rattle.hmc_codes.specs.Link.{LinkFields}
use Rattle.hmc_packet.specs.declared.feed.Feed.{Feed}
use Rattle.hmc_packet.specs.declared.outcome.Outcome.{Outcome}
use Rattle.hmc_packet.specs.declared.outcome.Outcome.TheVariants as out
use Rattle.hmc_packet.specs.declared.what.What.{What}
use Rattle.hmc_packet.specs.Irtry.{irtry_in}
use Rattle.hmc_packet.specs.Receptions.{reception_of}
use Rattle.hmc_schedule.specs.declared.step.Step.TheVariants as steps
use Rattle.hmc_send.specs.declared.sent.Sent.{Sent as Sending}
use Rattle.hmc_send.specs.declared.sent.Sent.TheVariants.{Out, Starved}
use Rattle.hmc_send.specs.declared.toward.Toward.{Toward}
use Rattle.hmc_send.specs.declared.toward.Toward.TheVariants.{Forth, Back}
use Rattle.hmc_send.specs.Choice as cases
use Rattle.hmc_send.specs.LinkCalls.{is_full, view_in}
use Rattle.hmc_send.specs.LinkEntries.{LinkEntry, LinkEntry as entry, receiver_entries}
use Rattle.hmc_packet.specs.Masks.{changes, under_mask}
use Rattle.hmc_send.specs.LinkLines.{StampedFlit, line, passes}
use Rattle.hmc_send.specs.LinkSenders.{given_in}
use Rattle.hmc_numbers.specs.Events.{Reading}
use Rattle.hmc_wire.proofs.LawsHold.{direction-laws}
use Rattle.hmc_wire.proofs.Links.{unchanged}
use Rattle.hmc_wire.specs.EntryTurns.{reading_of}
use Rattle.hmc_link_state.specs.State.{Side, wire}
use Rattle.hmc_link_state.specs.Round.{sent, sent_by, sight}
use Rattle.hmc_link_state.specs.Choice.{choice}
use Rattle.hmc_link_state.specs.Steps.{Link, link_after}
use Rattle.hmc_link_state.proofs.Keeps.{Both}
use Rattle.hmc_link_state.proofs.StepFacts.{facts_after}
use Rattle.hmc_steps.specs.SideIn.{setup_of}
use Rattle.hmc_steps.proofs.StepsAre.{line-long}
use Rattle.hmc_steps.proofs.Wired.{wired}
use Rattle.hmc_journal.specs.Choice.{choose}
use Rattle.hmc_entries.specs.declared.entry.Entry.{Entry}
use Rattle.hmc_entries.specs.declared.entry.Entry.TheVariants.{Landed, Through, Unlocked}
use Rattle.hmc_entries.specs.Event.{is_passed}
use Rattle.hmc_journal.specs.Lawful.{Lawful}
use Rattle.hmc_journal.specs.Links.{sizes_on, entries_on, link_entries, mask_between, landing_mask, fed_after, taken_if}
use Rattle.hmc_journal.specs.LinkSteps.{sent_entry, landed_entry, landed_front}
use Rattle.hmc_journal.specs.Network.{IsNetwork}
use Rattle.hmc_journal.specs.Next.{next, choice as entry_choice}
use Rattle.hmc_journal.specs.Piped.{forwarded_onto, while_gathered, goes_on, pipe_onto}
use Rattle.hmc_journal.specs.Setup.{Setup, Topology}
use Rattle.hmc_journal.specs.StepView.{view_of}
use Rattle.hmc_journal.proofs.EntryRule.{entry_rule, lawful_past}
use Rattle.hmc_laws.proofs.Wired.{wired as wires_of}
use Rattle.hmc_rounds.specs.LinkPart.{IsPlain}
use Rattle.hmc_rounds.proofs.Alone.{no_through}
use Rattle.hmc_rounds.proofs.EntryMoves.{kept_entries}
use Rattle.hmc_rounds.proofs.Single.{Joined}
use Rattle.hmc_bound.specs.Regular.{regulars}
use Rattle.hmc_bound.proofs.LandRound.{Lands, land-forth, land-back}
use Rattle.hmc_bound.proofs.Part.{plain}
use Rattle.hmc_bound.proofs.Starve.{unstarved}

-- ---- nothing is forwarded

none_gathered : (o : Outcome) → while_gathered o None ≡ None
none_gathered out.Gathered = refl
none_gathered _ = refl

goes_none : (o : Outcome) → goes_on o None ≡ false
goes_none out.Accepted = refl
goes_none _ = refl

choose_none : (b : Bool) (x y : Option ℕ) → x ≡ None → y ≡ None → choose b x y ≡ None
choose_none true x y e h = e
choose_none false x y e h = h

by_entry : (setup : Setup) → IsNetwork setup → Joined setup.topology →
    (d : ℕ) (e : Entry) (past : List Entry) → Lawful setup (e ∷ past) →
    forwarded_onto setup.topology d past ≡ None → forwarded_onto setup.topology d (e ∷ past) ≡ None
unfolding forwarded_onto
by_entry setup network j d (Through cube port direction) past lawful none =
    absurd (no_through setup j (wires_of setup network) past cube port direction
    (entry_rule setup (Through cube port direction) past lawful))
by_entry setup network j d (Landed direction flit outcome) past lawful none =
    choose_none (direction == d) (while_gathered outcome (forwarded_onto setup.topology d past))
    (forwarded_onto setup.topology d past) (ap (while_gathered outcome) none
    ∙ none_gathered outcome) none
by_entry setup network j d (Unlocked direction) past lawful none =
    choose_none (direction == d) None (forwarded_onto setup.topology d past) refl none
by_entry setup network j d _ past lawful none = none

pub unforwarded : (setup : Setup) → IsNetwork setup → Joined setup.topology →
    (d : ℕ) (past : List Entry) → Lawful setup past → forwarded_onto setup.topology d past ≡ None
unfolding forwarded_onto
unforwarded setup network j d [] lawful = refl
unforwarded setup network j d (e ∷ past) lawful =
    by_entry setup network j d e past lawful
    (unforwarded setup network j d past (lawful_past setup e past lawful))

-- ---- the link of a journal

abbrev pub link_at : Topology → List Entry → Link
link_at t past =
    link_after (setup_of (sizes_on t 0)) (regulars (sizes_on t 0) (entries_on t 0 past))

pub both : (setup : Setup) → IsNetwork setup → Joined setup.topology → (past : List Entry) →
    Lawful setup past →
    Both (setup_of (sizes_on setup.topology 0)) (link_at setup.topology past).forth
    (link_at setup.topology past).back
both setup network j past lawful =
    let link = sizes_on setup.topology 0 in
    let is = kept_entries setup past network j lawful in
    facts_after link.profile (setup_of link) is.kept.retry
    (regulars link (entries_on setup.topology 0 past))
    (plain link (entries_on setup.topology 0 past) is).may

-- the line by numbers is as long as the list's
line_forth : (link : LinkFields) (past : List LinkEntry) → IsPlain link past →
    length (wire (link_after (setup_of link) (regulars link past)).forth).line ≡ length
    (line link.profile Forth past)
line_forth link past is =
    ap (λ (x : Side). length (wire x).line) ((plain link past is).near Forth).same
    ∙ line-long link Forth past (wired link Forth past is.kept)

line_back : (link : LinkFields) (past : List LinkEntry) → IsPlain link past →
    length (wire (link_after (setup_of link) (regulars link past)).back).line ≡ length
    (line link.profile Back past)
line_back link past is =
    ap (λ (x : Side). length (wire x).line) ((plain link past is).near Back).same
    ∙ line-long link Back past (wired link Back past is.kept)

-- ---- sends

data Sends (link : LinkFields) (d : Toward) (before after : List LinkEntry) : Type 0 where
  is_not : is_full link d before ≡ true → after ≡ before → Sends link d before after
  is_sent : (feed : Feed) → (what : What) → (flit : List ℕ) → after ≡ entry.sent d feed what flit
      ∷ before → Sends link d before after

sends_forth : (t : Topology) (past : List Entry) (full : Bool) (x : Sending) →
    is_full (sizes_on t 0) Forth (entries_on t 0 past) ≡ full → (x ≡ Starved → ⊥) →
    Sends (sizes_on t 0) Forth (entries_on t 0 past) (entries_on t 0 (sent_entry 0 full x ∷ past))
unfolding link_entries
sends_forth t past true x e some = Sends.is_not e refl
sends_forth t past false Starved e some = absurd (some refl)
sends_forth t past false (Out flit what) e some =
    Sends.is_sent (fed_after (sizes_on t 0) Forth (entries_on t 0 past) (pipe_onto t 0 past)) what
    flit refl

sends_back : (t : Topology) (past : List Entry) (full : Bool) (x : Sending) →
    is_full (sizes_on t 0) Back (entries_on t 0 past) ≡ full → (x ≡ Starved → ⊥) →
    Sends (sizes_on t 0) Back (entries_on t 0 past) (entries_on t 0 (sent_entry 1 full x ∷ past))
unfolding link_entries
sends_back t past true x e some = Sends.is_not e refl
sends_back t past false Starved e some = absurd (some refl)
sends_back t past false (Out flit what) e some =
    Sends.is_sent (fed_after (sizes_on t 0) Back (entries_on t 0 past) (pipe_onto t 1 past)) what
    flit refl

next_forth : (setup : Setup) (past : List Entry) →
    IsPlain (sizes_on setup.topology 0) (entries_on setup.topology 0 past) →
    Sends (sizes_on setup.topology 0) Forth (entries_on setup.topology 0 past)
    (entries_on setup.topology 0 (next setup past (steps.Send 0) ∷ past))
unfolding next entry_choice view_of
next_forth setup past is =
    let t = setup.topology in
    let link = sizes_on t 0 in
    let es = entries_on t 0 past in
    let feed = fed_after link Forth es (pipe_onto t 0 past) in
    sends_forth t past (is_full link Forth es)
    (cases.choice link.profile (view_in link Forth es feed)) refl
    (λ e. unstarved link Forth es (given_in link Forth es feed) is.alone e)

next_back : (setup : Setup) (past : List Entry) →
    IsPlain (sizes_on setup.topology 0) (entries_on setup.topology 0 past) →
    Sends (sizes_on setup.topology 0) Back (entries_on setup.topology 0 past)
    (entries_on setup.topology 0 (next setup past (steps.Send 1) ∷ past))
unfolding next entry_choice view_of
next_back setup past is =
    let t = setup.topology in
    let link = sizes_on t 0 in
    let es = entries_on t 0 past in
    let feed = fed_after link Back es (pipe_onto t 1 past) in
    sends_back t past (is_full link Back es) (cases.choice link.profile (view_in link Back es feed))
    refl (λ e. unstarved link Back es (given_in link Back es feed) is.alone e)

full_not : (n m : ℕ) → nat_le n m ≡ true → nat_lt m n ≡ false
full_not n m e = grind (arith, common_steps)

-- where the line is full nothing is sent
sent_full : (link : LinkFields) (x y : Side) (n : ℕ) → length (wire x).line ≡ n →
    nat_le link.line n ≡ true → sent (setup_of link) x y ≡ x
sent_full link x y n long full =
    ap (λ (b : Bool). if b then sent_by (setup_of link) x y (choice (sight (setup_of link) x y))
    else x) (ap (λ (m : ℕ). nat_lt m link.line) long ∙ full_not link.line n full)

-- both sides after a send
pub record SentSides (link : LinkFields) (x y x' y' : Side) : Type 0 where
  pub own : x' ≡ sent (setup_of link) x y
  pub other_is : y' ≡ y

sides_forth : (link : LinkFields) (before after : List LinkEntry) → IsPlain link before →
    Sends link Forth before after →
    let l = link_after (setup_of link) (regulars link before) in
    let k = link_after (setup_of link) (regulars link after) in
    SentSides link l.forth l.back k.forth k.back
unfolding regulars
sides_forth link before after is (Sends.is_not full e) =
    let l = link_after (setup_of link) (regulars link before) in
    subst (λ (es : List LinkEntry). SentSides link l.forth l.back
    (link_after (setup_of link) (regulars link es)).forth
    (link_after (setup_of link) (regulars link es)).back) (sym e)
    (record {
      own = sym
          (sent_full link l.forth l.back (length (line link.profile Forth before))
          (line_forth link before is) full);
      other_is = refl;
    })
sides_forth link before after is (Sends.is_sent feed what flit e) =
    let l = link_after (setup_of link) (regulars link before) in
    subst (λ (es : List LinkEntry). SentSides link l.forth l.back
    (link_after (setup_of link) (regulars link es)).forth
    (link_after (setup_of link) (regulars link es)).back) (sym e)
    (record { own = refl; other_is = refl })

sides_back : (link : LinkFields) (before after : List LinkEntry) → IsPlain link before →
    Sends link Back before after →
    let l = link_after (setup_of link) (regulars link before) in
    let k = link_after (setup_of link) (regulars link after) in
    SentSides link l.back l.forth k.back k.forth
unfolding regulars
sides_back link before after is (Sends.is_not full e) =
    let l = link_after (setup_of link) (regulars link before) in
    subst (λ (es : List LinkEntry). SentSides link l.back l.forth
    (link_after (setup_of link) (regulars link es)).back
    (link_after (setup_of link) (regulars link es)).forth) (sym e)
    (record {
      own = sym
          (sent_full link l.back l.forth (length (line link.profile Back before))
          (line_back link before is) full);
      other_is = refl;
    })
sides_back link before after is (Sends.is_sent feed what flit e) =
    let l = link_after (setup_of link) (regulars link before) in
    subst (λ (es : List LinkEntry). SentSides link l.back l.forth
    (link_after (setup_of link) (regulars link es)).back
    (link_after (setup_of link) (regulars link es)).forth) (sym e)
    (record { own = refl; other_is = refl })

pub send-forth : (setup : Setup) (past : List Entry) → IsNetwork setup → Joined setup.topology →
    Lawful setup past →
    let l = link_at setup.topology past in
    let k = link_at setup.topology (next setup past (steps.Send 0) ∷ past) in
    SentSides (sizes_on setup.topology 0) l.forth l.back k.forth k.back
send-forth setup past network j lawful =
    let is = kept_entries setup past network j lawful in
    sides_forth (sizes_on setup.topology 0) (entries_on setup.topology 0 past)
    (entries_on setup.topology 0 (next setup past (steps.Send 0) ∷ past)) is
    (next_forth setup past is)

pub send-back : (setup : Setup) (past : List Entry) → IsNetwork setup → Joined setup.topology →
    Lawful setup past →
    let l = link_at setup.topology past in
    let k = link_at setup.topology (next setup past (steps.Send 1) ∷ past) in
    SentSides (sizes_on setup.topology 0) l.back l.forth k.back k.forth
send-back setup past network j lawful =
    let is = kept_entries setup past network j lawful in
    sides_back (sizes_on setup.topology 0) (entries_on setup.topology 0 past)
    (entries_on setup.topology 0 (next setup past (steps.Send 1) ∷ past)) is
    (next_back setup past is)

-- ---- landings

record LandsAs (d : Toward) (before after : List LinkEntry) : Type 0 where
  mask : List ℕ
  flit : List ℕ
  outcome : Outcome
  zero : changes mask ≡ false
  is : after ≡ entry.landed d mask flit outcome ∷ before

zero_unchanged : changes zero_flit ≡ false
zero_unchanged = ap not ((bytes_eq-Decides zero_flit zero_flit).1 refl)

mask_zero : (front : Option StampedFlit) (x : StampedFlit) (flit : List ℕ) → front ≡ Some x →
    flit ≡ x.flit → changes (mask_between front flit) ≡ false
mask_zero None x flit e h = absurd (cc e)
mask_zero (Some y) x flit e h =
    let same : y ≡ x = cc in
    let eq : bytes_eq y.flit flit ≡ true =
    (bytes_eq-Decides y.flit flit).1 (ap (λ (z : StampedFlit). z.flit) same ∙ sym h) in
    ap (λ (b : Bool). changes (if b then zero_flit else under_mask y.flit flit)) eq ∙ zero_unchanged

untaken : (t : Topology) (past : List Entry) (d : ℕ) (o : Outcome) (onto : Option ℕ)
    (es : List LinkEntry) → onto ≡ None → taken_if (goes_on o onto) 0 d es ≡ es
untaken t past d o onto es none =
    ap (λ (b : Bool). taken_if b 0 d es) (ap (goes_on o) none ∙ goes_none o)

landed_forth : (t : Topology) (past : List Entry) (passed : Bool) (flit : List ℕ) (o : Outcome)
    (x : StampedFlit) → is_passed (landed_entry 0 passed flit o) ≡ false →
    slice_get (line (sizes_on t 0).profile Forth (entries_on t 0 past)) 0 ≡ Some x → flit ≡ x.flit →
    forwarded_onto t 0 past ≡ None →
    LandsAs Forth (entries_on t 0 past) (entries_on t 0 (landed_entry 0 passed flit o ∷ past))
unfolding link_entries
landed_forth t past true flit o x off front same none =
    absurd (let clash : true ≡ false = off in cc clash)
landed_forth t past false flit o x off front same none = record {
  mask = landing_mask (sizes_on t 0) Forth (entries_on t 0 past) flit;
  flit = flit;
  outcome = o;
  zero =
      mask_zero (slice_get (line (sizes_on t 0).profile Forth (entries_on t 0 past)) 0) x flit front
      same;
  is = untaken t past 0 o (forwarded_onto t 0 past) _ none;
}

landed_back : (t : Topology) (past : List Entry) (passed : Bool) (flit : List ℕ) (o : Outcome)
    (x : StampedFlit) → is_passed (landed_entry 1 passed flit o) ≡ false →
    slice_get (line (sizes_on t 0).profile Back (entries_on t 0 past)) 0 ≡ Some x → flit ≡ x.flit →
    forwarded_onto t 1 past ≡ None →
    LandsAs Back (entries_on t 0 past) (entries_on t 0 (landed_entry 1 passed flit o ∷ past))
unfolding link_entries
landed_back t past true flit o x off front same none =
    absurd (let clash : true ≡ false = off in cc clash)
landed_back t past false flit o x off front same none = record {
  mask = landing_mask (sizes_on t 0) Back (entries_on t 0 past) flit;
  flit = flit;
  outcome = o;
  zero =
      mask_zero (slice_get (line (sizes_on t 0).profile Back (entries_on t 0 past)) 0) x flit front
      same;
  is = untaken t past 1 o (forwarded_onto t 1 past) _ none;
}

none_short : (l : List StampedFlit) → slice_get l 0 ≡ None → length l ≤ 0
none_short [] e = omega arith
none_short (x ∷ l) e = absurd cc

front_forth : (t : Topology) (past : List Entry) (front : Option StampedFlit) →
    IsPlain (sizes_on t 0) (entries_on t 0 past) →
    slice_get (line (sizes_on t 0).profile Forth (entries_on t 0 past)) 0 ≡ front →
    1 ≤ length (line (sizes_on t 0).profile Forth (entries_on t 0 past)) →
    is_passed (landed_front (sizes_on t 0) 0 (entries_on t 0 past) zero_flit front) ≡ false →
    forwarded_onto t 0 past ≡ None →
    LandsAs Forth (entries_on t 0 past)
    (entries_on t 0 (landed_front (sizes_on t 0) 0 (entries_on t 0 past) zero_flit front ∷ past))
front_forth t past None is e some off none =
    absurd (let n = none_short (line (sizes_on t 0).profile Forth (entries_on t 0 past)) e in
    omega (arith, some, n))
front_forth t past (Some x) is e some off none =
    let link = sizes_on t 0 in
    let es = entries_on t 0 past in
    landed_forth t past (passes link.profile Forth es zero_flit (under_mask zero_flit x.flit))
    (under_mask zero_flit x.flit)
    (reception_of link.profile (receiver_entries Forth es) (under_mask zero_flit x.flit)).outcome x
    off e
    (unchanged zero_flit x.flit ((direction-laws link Forth es is.kept).flits 0 x e) zero_unchanged)
    none

front_back : (t : Topology) (past : List Entry) (front : Option StampedFlit) →
    IsPlain (sizes_on t 0) (entries_on t 0 past) →
    slice_get (line (sizes_on t 0).profile Back (entries_on t 0 past)) 0 ≡ front →
    1 ≤ length (line (sizes_on t 0).profile Back (entries_on t 0 past)) →
    is_passed (landed_front (sizes_on t 0) 1 (entries_on t 0 past) zero_flit front) ≡ false →
    forwarded_onto t 1 past ≡ None →
    LandsAs Back (entries_on t 0 past)
    (entries_on t 0 (landed_front (sizes_on t 0) 1 (entries_on t 0 past) zero_flit front ∷ past))
front_back t past None is e some off none =
    absurd (let n = none_short (line (sizes_on t 0).profile Back (entries_on t 0 past)) e in
    omega (arith, some, n))
front_back t past (Some x) is e some off none =
    let link = sizes_on t 0 in
    let es = entries_on t 0 past in
    landed_back t past (passes link.profile Back es zero_flit (under_mask zero_flit x.flit))
    (under_mask zero_flit x.flit)
    (reception_of link.profile (receiver_entries Back es) (under_mask zero_flit x.flit)).outcome x
    off e
    (unchanged zero_flit x.flit ((direction-laws link Back es is.kept).flits 0 x e) zero_unchanged)
    none

next_lands_forth : (setup : Setup) (past : List Entry) →
    IsPlain (sizes_on setup.topology 0) (entries_on setup.topology 0 past) →
    1 ≤ length (line (sizes_on setup.topology 0).profile Forth (entries_on setup.topology 0 past)) →
    is_passed (next setup past (steps.Land 0 zero_flit)) ≡ false →
    forwarded_onto setup.topology 0 past ≡ None →
    LandsAs Forth (entries_on setup.topology 0 past)
    (entries_on setup.topology 0 (next setup past (steps.Land 0 zero_flit) ∷ past))
unfolding next entry_choice view_of
next_lands_forth setup past is some off none =
    front_forth setup.topology past
    (slice_get (line (sizes_on setup.topology 0).profile Forth (entries_on setup.topology 0 past))
    0) is refl some off none

next_lands_back : (setup : Setup) (past : List Entry) →
    IsPlain (sizes_on setup.topology 0) (entries_on setup.topology 0 past) →
    1 ≤ length (line (sizes_on setup.topology 0).profile Back (entries_on setup.topology 0 past)) →
    is_passed (next setup past (steps.Land 1 zero_flit)) ≡ false →
    forwarded_onto setup.topology 1 past ≡ None →
    LandsAs Back (entries_on setup.topology 0 past)
    (entries_on setup.topology 0 (next setup past (steps.Land 1 zero_flit) ∷ past))
unfolding next entry_choice view_of
next_lands_back setup past is some off none =
    front_back setup.topology past
    (slice_get (line (sizes_on setup.topology 0).profile Back (entries_on setup.topology 0 past)) 0)
    is refl some off none

lands_sides_forth : (link : LinkFields) (before after : List LinkEntry) → IsPlain link after →
    LandsAs Forth before after →
    let l = link_after (setup_of link) (regulars link before) in
    let k = link_after (setup_of link) (regulars link after) in
    (look : Reading)
    × Lands l.forth l.back k.forth k.back look
lands_sides_forth link before after is a =
    let l = link_after (setup_of link) (regulars link before) in
    subst (λ (es : List LinkEntry). (look : Reading)
    × Lands l.forth l.back (link_after (setup_of link) (regulars link es)).forth
    (link_after (setup_of link) (regulars link es)).back look) (sym a.is) (
      reading_of (irtry_in link.profile a.flit),
      land-forth link before a.mask a.flit a.outcome (subst (IsPlain link) a.is is) a.zero,
    )

lands_sides_back : (link : LinkFields) (before after : List LinkEntry) → IsPlain link after →
    LandsAs Back before after →
    let l = link_after (setup_of link) (regulars link before) in
    let k = link_after (setup_of link) (regulars link after) in
    (look : Reading)
    × Lands l.back l.forth k.back k.forth look
lands_sides_back link before after is a =
    let l = link_after (setup_of link) (regulars link before) in
    subst (λ (es : List LinkEntry). (look : Reading)
    × Lands l.back l.forth (link_after (setup_of link) (regulars link es)).back
    (link_after (setup_of link) (regulars link es)).forth look) (sym a.is) (
      reading_of (irtry_in link.profile a.flit),
      land-back link before a.mask a.flit a.outcome (subst (IsPlain link) a.is is) a.zero,
    )

pub lands-forth : (setup : Setup) (past : List Entry) → IsNetwork setup → Joined setup.topology →
    Lawful setup past → Lawful setup (next setup past (steps.Land 0 zero_flit) ∷ past) →
    is_passed (next setup past (steps.Land 0 zero_flit)) ≡ false →
    1 ≤ length (wire (link_at setup.topology past).forth).line →
    let l = link_at setup.topology past in
    let k = link_at setup.topology (next setup past (steps.Land 0 zero_flit) ∷ past) in
    (look : Reading)
    × Lands l.forth l.back k.forth k.back look
lands-forth setup past network j lawful after off some =
    let t = setup.topology in
    let is = kept_entries setup past network j lawful in
    lands_sides_forth (sizes_on t 0) (entries_on t 0 past)
    (entries_on t 0 (next setup past (steps.Land 0 zero_flit) ∷ past))
    (kept_entries setup (next setup past (steps.Land 0 zero_flit) ∷ past) network j after)
    (next_lands_forth setup past is
    (subst (λ (n : ℕ). 1 ≤ n) (line_forth (sizes_on t 0) (entries_on t 0 past) is) some) off
    (unforwarded setup network j 0 past lawful))

pub lands-back : (setup : Setup) (past : List Entry) → IsNetwork setup → Joined setup.topology →
    Lawful setup past → Lawful setup (next setup past (steps.Land 1 zero_flit) ∷ past) →
    is_passed (next setup past (steps.Land 1 zero_flit)) ≡ false →
    1 ≤ length (wire (link_at setup.topology past).back).line →
    let l = link_at setup.topology past in
    let k = link_at setup.topology (next setup past (steps.Land 1 zero_flit) ∷ past) in
    (look : Reading)
    × Lands l.back l.forth k.back k.forth look
lands-back setup past network j lawful after off some =
    let t = setup.topology in
    let is = kept_entries setup past network j lawful in
    lands_sides_back (sizes_on t 0) (entries_on t 0 past)
    (entries_on t 0 (next setup past (steps.Land 1 zero_flit) ∷ past))
    (kept_entries setup (next setup past (steps.Land 1 zero_flit) ∷ past) network j after)
    (next_lands_back setup past is
    (subst (λ (n : ℕ). 1 ≤ n) (line_back (sizes_on t 0) (entries_on t 0 past) is) some) off
    (unforwarded setup network j 1 past lawful))
