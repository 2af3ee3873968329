-- The step of a landing may come, and leads to what the lists with it say.
use Rattle.std.proofs.Common.{◌≡◌, ◌∙◌, ◌+◌, ◌≤◌, ℕ, Bool, true, false, List, [], ◌∷◌, ◌++◌, drop, map, Option, Some, None, refl, sym, ap, subst, arith}
use Rattle.std.specs.Prelude.{◌||◌, ◌&&◌, if◌then◌else◌, is_some, slice_get, filter, sum_by}
use Rattle.std.proofs.lemmas.List.Sums.{sum_by-cons, sum_by-take-drop}
use Rattle.hmc_codes.specs.declared.profile.Profile.{Profile}
use Rattle.hmc_packet.specs.declared.kind.Kind.TheVariants as outer_kinds
use Rattle.hmc_packet.specs.declared.outcome.Outcome as outer_outcome
use Rattle.hmc_packet.specs.declared.outcome.Outcome.TheVariants as out
use Rattle.hmc_packet.specs.declared.view.Mode as outer_mode
use Rattle.hmc_packet.specs.declared.view.Mode.TheVariants as outer_modes
use Rattle.hmc_packet.specs.Landings as receipts
use Rattle.hmc_packet.specs.Landings.ReceiverEntry.{Land}
use Rattle.hmc_packet.specs.Packet.{PacketFields, flits_of}
use Rattle.hmc_packet.specs.Receptions.{reception_of}
use Rattle.hmc_send.specs.Entries as entries
use Rattle.hmc_send.specs.Entries.{SenderEntry}
use Rattle.hmc_packet.specs.Masks.{changes, under_mask}
use Rattle.hmc_send.specs.LinkLines.{StampedFlit}
use Rattle.hmc_send.specs.LinkSenders.{run_entries, acknowledgement}
use Rattle.hmc_send.specs.LinkTokens.{flits_taken, flits_accepted}
use Rattle.hmc_send.specs.Places.{is_token}
use Rattle.hmc_numbers.specs.Direction.{Reached}
use Rattle.hmc_numbers.specs.Events.{Event, happens}
use Rattle.hmc_numbers.specs.Pair.{Half, Move as moves, Way as ways, way, stamps_after, event_at, own_after, other_after}
use Rattle.hmc_codes.specs.Profile.{window_of as window}
use Rattle.hmc_numbers.specs.Tokens.{used_tokens}
use Rattle.hmc_numbers.specs.Turns.{MayMove, MayHere}
use Rattle.hmc_numbers.proofs.Effect.{effect}
use Rattle.hmc_wire.specs.EntryTurns.{counted_move}
use Rattle.hmc_wire.proofs.Actions.{SideOf, landing_event}
use Rattle.hmc_wire.proofs.ActionLaw.{Linked, facts, landing_done}
use Rattle.hmc_wire.proofs.ActionWays.{event_lands}
use Rattle.hmc_wire.proofs.GrammarCounted.{counted}
use Rattle.hmc_wire.proofs.GrammarLandings as inner
use Rattle.hmc_wire.proofs.GrammarLandings.{Outcome as inner_outcomes, Outcome, is_spoilt, mode, spoilt_by}
use Rattle.hmc_wire.proofs.Links.{may-land, taken-is}
use Rattle.hmc_wire.proofs.Matches.{IsAt, reading_of}
use Rattle.hmc_wire.proofs.Mirrors.{mirrored}
use Rattle.hmc_wire.proofs.PacketGrammar.{grammar, alone}
use Rattle.hmc_wire.proofs.Places.{AgreesWith}
use Rattle.hmc_wire.proofs.Spelled.{Sent}
use Rattle.hmc_wire.proofs.Ways.{Lists, Way, lists_landed}
use Rattle.hmc_wire.proofs.Others.{lists_shown}
use Rattle.hmc_wire.proofs.Words.{mode_as, outcome_as}
use Rattle.hmc_link_state.specs.Facts.{SideFacts}
use Rattle.hmc_link_state.specs.Landing.{Lands, took}
use Rattle.hmc_link_state.specs.State.{Setup, Side, wire}
use Rattle.hmc_link_state.specs.State as drained
use Rattle.hmc_link_state.specs.Steps.{Step, MayStep, own_step}
use Rattle.hmc_steps.specs.Doings.{is_ran_start}
use Rattle.hmc_steps.specs.SideIn.{lacking}
use Rattle.hmc_steps.proofs.Landed.{event_in, landing-event_is, is-landing, move-same, ran-start, IsFewFirst, lacks-some, trained-few}
use Rattle.hmc_steps.proofs.Outcomes.{OutcomeFacts, outcome_facts}
use Rattle.hmc_steps.proofs.Sides.{side_of, setup}

-- ---- the buffer

sizes : (l : List PacketFields) → drained.flits_of (map flits_of l) ≡ sum_by flits_of l
sizes [] = refl
sizes (p ∷ l) = ap (λ (n : ℕ). flits_of p + n) (sizes l) ∙ sym (sum_by-cons flits_of p l)

-- the flits of the packets in the buffer, and those that left it, are those that were accepted
pub buffer-sum : (n : ℕ) (l : List PacketFields) →
    flits_taken n l + drained.flits_of (map flits_of (drop n (filter is_token l))) ≡ flits_accepted
    l
buffer-sum n l =
    let s = sizes (drop n (filter is_token l)) in
    let t = sum_by-take-drop flits_of (filter is_token l) n in
    omega arith

pub buffer-used : (q : Profile) (retry adv : ℕ) (mine : Lists q) (s : Sent (grammar q))
    (own oth : SideOf (grammar q)) → Way q retry mine own → Linked (grammar q) s retry adv own oth →
    AgreesWith q s mine.sender →
    drained.flits_of
    (map flits_of (drop mine.taken (filter is_token (receipts.accepted q mine.receiver))))
    ≡ used_tokens own.half
buffer-used q retry adv mine s own oth is linked agree =
    let c = taken-is q retry adv mine s own oth is linked agree in
    let m = is.moved in
    let b = buffer-sum mine.taken (receipts.accepted q mine.receiver) in
    omega arith

-- ---- the numbers

landed-stamps : (w : ways) (n m : ℕ) (ss : List ℕ) → w ≡ ways.lands →
    stamps_after w n ss ≡ stamps_after w m ss
landed-stamps ways.lands n m ss e = refl
landed-stamps ways.sends n m ss e = absurd (cc e)
landed-stamps ways.stays n m ss e = absurd (cc e)

half-landed : (h : Half) (n : ℕ) (e : Event) (rrp : Option ℕ) → way e ≡ ways.lands →
    event_at h 0 e ≡ own_after h n (counted_move rrp e)
half-landed h n e None l =
    λ i. record {
      direction = happens h.direction e;
      stamps = landed-stamps (way e) 0 n h.stamps l i;
      moved = h.moved;
    }
half-landed h n e (Some r) l =
    λ i. record {
      direction = happens h.direction e;
      stamps = landed-stamps (way e) 0 n h.stamps l i;
      moved = h.moved;
    }

-- ---- the other direction

shown-starts : (o : outer_outcome.Outcome) (rrp : Option ℕ) (front : Option StampedFlit)
    (t : List SenderEntry) →
    entries.starts ((run_entries o ++ acknowledgement rrp front) ++ t) ≡ entries.starts t
unfolding entries.starts
shown-starts (out.Ran outer_kinds.Start) (Some r) (Some f) t = refl
shown-starts (out.Ran outer_kinds.Start) (Some r) None t = refl
shown-starts (out.Ran outer_kinds.Start) None front t = refl
shown-starts _ (Some r) (Some f) t = refl
shown-starts _ (Some r) None t = refl
shown-starts _ None front t = refl

shown-others : (o : outer_outcome.Outcome) (rrp : Option ℕ) (front : Option StampedFlit)
    (t : List SenderEntry) →
    entries.others ((run_entries o ++ acknowledgement rrp front) ++ t) ≡ entries.others t
unfolding entries.others
shown-others (out.Ran outer_kinds.Start) (Some r) (Some f) t = refl
shown-others (out.Ran outer_kinds.Start) (Some r) None t = refl
shown-others (out.Ran outer_kinds.Start) None front t = refl
shown-others _ (Some r) (Some f) t = refl
shown-others _ (Some r) None t = refl
shown-others _ None front t = refl

pub shown-fronts : (o : outer_outcome.Outcome) (rrp : Option ℕ) (front : Option StampedFlit)
    (t : List SenderEntry) →
    entries.taken_fronts ((run_entries o ++ acknowledgement rrp front) ++ t) ≡ entries.taken_fronts
    t
unfolding entries.taken_fronts
shown-fronts (out.Ran outer_kinds.Start) (Some r) (Some f) t = refl
shown-fronts (out.Ran outer_kinds.Start) (Some r) None t = refl
shown-fronts (out.Ran outer_kinds.Start) None front t = refl
shown-fronts _ (Some r) (Some f) t = refl
shown-fronts _ (Some r) None t = refl
shown-fronts _ None front t = refl

pub shown-pointers : (o : outer_outcome.Outcome) (rrp : Option ℕ) (front : Option StampedFlit)
    (t : List SenderEntry) →
    entries.shown_pointer ((run_entries o ++ acknowledgement rrp front)
    ++ t) ≡ entries.shown_pointer t
unfolding entries.shown_pointer
shown-pointers (out.Ran outer_kinds.Start) (Some r) (Some f) t = refl
shown-pointers (out.Ran outer_kinds.Start) (Some r) None t = refl
shown-pointers (out.Ran outer_kinds.Start) None front t = refl
shown-pointers _ (Some r) (Some f) t = refl
shown-pointers _ (Some r) None t = refl
shown-pointers _ None front t = refl

shown-back : (o : outer_outcome.Outcome) (rrp : Option ℕ) (front : Option StampedFlit)
    (t : List SenderEntry) →
    (if is_ran_start o then true else entries.go_back t) ≡ entries.go_back
    ((run_entries o ++ acknowledgement rrp front) ++ t)
unfolding entries.go_back
shown-back (out.Ran outer_kinds.Start) (Some r) (Some f) t = refl
shown-back (out.Ran outer_kinds.Start) (Some r) None t = refl
shown-back (out.Ran outer_kinds.Start) None front t = refl
shown-back _ (Some r) (Some f) t = refl
shown-back _ (Some r) None t = refl
shown-back _ None front t = refl

shown-open : (o : outer_outcome.Outcome) (rrp : Option ℕ) (front : Option StampedFlit)
    (t : List SenderEntry) →
    (if is_ran_start o then true else entries.is_open t) ≡ entries.is_open
    ((run_entries o ++ acknowledgement rrp front) ++ t)
unfolding entries.is_open
shown-open (out.Ran outer_kinds.Start) (Some r) (Some f) t = refl
shown-open (out.Ran outer_kinds.Start) (Some r) None t = refl
shown-open (out.Ran outer_kinds.Start) None front t = refl
shown-open _ (Some r) (Some f) t = refl
shown-open _ (Some r) None t = refl
shown-open _ None front t = refl

pub took-same : (q : Profile) (line retry adv : ℕ) (mine theirs : Lists q) (own oth : Half)
    (ack their_ack missing their_missing : ℕ) (e : Event) (o : outer_outcome.Outcome)
    (rrp : Option ℕ) (front : Option StampedFlit) →
    took (side_of q own mine ack missing) (side_of q oth theirs their_ack their_missing) e
    (is_some rrp) (is_ran_start o)
    ≡ side_of q (other_after own oth (counted_move rrp e)) (lists_shown theirs o rrp front)
    their_ack their_missing
took-same q line retry adv mine theirs own oth ack their_ack missing their_missing e o rrp front =
    λ i. record {
      half = other_after own oth (sym (move-same rrp e) i);
      starts = sym (shown-starts o rrp front theirs.sender) i;
      others = sym (shown-others o rrp front theirs.sender) i;
      go_back = shown-back o rrp front theirs.sender i;
      is_open = shown-open o rrp front theirs.sender i;
      ack_sent = their_ack;
      steady = receipts.training q theirs.receiver;
      missing = their_missing;
      queue = map flits_of (drop (sym (shown-fronts o rrp front theirs.sender) i) theirs.handed);
      buffer = map flits_of (drop theirs.taken (filter is_token
          (receipts.accepted q theirs.receiver)));
    }

-- ---- the step

-- what is known of a landing
pub record IsLandingOf (q : Profile) (mine : Lists q) (mask flit : List ℕ)
    (o : outer_outcome.Outcome) (front : StampedFlit) : Type 0 where
  pub is_front : slice_get (drop mine.landed mine.sent) 0 ≡ Some front
  pub flit_is : flit ≡ under_mask mask front.flit
  pub outcome_is : o ≡ (reception_of q mine.receiver flit).outcome
  pub caught : ((reception_of q mine.receiver flit).checked
      && (mine.changed || changes mask)) ≡ false

spoilt-gathered : (o : outer_outcome.Outcome) (b : Bool) → spoilt_by (outcome_as o) b ≡ true →
    o ≡ out.Gathered
spoilt-gathered out.Gathered b e = refl
spoilt-gathered out.Quiet b e = absurd (cc e)
spoilt-gathered out.Trained b e = absurd (cc e)
spoilt-gathered out.Accepted b e = absurd (cc e)
spoilt-gathered out.Poisoned b e = absurd (cc e)
spoilt-gathered out.Repeat b e = absurd (cc e)
spoilt-gathered (out.AbortedBad bad) b e = absurd (cc e)
spoilt-gathered out.AbortedOrder b e = absurd (cc e)
spoilt-gathered (out.Ran k) b e = absurd (cc e)

train-of : (m : outer_mode.Mode) → mode_as m ≡ inner.training → m ≡ outer_modes.Train
train-of outer_modes.Train e = refl
train-of outer_modes.Abort e = absurd (cc e)
train-of outer_modes.Good e = absurd (cc e)

-- the step of a landing by its lists
abbrev pub lands_step : (q : Profile) → (mine : Lists q) → (mask flit : List ℕ) →
    outer_outcome.Outcome → (missing : ℕ) → Step
lands_step q mine mask flit o missing =
    Step.lands (event_in q mine (changes mask) flit o)
    (is_some (reception_of q mine.receiver flit).rrp) (is_ran_start o)
    (receipts.training q (Land flit o ∷ mine.receiver)) missing
    (map flits_of
    (drop mine.taken (filter is_token (receipts.accepted q (Land flit o ∷ mine.receiver)))))

pub lands-may : (q : Profile) (line retry adv : ℕ) (mine theirs : Lists q) (s : Sent (grammar q))
    (own oth : SideOf (grammar q)) (ack their_ack missing their_missing next_missing : ℕ)
    (mask flit : List ℕ) (o : outer_outcome.Outcome) (front : StampedFlit) → retry ≤ window q →
    Way q retry mine own → Linked (grammar q) s retry adv own oth →
    IsLandingOf q mine mask flit o front →
    SideFacts (setup line retry adv) (side_of q own.half mine ack missing)
    (side_of q oth.half theirs their_ack their_missing) →
    IsFewFirst (receipts.pending mine.receiver) →
    next_missing ≡ lacking (receipts.pending (Land flit o ∷ mine.receiver)) →
    MayMove retry adv own.half oth.half
    (counted_move (reception_of q mine.receiver flit).rrp (event_in q mine (changes mask) flit o)) →
    drained.flits_of
    (map flits_of
    (drop mine.taken (filter is_token (receipts.accepted q (Land flit o ∷ mine.receiver)))))
    ≡ used_tokens
    (own_after own.half oth.half.direction.accepted
    (counted_move (reception_of q mine.receiver flit).rrp
    (event_in q mine (changes mask) flit o))) →
    MayStep (setup line retry adv) (side_of q own.half mine ack missing)
    (side_of q oth.half theirs their_ack their_missing)
    (lands_step q mine mask flit o next_missing)
    × (own_step (setup line retry adv) (side_of q own.half mine ack missing)
    (side_of q oth.half theirs their_ack their_missing)
    (lands_step q mine mask flit o next_missing)
    ≡ side_of q
    (own_after own.half oth.half.direction.accepted
    (counted_move (reception_of q mine.receiver flit).rrp
    (event_in q mine (changes mask) flit o))) (lists_landed mine mask flit o) ack next_missing)
lands-may q line retry adv mine theirs s own oth ack their_ack missing their_missing next_missing
    mask flit o front few is linked l side pending next may fills =
    let g = grammar q in
    let c = changes mask in
    let w = own.half.direction in
    let rrp = (reception_of q mine.receiver flit).rrp in
    let e = event_in q mine c flit o in
    let can = may-land q retry mine own mask flit front is l.is_front l.flit_is l.caught in
    let f = facts g s retry adv own oth c flit few linked can in
    let done = landing_done g s retry adv own oth c flit f in
    let said = mirrored q mine.receiver mine.landings flit is.mirrors in
    let outcome : inner.outcome g own.received flit ≡ outcome_as o =
    (λ i. inner.outcome g (is.received i) flit) ∙ sym said.outcome
    ∙ ap outcome_as (sym l.outcome_is) in
    let pointer : counted g own.received flit ≡ rrp =
    (λ i. counted g (is.received i) flit) ∙ sym said.pointer in
    let event : landing_event g own.received c flit ≡ e =
    landing-event_is q retry mine own c flit o is outcome in
    let lands : way e ≡ ways.lands =
    subst (λ (x : Event). way x ≡ ways.lands) event
    (event_lands (mode g own.received) (c || is_spoilt g own.received) c
    (reading_of (alone q flit)) (inner.outcome g own.received flit)) in
    let facts_are : OutcomeFacts w (outcome_as o) e rrp =
    subst (λ (x : Option ℕ). OutcomeFacts w (outcome_as o) e x) pointer
    (subst (λ (x : Event). OutcomeFacts w (outcome_as o) x (counted g own.received flit)) event
    (subst (λ (x : Outcome g.Bad). OutcomeFacts w x (landing_event g own.received c flit)
    (counted g own.received flit)) outcome
    (outcome_facts g s retry w own.received f.front.0 f.front.1.0 c flit f.front.1.1 done.may))) in
    let after : IsAt g s (happens w e).first (happens w e).far
    (mode g (inner.landed c flit (inner.outcome g own.received flit) ∷ own.received))
    (is_spoilt g (inner.landed c flit (inner.outcome g own.received flit) ∷ own.received))
    (inner.pending g (inner.landed c flit (inner.outcome g own.received flit) ∷ own.received)) =
    subst (λ (x : Event). IsAt g s (happens w x).first (happens w x).far
    (mode g (inner.landed c flit (inner.outcome g own.received flit) ∷ own.received))
    (is_spoilt g (inner.landed c flit (inner.outcome g own.received flit) ∷ own.received))
    (inner.pending g (inner.landed c flit (inner.outcome g own.received flit) ∷ own.received)))
    event done.matches.place in
    let here : MayHere retry adv own.half oth.half e = here_of rrp e may in
    let record_is : Lands (setup line retry adv) (side_of q own.half mine ack missing)
    (side_of q oth.half theirs their_ack their_missing) e (is_some rrp) (is_ran_start o)
    next_missing
    (map flits_of
    (drop mine.taken (filter is_token (receipts.accepted q (Land flit o ∷ mine.receiver))))) =
    record {
      landing = is-landing e lands;
      may = subst (λ (m : moves). MayMove retry adv own.half oth.half m) (move-same rrp e) may;
      proper = facts_are.proper;
      counted = facts_are.counted;
      ended = λ r. facts_are.ended (ran-start o r);
      few = facts_are.few;
      lacks = λ z.
          let spoilt =
          (subst (λ (x : Reached). IsAt g s (happens w e).first x
          (mode g (inner.landed c flit (inner.outcome g own.received flit) ∷ own.received))
          (is_spoilt g (inner.landed c flit (inner.outcome g own.received flit) ∷ own.received))
          (inner.pending g (inner.landed c flit (inner.outcome g own.received flit)
          ∷ own.received))) z after).1 in
          let gathered =
          spoilt-gathered o (c || is_spoilt g own.received)
          (ap (λ (x : Outcome g.Bad). spoilt_by x (c || is_spoilt g own.received)) (sym outcome)
          ∙ spoilt) in
          subst (λ (n : ℕ). (1 ≤ n) × (n ≤ 16)) (sym next)
          (lacks-some q mine.receiver flit o l.outcome_is pending gathered);
      fills = fills ∙ sym (used-same own.half oth.half.direction.accepted e rrp);
    } in (
      (
        record_is,
        λ z.
            let before = (effect retry adv own.half oth.half e here).far z in
            let train =
            (subst (λ (x : Reached). IsAt g s w.first x (mode g own.received)
            (is_spoilt g own.received) (inner.pending g own.received)) before
            linked.matches.place).0 in
            trained-few q mine.receiver flit o l.outcome_is
            (train-of (receipts.mode mine.receiver) (is.mirrors.mode ∙ ap (mode g) (sym is.received)
            ∙ train)) (side.steady before),
      ),
      λ i. record {
        half = half-landed own.half oth.half.direction.accepted e rrp lands i;
        starts = entries.starts mine.sender;
        others = entries.others mine.sender;
        go_back = entries.go_back mine.sender;
        is_open = entries.is_open mine.sender;
        ack_sent = ack;
        steady = receipts.training q (Land flit o ∷ mine.receiver);
        missing = next_missing;
        queue = map flits_of (drop (entries.taken_fronts mine.sender) mine.handed);
        buffer =
            map flits_of
            (drop mine.taken (filter is_token (receipts.accepted q (Land flit o ∷ mine.receiver))));
      },
    )
  where
    here_of : (rrp : Option ℕ) (e : Event) →
        MayMove retry adv own.half oth.half (counted_move rrp e) →
        MayHere retry adv own.half oth.half e
    here_of None e m = m
    here_of (Some r) e m = m.0

    used-same : (h : Half) (n : ℕ) (e : Event) (rrp : Option ℕ) →
        used_tokens (event_at h 0 e) ≡ used_tokens (own_after h n (counted_move rrp e))
    used-same h n e None = refl
    used-same h n e (Some r) = refl
