-- Each entry of a kept list is a step by numbers, by induction over the list.
use Rattle.std.proofs.Common.{◌≡◌, ◌∙◌, ℕ, true, false, List, [], ◌∷◌, length, refl, sym, ap, subst, arith}
use Rattle.std.specs.Prelude.{nat_lt, nat_le, slice_get}
use Rattle.std.proofs.lemmas.Grind.{common_steps}
use Rattle.std.proofs.lemmas.List.{length-map}
use Rattle.hmc_codes.specs.Link.{LinkFields}
use Rattle.hmc_packet.specs.declared.feed.Feed.{Feed}
use Rattle.hmc_packet.specs.declared.outcome.Outcome.{Outcome}
use Rattle.hmc_packet.specs.declared.what.What.{What}
use Rattle.hmc_packet.specs.Landings as receipts
use Rattle.hmc_packet.specs.Packet.{PacketFields, flits_of}
use Rattle.hmc_packet.specs.Receptions.{reception_of}
use Rattle.hmc_packet.proofs.PacketLemmas.{flits_of-few}
use Rattle.hmc_send.specs.declared.toward.Toward.{Toward}
use Rattle.hmc_send.specs.declared.toward.Toward.TheVariants.{Forth, Back}
use Rattle.hmc_send.specs.Entries as entries
use Rattle.hmc_send.specs.LinkEntries.{LinkEntry, LinkEntry as entry, other, receiver_entries, handed_packets, takes}
use Rattle.hmc_send.specs.LinkLines.{StampedFlit, line, sent_flits, landings, is_pending_changed, passes}
use Rattle.hmc_send.specs.LinkSenders.{sender_entries, given_after}
use Rattle.hmc_send.proofs.LinkLawful.{lawful-sent, lawful-landed}
use Rattle.hmc_wire.specs.Conditions.{AreHanded}
use Rattle.hmc_wire.specs.EntryTurns.{turns_of, taken_in}
use Rattle.hmc_wire.specs.FieldsAre.{half_after}
use Rattle.hmc_wire.specs.LinkLaws.{IsKept}
use Rattle.hmc_wire.proofs.EntryTurns.{kept-before, turns-may}
use Rattle.hmc_wire.proofs.Steps.{landings_on}
use Rattle.hmc_wire.proofs.Ways.{lists_in}
use Rattle.hmc_link_state.specs.Facts.{SideFacts}
use Rattle.hmc_link_state.specs.Steps.{Step, Doing, Link, MayStep, own_step, other_step, MayDoing, MayAll, link_after}
use Rattle.hmc_link_state.proofs.Keeps.{Both}
use Rattle.hmc_link_state.proofs.StepFacts.{facts_after}
use Rattle.hmc_steps.specs.Doings.{doings_of, landing_step, AreWhole, AreSteps}
use Rattle.hmc_steps.specs.SideIn.{setup_of, side_in, link_in, ack_sent_in, missing_in, buffer_flits}
use Rattle.hmc_steps.proofs.Along.{Shown, fed-of, shown-forth, shown-back, few-forth, few-back, fronts-forth, fronts-back}
use Rattle.hmc_steps.proofs.LandStep.{lands-may, took-same, buffer-used}
use Rattle.hmc_steps.proofs.Quiet.{handed-same, taken-may, taken-same, unlocked-same}
use Rattle.hmc_steps.proofs.Sends.{sent-same}
use Rattle.hmc_steps.proofs.Sides.{Here}
use Rattle.hmc_steps.proofs.Wired.{Wired, wired, side_with}

-- An entry is a step in a direction: it may come, and leads to what the list with it says.
pub record StepFits (link : LinkFields) (past : List LinkEntry) (e : LinkEntry) (d : Toward)
    (step : Step) : Type 0 where
  pub may : MayStep (setup_of link) (side_in link d past) (side_in link (other d) past) step
  pub own : own_step (setup_of link) (side_in link d past) (side_in link (other d) past)
      step ≡ side_in link d (e ∷ past)
  pub other_is : other_step (side_in link d past) (side_in link (other d) past) step ≡ side_in link
      (other d) (e ∷ past)

-- what is known of a direction after a list
pub here : (link : LinkFields) (d : Toward) (past : List LinkEntry) → IsKept link past →
    Shown link d past → (w : Wired link d past) →
    Here link.profile link.retry link.tokens (lists_in link d past) (lists_in link (other d) past)
    (side_with link.profile (half_after link d past) w.flits w.received)
    (side_with link.profile (half_after link (other d) past) w.other_flits w.other_received)
    (ack_sent_in link d past)
here link d past kept shown w = record {
  s = w.s;
  t = w.t;
  way = w.way;
  other_way = w.other_way;
  linked = w.linked;
  other_linked = w.other_linked;
  agree = w.agree;
  other_agree = w.other_agree;
  fed = fed-of link d past kept;
  shown = shown.shown;
}

not-full : (n m : ℕ) → nat_le n m ≡ false → nat_lt m n ≡ true
not-full n m e = grind (arith, common_steps)

-- the line by numbers is as long as that of the list
pub line-long : (link : LinkFields) (d : Toward) (past : List LinkEntry) → Wired link d past →
    length (half_after link d past).direction.line ≡ length (line link.profile d past)
unfolding line
line-long link d past w =
    sym w.linked.joined.stamped ∙ ap (λ (l : List ℕ). length l) w.way.stamps
    ∙ length-map _ (λ (x : StampedFlit). x.stamp)

-- Forth

sent-fits_forth : (link : LinkFields) (past : List LinkEntry) (feed : Feed) (w : What)
    (flit : List ℕ) → IsKept link (entry.sent Forth feed w flit ∷ past) →
    SideFacts (setup_of link) (side_in link Forth past) (side_in link Back past) →
    SideFacts (setup_of link) (side_in link Back past) (side_in link Forth past) →
    StepFits link past (entry.sent Forth feed w flit) Forth Step.sends
unfolding sender_entries receiver_entries sent_flits landings landings_on takes handed_packets is_pending_changed turns_of ack_sent_in missing_in given_after
sent-fits_forth link past feed w flit kept f g =
    let before = kept-before link (entry.sent Forth feed w flit) past kept in
    let x = wired link Forth past before in
    let is = lawful-sent link past Forth feed w flit kept.lawful in
    let room =
    ap (λ (n : ℕ). nat_lt n link.line) (line-long link Forth past x)
    ∙ not-full link.line (length (line link.profile Forth past)) is.has_room in
    record {
      may = tt;
      own =
          sent-same link.profile link.line link.retry link.tokens (lists_in link Forth past)
          (lists_in link Back past)
          (side_with link.profile (half_after link Forth past) x.flits x.received)
          (side_with link.profile (half_after link Back past) x.other_flits x.other_received)
          (ack_sent_in link Forth past) (ack_sent_in link Back past) (missing_in Forth past)
          (missing_in Back past) feed w flit kept.retry
          (here link Forth past before (shown-forth link past before) x) f g room
          (fed-of link Forth (entry.sent Forth feed w flit ∷ past) kept) is.chosen;
      other_is = refl;
    }

landed-fits_forth : (link : LinkFields) (past : List LinkEntry) (mask flit : List ℕ) (o : Outcome) →
    IsKept link (entry.landed Forth mask flit o ∷ past) →
    SideFacts (setup_of link) (side_in link Forth past) (side_in link Back past) →
    StepFits link past (entry.landed Forth mask flit o) Forth
    (landing_step link Forth past mask flit o)
unfolding sender_entries receiver_entries sent_flits landings landings_on takes handed_packets is_pending_changed turns_of ack_sent_in missing_in line passes
landed-fits_forth link past mask flit o kept f =
    let q = link.profile in
    let e = entry.landed Forth mask flit o in
    let before = kept-before link e past kept in
    let x = wired link Forth past before in
    let y = wired link Forth (e ∷ past) kept in
    let is = lawful-landed link past Forth mask flit o kept.lawful in
    let fills =
    buffer-used q link.retry link.tokens (lists_in link Forth (e ∷ past)) y.s
    (side_with q (half_after link Forth (e ∷ past)) y.flits y.received)
    (side_with q (half_after link Back (e ∷ past)) y.other_flits y.other_received) y.way
    y.linked y.agree in
    let done =
    lands-may q link.line link.retry link.tokens (lists_in link Forth past)
    (lists_in link Back past) x.s (side_with q (half_after link Forth past) x.flits x.received)
    (side_with q (half_after link Back past) x.other_flits x.other_received)
    (ack_sent_in link Forth past) (ack_sent_in link Back past) (missing_in Forth past)
    (missing_in Back past) (missing_in Forth (e ∷ past)) mask flit o is.front kept.retry x.way
    x.linked
    (record {
      is_front = is.is_front;
      flit_is = is.flit_is;
      outcome_is = is.outcome_is;
      caught =
          is.caught;
    }) f (few-forth link past before) refl (turns-may link (e ∷ past) kept).0 fills in
    record {
      may = done.0;
      own = done.1;
      other_is =
          took-same q link.line link.retry link.tokens (lists_in link Forth past)
          (lists_in link Back past) (half_after link Forth past) (half_after link Back past)
          (ack_sent_in link Forth past) (ack_sent_in link Back past) (missing_in Forth past)
          (missing_in Back past) _ o
          (reception_of q (receiver_entries Forth past) flit).rrp (slice_get (line q Forth past) 0);
    }

taken-fits_forth : (link : LinkFields) (past : List LinkEntry) →
    IsKept link (entry.taken Forth ∷ past) →
    StepFits link past (entry.taken Forth) Forth
    (Step.leaves (taken_in link.profile Forth (entry.taken Forth ∷ past))
    (buffer_flits link.profile Forth (entry.taken Forth ∷ past)))
unfolding sender_entries receiver_entries sent_flits landings landings_on takes handed_packets is_pending_changed turns_of ack_sent_in missing_in
taken-fits_forth link past kept =
    let q = link.profile in
    let x = wired link Forth past (kept-before link (entry.taken Forth) past kept) in
    record {
      may =
          taken-may q link.retry link.line link.tokens (lists_in link Forth past)
          (side_with q (half_after link Forth past) x.flits x.received) (side_in link Back past)
          (ack_sent_in link Forth past) (missing_in Forth past) x.way;
      own =
          taken-same q link.retry link.line link.tokens (lists_in link Forth past)
          (side_with q (half_after link Forth past) x.flits x.received) (side_in link Back past)
          (ack_sent_in link Forth past) (missing_in Forth past)
          (half_after link Back past).direction.accepted x.way;
      other_is = refl;
    }

handed-fits_forth : (link : LinkFields) (past : List LinkEntry) (packet : PacketFields) →
    IsKept link (entry.handed Forth packet ∷ past) →
    StepFits link past (entry.handed Forth packet) Forth (Step.queues (flits_of packet))
unfolding sender_entries receiver_entries sent_flits landings landings_on takes handed_packets is_pending_changed turns_of ack_sent_in missing_in AreHanded
handed-fits_forth link past packet kept =
    let before = kept-before link (entry.handed Forth packet) past kept in
    let few = flits_of-few packet kept.met.handed.0.packet_is in
    record {
      may = (omega arith, omega arith);
      own =
          handed-same link.profile link.line link.retry link.tokens (lists_in link Forth past)
          (half_after link Forth past) (side_in link Back past) (ack_sent_in link Forth past)
          (missing_in Forth past) packet (fronts-forth link past before);
      other_is = refl;
    }

unlocked-fits_forth : (link : LinkFields) (past : List LinkEntry) →
    StepFits link past (entry.unlocked Forth) Forth Step.unlocks
unfolding sender_entries receiver_entries sent_flits landings landings_on takes handed_packets is_pending_changed turns_of ack_sent_in missing_in
unlocked-fits_forth link past = record {
  may = tt;
  own =
      unlocked-same link.profile link.line link.retry link.tokens (lists_in link Forth past)
      (half_after link Forth past) (side_in link Back past) (ack_sent_in link Forth past)
      (missing_in Forth past) (half_after link Back past).direction.accepted;
  other_is = refl;
}

-- Back

sent-fits_back : (link : LinkFields) (past : List LinkEntry) (feed : Feed) (w : What)
    (flit : List ℕ) → IsKept link (entry.sent Back feed w flit ∷ past) →
    SideFacts (setup_of link) (side_in link Back past) (side_in link Forth past) →
    SideFacts (setup_of link) (side_in link Forth past) (side_in link Back past) →
    StepFits link past (entry.sent Back feed w flit) Back Step.sends
unfolding sender_entries receiver_entries sent_flits landings landings_on takes handed_packets is_pending_changed turns_of ack_sent_in missing_in given_after
sent-fits_back link past feed w flit kept f g =
    let before = kept-before link (entry.sent Back feed w flit) past kept in
    let x = wired link Back past before in
    let is = lawful-sent link past Back feed w flit kept.lawful in
    let room =
    ap (λ (n : ℕ). nat_lt n link.line) (line-long link Back past x)
    ∙ not-full link.line (length (line link.profile Back past)) is.has_room in
    record {
      may = tt;
      own =
          sent-same link.profile link.line link.retry link.tokens (lists_in link Back past)
          (lists_in link Forth past)
          (side_with link.profile (half_after link Back past) x.flits x.received)
          (side_with link.profile (half_after link Forth past) x.other_flits x.other_received)
          (ack_sent_in link Back past) (ack_sent_in link Forth past) (missing_in Back past)
          (missing_in Forth past) feed w flit kept.retry
          (here link Back past before (shown-back link past before) x) f g room
          (fed-of link Back (entry.sent Back feed w flit ∷ past) kept) is.chosen;
      other_is = refl;
    }

landed-fits_back : (link : LinkFields) (past : List LinkEntry) (mask flit : List ℕ) (o : Outcome) →
    IsKept link (entry.landed Back mask flit o ∷ past) →
    SideFacts (setup_of link) (side_in link Back past) (side_in link Forth past) →
    StepFits link past (entry.landed Back mask flit o) Back
    (landing_step link Back past mask flit o)
unfolding sender_entries receiver_entries sent_flits landings landings_on takes handed_packets is_pending_changed turns_of ack_sent_in missing_in line passes
landed-fits_back link past mask flit o kept f =
    let q = link.profile in
    let e = entry.landed Back mask flit o in
    let before = kept-before link e past kept in
    let x = wired link Back past before in
    let y = wired link Back (e ∷ past) kept in
    let is = lawful-landed link past Back mask flit o kept.lawful in
    let fills =
    buffer-used q link.retry link.tokens (lists_in link Back (e ∷ past)) y.s
    (side_with q (half_after link Back (e ∷ past)) y.flits y.received)
    (side_with q (half_after link Forth (e ∷ past)) y.other_flits y.other_received) y.way
    y.linked y.agree in
    let done =
    lands-may q link.line link.retry link.tokens (lists_in link Back past)
    (lists_in link Forth past) x.s (side_with q (half_after link Back past) x.flits x.received)
    (side_with q (half_after link Forth past) x.other_flits x.other_received)
    (ack_sent_in link Back past) (ack_sent_in link Forth past) (missing_in Back past)
    (missing_in Forth past) (missing_in Back (e ∷ past)) mask flit o is.front kept.retry x.way
    x.linked
    (record {
      is_front = is.is_front;
      flit_is = is.flit_is;
      outcome_is = is.outcome_is;
      caught =
          is.caught;
    }) f (few-back link past before) refl (turns-may link (e ∷ past) kept).0 fills in
    record {
      may = done.0;
      own = done.1;
      other_is =
          took-same q link.line link.retry link.tokens (lists_in link Back past)
          (lists_in link Forth past) (half_after link Back past) (half_after link Forth past)
          (ack_sent_in link Back past) (ack_sent_in link Forth past) (missing_in Back past)
          (missing_in Forth past) _ o
          (reception_of q (receiver_entries Back past) flit).rrp (slice_get (line q Back past) 0);
    }

taken-fits_back : (link : LinkFields) (past : List LinkEntry) →
    IsKept link (entry.taken Back ∷ past) →
    StepFits link past (entry.taken Back) Back
    (Step.leaves (taken_in link.profile Back (entry.taken Back ∷ past))
    (buffer_flits link.profile Back (entry.taken Back ∷ past)))
unfolding sender_entries receiver_entries sent_flits landings landings_on takes handed_packets is_pending_changed turns_of ack_sent_in missing_in
taken-fits_back link past kept =
    let q = link.profile in
    let x = wired link Back past (kept-before link (entry.taken Back) past kept) in
    record {
      may =
          taken-may q link.retry link.line link.tokens (lists_in link Back past)
          (side_with q (half_after link Back past) x.flits x.received) (side_in link Forth past)
          (ack_sent_in link Back past) (missing_in Back past) x.way;
      own =
          taken-same q link.retry link.line link.tokens (lists_in link Back past)
          (side_with q (half_after link Back past) x.flits x.received) (side_in link Forth past)
          (ack_sent_in link Back past) (missing_in Back past)
          (half_after link Forth past).direction.accepted x.way;
      other_is = refl;
    }

handed-fits_back : (link : LinkFields) (past : List LinkEntry) (packet : PacketFields) →
    IsKept link (entry.handed Back packet ∷ past) →
    StepFits link past (entry.handed Back packet) Back (Step.queues (flits_of packet))
unfolding sender_entries receiver_entries sent_flits landings landings_on takes handed_packets is_pending_changed turns_of ack_sent_in missing_in AreHanded
handed-fits_back link past packet kept =
    let before = kept-before link (entry.handed Back packet) past kept in
    let few = flits_of-few packet kept.met.handed.0.packet_is in
    record {
      may = (omega arith, omega arith);
      own =
          handed-same link.profile link.line link.retry link.tokens (lists_in link Back past)
          (half_after link Back past) (side_in link Forth past) (ack_sent_in link Back past)
          (missing_in Back past) packet (fronts-back link past before);
      other_is = refl;
    }

unlocked-fits_back : (link : LinkFields) (past : List LinkEntry) →
    StepFits link past (entry.unlocked Back) Back Step.unlocks
unfolding sender_entries receiver_entries sent_flits landings landings_on takes handed_packets is_pending_changed turns_of ack_sent_in missing_in
unlocked-fits_back link past = record {
  may = tt;
  own =
      unlocked-same link.profile link.line link.retry link.tokens (lists_in link Back past)
      (half_after link Back past) (side_in link Forth past) (ack_sent_in link Back past)
      (missing_in Back past) (half_after link Forth past).direction.accepted;
  other_is = refl;
}

-- One step more

pub side-facts : (link : LinkFields) (past : List LinkEntry) → IsKept link past →
    AreSteps link past → Both (setup_of link) (side_in link Forth past) (side_in link Back past)
side-facts link past kept is =
    subst (λ (l : Link). Both (setup_of link) l.forth l.back) is.leads
    (facts_after link.profile (setup_of link) kept.retry (doings_of link past) is.may)

pub record Leads (link : LinkFields) (past : List LinkEntry) (e : LinkEntry) (x : Doing) :
    Type 0 where
  pub may : MayAll (setup_of link) (x ∷ doings_of link past)
  pub leads : link_after (setup_of link) (x ∷ doings_of link past) ≡ link_in link (e ∷ past)

leads-forth : (link : LinkFields) (past : List LinkEntry) (e : LinkEntry) (step : Step) →
    AreSteps link past → StepFits link past e Forth step → Leads link past e (Doing.forth step)
leads-forth link past e step is fits =
    let c = setup_of link in
    record {
      may = (subst (λ (l : Link). MayDoing c l (Doing.forth step)) (sym is.leads) fits.may, is.may);
      leads =
          ap (λ (l : Link). record {
            forth = own_step c l.forth l.back step;
            back =
                other_step l.forth l.back step;
          }) is.leads ∙ (λ i. record {
            forth =
                fits.own i;
            back = fits.other_is i;
          });
    }

leads-back : (link : LinkFields) (past : List LinkEntry) (e : LinkEntry) (step : Step) →
    AreSteps link past → StepFits link past e Back step → Leads link past e (Doing.back step)
leads-back link past e step is fits =
    let c = setup_of link in
    record {
      may = (subst (λ (l : Link). MayDoing c l (Doing.back step)) (sym is.leads) fits.may, is.may);
      leads =
          ap (λ (l : Link). record {
            forth = other_step l.back l.forth step;
            back =
                own_step c l.back l.forth step;
          }) is.leads ∙ (λ i. record {
            forth =
                fits.other_is i;
            back = fits.own i;
          });
    }

none-steps : (link : LinkFields) → AreSteps link []
unfolding sender_entries receiver_entries sent_flits landings landings_on takes handed_packets is_pending_changed turns_of ack_sent_in missing_in doings_of entries.starts entries.others entries.go_back entries.is_open entries.taken_fronts receipts.training receipts.accepted
none-steps link = record { may = tt; leads = refl }

pub steps-are : (link : LinkFields) (past : List LinkEntry) → IsKept link past → AreWhole past →
    AreSteps link past
unfolding doings_of AreWhole
steps-are link [] kept whole = none-steps link
steps-are link (entry.handed Forth packet ∷ past) kept whole =
    let before = kept-before link (entry.handed Forth packet) past kept in
    let is = steps-are link past before whole in
    let next =
    leads-forth link past (entry.handed Forth packet) _ is
    (handed-fits_forth link past packet kept) in
    record { may = next.may; leads = next.leads }
steps-are link (entry.taken Forth ∷ past) kept whole =
    let before = kept-before link (entry.taken Forth) past kept in
    let is = steps-are link past before whole in
    let next = leads-forth link past (entry.taken Forth) _ is (taken-fits_forth link past kept) in
    record { may = next.may; leads = next.leads }
steps-are link (entry.sent Forth feed w flit ∷ past) kept whole =
    let before = kept-before link (entry.sent Forth feed w flit) past kept in
    let is = steps-are link past before whole in
    let f = side-facts link past before is in
    let next =
    leads-forth link past (entry.sent Forth feed w flit) _ is
    (sent-fits_forth link past feed w flit kept f.0 f.1) in
    record { may = next.may; leads = next.leads }
steps-are link (entry.landed Forth mask flit o ∷ past) kept whole =
    let before = kept-before link (entry.landed Forth mask flit o) past kept in
    let is = steps-are link past before whole in
    let f = side-facts link past before is in
    let next =
    leads-forth link past (entry.landed Forth mask flit o) _ is
    (landed-fits_forth link past mask flit o kept f.0) in
    record { may = next.may; leads = next.leads }
steps-are link (entry.unlocked Forth ∷ past) kept whole =
    let before = kept-before link (entry.unlocked Forth) past kept in
    let is = steps-are link past before whole in
    let next = leads-forth link past (entry.unlocked Forth) _ is (unlocked-fits_forth link past) in
    record { may = next.may; leads = next.leads }
steps-are link (entry.handed Back packet ∷ past) kept whole =
    let before = kept-before link (entry.handed Back packet) past kept in
    let is = steps-are link past before whole in
    let next =
    leads-back link past (entry.handed Back packet) _ is
    (handed-fits_back link past packet kept) in
    record { may = next.may; leads = next.leads }
steps-are link (entry.taken Back ∷ past) kept whole =
    let before = kept-before link (entry.taken Back) past kept in
    let is = steps-are link past before whole in
    let next = leads-back link past (entry.taken Back) _ is (taken-fits_back link past kept) in
    record { may = next.may; leads = next.leads }
steps-are link (entry.sent Back feed w flit ∷ past) kept whole =
    let before = kept-before link (entry.sent Back feed w flit) past kept in
    let is = steps-are link past before whole in
    let f = side-facts link past before is in
    let next =
    leads-back link past (entry.sent Back feed w flit) _ is
    (sent-fits_back link past feed w flit kept f.1 f.0) in
    record { may = next.may; leads = next.leads }
steps-are link (entry.landed Back mask flit o ∷ past) kept whole =
    let before = kept-before link (entry.landed Back mask flit o) past kept in
    let is = steps-are link past before whole in
    let f = side-facts link past before is in
    let next =
    leads-back link past (entry.landed Back mask flit o) _ is
    (landed-fits_back link past mask flit o kept f.1) in
    record { may = next.may; leads = next.leads }
steps-are link (entry.unlocked Back ∷ past) kept whole =
    let before = kept-before link (entry.unlocked Back) past kept in
    let is = steps-are link past before whole in
    let next = leads-back link past (entry.unlocked Back) _ is (unlocked-fits_back link past) in
    record { may = next.may; leads = next.leads }
steps-are link (entry.through v head flits ∷ past) kept whole = absurd whole
