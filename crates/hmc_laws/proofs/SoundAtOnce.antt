-- A packet that is forwarded and accepted leaves its buffer at once: the buffer held it, and it is
-- good.
use Rattle.std.proofs.Common.{◌≡◌, ◌<◌, ◌/◌, ◌==◌, ◌∙◌, ℕ, Bool, true, false, Option, Some, None, List, [], ◌∷◌, All, length, refl, sym, ap, subst, arith, lt-ltb, eqb-true, eq-eqb, ◌++◌, length-append}
use Rattle.std.specs.Prelude.{filter}
use Rattle.std.proofs.lemmas.List.Elements.{filter-append}
use Rattle.hmc_packet.specs.Packet.{PacketFields}
use Rattle.hmc_schedule.specs.Plan.{HasFlit}
use Rattle.hmc_entries.specs.declared.entry.Entry.{Entry}
use Rattle.hmc_entries.specs.declared.entry.Entry.TheVariants.{Landed}
use Rattle.hmc_journal.specs.Setup.{Setup, directions_in}
use Rattle.hmc_packet.specs.declared.outcome.Outcome.{Outcome}
use Rattle.hmc_send.specs.declared.toward.Toward.{Toward}
use Rattle.hmc_send.specs.LinkCalls.{holds_packet}
use Rattle.hmc_codes.specs.Flit.{IsFlit}
use Rattle.hmc_send.specs.LinkEntries.{LinkEntry, put_if, accepted_packets, takes}
use Rattle.hmc_send.specs.Places.{is_token}
use Rattle.hmc_wire.specs.LinkLaws.{IsKept}
use Rattle.hmc_journal.specs.Directions.{receiver_of, accepted, landed_packets}
use Rattle.hmc_journal.specs.Links.{toward, landing_mask, link_sizes, link_entries, sizes_on, entries_on, taken_if}
use Rattle.hmc_journal.specs.Queues.QueueId.{Output}
use Rattle.hmc_journal.proofs.LinkKept.{landing-flit, kept-taken}
use Rattle.hmc_journal.proofs.Projections.{goes_at}
use Rattle.hmc_journal.proofs.EntryRule.{HasLanded}
use Rattle.hmc_laws.proofs.Standing.{all_get, Stands}
use Rattle.hmc_laws.proofs.Entering.{Kept, accepted_are, landed-real, kept_landing, accepted-landed, landed_on_link, landed_stands}
use Rattle.hmc_laws.proofs.Wired.{Wired}
use Rattle.hmc_laws.proofs.ForwardingLandings.{LandsGood}
use Rattle.hmc_laws.proofs.GoodLandings.{landed_outcome, lands_one, one_good}
use Rattle.hmc_journal.specs.Piped.{goes_on, forwarded_onto}
use Rattle.hmc_packet.specs.Receptions.{reception_of}
use Rattle.hmc_schedule.specs.declared.step.Step.TheVariants as steps
use Rattle.hmc_packet.specs.declared.outcome.Outcome.TheVariants as outcomes
use Rattle.hmc_laws.proofs.SoundTakes.{landed-kept}

takes_landed : (d way : Toward) (mask flit : List ℕ) (outcome : Outcome) (past : List LinkEntry) →
    takes d (LinkEntry.landed way mask flit outcome ∷ past) ≡ takes d past
unfolding takes
takes_landed d way mask flit outcome past = refl

-- ---- what leaves at once

pub gone_onto : (outcome : Outcome) (onto : Option ℕ) → goes_on outcome onto ≡ true → (to : ℕ)
    × (onto ≡ Some to) × (outcome ≡ outcomes.Accepted)
gone_onto outcomes.Accepted (Some to) is = (to, refl, refl)
gone_onto outcomes.Accepted None is = absurd cc
gone_onto outcomes.Gathered onto is = absurd cc
gone_onto outcomes.Quiet onto is = absurd cc
gone_onto outcomes.Trained onto is = absurd cc
gone_onto outcomes.Poisoned onto is = absurd cc
gone_onto outcomes.Repeat onto is = absurd cc
gone_onto (outcomes.AbortedBad bad) onto is = absurd cc
gone_onto outcomes.AbortedOrder onto is = absurd cc
gone_onto (outcomes.Ran kind) onto is = absurd cc

-- what lands is a flit
pub landed_flit : (setup : Setup) (past : List Entry) (d : ℕ) (flit : List ℕ) (outcome : Outcome) →
    HasLanded setup past d flit outcome → Kept setup past → IsFlit flit
landed_flit setup past d flit outcome right kept =
    let mask : HasFlit (steps.Land d right.mask) =
    all_get HasFlit setup.schedule (length past) (steps.Land d right.mask) kept.masks
    right.step in
    landing-flit (sizes_on setup.topology d) (entries_on setup.topology d past) (toward d)
    right.mask flit outcome (kept.links (d / 2)) mask.long mask.bytes right.landing

pub one_lands : (setup : Setup) (past : List Entry) (d : ℕ) (flit : List ℕ) (outcome : Outcome) →
    HasLanded setup past d flit outcome → Kept setup past → d < directions_in setup.topology →
    goes_at setup.topology d outcome past ≡ true
    → (packet : PacketFields) × (filter is_token (landed_packets setup.topology d flit outcome past)
    ≡ packet ∷ [])
one_lands setup past d flit outcome right kept less gone =
    let went = gone_onto outcome (forwarded_onto setup.topology d past) gone in
    let one =
    lands_one setup past d went.0 flit (landed_outcome setup past d flit outcome right ∙ went.2)
    (landed_flit setup past d flit outcome right kept) kept.pendings kept.piped kept.forwarding
    less went.1 in (
      one.packet,
      subst (λ (o : Outcome). filter is_token
          (landed_packets setup.topology d flit o past) ≡ one.packet ∷ []) (sym went.2) one.is,
    )

pub lands_good : (setup : Setup) (past : List Entry) (d : ℕ) (flit : List ℕ) (outcome : Outcome) →
    HasLanded setup past d flit outcome → Kept setup past → d < directions_in setup.topology →
    LandsGood setup.topology past d flit outcome
lands_good setup past d flit outcome right kept less to accepted forwarded =
    one_good setup past d flit (lands_one setup past d to flit
    (landed_outcome setup past d flit outcome right ∙ accepted)
    (landed_flit setup past d flit outcome right kept) kept.pendings kept.piped kept.forwarding
    less forwarded)
    (subst (λ (o : Outcome). All (Stands setup.topology (Output d))
    (filter is_token (landed_packets setup.topology d flit o past))) accepted
    (landed_stands setup d past flit outcome right kept))

-- the buffer holds what leaves at once
pub holds_accepted : (setup : Setup) (past : List Entry) (d onto : ℕ) (mask flit : List ℕ) →
    IsFlit flit → (reception_of (sizes_on setup.topology d).profile (receiver_of d past)
    flit).outcome ≡ outcomes.Accepted → Kept setup past → d < directions_in setup.topology
    → forwarded_onto setup.topology d past ≡ Some onto →
    holds_packet (sizes_on setup.topology d) (toward d)
    (LinkEntry.landed (toward d) mask flit outcomes.Accepted ∷ entries_on setup.topology d past)
    ≡ true
holds_accepted setup past d onto mask flit is_flit accepts kept less forwarded =
    let sizes = sizes_on setup.topology d in
    let before = entries_on setup.topology d past in
    let inside = (kept.ends d less).inside in
    let one =
    lands_one setup past d onto flit accepts is_flit kept.pendings kept.piped kept.forwarding
    less forwarded in
    let parts =
    ap (filter is_token) (accepted-landed sizes.profile (toward d) mask flit outcomes.Accepted
    before) ∙ filter-append is_token (accepted_packets sizes.profile (toward d) before) _
    ∙ ap (λ l. filter is_token (accepted_packets sizes.profile (toward d) before)
    ++ filter is_token l) (sym (landed_on_link setup.topology d past flit outcomes.Accepted)) in
    let many =
    ap length parts ∙ length-append (filter is_token
    (accepted_packets sizes.profile (toward d) before))
    (filter is_token (landed_packets setup.topology d flit outcomes.Accepted past)) in
    let last : length (filter is_token (landed_packets setup.topology d flit outcomes.Accepted
    past)) ≡ 1 = ap length one.is in
    let same : length (filter is_token (accepted setup.topology d past))
    ≡ length (filter is_token (accepted_packets sizes.profile (toward d) before)) =
    ap (λ l. length (filter is_token l)) (accepted_are setup.topology d past) in
    let took = takes_landed (toward d) (toward d) mask flit outcomes.Accepted before in
    lt-ltb _ _ (omega arith)

holds_landed : (setup : Setup) (past : List Entry) (d : ℕ) (flit : List ℕ) (outcome : Outcome) →
    HasLanded setup past d flit outcome → Kept setup past → goes_at setup.topology d outcome past
    ≡ true
    → holds_packet (sizes_on setup.topology d) (toward d)
    (LinkEntry.landed (toward d) (landing_mask (sizes_on setup.topology d) (toward d)
    (entries_on setup.topology d past) flit) flit outcome ∷ entries_on setup.topology d past)
    ≡ true
holds_landed setup past d flit outcome right kept gone =
    let went = gone_onto outcome (forwarded_onto setup.topology d past) gone in
    let mask =
    landing_mask (sizes_on setup.topology d) (toward d) (entries_on setup.topology d past)
    flit in
    subst (λ (o : Outcome). holds_packet (sizes_on setup.topology d) (toward d)
    (LinkEntry.landed (toward d) mask flit o ∷ entries_on setup.topology d past) ≡ true)
    (sym went.2)
    (holds_accepted setup past d went.0 mask flit (landed_flit setup past d flit outcome right kept)
    (landed_outcome setup past d flit outcome right ∙ went.2) kept
    (landed-real setup past d flit outcome right kept) went.1)

pub taken-landed : (setup : Setup) (past : List Entry) (d : ℕ) (flit : List ℕ) (outcome : Outcome)
    (link : ℕ) → Wired setup.topology → HasLanded setup past d flit outcome → Kept setup past
    → IsKept (link_sizes setup.topology link)
    (link_entries setup.topology link (Landed d flit outcome ∷ past))
unfolding link_entries
taken-landed setup past d flit outcome link wires right kept =
    by_gone (goes_at setup.topology d outcome past) refl (d / 2 == link) refl
  where
    entry : ℕ → LinkEntry
    entry i =
        LinkEntry.landed (toward d) (landing_mask (link_sizes setup.topology i) (toward d)
        (link_entries setup.topology i past) flit) flit outcome

    by_gone : (gone : Bool) → goes_at setup.topology d outcome past ≡ gone → (here : Bool) →
        (d / 2 == link) ≡ here
        → IsKept (link_sizes setup.topology link)
        (taken_if gone link d (put_if (d / 2 == link)
        (LinkEntry.landed (toward d) (landing_mask (link_sizes setup.topology link) (toward d)
        (link_entries setup.topology link past) flit) flit outcome)
        (link_entries setup.topology link past)))
    by_gone false is here at =
        landed-kept setup past d flit outcome link right kept (d / 2 == link) refl
    by_gone true is false at = rw at (kept.links link)
    by_gone true is true at =
        subst (λ (i : ℕ). IsKept (link_sizes setup.topology i)
        (put_if (d / 2 == i) (LinkEntry.taken (toward d))
        (put_if (d / 2 == i) (LinkEntry.landed (toward d)
        (landing_mask (link_sizes setup.topology i) (toward d)
        (link_entries setup.topology i past) flit) flit outcome)
        (link_entries setup.topology i past))))
        (eqb-true (d / 2) link at)
        (rw (eq-eqb (d / 2) (d / 2) refl) (kept-taken (sizes_on setup.topology d) _ (toward d)
        (kept_landing setup d past flit outcome right kept)
        (holds_landed setup past d flit outcome right kept is)))
