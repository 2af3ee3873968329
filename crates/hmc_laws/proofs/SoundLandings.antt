-- The buffer of a direction holds what landed and was not taken: landings.
use Rattle.std.proofs.Common.{◌≡◌, ◌≤◌, ◌<◌, ◌/◌, ◌==◌, ◌∙◌, ℕ, zero, suc, Bool, true, false, Some, List, [], ◌∷◌, drop, length, refl, sym, ap, ap₂, subst, arith, zero-add, eqb-true, eq-eqb, ◌++◌, append-nil, length-append}
use Rattle.std.specs.Prelude.{filter}
use Rattle.std.proofs.lemmas.List.Elements.{filter-append}
use Rattle.std.proofs.lemmas.List.{drop-append-le, drop_all}
use Rattle.hmc_packet.specs.Packet.{PacketFields}
use Rattle.hmc_entries.specs.declared.entry.Entry.{Entry}
use Rattle.hmc_entries.specs.declared.entry.Entry.TheVariants.{Gave, Sent, Landed, Shifted, Dropped, Spread, Executed, Lifted, Took, Discarded, Through, Unlocked, Retired, Passed, Idle}
use Rattle.hmc_journal.specs.Setup.{Setup, Topology, directions_in, end_of}
use Rattle.hmc_packet.specs.declared.outcome.Outcome.{Outcome}
use Rattle.hmc_send.specs.declared.toward.Toward.{Toward}
use Rattle.hmc_send.specs.LinkEntries.{LinkEntry, same_way, count_if, takes}
use Rattle.hmc_send.specs.Places.{is_token}
use Rattle.hmc_journal.specs.Directions.{accepted, landed_packets}
use Rattle.hmc_journal.specs.Links.{toward, put_on, taken_at, landing_mask, link_sizes, link_entries, entries_on, taken_if}
use Rattle.hmc_journal.specs.Queues.{QueueId, leaves, left, entered, contents, front_of, landing_buffer, unless_gone}
use Rattle.hmc_journal.specs.Queues.QueueId.{Port, Host}
use Rattle.hmc_journal.proofs.Projections.{same_direction, put_on-same, handed_on-same, goes_at}
use Rattle.hmc_laws.proofs.Buffers.{accepted_more, accepted_off, landed-enters, landed-off, tokens_landed}
use Rattle.hmc_journal.proofs.EntryRule.{EntryRule, HasLanded}
use Rattle.hmc_journal.proofs.Moves.{same_queue_refl}
use Rattle.hmc_laws.proofs.Entering.{Kept, front_stands, landed-real, EndKept}
use Rattle.hmc_laws.proofs.Wired.{Wired}
use Rattle.hmc_laws.proofs.ForwardingPipes.{OnPipe, PipeKept, stays_empty}
use Rattle.hmc_journal.specs.Piped.{forwarded_onto}
use Rattle.hmc_codes.specs.declared.place.Place.TheVariants as ends
use Rattle.hmc_laws.proofs.SoundAtOnce.{gone_onto, one_lands}
use Rattle.hmc_laws.proofs.SoundTakings.{same_buffer, takes_put, contents_same, ends_quiet, taken-from}

-- a landing elsewhere, also where its packet goes on
takes_elsewhere : (topology : Topology) (past : List Entry) (e d : ℕ) (flit : List ℕ)
    (outcome : Outcome) → (e == d) ≡ false →
    takes (toward d) (entries_on topology d (Landed e flit outcome ∷ past))
    ≡ takes (toward d) (entries_on topology d past)
unfolding link_entries takes
takes_elsewhere topology past e d flit outcome off =
    let before = entries_on topology d past in
    let entry : Toward → LinkEntry = λ way. LinkEntry.landed way
    (landing_mask (link_sizes topology (d / 2)) way before flit) flit outcome in
    let landed = put_on (d / 2) (Some e) entry before in
    by_gone (goes_at topology e outcome past)
    ∙ put_on-same (takes (toward d)) (d / 2) (Some e) entry before (λ way. refl)
  where
    by_gone : (gone : Bool) → takes (toward d)
        (taken_if gone (d / 2) e (put_on (d / 2) (Some e)
        (λ way. LinkEntry.landed way (landing_mask (link_sizes topology (d / 2)) way
        (entries_on topology d past) flit) flit outcome) (entries_on topology d past)))
        ≡ takes (toward d) (put_on (d / 2) (Some e)
        (λ way. LinkEntry.landed way (landing_mask (link_sizes topology (d / 2)) way
        (entries_on topology d past) flit) flit outcome) (entries_on topology d past))
    by_gone false = refl
    by_gone true =
        takes_put (e / 2 == d / 2) (same_way (toward d) (toward e)) (toward d)
        (LinkEntry.taken (toward e)) _ refl
        ∙ ap (λ (b : Bool). count_if b (takes (toward d)
        (put_on (d / 2) (Some e) (λ way. LinkEntry.landed way
        (landing_mask (link_sizes topology (d / 2)) way (entries_on topology d past) flit) flit
        outcome) (entries_on topology d past)))) (sym (same_direction d e) ∙ off)

takes_here : (topology : Topology) (past : List Entry) (d : ℕ) (flit : List ℕ) (outcome : Outcome)
    (gone : Bool) → goes_at topology d outcome past ≡ gone →
    takes (toward d) (entries_on topology d (Landed d flit outcome ∷ past))
    ≡ count_if gone (takes (toward d) (entries_on topology d past))
unfolding link_entries takes
takes_here topology past d flit outcome gone is =
    let before = entries_on topology d past in
    let entry : Toward → LinkEntry = λ way. LinkEntry.landed way
    (landing_mask (link_sizes topology (d / 2)) way before flit) flit outcome in
    ap (λ (b : Bool). takes (toward d) (taken_if b (d / 2) d
    (put_on (d / 2) (Some d) entry before))) is
    ∙ by_gone gone ∙ ap (count_if gone) (put_on-same (takes (toward d)) (d / 2) (Some d) entry
    before (λ way. refl))
  where
    by_gone : (b : Bool) → takes (toward d)
        (taken_if b (d / 2) d (put_on (d / 2) (Some d)
        (λ way. LinkEntry.landed way (landing_mask (link_sizes topology (d / 2)) way
        (entries_on topology d past) flit) flit outcome) (entries_on topology d past)))
        ≡ count_if b (takes (toward d) (put_on (d / 2) (Some d)
        (λ way. LinkEntry.landed way (landing_mask (link_sizes topology (d / 2)) way
        (entries_on topology d past) flit) flit outcome) (entries_on topology d past)))
    by_gone false = refl
    by_gone true =
        takes_put (d / 2 == d / 2) (same_way (toward d) (toward d)) (toward d)
        (LinkEntry.taken (toward d)) _ refl
        ∙ ap (λ (b : Bool). count_if b (takes (toward d)
        (put_on (d / 2) (Some d) (λ way. LinkEntry.landed way
        (landing_mask (link_sizes topology (d / 2)) way (entries_on topology d past) flit) flit
        outcome) (entries_on topology d past)))) (sym (same_direction d d) ∙ eq-eqb d d refl)

none_left_in : (n : ℕ) (l : List PacketFields) → drop n l ≡ [] → length l ≤ n
none_left_in n [] is = omega arith
none_left_in zero (x ∷ l) is = absurd cc
none_left_in (suc n) (x ∷ l) is = let few = none_left_in n l is in omega arith

left_landed : (past : List Entry) (d : ℕ) (flit : List ℕ) (outcome : Outcome) (queue : QueueId) →
    left (Landed d flit outcome ∷ past) queue ≡ left past queue
unfolding left leaves
left_landed past d flit outcome queue = zero-add _

-- what leaves at once: the buffer is empty there, and it is at a port
gone_empty : (setup : Setup) (past : List Entry) (d : ℕ) (outcome : Outcome) →
    d < directions_in setup.topology → Kept setup past → goes_at setup.topology d outcome past
    ≡ true → contents setup.topology past (landing_buffer setup.topology d) ≡ []
gone_empty setup past d outcome less kept gone = let onto =
    gone_onto outcome (forwarded_onto setup.topology d past) gone in
    (kept.forwarding d onto.0 less onto.1).empty

not_gone_at_host : (setup : Setup) (past : List Entry) (d : ℕ) (outcome : Outcome) (host : ℕ) →
    d < directions_in setup.topology → Kept setup past → goes_at setup.topology d outcome past
    ≡ true → end_of setup.topology d ≡ ends.Host host → ⊥
not_gone_at_host setup past d outcome host less kept gone at =
    let onto = gone_onto outcome (forwarded_onto setup.topology d past) gone in
    let forwarding = kept.forwarding d onto.0 less onto.1 in
    let piped : PipeKept setup.topology past onto.0 forwarding.pipe =
    subst (OnPipe setup.topology past onto.0) forwarding.is (kept.piped onto.0) in
    let clash : ends.Host host ≡ ends.Port piped.way.cube piped.way.port = sym at
    ∙ ap (end_of setup.topology) (sym forwarding.from) ∙ piped.way.lands in cc

-- a landing here: what it accepts enters the buffer
lands_in : (setup : Setup) (past : List Entry) (d : ℕ) (flit : List ℕ) (outcome : Outcome) →
    d < directions_in setup.topology → Kept setup past → goes_at setup.topology d outcome past
    ≡ false → EndKept setup.topology (Landed d flit outcome ∷ past) d
unfolding contents
lands_in setup past d flit outcome less kept stays =
    let t = setup.topology in
    let k = kept.ends d less in
    let room = landing_buffer t d in
    let came = tokens_landed t d flit outcome past in
    let entered_now : entered t (Landed d flit outcome ∷ past) room ≡ entered t past room ++ came =
    landed-enters t d flit outcome past (same_queue_refl room)
    ∙ ap (λ (b : Bool). entered t past room ++ unless_gone b came) stays in
    let tokens : filter is_token (accepted t d (Landed d flit outcome ∷ past))
    ≡ filter is_token (accepted t d past) ++ came =
    ap (filter is_token) (accepted_more t d flit outcome past)
    ∙ filter-append is_token (accepted t d past) (landed_packets t d flit outcome past) in
    let took = takes_here t past d flit outcome false stays in
    let n = takes (toward d) (entries_on t d past) in record {
      buffer =
          ap₂ (λ (i : ℕ) (l : List PacketFields). drop i l) (left_landed past d flit outcome room)
          entered_now ∙ drop-append-le (left past room) (entered t past room) came (kept.within room)
          ∙ ap (λ l. l ++ came) k.buffer ∙ sym
          (drop-append-le n (filter is_token (accepted t d past)) came k.inside)
          ∙ sym (ap₂ (λ (i : ℕ) (l : List PacketFields). drop i l) took tokens);
      inside =
          (let many = ap length tokens ∙ length-append (filter is_token (accepted t d past)) came in
          let inside = k.inside in omega arith);
      host = λ host ends. entered_now ∙ ap (λ l. l ++ came) (k.host host ends) ∙ sym tokens;
    }

-- or leaves at once
lands_gone : (setup : Setup) (past : List Entry) (d : ℕ) (flit : List ℕ) (outcome : Outcome) →
    d < directions_in setup.topology → HasLanded setup past d flit outcome → Kept setup past →
    goes_at setup.topology d outcome past ≡ true →
    EndKept setup.topology (Landed d flit outcome ∷ past) d
lands_gone setup past d flit outcome less right kept gone =
    let t = setup.topology in
    let k = kept.ends d less in
    let room = landing_buffer t d in
    let came = tokens_landed t d flit outcome past in
    let one = one_lands setup past d flit outcome right kept less gone in
    let empty = gone_empty setup past d outcome less kept gone in
    let entered_now : entered t (Landed d flit outcome ∷ past) room ≡ entered t past room =
    landed-enters t d flit outcome past (same_queue_refl room)
    ∙ ap (λ (b : Bool). entered t past room ++ unless_gone b came) gone
    ∙ append-nil (entered t past room) in
    let tokens : filter is_token (accepted t d (Landed d flit outcome ∷ past))
    ≡ filter is_token (accepted t d past) ++ came =
    ap (filter is_token) (accepted_more t d flit outcome past)
    ∙ filter-append is_token (accepted t d past) (landed_packets t d flit outcome past) in
    let took = takes_here t past d flit outcome true gone in
    let n = takes (toward d) (entries_on t d past) in
    let many = ap length tokens ∙ length-append (filter is_token (accepted t d past)) came in
    let single : length came ≡ 1 = ap length one.1 in
    let whole = none_left_in n (filter is_token (accepted t d past)) (sym k.buffer ∙ empty) in
    let within = k.inside in record {
      buffer = stays_empty t (Landed d flit outcome) past room entered_now empty
          ∙ sym (drop_all (takes (toward d) (entries_on t d (Landed d flit outcome ∷ past)))
          (filter is_token (accepted t d (Landed d flit outcome ∷ past))) (omega arith));
      inside = omega arith;
      host = λ host ends. absurd (not_gone_at_host setup past d outcome host less kept gone ends);
    }

ends_landed : (setup : Setup) (past : List Entry) (e d : ℕ) (flit : List ℕ) (outcome : Outcome) →
    Wired setup.topology → e < directions_in setup.topology → d < directions_in setup.topology →
    HasLanded setup past e flit outcome → Kept setup past →
    EndKept setup.topology (Landed e flit outcome ∷ past) d
ends_landed setup past e d flit outcome wires real less right kept = by_here (e == d) refl
  where
    by_gone : (gone : Bool) → goes_at setup.topology d outcome past ≡ gone →
        HasLanded setup past d flit outcome →
        EndKept setup.topology (Landed d flit outcome ∷ past) d
    by_gone true is now = lands_gone setup past d flit outcome less now kept is
    by_gone false is now = lands_in setup past d flit outcome less kept is

    by_here : (here : Bool) → (e == d) ≡ here →
        EndKept setup.topology (Landed e flit outcome ∷ past) d
    by_here true on =
        let one : e ≡ d = eqb-true e d on in
        subst (λ (n : ℕ). EndKept setup.topology (Landed n flit outcome ∷ past) d) (sym one)
        (by_gone (goes_at setup.topology d outcome past) refl
        (subst (λ (n : ℕ). HasLanded setup past n flit outcome) one right))
    by_here false off =
        let t = setup.topology in
        let k = kept.ends d less in
        let room = landing_buffer t d in
        let entered_now =
        landed-off t d e flit outcome past (same_buffer t d e false wires less real off) in
        let tokens = ap (filter is_token) (accepted_off t d e flit outcome past off) in
        let took = takes_elsewhere t past e d flit outcome off in record {
          buffer =
              contents_same t (Landed e flit outcome) past room entered_now
              (left_landed past e flit outcome room) ∙ k.buffer
              ∙ sym (ap₂ (λ (n : ℕ) (l : List PacketFields). drop n l) took tokens);
          inside = (let inside = k.inside in let many = ap length tokens in omega arith);
          host = λ host ends. entered_now ∙ k.host host ends ∙ sym tokens;
        }

pub ends-more : (setup : Setup) (entry : Entry) (past : List Entry) (d : ℕ) →
    d < directions_in setup.topology → Wired setup.topology → EntryRule setup past entry →
    Kept setup past → EndKept setup.topology (entry ∷ past) d
unfolding leaves link_entries takes
ends-more setup (Landed e flit outcome) past d less wires right kept =
    ends_landed setup past e d flit outcome wires (landed-real setup past e flit outcome right kept)
    less right kept
ends-more setup (Shifted cube port goal) past d less wires right kept =
    taken-from setup (Shifted cube port goal) past (ends.Port cube port) right.at.front d less wires
    tt refl
    (λ i. handed_on-same (takes (toward d)) setup.topology (d / 2) cube goal
    (front_of (contents setup.topology past (Port cube port)))
    (taken_at setup.topology (d / 2) (ends.Port cube port) (entries_on setup.topology d past))
    (λ e. refl))
    kept right.at (front_stands setup past (Port cube port) kept right.at)
ends-more setup (Dropped cube port) past d less wires right kept =
    taken-from setup (Dropped cube port) past (ends.Port cube port) right.at.front d less wires tt
    refl (λ i. refl) kept right.at (front_stands setup past (Port cube port) kept right.at)
ends-more setup (Took host tag answer) past d less wires right kept =
    taken-from setup (Took host tag answer) past (ends.Host host) right.at.front d less wires tt
    refl (λ i. refl) kept right.at (front_stands setup past (Host host) kept right.at)
ends-more setup (Discarded host) past d less wires right kept =
    taken-from setup (Discarded host) past (ends.Host host) right.at.front d less wires tt refl
    (λ i. refl) kept right.at (front_stands setup past (Host host) kept right.at)
ends-more setup (Gave host tag poisoned request) past d less wires right kept =
    ends_quiet setup (Gave host tag poisoned request) past d less tt tt kept
ends-more setup (Sent direction as_what flit) past d less wires right kept =
    ends_quiet setup (Sent direction as_what flit) past d less tt tt kept
ends-more setup (Through cube port direction) past d less wires right kept =
    ends_quiet setup (Through cube port direction) past d less tt tt kept
ends-more setup (Spread cube vault bank) past d less wires right kept =
    ends_quiet setup (Spread cube vault bank) past d less tt tt kept
ends-more setup (Executed unit host tag request answer) past d less wires right kept =
    ends_quiet setup (Executed unit host tag request answer) past d less tt tt kept
ends-more setup (Lifted cube from port) past d less wires right kept =
    ends_quiet setup (Lifted cube from port) past d less tt tt kept
ends-more setup (Unlocked direction) past d less wires right kept =
    ends_quiet setup (Unlocked direction) past d less tt tt kept
ends-more setup (Retired slot) past d less wires right kept =
    ends_quiet setup (Retired slot) past d less tt tt kept
ends-more setup (Passed direction flit) past d less wires right kept =
    ends_quiet setup (Passed direction flit) past d less tt tt kept
ends-more setup (Idle step cause) past d less wires right kept =
    ends_quiet setup (Idle step cause) past d less tt tt kept
