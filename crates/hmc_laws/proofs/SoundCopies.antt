-- The copy of a forwarded packet goes where its direction leads, after one more entry.
use Rattle.std.proofs.Common.{◌≡◌, ◌/◌, ◌==◌, ◌∙◌, ℕ, Bool, true, false, Option, Some, None, List, ◌∷◌, length, refl, sym, ap, ap₂, subst, eqb-true, ◌⊎◌, inl, inr}
use Rattle.std.proofs.lemmas.Option.{same_Some}
use Rattle.hmc_packet.specs.Packet.{PacketFields, IsPacket}
use Rattle.hmc_entries.specs.declared.entry.Entry.{Entry}
use Rattle.hmc_entries.specs.declared.entry.Entry.TheVariants.{Sent, Through}
use Rattle.hmc_journal.specs.Setup.{Setup, Topology, end_of}
use Rattle.hmc_codes.specs.declared.profile.Profile.{Profile}
use Rattle.hmc_packet.specs.declared.feed.Feed.TheVariants.{Waiting, Last}
use Rattle.hmc_packet.specs.declared.what.What.{What}
use Rattle.hmc_send.specs.Entries.{places, SenderEntry, UnderWay, through_place, under_way}
use Rattle.hmc_send.specs.LinkSenders.{sender_entries}
use Rattle.hmc_send.specs.Places.{Place, numbers_at}
use Rattle.hmc_wire.specs.Conditions.{IsHalf, IsFeed}
use Rattle.hmc_wire.specs.LinkLaws.{IsKept}
use Rattle.hmc_journal.specs.Links.{toward, sizes_on, entries_on}
use Rattle.hmc_journal.specs.Queues.QueueId.{Output}
use Rattle.hmc_journal.proofs.LinkKept.{opened}
use Rattle.hmc_laws.proofs.LinkHanded.{fronts, own_marks}
use Rattle.hmc_codes.specs.declared.place.Place.{Place as End}
use Rattle.hmc_journal.proofs.EntryRule.{EntryRule, HasThrough, feed_on}
use Rattle.hmc_laws.proofs.Standing.{Stands, GoesTo, IsSpoiled, Stands-alike}
use Rattle.hmc_laws.proofs.Entering.{Kept, CopiesStand}
use Rattle.hmc_laws.proofs.Wired.{Wired}
use Rattle.hmc_journal.specs.Network.{IsNetwork}
use Rattle.hmc_laws.proofs.ForwardingPipes.{OnPipe, PipeKept, Waits, known_waits}
use Rattle.hmc_laws.proofs.PipeSteps.{came_is}
use Rattle.hmc_laws.proofs.Piping.{IsPiped, UpPiped, feed_fits, sender_on}
use Rattle.hmc_laws.proofs.Copies.{CopyHolds, others_sent, others_through}
use Rattle.hmc_laws.proofs.AcceptedTokens.{OthersHold, all_fit}
use Rattle.hmc_laws.proofs.NoSends.{IsNoSend, IsOfSends, no-send, by_sending, sent-elsewhere, sent-here, through-elsewhere, through-here}
use Rattle.hmc_laws.proofs.Marks.{of_sends-marks}
use Rattle.hmc_laws.proofs.Standing.IsMoving.{Spoiled}
use Rattle.hmc_journal.specs.Piped.{PipeFrom, fed, pipe_onto}
use Rattle.hmc_send.specs.Copies.{copy_of}
use Rattle.hmc_send.proofs.LinkProjections.{sender-sent, sender-through}
use Rattle.hmc_packet.specs.Parts.{lng_of}
use Rattle.hmc_through.specs.Pipe.{feed_at}
use Rattle.hmc_laws.proofs.CopyGoes.{copy_is, good_same, good_goes, copy_packet, bad_spoiled}
use Rattle.hmc_wire.proofs.OpenPlaces.{AreKnown, IsOpen, open_place, under-open}
use Rattle.hmc_send.specs.Kept.{IsFedNext}
use Rattle.hmc_send.specs.IsSender.{IsFed}
use Rattle.hmc_codes.specs.declared.place.Place.TheVariants as ends
use Rattle.hmc_send.specs.Entries as begun
use Rattle.hmc_laws.proofs.SoundTakes.{through_of}
use Rattle.hmc_laws.proofs.SoundLinks.{link-more}

-- a spoiled packet may go anywhere
spoiled_goes : (topology : Topology) (place : End) (packet : PacketFields) →
    IsSpoiled topology packet → GoesTo topology place packet
spoiled_goes topology (ends.Host host) packet spoiled = inr spoiled
spoiled_goes topology (ends.Port cube port) packet spoiled = Spoiled spoiled

-- the copy that a send completes goes where its direction leads
copy_stands : (setup : Setup) (past : List Entry) (d : ℕ) → IsNetwork setup → Wired setup.topology →
    Kept setup past → CopyHolds (Stands setup.topology (Output d)) (sizes_on setup.topology d)
    (toward d) (feed_on setup.topology past d) (entries_on setup.topology d past)
copy_stands setup past d network wires kept part head count numbers half slid errstat good under
    last =
    by_open (opened (sizes_on setup.topology d) (toward d) (entries_on setup.topology d past)
    (kept.links (d / 2)))
  where
    q : Profile
    q = (sizes_on setup.topology d).profile

    T : List SenderEntry
    T = sender_on setup.topology d past

    P : PacketFields → Type 0
    P = Stands setup.topology (Output d)

    up : UnderWay
    up = record { part = part; place = Place.awaited head count numbers }

    under_o : (o : IsOpen q T) → under_way q T
        ≡ Some (record { part = o.part; place = open_place o })
    under_o o = under-open q T o

    fits : (o : IsOpen q T) (pipe : Option PipeFrom) → pipe_onto setup.topology d past ≡ pipe →
        UpPiped pipe (Some (record { part = o.part; place = open_place o }))
    fits o pipe is =
        subst (λ (p : Option PipeFrom). UpPiped p
        (Some (record { part = o.part; place = open_place o }))) is
        (subst (UpPiped (pipe_onto setup.topology d past)) (under_o o) (kept.up d))

    gives : (o : IsOpen q T) (pipe : Option PipeFrom) → pipe_onto setup.topology d past ≡ pipe →
        fed (Some (length o.part.sent)) pipe ≡ Last half slid errstat good
    gives o pipe is =
        sym (ap₂ (λ (u : Option UnderWay) (p : Option PipeFrom). fed (through_place u) p)
        (under_o o) is) ∙ last

    next : (o : IsOpen q T) → IsFedNext o.part o.head (Last half slid errstat good)
    next o =
        subst (λ (u : Option UnderWay). IsFed u (Last half slid errstat good)) (under_o o)
        (subst (IsFed (under_way q T)) last (feed_fits (pipe_onto setup.topology d past)
        (under_way q T) (kept.up d)).fits)

    is_half : IsHalf half
    is_half =
        subst IsFeed last (feed_fits (pipe_onto setup.topology d past) (under_way q T)
        (kept.up d)).is_feed

    packet : (o : IsOpen q T) → IsPacket (copy_of q o.part.sent half slid errstat good o.numbers)
    packet o =
        copy_packet q T o half slid errstat good
        (all_fit (sizes_on setup.topology d) (toward d) (entries_on setup.topology d past)
        (kept.links (d / 2))) (next o) is_half

    by_good : (o : IsOpen q T) (p : PipeFrom) (b : Bool) → PipeKept setup.topology past d p →
        IsPiped p.pipe o.part o.head o.count → feed_at p.pipe (length o.part.sent)
        ≡ Last half slid errstat b → IsPacket
        (copy_of q o.part.sent half slid errstat b o.numbers) →
        IsFedNext o.part o.head (Last half slid errstat b)
        → P (copy_of q o.part.sent half slid errstat b o.numbers)
    by_good o p true k piped is is_packet fed_next =
        let accepted =
        k.good (copy_is q p.pipe o.head o.count o.part half slid errstat true o.numbers piped
        is).1 in
        Stands-alike setup.topology d (copy_of q o.part.sent half slid errstat true o.numbers)
        accepted.packet (good_same setup.topology p accepted q T o half slid errstat k.some
        piped is) is_packet (good_goes setup.topology d p accepted wires k.way k.some)
    by_good o p false k piped is is_packet fed_next = record {
      inside = wires.inside (ends.Port k.way.cube k.way.onward) d k.way.starts;
      goes =
          spoiled_goes setup.topology (end_of setup.topology d) _
          (bad_spoiled setup.topology p d q T o half slid errstat network.hosts k.way piped is
          is_packet fed_next);
    }

    by_pipe : (o : IsOpen q T) (pipe : Option PipeFrom) → pipe_onto setup.topology d past ≡ pipe →
        P (copy_of q o.part.sent half slid errstat good o.numbers)
    by_pipe o None is =
        absurd (let clash : Waiting ≡ Last half slid errstat good = gives o None is in cc)
    by_pipe o (Some p) is =
        by_good o p good (subst (OnPipe setup.topology past d) is (kept.piped d))
        (fits o (Some p) is) (gives o (Some p) is) (packet o) (next o)

    by_open : AreKnown (begun.places q T) ⊎ IsOpen q T →
        P (copy_of q part.sent half slid errstat good numbers)
    by_open (inl known) = absurd (known_waits q T known (subst Waits (sym under) tt))
    by_open (inr o) =
        subst (λ (u : UnderWay). P (copy_of q u.part.sent half slid errstat good
        (numbers_at u.place))) (same_Some (record { part = o.part; place = open_place o }) up
        (sym (under_o o) ∙ under)) (by_pipe o (pipe_onto setup.topology d past) refl)

of_sends-places : (q : Profile) → IsOfSends (begun.places q)
unfolding begun.places
of_sends-places q = record { acknowledged = λ past n. refl; ran = λ past. refl }

others_same : (P : PacketFields → Type 0) (m n : List Bool) (k l : List Place) → m ≡ n → k ≡ l →
    OthersHold P m k → OthersHold P n l
others_same P m n k l marks places is =
    subst (OthersHold P n) places (subst (λ (b : List Bool). OthersHold P b k) marks is)

-- an entry that changes neither list of the sender
copies_still : (setup : Setup) (entry : Entry) (past : List Entry) (d : ℕ) →
    own_marks (sender_on setup.topology d (entry ∷ past))
    ≡ own_marks (sender_on setup.topology d past)
    → begun.places (sizes_on setup.topology d).profile (sender_on setup.topology d (entry ∷ past))
    ≡ begun.places (sizes_on setup.topology d).profile (sender_on setup.topology d past) →
    Kept setup past → CopiesStand setup.topology (entry ∷ past) d
copies_still setup entry past d marks places kept =
    others_same (Stands setup.topology (Output d)) _ _ _ _ (sym marks) (sym places) (kept.copies d)

-- an entry of the sender itself
copies_here : (setup : Setup) (journal : List Entry) (d : ℕ) (after : List SenderEntry) →
    sender_on setup.topology d journal ≡ after →
    OthersHold (Stands setup.topology (Output d)) (own_marks after)
    (begun.places (sizes_on setup.topology d).profile after) → CopiesStand setup.topology journal d
copies_here setup journal d after is =
    subst (λ (T : List SenderEntry). OthersHold (Stands setup.topology (Output d)) (own_marks T)
    (begun.places (sizes_on setup.topology d).profile T)) (sym is)

copies_quiet : (setup : Setup) (entry : Entry) (past : List Entry) (d : ℕ) → IsNoSend entry →
    Kept setup past → CopiesStand setup.topology (entry ∷ past) d
copies_quiet setup entry past d quiet =
    copies_still setup entry past d (no-send own_marks of_sends-marks setup.topology d entry past
    quiet) (no-send (begun.places (sizes_on setup.topology d).profile)
    (of_sends-places (sizes_on setup.topology d).profile) setup.topology d entry past quiet)

copies_sent : (setup : Setup) (past : List Entry) (d e : ℕ) (as_what : What) (flit : List ℕ) →
    IsNetwork setup → Wired setup.topology → EntryRule setup past (Sent e as_what flit) →
    Kept setup past → (here : Bool) → (e == d) ≡ here →
    CopiesStand setup.topology (Sent e as_what flit ∷ past) d
copies_sent setup past d e as_what flit network wires right kept false off =
    copies_still setup (Sent e as_what flit) past d
    (sent-elsewhere own_marks setup.topology d e as_what flit past off)
    (sent-elsewhere (begun.places (sizes_on setup.topology d).profile) setup.topology d e
    as_what flit past off) kept
copies_sent setup past d e as_what flit network wires right kept true on =
    let t = setup.topology in
    let sizes = sizes_on t d in
    let one : e ≡ d = eqb-true e d on in
    let now : IsKept sizes (entries_on t d (Sent d as_what flit ∷ past)) =
    subst (λ (n : ℕ). IsKept sizes (entries_on t d (Sent n as_what flit ∷ past))) one
    (link-more setup (Sent e as_what flit) past (d / 2) network wires right kept) in
    let at = sent-here t d as_what flit past in
    subst (λ (n : ℕ). CopiesStand t (Sent n as_what flit ∷ past) d) (sym one)
    (copies_here setup (Sent d as_what flit ∷ past) d _
    (ap (sender_entries sizes (toward d)) at
    ∙ sender-sent sizes (toward d) (feed_on t past d) as_what flit (entries_on t d past))
    (others_sent (Stands t (Output d)) sizes (toward d) (feed_on t past d) as_what flit
    (entries_on t d past) (subst (IsKept sizes) at now) (kept.copies d)
    (copy_stands setup past d network wires kept)))

copies_through : (setup : Setup) (past : List Entry) (d cube port e : ℕ) →
    HasThrough setup past cube port e → Kept setup past → (here : Bool) → (e == d) ≡ here →
    CopiesStand setup.topology (Through cube port e ∷ past) d
copies_through setup past d cube port e right kept false off =
    copies_still setup (Through cube port e) past d
    (through-elsewhere own_marks setup.topology d cube port e past off)
    (through-elsewhere (begun.places (sizes_on setup.topology d).profile) setup.topology d cube
    port e past off) kept
copies_through setup past d cube port e right kept true on =
    let t = setup.topology in
    let sizes = sizes_on t d in
    let one : e ≡ d = eqb-true e d on in
    let at =
    through-here t d cube port right.flit right.rest past
    (came_is t past cube port (through_of setup past cube port e right)) in
    let own = (fronts sizes (toward d) (entries_on t d past) (kept.links (d / 2))).own in
    subst (λ (n : ℕ). CopiesStand t (Through cube port n ∷ past) d) (sym one)
    (copies_here setup (Through cube port d ∷ past) d _
    (ap (sender_entries sizes (toward d)) at
    ∙ sender-through sizes (toward d) right.flit (lng_of right.flit) (entries_on t d past))
    (others_through (Stands t (Output d)) sizes.profile right.flit (lng_of right.flit) _
    (sender_on t d past) own (kept.copies d)))

pub copies-more : (setup : Setup) (entry : Entry) (past : List Entry) (d : ℕ) → IsNetwork setup →
    Wired setup.topology → EntryRule setup past entry → Kept setup past →
    CopiesStand setup.topology (entry ∷ past) d
copies-more setup entry past d network wires right kept =
    by_sending (λ (n : Entry). EntryRule setup past n → CopiesStand setup.topology (n ∷ past) d)
    (λ e as_what flit rule. copies_sent setup past d e as_what flit network wires rule kept (e == d)
    refl)
    (λ cube port e rule. copies_through setup past d cube port e rule kept (e == d) refl)
    (λ n quiet rule. copies_quiet setup n past d quiet kept)
    entry right
