-- What the law of one wire says of each direction of a lawful journal.
use Rattle.std.proofs.Common.{◌/◌, ◌≡◌, ◌≢◌, ◌∙◌, ℕ, suc, Bool, Option, None, Some, List, [], ◌∷◌, ◌++◌, All, length, map, take, drop, refl, sym, ap, take-append-drop}
use Rattle.std.specs.Prelude.{filter}
use Rattle.std.proofs.lemmas.List.{map-append}
use Rattle.std.proofs.lemmas.List.Elements.{All-nil, All-cons}
use Rattle.hmc_codes.specs.declared.profile.Profile.{Profile}
use Rattle.hmc_packet.specs.Packet.{PacketFields}
use Rattle.hmc_packet.specs.declared.outcome.Outcome.{Outcome}
use Rattle.hmc_packet.specs.declared.outcome.Outcome.TheVariants as outcomes
use Rattle.hmc_send.specs.Entries.{taken_fronts}
use Rattle.hmc_send.specs.LinkEntries.{handed_packets, accepted_packets}
use Rattle.hmc_send.specs.LinkSenders.{sender_entries, places_in}
use Rattle.hmc_send.specs.Places.{Place, packet_in, is_token}
use Rattle.hmc_wire.specs.LinkLaws.{TokenLaws}
use Rattle.hmc_wire.proofs.LawsHold.{direction-laws}
use Rattle.hmc_wire.proofs.TokenFacts.{token-laws}
use Rattle.hmc_entries.specs.declared.entry.Entry.{Entry}
use Rattle.hmc_entries.specs.declared.entry.Entry.TheVariants.{Gave, Sent, Landed, Shifted, Dropped, Spread, Executed, Lifted, Took, Discarded, Through, Unlocked, Retired, Passed, Idle}
use Rattle.hmc_journal.specs.Setup.{Setup, Topology}
use Rattle.hmc_journal.specs.Carried.{begun_on, begun_here, marked, place_with}
use Rattle.hmc_journal.specs.Delivered.{IsPrefix, unnumbered, IsInOrder}
use Rattle.hmc_journal.specs.Directions.{accepted, profile_of}
use Rattle.hmc_journal.specs.Piped.{PipeFrom, pipe_onto}
use Rattle.hmc_journal.specs.Queues.{entered}
use Rattle.hmc_journal.specs.Queues.QueueId.{Output}
use Rattle.hmc_journal.specs.Links.{toward, landing_mask, sizes_on, entries_on}
use Rattle.hmc_journal.specs.Lawful.{Lawful}
use Rattle.hmc_journal.proofs.EntryRule.{EntryRule, entry_rule, lawful_past}
use Rattle.hmc_journal.proofs.LinkKept.{kept-landed}
use Rattle.hmc_laws.proofs.LinkHanded.{ShowsKnown, own_marks, own-views, own-count, fronts}
use Rattle.hmc_laws.proofs.AcceptedTokens.{begun_first}
use Rattle.hmc_laws.proofs.Marks.{marks_are}
use Rattle.hmc_journal.proofs.Projections.{handed_are}
use Rattle.hmc_journal.specs.Network.{IsNetwork}
use Rattle.hmc_laws.proofs.Entering.{accepted_are}
use Rattle.hmc_laws.proofs.Sound.{kept}

-- what the places of a direction show, with its pipe
abbrev with_pipe : Topology → (d : ℕ) → List Entry → Place → PacketFields
with_pipe topology d past place = packet_in (place_with (profile_of topology d) (pipe_onto topology d past) place)

known_stays : (q : Profile) (pipe : Option PipeFrom) (packet : PacketFields) → packet_in (place_with q pipe (Place.known packet)) ≡ packet
known_stays q None packet = refl
known_stays q (Some p) packet = refl

shows_known : (topology : Topology) (d : ℕ) (past : List Entry) → ShowsKnown (with_pipe topology d past)
shows_known topology d past packet = known_stays (profile_of topology d) (pipe_onto topology d past) packet

-- they are a prefix of those begun
pub accepted_prefix : (setup : Setup) (network : IsNetwork setup) (d : ℕ) (past : List Entry) → Lawful setup past → IsPrefix (accepted setup.topology d past) (begun_on setup.topology d past)
accepted_prefix setup network d past lawful =
    let sizes = sizes_on setup.topology d in
    let before = entries_on setup.topology d past in
    let view = with_pipe setup.topology d past in
    let others = map view (drop (length (accepted_packets sizes.profile (toward d) before)) (places_in sizes (toward d) before)) in
    (others, begun_first view (shows_known setup.topology d past) sizes (toward d) before ((kept setup past network lawful).links (d / 2)) ∙ ap (λ l. l ++ others) (sym (accepted_are setup.topology d past)))

-- and those begun, without TRETs, copies and numbers, of those that entered the output queue
pub begun_prefix : (setup : Setup) (network : IsNetwork setup) (d : ℕ) (past : List Entry) → Lawful setup past
    → IsPrefix (map unnumbered (filter is_token (marked (begun_here d past) (begun_on setup.topology d past)))) (map unnumbered (entered setup.topology past (Output d)))
begun_prefix setup network d past lawful =
    let sizes = sizes_on setup.topology d in
    let before = entries_on setup.topology d past in
    let keeps = kept setup past network lawful in
    let begun = fronts sizes (toward d) before (keeps.links (d / 2)) in
    let marks = own_marks (sender_entries sizes (toward d) before) in
    let l = places_in sizes (toward d) before in
    let n = taken_fronts (sender_entries sizes (toward d) before) in
    let handed = handed_packets (toward d) before in
    let own = own-views (with_pipe setup.topology d past) packet_in (shows_known setup.topology d past) (λ packet. refl) marks l begun.own in
    let are : map unnumbered (filter is_token (marked (begun_here d past) (begun_on setup.topology d past))) ≡ map unnumbered (take n handed) =
    ap (λ (m : List Bool). map unnumbered (filter is_token (marked m (begun_on setup.topology d past)))) (marks_are setup.topology d past keeps.gathered (keeps.links (d / 2)))
    ∙ ap (λ k. map unnumbered (filter is_token k)) own ∙ begun.are in (
      map unnumbered (drop n handed),
      ap (map unnumbered) (handed_are setup.topology d past ∙ sym (take-append-drop n handed)) ∙ map-append unnumbered (take n handed) (drop n handed)
          ∙ ap (λ k. k ++ map unnumbered (drop n handed)) (sym are),
    )

length-map-view : (view : Place → PacketFields) (l : List Place) → length (map view l) ≡ length l
length-map-view view [] = refl
length-map-view view (x ∷ l) = ap suc (length-map-view view l)

-- each that was begun is marked or not
pub marks_each : (setup : Setup) (network : IsNetwork setup) (d : ℕ) (past : List Entry) → Lawful setup past → length (begun_here d past) ≡ length (begun_on setup.topology d past)
marks_each setup network d past lawful =
    let sizes = sizes_on setup.topology d in
    let before = entries_on setup.topology d past in
    let keeps = kept setup past network lawful in
    let begun = fronts sizes (toward d) before (keeps.links (d / 2)) in
    ap length (marks_are setup.topology d past keeps.gathered (keeps.links (d / 2))) ∙ own-count (own_marks (sender_entries sizes (toward d) before)) (places_in sizes (toward d) before) begun.own
    ∙ sym (length-map-view (with_pipe setup.topology d past) (places_in sizes (toward d) before))

-- the tokens of each direction add up
pub tokens_hold : (setup : Setup) (network : IsNetwork setup) (d : ℕ) (past : List Entry) → Lawful setup past → TokenLaws (sizes_on setup.topology d) (toward d) (entries_on setup.topology d past)
tokens_hold setup network d past lawful = token-laws (sizes_on setup.topology d) (toward d) (entries_on setup.topology d past) ((kept setup past network lawful).links (d / 2))

-- no packet lands out of order
ordered_by : (d : ℕ) (flit : List ℕ) (outcome : Outcome) → outcome ≢ outcomes.AbortedOrder → IsInOrder (Landed d flit outcome)
ordered_by d flit outcomes.AbortedOrder quiet = absurd (quiet refl)
ordered_by d flit _ quiet = tt

ordered_entry : (setup : Setup) (network : IsNetwork setup) (entry : Entry) (past : List Entry) → EntryRule setup past entry → Lawful setup past → IsInOrder entry
ordered_entry setup network (Landed d flit outcome) past right lawful =
    let sizes = sizes_on setup.topology d in
    let before = entries_on setup.topology d past in
    let keeps = (kept setup past network lawful).links (d / 2) in
    let now = kept-landed sizes before (toward d) right.mask flit outcome keeps right.landing in
    let laws = direction-laws sizes (toward d) before keeps in
    ordered_by d flit outcome (laws.ordered (landing_mask sizes (toward d) before flit) flit outcome now.lawful)
ordered_entry setup network (Gave host tag poisoned request) past right lawful = tt
ordered_entry setup network (Sent direction what flit) past right lawful = tt
ordered_entry setup network (Shifted cube port goal) past right lawful = tt
ordered_entry setup network (Dropped cube port) past right lawful = tt
ordered_entry setup network (Spread cube vault bank) past right lawful = tt
ordered_entry setup network (Executed unit host tag request answer) past right lawful = tt
ordered_entry setup network (Lifted cube from port) past right lawful = tt
ordered_entry setup network (Took host tag answer) past right lawful = tt
ordered_entry setup network (Discarded host) past right lawful = tt
ordered_entry setup network (Unlocked direction) past right lawful = tt
ordered_entry setup network (Passed direction flit) past right lawful = tt
ordered_entry setup network (Through cube port direction) past right lawful = tt
ordered_entry setup network (Retired slot) past right lawful = tt
ordered_entry setup network (Idle step cause) past right lawful = tt

pub all_in_order : (setup : Setup) (network : IsNetwork setup) (past : List Entry) → Lawful setup past → All IsInOrder past
all_in_order setup network [] lawful = All-nil IsInOrder
all_in_order setup network (entry ∷ past) lawful =
    let before = lawful_past setup entry past lawful in
    All-cons IsInOrder entry past (ordered_entry setup network entry past (entry_rule setup entry past lawful) before) (all_in_order setup network past before)
