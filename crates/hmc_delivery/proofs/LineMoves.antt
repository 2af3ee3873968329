-- What queues and lines hold after moves: a packet that is accepted leaves the line, or the copy of
-- one that is forwarded comes onto it.
use Rattle.std.proofs.Common.{◌≡◌, ◌≤◌, ◌<◌, ◌/◌, ◌∙◌, ◌==◌, ◌&&◌, ℕ, Bool, true, false, not, if◌then◌else◌, List, [], ◌∷◌, ◌++◌, map, length, drop, refl, sym, ap, ap₂, subst, arith, append-nil, eqb-true}
use Rattle.std.specs.Prelude.{filter}
use Rattle.std.proofs.lemmas.List.{map-append, drop-append-le}
use mathlib.Core.Bool.{and-false, and-true}
use Rattle.hmc_codes.specs.Commands.{family_of_layout, layout_of, is_posted, is_flow}
use Rattle.hmc_codes.specs.declared.layout.Layout.{Layout}
use Rattle.hmc_codes.specs.declared.place.Place.{Place}
use Rattle.hmc_packet.specs.Packet.{PacketFields}
use Rattle.hmc_packet.specs.declared.outcome.Outcome.{Outcome}
use Rattle.hmc_send.specs.Places.{is_token}
use Rattle.hmc_wire.specs.LinkLaws.{IsKept}
use Rattle.hmc_hops.specs.Packets.{Packet, is_token as is_hop_token}
use Rattle.hmc_hops.specs.Map.{Map}
use Rattle.hmc_hops.specs.Queues.{next_queue, after_line, same_queue as same_hop, is_at as is_at_hop, QueueId as hops}
use Rattle.hmc_hops.specs.Moves.{Move, without, without_if, packet_if as hop_if, contents as hop_contents}
use Rattle.hmc_hops.specs.Moves.Move.{Comes}
use Rattle.hmc_entries.specs.declared.entry.Entry.{Entry}
use Rattle.hmc_entries.specs.declared.entry.Entry.TheVariants.{Landed}
use Rattle.hmc_journal.specs.Directions.{landed_packets, accepted}
use Rattle.hmc_journal.specs.Links.{sizes_on, entries_on}
use Rattle.hmc_journal.specs.Piped.{forwarded_onto, goes_on}
use Rattle.hmc_journal.specs.Queues.{QueueId, same_queue, arrival_of, arrived, unless_gone, leaves, enters, contents, buffer_at, landing_buffer, QueueId as queues}
use Rattle.hmc_journal.specs.Setup.{Topology, Setup, directions_in, end_of}
use Rattle.hmc_journal.proofs.EntryRule.{EntryRule}
use Rattle.hmc_journal.proofs.Moves.{entering}
use Rattle.hmc_laws.proofs.Buffers.{few_landed, accepted_off}
use Rattle.hmc_laws.proofs.Entering.{Kept, landed-real}
use Rattle.hmc_laws.proofs.Wired.{Wired}
use Rattle.hmc_delivery.proofs.Seen.{seen, kind_by, hop_queue, arriving, lands}
use Rattle.hmc_delivery.proofs.Agreeing.{IsReal, Agrees, arriving_is, same_hops, if_seen}
use Rattle.hmc_delivery.proofs.Hopping.{queue-more}
use Rattle.hmc_delivery.proofs.Underway.{known_on, line_on, underway-landed}
use Rattle.hmc_codes.specs.declared.layout.Layout.TheVariants as layouts
use Rattle.hmc_codes.specs.declared.place.Place.TheVariants as places

pub line_off : (topology : Topology) (q : QueueId) (d : ℕ) →
    same_hop (hops.Line d) (hop_queue topology q) ≡ false
line_off topology (queues.Output e) d = refl
line_off topology (queues.Port c p) d = refl
line_off topology (queues.Host h) d = refl
line_off topology (queues.Vault c v) d = refl
line_off topology (queues.Bank c v b) d = refl
line_off topology (queues.Registers c) d = refl
line_off topology (queues.Answers c from) d = refl

-- ---- landings

token_kind : (layout : Layout) (posted : Bool) →
    is_hop_token (kind_by (family_of_layout layout) posted) ≡ not (is_flow layout)
token_kind layouts.Ask true = refl
token_kind layouts.Ask false = refl
token_kind layouts.Reply posted = refl
token_kind layouts.Null posted = refl
token_kind layouts.Pret posted = refl
token_kind layouts.Tret posted = refl
token_kind layouts.Irtry posted = refl

pub token_seen : (topology : Topology) (packet : PacketFields) →
    is_hop_token (seen topology packet).kind ≡ is_token packet
unfolding seen
token_seen topology packet = token_kind (layout_of packet.command) (is_posted packet.command)

pub buffer_real : (topology : Topology) (place : Place) (d : ℕ) → d < directions_in topology →
    end_of topology d ≡ place → IsReal topology (buffer_at place)
buffer_real topology (places.Host host) d less ends =
    record { direction = d; inside = less; ends = ends }
buffer_real topology (places.Port cube port) d less ends =
    record { direction = d; inside = less; ends = ends }

buffer_hop_at : (topology : Topology) (place : Place) → hop_queue topology (buffer_at place)
    ≡ hops.Buffer (arriving topology place)
buffer_hop_at topology (places.Host host) = refl
buffer_hop_at topology (places.Port cube port) = refl

pub buffer_hop : (topology : Topology) (d : ℕ) → Wired topology → d < directions_in topology →
    hop_queue topology (landing_buffer topology d) ≡ hops.Buffer d
buffer_hop topology d wires less =
    buffer_hop_at topology (end_of topology d)
    ∙ ap hops.Buffer (arriving_is topology (end_of topology d) wires
    (record { direction = d; inside = less; ends = refl }))

-- the packet enters the buffer, unless it only returns tokens
landed_new : (topology : Topology) (d : ℕ) (q : QueueId) (p : PacketFields) (token : Bool) →
    Wired topology → d < directions_in topology → IsReal topology q → is_token p ≡ token
    → map (seen topology) (arrived q (arrival_of (landing_buffer topology d)
    (filter is_token (p ∷ [])))) ≡ hop_if
    (is_at_hop (after_line token d) (hop_queue topology q)) (seen topology p)
landed_new topology d q p true wires less real is =
    ap (λ (b : Bool). map (seen topology)
    (arrived q (arrival_of (landing_buffer topology d) (if b then p ∷ [] else [])))) is
    ∙ if_seen topology (same_queue (landing_buffer topology d) q) (λ _. p)
    ∙ ap (λ (b : Bool). hop_if b (seen topology p))
    (same_hops topology (landing_buffer topology d) q wires
    (buffer_real topology (end_of topology d) d less refl) real
    ∙ ap (λ a. same_hop a (hop_queue topology q)) (buffer_hop topology d wires less))
landed_new topology d q p false wires less real is =
    ap (λ (b : Bool). map (seen topology)
    (arrived q (arrival_of (landing_buffer topology d) (if b then p ∷ [] else [])))) is

no_line_after : (token : Bool) (d e : ℕ) → is_at_hop (after_line token d) (hops.Line e) ≡ false
no_line_after true d e = refl
no_line_after false d e = refl

-- ---- what queues and lines hold after moves

pub record Held (topology : Topology) (m : Map) (inside : QueueId → List PacketFields)
    (line : ℕ → List PacketFields) (moved : List Move) : Type 0 where
  pub queues : (queue : QueueId) → IsReal topology queue → map (seen topology) (inside queue)
      ≡ hop_contents m moved (hop_queue topology queue)
  pub lines : (d : ℕ) → map (seen topology) (line d) ≡ hop_contents m moved (hops.Line d)

-- what is known before an entry, without what is accepted after it
abbrev pub left_on : Topology → (entry : Entry) → (past : List Entry) → ℕ → List PacketFields
left_on topology entry past e =
    drop (length (accepted topology e (entry ∷ past))) (known_on topology e past)

pub agrees_held : (topology : Topology) (m : Map) (journal : List Entry) (moved : List Move) →
    Held topology m (contents topology journal) (λ e. line_on topology e journal) moved →
    Agrees topology m journal moved
agrees_held topology m journal moved held = record { queues = held.queues; lines = held.lines }

-- the same lines, where the same packets are known
pub lines_same : (topology : Topology) (m : Map) (entry : Entry) (past : List Entry)
    (moved : List Move) → ((e : ℕ) → known_on topology e (entry ∷ past) ≡ known_on topology e past)
    → Held topology m (contents topology (entry ∷ past)) (left_on topology entry past) moved →
    Agrees topology m (entry ∷ past) moved
lines_same topology m entry past moved same held = record {
  queues = held.queues;
  lines = λ e. ap (λ l. map (seen topology) (drop (length (accepted topology e (entry ∷ past))) l))
      (same e) ∙ held.lines e;
}

-- ---- a packet leaves the line

-- there is a packet
abbrev some_in : List PacketFields → Bool
some_in [] = false
some_in (packet ∷ packets) = true

-- what is left of a line
line_by : (topology : Topology) (line rest landed : List PacketFields) → line ≡ landed ++ rest →
    length landed ≤ 1 → map (seen topology) rest
    ≡ without_if (some_in landed) 0 (map (seen topology) line)
unfolding without
line_by topology line rest [] is few = ap (map (seen topology)) (sym is)
line_by topology line rest (p ∷ []) is few =
    ap (λ l. without_if true 0 (map (seen topology) l)) (sym is)
line_by topology line rest (p ∷ q ∷ more) is few = absurd (omega arith)

pub line_left : (topology : Topology) (d e : ℕ) (flit : List ℕ) (outcome : Outcome)
    (past : List Entry) (same : Bool) (landed : List PacketFields) → (d == e) ≡ same →
    IsKept (sizes_on topology d) (entries_on topology d (Landed d flit outcome ∷ past))
    → known_on topology d (Landed d flit outcome ∷ past) ≡ known_on topology d past →
    landed_packets topology d flit outcome past ≡ landed
    → map (seen topology) (left_on topology (Landed d flit outcome) past e)
    ≡ without_if (same && some_in landed) 0 (map (seen topology) (line_on topology e past))
line_left topology d e flit outcome past false landed is keeps known landed_is =
    ap (λ (l : List PacketFields). map (seen topology) (drop (length l) (known_on topology e past)))
    (accepted_off topology e d flit outcome past is)
line_left topology d e flit outcome past true landed is keeps known landed_is =
    let n = length (accepted topology d (Landed d flit outcome ∷ past)) in
    let parts : line_on topology d past ≡ landed
    ++ left_on topology (Landed d flit outcome) past d =
    underway-landed topology d flit outcome past keeps known
    ∙ ap₂ (λ (a b : List PacketFields). a ++ b) landed_is (ap (drop n) known) in
    let few = subst (λ l. length l ≤ 1) landed_is (few_landed topology d flit outcome past) in
    let here =
    line_by topology (line_on topology d past) (left_on topology (Landed d flit outcome) past d)
    landed parts few in
    subst (λ (k : ℕ). map (seen topology) (left_on topology (Landed d flit outcome) past k)
    ≡ without_if (some_in landed) 0 (map (seen topology) (line_on topology k past)))
    (eqb-true d e is) here

pub landed_held : (setup : Setup) (m : Map) (past : List Entry) (moved : List Move) (d : ℕ)
    (flit : List ℕ) (outcome : Outcome) (landed : List PacketFields) → Wired setup.topology →
    Kept setup past → Kept setup (Landed d flit outcome ∷ past) → Agrees setup.topology m past moved
    → EntryRule setup past (Landed d flit outcome) →
    goes_on outcome (forwarded_onto setup.topology d past) ≡ false →
    known_on setup.topology d (Landed d flit outcome ∷ past) ≡ known_on setup.topology d past →
    landed_packets setup.topology d flit outcome past ≡ landed → length landed ≤ 1
    → Held setup.topology m (contents setup.topology (Landed d flit outcome ∷ past))
    (left_on setup.topology (Landed d flit outcome) past)
    (lands setup.topology d landed ++ moved)
unfolding entering enters leaves hop_contents
landed_held setup m past moved d flit outcome [] wires keeps now agrees right stays known is few =
    let t = setup.topology in record {
      queues = λ q real.
          queue-more setup (Landed d flit outcome) past q false []
          (hop_contents m moved (hop_queue t q)) right tt keeps.within refl
          (ap₂ (λ (b : Bool) (l : List PacketFields). map (seen t)
          (arrived q (arrival_of (landing_buffer t d) (unless_gone b (filter is_token l)))))
          stays is) (agrees.queues q real)
          ∙ append-nil (hop_contents m moved (hop_queue t q));
      lines = λ e. line_left t d e flit outcome past (d == e) [] refl (now.links (d / 2)) known is
          ∙ ap (λ (b : Bool). without_if b 0 (map (seen t) (line_on t e past))) (and-false (d == e))
          ∙ agrees.lines e;
    }
landed_held setup m past moved d flit outcome (p ∷ []) wires keeps now agrees right stays known is
    few =
    let t = setup.topology in
    let less = landed-real setup past d flit outcome right keeps in
    let next_is : next_queue m (hops.Line d) (seen t p) ≡ after_line (is_token p) d =
    ap (λ (b : Bool). after_line b d) (token_seen t p) in record {
      queues = λ q real.
          queue-more setup (Landed d flit outcome) past q (same_hop (hops.Line d) (hop_queue t q))
          (hop_if (is_at_hop (next_queue m (hops.Line d) (seen t p)) (hop_queue t q))
          (seen t p)) (hop_contents m moved (hop_queue t q)) right tt keeps.within
          (sym (line_off t q d))
          (ap₂ (λ (b : Bool) (l : List PacketFields). map (seen t)
          (arrived q (arrival_of (landing_buffer t d) (unless_gone b (filter is_token l)))))
          stays is ∙ landed_new t d q p (is_token p) wires less real refl
          ∙ ap (λ o. hop_if (is_at_hop o (hop_queue t q)) (seen t p)) (sym next_is))
          (agrees.queues q real);
      lines = λ e.
          line_left t d e flit outcome past (d == e) (p ∷ []) refl (now.links (d / 2)) known is
          ∙ ap₂ (λ (b : Bool) (l : List Packet). without_if b 0 l) (and-true (d == e))
          (agrees.lines e)
          ∙ sym (ap (λ (b : Bool). without_if (d == e) 0 (hop_contents m moved (hops.Line e))
          ++ hop_if b (seen t p)) (ap (λ o. is_at_hop o (hops.Line e)) next_is
          ∙ no_line_after (is_token p) d e)
          ∙ append-nil (without_if (d == e) 0 (hop_contents m moved (hops.Line e))));
    }
landed_held setup m past moved d flit outcome (p ∷ q ∷ rest) wires keeps now agrees right stays
    known is few = absurd (omega arith)

-- ---- a copy comes onto a line

abbrev pub copy_if : Bool → PacketFields → List PacketFields
copy_if true copy = copy ∷ []
copy_if false copy = []

pub seen_if : (topology : Topology) (here : Bool) (copy : PacketFields) →
    map (seen topology) (copy_if here copy) ≡ hop_if here (seen topology copy)
seen_if topology true copy = refl
seen_if topology false copy = refl

pub comes_held : (topology : Topology) (m : Map) (inside : QueueId → List PacketFields)
    (line longer : ℕ → List PacketFields) (moved : List Move) (onto : ℕ) (copy : PacketFields) →
    Held topology m inside line moved
    → ((e : ℕ) → longer e ≡ line e ++ copy_if (onto == e) copy) →
    Held topology m inside longer (Comes (hops.Line onto) (seen topology copy) ∷ moved)
unfolding hop_contents
comes_held topology m inside line longer moved onto copy held more = record {
  queues = λ q real.
      held.queues q real ∙ sym (ap (λ (b : Bool). hop_contents m moved (hop_queue topology q)
      ++ hop_if b (seen topology copy)) (line_off topology q onto)
      ∙ append-nil (hop_contents m moved (hop_queue topology q)));
  lines = λ e.
      ap (map (seen topology)) (more e) ∙ map-append (seen topology) (line e)
      (copy_if (onto == e) copy) ∙ ap₂ (λ (l k : List Packet). l ++ k) (held.lines e)
      (seen_if topology (onto == e) copy);
}

-- the lines after the end of a gathering
pub copy_lines : (topology : Topology) (entry : Entry) (past : List Entry) (onto : ℕ)
    (copy : PacketFields) (e : ℕ) (here : Bool) → (onto == e) ≡ here →
    known_on topology onto (entry ∷ past) ≡ known_on topology onto past ++ copy ∷ []
    → ((k : ℕ) → (onto == k) ≡ false → known_on topology k (entry ∷ past)
    ≡ known_on topology k past) → length (accepted topology onto (entry ∷ past)) ≤ length
    (known_on topology onto past)
    → line_on topology e (entry ∷ past) ≡ left_on topology entry past e ++ copy_if here copy
copy_lines topology entry past onto copy e true at known others within =
    let n = length (accepted topology onto (entry ∷ past)) in
    subst (λ (k : ℕ). line_on topology k (entry ∷ past) ≡ left_on topology entry past k
    ++ copy ∷ []) (eqb-true onto e at) (ap (drop n) known
    ∙ drop-append-le n (known_on topology onto past) (copy ∷ []) within)
copy_lines topology entry past onto copy e false at known others within =
    ap (drop (length (accepted topology e (entry ∷ past)))) (others e at)
    ∙ sym (append-nil (left_on topology entry past e))
