-- The line by numbers has the items of the pieces of the wire.
use Rattle.std.proofs.Common.{◌≡◌, ◌∙◌, ◌≤◌, ◌<◌, ◌+◌, ◌-◌, ℕ, zero, suc, max, List, [], ◌∷◌, ◌++◌, length, drop, map, Option, Some, None, refl, sym, ap, subst, arith, append_assoc, append-nil, length-append}
use Rattle.std.specs.Prelude.{◌||◌, slice_get}
use Rattle.std.proofs.lemmas.List.{drop-append-le, length-map}
use Rattle.hmc_codes.specs.Link.{LinkFields}
use Rattle.hmc_codes.specs.declared.profile.Profile.{Profile}
use Rattle.hmc_codes.proofs.General.{drop-one_more}
use Rattle.hmc_packet.specs.declared.kind.Kind.TheVariants as kinds
use Rattle.hmc_packet.specs.declared.outcome.Outcome.{Outcome}
use Rattle.hmc_packet.specs.declared.outcome.Outcome.TheVariants as out
use Rattle.hmc_packet.specs.declared.what.What.{What}
use Rattle.hmc_packet.specs.declared.what.What.TheVariants as what
use Rattle.hmc_packet.specs.Irtry.{irtry_in}
use Rattle.hmc_packet.specs.Landings as receipts
use Rattle.hmc_packet.specs.Masks.{changes}
use Rattle.hmc_packet.specs.Receptions.{reception_of}
use Rattle.hmc_numbers.specs.Direction.{Item, Direction, begun, rest}
use Rattle.hmc_numbers.specs.Direction.Item.{part}
use Rattle.hmc_numbers.specs.Direction as numbers
use Rattle.hmc_numbers.specs.Events.{Event, happens}
use Rattle.hmc_numbers.specs.Events.Event.{begins, begins_again, goes_on}
use Rattle.hmc_numbers.specs.Pair.{Half, Way as ways, way, own_after, other_after}
use Rattle.hmc_numbers.specs.Weights.{Weight, size}
use Rattle.hmc_numbers.proofs.Sums.{size-append, size-snoc}
use Rattle.hmc_send.specs.Entries.{SenderEntry, Given, Part, unfinished, places, last_begun, position}
use Rattle.hmc_send.specs.LinkEntries.{LinkEntry, LinkEntry as entry, receiver_entries}
use Rattle.hmc_send.specs.LinkLines.{StampedFlit, sent_flits, landings, line, is_pending_changed}
use Rattle.hmc_send.specs.LinkSenders.{sender_entries, given_in, given_after, run_entries, acknowledgement}
use Rattle.hmc_send.specs.Places.{Place, flits_at, place_at}
use Rattle.hmc_send.specs.declared.toward.Toward.{Toward}
use Rattle.hmc_send.specs.declared.toward.Toward.TheVariants.{Forth, Back}
use Rattle.hmc_wire.specs.EntryTurns.{weight, left_of, unless_begun, sent_event, landed_event, counted_move, reading_of, turns_of}
use Rattle.hmc_wire.specs.FieldsAre.{half_after}
use Rattle.hmc_wire.specs.LinkLaws.{IsKept}
use Rattle.hmc_wire.proofs.ActionWays.{lands_line}
use Rattle.hmc_wire.proofs.EntryTurns.{kept-before, fields-are}
use Rattle.hmc_wire.proofs.Parts.{Sends, PartsFit}
use Rattle.hmc_wire.proofs.Places.{size-weight}
use Rattle.hmc_link_laws.specs.Items.{alone_item, packet_items, items_of_pieces, items_on}
use Rattle.hmc_link_laws.specs.Wire.{Transmission, Piece, with_flit, pieces, flits_of_pieces, AreWhole, ArePieces}
use Rattle.hmc_link_laws.proofs.Items.{event-lands, landed-few, length-as, other-line}
use Rattle.hmc_link_laws.proofs.LinkWires.{facts-of, wire-is}

-- ---- the items by the sizes of numbers

abbrev items_in : List Weight → Piece → List Item
items_in ps (Piece.alone as_what rrp flit) = alone_item as_what ∷ []
items_in ps (Piece.packet x) = packet_items (suc x.number) (size ps (suc x.number)) (length x.flits)

abbrev items_by : List Weight → List Piece → List Item
items_by ps [] = []
items_by ps (piece ∷ past) = items_by ps past ++ items_in ps piece

-- the packets are among so many
abbrev Within : (most : ℕ) → List Piece → Type 0
Within most [] = Unit {0}
Within most (Piece.alone as_what rrp flit ∷ past) = Within most past
Within most (Piece.packet x ∷ past) = (suc x.number ≤ most) × Within most past

within-whole : (q : Profile) (l : List Place) (ps : List Piece) → AreWhole q l ps → Within (length l) ps
within-whole q l [] are = tt
within-whole q l (Piece.alone w rrp flit ∷ ps) are = within-whole q l ps are.1
within-whole q l (Piece.packet x ∷ ps) are = let few = are.0.begun in (omega arith, within-whole q l ps are.1)

within-of : (q : Profile) (l : List Place) (u : Option Part) (last : ℕ) (ps : List Piece) → last ≤ length l → ArePieces q l u last ps → Within (length l) ps
within-of q l None last ps few are = within-whole q l ps are
within-of q l (Some p) last [] few are = absurd are
within-of q l (Some p) last (Piece.alone w rrp flit ∷ ps) few are = absurd are
within-of q l (Some p) last (Piece.packet x ∷ ps) few are = let number = are.0.number in (omega arith, within-whole q l ps are.1)

-- more packets change no item
items-more : (ws new : List Weight) (ps : List Piece) → Within (length ws) ps → items_by (ws ++ new) ps ≡ items_by ws ps
items-more ws new [] few = refl
items-more ws new (Piece.alone w rrp flit ∷ ps) few = ap (λ (l : List Item). l ++ alone_item w ∷ []) (items-more ws new ps few)
items-more ws new (Piece.packet x ∷ ps) few =
    λ i. items-more ws new ps few.1 i ++ packet_items (suc x.number) (size-append ws new (suc x.number) few.0 i) (length x.flits)

-- they are those of the places
items-same : (l : List Place) (ws : List Weight) (ps : List Piece) → ws ≡ map weight l → Within (length l) ps → items_by ws ps ≡ items_of_pieces l ps
items-same l ws [] is few = refl
items-same l ws (Piece.alone w rrp flit ∷ ps) is few = ap (λ (k : List Item). k ++ alone_item w ∷ []) (items-same l ws ps is few)
items-same l ws (Piece.packet x ∷ ps) is few =
    let long : size ws (suc x.number) ≡ flits_at (place_at l (suc x.number)) = ap (λ (v : List Weight). size v (suc x.number)) is ∙ size-weight l (suc x.number) (omega arith) few.0 in
    λ i. items-same l ws ps is few.1 i ++ packet_items (suc x.number) (long i) (length x.flits)

-- one for each flit
count-items : (n flits count : ℕ) → length (packet_items n flits count) ≡ count
count-items n flits zero = refl
count-items n flits (suc k) = let before = count-items n flits k in let more = length-append (packet_items n flits k) (part n k (flits - suc k) ∷ []) in omega arith

items-length : (ws : List Weight) (ps : List Piece) → length (items_by ws ps) ≡ length (flits_of_pieces ps)
items-length ws [] = refl
items-length ws (Piece.alone w rrp flit ∷ ps) =
    length-append (items_by ws ps) (alone_item w ∷ []) ∙ ap (λ (n : ℕ). n + 1) (items-length ws ps) ∙ sym (length-append (flits_of_pieces ps) (flit ∷ []))
items-length ws (Piece.packet x ∷ ps) =
    length-append (items_by ws ps) (packet_items (suc x.number) (size ws (suc x.number)) (length x.flits))
    ∙ (λ i. items-length ws ps i + count-items (suc x.number) (size ws (suc x.number)) (length x.flits) i) ∙ sym (length-append (flits_of_pieces ps) x.flits)

-- ---- a flit more

record Adds (v w : Direction) (ps next : List Piece) : Type 0 where
  item : Item
  line : w.line ≡ v.line ++ item ∷ []
  items : items_by w.first next ≡ items_by v.first ps ++ item ∷ []

adds-first : (v : Direction) (s : Weight) (number rrp : ℕ) (flit : List ℕ) (ps : List Piece) → Within (length v.first) ps → number ≡ length v.first → Adds v (happens v (begins s)) ps (with_flit None number rrp flit ps)
adds-first v s number rrp flit ps few is =
    let ws = v.first ++ s ∷ [] in
    let index : begun v + 1 ≡ suc number = omega arith in
    let long : size ws (begun v + 1) ≡ s.flits = size-snoc v.first s in
    let none : size ws (begun v + 1) - s.flits ≡ 0 = omega arith in
    let left : s.flits - 1 ≡ size ws (suc number) - 1 = ap (λ (n : ℕ). n - 1) (sym long ∙ ap (size ws) index) in
    record {
      item = part (suc number) 0 (size ws (suc number) - 1);
      line = ap (λ (x : Item). v.line ++ x ∷ []) (λ i. part (index i) (none i) (left i));
      items = ap (λ (l : List Item). l ++ part (suc number) 0 (size ws (suc number) - 1) ∷ []) (items-more v.first (s ∷ []) ps few);
    }

adds-again : (v : Direction) (number rrp : ℕ) (flit : List ℕ) (ps : List Piece) → number ≡ numbers.position v → Adds v (happens v begins_again) ps (with_flit None number rrp flit ps)
adds-again v number rrp flit ps is =
    let n = numbers.position v + 1 in
    let index : n ≡ suc number = omega arith in
    let none : size v.first n - size v.first n ≡ 0 = omega arith in
    let left : size v.first n - 1 ≡ size v.first (suc number) - 1 = ap (λ (k : ℕ). size v.first k - 1) index in
    record {
      item = part (suc number) 0 (size v.first (suc number) - 1);
      line = ap (λ (x : Item). v.line ++ x ∷ []) (λ i. part (index i) (none i) (left i));
      items = refl;
    }

adds-next : (v : Direction) (p : Part) (number rrp : ℕ) (flit : List ℕ) (x : Transmission) (ps : List Piece) → v.last ≡ suc x.number → x.flits ≡ p.sent → v.left ≡ p.flits - length p.sent → size v.first v.last ≡ p.flits → length p.sent < p.flits →
    Adds v (happens v goes_on) (Piece.packet x ∷ ps) (with_flit (Some p) number rrp flit (Piece.packet x ∷ ps))
adds-next v p number rrp flit x ps last flits left long more =
    let n = suc x.number in
    let k = length x.flits in
    let count : length (x.flits ++ flit ∷ []) ≡ suc k = length-append x.flits (flit ∷ []) ∙ omega arith in
    let sent : k ≡ length p.sent = ap (λ (l : List (List ℕ)). length l) flits in
    let whole : size v.first n ≡ p.flits = ap (size v.first) (sym last) ∙ long in
    let before : size v.first v.last - v.left ≡ k = omega arith in
    let after : v.left - 1 ≡ size v.first n - suc k = omega arith in
    record {
      item = part n k (size v.first n - suc k);
      line = ap (λ (y : Item). v.line ++ y ∷ []) (λ i. part (last i) (before i) (after i));
      items =
          ap (λ (m : ℕ). items_by v.first ps ++ packet_items n (size v.first n) m) count
          ∙ sym (append_assoc (items_by v.first ps) (packet_items n (size v.first n) k) (part n k (size v.first n - suc k) ∷ []));
    }

-- a packet under way goes on
adds-under : (q : Profile) (t : List SenderEntry) (v : Direction) (p : Part) (number rrp : ℕ) (flit : List ℕ) (ps : List Piece) → Sends q t v → PartsFit q t → last_begun q t ≤ length (places q t) → unfinished t ≡ Some p → ArePieces q (places q t) (Some p) (last_begun q t) ps →
    Adds v (happens v goes_on) ps (with_flit (Some p) number rrp flit ps)
adds-under q t v p number rrp flit [] sends parts few under are = absurd are
adds-under q t v p number rrp flit (Piece.alone w r f ∷ ps) sends parts few under are = absurd are
adds-under q t v p number rrp flit (Piece.packet x ∷ ps) sends parts few under are =
    let is = parts p under in
    let l = places q t in
    let least = is.least in
    let left : v.left ≡ p.flits - length p.sent = sends.left ∙ ap left_of under in
    let long : size v.first v.last ≡ p.flits = (λ i. size (sends.first i) (sends.last i)) ∙ size-weight l (last_begun q t) least few ∙ sym is.flits in
    adds-next v p number rrp flit x ps (sends.last ∙ sym are.0.number) are.0.flits left long is.more

-- ---- a send

as-many : (q : Profile) (t : List SenderEntry) (v : Direction) → Sends q t v → length v.first ≡ length (places q t)
as-many q t v sends = ap (λ (ws : List Weight). length ws) sends.first ∙ length-map (places q t) weight

in-numbers : (q : Profile) (t : List SenderEntry) (v : Direction) (u : Option Part) → Sends q t v → last_begun q t ≤ length (places q t) → ArePieces q (places q t) u (last_begun q t) (pieces q t) → Within (length v.first) (pieces q t)
in-numbers q t v u sends few are = subst (λ (n : ℕ). Within n (pieces q t)) (sym (as-many q t v sends)) (within-of q (places q t) u (last_begun q t) (pieces q t) few are)

new-adds : (q : Profile) (t : List SenderEntry) (v : Direction) (s : Weight) (u : Option Part) (rrp : ℕ) (flit : List ℕ) → unfinished t ≡ u → Sends q t v → PartsFit q t → last_begun q t ≤ length (places q t) → ArePieces q (places q t) u (last_begun q t) (pieces q t) →
    Adds v (happens v (unless_begun u (begins s))) (pieces q t) (with_flit u (length (places q t)) rrp flit (pieces q t))
new-adds q t v s None rrp flit is sends parts few are = adds-first v s (length (places q t)) rrp flit (pieces q t) (in-numbers q t v None sends few are) (sym (as-many q t v sends))
new-adds q t v s (Some p) rrp flit is sends parts few are = adds-under q t v p (length (places q t)) rrp flit (pieces q t) sends parts few is are

again-adds : (q : Profile) (t : List SenderEntry) (v : Direction) (u : Option Part) (rrp : ℕ) (flit : List ℕ) → unfinished t ≡ u → Sends q t v → PartsFit q t → last_begun q t ≤ length (places q t) → ArePieces q (places q t) u (last_begun q t) (pieces q t) →
    Adds v (happens v (unless_begun u begins_again)) (pieces q t) (with_flit u (position q t) rrp flit (pieces q t))
again-adds q t v None rrp flit is sends parts few are = adds-again v (position q t) rrp flit (pieces q t) (λ i. max (sym sends.acked i) (sym sends.last i))
again-adds q t v (Some p) rrp flit is sends parts few are = adds-under q t v p (position q t) rrp flit (pieces q t) sends parts few is are

sent-adds : (q : Profile) (t : List SenderEntry) (given : Given) (w : What) (flit : List ℕ) (v : Direction) → Sends q t v → PartsFit q t → last_begun q t ≤ length (places q t) → ArePieces q (places q t) (unfinished t) (last_begun q t) (pieces q t) →
    Adds v (happens v (sent_event q t given w)) (pieces q t) (pieces q (SenderEntry.sent given w flit ∷ t))
unfolding pieces
sent-adds q t given what.New flit v sends parts few are = new-adds q t v _ (unfinished t) given.own.rrp flit refl sends parts few are
sent-adds q t given what.Again flit v sends parts few are = again-adds q t v (unfinished t) given.own.rrp flit refl sends parts few are
sent-adds q t given what.Tret flit v sends parts few are = adds-first v _ (length (places q t)) given.own.rrp flit (pieces q t) (in-numbers q t v (unfinished t) sends few are) (sym (as-many q t v sends))
sent-adds q t given what.Train flit v sends parts few are = record { item = alone_item what.Train; line = refl; items = refl }
sent-adds q t given what.Null flit v sends parts few are = record { item = alone_item what.Null; line = refl; items = refl }
sent-adds q t given what.Pret flit v sends parts few are = record { item = alone_item what.Pret; line = refl; items = refl }
sent-adds q t given what.Start flit v sends parts few are = record { item = alone_item what.Start; line = refl; items = refl }
sent-adds q t given what.Clear flit v sends parts few are = record { item = alone_item what.Clear; line = refl; items = refl }

-- ---- of a link

abbrev LineBy : LinkFields → Toward → List LinkEntry → Half → Type 0
LineBy link d past half = half.direction.line ≡ drop (landings d past) (items_by half.direction.first (pieces link.profile (sender_entries link d past)))

sends-of : (link : LinkFields) (d : Toward) (past : List LinkEntry) → IsKept link past → Sends link.profile (sender_entries link d past) (half_after link d past).direction
sends-of link d past kept = let f = fields-are link d past kept in record { first = f.first; acked = f.acked; last = f.last; left = f.left; clears = f.clears }

-- no more flits landed than the pieces have
landed-within : (link : LinkFields) (d : Toward) (past : List LinkEntry) (ws : List Weight) → IsKept link past → landings d past ≤ length (items_by ws (pieces link.profile (sender_entries link d past)))
landed-within link d past ws kept =
    let few = landed-few link d past kept in
    let sent = length-as link.profile d past in
    let flits = ap (λ (l : List (List ℕ)). length l) (wire-is link d past kept).sent in
    let same = length-map (sent_flits link.profile d past) (λ (x : StampedFlit). x.flit) in
    let items = items-length ws (pieces link.profile (sender_entries link d past)) in
    omega arith

line-sent : (link : LinkFields) (d : Toward) (past : List LinkEntry) (given : Given) (w : What) (flit : List ℕ) → IsKept link past → LineBy link d past (half_after link d past) →
    (happens (half_after link d past).direction (sent_event link.profile (sender_entries link d past) given w)).line
    ≡ drop (landings d past) (items_by (happens (half_after link d past).direction (sent_event link.profile (sender_entries link d past) given w)).first (pieces link.profile (SenderEntry.sent given w flit ∷ sender_entries link d past)))
line-sent link d past given w flit kept before =
    let q = link.profile in
    let t = sender_entries link d past in
    let v = (half_after link d past).direction in
    let facts = facts-of link d past kept in
    let a = sent-adds q t given w flit v (sends-of link d past kept) facts.parts facts.last (wire-is link d past kept).whole in
    a.line ∙ ap (λ (l : List Item). l ++ a.item ∷ []) before
    ∙ sym (drop-append-le (landings d past) (items_by v.first (pieces q t)) (a.item ∷ []) (landed-within link d past v.first kept))
    ∙ ap (drop (landings d past)) (sym a.items)

rest-is : (l : List Item) → rest l ≡ drop 1 l
rest-is [] = refl
rest-is (x ∷ l) = refl

line-landed : (o : Option ℕ) (e : Event) (h : Half) (n k : ℕ) (ps : List Piece) → way e ≡ ways.lands → h.direction.line ≡ drop k (items_by h.direction.first ps) →
    (own_after h n (counted_move o e)).direction.line ≡ drop (suc k) (items_by (own_after h n (counted_move o e)).direction.first ps)
line-landed o e h n k ps lands before = by_count o
  where
    same : (happens h.direction e).line ≡ drop (suc k) (items_by (happens h.direction e).first ps)
    same =
        let is = lands_line h.direction e lands in
        is.0 ∙ rest-is h.direction.line ∙ ap (drop 1) before ∙ sym (drop-one_more k (items_by h.direction.first ps)) ∙ ap (λ (ws : List Weight). drop (suc k) (items_by ws ps)) (sym is.1)

    by_count : (c : Option ℕ) → (own_after h n (counted_move c e)).direction.line ≡ drop (suc k) (items_by (own_after h n (counted_move c e)).direction.first ps)
    by_count None = same
    by_count (Some rrp) = same

-- a landing of the other direction
other-first : (o : Option ℕ) (e : Event) (own other : Half) → (other_after own other (counted_move o e)).direction.first ≡ other.direction.first
other-first None e own other = refl
other-first (Some rrp) e own other = refl

pieces-acked : (q : Profile) (rrp : Option ℕ) (front : Option StampedFlit) (t : List SenderEntry) → pieces q (acknowledgement rrp front ++ t) ≡ pieces q t
unfolding pieces
pieces-acked q None front t = refl
pieces-acked q (Some rrp) None t = refl
pieces-acked q (Some rrp) (Some front) t = refl

pieces-ran : (q : Profile) (o : Outcome) (t : List SenderEntry) → pieces q (run_entries o ++ t) ≡ pieces q t
unfolding pieces
pieces-ran q (out.Ran kinds.Start) t = refl
pieces-ran q (out.Ran kinds.Clear) t = refl
pieces-ran q out.Quiet t = refl
pieces-ran q out.Trained t = refl
pieces-ran q out.Gathered t = refl
pieces-ran q out.Accepted t = refl
pieces-ran q out.Poisoned t = refl
pieces-ran q out.Repeat t = refl
pieces-ran q (out.AbortedBad bad) t = refl
pieces-ran q out.AbortedOrder t = refl

pieces-landed : (q : Profile) (o : Outcome) (rrp : Option ℕ) (front : Option StampedFlit) (t : List SenderEntry) → pieces q ((run_entries o ++ acknowledgement rrp front) ++ t) ≡ pieces q t
pieces-landed q o rrp front t = ap (pieces q) (append_assoc (run_entries o) (acknowledgement rrp front) t) ∙ pieces-ran q o (acknowledgement rrp front ++ t) ∙ pieces-acked q rrp front t

line-other : (q : Profile) (o : Outcome) (rrp : Option ℕ) (front : Option StampedFlit) (t : List SenderEntry) (e : Event) (own other : Half) (k : ℕ) → other.direction.line ≡ drop k (items_by other.direction.first (pieces q t)) →
    (other_after own other (counted_move rrp e)).direction.line ≡ drop k (items_by (other_after own other (counted_move rrp e)).direction.first (pieces q ((run_entries o ++ acknowledgement rrp front) ++ t)))
line-other q o rrp front t e own other k before =
    other-line rrp e own other ∙ before ∙ (λ i. drop k (items_by (sym (other-first rrp e own other) i) (sym (pieces-landed q o rrp front t) i)))

-- a cut-through begins with no flit
line-through : (link : LinkFields) (d : Toward) (past : List LinkEntry) (s : Weight) (number : ℕ) → IsKept link past → LineBy link d past (half_after link d past) → number ≡ length (places link.profile (sender_entries link d past)) →
    (half_after link d past).direction.line
    ≡ drop (landings d past) (items_by ((half_after link d past).direction.first ++ s ∷ []) (Piece.packet (record { number = number; flits = []; rrp = 0 }) ∷ pieces link.profile (sender_entries link d past)))
line-through link d past s number kept before is =
    let q = link.profile in
    let t = sender_entries link d past in
    let v = (half_after link d past).direction in
    let few = in-numbers q t v (unfinished t) (sends-of link d past kept) (facts-of link d past kept).last (wire-is link d past kept).whole in
    before ∙ ap (drop (landings d past)) (sym (append-nil (items_by (v.first ++ s ∷ []) (pieces q t)) ∙ items-more v.first (s ∷ []) (pieces q t) few))

line-by : (link : LinkFields) (d : Toward) (past : List LinkEntry) → IsKept link past → LineBy link d past (half_after link d past)
unfolding turns_of sender_entries landings given_after pieces
line-by link Forth [] kept = refl
line-by link Back [] kept = refl
line-by link Forth (entry.sent Forth feed w flit ∷ past) kept =
    let before = kept-before link (entry.sent Forth feed w flit) past kept in
    line-sent link Forth past (given_in link Forth past feed) w flit before (line-by link Forth past before)
line-by link Back (entry.sent Back feed w flit ∷ past) kept =
    let before = kept-before link (entry.sent Back feed w flit) past kept in
    line-sent link Back past (given_in link Back past feed) w flit before (line-by link Back past before)
line-by link Forth (entry.sent Back feed w flit ∷ past) kept = line-by link Forth past (kept-before link (entry.sent Back feed w flit) past kept)
line-by link Back (entry.sent Forth feed w flit ∷ past) kept = line-by link Back past (kept-before link (entry.sent Forth feed w flit) past kept)
line-by link Forth (entry.landed Forth mask flit o ∷ past) kept =
    line-landed (reception_of link.profile (receiver_entries Forth past) flit).rrp (landed_event link Forth past mask flit o) (half_after link Forth past) (half_after link Back past).direction.accepted (landings Forth past) (pieces link.profile (sender_entries link Forth past))
    (event-lands (receipts.mode (receiver_entries Forth past)) (changes mask || is_pending_changed Forth past) (changes mask) (reading_of (irtry_in link.profile flit)) o) (line-by link Forth past (kept-before link (entry.landed Forth mask flit o) past kept))
line-by link Back (entry.landed Back mask flit o ∷ past) kept =
    line-landed (reception_of link.profile (receiver_entries Back past) flit).rrp (landed_event link Back past mask flit o) (half_after link Back past) (half_after link Forth past).direction.accepted (landings Back past) (pieces link.profile (sender_entries link Back past))
    (event-lands (receipts.mode (receiver_entries Back past)) (changes mask || is_pending_changed Back past) (changes mask) (reading_of (irtry_in link.profile flit)) o) (line-by link Back past (kept-before link (entry.landed Back mask flit o) past kept))
line-by link Forth (entry.landed Back mask flit o ∷ past) kept =
    line-other link.profile o (reception_of link.profile (receiver_entries Back past) flit).rrp (slice_get (line link.profile Back past) 0) (sender_entries link Forth past) (landed_event link Back past mask flit o) (half_after link Back past) (half_after link Forth past) (landings Forth past)
    (line-by link Forth past (kept-before link (entry.landed Back mask flit o) past kept))
line-by link Back (entry.landed Forth mask flit o ∷ past) kept =
    line-other link.profile o (reception_of link.profile (receiver_entries Forth past) flit).rrp (slice_get (line link.profile Forth past) 0) (sender_entries link Back past) (landed_event link Forth past mask flit o) (half_after link Forth past) (half_after link Back past) (landings Back past)
    (line-by link Back past (kept-before link (entry.landed Forth mask flit o) past kept))
line-by link d (entry.handed toward packet ∷ past) kept = line-by link d past (kept-before link (entry.handed toward packet) past kept)
line-by link Forth (entry.taken Forth ∷ past) kept = line-by link Forth past (kept-before link (entry.taken Forth) past kept)
line-by link Back (entry.taken Back ∷ past) kept = line-by link Back past (kept-before link (entry.taken Back) past kept)
line-by link Forth (entry.taken Back ∷ past) kept = line-by link Forth past (kept-before link (entry.taken Back) past kept)
line-by link Back (entry.taken Forth ∷ past) kept = line-by link Back past (kept-before link (entry.taken Forth) past kept)
line-by link Forth (entry.unlocked Forth ∷ past) kept = line-by link Forth past (kept-before link (entry.unlocked Forth) past kept)
line-by link Back (entry.unlocked Back ∷ past) kept = line-by link Back past (kept-before link (entry.unlocked Back) past kept)
line-by link Forth (entry.unlocked Back ∷ past) kept = line-by link Forth past (kept-before link (entry.unlocked Back) past kept)
line-by link Back (entry.unlocked Forth ∷ past) kept = line-by link Back past (kept-before link (entry.unlocked Forth) past kept)
line-by link Forth (entry.through Forth head flits ∷ past) kept =
    let before = kept-before link (entry.through Forth head flits) past kept in
    line-through link Forth past _ _ before (line-by link Forth past before) refl
line-by link Back (entry.through Back head flits ∷ past) kept =
    let before = kept-before link (entry.through Back head flits) past kept in
    line-through link Back past _ _ before (line-by link Back past before) refl
line-by link Forth (entry.through Back head flits ∷ past) kept = line-by link Forth past (kept-before link (entry.through Back head flits) past kept)
line-by link Back (entry.through Forth head flits ∷ past) kept = line-by link Back past (kept-before link (entry.through Forth head flits) past kept)

pub line-items : (link : LinkFields) (d : Toward) (past : List LinkEntry) → IsKept link past → (half_after link d past).direction.line ≡ items_on link d past
line-items link d past kept =
    let q = link.profile in
    let t = sender_entries link d past in
    let v = (half_after link d past).direction in
    let few = within-of q (places q t) (unfinished t) (last_begun q t) (pieces q t) (facts-of link d past kept).last (wire-is link d past kept).whole in
    line-by link d past kept ∙ ap (drop (landings d past)) (items-same (places q t) v.first (pieces q t) (fields-are link d past kept).first few)
