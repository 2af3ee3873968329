-- The items on a line by numbers are what its flits were sent as.
use Rattle.std.proofs.Common.{◌≡◌, ◌∙◌, ◌≤◌, ◌+◌, ℕ, suc, Bool, List, [], ◌∷◌, ◌++◌, length, drop, Option, Some, None, refl, sym, ap, subst, arith, length-append}
use Rattle.std.specs.Prelude.{◌||◌}
use Rattle.std.proofs.lemmas.List.{drop-append-le}
use Rattle.hmc_codes.specs.Link.{LinkFields}
use Rattle.hmc_codes.specs.declared.profile.Profile.{Profile}
use Rattle.hmc_codes.proofs.General.{drop-one_more}
use Rattle.hmc_packet.specs.declared.outcome.Outcome.{Outcome}
use Rattle.hmc_packet.specs.declared.view.Mode.{Mode}
use Rattle.hmc_packet.specs.declared.what.What.{What}
use Rattle.hmc_packet.specs.declared.what.What.TheVariants as what
use Rattle.hmc_packet.specs.Irtry.{irtry_in}
use Rattle.hmc_packet.specs.Landings as receipts
use Rattle.hmc_packet.specs.Masks.{changes}
use Rattle.hmc_packet.specs.Receptions.{reception_of}
use Rattle.hmc_numbers.specs.Direction.{Item, rest}
use Rattle.hmc_numbers.specs.Events.{Event, Reading}
use Rattle.hmc_numbers.specs.Pair.{Half, Move, Way as ways, way, own_after, other_after}
use Rattle.hmc_send.specs.Entries.{SenderEntry, Given, Part, unfinished}
use Rattle.hmc_send.specs.LinkEntries.{LinkEntry, LinkEntry as entry, receiver_entries}
use Rattle.hmc_send.specs.LinkLines.{sent_flits, landings, is_pending_changed}
use Rattle.hmc_send.specs.LinkSenders.{sender_entries, given_in}
use Rattle.hmc_send.specs.declared.toward.Toward.{Toward}
use Rattle.hmc_send.specs.declared.toward.Toward.TheVariants.{Forth, Back}
use Rattle.hmc_wire.specs.EntryTurns.{unless_begun, sent_event, event_by, landed_event, counted_move, reading_of, turns_of}
use Rattle.hmc_wire.specs.FieldsAre.{half_after}
use Rattle.hmc_wire.specs.LinkLaws.{IsKept}
use Rattle.hmc_wire.proofs.ActionWays.{lands_line, event_lands}
use Rattle.hmc_wire.proofs.EntryTurns.{kept-before, event-same}
use Rattle.hmc_wire.proofs.Joins.{kept-joins}
use Rattle.hmc_wire.proofs.Words.{mode_as, outcome_as}
use Rattle.hmc_link_laws.specs.Lines.{sent_as, line_as, IsItem, AreItems}

-- ---- an item more, or one less

items-push : (l : List Item) (ws : List What) (x : Item) (w : What) → AreItems l ws → IsItem x w → AreItems (l ++ x ∷ []) (ws ++ w ∷ [])
items-push [] [] x w all is = (is, tt)
items-push [] (v ∷ ws) x w all is = absurd all
items-push (y ∷ l) [] x w all is = absurd all
items-push (y ∷ l) (v ∷ ws) x w all is = (all.0, items-push l ws x w all.1 is)

items-rest : (l : List Item) (ws : List What) → AreItems l ws → AreItems (rest l) (drop 1 ws)
items-rest [] [] all = tt
items-rest [] (v ∷ ws) all = absurd all
items-rest (y ∷ l) [] all = absurd all
items-rest (y ∷ l) (v ∷ ws) all = all.1

-- ---- a send and a landing by numbers

-- a flit begins a packet, or goes on with one
by-begun : (u : Option Part) (e : Event) (h : Half) (n : ℕ) (ws : List What) → AreItems (own_after h n (Move.does e)).direction.line ws → AreItems (own_after h n (Move.does Event.goes_on)).direction.line ws → AreItems (own_after h n (Move.does (unless_begun u e))).direction.line ws
by-begun None e h n ws begins goes = begins
by-begun (Some p) e h n ws begins goes = goes

sent-items : (q : Profile) (t : List SenderEntry) (given : Given) (w : What) (h : Half) (n : ℕ) (ws : List What) → AreItems h.direction.line ws → AreItems (own_after h n (Move.does (sent_event q t given w))).direction.line (ws ++ w ∷ [])
sent-items q t given what.Train h n ws all = items-push h.direction.line ws _ what.Train all tt
sent-items q t given what.Null h n ws all = items-push h.direction.line ws _ what.Null all tt
sent-items q t given what.Pret h n ws all = items-push h.direction.line ws _ what.Pret all tt
sent-items q t given what.Start h n ws all = items-push h.direction.line ws _ what.Start all tt
sent-items q t given what.Clear h n ws all = items-push h.direction.line ws _ what.Clear all tt
sent-items q t given what.Tret h n ws all = items-push h.direction.line ws _ what.Tret all tt
sent-items q t given what.New h n ws all =
    by-begun (unfinished t) _ h n (ws ++ what.New ∷ []) (items-push h.direction.line ws _ what.New all tt) (items-push h.direction.line ws _ what.New all tt)
sent-items q t given what.Again h n ws all =
    by-begun (unfinished t) _ h n (ws ++ what.Again ∷ []) (items-push h.direction.line ws _ what.Again all tt) (items-push h.direction.line ws _ what.Again all tt)

landed-items : (o : Option ℕ) (e : Event) (h : Half) (n : ℕ) (ws : List What) → way e ≡ ways.lands → AreItems h.direction.line ws → AreItems (own_after h n (counted_move o e)).direction.line (drop 1 ws)
landed-items None e h n ws lands all = subst (λ (l : List Item). AreItems l (drop 1 ws)) (sym (lands_line h.direction e lands).0) (items-rest h.direction.line ws all)
landed-items (Some rrp) e h n ws lands all = subst (λ (l : List Item). AreItems l (drop 1 ws)) (sym (lands_line h.direction e lands).0) (items-rest h.direction.line ws all)

-- a landing of the other direction leaves the line
pub other-line : (o : Option ℕ) (e : Event) (own other : Half) → (other_after own other (counted_move o e)).direction.line ≡ other.direction.line
other-line None e own other = refl
other-line (Some rrp) e own other = refl

pub event-lands : (m : Mode) (touched changed : Bool) (reading : Reading) (o : Outcome) → way (event_by m touched changed reading o) ≡ ways.lands
event-lands m touched changed reading o = ap way (sym (event-same m touched changed reading o)) ∙ event_lands (mode_as m) touched changed reading (outcome_as o)

-- ---- as many were sent as there are flits

pub length-as : (q : Profile) (d : Toward) (past : List LinkEntry) → length (sent_as d past) ≡ length (sent_flits q d past)
unfolding sent_as sent_flits
length-as q d [] = refl
length-as q Forth (entry.sent Forth feed w flit ∷ past) = length-append (sent_as Forth past) (w ∷ []) ∙ ap (λ (n : ℕ). n + 1) (length-as q Forth past) ∙ sym (length-append (sent_flits q Forth past) _)
length-as q Back (entry.sent Back feed w flit ∷ past) = length-append (sent_as Back past) (w ∷ []) ∙ ap (λ (n : ℕ). n + 1) (length-as q Back past) ∙ sym (length-append (sent_flits q Back past) _)
length-as q Forth (entry.sent Back feed w flit ∷ past) = length-as q Forth past
length-as q Back (entry.sent Forth feed w flit ∷ past) = length-as q Back past
length-as q d (entry.handed toward packet ∷ past) = length-as q d past
length-as q d (entry.taken way ∷ past) = length-as q d past
length-as q d (entry.landed way mask flit o ∷ past) = length-as q d past
length-as q d (entry.unlocked way ∷ past) = length-as q d past
length-as q d (entry.through way head flits ∷ past) = length-as q d past

pub landed-few : (link : LinkFields) (d : Toward) (past : List LinkEntry) → IsKept link past → landings d past ≤ length (sent_as d past)
landed-few link Forth past kept = let count = (kept-joins 0 link past kept).forth.count in let same = length-as link.profile Forth past in omega arith
landed-few link Back past kept = let count = (kept-joins 0 link past kept).back.count in let same = length-as link.profile Back past in omega arith

-- ---- the line of a list

line-push : (link : LinkFields) (d : Toward) (past : List LinkEntry) (w : What) (l : List Item) → IsKept link past → AreItems l (line_as d past ++ w ∷ []) → AreItems l (drop (landings d past) (sent_as d past ++ w ∷ []))
line-push link d past w l kept all = subst (AreItems l) (sym (drop-append-le (landings d past) (sent_as d past) (w ∷ []) (landed-few link d past kept))) all

line-rest : (d : Toward) (past : List LinkEntry) (l : List Item) → AreItems l (drop 1 (line_as d past)) → AreItems l (drop (suc (landings d past)) (sent_as d past))
line-rest d past l all = subst (AreItems l) (sym (drop-one_more (landings d past) (sent_as d past))) all

pub items-are : (link : LinkFields) (d : Toward) (past : List LinkEntry) → IsKept link past → AreItems (half_after link d past).direction.line (line_as d past)
unfolding turns_of sent_as landings
items-are link Forth [] kept = tt
items-are link Back [] kept = tt
items-are link Forth (entry.sent Forth feed w flit ∷ past) kept =
    let before = kept-before link (entry.sent Forth feed w flit) past kept in
    line-push link Forth past w _ before (sent-items link.profile (sender_entries link Forth past) (given_in link Forth past feed) w (half_after link Forth past) 0 (line_as Forth past) (items-are link Forth past before))
items-are link Back (entry.sent Back feed w flit ∷ past) kept =
    let before = kept-before link (entry.sent Back feed w flit) past kept in
    line-push link Back past w _ before (sent-items link.profile (sender_entries link Back past) (given_in link Back past feed) w (half_after link Back past) 0 (line_as Back past) (items-are link Back past before))
items-are link Forth (entry.sent Back feed w flit ∷ past) kept = items-are link Forth past (kept-before link (entry.sent Back feed w flit) past kept)
items-are link Back (entry.sent Forth feed w flit ∷ past) kept = items-are link Back past (kept-before link (entry.sent Forth feed w flit) past kept)
items-are link Forth (entry.landed Forth mask flit o ∷ past) kept =
    let before = kept-before link (entry.landed Forth mask flit o) past kept in
    line-rest Forth past _ (landed-items (reception_of link.profile (receiver_entries Forth past) flit).rrp (landed_event link Forth past mask flit o) (half_after link Forth past) (half_after link Back past).direction.accepted (line_as Forth past)
    (event-lands (receipts.mode (receiver_entries Forth past)) (changes mask || is_pending_changed Forth past) (changes mask) (reading_of (irtry_in link.profile flit)) o) (items-are link Forth past before))
items-are link Back (entry.landed Back mask flit o ∷ past) kept =
    let before = kept-before link (entry.landed Back mask flit o) past kept in
    line-rest Back past _ (landed-items (reception_of link.profile (receiver_entries Back past) flit).rrp (landed_event link Back past mask flit o) (half_after link Back past) (half_after link Forth past).direction.accepted (line_as Back past)
    (event-lands (receipts.mode (receiver_entries Back past)) (changes mask || is_pending_changed Back past) (changes mask) (reading_of (irtry_in link.profile flit)) o) (items-are link Back past before))
items-are link Forth (entry.landed Back mask flit o ∷ past) kept =
    let before = kept-before link (entry.landed Back mask flit o) past kept in
    subst (λ (l : List Item). AreItems l (line_as Forth past)) (sym (other-line (reception_of link.profile (receiver_entries Back past) flit).rrp (landed_event link Back past mask flit o) (half_after link Back past) (half_after link Forth past)))
    (items-are link Forth past before)
items-are link Back (entry.landed Forth mask flit o ∷ past) kept =
    let before = kept-before link (entry.landed Forth mask flit o) past kept in
    subst (λ (l : List Item). AreItems l (line_as Back past)) (sym (other-line (reception_of link.profile (receiver_entries Forth past) flit).rrp (landed_event link Forth past mask flit o) (half_after link Forth past) (half_after link Back past)))
    (items-are link Back past before)
items-are link d (entry.handed toward packet ∷ past) kept = items-are link d past (kept-before link (entry.handed toward packet) past kept)
items-are link Forth (entry.taken Forth ∷ past) kept = items-are link Forth past (kept-before link (entry.taken Forth) past kept)
items-are link Back (entry.taken Back ∷ past) kept = items-are link Back past (kept-before link (entry.taken Back) past kept)
items-are link Forth (entry.taken Back ∷ past) kept = items-are link Forth past (kept-before link (entry.taken Back) past kept)
items-are link Back (entry.taken Forth ∷ past) kept = items-are link Back past (kept-before link (entry.taken Forth) past kept)
items-are link Forth (entry.unlocked Forth ∷ past) kept = items-are link Forth past (kept-before link (entry.unlocked Forth) past kept)
items-are link Back (entry.unlocked Back ∷ past) kept = items-are link Back past (kept-before link (entry.unlocked Back) past kept)
items-are link Forth (entry.unlocked Back ∷ past) kept = items-are link Forth past (kept-before link (entry.unlocked Back) past kept)
items-are link Back (entry.unlocked Forth ∷ past) kept = items-are link Back past (kept-before link (entry.unlocked Forth) past kept)
items-are link Forth (entry.through Forth head flits ∷ past) kept = items-are link Forth past (kept-before link (entry.through Forth head flits) past kept)
items-are link Back (entry.through Back head flits ∷ past) kept = items-are link Back past (kept-before link (entry.through Back head flits) past kept)
items-are link Forth (entry.through Back head flits ∷ past) kept = items-are link Forth past (kept-before link (entry.through Back head flits) past kept)
items-are link Back (entry.through Forth head flits ∷ past) kept = items-are link Back past (kept-before link (entry.through Forth head flits) past kept)
