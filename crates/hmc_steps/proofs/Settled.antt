-- A link is settled by its list exactly where it is by numbers.
use Rattle.std.proofs.Common.{◌≡◌, ◌≢◌, ◌∙◌, ◌%◌, ℕ, zero, suc, Bool, true, false, List, [], ◌∷◌, ◌++◌, length, drop, map, Option, Some, None, refl, sym, ap, subst, arith, length-append}
use Rattle.std.specs.Prelude.{◌||◌, if◌then◌else◌}
use Rattle.std.proofs.lemmas.List.{map_push, drop-append-le}
use Rattle.std.proofs.lemmas.List.Elements.{All-nil, All-cons, All-head, All-tail}
use Rattle.std.specs.List.{All}
use Rattle.hmc_codes.specs.Link.{LinkFields}
use Rattle.hmc_codes.specs.declared.profile.Profile.{Profile}
use Rattle.hmc_packet.specs.declared.kind.Kind.TheVariants as outer_kinds
use Rattle.hmc_packet.specs.declared.outcome.Outcome as outer_outcome
use Rattle.hmc_packet.specs.declared.outcome.Outcome.TheVariants as out
use Rattle.hmc_packet.specs.declared.view.Mode as outer_mode
use Rattle.hmc_packet.specs.declared.view.Mode.TheVariants as outer_modes
use Rattle.hmc_packet.specs.declared.what.What.{What}
use Rattle.hmc_packet.specs.declared.what.What.TheVariants as what
use Rattle.hmc_packet.specs.Landings as receipts
use Rattle.hmc_packet.specs.Receptions.{reception_of}
use Rattle.hmc_send.specs.declared.toward.Toward.{Toward}
use Rattle.hmc_send.specs.declared.toward.Toward.TheVariants.{Forth, Back}
use Rattle.hmc_send.specs.Entries.{SenderEntry, Given, Part, or_null, places, unfinished}
use Rattle.hmc_send.specs.LinkEntries.{LinkEntry, LinkEntry as entry, receiver_entries}
use Rattle.hmc_packet.specs.Masks.{changes}
use Rattle.hmc_send.specs.LinkLines.{sent_flits, stamped_flit, landings, is_pending_changed}
use Rattle.hmc_send.specs.LinkSenders.{sender_entries, given_in}
use Rattle.hmc_numbers.specs.Direction.{Direction, Item, Reached, Reached as far, Filler as fill, rest}
use Rattle.hmc_numbers.specs.Direction.Item.{filler, clear, part}
use Rattle.hmc_numbers.specs.Events.{Reading, Event, Event as events}
use Rattle.hmc_numbers.specs.May.{IsGood}
use Rattle.hmc_numbers.specs.Pair.{Half, Way as ways, way, own_after, other_after}
use Rattle.hmc_numbers.specs.Weights.{Weight}
use Rattle.hmc_wire.specs.EntryTurns.{turns_of, sent_event, unless_begun, next_place, weight, event_by, counted_move, landed_event}
use Rattle.hmc_wire.specs.FieldsAre.{half_after}
use Rattle.hmc_wire.specs.LinkLaws.{IsKept}
use Rattle.hmc_wire.proofs.Actions.{item_of}
use Rattle.hmc_wire.proofs.ActionWays.{sends, lands_line}
use Rattle.hmc_wire.proofs.EntryTurns.{kept-before, fields-are}
use Rattle.hmc_wire.proofs.GrammarLandings as inner
use Rattle.hmc_wire.proofs.GrammarLandings.{Mode}
use Rattle.hmc_wire.proofs.Matches.{IsAt}
use Rattle.hmc_wire.proofs.PacketGrammar.{grammar}
use Rattle.hmc_wire.proofs.Spelled.{Sent}
use Rattle.hmc_wire.proofs.Words.{mode_as}
use Rattle.hmc_link_state.specs.State.{HaveNoStart, IsNoStart as IsNoStartItem, IsSettledSide}
use Rattle.hmc_link_state.specs.Steps.{IsSettledLink}
use Rattle.hmc_journal.specs.Settled.{sent_whats, line_whats, IsSettledDirection, IsSettled}
use Rattle.hmc_steps.specs.SideIn.{side_in, link_in}
use Rattle.hmc_steps.proofs.Wired.{wired}

-- ---- Starts

abbrev pub start_item : Item → Bool
start_item (filler fill.start) = true
start_item x = false

abbrev pub start_what : What → Bool
start_what what.Start = true
start_what w = false

begun-sends : (u : Option Part) (e : Event) → way e ≡ ways.sends →
    way (unless_begun u e) ≡ ways.sends
begun-sends None e h = h
begun-sends (Some begun) e h = refl

begun-starts : (u : Option Part) (d : Direction) (e : Event) → start_item (item_of d e) ≡ false →
    start_item (item_of d (unless_begun u e)) ≡ false
begun-starts None d e h = h
begun-starts (Some begun) d e h = refl

pub event-sends : (q : Profile) (t : List SenderEntry) (given : Given) (w : What) →
    way (sent_event q t given w) ≡ ways.sends
event-sends q t given what.Train = refl
event-sends q t given what.Null = refl
event-sends q t given what.Pret = refl
event-sends q t given what.Start = refl
event-sends q t given what.Clear = refl
event-sends q t given what.Tret = refl
event-sends q t given what.New =
    begun-sends (unfinished t)
    (events.begins (weight (next_place q given.due (or_null given.front) (places q t)))) refl
event-sends q t given what.Again = begun-sends (unfinished t) events.begins_again refl

event-starts : (q : Profile) (t : List SenderEntry) (given : Given) (w : What) (d : Direction) →
    start_item (item_of d (sent_event q t given w)) ≡ start_what w
event-starts q t given what.Train d = refl
event-starts q t given what.Null d = refl
event-starts q t given what.Pret d = refl
event-starts q t given what.Start d = refl
event-starts q t given what.Clear d = refl
event-starts q t given what.Tret d = refl
event-starts q t given what.New d =
    begun-starts (unfinished t) d
    (events.begins (weight (next_place q given.due (or_null given.front) (places q t)))) refl
event-starts q t given what.Again d = begun-starts (unfinished t) d events.begins_again refl

touched-lands : (touched changed : Bool) →
    way (if touched then events.spoils changed else events.gathers) ≡ ways.lands
touched-lands true changed = refl
touched-lands false changed = refl

pub event-lands : (m : outer_mode.Mode) (touched changed : Bool) (reading : Reading)
    (o : outer_outcome.Outcome) → way (event_by m touched changed reading o) ≡ ways.lands
event-lands outer_modes.Train touched changed reading out.Trained = refl
event-lands outer_modes.Train touched changed reading _ = refl
event-lands outer_modes.Abort touched changed reading (out.Ran outer_kinds.Clear) = refl
event-lands outer_modes.Abort touched changed reading (out.Ran outer_kinds.Start) = refl
event-lands outer_modes.Abort touched changed reading _ = refl
event-lands outer_modes.Good touched changed reading out.Gathered = touched-lands touched changed
event-lands outer_modes.Good touched changed reading (out.Ran outer_kinds.Clear) = refl
event-lands outer_modes.Good touched changed reading (out.Ran outer_kinds.Start) = refl
event-lands outer_modes.Good touched changed reading _ = refl

pub own-line : (h : Half) (n : ℕ) (rrp : Option ℕ) (e : Event) → way e ≡ ways.lands →
    (own_after h n (counted_move rrp e)).direction.line ≡ rest h.direction.line
own-line h n None e l = (lands_line h.direction e l).0
own-line h n (Some r) e l = (lands_line h.direction e l).0

pub other-line : (h k : Half) (rrp : Option ℕ) (e : Event) →
    (other_after h k (counted_move rrp e)).direction.line ≡ k.direction.line
other-line h k None e = refl
other-line h k (Some r) e = refl

rest-map : (l : List Item) → map start_item (rest l) ≡ drop 1 (map start_item l)
rest-map [] = refl
rest-map (x ∷ l) = refl

pub drop-one : {X : Type 0} (n : ℕ) (l : List X) → drop 1 (drop n l) ≡ drop (suc n) l
drop-one zero l = refl
drop-one (suc n) [] = refl
drop-one (suc n) (x ∷ l) = drop-one n l

drop-map : (n : ℕ) (l : List What) → map start_what (drop n l) ≡ drop n (map start_what l)
drop-map zero l = refl
drop-map (suc n) [] = refl
drop-map (suc n) (x ∷ l) = drop-map n l

abbrev pub LineAs : LinkFields → Toward → List LinkEntry → Type 0
LineAs link d past =
    map start_item (half_after link d past).direction.line ≡ map start_what (line_whats d past)

whats-long_forth : (q : Profile) (past : List LinkEntry) →
    length (sent_whats Forth past) ≡ length (sent_flits q Forth past)
unfolding sent_whats sent_flits
whats-long_forth q [] = refl
whats-long_forth q (entry.handed v packet ∷ past) = whats-long_forth q past
whats-long_forth q (entry.taken v ∷ past) = whats-long_forth q past
whats-long_forth q (entry.sent Forth feed w flit ∷ past) =
    length-append (sent_whats Forth past) (w ∷ [])
    ∙ (let e = whats-long_forth q past in omega arith)
    ∙ sym (length-append (sent_flits q Forth past) (stamped_flit q Forth past flit ∷ []))
whats-long_forth q (entry.sent Back feed w flit ∷ past) = whats-long_forth q past
whats-long_forth q (entry.landed v mask flit o ∷ past) = whats-long_forth q past
whats-long_forth q (entry.unlocked v ∷ past) = whats-long_forth q past
whats-long_forth q (entry.through v head flits ∷ past) = whats-long_forth q past

pub line-as_forth : (link : LinkFields) (past : List LinkEntry) → IsKept link past →
    LineAs link Forth past
unfolding sent_whats line_whats landings turns_of
line-as_forth link [] kept = refl
line-as_forth link (entry.handed v packet ∷ past) kept =
    line-as_forth link past (kept-before link (entry.handed v packet) past kept)
line-as_forth link (entry.taken Forth ∷ past) kept =
    line-as_forth link past (kept-before link (entry.taken Forth) past kept)
line-as_forth link (entry.taken Back ∷ past) kept =
    line-as_forth link past (kept-before link (entry.taken Back) past kept)
line-as_forth link (entry.sent Forth feed w flit ∷ past) kept =
    let before = kept-before link (entry.sent Forth feed w flit) past kept in
    let d = (half_after link Forth past).direction in
    let t = sender_entries link Forth past in
    let given = given_in link Forth past feed in
    let e = sent_event link.profile t given w in
    let count = (wired link Forth past before).way.count in
    let long = whats-long_forth link.profile past in
    ap (map start_item) (sends d e (event-sends link.profile t given w)).line
    ∙ map_push start_item d.line (item_of d e)
    ∙ (λ i. line-as_forth link past before i ++ event-starts link.profile t given w d i ∷ [])
    ∙ sym (map_push start_what (drop (landings Forth past) (sent_whats Forth past)) w)
    ∙ ap (map start_what)
    (sym (drop-append-le (landings Forth past) (sent_whats Forth past) (w ∷ []) (omega arith)))
line-as_forth link (entry.sent Back feed w flit ∷ past) kept =
    line-as_forth link past (kept-before link (entry.sent Back feed w flit) past kept)
line-as_forth link (entry.landed Forth mask flit o ∷ past) kept =
    let before = kept-before link (entry.landed Forth mask flit o) past kept in
    let h = half_after link Forth past in
    let e = landed_event link Forth past mask flit o in
    ap (map start_item)
    (own-line h (half_after link Back past).direction.accepted
    (reception_of link.profile (receiver_entries Forth past) flit).rrp e
    (event-lands (receipts.mode (receiver_entries Forth past))
    (changes mask || is_pending_changed Forth past) (changes mask) _ o))
    ∙ rest-map h.direction.line
    ∙ ap (λ (l : List Bool). drop 1 l) (line-as_forth link past before
    ∙ drop-map (landings Forth past) (sent_whats Forth past))
    ∙ drop-one (landings Forth past) (map start_what (sent_whats Forth past))
    ∙ sym (drop-map (suc (landings Forth past)) (sent_whats Forth past))
line-as_forth link (entry.landed Back mask flit o ∷ past) kept =
    ap (map start_item)
    (other-line (half_after link Back past) (half_after link Forth past)
    (reception_of link.profile (receiver_entries Back past) flit).rrp
    (landed_event link Back past mask flit o))
    ∙ line-as_forth link past (kept-before link (entry.landed Back mask flit o) past kept)
line-as_forth link (entry.unlocked Forth ∷ past) kept =
    line-as_forth link past (kept-before link (entry.unlocked Forth) past kept)
line-as_forth link (entry.unlocked Back ∷ past) kept =
    line-as_forth link past (kept-before link (entry.unlocked Back) past kept)
line-as_forth link (entry.through Forth head flits ∷ past) kept =
    line-as_forth link past (kept-before link (entry.through Forth head flits) past kept)
line-as_forth link (entry.through Back head flits ∷ past) kept =
    line-as_forth link past (kept-before link (entry.through Back head flits) past kept)

whats-long_back : (q : Profile) (past : List LinkEntry) →
    length (sent_whats Back past) ≡ length (sent_flits q Back past)
unfolding sent_whats sent_flits
whats-long_back q [] = refl
whats-long_back q (entry.handed v packet ∷ past) = whats-long_back q past
whats-long_back q (entry.taken v ∷ past) = whats-long_back q past
whats-long_back q (entry.sent Back feed w flit ∷ past) =
    length-append (sent_whats Back past) (w ∷ []) ∙ (let e = whats-long_back q past in omega arith)
    ∙ sym (length-append (sent_flits q Back past) (stamped_flit q Back past flit ∷ []))
whats-long_back q (entry.sent Forth feed w flit ∷ past) = whats-long_back q past
whats-long_back q (entry.landed v mask flit o ∷ past) = whats-long_back q past
whats-long_back q (entry.unlocked v ∷ past) = whats-long_back q past
whats-long_back q (entry.through v head flits ∷ past) = whats-long_back q past

pub line-as_back : (link : LinkFields) (past : List LinkEntry) → IsKept link past →
    LineAs link Back past
unfolding sent_whats line_whats landings turns_of
line-as_back link [] kept = refl
line-as_back link (entry.handed v packet ∷ past) kept =
    line-as_back link past (kept-before link (entry.handed v packet) past kept)
line-as_back link (entry.taken Back ∷ past) kept =
    line-as_back link past (kept-before link (entry.taken Back) past kept)
line-as_back link (entry.taken Forth ∷ past) kept =
    line-as_back link past (kept-before link (entry.taken Forth) past kept)
line-as_back link (entry.sent Back feed w flit ∷ past) kept =
    let before = kept-before link (entry.sent Back feed w flit) past kept in
    let d = (half_after link Back past).direction in
    let t = sender_entries link Back past in
    let given = given_in link Back past feed in
    let e = sent_event link.profile t given w in
    let count = (wired link Back past before).way.count in
    let long = whats-long_back link.profile past in
    ap (map start_item) (sends d e (event-sends link.profile t given w)).line
    ∙ map_push start_item d.line (item_of d e)
    ∙ (λ i. line-as_back link past before i ++ event-starts link.profile t given w d i ∷ [])
    ∙ sym (map_push start_what (drop (landings Back past) (sent_whats Back past)) w)
    ∙ ap (map start_what)
    (sym (drop-append-le (landings Back past) (sent_whats Back past) (w ∷ []) (omega arith)))
line-as_back link (entry.sent Forth feed w flit ∷ past) kept =
    line-as_back link past (kept-before link (entry.sent Forth feed w flit) past kept)
line-as_back link (entry.landed Back mask flit o ∷ past) kept =
    let before = kept-before link (entry.landed Back mask flit o) past kept in
    let h = half_after link Back past in
    let e = landed_event link Back past mask flit o in
    ap (map start_item)
    (own-line h (half_after link Forth past).direction.accepted
    (reception_of link.profile (receiver_entries Back past) flit).rrp e
    (event-lands (receipts.mode (receiver_entries Back past))
    (changes mask || is_pending_changed Back past) (changes mask) _ o))
    ∙ rest-map h.direction.line
    ∙ ap (λ (l : List Bool). drop 1 l) (line-as_back link past before
    ∙ drop-map (landings Back past) (sent_whats Back past))
    ∙ drop-one (landings Back past) (map start_what (sent_whats Back past))
    ∙ sym (drop-map (suc (landings Back past)) (sent_whats Back past))
line-as_back link (entry.landed Forth mask flit o ∷ past) kept =
    ap (map start_item)
    (other-line (half_after link Forth past) (half_after link Back past)
    (reception_of link.profile (receiver_entries Forth past) flit).rrp
    (landed_event link Forth past mask flit o))
    ∙ line-as_back link past (kept-before link (entry.landed Forth mask flit o) past kept)
line-as_back link (entry.unlocked Back ∷ past) kept =
    line-as_back link past (kept-before link (entry.unlocked Back) past kept)
line-as_back link (entry.unlocked Forth ∷ past) kept =
    line-as_back link past (kept-before link (entry.unlocked Forth) past kept)
line-as_back link (entry.through Back head flits ∷ past) kept =
    line-as_back link past (kept-before link (entry.through Back head flits) past kept)
line-as_back link (entry.through Forth head flits ∷ past) kept =
    line-as_back link past (kept-before link (entry.through Forth head flits) past kept)

line-as : (link : LinkFields) (d : Toward) (past : List LinkEntry) → IsKept link past →
    LineAs link d past
line-as link Forth past kept = line-as_forth link past kept
line-as link Back past kept = line-as_back link past kept

abbrev AreFalse : List Bool → Type 0
AreFalse [] = Unit {0}
AreFalse (b ∷ l) = (b ≡ false) × AreFalse l

no-start_item : (x : Item) → IsNoStartItem x → start_item x ≡ false
no-start_item (filler fill.null) n = refl
no-start_item (filler fill.train) n = refl
no-start_item (filler fill.pret) n = refl
no-start_item (filler fill.start) n = absurd n
no-start_item clear n = refl
no-start_item (part m k more) n = refl

item-no_start : (x : Item) → start_item x ≡ false → IsNoStartItem x
item-no_start (filler fill.null) n = tt
item-no_start (filler fill.train) n = tt
item-no_start (filler fill.pret) n = tt
item-no_start (filler fill.start) n = absurd (cc n)
item-no_start clear n = tt
item-no_start (part m k more) n = tt

abbrev NotStart : What → Type 0
NotStart w = w ≢ what.Start

no-start_what : (w : What) → NotStart w → start_what w ≡ false
no-start_what what.Train n = refl
no-start_what what.Null n = refl
no-start_what what.Pret n = refl
no-start_what what.Start n = absurd (n refl)
no-start_what what.Clear n = refl
no-start_what what.Tret n = refl
no-start_what what.New n = refl
no-start_what what.Again n = refl

what-no_start : (w : What) → start_what w ≡ false → NotStart w
what-no_start w n = λ is. let clash : true ≡ false = sym (ap start_what is) ∙ n in cc clash

items-false : (l : List Item) → HaveNoStart l → AreFalse (map start_item l)
items-false [] h = tt
items-false (x ∷ l) h = (no-start_item x h.0, items-false l h.1)

false-items : (l : List Item) → AreFalse (map start_item l) → HaveNoStart l
false-items [] h = tt
false-items (x ∷ l) h = (item-no_start x h.0, false-items l h.1)

whats-false : (l : List What) → All NotStart l → AreFalse (map start_what l)
whats-false [] h = tt
whats-false (x ∷ l) h =
    (no-start_what x (All-head NotStart x l h), whats-false l (All-tail NotStart x l h))

false-whats : (l : List What) → AreFalse (map start_what l) → All NotStart l
false-whats [] h = All-nil NotStart
false-whats (x ∷ l) h = All-cons NotStart x l (what-no_start x h.0) (false-whats l h.1)

-- ---- the mode

good-far : (q : Profile) (s : Sent (grammar q)) (ps : List Weight) (x : Reached) (m : Mode)
    (b : Bool) (fs : List (List ℕ)) → IsAt (grammar q) s ps x m b fs → m ≡ inner.good → b ≡ false →
    IsGood x
good-far q s ps far.training m b fs at g n =
    absurd (let clash : inner.training ≡ inner.good = sym at.0 ∙ g in cc clash)
good-far q s ps far.aborting m b fs at g n =
    absurd (let clash : inner.abort ≡ inner.good = sym at.0 ∙ g in cc clash)
good-far q s ps far.between m b fs at g n = tt
good-far q s ps (far.inside i k) m b fs at g n = tt
good-far q s ps far.spoilt m b fs at g n =
    absurd (let clash : true ≡ false = sym at.1 ∙ n in cc clash)

far-good : (q : Profile) (s : Sent (grammar q)) (ps : List Weight) (x : Reached) (m : Mode)
    (b : Bool) (fs : List (List ℕ)) → IsAt (grammar q) s ps x m b fs → IsGood x → (m ≡ inner.good)
    × (b ≡ false)
far-good q s ps far.training m b fs at g = absurd g
far-good q s ps far.aborting m b fs at g = absurd g
far-good q s ps far.between m b fs at g = (at.0, at.1)
far-good q s ps (far.inside i k) m b fs at g = (at.0, at.1)
far-good q s ps far.spoilt m b fs at g = absurd g

mode-good : (m : outer_mode.Mode) → mode_as m ≡ inner.good → m ≡ outer_modes.Good
mode-good outer_modes.Train e = absurd (cc e)
mode-good outer_modes.Abort e = absurd (cc e)
mode-good outer_modes.Good e = refl

-- ---- a direction

pub settled-way : (link : LinkFields) (d : Toward) (past : List LinkEntry) → IsKept link past →
    IsSettledDirection link d past → IsSettledSide (side_in link d past)
settled-way link d past kept is =
    let x = wired link d past kept in
    let w = (half_after link d past).direction in
    let g = grammar link.profile in
    record {
      good =
          good-far link.profile x.s w.first w.far (inner.mode g x.received)
          (inner.is_spoilt g x.received) (inner.pending g x.received) x.linked.matches.place
          (ap (inner.mode g) x.way.received ∙ sym x.way.mirrors.mode ∙ ap mode_as is.good)
          (ap (inner.is_spoilt g) x.way.received ∙ x.way.spoilt ∙ is.unchanged);
      opened = is.opened;
      clears = ap (λ (n : ℕ). n % 32) (fields-are link d past kept).clears ∙ is.clears;
      starts = is.starts;
      back = is.no_go_back;
      line =
          false-items w.line
          (subst AreFalse (sym (line-as link d past kept))
          (whats-false (line_whats d past) is.no_start));
    }

pub way-settled : (link : LinkFields) (d : Toward) (past : List LinkEntry) → IsKept link past →
    IsSettledSide (side_in link d past) → IsSettledDirection link d past
way-settled link d past kept is =
    let x = wired link d past kept in
    let w = (half_after link d past).direction in
    let g = grammar link.profile in
    let good =
    far-good link.profile x.s w.first w.far (inner.mode g x.received)
    (inner.is_spoilt g x.received) (inner.pending g x.received) x.linked.matches.place
    is.good in
    record {
      good =
          mode-good (receipts.mode (receiver_entries d past)) (x.way.mirrors.mode
          ∙ ap (inner.mode g) (sym x.way.received) ∙ good.0);
      opened = is.opened;
      clears = ap (λ (n : ℕ). n % 32) (sym (fields-are link d past kept).clears) ∙ is.clears;
      starts = is.starts;
      no_go_back = is.back;
      no_start =
          false-whats (line_whats d past)
          (subst AreFalse (line-as link d past kept) (items-false w.line is.line));
      unchanged = sym x.way.spoilt ∙ ap (inner.is_spoilt g) (sym x.way.received) ∙ good.1;
    }

pub settled-link : (link : LinkFields) (past : List LinkEntry) → IsKept link past →
    IsSettled link past → IsSettledLink (link_in link past)
settled-link link past kept is =
    (settled-way link Forth past kept is.0, settled-way link Back past kept is.1)

pub link-settled : (link : LinkFields) (past : List LinkEntry) → IsKept link past →
    IsSettledLink (link_in link past) → IsSettled link past
link-settled link past kept is =
    (way-settled link Forth past kept is.0, way-settled link Back past kept is.1)
