-- A send of a link's sender is a send by numbers.
use Rattle.std.proofs.Common.{◌≡◌, ◌∙◌, ◌+◌, ◌%◌, ◌≤◌, ℕ, zero, suc, Bool, true, false, List, [], ◌∷◌, length, drop, map, Option, Some, None, refl, sym, ap, subst, arith}
use Rattle.std.specs.Prelude.{◌==◌, nat_lt, if◌then◌else◌, is_none, filter}
use Rattle.hmc_codes.specs.Table.{table_line}
use Rattle.hmc_codes.specs.declared.profile.Profile.{Profile}
use Rattle.hmc_packet.specs.declared.feed.Feed.{Feed}
use Rattle.hmc_packet.specs.declared.what.What.{What}
use Rattle.hmc_packet.specs.declared.what.What.TheVariants as what
use Rattle.hmc_packet.specs.Landings as receipts
use Rattle.hmc_packet.specs.Packet.{PacketFields, flits_of}
use Rattle.hmc_tokens.specs.Account.{tokens_of_code, code_for}
use Rattle.hmc_send.specs.declared.sent.Sent as outer_sent
use Rattle.hmc_send.specs.declared.sent.Sent.TheVariants.{Out}
use Rattle.hmc_send.specs.Choice.{view_after, choice}
use Rattle.hmc_send.specs.Entries as entries
use Rattle.hmc_send.specs.Entries.{SenderEntry, Given, Part, or_null, unfinished, part_after, shows_pointer}
use Rattle.hmc_send.specs.LinkLines.{StampedFlit}
use Rattle.hmc_send.specs.Places.{is_token, tret_packet}
use Rattle.hmc_send.proofs.Cases.{Case, case_of}
use Rattle.hmc_numbers.specs.Direction.{Direction}
use Rattle.hmc_numbers.specs.Events.{Event as events, happens}
use Rattle.hmc_numbers.specs.Pair.{Move as moves, own_after}
use Rattle.hmc_codes.specs.Profile.{window_of as window}
use Rattle.hmc_numbers.specs.Tokens.{due_tokens}
use Rattle.hmc_wire.specs.Conditions.{AreFed}
use Rattle.hmc_wire.specs.EntryTurns.{left_of, sent_event, unless_begun, next_place, weight}
use Rattle.hmc_wire.proofs.Actions.{SideOf}
use Rattle.hmc_wire.proofs.Choices.{IsGood, sent-done}
use Rattle.hmc_wire.proofs.Links.{given_by, fronts-good, accepted-count}
use Rattle.hmc_wire.proofs.PacketGrammar.{grammar}
use Rattle.hmc_wire.proofs.Queued.{front-some}
use Rattle.hmc_wire.proofs.Ways.{Lists, lists_sent}
use Rattle.hmc_link_state.specs.Choice.{Choice, Choice as choices}
use Rattle.hmc_link_state.specs.Choice as drained
use Rattle.hmc_link_state.specs.Sees.{event_of}
use Rattle.hmc_link_state.specs.Round.{sight, sent, sent_by, starts_after, others_after, go_back_after, ack_after, queue_after}
use Rattle.hmc_link_state.specs.Facts.{SideFacts}
use Rattle.hmc_steps.proofs.Codes.{tokens-same}
use Rattle.hmc_steps.proofs.Picks.{choice_of, picked}
use Rattle.hmc_steps.proofs.Sides.{side_of, setup, Here, env-here, sees, part-left}

-- ---- the event

-- a new packet that is begun takes tokens
abbrev FrontTakes : Option Part → What → Given → Type 0
FrontTakes None what.New given = is_token (or_null given.front) ≡ true
FrontTakes u w given = Unit {0}

tret-takes : is_token tret_packet ≡ false
unfolding table_line
tret-takes = refl

event-same : (q : Profile) (t : List SenderEntry) (given : Given) (w : What) (u : Option Part)
    (due : ℕ) → unfinished t ≡ u → given.due ≡ due → FrontTakes u w given →
    event_of due (choice_of u given w) ≡ sent_event q t given w
event-same q t given what.Train u due e d f = refl
event-same q t given what.Null u due e d f = refl
event-same q t given what.Pret u due e d f = refl
event-same q t given what.Start u due e d f = refl
event-same q t given what.Clear u due e d f = refl
event-same q t given what.Tret u due e d f =
    ap (λ (n : ℕ). events.begins (record { flits = 1; token = false; returns = n }))
    (tokens-same due ∙ ap (λ (n : ℕ). tokens_of_code (code_for n)) (sym d))
    ∙ ap (λ (b : Bool).
    events.begins (record { flits = 1; token = b; returns = tokens_of_code (code_for given.due) }))
    (sym tret-takes)
event-same q t given what.New None due e d f =
    (λ i. events.begins
    (record {
      flits = flits_of (or_null given.front);
      token = sym f i;
      returns = (tokens-same due ∙ ap (λ (n : ℕ). tokens_of_code (code_for n)) (sym d)) i;
    }))
    ∙ ap (λ (u : Option Part).
    unless_begun u
    (events.begins (weight (next_place q given.due (or_null given.front) (entries.places q t)))))
    (sym e)
event-same q t given what.New (Some part) due e d f =
    ap (λ (u : Option Part).
    unless_begun u
    (events.begins (weight (next_place q given.due (or_null given.front) (entries.places q t)))))
    (sym e)
event-same q t given what.Again None due e d f =
    ap (λ (u : Option Part). unless_begun u events.begins_again) (sym e)
event-same q t given what.Again (Some part) due e d f =
    ap (λ (u : Option Part). unless_begun u events.begins_again) (sym e)

-- ---- what a sender keeps

starts-same : (u : Option Part) (given : Given) (w : What) (flit : List ℕ) (t : List SenderEntry) →
    starts_after (choice_of u given w) (entries.starts t) ≡ entries.starts
    (SenderEntry.sent given w flit ∷ t)
unfolding entries.starts
starts-same u given what.Train flit t = refl
starts-same u given what.Null flit t = refl
starts-same u given what.Pret flit t = refl
starts-same u given what.Start flit t = omega arith
starts-same u given what.Clear flit t = refl
starts-same u given what.Tret flit t = refl
starts-same None given what.New flit t = refl
starts-same (Some part) given what.New flit t = refl
starts-same None given what.Again flit t = refl
starts-same (Some part) given what.Again flit t = refl

others-same : (u : Option Part) (given : Given) (w : What) (flit : List ℕ) (t : List SenderEntry) →
    others_after (choice_of u given w) (entries.others t) ≡ entries.others
    (SenderEntry.sent given w flit ∷ t)
unfolding entries.others
others-same u given what.Train flit t = omega arith
others-same u given what.Null flit t = omega arith
others-same u given what.Pret flit t = omega arith
others-same u given what.Start flit t = refl
others-same u given what.Clear flit t = omega arith
others-same u given what.Tret flit t = omega arith
others-same None given what.New flit t = omega arith
others-same (Some part) given what.New flit t = omega arith
others-same None given what.Again flit t = omega arith
others-same (Some part) given what.Again flit t = omega arith

back-same : (u : Option Part) (given : Given) (w : What) (flit : List ℕ) (t : List SenderEntry)
    (n : ℕ) → n ≡ entries.clears t →
    go_back_after (choice_of u given w) n (entries.go_back t) ≡ entries.go_back
    (SenderEntry.sent given w flit ∷ t)
unfolding entries.go_back
back-same u given what.Train flit t n e = refl
back-same u given what.Null flit t n e = refl
back-same u given what.Pret flit t n e = refl
back-same u given what.Start flit t n e = refl
back-same u given what.Clear flit t n e =
    ap (λ (m : ℕ). if m % 32 == 0 then false else entries.go_back t) e
back-same u given what.Tret flit t n e = refl
back-same None given what.New flit t n e = refl
back-same (Some part) given what.New flit t n e = refl
back-same None given what.Again flit t n e = refl
back-same (Some part) given what.Again flit t n e = refl

open-same : (given : Given) (w : What) (flit : List ℕ) (t : List SenderEntry) →
    entries.is_open t ≡ entries.is_open (SenderEntry.sent given w flit ∷ t)
unfolding entries.is_open
open-same given w flit t = refl

tail-drop : (n : ℕ) (l : List PacketFields) (k : ℕ) →
    queue_after (choices.new k) (map flits_of (drop n l)) ≡ map flits_of (drop (suc n) l)
tail-drop zero [] k = refl
tail-drop zero (p ∷ l) k = refl
tail-drop (suc n) [] k = refl
tail-drop (suc n) (p ∷ l) k = tail-drop n l k

queue-same : (u : Option Part) (given : Given) (w : What) (flit : List ℕ) (t : List SenderEntry)
    (handed : List PacketFields) → unfinished t ≡ u →
    queue_after (choice_of u given w) (map flits_of (drop (entries.taken_fronts t) handed)) ≡ map
    flits_of (drop (entries.taken_fronts (SenderEntry.sent given w flit ∷ t)) handed)
unfolding entries.taken_fronts
queue-same u given what.Train flit t handed e = refl
queue-same u given what.Null flit t handed e = refl
queue-same u given what.Pret flit t handed e = refl
queue-same u given what.Start flit t handed e = refl
queue-same u given what.Clear flit t handed e = refl
queue-same u given what.Tret flit t handed e = refl
queue-same None given what.New flit t handed e =
    tail-drop (entries.taken_fronts t) handed (flits_of (or_null given.front))
    ∙ ap (λ (n : ℕ). map flits_of (drop n handed)) (let z : suc (entries.taken_fronts t) ≡ 1
    + entries.taken_fronts t = omega arith in z)
    ∙ ap (λ (u : Option Part).
    map flits_of (drop ((if is_none u then 1 else 0) + entries.taken_fronts t) handed)) (sym e)
queue-same (Some part) given what.New flit t handed e =
    ap (λ (n : ℕ). map flits_of (drop n handed)) (let z : entries.taken_fronts t ≡ 0
    + entries.taken_fronts t = omega arith in z)
    ∙ ap (λ (u : Option Part).
    map flits_of (drop ((if is_none u then 1 else 0) + entries.taken_fronts t) handed)) (sym e)
queue-same None given what.Again flit t handed e = refl
queue-same (Some part) given what.Again flit t handed e = refl

-- ---- the pointer that was shown last

abbrev IsOneLeft : What → (left : ℕ) → Type 0
IsOneLeft what.Tret left = left ≡ 0
IsOneLeft w left = Unit {0}

ack-by : (x : Choice) (n : ℕ) (ack a : ℕ) → n ≡ 0 → ((ack_after x 0 ack a) ≡ a) →
    ack_after x n ack a ≡ a
ack-by x n ack a e h = ap (λ (m : ℕ). ack_after x m ack a) e ∙ h

last-ack : (v : Option Part) → ((p : Part) → v ≡ Some p → 1 ≤ left_of (Some p)) →
    (x : Choice) (ack a : ℕ) → ((ack_after x 0 ack a) ≡ a) →
    ((n : ℕ) → ack_after x (suc n) ack a ≡ ack) →
    ack_after x (left_of v) ack a ≡ (if is_none v then a else ack)
last-ack None parts x ack a z s = z
last-ack (Some p) parts x ack a z s = by_left (left_of (Some p)) refl
  where
    by_left : (n : ℕ) → left_of (Some p) ≡ n → ack_after x (left_of (Some p)) ack a ≡ ack
    by_left zero e = absurd (let m = parts p refl in omega arith)
    by_left (suc n) e = ap (λ (m : ℕ). ack_after x m ack a) e ∙ s n

ack-same : (u : Option Part) (given : Given) (w : What) (flit : List ℕ) (t : List SenderEntry)
    (left ack a : ℕ) → unfinished t ≡ u →
    left ≡ left_of (unfinished (SenderEntry.sent given w flit ∷ t)) →
    ((p : Part) → unfinished (SenderEntry.sent given w flit ∷ t) ≡ Some p → 1 ≤ left_of (Some p)) →
    IsOneLeft w left →
    ack_after (choice_of u given w) left ack a ≡ (if shows_pointer w flit (unfinished t) then a
    else ack)
unfolding unfinished
ack-same u given what.Train flit t left ack a e l parts one = refl
ack-same u given what.Null flit t left ack a e l parts one = refl
ack-same u given what.Pret flit t left ack a e l parts one = refl
ack-same u given what.Start flit t left ack a e l parts one = refl
ack-same u given what.Clear flit t left ack a e l parts one = refl
ack-same u given what.Tret flit t left ack a e l parts one =
    ack-by choices.tret left ack a one refl
ack-same None given what.New flit t left ack a e l parts one =
    ap (λ (n : ℕ). ack_after (choices.new (flits_of (or_null given.front))) n ack a) l
    ∙ last-ack (part_after false flit (unfinished t)) parts
    (choices.new (flits_of (or_null given.front))) ack a refl (λ n. refl)
ack-same (Some part) given what.New flit t left ack a e l parts one =
    ap (λ (n : ℕ). ack_after choices.next n ack a) l
    ∙ last-ack (part_after false flit (unfinished t)) parts choices.next ack a refl
    (λ n. refl)
ack-same None given what.Again flit t left ack a e l parts one =
    ap (λ (n : ℕ). ack_after choices.again n ack a) l
    ∙ last-ack (part_after true flit (unfinished t)) parts choices.again ack a refl
    (λ n. refl)
ack-same (Some part) given what.Again flit t left ack a e l parts one =
    ap (λ (n : ℕ). ack_after choices.next n ack a) l
    ∙ last-ack (part_after true flit (unfinished t)) parts choices.next ack a refl (λ n. refl)

-- ---- the front of the queue

front-takes : (q : Profile) (retry : ℕ) (t : List SenderEntry) (given : Given) (flit : List ℕ)
    (w : What) (u : Option Part) → choice q (view_after q retry t given) ≡ Out flit w →
    unfinished t ≡ u → ((p : PacketFields) → given.front ≡ Some p → IsGood q p) →
    FrontTakes u w given
front-takes q retry t given flit what.New None chosen e good =
    let found = front-some q retry t given flit chosen e in
    ap (λ (o : Option PacketFields). is_token (or_null o)) found.1 ∙ (good found.0 found.1).token
front-takes q retry t given flit what.New (Some part) chosen e good = tt
front-takes q retry t given flit what.Train None chosen e good = tt
front-takes q retry t given flit what.Train (Some part) chosen e good = tt
front-takes q retry t given flit what.Null None chosen e good = tt
front-takes q retry t given flit what.Null (Some part) chosen e good = tt
front-takes q retry t given flit what.Pret None chosen e good = tt
front-takes q retry t given flit what.Pret (Some part) chosen e good = tt
front-takes q retry t given flit what.Start None chosen e good = tt
front-takes q retry t given flit what.Start (Some part) chosen e good = tt
front-takes q retry t given flit what.Clear None chosen e good = tt
front-takes q retry t given flit what.Clear (Some part) chosen e good = tt
front-takes q retry t given flit what.Tret None chosen e good = tt
front-takes q retry t given flit what.Tret (Some part) chosen e good = tt
front-takes q retry t given flit what.Again None chosen e good = tt
front-takes q retry t given flit what.Again (Some part) chosen e good = tt

one-left : (q : Profile) (t : List SenderEntry) (given : Given) (w : What) (d : Direction) →
    IsOneLeft w (happens d (sent_event q t given w)).left
one-left q t given what.Tret d = refl
one-left q t given what.New d = tt
one-left q t given what.Train d = tt
one-left q t given what.Null d = tt
one-left q t given what.Pret d = tt
one-left q t given what.Start d = tt
one-left q t given what.Clear d = tt
one-left q t given what.Again d = tt

-- ---- a send

-- where the pointer was shown last, with one more send
abbrev pub ack_with : (q : Profile) → (mine theirs : Lists q) → What → (flit : List ℕ) →
    (ack : ℕ) → ℕ
ack_with q mine theirs w flit ack =
    if shows_pointer w flit (unfinished mine.sender) then length
    (receipts.accepted q theirs.receiver) else ack

abbrev pub stamped_by : (q : Profile) → (theirs : Lists q) → (flit : List ℕ) → StampedFlit
stamped_by q theirs flit =
    record { flit = flit; stamp = length (receipts.accepted q theirs.receiver) }

pub sent-same : (q : Profile) (line retry adv : ℕ) (mine theirs : Lists q)
    (own oth : SideOf (grammar q)) (ack their_ack missing their_missing : ℕ) (feed : Feed)
    (w : What) (flit : List ℕ) → retry ≤ window q → Here q retry adv mine theirs own oth ack →
    SideFacts (setup line retry adv) (side_of q own.half mine ack missing)
    (side_of q oth.half theirs their_ack their_missing) →
    SideFacts (setup line retry adv) (side_of q oth.half theirs their_ack their_missing)
    (side_of q own.half mine ack missing) →
    nat_lt (length own.half.direction.line) line ≡ true →
    AreFed q (SenderEntry.sent (given_by q adv mine theirs feed) w flit ∷ mine.sender) →
    choice q (view_after q retry mine.sender (given_by q adv mine theirs feed)) ≡ Out flit w →
    sent (setup line retry adv) (side_of q own.half mine ack missing)
    (side_of q oth.half theirs their_ack their_missing)
    ≡ side_of q
    (own_after own.half oth.half.direction.accepted
    (moves.does (sent_event q mine.sender (given_by q adv mine theirs feed) w)))
    (lists_sent mine (SenderEntry.sent (given_by q adv mine theirs feed) w flit)
    (stamped_by q theirs flit)) (ack_with q mine theirs w flit ack) missing
unfolding AreFed
sent-same q line retry adv mine theirs own oth ack their_ack missing their_missing feed w flit few
    h f g some fed chosen =
    let c = setup line retry adv in
    let x = side_of q own.half mine ack missing in
    let y = side_of q oth.half theirs their_ack their_missing in
    let given = given_by q adv mine theirs feed in
    let t = mine.sender in
    let u = unfinished t in
    let env = env-here q retry adv mine theirs own oth ack feed h in
    let good = fronts-good q mine.handed (entries.taken_fronts t) h.way.handed in
    let taken : Case q (view_after q retry t given) (Out flit w) =
    subst (λ (z : outer_sent.Sent). Case q (view_after q retry t given) z) chosen
    (case_of q (view_after q retry t given)) in
    let done =
    sent-done q h.s retry adv t given own.half oth.half env good fed.0 fed.1 w flit taken in
    let picked_is : drained.choice (sight c x y) ≡ choice_of u given w =
    picked q retry t given (sight c x y) flit w
    (sees q line retry adv mine theirs own oth ack their_ack missing their_missing feed few h
    f g) chosen in
    let event : event_of (due_tokens adv oth.half own.half) (choice_of u given w) ≡ sent_event q t
    given w =
    event-same q t given w u (due_tokens adv oth.half own.half) refl env.due
    (front-takes q retry t given flit w u chosen refl good) in
    let count : oth.half.direction.accepted ≡ length (receipts.accepted q theirs.receiver) =
    sym (accepted-count q retry adv theirs h.t oth own h.other_way h.other_linked) in
    let left_is =
    ack-same u given w flit t (happens own.half.direction (sent_event q t given w)).left ack
    (length (receipts.accepted q theirs.receiver)) refl done.sends.left
    (part-left q (SenderEntry.sent given w flit ∷ t) done.parts)
    (one-left q t given w own.half.direction) in
    ap (λ (b : Bool). if b then sent_by c x y (drained.choice (sight c x y)) else x) some
    ∙ ap (sent_by c x y) picked_is
    ∙ (λ i. record {
      half = own_after own.half oth.half.direction.accepted (moves.does (event i));
      starts = starts-same u given w flit t i;
      others = others-same u given w flit t i;
      go_back = back-same u given w flit t own.half.direction.clears h.way.sends.clears i;
      is_open = open-same given w flit t i;
      ack_sent =
          ((λ j. ack_after (choice_of u given w) (happens own.half.direction (event j)).left ack
          (count j)) ∙ left_is) i;
      steady = receipts.training q mine.receiver;
      missing = missing;
      queue = queue-same u given w flit t mine.handed refl i;
      buffer = map flits_of (drop mine.taken (filter is_token (receipts.accepted q mine.receiver)));
    })
