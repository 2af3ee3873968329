-- A lawful list of a link is a list of steps that may come, and each direction is what the list
-- says: by induction over its entries. All laws of src/laws.rt rest on it.
use Rattle.std.proofs.Common.{◌≡◌, ◌∙◌, ◌≤◌, ◌-◌, ℕ, zero, suc, Bool, true, false, List, [], ◌∷◌, length, Option, refl, sym, ap, subst, arith, ltb-true}
use Rattle.std.specs.Prelude.{replicate, ◌*◌, not, slice_get, filter}
use Rattle.hmc_codes.specs.Commands.{layout_of, is_flow}
use Rattle.hmc_codes.specs.Link.{LinkFields}
use Rattle.hmc_codes.specs.Profile.{most_retry}
use Rattle.hmc_codes.specs.Table.{table_line}
use Rattle.hmc_codes.specs.declared.profile.Profile.{Profile}
use Rattle.hmc_packet.specs.declared.feed.Feed.{Feed}
use Rattle.hmc_packet.specs.declared.feed.Feed.TheVariants.{Waiting}
use Rattle.hmc_packet.specs.declared.outcome.Outcome as outer_outcome
use Rattle.hmc_packet.specs.declared.what.What.{What}
use Rattle.hmc_packet.specs.Landings as receipts
use Rattle.hmc_packet.specs.Packet.{PacketFields}
use Rattle.hmc_packet.specs.Receptions.{reception_of}
use Rattle.hmc_send.specs.declared.sent.Sent as outer_sent
use Rattle.hmc_send.specs.declared.sent.Sent.TheVariants.{Out}
use Rattle.hmc_send.specs.declared.toward.Toward.{Toward}
use Rattle.hmc_send.specs.declared.toward.Toward.TheVariants.{Forth, Back}
use Rattle.hmc_send.specs.Choice.{view_after, choice}
use Rattle.hmc_send.specs.Entries as turns
use Rattle.hmc_send.specs.Entries.{Given, Part, SenderEntry}
use Rattle.hmc_send.specs.LinkCalls.{IsLawful}
use Rattle.hmc_send.specs.LinkEntries.{LinkEntry, LinkEntry as entry, receiver_entries, handed_packets, takes, accepted_packets}
use Rattle.hmc_send.specs.LinkLines.{sent_flits, landings, line, is_pending_changed, passes}
use Rattle.hmc_send.specs.LinkSenders.{due_after, given_after, given_in, sender_entries}
use Rattle.hmc_send.specs.Places.{Place, flits_at, is_token, place_at, takes_tokens}
use Rattle.hmc_send.proofs.Cases.{Case, case_of}
use Rattle.hmc_send.proofs.LinkLawful.{lawful-handed, lawful-taken, lawful-through, lawful-sent, lawful-landed}
use Rattle.hmc_wire.specs.LinkLaws.{IsKept}
use Rattle.hmc_wire.specs.Conditions.{AreHanded, AreFed}
use Rattle.hmc_wire.proofs.GrammarLandings.{accepted_in}
use Rattle.hmc_wire.proofs.Spelled.{Sent}
use Rattle.hmc_wire.proofs.Actions.{SideOf, LinkOf, Action as acts, MaySend, MaySteps, own_side, link_after, side_opening}
use Rattle.hmc_wire.proofs.ActionLaw.{Linked, LinkedBoth, both_linked}
use Rattle.hmc_wire.proofs.PacketGrammar.{grammar}
use Rattle.hmc_wire.specs.EntryTurns.{sent_event, through_place}
use Rattle.hmc_wire.proofs.Steps.{landings_on, steps_of, some_command, some_packet, packet_in, sent_in, front_in, sent_of}
use Rattle.hmc_wire.proofs.Mirrors.{mirrors-none}
use Rattle.hmc_wire.proofs.SenderLists.{Chosen}
use Rattle.hmc_wire.proofs.OpenPlaces.{open-place}
use Rattle.hmc_wire.proofs.Places.{Weighs, AgreesWith}
use Rattle.hmc_wire.proofs.Choices.{IsGood, sent-done}
use Rattle.hmc_wire.proofs.Throughs.{Begun, through-done}
use Rattle.hmc_wire.proofs.Ways.{Lists, lists_in, lists_sent, Way, way-sent, way-landed}
use Rattle.hmc_wire.proofs.Others.{way-landed_other, way-taken, way-unlocked, way-handed, way-through}
use Rattle.hmc_wire.proofs.Links.{given_by, env-of, may-land, may-take, fronts-good}
use Rattle.hmc_wire.proofs.Agreements.{Before, agrees-turn, landed-agrees, landed-fed, fed-turn}

-- A direction of a link is what its list says

abbrev pub WayAt : (link : LinkFields) → Toward → List LinkEntry → SideOf (grammar link.profile) → Type 0
WayAt link d past own = Way link.profile link.retry (lists_in link d past) own

-- the two directions after these entries
abbrev pub link_at : (link : LinkFields) → List LinkEntry → LinkOf (grammar link.profile)
link_at link past = link_after (grammar link.profile) (steps_of link past)

pub record Joins (link : LinkFields) (s t : Sent (grammar link.profile)) (past : List LinkEntry) : Type 0 where
  pub may : MaySteps (grammar link.profile) s t link.retry link.tokens (steps_of link past)
  pub forth : WayAt link Forth past (link_at link past).forth
  pub back : WayAt link Back past (link_at link past).back

pub both-of : (link : LinkFields) (s t : Sent (grammar link.profile)) (past : List LinkEntry) → link.retry ≤ most_retry link.profile → Joins link s t past → LinkedBoth (grammar link.profile) s t link.retry link.tokens (link_at link past)
both-of link s t past few j = both_linked (grammar link.profile) s t link.retry link.tokens (steps_of link past) few j.may

pub way-none : (link : LinkFields) (d : Toward) → WayAt link d [] (side_opening (grammar link.profile))
unfolding sender_entries receiver_entries landings_on sent_flits landings takes handed_packets is_pending_changed Chosen turns.places turns.acked turns.last_begun turns.unfinished turns.clears receipts.accepted
way-none link d = record {
  sends = record { first = refl; acked = refl; last = refl; left = refl; clears = refl };
  chosen = tt;
  parts = λ p is. absurd cc;
  fit = tt;
  count = omega arith;
  flits = refl;
  stamps = refl;
  received = refl;
  mirrors = mirrors-none link.profile;
  spoilt = refl;
  takes = omega arith;
  moved = refl;
  handed = tt;
  whole = tt;
}

-- A send

pub record SentOn (q : Profile) (s : Sent (grammar q)) (retry adv : ℕ) (mine : Lists q) (given : Given) (w : What) (flit : List ℕ) (n : ℕ) (own oth : SideOf (grammar q)) : Type 0 where
  pub may : MaySend (grammar q) s retry adv own.half oth.half (sent_event q mine.sender given w) flit
  pub side : Way q retry (lists_sent mine (SenderEntry.sent given w flit) (record { flit = flit; stamp = n })) (own_side (grammar q) own oth (acts.sends (sent_event q mine.sender given w) flit))

pub sent-on : (q : Profile) (retry adv : ℕ) (mine theirs : Lists q) (s t : Sent (grammar q)) (own oth : SideOf (grammar q)) (feed : Feed) (w : What) (flit : List ℕ) →
    Way q retry mine own → Way q retry theirs oth → Linked (grammar q) s retry adv own oth → Linked (grammar q) t retry adv oth own → AgreesWith q t theirs.sender →
    AgreesWith q s (SenderEntry.sent (given_by q adv mine theirs feed) w flit ∷ mine.sender) → AreFed q (SenderEntry.sent (given_by q adv mine theirs feed) w flit ∷ mine.sender) →
    choice q (view_after q retry mine.sender (given_by q adv mine theirs feed)) ≡ Out flit w →
    SentOn q s retry adv mine (given_by q adv mine theirs feed) w flit (length (receipts.accepted q theirs.receiver)) own oth
unfolding Chosen AreFed view_after
sent-on q retry adv mine theirs s t own oth feed w flit is other linked back agree_other agree fed chosen =
    let given = given_by q adv mine theirs feed in
    let view = view_after q retry mine.sender given in
    let taken : Case q view (Out flit w) = subst (λ (x : outer_sent.Sent). Case q view x) chosen (case_of q view) in
    let env = env-of q retry adv mine theirs s t own oth feed is other linked back agree_other fed.2 in
    let done = sent-done q s retry adv mine.sender given own.half oth.half env (fronts-good q mine.handed (turns.taken_fronts mine.sender) is.handed) fed.0 fed.1 w flit taken in
    let count : length (receipts.accepted q theirs.receiver) ≡ oth.half.direction.accepted =
    ap (λ (ps : List PacketFields). length ps) (other.mirrors.accepted ∙ ap (accepted_in (grammar q)) (sym other.received)) ∙ back.matches.count in
    record {
      may = record { adds = done.adds; may = done.may; mark = done.mark agree };
      side = way-sent q retry mine own oth given w flit (sent_event q mine.sender given w) (length (receipts.accepted q theirs.receiver)) is
          (record { sends = done.sends; parts = done.parts; fit = done.fit; chosen = (chosen, is.chosen) }) done.adds count done.whole;
    }

pub sent-forth : (link : LinkFields) (s t : Sent (grammar link.profile)) (past : List LinkEntry) (feed : Feed) (w : What) (flit : List ℕ) → link.retry ≤ most_retry link.profile → IsLawful link (entry.sent Forth feed w flit ∷ past) →
    AgreesWith link.profile s (sender_entries link Forth (entry.sent Forth feed w flit ∷ past)) → AgreesWith link.profile t (sender_entries link Back past) → AreFed link.profile (sender_entries link Forth (entry.sent Forth feed w flit ∷ past)) →
    Joins link s t past → Joins link s t (entry.sent Forth feed w flit ∷ past)
unfolding sender_entries receiver_entries landings_on sent_flits landings takes handed_packets is_pending_changed steps_of given_after
sent-forth link s t past feed w flit few lawful agree agree_other fed j =
    let l = link_at link past in
    let both = both-of link s t past few j in
    let is = lawful-sent link past Forth feed w flit lawful in
    let d = sent-on link.profile link.retry link.tokens (lists_in link Forth past) (lists_in link Back past) s t l.forth l.back feed w flit j.forth j.back both.forth both.back agree_other agree fed is.chosen in
    record { may = (d.may, j.may); forth = d.side; back = j.back }

pub sent-back : (link : LinkFields) (s t : Sent (grammar link.profile)) (past : List LinkEntry) (feed : Feed) (w : What) (flit : List ℕ) → link.retry ≤ most_retry link.profile → IsLawful link (entry.sent Back feed w flit ∷ past) →
    AgreesWith link.profile s (sender_entries link Forth past) → AgreesWith link.profile t (sender_entries link Back (entry.sent Back feed w flit ∷ past)) → AreFed link.profile (sender_entries link Back (entry.sent Back feed w flit ∷ past)) →
    Joins link s t past → Joins link s t (entry.sent Back feed w flit ∷ past)
unfolding sender_entries receiver_entries landings_on sent_flits landings takes handed_packets is_pending_changed steps_of given_after
sent-back link s t past feed w flit few lawful agree_other agree fed j =
    let l = link_at link past in
    let both = both-of link s t past few j in
    let is = lawful-sent link past Back feed w flit lawful in
    let d = sent-on link.profile link.retry link.tokens (lists_in link Back past) (lists_in link Forth past) t s l.back l.forth feed w flit j.back j.forth both.back both.forth agree_other agree fed is.chosen in
    record { may = (d.may, j.may); forth = j.forth; back = d.side }

-- A landing

pub landed-forth : (link : LinkFields) (s t : Sent (grammar link.profile)) (past : List LinkEntry) (mask flit : List ℕ) (o : outer_outcome.Outcome) → link.retry ≤ most_retry link.profile → IsLawful link (entry.landed Forth mask flit o ∷ past) →
    Joins link s t past → Joins link s t (entry.landed Forth mask flit o ∷ past)
unfolding sender_entries receiver_entries landings_on sent_flits landings takes handed_packets is_pending_changed steps_of line passes
landed-forth link s t past mask flit o few lawful j =
    let l = link_at link past in
    let both = both-of link s t past few j in
    let is = lawful-landed link past Forth mask flit o lawful in
    record {
      may = (may-land link.profile link.retry (lists_in link Forth past) l.forth mask flit is.front j.forth is.is_front is.flit_is is.caught, j.may);
      forth = way-landed link.profile link.retry (lists_in link Forth past) l.forth l.back mask flit o is.front j.forth is.is_front is.outcome_is;
      back = way-landed_other link.profile link.retry link.tokens (lists_in link Back past) (lists_in link Forth past) l.forth l.back mask flit o is.front j.back j.forth both.forth.joined both.back.joined is.is_front;
    }

pub landed-back : (link : LinkFields) (s t : Sent (grammar link.profile)) (past : List LinkEntry) (mask flit : List ℕ) (o : outer_outcome.Outcome) → link.retry ≤ most_retry link.profile → IsLawful link (entry.landed Back mask flit o ∷ past) →
    Joins link s t past → Joins link s t (entry.landed Back mask flit o ∷ past)
unfolding sender_entries receiver_entries landings_on sent_flits landings takes handed_packets is_pending_changed steps_of line passes
landed-back link s t past mask flit o few lawful j =
    let l = link_at link past in
    let both = both-of link s t past few j in
    let is = lawful-landed link past Back mask flit o lawful in
    record {
      may = (may-land link.profile link.retry (lists_in link Back past) l.back mask flit is.front j.back is.is_front is.flit_is is.caught, j.may);
      forth = way-landed_other link.profile link.retry link.tokens (lists_in link Forth past) (lists_in link Back past) l.back l.forth mask flit o is.front j.forth j.back both.back.joined both.forth.joined is.is_front;
      back = way-landed link.profile link.retry (lists_in link Back past) l.back l.forth mask flit o is.front j.back is.is_front is.outcome_is;
    }

-- A packet is taken

taken-some : (link : LinkFields) (d : Toward) (past : List LinkEntry) → IsLawful link (entry.taken d ∷ past) → suc (takes d past) ≤ length (filter is_token (accepted_packets link.profile d past))
taken-some link d past lawful = ltb-true (takes d past) (length (filter is_token (accepted_packets link.profile d past))) (lawful-taken link past d lawful)

pub taken-forth : (link : LinkFields) (s t : Sent (grammar link.profile)) (past : List LinkEntry) → link.retry ≤ most_retry link.profile → IsLawful link (entry.taken Forth ∷ past) → AgreesWith link.profile s (sender_entries link Forth past) →
    Joins link s t past → Joins link s t (entry.taken Forth ∷ past)
unfolding sender_entries receiver_entries landings_on sent_flits landings takes handed_packets is_pending_changed steps_of
taken-forth link s t past few lawful agree j =
    let l = link_at link past in
    let both = both-of link s t past few j in
    record {
      may = (may-take link.profile link.retry link.tokens (lists_in link Forth past) s l.forth l.back j.forth both.forth agree, j.may);
      forth = way-taken link.profile link.retry (lists_in link Forth past) l.forth l.back j.forth (taken-some link Forth past lawful);
      back = j.back;
    }

pub taken-back : (link : LinkFields) (s t : Sent (grammar link.profile)) (past : List LinkEntry) → link.retry ≤ most_retry link.profile → IsLawful link (entry.taken Back ∷ past) → AgreesWith link.profile t (sender_entries link Back past) →
    Joins link s t past → Joins link s t (entry.taken Back ∷ past)
unfolding sender_entries receiver_entries landings_on sent_flits landings takes handed_packets is_pending_changed steps_of
taken-back link s t past few lawful agree j =
    let l = link_at link past in
    let both = both-of link s t past few j in
    record {
      may = (may-take link.profile link.retry link.tokens (lists_in link Back past) t l.back l.forth j.back both.back agree, j.may);
      forth = j.forth;
      back = way-taken link.profile link.retry (lists_in link Back past) l.back l.forth j.back (taken-some link Back past lawful);
    }

-- A receiver is unlocked

pub unlocked-forth : (link : LinkFields) (s t : Sent (grammar link.profile)) (past : List LinkEntry) → Joins link s t past → Joins link s t (entry.unlocked Forth ∷ past)
unfolding sender_entries receiver_entries landings_on sent_flits landings takes handed_packets is_pending_changed steps_of
unlocked-forth link s t past j =
    let l = link_at link past in
    record { may = (tt, j.may); forth = way-unlocked link.profile link.retry (lists_in link Forth past) l.forth l.back j.forth; back = j.back }

pub unlocked-back : (link : LinkFields) (s t : Sent (grammar link.profile)) (past : List LinkEntry) → Joins link s t past → Joins link s t (entry.unlocked Back ∷ past)
unfolding sender_entries receiver_entries landings_on sent_flits landings takes handed_packets is_pending_changed steps_of
unlocked-back link s t past j =
    let l = link_at link past in
    record { may = (tt, j.may); forth = j.forth; back = way-unlocked link.profile link.retry (lists_in link Back past) l.back l.forth j.back }

-- A packet is handed

pub handed-forth : (link : LinkFields) (s t : Sent (grammar link.profile)) (packet : PacketFields) (past : List LinkEntry) → IsGood link.profile packet → Joins link s t past → Joins link s t (entry.handed Forth packet ∷ past)
unfolding sender_entries receiver_entries landings_on sent_flits landings takes handed_packets is_pending_changed steps_of
handed-forth link s t packet past good j =
    let l = link_at link past in
    record { may = j.may; forth = way-handed link.profile link.retry (lists_in link Forth past) l.forth packet j.forth good; back = j.back }

pub handed-back : (link : LinkFields) (s t : Sent (grammar link.profile)) (packet : PacketFields) (past : List LinkEntry) → IsGood link.profile packet → Joins link s t past → Joins link s t (entry.handed Back packet ∷ past)
unfolding sender_entries receiver_entries landings_on sent_flits landings takes handed_packets is_pending_changed steps_of
handed-back link s t packet past good j =
    let l = link_at link past in
    record { may = j.may; forth = j.forth; back = way-handed link.profile link.retry (lists_in link Back past) l.back packet j.back good }

-- A cut-through is begun

pub begun-forth : (link : LinkFields) (s t : Sent (grammar link.profile)) (past : List LinkEntry) (head : List ℕ) (flits : ℕ) → link.retry ≤ most_retry link.profile → IsLawful link (entry.through Forth head flits ∷ past) →
    AgreesWith link.profile t (sender_entries link Back past) → AreFed link.profile (sender_entries link Forth past) → Joins link s t past →
    Begun link.profile link.retry link.tokens (sender_entries link Forth past) head flits (due_after link Back past (sender_entries link Forth past)) (link_at link past).forth.half (link_at link past).back.half
unfolding given_after
begun-forth link s t past head flits few lawful agree_other fed j =
    let l = link_at link past in
    let both = both-of link s t past few j in
    let mine = lists_in link Forth past in
    let theirs = lists_in link Back past in
    let env = env-of link.profile link.retry link.tokens mine theirs s t l.forth l.back Waiting j.forth j.back both.forth both.back agree_other fed in
    let ready = lawful-through link past Forth head flits lawful in
    through-done link.profile s link.retry link.tokens mine.sender (given_by link.profile link.tokens mine theirs Waiting) l.forth.half l.back.half head flits env ready.0 ready.1

pub through-forth : (link : LinkFields) (s t : Sent (grammar link.profile)) (past : List LinkEntry) (head : List ℕ) (flits : ℕ) → link.retry ≤ most_retry link.profile → IsLawful link (entry.through Forth head flits ∷ past) →
    AgreesWith link.profile t (sender_entries link Back past) → AreFed link.profile (sender_entries link Forth past) → Joins link s t past → Joins link s t (entry.through Forth head flits ∷ past)
unfolding sender_entries receiver_entries landings_on sent_flits landings takes handed_packets is_pending_changed steps_of
through-forth link s t past head flits few lawful agree_other fed j =
    let l = link_at link past in
    let begun = begun-forth link s t past head flits few lawful agree_other fed j in
    let mine = lists_in link Forth past in
    let due = due_after link Back past mine.sender in
    record {
      may = (begun.may, j.may);
      forth = way-through link.profile link.retry mine l.forth l.back head flits due (through_place link.profile due head flits (turns.places link.profile mine.sender)) j.forth begun.through;
      back = j.back;
    }

pub begun-back : (link : LinkFields) (s t : Sent (grammar link.profile)) (past : List LinkEntry) (head : List ℕ) (flits : ℕ) → link.retry ≤ most_retry link.profile → IsLawful link (entry.through Back head flits ∷ past) →
    AgreesWith link.profile s (sender_entries link Forth past) → AreFed link.profile (sender_entries link Back past) → Joins link s t past →
    Begun link.profile link.retry link.tokens (sender_entries link Back past) head flits (due_after link Forth past (sender_entries link Back past)) (link_at link past).back.half (link_at link past).forth.half
unfolding given_after
begun-back link s t past head flits few lawful agree_other fed j =
    let l = link_at link past in
    let both = both-of link s t past few j in
    let mine = lists_in link Back past in
    let theirs = lists_in link Forth past in
    let env = env-of link.profile link.retry link.tokens mine theirs t s l.back l.forth Waiting j.back j.forth both.back both.forth agree_other fed in
    let ready = lawful-through link past Back head flits lawful in
    through-done link.profile t link.retry link.tokens mine.sender (given_by link.profile link.tokens mine theirs Waiting) l.back.half l.forth.half head flits env ready.0 ready.1

pub through-back : (link : LinkFields) (s t : Sent (grammar link.profile)) (past : List LinkEntry) (head : List ℕ) (flits : ℕ) → link.retry ≤ most_retry link.profile → IsLawful link (entry.through Back head flits ∷ past) →
    AgreesWith link.profile s (sender_entries link Forth past) → AreFed link.profile (sender_entries link Back past) → Joins link s t past → Joins link s t (entry.through Back head flits ∷ past)
unfolding sender_entries receiver_entries landings_on sent_flits landings takes handed_packets is_pending_changed steps_of
through-back link s t past head flits few lawful agree_other fed j =
    let l = link_at link past in
    let begun = begun-back link s t past head flits few lawful agree_other fed j in
    let mine = lists_in link Back past in
    let due = due_after link Forth past mine.sender in
    record {
      may = (begun.may, j.may);
      forth = j.forth;
      back = way-through link.profile link.retry mine l.back l.forth head flits due (through_place link.profile due head flits (turns.places link.profile mine.sender)) j.back begun.through;
    }

-- Flits that agree with the places of a whole list

length-zeros : (n : ℕ) → length {A = ℕ} (replicate n 0) ≡ n
length-zeros zero = refl
length-zeros (suc n) = ap suc (length-zeros n)

some-token : (token : Bool) → not (is_flow (layout_of (some_command token))) ≡ token
unfolding table_line
some-token true = refl
some-token false = refl

some-weighs : (tag : ℕ) (x : Place) → Weighs x (some_packet tag x)
some-weighs tag x = record {
  flits = λ some. let e = length-zeros (16 * (flits_at x - 1)) in omega arith;
  token = some-token (takes_tokens x);
  rtc = refl;
}

pub agrees-own : (q : Profile) (tag : ℕ) (t : List SenderEntry) → AgreesWith q (sent_of q tag t) t
agrees-own q tag t n some le =
    let x = place_at (turns.places q t) n in
    record {
      packet = λ p is. ap (packet_in tag x) is;
      front = λ p is k lt. ap (λ (o : Option PacketFields). front_in q (turns.unfinished t) o k) is;
      weighs = λ none. subst (Weighs x) (sym (ap (packet_in tag x) none)) (some-weighs tag x);
      sent = λ none part is k lt. ap (λ (o : Option PacketFields). front_in q (turns.unfinished t) o k) none ∙ ap (λ (u : Option Part). sent_in u k) is;
    }

-- All entries

abbrev JoinsAll : LinkFields → List LinkEntry → Type 0
JoinsAll link past =
    (s t : Sent (grammar link.profile)) → AgreesWith link.profile s (sender_entries link Forth past) → AgreesWith link.profile t (sender_entries link Back past) → Joins link s t past

-- with some flits that agree
some-joins : (link : LinkFields) (past : List LinkEntry) → JoinsAll link past → Joins link (sent_of link.profile 0 (sender_entries link Forth past)) (sent_of link.profile 0 (sender_entries link Back past)) past
some-joins link past all =
    all (sent_of link.profile 0 (sender_entries link Forth past)) (sent_of link.profile 0 (sender_entries link Back past)) (agrees-own link.profile 0 (sender_entries link Forth past)) (agrees-own link.profile 0 (sender_entries link Back past))

before-of : (link : LinkFields) (d : Toward) (past : List LinkEntry) (own : SideOf (grammar link.profile)) → AreFed link.profile (sender_entries link d past) → WayAt link d past own → Before link.profile (sender_entries link d past)
before-of link d past own fed is = record { places = open-place link.profile link.retry (sender_entries link d past) is.chosen fed; fit = is.fit }

-- what is handed is good
handed-good : (link : LinkFields) (d : Toward) (packet : PacketFields) (past : List LinkEntry) → IsLawful link (entry.handed d packet ∷ past) → AreHanded link.profile (entry.handed d packet ∷ past) → IsGood link.profile packet
unfolding AreHanded
handed-good link d packet past lawful handed = record { packet = handed.0.packet_is; token = (lawful-handed link past d packet lawful).1; errstat = handed.0.errstat }

pub joins : (link : LinkFields) (past : List LinkEntry) → link.retry ≤ most_retry link.profile → IsLawful link past → AreHanded link.profile past →
    AreFed link.profile (sender_entries link Forth past) → AreFed link.profile (sender_entries link Back past) → JoinsAll link past
unfolding IsLawful AreHanded sender_entries steps_of Chosen
joins link [] few lawful handed fo bo s t a b = record { may = tt; forth = way-none link Forth; back = way-none link Back }
joins link (entry.handed Forth packet ∷ past) few lawful handed fo bo s t a b =
    handed-forth link s t packet past (handed-good link Forth packet past lawful handed) (joins link past few lawful.1 handed.1 fo bo s t a b)
joins link (entry.handed Back packet ∷ past) few lawful handed fo bo s t a b =
    handed-back link s t packet past (handed-good link Back packet past lawful handed) (joins link past few lawful.1 handed.1 fo bo s t a b)
joins link (entry.taken Forth ∷ past) few lawful handed fo bo s t a b = taken-forth link s t past few lawful a (joins link past few lawful.1 handed fo bo s t a b)
joins link (entry.taken Back ∷ past) few lawful handed fo bo s t a b = taken-back link s t past few lawful b (joins link past few lawful.1 handed fo bo s t a b)
joins link (entry.sent Forth feed w flit ∷ past) few lawful handed fo bo s t a b =
    let T = sender_entries link Forth past in
    let u = SenderEntry.sent (given_in link Forth past feed) w flit in
    let fed = fed-turn link.profile u T fo in
    let all : JoinsAll link past = joins link past few lawful.1 handed fed bo in
    let j = some-joins link past all in
    let is = lawful-sent link past Forth feed w flit lawful in
    let before = agrees-turn link.profile s link.retry u T (is.chosen, j.forth.chosen) fo (before-of link Forth past (link_at link past).forth fed j.forth) a in
    sent-forth link s t past feed w flit few lawful a b fo (all s t before b)
joins link (entry.sent Back feed w flit ∷ past) few lawful handed fo bo s t a b =
    let T = sender_entries link Back past in
    let u = SenderEntry.sent (given_in link Back past feed) w flit in
    let fed = fed-turn link.profile u T bo in
    let all : JoinsAll link past = joins link past few lawful.1 handed fo fed in
    let j = some-joins link past all in
    let is = lawful-sent link past Back feed w flit lawful in
    let before = agrees-turn link.profile t link.retry u T (is.chosen, j.back.chosen) bo (before-of link Back past (link_at link past).back fed j.back) b in
    sent-back link s t past feed w flit few lawful a b bo (all s t a before)
joins link (entry.landed Forth mask flit o ∷ past) few lawful handed fo bo s t a b =
    let rrp = (reception_of link.profile (receiver_entries Forth past) flit).rrp in
    let front = slice_get (line link.profile Forth past) 0 in
    let before = landed-agrees link.profile t o rrp front (sender_entries link Back past) b in
    let fed = landed-fed link.profile o rrp front (sender_entries link Back past) bo in
    landed-forth link s t past mask flit o few lawful (joins link past few lawful.1 handed fo fed s t a before)
joins link (entry.landed Back mask flit o ∷ past) few lawful handed fo bo s t a b =
    let rrp = (reception_of link.profile (receiver_entries Back past) flit).rrp in
    let front = slice_get (line link.profile Back past) 0 in
    let before = landed-agrees link.profile s o rrp front (sender_entries link Forth past) a in
    let fed = landed-fed link.profile o rrp front (sender_entries link Forth past) fo in
    landed-back link s t past mask flit o few lawful (joins link past few lawful.1 handed fed bo s t before b)
joins link (entry.unlocked Forth ∷ past) few lawful handed fo bo s t a b = unlocked-forth link s t past (joins link past few lawful.1 handed fo bo s t a b)
joins link (entry.unlocked Back ∷ past) few lawful handed fo bo s t a b = unlocked-back link s t past (joins link past few lawful.1 handed fo bo s t a b)
joins link (entry.through Forth head flits ∷ past) few lawful handed fo bo s t a b =
    let T = sender_entries link Forth past in
    let u = SenderEntry.through head flits (due_after link Back past T) in
    let fed = fed-turn link.profile u T fo in
    let all : JoinsAll link past = joins link past few lawful.1 handed fed bo in
    let j = some-joins link past all in
    let begun = begun-forth link (sent_of link.profile 0 T) (sent_of link.profile 0 (sender_entries link Back past)) past head flits few lawful (agrees-own link.profile 0 (sender_entries link Back past)) fed j in
    let before = agrees-turn link.profile s link.retry u T begun.through.chosen fo (before-of link Forth past (link_at link past).forth fed j.forth) a in
    through-forth link s t past head flits few lawful b fed (all s t before b)
joins link (entry.through Back head flits ∷ past) few lawful handed fo bo s t a b =
    let T = sender_entries link Back past in
    let u = SenderEntry.through head flits (due_after link Forth past T) in
    let fed = fed-turn link.profile u T bo in
    let all : JoinsAll link past = joins link past few lawful.1 handed fo fed in
    let j = some-joins link past all in
    let begun = begun-back link (sent_of link.profile 0 (sender_entries link Forth past)) (sent_of link.profile 0 T) past head flits few lawful (agrees-own link.profile 0 (sender_entries link Forth past)) fed j in
    let before = agrees-turn link.profile t link.retry u T begun.through.chosen bo (before-of link Back past (link_at link past).back fed j.back) b in
    through-back link s t past head flits few lawful a fed (all s t a before)

-- a list that is kept, with the flits of its own places
pub kept-joins : (tag : ℕ) (link : LinkFields) (past : List LinkEntry) → IsKept link past → Joins link (sent_of link.profile tag (sender_entries link Forth past)) (sent_of link.profile tag (sender_entries link Back past)) past
kept-joins tag link past kept =
    joins link past kept.retry kept.lawful kept.met.handed kept.met.forth kept.met.back (sent_of link.profile tag (sender_entries link Forth past)) (sent_of link.profile tag (sender_entries link Back past))
    (agrees-own link.profile tag (sender_entries link Forth past)) (agrees-own link.profile tag (sender_entries link Back past))
