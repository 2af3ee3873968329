-- What holds of each copy of a packet that was forwarded, through every entry of a link.
use Rattle.std.proofs.Common.{◌≡◌, ◌∙◌, inl, inr, ℕ, Bool, true, false, List, [], ◌∷◌, ◌++◌, Option, Some, None, refl, sym, ap, subst}
use Rattle.std.specs.Prelude.{is_none}
use Rattle.hmc_codes.specs.Link.{LinkFields}
use Rattle.hmc_codes.specs.declared.profile.Profile.{Profile}
use Rattle.hmc_packet.specs.declared.feed.Feed.{Feed}
use Rattle.hmc_packet.specs.declared.feed.Feed.TheVariants.{Waiting, Whole, Last}
use Rattle.hmc_packet.specs.declared.what.What.{What}
use Rattle.hmc_packet.specs.declared.what.What.TheVariants as what
use Rattle.hmc_packet.specs.Packet.{PacketFields}
use Rattle.hmc_tokens.specs.Account.{code_for}
use Rattle.hmc_send.specs.declared.numbers.Numbers.{Numbers}
use Rattle.hmc_send.specs.declared.toward.Toward.{Toward}
use Rattle.hmc_send.specs.Copies.{copy_of, place_fed}
use Rattle.hmc_send.specs.Entries.{SenderEntry, Given, Part, or_null, unfinished, places, places_with, under_way}
use Rattle.hmc_send.specs.LinkEntries.{LinkEntry, push_if}
use Rattle.hmc_send.specs.LinkSenders.{sender_entries, given_in, given_after}
use Rattle.hmc_send.specs.Places.{Place, with_last, pointer_of, number_of, next_packet, tret_packet}
use Rattle.hmc_send.proofs.Lists.{last-same, fed-whole, last-push, fed-waiting}
use Rattle.hmc_wire.specs.LinkLaws.{IsKept}
use Rattle.hmc_wire.proofs.OpenPlaces.{AreKnown, IsOpen, open_place, last-fed_known, under-open}
use Rattle.hmc_journal.proofs.LinkKept.{opened}
use Rattle.hmc_laws.proofs.LinkHanded.{own_marks, AreOwn, fronts}
use Rattle.hmc_laws.proofs.AcceptedTokens.{OthersHold}
use Rattle.hmc_laws.proofs.OpenSends.{sent_on}
use Rattle.hmc_wire.proofs.EntryTurns.{kept-before}

-- a packet of the queue more
others-own : (P : PacketFields → Type 0) (marks : List Bool) (l : List Place) (place : Place) → AreOwn marks l → OthersHold P marks l → OthersHold P (marks ++ true ∷ []) (l ++ place ∷ [])
others-own P [] [] place own others = tt
others-own P [] (x ∷ l) place own others = absurd own
others-own P (mark ∷ marks) [] place own others = absurd own
others-own P (true ∷ marks) (Place.known p ∷ l) place own others = others-own P marks l place own others
others-own P (true ∷ marks) (Place.awaited head flits numbers ∷ l) place own others = absurd own
others-own P (false ∷ marks) (Place.known p ∷ l) place own others = (others.0, others-own P marks l place own others.1)
others-own P (false ∷ marks) (Place.awaited head flits numbers ∷ l) place own others = others-own P marks l place own others

-- an open place more
others-open : (P : PacketFields → Type 0) (marks : List Bool) (l : List Place) (head : List ℕ) (flits : ℕ) (numbers : Numbers) → AreOwn marks l → OthersHold P marks l → OthersHold P (marks ++ false ∷ []) (l ++ Place.awaited head flits numbers ∷ [])
others-open P [] [] head flits numbers own others = tt
others-open P [] (x ∷ l) head flits numbers own others = absurd own
others-open P (mark ∷ marks) [] head flits numbers own others = absurd own
others-open P (true ∷ marks) (Place.known p ∷ l) head flits numbers own others = others-open P marks l head flits numbers own others
others-open P (true ∷ marks) (Place.awaited h f n ∷ l) head flits numbers own others = absurd own
others-open P (false ∷ marks) (Place.known p ∷ l) head flits numbers own others = (others.0, others-open P marks l head flits numbers own others.1)
others-open P (false ∷ marks) (Place.awaited h f n ∷ l) head flits numbers own others = others-open P marks l head flits numbers own others

-- the open place gets its packet
others-filled : (P : PacketFields → Type 0) (marks : List Bool) (l : List Place) (head : List ℕ) (flits : ℕ) (numbers : Numbers) (packet : PacketFields) → AreOwn marks (l ++ Place.awaited head flits numbers ∷ []) → OthersHold P marks (l ++ Place.awaited head flits numbers ∷ []) → P packet
    → OthersHold P marks (l ++ Place.known packet ∷ [])
others-filled P [] l head flits numbers packet own others holds = tt
others-filled P (true ∷ []) [] head flits numbers packet own others holds = tt
others-filled P (false ∷ []) [] head flits numbers packet own others holds = (holds, tt)
others-filled P (true ∷ m ∷ marks) [] head flits numbers packet own others holds = tt
others-filled P (false ∷ m ∷ marks) [] head flits numbers packet own others holds = (holds, tt)
others-filled P (true ∷ marks) (Place.known p ∷ l) head flits numbers packet own others holds = others-filled P marks l head flits numbers packet own others holds
others-filled P (true ∷ marks) (Place.awaited h f n ∷ l) head flits numbers packet own others holds = absurd own
others-filled P (false ∷ marks) (Place.known p ∷ l) head flits numbers packet own others holds = (others.0, others-filled P marks l head flits numbers packet own others.1 holds)
others-filled P (false ∷ marks) (Place.awaited h f n ∷ l) head flits numbers packet own others holds = others-filled P marks l head flits numbers packet own others holds

-- ---- a send

-- what is asked of the copy that a send completes
abbrev pub CopyHolds : (PacketFields → Type 0) → LinkFields → Toward → Feed → List LinkEntry → Type 0
CopyHolds P link d feed past =
    (part : Part) (head : List ℕ) (count : ℕ) (numbers : Numbers) (half : List ℕ) (slid errstat : ℕ) (good : Bool) → under_way link.profile (sender_entries link d past) ≡ Some (record { part = part; place = Place.awaited head count numbers })
    → feed ≡ Last half slid errstat good → P (copy_of link.profile part.sent half slid errstat good numbers)

new_known : (P : PacketFields → Type 0) (q : Profile) (given : Given) (marks : List Bool) (l : List Place) (u : Option Part) → AreOwn marks l → AreKnown l → OthersHold P marks l → OthersHold P (push_if (is_none u) true marks) (places_with q u given l)
new_known P q given marks l None own known others = others-own P marks l (Place.known (next_packet q (pointer_of q l) (number_of l) (code_for given.due) (or_null given.front))) own others
new_known P q given marks l (Some part) own known others = subst (OthersHold P marks) (sym (last-fed_known q part.sent given.feed l known)) others

new_open : (P : PacketFields → Type 0) (link : LinkFields) (d : Toward) (past : List LinkEntry) (given : Given) (marks : List Bool) (o : IsOpen link.profile (sender_entries link d past)) (fed : Feed) → given.feed ≡ fed → AreOwn marks (places link.profile (sender_entries link d past))
    → OthersHold P marks (places link.profile (sender_entries link d past)) → CopyHolds P link d fed past → OthersHold P marks (places_with link.profile (Some o.part) given (places link.profile (sender_entries link d past)))
new_open P link d past given marks o Waiting is own others holds =
    let l = places link.profile (sender_entries link d past) in
    subst (OthersHold P marks) (sym (ap (λ (f : Feed). with_last (place_fed link.profile o.part.sent f) l) is ∙ last-same (place_fed link.profile o.part.sent Waiting) l (fed-waiting link.profile o.part.sent))) others
new_open P link d past given marks o (Whole flit) is own others holds =
    let l = places link.profile (sender_entries link d past) in
    subst (OthersHold P marks) (sym (ap (λ (f : Feed). with_last (place_fed link.profile o.part.sent f) l) is ∙ last-same (place_fed link.profile o.part.sent (Whole flit)) l (fed-whole link.profile o.part.sent flit))) others
new_open P link d past given marks o (Last half slid errstat good) is own others holds =
    let l = places link.profile (sender_entries link d past) in
    let f : Place → Place = place_fed link.profile o.part.sent (Last half slid errstat good) in
    let copy = copy_of link.profile o.part.sent half slid errstat good o.numbers in
    subst (OthersHold P marks) (sym (ap (λ (g : Feed). with_last (place_fed link.profile o.part.sent g) l) is ∙ ap (with_last f) o.places ∙ last-push f o.before (open_place o)))
    (others-filled P marks o.before o.head o.count o.numbers copy (subst (AreOwn marks) o.places own) (subst (OthersHold P marks) o.places others)
    (holds o.part o.head o.count o.numbers half slid errstat good (under-open link.profile (sender_entries link d past) o) refl))

others_new : (P : PacketFields → Type 0) (link : LinkFields) (d : Toward) (feed : Feed) (flit : List ℕ) (past : List LinkEntry) → IsKept link (LinkEntry.sent d feed what.New flit ∷ past) → OthersHold P (own_marks (sender_entries link d past)) (places link.profile (sender_entries link d past))
    → CopyHolds P link d feed past → OthersHold P (push_if (is_none (unfinished (sender_entries link d past))) true (own_marks (sender_entries link d past))) (places_with link.profile (unfinished (sender_entries link d past)) (given_in link d past feed) (places link.profile (sender_entries link d past)))
unfolding given_after
others_new P link d feed flit past kept others holds =
    let T = sender_entries link d past in
    let marks = own_marks T in
    let l = places link.profile T in
    let given = given_in link d past feed in
    let before = kept-before link (LinkEntry.sent d feed what.New flit) past kept in
    let own : AreOwn marks l = (fronts link d past before).own in
    elim (opened link d past before) [
      | inl known ↦ new_known P link.profile given marks l (unfinished T) own known others
      | inr o ↦ subst (λ (u : Option Part). OthersHold P (push_if (is_none u) true marks) (places_with link.profile u given l)) (sym o.under) (new_open P link d past given marks o feed refl own others holds)
    ]

others_tret : (P : PacketFields → Type 0) (q : Profile) (given : Given) (flit : List ℕ) (T : List SenderEntry) → AreOwn (own_marks T) (places q T) → OthersHold P (own_marks T) (places q T)
    → OthersHold P (own_marks (SenderEntry.sent given what.Tret flit ∷ T)) (places q (SenderEntry.sent given what.Tret flit ∷ T))
unfolding own_marks places
others_tret P q given flit T own others =
    others-own P (own_marks T) (places q T) (Place.known (next_packet q (pointer_of q (places q T)) (number_of (places q T)) (code_for given.due) tret_packet)) own others

pub others_sent : (P : PacketFields → Type 0) (link : LinkFields) (d : Toward) (feed : Feed) (as_what : What) (flit : List ℕ) (past : List LinkEntry) → IsKept link (LinkEntry.sent d feed as_what flit ∷ past)
    → OthersHold P (own_marks (sender_entries link d past)) (places link.profile (sender_entries link d past)) → CopyHolds P link d feed past → OthersHold P (own_marks (sent_on link d feed as_what flit past)) (places link.profile (sent_on link d feed as_what flit past))
unfolding own_marks places
others_sent P link d feed what.New flit past kept others holds = others_new P link d feed flit past kept others holds
others_sent P link d feed what.Tret flit past kept others holds =
    others_tret P link.profile (given_in link d past feed) flit (sender_entries link d past) (fronts link d past (kept-before link (LinkEntry.sent d feed what.Tret flit) past kept)).own others
others_sent P link d feed what.Again flit past kept others holds = others
others_sent P link d feed what.Train flit past kept others holds = others
others_sent P link d feed what.Clear flit past kept others holds = others
others_sent P link d feed what.Start flit past kept others holds = others
others_sent P link d feed what.Null flit past kept others holds = others
others_sent P link d feed what.Pret flit past kept others holds = others

-- ---- a cut-through

pub others_through : (P : PacketFields → Type 0) (q : Profile) (head : List ℕ) (flits due : ℕ) (T : List SenderEntry) → AreOwn (own_marks T) (places q T) → OthersHold P (own_marks T) (places q T)
    → OthersHold P (own_marks (SenderEntry.through head flits due ∷ T)) (places q (SenderEntry.through head flits due ∷ T))
unfolding own_marks places
others_through P q head flits due T own others = others-open P (own_marks T) (places q T) head flits _ own others
