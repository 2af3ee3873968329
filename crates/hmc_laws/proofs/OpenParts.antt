-- What of a packet under way was sent: none of its flits only where it is forwarded.
use Rattle.std.proofs.Common.{◌≡◌, ◌≤◌, ◌∙◌, inl, inr, ℕ, suc, Bool, true, false, List, [], ◌∷◌, ◌++◌, Option, Some, None, length, if◌then◌else◌, sym, ap, subst, arith, length-append, eqb-true}
use Rattle.std.specs.Prelude.{is_none}
use Rattle.std.proofs.lemmas.Option.{same_Some}
use Rattle.hmc_codes.specs.Link.{LinkFields}
use Rattle.hmc_codes.specs.declared.profile.Profile.{Profile}
use Rattle.hmc_packet.specs.declared.feed.Feed.{Feed}
use Rattle.hmc_packet.specs.declared.feed.Feed.TheVariants.{Waiting, Whole, Last}
use Rattle.hmc_packet.specs.declared.what.What.{What}
use Rattle.hmc_packet.specs.declared.what.What.TheVariants as what
use Rattle.hmc_packet.specs.Head.{head_in}
use Rattle.hmc_packet.specs.Parts.{lng_of}
use Rattle.hmc_send.specs.declared.numbers.Numbers.{Numbers}
use Rattle.hmc_send.specs.declared.toward.Toward.{Toward}
use Rattle.hmc_send.specs.declared.toward.Toward.TheVariants.{Forth, Back}
use Rattle.hmc_send.specs.Choice.{view_after}
use Rattle.hmc_send.specs.Choice as cases
use Rattle.hmc_send.specs.Copies.{fed_flit}
use Rattle.hmc_send.specs.Entries.{SenderEntry, Part, UnderWay, part_after, unfinished, places, last_begun, under_way}
use Rattle.hmc_send.specs.IsSender.{IsFed}
use Rattle.hmc_send.specs.Kept.{IsFedNext}
use Rattle.hmc_send.specs.LinkCalls.{view_in, names_flits}
use Rattle.hmc_send.specs.LinkEntries.{LinkEntry}
use Rattle.hmc_send.specs.LinkSenders.{sender_entries, given_in, given_after}
use Rattle.hmc_send.specs.Places.{Place, place_at}
use Rattle.hmc_send.proofs.LinkLawful.{lawful-sent, lawful-through}
use Rattle.hmc_wire.specs.Conditions.{AreFed}
use Rattle.hmc_wire.specs.LinkLaws.{IsKept}
use Rattle.hmc_wire.proofs.Filled.{heads, heads-lng}
use Rattle.hmc_wire.proofs.OpenPlaces.{AreKnown, IsOpen, open_place, open-at, under, under-open}
use Rattle.hmc_wire.proofs.Places.{packet_of}
use Rattle.hmc_wire.proofs.SenderLists.{none-under}
use Rattle.hmc_wire.proofs.Throughs.{ready-is}
use Rattle.hmc_journal.proofs.LinkKept.{opened}
use Rattle.hmc_wire.proofs.EntryTurns.{kept-before}

-- ---- where each place has its packet, a packet under way had a flit sent

known-front : (l : List Place) (x : Place) → AreKnown (l ++ x ∷ []) → AreKnown l
known-front [] x known = tt
known-front (y ∷ l) x known = (known.0, known-front l x known.1)

known-last : (l : List Place) (x : Place) → AreKnown (l ++ x ∷ []) → is_none (packet_of x) ≡ false
known-last [] x known = known.0
known-last (y ∷ l) x known = known-last l x known.1

grown_some : (part : Part) (flit : List ℕ) (grown : Part) (whole : Bool) → (if whole then None else Some (record part { sent = part.sent ++ flit ∷ [] })) ≡ Some grown → 1 ≤ length grown.sent
grown_some part flit grown true is = absurd cc
grown_some part flit grown false is =
    let same : record part { sent = part.sent ++ flit ∷ [] } ≡ grown = cc in
    let long : length grown.sent ≡ length (part.sent ++ flit ∷ []) = ap (λ (p : Part). length p.sent) (sym same) in
    let more = length-append part.sent (flit ∷ []) in omega arith

after_some : (again : Bool) (flit : List ℕ) (u : Option Part) (grown : Part) → part_after again flit u ≡ Some grown → 1 ≤ length grown.sent
after_some again flit None grown is = grown_some (record { again = again; flits = lng_of flit; sent = [] }) flit grown _ is
after_some again flit (Some part) grown is = grown_some part flit grown _ is

not-none : (part : Part) → ◌≡◌ {A = Option Part} None (Some part) → ⊥
not-none part is = cc

pub sent_some : (q : Profile) (T : List SenderEntry) → AreKnown (places q T) → (part : Part) → unfinished T ≡ Some part → 1 ≤ length part.sent
unfolding places unfinished
sent_some q [] known part is = absurd (not-none part is)
sent_some q (SenderEntry.sent given what.New flit ∷ past) known part is = after_some false flit (unfinished past) part is
sent_some q (SenderEntry.sent given what.Again flit ∷ past) known part is = after_some true flit (unfinished past) part is
sent_some q (SenderEntry.sent given what.Tret flit ∷ past) known part is = sent_some q past (known-front (places q past) _ known) part is
sent_some q (SenderEntry.sent given what.Train flit ∷ past) known part is = sent_some q past known part is
sent_some q (SenderEntry.sent given what.Clear flit ∷ past) known part is = sent_some q past known part is
sent_some q (SenderEntry.sent given what.Start flit ∷ past) known part is = sent_some q past known part is
sent_some q (SenderEntry.sent given what.Null flit ∷ past) known part is = sent_some q past known part is
sent_some q (SenderEntry.sent given what.Pret flit ∷ past) known part is = sent_some q past known part is
sent_some q (SenderEntry.ran ∷ past) known part is = sent_some q past known part is
sent_some q (SenderEntry.acknowledged packets ∷ past) known part is = sent_some q past known part is
sent_some q (SenderEntry.through head flits due ∷ past) known part is =
    absurd (let clash : true ≡ false = known-last (places q past) (Place.awaited head flits _) known in cc)

-- ---- a packet that is sent again had a flit sent

pub again_some : (link : LinkFields) (d : Toward) (past : List LinkEntry) → IsKept link past → (part : Part) → unfinished (sender_entries link d past) ≡ Some part → part.again ≡ true → 1 ≤ length part.sent
again_some link d past kept part is again =
    let T = sender_entries link d past in
    elim (opened link d past kept) [
      | inl known ↦ sent_some link.profile T known part is
      | inr o ↦
          let same = same_Some o.part part (sym o.under ∙ is) in
          let clash : false ≡ true = sym o.new ∙ ap (λ (p : Part). p.again) same ∙ again in absurd cc
    ]

-- ---- the first flit of a packet that is forwarded is its head

-- what a send was fed fits the packet under way
pub sent-fed : (link : LinkFields) (d : Toward) (feed : Feed) (as_what : What) (flit : List ℕ) (past : List LinkEntry) → IsKept link (LinkEntry.sent d feed as_what flit ∷ past) → IsFed (under_way link.profile (sender_entries link d past)) feed
unfolding sender_entries AreFed given_after
sent-fed link Forth feed as_what flit past kept = kept.met.forth.0
sent-fed link Back feed as_what flit past kept = kept.met.back.0

pub same_flit : (a b : List ℕ) → Some a ≡ Some b → a ≡ b
same_flit a b is = cc

named_by_feed : (q : Profile) (n : Numbers) (rrp : ℕ) (part : Part) (head flit : List ℕ) (feed : Feed) → fed_flit q n part.sent rrp feed ≡ Some flit → IsFedNext part head feed → length part.sent ≡ 0 → names_flits part.flits (head_in head) ≡ true → lng_of flit ≡ part.flits
named_by_feed q n rrp part head flit Waiting is fits none names = absurd cc
named_by_feed q n rrp part head flit (Whole whole) is fits none names = ap lng_of (sym (same_flit whole flit is) ∙ fits.1 none) ∙ heads-lng part.flits head names
named_by_feed q n rrp part head flit (Last half slid errstat good) is fits none names =
    let one : suc (length part.sent) ≡ part.flits = eqb-true (suc (length part.sent)) part.flits fits.0 in
    let h = heads part.flits head names in
    let some = h.some in absurd (omega arith)

named_open : (link : LinkFields) (d : Toward) (feed : Feed) (flit : List ℕ) (past : List LinkEntry) → IsKept link (LinkEntry.sent d feed what.New flit ∷ past) → (o : IsOpen link.profile (sender_entries link d past)) → length o.part.sent ≡ 0 → lng_of flit ≡ o.part.flits
unfolding given_after
named_open link d feed flit past kept o none =
    let T = sender_entries link d past in
    let q = link.profile in
    let given = given_in link d past feed in
    let send = lawful-sent link past d feed what.New flit kept.lawful in
    let next = (under q link.retry T given flit what.New o.part send.chosen o.under (λ e. let clash : what.New ≡ what.Train = e in cc)).1 in
    let here : cases.next_flit q given.own.rrp feed (open_place o) o.part ≡ Some flit = ap (λ (x : Place). cases.next_flit q given.own.rrp feed x o.part) (sym (open-at q T o)) ∙ next in
    let fits : IsFedNext o.part o.head feed = subst (λ (u : Option UnderWay). IsFed u feed) (under-open q T o) (sent-fed link d feed what.New flit past kept) in
    named_by_feed q o.numbers given.own.rrp o.part o.head flit feed here fits none (ap (λ (n : ℕ). names_flits n (head_in o.head)) o.flits ∙ o.names)

pub first_named : (link : LinkFields) (d : Toward) (feed : Feed) (flit : List ℕ) (past : List LinkEntry) → IsKept link (LinkEntry.sent d feed what.New flit ∷ past) → (part : Part) → unfinished (sender_entries link d past) ≡ Some part → length part.sent ≡ 0
    → lng_of flit ≡ part.flits
first_named link d feed flit past kept part is none =
    let T = sender_entries link d past in
    elim (opened link d past (kept-before link (LinkEntry.sent d feed what.New flit) past kept)) [
      | inl known ↦ (let some = sent_some link.profile T known part is in absurd (omega arith))
      | inr o ↦
          let same = same_Some o.part part (sym o.under ∙ is) in
          named_open link d feed flit past kept o (ap (λ (p : Part). length p.sent) same ∙ none) ∙ ap (λ (p : Part). p.flits) same
    ]

-- ---- a cut-through begins where no packet is under way

pub through_free : (link : LinkFields) (d : Toward) (head : List ℕ) (flits : ℕ) (past : List LinkEntry) → IsKept link (LinkEntry.through d head flits ∷ past) → unfinished (sender_entries link d past) ≡ None
unfolding view_after
through_free link d head flits past kept =
    let T = sender_entries link d past in
    let may = (lawful-through link past d head flits kept.lawful).0 in
    let ready = ready-is (view_in link d past Waiting) flits may in
    none-under (place_at (places link.profile T) (last_begun link.profile T)) (unfinished T) ready.nothing
