-- Where no packet is passed on, no send is starved.
use Rattle.std.proofs.Common.{◌≡◌, ◌-◌, ℕ, zero, suc, Bool, true, false, List, [], ◌∷◌, ◌++◌, Option, Some, None, subst}
use Rattle.std.specs.Prelude.{slice_get, slice_index_or, if◌then◌else◌}
use Rattle.hmc_codes.specs.Link.{LinkFields}
use Rattle.hmc_codes.specs.declared.profile.Profile.{Profile}
use Rattle.hmc_packet.specs.declared.feed.Feed.{Feed}
use Rattle.hmc_packet.specs.declared.kind.Kind.TheVariants as kinds
use Rattle.hmc_packet.specs.declared.outcome.Outcome.{Outcome}
use Rattle.hmc_packet.specs.declared.outcome.Outcome.TheVariants as out
use Rattle.hmc_packet.specs.declared.what.What.{What}
use Rattle.hmc_packet.specs.declared.what.What.TheVariants as what
use Rattle.hmc_packet.specs.Packet.{PacketFields, null_packet}
use Rattle.hmc_packet.specs.Receptions.{reception_of}
use Rattle.hmc_send.specs.declared.sent.Sent as outer_sent
use Rattle.hmc_send.specs.declared.sent.Sent.TheVariants.{Starved}
use Rattle.hmc_send.specs.declared.toward.Toward.{Toward}
use Rattle.hmc_send.specs.Choice.{SendView, view_after, choice, next_flit}
use Rattle.hmc_send.specs.Copies.{place_fed}
use Rattle.hmc_send.specs.Entries.{SenderEntry, Given, Part, UnderWay, with_place, unfinished, places, places_with, last_begun}
use Rattle.hmc_send.specs.LinkEntries.{LinkEntry, LinkEntry as entry, other, same_way, put_if, receiver_entries}
use Rattle.hmc_send.specs.LinkLines.{StampedFlit, line}
use Rattle.hmc_send.specs.LinkSenders.{sender_entries, given_after, run_entries, acknowledgement}
use Rattle.hmc_send.specs.Places.{Place, place_at, with_last}
use Rattle.hmc_send.proofs.Cases.{Case, Case as case, case_of}
use Rattle.hmc_rounds.specs.LinkPart.{HaveNoThrough}

abbrev AllSent : List SenderEntry → Type 0
AllSent [] = Unit {0}
AllSent (SenderEntry.through head flits due ∷ t) = ⊥
AllSent (SenderEntry.sent given w flit ∷ t) = AllSent t
AllSent (SenderEntry.ran ∷ t) = AllSent t
AllSent (SenderEntry.acknowledged n ∷ t) = AllSent t

put_sent : (b : Bool) (given : Given) (w : What) (flit : List ℕ) (t : List SenderEntry) →
    AllSent t → AllSent (put_if b (SenderEntry.sent given w flit) t)
put_sent true given w flit t all = all
put_sent false given w flit t all = all

ran-sent : (o : Outcome) (rrp : Option ℕ) (front : Option StampedFlit) (t : List SenderEntry) →
    AllSent t → AllSent ((run_entries o ++ acknowledgement rrp front) ++ t)
ran-sent (out.Ran kinds.Start) (Some r) (Some f) t all = all
ran-sent (out.Ran kinds.Start) (Some r) None t all = all
ran-sent (out.Ran kinds.Start) None front t all = all
ran-sent _ (Some r) (Some f) t all = all
ran-sent _ (Some r) None t all = all
ran-sent _ None front t all = all

landed-sent : (b : Bool) (o : Outcome) (rrp : Option ℕ) (front : Option StampedFlit)
    (t : List SenderEntry) → AllSent t →
    AllSent (if b then (run_entries o ++ acknowledgement rrp front) ++ t else t)
landed-sent true o rrp front t all = ran-sent o rrp front t all
landed-sent false o rrp front t all = all

all-sent : (link : LinkFields) (d : Toward) (past : List LinkEntry) → HaveNoThrough past →
    AllSent (sender_entries link d past)
unfolding sender_entries
all-sent link d [] h = tt
all-sent link d (entry.handed way packet ∷ past) h = all-sent link d past h.1
all-sent link d (entry.taken way ∷ past) h = all-sent link d past h.1
all-sent link d (entry.sent way feed w flit ∷ past) h =
    put_sent (same_way d way) (given_after link d past (sender_entries link d past) feed) w flit
    (sender_entries link d past) (all-sent link d past h.1)
all-sent link d (entry.landed way mask flit o ∷ past) h =
    landed-sent (same_way (other d) way) o
    (reception_of link.profile (receiver_entries way past) flit).rrp
    (slice_get (line link.profile way past) 0) (sender_entries link d past)
    (all-sent link d past h.1)
all-sent link d (entry.unlocked way ∷ past) h = all-sent link d past h.1
all-sent link d (entry.through way head flits ∷ past) h = absurd h.0

-- ---- each place has its packet

abbrev IsKnown : Place → Type 0
IsKnown (Place.known packet) = Unit {0}
IsKnown (Place.awaited head flits n) = ⊥

abbrev AllKnown : List Place → Type 0
AllKnown [] = Unit {0}
AllKnown (p ∷ l) = IsKnown p × AllKnown l

known-push : (l : List Place) (p : PacketFields) → AllKnown l → AllKnown (l ++ Place.known p ∷ [])
known-push [] p all = (tt, tt)
known-push (x ∷ l) p all = (all.0, known-push l p all.1)

fed-known : (q : Profile) (sent : List (List ℕ)) (feed : Feed) (x : Place) → IsKnown x →
    IsKnown (place_fed q sent feed x)
fed-known q sent feed (Place.known packet) k = tt
fed-known q sent feed (Place.awaited head flits n) k = absurd k

last-known : (q : Profile) (sent : List (List ℕ)) (feed : Feed) (l : List Place) → AllKnown l →
    AllKnown (with_last (place_fed q sent feed) l)
last-known q sent feed [] all = tt
last-known q sent feed (x ∷ []) all = (fed-known q sent feed x all.0, tt)
last-known q sent feed (x ∷ y ∷ l) all = (all.0, last-known q sent feed (y ∷ l) all.1)

new-known : (q : Profile) (u : Option Part) (given : Given) (l : List Place) → AllKnown l →
    AllKnown (places_with q u given l)
new-known q None given l all = known-push l _ all
new-known q (Some part) given l all = last-known q part.sent given.feed l all

all-known : (q : Profile) (t : List SenderEntry) → AllSent t → AllKnown (places q t)
unfolding places
all-known q [] all = tt
all-known q (SenderEntry.through head flits due ∷ t) all = absurd all
all-known q (SenderEntry.ran ∷ t) all = all-known q t all
all-known q (SenderEntry.acknowledged n ∷ t) all = all-known q t all
all-known q (SenderEntry.sent given what.New flit ∷ t) all =
    new-known q (unfinished t) given (places q t) (all-known q t all)
all-known q (SenderEntry.sent given what.Tret flit ∷ t) all =
    known-push (places q t) _ (all-known q t all)
all-known q (SenderEntry.sent given what.Train flit ∷ t) all = all-known q t all
all-known q (SenderEntry.sent given what.Null flit ∷ t) all = all-known q t all
all-known q (SenderEntry.sent given what.Pret flit ∷ t) all = all-known q t all
all-known q (SenderEntry.sent given what.Start flit ∷ t) all = all-known q t all
all-known q (SenderEntry.sent given what.Clear flit ∷ t) all = all-known q t all
all-known q (SenderEntry.sent given what.Again flit ∷ t) all = all-known q t all

known-at : (l : List Place) (n : ℕ) → AllKnown l →
    IsKnown (slice_index_or l n (Place.known null_packet))
known-at [] n all = tt
known-at (x ∷ l) zero all = all.0
known-at (x ∷ l) (suc n) all = known-at l n all.1

next-some : (q : Profile) (rrp : ℕ) (feed : Feed) (x : Place) (part : Part) → IsKnown x →
    next_flit q rrp feed x part ≡ None → ⊥
next-some q rrp feed (Place.known packet) part k e = cc e
next-some q rrp feed (Place.awaited head flits n) part k e = k

under-known : (x : Place) (u : Option Part) (begun : UnderWay) → IsKnown x →
    with_place x u ≡ Some begun → IsKnown begun.place
under-known x None begun k e = absurd (cc e)
under-known x (Some part) begun k e =
    let same : record { part = part; place = x } ≡ begun =
    cc in subst (λ (b : UnderWay). IsKnown b.place) same k

starved-by : (q : Profile) (s : SendView) (x : outer_sent.Sent) → Case q s x → x ≡ Starved →
    ((begun : UnderWay) → s.under_way ≡ Some begun → IsKnown begun.place) → ⊥
starved-by q s x (case.starves t begun some next) is k =
    next-some q s.given.own.rrp s.given.feed begun.place begun.part (k begun some) next
starved-by q s x (case.trains t) is k = cc is
starved-by q s x (case.goes_on t begun some f next) is k = cc is
starved-by q s x (case.steers t nothing kind due) is k = cc is
starved-by q s x (case.repeats b place again) is k = cc is
starved-by q s x (case.begins f can) is k = cc is
starved-by q s x (case.returns f opened due) is k = cc is
starved-by q s x (case.points f other_rrp) is k = cc is
starved-by q s x (case.idles f same_rrp) is k = cc is

pub unstarved : (link : LinkFields) (d : Toward) (past : List LinkEntry) (given : Given) →
    HaveNoThrough past →
    choice link.profile (view_after link.profile link.retry (sender_entries link d past) given)
    ≡ Starved → ⊥
unfolding view_after
unstarved link d past given h is =
    let t = sender_entries link d past in
    let q = link.profile in
    starved-by q (view_after q link.retry t given) (choice q (view_after q link.retry t given))
    (case_of q (view_after q link.retry t given)) is
    (λ begun e. under-known (place_at (places q t) (last_begun q t)) (unfinished t) begun
    (known-at (places q t) (last_begun q t - 1) (all-known q t (all-sent link d past h))) e)
