-- What was sent as a training flit is one, on each line of a kept list.
use Rattle.std.proofs.Common.{◌≡◌, ◌∙◌, ℕ, suc, Bool, true, false, List, [], ◌∷◌, ◌++◌, drop, Option, Some, None, refl, sym, ap, subst}
use Rattle.std.specs.Prelude.{◌||◌}
use Rattle.std.proofs.lemmas.List.{drop-append-le}
use Rattle.hmc_codes.specs.Link.{LinkFields}
use Rattle.hmc_codes.specs.declared.profile.Profile.{Profile}
use Rattle.hmc_packet.specs.declared.what.What.{What}
use Rattle.hmc_packet.specs.declared.what.What.TheVariants as what
use Rattle.hmc_packet.specs.Landings as receipts
use Rattle.hmc_packet.specs.Receptions.{reception_of}
use Rattle.hmc_packet.specs.Spelling.{training_flit}
use Rattle.hmc_send.specs.declared.sent.Sent as outer_sent
use Rattle.hmc_send.specs.declared.sent.Sent.TheVariants.{Out}
use Rattle.hmc_send.specs.declared.toward.Toward.{Toward}
use Rattle.hmc_send.specs.declared.toward.Toward.TheVariants.{Forth, Back}
use Rattle.hmc_send.specs.Choice.{SendView, view_after, choice, what_of}
use Rattle.hmc_send.specs.Entries.{SenderEntry, Given, Part, or_null, places, unfinished}
use Rattle.hmc_send.specs.LinkEntries.{LinkEntry, LinkEntry as entry, receiver_entries}
use Rattle.hmc_packet.specs.Masks.{changes}
use Rattle.hmc_send.specs.LinkLines.{StampedFlit, sent_flits, stamped_flit, landings, line, is_pending_changed}
use Rattle.hmc_send.specs.LinkSenders.{sender_entries, given_in}
use Rattle.hmc_send.proofs.Cases.{Case, Case as case, case_of}
use Rattle.hmc_send.proofs.LinkLawful.{lawful-sent}
use Rattle.hmc_numbers.specs.Direction.{Item, Direction, Filler as fill, rest}
use Rattle.hmc_numbers.specs.Direction.Item.{filler}
use Rattle.hmc_numbers.specs.Events.{Event, Event as events, happens}
use Rattle.hmc_wire.specs.EntryTurns.{turns_of, sent_event, unless_begun, next_place, weight, landed_event}
use Rattle.hmc_wire.specs.FieldsAre.{half_after}
use Rattle.hmc_wire.specs.LinkLaws.{IsKept}
use Rattle.hmc_wire.proofs.Actions.{item_of}
use Rattle.hmc_wire.proofs.ActionWays.{sends}
use Rattle.hmc_wire.proofs.EntryTurns.{kept-before}
use Rattle.hmc_wire.proofs.SenderLists.{what_is, carries, carries-part}
use Rattle.hmc_steps.proofs.Settled.{event-sends, event-lands, own-line, other-line, drop-one}
use Rattle.hmc_steps.proofs.Wired.{wired}

abbrev pub TrainsAre : List Item → List StampedFlit → Type 0
TrainsAre [] [] = Unit {0}
TrainsAre (x ∷ xs) (f ∷ fs) = (x ≡ filler fill.train → f.flit ≡ training_flit) × TrainsAre xs fs
TrainsAre xs fs = ⊥

trains-snoc : (xs : List Item) (fs : List StampedFlit) (x : Item) (f : StampedFlit) →
    TrainsAre xs fs → (x ≡ filler fill.train → f.flit ≡ training_flit) →
    TrainsAre (xs ++ x ∷ []) (fs ++ f ∷ [])
trains-snoc [] [] x f all h = (h, tt)
trains-snoc [] (g ∷ fs) x f all h = absurd all
trains-snoc (y ∷ xs) [] x f all h = absurd all
trains-snoc (y ∷ xs) (g ∷ fs) x f all h = (all.0, trains-snoc xs fs x f all.1 h)

trains-rest : (xs : List Item) (fs : List StampedFlit) → TrainsAre xs fs →
    TrainsAre (rest xs) (drop 1 fs)
trains-rest [] [] all = tt
trains-rest [] (g ∷ fs) all = absurd all
trains-rest (y ∷ xs) [] all = absurd all
trains-rest (y ∷ xs) (g ∷ fs) all = all.1

-- a flit that is sent to train

train-by : (q : Profile) (s : SendView) (x : outer_sent.Sent) → Case q s x → (flit : List ℕ) →
    x ≡ Out flit what.Train → flit ≡ training_flit
train-by q s x (case.trains t) flit is = cc
train-by q s x (case.goes_on t begun some f next) flit is =
    let clash : true ≡ false =
    sym (carries-part begun.part) ∙ ap carries (what_is f flit _ what.Train is) in absurd (cc clash)
train-by q s x (case.starves t begun some next) flit is = absurd cc
train-by q s x (case.steers t nothing kind due) flit is =
    absurd (not_train kind (what_is _ flit (what_of kind) what.Train is))
  where
    not_train : (k : _) → what_of k ≡ what.Train → ⊥
    not_train Rattle.hmc_packet.specs.declared.kind.Kind.TheVariants.Start e = cc e
    not_train Rattle.hmc_packet.specs.declared.kind.Kind.TheVariants.Clear e = cc e
train-by q s x (case.repeats b place again) flit is =
    let clash : what.Again ≡ what.Train = what_is _ flit what.Again what.Train is in
    absurd (cc clash)
train-by q s x (case.begins f can) flit is =
    let clash : what.New ≡ what.Train = what_is _ flit what.New what.Train is in absurd (cc clash)
train-by q s x (case.returns f opened due) flit is =
    let clash : what.Tret ≡ what.Train = what_is _ flit what.Tret what.Train is in absurd (cc clash)
train-by q s x (case.points f other_rrp) flit is =
    let clash : what.Pret ≡ what.Train = what_is _ flit what.Pret what.Train is in absurd (cc clash)
train-by q s x (case.idles f same_rrp) flit is =
    let clash : what.Null ≡ what.Train = what_is _ flit what.Null what.Train is in absurd (cc clash)

train-flit : (q : Profile) (retry : ℕ) (t : List SenderEntry) (given : Given) (flit : List ℕ) →
    choice q (view_after q retry t given) ≡ Out flit what.Train → flit ≡ training_flit
unfolding view_after
train-flit q retry t given flit is =
    train-by q (view_after q retry t given) (choice q (view_after q retry t given))
    (case_of q (view_after q retry t given)) flit is

abbrev is_train : Item → Bool
is_train (filler fill.train) = true
is_train x = false

begun-no : (u : Option Part) (d : Direction) (e : Event) → is_train (item_of d e) ≡ false →
    is_train (item_of d (unless_begun u e)) ≡ false
begun-no None d e h = h
begun-no (Some begun) d e h = refl

no-train : (x : Item) → is_train x ≡ false → x ≡ filler fill.train → ⊥
no-train x h e = let clash : true ≡ false = ap is_train (sym e) ∙ h in cc clash

item-train : (q : Profile) (retry : ℕ) (t : List SenderEntry) (given : Given) (w : What)
    (flit : List ℕ) (d : Direction) → choice q (view_after q retry t given) ≡ Out flit w →
    item_of d (sent_event q t given w) ≡ filler fill.train → flit ≡ training_flit
item-train q retry t given what.Train flit d is e = train-flit q retry t given flit is
item-train q retry t given what.Null flit d is e = absurd (no-train _ refl e)
item-train q retry t given what.Pret flit d is e = absurd (no-train _ refl e)
item-train q retry t given what.Start flit d is e = absurd (no-train _ refl e)
item-train q retry t given what.Clear flit d is e = absurd (no-train _ refl e)
item-train q retry t given what.Tret flit d is e = absurd (no-train _ refl e)
item-train q retry t given what.New flit d is e =
    absurd (no-train _
    (begun-no (unfinished t) d
    (events.begins (weight (next_place q given.due (or_null given.front) (places q t)))) refl) e)
item-train q retry t given what.Again flit d is e =
    absurd (no-train _ (begun-no (unfinished t) d events.begins_again refl) e)

-- a line

abbrev pub LineTrains : LinkFields → Toward → List LinkEntry → Type 0
LineTrains link d past =
    TrainsAre (half_after link d past).direction.line (line link.profile d past)

trains_forth : (link : LinkFields) (past : List LinkEntry) → IsKept link past →
    LineTrains link Forth past
unfolding sent_flits landings turns_of line
trains_forth link [] kept = tt
trains_forth link (entry.handed v packet ∷ past) kept =
    trains_forth link past (kept-before link (entry.handed v packet) past kept)
trains_forth link (entry.taken Forth ∷ past) kept =
    trains_forth link past (kept-before link (entry.taken Forth) past kept)
trains_forth link (entry.taken Back ∷ past) kept =
    trains_forth link past (kept-before link (entry.taken Back) past kept)
trains_forth link (entry.sent Forth feed w flit ∷ past) kept =
    let before = kept-before link (entry.sent Forth feed w flit) past kept in
    let d = (half_after link Forth past).direction in
    let t = sender_entries link Forth past in
    let given = given_in link Forth past feed in
    let e = sent_event link.profile t given w in
    let f = stamped_flit link.profile Forth past flit in
    let count = (wired link Forth past before).way.count in
    let more =
    drop-append-le (landings Forth past) (sent_flits link.profile Forth past) (f ∷ []) count in
    let chosen = (lawful-sent link past Forth feed w flit kept.lawful).chosen in
    subst (λ (l : List StampedFlit). TrainsAre (happens d e).line l) (sym more)
    (subst (λ (l : List Item).
    TrainsAre l (drop (landings Forth past) (sent_flits link.profile Forth past) ++ f ∷ []))
    (sym (sends d e (event-sends link.profile t given w)).line)
    (trains-snoc d.line (drop (landings Forth past) (sent_flits link.profile Forth past))
    (item_of d e) f (trains_forth link past before)
    (λ z. item-train link.profile link.retry t given w flit d chosen z)))
trains_forth link (entry.sent Back feed w flit ∷ past) kept =
    trains_forth link past (kept-before link (entry.sent Back feed w flit) past kept)
trains_forth link (entry.landed Forth mask flit o ∷ past) kept =
    let before = kept-before link (entry.landed Forth mask flit o) past kept in
    let h = half_after link Forth past in
    let e = landed_event link Forth past mask flit o in
    let sent = sent_flits link.profile Forth past in
    subst (λ (l : List Item). TrainsAre l (drop (suc (landings Forth past)) sent))
    (sym (own-line h (half_after link Back past).direction.accepted
    (reception_of link.profile (receiver_entries Forth past) flit).rrp e
    (event-lands (receipts.mode (receiver_entries Forth past))
    (changes mask || is_pending_changed Forth past) (changes mask) _ o)))
    (subst (λ (l : List StampedFlit). TrainsAre (rest h.direction.line) l)
    (drop-one (landings Forth past) sent)
    (trains-rest h.direction.line (drop (landings Forth past) sent)
    (trains_forth link past before)))
trains_forth link (entry.landed Back mask flit o ∷ past) kept =
    subst (λ (l : List Item).
    TrainsAre l (drop (landings Forth past) (sent_flits link.profile Forth past)))
    (sym (other-line (half_after link Back past) (half_after link Forth past)
    (reception_of link.profile (receiver_entries Back past) flit).rrp
    (landed_event link Back past mask flit o)))
    (trains_forth link past (kept-before link (entry.landed Back mask flit o) past kept))
trains_forth link (entry.unlocked Forth ∷ past) kept =
    trains_forth link past (kept-before link (entry.unlocked Forth) past kept)
trains_forth link (entry.unlocked Back ∷ past) kept =
    trains_forth link past (kept-before link (entry.unlocked Back) past kept)
trains_forth link (entry.through Forth head flits ∷ past) kept =
    trains_forth link past (kept-before link (entry.through Forth head flits) past kept)
trains_forth link (entry.through Back head flits ∷ past) kept =
    trains_forth link past (kept-before link (entry.through Back head flits) past kept)

trains_back : (link : LinkFields) (past : List LinkEntry) → IsKept link past →
    LineTrains link Back past
unfolding sent_flits landings turns_of line
trains_back link [] kept = tt
trains_back link (entry.handed v packet ∷ past) kept =
    trains_back link past (kept-before link (entry.handed v packet) past kept)
trains_back link (entry.taken Back ∷ past) kept =
    trains_back link past (kept-before link (entry.taken Back) past kept)
trains_back link (entry.taken Forth ∷ past) kept =
    trains_back link past (kept-before link (entry.taken Forth) past kept)
trains_back link (entry.sent Back feed w flit ∷ past) kept =
    let before = kept-before link (entry.sent Back feed w flit) past kept in
    let d = (half_after link Back past).direction in
    let t = sender_entries link Back past in
    let given = given_in link Back past feed in
    let e = sent_event link.profile t given w in
    let f = stamped_flit link.profile Back past flit in
    let count = (wired link Back past before).way.count in
    let more =
    drop-append-le (landings Back past) (sent_flits link.profile Back past) (f ∷ []) count in
    let chosen = (lawful-sent link past Back feed w flit kept.lawful).chosen in
    subst (λ (l : List StampedFlit). TrainsAre (happens d e).line l) (sym more)
    (subst (λ (l : List Item).
    TrainsAre l (drop (landings Back past) (sent_flits link.profile Back past) ++ f ∷ []))
    (sym (sends d e (event-sends link.profile t given w)).line)
    (trains-snoc d.line (drop (landings Back past) (sent_flits link.profile Back past))
    (item_of d e) f (trains_back link past before)
    (λ z. item-train link.profile link.retry t given w flit d chosen z)))
trains_back link (entry.sent Forth feed w flit ∷ past) kept =
    trains_back link past (kept-before link (entry.sent Forth feed w flit) past kept)
trains_back link (entry.landed Back mask flit o ∷ past) kept =
    let before = kept-before link (entry.landed Back mask flit o) past kept in
    let h = half_after link Back past in
    let e = landed_event link Back past mask flit o in
    let sent = sent_flits link.profile Back past in
    subst (λ (l : List Item). TrainsAre l (drop (suc (landings Back past)) sent))
    (sym (own-line h (half_after link Forth past).direction.accepted
    (reception_of link.profile (receiver_entries Back past) flit).rrp e
    (event-lands (receipts.mode (receiver_entries Back past))
    (changes mask || is_pending_changed Back past) (changes mask) _ o)))
    (subst (λ (l : List StampedFlit). TrainsAre (rest h.direction.line) l)
    (drop-one (landings Back past) sent)
    (trains-rest h.direction.line (drop (landings Back past) sent) (trains_back link past before)))
trains_back link (entry.landed Forth mask flit o ∷ past) kept =
    subst (λ (l : List Item).
    TrainsAre l (drop (landings Back past) (sent_flits link.profile Back past)))
    (sym (other-line (half_after link Forth past) (half_after link Back past)
    (reception_of link.profile (receiver_entries Forth past) flit).rrp
    (landed_event link Forth past mask flit o)))
    (trains_back link past (kept-before link (entry.landed Forth mask flit o) past kept))
trains_back link (entry.unlocked Back ∷ past) kept =
    trains_back link past (kept-before link (entry.unlocked Back) past kept)
trains_back link (entry.unlocked Forth ∷ past) kept =
    trains_back link past (kept-before link (entry.unlocked Forth) past kept)
trains_back link (entry.through Back head flits ∷ past) kept =
    trains_back link past (kept-before link (entry.through Back head flits) past kept)
trains_back link (entry.through Forth head flits ∷ past) kept =
    trains_back link past (kept-before link (entry.through Forth head flits) past kept)

pub line-trains : (link : LinkFields) (d : Toward) (past : List LinkEntry) → IsKept link past →
    LineTrains link d past
line-trains link Forth past kept = trains_forth link past kept
line-trains link Back past kept = trains_back link past kept
