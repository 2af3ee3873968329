-- The wire of each direction of a link is cut into whole packets.
use Rattle.std.proofs.Common.{◌≡◌, ◌∙◌, ◌≤◌, ℕ, Bool, true, false, List, [], ◌∷◌, ◌++◌, length, map, Option, Some, None, refl, sym, ap, subst, arith, append_assoc, append-nil}
use Rattle.std.specs.Prelude.{slice_get, if◌then◌else◌}
use Rattle.std.proofs.lemmas.List.{map_push, length-map}
use Rattle.hmc_codes.specs.Link.{LinkFields}
use Rattle.hmc_codes.specs.declared.profile.Profile.{Profile}
use Rattle.hmc_packet.specs.declared.feed.Feed.{Feed}
use Rattle.hmc_packet.specs.declared.kind.Kind.TheVariants as kinds
use Rattle.hmc_packet.specs.declared.outcome.Outcome.{Outcome}
use Rattle.hmc_packet.specs.declared.outcome.Outcome.TheVariants as out
use Rattle.hmc_packet.specs.declared.view.Mode.{Mode}
use Rattle.hmc_packet.specs.declared.view.Mode.TheVariants as modes
use Rattle.hmc_packet.specs.declared.what.What.{What}
use Rattle.hmc_packet.specs.declared.what.What.TheVariants.{Train, Clear, Start, Pret, Tret, New, Again}
use Rattle.hmc_packet.specs.declared.what.What.TheVariants.{Null as NullFlit}
use Rattle.hmc_packet.specs.Landings.{mode, pending}
use Rattle.hmc_packet.specs.Receptions.{reception_of}
use Rattle.hmc_numbers.specs.Direction.{Reached, Reached as far, begun}
use Rattle.hmc_numbers.specs.PairLaws.{HalfLaws}
use Rattle.hmc_numbers.proofs.PairLaws.{pair_laws}
use Rattle.hmc_send.specs.declared.sent.Sent.{Sent}
use Rattle.hmc_send.specs.declared.sent.Sent.TheVariants.{Out}
use Rattle.hmc_send.specs.Choice.{SendView, view_after, choice, is_train, part_what}
use Rattle.hmc_send.specs.Entries.{SenderEntry, Given, Part, unfinished, places, last_begun, position, under_way}
use Rattle.hmc_send.specs.IsSender.{IsFed}
use Rattle.hmc_send.specs.LinkEntries.{LinkEntry, LinkEntry as entry, other, receiver_entries}
use Rattle.hmc_send.specs.LinkLines.{StampedFlit, sent_flits, line, is_pending_changed}
use Rattle.hmc_send.specs.LinkSenders.{sender_entries, given_in, given_after, run_entries, acknowledgement}
use Rattle.hmc_send.specs.Places.{Place}
use Rattle.hmc_send.specs.declared.toward.Toward.{Toward}
use Rattle.hmc_send.specs.declared.toward.Toward.TheVariants.{Forth, Back}
use Rattle.hmc_send.proofs.Cases.{Case, case_of}
use Rattle.hmc_send.proofs.Cases.Case.{trains, goes_on, starves, steers, repeats, begins, returns, points, idles}
use Rattle.hmc_send.proofs.LinkLawful.{lawful-sent}
use Rattle.hmc_wire.specs.Conditions.{AreFed, IsFeed}
use Rattle.hmc_wire.specs.EntryTurns.{weight, left_of, turns_of}
use Rattle.hmc_wire.specs.FieldsAre.{half_after}
use Rattle.hmc_wire.specs.LinkLaws.{IsKept}
use Rattle.hmc_wire.proofs.EntryTurns.{kept-before, turns-may, fields-are}
use Rattle.hmc_wire.proofs.Joins.{kept-joins}
use Rattle.hmc_wire.proofs.Parts.{PartsFit}
use Rattle.hmc_wire.proofs.Places.{AllFit}
use Rattle.hmc_wire.proofs.SenderLists.{Chosen, what_is}
use Rattle.hmc_link_laws.specs.Lines.{IsReached}
use Rattle.hmc_link_laws.specs.Wire.{Piece, with_flit, pieces, flits_of_pieces, ArePieces, IsWire}
use Rattle.hmc_link_laws.proofs.Pieces.{keeps-push, whole-keeps}
use Rattle.hmc_link_laws.proofs.RealRuns.{line-is}
use Rattle.hmc_link_laws.proofs.SentPieces.{Facts, step-sent}

-- ---- what is known of the sender of a direction

pub laws-of : (link : LinkFields) (d : Toward) (past : List LinkEntry) → IsKept link past → HalfLaws link.profile link.retry link.tokens (half_after link d past) (half_after link (other d) past)
laws-of link Forth past kept = (pair_laws link.profile link.retry link.tokens (turns_of link past) kept.retry (turns-may link past kept)).forth
laws-of link Back past kept = (pair_laws link.profile link.retry link.tokens (turns_of link past) kept.retry (turns-may link past kept)).back

last-few : (link : LinkFields) (d : Toward) (past : List LinkEntry) → IsKept link past → last_begun link.profile (sender_entries link d past) ≤ length (places link.profile (sender_entries link d past))
last-few link d past kept =
    let fields = fields-are link d past kept in
    let position = (laws-of link d past kept).laws.position in
    let count : begun (half_after link d past).direction ≡ length (places link.profile (sender_entries link d past)) = ap (λ ws. length ws) fields.first ∙ length-map (places link.profile (sender_entries link d past)) weight in
    let last = fields.last in
    omega arith

pub facts-of : (link : LinkFields) (d : Toward) (past : List LinkEntry) → IsKept link past → Facts link.profile link.retry (sender_entries link d past)
facts-of link Forth past kept = let j = (kept-joins 0 link past kept).forth in record { chosen = j.chosen; fed = kept.met.forth; fit = j.fit; parts = j.parts; last = last-few link Forth past kept }
facts-of link Back past kept = let j = (kept-joins 0 link past kept).back in record { chosen = j.chosen; fed = kept.met.back; fit = j.fit; parts = j.parts; last = last-few link Back past kept }

-- ---- while a sender trains, no packet is unfinished

train-mode : (m : Mode) → is_train m ≡ true → m ≡ modes.Train
train-mode modes.Train is = refl
train-mode modes.Abort is = absurd cc
train-mode modes.Good is = absurd cc

train-by : (q : Profile) (s : SendView) (x : Sent) → Case q s x → (flit : List ℕ) → x ≡ Out flit Train → is_train s.given.own.mode ≡ true
train-by q s x (trains t) flit is = t
train-by q s x (goes_on t b some f next) flit is = by-again b.part.again (what_is f flit (part_what b.part) Train is)
  where
    by-again : (again : Bool) → (if again then Again else New) ≡ Train → is_train s.given.own.mode ≡ true
    by-again true e = absurd (cc e)
    by-again false e = absurd (cc e)
train-by q s x (starves t b some next) flit is = absurd cc
train-by q s x (steers t nothing kinds.Clear due) flit is = absurd (let e = what_is _ flit Clear Train is in cc e)
train-by q s x (steers t nothing kinds.Start due) flit is = absurd (let e = what_is _ flit Start Train is in cc e)
train-by q s x (repeats b place again) flit is = absurd (let e = what_is _ flit Again Train is in cc e)
train-by q s x (begins f can) flit is = absurd (let e = what_is _ flit New Train is in cc e)
train-by q s x (returns f opened due) flit is = absurd (let e = what_is _ flit Tret Train is in cc e)
train-by q s x (points f other_rrp) flit is = absurd (let e = what_is _ flit Pret Train is in cc e)
train-by q s x (idles f same_rrp) flit is = absurd (let e = what_is _ flit NullFlit Train is in cc e)

far-train : (x : Reached) (m : Mode) (fs : List (List ℕ)) (b : Bool) → IsReached x m fs b → m ≡ modes.Train → x ≡ far.training
far-train far.training m fs b is train = refl
far-train far.aborting m fs b is train = absurd (let clash : modes.Abort ≡ modes.Train = sym is.0 ∙ train in cc clash)
far-train far.between m fs b is train = absurd (let clash : modes.Good ≡ modes.Train = sym is.0 ∙ train in cc clash)
far-train (far.inside n k) m fs b is train = absurd (let clash : modes.Good ≡ modes.Train = sym is.0 ∙ train in cc clash)
far-train far.spoilt m fs b is train = absurd (let clash : modes.Good ≡ modes.Train = sym is.0 ∙ train in cc clash)

none-left : (q : Profile) (t : List SenderEntry) (u : Option Part) → unfinished t ≡ u → PartsFit q t → left_of u ≡ 0 → u ≡ None
none-left q t None is parts none = refl
none-left q t (Some part) is parts none = absurd (let more = (parts part is).more in omega arith)

trained-none : (link : LinkFields) (d : Toward) (past : List LinkEntry) (feed : Feed) (w : What) (flit : List ℕ) → IsKept link past →
    choice link.profile (view_after link.profile link.retry (sender_entries link d past) (given_in link d past feed)) ≡ Out flit w → w ≡ Train → unfinished (sender_entries link d past) ≡ None
unfolding given_after view_after
trained-none link d past feed w flit kept chosen train =
    let q = link.profile in
    let t = sender_entries link d past in
    let s = view_after q link.retry t (given_in link d past feed) in
    let trains = train-by q s (choice q s) (case_of q s) flit (chosen ∙ ap (λ (v : What). Out flit v) train) in
    let reached = far-train (half_after link (other d) past).direction.far (mode (receiver_entries (other d) past)) (pending (receiver_entries (other d) past)) (is_pending_changed (other d) past) (line-is link (other d) past kept).far
    (train-mode (mode (receiver_entries (other d) past)) trains) in
    let left = ((laws-of link d past kept).trains reached).0 in
    none-left q t (unfinished t) refl (facts-of link d past kept).parts (sym (fields-are link d past kept).left ∙ left)

-- ---- the wire of a sender

pub record WireOf (q : Profile) (t : List SenderEntry) (flits : List (List ℕ)) : Type 0 where
  pub sent : flits ≡ flits_of_pieces (pieces q t)
  pub whole : ArePieces q (places q t) (unfinished t) (last_begun q t) (pieces q t)

flit-more : (q : Profile) (l : List Place) (u : Option Part) (last number rrp : ℕ) (flit : List ℕ) (ps : List Piece) → ArePieces q l u last ps → flits_of_pieces (with_flit u number rrp flit ps) ≡ flits_of_pieces ps ++ flit ∷ []
flit-more q l None last number rrp flit ps are = refl
flit-more q l (Some part) last number rrp flit [] are = absurd are
flit-more q l (Some part) last number rrp flit (Piece.alone w r f ∷ ps) are = absurd are
flit-more q l (Some part) last number rrp flit (Piece.packet x ∷ ps) are = sym (append_assoc (flits_of_pieces ps) x.flits (flit ∷ []))

flits-sent : (q : Profile) (t : List SenderEntry) (given : Given) (w : What) (flit : List ℕ) → ArePieces q (places q t) (unfinished t) (last_begun q t) (pieces q t) → flits_of_pieces (pieces q (SenderEntry.sent given w flit ∷ t)) ≡ flits_of_pieces (pieces q t) ++ flit ∷ []
unfolding pieces
flits-sent q t given New flit are = flit-more q (places q t) (unfinished t) (last_begun q t) (length (places q t)) given.own.rrp flit (pieces q t) are
flits-sent q t given Again flit are = flit-more q (places q t) (unfinished t) (last_begun q t) (position q t) given.own.rrp flit (pieces q t) are
flits-sent q t given Tret flit are = refl
flits-sent q t given Train flit are = refl
flits-sent q t given Clear flit are = refl
flits-sent q t given Start flit are = refl
flits-sent q t given Pret flit are = refl
flits-sent q t given NullFlit flit are = refl

-- a run of Starts and an acknowledgement are no flits
ran-over : (q : Profile) (o : Outcome) (t : List SenderEntry) (flits : List (List ℕ)) → WireOf q t flits → WireOf q (run_entries o ++ t) flits
unfolding pieces places unfinished last_begun
ran-over q (out.Ran kinds.Start) t flits is = record { sent = is.sent; whole = is.whole }
ran-over q (out.Ran kinds.Clear) t flits is = is
ran-over q out.Quiet t flits is = is
ran-over q out.Trained t flits is = is
ran-over q out.Gathered t flits is = is
ran-over q out.Accepted t flits is = is
ran-over q out.Poisoned t flits is = is
ran-over q out.Repeat t flits is = is
ran-over q (out.AbortedBad bad) t flits is = is
ran-over q out.AbortedOrder t flits is = is

acked-over : (q : Profile) (rrp : Option ℕ) (front : Option StampedFlit) (t : List SenderEntry) (flits : List (List ℕ)) → WireOf q t flits → WireOf q (acknowledgement rrp front ++ t) flits
unfolding pieces places unfinished last_begun
acked-over q None front t flits is = is
acked-over q (Some rrp) None t flits is = is
acked-over q (Some rrp) (Some front) t flits is = record { sent = is.sent; whole = is.whole }

landed-over : (q : Profile) (o : Outcome) (rrp : Option ℕ) (front : Option StampedFlit) (t : List SenderEntry) (flits : List (List ℕ)) → WireOf q t flits → WireOf q ((run_entries o ++ acknowledgement rrp front) ++ t) flits
landed-over q o rrp front t flits is = subst (λ (l : List SenderEntry). WireOf q l flits) (sym (append_assoc (run_entries o) (acknowledgement rrp front) t)) (ran-over q o (acknowledgement rrp front ++ t) flits (acked-over q rrp front t flits is))

sent-over : (link : LinkFields) (d : Toward) (past : List LinkEntry) (feed : Feed) (w : What) (flit : List ℕ) (flits : List (List ℕ)) → IsKept link past → AllFit link.profile (places link.profile (SenderEntry.sent (given_in link d past feed) w flit ∷ sender_entries link d past)) →
    IsFed (under_way link.profile (sender_entries link d past)) feed → IsFeed feed → choice link.profile (view_after link.profile link.retry (sender_entries link d past) (given_in link d past feed)) ≡ Out flit w →
    WireOf link.profile (sender_entries link d past) flits → WireOf link.profile (SenderEntry.sent (given_in link d past feed) w flit ∷ sender_entries link d past) (flits ++ flit ∷ [])
unfolding given_after
sent-over link d past feed w flit flits kept fit fed is chosen wire =
    let q = link.profile in
    let t = sender_entries link d past in
    let given = given_in link d past feed in
    record {
      sent = ap (λ (l : List (List ℕ)). l ++ flit ∷ []) wire.sent ∙ sym (flits-sent q t given w flit wire.whole);
      whole = step-sent q link.retry t given w flit (facts-of link d past kept) fit chosen fed is (trained-none link d past feed w flit kept chosen) wire.whole;
    }

through-over : (q : Profile) (t : List SenderEntry) (head : List ℕ) (count due : ℕ) (flits : List (List ℕ)) → unfinished t ≡ None → WireOf q t flits → WireOf q (SenderEntry.through head count due ∷ t) flits
unfolding pieces places unfinished last_begun
through-over q t head count due flits none is = record {
  sent = is.sent ∙ sym (append-nil (flits_of_pieces (pieces q t)));
  whole = (record { number = refl; flits = refl; front = λ p at. refl }, whole-keeps q (places q t) _ (pieces q t) (keeps-push (places q t) _) (subst (λ (u : Option Part). ArePieces q (places q t) u (last_begun q t) (pieces q t)) none is.whole));
}

-- ---- of a link

abbrev WireIn : LinkFields → Toward → List LinkEntry → Type 0
WireIn link d past = WireOf link.profile (sender_entries link d past) (map (λ (x : StampedFlit). x.flit) (sent_flits link.profile d past))

flits-push : (q : Profile) (t : List SenderEntry) (l : List StampedFlit) (x : StampedFlit) → WireOf q t (map (λ (y : StampedFlit). y.flit) l ++ x.flit ∷ []) → WireOf q t (map (λ (y : StampedFlit). y.flit) (l ++ x ∷ []))
flits-push q t l x is = subst (WireOf q t) (sym (map_push (λ (y : StampedFlit). y.flit) l x)) is

pub through-none : (q : Profile) (retry : ℕ) (t : List SenderEntry) (head : List ℕ) (flits due : ℕ) → Chosen q retry (SenderEntry.through head flits due ∷ t) → unfinished t ≡ None
unfolding Chosen
through-none q retry t head flits due chosen = chosen.0

wire-in : (link : LinkFields) (d : Toward) (past : List LinkEntry) → IsKept link past → WireIn link d past
unfolding sender_entries sent_flits pieces places unfinished last_begun given_after AreFed
wire-in link Forth [] kept = record { sent = refl; whole = tt }
wire-in link Back [] kept = record { sent = refl; whole = tt }
wire-in link Forth (entry.sent Forth feed w flit ∷ past) kept =
    let before = kept-before link (entry.sent Forth feed w flit) past kept in
    flits-push link.profile _ (sent_flits link.profile Forth past) _
    (sent-over link Forth past feed w flit _ before (facts-of link Forth (entry.sent Forth feed w flit ∷ past) kept).fit kept.met.forth.0 kept.met.forth.1 (lawful-sent link past Forth feed w flit kept.lawful).chosen (wire-in link Forth past before))
wire-in link Back (entry.sent Back feed w flit ∷ past) kept =
    let before = kept-before link (entry.sent Back feed w flit) past kept in
    flits-push link.profile _ (sent_flits link.profile Back past) _
    (sent-over link Back past feed w flit _ before (facts-of link Back (entry.sent Back feed w flit ∷ past) kept).fit kept.met.back.0 kept.met.back.1 (lawful-sent link past Back feed w flit kept.lawful).chosen (wire-in link Back past before))
wire-in link Forth (entry.sent Back feed w flit ∷ past) kept = wire-in link Forth past (kept-before link (entry.sent Back feed w flit) past kept)
wire-in link Back (entry.sent Forth feed w flit ∷ past) kept = wire-in link Back past (kept-before link (entry.sent Forth feed w flit) past kept)
wire-in link Forth (entry.landed Forth mask flit o ∷ past) kept = wire-in link Forth past (kept-before link (entry.landed Forth mask flit o) past kept)
wire-in link Back (entry.landed Back mask flit o ∷ past) kept = wire-in link Back past (kept-before link (entry.landed Back mask flit o) past kept)
wire-in link Forth (entry.landed Back mask flit o ∷ past) kept =
    landed-over link.profile o (reception_of link.profile (receiver_entries Back past) flit).rrp (slice_get (line link.profile Back past) 0) (sender_entries link Forth past) _ (wire-in link Forth past (kept-before link (entry.landed Back mask flit o) past kept))
wire-in link Back (entry.landed Forth mask flit o ∷ past) kept =
    landed-over link.profile o (reception_of link.profile (receiver_entries Forth past) flit).rrp (slice_get (line link.profile Forth past) 0) (sender_entries link Back past) _ (wire-in link Back past (kept-before link (entry.landed Forth mask flit o) past kept))
wire-in link Forth (entry.through Forth head flits ∷ past) kept =
    let facts = facts-of link Forth (entry.through Forth head flits ∷ past) kept in
    through-over link.profile (sender_entries link Forth past) head flits _ _ (through-none link.profile link.retry (sender_entries link Forth past) head flits _ facts.chosen) (wire-in link Forth past (kept-before link (entry.through Forth head flits) past kept))
wire-in link Back (entry.through Back head flits ∷ past) kept =
    let facts = facts-of link Back (entry.through Back head flits ∷ past) kept in
    through-over link.profile (sender_entries link Back past) head flits _ _ (through-none link.profile link.retry (sender_entries link Back past) head flits _ facts.chosen) (wire-in link Back past (kept-before link (entry.through Back head flits) past kept))
wire-in link Forth (entry.through Back head flits ∷ past) kept = wire-in link Forth past (kept-before link (entry.through Back head flits) past kept)
wire-in link Back (entry.through Forth head flits ∷ past) kept = wire-in link Back past (kept-before link (entry.through Forth head flits) past kept)
wire-in link d (entry.handed toward packet ∷ past) kept = wire-in link d past (kept-before link (entry.handed toward packet) past kept)
wire-in link d (entry.taken toward ∷ past) kept = wire-in link d past (kept-before link (entry.taken toward) past kept)
wire-in link d (entry.unlocked toward ∷ past) kept = wire-in link d past (kept-before link (entry.unlocked toward) past kept)

pub wire-is : (link : LinkFields) (d : Toward) (past : List LinkEntry) → IsKept link past → IsWire link d past
wire-is link d past kept = let is = wire-in link d past kept in record { sent = is.sent; whole = is.whole }
