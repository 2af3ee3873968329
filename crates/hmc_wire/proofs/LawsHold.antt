-- The laws of a link's directions, from those of the steps. The function link_is_a_list cites it.
use Rattle.std.proofs.Common.{◌≡◌, ◌≢◌, ◌∙◌, ◌<◌, ◌≤◌, ◌+◌, ◌-◌, ◌%◌, inl, inr, ℕ, zero, suc, Bool, List, [], ◌∷◌, ◌++◌, length, take, drop, get_or, map, Option, Some, None, refl, sym, ap, subst, arith}
use Rattle.std.specs.Prelude.{slice_get}
use Rattle.std.proofs.lemmas.List.{map_push, take_more}
use Rattle.std.proofs.lemmas.List.Sums.{sum_by-take-drop}
use Rattle.hmc_codes.specs.Link.{LinkFields}
use Rattle.hmc_codes.specs.Profile.{modulus_of}
use Rattle.hmc_codes.specs.declared.profile.Profile.{Profile}
use Rattle.hmc_packet.specs.declared.outcome.Outcome as outer_outcome
use Rattle.hmc_packet.specs.declared.outcome.Outcome.TheVariants as out
use Rattle.hmc_packet.specs.Landings as receipts
use Rattle.hmc_packet.specs.Packet.{PacketFields, null_packet}
use Rattle.hmc_packet.specs.Receptions.{reception_of}
use Rattle.hmc_send.specs.declared.toward.Toward.{Toward}
use Rattle.hmc_send.specs.declared.toward.Toward.TheVariants.{Forth, Back}
use Rattle.hmc_send.specs.Entries as turns
use Rattle.hmc_send.specs.Entries.{SenderEntry, Part}
use Rattle.hmc_send.specs.LinkEntries.{LinkEntry}
use Rattle.hmc_packet.specs.Masks.{changes}
use Rattle.hmc_send.specs.LinkLines.{StampedFlit, line, passes}
use Rattle.hmc_send.specs.Places.{Place, flits_at, flits_in, place_at, pointer_of}
use Rattle.hmc_send.proofs.LinkLawful.{lawful-landed}
use Rattle.hmc_numbers.specs.Weights.{flits_to}
use Rattle.hmc_numbers.specs.Direction.{begun}
use Rattle.hmc_wire.specs.LinkLaws.{DirectionLaws, IsKept}
use Rattle.hmc_wire.proofs.GrammarLandings as inner
use Rattle.hmc_wire.proofs.Lands.{IsOrdered}
use Rattle.hmc_wire.proofs.Spelled.{Sent}
use Rattle.hmc_wire.proofs.Matches.{packets_to}
use Rattle.hmc_wire.proofs.GrammarCounted.{counted}
use Rattle.hmc_wire.proofs.Actions.{SideOf, MayLand, link_after}
use Rattle.hmc_wire.proofs.SideLaws.{SideLaws}
use Rattle.hmc_wire.proofs.ActionLaw.{Linked, both_linked}
use Rattle.hmc_wire.proofs.SideLawsHold.{link_laws}
use Rattle.hmc_wire.proofs.PacketGrammar.{grammar}
use Rattle.hmc_wire.proofs.Words.{outcome_as}
use Rattle.hmc_wire.proofs.Steps.{some_packet, packet_in, sent_of, steps_of}
use Rattle.hmc_wire.proofs.Mirrors.{mirrored}
use Rattle.hmc_wire.proofs.Places.{packet_of, HasPacket, AllFit, fit-at, upto-sum, upto-all, Agrees, AgreesWith, agrees-packet}
use Rattle.hmc_wire.proofs.Senders.{begun-length}
use Rattle.hmc_wire.proofs.Flits.{flits-left}
use Rattle.hmc_wire.proofs.Ways.{Lists, lists_in, Way, front-drop}
use Rattle.hmc_wire.proofs.Links.{accepted-is, accepted-count, may-land}
use Rattle.hmc_wire.proofs.Repeats.{side-old, packet-at}
use Rattle.hmc_wire.proofs.Joins.{agrees-own, kept-joins}
use Rattle.hmc_wire.proofs.NumberedPlaces.{first-numbered}
use Rattle.hmc_wire.proofs.Queued.{queued}
use Rattle.hmc_wire.proofs.Contents.{contents}

-- What is accepted

tag_apart : (a b : ℕ) → a ≡ 0 → b ≡ 1 → a ≡ b → ⊥
tag_apart a b e f g = omega arith

-- a place whose packet isn't known isn't accepted: the accepted packets would be any
firm : (q : Profile) (t : List SenderEntry) (acc : ℕ) → packets_to (sent_of q 0 t).packet acc ≡ packets_to (sent_of q 1 t).packet acc → (k : ℕ) → k < acc → packet_of (get_or (turns.places q t) k (Place.known null_packet)) ≡ None → ⊥
firm q t acc same k lt none =
    let l = turns.places q t in
    let x = place_at l (suc k) in
    let j : suc k - 1 ≡ k = omega arith in
    let at : x ≡ get_or l k (Place.known null_packet) = λ i. get_or l (j i) (Place.known null_packet) in
    let nothing : packet_of x ≡ None = ap packet_of at ∙ none in
    let equal : packet_in 0 x (packet_of x) ≡ packet_in 1 x (packet_of x) =
    sym (packet-at (sent_of q 0 t).packet acc (suc k) (omega arith) (omega arith)) ∙ ap (λ (ps : List PacketFields). get_or ps (suc k - 1) null_packet) same ∙ packet-at (sent_of q 1 t).packet acc (suc k) (omega arith) (omega arith) in
    let tags : some_packet 0 x ≡ some_packet 1 x = sym (ap (packet_in 0 x) nothing) ∙ equal ∙ ap (packet_in 1 x) nothing in
    tag_apart (some_packet 0 x).tag (some_packet 1 x).tag refl refl (ap (λ (p : PacketFields). p.tag) tags)

known-is : (x : Place) (p : PacketFields) → packet_of x ≡ Some p → Place.known p ≡ x
known-is (Place.known packet) p is = let same : packet ≡ p = cc in ap Place.known (sym same)
known-is (Place.awaited head flits numbers) p is = absurd (let clash : None ≡ Some p = is in cc)

-- the accepted packets are those of the first places
packets-are : (q : Profile) (s : Sent (grammar q)) (l : List Place) (u : Option Part) → AllFit q l → Agrees q s l u → (n : ℕ) → n ≤ length l → ((k : ℕ) → k < n → packet_of (get_or l k (Place.known null_packet)) ≡ None → ⊥) →
    map Place.known (packets_to s.packet n) ≡ take n l
packets-are q s l u fit agree zero le known = refl
packets-are q s l u fit agree (suc n) le known =
    let d : Place = Place.known null_packet in
    let h : HasPacket q (get_or l n d) = elim (fit-at q l n (omega arith) fit) [ inl h ↦ h | inr o ↦ absurd (known n (omega arith) o.none) ] in
    let k : suc n - 1 ≡ n = omega arith in
    let m : n + 1 ≡ suc n = omega arith in
    let at : place_at l (suc n) ≡ get_or l n d = λ i. get_or l (k i) d in
    let packet = (agrees-packet q s l u (suc n) h.packet agree (omega arith) le (ap packet_of at ∙ h.fits.known)).0 in
    map_push Place.known (packets_to s.packet n) (s.packet (suc n))
    ∙ (λ i. packets-are q s l u fit agree n (omega arith) (λ j lt. known j (omega arith)) i ++ (ap Place.known packet ∙ known-is (get_or l n d) h.packet h.fits.known) i ∷ [])
    ∙ sym (take_more l n d (omega arith))
    ∙ ap (λ (j : ℕ). take j l) m

-- Facts in the words of a direction's own lists

pub record SideFacts (q : Profile) (retry : ℕ) (mine : Lists q) : Type 0 where
  pub accepted : map Place.known (receipts.accepted q mine.receiver) ≡ take (length (receipts.accepted q mine.receiver)) (turns.places q mine.sender)
  pub begun : length (receipts.accepted q mine.receiver) ≤ length (turns.places q mine.sender)
  pub acknowledged : turns.acked mine.sender ≤ length (receipts.accepted q mine.receiver)
  pub kept : flits_in (drop (turns.acked mine.sender) (turns.places q mine.sender)) ≤ retry

pub side-facts : (q : Profile) (retry adv : ℕ) (mine : Lists q) (s : Sent (grammar q)) (own oth : SideOf (grammar q)) → Way q retry mine own →
    Linked (grammar q) s retry adv own oth → AgreesWith q s mine.sender →
    ((k : ℕ) → k < own.half.direction.accepted → packet_of (get_or (turns.places q mine.sender) k (Place.known null_packet)) ≡ None → ⊥) → SideLaws (grammar q) s retry adv own oth → SideFacts q retry mine
side-facts q retry adv mine s own oth is linked agree known laws =
    let l = turns.places q mine.sender in
    let w = own.half.direction in
    let count = accepted-count q retry adv mine s own oth is linked in
    let b = begun-length q mine.sender w is.sends in
    let few = linked.joined.order.accepted in
    let all : flits_to w.first (begun w) ≡ flits_in l = (λ i. flits_to (is.sends.first i) (b i)) ∙ upto-all (λ y. y.flits) l in
    let low : flits_to w.first w.acked ≡ flits_in (take (turns.acked mine.sender) l) = (λ i. flits_to (is.sends.first i) (is.sends.acked i)) ∙ upto-sum (λ y. y.flits) l (turns.acked mine.sender) in
    let parts = sum_by-take-drop (λ (y : Place). flits_at y) l (turns.acked mine.sender) in
    let h = laws.half in
    let kept = h.laws.kept in
    let acked = is.sends.acked in
    let low_acked = h.laws.acked in
    record {
      accepted =
          ap (map Place.known) (accepted-is q retry adv mine s own oth is linked)
          ∙ packets-are q s l (turns.unfinished mine.sender) is.fit agree w.accepted (omega arith) known
          ∙ ap (λ (n : ℕ). take n l) (sym count);
      begun = omega arith;
      acknowledged = omega arith;
      kept = omega arith;
    }

-- no landing is out of order
ordered-not : (o : outer_outcome.Outcome) → IsOrdered (outcome_as o) → o ≢ out.AbortedOrder
ordered-not o ordered e = subst (λ (x : outer_outcome.Outcome). IsOrdered (outcome_as x)) e ordered

pub side-ordered : (q : Profile) (retry adv : ℕ) (mine : Lists q) (s : Sent (grammar q)) (own oth : SideOf (grammar q)) (changed : Bool) (flit : List ℕ) (o : outer_outcome.Outcome) →
    Way q retry mine own → SideLaws (grammar q) s retry adv own oth → MayLand (grammar q) own changed flit → o ≡ (reception_of q mine.receiver flit).outcome → o ≢ out.AbortedOrder
side-ordered q retry adv mine s own oth changed flit o is laws may outcome_is =
    let said = mirrored q mine.receiver mine.landings flit is.mirrors in
    let same : inner.outcome (grammar q) own.received flit ≡ outcome_as o = (λ i. inner.outcome (grammar q) (is.received i) flit) ∙ sym said.outcome ∙ ap outcome_as (sym outcome_is) in
    ordered-not o (subst IsOrdered same (laws.ordered changed flit may))

-- a counted pointer, of a landing on own, names one number of the packets of the other direction
pub record Names (q : Profile) (theirs : Lists q) (rrp n : ℕ) : Type 0 where
  pub least : turns.acked theirs.sender ≤ n
  pub most : n ≤ length (receipts.accepted q theirs.receiver)
  pub is : rrp ≡ pointer_of q (take n (turns.places q theirs.sender))
  pub alone : (j : ℕ) → turns.acked theirs.sender ≤ j → j ≤ length (turns.places q theirs.sender) → pointer_of q (take j (turns.places q theirs.sender)) ≡ rrp → j ≡ n

head_is : (a b : ℕ) (xs ys : List ℕ) → a ∷ xs ≡ b ∷ ys → a ≡ b
head_is a b xs ys e = cc

pub side-names : (q : Profile) (retry adv : ℕ) (mine theirs : Lists q) (s s' : Sent (grammar q)) (own oth : SideOf (grammar q)) (changed : Bool) (flit : List ℕ) (front : StampedFlit) (rrp : ℕ) →
    Way q retry mine own → Way q retry theirs oth → Linked (grammar q) s' retry adv oth own → SideLaws (grammar q) s retry adv own oth → MayLand (grammar q) own changed flit →
    slice_get (drop mine.landed mine.sent) 0 ≡ Some front → (reception_of q mine.receiver flit).rrp ≡ Some rrp → Names q theirs rrp front.stamp
side-names q retry adv mine theirs s s' own oth changed flit front rrp is other back laws may at some =
    let said = mirrored q mine.receiver mine.landings flit is.mirrors in
    let w = oth.half.direction in
    let l = turns.places q theirs.sender in
    let known = laws.known changed flit rrp may ((λ i. counted (grammar q) (is.received i) flit) ∙ sym said.pointer ∙ some) in
    let rest = map (λ (x : StampedFlit). x.stamp) (drop (suc mine.landed) mine.sent) in
    let stamps : own.half.stamps ≡ front.stamp ∷ rest = is.stamps ∙ ap (map (λ (x : StampedFlit). x.stamp)) (front-drop mine.sent mine.landed front at) in
    let n : known.stamp ≡ front.stamp = head_is known.stamp front.stamp known.stamps rest (sym known.front ∙ stamps) in
    let count = accepted-count q retry adv theirs s' oth own other back in
    let b = begun-length q theirs.sender w other.sends in
    let acked = other.sends.acked in
    let least = known.least in
    let most = known.most in
    let flits : (j : ℕ) → flits_to w.first j ≡ flits_in (take j l) = λ j. (λ i. flits_to (other.sends.first i) j) ∙ upto-sum (λ y. y.flits) l j in
    record {
      least = omega arith;
      most = omega arith;
      is = known.is ∙ ap (λ (j : ℕ). flits_to w.first j % modulus_of q) n ∙ ap (λ (j : ℕ). j % modulus_of q) (flits front.stamp);
      alone = λ j low high e. known.alone j (omega arith) (omega arith) (ap (λ (k : ℕ). k % modulus_of q) (flits j) ∙ e) ∙ n;
    }

-- Both directions of a list that is kept

facts-forth : (link : LinkFields) (past : List LinkEntry) → IsKept link past → SideFacts link.profile link.retry (lists_in link Forth past)
facts-forth link past kept =
    let q = link.profile in
    let mine = lists_in link Forth past in
    let theirs = lists_in link Back past in
    let s = sent_of q 0 mine.sender in
    let t = sent_of q 0 theirs.sender in
    let s1 = sent_of q 1 mine.sender in
    let t1 = sent_of q 1 theirs.sender in
    let j = kept-joins 0 link past kept in
    let j1 = kept-joins 1 link past kept in
    let l = link_after (grammar q) (steps_of link past) in
    let both = both_linked (grammar q) s t link.retry link.tokens (steps_of link past) kept.retry j.may in
    let both1 = both_linked (grammar q) s1 t1 link.retry link.tokens (steps_of link past) kept.retry j1.may in
    let laws = link_laws (grammar q) s t link.retry link.tokens (steps_of link past) kept.retry j.may in
    side-facts q link.retry link.tokens mine s l.forth l.back j.forth both.forth (agrees-own q 0 mine.sender)
    (firm q mine.sender l.forth.half.direction.accepted (sym (accepted-is q link.retry link.tokens mine s l.forth l.back j.forth both.forth) ∙ accepted-is q link.retry link.tokens mine s1 l.forth l.back j1.forth both1.forth)) laws.forth

facts-back : (link : LinkFields) (past : List LinkEntry) → IsKept link past → SideFacts link.profile link.retry (lists_in link Back past)
facts-back link past kept =
    let q = link.profile in
    let mine = lists_in link Back past in
    let theirs = lists_in link Forth past in
    let s = sent_of q 0 theirs.sender in
    let t = sent_of q 0 mine.sender in
    let s1 = sent_of q 1 theirs.sender in
    let t1 = sent_of q 1 mine.sender in
    let j = kept-joins 0 link past kept in
    let j1 = kept-joins 1 link past kept in
    let l = link_after (grammar q) (steps_of link past) in
    let both = both_linked (grammar q) s t link.retry link.tokens (steps_of link past) kept.retry j.may in
    let both1 = both_linked (grammar q) s1 t1 link.retry link.tokens (steps_of link past) kept.retry j1.may in
    let laws = link_laws (grammar q) s t link.retry link.tokens (steps_of link past) kept.retry j.may in
    side-facts q link.retry link.tokens mine t l.back l.forth j.back both.back (agrees-own q 0 mine.sender)
    (firm q mine.sender l.back.half.direction.accepted (sym (accepted-is q link.retry link.tokens mine t l.back l.forth j.back both.back) ∙ accepted-is q link.retry link.tokens mine t1 l.back l.forth j1.back both1.back)) laws.back

laws-forth : (link : LinkFields) (past : List LinkEntry) → IsKept link past → DirectionLaws link Forth past
unfolding line passes
laws-forth link past kept =
    let q = link.profile in
    let mine = lists_in link Forth past in
    let theirs = lists_in link Back past in
    let s = sent_of q 0 mine.sender in
    let t = sent_of q 0 theirs.sender in
    let j = kept-joins 0 link past kept in
    let l = link_after (grammar q) (steps_of link past) in
    let both = both_linked (grammar q) s t link.retry link.tokens (steps_of link past) kept.retry j.may in
    let laws = link_laws (grammar q) s t link.retry link.tokens (steps_of link past) kept.retry j.may in
    let f = facts-forth link past kept in
    record {
      accepted = f.accepted;
      begun = f.begun;
      acknowledged = f.acknowledged;
      queued = queued link Forth past kept.lawful;
      contents = contents q link.retry mine.sender j.forth.chosen kept.met.forth;
      numbered = first-numbered q link.retry mine.sender j.forth.chosen kept.met.forth;
      flits = λ n sent is. flits-left mine.sent mine.landed n sent j.forth.whole is;
      ordered = λ mask flit o next.
          let is = lawful-landed link past Forth mask flit o next in
          let may = may-land q link.retry mine l.forth mask flit is.front j.forth is.is_front is.flit_is is.caught in
          side-ordered q link.retry link.tokens mine s l.forth l.back (changes mask) flit o j.forth laws.forth may is.outcome_is;
      repeated = λ mask flit next.
          let is = lawful-landed link past Forth mask flit out.Repeat next in
          let may = may-land q link.retry mine l.forth mask flit is.front j.forth is.is_front is.flit_is is.caught in
          let old = side-old q link.retry link.tokens mine s l.forth l.back (changes mask) flit kept.retry j.forth both.forth may is.outcome_is in
          record { seen = old.seen; read = old.read; number = old.number; inside = old.inside; same = old.same };
      kept = f.kept;
      counted = λ mask flit o rrp next some.
          let is = lawful-landed link past Back mask flit o next in
          let may = may-land q link.retry theirs l.back mask flit is.front j.back is.is_front is.flit_is is.caught in
          let n = side-names q link.retry link.tokens theirs mine t s l.back l.forth (changes mask) flit is.front rrp j.back j.forth both.forth laws.back may is.is_front some in
          record { front = is.front; is_front = is.is_front; least = n.least; most = n.most; is = n.is; alone = n.alone };
    }

laws-back : (link : LinkFields) (past : List LinkEntry) → IsKept link past → DirectionLaws link Back past
unfolding line passes
laws-back link past kept =
    let q = link.profile in
    let mine = lists_in link Back past in
    let theirs = lists_in link Forth past in
    let s = sent_of q 0 theirs.sender in
    let t = sent_of q 0 mine.sender in
    let j = kept-joins 0 link past kept in
    let l = link_after (grammar q) (steps_of link past) in
    let both = both_linked (grammar q) s t link.retry link.tokens (steps_of link past) kept.retry j.may in
    let laws = link_laws (grammar q) s t link.retry link.tokens (steps_of link past) kept.retry j.may in
    let f = facts-back link past kept in
    record {
      accepted = f.accepted;
      begun = f.begun;
      acknowledged = f.acknowledged;
      queued = queued link Back past kept.lawful;
      contents = contents q link.retry mine.sender j.back.chosen kept.met.back;
      numbered = first-numbered q link.retry mine.sender j.back.chosen kept.met.back;
      flits = λ n sent is. flits-left mine.sent mine.landed n sent j.back.whole is;
      ordered = λ mask flit o next.
          let is = lawful-landed link past Back mask flit o next in
          let may = may-land q link.retry mine l.back mask flit is.front j.back is.is_front is.flit_is is.caught in
          side-ordered q link.retry link.tokens mine t l.back l.forth (changes mask) flit o j.back laws.back may is.outcome_is;
      repeated = λ mask flit next.
          let is = lawful-landed link past Back mask flit out.Repeat next in
          let may = may-land q link.retry mine l.back mask flit is.front j.back is.is_front is.flit_is is.caught in
          let old = side-old q link.retry link.tokens mine t l.back l.forth (changes mask) flit kept.retry j.back both.back may is.outcome_is in
          record { seen = old.seen; read = old.read; number = old.number; inside = old.inside; same = old.same };
      kept = f.kept;
      counted = λ mask flit o rrp next some.
          let is = lawful-landed link past Forth mask flit o next in
          let may = may-land q link.retry theirs l.forth mask flit is.front j.forth is.is_front is.flit_is is.caught in
          let n = side-names q link.retry link.tokens theirs mine s t l.forth l.back (changes mask) flit is.front rrp j.forth j.back both.back laws.forth may is.is_front some in
          record { front = is.front; is_front = is.is_front; least = n.least; most = n.most; is = n.is; alone = n.alone };
    }

pub direction-laws : (link : LinkFields) (d : Toward) (past : List LinkEntry) → IsKept link past → DirectionLaws link d past
direction-laws link Forth past kept = laws-forth link past kept
direction-laws link Back past kept = laws-back link past kept
