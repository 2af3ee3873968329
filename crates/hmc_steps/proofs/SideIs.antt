-- The numbers of a direction of a kept list are what SideIs says.
use Rattle.std.proofs.Common.{◌≡◌, ◌∙◌, ◌+◌, ◌-◌, ℕ, Bool, true, false, cond, List, [], ◌∷◌, length, refl, sym, ap, subst, arith}
use Rattle.std.specs.Prelude.{filter, sum_by}
use Rattle.std.proofs.lemmas.List.Sums.{sum_by-cons}
use Rattle.hmc_codes.specs.Link.{LinkFields}
use Rattle.hmc_packet.specs.Landings as receipts
use Rattle.hmc_send.specs.declared.toward.Toward.{Toward}
use Rattle.hmc_send.specs.declared.toward.Toward.TheVariants.{Forth, Back}
use Rattle.hmc_send.specs.LinkEntries.{LinkEntry, LinkEntry as entry, other, receiver_entries, accepted_packets}
use Rattle.hmc_send.specs.LinkLines.{is_pending_changed}
use Rattle.hmc_send.specs.LinkSenders.{places_in, tokens}
use Rattle.hmc_send.specs.Places.{Place, is_token, takes_tokens}
use Rattle.hmc_numbers.specs.Direction.{Reached as far, begun}
use Rattle.hmc_numbers.specs.Weights.{upto}
use Rattle.hmc_wire.specs.FieldsAre.{half_after}
use Rattle.hmc_wire.specs.LinkLaws.{IsKept}
use Rattle.hmc_wire.proofs.EntryTurns.{fields-are}
use Rattle.hmc_wire.proofs.GrammarLandings as inner
use Rattle.hmc_wire.proofs.Links.{accepted-sum, credited-is, taken-is, spent-is, returned-is}
use Rattle.hmc_wire.proofs.Matches.{IsAt}
use Rattle.hmc_wire.proofs.PacketGrammar.{grammar}
use Rattle.hmc_wire.proofs.Places.{upto-all}
use Rattle.hmc_wire.proofs.Senders.{begun-length, position-is}
use Rattle.hmc_wire.proofs.Ways.{lists_in}
use Rattle.hmc_link_state.specs.State.{count_if, count_of}
use Rattle.hmc_steps.specs.SideIn.{side_in, missing_in, lacking}
use Rattle.hmc_steps.specs.SideIs.{SideIs}
use Rattle.hmc_steps.proofs.LandStep.{buffer-used}
use Rattle.hmc_steps.proofs.Sides.{mode-here, room-same}
use Rattle.hmc_steps.proofs.Wired.{wired, side_with}

count-step : {X : Type 0} (b : Bool) (x : X) (l : List X) (n : ℕ) → n ≡ length l →
    count_if b + n ≡ length (cond b (x ∷ l) l)
count-step true x l n h = omega arith
count-step false x l n h = omega arith

-- how many pass a test
counted-filter : {X : Type 0} (p : X → Bool) (l : List X) →
    sum_by (λ (x : X). count_if (p x)) l ≡ length (filter p l)
counted-filter p [] = refl
counted-filter {X = X} p (x ∷ l) =
    sum_by-cons (λ (y : X). count_if (p y)) x l
    ∙ count-step (p x) x (filter p l) (sum_by (λ (y : X). count_if (p y)) l) (counted-filter p l)

lacking_forth : (past : List LinkEntry) → is_pending_changed Forth past ≡ true →
    missing_in Forth past ≡ lacking (receipts.pending (receiver_entries Forth past))
unfolding is_pending_changed missing_in receiver_entries
lacking_forth [] e = absurd (cc e)
lacking_forth (entry.handed v packet ∷ past) e = lacking_forth past e
lacking_forth (entry.taken v ∷ past) e = lacking_forth past e
lacking_forth (entry.sent v feed w flit ∷ past) e = lacking_forth past e
lacking_forth (entry.landed Forth mask flit o ∷ past) e = refl
lacking_forth (entry.landed Back mask flit o ∷ past) e = lacking_forth past e
lacking_forth (entry.unlocked Forth ∷ past) e = absurd (cc e)
lacking_forth (entry.unlocked Back ∷ past) e = lacking_forth past e
lacking_forth (entry.through v head flits ∷ past) e = lacking_forth past e

lacking_back : (past : List LinkEntry) → is_pending_changed Back past ≡ true →
    missing_in Back past ≡ lacking (receipts.pending (receiver_entries Back past))
unfolding is_pending_changed missing_in receiver_entries
lacking_back [] e = absurd (cc e)
lacking_back (entry.handed v packet ∷ past) e = lacking_back past e
lacking_back (entry.taken v ∷ past) e = lacking_back past e
lacking_back (entry.sent v feed w flit ∷ past) e = lacking_back past e
lacking_back (entry.landed Back mask flit o ∷ past) e = refl
lacking_back (entry.landed Forth mask flit o ∷ past) e = lacking_back past e
lacking_back (entry.unlocked Back ∷ past) e = absurd (cc e)
lacking_back (entry.unlocked Forth ∷ past) e = lacking_back past e
lacking_back (entry.through v head flits ∷ past) e = lacking_back past e

lacking-is : (d : Toward) (past : List LinkEntry) → is_pending_changed d past ≡ true →
    missing_in d past ≡ lacking (receipts.pending (receiver_entries d past))
lacking-is Forth past e = lacking_forth past e
lacking-is Back past e = lacking_back past e

pub side-is : (link : LinkFields) (d : Toward) (past : List LinkEntry) → IsKept link past →
    SideIs link d past (side_in link d past) (side_in link (other d) past)
unfolding tokens
side-is link d past kept =
    let q = link.profile in
    let x = wired link d past kept in
    let own = side_with q (half_after link d past) x.flits x.received in
    let oth = side_with q (half_after link (other d) past) x.other_flits x.other_received in
    let mine = lists_in link d past in
    let theirs = lists_in link (other d) past in
    let w = (half_after link d past).direction in
    let f = fields-are link d past kept in
    let g = grammar q in
    let taken = taken-is q link.retry link.tokens mine x.s own oth x.way x.linked x.agree in
    let credited =
    credited-is q link.retry link.tokens theirs x.t oth own x.other_way x.other_linked
    x.other_agree in
    let spent = spent-is q mine.sender w x.way.sends in
    let returned =
    returned-is q theirs.sender (half_after link (other d) past).direction x.other_way.sends in
    let moved = f.moved_is in
    let used = buffer-used q link.retry link.tokens mine x.s own oth x.way x.linked x.agree in
    let counted =
    accepted-sum q link.retry link.tokens mine x.s own oth (λ p. count_if (is_token p)) count_of
    x.way x.linked x.agree (λ y p some fits. ap count_if fits.token) in
    let all : upto count_of w.first (begun w) ≡ sum_by (λ (y : Place). count_if (takes_tokens y))
    (places_in link d past) =
    (λ i. upto count_of (x.way.sends.first i) (begun-length q mine.sender w x.way.sends i))
    ∙ upto-all count_of (places_in link d past) in
    let some = counted-filter takes_tokens (places_in link d past) in
    let few = counted-filter is_token (accepted_packets q d past) in
    let spoilt : w.far ≡ far.spoilt → is_pending_changed d past ≡ true = λ e.
    sym x.way.spoilt ∙ ap (inner.is_spoilt g) (sym x.way.received)
    ∙ (subst (λ r. IsAt g x.s w.first r (inner.mode g x.received) (inner.is_spoilt g x.received)
    (inner.pending g x.received)) e x.linked.matches.place).1 in
    record {
      mode = mode-here q link.retry link.tokens mine x.s own oth x.way x.linked;
      is_spoilt = spoilt;
      lacks = λ e. lacking-is d past (spoilt e);
      accepted = f.accepted;
      clears = f.clears;
      left = f.left;
      begun = begun-length q mine.sender w x.way.sends;
      acked = f.acked;
      position = position-is q mine.sender w x.way.sends;
      room = room-same q link.retry mine.sender w x.way.sends;
      held = λ i. sym credited i - sym spent i;
      transit = λ i. sym spent i - sym taken i;
      used = λ i. sym taken i - moved i;
      due = λ i. (link.tokens + moved i) - sym returned i;
      returning = λ i. sym returned i - sym credited i;
      crossing = λ i. (all ∙ some) i - (sym counted ∙ few) i;
      buffer = used ∙ (λ i. sym taken i - moved i);
    }
