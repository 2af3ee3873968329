-- The link's part: the numbers of a list of entries.
use Rattle.std.proofs.Common.{◌≡◌, ◌∙◌, ◌+◌, ◌-◌, ℕ, Bool, true, false, List, [], ◌∷◌, map, length, drop, take, refl, sym, ap, subst, arith, length-append}
use Rattle.std.specs.Prelude.{filter, cond}
use Rattle.std.proofs.lemmas.List.{take-append-drop}
use Rattle.std.proofs.lemmas.List.Elements.{filter-append}
use Rattle.hmc_codes.specs.Link.{LinkFields}
use Rattle.hmc_packet.specs.Packet.{PacketFields, flits_of}
use Rattle.hmc_send.specs.declared.toward.Toward.{Toward}
use Rattle.hmc_send.specs.declared.toward.Toward.TheVariants.{Forth, Back}
use Rattle.hmc_send.specs.LinkEntries.{LinkEntry, LinkEntry as entry, accepted_packets}
use Rattle.hmc_send.specs.LinkSenders.{places_in}
use Rattle.hmc_send.specs.Places.{Place, is_token, takes_tokens}
use Rattle.hmc_numbers.specs.Tokens.{transit_tokens}
use Rattle.hmc_wire.proofs.LawsHold.{direction-laws}
use Rattle.hmc_wire.specs.EntryTurns.{taken_in}
use Rattle.hmc_link_state.specs.State as drain
use Rattle.hmc_link_state.specs.State.{Setup, Side}
use Rattle.hmc_link_state.specs.Steps.{Doing, Link, own_step, other_step, MayStep, MayAll, link_after}
use Rattle.hmc_link_state.specs.Steps.Step.{leaves, queues}
use Rattle.hmc_steps.specs.Doings.{AreWhole}
use Rattle.hmc_steps.specs.SideIn.{setup_of, side_in, link_in, buffer_flits}
use Rattle.hmc_steps.proofs.Settled.{settled-way}
use Rattle.hmc_steps.proofs.SideIs.{side-is}
use Rattle.hmc_steps.proofs.StepsAre.{steps-are}
use Rattle.hmc_rounds.specs.LinkPart.{doing_on, side_on, HaveNoThrough, IsPlain, LinkPart}
use Rattle.hmc_bound.specs.Regular.{regulars, turned, doings_for}
use Rattle.hmc_bound.proofs.Near.{with_counts, Near, NearLink, regulars-near}

-- ---- no cut-through

pub whole-of : (past : List LinkEntry) → HaveNoThrough past → AreWhole past
unfolding AreWhole
whole-of [] h = tt
whole-of (entry.handed d packet ∷ past) h = whole-of past h.1
whole-of (entry.taken d ∷ past) h = whole-of past h.1
whole-of (entry.sent d feed w flit ∷ past) h = whole-of past h.1
whole-of (entry.landed d mask flit o ∷ past) h = whole-of past h.1
whole-of (entry.unlocked d ∷ past) h = whole-of past h.1
whole-of (entry.through d head flits ∷ past) h = absurd h.0

-- ---- the other way round

abbrev pub swapped : Link → Link
swapped l = record { forth = l.back; back = l.forth }

pub turn-after : (c : Setup) (ds : List Doing) →
    link_after c (map turned ds) ≡ swapped (link_after c ds)
turn-after c [] = refl
turn-after c (Doing.forth s ∷ ds) =
    ap (λ (l : Link). record {
      forth = other_step l.back l.forth s;
      back = own_step c l.back l.forth s;
    }) (turn-after c ds)
turn-after c (Doing.back s ∷ ds) =
    ap (λ (l : Link). record {
      forth = own_step c l.forth l.back s;
      back = other_step l.forth l.back s;
    }) (turn-after c ds)

turn-may : (c : Setup) (ds : List Doing) → MayAll c ds → MayAll c (map turned ds)
turn-may c [] m = tt
turn-may c (Doing.forth s ∷ ds) m = (
  subst (λ (l : Link). MayStep c l.back l.forth s) (sym (turn-after c ds)) m.0,
  turn-may c ds m.1,
)
turn-may c (Doing.back s ∷ ds) m = (
  subst (λ (l : Link). MayStep c l.forth l.back s) (sym (turn-after c ds)) m.0,
  turn-may c ds m.1,
)

abbrev pub side_at : Toward → Link → Side
side_at Forth l = l.forth
side_at Back l = l.back

abbrev pub after_for : (requests : Toward) → LinkFields → List LinkEntry → Link
after_for requests link past = link_after (setup_of link) (doings_for requests link past)

pub side-for : (requests way : Toward) (link : LinkFields) (past : List LinkEntry) →
    side_on requests way (after_for requests link past) ≡ side_at way
    (link_after (setup_of link) (regulars link past))
side-for Forth Forth link past = refl
side-for Forth Back link past = refl
side-for Back Forth link past =
    ap (λ (l : Link). l.back) (turn-after (setup_of link) (regulars link past))
side-for Back Back link past =
    ap (λ (l : Link). l.forth) (turn-after (setup_of link) (regulars link past))

-- ---- the numbers of a list

pub record Plain (link : LinkFields) (past : List LinkEntry) : Type 0 where
  pub may : MayAll (setup_of link) (regulars link past)
  pub near : (way : Toward) →
      Near (side_in link way past) (side_at way (link_after (setup_of link) (regulars link past)))

pub plain : (link : LinkFields) (past : List LinkEntry) → IsPlain link past → Plain link past
plain link past is =
    let steps = steps-are link past is.kept (whole-of past is.alone) in
    let near = regulars-near link past steps.may in
    let l = link_after (setup_of link) (regulars link past) in
    record {
      may = near.may;
      near = λ way. by_way way (subst (λ (k : Link). NearLink k l) steps.leads near.near);
    }
  where
    by_way : (way : Toward) →
        NearLink (link_in link past) (link_after (setup_of link) (regulars link past)) →
        Near (side_in link way past) (side_at way (link_after (setup_of link) (regulars link past)))
    by_way Forth n = n.forth
    by_way Back n = n.back

may_for : (requests : Toward) (link : LinkFields) (past : List LinkEntry) → IsPlain link past →
    MayAll (setup_of link) (doings_for requests link past)
may_for Forth link past is = (plain link past is).may
may_for Back link past is = turn-may (setup_of link) (regulars link past) (plain link past is).may

handed_for : (requests way : Toward) (packet : PacketFields) (link : LinkFields)
    (past : List LinkEntry) →
    doings_for requests link (entry.handed way packet ∷ past) ≡ doing_on requests way
    (queues (flits_of packet)) ∷ doings_for requests link past
unfolding regulars
handed_for Forth Forth packet link past = refl
handed_for Forth Back packet link past = refl
handed_for Back Forth packet link past = refl
handed_for Back Back packet link past = refl

taken_for : (requests way : Toward) (link : LinkFields) (past : List LinkEntry) →
    doings_for requests link (entry.taken way ∷ past) ≡ doing_on requests way
    (leaves (taken_in link.profile way (entry.taken way ∷ past))
    (buffer_flits link.profile way (entry.taken way ∷ past))) ∷ doings_for requests link past
unfolding regulars
taken_for Forth Forth link past = refl
taken_for Forth Back link past = refl
taken_for Back Forth link past = refl
taken_for Back Back link past = refl

-- what a side of the list shows
pub side-near : (requests way : Toward) (link : LinkFields) (past : List LinkEntry) →
    IsPlain link past →
    Near (side_in link way past) (side_on requests way (after_for requests link past))
side-near requests way link past is =
    subst (λ (x : Side). Near (side_in link way past) x) (sym (side-for requests way link past))
    ((plain link past is).near way)

-- ---- what crosses

known-filter : (l : List PacketFields) →
    length (filter takes_tokens (map Place.known l)) ≡ length (filter is_token l)
known-filter [] = refl
known-filter (p ∷ l) = by_token (is_token p) (known-filter l)
  where
    by_token : (b : Bool) →
        length (filter takes_tokens (map Place.known l)) ≡ length (filter is_token l) →
        length (cond b (Place.known p ∷ filter takes_tokens (map Place.known l))
        (filter takes_tokens (map Place.known l))) ≡ length
        (cond b (p ∷ filter is_token l) (filter is_token l))
    by_token true e = omega arith
    by_token false e = e

filter-parts : (n : ℕ) (l : List Place) →
    length (filter takes_tokens l) ≡ length (filter takes_tokens (take n l))
    + length (filter takes_tokens (drop n l))
filter-parts n l =
    ap (λ (k : List Place). length (filter takes_tokens k)) (sym (take-append-drop n l))
    ∙ ap (λ (k : List Place). length k) (filter-append takes_tokens (take n l) (drop n l))
    ∙ length-append (filter takes_tokens (take n l)) (filter takes_tokens (drop n l))

crossing-is : (link : LinkFields) (way : Toward) (past : List LinkEntry) → IsPlain link past →
    drain.crossing (side_in link way past) ≡ length
    (filter takes_tokens
    (drop (length (accepted_packets link.profile way past)) (places_in link way past)))
crossing-is link way past is =
    let accepted = accepted_packets link.profile way past in
    let parts = filter-parts (length accepted) (places_in link way past) in
    let front : length (filter takes_tokens (take (length accepted) (places_in link way past)))
    ≡ length (filter is_token accepted) =
    ap (λ (k : List Place). length (filter takes_tokens k))
    (sym (direction-laws link way past is.kept).accepted) ∙ known-filter accepted in
    (side-is link way past is.kept).crossing ∙ by_parts _ _ _ _ parts front
  where
    by_parts : (all front rest few : ℕ) → all ≡ front + rest → front ≡ few → all - few ≡ rest
    by_parts all front rest few e f = omega arith

-- ---- settled

with-settled : (x : Side) (st ms : ℕ) → drain.IsSettledSide x →
    drain.IsSettledSide (with_counts x st ms)
with-settled x st ms s =
    record {
      good = s.good;
      opened = s.opened;
      clears = s.clears;
      starts = s.starts;
      back = s.back;
      line = s.line;
    }

near-settled : (x y : Side) → Near x y → drain.IsSettledSide x → drain.IsSettledSide y
near-settled x y n s = subst drain.IsSettledSide (sym n.same) (with-settled x y.steady y.missing s)

-- ---- the record

pub link_part : (requests : Toward) (link : LinkFields) →
    LinkPart link requests (doings_for requests link)
link_part requests link = record {
  may = λ past is. may_for requests link past is;
  handed_is = λ way packet past is. handed_for requests way packet link past;
  taken_is =
      λ way past is. (
        taken_in link.profile way (entry.taken way ∷ past),
        buffer_flits link.profile way (entry.taken way ∷ past),
        taken_for requests way link past,
      );
  queue = λ way past is. ap (λ (x : Side). x.queue) (side-near requests way link past is).same;
  buffer = λ way past is. ap (λ (x : Side). x.buffer) (side-near requests way link past is).same;
  crossing =
      λ way past is. ap (λ (x : Side). drain.crossing x) (side-near requests way link past is).same
      ∙ crossing-is link way past is;
  transit =
      λ way past is. ap (λ (x : Side). transit_tokens x.half)
      (side-near requests way link past is).same ∙ (side-is link way past is.kept).transit;
  settled =
      λ way past is s. near-settled (side_in link way past)
      (side_on requests way (after_for requests link past)) (side-near requests way link past is)
      (settled-way link way past is.kept s);
}
