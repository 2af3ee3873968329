-- The send that completes a packet which a network forwards fills its place with the copy.
use Rattle.std.proofs.Common.{◌≡◌, ◌∙◌, inl, inr, ◌/◌, ℕ, List, [], ◌∷◌, length, Option, Some, None, refl, sym, ap, subst, arith}
use Rattle.std.specs.Prelude.{slice_get}
use Rattle.hmc_codes.specs.Link.{LinkFields}
use Rattle.hmc_packet.specs.declared.feed.Feed.{Feed}
use Rattle.hmc_packet.specs.declared.what.What.{What}
use Rattle.hmc_send.specs.Entries as entries
use Rattle.hmc_send.specs.declared.sent.Sent.TheVariants.{Out}
use Rattle.hmc_send.specs.Choice.{choice}
use Rattle.hmc_send.specs.LinkCalls.{view_in}
use Rattle.hmc_send.specs.Entries.{SenderEntry, Part, UnderWay, through_at, through_place, under_way}
use Rattle.hmc_through.specs.Pipe.{feed_at}
use Rattle.hmc_send.specs.LinkEntries.{LinkEntry}
use Rattle.hmc_send.specs.LinkSenders.{sender_entries, given_in, given_after}
use Rattle.hmc_send.specs.Places.{Place}
use Rattle.hmc_send.specs.declared.toward.Toward.{Toward}
use Rattle.hmc_send.specs.declared.toward.Toward.TheVariants.{Forth, Back}
use Rattle.hmc_send.proofs.LinkLawful.{lawful-sent}
use Rattle.hmc_send.proofs.LinkProjections.{sender-sent}
use Rattle.hmc_send.proofs.Lists.{length-push}
use Rattle.hmc_wire.specs.LinkLaws.{IsKept}
use Rattle.hmc_wire.proofs.Choices.{fit-last, open-fit}
use Rattle.hmc_wire.proofs.OpenPlaces.{AreKnown, IsOpen, under-open}
use Rattle.hmc_wire.proofs.OpenPlaces as opens
use Rattle.hmc_wire.proofs.Parts.{PartsFit}
use Rattle.hmc_wire.proofs.Places.{AllFit}
use Rattle.hmc_wire.proofs.Turns.{own-joins}
use Rattle.hmc_copies.proofs.Going.{Fixed, AreFixed, Goes, Stage, at-is, stage-sent}
use Rattle.hmc_copies.proofs.Pipes.{IsPipeOf}
use Rattle.hmc_entries.specs.declared.entry.Entry.{Entry}
use Rattle.hmc_entries.specs.declared.entry.Entry.TheVariants.{Sent}
use Rattle.hmc_journal.specs.Lawful.{Lawful}
use Rattle.hmc_journal.specs.Links.{toward, entries_on, sizes_on}
use Rattle.hmc_journal.specs.Network.{IsNetwork}
use Rattle.hmc_journal.specs.Piped.{PipeFrom, fed, pipe_onto}
use Rattle.hmc_journal.specs.Setup.{Setup}
use Rattle.hmc_journal.proofs.EntryRule.{feed_on}
use Rattle.hmc_journal.proofs.LinkKept.{opened}
use Rattle.hmc_journal.proofs.OneJournal.{earlier_lawful}
use Rattle.hmc_laws.proofs.AcceptedTokens.{all_fit}
use Rattle.hmc_laws.proofs.Entering.{Kept}
use Rattle.hmc_laws.proofs.ForwardingPipes.{Waits, known_waits}
use Rattle.hmc_laws.proofs.NoSends.{sent-here}
use Rattle.hmc_laws.proofs.Piping.{IsPiped, UpPiped, PipeFits, sender_on}
use Rattle.hmc_laws.proofs.Sound.{kept}
use Rattle.hmc_forwarded.specs.Filled.{through_on, IsFilled}

parts-of : (link : LinkFields) (d : Toward) (past : List LinkEntry) → IsKept link past → PartsFit link.profile (sender_entries link d past)
parts-of link Forth past kept = (own-joins link past kept).forth.parts
parts-of link Back past kept = (own-joins link past kept).back.parts

feed-of : (link : LinkFields) (d : Toward) (feed : Feed) (past : List LinkEntry) → (given_in link d past feed).feed ≡ feed
unfolding given_after
feed-of link d feed past = refl

waits-by : (part : Part) (place : Place) (at : ℕ) → through_place (Some (record { part = part; place = place })) ≡ Some at → Waits (Some (record { part = part; place = place }))
waits-by part (Place.known packet) at is = absurd cc
waits-by part (Place.awaited head flits numbers) at is = tt

waits-of : (up : Option UnderWay) (at : ℕ) → through_place up ≡ Some at → Waits up
waits-of None at is = absurd cc
waits-of (Some begun) at is = waits-by begun.part begun.place at is

-- what stays of the copy
abbrev fixed : (link : LinkFields) → (t : List SenderEntry) → IsOpen link.profile t → Fixed
fixed link t o = record { q = link.profile; retry = link.retry; before = o.before; head = o.head; count = o.count; n = o.numbers }

fits-pipe : (pipe : Option PipeFrom) (part : Part) (head : List ℕ) (count : ℕ) → PipeFits pipe part head count → (p : PipeFrom) × (pipe ≡ Some p) × IsPiped p.pipe part head count
fits-pipe None part head count is = absurd is
fits-pipe (Some p) part head count is = (p, refl, is)

goes : (link : LinkFields) (t : List SenderEntry) (o : IsOpen link.profile t) (p : PipeFrom) → PartsFit link.profile t → IsPiped p.pipe o.part o.head o.count → Goes (fixed link t o) t p.pipe
goes link t o p parts piped =
    let more = (parts o.part o.under).more in
    let count = o.flits in
    record {
      part = o.part;
      places = o.places;
      under = o.under;
      new = o.new;
      flits = o.flits;
      last = o.last ∙ ap (λ (l : List Place). length l) o.places ∙ length-push o.before (opens.open_place o);
      more = omega arith;
      whole_flits = o.whole_flits;
      sent = record { same = piped.sent; inside = piped.inside };
    }

are-fixed : (link : LinkFields) (t : List SenderEntry) (o : IsOpen link.profile t) (p : PipeFrom) → AllFit link.profile (entries.places link.profile t) → IsPiped p.pipe o.part o.head o.count → AreFixed (fixed link t o)
are-fixed link t o p fit piped =
    let x : Place = opens.open_place o in
    let is = open-fit link.profile x refl (fit-last link.profile o.before x (subst (AllFit link.profile) o.places fit)) in
    record { named = o.names; many = piped.many; fit = record { frp = is.frp; seq = is.seq; rtc = is.rtc } }

-- the send of a flit of the copy, which is its last
by-open : (setup : Setup) (past : List Entry) (d : ℕ) (as_what : What) (flit : List ℕ) → Kept setup past → (o : IsOpen (sizes_on setup.topology d).profile (sender_on setup.topology d past)) →
    choice (sizes_on setup.topology d).profile (view_in (sizes_on setup.topology d) (toward d) (entries_on setup.topology d past) (feed_on setup.topology past d)) ≡ Out flit as_what →
    sender_on setup.topology d (Sent d as_what flit ∷ past) ≡ SenderEntry.sent (given_in (sizes_on setup.topology d) (toward d) (entries_on setup.topology d past) (feed_on setup.topology past d)) as_what flit ∷ sender_on setup.topology d past →
    through_on setup.topology d (Sent d as_what flit ∷ past) ≡ None → IsFilled setup.topology d past (Sent d as_what flit ∷ past)
by-open setup past d as_what flit k o chosen later after =
    let t = setup.topology in
    let link = sizes_on t d in
    let own = entries_on t d past in
    let T = sender_on t d past in
    let feed = feed_on t past d in
    let found = fits-pipe (pipe_onto t d past) o.part o.head o.count (subst (UpPiped (pipe_onto t d past)) (under-open link.profile T o) (k.up d)) in
    let p = found.0 in
    let piped = found.2 in
    let of : IsPipeOf p.pipe o.head o.count = record { flits = piped.for.flits; some = piped.for.some; first = piped.for.first; each = piped.for.each } in
    let given = given_in link (toward d) own feed in
    let feeds : (at : ℕ) → through_at link.profile T ≡ Some at → given.feed ≡ feed_at p.pipe at = λ at is. feed-of link (toward d) feed own ∙ (λ i. fed (is i) (found.1 i)) in
    by-stage p found.1 (stage-sent (fixed link T o) T p.pipe given as_what flit (are-fixed link T o p (all_fit link (toward d) own (k.links (d / 2))) piped) of chosen feeds (inl (goes link T o p (parts-of link (toward d) own (k.links (d / 2))) piped)))
  where
    by-stage : (p : PipeFrom) → pipe_onto setup.topology d past ≡ Some p → Stage (fixed (sizes_on setup.topology d) (sender_on setup.topology d past) o) (SenderEntry.sent (given_in (sizes_on setup.topology d) (toward d) (entries_on setup.topology d past) (feed_on setup.topology past d)) as_what flit ∷ sender_on setup.topology d past) p.pipe →
        IsFilled setup.topology d past (Sent d as_what flit ∷ past)
    by-stage p is (inl g) =
        let goes_on = at-is (fixed (sizes_on setup.topology d) (sender_on setup.topology d past) o) _ p.pipe g in
        let clash : None ≡ Some (length g.part.sent) = sym after ∙ ap (through_at (sizes_on setup.topology d).profile) later ∙ goes_on in
        absurd cc
    by-stage p is (inr e) = record {
      before = o.before;
      head = o.head;
      flits = o.count;
      numbers = o.numbers;
      was_open = o.places;
      from = p;
      is_pipe = is;
      packet = e.packet;
      filled = ap (λ (l : List SenderEntry). slice_get (entries.places (sizes_on setup.topology d).profile l) (length o.before)) later ∙ e.at;
      copy = e.copy;
    }

pub filled : (setup : Setup) (past : List Entry) (d : ℕ) (as_what : What) (flit : List ℕ) (at : ℕ) → IsNetwork setup → Lawful setup (Sent d as_what flit ∷ past) →
    through_on setup.topology d past ≡ Some at → through_on setup.topology d (Sent d as_what flit ∷ past) ≡ None → IsFilled setup.topology d past (Sent d as_what flit ∷ past)
filled setup past d as_what flit at network lawful before after =
    let t = setup.topology in
    let link = sizes_on t d in
    let way = toward d in
    let own = entries_on t d past in
    let T = sender_on t d past in
    let feed = feed_on t past d in
    let k = kept setup past network (earlier_lawful setup (Sent d as_what flit ∷ []) past lawful) in
    let here = sent-here t d as_what flit past in
    let now : IsKept link (LinkEntry.sent way feed as_what flit ∷ own) = subst (IsKept link) here ((kept setup (Sent d as_what flit ∷ past) network lawful).links (d / 2)) in
    let chosen = (lawful-sent link own way feed as_what flit now.lawful).chosen in
    let later : sender_on t d (Sent d as_what flit ∷ past) ≡ SenderEntry.sent (given_in link way own feed) as_what flit ∷ T = ap (sender_entries link way) here ∙ sender-sent link way feed as_what flit own in
    elim (opened link way own (k.links (d / 2))) [
      | inl known ↦ absurd (known_waits link.profile T known (waits-of (under_way link.profile T) at before))
      | inr o ↦ by-open setup past d as_what flit k o chosen later after
    ]
