-- What a lawful journal promises of packets that are forwarded.
use Rattle.std.proofs.Common.{◌≡◌, ◌≤◌, ◌<◌, ◌/◌, ◌∙◌, ◌⊎◌, inl, inr, ℕ, true, Option, Some, None, List, [], ◌∷◌, length, get_or, refl, sym, ap, subst, arith}
use Rattle.std.proofs.lemmas.Bool.{false_from_ne_true}
use Rattle.hmc_codes.specs.Flit.{zero_flit}
use Rattle.hmc_codes.specs.declared.place.Place.TheVariants as ends
use Rattle.hmc_packet.specs.declared.feed.Feed.TheVariants.{Waiting}
use Rattle.hmc_packet.specs.Landings.{pending}
use Rattle.hmc_packet.specs.Parts.{lng_of}
use Rattle.hmc_send.specs.Entries.{UnderWay, through_place}
use Rattle.hmc_send.specs.Entries as entries
use Rattle.hmc_send.specs.Choice.{view_after}
use Rattle.hmc_send.specs.LinkCalls.{may_pass_on, view_in}
use Rattle.hmc_send.specs.Places.{Place}
use Rattle.hmc_wire.proofs.Throughs.{ready-is}
use Rattle.hmc_wire.proofs.OpenPlaces.{AreKnown, IsOpen, open_place, under-open}
use Rattle.hmc_entries.specs.declared.entry.Entry.{Entry}
use Rattle.hmc_journal.specs.Directions.{receiver_of}
use Rattle.hmc_journal.specs.Lawful.{Lawful}
use Rattle.hmc_journal.specs.Links.{toward, entries_on, sizes_on}
use Rattle.hmc_journal.specs.Network.{IsNetwork}
use Rattle.hmc_journal.specs.Forwarded.{IsForwarded, AreForwarded}
use Rattle.hmc_journal.specs.Piped.{PipeFrom, forwarded_onto, pipe_onto}
use Rattle.hmc_journal.specs.Setup.{Setup, directions_in}
use Rattle.hmc_laws.proofs.Entering.{Kept}
use Rattle.hmc_laws.proofs.GoodLandings.{IsShort, get-any}
use Rattle.hmc_laws.proofs.LinkHanded.{parts-fit}
use Rattle.hmc_journal.proofs.LinkKept.{opened}
use Rattle.hmc_delivery.proofs.Forwarded.{forwarded_packet}
use Rattle.hmc_laws.proofs.ForwardingPipes.{Waits, OnPipe, PipeKept, known_waits}
use Rattle.hmc_laws.proofs.Piping.{UpPiped, feed_fits, sender_on, up_on}
use Rattle.hmc_laws.proofs.Sound.{kept}
use Rattle.hmc_laws.proofs.SoundAtOnce.{holds_accepted}
use Rattle.hmc_laws.proofs.Wired.{Wired, wired}

short_first : (l : List (List ℕ)) → 1 ≤ length l → IsShort l → length l < lng_of (get_or l 0 [])
short_first [] some short = absurd (omega arith)
short_first (first ∷ rest) some short = short

forwarded_is : (setup : Setup) (past : List Entry) (d onto : ℕ) → Wired setup.topology → Kept setup past → d < directions_in setup.topology → forwarded_onto setup.topology d past ≡ Some onto → IsForwarded setup.topology past d onto
forwarded_is setup past d onto wires keeps less is =
    let t = setup.topology in
    let x = forwarded_packet setup past d onto wires keeps less is in
    let came = pending (receiver_of d past) in
    let long : length x.pipe.pipe.came ≡ length came = ap length x.came in
    let some = x.long in
    let flits : x.pipe.pipe.flits ≡ lng_of (get_or came 0 []) =
    sym x.named ∙ ap lng_of (get-any x.pipe.pipe.came 0 zero_flit [] (omega arith)) ∙ ap (λ (l : List (List ℕ)). lng_of (get_or l 0 [])) x.came in record {
      there = wires.inside (ends.Port x.way.cube x.way.onward) onto x.way.starts;
      pipe = x.is ∙ (λ i. Some (record { from = x.from i; pipe = record { flits = flits i; profile = x.profile i; came = x.came i; good = None } }));
      some = omega arith;
      more = short_first came (omega arith) (keeps.short d);
      empty = x.empty;
      front = λ mask flit is_flit accepts. holds_accepted setup past d onto mask flit is_flit accepts keeps less is;
    }

-- the place of the next flit of a cut-through
through_waits : (up : Option UnderWay) (at : ℕ) → through_place up ≡ Some at → Waits up
through_waits None at is = absurd cc
through_waits (Some begun) at is = by_place begun.place is
  where
    by_place : (place : Place) → entries.flits_through place begun.part ≡ Some at → Waits (Some (record { part = begun.part; place = place }))
    by_place (Place.known packet) same = absurd cc
    by_place (Place.awaited head count numbers) same = tt

same_at : (a b : ℕ) → Some a ≡ Some b → a ≡ b
same_at a b one = cc

placed : (setup : Setup) (past : List Entry) (d at : ℕ) → Kept setup past → through_place (up_on setup.topology d past) ≡ Some at → (p : PipeFrom) × (pipe_onto setup.topology d past ≡ Some p) × (at < p.pipe.flits)
placed setup past d at keeps is = by_open (opened (sizes_on setup.topology d) (toward d) (entries_on setup.topology d past) (keeps.links (d / 2)))
  where
    by_pipe : (o : IsOpen (sizes_on setup.topology d).profile (sender_on setup.topology d past)) (pipe : Option PipeFrom) → pipe_onto setup.topology d past ≡ pipe → UpPiped pipe (Some (record { part = o.part; place = open_place o })) → length o.part.sent ≡ at
        → (p : PipeFrom) × (pipe_onto setup.topology d past ≡ Some p) × (at < p.pipe.flits)
    by_pipe o None found piped here = absurd piped
    by_pipe o (Some p) found piped here =
        let more = (parts-fit (sizes_on setup.topology d) (toward d) (entries_on setup.topology d past) (keeps.links (d / 2)) o.part o.under).more in
        let flits = piped.for.flits in
        let count = o.flits in
        (p, found, omega arith)

    by_open : AreKnown (entries.places (sizes_on setup.topology d).profile (sender_on setup.topology d past)) ⊎ IsOpen (sizes_on setup.topology d).profile (sender_on setup.topology d past) → (p : PipeFrom) × (pipe_onto setup.topology d past ≡ Some p) × (at < p.pipe.flits)
    by_open (inl known) = absurd (known_waits (sizes_on setup.topology d).profile (sender_on setup.topology d past) known (through_waits (up_on setup.topology d past) at is))
    by_open (inr o) =
        let under = under-open (sizes_on setup.topology d).profile (sender_on setup.topology d past) o in
        let here : Some (length o.part.sent) ≡ Some at = sym (ap through_place under) ∙ is in
        by_pipe o (pipe_onto setup.topology d past) refl (subst (UpPiped (pipe_onto setup.topology d past)) under (keeps.up d)) (same_at (length o.part.sent) at here)

-- a direction onto which a packet is forwarded takes no other
free_not : (setup : Setup) (past : List Entry) (d onto flits : ℕ) → Kept setup past → d < directions_in setup.topology → forwarded_onto setup.topology d past ≡ Some onto
    → may_pass_on (view_in (sizes_on setup.topology onto) (toward onto) (entries_on setup.topology onto past) Waiting) flits ≡ true → ⊥
unfolding view_after
free_not setup past d onto flits keeps less is may =
    let forwarding = keeps.forwarding d onto less is in
    let k : PipeKept setup.topology past onto forwarding.pipe = subst (OnPipe setup.topology past onto) forwarding.is (keeps.piped onto) in
    let ready = ready-is (view_in (sizes_on setup.topology onto) (toward onto) (entries_on setup.topology onto past) Waiting) flits may in
    subst Waits ready.nothing (k.gathering forwarding.gathers).up

by_kept : (setup : Setup) (past : List Entry) → Wired setup.topology → Kept setup past → AreForwarded setup past
by_kept setup past wires keeps = record {
  forwarded = λ d onto less is. forwarded_is setup past d onto wires keeps less is;
  gathering = λ onto p is none. (let k : PipeKept setup.topology past onto p = subst (OnPipe setup.topology past onto) is (keeps.piped onto) in (k.way.inside, (k.gathering none).forwarded));
  free = λ d onto flits less is. false_from_ne_true (may_pass_on (view_in (sizes_on setup.topology onto) (toward onto) (entries_on setup.topology onto past) Waiting) flits) (free_not setup past d onto flits keeps less is);
  fed = λ d. (feed_fits (pipe_onto setup.topology d past) (up_on setup.topology d past) (keeps.up d)).fits;
  at = λ d at is. placed setup past d at keeps is;
}

pub forwarded_kept : (setup : Setup) (past : List Entry) → IsNetwork setup → Lawful setup past → AreForwarded setup past
forwarded_kept setup past network lawful = by_kept setup past (wired setup network) (kept setup past network lawful)
