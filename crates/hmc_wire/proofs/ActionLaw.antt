-- The laws of two directions with their flits, by induction: each action keeps them. Used wherever
-- a lawful list is read as a list of steps (Joins, LawsHold, Turns, Fields).
use Rattle.std.proofs.Common.{◌≡◌, ℕ, ◌≤◌, List, [], ◌∷◌, ◌++◌, Bool, false, refl, sym, subst, append-nil}
use Rattle.std.specs.Prelude.{◌||◌, Option, Some, None}
use Rattle.hmc_numbers.specs.Weights.{Weight}
use Rattle.hmc_codes.specs.Profile.{window_of}
use Rattle.hmc_numbers.specs.Pointers.{pointer}
use Rattle.hmc_numbers.specs.Direction.{Direction, Item, rest}
use Rattle.hmc_numbers.specs.Events.{Event, happens}
use Rattle.hmc_numbers.specs.Events.Event.{rests, begins_through, unlocks}
use Rattle.hmc_numbers.specs.Pair.{Move as moving, Way as ways, way, stamps_after, rest_of_stamps, own_after, other_after}
use Rattle.hmc_numbers.specs.Turns.{MayHere, MayMove}
use Rattle.hmc_numbers.proofs.DirectionLaws.{order_laws}
use Rattle.hmc_numbers.proofs.Effect.{effect, new_weights}
use Rattle.hmc_numbers.proofs.Together.{Joined, joined_opening, own_moved, other_moved}
use Rattle.hmc_wire.proofs.Grammar.{Grammar}
use Rattle.hmc_wire.proofs.GrammarLandings.{Landing as landing, Landings, mode, is_spoilt, outcome}
use Rattle.hmc_wire.proofs.Spelled.{Sent, Spelled}
use Rattle.hmc_wire.proofs.Matches.{Matches, reading_of}
use Rattle.hmc_wire.proofs.Lands.{Lands, Done}
use Rattle.hmc_wire.proofs.GrammarCounted.{counted, Carries}
use Rattle.hmc_wire.proofs.LandLanded.{lands}
use Rattle.hmc_wire.proofs.LandCounted.{counted_is}
use Rattle.hmc_wire.proofs.LandStays.{matches_opening, matches_unlocked, matches_grows}
use Rattle.hmc_wire.proofs.Marked.{Marked}
use Rattle.hmc_wire.proofs.Actions.{SideOf, LinkOf, Action, Step, side_opening, item_of, landing_event, counts_or_does, move_of, rest_of, own_side, other_side, stepped, MayLand, MaySend, MayAct, MayStep, link_after, MaySteps}
use Rattle.hmc_wire.proofs.Actions.{Action as action}
use Rattle.hmc_wire.proofs.Actions.Step.{forth, back}
use Rattle.hmc_wire.proofs.MarkedLines.{marked_grows, marked_snoc, marked_rest, marked_front}
use Rattle.hmc_wire.proofs.ActionWays.{sends, lands_line, lands_here, event_lands}

pub record Linked (G : Grammar) (s : Sent G) (r adv : ℕ) (own other : SideOf G) : Type 0 where
  pub joined : Joined r adv own.half other.half
  pub marks : Marked G s own.half.direction.first other.half.direction.first own.half.direction.line own.half.stamps own.flits
  pub matches : Matches G s own.half.direction own.received

pub linked_opening : (G : Grammar) (s : Sent G) (r adv : ℕ) → Linked G s r adv (side_opening G) (side_opening G)
linked_opening G s r adv = record { joined = joined_opening r adv; marks = tt; matches = matches_opening G s }

-- a landing

pub record Facts (G : Grammar) (s : Sent G) (r adv : ℕ) (d o : SideOf G) (c : Bool) (f : G.Flit) : Type 0 where
  pub front : (x : Item) × ((xs : List Item) × (Lands G s r d.half.direction d.received x xs c f))
  pub stamp : (t : ℕ) × ((ts : List ℕ) × ((d.half.stamps ≡ t ∷ ts) × (c ≡ false → Carries G s (pointer G.profile o.half.direction.first t) front.0 f)))

pub facts : (G : Grammar) (s : Sent G) (r adv : ℕ) (d o : SideOf G) (c : Bool) (f : G.Flit) → r ≤ window_of G.profile → Linked G s r adv d o → MayLand G d c f → Facts G s r adv d o c f
facts G s r adv d o c f b k l =
    let z = marked_front G s d.half.direction.first o.half.direction.first d.half.direction.line d.half.stamps d.flits l.sent l.others l.line k.marks in
    record {
      front = (
        z.item,
        (
          z.items,
          record {
            laws = order_laws G.profile r d.half.direction b k.joined.order k.joined.trained;
            matches = k.matches;
            line = z.line;
            spelled = λ q. subst (λ g. Spelled G s d.half.direction.first z.item g) (sym (l.same q)) z.mark.spelled;
            sound = l.sound;
          },
        ),
      );
      stamp = (z.stamp, (z.stamps, (z.stamped, λ q. subst (λ g. Carries G s (pointer G.profile o.half.direction.first z.stamp) z.item g) (sym (l.same q)) z.mark.carries)));
    }

pub landing_done : (G : Grammar) (s : Sent G) (r adv : ℕ) (d o : SideOf G) (c : Bool) (f : G.Flit) → Facts G s r adv d o c f → Done G s r d.half.direction d.received c f (outcome G d.received f) (landing_event G d.received c f)
landing_done G s r adv d o c f z = lands G s r d.half.direction d.received z.front.0 z.front.1.0 c f z.front.1.1

-- moves

lands_way : (G : Grammar) (past : Landings G) (c : Bool) (f : G.Flit) → way (landing_event G past c f) ≡ ways.lands
lands_way G past c f = event_lands (mode G past) (c || is_spoilt G past) c (reading_of (G.alone f)) (outcome G past f)

may_land : (G : Grammar) (s : Sent G) (r adv : ℕ) (d o : SideOf G) (c : Bool) (f : G.Flit) → Facts G s r adv d o c f → MayMove r adv d.half o.half (move_of G d (action.lands c f))
may_land G s r adv d o c f z = by_counted (counted G d.received f) refl
  where
    h : MayHere r adv d.half o.half (landing_event G d.received c f)
    h = lands_here r adv d.half o.half (landing_event G d.received c f) (lands_way G d.received c f) (landing_done G s r adv d o c f z).may

    by_counted : (x : Option ℕ) → counted G d.received f ≡ x → MayMove r adv d.half o.half (counts_or_does x (landing_event G d.received c f))
    by_counted None e = h
    by_counted (Some q) e = (h, (counted_is G s r d.half.direction d.received z.front.0 z.front.1.0 c f z.front.1.1 (pointer G.profile o.half.direction.first z.stamp.0) q z.stamp.1.1.1 e).0)

pub may_move : (G : Grammar) (s : Sent G) (r adv : ℕ) (d o : SideOf G) (a : Action G.Flit) → r ≤ window_of G.profile → Linked G s r adv d o → MayAct G s r adv d o a → MayMove r adv d.half o.half (move_of G d a)
may_move G s r adv d o (action.sends e f) b k m = m.may
may_move G s r adv d o action.starves b k m = tt
may_move G s r adv d o (action.pipes p) b k m = m
may_move G s r adv d o (action.lands c f) b k m = may_land G s r adv d o c f (facts G s r adv d o c f b k m)
may_move G s r adv d o action.unlocks_receiver b k m = tt
may_move G s r adv d o (action.moves n) b k m = m

-- the direction in which it is done

sent_linked : (G : Grammar) (s : Sent G) (r adv : ℕ) (d o : SideOf G) (e : Event) (f : G.Flit) → Linked G s r adv d o → Joined r adv o.half d.half → MaySend G s r adv d.half o.half e f → Linked G s r adv (own_side G d o (action.sends e f)) (other_side G d o (action.sends e f))
sent_linked G s r adv d o e f k i m =
    let w = d.half.direction in
    let z = sends w e m.adds in
    let x = effect r adv d.half o.half e m.may in
    let grown : Marked G s (w.first ++ new_weights e) (o.half.direction.first ++ []) w.line d.half.stamps d.flits =
    marked_grows G s r w.first o.half.direction.first (new_weights e) [] w.accepted o.half.direction.acked o.half.direction.accepted w.line d.half.stamps d.flits k.joined.order.near k.joined.stamps i.order.accepted k.marks in
    let g : Marked G s (happens w e).first o.half.direction.first w.line d.half.stamps d.flits =
    subst (λ ps. Marked G s ps o.half.direction.first w.line d.half.stamps d.flits) (sym x.first) (subst (λ qs. Marked G s (w.first ++ new_weights e) qs w.line d.half.stamps d.flits) (append-nil o.half.direction.first) grown) in
    let h = marked_snoc G s (happens w e).first o.half.direction.first w.line d.half.stamps d.flits (item_of w e) o.half.direction.accepted f m.mark g in
    record {
      joined = own_moved r adv d.half o.half (moving.does e) k.joined m.may;
      marks = subst (λ y. Marked G s (happens w e).first o.half.direction.first (happens w e).line (stamps_after y o.half.direction.accepted d.half.stamps) (d.flits ++ f ∷ [])) (sym m.adds)
          (subst (λ l. Marked G s (happens w e).first o.half.direction.first l (d.half.stamps ++ o.half.direction.accepted ∷ []) (d.flits ++ f ∷ [])) (sym z.line) h);
      matches = matches_grows G s s w (happens w e) d.received (new_weights e) k.matches (record { packets = λ n l. refl; fronts = λ n j l q y. refl }) k.joined.order.accepted x.first z.far z.accepted z.clear_run z.start_run;
    }

piped_linked : (G : Grammar) (s : Sent G) (r adv : ℕ) (d o : SideOf G) (p : Weight) → Linked G s r adv d o → Joined r adv o.half d.half → MayHere r adv d.half o.half (begins_through p) → Linked G s r adv (own_side G d o (action.pipes p)) (other_side G d o (action.pipes p))
piped_linked G s r adv d o p k i m =
    let w = d.half.direction in
    let grown : Marked G s (w.first ++ p ∷ []) (o.half.direction.first ++ []) w.line d.half.stamps d.flits =
    marked_grows G s r w.first o.half.direction.first (p ∷ []) [] w.accepted o.half.direction.acked o.half.direction.accepted w.line d.half.stamps d.flits k.joined.order.near k.joined.stamps i.order.accepted k.marks in
    record {
      joined = own_moved r adv d.half o.half (moving.does (begins_through p)) k.joined m;
      marks = subst (λ qs. Marked G s (w.first ++ p ∷ []) qs w.line d.half.stamps d.flits) (append-nil o.half.direction.first) grown;
      matches = matches_grows G s s w (happens w (begins_through p)) d.received (p ∷ []) k.matches (record { packets = λ n l. refl; fronts = λ n j l q y. refl }) k.joined.order.accepted refl refl refl refl refl;
    }

landed_marks : (G : Grammar) (s : Sent G) (d o : SideOf G) (e : Event) (n : ℕ) → way e ≡ ways.lands → Marked G s d.half.direction.first o.half.direction.first d.half.direction.line d.half.stamps d.flits →
    Marked G s (happens d.half.direction e).first o.half.direction.first (happens d.half.direction e).line (stamps_after (way e) n d.half.stamps) (rest_of d.flits)
landed_marks G s d o e n q m =
    let w = d.half.direction in
    let z = lands_line w e q in
    let h = marked_rest G s w.first o.half.direction.first w.line d.half.stamps d.flits m in
    subst (λ y. Marked G s (happens w e).first o.half.direction.first (happens w e).line (stamps_after y n d.half.stamps) (rest_of d.flits)) (sym q)
    (subst (λ l. Marked G s (happens w e).first o.half.direction.first l (rest_of_stamps d.half.stamps) (rest_of d.flits)) (sym z.0)
    (subst (λ ps. Marked G s ps o.half.direction.first (rest w.line) (rest_of_stamps d.half.stamps) (rest_of d.flits)) (sym z.1) h))

landed_linked : (G : Grammar) (s : Sent G) (r adv : ℕ) (d o : SideOf G) (c : Bool) (f : G.Flit) → Linked G s r adv d o → Facts G s r adv d o c f → (x : Option ℕ) → MayMove r adv d.half o.half (counts_or_does x (landing_event G d.received c f)) →
    Linked G s r adv (record { half = own_after d.half o.half.direction.accepted (counts_or_does x (landing_event G d.received c f)); flits = rest_of d.flits; received = landing.landed c f (outcome G d.received f) ∷ d.received })
    (record { half = other_after d.half o.half (counts_or_does x (landing_event G d.received c f)); flits = o.flits; received = o.received })
landed_linked G s r adv d o c f k z None m = record {
  joined = own_moved r adv d.half o.half (moving.does (landing_event G d.received c f)) k.joined m;
  marks = landed_marks G s d o (landing_event G d.received c f) o.half.direction.accepted (lands_way G d.received c f) k.marks;
  matches = (landing_done G s r adv d o c f z).matches;
}
landed_linked G s r adv d o c f k z (Some q) m = record {
  joined = own_moved r adv d.half o.half (moving.counts (landing_event G d.received c f)) k.joined m;
  marks = landed_marks G s d o (landing_event G d.received c f) o.half.direction.accepted (lands_way G d.received c f) k.marks;
  matches = (landing_done G s r adv d o c f z).matches;
}

pub own_linked : (G : Grammar) (s : Sent G) (r adv : ℕ) (d o : SideOf G) (a : Action G.Flit) → r ≤ window_of G.profile → Linked G s r adv d o → Joined r adv o.half d.half → MayAct G s r adv d o a → Linked G s r adv (own_side G d o a) (other_side G d o a)
own_linked G s r adv d o (action.sends e f) b k i m = sent_linked G s r adv d o e f k i m
own_linked G s r adv d o action.starves b k i m = record { joined = own_moved r adv d.half o.half (moving.does rests) k.joined tt; marks = k.marks; matches = k.matches }
own_linked G s r adv d o (action.pipes p) b k i m = piped_linked G s r adv d o p k i m
own_linked G s r adv d o (action.lands c f) b k i m =
    let z = facts G s r adv d o c f b k m in
    landed_linked G s r adv d o c f k z (counted G d.received f) (may_land G s r adv d o c f z)
own_linked G s r adv d o action.unlocks_receiver b k i m = record {
  joined = own_moved r adv d.half o.half (moving.does unlocks) k.joined tt;
  marks = k.marks;
  matches = matches_unlocked G s d.half.direction d.received k.matches;
}
own_linked G s r adv d o (action.moves n) b k i m = record { joined = own_moved r adv d.half o.half (moving.moves n) k.joined m; marks = k.marks; matches = k.matches }

-- and the other direction

grown_other : (G : Grammar) (t : Sent G) (r adv : ℕ) (d o : SideOf G) (new : List Weight) → Linked G t r adv o d → Joined r adv d.half o.half → Marked G t o.half.direction.first (d.half.direction.first ++ new) o.half.direction.line o.half.stamps o.flits
grown_other G t r adv d o new k i =
    let w = o.half.direction in
    let h : Marked G t (w.first ++ []) (d.half.direction.first ++ new) w.line o.half.stamps o.flits =
    marked_grows G t r w.first d.half.direction.first [] new w.accepted d.half.direction.acked d.half.direction.accepted w.line o.half.stamps o.flits k.joined.order.near k.joined.stamps i.order.accepted k.marks in
    subst (λ ps. Marked G t ps (d.half.direction.first ++ new) w.line o.half.stamps o.flits) (append-nil w.first) h

acked_matches : (G : Grammar) (t : Sent G) (w : Direction) (past : Landings G) (n : ℕ) → Matches G t w past → Matches G t (record w { acked = n }) past
acked_matches G t w past n m = record { place = m.place; clear_run = m.clear_run; start_run = m.start_run; packets = m.packets; count = m.count; flits = m.flits }

landed_other : (G : Grammar) (t : Sent G) (r adv : ℕ) (d o : SideOf G) (c : Bool) (f : G.Flit) → Linked G t r adv o d → Joined r adv d.half o.half → (x : Option ℕ) → MayMove r adv d.half o.half (counts_or_does x (landing_event G d.received c f)) →
    Linked G t r adv (record { half = other_after d.half o.half (counts_or_does x (landing_event G d.received c f)); flits = o.flits; received = o.received })
    (record { half = own_after d.half o.half.direction.accepted (counts_or_does x (landing_event G d.received c f)); flits = rest_of d.flits; received = landing.landed c f (outcome G d.received f) ∷ d.received })
landed_other G t r adv d o c f k j None m =
    let z = lands_line d.half.direction (landing_event G d.received c f) (lands_way G d.received c f) in
    record {
      joined = other_moved r adv d.half o.half (moving.does (landing_event G d.received c f)) j k.joined m;
      marks = subst (λ qs. Marked G t o.half.direction.first qs o.half.direction.line o.half.stamps o.flits) (sym z.1) k.marks;
      matches = k.matches;
    }
landed_other G t r adv d o c f k j (Some q) m =
    let z = lands_line d.half.direction (landing_event G d.received c f) (lands_way G d.received c f) in
    record {
      joined = other_moved r adv d.half o.half (moving.counts (landing_event G d.received c f)) j k.joined m;
      marks = subst (λ qs. Marked G t o.half.direction.first qs o.half.direction.line o.half.stamps o.flits) (sym z.1) k.marks;
      matches = acked_matches G t o.half.direction o.received _ k.matches;
    }

pub other_linked : (G : Grammar) (s t : Sent G) (r adv : ℕ) (d o : SideOf G) (a : Action G.Flit) → r ≤ window_of G.profile → Linked G s r adv d o → Linked G t r adv o d → MayAct G s r adv d o a → Linked G t r adv (other_side G d o a) (own_side G d o a)
other_linked G s t r adv d o (action.sends e f) b k i m =
    let x = effect r adv d.half o.half e m.may in
    record {
      joined = other_moved r adv d.half o.half (moving.does e) k.joined i.joined m.may;
      marks = subst (λ qs. Marked G t o.half.direction.first qs o.half.direction.line o.half.stamps o.flits) (sym x.first) (grown_other G t r adv d o (new_weights e) i k.joined);
      matches = i.matches;
    }
other_linked G s t r adv d o action.starves b k i m = record { joined = other_moved r adv d.half o.half (moving.does rests) k.joined i.joined tt; marks = i.marks; matches = i.matches }
other_linked G s t r adv d o (action.pipes p) b k i m = record {
  joined = other_moved r adv d.half o.half (moving.does (begins_through p)) k.joined i.joined m;
  marks = grown_other G t r adv d o (p ∷ []) i k.joined;
  matches = i.matches;
}
other_linked G s t r adv d o (action.lands c f) b k i m = landed_other G t r adv d o c f i k.joined (counted G d.received f) (may_land G s r adv d o c f (facts G s r adv d o c f b k m))
other_linked G s t r adv d o action.unlocks_receiver b k i m = record { joined = other_moved r adv d.half o.half (moving.does unlocks) k.joined i.joined tt; marks = i.marks; matches = i.matches }
other_linked G s t r adv d o (action.moves n) b k i m = record { joined = other_moved r adv d.half o.half (moving.moves n) k.joined i.joined m; marks = i.marks; matches = i.matches }

-- both

pub record LinkedBoth (G : Grammar) (s t : Sent G) (r adv : ℕ) (l : LinkOf G) : Type 0 where
  pub forth : Linked G s r adv l.forth l.back
  pub back : Linked G t r adv l.back l.forth

pub both_stepped : (G : Grammar) (s t : Sent G) (r adv : ℕ) (l : LinkOf G) (e : Step G.Flit) → r ≤ window_of G.profile → LinkedBoth G s t r adv l → MayStep G s t r adv l e → LinkedBoth G s t r adv (stepped G l e)
both_stepped G s t r adv l (forth a) b k m = record { forth = own_linked G s r adv l.forth l.back a b k.forth k.back.joined m; back = other_linked G s t r adv l.forth l.back a b k.forth k.back m }
both_stepped G s t r adv l (back a) b k m = record { forth = other_linked G t s r adv l.back l.forth a b k.back k.forth m; back = own_linked G t r adv l.back l.forth a b k.back k.forth.joined m }

pub both_linked : (G : Grammar) (s t : Sent G) (r adv : ℕ) (past : List (Step G.Flit)) → r ≤ window_of G.profile → MaySteps G s t r adv past → LinkedBoth G s t r adv (link_after G past)
both_linked G s t r adv [] b m = record { forth = linked_opening G s r adv; back = linked_opening G t r adv }
both_linked G s t r adv (e ∷ past) b m = both_stepped G s t r adv (link_after G past) e b (both_linked G s t r adv past b m.1) m.0
