-- What a sender chooses may come, is spelled as what it is, and gives the numbers of its entries.
-- Used by Ways and Choices.
use Rattle.std.proofs.Common.{◌≡◌, ◌≢◌, ◌∙◌, ◌<◌, ◌≤◌, ◌+◌, ◌-◌, ◌%◌, ◌⊎◌, inl, ℕ, zero, suc, max, Bool, true, false, List, [], ◌∷◌, ◌++◌, length, take, get_or, map, Option, Some, None, refl, sym, ap, subst, arith, length-append}
use Rattle.std.specs.Prelude.{◌==◌, if◌then◌else◌, slice_get}
use Rattle.std.proofs.lemmas.Bool.{eqb-true, false_from_ne_true}
use Rattle.std.proofs.lemmas.List.{length-map, map_push}
use Rattle.std.proofs.lemmas.List.Sums.{sum_by-take-drop}
use Rattle.hmc_codes.specs.Profile.{modulus_of}
use Rattle.hmc_codes.specs.Flit.{IsFlit}
use Rattle.hmc_codes.specs.declared.profile.Profile.{Profile}
use Rattle.hmc_packet.specs.declared.kind.Kind.TheVariants as kinds
use Rattle.hmc_packet.specs.Irtry.{irtry_flit}
use Rattle.hmc_packet.specs.Packet.{PacketFields, flits_of, null_packet}
use Rattle.hmc_packet.specs.Parts.{lng_of}
use Rattle.hmc_packet.proofs.PacketLemmas.{flits_of-few}
use Rattle.hmc_tokens.specs.Account.{tokens_of_code}
use Rattle.hmc_send.specs.Choice.{is_train}
use Rattle.hmc_send.specs.Entries as entries
use Rattle.hmc_send.specs.Entries.{SenderEntry, Given, Part, part_with, part_after, are_bursts}
use Rattle.hmc_send.specs.Places.{Place, flits_at, flits_in, numbers_at, place_at, flit_of}
use Rattle.hmc_send.proofs.Lists.{get-none, place-push}
use Rattle.hmc_numbers.specs.Weights.{flits_to, size}
use Rattle.hmc_numbers.specs.Direction.{Filler, Item, Direction, Reached as far, begun, position}
use Rattle.hmc_numbers.specs.Direction.Item.{filler, part}
use Rattle.hmc_numbers.specs.Events.{Event, happens, last_after_clear}
use Rattle.hmc_numbers.specs.Events.Event.{sends_filler, sends_clear, begins, begins_again, goes_on}
use Rattle.hmc_numbers.specs.May.{IsFree, HasRoom}
use Rattle.hmc_numbers.specs.Pointers.{pointer}
use Rattle.hmc_numbers.specs.Pair.{Half, Way as ways, way}
use Rattle.hmc_numbers.specs.Tokens.{cost, held_tokens, due_tokens}
use Rattle.hmc_numbers.specs.Turns.{MayHere}
use Rattle.hmc_numbers.proofs.Together.{Joined}
use Rattle.hmc_wire.proofs.Spelled.{Sent}
use Rattle.hmc_wire.proofs.Marked.{Mark}
use Rattle.hmc_wire.proofs.Actions.{item_of}
use Rattle.hmc_wire.proofs.ActionChosen.{new_item, again_item}
use Rattle.hmc_wire.proofs.PacketGrammar.{grammar, IsNumbered}
use Rattle.hmc_wire.specs.EntryTurns.{weight, left_of}
use Rattle.hmc_wire.proofs.SenderLists.{Chosen, within}
use Rattle.hmc_wire.proofs.OpenPlaces.{AreKnown, IsOpen}
use Rattle.hmc_wire.proofs.Places.{packet_of, Fits, AllFit, fit-push, upto-sum, upto-all, size-weight, AreNumbered, numbered-at, Agrees, AgreesWith, agrees-packet}
use Rattle.hmc_wire.proofs.Flits.{first-flit, irtry-flit, packet-flit}
use Rattle.hmc_wire.proofs.Marks.{mark-clear, mark-part, mark-open, first-lng}
use Rattle.hmc_wire.proofs.Parts.{Sends, IsPart, PartsFit, grown-left, part-grows, part-begins}

-- what is known of a sender and of the two directions before a send, and what the send is given
pub record Env (q : Profile) (s : Sent (grammar q)) (retry adv : ℕ) (t : List SenderEntry) (given : Given) (own oth : Half) : Type 0 where
  pub sends : Sends q t own.direction
  pub chosen : Chosen q retry t
  pub parts : PartsFit q t
  pub fit : AllFit q (entries.places q t)
  pub numbered : AreNumbered q (entries.places q t)
  pub places : AreKnown (entries.places q t) ⊎ IsOpen q t
  pub joined : Joined retry adv own oth
  pub back : Joined retry adv oth own
  pub train : is_train given.own.mode ≡ true → oth.direction.far ≡ far.training
  pub ready : is_train given.own.mode ≡ false → oth.direction.far ≢ far.training
  pub rrp : given.own.rrp ≡ pointer q oth.direction.first oth.direction.accepted
  pub below : given.own.rrp < modulus_of q
  pub held : given.held ≡ held_tokens own oth
  pub due : given.due ≡ due_tokens adv oth own

-- A send is done: it may come, its flit is spelled as what it is, and the sender's entries are
-- again what the numbers say.
pub record Done (q : Profile) (s : Sent (grammar q)) (retry adv : ℕ) (T : List SenderEntry) (e : Event) (flit : List ℕ) (own oth : Half) : Type 0 where
  pub adds : way e ≡ ways.sends
  pub may : MayHere retry adv own oth e
  pub mark : AgreesWith q s T → Mark (grammar q) s (happens own.direction e).first oth.direction.first (item_of own.direction e) oth.direction.accepted flit
  pub sends : Sends q T (happens own.direction e)
  pub parts : PartsFit q T
  pub fit : AllFit q (entries.places q T)
  pub whole : IsFlit flit

-- an entry leaves the places, what is acknowledged and begun, and the Clears
pub record Stays (q : Profile) (t T : List SenderEntry) : Type 0 where
  pub first : entries.places q T ≡ entries.places q t
  pub acked : entries.acked T ≡ entries.acked t
  pub last : entries.last_begun q T ≡ entries.last_begun q t
  pub unfinished : entries.unfinished T ≡ entries.unfinished t
  pub clears : entries.clears T ≡ entries.clears t

pub sends-stay : (q : Profile) (t T : List SenderEntry) (w v : Direction) → Stays q t T → v.first ≡ w.first → v.acked ≡ w.acked → v.last ≡ w.last → v.left ≡ w.left → v.clears ≡ w.clears → Sends q t w → Sends q T v
sends-stay q t T w v k first acked last left clears sends = record {
  first = first ∙ sends.first ∙ ap (map weight) (sym k.first);
  acked = acked ∙ sends.acked ∙ sym k.acked;
  last = last ∙ sends.last ∙ sym k.last;
  left = left ∙ sends.left ∙ ap left_of (sym k.unfinished);
  clears = clears ∙ sends.clears ∙ sym k.clears;
}

pub parts-stay : (q : Profile) (t T : List SenderEntry) → Stays q t T → PartsFit q t → PartsFit q T
parts-stay q t T k parts p is =
    let at = parts p (sym k.unfinished ∙ is) in
    subst (λ (l : List Place). IsPart l (entries.last_begun q T) p) (sym k.first) (subst (λ (n : ℕ). IsPart (entries.places q t) n p) (sym k.last) at)

-- ---- flits that are no part of a packet

pub left-none : (q : Profile) (t : List SenderEntry) (w : Direction) → Sends q t w → entries.unfinished t ≡ None → w.left ≡ 0
left-none q t w sends nothing = sends.left ∙ ap left_of nothing

pub filler-done : (q : Profile) (s : Sent (grammar q)) (retry adv : ℕ) (t T : List SenderEntry) (given : Given) (f : Filler) (flit : List ℕ) (own oth : Half) → Env q s retry adv t given own oth → Stays q t T → MayHere retry adv own oth (sends_filler f) →
    Mark (grammar q) s own.direction.first oth.direction.first (filler f) oth.direction.accepted flit → IsFlit flit → Done q s retry adv T (sends_filler f) flit own oth
filler-done q s retry adv t T given f flit own oth env k may mark whole = record {
  whole = whole;
  adds = refl;
  may = may;
  mark = λ agree. mark;
  sends = sends-stay q t T own.direction (happens own.direction (sends_filler f)) k refl refl refl refl refl env.sends;
  parts = parts-stay q t T k env.parts;
  fit = subst (AllFit q) (sym k.first) env.fit;
}

pub whole-zero : (n : ℕ) → are_bursts n ≡ true → n % 32 ≡ 0
whole-zero n is = eqb-true (n % 32) 0 is

cleared-by : (m last : ℕ) → last_after_clear m last ≡ (if m == 0 then 0 else last)
cleared-by zero last = refl
cleared-by (suc m) last = ap (λ (b : Bool). if b then 0 else last) (sym (false_from_ne_true (suc m == 0) (λ is. let zero_is = eqb-true (suc m) 0 is in omega arith)))

-- a Clear
pub clear-done : (q : Profile) (s : Sent (grammar q)) (retry adv : ℕ) (t T : List SenderEntry) (given : Given) (own oth : Half) → Env q s retry adv t given own oth → is_train given.own.mode ≡ false → entries.unfinished t ≡ None →
    entries.places q T ≡ entries.places q t → entries.acked T ≡ entries.acked t → entries.last_begun q T ≡ (if are_bursts (entries.clears t) then 0 else entries.last_begun q t) → entries.unfinished T ≡ entries.unfinished t →
    entries.clears T ≡ suc (entries.clears t) → Done q s retry adv T sends_clear (irtry_flit q kinds.Clear given.own.rrp) own oth
clear-done q s retry adv t T given own oth env ready nothing first acked last unfinished clears = record {
  whole = irtry-flit q kinds.Clear given.own.rrp;
  adds = refl;
  may = (env.ready ready, left-none q t own.direction env.sends nothing);
  mark = λ agree. mark-clear q s own.direction.first oth.direction.first oth.direction.accepted given.own.rrp env.below env.rrp;
  sends = record {
    first = env.sends.first ∙ ap (map weight) (sym first);
    acked = env.sends.acked ∙ sym acked;
    last = (λ i. last_after_clear (env.sends.clears i % 32) (env.sends.last i)) ∙ cleared-by (entries.clears t % 32) (entries.last_begun q t) ∙ sym last;
    left = env.sends.left ∙ ap left_of (sym unfinished);
    clears = (let e = env.sends.clears in let c = clears in omega arith);
  };
  parts = λ p is. absurd (let clash : None ≡ Some p = sym nothing ∙ sym unfinished ∙ is in cc);
  fit = subst (AllFit q) (sym first) env.fit;
}

-- ---- a packet begins

pub begun-length : (q : Profile) (t : List SenderEntry) (w : Direction) → Sends q t w → begun w ≡ length (entries.places q t)
begun-length q t w sends = ap (λ l. length l) sends.first ∙ length-map (entries.places q t) weight

pub position-is : (q : Profile) (t : List SenderEntry) (w : Direction) → Sends q t w → position w ≡ entries.position q t
position-is q t w sends = λ i. max (sends.acked i) (sends.last i)

pub position-le : (q : Profile) (retry : ℕ) (t : List SenderEntry) → Chosen q retry t → entries.position q t ≤ length (entries.places q t)
position-le q retry t chosen = let w = within q retry t chosen in let a = w.acked in let b = w.last in omega arith

pub free-at : (q : Profile) (s : Sent (grammar q)) (retry adv : ℕ) (t : List SenderEntry) (given : Given) (own oth : Half) → Env q s retry adv t given own oth → entries.unfinished t ≡ None → are_bursts (entries.clears t) ≡ true → slice_get (entries.places q t) (entries.position q t) ≡ None → IsFree own.direction
free-at q s retry adv t given own oth env nothing whole again =
    let b = begun-length q t own.direction env.sends in
    let p = position-is q t own.direction env.sends in
    let above = get-none (entries.places q t) (entries.position q t) again in
    let below = position-le q retry t env.chosen in
    (left-none q t own.direction env.sends nothing, ap (λ (n : ℕ). n % 32) env.sends.clears ∙ whole-zero (entries.clears t) whole, omega arith)

pub room-at : (q : Profile) (retry : ℕ) (t : List SenderEntry) (w : Direction) (x : Place) → Sends q t w → 1 ≤ flits_at x → flits_at x ≤ entries.room q retry t → HasRoom retry w (weight x)
room-at q retry t w x sends some room =
    let l = entries.places q t in
    let b = begun-length q t w sends in
    let all : flits_to w.first (begun w) ≡ flits_in l = (λ i. flits_to (sends.first i) (b i)) ∙ upto-all (λ y. y.flits) l in
    let low : flits_to w.first w.acked ≡ flits_in (take (entries.acked t) l) = (λ i. flits_to (sends.first i) (sends.acked i)) ∙ upto-sum (λ y. y.flits) l (entries.acked t) in
    let parts = sum_by-take-drop flits_at l (entries.acked t) in
    omega arith

-- what is under way after the first flit of the packet of a new place
pub record NewPart (l : List Place) (x : Place) (u : Option Part) : Type 0 where
  pub left : left_of u ≡ flits_at x - 1
  pub part : (p : Part) → u ≡ Some p → IsPart (l ++ x ∷ []) (suc (length l)) p

pub new-part : (l : List Place) (x : Place) (flit : List ℕ) → lng_of flit ≡ flits_at x → 1 ≤ flits_at x → NewPart l x (part_after false flit None)
new-part l x flit lng some = record {
  left = grown-left (record { again = false; flits = lng_of flit; sent = [] }) flit ∙ (omega arith);
  part = part-begins (l ++ x ∷ []) (suc (length l)) false flit (omega arith) (lng ∙ ap flits_at (sym (place-push l x))) (omega arith);
}

-- nothing, where it is one flit
pub none-part : (l : List Place) (x : Place) → flits_at x ≡ 1 → NewPart l x None
none-part l x one = record { left = omega arith; part = λ p is. absurd (let clash : None ≡ Some p = is in cc) }

-- a packet is begun for the first time
pub record Begins (q : Profile) (t T : List SenderEntry) (x : Place) (u : Option Part) : Type 0 where
  pub first : entries.places q T ≡ entries.places q t ++ x ∷ []
  pub acked : entries.acked T ≡ entries.acked t
  pub last : entries.last_begun q T ≡ suc (length (entries.places q t))
  pub unfinished : entries.unfinished T ≡ u
  pub clears : entries.clears T ≡ entries.clears t

pub begun-done : (q : Profile) (s : Sent (grammar q)) (retry adv : ℕ) (t T : List SenderEntry) (given : Given) (own oth : Half) (x : Place) (p : PacketFields) (u : Option Part) → Env q s retry adv t given own oth → Fits q x p → Begins q t T x u → NewPart (entries.places q t) x u → AreNumbered q (entries.places q T) →
    is_train given.own.mode ≡ false → entries.unfinished t ≡ None → are_bursts (entries.clears t) ≡ true → slice_get (entries.places q t) (entries.position q t) ≡ None →
    flits_at x ≤ entries.room q retry t → cost (weight x) ≤ given.held → tokens_of_code (numbers_at x).rtc ≤ given.due → Done q s retry adv T (begins (weight x)) (flit_of q p given.own.rrp 0) own oth
begun-done q s retry adv t T given own oth x p u env fits new is_part numbers ready nothing whole again room costs returns =
    let l = entries.places q t in
    let few = flits_of-few p fits.packet in
    let ff = fits.flits in
    let b = begun-length q t own.direction env.sends in
    let n = suc (length l) in
    let at : place_at (entries.places q T) n ≡ x = ap (λ (k : List Place). place_at k n) new.first ∙ place-push l x in
    let len : length (entries.places q T) ≡ n = ap (λ (k : List Place). length k) new.first ∙ (let e = length-append l (x ∷ []) in omega arith) in
    let fits-at : Fits q (place_at (entries.places q T) n) p = subst (λ (y : Place). Fits q y p) (sym at) fits in
    let grown : own.direction.first ++ weight x ∷ [] ≡ map weight (entries.places q T) = ap (λ k. k ++ weight x ∷ []) env.sends.first ∙ sym (map_push weight l x) ∙ ap (map weight) (sym new.first) in
    let numbered : IsNumbered q (own.direction.first ++ weight x ∷ []) n p = subst (λ ps. IsNumbered q ps n p) (sym grown) (numbered-at q (entries.places q T) n p numbers (omega arith) (omega arith) fits-at) in
    let held = env.held in
    let due = env.due in
    let h = env.joined.held in
    let d = env.back.due in
    let size-x = new_item own.direction (weight x) in
    record {
      whole = first-flit q p given.own.rrp fits.packet;
      adds = refl;
      may = (env.ready ready, (free-at q s retry adv t given own oth env nothing whole again, (omega arith, omega arith), room-at q retry t own.direction x env.sends (omega arith) room), (omega arith, omega arith));
      mark = λ agree.
          let a = agrees-packet q s (entries.places q T) (entries.unfinished T) n p agree (omega arith) (omega arith) fits-at.known in
          let item : part n 0 (flits_at x - 1) ≡ item_of own.direction (begins (weight x)) = (λ i. part ((let e : n ≡ begun own.direction + 1 = omega arith in e) i) 0 (flits_at x - 1)) ∙ sym size-x in
          subst (λ (y : Item). Mark (grammar q) s (own.direction.first ++ weight x ∷ []) oth.direction.first y oth.direction.accepted (flit_of q p given.own.rrp 0)) item
          (mark-part q s (own.direction.first ++ weight x ∷ []) oth.direction.first n 0 (flits_at x - 1) oth.direction.accepted given.own.rrp p numbered a.0 a.1 (omega arith) env.below env.rrp);
      sends = record {
        first = grown;
        acked = env.sends.acked ∙ sym new.acked;
        last = (let e = new.last in omega arith);
        left = sym (ap left_of new.unfinished ∙ is_part.left ∙ (omega arith));
        clears = env.sends.clears ∙ sym new.clears;
      };
      parts = λ v is.
          subst (λ (m : ℕ). IsPart (entries.places q T) m v) (sym new.last)
          (subst (λ (k : List Place). IsPart k n v) (sym new.first) (is_part.part v (sym new.unfinished ∙ is)));
      fit = subst (AllFit q) (sym new.first) (fit-push q l x env.fit (inl (record { packet = p; fits = fits })));
    }

-- a packet is begun again
pub record Repeats (q : Profile) (t T : List SenderEntry) (flit : List ℕ) : Type 0 where
  pub first : entries.places q T ≡ entries.places q t
  pub acked : entries.acked T ≡ entries.acked t
  pub last : entries.last_begun q T ≡ suc (entries.position q t)
  pub unfinished : entries.unfinished T ≡ part_after true flit None
  pub clears : entries.clears T ≡ entries.clears t

pub again-done : (q : Profile) (s : Sent (grammar q)) (retry adv : ℕ) (t T : List SenderEntry) (given : Given) (own oth : Half) (p : PacketFields) → Env q s retry adv t given own oth → Fits q (get_or (entries.places q t) (entries.position q t) (Place.known null_packet)) p → Repeats q t T (flit_of q p given.own.rrp 0) →
    is_train given.own.mode ≡ false → entries.unfinished t ≡ None → are_bursts (entries.clears t) ≡ true → entries.position q t < length (entries.places q t) → Done q s retry adv T begins_again (flit_of q p given.own.rrp 0) own oth
again-done q s retry adv t T given own oth p env fits new ready nothing whole inside =
    let l = entries.places q t in
    let m = entries.position q t in
    let n = suc m in
    let few = flits_of-few p fits.packet in
    let b = begun-length q t own.direction env.sends in
    let pos = position-is q t own.direction env.sends in
    let k : n - 1 ≡ m = omega arith in
    let at : place_at l n ≡ get_or l m (Place.known null_packet) = λ i. get_or l (k i) (Place.known null_packet) in
    let fits-at : Fits q (place_at l n) p = subst (λ (y : Place). Fits q y p) (sym at) fits in
    let numbered : IsNumbered q own.direction.first n p = subst (λ ps. IsNumbered q ps n p) (sym env.sends.first) (numbered-at q l n p env.numbered (omega arith) (omega arith) fits-at) in
    let lng = first-lng q p given.own.rrp fits.packet fits.sequenced in
    let np : position own.direction + 1 ≡ n = omega arith in
    let sized : size own.direction.first (position own.direction + 1) ≡ flits_of p = (λ i. size (env.sends.first i) (np i)) ∙ size-weight l n (omega arith) (omega arith) ∙ sym fits-at.flits in
    record {
      whole = first-flit q p given.own.rrp fits.packet;
      adds = refl;
      may = (env.ready ready, (left-none q t own.direction env.sends nothing, ap (λ (c : ℕ). c % 32) env.sends.clears ∙ whole-zero (entries.clears t) whole, omega arith));
      mark = λ agree.
          let a = agrees-packet q s l (entries.unfinished T) n p (subst (λ (j : List Place). Agrees q s j (entries.unfinished T)) new.first agree) (omega arith) (omega arith) fits-at.known in
          let item : part n 0 (flits_of p - 1) ≡ item_of own.direction begins_again = (λ i. part (sym np i) 0 (sym sized i - 1)) ∙ sym (again_item own.direction) in
          subst (λ (y : Item). Mark (grammar q) s own.direction.first oth.direction.first y oth.direction.accepted (flit_of q p given.own.rrp 0)) item
          (mark-part q s own.direction.first oth.direction.first n 0 (flits_of p - 1) oth.direction.accepted given.own.rrp p numbered a.0 a.1 (omega arith) env.below env.rrp);
      sends = record {
        first = env.sends.first ∙ ap (map weight) (sym new.first);
        acked = env.sends.acked ∙ sym new.acked;
        last = np ∙ sym new.last;
        left = sym (ap left_of new.unfinished ∙ grown-left (record { again = true; flits = lng_of (flit_of q p given.own.rrp 0); sent = [] }) (flit_of q p given.own.rrp 0) ∙ (omega arith));
        clears = env.sends.clears ∙ sym new.clears;
      };
      parts = λ v is.
          subst (λ (j : List Place). IsPart j (entries.last_begun q T) v) (sym new.first)
          (subst (λ (j : ℕ). IsPart l j v) (sym new.last)
          (part-begins l n true (flit_of q p given.own.rrp 0) (omega arith) (lng ∙ fits-at.flits) (omega arith) v (sym new.unfinished ∙ is)));
      fit = subst (AllFit q) (sym new.first) env.fit;
    }

-- ---- a packet goes on

pub record GoesOn (q : Profile) (t T : List SenderEntry) (under : Part) (flit : List ℕ) : Type 0 where
  pub weights : map weight (entries.places q T) ≡ map weight (entries.places q t)
  pub acked : entries.acked T ≡ entries.acked t
  pub last : entries.last_begun q T ≡ entries.last_begun q t
  pub unfinished : entries.unfinished T ≡ part_with under flit
  pub clears : entries.clears T ≡ entries.clears t

-- what is known of the packet under way before its next flit
pub record Going (q : Profile) (t : List SenderEntry) (under : Part) (w : Direction) : Type 0 where
  pub left : w.left ≡ under.flits - length under.sent
  pub size : size w.first w.last ≡ under.flits
  pub more : length under.sent < under.flits
  pub least : 1 ≤ entries.last_begun q t
  pub most : entries.last_begun q t ≤ length (entries.places q t)

pub going-at : (q : Profile) (retry : ℕ) (t : List SenderEntry) (under : Part) (w : Direction) → Sends q t w → Chosen q retry t → PartsFit q t → entries.unfinished t ≡ Some under → Going q t under w
going-at q retry t under w sends chosen parts some =
    let l = entries.places q t in
    let is = parts under some in
    let most = (within q retry t chosen).last in
    record {
      left = sends.left ∙ ap left_of some;
      size = (λ i. size (sends.first i) (sends.last i)) ∙ size-weight l (entries.last_begun q t) is.least most ∙ sym is.flits;
      more = is.more;
      least = is.least;
      most = most;
    }

goes-sends : (q : Profile) (t T : List SenderEntry) (under : Part) (flit : List ℕ) (w : Direction) → Sends q t w → GoesOn q t T under flit → w.left ≡ under.flits - length under.sent → Sends q T (happens w goes_on)
goes-sends q t T under flit w sends new left = record {
  first = sends.first ∙ sym new.weights;
  acked = sends.acked ∙ sym new.acked;
  last = sends.last ∙ sym new.last;
  left = sym (ap left_of new.unfinished ∙ grown-left under flit ∙ (omega arith));
  clears = sends.clears ∙ sym new.clears;
}

weights-length : (l m : List Place) → map weight l ≡ map weight m → length l ≡ length m
weights-length l m e = sym (length-map l weight) ∙ ap (λ ps. length ps) e ∙ length-map m weight

goes-parts : (q : Profile) (t T : List SenderEntry) (under : Part) (flit : List ℕ) → PartsFit q t → entries.unfinished t ≡ Some under → GoesOn q t T under flit → entries.last_begun q t ≤ length (entries.places q t) → PartsFit q T
goes-parts q t T under flit parts some new most v e =
    let is = parts under some in
    let l = entries.places q t in
    let m = entries.places q T in
    let n = entries.last_begun q t in
    let len = weights-length m l new.weights in
    let flits : flits_at (place_at l n) ≡ flits_at (place_at m n) = sym (size-weight l n is.least most) ∙ ap (λ ps. size ps n) (sym new.weights) ∙ size-weight m n is.least (omega arith) in
    let before = part-grows l n under flit is v (sym new.unfinished ∙ e) in
    subst (λ (j : ℕ). IsPart m j v) (sym new.last) (record { least = before.least; flits = before.flits ∙ flits; more = before.more })

pub goes-done : (q : Profile) (s : Sent (grammar q)) (retry adv : ℕ) (t T : List SenderEntry) (given : Given) (own oth : Half) (under : Part) (p : PacketFields) → Env q s retry adv t given own oth → entries.unfinished t ≡ Some under →
    AllFit q (entries.places q T) → Fits q (place_at (entries.places q T) (entries.last_begun q t)) p → AreNumbered q (entries.places q T) → GoesOn q t T under (flit_of q p given.own.rrp (length under.sent)) → Done q s retry adv T goes_on (flit_of q p given.own.rrp (length under.sent)) own oth
goes-done q s retry adv t T given own oth under p env some fit fits numbers new =
    let l = entries.places q T in
    let n = entries.last_begun q t in
    let w = own.direction in
    let g = going-at q retry t under w env.sends env.chosen env.parts some in
    let len = weights-length l (entries.places q t) new.weights in
    let least = g.least in
    let most = g.most in
    let more = g.more in
    let left = g.left in
    let sized = g.size in
    let pf : flits_of p ≡ under.flits = fits.flits ∙ sym (size-weight l n least (omega arith)) ∙ (λ i. size (new.weights i) n) ∙ (λ i. size (sym env.sends.first i) (sym env.sends.last i)) ∙ sized in
    let numbered : IsNumbered q w.first n p = subst (λ ps. IsNumbered q ps n p) (new.weights ∙ sym env.sends.first) (numbered-at q l n p numbers least (omega arith) fits) in
    let flit = flit_of q p given.own.rrp (length under.sent) in
    record {
      whole = packet-flit q p given.own.rrp (length under.sent) fits.packet (omega arith);
      adds = refl;
      may = omega arith;
      mark = λ agree.
          let a = agrees-packet q s l (entries.unfinished T) n p agree least (omega arith) fits.known in
          let k : length under.sent ≡ size w.first w.last - w.left = omega arith in
          let item : part n (length under.sent) (w.left - 1) ≡ item_of w goes_on = λ i. part (sym env.sends.last i) (k i) (w.left - 1) in
          subst (λ (y : Item). Mark (grammar q) s w.first oth.direction.first y oth.direction.accepted flit) item
          (mark-part q s w.first oth.direction.first n (length under.sent) (w.left - 1) oth.direction.accepted given.own.rrp p numbered a.0 a.1 (omega arith) env.below env.rrp);
      sends = goes-sends q t T under flit w env.sends new left;
      parts = goes-parts q t T under flit env.parts some new most;
      fit = fit;
    }

at-end : (l : List (List ℕ)) (x : List ℕ) → get_or (l ++ x ∷ []) (length l) [] ≡ x
at-end [] x = refl
at-end (y ∷ l) x = at-end l x

-- a flit of a packet that is passed on, before its last
pub goes-open : (q : Profile) (s : Sent (grammar q)) (retry adv : ℕ) (t T : List SenderEntry) (given : Given) (own oth : Half) (under : Part) (flit : List ℕ) → Env q s retry adv t given own oth → entries.unfinished t ≡ Some under →
    entries.places q T ≡ entries.places q t → packet_of (place_at (entries.places q t) (entries.last_begun q t)) ≡ None → 1 < under.flits - length under.sent → entries.unfinished T ≡ Some (record under { sent = under.sent ++ flit ∷ [] }) →
    (length under.sent ≡ 0 → lng_of flit ≡ under.flits) → GoesOn q t T under flit → IsFlit flit → Done q s retry adv T goes_on flit own oth
goes-open q s retry adv t T given own oth under flit env some first none long grown_is lng new whole =
    let l = entries.places q t in
    let n = entries.last_begun q t in
    let w = own.direction in
    let g = going-at q retry t under w env.sends env.chosen env.parts some in
    let least = g.least in
    let most = g.most in
    let more = g.more in
    let left = g.left in
    let sized = g.size in
    record {
      whole = whole;
      adds = refl;
      may = omega arith;
      mark = λ agree.
          let a = subst (λ (j : List Place). Agrees q s j (entries.unfinished T)) first agree n least most in
          let len = length-append under.sent (flit ∷ []) in
          let front : s.front n (length under.sent) ≡ flit = a.sent none (record under { sent = under.sent ++ flit ∷ [] }) grown_is (length under.sent) (omega arith) ∙ at-end under.sent flit in
          let k : length under.sent ≡ size w.first w.last - w.left = omega arith in
          let m : suc (w.left - 2) ≡ w.left - 1 = omega arith in
          let item : part n (length under.sent) (suc (w.left - 2)) ≡ item_of w goes_on = λ i. part (sym env.sends.last i) (k i) (m i) in
          let sized_n : size w.first n ≡ under.flits = (λ i. size w.first (sym env.sends.last i)) ∙ sized in
          subst (λ (y : Item). Mark (grammar q) s w.first oth.direction.first y oth.direction.accepted flit) item
          (mark-open q s w.first oth.direction.first n (length under.sent) (w.left - 2) oth.direction.accepted flit (sym front) (λ z. (lng z ∙ sym sized_n, omega arith)));
      sends = goes-sends q t T under flit w env.sends new left;
      parts = goes-parts q t T under flit env.parts some new most;
      fit = subst (AllFit q) (sym first) env.fit;
    }
