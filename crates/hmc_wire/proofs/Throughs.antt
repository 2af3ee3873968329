-- A packet that is begun before its flits are there may be begun, and gives the numbers of its
-- entry. Used by Joins and Others.
use Rattle.std.proofs.Common.{◌≡◌, ◌∙◌, ◌≤◌, ◌+◌, inr, ℕ, suc, Bool, true, false, List, [], ◌∷◌, ◌++◌, length, Option, Some, None, refl, sym, ap, subst, arith, leb-true}
use Rattle.std.specs.Prelude.{◌&&◌, nat_le, not, is_none}
use Rattle.std.proofs.lemmas.Bool.{and_parts, not-true}
use Rattle.std.proofs.lemmas.List.{map_push}
use Rattle.std.proofs.lemmas.Option.{same_Some}
use Rattle.hmc_codes.proofs.General.{mod_small}
use Rattle.hmc_codes.specs.declared.profile.Profile.{Profile}
use Rattle.hmc_packet.specs.declared.kind.Kind.{Kind}
use Rattle.hmc_packet.specs.Head.{head_in}
use Rattle.hmc_packet.proofs.CommandLemmas.{allows_few}
use Rattle.hmc_send.specs.Choice.{SendView, view_after, is_train, irtry_of, is_free, may_begin}
use Rattle.hmc_send.specs.Entries as entries
use Rattle.hmc_send.specs.Entries.{SenderEntry, Given, Part, are_bursts}
use Rattle.hmc_send.specs.LinkCalls.{may_pass_on, names_flits}
use Rattle.hmc_send.specs.Places.{Place, flits_at, pointer_of, place_at}
use Rattle.hmc_send.proofs.CopyLemmas.{head-says}
use Rattle.hmc_send.proofs.Lists.{place-push}
use Rattle.hmc_send.proofs.CallLemmas.{none-of, place-none}
use Rattle.hmc_send.proofs.KeptLemmas.{code-few}
use Rattle.hmc_numbers.specs.Direction.{Direction}
use Rattle.hmc_numbers.specs.Events.{happens}
use Rattle.hmc_numbers.specs.Events.Event.{begins_through}
use Rattle.hmc_numbers.specs.Pair.{Half}
use Rattle.hmc_numbers.specs.Turns.{MayHere}
use Rattle.hmc_numbers.specs.Weights.{Weight}
use Rattle.hmc_wire.proofs.Filled.{heads}
use Rattle.hmc_wire.proofs.PacketGrammar.{grammar}
use Rattle.hmc_wire.proofs.Parts.{Sends, IsPart, PartsFit, rtc-le}
use Rattle.hmc_wire.proofs.Places.{AllFit, fit-push}
use Rattle.hmc_wire.proofs.SenderLists.{Chosen, none-under, calm-bursts}
use Rattle.hmc_wire.proofs.Senders.{Env, begun-length, free-at, room-at}
use Rattle.hmc_wire.proofs.Spelled.{Sent}
use Rattle.hmc_wire.specs.EntryTurns.{through_place}
use Rattle.hmc_wire.specs.EntryTurns.{weight}

pub record Through (q : Profile) (retry : ℕ) (T : List SenderEntry) (x : Weight) (w : Direction) : Type 0 where
  pub sends : Sends q T (happens w (begins_through x))
  pub chosen : Chosen q retry T
  pub parts : PartsFit q T
  pub fit : AllFit q (entries.places q T)

-- what a sender has that may begin a cut-through of so many flits
pub record Ready (s : SendView) (flits : ℕ) : Type 0 where
  pub trained : is_train s.given.own.mode ≡ false
  pub nothing : s.under_way ≡ None
  pub calm : irtry_of s ≡ None
  pub again : s.again ≡ None
  pub held : flits ≤ s.given.held
  pub room : flits ≤ s.room

none-kind : (o : Option Kind) → is_none o ≡ true → o ≡ None
none-kind None e = refl
none-kind (Some x) e = absurd cc

-- five tests that hold
record Five (a b c d e : Bool) : Type 0 where
  second : b ≡ true
  third : c ≡ true
  fourth : d ≡ true
  fifth : e ≡ true

five : (a b c d e : Bool) → (a && b && c && d && e) ≡ true → Five a b c d e
five true true true true true is = record { second = refl; third = refl; fourth = refl; fifth = refl }
five false b c d e is = absurd (let clash : false ≡ true = is in cc)
five true false c d e is = absurd (let clash : false ≡ true = is in cc)
five true true false d e is = absurd (let clash : false ≡ true = is in cc)
five true true true false e is = absurd (let clash : false ≡ true = is in cc)
five true true true true false is = absurd (let clash : false ≡ true = is in cc)

three : (a b c : Bool) → (a && b && c) ≡ true → (b ≡ true) × (c ≡ true)
three true true true is = (refl, refl)
three false b c is = absurd (let clash : false ≡ true = is in cc)
three true false c is = absurd (let clash : false ≡ true = is in cc)
three true true false is = absurd (let clash : false ≡ true = is in cc)

pub ready-is : (s : SendView) (flits : ℕ) → may_pass_on s flits ≡ true → Ready s flits
ready-is s flits is =
    let f = three (is_none s.given.front) (is_free s) (may_begin s flits) is in
    let g = five s.is_open (not (is_train s.given.own.mode)) (is_none s.under_way) (is_none (irtry_of s)) (is_none s.again) f.0 in
    let h = and_parts (nat_le flits s.given.held) (nat_le flits s.room) f.1 in
    record {
      trained = not-true (is_train s.given.own.mode) g.second;
      nothing = none-of s.under_way g.third;
      calm = none-kind (irtry_of s) g.fourth;
      again = place-none s.again g.fifth;
      held = leb-true flits s.given.held h.0;
      room = leb-true flits s.room h.1;
    }

pub record Begun (q : Profile) (retry adv : ℕ) (t : List SenderEntry) (head : List ℕ) (flits due : ℕ) (own oth : Half) : Type 0 where
  pub may : MayHere retry adv own oth (begins_through (weight (through_place q due head flits (entries.places q t))))
  pub through : Through q retry (SenderEntry.through head flits due ∷ t) (weight (through_place q due head flits (entries.places q t))) own.direction

few-flits : (flits : ℕ) (head : List ℕ) → names_flits flits (head_in head) ≡ true → flits ≤ 17
few-flits flits head is =
    let h = heads flits head is in
    let says = head-says head h.head (sym h.reads) in
    let few = (allows_few h.head.command h.head.flits says.allowed).1 in
    let long = h.long in
    omega arith

-- what the list is after a cut-through is begun
through-list : (q : Profile) (s : Sent (grammar q)) (retry adv : ℕ) (t : List SenderEntry) (given : Given) (own oth : Half) (head : List ℕ) (flits : ℕ) → Env q s retry adv t given own oth →
    entries.unfinished t ≡ None → (are_bursts (entries.clears t) ≡ true) × (are_bursts (entries.starts t) ≡ true) → names_flits flits (head_in head) ≡ true →
    Through q retry (SenderEntry.through head flits given.due ∷ t) (weight (through_place q given.due head flits (entries.places q t))) own.direction
unfolding Chosen entries.places entries.acked entries.last_begun entries.unfinished entries.clears
through-list q s retry adv t given own oth head flits env nothing bursts named =
    let l = entries.places q t in
    let x = through_place q given.due head flits l in
    let long = (heads flits head named).some in
    let few = few-flits flits head named in
    let b = begun-length q t own.direction env.sends in
    let begun : Part = record { again = false; flits = flits; sent = [] } in
    record {
      sends = record {
        first = ap (λ k. k ++ weight x ∷ []) env.sends.first ∙ sym (map_push weight l x);
        acked = env.sends.acked;
        last = omega arith;
        left = omega arith;
        clears = env.sends.clears;
      };
      chosen = (nothing, bursts.0, bursts.1, env.chosen, named);
      parts = λ p is.
          subst (λ (u : Part). IsPart (l ++ x ∷ []) (suc (length l)) u) (same_Some begun p is)
          (record { least = omega arith; flits = ap (λ (y : Place). flits_at y) (sym (place-push l x)); more = omega arith });
      fit = fit-push q l x env.fit (inr (record { none = refl; token = refl; some = long; few = few; frp = mod_small q (pointer_of q l + flits); seq = omega arith; rtc = code-few given.due; head = named }));
    }

pub through-done : (q : Profile) (s : Sent (grammar q)) (retry adv : ℕ) (t : List SenderEntry) (given : Given) (own oth : Half) (head : List ℕ) (flits : ℕ) → Env q s retry adv t given own oth → may_pass_on (view_after q retry t given) flits ≡ true → names_flits flits (head_in head) ≡ true →
    Begun q retry adv t head flits given.due own oth
unfolding view_after
through-done q s retry adv t given own oth head flits env ready named =
    let l = entries.places q t in
    let x = through_place q given.due head flits l in
    let r = ready-is (view_after q retry t given) flits ready in
    let nothing = none-under (place_at l (entries.last_begun q t)) (entries.unfinished t) r.nothing in
    let bursts = calm-bursts (entries.clears t) (entries.starts t) given.own.mode _ _ r.calm in
    let long = (heads flits head named).some in
    let few = few-flits flits head named in
    let held_le = r.held in
    let held = env.held in
    let due = env.due in
    let h = env.joined.held in
    let d = env.back.due in
    let back = rtc-le given.due in
    record {
      may = (env.ready r.trained, (free-at q s retry adv t given own oth env nothing bursts.0 r.again, (omega arith, omega arith), room-at q retry t own.direction x env.sends (omega arith) r.room), (omega arith, omega arith));
      through = through-list q s retry adv t given own oth head flits env nothing bursts named;
    }
