-- An end that begins to forward a packet.
use Rattle.std.proofs.Common.{◌≡◌, ◌∙◌, ◌≤◌, ◌+◌, ◌-◌, ℕ, Bool, true, false, not, ◌&&◌, List, [], ◌∷◌, ◌++◌, length, drop, Option, Some, None, Bor, refl, sym, ap, subst, arith, Fits, w32, leb-true}
use Rattle.std.specs.Prelude.{◌==◌, nat_le, slice_get, is_none, is_some, option_map}
use Rattle.std.proofs.lemmas.Bool.{and_parts, eqb-true, and_from}
use Rattle.std.proofs.Math.Nat.{sub-add-eq}
use Rattle.hmc_codes.specs.Link.{LinkFields}
use Rattle.hmc_codes.specs.declared.profile.Profile.{Profile}
use Rattle.hmc_packet.specs.declared.feed.Feed.TheVariants.{Waiting}
use Rattle.hmc_packet.specs.declared.head.Head.{Head}
use Rattle.hmc_packet.specs.declared.kind.Kind.{Kind}
use Rattle.hmc_packet.specs.declared.view.Mode.{Mode}
use Rattle.hmc_packet.specs.declared.view.Mode.TheVariants as mode
use Rattle.hmc_packet.specs.declared.view.View.{View}
use Rattle.hmc_packet.specs.Head.{head_in}
use Rattle.hmc_packet.specs.Landings.{accepted, receiver_view}
use Rattle.hmc_packet.specs.Packet.{PacketFields}
use Rattle.hmc_send.specs.Choice.{view_after, is_free, is_train, irtry_due}
use Rattle.hmc_send.specs.Entries.{SenderEntry, Given, places, taken_fronts, room}
use Rattle.hmc_send.specs.Given.{given_only, good_view, account_through}
use Rattle.hmc_send.specs.Kept.{IsHead}
use Rattle.hmc_send.specs.LinkCalls.{may_pass_on, names_flits}
use Rattle.hmc_send.specs.LinkTokens.{flits_begun, flits_accepted, flits_taken, tokens_returned, tokens_credited}
use Rattle.hmc_send.specs.Places.{Place, numbers_after, pointer_of, number_of}
use Rattle.hmc_send.specs.Sender.{view_held, room_held, after_through}
use Rattle.hmc_send.specs.StandsFor.{StandsFor}
use Rattle.hmc_send.specs.declared.state.State.{State}
use Rattle.hmc_send.proofs.CallLemmas.{room-same}
use Rattle.hmc_send.proofs.Views.{view-same}
use Rattle.hmc_tokens.specs.Account.{tokens_of_code, code_for}
use Rattle.hmc_tokens.specs.declared.account.Account.{Account}
use Rattle.hmc_ends.specs.End.{EndFields, own_view, is_ready}
use Rattle.hmc_ends.specs.Parts.{EndParts, due_of, send_given, view_by, parts_through}
use Rattle.hmc_ends.specs.StandsFor.{EndStandsFor, CanForward}
use Rattle.hmc_ends.proofs.Fed.{begun-push, returned-push}
use Rattle.hmc_ends.proofs.PartLaws.{PartLaws, part_laws}
use Rattle.hmc_ends.proofs.Lists.{taken-then-added}

-- ---- whether it may

free-own : (q : Profile) (retry : ℕ) (t : List SenderEntry) (given : Given) → is_free (view_after q retry t (given_only given.own)) ≡ is_free (view_after q retry t given)
unfolding view_after
free-own q retry t given = refl

may-is : (q : Profile) (retry : ℕ) (t : List SenderEntry) (given : Given) (flits : ℕ) → may_pass_on (view_after q retry t given) flits ≡ ((is_none given.front && is_free (view_after q retry t given)) && (nat_le flits given.held && nat_le flits (room q retry t)))
unfolding view_after
may-is q retry t given flits = refl

pub ready-is : (link : LinkFields) (e : EndFields) (p : EndParts) (own : View) (flits : ℕ) (a b c d r : Bool) → EndStandsFor link e p → own ≡ receiver_view link.profile p.received → a ≡ is_none (slice_get e.queue 0) →
    b ≡ is_free (view_after e.sender.retry.profile e.sender.retry.flits p.sender (given_only own)) → c ≡ nat_le flits e.account.held → d ≡ nat_le flits (room e.sender.retry.profile e.sender.retry.flits p.sender) → r ≡ ((a && b) && (c && d)) →
    r ≡ may_pass_on (view_by link p Waiting) flits
ready-is link e p own flits a b c d r s own_is a_is b_is c_is d_is r_is =
    let given = send_given link p Waiting in
    let front : a ≡ is_none given.front = a_is ∙ ap (λ (l : List PacketFields). is_none (slice_get l 0)) s.queue in
    let free : b ≡ is_free (view_by link p Waiting) = b_is ∙ (λ i. is_free (view_after (s.profile i) (s.retry i) p.sender (given_only (own_is i)))) ∙ free-own link.profile link.retry p.sender given in
    let held : c ≡ nat_le flits given.held = c_is ∙ ap (nat_le flits) s.held in
    let rooms : d ≡ nat_le flits (room link.profile link.retry p.sender) = d_is ∙ (λ i. nat_le flits (room (s.profile i) (s.retry i) p.sender)) in
    r_is ∙ (λ i. (front i && free i) && (held i && rooms i)) ∙ sym (may-is link.profile link.retry p.sender given flits)

-- what an end holds says the same, whatever list it stands for
pub ready-held : (link : LinkFields) (e : EndFields) (p : EndParts) (flits : ℕ) → EndStandsFor link e p → is_ready e flits ≡ may_pass_on (view_by link p Waiting) flits
ready-held link e p flits s =
    let own : own_view e ≡ receiver_view link.profile p.received = λ i. record { mode = s.receiver.mode i; rrp = s.receiver.frp i } in
    ready-is link e p (own_view e) flits _ _ _ _ (is_ready e flits) s own refl
    (ap is_free (view-same e.sender p.sender (given_only (own_view e)) s.sender)) refl
    (ap (nat_le flits) (room-same e.sender p.sender s.sender)) refl

-- ---- what the sender asks

pub named-head : (flits : ℕ) (head : List ℕ) (o : Option Head) → head_in head ≡ o → names_flits flits o ≡ true → (2 ≤ flits) × IsHead head flits
named-head flits head None is named = absurd cc
named-head flits head (Some h) is named =
    let both = and_parts (nat_le 2 flits) (h.flits == flits) named in
    (leb-true 2 flits both.0, record { head = h; reads = is; length = eqb-true h.flits flits both.1 })

calm-good : (burst : Option Kind) (m : Mode) (go_back may_start : Bool) → is_none (irtry_due burst m go_back may_start) ≡ true → is_none (irtry_due burst mode.Good go_back may_start) ≡ true
calm-good (Some kind) m go_back may_start is = absurd cc
calm-good None m true may_start is = absurd cc
calm-good None m false may_start is = refl

free-good : (held : State) (own : View) → is_free (view_held held (given_only own)) ≡ true → is_free (view_held held (given_only good_view)) ≡ true
free-good held own free =
    let s = view_held held (given_only own) in
    let last = and_parts (s.is_open && not (is_train own.mode) && is_none s.under_way && is_none (irtry_due s.burst own.mode s.go_back s.may_start)) (is_none s.again) free in
    let calm = and_parts (s.is_open && not (is_train own.mode) && is_none s.under_way) (is_none (irtry_due s.burst own.mode s.go_back s.may_start)) last.0 in
    let none = and_parts (s.is_open && not (is_train own.mode)) (is_none s.under_way) calm.0 in
    let opened = and_parts s.is_open (not (is_train own.mode)) none.0 in
    and_from _ (is_none s.again) (and_from _ (is_none (irtry_due s.burst mode.Good s.go_back s.may_start)) (and_from _ (is_none s.under_way) (and_from s.is_open true opened.0 refl) none.1) (calm-good s.burst own.mode s.go_back s.may_start calm.1)) last.1

pub record MayBegin (e : EndFields) (head : List ℕ) (flits : ℕ) : Type 0 where
  pub free : is_free (view_held e.sender (given_only good_view)) ≡ true
  pub held : flits ≤ e.account.held
  pub room : flits ≤ room_held e.sender
  pub some : 2 ≤ flits
  pub is_head : IsHead head flits
  pub few : e.transit + flits ≤ 2048

pub may-begin : (e : EndFields) (head : List ℕ) (flits : ℕ) → CanForward e head flits → MayBegin e head flits
may-begin e head flits can =
    let free = is_free (view_held e.sender (given_only (own_view e))) in
    let parts = and_parts (is_none (slice_get e.queue 0) && free) (nat_le flits e.account.held && nat_le flits (room_held e.sender)) can.ready in
    let front = and_parts (is_none (slice_get e.queue 0)) free parts.0 in
    let tokens = and_parts (nat_le flits e.account.held) (nat_le flits (room_held e.sender)) parts.1 in
    let names = named-head flits head (head_in head) refl can.named in
    let held = leb-true flits e.account.held tokens.0 in
    let laws = part_laws can.link can.d can.past can.kept in
    let a = laws.few_transit in
    let b = laws.few_held in
    let most = can.sizes.tokens in
    let transit = can.stands.transit in
    let has = can.stands.held in
    record {
      free = free-good e.sender (own_view e) front.1;
      held = held;
      room = leb-true flits (room_held e.sender) tokens.1;
      some = names.0;
      is_head = names.1;
      few = omega arith;
    }

-- ---- an end after it

place-through : (q : Profile) (t : List SenderEntry) (head : List ℕ) (flits due : ℕ) → places q (SenderEntry.through head flits due ∷ t) ≡ places q t ++ Place.awaited head flits (numbers_after q (pointer_of q (places q t)) (number_of (places q t)) flits (code_for due)) ∷ []
unfolding places
place-through q t head flits due = refl

fronts-through : (t : List SenderEntry) (head : List ℕ) (flits due : ℕ) → taken_fronts (SenderEntry.through head flits due ∷ t) ≡ taken_fronts t
unfolding taken_fronts
fronts-through t head flits due = refl

pub stands-through : (link : LinkFields) (e : EndFields) (p : EndParts) (head : List ℕ) (flits n : ℕ) (s : State) (a : Account) → EndStandsFor link e p → PartLaws link p → n ≡ flits → s ≡ after_through head flits e.account.due e.sender → StandsFor s (SenderEntry.through head flits e.account.due ∷ p.sender) →
    a ≡ account_through flits e.account → EndStandsFor link (record e { sender = s; account = a; transit = e.transit + n }) (parts_through link head flits p)
stands-through link e p head flits n s a is laws n_is left stands account =
    let q = link.profile in
    let t = p.sender in
    let placed = place-through q t head flits (due_of link p) in
    let x = Place.awaited head flits (numbers_after q (pointer_of q (places q t)) (number_of (places q t)) flits (code_for (due_of link p))) in
    let begun : flits_begun (places q (SenderEntry.through head flits (due_of link p) ∷ t)) ≡ flits_begun (places q t) + flits = ap flits_begun placed ∙ begun-push (places q t) x in
    let returned : tokens_returned (places q (SenderEntry.through head flits (due_of link p) ∷ t)) ≡ tokens_returned (places q t) + tokens_of_code (code_for (due_of link p)) = ap tokens_returned placed ∙ returned-push (places q t) x in
    let fronts = fronts-through t head flits (due_of link p) in
    let credited = tokens_credited (accepted q p.received) in
    let all = link.tokens + flits_taken p.takes (accepted q p.received) in
    record {
      setup = is.setup;
      own = ap (λ (y : State). y.profile) left ∙ is.own;
      profile = ap (λ (y : State). y.retry.profile) left ∙ is.profile;
      retry = ap (λ (y : State). y.retry.flits) left ∙ is.retry;
      sender = subst (λ (n : ℕ). StandsFor s (SenderEntry.through head flits n ∷ t)) is.due stands;
      queue = is.queue ∙ ap (λ (n : ℕ). drop n p.handed) (sym fronts);
      line = is.line;
      transit = (λ i. is.transit i + n_is i) ∙ taken-then-added (flits_begun (places q t)) (flits_accepted (accepted q p.landed)) flits laws.transit ∙ ap (λ (n : ℕ). n - flits_accepted (accepted q p.landed)) (sym begun);
      receiver = is.receiver;
      changed = is.changed;
      buffer = is.buffer;
      held = ap (λ (y : Account). y.held) account ∙ ap (λ (n : ℕ). n - flits) is.held ∙ sym (sub-add-eq credited (flits_begun (places q t)) flits) ∙ ap (λ (n : ℕ). credited - n) (sym begun);
      due = ap (λ (y : Account). y.due) account ∙ ap (λ (n : ℕ). n - tokens_of_code (code_for n)) is.due ∙ sym (sub-add-eq all (tokens_returned (places q t)) (tokens_of_code (code_for (due_of link p)))) ∙ ap (λ (n : ℕ). all - n) (sym returned);
      begun = subst (λ (n : ℕ). n ≤ length p.handed) (sym fronts) is.begun;
      crossed = is.crossed;
      taken = is.taken;
    }

pub sum-fits : (a b : ℕ) → a + b ≤ 2048 → Fits w32 (a + b)
sum-fits a b few = omega arith

pub none-by : (r : Bool) (o : Option (Bor PacketFields)) → not r ≡ is_some o → r ≡ is_none (option_map (λ (p : Bor PacketFields). p.now) o)
none-by true None is = refl
none-by true (Some p) is = absurd cc
none-by false None is = absurd cc
none-by false (Some p) is = refl
