-- An end after a send.
use Rattle.std.proofs.Common.{◌≡◌, ◌∙◌, ◌≤◌, ◌+◌, ◌-◌, ℕ, List, [], ◌∷◌, ◌++◌, length, drop, map, Option, Some, None, refl, sym, ap, subst, arith, length-append}
use Rattle.std.specs.Prelude.{All, slice_get}
use Rattle.std.proofs.Math.Nat.{sub-add-eq}
use Rattle.std.proofs.lemmas.List.{map_push}
use Rattle.hmc_codes.specs.Link.{LinkFields}
use Rattle.hmc_codes.specs.declared.profile.Profile.{Profile}
use Rattle.hmc_packet.specs.declared.feed.Feed.{Feed}
use Rattle.hmc_packet.specs.declared.feed.Feed.TheVariants.{Waiting, Whole, Last}
use Rattle.hmc_packet.specs.declared.view.View.{View}
use Rattle.hmc_packet.specs.declared.what.What.{What}
use Rattle.hmc_packet.specs.declared.what.What.TheVariants as what
use Rattle.hmc_packet.specs.Landings.{accepted, receiver_view}
use Rattle.hmc_packet.specs.Packet.{PacketFields}
use Rattle.hmc_retry.specs.RetryBuffer.{RetryFields}
use Rattle.hmc_send.specs.Entries.{SenderEntry, Given, UnderWay, places, taken_fronts, under_way}
use Rattle.hmc_send.specs.Given.{IsTaken, IsFrontFit, given_of, account_after, fronts_taken}
use Rattle.hmc_send.specs.LinkLines.{StampedFlit}
use Rattle.hmc_send.specs.LinkTokens.{flits_begun, flits_accepted, flits_taken, tokens_returned, tokens_credited}
use Rattle.hmc_send.specs.Places.{Place}
use Rattle.hmc_send.specs.Sender.{after_send, after_sent, after_new, after_again, retry_fed}
use Rattle.hmc_send.specs.StandsFor.{StandsFor}
use Rattle.hmc_send.specs.declared.sent.Sent.{Sent}
use Rattle.hmc_send.specs.declared.sent.Sent.TheVariants.{Out, Starved}
use Rattle.hmc_send.specs.declared.state.State.{State}
use Rattle.hmc_tokens.specs.declared.account.Account.{Account}
use Rattle.hmc_ends.specs.End.{EndFields}
use Rattle.hmc_ends.specs.Parts.{EndParts, flits_under_way, send_given, parts_sent}
use Rattle.hmc_ends.specs.StandsFor.{EndStandsFor}
use Rattle.hmc_ends.proofs.Lists.{drop-push, drop-add, front-longer}
use Rattle.hmc_ends.proofs.Moves.{Moves}
use Rattle.hmc_ends.proofs.PartLaws.{PartLaws}

-- ---- what a sender keeps

record SameSizes (g h : State) : Type 0 where
  own : g.profile ≡ h.profile
  profile : g.retry.profile ≡ h.retry.profile
  flits : g.retry.flits ≡ h.retry.flits

fed-same : (q : Profile) (sent : List (List ℕ)) (feed : Feed) (place : Place) (r : RetryFields) → ((retry_fed q sent feed place r).profile ≡ r.profile) × ((retry_fed q sent feed place r).flits ≡ r.flits)
fed-same q sent feed (Place.known packet) r = (refl, refl)
fed-same q sent Waiting (Place.awaited head flits n) r = (refl, refl)
fed-same q sent (Whole flit) (Place.awaited head flits n) r = (refl, refl)
fed-same q sent (Last half slid errstat good) (Place.awaited head flits n) r = (refl, refl)

new-same : (given : Given) (flit : List ℕ) (u : Option UnderWay) (h : State) → SameSizes (after_new given flit u h) h
new-same given flit None h = record { own = refl; profile = refl; flits = refl }
new-same given flit (Some begun) h =
    let same = fed-same h.retry.profile begun.part.sent given.feed begun.place h.retry in
    record { own = refl; profile = same.0; flits = same.1 }

again-same : (flit : List ℕ) (u : Option UnderWay) (h : State) → SameSizes (after_again flit u h) h
again-same flit None h = record { own = refl; profile = refl; flits = refl }
again-same flit (Some begun) h = record { own = refl; profile = refl; flits = refl }

sent-same : (given : Given) (as_what : What) (flit : List ℕ) (h : State) → SameSizes (after_sent given as_what flit h) h
sent-same given what.New flit h = let s = new-same given flit h.under_way h in record { own = s.own; profile = s.profile; flits = s.flits }
sent-same given what.Again flit h = let s = again-same flit h.under_way h in record { own = s.own; profile = s.profile; flits = s.flits }
sent-same given what.Tret flit h = record { own = refl; profile = refl; flits = refl }
sent-same given what.Clear flit h = record { own = refl; profile = refl; flits = refl }
sent-same given what.Start flit h = record { own = refl; profile = refl; flits = refl }
sent-same given what.Train flit h = record { own = refl; profile = refl; flits = refl }
sent-same given what.Null flit h = record { own = refl; profile = refl; flits = refl }
sent-same given what.Pret flit h = record { own = refl; profile = refl; flits = refl }

-- ---- what a send needs

pub front-fit : (q : Profile) (l : List PacketFields) → All (IsTaken q) l → IsFrontFit q (slice_get l 0)
front-fit q [] all = tt
front-fit q (x ∷ l) all = all 0 x (omega arith)

pub held-less : (u : Option UnderWay) (front : Option PacketFields) (x : Sent) (a : Account) → (account_after u front x a).held ≤ a.held
held-less (Some begun) front x a = omega arith
held-less None front Starved a = omega arith
held-less None front (Out flit what.New) a = omega arith
held-less None front (Out flit what.Tret) a = omega arith
held-less None front (Out flit what.Again) a = omega arith
held-less None front (Out flit what.Clear) a = omega arith
held-less None front (Out flit what.Start) a = omega arith
held-less None front (Out flit what.Train) a = omega arith
held-less None front (Out flit what.Null) a = omega arith
held-less None front (Out flit what.Pret) a = omega arith

-- what the sender is given is what the definition says
pub given-is : (link : LinkFields) (e : EndFields) (p : EndParts) (own : View) (feed : Feed) → EndStandsFor link e p → own ≡ receiver_view link.profile p.received → given_of own e.queue e.account feed ≡ send_given link p feed
given-is link e p own feed s is = λ i. record {
  own = is i;
  front = slice_get (s.queue i) 0;
  held = s.held i;
  due = s.due i;
  feed = feed;
}

-- ---- an end after a flit

transit-more : (b a held spent : ℕ) → a ≤ b → spent ≤ held → (b - a) + (held - (held - spent)) ≡ (b + spent) - a
transit-more b a held spent le few = omega arith

begun-more : (front : Option PacketFields) (l : List PacketFields) (n fronts : ℕ) → slice_get (drop n l) 0 ≡ front → n ≤ length l → (front ≡ None → fronts ≡ 0) → fronts ≤ 1 → fronts + n ≤ length l
begun-more None l n fronts is le some one = let z = some refl in omega arith
begun-more (Some x) l n fronts is le some one = let lt = front-longer n l x is in omega arith

abbrev pub after_flit : EndFields → State → (flit : List ℕ) → What → EndFields
after_flit e s flit as_what = record e {
  queue = drop (fronts_taken e.sender.under_way (Out flit as_what)) e.queue;
  sender = s;
  account = account_after e.sender.under_way (slice_get e.queue 0) (Out flit as_what) e.account;
  line = e.line ++ flit ∷ [];
  transit = e.transit + (e.account.held - (account_after e.sender.under_way (slice_get e.queue 0) (Out flit as_what) e.account).held);
}

pub stands-sent : (link : LinkFields) (e : EndFields) (p : EndParts) (feed : Feed) (s : State) (flit : List ℕ) (as_what : What) → EndStandsFor link e p → PartLaws link p → Moves link.profile p.sender (send_given link p feed) e.account as_what flit →
    s ≡ after_send (send_given link p feed) (Out flit as_what) e.sender → StandsFor s (SenderEntry.sent (send_given link p feed) as_what flit ∷ p.sender) →
    EndStandsFor link (after_flit e s flit as_what) (parts_sent link feed as_what flit p)
stands-sent link e p feed s flit as_what is laws moves left stands =
    let q = link.profile in
    let given = send_given link p feed in
    let t = p.sender in
    let same = sent-same given as_what flit e.sender in
    let under : e.sender.under_way ≡ under_way q t = is.sender.begun ∙ ap (λ (r : Profile). under_way r t) is.profile in
    let front : slice_get e.queue 0 ≡ given.front = ap (λ (l : List PacketFields). slice_get l 0) is.queue in
    let account = account_after e.sender.under_way (slice_get e.queue 0) (Out flit as_what) e.account in
    let account_is : account ≡ account_after (under_way q t) given.front (Out flit as_what) e.account = λ i. account_after (under i) (front i) (Out flit as_what) e.account in
    let drawn : fronts_taken e.sender.under_way (Out flit as_what) ≡ moves.fronts = ap (λ (u : Option UnderWay). fronts_taken u (Out flit as_what)) under ∙ moves.drawn in
    let begun = flits_begun (places q t) in
    let credited = tokens_credited (accepted q p.received) in
    let spent = moves.spent in
    let few : spent ≤ e.account.held = subst (λ (n : ℕ). spent ≤ n) (sym is.held) moves.few in
    let held : account.held ≡ e.account.held - spent = ap (λ (a : Account). a.held) account_is ∙ moves.held in
    let due : account.due ≡ e.account.due - moves.back = ap (λ (a : Account). a.due) account_is ∙ moves.due in
    let all = link.tokens + flits_taken p.takes (accepted q p.received) in
    let crossed = is.crossed in
    record {
      setup = is.setup;
      own = ap (λ (x : State). x.profile) left ∙ same.own ∙ is.own;
      profile = ap (λ (x : State). x.retry.profile) left ∙ same.profile ∙ is.profile;
      retry = ap (λ (x : State). x.retry.flits) left ∙ same.flits ∙ is.retry;
      sender = stands;
      queue = (λ i. drop (drawn i) (is.queue i)) ∙ drop-add moves.fronts (taken_fronts t) p.handed ∙ ap (λ (n : ℕ). drop n p.handed) (sym moves.taken);
      line = ap (λ (l : List (List ℕ)). l ++ flit ∷ []) is.line ∙ sym (map_push (λ (x : StampedFlit). x.flit) (flits_under_way p) _)
          ∙ ap (map (λ (x : StampedFlit). x.flit)) (sym (drop-push p.landings p.flits _ is.crossed));
      transit = (λ i. is.transit i + (e.account.held - held i)) ∙ transit-more begun (flits_accepted (accepted q p.landed)) e.account.held spent laws.transit few
          ∙ ap (λ (n : ℕ). n - flits_accepted (accepted q p.landed)) (sym moves.begun);
      receiver = is.receiver;
      changed = is.changed;
      buffer = is.buffer;
      held = held ∙ ap (λ (n : ℕ). n - spent) is.held ∙ sym (sub-add-eq credited begun spent) ∙ ap (λ (n : ℕ). credited - n) (sym moves.begun);
      due = due ∙ ap (λ (n : ℕ). n - moves.back) is.due ∙ sym (sub-add-eq all (tokens_returned (places q t)) moves.back) ∙ ap (λ (n : ℕ). all - n) (sym moves.returned);
      begun = subst (λ (n : ℕ). n ≤ length p.handed) (sym moves.taken) (begun-more given.front p.handed (taken_fronts t) moves.fronts refl is.begun moves.some moves.one);
      crossed = (let k = length-append p.flits (record { flit = flit; stamp = length (accepted q p.received) } ∷ []) in omega arith);
      taken = is.taken;
    }
