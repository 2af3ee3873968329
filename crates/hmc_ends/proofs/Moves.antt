-- What a send moves: fronts of the queue, and tokens.
use Rattle.std.proofs.Common.{◌≡◌, ◌∙◌, ◌≤◌, ◌+◌, ◌-◌, ℕ, Bool, true, false, not, List, ◌∷◌, Option, Some, None, refl, sym, ap, subst, arith, leb-true}
use Rattle.std.specs.Prelude.{nat_le, if◌then◌else◌, is_none}
use Rattle.std.proofs.Math.Nat.{sub-zero}
use Rattle.hmc_codes.specs.Table.{table_line}
use Rattle.hmc_codes.specs.declared.profile.Profile.{Profile}
use Rattle.hmc_packet.specs.declared.kind.Kind.{Kind}
use Rattle.hmc_packet.specs.declared.kind.Kind.TheVariants as kind
use Rattle.hmc_packet.specs.declared.what.What.{What}
use Rattle.hmc_packet.specs.declared.what.What.TheVariants as what
use Rattle.hmc_packet.specs.Packet.{PacketFields, flits_of}
use Rattle.hmc_tokens.specs.Account.{tokens_of_code, code_for}
use Rattle.hmc_tokens.specs.declared.account.Account.{Account}
use Rattle.hmc_send.specs.Choice.{SendView, choice, view_after, what_of}
use Rattle.hmc_send.specs.Entries as entries
use Rattle.hmc_send.specs.Entries.{SenderEntry, Given, Part, UnderWay, with_place, under_way, unfinished, taken_fronts, or_null, with_packet, places_with}
use Rattle.hmc_send.specs.Given.{IsTaken, IsFrontFit, account_after, account_first, fronts_taken}
use Rattle.hmc_send.specs.IsSender.{IsFed}
use Rattle.hmc_send.specs.LinkTokens.{flits_begun, tokens_returned}
use Rattle.hmc_send.specs.Places.{Place, takes_tokens, is_token, tret_packet, next_packet, pointer_of, number_of, place_at}
use Rattle.hmc_send.specs.declared.sent.Sent.{Sent}
use Rattle.hmc_send.specs.declared.sent.Sent.TheVariants.{Out, Starved}
use Rattle.hmc_send.proofs.Cases.{Case, case_of}
use Rattle.hmc_wire.specs.Conditions.{IsFeed}
use Rattle.hmc_ends.proofs.Fed.{SenderIs, begun-push, returned-push, fed-same}
use Rattle.hmc_wire.proofs.SenderLists.{none-under}
use Rattle.hmc_numbers.specs.Tokens.{if_token}

-- what a send of a flit moves
pub record Moves (q : Profile) (t : List SenderEntry) (given : Given) (account : Account) (as_what : What) (flit : List ℕ) : Type 0 where
  pub spent : ℕ
  pub back : ℕ
  pub fronts : ℕ
  pub begun : flits_begun (entries.places q (SenderEntry.sent given as_what flit ∷ t)) ≡ flits_begun (entries.places q t) + spent
  pub returned : tokens_returned (entries.places q (SenderEntry.sent given as_what flit ∷ t)) ≡ tokens_returned (entries.places q t) + back
  pub taken : taken_fronts (SenderEntry.sent given as_what flit ∷ t) ≡ fronts + taken_fronts t
  pub drawn : fronts_taken (under_way q t) (Out flit as_what) ≡ fronts
  pub held : (account_after (under_way q t) given.front (Out flit as_what) account).held ≡ account.held - spent
  pub due : (account_after (under_way q t) given.front (Out flit as_what) account).due ≡ account.due - back
  pub few : spent ≤ given.held
  pub some : given.front ≡ None → fronts ≡ 0
  pub one : fronts ≤ 1

-- ---- nothing

abbrev pub is_quiet : What → Bool
is_quiet what.New = false
is_quiet what.Tret = false
is_quiet _ = true

drawn-quiet : (u : Option UnderWay) (w : What) (flit : List ℕ) → is_quiet w ≡ true → fronts_taken u (Out flit w) ≡ 0
drawn-quiet (Some begun) w flit is = refl
drawn-quiet None what.Train flit is = refl
drawn-quiet None what.Clear flit is = refl
drawn-quiet None what.Start flit is = refl
drawn-quiet None what.Null flit is = refl
drawn-quiet None what.Pret flit is = refl
drawn-quiet None what.Again flit is = refl
drawn-quiet None what.Tret flit is = absurd cc
drawn-quiet None what.New flit is = absurd cc

account-quiet : (u : Option UnderWay) (w : What) (front : Option PacketFields) (flit : List ℕ) (account : Account) → is_quiet w ≡ true → account_after u front (Out flit w) account ≡ account
account-quiet (Some begun) w front flit account is = refl
account-quiet None what.Train front flit account is = refl
account-quiet None what.Clear front flit account is = refl
account-quiet None what.Start front flit account is = refl
account-quiet None what.Null front flit account is = refl
account-quiet None what.Pret front flit account is = refl
account-quiet None what.Again front flit account is = refl
account-quiet None what.Tret front flit account is = absurd cc
account-quiet None what.New front flit account is = absurd cc

pub places-quiet : (q : Profile) (t : List SenderEntry) (given : Given) (w : What) (flit : List ℕ) → is_quiet w ≡ true → entries.places q (SenderEntry.sent given w flit ∷ t) ≡ entries.places q t
unfolding entries.places
places-quiet q t given what.Train flit is = refl
places-quiet q t given what.Clear flit is = refl
places-quiet q t given what.Start flit is = refl
places-quiet q t given what.Null flit is = refl
places-quiet q t given what.Pret flit is = refl
places-quiet q t given what.Again flit is = refl
places-quiet q t given what.Tret flit is = absurd cc
places-quiet q t given what.New flit is = absurd cc

taken-quiet : (t : List SenderEntry) (given : Given) (w : What) (flit : List ℕ) → is_quiet w ≡ true → taken_fronts (SenderEntry.sent given w flit ∷ t) ≡ taken_fronts t
unfolding taken_fronts
taken-quiet t given what.Train flit is = refl
taken-quiet t given what.Clear flit is = refl
taken-quiet t given what.Start flit is = refl
taken-quiet t given what.Null flit is = refl
taken-quiet t given what.Pret flit is = refl
taken-quiet t given what.Again flit is = refl
taken-quiet t given what.Tret flit is = absurd cc
taken-quiet t given what.New flit is = absurd cc

more-none : (n : ℕ) → n ≡ n + 0
more-none n = omega arith

none-more : (n : ℕ) → n ≡ 0 + n
none-more n = omega arith

pub moves-quiet : (q : Profile) (t : List SenderEntry) (given : Given) (account : Account) (w : What) (flit : List ℕ) → is_quiet w ≡ true → Moves q t given account w flit
moves-quiet q t given account w flit is =
    let same = account-quiet (under_way q t) w given.front flit account is in
    record {
      spent = 0;
      back = 0;
      fronts = 0;
      begun = ap flits_begun (places-quiet q t given w flit is) ∙ more-none (flits_begun (entries.places q t));
      returned = ap tokens_returned (places-quiet q t given w flit is) ∙ more-none (tokens_returned (entries.places q t));
      taken = taken-quiet t given w flit is ∙ none-more (taken_fronts t);
      drawn = drawn-quiet (under_way q t) w flit is;
      held = ap (λ (a : Account). a.held) same ∙ sym (sub-zero account.held);
      due = ap (λ (a : Account). a.due) same ∙ sym (sub-zero account.due);
      few = omega arith;
      some = λ none. refl;
      one = omega arith;
    }

-- ---- a front

some-under : (place : Place) (u : Option Part) (begun : UnderWay) → with_place place u ≡ Some begun → u ≡ Some begun.part
some-under place None begun is = absurd cc
some-under place (Some part) begun is = let e : record { part = part; place = place } ≡ begun = cc in ap (λ (x : UnderWay). Some x.part) e

taken-new : (t : List SenderEntry) (given : Given) (flit : List ℕ) → unfinished t ≡ None → taken_fronts (SenderEntry.sent given what.New flit ∷ t) ≡ 1 + taken_fronts t
unfolding taken_fronts
taken-new t given flit nothing = ap (λ (u : Option Part). (if is_none u then 1 else 0) + taken_fronts t) nothing

taken-on : (t : List SenderEntry) (given : Given) (flit : List ℕ) (part : Part) → unfinished t ≡ Some part → taken_fronts (SenderEntry.sent given what.New flit ∷ t) ≡ 0 + taken_fronts t
unfolding taken_fronts
taken-on t given flit part some = ap (λ (u : Option Part). (if is_none u then 1 else 0) + taken_fronts t) some

pub place-new : (q : Profile) (t : List SenderEntry) (given : Given) (flit : List ℕ) → unfinished t ≡ None → entries.places q (SenderEntry.sent given what.New flit ∷ t) ≡ with_packet q given.due (or_null given.front) (entries.places q t)
unfolding entries.places
place-new q t given flit nothing = ap (λ (u : Option Part). places_with q u given (entries.places q t)) nothing

pub moves-front : (q : Profile) (t : List SenderEntry) (given : Given) (account : Account) (flit : List ℕ) (packet : PacketFields) → under_way q t ≡ None → given.front ≡ Some packet → IsFrontFit q given.front → nat_le (flits_of packet) given.held ≡ true →
    given.due ≡ account.due → Moves q t given account what.New flit
moves-front q t given account flit packet nothing front fit held same =
    let l = entries.places q t in
    let none = none-under (place_at l (entries.last_begun q t)) (unfinished t) nothing in
    let places = place-new q t given flit none in
    let is : or_null given.front ≡ packet = ap or_null front in
    let taken : IsTaken q packet = subst (IsFrontFit q) front fit in
    let token : is_token packet ≡ true = ap not taken.token in
    let next = next_packet q (pointer_of q l) (number_of l) (code_for given.due) (or_null given.front) in
    let left : account_after (under_way q t) given.front (Out flit what.New) account ≡ account_first given.front (Out flit what.New) account = ap (λ (u : Option UnderWay). account_after u given.front (Out flit what.New) account) nothing in
    record {
      spent = flits_of packet;
      back = tokens_of_code (code_for given.due);
      fronts = 1;
      begun = ap flits_begun places ∙ begun-push l (Place.known next) ∙ ap (λ (p : PacketFields). flits_begun l + if_token (is_token p) (flits_of p)) is ∙ ap (λ (b : Bool). flits_begun l + if_token b (flits_of packet)) token;
      returned = ap tokens_returned places ∙ returned-push l (Place.known next);
      taken = taken-new t given flit none;
      drawn = ap (λ (u : Option UnderWay). fronts_taken u (Out flit what.New)) nothing;
      held = ap (λ (a : Account). a.held) left ∙ ap (λ (p : PacketFields). account.held - flits_of p) is;
      due = ap (λ (a : Account). a.due) left ∙ ap (λ (n : ℕ). account.due - tokens_of_code (code_for n)) (sym same);
      few = leb-true (flits_of packet) given.held held;
      some = λ none. absurd (let clash : None ≡ Some packet = sym none ∙ front in cc);
      one = omega arith;
    }

-- ---- tokens alone

pub tret-flow : (q : Profile) (pointer number rtc : ℕ) → takes_tokens (Place.known (next_packet q pointer number rtc tret_packet)) ≡ false
unfolding table_line
tret-flow q pointer number rtc = refl

pub place-tret : (q : Profile) (t : List SenderEntry) (given : Given) (flit : List ℕ) → entries.places q (SenderEntry.sent given what.Tret flit ∷ t) ≡ with_packet q given.due tret_packet (entries.places q t)
unfolding entries.places
place-tret q t given flit = refl

taken-tret : (t : List SenderEntry) (given : Given) (flit : List ℕ) → taken_fronts (SenderEntry.sent given what.Tret flit ∷ t) ≡ taken_fronts t
unfolding taken_fronts
taken-tret t given flit = refl

pub moves-tret : (q : Profile) (t : List SenderEntry) (given : Given) (account : Account) (flit : List ℕ) → under_way q t ≡ None → given.due ≡ account.due → Moves q t given account what.Tret flit
moves-tret q t given account flit nothing same =
    let l = entries.places q t in
    let places = place-tret q t given flit in
    let next = next_packet q (pointer_of q l) (number_of l) (code_for given.due) tret_packet in
    let left : account_after (under_way q t) given.front (Out flit what.Tret) account ≡ account_first given.front (Out flit what.Tret) account = ap (λ (u : Option UnderWay). account_after u given.front (Out flit what.Tret) account) nothing in
    record {
      spent = 0;
      back = tokens_of_code (code_for given.due);
      fronts = 0;
      begun = ap flits_begun places ∙ begun-push l (Place.known next) ∙ ap (λ (b : Bool). flits_begun l + if_token b (flits_of next)) (tret-flow q (pointer_of q l) (number_of l) (code_for given.due));
      returned = ap tokens_returned places ∙ returned-push l (Place.known next);
      taken = taken-tret t given flit ∙ none-more (taken_fronts t);
      drawn = ap (λ (u : Option UnderWay). fronts_taken u (Out flit what.Tret)) nothing;
      held = ap (λ (a : Account). a.held) left ∙ sym (sub-zero account.held);
      due = ap (λ (a : Account). a.due) left ∙ ap (λ (n : ℕ). account.due - tokens_of_code (code_for n)) (sym same);
      few = omega arith;
      some = λ none. refl;
      one = omega arith;
    }

-- ---- the packet under way

pub moves-on : (q : Profile) (retry : ℕ) (t : List SenderEntry) (given : Given) (account : Account) (flit : List ℕ) (begun : UnderWay) → SenderIs q retry t → IsFed (under_way q t) given.feed → IsFeed given.feed → under_way q t ≡ Some begun → Moves q t given account what.New flit
moves-on q retry t given account flit begun is fed feed some =
    let l = entries.places q t in
    let part = some-under (place_at l (entries.last_begun q t)) (unfinished t) begun some in
    let same = fed-same q retry t given flit begun.part is.chosen is.fed is.fit fed feed part in
    record {
      spent = 0;
      back = 0;
      fronts = 0;
      begun = same.begun ∙ more-none (flits_begun l);
      returned = same.returned ∙ more-none (tokens_returned l);
      taken = taken-on t given flit begun.part part;
      drawn = ap (λ (u : Option UnderWay). fronts_taken u (Out flit what.New)) some;
      held = ap (λ (u : Option UnderWay). (account_after u given.front (Out flit what.New) account).held) some ∙ sym (sub-zero account.held);
      due = ap (λ (u : Option UnderWay). (account_after u given.front (Out flit what.New) account).due) some ∙ sym (sub-zero account.due);
      few = omega arith;
      some = λ none. refl;
      one = omega arith;
    }

moves-part : (q : Profile) (retry : ℕ) (t : List SenderEntry) (given : Given) (account : Account) (flit : List ℕ) (begun : UnderWay) (again : Bool) → SenderIs q retry t → IsFed (under_way q t) given.feed → IsFeed given.feed → under_way q t ≡ Some begun → Moves q t given account (if again then what.Again else what.New) flit
moves-part q retry t given account flit begun true is fed feed some = moves-quiet q t given account what.Again flit refl
moves-part q retry t given account flit begun false is fed feed some = moves-on q retry t given account flit begun is fed feed some

quiet-irtry : (k : Kind) → is_quiet (what_of k) ≡ true
quiet-irtry kind.Clear = refl
quiet-irtry kind.Start = refl

-- ---- each send

abbrev MovesAs : Profile → List SenderEntry → Given → Account → Sent → Type 0
MovesAs q t given account Starved = Unit {0}
MovesAs q t given account (Out flit as_what) = Moves q t given account as_what flit

by-case : (q : Profile) (retry : ℕ) (t : List SenderEntry) (given : Given) (account : Account) → SenderIs q retry t → IsFed (under_way q t) given.feed → IsFeed given.feed → IsFrontFit q given.front → given.due ≡ account.due →
    (s : SendView) → s.given ≡ given → s.under_way ≡ under_way q t → (x : Sent) → Case q s x → MovesAs q t given account x
by-case q retry t given account is fed feed fit due s same under _ (Case.trains train) = moves-quiet q t given account what.Train _ refl
by-case q retry t given account is fed feed fit due s same under _ (Case.goes_on trained begun some flit next) = moves-part q retry t given account flit begun begun.part.again is fed feed (sym under ∙ some)
by-case q retry t given account is fed feed fit due s same under _ (Case.starves trained begun some next) = tt
by-case q retry t given account is fed feed fit due s same under _ (Case.steers trained nothing kind some) = moves-quiet q t given account (what_of kind) _ (quiet-irtry kind)
by-case q retry t given account is fed feed fit due s same under _ (Case.repeats between place some) = moves-quiet q t given account what.Again _ refl
by-case q retry t given account is fed feed fit due s same under _ (Case.begins free can) =
    let front : given.front ≡ Some can.packet = ap (λ (g : Given). g.front) (sym same) ∙ can.front in
    let held : nat_le (flits_of can.packet) given.held ≡ true = ap (λ (g : Given). nat_le (flits_of can.packet) g.held) (sym same) ∙ can.held in
    moves-front q t given account _ can.packet (sym under ∙ free.between.nothing) front fit held due
by-case q retry t given account is fed feed fit due s same under _ (Case.returns free opened may) = moves-tret q t given account _ (sym under ∙ free.between.nothing) due
by-case q retry t given account is fed feed fit due s same under _ (Case.points free shown) = moves-quiet q t given account what.Pret _ refl
by-case q retry t given account is fed feed fit due s same under _ (Case.idles free shown) = moves-quiet q t given account what.Null _ refl

pub moves-of : (q : Profile) (retry : ℕ) (t : List SenderEntry) (given : Given) (account : Account) (flit : List ℕ) (as_what : What) → SenderIs q retry t → IsFed (under_way q t) given.feed → IsFeed given.feed → IsFrontFit q given.front → given.due ≡ account.due →
    choice q (view_after q retry t given) ≡ Out flit as_what → Moves q t given account as_what flit
unfolding view_after
moves-of q retry t given account flit as_what is fed feed fit due chosen =
    subst (MovesAs q t given account) chosen (by-case q retry t given account is fed feed fit due (view_after q retry t given) refl refl (choice q (view_after q retry t given)) (case_of q (view_after q retry t given)))
