-- What the laws of the two directions give a send, a landing and a taken packet. Used by Joins.
use Rattle.std.proofs.Common.{◌≡◌, ◌≢◌, ◌∙◌, ◌≤◌, ◌+◌, ◌-◌, ◌%◌, inl, inr, ℕ, zero, suc, Bool, true, false, cond, List, [], ◌∷◌, length, drop, get_or, map, Option, Some, refl, sym, ap, subst, arith}
use Rattle.std.specs.Prelude.{◌&&◌, ◌||◌, slice_get, sum_by, replicate, bit_xor, filter}
use Rattle.std.specs.Str.{bytes_eq}
use Rattle.std.proofs.lemmas.Slice.Eq.{bytes_eq-Decides}
use Rattle.std.proofs.lemmas.List.Sums.{sum_by_push, sum_by-cons, sum_by-take-le}
use Rattle.std.proofs.lemmas.Bool.{not-false}
use Rattle.hmc_codes.proofs.General.{mod_small}
use Rattle.hmc_codes.specs.Flit.{zero_flit, IsFlit}
use Rattle.hmc_codes.specs.Profile.{modulus_of}
use Rattle.hmc_codes.specs.declared.profile.Profile.{Profile}
use Rattle.hmc_packet.specs.declared.feed.Feed.{Feed}
use Rattle.hmc_packet.specs.declared.view.Mode as outer_mode
use Rattle.hmc_packet.specs.declared.view.Mode.TheVariants.{Train, Abort, Good}
use Rattle.hmc_packet.specs.Landings as receipts
use Rattle.hmc_packet.specs.Packet.{PacketFields, flits_of, null_packet}
use Rattle.hmc_packet.specs.Receptions.{reception_of}
use Rattle.hmc_packet.proofs.PacketLemmas.{flits_of-few}
use Rattle.hmc_tokens.specs.Account.{tokens_of_code}
use Rattle.hmc_send.specs.Choice.{is_train}
use Rattle.hmc_send.specs.Entries as turns
use Rattle.hmc_send.specs.Entries.{Given, SenderEntry, Part}
use Rattle.hmc_packet.specs.Masks.{changes, under_mask}
use Rattle.hmc_send.specs.LinkLines.{StampedFlit}
use Rattle.hmc_send.specs.LinkTokens.{flits_begun, flits_accepted, flits_taken, tokens_returned, tokens_credited, tokens_held, tokens_due}
use Rattle.hmc_send.specs.Places.{Place, flits_at, numbers_at, takes_tokens, is_token, place_at}
use Rattle.hmc_numbers.specs.Weights.{Weight, upto, flits_to}
use Rattle.hmc_numbers.specs.Direction.{Direction, Reached, Reached as far, begun}
use Rattle.hmc_numbers.specs.Tokens.{if_token, cost, cost_begun, tokens_begun, tokens_accepted, used_tokens}
use Rattle.hmc_numbers.proofs.Sums.{upto-none}
use Rattle.hmc_wire.specs.Conditions.{AreFed}
use Rattle.hmc_wire.proofs.GrammarLandings.{Mode, Mode as modes}
use Rattle.hmc_wire.proofs.GrammarLandings as inner
use Rattle.hmc_wire.proofs.Spelled.{Sent}
use Rattle.hmc_wire.proofs.Matches.{IsAt, packets_to}
use Rattle.hmc_wire.proofs.Actions.{SideOf, MayLand}
use Rattle.hmc_wire.proofs.ActionLaw.{Linked}
use Rattle.hmc_wire.proofs.PacketGrammar.{grammar}
use Rattle.hmc_wire.proofs.Words.{mode_as}
use Rattle.hmc_wire.specs.EntryTurns.{weight}
use Rattle.hmc_wire.proofs.NumberedPlaces.{first-numbered}
use Rattle.hmc_wire.proofs.OpenPlaces.{open-place}
use Rattle.hmc_wire.proofs.Places.{FitOr, AllFit, Weighs, fit-at, upto-step, upto-all, AgreesAt, Agrees, AgreesWith}
use Rattle.hmc_wire.proofs.Parts.{Sends}
use Rattle.hmc_wire.proofs.Mirrors.{mirrored, flits-same}
use Rattle.hmc_wire.proofs.Senders.{Env, begun-length}
use Rattle.hmc_wire.proofs.Choices.{IsGood}
use Rattle.hmc_wire.proofs.Flits.{flits-left}
use Rattle.hmc_wire.proofs.Ways.{Lists, Way, AllGood, front-drop}

-- Modes

train-is : (m : outer_mode.Mode) → is_train m ≡ true → mode_as m ≡ modes.training
train-is Train e = refl
train-is Abort e = absurd (let clash : false ≡ true = e in cc)
train-is Good e = absurd (let clash : false ≡ true = e in cc)

train-not : (m : outer_mode.Mode) → is_train m ≡ false → mode_as m ≢ modes.training
train-not Train e = absurd (let clash : true ≡ false = e in cc)
train-not Abort e = λ q. cc q
train-not Good e = λ q. cc q

abort_training : (m : Mode) → m ≡ modes.abort → m ≡ modes.training → ⊥
abort_training m e f = let clash : modes.abort ≡ modes.training = sym e ∙ f in cc clash

good_training : (m : Mode) → m ≡ modes.good → m ≡ modes.training → ⊥
good_training m e f = let clash : modes.good ≡ modes.training = sym e ∙ f in cc clash

far-training : (q : Profile) (s : Sent (grammar q)) (ps : List Weight) (x : Reached) (m : Mode) (b : Bool) (fs : List (List ℕ)) → IsAt (grammar q) s ps x m b fs → m ≡ modes.training → x ≡ far.training
far-training q s ps far.training m b fs at e = refl
far-training q s ps far.aborting m b fs at e = absurd (abort_training m at.0 e)
far-training q s ps far.between m b fs at e = absurd (good_training m at.0 e)
far-training q s ps (far.inside n k) m b fs at e = absurd (good_training m at.0 e)
far-training q s ps far.spoilt m b fs at e = absurd (good_training m at.0 e)

far-is : (q : Profile) (s : Sent (grammar q)) (ps : List Weight) (x : Reached) (m : Mode) (b : Bool) (fs : List (List ℕ)) → IsAt (grammar q) s ps x m b fs → x ≡ far.training → m ≡ modes.training
far-is q s ps far.training m b fs at e = at.0
far-is q s ps far.aborting m b fs at e = absurd (cc e)
far-is q s ps far.between m b fs at e = absurd (cc e)
far-is q s ps (far.inside n k) m b fs at e = absurd (cc e)
far-is q s ps far.spoilt m b fs at e = absurd (cc e)

-- Sums over the accepted packets are sums over the places

weighs-at : (q : Profile) (s : Sent (grammar q)) (n : ℕ) (x : Place) (u : Option Part) → AgreesAt q s n x u → FitOr q x → (1 ≤ flits_at x) × (Weighs x (s.packet n))
weighs-at q s n x u a fit = elim fit [
  | inl h ↦
      let few = flits_of-few h.packet h.fits.packet in let f = h.fits.flits in
      (omega arith, subst (Weighs x) (sym (a.packet h.packet h.fits.known)) (record { flits = λ some. h.fits.flits; token = h.fits.token; rtc = h.fits.rtc }))
  | inr o ↦ let some = o.some in (omega arith, a.weighs o.none)
]

pub sum-to : (q : Profile) (s : Sent (grammar q)) (l : List Place) (u : Option Part) (f : PacketFields → ℕ) (g : Weight → ℕ) → AllFit q l → Agrees q s l u → ((x : Place) (p : PacketFields) → 1 ≤ flits_at x → Weighs x p → f p ≡ g (weight x)) → (n : ℕ) → n ≤ length l →
    sum_by f (packets_to s.packet n) ≡ upto g (map weight l) n
sum-to q s l u f g fit agree same zero le = sym (upto-none g (map weight l))
sum-to q s l u f g fit agree same (suc n) le =
    let k : suc n - 1 ≡ n = omega arith in
    let at : place_at l (suc n) ≡ get_or l n (Place.known null_packet) = λ i. get_or l (k i) (Place.known null_packet) in
    let a = subst (λ (x : Place). AgreesAt q s (suc n) x u) at (agree (suc n) (omega arith) le) in
    let w = weighs-at q s (suc n) (get_or l n (Place.known null_packet)) u a (fit-at q l n (omega arith) fit) in
    sum_by_push f (packets_to s.packet n) (s.packet (suc n))
    ∙ (λ i. sum-to q s l u f g fit agree same n (omega arith) i + same (get_or l n (Place.known null_packet)) (s.packet (suc n)) w.0 w.1 i)
    ∙ sym (upto-step g l n (omega arith))

-- the accepted packets are those of the first places
pub accepted-is : (q : Profile) (retry adv : ℕ) (mine : Lists q) (s : Sent (grammar q)) (own oth : SideOf (grammar q)) → Way q retry mine own → Linked (grammar q) s retry adv own oth →
    receipts.accepted q mine.receiver ≡ packets_to s.packet own.half.direction.accepted
accepted-is q retry adv mine s own oth is linked = is.mirrors.accepted ∙ ap (inner.accepted_in (grammar q)) (sym is.received) ∙ linked.matches.packets

pub accepted-count : (q : Profile) (retry adv : ℕ) (mine : Lists q) (s : Sent (grammar q)) (own oth : SideOf (grammar q)) → Way q retry mine own → Linked (grammar q) s retry adv own oth →
    length (receipts.accepted q mine.receiver) ≡ own.half.direction.accepted
accepted-count q retry adv mine s own oth is linked = ap (λ (ps : List PacketFields). length ps) (is.mirrors.accepted ∙ ap (inner.accepted_in (grammar q)) (sym is.received)) ∙ linked.matches.count

pub accepted-sum : (q : Profile) (retry adv : ℕ) (mine : Lists q) (s : Sent (grammar q)) (own oth : SideOf (grammar q)) (f : PacketFields → ℕ) (g : Weight → ℕ) →
    Way q retry mine own → Linked (grammar q) s retry adv own oth → AgreesWith q s mine.sender → ((x : Place) (p : PacketFields) → 1 ≤ flits_at x → Weighs x p → f p ≡ g (weight x)) →
    sum_by f (receipts.accepted q mine.receiver) ≡ upto g own.half.direction.first own.half.direction.accepted
accepted-sum q retry adv mine s own oth f g is linked agree same =
    let b = begun-length q mine.sender own.half.direction is.sends in
    let a = linked.joined.order.accepted in
    ap (sum_by f) (accepted-is q retry adv mine s own oth is linked)
    ∙ sum-to q s (turns.places q mine.sender) (turns.unfinished mine.sender) f g is.fit agree same own.half.direction.accepted (omega arith)
    ∙ ap (λ ps. upto g ps own.half.direction.accepted) (sym is.sends.first)

pub returns-fit : (x : Place) (p : PacketFields) → 1 ≤ flits_at x → Weighs x p → tokens_of_code p.rtc ≡ tokens_of_code (numbers_at x).rtc
returns-fit x p some fits = ap tokens_of_code fits.rtc

pub credited-is : (q : Profile) (retry adv : ℕ) (mine : Lists q) (s : Sent (grammar q)) (own oth : SideOf (grammar q)) → Way q retry mine own → Linked (grammar q) s retry adv own oth → AgreesWith q s mine.sender →
    tokens_credited (receipts.accepted q mine.receiver) ≡ tokens_accepted own.half.direction
credited-is q retry adv mine s own oth is linked agree = accepted-sum q retry adv mine s own oth (λ p. tokens_of_code p.rtc) (λ x. x.returns) is linked agree returns-fit

-- Sums over those that take tokens

kept-sum : {X : Type 0} (f : X → ℕ) (b : Bool) (x : X) (l : List X) → sum_by f (cond b (x ∷ l) l) ≡ if_token b (f x) + sum_by f l
kept-sum f true x l = sum_by-cons f x l
kept-sum f false x l = omega arith

filter-sum : {X : Type 0} (p : X → Bool) (f : X → ℕ) (l : List X) → sum_by f (filter p l) ≡ sum_by (λ (x : X). if_token (p x) (f x)) l
filter-sum p f [] = refl
filter-sum {X = X} p f (x ∷ l) =
    kept-sum f (p x) x (filter p l)
    ∙ ap (λ (n : ℕ). if_token (p x) (f x) + n) (filter-sum p f l)
    ∙ sym (sum_by-cons (λ (y : X). if_token (p y) (f y)) x l)

pub cost-fit : (x : Place) (p : PacketFields) → 1 ≤ flits_at x → Weighs x p → if_token (is_token p) (flits_of p) ≡ cost (weight x)
cost-fit x p some fits = λ i. if_token (fits.token i) (fits.flits some i)

pub taken-is : (q : Profile) (retry adv : ℕ) (mine : Lists q) (s : Sent (grammar q)) (own oth : SideOf (grammar q)) → Way q retry mine own → Linked (grammar q) s retry adv own oth → AgreesWith q s mine.sender →
    flits_accepted (receipts.accepted q mine.receiver) ≡ upto cost own.half.direction.first own.half.direction.accepted
taken-is q retry adv mine s own oth is linked agree = filter-sum is_token flits_of (receipts.accepted q mine.receiver) ∙ accepted-sum q retry adv mine s own oth (λ p. if_token (is_token p) (flits_of p)) cost is linked agree cost-fit

begun-sum : (q : Profile) (t : List SenderEntry) (w : Direction) (g : Weight → ℕ) → Sends q t w → upto g w.first (begun w) ≡ upto g (map weight (turns.places q t)) (length (turns.places q t))
begun-sum q t w g sends = λ i. upto g (sends.first i) (begun-length q t w sends i)

pub spent-is : (q : Profile) (t : List SenderEntry) (w : Direction) → Sends q t w → flits_begun (turns.places q t) ≡ cost_begun w
spent-is q t w sends = filter-sum takes_tokens flits_at (turns.places q t) ∙ sym (upto-all cost (turns.places q t)) ∙ sym (begun-sum q t w cost sends)

pub returned-is : (q : Profile) (t : List SenderEntry) (w : Direction) → Sends q t w → tokens_returned (turns.places q t) ≡ tokens_begun w
returned-is q t w sends = sym (upto-all (λ x. x.returns) (turns.places q t)) ∙ sym (begun-sum q t w (λ x. x.returns) sends)

-- What a send is given

abbrev pub given_by : (q : Profile) → (adv : ℕ) → (mine theirs : Lists q) → Feed → Given
given_by q adv mine theirs feed = record {
  own = record { mode = receipts.mode theirs.receiver; rrp = receipts.pointer_of q theirs.receiver };
  front = slice_get (drop (turns.taken_fronts mine.sender) mine.handed) 0;
  held = tokens_held (turns.places q mine.sender) (receipts.accepted q theirs.receiver);
  due = tokens_due adv (flits_taken theirs.taken (receipts.accepted q theirs.receiver)) (turns.places q mine.sender);
  feed = feed;
}

pub env-of : (q : Profile) (retry adv : ℕ) (mine theirs : Lists q) (s s' : Sent (grammar q)) (own oth : SideOf (grammar q)) (feed : Feed) →
    Way q retry mine own → Way q retry theirs oth → Linked (grammar q) s retry adv own oth → Linked (grammar q) s' retry adv oth own → AgreesWith q s' theirs.sender → AreFed q mine.sender →
    Env q s retry adv mine.sender (given_by q adv mine theirs feed) own.half oth.half
env-of q retry adv mine theirs s s' own oth feed is other linked back agree fed =
    let mode : mode_as (receipts.mode theirs.receiver) ≡ inner.mode (grammar q) oth.received = other.mirrors.mode ∙ ap (inner.mode (grammar q)) (sym other.received) in
    let place = back.matches.place in
    let flits : receipts.flits_in (receipts.accepted q theirs.receiver) ≡ flits_to oth.half.direction.first oth.half.direction.accepted =
    ap receipts.flits_in (other.mirrors.accepted ∙ ap (inner.accepted_in (grammar q)) (sym other.received)) ∙ flits-same q (inner.accepted_in (grammar q) oth.received) ∙ back.matches.flits in
    let credited = credited-is q retry adv theirs s' oth own other back agree in
    let spent = spent-is q mine.sender own.half.direction is.sends in
    let returned = returned-is q mine.sender own.half.direction is.sends in
    let m = other.moved in
    record {
      sends = is.sends;
      chosen = is.chosen;
      parts = is.parts;
      fit = is.fit;
      numbered = first-numbered q retry mine.sender is.chosen fed;
      places = open-place q retry mine.sender is.chosen fed;
      joined = linked.joined;
      back = back.joined;
      train = λ e. far-training q s' oth.half.direction.first oth.half.direction.far (inner.mode (grammar q) oth.received) (inner.is_spoilt (grammar q) oth.received) (inner.pending (grammar q) oth.received) place (sym mode ∙ train-is (receipts.mode theirs.receiver) e);
      ready = λ e f. train-not (receipts.mode theirs.receiver) e (mode ∙ far-is q s' oth.half.direction.first oth.half.direction.far (inner.mode (grammar q) oth.received) (inner.is_spoilt (grammar q) oth.received) (inner.pending (grammar q) oth.received) place f);
      rrp = ap (λ (n : ℕ). n % modulus_of q) flits;
      below = mod_small q (receipts.flits_in (receipts.accepted q theirs.receiver));
      held = λ i. credited i - spent i;
      due = λ i. adv + sym m i - returned i;
    }

-- A landing

xor-zero : (b : ℕ) → bit_xor 0 b ≡ b
xor-zero b = refl

unchanged-by : (n : ℕ) (flit : List ℕ) → length flit ≤ n → under_mask (replicate n 0) flit ≡ flit
unchanged-by zero [] le = refl
unchanged-by zero (b ∷ flit) le = absurd (omega arith)
unchanged-by (suc n) [] le = refl
unchanged-by (suc n) (b ∷ flit) le = λ i. xor-zero b i ∷ unchanged-by n flit (omega arith) i

pub unchanged : (mask flit : List ℕ) → IsFlit flit → changes mask ≡ false → under_mask mask flit ≡ flit
unfolding zero_flit
unchanged mask flit whole is =
    let same : mask ≡ zero_flit = (bytes_eq-Decides mask zero_flit).0 (not-false (bytes_eq mask zero_flit) is) in
    ap (λ (m : List ℕ). under_mask m flit) same ∙ unchanged-by 16 flit (let long = whole.long in omega arith)

-- where a check succeeds nothing that it covers is changed
caught-by : (checked pending here : Bool) → (checked && (pending || here)) ≡ false → (here || pending) ≡ true → checked ≡ false
caught-by false pending here is so = refl
caught-by true true here is so = absurd (let clash : true ≡ false = is in cc)
caught-by true false true is so = absurd (let clash : true ≡ false = is in cc)
caught-by true false false is so = absurd (let clash : false ≡ true = so in cc)

pub may-land : (q : Profile) (retry : ℕ) (mine : Lists q) (own : SideOf (grammar q)) (mask flit : List ℕ) (front : StampedFlit) → Way q retry mine own →
    slice_get (drop mine.landed mine.sent) 0 ≡ Some front → flit ≡ under_mask mask front.flit → ((reception_of q mine.receiver flit).checked && (mine.changed || changes mask)) ≡ false → MayLand (grammar q) own (changes mask) flit
may-land q retry mine own mask flit front is at masked caught =
    let said = mirrored q mine.receiver mine.landings flit is.mirrors in
    record {
      sent = front.flit;
      others = map (λ (x : StampedFlit). x.flit) (drop (suc mine.landed) mine.sent);
      line = is.flits ∙ ap (map (λ (x : StampedFlit). x.flit)) (front-drop mine.sent mine.landed front at);
      same = λ e. masked ∙ unchanged mask front.flit (flits-left mine.sent mine.landed 0 front is.whole at) e;
      sound = λ e.
          (λ i. inner.checks (grammar q) (inner.mode (grammar q) (is.received i)) (is.received i) flit) ∙ sym said.checked
          ∙ caught-by (reception_of q mine.receiver flit).checked mine.changed (changes mask) caught ((λ i. changes mask || (sym is.spoilt ∙ ap (inner.is_spoilt (grammar q)) (sym is.received)) i) ∙ e);
    }

-- A taken packet

pub may-take : (q : Profile) (retry adv : ℕ) (mine : Lists q) (s : Sent (grammar q)) (own oth : SideOf (grammar q)) →
    Way q retry mine own → Linked (grammar q) s retry adv own oth → AgreesWith q s mine.sender → flits_taken (suc mine.taken) (receipts.accepted q mine.receiver) - flits_taken mine.taken (receipts.accepted q mine.receiver) ≤ used_tokens own.half
may-take q retry adv mine s own oth is linked agree =
    let c = taken-is q retry adv mine s own oth is linked agree in
    let l = sum_by-take-le flits_of (filter is_token (receipts.accepted q mine.receiver)) (suc mine.taken) in
    let m = is.moved in
    omega arith

-- the front of the queue was handed

pub fronts-good : (q : Profile) (ps : List PacketFields) (n : ℕ) → AllGood q ps → (p : PacketFields) → slice_get (drop n ps) 0 ≡ Some p → IsGood q p
fronts-good q [] zero all p e = absurd cc
fronts-good q [] (suc n) all p e = absurd cc
fronts-good q (r ∷ ps) zero all p e = let same : r ≡ p = cc in subst (IsGood q) same all.0
fronts-good q (r ∷ ps) (suc n) all p e = fronts-good q ps n all.1 p e
