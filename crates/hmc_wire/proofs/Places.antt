-- The places of a sender as the numbers see them. Used by most files on senders.
use Rattle.std.proofs.Common.{◌≡◌, ◌∙◌, ◌<◌, ◌≤◌, ◌+◌, ◌-◌, ◌%◌, ℕ, zero, suc, ◌⊎◌, true, List, [], ◌∷◌, ◌++◌, length, take, get_or, map, Option, Some, None, refl, sym, ap, arith}
use Rattle.std.specs.Prelude.{sum_by}
use Rattle.std.proofs.lemmas.List.{take_all}
use Rattle.std.proofs.lemmas.List.Sums.{sum_by-cons}
use Rattle.hmc_codes.specs.Commands.{layout_of}
use Rattle.hmc_codes.specs.Profile.{modulus_of}
use Rattle.hmc_codes.specs.declared.profile.Profile.{Profile}
use Rattle.hmc_packet.specs.Head.{head_in}
use Rattle.hmc_packet.specs.Packet.{PacketFields, IsPacket, flits_of, null_packet}
use Rattle.hmc_packet.specs.Tail.{FitsField, tail_layout}
use Rattle.hmc_send.specs.Entries.{SenderEntry, Part, unfinished, places}
use Rattle.hmc_send.specs.LinkCalls.{names_flits}
use Rattle.hmc_send.specs.Places.{Place, flits_at, flits_in, numbers_at, is_token, takes_tokens, place_at, flit_of}
use Rattle.hmc_numbers.specs.Weights.{Weight, upto, flits_to, size}
use Rattle.hmc_wire.specs.LinkLaws.{HasNumbers}
use Rattle.hmc_wire.proofs.Spelled.{Sent}
use Rattle.hmc_wire.proofs.PacketGrammar.{grammar, IsSequenced, IsNumbered}
use Rattle.hmc_wire.specs.EntryTurns.{weight}

-- the packet of a place, where it is known
abbrev pub packet_of : Place → Option PacketFields
packet_of (Place.known packet) = Some packet
packet_of (Place.awaited head flits numbers) = None

-- a place and its packet
pub record Fits (q : Profile) (place : Place) (p : PacketFields) : Type 0 where
  pub known : packet_of place ≡ Some p
  pub packet : IsPacket p
  pub sequenced : IsSequenced (layout_of p.command)
  pub errstat : FitsField (tail_layout q).errstat p.errstat
  pub flits : flits_of p ≡ flits_at place
  pub token : is_token p ≡ takes_tokens place
  pub frp : p.frp ≡ (numbers_at place).frp
  pub seq : p.seq ≡ (numbers_at place).seq
  pub rtc : p.rtc ≡ (numbers_at place).rtc

pub record HasPacket (q : Profile) (place : Place) : Type 0 where
  pub packet : PacketFields
  pub fits : Fits q place packet

-- the first flit of an open place names its length
abbrev pub HasHead : Place → Type 0
HasHead (Place.known packet) = Unit {0}
HasHead (Place.awaited head flits numbers) = names_flits flits (head_in head) ≡ true

-- a place whose packet isn't known yet
pub record IsOpenPlace (q : Profile) (place : Place) : Type 0 where
  pub none : packet_of place ≡ None
  pub token : takes_tokens place ≡ true
  pub some : 2 ≤ flits_at place
  pub few : flits_at place ≤ 17
  pub frp : (numbers_at place).frp < modulus_of q
  pub seq : (numbers_at place).seq < 8
  pub rtc : (numbers_at place).rtc < 8
  pub head : HasHead place

abbrev pub FitOr : Profile → Place → Type 0
FitOr q place = HasPacket q place ⊎ IsOpenPlace q place

abbrev pub AllFit : Profile → List Place → Type 0
AllFit q [] = Unit {0}
AllFit q (place ∷ places) = FitOr q place × AllFit q places

pub fit-push : (q : Profile) (l : List Place) (x : Place) → AllFit q l → FitOr q x → AllFit q (l ++ x ∷ [])
fit-push q [] x all fits = (fits, tt)
fit-push q (y ∷ l) x all fits = (all.0, fit-push q l x all.1 fits)

pub fit-at : (q : Profile) (l : List Place) (n : ℕ) → n < length l → AllFit q l → FitOr q (get_or l n (Place.known null_packet))
fit-at q [] n lt all = absurd (omega arith)
fit-at q (x ∷ l) zero lt all = all.0
fit-at q (x ∷ l) (suc n) lt all = fit-at q l n (omega arith) all.1

-- ---- sums

pub upto-sum : (g : Weight → ℕ) (l : List Place) (n : ℕ) → upto g (map weight l) n ≡ sum_by (λ (s : Place). g (weight s)) (take n l)
upto-sum g [] zero = refl
upto-sum g [] (suc n) = refl
upto-sum g (x ∷ l) zero = refl
upto-sum g (x ∷ l) (suc n) = ap (λ (k : ℕ). g (weight x) + k) (upto-sum g l n) ∙ sym (sum_by-cons (λ (s : Place). g (weight s)) x (take n l))

pub upto-all : (g : Weight → ℕ) (l : List Place) → upto g (map weight l) (length l) ≡ sum_by (λ (s : Place). g (weight s)) l
upto-all g l = upto-sum g l (length l) ∙ ap (sum_by (λ (s : Place). g (weight s))) (take_all (length l) l (omega arith))

pub upto-step : (g : Weight → ℕ) (l : List Place) (n : ℕ) → n < length l → upto g (map weight l) (suc n) ≡ upto g (map weight l) n + g (weight (get_or l n (Place.known null_packet)))
upto-step g [] n lt = absurd (omega arith)
upto-step g (x ∷ []) zero lt = omega arith
upto-step g (x ∷ y ∷ l) zero lt = omega arith
upto-step g (x ∷ l) (suc n) lt = let e = upto-step g l n (omega arith) in omega arith

pub size-weight : (l : List Place) (n : ℕ) → 1 ≤ n → n ≤ length l → size (map weight l) n ≡ flits_at (place_at l n)
size-weight l zero some le = absurd (omega arith)
size-weight l (suc n) some le =
    let e = upto-step (λ (s : Weight). s.flits) l n (omega arith) in
    let k : suc n - 1 ≡ n = omega arith in
    (λ i. flits_to (map weight l) (suc n) - flits_to (map weight l) (k i)) ∙ omega arith ∙ ap (λ (j : ℕ). flits_at (get_or l j (Place.known null_packet))) (sym k)

-- ---- numbers

-- of each place
abbrev pub AreNumbered : Profile → List Place → Type 0
AreNumbered q l = (n : ℕ) → n < length l → HasNumbers q l n

-- the n-th packet by its numbers
pub numbered-at : (q : Profile) (l : List Place) (n : ℕ) (p : PacketFields) → AreNumbered q l → 1 ≤ n → n ≤ length l → Fits q (place_at l n) p → IsNumbered q (map weight l) n p
numbered-at q l n p all some le fits =
    let at = all (n - 1) (omega arith) in
    let k : suc (n - 1) ≡ n = omega arith in
    record {
      packet = fits.packet;
      sequenced = fits.sequenced;
      flits = fits.flits ∙ sym (size-weight l n some le);
      frp = fits.frp ∙ at.frp ∙ ap (λ (j : ℕ). flits_in (take j l) % modulus_of q) k ∙ ap (λ (j : ℕ). j % modulus_of q) (sym (upto-sum (λ (s : Weight). s.flits) l n));
      seq = fits.seq ∙ at.seq ∙ ap (λ (j : ℕ). j % 8) k;
      errstat = fits.errstat;
    }

-- ---- flits as they are sent, for these places

-- a packet for a place whose own isn't known
pub record Weighs (place : Place) (p : PacketFields) : Type 0 where
  pub flits : 1 ≤ flits_at place → flits_of p ≡ flits_at place
  pub token : is_token p ≡ takes_tokens place
  pub rtc : p.rtc ≡ (numbers_at place).rtc

pub record AgreesAt (q : Profile) (s : Sent (grammar q)) (n : ℕ) (place : Place) (u : Option Part) : Type 0 where
  pub packet : (p : PacketFields) → packet_of place ≡ Some p → s.packet n ≡ p
  pub front : (p : PacketFields) → packet_of place ≡ Some p → (k : ℕ) → suc k < flits_of p → s.front n k ≡ flit_of q p 0 k
  pub weighs : packet_of place ≡ None → Weighs place (s.packet n)
  pub sent : packet_of place ≡ None → (part : Part) → u ≡ Some part → (k : ℕ) → k < length part.sent → s.front n k ≡ get_or part.sent k []

abbrev pub Agrees : (q : Profile) → Sent (grammar q) → List Place → Option Part → Type 0
Agrees q s l u = (n : ℕ) → 1 ≤ n → n ≤ length l → AgreesAt q s n (place_at l n) u

abbrev pub AgreesWith : (q : Profile) → Sent (grammar q) → List SenderEntry → Type 0
AgreesWith q s t = Agrees q s (places q t) (unfinished t)

pub agrees-packet : (q : Profile) (s : Sent (grammar q)) (l : List Place) (u : Option Part) (n : ℕ) (p : PacketFields) → Agrees q s l u → 1 ≤ n → n ≤ length l → packet_of (place_at l n) ≡ Some p →
    (s.packet n ≡ p) × ((k : ℕ) → suc k < flits_of p → s.front n k ≡ flit_of q p 0 k)
agrees-packet q s l u n p all some le known = let a = all n some le in (a.packet p known, a.front p known)
