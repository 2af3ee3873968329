-- The packet of a place that was passed on, once its last flit is sent: its flits are those that
-- came. Used by Throughs, Choices and Agreements.
use Rattle.std.proofs.Common.{◌≡◌, ◌∙◌, ◌<◌, ◌≤◌, ◌-◌, ℕ, suc, Bool, true, false, List, [], ◌∷◌, ◌++◌, length, take, get_or, Option, Some, None, refl, sym, ap, subst, arith, length-append, append_assoc}
use Rattle.std.specs.Prelude.{◌==◌, ◌&&◌, not, nat_le, if◌then◌else◌, option_and_then}
use Rattle.std.specs.List.{concat}
use Rattle.std.proofs.lemmas.Grind.{common_steps}
use Rattle.std.proofs.lemmas.Bool.{eqb-true, and_parts}
use Rattle.std.proofs.lemmas.List.{take-append-le, get_or-take}
use Rattle.hmc_codes.specs.Bytes.{IsBytes}
use Rattle.hmc_codes.proofs.BytesLemmas.{IsBytes-append}
use Rattle.hmc_codes.specs.Commands.{layout_of, is_flow}
use Rattle.hmc_codes.specs.Profile.{modulus_of}
use Rattle.hmc_codes.specs.declared.command.Command.{Command}
use Rattle.hmc_codes.specs.declared.layout.Layout.{Layout}
use Rattle.hmc_codes.specs.declared.layout.Layout.TheVariants as layouts
use Rattle.hmc_codes.specs.declared.profile.Profile.{Profile}
use Rattle.hmc_codes.specs.declared.profile.Profile.TheVariants.{One, Two}
use Rattle.hmc_packet.specs.declared.feed.Feed.{Feed}
use Rattle.hmc_packet.specs.declared.feed.Feed.TheVariants.{Last}
use Rattle.hmc_packet.specs.declared.head.Head.{Head}
use Rattle.hmc_packet.specs.declared.tail.Tail.{Tail}
use Rattle.hmc_packet.specs.Copy.{IsFront, IsTailAfter, copied_packet}
use Rattle.hmc_packet.specs.Head.{head_in, head_with, named_by}
use Rattle.hmc_packet.specs.Packet.{PacketFields, IsPacket, flits_of}
use Rattle.hmc_packet.specs.Bits.{bits_from}
use Rattle.hmc_packet.specs.Header.{header_of, header_is_clean}
use Rattle.hmc_packet.specs.Parts.{word_of, header_in, lng_of}
use Rattle.hmc_packet.specs.Reading.{command_in, packet_from}
use Rattle.hmc_packet.specs.Spelling.{spelling}
use Rattle.hmc_packet.specs.Tail.{FitsField, IsTail, tail_layout}
use Rattle.hmc_packet.proofs.CopyLemmas.{copied-IsPacket, copied-flits, copied-flits_before}
use Rattle.hmc_packet.proofs.FlitLemmas.{AreFlits, length-concat}
use Rattle.hmc_tokens.specs.Account.{tokens_of_code}
use Rattle.hmc_send.specs.declared.numbers.Numbers.{Numbers}
use Rattle.hmc_send.specs.Copies.{command_or_null, errstat_for, tail_with, copy_of, place_fed}
use Rattle.hmc_send.specs.Entries.{Part}
use Rattle.hmc_send.specs.LinkCalls.{names_flits}
use Rattle.hmc_send.specs.Places.{Place, flits_at, numbers_at, flit_of}
use Rattle.hmc_send.proofs.CopyLemmas.{HeadSays, head-says, errstat-fits}
use Rattle.hmc_wire.proofs.PacketGrammar.{IsSequenced}
use Rattle.hmc_wire.proofs.Places.{Fits, IsOpenPlace}
use Rattle.hmc_wire.proofs.OpenPlaces.{HasWholeFlits}
use Rattle.hmc_wire.specs.EntryTurns.{weight}

pub token-sequenced : (l : Layout) → not (is_flow l) ≡ true → (is_flow l ≡ false) × IsSequenced l
token-sequenced layouts.Null e = absurd cc
token-sequenced layouts.Irtry e = absurd cc
token-sequenced layouts.Pret e = absurd cc
token-sequenced layouts.Tret e = absurd cc
token-sequenced layouts.Ask e = (refl, tt)
token-sequenced layouts.Reply e = (refl, tt)

-- a flit is the head of a packet of so many flits
pub record Heads (flits : ℕ) (flit : List ℕ) : Type 0 where
  pub some : 2 ≤ flits
  pub head : Head
  pub reads : head_in flit ≡ Some head
  pub long : head.flits ≡ flits

le-two : (n : ℕ) → nat_le 2 n ≡ true → 2 ≤ n
le-two n is = grind (arith, common_steps)

heads-by : (flits : ℕ) (flit : List ℕ) (o : Option Head) → head_in flit ≡ o → names_flits flits o ≡ true → Heads flits flit
heads-by flits flit None reads is = absurd cc
heads-by flits flit (Some head) reads is =
    let both = and_parts (nat_le 2 flits) (head.flits == flits) is in
    record { some = le-two flits both.0; head = head; reads = reads; long = eqb-true head.flits flits both.1 }

pub heads : (flits : ℕ) (flit : List ℕ) → names_flits flits (head_in flit) ≡ true → Heads flits flit
heads flits flit is = heads-by flits flit (head_in flit) refl is

-- the length that a head has is that of its flit
pub head-lng : (flit : List ℕ) (o : Option Command) (head : Head) → option_and_then (λ (c : Command). head_with (layout_of c) c (header_in flit)) o ≡ Some head → head.flits ≡ bits_from 7 5 (header_in flit)
unfolding head_with
head-lng flit None head is = absurd cc
head-lng flit (Some c) head is = by_test (not (is_flow (layout_of c)) && header_is_clean (layout_of c) (header_in flit)) is
  where
    found : Head
    found = record { command = c; flits = bits_from 7 5 (header_in flit); cube = (header_of (layout_of c) (header_in flit)).cube; slid = (header_of (layout_of c) (header_in flit)).slid }

    by_test : (b : Bool) → (if b then Some found else None) ≡ Some head → head.flits ≡ bits_from 7 5 (header_in flit)
    by_test true is = let same : found ≡ head = cc in ap (λ (h : Head). h.flits) (sym same)
    by_test false is = absurd cc

pub heads-lng : (flits : ℕ) (flit : List ℕ) → names_flits flits (head_in flit) ≡ true → lng_of flit ≡ flits
unfolding head_in named_by lng_of
heads-lng flits flit is =
    let h = heads flits flit is in
    sym (head-lng flit (command_in (header_in flit)) h.head h.reads) ∙ h.long

-- ---- the bytes before the tail

header-first : (sent : List (List ℕ)) (half : List ℕ) → 1 ≤ length sent → AreFlits sent → header_in (concat sent ++ half) ≡ header_in (get_or sent 0 [])
header-first [] half some are = absurd (omega arith)
header-first (f ∷ fs) half some are =
    let len : length f ≡ 16 = are 0 (omega arith) in
    ap word_of (ap (take 8) (append_assoc f (concat fs) half) ∙ take-append-le 8 f (concat fs ++ half) (omega arith))

-- the head of bytes is read from their header alone
pub head-same : (bytes flit : List ℕ) → header_in bytes ≡ header_in flit → head_in bytes ≡ head_in flit
unfolding head_in named_by
head-same bytes flit same = ap (λ (word : ℕ). option_and_then (λ command. head_with (layout_of command) command word) (command_in word)) same

-- the flits that came before the last, and the first half of the last
pub record Front (part : Part) (half : List ℕ) : Type 0 where
  pub head : Head
  pub front : IsFront (concat part.sent ++ half) head
  pub long : head.flits ≡ part.flits
  pub says : HeadSays (concat part.sent ++ half) head

pub front-of : (part : Part) (half : List ℕ) → HasWholeFlits part → 2 ≤ part.flits → suc (length part.sent) ≡ part.flits → length half ≡ 8 → IsBytes half → Front part half
front-of part half whole_flits long last len bytes =
    let h = heads part.flits (get_or part.sent 0 []) (whole_flits.head (omega arith)) in
    let head_long = h.long in
    let reads : head_in (concat part.sent ++ half) ≡ Some h.head = head-same (concat part.sent ++ half) (get_or part.sent 0 []) (header-first part.sent half (omega arith) whole_flits.flits) ∙ h.reads in
    record {
      head = h.head;
      front = record {
        are_bytes = IsBytes-append (concat part.sent) half whole_flits.bytes bytes;
        names = reads;
        size = omega (arith, length-concat part.sent whole_flits.flits, length-append (concat part.sent) half);
      };
      long = h.long;
      says = head-says (concat part.sent ++ half) h.head (sym reads);
    }

-- ---- its copy

-- the fields of its tail
abbrev tail_sent : Profile → Head → Numbers → (slid errstat : ℕ) → Tail
tail_sent q head n slid errstat = tail_with n slid (errstat_for q (layout_of head.command) errstat)

pub copy-is : (q : Profile) (front : List (List ℕ)) (half : List ℕ) (slid errstat : ℕ) (good : Bool) (n : Numbers) (head : Head) → HeadSays (concat front ++ half) head →
    copy_of q front half slid errstat good n ≡ copied_packet head.command (concat front ++ half) (tail_sent q head n slid errstat) good
unfolding copy_of
copy-is q front half slid errstat good n head says =
    let bytes = concat front ++ half in
    let named : command_or_null (named_by bytes) ≡ head.command = ap command_or_null says.names in
    λ i. copied_packet (named i) bytes (tail_with n slid (errstat_for q (layout_of (named i)) errstat)) good

errstat-ask : (q : Profile) (layout : Layout) (errstat : ℕ) → layout ≡ layouts.Ask → errstat_for q layout errstat ≡ 0
errstat-ask q layouts.Ask errstat is = refl
errstat-ask q layouts.Reply errstat is = absurd cc
errstat-ask q layouts.Null errstat is = refl
errstat-ask q layouts.Pret errstat is = refl
errstat-ask q layouts.Tret errstat is = refl
errstat-ask q layouts.Irtry errstat is = refl

-- numbers that fit the tail of a profile
pub record AreFit (q : Profile) (n : Numbers) : Type 0 where
  pub frp : n.frp < modulus_of q
  pub seq : n.seq < 8
  pub rtc : n.rtc < 8

tail-fits : (q : Profile) (n : Numbers) (slid errstat : ℕ) → AreFit q n → slid < 8 → FitsField (tail_layout q).errstat errstat → IsTail q (tail_with n slid errstat)
tail-fits One n slid errstat fit small below = record { rrp = omega arith; frp = fit.frp; seq = fit.seq; slid = small; errstat = below; rtc = fit.rtc }
tail-fits Two n slid errstat fit small below = record { rrp = omega arith; frp = fit.frp; seq = fit.seq; slid = small; errstat = below; rtc = fit.rtc }

tail-after : (q : Profile) (head : Head) (n : Numbers) (slid errstat : ℕ) → AreFit q n → slid < 8 → IsTailAfter q head.command (tail_sent q head n slid errstat)
tail-after q head n slid errstat fit small = record {
  fits = tail-fits q n slid (errstat_for q (layout_of head.command) errstat) fit small (errstat-fits q (layout_of head.command) errstat);
  errstat = errstat-ask q (layout_of head.command) errstat;
}

-- what the copy has of its tail and of its header
record CopyHas (p : PacketFields) (c : Command) (t : Tail) : Type 0 where
  command : p.command ≡ c
  frp : p.frp ≡ t.frp
  seq : p.seq ≡ t.seq
  rtc : p.rtc ≡ t.rtc
  errstat : p.errstat ≡ t.errstat

copy-has : (c : Command) (bytes : List ℕ) (t : Tail) (good : Bool) → CopyHas (copied_packet c bytes t good) c t
unfolding copied_packet packet_from
copy-has c bytes t good = record { command = refl; frp = refl; seq = refl; rtc = refl; errstat = refl }

-- with its last flit an open place has its packet, whose flits before the last are those that came
pub record Completed (q : Profile) (x : Place) (part : Part) (feed : Feed) (p : PacketFields) : Type 0 where
  pub fits : Fits q (place_fed q part.sent feed x) p
  pub weighs : weight (place_fed q part.sent feed x) ≡ weight x
  pub front : (k : ℕ) → k < length part.sent → flit_of q p 0 k ≡ get_or part.sent k []

pub completed-last : (q : Profile) (x : Place) (part : Part) (half : List ℕ) (slid errstat : ℕ) (good : Bool) → IsOpenPlace q x → HasWholeFlits part → part.flits ≡ flits_at x → (suc (length part.sent) == part.flits) ≡ true → length half ≡ 8 → IsBytes half → slid < 8 →
    Completed q x part (Last half slid errstat good) (copy_of q part.sent half slid errstat good (numbers_at x))
unfolding flit_of
completed-last q (Place.known packet) part half slid errstat good place whole_flits same last len bytes small = absurd (let clash : Some packet ≡ None = place.none in cc)
completed-last q (Place.awaited head flits n) part half slid errstat good place whole_flits same last len bytes small =
    let some : 2 ≤ flits = place.some in
    let same_flits : part.flits ≡ flits = same in
    let l = eqb-true (suc (length part.sent)) part.flits last in
    let f = front-of part half whole_flits (omega arith) l len bytes in
    let p = copy_of q part.sent half slid errstat good n in
    let t = tail_sent q f.head n slid errstat in
    let after = tail-after q f.head n slid errstat (record { frp = place.frp; seq = place.seq; rtc = place.rtc }) small in
    let is : p ≡ copied_packet f.head.command (concat part.sent ++ half) t good = copy-is q part.sent half slid errstat good n f.head f.says in
    let has : CopyHas p f.head.command t = subst (λ (x : PacketFields). CopyHas x f.head.command t) (sym is) (copy-has f.head.command (concat part.sent ++ half) t good) in
    let flow : is_flow (layout_of p.command) ≡ false = ap (λ (c : Command). is_flow (layout_of c)) has.command ∙ f.says.no_flow in
    let count : flits_of p ≡ part.flits = ap flits_of is ∙ copied-flits (concat part.sent ++ half) f.head t good f.front ∙ f.long in
    let front_long = f.long in
    let front : take (f.head.flits - 1) (spelling q p 0) ≡ part.sent =
    ap (λ (x : PacketFields). take (f.head.flits - 1) (spelling q x 0)) is ∙ copied-flits_before q part.sent half f.head t good 0 whole_flits.flits (omega arith) f.front after in
    record {
      fits = record {
        known = refl;
        packet = subst IsPacket (sym is) (copied-IsPacket q (concat part.sent ++ half) f.head t good f.front after);
        sequenced = (token-sequenced (layout_of p.command) (ap not flow)).1;
        errstat = subst (FitsField (tail_layout q).errstat) (sym has.errstat) (errstat-fits q (layout_of f.head.command) errstat);
        flits = refl;
        token = refl;
        frp = refl;
        seq = refl;
        rtc = refl;
      };
      weighs = λ i. record { flits = (count ∙ same_flits) i; token = (ap not flow) i; returns = tokens_of_code (has.rtc i) };
      front = λ k lt. sym (get_or-take (f.head.flits - 1) (spelling q p 0) k [] (omega arith)) ∙ ap (λ (j : List (List ℕ)). get_or j k []) front;
    }
