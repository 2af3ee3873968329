-- The packet that is made of the flits that came, and of the last one's half and tail, is their copy.
use Rattle.std.proofs.Common.{◌≡◌, ◌∙◌, ◌≤◌, ◌<◌, ◌-◌, ℕ, suc, Bool, true, false, List, [], ◌++◌, length, take, drop, get_or, Some, refl, sym, ap, subst, arith}
use Rattle.std.specs.Prelude.{not}
use Rattle.std.specs.List.{concat}
use Rattle.std.proofs.lemmas.List.{drop_at, length-take}
use Rattle.std.proofs.lemmas.List.FromFn.{fill_by_all}
use Rattle.hmc_codes.specs.Commands.{layout_of, is_flow}
use Rattle.hmc_codes.specs.Flit.{IsFlit}
use Rattle.hmc_codes.specs.declared.command.Command.{Command}
use Rattle.hmc_codes.specs.declared.layout.Layout.{Layout}
use Rattle.hmc_codes.specs.declared.layout.Layout.TheVariants as layouts
use Rattle.hmc_codes.specs.declared.profile.Profile.{Profile}
use Rattle.hmc_codes.specs.declared.profile.Profile.TheVariants.{One, Two}
use Rattle.hmc_codes.proofs.BytesLemmas.{IsBytes-take}
use Rattle.hmc_packet.specs.declared.head.Head.{Head}
use Rattle.hmc_packet.specs.declared.tail.Tail.{Tail}
use Rattle.hmc_packet.specs.Copy.{IsFront, IsTailAfter, copied_packet, layout_named}
use Rattle.hmc_packet.specs.Head.{named_by}
use Rattle.hmc_packet.specs.Header.{header_of}
use Rattle.hmc_packet.specs.Packet.{PacketFields, flits_of}
use Rattle.hmc_packet.specs.Parts.{half_of, header_in}
use Rattle.hmc_packet.specs.Reading.{packet_from, slid_in}
use Rattle.hmc_packet.specs.Spelling.{spelling}
use Rattle.hmc_packet.specs.Tail.{FitsField, IsTail, tail_layout}
use Rattle.hmc_packet.proofs.CopyLemmas.{copied-IsPacket, copied-flits, copied-front, copied-flits_before, flits-front}
use Rattle.hmc_packet.proofs.FlitLemmas.{AreFlits}
use Rattle.hmc_packet.proofs.TailLemmas.{IsTail-of, slid-below}
use Rattle.hmc_send.proofs.CopyLemmas.{errstat-fits}
use Rattle.hmc_send.specs.Copies.{errstat_for, tail_with, copy_of}
use Rattle.hmc_send.specs.Entries.{Part}
use Rattle.hmc_send.specs.Places.{Place, numbers_at}
use Rattle.hmc_send.specs.declared.numbers.Numbers.{Numbers}
use Rattle.hmc_through.specs.Pipe.{PipeFields, flit_at, front_flits}
use Rattle.hmc_wire.proofs.Filled.{AreFit, copy-is, front-of}
use Rattle.hmc_wire.proofs.OpenPlaces.{HasWholeFlits}
use Rattle.hmc_copies.specs.Copies.{last_flit, last_tail, IsCopy}
use Rattle.hmc_copies.proofs.Pipes.{IsPipeOf, AreSent}

-- ---- the fields of a copy

record HasFields (p : PacketFields) (c : Command) (t : Tail) (good : Bool) : Type 0 where
  command : p.command ≡ c
  slid : layout_of c ≡ layouts.Ask → p.slid ≡ t.slid
  errstat : p.errstat ≡ t.errstat
  poisoned : p.poisoned ≡ not good

has-fields : (c : Command) (bytes : List ℕ) (t : Tail) (good : Bool) → HasFields (copied_packet c bytes t good) c t good
unfolding copied_packet packet_from
has-fields c bytes t good = record {
  command = refl;
  slid = λ is. ap (λ (l : Layout). slid_in l (header_of (layout_of c) (header_in bytes)) t) is;
  errstat = refl;
  poisoned = refl;
}

has-numbers : (c : Command) (bytes : List ℕ) (n : Numbers) (slid errstat : ℕ) (good : Bool) → numbers_at (Place.known (copied_packet c bytes (tail_with n slid errstat) good)) ≡ n
unfolding copied_packet packet_from
has-numbers c bytes n slid errstat good = refl

twice : (good : Bool) → good ≡ not (not good)
twice true = refl
twice false = refl

-- ---- its tail

errstat-ask : (q : Profile) (layout : Layout) (errstat : ℕ) → layout ≡ layouts.Ask → errstat_for q layout errstat ≡ 0
errstat-ask q layouts.Ask errstat is = refl
errstat-ask q layouts.Reply errstat is = absurd cc
errstat-ask q layouts.Null errstat is = refl
errstat-ask q layouts.Pret errstat is = refl
errstat-ask q layouts.Tret errstat is = refl
errstat-ask q layouts.Irtry errstat is = refl

tail-fits : (q : Profile) (n : Numbers) (slid errstat : ℕ) → AreFit q n → slid < 8 → FitsField (tail_layout q).errstat errstat → IsTail q (tail_with n slid errstat)
tail-fits One n slid errstat fit small below = record { rrp = omega arith; frp = fit.frp; seq = fit.seq; slid = small; errstat = below; rtc = fit.rtc }
tail-fits Two n slid errstat fit small below = record { rrp = omega arith; frp = fit.frp; seq = fit.seq; slid = small; errstat = below; rtc = fit.rtc }

tail-after : (q : Profile) (c : Command) (n : Numbers) (slid errstat : ℕ) → AreFit q n → slid < 8 → IsTailAfter q c (tail_with n slid (errstat_for q (layout_of c) errstat))
tail-after q c n slid errstat fit small = record {
  fits = tail-fits q n slid (errstat_for q (layout_of c) errstat) fit small (errstat-fits q (layout_of c) errstat);
  errstat = errstat-ask q (layout_of c) errstat;
}

-- ---- the copy

-- the tail that it is sent with, without a return pointer
abbrev sent_tail : Profile → PipeFields → Numbers → Head → Tail
sent_tail q pipe n head = tail_with n (last_tail pipe).slid (errstat_for q (layout_of head.command) (last_tail pipe).errstat)

copied : (q : Profile) (pipe : PipeFields) (sent : List (List ℕ)) (head : Head) (n : Numbers) (good : Bool) → AreFlits sent → sent ≡ front_flits pipe → length sent ≡ pipe.flits - 1 → head.flits ≡ pipe.flits → is_flow (layout_of head.command) ≡ false →
    IsFront (concat sent ++ take 8 (last_flit pipe)) head → IsTailAfter q head.command (sent_tail q pipe n head) → pipe.good ≡ Some good → IsCopy q pipe n (copied_packet head.command (concat sent ++ take 8 (last_flit pipe)) (sent_tail q pipe n head) good)
copied q pipe sent head n good are front long size no_flow is after ended =
    let half = take 8 (last_flit pipe) in
    let bytes = concat sent ++ half in
    let t = sent_tail q pipe n head in
    let p = copied_packet head.command bytes t good in
    let has = has-fields head.command bytes t good in
    let flits : flits_of p ≡ pipe.flits = copied-flits bytes head t good is ∙ size in
    let packet = copied-IsPacket q bytes head t good is after in
    let flow : is_flow (layout_of p.command) ≡ false = ap (λ (c : Command). is_flow (layout_of c)) has.command ∙ no_flow in
    let count : length sent ≡ head.flits - 1 = omega arith in
    let before : (rrp : ℕ) → take (head.flits - 1) (spelling q p rrp) ≡ sent = λ rrp. copied-flits_before q sent half head t good rrp are count is after in
    let index : pipe.flits - 1 ≡ flits_of p - 1 = omega arith in
    let same : head.flits - 1 ≡ flits_of p - 1 = omega arith in
    record {
      packet_is = packet;
      token = ap not flow;
      flits = flits;
      front = λ rrp. ap (λ (k : ℕ). take (k - 1) (spelling q p rrp)) (sym size) ∙ before rrp ∙ front;
      half = λ rrp. cancel (concat sent) (take 8 (get_or (spelling q p rrp) (pipe.flits - 1) [])) half
          ((λ i. concat ((sym (before rrp) ∙ ap (λ (k : ℕ). take k (spelling q p rrp)) same) i) ++ take 8 (get_or (spelling q p rrp) (index i) []))
          ∙ flits-front q p rrp packet flow ∙ copied-front q bytes head t good is after);
      slid = λ asks. has.slid (ap layout_of (sym has.command) ∙ asks);
      errstat = λ replies. has.errstat ∙ ap (λ (l : Layout). errstat_for q l (last_tail pipe).errstat) (ap layout_of (sym has.command) ∙ replies);
      numbers = has-numbers head.command bytes n (last_tail pipe).slid (errstat_for q (layout_of head.command) (last_tail pipe).errstat) good;
      good = ended ∙ ap (λ (b : Bool). Some b) (twice good ∙ ap not (sym has.poisoned));
    }
  where
    cancel : (a x y : List ℕ) → a ++ x ≡ a ++ y → x ≡ y
    cancel a x y e = sym (drop_at a x (length a) refl) ∙ ap (drop (length a)) e ∙ drop_at a y (length a) refl

-- what was sent of it are all flits before the last one
pub sent-front : (pipe : PipeFields) (sent : List (List ℕ)) → AreSent pipe sent → length sent ≡ pipe.flits - 1 → sent ≡ front_flits pipe
sent-front pipe sent are long = fill_by_all (flit_at pipe) sent (pipe.flits - 1) [] long (λ k less. are.same k (omega arith))

pub copy-is-copy : (q : Profile) (pipe : PipeFields) (part : Part) (head : List ℕ) (count : ℕ) (n : Numbers) (good : Bool) → IsPipeOf pipe head count → AreSent pipe part.sent → HasWholeFlits part → AreFit q n → part.flits ≡ count → 2 ≤ count → suc (length part.sent) ≡ count →
    pipe.good ≡ Some good → IsCopy q pipe n (copy_of q part.sent (take 8 (last_flit pipe)) (last_tail pipe).slid (last_tail pipe).errstat good n)
copy-is-copy q pipe part head count n good of are whole_flits fit flits many last ended =
    let size = of.flits in
    let x = last_flit pipe in
    let is_flit : IsFlit x = of.each (pipe.flits - 1) in
    let len = is_flit.long in
    let half = take 8 x in
    let tail = IsTail-of pipe.profile (layout_named (named_by (flit_at pipe 0))) (half_of (take 4 (drop 8 x))) in
    let f = front-of part half whole_flits (omega arith) (omega arith) (omega (arith, length-take 8 x)) (IsBytes-take 8 x is_flit.bytes) in
    let long = f.long in
    let says = f.says in
    let after : IsTailAfter q f.head.command (sent_tail q pipe n f.head) = tail-after q f.head.command n (last_tail pipe).slid (last_tail pipe).errstat fit (slid-below pipe.profile (last_tail pipe).slid tail.slid) in
    subst (IsCopy q pipe n) (sym (copy-is q part.sent half (last_tail pipe).slid (last_tail pipe).errstat good n f.head says))
    (copied q pipe part.sent f.head n good whole_flits.flits (sent-front pipe part.sent are (omega arith)) (omega arith) (omega arith) says.no_flow f.front after ended)
