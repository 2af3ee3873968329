-- The packet with its numbers is a packet, and may be sent; it is the one that was kept last.
use Rattle.std.proofs.Common.{◌≡◌, ◌∙◌, ℕ, suc, min, false, Some, None, ap, subst, sym}
use Rattle.hmc_packet.specs.Packet.{PacketFields, IsPacket, flits_of}
use Rattle.hmc_retry.specs.RetryBuffer.{RetryFields, after_put}
use Rattle.hmc_send.specs.declared.numbers.Numbers.{Numbers}
use Rattle.hmc_send.specs.Kept.{CanBeSent}
use Rattle.hmc_send.specs.Entries.{enough_others, part_after, with_place}
use Rattle.hmc_send.specs.Places.{Place, flit_of, numbers_after, with_numbers}
use Rattle.hmc_send.proofs.KeptLemmas.{CanBeSent-next, IsPacket-next}
use Rattle.hmc_send.proofs.state.State.begin_new.Goals as goal

pub keep_with-requires-clause-packet : goal.keep_with-requires-clause-packet
keep_with-requires-clause-packet c =
    let p = c.args.packet.now in
    let s = c.args.self.now in
    let made = IsPacket-next s.profile s.pointer s.number c.args.rtc p c.requires.sequenced c.invariant.ensures c.requires.rtc in
    let numbers : numbers_after s.profile s.pointer s.number (flits_of p) c.args.rtc ≡ c.next_numbers-next.result =
    ap (λ (n : ℕ). numbers_after s.profile s.pointer s.number n c.args.rtc) (sym c.flits.ensures.value) ∙ sym c.next_numbers-next.ensures.value in
    subst (λ (n : Numbers). IsPacket (with_numbers n p)) numbers made

pub first_flit-flit-requires-clause-fits : goal.first_flit-flit-requires-clause-fits
first_flit-flit-requires-clause-fits c =
    let p = c.args.packet.now in
    let s = c.args.self.now in
    let fits = CanBeSent-next s.profile s.pointer s.number c.args.rtc p c.requires.sequenced c.requires.errstat in
    let numbers : numbers_after s.profile s.pointer s.number (flits_of p) c.args.rtc ≡ c.next_numbers-next.result =
    ap (λ (n : ℕ). numbers_after s.profile s.pointer s.number n c.args.rtc) (sym c.flits.ensures.value) ∙ sym c.next_numbers-next.ensures.value in
    let last : Some c.in-Some.kept.now ≡ Some (with_numbers c.next_numbers-next.result p) = c.in-Some.ensures.some s.retry.kept _ (ap (λ (b : RetryFields). b.kept) c.keep_with.ensures) in
    let kept : c.in-Some.kept.now ≡ with_numbers c.next_numbers-next.result p = cc in
    subst (CanBeSent s.profile) (sym kept) (subst (λ (n : Numbers). CanBeSent s.profile (with_numbers n p)) numbers fits)

pub unreachable-requires : goal.unreachable-requires
unreachable-requires c = absurd (cc (c.in_default.ensures.some c.args.self.now.retry.kept _ (ap (λ (b : RetryFields). b.kept) c.keep_with.ensures)))

pub returns-clause-flit : goal.returns-clause-flit
returns-clause-flit c =
    let p = c.args.packet.now in
    let s = c.args.self.now in
    let numbers : numbers_after s.profile s.pointer s.number (flits_of p) c.args.rtc ≡ c.next_numbers-next.result =
    ap (λ (n : ℕ). numbers_after s.profile s.pointer s.number n c.args.rtc) (sym c.flits.ensures.value) ∙ sym c.next_numbers-next.ensures.value in
    let last : Some c.in-Some.kept.now ≡ Some (with_numbers c.next_numbers-next.result p) = c.in-Some.ensures.some s.retry.kept _ (ap (λ (b : RetryFields). b.kept) c.keep_with.ensures) in
    let kept : c.in-Some.kept.now ≡ with_numbers c.next_numbers-next.result p = cc in
    c.first_flit-flit.ensures.flit ∙ ap (λ (q : PacketFields). flit_of s.profile q c.args.rrp 0) (kept ∙ ap (λ (n : Numbers). with_numbers n p) (sym numbers))

pub returns-clause-lng : goal.returns-clause-lng
returns-clause-lng c =
    let p = c.args.packet.now in
    let last : Some c.in-Some.kept.now ≡ Some (with_numbers c.next_numbers-next.result p) = c.in-Some.ensures.some c.args.self.now.retry.kept _ (ap (λ (b : RetryFields). b.kept) c.keep_with.ensures) in
    let kept : c.in-Some.kept.now ≡ with_numbers c.next_numbers-next.result p = cc in
    c.first_flit-flit.ensures.lng ∙ ap flits_of kept

pub returns-clause-left : goal.returns-clause-left
returns-clause-left c =
    let p = c.args.packet.now in
    let s = c.args.self.now in
    let numbers : c.next_numbers-next.result ≡ numbers_after s.profile s.pointer s.number (flits_of p) c.args.rtc =
    c.next_numbers-next.ensures.value ∙ ap (λ (n : ℕ). numbers_after s.profile s.pointer s.number n c.args.rtc) c.flits.ensures.value in
    let last : Some c.in-Some.kept.now ≡ Some (with_numbers c.next_numbers-next.result p) = c.in-Some.ensures.some s.retry.kept _ (ap (λ (b : RetryFields). b.kept) c.keep_with.ensures) in
    let kept : c.in-Some.kept.now ≡ with_numbers c.next_numbers-next.result p = cc in
    let retry = c.keep_with.ensures ∙ ap (λ (n : Numbers). after_put (with_numbers n p) s.retry) numbers in
    let under_way = c.begin_part.ensures.begun ∙ ap (λ (q : PacketFields). with_place (Place.known q) (part_after false c.first_flit-flit.result None)) (kept ∙ ap (λ (n : Numbers). with_numbers n p) numbers) in
    c.count_other.ensures
    ∙ (λ i. record {
      retry = retry i;
      profile = s.profile;
      pointer = (numbers i).frp;
      number = (numbers i).seq;
      under_way = under_way i;
      burst = s.burst;
      go_back = s.go_back;
      is_open = s.is_open;
      others = min (suc s.others) enough_others;
      shown = c.begin_part.ensures.shown i;
    })
