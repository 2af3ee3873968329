-- A receiver that stands for a list stands, after an entry, for the list with that entry.
use Rattle.std.proofs.Common.{◌≡◌, ◌≢◌, ◌∙◌, ◌+◌, ◌%◌, ℕ, suc, min, Bool, true, false, List, [], ◌∷◌, ◌++◌, length, Option, Some, None, refl, sym, ap, subst, arith, length-append}
use Rattle.std.specs.Prelude.{if◌then◌else◌}
use Rattle.std.proofs.lemmas.List.{append-nil}
use Rattle.std.proofs.lemmas.List.Sums.{sum_by-append, sum_by-cons}
use Rattle.hmc_codes.proofs.General.{mod_again, eight_again}
use Rattle.hmc_codes.specs.Profile.{modulus_of}
use Rattle.hmc_codes.specs.declared.profile.Profile.{Profile}
use Rattle.hmc_irtry.specs.Runs.{RunFields, run_of, after_seen}
use Rattle.hmc_irtry.specs.Train.{TrainFields, after_flit}
use Rattle.hmc_packet.specs.declared.kind.Kind.{Kind}
use Rattle.hmc_packet.specs.declared.kind.Kind.TheVariants.{Start, Clear}
use Rattle.hmc_packet.specs.declared.outcome.Outcome.TheVariants.{Quiet, Ran}
use Rattle.hmc_packet.specs.declared.view.Mode.{Mode}
use Rattle.hmc_packet.specs.declared.view.Mode.TheVariants.{Train, Abort, Good}
use Rattle.hmc_packet.specs.Landings.{ReceiverEntry, mode, mode_after, pending, gathered_after, same_kind, is_of_kind, irtry_of_entry, run, trains, training, accepted, accepted_by, flits_in}
use Rattle.hmc_packet.specs.Landings.ReceiverEntry.{Land}
use Rattle.hmc_packet.specs.Packet.{PacketFields, flits_of}
use Rattle.hmc_packet.specs.Receptions.{landing_entry, reception_by}
use Rattle.hmc_receive.specs.Receiver.{ReceiverFields, view_of, Accepts, Follows}
use Rattle.hmc_receive.specs.StandsFor.{latest_of, latest, ReceiverStandsFor}
use Rattle.hmc_receive.proofs.FollowLemmas.{train-before}
use Rattle.hmc_receive.proofs.ReceptionLemmas.{reception-stands}

-- ---- runs

same_kind-is : (k l : Kind) → same_kind k l ≡ true → k ≡ l
same_kind-is Start Start is = refl
same_kind-is Start Clear is = absurd cc
same_kind-is Clear Start is = absurd cc
same_kind-is Clear Clear is = refl

either : (b : Bool) (n : ℕ) → n ≡ 0 → (if b then n else 0) ≡ 0
either true n is = is
either false n is = refl

min-suc : (n : ℕ) → min (min n 24 + 1) 24 ≡ min (suc n) 24
min-suc n = omega arith

-- the run of a kind after an entry, by what the entry is as an IRTRY
runs : (before : RunFields) (kind : Kind) (irtry : Option (Kind × ℕ)) (count : Kind → ℕ) → ((l : Kind) → run_of l before ≡ min (count l) 24) →
    run_of kind (after_seen irtry before) ≡ min (if is_of_kind kind irtry then suc (count kind) else 0) 24
runs before kind None count same = either (same_kind before.kind kind) 0 refl
runs before kind (Some seen) count same = by_kind (same_kind seen.0 kind) refl
  where
    by_kind : (b : Bool) → same_kind seen.0 kind ≡ b → (if b then min (run_of seen.0 before + 1) 24 else 0) ≡ min (if b then suc (count kind) else 0) 24
    by_kind true is = ap (λ (l : Kind). min (run_of l before + 1) 24) (same_kind-is seen.0 kind is) ∙ ap (λ (n : ℕ). min (n + 1) 24) (same kind) ∙ min-suc (count kind)
    by_kind false is = refl

-- an entry that ends training is no IRTRY of a run
no_irtry : (q : Profile) (entry : ReceiverEntry) → mode_after Train entry ≢ Train → irtry_of_entry q entry ≡ None
no_irtry q (Land flit Quiet) left = absurd (left refl)
no_irtry q (Land flit (Ran kind)) left = absurd (left refl)
no_irtry q _ left = refl

-- so the receiver begins with no run
fresh : (q : Profile) (past : List ReceiverEntry) (entry : ReceiverEntry) (after : RunFields) (kind : Kind) → mode_after Train entry ≢ Train → after.count ≡ 0 → run_of kind after ≡ min (run q kind (entry ∷ past)) 24
unfolding run
fresh q past entry after kind left none =
    either (same_kind after.kind kind) after.count none
    ∙ sym (ap (λ (o : Option (Kind × ℕ)). min (if is_of_kind kind o then suc (run q kind past) else 0) 24) (no_irtry q entry left))

run-more : (q : Profile) (past : List ReceiverEntry) (entry : ReceiverEntry) (before : RunFields) (kind : Kind) → ((l : Kind) → run_of l before ≡ min (run q l past) 24) →
    run_of kind (after_seen (irtry_of_entry q entry) before) ≡ min (run q kind (entry ∷ past)) 24
unfolding run
run-more q past entry before kind same = runs before kind (irtry_of_entry q entry) (λ l. run q l past) same

-- ---- training

counts : (b : Bool) (n : ℕ) → (if b then min (min n 8 + 1) 8 else 0) ≡ min (if b then suc n else 0) 8
counts true n = omega arith
counts false n = refl

training-more : (q : Profile) (past : List ReceiverEntry) (entry : ReceiverEntry) (before : TrainFields) → before ≡ record { profile = q; count = min (training q past) 8 } →
    after_flit (trains q entry) before ≡ record { profile = q; count = min (training q (entry ∷ past)) 8 }
unfolding training
training-more q past entry before is =
    ap (λ (t : TrainFields). after_flit (trains q entry) t) is ∙ (λ i. record { profile = q; count = counts (trains q entry) (training q past) i })

-- ---- accepted packets

one-flits : (p : PacketFields) → flits_in (p ∷ []) ≡ flits_of p
one-flits p = sum_by-cons flits_of p [] ∙ omega arith

flits-append : (xs ys : List PacketFields) → flits_in (xs ++ ys) ≡ flits_in xs + flits_in ys
flits-append xs ys = sum_by-append flits_of xs ys

pointer-more : (q : Profile) (r s : ReceiverFields) (xs packets : List PacketFields) → r.profile ≡ q → Accepts r s packets → r.frp ≡ flits_in xs % modulus_of q → s.frp ≡ flits_in (xs ++ packets) % modulus_of q
pointer-more q r s xs [] same accepts is = accepts.0 ∙ is ∙ ap (λ (l : List PacketFields). flits_in l % modulus_of q) (sym (append-nil xs))
pointer-more q r s xs (p ∷ rest) same accepts is =
    accepts.1
    ∙ (λ i. (is i + flits_of p) % modulus_of (same i))
    ∙ mod_again q (flits_in xs) (flits_of p)
    ∙ ap (λ (n : ℕ). (flits_in xs + n) % modulus_of q) (sym (one-flits p) ∙ ap (λ (l : List PacketFields). flits_in (p ∷ l)) (sym accepts.0))
    ∙ ap (λ (n : ℕ). n % modulus_of q) (sym (flits-append xs (p ∷ rest)))

count-more : (r s : ReceiverFields) (xs packets : List PacketFields) → Accepts r s packets → r.seq ≡ length xs % 8 → s.seq ≡ length (xs ++ packets) % 8
count-more r s xs [] accepts is = accepts.1 ∙ is ∙ ap (λ (l : List PacketFields). length l % 8) (sym (append-nil xs))
count-more r s xs (p ∷ rest) accepts is =
    accepts.2
    ∙ ap (λ (n : ℕ). (n + 1) % 8) is
    ∙ eight_again (length xs) 1
    ∙ ap (λ (n : ℕ). n % 8) (sym (length-append xs (p ∷ [])))
    ∙ ap (λ (l : List PacketFields). length (xs ++ p ∷ l) % 8) (sym accepts.0)

latest-more : (r s : ReceiverFields) (before : PacketFields) (packets : List PacketFields) → Accepts r s packets → r.packet ≡ before → s.packet ≡ latest_of before packets
latest-more r s before [] accepts is = accepts.2 ∙ is
latest-more r s before (p ∷ rest) accepts is = accepts.3

-- ---- the list with one more entry

pub follows-stands : (q : Profile) (r s : ReceiverFields) (past : List ReceiverEntry) (entry : ReceiverEntry) → ReceiverStandsFor q r past → Follows r s entry → ReceiverStandsFor q s (entry ∷ past)
unfolding mode pending accepted latest
follows-stands q r s past entry is follows =
    let packets : List PacketFields = accepted_by q (pending past) entry in
    let accepts : Accepts r s packets = subst (λ (l : List PacketFields). Accepts r s l) (λ i. accepted_by (is.profile i) (is.gathered i) entry) follows.accepted in
    record {
      profile = follows.profile ∙ is.profile;
      mode = follows.mode ∙ ap (λ (m : Mode). mode_after m entry) is.mode;
      train = λ train. follows.train train
          ∙ ap (λ (p : Profile). after_flit (trains p entry) r.train) is.profile
          ∙ training-more q past entry r.train (is.train (train-before r.mode entry (sym follows.mode ∙ train)));
      runs = λ left kind. by_mode r.mode refl left kind;
      frp = pointer-more q r s (accepted q past) packets is.profile accepts is.frp;
      seq = count-more r s (accepted q past) packets accepts is.seq;
      packet = latest-more r s (latest q past) packets accepts is.packet;
      gathered = follows.gathered ∙ ap (λ (l : List (List ℕ)). gathered_after l entry) is.gathered;
    }
  where
    more : r.mode ≢ Train → (kind : Kind) → run_of kind s.runs ≡ min (run q kind (entry ∷ past)) 24
    more other kind =
        ap (λ (x : RunFields). run_of kind x) (follows.runs other)
        ∙ ap (λ (p : Profile). run_of kind (after_seen (irtry_of_entry p entry) r.runs)) is.profile
        ∙ run-more q past entry r.runs kind (is.runs other)

    by_mode : (m : Mode) → r.mode ≡ m → s.mode ≢ Train → (kind : Kind) → run_of kind s.runs ≡ min (run q kind (entry ∷ past)) 24
    by_mode Train e left kind = fresh q past entry s.runs kind (λ train. left (follows.mode ∙ ap (λ (m : Mode). mode_after m entry) e ∙ train)) (follows.fresh e)
    by_mode Abort e left kind = more (λ train. let clash : Abort ≡ Train = sym e ∙ train in cc) kind
    by_mode Good e left kind = more (λ train. let clash : Good ≡ Train = sym e ∙ train in cc) kind

-- of a landing
pub landing-stands : (q : Profile) (r s : ReceiverFields) (past : List ReceiverEntry) (flit : List ℕ) → ReceiverStandsFor q r past → Follows r s (Land flit (reception_by r.profile (view_of r) flit).outcome) → ReceiverStandsFor q s (landing_entry q past flit ∷ past)
landing-stands q r s past flit is follows =
    subst (λ o. ReceiverStandsFor q s (Land flit o ∷ past)) (ap (λ x. x.outcome) (reception-stands q r past flit is))
    (follows-stands q r s past (Land flit (reception_by r.profile (view_of r) flit).outcome) is follows)
