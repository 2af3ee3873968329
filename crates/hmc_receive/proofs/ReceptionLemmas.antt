-- A receiver gives what the list that it stands for gives.
use Rattle.std.proofs.Common.{◌≡◌, ◌≢◌, ◌∙◌, ◌+◌, ◌-◌, ◌%◌, ℕ, min, Bool, List, [], ◌∷◌, ◌++◌, length, Option, Some, None, Result, Ok, Err, refl, sym, ap, arith}
use Rattle.std.specs.Prelude.{◌==◌, ◌&&◌, nat_le, nat_lt, if◌then◌else◌}
use Rattle.std.proofs.lemmas.Grind.{common_steps}
use Rattle.hmc_codes.proofs.General.{mod_again, eight_again}
use Rattle.hmc_codes.specs.Commands.{layout_of}
use Rattle.hmc_codes.specs.Profile.{modulus_of, window_of}
use Rattle.hmc_codes.specs.declared.layout.Layout.{Layout}
use Rattle.hmc_codes.specs.declared.layout.Layout.TheVariants as layouts
use Rattle.hmc_codes.specs.declared.profile.Profile.{Profile}
use Rattle.hmc_packet.specs.declared.bad.Bad.{Bad}
use Rattle.hmc_packet.specs.declared.bad.Bad.TheVariants as bads
use Rattle.hmc_packet.specs.declared.kind.Kind.{Kind}
use Rattle.hmc_packet.specs.declared.outcome.Outcome.{Outcome}
use Rattle.hmc_packet.specs.declared.outcome.Outcome.TheVariants.{Quiet, Trained, Gathered, Accepted, Poisoned, Repeat, AbortedBad, AbortedOrder, Ran}
use Rattle.hmc_packet.specs.declared.reception.Reception.{Reception}
use Rattle.hmc_packet.specs.declared.seen.Seen.{Seen}
use Rattle.hmc_packet.specs.declared.view.Mode.{Mode}
use Rattle.hmc_packet.specs.declared.view.Mode.TheVariants.{Train, Abort, Good}
use Rattle.hmc_packet.specs.Irtry.{kind_of, irtry_in}
use Rattle.hmc_packet.specs.Landings.{ReceiverEntry, is_training}
use Rattle.hmc_packet.specs.Packet.{PacketFields, flits_of}
use Rattle.hmc_packet.specs.Parts.{lng_of}
use Rattle.hmc_packet.specs.Reading.{is_null, read_of}
use Rattle.hmc_packet.specs.Receptions.{LandingView, landing_view, unchecked, checked, irtry_reception, abort_reception, sequenced_outcome, packet_reception, read_reception, flits_reception, is_no_length, lng_with, good_reception, mode_reception, reception_by, reception_of}
use Rattle.hmc_receive.specs.Receiver.{ReceiverFields, view_of}
use Rattle.hmc_receive.specs.StandsFor.{ReceiverStandsFor}

-- ---- counts that stand still at their end say as much as those that go on

at-24 : (n : ℕ) → (min n 24 + 1 == 24) ≡ (n + 1 == 24)
at-24 n = grind (arith, common_steps)

from-24 : (n : ℕ) → nat_le 24 (min n 24 + 1) ≡ nat_le 24 (n + 1)
from-24 n = grind (arith, common_steps)

at-8 : (n : ℕ) → (min n 8 + 1 == 8) ≡ (n + 1 == 8)
at-8 n = grind (arith, common_steps)

irtry-min : (n : ℕ) (kind : Kind) (rrp : ℕ) → irtry_reception (min n 24) kind rrp ≡ irtry_reception n kind rrp
irtry-min n kind rrp = λ i. checked (if at-24 n i then Ran kind else Quiet) (if from-24 n i then Some rrp else None)

-- ---- no landing outside Train tells two such views apart

record Alike (q : Profile) (a b : LandingView) : Type 0 where
  run : (kind : Kind) → a.run kind ≡ min (b.run kind) 24
  flits : a.flits ≡ b.flits % modulus_of q
  packets : a.packets ≡ b.packets % 8

irtry-alike : (q : Profile) (a b : LandingView) (kind : Kind) (rrp : ℕ) → Alike q a b → irtry_reception (a.run kind) kind rrp ≡ irtry_reception (b.run kind) kind rrp
irtry-alike q a b kind rrp like = ap (λ (n : ℕ). irtry_reception n kind rrp) (like.run kind) ∙ irtry-min (b.run kind) kind rrp

abort-alike : (q : Profile) (a b : LandingView) (irtry : Option (Kind × ℕ)) → Alike q a b → abort_reception a irtry ≡ abort_reception b irtry
abort-alike q a b None like = refl
abort-alike q a b (Some irtry) like = irtry-alike q a b irtry.0 irtry.1 like

sequenced-alike : (q : Profile) (a b : LandingView) (p : PacketFields) → Alike q a b → sequenced_outcome q a p ≡ sequenced_outcome q b p
sequenced-alike q a b p like =
    let next : (a.flits + flits_of p) % modulus_of q ≡ (b.flits + flits_of p) % modulus_of q = ap (λ (n : ℕ). (n + flits_of p) % modulus_of q) like.flits ∙ mod_again q b.flits (flits_of p) in
    let seq : (a.packets + 1) % 8 ≡ (b.packets + 1) % 8 = ap (λ (n : ℕ). (n + 1) % 8) like.packets ∙ eight_again b.packets 1 in
    let back : (a.flits + (modulus_of q - p.frp)) % modulus_of q ≡ (b.flits + (modulus_of q - p.frp)) % modulus_of q =
    ap (λ (n : ℕ). (n + (modulus_of q - p.frp)) % modulus_of q) like.flits ∙ mod_again q b.flits (modulus_of q - p.frp) in
    λ i. if (p.frp == next i) && (p.seq == seq i) then (if p.poisoned then Poisoned else Accepted) else if nat_lt (back i) (window_of q) then Repeat else AbortedOrder

packet-alike : (q : Profile) (a b : LandingView) (layout : Layout) (seen : Seen) → Alike q a b → packet_reception q a layout seen ≡ packet_reception q b layout seen
packet-alike q a b layouts.Null seen like = refl
packet-alike q a b layouts.Irtry seen like = irtry-alike q a b (kind_of seen.packet.frp) seen.rrp like
packet-alike q a b layouts.Pret seen like = refl
packet-alike q a b _ seen like = ap (λ (o : Outcome). checked o (Some seen.rrp)) (sequenced-alike q a b seen.packet like)

read-alike : (q : Profile) (a b : LandingView) (read : Result Seen Bad) → Alike q a b → read_reception q a read ≡ read_reception q b read
read-alike q a b (Err bad) like = refl
read-alike q a b (Ok seen) like = packet-alike q a b (layout_of seen.packet.command) seen like

good-alike : (q : Profile) (a b : LandingView) (flit : List ℕ) → a.pending ≡ b.pending → Alike q a b → good_reception q a flit ≡ good_reception q b flit
good-alike q a b flit pending like =
    (λ i. if length (pending i) == 0 && is_null flit then checked Quiet None else
    if length (pending i) == 0 && is_no_length (lng_of flit) then unchecked (AbortedBad bads.Length) else
    flits_reception q a (lng_with (pending i) flit) (pending i ++ flit ∷ []))
    ∙ ap (λ (l : Reception). if length b.pending == 0 && is_null flit then checked Quiet None else
    if length b.pending == 0 && is_no_length (lng_of flit) then unchecked (AbortedBad bads.Length) else
    if nat_lt (length (b.pending ++ flit ∷ [])) (lng_with b.pending flit) then unchecked Gathered else l)
    (read-alike q a b (read_of q (b.pending ++ flit ∷ [])) like)

-- by the mode
by_mode : (q : Profile) (a b : LandingView) (flit : List ℕ) (m : Mode) → a.mode ≡ m → a.mode ≡ b.mode → a.pending ≡ b.pending → (a.mode ≡ Train → a.training ≡ min b.training 8) → (a.mode ≢ Train → Alike q a b) →
    reception_by q a flit ≡ reception_by q b flit
unfolding reception_by
by_mode q a b flit Train is mode pending training like =
    ap (λ (m : Mode). mode_reception m q a flit) is
    ∙ ap (λ (n : ℕ). if is_training q flit then checked (if n + 1 == 8 then Trained else Quiet) None else unchecked Quiet) (training is)
    ∙ ap (λ (t : Bool). if is_training q flit then checked (if t then Trained else Quiet) None else unchecked Quiet) (at-8 b.training)
    ∙ ap (λ (m : Mode). mode_reception m q b flit) (sym is ∙ mode)
by_mode q a b flit Abort is mode pending training like =
    ap (λ (m : Mode). mode_reception m q a flit) is
    ∙ abort-alike q a b (irtry_in q flit) (like (λ e. let clash : Abort ≡ Train = sym is ∙ e in cc))
    ∙ ap (λ (m : Mode). mode_reception m q b flit) (sym is ∙ mode)
by_mode q a b flit Good is mode pending training like =
    ap (λ (m : Mode). mode_reception m q a flit) is
    ∙ good-alike q a b flit pending (like (λ e. let clash : Good ≡ Train = sym is ∙ e in cc))
    ∙ ap (λ (m : Mode). mode_reception m q b flit) (sym is ∙ mode)

-- what it gives is what the list gives
pub reception-stands : (q : Profile) (r : ReceiverFields) (past : List ReceiverEntry) (flit : List ℕ) → ReceiverStandsFor q r past → reception_by r.profile (view_of r) flit ≡ reception_of q past flit
unfolding reception_of landing_view
reception-stands q r past flit is =
    ap (λ (p : Profile). reception_by p (view_of r) flit) is.profile
    ∙ by_mode q (view_of r) (landing_view q past) flit r.mode refl is.mode is.gathered
    (λ train. ap (λ t. t.count) (is.train train))
    (λ other. record { run = is.runs other; flits = is.frp; packets = is.seq })
