-- What each kind of landing leaves is what its entry changes.
use Rattle.std.proofs.Common.{◌≡◌, ◌≢◌, ◌∙◌, ◌+◌, ◌%◌, ℕ, Bool, true, false, List, [], ◌∷◌, ◌++◌, Option, Some, None, Result, Ok, Err, refl, sym, ap, subst, arith}
use Rattle.std.specs.Prelude.{◌==◌, nat_lt, if◌then◌else◌}
use Rattle.std.proofs.lemmas.Bool.{eqb-true, and_parts}
use Rattle.std.proofs.lemmas.Grind.{common_steps}
use Rattle.hmc_codes.specs.Commands.{layout_of, is_flow}
use Rattle.hmc_codes.specs.Profile.{modulus_of}
use Rattle.hmc_codes.specs.Table.{table_line}
use Rattle.hmc_codes.specs.declared.command.Command.{Command}
use Rattle.hmc_codes.specs.declared.command.Command.TheVariants.{Irtry}
use Rattle.hmc_codes.specs.declared.layout.Layout.{Layout}
use Rattle.hmc_codes.specs.declared.layout.Layout.TheVariants as layouts
use Rattle.hmc_codes.specs.declared.profile.Profile.{Profile}
use Rattle.hmc_irtry.specs.Runs.{run_of, after_seen, counted_after}
use Rattle.hmc_irtry.specs.declared.runs.Counted.TheVariants.{Below, Now, After}
use Rattle.hmc_packet.specs.declared.bad.Bad.{Bad}
use Rattle.hmc_packet.specs.declared.kind.Kind.{Kind}
use Rattle.hmc_packet.specs.declared.kind.Kind.TheVariants.{Start, Clear}
use Rattle.hmc_packet.specs.declared.outcome.Outcome.TheVariants.{Quiet, Trained, Gathered, Accepted, Poisoned, Repeat, AbortedBad, AbortedOrder, Ran}
use Rattle.hmc_packet.specs.declared.reception.Reception.{Reception}
use Rattle.hmc_packet.specs.declared.seen.Seen.{Seen}
use Rattle.hmc_packet.specs.declared.view.Mode.{Mode}
use Rattle.hmc_packet.specs.declared.view.Mode.TheVariants.{Train, Abort, Good}
use Rattle.hmc_packet.specs.Irtry.{kind_of, irtry_by, irtry_seen, irtry_in}
use Rattle.hmc_packet.specs.Landings.{ReceiverEntry, mode_after}
use Rattle.hmc_packet.specs.Landings.ReceiverEntry.{Land, Unlock}
use Rattle.hmc_packet.specs.Packet.{flits_of}
use Rattle.hmc_packet.specs.Reading.{IsSpelled, is_null, is_null_alone, read_of}
use Rattle.hmc_packet.specs.Receptions.{is_next, is_repeat, irtry_reception, sequenced_outcome, packet_reception, read_reception, abort_reception, LandingView}
use Rattle.hmc_packet.proofs.LinkLemmas.{flow-alone}
use Rattle.hmc_receive.specs.Receiver.{ReceiverFields, view_of, mode_ran, mode_counted, after_other, after_abort, after_gathered, after_irtry, after_accepted, after_sequenced, after_packet, after_alone, after_unlock, Follows}

-- ---- a receiver in Train was in Train before

pub train-before : (m : Mode) (entry : ReceiverEntry) → mode_after m entry ≡ Train → m ≡ Train
train-before Train entry is = refl
train-before m (Land flit Trained) is = absurd cc
train-before m (Land flit (AbortedBad bad)) is = absurd cc
train-before m (Land flit AbortedOrder) is = absurd cc
train-before m (Land flit (Ran Clear)) is = absurd cc
train-before m Unlock is = absurd cc
train-before Abort _ is = is
train-before Good _ is = is

-- ---- one flit in Abort or Good

quiet-mode : (m : Mode) (flit : List ℕ) → m ≡ mode_after m (Land flit Quiet)
quiet-mode Train flit = refl
quiet-mode Abort flit = refl
quiet-mode Good flit = refl

-- a flit that is quiet and no IRTRY
pub other-follows : (r : ReceiverFields) (flit : List ℕ) → r.mode ≢ Train → irtry_in r.profile flit ≡ None → Follows r (after_other r) (Land flit Quiet)
other-follows r flit trained none = record {
  profile = refl;
  mode = quiet-mode r.mode flit;
  train = λ train. absurd (trained train);
  runs = λ other. ap (λ (o : Option (Kind × ℕ)). after_seen o r.runs) (sym none);
  fresh = λ train. absurd (trained train);
  accepted = (refl, refl, refl);
  gathered = refl;
}

repeat-mode : (m : Mode) (flit : List ℕ) → m ≡ mode_after m (Land flit Repeat)
repeat-mode Train flit = refl
repeat-mode Abort flit = refl
repeat-mode Good flit = refl

repeat-follows : (r : ReceiverFields) (flit : List ℕ) → r.mode ≢ Train → Follows r (after_other r) (Land flit Repeat)
repeat-follows r flit trained = record {
  profile = refl;
  mode = repeat-mode r.mode flit;
  train = λ train. absurd (trained train);
  runs = λ other. refl;
  fresh = λ train. absurd (trained train);
  accepted = (refl, refl, refl);
  gathered = refl;
}

gathered-mode : (m : Mode) (flit : List ℕ) → m ≡ mode_after m (Land flit Gathered)
gathered-mode Train flit = refl
gathered-mode Abort flit = refl
gathered-mode Good flit = refl

pub gathered-follows : (r : ReceiverFields) (flit : List ℕ) → r.mode ≢ Train → Follows r (after_gathered flit r) (Land flit Gathered)
gathered-follows r flit trained = record {
  profile = refl;
  mode = gathered-mode r.mode flit;
  train = λ train. absurd (trained train);
  runs = λ other. refl;
  fresh = λ train. absurd (trained train);
  accepted = (refl, refl, refl);
  gathered = refl;
}

bad-mode : (m : Mode) (flit : List ℕ) (bad : Bad) → m ≢ Train → Abort ≡ mode_after m (Land flit (AbortedBad bad))
bad-mode Train flit bad trained = absurd (trained refl)
bad-mode Abort flit bad trained = refl
bad-mode Good flit bad trained = refl

pub bad-follows : (r : ReceiverFields) (flit : List ℕ) (bad : Bad) → r.mode ≢ Train → Follows r (after_abort r) (Land flit (AbortedBad bad))
bad-follows r flit bad trained = record {
  profile = refl;
  mode = bad-mode r.mode flit bad trained;
  train = λ train. absurd (let clash : Abort ≡ Train = train in cc);
  runs = λ other. refl;
  fresh = λ train. absurd (trained train);
  accepted = (refl, refl, refl);
  gathered = refl;
}

order-mode : (m : Mode) (flit : List ℕ) → m ≢ Train → Abort ≡ mode_after m (Land flit AbortedOrder)
order-mode Train flit trained = absurd (trained refl)
order-mode Abort flit trained = refl
order-mode Good flit trained = refl

order-follows : (r : ReceiverFields) (flit : List ℕ) → r.mode ≢ Train → Follows r (after_abort r) (Land flit AbortedOrder)
order-follows r flit trained = record {
  profile = refl;
  mode = order-mode r.mode flit trained;
  train = λ train. absurd (let clash : Abort ≡ Train = train in cc);
  runs = λ other. refl;
  fresh = λ train. absurd (trained train);
  accepted = (refl, refl, refl);
  gathered = refl;
}

-- ---- IRTRYs

ran-mode : (m : Mode) (kind : Kind) (flit : List ℕ) → m ≢ Train → mode_ran kind m ≡ mode_after m (Land flit (Ran kind))
ran-mode Train kind flit trained = absurd (trained refl)
ran-mode Abort Start flit trained = refl
ran-mode Abort Clear flit trained = refl
ran-mode Good Start flit trained = refl
ran-mode Good Clear flit trained = refl

irtry-mode : (n : ℕ) (kind : Kind) (m : Mode) (flit : List ℕ) → m ≢ Train → mode_counted (counted_after n) kind m ≡ mode_after m (Land flit (if n + 1 == 24 then Ran kind else Quiet))
irtry-mode n kind m flit trained = by_count (nat_lt (n + 1) 24) (n + 1 == 24) (λ few. grind (arith, common_steps))
  where
    by_count : (few ended : Bool) → (few ≡ true → ended ≡ false) → mode_counted (if few then Below else if ended then Now else After) kind m ≡ mode_after m (Land flit (if ended then Ran kind else Quiet))
    by_count true true apart = absurd (let clash : true ≡ false = apart refl in cc)
    by_count true false apart = quiet-mode m flit
    by_count false true apart = ran-mode m kind flit trained
    by_count false false apart = quiet-mode m flit

-- quiet or the end of a run
irtry-by : (r s : ReceiverFields) (flit : List ℕ) (kind : Kind) (rrp : ℕ) (ended : Bool) → r.mode ≢ Train → irtry_in r.profile flit ≡ Some (kind, rrp) → s ≡ after_irtry kind rrp r → s.mode ≡ mode_after r.mode (Land flit (if ended then Ran kind else Quiet)) →
    Follows r s (Land flit (if ended then Ran kind else Quiet))
irtry-by r s flit kind rrp true trained irtry is mode = record {
  profile = ap (λ (t : ReceiverFields). t.profile) is;
  mode = mode;
  train = λ train. absurd (trained (train-before r.mode (Land flit (Ran kind)) (sym mode ∙ train)));
  runs = λ other. ap (λ (t : ReceiverFields). t.runs) is ∙ ap (λ (o : Option (Kind × ℕ)). after_seen o r.runs) (sym irtry);
  fresh = λ train. absurd (trained train);
  accepted = (ap (λ (t : ReceiverFields). t.frp) is, ap (λ (t : ReceiverFields). t.seq) is, ap (λ (t : ReceiverFields). t.packet) is);
  gathered = ap (λ (t : ReceiverFields). t.gathered) is;
}
irtry-by r s flit kind rrp false trained irtry is mode = record {
  profile = ap (λ (t : ReceiverFields). t.profile) is;
  mode = mode;
  train = λ train. absurd (trained (train-before r.mode (Land flit Quiet) (sym mode ∙ train)));
  runs = λ other. ap (λ (t : ReceiverFields). t.runs) is ∙ ap (λ (o : Option (Kind × ℕ)). after_seen o r.runs) (sym irtry);
  fresh = λ train. absurd (trained train);
  accepted = (ap (λ (t : ReceiverFields). t.frp) is, ap (λ (t : ReceiverFields). t.seq) is, ap (λ (t : ReceiverFields). t.packet) is);
  gathered = ap (λ (t : ReceiverFields). t.gathered) is;
}

pub irtry-follows : (r : ReceiverFields) (flit : List ℕ) (kind : Kind) (rrp : ℕ) → r.mode ≢ Train → irtry_in r.profile flit ≡ Some (kind, rrp) → Follows r (after_irtry kind rrp r) (Land flit (irtry_reception (run_of kind r.runs) kind rrp).outcome)
irtry-follows r flit kind rrp trained irtry = irtry-by r (after_irtry kind rrp r) flit kind rrp (run_of kind r.runs + 1 == 24) trained irtry refl (irtry-mode (run_of kind r.runs) kind r.mode flit trained)

-- each flit in Abort
pub alone-follows : (r : ReceiverFields) (flit : List ℕ) (irtry : Option (Kind × ℕ)) → r.mode ≢ Train → irtry_in r.profile flit ≡ irtry → Follows r (after_alone irtry r) (Land flit (abort_reception (view_of r) irtry).outcome)
alone-follows r flit None trained is = other-follows r flit trained is
alone-follows r flit (Some irtry) trained is = irtry-follows r flit irtry.0 irtry.1 trained is

-- ---- a NULL

null-irtry : (q : Profile) (flit : List ℕ) → is_null flit ≡ true → irtry_in q flit ≡ None
unfolding irtry_in read_of is_null_alone
null-irtry q flit null = rw null refl

pub null-follows : (r : ReceiverFields) (flit : List ℕ) → r.mode ≢ Train → is_null flit ≡ true → Follows r (after_other r) (Land flit Quiet)
null-follows r flit trained null = other-follows r flit trained (null-irtry r.profile flit null)

-- ---- packets

accepted-mode : (m : Mode) (flit : List ℕ) → m ≡ mode_after m (Land flit Accepted)
accepted-mode Train flit = refl
accepted-mode Abort flit = refl
accepted-mode Good flit = refl

poisoned-mode : (m : Mode) (flit : List ℕ) → m ≡ mode_after m (Land flit Poisoned)
poisoned-mode Train flit = refl
poisoned-mode Abort flit = refl
poisoned-mode Good flit = refl

-- the packet that the gathered flits and this one read as, and its numbers
record Came (r : ReceiverFields) (flit : List ℕ) (seen : Seen) : Type 0 where
  trained : r.mode ≢ Train
  read : read_of r.profile (r.gathered ++ flit ∷ []) ≡ Ok seen

sequenced-by : (r : ReceiverFields) (flit : List ℕ) (seen : Seen) (next repeat poisoned : Bool) → Came r flit seen → is_next r.profile (view_of r) seen.packet ≡ next → is_repeat r.profile (view_of r) seen.packet ≡ repeat →
    Follows r (if next then after_accepted seen.packet r else if repeat then after_other r else after_abort r) (Land flit (if next then (if poisoned then Poisoned else Accepted) else if repeat then Repeat else AbortedOrder))
sequenced-by r flit seen true repeat true came next again =
    let both = and_parts (seen.packet.frp == (r.frp + flits_of seen.packet) % modulus_of r.profile) (seen.packet.seq == (r.seq + 1) % 8) next in record {
      profile = refl;
      mode = poisoned-mode r.mode flit;
      train = λ train. absurd (came.trained train);
      runs = λ other. refl;
      fresh = λ train. absurd (came.trained train);
      accepted = rw came.read (refl, eqb-true _ _ both.0, eqb-true _ _ both.1, refl);
      gathered = refl;
    }
sequenced-by r flit seen true repeat false came next again =
    let both = and_parts (seen.packet.frp == (r.frp + flits_of seen.packet) % modulus_of r.profile) (seen.packet.seq == (r.seq + 1) % 8) next in record {
      profile = refl;
      mode = accepted-mode r.mode flit;
      train = λ train. absurd (came.trained train);
      runs = λ other. refl;
      fresh = λ train. absurd (came.trained train);
      accepted = rw came.read (refl, eqb-true _ _ both.0, eqb-true _ _ both.1, refl);
      gathered = refl;
    }
sequenced-by r flit seen false true poisoned came next again = repeat-follows r flit came.trained
sequenced-by r flit seen false false poisoned came next again = order-follows r flit came.trained

sequenced-follows : (r : ReceiverFields) (flit : List ℕ) (seen : Seen) → Came r flit seen → Follows r (after_sequenced seen.packet r) (Land flit (sequenced_outcome r.profile (view_of r) seen.packet))
sequenced-follows r flit seen came = sequenced-by r flit seen _ _ seen.packet.poisoned came refl refl

-- by its layout, a packet is an IRTRY or none
irtry_of_layout : Layout → (frp rrp : ℕ) → Option (Kind × ℕ)
irtry_of_layout layouts.Irtry frp rrp = Some (kind_of frp, rrp)
irtry_of_layout _ frp rrp = None

irtry_by-layout : (c : Command) (frp rrp : ℕ) → irtry_by c frp rrp ≡ irtry_of_layout (layout_of c) frp rrp
unfolding irtry_of_layout table_line
irtry_by-layout Irtry frp rrp = refl
irtry_by-layout _ frp rrp = refl

-- what reads as an IRTRY is received as one
seen-reception : (q : Profile) (view : LandingView) (read : Result Seen Bad) (kind : Kind) (rrp : ℕ) → irtry_seen read ≡ Some (kind, rrp) → irtry_reception (view.run kind) kind rrp ≡ read_reception q view read
unfolding irtry_of_layout
seen-reception q view (Err bad) kind rrp is = absurd (let clash : None ≡ Some (kind, rrp) = is in cc)
seen-reception q view (Ok seen) kind rrp is = by_layout (layout_of seen.packet.command) (sym (irtry_by-layout seen.packet.command seen.packet.frp seen.rrp) ∙ is)
  where
    by_pair : (found wanted : Kind × ℕ) → Some found ≡ Some wanted → found ≡ wanted
    by_pair found wanted is = cc

    by_layout : (layout : Layout) → irtry_of_layout layout seen.packet.frp seen.rrp ≡ Some (kind, rrp) → irtry_reception (view.run kind) kind rrp ≡ packet_reception q view layout seen
    by_layout layouts.Irtry is = let pair = by_pair (kind_of seen.packet.frp, seen.rrp) (kind, rrp) is in ap (λ (p : Kind × ℕ). irtry_reception (view.run p.0) p.0 p.1) (sym pair)
    by_layout layouts.Null is = absurd (let clash : None ≡ Some (kind, rrp) = is in cc)
    by_layout layouts.Pret is = absurd (let clash : None ≡ Some (kind, rrp) = is in cc)
    by_layout layouts.Tret is = absurd (let clash : None ≡ Some (kind, rrp) = is in cc)
    by_layout layouts.Ask is = absurd (let clash : None ≡ Some (kind, rrp) = is in cc)
    by_layout layouts.Reply is = absurd (let clash : None ≡ Some (kind, rrp) = is in cc)

-- where nothing is gathered, a flit is read alone
pub last-reception : (r : ReceiverFields) (flit : List ℕ) (kind : Kind) (rrp : ℕ) → r.gathered ≡ [] → irtry_in r.profile flit ≡ Some (kind, rrp) →
    irtry_reception (run_of kind r.runs) kind rrp ≡ read_reception r.profile (view_of r) (read_of r.profile (r.gathered ++ flit ∷ []))
unfolding irtry_in
last-reception r flit kind rrp empty irtry =
    seen-reception r.profile (view_of r) (read_of r.profile (flit ∷ [])) kind rrp irtry
    ∙ ap (λ (g : List (List ℕ)). read_reception r.profile (view_of r) (read_of r.profile (g ++ flit ∷ []))) (sym empty)

last_of_one : (xs : List (List ℕ)) (x y : List ℕ) → xs ++ x ∷ [] ≡ y ∷ [] → x ≡ y
last_of_one [] x y is = cc
last_of_one (z ∷ []) x y is = absurd cc
last_of_one (z ∷ w ∷ xs) x y is = absurd cc

-- a flow packet has no other flits, so the flit that landed reads alone as it does
flow-irtry : (q : Profile) (pending : List (List ℕ)) (flit : List ℕ) (seen : Seen) → IsSpelled q (pending ++ flit ∷ []) seen → is_flow (layout_of seen.packet.command) ≡ true → irtry_in q flit ≡ irtry_of_layout (layout_of seen.packet.command) seen.packet.frp seen.rrp
unfolding irtry_in
flow-irtry q pending flit seen spelled flow =
    let one = flow-alone q seen.packet seen.rrp spelled.packet spelled.pointer flow in
    let same : flit ≡ one.0 = last_of_one pending flit one.0 (spelled.spelled ∙ one.1) in
    ap (λ (f : List ℕ). irtry_in q f) same ∙ rw one.2 (irtry_by-layout seen.packet.command seen.packet.frp seen.rrp)

by_layout : (r : ReceiverFields) (flit : List ℕ) (seen : Seen) (layout : Layout) → Came r flit seen → (is_flow layout ≡ true → irtry_in r.profile flit ≡ irtry_of_layout layout seen.packet.frp seen.rrp) →
    Follows r (after_packet layout seen r) (Land flit (packet_reception r.profile (view_of r) layout seen).outcome)
unfolding irtry_of_layout
by_layout r flit seen layouts.Null came irtry = other-follows r flit came.trained (irtry refl)
by_layout r flit seen layouts.Pret came irtry = other-follows r flit came.trained (irtry refl)
by_layout r flit seen layouts.Irtry came irtry = irtry-follows r flit (kind_of seen.packet.frp) seen.rrp came.trained (irtry refl)
by_layout r flit seen layouts.Tret came irtry = sequenced-follows r flit seen came
by_layout r flit seen layouts.Ask came irtry = sequenced-follows r flit seen came
by_layout r flit seen layouts.Reply came irtry = sequenced-follows r flit seen came

-- a packet that was read
pub packet-follows : (r : ReceiverFields) (flit : List ℕ) (seen : Seen) → r.mode ≢ Train → read_of r.profile (r.gathered ++ flit ∷ []) ≡ Ok seen → IsSpelled r.profile (r.gathered ++ flit ∷ []) seen →
    Follows r (after_packet (layout_of seen.packet.command) seen r) (Land flit (packet_reception r.profile (view_of r) (layout_of seen.packet.command) seen).outcome)
packet-follows r flit seen trained read spelled =
    by_layout r flit seen (layout_of seen.packet.command) (record { trained = trained; read = read }) (flow-irtry r.profile r.gathered flit seen spelled)

-- what it leaves doesn't depend on the gathered flits
pub after_packet-gathered : (r : ReceiverFields) (layout : Layout) (seen : Seen) → after_packet layout seen (record r { gathered = [] }) ≡ after_packet layout seen r
after_packet-gathered r layouts.Null seen = refl
after_packet-gathered r layouts.Pret seen = refl
after_packet-gathered r layouts.Irtry seen = refl
after_packet-gathered r layouts.Tret seen = refl
after_packet-gathered r layouts.Ask seen = refl
after_packet-gathered r layouts.Reply seen = refl

reception-gathered : (r : ReceiverFields) (layout : Layout) (seen : Seen) → packet_reception r.profile (view_of (record r { gathered = [] })) layout seen ≡ packet_reception r.profile (view_of r) layout seen
reception-gathered r layouts.Null seen = refl
reception-gathered r layouts.Pret seen = refl
reception-gathered r layouts.Irtry seen = refl
reception-gathered r layouts.Tret seen = refl
reception-gathered r layouts.Ask seen = refl
reception-gathered r layouts.Reply seen = refl

-- ---- the same of what a call left and gave

pub given : (r s t : ReceiverFields) (flit : List ℕ) (a b : Reception) → Follows r t (Land flit b.outcome) → s ≡ t → a ≡ b → Follows r s (Land flit a.outcome)
given r s t flit a b follows left gave =
    subst (λ (x : Reception). Follows r s (Land flit x.outcome)) (sym gave) (subst (λ (x : ReceiverFields). Follows r x (Land flit b.outcome)) (sym left) follows)

pub good-trained : (m : Mode) → m ≡ Good → m ≢ Train
good-trained m is train = let clash : Good ≡ Train = sym is ∙ train in cc

pub abort-trained : (m : Mode) → m ≡ Abort → m ≢ Train
abort-trained m is train = let clash : Abort ≡ Train = sym is ∙ train in cc

-- a packet was read with the gathered flits, which are gone
pub last-given : (r t s : ReceiverFields) (flit : List ℕ) (seen : Seen) (layout : Layout) (reception : Reception) → r.mode ≡ Good → read_of r.profile (r.gathered ++ flit ∷ []) ≡ Ok seen → IsSpelled r.profile (r.gathered ++ flit ∷ []) seen →
    t ≡ record r { gathered = [] } → layout ≡ layout_of seen.packet.command → s ≡ after_packet layout seen t → reception ≡ packet_reception t.profile (view_of t) layout seen →
    Follows r s (Land flit reception.outcome)
last-given r t s flit seen layout reception good read spelled gone named left gave =
    given r s (after_packet (layout_of seen.packet.command) seen r) flit reception (packet_reception r.profile (view_of r) (layout_of seen.packet.command) seen)
    (packet-follows r flit seen (good-trained r.mode good) read spelled)
    (left ∙ (λ i. after_packet (named i) seen (gone i)) ∙ after_packet-gathered r (layout_of seen.packet.command) seen)
    (gave ∙ (λ i. packet_reception (gone i).profile (view_of (gone i)) (named i) seen) ∙ reception-gathered r (layout_of seen.packet.command) seen)

-- ---- a lost framing

pub unlock-follows : (r s : ReceiverFields) → s ≡ after_unlock r.mode r → Follows r s Unlock
unlock-follows r s left = subst (λ (x : ReceiverFields). Follows r x Unlock) (sym left) (by_mode r.mode refl)
  where
    by_mode : (m : Mode) → r.mode ≡ m → Follows r (after_unlock m r) Unlock
    by_mode Train e = record {
      profile = refl;
      mode = e ∙ ap (λ (m : Mode). mode_after m Unlock) (sym e);
      train = λ train. refl;
      runs = λ other. refl;
      fresh = λ train. refl;
      accepted = (refl, refl, refl);
      gathered = refl;
    }
    by_mode Abort e = record {
      profile = refl;
      mode = ap (λ (m : Mode). mode_after m Unlock) (sym e);
      train = λ train. absurd (let clash : Abort ≡ Train = train in cc);
      runs = λ other. refl;
      fresh = λ train. refl;
      accepted = (refl, refl, refl);
      gathered = refl;
    }
    by_mode Good e = record {
      profile = refl;
      mode = ap (λ (m : Mode). mode_after m Unlock) (sym e);
      train = λ train. absurd (let clash : Abort ≡ Train = train in cc);
      runs = λ other. refl;
      fresh = λ train. refl;
      accepted = (refl, refl, refl);
      gathered = refl;
    }
