-- What is taken for a repeat was accepted before. Used by LawsHold.
use Rattle.std.proofs.Common.{◌≡◌, ◌∙◌, ◌<◌, ◌≤◌, ◌-◌, ◌+◌, ℕ, zero, suc, Bool, true, false, List, [], ◌∷◌, ◌++◌, length, get_or, Ok, refl, sym, ap, subst, arith, length-append}
use Rattle.std.specs.Prelude.{◌==◌, ◌||◌, nat_lt, if◌then◌else◌}
use Rattle.std.proofs.lemmas.Grind.{common_steps}
use Rattle.std.proofs.lemmas.List.{get_or_append_left}
use Rattle.hmc_codes.specs.Commands.{layout_of}
use Rattle.hmc_codes.specs.Profile.{most_retry}
use Rattle.hmc_codes.specs.declared.layout.Layout.{Layout}
use Rattle.hmc_codes.specs.declared.layout.Layout.TheVariants as layouts
use Rattle.hmc_codes.specs.declared.profile.Profile.{Profile}
use Rattle.hmc_packet.specs.declared.bad.Bad.{Bad}
use Rattle.hmc_packet.specs.declared.kind.Kind as outer
use Rattle.hmc_packet.specs.declared.outcome.Outcome.TheVariants as out
use Rattle.hmc_packet.specs.declared.reception.Reception.{Reception}
use Rattle.hmc_packet.specs.declared.seen.Seen.{Seen}
use Rattle.hmc_packet.specs.declared.view.Mode.TheVariants.{Good}
use Rattle.hmc_packet.specs.Irtry as irtry
use Rattle.hmc_packet.specs.Landings as receipts
use Rattle.hmc_packet.specs.Landings.{ReceiverEntry, whole_run}
use Rattle.hmc_packet.specs.Packet.{PacketFields, null_packet}
use Rattle.hmc_packet.specs.Reading.{read_of}
use Rattle.hmc_packet.specs.Receptions.{LandingView, landing_view, packet_reception, reception_by, reception_of}
use Rattle.hmc_numbers.specs.Weights.{Weight}
use Rattle.hmc_numbers.specs.Direction.{Item, Reached, Reached as far, number_of, front_or}
use Rattle.hmc_numbers.specs.Direction.Item.{filler, clear, part}
use Rattle.hmc_numbers.specs.DirectionLaws.{DirectionLaws, ContinuesGathered}
use Rattle.hmc_numbers.specs.May.{May, IsGood, IsEnd}
use Rattle.hmc_wire.proofs.Grammar.{Read as reads}
use Rattle.hmc_wire.proofs.GrammarLandings.{Mode, Mode as modes, Outcome, Outcome as outcomes}
use Rattle.hmc_wire.proofs.GrammarLandings as inner
use Rattle.hmc_wire.proofs.Spelled.{Sent, Spelled, fronts}
use Rattle.hmc_wire.proofs.Matches.{IsAt, reading_of, event_of, packets_to}
use Rattle.hmc_wire.proofs.Actions.{SideOf, MayLand}
use Rattle.hmc_wire.proofs.ActionLaw.{Linked, facts, landing_done}
use Rattle.hmc_wire.proofs.PacketGrammar.{grammar, alone, read_as, read_by}
use Rattle.hmc_wire.proofs.Words.{outcome_as, mode_as}
use Rattle.hmc_wire.proofs.LandingCases.{Case, Case as case, case_of}
use Rattle.hmc_wire.proofs.Mirrors.{mirrored}
use Rattle.hmc_wire.proofs.Ways.{Lists, Way}
use Rattle.hmc_wire.proofs.Links.{accepted-is}

-- the case of a repeat

-- a landing that ends a packet
pub record IsWhole (q : Profile) (r : LandingView) (flit : List ℕ) (l : Reception) : Type 0 where
  pub mode : r.mode ≡ Good
  pub seen : Seen
  pub read : read_of q (r.pending ++ flit ∷ []) ≡ Ok seen
  pub packet : read_by (layout_of seen.packet.command) seen.packet seen.rrp ≡ reads.packet seen.packet seen.rrp
  pub checked : l.checked ≡ true

retry-never : (b : Bool) (k : outer.Kind) → (if b then out.Ran k else out.Quiet) ≡ out.Repeat → ⊥
retry-never true k e = cc e
retry-never false k e = cc e

by_layout : (q : Profile) (r : LandingView) (flit : List ℕ) (layout : Layout) (seen : Seen) → layout ≡ layout_of seen.packet.command → r.mode ≡ Good → read_of q (r.pending ++ flit ∷ []) ≡ Ok seen → (packet_reception q r layout seen).outcome ≡ out.Repeat →
    IsWhole q r flit (packet_reception q r layout seen)
by_layout q r flit layouts.Null seen e m read is = absurd (let clash : out.Quiet ≡ out.Repeat = is in cc clash)
by_layout q r flit layouts.Irtry seen e m read is = absurd (retry-never (r.run (irtry.kind_of seen.packet.frp) + 1 == whole_run) (irtry.kind_of seen.packet.frp) is)
by_layout q r flit layouts.Pret seen e m read is = absurd (let clash : out.Quiet ≡ out.Repeat = is in cc clash)
by_layout q r flit layouts.Tret seen e m read is = record { mode = m; seen = seen; read = read; packet = ap (λ (l : Layout). read_by l seen.packet seen.rrp) (sym e); checked = refl }
by_layout q r flit layouts.Ask seen e m read is = record { mode = m; seen = seen; read = read; packet = ap (λ (l : Layout). read_by l seen.packet seen.rrp) (sym e); checked = refl }
by_layout q r flit layouts.Reply seen e m read is = record { mode = m; seen = seen; read = read; packet = ap (λ (l : Layout). read_by l seen.packet seen.rrp) (sym e); checked = refl }

repeat-case : (q : Profile) (r : LandingView) (flit : List ℕ) (l : Reception) → Case q r flit l → l.outcome ≡ out.Repeat → IsWhole q r flit l
repeat-case q r flit l (case.trained m a b) is = absurd (cc is)
repeat-case q r flit l (case.trains m a b) is = absurd (cc is)
repeat-case q r flit l (case.untrained m a) is = absurd (cc is)
repeat-case q r flit l (case.aborting m e) is = absurd (cc is)
repeat-case q r flit l (case.retried m seen e) is = absurd (retry-never (r.run seen.0 + 1 == whole_run) seen.0 is)
repeat-case q r flit l (case.null m p n) is = absurd (cc is)
repeat-case q r flit l (case.no_length m p n b) is = absurd (cc is)
repeat-case q r flit l (case.gathered m b) is = absurd (cc is)
repeat-case q r flit l (case.refused m b bad e) is = absurd (cc is)
repeat-case q r flit l (case.whole m b seen e) is = by_layout q r flit (layout_of seen.packet.command) seen refl m e is

pub repeat-whole : (q : Profile) (rs : List ReceiverEntry) (flit : List ℕ) → out.Repeat ≡ (reception_of q rs flit).outcome → IsWhole q (landing_view q rs) flit (reception_of q rs flit)
unfolding reception_of
repeat-whole q rs flit is = repeat-case q (landing_view q rs) flit (reception_by q (landing_view q rs) flit) (case_of q (landing_view q rs) flit) (sym is)

-- the packets up to one

length-to : (g : ℕ → PacketFields) (n : ℕ) → length (packets_to g n) ≡ n
length-to g zero = refl
length-to g (suc n) = let e = length-append (packets_to g n) (g (suc n) ∷ []) in let h = length-to g n in omega arith

at-end : (l : List PacketFields) (x : PacketFields) → get_or (l ++ x ∷ []) (length l) null_packet ≡ x
at-end [] x = refl
at-end (y ∷ l) x = at-end l x

le-or : (n m : ℕ) (b : Bool) → nat_lt m n ≡ b → n ≤ suc m → (b ≡ true → n ≡ suc m) × (b ≡ false → n ≤ m)
le-or n m true e le = ((λ q. let h : m < n = grind (arith, common_steps) in omega arith), λ q. absurd (let clash : true ≡ false = q in cc))
le-or n m false e le = ((λ q. absurd (let clash : false ≡ true = q in cc)), λ q. grind (arith, common_steps))

pub packet-at : (g : ℕ → PacketFields) (m n : ℕ) → 1 ≤ n → n ≤ m → get_or (packets_to g m) (n - 1) null_packet ≡ g n
packet-at g zero n some le = absurd (omega arith)
packet-at g (suc m) n some le = by_last (nat_lt m n) refl (packet-at g m n some)
  where
    by_last : (b : Bool) → nat_lt m n ≡ b → (n ≤ m → get_or (packets_to g m) (n - 1) null_packet ≡ g n) → get_or (packets_to g m ++ g (suc m) ∷ []) (n - 1) null_packet ≡ g n
    by_last true e before =
        let same : n ≡ suc m = (le-or n m true e le).0 refl in
        let len = length-to g m in
        let k : n - 1 ≡ length (packets_to g m) = omega arith in
        (λ i. get_or (packets_to g m ++ g (suc m) ∷ []) (k i) null_packet) ∙ at-end (packets_to g m) (g (suc m)) ∙ ap g (sym same)
    by_last false e before =
        let below : n ≤ m = (le-or n m false e le).1 refl in
        let len = length-to g m in
        get_or_append_left (packets_to g m) (g (suc m) ∷ []) null_packet (n - 1) (omega arith) ∙ before below

-- what is gathered before a last flit

gathered-is : (q : Profile) (s : Sent (grammar q)) (ps : List Weight) (x : Reached) (m : Mode) (b : Bool) (fs : List (List ℕ)) (n k more : ℕ) → IsAt (grammar q) s ps x m b fs → IsGood x → ContinuesGathered x (part n k more) → fs ≡ fronts (s.front n) k
gathered-is q s ps far.between m b fs n k more at good behind = at.2 ∙ ap (fronts (s.front n)) (sym behind)
gathered-is q s ps (far.inside i j) m b fs n k more at good behind = at.2 ∙ (λ z. fronts (s.front (sym behind.0 z)) (sym behind.1 z))
gathered-is q s ps far.training m b fs n k more at good behind = absurd good
gathered-is q s ps far.aborting m b fs n k more at good behind = absurd good
gathered-is q s ps far.spoilt m b fs n k more at good behind = absurd good

or_false : (a b : Bool) → ((a || b) ≡ true → ⊥) → a ≡ false
or_false true b no_way = absurd (no_way refl)
or_false false b no_way = refl

abbrev ReadPath : reads PacketFields Bad → reads PacketFields Bad → Type 0
ReadPath x y = x ≡ y

packet-same : (p t : PacketFields) (r s : ℕ) → ReadPath (reads.packet p r) (reads.packet t s) → p ≡ t
packet-same p t r s e = cc

-- of a packet that is accepted
pub record Old (q : Profile) (rs : List ReceiverEntry) (flit : List ℕ) : Type 0 where
  pub seen : Seen
  pub read : read_of q (receipts.pending rs ++ flit ∷ []) ≡ Ok seen
  pub number : ℕ
  pub inside : number < length (receipts.accepted q rs)
  pub same : get_or (receipts.accepted q rs) number null_packet ≡ seen.packet

-- the front of the line is a last flit
old-by : (q : Profile) (retry adv : ℕ) (mine : Lists q) (s : Sent (grammar q)) (own oth : SideOf (grammar q)) (flit : List ℕ) (x : Item) (xs : List Item) →
    Way q retry mine own → Linked (grammar q) s retry adv own oth → DirectionLaws q retry own.half.direction → own.half.direction.line ≡ x ∷ xs → Spelled (grammar q) s own.half.direction.first x flit →
    IsGood own.half.direction.far → IsEnd (x ∷ xs) → number_of x ≤ own.half.direction.accepted → (seen : Seen) → read_of q (receipts.pending mine.receiver ++ flit ∷ []) ≡ Ok seen →
    read_by (layout_of seen.packet.command) seen.packet seen.rrp ≡ reads.packet seen.packet seen.rrp → Old q mine.receiver flit
old-by q retry adv mine s own oth flit (filler f) xs is linked laws line spelled good end le seen read packet = absurd end
old-by q retry adv mine s own oth flit clear xs is linked laws line spelled good end le seen read packet = absurd end
old-by q retry adv mine s own oth flit (part n k (suc more)) xs is linked laws line spelled good end le seen read packet = absurd end
old-by q retry adv mine s own oth flit (part n k zero) xs is linked laws line spelled good end le seen read packet =
    let placed = laws.placed n k 0 xs line in
    let least = placed.least in
    let accepted = accepted-is q retry adv mine s own oth is linked in
    let count : length (receipts.accepted q mine.receiver) ≡ own.half.direction.accepted = ap (λ (ps : List PacketFields). length ps) accepted ∙ length-to s.packet own.half.direction.accepted in
    let pending : receipts.pending mine.receiver ≡ fronts (s.front n) k =
    is.mirrors.pending ∙ ap (inner.pending (grammar q)) (sym is.received)
    ∙ gathered-is q s own.half.direction.first own.half.direction.far (inner.mode (grammar q) own.received) (inner.is_spoilt (grammar q) own.received) (inner.pending (grammar q) own.received) n k 0 linked.matches.place good (laws.gathered (part n k 0) xs line) in
    let whole : reads.packet seen.packet seen.rrp ≡ reads.packet (s.packet n) spelled.1.1.0 =
    sym packet ∙ ap read_as (sym read) ∙ ap (λ (fs : List (List ℕ)). read_as (read_of q (fs ++ flit ∷ []))) pending ∙ spelled.1.1.1 in
    record {
      seen = seen;
      read = read;
      number = n - 1;
      inside = omega arith;
      same = ap (λ (ps : List PacketFields). get_or ps (n - 1) null_packet) accepted ∙ packet-at s.packet own.half.direction.accepted n least le ∙ sym (packet-same seen.packet (s.packet n) seen.rrp spelled.1.1.0 whole);
    }

pub side-old : (q : Profile) (retry adv : ℕ) (mine : Lists q) (s : Sent (grammar q)) (own oth : SideOf (grammar q)) (changed : Bool) (flit : List ℕ) → retry ≤ most_retry q →
    Way q retry mine own → Linked (grammar q) s retry adv own oth → MayLand (grammar q) own changed flit → out.Repeat ≡ (reception_of q mine.receiver flit).outcome → Old q mine.receiver flit
unfolding landing_view
side-old q retry adv mine s own oth changed flit few is linked may outcome_is =
    let w = own.half.direction in
    let said = mirrored q mine.receiver mine.landings flit is.mirrors in
    let whole = repeat-whole q mine.receiver flit outcome_is in
    let fact = facts (grammar q) s retry adv own oth changed flit few linked may in
    let x = fact.front.0 in
    let xs = fact.front.1.0 in
    let lands = fact.front.1.1 in
    let done = landing_done (grammar q) s retry adv own oth changed flit fact in
    let outcome : inner.outcome (grammar q) own.received flit ≡ outcomes.repeated = (λ i. inner.outcome (grammar q) (is.received i) flit) ∙ sym said.outcome ∙ ap outcome_as (sym outcome_is) in
    let mode : inner.mode (grammar q) own.received ≡ modes.good = ap (inner.mode (grammar q)) is.received ∙ sym is.mirrors.mode ∙ ap mode_as whole.mode in
    let checks : inner.checks (grammar q) (inner.mode (grammar q) own.received) own.received flit ≡ true = (λ i. inner.checks (grammar q) (inner.mode (grammar q) (is.received i)) (is.received i) flit) ∙ sym said.checked ∙ whole.checked in
    let clean : changed ≡ false = or_false changed (inner.is_spoilt (grammar q) own.received) (λ e. let clash : true ≡ false = sym checks ∙ lands.sound e in cc clash) in
    let event = subst (λ (o : Outcome Bad). May retry w (event_of modes.good (changed || inner.is_spoilt (grammar q) own.received) changed (reading_of (alone q flit)) o)) outcome
    (subst (λ (m : Mode). May retry w (event_of m (changed || inner.is_spoilt (grammar q) own.received) changed (reading_of (alone q flit)) (inner.outcome (grammar q) own.received flit))) mode done.may) in
    old-by q retry adv mine s own oth flit x xs is linked lands.laws lands.line (lands.spelled clean) event.0 (subst IsEnd lands.line event.1)
    (subst (λ ys. number_of (front_or w.before ys) ≤ w.accepted) lands.line event.2) whole.seen whole.read whole.packet
