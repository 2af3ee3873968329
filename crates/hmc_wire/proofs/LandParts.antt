-- Landings in Good of flits of sequenced packets. A case of LandLanded.
use Rattle.std.proofs.Common.{◌≡◌, ◌≢◌, ℕ, zero, suc, ◌+◌, ◌-◌, ◌%◌, ◌≤◌, List, [], ◌∷◌, ◌++◌, length, Bool, true, false, inl, inr, refl, sym, ◌∙◌, ap, subst, arith, length-append, lt-ltb, le-ltb}
use Rattle.std.specs.Prelude.{◌||◌, nat_lt, if◌then◌else◌}
use Rattle.hmc_numbers.specs.Weights.{size, flits_to}
use Rattle.hmc_codes.specs.Profile.{modulus_of}
use Rattle.hmc_numbers.specs.Pointers.{pointer, IsNext, IsBehind}
use Rattle.hmc_numbers.specs.Direction.{Item, Reached as far, Direction, front_or, number_of}
use Rattle.hmc_numbers.specs.Direction.Item.{part}
use Rattle.hmc_numbers.specs.Events.{gathered as far_gathered}
use Rattle.hmc_numbers.specs.Events.Reading.{plain}
use Rattle.hmc_numbers.specs.Events.Event.{accepts, repeats}
use Rattle.hmc_numbers.specs.May.{IsGood, IsMiddle, IsEnd, May}
use Rattle.hmc_numbers.specs.DirectionLaws.{IsIdentified}
use Rattle.hmc_numbers.proofs.Sums.{upto-up}
use Rattle.hmc_wire.proofs.Grammar.{Read, Read as reads, Grammar}
use Rattle.hmc_packet.specs.Receptions.{is_no_length}
use Rattle.hmc_wire.proofs.GrammarLandings.{Outcome, Landings, mode, pending, is_spoilt, in_good, in_order, of_read, head_or, accepted_in, flits_of, packets_in}
use Rattle.hmc_wire.proofs.GrammarLandings.Mode.{good}
use Rattle.hmc_wire.proofs.GrammarLandings.Outcome.{gathered, accepted, poisoned, repeated}
use Rattle.hmc_wire.proofs.Spelled.{Sent, IsFirst, IsFlit, IsWhole, fronts}
use Rattle.hmc_wire.proofs.Matches.{Matches, IsAt, reading_of, event_of, packets_to}
use Rattle.hmc_wire.proofs.Lands.{Lands, Done}
use Rattle.hmc_wire.proofs.LandOutcomes.{valid_sizes_length, good_gathers, good_ends, order_next, order_behind}
use Rattle.hmc_wire.proofs.LandKeep.{keep}

-- flit k of packet n lands in Good after its first k flits
pub record Goes (G : Grammar) (s : Sent G) (r : ℕ) (w : Direction) (past : Landings G) (n k more : ℕ) (xs : List Item) (c : Bool) (f : G.Flit) : Type 0 where
  pub lands : Lands G s r w past (part n k more) xs c f
  pub far : IsGood w.far
  pub mode : mode G past ≡ good
  pub clean : (c || is_spoilt G past) ≡ false
  pub behind : pending G past ≡ fronts (s.front n) k
  pub lng : k ≢ 0 → G.lng (s.front n 0) ≡ size w.first n
  pub first : k ≡ 0 → IsFirst G (size w.first n) f
  pub flit : IsFlit G s w.first n k more f

fronts-length : {F : Type 0} → (g : ℕ → F) (k : ℕ) → length (fronts g k) ≡ k
fronts-length g zero = refl
fronts-length g (suc k) = let h = fronts-length g k in omega (arith, length-append (fronts g k) (g k ∷ []))

head_snoc : {F : Type 0} → (xs : List F) (y f : F) → head_or (xs ++ y ∷ []) f ≡ head_or xs y
head_snoc [] y f = refl
head_snoc (x ∷ xs) y f = refl

head_fronts : {F : Type 0} → (g : ℕ → F) (k : ℕ) (f : F) → head_or (fronts g (suc k)) f ≡ g 0
head_fronts g zero f = refl
head_fronts g (suc k) f = head_snoc (fronts g (suc k)) (g (suc k)) f ∙ head_fronts g k (g (suc k))

head_lng : (G : Grammar) (g : ℕ → G.Flit) (k z : ℕ) (f : G.Flit) → (k ≢ 0 → G.lng (g 0) ≡ z) → (k ≡ 0 → IsFirst G z f) → G.lng (head_or (fronts g k) f) ≡ z
head_lng G g zero z f h i = (i refl).lng
head_lng G g (suc k) z f h i = ap (λ y. G.lng y) (head_fronts g k f) ∙ h (λ q. cc)

none_pending : {F : Type 0} → (g : ℕ → F) (k : ℕ) → fronts g k ≡ [] → k ≡ 0
none_pending g zero e = refl
none_pending g (suc k) e = let h = fronts-length g (suc k) in let l : length (fronts g (suc k)) ≡ 0 = ap (λ z. length z) e in absurd (omega arith)

-- the first tests, for a flit of a packet of z flits
pub first_tests : (G : Grammar) (g : ℕ → G.Flit) (fs : List G.Flit) (k z : ℕ) (f : G.Flit) → fs ≡ fronts g k → 1 ≤ z → z ≤ 17 → (k ≡ 0 → IsFirst G z f) → fs ≡ [] → (G.is_null f ≡ false) × (is_no_length (G.lng f) ≡ false)
first_tests G g fs k z f e a b i q =
    let h = i (none_pending g k (sym e ∙ q)) in
    (h.some, ap is_no_length h.lng ∙ valid_sizes_length z a b)

pub lng_test : (G : Grammar) (g : ℕ → G.Flit) (fs : List G.Flit) (k z : ℕ) (f : G.Flit) → fs ≡ fronts g k → (k ≢ 0 → G.lng (g 0) ≡ z) → (k ≡ 0 → IsFirst G z f) → nat_lt (length fs + 1) (G.lng (head_or fs f)) ≡ nat_lt (k + 1) z
lng_test G g fs k z f e h i =
    let a : length fs + 1 ≡ k + 1 = ap (λ y. length y + 1) e ∙ ap (λ y. y + 1) (fronts-length g k) in
    let b : G.lng (head_or fs f) ≡ z = ap (λ y. G.lng (head_or y f)) e ∙ head_lng G g k z f h i in
    rw (a, b) refl

pub front_line : (b x : Item) (xs ys : List Item) → ys ≡ x ∷ xs → front_or b ys ≡ x
front_line b x xs ys q = ap (λ z. front_or b z) q

-- a flit that isn't the last
pub gather : (G : Grammar) (s : Sent G) (r : ℕ) (w : Direction) (past : Landings G) (n k more : ℕ) (xs : List Item) (c : Bool) (f : G.Flit) → Goes G s r w past n k (suc more) xs c f →
    Done G s r w past c f (in_good G past (pending G past) f) (event_of good false c (reading_of (G.alone f)) (in_good G past (pending G past) f))
gather G s r w past n k more xs c f g =
    let l = g.lands in
    let m = l.matches in
    let z = l.laws.placed n k (suc more) xs l.line in
    let t = lng_test G (s.front n) (pending G past) k (size w.first n) f g.behind g.lng g.first ∙ lt-ltb (k + 1) (size w.first n) (omega (arith, z.flits)) in
    let o = good_gathers G past (pending G past) f (first_tests G (s.front n) (pending G past) k (size w.first n) f g.behind (omega (arith, z.flits)) z.short g.first) t in
    let x : Item = part n k (suc more) in
    let q = front_line w.before x xs w.line l.line in
    let fs : pending G past ++ f ∷ [] ≡ fronts (s.front n) (suc k) = ap (λ (y : List G.Flit). y ++ f ∷ []) g.behind ∙ ap (λ (y : G.Flit). fronts (s.front n) k ++ y ∷ []) g.flit in
    subst (λ u. Done G s r w past c f u (event_of good false c (reading_of (G.alone f)) u)) (sym o) (record {
      ordered = tt;
      may = (g.far, subst IsMiddle (sym l.line) tt);
      matches = keep G s w past c f gathered (far_gathered (front_or w.before w.line)) plain m refl
          (subst (λ y. IsAt G s w.first (far_gathered y) (mode G past) (c || is_spoilt G past) (pending G past ++ f ∷ [])) (sym q) (g.mode, g.clean, fs, omega arith, z.most, first_lng k g.first g.lng g.flit))
          refl refl;
    })
  where
    first_lng : (k : ℕ) → (k ≡ 0 → IsFirst G (size w.first n) f) → (k ≢ 0 → G.lng (s.front n 0) ≡ size w.first n) → f ≡ s.front n k → G.lng (s.front n 0) ≡ size w.first n
    first_lng zero a b e = ap (λ y. G.lng y) (sym e) ∙ (a refl).lng
    first_lng (suc k) a b e = b (λ q. cc)

-- A last flit

-- the packets accepted, with the next one
next_packets : {P : Type 0} → (g : ℕ → P) (n : ℕ) → packets_to g (n + 1) ≡ packets_to g n ++ g (n + 1) ∷ []
next_packets g n = let e : n + 1 ≡ suc n = omega arith in ap (λ m. packets_to g m) e ∙ ap (λ m. packets_to g n ++ g m ∷ []) (sym e)

flits_snoc : (G : Grammar) (ps : List G.Packet) (p : G.Packet) → flits_of G (ps ++ p ∷ []) ≡ flits_of G ps + G.flits p
flits_snoc G [] p = omega arith
flits_snoc G (q ∷ qs) p = let h = flits_snoc G qs p in omega arith

-- the test of the receiver is that of the numbers
test_is : (G : Grammar) (w : Direction) (n : ℕ) (p : G.Packet) (f c : ℕ) → IsWhole G w.first n p → f ≡ flits_to w.first w.accepted → c ≡ w.accepted →
    IsNext G.profile (flits_to w.first w.accepted) w.accepted (size w.first n) (pointer G.profile w.first n) (n % 8) → IsNext G.profile f c (G.flits p) (G.frp p) (G.seq p)
test_is G w n p f c h e d t =
    let a : flits_to w.first w.accepted + size w.first n ≡ f + G.flits p = omega (arith, h.flits) in
    (h.frp ∙ t.0 ∙ ap (λ x. x % modulus_of G.profile) a, h.seq ∙ t.1 ∙ ap (λ x. (x + 1) % 8) (sym d))

test_was : (G : Grammar) (w : Direction) (n : ℕ) (p : G.Packet) (f c : ℕ) → IsWhole G w.first n p → f ≡ flits_to w.first w.accepted → c ≡ w.accepted →
    IsNext G.profile f c (G.flits p) (G.frp p) (G.seq p) → IsNext G.profile (flits_to w.first w.accepted) w.accepted (size w.first n) (pointer G.profile w.first n) (n % 8)
test_was G w n p f c h e d t =
    let a : f + G.flits p ≡ flits_to w.first w.accepted + size w.first n = omega (arith, h.flits) in
    (sym h.frp ∙ t.0 ∙ ap (λ x. x % modulus_of G.profile) a, sym h.seq ∙ t.1 ∙ ap (λ x. (x + 1) % 8) d)

-- what is known of a last flit
pub record Ends (G : Grammar) (s : Sent G) (r : ℕ) (w : Direction) (past : Landings G) (n k : ℕ) (xs : List Item) (c : Bool) (f : G.Flit) : Type 0 where
  pub goes : Goes G s r w past n k 0 xs c f
  pub read : (t : ℕ) × (G.read (pending G past ++ f ∷ []) ≡ reads.packet (s.packet n) t)
  pub outcome : in_good G past (pending G past) f ≡ in_order G (s.packet n) (flits_of G (accepted_in G past)) (length (accepted_in G past))

pub ends : (G : Grammar) (s : Sent G) (r : ℕ) (w : Direction) (past : Landings G) (n k : ℕ) (xs : List Item) (c : Bool) (f : G.Flit) → Goes G s r w past n k 0 xs c f → Ends G s r w past n k xs c f
ends G s r w past n k xs c f g =
    let l = g.lands in
    let z = l.laws.placed n k 0 xs l.line in
    let t = lng_test G (s.front n) (pending G past) k (size w.first n) f g.behind g.lng g.first ∙ le-ltb (k + 1) (size w.first n) (omega (arith, z.flits)) in
    let o = good_ends G past (pending G past) f (first_tests G (s.front n) (pending G past) k (size w.first n) f g.behind (omega (arith, z.flits)) z.short g.first) t in
    let e = ap (λ (y : List G.Flit). G.read (y ++ f ∷ [])) g.behind ∙ g.flit.1.1 in
    record { goes = g; read = (g.flit.1.0, e); outcome = o ∙ ap (λ y. of_read G past y) e }

accept : (G : Grammar) (s : Sent G) (r : ℕ) (w : Direction) (past : Landings G) (n k : ℕ) (xs : List Item) (c : Bool) (f : G.Flit) → Ends G s r w past n k xs c f → n ≡ w.accepted + 1 → (o : Outcome G.Bad) →
    (o ≡ (if G.poisoned (s.packet n) then poisoned else accepted)) → Done G s r w past c f o (event_of good false c (reading_of (G.alone f)) o)
accept G s r w past n k xs c f g q o e = by_poison (G.poisoned (s.packet n)) o e
  where
    l : Lands G s r w past (part n k 0) xs c f
    l = g.goes.lands

    m : Matches G s w past
    m = l.matches

    may : May r w accepts
    may = (g.goes.far, subst IsEnd (sym l.line) tt, ap number_of (front_line w.before (part n k 0) xs w.line l.line) ∙ q)

    taken : accepted_in G past ++ packets_in (G.read (pending G past ++ f ∷ [])) ≡ accepted_in G past ++ s.packet n ∷ []
    taken = ap (λ (y : Read G.Packet G.Bad). accepted_in G past ++ packets_in y) g.read.1

    counts : length (accepted_in G past ++ packets_in (G.read (pending G past ++ f ∷ []))) ≡ w.accepted + 1
    counts = ap (λ (y : List G.Packet). length y) taken ∙ length-append (accepted_in G past) (s.packet n ∷ []) ∙ ap (λ y. y + 1) m.count

    flits : flits_of G (accepted_in G past ++ packets_in (G.read (pending G past ++ f ∷ []))) ≡ flits_to w.first (w.accepted + 1)
    flits =
        let z = ap (λ (y : List G.Packet). flits_of G y) taken ∙ flits_snoc G (accepted_in G past) (s.packet n) in
        let u : flits_to w.first n ≡ flits_to w.first (w.accepted + 1) = ap (λ i. flits_to w.first i) q in
        let v : flits_to w.first (n - 1) ≡ flits_to w.first w.accepted = ap (λ i. flits_to w.first i) (omega arith) in
        let up = upto-up (λ p. p.flits) w.first w.accepted (w.accepted + 1) (omega arith) in
        let i = g.goes.flit.0.flits in
        let j = m.flits in
        omega arith

    packets : accepted_in G past ++ packets_in (G.read (pending G past ++ f ∷ [])) ≡ packets_to s.packet (w.accepted + 1)
    packets = taken ∙ ap (λ (y : List G.Packet). y ++ s.packet n ∷ []) m.packets ∙ ap (λ i. packets_to s.packet w.accepted ++ s.packet i ∷ []) q ∙ sym (next_packets s.packet w.accepted)

    by_poison : (b : Bool) (o : Outcome G.Bad) → (o ≡ (if b then poisoned else accepted)) → Done G s r w past c f o (event_of good false c (reading_of (G.alone f)) o)
    by_poison true o e = subst (λ u. Done G s r w past c f u (event_of good false c (reading_of (G.alone f)) u)) (sym e)
        (record { ordered = tt; may = may; matches = record { place = (g.goes.mode, refl, refl); clear_run = refl; start_run = refl; packets = packets; count = counts; flits = flits } })
    by_poison false o e = subst (λ u. Done G s r w past c f u (event_of good false c (reading_of (G.alone f)) u)) (sym e)
        (record { ordered = tt; may = may; matches = record { place = (g.goes.mode, refl, refl); clear_run = refl; start_run = refl; packets = packets; count = counts; flits = flits } })

repeat : (G : Grammar) (s : Sent G) (r : ℕ) (w : Direction) (past : Landings G) (n k : ℕ) (xs : List Item) (c : Bool) (f : G.Flit) → Ends G s r w past n k xs c f → n ≤ w.accepted →
    Done G s r w past c f repeated repeats
repeat G s r w past n k xs c f g q =
    let l = g.goes.lands in
    let e = ap number_of (front_line w.before (part n k 0) xs w.line l.line) in
    record { ordered = tt; may = (g.goes.far, subst IsEnd (sym l.line) tt, omega arith); matches = keep G s w past c f repeated far.between plain l.matches refl (g.goes.mode, refl, refl) refl refl }

pub end : (G : Grammar) (s : Sent G) (r : ℕ) (w : Direction) (past : Landings G) (n k : ℕ) (xs : List Item) (c : Bool) (f : G.Flit) → Goes G s r w past n k 0 xs c f →
    Done G s r w past c f (in_good G past (pending G past) f) (event_of good false c (reading_of (G.alone f)) (in_good G past (pending G past) f))
end G s r w past n k xs c f g = by_identified (g.lands.laws.identified n k xs g.far g.lands.line)
  where
    h : Ends G s r w past n k xs c f
    h = ends G s r w past n k xs c f g

    m : Matches G s w past
    m = g.lands.matches

    by_identified : IsIdentified G.profile w n → Done G s r w past c f (in_good G past (pending G past) f) (event_of good false c (reading_of (G.alone f)) (in_good G past (pending G past) f))
    by_identified (inl t) =
        accept G s r w past n k xs c f h t.0 (in_good G past (pending G past) f)
        (h.outcome ∙ order_next G (s.packet n) (flits_of G (accepted_in G past)) (length (accepted_in G past)) (test_is G w n (s.packet n) (flits_of G (accepted_in G past)) (length (accepted_in G past)) g.flit.0 m.flits m.count t.1))
    by_identified (inr t) =
        let o = h.outcome ∙ order_behind G (s.packet n) (flits_of G (accepted_in G past)) (length (accepted_in G past))
        (λ i. t.1 (test_was G w n (s.packet n) (flits_of G (accepted_in G past)) (length (accepted_in G past)) g.flit.0 m.flits m.count i))
        (subst (λ y. IsBehind G.profile y (G.frp (s.packet n))) (sym m.flits) (subst (λ y. IsBehind G.profile (flits_to w.first w.accepted) y) (sym g.flit.0.frp) t.2)) in
        subst (λ u. Done G s r w past c f u (event_of good false c (reading_of (G.alone f)) u)) (sym o) (repeat G s r w past n k xs c f h t.0)
