-- Outcomes in Good, by what is known of the flit. Used by the cases of LandLanded.
use Rattle.std.proofs.Common.{◌≡◌, ℕ, ◌+◌, ◌-◌, ◌%◌, ◌≤◌, List, [], ◌∷◌, ◌++◌, length, Bool, true, false, refl, ◌∙◌, arith, lt-ltb, eq-eqb, eqb-true}
use Rattle.std.specs.Prelude.{not, ◌==◌, ◌&&◌, ◌||◌, nat_lt, if◌then◌else◌}
use Rattle.std.proofs.lemmas.Grind.{common_steps}
use Rattle.hmc_codes.specs.Profile.{modulus_of, window_of}
use Rattle.hmc_numbers.specs.Pointers.{IsNext, IsBehind}
use Rattle.hmc_wire.proofs.Grammar.{Read, Read as reads, Grammar}
use Rattle.hmc_packet.specs.Receptions.{is_no_length}
use Rattle.hmc_wire.proofs.GrammarLandings.{Outcome, Landings, in_good, in_order, of_read, is_empty, head_or, is_read, checks_good}
use Rattle.hmc_wire.proofs.GrammarLandings.Outcome.{quiet, gathered, accepted, poisoned, repeated, aborted}

-- numbers and tests

pub valid_sizes_length : (n : ℕ) → 1 ≤ n → n ≤ 17 → is_no_length n ≡ false
valid_sizes_length n a b = grind (arith, common_steps)

-- a NULL
pub good_null : (G : Grammar) (past : Landings G) (fs : List G.Flit) (f : G.Flit) → fs ≡ [] → G.is_null f ≡ true → in_good G past fs f ≡ quiet
good_null G past [] f p z = rw z refl
good_null G past (g ∷ gs) f p z = absurd (cc p)

-- a packet of one flit that isn't sequenced
pub good_flow : (G : Grammar) (past : Landings G) (fs : List G.Flit) (f : G.Flit) → fs ≡ [] → G.is_null f ≡ false → G.lng f ≡ 1 → in_good G past fs f ≡ of_read G past (G.read (f ∷ []))
good_flow G past [] f p z l = rw (z, l) refl
good_flow G past (g ∷ gs) f p z l = absurd (cc p)

-- a flit that is gathered
pub good_gathers : (G : Grammar) (past : Landings G) (fs : List G.Flit) (f : G.Flit) → (fs ≡ [] → (G.is_null f ≡ false) × (is_no_length (G.lng f) ≡ false)) → nat_lt (length fs + 1) (G.lng (head_or fs f)) ≡ true → in_good G past fs f ≡ gathered
good_gathers G past [] f h m = rw ((h refl).0, (h refl).1, m) refl
good_gathers G past (g ∷ gs) f h m = rw m refl

-- a last flit
pub good_ends : (G : Grammar) (past : Landings G) (fs : List G.Flit) (f : G.Flit) → (fs ≡ [] → (G.is_null f ≡ false) × (is_no_length (G.lng f) ≡ false)) → nat_lt (length fs + 1) (G.lng (head_or fs f)) ≡ false → in_good G past fs f ≡ of_read G past (G.read (fs ++ f ∷ []))
good_ends G past [] f h m = rw ((h refl).0, (h refl).1, m) refl
good_ends G past (g ∷ gs) f h m = rw m refl

-- the next packet
next_by : (G : Grammar) (p : G.Packet) (f n : ℕ) (b c : Bool) → (G.frp p == (f + G.flits p) % modulus_of G.profile) ≡ b → (G.seq p == (n + 1) % 8) ≡ c → b ≡ true → c ≡ true → in_order G p f n ≡ (if G.poisoned p then poisoned else accepted)
next_by G p f n b c d e h i = rw (d ∙ h, e ∙ i) refl

pub order_next : (G : Grammar) (p : G.Packet) (f n : ℕ) → IsNext G.profile f n (G.flits p) (G.frp p) (G.seq p) → in_order G p f n ≡ (if G.poisoned p then poisoned else accepted)
order_next G p f n h = next_by G p f n true true (eq-eqb (G.frp p) ((f + G.flits p) % modulus_of G.profile) h.0) (eq-eqb (G.seq p) ((n + 1) % 8) h.1) refl refl

-- one that came before
and_false : (a b c d : ℕ) → ((a ≡ b) × (c ≡ d) → ⊥) → ((a == b) && (c == d)) ≡ false
and_false a b c d h = by_two (a == b) (c == d) refl refl
  where
    by_two : (x y : Bool) → (a == b) ≡ x → (c == d) ≡ y → (x && y) ≡ false
    by_two false y p q = refl
    by_two true false p q = refl
    by_two true true p q = absurd (h (eqb-true a b p, eqb-true c d q))

pub order_behind : (G : Grammar) (p : G.Packet) (f n : ℕ) → (IsNext G.profile f n (G.flits p) (G.frp p) (G.seq p) → ⊥) → IsBehind G.profile f (G.frp p) → in_order G p f n ≡ repeated
order_behind G p f n h b =
    let x = and_false (G.frp p) ((f + G.flits p) % modulus_of G.profile) (G.seq p) ((n + 1) % 8) h in
    let y = lt-ltb ((f % modulus_of G.profile + (modulus_of G.profile - G.frp p)) % modulus_of G.profile) (window_of G.profile) b in
    rw (x, y) refl

-- where no check succeeds
pub data Fails {B : Type 0} : Outcome B → Type 0 where
  gathers : Fails gathered
  aborts : (b : B) → Fails (aborted b)

read_fails : (G : Grammar) (past : Landings G) (x : Read G.Packet G.Bad) → is_read x ≡ false → Fails (of_read G past x)
read_fails G past (reads.bad b) e = aborts b
read_fails G past reads.null e = absurd (cc e)
read_fails G past (reads.irtry k r) e = absurd (cc e)
read_fails G past (reads.pret r) e = absurd (cc e)
read_fails G past (reads.packet p r) e = absurd (cc e)

fails_by : (G : Grammar) (past : Landings G) (x : Read G.Packet G.Bad) (e z w m : Bool) → ((e && z) || (not m && is_read x)) ≡ false →
    Fails (if e && z then quiet else (if e && w then aborted G.wrong_length else (if m then gathered else of_read G past x)))
fails_by G past x true true w m h = absurd (cc h)
fails_by G past x true false true m h = aborts G.wrong_length
fails_by G past x true false false true h = gathers
fails_by G past x true false false false h = read_fails G past x h
fails_by G past x false z w true h = gathers
fails_by G past x false z w false h = read_fails G past x h

pub good_fails : (G : Grammar) (past : Landings G) (fs : List G.Flit) (f : G.Flit) → checks_good G fs f ≡ false → Fails (in_good G past fs f)
good_fails G past fs f h = fails_by G past (G.read (fs ++ f ∷ [])) (is_empty fs) (G.is_null f) (is_no_length (G.lng f)) (nat_lt (length fs + 1) (G.lng (head_or fs f))) h
