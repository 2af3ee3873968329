-- The marks of a line stay while packets are begun. Used by ActionLaw.
use Rattle.std.proofs.Common.{◌≡◌, ℕ, zero, suc, ◌%◌, ◌≤◌, max, List, [], ◌∷◌, ◌++◌, length, refl, sym, ◌∙◌, ap, subst, arith}
use Rattle.hmc_numbers.specs.Weights.{Weight, size}
use Rattle.hmc_codes.specs.Profile.{modulus_of}
use Rattle.hmc_numbers.specs.Pointers.{pointer}
use Rattle.hmc_numbers.specs.Direction.{Filler as fill, Item}
use Rattle.hmc_numbers.specs.Direction.Item.{filler, clear, part}
use Rattle.hmc_numbers.specs.Direction.{rest}
use Rattle.hmc_numbers.specs.Pair.{rest_of_stamps}
use Rattle.hmc_numbers.specs.PairLaws.{Rising}
use Rattle.hmc_numbers.proofs.Sums.{upto-append, size-append}
use Rattle.hmc_numbers.proofs.Near.{Real, Near}
use Rattle.hmc_numbers.proofs.Rising.{rising_bounds}
use Rattle.hmc_wire.proofs.Grammar.{Grammar}
use Rattle.hmc_wire.proofs.Spelled.{Sent, Spelled, IsFirst, IsWhole}
use Rattle.hmc_wire.proofs.GrammarCounted.{Carries}
use Rattle.hmc_wire.proofs.Marked.{Mark, Marked}
use Rattle.hmc_wire.proofs.Actions.{rest_of}

pointer_grows : (G : Grammar) (qs new : List Weight) (t : ℕ) → t ≤ length qs → pointer G.profile qs t ≡ pointer G.profile (qs ++ new) t
pointer_grows G qs new t l = ap (λ x. x % modulus_of G.profile) (sym (upto-append (λ p. p.flits) qs new t l))

first_grows : (G : Grammar) (ps new : List Weight) (n : ℕ) (f : G.Flit) → n ≤ length ps → IsFirst G (size ps n) f → IsFirst G (size (ps ++ new) n) f
first_grows G ps new n f l h = record { some = h.some; lng = h.lng ∙ sym (size-append ps new n l); alone = h.alone }

whole_grows : (G : Grammar) (ps new : List Weight) (n : ℕ) (p : G.Packet) → n ≤ length ps → IsWhole G ps n p → IsWhole G (ps ++ new) n p
whole_grows G ps new n p l h = record { flits = h.flits ∙ sym (size-append ps new n l); frp = h.frp ∙ pointer_grows G ps new n l; seq = h.seq }

spelled_grows : (G : Grammar) (s : Sent G) (ps new : List Weight) (x : Item) (f : G.Flit) → Real ps x → Spelled G s ps x f → Spelled G s (ps ++ new) x f
spelled_grows G s ps new (filler fill.null) f r h = h
spelled_grows G s ps new (filler fill.train) f r h = h
spelled_grows G s ps new (filler fill.pret) f r h = h
spelled_grows G s ps new (filler fill.start) f r h = h
spelled_grows G s ps new clear f r h = h
spelled_grows G s ps new (part n k (suc more)) f r h = (λ q. first_grows G ps new n f r.1 (h.0 q), h.1)
spelled_grows G s ps new (part n k zero) f r h = (λ q. first_grows G ps new n f r.1 (h.0 q), (whole_grows G ps new n (s.packet n) r.1 h.1.0, h.1.1))

mark_grows : (G : Grammar) (s : Sent G) (ps qs new other : List Weight) (x : Item) (t : ℕ) (f : G.Flit) → Real ps x → t ≤ length qs → Mark G s ps qs x t f → Mark G s (ps ++ new) (qs ++ other) x t f
mark_grows G s ps qs new other x t f r l m = record {
  spelled = spelled_grows G s ps new x f r m.spelled;
  carries = subst (λ y. Carries G s y x f) (pointer_grows G qs other t l) m.carries;
}

near_real : (r : ℕ) (ps : List Weight) (e : ℕ) (x : Item) (xs : List Item) → Near r ps e (x ∷ xs) → (d : ℕ) × (Near r ps d xs × Real ps x)
near_real r ps e (filler f) xs h = (e, (h, tt))
near_real r ps e clear xs h = (e, (h, tt))
near_real r ps e (part n k more) xs h = (max e n, (h.2, h.0))

pub marked_grows : (G : Grammar) (s : Sent G) (r : ℕ) (ps qs new other : List Weight) (e low high : ℕ) (xs : List Item) (ts : List ℕ) (fs : List G.Flit) → Near r ps e xs → Rising low ts high → high ≤ length qs →
    Marked G s ps qs xs ts fs → Marked G s (ps ++ new) (qs ++ other) xs ts fs
marked_grows G s r ps qs new other e low high [] [] [] n i l m = tt
marked_grows G s r ps qs new other e low high (x ∷ xs) (t ∷ ts) (f ∷ fs) n i l m =
    let z = near_real r ps e x xs n in
    let b = rising_bounds t high ts i.1 in
    (mark_grows G s ps qs new other x t f z.1.1 (omega arith) m.0, marked_grows G s r ps qs new other z.0 t high xs ts fs z.1.0 i.1 l m.1)
marked_grows G s r ps qs new other e low high xs ts fs n i l m = absurd m

pub marked_snoc : (G : Grammar) (s : Sent G) (ps qs : List Weight) (xs : List Item) (ts : List ℕ) (fs : List G.Flit) (x : Item) (t : ℕ) (f : G.Flit) → Mark G s ps qs x t f → Marked G s ps qs xs ts fs → Marked G s ps qs (xs ++ x ∷ []) (ts ++ t ∷ []) (fs ++ f ∷ [])
marked_snoc G s ps qs [] [] [] x t f k m = (k, tt)
marked_snoc G s ps qs (y ∷ ys) (u ∷ us) (g ∷ gs) x t f k m = (m.0, marked_snoc G s ps qs ys us gs x t f k m.1)
marked_snoc G s ps qs xs ts fs x t f k m = absurd m

pub marked_rest : (G : Grammar) (s : Sent G) (ps qs : List Weight) (xs : List Item) (ts : List ℕ) (fs : List G.Flit) → Marked G s ps qs xs ts fs → Marked G s ps qs (rest xs) (rest_of_stamps ts) (rest_of fs)
marked_rest G s ps qs [] [] [] m = tt
marked_rest G s ps qs (y ∷ ys) (u ∷ us) (g ∷ gs) m = m.1
marked_rest G s ps qs xs ts fs m = absurd m

-- the front of a line
pub record Front (G : Grammar) (s : Sent G) (ps qs : List Weight) (xs : List Item) (ts : List ℕ) (f : G.Flit) : Type 0 where
  pub item : Item
  pub items : List Item
  pub stamp : ℕ
  pub stamps : List ℕ
  pub line : xs ≡ item ∷ items
  pub stamped : ts ≡ stamp ∷ stamps
  pub mark : Mark G s ps qs item stamp f

pub marked_front : (G : Grammar) (s : Sent G) (ps qs : List Weight) (xs : List Item) (ts : List ℕ) (fs : List G.Flit) (f : G.Flit) (gs : List G.Flit) → fs ≡ f ∷ gs → Marked G s ps qs xs ts fs → Front G s ps qs xs ts f
marked_front G s ps qs [] [] [] f gs e m = absurd (cc e)
marked_front G s ps qs (y ∷ ys) (u ∷ us) (g ∷ hs) f gs e m =
    let q : g ≡ f = cc in
    record { item = y; items = ys; stamp = u; stamps = us; line = refl; stamped = refl; mark = subst (λ z. Mark G s ps qs y u z) q m.0 }
marked_front G s ps qs xs ts fs f gs e m = absurd m
