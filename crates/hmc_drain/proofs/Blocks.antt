-- A block of flits of one kind on a line, some of which may have landed: so many in a row land at
-- the latest with the block's last.
use Rattle.std.proofs.Common.{◌≡◌, ℕ, suc, ◌+◌, ◌≤◌, List, [], ◌∷◌, ◌++◌, length, ◌⊎◌, inl, inr, refl, sym, ◌∙◌, ap, subst, arith, append_assoc, append-nil, length-append}
use Rattle.hmc_numbers.specs.Direction.{Item, rest, front_or}

abbrev pub All : (Item → Type 0) → List Item → Type 0
All G [] = Unit {0}
All G (x ∷ xs) = G x × All G xs

-- n flits of kind G in a row: all on the line after xs, or `run` of them landed last. E holds of
-- what is before the block, where none has landed; a run is at most `top`. The block's last is
-- within k flits, and Y holds of what is after it.
pub record Block (G : Item → Type 0) (E : Item → List Item → Type 0) (Y : List Item → Type 0)
    (top n run : ℕ) (z : Item) (line : List Item) (k : ℕ) : Type 0 where
  pub xs : List Item
  pub zs : List Item
  pub ys : List Item
  pub line_is : line ≡ xs ++ (zs ++ ys)
  pub all : All G zs
  pub enough : ((n ≤ length zs) × E z xs) ⊎ ((xs ≡ []) × (n ≤ run + length zs) × (run ≤ top))
  pub short : length xs + length zs ≤ k
  pub backlog : Y ys

abbrev pub Any : List Item → Type 0
Any ys = Unit {0}

abbrev pub Nil : List Item → Type 0
Nil ys = ys ≡ []

all_snoc : (G : Item → Type 0) (zs : List Item) (i : Item) → All G zs → G i → All G (zs ++ i ∷ [])
all_snoc G [] i h g = (g, tt)
all_snoc G (z ∷ zs) i h g = (h.0, all_snoc G zs i h.1 g)

pub block_after : (G : Item → Type 0) (E : Item → List Item → Type 0) (top n run : ℕ) (z : Item)
    (line : List Item) (k : ℕ) (i : Item) → Block G E Any top n run z line k →
    Block G E Any top n run z (line ++ i ∷ []) k
block_after G E top n run z line k i b = record {
  xs = b.xs;
  zs = b.zs;
  ys = b.ys ++ i ∷ [];
  line_is =
      ap (λ l. l ++ i ∷ []) b.line_is ∙ append_assoc b.xs (b.zs ++ b.ys) (i ∷ [])
      ∙ ap (λ l. b.xs ++ l) (append_assoc b.zs b.ys (i ∷ []));
  all = b.all;
  enough = b.enough;
  short = b.short;
  backlog = tt;
}

pub block_any : (G : Item → Type 0) (E : Item → List Item → Type 0) (Y : List Item → Type 0)
    (top n run : ℕ) (z : Item) (line : List Item) (k : ℕ) → Block G E Y top n run z line k →
    Block G E Any top n run z line k
block_any G E Y top n run z line k b =
    record {
      xs = b.xs;
      zs = b.zs;
      ys = b.ys;
      line_is = b.line_is;
      all = b.all;
      enough = b.enough;
      short = b.short;
      backlog = tt;
    }

-- the block grows at the end of the line
pub block_grows : (G : Item → Type 0) (E : Item → List Item → Type 0) (top n run : ℕ) (z : Item)
    (line : List Item) (k : ℕ) (i : Item) → G i → Block G E Nil top n run z line k →
    Block G E Nil top (suc n) run z (line ++ i ∷ []) (suc k)
block_grows G E top n run z line k i g b =
    let q : b.zs ++ b.ys ≡ b.zs = ap (λ l. b.zs ++ l) b.backlog ∙ append-nil b.zs in
    let l : length (b.zs ++ i ∷ []) ≡ suc (length b.zs) =
    omega (arith, length-append b.zs (i ∷ [])) in
    record {
      xs = b.xs;
      zs = b.zs ++ i ∷ [];
      ys = [];
      line_is =
          ap (λ l. l ++ i ∷ []) (b.line_is ∙ ap (λ l. b.xs ++ l) q)
          ∙ append_assoc b.xs b.zs (i ∷ [])
          ∙ ap (λ l. b.xs ++ l) (sym (append-nil (b.zs ++ i ∷ [])));
      all = all_snoc G b.zs i b.all g;
      enough = by_enough l b.enough;
      short = omega (arith, b.short, l);
      backlog = refl;
    }
  where
    by_enough : length (b.zs ++ i ∷ []) ≡ suc (length b.zs) → ((n ≤ length b.zs) × E z b.xs)
        ⊎ ((b.xs ≡ []) × (n ≤ run + length b.zs) × (run ≤ top)) →
        ((suc n ≤ length (b.zs ++ i ∷ [])) × E z b.xs)
        ⊎ ((b.xs ≡ []) × (suc n ≤ run + length (b.zs ++ i ∷ [])) × (run ≤ top))
    by_enough l (inl h) = inl (omega (arith, h.0, l), h.1)
    by_enough l (inr h) = inr (h.0, omega (arith, h.1, l), h.2)

-- no flit of it yet
pub block_none : (G : Item → Type 0) (E : Item → List Item → Type 0) (top run : ℕ) (z : Item)
    (line : List Item) → E z line → Block G E Nil top 0 run z line (length line)
block_none G E top run z line e =
    record {
      xs = line;
      zs = [];
      ys = [];
      line_is = sym (append-nil line);
      all = tt;
      enough = inl (omega arith, e);
      short = omega arith;
      backlog = refl;
    }

pub block_length : (G : Item → Type 0) (E : Item → List Item → Type 0) (top n run : ℕ) (z : Item)
    (line : List Item) (k m : ℕ) → length line ≤ m → Block G E Nil top n run z line k →
    Block G E Nil top n run z line m
block_length G E top n run z line k m l b =
    let q : length line ≡ length b.xs + length (b.zs ++ b.ys) =
    ap length b.line_is ∙ length-append b.xs (b.zs ++ b.ys) in
    let r : length (b.zs ++ b.ys) ≡ length b.zs + length b.ys = length-append b.zs b.ys in
    record {
      xs = b.xs;
      zs = b.zs;
      ys = b.ys;
      line_is = b.line_is;
      all = b.all;
      enough = b.enough;
      short = omega (arith, q, r, l);
      backlog = b.backlog;
    }

-- A landing: a flit of the block makes the run longer by one.
pub block_lands : (G : Item → Type 0) (E : Item → List Item → Type 0) (Y : List Item → Type 0)
    (top n run run' : ℕ) (z : Item) (line : List Item) (k : ℕ) →
    ((w : Item) (xs : List Item) → E z (w ∷ xs) → E w xs) → 1 ≤ length line → (suc top ≤ n)
    ⊎ ((ys : List Item) → Y ys → ys ≡ []) →
    (G (front_or z line) → E z [] ⊎ (run ≤ top) → (run' ≡ suc run) × (run' ≤ top)) →
    Block G E Y top n run z line (suc k) → Block G E Y top n run' (front_or z line) (rest line) k
block_lands G E Y top n run run' z line k s l u g b =
    by_lists b.xs b.zs b.line_is b.all b.enough b.short
  where
    by_lists : (xs zs : List Item) → line ≡ xs ++ (zs ++ b.ys) → All G zs →
        ((n ≤ length zs) × E z xs) ⊎ ((xs ≡ []) × (n ≤ run + length zs) × (run ≤ top)) →
        length xs + length zs ≤ suc k → Block G E Y top n run' (front_or z line) (rest line) k
    by_lists (w ∷ xs) zs q a (inl e) m =
        record {
          xs = xs;
          zs = zs;
          ys = b.ys;
          line_is = ap rest q;
          all = a;
          enough =
              inl (e.0, subst (λ v. E v xs) (sym (ap (front_or z) q)) (s w xs e.1));
          short =
              omega (arith, m);
          backlog = b.backlog;
        }
    by_lists (w ∷ xs) zs q a (inr e) m = absurd (cc e.0)
    by_lists [] (v ∷ zs) q a e m =
        let f : front_or z line ≡ v = ap (front_or z) q in
        let h = g (subst G (sym f) a.0) (by_enough e) in
        record {
          xs = [];
          zs = zs;
          ys = b.ys;
          line_is = ap rest q;
          all = a.1;
          enough = inr (refl, by_count e h.0, h.1);
          short = omega (arith, m);
          backlog = b.backlog;
        }
      where
        by_enough : ((n ≤ suc (length zs)) × E z [])
            ⊎ ((◌≡◌ {A = List Item} [] []) × (n ≤ run + suc (length zs)) × (run ≤ top)) → E z []
            ⊎ (run ≤ top)
        by_enough (inl h) = inl h.1
        by_enough (inr h) = inr h.2

        by_count : ((n ≤ suc (length zs)) × E z [])
            ⊎ ((◌≡◌ {A = List Item} [] []) × (n ≤ run + suc (length zs)) × (run ≤ top)) →
            run' ≡ suc run → n ≤ run' + length zs
        by_count (inl h) q = omega (arith, h.0, q)
        by_count (inr h) q = omega (arith, h.1, q)
    by_lists [] [] q a e m = absurd (by_end u e)
      where
        by_end : (suc top ≤ n) ⊎ ((ys : List Item) → Y ys → ys ≡ []) → ((n ≤ 0) × E z [])
            ⊎ ((◌≡◌ {A = List Item} [] []) × (n ≤ run + 0) × (run ≤ top)) → ⊥
        by_end (inl t) (inl h) = omega (arith, t, h.0)
        by_end (inl t) (inr h) = omega (arith, t, h.1, h.2)
        by_end (inr t) h =
            let v : line ≡ [] = q ∙ t b.ys b.backlog in
            let w : length line ≡ 0 = ap length v in omega (arith, w, l)

pub block_less : (G : Item → Type 0) (E : Item → List Item → Type 0) (Y : List Item → Type 0)
    (top n m run : ℕ) (z : Item) (line : List Item) (k : ℕ) → m ≤ n →
    Block G E Y top n run z line k → Block G E Y top m run z line k
block_less G E Y top n m run z line k l b =
    record {
      xs = b.xs;
      zs = b.zs;
      ys = b.ys;
      line_is = b.line_is;
      all = b.all;
      enough = by_enough b.enough;
      short = b.short;
      backlog = b.backlog;
    }
  where
    by_enough : ((n ≤ length b.zs) × E z b.xs)
        ⊎ ((b.xs ≡ []) × (n ≤ run + length b.zs) × (run ≤ top)) → ((m ≤ length b.zs) × E z b.xs)
        ⊎ ((b.xs ≡ []) × (m ≤ run + length b.zs) × (run ≤ top))
    by_enough (inl h) = inl (omega (arith, h.0, l), h.1)
    by_enough (inr h) = inr (h.0, omega (arith, h.1, l), h.2)

pub block_none_left : (G : Item → Type 0) (E : Item → List Item → Type 0) (Y : List Item → Type 0)
    (top n run : ℕ) (z : Item) (line : List Item) → suc top ≤ n → Block G E Y top n run z line 0 → ⊥
block_none_left G E Y top n run z line l b = by_enough b.enough
  where
    by_enough : ((n ≤ length b.zs) × E z b.xs)
        ⊎ ((b.xs ≡ []) × (n ≤ run + length b.zs) × (run ≤ top)) → ⊥
    by_enough (inl h) = omega (arith, h.0, l, b.short)
    by_enough (inr h) = omega (arith, h.1, h.2, l, b.short)
