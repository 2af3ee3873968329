-- What each choice of a sender says of what it sees.
use Rattle.std.proofs.Common.{◌≡◌, ◌≢◌, ℕ, ◌%◌, ◌<◌, ◌≤◌, ◌==◌, nat_lt, nat_le, Bool, true, false, not, ◌&&◌, if◌then◌else◌, ◌⊎◌, inl, inr, refl, arith}
use Rattle.std.specs.Prelude.{Option, Some, None}
use Rattle.std.proofs.lemmas.Grind.{common_steps}
use Rattle.hmc_link_state.specs.Choice.{Sight, Choice, choice, begun_choice, free_choice, packet_choice, new_choice, idle_choice, is_training, is_abort, fits, flits_or}
use Rattle.hmc_link_state.specs.Choice.Choice.{train, starved, next, clear, start, again, new, tret, pret, null}

pub record IsOut (s : Sight) : Type 0 where
  pub trained : is_training s.mode ≡ false
  pub left : s.left ≡ 0

pub record IsCalm (s : Sight) : Type 0 where
  pub trained : is_training s.mode ≡ false
  pub left : s.left ≡ 0
  pub clears : s.clears % 32 ≡ 0
  pub starts : s.starts % 32 ≡ 0
  pub back : s.go_back ≡ false
  pub abort : (is_abort s.mode && s.is_long_ago) ≡ false

pub record IsNew (s : Sight) : Type 0 where
  pub calm : IsCalm s
  pub caught : s.begun ≤ s.position

pub record IsIdle (s : Sight) : Type 0 where
  pub new : IsNew s
  pub front : (s.is_open && fits s.front s.held s.room) ≡ false
  pub due : (s.is_open && (nat_lt 0 s.due && nat_le 1 s.room)) ≡ false

pub record Begins (s : Sight) (n : ℕ) : Type 0 where
  pub new : IsNew s
  pub opened : s.is_open ≡ true
  pub front : s.front ≡ Some n
  pub held : n ≤ s.held
  pub room : n ≤ s.room

pub record Returns (s : Sight) : Type 0 where
  pub new : IsNew s
  pub opened : s.is_open ≡ true
  pub front : (s.is_open && fits s.front s.held s.room) ≡ false
  pub due : 1 ≤ s.due
  pub room : 1 ≤ s.room

pub record Clears (s : Sight) : Type 0 where
  pub out : IsOut s
  pub why : (s.clears % 32 ≢ 0) ⊎ ((s.clears % 32 ≡ 0) × (s.starts % 32 ≡ 0) × (s.go_back ≡ true))

pub record Starts (s : Sight) : Type 0 where
  pub out : IsOut s
  pub clears : s.clears % 32 ≡ 0
  pub why : (s.starts % 32 ≢ 0)
      ⊎ ((s.starts % 32 ≡ 0) × (s.go_back ≡ false) × ((is_abort s.mode && s.is_long_ago) ≡ true))

abbrev pub Chosen : Sight → Choice → Type 0
Chosen s train = is_training s.mode ≡ true
Chosen s starved = s.is_there ≡ false
Chosen s next = (is_training s.mode ≡ false) × (1 ≤ s.left)
Chosen s clear = Clears s
Chosen s start = Starts s
Chosen s again = IsCalm s × (s.position < s.begun)
Chosen s (new n) = Begins s n
Chosen s tret = Returns s
Chosen s pret = IsIdle s × (s.is_acknowledged ≡ false)
Chosen s null = IsIdle s × (s.is_acknowledged ≡ true)

pub eq_same : (a b : ℕ) → (a == b) ≡ true → a ≡ b
eq_same a b e = grind (arith, common_steps)

pub not_same : (a b : ℕ) → (a == b) ≡ false → a ≢ b
not_same a b e = grind (arith, common_steps)

pub less_lt : (a b : ℕ) → nat_lt a b ≡ true → a < b
less_lt a b e = grind (arith, common_steps)

pub not_less : (a b : ℕ) → nat_lt a b ≡ false → b ≤ a
not_less a b e = grind (arith, common_steps)

pub most_le : (a b : ℕ) → nat_le a b ≡ true → a ≤ b
most_le a b e = grind (arith, common_steps)

pub most_not : (a b : ℕ) → nat_le a b ≡ false → b < a
most_not a b e = grind (arith, common_steps)

pub and_true : (a b : Bool) → (a && b) ≡ true → (a ≡ true) × (b ≡ true)
and_true true b e = (refl, e)
and_true false b e = absurd (cc e)

pub not_false : (b : Bool) → not b ≡ false → b ≡ true
not_false true e = refl
not_false false e = absurd (cc e)

pub not_true : (b : Bool) → not b ≡ true → b ≡ false
not_true true e = absurd (cc e)
not_true false e = refl

ifs : (P : Choice → Type 0) (b : Bool) (x y : Choice) → (b ≡ true → P x) → (b ≡ false → P y) →
    P (if b then x else y)
ifs P true x y f g = f refl
ifs P false x y f g = g refl

front_is : (f : Option ℕ) (h r : ℕ) → fits f h r ≡ true → (f ≡ Some (flits_or f)) × (flits_or f ≤ h)
    × (flits_or f ≤ r)
front_is None h r e = absurd (cc e)
front_is (Some n) h r e =
    let z = and_true (nat_le n h) (nat_le n r) e in (refl, most_le n h z.0, most_le n r z.1)

new_chosen : (s : Sight) → IsNew s → Chosen s (new_choice s)
new_chosen s n =
    ifs (Chosen s) (s.is_open && fits s.front s.held s.room) (new (flits_or s.front))
    (if s.is_open && (nat_lt 0 s.due && nat_le 1 s.room) then tret else idle_choice s)
    (λ e. let z = and_true s.is_open (fits s.front s.held s.room) e in
    let y = front_is s.front s.held s.room z.1 in
    record { new = n; opened = z.0; front = y.0; held = y.1; room = y.2 })
    (λ e. ifs (Chosen s) (s.is_open && (nat_lt 0 s.due && nat_le 1 s.room)) tret (idle_choice s)
    (λ d. let z = and_true s.is_open (nat_lt 0 s.due && nat_le 1 s.room) d in
    let y = and_true (nat_lt 0 s.due) (nat_le 1 s.room) z.1 in
    record {
      new = n;
      opened = z.0;
      front = e;
      due = less_lt 0 s.due y.0;
      room = most_le 1 s.room y.1;
    })
    (λ d. ifs (Chosen s) (not s.is_acknowledged) pret null
    (λ a. (record { new = n; front = e; due = d }, not_true s.is_acknowledged a))
    (λ a. (record { new = n; front = e; due = d }, not_false s.is_acknowledged a))))

packet_chosen : (s : Sight) → IsCalm s → Chosen s (packet_choice s)
packet_chosen s c =
    ifs (Chosen s) (nat_lt s.position s.begun) again (new_choice s)
    (λ e. (c, less_lt s.position s.begun e))
    (λ e. new_chosen s (record { calm = c; caught = not_less s.position s.begun e }))

free_chosen : (s : Sight) → is_training s.mode ≡ false → s.left ≡ 0 → s.clears % 32 ≡ 0 →
    Chosen s (free_choice s)
free_chosen s t l c =
    ifs (Chosen s) (not (s.starts % 32 == 0)) start (if s.go_back then clear
    else (if is_abort s.mode && s.is_long_ago then start else packet_choice s))
    (λ e. record {
      out = record { trained = t; left = l };
      clears = c;
      why = inl (not_same (s.starts % 32) 0 (not_true (s.starts % 32 == 0) e));
    })
    (λ e. let z = eq_same (s.starts % 32) 0 (not_false (s.starts % 32 == 0) e) in
    ifs (Chosen s) s.go_back clear (if is_abort s.mode && s.is_long_ago then start
    else packet_choice s)
    (λ g. record { out = record { trained = t; left = l }; why = inr (c, z, g) })
    (λ g. ifs (Chosen s) (is_abort s.mode && s.is_long_ago) start (packet_choice s)
    (λ a. record { out = record { trained = t; left = l }; clears = c; why = inr (z, g, a) })
    (λ a. packet_chosen s
    (record { trained = t; left = l; clears = c; starts = z; back = g; abort = a }))))

pub chosen : (s : Sight) → Chosen s (choice s)
chosen s =
    ifs (Chosen s) (is_training s.mode) train (begun_choice s) (λ t. t)
    (λ t. ifs (Chosen s) (not (s.left == 0)) (if s.is_there then next else starved)
    (if not (s.clears % 32 == 0) then clear else free_choice s)
    (λ l. ifs (Chosen s) s.is_there next starved
    (λ i. (t, let z = not_same s.left 0 (not_true (s.left == 0) l) in omega (arith, z))) (λ i. i))
    (λ l. let z = eq_same s.left 0 (not_false (s.left == 0) l) in
    ifs (Chosen s) (not (s.clears % 32 == 0)) clear (free_choice s)
    (λ c. record {
      out = record { trained = t; left = z };
      why = inl (not_same (s.clears % 32) 0 (not_true (s.clears % 32 == 0) c));
    })
    (λ c. free_chosen s t z (eq_same (s.clears % 32) 0 (not_false (s.clears % 32 == 0) c)))))
