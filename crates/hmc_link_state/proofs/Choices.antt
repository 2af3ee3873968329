-- What a sender sends is an event.
use Rattle.std.proofs.Common.{◌≡◌, ◌≢◌, ℕ, ◌+◌, ◌%◌, ◌≤◌, Bool, true, false, refl, sym, ◌∙◌, ap, arith}
use Rattle.std.specs.Prelude.{◌==◌, ◌&&◌, not, nat_lt, nat_le, if◌then◌else◌, Option, Some, None}
use Rattle.hmc_numbers.specs.Weights.{Weight, HasValidSize}
use Rattle.hmc_codes.specs.declared.profile.Profile.{Profile}
use Rattle.hmc_numbers.specs.Direction.{Reached, Reached as far, begun, position}
use Rattle.hmc_numbers.specs.May.{IsFree, HasRoom}
use Rattle.hmc_numbers.specs.Pair.{Half}
use Rattle.hmc_numbers.specs.Events.Event.{begins, begins_through}
use Rattle.hmc_numbers.specs.Tokens.{cost, cost_begun, tokens_begun, tokens_accepted}
use Rattle.hmc_numbers.specs.Turns.{MayHere}
use Rattle.hmc_numbers.specs.PairLaws.{HalfLaws}
use Rattle.hmc_link_state.specs.Choice.{Mode, Sight, Choice as choices, tokens_for, fits, flits_or, is_training, is_abort, idle_choice, new_choice, packet_choice, free_choice, begun_choice, choice}
use Rattle.hmc_link_state.specs.Choice.Mode.{training, abort, good}
use Rattle.hmc_link_state.specs.Sees.{Sees, event_of, mode_of, new_slot, tret_slot, IsFairFront}
use Rattle.hmc_link_state.proofs.Chosen.{not_true, not_false, and_true, eq_same, less_lt, most_le, not_less, not_same}

-- tests and numbers

-- what is brought back is due

tokens_by : (d : ℕ) (a b c e f g h : Bool) → (d == 0) ≡ a → nat_lt d 2 ≡ b → nat_lt d 4 ≡ c →
    nat_lt d 8 ≡ e → nat_lt d 16 ≡ f → nat_lt d 32 ≡ g → nat_lt d 64 ≡ h →
    (if a then 0
    else (if b then 1
    else (if c then 2
    else (if e then 4 else (if f then 8 else (if g then 16 else (if h then 32 else 64))))))) ≤ d
tokens_by d true b c e f g h i j k l m n o = omega arith
tokens_by d false true c e f g h i j k l m n o = let z = not_same d 0 i in omega arith
tokens_by d false false true e f g h i j k l m n o = let z = not_less d 2 j in omega arith
tokens_by d false false false true f g h i j k l m n o = let z = not_less d 4 k in omega arith
tokens_by d false false false false true g h i j k l m n o = let z = not_less d 8 l in omega arith
tokens_by d false false false false false true h i j k l m n o =
    let z = not_less d 16 m in omega arith
tokens_by d false false false false false false true i j k l m n o =
    let z = not_less d 32 n in omega arith
tokens_by d false false false false false false false i j k l m n o =
    let z = not_less d 64 o in omega arith

pub tokens_least : (d : ℕ) → tokens_for d ≤ d
tokens_least d =
    tokens_by d (d == 0) (nat_lt d 2) (nat_lt d 4) (nat_lt d 8) (nat_lt d 16) (nat_lt d 32)
    (nat_lt d 64) refl refl refl refl refl refl refl

-- the sender's own receiver isn't in Train

trained : (m : Mode) (fr : Reached) → m ≡ mode_of fr → is_training m ≡ false → fr ≢ far.training
trained m far.training e h q = absurd (trains m e h)
  where
    trains : (m : Mode) → m ≡ training → is_training m ≡ false → ⊥
    trains training e h = cc
    trains abort e h = cc
    trains good e h = cc
trained m far.aborting e h q = cc
trained m far.between e h q = cc
trained m (far.inside n k) e h q = cc
trained m far.spoilt e h q = cc

untrained : (m : Mode) (fr : Reached) → m ≡ mode_of fr → is_training m ≡ true → fr ≡ far.training
untrained training far.training e h = refl
untrained training far.aborting e h = absurd (cc e)
untrained training far.between e h = absurd (cc e)
untrained training (far.inside n k) e h = absurd (cc e)
untrained training far.spoilt e h = absurd (cc e)
untrained abort fr e h = absurd (cc h)
untrained good fr e h = absurd (cc h)

pub record Sender (p : Profile) (r adv : ℕ) (own other : Half) (s : Sight) : Type 0 where
  pub sees : Sees r adv own other s
  pub laws : HalfLaws p r adv own other
  pub back : HalfLaws p r adv other own

-- a packet is begun where tokens are held and there is room

has_room : (p : Profile) (r adv : ℕ) (own other : Half) (s : Sight) → Sender p r adv own other s →
    (slot : Weight) → 1 ≤ slot.flits → slot.flits ≤ s.room → HasRoom r own.direction slot
has_room p r adv own other s d slot a b = let z = d.sees.room in omega arith

may_due : (p : Profile) (r adv : ℕ) (own other : Half) (s : Sight) → Sender p r adv own other s →
    tokens_begun own.direction + tokens_for s.due ≤ adv + other.moved
may_due p r adv own other s d =
    let z = d.sees.due in
    let a = tokens_least s.due in
    let b = d.back.due in
    omega arith

may_new : (p : Profile) (r adv : ℕ) (own other : Half) (s : Sight) → Sender p r adv own other s →
    other.direction.far ≢ far.training → IsFree own.direction → (slot : Weight) →
    HasValidSize slot → slot.flits ≤ s.room →
    cost_begun own.direction + cost slot ≤ tokens_accepted other.direction →
    slot.returns ≡ tokens_for s.due → MayHere r adv own other (begins slot)
may_new p r adv own other s d t f slot i b c e = (
  t,
  (f, i, has_room p r adv own other s d slot i.0 b),
  (c, let z = may_due p r adv own other s d in omega arith),
)

-- The cases

-- the sender's own receiver is out of Train, and no packet is begun
pub record Idle (p : Profile) (r adv : ℕ) (own other : Half) (s : Sight) : Type 0 where
  pub sender : Sender p r adv own other s
  pub trained : other.direction.far ≢ far.training
  pub left : own.direction.left ≡ 0

idle : (p : Profile) (r adv : ℕ) (own other : Half) (s : Sight) → Idle p r adv own other s →
    MayHere r adv own other (event_of s.due (idle_choice s))
idle p r adv own other s i = by_test (not s.is_acknowledged)
  where
    by_test : (b : Bool) →
        MayHere r adv own other (event_of s.due (if b then choices.pret else choices.null))
    by_test true = (i.trained, i.left)
    by_test false = (i.trained, i.left)

pub record Free (p : Profile) (r adv : ℕ) (own other : Half) (s : Sight) : Type 0 where
  pub idle : Idle p r adv own other s
  pub clears : own.direction.clears % 32 ≡ 0

fits_both : (f : Option ℕ) (h r : ℕ) → IsFairFront f → fits f h r ≡ true →
    ((1 ≤ flits_or f) × (flits_or f ≤ 17)) × ((flits_or f ≤ h) × (flits_or f ≤ r))
fits_both None h r i e = absurd (cc e)
fits_both (Some n) h r i e =
    let z = and_true (nat_le n h) (nat_le n r) e in (i, (most_le n h z.0, most_le n r z.1))

new_by : (p : Profile) (r adv : ℕ) (own other : Half) (s : Sight) → Free p r adv own other s →
    position own.direction ≡ begun own.direction → fits s.front s.held s.room ≡ true →
    MayHere r adv own other (begins (new_slot (flits_or s.front) s.due))
new_by p r adv own other s f q e =
    let d = f.idle.sender in
    let z = fits_both s.front s.held s.room d.sees.front e in
    let h = d.sees.held in
    may_new p r adv own other s d f.idle.trained (f.idle.left, f.clears, q)
    (new_slot (flits_or s.front) s.due) z.0 z.1.1 (omega (arith, z.0, z.1)) refl

tret_by : (p : Profile) (r adv : ℕ) (own other : Half) (s : Sight) → Free p r adv own other s →
    position own.direction ≡ begun own.direction → nat_le 1 s.room ≡ true →
    MayHere r adv own other (begins (tret_slot s.due))
tret_by p r adv own other s f q e =
    let d = f.idle.sender in
    let h = d.laws.held in
    may_new p r adv own other s d f.idle.trained (f.idle.left, f.clears, q) (tret_slot s.due)
    (omega arith, omega arith) (most_le 1 s.room e) (omega arith) refl

new_case : (p : Profile) (r adv : ℕ) (own other : Half) (s : Sight) → Free p r adv own other s →
    position own.direction ≡ begun own.direction →
    MayHere r adv own other (event_of s.due (new_choice s))
new_case p r adv own other s f q = by_new (s.is_open && fits s.front s.held s.room) refl
  where
    by_tret : (b : Bool) → (s.is_open && (nat_lt 0 s.due && nat_le 1 s.room)) ≡ b →
        MayHere r adv own other (event_of s.due (if b then choices.tret else idle_choice s))
    by_tret true e =
        tret_by p r adv own other s f q
        (and_true (nat_lt 0 s.due) (nat_le 1 s.room)
        (and_true s.is_open (nat_lt 0 s.due && nat_le 1 s.room) e).1).1
    by_tret false e = idle p r adv own other s f.idle

    by_new : (b : Bool) → (s.is_open && fits s.front s.held s.room) ≡ b →
        MayHere r adv own other
        (event_of s.due (if b then choices.new (flits_or s.front)
        else (if s.is_open && (nat_lt 0 s.due && nat_le 1 s.room) then choices.tret
        else idle_choice s)))
    by_new true e =
        new_by p r adv own other s f q (and_true s.is_open (fits s.front s.held s.room) e).1
    by_new false e = by_tret (s.is_open && (nat_lt 0 s.due && nat_le 1 s.room)) refl

packet_case : (p : Profile) (r adv : ℕ) (own other : Half) (s : Sight) → Free p r adv own other s →
    MayHere r adv own other (event_of s.due (packet_choice s))
packet_case p r adv own other s f = by_test (nat_lt s.position s.begun) refl
  where
    by_test : (b : Bool) → nat_lt s.position s.begun ≡ b →
        MayHere r adv own other (event_of s.due (if b then choices.again else new_choice s))
    by_test true e =
        let d = f.idle.sender in
        let l = less_lt s.position s.begun e in
        let a = d.sees.position in
        let c = d.sees.begun in
        (f.idle.trained, (f.idle.left, f.clears, omega (arith, a, c, l)))
    by_test false e =
        let d = f.idle.sender in
        let l = not_less s.position s.begun e in
        let a = d.sees.position in
        let c = d.sees.begun in
        let m = d.laws.laws.position in
        new_case p r adv own other s f (omega (arith, a, c, l, m))

free_case : (p : Profile) (r adv : ℕ) (own other : Half) (s : Sight) → Free p r adv own other s →
    MayHere r adv own other (event_of s.due (free_choice s))
free_case p r adv own other s f = by_starts (not (s.starts % 32 == 0))
  where
    i : Idle p r adv own other s
    i = f.idle

    by_abort : (b : Bool) →
        MayHere r adv own other (event_of s.due (if b then choices.start else packet_choice s))
    by_abort true = (i.trained, i.left)
    by_abort false = packet_case p r adv own other s f

    by_back : (b : Bool) →
        MayHere r adv own other
        (event_of s.due (if b then choices.clear
        else (if is_abort s.mode && s.is_long_ago then choices.start else packet_choice s)))
    by_back true = (i.trained, i.left)
    by_back false = by_abort (is_abort s.mode && s.is_long_ago)

    by_starts : (b : Bool) →
        MayHere r adv own other
        (event_of s.due (if b then choices.start
        else (if s.go_back then choices.clear
        else (if is_abort s.mode && s.is_long_ago then choices.start else packet_choice s))))
    by_starts true = (i.trained, i.left)
    by_starts false = by_back s.go_back

begun_case : (p : Profile) (r adv : ℕ) (own other : Half) (s : Sight) → Sender p r adv own other s →
    other.direction.far ≢ far.training → MayHere r adv own other (event_of s.due (begun_choice s))
begun_case p r adv own other s d t = by_left (not (s.left == 0)) refl
  where
    by_there : 1 ≤ own.direction.left → (b : Bool) →
        MayHere r adv own other (event_of s.due (if b then choices.next else choices.starved))
    by_there l true = l
    by_there l false = tt

    by_clears : own.direction.left ≡ 0 → (b : Bool) → not (s.clears % 32 == 0) ≡ b →
        MayHere r adv own other (event_of s.due (if b then choices.clear else free_choice s))
    by_clears l true e = (t, l)
    by_clears l false e =
        free_case p r adv own other s (record {
          idle = record { sender = d; trained = t; left = l };
          clears =
              ap (λ n. n % 32) (sym d.sees.clears)
              ∙ eq_same (s.clears % 32) 0 (not_false (s.clears % 32 == 0) e);
        })

    by_left : (b : Bool) → not (s.left == 0) ≡ b →
        MayHere r adv own other
        (event_of s.due (if b then (if s.is_there then choices.next else choices.starved)
        else (if not (s.clears % 32 == 0) then choices.clear else free_choice s)))
    by_left true e =
        let n = not_same s.left 0 (not_true (s.left == 0) e) in
        let q = d.sees.left in
        by_there (omega arith) s.is_there
    by_left false e =
        by_clears (sym d.sees.left ∙ eq_same s.left 0 (not_false (s.left == 0) e))
        (not (s.clears % 32 == 0)) refl

-- the first case that fits is an event
pub choice_may : (p : Profile) (r adv : ℕ) (own other : Half) (s : Sight) → Sees r adv own other s →
    HalfLaws p r adv own other → HalfLaws p r adv other own →
    MayHere r adv own other (event_of s.due (choice s))
choice_may p r adv own other s h a b = by_mode (is_training s.mode) refl
  where
    d : Sender p r adv own other s
    d = record { sees = h; laws = a; back = b }

    by_mode : (t : Bool) → is_training s.mode ≡ t →
        MayHere r adv own other (event_of s.due (if t then choices.train else begun_choice s))
    by_mode true e = untrained s.mode other.direction.far h.mode e
    by_mode false e = begun_case p r adv own other s d (trained s.mode other.direction.far h.mode e)

-- a cut-through packet is begun where none of the cases before a new packet fits
pub through_may : (p : Profile) (r adv : ℕ) (own other : Half) (s : Sight) (n : ℕ) →
    Sees r adv own other s → HalfLaws p r adv own other → HalfLaws p r adv other own →
    is_training s.mode ≡ false → s.left ≡ 0 → s.clears % 32 ≡ 0 → s.position ≡ s.begun → 1 ≤ n →
    n ≤ 17 → n ≤ s.held → n ≤ s.room → MayHere r adv own other (begins_through (new_slot n s.due))
through_may p r adv own other s n h a b m l c q i j k o =
    let d : Sender p r adv own other s = record { sees = h; laws = a; back = b } in
    let e = h.held in
    let z =
    may_new p r adv own other s d (trained s.mode other.direction.far h.mode m) (
      sym h.left
          ∙ l,
      ap (λ x. x % 32) (sym h.clears) ∙ c,
      sym h.position ∙ q ∙ h.begun,
    ) (new_slot n s.due)
    (i, j) o (omega arith) refl in
    (z.0, z.1, z.2)
