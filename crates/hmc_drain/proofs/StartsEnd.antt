-- Where both receivers are Good, bursts of Starts end and the line is rid of them.
use Rattle.std.proofs.Common.{◌≡◌, ◌≢◌, ℕ, suc, ◌+◌, ◌-◌, ◌%◌, ◌≤◌, nat_lt, ◌&&◌, Bool, true, false, if◌then◌else◌, List, [], ◌∷◌, ◌++◌, length, ◌⊎◌, inl, inr, refl, sym, ◌∙◌, ap, subst, arith, append_assoc}
use Rattle.hmc_numbers.specs.Direction.{Item, rest}
use Rattle.hmc_numbers.specs.Events.{Reading}
use Rattle.hmc_numbers.specs.May.{IsGood}
use Rattle.hmc_link_state.specs.Choice.{Choice, choice, is_abort}
use Rattle.hmc_link_state.specs.Choice.Choice.{train, starved, next, clear, start, again, new, tret, pret, null}
use Rattle.hmc_link_state.specs.Sees.{mode_of}
use Rattle.hmc_link_state.specs.State.{Setup, Side, wire, IsNoStart, HaveNoStart}
use Rattle.hmc_link_state.specs.Round.{sight, sent, sent_by, front, landed_own, landed_other, costs_next}
use Rattle.hmc_link_state.specs.Facts.{SideFacts}
use Rattle.hmc_link_state.proofs.Calm.{good_far, landed_wire, rest_quiet, more_quiet}
use Rattle.hmc_drain.proofs.Backlog.{zero_or_more, sent_if_room}
use Rattle.hmc_link_state.proofs.Chosen.{Chosen, chosen}
use Rattle.hmc_link_state.proofs.Falls.{took_keeps}
use Rattle.hmc_link_state.proofs.Lines.{lands_own, lands_other}
use Rattle.hmc_link_state.proofs.SentFields.{far_same, no_starts}
use Rattle.hmc_drain.proofs.ReadyChoice.{no_train, no_abort}
use Rattle.hmc_link_state.proofs.Turning.{Stays, Turning}

-- Both Good

abbrev pub BothGood : Side → Side → Type 0
BothGood x y = IsGood (wire x).far × IsGood (wire y).far

pub if_side : (P : Side → Type 0) (b : Bool) (x y : Side) → P x → P y → P (if b then x else y)
if_side P true x y h k = h
if_side P false x y h k = k

-- a send, by its choice, or none where the line is full
pub by_send : (P : Side → Type 0) (c : Setup) (x y : Side) →
    P (sent_by c x y (choice (sight c x y))) → P x → P (sent c x y)
by_send P c x y h k =
    if_side P (nat_lt (length (wire x).line) c.line) (sent_by c x y (choice (sight c x y))) x h k

pub good_sent : (c : Setup) (x y : Side) → IsGood (wire x).far → IsGood (wire (sent c x y)).far
good_sent c x y h =
    by_send (λ s. IsGood (wire s).far) c x y
    (subst IsGood (sym (far_same c x y (choice (sight c x y)))) h) h

pub good_landed : (x : Side) (costs : Bool) (look : Reading) → IsGood (wire x).far →
    IsGood (wire (landed_own x costs look)).far
good_landed x costs look h =
    subst (λ w. IsGood w.far) (sym (landed_wire x costs look h)) (good_far (wire x) (front x))

pub good_took : (y x : Side) (look : Reading) → IsGood (wire x).far →
    IsGood (wire (landed_other y x look)).far
good_took y x look h = took_keeps (λ w. IsGood w.far) (λ w n g. g) y x look h

pub goods_stay : (c : Setup) → Stays c BothGood
goods_stay c = record {
  swap = λ x y h. (h.1, h.0);
  send = λ x y b h. (good_sent c x y h.0, h.1);
  land = λ x y look b l h. (good_landed x (costs_next x) look h.0, good_took x y look h.1);
  moved = λ x y m n bx by qx qy h. h;
}

-- A burst of Starts ends

abbrev pub Starting : ℕ → Side → Side → Type 0
Starting m x y = (x.starts % 32 ≡ 0) ⊎ (32 - x.starts % 32 ≤ m)

pub no_start_in_good : (c : Setup) (x y : Side) → IsGood (wire y).far → Chosen (sight c x y) start →
    x.starts % 32 ≡ 0 → ⊥
no_start_in_good c x y g h z = by_why h.why
  where
    by_why : (x.starts % 32 ≢ 0)
        ⊎ ((x.starts % 32 ≡ 0) × (x.go_back ≡ false)
        × ((is_abort (mode_of (wire y).far) && (sight c x y).is_long_ago) ≡ true)) → ⊥
    by_why (inl n) = n z
    by_why (inr a) = no_abort (wire y).far (sight c x y).is_long_ago g a.2

one_less : (n m : ℕ) → 32 - n % 32 ≤ suc m → ((n + 1) % 32 ≡ 0) ⊎ (32 - (n + 1) % 32 ≤ m)
one_less n m h = by_rest (zero_or_more ((n + 1) % 32))
  where
    by_rest : ((n + 1) % 32 ≡ 0) ⊎ (1 ≤ (n + 1) % 32) → ((n + 1) % 32 ≡ 0) ⊎ (32 - (n + 1) % 32 ≤ m)
    by_rest (inl q) = inl q
    by_rest (inr q) = inr (omega (arith, h, q))

starting_by : (c : Setup) (m : ℕ) (x y : Side) (z : Choice) → SideFacts c x y →
    IsGood (wire y).far → Chosen (sight c x y) z → Starting (suc m) x y →
    Starting m (sent_by c x y z) y
starting_by c m x y train f g h s = absurd (no_train (wire y).far g h)
starting_by c m x y starved f g h s = absurd (cc h)
starting_by c m x y next f g h s = inl (f.whole h.1).1
starting_by c m x y clear f g h s = inl (no_starts c x y h f)
starting_by c m x y start f g h s = by_left s
  where
    by_left : Starting (suc m) x y → ((x.starts + 1) % 32 ≡ 0) ⊎ (32 - (x.starts + 1) % 32 ≤ m)
    by_left (inl q) = absurd (no_start_in_good c x y g h q)
    by_left (inr q) = one_less x.starts m q
starting_by c m x y again f g h s = inl h.0.starts
starting_by c m x y (new n) f g h s = inl h.new.calm.starts
starting_by c m x y tret f g h s = inl h.new.calm.starts
starting_by c m x y pret f g h s = inl h.0.new.calm.starts
starting_by c m x y null f g h s = inl h.0.new.calm.starts

pub room_or : (c : Setup) (P : Side → Type 0) (x y : Side) → suc (length (wire x).line) ≤ c.line →
    P (sent_by c x y (choice (sight c x y))) → P (sent c x y)
room_or c P x y l h = subst P (sym (sent_if_room c x y l)) h

pub starting_turns : (c : Setup) (m : ℕ) →
    Turning c BothGood (Starting (suc m)) (Starting m) (Starting m)
starting_turns c m = record {
  link = record {
    send =
        λ x y b k l h. room_or c (λ s. Starting m s y) x y l
        (starting_by c m x y (choice (sight c x y)) b.0 k.1 (chosen (sight c x y)) h);
    send_before = λ x y b k h. h;
    send_after = λ x y b k h. h;
    land = λ x y look b k l h. h;
    land_before = λ x y look b k l h. h;
    land_after = λ x y look b k l h. h;
  };
  moved = λ x y m n bx by qx qy h. h;
}

-- The line is rid of Starts

pub record Ridding (i : ℕ) (x y : Side) : Type 0 where
  pub starts : x.starts % 32 ≡ 0
  pub xs : List Item
  pub ys : List Item
  pub line : (wire x).line ≡ xs ++ ys
  pub short : length xs ≤ i
  pub quiet : HaveNoStart ys

-- what is sent that is no Start
other_item : (c : Setup) (x y : Side) (z : Choice) → z ≢ start → Chosen (sight c x y) z → (i : Item)
    × IsNoStart i × ((wire (sent_by c x y z)).line ≡ (wire x).line ++ i ∷ [])
    × ((sent_by c x y z).starts ≡ x.starts)
other_item c x y train n h = (_, tt, refl, refl)
other_item c x y starved n h = absurd (cc h)
other_item c x y next n h = (_, tt, refl, refl)
other_item c x y clear n h = (_, tt, refl, refl)
other_item c x y start n h = absurd (n refl)
other_item c x y again n h = (_, tt, refl, refl)
other_item c x y (new m) n h = (_, tt, refl, refl)
other_item c x y tret n h = (_, tt, refl, refl)
other_item c x y pret n h = (_, tt, refl, refl)
other_item c x y null n h = (_, tt, refl, refl)

not_start : (c : Setup) (x y : Side) → IsGood (wire y).far → x.starts % 32 ≡ 0 →
    choice (sight c x y) ≢ start
not_start c x y g z q =
    no_start_in_good c x y g (subst (Chosen (sight c x y)) q (chosen (sight c x y))) z

ridding_by : (c : Setup) (i : ℕ) (x y : Side) → IsGood (wire y).far → Ridding i x y →
    Ridding i (sent_by c x y (choice (sight c x y))) y
ridding_by c i x y g h =
    let t =
    other_item c x y (choice (sight c x y)) (not_start c x y g h.starts)
    (chosen (sight c x y)) in
    record {
      starts = ap (λ n. n % 32) t.3 ∙ h.starts;
      xs = h.xs;
      ys = h.ys ++ t.0 ∷ [];
      line = t.2 ∙ ap (λ l. l ++ t.0 ∷ []) h.line ∙ append_assoc h.xs h.ys (t.0 ∷ []);
      short = h.short;
      quiet = more_quiet h.ys t.0 h.quiet t.1;
    }

ridding_line : (i : ℕ) (x y x' y' : Side) → (wire x').line ≡ (wire x).line →
    x'.starts ≡ x.starts → Ridding i x y → Ridding i x' y'
ridding_line i x y x' y' q r h =
    record {
      starts = ap (λ n. n % 32) r ∙ h.starts;
      xs = h.xs;
      ys = h.ys;
      line = q
          ∙ h.line;
      short = h.short;
      quiet = h.quiet;
    }

ridding_lands : (i : ℕ) (x y x' y' : Side) → (wire x').line ≡ rest (wire x).line →
    x'.starts ≡ x.starts → x.starts % 32 ≡ 0 → (xs ys : List Item) → (wire x).line ≡ xs ++ ys →
    length xs ≤ suc i → HaveNoStart ys → Ridding i x' y'
ridding_lands i x y x' y' q r z [] ys l s h =
    record {
      starts = ap (λ n. n % 32) r ∙ z;
      xs = [];
      ys = rest ys;
      line = q
          ∙ ap rest l;
      short = omega arith;
      quiet = rest_quiet ys h;
    }
ridding_lands i x y x' y' q r z (w ∷ xs) ys l s h =
    record {
      starts = ap (λ n. n % 32) r ∙ z;
      xs = xs;
      ys = ys;
      line = q
          ∙ ap rest l;
      short = omega (arith, s);
      quiet = h;
    }

pub ridding_turns : (c : Setup) (i : ℕ) →
    Turning c BothGood (Ridding (suc i)) (Ridding (suc i)) (Ridding i)
ridding_turns c i = record {
  link = record {
    send =
        λ x y b k l h. room_or c (λ s. Ridding (suc i) s y) x y l (ridding_by c (suc i) x y k.1 h);
    send_before = λ x y b k h. ridding_line (suc i) x y x (sent c y x) refl refl h;
    send_after = λ x y b k h. ridding_line (suc i) x y x (sent c y x) refl refl h;
    land =
        λ x y look b k l h. ridding_lands i x y (landed_own x (costs_next x) look)
        (landed_other x y look) (lands_own x (costs_next x) look) refl h.starts h.xs h.ys h.line
        h.short h.quiet;
    land_before =
        λ x y look b k l h. ridding_line (suc i) x y (landed_other y x look)
        (landed_own y (costs_next y) look) (lands_other y x look) refl h;
    land_after =
        λ x y look b k l h. ridding_line i x y (landed_other y x look)
        (landed_own y (costs_next y) look) (lands_other y x look) refl h;
  };
  moved =
      λ x y m n bx by qx qy h. record {
        starts = h.starts;
        xs = h.xs;
        ys = h.ys;
        line = h.line;
        short = h.short;
        quiet = h.quiet;
      };
}

-- Both rid of them

pub record IsRid (x : Side) : Type 0 where
  pub good : IsGood (wire x).far
  pub starts : x.starts % 32 ≡ 0
  pub line : HaveNoStart (wire x).line

abbrev pub AreRid : Side → Side → Type 0
AreRid x y = IsRid x × IsRid y

rid_sent : (c : Setup) (x y : Side) → IsGood (wire y).far → IsRid x → IsRid (sent c x y)
rid_sent c x y g h =
    let t =
    other_item c x y (choice (sight c x y)) (not_start c x y g h.starts)
    (chosen (sight c x y)) in
    by_send IsRid c x y (record {
      good = subst IsGood (sym (far_same c x y (choice (sight c x y)))) h.good;
      starts = ap (λ n. n % 32) t.3 ∙ h.starts;
      line = subst HaveNoStart (sym t.2) (more_quiet (wire x).line t.0 h.line t.1);
    }) h

pub rids_stay : (c : Setup) → Stays c AreRid
rids_stay c = record {
  swap = λ x y h. (h.1, h.0);
  send = λ x y b h. (rid_sent c x y h.1.good h.0, h.1);
  land = λ x y look b l h. (
    record {
      good = good_landed x (costs_next x) look h.0.good;
      starts = h.0.starts;
      line =
          subst HaveNoStart (sym (lands_own x (costs_next x) look))
          (rest_quiet (wire x).line h.0.line);
    },
    record {
      good = good_took x y look h.1.good;
      starts = h.1.starts;
      line = subst HaveNoStart (sym (lands_other x y look)) h.1.line;
    },
  );
  moved =
      λ x y m n bx by qx qy h. (
        record { good = h.0.good; starts = h.0.starts; line = h.0.line },
        record { good = h.1.good; starts = h.1.starts; line = h.1.line },
      );
}
