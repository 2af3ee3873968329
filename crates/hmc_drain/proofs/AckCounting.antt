-- An acknowledgement that was sent is counted at the other end within 64 rounds.
use Rattle.std.proofs.Common.{◌≡◌, ℕ, suc, ◌-◌, ◌≤◌, nat_lt, Bool, true, false, if◌then◌else◌, List, [], ◌∷◌, ◌++◌, length, refl, sym, ◌∙◌, ap, subst, arith, append_assoc, append-nil}
use Rattle.hmc_numbers.specs.Direction.{Item, rest, front_or}
use Rattle.hmc_numbers.specs.Events.{Reading, Event, happens}
use Rattle.hmc_numbers.specs.May.{IsGood, May}
use Rattle.hmc_numbers.specs.Pair.{other_after, rest_of_stamps, front_stamp}
use Rattle.hmc_numbers.specs.Pair.Move.{does, counts}
use Rattle.hmc_link_state.specs.Choice.{Choice, choice}
use Rattle.hmc_link_state.specs.State.{Setup, Side, wire, IsSettledSide}
use Rattle.hmc_link_state.specs.Round.{sight, sent, sent_by, front, event_here, is_counted_at, landed_own, landed_other, costs_next, is_ran_start_at}
use Rattle.hmc_link_state.specs.Facts.{Counted, acked_by, clears_by, starts_by, IsAcked, SideFacts}
use Rattle.hmc_link_state.proofs.Calm.{landed_own_settled, own_wire}
use Rattle.hmc_drain.proofs.Backlog.{sent_if_room}
use Rattle.hmc_link_state.proofs.Chosen.{chosen}
use Rattle.hmc_link_state.proofs.Counts.{landed_is}
use Rattle.hmc_link_state.proofs.Falls.{landed_sender, AreReady, stamp_between}
use Rattle.hmc_link_state.proofs.CleanLandings.{buffer_after, here_lands}
use Rattle.hmc_link_state.proofs.Keeps.{Both}
use Rattle.hmc_link_state.proofs.LandedEvents.{may_of, stamps_rest}
use Rattle.hmc_link_state.proofs.LandedPointers.{good_steps, stepped, Steps, Taken}
use Rattle.hmc_link_state.specs.Landing.{IsLanding}
use Rattle.hmc_link_state.proofs.Lines.{far_lands, lands_own}
use Rattle.hmc_link_state.proofs.SentFields.{acked_same, runs_same}
use Rattle.hmc_link_state.proofs.SentPointers.{sent_item}
use Rattle.hmc_link_state.proofs.Turning.{Landing, Turning}

-- when the first flits of the line have landed, so many are acknowledged
pub record Counting (n i : ℕ) (x y : Side) : Type 0 where
  pub xs : List Item
  pub ys : List Item
  pub ns : List ℕ
  pub ms : List ℕ
  pub line : (wire x).line ≡ xs ++ ys
  pub stamps : x.half.stamps ≡ ns ++ ms
  pub same : length ns ≡ length xs
  pub short : length xs ≤ i
  pub counted : Counted (λ a c s. n ≤ a) (wire y).acked (wire x).clear_run (wire x).start_run ns
      xs

counting_sent_by : (c : Setup) (n i : ℕ) (x y : Side) → Both c x y → Counting n i x y →
    Counting n i (sent_by c x y (choice (sight c x y))) y
counting_sent_by c n i x y b h =
    let z : Choice = choice (sight c x y) in
    let t = sent_item c x y z (chosen (sight c x y)) b.0 in
    let r = runs_same c x y z in
    record {
      xs = h.xs;
      ys = h.ys ++ t.0 ∷ [];
      ns = h.ns;
      ms = h.ms ++ (wire y).accepted ∷ [];
      line = t.1.line ∙ ap (λ l. l ++ t.0 ∷ []) h.line ∙ append_assoc h.xs h.ys (t.0 ∷ []);
      stamps =
          t.1.stamps ∙ ap (λ l. l ++ (wire y).accepted ∷ []) h.stamps
          ∙ append_assoc h.ns h.ms ((wire y).accepted ∷ []);
      same = h.same;
      short = h.short;
      counted =
          subst (λ d. Counted (λ a c s. n ≤ a) (wire y).acked d (wire (sent_by c x y z)).start_run
          h.ns h.xs) (sym r.0)
          (subst (λ d. Counted (λ a c s. n ≤ a) (wire y).acked (wire x).clear_run d h.ns h.xs)
          (sym r.1) h.counted);
    }

pub sent_acked : (c : Setup) (x y : Side) → (wire (sent c x y)).acked ≡ (wire x).acked
sent_acked c x y = by_full (nat_lt (length (wire x).line) c.line)
  where
    by_full : (b : Bool) →
        (wire (if b then sent_by c x y (choice (sight c x y)) else x)).acked ≡ (wire x).acked
    by_full true = acked_same c x y (choice (sight c x y))
    by_full false = refl

-- the other side's numbers of what is acknowledged are the same
counting_same : (n i : ℕ) (x y z : Side) → (wire z).acked ≡ (wire y).acked → Counting n i x y →
    Counting n i x z
counting_same n i x y z q h =
    record {
      xs = h.xs;
      ys = h.ys;
      ns = h.ns;
      ms = h.ms;
      line = h.line;
      stamps = h.stamps;
      same =
          h.same;
      short =
          h.short;
      counted =
          subst (λ a. Counted (λ a c s. n ≤ a) a (wire x).clear_run (wire x).start_run h.ns h.xs)
          (sym q) h.counted;
    }

counting_took : (n i : ℕ) (x y : Side) (look : Reading) → Counting n i x y →
    Counting n i (landed_other y x look) (landed_own y (costs_next y) look)
counting_took n i x y look h =
    counting_same n i (landed_other y x look) y (landed_own y (costs_next y) look)
    (landed_sender y (costs_next y) look).acked
    (by_count (is_counted_at y (wire y).far (event_here y look)))
  where
    by_count : (b : Bool) →
        Counting n i
        (record x {
          half = other_after y.half x.half (if b then counts (event_here y look)
              else does (event_here y look));
          go_back = (landed_other y x look).go_back;
          is_open = (landed_other y x look).is_open;
        }) y
    by_count true =
        record {
          xs = h.xs;
          ys = h.ys;
          ns = h.ns;
          ms = h.ms;
          line = h.line;
          stamps = h.stamps;
          same = h.same;
          short = h.short;
          counted = h.counted;
        }
    by_count false =
        record {
          xs = h.xs;
          ys = h.ys;
          ns = h.ns;
          ms = h.ms;
          line = h.line;
          stamps = h.stamps;
          same = h.same;
          short = h.short;
          counted = h.counted;
        }

pub landed_acked : (x y : Side) (look : Reading) →
    (wire (landed_other x y look)).acked ≡ (if is_counted_at x (wire x).far
    (event_here x look) then front_stamp (wire y).acked x.half.stamps else (wire y).acked)
landed_acked x y look = by_count (is_counted_at x (wire x).far (event_here x look))
  where
    by_count : (b : Bool) →
        (other_after x.half y.half (if b then counts (event_here x look)
        else does (event_here x look))).direction.acked ≡ (if b then front_stamp (wire y).acked
        x.half.stamps else (wire y).acked)
    by_count true = refl
    by_count false = refl

if_least : (b : Bool) (n m : ℕ) → m ≤ n → m ≤ (if b then n else m)
if_least true n m h = h
if_least false n m h = omega arith

-- a landing of a settled line, for what will be counted
record Landed (c : Setup) (x y : Side) (look : Reading) : Type 0 where
  line : (wire (landed_own x (costs_next x) look)).line ≡ rest (wire x).line
  stamps : (landed_own x (costs_next x) look).half.stamps ≡ rest_of_stamps x.half.stamps
  up : (wire y).acked ≤ (wire (landed_other x y look)).acked
  step : Steps (front x) (wire y).acked (wire x).clear_run (wire x).start_run
      (front_stamp (wire y).acked x.half.stamps) (wire (landed_other x y look)).acked
      (wire (landed_own x (costs_next x) look)).clear_run
      (wire (landed_own x (costs_next x) look)).start_run

landed : (c : Setup) (x y : Side) (look : Reading) → Both c x y → AreReady x y → Landing x look →
    Landed c x y look
landed c x y look b k l =
    let e : Event = event_here x look in
    let i : IsLanding e = far_lands x look (front x) (wire x).far in
    let d : Bool = is_counted_at x (wire x).far e in
    let z = here_lands c x y look b.0 l.some l.reads in
    let m : May c.retry (wire x) e =
    may_of c x y e d (is_ran_start_at x (wire x).far look)
    (x.missing - 1) (buffer_after x (costs_next x) e) z in
    let w : wire (landed_own x (costs_next x) look) ≡ happens (wire x) e =
    own_wire x.half 0 d e in
    let g : IsGood (happens (wire x) e).far =
    subst (λ v. IsGood v.far) w (landed_own_settled x (costs_next x) look k.settled.0).good in
    let s =
    good_steps c x y e d (is_ran_start_at x (wire x).far look)
    (x.missing - 1) (buffer_after x (costs_next x) e) z m k.settled.0.good g in
    let a : (wire (landed_other x y look)).acked ≡ Taken x y d = landed_acked x y look in
    record {
      line = lands_own x (costs_next x) look;
      stamps =
          ap (λ v. v.half.stamps) (landed_is x (costs_next x) look)
          ∙ stamps_rest x.half e i;
      up =
          subst (λ v. (wire y).acked ≤ v) (sym a)
          (if_least d (front_stamp (wire y).acked x.half.stamps) (wire y).acked
          (stamp_between c x y b).0);
      step =
          record {
            acked = a ∙ s.acked;
            clears = ap (λ v. v.clear_run) w
                ∙ s.clears;
            starts = ap (λ v. v.start_run) w ∙ s.starts;
          };
    }

front_append : (z i : Item) (xs ys zs : List Item) → zs ≡ (i ∷ xs) ++ ys → front_or z zs ≡ i
front_append z i xs ys zs q = ap (front_or z) q

counting_lands : (n i : ℕ) (c : Setup) (x y : Side) (look : Reading) → Landed c x y look →
    (xs ys : List Item) (ns ms : List ℕ) → (wire x).line ≡ xs ++ ys → x.half.stamps ≡ ns ++ ms →
    length ns ≡ length xs → length xs ≤ suc i →
    Counted (λ a c s. n ≤ a) (wire y).acked (wire x).clear_run (wire x).start_run ns xs →
    Counting n i (landed_own x (costs_next x) look) (landed_other x y look)
counting_lands n i c x y look l [] ys [] ms q r s t h = record {
  xs = [];
  ys = rest (wire x).line;
  ns = [];
  ms = rest_of_stamps x.half.stamps;
  line = l.line;
  stamps = l.stamps;
  same = refl;
  short = omega arith;
  counted = omega (arith, h, l.up);
}
counting_lands n i c x y look l [] ys (m ∷ ns) ms q r s t h = absurd (omega (arith, s))
counting_lands n i c x y look l (z ∷ xs) ys [] ms q r s t h = absurd (omega (arith, s))
counting_lands n i c x y look l (z ∷ xs) ys (m ∷ ns) ms q r s t h =
    let v = wire (landed_own x (costs_next x) look) in
    let f : front x ≡ z = front_append (wire x).before z xs ys (wire x).line q in
    let g : front_stamp (wire y).acked x.half.stamps ≡ m = ap (front_stamp (wire y).acked) r in
    let u : Steps z (wire y).acked (wire x).clear_run (wire x).start_run m
    (wire (landed_other x y look)).acked v.clear_run v.start_run =
    subst (λ k. Steps z (wire y).acked (wire x).clear_run (wire x).start_run k
    (wire (landed_other x y look)).acked v.clear_run v.start_run) g
    (subst (λ k. Steps k (wire y).acked (wire x).clear_run (wire x).start_run
    (front_stamp (wire y).acked x.half.stamps) (wire (landed_other x y look)).acked v.clear_run
    v.start_run) f l.step) in
    record {
      xs = xs;
      ys = ys;
      ns = ns;
      ms = ms;
      line = l.line ∙ ap rest q;
      stamps = l.stamps ∙ ap rest_of_stamps r;
      same = omega (arith, s);
      short = omega (arith, t);
      counted =
          stepped (λ a c s. n ≤ a) (wire y).acked (wire x).clear_run (wire x).start_run
          (wire (landed_other x y look)).acked v.clear_run v.start_run (m ∷ ns) z (z ∷ xs) tt u h;
    }

counting_more : (n i : ℕ) (x y : Side) → Counting n i x y → Counting n (suc i) x y
counting_more n i x y h =
    record {
      xs = h.xs;
      ys = h.ys;
      ns = h.ns;
      ms = h.ms;
      line = h.line;
      stamps = h.stamps;
      same = h.same;
      short = omega (arith, h.short);
      counted = h.counted;
    }

pub counting_turns : (c : Setup) (n i : ℕ) →
    Turning c AreReady (Counting n (suc i)) (Counting n (suc i)) (Counting n i)
counting_turns c n i = record {
  link = record {
    send =
        λ x y b k l h. subst (λ s. Counting n (suc i) s y) (sym (sent_if_room c x y l))
        (counting_sent_by c n (suc i) x y b h);
    send_before = λ x y b k h. counting_same n (suc i) x y (sent c y x) (sent_acked c y x) h;
    send_after = λ x y b k h. counting_same n (suc i) x y (sent c y x) (sent_acked c y x) h;
    land =
        λ x y look b k l h. counting_lands n i c x y look (landed c x y look b k l) h.xs h.ys h.ns
        h.ms h.line h.stamps h.same h.short h.counted;
    land_before = λ x y look b k l h. counting_took n (suc i) x y look h;
    land_after = λ x y look b k l h. counting_took n i x y look h;
  };
  moved =
      λ x y a e bx by qx qy h. record {
        xs = h.xs;
        ys = h.ys;
        ns = h.ns;
        ms = h.ms;
        line = h.line;
        stamps = h.stamps;
        same = h.same;
        short = h.short;
        counted = h.counted;
      };
}

counted_map : (E G : ℕ → ℕ → ℕ → Type 0) (a c s : ℕ) (ns : List ℕ) (xs : List Item) →
    ((b d t : ℕ) → E b d t → G b d t) → Counted E a c s ns xs → Counted G a c s ns xs
counted_map E G a c s ns [] g h = g a c s h
counted_map E G a c s ns (x ∷ xs) g h =
    counted_map E G (acked_by x c s (front_stamp a ns) a) (clears_by x c) (starts_by x s)
    (rest_of_stamps ns) xs g h

-- an acknowledgement that was sent is counted by the whole line
pub counting_first : (c : Setup) (n : ℕ) (x y : Side) → c.line ≤ 64 → SideFacts c x y →
    IsSettledSide x → n ≤ x.ack_sent → Counting n 64 x y
counting_first c n x y l f k h = record {
  xs = (wire x).line;
  ys = [];
  ns = x.half.stamps;
  ms = [];
  line = sym (append-nil (wire x).line);
  stamps = sym (append-nil x.half.stamps);
  same = f.joined.stamped;
  short = omega (arith, f.short, l);
  counted =
      counted_map (IsAcked (wire x).clears x.starts x.ack_sent) (λ a c s. n ≤ a) (wire y).acked
      (wire x).clear_run (wire x).start_run x.half.stamps (wire x).line
      (λ b d t e. let q = e.2 k.clears k.starts in omega (arith, h, q)) (f.counted k.good);
}

pub counting_last : (n : ℕ) (x y : Side) → Counting n 0 x y → n ≤ (wire y).acked
counting_last n x y h = by_lists h.xs h.ns h.short h.same h.counted
  where
    by_lists : (xs : List Item) (ns : List ℕ) → length xs ≤ 0 → length ns ≡ length xs →
        Counted (λ a c s. n ≤ a) (wire y).acked (wire x).clear_run (wire x).start_run ns xs →
        n ≤ (wire y).acked
    by_lists [] ns l s h = h
    by_lists (z ∷ zs) ns l s h = absurd (omega (arith, l))
