-- How many requests and responses were begun and accepted: what a send and a landing change of
-- these, of the queue and of the buffer.
use Rattle.std.proofs.Common.{◌≡◌, ℕ, suc, ◌+◌, ◌-◌, ◌*◌, ◌≤◌, nat_lt, Bool, true, false, if◌then◌else◌, List, [], ◌∷◌, ◌++◌, length, refl, sym, ◌∙◌, ap, subst, arith, length-append, append-nil}
use Rattle.std.specs.Prelude.{Some}
use Rattle.hmc_numbers.specs.Weights.{Weight, upto}
use Rattle.hmc_numbers.specs.Direction.{Direction, begun}
use Rattle.hmc_numbers.specs.Events.{Reading, Event}
use Rattle.hmc_numbers.specs.Events.Event.{drops, trains, opens, passes, gathers, accepts, repeats, spoils, breaks}
use Rattle.hmc_numbers.specs.May.{May}
use Rattle.hmc_numbers.proofs.Effect.{begun_one}
use Rattle.hmc_numbers.proofs.Order.{Order}
use Rattle.hmc_numbers.proofs.Sums.{upto-append, upto-up}
use Rattle.hmc_link_state.specs.Choice.{Choice, choice}
use Rattle.hmc_link_state.specs.Choice.Choice.{train, new, tret}
use Rattle.hmc_link_state.specs.Sees.{new_slot, tret_slot}
use Rattle.hmc_link_state.specs.State.{Setup, Side, State, wire, front_of, count_of, under_way, weight}
use Rattle.hmc_link_state.specs.Round.{sight, sent, sent_by, event_here, is_counted_at, landed_own, costs_next, queue_after, steady_after, front, Reads}
use Rattle.hmc_link_state.specs.Facts.{SideFacts}
use Rattle.hmc_link_state.proofs.Chosen.{Chosen, chosen}
use Rattle.hmc_link_state.proofs.Lines.{far_lands}
use Rattle.hmc_link_state.specs.Landing.{IsLanding, land, took}
use Rattle.hmc_link_state.proofs.LandedEvents.{land_half}
use Rattle.hmc_link_state.proofs.CleanLandings.{accepts_below, buffer_after, here_may}
use Rattle.hmc_link_state.proofs.TokenSums.{count_next}

-- requests and responses begun, and accepted
abbrev pub begun_count : Direction → ℕ
begun_count w = upto count_of w.first (begun w)

abbrev pub accepted_count : Direction → ℕ
accepted_count w = upto count_of w.first w.accepted

pub record Counts (x y : Side) : Type 0 where
  pub queue : length y.queue + begun_count (wire y) ≡ length x.queue + begun_count (wire x)
  pub buffer : length y.buffer + accepted_count (wire x) ≡ length x.buffer
      + accepted_count (wire y)
  pub begun : begun_count (wire x) ≤ begun_count (wire y)
  pub accepted : accepted_count (wire x) ≤ accepted_count (wire y)

pub counts_same : (x : Side) → Counts x x
counts_same x = record { queue = refl; buffer = refl; begun = omega arith; accepted = omega arith }

pub counts_trans : (x y z : Side) → Counts x y → Counts y z → Counts x z
counts_trans x y z a b = record {
  queue = b.queue ∙ a.queue;
  buffer = omega (arith, a.buffer, b.buffer);
  begun = omega (arith, a.begun, b.begun);
  accepted = omega (arith, a.accepted, b.accepted);
}

-- A send

front_length : (ps : List ℕ) (n : ℕ) → front_of ps ≡ Some n →
    suc (length (queue_after (new n) ps)) ≡ length ps
front_length [] n q = absurd (cc q)
front_length (p ∷ ps) n q = refl

begun_more : (ps : List Weight) (s : Weight) →
    upto count_of (ps ++ s ∷ []) (length (ps ++ s ∷ [])) ≡ upto count_of ps (length ps) + count_of s
begun_more ps s = begun_one count_of ps s

counts_sent : (c : Setup) (own other : Side) (x : Choice) → Chosen (sight c own other) x →
    (wire own).accepted ≤ length (wire own).first → Counts own (sent_by c own other x)
counts_sent c own other (new n) h a =
    let z =
    begun_more (wire own).first
    (new_slot n
    (Rattle.hmc_numbers.specs.Tokens.due_tokens c.tokens other.half own.half)) in
    let y =
    upto-append count_of (wire own).first
    (new_slot n
    (Rattle.hmc_numbers.specs.Tokens.due_tokens c.tokens other.half own.half) ∷ [])
    (wire own).accepted a in
    let q = front_length own.queue n h.front in
    record {
      queue = omega (arith, z, q);
      buffer = omega (arith, y);
      begun = omega (arith, z);
      accepted = omega (arith, y);
    }
counts_sent c own other tret h a =
    let z =
    begun_more (wire own).first
    (tret_slot
    (Rattle.hmc_numbers.specs.Tokens.due_tokens c.tokens other.half own.half)) in
    let y =
    upto-append count_of (wire own).first
    (tret_slot
    (Rattle.hmc_numbers.specs.Tokens.due_tokens c.tokens other.half own.half) ∷ [])
    (wire own).accepted a in
    record {
      queue = omega (arith, z);
      buffer = omega (arith, y);
      begun = omega (arith, z);
      accepted = omega (arith, y);
    }
counts_sent c own other train h a =
    record { queue = refl; buffer = refl; begun = omega arith; accepted = omega arith }
counts_sent c own other x h a =
    record { queue = refl; buffer = refl; begun = omega arith; accepted = omega arith }

pub sent_counts : (c : Setup) (own other : Side) → (wire own).accepted ≤ length (wire own).first →
    Counts own (sent c own other)
sent_counts c own other a = by_full (nat_lt (length (wire own).line) c.line)
  where
    by_full : (b : Bool) →
        Counts own (if b then sent_by c own other (choice (sight c own other)) else own)
    by_full true =
        counts_sent c own other (choice (sight c own other)) (chosen (sight c own other)) a
    by_full false = counts_same own

-- A landing

no_more : (costs : Bool) (b : List ℕ) → length (if costs then b ++ [] else b) ≡ length b
no_more true b = ap length (append-nil b)
no_more false b = refl

one_more : (costs : Bool) (b : List ℕ) (n : ℕ) →
    length (if costs then b ++ n ∷ [] else b) ≡ length b + (if costs then 1 else 0)
one_more true b n = omega (arith, length-append b (n ∷ []))
one_more false b n = omega arith

counts_landed : (x : Side) (r st ms : ℕ) (e : Event) → IsLanding e → Order r (wire x) →
    May r (wire x) e → Counts x (land x e st ms (buffer_after x (costs_next x) e))
counts_landed x r st ms accepts h o m =
    let z = count_next (wire x).first (wire x).accepted (accepts_below r (wire x) o m.2) in
    let y =
    one_more (costs_next x) x.buffer
    (Rattle.hmc_numbers.specs.Weights.size (wire x).first ((wire x).accepted + 1)) in
    record {
      queue = refl;
      buffer = omega (arith, z, y);
      begun = omega arith;
      accepted = omega (arith, z);
    }
counts_landed x r st ms (drops look) h o m =
    let y = no_more (costs_next x) x.buffer in
    record { queue = refl; buffer = omega (arith, y); begun = omega arith; accepted = omega arith }
counts_landed x r st ms trains h o m =
    let y = no_more (costs_next x) x.buffer in
    record { queue = refl; buffer = omega (arith, y); begun = omega arith; accepted = omega arith }
counts_landed x r st ms opens h o m =
    let y = no_more (costs_next x) x.buffer in
    record { queue = refl; buffer = omega (arith, y); begun = omega arith; accepted = omega arith }
counts_landed x r st ms (passes look) h o m =
    let y = no_more (costs_next x) x.buffer in
    record { queue = refl; buffer = omega (arith, y); begun = omega arith; accepted = omega arith }
counts_landed x r st ms gathers h o m =
    let y = no_more (costs_next x) x.buffer in
    record { queue = refl; buffer = omega (arith, y); begun = omega arith; accepted = omega arith }
counts_landed x r st ms repeats h o m =
    let y = no_more (costs_next x) x.buffer in
    record { queue = refl; buffer = omega (arith, y); begun = omega arith; accepted = omega arith }
counts_landed x r st ms (spoils c) h o m =
    let y = no_more (costs_next x) x.buffer in
    record { queue = refl; buffer = omega (arith, y); begun = omega arith; accepted = omega arith }
counts_landed x r st ms (breaks c) h o m =
    let y = no_more (costs_next x) x.buffer in
    record { queue = refl; buffer = omega (arith, y); begun = omega arith; accepted = omega arith }
counts_landed x r st ms e h o m = absurd h

pub landed_is : (x : Side) (costs : Bool) (look : Reading) →
    landed_own x costs look ≡ land x (event_here x look)
    (steady_after x look) (x.missing - 1)
    (buffer_after x costs (event_here x look))
landed_is x costs look =
    ap (λ y. record x {
      half = y;
      steady = steady_after x look;
      missing = x.missing - 1;
      buffer = buffer_after x costs (event_here x look);
    })
    (land_half x.half 0 (is_counted_at x (wire x).far (event_here x look)) (event_here x look)
    (far_lands x look (front x) (wire x).far))

pub landed_counts : (c : Setup) (own other : Side) (look : Reading) → SideFacts c own other →
    1 ≤ length (wire own).line →
    Reads (front own) look →
    Counts own (landed_own own (costs_next own) look)
landed_counts c own other look f l h =
    subst (Counts own) (sym (landed_is own (costs_next own) look))
    (counts_landed own c.retry (steady_after own look)
    (own.missing - 1) (event_here own look)
    (far_lands own look (front own) (wire own).far) f.joined.order
    (here_may c own other look f l h))

pub took_counts : (own other : Side) (e : Event) (b ran : Bool) →
    Counts other (took own other e b ran)
took_counts own other e true ran =
    record { queue = refl; buffer = refl; begun = omega arith; accepted = omega arith }
took_counts own other e false ran =
    record { queue = refl; buffer = refl; begun = omega arith; accepted = omega arith }

-- What both sides' counts say of the weight.

pub record Progress (s t : State) : Type 0 where
  pub weight : weight t
      + (800 * (begun_count (wire t.forth) + begun_count (wire t.back))
      + 100 * (accepted_count (wire t.forth) + accepted_count (wire t.back)))
      ≤ weight s
      + (800 * (begun_count (wire s.forth) + begun_count (wire s.back))
      + 100 * (accepted_count (wire s.forth) + accepted_count (wire s.back)))
  pub fewer : under_way t ≤ under_way s
  pub begun : (begun_count (wire s.forth) ≤ begun_count (wire t.forth))
      × (begun_count (wire s.back) ≤ begun_count (wire t.back))
  pub accepted : (accepted_count (wire s.forth) ≤ accepted_count (wire t.forth))
      × (accepted_count (wire s.back) ≤ accepted_count (wire t.back))

pub progress_same : (s : State) → Progress s s
progress_same s =
    record {
      weight = omega arith;
      fewer = omega arith;
      begun = (omega arith, omega arith);
      accepted = (omega arith, omega arith);
    }

pub progress_trans : (s t u : State) → Progress s t → Progress t u → Progress s u
progress_trans s t u a b = record {
  weight = omega (arith, a.weight, b.weight);
  fewer = omega (arith, a.fewer, b.fewer);
  begun = (omega (arith, a.begun.0, b.begun.0), omega (arith, a.begun.1, b.begun.1));
  accepted = (omega (arith, a.accepted.0, b.accepted.0), omega (arith, a.accepted.1, b.accepted.1));
}

pub below : (w : Direction) → w.accepted ≤ begun w → accepted_count w ≤ begun_count w
below w h = upto-up count_of w.first w.accepted (begun w) h

-- the link's part of a round only moves packets from queues over the line to buffers
pub link_progress : (s t : State) → Counts s.forth t.forth → Counts s.back t.back →
    accepted_count (wire s.forth) ≤ begun_count (wire s.forth) →
    accepted_count (wire s.back) ≤ begun_count (wire s.back) →
    accepted_count (wire t.forth) ≤ begun_count (wire t.forth) →
    accepted_count (wire t.back) ≤ begun_count (wire t.back) → t.vaults ≡ s.vaults →
    t.banks ≡ s.banks → t.answers ≡ s.answers → Progress s t
link_progress s t f b sf sb tf tb v k a = record {
  weight =
      link_weight (length s.forth.queue) (length t.forth.queue) (length s.forth.buffer)
      (length t.forth.buffer) (length s.back.queue) (length t.back.queue) (length s.back.buffer)
      (length t.back.buffer)
      (begun_count (wire s.forth)) (begun_count (wire t.forth)) (accepted_count (wire s.forth))
      (accepted_count (wire t.forth)) (begun_count (wire s.back)) (begun_count (wire t.back))
      (accepted_count (wire s.back)) (accepted_count (wire t.back))
      s.vaults t.vaults s.banks t.banks s.answers t.answers f.queue f.buffer b.queue b.buffer sf sb
      tf tb v k a;
  fewer =
      link_fewer (length s.forth.queue) (length t.forth.queue) (length s.forth.buffer)
      (length t.forth.buffer) (length s.back.queue) (length t.back.queue) (length s.back.buffer)
      (length t.back.buffer)
      (begun_count (wire s.forth)) (begun_count (wire t.forth)) (accepted_count (wire s.forth))
      (accepted_count (wire t.forth)) (begun_count (wire s.back)) (begun_count (wire t.back))
      (accepted_count (wire s.back)) (accepted_count (wire t.back))
      s.vaults t.vaults s.banks t.banks s.answers t.answers f.queue f.buffer b.queue b.buffer sf sb
      tf tb v k a;
  begun = (f.begun, b.begun);
  accepted = (f.accepted, b.accepted);
}
  where
    link_weight : (q q' d d' p p' e e' b b' a a' g g' h h' v v' k k' n n' : ℕ) → q' + b' ≡ q + b →
        d' + a ≡ d + a' → p' + g' ≡ p + g → e' + h ≡ e + h' → a ≤ b → h ≤ g → a' ≤ b' → h' ≤ g' →
        v' ≡ v → k' ≡ k → n' ≡ n →
        1805 * q' + 1005 * (b' - a') + 905 * d' + 904 * v' + 903 * k' + 902 * n' + 901 * p'
        + 101 * (g' - h') + e' + (800 * (b' + g') + 100 * (a' + h'))
        ≤ 1805 * q + 1005 * (b - a) + 905 * d + 904 * v + 903 * k + 902 * n + 901 * p
        + 101 * (g - h) + e + (800 * (b + g) + 100 * (a + h))
    link_weight q q' d d' p p' e e' b b' a a' g g' h h' v v' k k' n n' q1 q2 q3 q4 l1 l2 l3 l4 q5 q6
        q7 = omega arith

    link_fewer : (q q' d d' p p' e e' b b' a a' g g' h h' v v' k k' n n' : ℕ) → q' + b' ≡ q + b →
        d' + a ≡ d + a' → p' + g' ≡ p + g → e' + h ≡ e + h' → a ≤ b → h ≤ g → a' ≤ b' → h' ≤ g' →
        v' ≡ v → k' ≡ k → n' ≡ n →
        q' + (b' - a') + (d' + v' + k' + n') + p' + (g' - h') + e' ≤ q + (b - a) + (d + v + k + n)
        + p + (g - h) + e
    link_fewer q q' d d' p p' e e' b b' a a' g g' h h' v v' k k' n n' q1 q2 q3 q4 l1 l2 l3 l4 q5 q6
        q7 = omega arith
