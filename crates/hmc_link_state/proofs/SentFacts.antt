-- A send keeps the facts.
use Rattle.std.proofs.Common.{◌≡◌, suc, ◌≤◌, false, [], length, sym, ◌∙◌, subst, arith}
use Rattle.hmc_numbers.specs.May.{IsGood}
use Rattle.hmc_numbers.specs.Pair.Move.{does}
use Rattle.hmc_numbers.specs.Tokens.{due_tokens}
use Rattle.hmc_numbers.specs.Turns.{MayHere}
use Rattle.hmc_numbers.proofs.Together.{own_moved, other_moved}
use Rattle.hmc_link_state.specs.Choice.{Choice}
use Rattle.hmc_link_state.specs.Choice.Choice.{train, starved, new, tret}
use Rattle.hmc_link_state.specs.Sees.{event_of}
use Rattle.hmc_link_state.specs.State.{Setup, Side, wire}
use Rattle.hmc_link_state.specs.Round.{sight, sent_by}
use Rattle.hmc_link_state.specs.Facts.{Counted, IsNotStart, SideFacts}
use Rattle.hmc_link_state.proofs.Counting.{IsAckedOf}
use Rattle.hmc_link_state.proofs.Chosen.{Chosen}
use Rattle.hmc_link_state.proofs.Lines.{adds_one, Sends}
use Rattle.hmc_link_state.proofs.SentFields.{far_same, acked_same, accepted_same, runs_same, queue_fair, used_sent, go_back_sent, go_back_false, open_sent, shut_sent, untrained_sent, one_sent, whole_sent}
use Rattle.hmc_link_state.proofs.SentStarts.{long_ago_sent, few_sent, before_same, spaced_sent}
use Rattle.hmc_link_state.proofs.SentPointers.{keeps_counted, keeps_later, sent_item, ack_least, ack_most, pointed_sent}

sends_some : (c : Setup) (own other : Side) (x : Choice) → Chosen (sight c own other) x → Sends x
sends_some c own other starved h = absurd (cc h)
sends_some c own other train h = tt
sends_some c own other x h = tt

short_sent : (c : Setup) (own other : Side) (x : Choice) → Sends x →
    suc (length (wire own).line) ≤ c.line → length (wire (sent_by c own other x)).line ≤ c.line
short_sent c own other x h l =
    let z : length (wire (sent_by c own other x)).line ≡ suc (length (wire own).line) =
    adds_one (wire own) (due_tokens c.tokens other.half own.half) x h in
    omega (arith, z, l)

pub sent_own : (c : Setup) (own other : Side) (x : Choice) → Chosen (sight c own other) x →
    MayHere c.retry c.tokens own.half other.half
    (event_of (due_tokens c.tokens other.half own.half) x) →
    suc (length (wire own).line) ≤ c.line → SideFacts c own other →
    SideFacts c (sent_by c own other x) other
sent_own c own other x h m l f =
    let t = sent_item c own other x h f in
    let r = runs_same c own other x in
    record {
      joined =
          own_moved c.retry c.tokens own.half other.half
          (does (event_of (due_tokens c.tokens other.half own.half) x)) f.joined m;
      short = short_sent c own other x (sends_some c own other x h) l;
      queue = queue_fair x own.queue f.queue;
      buffer = f.buffer ∙ sym (used_sent c own other x f.joined.order.accepted);
      missing = λ q. f.missing (sym (far_same c own other x) ∙ q);
      open_back = go_back_sent x (wire own).clears own.go_back own.is_open f.open_back;
      open_clears = open_sent c own other x h f;
      shut = shut_sent c own other x f;
      steady = λ q. f.steady (sym (far_same c own other x) ∙ q);
      few = few_sent c own other x f.few;
      long_ago = long_ago_sent c own other x f.long_ago;
      spaced =
          let u = f.spaced in (
            u.0,
            u.1,
            spaced_sent c own other x u.0 u.1 h f u.2,
            λ l. subst IsNotStart (sym (before_same c own other x)) (u.3 l),
          );
      untrained = untrained_sent c own other x h f;
      one = one_sent c own other x h f;
      whole = whole_sent c own other x h f;
      least =
          ack_least x (wire (sent_by c own other x)).left own.ack_sent (wire other).accepted
          (wire other).acked f.least f.most;
      most =
          ack_most x (wire (sent_by c own other x)).left own.ack_sent (wire other).accepted f.most;
      pointed = pointed_sent c own other x h f;
      later = keeps_later c own other x t.0 t.1 f.joined.stamped f.later;
      counted = λ g. let g' : IsGood (wire own).far = subst IsGood (far_same c own other x) g in
          subst (λ d. Counted (IsAckedOf (sent_by c own other x)) (wire other).acked d
          (wire (sent_by c own other x)).start_run (sent_by c own other x).half.stamps
          (wire (sent_by c own other x)).line) (sym r.0)
          (subst (λ d. Counted (IsAckedOf (sent_by c own other x)) (wire other).acked
          (wire own).clear_run d (sent_by c own other x).half.stamps
          (wire (sent_by c own other x)).line) (sym r.1)
          (keeps_counted c own other x t.0 t.1 f.joined.stamped g' (f.counted g')));
    }

no_new : (c : Setup) (own other : Side) (x : Choice) → Chosen (sight c own other) x →
    own.is_open ≡ false → (wire own).first ≡ [] → (wire (sent_by c own other x)).first ≡ []
no_new c own other (new n) h o q = absurd (cc (h.opened, o))
no_new c own other tret h o q = absurd (cc (h.opened, o))
no_new c own other train h o q = q
no_new c own other x h o q = q

pub sent_other : (c : Setup) (own other : Side) (x : Choice) → Chosen (sight c own other) x →
    MayHere c.retry c.tokens own.half other.half
    (event_of (due_tokens c.tokens other.half own.half) x) →
    SideFacts c own other → SideFacts c other own → SideFacts c other (sent_by c own other x)
sent_other c own other x h m f g =
    record {
      joined =
          other_moved c.retry c.tokens own.half other.half
          (does (event_of (due_tokens c.tokens other.half own.half) x)) f.joined g.joined m;
      short = g.short;
      queue = g.queue;
      buffer = g.buffer;
      missing = g.missing;
      open_back = g.open_back;
      open_clears = g.open_clears;
      shut = g.shut;
      steady = g.steady;
      few = g.few;
      long_ago = g.long_ago;
      spaced = g.spaced;
      untrained = λ q. let u = g.untrained (sym (far_same c own other x) ∙ q) in
          record {
            line = u.line;
            starts = u.starts;
            shut = u.shut;
            back =
                go_back_false x (wire own).clears own.go_back u.back;
            first =
                u.first;
            others = no_new c own other x h u.shut u.others;
          };
      one = g.one;
      whole = g.whole;
      least = subst (λ a. a ≤ other.ack_sent) (sym (acked_same c own other x)) g.least;
      most = subst (λ a. other.ack_sent ≤ a) (sym (accepted_same c own other x)) g.most;
      pointed = g.pointed;
      later = g.later;
      counted =
          λ q. subst (λ a. Counted (IsAckedOf other) a (wire other).clear_run (wire other).start_run
          other.half.stamps (wire other).line) (sym (acked_same c own other x)) (g.counted q);
    }
