-- A round of a ready and quiet link that begins no request or response changes no queue and no
-- buffer, and its end is quiet.
use Rattle.std.proofs.Common.{◌≡◌, ℕ, suc, ◌+◌, ◌-◌, ◌≤◌, nat_lt, Bool, true, false, if◌then◌else◌, List, [], ◌∷◌, ◌++◌, length, ◌⊎◌, inl, inr, refl, sym, ◌∙◌, ap, subst, arith, append-nil, length-append}
use Rattle.hmc_codes.specs.declared.profile.Profile.{Profile}
use Rattle.hmc_numbers.specs.Events.{Reading}
use Rattle.hmc_link_state.specs.Choice.{Choice, choice}
use Rattle.hmc_link_state.specs.Choice.Choice.{train, new}
use Rattle.hmc_link_state.specs.State.{Setup, Side, State, wire, crossing, inside_cube, under_way, IsSteady}
use Rattle.hmc_link_state.specs.Round.{sight, sent, sent_by, sent_both, queue_after, event_here, token_flits, is_counted_at, is_ran_start_at, landed_own, landed_other, landed_forth, link_round, costs_next, Reads, front, IsStuck, IsRound, CubeRound}
use Rattle.hmc_link_state.specs.Facts.{Facts}
use Rattle.hmc_link_state.specs.EachRound.{IsFit}
use Rattle.hmc_drain.specs.Stages.{IsQuiet}
use Rattle.hmc_link_state.proofs.Counts.{begun_count, accepted_count, Counts, counts_trans, sent_counts, landed_counts, took_counts, below, Progress}
use Rattle.hmc_link_state.proofs.Keeps.{within, link_keeps, round_keeps}
use Rattle.hmc_link_state.proofs.Turning.{Linking, forth_links, back_links, stays_round}
use Rattle.hmc_link_state.proofs.Falls.{AreReady, ready_stays}
use Rattle.hmc_drain.proofs.Moving.{less_or_more, crossing_same}

-- Lists

same_queue : (z : Choice) (ps : List ℕ) → length (queue_after z ps) ≡ length ps →
    queue_after z ps ≡ ps
same_queue (new n) [] h = refl
same_queue (new n) (p ∷ ps) h = absurd (omega (arith, h))
same_queue train ps h = refl
same_queue z ps h = refl

sent_queue : (c : Setup) (x y : Side) → length (sent c x y).queue ≡ length x.queue →
    (sent c x y).queue ≡ x.queue
sent_queue c x y = by_full (nat_lt (length (wire x).line) c.line)
  where
    by_full : (b : Bool) →
        length (if b then sent_by c x y (choice (sight c x y)) else x).queue ≡ length x.queue →
        (if b then sent_by c x y (choice (sight c x y)) else x).queue ≡ x.queue
    by_full true h = same_queue (choice (sight c x y)) x.queue h
    by_full false h = refl

sent_buffer : (c : Setup) (x y : Side) → (sent c x y).buffer ≡ x.buffer
sent_buffer c x y = by_full (nat_lt (length (wire x).line) c.line)
  where
    by_full : (b : Bool) → (if b then sent_by c x y (choice (sight c x y)) else x).buffer ≡ x.buffer
    by_full true = refl
    by_full false = refl

none_of : (l : List ℕ) (n : ℕ) → n + length l ≡ n → l ≡ []
none_of [] n h = refl
none_of (x ∷ xs) n h = absurd (omega (arith, h))

same_buffer : (costs : Bool) (b l : List ℕ) → length (if costs then b ++ l else b) ≡ length b →
    (if costs then b ++ l else b) ≡ b
same_buffer true b l h =
    let z = none_of l (length b) (sym (length-append b l) ∙ h) in ap (λ k. b ++ k) z ∙ append-nil b
same_buffer false b l h = refl

-- The link's part of such a round

pub record Still (s u : State) : Type 0 where
  pub forth_queue : u.forth.queue ≡ s.forth.queue
  pub back_queue : u.back.queue ≡ s.back.queue
  pub forth_buffer : u.forth.buffer ≡ s.forth.buffer
  pub back_buffer : u.back.buffer ≡ s.back.buffer

same_length : (q q' b b' : ℕ) → q' + b' ≡ q + b → b' ≡ b → q' ≡ q
same_length q q' b b' h k = omega arith

same_length_buffer : (d d' a a' : ℕ) → d' + a ≡ d + a' → a' ≡ a → d' ≡ d
same_length_buffer d d' a a' h k = omega arith

link_still : (p : Profile) (c : Setup) (l m : Reading) (s : State) → IsFit p c → Facts c s →
    (rl : Reads (front (sent_both c s).forth) l) →
    (rm : Reads (front (landed_forth l (sent_both c s)).back) m) →
    begun_count (wire (link_round c l m s).forth) ≡ begun_count (wire s.forth) →
    begun_count (wire (link_round c l m s).back) ≡ begun_count (wire s.back) →
    accepted_count (wire (link_round c l m s).forth) ≡ accepted_count (wire s.forth) →
    accepted_count (wire (link_round c l m s).back) ≡ accepted_count (wire s.back) →
    Still s (link_round c l m s)
link_still p c l m s f h rl rm b1 b2 a1 a2 =
    let w = within p c l m s f h rl rm in
    let a : Side = sent c s.forth s.back in
    let d : Side = sent c s.back a in
    let e : Side = landed_own a (costs_next a) l in
    let g : Side = landed_other a d l in
    let t : State = link_round c l m s in
    let ca : Counts s.forth a = sent_counts c s.forth s.back h.forth.joined.order.accepted in
    let cd : Counts s.back d = sent_counts c s.back a h.back.joined.order.accepted in
    let ce : Counts a e = landed_counts c a d l w.sent_two.1 w.half_one.1 rl in
    let cg : Counts d g =
    took_counts a d (event_here a l) (is_counted_at a (wire a).far (event_here a l))
    (is_ran_start_at a (wire a).far l) in
    let ct : Counts g t.back = landed_counts c g e m w.landed_one.1 w.some rm in
    let cu : Counts e t.forth =
    took_counts g e (event_here g m) (is_counted_at g (wire g).far (event_here g m))
    (is_ran_start_at g (wire g).far m) in
    let cf : Counts s.forth t.forth =
    counts_trans s.forth a t.forth ca (counts_trans a e t.forth ce cu) in
    let cb : Counts s.back t.back =
    counts_trans s.back d t.back cd (counts_trans d g t.back cg ct) in
    let qa : a.buffer ≡ s.forth.buffer = sent_buffer c s.forth s.back in
    let qd : d.buffer ≡ s.back.buffer = sent_buffer c s.back a in
    let lf : length t.forth.buffer ≡ length s.forth.buffer =
    same_length_buffer (length s.forth.buffer) (length t.forth.buffer)
    (accepted_count (wire s.forth)) (accepted_count (wire t.forth)) cf.buffer a1 in
    let lb : length t.back.buffer ≡ length s.back.buffer =
    same_length_buffer (length s.back.buffer) (length t.back.buffer)
    (accepted_count (wire s.back)) (accepted_count (wire t.back)) cb.buffer a2 in
    record {
      forth_queue =
          sent_queue c s.forth s.back
          (same_length (length s.forth.queue) (length t.forth.queue) (begun_count (wire s.forth))
          (begun_count (wire t.forth)) cf.queue b1);
      back_queue =
          sent_queue c s.back a
          (same_length (length s.back.queue) (length t.back.queue) (begun_count (wire s.back))
          (begun_count (wire t.back)) cb.queue b2);
      forth_buffer =
          same_buffer (costs_next a) a.buffer (token_flits a (event_here a l)) (lf
          ∙ ap length (sym qa)) ∙ qa;
      back_buffer =
          same_buffer (costs_next g) g.buffer (token_flits g (event_here g m)) (lb
          ∙ ap length (sym qd)) ∙ qd;
    }

-- The round

pub record Resting (c : Setup) (s t : State) (r : IsRound c s t) : Type 0 where
  pub idle : t ≡ record (link_round c r.0 r.1 s) { can_move = false }
  pub quiet : IsQuiet t

nothing_accepted : (b b' a a' : ℕ) → b' ≡ b → b - a ≡ 0 → a ≤ b → a ≤ a' → a' ≤ b' → a' ≡ a
nothing_accepted b b' a a' q z l m n = omega arith

stuck_still : (c : Setup) (l m : Reading) (s : State) → Still s (link_round c l m s) → IsStuck s →
    IsStuck (link_round c l m s)
stuck_still c l m s h k = record { taken = h.back_buffer ∙ k.taken; full = by_full k.full }
  where
    by_full : (1 ≤ length s.back.queue) ⊎ (inside_cube s ≡ 0) →
        (1 ≤ length (link_round c l m s).back.queue) ⊎ (inside_cube (link_round c l m s) ≡ 0)
    by_full (inl q) = inl (subst (λ ps. 1 ≤ length ps) (sym h.back_queue) q)
    by_full (inr q) = inr (ap (λ ps. length ps + s.vaults + s.banks + s.answers) h.forth_buffer ∙ q)

some_left : (q d i p e b b' : ℕ) → 1 ≤ q + d + i + p + e + b → d ≡ 0 → e ≡ 0 → 1 ≤ q + 0 + i + p + 0
    + b
some_left q d i p e b b' h k l = omega arith

pub rests : (p : Profile) (c : Setup) (s t : State) → IsFit p c → Facts c s → (r : IsRound c s t) →
    IsQuiet s → begun_count (wire t.forth) ≡ begun_count (wire s.forth) →
    begun_count (wire t.back) ≡ begun_count (wire s.back) → Resting c s t r
rests p c s t f h r q b1 b2 =
    let u : State = link_round c r.0 r.1 s in
    let lk = link_keeps p c r.0 r.1 s f h r.2 r.3 in
    let rk = round_keeps p c s t f h r in
    let uf : begun_count (wire u.forth) ≡ begun_count (wire s.forth) =
    between (begun_count (wire s.forth)) (begun_count (wire u.forth))
    (begun_count (wire t.forth)) lk.1.begun.0 (after_cube r.4).0 b1 in
    let ub : begun_count (wire u.back) ≡ begun_count (wire s.back) =
    between (begun_count (wire s.back)) (begun_count (wire u.back))
    (begun_count (wire t.back)) lk.1.begun.1 (after_cube r.4).1 b2 in
    let af : accepted_count (wire u.forth) ≡ accepted_count (wire s.forth) =
    nothing_accepted (begun_count (wire s.forth)) (begun_count (wire u.forth))
    (accepted_count (wire s.forth)) (accepted_count (wire u.forth)) uf q.0
    (below (wire s.forth) h.forth.joined.order.accepted) lk.1.accepted.0
    (below (wire u.forth) lk.0.forth.joined.order.accepted) in
    let ab : accepted_count (wire u.back) ≡ accepted_count (wire s.back) =
    nothing_accepted (begun_count (wire s.back)) (begun_count (wire u.back))
    (accepted_count (wire s.back)) (accepted_count (wire u.back)) ub q.1
    (below (wire s.back) h.back.joined.order.accepted) lk.1.accepted.1
    (below (wire u.back) lk.0.back.joined.order.accepted) in
    let st : Still s u = link_still p c r.0 r.1 s f h r.2 r.3 uf ub af ab in
    let i : t ≡ record u { can_move = false } =
    r.5 q.4 st.back_queue st.forth_buffer st.back_buffer in
    let zf : crossing u.forth ≡ 0 =
    crossing_same (begun_count (wire s.forth))
    (begun_count (wire u.forth)) (accepted_count (wire s.forth))
    (accepted_count (wire u.forth)) uf af q.0 in
    let zb : crossing u.back ≡ 0 =
    crossing_same (begun_count (wire s.back))
    (begun_count (wire u.back)) (accepted_count (wire s.back)) (accepted_count (wire u.back))
    ub ab q.1 in
    let sk : IsStuck u = stuck_still c r.0 r.1 s st q.2 in
    let w : 1 ≤ under_way u =
    some (length s.forth.queue) (length u.forth.queue) (crossing s.forth) (crossing u.forth)
    (length s.forth.buffer) (length u.forth.buffer) (s.vaults) (s.banks) (s.answers)
    (length s.back.queue) (length u.back.queue) (crossing s.back) (crossing u.back)
    (length s.back.buffer) (length u.back.buffer)
    q.3 (ap length st.forth_queue) (ap length st.back_queue) (ap length st.forth_buffer)
    (ap length st.back_buffer) q.0 q.1 in
    let v : State = record u { can_move = false } in
    let qv : IsQuiet v = (zf, zb, record { taken = sk.taken; full = sk.full }, w, refl) in
    record { idle = i; quiet = subst IsQuiet (sym i) qv }
  where
    between : (a b d : ℕ) → a ≤ b → d ≡ b → d ≡ a → b ≡ a
    between a b d l m n = omega arith

    after_cube : CubeRound (link_round c r.0 r.1 s) t →
        (begun_count (wire t.forth) ≡ begun_count (wire (link_round c r.0 r.1 s).forth))
        × (begun_count (wire t.back) ≡ begun_count (wire (link_round c r.0 r.1 s).back))
    after_cube (inl m) =
        (ap (λ x. begun_count (wire x)) m.forth, ap (λ x. begun_count (wire x)) m.back)
    after_cube (inr i) =
        (ap (λ x. begun_count (wire x.forth)) i.0, ap (λ x. begun_count (wire x.back)) i.0)

    some : (q q' k k' d d' v b a p p' g g' e e' : ℕ) → 1 ≤ q + k + (d + v + b + a) + p + g + e →
        q' ≡ q → p' ≡ p → d' ≡ d → e' ≡ e → k ≡ 0 → g ≡ 0 → 1 ≤ q' + k' + (d' + v + b + a) + p' + g'
        + e'
    some q q' k k' d d' v b a p p' g g' e e' h i j l m n o = omega arith

-- Spans of such rounds

-- more were begun than then
pub record Counted (bf bb : ℕ) (P Q : Side → Side → Type 0) (s : State) : Type 0 where
  pub ready : AreReady s.forth s.back
  pub quiet : IsQuiet s
  pub forth_begun : begun_count (wire s.forth) ≡ bf
  pub back_begun : begun_count (wire s.back) ≡ bb
  pub forth : P s.forth s.back
  pub back : Q s.back s.forth

abbrev pub Begun : (bf bb : ℕ) → State → Type 0
Begun bf bb s = (suc bf ≤ begun_count (wire s.forth)) ⊎ (suc bb ≤ begun_count (wire s.back))

abbrev pub Span : (bf bb : ℕ) (P Q : Side → Side → Type 0) → State → Type 0
Span bf bb P Q s = Begun bf bb s ⊎ Counted bf bb P Q s

-- P holds as long as no request or response is begun
abbrev pub Until : ℕ → (Side → Side → Type 0) → Side → Side → Type 0
Until b P x y = (suc b ≤ begun_count (wire x)) ⊎ ((begun_count (wire x) ≡ b) × P x y)

stays_begun : (p : Profile) (c : Setup) (bf bb : ℕ) (s t : State) → IsFit p c → Facts c s →
    IsRound c s t → Begun bf bb s → Begun bf bb t
stays_begun p c bf bb s t f h r (inl z) =
    inl (let y = (round_keeps p c s t f h r).1.begun.0 in
    more bf (begun_count (wire s.forth)) (begun_count (wire t.forth)) z y)
  where
    more : (b a d : ℕ) → suc b ≤ a → a ≤ d → suc b ≤ d
    more b a d l m = omega arith
stays_begun p c bf bb s t f h r (inr z) =
    inr (let y = (round_keeps p c s t f h r).1.begun.1 in
    more bb (begun_count (wire s.back)) (begun_count (wire t.back)) z y)
  where
    more : (b a d : ℕ) → suc b ≤ a → a ≤ d → suc b ≤ d
    more b a d l m = omega arith

pub span_round : (p : Profile) (c : Setup) (bf bb : ℕ) (P P1 P2 Q Q1 Q2 : Side → Side → Type 0) →
    IsFit p c → Linking c AreReady (Until bf P) (Until bf P1) (Until bf P2) →
    Linking c AreReady (Until bb Q) (Until bb Q1) (Until bb Q2) →
    (s t : State) → Facts c s → IsSteady c s → IsRound c s t → Span bf bb P Q s → Span bf bb P2 Q2 t
span_round p c bf bb P P1 P2 Q Q1 Q2 f lf lb s t h n r (inl z) =
    inl (stays_begun p c bf bb s t f h r z)
span_round p c bf bb P P1 P2 Q Q1 Q2 f lf lb s t h n r (inr z) =
    by_forth (less_or_more bf (begun_count (wire t.forth)))
  where
    u : State
    u = link_round c r.0 r.1 s

    pr : Progress s t
    pr = (round_keeps p c s t f h r).1

    no_more : (b a d : ℕ) → a ≡ b → a ≤ d → d ≤ b → (d ≡ a) × (d ≡ b)
    no_more b a d q l m = (omega arith, omega arith)

    is_then : (b a : ℕ) (X : Type 0) → a ≡ b → (suc b ≤ a) ⊎ ((a ≡ b) × X) → X
    is_then b a X q (inl l) = absurd (omega (arith, q, l))
    is_then b a X q (inr l) = l.1

    by_back : begun_count (wire t.forth) ≤ bf → (suc bb ≤ begun_count (wire t.back))
        ⊎ (begun_count (wire t.back) ≤ bb) → Span bf bb P2 Q2 t
    by_back l (inl m) = inl (inr m)
    by_back l (inr m) =
        let nf =
        no_more bf (begun_count (wire s.forth)) (begun_count (wire t.forth)) z.forth_begun
        pr.begun.0 l in
        let nb =
        no_more bb (begun_count (wire s.back)) (begun_count (wire t.back)) z.back_begun
        pr.begun.1 m in
        let y : Resting c s t r = rests p c s t f h r z.quiet nf.0 nb.0 in
        let k1 : Until bf P2 u.forth u.back =
        forth_links p c AreReady (Until bf P) (Until bf P1) (Until bf P2) (ready_stays c) lf f s
        t h n r z.ready (inr (z.forth_begun, z.forth)) in
        let k2 : Until bb Q2 u.back u.forth =
        back_links p c AreReady (Until bb Q) (Until bb Q1) (Until bb Q2) (ready_stays c) lb f s
        t h n r z.ready (inr (z.back_begun, z.back)) in
        let j1 : Until bf P2 t.forth t.back =
        subst (λ v. Until bf P2 v.forth v.back) (sym y.idle) k1 in
        let j2 : Until bb Q2 t.back t.forth =
        subst (λ v. Until bb Q2 v.back v.forth) (sym y.idle) k2 in
        inr (record {
          ready = stays_round p c AreReady (ready_stays c) f s t h r z.ready;
          quiet = y.quiet;
          forth_begun = nf.1;
          back_begun = nb.1;
          forth = is_then bf (begun_count (wire t.forth)) (P2 t.forth t.back) nf.1 j1;
          back = is_then bb (begun_count (wire t.back)) (Q2 t.back t.forth) nb.1 j2;
        })

    by_forth : (suc bf ≤ begun_count (wire t.forth)) ⊎ (begun_count (wire t.forth) ≤ bf) →
        Span bf bb P2 Q2 t
    by_forth (inl l) = inl (inl l)
    by_forth (inr l) = by_back l (less_or_more bb (begun_count (wire t.back)))
