-- The link's part of a round, in either order of the two directions.
use Rattle.std.proofs.Common.{◌≡◌, ◌∙◌, ◌≤◌, Bool, true, false, refl, sym, ap, ap₂, subst}
use Rattle.std.specs.Prelude.{if◌then◌else◌}
use Rattle.hmc_numbers.specs.Direction.{Item, begun}
use Rattle.hmc_numbers.specs.Events.{Reading, Event}
use Rattle.hmc_numbers.specs.Pair.{Move as moves, other_after}
use Rattle.hmc_link_state.specs.Round.{Reads, front, event_here, is_counted_at, sent, sent_both, landed_own, landed_other, landed_forth, costs_next, link_round}
use Rattle.hmc_link_state.specs.State.{Setup, Side, State, wire}
use Rattle.hmc_bound.proofs.Commute.{sends-commute, lands-commute}
use Rattle.hmc_bound.proofs.LandRound.{Lands}

-- the link's part of a round leads to these sides
pub record LinkRound (c : Setup) (s : State) (f b : Side) : Type 0 where
  pub first : Reading
  pub second : Reading
  pub reads_first : Reads (front (sent_both c s).forth) first
  pub reads_second : Reads (front (landed_forth first (sent_both c s)).back) second
  pub forth : (link_round c first second s).forth ≡ f
  pub back : (link_round c first second s).back ≡ b

-- the four steps, the first direction's before the second's
pub record FourSteps (c : Setup) (f0 b0 f4 b4 : Side) : Type 0 where
  pub f1 : Side
  pub b2 : Side
  pub f3 : Side
  pub b3 : Side
  pub first : Reading
  pub second : Reading
  pub sent_forth : f1 ≡ sent c f0 b0
  pub sent_back : b2 ≡ sent c b0 f1
  pub land_forth : Lands f1 b2 f3 b3 first
  pub land_back : Lands b3 f3 b4 f4 second

pub in-order : (c : Setup) (s : State) (f b : Side) → FourSteps c s.forth s.back f b →
    LinkRound c s f b
in-order c s f b r =
    let l = r.first in
    let m = r.second in
    let f_is : r.f1 ≡ (sent_both c s).forth = r.sent_forth in
    let b_is : r.b2 ≡ (sent_both c s).back =
    r.sent_back ∙ ap (λ (x : Side). sent c s.back x) r.sent_forth in
    let f3_is : r.f3 ≡ (landed_forth l (sent_both c s)).forth =
    r.land_forth.own ∙ ap (λ (x : Side). landed_own x (costs_next x) l) f_is in
    let b3_is : r.b3 ≡ (landed_forth l (sent_both c s)).back =
    r.land_forth.other_is ∙ ap₂ (λ (x y : Side). landed_other x y l) f_is b_is in
    record {
      first = l;
      second = m;
      reads_first = subst (λ (x : Side). Reads (front x) l) f_is r.land_forth.reads;
      reads_second = subst (λ (x : Side). Reads (front x) m) b3_is r.land_back.reads;
      forth = sym (r.land_back.other_is ∙ ap₂ (λ (x y : Side). landed_other x y m) b3_is f3_is);
      back = sym (r.land_back.own ∙ ap (λ (x : Side). landed_own x (costs_next x) m) b3_is);
    }

-- what a landing of the other direction leaves of the front
front-kept : (x y : Side) (look : Reading) → front (landed_other x y look) ≡ front y
front-kept x y look =
    by_counts (is_counted_at x (wire x).far (event_here x look)) (event_here x look)
  where
    by_counts : (b : Bool) (e : Event) →
        front (record y
        { half = other_after x.half y.half (if b then moves.counts e else moves.does e) }) ≡ front y
    by_counts true e = refl
    by_counts false e = refl

-- sent and landed the other way round they come to the same
pub other-order : (c : Setup) (f0 b0 f4 b4 : Side) → (wire f0).accepted ≤ begun (wire f0) →
    (wire b0).accepted ≤ begun (wire b0) → FourSteps c f0 b0 f4 b4 → FourSteps c b0 f0 b4 f4
other-order c f0 b0 f4 b4 le_f le_b r =
    let l = r.first in
    let m = r.second in
    let sent_second : r.b2 ≡ sent c b0 f0 =
    r.sent_back ∙ ap (λ (x : Side). sent c b0 x) r.sent_forth ∙ sends-commute c b0 f0 le_f in
    let sent_first : r.f1 ≡ sent c f0 r.b2 =
    r.sent_forth ∙ sym (sends-commute c f0 b0 le_b)
    ∙ ap (λ (x : Side). sent c f0 x) (sym sent_second) in
    record {
      f1 = r.b2;
      b2 = r.f1;
      f3 = landed_own r.b2 (costs_next r.b2) m;
      b3 = landed_other r.b2 r.f1 m;
      first = m;
      second = l;
      sent_forth = sent_second;
      sent_back = sent_first;
      land_forth = record {
        reads =
            subst (λ (i : Item). Reads i m) (ap front r.land_forth.other_is
            ∙ front-kept r.f1 r.b2 l) r.land_back.reads;
        own = refl;
        other_is = refl;
      };
      land_back = record {
        reads = subst (λ (i : Item). Reads i l) (sym (front-kept r.b2 r.f1 m)) r.land_forth.reads;
        own =
            r.land_back.other_is
            ∙ ap₂ (λ (x y : Side). landed_other x y m) r.land_forth.other_is r.land_forth.own
            ∙ sym (lands-commute r.b2 r.f1 m l);
        other_is =
            r.land_back.own ∙ ap (λ (x : Side). landed_own x (costs_next x) m) r.land_forth.other_is
            ∙ lands-commute r.f1 r.b2 l m;
      };
    }
