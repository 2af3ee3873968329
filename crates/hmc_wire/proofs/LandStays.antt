-- Only landings and unlocks change what holds of a receiver. Used by ActionLaw.
use Rattle.std.proofs.Common.{◌≡◌, ◌≢◌, ℕ, zero, suc, ◌<◌, ◌≤◌, List, [], ◌∷◌, ◌++◌, length, false, refl, sym, ◌∙◌, ap, subst, arith, length-append, append-nil}
use Rattle.hmc_numbers.specs.Weights.{Weight, flits_to}
use Rattle.hmc_numbers.specs.Direction.{Reached, Reached as far, Direction, opening, begun}
use Rattle.hmc_numbers.specs.Events.{far_unlocked, unlocked as unlocked_at}
use Rattle.hmc_numbers.proofs.Sums.{upto-append, size-append}
use Rattle.hmc_wire.proofs.Grammar.{Grammar}
use Rattle.hmc_wire.proofs.GrammarLandings.{Mode, Landings, mode, mode_at, pending, is_spoilt, accepted_in, flits_of}
use Rattle.hmc_wire.proofs.GrammarLandings.Mode.{training, abort, good}
use Rattle.hmc_wire.proofs.GrammarLandings.Landing.{unlocked}
use Rattle.hmc_wire.proofs.Spelled.{Sent, fronts}
use Rattle.hmc_wire.proofs.Matches.{Matches, IsAt, packets_to}

pub matches_opening : (G : Grammar) (s : Sent G) → Matches G s opening []
matches_opening G s = record { place = (refl, refl, refl); clear_run = refl; start_run = refl; packets = refl; count = refl; flits = refl }

-- an unlock
pub matches_unlocked : (G : Grammar) (s : Sent G) (w : Direction) (past : Landings G) → Matches G s w past → Matches G s (unlocked_at w) (unlocked ∷ past)
matches_unlocked G s w past m =
    let same : accepted_in G (unlocked ∷ past) ≡ accepted_in G past = append-nil (accepted_in G past) in
    record {
      place = by_far w.far m.place;
      clear_run = refl;
      start_run = refl;
      packets = same ∙ m.packets;
      count = ap (λ (z : List G.Packet). length z) same ∙ m.count;
      flits = ap (λ (z : List G.Packet). flits_of G z) same ∙ m.flits;
    }
  where
    stays : (m : Mode) → m ≡ training → mode_at {F = G.Flit} {B = G.Bad} m unlocked ≡ training
    stays training e = refl
    stays abort e = absurd (cc e)
    stays good e = absurd (cc e)

    falls : (m n : Mode) → m ≡ n → n ≢ training → mode_at {F = G.Flit} {B = G.Bad} m unlocked ≡ abort
    falls training n e h = absurd (h (sym e))
    falls abort n e h = refl
    falls good n e h = refl

    by_far : (fr : Reached) → IsAt G s w.first fr (mode G past) (is_spoilt G past) (pending G past) → IsAt G s w.first (far_unlocked fr) (mode_at {F = G.Flit} {B = G.Bad} (mode G past) unlocked) false []
    by_far far.training p = (stays (mode G past) p.0, refl, refl)
    by_far far.aborting p = (falls (mode G past) abort p.0 (λ q. cc), refl, refl)
    by_far far.between p = (falls (mode G past) good p.0 (λ q. cc), refl, refl)
    by_far (far.inside n k) p = (falls (mode G past) good p.0 (λ q. cc), refl, refl)
    by_far far.spoilt p = (falls (mode G past) good p.0 (λ q. cc), refl, refl)

-- More packets are begun and more flits sent. What was accepted or is gathered is as it was.
pub record Agrees (G : Grammar) (s t : Sent G) (w : Direction) : Type 0 where
  pub packets : (n : ℕ) → n ≤ w.accepted → s.packet n ≡ t.packet n
  pub fronts : (n k j : ℕ) → w.far ≡ far.inside n k → j < k → s.front n j ≡ t.front n j

same_packets : {P : Type 0} → (g h : ℕ → P) (n : ℕ) → ((m : ℕ) → m ≤ n → g m ≡ h m) → packets_to g n ≡ packets_to h n
same_packets g h zero e = refl
same_packets g h (suc n) e = ap (λ xs. xs ++ g (suc n) ∷ []) (same_packets g h n (λ m l. e m (omega arith))) ∙ ap (λ x. packets_to h n ++ x ∷ []) (e (suc n) (omega arith))

same_fronts : {F : Type 0} → (g h : ℕ → F) (k : ℕ) → ((j : ℕ) → j < k → g j ≡ h j) → fronts g k ≡ fronts h k
same_fronts g h zero e = refl
same_fronts g h (suc k) e = ap (λ xs. xs ++ g k ∷ []) (same_fronts g h k (λ j l. e j (omega arith))) ∙ ap (λ x. fronts h k ++ x ∷ []) (e k (omega arith))

pub matches_grows : (G : Grammar) (s t : Sent G) (w v : Direction) (past : Landings G) (new : List Weight) → Matches G s w past → Agrees G s t w → w.accepted ≤ begun w →
    v.first ≡ w.first ++ new → v.far ≡ w.far → v.accepted ≡ w.accepted → v.clear_run ≡ w.clear_run → v.start_run ≡ w.start_run → Matches G t v past
matches_grows G s t w v past new m a l e f n c d = record {
  place = subst (λ ps. IsAt G t ps v.far (mode G past) (is_spoilt G past) (pending G past)) (sym e)
      (subst (λ fr. IsAt G t (w.first ++ new) fr (mode G past) (is_spoilt G past) (pending G past)) (sym f) (by_far w.far refl m.place));
  clear_run = m.clear_run ∙ sym c;
  start_run = m.start_run ∙ sym d;
  packets = m.packets ∙ same_packets s.packet t.packet w.accepted a.packets ∙ ap (λ i. packets_to t.packet i) (sym n);
  count = m.count ∙ sym n;
  flits = m.flits ∙ sym (upto-append (λ p. p.flits) w.first new w.accepted l) ∙ ap (λ i. flits_to (w.first ++ new) i) (sym n) ∙ ap (λ ps. flits_to ps v.accepted) (sym e);
}
  where
    by_far : (fr : Reached) → w.far ≡ fr → IsAt G s w.first fr (mode G past) (is_spoilt G past) (pending G past) → IsAt G t (w.first ++ new) fr (mode G past) (is_spoilt G past) (pending G past)
    by_far far.training q p = p
    by_far far.aborting q p = p
    by_far far.between q p = p
    by_far (far.inside i k) q p = (
      p.0,
      p.1,
      p.2 ∙ same_fronts (s.front i) (t.front i) k (λ j z. a.fronts i k j q z),
      p.3,
      omega (arith, p.4, length-append w.first new),
      ap (λ y. G.lng y) (sym (a.fronts i k 0 q p.3)) ∙ p.5 ∙ sym (size-append w.first new i p.4),
    )
    by_far far.spoilt q p = p
