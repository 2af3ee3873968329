-- A landing that accepts nothing leaves what was accepted. Used by the cases of LandLanded.
use Rattle.std.proofs.Common.{◌≡◌, ℕ, zero, suc, ◌+◌, List, [], ◌∷◌, ◌++◌, length, Bool, false, refl, sym, ◌∙◌, ap, subst, arith, append-nil}
use Rattle.std.specs.Prelude.{◌||◌, if◌then◌else◌, Option, Some, None}
use Rattle.hmc_numbers.specs.Weights.{Weight}
use Rattle.hmc_numbers.specs.Direction.{Item, Reached, Direction}
use Rattle.hmc_numbers.specs.Direction.{Filler as fill}
use Rattle.hmc_numbers.specs.Direction.Item.{filler, clear, part}
use Rattle.hmc_numbers.specs.Events.{Reading, landed as landed_at, clear_run_after, start_run_after}
use Rattle.hmc_numbers.specs.Events.Reading.{plain, as_start, as_clear}
use Rattle.hmc_numbers.specs.May.{CanReadAs}
use Rattle.hmc_wire.proofs.Grammar.{Kind, Kind as kinds, Grammar}
use Rattle.hmc_wire.proofs.GrammarLandings.{Outcome, Landings, mode, mode_by, pending, pending_by, is_spoilt, spoilt_by, run, run_by, is_of, is_some_irtry, accepted_in, taken_by, flits_of}
use Rattle.hmc_wire.proofs.GrammarLandings.Landing.{landed}
use Rattle.hmc_wire.proofs.Spelled.{Sent, Spelled}
use Rattle.hmc_wire.proofs.Matches.{Matches, IsAt, reading_of}

pub keep : (G : Grammar) (s : Sent G) (w : Direction) (past : Landings G) (c : Bool) (f : G.Flit) (o : Outcome G.Bad) (far : Reached) (reading : Reading) → Matches G s w past →
    taken_by o (G.read (pending G past ++ f ∷ [])) ≡ [] →
    IsAt G s w.first far (mode_by o (mode G past)) (spoilt_by o (c || is_spoilt G past)) (pending_by o (pending G past) f) →
    run_by o (is_of kinds.clear (G.alone f)) (run G kinds.clear past) ≡ clear_run_after reading w.clear_run →
    run_by o (is_of kinds.start (G.alone f)) (run G kinds.start past) ≡ start_run_after reading w.start_run →
    Matches G s (landed_at w w.accepted far reading) (landed c f o ∷ past)
keep G s w past c f o far reading m t p a b =
    let same : accepted_in G (landed c f o ∷ past) ≡ accepted_in G past = ap (λ (z : List G.Packet). accepted_in G past ++ z) t ∙ append-nil (accepted_in G past) in
    record {
      place = p;
      clear_run = a;
      start_run = b;
      packets = same ∙ m.packets;
      count = ap (λ (z : List G.Packet). length z) same ∙ m.count;
      flits = ap (λ (z : List G.Packet). flits_of G z) same ∙ m.flits;
    }

-- runs of what is quiet or ran
pub clear_reads : (a : Option (Kind × ℕ)) (n m : ℕ) → n ≡ m → (if is_of kinds.clear a then n + 1 else 0) ≡ clear_run_after (reading_of a) m
clear_reads None n m e = refl
clear_reads (Some (kinds.start, r)) n m e = refl
clear_reads (Some (kinds.clear, r)) n m e = omega arith

pub start_reads : (a : Option (Kind × ℕ)) (n m : ℕ) → n ≡ m → (if is_of kinds.start a then n + 1 else 0) ≡ start_run_after (reading_of a) m
start_reads None n m e = refl
start_reads (Some (kinds.start, r)) n m e = omega arith
start_reads (Some (kinds.clear, r)) n m e = refl

-- what a flit can read as alone
pub plain_reads : (a : Option (Kind × ℕ)) → is_some_irtry a ≡ false → reading_of a ≡ plain
plain_reads None e = refl
plain_reads (Some seen) e = absurd (cc e)

pub none_reads : (a : Option (Kind × ℕ)) → a ≡ None → reading_of a ≡ plain
none_reads a e = ap reading_of e

any_reading : (n k more : ℕ) (reading : Reading) → CanReadAs (part n (suc k) more) reading
any_reading n k more plain = tt
any_reading n k more as_start = omega arith
any_reading n k more as_clear = omega arith

pub can_read : (G : Grammar) (s : Sent G) (ps : List Weight) (x : Item) (f : G.Flit) → Spelled G s ps x f → CanReadAs x (reading_of (G.alone f))
can_read G s ps (filler fill.null) f h = subst (λ l. CanReadAs (filler fill.null) l) (sym (none_reads (G.alone f) h.1)) tt
can_read G s ps (filler fill.train) f h = subst (λ l. CanReadAs (filler fill.train) l) (sym (none_reads (G.alone f) h)) tt
can_read G s ps (filler fill.pret) f h = subst (λ l. CanReadAs (filler fill.pret) l) (sym (none_reads (G.alone f) h.alone)) tt
can_read G s ps (filler fill.start) f h = subst (λ a. CanReadAs (filler fill.start) (reading_of a)) (sym h.alone) tt
can_read G s ps clear f h = subst (λ a. CanReadAs clear (reading_of a)) (sym h.alone) tt
can_read G s ps (part n zero more) f h = subst (λ l. CanReadAs (part n zero more) l) (sym (none_reads (G.alone f) (h.0 refl).alone)) tt
can_read G s ps (part n (suc k) more) f h = any_reading n k more (reading_of (G.alone f))

pub changed_reading : (G : Grammar) (x : Item) (f : G.Flit) → is_some_irtry (G.alone f) ≡ false → CanReadAs x (reading_of (G.alone f))
changed_reading G x f e = subst (λ l. CanReadAs x l) (sym (plain_reads (G.alone f) e)) tt
