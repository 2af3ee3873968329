-- Landings in Good of a changed flit, or of a flit after one. A case of LandLanded.
use Rattle.std.proofs.Common.{◌≡◌, ℕ, List, Bool, true, false, refl, sym, subst}
use Rattle.std.specs.Prelude.{◌||◌}
use Rattle.hmc_numbers.specs.Weights.{Weight}
use Rattle.hmc_numbers.specs.Direction.{Item, Reached, Direction}
use Rattle.hmc_numbers.specs.Direction.{Reached as far}
use Rattle.hmc_numbers.specs.Events.Reading.{plain}
use Rattle.hmc_numbers.specs.May.{IsTouched, IsSome}
use Rattle.hmc_wire.proofs.Grammar.{Grammar}
use Rattle.hmc_wire.proofs.GrammarLandings.{Mode, Outcome, Landings, mode, pending, is_spoilt, in_mode, checks}
use Rattle.hmc_wire.proofs.GrammarLandings.Mode.{training, abort, good}
use Rattle.hmc_wire.proofs.GrammarLandings.Outcome.{gathered, aborted}
use Rattle.hmc_wire.proofs.Spelled.{Sent}
use Rattle.hmc_wire.proofs.Matches.{IsAt, reading_of, event_of}
use Rattle.hmc_wire.proofs.Lands.{Lands, Done, DoneIn}
use Rattle.hmc_wire.proofs.LandOutcomes.{Fails, good_fails}
use Rattle.hmc_wire.proofs.LandOutcomes.Fails.{gathers, aborts}
use Rattle.hmc_wire.proofs.LandKeep.{keep}

touched_far : (G : Grammar) (s : Sent G) (ps : List Weight) (fr : Reached) (m : Mode) (b c : Bool) (fs : List G.Flit) → IsAt G s ps fr m b fs → m ≡ good → (c || b) ≡ true → IsTouched fr c
touched_far G s ps far.training m b c fs p g t = absurd (not_training m p.0 g)
  where
    not_training : (m : Mode) → m ≡ training → m ≡ good → ⊥
    not_training m e g = cc
touched_far G s ps far.aborting m b c fs p g t = absurd (not_abort m p.0 g)
  where
    not_abort : (m : Mode) → m ≡ abort → m ≡ good → ⊥
    not_abort m e g = cc
touched_far G s ps far.between m b true fs p g t = refl
touched_far G s ps far.between m b false fs p g t = absurd (not_both b p.1 t)
  where
    not_both : (b : Bool) → b ≡ false → b ≡ true → ⊥
    not_both b e g = cc
touched_far G s ps (far.inside n k) m b true fs p g t = refl
touched_far G s ps (far.inside n k) m b false fs p g t = absurd (not_both b p.1 t)
  where
    not_both : (b : Bool) → b ≡ false → b ≡ true → ⊥
    not_both b e g = cc
touched_far G s ps far.spoilt m b c fs p g t = tt

pub check_in : (G : Grammar) (m : Mode) (past : Landings G) (f : G.Flit) → m ≡ good → checks G m past f ≡ false → checks G good past f ≡ false
check_in G training past f e h = absurd (cc e)
check_in G abort past f e h = absurd (cc e)
check_in G good past f e h = h

pub in_touched : (G : Grammar) (s : Sent G) (r : ℕ) (w : Direction) (past : Landings G) (x : Item) (xs : List Item) (c : Bool) (f : G.Flit) → Lands G s r w past x xs c f →
    mode G past ≡ good → (c || is_spoilt G past) ≡ true → DoneIn G s r w past c (is_spoilt G past) f (in_mode G good past f) good
in_touched G s r w past x xs c f l g t =
    subst (λ b. Done G s r w past c f (in_mode G good past f) (event_of good b c (reading_of (G.alone f)) (in_mode G good past f))) (sym t)
    (by_fails (good_fails G past (pending G past) f (check_in G (mode G past) past f g (l.sound t))))
  where
    i : IsSome w.line
    i = subst IsSome (sym l.line) tt

    z : IsTouched w.far c
    z = touched_far G s w.first w.far (mode G past) (is_spoilt G past) c (pending G past) l.matches.place g t

    by_fails : {o : Outcome G.Bad} → Fails o → Done G s r w past c f o (event_of good true c (reading_of (G.alone f)) o)
    by_fails gathers = record { ordered = tt; may = (z, i); matches = keep G s w past c f gathered far.spoilt plain l.matches refl (g, t) refl refl }
    by_fails (aborts b) = record { ordered = tt; may = (z, i); matches = keep G s w past c f (aborted b) far.aborting plain l.matches refl (rw g (refl, refl, refl)) refl refl }
