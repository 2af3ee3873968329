-- The cases of a landing by hmc_packet's rows, with what is known in each. Used by Readings and
-- Mirrors.
use Rattle.std.proofs.Common.{◌≡◌, ◌∙◌, ◌+◌, ℕ, Bool, true, false, List, [], ◌∷◌, ◌++◌, length, Option, Some, None, Result, Ok, Err, refl, sym}
use Rattle.std.specs.Prelude.{◌==◌, ◌&&◌, nat_lt, if◌then◌else◌}
use Rattle.hmc_codes.proofs.General.{suc-some}
use Rattle.hmc_codes.specs.Commands.{layout_of}
use Rattle.hmc_codes.specs.declared.profile.Profile.{Profile}
use Rattle.hmc_packet.specs.declared.bad.Bad.{Bad}
use Rattle.hmc_packet.specs.declared.bad.Bad.TheVariants as bads
use Rattle.hmc_packet.specs.declared.kind.Kind.{Kind}
use Rattle.hmc_packet.specs.declared.outcome.Outcome.TheVariants.{Quiet, Trained, Gathered, AbortedBad}
use Rattle.hmc_packet.specs.declared.reception.Reception.{Reception}
use Rattle.hmc_packet.specs.declared.seen.Seen.{Seen}
use Rattle.hmc_packet.specs.declared.view.Mode.{Mode}
use Rattle.hmc_packet.specs.declared.view.Mode.TheVariants.{Train, Abort, Good}
use Rattle.hmc_packet.specs.Irtry.{irtry_in}
use Rattle.hmc_packet.specs.Landings.{whole_training, is_training}
use Rattle.hmc_packet.specs.Parts.{lng_of}
use Rattle.hmc_packet.specs.Reading.{is_null, read_of}
use Rattle.hmc_packet.specs.Receptions.{LandingView, checked, unchecked, irtry_reception, abort_reception, packet_reception, read_reception, flits_reception, is_no_length, lng_with, mode_reception, reception_by}

-- fewer flits are there than the packet has
abbrev pub is_short : LandingView → List ℕ → Bool
is_short r flit = nat_lt (length (r.pending ++ flit ∷ [])) (lng_with r.pending flit)

pub data Case (q : Profile) (r : LandingView) (flit : List ℕ) : Reception → Type 0 where
  trained : r.mode ≡ Train → is_training q flit ≡ true → (r.training + 1 == whole_training) ≡ true → Case q r flit (checked Trained None)
  trains : r.mode ≡ Train → is_training q flit ≡ true → (r.training + 1 == whole_training) ≡ false → Case q r flit (checked Quiet None)
  untrained : r.mode ≡ Train → is_training q flit ≡ false → Case q r flit (unchecked Quiet)
  aborting : r.mode ≡ Abort → irtry_in q flit ≡ None → Case q r flit (unchecked Quiet)
  retried : r.mode ≡ Abort → (irtry : Kind × ℕ) → irtry_in q flit ≡ Some irtry → Case q r flit (irtry_reception (r.run irtry.0) irtry.0 irtry.1)
  null : r.mode ≡ Good → r.pending ≡ [] → is_null flit ≡ true → Case q r flit (checked Quiet None)
  no_length : r.mode ≡ Good → r.pending ≡ [] → is_null flit ≡ false → is_no_length (lng_of flit) ≡ true → Case q r flit (unchecked (AbortedBad bads.Length))
  gathered : r.mode ≡ Good → is_short r flit ≡ true → Case q r flit (unchecked Gathered)
  refused : r.mode ≡ Good → is_short r flit ≡ false → (bad : Bad) → read_of q (r.pending ++ flit ∷ []) ≡ Err bad → Case q r flit (unchecked (AbortedBad bad))
  whole : r.mode ≡ Good → is_short r flit ≡ false → (seen : Seen) → read_of q (r.pending ++ flit ∷ []) ≡ Ok seen →
      Case q r flit (packet_reception q r (layout_of seen.packet.command) seen)

by_train : (q : Profile) (r : LandingView) (flit : List ℕ) (a b : Bool) → r.mode ≡ Train → is_training q flit ≡ a → (r.training + 1 == whole_training) ≡ b →
    Case q r flit (if a then checked (if b then Trained else Quiet) None else unchecked Quiet)
by_train q r flit true true m a b = trained m a b
by_train q r flit true false m a b = trains m a b
by_train q r flit false n m a b = untrained m a

by_abort : (q : Profile) (r : LandingView) (flit : List ℕ) (o : Option (Kind × ℕ)) → r.mode ≡ Abort → irtry_in q flit ≡ o → Case q r flit (abort_reception r o)
by_abort q r flit None m is = aborting m is
by_abort q r flit (Some irtry) m is = retried m irtry is

by_reading : (q : Profile) (r : LandingView) (flit : List ℕ) (x : Result Seen Bad) → r.mode ≡ Good → is_short r flit ≡ false → read_of q (r.pending ++ flit ∷ []) ≡ x → Case q r flit (read_reception q r x)
by_reading q r flit (Err bad) m full is = refused m full bad is
by_reading q r flit (Ok seen) m full is = whole m full seen is

by_count : (q : Profile) (r : LandingView) (flit : List ℕ) (b : Bool) → r.mode ≡ Good → is_short r flit ≡ b →
    Case q r flit (if b then unchecked Gathered else read_reception q r (read_of q (r.pending ++ flit ∷ [])))
by_count q r flit true m is = gathered m is
by_count q r flit false m is = by_reading q r flit (read_of q (r.pending ++ flit ∷ [])) m is refl

none : (flits : List (List ℕ)) → (length flits == 0) ≡ true → flits ≡ []
none [] is = refl
none (first ∷ rest) is = absurd (let clash : false ≡ true = sym (suc-some (length rest)) ∙ is in cc)

by_length : (q : Profile) (r : LandingView) (flit : List ℕ) (a b c : Bool) → r.mode ≡ Good → (length r.pending == 0) ≡ a → is_null flit ≡ b → is_no_length (lng_of flit) ≡ c →
    Case q r flit (flits_reception q r (lng_with r.pending flit) (r.pending ++ flit ∷ [])) →
    Case q r flit (if a && b then checked Quiet None else if a && c then unchecked (AbortedBad bads.Length) else flits_reception q r (lng_with r.pending flit) (r.pending ++ flit ∷ []))
by_length q r flit true true c m p n l rest = null m (none r.pending p) n
by_length q r flit true false true m p n l rest = no_length m (none r.pending p) n l
by_length q r flit true false false m p n l rest = rest
by_length q r flit false b c m p n l rest = rest

by_mode : (q : Profile) (r : LandingView) (flit : List ℕ) (m : Mode) → r.mode ≡ m → Case q r flit (mode_reception m q r flit)
by_mode q r flit Train is = by_train q r flit _ _ is refl refl
by_mode q r flit Abort is = by_abort q r flit _ is refl
by_mode q r flit Good is = by_length q r flit _ _ _ is refl refl refl (by_count q r flit _ is refl)

-- the case that was taken
pub case_of : (q : Profile) (r : LandingView) (flit : List ℕ) → Case q r flit (reception_by q r flit)
unfolding reception_by
case_of q r flit = by_mode q r flit r.mode refl
