-- The return pointer that a landing counts, by a grammar. Used by ActionLaw and LandCounted.
use Rattle.std.specs.Prelude.{◌≡◌, ℕ, zero, ◌+◌, nat_lt, nat_le, ◌&&◌, if◌then◌else◌, List, [], ◌∷◌, ◌++◌, length, Option, Some, None}
use Rattle.hmc_numbers.specs.Direction.{Filler as fill, Item}
use Rattle.hmc_numbers.specs.Direction.Item.{filler, clear, part}
use Rattle.hmc_wire.proofs.Grammar.{Kind, Kind as kinds, Read, Read as reads, Grammar}
use Rattle.hmc_packet.specs.Receptions.{is_no_length}
use Rattle.hmc_wire.proofs.GrammarLandings.{Mode, Landings, mode, pending, run, is_empty, head_or}
use Rattle.hmc_wire.proofs.GrammarLandings.Mode.{training, abort, good}
use Rattle.hmc_wire.proofs.Spelled.{Sent, fronts}

-- that of an IRTRY after so many of its kind: it is counted from the 24th on
abbrev pub counted_run : (seen_before rrp : ℕ) → Option ℕ
counted_run n r = if nat_le 23 n then Some r else None

abbrev pub counted_alone : (G : Grammar) → Landings G → Option (Kind × ℕ) → Option ℕ
counted_alone G past None = None
counted_alone G past (Some seen) = counted_run (run G seen.0 past) seen.1

abbrev pub counted_read : (G : Grammar) → Landings G → Read G.Packet G.Bad → Option ℕ
counted_read G past (reads.bad b) = None
counted_read G past reads.null = None
counted_read G past (reads.irtry k r) = counted_run (run G k past) r
counted_read G past (reads.pret r) = Some r
counted_read G past (reads.packet p r) = Some r

abbrev pub counted_good : (G : Grammar) → Landings G → List G.Flit → G.Flit → Option ℕ
counted_good G past fs f =
    if is_empty fs && G.is_null f then None
    else (if is_empty fs && is_no_length (G.lng f) then None
    else (if nat_lt (length fs + 1) (G.lng (head_or fs f)) then None
    else counted_read G past (G.read (fs ++ f ∷ []))))

abbrev pub counted_in : (G : Grammar) → Mode → Landings G → G.Flit → Option ℕ
counted_in G training past f = None
counted_in G abort past f = counted_alone G past (G.alone f)
counted_in G good past f = counted_good G past (pending G past) f

abbrev pub counted : (G : Grammar) → Landings G → G.Flit → Option ℕ
counted G past f = counted_in G (mode G past) past f

-- a flit that is sent with a return pointer reads so
abbrev pub Carries : (G : Grammar) → Sent G → (rrp : ℕ) → Item → G.Flit → Type 0
Carries G s r (filler fill.pret) f = G.read (f ∷ []) ≡ reads.pret r
Carries G s r (filler fill.start) f = (G.alone f ≡ Some (kinds.start, r)) × (G.read (f ∷ []) ≡ reads.irtry kinds.start r)
Carries G s r clear f = (G.alone f ≡ Some (kinds.clear, r)) × (G.read (f ∷ []) ≡ reads.irtry kinds.clear r)
Carries G s r (part n k zero) f = G.read (fronts (s.front n) k ++ f ∷ []) ≡ reads.packet (s.packet n) r
Carries G s r x f = Unit {0}
