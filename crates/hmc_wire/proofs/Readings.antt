-- A landing by the entries of a receiver is a landing by the grammar of packets. Used by Mirrors.
use Rattle.std.proofs.Common.{◌≡◌, ◌≢◌, ◌∙◌, ◌+◌, ◌-◌, ◌%◌, ℕ, zero, suc, Bool, true, false, List, [], ◌∷◌, ◌++◌, length, Option, Some, None, Result, Ok, Err, refl, sym, ap, subst, arith, length-append, lt-ltb}
use Rattle.std.specs.Prelude.{◌==◌, ◌&&◌, ◌||◌, nat_lt, nat_le, not, if◌then◌else◌, is_some}
use Rattle.std.proofs.lemmas.Grind.{common_steps}
use Rattle.std.specs.Str.{bytes_eq}
use Rattle.hmc_codes.proofs.General.{suc-some}
use Rattle.hmc_codes.specs.Commands.{layout_of}
use Rattle.hmc_codes.specs.Flit.{zero_flit}
use Rattle.hmc_codes.specs.Profile.{modulus_of, window_of}
use Rattle.hmc_codes.specs.Table.{table_line}
use Rattle.hmc_codes.specs.declared.command.Command.{Command}
use Rattle.hmc_codes.specs.declared.command.Command.TheVariants.{Irtry}
use Rattle.hmc_codes.specs.declared.layout.Layout.{Layout}
use Rattle.hmc_codes.specs.declared.layout.Layout.TheVariants as layouts
use Rattle.hmc_codes.specs.declared.profile.Profile.{Profile}
use Rattle.hmc_codes.specs.declared.profile.Profile.TheVariants.{One, Two}
use Rattle.hmc_packet.specs.declared.bad.Bad.{Bad}
use Rattle.hmc_packet.specs.declared.bad.Bad.TheVariants as bads
use Rattle.hmc_packet.specs.declared.kind.Kind as outer
use Rattle.hmc_packet.specs.declared.outcome.Outcome.TheVariants.{Quiet, Trained, Gathered, Accepted, Poisoned, Repeat, AbortedBad, AbortedOrder, Ran}
use Rattle.hmc_packet.specs.declared.reception.Reception.{Reception}
use Rattle.hmc_packet.specs.declared.seen.Seen.{Seen}
use Rattle.hmc_packet.specs.declared.view.Mode as outer_mode
use Rattle.hmc_packet.specs.declared.view.Mode.TheVariants.{Train, Abort, Good}
use Rattle.hmc_packet.specs.Irtry.{kind_of, irtry_by, irtry_seen, irtry_in}
use Rattle.hmc_packet.specs.Landings.{whole_run, whole_training, is_training}
use Rattle.hmc_packet.specs.Packet.{PacketFields}
use Rattle.hmc_packet.specs.Parts.{lng_of}
use Rattle.hmc_packet.specs.Reading.{is_null, read_of}
use Rattle.hmc_packet.specs.Receptions.{LandingView, checked, unchecked, irtry_reception, abort_reception, is_next, is_repeat, sequenced_outcome, packet_reception, read_reception, flits_reception, is_no_length, lng_with, mode_reception, reception_by}
use Rattle.hmc_packet.specs.Spelling.{training_flit}
use Rattle.hmc_packet.proofs.ReadOf.{is_null-null}
use Rattle.hmc_packet.proofs.LinkLemmas.{read_of-long}
use Rattle.hmc_wire.proofs.Grammar.{Kind, Read as reads}
use Rattle.hmc_wire.proofs.GrammarLandings.{Mode, Mode as modes, Outcome, Outcome as outcomes, Landings, ran_or_quiet, in_abort, in_order, of_read, in_good, in_mode, is_some_irtry, is_steady, is_read, checks_good, checks, outcome}
use Rattle.hmc_wire.proofs.GrammarLandings as inner
use Rattle.hmc_wire.proofs.GrammarCounted.{counted_run, counted_alone, counted_read, counted_good, counted_in, counted}
use Rattle.hmc_wire.proofs.Words.{kind_as, mode_as, outcome_as}
use Rattle.hmc_wire.proofs.PacketGrammar.{read_by, read_as, irtry_of_read, alone, grammar}

-- what an entry of a receiver sees and what the landings of the grammar are
pub record Alike (q : Profile) (r : LandingView) (ls : Landings (grammar q)) : Type 0 where
  pub mode : mode_as r.mode ≡ inner.mode (grammar q) ls
  pub trained : r.training ≡ inner.trained_count (grammar q) ls
  pub run : (k : outer.Kind) → r.run k ≡ inner.run (grammar q) (kind_as k) ls
  pub flits : r.flits ≡ inner.flits_of (grammar q) (inner.accepted_in (grammar q) ls)
  pub packets : r.packets ≡ length (inner.accepted_in (grammar q) ls)
  pub pending : r.pending ≡ inner.pending (grammar q) ls

-- the landing says the same
pub record Same (l : Reception) (o : Outcome Bad) (c : Option ℕ) (b : Bool) : Type 0 where
  pub outcome : outcome_as l.outcome ≡ o
  pub pointer : l.rrp ≡ c
  pub checked : l.checked ≡ b

-- IRTRYs

abbrev pub pair_of : Option (outer.Kind × ℕ) → Option (Kind × ℕ)
pair_of None = None
pair_of (Some irtry) = Some (kind_as irtry.0, irtry.1)

by_command : (c : Command) (p : PacketFields) (rrp : ℕ) → irtry_of_read (read_by (layout_of c) p rrp) ≡ pair_of (irtry_by c p.frp rrp)
unfolding table_line
by_command Irtry p rrp = refl
by_command _ p rrp = refl

by_result : (x : Result Seen Bad) → irtry_of_read (read_as x) ≡ pair_of (irtry_seen x)
by_result (Err bad) = refl
by_result (Ok seen) = by_command seen.packet.command seen.packet seen.rrp

pub alone-same : (q : Profile) (flit : List ℕ) → alone q flit ≡ pair_of (irtry_in q flit)
unfolding irtry_in
alone-same q flit = by_result (read_of q (flit ∷ []))

some_same : (o : Option (outer.Kind × ℕ)) → is_some o ≡ is_some_irtry (pair_of o)
some_same None = refl
some_same (Some irtry) = refl

pub steady-same : (q : Profile) (flit : List ℕ) → is_training q flit ≡ is_steady (grammar q) flit
unfolding is_training
steady-same q flit = ap (λ (b : Bool). bytes_eq flit training_flit || b) (some_same (irtry_in q flit) ∙ ap is_some_irtry (sym (alone-same q flit)))

-- Train

by_train : (a b : Bool) → Same (if a then checked (if b then Trained else Quiet) None else unchecked Quiet) (if a && b then outcomes.trained else outcomes.quiet) None a
by_train true true = record { outcome = refl; pointer = refl; checked = refl }
by_train true false = record { outcome = refl; pointer = refl; checked = refl }
by_train false b = record { outcome = refl; pointer = refl; checked = refl }

eighth : (n : ℕ) → (n + 1 == whole_training) ≡ (n == 7)
eighth n = grind (arith, common_steps)

in_train : (q : Profile) (r : LandingView) (ls : Landings (grammar q)) (flit : List ℕ) → Alike q r ls →
    Same (mode_reception Train q r flit) (in_mode (grammar q) modes.training ls flit) (counted_in (grammar q) modes.training ls flit) (checks (grammar q) modes.training ls flit)
in_train q r ls flit alike =
    let a = steady-same q flit in
    let b = eighth r.training ∙ ap (λ (n : ℕ). n == 7) alike.trained in
    let s = by_train (is_training q flit) (r.training + 1 == whole_training) in
    record { outcome = s.outcome ∙ (λ i. if a i && b i then outcomes.trained else outcomes.quiet); pointer = s.pointer; checked = s.checked ∙ a }

-- Abort

last_of_run : (n : ℕ) → (n + 1 == whole_run) ≡ (n == 23)
last_of_run n = grind (arith, common_steps)

long_run : (n : ℕ) → nat_le whole_run (n + 1) ≡ nat_le 23 n
long_run n = grind (arith, common_steps)

by_retry : (b : Bool) (k : outer.Kind) → outcome_as (if b then Ran k else Quiet) ≡ (if b then outcomes.ran (kind_as k) else outcomes.quiet)
by_retry true k = refl
by_retry false k = refl

retried : (n : ℕ) (k : outer.Kind) (rrp : ℕ) → Same (irtry_reception n k rrp) (ran_or_quiet (kind_as k) n) (counted_run n rrp) true
retried n k rrp = record {
  outcome = by_retry (n + 1 == whole_run) k ∙ ap (λ (b : Bool). if b then outcomes.ran (kind_as k) else outcomes.quiet) (last_of_run n);
  pointer = ap (λ (b : Bool). if b then Some rrp else None) (long_run n);
  checked = refl;
}

retried-at : (q : Profile) (r : LandingView) (ls : Landings (grammar q)) (k : outer.Kind) (rrp : ℕ) → Alike q r ls →
    Same (irtry_reception (r.run k) k rrp) (ran_or_quiet (kind_as k) (inner.run (grammar q) (kind_as k) ls)) (counted_run (inner.run (grammar q) (kind_as k) ls) rrp) true
retried-at q r ls k rrp alike =
    subst (λ (n : ℕ). Same (irtry_reception (r.run k) k rrp) (ran_or_quiet (kind_as k) n) (counted_run n rrp) true) (alike.run k) (retried (r.run k) k rrp)

by_abort : (q : Profile) (r : LandingView) (ls : Landings (grammar q)) (o : Option (outer.Kind × ℕ)) → Alike q r ls →
    Same (abort_reception r o) (in_abort (grammar q) ls (pair_of o)) (counted_alone (grammar q) ls (pair_of o)) (is_some_irtry (pair_of o))
by_abort q r ls None alike = record { outcome = refl; pointer = refl; checked = refl }
by_abort q r ls (Some irtry) alike = retried-at q r ls irtry.0 irtry.1 alike

aborted : (q : Profile) (r : LandingView) (ls : Landings (grammar q)) (flit : List ℕ) → Alike q r ls →
    Same (mode_reception Abort q r flit) (in_mode (grammar q) modes.abort ls flit) (counted_in (grammar q) modes.abort ls flit) (checks (grammar q) modes.abort ls flit)
aborted q r ls flit alike =
    subst (λ (x : Option (Kind × ℕ)). Same (mode_reception Abort q r flit) (in_abort (grammar q) ls x) (counted_alone (grammar q) ls x) (is_some_irtry x)) (sym (alone-same q flit)) (by_abort q r ls (irtry_in q flit) alike)

-- Good

mod-same : (q : Profile) (f x : ℕ) → (f + x) % modulus_of q ≡ (f % modulus_of q + x) % modulus_of q
mod-same One f x = omega arith
mod-same Two f x = omega arith

by_order : (a b c : Bool) → outcome_as (if a then (if b then Poisoned else Accepted) else if c then Repeat else AbortedOrder)
    ≡ (if a then (if b then outcomes.poisoned else outcomes.accepted) else (if c then outcomes.repeated else outcomes.disordered))
by_order true true c = refl
by_order true false c = refl
by_order false b true = refl
by_order false b false = refl

ordered : (q : Profile) (r : LandingView) (ls : Landings (grammar q)) (p : PacketFields) (rrp : ℕ) → Alike q r ls → Same (checked (sequenced_outcome q r p) (Some rrp)) (of_read (grammar q) ls (reads.packet p rrp)) (Some rrp) true
ordered q r ls p rrp alike =
    let step : outcome_as (sequenced_outcome q r p) ≡ in_order (grammar q) p r.flits r.packets =
    by_order (is_next q r p) p.poisoned (is_repeat q r p)
    ∙ ap (λ (n : ℕ). if is_next q r p then (if p.poisoned then outcomes.poisoned else outcomes.accepted) else (if nat_lt n (window_of q) then outcomes.repeated else outcomes.disordered)) (mod-same q r.flits (modulus_of q - p.frp)) in
    record { outcome = step ∙ (λ i. in_order (grammar q) p (alike.flits i) (alike.packets i)); pointer = refl; checked = refl }

by_layout : (q : Profile) (r : LandingView) (ls : Landings (grammar q)) (l : Layout) (seen : Seen) → Alike q r ls →
    Same (packet_reception q r l seen) (of_read (grammar q) ls (read_by l seen.packet seen.rrp)) (counted_read (grammar q) ls (read_by l seen.packet seen.rrp)) (is_read (read_by l seen.packet seen.rrp))
by_layout q r ls layouts.Null seen alike = record { outcome = refl; pointer = refl; checked = refl }
by_layout q r ls layouts.Irtry seen alike = retried-at q r ls (kind_of seen.packet.frp) seen.rrp alike
by_layout q r ls layouts.Pret seen alike = record { outcome = refl; pointer = refl; checked = refl }
by_layout q r ls layouts.Tret seen alike = ordered q r ls seen.packet seen.rrp alike
by_layout q r ls layouts.Ask seen alike = ordered q r ls seen.packet seen.rrp alike
by_layout q r ls layouts.Reply seen alike = ordered q r ls seen.packet seen.rrp alike

by_reading : (q : Profile) (r : LandingView) (ls : Landings (grammar q)) (x : Result Seen Bad) → Alike q r ls → Same (read_reception q r x) (of_read (grammar q) ls (read_as x)) (counted_read (grammar q) ls (read_as x)) (is_read (read_as x))
by_reading q r ls (Err bad) alike = record { outcome = refl; pointer = refl; checked = refl }
by_reading q r ls (Ok seen) alike = by_layout q r ls (layout_of seen.packet.command) seen alike

-- so many flits are gathered or read
by_count : (q : Profile) (r : LandingView) (ls : Landings (grammar q)) (b : Bool) (x : Result Seen Bad) → Alike q r ls →
    Same (if b then unchecked Gathered else read_reception q r x) (if b then outcomes.gathered else of_read (grammar q) ls (read_as x)) (if b then None else counted_read (grammar q) ls (read_as x)) (if b then false else is_read (read_as x))
by_count q r ls true x alike = record { outcome = refl; pointer = refl; checked = refl }
by_count q r ls false x alike = by_reading q r ls x alike

counted-whole : (q : Profile) (r : LandingView) (ls : Landings (grammar q)) (lng : ℕ) (flits : List (List ℕ)) (n : ℕ) → length flits ≡ n → Alike q r ls →
    Same (flits_reception q r lng flits) (if nat_lt n lng then outcomes.gathered else of_read (grammar q) ls (read_as (read_of q flits))) (if nat_lt n lng then None else counted_read (grammar q) ls (read_as (read_of q flits)))
    (if nat_lt n lng then false else is_read (read_as (read_of q flits)))
counted-whole q r ls lng flits n e alike =
    subst (λ (k : ℕ). Same (flits_reception q r lng flits) (if nat_lt k lng then outcomes.gathered else of_read (grammar q) ls (read_as (read_of q flits))) (if nat_lt k lng then None else counted_read (grammar q) ls (read_as (read_of q flits)))
    (if nat_lt k lng then false else is_read (read_as (read_of q flits)))) e
    (by_count q r ls (nat_lt (length flits) lng) (read_of q flits) alike)

-- as the grammar checks
not_and : (b c : Bool) → (if b then false else c) ≡ (not b && c)
not_and true c = refl
not_and false c = refl

-- a landing in Good where these flits are pending, or none
abbrev good_with : Profile → LandingView → (none : Bool) → List (List ℕ) → List ℕ → Reception
good_with q r none p flit =
    if none && is_null flit then checked Quiet None else
    if none && is_no_length (lng_of flit) then unchecked (AbortedBad bads.Length)
    else flits_reception q r (lng_with p flit) (p ++ flit ∷ [])

pending-at : (q : Profile) (r : LandingView) (ls : Landings (grammar q)) (flit : List ℕ) (first : List ℕ) (rest : List (List ℕ)) → Alike q r ls →
    Same (good_with q r false (first ∷ rest) flit) (in_good (grammar q) ls (first ∷ rest) flit) (counted_good (grammar q) ls (first ∷ rest) flit) (checks_good (grammar q) (first ∷ rest) flit)
pending-at q r ls flit first rest alike =
    let s = counted-whole q r ls (lng_of first) (first ∷ rest ++ flit ∷ []) (length (first ∷ rest) + 1) (omega (arith, length-append rest (flit ∷ []))) alike in
    record { outcome = s.outcome; pointer = s.pointer; checked = s.checked ∙ not_and (nat_lt (length (first ∷ rest) + 1) (lng_of first)) (is_read (read_as (read_of q (first ∷ rest ++ flit ∷ [])))) }

not_null : (flit : List ℕ) → is_null flit ≡ false → flit ≢ zero_flit
not_null flit other is = let clash : true ≡ false = sym is_null-null ∙ ap is_null (sym is) ∙ other in cc

zero_or_long : (n : ℕ) (a b : Bool) → (n == 0) ≡ a → nat_lt 17 n ≡ b → (a || b) ≡ true → (x : Bool) → (n ≢ 1 → x ≡ false) → (not (nat_lt 1 n) && x) ≡ false
zero_or_long zero a b e f h x z = z (λ q. cc)
zero_or_long (suc zero) a b e f h x z = absurd (grind arith)
zero_or_long (suc (suc n)) a b e f h x z = ap (λ (t : Bool). not t && x) (lt-ltb 1 (suc (suc n)) (omega arith))

by_null : (q : Profile) (r : LandingView) (ls : Landings (grammar q)) (flit : List ℕ) (a b : Bool) → is_null flit ≡ a → is_no_length (lng_of flit) ≡ b → Alike q r ls →
    Same (if a then checked Quiet None else if b then unchecked (AbortedBad bads.Length) else flits_reception q r (lng_of flit) (flit ∷ []))
    (if a then outcomes.quiet else (if b then outcomes.aborted bads.Length else (if nat_lt 1 (lng_of flit) then outcomes.gathered else of_read (grammar q) ls (read_as (read_of q (flit ∷ []))))))
    (if a then None else (if b then None else (if nat_lt 1 (lng_of flit) then None else counted_read (grammar q) ls (read_as (read_of q (flit ∷ []))))))
    (a || (not (nat_lt 1 (lng_of flit)) && is_read (read_as (read_of q (flit ∷ [])))))
by_null q r ls flit true b e f alike = record { outcome = refl; pointer = refl; checked = refl }
by_null q r ls flit false true e f alike = record {
  outcome = refl;
  pointer = refl;
  checked = sym (zero_or_long (lng_of flit) (lng_of flit == 0) (nat_lt 17 (lng_of flit)) refl refl f (is_read (read_as (read_of q (flit ∷ []))))
      (λ other. ap (λ (x : Result Seen Bad). is_read (read_as x)) (read_of-long q flit (not_null flit e) other)));
}
by_null q r ls flit false false e f alike =
    let s = counted-whole q r ls (lng_of flit) (flit ∷ []) 1 refl alike in
    record { outcome = s.outcome; pointer = s.pointer; checked = s.checked ∙ not_and (nat_lt 1 (lng_of flit)) (is_read (read_as (read_of q (flit ∷ [])))) }

by_pending : (q : Profile) (r : LandingView) (ls : Landings (grammar q)) (flit : List ℕ) (p : List (List ℕ)) → Alike q r ls →
    Same (good_with q r (length p == 0) p flit) (in_good (grammar q) ls p flit) (counted_good (grammar q) ls p flit) (checks_good (grammar q) p flit)
by_pending q r ls flit [] alike = by_null q r ls flit (is_null flit) (is_no_length (lng_of flit)) refl refl alike
by_pending q r ls flit (first ∷ rest) alike =
    subst (λ (b : Bool). Same (good_with q r b (first ∷ rest) flit) (in_good (grammar q) ls (first ∷ rest) flit) (counted_good (grammar q) ls (first ∷ rest) flit) (checks_good (grammar q) (first ∷ rest) flit))
    (sym (suc-some (length rest))) (pending-at q r ls flit first rest alike)

good : (q : Profile) (r : LandingView) (ls : Landings (grammar q)) (flit : List ℕ) → Alike q r ls →
    Same (mode_reception Good q r flit) (in_mode (grammar q) modes.good ls flit) (counted_in (grammar q) modes.good ls flit) (checks (grammar q) modes.good ls flit)
good q r ls flit alike =
    subst (λ (p : List (List ℕ)). Same (mode_reception Good q r flit) (in_good (grammar q) ls p flit) (counted_good (grammar q) ls p flit) (checks_good (grammar q) p flit)) alike.pending (by_pending q r ls flit r.pending alike)

-- each mode

by_mode : (q : Profile) (r : LandingView) (ls : Landings (grammar q)) (flit : List ℕ) (m : outer_mode.Mode) → Alike q r ls →
    Same (mode_reception m q r flit) (in_mode (grammar q) (mode_as m) ls flit) (counted_in (grammar q) (mode_as m) ls flit) (checks (grammar q) (mode_as m) ls flit)
by_mode q r ls flit Train alike = in_train q r ls flit alike
by_mode q r ls flit Abort alike = aborted q r ls flit alike
by_mode q r ls flit Good alike = good q r ls flit alike

pub landing-same : (q : Profile) (r : LandingView) (ls : Landings (grammar q)) (flit : List ℕ) → Alike q r ls →
    Same (reception_by q r flit) (outcome (grammar q) ls flit) (counted (grammar q) ls flit) (checks (grammar q) (inner.mode (grammar q) ls) ls flit)
unfolding reception_by
landing-same q r ls flit alike =
    subst (λ (m : Mode). Same (mode_reception r.mode q r flit) (in_mode (grammar q) m ls flit) (counted_in (grammar q) m ls flit) (checks (grammar q) m ls flit)) alike.mode (by_mode q r ls flit r.mode alike)
