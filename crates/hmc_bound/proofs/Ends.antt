-- A case that ends with enough whole rounds is drained.
use Rattle.std.proofs.Common.{◌≡◌, ◌∙◌, ◌≤◌, ◌+◌, ◌⊎◌, inl, inr, ℕ, zero, suc, Bool, true, false, List, [], ◌∷◌, ◌++◌, length, drop, take, map, append_assoc, append-nil, length-append, refl, sym, ap, subst, arith}
use Rattle.std.specs.List.{flat_map}
use Rattle.std.proofs.lemmas.List.{take-append-drop, length-take, length-drop}
use Rattle.hmc_codes.specs.Numbers.{upto}
use Rattle.hmc_report.specs.Final.{FinalValues, final_lines, ending_lines}
use Rattle.hmc_report.specs.Lines.{memory_lines, register_lines, token_line, counter_line, host_line, cube_line, state_line}
use Rattle.hmc_schedule.specs.declared.step.Step.{Step}
use Rattle.hmc_schedule.specs.Round.{rounds_of}
use Rattle.hmc_entries.specs.declared.entry.Entry.{Entry}
use Rattle.hmc_journal.specs.Drained.{is_drained}
use Rattle.hmc_journal.specs.Final.{values_of, final_lines_of}
use Rattle.hmc_journal.specs.Lawful.{has_passed, Lawful, journal_of}
use Rattle.hmc_journal.specs.Network.{IsNetwork}
use Rattle.hmc_journal.specs.Setup.{Setup}
use Rattle.hmc_journal.proofs.Whole.{journal_is_whole}
use Rattle.hmc_rounds.specs.Rounds.{plan_of, RoundsFollow}
use Rattle.hmc_bound.specs.Ends.{before_rounds, EndsWithRounds, IsDrainedBy, EndsDrained}
use Rattle.hmc_bound.proofs.Final.{drains}

-- the last line says whether it is drained
last_ending : (v : FinalValues) → (lines : List (List ℕ))
    × (ending_lines v ≡ lines ++ state_line v.drained ∷ [])
unfolding ending_lines
last_ending v =
    let a = map (λ direction. token_line direction (v.tokens direction)) (upto v.directions) in
    let b = map (λ direction. counter_line direction (v.counters direction)) (upto v.directions) in
    let c = map (λ host. host_line host (v.host_counts host)) (upto v.hosts) in
    let d = map (λ cube. cube_line cube (v.cube_counts cube)) (upto v.cubes) in
    let e = state_line v.drained ∷ [] in
    (a ++ b ++ c ++ d, by_parts a b c d e)
  where
    by_parts : {X : Type 0} (a b c d e : List X) → a ++ b ++ c ++ d ++ e ≡ (a ++ b ++ c ++ d) ++ e
    by_parts a b c d e = refl

last_line : (v : FinalValues) → (lines : List (List ℕ))
    × (final_lines v ≡ lines ++ state_line v.drained ∷ [])
unfolding final_lines
last_line v =
    let a = flat_map (λ cube. memory_lines cube (v.memory cube)) (upto v.cubes) in
    let b = flat_map (λ cube. register_lines cube (v.registers cube)) (upto v.cubes) in
    let z = last_ending v in (
      a ++ b ++ z.0,
      ap (λ (l : List (List ℕ)). a ++ b ++ l) z.1
          ∙ by_parts a b z.0 (state_line v.drained ∷ []),
    )
  where
    by_parts : {X : Type 0} (a b c e : List X) → a ++ b ++ (c ++ e) ≡ (a ++ b ++ c) ++ e
    by_parts a b c e = sym (append_assoc (a ++ b) c e)

drained_line : (setup : Setup) (past : List Entry) → is_drained setup.topology past ≡ true →
    (lines : List (List ℕ)) × (final_lines_of setup past ≡ lines ++ state_line true ∷ [])
unfolding final_lines_of values_of
drained_line setup past is =
    let z = last_line (values_of setup past) in
    (z.0, z.1 ∙ ap (λ (b : Bool). z.0 ++ state_line b ∷ []) is)

pub whole_length : (setup : Setup) → has_passed (journal_of setup) ≡ false →
    length (journal_of setup) ≡ length setup.schedule
whole_length setup off = by_whole (journal_is_whole setup).whole
  where
    by_whole : (length (journal_of setup) ≡ length setup.schedule)
        ⊎ (has_passed (journal_of setup) ≡ true) → length (journal_of setup) ≡ length setup.schedule
    by_whole (inl e) = e
    by_whole (inr e) = absurd (let clash : true ≡ false = sym e ∙ off in cc clash)

drop_front : {X : Type 0} (n : ℕ) (xs ys : List X) → n ≡ length xs → drop n (xs ++ ys) ≡ ys
drop_front zero [] ys e = refl
drop_front zero (x ∷ xs) ys e = absurd (omega (arith, e))
drop_front (suc n) [] ys e = absurd (omega (arith, e))
drop_front (suc n) (x ∷ xs) ys e = drop_front n xs ys (omega (arith, e))

follows : (setup : Setup) (n : ℕ) → EndsWithRounds setup n →
    RoundsFollow setup (before_rounds setup n)
    (take (length (rounds_of (plan_of setup.topology) n)) (journal_of setup)) n
follows setup n ends =
    let J = journal_of setup in
    let R = rounds_of (plan_of setup.topology) n in
    let m = length R in
    let joined : take m J ++ drop m J ≡ J = take-append-drop m J in
    let long : length J ≡ length ends.before + m =
    whole_length setup ends.unpassed ∙ ap (λ (s : List Step). length s) ends.is
    ∙ length-append ends.before R in
    let dropped = length-drop m J in
    let taken = length-take m J in
    record {
      lawful = subst (Lawful setup) (sym joined) (journal_is_whole setup).lawful;
      unpassed = ap has_passed joined ∙ ends.unpassed;
      rest = [];
      scheduled =
          ap (λ (s : List Step). drop (length (drop m J)) s) ends.is
          ∙ drop_front (length (drop m J)) ends.before R (omega (arith, long, dropped))
          ∙ sym (append-nil R);
      long = omega (arith, long, taken);
      idle =
          λ host. ap (λ (j : List Entry). Rattle.hmc_journal.specs.Hosts.given_count host j) joined
          ∙ ends.idle host;
    }

no_more : (k n : ℕ) → k ≤ n → 0 + k ≤ n
no_more k n h = omega (arith, h)

pub drained_by : (setup : Setup) (journal : List Entry) → IsNetwork setup →
    IsDrainedBy setup journal (is_drained setup.topology journal)
drained_by setup journal network single past later n is f enough =
    let both = drains setup network single in
    let end : is_drained setup.topology (later ++ past) ≡ true =
    elim enough [
      | inl h ↦ both.0 past later n h.0 f (no_more _ n h.1)
      | inr h ↦ both.1 past
          later n tt f h
    ] in
    ap (is_drained setup.topology) is ∙ end

pub ends_drained : (setup : Setup) → IsNetwork setup → EndsDrained setup
ends_drained setup network single n ends enough =
    let J = journal_of setup in
    let m = length (rounds_of (plan_of setup.topology) n) in
    drained_line setup J
    (drained_by setup J network single (before_rounds setup n) (take m J) n
    (sym (take-append-drop m J)) (follows setup n ends) enough)
