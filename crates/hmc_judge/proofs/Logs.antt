-- The loop over the log.
use Rattle.std.proofs.Common.{◌≡◌, ◌∙◌, ◌<◌, ◌+◌, ℕ, zero, suc, true, false, List, [], ◌∷◌, ◌++◌, length, take, drop, reverse, get_or, refl, sym, ap, subst, arith}
use Rattle.std.proofs.lemmas.List.{reverse-append}
use Rattle.hmc_serial.specs.Machine.{State}
use Rattle.hmc_entries.specs.declared.entry.Entry.{Entry}
use Rattle.hmc_entries.specs.declared.entry.Entry.TheVariants.{Gave, Took, Retired}
use Rattle.hmc_journal.specs.Setup.{Topology}
use Rattle.hmc_seen.specs.Explained.{IsExplained}
use Rattle.hmc_search.specs.Kept.{kept}
use Rattle.hmc_search.specs.Point.{Point, start_at}
use Rattle.hmc_search.proofs.Keeping.{kept_explained, not_kept}
use Rattle.hmc_search.specs.Reached.{IsUntagged}
use Rattle.hmc_judge.specs.Explaining.{first_entries}
use Rattle.hmc_judge.specs.Steps.{after_entry}
use Rattle.hmc_judge.proofs.Explaining.{first_more}

take_drop : (at : ℕ) (log : List Entry) → take at log ++ drop at log ≡ log
take_drop zero log = refl
take_drop (suc at) [] = refl
take_drop (suc at) (e ∷ log) = ap (λ l. e ∷ l) (take_drop at log)

pub kept_more : (topology : Topology) (opening : State) (entry : Entry) (log : List Entry) →
    kept topology opening (entry ∷ log) ≡ after_entry topology entry (kept topology opening log)
unfolding kept after_entry
kept_more topology opening (Gave host tag false request) log = refl
kept_more topology opening (Gave host tag true request) log = refl
kept_more topology opening (Took host tag answer) log = refl
kept_more topology opening (Retired slot) log = refl
kept_more topology opening _ log = refl

-- the states kept after one more entry
pub kept_after : (topology : Topology) (opening : State) (log : List Entry) (at : ℕ) (none : Entry) → at < length log →
    kept topology opening (first_entries (at + 1) log) ≡ after_entry topology (get_or log at none) (kept topology opening (first_entries at log))
kept_after topology opening log at none less =
    ap (λ l. kept topology opening l) (first_more log at none less)
    ∙ kept_more topology opening (get_or log at none) (first_entries at log)

untagged_tail : (entry : Entry) (log : List Entry) → IsUntagged (entry ∷ log) → IsUntagged log
untagged_tail (Gave host tag true request) log u = u.1
untagged_tail (Gave host tag false request) log u = u
untagged_tail _ log u = u

untagged_part : (later log : List Entry) → IsUntagged (later ++ log) → IsUntagged log
untagged_part [] log u = u
untagged_part (e ∷ later) log u = untagged_part later log (untagged_tail e (later ++ log) u)

-- no poisoned request of the first entries has a tag where none of all has
pub first_untagged : (log : List Entry) (at : ℕ) → IsUntagged (reverse log) → IsUntagged (first_entries at log)
first_untagged log at u = untagged_part (reverse (drop at log)) (first_entries at log)
    (subst IsUntagged (ap reverse (sym (take_drop at log)) ∙ reverse-append (take at log) (drop at log)) u)

explained_if : (topology : Topology) (opening : State) (log : List Entry) → IsUntagged log → (points : List Point) →
    kept topology opening log ≡ points → 0 < length points → IsExplained topology opening log
explained_if topology opening log u [] is some = absurd (omega (arith, some))
explained_if topology opening log u (p ∷ points) is some = kept_explained topology opening log p points u is

-- where a state is kept the log is explained
pub some_kept : (topology : Topology) (opening : State) (log : List Entry) → IsUntagged log →
    0 < length (kept topology opening log) → IsExplained topology opening log
some_kept topology opening log u some = explained_if topology opening log u (kept topology opening log) refl some

pub no_kept : (topology : Topology) (opening : State) (log : List Entry) → IsUntagged log → (points : List Point) →
    kept topology opening log ≡ points → length points ≡ 0 → IsExplained topology opening log → ⊥
no_kept topology opening log u [] is few = not_kept topology opening log u is
no_kept topology opening log u (p ∷ points) is few = absurd (omega (arith, few))

pub kept_none : (topology : Topology) (opening : State) → kept topology opening [] ≡ start_at opening ∷ []
unfolding kept
kept_none topology opening = refl

-- what is kept after one more entry of the log
pub kept_next : (topology : Topology) (opening : State) (log : List Entry) (at : ℕ) (none entry : Entry) → at < length log →
    entry ≡ get_or log at none → (held next : List Point) → held ≡ kept topology opening (first_entries at log) →
    next ≡ after_entry topology entry held → next ≡ kept topology opening (first_entries (at + 1) log)
kept_next topology opening log at none entry less is held next helds nexts =
    nexts ∙ ap (λ k. after_entry topology entry k) helds
    ∙ ap (λ e. after_entry topology e (kept topology opening (first_entries at log))) is
    ∙ sym (kept_after topology opening log at none less)

pub next_suc : (topology : Topology) (opening : State) (log : List Entry) (at : ℕ) →
    kept topology opening (first_entries (at + 1) log) ≡ kept topology opening (first_entries (suc at) log)
next_suc topology opening log at = ap (λ n. kept topology opening (first_entries n log)) (let e : at + 1 ≡ suc at = omega arith in e)
