-- What the checker of explanations answers.
use Rattle.std.proofs.Common.{◌≡◌, ◌∙◌, ◌<◌, ◌≤◌, ◌+◌, ℕ, suc, Bool, true, false, Option, Some, None, List, [], ◌∷◌, length, get_or, reverse, take, refl, sym, ap, subst, arith}
use Rattle.std.proofs.lemmas.List.{reverse-append, take_all, take_more}
use Rattle.hmc_codes.specs.Shape.{ShapeFields}
use Rattle.hmc_serial.specs.Machine.{State}
use Rattle.hmc_entries.specs.declared.entry.Entry.{Entry}
use Rattle.hmc_journal.specs.Delivered.{AllServed}
use Rattle.hmc_journal.specs.Serial.{state_after}
use Rattle.hmc_seen.specs.Seen.{seen_of}
use Rattle.hmc_search.specs.Alone.{alone}
use Rattle.hmc_search.specs.Point.{Point, start_at}
use Rattle.hmc_judge.specs.Explaining.{IsExplanation, IsFirstWrong, first_entries}
use Rattle.hmc_judge.specs.Walk.{some_if, step_from, walk_step, walked}
use Rattle.hmc_judge.proofs.Walking.{explained_walked, none_waits, walked_walks}

pub first_more : (entries : List Entry) (at : ℕ) (none : Entry) → at < length entries →
    first_entries (at + 1) entries ≡ get_or entries at none ∷ first_entries at entries
first_more entries at none less =
    ap reverse (take_more entries at none less)
    ∙ reverse-append (take at entries) (get_or entries at none ∷ [])

module _ (shapes : List ShapeFields) (opening : State) where
  pub nothing_walked : walked (alone shapes) opening [] ≡ Some (start_at opening)
  unfolding walked
  nothing_walked = refl

  -- one more entry
  pub walked_more : (entries : List Entry) (at : ℕ) (entry : Entry) (point : Point)
      (next : Option Point) → at < length entries → entry ≡ get_or entries at entry →
      walked (alone shapes) opening (first_entries at entries) ≡ Some point →
      walk_step (alone shapes) point entry ≡ next →
      walked (alone shapes) opening (first_entries (at + 1) entries) ≡ next
  unfolding walked
  walked_more entries at entry point next less is before step =
      ap (λ l. walked (alone shapes) opening l) (first_more entries at entry less)
      ∙ ap (λ o. step_from (alone shapes) (get_or entries at entry) o) before
      ∙ ap (λ e. walk_step (alone shapes) point e) (sym is) ∙ step

  pub explanation : (journal : List Entry) (point : Point) →
      walked (alone shapes) opening journal ≡ Some point → IsExplanation shapes opening journal
  explanation journal point is =
      let w = walked_walks (alone shapes) opening journal point is in record {
        fit = w.fit;
        explains = record { seen = refl; serial = w.serial; moments = w.moments };
      }

  pub machine_left : (journal : List Entry) (point : Point) →
      walked (alone shapes) opening journal ≡ Some point →
      point.machine ≡ state_after opening journal
  machine_left journal point is = (walked_walks (alone shapes) opening journal point is).stands.machine

  pub all_served : (journal : List Entry) (point : Point) →
      walked (alone shapes) opening journal ≡ Some point → length point.waiting ≡ 0 →
      length point.ready ≡ 0 → AllServed (alone shapes) journal
  all_served journal point is few none =
      none_waits (alone shapes) opening journal point
      (walked_walks (alone shapes) opening journal point is).stands
      (empty point.waiting few) (empty point.ready none)
    where
      empty : {X : Type 0} (xs : List X) → length xs ≡ 0 → xs ≡ []
      empty [] e = refl
      empty (x ∷ xs) e = absurd (omega (arith, e))

  pub no_explanation : (journal : List Entry) → walked (alone shapes) opening journal ≡ None →
      IsExplanation shapes opening journal → ⊥
  no_explanation journal is x =
      let w = explained_walked (alone shapes) opening journal x.fit x.explains.serial
      x.explains.moments in
      let there = w.1 in absurd (cc)

  pub first_wrong : (entries : List Entry) (at : ℕ) (point : Point) → at < length entries →
      walked (alone shapes) opening (first_entries at entries) ≡ Some point →
      walked (alone shapes) opening (first_entries (at + 1) entries) ≡ None →
      IsFirstWrong shapes opening entries at
  first_wrong entries at point less before wrong = record {
    there = less;
    before = explanation (first_entries at entries) point before;
    wrong = no_explanation (first_entries (suc at) entries)
        (subst (λ n. walked (alone shapes) opening (first_entries n entries) ≡ None)
        (let e : at + 1 ≡ suc at = omega arith in e) wrong);
  }

-- all entries
pub all_entries : (entries : List Entry) (at : ℕ) → length entries ≤ at →
    first_entries at entries ≡ reverse entries
all_entries entries at most = ap reverse (take_all at entries most)
