-- A case has one lawful journal of each length.
use Rattle.std.proofs.Common.{◌≡◌, ◌∙◌, ◌⊎◌, inl, inr, ℕ, zero, suc, Bool, true, false, Option, Some, None, List, [], ◌∷◌, ◌++◌, length, drop, slice_get, refl, sym, ap, subst, arith}
use Rattle.std.proofs.lemmas.List.{drop_all}
use Rattle.hmc_schedule.specs.declared.step.Step.{Step}
use Rattle.hmc_entries.specs.declared.entry.Entry.{Entry}
use Rattle.hmc_journal.specs.Setup.{Setup}
use Rattle.hmc_journal.specs.Next.{next}
use Rattle.hmc_journal.specs.Lawful.{Follows, has_passed, Lawful, IsWhole, unless_passed, journal_behind, journal_of}

one_entry : (setup : Setup) (past : List Entry) (step : Option Step) (entry other : Entry) → Follows setup past step entry → Follows setup past step other → entry ≡ other
one_entry setup past (Some step) entry other e o = e ∙ sym o
one_entry setup past None entry other e o = absurd e

pub same_journal : (setup : Setup) (past others : List Entry) → Lawful setup past → Lawful setup others → length past ≡ length others → past ≡ others
unfolding Lawful
same_journal setup [] [] l m e = refl
same_journal setup [] (o ∷ others) l m e = cc
same_journal setup (p ∷ past) [] l m e = cc
same_journal setup (p ∷ past) (o ∷ others) l m e =
    let same : past ≡ others = same_journal setup past others l.2 m.2 (cc) in
    let first = subst (λ (q : List Entry). Follows setup q (slice_get setup.schedule (length q)) p) same l.1 in
    let entry : p ≡ o = one_entry setup others (slice_get setup.schedule (length others)) p o first m.1 in cc

-- the rest of a list begins with what stands there
rest-from : {X : Type 0} (xs : List X) (i : ℕ) (x : X) → slice_get xs i ≡ Some x → drop i xs ≡ x ∷ drop (suc i) xs
rest-from [] i x e = cc
rest-from (y ∷ ys) zero x e = cc
rest-from (y ∷ ys) (suc i) x e = rest-from ys i x e

-- a journal that hasn't passed goes on, and one that has ends
pub goes_on : (setup : Setup) (past : List Entry) (step : Step) (steps : List Step) → has_passed past ≡ false → journal_behind setup past (step ∷ steps) ≡ journal_behind setup (next setup past step ∷ past) steps
unfolding journal_behind
goes_on setup past step steps on = ap (λ (b : Bool). unless_passed b past (λ _. journal_behind setup (next setup past step ∷ past) steps)) on

pub ends_there : (setup : Setup) (past : List Entry) (steps : List Step) → has_passed past ≡ true → journal_behind setup past steps ≡ past
unfolding journal_behind
ends_there setup past [] passed = refl
ends_there setup past (step ∷ steps) passed = ap (λ (b : Bool). unless_passed b past (λ _. journal_behind setup (next setup past step ∷ past) steps)) passed

-- the entry that follows is that of the step there
same_entry : (setup : Setup) (past : List Entry) (entry : Entry) (i : ℕ) (found : Option Step) → has_passed past ≡ false → slice_get setup.schedule i ≡ found → Follows setup past found entry
    → journal_behind setup past (drop i setup.schedule) ≡ journal_behind setup (entry ∷ past) (drop (suc i) setup.schedule)
same_entry setup past entry i (Some step) on at follows =
    ap (journal_behind setup past) (rest-from setup.schedule i step at) ∙ goes_on setup past step (drop (suc i) setup.schedule) on
    ∙ ap (λ (e : Entry). journal_behind setup (e ∷ past) (drop (suc i) setup.schedule)) (sym follows)
same_entry setup past entry i None on at follows = absurd follows

-- what is after a lawful journal is what is after the empty one
pub behind : (setup : Setup) (past : List Entry) → Lawful setup past → journal_behind setup [] setup.schedule ≡ journal_behind setup past (drop (length past) setup.schedule)
unfolding Lawful
behind setup [] lawful = refl
behind setup (entry ∷ past) lawful =
    behind setup past lawful.2 ∙ same_entry setup past entry (length past) (slice_get setup.schedule (length past)) lawful.0 refl lawful.1

nothing_more : (setup : Setup) (journal : List Entry) → length journal ≡ length setup.schedule → journal_behind setup journal (drop (length journal) setup.schedule) ≡ journal
unfolding journal_behind
nothing_more setup journal whole = ap (journal_behind setup journal) (drop_all (length journal) setup.schedule (omega arith))

ends : (setup : Setup) (journal : List Entry) → (length journal ≡ length setup.schedule) ⊎ (has_passed journal ≡ true) → journal_behind setup journal (drop (length journal) setup.schedule) ≡ journal
ends setup journal (inl whole) = nothing_more setup journal whole
ends setup journal (inr passed) = ends_there setup journal (drop (length journal) setup.schedule) passed

pub journal_of-whole : (setup : Setup) (journal : List Entry) → IsWhole setup journal → journal ≡ journal_of setup
unfolding journal_of
journal_of-whole setup journal whole = sym (behind setup journal whole.lawful ∙ ends setup journal whole.whole)

-- a lawful journal was lawful at every moment
pub earlier_lawful : (setup : Setup) (later past : List Entry) → Lawful setup (later ++ past) → Lawful setup past
unfolding Lawful
earlier_lawful setup [] past lawful = lawful
earlier_lawful setup (entry ∷ later) past lawful = earlier_lawful setup later past lawful.2
