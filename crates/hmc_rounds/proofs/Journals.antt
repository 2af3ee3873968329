-- Journals by steps: each is lawful where a later one is, and a journal has so many rounds.
use Rattle.std.proofs.Common.{◌≡◌, ◌≤◌, ◌+◌, ℕ, zero, suc, Bool, true, false, Some, List, [], ◌∷◌, ◌++◌, length, drop, take, slice_get, refl, ap, arith}
use Rattle.hmc_schedule.specs.declared.step.Step.{Step}
use Rattle.hmc_schedule.specs.declared.step.Step.TheVariants as steps
use Rattle.hmc_host.specs.declared.given.Given.{Given}
use Rattle.hmc_host.specs.declared.given.Given.TheVariants as givens
use Rattle.hmc_entries.specs.declared.entry.Entry.{Entry}
use Rattle.hmc_entries.specs.declared.entry.Entry.TheVariants.{Gave}
use Rattle.hmc_journal.specs.Answers.{gave_entry}
use Rattle.hmc_journal.specs.Hosts.{given_count, count_if}
use Rattle.hmc_journal.specs.Lawful.{Lawful, has_passed}
use Rattle.hmc_journal.specs.Next.{next, choice}
use Rattle.hmc_journal.specs.Setup.{Setup}
use Rattle.hmc_rounds.specs.Counted.{is_idle}
use Rattle.hmc_rounds.specs.Rounds.{journal_after}
use Rattle.hmc_rounds.proofs.Tried.{Ready, next_ready}

pub journal_after-append : (setup : Setup) (past : List Entry) (xs ys : List Step) →
    journal_after setup past (xs ++ ys) ≡ journal_after setup (journal_after setup past xs) ys
unfolding journal_after
journal_after-append setup past [] ys = refl
journal_after-append setup past (x ∷ xs) ys =
    journal_after-append setup (next setup past x ∷ past) xs ys

-- lawful, and no landing passed
pub record IsFine (setup : Setup) (past : List Entry) : Type 0 where
  pub lawful : Lawful setup past
  pub unpassed : has_passed past ≡ false

fine_before : (setup : Setup) (entry : Entry) (past : List Entry) → IsFine setup (entry ∷ past) →
    IsFine setup past
unfolding Lawful
fine_before setup entry past fine = record { lawful = fine.lawful.2; unpassed = fine.lawful.0 }

pub fine_earlier : (setup : Setup) (past : List Entry) (steps : List Step) →
    IsFine setup (journal_after setup past steps) → IsFine setup past
unfolding journal_after
fine_earlier setup past [] fine = fine
fine_earlier setup past (step ∷ steps) fine =
    fine_before setup (next setup past step) past
    (fine_earlier setup (next setup past step ∷ past) steps fine)

-- the schedule goes on after some steps
pub ready_after : (setup : Setup) (past : List Entry) (steps rest : List Step) →
    Ready setup past steps rest → IsFine setup (journal_after setup past steps) →
    Ready setup (journal_after setup past steps) [] rest
unfolding journal_after
ready_after setup past [] rest r fine = r
ready_after setup past (step ∷ steps) rest r fine =
    ready_after setup (next setup past step ∷ past) steps rest
    (next_ready setup past step steps rest r
    (fine_earlier setup (next setup past step ∷ past) steps fine).unpassed) fine

-- ---- requests given

pub given_more : (host : ℕ) (entry : Entry) (past : List Entry) →
    given_count host past ≤ given_count host (entry ∷ past)
unfolding given_count
given_more host (Gave h tag poisoned request) past = by_here (_)
  where
    by_here : (b : Bool) → given_count host past ≤ count_if b (given_count host past)
    by_here true = omega arith
    by_here false = omega arith
given_more host _ past = omega arith

pub given_later : (setup : Setup) (host : ℕ) (past : List Entry) (steps : List Step) →
    given_count host past ≤ given_count host (journal_after setup past steps)
unfolding journal_after
given_later setup host past [] = omega arith
given_later setup host past (step ∷ steps) =
    omega (
      arith,
      given_more host (next setup past step) past,
      given_later setup host (next setup past step ∷ past) steps,
    )

gave_idle : (past : List Entry) (given : Given) →
    given_count 0 (gave_entry 0 given ∷ past) ≡ given_count 0 past →
    is_idle (gave_entry 0 given) ≡ true
unfolding given_count
gave_idle past givens.Ended same = refl
gave_idle past givens.Fence same = refl
gave_idle past givens.Tags same = refl
gave_idle past givens.Full same = refl
gave_idle past (givens.Gave packet request tag poisoned) same =
    absurd (let more : given_count 0 past + 1 ≡ given_count 0 past = same in omega (arith, more))

pub give_idle : (setup : Setup) (past : List Entry) →
    given_count 0 (next setup past (steps.Give 0) ∷ past) ≡ given_count 0 past →
    is_idle (next setup past (steps.Give 0)) ≡ true
unfolding next choice
give_idle setup past same = gave_idle past _ same

-- ---- a journal is that of its steps

pub get_drop : {X : Type 0} (a m k : ℕ) (xs : List X) → k ≡ a + m →
    slice_get (drop a xs) m ≡ slice_get xs k
get_drop zero m k xs is = ap (slice_get xs) (let e : m ≡ k = omega (arith, is) in e)
get_drop (suc a) m zero xs is = absurd (omega (arith, is))
get_drop (suc a) m (suc k) [] is = refl
get_drop (suc a) m (suc k) (x ∷ xs) is = get_drop a m k xs (omega (arith, is))

pub take_snoc : {X : Type 0} (xs : List X) (m : ℕ) (x : X) → slice_get xs m ≡ Some x →
    take (suc m) xs ≡ take m xs ++ x ∷ []
take_snoc [] m x is = absurd (cc)
take_snoc (y ∷ xs) zero x is = (let e : y ≡ x = cc in ap (λ z. z ∷ []) e)
take_snoc (y ∷ xs) (suc m) x is = ap (λ zs. y ∷ zs) (take_snoc xs m x is)

pub take_front : {X : Type 0} (xs ys : List X) (n : ℕ) → n ≡ length xs → take n (xs ++ ys) ≡ xs
take_front [] ys zero is = refl
take_front [] ys (suc n) is = absurd (omega (arith, is))
take_front (x ∷ xs) ys zero is = absurd (omega (arith, is))
take_front (x ∷ xs) ys (suc n) is = ap (λ zs. x ∷ zs) (take_front xs ys n (omega (arith, is)))
