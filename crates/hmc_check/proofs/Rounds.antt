-- The steps of a case by rounds: a report is followed by those that are left.
use Rattle.std.proofs.Common.{◌≡◌, ◌≤◌, ◌<◌, ◌+◌, ◌∙◌, ℕ, Bool, true, false, List, [], ◌∷◌, get_or, length, drop, Result, Ok, refl, subst, add-one}
use Rattle.hmc_schedule.specs.declared.step.Step.{Step}
use Rattle.hmc_schedule.specs.RoundsLeft.{LeftFields, steps_left}
use Rattle.hmc_entries.specs.declared.entry.Entry.{Entry}
use Rattle.hmc_journal.specs.Setup.{Setup}
use Rattle.hmc_journal.proofs.Left.{same_left, due_here, over_here}
use Rattle.hmc_check.specs.Past.{PastFields}
use Rattle.hmc_check.specs.Following.{IsBefore, IsAfter, HasLines, IsFollowing, FollowedAll, FollowsRound}
use Rattle.hmc_check.proofs.Following.{one_more, no_lines, followed_all, followed_passed}

-- ---- the steps that are left

pub before_same : (p : PastFields) (setup : Setup) (past : List Entry) (left other : List Step) → IsBefore p setup past left → left ≡ other → IsBefore p setup past other
before_same p setup past left other is same = record { stands = is.stands; leaves = same_left setup past left other is.leaves same }

-- the step at hand comes next; these are left after it
pub before_due : (p : PastFields) (setup : Setup) (past : List Entry) (rounds new : LeftFields) (round : List Step) (k : ℕ) (d due : Step) → k < length round → ((more : List Step) → steps_left rounds (get_or round k d ∷ more) ≡ due ∷ steps_left new more) → IsBefore p setup past (steps_left rounds (drop k round)) → IsBefore p setup past (due ∷ steps_left new (drop (k + 1) round))
before_due p setup past rounds new round k d due small is here = record { stands = here.stands; leaves = due_here setup past rounds new round k d due small is here.leaves }

-- none of the round is left
pub before_over : (p : PastFields) (setup : Setup) (past : List Entry) (rounds : LeftFields) (round : List Step) (k : ℕ) → length round ≤ k → IsBefore p setup past (steps_left rounds (drop k round)) → IsBefore p setup past (steps_left rounds [])
before_over p setup past rounds round k le here = record { stands = here.stands; leaves = over_here setup past rounds round k le here.leaves }

-- ---- the same where a report is followed

pub following_same : (p : PastFields) (setup : Setup) (past : List Entry) (left other : List Step) (report rest text : List ℕ) (entries : ℕ) → IsFollowing p setup past left report rest text entries → left ≡ other → IsFollowing p setup past other report rest text entries
following_same p setup past left other report rest text entries is same = record { before = before_same p setup past left other is.before same; lines = is.lines; entries_are = is.entries_are }

pub following_due : (p : PastFields) (setup : Setup) (past : List Entry) (rounds new : LeftFields) (round : List Step) (k : ℕ) (d due : Step) (report rest text : List ℕ) (entries : ℕ) → k < length round → ((more : List Step) → steps_left rounds (get_or round k d ∷ more) ≡ due ∷ steps_left new more) → IsFollowing p setup past (steps_left rounds (drop k round)) report rest text entries → IsFollowing p setup past (due ∷ steps_left new (drop (k + 1) round)) report rest text entries
following_due p setup past rounds new round k d due report rest text entries small is here = record { before = before_due p setup past rounds new round k d due small is here.before; lines = here.lines; entries_are = here.entries_are }

pub following_over : (p : PastFields) (setup : Setup) (past : List Entry) (rounds : LeftFields) (round : List Step) (k : ℕ) (report rest text : List ℕ) (entries : ℕ) → length round ≤ k → IsFollowing p setup past (steps_left rounds (drop k round)) report rest text entries → IsFollowing p setup past (steps_left rounds []) report rest text entries
following_over p setup past rounds round k report rest text entries le here = record { before = before_over p setup past rounds round k le here.before; lines = here.lines; entries_are = here.entries_are }

-- nothing was taken
pub follows_first : (p : PastFields) (setup : Setup) (left : List Step) (report text : List ℕ) → text ≡ [] → IsBefore p setup [] left → IsFollowing p setup [] left report report text 0
follows_first p setup left report text none is = record { before = is; lines = no_lines report text none; entries_are = refl }

-- ---- by what came of it

-- one more step was taken, and its line is gathered
pub followed_step : (p new : PastFields) (setup : Setup) (past : List Entry) (step : Step) (left : List Step) (passed : Bool) (report rest text : List ℕ) (entries : ℕ) → IsBefore p setup past (step ∷ left) → IsAfter new setup past passed → HasLines (new.last ∷ past) report rest text → entries ≡ length past + 1 → FollowsRound (Ok passed) new setup left report rest text entries
followed_step p new setup past step left true report rest text entries is after lines count = followed_passed new setup past report rest text entries after lines count
followed_step p new setup past step left false report rest text entries is after lines count = (
  new.last ∷ past,
  record { before = one_more p new setup past step left false is after refl; lines = lines; entries_are = count ∙ add-one (length past) },
)

-- the same by the result that is told
pub round_told : (p : PastFields) (setup : Setup) (left : List Step) (report rest text : List ℕ) (entries : ℕ) (result told : Result Bool ℕ) → result ≡ told → FollowsRound result p setup left report rest text entries → FollowsRound told p setup left report rest text entries
round_told p setup left report rest text entries result told is took = subst (λ (r : Result Bool ℕ). FollowsRound r p setup left report rest text entries) is took

-- all steps were taken
pub followed_by : (p : PastFields) (setup : Setup) (passed : Bool) (report rest text : List ℕ) (entries : ℕ) → FollowsRound (Ok passed) p setup [] report rest text entries → FollowedAll p setup report rest text passed entries
followed_by p setup true report rest text entries all = all
followed_by p setup false report rest text entries all = followed_all p setup all.0 report rest text entries all.1
