-- The simplest search: the states that it keeps after a log. Nothing is executed before an answer
-- asks for it.
use Rattle.std.specs.Prelude.{◌≡◌, ℕ, zero, suc, Bool, true, false, not, ◌==◌, ◌&&◌, List, [], ◌∷◌, ◌++◌, length, Option, Some, None, ◌⊎◌}
use Rattle.std.specs.Str.{bytes_eq}
use Rattle.hmc_codes.specs.declared.answer.Answer.{Answer}
use Rattle.hmc_codes.specs.declared.answer.Answer.TheVariants.{Silent, Done, Read, Register, Stored, Refused}
use Rattle.hmc_serial.specs.Machine.{State, retire}
use Rattle.hmc_entries.specs.declared.entry.Entry.{Entry}
use Rattle.hmc_entries.specs.declared.entry.Entry.TheVariants.{Gave, Took, Retired}
use Rattle.hmc_journal.specs.Setup.{Topology, unit_in}
use Rattle.hmc_search.specs.Point.{Waiting, Ready, Point, start_at, in_lane, under_tag, ready_under, given, executed}
use Rattle.hmc_search.specs.Standing.{front_if}

-- an element of a list
abbrev pub In : {X : Type 0} → X → List X → Type 0
In x [] = ⊥
In x (y ∷ ys) = (x ≡ y) ⊎ In x ys

-- the lists that elements give, one after another
unfoldable pub gathered : {X Y : Type 0} → (X → List Y) → List X → List Y
gathered f [] = []
gathered f (x ∷ xs) = f x ++ gathered f xs

abbrev pub same_flag : Bool → Bool → Bool
same_flag true flag = flag
same_flag false flag = not flag

-- the same answer
abbrev pub same_answer : Answer → Answer → Bool
same_answer Silent Silent = true
same_answer (Done a) (Done b) = same_flag a b
same_answer (Read a xs) (Read b ys) = same_flag a b && bytes_eq xs ys
same_answer (Register n) (Register m) = n == m
same_answer Stored Stored = true
same_answer (Refused n) (Refused m) = n == m
same_answer _ _ = false

-- another request has this request's tag, where it has one
abbrev pub shares_tag : (host : ℕ) → Option ℕ → Waiting → Bool
shares_tag host None other = false
shares_tag host (Some tag) other = under_tag host tag other

-- none of these is of a request's lane or of its tag
unfoldable pub is_free : Topology → Waiting → (before : List Waiting) → Bool
is_free topology next [] = true
is_free topology next (other ∷ before) =
    not (in_lane topology next.host (unit_in topology next.request) other)
    && (not (shares_tag next.host next.tag other) && is_free topology next before)

-- a request, and those that are left
pub record Choice : Type 0 where
  pub next : Waiting
  pub rest : List Waiting

-- the requests that can be executed next, of those after these
unfoldable pub choices : Topology → (before after : List Waiting) → List Choice
choices topology before [] = []
choices topology before (next ∷ after) =
    front_if (is_free topology next before) (record { next = next; rest = before ++ after })
    (choices topology (before ++ next ∷ []) after)

-- the first answer for a host and a tag, and those that are left
pub record Hand : Type 0 where
  pub answer : Answer
  pub rest : List Ready

abbrev pub after_one : Ready → Option Hand → Option Hand
after_one ready None = None
after_one ready (Some hand) = Some (record { answer = hand.answer; rest = ready ∷ hand.rest })

abbrev pub hand_if : Bool → (now later : Option Hand) → Option Hand
hand_if true now later = now
hand_if false now later = later

unfoldable pub hand : (host tag : ℕ) → List Ready → Option Hand
hand host tag [] = None
hand host tag (ready ∷ more) =
    hand_if (ready_under host tag ready) (Some (record { answer = ready.answer; rest = more }))
    (after_one ready (hand host tag more))

-- an answer that is at hand is taken if it is this one; where none is, others go on
abbrev pub by_hand : Answer → Option Hand → Point → List Point → List Point
by_hand answer None point others = others
by_hand answer (Some hand) point others =
    front_if (same_answer hand.answer answer) (record point { ready = hand.rest }) []

-- the states in which an answer was taken, after at most so many executions
unfoldable pub takes : Topology → (host tag : ℕ) → Answer → (most : ℕ) → Point → List Point
takes topology host tag answer zero point = by_hand answer (hand host tag point.ready) point []
takes topology host tag answer (suc most) point = by_hand answer (hand host tag point.ready) point
    (gathered
    (λ choice. takes topology host tag answer most (executed point choice.next choice.rest))
    (choices topology [] point.waiting))

-- the states in which a unit was retired, after at most so many executions
unfoldable pub retires : Topology → (slot most : ℕ) → Point → List Point
retires topology slot zero point = record point { machine = retire point.machine slot } ∷ []
retires topology slot (suc most) point = record point { machine = retire point.machine slot }
    ∷ gathered (λ choice. retires topology slot most (executed point choice.next choice.rest))
    (choices topology [] point.waiting)

abbrev pub given_each : Waiting → List Point → List Point
given_each waiting [] = []
given_each waiting (point ∷ points) = given point waiting ∷ given_each waiting points

-- the states kept after a log, the newest entry first
unfoldable pub kept : Topology → State → List Entry → List Point
kept topology opening [] = start_at opening ∷ []
kept topology opening (Gave host tag false request ∷ log) =
    given_each (record { host = host; tag = tag; request = request }) (kept topology opening log)
kept topology opening (Gave host tag true request ∷ log) = kept topology opening log
kept topology opening (Took host tag answer ∷ log) =
    gathered (λ point. takes topology host tag answer (length point.waiting) point)
    (kept topology opening log)
kept topology opening (Retired slot ∷ log) =
    gathered (λ point. retires topology slot (length point.waiting) point)
    (kept topology opening log)
kept topology opening (_ ∷ log) = []
