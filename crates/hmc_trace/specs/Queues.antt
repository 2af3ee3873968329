-- Queues of answers, one for each tag.
use Rattle.std.specs.Prelude.{◌≡◌, ℕ, ◌==◌, List, [], ◌∷◌, ◌++◌, drop, Option, Some, None, slice_index_or, if◌then◌else◌}
use Rattle.std.specs.List.{slice_get}

-- the answers under a tag
abbrev pub queue_of : {X : Type 0} → List (List X) → (tag : ℕ) → List X
queue_of queues tag = slice_index_or queues tag []

-- an answer joined the queue of its tag
abbrev pub IsAdded : {X : Type 0} → (old new : List (List X)) → (tag : ℕ) → X → Type 0
IsAdded old new tag answer = (t : ℕ) →
    queue_of new t ≡ (if tag == t then queue_of old t ++ answer ∷ [] else queue_of old t)

-- the first answer under a tag was taken out, if there was one
abbrev pub IsTakenOut : {X : Type 0} → (old new : List (List X)) → (tag : ℕ) → Type 0
IsTakenOut old new tag = (t : ℕ) →
    queue_of new t ≡ (if tag == t then drop 1 (queue_of old t) else queue_of old t)

-- the first answer under the tag of a request, if it has a tag
abbrev pub first_under : {X : Type 0} → List (List X) → Option ℕ → Option X
first_under queues None = None
first_under queues (Some tag) = slice_get (queue_of queues tag) 0

-- it was taken out
abbrev pub IsMatched : {X : Type 0} → (old new : List (List X)) → Option ℕ → Type 0
IsMatched old new None = (t : ℕ) → queue_of new t ≡ queue_of old t
IsMatched old new (Some tag) = IsTakenOut old new tag
