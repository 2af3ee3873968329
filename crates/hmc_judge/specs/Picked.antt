-- The first of a list that passes a test.
use Rattle.std.specs.Prelude.{Bool, true, false, Option, Some, None, List, [], ◌∷◌}

-- an element of a list, and those that are left
pub record Picked (X : Type 0) : Type 0 where
  pub first : X
  pub rest : List X

abbrev pub after_one : {X : Type 0} → X → Option (Picked X) → Option (Picked X)
after_one x None = None
after_one x (Some picked) = Some (record { first = picked.first; rest = x ∷ picked.rest })

abbrev pub this_or : {X : Type 0} → Bool → (now later : Option (Picked X)) → Option (Picked X)
this_or true now later = now
this_or false now later = later

-- the first that passes a test, and those that are left
unfoldable pub first_out : {X : Type 0} → (X → Bool) → List X → Option (Picked X)
first_out test [] = None
first_out test (x ∷ xs) =
    this_or (test x) (Some (record { first = x; rest = xs })) (after_one x (first_out test xs))
