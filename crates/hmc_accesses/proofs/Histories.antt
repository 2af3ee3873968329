-- Two orders of the same things: the order in which they were asked, and that in which they were
-- done.
use Rattle.std.specs.Prelude.{Bool, List, [], ◌∷◌, ◌++◌, filter}

-- a thing, and those of its unit before it
pub record After (X : Type 0) : Type 0 where
  pub item : X
  pub earlier : List X

-- each thing of a list with those of its unit before it; some came before the list
abbrev pub after_units : {X U : Type 0} (in_unit : U → X → Bool) (unit : X → U) → (before : List X)
    → List X → List (After X)
after_units in_unit unit before [] = []
after_units in_unit unit before (x ∷ xs) =
    record { item = x; earlier = filter (in_unit (unit x)) before }
    ∷ after_units in_unit unit (before ++ x ∷ []) xs
