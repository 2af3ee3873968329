-- What changes where a test holds.
use Rattle.std.specs.Prelude.{Bool, true, false, List, ◌++◌}

-- the first of two where a test holds, and else the second
abbrev pub choose : {X : Type 0} → Bool → (changed same : X) → X
choose true changed same = changed
choose false changed same = same

-- the list with more at its end where a test holds
abbrev pub append_if : {X : Type 0} → Bool → (more list : List X) → List X
append_if true more list = list ++ more
append_if false more list = list
