-- A choice by rows: the first row that gives something is taken.
use Rattle.std.specs.Prelude.{Bool, true, false, List, [], ◌∷◌, Option, Some, None, unwrap_or}

-- what a row gives where its test holds
abbrev pub given_if : {X : Type 0} → Bool → X → Option X
given_if true x = Some x
given_if false x = None

-- what the first row gives that gives something, else the last one's answer
abbrev pub first_row : {V X : Type 0} → List (V → Option X) → (V → X) → V → X
first_row [] last v = last v
first_row (row ∷ rest) last v = unwrap_or (row v) (first_row rest last v)
