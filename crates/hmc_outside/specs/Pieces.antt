-- The pieces that a sink shows.
use Rattle.std.specs.Prelude.{◌≡◌, ℕ, List, [], ◌∷◌, ◌++◌, Option}
use Rattle.std.specs.Io.KnownBytes.{Appends}
use Rattle.std.specs.Option.{option_map}
use Rattle.hmc_outside.specs.Views.{SinkView}

-- the pieces of one write: none where it was of no bytes
abbrev pub pieces_of : List ℕ → List (List ℕ)
pieces_of [] = []
pieces_of (byte ∷ bytes) = (byte ∷ bytes) ∷ []

-- the pieces shown so far, and then these
abbrev pub with_pieces : Option (List (List ℕ)) → List (List ℕ) → Option (List (List ℕ))
with_pieces shown more = option_map (λ pieces. pieces ++ more) shown

-- a prefix of these bytes was written as a piece of its own; it may be none of them or all
pub record WritesPrefix (old new : SinkView) (bytes : List ℕ) : Type 0 where
  pub prefix : List ℕ
  pub rest : List ℕ
  pub parts : bytes ≡ prefix ++ rest
  pub pieces : new.pieces ≡ with_pieces old.pieces (pieces_of prefix)
  pub appended : Appends old.bytes new.bytes prefix
