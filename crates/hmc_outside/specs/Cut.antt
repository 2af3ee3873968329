-- Bytes cut into pieces.
use Rattle.std.specs.Prelude.{◌≡◌, ◌≤◌, ◌+◌, ◌-◌, ℕ, List, [], ◌∷◌, length, take, drop}
use Rattle.std.specs.List.{concat}

-- the pieces of these lengths
abbrev pub cut : List ℕ → (lengths : List ℕ) → List (List ℕ)
cut bytes [] = []
cut bytes (n ∷ lengths) = take n bytes ∷ cut (drop n bytes) lengths

-- all lengths together
abbrev pub total : List ℕ → ℕ
total [] = 0
total (n ∷ lengths) = n + total lengths

-- pieces, and the room for their bytes
pub record PiecesFields : Type 0 where
  pub pieces : List (List ℕ)
  pub room : ℕ

-- the room that is left
abbrev pub space_of : PiecesFields → ℕ
space_of p = p.room - length (concat p.pieces)

-- Each piece has a byte at least, so there are no more lengths than bytes.
-- Room for the bytes is then room for the lengths.
pub record ArePieces (bytes lengths : List ℕ) (room for_bytes for_lengths : ℕ) : Type 0 where
  pub whole : total lengths ≡ length bytes
  pub few : length lengths ≤ length bytes
  pub within : length bytes ≤ room
  pub bytes_room : room ≤ for_bytes
  pub lengths_room : room ≤ for_lengths
