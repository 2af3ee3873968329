-- A block of 16 bytes and its halves.
use Rattle.std.specs.Prelude.{Bool, if◌then◌else◌, ℕ, List, ◌++◌, take, drop}

-- the half that an operation acts on: the high one is the last eight bytes
abbrev pub block_half : Bool → List ℕ → List ℕ
block_half high block = (if high then drop 8 block else take 8 block)

-- the block with that half replaced
abbrev pub with_half : Bool → List ℕ → List ℕ → List ℕ
with_half high block half = (if high then take 8 block ++ half else half ++ drop 8 block)
