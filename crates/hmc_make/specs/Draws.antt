-- Draws: a fixed sequence of numbers that look random. A state below 2^64 changes with each draw.
use Rattle.std.specs.Prelude.{ℕ, zero, suc, ◌+◌, ◌*◌, ◌/◌, ◌%◌, ◌^◌, List, [], ◌++◌}
use Rattle.std.specs.Int.{w32, to_le_bytes}

-- the state after a draw
unfoldable pub next : (state : ℕ) → ℕ
next state = (state * 6364136223846793005 + 1442695040888963407) % 2 ^ 64

-- what a draw gives: the upper half of the state after it
unfoldable pub drawn : (state : ℕ) → ℕ
drawn state = next state / 2 ^ 32

-- the state after so many draws
unfoldable pub after : (draws state : ℕ) → ℕ
after zero state = state
after (suc draws) state = after draws (next state)

-- the bytes of so many draws, four of each, little-endian
unfoldable pub drawn_bytes : (draws state : ℕ) → List ℕ
drawn_bytes zero state = []
drawn_bytes (suc draws) state = to_le_bytes w32 (drawn state) ++ drawn_bytes draws (next state)
