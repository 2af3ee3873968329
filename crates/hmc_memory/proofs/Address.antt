-- Where addresses lie, over plain numbers: v vaults of b banks of r rows of a block of m bytes each.
use Rattle.std.proofs.Common.{◌≡◌, ◌<◌, ◌∙◌, ◌+◌, ◌*◌, ◌/◌, ◌%◌, ℕ, sym, ap, arith}
use Rattle.std.proofs.lemmas.Nat.{div-add-mod', div_below, mod_below, mul-add-lt, same_from_place}

-- two numbers with one quotient and one remainder are one
pub same_parts : (n m k : ℕ) → n / k ≡ m / k → n % k ≡ m % k → n ≡ m
same_parts n m k quotient remainder =
    sym (div-add-mod' n k) ∙ ap (λ q. q * k + n % k) quotient ∙ ap (λ r. m / k * k + r) remainder ∙ div-add-mod' m k

-- the place of a bank among the banks
pub slot_below : (m a v b : ℕ) → 0 < v → 0 < b → a / m % v * b + a / m / v % b < v * b
slot_below m a v b some_vaults some_banks =
    let below = mul-add-lt (a / m % v) b (a / m / v % b) v (mod_below (a / m) v some_vaults) (mod_below (a / m / v) b some_banks) in
    omega (arith, below)

-- the row of an address within the capacity
pub row_below : (m a v b r : ℕ) → 0 < m → 0 < v → 0 < b → a < m * v * b * r → a / m / v / b < r
row_below m a v b r some_bytes some_vaults some_banks inside =
    let whole : a < r * b * v * m = grind arith in
    div_below (a / m / v) b r some_banks (div_below (a / m) v (r * b) some_vaults (div_below a m (r * b * v) some_bytes whole))

-- addresses in one bank and one row are in one block
pub same_block : (m a c v b : ℕ) → 0 < v → 0 < b → a / m % v * b + a / m / v % b ≡ c / m % v * b + c / m / v % b → a / m / v / b ≡ c / m / v / b → a / m ≡ c / m
same_block m a c v b some_vaults some_banks slot row =
    let parts = same_from_place (a / m % v) (a / m / v % b) (c / m % v) (c / m / v % b) b (mod_below (a / m / v) b some_banks) (mod_below (c / m / v) b some_banks) slot in
    same_parts (a / m) (c / m) v (same_parts (a / m / v) (c / m / v) b row parts.1) parts.0
