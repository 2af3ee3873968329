-- The tokens that are returned of so many due, by numbers and by codes.
use Rattle.std.proofs.Common.{◌≡◌, ◌∙◌, ◌≤◌, ◌<◌, ℕ, Bool, true, false, refl, sym, arith}
use Rattle.std.specs.Prelude.{◌==◌, nat_le, nat_lt, if◌then◌else◌}
use Rattle.std.proofs.lemmas.Grind.{common_steps}
use Rattle.hmc_tokens.specs.Account.{tokens_of_code, code_for}
use Rattle.hmc_link_state.specs.Choice.{tokens_for}
use Rattle.hmc_link_state.proofs.Chosen.{most_le, most_not}

pub le-is : (a b : ℕ) → a ≤ b → nat_le a b ≡ true
le-is a b le = grind (arith, common_steps)

le-not : (a b : ℕ) → b < a → nat_le a b ≡ false
le-not a b lt = grind (arith, common_steps)

pub lt-is : (a b : ℕ) → a < b → nat_lt a b ≡ true
lt-is a b lt = grind (arith, common_steps)

pub lt-not : (a b : ℕ) → b ≤ a → nat_lt a b ≡ false
lt-not a b le = grind (arith, common_steps)

zero-is : (a : ℕ) → a < 1 → (a == 0) ≡ true
zero-is a lt = grind (arith, common_steps)

pub zero-not : (a : ℕ) → 1 ≤ a → (a == 0) ≡ false
zero-not a le = grind (arith, common_steps)

abbrev by_numbers : (a b c d e f g : Bool) → ℕ
by_numbers a b c d e f g =
    if a then 0
    else (if b then 1
    else (if c then 2
    else (if d then 4 else (if e then 8 else (if f then 16 else (if g then 32 else 64))))))

abbrev by_codes : (a b c d e f g : Bool) → ℕ
by_codes a b c d e f g =
    if a then 7 else if b then 6 else if c then 5 else if d then 4 else if e then 3 else if f then 2
    else if g then 1 else 0

range_0 : (due : ℕ) → due < 1 → tokens_for due ≡ tokens_of_code (code_for due)
unfolding code_for
range_0 due hi =
    (λ i. by_numbers ((zero-is due (omega arith)) i) ((lt-is due 2 (omega arith)) i)
    ((lt-is due 4 (omega arith)) i) ((lt-is due 8 (omega arith)) i) ((lt-is due 16 (omega arith)) i)
    ((lt-is due 32 (omega arith)) i) ((lt-is due 64 (omega arith)) i))
    ∙ sym (λ i.
    tokens_of_code (by_codes ((le-not 64 due (omega arith)) i) ((le-not 32 due (omega arith)) i)
    ((le-not 16 due (omega arith)) i) ((le-not 8 due (omega arith)) i)
    ((le-not 4 due (omega arith)) i) ((le-not 2 due (omega arith)) i)
    ((le-not 1 due (omega arith)) i)))

range_1 : (due : ℕ) → 1 ≤ due → due < 2 → tokens_for due ≡ tokens_of_code (code_for due)
unfolding code_for
range_1 due lo hi =
    (λ i. by_numbers ((zero-not due (omega arith)) i) ((lt-is due 2 (omega arith)) i)
    ((lt-is due 4 (omega arith)) i) ((lt-is due 8 (omega arith)) i) ((lt-is due 16 (omega arith)) i)
    ((lt-is due 32 (omega arith)) i) ((lt-is due 64 (omega arith)) i))
    ∙ sym (λ i.
    tokens_of_code (by_codes ((le-not 64 due (omega arith)) i) ((le-not 32 due (omega arith)) i)
    ((le-not 16 due (omega arith)) i) ((le-not 8 due (omega arith)) i)
    ((le-not 4 due (omega arith)) i) ((le-not 2 due (omega arith)) i)
    ((le-is 1 due (omega arith)) i)))

range_2 : (due : ℕ) → 2 ≤ due → due < 4 → tokens_for due ≡ tokens_of_code (code_for due)
unfolding code_for
range_2 due lo hi =
    (λ i. by_numbers ((zero-not due (omega arith)) i) ((lt-not due 2 (omega arith)) i)
    ((lt-is due 4 (omega arith)) i) ((lt-is due 8 (omega arith)) i) ((lt-is due 16 (omega arith)) i)
    ((lt-is due 32 (omega arith)) i) ((lt-is due 64 (omega arith)) i))
    ∙ sym (λ i.
    tokens_of_code (by_codes ((le-not 64 due (omega arith)) i) ((le-not 32 due (omega arith)) i)
    ((le-not 16 due (omega arith)) i) ((le-not 8 due (omega arith)) i)
    ((le-not 4 due (omega arith)) i) ((le-is 2 due (omega arith)) i)
    ((le-is 1 due (omega arith)) i)))

range_3 : (due : ℕ) → 4 ≤ due → due < 8 → tokens_for due ≡ tokens_of_code (code_for due)
unfolding code_for
range_3 due lo hi =
    (λ i. by_numbers ((zero-not due (omega arith)) i) ((lt-not due 2 (omega arith)) i)
    ((lt-not due 4 (omega arith)) i) ((lt-is due 8 (omega arith)) i)
    ((lt-is due 16 (omega arith)) i) ((lt-is due 32 (omega arith)) i)
    ((lt-is due 64 (omega arith)) i))
    ∙ sym (λ i.
    tokens_of_code (by_codes ((le-not 64 due (omega arith)) i) ((le-not 32 due (omega arith)) i)
    ((le-not 16 due (omega arith)) i) ((le-not 8 due (omega arith)) i)
    ((le-is 4 due (omega arith)) i) ((le-is 2 due (omega arith)) i)
    ((le-is 1 due (omega arith)) i)))

range_4 : (due : ℕ) → 8 ≤ due → due < 16 → tokens_for due ≡ tokens_of_code (code_for due)
unfolding code_for
range_4 due lo hi =
    (λ i. by_numbers ((zero-not due (omega arith)) i) ((lt-not due 2 (omega arith)) i)
    ((lt-not due 4 (omega arith)) i) ((lt-not due 8 (omega arith)) i)
    ((lt-is due 16 (omega arith)) i) ((lt-is due 32 (omega arith)) i)
    ((lt-is due 64 (omega arith)) i))
    ∙ sym (λ i.
    tokens_of_code (by_codes ((le-not 64 due (omega arith)) i) ((le-not 32 due (omega arith)) i)
    ((le-not 16 due (omega arith)) i) ((le-is 8 due (omega arith)) i)
    ((le-is 4 due (omega arith)) i) ((le-is 2 due (omega arith)) i)
    ((le-is 1 due (omega arith)) i)))

range_5 : (due : ℕ) → 16 ≤ due → due < 32 → tokens_for due ≡ tokens_of_code (code_for due)
unfolding code_for
range_5 due lo hi =
    (λ i. by_numbers ((zero-not due (omega arith)) i) ((lt-not due 2 (omega arith)) i)
    ((lt-not due 4 (omega arith)) i) ((lt-not due 8 (omega arith)) i)
    ((lt-not due 16 (omega arith)) i) ((lt-is due 32 (omega arith)) i)
    ((lt-is due 64 (omega arith)) i))
    ∙ sym (λ i.
    tokens_of_code (by_codes ((le-not 64 due (omega arith)) i) ((le-not 32 due (omega arith)) i)
    ((le-is 16 due (omega arith)) i) ((le-is 8 due (omega arith)) i) ((le-is 4 due (omega arith)) i)
    ((le-is 2 due (omega arith)) i) ((le-is 1 due (omega arith)) i)))

range_6 : (due : ℕ) → 32 ≤ due → due < 64 → tokens_for due ≡ tokens_of_code (code_for due)
unfolding code_for
range_6 due lo hi =
    (λ i. by_numbers ((zero-not due (omega arith)) i) ((lt-not due 2 (omega arith)) i)
    ((lt-not due 4 (omega arith)) i) ((lt-not due 8 (omega arith)) i)
    ((lt-not due 16 (omega arith)) i) ((lt-not due 32 (omega arith)) i)
    ((lt-is due 64 (omega arith)) i))
    ∙ sym (λ i.
    tokens_of_code (by_codes ((le-not 64 due (omega arith)) i) ((le-is 32 due (omega arith)) i)
    ((le-is 16 due (omega arith)) i) ((le-is 8 due (omega arith)) i) ((le-is 4 due (omega arith)) i)
    ((le-is 2 due (omega arith)) i) ((le-is 1 due (omega arith)) i)))

range_7 : (due : ℕ) → 64 ≤ due → tokens_for due ≡ tokens_of_code (code_for due)
unfolding code_for
range_7 due lo =
    (λ i. by_numbers ((zero-not due (omega arith)) i) ((lt-not due 2 (omega arith)) i)
    ((lt-not due 4 (omega arith)) i) ((lt-not due 8 (omega arith)) i)
    ((lt-not due 16 (omega arith)) i) ((lt-not due 32 (omega arith)) i)
    ((lt-not due 64 (omega arith)) i))
    ∙ sym (λ i.
    tokens_of_code (by_codes ((le-is 64 due (omega arith)) i) ((le-is 32 due (omega arith)) i)
    ((le-is 16 due (omega arith)) i) ((le-is 8 due (omega arith)) i) ((le-is 4 due (omega arith)) i)
    ((le-is 2 due (omega arith)) i) ((le-is 1 due (omega arith)) i)))

by_1 : (due : ℕ) (b : Bool) → nat_le 1 due ≡ b → due < 2 →
    tokens_for due ≡ tokens_of_code (code_for due)
by_1 due true e hi = range_1 due (most_le 1 due e) hi
by_1 due false e hi = range_0 due (most_not 1 due e)

by_2 : (due : ℕ) (b : Bool) → nat_le 2 due ≡ b → due < 4 →
    tokens_for due ≡ tokens_of_code (code_for due)
by_2 due true e hi = range_2 due (most_le 2 due e) hi
by_2 due false e hi = by_1 due (nat_le 1 due) refl (most_not 2 due e)

by_4 : (due : ℕ) (b : Bool) → nat_le 4 due ≡ b → due < 8 →
    tokens_for due ≡ tokens_of_code (code_for due)
by_4 due true e hi = range_3 due (most_le 4 due e) hi
by_4 due false e hi = by_2 due (nat_le 2 due) refl (most_not 4 due e)

by_8 : (due : ℕ) (b : Bool) → nat_le 8 due ≡ b → due < 16 →
    tokens_for due ≡ tokens_of_code (code_for due)
by_8 due true e hi = range_4 due (most_le 8 due e) hi
by_8 due false e hi = by_4 due (nat_le 4 due) refl (most_not 8 due e)

by_16 : (due : ℕ) (b : Bool) → nat_le 16 due ≡ b → due < 32 →
    tokens_for due ≡ tokens_of_code (code_for due)
by_16 due true e hi = range_5 due (most_le 16 due e) hi
by_16 due false e hi = by_8 due (nat_le 8 due) refl (most_not 16 due e)

by_32 : (due : ℕ) (b : Bool) → nat_le 32 due ≡ b → due < 64 →
    tokens_for due ≡ tokens_of_code (code_for due)
by_32 due true e hi = range_6 due (most_le 32 due e) hi
by_32 due false e hi = by_16 due (nat_le 16 due) refl (most_not 32 due e)

by_64 : (due : ℕ) (b : Bool) → nat_le 64 due ≡ b → tokens_for due ≡ tokens_of_code (code_for due)
by_64 due true e = range_7 due (most_le 64 due e)
by_64 due false e = by_32 due (nat_le 32 due) refl (most_not 64 due e)

pub tokens-same : (due : ℕ) → tokens_for due ≡ tokens_of_code (code_for due)
tokens-same due = by_64 due (nat_le 64 due) refl
