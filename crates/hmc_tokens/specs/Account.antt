-- The tokens of a link's end, and the codes that return them.
use Rattle.std.specs.Prelude.{ℕ, zero, suc, ◌^◌, nat_le, if◌then◌else◌}
use Rattle.hmc_tokens.specs.declared.account.Account.{Account}

-- the tokens that a code returns
abbrev pub tokens_of_code : ℕ → ℕ
tokens_of_code zero = 0
tokens_of_code (suc k) = 2 ^ k

-- the greatest code up to this one whose tokens are due
abbrev pub greatest_code : (most due : ℕ) → ℕ
greatest_code zero due = 0
greatest_code (suc k) due =
    if nat_le (tokens_of_code (suc k)) due then suc k else greatest_code k due

-- the code for tokens that are due: the greatest of the eight whose tokens are due
unfoldable pub code_for : (due : ℕ) → ℕ
code_for due = greatest_code 7 due

-- an account before the first packet: what the end advertises is due
abbrev pub opening_account : (advertised : ℕ) → Account
opening_account advertised = record { held = 0; due = advertised }
