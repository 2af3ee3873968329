-- The first words of entry lines.
use Rattle.std.specs.Prelude.{ℕ, List, [], ◌∷◌, find, codes, Option}
use Rattle.std.specs.Str.{bytes_eq}
use Rattle.hmc_entries.specs.declared.head.Head.{Head}
use Rattle.hmc_entries.specs.declared.head.Head.TheVariants as heads

-- the word of a kind of entry
abbrev pub head_word : Head → List ℕ
head_word heads.Gave = codes "gave"
head_word heads.Sent = codes "sent"
head_word heads.Landed = codes "landed"
head_word heads.Shifted = codes "shifted"
head_word heads.Dropped = codes "dropped"
head_word heads.Spread = codes "spread"
head_word heads.Executed = codes "executed"
head_word heads.Lifted = codes "lifted"
head_word heads.Took = codes "took"
head_word heads.Discarded = codes "discarded"
head_word heads.Through = codes "through"
head_word heads.Unlocked = codes "unlocked"
head_word heads.Retired = codes "retired"
head_word heads.Passed = codes "passed"
head_word heads.Idle = codes "idle"

-- all kinds of entries
unfoldable pub all_heads : List Head
all_heads =
    heads.Gave ∷ heads.Sent ∷ heads.Landed ∷ heads.Shifted ∷ heads.Dropped ∷ heads.Spread ∷
    heads.Executed ∷ heads.Lifted ∷ heads.Took ∷ heads.Discarded ∷ heads.Through ∷
    heads.Unlocked ∷ heads.Retired ∷ heads.Passed ∷ heads.Idle ∷ []

-- the kind of entry with this word
unfoldable pub head_of : List ℕ → Option Head
head_of word = find (λ head. bytes_eq (head_word head) word) all_heads
