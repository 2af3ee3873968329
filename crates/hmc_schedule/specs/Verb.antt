-- The first words of lines that name one step.
use Rattle.std.specs.Prelude.{ℕ, List, [], ◌∷◌, find, codes, Option}
use Rattle.std.specs.Str.{bytes_eq}
use Rattle.hmc_schedule.specs.declared.verb.Verb.{Verb}
use Rattle.hmc_schedule.specs.declared.verb.Verb.TheVariants.{Give, Send, Land, Shift, Spread, Bank, Registers, Lift, Take, Through, Unlock, Retire}

-- the word of a kind of step
abbrev pub word_of : Verb → List ℕ
word_of Give = codes "give"
word_of Send = codes "send"
word_of Land = codes "land"
word_of Shift = codes "shift"
word_of Spread = codes "spread"
word_of Bank = codes "bank"
word_of Registers = codes "registers"
word_of Lift = codes "lift"
word_of Take = codes "take"
word_of Through = codes "through"
word_of Unlock = codes "unlock"
word_of Retire = codes "retire"

-- all kinds of steps
unfoldable pub verbs : List Verb
verbs =
    Give ∷ Send ∷ Land ∷ Shift ∷ Spread ∷ Bank ∷ Registers ∷ Lift ∷ Take ∷
    Through ∷ Unlock ∷ Retire ∷ []

-- the kind of step with this word
unfoldable pub verb_of : List ℕ → Option Verb
verb_of word = find (λ verb. bytes_eq (word_of verb) word) verbs
