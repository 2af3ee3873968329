-- The requests of the command table.
use Rattle.std.proofs.Common.{cond, ℕ, ◌≡◌, Bool, true, false, Option, Some, None, IfSome, List, [], ◌∷◌, find, ◌&&◌, refl, sym, subst}
use Rattle.std.specs.List.{list_all}
use Rattle.std.specs.Str.{IsUtf8, is_utf8, chars, bytes_eq}
use Rattle.std.proofs.lemmas.Slice.Eq.{bytes_eq-Decides}
use Rattle.std.proofs.lemmas.Str.{IsUtf8-from_is_utf8}
use Rattle.hmc_codes.specs.Table.{table_line}
use Rattle.hmc_codes.specs.Codes.{all_commands}
use Rattle.hmc_codes.specs.Commands.{family_of, family_of_layout, layout_of, is_ask, word_of}
use Rattle.hmc_codes.specs.declared.family.Family.TheVariants as families
use Rattle.hmc_codes.specs.declared.layout.Layout.{Layout}
use Rattle.hmc_codes.specs.declared.layout.Layout.TheVariants as layouts
use Rattle.hmc_codes.specs.declared.command.Command.{Command}
use Rattle.hmc_script.specs.Commands.{requests, command_of}

asks : Command → Bool
asks command = is_ask (layout_of command)

-- what is found passes each test that all pass
found_passes : (test passes : Command → Bool) (xs : List Command) → list_all passes xs ≡ true → IfSome (find test xs) (λ x. passes x ≡ true)
found_passes test passes [] all = tt
found_passes test passes (x ∷ xs) all = by_test (test x) (passes x) refl (λ later. found_passes test passes xs later) all where
  by_test : (found passed : Bool) → passes x ≡ passed → (list_all passes xs ≡ true → IfSome (find test xs) (λ y. passes y ≡ true)) → passed && list_all passes xs ≡ true → IfSome (cond found (Some x) (find test xs)) (λ y. passes y ≡ true)
  by_test true true is later all = is
  by_test false true is later all = later all
  by_test found false is later all = absurd (cc all)

all_ask : list_all asks requests ≡ true
unfolding requests all_commands table_line asks
all_ask = refl

asks_is_family : (layout : Layout) → is_ask layout ≡ true → family_of_layout layout ≡ families.Ask
asks_is_family layouts.Ask is = refl
asks_is_family _ is = cc

family_of-found : (found : Option Command) → IfSome found (λ c. asks c ≡ true) → IfSome found (λ c. family_of c ≡ families.Ask)
unfolding asks
family_of-found None ask = tt
family_of-found (Some c) ask = asks_is_family (layout_of c) ask

-- each word of a command is that of a request
pub command_of_asks : (word : List ℕ) (found : Option Command) → found ≡ command_of word → IfSome found (λ c. family_of c ≡ families.Ask)
unfolding command_of
command_of_asks word found is = rw is (family_of-found _ (found_passes _ asks requests all_ask))

-- T, and the word is that of none of the commands
abbrev pub AndNone : List Command → List ℕ → Type 0 → Type 0
AndNone [] word T = T
AndNone (c ∷ cs) word T = AndNone cs word (T × (word ≡ word_of c → ⊥))

and_none-first : (cs : List Command) (word : List ℕ) (T : Type 0) → AndNone cs word T → T
and_none-first [] word T is = is
and_none-first (c ∷ cs) word T is = (and_none-first cs word (T × (word ≡ word_of c → ⊥)) is).0

not_first : (word : List ℕ) (c : Command) (later : Option Command) (b : Bool) → bytes_eq (word_of c) word ≡ b → (word ≡ word_of c → ⊥) → None ≡ later → None ≡ cond b (Some c) later
not_first word c later true test other none = absurd (other (sym ((bytes_eq-Decides (word_of c) word).0 test)))
not_first word c later false test other none = none

find-none : (cs : List Command) (word : List ℕ) (T : Type 0) → AndNone cs word T → None ≡ find (λ d. bytes_eq (word_of d) word) cs
find-none [] word T is = refl
find-none (c ∷ cs) word T is =
    let More = T × (word ≡ word_of c → ⊥) in
    not_first word c (find (λ d. bytes_eq (word_of d) word) cs) (bytes_eq (word_of c) word) refl (and_none-first cs word More is).1 (find-none cs word More is)

-- a word of no request is no word
pub command_of-none : (word : List ℕ) → AndNone requests word (Unit {0}) → None ≡ command_of word
unfolding command_of
command_of-none word is = find-none requests word (Unit {0}) is

is_text : Command → Bool
is_text command = is_utf8 (word_of command)

all_texts : list_all is_text requests ≡ true
unfolding requests all_commands table_line is_text is_utf8 chars lib.Utf8.encode
all_texts = refl

none_first : (word : List ℕ) (c : Command) (later : Option Command) (rest same text : Bool) → bytes_eq (word_of c) word ≡ same → is_utf8 (word_of c) ≡ text → (IsUtf8 word → ⊥) → (rest ≡ true → None ≡ later) → text && rest ≡ true → None ≡ cond same (Some c) later
none_first word c later rest true true is texts broken none all = absurd (broken (subst IsUtf8 ((bytes_eq-Decides (word_of c) word).0 is) (IsUtf8-from_is_utf8 (word_of c) texts)))
none_first word c later rest false true is texts broken none all = none all
none_first word c later rest same false is texts broken none all = absurd (cc all)

none_text : (cs : List Command) (word : List ℕ) → list_all is_text cs ≡ true → (IsUtf8 word → ⊥) → None ≡ find (λ c. bytes_eq (word_of c) word) cs
unfolding is_text
none_text [] word all broken = refl
none_text (c ∷ cs) word all broken =
    none_first word c (find (λ d. bytes_eq (word_of d) word) cs) (list_all is_text cs) (bytes_eq (word_of c) word) (is_utf8 (word_of c)) refl refl broken (λ rest. none_text cs word rest broken) all

-- what is not a text is no word
pub command_of-no_text : (word : List ℕ) → (IsUtf8 word → ⊥) → None ≡ command_of word
unfolding command_of
command_of-no_text word broken = none_text requests word all_texts broken
