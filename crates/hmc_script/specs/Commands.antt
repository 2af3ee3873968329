-- The commands of a script.
use Rattle.std.specs.Prelude.{◌≡◌, ℕ, List, [], ◌∷◌, ⊤, filter, find, Option}
use Rattle.std.specs.Str.{bytes_eq}
use Rattle.hmc_codes.specs.Codes.{all_commands}
use Rattle.hmc_codes.specs.Commands.{is_ask, layout_of, word_of}
use Rattle.hmc_codes.specs.declared.command.Command.{Command}
use Rattle.hmc_codes.specs.declared.command.Command.TheVariants as commands

-- the requests of the command table
unfoldable pub requests : List Command
requests = filter (λ command. is_ask (layout_of command)) all_commands

-- the request with this word
unfoldable pub command_of : List ℕ → Option Command
command_of word = find (λ command. bytes_eq (word_of command) word) requests

-- the requests whose words are tried first, and those that are tried next
unfoldable pub first_tried : List Command
first_tried =
    commands.Rd16 ∷ commands.Wr16 ∷ commands.Rd32 ∷ commands.Wr32 ∷ commands.Rd64 ∷
    commands.Wr64 ∷ commands.Rd128 ∷ commands.Wr128 ∷ commands.Rd256 ∷ commands.Wr256 ∷
    commands.Rd48 ∷ commands.Wr48 ∷ commands.Rd80 ∷ commands.Wr80 ∷ commands.Rd96 ∷
    commands.Wr96 ∷ commands.Rd112 ∷ commands.Wr112 ∷ []

unfoldable pub second_tried : List Command
second_tried =
    commands.Pwr16 ∷ commands.Pwr32 ∷ commands.Pwr48 ∷ commands.Pwr64 ∷ commands.Pwr80 ∷
    commands.Pwr96 ∷ commands.Pwr112 ∷ commands.Pwr128 ∷ commands.Pwr256 ∷ commands.Mdwr ∷
    commands.Mdrd ∷ commands.Bwr ∷ commands.TwoAdd8 ∷ commands.Add16 ∷ commands.Pbwr ∷
    commands.PtwoAdd8 ∷ commands.Padd16 ∷ commands.Bwr8r ∷ commands.TwoAdds8r ∷
    commands.Adds16r ∷ commands.Xor16 ∷ commands.Or16 ∷ []

-- the word is that of none of these commands
unfoldable pub IsNoneOf : List ℕ → List Command → Type 0
IsNoneOf word [] = ⊤
IsNoneOf word (command ∷ commands) = (word ≡ word_of command → ⊥) × IsNoneOf word commands
