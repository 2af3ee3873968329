-- The texts of requests and answers: words with one space between.
use Rattle.std.specs.Prelude.{ℕ, Bool, true, false, List, [], ◌∷◌, ◌++◌, take, codes, if◌then◌else◌, Option, Some, None, option_to_list}
use Rattle.std.specs.Fmt.{decimal, digits}
use Rattle.std.specs.Int.{w32, to_be_bytes, from_le_bytes}
use Rattle.hex.specs.Hex.{encode_lower}
use Rattle.hmc_codes.specs.Commands.{word_of}
use Rattle.hmc_codes.specs.Request.{RequestFields}
use Rattle.hmc_codes.specs.declared.command.Command.{Command}
use Rattle.hmc_codes.specs.declared.command.Command.TheVariants.{Mdwr}
use Rattle.hmc_codes.specs.declared.answer.Answer.{Answer}
use Rattle.hmc_codes.specs.declared.answer.Answer.TheVariants.{Silent, Done, Read, Register, Stored, Refused}

-- the words with one space between
abbrev pub spaced_words : List (List ℕ) → List ℕ
spaced_words [] = []
spaced_words (w ∷ []) = w
spaced_words (w ∷ v ∷ vs) = w ++ (32 ∷ spaced_words (v ∷ vs))

-- the same as a line: a line feed ends it
abbrev pub line : List (List ℕ) → List ℕ
line [] = 10 ∷ []
line (w ∷ []) = w ++ (10 ∷ [])
line (w ∷ v ∷ vs) = w ++ (32 ∷ line (v ∷ vs))

-- a number with 0x before it, in lower case without leading zeros
abbrev pub hex_number : ℕ → List ℕ
hex_number n = codes "0x" ++ digits 16 false n

-- a flag is 1 where it is set, else 0
abbrev pub flag_text : Bool → List ℕ
flag_text flag = if flag then codes "1" else codes "0"

-- an mdwr is written with its value in place of its bytes
abbrev pub is_mdwr : Command → Bool
is_mdwr Mdwr = true
is_mdwr _ = false

-- the number in the first four bytes
abbrev pub value_in : List ℕ → ℕ
value_in payload = from_le_bytes w32 (take 4 payload)

-- the word after the address: a value, the payload's bytes, or none
abbrev pub operand_of : Bool → List ℕ → Option (List ℕ)
operand_of true payload = Some (decimal (value_in payload))
operand_of false [] = None
operand_of false (b ∷ bs) = Some (encode_lower (b ∷ bs))

-- a request with these words after its address
abbrev pub request_with : RequestFields → List (List ℕ) → List ℕ
request_with r operands =
    spaced_words (word_of r.command ∷ decimal r.cube ∷ hex_number r.address ∷ operands)

-- a request as a script has it, without the host
unfoldable pub request_text : RequestFields → List ℕ
request_text r = request_with r (option_to_list (operand_of (is_mdwr r.command) r.payload))

-- one more word, or none: a space before it
abbrev pub operand_words : Option (List ℕ) → List ℕ
operand_words None = []
operand_words (Some word) = 32 ∷ word

-- an answer as a report has it
unfoldable pub answer_text : Answer → List ℕ
answer_text Silent = codes "silent"
answer_text (Done flag) = spaced_words (codes "done" ∷ flag_text flag ∷ [])
answer_text (Read flag payload) =
    spaced_words (codes "read" ∷ flag_text flag ∷ encode_lower payload ∷ [])
answer_text (Register value) =
    spaced_words (codes "register" ∷ encode_lower (to_be_bytes w32 value) ∷ [])
answer_text Stored = codes "stored"
answer_text (Refused errstat) = spaced_words (codes "error" ∷ decimal errstat ∷ [])
