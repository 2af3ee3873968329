-- The line of a request, or of a fence, is read again.
use Rattle.std.proofs.Common.{◌≡◌, ◌∙◌, ◌<◌, ℕ, ◌+◌, ◌^◌, ◌==◌, Bool, true, false, Option, Some, option_to_list, Result, Ok, List, [], ◌∷◌, ◌++◌, length, drop, codes, replicate, slice_index, refl, sym, ap, arith}
use Rattle.std.specs.Fmt.{decimal}
use Rattle.std.proofs.lemmas.Fmt.{decimal_digit}
use Rattle.std.proofs.lemmas.Bool.Decides.{nat_tests}
use Rattle.hex.specs.Hex.{encode_lower}
use Rattle.hmc_codes.specs.Bytes.{IsBytes}
use Rattle.hmc_codes.specs.Commands.{word_of, payload_len_of}
use Rattle.hmc_codes.specs.Request.{RequestFields, IsRequest}
use Rattle.hmc_codes.specs.Text.{hex_number, is_mdwr, value_in, operand_of, request_text, line}
use Rattle.hmc_codes.specs.declared.command.Command.{Command}
use Rattle.hmc_codes.specs.declared.command.Command.TheVariants.{Mdwr}
use Rattle.hmc_script.proofs.NumberText.{number_of-decimal, number_of-hex, below-is}
use Rattle.hmc_script.proofs.RequestWords.{IsWord-word_of, no_fence, no_poison, command_of-word_of, IsWord-decimal, IsWord-hex_number, IsWord-encode_lower, payload_of-value, payload_of-digits, value_in-lt}
use Rattle.hmc_script.proofs.PayloadLemmas.{is_mdwr-only, len_of_mdwr}
use Rattle.hmc_script.proofs.WordsText.{AreWords, line-spaced}
use Rattle.hmc_script.specs.declared.fault.ScriptKind.{ScriptKind}
use Rattle.hmc_script.specs.declared.fault.ScriptKind.TheVariants as kinds
use Rattle.hmc_script.specs.declared.meaning.Meaning.TheVariants.{Fence, Ask}
use Rattle.hmc_script.specs.Commands.{command_of}
use Rattle.hmc_script.specs.Meaning.{number_word, command_word, request_of, ask_of, fence_of, statement_of, meaning_of}
use Rattle.hmc_text.specs.Number.{number_of}
use Rattle.hmc_script.specs.Payload.{payload_of, no_payload, some_payload, payload_word}
use Rattle.hmc_script.specs.Text.{request_line}
use Rattle.hmc_text.specs.Reading as reading
use Rattle.hmc_text.specs.Reading.{◌>>=◌, or_fault}
use Rattle.hmc_text.specs.Words.{is_passed_over}

number_word-is : (kind : ScriptKind) (limit n : ℕ) (w : List ℕ) (ws : List (List ℕ)) → number_of w ≡ Some n → n < limit → number_word kind limit (w ∷ ws) ≡ Ok (n, ws)
unfolding reading.number_word
number_word-is kind limit n w ws is small =
    rw (is, below-is limit n small) refl

command_word-is : (command : Command) (ws : List (List ℕ)) → command_of (word_of command) ≡ Some command → command_word (word_of command ∷ ws) ≡ Ok (command, ws)
unfolding command_word
command_word-is command ws is = ap (λ (o : Option Command). or_fault kinds.Command o >>= (λ c. Ok (c, ws))) is

abbrev pub request_words : RequestFields → List (List ℕ)
request_words r = word_of r.command ∷ decimal r.cube ∷ hex_number r.address ∷ option_to_list (operand_of (is_mdwr r.command) r.payload)

payload_word-none : (command : Command) → payload_len_of command ≡ 0 → payload_word command [] ≡ Ok []
unfolding payload_word no_payload
payload_word-none command none = rw none refl

payload_word-some : (command : Command) (w payload : List ℕ) → (payload_len_of command == 0) ≡ false → payload_of command w ≡ Some payload → payload_word command (w ∷ []) ≡ Ok payload
unfolding payload_word some_payload
payload_word-some command w payload some is = rw (some, is) refl

-- the payload is read again, whichever form it has
payload_word-operand : (command : Command) (payload : List ℕ) (mdwr : Bool) → is_mdwr command ≡ mdwr → length payload ≡ payload_len_of command → IsBytes payload → (command ≡ Mdwr → drop 4 payload ≡ replicate 12 0) → payload_word command (option_to_list (operand_of mdwr payload)) ≡ Ok payload
payload_word-operand command payload true is long bytes zeros =
    let only = is_mdwr-only command is in
    let sixteen : payload_len_of command ≡ 16 = ap payload_len_of only ∙ len_of_mdwr in
    payload_word-some command (decimal (value_in payload)) payload (rw sixteen refl) (payload_of-value command payload is (long ∙ sixteen) bytes (zeros only))
payload_word-operand command [] false is long bytes zeros = payload_word-none command (sym long)
payload_word-operand command (b ∷ bs) false is long bytes zeros =
    payload_word-some command (encode_lower (b ∷ bs)) (b ∷ bs) (rw (← long) (grind (arith, nat_tests))) (payload_of-digits command (b ∷ bs) is long bytes)

-- a request is read again
pub request_of-request_words : (cubes : ℕ) (r : RequestFields) → IsRequest r → r.cube < cubes → request_of cubes (request_words r) ≡ Ok r
unfolding request_of
request_of-request_words cubes r is within =
    let operand = option_to_list (operand_of (is_mdwr r.command) r.payload) in
    let command = command_word-is r.command (decimal r.cube ∷ hex_number r.address ∷ operand) (command_of-word_of r.command is.asks) in
    let cube = number_word-is kinds.Cube cubes r.cube (decimal r.cube) (hex_number r.address ∷ operand) (number_of-decimal r.cube (omega (arith, is.cube))) within in
    let address = number_word-is kinds.Address (2 ^ 34) r.address (hex_number r.address) operand (number_of-hex r.address is.address) is.address in
    let payload = payload_word-operand r.command r.payload (is_mdwr r.command) refl is.payload is.bytes is.zeros in
    rw (command, cube, address, payload) refl

not_silent : (host : ℕ) (ws : List (List ℕ)) → host < 8 → is_passed_over (decimal host ∷ ws) ≡ false
not_silent host ws small =
    let digit : slice_index (decimal host) 0 ≡ 48 + host = ap (λ w. slice_index w 0) (decimal_digit host (omega arith)) in
    rw digit (grind (arith, nat_tests))

host_word : (hosts host : ℕ) (ws : List (List ℕ)) → host < 8 → host < hosts → number_word kinds.Host hosts (decimal host ∷ ws) ≡ Ok (host, ws)
host_word hosts host ws small within =
    number_word-is kinds.Host hosts host (decimal host) ws (number_of-decimal host (omega arith)) within

pub meaning_of-fence : (hosts cubes host : ℕ) → host < 8 → host < hosts → meaning_of hosts cubes (decimal host ∷ codes "fence" ∷ []) ≡ Ok (Fence host)
unfolding meaning_of statement_of fence_of
meaning_of-fence hosts cubes host small within =
    rw (not_silent host (codes "fence" ∷ []) small, host_word hosts host (codes "fence" ∷ []) small within) refl

ask_of-request_words : (cubes host : ℕ) (poisoned : Bool) (r : RequestFields) → IsRequest r → r.cube < cubes → ask_of cubes host poisoned (request_words r) ≡ Ok (Ask host poisoned r)
unfolding ask_of
ask_of-request_words cubes host poisoned r is within =
    ap (λ (o : Result RequestFields ScriptKind). o >>= (λ request. Ok (Ask host poisoned request))) (request_of-request_words cubes r is within)

-- the words of an item's line
abbrev pub item_words : ℕ → Bool → RequestFields → List (List ℕ)
item_words host true r = decimal host ∷ codes "poison" ∷ request_words r
item_words host false r = decimal host ∷ request_words r

pub meaning_of-ask : (hosts cubes host : ℕ) (poisoned : Bool) (r : RequestFields) → host < 8 → host < hosts → IsRequest r → r.cube < cubes → meaning_of hosts cubes (item_words host poisoned r) ≡ Ok (Ask host poisoned r)
unfolding meaning_of statement_of
meaning_of-ask hosts cubes host true r small in_hosts is in_cubes =
    rw (not_silent host (codes "poison" ∷ request_words r) small, host_word hosts host (codes "poison" ∷ request_words r) small in_hosts) (ask_of-request_words cubes host true r is in_cubes)
meaning_of-ask hosts cubes host false r small in_hosts is in_cubes =
    rw (not_silent host (request_words r) small, host_word hosts host (request_words r) small in_hosts, no_fence r.command, no_poison r.command) (ask_of-request_words cubes host false r is in_cubes)

-- these words are words
pub fence_are_words : (host : ℕ) → host < 8 → AreWords (decimal host ∷ codes "fence" ∷ [])
fence_are_words host small = (IsWord-decimal host (omega arith), (record { some = refl; letters = refl }, tt))

operand_are_words : (mdwr : Bool) (payload : List ℕ) → IsBytes payload → AreWords (option_to_list (operand_of mdwr payload))
operand_are_words true payload bytes = (IsWord-decimal (value_in payload) (omega (arith, value_in-lt payload bytes)), tt)
operand_are_words false [] bytes = tt
operand_are_words false (b ∷ bs) bytes = (IsWord-encode_lower b bs, tt)

request_are_words : (r : RequestFields) → IsRequest r → AreWords (request_words r)
request_are_words r is =
    (IsWord-word_of r.command, (IsWord-decimal r.cube (omega (arith, is.cube)), (IsWord-hex_number r.address is.address, operand_are_words (is_mdwr r.command) r.payload is.bytes)))

pub item_are_words : (host : ℕ) (poisoned : Bool) (r : RequestFields) → host < 8 → IsRequest r → AreWords (item_words host poisoned r)
item_are_words host true r small is =
    (IsWord-decimal host (omega arith), (record { some = refl; letters = refl }, request_are_words r is))
item_are_words host false r small is = (IsWord-decimal host (omega arith), request_are_words r is)

-- an item's line, in words
pub request_line-words : (host : ℕ) (poisoned : Bool) (r : RequestFields) → request_line host poisoned r ≡ line (item_words host poisoned r)
unfolding request_text
request_line-words host true r = ap (λ l. decimal host ++ (32 ∷ (codes "poison" ++ (32 ∷ l)))) (sym (line-spaced (request_words r)))
request_line-words host false r = ap (λ l. decimal host ++ 32 ∷ l) (sym (line-spaced (request_words r)))
