-- A printed request is taken back, whatever follows it.
use Rattle.std.proofs.Common.{◌≡◌, ◌∙◌, ◌<◌, ℕ, ◌^◌, ◌==◌, Bool, true, false, Option, Some, option_to_list, List, [], ◌∷◌, ◌++◌, length, drop, replicate, refl, sym, ap, arith}
use Rattle.std.specs.Fmt.{decimal}
use Rattle.std.proofs.lemmas.Bool.Decides.{nat_tests}
use Rattle.hex.specs.Hex.{encode_lower}
use Rattle.hmc_codes.specs.Bytes.{IsBytes}
use Rattle.hmc_codes.specs.Commands.{word_of, payload_len_of}
use Rattle.hmc_codes.specs.Limits.{most_cubes}
use Rattle.hmc_codes.specs.Request.{RequestFields, IsRequest}
use Rattle.hmc_codes.specs.Text.{hex_number, is_mdwr, value_in, operand_of}
use Rattle.hmc_codes.specs.declared.command.Command.{Command}
use Rattle.hmc_codes.specs.declared.command.Command.TheVariants.{Mdwr}
use Rattle.hmc_text.specs.Number.{number_of}
use Rattle.hmc_words.specs.Taking.{◌>>=◌, take_number}
use Rattle.hmc_script.proofs.NumberText.{number_of-decimal, number_of-hex, below-is}
use Rattle.hmc_script.proofs.RequestWords.{command_of-word_of, payload_of-value, payload_of-digits}
use Rattle.hmc_script.proofs.PayloadLemmas.{is_mdwr-only, len_of_mdwr, IsPayload-[]}
use Rattle.hmc_script.proofs.MeaningText.{request_words}
use Rattle.hmc_script.specs.Commands.{command_of}
use Rattle.hmc_script.specs.Payload.{IsPayload, payload_of}
use Rattle.hmc_script.specs.Taken.{take_command, take_operand, take_payload, take_request}

pub no_payload_fits : (command : Command) (payload : List ℕ) → payload_len_of command ≡ 0 → payload ≡ [] → IsPayload command payload
no_payload_fits command payload none empty = rw empty (IsPayload-[] command none)

-- a number below the limit is taken back
pub take_number-is : (limit n : ℕ) (w : List ℕ) (ws : List (List ℕ)) → number_of w ≡ Some n → n < limit → take_number limit (w ∷ ws) ≡ Some (n, ws)
unfolding take_number
take_number-is limit n w ws is small = rw (is, below-is limit n small) refl

take_command-is : (command : Command) (ws : List (List ℕ)) → command_of (word_of command) ≡ Some command → take_command (word_of command ∷ ws) ≡ Some (command, ws)
unfolding take_command
take_command-is command ws is = ap (λ (o : Option Command). o >>= (λ c. Some (c, ws))) is

take_payload-some : (command : Command) (w payload : List ℕ) (ws : List (List ℕ)) → (payload_len_of command == 0) ≡ false → payload_of command w ≡ Some payload → take_payload command (w ∷ ws) ≡ Some (payload, ws)
unfolding take_payload take_operand
take_payload-some command w payload ws some is = rw (some, is) refl

take_payload-none : (command : Command) (ws : List (List ℕ)) → payload_len_of command ≡ 0 → take_payload command ws ≡ Some ([], ws)
unfolding take_payload
take_payload-none command ws none = rw none refl

-- the payload is taken back, whichever form it has
take_payload-operand : (command : Command) (payload : List ℕ) (mdwr : Bool) (ws : List (List ℕ)) → is_mdwr command ≡ mdwr → length payload ≡ payload_len_of command → IsBytes payload → (command ≡ Mdwr → drop 4 payload ≡ replicate 12 0) → take_payload command (option_to_list (operand_of mdwr payload) ++ ws) ≡ Some (payload, ws)
take_payload-operand command payload true ws is long bytes zeros =
    let only = is_mdwr-only command is in
    let sixteen : payload_len_of command ≡ 16 = ap payload_len_of only ∙ len_of_mdwr in
    take_payload-some command (decimal (value_in payload)) payload ws (rw sixteen refl) (payload_of-value command payload is (long ∙ sixteen) bytes (zeros only))
take_payload-operand command [] false ws is long bytes zeros = take_payload-none command ws (sym long)
take_payload-operand command (b ∷ bs) false ws is long bytes zeros =
    take_payload-some command (encode_lower (b ∷ bs)) (b ∷ bs) ws (rw (← long) (grind (arith, nat_tests))) (payload_of-digits command (b ∷ bs) is long bytes)

-- so is the request
pub take_request-words : (r : RequestFields) (ws : List (List ℕ)) → IsRequest r → take_request (request_words r ++ ws) ≡ Some (r, ws)
unfolding take_request
take_request-words r ws is =
    let operand = option_to_list (operand_of (is_mdwr r.command) r.payload) ++ ws in
    let command = take_command-is r.command (decimal r.cube ∷ hex_number r.address ∷ operand) (command_of-word_of r.command is.asks) in
    let cube = take_number-is most_cubes r.cube (decimal r.cube) (hex_number r.address ∷ operand) (number_of-decimal r.cube (omega (arith, is.cube))) is.cube in
    let address = take_number-is (2 ^ 34) r.address (hex_number r.address) operand (number_of-hex r.address is.address) is.address in
    let payload = take_payload-operand r.command r.payload (is_mdwr r.command) ws refl is.payload is.bytes is.zeros in
    rw (command, cube, address, payload) refl
