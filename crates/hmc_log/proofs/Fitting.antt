-- What the words of a request, an answer or a retirement are read as fits its types, and its line
-- shows all of it.
use Rattle.std.proofs.Common.{◌≡◌, ◌∙◌, ◌<◌, ℕ, ◌^◌, Bool, true, false, Option, Some, None, IfSome, option_map, Result, Ok, Err, List, [], length, replicate, nat_lt, codes, refl, sym, ap, subst, arith}
use Rattle.std.specs.Prelude.{◌==◌, if◌then◌else◌, ◌/◌}
use Rattle.std.specs.Int.{w32, to_le_bytes, from_be_bytes}
use Rattle.std.specs.Result.{result_ok}
use Rattle.std.specs.Str.{bytes_eq}
use Rattle.std.proofs.lemmas.Bool.Decides.{nat_tests}
use Rattle.hex.specs.Hex.{decode_sized}
use Rattle.hex.proofs.HexLemmas.{decode_sized-ok, decode_sized-twice, decode_of-ok}
use Rattle.hmc_codes.specs.Answer.{is_returned, IsAnswer}
use Rattle.hmc_codes.specs.Bytes.{IsBytes}
use Rattle.hmc_codes.specs.Commands.{family_of, payload_len_of}
use Rattle.hmc_codes.specs.Limits.{most_cubes}
use Rattle.hmc_codes.specs.Request.{IsRequest}
use Rattle.hmc_codes.specs.Text.{is_mdwr}
use Rattle.hmc_codes.specs.declared.answer.Answer.{Answer}
use Rattle.hmc_codes.specs.declared.answer.Answer.TheVariants as answers
use Rattle.hmc_codes.specs.declared.command.Command.{Command}
use Rattle.hmc_codes.specs.declared.command.Command.TheVariants.{Mdwr}
use Rattle.hmc_codes.specs.declared.family.Family.TheVariants as families
use Rattle.hmc_codes.proofs.BytesLemmas.{IsBytes-append, IsBytes-low, IsBytes-zeros}
use Rattle.hmc_script.specs.Commands.{command_of}
use Rattle.hmc_script.specs.Payload.{IsPayload, value_bytes, payload_of}
use Rattle.hmc_script.specs.Taken.{take_command, take_operand, take_payload, take_request}
use Rattle.hmc_script.proofs.CommandLemmas.{command_of_asks}
use Rattle.hmc_script.proofs.PayloadLemmas.{is_mdwr-only, IsPayload-[], value_fits}
use Rattle.hmc_text.specs.Number.{below, number_of}
use Rattle.hmc_text.specs.Words.{first_word}
use Rattle.hmc_words.specs.Taking.{◌>>=◌, take_number, take_this}
use Rattle.hmc_entries.specs.Parse.{CanBeShown, IsTag, IsPrintable}
use Rattle.hmc_entries.specs.ParseWords.{tag_of, flag_of, returned_of, value_of}
use Rattle.hmc_entries.specs.ParseParts.{done_in, read_in, register_in, refused_in, answer_after, answer_in}
use Rattle.hmc_entries.specs.ParseEntry.{take_tag, gave_in, took_in, retired_in}

-- ---- steps

-- anything
abbrev Any : {A : Type 0} → A → Type 0
Any x = Unit {0}

-- what the first step gives has P, and then what the second gives has Q
then_fits : {A B : Type 0} (P : A → Type 0) (Q : B → Type 0) (first : Option A)
    (second : A → Option B) → IfSome first P → ((x : A) → P x → IfSome (second x) Q) →
    IfSome (first >>= second) Q
then_fits P Q None second is each = tt
then_fits P Q (Some x) second is each = each x is

any_some : {A : Type 0} (o : Option A) → IfSome o Any
any_some None = tt
any_some (Some x) = tt

map_fits : {A B : Type 0} (P : A → Type 0) (Q : B → Type 0) (f : A → B) (o : Option A) →
    IfSome o P → ((x : A) → P x → Q (f x)) → IfSome (option_map f o) Q
map_fits P Q f None is each = tt
map_fits P Q f (Some x) is each = each x is

if_fits : {A : Type 0} (Q : A → Type 0) (b : Bool) (x y : Option A) → IfSome x Q → IfSome y Q →
    IfSome (if b then x else y) Q
if_fits Q true x y is other = is
if_fits Q false x y is other = other

-- ---- numbers and bytes

below_fits : (limit : ℕ) (o : Option ℕ) → IfSome (below limit o) (λ n. n < limit)
below_fits limit None = tt
below_fits limit (Some n) = by (nat_lt n limit) refl where
  by : (b : Bool) → nat_lt n limit ≡ b → IfSome (if b then Some n else None) (λ k. k < limit)
  by true is = grind (arith, nat_tests)
  by false is = tt

take_number_fits : (limit : ℕ) (words : List (List ℕ)) →
    IfSome (take_number limit words) (λ p. p.0 < limit)
unfolding take_number
take_number_fits limit words =
    then_fits Any (λ p. p.0 < limit) (first_word words)
    (λ first. below limit (number_of first.0) >>= (λ number. Some (number, first.1)))
    (any_some (first_word words)) (λ first any.
    then_fits (λ n. n < limit) (λ p. p.0 < limit) (below limit (number_of first.0))
    (λ number. Some (number, first.1)) (below_fits limit (number_of first.0)) (λ n small. small))

read_ok : {E : Type 0} (P : List ℕ → Type 0) (read : Result (List ℕ) E) →
    ((bytes : List ℕ) → read ≡ Ok bytes → P bytes) → IfSome (result_ok read) P
read_ok P (Err e) each = tt
read_ok P (Ok bytes) each = each bytes refl

-- bytes of pairs of digits
decoded_fits : (n : ℕ) (word : List ℕ) →
    IfSome (result_ok (decode_sized word n)) (λ bytes. (length bytes ≡ n) × IsBytes bytes)
decoded_fits n word =
    read_ok (λ bytes. (length bytes ≡ n) × IsBytes bytes) (decode_sized word n) (λ bytes is.
    let long = decode_sized-ok word n bytes is in
    let ok = decode_of-ok word bytes (sym (decode_sized-twice word n long) ∙ is) in
    (omega (arith, long, ok.2), ok.3))

-- ---- requests

take_command_fits : (words : List (List ℕ)) →
    IfSome (take_command words) (λ p. family_of p.0 ≡ families.Ask)
unfolding take_command
take_command_fits words =
    then_fits Any (λ p. family_of p.0 ≡ families.Ask) (first_word words)
    (λ first. command_of first.0 >>= (λ command. Some (command, first.1)))
    (any_some (first_word words)) (λ first any.
    then_fits (λ c. family_of c ≡ families.Ask) (λ p. family_of p.0 ≡ families.Ask)
    (command_of first.0) (λ command. Some (command, first.1))
    (command_of_asks first.0 (command_of first.0) refl) (λ command asks. asks))

mdwr_fits : (command : Command) (value : ℕ) → command ≡ Mdwr →
    IsPayload command (value_bytes value)
mdwr_fits command value is =
    subst (λ c. IsPayload c (value_bytes value)) (sym is)
    (value_fits value (value_bytes value) refl
    (IsBytes-append (to_le_bytes w32 value) (replicate 12 0) (IsBytes-low 0 4 value)
    (IsBytes-zeros 12)))

digits_fit : (command : Command) (bytes : List ℕ) → is_mdwr command ≡ false →
    length bytes ≡ payload_len_of command → IsBytes bytes → IsPayload command bytes
digits_fit command bytes other long are =
    record { length = long; bytes = are; zeros = λ is. absurd (cc (ap is_mdwr is, other)) }

payload_fits : (command : Command) (word : List ℕ) →
    IfSome (payload_of command word) (IsPayload command)
unfolding payload_of
payload_fits command word = by (is_mdwr command) refl where
  by : (b : Bool) → is_mdwr command ≡ b →
      IfSome (if b then option_map value_bytes (below (2 ^ 32) (number_of word))
      else result_ok (decode_sized word (payload_len_of command))) (IsPayload command)
  by true is =
      map_fits Any (IsPayload command) value_bytes (below (2 ^ 32) (number_of word))
      (any_some (below (2 ^ 32) (number_of word)))
      (λ value any. mdwr_fits command value (is_mdwr-only command is))
  by false is = each (result_ok (decode_sized word (payload_len_of command)))
      (decoded_fits (payload_len_of command) word)
    where
      each : (o : Option (List ℕ)) → IfSome o
          (λ bytes. (length bytes ≡ payload_len_of command) × IsBytes bytes) →
          IfSome o (IsPayload command)
      each None fits = tt
      each (Some bytes) fits = digits_fit command bytes is fits.0 fits.1

take_operand_fits : (command : Command) (words : List (List ℕ)) →
    IfSome (take_operand command words) (λ p. IsPayload command p.0)
unfolding take_operand
take_operand_fits command words =
    then_fits Any (λ p. IsPayload command p.0) (first_word words)
    (λ first. payload_of command first.0 >>= (λ payload. Some (payload, first.1)))
    (any_some (first_word words)) (λ first any.
    then_fits (IsPayload command) (λ p. IsPayload command p.0) (payload_of command first.0)
    (λ payload. Some (payload, first.1)) (payload_fits command first.0) (λ payload is. is))

take_payload_fits : (command : Command) (words : List (List ℕ)) →
    IfSome (take_payload command words) (λ p. IsPayload command p.0)
unfolding take_payload
take_payload_fits command words = by (payload_len_of command == 0) refl where
  by : (b : Bool) → (payload_len_of command == 0) ≡ b →
      IfSome (if b then Some ([], words) else take_operand command words)
      (λ p. IsPayload command p.0)
  by true is = IsPayload-[] command (grind (arith, nat_tests))
  by false is = take_operand_fits command words

request_is : (command : Command) (cube address : ℕ) (payload : List ℕ) →
    family_of command ≡ families.Ask → cube < most_cubes → address < 2 ^ 34 →
    IsPayload command payload →
    IsRequest (record { command = command; cube = cube; address = address; payload = payload })
request_is command cube address payload asks small low is = record {
  asks = asks;
  cube = small;
  address = low;
  payload = is.length;
  bytes = is.bytes;
  zeros = is.zeros;
}

take_request_fits : (words : List (List ℕ)) → IfSome (take_request words) (λ p. IsRequest p.0)
unfolding take_request
take_request_fits words =
    then_fits (λ p. family_of p.0 ≡ families.Ask) (λ p. IsRequest p.0) (take_command words) _
    (take_command_fits words) (λ command asks.
    then_fits (λ p. p.0 < most_cubes) (λ p. IsRequest p.0) (take_number most_cubes command.1) _
    (take_number_fits most_cubes command.1) (λ cube small.
    then_fits (λ p. p.0 < 2 ^ 34) (λ p. IsRequest p.0) (take_number (2 ^ 34) cube.1) _
    (take_number_fits (2 ^ 34) cube.1) (λ address low.
    then_fits (λ p. IsPayload command.0 p.0) (λ p. IsRequest p.0)
    (take_payload command.0 address.1) _ (take_payload_fits command.0 address.1) (λ payload is.
    request_is command.0 cube.0 address.0 payload.0 asks small low is))))

take_tag_fits : (words : List (List ℕ)) → IfSome (take_tag words) (λ p. IsTag p.0)
unfolding take_tag tag_of
take_tag_fits words =
    then_fits Any (λ p. IsTag p.0) (first_word words) _ (any_some (first_word words)) (λ first any.
    then_fits IsTag (λ p. IsTag p.0) _ (λ tag. Some (tag, first.1))
    (if_fits IsTag (bytes_eq first.0 (codes "-")) (Some None)
    (option_map Some (below (2 ^ 16) (number_of first.0))) tt
    (map_fits (λ n. n < 2 ^ 16) IsTag Some (below (2 ^ 16) (number_of first.0))
    (below_fits (2 ^ 16) (number_of first.0)) (λ n small. small))) (λ tag is. is))

pub gave_fits : (words : List (List ℕ)) → IfSome (gave_in words) IsPrintable
unfolding gave_in
gave_fits words =
    then_fits (λ p. p.0 < 256) IsPrintable (take_number 256 words) _ (take_number_fits 256 words)
    (λ host small. then_fits (λ p. IsTag p.0) IsPrintable (take_tag host.1) _
    (take_tag_fits host.1) (λ tag tags.
    then_fits (λ p. IsRequest p.0) IsPrintable
    (take_request (take_this (codes "poison") tag.1).1) _
    (take_request_fits (take_this (codes "poison") tag.1).1)
    (λ request is. record { fits = (small, tags, is); shown = tt })))

-- ---- answers

-- an answer that a line shows, and that fits its type
abbrev Fits : Answer → Type 0
Fits answer = CanBeShown answer × IsAnswer answer

value_small : (bytes : List ℕ) → length bytes ≡ 4 → IsBytes bytes → from_be_bytes w32 bytes < 2 ^ 32
value_small bytes long are = omega (arith, are 0, are 1, are 2, are 3)

value_of_fits : (word : List ℕ) → IfSome (value_of word) (λ value. value < 2 ^ 32)
unfolding value_of
value_of_fits word =
    map_fits (λ bytes. (length bytes ≡ 4) × IsBytes bytes) (λ value. value < 2 ^ 32)
    (from_be_bytes w32) (result_ok (decode_sized word 4)) (decoded_fits 4 word)
    (λ bytes is. value_small bytes is.0 is.1)

returned_fits : (word : List ℕ) → IfSome (returned_of word)
    (λ payload. (is_returned (length payload) ≡ true) × IsBytes payload)
unfolding returned_of
returned_fits word = by (is_returned (length word / 2)) refl where
  by : (b : Bool) → is_returned (length word / 2) ≡ b →
      IfSome (if b then result_ok (decode_sized word (length word / 2)) else None)
      (λ payload. (is_returned (length payload) ≡ true) × IsBytes payload)
  by false is = tt
  by true is = each (result_ok (decode_sized word (length word / 2)))
      (decoded_fits (length word / 2) word)
    where
      each : (o : Option (List ℕ)) → IfSome o
          (λ bytes. (length bytes ≡ length word / 2) × IsBytes bytes) →
          IfSome o (λ payload. (is_returned (length payload) ≡ true) × IsBytes payload)
      each None fits = tt
      each (Some bytes) fits = (ap is_returned fits.0 ∙ is, fits.1)

done_fits : (words : List (List ℕ)) → IfSome (done_in words) Fits
unfolding done_in
done_fits words =
    then_fits Any Fits (first_word words) _ (any_some (first_word words)) (λ first any.
    then_fits Any Fits (flag_of first.0) _ (any_some (flag_of first.0)) (λ flag any2. (tt, tt)))

read_fits : (words : List (List ℕ)) → IfSome (read_in words) Fits
unfolding read_in
read_fits words =
    then_fits Any Fits (first_word words) _ (any_some (first_word words)) (λ first any.
    then_fits Any Fits (flag_of first.0) _ (any_some (flag_of first.0)) (λ flag any2.
    then_fits Any Fits (first_word first.1) _ (any_some (first_word first.1)) (λ second any3.
    then_fits (λ payload. (is_returned (length payload) ≡ true) × IsBytes payload) Fits
    (returned_of second.0) _ (returned_fits second.0) (λ payload is. is))))

register_fits : (words : List (List ℕ)) → IfSome (register_in words) Fits
unfolding register_in
register_fits words =
    then_fits Any Fits (first_word words) _ (any_some (first_word words)) (λ first any.
    then_fits (λ value. value < 2 ^ 32) Fits (value_of first.0) _ (value_of_fits first.0)
    (λ value small. (tt, small)))

refused_fits : (words : List (List ℕ)) → IfSome (refused_in words) Fits
unfolding refused_in
refused_fits words =
    then_fits (λ p. p.0 < 128) Fits (take_number 128 words) _ (take_number_fits 128 words)
    (λ errstat small. (omega (arith, small), tt))

answer_fits : (words : List (List ℕ)) → IfSome (answer_in words) Fits
unfolding answer_in answer_after
answer_fits words =
    then_fits Any Fits (first_word words) _ (any_some (first_word words)) (λ first any.
    if_fits Fits (bytes_eq first.0 (codes "silent")) (Some answers.Silent) _ (tt, tt)
    (if_fits Fits (bytes_eq first.0 (codes "stored")) (Some answers.Stored) _ (tt, tt)
    (if_fits Fits (bytes_eq first.0 (codes "done")) (done_in first.1) _ (done_fits first.1)
    (if_fits Fits (bytes_eq first.0 (codes "read")) (read_in first.1) _ (read_fits first.1)
    (if_fits Fits (bytes_eq first.0 (codes "register")) (register_in first.1) _
    (register_fits first.1)
    (if_fits Fits (bytes_eq first.0 (codes "error")) (refused_in first.1) None
    (refused_fits first.1) tt))))))

pub took_fits : (words : List (List ℕ)) → IfSome (took_in words) IsPrintable
unfolding took_in
took_fits words =
    then_fits (λ p. p.0 < 256) IsPrintable (take_number 256 words) _ (take_number_fits 256 words)
    (λ host small. then_fits (λ p. p.0 < 2 ^ 16) IsPrintable (take_number (2 ^ 16) host.1) _
    (take_number_fits (2 ^ 16) host.1) (λ tag tags.
    then_fits Fits IsPrintable (answer_in tag.1) _ (answer_fits tag.1)
    (λ answer is. record { fits = (small, tags, is.1); shown = is.0 })))

pub retired_fits : (words : List (List ℕ)) → IfSome (retired_in words) IsPrintable
unfolding retired_in
retired_fits words =
    then_fits (λ p. p.0 < 256) IsPrintable (take_number 256 words) _ (take_number_fits 256 words)
    (λ slot small. record { fits = small; shown = tt })
