-- Definitions computed for a case of two hosts and two cubes: payloads, lines, and a script with fences.
use Rattle.std.proofs.Common.{◌≡◌, ℕ, List, [], ◌∷◌, ◌++◌, length, Some, None, Ok, Err, true, false, Bool, refl, arith}
use Rattle.std.specs.Prelude.{codes, map, replicate}
use Rattle.std.specs.List.{range_with_len}
use Rattle.std.specs.Borrow.{Bor}
use Rattle.std.specs.Fmt.{digits}
use Rattle.hex.specs.Hex.{decode_pairs}
use Rattle.hmc_codes.specs.Request.{RequestFields}
use Rattle.hmc_codes.specs.Table.{table_line}
use Rattle.hmc_codes.specs.Codes.{all_commands}
use Rattle.hmc_codes.specs.Text.{request_text}
use Rattle.hmc_codes.specs.declared.command.Command.TheVariants as commands
use Rattle.hmc_text.specs.InTurn.{after_lines}
use Rattle.hmc_text.specs.Lines.{lines_of}
use Rattle.hmc_text.specs.Number.{number_after, number_in, number_of}
use Rattle.hmc_text.specs.Reading.{number_word as number_read}
use Rattle.hmc_text.specs.Words.{words_of}
use Rattle.hmc_script.specs.declared.fault.ScriptKind.TheVariants.{Command}
use Rattle.hmc_script.specs.declared.meaning.Head.TheVariants as heads
use Rattle.hmc_script.specs.declared.meaning.Meaning.TheVariants.{Ask}
use Rattle.hmc_script.specs.declared.stored.Short.{Short}
use Rattle.hmc_script.specs.Commands.{requests, command_of, first_tried, second_tried, IsNoneOf}
use Rattle.hmc_script.specs.Head.{meaning_from, IsOfHost}
use Rattle.hmc_script.specs.Items.{ItemFields, IsWithin}
use Rattle.hmc_script.specs.Meaning.{command_word, request_of, ask_of, fence_of, statement_of, meaning_of}
use Rattle.hmc_script.specs.Payload.{value_bytes, payload_of, no_payload, some_payload, payload_word}
use Rattle.hmc_script.specs.Script.{after_meaning, after_line, script_of}
use Rattle.hmc_script.specs.Stored.{items_in, IsStored}
use Rattle.hmc_script.specs.Text.{item_text, script_text}

requests-count : length requests ≡ 62
unfolding requests all_commands table_line
requests-count = refl

-- how many words are tried first, and how many next
tried-counts : length first_tried ∷ length second_tried ∷ [] ≡ 18 ∷ 22 ∷ []
unfolding first_tried second_tried
tried-counts = refl

-- a word is that of none of two commands, and it is that of the second
IsNoneOf-other : IsNoneOf (codes "swap16") (commands.Wr16 ∷ commands.Or16 ∷ [])
unfolding IsNoneOf table_line
IsNoneOf-other = ((λ same. absurd cc), ((λ same. absurd cc), tt))

IsNoneOf-second : IsNoneOf (codes "or16") (commands.Wr16 ∷ commands.Or16 ∷ []) → ⊥
unfolding IsNoneOf table_line
IsNoneOf-second is = is.1.0 refl

-- the lowest byte of a value comes first
value_bytes-mixed : value_bytes 0x0a0b0c0d ≡ 0x0d ∷ 0x0c ∷ 0x0b ∷ 0x0a ∷ replicate 12 0
value_bytes-mixed = refl

payload_of-digits : payload_of commands.Wr16 (codes "000102030405060708090a0B0c0D0e0f") ≡ Some (range_with_len 0 16)
unfolding payload_of table_line decode_pairs
payload_of-digits = refl

payload_of-values : map (payload_of commands.Mdwr) (codes "0x04030201" ∷ codes "0x100000000" ∷ []) ≡ Some (1 ∷ 2 ∷ 3 ∷ 4 ∷ replicate 12 0) ∷ None ∷ []
unfolding payload_of number_of number_in number_after
payload_of-values = refl

abbrev read_at : ℕ → ℕ → RequestFields
read_at cube address = record { command = commands.Rd16; cube = cube; address = address; payload = [] }

abbrev item_of : (host : ℕ) (fenced : Bool) → RequestFields → ItemFields
item_of host fenced request = record { host = host; fenced = fenced; poisoned = false; request = request }

-- a fence waits for its own host, and the second of two adds nothing
abbrev fenced_text : List ℕ
fenced_text = codes "0 fence" ++ 10 ∷ codes "0 fence" ++ 10 ∷ codes "1 rd16 1 0x40" ++ 10 ∷ codes "# none" ++ 10 ∷ codes "0 rd16 0 64" ++ 10 ∷ codes "0 rd16 0 0" ++ 10 ∷ codes "1 fence" ++ []

abbrev fenced_items : List ItemFields
fenced_items = item_of 1 false (read_at 1 0x40) ∷ item_of 0 true (read_at 0 0x40) ∷ item_of 0 false (read_at 0 0) ∷ []

script_of-fences : script_of 2 2 fenced_text ≡ Ok fenced_items
unfolding script_of after_lines after_line after_meaning lines_of words_of meaning_of statement_of fence_of ask_of request_of command_word command_of requests all_commands table_line number_read number_of number_in number_after payload_word no_payload some_payload payload_of
script_of-fences = refl

script_of-fault : script_of 2 2 (codes "0 fence" ++ 10 ∷ codes "0 poison fence" ++ 10 ∷ codes "x" ++ []) ≡ Err (2, Command)
unfolding script_of after_lines after_line after_meaning lines_of words_of meaning_of statement_of fence_of ask_of request_of command_word command_of requests all_commands table_line number_read number_of number_in number_after
script_of-fault = refl

-- the words behind a head are those of the request, and a fault before them is the line's
meaning_from-poisoned : (rest : Bor (List ℕ)) → rest.now ≡ codes "rd16 0 64" → meaning_from 1 (Ok (heads.Ask 0 true rest)) ≡ Ok (Ask 0 true (read_at 0 64))
unfolding words_of ask_of request_of command_word command_of requests all_commands table_line number_read number_of number_in number_after payload_word no_payload some_payload payload_of
meaning_from-poisoned rest is = rw is refl

meaning_from-fault : meaning_from 1 (Err Command) ≡ Err Command
meaning_from-fault = refl

IsOfHost-past : IsOfHost 1 (heads.Fence 1) → ⊥
IsOfHost-past is = omega (arith, is)

-- a fence is printed just before its request, and a last fence is not printed
script_text-fences : script_text fenced_items ≡
    codes "1 rd16 1 0x40" ++ 10 ∷ codes "0 fence" ++ 10 ∷ codes "0 rd16 0 0x40" ++ 10 ∷ codes "0 rd16 0 0x0" ++ 10 ∷ []
unfolding script_text item_text request_text table_line digits
script_text-fences = refl

IsWithin-last : IsWithin 2 2 (item_of 1 false (read_at 1 0))
IsWithin-last = record { host = omega arith; cube = omega arith }

IsWithin-host : IsWithin 2 2 (item_of 2 false (read_at 1 0)) → ⊥
IsWithin-host is = omega (arith, is.host)

-- a write of 16 bytes, a read, and a register's value, whose bytes begin after those of the write
abbrev three_shorts : List Short
three_shorts =
    record { host = 0; fenced = false; poisoned = true; command = commands.Wr16; cube = 1; address = 32; start = 0 } ∷
    record { host = 1; fenced = true; poisoned = false; command = commands.Rd16; cube = 0; address = 16; start = 16 } ∷
    record { host = 0; fenced = false; poisoned = false; command = commands.Mdwr; cube = 0; address = 2; start = 16 } ∷ []

items_in-three : items_in (replicate 16 7 ++ 5 ∷ replicate 15 0) three_shorts ≡
    record { host = 0; fenced = false; poisoned = true; request = record { command = commands.Wr16; cube = 1; address = 32; payload = replicate 16 7 } } ∷
    record { host = 1; fenced = true; poisoned = false; request = record { command = commands.Rd16; cube = 0; address = 16; payload = [] } } ∷
    record { host = 0; fenced = false; poisoned = false; request = record { command = commands.Mdwr; cube = 0; address = 2; payload = 5 ∷ replicate 15 0 } } ∷ []
unfolding table_line
items_in-three = refl

-- a payload that ends after the last byte is never kept
IsStored-past : IsStored (replicate 31 7) three_shorts → ⊥
unfolding table_line
IsStored-past is = omega (arith, is.inside 2 (record { host = 0; fenced = false; poisoned = false; command = commands.Null; cube = 0; address = 0; start = 0 }) (omega arith))
