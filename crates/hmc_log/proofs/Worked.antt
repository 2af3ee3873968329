-- Definitions computed for a case of two hosts and one cube of 8,192 bytes: faults of each kind,
-- logs that are read, and what a response can carry.
use Rattle.std.proofs.Common.{◌≡◌, ℕ, List, [], ◌∷◌, ◌++◌, Option, Some, None, Result, Ok, Err, true, false, refl}
use Rattle.std.specs.Prelude.{codes, replicate}
use Rattle.std.specs.Fmt.{digits}
use Rattle.hex.specs.Hex.{decode_pairs, encode_with}
use Rattle.hmc_codes.specs.Codes.{all_commands}
use Rattle.hmc_codes.specs.Shape.{ShapeFields}
use Rattle.hmc_codes.specs.Table.{table_line}
use Rattle.hmc_codes.specs.Text.{request_text, answer_text}
use Rattle.hmc_codes.specs.declared.answer.Answer.TheVariants as answers
use Rattle.hmc_codes.specs.declared.command.Command.TheVariants as commands
use Rattle.hmc_report.specs.Lines as report
use Rattle.hmc_script.specs.Commands.{requests, command_of}
use Rattle.hmc_script.specs.Payload.{payload_of}
use Rattle.hmc_script.specs.Taken.{take_command, take_operand, take_payload, take_request}
use Rattle.hmc_serial.specs.Actions.{action_of}
use Rattle.hmc_text.specs.InTurn.{after_lines}
use Rattle.hmc_text.specs.Number.{number_after, number_in, number_of}
use Rattle.hmc_text.specs.Reading.{number_word as number_read}
use Rattle.hmc_text.specs.Words.{words_of}
use Rattle.hmc_words.specs.Taking.{take_number}
use Rattle.hmc_entries.specs.declared.entry.Entry.{Entry}
use Rattle.hmc_entries.specs.declared.entry.Entry.TheVariants.{Gave, Took, Retired}
use Rattle.hmc_entries.specs.Lines.{line_of}
use Rattle.hmc_entries.specs.ParseWords.{tag_of as any_tag_of, flag_of, returned_of, value_of}
use Rattle.hmc_entries.specs.ParseParts.{done_in, read_in, register_in, refused_in, answer_after, answer_in}
use Rattle.hmc_entries.specs.ParseEntry.{take_tag, gave_in, took_in, retired_in}
use Rattle.hmc_log.specs.declared.fault.LogKind.{LogKind}
use Rattle.hmc_log.specs.declared.fault.LogKind.TheVariants as kinds
use Rattle.hmc_log.specs.Answers.{is_answer_to}
use Rattle.hmc_log.specs.Before.{out_under, given_by, is_retired}
use Rattle.hmc_log.specs.Lines.{end_text, log_text, lines_in}
use Rattle.hmc_log.specs.Log.{LogFields}
use Rattle.hmc_log.specs.Meaning.{tag_of, tag_word, wrong, given_of, taken_of, slot_of, block_of, is_memory, memory_of, is_register, register_of, drained_of}
use Rattle.hmc_log.specs.Text.{may_give, add_given, add_taken, add_retired, add_block, add_register, gave_line, took_line, retired_line, memory_line, register_line, state_line, entry_line, line_with, statement, after_line, log_of}

abbrev shapes : List ShapeFields
shapes = record { vault_bits = 1; bank_bits = 1; rows = 8; block = 256 } ∷ []

-- lines, each with its line feed
abbrev text_of : List (List ℕ) → List ℕ
text_of [] = []
text_of (line ∷ lines) = line ++ (10 ∷ text_of lines)

-- the fault, or that there is none
abbrev fault_in : Result LogFields (ℕ × LogKind) → Option (ℕ × LogKind)
fault_in (Ok log) = None
fault_in (Err fault) = Some fault

abbrev fault : List (List ℕ) → Option (ℕ × LogKind)
fault lines = fault_in (log_of 2 shapes (text_of lines))

-- first words and their lines: no line is passed over, and none begins with a blank
word_faults :
    fault (codes "give 0 0 rd16 0 0x0" ∷ []) ∷ fault ([] ∷ []) ∷ fault (codes "# gave" ∷ []) ∷
    fault [] ∷ [] ≡
    Some (1, kinds.Word) ∷ Some (1, kinds.Word) ∷ Some (1, kinds.Word) ∷ None ∷ []
unfolding log_of after_lines after_line statement line_with words_of lines_in
word_faults = refl

words_faults :
    fault (codes "gave" ∷ []) ∷ fault (codes "gave 0 1" ∷ []) ∷ fault (codes "gave 0 1 rd16 0" ∷ [])
    ∷ fault (codes "took 0 1 read 0 00 x" ∷ []) ∷ fault (codes "retired 7 0" ∷ []) ∷
    fault (codes "memory 0 0x0" ∷ []) ∷ fault (codes "state" ∷ []) ∷ [] ≡
    replicate 7 (Some (1, kinds.Words))
unfolding log_of after_lines after_line statement line_with entry_line gave_line took_line retired_line memory_line state_line given_of taken_of slot_of memory_of drained_of tag_word tag_of wrong words_of lines_in number_read number_of number_in number_after gave_in took_in retired_in take_number take_tag any_tag_of take_request take_command command_of requests all_commands table_line answer_in answer_after read_in flag_of returned_of line_of
words_faults = refl

host_and_slot_faults :
    fault (codes "gave 2 0 rd16 0 0x0" ∷ []) ∷ fault (codes "took x 0 stored" ∷ []) ∷
    fault (codes "retired 8" ∷ []) ∷ fault (codes "retired 7" ∷ codes "retired 7" ∷ []) ∷
    fault (codes "retired 7" ∷ codes "retired 6" ∷ []) ∷ [] ≡
    Some (1, kinds.Host) ∷ Some (1, kinds.Host) ∷ Some (1, kinds.Slot) ∷ Some (2, kinds.Slot) ∷
    None ∷ []
unfolding log_of after_lines after_line statement line_with entry_line gave_line took_line retired_line memory_line register_line state_line add_given add_taken add_retired add_block add_register given_of taken_of slot_of memory_of register_of drained_of is_memory is_register block_of tag_word tag_of wrong out_under given_by is_retired is_answer_to action_of words_of lines_in number_read number_of number_in number_after gave_in took_in retired_in take_number take_tag any_tag_of take_request take_command take_payload take_operand payload_of command_of requests all_commands table_line answer_in answer_after done_in read_in register_in refused_in flag_of returned_of value_of line_of request_text answer_text digits decode_pairs encode_with report.memory_line report.register_line report.state_line
host_and_slot_faults = refl

-- tags at the limit; where one is due, and where none is; given while it is out, by another host,
-- and again once it was answered
tag_faults :
    fault (codes "gave 0 2048 rd16 0 0x0" ∷ []) ∷ fault (codes "gave 0 2047 rd16 0 0x0" ∷ []) ∷
    fault (codes "gave 0 - rd16 0 0x0" ∷ []) ∷ fault (codes "gave 0 0 pinc8 0 0x0" ∷ []) ∷
    fault (codes "gave 0 0 poison rd16 0 0x0" ∷ []) ∷ fault (codes "gave 0 - pinc8 0 0x0" ∷ []) ∷
    fault (codes "gave 0 1 mdrd 0 0x0" ∷ codes "gave 0 1 mdrd 0 0x0" ∷ []) ∷
    fault (codes "gave 0 1 mdrd 0 0x0" ∷ codes "gave 1 1 mdrd 0 0x0" ∷ []) ∷
    fault (codes "gave 0 1 mdrd 0 0x0" ∷ codes "took 0 1 register 00000000" ∷
    codes "gave 0 1 mdrd 0 0x0" ∷ []) ∷ fault (codes "took 0 1 stored" ∷ []) ∷ [] ≡
    Some (1, kinds.Tag) ∷ None ∷ Some (1, kinds.Tag) ∷ Some (1, kinds.Tag) ∷ Some (1, kinds.Tag) ∷
    None ∷ Some (2, kinds.Tag) ∷ None ∷ None ∷ Some (1, kinds.Tag) ∷ []
unfolding log_of after_lines after_line statement line_with entry_line gave_line took_line retired_line memory_line register_line state_line add_given add_taken add_retired add_block add_register given_of taken_of slot_of memory_of register_of drained_of is_memory is_register block_of tag_word tag_of wrong out_under given_by is_retired is_answer_to action_of words_of lines_in number_read number_of number_in number_after gave_in took_in retired_in take_number take_tag any_tag_of take_request take_command take_payload take_operand payload_of command_of requests all_commands table_line answer_in answer_after done_in read_in register_in refused_in flag_of returned_of value_of line_of request_text answer_text digits decode_pairs encode_with report.memory_line report.register_line report.state_line
tag_faults = refl

-- no such cube, no such command, a number that isn't written so, a second space
request_faults :
    fault (codes "gave 0 0 rd16 1 0x0" ∷ []) ∷ fault (codes "gave 0 0 rd17 0 0x0" ∷ []) ∷
    fault (codes "gave 0 0 rd16 0 0x00" ∷ []) ∷ fault (codes "gave 0  0 rd16 0 0x0" ∷ []) ∷ [] ≡
    replicate 4 (Some (1, kinds.Request))
unfolding log_of after_lines after_line statement line_with entry_line gave_line took_line retired_line memory_line register_line state_line add_given add_taken add_retired add_block add_register given_of taken_of slot_of memory_of register_of drained_of is_memory is_register block_of tag_word tag_of wrong out_under given_by is_retired is_answer_to action_of words_of lines_in number_read number_of number_in number_after gave_in took_in retired_in take_number take_tag any_tag_of take_request take_command take_payload take_operand payload_of command_of requests all_commands table_line answer_in answer_after done_in read_in register_in refused_in flag_of returned_of value_of line_of request_text answer_text digits decode_pairs encode_with report.memory_line report.register_line report.state_line
request_faults = refl

-- no answer, and one that a response to the request can't carry
answer_faults :
    fault (codes "took 0 0 silently" ∷ []) ∷
    fault (codes "gave 0 1 mdrd 0 0x0" ∷ codes "took 0 1 stored" ∷ []) ∷
    fault (codes "gave 0 1 mdrd 0 0x0" ∷ codes "took 0 1 silent" ∷ []) ∷
    fault (codes "gave 0 1 mdrd 0 0x0" ∷ codes "took 0 1 error 7" ∷ []) ∷
    fault (codes "gave 0 1 mdrd 0 0x0" ∷ codes "took 0 1 error 6" ∷ []) ∷ [] ≡
    Some (1, kinds.Answer) ∷ Some (2, kinds.Answer) ∷ Some (2, kinds.Answer) ∷
    Some (2, kinds.Answer) ∷ None ∷ []
unfolding log_of after_lines after_line statement line_with entry_line gave_line took_line retired_line memory_line register_line state_line add_given add_taken add_retired add_block add_register given_of taken_of slot_of memory_of register_of drained_of is_memory is_register block_of tag_word tag_of wrong out_under given_by is_retired is_answer_to action_of words_of lines_in number_read number_of number_in number_after gave_in took_in retired_in take_number take_tag any_tag_of take_request take_command take_payload take_operand payload_of command_of requests all_commands table_line answer_in answer_after done_in read_in register_in refused_in flag_of returned_of value_of line_of request_text answer_text digits decode_pairs encode_with report.memory_line report.register_line report.state_line
answer_faults = refl

-- registers that can be written are 4 to 15
register_faults :
    fault (codes "register 0 3 00000001" ∷ []) ∷ fault (codes "register 0 16 00000001" ∷ []) ∷
    fault (codes "register 1 4 00000001" ∷ []) ∷
    fault (codes "register 0 5 00000001" ∷ codes "register 0 5 00000001" ∷ []) ∷
    fault (codes "register 0 4 00000001" ∷ codes "register 0 15 00000001" ∷ codes "state busy" ∷ [])
    ∷ [] ≡
    Some (1, kinds.Register) ∷ Some (1, kinds.Register) ∷ Some (1, kinds.Register) ∷
    Some (2, kinds.Register) ∷ None ∷ []
unfolding log_of after_lines after_line statement line_with entry_line gave_line took_line retired_line memory_line register_line state_line add_given add_taken add_retired add_block add_register given_of taken_of slot_of memory_of register_of drained_of is_memory is_register block_of tag_word tag_of wrong out_under given_by is_retired is_answer_to action_of words_of lines_in number_read number_of number_in number_after gave_in took_in retired_in take_number take_tag any_tag_of take_request take_command take_payload take_operand payload_of command_of requests all_commands table_line answer_in answer_after done_in read_in register_in refused_in flag_of returned_of value_of line_of request_text answer_text digits decode_pairs encode_with report.memory_line report.register_line report.state_line
register_faults = refl

-- sixteen bytes as digits
abbrev sixteen : List ℕ
sixteen = codes "000000000000000000000000000000ff"

memory_faults :
    fault ((codes "memory 0 0x8 " ++ sixteen) ∷ []) ∷
    fault ((codes "memory 0 0x2000 " ++ sixteen) ∷ []) ∷
    fault ((codes "memory 0 0x10 " ++ sixteen) ∷ (codes "memory 0 0x10 " ++ sixteen) ∷ []) ∷
    fault (codes "register 0 4 00000001" ∷ (codes "memory 0 0x0 " ++ sixteen) ∷ []) ∷
    fault ((codes "memory 0 0x10 " ++ sixteen) ∷ (codes "memory 0 0x1ff0 " ++ sixteen) ∷
    codes "state drained" ∷ []) ∷ [] ≡
    Some (1, kinds.Memory) ∷ Some (1, kinds.Memory) ∷ Some (2, kinds.Memory) ∷
    Some (2, kinds.Memory) ∷ None ∷ []
unfolding log_of after_lines after_line statement line_with entry_line gave_line took_line retired_line memory_line register_line state_line add_given add_taken add_retired add_block add_register given_of taken_of slot_of memory_of register_of drained_of is_memory is_register block_of tag_word tag_of wrong out_under given_by is_retired is_answer_to action_of words_of lines_in number_read number_of number_in number_after gave_in took_in retired_in take_number take_tag any_tag_of take_request take_command take_payload take_operand payload_of command_of requests all_commands table_line answer_in answer_after done_in read_in register_in refused_in flag_of returned_of value_of line_of request_text answer_text digits decode_pairs encode_with report.memory_line report.register_line report.state_line
memory_faults = refl

-- an end that isn't whole, a line after it, and an entry after its first line
end_faults :
    fault (codes "register 0 4 00000001" ∷ codes "register 0 5 00000001" ∷ []) ∷
    fault (codes "state drained" ∷ [] ∷ []) ∷ fault (codes "state done" ∷ []) ∷
    fault (codes "register 0 4 00000001" ∷ codes "retired 0" ∷ []) ∷
    fault (codes "state drained" ∷ []) ∷ [] ≡
    Some (2, kinds.End) ∷ Some (2, kinds.End) ∷ Some (1, kinds.End) ∷ Some (2, kinds.End) ∷ None ∷ []
unfolding log_of after_lines after_line statement line_with entry_line gave_line took_line retired_line memory_line register_line state_line add_given add_taken add_retired add_block add_register given_of taken_of slot_of memory_of register_of drained_of is_memory is_register block_of tag_word tag_of wrong out_under given_by is_retired is_answer_to action_of words_of lines_in number_read number_of number_in number_after gave_in took_in retired_in take_number take_tag any_tag_of take_request take_command take_payload take_operand payload_of command_of requests all_commands table_line answer_in answer_after done_in read_in register_in refused_in flag_of returned_of value_of line_of request_text answer_text digits decode_pairs encode_with report.memory_line report.register_line report.state_line
end_faults = refl

-- the last request that a host may give, and one more
may_give-last : (past : List Entry) → given_by 1 past ≡ 65535 → may_give past 1 None ≡ Ok tt
may_give-last past few = rw few refl

may_give-more : (past : List Entry) → given_by 1 past ≡ 65536 →
    may_give past 1 None ≡ Err kinds.TooMany
may_give-more past many = rw many refl

-- a register is written, and is there at the end
abbrev written_log : LogFields
written_log = record {
  entries =
      Gave 1 (Some 9) false (record {
        command = commands.Mdwr;
        cube = 0;
        address = 4;
        payload = 7 ∷ replicate 15 0;
      }) ∷ Took 1 9 answers.Stored ∷ Retired 3 ∷ [];
  ending = Some (record {
    memory = [];
    registers = record { cube = 0; number = 4; value = 7 } ∷ [];
    drained = true;
  });
}

abbrev written_text : List ℕ
written_text = text_of (codes "gave 1 9 mdwr 0 0x4 7" ∷ codes "took 1 9 stored" ∷
    codes "retired 3" ∷ codes "register 0 4 00000007" ∷ codes "state drained" ∷ [])

log_of-written : log_of 2 shapes written_text ≡ Ok written_log
unfolding log_of after_lines after_line statement line_with entry_line gave_line took_line retired_line memory_line register_line state_line add_given add_taken add_retired add_block add_register given_of taken_of slot_of memory_of register_of drained_of is_memory is_register block_of tag_word tag_of wrong out_under given_by is_retired is_answer_to action_of words_of lines_in number_read number_of number_in number_after gave_in took_in retired_in take_number take_tag any_tag_of take_request take_command take_payload take_operand payload_of command_of requests all_commands table_line answer_in answer_after done_in read_in register_in refused_in flag_of returned_of value_of line_of request_text answer_text digits decode_pairs encode_with report.memory_line report.register_line report.state_line
log_of-written = refl

log_text-written : log_text written_log ≡ written_text
unfolding log_text end_text log_of after_lines after_line statement line_with entry_line gave_line took_line retired_line memory_line register_line state_line add_given add_taken add_retired add_block add_register given_of taken_of slot_of memory_of register_of drained_of is_memory is_register block_of tag_word tag_of wrong out_under given_by is_retired is_answer_to action_of words_of lines_in number_read number_of number_in number_after gave_in took_in retired_in take_number take_tag any_tag_of take_request take_command take_payload take_operand payload_of command_of requests all_commands table_line answer_in answer_after done_in read_in register_in refused_in flag_of returned_of value_of line_of request_text answer_text digits decode_pairs encode_with report.memory_line report.register_line report.state_line
log_text-written = refl

-- a response returns as many bytes as a read asks for, and a block for other requests
is_answer_to-reads :
    is_answer_to commands.Rd32 (answers.Read false (replicate 32 0)) ∷
    is_answer_to commands.Rd32 (answers.Read false (replicate 16 0)) ∷
    is_answer_to commands.Unit0 (answers.Read true (replicate 16 0)) ∷
    is_answer_to commands.Wr32 (answers.Done true) ∷ is_answer_to commands.Wr32 answers.Stored ∷
    is_answer_to commands.Mdwr (answers.Refused 1) ∷ is_answer_to commands.Mdwr (answers.Refused 0) ∷
    [] ≡ true ∷ false ∷ true ∷ true ∷ false ∷ true ∷ false ∷ []
unfolding is_answer_to action_of table_line
is_answer_to-reads = refl
