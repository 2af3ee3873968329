-- The final lines of small networks, written out by hand.
use Rattle.std.proofs.Common.{◌≡◌, ℕ, true, false, List, [], ◌∷◌, ◌++◌, refl}
use Rattle.std.specs.Prelude.{codes, replicate, map, ◌==◌, if◌then◌else◌}
use Rattle.std.specs.Fmt.{decimal}
use Rattle.hex.specs.Hex.{encode_lower}
use Rattle.hmc_codes.specs.Numbers.{upto}
use Rattle.hmc_codes.specs.Text.{line, hex_number}
use Rattle.hmc_report.specs.Lines.{lines_of_blocks, memory_line, memory_lines, lines_of_registers, register_line, register_lines, token_line, counter_line, host_line, cube_line, state_line}
use Rattle.hmc_report.specs.Final.{FinalValues, ending_lines, final_lines, lines_from}
use Rattle.hmc_report.specs.declared.part.Part.TheVariants as parts

-- the first of two blocks is zero, and has no line
memory_lines-second : memory_lines 1 (replicate 16 0 ++ (0xab ∷ replicate 15 0)) ≡
    line (codes "memory" ∷ decimal 1 ∷ hex_number 0x10 ∷ encode_lower (0xab ∷ replicate 15 0) ∷ []) ∷ []
unfolding lines_of_blocks memory_line
memory_lines-second = refl

-- registers 0 to 3 have no line, and neither has a zero
register_lines-last : register_lines 0 (9 ∷ 9 ∷ 9 ∷ 9 ∷ (replicate 11 0 ++ (0x1234abcd ∷ []))) ≡
    line (codes "register" ∷ decimal 0 ∷ decimal 15 ∷ encode_lower (0x12 ∷ 0x34 ∷ 0xab ∷ 0xcd ∷ []) ∷ []) ∷ []
unfolding lines_of_registers register_line
register_lines-last = refl

host_line-counts : host_line 2 (record { given = 12; taken = 1; out = 0 }) ≡
    codes "host " ++ (decimal 2 ++ (32 ∷ (decimal 12 ++ (32 ∷ (decimal 1 ++ (32 ∷ (decimal 0 ++ (10 ∷ []))))))))
unfolding host_line
host_line-counts = refl

cube_line-counts : cube_line 0 (record { executed = 10; dropped = 3 }) ≡
    codes "cube " ++ (decimal 0 ++ (32 ∷ (decimal 10 ++ (32 ∷ (decimal 3 ++ (10 ∷ []))))))
unfolding cube_line
cube_line-counts = refl

state_line-both : state_line true ∷ state_line false ∷ [] ≡ (codes "state drained" ++ 10 ∷ []) ∷ (codes "state busy" ++ 10 ∷ []) ∷ []
unfolding state_line
state_line-both = refl

-- a line of a word and numbers
abbrev numbers : List ℕ → List ℕ → List ℕ
numbers word ns = line (word ∷ map decimal ns)

-- a cube of 1,024 bytes whose fifth block is written, as a write and a read leave it
abbrev write_then_read : FinalValues
write_then_read = record {
  cubes = 1;
  directions = 2;
  hosts = 1;
  memory = λ cube. replicate 64 0 ++ (upto 16 ++ replicate 944 0);
  registers = λ cube. 0 ∷ 0 ∷ 0 ∷ 4 ∷ replicate 12 0;
  tokens = λ direction. record { held = 34; transit = 0; used = 0; due = 0; returning = 0 };
  counters = λ direction. record {
    sent = 100;
    landed = 100;
    changed = 0;
    accepted = if direction == 0 then 5 else 4;
    repeats = 0;
    aborts = 0;
  };
  host_counts = λ host. record { given = 2; taken = 2; out = 0 };
  cube_counts = λ cube. record { executed = 2; dropped = 0 };
  drained = true;
}

final_lines-write_then_read : final_lines write_then_read ≡
    line (codes "memory" ∷ decimal 0 ∷ hex_number 0x40 ∷ encode_lower (upto 16) ∷ []) ∷
    numbers (codes "tokens") (0 ∷ 34 ∷ 0 ∷ 0 ∷ 0 ∷ 0 ∷ 34 ∷ []) ∷
    numbers (codes "tokens") (1 ∷ 34 ∷ 0 ∷ 0 ∷ 0 ∷ 0 ∷ 34 ∷ []) ∷
    numbers (codes "counters") (0 ∷ 100 ∷ 100 ∷ 0 ∷ 5 ∷ 0 ∷ 0 ∷ []) ∷
    numbers (codes "counters") (1 ∷ 100 ∷ 100 ∷ 0 ∷ 4 ∷ 0 ∷ 0 ∷ []) ∷
    numbers (codes "host") (0 ∷ 2 ∷ 2 ∷ 0 ∷ []) ∷
    numbers (codes "cube") (0 ∷ 2 ∷ 0 ∷ []) ∷
    line (codes "state" ∷ codes "drained" ∷ []) ∷ []
unfolding final_lines ending_lines lines_of_blocks memory_line lines_of_registers register_line token_line counter_line host_line cube_line state_line
final_lines-write_then_read = refl

-- the same cube before the first step: all tokens are due, and no block has a line
abbrev empty_case : FinalValues
empty_case = record {
  cubes = 1;
  directions = 2;
  hosts = 1;
  memory = λ cube. replicate 1024 0;
  registers = λ cube. 0 ∷ 0 ∷ 0 ∷ 4 ∷ replicate 12 0;
  tokens = λ direction. record { held = 0; transit = 0; used = 0; due = 34; returning = 0 };
  counters = λ direction. record { sent = 0; landed = 0; changed = 0; accepted = 0; repeats = 0; aborts = 0 };
  host_counts = λ host. record { given = 0; taken = 0; out = 0 };
  cube_counts = λ cube. record { executed = 0; dropped = 0 };
  drained = true;
}

final_lines-empty_case : final_lines empty_case ≡
    numbers (codes "tokens") (0 ∷ 0 ∷ 0 ∷ 0 ∷ 34 ∷ 0 ∷ 34 ∷ []) ∷
    numbers (codes "tokens") (1 ∷ 0 ∷ 0 ∷ 0 ∷ 34 ∷ 0 ∷ 34 ∷ []) ∷
    numbers (codes "counters") (0 ∷ 0 ∷ 0 ∷ 0 ∷ 0 ∷ 0 ∷ 0 ∷ []) ∷
    numbers (codes "counters") (1 ∷ 0 ∷ 0 ∷ 0 ∷ 0 ∷ 0 ∷ 0 ∷ []) ∷
    numbers (codes "host") (0 ∷ 0 ∷ 0 ∷ 0 ∷ []) ∷
    numbers (codes "cube") (0 ∷ 0 ∷ 0 ∷ []) ∷
    line (codes "state" ∷ codes "drained" ∷ []) ∷ []
unfolding final_lines ending_lines lines_of_blocks memory_line lines_of_registers register_line token_line counter_line host_line cube_line state_line
final_lines-empty_case = refl

-- two cubes of 48 bytes: all memory comes before all registers, and from the tokens on there is
-- neither
abbrev two_cubes : FinalValues
two_cubes = record {
  cubes = 2;
  directions = 0;
  hosts = 2;
  memory = λ cube. if cube == 0 then replicate 16 0 ++ (0xff ∷ replicate 31 0) else replicate 32 1 ++ replicate 16 0;
  registers = λ cube. if cube == 0 then 0 ∷ 0 ∷ 0 ∷ 4 ∷ 10 ∷ replicate 11 0 else 1 ∷ 9 ∷ 9 ∷ 9 ∷ (replicate 11 0 ++ (0x1234abcd ∷ []));
  tokens = λ direction. record { held = 1; transit = 2; used = 3; due = 4; returning = 5 };
  counters = λ direction. record { sent = 6; landed = 5; changed = 4; accepted = 3; repeats = 2; aborts = 1 };
  host_counts = λ host. record { given = 3; taken = 2; out = 1 };
  cube_counts = λ cube. record { executed = 12; dropped = 1 };
  drained = false;
}

abbrev endings : List (List ℕ)
endings =
    numbers (codes "host") (0 ∷ 3 ∷ 2 ∷ 1 ∷ []) ∷
    numbers (codes "host") (1 ∷ 3 ∷ 2 ∷ 1 ∷ []) ∷
    numbers (codes "cube") (0 ∷ 12 ∷ 1 ∷ []) ∷
    numbers (codes "cube") (1 ∷ 12 ∷ 1 ∷ []) ∷
    line (codes "state" ∷ codes "busy" ∷ []) ∷ []

lines_from-two_cubes-tokens : lines_from parts.Tokens two_cubes ≡ endings
unfolding final_lines ending_lines lines_of_blocks memory_line lines_of_registers register_line token_line counter_line host_line cube_line state_line
lines_from-two_cubes-tokens = refl

lines_from-two_cubes-memory : lines_from parts.Memory two_cubes ≡
    line (codes "memory" ∷ decimal 0 ∷ hex_number 0x10 ∷ encode_lower (0xff ∷ replicate 15 0) ∷ []) ∷
    line (codes "memory" ∷ decimal 1 ∷ hex_number 0 ∷ encode_lower (replicate 16 1) ∷ []) ∷
    line (codes "memory" ∷ decimal 1 ∷ hex_number 0x10 ∷ encode_lower (replicate 16 1) ∷ []) ∷
    line (codes "register" ∷ decimal 0 ∷ decimal 4 ∷ encode_lower (0 ∷ 0 ∷ 0 ∷ 0xa ∷ []) ∷ []) ∷
    line (codes "register" ∷ decimal 1 ∷ decimal 15 ∷ encode_lower (0x12 ∷ 0x34 ∷ 0xab ∷ 0xcd ∷ []) ∷ []) ∷ endings
unfolding final_lines ending_lines lines_of_blocks memory_line lines_of_registers register_line token_line counter_line host_line cube_line state_line
lines_from-two_cubes-memory = refl

-- each count in its place, and the advertised tokens after those that they are made of
token_line-each : token_line 7 (record { held = 1; transit = 20; used = 3; due = 400; returning = 5 }) ≡ numbers (codes "tokens") (7 ∷ 1 ∷ 20 ∷ 3 ∷ 400 ∷ 5 ∷ 429 ∷ [])
unfolding token_line
token_line-each = refl

counter_line-each : counter_line 10 (record { sent = 60; landed = 50; changed = 4; accepted = 30; repeats = 2; aborts = 1 }) ≡ numbers (codes "counters") (10 ∷ 60 ∷ 50 ∷ 4 ∷ 30 ∷ 2 ∷ 1 ∷ [])
unfolding counter_line
counter_line-each = refl
