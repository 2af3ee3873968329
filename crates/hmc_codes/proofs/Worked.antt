-- Definitions computed: the table by groups of commands, whose codes and lengths go up by one, and the codes at its edges;
-- texts and padding; blocks, a shape with blocks of 64 bytes, and the profiles.
use Rattle.std.proofs.Common.{◌≡◌, ◌≤◌, ℕ, List, [], ◌∷◌, ◌++◌, Some, None, true, false, refl, arith, lit≤}
use Rattle.std.specs.Prelude.{codes, map, replicate}
use Rattle.std.specs.List.{range_with_len}
use Rattle.hmc_codes.specs.declared.command.Command.{Command}
use Rattle.hmc_codes.specs.declared.command.Command.TheVariants as commands
use Rattle.hmc_codes.specs.Bytes.{padded_bytes}
use Rattle.hmc_codes.specs.Table.{table_line}
use Rattle.hmc_codes.specs.Commands.{code_of, reply_of, allows_of, is_posted, payload_len_of}
use Rattle.hmc_codes.specs.Text.{line, operand_words}
use Rattle.hmc_codes.specs.Codes.{all_commands, command_of}
use Rattle.hmc_codes.specs.Shape.{ShapeFields, is_block, capacity_of, offset_of, vault_of, bank_of, row_of}
use Rattle.hmc_codes.specs.Profile.{modulus_of, most_retry}
use Rattle.hmc_codes.specs.Link.{LinkFields, IsLinkSetup}
use Rattle.hmc_codes.specs.declared.profile.Profile.{Profile}
use Rattle.hmc_codes.specs.declared.profile.Profile.TheVariants.{One, Two}

-- writes, posted writes and reads of 16 to 128 bytes
abbrev writes : List Command
writes =
    commands.Wr16 ∷ commands.Wr32 ∷ commands.Wr48 ∷ commands.Wr64 ∷ commands.Wr80 ∷ commands.Wr96 ∷
    commands.Wr112 ∷ commands.Wr128 ∷ []

abbrev posted_writes : List Command
posted_writes =
    commands.Pwr16 ∷ commands.Pwr32 ∷ commands.Pwr48 ∷ commands.Pwr64 ∷ commands.Pwr80 ∷ commands.Pwr96 ∷
    commands.Pwr112 ∷ commands.Pwr128 ∷ []

abbrev reads : List Command
reads =
    commands.Rd16 ∷ commands.Rd32 ∷ commands.Rd48 ∷ commands.Rd64 ∷ commands.Rd80 ∷ commands.Rd96 ∷
    commands.Rd112 ∷ commands.Rd128 ∷ []

-- atomic commands that give back the old bytes, in the order of their codes
abbrev old_bytes : List Command
old_bytes =
    commands.Xor16 ∷ commands.Or16 ∷ commands.Nor16 ∷ commands.And16 ∷ commands.Nand16 ∷ commands.Bwr8r ∷
    commands.TwoAdds8r ∷ commands.Adds16r ∷ commands.Casgt8 ∷ commands.Caslt8 ∷ commands.Casgt16 ∷
    commands.Caslt16 ∷ commands.Caseq8 ∷ commands.Caszero16 ∷ commands.Swap16 ∷ []

abbrev units : List Command
units =
    commands.Unit0 ∷ commands.Unit1 ∷ commands.Unit2 ∷ commands.Unit3 ∷ commands.Unit4 ∷ commands.Unit5 ∷
    commands.Unit6 ∷ commands.Unit7 ∷ []

code_of-writes : map code_of writes ≡ range_with_len 8 8
unfolding table_line
code_of-writes = refl

code_of-posted_writes : map code_of posted_writes ≡ range_with_len 24 8
unfolding table_line
code_of-posted_writes = refl

code_of-reads : map code_of reads ≡ range_with_len 48 8
unfolding table_line
code_of-reads = refl

code_of-old_bytes : map code_of old_bytes ≡
    64 ∷ 65 ∷ 66 ∷ 67 ∷ 68 ∷ 81 ∷ 82 ∷ 83 ∷ 96 ∷ 97 ∷ 98 ∷ 99 ∷ 100 ∷ 101 ∷ 106 ∷ []
unfolding table_line
code_of-old_bytes = refl

code_of-units : map code_of units ≡ 112 ∷ 113 ∷ 114 ∷ 115 ∷ 116 ∷ 117 ∷ 118 ∷ 120 ∷ []
unfolding table_line
code_of-units = refl

-- a write's payload is what it writes, and a read and an increment have none
payload_len_of-writes : map payload_len_of writes ≡ 16 ∷ 32 ∷ 48 ∷ 64 ∷ 80 ∷ 96 ∷ 112 ∷ 128 ∷ []
unfolding table_line
payload_len_of-writes = refl

payload_len_of-posted_writes : map payload_len_of posted_writes ≡ 16 ∷ 32 ∷ 48 ∷ 64 ∷ 80 ∷ 96 ∷ 112 ∷ 128 ∷ []
unfolding table_line
payload_len_of-posted_writes = refl

payload_len_of-rows : map payload_len_of (commands.Wr256 ∷ commands.Pwr256 ∷ commands.Rd256 ∷ []) ≡ 256 ∷ 256 ∷ 0 ∷ []
unfolding table_line
payload_len_of-rows = refl

payload_len_of-reads : map payload_len_of reads ≡ 0 ∷ 0 ∷ 0 ∷ 0 ∷ 0 ∷ 0 ∷ 0 ∷ 0 ∷ []
unfolding table_line
payload_len_of-reads = refl

payload_len_of-increments : map payload_len_of (commands.Inc8 ∷ commands.Pinc8 ∷ commands.Mdrd ∷ []) ≡ 0 ∷ 0 ∷ 0 ∷ []
unfolding table_line
payload_len_of-increments = refl

payload_len_of-old_bytes : map payload_len_of old_bytes ≡ replicate 15 16
unfolding table_line
payload_len_of-old_bytes = refl

-- which are answered, and by what
is_posted-posted_writes : map is_posted posted_writes ≡ true ∷ true ∷ true ∷ true ∷ true ∷ true ∷ true ∷ true ∷ []
unfolding table_line
is_posted-posted_writes = refl

reply_of-writes : map reply_of writes ≡ map (λ _. Some commands.WrRs) writes
unfolding table_line
reply_of-writes = refl

reply_of-reads : map reply_of reads ≡ map (λ _. Some commands.RdRs) reads
unfolding table_line
reply_of-reads = refl

reply_of-old_bytes : map reply_of old_bytes ≡ map (λ _. Some commands.RdRs) old_bytes
unfolding table_line
reply_of-old_bytes = refl

reply_of-units : map reply_of units ≡ map (λ _. Some commands.RdRs) units
unfolding table_line
reply_of-units = refl

-- returned data has 2 to 9 flits, or 17
allows_of-data : map (allows_of commands.RdRs) (0 ∷ 1 ∷ 2 ∷ 9 ∷ 10 ∷ 16 ∷ 17 ∷ 18 ∷ []) ≡
    false ∷ false ∷ true ∷ true ∷ false ∷ false ∷ true ∷ false ∷ []
unfolding table_line
allows_of-data = refl

padded-three : padded_bytes 5 (1 ∷ 2 ∷ 3 ∷ []) ≡ 1 ∷ 2 ∷ 3 ∷ 0 ∷ 0 ∷ []
unfolding padded_bytes
padded-three = refl

line-words : line (codes "took" ∷ codes "0" ∷ codes "silent" ∷ []) ≡ codes "took 0 silent" ++ 10 ∷ []
line-words = refl

line-nothing : line [] ≡ 10 ∷ []
line-nothing = refl

-- codes at the edges of the table's groups; there is no command with a code between them
command_of-flow : map command_of (0 ∷ 3 ∷ 4 ∷ 7 ∷ []) ≡ Some commands.Null ∷ Some commands.Irtry ∷ None ∷ None ∷ []
unfolding table_line all_commands command_of
command_of-flow = refl

command_of-writes : map command_of (8 ∷ 15 ∷ 16 ∷ 19 ∷ 20 ∷ 23 ∷ 24 ∷ 31 ∷ 32 ∷ 33 ∷ 35 ∷ 36 ∷ []) ≡
    Some commands.Wr16 ∷ Some commands.Wr128 ∷ Some commands.Mdwr ∷ Some commands.Add16 ∷ None ∷ None ∷ Some commands.Pwr16 ∷
    Some commands.Pwr128 ∷ None ∷ Some commands.Pbwr ∷ Some commands.Padd16 ∷ None ∷ []
unfolding table_line all_commands command_of
command_of-writes = refl

command_of-reads : map command_of (39 ∷ 40 ∷ 41 ∷ 47 ∷ 48 ∷ 55 ∷ 56 ∷ 59 ∷ 60 ∷ 61 ∷ 62 ∷ 63 ∷ []) ≡
    None ∷ Some commands.Mdrd ∷ None ∷ None ∷ Some commands.Rd16 ∷ Some commands.Rd128 ∷ Some commands.RdRs ∷
    Some commands.MdWrRs ∷ None ∷ None ∷ Some commands.Error ∷ None ∷ []
unfolding table_line all_commands command_of
command_of-reads = refl

command_of-atomics : map command_of (64 ∷ 68 ∷ 69 ∷ 78 ∷ 79 ∷ 80 ∷ 84 ∷ 85 ∷ 94 ∷ 95 ∷ 96 ∷ 101 ∷ 102 ∷ 103 ∷ 104 ∷ 106 ∷ 107 ∷ []) ≡
    Some commands.Xor16 ∷ Some commands.Nand16 ∷ None ∷ None ∷ Some commands.Wr256 ∷ Some commands.Inc8 ∷ Some commands.Pinc8 ∷
    None ∷ None ∷ Some commands.Pwr256 ∷ Some commands.Casgt8 ∷ Some commands.Caszero16 ∷ None ∷ None ∷ Some commands.Eq16 ∷
    Some commands.Swap16 ∷ None ∷ []
unfolding table_line all_commands command_of
command_of-atomics = refl

command_of-units : map command_of (111 ∷ 112 ∷ 118 ∷ 119 ∷ 120 ∷ 121 ∷ 127 ∷ 255 ∷ []) ≡
    None ∷ Some commands.Unit0 ∷ Some commands.Unit6 ∷ Some commands.Rd256 ∷ Some commands.Unit7 ∷ None ∷ None ∷ None ∷ []
unfolding table_line all_commands command_of
command_of-units = refl

-- a block has 32, 64, 128 or 256 bytes
is_block-each : map is_block (32 ∷ 64 ∷ 128 ∷ 256 ∷ []) ≡ true ∷ true ∷ true ∷ true ∷ []
is_block-each = refl

is_block-not : map is_block (0 ∷ 16 ∷ 31 ∷ 33 ∷ 48 ∷ 96 ∷ 255 ∷ 512 ∷ []) ≡
    false ∷ false ∷ false ∷ false ∷ false ∷ false ∷ false ∷ false ∷ []
is_block-not = refl

-- two vaults of one bank of four blocks of 64 bytes
abbrev small_blocks : ShapeFields
small_blocks = record { vault_bits = 1; bank_bits = 0; rows = 4; block = 64 }

capacity_of-small_blocks : capacity_of small_blocks ≡ 512
capacity_of-small_blocks = refl

offset_of-small_blocks : map (offset_of small_blocks) (0x40 ∷ 0x7f ∷ 0xd5 ∷ []) ≡ 0 ∷ 63 ∷ 0x15 ∷ []
offset_of-small_blocks = refl

vault_of-small_blocks : map (vault_of small_blocks) (0x3f ∷ 0x40 ∷ 0x7f ∷ 0x80 ∷ 0xd5 ∷ []) ≡ 0 ∷ 1 ∷ 1 ∷ 0 ∷ 1 ∷ []
vault_of-small_blocks = refl

bank_of-small_blocks : map (bank_of small_blocks) (0x40 ∷ 0x80 ∷ 0x1ff ∷ []) ≡ 0 ∷ 0 ∷ 0 ∷ []
bank_of-small_blocks = refl

row_of-small_blocks : map (row_of small_blocks) (0x40 ∷ 0x7f ∷ 0x80 ∷ 0x1ff ∷ 0x200 ∷ []) ≡ 0 ∷ 0 ∷ 1 ∷ 3 ∷ 4 ∷ []
row_of-small_blocks = refl

-- the same address at each size of a block: four vaults of two banks
abbrev with_block : (bytes : ℕ) → ShapeFields
with_block bytes = record { vault_bits = 2; bank_bits = 1; rows = 8; block = bytes }

offset_of-each : map (λ bytes. offset_of (with_block bytes) 0x7d3) (32 ∷ 64 ∷ 128 ∷ 256 ∷ []) ≡ 0x13 ∷ 0x13 ∷ 0x53 ∷ 0xd3 ∷ []
offset_of-each = refl

vault_of-each : map (λ bytes. vault_of (with_block bytes) 0x7d3) (32 ∷ 64 ∷ 128 ∷ 256 ∷ []) ≡ 2 ∷ 3 ∷ 3 ∷ 3 ∷ []
vault_of-each = refl

bank_of-each : map (λ bytes. bank_of (with_block bytes) 0x7d3) (32 ∷ 64 ∷ 128 ∷ 256 ∷ []) ≡ 1 ∷ 1 ∷ 1 ∷ 1 ∷ []
bank_of-each = refl

row_of-each : map (λ bytes. row_of (with_block bytes) 0x7d3) (32 ∷ 64 ∷ 128 ∷ 256 ∷ []) ≡ 7 ∷ 3 ∷ 1 ∷ 0 ∷ []
row_of-each = refl

capacity_of-each : map (λ bytes. capacity_of (with_block bytes)) (32 ∷ 64 ∷ 128 ∷ 256 ∷ []) ≡ 2048 ∷ 4096 ∷ 8192 ∷ 16384 ∷ []
capacity_of-each = refl

-- pointers wrap at 512 or 2,048, and a retry buffer has at most half of that
modulus_of-each : map modulus_of (One ∷ Two ∷ []) ≡ 512 ∷ 2048 ∷ []
modulus_of-each = refl

most_retry-each : map most_retry (One ∷ Two ∷ []) ≡ 256 ∷ 1024 ∷ []
most_retry-each = refl

-- a setup with this retry buffer and this profile
abbrev setup_with : (retry : ℕ) → Profile → LinkFields
setup_with retry profile = record { line = 8; tokens = 34; retry = retry; output = 4; profile = profile }

setup-one : IsLinkSetup (setup_with 256 One)
setup-one = record {
  some_line = lit≤ tt;
  line = lit≤ tt;
  some_tokens = lit≤ tt;
  tokens = lit≤ tt;
  some_retry = lit≤ tt;
  retry = lit≤ tt;
  some_output = lit≤ tt;
  output = lit≤ tt;
}

setup-two : IsLinkSetup (setup_with 1024 Two)
setup-two = record {
  some_line = lit≤ tt;
  line = lit≤ tt;
  some_tokens = lit≤ tt;
  tokens = lit≤ tt;
  some_retry = lit≤ tt;
  retry = lit≤ tt;
  some_output = lit≤ tt;
  output = lit≤ tt;
}

-- one flit more, or 16 flits, is too many or too few
setup-one_past : IsLinkSetup (setup_with 257 One) → ⊥
setup-one_past is = let few : 257 ≤ 256 = is.retry in omega arith

setup-two_past : IsLinkSetup (setup_with 1025 Two) → ⊥
setup-two_past is = let few : 1025 ≤ 1024 = is.retry in omega arith

setup-short : IsLinkSetup (setup_with 16 One) → ⊥
setup-short is = let many : 17 ≤ 16 = is.some_retry in omega arith

-- a word that may be missing brings its space
operand_words-both : operand_words None ++ (35 ∷ operand_words (Some (codes "17"))) ≡ codes "# 17"
operand_words-both = refl
