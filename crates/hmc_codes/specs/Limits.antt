-- The limits of cases and runs. Each number is here, and in src/limits.rt, and in no other file.
use Rattle.std.specs.Prelude.{ℕ}

-- cubes, links and hosts of a case, and ports of a cube

abbrev pub most_cubes : ℕ
most_cubes = 8

abbrev pub most_links : ℕ
most_links = 32

abbrev pub most_hosts : ℕ
most_hosts = 8

abbrev pub ports : ℕ
ports = 4

-- the shape of a cube, and the bytes of all cubes together

abbrev pub most_vault_bits : ℕ
most_vault_bits = 5

abbrev pub most_bank_bits : ℕ
most_bank_bits = 4

abbrev pub most_rows : ℕ
most_rows = 1024

abbrev pub most_memory : ℕ
most_memory = 16777216

-- the bytes of a block of the address map

abbrev pub most_block : ℕ
most_block = 256

-- packets in a queue of a cube or in an output queue, and flits on a line

abbrev pub most_queue : ℕ
most_queue = 64

abbrev pub most_line : ℕ
most_line = 64

-- A packet has at most 17 flits, so a buffer of flits has room for these.

abbrev pub least_flits : ℕ
least_flits = 17

abbrev pub most_tokens : ℕ
most_tokens = 1024

-- tags of a host

abbrev pub tags : ℕ
tags = 2048

-- requests of a script, steps of a schedule with its rounds written out, and bytes of an input

abbrev pub most_requests : ℕ
most_requests = 65536

abbrev pub most_steps : ℕ
most_steps = 1000000

abbrev pub most_input : ℕ
most_input = 4194304

-- bytes of an input of `check`, a case and a report

abbrev pub most_check_input : ℕ
most_check_input = 67108864

-- requests of a list in memory, which are those that a host is asked for, and steps of a session

abbrev pub most_asked : ℕ
most_asked = 4294967295

abbrev pub most_taken : ℕ
most_taken = 4294967295
