-- The definitions, computed on rows.
use Rattle.std.proofs.Common.{◌≡◌, [], ◌∷◌, refl}
use Rattle.std.specs.Prelude.{map}
use Rattle.hmc_codes.specs.Request.{RequestFields}
use Rattle.hmc_codes.specs.declared.command.Command.TheVariants as commands
use Rattle.hmc_accesses.specs.Compiled.{loads_of}
use Rattle.hmc_accesses.specs.Requests.{cut_by_blocks, cut_run, read_command, write_command, read_span, masked_span, write_span, store_span, load_requests, store_requests}
use Rattle.hmc_accesses.specs.Trace.Access.{load}

-- a store within one half
one_half : store_requests 0 5 (0xaa ∷ 0xbb ∷ 0xcc ∷ []) ≡ (record {
  command = commands.Bwr;
  cube =
      0;
  address = 0;
  payload = 0 ∷ 0 ∷ 0 ∷ 0 ∷ 0 ∷ 0xaa ∷ 0xbb ∷ 0xcc ∷ 0 ∷ 0 ∷ 0 ∷ 0 ∷ 0 ∷ 0xff
      ∷ 0xff ∷ 0xff ∷ [];
}) ∷ []
unfolding store_requests cut_by_blocks store_span masked_span write_span cut_run write_command
one_half = refl

-- a store over the end of a block of 256
two_blocks : store_requests 0 0xfe (1 ∷ 2 ∷ 3 ∷ 4 ∷ []) ≡
    (record {
      command = commands.Bwr;
      cube = 0;
      address = 0xf8;
      payload =
          0 ∷ 0 ∷ 0 ∷ 0 ∷ 0 ∷ 0 ∷ 1 ∷ 2 ∷ 0 ∷ 0 ∷ 0 ∷ 0 ∷ 0 ∷ 0 ∷ 0xff ∷ 0xff ∷ [];
    })
    ∷ (record {
      command = commands.Bwr;
      cube = 0;
      address = 0x100;
      payload =
          3 ∷ 4 ∷ 0 ∷ 0 ∷ 0 ∷ 0 ∷ 0 ∷ 0 ∷ 0xff ∷ 0xff ∷ 0 ∷ 0 ∷ 0 ∷ 0 ∷ 0 ∷ 0 ∷ [];
    }) ∷ []
unfolding store_requests cut_by_blocks store_span masked_span write_span cut_run write_command
two_blocks = refl

-- a load reads the block that it touches
one_read : load_requests 0 4 5 ≡ (record {
  command = commands.Rd16;
  cube = 0;
  address = 0;
  payload =
      [];
}) ∷ []
unfolding load_requests cut_by_blocks read_span cut_run read_command
one_read = refl

-- and is noted by its first request, their number, what is skipped, and its length
one_noted : loads_of 1 (load 0 4 5) ≡ (record { first = 1; count = 1; skip = 4; length = 5 }) ∷ []
unfolding load_requests cut_by_blocks read_span cut_run read_command
one_noted = refl

-- a load of 600 bytes: fifteen blocks of 16, sixteen, and seven
many_reads : map (λ (r : RequestFields). r.command) (load_requests 0 0x11 600) ≡ commands.Rd128
    ∷ commands.Rd112 ∷ commands.Rd256 ∷ commands.Rd112 ∷ []
unfolding load_requests cut_by_blocks read_span cut_run read_command
many_reads = refl
