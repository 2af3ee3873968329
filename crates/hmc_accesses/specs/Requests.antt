-- The requests of a load or a store. It is cut at the multiples of 256, and within a block of 256
-- at the first and the last multiple of 16.
use Rattle.std.specs.Prelude.{ℕ, ◌+◌, ◌-◌, ◌*◌, ◌/◌, nat_le, nat_lt, ◌==◌, ◌&&◌, Bool, min, max, if◌then◌else◌, List, [], ◌∷◌, ◌++◌, length, map, slice_index}
use Rattle.std.specs.List.{flat_map, range_with_len}
use Rattle.hmc_codes.specs.Request.{RequestFields}
use Rattle.hmc_codes.specs.declared.command.Command.{Command}
use Rattle.hmc_codes.specs.declared.command.Command.TheVariants as commands
use Rattle.hmc_accesses.specs.declared.span.Span.{Span}

-- the read of so many blocks of 16
unfoldable pub read_command : (blocks : ℕ) → Command
read_command blocks =
    if blocks == 1 then commands.Rd16 else if blocks == 2 then commands.Rd32
    else if blocks == 3 then commands.Rd48 else if blocks == 4 then commands.Rd64
    else if blocks == 5 then commands.Rd80 else if blocks == 6 then commands.Rd96
    else if blocks == 7 then commands.Rd112 else if blocks == 8 then commands.Rd128
    else commands.Rd256

-- the write of so many blocks of 16
unfoldable pub write_command : (blocks : ℕ) → Command
write_command blocks =
    if blocks == 1 then commands.Wr16 else if blocks == 2 then commands.Wr32
    else if blocks == 3 then commands.Wr48 else if blocks == 4 then commands.Wr64
    else if blocks == 5 then commands.Wr80 else if blocks == 6 then commands.Wr96
    else if blocks == 7 then commands.Wr112 else if blocks == 8 then commands.Wr128
    else commands.Wr256

-- the multiple of n that an address is at or above, and the one that it is at or below
abbrev pub down : (n address : ℕ) → ℕ
down n address = address / n * n

abbrev pub up : (n address : ℕ) → ℕ
up n address = down n (address + (n - 1))

-- a span, cut at the multiples of 256
abbrev pub in_block : Span → (block : ℕ) → Span
in_block span block = record {
  start = max span.start (block * 256);
  end = min span.end (block * 256 + 256);
}

unfoldable pub cut_by_blocks : Span → List Span
cut_by_blocks span =
    map (in_block span)
    (range_with_len (span.start / 256) (up 256 span.end / 256 - span.start / 256))

-- a run of blocks of 16 within a block of 256: all 16 are one request, 9 to 15 are one of 8 and one
-- of the rest, and 1 to 8 are one
unfoldable pub cut_run : (blocks : ℕ) → List ℕ
cut_run blocks =
    if blocks == 0 then [] else if nat_lt 8 blocks && nat_lt blocks 16
    then 8 ∷ (blocks - 8) ∷ [] else blocks ∷ []

-- requests for parts of so many blocks of 16, one after another
abbrev pub run_of : (request : (address blocks : ℕ) → RequestFields) → (address : ℕ) → List ℕ →
    List RequestFields
run_of request address [] = []
run_of request address (blocks ∷ more) =
    request address blocks ∷ run_of request (address + 16 * blocks) more

-- ---- loads

abbrev pub read_at : (cube address blocks : ℕ) → RequestFields
read_at cube address blocks =
    record { command = read_command blocks; cube = cube; address = address; payload = [] }

-- all blocks of 16 that a span within a block of 256 touches
unfoldable pub read_span : (cube : ℕ) → Span → List RequestFields
read_span cube span =
    run_of (read_at cube) (down 16 span.start)
    (cut_run ((up 16 span.end - down 16 span.start) / 16))

-- ---- stores

-- bytes from an address on, where the first of `bytes` is at `place`
abbrev pub bytes_from : (place : ℕ) → (bytes : List ℕ) → (address size : ℕ) → List ℕ
bytes_from place bytes address size =
    map (λ a. slice_index bytes (a - place)) (range_with_len address size)

abbrev pub write_at : (cube place : ℕ) → (bytes : List ℕ) → (address blocks : ℕ) → RequestFields
write_at cube place bytes address blocks = record {
  command = write_command blocks;
  cube = cube;
  address = address;
  payload = bytes_from place bytes address (16 * blocks);
}

-- an address is in a span
abbrev pub within : Span → ℕ → Bool
within span address = nat_le span.start address && nat_lt address span.end

-- the byte that is stored at an address, and zero where nothing is
abbrev pub masked_byte : (place : ℕ) → (bytes : List ℕ) → Span → (address : ℕ) → ℕ
masked_byte place bytes span address =
    if within span address then slice_index bytes (address - place) else 0

-- all bits where something is stored
abbrev pub mask_byte : Span → (address : ℕ) → ℕ
mask_byte span address = if within span address then 255 else 0

-- eight bytes of a half, and eight bytes of the mask
abbrev pub masked_bytes : (place : ℕ) → (bytes : List ℕ) → Span → (half : ℕ) → List ℕ
masked_bytes place bytes span half =
    map (masked_byte place bytes span) (range_with_len half 8)
    ++ map (mask_byte span) (range_with_len half 8)

-- a masked write of what a span has of a half, if it has anything of it
abbrev pub masked_half : (cube place : ℕ) → (bytes : List ℕ) → Span → (half : ℕ) →
    List RequestFields
masked_half cube place bytes span half =
    if nat_lt (max span.start half) (min span.end (half + 8))
    then record {
      command = commands.Bwr;
      cube = cube;
      address = half;
      payload = masked_bytes place bytes span half;
    } ∷ []
    else []

-- both halves of the block of 16 in which a span is that doesn't cover it
unfoldable pub masked_span : (cube place : ℕ) → (bytes : List ℕ) → Span → List RequestFields
masked_span cube place bytes span =
    masked_half cube place bytes span (down 16 span.start)
    ++ masked_half cube place bytes span (down 16 span.start + 8)

-- the blocks of 16 that a span covers wholly
unfoldable pub write_span : (cube place : ℕ) → (bytes : List ℕ) → Span → List RequestFields
write_span cube place bytes span =
    run_of (write_at cube place bytes) span.start (cut_run ((span.end - span.start) / 16))

-- where the blocks begin that a span covers wholly, and where they end
abbrev pub head_end : Span → ℕ
head_end span = min (up 16 span.start) span.end

abbrev pub tail_start : Span → ℕ
tail_start span = max (head_end span) (down 16 span.end)

-- a span within a block of 256
unfoldable pub store_span : (cube place : ℕ) → (bytes : List ℕ) → Span → List RequestFields
store_span cube place bytes span =
    masked_span cube place bytes (record { start = span.start; end = head_end span })
    ++ (write_span cube place bytes (record { start = head_end span; end = tail_start span })
    ++ masked_span cube place bytes (record { start = tail_start span; end = span.end }))

-- ---- all of it

unfoldable pub load_requests : (cube place length : ℕ) → List RequestFields
load_requests cube place length =
    flat_map (read_span cube) (cut_by_blocks (record { start = place; end = place + length }))

unfoldable pub store_requests : (cube place : ℕ) → (bytes : List ℕ) → List RequestFields
store_requests cube place bytes =
    flat_map (store_span cube place bytes)
    (cut_by_blocks (record { start = place; end = place + length bytes }))
