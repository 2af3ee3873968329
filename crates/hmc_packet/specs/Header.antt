-- The first word of a packet, 64 bits.
--
--     request, flow   CMD 6..0, LNG 11..7, TAG 22..12, ADRS 57..24, CUB 63..61
--     response        CMD 6..0, LNG 11..7, TAG 22..12, AF 33, SLID 41..39, CUB 63..61
--
-- All other bits are zero, and of a flow packet TAG, ADRS and CUB too.
use Rattle.std.specs.Prelude.{ℕ, ◌+◌, ◌*◌, ◌^◌, ◌<◌, Bool, false, ◌==◌, ◌&&◌}
use Rattle.hmc_codes.specs.declared.layout.Layout.{Layout}
use Rattle.hmc_codes.specs.declared.layout.Layout.TheVariants as layouts
use Rattle.hmc_packet.specs.declared.header.Header.{Header}
use Rattle.hmc_packet.specs.Bits.{bits_from, bit}

-- the fields fit their bits
pub record IsHeader (h : Header) : Type 0 where
  pub code : h.code < 2 ^ 7
  pub flits : h.flits < 2 ^ 5
  pub tag : h.tag < 2 ^ 11
  pub address : h.address < 2 ^ 34
  pub slid : h.slid < 2 ^ 3
  pub cube : h.cube < 2 ^ 3

-- the word with these fields; a field that the layout lacks is left out
unfoldable pub header_word : Layout → Header → ℕ
header_word layouts.Reply h =
    h.code + h.flits * 2 ^ 7 + h.tag * 2 ^ 12
    + bit h.flag * 2 ^ 33 + h.slid * 2 ^ 39 + h.cube * 2 ^ 61
header_word _ h = h.code + h.flits * 2 ^ 7 + h.tag * 2 ^ 12 + h.address * 2 ^ 24 + h.cube * 2 ^ 61

-- the fields of a word; those that the layout lacks are zero
unfoldable pub header_of : Layout → ℕ → Header
header_of layouts.Reply word = record {
  code = bits_from 0 7 word;
  flits = bits_from 7 5 word;
  tag = bits_from 12 11 word;
  address = 0;
  flag = bits_from 33 1 word == 1;
  slid = bits_from 39 3 word;
  cube = bits_from 61 3 word;
}
header_of _ word = record {
  code = bits_from 0 7 word;
  flits = bits_from 7 5 word;
  tag = bits_from 12 11 word;
  address = bits_from 24 34 word;
  flag = false;
  slid = 0;
  cube = bits_from 61 3 word;
}

-- each reserved bit is zero
unfoldable pub header_is_clean : Layout → ℕ → Bool
header_is_clean layouts.Ask word = bits_from 23 1 word == 0 && bits_from 58 3 word == 0
header_is_clean layouts.Reply word =
    (bits_from 23 10 word == 0 && bits_from 34 5 word == 0) && bits_from 42 19 word == 0
header_is_clean _ word = bits_from 12 52 word == 0
