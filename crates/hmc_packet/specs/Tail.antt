-- The fields of a packet's last word: its lower half, 32 bits. The upper half is the check.
--
--     profile One   RRP 8..0,  FRP 17..9,  SEQ 20..18, SLID 28..26 or ERRSTAT 28..22, RTC 31..29
--     profile Two   RRP 10..0, FRP 21..11, SEQ 24..22, SLID 27..25 or ERRSTAT 27..25, RTC 31..29
--
-- Responses have ERRSTAT, requests and flow packets SLID. All other bits are zero. Of a PRET only
-- RRP isn't zero. Of an IRTRY SEQ, SLID and RTC are zero, and FRP is 1 or 2. Of a TRET SLID is
-- zero.
use Rattle.std.specs.Prelude.{ℕ, ◌+◌, ◌*◌, ◌^◌, ◌<◌, Bool, true, ◌==◌, ◌&&◌, ◌||◌}
use Rattle.hmc_codes.specs.declared.layout.Layout.{Layout}
use Rattle.hmc_codes.specs.declared.layout.Layout.TheVariants as layouts
use Rattle.hmc_codes.specs.declared.profile.Profile.{Profile}
use Rattle.hmc_codes.specs.declared.profile.Profile.TheVariants.{One, Two}
use Rattle.hmc_packet.specs.declared.tail.Tail.{Tail}
use Rattle.hmc_packet.specs.Bits.{bits_from}

-- where a field is: its lowest bit, and how many bits it has
pub record Field : Type 0 where
  pub low : ℕ
  pub width : ℕ

-- so many bits from a bit on
abbrev pub field : (low width : ℕ) → Field
field low width = record { low = low; width = width }

-- where each field is
pub record TailLayout : Type 0 where
  pub rrp : Field
  pub frp : Field
  pub seq : Field
  pub slid : Field
  pub errstat : Field
  pub rtc : Field

-- the table of both profiles
abbrev pub tail_layout : Profile → TailLayout
tail_layout One = record {
  rrp = field 0 9;
  frp = field 9 9;
  seq = field 18 3;
  slid = field 26 3;
  errstat = field 22 7;
  rtc = field 29 3;
}
tail_layout Two = record {
  rrp = field 0 11;
  frp = field 11 11;
  seq = field 22 3;
  slid = field 25 3;
  errstat = field 25 3;
  rtc = field 29 3;
}

-- a number fits a field
abbrev pub FitsField : Field → ℕ → Type 0
FitsField f number = number < 2 ^ f.width

-- a number at its place in a word
abbrev pub placed_at : Field → ℕ → ℕ
placed_at f number = number * 2 ^ f.low

-- the number in a field of a word
abbrev pub field_of : Field → ℕ → ℕ
field_of f word = bits_from f.low f.width word

-- the fields fit their bits
pub record IsTail (profile : Profile) (t : Tail) : Type 0 where
  pub rrp : FitsField (tail_layout profile).rrp t.rrp
  pub frp : FitsField (tail_layout profile).frp t.frp
  pub seq : FitsField (tail_layout profile).seq t.seq
  pub slid : FitsField (tail_layout profile).slid t.slid
  pub errstat : FitsField (tail_layout profile).errstat t.errstat
  pub rtc : FitsField (tail_layout profile).rtc t.rtc

-- the pointers and the number that all tails have, at their places; RRP begins at bit 0
abbrev pub lower_word : Profile → Tail → ℕ
lower_word profile t =
    t.rrp + placed_at (tail_layout profile).frp t.frp + placed_at (tail_layout profile).seq t.seq

-- the word with these fields; a field that the layout lacks is left out
unfoldable pub tail_word : Profile → Layout → Tail → ℕ
tail_word profile layouts.Reply t =
    lower_word profile t + placed_at (tail_layout profile).errstat t.errstat
    + placed_at (tail_layout profile).rtc t.rtc
tail_word profile _ t =
    lower_word profile t + placed_at (tail_layout profile).slid t.slid
    + placed_at (tail_layout profile).rtc t.rtc

-- the fields of a word; those that the layout lacks are zero
unfoldable pub tail_of : Profile → Layout → ℕ → Tail
tail_of profile layouts.Reply word = record {
  rrp = field_of (tail_layout profile).rrp word;
  frp = field_of (tail_layout profile).frp word;
  seq = field_of (tail_layout profile).seq word;
  slid = 0;
  errstat = field_of (tail_layout profile).errstat word;
  rtc = field_of (tail_layout profile).rtc word;
}
tail_of profile _ word = record {
  rrp = field_of (tail_layout profile).rrp word;
  frp = field_of (tail_layout profile).frp word;
  seq = field_of (tail_layout profile).seq word;
  slid = field_of (tail_layout profile).slid word;
  errstat = 0;
  rtc = field_of (tail_layout profile).rtc word;
}

-- the pointer that says which of the two an IRTRY is
abbrev pub is_start_or_clear : ℕ → Bool
is_start_or_clear frp = frp == 1 || frp == 2

-- of a flow packet each field that has to be zero is, and an IRTRY is a start or a clear
abbrev pub has_zeros : Layout → Tail → Bool
has_zeros layouts.Ask t = true
has_zeros layouts.Reply t = true
has_zeros layouts.Tret t = t.slid == 0
has_zeros layouts.Irtry t = (t.seq == 0 && t.slid == 0) && (t.rtc == 0 && is_start_or_clear t.frp)
has_zeros layouts.Pret t = (t.frp == 0 && t.seq == 0) && (t.slid == 0 && t.rtc == 0)
has_zeros layouts.Null t = (t.rrp == 0 && t.frp == 0) && (t.seq == 0 && (t.slid == 0 && t.rtc == 0))

-- each bit of no field is zero, so the fields alone make the word; and each field that has to be
-- zero is
unfoldable pub tail_is_clean : Profile → Layout → ℕ → Bool
tail_is_clean profile layout word =
    tail_word profile layout (tail_of profile layout word) == word
    && has_zeros layout (tail_of profile layout word)
