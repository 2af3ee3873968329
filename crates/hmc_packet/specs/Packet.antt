-- Packets, as the contracts see them.
use Rattle.std.specs.Prelude.{◌≡◌, ◌≤◌, ◌<◌, ◌+◌, ◌/◌, ◌%◌, ◌^◌, ℕ, Bool, true, false, List, [], length}
use Rattle.hmc_codes.specs.Bytes.{IsBytes}
use Rattle.hmc_codes.specs.Commands.{layout_of, allows_of}
use Rattle.hmc_codes.specs.declared.layout.Layout.{Layout}
use Rattle.hmc_codes.specs.declared.layout.Layout.TheVariants as layouts
use Rattle.hmc_codes.specs.declared.command.Command.{Command}
use Rattle.hmc_codes.specs.declared.command.Command.TheVariants.{Null}

-- a packet's fields, without the return pointer
pub record PacketFields : Type 0 where
  pub command : Command
  pub tag : ℕ
  pub address : ℕ
  pub cube : ℕ
  pub slid : ℕ
  pub flag : Bool
  pub errstat : ℕ
  pub rtc : ℕ
  pub seq : ℕ
  pub frp : ℕ
  pub poisoned : Bool
  pub payload : List ℕ

-- the length in flits: header and tail fill one, and each further flit has 16 bytes of payload
abbrev pub flits_of : PacketFields → ℕ
flits_of p = 1 + length p.payload / 16

-- each field fits its bits
pub record IsInRange (p : PacketFields) : Type 0 where
  pub tag : p.tag < 2 ^ 11
  pub address : p.address < 2 ^ 34
  pub cube : p.cube < 8
  pub slid : p.slid < 8
  pub errstat : p.errstat < 2 ^ 7
  pub rtc : p.rtc < 8
  pub seq : p.seq < 8
  pub frp : p.frp < 2 ^ 11

-- a packet between the two ends of a link has no fields of a transaction, and can't be poisoned
pub record IsFlow (p : PacketFields) : Type 0 where
  pub tag : p.tag ≡ 0
  pub address : p.address ≡ 0
  pub cube : p.cube ≡ 0
  pub slid : p.slid ≡ 0
  pub flag : p.flag ≡ false
  pub errstat : p.errstat ≡ 0
  pub poisoned : p.poisoned ≡ false

-- it returns no tokens and is not counted
pub record IsUncounted (p : PacketFields) : Type 0 where
  pub rtc : p.rtc ≡ 0
  pub seq : p.seq ≡ 0

-- a field that the layout lacks is zero, and so is each that is always zero; the FRP of an IRTRY is
-- 1 for a start and 2 for a clear
abbrev pub IsLaidOut : Layout → PacketFields → Type 0
IsLaidOut layouts.Null p = IsFlow p × IsUncounted p × (p.frp ≡ 0)
IsLaidOut layouts.Pret p = IsFlow p × IsUncounted p × (p.frp ≡ 0)
IsLaidOut layouts.Tret p = IsFlow p
IsLaidOut layouts.Irtry p = IsFlow p × IsUncounted p × (1 ≤ p.frp) × (p.frp ≤ 2)
IsLaidOut layouts.Ask p = (p.flag ≡ false) × (p.errstat ≡ 0)
IsLaidOut layouts.Reply p = p.address ≡ 0

-- the payload is bytes in whole flits, as many as the command allows
pub record IsFilled (p : PacketFields) : Type 0 where
  pub bytes : IsBytes p.payload
  pub whole : length p.payload % 16 ≡ 0
  pub allowed : allows_of p.command (flits_of p) ≡ true

-- what each packet keeps
pub record IsPacket (p : PacketFields) : Type 0 where
  pub ranges : IsInRange p
  pub layout : IsLaidOut (layout_of p.command) p
  pub payload : IsFilled p

-- all of its fields are zero
abbrev pub null_packet : PacketFields
null_packet = record {
  command = Null;
  tag = 0;
  address = 0;
  cube = 0;
  slid = 0;
  flag = false;
  errstat = 0;
  rtc = 0;
  seq = 0;
  frp = 0;
  poisoned = false;
  payload = [];
}
