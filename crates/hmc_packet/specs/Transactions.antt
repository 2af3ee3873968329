-- Requests and answers as packets.
use Rattle.std.specs.Prelude.{ℕ, Bool, false, if◌then◌else◌, List, [], ◌++◌, take, replicate, Option, Some, None}
use Rattle.hmc_codes.specs.Commands.{layout_of, is_ask}
use Rattle.hmc_codes.specs.Request.{RequestFields}
use Rattle.hmc_codes.specs.declared.answer.Answer.{Answer}
use Rattle.hmc_codes.specs.declared.answer.Answer.TheVariants.{Silent, Done, Read, Register, Stored, Refused}
use Rattle.hmc_codes.specs.declared.command.Command.{Command}
use Rattle.hmc_codes.specs.declared.command.Command.TheVariants.{Mdwr, RdRs, WrRs, MdRdRs, MdWrRs, Error}
use Rattle.hmc_packet.specs.Packet.{PacketFields, null_packet}
use Rattle.hmc_packet.specs.Spelling.{half_bytes}
use Rattle.hmc_packet.specs.Parts.{half_of}

-- the value of a register as payload: four bytes and twelve zero bytes
unfoldable pub with_zeros : List ℕ → List ℕ
with_zeros front = front ++ replicate 12 0

-- the packet of a request that comes over a host link, before it is sent: RTC, SEQ and FRP are zero
unfoldable pub request_packet : RequestFields → ℕ → ℕ → Bool → PacketFields
request_packet request tag slid poisoned = record {
  command = request.command;
  tag = tag;
  address = request.address;
  cube = request.cube;
  slid = slid;
  flag = false;
  errstat = 0;
  rtc = 0;
  seq = 0;
  frp = 0;
  poisoned = poisoned;
  payload = request.payload;
}

-- a response of a cube that goes to a host link
abbrev pub response : Command → Bool → ℕ → List ℕ → ℕ → ℕ → ℕ → PacketFields
response command flag errstat payload tag slid cube = record {
  command = command;
  tag = tag;
  address = 0;
  cube = cube;
  slid = slid;
  flag = flag;
  errstat = errstat;
  rtc = 0;
  seq = 0;
  frp = 0;
  poisoned = false;
  payload = payload;
}

-- the packet of an answer; no packet carries Silent
unfoldable pub reply_packet : Answer → ℕ → ℕ → ℕ → PacketFields
reply_packet Silent tag slid cube = null_packet
reply_packet (Done flag) tag slid cube = response WrRs flag 0 [] tag slid cube
reply_packet (Read flag payload) tag slid cube = response RdRs flag 0 payload tag slid cube
reply_packet (Register value) tag slid cube =
    response MdRdRs false 0 (with_zeros (half_bytes value)) tag slid cube
reply_packet Stored tag slid cube = response MdWrRs false 0 [] tag slid cube
reply_packet (Refused errstat) tag slid cube = response Error false errstat [] tag slid cube

-- of an mdwr only the first four bytes count
unfoldable pub payload_of : Command → List ℕ → List ℕ
payload_of Mdwr payload = with_zeros (take 4 payload)
payload_of _ payload = payload

-- the request that a packet carries, if it carries one
unfoldable pub request_in : PacketFields → Option RequestFields
request_in p =
    if is_ask (layout_of p.command)
    then Some (record {
      command = p.command;
      cube = p.cube;
      address = p.address;
      payload = payload_of p.command p.payload;
    }) else None

-- the answer that a response with this command carries
unfoldable pub answer_by : Command → PacketFields → Option Answer
answer_by WrRs p = Some (Done p.flag)
answer_by RdRs p = Some (Read p.flag p.payload)
answer_by MdRdRs p = Some (Register (half_of (take 4 p.payload)))
answer_by MdWrRs p = Some Stored
answer_by Error p = Some (Refused p.errstat)
answer_by _ p = None

-- the answer that a packet carries, if it carries one
unfoldable pub answer_in : PacketFields → Option Answer
answer_in p = answer_by p.command p
