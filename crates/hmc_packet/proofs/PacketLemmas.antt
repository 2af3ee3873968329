-- What each packet keeps, and its header and tail.
use Rattle.std.proofs.Common.{◌≡◌, ◌<◌, ◌≤◌, ◌^◌, arith, ℕ, Bool, false, refl, lit<}
use Rattle.hmc_codes.specs.declared.profile.Profile.{Profile}
use Rattle.hmc_codes.specs.Table.{table_line}
use Rattle.hmc_codes.specs.Commands.{layout_of, is_flow}
use Rattle.hmc_codes.specs.declared.command.Command.TheVariants.{Pret, Tret, Irtry}
use Rattle.hmc_codes.specs.declared.layout.Layout.{Layout}
use Rattle.hmc_codes.specs.declared.layout.Layout.TheVariants as layouts
use Rattle.hmc_packet.specs.Packet.{PacketFields, IsPacket, IsLaidOut, null_packet, flits_of}
use Rattle.hmc_packet.specs.Header.{IsHeader}
use Rattle.hmc_packet.specs.Tail.{IsTail}
use Rattle.hmc_packet.specs.Spelling.{FitsProfile, header_fields, tail_fields}
use Rattle.hmc_packet.proofs.TailLemmas.{rrp-fits, frp-fits, three-fits}
use Rattle.hmc_packet.proofs.CommandLemmas.{allows_few, code_of-lt}

pub IsPacket-null : IsPacket null_packet
unfolding table_line
IsPacket-null = record {
  ranges = record { tag = lit< tt; address = lit< tt; cube = lit< tt; slid = lit< tt; errstat = lit< tt; rtc = lit< tt; seq = lit< tt; frp = lit< tt };
  layout = (record { tag = refl; address = refl; cube = refl; slid = refl; flag = refl; errstat = refl; poisoned = refl }, record { rtc = refl; seq = refl }, refl);
  payload = record { bytes = λ k. lit< tt; whole = refl; allowed = refl };
}

-- 1 to 17 flits
pub flits_of-few : (p : PacketFields) → IsPacket p → (1 ≤ flits_of p) × (flits_of p ≤ 17)
flits_of-few p is = allows_few p.command (flits_of p) is.payload.allowed

pub IsHeader-fields : (p : PacketFields) → IsPacket p → IsHeader (header_fields p)
IsHeader-fields p is = record {
  code = code_of-lt p.command;
  flits = omega (arith, (flits_of-few p is).1);
  tag = is.ranges.tag;
  address = is.ranges.address;
  slid = is.ranges.slid;
  cube = is.ranges.cube;
}

pub IsTail-fields : (profile : Profile) (p : PacketFields) (rrp : ℕ) → IsPacket p → FitsProfile profile p rrp → IsTail profile (tail_fields p rrp)
IsTail-fields profile p rrp is fits = record {
  rrp = rrp-fits profile rrp fits.below;
  frp = frp-fits profile p.frp fits.forward;
  seq = (three-fits profile p.seq is.ranges.seq).0;
  slid = (three-fits profile p.slid is.ranges.slid).1;
  errstat = fits.errstat;
  rtc = (three-fits profile p.rtc is.ranges.rtc).2;
}

-- ---- the packets that an end of a link makes itself

pub IsPacket-pret : IsPacket (record null_packet { command = Pret })
unfolding table_line
IsPacket-pret = record {
  ranges = record { tag = lit< tt; address = lit< tt; cube = lit< tt; slid = lit< tt; errstat = lit< tt; rtc = lit< tt; seq = lit< tt; frp = lit< tt };
  layout = (record { tag = refl; address = refl; cube = refl; slid = refl; flag = refl; errstat = refl; poisoned = refl }, record { rtc = refl; seq = refl }, refl);
  payload = record { bytes = λ k. lit< tt; whole = refl; allowed = refl };
}

pub IsPacket-irtry : (frp : ℕ) → 1 ≤ frp → frp ≤ 2 → IsPacket (record null_packet { command = Irtry; frp = frp })
unfolding table_line
IsPacket-irtry frp low high = record {
  ranges = record { tag = lit< tt; address = lit< tt; cube = lit< tt; slid = lit< tt; errstat = lit< tt; rtc = lit< tt; seq = lit< tt; frp = omega arith };
  layout = (record { tag = refl; address = refl; cube = refl; slid = refl; flag = refl; errstat = refl; poisoned = refl }, record { rtc = refl; seq = refl }, low, high);
  payload = record { bytes = λ k. lit< tt; whole = refl; allowed = refl };
}

pub IsPacket-tret : (rtc seq frp : ℕ) → rtc < 8 → seq < 8 → frp < 2 ^ 11 → IsPacket (record null_packet { command = Tret; rtc = rtc; seq = seq; frp = frp })
unfolding table_line
IsPacket-tret rtc seq frp rtc-fits seq-fits frp-fits = record {
  ranges = record { tag = lit< tt; address = lit< tt; cube = lit< tt; slid = lit< tt; errstat = lit< tt; rtc = rtc-fits; seq = seq-fits; frp = frp-fits };
  layout = record { tag = refl; address = refl; cube = refl; slid = refl; flag = refl; errstat = refl; poisoned = refl };
  payload = record { bytes = λ k. lit< tt; whole = refl; allowed = refl };
}

-- ---- what an end of a link changes in a request or a response

numbered_layout : (layout : Layout) (p : PacketFields) (rtc seq frp : ℕ) → is_flow layout ≡ false → IsLaidOut layout p → IsLaidOut layout (record p { rtc = rtc; seq = seq; frp = frp })
numbered_layout layouts.Ask p rtc seq frp flow is = is
numbered_layout layouts.Reply p rtc seq frp flow is = is
numbered_layout _ p rtc seq frp flow is = absurd cc

-- it may have any RTC, SEQ and FRP
pub IsPacket-numbered : (p : PacketFields) (rtc seq frp : ℕ) → is_flow (layout_of p.command) ≡ false → IsPacket p → rtc < 8 → seq < 8 → frp < 2 ^ 11 → IsPacket (record p { rtc = rtc; seq = seq; frp = frp })
IsPacket-numbered p rtc seq frp flow is rtc-fits seq-fits frp-fits = record {
  ranges = record { tag = is.ranges.tag; address = is.ranges.address; cube = is.ranges.cube; slid = is.ranges.slid; errstat = is.ranges.errstat; rtc = rtc-fits; seq = seq-fits; frp = frp-fits };
  layout = numbered_layout (layout_of p.command) p rtc seq frp flow is.layout;
  payload = record { bytes = is.payload.bytes; whole = is.payload.whole; allowed = is.payload.allowed };
}

poisoned_layout : (layout : Layout) (p : PacketFields) (poisoned : Bool) → is_flow layout ≡ false → IsLaidOut layout p → IsLaidOut layout (record p { poisoned = poisoned })
poisoned_layout layouts.Ask p poisoned flow is = is
poisoned_layout layouts.Reply p poisoned flow is = is
poisoned_layout _ p poisoned flow is = absurd cc

-- and be poisoned or not
pub IsPacket-poisoned : (p : PacketFields) (poisoned : Bool) → is_flow (layout_of p.command) ≡ false → IsPacket p → IsPacket (record p { poisoned = poisoned })
IsPacket-poisoned p poisoned flow is = record {
  ranges = record { tag = is.ranges.tag; address = is.ranges.address; cube = is.ranges.cube; slid = is.ranges.slid; errstat = is.ranges.errstat; rtc = is.ranges.rtc; seq = is.ranges.seq; frp = is.ranges.frp };
  layout = poisoned_layout (layout_of p.command) p poisoned flow is.layout;
  payload = record { bytes = is.payload.bytes; whole = is.payload.whole; allowed = is.payload.allowed };
}
