-- The tests of plain numbers are what every packet keeps.
use Rattle.std.proofs.Common.{◌≡◌, ◌∙◌, ◌<◌, ◌≤◌, ◌+◌, ◌-◌, ◌/◌, ◌%◌, ℕ, Bool, true, false, List, length, take, replicate, Option, Some, None, refl, sym, ap, subst, arith, eq-eqb}
use Rattle.std.specs.Prelude.{◌==◌, ◌&&◌, ◌||◌, not, nat_le, nat_lt, if◌then◌else◌}
use Rattle.std.specs.Cmp.Derive.{both_true}
use Rattle.std.proofs.lemmas.Bool.{eqb-true, le-leb}
use Rattle.std.proofs.lemmas.Bool.Decides.{nat_tests}
use Rattle.std.proofs.Math.Seq.{take-append_seam}
use Rattle.hmc_codes.proofs.BytesLemmas.{IsBytes-take}
use Rattle.hmc_codes.proofs.Codes.{command_of-code, command_of-code_of}
use Rattle.hmc_codes.specs.Bytes.{IsBytes, padded_bytes}
use Rattle.hmc_codes.specs.Codes.{command_of}
use Rattle.hmc_codes.specs.Commands.{allows_of, code_of, layout_of}
use Rattle.hmc_codes.specs.declared.command.Command.{Command}
use Rattle.hmc_codes.specs.declared.command.Command.TheVariants.{Null}
use Rattle.hmc_codes.specs.declared.layout.Layout.{Layout}
use Rattle.hmc_codes.specs.declared.layout.Layout.TheVariants as layouts
use Rattle.hmc_codes.specs.declared.profile.Profile.{Profile}
use Rattle.hmc_codes.specs.declared.profile.Profile.TheVariants.{One, Two}
use Rattle.hmc_packet.proofs.CommandLemmas.{allows_few, code_zero-null, code_of-null}
use Rattle.hmc_packet.specs.Packet.{IsFilled, IsFlow, IsInRange, IsLaidOut, IsPacket, IsUncounted, PacketFields, flits_of}
use Rattle.hmc_packet.specs.Spelling.{FitsProfile, spelling}
use Rattle.hmc_codec.specs.Plain.{fields_of, fits_profile, is_filled, is_flow, is_in_range, is_laid_out, is_packet, is_uncounted, packet_by, packet_filled, packet_named, payload_of, plain_of, spelled_as, spelled_by}
use Rattle.hmc_codec.specs.declared.plain.PlainPacket.{PlainPacket}

-- ---- numbers

one_or_two : (n : ℕ) → ((n == 1) || (n == 2)) ≡ true → (1 ≤ n) × (n ≤ 2)
one_or_two n test = (grind (arith, nat_tests), grind (arith, nat_tests))

no_flag : (flag : Bool) (n : ℕ) → (not flag && (n == 0)) ≡ true → (flag ≡ false) × (n ≡ 0)
no_flag true n test = absurd cc
no_flag false n test = (refl, eqb-true n 0 test)

start_or_clear : (n : ℕ) → 1 ≤ n → n ≤ 2 → ((n == 1) || (n == 2)) ≡ true
start_or_clear n low high = grind (arith, nat_tests)

flagless : (flag : Bool) (n : ℕ) → flag ≡ false → n ≡ 0 → (not flag && (n == 0)) ≡ true
flagless true n is zero = absurd cc
flagless false n is zero = eq-eqb n 0 zero

fits_all : (modulus most rrp frp errstat : ℕ) (b : Bool) → rrp < modulus → frp < modulus → errstat < most → b ≡ true →
    (nat_lt rrp modulus && nat_lt frp modulus && nat_lt errstat most && b) ≡ true
fits_all modulus most rrp frp errstat b below forward error is = grind (arith, nat_tests)

-- ---- from the tests

in_range : (plain : PlainPacket) (command : Command) (payload : List ℕ) →
    is_in_range plain ≡ true → IsInRange (fields_of plain command payload)
in_range plain command payload test = record {
  tag = grind (arith, nat_tests);
  address = grind (arith, nat_tests);
  cube = grind (arith, nat_tests);
  slid = grind (arith, nat_tests);
  errstat = grind (arith, nat_tests);
  rtc = grind (arith, nat_tests);
  seq = grind (arith, nat_tests);
  frp = grind (arith, nat_tests);
}

flow : (plain : PlainPacket) (command : Command) (payload : List ℕ) →
    is_flow plain ≡ true → IsFlow (fields_of plain command payload)
flow plain command payload test = record {
  tag = grind (arith, nat_tests);
  address = grind (arith, nat_tests);
  cube = grind (arith, nat_tests);
  slid = grind (arith, nat_tests);
  flag = grind (arith, nat_tests);
  errstat = grind (arith, nat_tests);
  poisoned = grind (arith, nat_tests);
}

uncounted : (plain : PlainPacket) (command : Command) (payload : List ℕ) →
    is_uncounted plain ≡ true → IsUncounted (fields_of plain command payload)
uncounted plain command payload test = record {
  rtc = grind (arith, nat_tests);
  seq = grind (arith, nat_tests);
}

both : (a b : Bool) → (a && b) ≡ true → (a ≡ true) × (b ≡ true)
both true b test = (refl, test)
both false b test = absurd cc

laid_out : (layout : Layout) (plain : PlainPacket) (command : Command) (payload : List ℕ) →
    is_laid_out layout plain ≡ true → IsLaidOut layout (fields_of plain command payload)
laid_out layouts.Null plain command payload test =
    let e = both (is_flow plain) (is_uncounted plain && (plain.frp == 0)) test in
    let f = both (is_uncounted plain) (plain.frp == 0) e.1 in
    (flow plain command payload e.0, uncounted plain command payload f.0, eqb-true plain.frp 0 f.1)
laid_out layouts.Pret plain command payload test =
    let e = both (is_flow plain) (is_uncounted plain && (plain.frp == 0)) test in
    let f = both (is_uncounted plain) (plain.frp == 0) e.1 in
    (flow plain command payload e.0, uncounted plain command payload f.0, eqb-true plain.frp 0 f.1)
laid_out layouts.Tret plain command payload test = flow plain command payload test
laid_out layouts.Irtry plain command payload test =
    let e = both (is_flow plain) (is_uncounted plain && ((plain.frp == 1) || (plain.frp == 2))) test in
    let f = both (is_uncounted plain) ((plain.frp == 1) || (plain.frp == 2)) e.1 in
    let g = one_or_two plain.frp f.1 in
    (flow plain command payload e.0, uncounted plain command payload f.0, g.0, g.1)
laid_out layouts.Ask plain command payload test = no_flag plain.flag plain.errstat test
laid_out layouts.Reply plain command payload test = eqb-true plain.address 0 test

filled : (plain : PlainPacket) (command : Command) (payload : List ℕ) → IsBytes payload →
    is_filled command payload ≡ true → IsFilled (fields_of plain command payload)
filled plain command payload are test =
    let e = both (length payload % 16 == 0) (allows_of command (1 + length payload / 16)) test in
    record { bytes = are; whole = eqb-true (length payload % 16) 0 e.0; allowed = e.1 }

pub three : (a b c : Bool) → a ≡ true → b ≡ true → c ≡ true → (a && (b && c)) ≡ true
three a b c s t u = both_true s (both_true t u)

-- numbers that pass the tests are a packet
pub packet_is : (plain : PlainPacket) (command : Command) (payload : List ℕ) → IsBytes payload →
    is_packet plain command payload ≡ true → IsPacket (fields_of plain command payload)
packet_is plain command payload are test =
    let e = both (is_in_range plain) (is_laid_out (layout_of command) plain && is_filled command payload) test in
    let f = both (is_laid_out (layout_of command) plain) (is_filled command payload) e.1 in
    record {
      ranges = in_range plain command payload e.0;
      layout = laid_out (layout_of command) plain command payload f.0;
      payload = filled plain command payload are f.1;
    }

-- ---- what is named

pub record Named (plain : PlainPacket) (packet : PacketFields) : Type 0 where
  pub command : Command
  pub payload : List ℕ
  pub code : code_of command ≡ plain.command
  pub bytes : payload_of plain ≡ Some payload
  pub test : is_packet plain command payload ≡ true
  pub is : fields_of plain command payload ≡ packet

with_is : (b : Bool) (x packet : PacketFields) → (if b then Some x else None) ≡ Some packet →
    (b ≡ true) × (x ≡ packet)
with_is true x packet e = (refl, cc)
with_is false x packet e = absurd cc

filled_is : (plain : PlainPacket) (command : Command) (found : Option (List ℕ)) (packet : PacketFields) →
    code_of command ≡ plain.command → payload_of plain ≡ found →
    packet_filled plain command found ≡ Some packet → Named plain packet
filled_is plain command None packet code bytes e = absurd cc
filled_is plain command (Some payload) packet code bytes e =
    let t = with_is (is_packet plain command payload) (fields_of plain command payload) packet e in
    record { command = command; payload = payload; code = code; bytes = bytes; test = t.0; is = t.1 }

found_is : (plain : PlainPacket) (found : Option Command) (packet : PacketFields) →
    command_of plain.command ≡ found → packet_by plain found ≡ Some packet → Named plain packet
found_is plain None packet code e = absurd cc
found_is plain (Some command) packet code e =
    filled_is plain command (payload_of plain) packet (command_of-code plain.command command code) refl e

pub named_is : (plain : PlainPacket) (packet : PacketFields) → packet_named plain ≡ Some packet →
    Named plain packet
named_is plain packet e = found_is plain (command_of plain.command) packet refl e

taken_bytes : (plain : PlainPacket) (b : Bool) (payload : List ℕ) → IsBytes plain.payload →
    (if b then Some (take plain.length plain.payload) else None) ≡ Some payload → IsBytes payload
taken_bytes plain true payload are e =
    let is : take plain.length plain.payload ≡ payload = cc in
    subst IsBytes is (IsBytes-take plain.length plain.payload are)
taken_bytes plain false payload are e = absurd cc

pub packet_of_named : (plain : PlainPacket) (packet : PacketFields) → IsBytes plain.payload →
    packet_named plain ≡ Some packet → IsPacket packet
packet_of_named plain packet are e =
    let n = named_is plain packet e in
    let bytes = taken_bytes plain (nat_le plain.length 256) n.payload are n.bytes in
    subst IsPacket n.is (packet_is plain n.command n.payload bytes n.test)

-- ---- a profile

null_test : (code rrp : ℕ) → code ≡ 0 → (not (code == 0) || (rrp == 0)) ≡ true → rrp ≡ 0
null_test code rrp zero test = grind (arith, nat_tests)

fits_one : (plain : PlainPacket) → fits_profile One plain ≡ true →
    (plain.rrp < 512) × (plain.frp < 512) × (plain.errstat < 128)
    × ((not (plain.command == 0) || (plain.rrp == 0)) ≡ true)
fits_one plain test =
    (grind (arith, nat_tests), grind (arith, nat_tests), grind (arith, nat_tests), grind (arith, nat_tests))

fits_two : (plain : PlainPacket) → fits_profile Two plain ≡ true →
    (plain.rrp < 2048) × (plain.frp < 2048) × (plain.errstat < 8)
    × ((not (plain.command == 0) || (plain.rrp == 0)) ≡ true)
fits_two plain test =
    (grind (arith, nat_tests), grind (arith, nat_tests), grind (arith, nat_tests), grind (arith, nat_tests))

pub fits_by : (profile : Profile) (plain : PlainPacket) (command : Command) (payload : List ℕ) →
    code_of command ≡ plain.command → fits_profile profile plain ≡ true →
    FitsProfile profile (fields_of plain command payload) plain.rrp
fits_by One plain command payload code test =
    let t = fits_one plain test in record {
      below = t.0;
      forward = t.1;
      errstat = t.2;
      null = λ is. null_test plain.command plain.rrp (sym code ∙ ap code_of is ∙ code_of-null) t.3;
    }
fits_by Two plain command payload code test =
    let t = fits_two plain test in record {
      below = t.0;
      forward = t.1;
      errstat = t.2;
      null = λ is. null_test plain.command plain.rrp (sym code ∙ ap code_of is ∙ code_of-null) t.3;
    }

pub fits_named : (profile : Profile) (plain : PlainPacket) (packet : PacketFields) →
    packet_named plain ≡ Some packet → fits_profile profile plain ≡ true →
    FitsProfile profile packet plain.rrp
fits_named profile plain packet e test =
    let n = named_is plain packet e in
    subst (λ (p : PacketFields). FitsProfile profile p plain.rrp) n.is
    (fits_by profile plain n.command n.payload n.code test)

-- ---- to the tests

abbrev sent : PacketFields → ℕ → PlainPacket
sent p rrp = plain_of (record { packet = p; rrp = rrp })

in_range-test : (p : PacketFields) (rrp : ℕ) → IsInRange p → is_in_range (sent p rrp) ≡ true
in_range-test p rrp i = grind (arith, nat_tests, i.tag, i.address, i.cube, i.slid, i.errstat, i.rtc, i.seq, i.frp)

flow-test : (p : PacketFields) (rrp : ℕ) → IsFlow p → is_flow (sent p rrp) ≡ true
flow-test p rrp f = grind (arith, nat_tests, f.tag, f.address, f.cube, f.slid, f.flag, f.errstat, f.poisoned)

uncounted-test : (p : PacketFields) (rrp : ℕ) → IsUncounted p → is_uncounted (sent p rrp) ≡ true
uncounted-test p rrp u = grind (arith, nat_tests, u.rtc, u.seq)

laid_out-test : (layout : Layout) (p : PacketFields) (rrp : ℕ) → IsLaidOut layout p →
    is_laid_out layout (sent p rrp) ≡ true
laid_out-test layouts.Null p rrp is =
    both_true (flow-test p rrp is.0) (both_true (uncounted-test p rrp is.1) (eq-eqb p.frp 0 is.2))
laid_out-test layouts.Pret p rrp is =
    both_true (flow-test p rrp is.0) (both_true (uncounted-test p rrp is.1) (eq-eqb p.frp 0 is.2))
laid_out-test layouts.Tret p rrp is = flow-test p rrp is
laid_out-test layouts.Irtry p rrp is =
    both_true (flow-test p rrp is.0) (both_true (uncounted-test p rrp is.1) (start_or_clear p.frp is.2 is.3))
laid_out-test layouts.Ask p rrp is = flagless p.flag p.errstat is.0 is.1
laid_out-test layouts.Reply p rrp is = eq-eqb p.address 0 is

packet-test : (p : PacketFields) (rrp : ℕ) → IsPacket p →
    is_packet (sent p rrp) p.command p.payload ≡ true
packet-test p rrp is =
    both_true (in_range-test p rrp is.ranges)
    (both_true (laid_out-test (layout_of p.command) p rrp is.layout)
    (both_true (eq-eqb (length p.payload % 16) 0 is.payload.whole) is.payload.allowed))

few_bytes : (p : PacketFields) → IsPacket p → length p.payload ≤ 256
few_bytes p is =
    let few = allows_few p.command (flits_of p) is.payload.allowed in
    let whole = is.payload.whole in omega (arith, few.1, whole)

payload-test : (p : PacketFields) (rrp : ℕ) → IsPacket p → payload_of (sent p rrp) ≡ Some p.payload
unfolding padded_bytes
payload-test p rrp is =
    ap (λ (b : Bool). (if b then Some (take (length p.payload) (padded_bytes 256 p.payload)) else None))
    (le-leb (length p.payload) 256 (few_bytes p is))
    ∙ ap Some (take-append_seam p.payload (replicate (256 - length p.payload) 0))

pub named_back : (p : PacketFields) (rrp : ℕ) → IsPacket p → packet_named (sent p rrp) ≡ Some p
named_back p rrp is =
    ap (packet_by (sent p rrp)) (command_of-code_of p.command)
    ∙ ap (packet_filled (sent p rrp) p.command) (payload-test p rrp is)
    ∙ ap (λ (b : Bool). (if b then Some (fields_of (sent p rrp) p.command p.payload) else None)) (packet-test p rrp is)

null_back : (c : Command) (b : Bool) (rrp : ℕ) → (code_of c == 0) ≡ b → (c ≡ Null → rrp ≡ 0) →
    (not b || (rrp == 0)) ≡ true
null_back c true rrp zero null = eq-eqb rrp 0 (null (code_zero-null c (eqb-true (code_of c) 0 zero)))
null_back c false rrp zero null = refl

fits-test : (profile : Profile) (p : PacketFields) (rrp : ℕ) → FitsProfile profile p rrp →
    fits_profile profile (sent p rrp) ≡ true
fits-test One p rrp fits =
    fits_all 512 128 rrp p.frp p.errstat (not (code_of p.command == 0) || (rrp == 0)) fits.below fits.forward fits.errstat
    (null_back p.command (code_of p.command == 0) rrp refl fits.null)
fits-test Two p rrp fits =
    fits_all 2048 8 rrp p.frp p.errstat (not (code_of p.command == 0) || (rrp == 0)) fits.below fits.forward fits.errstat
    (null_back p.command (code_of p.command == 0) rrp refl fits.null)

pub spelled_back : (profile : Profile) (p : PacketFields) (rrp : ℕ) → IsPacket p →
    FitsProfile profile p rrp → spelled_by profile (sent p rrp) ≡ Some (spelling profile p rrp)
spelled_back profile p rrp is fits =
    ap (spelled_as profile (sent p rrp)) (named_back p rrp is)
    ∙ ap (λ (b : Bool). (if b then Some (spelling profile p rrp) else None)) (fits-test profile p rrp fits)
