-- Requests and answers as packets, and back.
use Rattle.std.proofs.Common.{◌≡◌, ◌≢◌, ◌∙◌, ◌<◌, ◌≤◌, ◌+◌, ◌/◌, ◌%◌, ◌^◌, ◌⊎◌, inl, inr, lit<, ℕ, Bool, true, false, cond, Option, Some, None, List, [], ◌++◌, length, take, drop, refl, sym, ap, subst, arith, length-append}
use Rattle.std.specs.Prelude.{◌&&◌, ◌||◌, ◌==◌, nat_le, is_some, replicate}
use Rattle.std.proofs.lemmas.Bool.{eqb-true, eq-eqb, and_parts, and_from, leb-true, le-leb, or_cases, or_left, or_right}
use Rattle.std.proofs.lemmas.List.{length-take, take_at, drop_at, take-append-drop}
use Rattle.hmc_codes.specs.Bytes.{IsBytes}
use Rattle.hmc_codes.specs.Table.{table_line}
use Rattle.hmc_codes.specs.Commands.{layout_of, allows_of, family_of, family_of_layout, payload_len_of, is_ask}
use Rattle.hmc_codes.specs.Request.{RequestFields, IsRequest}
use Rattle.hmc_codes.specs.declared.answer.Answer.{Answer}
use Rattle.hmc_codes.specs.declared.answer.Answer.TheVariants.{Silent, Done, Read, Register, Stored, Refused}
use Rattle.hmc_codes.specs.declared.family.Family.TheVariants as families
use Rattle.hmc_codes.specs.declared.layout.Layout.{Layout}
use Rattle.hmc_codes.specs.declared.layout.Layout.TheVariants as layouts
use Rattle.hmc_codes.specs.declared.command.Command.{Command}
use Rattle.hmc_codes.specs.declared.command.Command.TheVariants.{Mdwr, RdRs, WrRs, MdRdRs, MdWrRs, Error}
use Rattle.hmc_codes.proofs.BytesLemmas.{IsBytes-[], IsBytes-append, IsBytes-take, IsBytes-zeros}
use Rattle.hmc_packet.specs.Packet.{PacketFields, IsPacket, IsLaidOut}
use Rattle.hmc_packet.specs.Spelling.{half_bytes}
use Rattle.hmc_packet.specs.Parts.{half_of}
use Rattle.hmc_codes.specs.Answer.{is_returned, CanReply, IsAnswer}
use Rattle.hmc_packet.specs.Transactions.{request_packet, response, reply_packet, with_zeros, payload_of, request_in, answer_by, answer_in}
use Rattle.hmc_packet.proofs.CommandLemmas.{ask-payload, ask-allows}
use Rattle.hmc_packet.proofs.PartLemmas.{length-half_bytes, half_of-half_bytes, IsBytes-half_bytes}

-- ---- the three families, by layout

pub asks-layout : (layout : Layout) → family_of_layout layout ≡ families.Ask → layout ≡ layouts.Ask
asks-layout layouts.Ask is = refl
asks-layout layouts.Reply is = absurd cc
asks-layout layouts.Null is = absurd cc
asks-layout layouts.Pret is = absurd cc
asks-layout layouts.Tret is = absurd cc
asks-layout layouts.Irtry is = absurd cc

-- ---- requests

ask_laid_out : (layout : Layout) (p : PacketFields) → layout ≡ layouts.Ask → p.flag ≡ false → p.errstat ≡ 0 → IsLaidOut layout p
ask_laid_out layouts.Ask p is flag errstat = (flag, errstat)
ask_laid_out layouts.Reply p is flag errstat = absurd cc
ask_laid_out layouts.Null p is flag errstat = absurd cc
ask_laid_out layouts.Pret p is flag errstat = absurd cc
ask_laid_out layouts.Tret p is flag errstat = absurd cc
ask_laid_out layouts.Irtry p is flag errstat = absurd cc

pub IsPacket-request_packet : (r : RequestFields) (tag slid : ℕ) (poisoned : Bool) → IsRequest r → tag < 2 ^ 11 → slid < 8 → IsPacket (request_packet r tag slid poisoned)
unfolding request_packet
IsPacket-request_packet r tag slid poisoned is tag-fits slid-fits =
    let layout = asks-layout (layout_of r.command) is.asks in
    let allowed = ask-allows r.command (length r.payload) layout is.payload in
    record {
      ranges = record { tag = tag-fits; address = is.address; cube = is.cube; slid = slid-fits; errstat = lit< tt; rtc = lit< tt; seq = lit< tt; frp = lit< tt };
      layout = ask_laid_out (layout_of r.command) (request_packet r tag slid poisoned) layout refl refl;
      payload = record { bytes = is.bytes; whole = allowed.0; allowed = allowed.1 };
    }

-- every command but mdwr keeps the payload
mdwr_or_other : (c : Command) → (c ≡ Mdwr) ⊎ ((c ≢ Mdwr) × ((payload : List ℕ) → payload_of c payload ≡ payload))
unfolding payload_of
mdwr_or_other Mdwr = inl refl
mdwr_or_other _ = inr (λ is. cc, λ payload. refl)

payload_len_of-mdwr : payload_len_of Mdwr ≡ 16
unfolding table_line
payload_len_of-mdwr = refl

payload_of-mdwr : (payload : List ℕ) → payload_of Mdwr payload ≡ with_zeros (take 4 payload)
unfolding payload_of
payload_of-mdwr payload = refl

length-with_zeros : (front : List ℕ) → length front ≡ 4 → length (with_zeros front) ≡ 16
unfolding with_zeros
length-with_zeros front four = omega (arith, length-append front (replicate 12 0))

IsBytes-with_zeros : (front : List ℕ) → IsBytes front → IsBytes (with_zeros front)
unfolding with_zeros
IsBytes-with_zeros front bytes = IsBytes-append front (replicate 12 0) bytes (IsBytes-zeros 12)

drop-with_zeros : (front : List ℕ) → length front ≡ 4 → drop 4 (with_zeros front) ≡ replicate 12 0
unfolding with_zeros
drop-with_zeros front four = drop_at front (replicate 12 0) 4 four

take-with_zeros : (front : List ℕ) → length front ≡ 4 → take 4 (with_zeros front) ≡ front
unfolding with_zeros
take-with_zeros front four = take_at front (replicate 12 0) 4 four

with_zeros-take : (payload : List ℕ) → drop 4 payload ≡ replicate 12 0 → with_zeros (take 4 payload) ≡ payload
unfolding with_zeros
with_zeros-take payload zeros = ap (λ (l : List ℕ). take 4 payload ++ l) (sym zeros) ∙ take-append-drop 4 payload

-- what a request keeps of its payload
record IsAsked (c : Command) (payload : List ℕ) : Type 0 where
  len : length payload ≡ payload_len_of c
  bytes : IsBytes payload
  zeros : c ≡ Mdwr → drop 4 payload ≡ replicate 12 0

asked_mdwr : (payload : List ℕ) → length payload ≡ payload_len_of Mdwr → IsBytes payload → IsAsked Mdwr (with_zeros (take 4 payload))
asked_mdwr payload len bytes =
    let sixteen = len ∙ payload_len_of-mdwr in
    let four : length (take 4 payload) ≡ 4 = omega (arith, length-take 4 payload) in
    record {
      len = length-with_zeros (take 4 payload) four ∙ sym payload_len_of-mdwr;
      bytes = IsBytes-with_zeros (take 4 payload) (IsBytes-take 4 payload bytes);
      zeros = λ is. drop-with_zeros (take 4 payload) four;
    }

asked_other : (c : Command) (payload : List ℕ) → c ≢ Mdwr → length payload ≡ payload_len_of c → IsBytes payload → IsAsked c payload
asked_other c payload other len bytes = record { len = len; bytes = bytes; zeros = λ is. absurd (other is) }

asked_payload : (c : Command) (payload : List ℕ) → length payload ≡ payload_len_of c → IsBytes payload → IsAsked c (payload_of c payload)
asked_payload c payload len bytes =
    elim (mdwr_or_other c) [
      | inl is ↦ subst (λ (d : Command). IsAsked d (payload_of d payload)) (sym is)
          (subst (λ (l : List ℕ). IsAsked Mdwr l) (sym (payload_of-mdwr payload)) (asked_mdwr payload (len ∙ ap payload_len_of is) bytes))
      | inr other ↦ subst (λ (l : List ℕ). IsAsked c l) (sym (other.1 payload)) (asked_other c payload other.0 len bytes)
    ]

pub request_payload : (p : PacketFields) → IsPacket p → layout_of p.command ≡ layouts.Ask → length p.payload ≡ payload_len_of p.command
request_payload p is layout = ask-payload p.command (length p.payload) layout is.payload.whole is.payload.allowed

pub mdwr_payload : (p : PacketFields) → IsPacket p → layout_of p.command ≡ layouts.Ask → p.command ≡ Mdwr → 4 ≤ length p.payload
mdwr_payload p is layout mdwr =
    let sixteen : length p.payload ≡ 16 = request_payload p is layout ∙ ap payload_len_of mdwr ∙ payload_len_of-mdwr in
    omega arith

-- what an ask packet carries is a request
pub IsRequest-request : (p : PacketFields) → IsPacket p → layout_of p.command ≡ layouts.Ask →
    IsRequest (record { command = p.command; cube = p.cube; address = p.address; payload = payload_of p.command p.payload })
IsRequest-request p is layout =
    let kept = asked_payload p.command p.payload (request_payload p is layout) is.payload.bytes in
    record {
      asks = ap family_of_layout layout;
      cube = is.ranges.cube;
      address = is.ranges.address;
      payload = kept.len;
      bytes = kept.bytes;
      zeros = kept.zeros;
    }

request_payload_back : (r : RequestFields) → IsRequest r → payload_of r.command r.payload ≡ r.payload
request_payload_back r is =
    elim (mdwr_or_other r.command) [
      | inl mdwr ↦ ap (λ (c : Command). payload_of c r.payload) mdwr ∙ payload_of-mdwr r.payload ∙ with_zeros-take r.payload (is.zeros mdwr)
      | inr other ↦ other.1 r.payload
    ]

-- a request is read back from its packet
pub request_in-request_packet : (r : RequestFields) (tag slid : ℕ) (poisoned : Bool) → IsRequest r → request_in (request_packet r tag slid poisoned) ≡ Some r
unfolding request_in request_packet
request_in-request_packet r tag slid poisoned is =
    let asks : is_ask (layout_of r.command) ≡ true = ap is_ask (asks-layout (layout_of r.command) is.asks) in
    let made : Option RequestFields = Some (record { command = r.command; cube = r.cube; address = r.address; payload = payload_of r.command r.payload }) in
    ap (λ (b : Bool). cond b made None) asks ∙ (λ i. Some (record { command = r.command; cube = r.cube; address = r.address; payload = request_payload_back r is i }))

-- ---- answers

reply_laid_out : (layout : Layout) (p : PacketFields) → layout ≡ layouts.Reply → p.address ≡ 0 → IsLaidOut layout p
reply_laid_out layouts.Reply p is address = address
reply_laid_out layouts.Ask p is address = absurd cc
reply_laid_out layouts.Null p is address = absurd cc
reply_laid_out layouts.Pret p is address = absurd cc
reply_laid_out layouts.Tret p is address = absurd cc
reply_laid_out layouts.Irtry p is address = absurd cc

IsPacket-response : (c : Command) (flag : Bool) (errstat : ℕ) (payload : List ℕ) (tag slid cube : ℕ) → layout_of c ≡ layouts.Reply → errstat < 2 ^ 7 → IsBytes payload → length payload % 16 ≡ 0 → allows_of c (1 + length payload / 16) ≡ true →
    tag < 2 ^ 11 → slid < 8 → cube < 8 → IsPacket (response c flag errstat payload tag slid cube)
IsPacket-response c flag errstat payload tag slid cube layout errstat-fits bytes whole allowed tag-fits slid-fits cube-fits = record {
  ranges = record { tag = tag-fits; address = lit< tt; cube = cube-fits; slid = slid-fits; errstat = errstat-fits; rtc = lit< tt; seq = lit< tt; frp = lit< tt };
  layout = reply_laid_out (layout_of c) (response c flag errstat payload tag slid cube) layout refl;
  payload = record { bytes = bytes; whole = whole; allowed = allowed };
}

returned_whole : (n : ℕ) → is_returned n ≡ true → (n % 16 ≡ 0) × ((16 ≤ n) × (n ≤ 128) ⊎ (n ≡ 256))
returned_whole n is =
    elim (or_cases (n % 16 == 0 && (nat_le 16 n && nat_le n 128)) (n == 256) is) [
      | inl few ↦
          let outer = and_parts (n % 16 == 0) (nat_le 16 n && nat_le n 128) few in
          let inner = and_parts (nat_le 16 n) (nat_le n 128) outer.1 in
          (eqb-true (n % 16) 0 outer.0, inl (leb-true 16 n inner.0, leb-true n 128 inner.1))
      | inr many ↦ let same = eqb-true n 256 many in (omega arith, inr same)
    ]

allows_of-read : (n : ℕ) → allows_of RdRs n ≡ ((nat_le 2 n && nat_le n 9) || n == 17)
unfolding table_line
allows_of-read n = refl

few_low : (n : ℕ) → 16 ≤ n → 2 ≤ 1 + n / 16
few_low n le = omega arith

few_high : (n : ℕ) → n ≤ 128 → 1 + n / 16 ≤ 9
few_high n le = omega arith

many_flits : (n : ℕ) → n ≡ 256 → 1 + n / 16 ≡ 17
many_flits n is = omega arith

returned_allowed : (n : ℕ) → is_returned n ≡ true → allows_of RdRs (1 + n / 16) ≡ true
returned_allowed n is =
    let whole = returned_whole n is in
    allows_of-read (1 + n / 16) ∙
    elim whole.1 [
      | inl few ↦ or_left _ _ (and_from _ _ (le-leb 2 (1 + n / 16) (few_low n few.0)) (le-leb (1 + n / 16) 9 (few_high n few.1)))
      | inr many ↦ or_right _ _ (eq-eqb (1 + n / 16) 17 (many_flits n many))
    ]

pub IsPacket-register : (value tag slid cube : ℕ) → tag < 2 ^ 11 → slid < 8 → cube < 8 → IsPacket (response MdRdRs false 0 (with_zeros (half_bytes value)) tag slid cube)
unfolding table_line
IsPacket-register value tag slid cube t s c =
    let len : length (with_zeros (half_bytes value)) ≡ 16 = length-with_zeros (half_bytes value) (length-half_bytes value) in
    IsPacket-response MdRdRs false 0 (with_zeros (half_bytes value)) tag slid cube refl (lit< tt) (IsBytes-with_zeros (half_bytes value) (IsBytes-half_bytes value))
    (ap (λ (n : ℕ). n % 16) len) (ap (λ (n : ℕ). allows_of MdRdRs (1 + n / 16)) len) t s c

-- what `reply` makes is a packet
pub IsPacket-reply_packet : (a : Answer) (tag slid cube : ℕ) → CanReply a → IsAnswer a → tag < 2 ^ 11 → slid < 8 → cube < 8 → IsPacket (reply_packet a tag slid cube)
unfolding reply_packet table_line
IsPacket-reply_packet Silent tag slid cube can fits t s c = absurd can
IsPacket-reply_packet (Done flag) tag slid cube can fits t s c = IsPacket-response WrRs flag 0 [] tag slid cube refl (lit< tt) IsBytes-[] refl refl t s c
IsPacket-reply_packet (Read flag payload) tag slid cube can fits t s c =
    IsPacket-response RdRs flag 0 payload tag slid cube refl (lit< tt) fits (returned_whole (length payload) can).0 (returned_allowed (length payload) can) t s c
IsPacket-reply_packet (Register value) tag slid cube can fits t s c = IsPacket-register value tag slid cube t s c
IsPacket-reply_packet Stored tag slid cube can fits t s c = IsPacket-response MdWrRs false 0 [] tag slid cube refl (lit< tt) IsBytes-[] refl refl t s c
IsPacket-reply_packet (Refused errstat) tag slid cube can fits t s c = IsPacket-response Error false errstat [] tag slid cube refl can IsBytes-[] refl refl t s c

-- an answer is read back from its packet
pub answer_in-reply_packet : (a : Answer) (tag slid cube : ℕ) → CanReply a → IsAnswer a → answer_in (reply_packet a tag slid cube) ≡ Some a
unfolding answer_in answer_by reply_packet
answer_in-reply_packet Silent tag slid cube can fits = absurd can
answer_in-reply_packet (Done flag) tag slid cube can fits = refl
answer_in-reply_packet (Read flag payload) tag slid cube can fits = refl
answer_in-reply_packet (Register value) tag slid cube can fits =
    let front : half_of (take 4 (with_zeros (half_bytes value))) ≡ value = ap half_of (take-with_zeros (half_bytes value) (length-half_bytes value)) ∙ half_of-half_bytes value fits in
    λ i. Some (Register (front i))
answer_in-reply_packet Stored tag slid cube can fits = refl
answer_in-reply_packet (Refused errstat) tag slid cube can fits = refl

-- the responses carry an answer, and no other packet does
answer_by-replies : (c : Command) (p : PacketFields) → (is_some (answer_by c p) ≡ true → family_of c ≡ families.Reply) × (family_of c ≡ families.Reply → is_some (answer_by c p) ≡ true)
unfolding answer_by table_line
answer_by-replies WrRs p = (λ is. refl, λ is. refl)
answer_by-replies RdRs p = (λ is. refl, λ is. refl)
answer_by-replies MdRdRs p = (λ is. refl, λ is. refl)
answer_by-replies MdWrRs p = (λ is. refl, λ is. refl)
answer_by-replies Error p = (λ is. refl, λ is. refl)
answer_by-replies _ p = (λ is. absurd cc, λ is. absurd cc)

pub answer_in-replies : (p : PacketFields) → (is_some (answer_in p) ≡ true → family_of p.command ≡ families.Reply) × (family_of p.command ≡ families.Reply → is_some (answer_in p) ≡ true)
unfolding answer_in
answer_in-replies p = answer_by-replies p.command p

-- the value of a register is in a whole flit
pub register_payload : (p : PacketFields) → IsPacket p → p.command ≡ MdRdRs → 4 ≤ length p.payload
unfolding table_line
register_payload p is register =
    let two : 1 + length p.payload / 16 ≡ 2 = eqb-true (1 + length p.payload / 16) 2 (ap (λ (c : Command). allows_of c (1 + length p.payload / 16)) (sym register) ∙ is.payload.allowed) in
    omega arith
