-- The copy of a packet that is passed on is a packet.
use Rattle.std.proofs.Common.{◌≡◌, ◌≢◌, ◌∙◌, ◌<◌, ◌≤◌, ◌+◌, ◌-◌, ◌*◌, ◌/◌, ◌%◌, ◌^◌, ℕ, suc, Bool, true, false, List, [], ◌∷◌, ◌++◌, length, take, drop, get_or, Option, Some, None, refl, sym, ap, subst, arith, length-append}
use Rattle.std.specs.Prelude.{◌==◌, ◌&&◌, not, if◌then◌else◌, option_and_then}
use Rattle.std.specs.List.{concat}
use Rattle.std.proofs.lemmas.List.{append_assoc, take-append-le, length-drop}
use Rattle.std.proofs.lemmas.Bool.{and_parts}
use Rattle.hmc_codes.specs.Codes.{command_of}
use Rattle.hmc_codes.specs.Table.{table_line}
use Rattle.hmc_codes.specs.Commands.{layout_of, allows_of, is_flow}
use Rattle.hmc_codes.specs.Profile.{modulus_of}
use Rattle.hmc_codes.specs.declared.command.Command.{Command}
use Rattle.hmc_codes.specs.declared.command.Command.TheVariants.{Null}
use Rattle.hmc_codes.specs.declared.layout.Layout.{Layout}
use Rattle.hmc_codes.specs.declared.layout.Layout.TheVariants as layouts
use Rattle.hmc_codes.specs.declared.profile.Profile.{Profile}
use Rattle.hmc_codes.specs.declared.profile.Profile.TheVariants.{One, Two}
use Rattle.hmc_packet.specs.declared.head.Head.{Head}
use Rattle.hmc_packet.specs.declared.header.Header.{Header}
use Rattle.hmc_packet.specs.Copy.{copied_packet}
use Rattle.hmc_packet.specs.Bits.{bits_from}
use Rattle.hmc_packet.specs.Head.{named_by, head_in, head_with}
use Rattle.hmc_packet.specs.Header.{header_of, header_is_clean}
use Rattle.hmc_packet.specs.Packet.{PacketFields, IsPacket, IsLaidOut, flits_of}
use Rattle.hmc_packet.specs.Parts.{word_of, header_in}
use Rattle.hmc_packet.specs.Reading.{command_in, fitting, packet_from}
use Rattle.hmc_packet.specs.Tail.{FitsField, tail_layout}
use Rattle.hmc_send.specs.declared.numbers.Numbers.{Numbers}
use Rattle.hmc_send.specs.Copies.{copy_of, command_or_null, is_reply, errstat_for, tail_with}
use Rattle.hmc_send.specs.Kept.{AreNumbers, IsPayloadOf, CanBeSent, IsHead}

-- what a head says of its flit
pub record HeadSays (flit : List ℕ) (h : Head) : Type 0 where
  pub names : named_by flit ≡ Some h.command
  pub no_flow : is_flow (layout_of h.command) ≡ false
  pub allowed : allows_of h.command h.flits ≡ true

allowed-by : (code lng : ℕ) (o : Option Command) (c : Command) → fitting code lng o ≡ Some c → allows_of c lng ≡ true
unfolding fitting
allowed-by code lng None c is = absurd cc
allowed-by code lng (Some d) c is = by_test (not (code == 0) && allows_of d lng) refl is
  where
    by_test : (b : Bool) → (not (code == 0) && allows_of d lng) ≡ b → (if b then Some d else None) ≡ Some c → allows_of c lng ≡ true
    by_test true test same =
        let e : d ≡ c = cc in ap (λ (x : Command). allows_of x lng) (sym e) ∙ (and_parts (not (code == 0)) (allows_of d lng) test).1
    by_test false test same = absurd cc

says-by : (flit : List ℕ) (h : Head) (o : Option Command) → named_by flit ≡ o → Some h ≡ option_and_then (λ command. head_with (layout_of command) command (header_in flit)) o → HeadSays flit h
unfolding named_by command_in head_with
says-by flit h None named is = absurd cc
says-by flit h (Some c) named is = by_test (not (is_flow (layout_of c)) && header_is_clean (layout_of c) (header_in flit)) refl is
  where
    found : Head
    found = record { command = c; flits = bits_from 7 5 (header_in flit); cube = (header_of (layout_of c) (header_in flit)).cube; slid = (header_of (layout_of c) (header_in flit)).slid }

    not_flow : (b : Bool) → not b ≡ true → b ≡ false
    not_flow true is = absurd cc
    not_flow false is = refl

    by_test : (b : Bool) → (not (is_flow (layout_of c)) && header_is_clean (layout_of c) (header_in flit)) ≡ b → Some h ≡ (if b then Some found else None) → HeadSays flit h
    by_test true test same =
        let e : found ≡ h = cc in
        subst (HeadSays flit) e (record {
          names = named;
          no_flow = not_flow (is_flow (layout_of c)) (and_parts (not (is_flow (layout_of c))) (header_is_clean (layout_of c) (header_in flit)) test).0;
          allowed = allowed-by (bits_from 0 7 (header_in flit)) (bits_from 7 5 (header_in flit)) (command_of (bits_from 0 7 (header_in flit))) c named;
        })
    by_test false test same = absurd cc

pub head-says : (flit : List ℕ) (h : Head) → Some h ≡ head_in flit → HeadSays flit h
unfolding head_in
head-says flit h is = says-by flit h (named_by flit) refl is

-- the header of the bytes is that of their first flit
pub header-front : (front : List (List ℕ)) (half : List ℕ) → 1 ≤ length front → length (get_or front 0 []) ≡ 16 → header_in (concat front ++ half) ≡ header_in (get_or front 0 [])
header-front [] half some size = absurd (omega arith)
header-front (first ∷ rest) half some size =
    ap (λ (l : List ℕ). word_of (take 8 l)) (append_assoc first (concat rest) half) ∙ ap word_of (take-append-le 8 first (concat rest ++ half) (omega arith))

pub copy-made : (profile : Profile) (front : List (List ℕ)) (half : List ℕ) (slid errstat : ℕ) (good : Bool) (n : Numbers) (h : Head) (word cut : ℕ) (payload : List ℕ) → 1 ≤ length front → length (get_or front 0 []) ≡ 16 →
    Some h ≡ head_in (get_or front 0 []) → word ≡ header_in (get_or front 0 []) → cut ≡ errstat_for profile (layout_of h.command) errstat → payload ≡ drop 8 (concat front ++ half) →
    packet_from (layout_of h.command) h.command (header_of (layout_of h.command) word) (tail_with n slid cut) (not good) payload ≡ copy_of profile front half slid errstat good n
unfolding copy_of copied_packet named_by
copy-made profile front half slid errstat good n h word cut payload some size head word_is cut_is payload_is =
    let bytes = concat front ++ half in
    let says = head-says (get_or front 0 []) h head in
    let header = header-front front half some size in
    let named : named_by bytes ≡ Some h.command = ap command_in header ∙ says.names in
    let command : h.command ≡ command_or_null (named_by bytes) = ap command_or_null (sym named) in
    let w : word ≡ header_in bytes = word_is ∙ sym header in
    let e : cut ≡ errstat_for profile (layout_of (command_or_null (named_by bytes))) errstat = cut_is ∙ ap (λ (c : Command). errstat_for profile (layout_of c) errstat) command in
    λ i. packet_from (layout_of (command i)) (command i) (header_of (layout_of (command i)) (w i)) (tail_with n slid (e i)) (not good) (payload_is i)

-- ---- it is a packet

abbrev made : Command → (tag address cube slid : ℕ) → Bool → (errstat : ℕ) → Numbers → Bool → List ℕ → PacketFields
made command tag address cube slid flag errstat n poisoned payload = record {
  command = command;
  tag = tag;
  address = address;
  cube = cube;
  slid = slid;
  flag = flag;
  errstat = errstat;
  rtc = n.rtc;
  seq = n.seq;
  frp = n.frp;
  poisoned = poisoned;
  payload = payload;
}

flow-clash : (layout : Layout) (command : Command) → layout ≡ layout_of command → is_flow (layout_of command) ≡ false → is_flow layout ≡ true → ⊥
flow-clash layout command same no_flow flow = let clash : true ≡ false = sym flow ∙ ap is_flow same ∙ no_flow in absurd cc

-- the SLID of header or tail has three bits
pub slid-few : (layout : Layout) (h : Header) (slid of : ℕ) → of ≡ (if is_reply layout then h.slid else slid) → h.slid < 8 → slid < 8 → of < 8
slid-few layouts.Reply h slid of is few small = omega arith
slid-few _ h slid of is few small = omega arith

pub IsPacket-made : (layout : Layout) (command : Command) (word tag address cube slid errstat : ℕ) (flag poisoned : Bool) (n : Numbers) (payload : List ℕ) → layout ≡ layout_of command → is_flow (layout_of command) ≡ false →
    tag ≡ (header_of layout word).tag → address ≡ (header_of layout word).address → flag ≡ (header_of layout word).flag → cube ≡ (header_of layout word).cube →
    slid < 8 → errstat < 2 ^ 7 → (layout_of command ≡ layouts.Ask → errstat ≡ 0) → AreNumbers n → IsPayloadOf command payload →
    IsPacket (made command tag address cube slid flag errstat n poisoned payload)
unfolding header_of
IsPacket-made layouts.Ask command word tag address cube slid errstat flag poisoned n payload same no_flow t a f c s e zero_errstat fits filled =
    let p = made command tag address cube slid flag errstat n poisoned payload in
    let t2 : tag ≡ word / 2 ^ 12 % 2 ^ 11 = t in
    let a2 : address ≡ word / 2 ^ 24 % 2 ^ 34 = a in
    let c2 : cube ≡ word / 2 ^ 61 % 2 ^ 3 = c in
    record {
      ranges = record { tag = omega arith; address = omega arith; cube = omega arith; slid = s; errstat = e; rtc = fits.rtc; seq = fits.seq; frp = fits.frp };
      layout = subst (λ (l : Layout). IsLaidOut l p) same (f, zero_errstat (sym same));
      payload = record { bytes = filled.bytes; whole = filled.whole; allowed = filled.allowed };
    }
IsPacket-made layouts.Reply command word tag address cube slid errstat flag poisoned n payload same no_flow t a f c s e zero_errstat fits filled =
    let p = made command tag address cube slid flag errstat n poisoned payload in
    let t2 : tag ≡ word / 2 ^ 12 % 2 ^ 11 = t in
    let a2 : address ≡ 0 = a in
    let c2 : cube ≡ word / 2 ^ 61 % 2 ^ 3 = c in
    record {
      ranges = record { tag = omega arith; address = omega arith; cube = omega arith; slid = s; errstat = e; rtc = fits.rtc; seq = fits.seq; frp = fits.frp };
      layout = subst (λ (l : Layout). IsLaidOut l p) same a;
      payload = record { bytes = filled.bytes; whole = filled.whole; allowed = filled.allowed };
    }
IsPacket-made layouts.Null command word tag address cube slid errstat flag poisoned n payload same no_flow t a f c s e zero_errstat fits filled = absurd (flow-clash layouts.Null command same no_flow refl)
IsPacket-made layouts.Pret command word tag address cube slid errstat flag poisoned n payload same no_flow t a f c s e zero_errstat fits filled = absurd (flow-clash layouts.Pret command same no_flow refl)
IsPacket-made layouts.Tret command word tag address cube slid errstat flag poisoned n payload same no_flow t a f c s e zero_errstat fits filled = absurd (flow-clash layouts.Tret command same no_flow refl)
IsPacket-made layouts.Irtry command word tag address cube slid errstat flag poisoned n payload same no_flow t a f c s e zero_errstat fits filled = absurd (flow-clash layouts.Irtry command same no_flow refl)

-- the bytes after the header are whole flits, as many as the head allows
pub payload-filled : (h : Head) (front : List (List ℕ)) (payload bytes : List ℕ) → allows_of h.command h.flits ≡ true → h.flits ≡ suc (length front) → length bytes ≡ 16 * length front + 8 → payload ≡ drop 8 bytes →
    ((length payload % 16 ≡ 0) × (allows_of h.command (1 + length payload / 16) ≡ true)) × (1 + length payload / 16 ≡ suc (length front))
payload-filled h front payload bytes allowed flits size is =
    let len : length payload ≡ length bytes - 8 = ap length is ∙ length-drop 8 bytes in
    let count : 1 + length payload / 16 ≡ suc (length front) = omega arith in
    ((omega arith, ap (allows_of h.command) (count ∙ sym flits) ∙ allowed), count)

pub null-flow : (command : Command) → is_flow (layout_of command) ≡ false → command ≢ Null
unfolding table_line
null-flow command no_flow is = let clash : true ≡ false = ap (λ (c : Command). is_flow (layout_of c)) (sym is) ∙ no_flow in absurd cc

pub sendable-made : (profile : Profile) (command : Command) (word slid cut : ℕ) (poisoned : Bool) (n : Numbers) (payload : List ℕ) → is_flow (layout_of command) ≡ false → FitsField (tail_layout profile).errstat cut → n.frp < modulus_of profile →
    CanBeSent profile (packet_from (layout_of command) command (header_of (layout_of command) word) (tail_with n slid cut) poisoned payload)
unfolding packet_from
sendable-made profile command word slid cut poisoned n payload no_flow fits below = record { forward = below; errstat = fits; other = null-flow command no_flow }

pub flits-made : (command : Command) (word slid cut : ℕ) (poisoned : Bool) (n : Numbers) (payload : List ℕ) (count : ℕ) → 1 + length payload / 16 ≡ count →
    flits_of (packet_from (layout_of command) command (header_of (layout_of command) word) (tail_with n slid cut) poisoned payload) ≡ count
unfolding packet_from
flits-made command word slid cut poisoned n payload count is = is

pub length-concat : (flits : List (List ℕ)) → ((k : ℕ) → k < length flits → length (get_or flits k []) ≡ 16) → length (concat flits) ≡ 16 * length flits
length-concat [] each = omega arith
length-concat (x ∷ flits) each =
    let first : length x ≡ 16 = each 0 (omega arith) in
    let rest = length-concat flits (λ k lt. each (suc k) (omega arith)) in
    omega (arith, length-append x (concat flits), first, rest)

pub errstat-fits : (profile : Profile) (layout : Layout) (errstat : ℕ) → FitsField (tail_layout profile).errstat (errstat_for profile layout errstat)
errstat-fits One layouts.Reply errstat = omega arith
errstat-fits Two layouts.Reply errstat = omega arith
errstat-fits One _ errstat = omega arith
errstat-fits Two _ errstat = omega arith

-- each copy may be sent
pub copy-sendable : (profile : Profile) (front : List (List ℕ)) (half : List ℕ) (slid errstat : ℕ) (good : Bool) (n : Numbers) (flits : ℕ) → 1 ≤ length front → length (get_or front 0 []) ≡ 16 →
    IsHead (get_or front 0 []) flits → n.frp < modulus_of profile → CanBeSent profile (copy_of profile front half slid errstat good n)
copy-sendable profile front half slid errstat good n flits some size is below =
    let h = is.head in
    let reads : Some h ≡ head_in (get_or front 0 []) = sym is.reads in
    let says = head-says (get_or front 0 []) h reads in
    let cut = errstat_for profile (layout_of h.command) errstat in
    subst (CanBeSent profile)
    (copy-made profile front half slid errstat good n h (header_in (get_or front 0 [])) cut (drop 8 (concat front ++ half)) some size reads refl refl refl)
    (sendable-made profile h.command (header_in (get_or front 0 [])) slid cut (not good) n (drop 8 (concat front ++ half)) says.no_flow (errstat-fits profile (layout_of h.command) errstat) below)

pub copy-length : (profile : Profile) (front : List (List ℕ)) (half : List ℕ) (slid errstat : ℕ) (good : Bool) (n : Numbers) → ((k : ℕ) → k < length front → length (get_or front k []) ≡ 16) → length half ≡ 8 →
    flits_of (copy_of profile front half slid errstat good n) ≡ suc (length front)
unfolding copy_of copied_packet packet_from
copy-length profile front half slid errstat good n each size =
    let flits = length-concat front each in
    let all = length-append (concat front) half in
    let rest = length-drop 8 (concat front ++ half) in
    omega arith
