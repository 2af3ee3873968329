-- A header's fields and its word, both ways.
use Rattle.std.proofs.Common.{◌≡◌, ◌<◌, ◌+◌, ◌*◌, ◌^◌, ◌∙◌, ℕ, zero, suc, Bool, true, false, refl, ap, arith}
use Rattle.std.specs.Prelude.{◌&&◌, ◌==◌}
use Rattle.std.proofs.lemmas.Bool.{eqb-true, eq-eqb, and_parts, and_from}
use Rattle.hmc_codes.specs.declared.layout.Layout.{Layout}
use Rattle.hmc_codes.specs.declared.layout.Layout.TheVariants as layouts
use Rattle.hmc_packet.specs.declared.header.Header.{Header}
use Rattle.hmc_packet.specs.Bits.{bits_from, bit}
use Rattle.hmc_codes.specs.Commands.{is_flow}
use Rattle.hmc_packet.specs.Header.{IsHeader, header_word, header_of, header_is_clean}

-- a header without the fields that the layout lacks
unfoldable pub kept : Layout → Header → Header
kept layouts.Reply h = record h { address = 0 }
kept _ h = record h { flag = false; slid = 0 }

-- a flag and its bit
pub bit-lt : (flag : Bool) → bit flag < 2
bit-lt true = omega arith
bit-lt false = omega arith

bit-back : (flag : Bool) → (bit flag == 1) ≡ flag
bit-back true = refl
bit-back false = refl

pub bit-test : (n : ℕ) → n < 2 → bit (n == 1) ≡ n
bit-test zero lt = refl
bit-test (suc zero) lt = refl
bit-test (suc (suc n)) lt = absurd (omega arith)

-- ---- from the fields to the word

short_word : (code flits tag address cube : ℕ) → code < 2 ^ 7 → flits < 2 ^ 5 → tag < 2 ^ 11 → address < 2 ^ 34 → cube < 2 ^ 3 →
    code + flits * 2 ^ 7 + tag * 2 ^ 12 + address * 2 ^ 24 + cube * 2 ^ 61 < 2 ^ 64
short_word code flits tag address cube p q r s t = omega arith

reply_word : (code flits tag flag slid cube : ℕ) → code < 2 ^ 7 → flits < 2 ^ 5 → tag < 2 ^ 11 → flag < 2 → slid < 2 ^ 3 → cube < 2 ^ 3 →
    code + flits * 2 ^ 7 + tag * 2 ^ 12 + flag * 2 ^ 33 + slid * 2 ^ 39 + cube * 2 ^ 61 < 2 ^ 64
reply_word code flits tag flag slid cube p q r s t u = omega arith

pub header_word-lt : (layout : Layout) (h : Header) → IsHeader h → header_word layout h < 2 ^ 64
unfolding header_word
header_word-lt layouts.Reply h is = reply_word h.code h.flits h.tag (bit h.flag) h.slid h.cube is.code is.flits is.tag (bit-lt h.flag) is.slid is.cube
header_word-lt _ h is = short_word h.code h.flits h.tag h.address h.cube is.code is.flits is.tag is.address is.cube

-- the fields of a request's word
short_fields : (code flits tag address cube word : ℕ) → code < 2 ^ 7 → flits < 2 ^ 5 → tag < 2 ^ 11 → address < 2 ^ 34 → cube < 2 ^ 3 →
    word ≡ code + flits * 2 ^ 7 + tag * 2 ^ 12 + address * 2 ^ 24 + cube * 2 ^ 61 →
    (bits_from 0 7 word ≡ code) × (bits_from 7 5 word ≡ flits) × (bits_from 12 11 word ≡ tag) × (bits_from 24 34 word ≡ address) × (bits_from 61 3 word ≡ cube)
short_fields code flits tag address cube word p q r s t is = (omega arith, omega arith, omega arith, omega arith, omega arith)

-- the fields of a response's word
reply_fields : (code flits tag flag slid cube word : ℕ) → code < 2 ^ 7 → flits < 2 ^ 5 → tag < 2 ^ 11 → flag < 2 → slid < 2 ^ 3 → cube < 2 ^ 3 →
    word ≡ code + flits * 2 ^ 7 + tag * 2 ^ 12 + flag * 2 ^ 33 + slid * 2 ^ 39 + cube * 2 ^ 61 →
    (bits_from 0 7 word ≡ code) × (bits_from 7 5 word ≡ flits) × (bits_from 12 11 word ≡ tag) × (bits_from 33 1 word ≡ flag) × (bits_from 39 3 word ≡ slid) × (bits_from 61 3 word ≡ cube)
reply_fields code flits tag flag slid cube word p q r s t u is = (omega arith, omega arith, omega arith, omega arith, omega arith, omega arith)

pub header_of-word : (layout : Layout) (h : Header) → IsHeader h → header_of layout (header_word layout h) ≡ kept layout h
unfolding header_word header_of kept
header_of-word layouts.Reply h is =
    let f = reply_fields h.code h.flits h.tag (bit h.flag) h.slid h.cube _ is.code is.flits is.tag (bit-lt h.flag) is.slid is.cube refl in
    let flag = ap (λ (n : ℕ). n == 1) f.3 ∙ bit-back h.flag in
    λ i. record { code = f.0 i; flits = f.1 i; tag = f.2 i; address = 0; flag = flag i; slid = f.4 i; cube = f.5 i }
header_of-word _ h is =
    let f = short_fields h.code h.flits h.tag h.address h.cube _ is.code is.flits is.tag is.address is.cube refl in
    λ i. record { code = f.0 i; flits = f.1 i; tag = f.2 i; address = f.3 i; flag = false; slid = 0; cube = f.4 i }

ask_zeros : (code flits tag address cube : ℕ) → code < 2 ^ 7 → flits < 2 ^ 5 → tag < 2 ^ 11 → address < 2 ^ 34 → cube < 2 ^ 3 →
    (bits_from 23 1 (code + flits * 2 ^ 7 + tag * 2 ^ 12 + address * 2 ^ 24 + cube * 2 ^ 61) ≡ 0) × (bits_from 58 3 (code + flits * 2 ^ 7 + tag * 2 ^ 12 + address * 2 ^ 24 + cube * 2 ^ 61) ≡ 0)
ask_zeros code flits tag address cube p q r s t = (omega arith, omega arith)

reply_zeros : (code flits tag flag slid cube word : ℕ) → code < 2 ^ 7 → flits < 2 ^ 5 → tag < 2 ^ 11 → flag < 2 → slid < 2 ^ 3 → cube < 2 ^ 3 →
    word ≡ code + flits * 2 ^ 7 + tag * 2 ^ 12 + flag * 2 ^ 33 + slid * 2 ^ 39 + cube * 2 ^ 61 →
    (bits_from 23 10 word ≡ 0) × (bits_from 34 5 word ≡ 0) × (bits_from 42 19 word ≡ 0)
reply_zeros code flits tag flag slid cube word p q r s t u is = (omega arith, omega arith, omega arith)

flow_zeros : (code flits tag address cube : ℕ) → code < 2 ^ 7 → flits < 2 ^ 5 → (tag ≡ 0) × (address ≡ 0) × (cube ≡ 0) →
    bits_from 12 52 (code + flits * 2 ^ 7 + tag * 2 ^ 12 + address * 2 ^ 24 + cube * 2 ^ 61) ≡ 0
flow_zeros code flits tag address cube p q zeros = omega (arith, zeros.0, zeros.1, zeros.2)

pub code-word : (layout : Layout) (h : Header) → IsHeader h → bits_from 0 7 (header_word layout h) ≡ h.code
unfolding header_word
code-word layouts.Reply h is = (reply_fields h.code h.flits h.tag (bit h.flag) h.slid h.cube _ is.code is.flits is.tag (bit-lt h.flag) is.slid is.cube refl).0
code-word _ h is = (short_fields h.code h.flits h.tag h.address h.cube _ is.code is.flits is.tag is.address is.cube refl).0

pub flits-word : (layout : Layout) (h : Header) → IsHeader h → bits_from 7 5 (header_word layout h) ≡ h.flits
unfolding header_word
flits-word layouts.Reply h is = (reply_fields h.code h.flits h.tag (bit h.flag) h.slid h.cube _ is.code is.flits is.tag (bit-lt h.flag) is.slid is.cube refl).1
flits-word _ h is = (short_fields h.code h.flits h.tag h.address h.cube _ is.code is.flits is.tag is.address is.cube refl).1

-- of a flow packet tag, address and cube are zero
pub header_is_clean-word : (layout : Layout) (h : Header) → IsHeader h → (is_flow layout ≡ true → (h.tag ≡ 0) × (h.address ≡ 0) × (h.cube ≡ 0)) → header_is_clean layout (header_word layout h) ≡ true
unfolding header_word header_is_clean
header_is_clean-word layouts.Ask h is zeros =
    let z = ask_zeros h.code h.flits h.tag h.address h.cube is.code is.flits is.tag is.address is.cube in
    and_from _ _ (eq-eqb _ 0 z.0) (eq-eqb _ 0 z.1)
header_is_clean-word layouts.Reply h is zeros =
    let z = reply_zeros h.code h.flits h.tag (bit h.flag) h.slid h.cube _ is.code is.flits is.tag (bit-lt h.flag) is.slid is.cube refl in
    and_from _ _ (and_from _ _ (eq-eqb _ 0 z.0) (eq-eqb _ 0 z.1)) (eq-eqb _ 0 z.2)
header_is_clean-word _ h is zeros = eq-eqb _ 0 (flow_zeros h.code h.flits h.tag h.address h.cube is.code is.flits (zeros refl))

-- ---- from the word to the fields

ask_whole : (word : ℕ) → word < 2 ^ 64 → bits_from 23 1 word ≡ 0 → bits_from 58 3 word ≡ 0 →
    bits_from 0 7 word + bits_from 7 5 word * 2 ^ 7 + bits_from 12 11 word * 2 ^ 12 + bits_from 24 34 word * 2 ^ 24 + bits_from 61 3 word * 2 ^ 61 ≡ word
ask_whole word lt p q = omega arith

reply_whole : (word : ℕ) → word < 2 ^ 64 → bits_from 23 10 word ≡ 0 → bits_from 34 5 word ≡ 0 → bits_from 42 19 word ≡ 0 →
    bits_from 0 7 word + bits_from 7 5 word * 2 ^ 7 + bits_from 12 11 word * 2 ^ 12 + bits_from 33 1 word * 2 ^ 33 + bits_from 39 3 word * 2 ^ 39 + bits_from 61 3 word * 2 ^ 61 ≡ word
reply_whole word lt p q r = omega arith

flow_whole : (word : ℕ) → word < 2 ^ 64 → bits_from 12 52 word ≡ 0 →
    bits_from 0 7 word + bits_from 7 5 word * 2 ^ 7 + bits_from 12 11 word * 2 ^ 12 + bits_from 24 34 word * 2 ^ 24 + bits_from 61 3 word * 2 ^ 61 ≡ word
flow_whole word lt p = omega arith

pub header_word-of : (layout : Layout) (word : ℕ) → word < 2 ^ 64 → header_is_clean layout word ≡ true → header_word layout (header_of layout word) ≡ word
unfolding header_word header_of header_is_clean
header_word-of layouts.Ask word lt clean =
    let z = and_parts (bits_from 23 1 word == 0) (bits_from 58 3 word == 0) clean in
    ask_whole word lt (eqb-true _ 0 z.0) (eqb-true _ 0 z.1)
header_word-of layouts.Reply word lt clean =
    let z = and_parts (bits_from 23 10 word == 0 && bits_from 34 5 word == 0) (bits_from 42 19 word == 0) clean in
    let y = and_parts (bits_from 23 10 word == 0) (bits_from 34 5 word == 0) z.0 in
    let flag : bit (bits_from 33 1 word == 1) ≡ bits_from 33 1 word = bit-test (bits_from 33 1 word) (omega arith) in
    ap (λ (n : ℕ). bits_from 0 7 word + bits_from 7 5 word * 2 ^ 7 + bits_from 12 11 word * 2 ^ 12 + n * 2 ^ 33 + bits_from 39 3 word * 2 ^ 39 + bits_from 61 3 word * 2 ^ 61) flag
    ∙ reply_whole word lt (eqb-true _ 0 y.0) (eqb-true _ 0 y.1) (eqb-true _ 0 z.1)
header_word-of _ word lt clean = flow_whole word lt (eqb-true _ 0 clean)

-- of a clean word tag, address and cube of a flow packet are zero
flow_parts : (word : ℕ) → word < 2 ^ 64 → bits_from 12 52 word ≡ 0 → (bits_from 12 11 word ≡ 0) × (bits_from 24 34 word ≡ 0) × (bits_from 61 3 word ≡ 0)
flow_parts word lt is = (omega arith, omega arith, omega arith)

pub clean_flow-header : (layout : Layout) (word : ℕ) → word < 2 ^ 64 → is_flow layout ≡ true → header_is_clean layout word ≡ true →
    ((header_of layout word).tag ≡ 0) × ((header_of layout word).address ≡ 0) × ((header_of layout word).cube ≡ 0)
unfolding header_of header_is_clean
clean_flow-header layouts.Ask word lt flow clean = absurd cc
clean_flow-header layouts.Reply word lt flow clean = absurd cc
clean_flow-header _ word lt flow clean = flow_parts word lt (eqb-true _ 0 clean)

pub header_of-code : (layout : Layout) (word : ℕ) → (header_of layout word).code ≡ bits_from 0 7 word
unfolding header_of
header_of-code layouts.Reply word = refl
header_of-code _ word = refl

pub header_of-flits : (layout : Layout) (word : ℕ) → (header_of layout word).flits ≡ bits_from 7 5 word
unfolding header_of
header_of-flits layouts.Reply word = refl
header_of-flits _ word = refl

-- what the layout lacks
pub header_of-lacks : (layout : Layout) (word : ℕ) → kept layout (header_of layout word) ≡ header_of layout word
unfolding header_of kept
header_of-lacks layouts.Reply word = refl
header_of-lacks _ word = refl

pub IsHeader-of : (layout : Layout) (word : ℕ) → IsHeader (header_of layout word)
unfolding header_of
IsHeader-of layouts.Reply word = record { code = omega arith; flits = omega arith; tag = omega arith; address = omega arith; slid = omega arith; cube = omega arith }
IsHeader-of _ word = record { code = omega arith; flits = omega arith; tag = omega arith; address = omega arith; slid = omega arith; cube = omega arith }
