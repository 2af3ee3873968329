-- A tail's fields and its word, both ways, in both profiles.
use Rattle.std.proofs.Common.{◌≡◌, ◌<◌, ◌≤◌, ◌+◌, ◌*◌, ◌^◌, ◌∙◌, ℕ, zero, suc, true, refl, ap, arith, inl, inr}
use Rattle.std.specs.Prelude.{◌==◌, ◌&&◌}
use Rattle.std.proofs.lemmas.Bool.{eqb-true, eq-eqb, and_parts, and_from, or_cases}
use Rattle.hmc_codes.specs.Profile.{modulus_of}
use Rattle.hmc_codes.specs.declared.profile.Profile.{Profile}
use Rattle.hmc_codes.specs.declared.profile.Profile.TheVariants.{One, Two}
use Rattle.hmc_codes.specs.declared.layout.Layout.{Layout}
use Rattle.hmc_codes.specs.declared.layout.Layout.TheVariants as layouts
use Rattle.hmc_packet.specs.declared.tail.Tail.{Tail}
use Rattle.hmc_packet.specs.Bits.{bits_from}
use Rattle.hmc_packet.specs.Tail.{IsTail, FitsField, tail_layout, tail_word, tail_of, is_start_or_clear, has_zeros, tail_is_clean}

-- a tail without the fields that the layout lacks
unfoldable pub kept : Layout → Tail → Tail
kept layouts.Reply t = record t { slid = 0 }
kept _ t = record t { errstat = 0 }

-- what tails of a layout have
abbrev pub TailFits : Layout → Tail → Type 0
TailFits layouts.Null t = (t.rrp ≡ 0) × (t.frp ≡ 0) × (t.seq ≡ 0) × (t.slid ≡ 0) × (t.rtc ≡ 0)
TailFits layouts.Pret t = (t.frp ≡ 0) × (t.seq ≡ 0) × (t.slid ≡ 0) × (t.rtc ≡ 0)
TailFits layouts.Tret t = t.slid ≡ 0
TailFits layouts.Irtry t = (1 ≤ t.frp) × (t.frp ≤ 2) × (t.seq ≡ 0) × (t.slid ≡ 0) × (t.rtc ≡ 0)
TailFits layouts.Ask t = Unit {0}
TailFits layouts.Reply t = Unit {0}

-- pointers below the modulus fit their fields, and the other way round
pub rrp-fits : (profile : Profile) (rrp : ℕ) → rrp < modulus_of profile → FitsField (tail_layout profile).rrp rrp
rrp-fits One rrp lt = lt
rrp-fits Two rrp lt = lt

pub frp-fits : (profile : Profile) (frp : ℕ) → frp < modulus_of profile → FitsField (tail_layout profile).frp frp
frp-fits One frp lt = lt
frp-fits Two frp lt = lt

pub rrp-below : (profile : Profile) (rrp : ℕ) → FitsField (tail_layout profile).rrp rrp → rrp < modulus_of profile
rrp-below One rrp fits = fits
rrp-below Two rrp fits = fits

pub frp-below : (profile : Profile) (frp : ℕ) → FitsField (tail_layout profile).frp frp → frp < modulus_of profile
frp-below One frp fits = fits
frp-below Two frp fits = fits

pub seq-below : (profile : Profile) (seq : ℕ) → FitsField (tail_layout profile).seq seq → seq < 8
seq-below One seq fits = fits
seq-below Two seq fits = fits

pub slid-below : (profile : Profile) (slid : ℕ) → FitsField (tail_layout profile).slid slid → slid < 8
slid-below One slid fits = fits
slid-below Two slid fits = fits

pub rtc-below : (profile : Profile) (rtc : ℕ) → FitsField (tail_layout profile).rtc rtc → rtc < 8
rtc-below One rtc fits = fits
rtc-below Two rtc fits = fits

pub errstat-below : (profile : Profile) (errstat : ℕ) → FitsField (tail_layout profile).errstat errstat → errstat < 2 ^ 7
errstat-below One errstat fits = fits
errstat-below Two errstat fits = omega arith

pub three-fits : (profile : Profile) (n : ℕ) → n < 8 → FitsField (tail_layout profile).seq n × FitsField (tail_layout profile).slid n × FitsField (tail_layout profile).rtc n
three-fits One n lt = (lt, lt, lt)
three-fits Two n lt = (lt, lt, lt)

-- ---- from the fields to the word

pub tail_word-lt : (profile : Profile) (layout : Layout) (t : Tail) → IsTail profile t → tail_word profile layout t < 2 ^ 32
unfolding tail_word
tail_word-lt One layouts.Reply t is = omega arith
tail_word-lt Two layouts.Reply t is = omega arith
tail_word-lt One _ t is = omega arith
tail_word-lt Two _ t is = omega arith

ask_one : (rrp frp seq slid rtc word : ℕ) → rrp < 512 → frp < 512 → seq < 8 → slid < 8 → rtc < 8 → word ≡ rrp + frp * 2 ^ 9 + seq * 2 ^ 18 + slid * 2 ^ 26 + rtc * 2 ^ 29 →
    (bits_from 0 9 word ≡ rrp) × (bits_from 9 9 word ≡ frp) × (bits_from 18 3 word ≡ seq) × (bits_from 26 3 word ≡ slid) × (bits_from 29 3 word ≡ rtc)
ask_one rrp frp seq slid rtc word p q r s t is = (omega arith, omega arith, omega arith, omega arith, omega arith)

reply_one : (rrp frp seq errstat rtc word : ℕ) → rrp < 512 → frp < 512 → seq < 8 → errstat < 128 → rtc < 8 → word ≡ rrp + frp * 2 ^ 9 + seq * 2 ^ 18 + errstat * 2 ^ 22 + rtc * 2 ^ 29 →
    (bits_from 0 9 word ≡ rrp) × (bits_from 9 9 word ≡ frp) × (bits_from 18 3 word ≡ seq) × (bits_from 22 7 word ≡ errstat) × (bits_from 29 3 word ≡ rtc)
reply_one rrp frp seq errstat rtc word p q r s t is = (omega arith, omega arith, omega arith, omega arith, omega arith)

-- in profile Two SLID and ERRSTAT are at one place
ask_two : (rrp frp seq slid rtc word : ℕ) → rrp < 2048 → frp < 2048 → seq < 8 → slid < 8 → rtc < 8 → word ≡ rrp + frp * 2 ^ 11 + seq * 2 ^ 22 + slid * 2 ^ 25 + rtc * 2 ^ 29 →
    (bits_from 0 11 word ≡ rrp) × (bits_from 11 11 word ≡ frp) × (bits_from 22 3 word ≡ seq) × (bits_from 25 3 word ≡ slid) × (bits_from 29 3 word ≡ rtc)
ask_two rrp frp seq slid rtc word p q r s t is = (omega arith, omega arith, omega arith, omega arith, omega arith)

pub tail_of-word : (profile : Profile) (layout : Layout) (t : Tail) → IsTail profile t → tail_of profile layout (tail_word profile layout t) ≡ kept layout t
unfolding tail_word tail_of kept
tail_of-word One layouts.Reply t is =
    let f = reply_one t.rrp t.frp t.seq t.errstat t.rtc _ is.rrp is.frp is.seq is.errstat is.rtc refl in
    λ i. record { rrp = f.0 i; frp = f.1 i; seq = f.2 i; slid = 0; errstat = f.3 i; rtc = f.4 i }
tail_of-word Two layouts.Reply t is =
    let f = ask_two t.rrp t.frp t.seq t.errstat t.rtc _ is.rrp is.frp is.seq is.errstat is.rtc refl in
    λ i. record { rrp = f.0 i; frp = f.1 i; seq = f.2 i; slid = 0; errstat = f.3 i; rtc = f.4 i }
tail_of-word One _ t is =
    let f = ask_one t.rrp t.frp t.seq t.slid t.rtc _ is.rrp is.frp is.seq is.slid is.rtc refl in
    λ i. record { rrp = f.0 i; frp = f.1 i; seq = f.2 i; slid = f.3 i; errstat = 0; rtc = f.4 i }
tail_of-word Two _ t is =
    let f = ask_two t.rrp t.frp t.seq t.slid t.rtc _ is.rrp is.frp is.seq is.slid is.rtc refl in
    λ i. record { rrp = f.0 i; frp = f.1 i; seq = f.2 i; slid = f.3 i; errstat = 0; rtc = f.4 i }

-- the fields that a layout lacks don't count
tail_word-kept : (profile : Profile) (layout : Layout) (t : Tail) → tail_word profile layout (kept layout t) ≡ tail_word profile layout t
unfolding tail_word kept
tail_word-kept profile layouts.Reply t = refl
tail_word-kept profile _ t = refl

start_or_clear : (frp : ℕ) → 1 ≤ frp → frp ≤ 2 → is_start_or_clear frp ≡ true
start_or_clear zero p q = absurd (omega arith)
start_or_clear (suc zero) p q = refl
start_or_clear (suc (suc zero)) p q = refl
start_or_clear (suc (suc (suc n))) p q = absurd (omega arith)

one_or_two : (frp : ℕ) → is_start_or_clear frp ≡ true → (1 ≤ frp) × (frp ≤ 2)
one_or_two frp is =
    elim (or_cases (frp == 1) (frp == 2) is) [
      | inl one ↦ let same = eqb-true frp 1 one in (omega arith, omega arith)
      | inr two ↦ let same = eqb-true frp 2 two in (omega arith, omega arith)
    ]

-- the zeros that a layout wants, as a fact and as a test
has_zeros-TailFits : (layout : Layout) (t : Tail) → TailFits layout t → has_zeros layout (kept layout t) ≡ true
unfolding kept
has_zeros-TailFits layouts.Ask t fits = refl
has_zeros-TailFits layouts.Reply t fits = refl
has_zeros-TailFits layouts.Tret t fits = eq-eqb t.slid 0 fits
has_zeros-TailFits layouts.Irtry t fits =
    and_from _ _ (and_from _ _ (eq-eqb t.seq 0 fits.2) (eq-eqb t.slid 0 fits.3)) (and_from _ _ (eq-eqb t.rtc 0 fits.4) (start_or_clear t.frp fits.0 fits.1))
has_zeros-TailFits layouts.Pret t fits =
    and_from _ _ (and_from _ _ (eq-eqb t.frp 0 fits.0) (eq-eqb t.seq 0 fits.1)) (and_from _ _ (eq-eqb t.slid 0 fits.2) (eq-eqb t.rtc 0 fits.3))
has_zeros-TailFits layouts.Null t fits =
    and_from _ _ (and_from _ _ (eq-eqb t.rrp 0 fits.0) (eq-eqb t.frp 0 fits.1)) (and_from _ _ (eq-eqb t.seq 0 fits.2) (and_from _ _ (eq-eqb t.slid 0 fits.3) (eq-eqb t.rtc 0 fits.4)))

TailFits-has_zeros : (layout : Layout) (t : Tail) → has_zeros layout t ≡ true → TailFits layout t
TailFits-has_zeros layouts.Ask t is = tt
TailFits-has_zeros layouts.Reply t is = tt
TailFits-has_zeros layouts.Tret t is = eqb-true t.slid 0 is
TailFits-has_zeros layouts.Irtry t is =
    let parts = and_parts (t.seq == 0 && t.slid == 0) (t.rtc == 0 && is_start_or_clear t.frp) is in
    let low = and_parts (t.seq == 0) (t.slid == 0) parts.0 in
    let high = and_parts (t.rtc == 0) (is_start_or_clear t.frp) parts.1 in
    let kind = one_or_two t.frp high.1 in
    (kind.0, kind.1, eqb-true t.seq 0 low.0, eqb-true t.slid 0 low.1, eqb-true t.rtc 0 high.0)
TailFits-has_zeros layouts.Pret t is =
    let parts = and_parts (t.frp == 0 && t.seq == 0) (t.slid == 0 && t.rtc == 0) is in
    let low = and_parts (t.frp == 0) (t.seq == 0) parts.0 in
    let high = and_parts (t.slid == 0) (t.rtc == 0) parts.1 in
    (eqb-true t.frp 0 low.0, eqb-true t.seq 0 low.1, eqb-true t.slid 0 high.0, eqb-true t.rtc 0 high.1)
TailFits-has_zeros layouts.Null t is =
    let parts = and_parts (t.rrp == 0 && t.frp == 0) (t.seq == 0 && (t.slid == 0 && t.rtc == 0)) is in
    let low = and_parts (t.rrp == 0) (t.frp == 0) parts.0 in
    let high = and_parts (t.seq == 0) (t.slid == 0 && t.rtc == 0) parts.1 in
    let last = and_parts (t.slid == 0) (t.rtc == 0) high.1 in
    (eqb-true t.rrp 0 low.0, eqb-true t.frp 0 low.1, eqb-true t.seq 0 high.0, eqb-true t.slid 0 last.0, eqb-true t.rtc 0 last.1)

pub tail_is_clean-word : (profile : Profile) (layout : Layout) (t : Tail) → IsTail profile t → TailFits layout t → tail_is_clean profile layout (tail_word profile layout t) ≡ true
unfolding tail_is_clean
tail_is_clean-word profile layout t is fits =
    let fields = tail_of-word profile layout t is in
    and_from _ _
    (eq-eqb _ _ (ap (tail_word profile layout) fields ∙ tail_word-kept profile layout t))
    (ap (has_zeros layout) fields ∙ has_zeros-TailFits layout t fits)

-- ---- from the word to the fields

-- a clean word has what the layout wants
pub TailFits-of : (profile : Profile) (layout : Layout) (word : ℕ) → tail_is_clean profile layout word ≡ true → TailFits layout (tail_of profile layout word)
unfolding tail_is_clean
TailFits-of profile layout word clean = TailFits-has_zeros layout _ (and_parts (tail_word profile layout (tail_of profile layout word) == word) (has_zeros layout (tail_of profile layout word)) clean).1

pub tail_word-of : (profile : Profile) (layout : Layout) (word : ℕ) → tail_is_clean profile layout word ≡ true → tail_word profile layout (tail_of profile layout word) ≡ word
unfolding tail_is_clean
tail_word-of profile layout word clean = eqb-true _ word (and_parts (tail_word profile layout (tail_of profile layout word) == word) (has_zeros layout (tail_of profile layout word)) clean).0

pub IsTail-of : (profile : Profile) (layout : Layout) (word : ℕ) → IsTail profile (tail_of profile layout word)
unfolding tail_of
IsTail-of One layouts.Reply word = record { rrp = omega arith; frp = omega arith; seq = omega arith; slid = omega arith; errstat = omega arith; rtc = omega arith }
IsTail-of Two layouts.Reply word = record { rrp = omega arith; frp = omega arith; seq = omega arith; slid = omega arith; errstat = omega arith; rtc = omega arith }
IsTail-of One _ word = record { rrp = omega arith; frp = omega arith; seq = omega arith; slid = omega arith; errstat = omega arith; rtc = omega arith }
IsTail-of Two _ word = record { rrp = omega arith; frp = omega arith; seq = omega arith; slid = omega arith; errstat = omega arith; rtc = omega arith }
