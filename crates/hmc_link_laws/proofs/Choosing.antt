-- When a send gives nothing, when it gives a NULL, and which code is the greatest.
use Rattle.std.proofs.Common.{◌≡◌, ◌∙◌, ◌≤◌, ◌<◌, ℕ, zero, suc, Bool, true, false, not, List, [], ◌∷◌, Option, Some, None, refl, sym, ap, subst, arith, leb-true}
use Rattle.std.specs.Prelude.{◌↔◌, ◌&&◌, nat_le, option_map, unwrap_or, if◌then◌else◌}
use Rattle.std.proofs.lemmas.Bool.{and_parts, and_from, le-leb}
use Rattle.hmc_codes.specs.Flit.{zero_flit}
use Rattle.hmc_codes.specs.declared.profile.Profile.{Profile}
use Rattle.hmc_packet.specs.declared.feed.Feed.{Feed}
use Rattle.hmc_packet.specs.declared.feed.Feed.TheVariants.{Waiting, Whole, Last}
use Rattle.hmc_packet.specs.declared.kind.Kind.{Kind}
use Rattle.hmc_packet.specs.declared.kind.Kind.TheVariants as kinds
use Rattle.hmc_packet.specs.declared.what.What.TheVariants.{New, Again, Null}
use Rattle.hmc_packet.specs.Rows.{given_if, first_row}
use Rattle.hmc_tokens.specs.Account.{tokens_of_code, greatest_code, code_for}
use Rattle.hmc_send.specs.declared.sent.Sent.{Sent}
use Rattle.hmc_send.specs.declared.sent.Sent.TheVariants.{Out, Starved}
use Rattle.hmc_send.specs.Choice.{SendView, choice, is_train, irtry_sent, next_flit, unless_starved}
use Rattle.hmc_send.specs.Entries.{UnderWay, Part}
use Rattle.hmc_send.specs.Places.{Place}
use Rattle.hmc_send.specs.SendRows.{null, send_rows}
use Rattle.hmc_send.proofs.Cases.{Case, case_of}
use Rattle.hmc_send.proofs.Cases.Case.{trains, goes_on, starves, steers, repeats, begins, returns, points, idles}
use Rattle.hmc_send.proofs.SendRows.{choice_rows}
use Rattle.hmc_link_laws.specs.Sends.{is_waiting, is_next_missing, is_starved, GiveNothing}

-- ---- a send that gives nothing

missing-flit : (q : Profile) (rrp : ℕ) (feed : Feed) (place : Place) (part : Part) → next_flit q rrp feed place part ≡ None → is_waiting place feed ≡ true
missing-flit q rrp feed (Place.known packet) part is = absurd cc
missing-flit q rrp Waiting (Place.awaited head flits n) part is = refl
missing-flit q rrp (Whole flit) (Place.awaited head flits n) part is = absurd cc
missing-flit q rrp (Last half slid errstat good) (Place.awaited head flits n) part is = absurd cc

no-flit : (q : Profile) (rrp : ℕ) (feed : Feed) (place : Place) (part : Part) → is_waiting place feed ≡ true → next_flit q rrp feed place part ≡ None
no-flit q rrp feed (Place.known packet) part is = absurd cc
no-flit q rrp Waiting (Place.awaited head flits n) part is = refl
no-flit q rrp (Whole flit) (Place.awaited head flits n) part is = absurd cc
no-flit q rrp (Last half slid errstat good) (Place.awaited head flits n) part is = absurd cc

starved-by : (q : Profile) (s : SendView) (x : Sent) → Case q s x → x ≡ Starved → is_starved s ≡ true
starved-by q s x (starves t begun some next) is =
    and_from (not (is_train s.given.own.mode)) (is_next_missing s.under_way s.given.feed) (ap not t)
    (ap (λ (u : Option UnderWay). is_next_missing u s.given.feed) some ∙ missing-flit q s.given.own.rrp s.given.feed begun.place begun.part next)
starved-by q s x (trains t) is = absurd cc
starved-by q s x (goes_on t begun some f next) is = absurd cc
starved-by q s x (steers t nothing kind due) is = absurd cc
starved-by q s x (repeats b place again) is = absurd cc
starved-by q s x (begins f can) is = absurd cc
starved-by q s x (returns f opened due) is = absurd cc
starved-by q s x (points f other_rrp) is = absurd cc
starved-by q s x (idles f same_rrp) is = absurd cc

-- a receiver in Train, and nothing under way, are none
in-train : {X : Type 0} (b : Bool) (rest : Bool) → (not b && rest) ≡ true → b ≡ true → X
in-train true rest is train = absurd cc
in-train false rest is train = absurd cc

missing-some : (q : Profile) (s : SendView) (u : Option UnderWay) → s.under_way ≡ u → is_next_missing u s.given.feed ≡ true → (begun : UnderWay) × (s.under_way ≡ Some begun) × (next_flit q s.given.own.rrp s.given.feed begun.place begun.part ≡ None)
missing-some q s None is missing = absurd cc
missing-some q s (Some begun) is missing = (begun, is, no-flit q s.given.own.rrp s.given.feed begun.place begun.part missing)

not-flit : {X : Type 0} (a : Option UnderWay) (b c : UnderWay) (f : UnderWay → Option (List ℕ)) (flit : List ℕ) → a ≡ Some b → a ≡ Some c → f c ≡ None → f b ≡ Some flit → X
not-flit a b c f flit is same none some =
    let e : b ≡ c = cc in
    let clash : None ≡ Some flit = sym none ∙ ap f (sym e) ∙ some in absurd cc

not-both : {X : Type 0} (a : Option UnderWay) (b : UnderWay) → a ≡ Some b → a ≡ None → X
not-both a b some none = absurd cc

by-starved : (q : Profile) (s : SendView) (x : Sent) → Case q s x → is_starved s ≡ true → x ≡ Starved
by-starved q s x (starves t begun some next) is = refl
by-starved q s x (trains t) is = in-train (is_train s.given.own.mode) (is_next_missing s.under_way s.given.feed) is t
by-starved q s x (goes_on t begun some f next) is =
    let both = and_parts (not (is_train s.given.own.mode)) (is_next_missing s.under_way s.given.feed) is in
    let missing = missing-some q s s.under_way refl both.1 in
    not-flit s.under_way begun missing.0 (λ (u : UnderWay). next_flit q s.given.own.rrp s.given.feed u.place u.part) f some missing.1 missing.2 next
by-starved q s x (steers t nothing kind due) is =
    let both = and_parts (not (is_train s.given.own.mode)) (is_next_missing s.under_way s.given.feed) is in
    let missing = missing-some q s s.under_way refl both.1 in not-both s.under_way missing.0 missing.1 nothing
by-starved q s x (repeats b place again) is =
    let both = and_parts (not (is_train s.given.own.mode)) (is_next_missing s.under_way s.given.feed) is in
    let missing = missing-some q s s.under_way refl both.1 in not-both s.under_way missing.0 missing.1 b.nothing
by-starved q s x (begins f can) is =
    let both = and_parts (not (is_train s.given.own.mode)) (is_next_missing s.under_way s.given.feed) is in
    let missing = missing-some q s s.under_way refl both.1 in not-both s.under_way missing.0 missing.1 f.between.nothing
by-starved q s x (returns f opened due) is =
    let both = and_parts (not (is_train s.given.own.mode)) (is_next_missing s.under_way s.given.feed) is in
    let missing = missing-some q s s.under_way refl both.1 in not-both s.under_way missing.0 missing.1 f.between.nothing
by-starved q s x (points f other_rrp) is =
    let both = and_parts (not (is_train s.given.own.mode)) (is_next_missing s.under_way s.given.feed) is in
    let missing = missing-some q s s.under_way refl both.1 in not-both s.under_way missing.0 missing.1 f.between.nothing
by-starved q s x (idles f same_rrp) is =
    let both = and_parts (not (is_train s.given.own.mode)) (is_next_missing s.under_way s.given.feed) is in
    let missing = missing-some q s s.under_way refl both.1 in not-both s.under_way missing.0 missing.1 f.between.nothing

pub starved-where : (q : Profile) (s : SendView) → (choice q s ≡ Starved) ↔ (is_starved s ≡ true)
starved-where q s = (λ is. starved-by q s (choice q s) (case_of q s) is, λ is. by-starved q s (choice q s) (case_of q s) is)

-- ---- a NULL

abbrev is_null_sent : Sent → Bool
is_null_sent (Out flit Null) = true
is_null_sent _ = false

-- what there may be is no NULL
abbrev NoNull : Option Sent → Type 0
NoNull None = Unit {0}
NoNull (Some x) = is_null_sent x ≡ false

no-null-if : (b : Bool) (x : Sent) → is_null_sent x ≡ false → NoNull (given_if b x)
no-null-if true x is = is
no-null-if false x is = tt

no-null-map : {A : Type 0} (o : Option A) (f : A → Sent) → ((a : A) → is_null_sent (f a) ≡ false) → NoNull (option_map f o)
no-null-map None f is = tt
no-null-map (Some a) f is = is a

no-null-part : (again : Bool) (o : Option (List ℕ)) → is_null_sent (unless_starved (if again then Again else New) o) ≡ false
no-null-part true None = refl
no-null-part true (Some flit) = refl
no-null-part false None = refl
no-null-part false (Some flit) = refl

no-null-irtry : (q : Profile) (rrp : ℕ) (kind : Kind) → is_null_sent (irtry_sent q rrp kind) ≡ false
no-null-irtry q rrp kinds.Clear = refl
no-null-irtry q rrp kinds.Start = refl

-- where none of the rows gives a NULL and the first that gives something gave one, none did
abbrev GiveNoNull : List (SendView → Option Sent) → SendView → Type 0
GiveNoNull [] s = Unit {0}
GiveNoNull (row ∷ rows) s = NoNull (row s) × GiveNoNull rows s

no-row : (o : Option Sent) (rest : Sent) (flit : List ℕ) → NoNull o → unwrap_or o rest ≡ Out flit Null → (o ≡ None) × (rest ≡ Out flit Null)
no-row None rest flit none is = (refl, is)
no-row (Some x) rest flit none is = absurd (let clash : true ≡ false = sym (ap is_null_sent is) ∙ none in cc)

no-rows : (rows : List (SendView → Option Sent)) (s : SendView) (flit : List ℕ) → GiveNoNull rows s → first_row rows null s ≡ Out flit Null → GiveNothing rows s
no-rows [] s flit none is = tt
no-rows (row ∷ rows) s flit none is =
    let step = no-row (row s) (first_row rows null s) flit none.0 is in (step.0, no-rows rows s flit none.1 step.1)

rows-no-null : (q : Profile) (s : SendView) → GiveNoNull (send_rows q) s
rows-no-null q s = (
  no-null-if _ _ refl,
  (
    no-null-map s.under_way _ (λ (b : UnderWay). no-null-part b.part.again (next_flit q s.given.own.rrp s.given.feed b.place b.part)),
    (
      no-null-map s.burst _ (no-null-irtry q s.given.own.rrp),
      (
        no-null-if _ _ refl,
        (
          no-null-if _ _ refl,
          (
            no-null-map s.again _ (λ (place : Place). refl),
            (no-null-if _ _ refl, (no-null-if _ _ refl, (no-null-if _ _ refl, tt))),
          ),
        ),
      ),
    ),
  ),
)

pub null-last : (q : Profile) (s : SendView) (flit : List ℕ) → choice q s ≡ Out flit Null → GiveNothing (send_rows q) s
null-last q s flit is = no-rows (send_rows q) s flit (rows-no-null q s) (sym (choice_rows q s) ∙ is)

after-nothing : (rows : List (SendView → Option Sent)) (s : SendView) → GiveNothing rows s → first_row rows null s ≡ null s
after-nothing [] s nothing = refl
after-nothing (row ∷ rows) s nothing = ap (λ (o : Option Sent). unwrap_or o (first_row rows null s)) nothing.0 ∙ after-nothing rows s nothing.1

pub null-sent : (q : Profile) (s : SendView) → GiveNothing (send_rows q) s → choice q s ≡ Out zero_flit Null
null-sent q s nothing = choice_rows q s ∙ after-nothing (send_rows q) s nothing

-- ---- the code of returned tokens

code-few : (most due : ℕ) → greatest_code most due ≤ most
code-few zero due = omega arith
code-few (suc k) due = by_test (nat_le (tokens_of_code (suc k)) due) (code-few k due)
  where
    by_test : (b : Bool) → greatest_code k due ≤ k → (if b then suc k else greatest_code k due) ≤ suc k
    by_test true le = omega arith
    by_test false le = omega arith

pub code-least : (due : ℕ) → code_for due < 8
unfolding code_for
code-least due = let few = code-few 7 due in omega arith

code-due : (most due : ℕ) → tokens_of_code (greatest_code most due) ≤ due
code-due zero due = omega arith
code-due (suc k) due = by_test (nat_le (tokens_of_code (suc k)) due) refl (code-due k due)
  where
    by_test : (b : Bool) → nat_le (tokens_of_code (suc k)) due ≡ b → tokens_of_code (greatest_code k due) ≤ due → tokens_of_code (if b then suc k else greatest_code k due) ≤ due
    by_test true is le = leb-true (tokens_of_code (suc k)) due is
    by_test false is le = le

pub code-is_due : (due : ℕ) → tokens_of_code (code_for due) ≤ due
unfolding code_for
code-is_due due = code-due 7 due

-- a code that is no more than the next one is that one or an earlier one
code-at : (k due code : ℕ) (b : Bool) → nat_le (tokens_of_code (suc k)) due ≡ b → code ≤ suc k → tokens_of_code code ≤ due → (code ≤ k → code ≤ greatest_code k due) → code ≤ (if b then suc k else greatest_code k due)
code-at k due code true is few le before = few
code-at k due code false is few le before = before (less code (suc k) few (λ same. absurd (let clash : true ≡ false = sym (le-true (tokens_of_code (suc k)) due (subst (λ (n : ℕ). tokens_of_code n ≤ due) same le)) ∙ is in cc)))
  where
    less : (a b : ℕ) → a ≤ suc k → (a ≡ suc k → ⊥) → a ≤ k
    less a b le never = omega arith

    le-true : (a b : ℕ) → a ≤ b → nat_le a b ≡ true
    le-true a b le = le-leb a b le

code-greatest : (most due code : ℕ) → code ≤ most → tokens_of_code code ≤ due → code ≤ greatest_code most due
code-greatest zero due code few le = few
code-greatest (suc k) due code few le = code-at k due code (nat_le (tokens_of_code (suc k)) due) refl few le (λ lower. code-greatest k due code lower le)

pub code-most : (due code : ℕ) → code < 8 → tokens_of_code code ≤ due → code ≤ code_for due
unfolding code_for
code-most due code few le = code-greatest 7 due code (omega arith) le
