-- What is known of a value where the steps that read it found no fault. `after`, `after_any` and
-- `either` follow the steps of a reader one by one.
use Rattle.std.proofs.Common.{◌≡◌, ◌+◌, ◌<◌, ℕ, nat_lt, Bool, true, false, cond, Option, Some, None, IfSome, Result, Ok, Err, List, [], ◌∷◌, ◌++◌, length, length-append, refl, subst, arith, ltb-true}
use Rattle.std.proofs.lemmas.Bool.{cond_both}
use Rattle.toml.specs.Data.{Data, Items, no_items, item}
use Rattle.hmc_text.specs.InTurn.{after_lines, at_line, next_number}
use Rattle.hmc_text.specs.Number.{below, number_of}
use Rattle.hmc_text.specs.Reading.{◌>>=◌, or_fault, next_word, number_word}
use Rattle.hmc_case.specs.Case.{in_text}
use Rattle.hmc_case.specs.Keys.{count_of}
use Rattle.hmc_case.specs.Reading.{Fault, or_refuse, in_section, in_turn}
use Rattle.hmc_case.specs.declared.fault.CaseKind.{CaseKind}
use Rattle.hmc_case.specs.declared.fault.Section.{Section}

-- if a value is read, it keeps this
pub record IfRead {A K : Type 0} (read : Result A K) (P : A → Type 0) : Type 0 where
  pub keeps : (x : A) → read ≡ Ok x → P x

pub value : {A K : Type 0} {P : A → Type 0} {x : A} → P x → IfRead {K = K} (Ok x) P
value {P = P} known = record { keeps = λ y is. subst P (cc is) known }

pub fault : {A K : Type 0} {P : A → Type 0} {kind : K} → IfRead (Err kind) P
fault = record { keeps = λ x is. absurd (cc is) }

-- a step after another one, of whose value something is known
pub after : {A B K : Type 0} {P : A → Type 0} {Q : B → Type 0}
    {first : Result A K} {second : A → Result B K}
    → IfRead first P → ((x : A) → P x → IfRead (second x) Q) → IfRead (first >>= second) Q
after {first = Ok x} known rest = rest x (known.keeps x refl)
after {first = Err kind} known rest = fault

-- the same where nothing is known
pub after_any : {A B K : Type 0} {Q : B → Type 0} {second : A → Result B K}
    (first : Result A K) → ((x : A) → IfRead (second x) Q) → IfRead (first >>= second) Q
after_any (Ok x) rest = rest x
after_any (Err kind) rest = fault

-- one of two steps, by a test
pub either : {A K : Type 0} {P : A → Type 0} {one other : Result A K} (test : Bool)
    → (test ≡ true → IfRead one P) → (test ≡ false → IfRead other P)
    → IfRead (cond test one other) P
either true one other = one refl
either false one other = other refl

-- what a value keeps follows from what else it keeps
pub so : {A K : Type 0} {P Q : A → Type 0} {read : Result A K}
    → IfRead read P → ((x : A) → P x → Q x) → IfRead read Q
so known follows = record { keeps = λ x is. follows x (known.keeps x is) }

pub both : {A K : Type 0} {P Q : A → Type 0} {read : Result A K}
    → IfRead read P → IfRead read Q → IfRead read (λ x. P x × Q x)
both one other = record { keeps = λ x is. (one.keeps x is, other.keeps x is) }

-- a value, or else a fault
pub some_value : {A K : Type 0} {P : A → Type 0} (kind : K) (found : Option A)
    → IfSome found P → IfRead (or_fault kind found) P
some_value kind (Some x) known = value known
some_value kind None known = fault

-- a test that passes, or else a fault
pub tested : {K : Type 0} (kind : K) (test : Bool)
    → IfRead (or_refuse kind test) (λ done. test ≡ true)
tested kind true = value refl
tested kind false = fault

-- the place of a fault changes no value

pub in_section_too : {A : Type 0} {P : A → Type 0} {read : Result A CaseKind}
    (section : Section) (line : ℕ) → IfRead read P → IfRead (in_section section line read) P
in_section_too {read = Ok x} section line known = value (known.keeps x refl)
in_section_too {read = Err what} section line known = fault

pub in_text_too : {A K : Type 0} {P : A → Type 0} {read : Result A (ℕ × K)}
    (section : Section) (kind_of : K → CaseKind)
    → IfRead read P → IfRead (in_text section kind_of read) P
in_text_too {read = Ok x} section kind_of known = value (known.keeps x refl)
in_text_too {read = Err what} section kind_of known = fault

at_line_too : {A K : Type 0} {P : A → Type 0} {read : Result A K} (number : ℕ)
    → IfRead read P → IfRead (at_line number read) P
at_line_too {read = Ok x} number known = value (known.keeps x refl)
at_line_too {read = Err what} number known = fault

-- a number is below its limit

below_limit : (limit n : ℕ) → IfSome (below limit (Some n)) (λ small. small < limit)
below_limit limit n =
    cond_both (nat_lt n limit) (Some n) None
    (λ (found : Option ℕ). IfSome found (λ small. small < limit))
    (λ is. ltb-true n limit is)
    (λ is. tt)

pub number_small : {K : Type 0} (missing unread beyond : K) (limit : ℕ) (words : List (List ℕ))
    → IfRead (number_word missing unread beyond limit words) (λ number. number.0 < limit)
unfolding number_word
number_small missing unread beyond limit words =
    after_any (next_word missing words) (λ first.
    after_any (or_fault unread (number_of first.0)) (λ number.
    after (some_value beyond (below limit (Some number)) (below_limit limit number)) (λ small is.
    value is)))

-- what each line keeps, all lines keep
pub all_lines : {S K : Type 0} (P : S → Type 0) {after_line : S → List ℕ → Result S K}
    → ((state : S) (line : List ℕ) → P state → IfRead (after_line state line) P)
    → (number : ℕ) (state : S) (lines : List (List ℕ)) → P state
    → IfRead (after_lines after_line number state lines) P
unfolding after_lines
all_lines P each number state [] holds = value holds
all_lines P each number state (line ∷ lines) holds =
    after (at_line_too number (each state line holds)) (λ next still.
    all_lines P each (next_number number) next lines still)

-- what the rows keep with each further one, all rows keep
pub all_rows : {A : Type 0} (P : List A → Type 0) {read : List A → Data → Result A Fault}
    → ((rows : List A) (value : Data) → P rows
    → IfRead (read rows value) (λ row. P (rows ++ row ∷ [])))
    → (rows : List A) (values : Items) → P rows → IfRead (in_turn read rows values) P
unfolding in_turn
all_rows P each rows no_items holds = value holds
all_rows P each rows (item first values) holds =
    after (each rows first holds) (λ row still.
    all_rows P each (rows ++ row ∷ []) values still)

-- there is a row for each item

more_rows : {A : Type 0} (read : List A → Data → Result A Fault) (rows : List A) (values : Items)
    → IfRead (in_turn read rows values) (λ all. length all ≡ length rows + count_of values)
unfolding in_turn
more_rows read rows no_items = value (omega arith)
more_rows read rows (item first values) =
    after_any (read rows first) (λ row.
    so (more_rows read (rows ++ row ∷ []) values) (λ all is.
    omega (arith, is, length-append rows (row ∷ []))))

pub rows_counted : {A : Type 0} (read : List A → Data → Result A Fault) (values : Items)
    → IfRead (in_turn read [] values) (λ rows. length rows ≡ count_of values)
rows_counted read values =
    so (more_rows read [] values) (λ rows is. omega (arith, is))
