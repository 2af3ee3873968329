-- What is known of the values at the keys of a table.
use Rattle.std.proofs.Common.{◌≡◌, ◌≤◌, ℕ, ℤ, pos, negsuc, nat_le, true, ◌&&◌, Option, Some, None, IfSome, List, leb-true}
use Rattle.std.proofs.lemmas.Bool.{and_parts, cond_both}
use Rattle.toml.specs.Data.{Members, as_integer, as_array}
use Rattle.hmc_text.specs.Reading.{or_fault}
use Rattle.hmc_case.specs.Keys.{among, value_at, number_at, count_of, items_at}
use Rattle.hmc_case.specs.declared.fault.CaseKind.TheVariants as kinds
use Rattle.hmc_cases.proofs.Reading.{IfRead, value, after, after_any, some_value, tested}

-- least to most
pub record IsAmong (least most n : ℕ) : Type 0 where
  pub least_is : least ≤ n
  pub most_is : n ≤ most

tests_show : (least most n : ℕ) → (nat_le least n && nat_le n most) ≡ true → IsAmong least most n
tests_show least most n is =
    let tests = and_parts (nat_le least n) (nat_le n most) is in
    record { least_is = leb-true least n tests.0; most_is = leb-true n most tests.1 }

among_known : (least most : ℕ) (number : ℤ) → IfSome (among least most number) (IsAmong least most)
among_known least most (negsuc n) = tt
among_known least most (pos n) =
    cond_both (nat_le least n && nat_le n most) (Some n) None
    (λ (found : Option ℕ). IfSome found (IsAmong least most))
    (λ is. tests_show least most n is)
    (λ is. tt)

-- a number is within its limits
pub integer_known : (key : List ℕ) (least most : ℕ) (table : Members)
    → IfRead (number_at key least most table) (IsAmong least most)
unfolding number_at
integer_known key least most table =
    after_any (value_at key table) (λ found.
    after_any (or_fault kinds.Kind (as_integer found)) (λ number.
    some_value kinds.Range (among least most number) (among_known least most number)))

-- so is the number of items of an array
pub items_known : (key : List ℕ) (most : ℕ) (table : Members)
    → IfRead (items_at key most table) (λ items. IsAmong 1 most (count_of items))
unfolding items_at
items_known key most table =
    after_any (value_at key table) (λ found.
    after_any (or_fault kinds.Kind (as_array found)) (λ items.
    let enough = nat_le 1 (count_of items) && nat_le (count_of items) most in
    after (tested kinds.Range enough) (λ done is.
    value (tests_show 1 most (count_of items) is))))
