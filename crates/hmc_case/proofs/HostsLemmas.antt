-- The hosts of some links.
use Rattle.std.proofs.Common.{◌≡◌, ◌∙◌, ℕ, ◌<◌, ◌≤◌, ◌==◌, ◌&&◌, ◌||◌, ◌⊎◌, inl, inr, Bool, true, false, not, cond, nat_lt, is_some, List, [], ◌∷◌, length, get_or, Some, refl, sym, ap, ltb-true, arith}
use Rattle.std.proofs.lemmas.Bool.{and_parts, cases_lt, lt-ltb, le-ltb}
use Rattle.std.proofs.lemmas.Bool.Decides.{nat_tests}
use Rattle.std.proofs.lemmas.List.Elements.{All-nil, All-cons}
use Rattle.std.proofs.lemmas.List.Folds.{list_any_none, list_all_at}
use Rattle.std.proofs.lemmas.List.FromFn.{length-range_with_len, get_or-range_with_len}
use Rattle.std.specs.List.{All, list_any, list_all, cons_option}
use Rattle.hmc_codes.specs.declared.place.Join.{Join}
use Rattle.hmc_codes.specs.declared.place.Place.{Place}
use Rattle.hmc_codes.specs.declared.place.Place.TheVariants.{Host, Port}
use Rattle.hmc_codes.specs.Numbers.{upto}
use Rattle.hmc_codes.specs.Places.{is_host, host_number}
use Rattle.hmc_routes.proofs.Finds.{all_at, all_shown}
use Rattle.hmc_routes.proofs.Joined.{joined-cons, joined-nil}
use Rattle.hmc_routes.specs.Neighbours.{ends_at, far_end, joined_to}
use Rattle.hmc_routes.specs.WellFormed.{ends_of, is_there, may_be_joined, is_host_of, has_no_gap, IsGraph}
use Rattle.hmc_case.specs.Graph.{joins_of, graph_of, AreLinks}
use Rattle.hmc_case.specs.Together.{hosts_of}
use Rattle.hmc_case.specs.declared.setup.LinkRow.{LinkRow}

one_below : (a b : Place) (cubes : ℕ) (hosts : List ℕ) → is_there cubes a ≡ true → is_there cubes b ≡ true → All (λ host. host < 8) hosts → All (λ host. host < 8) (cons_option (cond (is_host a) (host_number a) (host_number b)) hosts)
one_below (Host host) b cubes hosts at_a at_b all = All-cons (λ h. h < 8) host hosts (ltb-true host 8 at_a) all
one_below (Port cube port) (Host host) cubes hosts at_a at_b all = All-cons (λ h. h < 8) host hosts (ltb-true host 8 at_b) all
one_below (Port cube port) (Port other other_port) cubes hosts at_a at_b all = all

-- the hosts of links are below 8
pub hosts_below : (links : List LinkRow) (cubes : ℕ) → list_all (is_there cubes) (ends_of (joins_of links)) ≡ true → All (λ host. host < 8) (hosts_of links)
hosts_below [] cubes all = All-nil (λ host. host < 8)
hosts_below (link ∷ links) cubes all =
    let (a, others) = and_parts (is_there cubes link.join.a) (is_there cubes link.join.b && list_all (is_there cubes) (ends_of (joins_of links))) all in
    let (b, later) = and_parts (is_there cubes link.join.b) (list_all (is_there cubes) (ends_of (joins_of links))) others in
    one_below link.join.a link.join.b cubes (hosts_of links) a b (hosts_below links cubes later)

-- hosts below 8, among which is each number below their count, are at most 8
pub few_hosts : (hosts : List ℕ) → All (λ host. host < 8) hosts → list_all (λ number. list_any (λ other. other == number) hosts) (upto (length hosts)) ≡ true → length hosts ≤ 8
few_hosts hosts small there =
    let has = λ (number : ℕ). list_any (λ other. other == number) hosts in
    let numbers = upto (length hosts) in
    let no : 8 < length hosts → ⊥ = λ more.
    let missing : has 8 ≡ false = list_any_none (λ other. other == 8) hosts (λ k d below. let less = small k d below in not_eight (get_or hosts k d) less) in
    let within : 8 < length numbers = omega (arith, length-range_with_len 0 (length hosts)) in
    let eighth : get_or numbers 8 0 ≡ 8 = get_or-range_with_len 0 (length hosts) 8 0 more in
    let out = list_all_at has numbers 8 0 within (ap has eighth ∙ missing) in
    cc in
    omega (arith, no)
  where
    not_eight : (n : ℕ) → n < 8 → (n == 8) ≡ false
    not_eight n less = grind (arith, nat_tests)

-- numbers below a limit have none from it on
none_beyond : (numbers : List ℕ) (limit k : ℕ) → limit ≤ k → list_all (λ number. nat_lt number limit) numbers ≡ true → list_any (λ other. other == k) numbers ≡ false
none_beyond [] limit k beyond below = refl
none_beyond (number ∷ numbers) limit k beyond below =
    let (here, later) = and_parts (nat_lt number limit) (list_all (λ n. nat_lt n limit) numbers) below in
    let other : (number == k) ≡ false = differs number (ltb-true number limit here) in
    let rest = none_beyond numbers limit k beyond later in
    cc
  where
    differs : (n : ℕ) → n < limit → (n == k) ≡ false
    differs n less = grind (arith, nat_tests)

-- numbers from 0 to one less than their count are those below it
pub from_zero : (numbers : List ℕ) → list_all (λ number. nat_lt number (length numbers)) numbers ≡ true → list_all (λ number. list_any (λ other. other == number) numbers) (upto (length numbers)) ≡ true → (k : ℕ) → list_any (λ other. other == k) numbers ≡ nat_lt k (length numbers)
from_zero numbers below there k = by (cases_lt k (length numbers))
  where
    by : (k < length numbers) ⊎ (length numbers ≤ k) → list_any (λ other. other == k) numbers ≡ nat_lt k (length numbers)
    by (inl less) =
        let here = all_at (λ number. list_any (λ other. other == number) numbers) 0 (length numbers) k there (omega arith) (omega arith) in
        here ∙ sym (lt-ltb k (length numbers) less)
    by (inr le) = none_beyond numbers (length numbers) k le below ∙ sym (le-ltb k (length numbers) le)

-- a host that links end at is joined to something
one_host : (a b : Place) (host : ℕ) (there : Bool) (hosts : List ℕ) → may_be_joined a b ≡ true → there ≡ list_any (λ other. other == host) hosts →
    cond (ends_at (Host host) (record { a = a; b = b })) true there ≡ list_any (λ other. other == host) (cons_option (cond (is_host a) (host_number a) (host_number b)) hosts)
one_host (Host one) (Host other) host there hosts may same = absurd (let no : ⊥ = cc in no)
one_host (Host one) (Port cube port) host there hosts may same = by (one == host)
  where
    by : (b : Bool) → cond (b || false) true there ≡ (b || list_any (λ other. other == host) hosts)
    by true = refl
    by false = same
one_host (Port cube port) (Host one) host there hosts may same = by (one == host)
  where
    by : (b : Bool) → cond b true there ≡ (b || list_any (λ other. other == host) hosts)
    by true = refl
    by false = same
one_host (Port cube port) (Port other other_port) host there hosts may same = same

pub host_joined : (links : List LinkRow) (host : ℕ) → list_all (λ (join : Join). may_be_joined join.a join.b) (joins_of links) ≡ true → is_some (joined_to (joins_of links) (Host host)) ≡ list_any (λ other. other == host) (hosts_of links)
host_joined [] host apart = ap is_some (joined-nil (Host host))
host_joined (link ∷ links) host apart =
    let (here, later) = and_parts (may_be_joined link.join.a link.join.b) (list_all (λ (join : Join). may_be_joined join.a join.b) (joins_of links)) apart in
    let rest = host_joined links host later in
    ap is_some (joined-cons link.join (joins_of links) (Host host))
    ∙ by (ends_at (Host host) link.join)
    ∙ one_host link.join.a link.join.b host (is_some (joined_to (joins_of links) (Host host))) (hosts_of links) here rest
  where
    by : (b : Bool) → is_some (cond b (Some (far_end (Host host) link.join)) (joined_to (joins_of links) (Host host))) ≡ cond b true (is_some (joined_to (joins_of links) (Host host)))
    by true = refl
    by false = refl

-- hosts that are numbered from zero are those of the graph
pub hosts_are : (cubes : ℕ) (links : List LinkRow) (count : ℕ) → AreLinks cubes links → ((host : ℕ) → list_any (λ other. other == host) (hosts_of links) ≡ nat_lt host count) → (host : ℕ) → is_host_of (graph_of cubes links) host ≡ nat_lt host count
hosts_are cubes links count are exact host = host_joined links host are.ends_apart ∙ exact host

-- links with such hosts are a graph
pub graph_is : (cubes : ℕ) (links : List LinkRow) (count : ℕ) → 1 ≤ cubes → cubes ≤ 8 → AreLinks cubes links → ((host : ℕ) → list_any (λ other. other == host) (hosts_of links) ≡ nat_lt host count) → IsGraph (graph_of cubes links)
unfolding has_no_gap
graph_is cubes links count some few are exact = record {
  some_cubes = some;
  few_cubes = few;
  ends_exist = are.ends_exist;
  joined_once = are.joined_once;
  ends_apart = are.ends_apart;
  no_gap = all_shown (λ host. not (is_host host) || list_all is_host (upto host)) 0 8 (λ host low below. by host (cases_lt host count));
}
  where
    is_host : ℕ → Bool
    is_host host = is_host_of (graph_of cubes links) host

    is : (host : ℕ) → is_host host ≡ nat_lt host count
    is host = hosts_are cubes links count are exact host

    by : (host : ℕ) → (host < count) ⊎ (count ≤ host) → (not (is_host host) || list_all is_host (upto host)) ≡ true
    by host (inl less) =
        let all = all_shown is_host 0 host (λ k low below. is k ∙ lt-ltb k count (omega arith)) in
        or_true (not (is_host host)) (list_all is_host (upto host)) all
      where
        or_true : (p q : Bool) → q ≡ true → (p || q) ≡ true
        or_true true q on = refl
        or_true false q on = on
    by host (inr le) =
        let off = is host ∙ le-ltb host count le in
        ap (λ (b : Bool). not b || list_all is_host (upto host)) off
