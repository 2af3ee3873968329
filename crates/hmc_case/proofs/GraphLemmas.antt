-- Links that are read one after another are a graph.
use Rattle.std.proofs.Common.{◌≡◌, ◌∙◌, ◌==◌, ◌&&◌, ◌||◌, Bool, true, false, not, ℕ, List, [], ◌∷◌, ◌++◌, refl, sym, ap}
use Rattle.std.proofs.lemmas.Bool.{and_parts, and_from, not-true, or_parts}
use Rattle.std.proofs.lemmas.List.Elements.{All-nil, All-cons, All-append}
use Rattle.std.specs.List.{list_any, list_all}
use Rattle.hmc_codes.specs.Link.{IsLinkSetup}
use Rattle.hmc_codes.specs.Places.{is_host, same_place}
use Rattle.hmc_codes.specs.declared.place.Join.{Join}
use Rattle.hmc_codes.specs.declared.place.Place.{Place}
use Rattle.hmc_codes.specs.declared.place.Place.TheVariants.{Host, Port}
use Rattle.hmc_routes.specs.WellFormed.{ends_of, is_there, are_distinct, may_be_joined}
use Rattle.hmc_case.specs.Graph.{joins_of, AreLinks}
use Rattle.hmc_case.specs.Places.{is_taken, is_same_cube, IsNewJoin}
use Rattle.hmc_case.specs.declared.setup.LinkRow.{LinkRow}

-- neither two hosts nor two ports of one cube
pub apart_from : (a b : Place) → (is_host a && is_host b) ≡ false → is_same_cube a b ≡ false → may_be_joined a b ≡ true
apart_from (Host host) (Host other) hosts itself = sym hosts
apart_from (Host host) (Port other other_port) hosts itself = refl
apart_from (Port cube port) (Host other) hosts itself = refl
apart_from (Port cube port) (Port other other_port) hosts itself = ap not itself

-- ends that may be joined are two places
pub apart-two : (a b : Place) → may_be_joined a b ≡ true → same_place a b ≡ false
apart-two (Host host) (Host other) may = absurd (let no : ⊥ = cc in no)
apart-two (Host host) (Port other other_port) may = refl
apart-two (Port cube port) (Host other) may = refl
apart-two (Port cube port) (Port other other_port) may = by (cube == other) may
  where
    by : (b : Bool) → not b ≡ true → (b && port == other_port) ≡ false
    by true may = absurd (let no : ⊥ = cc in no)
    by false may = refl

-- one link more
pub joins-more : (links : List LinkRow) (link : LinkRow) → joins_of (links ++ link ∷ []) ≡ joins_of links ++ link.join ∷ []
joins-more [] link = refl
joins-more (first ∷ links) link = ap (λ (joins : List Join). first.join ∷ joins) (joins-more links link)

pub ends-more : (joins : List Join) (join : Join) → ends_of (joins ++ join ∷ []) ≡ ends_of joins ++ join.a ∷ join.b ∷ []
ends-more [] join = refl
ends-more (first ∷ joins) join = ap (λ (ends : List Place). first.a ∷ first.b ∷ ends) (ends-more joins join)

-- a test of one more, or of two more
all-more : {A : Type 0} (test : A → Bool) (xs : List A) (x : A) → list_all test xs ≡ true → test x ≡ true → list_all test (xs ++ x ∷ []) ≡ true
all-more test [] x all is = and_from (test x) true is refl
all-more test (y ∷ ys) x all is =
    let both = and_parts (test y) (list_all test ys) all in
    and_from (test y) (list_all test (ys ++ x ∷ [])) both.0 (all-more test ys x both.1 is)

all-two : {A : Type 0} (test : A → Bool) (xs : List A) (x y : A) → list_all test xs ≡ true → test x ≡ true → test y ≡ true → list_all test (xs ++ x ∷ y ∷ []) ≡ true
all-two test [] x y all is_x is_y = and_from (test x) (test y && true) is_x (and_from (test y) true is_y refl)
all-two test (z ∷ zs) x y all is_x is_y =
    let both = and_parts (test z) (list_all test zs) all in
    and_from (test z) (list_all test (zs ++ x ∷ y ∷ [])) both.0 (all-two test zs x y both.1 is_x is_y)

-- no end is a place that is free
pub free-ends : (links : List LinkRow) (place : Place) → is_taken links place ≡ false → list_any (λ end. same_place end place) (ends_of (joins_of links)) ≡ false
free-ends [] place free = refl
free-ends (link ∷ links) place free =
    let (here, rest) = or_parts (same_place link.join.a place || same_place link.join.b place) (is_taken links place) free in
    let (a, b) = or_parts (same_place link.join.a place) (same_place link.join.b place) here in
    let later = free-ends links place rest in
    cc

-- two more places, each new
any-two : (place a b : Place) (ends : List Place) → list_any (same_place place) ends ≡ false → same_place place a ≡ false → same_place place b ≡ false → list_any (same_place place) (ends ++ a ∷ b ∷ []) ≡ false
any-two place a b [] none not_a not_b = cc
any-two place a b (end ∷ ends) none not_a not_b =
    let (here, rest) = or_parts (same_place place end) (list_any (same_place place) ends) none in
    let later = any-two place a b ends rest not_a not_b in
    cc

pub distinct-more : (ends : List Place) (a b : Place) → are_distinct ends ≡ true → list_any (λ end. same_place end a) ends ≡ false → list_any (λ end. same_place end b) ends ≡ false → same_place a b ≡ false → are_distinct (ends ++ a ∷ b ∷ []) ≡ true
distinct-more [] a b distinct no_a no_b two = cc
distinct-more (end ∷ ends) a b distinct no_a no_b two =
    let (alone, rest) = and_parts (not (list_any (same_place end) ends)) (are_distinct ends) distinct in
    let (not_a, later_a) = or_parts (same_place end a) (list_any (λ e. same_place e a) ends) no_a in
    let (not_b, later_b) = or_parts (same_place end b) (list_any (λ e. same_place e b) ends) no_b in
    and_from (not (list_any (same_place end) (ends ++ a ∷ b ∷ []))) (are_distinct (ends ++ a ∷ b ∷ []))
    (ap not (any-two end a b ends (not-true (list_any (same_place end) ends) alone) not_a not_b))
    (distinct-more ends a b rest later_a later_b two)

-- no link
pub no-links : (cubes : ℕ) → AreLinks cubes []
no-links cubes = record {
  ends_exist = refl;
  joined_once = refl;
  ends_apart = refl;
  sizes = All-nil (λ (link : LinkRow). IsLinkSetup link.setup);
}

-- a further link
pub links-more : (cubes : ℕ) (links new : List LinkRow) (link : LinkRow) → new ≡ links ++ link ∷ [] → IsNewJoin cubes links link.join → IsLinkSetup link.setup → AreLinks cubes links → AreLinks cubes new
links-more cubes links new link grown join setup are =
    let joins = joins-more links link in
    let ends = ap ends_of joins ∙ ends-more (joins_of links) link.join in
    let old = ends_of (joins_of links) in
    let a = link.join.a in
    let b = link.join.b in
    rw grown (record {
      ends_exist = ap (list_all (is_there cubes)) ends ∙ all-two (is_there cubes) old a b are.ends_exist join.a join.b;
      joined_once = ap are_distinct ends ∙ distinct-more old a b are.joined_once (free-ends links a join.a_free) (free-ends links b join.b_free) (apart-two a b join.apart);
      ends_apart = ap (list_all (λ (j : Join). may_be_joined j.a j.b)) joins ∙ all-more (λ (j : Join). may_be_joined j.a j.b) (joins_of links) link.join are.ends_apart join.apart;
      sizes = All-append (λ (l : LinkRow). IsLinkSetup l.setup) links (link ∷ []) are.sizes (All-cons (λ (l : LinkRow). IsLinkSetup l.setup) link [] setup (All-nil (λ (l : LinkRow). IsLinkSetup l.setup)));
    })
