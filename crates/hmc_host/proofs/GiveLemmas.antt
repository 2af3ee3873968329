-- What a host gives next, in the field's terms.
use Rattle.std.proofs.Common.{◌≡◌, ◌≢◌, ◌≤◌, ◌<◌, ◌∙◌, ◌↔◌, ℕ, Bool, true, false, not, cond, if◌then◌else◌, List, [], ◌∷◌, length, get_or, set, length-set, get_or-set_same, subst, ap, sym, arith, refl}
use Rattle.std.specs.Prelude.{slice_get, Option, Some, None, is_none, nat_lt}
use Rattle.std.specs.Option.{ForSome, option_map}
use Rattle.std.specs.List.{position_or_len}
use Rattle.std.proofs.lemmas.Bool.{and_parts, ltb-false, not-true, not-false}
use Rattle.std.proofs.lemmas.List.Sums.{fails_before_first}
use Rattle.std.proofs.lemmas.List.Quantifiers.{position-Some}
use Rattle.std.proofs.lemmas.Option.{slice_get-get_or, slice_get_within}
use Rattle.hmc_script.specs.Items.{ItemFields, outline_of}
use Rattle.hmc_host.specs.declared.given.Given.{Given}
use Rattle.hmc_host.specs.declared.given.Given.TheVariants.{Ended, Fence, Tags, Full, Gave}
use Rattle.hmc_host.specs.declared.given.Hindrance.{Hindrance}
use Rattle.hmc_host.specs.declared.given.Hindrance.TheVariants as hindrances
use Rattle.hmc_host.specs.Tags.{lowest_free, IsFree, IsOut, IsLowestFree, with_out}
use Rattle.hmc_host.specs.Host.{HostFields, IsHost}
use Rattle.hmc_host.specs.Give.{wants_tag, tag_for, gave_request, next_item, next_says, give_says, after_give, taken_tag, hindrance_of, hindrance_by}

-- ---- tags

-- the lowest tag that isn't out
pub is_lowest : (tags : List Bool) (tag : ℕ) → lowest_free tags ≡ Some tag → IsLowestFree tags tag
is_lowest tags tag is =
    let found = position-Some not tags tag true is in
    record {
      free = slice_get-get_or tags tag true found.0 ∙ ap Some (not-true (get_or tags tag true) found.1);
      below = λ lower less.
          let within : lower < length tags = omega (arith, found.0) in
          slice_get-get_or tags lower true within ∙ ap Some (not-false (get_or tags lower true) (found.2 lower less));
    }

past_all : (tags : List Bool) (less : Bool) → nat_lt (position_or_len not tags) (length tags) ≡ less →
    is_none (cond less (Some (position_or_len not tags)) None) ≡ true → length tags ≤ position_or_len not tags
past_all tags true is none = absurd cc
past_all tags false is none = ltb-false (position_or_len not tags) (length tags) is

-- no flag is false, so each is true
pub none_free : (tags : List Bool) → is_none (lowest_free tags) ≡ true → (tag : ℕ) → tag < length tags → IsOut tags tag
none_free tags none tag within =
    let past : length tags ≤ position_or_len not tags = past_all tags (nat_lt (position_or_len not tags) (length tags)) refl none in
    let before : tag < position_or_len not tags = omega arith in
    slice_get-get_or tags tag true within ∙ ap Some (not-false (get_or tags tag true) (fails_before_first not tags tag true before))

-- ---- requests, by what holds them

-- a request goes out unless something holds it
abbrev held : (fence lacks full : Bool) → (number : ℕ) → ItemFields → (tag : Option ℕ) → Given
held fence lacks full number item tag =
    (if fence then Fence else if lacks then Tags else if full then Full else gave_request number item tag)

held_not_ended : (fence lacks full : Bool) (number : ℕ) (item : ItemFields) (tag : Option ℕ) → held fence lacks full number item tag ≢ Ended
held_not_ended true lacks full number item tag is = cc
held_not_ended false true full number item tag is = cc
held_not_ended false false true number item tag is = cc
held_not_ended false false false number item tag is = cc

held_lacks : (fence lacks full : Bool) (number : ℕ) (item : ItemFields) (tag : Option ℕ) → held fence lacks full number item tag ≡ Tags → lacks ≡ true
held_lacks true lacks full number item tag is = absurd cc
held_lacks false true full number item tag is = refl
held_lacks false false true number item tag is = absurd cc
held_lacks false false false number item tag is = absurd cc

held_tag : (fence lacks full : Bool) (number : ℕ) (item : ItemFields) (tag : Option ℕ) (taken : ℕ) → taken_tag (held fence lacks full number item tag) ≡ Some taken → tag ≡ Some taken
held_tag true lacks full number item tag taken is = absurd cc
held_tag false true full number item tag taken is = absurd cc
held_tag false false true number item tag taken is = absurd cc
held_tag false false false number item tag taken is = is

held_hindrance : (fence lacks full : Bool) (number : ℕ) (item : ItemFields) (tag : Option ℕ) → hindrance_of (held fence lacks full number item tag) ≡ (if fence then Some hindrances.Fence else if lacks then Some hindrances.Tags else if full then Some hindrances.Full else None)
held_hindrance true lacks full number item tag = refl
held_hindrance false true full number item tag = refl
held_hindrance false false true number item tag = refl
held_hindrance false false false number item tag = refl

-- the tag that a request takes is the lowest that isn't out
tag_is_lowest : (awaited : Bool) (tags : List Bool) (tag : ℕ) → (if awaited then lowest_free tags else None) ≡ Some tag → lowest_free tags ≡ Some tag
tag_is_lowest true tags tag is = is
tag_is_lowest false tags tag is = absurd cc

-- ---- what the host answers, by the request that is next

next_not_ended : (host : HostFields) (next : Option ItemFields) (room : Bool) → next_says host next room ≡ Ended → next ≡ None
next_not_ended host None room is = refl
next_not_ended host (Some item) room is = absurd (held_not_ended _ _ _ host.number item (tag_for item host.tags) is)

next_lacks : (host : HostFields) (next : Option ItemFields) (room : Bool) → next_says host next room ≡ Tags → is_none (lowest_free host.tags) ≡ true
next_lacks host None room is = absurd cc
next_lacks host (Some item) room is = (and_parts (wants_tag item) _ (held_lacks _ _ _ host.number item (tag_for item host.tags) is)).1

next_tag : (host : HostFields) (next : Option ItemFields) (room : Bool) (tag : ℕ) → taken_tag (next_says host next room) ≡ Some tag → lowest_free host.tags ≡ Some tag
next_tag host None room tag is = absurd cc
next_tag host (Some item) room tag is = tag_is_lowest (wants_tag item) host.tags tag (held_tag _ _ _ host.number item (tag_for item host.tags) tag is)

next_hindrance : (host : HostFields) (next : Option ItemFields) (room : Bool) → hindrance_of (next_says host next room) ≡ hindrance_by (option_map outline_of next) host.tags room
next_hindrance host None room = refl
next_hindrance host (Some item) room = held_hindrance _ _ _ host.number item (tag_for item host.tags)

-- why nothing is given, by the outline of the next request
pub says_hindrance : (host : HostFields) (room : Bool) → hindrance_of (give_says host room) ≡ hindrance_by (option_map outline_of (next_item host)) host.tags room
unfolding give_says
says_hindrance host room = next_hindrance host (next_item host) room

-- ---- the clauses of a give

nothing_left : {X : Type 0} (left : List X) → slice_get left 0 ≡ None → left ≡ []
nothing_left [] none = refl
nothing_left (x ∷ left) none = absurd cc

some_left : {X : Type 0} (left : List X) → slice_get left 0 ≢ None → 0 < length left
some_left [] some = absurd (some refl)
some_left (x ∷ left) some = omega arith

-- a host that isn't at its end has a request left
pub says_left : (host : HostFields) (room : Bool) (given : Given) → given ≡ give_says host room → given ≢ Ended → 0 < length host.left
unfolding give_says
says_left host room given is more =
    some_left host.left (λ none. more (is ∙ ap (λ (next : Option ItemFields). next_says host next room) none))

-- nor has one that nothing hinders given all of them
pub unhindered_left : (host : HostFields) (room : Bool) → hindrance_of (give_says host room) ≡ None → 0 < length host.left
unhindered_left host room none =
    says_left host room (give_says host room) refl (λ ended. some_none (hindrance_of (give_says host room)) (ap hindrance_of (sym ended)) none) where
      some_none : (found : Option Hindrance) → Some hindrances.Ended ≡ found → found ≡ None → ⊥
      some_none found some none = cc

-- it ends exactly where it has given all of its requests
pub says_ended : (host : HostFields) (room : Bool) (given : Given) → given ≡ give_says host room → (given ≡ Ended) ↔ (host.left ≡ [])
unfolding give_says
says_ended host room given is = (
  λ ended. nothing_left host.left (next_not_ended host (next_item host) room (sym is ∙ ended)),
  λ all. is ∙ ap (λ (left : List ItemFields). next_says host (slice_get left 0) room) all,
)

-- it lacks a tag only where each is out
pub says_tags : (host : HostFields) (room : Bool) (given : Given) → IsHost host → given ≡ give_says host room → given ≡ Tags → (tag : ℕ) → tag < 2048 → IsOut host.tags tag
unfolding give_says
says_tags host room given are is lacks tag small =
    none_free host.tags (next_lacks host (next_item host) room (sym is ∙ lacks)) tag (omega (arith, are.tags, small))

-- it takes the lowest tag that isn't out
pub says_lowest : (host : HostFields) (room : Bool) (given : Given) → given ≡ give_says host room → ForSome (taken_tag given) (IsLowestFree host.tags)
unfolding give_says
says_lowest host room given is tag taken =
    is_lowest host.tags tag (next_tag host (next_item host) room tag (ap taken_tag (sym is) ∙ taken))

-- which isn't out
pub says_free : (host : HostFields) (room : Bool) (given : Given) → given ≡ give_says host room → ForSome (taken_tag given) (IsFree host.tags)
says_free host room given is tag taken = (says_lowest host room given is tag taken).free

-- and is out afterwards
out_after : (given : Given) (host : HostFields) (tag : ℕ) → taken_tag given ≡ Some tag → IsFree host.tags tag → IsOut (after_give given host).tags tag
out_after (Gave packet request taken poisoned) host tag is free =
    let within : tag < length (set host.tags tag true) = omega (arith, length-set host.tags tag true, slice_get_within host.tags tag false free) in
    let now : get_or (set host.tags tag true) tag true ≡ true = get_or-set_same host.tags tag true true (slice_get_within host.tags tag false free) in
    subst (λ (o : Option ℕ). IsOut (with_out o host.tags) tag) (sym is) (slice_get-get_or (set host.tags tag true) tag true within ∙ ap Some now)
out_after _ host tag is free = absurd cc

pub says_out : (host host' : HostFields) (room : Bool) (given : Given) (tag : ℕ) → given ≡ give_says host room → host' ≡ after_give given host → taken_tag given ≡ Some tag → IsOut host'.tags tag
says_out host host' room given tag is now taken =
    subst (λ (h : HostFields). IsOut h.tags tag) (sym now) (out_after given host tag taken (says_free host room given is tag taken))
