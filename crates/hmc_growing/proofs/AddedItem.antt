-- A request is added to the script of a case.
use Rattle.std.proofs.Common.{◌≡◌, ◌∙◌, ◌<◌, ◌≤◌, ◌==◌, ◌++◌, ◌+◌, Option, Some, None, ap, arith, ℕ, zero, suc, Bool, true, false, List, [], ◌∷◌, length, drop, length-append, refl, sym, subst, eqb-true, if◌then◌else◌}
use Rattle.std.specs.Prelude.{slice_get, filter}
use Rattle.std.proofs.lemmas.List.Elements.{All-nil, All-cons, All-append, filter-append}
use Rattle.std.proofs.lemmas.List.{append-nil}
use Rattle.std.proofs.lemmas.Option.{slice_get_within}
use Rattle.hmc_codes.specs.Request.{RequestFields}
use Rattle.hmc_script.specs.Items.{ItemFields}
use Rattle.hmc_schedule.specs.declared.step.Step.{Step}
use Rattle.hmc_schedule.specs.declared.step.Step.TheVariants as steps
use Rattle.hmc_host.specs.Host.{HostFields, items_of}
use Rattle.hmc_host.specs.Give.{next_says, give_says, next_item}
use Rattle.hmc_entries.specs.declared.entry.Entry.{Entry}
use Rattle.hmc_entries.specs.declared.entry.Entry.TheVariants.{Gave}
use Rattle.hmc_journal.specs.Answers.{gave_entry}
use Rattle.hmc_journal.specs.Hosts.{host_of, given_count, count_if}
use Rattle.hmc_journal.specs.Lawful.{Lawful, Follows}
use Rattle.hmc_journal.specs.Network.{IsItemOf, IsNetwork}
use Rattle.hmc_journal.specs.Next.{next, choice}
use Rattle.hmc_journal.specs.Setup.{Setup, hosts_in, cubes_in}
use Rattle.hmc_journal.specs.StepView.{state_of, view_of}
use Rattle.hmc_journal.proofs.EntryRule.{EntryRule, HasGiven, entry_rule, lawful_past, drop-first, next_at}
use Rattle.hmc_growing.specs.Growing.{with_item, is_end_of, IsOpen}
use Rattle.hmc_growing.proofs.HostEnds.{end_is_give, itself}

-- ---- what a host gives next

-- an element that is there is there also in a longer list
get_front : {X : Type 0} (xs ys : List X) (k : ℕ) (x : X) → slice_get xs k ≡ Some x → slice_get (xs ++ ys) k ≡ Some x
get_front [] ys k x is = absurd cc
get_front (y ∷ xs) ys zero x is = is
get_front (y ∷ xs) ys (suc k) x is = get_front xs ys k x is

-- the requests of a host with one more in the script
pub more_items : (setup : Setup) (item : ItemFields) (h : ℕ) → items_of h (setup.script ++ item ∷ []) ≡ items_of h setup.script ++ filter (λ (x : ItemFields). x.host == h) (item ∷ [])
more_items setup item h = filter-append (λ (x : ItemFields). x.host == h) setup.script (item ∷ [])

-- one more is none of a host's, or the one
pub one_of : (item : ItemFields) (h : ℕ) (test : Bool) → (item.host == h) ≡ test → filter (λ (x : ItemFields). x.host == h) (item ∷ []) ≡ (if test then item ∷ [] else [])
one_of item h test is = ap (λ (t : Bool). if t then item ∷ [] else []) is

-- what a host gives next stays, unless it was at its end
next_same : (host : HostFields) (items : List ItemFields) (item : ItemFields) (h : ℕ) (room : Bool) (o : Option ItemFields) (test : Bool)
    → slice_get items host.given ≡ o → (item.host == h) ≡ test → is_end_of item.host (gave_entry h (next_says host o room)) ≡ false
    → slice_get (items ++ filter (λ (x : ItemFields). x.host == h) (item ∷ [])) host.given ≡ o
next_same host items item h room (Some x) test is at more = get_front items _ host.given x is
next_same host items item h room None true is at more = absurd (cc)
next_same host items item h room None false is at more =
    ap (λ (ys : List ItemFields). slice_get (items ++ ys) host.given) (one_of item h false at) ∙ ap (λ (xs : List ItemFields). slice_get xs host.given) (append-nil items) ∙ is

-- what else a host gives depends on its number and its tags alone
says_any : (number given : ℕ) (tags : List Bool) (xs ys : List ItemFields) (o : Option ItemFields) (room : Bool)
    → next_says (record { number = number; left = xs; given = given; tags = tags }) o room ≡ next_says (record { number = number; left = ys; given = given; tags = tags }) o room
says_any number given tags xs ys None room = refl
says_any number given tags xs ys (Some item) room = refl

give_with : (setup : Setup) (item : ItemFields) (past : List Entry) (h : ℕ) (room : Bool) → is_end_of item.host (gave_entry h (give_says (host_of setup past h) room)) ≡ false
    → gave_entry h (give_says (host_of (with_item setup item) past h) room) ≡ gave_entry h (give_says (host_of setup past h) room)
unfolding give_says host_of
give_with setup item past h room more =
    let host = host_of setup past h in
    let items = items_of h setup.script in
    let all = items_of h (setup.script ++ item ∷ []) in
    let longer : HostFields = record { number = h; left = drop host.given all; given = host.given; tags = host.tags } in
    ap (λ (o : Option ItemFields). gave_entry h (next_says longer o room)) (drop-first all host.given)
    ∙ ap (λ (xs : List ItemFields). gave_entry h (next_says longer (slice_get xs host.given) room)) (more_items setup item h)
    ∙ ap (λ (o : Option ItemFields). gave_entry h (next_says longer o room)) (next_same host items item h room (next_item host) (item.host == h) (sym (drop-first items host.given)) refl more)
    ∙ ap (gave_entry h) (says_any h host.given host.tags longer.left host.left (next_item host) room)

-- ---- entries

-- a step yields what it yielded, unless its host was at its end
pub next_with_item : (setup : Setup) (item : ItemFields) (past : List Entry) (step : Step) → is_end_of item.host (next setup past step) ≡ false → next (with_item setup item) past step ≡ next setup past step
unfolding next choice view_of state_of
next_with_item setup item past (steps.Give h) more = give_with setup item past h _ more
next_with_item setup item past (steps.Send d) more = refl
next_with_item setup item past (steps.Land d mask) more = refl
next_with_item setup item past (steps.Shift cube port) more = refl
next_with_item setup item past (steps.Spread cube vault) more = refl
next_with_item setup item past (steps.Bank cube vault bank) more = refl
next_with_item setup item past (steps.Registers cube) more = refl
next_with_item setup item past (steps.Lift cube from) more = refl
next_with_item setup item past (steps.Take host) more = refl
next_with_item setup item past (steps.Through cube port) more = refl
next_with_item setup item past (steps.Unlock d) more = refl
next_with_item setup item past (steps.Retire slot) more = refl

follows_item : (setup : Setup) (item : ItemFields) (past : List Entry) (o : Option Step) (entry : Entry) → is_end_of item.host entry ≡ false → Follows setup past o entry → Follows (with_item setup item) past o entry
follows_item setup item past None entry more never = never
follows_item setup item past (Some step) entry more is = is ∙ sym (next_with_item setup item past step (subst (λ (e : Entry). is_end_of item.host e ≡ false) is more))

-- a journal stays lawful where a host is asked for more that was never at its end
pub lawful_with_item : (setup : Setup) (item : ItemFields) (past : List Entry) → IsOpen item.host past → Lawful setup past → Lawful (with_item setup item) past
unfolding Lawful IsOpen
lawful_with_item setup item [] free lawful = tt
lawful_with_item setup item (entry ∷ past) free lawful =
    (lawful.0, follows_item setup item past (slice_get setup.schedule (length past)) entry free.0 lawful.1, lawful_with_item setup item past free.1 lawful.2)

-- ---- and only there

-- a host gives no more requests than it has
gave_within : (setup : Setup) (test : Bool) (host h : ℕ) (past : List Entry) (tag : Option ℕ) (poisoned : Bool) (request : RequestFields) → (host == h) ≡ test → HasGiven setup past host tag poisoned request
    → given_count h past ≤ length (items_of h setup.script) → count_if test (given_count h past) ≤ length (items_of h setup.script)
unfolding host_of
gave_within setup false host h past tag poisoned request test right is = is
gave_within setup true host h past tag poisoned request test right is =
    let same : host ≡ h = eqb-true host h test in
    let at : slice_get (items_of h setup.script) (given_count h past) ≡ Some right.item =
    subst (λ (n : ℕ). slice_get (items_of n setup.script) (given_count n past) ≡ Some right.item) same right.is_next in
    let within : given_count h past < length (items_of h setup.script) = slice_get_within (items_of h setup.script) (given_count h past) right.item at in
    omega (arith, within)

entry_within : (setup : Setup) (h : ℕ) (entry : Entry) (past : List Entry) → EntryRule setup past entry → given_count h past ≤ length (items_of h setup.script) → given_count h (entry ∷ past) ≤ length (items_of h setup.script)
unfolding given_count
entry_within setup h (Gave host tag poisoned request) past right is = gave_within setup (host == h) host h past tag poisoned request refl right is
entry_within setup h _ past right is = is

pub given_within : (setup : Setup) (h : ℕ) (past : List Entry) → Lawful setup past → given_count h past ≤ length (items_of h setup.script)
unfolding given_count
given_within setup h [] lawful = omega arith
given_within setup h (entry ∷ past) lawful = entry_within setup h entry past (entry_rule setup entry past lawful) (given_within setup h past (lawful_past setup entry past lawful))

none_past : {X : Type 0} (xs : List X) (i : ℕ) → slice_get xs i ≡ None → length xs ≤ i
none_past [] i none = omega arith
none_past (x ∷ xs) zero none = absurd cc
none_past (x ∷ xs) (suc i) none = omega (arith, none_past xs i none)

-- a request more is left of those of its host
one_left : (setup : Setup) (item : ItemFields) (past : List Entry) → Lawful setup past → next_item (host_of (with_item setup item) past item.host) ≡ None → ⊥
one_left setup item past lawful none =
    let h = item.host in
    let past_all : slice_get (items_of h (setup.script ++ item ∷ [])) (given_count h past) ≡ None = sym (next_at (with_item setup item) past h) ∙ none in
    let few : given_count h past ≤ length (items_of h setup.script) = given_within setup h past lawful in
    let longer : items_of h (setup.script ++ item ∷ []) ≡ items_of h setup.script ++ item ∷ [] =
    more_items setup item h ∙ ap (λ (ys : List ItemFields). items_of h setup.script ++ ys) (one_of item h true (itself h)) in
    let all : length (items_of h (setup.script ++ item ∷ [])) ≤ given_count h past = none_past (items_of h (setup.script ++ item ∷ [])) (given_count h past) past_all in
    let long : length (items_of h (setup.script ++ item ∷ [])) ≡ length (items_of h setup.script) + 1 = ap (λ (xs : List ItemFields). length xs) longer ∙ length-append (items_of h setup.script) (item ∷ []) in
    absurd (omega (arith, few, all, long))

-- no entry of both cases says that the host has given all
not_end : (setup : Setup) (item : ItemFields) (past : List Entry) (o : Option Step) (entry : Entry) (ends : Bool) → Lawful setup past → Follows (with_item setup item) past o entry → is_end_of item.host entry ≡ ends → is_end_of item.host entry ≡ false
not_end setup item past o entry false lawful follows ends = ends
not_end setup item past None entry true lawful never ends = absurd never
not_end setup item past (Some step) entry true lawful is ends =
    absurd (one_left setup item past lawful (end_is_give (with_item setup item) past step item.host (subst (λ (e : Entry). is_end_of item.host e ≡ true) is ends)).none_left)

pub open_with_item : (setup : Setup) (item : ItemFields) (past : List Entry) → Lawful setup past → Lawful (with_item setup item) past → IsOpen item.host past
unfolding Lawful IsOpen
open_with_item setup item [] lawful longer = tt
open_with_item setup item (entry ∷ past) lawful longer =
    (not_end setup item past (slice_get setup.schedule (length past)) entry (is_end_of item.host entry) lawful.2 longer.1 refl, open_with_item setup item past lawful.2 longer.2)

-- ---- the case

pub network_with_item : (setup : Setup) (item : ItemFields) → IsNetwork setup → IsItemOf (hosts_in setup.topology) (cubes_in setup.topology) item → IsNetwork (with_item setup item)
network_with_item setup item is good =
    let IsOne : ItemFields → Type 0 = IsItemOf (hosts_in setup.topology) (cubes_in setup.topology) in
    record {
      some_hosts = is.some_hosts;
      few_hosts = is.few_hosts;
      few_links = is.few_links;
      graph = is.graph;
      one_part = is.one_part;
      hosts = is.hosts;
      cubes = is.cubes;
      sizes = is.sizes;
      items = All-append IsOne setup.script (item ∷ []) is.items (All-cons IsOne item [] good (All-nil IsOne));
      masks = is.masks;
    }
