-- Where the network is drained, each request that host 0 gave has its answer.
use Rattle.std.proofs.Common.{◌≡◌, ◌<◌, ◌∙◌, ◌+◌, ◌==◌, ◌&&◌, ℕ, zero, suc, Bool, true, false, not, List, [], ◌∷◌, ◌++◌, length, take, Option, Some, refl, sym, ap, subst, arith, length-append}
use Rattle.std.specs.Prelude.{map, filter, option_and_then, if◌then◌else◌}
use Rattle.std.specs.List.{All, slice_get}
use Rattle.std.proofs.lemmas.Bool.{eq-eqb}
use Rattle.std.proofs.lemmas.List.{length-map}
use Rattle.std.proofs.lemmas.List.Elements.{All-head, All-tail, All-nil, All-push, filter-append}
use Rattle.hmc_codes.specs.Commands.{is_posted}
use Rattle.hmc_codes.specs.Request.{RequestFields}
use Rattle.hmc_codes.specs.Shape.{ShapeFields}
use Rattle.hmc_codes.specs.declared.answer.Answer.{Answer}
use Rattle.hmc_entries.specs.declared.entry.Entry.{Entry}
use Rattle.hmc_entries.specs.declared.entry.Entry.TheVariants.{Gave}
use Rattle.hmc_journal.specs.Choice.{append_if}
use Rattle.hmc_journal.specs.Drained.{is_drained}
use Rattle.hmc_journal.specs.Filters.{ScriptRequest, same_tag, given_by, asked_under, answers_under}
use Rattle.hmc_host.specs.Tags.{lowest_free}
use Rattle.hmc_journal.specs.Hosts.{host_of}
use Rattle.hmc_journal.specs.Lawful.{Lawful}
use Rattle.hmc_journal.specs.Network.{IsNetwork}
use Rattle.hmc_journal.specs.Setup.{Setup, shapes_of, shape_of, cubes_in}
use Rattle.hmc_journal.proofs.EntryRule.{HasGiven, IsTagged, entry_rule, lawful_past}
use Rattle.hmc_delivery.proofs.Delivering.{all_served}
use Rattle.hmc_laws.proofs.DrainedTest.{drained_by_test}
use Rattle.hmc_serial.specs.Machine.{State, apply, opening_state}
use Rattle.hmc_accesses.specs.Compiled.{compiled_of, item_of}
use Rattle.hmc_accesses.specs.InOrder.{count_tag}
use Rattle.hmc_accesses.specs.Laws.{script_of, AllAreLoaded}
use Rattle.hmc_accesses.specs.Serial.{answers_to}
use Rattle.hmc_accesses.specs.Trace.{Trace, IsTrace, loaded}
use Rattle.hmc_accesses.specs.Value.{tags_given, answer_under, answer_of, load_value, value_in}
use Rattle.hmc_accesses.proofs.PlainRequests.{GivenOf, given_plain}
use Rattle.hmc_accesses.proofs.Loaded.{nth_filter, plain_script, serial_answer, value_more}
use Rattle.hmc_accesses.proofs.Performed.{script_is, performed_all}
use Rattle.hmc_accesses.proofs.LoadValues.{requests_all}

-- ---- lists

get_less : {X : Type 0} (xs : List X) (n : ℕ) (x : X) → slice_get xs n ≡ Some x → n < length xs
get_less [] n x is = absurd (cc)
get_less (y ∷ xs) zero x is = omega arith
get_less (y ∷ xs) (suc n) x is = let more = get_less xs n x is in omega arith

get_there : {X : Type 0} (xs : List X) (n : ℕ) → n < length xs → (x : X) × (slice_get xs n ≡ Some x)
get_there [] n less = absurd (omega arith)
get_there (x ∷ xs) zero less = (x, refl)
get_there (x ∷ xs) (suc n) less = get_there xs n (omega arith)

get_all : {X : Type 0} (P : X → Type 0) (xs : List X) (n : ℕ) (x : X) → All P xs →
    slice_get xs n ≡ Some x → P x
get_all P [] n x all is = absurd (cc)
get_all P (y ∷ xs) zero x all is = let same : y ≡ x = cc in subst P same (All-head P y xs all)
get_all P (y ∷ xs) (suc n) x all is = get_all P xs n x (All-tail P y xs all) is

-- ---- the tags of what was given

tags_long : (past : List Entry) → length (tags_given 0 past) ≡ length (given_by 0 past)
unfolding tags_given given_by
tags_long [] = refl
tags_long (Gave host tag poisoned request ∷ past) =
    by (host == 0) (tags_given 0 past) (given_by 0 past) (tags_long past)
  where
    by : (b : Bool) (tags : List (Option ℕ)) (given : List ScriptRequest) →
        length tags ≡ length given →
        length (append_if b (tag ∷ []) tags)
        ≡ length (append_if b (record { poisoned = poisoned; request = request } ∷ []) given)
    by true tags given same =
        length-append tags (tag ∷ []) ∙ ap (λ n. n + 1) same
        ∙ sym (length-append given (record { poisoned = poisoned; request = request } ∷ []))
    by false tags given same = same
tags_long (entry ∷ past) = tags_long past

asked_long : (t : ℕ) (past : List Entry) →
    count_tag (tags_given 0 past) t ≡ length (asked_under 0 t past)
unfolding tags_given asked_under
asked_long t [] = refl
asked_long t (Gave host tag poisoned request ∷ past) =
    by (host == 0) (tags_given 0 past) (asked_long t past)
  where
    own : (b : Bool) (tags : List (Option ℕ)) → count_tag tags t ≡ length (asked_under 0 t past) →
        length (filter (λ other. same_tag other t) tags ++ (if b then tag ∷ [] else []))
        ≡ length (append_if b (request ∷ []) (asked_under 0 t past))
    own true tags same =
        length-append (filter (λ other. same_tag other t) tags) (tag ∷ []) ∙ ap (λ n. n + 1) same
        ∙ sym (length-append (asked_under 0 t past) (request ∷ []))
    own false tags same =
        length-append (filter (λ other. same_tag other t) tags) [] ∙ omega (arith, same)

    by : (b : Bool) (tags : List (Option ℕ)) → count_tag tags t ≡ length (asked_under 0 t past) →
        count_tag (append_if b (tag ∷ []) tags) t
        ≡ length (append_if (b && same_tag tag t) (request ∷ []) (asked_under 0 t past))
    by true tags same =
        ap length (filter-append (λ other. same_tag other t) tags (tag ∷ []))
        ∙ own (same_tag tag t) tags same
    by false tags same = same
asked_long t (entry ∷ past) = asked_long t past

-- a request has a tag
abbrev IsSomeTag : Option ℕ → Type 0
IsSomeTag tag = (t : ℕ) × (tag ≡ Some t)

tag_of_given : (setup : Setup) (past : List Entry) (host : ℕ) (tag : Option ℕ) (poisoned : Bool)
    (request : RequestFields) → HasGiven setup past host tag poisoned request → poisoned ≡ false →
    is_posted request.command ≡ false → IsSomeTag tag
tag_of_given setup past host tag poisoned request has sound answered =
    let unpoisoned : has.item.poisoned ≡ false = sym has.is_poisoned ∙ sound in
    let asks : is_posted has.item.request.command ≡ false =
    ap (λ (r : RequestFields). is_posted r.command) (sym has.is_request) ∙ answered in
    let wants : (not has.item.poisoned && not (is_posted has.item.request.command)) ≡ true =
    ap (λ b. not b && not (is_posted has.item.request.command)) unpoisoned ∙ ap not asks in
    let tagged = subst (λ b. IsTagged b (lowest_free (host_of setup past host).tags) tag) wants
    has.is_tagged in
    (tagged.0, tagged.2)

tags_there : (setup : Setup) (count : ℕ) (shape_at : ℕ → ShapeFields) (past : List Entry) →
    Lawful setup past → GivenOf 0 count shape_at past → All IsSomeTag (tags_given 0 past)
unfolding tags_given
tags_there setup count shape_at [] lawful given = All-nil IsSomeTag
tags_there setup count shape_at (Gave host tag poisoned request ∷ past) lawful given =
    let before = lawful_past setup (Gave host tag poisoned request) past lawful in
    let has : HasGiven setup past host tag poisoned request =
    entry_rule setup (Gave host tag poisoned request) past lawful in
    let more = tags_there setup count shape_at past before given.1 in
    let one = tag_of_given setup past host tag poisoned request has given.0.1
    given.0.2.access.answered in
    subst (λ b. All IsSomeTag (append_if b (tag ∷ []) (tags_given 0 past)))
    (sym (eq-eqb host 0 given.0.0)) (All-push IsSomeTag (tags_given 0 past) tag more one)
tags_there setup count shape_at (entry ∷ past) lawful given =
    tags_there setup count shape_at past (lawful_past setup entry past lawful) given

-- ---- their answers

-- as many answers as requests under each tag: each request has its own
answered_under : (past : List Entry) (n t : ℕ) →
    length (answers_under 0 t past) ≡ length (asked_under 0 t past) →
    slice_get (tags_given 0 past) n ≡ Some (Some t) →
    (answer : Answer) × (answer_under past n (Some t) ≡ Some answer)
answered_under past n t taken at =
    let nth = nth_filter (λ other. same_tag other t) (tags_given 0 past) n (Some t) at
    (eq-eqb t t refl) in
    let less = get_less (filter (λ other. same_tag other t) (tags_given 0 past))
    (count_tag (take n (tags_given 0 past)) t) (Some t) nth in
    get_there (answers_under 0 t past) (count_tag (take n (tags_given 0 past)) t)
    (omega (arith, less, asked_long t past, taken))

is_answered : (setup : Setup) (past : List Entry) (n : ℕ) → IsNetwork setup → Lawful setup past →
    is_drained setup.topology past ≡ true → All IsSomeTag (tags_given 0 past) →
    n < length (tags_given 0 past) → (answer : Answer) × (answer_of past n ≡ Some answer)
unfolding answer_of
is_answered setup past n network lawful drained tagged less =
    let served = all_served setup past network lawful
    (drained_by_test setup past network lawful drained) in
    let at = get_there (tags_given 0 past) n less in
    let tag = get_all IsSomeTag (tags_given 0 past) n at.0 tagged at.1 in
    let here : slice_get (tags_given 0 past) n ≡ Some (Some tag.0) = at.1 ∙ ap Some tag.1 in
    let answered = answered_under past n tag.0 (served.taken 0 tag.0) here in
    (answered.0, ap (option_and_then (answer_under past n)) here ∙ answered.1)

answers_long : (state : State) (requests : List RequestFields) →
    length (answers_to state requests) ≡ length requests
answers_long state [] = refl
answers_long state (request ∷ requests) = ap suc (answers_long (apply state request) requests)

-- each answer of the machine is in the journal
machine_answer : (trace : Trace) (setup : Setup) (past : List Entry) → IsTrace trace →
    IsNetwork setup → Lawful setup past → shapes_of setup.topology ≡ trace.cubes →
    setup.script ≡ script_of trace → length (given_by 0 past) ≡ length setup.script →
    is_drained setup.topology past ≡ true → (n : ℕ) (answer : Answer) →
    slice_get (answers_to (opening_state trace.cubes setup.slots) (requests_all trace.accesses)) n
    ≡ Some answer → answer_of past n ≡ Some answer
machine_answer trace setup past is network lawful cubes script given drained n answer at =
    let machine = answers_to (opening_state trace.cubes setup.slots) (requests_all trace.accesses)
    in
    let many : length setup.script ≡ length (requests_all trace.accesses) =
    ap length (script ∙ script_is trace) ∙ length-map (requests_all trace.accesses) item_of in
    let less = get_less machine n answer at in
    let long = answers_long (opening_state trace.cubes setup.slots) (requests_all trace.accesses) in
    let plain = given_plain setup 0 (cubes_in setup.topology) (shape_of setup.topology)
    (plain_script trace setup is cubes script) past lawful in
    let tagged = tags_there setup (cubes_in setup.topology) (shape_of setup.topology) past lawful
    plain in
    let found = is_answered setup past n network lawful drained tagged
    (omega (arith, less, long, many, given, tags_long past)) in
    let same : found.0 ≡ answer = some_is found.0 answer
    (sym (serial_answer trace setup past is network lawful cubes script n found.0 found.1) ∙ at) in
    found.1 ∙ ap Some same
  where
    some_is : (x y : Answer) → ◌≡◌ {A = Option Answer} (Some x) (Some y) → x ≡ y
    some_is x y is = cc

-- what gives some value gives it also by more answers
map_more : {X Y : Type 0} (f g : X → Option Y) (xs : List X) (ys : List Y) →
    ((x : X) (y : Y) → f x ≡ Some y → g x ≡ Some y) → map f xs ≡ map Some ys →
    map g xs ≡ map Some ys
map_more f g [] [] more is = refl
map_more f g [] (y ∷ ys) more is = absurd (cc)
map_more f g (x ∷ xs) [] more is = absurd (cc)
map_more f g (x ∷ xs) (y ∷ ys) more is =
    let first : f x ≡ Some y = cc in
    let rest : map f xs ≡ map Some ys = cc in
    ap (λ o. o ∷ map g xs) (more x y first) ∙ ap (λ l. Some y ∷ l) (map_more f g xs ys more rest)

pub all_are_loaded : AllAreLoaded
unfolding compiled_of
all_are_loaded trace setup past is network lawful cubes script given drained =
    let machine = slice_get (answers_to (opening_state trace.cubes setup.slots)
    (requests_all trace.accesses)) in
    map_more (load_value machine (script_of trace)) (value_in (compiled_of trace) past)
    (compiled_of trace).loads (loaded trace)
    (λ load bytes value. value_more machine (answer_of past) (script_of trace) load bytes
    (machine_answer trace setup past is network lawful cubes script given drained) value)
    (performed_all trace setup.slots is).values
