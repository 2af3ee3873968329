-- The values that lawful journals give are the trace's.
use Rattle.std.proofs.Common.{◌≡◌, ◌<◌, ◌∙◌, ◌+◌, ℕ, zero, suc, Bool, true, false, List, [], ◌∷◌, ◌++◌, length, take, Option, Some, None, refl, sym, ap, subst}
use Rattle.std.specs.Prelude.{slice_index_or, if◌then◌else◌, map, filter, option_and_then, option_map}
use Rattle.std.specs.List.{All, slice_get}
use Rattle.std.proofs.lemmas.Bool.{eq-eqb}
use Rattle.std.proofs.lemmas.List.{map-append, length-map}
use Rattle.std.proofs.lemmas.List.Elements.{All-head, All-tail, All-cons, All-nil}
use Rattle.hmc_case.specs.Setup.{CubeSetupFields}
use Rattle.hmc_codes.specs.Request.{RequestFields}
use Rattle.hmc_codes.specs.Shape.{ShapeFields}
use Rattle.hmc_codes.specs.declared.answer.Answer.{Answer}
use Rattle.hmc_script.specs.Items.{ItemFields, of_host}
use Rattle.hmc_serial.specs.Machine.{State, apply, answer_to, opening_state}
use Rattle.hmc_journal.specs.Choice.{append_if}
use Rattle.hmc_entries.specs.declared.entry.Entry.{Entry}
use Rattle.hmc_entries.specs.declared.entry.Entry.TheVariants.{Gave}
use Rattle.hmc_journal.specs.Delivered.{IsPrefix, said}
use Rattle.hmc_journal.specs.Filters.{TaggedRequest, ScriptRequest, same_tag, given_by, answers_under}
use Rattle.hmc_journal.specs.Lawful.{Lawful}
use Rattle.hmc_journal.specs.Network.{IsNetwork}
use Rattle.hmc_journal.specs.Setup.{Setup, Topology, shapes_of, shape_of, cubes_in}
use Rattle.hmc_journal.specs.Setup.{no_setup}
use Rattle.hmc_journal.specs.StepView.{opening_of}
use Rattle.hmc_laws.proofs.Order.{is_scripted}
use Rattle.hmc_accesses.specs.declared.load.Load.{Load}
use Rattle.hmc_accesses.specs.Compiled.{item_of, compiled_of}
use Rattle.hmc_accesses.specs.Laws.{script_of, ValuesAreLoaded}
use Rattle.hmc_accesses.specs.Meaning.{no_shape}
use Rattle.hmc_accesses.specs.Serial.{answers_to}
use Rattle.hmc_accesses.specs.Trace.{Trace, IsTrace, loaded}
use Rattle.hmc_accesses.specs.Value.{tags_given, answer_under, answer_of, read_bytes, size_of, bytes_at, joined, cut, load_value}
use Rattle.hmc_accesses.proofs.Access.{IsAccess, IsAccessOf, Holds}
use Rattle.hmc_accesses.proofs.PlainRequests.{IsPlainItem, GivenOf, given_all, given_plain}
use Rattle.hmc_accesses.proofs.Journals.{ask_of, under_tag, journal_answers}
use Rattle.hmc_accesses.proofs.Mirror.{shape_at, Holds-opening, zero-opening}
use Rattle.hmc_accesses.proofs.Performed.{script_is, are_cubes, performed_all}
use Rattle.hmc_accesses.proofs.Replies.{state_by, replies_by, Reply, of_reply, IsZero}
use Rattle.hmc_accesses.proofs.Storing.{own}
use Rattle.hmc_accesses.proofs.LoadValues.{requests_all, valid_all, answers-append}

-- ---- lists

get_prefix : {X : Type 0} (xs ys : List X) (n : ℕ) (x : X) → IsPrefix xs ys →
    slice_get xs n ≡ Some x → slice_get ys n ≡ Some x
get_prefix xs ys n x prefix is = ap (λ l. slice_get l n) prefix.1 ∙ get_front xs prefix.0 n x is
  where
    get_front : {X : Type 0} (xs rest : List X) (n : ℕ) (x : X) → slice_get xs n ≡ Some x →
        slice_get (xs ++ rest) n ≡ Some x
    get_front [] rest n x is = absurd (cc)
    get_front (y ∷ xs) rest zero x is = is
    get_front (y ∷ xs) rest (suc n) x is = get_front xs rest n x is

get_map : {X Y : Type 0} (f : X → Y) (xs : List X) (n : ℕ) (x : X) → slice_get xs n ≡ Some x →
    slice_get (map f xs) n ≡ Some (f x)
get_map f [] n x is = absurd (cc)
get_map f (y ∷ xs) zero x is = let same : y ≡ x = cc in ap (λ z. Some (f z)) same
get_map f (y ∷ xs) (suc n) x is = get_map f xs n x is

get_some : {X : Type 0} (xs : List X) (n : ℕ) (x : X) → slice_get (map Some xs) n ≡ Some (Some x) →
    slice_get xs n ≡ Some x
get_some [] n x is = absurd (cc)
get_some (y ∷ xs) zero x is = cc
get_some (y ∷ xs) (suc n) x is = get_some xs n x is

-- the element of a filtered list, by those before it
pub nth_filter : {X : Type 0} (p : X → Bool) (xs : List X) (n : ℕ) (x : X) → slice_get xs n ≡ Some x
    → p x ≡ true → slice_get (filter p xs) (length (filter p (take n xs))) ≡ Some x
nth_filter p [] n x is passes = absurd (cc)
nth_filter p (y ∷ xs) zero x is passes =
    let same : y ≡ x = cc in
    let here : p y ≡ true = ap p same ∙ passes in
    ap (λ b. slice_get (if b then y ∷ filter p xs else filter p xs) 0) here ∙ ap Some same
nth_filter p (y ∷ xs) (suc n) x is passes =
    let more = nth_filter p xs n x is passes in
    elim (p y) as (λ b. slice_get (if b then y ∷ filter p xs else filter p xs)
    (length (if b then y ∷ filter p (take n xs) else filter p (take n xs))) ≡ Some x) [
      | true ↦ more
      | false ↦ more
    ]

-- ---- what was given

-- the reply to the n-th, where it has this tag
record HasReply (opening : State) (given : List TaggedRequest) (n : ℕ) (tag : Option ℕ) : Type 0
  where
    pub reply : Reply TaggedRequest
    pub at : slice_get (replies_by ask_of opening given) n ≡ Some reply
    pub tag_is : reply.item.tag ≡ tag

has_reply : (opening : State) (given : List TaggedRequest) (n : ℕ) (tag : Option ℕ) →
    slice_get (map (λ (x : TaggedRequest). x.tag) given) n ≡ Some tag → HasReply opening given n tag
has_reply opening [] n tag is = absurd (cc)
has_reply opening (x ∷ given) zero tag is =
    record {
      reply = record { item = x; answer = answer_to opening (ask_of x) };
      at = refl;
      tag_is =
          cc;
    }
has_reply opening (x ∷ given) (suc n) tag is = let more =
    has_reply (apply opening (ask_of x)) given n tag is in record {
      reply = more.reply;
      at =
          more.at;
      tag_is = more.tag_is;
    }

count_tags : (opening : State) (given : List TaggedRequest) (n t : ℕ) →
    length (filter (λ other. same_tag other t) (take n (map (λ (x : TaggedRequest). x.tag) given)))
    ≡ length (filter (of_reply (under_tag t)) (take n (replies_by ask_of opening given)))
count_tags opening given zero t = refl
count_tags opening [] (suc n) t = refl
count_tags opening (x ∷ given) (suc n) t =
    let more = count_tags (apply opening (ask_of x)) given n t in
    let reply : Reply TaggedRequest = record { item = x; answer = answer_to opening (ask_of x) } in
    let tags = filter (λ other. same_tag other t)
    (take n (map (λ (y : TaggedRequest). y.tag) given)) in
    let replies = filter (of_reply (under_tag t))
    (take n (replies_by ask_of (apply opening (ask_of x)) given)) in
    elim (same_tag x.tag t) as (λ b. length (if b then x.tag ∷ tags else tags)
    ≡ length (if b then reply ∷ replies else replies)) [
      | true ↦ ap suc more
      | false ↦ more
    ]

answers_are : (opening : State) (given : List TaggedRequest) →
    map (λ (r : Reply TaggedRequest). r.answer) (replies_by ask_of opening given)
    ≡ answers_to opening (map ask_of given)
answers_are opening [] = refl
answers_are opening (x ∷ given) = ap (λ l. answer_to opening (ask_of x) ∷ l)
    (answers_are (apply opening (ask_of x)) given)

tags_are : (count : ℕ) (shape_at : ℕ → ShapeFields) (past : List Entry) →
    GivenOf 0 count shape_at past → tags_given 0 past ≡ map (λ (x : TaggedRequest). x.tag)
    (given_all past)
unfolding tags_given
tags_are count shape_at [] given = refl
tags_are count shape_at (Gave giver tag poisoned request ∷ past) given =
    let x : TaggedRequest = record { tag = tag; request = request } in
    ap (λ b. append_if b (tag ∷ []) (tags_given 0 past)) (eq-eqb giver 0 given.0.0)
    ∙ ap (λ l. l ++ tag ∷ []) (tags_are count shape_at past given.1)
    ∙ sym (map-append (λ (y : TaggedRequest). y.tag) (given_all past) (x ∷ []))
tags_are count shape_at (entry ∷ past) given = tags_are count shape_at past given

given_requests : (count : ℕ) (shape_at : ℕ → ShapeFields) (past : List Entry) →
    GivenOf 0 count shape_at past → map (λ (g : ScriptRequest). g.request) (given_by 0 past)
    ≡ map ask_of (given_all past)
unfolding given_by
given_requests count shape_at [] given = refl
given_requests count shape_at (Gave giver tag poisoned request ∷ past) given =
    let x : TaggedRequest = record { tag = tag; request = request } in
    let g : ScriptRequest = record { poisoned = poisoned; request = request } in
    ap (λ b. map (λ (g : ScriptRequest). g.request) (append_if b (g ∷ []) (given_by 0 past)))
    (eq-eqb giver 0 given.0.0)
    ∙ map-append (λ (g : ScriptRequest). g.request) (given_by 0 past) (g ∷ [])
    ∙ ap (λ l. l ++ request ∷ []) (given_requests count shape_at past given.1)
    ∙ sym (map-append ask_of (given_all past) (x ∷ []))
given_requests count shape_at (entry ∷ past) given = given_requests count shape_at past given

own_items : (xs : List RequestFields) →
    map (λ (g : ScriptRequest). g.request) (map said (of_host 0 (map item_of xs))) ≡ xs
own_items [] = refl
own_items (x ∷ xs) = ap (λ l. x ∷ l) (own_items xs)

plain_items : (count : ℕ) (shape_at : ℕ → ShapeFields) (xs : List RequestFields) →
    All (IsAccessOf count shape_at) xs → All (IsPlainItem 0 count shape_at) (map item_of xs)
plain_items count shape_at [] all = All-nil (IsPlainItem 0 count shape_at)
plain_items count shape_at (x ∷ xs) all =
    All-cons (IsPlainItem 0 count shape_at) (item_of x) (map item_of xs)
    (refl, refl, All-head (IsAccessOf count shape_at) x xs all)
    (plain_items count shape_at xs (All-tail (IsAccessOf count shape_at) x xs all))

-- ---- the cubes of the network are the trace's

shape_map : (cubes : List CubeSetupFields) (c : ℕ) → (slice_index_or cubes c no_setup).shape
    ≡ slice_index_or (map (λ (cube : CubeSetupFields). cube.shape) cubes) c no_shape
shape_map [] c = refl
shape_map (cube ∷ cubes) zero = refl
shape_map (cube ∷ cubes) (suc c) = shape_map cubes c

access_as : (one other : ℕ) (f g : ℕ → ShapeFields) (xs : List RequestFields) → one ≡ other →
    ((c : ℕ) → f c ≡ g c) → All (IsAccessOf one f) xs → All (IsAccessOf other g) xs
access_as one other f g xs many same all k d less = let is = all k d less in record {
  there = subst (λ n. (slice_index_or xs k d).cube < n) many is.there;
  access = subst (λ s. IsAccess s (slice_index_or xs k d)) (same (slice_index_or xs k d).cube)
      is.access;
}

holds_as : (one other : ℕ) (f g : ℕ → ShapeFields) (state : State) → one ≡ other →
    ((c : ℕ) → f c ≡ g c) → Holds one f state → Holds other g state
holds_as one other f g state many same holds = record {
  many = holds.many ∙ many;
  cubes =
      holds.cubes;
  shapes = λ c. holds.shapes c ∙ same c;
}

many_is : (trace : Trace) (setup : Setup) → shapes_of setup.topology ≡ trace.cubes →
    length trace.cubes ≡ cubes_in setup.topology
many_is trace setup cubes =
    ap length (sym cubes)
    ∙ length-map setup.topology.cubes (λ (cube : CubeSetupFields). cube.shape)

shapes_are : (trace : Trace) (setup : Setup) → shapes_of setup.topology ≡ trace.cubes → (c : ℕ) →
    shape_at trace.cubes c ≡ shape_of setup.topology c
shapes_are trace setup cubes c =
    ap (λ l. slice_index_or l c no_shape) (sym cubes) ∙ sym (shape_map setup.topology.cubes c)

-- each request of the script is an access
pub plain_script : (trace : Trace) (setup : Setup) → IsTrace trace →
    shapes_of setup.topology ≡ trace.cubes → setup.script ≡ script_of trace →
    All (IsPlainItem 0 (cubes_in setup.topology) (shape_of setup.topology)) setup.script
plain_script trace setup is cubes script =
    let count = cubes_in setup.topology in
    let shape = shape_of setup.topology in
    let requests = requests_all trace.accesses in
    subst (All (IsPlainItem 0 count shape)) (sym (script ∙ script_is trace))
    (plain_items count shape requests
    (access_as (length trace.cubes) count (shape_at trace.cubes) shape requests
    (many_is trace setup cubes) (shapes_are trace setup cubes)
    (valid_all trace.cubes trace.accesses (are_cubes trace is) is.accesses)))

-- an answer that a journal gives is the one that the machine gives
pub serial_answer : (trace : Trace) (setup : Setup) (past : List Entry) → IsTrace trace →
    IsNetwork setup → Lawful setup past → shapes_of setup.topology ≡ trace.cubes →
    setup.script ≡ script_of trace → (n : ℕ) (answer : Answer) →
    answer_of past n ≡ Some answer →
    slice_get (answers_to (opening_state trace.cubes setup.slots) (requests_all trace.accesses))
    n ≡ Some answer
unfolding answer_of
serial_answer trace setup past is network lawful cubes script n answer taken =
    by_tag (slice_get (tags_given 0 past) n) refl taken
  where
    t : Topology
    t = setup.topology

    count : ℕ
    count = cubes_in t

    requests : List RequestFields
    requests = requests_all trace.accesses

    items : setup.script ≡ map item_of requests
    items = script ∙ script_is trace

    plain : All (IsPlainItem 0 count (shape_of t)) setup.script
    plain = plain_script trace setup is cubes script

    opening : State
    opening = opening_state trace.cubes setup.slots

    opens : opening_of setup ≡ opening
    opens = ap (λ l. opening_state l setup.slots) cubes

    holds : Holds count (shape_of t) (opening_of setup)
    holds = subst (Holds count (shape_of t)) (sym opens) (holds_as (length trace.cubes) count
        (shape_at trace.cubes) (shape_of t) opening
        (many_is trace setup cubes) (shapes_are trace setup cubes)
        (Holds-opening trace.cubes setup.slots is.shapes is.few_cubes))

    zeroes : IsZero (opening_of setup)
    zeroes = subst IsZero (sym opens) (zero-opening trace.cubes setup.slots)

    given : GivenOf 0 count (shape_of t) past
    given = given_plain setup 0 count (shape_of t) plain past lawful

    all : List TaggedRequest
    all = given_all past

    replies : List (Reply TaggedRequest)
    replies = replies_by ask_of (opening_of setup) all

    asked : IsPrefix (map ask_of all) requests
    asked =
        let prefix = (is_scripted setup past lawful).given 0 in (
          map (λ (g : ScriptRequest). g.request) prefix.0,
          sym (own_items requests) ∙ ap (λ s. map (λ (g : ScriptRequest). g.request)
              (map said (of_host 0 s))) (sym items)
              ∙ ap (map (λ (g : ScriptRequest). g.request)) prefix.1
              ∙ map-append (λ (g : ScriptRequest). g.request) (given_by 0 past) prefix.0
              ∙ ap (λ l. l ++ map (λ (g : ScriptRequest). g.request) prefix.0)
              (given_requests count (shape_of t) past given),
        )

    answered : IsPrefix (map (λ (r : Reply TaggedRequest). r.answer) replies)
        (answers_to opening requests)
    answered =
        let more = answers_to (state_by own opening (map ask_of all)) asked.0 in (
          more,
          ap (answers_to opening) asked.1 ∙ answers-append opening (map ask_of all) asked.0
              ∙ ap (λ l. l ++ more) (sym (ap (λ s. map (λ (r : Reply TaggedRequest). r.answer)
              (replies_by ask_of s all)) opens ∙ answers_are opening all)),
        )

    under : (tag : ℕ) → slice_get (tags_given 0 past) n ≡ Some (Some tag) →
        answer_under past n (Some tag) ≡ Some answer → slice_get (answers_to opening requests) n
        ≡ Some answer
    under tag at gave =
        let tags = tags_are count (shape_of t) past given in
        let has = has_reply (opening_of setup) all n (Some tag) (ap (λ l. slice_get l n) (sym tags)
        ∙ at) in
        let passes : of_reply (under_tag tag) has.reply ≡ true = ap (λ o. same_tag o tag) has.tag_is
        ∙ eq-eqb tag tag refl in
        let place = length (filter (of_reply (under_tag tag)) (take n replies)) in
        let nth = nth_filter (of_reply (under_tag tag)) replies n has.reply has.at passes in
        let index : length (filter (λ other. same_tag other tag) (take n (tags_given 0 past)))
        ≡ place = ap (λ l. length (filter (λ other. same_tag other tag) (take n l))) tags
        ∙ count_tags (opening_of setup) all n tag in
        let law = journal_answers setup 0 past network lawful plain holds zeroes tag in
        let from_law = get_prefix (answers_under 0 tag past)
        (map (λ (r : Reply TaggedRequest). r.answer)
        (filter (of_reply (under_tag tag)) replies)) place answer law
        (ap (slice_get (answers_under 0 tag past)) (sym index) ∙ gave) in
        let from_reply = get_map (λ (r : Reply TaggedRequest). r.answer)
        (filter (of_reply (under_tag tag)) replies) place has.reply nth in
        let same : has.reply.answer ≡ answer = some_is has.reply.answer answer (sym from_reply
        ∙ from_law) in
        get_prefix (map (λ (r : Reply TaggedRequest). r.answer) replies)
        (answers_to opening requests) n answer answered
        (get_map (λ (r : Reply TaggedRequest). r.answer) replies n has.reply has.at
        ∙ ap Some same)
      where
        some_is : (x y : Answer) → ◌≡◌ {A = Option Answer} (Some x) (Some y) → x ≡ y
        some_is x y is = cc

    by_tag : (found : Option (Option ℕ)) → slice_get (tags_given 0 past) n ≡ found →
        option_and_then (answer_under past n) found ≡ Some answer →
        slice_get (answers_to opening requests) n ≡ Some answer
    by_tag None at gave = absurd (cc)
    by_tag (Some None) at gave = absurd (cc)
    by_tag (Some (Some tag)) at gave = under tag at gave

-- ---- more answers give more values

bytes_more : (f g : ℕ → Option Answer) (script : List ItemFields) (n : ℕ) (bytes : List ℕ) →
    ((k : ℕ) (answer : Answer) → f k ≡ Some answer → g k ≡ Some answer) →
    bytes_at f script n ≡ Some bytes → bytes_at g script n ≡ Some bytes
bytes_more f g script n bytes more is = by_item (slice_get script n) is
  where
    by_answer : (item : ItemFields) (found : Option Answer) → f n ≡ found →
        option_and_then (read_bytes (size_of item)) found ≡ Some bytes →
        option_and_then (read_bytes (size_of item)) (g n) ≡ Some bytes
    by_answer item None at is = absurd (cc)
    by_answer item (Some answer) at is = ap (option_and_then (read_bytes (size_of item)))
        (more n answer at) ∙ is

    by_item : (found : Option ItemFields) →
        option_and_then (λ item. option_and_then (read_bytes (size_of item)) (f n)) found
        ≡ Some bytes → option_and_then (λ item. option_and_then (read_bytes (size_of item)) (g n))
        found ≡ Some bytes
    by_item None is = absurd (cc)
    by_item (Some item) is = by_answer item (f n) refl is

joined_more : (f g : ℕ → Option Answer) (script : List ItemFields) (n count : ℕ) (bytes : List ℕ) →
    ((k : ℕ) (answer : Answer) → f k ≡ Some answer → g k ≡ Some answer) →
    joined f script n count ≡ Some bytes → joined g script n count ≡ Some bytes
unfolding joined
joined_more f g script n zero bytes more is = is
joined_more f g script n (suc count) bytes more is =
    by_first (joined f script (n + 1) count) (joined g script (n + 1) count) (bytes_at f script n)
    (bytes_at g script n) (λ rest at. joined_more f g script (n + 1) count rest more at)
    (λ first at. bytes_more f g script n first more at) is
  where
    by_first : (rest_f rest_g first_f first_g : Option (List ℕ)) →
        ((rest : List ℕ) → rest_f ≡ Some rest → rest_g ≡ Some rest) →
        ((first : List ℕ) → first_f ≡ Some first → first_g ≡ Some first)
        → option_and_then (λ b. option_map (λ l. b ++ l) rest_f) first_f ≡ Some bytes →
        option_and_then (λ b. option_map (λ l. b ++ l) rest_g) first_g ≡ Some bytes
    by_first rest_f rest_g None first_g rests firsts is = absurd (cc)
    by_first None rest_g (Some first) first_g rests firsts is = absurd (cc)
    by_first (Some rest) rest_g (Some first) first_g rests firsts is =
        ap (option_and_then (λ b. option_map (λ l. b ++ l) rest_g)) (firsts first refl)
        ∙ ap (option_map (λ l. first ++ l)) (rests rest refl) ∙ is

pub value_more : (f g : ℕ → Option Answer) (script : List ItemFields) (load : Load) (bytes : List ℕ)
    → ((k : ℕ) (answer : Answer) → f k ≡ Some answer → g k ≡ Some answer) →
    load_value f script load ≡ Some bytes → load_value g script load ≡ Some bytes
unfolding load_value
value_more f g script load bytes more is = by_joined (joined f script load.first load.count) refl is
  where
    by_joined : (found : Option (List ℕ)) → joined f script load.first load.count ≡ found →
        option_map (cut load) found ≡ Some bytes →
        option_map (cut load) (joined g script load.first load.count) ≡ Some bytes
    by_joined None at is = absurd (cc)
    by_joined (Some all) at is =
        ap (option_map (cut load)) (joined_more f g script load.first load.count all more at) ∙ is

pub values_are_loaded : ValuesAreLoaded
unfolding compiled_of
values_are_loaded trace setup past is network lawful cubes script i load bytes at value =
    let taken = answers_to (opening_state trace.cubes setup.slots) (requests_all trace.accesses) in
    let serial = serial_answer trace setup past is network lawful cubes script in
    let known = value_more (answer_of past) (slice_get taken) (script_of trace) load bytes serial
    value in
    let all = (performed_all trace setup.slots is).values in
    get_some (loaded trace) i bytes
    (ap (λ l. slice_get l i) (sym all) ∙ get_map (load_value (slice_get taken) (script_of trace))
    (compiled_of trace).loads i load at ∙ ap Some known)
