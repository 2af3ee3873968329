-- The answers that a host takes are those of its script, run in the order of the script.
use Rattle.std.proofs.Common.{◌≡◌, ◌∙◌, ◌+◌, ◌==◌, ◌&&◌, ℕ, Bool, true, false, not, List, [], ◌∷◌, ◌++◌, Option, Some, None, refl, sym, ap, subst}
use Rattle.std.specs.Prelude.{if◌then◌else◌, map, filter}
use Rattle.std.specs.List.{All}
use Rattle.std.proofs.lemmas.Bool.{eq-eqb, eqb-true}
use Rattle.std.proofs.lemmas.List.{append_assoc, map-append, append-nil}
use Rattle.std.proofs.lemmas.List.Elements.{All-push, All-nil, filter-append}
use Rattle.hmc_codes.specs.Request.{RequestFields}
use Rattle.hmc_codes.specs.Shape.{ShapeFields}
use Rattle.hmc_codes.specs.declared.unit.Unit.{Unit as RequestUnit}
use Rattle.hmc_journal.specs.Carried.{requests_waiting}
use Rattle.hmc_journal.specs.Choice.{append_if}
use Rattle.hmc_entries.specs.declared.entry.Entry.{Entry}
use Rattle.hmc_entries.specs.declared.entry.Entry.TheVariants.{Gave, Executed, Retired}
use Rattle.hmc_journal.specs.Delivered.{IsPrefix}
use Rattle.hmc_journal.specs.Filters.{TaggedRequest, Completion, same_unit, same_tag, given_to, executed_by, asked_under, replies_under, answers_under}
use Rattle.hmc_journal.specs.Lawful.{Lawful}
use Rattle.hmc_journal.specs.Network.{IsNetwork}
use Rattle.hmc_journal.specs.Serial.{state_after, IsSerial}
use Rattle.hmc_journal.specs.Setup.{Setup, Topology, shape_of, cubes_in}
use Rattle.hmc_journal.specs.StepView.{opening_of}
use Rattle.hmc_laws.proofs.Serial.{is_serial}
use Rattle.hmc_delivery.proofs.Delivering.{delivered_in_order}
use Rattle.hmc_serial.specs.Machine.{State, apply, answer_to, retire}
use Rattle.hmc_serial.specs.Actions.{action_of}
use Rattle.hmc_serial.specs.Unit.{unit_of}
use Rattle.hmc_accesses.proofs.Order.{HasTag, IsClassed}
use Rattle.hmc_accesses.proofs.Access.{IsAccessOf, Holds, Holds-apply, apply_bytes, touched, byte_in, answer_is}
use Rattle.hmc_accesses.proofs.Replies.{state_by, replies_by, Reply, Accesses, in_unit_by, of_reply, IsZero, replies_kept, state_by-append, expected_at, prefix_map}
use Rattle.hmc_accesses.proofs.PlainRequests.{IsPlainItem, given_all, done_all, GivenOf, DoneOf, given_plain, done_plain}

-- ---- the filters of a journal, as filters of these lists

add_mapped : {X Y : Type 0} (p : X → Bool) (f : X → Y) (x : X) (all : List X) (list : List Y)
    (b c : Bool) → b ≡ c → p x ≡ c → list ≡ map f (filter p all) →
    append_if b (f x ∷ []) list ≡ map f (filter p (all ++ x ∷ []))
add_mapped p f x all list b true is kept same =
    ap (λ t. append_if t (f x ∷ []) list) is ∙ ap (λ l. l ++ f x ∷ []) same
    ∙ sym (ap (map f) (filter-append p all (x ∷ [])
    ∙ ap (λ t. filter p all ++ (if t then x ∷ [] else [])) kept)
    ∙ map-append f (filter p all) (x ∷ []))
add_mapped p f x all list b false is kept same =
    ap (λ t. append_if t (f x ∷ []) list) is ∙ same
    ∙ sym (ap (map f) (filter-append p all (x ∷ [])
    ∙ ap (λ t. filter p all ++ (if t then x ∷ [] else [])) kept ∙ append-nil (filter p all)))

add_kept : {X : Type 0} (p : X → Bool) (x : X) (all list : List X) (b c : Bool) → b ≡ c → p x ≡ c →
    list ≡ filter p all → append_if b (x ∷ []) list ≡ filter p (all ++ x ∷ [])
add_kept p x all list b true is kept same =
    ap (λ t. append_if t (x ∷ []) list) is ∙ ap (λ l. l ++ x ∷ []) same
    ∙ sym (filter-append p all (x ∷ []) ∙ ap (λ t. filter p all ++ (if t then x ∷ [] else []))
    kept)
add_kept p x all list b false is kept same =
    ap (λ t. append_if t (x ∷ []) list) is ∙ same ∙ sym (filter-append p all (x ∷ [])
    ∙ ap (λ t. filter p all ++ (if t then x ∷ [] else [])) kept ∙ append-nil (filter p all))

-- the request of what is tagged
abbrev pub ask_of : TaggedRequest → RequestFields
ask_of x = x.request

-- it has this tag
abbrev pub under_tag : ℕ → TaggedRequest → Bool
under_tag t x = same_tag x.tag t

given_units : (topology : Topology) (host count : ℕ) (unit : RequestUnit) (past : List Entry) →
    GivenOf host count (shape_of topology) past →
    given_to topology host unit past ≡ filter (in_unit_by ask_of (shape_of topology) unit)
    (given_all past)
unfolding given_to
given_units topology host count unit [] given = refl
given_units topology host count unit (Gave giver tag poisoned request ∷ past) given =
    let s = same_unit (unit_of (shape_of topology request.cube) request) unit in
    add_kept (in_unit_by ask_of (shape_of topology) unit) (record { tag = tag; request = request })
    (given_all past) (given_to topology host unit past)
    ((giver == host) && (not poisoned && s)) s
    (ap (λ b. b && (not poisoned && s)) (eq-eqb giver host given.0.0)
    ∙ ap (λ b. not b && s) given.0.1) refl
    (given_units topology host count unit past given.1)
given_units topology host count unit (entry ∷ past) given =
    given_units topology host count unit past given

done_units : (topology : Topology) (host count : ℕ) (unit : RequestUnit) (past : List Entry) →
    DoneOf host count (shape_of topology) past →
    executed_by host unit past ≡ filter (in_unit_by ask_of (shape_of topology) unit) (done_all past)
unfolding executed_by
done_units topology host count unit [] done = refl
done_units topology host count unit (Executed here giver tag request answer ∷ past) done =
    let s = same_unit (unit_of (shape_of topology request.cube) request) unit in
    add_kept (in_unit_by ask_of (shape_of topology) unit) (record { tag = tag; request = request })
    (done_all past) (executed_by host unit past)
    ((giver == host) && same_unit here unit) s
    (ap (λ b. b && same_unit here unit) (eq-eqb giver host done.0.giver_is)
    ∙ ap (λ u. same_unit u unit) done.0.unit_is) refl
    (done_units topology host count unit past done.1)
done_units topology host count unit (entry ∷ past) done =
    done_units topology host count unit past done

given_tags : (host count tag : ℕ) (shape_at : ℕ → ShapeFields) (past : List Entry) →
    GivenOf host count shape_at past →
    asked_under host tag past ≡ map ask_of (filter (under_tag tag) (given_all past))
unfolding asked_under
given_tags host count t shape_at [] given = refl
given_tags host count t shape_at (Gave giver tag poisoned request ∷ past) given =
    add_mapped (under_tag t) ask_of (record { tag = tag; request = request }) (given_all past)
    (asked_under host t past)
    ((giver == host) && same_tag tag t) (same_tag tag t)
    (ap (λ b. b && same_tag tag t) (eq-eqb giver host given.0.0)) refl
    (given_tags host count t shape_at past given.1)
given_tags host count t shape_at (entry ∷ past) given = given_tags host count t shape_at past given

-- ---- answers

-- two machines of the same cubes with the same bytes
record Agree (count : ℕ) (shape_at : ℕ → ShapeFields) (one other : State) : Type 0 where
  one_holds : Holds count shape_at one
  other_holds : Holds count shape_at other
  bytes : (c a : ℕ) → byte_in one c a ≡ byte_in other c a

agree_apply : (count : ℕ) (shape_at : ℕ → ShapeFields) (one other : State) (request : RequestFields)
    → IsAccessOf count shape_at request → Agree count shape_at one other →
    Agree count shape_at (apply one request) (apply other request)
agree_apply count shape_at one other request of agree = record {
  one_holds = Holds-apply count shape_at one request agree.one_holds of;
  other_holds = Holds-apply count shape_at other request agree.other_holds of;
  bytes = λ c a. apply_bytes count shape_at one request agree.one_holds of c a
      ∙ ap (touched request c a) (agree.bytes c a)
      ∙ sym (apply_bytes count shape_at other request agree.other_holds of c a);
}

agree_retire : (count : ℕ) (shape_at : ℕ → ShapeFields) (one other : State) (slot : ℕ) →
    Agree count shape_at one other → Agree count shape_at (retire one slot) other
unfolding retire
agree_retire count shape_at one other slot agree = record {
  one_holds = record {
    many = agree.one_holds.many;
    cubes = agree.one_holds.cubes;
    shapes =
        agree.one_holds.shapes;
  };
  other_holds = agree.other_holds;
  bytes = agree.bytes;
}

agree_answer : (count : ℕ) (shape_at : ℕ → ShapeFields) (one other : State)
    (request : RequestFields) → IsAccessOf count shape_at request → Agree count shape_at one other →
    answer_to one request ≡ answer_to other request
agree_answer count shape_at one other request of agree =
    answer_is count shape_at one request agree.one_holds of
    ∙ expected_at (action_of request.command) of.access.action request
    (λ k. byte_in one request.cube (request.address + k)) (λ k. byte_in other request.cube
    (request.address + k)) of.access.asks
    (λ k less. agree.bytes request.cube (request.address + k))
    ∙ sym (answer_is count shape_at other request agree.other_holds of)

agree_after : (host count : ℕ) (shape_at : ℕ → ShapeFields) (opening : State) →
    Holds count shape_at opening → (past : List Entry) → DoneOf host count shape_at past →
    Agree count shape_at (state_after opening past) (state_by ask_of opening (done_all past))
unfolding state_after
agree_after host count shape_at opening holds [] done = record {
  one_holds = holds;
  other_holds =
      holds;
  bytes = λ c a. refl;
}
agree_after host count shape_at opening holds (Executed unit giver tag request answer ∷ past) done =
    subst (Agree count shape_at (apply (state_after opening past) request))
    (sym (state_by-append ask_of opening (done_all past) (record {
      tag = tag;
      request =
          request;
    } ∷ [])))
    (agree_apply count shape_at (state_after opening past) (state_by ask_of opening (done_all past))
    request done.0.access (agree_after host count shape_at opening holds past done.1))
agree_after host count shape_at opening holds (Retired slot ∷ past) done =
    agree_retire count shape_at (state_after opening past) (state_by ask_of opening (done_all past))
    slot (agree_after host count shape_at opening holds past done)
agree_after host count shape_at opening holds (entry ∷ past) done =
    agree_after host count shape_at opening holds past done

-- what a reply completes
abbrev completion_of : Reply TaggedRequest → Completion
completion_of reply = record { request = reply.item.request; answer = reply.answer }

replies_more : {X : Type 0} (ask : X → RequestFields) (state : State) (xs : List X) (x : X) →
    replies_by ask state (xs ++ x ∷ []) ≡ replies_by ask state xs ++ record {
      item = x;
      answer =
          answer_to (state_by ask state xs) (ask x);
    } ∷ []
replies_more ask state [] x = refl
replies_more ask state (y ∷ xs) x =
    ap (λ l. (record { item = y; answer = answer_to state (ask y) }) ∷ l)
    (replies_more ask (apply state (ask y)) xs x)

done_replies : (host count t : ℕ) (shape_at : ℕ → ShapeFields) (opening : State) →
    Holds count shape_at opening → (past : List Entry) → DoneOf host count shape_at past →
    IsSerial opening past →
    replies_under host t past ≡ map completion_of (filter (of_reply (under_tag t))
    (replies_by ask_of opening (done_all past)))
unfolding replies_under IsSerial
done_replies host count t shape_at opening holds [] done serial = refl
done_replies host count t shape_at opening holds (Executed unit giver tag request answer ∷ past)
    done serial =
    let x : TaggedRequest = record { tag = tag; request = request } in
    let before = state_by ask_of opening (done_all past) in
    let agree = agree_after host count shape_at opening holds past done.1 in
    let same_value : answer ≡ answer_to before request = serial.0
    ∙ agree_answer count shape_at (state_after opening past) before request done.0.access agree
    in
    let reply : Reply TaggedRequest = record { item = x; answer = answer } in
    let added = add_mapped (of_reply (under_tag t)) completion_of reply
    (replies_by ask_of opening (done_all past)) (replies_under host t past)
    ((giver == host) && same_tag tag t) (same_tag tag t)
    (ap (λ b. b && same_tag tag t) (eq-eqb giver host done.0.giver_is)) refl
    (done_replies host count t shape_at opening holds past done.1 serial.1) in
    added
    ∙ ap (λ a. map completion_of (filter (of_reply (under_tag t))
    (replies_by ask_of opening (done_all past) ++ record { item = x; answer = a } ∷ []))) same_value
    ∙ ap (λ l. map completion_of (filter (of_reply (under_tag t)) l))
    (sym (replies_more ask_of opening (done_all past) x))
done_replies host count t shape_at opening holds (entry ∷ past) done serial =
    done_replies host count t shape_at opening holds past done serial

-- the things of the replies are the things
replies_items : {X : Type 0} (ask : X → RequestFields) (p : X → Bool) (state : State) (xs : List X)
    → map (λ r. r.item) (filter (of_reply p) (replies_by ask state xs)) ≡ filter p xs
replies_items ask p state [] = refl
replies_items {X = X} ask p state (x ∷ xs) =
    let reply : Reply X = record { item = x; answer = answer_to state (ask x) } in
    let more = replies_items ask p (apply state (ask x)) xs in
    elim (p x) as (λ b. map (λ (r : Reply X). r.item) (if b then reply ∷ filter (of_reply p)
    (replies_by ask (apply state (ask x)) xs) else filter (of_reply p)
    (replies_by ask (apply state (ask x)) xs)) ≡ (if b then x ∷ filter p xs else filter p xs)) [
      | true ↦ ap (λ l. x ∷ l) more
      | false ↦ more
    ]

map_twice : {X Y Z : Type 0} (f : X → Y) (g : Y → Z) (xs : List X) →
    map g (map f xs) ≡ map (λ x. g (f x)) xs
map_twice f g [] = refl
map_twice f g (x ∷ xs) = ap (λ l. g (f x) ∷ l) (map_twice f g xs)

-- under one tag a request says all
retag : ℕ → RequestFields → TaggedRequest
retag t request = record { tag = Some t; request = request }

retag_one : (tag : Option ℕ) (t : ℕ) (request : RequestFields) → same_tag tag t ≡ true →
    ◌≡◌ {A = TaggedRequest} (record { tag = Some t; request = request })
    (record { tag = tag; request = request })
retag_one None t request is = absurd (cc)
retag_one (Some s) t request is = let again : ℕ → TaggedRequest =
    λ n. record { tag = Some n; request = request } in ap again (sym (eqb-true s t is))

retagged : (t : ℕ) (xs : List TaggedRequest) → map (retag t) (map ask_of (filter (under_tag t) xs))
    ≡ filter (under_tag t) xs
unfolding retag
retagged t [] = refl
retagged t (x ∷ xs) =
    let more = retagged t xs in
    (elim (same_tag x.tag t) as (λ b. same_tag x.tag t ≡ b →
    map (retag t) (map ask_of (if b then x ∷ filter (under_tag t) xs else filter (under_tag t)
    xs)) ≡ (if b then x ∷ filter (under_tag t) xs else filter (under_tag t) xs)) [
      | true ↦ λ is. ap (λ (y : TaggedRequest). y ∷ map (retag t)
          (map ask_of (filter (under_tag t) xs))) (retag_one x.tag t x.request is)
          ∙ ap (λ l. x ∷ l) more
      | false ↦ λ is. more
    ]) refl

tags_classed : IsClassed under_tag
tags_classed c d x is_c is_d = one_tag x.tag c d is_c is_d
  where
    one_tag : (tag : Option ℕ) (c d : ℕ) → same_tag tag c ≡ true → same_tag tag d ≡ true → c ≡ d
    one_tag None c d is_c is_d = absurd (cc)
    one_tag (Some s) c d is_c is_d = sym (eqb-true s c is_c) ∙ eqb-true s d is_d

all_given : (host count : ℕ) (shape_at : ℕ → ShapeFields) (past : List Entry) →
    GivenOf host count shape_at past → All (Accesses ask_of count shape_at) (given_all past)
all_given host count shape_at [] given = All-nil (Accesses ask_of count shape_at)
all_given host count shape_at (Gave giver tag poisoned request ∷ past) given =
    All-push (Accesses ask_of count shape_at) (given_all past) (record {
      tag = tag;
      request =
          request;
    }) (all_given host count shape_at past given.1) given.0.2
all_given host count shape_at (entry ∷ past) given = all_given host count shape_at past given

all_done : (host count : ℕ) (shape_at : ℕ → ShapeFields) (past : List Entry) →
    DoneOf host count shape_at past → All (Accesses ask_of count shape_at) (done_all past)
all_done host count shape_at [] done = All-nil (Accesses ask_of count shape_at)
all_done host count shape_at (Executed unit giver tag request answer ∷ past) done =
    All-push (Accesses ask_of count shape_at) (done_all past) (record {
      tag = tag;
      request =
          request;
    }) (all_done host count shape_at past done.1) done.0.access
all_done host count shape_at (entry ∷ past) done = all_done host count shape_at past done

all_tagged : (host count : ℕ) (shape_at : ℕ → ShapeFields) (past : List Entry) →
    DoneOf host count shape_at past → All (HasTag under_tag) (done_all past)
all_tagged host count shape_at [] done = All-nil (HasTag under_tag)
all_tagged host count shape_at (Executed unit giver tag request answer ∷ past) done =
    All-push (HasTag under_tag) (done_all past) (record { tag = tag; request = request })
    (all_tagged host count shape_at past done.1) done.0.tagged
all_tagged host count shape_at (entry ∷ past) done = all_tagged host count shape_at past done

prefix_trans : {X : Type 0} (xs ys zs : List X) → IsPrefix xs ys → IsPrefix ys zs → IsPrefix xs zs
prefix_trans xs ys zs one two = (
  one.0 ++ two.0,
  two.1 ∙ ap (λ l. l ++ two.0) one.1
      ∙ append_assoc xs one.0 two.0,
)

prefix_same : {X : Type 0} (xs xs' ys ys' : List X) → xs ≡ xs' → ys ≡ ys' → IsPrefix xs ys →
    IsPrefix xs' ys'
prefix_same xs xs' ys ys' one two prefix =
    (prefix.0, sym two ∙ prefix.1 ∙ ap (λ l. l ++ prefix.0) one)

-- the replies to what was executed under a tag are a prefix of those to what was given
journal_replies : (setup : Setup) (host : ℕ) (past : List Entry) → IsNetwork setup →
    Lawful setup past → All (IsPlainItem host (cubes_in setup.topology) (shape_of setup.topology))
    setup.script
    → Holds (cubes_in setup.topology) (shape_of setup.topology) (opening_of setup) →
    IsZero (opening_of setup) → (t : ℕ)
    → IsPrefix (filter (of_reply (under_tag t)) (replies_by ask_of (opening_of setup)
    (done_all past))) (filter (of_reply (under_tag t)) (replies_by ask_of (opening_of setup)
    (given_all past)))
journal_replies setup host past network lawful plain holds zero t =
    let count = cubes_in setup.topology in
    let shape_at = shape_of setup.topology in
    let given = given_plain setup host count shape_at plain past lawful in
    let done = done_plain setup host network plain past lawful in
    let delivered = delivered_in_order setup past network lawful in
    let by_unit : (u : RequestUnit) →
    IsPrefix (filter (in_unit_by ask_of shape_at u) (done_all past))
    (filter (in_unit_by ask_of shape_at u) (given_all past)) =
    λ u. (
      requests_waiting setup.topology host u past,
      sym (given_units setup.topology host count u past given) ∙ delivered.requests_kept host u
          ∙ ap (λ l. l ++ requests_waiting setup.topology host u past)
          (done_units setup.topology host count u past done),
    ) in
    let by_tag : (s : ℕ) → IsPrefix (filter (under_tag s) (done_all past))
    (filter (under_tag s) (given_all past)) =
    λ s.
    let same_value : map (λ (c : Completion). c.request) (replies_under host s past) ≡ map ask_of
    (filter (under_tag s) (done_all past)) =
    ap (map (λ (c : Completion). c.request)) (done_replies host count s shape_at (opening_of setup)
    holds past done (is_serial setup past lawful))
    ∙ map_twice completion_of (λ (c : Completion). c.request) (filter (of_reply (under_tag s))
    (replies_by ask_of (opening_of setup) (done_all past)))
    ∙ sym (map_twice (λ (r : Reply TaggedRequest). r.item) ask_of (filter (of_reply (under_tag s))
    (replies_by ask_of (opening_of setup) (done_all past))))
    ∙ ap (map ask_of) (replies_items ask_of (under_tag s) (opening_of setup) (done_all past)) in
    prefix_same (map (retag s) (map ask_of (filter (under_tag s) (done_all past))))
    (filter (under_tag s) (done_all past))
    (map (retag s) (map ask_of (filter (under_tag s) (given_all past))))
    (filter (under_tag s) (given_all past))
    (retagged s (done_all past)) (retagged s (given_all past))
    (prefix_map (retag s) (map ask_of (filter (under_tag s) (done_all past)))
    (map ask_of (filter (under_tag s) (given_all past)))
    (prefix_same (map (λ (c : Completion). c.request) (replies_under host s past))
    (map ask_of (filter (under_tag s) (done_all past))) (asked_under host s past)
    (map ask_of (filter (under_tag s) (given_all past)))
    same_value (given_tags host count s shape_at past given) (delivered.replied host s))) in
    replies_kept ask_of count shape_at under_tag (opening_of setup) (given_all past) (done_all past)
    holds zero (all_given host count shape_at past given)
    (all_done host count shape_at past done) (all_tagged host count shape_at past done)
    tags_classed by_unit by_tag t

-- Under each tag, the answers that the host took are those of all that it gave, run in order on a
-- plain machine, as far as they came.
pub journal_answers : (setup : Setup) (host : ℕ) (past : List Entry) → IsNetwork setup →
    Lawful setup past → All (IsPlainItem host (cubes_in setup.topology) (shape_of setup.topology))
    setup.script
    → Holds (cubes_in setup.topology) (shape_of setup.topology) (opening_of setup) →
    IsZero (opening_of setup) → (t : ℕ)
    → IsPrefix (answers_under host t past) (map (λ (r : Reply TaggedRequest). r.answer)
    (filter (of_reply (under_tag t)) (replies_by ask_of (opening_of setup) (given_all past))))
journal_answers setup host past network lawful plain holds zero t =
    let count = cubes_in setup.topology in
    let shape_at = shape_of setup.topology in
    let done = done_plain setup host network plain past lawful in
    let delivered = delivered_in_order setup past network lawful in
    let done_list = filter (of_reply (under_tag t)) (replies_by ask_of (opening_of setup)
    (done_all past)) in
    let given_list = filter (of_reply (under_tag t)) (replies_by ask_of (opening_of setup)
    (given_all past)) in
    let same_value : map (λ (c : Completion). c.answer) (replies_under host t past)
    ≡ map (λ (r : Reply TaggedRequest). r.answer) done_list =
    ap (map (λ (c : Completion). c.answer)) (done_replies host count t shape_at (opening_of setup)
    holds past done (is_serial setup past lawful))
    ∙ map_twice completion_of (λ (c : Completion). c.answer) done_list in
    prefix_trans (answers_under host t past) (map (λ (r : Reply TaggedRequest). r.answer) done_list)
    (map (λ (r : Reply TaggedRequest). r.answer) given_list)
    (prefix_same (answers_under host t past) (answers_under host t past)
    (map (λ (c : Completion). c.answer) (replies_under host t past))
    (map (λ (r : Reply TaggedRequest). r.answer) done_list) refl same_value
    (delivered.answered host t))
    (prefix_map (λ (r : Reply TaggedRequest). r.answer) done_list given_list
    (journal_replies setup host past network lawful plain holds zero t))
