-- The walk goes to the end of a journal exactly where the journal explains what hosts see of it.
use Rattle.std.proofs.Common.{◌≡◌, ◌∙◌, ◌<◌, ◌≤◌, ℕ, zero, suc, Bool, true, false, Option, Some, None, List, [], ◌∷◌, ◌++◌, length, map, nat_lt, refl, sym, ap, subst, arith}
use Rattle.std.specs.Prelude.{◌==◌, ◌&&◌, ◌||◌, slice_set}
use Rattle.std.specs.Str.{bytes_eq}
use Rattle.std.proofs.lemmas.Bool.{eq-eqb, eqb-true, and_parts, lt-ltb, ltb-true}
use Rattle.std.proofs.lemmas.List.{append-nil, length-map, length-set}
use Rattle.std.proofs.lemmas.Slice.Eq.{bytes_eq-Decides}
use Rattle.hmc_codes.specs.Codes.{command_of}
use Rattle.hmc_codes.specs.Commands.{code_of}
use Rattle.hmc_codes.specs.Request.{RequestFields}
use Rattle.hmc_codes.specs.declared.answer.Answer.{Answer}
use Rattle.hmc_codes.specs.declared.command.Command.{Command}
use Rattle.hmc_codes.specs.declared.unit.Unit.{Unit as RequestUnit}
use Rattle.hmc_codes.proofs.Codes.{command_of-code_of}
use Rattle.hmc_serial.specs.Machine.{State, apply, answer_to, cube_state_at, retire}
use Rattle.hmc_serial.specs.Perform.{perform_on}
use Rattle.hmc_entries.specs.declared.entry.Entry.{Entry}
use Rattle.hmc_entries.specs.declared.entry.Entry.TheVariants.{Gave, Took, Executed, Retired}
use Rattle.hmc_journal.specs.Delivered.{AllServed}
use Rattle.hmc_journal.specs.Filters.{Completion, answers_under, asked_under, executed_by, given_to, replies_under, same_unit, same_tag}
use Rattle.hmc_journal.specs.Serial.{IsSerial, state_after}
use Rattle.hmc_journal.specs.Setup.{Topology, unit_in}
use Rattle.hmc_seen.specs.Explained.{Explains}
use Rattle.hmc_search.specs.declared.waiting.Ready.{Ready}
use Rattle.hmc_search.specs.declared.waiting.Waiting.{Waiting}
use Rattle.hmc_search.specs.Kept.{same_answer, shares_tag}
use Rattle.hmc_search.specs.Point.{Point, start_at, in_lane, under_tag, ready_under, NonePasses, IsNext, IsTaken, given, executed}
use Rattle.hmc_search.specs.Standing.{Stands, front_if, picked, tagged}
use Rattle.hmc_search.proofs.Keeping.{answer_is, answer_self}
use Rattle.hmc_search.proofs.Picking.{picked_append}
use Rattle.hmc_search.proofs.Searching.{and_false, explains, gave, moments_more, moments_none, poisoned, ran, ready_is, retired, run, same_is, same_self, started, tag_is, take, took}
use Rattle.hmc_judge.specs.Explaining.{IsFit}
use Rattle.hmc_judge.specs.Picked.{Picked, first_out}
use Rattle.hmc_judge.specs.Walk.{gives, is_before, left_by, left_if, left_ready, left_waiting, performed, performed_if, ready_with, same_request, same_tags, same_waiting, some_if, step_from, taken_if, walk_step, walked}
use Rattle.hmc_judge.proofs.Firsts.{Between, between, the_first}

-- the same request
tags_are : (a b : Option ℕ) → same_tags a b ≡ true → a ≡ b
tags_are None None e = refl
tags_are (Some a) (Some b) e = ap Some (eqb-true a b e)
tags_are None (Some b) e = absurd (cc)
tags_are (Some a) None e = absurd (cc)

tags_self : (a : Option ℕ) → same_tags a a ≡ true
tags_self None = refl
tags_self (Some a) = eq-eqb a a refl

commands_are : (a b : Command) → code_of a ≡ code_of b → a ≡ b
commands_are a b e =
    let same : Some a ≡ Some b =
    sym (command_of-code_of a) ∙ ap command_of e ∙ command_of-code_of b in
    cc

request_is : (a b : RequestFields) → a.command ≡ b.command → a.cube ≡ b.cube →
    a.address ≡ b.address → a.payload ≡ b.payload → a ≡ b
request_is a b one two three four =
    ap (λ c. let made : RequestFields =
    record { command = c; cube = a.cube; address = a.address; payload = a.payload } in made) one
    ∙ ap (λ c. let made : RequestFields =
    record { command = b.command; cube = c; address = a.address; payload = a.payload } in made) two
    ∙ ap (λ c. let made : RequestFields =
    record { command = b.command; cube = b.cube; address = c; payload = a.payload } in made) three
    ∙ ap (λ c. let made : RequestFields =
    record { command = b.command; cube = b.cube; address = b.address; payload = c } in made) four

requests_are : (a b : RequestFields) → same_request a b ≡ true → a ≡ b
requests_are a b e =
    let one = and_parts (code_of a.command == code_of b.command)
    ((a.cube == b.cube) && ((a.address == b.address) && bytes_eq a.payload b.payload)) e in
    let two = and_parts (a.cube == b.cube)
    ((a.address == b.address) && bytes_eq a.payload b.payload) one.1 in
    let three = and_parts (a.address == b.address) (bytes_eq a.payload b.payload) two.1 in
    request_is a b
    (commands_are a.command b.command (eqb-true (code_of a.command) (code_of b.command) one.0))
    (eqb-true a.cube b.cube two.0) (eqb-true a.address b.address three.0)
    ((bytes_eq-Decides a.payload b.payload).0 three.1)

both : (a b : Bool) → a ≡ true → b ≡ true → (a && b) ≡ true
both a b one two = ap (λ x. x && b) one ∙ two

requests_self : (a : RequestFields) → same_request a a ≡ true
requests_self a =
    both (code_of a.command == code_of a.command)
    ((a.cube == a.cube) && ((a.address == a.address) && bytes_eq a.payload a.payload))
    (eq-eqb (code_of a.command) (code_of a.command) refl)
    (both (a.cube == a.cube) ((a.address == a.address) && bytes_eq a.payload a.payload)
    (eq-eqb a.cube a.cube refl)
    (both (a.address == a.address) (bytes_eq a.payload a.payload) (eq-eqb a.address a.address refl)
    ((bytes_eq-Decides a.payload a.payload).1 refl)))

waiting_is : (a b : Waiting) → a.host ≡ b.host → a.tag ≡ b.tag → a.request ≡ b.request → a ≡ b
waiting_is a b one two three =
    ap (λ x. let made : Waiting = record { host = x; tag = a.tag; request = a.request } in made) one
    ∙ ap (λ x. let made : Waiting = record { host = b.host; tag = x; request = a.request } in made)
    two
    ∙ ap (λ x. let made : Waiting = record { host = b.host; tag = b.tag; request = x } in made)
    three

pub waiting_are : (a b : Waiting) → same_waiting a b ≡ true → a ≡ b
waiting_are a b e =
    let one = and_parts (a.host == b.host)
    (same_tags a.tag b.tag && same_request a.request b.request) e in
    let two = and_parts (same_tags a.tag b.tag) (same_request a.request b.request) one.1 in
    waiting_is a b (eqb-true a.host b.host one.0) (tags_are a.tag b.tag two.0)
    (requests_are a.request b.request two.1)

waiting_self : (a : Waiting) → same_waiting a a ≡ true
waiting_self a =
    both (a.host == a.host) (same_tags a.tag a.tag && same_request a.request a.request)
    (eq-eqb a.host a.host refl)
    (both (same_tags a.tag a.tag) (same_request a.request a.request) (tags_self a.tag)
    (requests_self a.request))

-- what holds of a value that is there where a test holds
pub some_is : {X : Type 0} (b : Bool) (x y : X) → some_if b x ≡ Some y → (b ≡ true) × (x ≡ y)
some_is true x y e = (refl, cc)
some_is false x y e = absurd (cc)

or_parts : (a b : Bool) → (a || b) ≡ false → (a ≡ false) × (b ≡ false)
or_parts true b e = absurd (cc)
or_parts false b e = (refl, e)

module _ (topology : Topology) where
  -- what comes before a request
  lane_free : (w : Waiting) (before : List Waiting) → NonePasses (is_before topology w) before →
      NonePasses (in_lane topology w.host (unit_in topology w.request)) before
  lane_free w [] n = tt
  lane_free w (b ∷ before) n = (
    (or_parts (in_lane topology w.host (unit_in topology w.request) b)
        (shares_tag w.host w.tag b) n.0).0,
    lane_free w before n.1,
  )

  tag_free : (w : Waiting) (before : List Waiting) → NonePasses (is_before topology w) before →
      (t : ℕ) → w.tag ≡ Some t → NonePasses (under_tag w.host t) before
  tag_free w [] n t is = tt
  tag_free w (b ∷ before) n t is = (
    ap (λ g. shares_tag w.host g b) (sym is)
        ∙ (or_parts (in_lane topology w.host (unit_in topology w.request) b)
        (shares_tag w.host w.tag b) n.0).1,
    tag_free w before n.1 t is,
  )

  not_shared : (w b : Waiting) (g : Option ℕ) → w.tag ≡ g →
      ((t : ℕ) → w.tag ≡ Some t → under_tag w.host t b ≡ false) → shares_tag w.host g b ≡ false
  not_shared w b None is f = refl
  not_shared w b (Some t) is f = f t is

  neither : (a b : Bool) → a ≡ false → b ≡ false → (a || b) ≡ false
  neither a b one two = ap (λ x. x || b) one ∙ two

  all_free : (w : Waiting) (before : List Waiting) →
      NonePasses (in_lane topology w.host (unit_in topology w.request)) before →
      ((t : ℕ) → w.tag ≡ Some t → NonePasses (under_tag w.host t) before) →
      NonePasses (is_before topology w) before
  all_free w [] lane tag = tt
  all_free w (b ∷ before) lane tag = (
    neither (in_lane topology w.host (unit_in topology w.request) b) (shares_tag w.host w.tag b)
        lane.0 (not_shared w b w.tag refl (λ t is. (tag t is).0)),
    all_free w before lane.1 (λ t is. (tag t is).1),
  )

  -- a request is of its own lane
  own_lane : (w : Waiting) → is_before topology w w ≡ true
  own_lane w =
      let u = unit_in topology w.request in
      ap (λ b. (b && same_unit u u) || shares_tag w.host w.tag w) (eq-eqb w.host w.host refl)
      ∙ ap (λ b. b || shares_tag w.host w.tag w) (same_self u)

  -- the requests that are left are those of the definition
  pub left_next : (unit : RequestUnit) (w : Waiting) (waiting rest : List Waiting) →
      left_waiting topology unit w waiting ≡ Some rest →
      IsNext topology waiting w rest × (unit_in topology w.request ≡ unit)
  unfolding left_waiting
  left_next unit w waiting rest e = by (first_out (is_before topology w) waiting) refl e
    where
      by : (o : Option (Picked Waiting)) → first_out (is_before topology w) waiting ≡ o →
          left_by topology unit w o ≡ Some rest →
          IsNext topology waiting w rest × (unit_in topology w.request ≡ unit)
      by None is e = absurd (cc)
      by (Some p) is e =
          let b = between (is_before topology w) waiting p is in
          let s = some_is (same_waiting w p.first && same_unit (unit_in topology w.request) unit)
          p.rest rest e in
          let two = and_parts (same_waiting w p.first)
          (same_unit (unit_in topology w.request) unit) s.0 in
          let same : w ≡ p.first = waiting_are w p.first two.0 in (
            record {
              before = b.before;
              after = b.after;
              parts = b.parts ∙ ap (λ v. b.before ++ v ∷ b.after) (sym same);
              left = sym s.1 ∙ b.left;
              lane = lane_free w b.before b.none;
              tag = tag_free w b.before b.none;
            },
            same_is (unit_in topology w.request) unit two.1,
          )

  pub next_left : (unit : RequestUnit) (w : Waiting) (waiting rest : List Waiting) →
      IsNext topology waiting w rest → unit_in topology w.request ≡ unit →
      left_waiting topology unit w waiting ≡ Some rest
  unfolding left_waiting
  next_left unit w waiting rest n is =
      ap (λ l. left_by topology unit w (first_out (is_before topology w) l)) n.parts
      ∙ ap (left_by topology unit w) (the_first (is_before topology w) n.before w n.after
      (all_free w n.before n.lane n.tag) (own_lane w))
      ∙ ap (λ b. some_if b (n.before ++ n.after))
      (both (same_waiting w w) (same_unit (unit_in topology w.request) unit) (waiting_self w)
      (ap (same_unit (unit_in topology w.request)) (sym is) ∙ same_self (unit_in topology w.request)))
      ∙ ap Some (sym n.left)

-- and so are the answers
pub left_taken : (host tag : ℕ) (answer : Answer) (ready rest : List Ready) →
    left_ready host tag answer ready ≡ Some rest → IsTaken ready host tag answer rest
unfolding left_ready
left_taken host tag answer ready rest e = by (first_out (ready_under host tag) ready) refl e
  where
    by : (o : Option (Picked Ready)) → first_out (ready_under host tag) ready ≡ o →
        left_if answer o ≡ Some rest → IsTaken ready host tag answer rest
    by None is e = absurd (cc)
    by (Some p) is e =
        let b = between (ready_under host tag) ready p is in
        let s = some_is (same_answer p.first.answer answer) p.rest rest e in
        let two = and_parts (p.first.host == host) (same_tag p.first.tag tag) b.passes in
        record {
          before = b.before;
          after = b.after;
          parts = b.parts ∙ ap (λ v. b.before ++ v ∷ b.after)
              (ready_is p.first host (Some tag) answer (eqb-true p.first.host host two.0)
              (tag_is p.first.tag tag two.1) (answer_is p.first.answer answer s.0));
          left = sym s.1 ∙ b.left;
          none = b.none;
        }

pub taken_left : (host tag : ℕ) (answer : Answer) (ready rest : List Ready) →
    IsTaken ready host tag answer rest → left_ready host tag answer ready ≡ Some rest
unfolding left_ready
taken_left host tag answer ready rest t =
    let w : Ready = record { host = host; tag = Some tag; answer = answer } in
    ap (λ l. left_if answer (first_out (ready_under host tag) l)) t.parts
    ∙ ap (left_if answer) (the_first (ready_under host tag) t.before w t.after t.none
    (both (host == host) (tag == tag) (eq-eqb host host refl) (eq-eqb tag tag refl)))
    ∙ ap (λ b. some_if b (t.before ++ t.after)) (answer_self answer)
    ∙ ap Some (sym t.left)

-- an answer without a tag is never taken
ready_lean : (host : ℕ) (tag : Option ℕ) (answer : Answer) (ready : List Ready) (h t : ℕ) →
    picked (ready_under h t) (λ ready. ready.answer)
    (ready ++ record { host = host; tag = tag; answer = answer } ∷ [])
    ≡ picked (ready_under h t) (λ ready. ready.answer) (ready_with host tag answer ready)
unfolding picked
ready_lean host None answer ready h t =
    let w : Ready = record { host = host; tag = None; answer = answer } in
    picked_append (ready_under h t) (λ ready. ready.answer) ready (w ∷ [])
    ∙ ap (λ b. picked (ready_under h t) (λ ready. ready.answer) ready ++ front_if b answer [])
    (and_false (host == h))
    ∙ append-nil (picked (ready_under h t) (λ ready. ready.answer) ready)
ready_lean host (Some g) answer ready h t = refl

-- executions and retirements keep the number of cubes
module _ (topology : Topology) (opening : State) where
  cubes_stay : (journal : List Entry) →
      length (state_after opening journal).cubes ≡ length opening.cubes
  unfolding state_after apply retire
  cubes_stay [] = refl
  cubes_stay (Executed unit host tag request answer ∷ past) =
      length-set (state_after opening past).cubes request.cube
      (perform_on (cube_state_at (state_after opening past) request.cube)
      (state_after opening past).slots request).cube ∙ cubes_stay past
  cubes_stay (Retired slot ∷ past) = cubes_stay past
  cubes_stay (_ ∷ past) = cubes_stay past

  -- the walk is in a state after a journal that explains what hosts see of it
  pub record Walks (journal : List Entry) (point : Point) : Type 0 where
    pub fit : IsFit (length opening.cubes) journal
    pub serial : IsSerial opening journal
    pub moments : (later past : List Entry) → journal ≡ later ++ past → Explains topology past
    pub stands : Stands topology opening point journal

  cubes_same : (journal : List Entry) (point : Point) → Stands topology opening point journal →
      length point.machine.cubes ≡ length opening.cubes
  cubes_same journal point s = ap (λ (m : State). length m.cubes) s.machine ∙ cubes_stay journal

  lean : (journal : List Entry) (point : Point) (w : Waiting) (rest : List Waiting) →
      Stands topology opening (executed point w rest) journal →
      Stands topology opening (performed point w (answer_to point.machine w.request) rest) journal
  lean journal point w rest s = record {
    machine = s.machine;
    lanes = s.lanes;
    tags = s.tags;
    answers = λ h t. s.answers h t ∙ ap (λ l. answers_under h t journal ++ l)
        (ready_lean w.host w.tag (answer_to point.machine w.request) point.ready h t);
  }

  -- one more entry
  more : (e : Entry) (past : List Entry) (point next : Point) → Walks past point →
      IsFit (length opening.cubes) (e ∷ past) → IsSerial opening (e ∷ past) →
      Stands topology opening next (e ∷ past) → Walks (e ∷ past) next
  more e past point next w fit serial stands = record {
    fit = fit;
    serial = serial;
    moments = moments_more topology opening e past
        (explains topology opening next (e ∷ past) stands) w.moments;
    stands = stands;
  }

  execution : (unit : RequestUnit) (host : ℕ) (tag : Option ℕ) (request : RequestFields)
      (answer : Answer) (past : List Entry) (point : Point) (rest : List Waiting) → Walks past point →
      IsNext topology point.waiting (record { host = host; tag = tag; request = request }) rest →
      unit_in topology request ≡ unit → gives point.machine request answer ≡ true →
      Walks (Executed unit host tag request answer ∷ past)
      (performed point (record { host = host; tag = tag; request = request }) answer rest)
  unfolding IsSerial
  execution unit host tag request answer past point rest w next is e =
      let v : Waiting = record { host = host; tag = tag; request = request } in
      let two = and_parts (nat_lt request.cube (length point.machine.cubes))
      (same_answer (answer_to point.machine request) answer) e in
      let same : answer_to point.machine request ≡ answer =
      answer_is (answer_to point.machine request) answer two.1 in
      let cube : request.cube < length opening.cubes =
      subst (λ n. request.cube < n) (cubes_same past point w.stands)
      (ltb-true request.cube (length point.machine.cubes) two.0) in
      let done : Point = performed point v answer rest in
      let stands : Stands topology opening done (Executed unit host tag request answer ∷ past) =
      subst (λ a. Stands topology opening (performed point v a rest)
      (Executed unit host tag request a ∷ past)) same
      (lean (Executed unit host tag request (answer_to point.machine request) ∷ past) point v rest
      (subst (λ u. Stands topology opening (executed point v rest)
      (Executed u host tag request (answer_to point.machine request) ∷ past)) is
      (ran topology opening point past v rest next w.stands))) in
      more (Executed unit host tag request answer) past point done w (cube, w.fit)
      (sym same ∙ ap (λ m. answer_to m request) w.stands.machine, w.serial) stands

  -- a step of the walk goes from one to the next
  executes : (unit : RequestUnit) (host : ℕ) (tag : Option ℕ) (request : RequestFields)
      (answer : Answer) (past : List Entry) (point next : Point) → Walks past point →
      (o : Option (List Waiting)) →
      left_waiting topology unit (record { host = host; tag = tag; request = request }) point.waiting
      ≡ o →
      performed_if point (record { host = host; tag = tag; request = request }) answer o ≡ Some next →
      Walks (Executed unit host tag request answer ∷ past) next
  executes unit host tag request answer past point next w None is e = absurd (cc)
  executes unit host tag request answer past point next w (Some rest) is e =
      let v : Waiting = record { host = host; tag = tag; request = request } in
      let s = some_is (gives point.machine request answer) (performed point v answer rest) next e in
      let n = left_next topology unit v point.waiting rest is in
      subst (Walks (Executed unit host tag request answer ∷ past)) s.1
      (execution unit host tag request answer past point rest w n.0 n.1 s.0)

  takes : (host tag : ℕ) (answer : Answer) (past : List Entry) (point next : Point) →
      Walks past point → (o : Option (List Ready)) → left_ready host tag answer point.ready ≡ o →
      taken_if point o ≡ Some next → Walks (Took host tag answer ∷ past) next
  unfolding IsSerial
  takes host tag answer past point next w None is e = absurd (cc)
  takes host tag answer past point next w (Some rest) is e =
      let t = left_taken host tag answer point.ready rest is in
      let after : Point = record point { ready = rest } in
      let same : after ≡ next = cc in
      subst (Walks (Took host tag answer ∷ past)) same
      (more (Took host tag answer) past point after w w.fit w.serial
      (took topology opening point past host tag answer rest t w.stands))

  pub step_walks : (e : Entry) (past : List Entry) (point next : Point) → Walks past point →
      walk_step topology point e ≡ Some next → Walks (e ∷ past) next
  unfolding walk_step IsSerial given_to executed_by asked_under replies_under answers_under state_after
  step_walks (Gave host tag false request) past point next w e =
      let v : Waiting = record { host = host; tag = tag; request = request } in
      let same : given point v ≡ next = cc in
      subst (Walks (Gave host tag false request ∷ past)) same
      (more (Gave host tag false request) past point (given point v) w w.fit w.serial
      (gave topology opening point past host tag request w.stands))
  step_walks (Gave host None true request) past point next w e =
      let same : point ≡ next = cc in
      subst (Walks (Gave host None true request ∷ past)) same
      (more (Gave host None true request) past point point w (refl, w.fit) w.serial
      (poisoned topology opening point past host request w.stands))
  step_walks (Gave host (Some tag) true request) past point next w e = absurd (cc)
  step_walks (Executed unit host tag request answer) past point next w e =
      executes unit host tag request answer past point next w
      (left_waiting topology unit (record { host = host; tag = tag; request = request })
      point.waiting) refl e
  step_walks (Took host tag answer) past point next w e =
      takes host tag answer past point next w (left_ready host tag answer point.ready) refl e
  step_walks (Retired slot) past point next w e =
      let after : Point = record point { machine = retire point.machine slot } in
      let same : after ≡ next = cc in
      subst (Walks (Retired slot ∷ past)) same
      (more (Retired slot) past point after w w.fit w.serial
      (retired topology opening point past slot w.stands))
  step_walks e past point next w is =
      let same : point ≡ next = cc in
      let stands : Stands topology opening point (e ∷ past) = record {
        machine = w.stands.machine;
        lanes = w.stands.lanes;
        tags = w.stands.tags;
        answers = w.stands.answers;
      } in
      subst (Walks (e ∷ past)) same (more e past point point w w.fit w.serial stands)

  -- where the journal explains one more entry the walk takes it
  goes_on : (e : Entry) (past : List Entry) (point : Point) → Walks past point →
      IsFit (length opening.cubes) (e ∷ past) → IsSerial opening (e ∷ past) →
      Explains topology (e ∷ past) → (next : Point) × (walk_step topology point e ≡ Some next)
  unfolding walk_step IsSerial
  goes_on (Gave host tag false request) past point w fit serial ex =
      (given point (record { host = host; tag = tag; request = request }), refl)
  goes_on (Gave host None true request) past point w fit serial ex = (point, refl)
  goes_on (Gave host (Some tag) true request) past point w fit serial ex =
      let none = fit.0 in absurd (cc)
  goes_on (Executed unit host tag request answer) past point w fit serial ex =
      let v : Waiting = record { host = host; tag = tag; request = request } in
      let r = run topology opening point past unit host tag request answer w.stands ex in
      let same : answer_to point.machine request ≡ answer =
      ap (λ m. answer_to m request) w.stands.machine ∙ sym serial.0 in
      let cube : request.cube < length point.machine.cubes =
      subst (λ n. request.cube < n) (sym (cubes_same past point w.stands)) fit.0 in (
        performed point v answer r.rest,
        ap (performed_if point v answer)
            (next_left topology unit v point.waiting r.rest r.next r.unit)
            ∙ ap (λ b. some_if b (performed point v answer r.rest))
            (both (nat_lt request.cube (length point.machine.cubes))
            (same_answer (answer_to point.machine request) answer)
            (lt-ltb request.cube (length point.machine.cubes) cube)
            (ap (λ a. same_answer a answer) same ∙ answer_self answer)),
      )
  goes_on (Took host tag answer) past point w fit serial ex =
      let t = take topology opening point past host tag answer w.stands ex in (
        record point { ready = t.rest },
        ap (taken_if point) (taken_left host tag answer point.ready t.rest t.taken),
      )
  goes_on (Retired slot) past point w fit serial ex =
      (record point { machine = retire point.machine slot }, refl)
  goes_on e past point w fit serial ex = (point, refl)

  fit_tail : (e : Entry) (past : List Entry) → IsFit (length opening.cubes) (e ∷ past) →
      IsFit (length opening.cubes) past
  fit_tail (Gave host tag true request) past fit = fit.1
  fit_tail (Gave host tag false request) past fit = fit
  fit_tail (Executed unit host tag request answer) past fit = fit.1
  fit_tail e past fit = fit

  serial_tail : (e : Entry) (past : List Entry) → IsSerial opening (e ∷ past) → IsSerial opening past
  unfolding IsSerial
  serial_tail (Executed unit host tag request answer) past serial = serial.1
  serial_tail e past serial = serial

  nothing_walks : Walks [] (start_at opening)
  unfolding IsSerial
  nothing_walks = record {
    fit = tt;
    serial = tt;
    moments = moments_none topology opening;
    stands = started topology opening;
  }

  -- the walk goes to the end of a journal that explains what hosts see of it
  pub walked_walks : (journal : List Entry) (point : Point) →
      walked topology opening journal ≡ Some point → Walks journal point
  unfolding walked
  walked_walks [] point is = let same : start_at opening ≡ point = cc in
      subst (Walks []) same nothing_walks
  walked_walks (e ∷ past) point is =
      by (walked topology opening past) refl is (λ p was. walked_walks past p was)
    where
      by : (o : Option Point) → walked topology opening past ≡ o →
          step_from topology e o ≡ Some point →
          ((p : Point) → walked topology opening past ≡ Some p → Walks past p) →
          Walks (e ∷ past) point
      by None was is before = absurd (cc)
      by (Some p) was is before = step_walks e past p point (before p was) is

  -- and of no other
  pub explained_walked : (journal : List Entry) → IsFit (length opening.cubes) journal →
      IsSerial opening journal →
      ((later past : List Entry) → journal ≡ later ++ past → Explains topology past) →
      (point : Point) × (walked topology opening journal ≡ Some point)
  unfolding walked
  explained_walked [] fit serial moments = (start_at opening, refl)
  explained_walked (e ∷ past) fit serial moments =
      let b = explained_walked past (fit_tail e past fit) (serial_tail e past serial)
      (λ later part is. moments (e ∷ later) part (ap (λ l. e ∷ l) is)) in
      let c = goes_on e past b.0 (walked_walks past b.0 b.1) fit serial
      (moments [] (e ∷ past) refl) in
      (c.0, ap (step_from topology e) b.1 ∙ c.1)

  -- where nothing waits and no answer is ready all were served
  pub none_waits : (journal : List Entry) (point : Point) → Stands topology opening point journal →
      point.waiting ≡ [] → point.ready ≡ [] → AllServed topology journal
  unfolding picked
  none_waits journal point s empty taken = record {
    executed = λ h u. sym (s.lanes h u
        ∙ ap (λ l. executed_by h u journal ++ picked (in_lane topology h u) tagged l) empty
        ∙ append-nil (executed_by h u journal));
    taken = λ h t.
        let replies = replies_under h t journal in
        ap length (sym (s.answers h t
        ∙ ap (λ l. answers_under h t journal ++ picked (ready_under h t) (λ ready. ready.answer) l) taken
        ∙ append-nil (answers_under h t journal)))
        ∙ length-map replies (λ (reply : Completion). reply.answer)
        ∙ sym (length-map replies (λ (reply : Completion). reply.request))
        ∙ ap length (sym (s.tags h t
        ∙ ap (λ l. map (λ (reply : Completion). reply.request) replies
        ++ picked (under_tag h t) (λ waiting. waiting.request) l) empty
        ∙ append-nil (map (λ (reply : Completion). reply.request) replies)));
  }
