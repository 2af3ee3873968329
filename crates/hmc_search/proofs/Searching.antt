-- The states that the search reaches are those of explanations.
use Rattle.std.proofs.Common.{◌≡◌, ◌∙◌, ℕ, Bool, true, false, Option, Some, None, List, [], ◌∷◌, ◌++◌, map, refl, sym, ap, subst}
use Rattle.std.specs.Prelude.{◌==◌, ◌&&◌}
use Rattle.std.proofs.lemmas.Bool.{eq-eqb, eqb-true, and_parts}
use Rattle.std.proofs.lemmas.List.{append_assoc, append_cancel_left}
use Rattle.hmc_codes.specs.declared.answer.Answer.{Answer}
use Rattle.hmc_codes.specs.Request.{RequestFields}
use Rattle.hmc_codes.specs.declared.unit.Unit.{Unit as RequestUnit}
use Rattle.hmc_codes.specs.declared.unit.Unit.TheVariants as units
use Rattle.hmc_serial.specs.Machine.{State, apply, answer_to, retire}
use Rattle.hmc_entries.specs.declared.entry.Entry.{Entry}
use Rattle.hmc_entries.specs.declared.entry.Entry.TheVariants.{Gave, Took, Executed, Retired}
use Rattle.hmc_journal.specs.Choice.{append_if}
use Rattle.hmc_journal.specs.Delivered.{IsPrefix}
use Rattle.hmc_journal.specs.Filters.{TaggedRequest, Completion, given_to, executed_by, asked_under, replies_under, answers_under, same_unit, same_tag}
use Rattle.hmc_journal.specs.Serial.{IsSerial, state_after}
use Rattle.hmc_journal.specs.Setup.{Topology, unit_in}
use Rattle.hmc_seen.specs.Explained.{Explains, IsExplained}
use Rattle.hmc_seen.specs.Seen.{seen_of}
use Rattle.hmc_search.specs.Point.{Waiting, Ready, Point, start_at, in_lane, under_tag, ready_under, NonePasses, IsNext, IsTaken, given, executed}
use Rattle.hmc_search.specs.Reached.{Reaches, IsUntagged}
use Rattle.hmc_search.specs.Reached.Leads.{Starts, Gives, Poisons, Executes, Takes, Retires}
use Rattle.hmc_search.specs.Standing.{Stands, picked, tagged}
use Rattle.hmc_search.proofs.Picking.{map_if, take_out, put_in, first, none_before}

pub same_self : (u : RequestUnit) → same_unit u u ≡ true
same_self (units.Bank c v b) = ap (λ x. x && ((v == v) && (b == b))) (eq-eqb c c refl)
    ∙ ap (λ x. x && (b == b)) (eq-eqb v v refl) ∙ eq-eqb b b refl
same_self (units.Registers c) = eq-eqb c c refl

pub same_is : (u v : RequestUnit) → same_unit u v ≡ true → u ≡ v
same_is (units.Bank c v b) (units.Bank d w a) is =
    let one = and_parts (c == d) ((v == w) && (b == a)) is in
    let two = and_parts (v == w) (b == a) one.1 in
    ap (λ n. units.Bank n v b) (eqb-true c d one.0) ∙ ap (λ n. units.Bank d n b) (eqb-true v w two.0) ∙ ap (units.Bank d w) (eqb-true b a two.1)
same_is (units.Bank c v b) (units.Registers d) is = absurd (cc)
same_is (units.Registers c) (units.Bank d w a) is = absurd (cc)
same_is (units.Registers c) (units.Registers d) is = ap units.Registers (eqb-true c d is)

pub tag_is : (tag : Option ℕ) (t : ℕ) → same_tag tag t ≡ true → tag ≡ Some t
tag_is None t e = absurd (cc)
tag_is (Some s) t e = ap Some (eqb-true s t e)

pub and_false : (b : Bool) → (b && false) ≡ false
and_false true = refl
and_false false = refl

-- what is done next is the first that is open
next_open : {Y : Type 0} (b : Bool) (all done left : List Y) (y : Y) → b ≡ true → all ≡ done ++ left → IsPrefix (append_if b (y ∷ []) done) all →
    (rest : List Y) × (left ≡ y ∷ rest)
next_open true all done left y is whole p = (p.0, append_cancel_left done left (y ∷ p.0) (sym whole ∙ p.1 ∙ append_assoc done (y ∷ []) p.0))
next_open false all done left y is whole p = absurd (cc)

w_is : (w : Waiting) (host : ℕ) (x : TaggedRequest) → w.host ≡ host → tagged w ≡ x → w ≡ record { host = host; tag = x.tag; request = x.request }
w_is w host x hosts shown =
    let one : w ≡ record { host = host; tag = w.tag; request = w.request } = ap (λ (h : ℕ). let made : Waiting = record { host = h; tag = w.tag; request = w.request } in made) hosts in
    one ∙ ap (λ (y : TaggedRequest). let made : Waiting = record { host = host; tag = y.tag; request = y.request } in made) shown

pub ready_is : (w : Ready) (host : ℕ) (tag : Option ℕ) (answer : Answer) → w.host ≡ host → w.tag ≡ tag → w.answer ≡ answer → w ≡ record { host = host; tag = tag; answer = answer }
ready_is w host tag answer hosts tags answers =
    let one : w ≡ record { host = host; tag = w.tag; answer = w.answer } = ap (λ (h : ℕ). let made : Ready = record { host = h; tag = w.tag; answer = w.answer } in made) hosts in
    one ∙ ap (λ (t : Option ℕ). let made : Ready = record { host = host; tag = t; answer = w.answer } in made) tags
    ∙ ap (λ (a : Answer). let made : Ready = record { host = host; tag = tag; answer = a } in made) answers

module _ (topology : Topology) (opening : State) where
  pub started : Stands topology opening (start_at opening) []
  unfolding given_to executed_by asked_under replies_under answers_under state_after picked
  started = record { machine = refl; lanes = λ h u. refl; tags = λ h t. refl; answers = λ h t. refl }

  pub gave : (point : Point) (past : List Entry) (host : ℕ) (tag : Option ℕ) (request : RequestFields) → Stands topology opening point past →
      Stands topology opening (given point (record { host = host; tag = tag; request = request })) (Gave host tag false request ∷ past)
  unfolding given_to executed_by asked_under replies_under answers_under state_after
  gave point past host tag request s = let w : Waiting = record { host = host; tag = tag; request = request } in record {
    machine = s.machine;
    lanes = λ h u. put_in (in_lane topology h u) tagged point.waiting w (given_to topology h u past) (executed_by h u past) (s.lanes h u);
    tags = λ h t. put_in (under_tag h t) (λ waiting. waiting.request) point.waiting w (asked_under h t past) (map (λ reply. reply.request) (replies_under h t past)) (s.tags h t);
    answers = s.answers;
  }

  pub poisoned : (point : Point) (past : List Entry) (host : ℕ) (request : RequestFields) → Stands topology opening point past →
      Stands topology opening point (Gave host None true request ∷ past)
  unfolding given_to executed_by asked_under replies_under answers_under state_after
  poisoned point past host request s = record {
    machine = s.machine;
    lanes = λ h u. ap (λ b. append_if b (record { tag = None; request = request } ∷ []) (given_to topology h u past)) (and_false (host == h)) ∙ s.lanes h u;
    tags = λ h t. ap (λ b. append_if b (request ∷ []) (asked_under h t past)) (and_false (host == h)) ∙ s.tags h t;
    answers = s.answers;
  }

  pub retired : (point : Point) (past : List Entry) (slot : ℕ) → Stands topology opening point past →
      Stands topology opening (record point { machine = retire point.machine slot }) (Retired slot ∷ past)
  unfolding given_to executed_by asked_under replies_under answers_under state_after
  retired point past slot s = record {
    machine = ap (λ m. retire m slot) s.machine;
    lanes = s.lanes;
    tags = s.tags;
    answers = s.answers;
  }

  pub took : (point : Point) (past : List Entry) (host tag : ℕ) (answer : Answer) (rest : List Ready) → IsTaken point.ready host tag answer rest →
      Stands topology opening point past → Stands topology opening (record point { ready = rest }) (Took host tag answer ∷ past)
  unfolding given_to executed_by asked_under replies_under answers_under state_after
  took point past host tag answer rest t s = let w : Ready = record { host = host; tag = Some tag; answer = answer } in record {
    machine = s.machine;
    lanes = s.lanes;
    tags = s.tags;
    answers = λ h g. take_out (ready_under h g) (λ ready. ready.answer) t.before w t.after
        (map (λ reply. reply.answer) (replies_under h g past)) (answers_under h g past)
        (λ yes. let both = and_parts (host == h) (tag == g) yes in
        subst (λ x. NonePasses (ready_under x g) t.before) (eqb-true host h both.0)
        (subst (λ x. NonePasses (ready_under host x) t.before) (eqb-true tag g both.1) t.none))
        (s.answers h g ∙ ap (λ l. answers_under h g past ++ picked (ready_under h g) (λ ready. ready.answer) l) t.parts)
        ∙ ap (λ l. append_if ((host == h) && (tag == g)) (answer ∷ []) (answers_under h g past) ++ picked (ready_under h g) (λ ready. ready.answer) l) (sym t.left);
  }

  pub ran : (point : Point) (past : List Entry) (w : Waiting) (rest : List Waiting) → IsNext topology point.waiting w rest →
      Stands topology opening point past →
      Stands topology opening (executed point w rest)
      (Executed (unit_in topology w.request) w.host w.tag w.request (answer_to point.machine w.request) ∷ past)
  unfolding given_to executed_by asked_under replies_under answers_under state_after
  ran point past w rest n s =
      let answer = answer_to point.machine w.request in
      let both : Completion = record { request = w.request; answer = answer } in record {
        machine = ap (λ m. apply m w.request) s.machine;
        lanes = λ h u. take_out (in_lane topology h u) tagged n.before w n.after (given_to topology h u past) (executed_by h u past)
            (λ yes. let two = and_parts (w.host == h) (same_unit (unit_in topology w.request) u) yes in
            subst (λ x. NonePasses (in_lane topology x u) n.before) (eqb-true w.host h two.0)
            (subst (λ x. NonePasses (in_lane topology w.host x) n.before) (same_is (unit_in topology w.request) u two.1) n.lane))
            (s.lanes h u ∙ ap (λ l. executed_by h u past ++ picked (in_lane topology h u) tagged l) n.parts)
            ∙ ap (λ l. append_if (in_lane topology h u w) (tagged w ∷ []) (executed_by h u past) ++ picked (in_lane topology h u) tagged l) (sym n.left);
        tags = λ h t. take_out (under_tag h t) (λ waiting. waiting.request) n.before w n.after (asked_under h t past) (map (λ reply. reply.request) (replies_under h t past))
            (λ yes. let two = and_parts (w.host == h) (same_tag w.tag t) yes in
            subst (λ x. NonePasses (under_tag x t) n.before) (eqb-true w.host h two.0) (n.tag t (tag_is w.tag t two.1)))
            (s.tags h t ∙ ap (λ l. map (λ (reply : Completion). reply.request) (replies_under h t past) ++ picked (under_tag h t) (λ waiting. waiting.request) l) n.parts)
            ∙ ap (λ l. append_if (under_tag h t w) (w.request ∷ []) (map (λ (reply : Completion). reply.request) (replies_under h t past)) ++ picked (under_tag h t) (λ waiting. waiting.request) l) (sym n.left)
            ∙ ap (λ l. l ++ picked (under_tag h t) (λ waiting. waiting.request) rest) (sym (map_if (λ (reply : Completion). reply.request) (under_tag h t w) both (replies_under h t past)));
        answers = λ h t. map_if (λ (reply : Completion). reply.answer) (under_tag h t w) both (replies_under h t past)
            ∙ put_in (ready_under h t) (λ ready. ready.answer) point.ready (record { host = w.host; tag = w.tag; answer = answer }) (map (λ (reply : Completion). reply.answer) (replies_under h t past)) (answers_under h t past) (s.answers h t);
      }

  pub explains : (point : Point) (past : List Entry) → Stands topology opening point past → Explains topology past
  explains point past s = record {
    requests = λ h u. (picked (in_lane topology h u) tagged point.waiting, s.lanes h u);
    replied = λ h t. (picked (under_tag h t) (λ waiting. waiting.request) point.waiting, s.tags h t);
    answered = λ h t. (picked (ready_under h t) (λ ready. ready.answer) point.ready, s.answers h t);
  }

  -- an explanation for which a state stands
  record Built (log : List Entry) (point : Point) : Type 0 where
    pub journal : List Entry
    pub seen : seen_of journal ≡ log
    pub serial : IsSerial opening journal
    pub moments : (later past : List Entry) → journal ≡ later ++ past → Explains topology past
    pub stands : Stands topology opening point journal

  pub moments_more : (e : Entry) (journal : List Entry) → Explains topology (e ∷ journal) → ((later past : List Entry) → journal ≡ later ++ past → Explains topology past) →
      (later past : List Entry) → (e ∷ journal) ≡ later ++ past → Explains topology past
  moments_more e journal now before [] past is = subst (Explains topology) is now
  moments_more e journal now before (x ∷ later) past is = before later past (cc)

  pub moments_none : (later past : List Entry) → [] ≡ later ++ past → Explains topology past
  moments_none [] past is = subst (Explains topology) is (explains (start_at opening) [] started)
  moments_none (x ∷ later) past is = absurd (cc)

  add : (e : Entry) (log more : List Entry) (point next : Point) (b : Built log point) → seen_of (e ∷ b.journal) ≡ more →
      IsSerial opening (e ∷ b.journal) → Stands topology opening next (e ∷ b.journal) → Built more next
  add e log more point next b seen serial stands = record {
    journal = e ∷ b.journal;
    seen = seen;
    serial = serial;
    moments = moments_more e b.journal (explains next (e ∷ b.journal) stands) b.moments;
    stands = stands;
  }

  built : {log : List Entry} {point : Point} → Reaches topology opening log point → Built log point
  unfolding seen_of IsSerial state_after
  built Starts = record {
    journal = [];
    seen = refl;
    serial = tt;
    moments = moments_none;
    stands = started;
  }
  built (Gives {log} {point} host tag request r) = let b = built r in
      add (Gave host tag false request) log (Gave host tag false request ∷ log) point (given point (record { host = host; tag = tag; request = request })) b
      (ap (λ l. Gave host tag false request ∷ l) b.seen) b.serial (gave point b.journal host tag request b.stands)
  built (Poisons {log} {point} host request r) = let b = built r in
      add (Gave host None true request) log (Gave host None true request ∷ log) point point b
      (ap (λ l. Gave host None true request ∷ l) b.seen) b.serial (poisoned point b.journal host request b.stands)
  built (Executes {log} {point} w rest n r) = let b = built r in
      add (Executed (unit_in topology w.request) w.host w.tag w.request (answer_to point.machine w.request)) log log point (executed point w rest) b
      b.seen (ap (λ m. answer_to m w.request) b.stands.machine, b.serial) (ran point b.journal w rest n b.stands)
  built (Takes {log} {point} host tag answer rest t r) = let b = built r in
      add (Took host tag answer) log (Took host tag answer ∷ log) point (record point { ready = rest }) b
      (ap (λ l. Took host tag answer ∷ l) b.seen) b.serial (took point b.journal host tag answer rest t b.stands)
  built (Retires {log} {point} slot r) = let b = built r in
      add (Retired slot) log (Retired slot ∷ log) point (record point { machine = retire point.machine slot }) b
      (ap (λ l. Retired slot ∷ l) b.seen) b.serial (retired point b.journal slot b.stands)

  pub reached_explained : (log : List Entry) (point : Point) → Reaches topology opening log point → IsExplained topology opening log
  reached_explained log point r = let b = built r in record {
    journal = b.journal;
    explains = record { seen = b.seen; serial = b.serial; moments = b.moments };
  }

  -- no request before the next one has its tag
  free : (point : Point) (past : List Entry) (u : RequestUnit) (host : ℕ) (tag : Option ℕ) (request : RequestFields) (answer : Answer) →
      Stands topology opening point past → Explains topology (Executed u host tag request answer ∷ past) →
      (before rest : List Waiting) → point.waiting ≡ before ++ rest → NonePasses (in_lane topology host u) before → unit_in topology request ≡ u →
      (t : ℕ) → tag ≡ Some t → NonePasses (under_tag host t) before
  unfolding given_to executed_by asked_under replies_under answers_under
  free point past u host tag request answer s e before rest parts none unit t is =
      let test : Bool = (host == host) && same_tag tag t in
      let own : test ≡ true = ap (λ b. b && same_tag tag t) (eq-eqb host host refl) ∙ ap (λ x. same_tag x t) is ∙ eq-eqb t t refl in
      let both : Completion = record { request = request; answer = answer } in
      let replies = replies_under host t past in
      let open_now = next_open test (asked_under host t past) (map (λ (reply : Completion). reply.request) replies)
      (picked (under_tag host t) (λ waiting. waiting.request) point.waiting) request own (s.tags host t)
      (subst (λ l. IsPrefix l (asked_under host t past)) (map_if (λ (reply : Completion). reply.request) test both replies) (e.replied host t)) in
      none_before (under_tag host t) (λ waiting. waiting.request) before rest request open_now.0 (in_lane topology host u) none
      (λ x yes shown. let two = and_parts (x.host == host) (same_tag x.tag t) yes in
      ap (λ b. b && same_unit (unit_in topology x.request) u) two.0 ∙ ap (λ q. same_unit (unit_in topology q) u) shown ∙ ap (λ v. same_unit v u) unit ∙ same_self u)
      (ap (λ l. picked (under_tag host t) (λ waiting. waiting.request) l) (sym parts) ∙ open_now.1)

  -- a request that an explanation executes next can be executed
  pub record Run (point : Point) (host : ℕ) (tag : Option ℕ) (request : RequestFields) (u : RequestUnit) : Type 0 where
    pub rest : List Waiting
    pub next : IsNext topology point.waiting (record { host = host; tag = tag; request = request }) rest
    pub unit : unit_in topology request ≡ u

  pub run : (point : Point) (past : List Entry) (u : RequestUnit) (host : ℕ) (tag : Option ℕ) (request : RequestFields) (answer : Answer) →
      Stands topology opening point past → Explains topology (Executed u host tag request answer ∷ past) → Run point host tag request u
  unfolding given_to executed_by asked_under replies_under answers_under
  run point past u host tag request answer s e =
      let w0 : Waiting = record { host = host; tag = tag; request = request } in
      let own : ((host == host) && same_unit u u) ≡ true = ap (λ b. b && same_unit u u) (eq-eqb host host refl) ∙ same_self u in
      let open_now = next_open ((host == host) && same_unit u u) (given_to topology host u past) (executed_by host u past)
      (picked (in_lane topology host u) tagged point.waiting) (tagged w0) own (s.lanes host u) (e.requests host u) in
      let f = first (in_lane topology host u) tagged point.waiting (tagged w0) open_now.0 open_now.1 in
      let two = and_parts (f.w.host == host) (same_unit (unit_in topology f.w.request) u) f.passes in
      let is : f.w ≡ w0 = w_is f.w host (tagged w0) (eqb-true f.w.host host two.0) f.shows in
      let unit : unit_in topology request ≡ u = ap (λ (w : Waiting). unit_in topology w.request) (sym is) ∙ same_is (unit_in topology f.w.request) u two.1 in
      record {
        rest = f.before ++ f.after;
        next = record {
          before = f.before;
          after = f.after;
          parts = f.parts ∙ ap (λ w. f.before ++ w ∷ f.after) is;
          left = refl;
          lane = subst (λ x. NonePasses (in_lane topology host x) f.before) (sym unit) f.none;
          tag = λ t tagged_so. free point past u host tag request answer s e f.before (f.w ∷ f.after) f.parts f.none unit t tagged_so;
        };
        unit = unit;
      }

  -- an answer that an explanation takes next can be taken
  pub record Take (point : Point) (host tag : ℕ) (answer : Answer) : Type 0 where
    pub rest : List Ready
    pub taken : IsTaken point.ready host tag answer rest

  pub take : (point : Point) (past : List Entry) (host tag : ℕ) (answer : Answer) →
      Stands topology opening point past → Explains topology (Took host tag answer ∷ past) → Take point host tag answer
  unfolding given_to executed_by asked_under replies_under answers_under
  take point past host tag answer s e =
      let own : ((host == host) && (tag == tag)) ≡ true = ap (λ b. b && (tag == tag)) (eq-eqb host host refl) ∙ eq-eqb tag tag refl in
      let open_now = next_open ((host == host) && (tag == tag)) (map (λ (reply : Completion). reply.answer) (replies_under host tag past)) (answers_under host tag past)
      (picked (ready_under host tag) (λ ready. ready.answer) point.ready) answer own (s.answers host tag) (e.answered host tag) in
      let f = first (ready_under host tag) (λ ready. ready.answer) point.ready answer open_now.0 open_now.1 in
      let two = and_parts (f.w.host == host) (same_tag f.w.tag tag) f.passes in
      let is : f.w ≡ record { host = host; tag = Some tag; answer = answer } = ready_is f.w host (Some tag) answer (eqb-true f.w.host host two.0) (tag_is f.w.tag tag two.1) f.shows in
      record {
        rest = f.before ++ f.after;
        taken = record { before = f.before; after = f.after; parts = f.parts ∙ ap (λ w. f.before ++ w ∷ f.after) is; left = refl; none = f.none };
      }

  record Found (journal : List Entry) : Type 0 where
    pub point : Point
    pub reaches : Reaches topology opening (seen_of journal) point
    pub stands : Stands topology opening point journal

  found : (journal : List Entry) → IsSerial opening journal → ((later past : List Entry) → journal ≡ later ++ past → Explains topology past) →
      IsUntagged (seen_of journal) → Found journal
  unfolding seen_of IsSerial given_to executed_by asked_under replies_under answers_under state_after
  found [] serial moments free_tags = record { point = start_at opening; reaches = Starts; stands = started }
  found (Gave host tag false request ∷ j) serial moments free_tags =
      let b = found j serial (λ later past is. moments (Gave host tag false request ∷ later) past (ap (λ l. Gave host tag false request ∷ l) is)) free_tags in
      record { point = given b.point (record { host = host; tag = tag; request = request }); reaches = Gives host tag request b.reaches; stands = gave b.point j host tag request b.stands }
  found (Gave host tag true request ∷ j) serial moments free_tags =
      let b = found j serial (λ later past is. moments (Gave host tag true request ∷ later) past (ap (λ l. Gave host tag true request ∷ l) is)) free_tags.1 in
      record {
        point = b.point;
        reaches = subst (λ t. Reaches topology opening (Gave host t true request ∷ seen_of j) b.point) (sym free_tags.0) (Poisons host request b.reaches);
        stands = subst (λ t. Stands topology opening b.point (Gave host t true request ∷ j)) (sym free_tags.0) (poisoned b.point j host request b.stands);
      }
  found (Took host tag answer ∷ j) serial moments free_tags =
      let b = found j serial (λ later past is. moments (Took host tag answer ∷ later) past (ap (λ l. Took host tag answer ∷ l) is)) free_tags in
      let t = take b.point j host tag answer b.stands (moments [] (Took host tag answer ∷ j) refl) in
      record { point = record b.point { ready = t.rest }; reaches = Takes host tag answer t.rest t.taken b.reaches; stands = took b.point j host tag answer t.rest t.taken b.stands }
  found (Retired slot ∷ j) serial moments free_tags =
      let b = found j serial (λ later past is. moments (Retired slot ∷ later) past (ap (λ l. Retired slot ∷ l) is)) free_tags in
      record { point = record b.point { machine = retire b.point.machine slot }; reaches = Retires slot b.reaches; stands = retired b.point j slot b.stands }
  found (Executed u host tag request answer ∷ j) serial moments free_tags =
      let b = found j serial.1 (λ later past is. moments (Executed u host tag request answer ∷ later) past (ap (λ l. Executed u host tag request answer ∷ l) is)) free_tags in
      let r = run b.point j u host tag request answer b.stands (moments [] (Executed u host tag request answer ∷ j) refl) in
      let w : Waiting = record { host = host; tag = tag; request = request } in
      let same : answer_to b.point.machine request ≡ answer = ap (λ m. answer_to m request) b.stands.machine ∙ sym serial.0 in
      record {
        point = executed b.point w r.rest;
        reaches = Executes w r.rest r.next b.reaches;
        stands = subst (λ a. Stands topology opening (executed b.point w r.rest) (Executed u host tag request a ∷ j)) same
            (subst (λ v. Stands topology opening (executed b.point w r.rest) (Executed v host tag request (answer_to b.point.machine request) ∷ j)) r.unit
            (ran b.point j w r.rest r.next b.stands));
      }
  found (e ∷ j) serial moments free_tags =
      let b = found j serial (λ later past is. moments (e ∷ later) past (ap (λ l. e ∷ l) is)) free_tags in
      record { point = b.point; reaches = b.reaches; stands = record { machine = b.stands.machine; lanes = b.stands.lanes; tags = b.stands.tags; answers = b.stands.answers } }

  pub explained_reached : (log : List Entry) → IsUntagged log → IsExplained topology opening log → (point : Point) × Reaches topology opening log point
  explained_reached log free_tags x =
      let b = found x.journal x.explains.serial x.explains.moments
      (subst IsUntagged (sym x.explains.seen) free_tags) in
      (b.point, subst (λ l. Reaches topology opening l b.point) x.explains.seen b.reaches)
