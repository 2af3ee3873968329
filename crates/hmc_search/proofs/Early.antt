-- A request that changes nothing, and whose answer fits, can be executed at once.
use Rattle.std.proofs.Common.{◌≡◌, ◌∙◌, ℕ, Bool, true, false, Option, Some, None, List, [], ◌∷◌, ◌++◌, refl, sym, ap, subst, inl, inr, ◌⊎◌}
use Rattle.std.specs.Prelude.{◌==◌, ◌&&◌}
use Rattle.std.proofs.lemmas.Bool.{eq-eqb, eqb-true, and_parts}
use Rattle.std.proofs.lemmas.List.{append_assoc, append_cancel_left}
use Rattle.hmc_codes.specs.declared.answer.Answer.{Answer}
use Rattle.hmc_codes.specs.Request.{RequestFields}
use Rattle.hmc_serial.specs.Machine.{apply, answer_to, retire}
use Rattle.hmc_entries.specs.declared.entry.Entry.{Entry}
use Rattle.hmc_entries.specs.declared.entry.Entry.TheVariants.{Gave, Took, Retired}
use Rattle.hmc_journal.specs.Choice.{append_if}
use Rattle.hmc_journal.specs.Filters.{same_tag}
use Rattle.hmc_journal.specs.Setup.{Topology, unit_in}
use Rattle.hmc_search.specs.Early.{HasNoAnswer, IsFirstAnswer, IsEarly}
use Rattle.hmc_search.specs.Point.{Waiting, Ready, Point, in_lane, under_tag, ready_under, NonePasses, IsNext, IsTaken, given, executed}
use Rattle.hmc_search.specs.Reached.{Leads}
use Rattle.hmc_search.specs.Reached.Leads.{Starts, Gives, Poisons, Executes, Takes, Retires}
use Rattle.hmc_search.specs.Standing.{picked}
use Rattle.hmc_search.proofs.Picking.{take_out, put_in, picked_none, first}
use Rattle.hmc_search.proofs.Searching.{tag_is, ready_is}

-- two places of one list
record Hit {X : Type 0} (before : List X) (w : X) (after front : List X) (n : X) (back : List X) : Type 0 where
  pub fronts : front ≡ before
  pub same : n ≡ w
  pub backs : back ≡ after

record Nearer {X : Type 0} (before : List X) (w : X) (after front : List X) (n : X) (back : List X) : Type 0 where
  pub mid : List X
  pub befores : before ≡ front ++ n ∷ mid
  pub backs : back ≡ mid ++ w ∷ after

record Farther {X : Type 0} (before : List X) (w : X) (after front : List X) (n : X) (back : List X) : Type 0 where
  pub mid : List X
  pub afters : after ≡ mid ++ n ∷ back
  pub fronts : front ≡ before ++ w ∷ mid

places : {X : Type 0} (before : List X) (w : X) (after front : List X) (n : X) (back : List X) → before ++ w ∷ after ≡ front ++ n ∷ back →
    Hit before w after front n back ⊎ (Nearer before w after front n back ⊎ Farther before w after front n back)
places [] w after [] n back is = inl (record { fronts = refl; same = cc; backs = cc })
places [] w after (x ∷ front) n back is = let one : x ≡ w = cc in inr (inr (record { mid = front; afters = cc; fronts = ap (λ v. v ∷ front) one }))
places (x ∷ before) w after [] n back is = let one : x ≡ n = cc in inr (inl (record { mid = before; befores = ap (λ v. v ∷ before) one; backs = cc }))
places (x ∷ before) w after (z ∷ front) n back is = let one : x ≡ z = cc in elim (places before w after front n back (cc)) [
  | inl h ↦ inl (record { fronts = ap (λ l. z ∷ l) h.fronts ∙ ap (λ v. v ∷ before) (sym one); same = h.same; backs = h.backs })
  | inr e ↦ elim e [
    | inl l ↦ inr (inl (record { mid = l.mid; befores = ap (λ v. v ∷ before) one ∙ ap (λ k. z ∷ k) l.befores; backs = l.backs }))
    | inr r ↦ inr (inr (record { mid = r.mid; afters = r.afters; fronts = ap (λ k. z ∷ k) r.fronts ∙ ap (λ v. v ∷ (before ++ w ∷ r.mid)) (sym one) }))
  ]
]

none_front : {X : Type 0} (test : X → Bool) (xs ys : List X) → NonePasses test (xs ++ ys) → NonePasses test xs
none_front test [] ys n = tt
none_front test (x ∷ xs) ys n = (n.0, none_front test xs ys n.1)

none_back : {X : Type 0} (test : X → Bool) (xs ys : List X) → NonePasses test (xs ++ ys) → NonePasses test ys
none_back test [] ys n = n
none_back test (x ∷ xs) ys n = none_back test xs ys n.1

none_both : {X : Type 0} (test : X → Bool) (xs ys : List X) → NonePasses test xs → NonePasses test ys → NonePasses test (xs ++ ys)
none_both test [] ys n m = m
none_both test (x ∷ xs) ys n m = (n.0, none_both test xs ys n.1 m)

none_without : {X : Type 0} (test : X → Bool) (xs : List X) (w : X) (ys : List X) → NonePasses test (xs ++ w ∷ ys) → NonePasses test (xs ++ ys)
none_without test xs w ys n = none_both test xs ys (none_front test xs (w ∷ ys) n) (none_back test xs (w ∷ ys) n).1

-- the answers ready under a tag
ready_of : (host tag : ℕ) → List Ready → List Answer
ready_of host tag ready = picked (ready_under host tag) (λ r. r.answer) ready

ready_more : (h t : ℕ) (ready : List Ready) (r : Ready) → ready_of h t (ready ++ r ∷ []) ≡ append_if (ready_under h t r) (r.answer ∷ []) (ready_of h t ready)
unfolding ready_of
ready_more h t ready r = sym (put_in (ready_under h t) (λ x. x.answer) ready r (picked (ready_under h t) (λ x. x.answer) ready) [] refl)

-- what taking an answer leaves
ready_less : (host tag : ℕ) (answer : Answer) (ready rest : List Ready) → IsTaken ready host tag answer rest → (h t : ℕ) →
    ready_of h t ready ≡ append_if ((host == h) && (tag == t)) (answer ∷ []) [] ++ ready_of h t rest
unfolding ready_of
ready_less host tag answer ready rest k h t =
    let w : Ready = record { host = host; tag = Some tag; answer = answer } in
    take_out (ready_under h t) (λ r. r.answer) k.before w k.after (picked (ready_under h t) (λ r. r.answer) ready) []
    (λ yes_it. let two = and_parts (host == h) (tag == t) yes_it in
    subst (λ x. NonePasses (ready_under x t) k.before) (eqb-true host h two.0) (subst (λ x. NonePasses (ready_under host x) k.before) (eqb-true tag t two.1) k.none))
    (ap (λ l. picked (ready_under h t) (λ r. r.answer) l) k.parts)
    ∙ ap (λ l. append_if ((host == h) && (tag == t)) (answer ∷ []) [] ++ picked (ready_under h t) (λ r. r.answer) l) (sym k.left)

record CanTake (ready : List Ready) (host tag : ℕ) (answer : Answer) : Type 0 where
  pub rest : List Ready
  pub taken : IsTaken ready host tag answer rest

can_take : (host tag : ℕ) (answer : Answer) (more : List Answer) (ready : List Ready) → ready_of host tag ready ≡ answer ∷ more → CanTake ready host tag answer
unfolding ready_of
can_take host tag answer more ready is =
    let f = first (ready_under host tag) (λ r. r.answer) ready answer more is in
    let two = and_parts (f.w.host == host) (same_tag f.w.tag tag) f.passes in
    let same : f.w ≡ record { host = host; tag = Some tag; answer = answer } = ready_is f.w host (Some tag) answer (eqb-true f.w.host host two.0) (tag_is f.w.tag tag two.1) f.shows in
    record { rest = f.before ++ f.after; taken = record { before = f.before; after = f.after; parts = f.parts ∙ ap (λ w. f.before ++ w ∷ f.after) same; left = refl; none = f.none } }

own_tag : (host tag : ℕ) → ((host == host) && (tag == tag)) ≡ true
own_tag host tag = ap (λ b. b && (tag == tag)) (eq-eqb host host refl) ∙ eq-eqb tag tag refl

at_own : (host tag : ℕ) (answer : Answer) (ready rest : List Ready) → IsTaken ready host tag answer rest → ready_of host tag ready ≡ answer ∷ ready_of host tag rest
at_own host tag answer ready rest k = ready_less host tag answer ready rest k host tag
    ∙ ap (λ b. append_if b (answer ∷ []) [] ++ ready_of host tag rest) (own_tag host tag)

front_kept : (b : Bool) (a y : Answer) (back : List Answer) → append_if b (a ∷ []) (y ∷ back) ≡ y ∷ append_if b (a ∷ []) back
front_kept true a y back = refl
front_kept false a y back = refl

false_of : (b : Bool) → (b ≡ true → ⊥) → b ≡ false
false_of true f = absurd (f refl)
false_of false f = refl

-- what is left is the same where all was
left_same : (host tag : ℕ) (z : Answer) (rd restd rc restc : List Ready) → IsTaken rd host tag z restd → IsTaken rc host tag z restc → (h t : ℕ) →
    ready_of h t rd ≡ ready_of h t rc → ready_of h t restd ≡ ready_of h t restc
left_same host tag z rd restd rc restc kd kc h t is =
    append_cancel_left (append_if ((host == h) && (tag == t)) (z ∷ []) []) (ready_of h t restd) (ready_of h t restc)
    (sym (ready_less host tag z rd restd kd h t) ∙ is ∙ ready_less host tag z rc restc kc h t)

other_less : (host tag : ℕ) (z : Answer) (ready rest : List Ready) → IsTaken ready host tag z rest → (h t : ℕ) → ((host == h) && (tag == t)) ≡ false →
    ready_of h t ready ≡ ready_of h t rest
other_less host tag z ready rest k h t is = ready_less host tag z ready rest k h t ∙ ap (λ b. append_if b (z ∷ []) [] ++ ready_of h t rest) is

other_tag : (w : Waiting) (host tag h t : ℕ) → under_tag host tag w ≡ false → under_tag h t w ≡ true → ((host == h) && (tag == t)) ≡ false
other_tag w host tag h t apart here = false_of ((host == h) && (tag == t)) (λ both.
    let two = and_parts (host == h) (tag == t) both in
    let moved : under_tag host tag w ≡ true = ap (λ x. under_tag x tag w) (eqb-true host h two.0) ∙ ap (λ x. under_tag h x w) (eqb-true tag t two.1) ∙ here in
    absurd (cc (moved, apart)))

first_earlier : (w : Waiting) (y : Answer) (e : Entry) (log : List Entry) → IsFirstAnswer w y (e ∷ log) → IsFirstAnswer w y log
first_earlier w y e log f = λ later earlier host tag taken is under none. f (e ∷ later) earlier host tag taken (ap (λ l. e ∷ l) is) under none

module _ (topology : Topology) (w : Waiting) (y : Answer) where
  -- two states that hold the same
  record Same (d c : Point) : Type 0 where
    pub machine : d.machine ≡ c.machine
    pub waiting : d.waiting ≡ c.waiting
    pub ready : (h t : ℕ) → ready_of h t d.ready ≡ ready_of h t c.ready

  -- the second executed the request later, and its answer isn't taken
  record Late (d c : Point) : Type 0 where
    pub machine : d.machine ≡ c.machine
    pub waiting : d.waiting ≡ c.waiting
    pub late : Answer
    pub back : (h t : ℕ) → List Answer
    pub early : (h t : ℕ) → under_tag h t w ≡ true → ready_of h t d.ready ≡ y ∷ back h t
    pub lately : (h t : ℕ) → under_tag h t w ≡ true → ready_of h t c.ready ≡ late ∷ back h t
    pub others : (h t : ℕ) → under_tag h t w ≡ false → ready_of h t d.ready ≡ ready_of h t c.ready

  -- the second has yet to execute it
  record Ahead (d c : Point) : Type 0 where
    pub machine : d.machine ≡ c.machine
    pub before : List Waiting
    pub after : List Waiting
    pub waits : c.waiting ≡ before ++ w ∷ after
    pub gone : d.waiting ≡ before ++ after
    pub tag : (h t : ℕ) → under_tag h t w ≡ true → NonePasses (under_tag h t) before
    pub early : (h t : ℕ) → under_tag h t w ≡ true → ready_of h t d.ready ≡ y ∷ []
    pub none : (h t : ℕ) → under_tag h t w ≡ true → ready_of h t c.ready ≡ []
    pub others : (h t : ℕ) → under_tag h t w ≡ false → ready_of h t d.ready ≡ ready_of h t c.ready

  record Follows (a : Point) (log : List Entry) (c : Point) : Type 0 where
    pub point : Point
    pub leads : Leads topology a log point
    pub rel : (Ahead point c × HasNoAnswer w log) ⊎ ((Late point c × HasNoAnswer w log) ⊎ Same point c)

  -- a request is given to both
  more_ahead : (d c : Point) (v : Waiting) → Ahead d c → Ahead (given d v) (given c v)
  more_ahead d c v s = record {
    machine = s.machine;
    before = s.before;
    after = s.after ++ v ∷ [];
    waits = ap (λ l. l ++ v ∷ []) s.waits ∙ append_assoc s.before (w ∷ s.after) (v ∷ []);
    gone = ap (λ l. l ++ v ∷ []) s.gone ∙ append_assoc s.before s.after (v ∷ []);
    tag = s.tag;
    early = s.early;
    none = s.none;
    others = s.others;
  }

  more_late : (d c : Point) (v : Waiting) → Late d c → Late (given d v) (given c v)
  more_late d c v s = record { machine = s.machine; waiting = ap (λ l. l ++ v ∷ []) s.waiting; late = s.late; back = s.back; early = s.early; lately = s.lately; others = s.others }

  more_same : (d c : Point) (v : Waiting) → Same d c → Same (given d v) (given c v)
  more_same d c v s = record { machine = s.machine; waiting = ap (λ l. l ++ v ∷ []) s.waiting; ready = s.ready }

  -- a unit is retired in both
  less_ahead : (d c : Point) (slot : ℕ) → Ahead d c → Ahead (record d { machine = retire d.machine slot }) (record c { machine = retire c.machine slot })
  less_ahead d c slot s = record { machine = ap (λ m. retire m slot) s.machine; before = s.before; after = s.after; waits = s.waits; gone = s.gone; tag = s.tag; early = s.early; none = s.none; others = s.others }

  less_late : (d c : Point) (slot : ℕ) → Late d c → Late (record d { machine = retire d.machine slot }) (record c { machine = retire c.machine slot })
  less_late d c slot s = record { machine = ap (λ m. retire m slot) s.machine; waiting = s.waiting; late = s.late; back = s.back; early = s.early; lately = s.lately; others = s.others }

  less_same : (d c : Point) (slot : ℕ) → Same d c → Same (record d { machine = retire d.machine slot }) (record c { machine = retire c.machine slot })
  less_same d c slot s = record { machine = ap (λ m. retire m slot) s.machine; waiting = s.waiting; ready = s.ready }

  -- what both execute they answer alike
  both_ready : (d c : Point) (n : Waiting) (restd restc : List Waiting) → d.machine ≡ c.machine → (h t : ℕ) → ready_of h t d.ready ≡ ready_of h t c.ready →
      ready_of h t (executed d n restd).ready ≡ ready_of h t (executed c n restc).ready
  both_ready d c n restd restc machine h t is =
      ready_more h t d.ready (record { host = n.host; tag = n.tag; answer = answer_to d.machine n.request })
      ∙ ap (λ m. append_if (under_tag h t n) (answer_to m n.request ∷ []) (ready_of h t d.ready)) machine
      ∙ ap (λ l. append_if (under_tag h t n) (answer_to c.machine n.request ∷ []) l) is
      ∙ sym (ready_more h t c.ready (record { host = n.host; tag = n.tag; answer = answer_to c.machine n.request }))

  run_same : (d c : Point) (n : Waiting) (rest : List Waiting) → Same d c → Same (executed d n rest) (executed c n rest)
  run_same d c n rest s = record {
    machine = ap (λ m. apply m n.request) s.machine;
    waiting = refl;
    ready = λ h t. both_ready d c n rest rest s.machine h t (s.ready h t);
  }

  run_late : (d c : Point) (n : Waiting) (rest : List Waiting) → Late d c → Late (executed d n rest) (executed c n rest)
  run_late d c n rest s = record {
    machine = ap (λ m. apply m n.request) s.machine;
    waiting = refl;
    late = s.late;
    back = λ h t. append_if (under_tag h t n) (answer_to c.machine n.request ∷ []) (s.back h t);
    early = λ h t u. ready_more h t d.ready (record { host = n.host; tag = n.tag; answer = answer_to d.machine n.request })
        ∙ ap (λ m. append_if (under_tag h t n) (answer_to m n.request ∷ []) (ready_of h t d.ready)) s.machine
        ∙ ap (λ l. append_if (under_tag h t n) (answer_to c.machine n.request ∷ []) l) (s.early h t u)
        ∙ front_kept (under_tag h t n) (answer_to c.machine n.request) y (s.back h t);
    lately = λ h t u. ready_more h t c.ready (record { host = n.host; tag = n.tag; answer = answer_to c.machine n.request })
        ∙ ap (λ l. append_if (under_tag h t n) (answer_to c.machine n.request ∷ []) l) (s.lately h t u)
        ∙ front_kept (under_tag h t n) (answer_to c.machine n.request) s.late (s.back h t);
    others = λ h t u. both_ready d c n rest rest s.machine h t (s.others h t u);
  }

  -- another one is executed in both
  run_ahead : (d c : Point) (n : Waiting) (restd restc before after : List Waiting) → Ahead d c → restc ≡ before ++ w ∷ after → restd ≡ before ++ after →
      ((h t : ℕ) → under_tag h t w ≡ true → NonePasses (under_tag h t) before) → ((h t : ℕ) → under_tag h t w ≡ true → under_tag h t n ≡ false) →
      Ahead (executed d n restd) (executed c n restc)
  run_ahead d c n restd restc before after s waits gone tag apart = record {
    machine = ap (λ m. apply m n.request) s.machine;
    before = before;
    after = after;
    waits = waits;
    gone = gone;
    tag = tag;
    early = λ h t u. ready_more h t d.ready (record { host = n.host; tag = n.tag; answer = answer_to d.machine n.request })
        ∙ ap (λ b. append_if b (answer_to d.machine n.request ∷ []) (ready_of h t d.ready)) (apart h t u) ∙ s.early h t u;
    none = λ h t u. ready_more h t c.ready (record { host = n.host; tag = n.tag; answer = answer_to c.machine n.request })
        ∙ ap (λ b. append_if b (answer_to c.machine n.request ∷ []) (ready_of h t c.ready)) (apart h t u) ∙ s.none h t u;
    others = λ h t u. both_ready d c n restd restc s.machine h t (s.others h t u);
  }

  -- the second executes it at last
  run_own : (d c : Point) (rest : List Waiting) → apply c.machine w.request ≡ c.machine → Ahead d c → d.waiting ≡ rest → Late d (executed c w rest)
  run_own d c rest pure s same = record {
    machine = s.machine ∙ sym pure;
    waiting = same;
    late = answer_to c.machine w.request;
    back = λ h t. [];
    early = s.early;
    lately = λ h t u. ready_more h t c.ready (record { host = w.host; tag = w.tag; answer = answer_to c.machine w.request })
        ∙ ap (λ b. append_if b (answer_to c.machine w.request ∷ []) (ready_of h t c.ready)) u
        ∙ ap (λ l. l ++ answer_to c.machine w.request ∷ []) (s.none h t u);
    others = λ h t u. s.others h t u ∙ sym (ready_more h t c.ready (record { host = w.host; tag = w.tag; answer = answer_to c.machine w.request })
        ∙ ap (λ b. append_if b (answer_to c.machine w.request ∷ []) (ready_of h t c.ready)) u);
  }

  record Stepped (a : Point) (log : List Entry) (c : Point) : Type 0 where
    pub point : Point
    pub leads : Leads topology a log point
    pub rel : Ahead point c ⊎ Late point c

  step_ahead : (a : Point) (log : List Entry) (d c : Point) (n : Waiting) (rest : List Waiting) → apply c.machine w.request ≡ c.machine →
      IsNext topology c.waiting n rest → Ahead d c → Leads topology a log d → Stepped a log (executed c n rest)
  step_ahead a log d c n rest pure nx s r = elim (places s.before w s.after nx.before n nx.after (sym s.waits ∙ nx.parts)) [
    | inl h ↦ record {
      point = d;
      leads = r;
      rel = inr (subst (λ (v : Waiting). Late d (executed c v rest)) (sym h.same)
          (run_own d c rest pure s (s.gone ∙ ap (λ l. l ++ s.after) (sym h.fronts) ∙ ap (λ l. nx.before ++ l) (sym h.backs) ∙ sym nx.left)));
    }
    | inr e ↦ elim e [
      | inl l ↦
          let restd : List Waiting = nx.before ++ (l.mid ++ s.after) in
          let here : IsNext topology d.waiting n restd = record {
            before = nx.before;
            after = l.mid ++ s.after;
            parts = s.gone ∙ ap (λ k. k ++ s.after) l.befores ∙ append_assoc nx.before (n ∷ l.mid) s.after;
            left = refl;
            lane = nx.lane;
            tag = nx.tag;
          } in
          record {
            point = executed d n restd;
            leads = Executes n restd here r;
            rel = inl (run_ahead d c n restd rest (nx.before ++ l.mid) s.after s
                (nx.left ∙ ap (λ k. nx.before ++ k) l.backs ∙ sym (append_assoc nx.before l.mid (w ∷ s.after)))
                (sym (append_assoc nx.before l.mid s.after))
                (λ h t u. none_without (under_tag h t) nx.before n l.mid (subst (NonePasses (under_tag h t)) l.befores (s.tag h t u)))
                (λ h t u. (none_back (under_tag h t) nx.before (n ∷ l.mid) (subst (NonePasses (under_tag h t)) l.befores (s.tag h t u))).0));
          }
      | inr f ↦
          let restd : List Waiting = (s.before ++ f.mid) ++ nx.after in
          let here : IsNext topology d.waiting n restd = record {
            before = s.before ++ f.mid;
            after = nx.after;
            parts = s.gone ∙ ap (λ k. s.before ++ k) f.afters ∙ sym (append_assoc s.before f.mid (n ∷ nx.after));
            left = refl;
            lane = none_without (in_lane topology n.host (unit_in topology n.request)) s.before w f.mid (subst (NonePasses (in_lane topology n.host (unit_in topology n.request))) f.fronts nx.lane);
            tag = λ t is. none_without (under_tag n.host t) s.before w f.mid (subst (NonePasses (under_tag n.host t)) f.fronts (nx.tag t is));
          } in
          record {
            point = executed d n restd;
            leads = Executes n restd here r;
            rel = inl (run_ahead d c n restd rest s.before (f.mid ++ nx.after) s
                (nx.left ∙ ap (λ k. k ++ nx.after) f.fronts ∙ append_assoc s.before (w ∷ f.mid) nx.after)
                (append_assoc s.before f.mid nx.after)
                s.tag
                (λ h t u. false_of (under_tag h t n) (λ v.
                let two = and_parts (n.host == h) (same_tag n.tag t) v in
                let no_w : under_tag n.host t w ≡ false = (none_back (under_tag n.host t) s.before (w ∷ f.mid) (subst (NonePasses (under_tag n.host t)) f.fronts (nx.tag t (tag_is n.tag t two.1)))).0 in
                let moved : under_tag n.host t w ≡ true = ap (λ x. under_tag x t w) (eqb-true n.host h two.0) ∙ u in
                absurd (cc (no_w, moved)))));
          }
    ]
  ]

  -- an answer is taken in both
  record TakenToo (d c : Point) (host tag : ℕ) (z : Answer) (R : Point → Type 0) : Type 0 where
    pub rest : List Ready
    pub taken : IsTaken d.ready host tag z rest
    pub rel : R (record d { ready = rest })

  take_same : (d c : Point) (host tag : ℕ) (z : Answer) (rest : List Ready) → IsTaken c.ready host tag z rest → Same d c →
      TakenToo d c host tag z (λ p. Same p (record c { ready = rest }))
  take_same d c host tag z rest k s =
      let t = can_take host tag z (ready_of host tag rest) d.ready (s.ready host tag ∙ at_own host tag z c.ready rest k) in record {
        rest = t.rest;
        taken = t.taken;
        rel = record { machine = s.machine; waiting = s.waiting; ready = λ h g. left_same host tag z d.ready t.rest c.ready rest t.taken k h g (s.ready h g) };
      }

  take_late : (d c : Point) (host tag : ℕ) (z : Answer) (rest : List Ready) → IsTaken c.ready host tag z rest → Late d c → under_tag host tag w ≡ false →
      TakenToo d c host tag z (λ p. Late p (record c { ready = rest }))
  take_late d c host tag z rest k s apart =
      let t = can_take host tag z (ready_of host tag rest) d.ready (s.others host tag apart ∙ at_own host tag z c.ready rest k) in record {
        rest = t.rest;
        taken = t.taken;
        rel = record {
          machine = s.machine;
          waiting = s.waiting;
          late = s.late;
          back = s.back;
          early = λ h g u. sym (other_less host tag z d.ready t.rest t.taken h g (other_tag w host tag h g apart u)) ∙ s.early h g u;
          lately = λ h g u. sym (other_less host tag z c.ready rest k h g (other_tag w host tag h g apart u)) ∙ s.lately h g u;
          others = λ h g u. left_same host tag z d.ready t.rest c.ready rest t.taken k h g (s.others h g u);
        };
      }

  take_ahead : (d c : Point) (host tag : ℕ) (z : Answer) (rest : List Ready) → IsTaken c.ready host tag z rest → Ahead d c → under_tag host tag w ≡ false →
      TakenToo d c host tag z (λ p. Ahead p (record c { ready = rest }))
  take_ahead d c host tag z rest k s apart =
      let t = can_take host tag z (ready_of host tag rest) d.ready (s.others host tag apart ∙ at_own host tag z c.ready rest k) in record {
        rest = t.rest;
        taken = t.taken;
        rel = record {
          machine = s.machine;
          before = s.before;
          after = s.after;
          waits = s.waits;
          gone = s.gone;
          tag = s.tag;
          early = λ h g u. sym (other_less host tag z d.ready t.rest t.taken h g (other_tag w host tag h g apart u)) ∙ s.early h g u;
          none = λ h g u. sym (other_less host tag z c.ready rest k h g (other_tag w host tag h g apart u)) ∙ s.none h g u;
          others = λ h g u. left_same host tag z d.ready t.rest c.ready rest t.taken k h g (s.others h g u);
        };
      }

  -- where the late answer is the early one, both hold the same
  even : (d c : Point) (s : Late d c) → s.late ≡ y → Same d c
  even d c s is = record { machine = s.machine; waiting = s.waiting; ready = λ h t. by h t (under_tag h t w) refl }
    where
      by : (h t : ℕ) (b : Bool) → under_tag h t w ≡ b → ready_of h t d.ready ≡ ready_of h t c.ready
      by h t true u = s.early h t u ∙ ap (λ a. a ∷ s.back h t) (sym is) ∙ sym (s.lately h t u)
      by h t false u = s.others h t u

  late_is : (d c : Point) (host tag : ℕ) (z : Answer) (rest : List Ready) → IsTaken c.ready host tag z rest → (s : Late d c) → under_tag host tag w ≡ true → s.late ≡ z
  late_is d c host tag z rest k s u = let heads : s.late ∷ s.back host tag ≡ z ∷ ready_of host tag rest = sym (s.lately host tag u) ∙ at_own host tag z c.ready rest k in cc

  not_ahead : (d c : Point) (host tag : ℕ) (z : Answer) (rest : List Ready) → IsTaken c.ready host tag z rest → Ahead d c → under_tag host tag w ≡ true → ⊥
  not_ahead d c host tag z rest k s u = let heads : [] ≡ z ∷ ready_of host tag rest = sym (s.none host tag u) ∙ at_own host tag z c.ready rest k in absurd (cc)

  takes_too : (a : Point) (log : List Entry) (c : Point) (host tag : ℕ) (z : Answer) (rest : List Ready) → IsTaken c.ready host tag z rest →
      IsFirstAnswer w y (Took host tag z ∷ log) → Follows a log c → Follows a (Took host tag z ∷ log) (record c { ready = rest })
  takes_too a log c host tag z rest k f g = by (under_tag host tag w) refl
    where
      same : Same g.point c → Follows a (Took host tag z ∷ log) (record c { ready = rest })
      same s = let t = take_same g.point c host tag z rest k s in record {
        point = record g.point { ready = t.rest };
        leads = Takes host tag z t.rest t.taken g.leads;
        rel = inr (inr t.rel);
      }

      by : (b : Bool) → under_tag host tag w ≡ b → Follows a (Took host tag z ∷ log) (record c { ready = rest })
      by true u = elim g.rel [
        | inl s ↦ absurd (not_ahead g.point c host tag z rest k s.0 u)
        | inr e ↦ elim e [
          | inl s ↦ same (even g.point c s.0 (late_is g.point c host tag z rest k s.0 u ∙ f [] log host tag z refl u s.1))
          | inr s ↦ same s
        ]
      ]
      by false u = elim g.rel [
        | inl s ↦ let t = take_ahead g.point c host tag z rest k s.0 u in record {
          point = record g.point { ready = t.rest };
          leads = Takes host tag z t.rest t.taken g.leads;
          rel = inl (t.rel, (u, s.1));
        }
        | inr e ↦ elim e [
          | inl s ↦ let t = take_late g.point c host tag z rest k s.0 u in record {
            point = record g.point { ready = t.rest };
            leads = Takes host tag z t.rest t.taken g.leads;
            rel = inr (inl (t.rel, (u, s.1)));
          }
          | inr s ↦ same s
        ]
      ]

  runs_too : (a : Point) (log : List Entry) (c : Point) (n : Waiting) (rest : List Waiting) → apply c.machine w.request ≡ c.machine →
      IsNext topology c.waiting n rest → Follows a log c → Follows a log (executed c n rest)
  runs_too a log c n rest pure nx g = elim g.rel [
    | inl s ↦ let t = step_ahead a log g.point c n rest pure nx s.0 g.leads in record {
      point = t.point;
      leads = t.leads;
      rel = elim t.rel [
        | inl q ↦ inl (q, s.1)
        | inr q ↦ inr (inl (q, s.1))
      ];
    }
    | inr e ↦ elim e [
      | inl s ↦ record { point = executed g.point n rest; leads = Executes n rest (subst (λ l. IsNext topology l n rest) (sym s.0.waiting) nx) g.leads; rel = inr (inl (run_late g.point c n rest s.0, s.1)) }
      | inr s ↦ record { point = executed g.point n rest; leads = Executes n rest (subst (λ l. IsNext topology l n rest) (sym s.waiting) nx) g.leads; rel = inr (inr (run_same g.point c n rest s)) }
    ]
  ]

  gives_too : (a : Point) (log : List Entry) (c : Point) (host : ℕ) (tag : Option ℕ) (request : RequestFields) → Follows a log c →
      Follows a (Gave host tag false request ∷ log) (given c (record { host = host; tag = tag; request = request }))
  gives_too a log c host tag request g = let v : Waiting = record { host = host; tag = tag; request = request } in record {
    point = given g.point v;
    leads = Gives host tag request g.leads;
    rel = elim g.rel [
      | inl s ↦ inl (more_ahead g.point c v s.0, s.1)
      | inr e ↦ inr (elim e [ inl s ↦ inl (more_late g.point c v s.0, s.1) | inr s ↦ inr (more_same g.point c v s) ])
    ];
  }

  retires_too : (a : Point) (log : List Entry) (c : Point) (slot : ℕ) → Follows a log c → Follows a (Retired slot ∷ log) (record c { machine = retire c.machine slot })
  retires_too a log c slot g = record {
    point = record g.point { machine = retire g.point.machine slot };
    leads = Retires slot g.leads;
    rel = elim g.rel [
      | inl s ↦ inl (less_ahead g.point c slot s.0, s.1)
      | inr e ↦ inr (elim e [ inl s ↦ inl (less_late g.point c slot s.0, s.1) | inr s ↦ inr (less_same g.point c slot s) ])
    ];
  }

  follow : (b : Point) (a : Point) {log : List Entry} {c : Point} → Leads topology b log c →
      ((past : List Entry) (later : Point) → Leads topology b past later → apply later.machine w.request ≡ later.machine) → Ahead a b → IsFirstAnswer w y log → Follows a log c
  follow b a Starts pure s f = record { point = a; leads = Starts; rel = inl (s, tt) }
  follow b a (Gives {log} {point} host tag request r) pure s f =
      gives_too a log point host tag request (follow b a r pure s (first_earlier w y (Gave host tag false request) log f))
  follow b a (Poisons {log} {point} host request r) pure s f =
      let g = follow b a r pure s (first_earlier w y (Gave host None true request) log f) in
      record { point = g.point; leads = Poisons host request g.leads; rel = g.rel }
  follow b a (Executes {log} {point} n rest nx r) pure s f = runs_too a log point n rest (pure log point r) nx (follow b a r pure s f)
  follow b a (Takes {log} {point} host tag z rest k r) pure s f =
      takes_too a log point host tag z rest k f (follow b a r pure s (first_earlier w y (Took host tag z) log f))
  follow b a (Retires {log} {point} slot r) pure s f = retires_too a log point slot (follow b a r pure s (first_earlier w y (Retired slot) log f))

module _ (topology : Topology) where
  ready_none : (h t : ℕ) (ready : List Ready) → NonePasses (ready_under h t) ready → ready_of h t ready ≡ []
  unfolding ready_of
  ready_none h t ready n = picked_none (ready_under h t) (λ r. r.answer) ready n

  -- Where a state leads on, it does so too once such a request was executed.
  pub early_leads : (b : Point) (w : Waiting) (rest : List Waiting) (log : List Entry) (c : Point) → IsNext topology b.waiting w rest → IsEarly topology b w log →
      Leads topology b log c → (d : Point) × Leads topology (executed b w rest) log d
  early_leads b w rest log c nx e r =
      let y = answer_to b.machine w.request in
      let a = executed b w rest in
      let own : Ready = record { host = w.host; tag = w.tag; answer = y } in
      let s : Ahead topology w y a b = record {
        machine = e.pure [] b Starts;
        before = nx.before;
        after = nx.after;
        waits = nx.parts;
        gone = nx.left;
        tag = λ h t u. let two = and_parts (w.host == h) (same_tag w.tag t) u in
            subst (λ x. NonePasses (under_tag x t) nx.before) (eqb-true w.host h two.0) (nx.tag t (tag_is w.tag t two.1));
        early = λ h t u. ready_more h t b.ready own ∙ ap (λ q. append_if q (y ∷ []) (ready_of h t b.ready)) u ∙ ap (λ l. l ++ y ∷ []) (ready_none h t b.ready (e.alone h t u));
        none = λ h t u. ready_none h t b.ready (e.alone h t u);
        others = λ h t u. ready_more h t b.ready own ∙ ap (λ q. append_if q (y ∷ []) (ready_of h t b.ready)) u;
      } in
      let g = follow topology w y b a r e.pure s e.answer in
      (g.point, g.leads)
