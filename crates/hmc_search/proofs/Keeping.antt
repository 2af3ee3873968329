-- The states that the simplest search keeps decide whether a log is explained.
use Rattle.std.proofs.Common.{◌≡◌, ◌∙◌, ◌≤◌, ◌+◌, ℕ, zero, suc, Bool, true, false, Option, Some, None, List, [], ◌∷◌, ◌++◌, length, refl, sym, ap, subst, inl, inr, ◌⊎◌, arith}
use Rattle.std.specs.Prelude.{◌==◌, ◌&&◌, not}
use Rattle.std.proofs.lemmas.Bool.{eq-eqb, eqb-true, and_parts}
use Rattle.std.proofs.lemmas.List.{append_assoc, append-nil, length-append}
use Rattle.std.proofs.lemmas.Slice.Eq.{bytes_eq-Decides}
use Rattle.std.specs.Str.{bytes_eq}
use Rattle.hmc_codes.specs.declared.answer.Answer.{Answer}
use Rattle.hmc_codes.specs.declared.answer.Answer.TheVariants.{Silent, Done, Read, Register, Stored, Refused}
use Rattle.hmc_serial.specs.Machine.{State, retire}
use Rattle.hmc_entries.specs.declared.entry.Entry.{Entry}
use Rattle.hmc_entries.specs.declared.entry.Entry.TheVariants.{Gave, Took, Retired}
use Rattle.hmc_journal.specs.Setup.{Topology, unit_in}
use Rattle.hmc_search.specs.Point.{Waiting, Ready, Point, start_at, in_lane, under_tag, ready_under, NonePasses, IsNext, IsTaken, given, executed}
use Rattle.hmc_search.specs.Reached.{Leads, Reaches, IsUntagged}
use Rattle.hmc_search.specs.Reached.Leads.{Starts, Gives, Poisons, Executes, Takes, Retires}
use Rattle.hmc_search.specs.Standing.{front_if}
use Rattle.hmc_search.specs.Kept.{In, gathered, same_flag, same_answer, shares_tag, is_free, Choice, choices, Hand, after_one, hand_if, hand, by_hand, takes, retires, given_each, kept}
use Rattle.hmc_seen.specs.Explained.{IsExplained}
use Rattle.hmc_search.proofs.Searching.{tag_is, ready_is, reached_explained, explained_reached}
use Rattle.hmc_search.proofs.Leading.{joined, parted, gave_leads, poisoned_leads, took_leads, ready_leads, retired_leads, AtHand, Onward}

-- members
in_left : {X : Type 0} (x : X) (xs ys : List X) → In x xs → In x (xs ++ ys)
in_left x [] ys i = absurd i
in_left x (y ∷ xs) ys (inl e) = inl e
in_left x (y ∷ xs) ys (inr i) = inr (in_left x xs ys i)

in_right : {X : Type 0} (x : X) (xs ys : List X) → In x ys → In x (xs ++ ys)
in_right x [] ys i = i
in_right x (y ∷ xs) ys i = inr (in_right x xs ys i)

in_either : {X : Type 0} (x : X) (xs ys : List X) → In x (xs ++ ys) → In x xs ⊎ In x ys
in_either x [] ys i = inr i
in_either x (y ∷ xs) ys (inl e) = inl (inl e)
in_either x (y ∷ xs) ys (inr i) = elim (in_either x xs ys i) [ inl a ↦ inl (inr a) | inr b ↦ inr b ]

in_gathered : {X Y : Type 0} (f : X → List Y) (x : X) (xs : List X) (y : Y) → In x xs → In y (f x) → In y (gathered f xs)
unfolding gathered
in_gathered f x [] y i j = absurd i
in_gathered f x (z ∷ xs) y (inl e) j = in_left y (f z) (gathered f xs) (subst (λ v. In y (f v)) e j)
in_gathered f x (z ∷ xs) y (inr i) j = in_right y (f z) (gathered f xs) (in_gathered f x xs y i j)

record From {X Y : Type 0} (f : X → List Y) (xs : List X) (y : Y) : Type 0 where
  pub x : X
  pub there : In x xs
  pub gives : In y (f x)

gathered_from : {X Y : Type 0} (f : X → List Y) (xs : List X) (y : Y) → In y (gathered f xs) → From f xs y
unfolding gathered
gathered_from f [] y i = absurd i
gathered_from f (x ∷ xs) y i = elim (in_either y (f x) (gathered f xs) i) [
  | inl a ↦ record { x = x; there = inl refl; gives = a }
  | inr b ↦ let g = gathered_from f xs y b in record { x = g.x; there = inr g.there; gives = g.gives }
]

-- tests of answers
flag_same : (a b : Bool) → same_flag a b ≡ true → a ≡ b
flag_same true true e = refl
flag_same true false e = absurd (cc)
flag_same false true e = absurd (cc)
flag_same false false e = refl

flag_self : (a : Bool) → same_flag a a ≡ true
flag_self true = refl
flag_self false = refl

pub answer_self : (a : Answer) → same_answer a a ≡ true
answer_self Silent = refl
answer_self (Done f) = flag_self f
answer_self (Read f xs) = ap (λ b. b && bytes_eq xs xs) (flag_self f) ∙ (bytes_eq-Decides xs xs).1 refl
answer_self (Register n) = eq-eqb n n refl
answer_self Stored = refl
answer_self (Refused n) = eq-eqb n n refl

pub answer_is : (a b : Answer) → same_answer a b ≡ true → a ≡ b
answer_is Silent Silent e = refl
answer_is (Done f) (Done g) e = ap Done (flag_same f g e)
answer_is (Read f xs) (Read g ys) e = let two = and_parts (same_flag f g) (bytes_eq xs ys) e in
    ap (λ b. Read b xs) (flag_same f g two.0) ∙ ap (Read g) ((bytes_eq-Decides xs ys).0 two.1)
answer_is (Register n) (Register m) e = ap Register (eqb-true n m e)
answer_is Stored Stored e = refl
answer_is (Refused n) (Refused m) e = ap Refused (eqb-true n m e)
answer_is _ _ e = absurd (cc)

-- what can be executed next
not_true : (b : Bool) → not b ≡ true → b ≡ false
not_true true e = absurd (cc)
not_true false e = refl

module _ (topology : Topology) where
  free_lane : (w : Waiting) (before : List Waiting) → is_free topology w before ≡ true → NonePasses (in_lane topology w.host (unit_in topology w.request)) before
  unfolding is_free
  free_lane w [] e = tt
  free_lane w (b ∷ before) e =
      let lane = in_lane topology w.host (unit_in topology w.request) b in
      let one = and_parts (not lane) (not (shares_tag w.host w.tag b) && is_free topology w before) e in
      let two = and_parts (not (shares_tag w.host w.tag b)) (is_free topology w before) one.1 in
      (not_true lane one.0, free_lane w before two.1)

  free_tag : (w : Waiting) (before : List Waiting) → is_free topology w before ≡ true → (t : ℕ) → w.tag ≡ Some t → NonePasses (under_tag w.host t) before
  unfolding is_free
  free_tag w [] e t is = tt
  free_tag w (b ∷ before) e t is =
      let lane = in_lane topology w.host (unit_in topology w.request) b in
      let one = and_parts (not lane) (not (shares_tag w.host w.tag b) && is_free topology w before) e in
      let two = and_parts (not (shares_tag w.host w.tag b)) (is_free topology w before) one.1 in
      (ap (λ g. shares_tag w.host g b) (sym is) ∙ not_true (shares_tag w.host w.tag b) two.0, free_tag w before two.1 t is)

  no_share : (w b : Waiting) (g : Option ℕ) → w.tag ≡ g → ((t : ℕ) → w.tag ≡ Some t → under_tag w.host t b ≡ false) → shares_tag w.host g b ≡ false
  no_share w b None is f = refl
  no_share w b (Some t) is f = f t is

  is_free_of : (w : Waiting) (before : List Waiting) → NonePasses (in_lane topology w.host (unit_in topology w.request)) before →
      ((t : ℕ) → w.tag ≡ Some t → NonePasses (under_tag w.host t) before) → is_free topology w before ≡ true
  unfolding is_free
  is_free_of w [] n f = refl
  is_free_of w (b ∷ before) n f =
      let rest = not (shares_tag w.host w.tag b) && is_free topology w before in
      ap (λ l. not l && rest) n.0
      ∙ ap (λ l. not l && is_free topology w before) (no_share w b w.tag refl (λ t is. (f t is).0))
      ∙ is_free_of w before n.1 (λ t is. (f t is).1)

  one_choice : (b : Bool) (w : Waiting) (left : List Waiting) (more : List Choice) (c : Choice) → In c (front_if b (record { next = w; rest = left }) more) →
      ((b ≡ true) × (c ≡ record { next = w; rest = left })) ⊎ In c more
  one_choice true w left more c (inl e) = inl (refl, e)
  one_choice true w left more c (inr i) = inr i
  one_choice false w left more c i = inr i

  choice_next : (before after : List Waiting) (c : Choice) → In c (choices topology before after) → IsNext topology (before ++ after) c.next c.rest
  unfolding choices
  choice_next before [] c i = absurd i
  choice_next before (w ∷ after) c i =
      elim (one_choice (is_free topology w before) w (before ++ after) (choices topology (before ++ w ∷ []) after) c i) [
        | inl e ↦ subst (λ (d : Choice). IsNext topology (before ++ w ∷ after) d.next d.rest) (sym e.1)
            (record { before = before; after = after; parts = refl; left = refl; lane = free_lane w before e.0; tag = free_tag w before e.0 })
        | inr j ↦ subst (λ l. IsNext topology l c.next c.rest) (append_assoc before (w ∷ []) after) (choice_next (before ++ w ∷ []) after c j)
      ]

  more_choices : (b : Bool) (d : Choice) (more : List Choice) (c : Choice) → In c more → In c (front_if b d more)
  more_choices true d more c i = inr i
  more_choices false d more c i = i

  the_choice : (front before : List Waiting) (w : Waiting) (after : List Waiting) → is_free topology w (front ++ before) ≡ true →
      In (record { next = w; rest = (front ++ before) ++ after }) (choices topology front (before ++ w ∷ after))
  unfolding choices
  the_choice front [] w after e =
      let same : front ++ [] ≡ front = append-nil front in
      let free : is_free topology w front ≡ true = ap (is_free topology w) (sym same) ∙ e in
      subst (λ b. In (record { next = w; rest = (front ++ []) ++ after }) (front_if b (record { next = w; rest = front ++ after }) (choices topology (front ++ w ∷ []) after))) (sym free)
      (inl (ap (λ l. let made : Choice = record { next = w; rest = l ++ after } in made) same))
  the_choice front (b ∷ before) w after e =
      let same : (front ++ b ∷ []) ++ before ≡ front ++ b ∷ before = append_assoc front (b ∷ []) before in
      more_choices (is_free topology b front) (record { next = b; rest = front ++ (before ++ w ∷ after) }) (choices topology (front ++ b ∷ []) (before ++ w ∷ after))
      (record { next = w; rest = (front ++ b ∷ before) ++ after })
      (subst (λ l. In (record { next = w; rest = l ++ after }) (choices topology (front ++ b ∷ []) (before ++ w ∷ after))) same
      (the_choice (front ++ b ∷ []) before w after (ap (is_free topology w) same ∙ e)))

  next_choice : (waiting : List Waiting) (w : Waiting) (rest : List Waiting) → IsNext topology waiting w rest → In (record { next = w; rest = rest }) (choices topology [] waiting)
  next_choice waiting w rest n =
      subst (λ l. In (record { next = w; rest = rest }) (choices topology [] l)) (sym n.parts)
      (subst (λ l. In (record { next = w; rest = l }) (choices topology [] (n.before ++ w ∷ n.after))) (sym n.left)
      (the_choice [] n.before w n.after (is_free_of w n.before n.lane n.tag)))

  -- entries lead on from one of these
  pub record Has (points : List Point) (more : List Entry) (c : Point) : Type 0 where
    pub point : Point
    pub there : In point points
    pub leads : Leads topology point more c

-- the answer at hand
record HandIs (host tag : ℕ) (ready : List Ready) (h : Hand) : Type 0 where
  pub at : AtHand ready host tag
  pub answer : at.first.answer ≡ h.answer
  pub rest : h.rest ≡ at.before ++ at.after

hand_some : (host tag : ℕ) (ready : List Ready) (h : Hand) → hand host tag ready ≡ Some h → HandIs host tag ready h
unfolding hand
hand_some host tag [] h e = absurd (cc)
hand_some host tag (r ∷ more) h e = by (ready_under host tag r) refl e (λ k is. hand_some host tag more k is)
  where
    later : (o : Option Hand) → hand host tag more ≡ o → ready_under host tag r ≡ false → ((k : Hand) → hand host tag more ≡ Some k → HandIs host tag more k) →
        after_one r o ≡ Some h → HandIs host tag (r ∷ more) h
    later None is not_it f e = absurd (cc)
    later (Some k) is not_it f e = let g = f k is in
        let same : record { answer = k.answer; rest = r ∷ k.rest } ≡ h = cc in
        record {
          at = record { before = r ∷ g.at.before; first = g.at.first; after = g.at.after; parts = ap (λ l. r ∷ l) g.at.parts; passes = g.at.passes; none = (not_it, g.at.none) };
          answer = g.answer ∙ ap (λ (x : Hand). x.answer) same;
          rest = ap (λ (x : Hand). x.rest) (sym same) ∙ ap (λ l. r ∷ l) g.rest;
        }

    by : (b : Bool) → ready_under host tag r ≡ b → hand_if b (Some (record { answer = r.answer; rest = more })) (after_one r (hand host tag more)) ≡ Some h →
        ((k : Hand) → hand host tag more ≡ Some k → HandIs host tag more k) → HandIs host tag (r ∷ more) h
    by true passes e f = let same : record { answer = r.answer; rest = more } ≡ h = cc in record {
      at = record { before = []; first = r; after = more; parts = refl; passes = passes; none = tt };
      answer = ap (λ (x : Hand). x.answer) same;
      rest = ap (λ (x : Hand). x.rest) (sym same);
    }
    by false not_it e f = later (hand host tag more) refl not_it f e

hand_none : (host tag : ℕ) (ready : List Ready) → hand host tag ready ≡ None → NonePasses (ready_under host tag) ready
unfolding hand
hand_none host tag [] e = tt
hand_none host tag (r ∷ more) e = by (ready_under host tag r) refl e (λ is. hand_none host tag more is)
  where
    later : (o : Option Hand) → hand host tag more ≡ o → after_one r o ≡ None → hand host tag more ≡ None
    later None is e = is
    later (Some k) is e = absurd (cc)

    by : (b : Bool) → ready_under host tag r ≡ b → hand_if b (Some (record { answer = r.answer; rest = more })) (after_one r (hand host tag more)) ≡ None →
        (hand host tag more ≡ None → NonePasses (ready_under host tag) more) → (ready_under host tag r ≡ false) × NonePasses (ready_under host tag) more
    by true passes e f = absurd (cc)
    by false not_it e f = (not_it, f (later (hand host tag more) refl e))

none_there : {X : Type 0} (test : X → Bool) (before : List X) (x : X) (after : List X) → NonePasses test (before ++ x ∷ after) → test x ≡ false
none_there test [] x after n = n.0
none_there test (y ∷ before) x after n = none_there test before x after n.1

fewer : (waiting before after : List Waiting) (w : Waiting) (n : ℕ) → waiting ≡ before ++ w ∷ after → length waiting ≤ suc n → length (before ++ after) ≤ n
fewer waiting before after w n is few =
    let a : length waiting ≡ length before + length (w ∷ after) = ap length is ∙ length-append before (w ∷ after) in
    let b : length (before ++ after) ≡ length before + length after = length-append before after in
    let k : length (w ∷ after) ≡ suc (length after) = refl in
    omega (arith, a, b, k, few)

not_none : (waiting before after : List Waiting) (w : Waiting) → waiting ≡ before ++ w ∷ after → length waiting ≤ 0 → ⊥
not_none waiting before after w is few =
    let a : length waiting ≡ length before + length (w ∷ after) = ap length is ∙ length-append before (w ∷ after) in
    let k : length (w ∷ after) ≡ suc (length after) = refl in
    omega (arith, a, k, few)

one_front : {X : Type 0} (b : Bool) (x d : X) → In d (front_if b x []) → (b ≡ true) × (d ≡ x)
one_front true x d (inl e) = (refl, e)
one_front true x d (inr i) = absurd i
one_front false x d i = absurd i

module _ (topology : Topology) where
  taken_of : (host tag : ℕ) (answer : Answer) (ready : List Ready) (h : Hand) → HandIs host tag ready h → h.answer ≡ answer → IsTaken ready host tag answer h.rest
  taken_of host tag answer ready h is same =
      let f = is.at.first in
      let two = and_parts (f.host == host) _ is.at.passes in
      record {
        before = is.at.before;
        after = is.at.after;
        parts = is.at.parts ∙ ap (λ r. is.at.before ++ r ∷ is.at.after)
            (ready_is f host (Some tag) answer (eqb-true f.host host two.0) (tag_is f.tag tag two.1) (is.answer ∙ same));
        left = is.rest;
        none = is.at.none;
      }

  hand_leads : (host tag : ℕ) (answer : Answer) (p d : Point) (others : List Point) (o : Option Hand) → hand host tag p.ready ≡ o →
      (In d others → Leads topology p (Took host tag answer ∷ []) d) → In d (by_hand answer o p others) → Leads topology p (Took host tag answer ∷ []) d
  hand_leads host tag answer p d others None is f i = f i
  hand_leads host tag answer p d others (Some h) is f i =
      let one = one_front (same_answer h.answer answer) (record p { ready = h.rest }) d i in
      subst (λ (q : Point). Leads topology p (Took host tag answer ∷ []) q) (sym one.1)
      (Takes host tag answer h.rest (taken_of host tag answer p.ready h (hand_some host tag p.ready h is) (answer_is h.answer answer one.0)) Starts)

  pub takes_lead : (host tag : ℕ) (answer : Answer) (n : ℕ) (p d : Point) → In d (takes topology host tag answer n p) → Leads topology p (Took host tag answer ∷ []) d
  unfolding takes
  takes_lead host tag answer zero p d i = hand_leads host tag answer p d [] (hand host tag p.ready) refl (λ j. absurd j) i
  takes_lead host tag answer (suc n) p d i =
      let go : Choice → List Point = λ choice. takes topology host tag answer n (executed p choice.next choice.rest) in
      hand_leads host tag answer p d (gathered go (choices topology [] p.waiting)) (hand host tag p.ready) refl
      (λ j. let g = gathered_from go (choices topology [] p.waiting) d j in
      let q = executed p g.x.next g.x.rest in
      joined topology p q [] (Executes g.x.next g.x.rest (choice_next topology [] p.waiting g.x g.there) Starts) (takes_lead host tag answer n q d g.gives)) i

  hand_has : (host tag : ℕ) (answer : Answer) (p : Point) (more : List Entry) (c : Point) (others : List Point) (o : Option Hand) → hand host tag p.ready ≡ o →
      Leads topology p (more ++ Took host tag answer ∷ []) c → (Onward topology p (more ++ Took host tag answer ∷ []) c → Has topology others more c) →
      Has topology (by_hand answer o p others) more c
  hand_has host tag answer p more c others None is r f = elim (took_leads topology p host tag answer more c r) [
    | inl t ↦
        let own : ((host == host) && (tag == tag)) ≡ true = ap (λ b. b && (tag == tag)) (eq-eqb host host refl) ∙ eq-eqb tag tag refl in
        let made : Ready = record { host = host; tag = Some tag; answer = answer } in
        let not_it : ready_under host tag made ≡ false = none_there (ready_under host tag) t.taken.before made t.taken.after
        (subst (NonePasses (ready_under host tag)) t.taken.parts (hand_none host tag p.ready is)) in
        absurd (cc (own, not_it))
    | inr o ↦ f o
  ]
  hand_has host tag answer p more c others (Some h) is r f =
      let g = hand_some host tag p.ready h is in
      let two = ready_leads topology p host tag answer more c r g.at in
      let same : same_answer h.answer answer ≡ true = ap (λ a. same_answer a answer) (sym g.answer ∙ two.0) ∙ answer_self answer in
      record {
        point = record p { ready = h.rest };
        there = subst (λ b. In (record p { ready = h.rest }) (front_if b (record p { ready = h.rest }) [])) (sym same) (inl refl);
        leads = subst (λ l. Leads topology (record p { ready = l }) more c) (sym g.rest) two.1;
      }

  pub takes_has : (host tag : ℕ) (answer : Answer) (n : ℕ) (p : Point) (more : List Entry) (c : Point) → length p.waiting ≤ n →
      Leads topology p (more ++ Took host tag answer ∷ []) c → Has topology (takes topology host tag answer n p) more c
  unfolding takes
  takes_has host tag answer zero p more c few r = hand_has host tag answer p more c [] (hand host tag p.ready) refl r
      (λ o. absurd (not_none p.waiting o.is_next.before o.is_next.after o.next o.is_next.parts few))
  takes_has host tag answer (suc n) p more c few r =
      let go : Choice → List Point = λ choice. takes topology host tag answer n (executed p choice.next choice.rest) in
      hand_has host tag answer p more c (gathered go (choices topology [] p.waiting)) (hand host tag p.ready) refl r
      (λ o. let q = executed p o.next o.rest in
      let h = takes_has host tag answer n q more c (subst (λ l. length l ≤ n) (sym o.is_next.left) (fewer p.waiting o.is_next.before o.is_next.after o.next n o.is_next.parts few)) o.leads in
      record {
        point = h.point;
        there = in_gathered go (record { next = o.next; rest = o.rest }) (choices topology [] p.waiting) h.point (next_choice topology p.waiting o.next o.rest o.is_next) h.there;
        leads = h.leads;
      })

  pub retires_lead : (slot n : ℕ) (p d : Point) → In d (retires topology slot n p) → Leads topology p (Retired slot ∷ []) d
  unfolding retires
  retires_lead slot zero p d (inl e) = subst (λ (q : Point). Leads topology p (Retired slot ∷ []) q) (sym e) (Retires slot Starts)
  retires_lead slot zero p d (inr i) = absurd i
  retires_lead slot (suc n) p d (inl e) = subst (λ (q : Point). Leads topology p (Retired slot ∷ []) q) (sym e) (Retires slot Starts)
  retires_lead slot (suc n) p d (inr i) =
      let go : Choice → List Point = λ choice. retires topology slot n (executed p choice.next choice.rest) in
      let g = gathered_from go (choices topology [] p.waiting) d i in
      let q = executed p g.x.next g.x.rest in
      joined topology p q [] (Executes g.x.next g.x.rest (choice_next topology [] p.waiting g.x g.there) Starts) (retires_lead slot n q d g.gives)

  pub retires_has : (slot n : ℕ) (p : Point) (more : List Entry) (c : Point) → length p.waiting ≤ n →
      Leads topology p (more ++ Retired slot ∷ []) c → Has topology (retires topology slot n p) more c
  unfolding retires
  retires_has slot zero p more c few r = elim (retired_leads topology p slot more c r) [
    | inl l ↦ record { point = record p { machine = retire p.machine slot }; there = inl refl; leads = l }
    | inr o ↦ absurd (not_none p.waiting o.is_next.before o.is_next.after o.next o.is_next.parts few)
  ]
  retires_has slot (suc n) p more c few r = elim (retired_leads topology p slot more c r) [
    | inl l ↦ record { point = record p { machine = retire p.machine slot }; there = inl refl; leads = l }
    | inr o ↦
        let go : Choice → List Point = λ choice. retires topology slot n (executed p choice.next choice.rest) in
        let q = executed p o.next o.rest in
        let h = retires_has slot n q more c (subst (λ l. length l ≤ n) (sym o.is_next.left) (fewer p.waiting o.is_next.before o.is_next.after o.next n o.is_next.parts few)) o.leads in
        record {
          point = h.point;
          there = inr (in_gathered go (record { next = o.next; rest = o.rest }) (choices topology [] p.waiting) h.point (next_choice topology p.waiting o.next o.rest o.is_next) h.there);
          leads = h.leads;
        }
  ]

-- an entry that hosts see
IsSeen : Entry → Type 0
IsSeen (Gave host tag poisoned request) = Unit {0}
IsSeen (Took host tag answer) = Unit {0}
IsSeen (Retired slot) = Unit {0}
IsSeen _ = ⊥

in_given : (w : Waiting) (p : Point) (points : List Point) → In p points → In (given p w) (given_each w points)
in_given w p [] i = absurd i
in_given w p (q ∷ points) (inl e) = inl (ap (λ (x : Point). given x w) e)
in_given w p (q ∷ points) (inr i) = inr (in_given w p points i)

record Before (w : Waiting) (points : List Point) (d : Point) : Type 0 where
  pub point : Point
  pub there : In point points
  pub is : d ≡ given point w

given_from : (w : Waiting) (d : Point) (points : List Point) → In d (given_each w points) → Before w points d
given_from w d [] i = absurd i
given_from w d (q ∷ points) (inl e) = record { point = q; there = inl refl; is = e }
given_from w d (q ∷ points) (inr i) = let b = given_from w d points i in record { point = b.point; there = inr b.there; is = b.is }

module _ (topology : Topology) where
  seen_alone : (a : Point) {l : List Entry} {b : Point} → Leads topology a l b → (e : Entry) (log : List Entry) → l ≡ e ∷ log → IsSeen e
  unfolding IsSeen
  seen_alone a Starts e log is = absurd (cc)
  seen_alone a (Executes w rest n r) e log is = seen_alone a r e log is
  seen_alone a (Gives host tag request r) e log is = let same : Gave host tag false request ≡ e = cc in subst IsSeen same tt
  seen_alone a (Poisons host request r) e log is = let same : Gave host None true request ≡ e = cc in subst IsSeen same tt
  seen_alone a (Takes host tag answer rest k r) e log is = let same : Took host tag answer ≡ e = cc in subst IsSeen same tt
  seen_alone a (Retires slot r) e log is = let same : Retired slot ≡ e = cc in subst IsSeen same tt

  one_more : (a : Point) (more : List Entry) (e : Entry) (log : List Entry) (c : Point) → Leads topology a (more ++ e ∷ log) c → Leads topology a ((more ++ e ∷ []) ++ log) c
  one_more a more e log c r = subst (λ l. Leads topology a l c) (sym (append_assoc more (e ∷ []) log)) r

  not_seen : (a : Point) (more : List Entry) (e : Entry) (log : List Entry) (c : Point) → Leads topology a (more ++ e ∷ log) c → IsSeen e
  not_seen a more e log c r = let m = parted topology a r more (e ∷ log) refl in seen_alone a m.first e log refl

  -- each state kept is one that the log leads to
  pub kept_lead : (opening : State) (log : List Entry) → IsUntagged log → (d : Point) → In d (kept topology opening log) → Reaches topology opening log d
  unfolding kept
  kept_lead opening [] u d (inl e) = subst (λ (q : Point). Reaches topology opening [] q) (sym e) Starts
  kept_lead opening [] u d (inr i) = absurd i
  kept_lead opening (Gave host tag false request ∷ log) u d i =
      let b = given_from (record { host = host; tag = tag; request = request }) d (kept topology opening log) i in
      subst (λ (q : Point). Reaches topology opening (Gave host tag false request ∷ log) q) (sym b.is) (Gives host tag request (kept_lead opening log u b.point b.there))
  kept_lead opening (Gave host tag true request ∷ log) u d i =
      subst (λ t. Reaches topology opening (Gave host t true request ∷ log) d) (sym u.0) (Poisons host request (kept_lead opening log u.1 d i))
  kept_lead opening (Took host tag answer ∷ log) u d i =
      let go : Point → List Point = λ point. takes topology host tag answer (length point.waiting) point in
      let g = gathered_from go (kept topology opening log) d i in
      joined topology (start_at opening) g.x log (kept_lead opening log u g.x g.there) (takes_lead topology host tag answer (length g.x.waiting) g.x d g.gives)
  kept_lead opening (Retired slot ∷ log) u d i =
      let go : Point → List Point = λ point. retires topology slot (length point.waiting) point in
      let g = gathered_from go (kept topology opening log) d i in
      joined topology (start_at opening) g.x log (kept_lead opening log u g.x g.there) (retires_lead topology slot (length g.x.waiting) g.x d g.gives)
  kept_lead opening (_ ∷ log) u d i = absurd i

  -- what the log and later entries lead to, one of the states kept leads to
  pub kept_has : (opening : State) (log more : List Entry) (c : Point) → Reaches topology opening (more ++ log) c → Has topology (kept topology opening log) more c
  unfolding kept IsSeen
  kept_has opening [] more c r = record { point = start_at opening; there = inl refl; leads = subst (λ l. Leads topology (start_at opening) l c) (append-nil more) r }
  kept_has opening (Gave host tag false request ∷ log) more c r =
      let w : Waiting = record { host = host; tag = tag; request = request } in
      let h = kept_has opening log (more ++ Gave host tag false request ∷ []) c (one_more (start_at opening) more (Gave host tag false request) log c r) in
      record { point = given h.point w; there = in_given w h.point (kept topology opening log) h.there; leads = gave_leads topology h.point host tag request more c h.leads }
  kept_has opening (Gave host tag true request ∷ log) more c r =
      let h = kept_has opening log (more ++ Gave host tag true request ∷ []) c (one_more (start_at opening) more (Gave host tag true request) log c r) in
      record { point = h.point; there = h.there; leads = poisoned_leads topology h.point host tag request more c h.leads }
  kept_has opening (Took host tag answer ∷ log) more c r =
      let go : Point → List Point = λ point. takes topology host tag answer (length point.waiting) point in
      let h = kept_has opening log (more ++ Took host tag answer ∷ []) c (one_more (start_at opening) more (Took host tag answer) log c r) in
      let k = takes_has topology host tag answer (length h.point.waiting) h.point more c (omega arith) h.leads in
      record { point = k.point; there = in_gathered go h.point (kept topology opening log) k.point h.there k.there; leads = k.leads }
  kept_has opening (Retired slot ∷ log) more c r =
      let go : Point → List Point = λ point. retires topology slot (length point.waiting) point in
      let h = kept_has opening log (more ++ Retired slot ∷ []) c (one_more (start_at opening) more (Retired slot) log c r) in
      let k = retires_has topology slot (length h.point.waiting) h.point more c (omega arith) h.leads in
      record { point = k.point; there = in_gathered go h.point (kept topology opening log) k.point h.there k.there; leads = k.leads }
  kept_has opening (e ∷ log) more c r = absurd (not_seen (start_at opening) more e log c r)

  pub kept_explained : (opening : State) (log : List Entry) (point : Point) (points : List Point) → IsUntagged log → kept topology opening log ≡ point ∷ points → IsExplained topology opening log
  kept_explained opening log point points u is = reached_explained topology opening log point
      (kept_lead opening log u point (subst (In point) (sym is) (inl refl)))

  pub not_kept : (opening : State) (log : List Entry) → IsUntagged log → kept topology opening log ≡ [] → IsExplained topology opening log → ⊥
  not_kept opening log u is x =
      let r = explained_reached topology opening log u x in
      let h = kept_has opening log [] r.0 r.1 in
      subst (In h.point) is h.there
