-- How entries lead on: what the search may put off, and what it has to try.
use Rattle.std.proofs.Common.{◌≡◌, ◌∙◌, ℕ, Bool, true, false, Option, Some, None, List, [], ◌∷◌, ◌++◌, refl, sym, ap, subst, inl, inr, ◌⊎◌}
use Rattle.std.specs.Prelude.{◌==◌, ◌&&◌}
use Rattle.std.proofs.lemmas.Bool.{eq-eqb}
use Rattle.std.proofs.lemmas.List.{append_assoc, append-nil}
use Rattle.hmc_codes.specs.declared.answer.Answer.{Answer}
use Rattle.hmc_codes.specs.Request.{RequestFields}
use Rattle.hmc_serial.specs.Machine.{answer_to, retire}
use Rattle.hmc_entries.specs.declared.entry.Entry.{Entry}
use Rattle.hmc_entries.specs.declared.entry.Entry.TheVariants.{Gave, Took, Retired}
use Rattle.hmc_journal.specs.Setup.{Topology}
use Rattle.hmc_search.specs.Point.{Waiting, Ready, Point, ready_under, NonePasses, IsNext, IsTaken, given, executed}
use Rattle.hmc_search.specs.Reached.{Leads}
use Rattle.hmc_search.specs.Reached.Leads.{Starts, Gives, Poisons, Executes, Takes, Retires}

same_waiting : (h g : ℕ) (t s : Option ℕ) (q p : RequestFields) → h ≡ g → t ≡ s → q ≡ p →
    ◌≡◌ {A = Waiting} (record { host = h; tag = t; request = q }) (record { host = g; tag = s; request = p })
same_waiting h g t s q p a b c =
    ap (λ (x : ℕ). let made : Waiting = record { host = x; tag = t; request = q } in made) a
    ∙ ap (λ (x : Option ℕ). let made : Waiting = record { host = g; tag = x; request = q } in made) b
    ∙ ap (λ (x : RequestFields). let made : Waiting = record { host = g; tag = s; request = x } in made) c

same_ready : (h g t s : ℕ) (a b : Answer) → h ≡ g → t ≡ s → a ≡ b →
    ◌≡◌ {A = Ready} (record { host = h; tag = Some t; answer = a }) (record { host = g; tag = Some s; answer = b })
same_ready h g t s x y a b c =
    ap (λ (n : ℕ). let made : Ready = record { host = n; tag = Some t; answer = x } in made) a
    ∙ ap (λ (n : ℕ). let made : Ready = record { host = g; tag = Some n; answer = x } in made) b
    ∙ ap (λ (n : Answer). let made : Ready = record { host = g; tag = Some s; answer = n } in made) c

-- where an element stands first is one place alone
record SamePlace {X : Type 0} (before after : List X) (w : X) (before' after' : List X) (w' : X) : Type 0 where
  pub befores : before ≡ before'
  pub ws : w ≡ w'
  pub afters : after ≡ after'

place : {X : Type 0} (test : X → Bool) (before after : List X) (w : X) (before' after' : List X) (w' : X) → NonePasses test before → NonePasses test before' →
    test w ≡ true → test w' ≡ true → before ++ w ∷ after ≡ before' ++ w' ∷ after' → SamePlace before after w before' after' w'
place test [] after w [] after' w' n n' y y' is = record { befores = refl; ws = cc; afters = cc }
place test [] after w (x ∷ before') after' w' n n' y y' is = let same : w ≡ x = cc in absurd (cc (n'.0, y, same, is))
place test (x ∷ before) after w [] after' w' n n' y y' is = let same : x ≡ w' = cc in absurd (cc (n.0, y', same, is))
place test (x ∷ before) after w (x' ∷ before') after' w' n n' y y' is =
    let p = place test before after w before' after' w' n.1 n'.1 y y' (cc) in
    let same : x ≡ x' = cc in
    record { befores = ap (λ l. x ∷ l) p.befores ∙ ap (λ v. v ∷ before') same; ws = p.ws; afters = p.afters }

-- an answer is at hand, and these are left once it is taken
pub record AtHand (ready : List Ready) (host tag : ℕ) : Type 0 where
  pub before : List Ready
  pub first : Ready
  pub after : List Ready
  pub parts : ready ≡ before ++ first ∷ after
  pub passes : ready_under host tag first ≡ true
  pub none : NonePasses (ready_under host tag) before

module _ (topology : Topology) where
  pub joined : (a b : Point) (log : List Entry) → Leads topology a log b → {more : List Entry} {c : Point} → Leads topology b more c → Leads topology a (more ++ log) c
  joined a b log ab Starts = ab
  joined a b log ab (Gives host tag request r) = Gives host tag request (joined a b log ab r)
  joined a b log ab (Poisons host request r) = Poisons host request (joined a b log ab r)
  joined a b log ab (Executes w rest n r) = Executes w rest n (joined a b log ab r)
  joined a b log ab (Takes host tag answer rest t r) = Takes host tag answer rest t (joined a b log ab r)
  joined a b log ab (Retires slot r) = Retires slot (joined a b log ab r)

  pub record Middle (a : Point) (log more : List Entry) (c : Point) : Type 0 where
    pub point : Point
    pub first : Leads topology a log point
    pub second : Leads topology point more c

  whole : (a c : Point) (l log : List Entry) → l ≡ log → Leads topology a l c → Middle a log [] c
  whole a c l log is r = record { point = c; first = subst (λ k. Leads topology a k c) is r; second = Starts }

  pub parted : (a : Point) {l : List Entry} {c : Point} → Leads topology a l c → (more log : List Entry) → l ≡ more ++ log → Middle a log more c
  parted a Starts [] log is = whole a a [] log is Starts
  parted a Starts (x ∷ more) log is = absurd (cc)
  parted a (Gives {log = l} {point} host tag request r) [] log is = whole a (given point (record { host = host; tag = tag; request = request })) (Gave host tag false request ∷ l) log is (Gives host tag request r)
  parted a (Gives {log = l} {point} host tag request r) (x ∷ more) log is = let m = parted a r more log (cc) in
      record { point = m.point; first = m.first; second = subst (λ e. Leads topology m.point (e ∷ more) (given point (record { host = host; tag = tag; request = request }))) (cc) (Gives host tag request m.second) }
  parted a (Poisons {log = l} {point} host request r) [] log is = whole a point (Gave host None true request ∷ l) log is (Poisons host request r)
  parted a (Poisons {log = l} {point} host request r) (x ∷ more) log is = let m = parted a r more log (cc) in
      record { point = m.point; first = m.first; second = subst (λ e. Leads topology m.point (e ∷ more) point) (cc) (Poisons host request m.second) }
  parted a (Executes w rest n r) more log is = let m = parted a r more log is in
      record { point = m.point; first = m.first; second = Executes w rest n m.second }
  parted a (Takes {log = l} {point} host tag answer rest t r) [] log is = whole a (record point { ready = rest }) (Took host tag answer ∷ l) log is (Takes host tag answer rest t r)
  parted a (Takes {log = l} {point} host tag answer rest t r) (x ∷ more) log is = let m = parted a r more log (cc) in
      record { point = m.point; first = m.first; second = subst (λ e. Leads topology m.point (e ∷ more) (record point { ready = rest })) (cc) (Takes host tag answer rest t m.second) }
  parted a (Retires {log = l} {point} slot r) [] log is = whole a (record point { machine = retire point.machine slot }) (Retired slot ∷ l) log is (Retires slot r)
  parted a (Retires {log = l} {point} slot r) (x ∷ more) log is = let m = parted a r more log (cc) in
      record { point = m.point; first = m.first; second = subst (λ e. Leads topology m.point (e ∷ more) (record point { machine = retire point.machine slot })) (cc) (Retires slot m.second) }

  -- executions by themselves
  pub data Runs (from : Point) : Point → Type 0 where
    Stays : Runs from from
    Goes : {point : Point} (next : Waiting) (rest : List Waiting) → IsNext topology point.waiting next rest → Runs from point → Runs from (executed point next rest)

  pub runs_lead : (a : Point) {b : Point} → Runs a b → Leads topology a [] b
  runs_lead a Stays = Starts
  runs_lead a (Goes w rest n r) = Executes w rest n (runs_lead a r)

  pub runs_of : (a : Point) {l : List Entry} {b : Point} → Leads topology a l b → l ≡ [] → Runs a b
  runs_of a Starts is = Stays
  runs_of a (Executes w rest n r) is = Goes w rest n (runs_of a r is)
  runs_of a (Gives host tag request r) is = absurd (cc)
  runs_of a (Poisons host request r) is = absurd (cc)
  runs_of a (Takes host tag answer rest t r) is = absurd (cc)
  runs_of a (Retires slot r) is = absurd (cc)

  -- executions, the first of them ahead
  pub record FirstRun (a b : Point) : Type 0 where
    pub next : Waiting
    pub rest : List Waiting
    pub is_next : IsNext topology a.waiting next rest
    pub runs : Runs (executed a next rest) b

  pub begun : (a : Point) {b : Point} → Runs a b → (a ≡ b) ⊎ FirstRun a b
  begun a Stays = inl refl
  begun a (Goes {point} w rest n r) = elim (begun a r) [
    | inl same ↦ inr (record {
      next = w;
      rest = rest;
      is_next = subst (λ (p : Point). IsNext topology p.waiting w rest) (sym same) n;
      runs = subst (λ (p : Point). Runs (executed a w rest) (executed p w rest)) same Stays;
    })
    | inr f ↦ inr (record { next = f.next; rest = f.rest; is_next = f.is_next; runs = Goes w rest n f.runs })
  ]

  -- what is executed before a request is given can be executed after it
  given_runs : (a : Point) (w : Waiting) {b : Point} → Runs a b → Runs (given a w) (given b w)
  given_runs a w Stays = Stays
  given_runs a w (Goes {point} next rest n r) = Goes next (rest ++ w ∷ [])
      (record {
        before = n.before;
        after = n.after ++ w ∷ [];
        parts = ap (λ l. l ++ w ∷ []) n.parts ∙ append_assoc n.before (next ∷ n.after) (w ∷ []);
        left = ap (λ l. l ++ w ∷ []) n.left ∙ append_assoc n.before n.after (w ∷ []);
        lane = n.lane;
        tag = n.tag;
      })
      (given_runs a w r)

  pub gave_first : (a : Point) (host : ℕ) (tag : Option ℕ) (request : RequestFields) {l : List Entry} {b : Point} → Leads topology a l b →
      l ≡ Gave host tag false request ∷ [] → Runs (given a (record { host = host; tag = tag; request = request })) b
  gave_first a host tag request Starts is = absurd (cc)
  gave_first a host tag request (Executes w rest n r) is = Goes w rest n (gave_first a host tag request r is)
  gave_first a host tag request (Gives {log = k} {point} h t q r) is =
      let w : Waiting = record { host = host; tag = tag; request = request } in
      subst (λ (v : Waiting). Runs (given a w) (given point v)) (same_waiting host h tag t request q (cc) (cc) (cc)) (given_runs a w (runs_of a r (cc)))
  gave_first a host tag request (Poisons h q r) is = absurd (cc)
  gave_first a host tag request (Takes h t answer rest k r) is = absurd (cc)
  gave_first a host tag request (Retires slot r) is = absurd (cc)

  nothing_more : (a : Point) (more : List Entry) (c : Point) → Leads topology a (more ++ []) c → Leads topology a more c
  nothing_more a more c r = subst (λ l. Leads topology a l c) (append-nil more) r

  -- So after a request was given, each state goes on with one more that waits.
  pub gave_leads : (a : Point) (host : ℕ) (tag : Option ℕ) (request : RequestFields) (more : List Entry) (c : Point) →
      Leads topology a (more ++ Gave host tag false request ∷ []) c → Leads topology (given a (record { host = host; tag = tag; request = request })) more c
  gave_leads a host tag request more c r =
      let w : Waiting = record { host = host; tag = tag; request = request } in
      let m = parted a r more (Gave host tag false request ∷ []) refl in
      nothing_more (given a w) more c (joined (given a w) m.point [] (runs_lead (given a w) (gave_first a host tag request m.first refl)) m.second)

  pub poisoned_first : (a : Point) (host : ℕ) (tag : Option ℕ) (request : RequestFields) {l : List Entry} {b : Point} → Leads topology a l b →
      l ≡ Gave host tag true request ∷ [] → Runs a b
  poisoned_first a host tag request Starts is = absurd (cc)
  poisoned_first a host tag request (Executes w rest n r) is = Goes w rest n (poisoned_first a host tag request r is)
  poisoned_first a host tag request (Gives h t q r) is = absurd (cc)
  poisoned_first a host tag request (Poisons h q r) is = runs_of a r (cc)
  poisoned_first a host tag request (Takes h t answer rest k r) is = absurd (cc)
  poisoned_first a host tag request (Retires slot r) is = absurd (cc)

  -- A poisoned request changes nothing.
  pub poisoned_leads : (a : Point) (host : ℕ) (tag : Option ℕ) (request : RequestFields) (more : List Entry) (c : Point) →
      Leads topology a (more ++ Gave host tag true request ∷ []) c → Leads topology a more c
  poisoned_leads a host tag request more c r =
      let m = parted a r more (Gave host tag true request ∷ []) refl in
      nothing_more a more c (joined a m.point [] (runs_lead a (poisoned_first a host tag request m.first refl)) m.second)

  -- executions, then an answer is taken, then executions
  record Taking (a : Point) (host tag : ℕ) (answer : Answer) (b : Point) : Type 0 where
    pub mid : Point
    pub runs : Runs a mid
    pub rest : List Ready
    pub taken : IsTaken mid.ready host tag answer rest
    pub then : Runs (record mid { ready = rest }) b

  took_first : (a : Point) (host tag : ℕ) (answer : Answer) {l : List Entry} {b : Point} → Leads topology a l b →
      l ≡ Took host tag answer ∷ [] → Taking a host tag answer b
  took_first a host tag answer Starts is = absurd (cc)
  took_first a host tag answer (Executes w rest n r) is = let t = took_first a host tag answer r is in
      record { mid = t.mid; runs = t.runs; rest = t.rest; taken = t.taken; then = Goes w rest n t.then }
  took_first a host tag answer (Gives h t q r) is = absurd (cc)
  took_first a host tag answer (Poisons h q r) is = absurd (cc)
  took_first a host tag answer (Takes {log = k} {point} h t y rest taken r) is =
      let hs : h ≡ host = cc in
      let ts : t ≡ tag = cc in
      let ys : y ≡ answer = cc in
      record {
        mid = point;
        runs = runs_of a r (cc);
        rest = rest;
        taken = record {
          before = taken.before;
          after = taken.after;
          parts = taken.parts ∙ ap (λ x. taken.before ++ x ∷ taken.after) (same_ready h host t tag y answer hs ts ys);
          left = taken.left;
          none = subst (λ n. NonePasses (ready_under n tag) taken.before) hs (subst (λ n. NonePasses (ready_under h n) taken.before) ts taken.none);
        };
        then = Stays;
      }
  took_first a host tag answer (Retires slot r) is = absurd (cc)

  -- what executions add to the answers, whatever answers there were
  record Added (a b : Point) : Type 0 where
    pub added : List Ready
    pub is : b.ready ≡ a.ready ++ added
    pub runs : (ready : List Ready) → Runs (record a { ready = ready }) (record b { ready = ready ++ added })

  added : (a : Point) {b : Point} → Runs a b → Added a b
  added a Stays = record { added = []; is = sym (append-nil a.ready); runs = λ ready. subst (λ l. Runs (record a { ready = ready }) (record a { ready = l })) (sym (append-nil ready)) Stays }
  added a (Goes {point} w rest n r) = let d = added a r in
      let x : Ready = record { host = w.host; tag = w.tag; answer = answer_to point.machine w.request } in record {
        added = d.added ++ x ∷ [];
        is = ap (λ l. l ++ x ∷ []) d.is ∙ append_assoc a.ready d.added (x ∷ []);
        runs = λ ready. subst (λ l. Runs (record a { ready = ready }) (record (executed point w rest) { ready = l })) (append_assoc ready d.added (x ∷ []))
            (Goes {point = record point { ready = ready ++ d.added }} w rest n (d.runs ready));
      }

  runs_joined : (a b : Point) → Runs a b → {c : Point} → Runs b c → Runs a c
  runs_joined a b ab Stays = ab
  runs_joined a b ab (Goes w rest n r) = Goes w rest n (runs_joined a b ab r)

  -- Where the answer is at hand, it is that of the log, and is taken at once.
  pub ready_leads : (a : Point) (host tag : ℕ) (answer : Answer) (more : List Entry) (c : Point) →
      Leads topology a (more ++ Took host tag answer ∷ []) c → (h : AtHand a.ready host tag) →
      (h.first.answer ≡ answer) × Leads topology (record a { ready = h.before ++ h.after }) more c
  ready_leads a host tag answer more c r h =
      let m = parted a r more (Took host tag answer ∷ []) refl in
      let t = took_first a host tag answer m.first refl in
      let d = added a t.runs in
      let own : ((host == host) && (tag == tag)) ≡ true = ap (λ b. b && (tag == tag)) (eq-eqb host host refl) ∙ eq-eqb tag tag refl in
      let made : Ready = record { host = host; tag = Some tag; answer = answer } in
      let is : h.before ++ h.first ∷ (h.after ++ d.added) ≡ t.taken.before ++ made ∷ t.taken.after =
      sym (append_assoc h.before (h.first ∷ h.after) d.added) ∙ ap (λ l. l ++ d.added) (sym h.parts) ∙ sym d.is ∙ t.taken.parts in
      let p = place (ready_under host tag) h.before (h.after ++ d.added) h.first t.taken.before t.taken.after made h.none t.taken.none h.passes own is in
      let left : (h.before ++ h.after) ++ d.added ≡ t.rest =
      append_assoc h.before h.after d.added ∙ ap (λ l. l ++ (h.after ++ d.added)) p.befores ∙ ap (λ l. t.taken.before ++ l) p.afters ∙ sym t.taken.left in
      let start : Point = record a { ready = h.before ++ h.after } in
      let one : Runs start (record t.mid { ready = t.rest }) = subst (λ l. Runs start (record t.mid { ready = l })) left (d.runs (h.before ++ h.after)) in (
        ap (λ (x : Ready). x.answer) p.ws,
        nothing_more start more c (joined start m.point [] (runs_lead start (runs_joined start (record t.mid { ready = t.rest }) one t.then)) m.second),
      )

  -- a first execution, and what it leads on to
  pub record Onward (a : Point) (l : List Entry) (c : Point) : Type 0 where
    pub next : Waiting
    pub rest : List Waiting
    pub is_next : IsNext topology a.waiting next rest
    pub leads : Leads topology (executed a next rest) l c

  -- an answer is taken from these, and leads on
  pub record TakenNow (a : Point) (host tag : ℕ) (answer : Answer) (more : List Entry) (c : Point) : Type 0 where
    pub rest : List Ready
    pub taken : IsTaken a.ready host tag answer rest
    pub leads : Leads topology (record a { ready = rest }) more c

  -- Before an answer is taken, either it is at hand, or something is executed.
  pub took_leads : (a : Point) (host tag : ℕ) (answer : Answer) (more : List Entry) (c : Point) →
      Leads topology a (more ++ Took host tag answer ∷ []) c →
      TakenNow a host tag answer more c ⊎ Onward a (more ++ Took host tag answer ∷ []) c
  took_leads a host tag answer more c r =
      let m = parted a r more (Took host tag answer ∷ []) refl in
      let t = took_first a host tag answer m.first refl in
      elim (begun a t.runs) [
        | inl same ↦ inl (record {
          rest = t.rest;
          taken = subst (λ (p : Point). IsTaken p.ready host tag answer t.rest) (sym same) t.taken;
          leads = nothing_more (record a { ready = t.rest }) more c (joined (record a { ready = t.rest }) m.point []
              (runs_lead (record a { ready = t.rest }) (subst (λ (p : Point). Runs (record p { ready = t.rest }) m.point) (sym same) t.then)) m.second);
        })
        | inr f ↦ inr (record {
          next = f.next;
          rest = f.rest;
          is_next = f.is_next;
          leads = let b = executed a f.next f.rest in
              joined b m.point (Took host tag answer ∷ [])
              (joined b (record t.mid { ready = t.rest }) (Took host tag answer ∷ [])
              (Takes host tag answer t.rest t.taken (runs_lead b f.runs)) (runs_lead (record t.mid { ready = t.rest }) t.then))
              m.second;
        })
      ]

  record Retiring (a : Point) (slot : ℕ) (b : Point) : Type 0 where
    pub mid : Point
    pub runs : Runs a mid
    pub then : Runs (record mid { machine = retire mid.machine slot }) b

  retired_first : (a : Point) (slot : ℕ) {l : List Entry} {b : Point} → Leads topology a l b → l ≡ Retired slot ∷ [] → Retiring a slot b
  retired_first a slot Starts is = absurd (cc)
  retired_first a slot (Executes w rest n r) is = let t = retired_first a slot r is in record { mid = t.mid; runs = t.runs; then = Goes w rest n t.then }
  retired_first a slot (Gives h t q r) is = absurd (cc)
  retired_first a slot (Poisons h q r) is = absurd (cc)
  retired_first a slot (Takes h t y rest taken r) is = absurd (cc)
  retired_first a slot (Retires {log = k} {point} s r) is = record {
    mid = point;
    runs = runs_of a r (cc);
    then = subst (λ n. Runs (record point { machine = retire point.machine n }) (record point { machine = retire point.machine s })) (cc) Stays;
  }

  -- A unit is retired at once, or something is executed before.
  pub retired_leads : (a : Point) (slot : ℕ) (more : List Entry) (c : Point) → Leads topology a (more ++ Retired slot ∷ []) c →
      Leads topology (record a { machine = retire a.machine slot }) more c ⊎ Onward a (more ++ Retired slot ∷ []) c
  retired_leads a slot more c r =
      let m = parted a r more (Retired slot ∷ []) refl in
      let t = retired_first a slot m.first refl in
      elim (begun a t.runs) [
        | inl same ↦ inl (let b : Point = record a { machine = retire a.machine slot } in
            nothing_more b more c (joined b m.point [] (runs_lead b (subst (λ (p : Point). Runs (record p { machine = retire p.machine slot }) m.point) (sym same) t.then)) m.second))
        | inr f ↦ inr (record {
          next = f.next;
          rest = f.rest;
          is_next = f.is_next;
          leads = let b = executed a f.next f.rest in
              joined b m.point (Retired slot ∷ [])
              (joined b (record t.mid { machine = retire t.mid.machine slot }) (Retired slot ∷ [])
              (Retires slot (runs_lead b f.runs)) (runs_lead (record t.mid { machine = retire t.mid.machine slot }) t.then))
              m.second;
        })
      ]

  pub executed_leads : (point : Point) (next : Waiting) (rest : List Waiting) (log : List Entry) (end : Point) → IsNext topology point.waiting next rest →
      Leads topology (executed point next rest) log end → Leads topology point log end
  executed_leads point next rest log end n r =
      subst (λ l. Leads topology point l end) (append-nil log) (joined point (executed point next rest) [] (Executes next rest n Starts) r)
