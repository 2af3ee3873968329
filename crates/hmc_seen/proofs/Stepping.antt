-- What holds at each moment holds entry by entry, and the other way round.
use Rattle.std.proofs.Common.{◌≡◌, ◌∙◌, ℕ, Bool, true, false, Option, Some, None, List, [], ◌∷◌, ◌++◌, map, refl, sym, ap, subst, append_assoc}
use Rattle.std.specs.Prelude.{◌==◌, ◌&&◌, not}
use Rattle.std.proofs.lemmas.Bool.{eq-eqb, eqb-true, and_parts}
use Rattle.std.proofs.lemmas.List.{map-append}
use Rattle.hmc_codes.specs.Request.{RequestFields}
use Rattle.hmc_codes.specs.declared.answer.Answer.{Answer}
use Rattle.hmc_codes.specs.declared.unit.Unit.{Unit as RequestUnit}
use Rattle.hmc_entries.specs.declared.entry.Entry.{Entry}
use Rattle.hmc_entries.specs.declared.entry.Entry.TheVariants.{Gave, Took, Executed}
use Rattle.hmc_journal.specs.Choice.{append_if}
use Rattle.hmc_journal.specs.Delivered.{IsPrefix}
use Rattle.hmc_journal.specs.Filters.{TaggedRequest, Completion, given_to, executed_by, asked_under, replies_under, answers_under, same_unit, same_tag}
use Rattle.hmc_journal.specs.Setup.{Topology, unit_in}
use Rattle.hmc_seen.specs.Explained.{Explains}
use Rattle.hmc_seen.specs.Stepwise.{IsNext, IsNextUnder, IsStepwise}
use Rattle.hmc_seen.proofs.Tests.{same_self, same_is, tag_is}

-- a prefix of a list is one of a longer list
longer : {X : Type 0} (b : Bool) (more done all : List X) → IsPrefix done all → IsPrefix done (append_if b more all)
longer true more done all p = (p.0 ++ more, ap (λ l. l ++ more) p.1 ∙ append_assoc done p.0 more)
longer false more done all p = p

-- a prefix with what comes next
further : {X : Type 0} (b : Bool) (x : X) (done all : List X) → (b ≡ true → IsNext done x all) → IsPrefix done all →
    IsPrefix (append_if b (x ∷ []) done) all
further true x done all next p = next refl
further false x done all next p = p

pub map_if : {X Y : Type 0} (f : X → Y) (b : Bool) (x : X) (xs : List X) →
    map f (append_if b (x ∷ []) xs) ≡ append_if b (f x ∷ []) (map f xs)
map_if f true x xs = map-append f xs (x ∷ [])
map_if f false x xs = refl

-- where the test holds, what is done and the next one begin all
next_of : {X : Type 0} (b : Bool) (x : X) (done all : List X) → b ≡ true → IsPrefix (append_if b (x ∷ []) done) all → IsNext done x all
next_of true x done all is p = p
next_of false x done all is p = absurd (cc)

request_of : Completion → RequestFields
request_of reply = reply.request

answer_of : Completion → Answer
answer_of reply = reply.answer

module _ (topology : Topology) where
  nothing : Explains topology []
  unfolding given_to executed_by asked_under replies_under answers_under
  nothing = record {
    requests = λ h u. ([], refl);
    replied = λ h t. ([], refl);
    answered = λ h t. ([], refl);
  }

  gave : (host : ℕ) (tag : Option ℕ) (poisoned : Bool) (request : RequestFields) (past : List Entry) → Explains topology past →
      Explains topology (Gave host tag poisoned request ∷ past)
  unfolding given_to executed_by asked_under replies_under answers_under
  gave host tag poisoned request past x = record {
    requests = λ h u. longer ((host == h) && (not poisoned && same_unit (unit_in topology request) u)) (record { tag = tag; request = request } ∷ [])
        (executed_by h u past) (given_to topology h u past) (x.requests h u);
    replied = λ h t. longer ((host == h) && same_tag tag t) (request ∷ [])
        (map (λ reply. reply.request) (replies_under h t past)) (asked_under h t past) (x.replied h t);
    answered = x.answered;
  }

  took : (host tag : ℕ) (answer : Answer) (past : List Entry) →
      IsNext (answers_under host tag past) answer (map (λ reply. reply.answer) (replies_under host tag past)) →
      Explains topology past → Explains topology (Took host tag answer ∷ past)
  unfolding given_to executed_by asked_under replies_under answers_under
  took host tag answer past next x = record {
    requests = x.requests;
    replied = x.replied;
    answered = λ h t. further ((host == h) && (tag == t)) answer (answers_under h t past) (map (λ reply. reply.answer) (replies_under h t past))
        (λ is. let both = and_parts (host == h) (tag == t) is in
        subst (λ g. IsNext (answers_under h g past) answer (map (λ (reply : Completion). reply.answer) (replies_under h g past))) (eqb-true tag t both.1)
        (subst (λ g. IsNext (answers_under g tag past) answer (map (λ (reply : Completion). reply.answer) (replies_under g tag past))) (eqb-true host h both.0) next))
        (x.answered h t);
  }

  -- the next under its own tag
  under : (host : ℕ) (tag : Option ℕ) (t : ℕ) (request : RequestFields) (past : List Entry) → tag ≡ Some t → IsNextUnder host tag request past →
      IsNext (map (λ reply. reply.request) (replies_under host t past)) request (asked_under host t past)
  under host tag t request past is next = subst (λ g. IsNextUnder host g request past) is next

  ran : (unit : RequestUnit) (host : ℕ) (tag : Option ℕ) (request : RequestFields) (answer : Answer) (past : List Entry) →
      IsNext (executed_by host unit past) (record { tag = tag; request = request }) (given_to topology host unit past) →
      IsNextUnder host tag request past → Explains topology past → Explains topology (Executed unit host tag request answer ∷ past)
  unfolding given_to executed_by asked_under replies_under answers_under
  ran unit host tag request answer past lane tagged x = let one : TaggedRequest = record { tag = tag; request = request } in record {
    requests = λ h u. further ((host == h) && same_unit unit u) one (executed_by h u past) (given_to topology h u past)
        (λ is. let both = and_parts (host == h) (same_unit unit u) is in
        subst (λ v. IsNext (executed_by h v past) one (given_to topology h v past)) (same_is unit u both.1)
        (subst (λ g. IsNext (executed_by g unit past) one (given_to topology g unit past)) (eqb-true host h both.0) lane))
        (x.requests h u);
    replied = λ h t. subst (λ l. IsPrefix l (asked_under h t past))
        (sym (map_if (λ (reply : Completion). reply.request) ((host == h) && same_tag tag t) (record { request = request; answer = answer }) (replies_under h t past)))
        (further ((host == h) && same_tag tag t) request (map (λ reply. reply.request) (replies_under h t past)) (asked_under h t past)
        (λ is. let both = and_parts (host == h) (same_tag tag t) is in
        subst (λ g. IsNext (map (λ (reply : Completion). reply.request) (replies_under g t past)) request (asked_under g t past)) (eqb-true host h both.0)
        (under host tag t request past (tag_is tag t both.1) tagged))
        (x.replied h t));
    answered = λ h t. subst (IsPrefix (answers_under h t past))
        (sym (map_if (λ (reply : Completion). reply.answer) ((host == h) && same_tag tag t) (record { request = request; answer = answer }) (replies_under h t past)))
        (longer ((host == h) && same_tag tag t) (answer ∷ []) (answers_under h t past) (map (λ reply. reply.answer) (replies_under h t past)) (x.answered h t));
  }

  pub from_steps : (journal : List Entry) → IsStepwise topology journal → Explains topology journal
  unfolding IsStepwise given_to executed_by asked_under replies_under answers_under
  from_steps [] s = nothing
  from_steps (Gave host tag poisoned request ∷ past) s = gave host tag poisoned request past (from_steps past s)
  from_steps (Took host tag answer ∷ past) s = took host tag answer past s.0 (from_steps past s.1)
  from_steps (Executed unit host tag request answer ∷ past) s = ran unit host tag request answer past s.0 s.1.0 (from_steps past s.1.1)
  from_steps (_ ∷ past) s = let x = from_steps past s in record { requests = x.requests; replied = x.replied; answered = x.answered }

  -- a part of a stepwise journal is stepwise
  earlier : (later past : List Entry) → IsStepwise topology (later ++ past) → IsStepwise topology past
  unfolding IsStepwise
  earlier [] past s = s
  earlier (Executed unit host tag request answer ∷ later) past s = earlier later past s.1.1
  earlier (Took host tag answer ∷ later) past s = earlier later past s.1
  earlier (_ ∷ later) past s = earlier later past s

  pub moments_of : (journal : List Entry) → IsStepwise topology journal → (later past : List Entry) → journal ≡ later ++ past → Explains topology past
  moments_of journal s later past parts = from_steps past (earlier later past (subst (IsStepwise topology) parts s))

  taken_next : (host tag : ℕ) (answer : Answer) (past : List Entry) → Explains topology (Took host tag answer ∷ past) →
      IsNext (answers_under host tag past) answer (map (λ reply. reply.answer) (replies_under host tag past))
  unfolding answers_under replies_under
  taken_next host tag answer past x = next_of ((host == host) && (tag == tag)) answer (answers_under host tag past)
      (map (λ reply. reply.answer) (replies_under host tag past))
      (ap (λ b. b && (tag == tag)) (eq-eqb host host refl) ∙ eq-eqb tag tag refl) (x.answered host tag)

  lane_next : (unit : RequestUnit) (host : ℕ) (tag : Option ℕ) (request : RequestFields) (answer : Answer) (past : List Entry) →
      Explains topology (Executed unit host tag request answer ∷ past) →
      IsNext (executed_by host unit past) (record { tag = tag; request = request }) (given_to topology host unit past)
  unfolding executed_by given_to
  lane_next unit host tag request answer past x = next_of ((host == host) && same_unit unit unit) (record { tag = tag; request = request })
      (executed_by host unit past) (given_to topology host unit past)
      (ap (λ b. b && same_unit unit unit) (eq-eqb host host refl) ∙ same_self unit) (x.requests host unit)

  tag_next : (unit : RequestUnit) (host : ℕ) (tag : Option ℕ) (request : RequestFields) (answer : Answer) (past : List Entry) →
      Explains topology (Executed unit host tag request answer ∷ past) → IsNextUnder host tag request past
  unfolding replies_under asked_under
  tag_next unit host None request answer past x = tt
  tag_next unit host (Some t) request answer past x = next_of ((host == host) && (t == t)) request
      (map (λ reply. reply.request) (replies_under host t past)) (asked_under host t past)
      (ap (λ b. b && (t == t)) (eq-eqb host host refl) ∙ eq-eqb t t refl)
      (subst (λ l. IsPrefix l (asked_under host t past))
      (map_if (λ (reply : Completion). reply.request) ((host == host) && (t == t)) (record { request = request; answer = answer }) (replies_under host t past))
      (x.replied host t))

  pub steps_of : (journal : List Entry) → ((later past : List Entry) → journal ≡ later ++ past → Explains topology past) → IsStepwise topology journal
  unfolding IsStepwise
  steps_of [] m = tt
  steps_of (Executed unit host tag request answer ∷ past) m =
      let now = m [] (Executed unit host tag request answer ∷ past) refl in (
        lane_next unit host tag request answer past now,
        (
          tag_next unit host tag request answer past now,
          steps_of past (λ later before parts. m (Executed unit host tag request answer ∷ later) before (ap (λ l. Executed unit host tag request answer ∷ l) parts)),
        ),
      )
  steps_of (Took host tag answer ∷ past) m = (
    taken_next host tag answer past (m [] (Took host tag answer ∷ past) refl),
    steps_of past (λ later before parts. m (Took host tag answer ∷ later) before (ap (λ l. Took host tag answer ∷ l) parts)),
  )
  steps_of (e ∷ past) m = steps_of past (λ later before parts. m (e ∷ later) before (ap (λ l. e ∷ l) parts))
