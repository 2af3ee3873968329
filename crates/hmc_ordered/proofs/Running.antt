-- What hosts see of a run in which no logic unit is asked is explained in order of arrival.
use Rattle.std.proofs.Common.{◌≡◌, ◌∙◌, ◌==◌, ◌&&◌, ◌⊎◌, inl, inr, ℕ, Bool, true, false, Option, Some, None, List, [], ◌∷◌, ◌++◌, map, refl, sym, ap, subst, append_assoc}
use Rattle.hmc_codes.specs.Request.{RequestFields}
use Rattle.hmc_codes.specs.declared.answer.Answer.{Answer}
use Rattle.hmc_codes.specs.declared.unit.Unit.{Unit as RequestUnit}
use Rattle.hmc_packet.specs.Packet.{PacketFields}
use Rattle.hmc_packet.specs.Transactions.{request_in}
use Rattle.hmc_serial.specs.Machine.{State}
use Rattle.hmc_entries.specs.declared.entry.Entry.{Entry}
use Rattle.hmc_entries.specs.declared.entry.Entry.TheVariants.{Gave, Took, Retired, Shifted}
use Rattle.hmc_journal.specs.Choice.{append_if}
use Rattle.hmc_journal.specs.Delivered.{IsPrefix}
use Rattle.hmc_journal.specs.Filters.{Completion, same_tag, asked_under, replies_under, answers_under}
use Rattle.hmc_journal.specs.Lawful.{Lawful}
use Rattle.hmc_journal.specs.Network.{IsNetwork}
use Rattle.hmc_journal.specs.Queues.{front_of, contents, QueueId as queues}
use Rattle.hmc_journal.specs.Setup.{Topology, Setup, unit_cube}
use Rattle.hmc_journal.specs.StepView.{opening_of}
use Rattle.hmc_journal.proofs.OneJournal.{earlier_lawful}
use Rattle.hmc_delivery.proofs.Delivering.{delivered_in_order}
use Rattle.hmc_arrivals.specs.Arrivals.{is_inside, given_at}
use Rattle.hmc_arrivals.proofs.Ordering.{arrives_in_order}
use Rattle.hmc_seen.specs.Seen.{seen_of}
use Rattle.hmc_seen.specs.Explained.{Explains}
use Rattle.hmc_ordered.specs.Ordered.{AsksNoUnits, executed_at, IsOrdered}
use Rattle.hmc_ordered.proofs.Placing.{Moment, moment, arrive_if, placed, seen_placed, serial_placed, given_placed, executed_placed}
use Rattle.hmc_ordered.proofs.Replying.{keeps, moved}
use Rattle.hmc_ordered.proofs.Tagging.{Same, Ahead}
use Rattle.hmc_ordered.proofs.Unasked.{none_arrives}
use Rattle.hmc_ordered.proofs.Units.{by_units, names_placed}

-- ---- what was asked and taken is the same

asked_arrived : (h n : ℕ) (b : Bool) (t : Topology) (o : State) (p : PacketFields) (found : Option RequestFields) (before : List Entry) → asked_under h n (arrive_if b t o p found before) ≡ asked_under h n before
unfolding asked_under
asked_arrived h n false t o p found before = refl
asked_arrived h n true t o p None before = refl
asked_arrived h n true t o p (Some request) before = refl

asked_placed : (h n : ℕ) (t : Topology) (o : State) (j : List Entry) → asked_under h n (placed t o j) ≡ asked_under h n j
unfolding asked_under placed
asked_placed h n t o [] = refl
asked_placed h n t o (Gave host tag poisoned request ∷ j) = ap (append_if ((host == h) && same_tag tag n) (request ∷ [])) (asked_placed h n t o j)
asked_placed h n t o (Took host tag answer ∷ j) = asked_placed h n t o j
asked_placed h n t o (Retired slot ∷ j) = asked_placed h n t o j
asked_placed h n t o (Shifted cube port goal ∷ j) =
    asked_arrived h n (is_inside goal) t o (front_of (contents t j (queues.Port cube port))) (request_in (front_of (contents t j (queues.Port cube port)))) (placed t o j) ∙ asked_placed h n t o j
asked_placed h n t o (_ ∷ j) = asked_placed h n t o j

answers_arrived : (h n : ℕ) (b : Bool) (t : Topology) (o : State) (p : PacketFields) (found : Option RequestFields) (before : List Entry) → answers_under h n (arrive_if b t o p found before) ≡ answers_under h n before
unfolding answers_under
answers_arrived h n false t o p found before = refl
answers_arrived h n true t o p None before = refl
answers_arrived h n true t o p (Some request) before = refl

answers_placed : (h n : ℕ) (t : Topology) (o : State) (j : List Entry) → answers_under h n (placed t o j) ≡ answers_under h n j
unfolding answers_under placed
answers_placed h n t o [] = refl
answers_placed h n t o (Gave host tag poisoned request ∷ j) = answers_placed h n t o j
answers_placed h n t o (Took host tag answer ∷ j) = ap (append_if ((host == h) && (tag == n)) (answer ∷ [])) (answers_placed h n t o j)
answers_placed h n t o (Retired slot ∷ j) = answers_placed h n t o j
answers_placed h n t o (Shifted cube port goal ∷ j) =
    answers_arrived h n (is_inside goal) t o (front_of (contents t j (queues.Port cube port))) (request_in (front_of (contents t j (queues.Port cube port)))) (placed t o j) ∙ answers_placed h n t o j
answers_placed h n t o (_ ∷ j) = answers_placed h n t o j

-- ---- each moment

answer_push : (xs : List Completion) (x : Completion) → map (λ (reply : Completion). reply.answer) (xs ++ x ∷ []) ≡ map (λ (reply : Completion). reply.answer) xs ++ x.answer ∷ []
answer_push [] x = refl
answer_push (y ∷ xs) x = ap (λ l. y.answer ∷ l) (answer_push xs x)

-- the answers taken are the first of those of the moved journal
taken_first : (now past : List Completion) (now_by past_by : RequestUnit → List Completion) (taken : List Answer) → (Same now past now_by past_by) ⊎ (Ahead now past now_by past_by)
    → IsPrefix taken (map (λ (reply : Completion). reply.answer) past) → IsPrefix taken (map (λ (reply : Completion). reply.answer) now)
taken_first now past now_by past_by taken (inl same) first = (first.0, ap (map (λ (reply : Completion). reply.answer)) same.all ∙ first.1)
taken_first now past now_by past_by taken (inr a) first = (
  first.0 ++ a.one.answer ∷ [],
  ap (map (λ (reply : Completion). reply.answer)) a.all ∙ answer_push past a.one ∙ ap (λ l. l ++ a.one.answer ∷ []) first.1 ∙ append_assoc taken first.0 (a.one.answer ∷ []),
)

in_order : (setup : Setup) (past : List Entry) (h c : ℕ) → IsNetwork setup → Lawful setup past → IsPrefix (executed_at h c (moved setup past)) (given_at h c (moved setup past))
in_order setup past h c network lawful =
    let first = arrives_in_order setup past h c network lawful in
    let o = opening_of setup in
    (first.0, given_placed h c setup.topology o past ∙ first.1 ∙ ap (λ l. l ++ first.0) (sym (executed_placed setup h c o past network lawful)))

explains : (setup : Setup) (past : List Entry) → IsNetwork setup → Lawful setup past → AsksNoUnits past → Explains setup.topology (moved setup past)
explains setup past network lawful uses =
    let t = setup.topology in
    let o = opening_of setup in
    let kept = λ (h n : ℕ). keeps setup past h n network lawful (none_arrives setup past network lawful uses) in record {
      requests = λ h u. by_units t h u (moved setup past) (names_placed t o past) (in_order setup past h (unit_cube u) network lawful);
      replied = λ h n. ((kept h n).first.0, asked_placed h n t o past ∙ (kept h n).first.1);
      answered = λ h n.
          let first = taken_first (replies_under h n (moved setup past)) (replies_under h n past) _ _ (answers_under h n past) (kept h n).ahead ((delivered_in_order setup past network lawful).answered h n) in
          (first.0, first.1 ∙ ap (λ l. l ++ first.0) (sym (answers_placed h n t o past)));
    }

uses_earlier : (later past : List Entry) → AsksNoUnits (later ++ past) → AsksNoUnits past
unfolding AsksNoUnits
uses_earlier [] past uses = uses
uses_earlier (Gave host tag poisoned request ∷ later) past uses = uses_earlier later past uses.1
uses_earlier (entry ∷ later) past uses = uses_earlier later past uses

-- a moment of the moved journal is that of a lawful one in which no unit is asked
record At (setup : Setup) (past : List Entry) : Type 0 where
  before : List Entry
  lawful : Lawful setup before
  asks : AsksNoUnits before
  same : moved setup before ≡ past

at_moment : (setup : Setup) (journal later past : List Entry) → Lawful setup journal → AsksNoUnits journal → moved setup journal ≡ later ++ past → At setup past
at_moment setup journal later past lawful uses parts = by (moment setup.topology (opening_of setup) journal later past parts)
  where
    by : Moment setup.topology (opening_of setup) journal past → At setup past
    by m = record {
      before = m.earlier;
      lawful = earlier_lawful setup m.later m.earlier (subst (Lawful setup) m.parts lawful);
      asks = uses_earlier m.later m.earlier (subst AsksNoUnits m.parts uses);
      same = m.same;
    }

pub runs_are_ordered : (setup : Setup) (journal : List Entry) → IsNetwork setup → Lawful setup journal → AsksNoUnits journal → IsOrdered setup.topology (opening_of setup) (seen_of journal)
runs_are_ordered setup journal network lawful uses = record {
  journal = moved setup journal;
  orders = record {
    explains = record {
      seen = seen_placed setup.topology (opening_of setup) journal;
      serial = serial_placed setup.topology (opening_of setup) journal;
      moments = λ later past parts.
          let at = at_moment setup journal later past lawful uses parts in
          subst (Explains setup.topology) at.same (explains setup at.before network at.lawful at.asks);
    };
    in_order = λ later past parts h c.
        let at = at_moment setup journal later past lawful uses parts in
        subst (λ l. IsPrefix (executed_at h c l) (given_at h c l)) at.same (in_order setup at.before h c network at.lawful);
  };
}
