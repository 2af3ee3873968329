-- What hosts see of a lawful journal is explained by its own executions.
use Rattle.std.proofs.Common.{◌≡◌, ◌∙◌, ℕ, List, length, [], ◌∷◌, ◌++◌, map, refl, sym, ap, subst, append_assoc}
use Rattle.std.specs.Prelude.{◌==◌, ◌&&◌, not}
use Rattle.hmc_codes.specs.declared.unit.Unit.{Unit as RequestUnit}
use Rattle.hmc_serial.specs.Machine.{State, apply, answer_to, retire}
use Rattle.hmc_entries.specs.declared.entry.Entry.{Entry}
use Rattle.hmc_entries.specs.declared.entry.Entry.TheVariants.{Gave, Took, Executed, Retired}
use Rattle.hmc_journal.specs.Choice.{append_if}
use Rattle.hmc_journal.specs.Delivered.{IsPrefix, IsChain, DeliveredInOrder, AllServed}
use Rattle.hmc_journal.specs.Carried.{requests_along}
use Rattle.hmc_journal.specs.Final.{values_of}
use Rattle.hmc_journal.specs.Filters.{Completion, given_to, executed_by, asked_under, replies_under, answers_under, same_unit, same_tag}
use Rattle.hmc_journal.specs.Lawful.{Lawful}
use Rattle.hmc_journal.specs.Network.{IsNetwork}
use Rattle.hmc_journal.specs.Serial.{IsSerial, state_after}
use Rattle.hmc_journal.specs.Setup.{Setup, Topology, unit_in}
use Rattle.hmc_journal.specs.StepView.{opening_of, state_of}
use Rattle.hmc_journal.proofs.OneJournal.{earlier_lawful}
use Rattle.hmc_laws.proofs.Serial.{is_serial}
use Rattle.hmc_laws.proofs.DrainedTest.{drained_by_test}
use Rattle.hmc_delivery.proofs.Delivering.{delivered_in_order, all_served}
use Rattle.hmc_seen.specs.End.{end_of, memory_of, registers_of}
use Rattle.hmc_seen.specs.Explained.{Explains, EndsAs, IsExplained, IsExplainedBy, IsExplainedTo}
use Rattle.hmc_seen.specs.Seen.{seen_of, served_of}

-- hosts see the same where the other entries are left out
seen_served : (j : List Entry) → seen_of (served_of j) ≡ seen_of j
unfolding seen_of served_of
seen_served [] = refl
seen_served (Gave host tag poisoned request ∷ j) = ap (λ l. Gave host tag poisoned request ∷ l) (seen_served j)
seen_served (Took host tag answer ∷ j) = ap (λ l. Took host tag answer ∷ l) (seen_served j)
seen_served (Retired slot ∷ j) = ap (λ l. Retired slot ∷ l) (seen_served j)
seen_served (_ ∷ j) = seen_served j

-- and so are the requests and answers of each filter
given_served : (topology : Topology) (h : ℕ) (u : RequestUnit) (j : List Entry) → given_to topology h u (served_of j) ≡ given_to topology h u j
unfolding given_to served_of
given_served topology h u [] = refl
given_served topology h u (Gave host tag poisoned request ∷ j) =
    ap (append_if ((host == h) && (not poisoned && same_unit (unit_in topology request) u)) (record { tag = tag; request = request } ∷ [])) (given_served topology h u j)
given_served topology h u (_ ∷ j) = given_served topology h u j

executed_served : (h : ℕ) (u : RequestUnit) (j : List Entry) → executed_by h u (served_of j) ≡ executed_by h u j
unfolding executed_by served_of
executed_served h u [] = refl
executed_served h u (Executed here host tag request answer ∷ j) =
    ap (append_if ((host == h) && same_unit here u) (record { tag = tag; request = request } ∷ [])) (executed_served h u j)
executed_served h u (_ ∷ j) = executed_served h u j

asked_served : (h t : ℕ) (j : List Entry) → asked_under h t (served_of j) ≡ asked_under h t j
unfolding asked_under served_of
asked_served h t [] = refl
asked_served h t (Gave host tag poisoned request ∷ j) = ap (append_if ((host == h) && same_tag tag t) (request ∷ [])) (asked_served h t j)
asked_served h t (_ ∷ j) = asked_served h t j

replies_served : (h t : ℕ) (j : List Entry) → replies_under h t (served_of j) ≡ replies_under h t j
unfolding replies_under served_of
replies_served h t [] = refl
replies_served h t (Executed unit host tag request answer ∷ j) =
    ap (append_if ((host == h) && same_tag tag t) (record { request = request; answer = answer } ∷ [])) (replies_served h t j)
replies_served h t (_ ∷ j) = replies_served h t j

answers_served : (h t : ℕ) (j : List Entry) → answers_under h t (served_of j) ≡ answers_under h t j
unfolding answers_under served_of
answers_served h t [] = refl
answers_served h t (Took host tag answer ∷ j) = ap (append_if ((host == h) && (tag == t)) (answer ∷ [])) (answers_served h t j)
answers_served h t (_ ∷ j) = answers_served h t j

-- the machine is the same
state_served : (o : State) (j : List Entry) → state_after o (served_of j) ≡ state_after o j
unfolding state_after served_of
state_served o [] = refl
state_served o (Executed unit host tag request answer ∷ j) = ap (λ s. apply s request) (state_served o j)
state_served o (Retired slot ∷ j) = ap (λ s. retire s slot) (state_served o j)
state_served o (_ ∷ j) = state_served o j

serial_served : (o : State) (j : List Entry) → IsSerial o j → IsSerial o (served_of j)
unfolding IsSerial served_of
serial_served o [] s = tt
serial_served o (Executed unit host tag request answer ∷ j) s = (s.0 ∙ ap (λ x. answer_to x request) (sym (state_served o j)), serial_served o j s.1)
serial_served o (_ ∷ j) s = serial_served o j s

-- an earlier moment of what is left is what is left of an earlier moment
record Moment (j past : List Entry) : Type 0 where
  pub later : List Entry
  pub earlier : List Entry
  pub parts : j ≡ later ++ earlier
  pub same : served_of earlier ≡ past

longer : (e : Entry) (j past : List Entry) → Moment j past → Moment (e ∷ j) past
longer e j past m = record { later = e ∷ m.later; earlier = m.earlier; parts = ap (λ l. e ∷ l) m.parts; same = m.same }

moment : (j later past : List Entry) → served_of j ≡ later ++ past → Moment j past
unfolding served_of
moment j [] past e = record { later = []; earlier = j; parts = refl; same = e }
moment [] (x ∷ later) past e = cc
moment (Gave host tag poisoned request ∷ j) (x ∷ later) past e = longer (Gave host tag poisoned request) j past (moment j later past (cc))
moment (Took host tag answer ∷ j) (x ∷ later) past e = longer (Took host tag answer) j past (moment j later past (cc))
moment (Executed unit host tag request answer ∷ j) (x ∷ later) past e = longer (Executed unit host tag request answer) j past (moment j later past (cc))
moment (Retired slot ∷ j) (x ∷ later) past e = longer (Retired slot) j past (moment j later past (cc))
moment (entry ∷ j) (x ∷ later) past e = longer entry j past (moment j (x ∷ later) past e)

-- the last list of a chain is a prefix of the first
chain_last : {X : Type 0} (whole : List X) (fronts : List (List X)) (last : List X) → IsChain whole (fronts ++ last ∷ []) → IsPrefix last whole
chain_last whole [] last c = c.0
chain_last whole (f ∷ fronts) last c =
    let p = chain_last f fronts last c.1 in
    (p.0 ++ c.0.0, c.0.1 ∙ ap (λ l. l ++ c.0.0) p.1 ∙ append_assoc last p.0 c.0.0)

same_prefix : {X : Type 0} (xs ys vs ws : List X) → xs ≡ vs → ys ≡ ws → IsPrefix vs ws → IsPrefix xs ys
same_prefix xs ys vs ws one two p = (p.0, two ∙ p.1 ∙ ap (λ l. l ++ p.0) (sym one))

explains : (setup : Setup) (past : List Entry) → DeliveredInOrder setup past → Explains setup.topology (served_of past)
explains setup past d = record {
  requests = λ h u. same_prefix (executed_by h u (served_of past)) (given_to setup.topology h u (served_of past)) (executed_by h u past) (given_to setup.topology h u past)
      (executed_served h u past) (given_served setup.topology h u past)
      (chain_last (given_to setup.topology h u past) (requests_along setup.topology h u past) (executed_by h u past) (d.requests h u));
  replied = λ h t. same_prefix (map (λ reply. reply.request) (replies_under h t (served_of past))) (asked_under h t (served_of past))
      (map (λ reply. reply.request) (replies_under h t past)) (asked_under h t past)
      (ap (map (λ (reply : Completion). reply.request)) (replies_served h t past)) (asked_served h t past) (d.replied h t);
  answered = λ h t. same_prefix (answers_under h t (served_of past)) (map (λ reply. reply.answer) (replies_under h t (served_of past)))
      (answers_under h t past) (map (λ reply. reply.answer) (replies_under h t past))
      (answers_served h t past) (ap (map (λ (reply : Completion). reply.answer)) (replies_served h t past)) (d.answered h t);
}

at_moment : (setup : Setup) (journal past : List Entry) → IsNetwork setup → Lawful setup journal → Moment journal past → Explains setup.topology past
at_moment setup journal past network lawful m =
    subst (Explains setup.topology) m.same
    (explains setup m.earlier (delivered_in_order setup m.earlier network
    (earlier_lawful setup m.later m.earlier (subst (Lawful setup) m.parts lawful))))

pub by_own : (setup : Setup) (journal : List Entry) → IsNetwork setup → Lawful setup journal →
    IsExplainedBy setup.topology (opening_of setup) (seen_of journal) (served_of journal)
by_own setup journal network lawful = record {
  seen = seen_served journal;
  serial = serial_served (opening_of setup) journal (is_serial setup journal lawful);
  moments = λ later past parts.
      at_moment setup journal past network lawful (moment journal later past parts);
}

pub explained : (setup : Setup) (journal : List Entry) → IsNetwork setup → Lawful setup journal →
    IsExplained setup.topology (opening_of setup) (seen_of journal)
explained setup journal network lawful = record {
  journal = served_of journal;
  explains = by_own setup journal network lawful;
}

-- what is served is served where the other entries are left out
still_served : (topology : Topology) (j : List Entry) → AllServed topology j →
    AllServed topology (served_of j)
still_served topology j all = record {
  executed = λ h u.
      executed_served h u j ∙ all.executed h u ∙ sym (given_served topology h u j);
  taken = λ h t.
      ap length (answers_served h t j) ∙ all.taken h t ∙ sym (ap length (asked_served h t j));
}

-- the lines of memories and registers are those of the machine that the executions leave
ends_as : (setup : Setup) (journal : List Entry) → AllServed setup.topology journal →
    EndsAs setup.topology (opening_of setup) (end_of (values_of setup journal)) (served_of journal)
unfolding end_of values_of state_of memory_of registers_of
ends_as setup journal all = record {
  served = still_served setup.topology journal all;
  memory = ap (memory_of setup.topology) (sym (state_served (opening_of setup) journal));
  registers = ap (registers_of setup.topology) (sym (state_served (opening_of setup) journal));
}

pub explained_to : (setup : Setup) (journal : List Entry) → IsNetwork setup →
    Lawful setup journal → IsExplainedTo setup.topology (opening_of setup) (seen_of journal)
    (end_of (values_of setup journal))
unfolding end_of values_of
explained_to setup journal network lawful = record {
  journal = served_of journal;
  explains = by_own setup journal network lawful;
  ends = λ is.
      ends_as setup journal
      (all_served setup journal network lawful (drained_by_test setup journal network lawful is));
}
