-- An order by cube is one by banks, whatever the banks are.
use Rattle.std.proofs.Common.{◌≡◌, ◌∙◌, ◌==◌, ◌&&◌, ℕ, List, [], ◌∷◌, ◌++◌, map, refl, sym, ap, subst}
use Rattle.hmc_serial.specs.Machine.{State, apply, answer_to, retire}
use Rattle.hmc_entries.specs.declared.entry.Entry.{Entry}
use Rattle.hmc_entries.specs.declared.entry.Entry.TheVariants.{Gave, Took, Executed, Retired}
use Rattle.hmc_journal.specs.Choice.{append_if}
use Rattle.hmc_journal.specs.Delivered.{IsPrefix}
use Rattle.hmc_journal.specs.Filters.{Completion, same_tag, asked_under, replies_under, answers_under}
use Rattle.hmc_journal.specs.Serial.{IsSerial, state_after}
use Rattle.hmc_journal.specs.Setup.{Topology, unit_in, unit_cube}
use Rattle.hmc_arrivals.specs.Arrivals.{given_at}
use Rattle.hmc_seen.specs.Explained.{Explains, IsExplained}
use Rattle.hmc_seen.specs.Seen.{seen_of}
use Rattle.hmc_ordered.specs.Ordered.{executed_at, IsOrdered, IsOrderedBy}
use Rattle.hmc_ordered.proofs.Units.{NamesUnits, by_units}

module _ (topology : Topology) where
  -- the execution by the unit that the request is for in the topology
  relabelled : Entry → Entry
  relabelled (Executed unit host tag request answer) = Executed (unit_in topology request) host tag request answer
  relabelled entry = entry

  -- a journal whose executions are so
  all : List Entry → List Entry
  all [] = []
  all (entry ∷ past) = relabelled entry ∷ all past

  names_all : (j : List Entry) → NamesUnits topology (all j)
  unfolding all relabelled NamesUnits
  names_all [] = tt
  names_all (Executed unit host tag request answer ∷ j) = (refl, names_all j)
  names_all (_ ∷ j) = names_all j

  seen_all : (j : List Entry) → seen_of (all j) ≡ seen_of j
  unfolding all relabelled seen_of
  seen_all [] = refl
  seen_all (Gave host tag poisoned request ∷ j) = ap (λ l. Gave host tag poisoned request ∷ l) (seen_all j)
  seen_all (Took host tag answer ∷ j) = ap (λ l. Took host tag answer ∷ l) (seen_all j)
  seen_all (Retired slot ∷ j) = ap (λ l. Retired slot ∷ l) (seen_all j)
  seen_all (_ ∷ j) = seen_all j

  state_all : (o : State) (j : List Entry) → state_after o (all j) ≡ state_after o j
  unfolding all relabelled state_after
  state_all o [] = refl
  state_all o (Executed unit host tag request answer ∷ j) = ap (λ s. apply s request) (state_all o j)
  state_all o (Retired slot ∷ j) = ap (λ s. retire s slot) (state_all o j)
  state_all o (_ ∷ j) = state_all o j

  serial_all : (o : State) (j : List Entry) → IsSerial o j → IsSerial o (all j)
  unfolding all relabelled IsSerial
  serial_all o [] s = tt
  serial_all o (Executed unit host tag request answer ∷ j) s = (s.0 ∙ ap (λ x. answer_to x request) (sym (state_all o j)), serial_all o j s.1)
  serial_all o (_ ∷ j) s = serial_all o j s

  given_all : (h c : ℕ) (j : List Entry) → given_at h c (all j) ≡ given_at h c j
  unfolding all relabelled given_at
  given_all h c [] = refl
  given_all h c (Gave host tag poisoned request ∷ j) = ap (append_if ((host == h) && (Rattle.std.specs.Prelude.not poisoned && (request.cube == c))) (record { tag = tag; request = request } ∷ [])) (given_all h c j)
  given_all h c (_ ∷ j) = given_all h c j

  executed_all : (h c : ℕ) (j : List Entry) → executed_at h c (all j) ≡ executed_at h c j
  unfolding all relabelled executed_at
  executed_all h c [] = refl
  executed_all h c (Executed unit host tag request answer ∷ j) = ap (append_if ((host == h) && (request.cube == c)) (record { tag = tag; request = request } ∷ [])) (executed_all h c j)
  executed_all h c (_ ∷ j) = executed_all h c j

  asked_all : (h t : ℕ) (j : List Entry) → asked_under h t (all j) ≡ asked_under h t j
  unfolding all relabelled asked_under
  asked_all h t [] = refl
  asked_all h t (Gave host tag poisoned request ∷ j) = ap (append_if ((host == h) && same_tag tag t) (request ∷ [])) (asked_all h t j)
  asked_all h t (_ ∷ j) = asked_all h t j

  replies_all : (h t : ℕ) (j : List Entry) → replies_under h t (all j) ≡ replies_under h t j
  unfolding all relabelled replies_under
  replies_all h t [] = refl
  replies_all h t (Executed unit host tag request answer ∷ j) = ap (append_if ((host == h) && same_tag tag t) (record { request = request; answer = answer } ∷ [])) (replies_all h t j)
  replies_all h t (_ ∷ j) = replies_all h t j

  answers_all : (h t : ℕ) (j : List Entry) → answers_under h t (all j) ≡ answers_under h t j
  unfolding all relabelled answers_under
  answers_all h t [] = refl
  answers_all h t (Took host tag answer ∷ j) = ap (append_if ((host == h) && (tag == t)) (answer ∷ [])) (answers_all h t j)
  answers_all h t (_ ∷ j) = answers_all h t j

  same_prefix : {X : Type 0} (xs ys vs ws : List X) → xs ≡ vs → ys ≡ ws → IsPrefix vs ws → IsPrefix xs ys
  same_prefix xs ys vs ws one two p = (p.0, two ∙ p.1 ∙ ap (λ l. l ++ p.0) (sym one))

  -- an earlier moment of the one journal is that of an earlier moment of the other
  record Moment (j past : List Entry) : Type 0 where
    later : List Entry
    earlier : List Entry
    parts : j ≡ later ++ earlier
    same : all earlier ≡ past

  moment : (j later past : List Entry) → all j ≡ later ++ past → Moment j past
  unfolding all
  moment j [] past e = record { later = []; earlier = j; parts = refl; same = e }
  moment [] (x ∷ later) past e = absurd (cc)
  moment (entry ∷ j) (x ∷ later) past e =
      let m = moment j later past (cc) in
      record { later = entry ∷ m.later; earlier = m.earlier; parts = ap (λ l. entry ∷ l) m.parts; same = m.same }

  explains_all : (one : Topology) (j : List Entry) → Explains one j → ((host cube : ℕ) → IsPrefix (executed_at host cube j) (given_at host cube j)) → Explains topology (all j)
  explains_all one j x in_order = record {
    requests = λ h u. by_units topology h u (all j) (names_all j)
        (same_prefix (executed_at h (unit_cube u) (all j)) (given_at h (unit_cube u) (all j)) (executed_at h (unit_cube u) j) (given_at h (unit_cube u) j) (executed_all h (unit_cube u) j) (given_all h (unit_cube u) j) (in_order h (unit_cube u)));
    replied = λ h t. let p = x.replied h t in
        (p.0, asked_all h t j ∙ p.1 ∙ ap (λ l. map (λ (reply : Completion). reply.request) l ++ p.0) (sym (replies_all h t j)));
    answered = λ h t. let p = x.answered h t in
        (p.0, ap (map (λ (reply : Completion). reply.answer)) (replies_all h t j) ∙ p.1 ∙ ap (λ l. l ++ p.0) (sym (answers_all h t j)));
  }

  at_moment : (one : Topology) (opening : State) (log journal past : List Entry) → IsOrderedBy one opening log journal → Moment journal past → Explains topology past
  at_moment one opening log journal past by m =
      subst (Explains topology) m.same
      (explains_all one m.earlier (by.explains.moments m.later m.earlier m.parts) (by.in_order m.later m.earlier m.parts))

  pub ordered_is_explained : (one : Topology) (opening : State) (log : List Entry) → IsOrdered one opening log → IsExplained topology opening log
  ordered_is_explained one opening log x = record {
    journal = all x.journal;
    explains = record {
      seen = seen_all x.journal ∙ x.orders.explains.seen;
      serial = serial_all opening x.journal x.orders.explains.serial;
      moments = λ later past parts. at_moment one opening log x.journal past x.orders (moment x.journal later past parts);
    };
  }
