-- A log that is ordered was ordered at each earlier moment.
use Rattle.std.proofs.Common.{◌≡◌, ◌∙◌, List, [], ◌∷◌, ◌++◌, refl, sym, ap, subst, append_assoc}
use Rattle.hmc_serial.specs.Machine.{State}
use Rattle.hmc_entries.specs.declared.entry.Entry.{Entry}
use Rattle.hmc_entries.specs.declared.entry.Entry.TheVariants.{Gave, Took, Executed, Retired}
use Rattle.hmc_journal.specs.Serial.{IsSerial}
use Rattle.hmc_journal.specs.Setup.{Topology}
use Rattle.hmc_seen.specs.Seen.{seen_of}
use Rattle.hmc_ordered.specs.Ordered.{IsOrdered, IsOrderedBy}

-- a moment of a journal at which hosts have seen this
record Moment (journal log : List Entry) : Type 0 where
  pub later : List Entry
  pub earlier : List Entry
  pub parts : journal ≡ later ++ earlier
  pub same : seen_of earlier ≡ log

longer : (entry : Entry) (journal log : List Entry) → Moment journal log → Moment (entry ∷ journal) log
longer entry journal log m = record { later = entry ∷ m.later; earlier = m.earlier; parts = ap (λ l. entry ∷ l) m.parts; same = m.same }

moment : (journal later log : List Entry) → seen_of journal ≡ later ++ log → Moment journal log
unfolding seen_of
moment j [] log e = record { later = []; earlier = j; parts = refl; same = e }
moment [] (x ∷ later) log e = cc
moment (Gave host tag poisoned request ∷ j) (x ∷ later) log e = longer (Gave host tag poisoned request) j log (moment j later log (cc))
moment (Took host tag answer ∷ j) (x ∷ later) log e = longer (Took host tag answer) j log (moment j later log (cc))
moment (Retired slot ∷ j) (x ∷ later) log e = longer (Retired slot) j log (moment j later log (cc))
moment (entry ∷ j) (x ∷ later) log e = longer entry j log (moment j (x ∷ later) log e)

serial_earlier : (o : State) (later past : List Entry) → IsSerial o (later ++ past) → IsSerial o past
unfolding IsSerial
serial_earlier o [] past s = s
serial_earlier o (Executed unit host tag request answer ∷ later) past s = serial_earlier o later past s.1
serial_earlier o (_ ∷ later) past s = serial_earlier o later past s

at_moment : (topology : Topology) (o : State) (whole log journal : List Entry) → IsOrderedBy topology o whole journal → Moment journal log → IsOrdered topology o log
at_moment topology o whole log journal by m = record {
  journal = m.earlier;
  orders = record {
    explains = record {
      seen = m.same;
      serial = serial_earlier o m.later m.earlier (subst (IsSerial o) m.parts by.explains.serial);
      moments = λ later past parts. by.explains.moments (m.later ++ later) past (further later past parts);
    };
    in_order = λ later past parts. by.in_order (m.later ++ later) past (further later past parts);
  };
}
  where
    further : (later past : List Entry) → m.earlier ≡ later ++ past → journal ≡ (m.later ++ later) ++ past
    further later past parts = m.parts ∙ ap (λ l. m.later ++ l) parts ∙ sym (append_assoc m.later later past)

pub earlier_is_ordered : (topology : Topology) (o : State) (later log : List Entry) → IsOrdered topology o (later ++ log) → IsOrdered topology o log
earlier_is_ordered topology o later log ordered = at_moment topology o (later ++ log) log ordered.journal ordered.orders (moment ordered.journal later log ordered.orders.explains.seen)
