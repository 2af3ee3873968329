-- A log is explained where a longer one is.
use Rattle.std.proofs.Common.{◌≡◌, List, [], ◌∷◌, ◌++◌, ap}
use Rattle.hmc_serial.specs.Machine.{State}
use Rattle.hmc_entries.specs.declared.entry.Entry.{Entry}
use Rattle.hmc_entries.specs.declared.entry.Entry.TheVariants.{Gave, Took, Executed, Retired}
use Rattle.hmc_journal.specs.Serial.{IsSerial}
use Rattle.hmc_journal.specs.Setup.{Topology}
use Rattle.hmc_seen.specs.Explained.{Explains, IsExplained}
use Rattle.hmc_seen.specs.Seen.{seen_of}

module _ (topology : Topology) (opening : State) where
  Moments : List Entry → Type 0
  Moments journal = (later past : List Entry) → journal ≡ later ++ past → Explains topology past

  fewer : (e : Entry) (journal : List Entry) → Moments (e ∷ journal) → Moments journal
  unfolding Moments
  fewer e journal m = λ later past is. m (e ∷ later) past (ap (λ l. e ∷ l) is)

  made : (journal log : List Entry) → seen_of journal ≡ log → IsSerial opening journal →
      Moments journal → IsExplained topology opening log
  unfolding Moments
  made journal log is serial m = record {
    journal = journal;
    explains = record { seen = is; serial = serial; moments = m };
  }

  -- the journal before the last entry that hosts see
  cut : (journal : List Entry) (x : Entry) (log : List Entry) → seen_of journal ≡ x ∷ log →
      IsSerial opening journal → Moments journal → IsExplained topology opening log
  unfolding seen_of IsSerial
  cut [] x log is serial m = absurd (cc)
  cut (Gave host tag poisoned request ∷ j) x log is serial m =
      made j log (cc) serial (fewer (Gave host tag poisoned request) j m)
  cut (Took host tag answer ∷ j) x log is serial m =
      made j log (cc) serial (fewer (Took host tag answer) j m)
  cut (Retired slot ∷ j) x log is serial m = made j log (cc) serial (fewer (Retired slot) j m)
  cut (Executed unit host tag request answer ∷ j) x log is serial m =
      cut j x log is serial.1 (fewer (Executed unit host tag request answer) j m)
  cut (e ∷ j) x log is serial m = cut j x log is serial (fewer e j m)

  pub shorter : (later log : List Entry) → IsExplained topology opening (later ++ log) →
      IsExplained topology opening log
  unfolding Moments
  shorter [] log x = x
  shorter (e ∷ later) log x =
      shorter later log
      (cut x.journal e (later ++ log) x.explains.seen x.explains.serial x.explains.moments)
