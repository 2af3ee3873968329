-- A network that stands for a journal has the slots that the journal leaves.
use Rattle.std.proofs.Common.{◌≡◌, ◌⊎◌, inl, inr, Bool, List, Option, Result, Ok, Err, sym, ap, subst}
use Rattle.hmc_entries.specs.declared.entry.Entry.{Entry}
use Rattle.hmc_journal.specs.Lawful.{journal_of}
use Rattle.hmc_journal.specs.Setup.{Setup}
use Rattle.hmc_net.specs.NetState.{NetState}
use Rattle.hmc_net.specs.Stands.{StandsFor}
use Rattle.hmc_outside.specs.Views.{SinkView}
use Rattle.hmc_outside.specs.declared.counts.Failed.{Failed}
use Rattle.hmc_units.specs.Unit.{UnitFields}
use Rattle.hmc_replay.specs.Left.{AreLeft, IsLeft}
use Rattle.hmc_replay.specs.Steps.{BreaksAt, Stepped}
use Rattle.hmc_replay.specs.declared.extent.Extent.{Extent}
use Rattle.hmc_replay.specs.declared.extent.Extent.TheVariants.{Whole, Short, Bound}

slots_stand : (net : NetState) (setup : Setup) (past : List Entry) → StandsFor net setup past → AreLeft setup past net.slots
slots_stand net setup past stands = ap (λ s. s.slots) stands.state

whole_left : (net : NetState) (setup : Setup) (a b : SinkView) (failed : Failed) → StandsFor net setup (journal_of setup) ⊎ BreaksAt net setup a b → IsLeft (Err failed) Whole setup net.slots a b
whole_left net setup a b failed (inl stands) = inl (slots_stand net setup (journal_of setup) stands)
whole_left net setup a b failed (inr at) = inr (record { past = at.past; lawful = at.stands.lawful; slots_are = slots_stand net setup at.past at.stands; broken = at.broken; last = at.last })

left_by : (result : Result Bool Failed) (extent : Extent) (net : NetState) (setup : Setup) (a b : SinkView) → Stepped result extent net setup a b → IsLeft result extent setup net.slots a b
left_by (Ok passed) extent net setup a b stands = slots_stand net setup (journal_of setup) stands
left_by (Err failed) Whole net setup a b far = whole_left net setup a b failed far
left_by (Err failed) Short net setup a b stands = slots_stand net setup (journal_of setup) stands
left_by (Err failed) Bound net setup a b stands = slots_stand net setup (journal_of setup) stands

pub left_of : (result : Result Bool Failed) (extent : Extent) (net : NetState) (setup : Setup) (slots : List (Option UnitFields)) (a b : SinkView) → slots ≡ net.slots → Stepped result extent net setup a b → IsLeft result extent setup slots a b
left_of result extent net setup slots a b is stepped = subst (λ (s : List (Option UnitFields)). IsLeft result extent setup s a b) (sym is) (left_by result extent net setup a b stepped)
