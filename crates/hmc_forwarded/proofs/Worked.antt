-- What the definitions say where nothing was done, which is that no place is filled.
use Rattle.std.proofs.Common.{◌≡◌, ℕ, List, [], length, None, refl, ap, arith}
use Rattle.hmc_send.specs.Entries.{last_begun, places, unfinished}
use Rattle.hmc_send.specs.LinkSenders.{sender_entries}
use Rattle.hmc_send.specs.Places.{Place}
use Rattle.hmc_send.proofs.Lists.{length-push}
use Rattle.hmc_entries.specs.declared.entry.Entry.{Entry}
use Rattle.hmc_journal.specs.Links.{link_entries}
use Rattle.hmc_journal.specs.Setup.{Topology}
use Rattle.hmc_forwarded.specs.Filled.{through_on, IsFilled}

none-under : (topology : Topology) (d : ℕ) → through_on topology d [] ≡ None
unfolding link_entries sender_entries places unfinished last_begun
none-under topology d = refl

none-filled : (topology : Topology) (d : ℕ) (later : List Entry) → IsFilled topology d [] later → ⊥
unfolding link_entries sender_entries places
none-filled topology d later is =
    let more = length-push is.before (Place.awaited is.head is.flits is.numbers) in
    let none = ap (λ (l : List Place). length l) is.was_open in
    omega arith
