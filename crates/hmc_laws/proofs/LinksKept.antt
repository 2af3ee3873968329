-- In every lawful journal of a network each direction is a list, first in and first out.
use Rattle.std.proofs.Common.{List}
use Rattle.hmc_entries.specs.declared.entry.Entry.{Entry}
use Rattle.hmc_journal.specs.Setup.{Setup}
use Rattle.hmc_journal.specs.Network.{IsNetwork}
use Rattle.hmc_journal.specs.Delivered.{LinksInOrder}
use Rattle.hmc_journal.specs.Lawful.{Lawful}
use Rattle.hmc_laws.proofs.Order.{wire_order}
use Rattle.hmc_laws.proofs.LinkLaws.{accepted_prefix, begun_prefix, marks_each, tokens_hold, all_in_order}

pub links_in_order : (setup : Setup) (past : List Entry) → IsNetwork setup → Lawful setup past → LinksInOrder setup past
links_in_order setup past network lawful = record {
  wires = λ d. (wire_order setup d past lawful).are;
  accepted = λ d. accepted_prefix setup network d past lawful;
  begun = λ d. begun_prefix setup network d past lawful;
  marks = λ d. marks_each setup network d past lawful;
  in_order = all_in_order setup network past lawful;
  tokens = λ d. tokens_hold setup network d past lawful;
}
