use Rattle.hmc_wire.proofs.EntryTurns.{turns-may, fields-are}
use Rattle.hmc_wire.proofs.laws.entries_are_events.Goals as goal

pub returns-clause-may : goal.returns-clause-may
returns-clause-may c = turns-may

pub returns-clause-fields : goal.returns-clause-fields
returns-clause-fields c = fields-are
