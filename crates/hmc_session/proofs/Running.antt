-- What a session is: the run of a case.
use Rattle.std.proofs.Common.{◌≡◌, List, inl, sym, subst}
use Rattle.hmc_entries.specs.declared.entry.Entry.{Entry}
use Rattle.hmc_journal.specs.Guarantees.{Guarantees}
use Rattle.hmc_journal.specs.Lawful.{IsWhole, journal_of}
use Rattle.hmc_journal.specs.Setup.{Setup}
use Rattle.hmc_journal.proofs.OneJournal.{journal_of-whole}
use Rattle.hmc_delivery.proofs.Guaranteeing.{guarantees}
use Rattle.hmc_session.specs.Session.{SessionFields, StandsIn}

pub whole : (session : SessionFields) (setup : Setup) (past : List Entry) → StandsIn session setup past → IsWhole setup past
whole session setup past is = record { lawful = is.stands.lawful; whole = inl is.all }

pub run : (session : SessionFields) (setup : Setup) (past : List Entry) → StandsIn session setup past → past ≡ journal_of setup
run session setup past is = journal_of-whole setup past (whole session setup past is)

pub guaranteed : (session : SessionFields) (setup : Setup) (past : List Entry) → StandsIn session setup past → Guarantees setup past
guaranteed session setup past is = subst (Guarantees setup) (sym (run session setup past is)) (guarantees setup is.stands.network)
