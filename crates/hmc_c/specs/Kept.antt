-- What a handle keeps: a session, with a tape or without.
use Rattle.std.specs.Prelude.{◌≡◌, Bool, true, false, List, [], replicate, Option}
use Rattle.hmc_codes.specs.Limits.{most_hosts}
use Rattle.hmc_units.specs.Kinds.{unit_of}
use Rattle.hmc_units.specs.Slots.{units_in}
use Rattle.hmc_units.specs.Unit.{UnitFields}
use Rattle.hmc_units.specs.declared.shipped.Shipped.{Shipped}
use Rattle.hmc_units.specs.declared.slots.Slots.{Slots}
use Rattle.hmc_case.specs.Case.{CaseFields}
use Rattle.hmc_case.specs.Plan.{plan_of}
use Rattle.hmc_entries.specs.declared.entry.Entry.{Entry}
use Rattle.hmc_journal.specs.Setup.{Setup}
use Rattle.hmc_session.specs.Session.{SessionFields, SessionParts, StandsIn, begun, session_of}
use Rattle.hmc_tape.specs.Tape.{IsTapeOf, TapedFields, TapedParts, taped_of}
use Rattle.hmc_c.specs.declared.kept.Kept.{Kept}
use Rattle.hmc_c.specs.declared.kept.Kept.TheVariants.{OnTape, Untaped}

-- the session
abbrev pub session_in : Kept → SessionParts (Slots Shipped)
session_in (Untaped session) = session
session_in (OnTape taped) = taped.session

-- sessions and taped sessions, with the slots of their bench
abbrev pub plain_fields : SessionParts (Slots Shipped) → SessionFields
plain_fields session = session_of (units_in unit_of) session

abbrev pub tape_fields : TapedParts (Slots Shipped) → TapedFields
tape_fields taped = taped_of (units_in unit_of) taped

-- the session, with the slots of its bench
abbrev pub fields_in : Kept → SessionFields
fields_in kept = plain_fields (session_in kept)

-- it has a tape
abbrev pub has_tape : Kept → Bool
has_tape (Untaped session) = false
has_tape (OnTape taped) = true

-- the same hosts are finished, steps may name the same parts, and it has a tape as before
pub record KeepsParts (old new : Kept) : Type 0 where
  pub finished : (fields_in new).finished ≡ (fields_in old).finished
  pub plan : (fields_in new).plan ≡ (fields_in old).plan
  pub tape : has_tape new ≡ has_tape old

-- It stands for the case and the journal of its session. A tape has the requests and the steps of
-- this case.
abbrev pub KeptStands : Kept → Setup → List Entry → Type 0
KeptStands (Untaped session) setup past = StandsIn (plain_fields session) setup past
KeptStands (OnTape taped) setup past = IsTapeOf (tape_fields taped) setup past

-- a session of a case with these logic units, before its first step, with a tape or without; its
-- hosts are open, and steps may name the parts of the case
pub record IsBegun (kept : Kept) (tape : Bool) (case : CaseFields)
    (slots : List (Option UnitFields)) : Type 0 where
  pub stands : KeptStands kept (begun case slots) []
  pub tape_is : has_tape kept ≡ tape
  pub unfinished : (fields_in kept).finished ≡ replicate most_hosts false
  pub plan : (fields_in kept).plan ≡ plan_of case.net
