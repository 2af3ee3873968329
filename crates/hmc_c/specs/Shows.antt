-- What a call leaves that only looks: an open handle shows something of what it stands for, and a
-- closed one nothing; either stays.
use Rattle.std.specs.Prelude.{◌≡◌, ℕ, Bool, List, Option, Some, None}
use Rattle.hmc_entries.specs.declared.entry.Entry.{Entry}
use Rattle.hmc_journal.specs.Lawful.{has_passed}
use Rattle.hmc_journal.specs.Setup.{Setup}
use Rattle.hmc_c.specs.Faults.{BytesFault, section_of, stated_fault}
use Rattle.hmc_c.specs.Handles.{Stands, shown}
use Rattle.hmc_c.specs.Kept.{has_tape}
use Rattle.hmc_c.specs.Lines.{LineShown, TapeShown}
use Rattle.hmc_c.specs.Status.{closed}
use Rattle.hmc_c.specs.Values.{LeftLineShown, LeftShown}
use Rattle.hmc_c.specs.declared.faults.FaultOut.{FaultOut}
use Rattle.hmc_c.specs.declared.faults.Stated.{Stated}
use Rattle.hmc_c.specs.declared.held.Held.{Held}

-- a value that the steps leave, while no landing has passed
abbrev pub ShowsLeft : {X : Type 0} → (value : Setup → List Entry → Option X) → (status : ℕ) →
    (before after : Option Held) → (old new : X) → Type 0
ShowsLeft value status None after old new =
    (after ≡ None) × (status ≡ closed) × (new ≡ old)
ShowsLeft value status (Some held) after old new =
    (after ≡ Some held)
    × ((setup : Setup) (past : List Entry) → Stands held setup past →
    LeftShown status (has_passed past) (value setup past) old new)

-- a text; `shows` says what is written of it with a tape or without, and how many bytes are said to
-- be
abbrev pub ShowsText : (shows : (tape : Bool) → Setup → List Entry → (status written : ℕ) →
    (old new : List ℕ) → Type 0) → (status written : ℕ) → (before after : Option Held) →
    (old new : List ℕ) → Type 0
ShowsText shows status written None after old new =
    (after ≡ None) × (status ≡ closed) × (written ≡ 0) × (new ≡ old)
ShowsText shows status written (Some held) after old new =
    (after ≡ Some held)
    × ((setup : Setup) (past : List Entry) → Stands held setup past →
    shows (has_tape held.kept) setup past status written old new)

-- a line, if there is one
abbrev pub ShowsLine : (line : Setup → List Entry → Option (List ℕ)) → (status written : ℕ) →
    (before after : Option Held) → (old new : List ℕ) → Type 0
ShowsLine line = ShowsText (λ tape setup past status written old new.
    LineShown status written (line setup past) old new)

-- a line of what the steps leave, while no landing has passed
abbrev pub ShowsLeftLine : (line : Setup → List Entry → Option (List ℕ)) →
    (status written : ℕ) → (before after : Option Held) → (old new : List ℕ) → Type 0
ShowsLeftLine line = ShowsText (λ tape setup past status written old new.
    LeftLineShown status written (has_passed past) (line setup past) old new)

-- a text of the tape, if there is a tape
abbrev pub ShowsTape : (text : Setup → List ℕ) → (status count : ℕ) →
    (before after : Option Held) → (old new : List ℕ) → Type 0
ShowsTape text = ShowsText (λ tape setup past status count old new.
    TapeShown status count tape (text setup) old new)

-- the first fault of bytes that are to state this for the parts of the session
abbrev pub ShowsFault : Stated → (status : ℕ) → (before after : Option Held) →
    (bytes : List ℕ) → (old new : FaultOut) → Type 0
ShowsFault stated status None after bytes old new =
    (after ≡ None) × (status ≡ closed) × (new ≡ old)
ShowsFault stated status (Some held) after bytes old new =
    (after ≡ Some held)
    × BytesFault status (section_of stated) (stated_fault stated (shown held).plan bytes) bytes
    old new
