-- Which lists of entries a link stands for, by what it holds.
use Rattle.std.specs.Prelude.{◌≡◌, true, List, length}
use Rattle.hmc_codes.specs.Link.{LinkFields, IsLinkSetup}
use Rattle.hmc_send.specs.LinkEntries.{LinkEntry}
use Rattle.hmc_send.specs.declared.toward.Toward.TheVariants.{Forth, Back}
use Rattle.hmc_wire.specs.LinkLaws.{IsKept}
use Rattle.hmc_link.specs.Held.{LinkHeld}
use Rattle.hmc_ends.specs.List.{handed_list}
use Rattle.hmc_ends.specs.Parts.{parts_of}
use Rattle.hmc_ends.specs.StandsFor.{EndStandsFor}

-- the numbers that a link holds are the lengths of the lists of its directions
pub record AreLengths (link : LinkFields) (held : LinkHeld) (past : List LinkEntry) : Type 0 where
  pub forth : held.forth ≡ length (handed_list link Forth past)
  pub back : held.back ≡ length (handed_list link Back past)

-- A link stands for these entries: its sizes are within the limits, the entries are those of calls
-- whose conditions were met, each end stands for what they are to it, and the lengths are those of
-- its lists.
pub record LinkStandsFor (link : LinkFields) (held : LinkHeld) (past : List LinkEntry)
    : Type 0 where
  pub sizes : IsLinkSetup link
  pub kept : IsKept link past
  pub a : EndStandsFor link held.a (parts_of link Forth past)
  pub b : EndStandsFor link held.b (parts_of link Back past)
  pub lengths : AreLengths link held past

-- some entries for which a link stands
pub record StandsForSome (held : LinkHeld) : Type 0 where
  pub link : LinkFields
  pub past : List LinkEntry
  pub stands : LinkStandsFor link held past

-- what each link keeps: it stands for some entries, unless a landing passed
abbrev pub IsLink : LinkHeld → Type 0
IsLink held = held.going ≡ true → StandsForSome held
