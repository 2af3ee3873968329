-- What a call of a link does to its entries and to the lists of its directions.
use Rattle.std.specs.Prelude.{◌≡◌, List}
use Rattle.hmc_codes.specs.Link.{LinkFields}
use Rattle.hmc_send.specs.LinkCalls.{LinkCall}
use Rattle.hmc_send.specs.LinkEntries.{LinkEntry}
use Rattle.hmc_send.specs.declared.toward.Toward.{Toward}
use Rattle.hmc_ends.specs.Answers.{after_call}
use Rattle.hmc_ends.specs.List.{handed_list}
use Rattle.hmc_link.specs.Held.{LinkHeld}
use Rattle.hmc_link.specs.StandsFor.{LinkStandsFor}

-- a link makes a call: it then stands for its entries with those of the call
abbrev pub MakesCall : (old new : LinkHeld) → LinkCall → Type 0
MakesCall old new call = (link : LinkFields) (past : List LinkEntry) →
    LinkStandsFor link old past → LinkStandsFor link new (after_call link past call)

-- a call changes nothing in the list of a direction
abbrev pub KeepsList : LinkHeld → Toward → LinkCall → Type 0
KeepsList old toward call = (link : LinkFields) (past : List LinkEntry) →
    LinkStandsFor link old past →
    handed_list link toward (after_call link past call) ≡ handed_list link toward past
