-- What single words of an entry line are read as.
use Rattle.std.specs.Prelude.{ℕ, ◌/◌, ◌^◌, Bool, true, false, List, [], ◌∷◌, nat_eq, length, drop, find, codes, Option, Some, None, option_map, if◌then◌else◌}
use Rattle.std.specs.Int.{w32, from_be_bytes}
use Rattle.std.specs.List.{starts_with}
use Rattle.std.specs.Result.{result_ok}
use Rattle.std.specs.Str.{bytes_eq}
use Rattle.hex.specs.Hex.{decode_sized}
use Rattle.hmc_codes.specs.Answer.{is_returned}
use Rattle.hmc_codes.specs.declared.lift.Lift.{Lift}
use Rattle.hmc_codes.specs.declared.lift.Lift.TheVariants as lifts
use Rattle.hmc_packet.specs.declared.bad.Bad.TheVariants as bads
use Rattle.hmc_packet.specs.declared.kind.Kind.TheVariants as kinds
use Rattle.hmc_packet.specs.declared.what.What.{What}
use Rattle.hmc_packet.specs.declared.what.What.TheVariants.{Train, Clear, Start, Null, Pret, Tret, New, Again}
use Rattle.hmc_packet.specs.declared.outcome.Outcome.{Outcome}
use Rattle.hmc_packet.specs.declared.outcome.Outcome.TheVariants.{Quiet, Trained, Gathered, Accepted, Poisoned, Repeat, AbortedBad, AbortedOrder, Ran}
use Rattle.hmc_text.specs.Number.{below, number_of}
use Rattle.hmc_entries.specs.Lines.{what_text, cause_text}
use Rattle.hmc_entries.specs.declared.outcome.Goal.{Goal}
use Rattle.hmc_entries.specs.declared.outcome.Goal.TheVariants as goals
use Rattle.hmc_entries.specs.declared.outcome.Cause.{Cause}
use Rattle.hmc_entries.specs.declared.outcome.Cause.TheVariants as causes

-- a number below 256
abbrev pub byte_of : List ℕ → Option ℕ
byte_of word = below 256 (number_of word)

-- two digits for each of sixteen bytes
unfoldable pub flit_of : List ℕ → Option (List ℕ)
flit_of word = result_ok (decode_sized word 16)

-- a tag, or a dash for none
unfoldable pub tag_of : List ℕ → Option (Option ℕ)
tag_of word =
    if bytes_eq word (codes "-") then Some None
    else option_map Some (below (2 ^ 16) (number_of word))

-- what a flit is sent as
unfoldable pub whats : List What
whats = Train ∷ Clear ∷ Start ∷ Null ∷ Pret ∷ Tret ∷ New ∷ Again ∷ []

unfoldable pub what_of : List ℕ → Option What
what_of word = find (λ what. bytes_eq (what_text what) word) whats

-- why a step did nothing
unfoldable pub causes_known : List Cause
causes_known =
    causes.Ended ∷ causes.Fence ∷ causes.Tags ∷ causes.Empty ∷ causes.Full ∷ causes.Starved ∷
    causes.NoPacket ∷ causes.Busy ∷ []

unfoldable pub cause_named : List ℕ → Option Cause
cause_named word = find (λ cause. bytes_eq (cause_text cause) word) causes_known

-- the last word of an outcome
abbrev pub last_word : Outcome → List ℕ
last_word Quiet = codes "quiet"
last_word Trained = codes "trained"
last_word Gathered = codes "gathered"
last_word Accepted = codes "accepted"
last_word Poisoned = codes "poisoned"
last_word Repeat = codes "repeat"
last_word (AbortedBad bads.Length) = codes "length"
last_word (AbortedBad bads.Command) = codes "command"
last_word (AbortedBad bads.Reserved) = codes "reserved"
last_word (AbortedBad bads.Crc) = codes "crc"
last_word AbortedOrder = codes "order"
last_word (Ran kinds.Start) = codes "start"
last_word (Ran kinds.Clear) = codes "clear"

-- the outcomes of one word, those after `aborted`, and those after `ran`
abbrev pub short_outcomes : List Outcome
short_outcomes = Quiet ∷ Trained ∷ Gathered ∷ Accepted ∷ Poisoned ∷ Repeat ∷ []

abbrev pub aborted_outcomes : List Outcome
aborted_outcomes =
    AbortedBad bads.Length ∷ AbortedBad bads.Command ∷ AbortedBad bads.Reserved ∷
    AbortedBad bads.Crc ∷ AbortedOrder ∷ []

abbrev pub ran_outcomes : List Outcome
ran_outcomes = Ran kinds.Start ∷ Ran kinds.Clear ∷ []

-- the one of these outcomes with this last word
unfoldable pub outcome_named : List Outcome → List ℕ → Option Outcome
outcome_named outcomes word = find (λ outcome. bytes_eq (last_word outcome) word) outcomes

-- `r` for the registers
abbrev pub registers_goal : List ℕ → Option Goal
registers_goal word = if bytes_eq word (codes "r") then Some goals.Registers else None

-- `v` and a vault, `p` and a port, or `r` for the registers
unfoldable pub goal_of : List ℕ → Option Goal
goal_of word =
    if starts_with nat_eq word (codes "v") then option_map goals.Vault (byte_of (drop 1 word))
    else if starts_with nat_eq word (codes "p") then option_map goals.Port (byte_of (drop 1 word))
    else registers_goal word

-- `p` and a port
unfoldable pub port_of : List ℕ → Option ℕ
port_of word = if starts_with nat_eq word (codes "p") then byte_of (drop 1 word) else None

-- a vault by its number, or `r` for the registers
unfoldable pub lift_of : List ℕ → Option Lift
lift_of word =
    if bytes_eq word (codes "r") then Some lifts.Registers
    else option_map lifts.Vault (byte_of word)

-- 0 or 1
unfoldable pub flag_of : List ℕ → Option Bool
flag_of word =
    if bytes_eq word (codes "1") then Some true
    else if bytes_eq word (codes "0") then Some false else None

-- as many bytes as a response can carry
unfoldable pub returned_of : List ℕ → Option (List ℕ)
returned_of word =
    if is_returned (length word / 2) then result_ok (decode_sized word (length word / 2)) else None

-- eight digits of a register's value
unfoldable pub value_of : List ℕ → Option ℕ
value_of word = option_map (from_be_bytes w32) (result_ok (decode_sized word 4))
