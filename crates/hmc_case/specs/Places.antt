-- Where links end.
use Rattle.std.specs.Prelude.{ℕ, ◌+◌, ◌-◌, ◌≡◌, ◌==◌, ◌&&◌, ◌||◌, not, nat_le, nat_lt, Bool, true, false, List, [], ◌∷◌, Option, Some, None, option_map, Result, Ok, if◌then◌else◌}
use Rattle.std.specs.List.{list_any}
use Rattle.hmc_codes.specs.Limits.{most_hosts, most_cubes, ports}
use Rattle.hmc_codes.specs.Places.{is_host, same_place}
use Rattle.hmc_codes.specs.declared.place.Join.{Join}
use Rattle.hmc_codes.specs.declared.place.Place.{Place}
use Rattle.hmc_codes.specs.declared.place.Place.TheVariants.{Host, Port}
use Rattle.hmc_routes.specs.WellFormed.{is_there, may_be_joined}
use Rattle.hmc_text.specs.Reading.{◌>>=◌, or_fault}
use Rattle.hmc_case.specs.Reading.{or_refuse}
use Rattle.hmc_case.specs.declared.fault.CaseKind.{CaseKind}
use Rattle.hmc_case.specs.declared.fault.CaseKind.TheVariants as kinds
use Rattle.hmc_case.specs.declared.setup.LinkRow.{LinkRow}

-- the digit that the byte is, if it is below the limit; 48 is `0`
abbrev pub digit_of : ℕ → ℕ → Option ℕ
digit_of limit byte = if nat_le 48 byte && nat_lt byte (48 + limit) then Some (byte - 48) else None

-- a port, by the digits of its cube and of its own
abbrev pub port_of_digits : Option ℕ → Option ℕ → Option Place
port_of_digits (Some cube) (Some port) = Some (Port cube port)
port_of_digits _ _ = None

-- `h` (104) and the digit of a host, or `c` (99), the digit of a cube, `.` (46) and that of a port
abbrev pub place_of : List ℕ → Option Place
place_of (letter ∷ host ∷ []) =
    if letter == 104 then option_map Host (digit_of most_hosts host) else None
place_of (letter ∷ cube ∷ dot ∷ port ∷ []) =
    if letter == 99 && dot == 46
    then port_of_digits (digit_of most_cubes cube) (digit_of ports port) else None
place_of _ = None

-- both are ports of one cube
abbrev pub is_same_cube : Place → Place → Bool
is_same_cube (Port cube port) (Port other other_port) = cube == other
is_same_cube _ _ = false

-- one of the links ends there
abbrev pub is_taken : List LinkRow → Place → Bool
is_taken links place =
    list_any (λ link. same_place link.join.a place || same_place link.join.b place) links

-- of a link's ends a comes before b, each whole: its name, and that its cube exists
unfoldable pub ends_of : (cubes : ℕ) → List ℕ → List ℕ → Result Join CaseKind
ends_of cubes a b = do
  first ← or_fault kinds.Endpoint (place_of a)
  there ← or_refuse kinds.NoCube (is_there cubes first)
  second ← or_fault kinds.Endpoint (place_of b)
  there ← or_refuse kinds.NoCube (is_there cubes second)
  Ok (record { a = first; b = second })

-- a link may not join two hosts, a cube to itself, or an end of an earlier link
unfoldable pub may_join : List LinkRow → Join → Result (Unit {0}) CaseKind
may_join links join = do
  hosts ← or_refuse kinds.Hosts (not (is_host join.a && is_host join.b))
  itself ← or_refuse kinds.SelfJoined (not (is_same_cube join.a join.b))
  or_refuse kinds.Taken (not (is_taken links join.a || is_taken links join.b))

-- what a further link of a case keeps: its ends exist, may be joined, and end no link before it
pub record IsNewJoin (cubes : ℕ) (links : List LinkRow) (join : Join) : Type 0 where
  pub a : is_there cubes join.a ≡ true
  pub b : is_there cubes join.b ≡ true
  pub apart : may_be_joined join.a join.b ≡ true
  pub a_free : is_taken links join.a ≡ false
  pub b_free : is_taken links join.b ≡ false
