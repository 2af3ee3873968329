-- What all cubes of a case are together, and what all its links are.
use Rattle.std.specs.Prelude.{ℕ, ◌==◌, ◌&&◌, nat_le, nat_lt, Bool, List, length, Option, sum_by, Result, Ok, if◌then◌else◌}
use Rattle.std.specs.List.{list_any, list_all, filter_map}
use Rattle.hmc_codes.specs.Limits.{most_memory}
use Rattle.hmc_codes.specs.Numbers.{upto}
use Rattle.hmc_codes.specs.Places.{is_host, host_number}
use Rattle.hmc_codes.specs.Shape.{capacity_of}
use Rattle.hmc_text.specs.Reading.{◌>>=◌}
use Rattle.hmc_case.specs.Setup.{CubeSetupFields}
use Rattle.hmc_case.specs.Reading.{or_refuse}
use Rattle.hmc_case.specs.declared.fault.CaseKind.{CaseKind}
use Rattle.hmc_case.specs.declared.fault.CaseKind.TheVariants as kinds
use Rattle.hmc_case.specs.declared.setup.LinkRow.{LinkRow}

-- the bytes of all cubes together
abbrev pub total_capacity : List CubeSetupFields → ℕ
total_capacity cubes = sum_by (λ cube. capacity_of cube.shape) cubes

-- they are not too many
abbrev pub in_capacity : List CubeSetupFields → Result (Unit {0}) CaseKind
in_capacity cubes = or_refuse kinds.Capacity (nat_le (total_capacity cubes) most_memory)

-- the host at which a link ends, if it ends at one; no link joins two
abbrev pub host_at : LinkRow → Option ℕ
host_at link = if is_host link.join.a then host_number link.join.a else host_number link.join.b

-- the hosts that the links join, in the order of the links
abbrev pub hosts_of : List LinkRow → List ℕ
hosts_of links = filter_map host_at links

-- how many hosts the links join
abbrev pub host_count : List LinkRow → ℕ
host_count links = length (hosts_of links)

-- the numbers are 0 to one less than their count: each is below it, and each number below it is one
-- of them
abbrev pub are_from_zero : List ℕ → Bool
are_from_zero numbers =
    list_all (λ number. nat_lt number (length numbers)) numbers
    && list_all (λ number. list_any (λ other. other == number) numbers) (upto (length numbers))

-- how many numbers there are: one at least, and 0 to one less than their count
unfoldable pub count_from_zero : List ℕ → Result ℕ CaseKind
count_from_zero numbers = do
  some ← or_refuse kinds.Hosts (nat_le 1 (length numbers))
  from_zero ← or_refuse kinds.Hosts (are_from_zero numbers)
  Ok (length numbers)
