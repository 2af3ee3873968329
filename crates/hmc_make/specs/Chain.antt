-- The chain: host 0 is at cube 0, and each cube is joined to the next.
use Rattle.std.specs.Prelude.{ℕ, ◌-◌, ◌==◌, if◌then◌else◌, List, map, replicate}
use Rattle.hmc_codes.specs.Numbers.{upto}
use Rattle.hmc_codes.specs.declared.place.Place.{Place}
use Rattle.hmc_codes.specs.declared.place.Place.TheVariants.{Host, Port}
use Rattle.hmc_codes.specs.declared.profile.Profile.TheVariants.{One}
use Rattle.hmc_case.specs.Net.{NetFields, net_with}
use Rattle.hmc_case.specs.Setup.{CubeSetupFields}
use Rattle.hmc_case.specs.declared.setup.LinkRow.{LinkRow}

-- a cube: two vaults, each of two banks of 16 rows
abbrev pub cube : CubeSetupFields
cube = record {
  shape = record {
    vault_bits = 1;
    bank_bits = 1;
    rows = 16;
    block = 256;
  };
  queue = 4;
}

-- a link from a to b
abbrev pub link : (a b : Place) → LinkRow
link a b = record {
  join = record { a = a; b = b };
  setup = record {
    line = 8;
    tokens = 64;
    retry = 128;
    output = 4;
    profile = One;
  };
}

-- what is joined to port 0 of a cube: the host, or port 1 of the cube before
abbrev pub joined_to : (cube : ℕ) → Place
joined_to cube = if cube == 0 then Host 0 else Port (cube - 1) 1

-- a link to each cube
abbrev pub links_of : (cubes : ℕ) → List LinkRow
links_of cubes = map (λ cube. link (joined_to cube) (Port cube 0)) (upto cubes)

-- the chain of so many cubes
abbrev pub chain_of : (cubes : ℕ) → NetFields
chain_of cubes = net_with (replicate cubes cube) (links_of cubes)
