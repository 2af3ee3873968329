-- Cubes.
use Rattle.std.specs.Prelude.{ℕ, List, [], length, codes, Result, Ok}
use Rattle.toml.specs.Data.{Data, Items, Members}
use Rattle.hmc_codes.specs.Limits.{most_vault_bits, most_bank_bits, most_block, most_rows, most_queue}
use Rattle.hmc_codes.specs.Shape.{is_block}
use Rattle.hmc_codes.specs.declared.profile.Profile.{Profile}
use Rattle.hmc_codes.specs.declared.profile.Profile.TheVariants.{One, Two}
use Rattle.hmc_case.specs.Keys.{table_of, number_at}
use Rattle.hmc_text.specs.Reading.{◌>>=◌}
use Rattle.hmc_case.specs.Setup.{CubeSetupFields}
use Rattle.hmc_case.specs.Reading.{Fault, or_refuse, in_section, in_turn}
use Rattle.hmc_case.specs.declared.fault.CaseKind.{CaseKind}
use Rattle.hmc_case.specs.declared.fault.CaseKind.TheVariants as kinds
use Rattle.hmc_case.specs.declared.fault.Section.TheVariants.{Cube}
use Rattle.hmc_case.specs.declared.keys.Part.TheVariants as parts

-- the bytes of a cube's block: stated in a case of profile 2, and the most in one of profile 1
unfoldable pub block_of : Profile → Members → Result ℕ CaseKind
block_of One table = Ok most_block
block_of Two table = do
  block ← number_at (codes "block") 0 most_block table
  allowed ← or_refuse kinds.Range (is_block block)
  Ok block

-- a cube of a case of this profile: its table, and then its keys
unfoldable pub cube_setup_of : Profile → Data → Result CubeSetupFields CaseKind
cube_setup_of profile value = do
  table ← table_of (parts.Cube profile) value
  vault_bits ← number_at (codes "vault_bits") 0 most_vault_bits table
  bank_bits ← number_at (codes "bank_bits") 0 most_bank_bits table
  rows ← number_at (codes "rows") 1 most_rows table
  queue ← number_at (codes "queue") 1 most_queue table
  block ← block_of profile table
  Ok (record {
    shape = record {
      vault_bits = vault_bits;
      bank_bits = bank_bits;
      rows = rows;
      block = block;
    };
    queue = queue;
  })

-- the next cube; they are numbered from 0
abbrev pub next_cube : Profile → List CubeSetupFields → Data → Result CubeSetupFields Fault
next_cube profile cubes value = in_section Cube (length cubes) (cube_setup_of profile value)

-- all cubes, each whole before the next
abbrev pub cubes_of : Profile → Items → Result (List CubeSetupFields) Fault
cubes_of profile values = in_turn (next_cube profile) [] values
