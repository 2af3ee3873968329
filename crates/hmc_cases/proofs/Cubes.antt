-- Each cube that is read is one of a case.
use Rattle.std.proofs.Common.{◌≡◌, true, List, [], ◌∷◌, ◌++◌, length, codes, refl}
use Rattle.std.proofs.lemmas.List.Elements.{All-nil, All-cons, All-append}
use Rattle.std.specs.List.{All}
use Rattle.toml.specs.Data.{Data, Items, Members}
use Rattle.hmc_codes.specs.Limits.{most_vault_bits, most_bank_bits, most_block, most_rows, most_queue}
use Rattle.hmc_codes.specs.Shape.{is_block}
use Rattle.hmc_codes.specs.declared.profile.Profile.{Profile}
use Rattle.hmc_codes.specs.declared.profile.Profile.TheVariants.{One, Two}
use Rattle.hmc_case.specs.Cubes.{block_of, cube_setup_of, next_cube, cubes_of}
use Rattle.hmc_case.specs.Keys.{table_of, number_at, count_of}
use Rattle.hmc_case.specs.Setup.{CubeSetupFields, IsCubeSetup}
use Rattle.hmc_case.specs.declared.fault.CaseKind.TheVariants as kinds
use Rattle.hmc_case.specs.declared.fault.Section.TheVariants as sections
use Rattle.hmc_case.specs.declared.keys.Part.TheVariants as parts
use Rattle.hmc_cases.proofs.Keys.{integer_known}
use Rattle.hmc_cases.proofs.Reading.{IfRead, value, after, after_any, so, both, tested, in_section_too, all_rows, rows_counted}

block_known : (profile : Profile) (table : Members)
    → IfRead (block_of profile table) (λ block. is_block block ≡ true)
unfolding block_of
block_known One table = value refl
block_known Two table =
    after_any (number_at (codes "block") 0 most_block table) (λ block.
    after (tested kinds.Range (is_block block)) (λ done is.
    value is))

cube_known : (profile : Profile) (row : Data) → IfRead (cube_setup_of profile row) IsCubeSetup
unfolding cube_setup_of
cube_known profile row =
    after_any (table_of (parts.Cube profile) row) (λ table.
    after (integer_known (codes "vault_bits") 0 most_vault_bits table) (λ vault_bits vaults.
    after (integer_known (codes "bank_bits") 0 most_bank_bits table) (λ bank_bits banks.
    after (integer_known (codes "rows") 1 most_rows table) (λ rows in_rows.
    after (integer_known (codes "queue") 1 most_queue table) (λ queue in_queue.
    after (block_known profile table) (λ block is.
    value (record {
      shape = record {
        vault_bits = vaults.most_is;
        bank_bits = banks.most_is;
        some_rows = in_rows.least_is;
        rows = in_rows.most_is;
        block = is;
      };
      some_queue = in_queue.least_is;
      queue = in_queue.most_is;
    })))))))

next_known : (profile : Profile) (cubes : List CubeSetupFields) (row : Data)
    → All IsCubeSetup cubes
    → IfRead (next_cube profile cubes row) (λ cube. All IsCubeSetup (cubes ++ cube ∷ []))
next_known profile cubes row are =
    in_section_too sections.Cube (length cubes) (so (cube_known profile row) (λ cube is.
    let one = All-cons IsCubeSetup cube [] is (All-nil IsCubeSetup) in
    All-append IsCubeSetup cubes (cube ∷ []) are one))

-- so are all of them, and there is one for each item
pub cubes_known : (profile : Profile) (rows : Items)
    → IfRead (cubes_of profile rows)
    (λ cubes. All IsCubeSetup cubes × (length cubes ≡ count_of rows))
cubes_known profile rows =
    both
    (all_rows (All IsCubeSetup) (next_known profile) [] rows (All-nil IsCubeSetup))
    (rows_counted (next_cube profile) rows)
