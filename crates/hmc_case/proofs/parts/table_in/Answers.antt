use Rattle.std.proofs.Common.{ap}
use Rattle.hmc_case.proofs.PartsLemmas.{table_in-ok, table_in-err}
use Rattle.hmc_case.specs.Reading.{in_section}
use Rattle.hmc_case.specs.declared.fault.Section.TheVariants as sections
use Rattle.toml.specs.View.{table_view}
use Rattle.hmc_case.proofs.parts.table_in.Goals as goal

pub returns-in_default : goal.returns-in_default
returns-in_default c = ap (in_section sections.Toml 0) (table_in-err c.args.bytes.now c.in_default.ensures.cases.0)

pub returns-in-Ok-table_from_str : goal.returns-in-Ok-table_from_str
returns-in-Ok-table_from_str c =
    let cases = c.in-Ok.ensures.cases in
    ap (in_section sections.Toml 0) (table_in-ok c.args.bytes.now c.in-Ok.text.now (table_view c.in-Ok-table_from_str.table) cases.0 cases.1 c.in-Ok-table_from_str.ensures.ok)
