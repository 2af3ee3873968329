use Rattle.std.proofs.Common.{refl}
use Rattle.hmc_codes.specs.Codes.{all_commands}
use Rattle.hmc_codes.specs.Table.{table_line}
use Rattle.hmc_script.specs.Commands.{requests, command_of, first_tried, second_tried, IsNoneOf}
use Rattle.hmc_script.proofs.CommandLemmas.{command_of-none}
use Rattle.hmc_script.proofs.command.with_last_word.Goals as goal

-- the word is that of none of the requests, in the table's order
pub returns-in_default : goal.returns-in_default
unfolding table_line all_commands requests first_tried second_tried IsNoneOf
returns-in_default c =
    command_of-none c.args.word.now ((((((((((((((((((((((((((((((((((((((((((((((((((((((((((((((tt, c.requires.first.1.0), c.requires.first.1.1.1.0), c.requires.first.1.1.1.1.1.1.1.1.1.1.1.0), c.requires.first.1.1.1.1.1.0), c.requires.first.1.1.1.1.1.1.1.1.1.1.1.1.1.0), c.requires.first.1.1.1.1.1.1.1.1.1.1.1.1.1.1.1.0), c.requires.first.1.1.1.1.1.1.1.1.1.1.1.1.1.1.1.1.1.0), c.requires.first.1.1.1.1.1.1.1.0), c.requires.first.1.1.1.1.1.1.1.1.1.0), c.requires.second.0), c.requires.second.1.0), c.requires.second.1.1.0), c.requires.second.1.1.1.0), c.requires.second.1.1.1.1.0), c.requires.second.1.1.1.1.1.0), c.requires.second.1.1.1.1.1.1.0), c.requires.second.1.1.1.1.1.1.1.0), c.requires.second.1.1.1.1.1.1.1.1.0), c.requires.first.0), c.requires.first.1.1.0), c.requires.first.1.1.1.1.1.1.1.1.1.1.0), c.requires.first.1.1.1.1.0), c.requires.first.1.1.1.1.1.1.1.1.1.1.1.1.0), c.requires.first.1.1.1.1.1.1.1.1.1.1.1.1.1.1.0), c.requires.first.1.1.1.1.1.1.1.1.1.1.1.1.1.1.1.1.0), c.requires.first.1.1.1.1.1.1.0), c.requires.first.1.1.1.1.1.1.1.1.0), c.requires.second.1.1.1.1.1.1.1.1.1.0), c.requires.second.1.1.1.1.1.1.1.1.1.1.0), c.requires.second.1.1.1.1.1.1.1.1.1.1.1.0), c.requires.second.1.1.1.1.1.1.1.1.1.1.1.1.0), c.requires.second.1.1.1.1.1.1.1.1.1.1.1.1.1.0), c.requires.second.1.1.1.1.1.1.1.1.1.1.1.1.1.1.0), c.requires.second.1.1.1.1.1.1.1.1.1.1.1.1.1.1.1.0), c.requires.second.1.1.1.1.1.1.1.1.1.1.1.1.1.1.1.1.0), c.requires.second.1.1.1.1.1.1.1.1.1.1.1.1.1.1.1.1.1.0), c.requires.second.1.1.1.1.1.1.1.1.1.1.1.1.1.1.1.1.1.1.0), c.requires.second.1.1.1.1.1.1.1.1.1.1.1.1.1.1.1.1.1.1.1.0), c.requires.second.1.1.1.1.1.1.1.1.1.1.1.1.1.1.1.1.1.1.1.1.0), c.requires.second.1.1.1.1.1.1.1.1.1.1.1.1.1.1.1.1.1.1.1.1.1.0), c.in_default.not-nor16), c.in_default.not-and16), c.in_default.not-nand16), c.in_default.not-inc8), c.in_default.not-pinc8), c.in_default.not-casgt8), c.in_default.not-caslt8), c.in_default.not-casgt16), c.in_default.not-caslt16), c.in_default.not-caseq8), c.in_default.not-caszero16), c.in_default.not-eq16), c.in_default.not-eq8), c.in_default.not-swap16), c.in_default.not-unit0), c.in_default.not-unit1), c.in_default.not-unit2), c.in_default.not-unit3), c.in_default.not-unit4), c.in_default.not-unit5), c.in_default.not-unit6), c.in_default.not-unit7)

pub returns-in-nor16 : goal.returns-in-nor16
unfolding table_line all_commands requests command_of
returns-in-nor16 c = rw c.in-nor16.is refl

pub returns-in-and16 : goal.returns-in-and16
unfolding table_line all_commands requests command_of
returns-in-and16 c = rw c.in-and16.is refl

pub returns-in-nand16 : goal.returns-in-nand16
unfolding table_line all_commands requests command_of
returns-in-nand16 c = rw c.in-nand16.is refl

pub returns-in-inc8 : goal.returns-in-inc8
unfolding table_line all_commands requests command_of
returns-in-inc8 c = rw c.in-inc8.is refl

pub returns-in-pinc8 : goal.returns-in-pinc8
unfolding table_line all_commands requests command_of
returns-in-pinc8 c = rw c.in-pinc8.is refl

pub returns-in-casgt8 : goal.returns-in-casgt8
unfolding table_line all_commands requests command_of
returns-in-casgt8 c = rw c.in-casgt8.is refl

pub returns-in-caslt8 : goal.returns-in-caslt8
unfolding table_line all_commands requests command_of
returns-in-caslt8 c = rw c.in-caslt8.is refl

pub returns-in-casgt16 : goal.returns-in-casgt16
unfolding table_line all_commands requests command_of
returns-in-casgt16 c = rw c.in-casgt16.is refl

pub returns-in-caslt16 : goal.returns-in-caslt16
unfolding table_line all_commands requests command_of
returns-in-caslt16 c = rw c.in-caslt16.is refl

pub returns-in-caseq8 : goal.returns-in-caseq8
unfolding table_line all_commands requests command_of
returns-in-caseq8 c = rw c.in-caseq8.is refl

pub returns-in-caszero16 : goal.returns-in-caszero16
unfolding table_line all_commands requests command_of
returns-in-caszero16 c = rw c.in-caszero16.is refl

pub returns-in-eq16 : goal.returns-in-eq16
unfolding table_line all_commands requests command_of
returns-in-eq16 c = rw c.in-eq16.is refl

pub returns-in-eq8 : goal.returns-in-eq8
unfolding table_line all_commands requests command_of
returns-in-eq8 c = rw c.in-eq8.is refl

pub returns-in-swap16 : goal.returns-in-swap16
unfolding table_line all_commands requests command_of
returns-in-swap16 c = rw c.in-swap16.is refl

pub returns-in-unit0 : goal.returns-in-unit0
unfolding table_line all_commands requests command_of
returns-in-unit0 c = rw c.in-unit0.is refl

pub returns-in-unit1 : goal.returns-in-unit1
unfolding table_line all_commands requests command_of
returns-in-unit1 c = rw c.in-unit1.is refl

pub returns-in-unit2 : goal.returns-in-unit2
unfolding table_line all_commands requests command_of
returns-in-unit2 c = rw c.in-unit2.is refl

pub returns-in-unit3 : goal.returns-in-unit3
unfolding table_line all_commands requests command_of
returns-in-unit3 c = rw c.in-unit3.is refl

pub returns-in-unit4 : goal.returns-in-unit4
unfolding table_line all_commands requests command_of
returns-in-unit4 c = rw c.in-unit4.is refl

pub returns-in-unit5 : goal.returns-in-unit5
unfolding table_line all_commands requests command_of
returns-in-unit5 c = rw c.in-unit5.is refl

pub returns-in-unit6 : goal.returns-in-unit6
unfolding table_line all_commands requests command_of
returns-in-unit6 c = rw c.in-unit6.is refl

pub returns-in-unit7 : goal.returns-in-unit7
unfolding table_line all_commands requests command_of
returns-in-unit7 c = rw c.in-unit7.is refl
