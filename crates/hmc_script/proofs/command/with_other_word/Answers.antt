use Rattle.std.proofs.Common.{refl}
use Rattle.hmc_codes.specs.Codes.{all_commands}
use Rattle.hmc_codes.specs.Table.{table_line}
use Rattle.hmc_script.specs.Commands.{requests, command_of, second_tried, IsNoneOf}
use Rattle.hmc_script.proofs.command.with_other_word.Goals as goal

pub returns-in-pwr16 : goal.returns-in-pwr16
unfolding table_line all_commands requests command_of
returns-in-pwr16 c = rw c.in-pwr16.is refl

pub returns-in-pwr32 : goal.returns-in-pwr32
unfolding table_line all_commands requests command_of
returns-in-pwr32 c = rw c.in-pwr32.is refl

pub returns-in-pwr48 : goal.returns-in-pwr48
unfolding table_line all_commands requests command_of
returns-in-pwr48 c = rw c.in-pwr48.is refl

pub returns-in-pwr64 : goal.returns-in-pwr64
unfolding table_line all_commands requests command_of
returns-in-pwr64 c = rw c.in-pwr64.is refl

pub returns-in-pwr80 : goal.returns-in-pwr80
unfolding table_line all_commands requests command_of
returns-in-pwr80 c = rw c.in-pwr80.is refl

pub returns-in-pwr96 : goal.returns-in-pwr96
unfolding table_line all_commands requests command_of
returns-in-pwr96 c = rw c.in-pwr96.is refl

pub returns-in-pwr112 : goal.returns-in-pwr112
unfolding table_line all_commands requests command_of
returns-in-pwr112 c = rw c.in-pwr112.is refl

pub returns-in-pwr128 : goal.returns-in-pwr128
unfolding table_line all_commands requests command_of
returns-in-pwr128 c = rw c.in-pwr128.is refl

pub returns-in-pwr256 : goal.returns-in-pwr256
unfolding table_line all_commands requests command_of
returns-in-pwr256 c = rw c.in-pwr256.is refl

pub returns-in-mdwr : goal.returns-in-mdwr
unfolding table_line all_commands requests command_of
returns-in-mdwr c = rw c.in-mdwr.is refl

pub returns-in-mdrd : goal.returns-in-mdrd
unfolding table_line all_commands requests command_of
returns-in-mdrd c = rw c.in-mdrd.is refl

pub returns-in-bwr : goal.returns-in-bwr
unfolding table_line all_commands requests command_of
returns-in-bwr c = rw c.in-bwr.is refl

pub returns-in-text : goal.returns-in-text
unfolding table_line all_commands requests command_of
returns-in-text c = rw c.in-text.is refl

pub returns-in-add16 : goal.returns-in-add16
unfolding table_line all_commands requests command_of
returns-in-add16 c = rw c.in-add16.is refl

pub returns-in-pbwr : goal.returns-in-pbwr
unfolding table_line all_commands requests command_of
returns-in-pbwr c = rw c.in-pbwr.is refl

pub returns-in-p2add8 : goal.returns-in-p2add8
unfolding table_line all_commands requests command_of
returns-in-p2add8 c = rw c.in-p2add8.is refl

pub returns-in-padd16 : goal.returns-in-padd16
unfolding table_line all_commands requests command_of
returns-in-padd16 c = rw c.in-padd16.is refl

pub returns-in-bwr8r : goal.returns-in-bwr8r
unfolding table_line all_commands requests command_of
returns-in-bwr8r c = rw c.in-bwr8r.is refl

pub returns-in-text-2 : goal.returns-in-text-2
unfolding table_line all_commands requests command_of
returns-in-text-2 c = rw c.in-text-2.is refl

pub returns-in-adds16r : goal.returns-in-adds16r
unfolding table_line all_commands requests command_of
returns-in-adds16r c = rw c.in-adds16r.is refl

pub returns-in-xor16 : goal.returns-in-xor16
unfolding table_line all_commands requests command_of
returns-in-xor16 c = rw c.in-xor16.is refl

pub returns-in-or16 : goal.returns-in-or16
unfolding table_line all_commands requests command_of
returns-in-or16 c = rw c.in-or16.is refl

-- the word is that of none of those that were tried
pub with_last_word-requires-clause-second : goal.with_last_word-requires-clause-second
unfolding table_line second_tried IsNoneOf
with_last_word-requires-clause-second c =
    (c.in_default.not-pwr16, (c.in_default.not-pwr32, (c.in_default.not-pwr48, (c.in_default.not-pwr64, (c.in_default.not-pwr80, (c.in_default.not-pwr96, (c.in_default.not-pwr112, (c.in_default.not-pwr128, (c.in_default.not-pwr256, (c.in_default.not-mdwr, (c.in_default.not-mdrd, (c.in_default.not-bwr, (c.in_default.not-text, (c.in_default.not-add16, (c.in_default.not-pbwr, (c.in_default.not-p2add8, (c.in_default.not-padd16, (c.in_default.not-bwr8r, (c.in_default.not-text-2, (c.in_default.not-adds16r, (c.in_default.not-xor16, (c.in_default.not-or16, tt))))))))))))))))))))))
