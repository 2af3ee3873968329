use Rattle.std.proofs.Common.{refl}
use Rattle.hmc_codes.specs.Codes.{all_commands}
use Rattle.hmc_codes.specs.Table.{table_line}
use Rattle.hmc_script.specs.Commands.{requests, command_of, first_tried, IsNoneOf}
use Rattle.hmc_script.proofs.command.with_word.Goals as goal

-- each word is computed, which is quicker than what the check would try by itself
pub returns-in-rd16 : goal.returns-in-rd16
unfolding table_line all_commands requests command_of
returns-in-rd16 c = rw c.in-rd16.is refl

pub returns-in-wr16 : goal.returns-in-wr16
unfolding table_line all_commands requests command_of
returns-in-wr16 c = rw c.in-wr16.is refl

pub returns-in-rd32 : goal.returns-in-rd32
unfolding table_line all_commands requests command_of
returns-in-rd32 c = rw c.in-rd32.is refl

pub returns-in-wr32 : goal.returns-in-wr32
unfolding table_line all_commands requests command_of
returns-in-wr32 c = rw c.in-wr32.is refl

pub returns-in-rd64 : goal.returns-in-rd64
unfolding table_line all_commands requests command_of
returns-in-rd64 c = rw c.in-rd64.is refl

pub returns-in-wr64 : goal.returns-in-wr64
unfolding table_line all_commands requests command_of
returns-in-wr64 c = rw c.in-wr64.is refl

pub returns-in-rd128 : goal.returns-in-rd128
unfolding table_line all_commands requests command_of
returns-in-rd128 c = rw c.in-rd128.is refl

pub returns-in-wr128 : goal.returns-in-wr128
unfolding table_line all_commands requests command_of
returns-in-wr128 c = rw c.in-wr128.is refl

pub returns-in-rd256 : goal.returns-in-rd256
unfolding table_line all_commands requests command_of
returns-in-rd256 c = rw c.in-rd256.is refl

pub returns-in-wr256 : goal.returns-in-wr256
unfolding table_line all_commands requests command_of
returns-in-wr256 c = rw c.in-wr256.is refl

pub returns-in-rd48 : goal.returns-in-rd48
unfolding table_line all_commands requests command_of
returns-in-rd48 c = rw c.in-rd48.is refl

pub returns-in-wr48 : goal.returns-in-wr48
unfolding table_line all_commands requests command_of
returns-in-wr48 c = rw c.in-wr48.is refl

pub returns-in-rd80 : goal.returns-in-rd80
unfolding table_line all_commands requests command_of
returns-in-rd80 c = rw c.in-rd80.is refl

pub returns-in-wr80 : goal.returns-in-wr80
unfolding table_line all_commands requests command_of
returns-in-wr80 c = rw c.in-wr80.is refl

pub returns-in-rd96 : goal.returns-in-rd96
unfolding table_line all_commands requests command_of
returns-in-rd96 c = rw c.in-rd96.is refl

pub returns-in-wr96 : goal.returns-in-wr96
unfolding table_line all_commands requests command_of
returns-in-wr96 c = rw c.in-wr96.is refl

pub returns-in-rd112 : goal.returns-in-rd112
unfolding table_line all_commands requests command_of
returns-in-rd112 c = rw c.in-rd112.is refl

pub returns-in-wr112 : goal.returns-in-wr112
unfolding table_line all_commands requests command_of
returns-in-wr112 c = rw c.in-wr112.is refl

-- the word is that of none of those that were tried
pub with_other_word-requires : goal.with_other_word-requires
unfolding table_line first_tried IsNoneOf
with_other_word-requires c =
    record { first = (c.in_default.not-rd16, (c.in_default.not-wr16, (c.in_default.not-rd32, (c.in_default.not-wr32, (c.in_default.not-rd64, (c.in_default.not-wr64, (c.in_default.not-rd128, (c.in_default.not-wr128, (c.in_default.not-rd256, (c.in_default.not-wr256, (c.in_default.not-rd48, (c.in_default.not-wr48, (c.in_default.not-rd80, (c.in_default.not-wr80, (c.in_default.not-rd96, (c.in_default.not-wr96, (c.in_default.not-rd112, (c.in_default.not-wr112, tt)))))))))))))))))) }
