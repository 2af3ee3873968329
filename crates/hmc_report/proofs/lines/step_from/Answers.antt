use Rattle.std.proofs.Common.{subst, sym}
use Rattle.hmc_report.specs.Left.{IsCursor, Gives}
use Rattle.hmc_report.specs.declared.lines.Cursor.{Cursor}
use Rattle.hmc_report.proofs.lines.step_from.Goals as goal

pub block_step-requires-clause-cube : goal.block_step-requires-clause-cube
block_step-requires-clause-cube g c =
    subst (λ (k : Cursor). IsCursor (g.N.Finished.final_values c.args.net.now) k) c.in-Block.is c.requires.cursor

pub register_step-requires-clause-cube : goal.register_step-requires-clause-cube
register_step-requires-clause-cube g c =
    subst (λ (k : Cursor). IsCursor (g.N.Finished.final_values c.args.net.now) k) c.in-Register.is c.requires.cursor

pub returns-in-Block : goal.returns-in-Block
returns-in-Block g c =
    subst (λ (k : Cursor). Gives (g.N.Finished.final_values c.args.net.now) k c.block_step.result c.block_step.new.into.bytes) (sym c.in-Block.is) c.block_step.ensures

pub returns-in-Register : goal.returns-in-Register
returns-in-Register g c =
    subst (λ (k : Cursor). Gives (g.N.Finished.final_values c.args.net.now) k c.register_step.result c.register_step.new.into.bytes) (sym c.in-Register.is) c.register_step.ensures

pub returns-in-Tokens : goal.returns-in-Tokens
returns-in-Tokens g c =
    subst (λ (k : Cursor). Gives (g.N.Finished.final_values c.args.net.now) k c.token_step.result c.token_step.new.into.bytes) (sym c.in-Tokens.is) c.token_step.ensures

pub returns-in-Counters : goal.returns-in-Counters
returns-in-Counters g c =
    subst (λ (k : Cursor). Gives (g.N.Finished.final_values c.args.net.now) k c.counter_step.result c.counter_step.new.into.bytes) (sym c.in-Counters.is) c.counter_step.ensures

pub returns-in-Host : goal.returns-in-Host
returns-in-Host g c =
    subst (λ (k : Cursor). Gives (g.N.Finished.final_values c.args.net.now) k c.host_step.result c.host_step.new.into.bytes) (sym c.in-Host.is) c.host_step.ensures

pub returns-in-Cube : goal.returns-in-Cube
returns-in-Cube g c =
    subst (λ (k : Cursor). Gives (g.N.Finished.final_values c.args.net.now) k c.cube_step.result c.cube_step.new.into.bytes) (sym c.in-Cube.is) c.cube_step.ensures
