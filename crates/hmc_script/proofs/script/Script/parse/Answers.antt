use Rattle.std.proofs.Common.{◌∙◌, refl, arith}
use Rattle.hmc_text.proofs.InTurnLemmas.{next_good}
use Rattle.hmc_script.specs.Script.{after_line}
use Rattle.hmc_script.proofs.ScriptLemmas.{script_of-ok, first_fault}
use Rattle.hmc_script.proofs.script.Script.parse.Goals as goal

pub lines-init : goal.lines-init
lines-init c = rw (c.new-script.ensures, c.of-left.ensures) record { rest = refl; within = λ k d none. absurd (omega arith) }

pub lines-preserved : goal.lines-preserved
lines-preserved c =
    let next = next_good (after_line c.args.hosts c.args.cubes) c.lines.left c.next_line.new.self (c.in-Some.number, c.in-Some.line) _ _ c.in-Some.ensures c.in_default-read_line.ensures.value in
    record {
      rest = next ∙ c.lines.invariant.rest;
      within = c.in_default-read_line.ensures.within c.lines.invariant.within;
    }

pub returns-in-Err-clause-exact : goal.returns-in-Err-clause-exact
returns-in-Err-clause-exact c =
    first_fault c.args.hosts c.args.cubes c.args.text.now c.lines.left c.next_line.new.self (c.in-Some.number, c.in-Some.line) _ c.in-Err.fault c.in-Some.ensures c.in-Err.ensures.value c.lines.invariant.rest

pub returns-clause-exact : goal.returns-clause-exact
returns-clause-exact c =
    script_of-ok c.args.hosts c.args.cubes c.args.text.now c.lines.left _ c.in_default.ensures.0 c.lines.invariant.rest

pub returns-clause-within : goal.returns-clause-within
returns-clause-within c = c.lines.invariant.within
