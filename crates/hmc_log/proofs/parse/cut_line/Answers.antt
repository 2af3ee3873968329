-- A line up to its line feed, or the last one.
use Rattle.std.proofs.Common.{◌≡◌, Some, None, false, get_or, arith}
use Rattle.std.proofs.lemmas.Bool.{ne_eqb}
use Rattle.std.proofs.lemmas.List.Elements.{All-from_get_or}
use Rattle.std.proofs.lemmas.Str.Pattern.{split_once_first, split_parts}
use Rattle.hmc_text.specs.Lines.{is_line_feed}
use Rattle.hmc_log.proofs.Cutting.{line_and_rest, last_line}
use Rattle.hmc_log.proofs.parse.cut_line.Goals as goal

pub returns-in-Some-clause-lines : goal.returns-in-Some-clause-lines
returns-in-Some-clause-lines c =
    let split = split_once_first 10 c.args.text.now (Some c.in-Some.parts) c.in-Some.ensures.cases
    (omega arith) in
    line_and_rest c.args.text.now c.in-Some.parts.0.now c.in-Some.parts.1.now split.0 split.1
    split.2

pub returns-in-None-clause-lines : goal.returns-in-None-clause-lines
returns-in-None-clause-lines c =
    let lacks = split_parts 10 c.args.text.now None c.in-None.ensures.cases (omega arith) in
    last_line c.args.text.now c.requires
    (All-from_get_or (λ b. is_line_feed b ≡ false) c.args.text.now 0
    (λ i inside. ne_eqb (get_or c.args.text.now i 0) 10 (lacks i inside)))
