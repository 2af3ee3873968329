use Rattle.std.proofs.Common.{◌∙◌, None, Some, sym, arith}
use Rattle.hmc_text.proofs.NumberLemmas.{one_more_digit, room_for_a_digit, number_after-digit, number_after-all}
use Rattle.hmc_text.proofs.number.number_after.Goals as goal

pub returns-in_default : goal.returns-in_default
returns-in_default c =
    number_after-digit c.args.base c.digits.number c.digits.byte-index c.args.digits.now _ None c.digits-test.true (sym c.in_default.is ∙ c.digit.ensures.value) c.digits.invariant.rest

pub overflow_mul-number : goal.overflow_mul-number
overflow_mul-number c =
    let room = room_for_a_digit c.args.base c.digits.number c.digits.byte-index c.in-Some.value c.requires.base c.digits.invariant.small (omega (arith, c.requires.few)) c.in-Some.ensures.small in
    rw c.from.ensures (omega (arith, room))

pub overflow_add-number : goal.overflow_add-number
overflow_add-number c =
    let room = room_for_a_digit c.args.base c.digits.number c.digits.byte-index c.in-Some.value c.requires.base c.digits.invariant.small (omega (arith, c.requires.few)) c.in-Some.ensures.small in
    rw (c.from.ensures, c.from-in-digits.ensures) (omega (arith, room))

pub digits-preserved : goal.digits-preserved
digits-preserved c =
    rw (c.from.ensures, c.from-in-digits.ensures) record {
      rest = number_after-digit c.args.base c.digits.number c.digits.byte-index c.args.digits.now _ (Some c.in-Some.value) c.digits-test.true (sym c.in-Some.is ∙ c.digit.ensures.value) c.digits.invariant.rest;
      small = one_more_digit c.args.base c.digits.number c.digits.byte-index c.in-Some.value c.requires.base c.digits.invariant.small c.in-Some.ensures.small;
    }

pub returns : goal.returns
returns c =
    sym (number_after-all c.args.base c.digits.number c.digits.byte-index c.args.digits.now c.digits-test.false) ∙ c.digits.invariant.rest
