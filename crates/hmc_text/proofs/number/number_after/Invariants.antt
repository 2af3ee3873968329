use Rattle.std.proofs.Common.{◌≡◌, ◌<◌, ◌^◌, drop}
use Rattle.hmc_text.specs.Number.{number_after}
use Rattle.hmc_text.proofs.number.number_after.Given as goal

abbrev pub invariant-digits : goal.invariant-digits
invariant-digits l = record {
  rest : number_after l.base l.number (drop l.byte-index l.digits) ≡ number_after l.base 0 l.digits;
  small : l.number < 16 ^ l.byte-index;
}
