use Rattle.std.proofs.Common.{◌∙◌, sym, ap}
use Rattle.hmc_case.proofs.KeysLemmas.{has_only_keys-view}
use Rattle.hmc_case.specs.Reading.{or_refuse}
use Rattle.hmc_case.specs.declared.fault.CaseKind.TheVariants as kinds
use Rattle.hmc_case.proofs.keys.known_keys.Goals as goal

pub returns-then-has_only_keys : goal.returns-then-has_only_keys
returns-then-has_only_keys c =
    let keys = has_only_keys-view c.args.part c.args.table.now.entries in
    ap (or_refuse kinds.Unknown) (sym (keys ∙ sym c.has_only_keys.ensures ∙ c.if-has_only_keys.true))

pub returns-else-has_only_keys : goal.returns-else-has_only_keys
returns-else-has_only_keys c =
    let keys = has_only_keys-view c.args.part c.args.table.now.entries in
    ap (or_refuse kinds.Unknown) (sym (keys ∙ sym c.has_only_keys.ensures ∙ c.if-has_only_keys.false))
