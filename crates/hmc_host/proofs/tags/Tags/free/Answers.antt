-- One tag fewer is out.
use Rattle.std.proofs.Common.{◌≡◌, true}
use Rattle.std.specs.Prelude.{slice_get, Some}
use Rattle.hmc_host.proofs.TagLemmas.{kept_freed, some_number}
use Rattle.hmc_host.proofs.tags.Tags.free.Goals as goal

pub overflow_sub-self : goal.overflow_sub-self
overflow_sub-self c =
    let out : slice_get c.self.inside.flags.items c.from.result ≡ Some true = cc in
    some_number _ _ _ c.self.invariant.are out

pub invariant_of-self : goal.invariant_of-self
invariant_of-self c =
    let out : slice_get c.self.inside.flags.items c.from.result ≡ Some true = cc in
    rw (c.min-self-inside.ensures, ← c.from.ensures) (kept_freed _ _ _ _ c.self.invariant out)
