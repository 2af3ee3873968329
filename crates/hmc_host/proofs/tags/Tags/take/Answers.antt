-- One more tag is out.
use Rattle.std.proofs.Common.{◌≡◌, false, arith}
use Rattle.std.specs.Prelude.{slice_get, Some}
use Rattle.std.proofs.lemmas.Option.{slice_get_within}
use Rattle.hmc_host.proofs.TagLemmas.{kept_taken}
use Rattle.hmc_host.proofs.tags.Tags.take.Goals as goal

pub index_mut-requires : goal.index_mut-requires
index_mut-requires c =
    let free : slice_get c.self.inside.flags.items c.from.result ≡ Some false = cc (c.requires _ c.in-Some.is) in
    omega (arith, slice_get_within c.self.inside.flags.items c.from.result false free)

pub invariant_of-self : goal.invariant_of-self
invariant_of-self c =
    let free : slice_get c.self.inside.flags.items c.from.result ≡ Some false = cc (c.requires _ c.in-Some.is) in
    rw (c.past-self-inside.ensures, ← c.from.ensures) (kept_taken _ _ _ _ c.self.invariant free)
