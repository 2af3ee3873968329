-- The front's flits are counted no more.
use Rattle.std.proofs.Common.{◌≡◌, ◌∙◌, Some, ap, sym}
use Rattle.std.specs.Prelude.{slice_get}
use Rattle.std.specs.Option.{option_copied}
use Rattle.hmc_tokens.proofs.PacketLemmas.{kept_without_front}
use Rattle.hmc_tokens.proofs.packets.PacketList.drop_front.Goals as goal

pub invariant_of-self : goal.invariant_of-self
invariant_of-self c =
    let inside = c.self.inside in
    let front : slice_get inside.packets.items 0 ≡ Some c.in-Some.front.now = sym c.front.ensures ∙ ap option_copied c.in-Some.is in
    rw (c.from.ensures ∙ c.flits.ensures.value, c.drop_first.ensures.items, c.drop_first.ensures.capacity)
    (kept_without_front inside.packets.items inside.most inside.packets.capacity inside.flits c.in-Some.front.now c.self.invariant front)
