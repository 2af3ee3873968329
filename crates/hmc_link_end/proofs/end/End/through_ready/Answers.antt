use Rattle.std.proofs.Common.{◌∙◌, ℕ, Option, subst, sym, ap}
use Rattle.std.specs.Prelude.{nat_le, is_none}
use Rattle.hmc_packet.specs.Packet.{PacketFields}
use Rattle.hmc_ends.specs.End.{EndFields}
use Rattle.hmc_ends.specs.StandsFor.{EndStandsFor}
use Rattle.hmc_ends.proofs.Throughs.{ready-is, none-by}
use Rattle.hmc_link_end.proofs.end.End.through_ready.Goals as goal

pub returns : goal.returns
returns g c link p s0 =
    let s = subst (λ (e : EndFields). EndStandsFor link e p) (sym c.self.view_is) s0 in
    ready-is link _ p c.view.result c.args.flits _ _ _ _ c.all_four.result s (c.view.ensures link.profile p.received s.receiver)
    (none-by c.is_none-empty.result c.front_ref.result (sym c.is_none-empty.ensures) ∙ ap (λ (o : Option PacketFields). is_none o) c.front_ref.ensures)
    (c.free-free.ensures.by_list p.sender s.sender)
    (ap (λ (n : ℕ). nat_le n c.self.inside.account.held) c.from.ensures)
    (λ i. nat_le (c.from-2.ensures i) (c.room.ensures.by_list p.sender s.sender i))
    c.all_four.ensures
