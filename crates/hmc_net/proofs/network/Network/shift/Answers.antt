-- Nothing goes from an empty buffer.
use Rattle.std.proofs.Common.{◌≡◌, Bor, Some, None, ap, subst}
use Rattle.std.specs.Prelude.{option_map}
use Rattle.hmc_codes.specs.declared.place.Place.TheVariants as places
use Rattle.hmc_packet.specs.Packet.{PacketFields}
use Rattle.hmc_journal.specs.Links.{direction_to}
use Rattle.hmc_links.specs.LinkList.{IsFrontAt}
use Rattle.hmc_net.specs.NetState.{net_of, NetState}
use Rattle.hmc_net.proofs.Indexed.{entry_changed}
use Rattle.hmc_net.proofs.PortSteps.{shift_none, one_front}
use Rattle.hmc_net.proofs.network.Network.shift.Goals as goal

pub returns-in_default-clause-does : goal.returns-in_default-clause-does
returns-in_default-clause-does g c =
    shift_none (net_of g.B.Workbench.slots c.args.self.now) _ c.args.cube c.args.port c.to_port-direction.result c.requires.ready.sized
    (subst (λ (n : NetState). direction_to n.topology (places.Port c.args.cube c.args.port) ≡ Some c.to_port-direction.result) (ap (net_of g.B.Workbench.slots) c.self.view_is) c.to_port-direction.ensures.to)
    (subst (λ (n : NetState). IsFrontAt n.links c.to_port-direction.result None) (ap (net_of g.B.Workbench.slots) c.self.view_is) (subst (IsFrontAt c.self.inside.links c.to_port-direction.result) (ap (option_map (λ (p : Bor PacketFields). p.now)) c.in_default.is) c.front_ref.ensures))
    (entry_changed _ (net_of g.B.Workbench.slots c.args.self.now) _ _ _ _ c.idle.new.last _ (ap (net_of g.B.Workbench.slots) c.self.view_is) c.idle.ensures.last)

pub shift_front-requires-clause-ends : goal.shift_front-requires-clause-ends
shift_front-requires-clause-ends g c =
    subst (λ (n : NetState). direction_to n.topology (places.Port c.args.cube c.args.port) ≡ Some c.to_port-direction.result) (ap (net_of g.B.Workbench.slots) c.self.view_is) c.to_port-direction.ensures.to

pub shift_front-requires-clause-some : goal.shift_front-requires-clause-some
shift_front-requires-clause-some g c =
    one_front (net_of g.B.Workbench.slots c.args.self.now) c.to_port-direction.result c.in-Some.field-0.now c.requires.ready
    (subst (λ (n : NetState). IsFrontAt n.links c.to_port-direction.result (Some c.in-Some.field-0.now)) (ap (net_of g.B.Workbench.slots) c.self.view_is) (subst (IsFrontAt c.self.inside.links c.to_port-direction.result) (ap (option_map (λ (p : Bor PacketFields). p.now)) c.in-Some.is) c.front_ref.ensures))
