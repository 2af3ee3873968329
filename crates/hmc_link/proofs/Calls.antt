-- A packet that is handed to the end that sends in a direction.
use Rattle.std.proofs.Common.{◌≡◌, ◌<◌, [], ◌∷◌, ◌++◌, length, sym, subst}
use Rattle.hmc_packet.specs.Packet.{PacketFields, IsPacket}
use Rattle.hmc_send.specs.Given.{IsTaken}
use Rattle.hmc_send.specs.LinkCalls.{LinkCall}
use Rattle.hmc_send.specs.declared.toward.Toward.{Toward}
use Rattle.hmc_ends.specs.End.{EndFields}
use Rattle.hmc_link.specs.Held.{LinkHeld, sending_end}
use Rattle.hmc_ends.proofs.Steps.{Steps}
use Rattle.hmc_ends.proofs.Calls.{hand-steps}

-- ---- the same by what a link does

pub hand-from : (d toward : Toward) (now : LinkHeld) (s l s' : EndFields) (packet : PacketFields) → sending_end toward now ≡ s → s' ≡ record s { queue = s.queue ++ packet ∷ [] } →
    length (sending_end toward now).queue < (sending_end toward now).setup.output → IsTaken (sending_end toward now).setup.profile packet → IsPacket packet → Steps d (LinkCall.hand d packet) s l s' l
hand-from d toward now s l s' packet sends left room fit is =
    subst (λ (e : EndFields). Steps d (LinkCall.hand d packet) s l e l) (sym left)
    (hand-steps d s l packet (subst (λ (e : EndFields). length e.queue < e.setup.output) sends room) (subst (λ (e : EndFields). IsTaken e.setup.profile packet) sends fit) is)
