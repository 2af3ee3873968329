use Rattle.std.proofs.Common.{◌∙◌, sym, subst}
use Rattle.hmc_packet.specs.Packet.{PacketFields}
use Rattle.hmc_packet.specs.Spelling.{FitsProfile}
use Rattle.hmc_callers.proofs.RequestLemmas.{request-fits, request_read, never_refused}
use Rattle.hmc_callers.proofs.packet.round_trip.Goals as goal

pub spell-flits-requires : goal.spell-flits-requires
spell-flits-requires c = subst (λ (p : PacketFields). FitsProfile c.args.profile p 0) (sym c.ask-packet.ensures) (request-fits c.args.profile c.args.request.now c.args.tag)

pub returns-in-Ok : goal.returns-in-Ok
returns-in-Ok c =
    c.request_of.ensures.exact
    ∙ request_read c.args.profile c.args.request.now c.args.tag c.ask-packet.result c.as_slice.result.now c.in-Ok.seen c.invariant.ensures c.requires c.ask-packet.ensures (c.as_slice.ensures.value ∙ c.spell-flits.ensures) c.in-Ok.ensures.exact

pub returns-in-Err : goal.returns-in-Err
returns-in-Err c =
    absurd (never_refused c.args.profile c.args.request.now c.args.tag c.ask-packet.result c.as_slice.result.now c.in-Err.field-0 c.invariant.ensures c.requires c.ask-packet.ensures (c.as_slice.ensures.value ∙ c.spell-flits.ensures) c.in-Err.ensures.exact)
