-- The packet that is lent is copied.
use Rattle.std.proofs.Common.{◌∙◌, Some, ap}
use Rattle.hmc_packet.specs.Packet.{PacketFields}
use Rattle.hmc_packet.specs.Receptions.{landed_with}
use Rattle.hmc_packet.specs.declared.landed.Landed.{Landed}
use Rattle.hmc_link_end.proofs.end.End.land.Goals as goal

pub returns-in-None-clause-answer : goal.returns-in-None-clause-answer
returns-in-None-clause-answer g c link d past mask l = c.in-None.ensures.answer link d past mask l

pub returns-in-None-clause-stands : goal.returns-in-None-clause-stands
returns-in-None-clause-stands g c link d past mask l caught = c.in-None.ensures.stands link d past mask l caught

pub returns-in-Some-clause-answer : goal.returns-in-Some-clause-answer
returns-in-Some-clause-answer g c link d past mask l =
    ap (λ (x : Landed). Some x) (c.landed_with.ensures ∙ ap (λ (p : PacketFields). landed_with c.in-Some.outcome p) c.latest.ensures.value)
    ∙ c.in-Some.ensures.answer link d past mask l

pub returns-in-Some-clause-stands : goal.returns-in-Some-clause-stands
returns-in-Some-clause-stands g c link d past mask l caught = c.in-Some.ensures.stands link d past mask l caught
