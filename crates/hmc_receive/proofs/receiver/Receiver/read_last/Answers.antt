-- A packet was read.
use Rattle.std.proofs.Common.{◌≡◌, ◌∙◌, List, ℕ, [], ◌∷◌, ◌++◌, Ok, ap, sym, subst}
use Rattle.hmc_codes.specs.Commands.{layout_of}
use Rattle.hmc_packet.specs.declared.seen.Seen.{Seen}
use Rattle.hmc_packet.specs.Reading.{IsSpelled, read_of}
use Rattle.hmc_receive.specs.Receiver.{ReceiverFields}
use Rattle.hmc_receive.proofs.FollowLemmas.{last-given}
use Rattle.hmc_receive.proofs.receiver.Receiver.read_last.Goals as goal

pub returns-in-Ok-clause-follows : goal.returns-in-Ok-clause-follows
returns-in-Ok-clause-follows c =
    let view = c.self.view_is in
    let flit = c.args.flit.now in
    let seen = c.in-Ok.seen in
    let flits : c.as_slice.result.now ≡ c.self.inside.gathered.items ++ flit ∷ [] = c.as_slice.ensures.value ∙ c.push.ensures.items in
    let read = subst (λ (r : ReceiverFields). read_of r.profile (r.gathered ++ flit ∷ []) ≡ Ok seen) view (ap (read_of c.self.inside.profile) (sym flits) ∙ sym c.in-Ok.ensures.exact) in
    let spelled = subst (λ (r : ReceiverFields). IsSpelled r.profile (r.gathered ++ flit ∷ []) seen) view (subst (λ (f : List (List ℕ)). IsSpelled c.self.inside.profile f seen) flits c.in-Ok.ensures.found) in
    last-given c.args.self.now _ c.take_packet.new.self flit seen c.layout.result c.take_packet.result c.requires.good read spelled (λ i. record (view i) { gathered = c.clear.ensures i }) (c.layout.ensures ∙ ap (λ (x : Seen). layout_of x.packet.command) c.seen.view_is) c.take_packet.ensures.left c.take_packet.ensures.value
