-- An IRTRY was read alone.
use Rattle.std.proofs.Common.{rules, ◌≡◌, ◌∙◌, [], Some}
use Rattle.hmc_packet.specs.Irtry.{irtry_in}
use Rattle.hmc_receive.proofs.FollowLemmas.{last-reception}
use Rattle.hmc_receive.proofs.receiver.Receiver.land_last.Goals as goal

pub returns-in-Some-clause-value : goal.returns-in-Some-clause-value
returns-in-Some-clause-value c =
    let empty : c.args.self.now.gathered ≡ [] = search rules in
    let irtry : irtry_in c.args.self.now.profile c.args.flit.now ≡ Some (c.in-Some.kind, c.in-Some.rrp) = search rules in
    c.see_irtry.ensures.value ∙ last-reception c.args.self.now c.args.flit.now c.in-Some.kind c.in-Some.rrp empty irtry
