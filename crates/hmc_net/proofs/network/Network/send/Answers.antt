-- What is sent is the entry of the definition.
use Rattle.std.proofs.Common.{◌<◌, ◌∙◌, length, ap, sym, subst, arith}
use Rattle.hmc_journal.specs.Piped.{fed}
use Rattle.hmc_links.specs.LinkList.{MaySend, IsThroughAt}
use Rattle.hmc_net.specs.NetState.{net_of, NetState}
use Rattle.hmc_kept.specs.Pipes.{IsPlace, pipe_at}
use Rattle.hmc_net.proofs.LinkDoes.{send_for}
use Rattle.hmc_kept.proofs.Sending.{place_seen, feed_seen}
use Rattle.hmc_net.proofs.LinkSteps.{may_send}
use Rattle.hmc_net.proofs.network.Network.send.Goals as goal

pub feed-feed-requires-clause-there : goal.feed-feed-requires-clause-there
feed-feed-requires-clause-there g c =
    let view = ap (net_of g.B.Workbench.slots) c.self.view_is in
    subst (λ (n : NetState). c.args.direction < length n.piped.pipes) (sym view) (omega (arith, c.requires.there, c.requires.ready.sized.piped.pipes))

pub feed-feed-requires-clause-place : goal.feed-feed-requires-clause-place
feed-feed-requires-clause-place g c =
    let net = net_of g.B.Workbench.slots c.args.self.now in
    let view = ap (net_of g.B.Workbench.slots) c.self.view_is in
    let ready = c.requires.ready in
    subst (λ (n : NetState). IsPlace (pipe_at n.piped c.args.direction) c.through_at-place.result) (sym view)
    (place_seen net.topology ready.view net.piped c.args.direction c.through_at-place.result ready.sees.laws c.requires.there (ready.sees.shows.pipes c.args.direction c.requires.there)
    (subst (λ (n : NetState). IsThroughAt n.links c.args.direction c.through_at-place.result) view c.through_at-place.ensures net.topology.links ready.view.entries ready.sees.shows.links))

pub send-sent-requires-clause-may : goal.send-sent-requires-clause-may
send-sent-requires-clause-may g c =
    let net = net_of g.B.Workbench.slots c.args.self.now in
    let view = ap (net_of g.B.Workbench.slots) c.self.view_is in
    let at = subst (λ (n : NetState). IsThroughAt n.links c.args.direction c.through_at-place.result) view c.through_at-place.ensures in
    subst (λ (n : NetState). MaySend n.links c.args.direction c.feed-feed.result) (sym view)
    (may_send net c.args.direction c.feed-feed.result c.requires.ready c.requires.there
    (λ seen sees. feed_seen net.topology seen net.piped c.args.direction c.through_at-place.result c.feed-feed.result (sees.shows.pipes c.args.direction c.requires.there) (at net.topology.links seen.entries sees.shows.links) (c.feed-feed.ensures ∙ ap (λ (n : NetState). fed c.through_at-place.result (pipe_at n.piped c.args.direction)) view)))

pub returns-clause-does : goal.returns-clause-does
returns-clause-does g c =
    send_for _ (net_of g.B.Workbench.slots c.args.self.now) c.send-sent.new.self c.note_sent.new.last c.args.direction c.through_at-place.result c.feed-feed.result c.send-sent.result (ap (net_of g.B.Workbench.slots) c.self.view_is) c.requires.ready c.requires.there c.note_sent.ensures
    c.through_at-place.ensures c.feed-feed.ensures c.send-sent.ensures.answer c.send-sent.ensures.stand c.send-sent.ensures.idle
