-- What the network shows is what its journal leaves.
use Rattle.std.proofs.Common.{◌≡◌, ◌∙◌, ◌++◌, List, ℕ, OnErr, OnOk, string_bytes, ap, sym, subst}
use Rattle.std.specs.List.{concat}
use Rattle.hmc_report.specs.Final.{AppendsSome}
use Rattle.hmc_journal.specs.Final.{values_of, final_lines_of}
use Rattle.hmc_net.specs.Finished.{net_values}
use Rattle.hmc_net.specs.NetState.{NetState, net_of}
use Rattle.hmc_net.specs.Stands.{StandsFor}
use Rattle.hmc_session.proofs.Shown.{same_lines}
use Rattle.hmc_session.proofs.session.Session.final_lines.Goals as goal

pub returns-clause-text : goal.returns-clause-text
unfolding final_lines_of
returns-clause-text g c = λ setup past is goes_on.
    let slots = g.B.Workbench.slots in
    let net : net_of slots c.network-network.result.now ≡ net_of slots c.args.self.now.network = ap (net_of slots) c.network-network.ensures in
    let stands : StandsFor (net_of slots c.network-network.result.now) setup past = subst (λ (n : NetState). StandsFor n setup past) (sym net) is.stands in
    let on = sym is.passed ∙ goes_on in
    let lines = same_lines c.args.from (net_values (net_of slots c.network-network.result.now)) (values_of setup past) (c.shows_journal.ensures.whole setup past stands on) (c.shows_journal.ensures.ending setup past stands on) in
    subst (λ (l : List (List ℕ)). OnOk c.finish.result (string_bytes c.finish.new.into ≡ string_bytes c.args.into.now ++ concat l)) lines c.finish.ensures.text

pub returns-clause-some : goal.returns-clause-some
unfolding final_lines_of
returns-clause-some g c = λ setup past is goes_on.
    let slots = g.B.Workbench.slots in
    let net : net_of slots c.network-network.result.now ≡ net_of slots c.args.self.now.network = ap (net_of slots) c.network-network.ensures in
    let stands : StandsFor (net_of slots c.network-network.result.now) setup past = subst (λ (n : NetState). StandsFor n setup past) (sym net) is.stands in
    let on = sym is.passed ∙ goes_on in
    let lines = same_lines c.args.from (net_values (net_of slots c.network-network.result.now)) (values_of setup past) (c.shows_journal.ensures.whole setup past stands on) (c.shows_journal.ensures.ending setup past stands on) in
    subst (λ (l : List (List ℕ)). OnErr c.finish.result (AppendsSome (string_bytes c.args.into.now) (string_bytes c.finish.new.into) l)) lines c.finish.ensures.some
