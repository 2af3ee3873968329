-- One link sends a flit.
use Rattle.std.proofs.Common.{◌∙◌, ◌/◌, sym, ap, subst}
use Rattle.hmc_kept.specs.Called.{sizes_by}
use Rattle.hmc_link.specs.Held.{sending_end}
use Rattle.hmc_link_end.specs.Answers.{send_answer}
use Rattle.hmc_send.specs.IsSender.{IsFed}
use Rattle.hmc_send.specs.declared.toward.Toward.{Toward}
use Rattle.hmc_journal.specs.Links.{toward}
use Rattle.hmc_send.specs.LinkCalls.{LinkCall}
use Rattle.hmc_links.proofs.LinkCalls.{goes_at, called_at, put_back, stood_at, fed_at}
use Rattle.hmc_links.proofs.link_list.LinkList.send.Goals as goal

pub returns-clause-stand : goal.returns-clause-stand
returns-clause-stand c = λ rows entries stand.
    called_at rows c.self.inside.links.items c.args.self.now c.args.direction c.from.result c.toward_of.result (λ d. LinkCall.send d c.args.feed) entries c.index_mut-link.result.now c.send.new.self c.self.view_is c.from.ensures c.index_mut-link.ensures.value c.toward_of.ensures
    stand c.requires.there c.send.ensures.going c.send.ensures.stands

pub returns-clause-idle : goal.returns-clause-idle
returns-clause-idle c = λ none.
    put_back c.self.inside.links.items c.args.self.now c.from.result c.index_mut-link.result.now c.send.new.self c.self.view_is c.index_mut-link.ensures.value (c.send.ensures.idle none)

pub send-requires-clause-going : goal.send-requires-clause-going
send-requires-clause-going c = goes_at c.self.inside.links.items c.args.self.now c.args.direction c.from.result c.index_mut-link.result.now c.self.view_is c.from.ensures c.index_mut-link.ensures.value c.requires.may.stand.going c.requires.there

pub send-requires-clause-feed : goal.send-requires-clause-feed
send-requires-clause-feed c =
    let may = c.requires.may in
    let stands = stood_at may.rows c.self.inside.links.items c.args.self.now c.args.direction c.from.result may.entries c.index_mut-link.result.now c.self.view_is c.from.ensures c.index_mut-link.ensures.value may.stand c.requires.there in
    subst (λ (d : Toward). IsFed (sending_end d c.index_mut-link.result.now).sender.under_way c.args.feed) (sym c.toward_of.ensures)
    (fed_at _ c.index_mut-link.result.now _ (toward c.args.direction) c.args.feed stands may.fed)

pub returns-clause-answer : goal.returns-clause-answer
returns-clause-answer c = λ rows entries stand.
    c.send.ensures.answer (sizes_by rows c.args.direction) (entries (c.args.direction / 2)) (stood_at rows c.self.inside.links.items c.args.self.now c.args.direction c.from.result entries c.index_mut-link.result.now c.self.view_is c.from.ensures c.index_mut-link.ensures.value stand c.requires.there)
    ∙ ap (λ (d : Toward). send_answer (sizes_by rows c.args.direction) d (entries (c.args.direction / 2)) c.args.feed) c.toward_of.ensures
