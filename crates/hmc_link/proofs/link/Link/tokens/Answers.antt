use Rattle.std.proofs.Common.{◌≡◌, ◌∙◌, sym, ap, subst}
use Rattle.hmc_send.specs.LinkSenders.{tokens}
use Rattle.hmc_send.specs.declared.toward.Toward.{Toward}
use Rattle.hmc_send.specs.declared.toward.Toward.TheVariants.{Forth, Back}
use Rattle.hmc_link.specs.Held.{LinkHeld}
use Rattle.hmc_link.specs.StandsFor.{LinkStandsFor}
use Rattle.hmc_codes.specs.Link.{LinkFields}
use Rattle.hmc_ends.specs.End.{EndFields}
use Rattle.hmc_link_laws.specs.Tokens.{TokensBalance}
use Rattle.hmc_link_laws.proofs.Balance.{balance}
use Rattle.hmc_link.proofs.Joins.{forth-both, back-both, sends-forth, sends-back}
use Rattle.hmc_ends.proofs.TokenRows.{row-is, sum-is}
use Rattle.hmc_link.proofs.link.Link.tokens.Goals as goal

pub returns-in-Forth-clause-by_list : goal.returns-in-Forth-clause-by_list
returns-in-Forth-clause-by_list g c link past s =
    let old = subst (λ (h : LinkHeld). LinkStandsFor link h past) (sym c.self.view_is) s in
    subst (λ (d : Toward). c.token_row.result ≡ tokens link d past) (sym c.in-Forth.is) (c.token_row.ensures ∙ row-is link Forth past _ _ (forth-both link _ past old))

pub returns-in-Forth-clause-sum : goal.returns-in-Forth-clause-sum
returns-in-Forth-clause-sum g c link past s =
    let old = subst (λ (h : LinkHeld). LinkStandsFor link h past) (sym c.self.view_is) s in
    sum-is link Forth past c.token_row.result old.kept (c.token_row.ensures ∙ row-is link Forth past _ _ (forth-both link _ past old))

pub returns-in-Back-clause-by_list : goal.returns-in-Back-clause-by_list
returns-in-Back-clause-by_list g c link past s =
    let old = subst (λ (h : LinkHeld). LinkStandsFor link h past) (sym c.self.view_is) s in
    subst (λ (d : Toward). c.token_row-in-Back.result ≡ tokens link d past) (sym c.in-Back.is) (c.token_row-in-Back.ensures ∙ row-is link Back past _ _ (back-both link _ past old))

pub returns-in-Back-clause-sum : goal.returns-in-Back-clause-sum
returns-in-Back-clause-sum g c link past s =
    let old = subst (λ (h : LinkHeld). LinkStandsFor link h past) (sym c.self.view_is) s in
    sum-is link Back past c.token_row-in-Back.result old.kept (c.token_row-in-Back.ensures ∙ row-is link Back past _ _ (back-both link _ past old))

pub returns-in-Forth-clause-balance : goal.returns-in-Forth-clause-balance
returns-in-Forth-clause-balance g c link past s =
    subst (TokensBalance link c.args.toward past) (sym (returns-in-Forth-clause-by_list g c link past s)) (balance link c.args.toward past s.kept)

pub returns-in-Forth-clause-going : goal.returns-in-Forth-clause-going
returns-in-Forth-clause-going g c goes =
    let some = c.self.invariant (ap (λ (h : LinkHeld). h.going) c.self.view_is ∙ goes) in
    sum-is some.link Forth some.past c.token_row.result some.stands.kept (c.token_row.ensures ∙ row-is some.link Forth some.past _ _ (forth-both some.link _ some.past some.stands))
    ∙ ap (λ (x : LinkFields). x.tokens) (sym some.stands.a.setup)
    ∙ ap (λ (e : EndFields). e.setup.tokens) (sym (sends-forth c.args.toward _ c.args.self.now c.in-Forth.is c.self.view_is))

pub returns-in-Back-clause-balance : goal.returns-in-Back-clause-balance
returns-in-Back-clause-balance g c link past s =
    subst (TokensBalance link c.args.toward past) (sym (returns-in-Back-clause-by_list g c link past s)) (balance link c.args.toward past s.kept)

pub returns-in-Back-clause-going : goal.returns-in-Back-clause-going
returns-in-Back-clause-going g c goes =
    let some = c.self.invariant (ap (λ (h : LinkHeld). h.going) c.self.view_is ∙ goes) in
    sum-is some.link Back some.past c.token_row-in-Back.result some.stands.kept (c.token_row-in-Back.ensures ∙ row-is some.link Back some.past _ _ (back-both some.link _ some.past some.stands))
    ∙ ap (λ (x : LinkFields). x.tokens) (sym some.stands.b.setup)
    ∙ ap (λ (e : EndFields). e.setup.tokens) (sym (sends-back c.args.toward _ c.args.self.now c.in-Back.is c.self.view_is))
