-- What the sender answers is what the definition says of the entries.
use Rattle.std.proofs.Common.{◌∙◌, ap, sym, subst, ◌≤◌, ◌<◌, ℕ, length}
use Rattle.std.specs.Prelude.{All, false, slice_get}
use Rattle.hmc_codes.specs.Link.{LinkFields}
use Rattle.hmc_codes.specs.declared.profile.Profile.{Profile}
use Rattle.hmc_send.specs.Given.{IsTaken, IsFrontFit}
use Rattle.hmc_send.specs.IsSender.{IsFed}
use Rattle.hmc_tokens.specs.Queue.{packets_of}
use Rattle.hmc_ends.specs.End.{EndFields}
use Rattle.hmc_ends.specs.Parts.{parts_of}
use Rattle.hmc_ends.specs.StandsFor.{EndStandsFor, CanSend}
use Rattle.hmc_send.specs.declared.sent.Sent.{Sent}
use Rattle.hmc_ends.specs.Answers.{link_sent}
use Rattle.hmc_ends.proofs.SendNext.{all-drop, line-more, transit-fits, few-of, choice-is, send-next}
use Rattle.hmc_ends.proofs.SendStands.{front-fit}
use Rattle.hmc_link_end.proofs.Ends.{as_before}
use Rattle.hmc_link_end.proofs.end.End.send_next.Goals as goal

pub send-requires-clause-front : goal.send-requires-clause-front
send-requires-clause-front g c =
    let can = c.requires.can in
    let s = subst (λ (e : EndFields). EndStandsFor can.link e (parts_of can.link can.d can.past)) (sym c.self.view_is) can.stands in
    subst (λ (q : Profile). IsFrontFit q (slice_get (packets_of c.self.inside.queue) 0)) (ap (λ (l : LinkFields). l.profile) s.setup ∙ sym s.own) (front-fit _ (packets_of c.self.inside.queue) c.self.invariant.fronts)

pub overflow_add-self : goal.overflow_add-self
overflow_add-self g c =
    let few = few-of _ c.args.feed (subst (λ (e : EndFields). CanSend e c.args.feed) (sym c.self.view_is) c.requires.can) in
    transit-fits _ _ _ few.transit few.held

pub invariant_of-self-in-Out : goal.invariant_of-self-in-Out
invariant_of-self-in-Out g c =
    let is = c.self.invariant in
    let room = subst (λ (e : EndFields). length e.line < e.setup.line) (sym c.self.view_is) c.requires.room in
    record {
      output = c.send.ensures.size ∙ is.output;
      fronts = subst (All (IsTaken c.self.inside.setup.profile)) (sym c.send.ensures.queue) (all-drop (IsTaken c.self.inside.setup.profile) _ (packets_of c.self.inside.queue) is.fronts);
      reserved = subst (λ (n : ℕ). c.self.inside.setup.line ≤ n) (sym c.append.ensures.capacity) is.reserved;
      line = line-more _ _ _ _ c.append.ensures.items room;
      buffer = is.buffer;
      cost = is.cost;
      count = is.count;
    }

pub returns-in-Out-clause-stands : goal.returns-in-Out-clause-stands
returns-in-Out-clause-stands g c link d past kept s0 =
    let s = subst (λ (e : EndFields). EndStandsFor link e (parts_of link d past)) (sym c.self.view_is) s0 in
    let fed = subst (λ (e : EndFields). IsFed e.sender.under_way c.args.feed) (sym c.self.view_is) c.requires.can.fed in
    let p = parts_of link d past in
    let front = subst (λ (l : LinkFields). IsFrontFit l.profile (slice_get (packets_of c.self.inside.queue) 0)) s.setup (front-fit _ (packets_of c.self.inside.queue) c.self.invariant.fronts) in
    send-next link d past _ c.view-own.result c.args.feed c.send.new.self _ c.send.new.account _ c.in-Out.flit c.in-Out.what kept s (c.view-own.ensures link.profile p.received s.receiver) fed c.requires.feed front
    (c.in-Out.ensures.answer p.sender s.sender) (c.in-Out.ensures.stands p.sender s.sender) c.in-Out.ensures.left c.in-Out.ensures.queue c.in-Out.ensures.account c.append.ensures.items

pub returns-in-Out-clause-answer : goal.returns-in-Out-clause-answer
returns-in-Out-clause-answer g c link p s0 =
    let s = subst (λ (e : EndFields). EndStandsFor link e p) (sym c.self.view_is) s0 in
    ap (λ (x : Sent). link_sent false x) (c.in-Out.ensures.answer p.sender s.sender ∙ choice-is link _ p c.view-own.result c.args.feed s (c.view-own.ensures link.profile p.received s.receiver))

pub returns-in-Starved-clause-answer : goal.returns-in-Starved-clause-answer
returns-in-Starved-clause-answer g c link p s0 =
    let s = subst (λ (e : EndFields). EndStandsFor link e p) (sym c.self.view_is) s0 in
    ap (λ (x : Sent). link_sent false x) (c.in-Starved.ensures.answer p.sender s.sender ∙ choice-is link _ p c.view-own.result c.args.feed s (c.view-own.ensures link.profile p.received s.receiver))

pub returns-in-Starved-clause-stands : goal.returns-in-Starved-clause-stands
returns-in-Starved-clause-stands g c link d past kept s =
    subst (λ (e : EndFields). EndStandsFor link e (parts_of link d past))
    (sym (as_before _ _ c.self.inside.sender.under_way _ _ _ c.self.view_is c.in-Starved.ensures.left c.in-Starved.ensures.queue c.in-Starved.ensures.account)) s

pub returns-in-Starved-clause-idle : goal.returns-in-Starved-clause-idle
returns-in-Starved-clause-idle g c none = as_before _ _ c.self.inside.sender.under_way _ _ _ c.self.view_is c.in-Starved.ensures.left c.in-Starved.ensures.queue c.in-Starved.ensures.account
