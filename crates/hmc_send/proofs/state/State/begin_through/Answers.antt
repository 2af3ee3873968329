use Rattle.std.proofs.Common.{◌≡◌, ◌∙◌, ◌<◌, ◌-◌, false, ℕ, [], ◌∷◌, Some, ap, sym, subst}
use Rattle.hmc_tokens.specs.Account.{code_for, tokens_of_code}
use Rattle.hmc_tokens.specs.declared.account.Account.{Account}
use Rattle.hmc_send.specs.declared.state.State.{State}
use Rattle.hmc_send.specs.Entries.{SenderEntry}
use Rattle.hmc_send.specs.IsSender.{IsSender}
use Rattle.hmc_send.specs.Places.{Place, numbers_after}
use Rattle.hmc_send.specs.Sender.{through_numbers, after_through}
use Rattle.hmc_send.specs.StandsFor.{StandsFor}
use Rattle.hmc_send.proofs.CallLemmas.{free-ends, head-few, keep-through}
use Rattle.hmc_send.proofs.KeptLemmas.{code-few}
use Rattle.hmc_send.proofs.Parts.{stands-through}
use Rattle.hmc_send.proofs.state.State.begin_through.Goals as goal

pub next_numbers-numbers-requires-clause-rtc : goal.next_numbers-numbers-requires-clause-rtc
next_numbers-numbers-requires-clause-rtc c =
    subst (λ (n : ℕ). n < 8) (sym c.pay-rtc.ensures.code) (code-few c.spend.new.self.due)

pub begin_through-requires-clause-few : goal.begin_through-requires-clause-few
begin_through-requires-clause-few c = head-few c.args.head c.args.flits c.requires.head

-- what it leaves
left : (c : goal.After-begin_through) →
    after_through c.args.head c.args.flits c.args.account.now.due c.args.self.now
    ≡ record c.args.self.now {
      pointer = c.next_numbers-numbers.result.frp;
      number = c.next_numbers-numbers.result.seq;
      under_way = c.begin_through.new.self;
    }
left c =
    let held = c.args.self.now in
    let due : code_for c.args.account.now.due ≡ c.pay-rtc.result =
    sym (c.pay-rtc.ensures.code ∙ ap (λ (a : Account). code_for a.due) c.spend.ensures) in
    let numbers : through_numbers held c.args.flits c.args.account.now.due
    ≡ c.next_numbers-numbers.result =
    ap (numbers_after held.retry.profile held.pointer held.number c.args.flits) due
    ∙ (λ i. numbers_after (sym c.requires.sender.profile i) held.pointer held.number
    c.args.flits c.pay-rtc.result) ∙ sym c.next_numbers-numbers.ensures.value in
    let begun : Some (record {
      part = record { again = false; flits = c.args.flits; sent = [] };
      place = Place.awaited c.args.head c.args.flits
          (through_numbers held c.args.flits c.args.account.now.due);
    }) ≡ c.begin_through.new.self =
    (λ i. Some (record {
      part = record { again = false; flits = c.args.flits; sent = [] };
      place = Place.awaited c.args.head c.args.flits (numbers i);
    }))
    ∙ sym c.begin_through.ensures in
    λ i. record held { pointer = (numbers i).frp; number = (numbers i).seq; under_way = begun i }

pub returns-clause-keeps : goal.returns-clause-keeps
returns-clause-keeps c =
    let held = c.args.self.now in
    subst IsSender (left c) (keep-through held c.args.head c.args.flits c.args.account.now.due
    c.requires.sender (free-ends held c.requires.sender c.requires.free) c.requires.room)

pub returns-clause-stands : goal.returns-clause-stands
returns-clause-stands c = λ past stands.
    let held = c.args.self.now in
    subst (λ (t : State). StandsFor t
    (SenderEntry.through c.args.head c.args.flits c.args.account.now.due ∷ past)) (left c)
    (stands-through held past c.args.head c.args.flits c.args.account.now.due stands
    (free-ends held c.requires.sender c.requires.free))

pub returns-clause-account : goal.returns-clause-account
returns-clause-account c =
    let spent = c.spend.new.self in
    c.pay-rtc.ensures.left
    ∙ ap (λ (code : ℕ). record spent { due = spent.due - tokens_of_code code })
    c.pay-rtc.ensures.code
    ∙ ap (λ (a : Account). record a { due = a.due - tokens_of_code (code_for a.due) })
    c.spend.ensures
