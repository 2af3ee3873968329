-- In each direction it stands for no entries.
use Rattle.std.proofs.Common.{◌∙◌, ℕ, List, refl, ap, subst}
use Rattle.circular_buffer.specs.Buffer.{Buffer}
use Rattle.hmc_codes.specs.Link.{LinkFields}
use Rattle.hmc_receive.specs.StandsFor.{ReceiverStandsFor}
use Rattle.hmc_send.specs.Sender.{opening_sender}
use Rattle.hmc_tokens.specs.Account.{opening_account}
use Rattle.hmc_ends.proofs.Opening.{stands-new}
use Rattle.hmc_link_end.proofs.end.End.new.Goals as goal

pub returns : goal.returns
returns g c d =
    stands-new c.args.setup _ d (record {
      setup = refl;
      queue = c.in_ok-queue.ensures.empty;
      held = c.in_ok-sender.ensures.held ∙ ap (λ (s : LinkFields). opening_sender s.retry s.profile) c.setup.view_is;
      sender = c.in_ok-sender.ensures.stands;
      line = ap (λ (b : Buffer (List ℕ)). b.items) c.in_ok-line.ensures;
      transit = refl;
      receiver = subst (λ (s : LinkFields). ReceiverStandsFor s.profile c.new-3.result _) c.setup-2.view_is c.new-3.ensures;
      changed = refl;
      buffer = c.requires.empty;
      account = c.new-4.ensures ∙ ap (λ (s : LinkFields). opening_account s.tokens) c.setup-2.view_is;
    })
