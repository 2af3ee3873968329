-- A new end.
use Rattle.std.proofs.Common.{◌≡◌, false, [], ap, arith}
use Rattle.hmc_codes.specs.Link.{LinkFields}
use Rattle.hmc_packet.specs.Landings.{accepted}
use Rattle.hmc_receive.specs.StandsFor.{ReceiverStandsFor}
use Rattle.hmc_send.specs.Entries.{places, taken_fronts}
use Rattle.hmc_send.specs.LinkEntries.{receiver_entries, handed_packets, takes}
use Rattle.hmc_send.specs.LinkLines.{sent_flits, landings, is_pending_changed}
use Rattle.hmc_send.specs.LinkSenders.{sender_entries}
use Rattle.hmc_send.specs.Sender.{opening_sender}
use Rattle.hmc_send.specs.StandsFor.{StandsFor}
use Rattle.hmc_send.specs.declared.state.State.{State}
use Rattle.hmc_send.specs.declared.toward.Toward.{Toward}
use Rattle.hmc_tokens.specs.Account.{opening_account}
use Rattle.hmc_tokens.specs.declared.account.Account.{Account}
use Rattle.hmc_ends.specs.End.{EndFields}
use Rattle.hmc_ends.specs.Parts.{parts_of}
use Rattle.hmc_ends.specs.StandsFor.{EndStandsFor}

-- what a new end holds
pub record IsNew (link : LinkFields) (e : EndFields) : Type 0 where
  pub setup : e.setup ≡ link
  pub queue : e.queue ≡ []
  pub held : e.sender ≡ opening_sender link.retry link.profile
  pub sender : StandsFor e.sender []
  pub line : e.line ≡ []
  pub transit : e.transit ≡ 0
  pub receiver : ReceiverStandsFor link.profile e.receiver []
  pub changed : e.changed ≡ false
  pub buffer : e.buffer ≡ []
  pub account : e.account ≡ opening_account link.tokens

pub stands-new : (link : LinkFields) (e : EndFields) (d : Toward) → IsNew link e → EndStandsFor link e (parts_of link d [])
unfolding receiver_entries handed_packets takes sent_flits landings is_pending_changed sender_entries places accepted taken_fronts
stands-new link e d is = record {
  setup = is.setup;
  own = ap (λ (s : State). s.profile) is.held;
  profile = ap (λ (s : State). s.retry.profile) is.held;
  retry = ap (λ (s : State). s.retry.flits) is.held;
  sender = is.sender;
  queue = is.queue;
  line = is.line;
  transit = is.transit;
  receiver = is.receiver;
  changed = is.changed;
  buffer = is.buffer;
  held = ap (λ (a : Account). a.held) is.account;
  due = (let k = ap (λ (a : Account). a.due) is.account in omega arith);
  begun = omega arith;
  crossed = omega arith;
  taken = omega arith;
}
