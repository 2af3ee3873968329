-- What a send is given, and what it leaves of it.
use Rattle.std.specs.Prelude.{◌≡◌, ◌<◌, ◌^◌, ℕ, ◌-◌, false, List, slice_get, Option, Some, None, IfSome}
use Rattle.hmc_codes.specs.Commands.{is_flow, layout_of}
use Rattle.hmc_codes.specs.declared.profile.Profile.{Profile}
use Rattle.hmc_codes.specs.declared.profile.Profile.TheVariants.{Two}
use Rattle.hmc_packet.specs.declared.feed.Feed.{Feed}
use Rattle.hmc_packet.specs.declared.feed.Feed.TheVariants.{Waiting}
use Rattle.hmc_packet.specs.declared.view.Mode.TheVariants as mode
use Rattle.hmc_packet.specs.declared.view.View.{View}
use Rattle.hmc_packet.specs.declared.what.What.TheVariants as what
use Rattle.hmc_packet.specs.Packet.{PacketFields, flits_of}
use Rattle.hmc_packet.specs.Parts.{lng_of}
use Rattle.hmc_tokens.specs.Account.{tokens_of_code, code_for}
use Rattle.hmc_tokens.specs.declared.account.Account.{Account}
use Rattle.hmc_send.specs.declared.sent.Sent.{Sent}
use Rattle.hmc_send.specs.declared.sent.Sent.TheVariants.{Out}
use Rattle.hmc_send.specs.Entries.{Given, UnderWay, or_null}

-- what a send is given by a queue with these packets and an account
abbrev pub given_of : View → List PacketFields → Account → Feed → Given
given_of own packets account feed = record {
  own = own;
  front = slice_get packets 0;
  held = account.held;
  due = account.due;
  feed = feed;
}

-- what a sender is given that is asked and doesn't send: an empty queue, no tokens, nothing fed
abbrev pub given_only : View → Given
given_only own = record { own = own; front = None; held = 0; due = 0; feed = Waiting }

-- a receiver that is Good
abbrev pub good_view : View
good_view = record { mode = mode.Good; rrp = 0 }

-- a front is a request or a response; in profile Two its error number has three bits
pub record IsTaken (profile : Profile) (packet : PacketFields) : Type 0 where
  pub token : is_flow (layout_of packet.command) ≡ false
  pub errstat : profile ≡ Two → packet.errstat < 8

abbrev pub IsFrontFit : Profile → Option PacketFields → Type 0
IsFrontFit profile None = Unit {0}
IsFrontFit profile (Some packet) = IsTaken profile packet

-- how many fronts are taken by a send of none of the cases before new packets
abbrev pub begun_fronts : Sent → ℕ
begun_fronts (Out flit what.New) = 1
begun_fronts _ = 0

-- the tokens that are due, less those that are returned
abbrev pub paid : Account → Account
paid account = record account { due = account.due - tokens_of_code (code_for account.due) }

-- a token is spent for each flit of a front; due tokens are returned by a new packet or a TRET
abbrev pub account_first : Option PacketFields → Sent → Account → Account
account_first front (Out flit what.New) account =
    record (paid account) { held = account.held - flits_of (or_null front) }
account_first front (Out flit what.Tret) account = paid account
account_first front _ account = account

-- a token is spent for each flit of a cut-through, which returns due tokens
abbrev pub account_through : (flits : ℕ) → Account → Account
account_through flits account = record (paid account) { held = account.held - flits }

-- how many fronts a send takes: a `New` flit takes one where nothing is under way
abbrev pub fronts_taken : Option UnderWay → Sent → ℕ
fronts_taken None sent = begun_fronts sent
fronts_taken (Some begun) sent = 0

-- a front that is begun has the error number of a packet, which is below 128
abbrev pub IsBegunFit : Sent → Option PacketFields → Type 0
IsBegunFit (Out flit what.New) front = IfSome front (λ packet. packet.errstat < 2 ^ 7)
IsBegunFit _ front = Unit {0}

-- the same of a send: it begins a front only where nothing is under way
abbrev pub IsTakenFit : Option UnderWay → Sent → Option PacketFields → Type 0
IsTakenFit None sent front = IsBegunFit sent front
IsTakenFit (Some begun) sent front = Unit {0}

-- what a send leaves of the account
abbrev pub account_after : Option UnderWay → Option PacketFields → Sent → Account → Account
account_after None front sent account = account_first front sent account
account_after (Some begun) front sent account = account

-- a TRET is one flit
abbrev pub IsOneFlit : Sent → Type 0
IsOneFlit (Out flit what.Tret) = lng_of flit ≡ 1
IsOneFlit _ = Unit {0}
