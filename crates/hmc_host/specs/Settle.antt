-- What a host does with a packet that came, and what that leaves.
use Rattle.std.specs.Prelude.{◌≡◌, ℕ, false, if◌then◌else◌, slice_set, Option, Some, None}
use Rattle.hmc_codes.specs.Commands.{family_of}
use Rattle.hmc_codes.specs.declared.answer.Answer.{Answer}
use Rattle.hmc_codes.specs.declared.family.Family.TheVariants as families
use Rattle.hmc_packet.specs.Packet.{PacketFields}
use Rattle.hmc_packet.specs.Transactions.{answer_in}
use Rattle.hmc_host.specs.declared.settled.Settled.{Settled}
use Rattle.hmc_host.specs.declared.settled.Settled.TheVariants.{Discarded, Took}
use Rattle.hmc_host.specs.Tags.{IsOut}
use Rattle.hmc_host.specs.Host.{HostFields}

-- the packet is a reply, and the tag that it answers is out
pub record IsAwaited (host : HostFields) (packet : PacketFields) : Type 0 where
  pub replies : family_of packet.command ≡ families.Reply
  pub out : IsOut host.tags packet.tag

-- an answer is taken under its tag; each reply has one
abbrev pub took_answer : (tag : ℕ) → Option Answer → Settled
took_answer tag (Some answer) = Took tag answer
took_answer tag None = Discarded

-- what the host answers: a poisoned packet is dropped, and of each other one the answer is taken
abbrev pub settle_says : PacketFields → Settled
settle_says packet =
    (if packet.poisoned then Discarded else took_answer packet.tag (answer_in packet))

-- what it leaves: the tag of an answer that was taken is no longer out
abbrev pub after_settle : Settled → HostFields → HostFields
after_settle (Took tag answer) host = record host { tags = slice_set host.tags tag false }
after_settle Discarded host = host
