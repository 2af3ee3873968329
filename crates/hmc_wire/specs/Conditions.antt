-- What is asked of those who use a link: of the packets that are handed to it, of the flits that
-- are fed to it, and of its masks nothing.
use Rattle.std.specs.Prelude.{◌≡◌, ℕ, List, [], ◌∷◌, length}
use Rattle.hmc_codes.specs.Bytes.{IsBytes}
use Rattle.hmc_codes.specs.Flit.{IsFlit}
use Rattle.hmc_codes.specs.Link.{LinkFields}
use Rattle.hmc_codes.specs.declared.profile.Profile.{Profile}
use Rattle.hmc_packet.specs.declared.feed.Feed.{Feed}
use Rattle.hmc_packet.specs.declared.feed.Feed.TheVariants.{Waiting, Whole, Last}
use Rattle.hmc_packet.specs.Packet.{PacketFields, IsPacket}
use Rattle.hmc_packet.specs.Tail.{FitsField, tail_layout}
use Rattle.hmc_send.specs.Entries.{SenderEntry, under_way}
use Rattle.hmc_send.specs.IsSender.{IsFed}
use Rattle.hmc_send.specs.LinkEntries.{LinkEntry}
use Rattle.hmc_send.specs.LinkSenders.{sender_entries}
use Rattle.hmc_send.specs.declared.toward.Toward.TheVariants.{Forth, Back}

-- a packet that is handed: its error number fits the profile
pub record IsHanded (profile : Profile) (packet : PacketFields) : Type 0 where
  pub packet_is : IsPacket packet
  pub errstat : FitsField (tail_layout profile).errstat packet.errstat

-- each packet that is handed is such a packet
unfoldable pub AreHanded : Profile → List LinkEntry → Type 0
AreHanded profile [] = Unit {0}
AreHanded profile (LinkEntry.handed d packet ∷ past) =
    IsHanded profile packet × AreHanded profile past
AreHanded profile (_ ∷ past) = AreHanded profile past

-- a half of a flit
pub record IsHalf (half : List ℕ) : Type 0 where
  pub bytes : IsBytes half
  pub long : length half ≡ 8

-- what is fed is a flit, or has the first half of one
abbrev pub IsFeed : Feed → Type 0
IsFeed Waiting = Unit {0}
IsFeed (Whole flit) = IsFlit flit
IsFeed (Last half slid errstat good) = IsHalf half

-- What a sender was fed fits the packet that it had under way, and a cut-through was begun with a
-- flit.
unfoldable pub AreFed : Profile → List SenderEntry → Type 0
AreFed profile [] = Unit {0}
AreFed profile (SenderEntry.sent given what flit ∷ past) =
    IsFed (under_way profile past) given.feed × IsFeed given.feed × AreFed profile past
AreFed profile (SenderEntry.through head flits due ∷ past) = IsFlit head × AreFed profile past
AreFed profile (_ ∷ past) = AreFed profile past

-- what the users of a link keep to
pub record AreMet (link : LinkFields) (past : List LinkEntry) : Type 0 where
  pub handed : AreHanded link.profile past
  pub forth : AreFed link.profile (sender_entries link Forth past)
  pub back : AreFed link.profile (sender_entries link Back past)
