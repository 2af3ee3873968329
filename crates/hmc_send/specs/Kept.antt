-- What a sender keeps through all of its calls.
use Rattle.std.specs.Prelude.{◌≡◌, ◌≢◌, ◌≤◌, ◌<◌, ◌+◌, ◌%◌, ◌/◌, ◌^◌, ℕ, true, false, List, [], ◌∷◌, ◌==◌, suc, length, Option, Some, None}
use Rattle.hmc_codes.specs.Bytes.{IsBytes}
use Rattle.hmc_codes.specs.Commands.{allows_of}
use Rattle.hmc_codes.specs.Profile.{modulus_of}
use Rattle.hmc_codes.specs.declared.command.Command.{Command}
use Rattle.hmc_codes.specs.declared.command.Command.TheVariants.{Null}
use Rattle.hmc_codes.specs.declared.profile.Profile.{Profile}
use Rattle.hmc_packet.specs.declared.feed.Feed.{Feed}
use Rattle.hmc_packet.specs.declared.feed.Feed.TheVariants.{Waiting, Whole, Last}
use Rattle.hmc_packet.specs.declared.head.Head.{Head}
use Rattle.hmc_packet.specs.Head.{head_in}
use Rattle.hmc_packet.specs.Packet.{PacketFields, flits_of}
use Rattle.hmc_packet.specs.Tail.{FitsField, tail_layout}
use Rattle.hmc_send.specs.Copies.{copy_of}
use Rattle.hmc_send.specs.Entries.{Part}
use Rattle.hmc_send.specs.Places.{Place}
use Rattle.hmc_send.specs.declared.numbers.Numbers.{Numbers}

-- a packet that may be sent with any return pointer on a link of a profile
pub record CanBeSent (profile : Profile) (packet : PacketFields) : Type 0 where
  pub forward : packet.frp < modulus_of profile
  pub errstat : FitsField (tail_layout profile).errstat packet.errstat
  pub other : packet.command ≢ Null

-- what may be sent with a place
abbrev pub IsPlaceFit : Profile → Place → Type 0
IsPlaceFit profile (Place.known packet) = CanBeSent profile packet
IsPlaceFit profile (Place.awaited head flits numbers) = numbers.frp < modulus_of profile

-- numbers fit their fields in the wider of the two tails
pub record AreNumbers (numbers : Numbers) : Type 0 where
  pub frp : numbers.frp < 2 ^ 11
  pub seq : numbers.seq < 8
  pub rtc : numbers.rtc < 8

-- whole flits, as many as the command allows
pub record IsPayloadOf (command : Command) (payload : List ℕ) : Type 0 where
  pub bytes : IsBytes payload
  pub whole : length payload % 16 ≡ 0
  pub allowed : allows_of command (1 + length payload / 16) ≡ true

-- a flit names a packet of so many flits that is passed on
pub record IsHead (flit : List ℕ) (flits : ℕ) : Type 0 where
  pub head : Head
  pub reads : head_in flit ≡ Some head
  pub length : head.flits ≡ flits

-- the first of these flits, if there is one, is this
abbrev pub StartsWith : List ℕ → List (List ℕ) → Type 0
StartsWith head [] = Unit {0}
StartsWith head (flit ∷ rest) = flit ≡ head

-- an open place has a head that names its length
pub record IsAwaited (part : Part) (head : List ℕ) (count : ℕ) (n : Numbers) : Type 0 where
  pub flits : part.flits ≡ count
  pub some : 2 ≤ part.flits
  pub first_time : part.again ≡ false
  pub is_head : IsHead head part.flits
  pub starts : StartsWith head part.sent
  pub numbers : AreNumbers n

abbrev pub IsPlaceOf : Part → Place → Type 0
IsPlaceOf part (Place.known packet) = part.flits ≡ flits_of packet
IsPlaceOf part (Place.awaited head flits numbers) = IsAwaited part head flits numbers

-- a packet under way has flits left
pub record IsPartFit (part : Part) (place : Place) : Type 0 where
  pub few : part.flits ≤ 17
  pub left : length part.sent < part.flits
  pub place_is : IsPlaceOf part place

-- an open place with these numbers
abbrev pub IsAwaitedPlace : Place → Numbers → Type 0
IsAwaitedPlace (Place.known packet) n = ⊥
IsAwaitedPlace (Place.awaited head flits numbers) n = numbers ≡ n

-- What is asked of what is fed to an open place. The first flit is its head; a flit before the last
-- one may have to be waited for, but for the first; the last one is there, or what it is made of
-- isn't there yet.
abbrev pub IsFedNext : (part : Part) → (head : List ℕ) → Feed → Type 0
IsFedNext part head Waiting = 1 ≤ length part.sent
IsFedNext part head (Whole flit) =
    ((suc (length part.sent) == part.flits) ≡ false) × (length part.sent ≡ 0 → flit ≡ head)
IsFedNext part head (Last half slid errstat good) =
    ((suc (length part.sent) == part.flits) ≡ true) × (slid < 8) × (errstat < 2 ^ 7)

-- a place that has its packet passes over what is fed
abbrev pub IsFedFor : Part → Place → Feed → Type 0
IsFedFor part (Place.known packet) feed = Unit {0}
IsFedFor part (Place.awaited head flits numbers) feed = IsFedNext part head feed

-- the first flit of an open place is its head
abbrev pub IsHeadFirst : Part → Place → (flit : List ℕ) → Type 0
IsHeadFirst part (Place.known packet) flit = Unit {0}
IsHeadFirst part (Place.awaited head flits numbers) flit = length part.sent ≡ 0 → flit ≡ head

-- the copy that is complete with what is fed
abbrev pub copy_by : Profile → (sent : List (List ℕ)) → Numbers → Feed → Option PacketFields
copy_by profile sent n (Last half slid errstat good) =
    Some (copy_of profile sent half slid errstat good n)
copy_by profile sent n Waiting = None
copy_by profile sent n (Whole flit) = None

abbrev pub copy_fed : Profile → Part → Place → Feed → Option PacketFields
copy_fed profile part (Place.known packet) feed = None
copy_fed profile part (Place.awaited head flits n) feed = copy_by profile part.sent n feed
