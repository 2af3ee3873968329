-- A sender that forwards a packet, and the pipe that feeds it: their calls, in the order in which
-- they are made. A list of calls has the newest first.
use Rattle.std.specs.Prelude.{◌≡◌, ◌<◌, ℕ, true, List, [], ◌∷◌, ◌++◌, length, take, slice_index_or, Some, None}
use Rattle.hmc_codes.specs.Flit.{IsFlit}
use Rattle.hmc_codes.specs.declared.profile.Profile.{Profile}
use Rattle.hmc_packet.specs.declared.landed.Landed.{Landed}
use Rattle.hmc_packet.specs.declared.what.What.{What}
use Rattle.hmc_packet.specs.Head.{head_in}
use Rattle.hmc_packet.specs.Packet.{null_packet}
use Rattle.hmc_tokens.specs.Account.{code_for}
use Rattle.hmc_send.specs.declared.numbers.Numbers.{Numbers}
use Rattle.hmc_send.specs.declared.sent.Sent.TheVariants.{Out}
use Rattle.hmc_send.specs.Choice.{view_after, choice}
use Rattle.hmc_send.specs.Entries.{SenderEntry, Given, Part, unfinished, places, through_at}
use Rattle.hmc_send.specs.LinkCalls.{names_flits}
use Rattle.hmc_send.specs.Places.{Place, pointer_of, number_of, numbers_after}
use Rattle.hmc_through.specs.Pipe.{PipeFields, is_accepted, is_whole, front_flits, feed_at}
use Rattle.hmc_copies.specs.Copies.{IsCopy}

-- A cut-through that is begun: on a link of a profile, with so much retry room, after these entries
-- of its sender, while so many tokens were due. The packet comes on a link of the profile
-- `inbound`; it has this first flit, and so many flits.
pub record Forwarding : Type 0 where
  pub profile : Profile
  pub retry : ℕ
  pub past : List SenderEntry
  pub due : ℕ
  pub inbound : Profile
  pub head : List ℕ
  pub flits : ℕ

-- no packet is unfinished, and the first flit is that of a request or a response of so many flits
pub record CanBeForwarded (f : Forwarding) : Type 0 where
  pub nothing : unfinished f.past ≡ None
  pub is_flit : IsFlit f.head
  pub named : names_flits f.flits (head_in f.head) ≡ true

-- A call. Of the sender: it sends a flit, counts a run of Starts of the other end, or so many
-- packets are acknowledged in all. Of the pipe: a flit of the packet comes, or its gathering ends.
pub data Call : Type 0 where
  sends : Given → What → (flit : List ℕ) → Call
  counts_run : Call
  acknowledges : (packets : ℕ) → Call
  comes : (flit : List ℕ) → Call
  ends : Landed → Call

-- the pipe after these calls
unfoldable pub pipe_after : Forwarding → List Call → PipeFields
pipe_after f [] =
    record { flits = f.flits; profile = f.inbound; came = f.head ∷ []; good = None }
pipe_after f (Call.comes flit ∷ calls) =
    record (pipe_after f calls) { came = (pipe_after f calls).came ++ flit ∷ [] }
pipe_after f (Call.ends outcome ∷ calls) =
    record (pipe_after f calls) { good = Some (is_accepted outcome) }
pipe_after f (_ ∷ calls) = pipe_after f calls

-- the entries of the sender after these calls
unfoldable pub sender_after : Forwarding → List Call → List SenderEntry
sender_after f [] = SenderEntry.through f.head f.flits f.due ∷ f.past
sender_after f (Call.sends given as_what flit ∷ calls) =
    SenderEntry.sent given as_what flit ∷ sender_after f calls
sender_after f (Call.counts_run ∷ calls) = SenderEntry.ran ∷ sender_after f calls
sender_after f (Call.acknowledges packets ∷ calls) =
    SenderEntry.acknowledged packets ∷ sender_after f calls
sender_after f (_ ∷ calls) = sender_after f calls

-- A send of this flit: it is what the sender chooses; and while the copy is under way, the sender
-- is fed what the pipe gives at the place of the copy's next flit.
pub record IsFedSend (f : Forwarding) (past : List SenderEntry) (pipe : PipeFields) (given : Given)
    (as_what : What) (flit : List ℕ) : Type 0 where
  pub chosen : choice f.profile (view_after f.profile f.retry past given) ≡ Out flit as_what
  pub fed : (at : ℕ) → through_at f.profile past ≡ Some at → given.feed ≡ feed_at pipe at

-- another flit comes: the packet is being gathered, and has flits left
pub record CanCome (pipe : PipeFields) (flit : List ℕ) : Type 0 where
  pub is_flit : IsFlit flit
  pub gathers : pipe.good ≡ None
  pub left : length pipe.came < pipe.flits

-- the gathering ends: of a whole packet all flits came
pub record CanEnd (pipe : PipeFields) (outcome : Landed) : Type 0 where
  pub gathers : pipe.good ≡ None
  pub whole : is_whole outcome ≡ true → length pipe.came ≡ pipe.flits

-- a call may be made after these entries of the sender, with this pipe
abbrev pub CanCall : Forwarding → List SenderEntry → PipeFields → Call → Type 0
CanCall f past pipe (Call.sends given as_what flit) = IsFedSend f past pipe given as_what flit
CanCall f past pipe Call.counts_run = Unit {0}
CanCall f past pipe (Call.acknowledges packets) = Unit {0}
CanCall f past pipe (Call.comes flit) = CanCome pipe flit
CanCall f past pipe (Call.ends outcome) = CanEnd pipe outcome

-- each call may be made after those before it
unfoldable pub AreCalls : Forwarding → List Call → Type 0
AreCalls f [] = Unit {0}
AreCalls f (call ∷ calls) =
    CanCall f (sender_after f calls) (pipe_after f calls) call × AreCalls f calls

-- the numbers of the copy: those of the next packet of its direction, which returns as many due
-- tokens as one can
abbrev pub copy_numbers : Forwarding → Numbers
copy_numbers f =
    let before = places f.profile f.past in
    numbers_after f.profile (pointer_of f.profile before) (number_of before) f.flits
    (code_for f.due)

-- the place of the copy after these calls
abbrev pub copy_place : Forwarding → List Call → Place
copy_place f calls =
    slice_index_or (places f.profile (sender_after f calls)) (length (places f.profile f.past))
    (Place.known null_packet)

-- the copy is under way: the flits that were sent are the first of those that came
pub record IsGoingOn (past : List SenderEntry) (pipe : PipeFields) : Type 0 where
  pub part : Part
  pub under : unfinished past ≡ Some part
  pub sent : part.sent ≡ take (length part.sent) (front_flits pipe)

-- A place of a cut-through with these numbers: while the copy is under way it is open, and then its
-- packet is the copy of what came.
abbrev pub IsPlaceOfCopy : Forwarding → List SenderEntry → PipeFields → Place → Type 0
IsPlaceOfCopy f past pipe (Place.awaited head flits numbers) =
    (head ≡ f.head) × (flits ≡ f.flits) × (numbers ≡ copy_numbers f) × IsGoingOn past pipe
IsPlaceOfCopy f past pipe (Place.known packet) = IsCopy f.profile pipe (copy_numbers f) packet
