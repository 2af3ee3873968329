-- What an entry of a link is to each of its ends.
use Rattle.std.proofs.Common.{◌≡◌, ℕ, List, ◌∷◌, refl}
use Rattle.hmc_codes.specs.Link.{LinkFields}
use Rattle.hmc_packet.specs.declared.feed.Feed.{Feed}
use Rattle.hmc_packet.specs.declared.outcome.Outcome.{Outcome}
use Rattle.hmc_packet.specs.declared.what.What.{What}
use Rattle.hmc_packet.specs.Packet.{PacketFields}
use Rattle.hmc_send.specs.declared.toward.Toward.{Toward}
use Rattle.hmc_send.specs.declared.toward.Toward.TheVariants.{Forth, Back}
use Rattle.hmc_send.specs.LinkEntries.{LinkEntry, other, receiver_entries, handed_packets, takes}
use Rattle.hmc_send.specs.LinkLines.{sent_flits, landings, is_pending_changed}
use Rattle.hmc_send.specs.LinkSenders.{sender_entries, given_after, landing_entries}
use Rattle.hmc_ends.specs.Parts.{parts_of, parts_handed, parts_taken, parts_sent, parts_crossed, parts_landed, parts_unlocked, parts_lost, parts_through}

-- ---- a packet was handed

pub handed-here : (link : LinkFields) (d : Toward) (packet : PacketFields) (past : List LinkEntry) → parts_of link d (LinkEntry.handed d packet ∷ past) ≡ parts_handed packet (parts_of link d past)
unfolding receiver_entries handed_packets takes sent_flits landings is_pending_changed sender_entries
handed-here link Forth packet past = refl
handed-here link Back packet past = refl

pub handed-there : (link : LinkFields) (d : Toward) (packet : PacketFields) (past : List LinkEntry) → parts_of link (other d) (LinkEntry.handed d packet ∷ past) ≡ parts_of link (other d) past
unfolding receiver_entries handed_packets takes sent_flits landings is_pending_changed sender_entries
handed-there link Forth packet past = refl
handed-there link Back packet past = refl

-- ---- a packet was taken

pub taken-here : (link : LinkFields) (d : Toward) (past : List LinkEntry) → parts_of link d (LinkEntry.taken d ∷ past) ≡ parts_of link d past
unfolding receiver_entries handed_packets takes sent_flits landings is_pending_changed sender_entries
taken-here link Forth past = refl
taken-here link Back past = refl

pub taken-there : (link : LinkFields) (d : Toward) (past : List LinkEntry) → parts_of link (other d) (LinkEntry.taken d ∷ past) ≡ parts_taken (parts_of link (other d) past)
unfolding receiver_entries handed_packets takes sent_flits landings is_pending_changed sender_entries
taken-there link Forth past = refl
taken-there link Back past = refl

-- ---- a flit was sent

pub sent-here : (link : LinkFields) (d : Toward) (feed : Feed) (as_what : What) (flit : List ℕ) (past : List LinkEntry) → parts_of link d (LinkEntry.sent d feed as_what flit ∷ past) ≡ parts_sent link feed as_what flit (parts_of link d past)
unfolding receiver_entries handed_packets takes sent_flits landings is_pending_changed sender_entries given_after
sent-here link Forth feed as_what flit past = refl
sent-here link Back feed as_what flit past = refl

pub sent-there : (link : LinkFields) (d : Toward) (feed : Feed) (as_what : What) (flit : List ℕ) (past : List LinkEntry) → parts_of link (other d) (LinkEntry.sent d feed as_what flit ∷ past) ≡ parts_of link (other d) past
unfolding receiver_entries handed_packets takes sent_flits landings is_pending_changed sender_entries
sent-there link Forth feed as_what flit past = refl
sent-there link Back feed as_what flit past = refl

-- ---- a flit landed

pub landed-here : (link : LinkFields) (d : Toward) (mask flit : List ℕ) (outcome : Outcome) (past : List LinkEntry) → parts_of link d (LinkEntry.landed d mask flit outcome ∷ past) ≡ parts_crossed flit outcome (parts_of link d past)
unfolding receiver_entries handed_packets takes sent_flits landings is_pending_changed sender_entries
landed-here link Forth mask flit outcome past = refl
landed-here link Back mask flit outcome past = refl

pub landed-there : (link : LinkFields) (d : Toward) (mask flit : List ℕ) (outcome : Outcome) (past : List LinkEntry) → parts_of link (other d) (LinkEntry.landed d mask flit outcome ∷ past) ≡ parts_landed mask flit outcome (landing_entries link d past flit outcome) (parts_of link (other d) past)
unfolding receiver_entries handed_packets takes sent_flits landings is_pending_changed sender_entries
landed-there link Forth mask flit outcome past = refl
landed-there link Back mask flit outcome past = refl

-- ---- a receiver was unlocked

pub unlocked-here : (link : LinkFields) (d : Toward) (past : List LinkEntry) → parts_of link d (LinkEntry.unlocked d ∷ past) ≡ parts_lost (parts_of link d past)
unfolding receiver_entries handed_packets takes sent_flits landings is_pending_changed sender_entries
unlocked-here link Forth past = refl
unlocked-here link Back past = refl

pub unlocked-there : (link : LinkFields) (d : Toward) (past : List LinkEntry) → parts_of link (other d) (LinkEntry.unlocked d ∷ past) ≡ parts_unlocked (parts_of link (other d) past)
unfolding receiver_entries handed_packets takes sent_flits landings is_pending_changed sender_entries
unlocked-there link Forth past = refl
unlocked-there link Back past = refl

-- ---- a cut-through was begun

pub through-here : (link : LinkFields) (d : Toward) (head : List ℕ) (flits : ℕ) (past : List LinkEntry) → parts_of link d (LinkEntry.through d head flits ∷ past) ≡ parts_through link head flits (parts_of link d past)
unfolding receiver_entries handed_packets takes sent_flits landings is_pending_changed sender_entries
through-here link Forth head flits past = refl
through-here link Back head flits past = refl

pub through-there : (link : LinkFields) (d : Toward) (head : List ℕ) (flits : ℕ) (past : List LinkEntry) → parts_of link (other d) (LinkEntry.through d head flits ∷ past) ≡ parts_of link (other d) past
unfolding receiver_entries handed_packets takes sent_flits landings is_pending_changed sender_entries
through-there link Forth head flits past = refl
through-there link Back head flits past = refl
