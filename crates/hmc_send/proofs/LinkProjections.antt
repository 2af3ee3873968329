-- What one entry more of a link is to its senders and receivers.
use Rattle.std.proofs.Common.{◌≡◌, ℕ, List, ◌∷◌, ◌++◌, refl}
use Rattle.hmc_codes.specs.Link.{LinkFields}
use Rattle.hmc_packet.specs.declared.feed.Feed.{Feed}
use Rattle.hmc_packet.specs.declared.outcome.Outcome.{Outcome}
use Rattle.hmc_packet.specs.declared.what.What.{What}
use Rattle.hmc_packet.specs.Landings.{ReceiverEntry}
use Rattle.hmc_send.specs.Entries.{SenderEntry}
use Rattle.hmc_send.specs.declared.toward.Toward.{Toward}
use Rattle.hmc_send.specs.LinkEntries.{LinkEntry, other, receiver_entries}
use Rattle.hmc_send.specs.declared.toward.Toward.TheVariants.{Forth, Back}
use Rattle.hmc_send.specs.LinkSenders.{due_after, landing_entries, sender_entries, given_in}

-- ---- to a sender

pub sender-sent : (link : LinkFields) (d : Toward) (feed : Feed) (as_what : What) (flit : List ℕ) (past : List LinkEntry) → sender_entries link d (LinkEntry.sent d feed as_what flit ∷ past) ≡ SenderEntry.sent (given_in link d past feed) as_what flit ∷ sender_entries link d past
unfolding sender_entries
sender-sent link Forth feed as_what flit past = refl
sender-sent link Back feed as_what flit past = refl

pub sender-sent_other : (link : LinkFields) (d : Toward) (feed : Feed) (as_what : What) (flit : List ℕ) (past : List LinkEntry) → sender_entries link (other d) (LinkEntry.sent d feed as_what flit ∷ past) ≡ sender_entries link (other d) past
unfolding sender_entries
sender-sent_other link Forth feed as_what flit past = refl
sender-sent_other link Back feed as_what flit past = refl

pub sender-through : (link : LinkFields) (d : Toward) (head : List ℕ) (flits : ℕ) (past : List LinkEntry) → sender_entries link d (LinkEntry.through d head flits ∷ past) ≡ SenderEntry.through head flits (due_after link (other d) past (sender_entries link d past)) ∷ sender_entries link d past
unfolding sender_entries
sender-through link Forth head flits past = refl
sender-through link Back head flits past = refl

pub sender-through_other : (link : LinkFields) (d : Toward) (head : List ℕ) (flits : ℕ) (past : List LinkEntry) → sender_entries link (other d) (LinkEntry.through d head flits ∷ past) ≡ sender_entries link (other d) past
unfolding sender_entries
sender-through_other link Forth head flits past = refl
sender-through_other link Back head flits past = refl

pub sender-landed : (link : LinkFields) (d : Toward) (mask flit : List ℕ) (outcome : Outcome) (past : List LinkEntry) → sender_entries link d (LinkEntry.landed (other d) mask flit outcome ∷ past) ≡ landing_entries link (other d) past flit outcome ++ sender_entries link d past
unfolding sender_entries
sender-landed link Forth mask flit outcome past = refl
sender-landed link Back mask flit outcome past = refl

pub sender-landed_own : (link : LinkFields) (d : Toward) (mask flit : List ℕ) (outcome : Outcome) (past : List LinkEntry) → sender_entries link d (LinkEntry.landed d mask flit outcome ∷ past) ≡ sender_entries link d past
unfolding sender_entries
sender-landed_own link Forth mask flit outcome past = refl
sender-landed_own link Back mask flit outcome past = refl

-- ---- to a receiver

pub receiver-landed : (d : Toward) (mask flit : List ℕ) (outcome : Outcome) (past : List LinkEntry) → receiver_entries d (LinkEntry.landed d mask flit outcome ∷ past) ≡ ReceiverEntry.Land flit outcome ∷ receiver_entries d past
unfolding receiver_entries
receiver-landed Forth mask flit outcome past = refl
receiver-landed Back mask flit outcome past = refl

pub receiver-landed_other : (d : Toward) (mask flit : List ℕ) (outcome : Outcome) (past : List LinkEntry) → receiver_entries (other d) (LinkEntry.landed d mask flit outcome ∷ past) ≡ receiver_entries (other d) past
unfolding receiver_entries
receiver-landed_other Forth mask flit outcome past = refl
receiver-landed_other Back mask flit outcome past = refl

pub receiver-unlocked : (d : Toward) (past : List LinkEntry) → receiver_entries d (LinkEntry.unlocked d ∷ past) ≡ ReceiverEntry.Unlock ∷ receiver_entries d past
unfolding receiver_entries
receiver-unlocked Forth past = refl
receiver-unlocked Back past = refl

pub receiver-unlocked_other : (d : Toward) (past : List LinkEntry) → receiver_entries (other d) (LinkEntry.unlocked d ∷ past) ≡ receiver_entries (other d) past
unfolding receiver_entries
receiver-unlocked_other Forth past = refl
receiver-unlocked_other Back past = refl
