-- The calls of a link make entries.
use Rattle.std.proofs.Common.{◌≡◌, true, Some, List, ◌∷◌, refl, ap, lt-ltb}
use Rattle.std.proofs.lemmas.Bool.{and_from}
use Rattle.hmc_codes.specs.Link.{LinkFields}
use Rattle.hmc_packet.specs.Packet.{PacketFields}
use Rattle.hmc_send.specs.LinkCalls.{LinkCall, next_entry, with_entry, has_room}
use Rattle.hmc_send.specs.LinkCalls as calls
use Rattle.hmc_send.specs.LinkEntries.{LinkEntry}
use Rattle.hmc_send.specs.Places.{is_token}
use Rattle.hmc_send.specs.declared.toward.Toward.{Toward}
use Rattle.hmc_ends.specs.Answers.{after_call, front_in}
use Rattle.hmc_journal.proofs.Packets.{front_inside}

pub handed_call : (link : LinkFields) (past : List LinkEntry) (d : Toward) (packet : PacketFields) → has_room link d past ≡ true → is_token packet ≡ true → after_call link past (LinkCall.hand d packet) ≡ LinkEntry.handed d packet ∷ past
unfolding next_entry
handed_call link past d packet room token = ap (λ t. with_entry past (calls.entry_if t (LinkEntry.handed d packet))) (and_from (has_room link d past) (is_token packet) room token)

pub taken_call : (link : LinkFields) (past : List LinkEntry) (d : Toward) (front : PacketFields) → front_in link d past ≡ Some front → after_call link past (LinkCall.take d) ≡ LinkEntry.taken d ∷ past
unfolding next_entry
taken_call link past d front is = ap (λ t. with_entry past (calls.entry_if t (LinkEntry.taken d))) (lt-ltb _ _ (front_inside _ _ front is))

pub unlocked_call : (link : LinkFields) (past : List LinkEntry) (d : Toward) → after_call link past (LinkCall.unlock d) ≡ LinkEntry.unlocked d ∷ past
unfolding next_entry
unlocked_call link past d = refl
