-- An end after a send that starved, and after a landing, by what its parts are.
use Rattle.std.proofs.Common.{◌≡◌, ◌∙◌, Bool, List, Option, ap, drop}
use Rattle.std.specs.Prelude.{Some, None, slice_get}
use Rattle.hmc_packet.specs.Packet.{PacketFields}
use Rattle.hmc_send.specs.Entries.{UnderWay}
use Rattle.hmc_send.specs.Given.{account_after, fronts_taken}
use Rattle.hmc_send.specs.declared.sent.Sent.TheVariants.{Starved}
use Rattle.hmc_send.specs.declared.state.State.{State}
use Rattle.hmc_tokens.specs.declared.account.Account.{Account}
use Rattle.hmc_ends.specs.End.{EndFields}

-- an end whose sender starves is as it was
pub as_before : (e x : EndFields) (u : Option UnderWay) (S : State) (Q : List PacketFields) (A : Account) → e ≡ x →
    S ≡ e.sender → Q ≡ drop (fronts_taken u Starved) e.queue → A ≡ account_after u (slice_get e.queue 0) Starved e.account → record e { queue = Q; sender = S; account = A } ≡ x
as_before e x None S Q A is sender queue account = (λ i. record e { queue = queue i; sender = sender i; account = account i }) ∙ is
as_before e x (Some begun) S Q A is sender queue account = (λ i. record e { queue = queue i; sender = sender i; account = account i }) ∙ is

-- the sender and the pending change of an end are replaced
pub with_sender : (e x : EndFields) (S : State) (b c : Bool) → e ≡ x → b ≡ c → record e { sender = S; changed = b } ≡ record x { sender = S; changed = c }
with_sender e x S b c same is = ap (λ (z : EndFields). record z { sender = S; changed = b }) same ∙ ap (λ (t : Bool). record x { sender = S; changed = t }) is
