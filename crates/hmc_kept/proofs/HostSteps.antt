-- What a host gives and takes.
use Rattle.std.proofs.Common.{◌≡◌, ◌<◌, ◌∙◌, ℕ, Bool, true, false, not, if◌then◌else◌, Option, Some, None, List, length, refl, sym, ap, subst, arith}
use Rattle.std.specs.Option.{unwrap_or}
use Rattle.std.proofs.lemmas.List.{set-get_or}
use Rattle.hmc_codes.specs.Request.{RequestFields, IsRequest}
use Rattle.hmc_codes.specs.Table.{table_line}
use Rattle.hmc_codes.specs.Commands.{layout_of, is_flow}
use Rattle.hmc_codes.specs.declared.place.Place.TheVariants as places
use Rattle.hmc_codes.specs.declared.profile.Profile.{Profile}
use Rattle.hmc_packet.specs.Packet.{PacketFields}
use Rattle.hmc_packet.specs.Transactions.{request_packet}
use Rattle.hmc_packet.proofs.TransactionLemmas.{asks-layout}
use Rattle.hmc_script.specs.Items.{ItemFields}
use Rattle.hmc_host.specs.declared.given.Given.{Given}
use Rattle.hmc_host.specs.declared.given.Given.TheVariants as givens
use Rattle.hmc_host.specs.declared.given.Hindrance.{Hindrance}
use Rattle.hmc_host.specs.declared.given.Hindrance.TheVariants as hindrances
use Rattle.hmc_host.specs.declared.settled.Settled.{Settled}
use Rattle.hmc_host.specs.declared.settled.Settled.TheVariants as settles
use Rattle.hmc_host.specs.Host.{HostFields}
use Rattle.hmc_host.specs.Give.{give_says, next_says, next_item, lacks_tag, tag_for, after_give, gave_request, hindrance_of}
use Rattle.hmc_host.specs.Settle.{after_settle}
use Rattle.hmc_send.specs.Given.{IsTaken}
use Rattle.hmc_send.specs.LinkEntries.{LinkEntry}
use Rattle.hmc_schedule.specs.declared.step.Step.TheVariants as steps
use Rattle.hmc_entries.specs.declared.outcome.Cause.{Cause}
use Rattle.hmc_entries.specs.declared.entry.Entry.TheVariants.{Idle}
use Rattle.hmc_entries.specs.Event.{cause_of}
use Rattle.hmc_journal.specs.Links.{put_on, direction_to}
use Rattle.hmc_journal.specs.Next.{gave_entry, took_entry}
use Rattle.hmc_journal.specs.Queues.{tag_number}
use Rattle.hmc_journal.specs.Setup.{Topology}
use Rattle.hmc_journal.specs.StepView.{StepView}
use Rattle.hmc_kept.specs.Hosts.{hosts_after, with_host, IsHostIn, cause_by, no_host}
use Rattle.hmc_kept.specs.After.{entries_after}

pub tag_is : (tag : Option ℕ) → unwrap_or tag 0 ≡ tag_number tag
tag_is None = refl
tag_is (Some tag) = refl

-- what is given where there is room: the packet of its request
abbrev pub IsGivenBy : Given → (room : Bool) → (number : ℕ) → Type 0
IsGivenBy (givens.Gave packet request tag poisoned) room number = (room ≡ true) × (packet ≡ request_packet request (tag_number tag) number poisoned)
IsGivenBy _ room number = Unit {0}

pub given_item : (host : HostFields) (item : ItemFields) (fence lacks room : Bool) (tag : Option ℕ)
    → IsGivenBy (if fence then givens.Fence else if lacks then givens.Tags else if not room then givens.Full else gave_request host.number item tag) room host.number
given_item host item true lacks room tag = tt
given_item host item false true room tag = tt
given_item host item false false false tag = tt
given_item host item false false true tag = (refl, ap (λ (t : ℕ). request_packet item.request t host.number item.poisoned) (tag_is tag))

pub given_next : (host : HostFields) (room : Bool) (found : Option ItemFields) → IsGivenBy (next_says host found room) room host.number
given_next host room None = tt
given_next host room (Some item) = given_item host item _ (lacks_tag item host.tags) room (tag_for item host.tags)

pub given_is : (host : HostFields) (room : Bool) (given : Given) → given ≡ give_says host room → IsGivenBy given room host.number
unfolding give_says
given_is host room given is = subst (λ g. IsGivenBy g room host.number) (sym is) (given_next host room (next_item host))

-- a request takes tokens, and has no error number
pub asked_taken : (profile : Profile) (request : RequestFields) (packet : PacketFields) (tag slid : ℕ) (poisoned : Bool) → IsRequest request → packet ≡ request_packet request tag slid poisoned → IsTaken profile packet
unfolding request_packet table_line
asked_taken profile request packet tag slid poisoned is packet_is = record {
  token = ap (λ (p : PacketFields). is_flow (layout_of p.command)) packet_is ∙ ap is_flow (asks-layout (layout_of request.command) is.asks);
  errstat = λ two. subst (λ (p : PacketFields). p.errstat < 8) (sym packet_is) (omega arith);
}

-- where nothing is given, the entry is idle for that cause
pub hindered_entry : (host : ℕ) (given : Given) (hindrance : Hindrance) → hindrance_of given ≡ Some hindrance → gave_entry host given ≡ Idle (steps.Give host) (cause_by hindrance)
hindered_entry host givens.Ended hindrance is = let same : hindrances.Ended ≡ hindrance = cc in ap (λ h. Idle (steps.Give host) (cause_by h)) same
hindered_entry host givens.Fence hindrance is = let same : hindrances.Fence ≡ hindrance = cc in ap (λ h. Idle (steps.Give host) (cause_by h)) same
hindered_entry host givens.Tags hindrance is = let same : hindrances.Tags ≡ hindrance = cc in ap (λ h. Idle (steps.Give host) (cause_by h)) same
hindered_entry host givens.Full hindrance is = let same : hindrances.Full ≡ hindrance = cc in ap (λ h. Idle (steps.Give host) (cause_by h)) same
hindered_entry host (givens.Gave packet request tag poisoned) hindrance is = absurd (cc)

pub gave_hosts : (hosts : List HostFields) (host : ℕ) (given : Given) → with_host host (after_give given) hosts ≡ hosts_after (gave_entry host given) hosts
gave_hosts hosts host givens.Ended = set-get_or hosts host no_host
gave_hosts hosts host givens.Fence = set-get_or hosts host no_host
gave_hosts hosts host givens.Tags = set-get_or hosts host no_host
gave_hosts hosts host givens.Full = set-get_or hosts host no_host
gave_hosts hosts host (givens.Gave packet request tag poisoned) = refl

pub took_hosts : (hosts : List HostFields) (host : ℕ) (settled : Settled) → with_host host (after_settle settled) hosts ≡ hosts_after (took_entry host settled) hosts
took_hosts hosts host settles.Discarded = set-get_or hosts host no_host
took_hosts hosts host (settles.Took tag answer) = refl

pub gave_host_in : (hosts : List HostFields) (host : ℕ) (given : Given) → host < length hosts → IsHostIn hosts (gave_entry host given)
gave_host_in hosts host givens.Ended there = tt
gave_host_in hosts host givens.Fence there = tt
gave_host_in hosts host givens.Tags there = tt
gave_host_in hosts host givens.Full there = tt
gave_host_in hosts host (givens.Gave packet request tag poisoned) there = there

pub took_host_in : (hosts : List HostFields) (host : ℕ) (settled : Settled) → host < length hosts → IsHostIn hosts (took_entry host settled)
took_host_in hosts host settles.Discarded there = tt
took_host_in hosts host (settles.Took tag answer) there = there

pub took_busy : (host : ℕ) (settled : Settled) (cause : Cause) → cause_of (took_entry host settled) ≡ Some cause → ⊥
took_busy host settles.Discarded cause is = absurd (cc)
took_busy host (settles.Took tag answer) cause is = absurd (cc)

pub took_entries : (topology : Topology) (view : StepView) (host direction link : ℕ) (settled : Settled) → direction_to topology (places.Host host) ≡ Some direction → put_on link (Some direction) LinkEntry.taken (view.entries link) ≡ entries_after topology view (took_entry host settled) link
took_entries topology view host direction link settles.Discarded to = ap (λ (d : Option ℕ). put_on link d LinkEntry.taken (view.entries link)) (sym to)
took_entries topology view host direction link (settles.Took tag answer) to = ap (λ (d : Option ℕ). put_on link d LinkEntry.taken (view.entries link)) (sym to)
