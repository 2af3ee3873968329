-- What each queue holds is right after one more entry; so are the machine and the tags.
use Rattle.std.proofs.Common.{◌≡◌, ◌∙◌, ℕ, Bool, true, false, Option, Some, None, List, [], ◌∷◌, All, length, refl, subst}
use Rattle.std.proofs.lemmas.List.{length-set}
use Rattle.std.proofs.lemmas.List.Elements.{All-nil, All-append, All-cons}
use Rattle.hmc_journal.specs.Choice.{choose}
use Rattle.hmc_packet.specs.Packet.{PacketFields}
use Rattle.hmc_host.specs.Tags.{with_out}
use Rattle.hmc_entries.specs.declared.entry.Entry.{Entry}
use Rattle.hmc_entries.specs.declared.entry.Entry.TheVariants.{Gave, Executed, Took, Retired}
use Rattle.hmc_journal.specs.Setup.{Setup, Topology, other}
use Rattle.hmc_journal.specs.Queues.{QueueId, packet_if, entered, contents, Arrival, arrived, same_queue}
use Rattle.hmc_journal.specs.Hosts.{tags_out}
use Rattle.hmc_journal.specs.Serial.{state_after}
use Rattle.hmc_journal.specs.StepView.{state_of}
use Rattle.hmc_journal.proofs.EntryRule.{EntryRule}
use Rattle.hmc_journal.proofs.Moves.{same_queue_is, arrives}
use Rattle.hmc_laws.proofs.Standing.{Stands}
use Rattle.hmc_laws.proofs.Entering.{Kept, ArrivesRight, runs_request, enters_right}
use Rattle.hmc_laws.proofs.Machine.{HasCubes, HasCubes-apply, HasCubes-retire}
use Rattle.hmc_laws.proofs.Wired.{Wired}
use Rattle.hmc_journal.specs.Network.{IsNetwork}

-- what enters the room
arriving_stands : (topology : Topology) (queue room : QueueId) (packet : Unit {0} → PacketFields)
    (here : Bool) → Stands topology queue (packet tt) → same_queue queue room ≡ here →
    All (Stands topology room) (packet_if here packet)
arriving_stands topology queue room packet false right is = All-nil (Stands topology room)
arriving_stands topology queue room packet true right is =
    All-cons (Stands topology room) (packet tt) []
    (subst (λ (r : QueueId). Stands topology r (packet tt)) (same_queue_is queue room is) right)
    (All-nil (Stands topology room))

entering_stands : (topology : Topology) (to : Option Arrival) (room : QueueId) →
    ArrivesRight topology to → All (Stands topology room) (arrived room to)
entering_stands topology None room right = All-nil (Stands topology room)
entering_stands topology (Some arrival) room right =
    arriving_stands topology arrival.queue room arrival.packet (same_queue arrival.queue room) right
    refl

pub stands-more : (setup : Setup) (entry : Entry) (past : List Entry) (room : QueueId) →
    IsNetwork setup → Wired setup.topology → EntryRule setup past entry → Kept setup past →
    All (Stands setup.topology room) (entered setup.topology (entry ∷ past) room)
unfolding entered contents
stands-more setup entry past room network wires right kept =
    All-append (Stands setup.topology room) (entered setup.topology past room) _ (kept.stands room)
    (entering_stands setup.topology (arrives setup.topology past entry) room
    (enters_right setup past entry network wires right kept))

pub state-more : (setup : Setup) (entry : Entry) (past : List Entry) → EntryRule setup past entry →
    Kept setup past → HasCubes setup.topology (state_of setup (entry ∷ past))
unfolding state_of state_after
state-more setup (Executed unit host tag request answer) past right kept =
    let run = runs_request setup past unit host tag request answer right kept in
    HasCubes-apply setup.topology (state_of setup past) request kept.state run.is run.there
state-more setup (Retired slot) past right kept =
    HasCubes-retire setup.topology (state_of setup past) slot kept.state
state-more setup _ past right kept = kept.state

length-choose : (here : Bool) (changed same : List Bool) → length changed ≡ 2048 → length same
    ≡ 2048 → length (choose here changed same) ≡ 2048
length-choose true changed same long other = long
length-choose false changed same long other = other

length-with_out : (tag : Option ℕ) (tags : List Bool) → length tags ≡ 2048 →
    length (with_out tag tags) ≡ 2048
length-with_out None tags long = long
length-with_out (Some tag) tags long = length-set tags tag true ∙ long

pub tags-more : (entry : Entry) (past : List Entry) (host : ℕ) → length (tags_out host past)
    ≡ 2048 → length (tags_out host (entry ∷ past)) ≡ 2048
unfolding tags_out
tags-more (Gave giver tag poisoned request) past host long =
    length-choose _ _ _ (length-with_out tag (tags_out host past) long) long
tags-more (Took taker tag answer) past host long =
    length-choose _ _ _ (length-set (tags_out host past) tag false ∙ long) long
tags-more _ past host long = long
