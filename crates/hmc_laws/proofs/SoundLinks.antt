-- Each link keeps its laws after one more entry.
use Rattle.std.proofs.Common.{◌≡◌, ◌/◌, ◌==◌, ◌∙◌, ℕ, Bool, true, false, Some, List, ◌∷◌, slice_index_or, refl, sym, ap, subst, eqb-true}
use Rattle.hmc_packet.specs.Packet.{PacketFields}
use Rattle.hmc_entries.specs.declared.entry.Entry.{Entry}
use Rattle.hmc_entries.specs.declared.entry.Entry.TheVariants.{Gave, Sent, Landed, Shifted, Dropped, Spread, Executed, Lifted, Took, Discarded, Through, Unlocked, Retired, Passed, Idle}
use Rattle.hmc_journal.specs.Setup.{Setup}
use Rattle.hmc_packet.specs.declared.feed.Feed.TheVariants.{Waiting}
use Rattle.hmc_packet.specs.Transactions.{request_packet}
use Rattle.hmc_send.specs.LinkCalls.{may_pass_on, view_in}
use Rattle.hmc_codes.specs.Flit.{IsFlit, zero_flit}
use Rattle.hmc_send.specs.LinkEntries.{LinkEntry, put_if}
use Rattle.hmc_wire.specs.LinkLaws.{IsKept}
use Rattle.hmc_journal.specs.Directions.{receiver_of}
use Rattle.hmc_journal.specs.Links.{toward, handed_at, taken_at, handed_on, link_sizes, link_entries, sizes_on, entries_on, forwarded_on}
use Rattle.hmc_journal.specs.Queues.{contents, tag_number, front_of}
use Rattle.hmc_journal.specs.Queues.QueueId.{Port, Host, Answers}
use Rattle.hmc_journal.proofs.LinkKept.{kept-unlocked, kept-through}
use Rattle.hmc_journal.proofs.Projections.{came_at, feed_in}
use Rattle.hmc_journal.proofs.EntryRule.{EntryRule, HasThrough}
use Rattle.hmc_journal.proofs.Moves.{front_is}
use Rattle.hmc_laws.proofs.Entering.{Kept, front_stands, given_asks}
use Rattle.hmc_laws.proofs.Wired.{Wired}
use Rattle.hmc_journal.specs.Network.{IsNetwork}
use Rattle.hmc_laws.proofs.PipeSteps.{came_is}
use Rattle.hmc_laws.proofs.GoodLandings.{names_more}
use Rattle.hmc_packet.specs.Landings.{pending}
use Rattle.hmc_packet.specs.Parts.{lng_of}
use Rattle.hmc_codes.specs.declared.place.Place.TheVariants as ends
use Rattle.hmc_laws.proofs.SoundSends.{sent_kept}
use Rattle.hmc_laws.proofs.SoundTakes.{put-on-kept, taken-kept, handed-kept, link-shifted, gathers_is, through_of}
use Rattle.hmc_laws.proofs.SoundAtOnce.{taken-landed}

-- a packet is forwarded
link-through : (setup : Setup) (past : List Entry) (cube port d link : ℕ) →
    HasThrough setup past cube port d → Kept setup past →
    IsKept (link_sizes setup.topology link)
    (forwarded_on link d (came_at setup.topology cube port past)
    (link_entries setup.topology link past))
link-through setup past cube port d link right kept =
    let came = gathers_is setup past cube port d right in
    let names =
    names_more right.from past right.flit right.rest right.head kept.short came right.is_head in
    subst (λ (c : List (List ℕ)). IsKept (link_sizes setup.topology link)
    (forwarded_on link d c (link_entries setup.topology link past)))
    (sym (came_is setup.topology past cube port (through_of setup past cube port d right)))
    (put-on-kept setup.topology link d (Some d)
    (λ way. LinkEntry.through way right.flit (lng_of right.flit))
    (λ i. link_entries setup.topology i past) refl (kept.links link)
    (kept-through (sizes_on setup.topology d) (entries_on setup.topology d past) (toward d)
    right.flit (lng_of right.flit) (kept.links (d / 2))
    (ap (may_pass_on (view_in (sizes_on setup.topology d) (toward d)
    (entries_on setup.topology d past) Waiting)) (sym names.1) ∙ right.may) names.0
    (ap_flit came (kept.pendings right.from 0))))
  where
    ap_flit : pending (receiver_of right.from past) ≡ right.flit ∷ right.rest →
        IsFlit (slice_index_or (pending (receiver_of right.from past)) 0 zero_flit) →
        IsFlit right.flit
    ap_flit came is =
        subst IsFlit (ap (λ (l : List (List ℕ)). slice_index_or l 0 zero_flit) came) is

pub link-more : (setup : Setup) (entry : Entry) (past : List Entry) (link : ℕ) → IsNetwork setup →
    Wired setup.topology → EntryRule setup past entry → Kept setup past →
    IsKept (link_sizes setup.topology link) (link_entries setup.topology link (entry ∷ past))
unfolding link_entries
link-more setup (Gave host tag poisoned request) past link network wires right kept =
    handed-kept setup past (ends.Host host) (request_packet request (tag_number tag) host poisoned)
    link (λ i. link_entries setup.topology i past) kept
    (given_asks setup past host tag poisoned request network right kept).counted right.room
    kept.links (λ d. refl)
link-more setup (Lifted cube from to) past link network wires right kept =
    let front : front_of (contents setup.topology past (Answers cube from)) ≡ right.at.front =
    front_is setup past (Answers cube from) right.at in
    subst (λ (p : PacketFields). IsKept (link_sizes setup.topology link)
    (handed_at setup.topology link (ends.Port cube to) p
    (link_entries setup.topology link past))) (sym front)
    (handed-kept setup past (ends.Port cube to) right.at.front link
    (λ i. link_entries setup.topology i past) kept
    (front_stands setup past (Answers cube from) kept right.at).replying.counted right.room
    kept.links (λ d. refl))
link-more setup (Shifted cube port goal) past link network wires right kept =
    let front : front_of (contents setup.topology past (Port cube port)) ≡ right.at.front =
    front_is setup past (Port cube port) right.at in
    subst (λ (p : PacketFields). IsKept (link_sizes setup.topology link)
    (handed_on setup.topology link cube goal p
    (taken_at setup.topology link (ends.Port cube port)
    (link_entries setup.topology link past)))) (sym front)
    (link-shifted setup past cube port goal link wires kept right
    (front_stands setup past (Port cube port) kept right.at))
link-more setup (Dropped cube port) past link network wires right kept =
    taken-kept setup past (ends.Port cube port) right.at.front link wires kept
    (front_stands setup past (Port cube port) kept right.at) right.at
link-more setup (Took host tag answer) past link network wires right kept =
    taken-kept setup past (ends.Host host) right.at.front link wires kept
    (front_stands setup past (Host host) kept right.at) right.at
link-more setup (Discarded host) past link network wires right kept =
    taken-kept setup past (ends.Host host) right.at.front link wires kept
    (front_stands setup past (Host host) kept right.at) right.at
link-more setup (Sent d as_what flit) past link network wires right kept =
    by_here (d / 2 == link) refl
  where
    by_here : (here : Bool) → (d / 2 == link) ≡ here →
        IsKept (link_sizes setup.topology link)
        (put_if here (LinkEntry.sent (toward d) (feed_in setup.topology link d past (toward d))
        as_what flit) (link_entries setup.topology link past))
    by_here false at = kept.links link
    by_here true at =
        subst (λ (i : ℕ). IsKept (link_sizes setup.topology i)
        (LinkEntry.sent (toward d) (feed_in setup.topology i d past (toward d)) as_what flit
        ∷ link_entries setup.topology i past)) (eqb-true (d / 2) link at)
        (sent_kept setup past d as_what flit kept right)
link-more setup (Landed d flit outcome) past link network wires right kept =
    taken-landed setup past d flit outcome link wires right kept
link-more setup (Through cube port d) past link network wires right kept =
    link-through setup past cube port d link right kept
link-more setup (Unlocked d) past link network wires right kept =
    put-on-kept setup.topology link d (Some d) LinkEntry.unlocked
    (λ i. link_entries setup.topology i past) refl (kept.links link)
    (kept-unlocked (sizes_on setup.topology d) (entries_on setup.topology d past) (toward d)
    (kept.links (d / 2)))
link-more setup (Spread cube vault bank) past link network wires right kept = kept.links link
link-more setup (Executed unit host tag request answer) past link network wires right kept =
    kept.links link
link-more setup (Passed direction flit) past link network wires right kept = kept.links link
link-more setup (Retired slot) past link network wires right kept = kept.links link
link-more setup (Idle step cause) past link network wires right kept = kept.links link
