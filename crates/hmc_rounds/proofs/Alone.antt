-- With one link no packet is passed on before it has come whole.
use Rattle.std.proofs.Common.{◌≡◌, ◌<◌, ◌/◌, ◌∙◌, ◌⊎◌, ◌==◌, inl, inr, ℕ, Bool, true, false, Option, Some, None, List, [], ◌∷◌, refl, sym, ap, subst, eq-eqb}
use Rattle.std.specs.Prelude.{option_map}
use Rattle.hmc_codes.specs.Link.{LinkFields}
use Rattle.hmc_codes.specs.declared.place.Place.{Place}
use Rattle.hmc_codes.specs.declared.place.Place.TheVariants as places
use Rattle.hmc_packet.specs.Packet.{PacketFields}
use Rattle.hmc_packet.specs.Transactions.{request_packet}
use Rattle.hmc_routes.specs.Directions as directions
use Rattle.hmc_send.specs.declared.toward.Toward.{Toward}
use Rattle.hmc_send.specs.LinkEntries.{LinkEntry, put_if}
use Rattle.hmc_wire.proofs.EntryTurns.{kept-before}
use Rattle.hmc_entries.specs.declared.outcome.Goal.{Goal}
use Rattle.hmc_entries.specs.declared.outcome.Goal.TheVariants as goals
use Rattle.hmc_entries.specs.declared.entry.Entry.{Entry}
use Rattle.hmc_entries.specs.declared.entry.Entry.TheVariants.{Gave, Sent, Landed, Shifted, Dropped, Lifted, Took, Discarded, Through, Unlocked}
use Rattle.hmc_journal.specs.Lawful.{Lawful}
use Rattle.hmc_journal.specs.Links.{toward, put_on, taken_if, handed_on, fed_after, landing_mask, link_sizes, link_entries, direction_to}
use Rattle.hmc_journal.specs.Piped.{forwarded_onto, goes_on, pipe_onto}
use Rattle.hmc_journal.specs.Queues.{contents, front_of, tag_number}
use Rattle.hmc_journal.specs.Queues.QueueId.{Port, Answers}
use Rattle.hmc_journal.specs.Network.{IsNetwork}
use Rattle.hmc_journal.specs.Setup.{Setup, Topology, start_of, direction_from, directions_in}
use Rattle.hmc_journal.proofs.EntryRule.{HasThrough, entry_rule, lawful_past}
use Rattle.hmc_laws.proofs.Wired.{Wired, wired}
use Rattle.hmc_rounds.specs.LinkPart.{IsNoThrough, HaveNoThrough, IsPlain}
use Rattle.hmc_rounds.proofs.Single.{Joined}

pub plain_before : (link : LinkFields) (entry : LinkEntry) (past : List LinkEntry) →
    IsPlain link (entry ∷ past) → IsPlain link past
plain_before link entry past is =
    record { kept = kept-before link entry past is.kept; alone = is.alone.1 }

put_alone : (direction : Option ℕ) (entry : Toward → LinkEntry) (past : List LinkEntry) →
    ((way : Toward) → IsNoThrough (entry way)) → HaveNoThrough past →
    HaveNoThrough (put_on 0 direction entry past)
put_alone None entry past is all = all
put_alone (Some d) entry past is all = by_here (d / 2 == 0)
  where
    by_here : (here : Bool) → HaveNoThrough (put_if here (entry (toward d)) past)
    by_here true = (is (toward d), all)
    by_here false = all

taken_alone : (gone : Bool) (d : ℕ) (past : List LinkEntry) → HaveNoThrough past →
    HaveNoThrough (taken_if gone 0 d past)
taken_alone true d past all = put_alone (Some d) LinkEntry.taken past (λ way. tt) all
taken_alone false d past all = all

handed_alone : (t : Topology) (cube : ℕ) (goal : Goal) (packet : PacketFields)
    (past : List LinkEntry) → HaveNoThrough past →
    HaveNoThrough (handed_on t 0 cube goal packet past)
handed_alone t cube (goals.Port port) packet past all =
    put_alone (direction_from t (places.Port cube port)) (λ d. LinkEntry.handed d packet) past
    (λ way. tt) all
handed_alone t cube (goals.Vault vault) packet past all = all
handed_alone t cube goals.Registers packet past all = all

-- a direction from a port of a cube is that of answers
pub clash_places : (start : Place) (h c p : ℕ) → start ≡ places.Host h → start ≡ places.Port c p → ⊥
clash_places start h c p x y = let z : places.Host h ≡ places.Port c p = sym x ∙ y in cc

from_port : (t : Topology) (j : Joined t) → Wired t → (c p d : ℕ) →
    direction_from t (places.Port c p) ≡ Some d → start_of t j.back ≡ places.Port c p
from_port t j wires c p d from =
    let less : d < directions_in t = wires.inside (places.Port c p) d from in
    by_either (j.either d (subst (λ (n : ℕ). d < n) j.two less))
  where
    by_either : (d ≡ j.forth) ⊎ (d ≡ j.back) → start_of t j.back ≡ places.Port c p
    by_either (inr same) = sym (ap (start_of t) same) ∙ wires.starts (places.Port c p) d from
    by_either (inl same) =
        absurd (clash_places (start_of t d) 0 c p (ap (start_of t) same
        ∙ wires.starts (places.Host 0) j.forth j.from_host) (wires.starts (places.Port c p) d from))

has_from : (there : Option ℕ) (d : ℕ) → option_map directions.other there ≡ Some d → (e : ℕ)
    × (there ≡ Some e)
has_from None d is = absurd cc
has_from (Some e) d is = (e, refl)

same_port : (c p q : ℕ) → places.Port c p ≡ places.Port c q → q ≡ p
same_port c p q is = cc

pub no_through : (setup : Setup) (j : Joined setup.topology) → Wired setup.topology →
    (past : List Entry) (cube port direction : ℕ) → HasThrough setup past cube port direction → ⊥
no_through setup j wires past cube port direction has =
    let t = setup.topology in
    let came = has_from (direction_from t (places.Port cube port)) has.from has.arrives in
    let one : start_of t j.back ≡ places.Port cube port =
    from_port t j wires cube port came.0 came.1 in
    let two : start_of t j.back ≡ places.Port cube has.onward =
    from_port t j wires cube has.onward direction has.starts in
    let same : has.onward ≡ port = same_port cube port has.onward (sym one ∙ two) in
    let clash : true ≡ false = sym (eq-eqb has.onward port same) ∙ has.other_port in cc

by_entry : (setup : Setup) → IsNetwork setup → Joined setup.topology →
    (entry : Entry) (past : List Entry) → Lawful setup (entry ∷ past) →
    HaveNoThrough (link_entries setup.topology 0 past) →
    HaveNoThrough (link_entries setup.topology 0 (entry ∷ past))
unfolding link_entries
by_entry setup network j (Gave host tag poisoned request) past lawful all =
    put_alone (direction_from setup.topology (places.Host host))
    (λ d. LinkEntry.handed d (request_packet request (tag_number tag) host poisoned))
    (link_entries setup.topology 0 past) (λ way. tt) all
by_entry setup network j (Sent direction what flit) past lawful all =
    let t = setup.topology in
    put_alone (Some direction)
    (λ d. LinkEntry.sent d
    (fed_after (link_sizes t 0) d (link_entries t 0 past) (pipe_onto t direction past)) what flit)
    (link_entries t 0 past) (λ way. tt) all
by_entry setup network j (Landed direction flit outcome) past lawful all =
    let t = setup.topology in
    let entry =
    λ (d : Toward). LinkEntry.landed d
    (landing_mask (link_sizes t 0) d (link_entries t 0 past) flit) flit outcome in
    taken_alone (goes_on outcome (forwarded_onto t direction past)) direction
    (put_on 0 (Some direction) entry (link_entries t 0 past))
    (put_alone (Some direction) entry (link_entries t 0 past) (λ way. tt) all)
by_entry setup network j (Shifted cube port goal) past lawful all =
    let t = setup.topology in
    handed_alone t cube goal (front_of (contents t past (Port cube port)))
    (put_on 0 (direction_to t (places.Port cube port)) LinkEntry.taken (link_entries t 0 past))
    (put_alone (direction_to t (places.Port cube port)) LinkEntry.taken (link_entries t 0 past)
    (λ way. tt) all)
by_entry setup network j (Dropped cube port) past lawful all =
    put_alone (direction_to setup.topology (places.Port cube port)) LinkEntry.taken
    (link_entries setup.topology 0 past) (λ way. tt) all
by_entry setup network j (Lifted cube from port) past lawful all =
    let t = setup.topology in
    put_alone (direction_from t (places.Port cube port))
    (λ d. LinkEntry.handed d (front_of (contents t past (Answers cube from))))
    (link_entries t 0 past) (λ way. tt) all
by_entry setup network j (Took host tag answer) past lawful all =
    put_alone (direction_to setup.topology (places.Host host)) LinkEntry.taken
    (link_entries setup.topology 0 past) (λ way. tt) all
by_entry setup network j (Discarded host) past lawful all =
    put_alone (direction_to setup.topology (places.Host host)) LinkEntry.taken
    (link_entries setup.topology 0 past) (λ way. tt) all
by_entry setup network j (Unlocked direction) past lawful all =
    put_alone (Some direction) LinkEntry.unlocked (link_entries setup.topology 0 past) (λ way. tt)
    all
by_entry setup network j (Through cube port direction) past lawful all =
    absurd (no_through setup j (wired setup network) past cube port direction
    (entry_rule setup (Through cube port direction) past lawful))
by_entry setup network j _ past lawful all = all

pub alone : (setup : Setup) → IsNetwork setup → Joined setup.topology → (past : List Entry) →
    Lawful setup past → HaveNoThrough (link_entries setup.topology 0 past)
unfolding link_entries
alone setup network j [] lawful = tt
alone setup network j (entry ∷ past) lawful =
    by_entry setup network j entry past lawful
    (alone setup network j past (lawful_past setup entry past lawful))
