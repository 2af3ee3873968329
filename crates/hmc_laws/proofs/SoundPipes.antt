-- After one more entry nothing is sent where no direction is, and pipes keep what is known of them.
use Rattle.std.proofs.Common.{◌≡◌, ◌≤◌, ◌<◌, ◌/◌, ◌∙◌, ℕ, zero, suc, Bool, true, false, nat_le, Option, Some, None, List, [], ◌∷◌, length, slice_index_or, refl, sym, ap, subst, arith, leb-true, leb-false, ne_eqb}
use Rattle.std.specs.Prelude.{option_map}
use Rattle.hmc_journal.specs.Choice.{append_if}
use Rattle.hmc_entries.specs.declared.entry.Entry.{Entry}
use Rattle.hmc_entries.specs.declared.entry.Entry.TheVariants.{Gave, Sent, Landed, Shifted, Dropped, Spread, Executed, Lifted, Took, Discarded, Through, Unlocked, Retired, Passed, Idle}
use Rattle.hmc_journal.specs.Setup.{Setup, Topology, no_link, directions_in, end_of, direction_from, joins_of, other}
use Rattle.hmc_case.specs.declared.setup.LinkRow.{LinkRow}
use Rattle.hmc_packet.specs.declared.what.What.{What}
use Rattle.hmc_send.specs.Entries.{unfinished, last_begun, under_way, with_place}
use Rattle.hmc_codes.specs.Link.{LinkFields}
use Rattle.hmc_send.specs.LinkEntries.{LinkEntry}
use Rattle.hmc_send.specs.LinkSenders.{sender_entries}
use Rattle.hmc_send.specs.Places.{place_at}
use Rattle.hmc_wire.specs.LinkLaws.{IsKept}
use Rattle.hmc_journal.specs.Directions.{sent_flits}
use Rattle.hmc_journal.specs.Links.{toward, sizes_on, entries_on}
use Rattle.hmc_journal.specs.Queues.{buffer_at, contents}
use Rattle.hmc_journal.proofs.Projections.{came_at}
use Rattle.hmc_send.specs.LinkLines.{line}
use Rattle.hmc_codes.specs.declared.place.Place.{Place as End}
use Rattle.hmc_laws.proofs.UnsentFlits.{AreGathered}
use Rattle.hmc_journal.proofs.EntryRule.{EntryRule, HasSent, HasThrough}
use Rattle.hmc_laws.proofs.Entering.{Kept, landed-real}
use Rattle.hmc_laws.proofs.Wired.{Wired}
use Rattle.hmc_journal.specs.Network.{IsNetwork}
use Rattle.hmc_laws.proofs.ForwardingPipes.{AreForwarding, ArePiped, Waits}
use Rattle.hmc_laws.proofs.ForwardingThroughs.{Forwards, piped_through, forwarding_through}
use Rattle.hmc_laws.proofs.ForwardingQuiet.{piped_quiet, piped_send, forwarding_quiet}
use Rattle.hmc_laws.proofs.ForwardingLandings.{piped_landed, forwarding_landed}
use Rattle.hmc_laws.proofs.ForwardingUnlocks.{piped_unlocked, forwarding_unlocked}
use Rattle.hmc_laws.proofs.PipeSteps.{Brings, came_is, under_through}
use Rattle.hmc_laws.proofs.NoSends.{IsSome, through-here}
use Rattle.hmc_laws.proofs.OpenParts.{through_free}
use Rattle.hmc_journal.proofs.Joins.{other_inside, start_is_end}
use Rattle.hmc_send.proofs.LinkProjections.{sender-through}
use Rattle.hmc_packet.specs.Parts.{lng_of}
use Rattle.hmc_codes.specs.declared.place.Place.TheVariants as ends
use Rattle.hmc_send.specs.Entries as begun
use Rattle.hmc_laws.proofs.SoundTakes.{gathers_is, through_of}
use Rattle.hmc_laws.proofs.SoundAtOnce.{landed_flit, lands_good}
use Rattle.hmc_laws.proofs.SoundLinks.{link-more}

-- ---- nothing is sent where no direction is

pub past_links : (links : List LinkRow) (place : ℕ) → length links ≤ place →
    slice_index_or links place no_link ≡ no_link
past_links [] place far = refl
past_links (link ∷ links) zero far = absurd (omega arith)
past_links (link ∷ links) (suc place) far = past_links links place (omega arith)

pub far_sizes : (topology : Topology) (d : ℕ) → directions_in topology ≤ d → sizes_on topology d
    ≡ no_link.setup
far_sizes topology d far =
    ap (λ (l : LinkRow). l.setup) (past_links topology.links (d / 2) (omega arith))

pub sent-real : (setup : Setup) (past : List Entry) (d : ℕ) (as_what : What) (flit : List ℕ) →
    HasSent setup past d as_what flit → d < directions_in setup.topology
sent-real setup past d as_what flit has = by_far (nat_le (directions_in setup.topology) d) refl
  where
    by_far : (far : Bool) → nat_le (directions_in setup.topology) d ≡ far →
        d < directions_in setup.topology
    by_far false is = leb-false (directions_in setup.topology) d is
    by_far true is =
        let more : length (line (sizes_on setup.topology d).profile (toward d)
        (entries_on setup.topology d past)) < (sizes_on setup.topology d).line =
        leb-false _ _ has.has_room in
        let none : (sizes_on setup.topology d).line ≡ 0 =
        ap (λ (l : LinkFields). l.line) (far_sizes setup.topology d
        (leb-true (directions_in setup.topology) d is)) in
        absurd (omega arith)

pub none-more : (setup : Setup) (entry : Entry) (past : List Entry) → EntryRule setup past entry →
    ((d : ℕ) → directions_in setup.topology ≤ d → sent_flits d past ≡ []) → (d : ℕ) →
    directions_in setup.topology ≤ d → sent_flits d (entry ∷ past) ≡ []
unfolding sent_flits
none-more setup (Sent direction as_what flit) past right none d big =
    let less = sent-real setup past direction as_what flit right in
    ap (λ (b : Bool). append_if b (flit ∷ []) (sent_flits d past))
    (ne_eqb direction d (λ e. omega arith)) ∙ none d big
none-more setup _ past right none d big = none d big

-- ---- what is forwarded

pub brings : (setup : Setup) (past : List Entry) (entry : Entry) → EntryRule setup past entry →
    Kept setup past → Brings setup.topology past entry
brings setup past (Landed d flit outcome) right kept =
    landed_flit setup past d flit outcome right kept
brings setup past (Through cube port d) right kept = through_of setup past cube port d right
brings setup past _ right kept = tt

some_came : (came : List (List ℕ)) (head : List ℕ) (rest : List (List ℕ)) → came ≡ head ∷ rest →
    IsSome came
some_came [] head rest is = absurd cc
some_came (x ∷ came) head rest is = tt

pub gathered-more : (setup : Setup) (entry : Entry) (past : List Entry) →
    EntryRule setup past entry → Kept setup past → AreGathered setup.topology (entry ∷ past)
gathered-more setup (Through cube port d) past right kept = (
  some_came (came_at setup.topology cube port past) right.flit right.rest
      (came_is setup.topology past cube port (through_of setup past cube port d right)),
  kept.gathered,
)
gathered-more setup _ past right kept = kept.gathered

-- where the direction that ends at a place comes from
arrives_at : (topology : Topology) (place : End) (from : ℕ) (found : Option ℕ) → Wired topology →
    direction_from topology place ≡ found → option_map other found ≡ Some from →
    (from < directions_in topology) × (end_of topology from ≡ place)
arrives_at topology place from None wires found is = absurd cc
arrives_at topology place from (Some e) wires found is =
    let same : other e ≡ from = cc in (
      subst (λ (n : ℕ). n < directions_in topology) same
          (other_inside e (length topology.links) (wires.inside place e found)),
      ap (end_of topology) (sym same) ∙ sym (start_is_end (joins_of topology) e)
          ∙ wires.starts place e found,
    )

forward_step : (setup : Setup) (past : List Entry) (cube port d : ℕ) → IsNetwork setup →
    Wired setup.topology → HasThrough setup past cube port d → Kept setup past →
    Forwards setup.topology past cube port d
forward_step setup past cube port d network wires has kept =
    let t = setup.topology in
    let sizes = sizes_on t d in
    let before = entries_on t d past in
    let at =
    arrives_at t (ends.Port cube port) has.from (direction_from t (ends.Port cube port)) wires
    refl has.arrives in
    let through = through_of setup past cube port d has in
    let here =
    through-here t d cube port has.flit has.rest past (came_is t past cube port through) in
    let now : IsKept sizes (LinkEntry.through (toward d) has.flit (lng_of has.flit) ∷ before) =
    subst (IsKept sizes) here (link-more setup (Through cube port d) past (d / 2) network wires
    has kept) in
    let free : unfinished (sender_entries sizes (toward d) before) ≡ None =
    through_free sizes (toward d) has.flit (lng_of has.flit) before now in record {
      from = has.from;
      inside = at.0;
      lands = at.1;
      flit = has.flit;
      rest = has.rest;
      came = gathers_is setup past cube port d has;
      head = has.head;
      is_head = has.is_head;
      onward = has.onward;
      is_onward = has.is_onward;
      starts = has.starts;
      arrives = has.arrives;
      alone = has.alone;
      empty = ap (λ (p : End). contents t past (buffer_at p)) at.1 ∙ has.empty;
      free =
          ap (with_place (place_at (begun.places sizes.profile
          (sender_entries sizes (toward d) before))
          (last_begun sizes.profile (sender_entries sizes (toward d) before)))) free;
      up =
          subst Waits (sym (ap (λ l. under_way sizes.profile (sender_entries sizes (toward d) l))
          here ∙ ap (under_way sizes.profile) (sender-through sizes (toward d) has.flit
          (lng_of has.flit) before) ∙ under_through sizes.profile has.flit (lng_of has.flit) _ _))
          tt;
    }

pub piped-more : (setup : Setup) (entry : Entry) (past : List Entry) → IsNetwork setup →
    Wired setup.topology → EntryRule setup past entry → Kept setup past →
    ArePiped setup.topology (entry ∷ past)
piped-more setup (Landed e flit outcome) past network wires right kept =
    piped_landed setup.topology past e flit outcome
    (lands_good setup past e flit outcome right kept
    (landed-real setup past e flit outcome right kept)) kept.piped
piped-more setup (Unlocked e) past network wires right kept =
    piped_unlocked setup.topology past e kept.piped
piped-more setup (Sent d as_what flit) past network wires right kept =
    piped_send setup.topology d as_what flit past
    (λ e. link-more setup (Sent d as_what flit) past (e / 2) network wires right kept) kept.piped
piped-more setup (Through cube port d) past network wires right kept =
    piped_through setup.topology past cube port d wires
    (forward_step setup past cube port d network wires right kept) kept.piped
piped-more setup (Gave host tag poisoned request) past network wires right kept =
    piped_quiet setup.topology (Gave host tag poisoned request) past tt tt kept.piped
piped-more setup (Shifted cube port goal) past network wires right kept =
    piped_quiet setup.topology (Shifted cube port goal) past tt tt kept.piped
piped-more setup (Dropped cube port) past network wires right kept =
    piped_quiet setup.topology (Dropped cube port) past tt tt kept.piped
piped-more setup (Spread cube vault bank) past network wires right kept =
    piped_quiet setup.topology (Spread cube vault bank) past tt tt kept.piped
piped-more setup (Executed unit host tag request answer) past network wires right kept =
    piped_quiet setup.topology (Executed unit host tag request answer) past tt tt kept.piped
piped-more setup (Lifted cube from port) past network wires right kept =
    piped_quiet setup.topology (Lifted cube from port) past tt tt kept.piped
piped-more setup (Took host tag answer) past network wires right kept =
    piped_quiet setup.topology (Took host tag answer) past tt tt kept.piped
piped-more setup (Discarded host) past network wires right kept =
    piped_quiet setup.topology (Discarded host) past tt tt kept.piped
piped-more setup (Retired slot) past network wires right kept =
    piped_quiet setup.topology (Retired slot) past tt tt kept.piped
piped-more setup (Passed direction flit) past network wires right kept =
    piped_quiet setup.topology (Passed direction flit) past tt tt kept.piped
piped-more setup (Idle step cause) past network wires right kept =
    piped_quiet setup.topology (Idle step cause) past tt tt kept.piped

pub forwarding-more : (setup : Setup) (entry : Entry) (past : List Entry) → IsNetwork setup →
    Wired setup.topology → EntryRule setup past entry → Kept setup past →
    AreForwarding setup.topology (entry ∷ past)
forwarding-more setup (Landed e flit outcome) past network wires right kept =
    forwarding_landed setup.topology past e flit outcome wires
    (landed-real setup past e flit outcome right kept) kept.forwarding
forwarding-more setup (Unlocked e) past network wires right kept =
    forwarding_unlocked setup.topology past e kept.forwarding
forwarding-more setup (Through cube port d) past network wires right kept =
    forwarding_through setup.topology past cube port d wires
    (forward_step setup past cube port d network wires right kept) kept.piped kept.forwarding
forwarding-more setup (Gave host tag poisoned request) past network wires right kept =
    forwarding_quiet setup.topology (Gave host tag poisoned request) past tt tt kept.forwarding
forwarding-more setup (Shifted cube port goal) past network wires right kept =
    forwarding_quiet setup.topology (Shifted cube port goal) past tt tt kept.forwarding
forwarding-more setup (Dropped cube port) past network wires right kept =
    forwarding_quiet setup.topology (Dropped cube port) past tt tt kept.forwarding
forwarding-more setup (Spread cube vault bank) past network wires right kept =
    forwarding_quiet setup.topology (Spread cube vault bank) past tt tt kept.forwarding
forwarding-more setup (Executed unit host tag request answer) past network wires right kept =
    forwarding_quiet setup.topology (Executed unit host tag request answer) past tt tt
    kept.forwarding
forwarding-more setup (Lifted cube from port) past network wires right kept =
    forwarding_quiet setup.topology (Lifted cube from port) past tt tt kept.forwarding
forwarding-more setup (Took host tag answer) past network wires right kept =
    forwarding_quiet setup.topology (Took host tag answer) past tt tt kept.forwarding
forwarding-more setup (Discarded host) past network wires right kept =
    forwarding_quiet setup.topology (Discarded host) past tt tt kept.forwarding
forwarding-more setup (Retired slot) past network wires right kept =
    forwarding_quiet setup.topology (Retired slot) past tt tt kept.forwarding
forwarding-more setup (Passed direction flit) past network wires right kept =
    forwarding_quiet setup.topology (Passed direction flit) past tt tt kept.forwarding
forwarding-more setup (Idle step cause) past network wires right kept =
    forwarding_quiet setup.topology (Idle step cause) past tt tt kept.forwarding
forwarding-more setup (Sent direction as_what flit) past network wires right kept =
    forwarding_quiet setup.topology (Sent direction as_what flit) past tt tt kept.forwarding
