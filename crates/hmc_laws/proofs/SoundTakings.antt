-- The buffer of a direction holds what landed and was not taken: entries that take from it.
use Rattle.std.proofs.Common.{◌&&◌, ◌≡◌, ◌≤◌, ◌<◌, ◌+◌, ◌/◌, ◌==◌, ◌∙◌, ℕ, zero, suc, Bool, true, false, Option, Some, List, [], ◌∷◌, drop, length, refl, sym, ap, ap₂, subst, arith, zero-add, eqb-true, eq-eqb}
use Rattle.std.specs.Prelude.{filter}
use Rattle.hmc_packet.specs.Packet.{PacketFields}
use Rattle.hmc_entries.specs.declared.entry.Entry.{Entry}
use Rattle.hmc_entries.specs.declared.entry.Entry.TheVariants.{Gave, Sent, Landed, Shifted, Dropped, Spread, Executed, Lifted, Took, Discarded, Through, Unlocked, Retired, Passed, Idle}
use Rattle.hmc_journal.specs.Setup.{Setup, Topology, directions_in, end_of, direction_from}
use Rattle.hmc_packet.specs.Transactions.{request_packet}
use Rattle.hmc_send.specs.declared.toward.Toward.{Toward}
use Rattle.hmc_send.specs.LinkEntries.{LinkEntry, put_if, same_way, count_if, takes}
use Rattle.hmc_send.specs.Places.{is_token}
use Rattle.hmc_journal.specs.Directions.{accepted}
use Rattle.hmc_journal.specs.Links.{toward, put_on, taken_at, direction_to, link_entries, entries_on}
use Rattle.hmc_journal.specs.Queues.{QueueId, buffer_at, one_if, leaves, left, entered, contents, tag_number, front_of, landing_buffer, same_queue, is_at}
use Rattle.hmc_journal.specs.Queues.QueueId.{Answers}
use Rattle.hmc_journal.proofs.Projections.{same_direction, put_on-same, came_at, feed_in, forwarded_on-same, IsNoLanding}
use Rattle.hmc_codes.specs.declared.place.Place.{Place as End}
use Rattle.hmc_laws.proofs.Buffers.{IsNoTaking, entered-same, accepted-same, left-same}
use Rattle.hmc_journal.proofs.EntryRule.{HasFront}
use Rattle.hmc_journal.proofs.Moves.{same_queue_refl}
use Rattle.hmc_laws.proofs.Standing.{IsAtEnd}
use Rattle.hmc_laws.proofs.Entering.{Kept, EndKept}
use Rattle.hmc_laws.proofs.Wired.{Wired, ends_there, one_buffer}
use Rattle.hmc_laws.proofs.ForwardingPipes.{is_buffer}
use Rattle.hmc_codes.specs.declared.place.Place.TheVariants as ends
use Rattle.hmc_laws.proofs.SoundTakes.{more_than}

drop_next : (n : ℕ) (l : List PacketFields) → drop (suc n) l ≡ drop 1 (drop n l)
drop_next zero l = refl
drop_next (suc n) [] = refl
drop_next (suc n) (x ∷ l) = drop_next n l

-- one more leaves both lists, or neither
drop_both : (more : Bool) (n m : ℕ) (k l : List PacketFields) → drop n k ≡ drop m l →
    drop (one_if more + n) k ≡ drop (count_if more m) l
drop_both true n m k l is = (let e : 1 + n ≡ suc n = omega arith in ap (λ (i : ℕ). drop i k) e)
    ∙ drop_next n k ∙ ap (drop 1) is ∙ sym (drop_next m l)
drop_both false n m k l is = ap (λ (i : ℕ). drop i k) (zero-add n) ∙ is

count_inside : (more : Bool) (m n : ℕ) → m ≤ n → (more ≡ true → m < n) → count_if more m ≤ n
count_inside true m n within some = let less = some refl in omega arith
count_inside false m n within some = within

-- two buffers are one where the directions are
pub same_buffer : (topology : Topology) (d e : ℕ) (same : Bool) → Wired topology →
    d < directions_in topology → e < directions_in topology → (e == d) ≡ same →
    same_queue (landing_buffer topology e) (landing_buffer topology d) ≡ same
same_buffer topology d e true wires d_less e_less is =
    ap (λ (n : ℕ). same_queue (landing_buffer topology n) (landing_buffer topology d))
    (eqb-true e d is) ∙ same_queue_refl (landing_buffer topology d)
same_buffer topology d e false wires d_less e_less is =
    two (same_queue (landing_buffer topology e) (landing_buffer topology d)) refl
  where
    two : (b : Bool) → same_queue (landing_buffer topology e) (landing_buffer topology d) ≡ b → b
        ≡ false
    two false at = refl
    two true at = let clash : true ≡ false =
        sym (eq-eqb e d (one_buffer topology wires e d e_less d_less at)) ∙ is in absurd (cc)

-- a packet that came by a direction is taken from the buffer at its end
pub takes_put : (here way : Bool) (d : Toward) (entry : LinkEntry) (past : List LinkEntry) →
    takes d (entry ∷ past) ≡ count_if way (takes d past) → takes d (put_if here entry past)
    ≡ count_if (here && way) (takes d past)
takes_put true way d entry past is = is
takes_put false way d entry past is = refl

takes_at : (topology : Topology) (d e : ℕ) (place : End) (past : List LinkEntry) →
    direction_to topology place ≡ Some e → takes (toward d) (taken_at topology (d / 2) place past)
    ≡ count_if (e == d) (takes (toward d) past)
unfolding takes
takes_at topology d e place past at =
    ap (λ (o : Option ℕ). takes (toward d) (put_on (d / 2) o LinkEntry.taken past)) at
    ∙ takes_put (e / 2 == d / 2) (same_way (toward d) (toward e)) (toward d)
    (LinkEntry.taken (toward e)) past refl
    ∙ ap (λ (b : Bool). count_if b (takes (toward d) past)) (sym (same_direction d e))

takes_same : (topology : Topology) (d : ℕ) (entry : Entry) (past : List Entry) → IsNoLanding entry →
    IsNoTaking entry → takes (toward d) (entries_on topology d (entry ∷ past))
    ≡ takes (toward d) (entries_on topology d past)
unfolding link_entries takes
takes_same topology d (Gave host tag poisoned request) past landing quiet =
    put_on-same (takes (toward d)) (d / 2) (direction_from topology (ends.Host host))
    (λ way. LinkEntry.handed way (request_packet request (tag_number tag) host poisoned))
    (entries_on topology d past) (λ e. refl)
takes_same topology d (Lifted cube from port) past landing quiet =
    put_on-same (takes (toward d)) (d / 2) (direction_from topology (ends.Port cube port))
    (λ way. LinkEntry.handed way (front_of (contents topology past (Answers cube from))))
    (entries_on topology d past) (λ e. refl)
takes_same topology d (Sent direction as_what flit) past landing quiet =
    put_on-same (takes (toward d)) (d / 2) (Some direction)
    (λ way. LinkEntry.sent way (feed_in topology (d / 2) direction past way) as_what flit)
    (entries_on topology d past) (λ e. refl)
takes_same topology d (Landed direction flit outcome) past landing quiet = absurd landing
takes_same topology d (Unlocked direction) past landing quiet =
    put_on-same (takes (toward d)) (d / 2) (Some direction) LinkEntry.unlocked
    (entries_on topology d past) (λ e. refl)
takes_same topology d (Through cube port direction) past landing quiet =
    forwarded_on-same (takes (toward d)) (d / 2) direction (came_at topology cube port past)
    (entries_on topology d past) (λ e head flits. refl)
takes_same topology d (Shifted cube port goal) past landing quiet = absurd quiet
takes_same topology d (Dropped cube port) past landing quiet = absurd quiet
takes_same topology d (Took host tag answer) past landing quiet = absurd quiet
takes_same topology d (Discarded host) past landing quiet = absurd quiet
takes_same topology d (Spread cube vault bank) past landing quiet = refl
takes_same topology d (Executed unit host tag request answer) past landing quiet = refl
takes_same topology d (Passed direction flit) past landing quiet = refl
takes_same topology d (Retired slot) past landing quiet = refl
takes_same topology d (Idle step cause) past landing quiet = refl

contents_by : (topology : Topology) (entry : Entry) (past : List Entry) (queue : QueueId) →
    entered topology (entry ∷ past) queue ≡ entered topology past queue →
    contents topology (entry ∷ past) queue
    ≡ drop (one_if (is_at (leaves past entry) queue) + left past queue)
    (entered topology past queue)
unfolding contents left
contents_by topology entry past queue same =
    ap (drop (one_if (is_at (leaves past entry) queue) + left past queue)) same

contents_is : (topology : Topology) (past : List Entry) (queue : QueueId) →
    contents topology past queue ≡ drop (left past queue) (entered topology past queue)
unfolding contents
contents_is topology past queue = refl

pub contents_same : (topology : Topology) (entry : Entry) (past : List Entry) (queue : QueueId) →
    entered topology (entry ∷ past) queue ≡ entered topology past queue → left (entry ∷ past) queue
    ≡ left past queue → contents topology (entry ∷ past) queue ≡ contents topology past queue
unfolding contents
contents_same topology entry past queue same stays =
    ap₂ (λ (n : ℕ) (l : List PacketFields). drop n l) stays same

-- nothing lands, and nothing is taken
pub ends_quiet : (setup : Setup) (entry : Entry) (past : List Entry) (d : ℕ) →
    d < directions_in setup.topology → IsNoLanding entry → IsNoTaking entry → Kept setup past →
    EndKept setup.topology (entry ∷ past) d
ends_quiet setup entry past d less landing quiet kept =
    let t = setup.topology in
    let k = kept.ends d less in
    let room = landing_buffer t d in
    let entered_now = entered-same t room (is_buffer (end_of t d)) entry past landing in
    let tokens = ap (filter is_token) (accepted-same t d entry past landing) in
    let took = takes_same t d entry past landing quiet in record {
      buffer =
          contents_same t entry past room entered_now
          (left-same room (is_buffer (end_of t d)) entry past quiet) ∙ k.buffer
          ∙ sym (ap₂ (λ (n : ℕ) (l : List PacketFields). drop n l) took tokens);
      inside = (let inside = k.inside in let many = ap length tokens in omega arith);
      host = λ host ends. entered_now ∙ k.host host ends ∙ sym tokens;
    }

-- a packet that came by a direction is taken from the buffer at its end
pub taken-from : (setup : Setup) (entry : Entry) (past : List Entry) (place : End)
    (packet : PacketFields) (d : ℕ) → d < directions_in setup.topology → Wired setup.topology →
    IsNoLanding entry → leaves past entry ≡ Some (buffer_at place)
    → ((i : ℕ) → takes (toward d) (link_entries setup.topology (d / 2) (entry ∷ past))
    ≡ takes (toward d) (taken_at setup.topology (d / 2) place
    (entries_on setup.topology d past))) → Kept setup past →
    HasFront setup past (buffer_at place) → IsAtEnd setup.topology place packet
    → EndKept setup.topology (entry ∷ past) d
taken-from setup entry past place packet d less wires landing goes taking kept at came =
    let t = setup.topology in
    let e = came.direction in
    let k = kept.ends d less in
    let room = landing_buffer t d in
    let entered_now = entered-same t room (is_buffer (end_of t d)) entry past landing in
    let tokens = ap (filter is_token) (accepted-same t d entry past landing) in
    let here : is_at (leaves past entry) room ≡ (e == d) =
    ap (λ (q : Option QueueId). is_at q room) goes
    ∙ ap (λ (p : End). same_queue (buffer_at p) room) (sym came.ends)
    ∙ same_buffer t d e (e == d) wires less came.inside refl in
    let took : takes (toward d) (entries_on t d (entry ∷ past))
    ≡ count_if (e == d) (takes (toward d) (entries_on t d past)) =
    taking 0 ∙ takes_at t d e place (entries_on t d past)
    (ap (direction_to t) (sym came.ends) ∙ ends_there t wires e came.inside) in record {
      buffer = contents_by t entry past room entered_now
          ∙ ap (λ (b : Bool). drop (one_if b + left past room) (entered t past room)) here
          ∙ drop_both (e == d) (left past room) (takes (toward d) (entries_on t d past))
          (entered t past room) (filter is_token (accepted t d past))
          (sym (contents_is t past room) ∙ k.buffer)
          ∙ sym (ap₂ (λ (n : ℕ) (l : List PacketFields). drop n l) took tokens);
      inside =
          (let many = ap length tokens in
          let bound =
          count_inside (e == d) (takes (toward d) (entries_on t d past))
          (length (filter is_token (accepted t d past))) k.inside
          (λ one. front_within (eqb-true e d one)) in omega arith);
      host = λ host ends. entered_now ∙ k.host host ends ∙ sym tokens;
    }
  where
    front_within : came.direction ≡ d → takes (toward d) (entries_on setup.topology d past) < length
        (filter is_token (accepted setup.topology d past))
    front_within one =
        let front : HasFront setup past (landing_buffer setup.topology d) =
        subst (λ (p : End). HasFront setup past (buffer_at p))
        (sym (ap (end_of setup.topology) (sym one) ∙ came.ends)) at in
        more_than (takes (toward d) (entries_on setup.topology d past))
        (filter is_token (accepted setup.topology d past)) front.front front.rest
        (sym (kept.ends d less).buffer ∙ front.is)
