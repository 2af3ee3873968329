-- What the link's steps of a round leave of the queues: the cube's as they were, no longer output
-- queues, no shorter buffers.
use Rattle.std.proofs.Common.{◌≡◌, ◌≤◌, ◌+◌, ◌∙◌, ◌⊎◌, inl, inr, ℕ, suc, Bool, true, false, Option, Some, None, List, [], ◌∷◌, ◌++◌, length, refl, ap, arith, append-nil, length-append}
use Rattle.hmc_codes.specs.declared.place.Place.{Place}
use Rattle.hmc_codes.specs.declared.place.Place.TheVariants as places
use Rattle.hmc_packet.specs.Packet.{PacketFields}
use Rattle.hmc_packet.specs.declared.what.What.{What}
use Rattle.hmc_packet.specs.declared.what.What.TheVariants.{New}
use Rattle.hmc_packet.specs.declared.outcome.Outcome.{Outcome}
use Rattle.hmc_schedule.specs.declared.step.Step.{Step}
use Rattle.hmc_schedule.specs.declared.step.Step.TheVariants as steps
use Rattle.hmc_send.specs.declared.sent.Sent.{Sent as Sending}
use Rattle.hmc_send.specs.declared.sent.Sent.TheVariants.{Out, Starved}
use Rattle.hmc_send.specs.LinkLines.{StampedFlit}
use Rattle.hmc_entries.specs.declared.entry.Entry.{Entry}
use Rattle.hmc_entries.specs.declared.entry.Entry.TheVariants.{Sent, Landed, Idle}
use Rattle.hmc_journal.specs.Directions.{unsent, awaits_first}
use Rattle.hmc_entries.specs.Event.{is_passed}
use Rattle.hmc_journal.specs.Lawful.{Lawful}
use Rattle.hmc_journal.specs.Links.{entries_on, sizes_on}
use Rattle.hmc_journal.specs.LinkSteps.{sent_entry, landed_entry, landed_front}
use Rattle.hmc_journal.specs.Network.{IsNetwork}
use Rattle.hmc_journal.specs.Next.{next, choice}
use Rattle.hmc_journal.specs.Queues.{QueueId, same_queue, buffer_at, is_at, leaves, enters, contents}
use Rattle.hmc_journal.specs.Queues.QueueId.{Output, Port, Host, Vault, Bank, Registers, Answers}
use Rattle.hmc_journal.specs.Setup.{Setup, Topology, end_of}
use Rattle.hmc_journal.specs.StepView.{view_of}
use Rattle.hmc_laws.proofs.Contents.{pop, contents-more}
use Rattle.hmc_laws.proofs.Buffers.{IsBuffer, coming}
use Rattle.hmc_journal.proofs.EntryRule.{entry_rule, lawful_past}
use Rattle.hmc_journal.proofs.Moves.{begins_off, arrived_first, entering}
use Rattle.hmc_laws.proofs.Sound.{kept}
use Rattle.hmc_laws.proofs.SoundSends.{has_begun}

abbrev pub IsCubeRoom : QueueId → Type 0
IsCubeRoom (Vault cube vault) = Unit {0}
IsCubeRoom (Bank cube vault bank) = Unit {0}
IsCubeRoom (Registers cube) = Unit {0}
IsCubeRoom (Answers cube from) = Unit {0}
IsCubeRoom _ = ⊥

pub record LinkKept (setup : Setup) (past now : List Entry) : Type 0 where
  pub rooms : (queue : QueueId) → IsCubeRoom queue →
      contents setup.topology now queue ≡ contents setup.topology past queue
  pub outputs : (d : ℕ) →
      (length (contents setup.topology now (Output d)) ≤ length
      (contents setup.topology past (Output d)))
      × (length (contents setup.topology now (Output d)) ≡ length
      (contents setup.topology past (Output d)) →
      contents setup.topology now (Output d) ≡ contents setup.topology past (Output d))
  pub buffers : (queue : QueueId) → IsBuffer queue →
      (length (contents setup.topology past queue) ≤ length (contents setup.topology now queue))
      × (length (contents setup.topology now queue) ≡ length (contents setup.topology past queue) →
      contents setup.topology now queue ≡ contents setup.topology past queue)

pub link_kept_self : (setup : Setup) (past : List Entry) → LinkKept setup past past
link_kept_self setup past =
    record {
      rooms = λ q is. refl;
      outputs = λ d. (omega arith, λ e. refl);
      buffers = λ q is. (omega arith, λ e. refl);
    }

pub link_kept_on : (setup : Setup) (past then now : List Entry) → LinkKept setup past then →
    LinkKept setup then now → LinkKept setup past now
link_kept_on setup past then now a b = record {
  rooms = λ q is. b.rooms q is ∙ a.rooms q is;
  outputs = λ d.
      (let x = a.outputs d in
      let y = b.outputs d in (
        omega (arith, x.0, y.0),
        λ e. y.1 (omega (arith, x.0, y.0, e))
            ∙ x.1 (omega (arith, x.0, y.0, e)),
      ));
  buffers = λ q is.
      (let x = a.buffers q is in
      let y = b.buffers q is in (
        omega (arith, x.0, y.0),
        λ e. y.1 (omega (arith, x.0, y.0, e))
            ∙ x.1 (omega (arith, x.0, y.0, e)),
      ));
}

-- an entry
abbrev IsLinkEntry : Entry → Type 0
IsLinkEntry (Sent d what flit) = Unit {0}
IsLinkEntry (Landed d flit outcome) = Unit {0}
IsLinkEntry (Idle step cause) = Unit {0}
IsLinkEntry _ = ⊥

not_output : (queue : QueueId) → (IsCubeRoom queue ⊎ IsBuffer queue) → (d : ℕ) →
    same_queue (Output d) queue ≡ false
not_output (Output e) (inl is) d = absurd is
not_output (Output e) (inr is) d = absurd is
not_output (Port c p) is d = refl
not_output (Host h) is d = refl
not_output (Vault c v) is d = refl
not_output (Bank c v b) is d = refl
not_output (Registers c) is d = refl
not_output (Answers c f) is d = refl

sent_off : (past : List Entry) (d : ℕ) (what : What) (flit : List ℕ) (queue : QueueId) →
    same_queue (Output d) queue ≡ false → is_at (leaves past (Sent d what flit)) queue ≡ false
unfolding leaves
sent_off past d New flit queue off = begins_off (awaits_first d past) (unsent d past) d queue off
sent_off past d _ flit queue off = refl

stays_off : (past : List Entry) (entry : Entry) → IsLinkEntry entry → (queue : QueueId) →
    (IsCubeRoom queue ⊎ IsBuffer queue) → is_at (leaves past entry) queue ≡ false
unfolding leaves
stays_off past (Sent d what flit) is queue room =
    sent_off past d what flit queue (not_output queue room d)
stays_off past (Landed d flit outcome) is queue room = refl
stays_off past (Idle step cause) is queue room = refl
stays_off past _ is queue room = absurd is

no_buffer : (place : Place) (queue : QueueId) → (IsCubeRoom queue) →
    same_queue (buffer_at place) queue ≡ false
no_buffer place (Output d) is = absurd is
no_buffer place (Port c p) is = absurd is
no_buffer place (Host h) is = absurd is
no_buffer (places.Host h) (Vault c v) is = refl
no_buffer (places.Host h) (Bank c v b) is = refl
no_buffer (places.Host h) (Registers c) is = refl
no_buffer (places.Host h) (Answers c f) is = refl
no_buffer (places.Port c p) (Vault d v) is = refl
no_buffer (places.Port c p) (Bank d v b) is = refl
no_buffer (places.Port c p) (Registers d) is = refl
no_buffer (places.Port c p) (Answers d f) is = refl

no_buffer_out : (place : Place) (d : ℕ) → same_queue (buffer_at place) (Output d) ≡ false
no_buffer_out (places.Host h) d = refl
no_buffer_out (places.Port c p) d = refl

none_comes : (t : Topology) (past : List Entry) (entry : Entry) → IsLinkEntry entry →
    (queue : QueueId) → ((place : Place) → same_queue (buffer_at place) queue ≡ false) →
    entering t past entry queue ≡ []
unfolding entering enters
none_comes t past (Sent d what flit) is queue off = refl
none_comes t past (Landed d flit outcome) is queue off =
    arrived_first (buffer_at (end_of t d)) queue (coming t d flit outcome past) (off (end_of t d))
none_comes t past (Idle step cause) is queue off = refl
none_comes t past _ is queue off = absurd is

more_is : (setup : Setup) (entry : Entry) (past : List Entry) → IsNetwork setup →
    Lawful setup (entry ∷ past) → (queue : QueueId)
    → contents setup.topology (entry ∷ past) queue ≡ pop (is_at (leaves past entry) queue)
    (contents setup.topology past queue) ++ entering setup.topology past entry queue
more_is setup entry past network lawful queue =
    let right = entry_rule setup entry past lawful in
    let keeps = kept setup past network (lawful_past setup entry past lawful) in
    contents-more setup entry past queue right (has_begun setup past entry right keeps) keeps.within

pop_shorter : (b : Bool) (xs ys : List PacketFields) → ys ≡ pop b xs ++ [] → (length ys ≤ length xs)
    × (length ys ≡ length xs → ys ≡ xs)
pop_shorter false xs ys is =
    let e : ys ≡ xs = is ∙ append-nil xs in
    let l : length ys ≡ length xs =
    ap length e in (omega (arith, l), λ same. e)
pop_shorter true [] ys is = let l : length ys ≡ 0 = ap length is in (omega (arith, l), λ same. is)
pop_shorter true (x ∷ xs) ys is =
    let e : ys ≡ xs = is ∙ append-nil xs in
    let l : length ys ≡ length xs = ap length e in (
      omega (arith, l),
      λ same. absurd (let k : length ys ≡ suc (length xs) = same in
          omega (arith, l, k)),
    )

more_longer : (xs more ys : List PacketFields) → ys ≡ xs ++ more → (length xs ≤ length ys)
    × (length ys ≡ length xs → ys ≡ xs)
more_longer xs [] ys is =
    let e : ys ≡ xs = is ∙ append-nil xs in
    let l : length ys ≡ length xs =
    ap length e in (omega (arith, l), λ same. e)
more_longer xs (m ∷ more) ys is =
    let l : length ys ≡ length xs + suc (length more) =
    ap length is ∙ length-append xs (m ∷ more) in
    (omega (arith, l), λ same. absurd (omega (arith, l, same)))

link_entry_keeps : (setup : Setup) (entry : Entry) (past : List Entry) → IsNetwork setup →
    Lawful setup (entry ∷ past) → IsLinkEntry entry → LinkKept setup past (entry ∷ past)
link_entry_keeps setup entry past network lawful is =
    let t = setup.topology in
    let more = more_is setup entry past network lawful in record {
      rooms = λ queue room.
          more queue
          ∙ ap (λ (b : Bool). pop b (contents t past queue) ++ entering t past entry queue)
          (stays_off past entry is queue (inl room))
          ∙ ap (λ (ps : List PacketFields). contents t past queue ++ ps)
          (none_comes t past entry is queue (λ place. no_buffer place queue room))
          ∙ append-nil (contents t past queue);
      outputs = λ d.
          pop_shorter (is_at (leaves past entry) (Output d)) (contents t past (Output d))
          (contents t (entry ∷ past) (Output d))
          (more (Output d)
          ∙ ap (λ (ps : List PacketFields). pop (is_at (leaves past entry) (Output d))
          (contents t past (Output d)) ++ ps)
          (none_comes t past entry is (Output d) (λ place. no_buffer_out place d)));
      buffers = λ queue room.
          more_longer (contents t past queue) (entering t past entry queue)
          (contents t (entry ∷ past) queue)
          (more queue
          ∙ ap (λ (b : Bool). pop b (contents t past queue) ++ entering t past entry queue)
          (stays_off past entry is queue (inr room)));
    }

-- ---- the steps

abbrev SendsOrLands : Step → Type 0
SendsOrLands (steps.Send d) = Unit {0}
SendsOrLands (steps.Land d mask) = Unit {0}
SendsOrLands _ = ⊥

sent_is : (d : ℕ) (full : Bool) (sending : Sending) → IsLinkEntry (sent_entry d full sending)
sent_is d true sending = tt
sent_is d false Starved = tt
sent_is d false (Out flit as_what) = tt

landed_is : (d : ℕ) (passed : Bool) (flit : List ℕ) (outcome : Outcome) →
    is_passed (landed_entry d passed flit outcome) ≡ false →
    IsLinkEntry (landed_entry d passed flit outcome)
landed_is d true flit outcome unpassed = absurd (let clash : true ≡ false = unpassed in cc)
landed_is d false flit outcome unpassed = tt

front_is : (setup : Setup) (past : List Entry) (d : ℕ) (mask : List ℕ)
    (front : Option StampedFlit) →
    is_passed (landed_front (sizes_on setup.topology d) d (entries_on setup.topology d past) mask
    front) ≡ false →
    IsLinkEntry (landed_front (sizes_on setup.topology d) d (entries_on setup.topology d past) mask
    front)
front_is setup past d mask None unpassed = tt
front_is setup past d mask (Some front) unpassed = landed_is d _ _ _ unpassed

link_entry_is : (setup : Setup) (past : List Entry) (step : Step) → SendsOrLands step →
    is_passed (next setup past step) ≡ false → IsLinkEntry (next setup past step)
unfolding next choice view_of
link_entry_is setup past (steps.Send d) is unpassed = sent_is d _ _
link_entry_is setup past (steps.Land d mask) is unpassed = front_is setup past d mask _ unpassed
link_entry_is setup past _ is unpassed = absurd is

pub link_step_keeps : (setup : Setup) (past : List Entry) (step : Step) → IsNetwork setup →
    SendsOrLands step → Lawful setup (next setup past step ∷ past) →
    is_passed (next setup past step) ≡ false → LinkKept setup past (next setup past step ∷ past)
link_step_keeps setup past step network is lawful unpassed =
    link_entry_keeps setup (next setup past step) past network lawful
    (link_entry_is setup past step is unpassed)
