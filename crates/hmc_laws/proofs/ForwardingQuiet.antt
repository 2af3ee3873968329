-- Entries that leave every pipe, and sends.
use Rattle.std.proofs.Common.{◌≡◌, ◌∙◌, ◌/◌, ◌==◌, ℕ, Bool, true, false, Option, Some, None, List, ◌∷◌, refl, sym, ap, subst, eqb-true}
use Rattle.hmc_packet.specs.declared.what.What.{What}
use Rattle.hmc_packet.specs.Landings.{pending}
use Rattle.hmc_send.specs.Entries.{under_way, through_place}
use Rattle.hmc_send.specs.LinkEntries.{LinkEntry}
use Rattle.hmc_send.specs.LinkSenders.{sender_entries}
use Rattle.hmc_wire.specs.LinkLaws.{IsKept}
use Rattle.hmc_journal.specs.Directions.{receiver_of}
use Rattle.hmc_journal.specs.Piped.{PipeFrom, forwarded_onto, pipe_onto, fed}
use Rattle.hmc_entries.specs.declared.entry.Entry.{Entry}
use Rattle.hmc_entries.specs.declared.entry.Entry.TheVariants.{Sent, Landed, Through, Unlocked}
use Rattle.hmc_journal.specs.Links.{toward, sizes_on, entries_on}
use Rattle.hmc_journal.specs.Queues.{landing_buffer}
use Rattle.hmc_journal.specs.Setup.{Topology, end_of}
use Rattle.hmc_laws.proofs.OpenSends.{open_sent}
use Rattle.hmc_send.proofs.LinkProjections.{sender-sent}
use Rattle.hmc_laws.proofs.Buffers.{entered-same}
use Rattle.hmc_laws.proofs.NoSends.{IsNoSend, no-send, sent-elsewhere, sent-here}
use Rattle.hmc_journal.proofs.Projections.{feed_in, IsNoLanding}
use Rattle.hmc_laws.proofs.PipeSteps.{IsNoPipe, of_sends-up, pipe_same}
use Rattle.hmc_laws.proofs.Piping.{up_on}
use Rattle.hmc_laws.proofs.ForwardingPipes.{Waits, waits_sent, PipeKept, OnPipe, ArePiped, AreForwarding, is_buffer, stays_empty}

pub forwarded_same : (topology : Topology) (e : ℕ) (entry : Entry) (past : List Entry) →
    IsNoPipe entry → forwarded_onto topology e (entry ∷ past) ≡ forwarded_onto topology e past
unfolding forwarded_onto
forwarded_same topology e (Landed direction flit outcome) past quiet = absurd quiet
forwarded_same topology e (Unlocked direction) past quiet = absurd quiet
forwarded_same topology e (Through cube port direction) past quiet = absurd quiet
forwarded_same topology e _ past quiet = refl

received_same : (e : ℕ) (entry : Entry) (past : List Entry) → IsNoPipe entry →
    receiver_of e (entry ∷ past) ≡ receiver_of e past
unfolding receiver_of
received_same e (Landed direction flit outcome) past quiet = absurd quiet
received_same e (Unlocked direction) past quiet = absurd quiet
received_same e (Through cube port direction) past quiet = absurd quiet
received_same e _ past quiet = refl

-- a pipe that stays, where its packet under way still waits
kept_pipe : (topology : Topology) (entry : Entry) (past : List Entry) (d : ℕ) (p : PipeFrom) →
    forwarded_onto topology p.from (entry ∷ past) ≡ forwarded_onto topology p.from past →
    receiver_of p.from (entry ∷ past) ≡ receiver_of p.from past
    → (p.pipe.good ≡ None → Waits (up_on topology d past) →
    Waits (up_on topology d (entry ∷ past))) → PipeKept topology past d p →
    PipeKept topology (entry ∷ past) d p
kept_pipe topology entry past d p forwarded same waits is = record {
  way = is.way;
  some = is.some;
  profile = is.profile;
  gathering = λ none. (let g = is.gathering none in
      record {
        forwarded = forwarded ∙ g.forwarded;
        came = g.came ∙ ap pending (sym same);
        up =
            waits none g.up;
      });
  good = is.good;
}

on_quiet : (topology : Topology) (entry : Entry) (past : List Entry) (d : ℕ)
    (pipe : Option PipeFrom) → IsNoPipe entry →
    ((p : PipeFrom) → pipe ≡ Some p → p.pipe.good ≡ None → Waits (up_on topology d past) →
    Waits (up_on topology d (entry ∷ past)))
    → OnPipe topology past d pipe → OnPipe topology (entry ∷ past) d pipe
on_quiet topology entry past d None quiet waits is = tt
on_quiet topology entry past d (Some p) quiet waits is =
    kept_pipe topology entry past d p (forwarded_same topology p.from entry past quiet)
    (received_same p.from entry past quiet) (waits p refl) is

pub piped_quiet : (topology : Topology) (entry : Entry) (past : List Entry) → IsNoSend entry →
    IsNoPipe entry → ArePiped topology past → ArePiped topology (entry ∷ past)
piped_quiet topology entry past send quiet piped d =
    subst (OnPipe topology (entry ∷ past) d) (sym (pipe_same topology d entry past quiet))
    (on_quiet topology entry past d (pipe_onto topology d past) quiet
    (λ p is none waits. subst Waits (sym
    (no-send (under_way (sizes_on topology d).profile) (of_sends-up topology d) topology d entry
    past send)) waits) (piped d))

pub piped_send : (topology : Topology) (direction : ℕ) (as_what : What) (flit : List ℕ)
    (past : List Entry) → ((d : ℕ) → IsKept (sizes_on topology d)
    (entries_on topology d (Sent direction as_what flit ∷ past))) → ArePiped topology past →
    ArePiped topology (Sent direction as_what flit ∷ past)
piped_send topology direction as_what flit past kept piped d =
    subst (OnPipe topology (Sent direction as_what flit ∷ past) d)
    (sym (pipe_same topology d (Sent direction as_what flit) past tt))
    (on_quiet topology (Sent direction as_what flit) past d (pipe_onto topology d past) tt
    (λ p is none. by_here (direction == d) refl p is none) (piped d))
  where
    up_here : (p : PipeFrom) → pipe_onto topology d past ≡ Some p → p.pipe.good ≡ None →
        IsKept (sizes_on topology d) (entries_on topology d (Sent d as_what flit ∷ past)) →
        Waits (up_on topology d past) → Waits (up_on topology d (Sent d as_what flit ∷ past))
    up_here p is none now waits =
        let sizes = sizes_on topology d in
        let before = entries_on topology d past in
        let feed = feed_in topology (d / 2) d past (toward d) in
        let at = sent-here topology d as_what flit past in
        let kept_now : IsKept sizes (LinkEntry.sent (toward d) feed as_what flit ∷ before) =
        subst (IsKept sizes) at now in
        let up = ap (λ l. under_way sizes.profile (sender_entries sizes (toward d) l)) at
        ∙ ap (under_way sizes.profile) (sender-sent sizes (toward d) feed as_what flit
        before) in
        subst Waits (sym up)
        (waits_sent sizes (toward d) feed as_what flit before p none
        (ap (fed (through_place (up_on topology d past))) is)
        (open_sent sizes (toward d) feed as_what flit before kept_now) waits)

    by_here : (here : Bool) → (direction == d) ≡ here → (p : PipeFrom) → pipe_onto topology d past
        ≡ Some p → p.pipe.good ≡ None → Waits (up_on topology d past) →
        Waits (up_on topology d (Sent direction as_what flit ∷ past))
    by_here false off p is none waits =
        subst Waits (sym (sent-elsewhere (under_way (sizes_on topology d).profile) topology d
        direction as_what flit past off)) waits
    by_here true on p is none waits =
        let one : direction ≡ d = eqb-true direction d on in
        subst (λ (e : ℕ). Waits (up_on topology d (Sent e as_what flit ∷ past))) (sym one)
        (up_here p is none (subst (λ (e : ℕ). IsKept (sizes_on topology d)
        (entries_on topology d (Sent e as_what flit ∷ past))) one (kept d)) waits)

-- of a packet that is forwarded, where nothing lands and no buffer gets anything
pub forwarding_quiet : (topology : Topology) (entry : Entry) (past : List Entry) → IsNoPipe entry →
    IsNoLanding entry → AreForwarding topology past → AreForwarding topology (entry ∷ past)
forwarding_quiet topology entry past quiet landing forwarding e d less is =
    let old = forwarding e d less (sym (forwarded_same topology e entry past quiet) ∙ is) in
    record {
      pipe = old.pipe;
      is = pipe_same topology d entry past quiet ∙ old.is;
      from = old.from;
      gathers = old.gathers;
      empty =
          stays_empty topology entry past (landing_buffer topology e)
          (entered-same topology (landing_buffer topology e) (is_buffer (end_of topology e)) entry
          past landing) old.empty;
    }
