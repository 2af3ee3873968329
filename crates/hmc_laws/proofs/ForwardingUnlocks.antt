-- Unlocks, after which a packet that was forwarded is gathered no more.
use Rattle.std.proofs.Common.{◌≡◌, ◌∙◌, ◌==◌, ◌&&◌, ℕ, Bool, true, false, if◌then◌else◌, Option, Some, None, List, ◌∷◌, refl, sym, ap, subst}
use Rattle.std.specs.Prelude.{is_none, option_map}
use Rattle.hmc_packet.specs.Landings.{ReceiverEntry, pending}
use Rattle.hmc_send.specs.Entries.{under_way}
use Rattle.hmc_send.specs.LinkEntries.{put_if}
use Rattle.hmc_journal.specs.Choice.{choose}
use Rattle.hmc_journal.specs.Directions.{receiver_of}
use Rattle.hmc_journal.specs.Piped.{PipeFrom, forwarded_onto, pipe_onto, with_unlock, while_gathering}
use Rattle.hmc_entries.specs.declared.entry.Entry.{Entry}
use Rattle.hmc_entries.specs.declared.entry.Entry.TheVariants.{Unlocked}
use Rattle.hmc_journal.specs.Links.{sizes_on}
use Rattle.hmc_journal.specs.Queues.{landing_buffer}
use Rattle.hmc_journal.specs.Setup.{Topology, end_of}
use Rattle.hmc_laws.proofs.Buffers.{entered-same}
use Rattle.hmc_laws.proofs.NoSends.{no-send}
use Rattle.hmc_laws.proofs.PipeSteps.{of_sends-up, pipe_unlocked}
use Rattle.hmc_laws.proofs.ForwardingPipes.{Waits, PipeKept, OnPipe, ArePiped, IsForwarding, AreForwarding, is_buffer, stays_empty}
use Rattle.hmc_laws.proofs.ForwardingLandings.{first_false, back_false, some_none, false_true, way_with}

pub forwarded_unlocked : (topology : Topology) (e direction : ℕ) (past : List Entry) →
    forwarded_onto topology e (Unlocked direction ∷ past)
    ≡ choose (direction == e) None (forwarded_onto topology e past)
unfolding forwarded_onto
forwarded_unlocked topology e direction past = refl

received_unlocked : (e direction : ℕ) (past : List Entry) →
    receiver_of e (Unlocked direction ∷ past)
    ≡ put_if (direction == e) ReceiverEntry.Unlock (receiver_of e past)
unfolding receiver_of
received_unlocked e direction past = refl

pipe_unlocks : (topology : Topology) (past : List Entry) (d e : ℕ) (p : PipeFrom) →
    PipeKept topology past d p → PipeKept topology (Unlocked e ∷ past) d
    (while_gathering e with_unlock p)
pipe_unlocks topology past d e p is = by_test ((p.from == e) && is_none p.pipe.good) refl
  where
    by_test : (now : Bool) → ((p.from == e) && is_none p.pipe.good) ≡ now →
        PipeKept topology (Unlocked e ∷ past) d
        (if now then record p { pipe = with_unlock p.pipe } else p)
    by_test true at = record {
      way = way_with topology p d (with_unlock p.pipe) refl is.way;
      some = is.some;
      profile = is.profile;
      gathering = λ none. absurd (some_none false none);
      good = λ good. absurd (false_true good);
    }
    by_test false at = record {
      way = is.way;
      some = is.some;
      profile = is.profile;
      gathering = λ none.
          (let g = is.gathering none in
          let off : (e == p.from) ≡ false =
          back_false p.from e (first_false (p.from == e) p.pipe.good at none) in record {
            forwarded = forwarded_unlocked topology p.from e past
                ∙ ap (λ (b : Bool). choose b None (forwarded_onto topology p.from past)) off
                ∙ g.forwarded;
            came =
                g.came ∙ sym (ap pending (received_unlocked p.from e past
                ∙ ap (λ (b : Bool). put_if b ReceiverEntry.Unlock (receiver_of p.from past)) off));
            up =
                subst Waits (sym (no-send (under_way (sizes_on topology d).profile)
                (of_sends-up topology d) topology d (Unlocked e) past tt)) g.up;
          });
      good = is.good;
    }

on_unlocked : (topology : Topology) (past : List Entry) (d e : ℕ) (pipe : Option PipeFrom) →
    OnPipe topology past d pipe → OnPipe topology (Unlocked e ∷ past) d
    (option_map (while_gathering e with_unlock) pipe)
on_unlocked topology past d e None is = tt
on_unlocked topology past d e (Some p) is = pipe_unlocks topology past d e p is

pub piped_unlocked : (topology : Topology) (past : List Entry) (e : ℕ) → ArePiped topology past →
    ArePiped topology (Unlocked e ∷ past)
piped_unlocked topology past e piped d =
    subst (OnPipe topology (Unlocked e ∷ past) d) (sym (pipe_unlocked topology d e past))
    (on_unlocked topology past d e (pipe_onto topology d past) (piped d))

pub forwarding_unlocked : (topology : Topology) (past : List Entry) (e0 : ℕ) →
    AreForwarding topology past → AreForwarding topology (Unlocked e0 ∷ past)
forwarding_unlocked topology past e0 forwarding e d less is =
    by_here (e0 == e) refl (sym (forwarded_unlocked topology e e0 past) ∙ is)
  where
    by_here : (here : Bool) → (e0 == e) ≡ here → choose here None (forwarded_onto topology e past)
        ≡ Some d → IsForwarding topology (Unlocked e0 ∷ past) e d
    by_here true on now = absurd cc
    by_here false off now =
        let old = forwarding e d less now in
        let from_off : (old.pipe.from == e0) ≡ false = ap (λ (n : ℕ). n == e0) old.from
        ∙ back_false e0 e off in record {
          pipe = old.pipe;
          is = pipe_unlocked topology d e0 past
              ∙ ap (option_map (while_gathering e0 with_unlock)) old.is
              ∙ ap (λ (b : Bool). Some (if b && is_none old.pipe.pipe.good then
              record old.pipe { pipe = with_unlock old.pipe.pipe } else old.pipe)) from_off;
          from = old.from;
          gathers = old.gathers;
          empty =
              stays_empty topology (Unlocked e0) past (landing_buffer topology e)
              (entered-same topology (landing_buffer topology e) (is_buffer (end_of topology e))
              (Unlocked e0) past tt) old.empty;
        }
