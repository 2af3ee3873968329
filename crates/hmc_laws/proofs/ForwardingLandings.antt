-- Landings of packets that are forwarded.
use Rattle.std.proofs.Common.{◌≡◌, ◌<◌, ◌+◌, ◌∙◌, ◌==◌, ◌&&◌, ℕ, Bool, true, false, if◌then◌else◌, Option, Some, None, List, [], ◌∷◌, ◌++◌, length, refl, sym, ap, ap₂, subst, arith, eqb-true, eq-eqb, ne_eqb, append-nil, length-append}
use Rattle.std.specs.Prelude.{is_none, option_map, slice_index_or}
use Rattle.std.proofs.lemmas.Bool.{false_from_ne_true, and_parts}
use Rattle.hmc_codes.specs.Flit.{zero_flit}
use Rattle.hmc_codes.specs.declared.profile.Profile.{Profile}
use Rattle.hmc_packet.specs.declared.outcome.Outcome.{Outcome}
use Rattle.hmc_packet.specs.Head.{head_in}
use Rattle.hmc_packet.specs.Landings.{ReceiverEntry, pending}
use Rattle.hmc_packet.specs.Packet.{PacketFields}
use Rattle.hmc_packet.specs.Spelling.{FitsProfile, spelling}
use Rattle.hmc_through.specs.Pipe.{PipeFields, flit_at}
use Rattle.hmc_send.specs.Entries.{under_way}
use Rattle.hmc_send.specs.LinkEntries.{put_if}
use Rattle.hmc_journal.specs.Choice.{choose}
use Rattle.hmc_journal.specs.Directions.{profile_of, receiver_of, landed_packets}
use Rattle.hmc_journal.specs.Piped.{PipeFrom, while_gathered, forwarded_onto, pipe_onto, with_landing, while_gathering}
use Rattle.hmc_entries.specs.declared.entry.Entry.{Entry}
use Rattle.hmc_entries.specs.declared.entry.Entry.TheVariants.{Landed}
use Rattle.hmc_journal.specs.Links.{sizes_on}
use Rattle.hmc_journal.specs.Queues.{same_queue, entered, landing_buffer, contents}
use Rattle.hmc_journal.specs.Setup.{Topology, directions_in}
use Rattle.hmc_laws.proofs.Buffers.{landed-enters, landed-off}
use Rattle.hmc_journal.proofs.Moves.{same_queue_refl}
use Rattle.hmc_laws.proofs.Wired.{Wired, one_buffer}
use Rattle.hmc_laws.proofs.NoSends.{no-send}
use Rattle.hmc_laws.proofs.PipeSteps.{of_sends-up, pipe_landed}
use Rattle.hmc_laws.proofs.Piping.{came-push, none_is}
use Rattle.hmc_laws.proofs.Standing.{IsMoving}
use Rattle.hmc_packet.specs.declared.outcome.Outcome.TheVariants as outcomes
use Rattle.hmc_laws.proofs.ForwardingPipes.{Waits, Way, IsGathering, IsGood, PipeKept, OnPipe, ArePiped, IsForwarding, AreForwarding, stays_empty}

-- a landing that is accepted while its packet is forwarded: the flits are those of a packet that is
-- on its way
pub record GoodLanding (topology : Topology) (past : List Entry) (e : ℕ) (flit : List ℕ) : Type 0
  where
    pub packet : PacketFields
    pub moving : IsMoving topology packet
    pub clean : packet.poisoned ≡ false
    pub rrp : ℕ
    pub fits : FitsProfile (profile_of topology e) packet rrp
    pub spelled : pending (receiver_of e past) ++ flit ∷ []
        ≡ spelling (profile_of topology e) packet rrp

abbrev pub LandsGood : Topology → List Entry → (e : ℕ) → (flit : List ℕ) → Outcome → Type 0
LandsGood topology past e flit outcome = (d : ℕ) → outcome ≡ outcomes.Accepted →
    forwarded_onto topology e past ≡ Some d → GoodLanding topology past e flit

pub forwarded_landed : (topology : Topology) (e direction : ℕ) (flit : List ℕ) (outcome : Outcome)
    (past : List Entry) → forwarded_onto topology e (Landed direction flit outcome ∷ past)
    ≡ choose (direction == e) (while_gathered outcome (forwarded_onto topology e past))
    (forwarded_onto topology e past)
unfolding forwarded_onto
forwarded_landed topology e direction flit outcome past = refl

received_landed : (e direction : ℕ) (flit : List ℕ) (outcome : Outcome) (past : List Entry) →
    receiver_of e (Landed direction flit outcome ∷ past)
    ≡ put_if (direction == e) (ReceiverEntry.Land flit outcome) (receiver_of e past)
unfolding receiver_of
received_landed e direction flit outcome past = refl

pub first_false : (a : Bool) (good : Option Bool) → (a && is_none good) ≡ false → good ≡ None → a
    ≡ false
first_false false good is none = refl
first_false true None is none = absurd cc
first_false true (Some g) is none = absurd (let clash : Some g ≡ None = none in cc)

pub back_false : (a b : ℕ) → (a == b) ≡ false → (b == a) ≡ false
back_false a b off =
    ne_eqb b a (λ same. let clash : true ≡ false = sym (eq-eqb a b (sym same)) ∙ off in cc)

gathered_more : (past : List ReceiverEntry) (flit : List ℕ) →
    pending (ReceiverEntry.Land flit outcomes.Gathered ∷ past) ≡ pending past ++ flit ∷ []
unfolding pending
gathered_more past flit = refl

-- what its pipe is after a landing that its packet had
record IsOutcome (topology : Topology) (past : List Entry) (d e : ℕ) (flit : List ℕ)
    (outcome : Outcome) (p : PipeFrom) : Type 0 where
  gathering : (with_landing flit outcome p.pipe).good ≡ None →
      IsGathering topology (Landed e flit outcome ∷ past) d
      (record p { pipe = with_landing flit outcome p.pipe })
  good : (with_landing flit outcome p.pipe).good ≡ Some true →
      IsGood topology (record p { pipe = with_landing flit outcome p.pipe })
  came : (with_landing flit outcome p.pipe).came ≡ p.pipe.came ++ flit ∷ []
  profile : (with_landing flit outcome p.pipe).profile ≡ p.pipe.profile

pub some_none : (g : Bool) → ◌≡◌ {A = Option Bool} (Some g) None → ⊥
some_none g is = cc

pub false_true : ◌≡◌ {A = Option Bool} (Some false) (Some true) → ⊥
false_true is = cc

spoiled_outcome : (topology : Topology) (past : List Entry) (d e : ℕ) (flit : List ℕ)
    (outcome : Outcome) (p : PipeFrom) → (with_landing flit outcome p.pipe).good ≡ Some false →
    (with_landing flit outcome p.pipe).came ≡ p.pipe.came ++ flit ∷ [] →
    (with_landing flit outcome p.pipe).profile ≡ p.pipe.profile
    → IsOutcome topology past d e flit outcome p
spoiled_outcome topology past d e flit outcome p ended came profile = record {
  gathering = λ none. absurd (some_none false (sym ended ∙ none));
  good = λ good. absurd (false_true (sym ended ∙ good));
  came = came;
  profile = profile;
}

outcome_is : (topology : Topology) (past : List Entry) (d e : ℕ) (flit : List ℕ) (outcome : Outcome)
    (p : PipeFrom) → p.from ≡ e → p.pipe.good ≡ None → LandsGood topology past e flit outcome →
    PipeKept topology past d p → IsOutcome topology past d e flit outcome p
outcome_is topology past d e flit outcomes.Gathered p from none lands is =
    let g = is.gathering none in
    let here : (e == p.from) ≡ true = eq-eqb e p.from (sym from) in record {
      gathering = λ still. record {
        forwarded = forwarded_landed topology p.from e flit outcomes.Gathered past
            ∙ ap (λ (b : Bool). choose b (forwarded_onto topology p.from past)
            (forwarded_onto topology p.from past)) here ∙ g.forwarded;
        came = ap (λ l. l ++ flit ∷ []) g.came ∙ sym (gathered_more (receiver_of p.from past) flit)
            ∙ sym (ap pending (received_landed p.from e flit outcomes.Gathered past
            ∙ ap (λ (b : Bool). put_if b (ReceiverEntry.Land flit outcomes.Gathered)
            (receiver_of p.from past)) here));
        up =
            subst Waits (sym (no-send (under_way (sizes_on topology d).profile)
            (of_sends-up topology d) topology d (Landed e flit outcomes.Gathered) past tt)) g.up;
      };
      good = λ good. absurd (some_none true (sym good ∙ none));
      came = refl;
      profile = refl;
    }
outcome_is topology past d e flit outcomes.Accepted p from none lands is =
    let g = is.gathering none in
    let good =
    lands d refl (ap (λ (n : ℕ). forwarded_onto topology n past) (sym from) ∙ g.forwarded) in
    record {
      gathering = λ still. absurd (some_none true still);
      good = λ accepted. record {
        packet = good.packet;
        moving = good.moving;
        clean = good.clean;
        rrp = good.rrp;
        fits =
            subst (λ (q : Profile). FitsProfile q good.packet good.rrp)
            (sym (is.profile ∙ ap (profile_of topology) from)) good.fits;
        spelled =
            ap (λ l. l ++ flit ∷ []) (g.came ∙ ap (λ (n : ℕ). pending (receiver_of n past)) from)
            ∙ good.spelled
            ∙ ap (λ (q : Profile). spelling q good.packet good.rrp)
            (sym (is.profile ∙ ap (profile_of topology) from));
      };
      came = refl;
      profile = refl;
    }
outcome_is topology past d e flit outcomes.Quiet p from none lands is =
    spoiled_outcome topology past d e flit outcomes.Quiet p refl refl refl
outcome_is topology past d e flit outcomes.Trained p from none lands is =
    spoiled_outcome topology past d e flit outcomes.Trained p refl refl refl
outcome_is topology past d e flit outcomes.Poisoned p from none lands is =
    spoiled_outcome topology past d e flit outcomes.Poisoned p refl refl refl
outcome_is topology past d e flit outcomes.Repeat p from none lands is =
    spoiled_outcome topology past d e flit outcomes.Repeat p refl refl refl
outcome_is topology past d e flit (outcomes.AbortedBad bad) p from none lands is =
    spoiled_outcome topology past d e flit (outcomes.AbortedBad bad) p refl refl refl
outcome_is topology past d e flit outcomes.AbortedOrder p from none lands is =
    spoiled_outcome topology past d e flit outcomes.AbortedOrder p refl refl refl
outcome_is topology past d e flit (outcomes.Ran kind) p from none lands is =
    spoiled_outcome topology past d e flit (outcomes.Ran kind) p refl refl refl

-- the way of a pipe whose first flit stays
pub way_with : (topology : Topology) (p : PipeFrom) (d : ℕ) (pipe : PipeFields) → flit_at pipe 0
    ≡ flit_at p.pipe 0 → Way topology p d → Way topology (record p { pipe = pipe }) d
way_with topology p d pipe same way = record {
  cube = way.cube;
  port = way.port;
  onward = way.onward;
  head = way.head;
  inside = way.inside;
  lands = way.lands;
  is_head = ap head_in same ∙ way.is_head;
  is_onward = way.is_onward;
  starts = way.starts;
}

pipe_lands : (topology : Topology) (past : List Entry) (d e : ℕ) (flit : List ℕ) (outcome : Outcome)
    (p : PipeFrom) → LandsGood topology past e flit outcome → PipeKept topology past d p
    → PipeKept topology (Landed e flit outcome ∷ past) d
    (while_gathering e (with_landing flit outcome) p)
pipe_lands topology past d e flit outcome p lands is =
    by_test ((p.from == e) && is_none p.pipe.good) refl
  where
    by_test : (now : Bool) → ((p.from == e) && is_none p.pipe.good) ≡ now →
        PipeKept topology (Landed e flit outcome ∷ past) d
        (if now then record p { pipe = with_landing flit outcome p.pipe } else p)
    by_test true at =
        let both = and_parts (p.from == e) (is_none p.pipe.good) at in
        let o =
        outcome_is topology past d e flit outcome p (eqb-true p.from e both.0)
        (none_is p.pipe.good both.1) lands is in
        let long : length (with_landing flit outcome p.pipe).came ≡ length p.pipe.came + 1 =
        ap length o.came ∙ length-append p.pipe.came (flit ∷ []) in
        let some = is.some in record {
          way =
              way_with topology p d (with_landing flit outcome p.pipe)
              (ap (λ (l : List (List ℕ)). slice_index_or l 0 zero_flit) o.came
              ∙ came-push p.pipe.came flit 0 is.some) is.way;
          some = omega arith;
          profile = o.profile ∙ is.profile;
          gathering = o.gathering;
          good = o.good;
        }
    by_test false at = record {
      way = is.way;
      some = is.some;
      profile = is.profile;
      gathering = λ none.
          (let g = is.gathering none in
          let off : (e == p.from) ≡ false =
          back_false p.from e (first_false (p.from == e) p.pipe.good at none) in record {
            forwarded = forwarded_landed topology p.from e flit outcome past
                ∙ ap (λ (b : Bool). choose b (while_gathered outcome
                (forwarded_onto topology p.from past)) (forwarded_onto topology p.from past)) off
                ∙ g.forwarded;
            came =
                g.came ∙ sym (ap pending (received_landed p.from e flit outcome past
                ∙ ap (λ (b : Bool). put_if b (ReceiverEntry.Land flit outcome)
                (receiver_of p.from past)) off));
            up =
                subst Waits (sym (no-send (under_way (sizes_on topology d).profile)
                (of_sends-up topology d) topology d (Landed e flit outcome) past tt)) g.up;
          });
      good = is.good;
    }

on_landed : (topology : Topology) (past : List Entry) (d e : ℕ) (flit : List ℕ) (outcome : Outcome)
    (pipe : Option PipeFrom) → LandsGood topology past e flit outcome → OnPipe topology past d pipe
    → OnPipe topology (Landed e flit outcome ∷ past) d
    (option_map (while_gathering e (with_landing flit outcome)) pipe)
on_landed topology past d e flit outcome None lands is = tt
on_landed topology past d e flit outcome (Some p) lands is =
    pipe_lands topology past d e flit outcome p lands is

pub piped_landed : (topology : Topology) (past : List Entry) (e : ℕ) (flit : List ℕ)
    (outcome : Outcome) → LandsGood topology past e flit outcome → ArePiped topology past →
    ArePiped topology (Landed e flit outcome ∷ past)
piped_landed topology past e flit outcome lands piped d =
    subst (OnPipe topology (Landed e flit outcome ∷ past) d)
    (sym (pipe_landed topology d e flit outcome past))
    (on_landed topology past d e flit outcome (pipe_onto topology d past) lands (piped d))

-- a packet that is forwarded goes on being gathered only with the outcome `gathered`
pub still_gathered : (outcome : Outcome) (onto : Option ℕ) (d : ℕ) → while_gathered outcome onto
    ≡ Some d → (outcome ≡ outcomes.Gathered) × (onto ≡ Some d)
still_gathered outcomes.Gathered onto d is = (refl, is)
still_gathered outcomes.Quiet onto d is = absurd cc
still_gathered outcomes.Trained onto d is = absurd cc
still_gathered outcomes.Accepted onto d is = absurd cc
still_gathered outcomes.Poisoned onto d is = absurd cc
still_gathered outcomes.Repeat onto d is = absurd cc
still_gathered (outcomes.AbortedBad bad) onto d is = absurd cc
still_gathered outcomes.AbortedOrder onto d is = absurd cc
still_gathered (outcomes.Ran kind) onto d is = absurd cc

-- the buffer of a direction stays empty where nothing lands in it
gathered_lands : (topology : Topology) (e : ℕ) (flit : List ℕ) (past : List Entry) →
    same_queue (landing_buffer topology e) (landing_buffer topology e) ≡ true →
    entered topology (Landed e flit outcomes.Gathered ∷ past) (landing_buffer topology e)
    ≡ entered topology past (landing_buffer topology e)
unfolding landed_packets
gathered_lands topology e flit past same =
    landed-enters topology e flit outcomes.Gathered past same
    ∙ append-nil (entered topology past (landing_buffer topology e))

pub forwarding_landed : (topology : Topology) (past : List Entry) (e0 : ℕ) (flit : List ℕ)
    (outcome : Outcome) → Wired topology → e0 < directions_in topology →
    AreForwarding topology past → AreForwarding topology (Landed e0 flit outcome ∷ past)
forwarding_landed topology past e0 flit outcome wires real forwarding e d less is =
    by_here (e0 == e) refl (sym (forwarded_landed topology e e0 flit outcome past) ∙ is)
  where
    by_here : (here : Bool) → (e0 == e) ≡ here →
        choose here (while_gathered outcome (forwarded_onto topology e past))
        (forwarded_onto topology e past) ≡ Some d →
        IsForwarding topology (Landed e0 flit outcome ∷ past) e d
    by_here true on now =
        let one : e0 ≡ e = eqb-true e0 e on in
        let still = still_gathered outcome (forwarded_onto topology e past) d now in
        let old = forwarding e d less still.1 in
        let test : ((old.pipe.from == e0) && is_none old.pipe.pipe.good) ≡ true =
        ap₂ (λ (a : Bool) (b : Bool). a && b) (eq-eqb old.pipe.from e0 (old.from ∙ sym one))
        (ap is_none old.gathers) in
        let pipe = record old.pipe { pipe = with_landing flit outcome old.pipe.pipe } in record {
          pipe = pipe;
          is = pipe_landed topology d e0 flit outcome past
              ∙ ap (option_map (while_gathering e0 (with_landing flit outcome))) old.is
              ∙ ap (λ (b : Bool). Some (if b then pipe else old.pipe)) test;
          from = old.from;
          gathers = ap (λ (o : Outcome). (with_landing flit o old.pipe.pipe).good) still.0
              ∙ old.gathers;
          empty =
              subst (λ (o : Outcome). contents topology (Landed e0 flit o ∷ past)
              (landing_buffer topology e) ≡ []) (sym still.0)
              (subst (λ (n : ℕ). contents topology (Landed n flit outcomes.Gathered ∷ past)
              (landing_buffer topology e) ≡ []) (sym one)
              (stays_empty topology (Landed e flit outcomes.Gathered) past
              (landing_buffer topology e) (gathered_lands topology e flit past
              (same_queue_refl (landing_buffer topology e))) old.empty));
        }
    by_here false off now =
        let old = forwarding e d less now in
        let from_off : (old.pipe.from == e0) ≡ false = ap (λ (n : ℕ). n == e0) old.from
        ∙ back_false e0 e off in
        let apart : same_queue (landing_buffer topology e0) (landing_buffer topology e) ≡ false =
        false_from_ne_true (same_queue (landing_buffer topology e0) (landing_buffer topology e))
        (λ same. let clash : true ≡ false = sym
        (eq-eqb e0 e (one_buffer topology wires e0 e real less same)) ∙ off in cc) in record {
          pipe = old.pipe;
          is = pipe_landed topology d e0 flit outcome past
              ∙ ap (option_map (while_gathering e0 (with_landing flit outcome))) old.is
              ∙ ap (λ (b : Bool). Some (if b && is_none old.pipe.pipe.good then
              record old.pipe { pipe = with_landing flit outcome old.pipe.pipe } else old.pipe))
              from_off;
          from = old.from;
          gathers = old.gathers;
          empty =
              stays_empty topology (Landed e0 flit outcome) past (landing_buffer topology e)
              (landed-off topology e e0 flit outcome past apart) old.empty;
        }
