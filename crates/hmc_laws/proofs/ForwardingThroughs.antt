-- A packet begins to be forwarded.
use Rattle.std.proofs.Common.{◌≡◌, ◌<◌, ◌∙◌, ◌==◌, ℕ, Bool, true, false, Option, Some, None, List, [], ◌∷◌, length, refl, sym, ap, ap₂, subst, arith, eqb-true, eq-eqb, ne_eqb}
use Rattle.std.specs.Prelude.{option_map, slice_index_or}
use Rattle.hmc_codes.specs.Flit.{zero_flit}
use Rattle.hmc_codes.specs.Places.{same_place}
use Rattle.hmc_codes.specs.Commands.{family_of}
use Rattle.hmc_codes.specs.declared.place.Place.{Place as End}
use Rattle.hmc_packet.specs.declared.head.Head.{Head}
use Rattle.hmc_packet.specs.Head.{head_in}
use Rattle.hmc_packet.specs.Landings.{pending}
use Rattle.hmc_send.specs.Entries.{under_way}
use Rattle.hmc_journal.specs.Choice.{choose}
use Rattle.hmc_journal.specs.Directions.{receiver_of}
use Rattle.hmc_journal.specs.Piped.{PipeFrom, pipe_of, lands_at, forwarded_onto, pipe_onto}
use Rattle.hmc_entries.specs.declared.entry.Entry.{Entry}
use Rattle.hmc_entries.specs.declared.entry.Entry.TheVariants.{Through}
use Rattle.hmc_journal.specs.Links.{sizes_on, direction_to}
use Rattle.hmc_journal.specs.Queues.{same_queue, buffer_at, landing_buffer, contents}
use Rattle.hmc_journal.specs.Setup.{Topology, directions_in, end_of, direction_from}
use Rattle.hmc_journal.specs.ThroughSteps.{port_by}
use Rattle.hmc_laws.proofs.Buffers.{entered-same}
use Rattle.hmc_journal.proofs.Moves.{same_queue_refl}
use Rattle.hmc_laws.proofs.Wired.{Wired, one_buffer}
use Rattle.hmc_laws.proofs.NoSends.{through-elsewhere}
use Rattle.hmc_laws.proofs.PipeSteps.{pipe_through}
use Rattle.hmc_laws.proofs.Piping.{up_on}
use Rattle.hmc_routes.proofs.Joined.{same_place-true}
use Rattle.hmc_codes.specs.declared.place.Place.TheVariants as ends
use Rattle.hmc_laws.proofs.ForwardingPipes.{Waits, IsGathering, PipeKept, OnPipe, ArePiped, IsForwarding, AreForwarding, is_buffer, stays_empty}
use Rattle.hmc_laws.proofs.ForwardingLandings.{some_none}

pub forwarded_through : (topology : Topology) (e cube port direction : ℕ) (past : List Entry) →
    forwarded_onto topology e (Through cube port direction ∷ past)
    ≡ choose (lands_at topology e cube port) (Some direction) (forwarded_onto topology e past)
unfolding forwarded_onto
forwarded_through topology e cube port direction past = refl

received_through : (e cube port direction : ℕ) (past : List Entry) →
    receiver_of e (Through cube port direction ∷ past) ≡ receiver_of e past
unfolding receiver_of
received_through e cube port direction past = refl

-- what is known where a packet is forwarded
pub record Forwards (topology : Topology) (past : List Entry) (cube port direction : ℕ) : Type 0
  where
    pub from : ℕ
    pub inside : from < directions_in topology
    pub lands : end_of topology from ≡ ends.Port cube port
    pub flit : List ℕ
    pub rest : List (List ℕ)
    pub came : pending (receiver_of from past) ≡ flit ∷ rest
    pub head : Head
    pub is_head : head_in flit ≡ Some head
    pub onward : ℕ
    pub is_onward : port_by topology cube head (family_of head.command) ≡ Some onward
    pub starts : direction_from topology (ends.Port cube onward) ≡ Some direction
    pub arrives : direction_to topology (ends.Port cube port) ≡ Some from
    pub alone : forwarded_onto topology from past ≡ None
    pub empty : contents topology past (landing_buffer topology from) ≡ []
    -- and after it the packet is under way there, where nothing was before
    pub free : up_on topology direction past ≡ None
    pub up : Waits (up_on topology direction (Through cube port direction ∷ past))

-- a direction lands at the port only where it is this one
lands_there : (topology : Topology) (past : List Entry) (cube port direction e : ℕ) →
    Wired topology → (is : Forwards topology past cube port direction) →
    e < directions_in topology → lands_at topology e cube port ≡ true → e ≡ is.from
lands_there topology past cube port direction e wires is less lands =
    one_buffer topology wires e is.from less is.inside
    (ap₂ (λ (p : End) (q : End). same_queue (buffer_at p) (buffer_at q))
    (same_place-true (end_of topology e) (ends.Port cube port) lands) is.lands
    ∙ same_queue_refl (buffer_at (ends.Port cube port)))

-- a pipe of another direction stays
through_other : (topology : Topology) (past : List Entry) (cube port direction d : ℕ)
    (pipe : Option PipeFrom) → Wired topology → Forwards topology past cube port direction →
    (direction == d) ≡ false → OnPipe topology past d pipe →
    OnPipe topology (Through cube port direction ∷ past) d pipe
through_other topology past cube port direction d None wires forwards off is = tt
through_other topology past cube port direction d (Some p) wires forwards off is = record {
  way = is.way;
  some = is.some;
  profile = is.profile;
  gathering = λ none.
      (let g = is.gathering none in record {
        forwarded = forwarded_through topology p.from cube port direction past
            ∙ by_lands g (lands_at topology p.from cube port) refl;
        came = g.came ∙ ap pending (sym (received_through p.from cube port direction past));
        up =
            subst Waits (sym (through-elsewhere (under_way (sizes_on topology d).profile) topology d
            cube port direction past off)) g.up;
      });
  good = is.good;
}
  where
    by_lands : IsGathering topology past d p → (lands : Bool) → lands_at topology p.from cube port
        ≡ lands → choose lands (Some direction) (forwarded_onto topology p.from past) ≡ Some d
    by_lands g false at = g.forwarded
    by_lands g true at =
        let one =
        lands_there topology past cube port direction p.from wires forwards is.way.inside at in
        let clash : None ≡ Some d = sym forwards.alone
        ∙ ap (λ (n : ℕ). forwarded_onto topology n past) (sym one) ∙ g.forwarded in absurd cc

new_kept : (topology : Topology) (past : List Entry) (cube port d : ℕ) →
    (is : Forwards topology past cube port d) →
    PipeKept topology (Through cube port d ∷ past) d
    (pipe_of topology is.from (pending (receiver_of is.from past)))
new_kept topology past cube port d is = record {
  way = record {
    cube = cube;
    port = port;
    onward = is.onward;
    head = is.head;
    inside = is.inside;
    lands = is.lands;
    is_head = ap (λ (l : List (List ℕ)). head_in (slice_index_or l 0 zero_flit)) is.came
        ∙ is.is_head;
    is_onward = is.is_onward;
    starts = is.starts;
  };
  some = (let long = ap length is.came in omega arith);
  profile = refl;
  gathering = λ none. record {
    forwarded = forwarded_through topology is.from cube port d past
        ∙ ap (λ (b : Bool). choose b (Some d) (forwarded_onto topology is.from past))
        (lands_is topology is.from cube port is.lands);
    came = ap pending (sym (received_through is.from cube port d past));
    up = is.up;
  };
  good = λ good. absurd (some_none true (sym good));
}
  where
    place_refl : (cube port : ℕ) → same_place (ends.Port cube port) (ends.Port cube port) ≡ true
    place_refl cube port = rw (eq-eqb cube cube refl) (eq-eqb port port refl)

    lands_is : (topology : Topology) (e cube port : ℕ) → end_of topology e ≡ ends.Port cube port →
        lands_at topology e cube port ≡ true
    lands_is topology e cube port ends_at =
        ap (λ (p : End). same_place p (ends.Port cube port)) ends_at ∙ place_refl cube port

pub piped_through : (topology : Topology) (past : List Entry) (cube port direction : ℕ) →
    Wired topology → Forwards topology past cube port direction → ArePiped topology past →
    ArePiped topology (Through cube port direction ∷ past)
piped_through topology past cube port direction wires forwards piped d =
    by_here (direction == d) refl
  where
    by_here : (here : Bool) → (direction == d) ≡ here →
        OnPipe topology (Through cube port direction ∷ past) d
        (pipe_onto topology d (Through cube port direction ∷ past))
    by_here false off =
        subst (OnPipe topology (Through cube port direction ∷ past) d)
        (sym (pipe_through topology d cube port direction past
        ∙ ap (λ (b : Bool). choose b (option_map
        (λ from. pipe_of topology from (pending (receiver_of from past)))
        (direction_to topology (ends.Port cube port))) (pipe_onto topology d past)) off))
        (through_other topology past cube port direction d (pipe_onto topology d past) wires
        forwards off (piped d))
    by_here true on =
        let one : direction ≡ d = eqb-true direction d on in
        subst (λ (e : ℕ). OnPipe topology (Through cube port e ∷ past) d
        (pipe_onto topology d (Through cube port e ∷ past))) (sym one)
        (new_here (subst (Forwards topology past cube port) one forwards))
      where
        new_here : Forwards topology past cube port d →
            OnPipe topology (Through cube port d ∷ past) d
            (pipe_onto topology d (Through cube port d ∷ past))
        new_here now =
            subst (OnPipe topology (Through cube port d ∷ past) d)
            (sym (pipe_through topology d cube port d past
            ∙ ap (λ (b : Bool). choose b (option_map
            (λ from. pipe_of topology from (pending (receiver_of from past)))
            (direction_to topology (ends.Port cube port))) (pipe_onto topology d past))
            (eq-eqb d d refl)
            ∙ ap (option_map (λ from. pipe_of topology from (pending (receiver_of from past))))
            now.arrives))
            (new_kept topology past cube port d now)

pub forwarding_through : (topology : Topology) (past : List Entry) (cube port direction : ℕ) →
    Wired topology → (forwards : Forwards topology past cube port direction) →
    ArePiped topology past → AreForwarding topology past →
    AreForwarding topology (Through cube port direction ∷ past)
forwarding_through topology past cube port direction wires forwards piped forwarding e d less is =
    by_lands (lands_at topology e cube port) refl
    (sym (forwarded_through topology e cube port direction past) ∙ is)
  where
    quiet : (e : ℕ) → contents topology past (landing_buffer topology e) ≡ [] →
        contents topology (Through cube port direction ∷ past) (landing_buffer topology e) ≡ []
    quiet e empty =
        stays_empty topology (Through cube port direction) past (landing_buffer topology e)
        (entered-same topology (landing_buffer topology e) (is_buffer (end_of topology e))
        (Through cube port direction) past tt) empty

    by_lands : (lands : Bool) → lands_at topology e cube port ≡ lands →
        choose lands (Some direction) (forwarded_onto topology e past) ≡ Some d →
        IsForwarding topology (Through cube port direction ∷ past) e d
    by_lands true at now =
        let one = lands_there topology past cube port direction e wires forwards less at in
        let onto : direction ≡ d = cc in record {
          pipe = pipe_of topology forwards.from (pending (receiver_of forwards.from past));
          is = pipe_through topology d cube port direction past
              ∙ ap (λ (b : Bool). choose b (option_map
              (λ from. pipe_of topology from (pending (receiver_of from past)))
              (direction_to topology (ends.Port cube port))) (pipe_onto topology d past))
              (eq-eqb direction d onto)
              ∙ ap (option_map (λ from. pipe_of topology from (pending (receiver_of from past))))
              forwards.arrives;
          from = sym one;
          gathers = refl;
          empty =
              quiet e (ap (λ (n : ℕ). contents topology past (landing_buffer topology n)) one
              ∙ forwards.empty);
        }
    by_lands false at now =
        let old = forwarding e d less now in record {
          pipe = old.pipe;
          is = pipe_through topology d cube port direction past
              ∙ ap (λ (b : Bool). choose b (option_map
              (λ from. pipe_of topology from (pending (receiver_of from past)))
              (direction_to topology (ends.Port cube port))) (pipe_onto topology d past))
              (other_one old)
              ∙ old.is;
          from = old.from;
          gathers = old.gathers;
          empty = quiet e old.empty;
        }
      where
        kept_old : (p : PipeFrom) → pipe_onto topology d past ≡ Some p → PipeKept topology past d p
        kept_old p at_pipe = subst (OnPipe topology past d) at_pipe (piped d)

        other_one : IsForwarding topology past e d → (direction == d) ≡ false
        other_one old =
            ne_eqb direction d (λ same. subst Waits
            (ap (λ (n : ℕ). up_on topology n past) (sym same) ∙ forwards.free)
            ((kept_old old.pipe old.is).gathering old.gathers).up)
