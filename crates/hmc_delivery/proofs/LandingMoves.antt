-- What a landing moves: a packet that is accepted leaves the line, and one that is forwarded leaves
-- its buffer at once, or its poisoned copy comes.
use Rattle.std.proofs.Common.{◌≡◌, ◌≤◌, ◌<◌, ◌/◌, ◌∙◌, ◌==◌, ◌&&◌, ℕ, Bool, true, false, not, if◌then◌else◌, Option, Some, None, List, [], ◌∷◌, ◌++◌, map, length, refl, sym, ap, ap₂, subst, append-nil, eqb-true, eq-eqb, nat_lt, lt-ltb}
use Rattle.std.specs.Prelude.{option_map, filter}
use Rattle.std.proofs.lemmas.List.{map-append, length-map}
use mathlib.Core.Bool.{and-true}
use Rattle.hmc_packet.specs.Landings.{packets_in}
use Rattle.hmc_packet.specs.Packet.{PacketFields}
use Rattle.hmc_packet.specs.declared.outcome.Outcome.{Outcome}
use Rattle.hmc_codes.specs.declared.profile.Profile.{Profile}
use Rattle.hmc_packet.specs.Reading.{read_of}
use Rattle.hmc_packet.specs.Spelling.{FitsProfile, spelling}
use Rattle.hmc_packet.proofs.ReadOf.{read_of-spelling}
use Rattle.hmc_send.specs.Places.{is_token}
use Rattle.hmc_through.specs.Pipe.{PipeFields}
use Rattle.hmc_hops.specs.Packets.{Packet}
use Rattle.hmc_hops.specs.Map.{Map}
use Rattle.hmc_hops.specs.Queues.{QueueId as HopQueue, next_queue, after_line, same_queue as same_hop, is_at as is_at_hop, QueueId as hops}
use Rattle.hmc_hops.specs.Moves.{Move, without, without_if, packet_if as hop_if, contents as hop_contents}
use Rattle.hmc_hops.specs.Moves.Move.{Comes}
use Rattle.hmc_hops.proofs.Forwarding.{without_last}
use Rattle.hmc_hops.proofs.SameQueue.{queue_is}
use Rattle.hmc_entries.specs.declared.entry.Entry.{Entry}
use Rattle.hmc_entries.specs.declared.entry.Entry.TheVariants.{Landed}
use Rattle.hmc_journal.specs.Directions.{profile_of, landed_packets, accepted}
use Rattle.hmc_journal.specs.Piped.{PipeFrom, forwarded_onto, pipe_onto, goes_on, with_landing, while_gathering}
use Rattle.hmc_journal.specs.Queues.{arrival_of, arrived, unless_gone, leaves, enters, contents, landing_buffer, QueueId as queues}
use Rattle.hmc_journal.specs.Setup.{Topology, Setup, directions_in, end_of}
use Rattle.hmc_journal.proofs.EntryRule.{EntryRule}
use Rattle.hmc_journal.proofs.Moves.{entering}
use Rattle.hmc_laws.proofs.Buffers.{few_landed, accepted_off}
use Rattle.hmc_laws.proofs.Standing.{IsCounted, IsCounted-moving}
use Rattle.hmc_laws.proofs.Entering.{Kept, landed-real}
use Rattle.hmc_laws.proofs.ForwardingPipes.{PipeKept, OnPipe}
use Rattle.hmc_laws.proofs.ForwardingLandings.{back_false}
use Rattle.hmc_laws.proofs.PipeSteps.{pipe_landed}
use Rattle.hmc_laws.proofs.Wired.{Wired, some_is}
use Rattle.hmc_delivery.proofs.Seen.{seen, hop_queue, lands, goes_past, copy_comes, forward_moves}
use Rattle.hmc_delivery.proofs.Agreeing.{IsMapOf, Agrees}
use Rattle.hmc_delivery.proofs.Hopping.{queue-more}
use Rattle.hmc_delivery.proofs.Underway.{known_on, line_on, piped_with, copy_on, CopyKnown, copy_known, copy_waits, places_landed, pipe_elsewhere, known-quiet, accepted_within}
use Rattle.hmc_delivery.proofs.Forwarded.{ForwardedPacket, IsCome, forwarded_packet, forwarded_next, come_head, come_copy}
use Rattle.hmc_delivery.proofs.LineMoves.{line_off, token_seen, buffer_real, buffer_hop, left_on, agrees_held, lines_same, line_left, landed_held, copy_if, seen_if, comes_held, copy_lines}
use Rattle.hmc_packet.specs.declared.outcome.Outcome.TheVariants as outcomes

-- ---- what a landing or an unlock leaves of pipes

-- the pipe of what is forwarded takes the change
pub change_pipe : (topology : Topology) (past : List Entry) (d onto : ℕ)
    (change : PipeFields → PipeFields) → (is : ForwardedPacket topology past d onto)
    → option_map (while_gathering d change) (pipe_onto topology onto past)
    ≡ Some (record {
      from = is.pipe.from;
      pipe =
          change (piped_with is.pipe is.pipe.pipe.came None).pipe;
    })
change_pipe topology past d onto change is =
    let p = piped_with is.pipe is.pipe.pipe.came None in
    ap (option_map (while_gathering d change)) is.is
    ∙ ap (λ (b : Bool). Some (if b && true then record p { pipe = change p.pipe } else p))
    (eq-eqb is.pipe.from d is.from)

none_ℕ : (a : ℕ) → ◌≡◌ {A = Option ℕ} None (Some a) → ⊥
none_ℕ a is = cc

-- the pipes of other directions stay
gathering_at : (setup : Setup) (past : List Entry) (e : ℕ) → Kept setup past → (p : PipeFrom) →
    pipe_onto setup.topology e past ≡ Some p → p.pipe.good ≡ None →
    forwarded_onto setup.topology p.from past ≡ Some e
gathering_at setup past e keeps p is none =
    let kept : PipeKept setup.topology past e p =
    subst (OnPipe setup.topology past e) is (keeps.piped e) in (kept.gathering none).forwarded

pub other_pipe : (setup : Setup) (past : List Entry) (d onto e : ℕ) (change : PipeFields → PipeFields) →
    Kept setup past → forwarded_onto setup.topology d past ≡ Some onto → (onto == e) ≡ false →
    option_map (while_gathering d change) (pipe_onto setup.topology e past)
    ≡ pipe_onto setup.topology e past
other_pipe setup past d onto e change keeps forwarded off =
    pipe_elsewhere setup.topology e d past change
    (λ p is none from.
    let also : forwarded_onto setup.topology d past ≡ Some e =
    ap (λ (n : ℕ). forwarded_onto setup.topology n past) (sym from)
    ∙ gathering_at setup past e keeps p is none in
    let clash : true ≡ false = sym (eq-eqb onto e (some_is onto e (sym forwarded ∙ also))) ∙ off in
    cc)

pub idle_pipe : (setup : Setup) (past : List Entry) (d e : ℕ) (change : PipeFields → PipeFields) →
    Kept setup past → forwarded_onto setup.topology d past ≡ None →
    option_map (while_gathering d change) (pipe_onto setup.topology e past)
    ≡ pipe_onto setup.topology e past
idle_pipe setup past d e change keeps forwarded =
    pipe_elsewhere setup.topology e d past change
    (λ p is none from. none_ℕ e (sym forwarded
    ∙ ap (λ (n : ℕ). forwarded_onto setup.topology n past) (sym from)
    ∙ gathering_at setup past e keeps p is none))

-- no packet is gathered at a direction that isn't there
pub far_pipe : (setup : Setup) (past : List Entry) (d e : ℕ) (change : PipeFields → PipeFields) →
    Kept setup past → nat_lt d (directions_in setup.topology) ≡ false →
    option_map (while_gathering d change) (pipe_onto setup.topology e past)
    ≡ pipe_onto setup.topology e past
far_pipe setup past d e change keeps far =
    pipe_elsewhere setup.topology e d past change
    (λ p is none from.
    let kept : PipeKept setup.topology past e p =
    subst (OnPipe setup.topology past e) is (keeps.piped e) in
    let inside : d < directions_in setup.topology =
    subst (λ (n : ℕ). n < directions_in setup.topology) from kept.way.inside in
    let clash : true ≡ false = sym (lt-ltb d (directions_in setup.topology) inside) ∙ far in cc)

-- ---- a landing of what isn't forwarded

never_goes : (outcome : Outcome) → goes_on outcome None ≡ false
never_goes outcomes.Accepted = refl
never_goes _ = refl

idle_landed : (setup : Setup) (m : Map) (past : List Entry) (moved : List Move) (d : ℕ)
    (flit : List ℕ) (outcome : Outcome) → Wired setup.topology → Kept setup past →
    Kept setup (Landed d flit outcome ∷ past) → Agrees setup.topology m past moved
    → EntryRule setup past (Landed d flit outcome) → forwarded_onto setup.topology d past ≡ None →
    Agrees setup.topology m (Landed d flit outcome ∷ past)
    (lands setup.topology d (landed_packets setup.topology d flit outcome past) ++ moved)
idle_landed setup m past moved d flit outcome wires keeps now agrees right forwarded =
    let t = setup.topology in
    let known = λ (e : ℕ). known-quiet t e (Landed d flit outcome) past tt
    (pipe_landed t e d flit outcome past
    ∙ idle_pipe setup past d e (with_landing flit outcome) keeps forwarded) in
    lines_same t m (Landed d flit outcome) past
    (lands t d (landed_packets t d flit outcome past) ++ moved) known
    (landed_held setup m past moved d flit outcome (landed_packets t d flit outcome past) wires
    keeps now agrees right (ap (goes_on outcome) forwarded ∙ never_goes outcome) (known d) refl
    (few_landed t d flit outcome past))

-- ---- a flit more of what is forwarded

pub other_known : (setup : Setup) (past : List Entry) (d onto e : ℕ) (flit : List ℕ)
    (outcome : Outcome) → Kept setup past → forwarded_onto setup.topology d past ≡ Some onto →
    (onto == e) ≡ false → known_on setup.topology e (Landed d flit outcome ∷ past)
    ≡ known_on setup.topology e past
other_known setup past d onto e flit outcome keeps forwarded off =
    known-quiet setup.topology e (Landed d flit outcome) past tt
    (pipe_landed setup.topology e d flit outcome past
    ∙ other_pipe setup past d onto e (with_landing flit outcome) keeps forwarded off)

gathered_step : (setup : Setup) (m : Map) (past : List Entry) (moved : List Move) (d onto : ℕ)
    (flit : List ℕ) → Wired setup.topology → Kept setup past →
    Kept setup (Landed d flit outcomes.Gathered ∷ past) → Agrees setup.topology m past moved
    → EntryRule setup past (Landed d flit outcomes.Gathered) → forwarded_onto setup.topology d past
    ≡ Some onto → Agrees setup.topology m (Landed d flit outcomes.Gathered ∷ past)
    (lands setup.topology d (landed_packets setup.topology d flit outcomes.Gathered past)
    ++ moved)
gathered_step setup m past moved d onto flit wires keeps now agrees right forwarded =
    let t = setup.topology in
    let entry = Landed d flit outcomes.Gathered in
    let is : ForwardedPacket t past d onto =
    forwarded_packet setup past d onto wires keeps
    (landed-real setup past d flit outcomes.Gathered right keeps) forwarded in
    let here : known_on t onto (entry ∷ past) ≡ known_on t onto past =
    copy_waits t onto (entry ∷ past) past is.pipe is.pipe.pipe.came (is.pipe.pipe.came ++ flit ∷ [])
    is.up is.is (pipe_landed t onto d flit outcomes.Gathered past
    ∙ change_pipe t past d onto (with_landing flit outcomes.Gathered) is)
    (places_landed t onto entry past tt) in
    let by_same = λ (e : ℕ) (same : Bool) (at : (onto == e) ≡ same). known_at e same at here in
    lines_same t m entry past (lands t d (landed_packets t d flit outcomes.Gathered past) ++ moved)
    (λ e. by_same e (onto == e) refl)
    (landed_held setup m past moved d flit outcomes.Gathered
    (landed_packets t d flit outcomes.Gathered past) wires keeps now agrees right
    (ap (goes_on outcomes.Gathered) forwarded) (by_same d (onto == d) refl) refl
    (few_landed t d flit outcomes.Gathered past))
  where
    known_at : (e : ℕ) (same : Bool) → (onto == e) ≡ same →
        known_on setup.topology onto (Landed d flit outcomes.Gathered ∷ past)
        ≡ known_on setup.topology onto past →
        known_on setup.topology e (Landed d flit outcomes.Gathered ∷ past)
        ≡ known_on setup.topology e past
    known_at e true at here =
        subst (λ (k : ℕ). known_on setup.topology k (Landed d flit outcomes.Gathered ∷ past)
        ≡ known_on setup.topology k past) (eqb-true onto e at) here
    known_at e false at here =
        other_known setup past d onto e flit outcomes.Gathered keeps forwarded at

-- ---- the gathering ends with nothing accepted, or a poisoned packet

-- an outcome that ends a gathering with no packet
abbrev pub Spoils : List ℕ → Outcome → Type 0
Spoils flit outcome = (pipe : PipeFields) → with_landing flit outcome pipe
    ≡ record {
      flits = pipe.flits;
      profile = pipe.profile;
      came = pipe.came ++ flit ∷ [];
      good =
          Some false;
    }

spoiled_step : (setup : Setup) (m : Map) (past : List Entry) (moved : List Move) (d onto : ℕ)
    (flit : List ℕ) (outcome : Outcome) → Wired setup.topology → Kept setup past →
    Kept setup (Landed d flit outcome ∷ past) → Agrees setup.topology m past moved
    → EntryRule setup past (Landed d flit outcome) → forwarded_onto setup.topology d past
    ≡ Some onto → goes_on outcome (Some onto) ≡ false
    → Spoils flit outcome
    → Agrees setup.topology m (Landed d flit outcome ∷ past)
    (copy_comes setup.topology (Landed d flit outcome ∷ past) onto
    ++ (lands setup.topology d (landed_packets setup.topology d flit outcome past) ++ moved))
spoiled_step setup m past moved d onto flit outcome wires keeps now agrees right forwarded stays
    ends =
    let t = setup.topology in
    let entry = Landed d flit outcome in
    let is : ForwardedPacket t past d onto =
    forwarded_packet setup past d onto wires keeps
    (landed-real setup past d flit outcome right keeps) forwarded in
    let came = is.pipe.pipe.came ++ flit ∷ [] in
    let pipe : pipe_onto t onto (entry ∷ past) ≡ Some (piped_with is.pipe came (Some false)) =
    pipe_landed t onto d flit outcome past
    ∙ change_pipe t past d onto (with_landing flit outcome) is
    ∙ ap (λ (x : PipeFields). Some (record { from = is.pipe.from; pipe = x }))
    (ends (piped_with is.pipe is.pipe.pipe.came None).pipe) in
    let copy = copy_on t onto is.pipe came false is.up.numbers in
    let known : CopyKnown t onto (entry ∷ past) past copy =
    copy_known t onto (entry ∷ past) past is.pipe is.pipe.pipe.came came false is.up is.some
    is.is pipe (places_landed t onto entry past tt) in
    let within : length (accepted t onto (entry ∷ past)) ≤ length (known_on t onto past) =
    subst (λ l. length l ≤ length (known_on t onto past))
    (sym (accepted_off t onto d flit outcome past is.apart))
    (accepted_within t onto past (keeps.links (onto / 2))) in
    let held =
    landed_held setup m past moved d flit outcome (landed_packets t d flit outcome past) wires
    keeps now agrees right (ap (goes_on outcome) forwarded ∙ stays)
    (other_known setup past d onto d flit outcome keeps forwarded (back_false d onto is.apart)) refl
    (few_landed t d flit outcome past) in
    subst (λ (x : PacketFields). Agrees t m (entry ∷ past)
    (Comes (hops.Line onto) (seen t x) ∷ (lands t d (landed_packets t d flit outcome past)
    ++ moved))) (sym known.last)
    (agrees_held t m (entry ∷ past) (Comes (hops.Line onto) (seen t copy)
    ∷ (lands t d (landed_packets t d flit outcome past) ++ moved))
    (comes_held t m (contents t (entry ∷ past)) (left_on t entry past)
    (λ e. line_on t e (entry ∷ past)) (lands t d (landed_packets t d flit outcome past)
    ++ moved) onto copy held
    (λ e. copy_lines t entry past onto copy e (onto == e) refl known.known
    (λ k off. other_known setup past d onto k flit outcome keeps forwarded off) within)))

-- ---- it is accepted: the packet leaves at once

through_none : (c : Bool) (n : ℕ) (x : Packet) → (c ≡ true → n ≡ 0) → without_if c n (hop_if c x)
    ++ [] ≡ []
unfolding without
through_none false n x long = refl
through_none true n x long = ap (λ (k : ℕ). without k (x ∷ []) ++ []) (long refl)

through_empty : (c : Bool) (n : ℕ) (inside : List Packet) (x : Packet) → inside ≡ [] →
    (c ≡ true → n ≡ length inside) → without_if c n
    (without_if true 0 (inside ++ x ∷ []) ++ hop_if c x) ++ [] ≡ inside
unfolding without
through_empty c n [] x none long = through_none c n x long
through_empty c n (y ∷ inside) x none long = absurd (cc)

-- a queue that the packet goes through is as before
through_same : (b c : Bool) (n : ℕ) (inside : List Packet) (x : Packet) → (b ≡ true → inside ≡ []) →
    (c ≡ true → n ≡ length inside) → without_if c n
    (without_if b 0 (inside ++ hop_if b x) ++ hop_if c x) ++ [] ≡ inside
through_same false false n inside x none long = append-nil ((inside ++ []) ++ [])
    ∙ append-nil (inside ++ []) ∙ append-nil inside
through_same false true n inside x none long =
    append-nil (without n ((inside ++ []) ++ x ∷ []))
    ∙ ap₂ (λ (k : ℕ) (l : List Packet). without k (l ++ x ∷ [])) (long refl) (append-nil inside)
    ∙ without_last x inside
through_same true c n inside x none long = through_empty c n inside x (none refl) long

goes_held : (setup : Setup) (m : Map) (past : List Entry) (moved : List Move) (d onto : ℕ)
    (flit : List ℕ) (x copy : PacketFields) → Wired setup.topology → Kept setup past →
    Kept setup (Landed d flit outcomes.Accepted ∷ past) → Agrees setup.topology m past moved
    → EntryRule setup past (Landed d flit outcomes.Accepted) → forwarded_onto setup.topology d past
    ≡ Some onto → (is : ForwardedPacket setup.topology past d onto) →
    landed_packets setup.topology d flit outcomes.Accepted past ≡ x ∷ [] → is_token x ≡ true
    → next_queue m (hops.Buffer d) (seen setup.topology x) ≡ Some (hops.Output onto) →
    seen setup.topology copy ≡ seen setup.topology x
    → known_on setup.topology onto (Landed d flit outcomes.Accepted ∷ past)
    ≡ known_on setup.topology onto past ++ copy ∷ []
    → Agrees setup.topology m (Landed d flit outcomes.Accepted ∷ past)
    (goes_past setup.topology past d onto (x ∷ [])
    ++ (lands setup.topology d (x ∷ []) ++ moved))
unfolding entering enters leaves hop_contents
goes_held setup m past moved d onto flit x copy wires keeps now agrees right forwarded is landed
    token goes same known =
    let t = setup.topology in
    let entry = Landed d flit outcomes.Accepted in
    let y = seen t x in
    let n = length (contents t past (queues.Output onto)) in
    let line_next : next_queue m (hops.Line d) y ≡ Some (hops.Buffer d) =
    ap (λ (b : Bool). after_line b d) (token_seen t x ∙ token) in
    let within : length (accepted t onto (entry ∷ past)) ≤ length (known_on t onto past) =
    subst (λ l. length l ≤ length (known_on t onto past))
    (sym (accepted_off t onto d flit outcomes.Accepted past is.apart))
    (accepted_within t onto past (keeps.links (onto / 2))) in
    let others = λ (k : ℕ) (off : (onto == k) ≡ false). other_known setup past d onto k flit
    outcomes.Accepted keeps forwarded off in record {
      queues = λ q real.
          let hop = hop_queue t q in
          let inside = hop_contents m moved hop in
          let at_buffer : same_hop (hops.Buffer d) hop ≡ true → inside ≡ [] = λ at.
          ap (hop_contents m moved) (sym (queue_is (hops.Buffer d) hop at)
          ∙ sym (buffer_hop t d wires is.inside))
          ∙ sym (agrees.queues (landing_buffer t d)
          (buffer_real t (end_of t d) d is.inside refl)) ∙ ap (map (seen t)) is.empty in
          let at_output : same_hop (hops.Output onto) hop ≡ true → n ≡ length inside = λ at.
          sym (length-map (contents t past (queues.Output onto)) (seen t))
          ∙ ap (λ (l : List Packet). length l)
          (agrees.queues (queues.Output onto) tt
          ∙ ap (hop_contents m moved) (queue_is (hops.Output onto) hop at)) in
          queue-more setup entry past q false [] inside right tt keeps.within refl
          (ap (λ (o : Option ℕ). map (seen t) (arrived q
          (arrival_of (landing_buffer t d) (unless_gone (goes_on outcomes.Accepted o)
          (filter is_token (landed_packets t d flit outcomes.Accepted past)))))) forwarded)
          (agrees.queues q real)
          ∙ append-nil inside
          ∙ sym ((λ i. without_if (same_hop (hops.Output onto) hop) n
          (without_if (same_hop (hops.Buffer d) hop) 0
          (without_if (line_off t q d i) 0 inside ++ hop_if (is_at_hop (line_next i) hop) y)
          ++ hop_if (is_at_hop (goes i) hop) y) ++ hop_if (line_off t q onto i) y)
          ∙ through_same (same_hop (hops.Buffer d) hop) (same_hop (hops.Output onto) hop) n inside y
          at_buffer at_output);
      lines = λ e.
          let inside = hop_contents m moved (hops.Line e) in
          let rest = without_if (d == e) 0 inside in
          ap (map (seen t)) (copy_lines t entry past onto copy e (onto == e) refl known others
          within)
          ∙ map-append (seen t) (left_on t entry past e) (copy_if (onto == e) copy)
          ∙ ap₂ (λ (l k : List Packet). l ++ k)
          (line_left t d e flit outcomes.Accepted past (d == e) (x ∷ []) refl (now.links (d / 2))
          (others d (back_false d onto is.apart)) landed
          ∙ ap₂ (λ (b : Bool) (l : List Packet). without_if b 0 l) (and-true (d == e))
          (agrees.lines e))
          (seen_if t (onto == e) copy ∙ ap (hop_if (onto == e)) same)
          ∙ sym (ap₂ (λ (a b : Option HopQueue).
          ((rest ++ hop_if (is_at_hop a (hops.Line e)) y)
          ++ hop_if (is_at_hop b (hops.Line e)) y) ++ hop_if (onto == e) y) line_next goes
          ∙ ap (λ (l : List Packet). l ++ hop_if (onto == e) y)
          (append-nil (rest ++ []) ∙ append-nil rest));
    }

-- the packet that is accepted
pub come_of : (setup : Setup) (past : List Entry) (d onto : ℕ) (flit : List ℕ) →
    Kept setup (Landed d flit outcomes.Accepted ∷ past) →
    (is : ForwardedPacket setup.topology past d onto)
    → (x : PacketFields) × (IsCome setup.topology past d flit x)
    × (landed_packets setup.topology d flit outcomes.Accepted past ≡ x ∷ [])
unfolding landed_packets
come_of setup past d onto flit now is =
    let t = setup.topology in
    let q = profile_of t d in
    let pipe : pipe_onto t onto (Landed d flit outcomes.Accepted ∷ past)
    ≡ Some (piped_with is.pipe (is.pipe.pipe.came ++ flit ∷ []) (Some true)) =
    pipe_landed t onto d flit outcomes.Accepted past
    ∙ change_pipe t past d onto (with_landing flit outcomes.Accepted) is in
    let kept : PipeKept t (Landed d flit outcomes.Accepted ∷ past) onto
    (piped_with is.pipe (is.pipe.pipe.came ++ flit ∷ []) (Some true)) =
    subst (OnPipe t (Landed d flit outcomes.Accepted ∷ past) onto) pipe (now.piped onto) in
    let good = kept.good refl in
    let spelled = ap (λ l. l ++ flit ∷ []) (sym is.came) ∙ good.spelled
    ∙ ap (λ (r : Profile). spelling r good.packet good.rrp) is.profile in
    let fits = subst (λ (r : Profile). FitsProfile r good.packet good.rrp) is.profile good.fits in
    let counted : IsCounted good.packet = IsCounted-moving t good.packet good.clean good.moving in (
      good.packet,
      record {
        moving = good.moving;
        clean = good.clean;
        rrp = good.rrp;
        fits = fits;
        spelled =
            spelled;
      },
      ap (λ l. packets_in (read_of q l)) spelled
          ∙ ap packets_in (read_of-spelling q good.packet good.rrp counted.is_packet fits),
    )

accepted_step : (setup : Setup) (m : Map) (past : List Entry) (moved : List Move) (d onto : ℕ)
    (flit : List ℕ) → IsMapOf setup.topology m → Wired setup.topology → Kept setup past →
    Kept setup (Landed d flit outcomes.Accepted ∷ past) → Agrees setup.topology m past moved
    → EntryRule setup past (Landed d flit outcomes.Accepted) → forwarded_onto setup.topology d past
    ≡ Some onto
    → Agrees setup.topology m (Landed d flit outcomes.Accepted ∷ past)
    (goes_past setup.topology past d onto
    (landed_packets setup.topology d flit outcomes.Accepted past)
    ++ (lands setup.topology d (landed_packets setup.topology d flit outcomes.Accepted past)
    ++ moved))
accepted_step setup m past moved d onto flit map_of wires keeps now agrees right forwarded =
    let t = setup.topology in
    let entry = Landed d flit outcomes.Accepted in
    let is : ForwardedPacket t past d onto =
    forwarded_packet setup past d onto wires keeps
    (landed-real setup past d flit outcomes.Accepted right keeps) forwarded in
    let found = come_of setup past d onto flit now is in
    let x = found.0 in
    let come = found.1 in
    let counted : IsCounted x = IsCounted-moving t x come.clean come.moving in
    let came = is.pipe.pipe.came ++ flit ∷ [] in
    let pipe : pipe_onto t onto (entry ∷ past) ≡ Some (piped_with is.pipe came (Some true)) =
    pipe_landed t onto d flit outcomes.Accepted past
    ∙ change_pipe t past d onto (with_landing flit outcomes.Accepted) is in
    let copy = copy_on t onto is.pipe came true is.up.numbers in
    let known : CopyKnown t onto (entry ∷ past) past copy =
    copy_known t onto (entry ∷ past) past is.pipe is.pipe.pipe.came came true is.up is.some
    is.is pipe (places_landed t onto entry past tt) in
    subst (λ l. Agrees t m (entry ∷ past) (goes_past t past d onto l ++ (lands t d l ++ moved)))
    (sym found.2)
    (goes_held setup m past moved d onto flit x copy wires keeps now agrees right forwarded is
    found.2 (ap not counted.layout)
    (forwarded_next t m past d onto x map_of wires is come.moving come.clean
    (come_head t past d onto flit x is come).0)
    (come_copy t past d onto flit x is.up.numbers is come) known.known)

-- ---- every landing

pub landed_step : (setup : Setup) (m : Map) (past : List Entry) (moved : List Move) (d : ℕ)
    (flit : List ℕ) (outcome : Outcome) (onto : Option ℕ) → IsMapOf setup.topology m →
    Wired setup.topology → Kept setup past → Kept setup (Landed d flit outcome ∷ past)
    → Agrees setup.topology m past moved → EntryRule setup past (Landed d flit outcome) →
    forwarded_onto setup.topology d past ≡ onto
    → Agrees setup.topology m (Landed d flit outcome ∷ past)
    (forward_moves setup.topology past (Landed d flit outcome ∷ past) d outcome onto
    (landed_packets setup.topology d flit outcome past)
    ++ (lands setup.topology d (landed_packets setup.topology d flit outcome past) ++ moved))
landed_step setup m past moved d flit outcome None map_of wires keeps now agrees right forwarded =
    idle_landed setup m past moved d flit outcome wires keeps now agrees right forwarded
landed_step setup m past moved d flit outcomes.Gathered (Some onto) map_of wires keeps now agrees
    right forwarded =
    gathered_step setup m past moved d onto flit wires keeps now agrees right forwarded
landed_step setup m past moved d flit outcomes.Accepted (Some onto) map_of wires keeps now agrees
    right forwarded =
    accepted_step setup m past moved d onto flit map_of wires keeps now agrees right forwarded
landed_step setup m past moved d flit outcomes.Quiet (Some onto) map_of wires keeps now agrees right
    forwarded =
    spoiled_step setup m past moved d onto flit outcomes.Quiet wires keeps now agrees right
    forwarded refl (λ pipe. refl)
landed_step setup m past moved d flit outcomes.Trained (Some onto) map_of wires keeps now agrees
    right forwarded =
    spoiled_step setup m past moved d onto flit outcomes.Trained wires keeps now agrees right
    forwarded refl (λ pipe. refl)
landed_step setup m past moved d flit outcomes.Poisoned (Some onto) map_of wires keeps now agrees
    right forwarded =
    spoiled_step setup m past moved d onto flit outcomes.Poisoned wires keeps now agrees right
    forwarded refl (λ pipe. refl)
landed_step setup m past moved d flit outcomes.Repeat (Some onto) map_of wires keeps now agrees
    right forwarded =
    spoiled_step setup m past moved d onto flit outcomes.Repeat wires keeps now agrees right
    forwarded refl (λ pipe. refl)
landed_step setup m past moved d flit (outcomes.AbortedBad bad) (Some onto) map_of wires keeps now
    agrees right forwarded =
    spoiled_step setup m past moved d onto flit (outcomes.AbortedBad bad) wires keeps now agrees
    right forwarded refl (λ pipe. refl)
landed_step setup m past moved d flit outcomes.AbortedOrder (Some onto) map_of wires keeps now
    agrees right forwarded =
    spoiled_step setup m past moved d onto flit outcomes.AbortedOrder wires keeps now agrees right
    forwarded refl (λ pipe. refl)
landed_step setup m past moved d flit (outcomes.Ran kind) (Some onto) map_of wires keeps now agrees
    right forwarded =
    spoiled_step setup m past moved d onto flit (outcomes.Ran kind) wires keeps now agrees right
    forwarded refl (λ pipe. refl)
