-- A packet that is forwarded while it is gathered: its pipe, its place on the next direction, and its
-- way there.
use Rattle.std.proofs.Common.{◌≡◌, ◌≤◌, ◌<◌, ◌/◌, ◌∙◌, ◌==◌, inl, inr, ℕ, Bool, true, false, not, if◌then◌else◌, Option, Some, None, List, [], ◌∷◌, ◌++◌, length, get_or, refl, sym, ap, ap₂, subst, arith, eq-eqb, ne_eqb, nat_lt}
use Rattle.std.specs.Prelude.{option_and_then}
use Rattle.hmc_codes.specs.Commands.{layout_of, family_of, is_flow}
use Rattle.hmc_codes.specs.Flit.{zero_flit}
use Rattle.hmc_codes.specs.declared.layout.Layout.{Layout}
use Rattle.hmc_codes.specs.declared.layout.Layout.TheVariants as layouts
use Rattle.hmc_codes.specs.declared.place.Place.{Place}
use Rattle.hmc_codes.specs.declared.place.Place.TheVariants as places
use Rattle.hmc_packet.specs.declared.head.Head.{Head}
use Rattle.hmc_packet.specs.Head.{head_in, packet_head}
use Rattle.hmc_packet.specs.Landings.{pending}
use Rattle.hmc_packet.specs.Packet.{PacketFields, flits_of}
use Rattle.hmc_packet.specs.Parts.{lng_of}
use Rattle.hmc_packet.specs.Spelling.{FitsProfile, spelling}
use Rattle.hmc_packet.proofs.FrontLemmas.{head_in-first}
use Rattle.hmc_packet.proofs.LinkLemmas.{lng_of-first}
use Rattle.hmc_routes.specs.Ports.{port_to_cube, port_to_host}
use Rattle.hmc_routes.specs.WellFormed.{may_be_joined}
use Rattle.hmc_routes.proofs.DistanceLemmas.{goal-none}
use Rattle.hmc_hops.specs.Map.{Map, goal_of as hop_goal}
use Rattle.hmc_hops.specs.Queues.{next_queue, QueueId as hops}
use Rattle.hmc_send.specs.declared.numbers.Numbers.{Numbers}
use Rattle.hmc_send.specs.LinkSenders.{sender_entries}
use Rattle.hmc_through.specs.Pipe.{flit_at}
use Rattle.hmc_wire.proofs.Filled.{heads-lng}
use Rattle.hmc_wire.proofs.OpenPlaces.{IsOpen, open_place, under-open}
use Rattle.hmc_entries.specs.declared.entry.Entry.{Entry}
use Rattle.hmc_journal.specs.Directions.{receiver_of, profile_of}
use Rattle.hmc_journal.specs.Links.{toward, sizes_on, entries_on}
use Rattle.hmc_journal.specs.Piped.{PipeFrom, pipe_onto, forwarded_onto}
use Rattle.hmc_journal.specs.Queues.{landing_buffer, contents}
use Rattle.hmc_journal.specs.Setup.{Topology, Setup, directions_in, cubes_in, hosts_in, graph_of, start_of, end_of, direction_from}
use Rattle.hmc_journal.specs.ThroughSteps.{if_below, port_by}
use Rattle.hmc_laws.proofs.CopyWhole.{renumbered, copy-whole, same-unnumbered}
use Rattle.hmc_laws.proofs.Entering.{Kept}
use Rattle.hmc_journal.proofs.LinkKept.{opened}
use Rattle.hmc_laws.proofs.ForwardingPipes.{PipeKept, Way, OnPipe, known_waits}
use Rattle.hmc_laws.proofs.Piping.{IsPiped, UpPiped, sender_on}
use Rattle.hmc_laws.proofs.PipeSteps.{IsUp}
use Rattle.hmc_laws.proofs.Standing.{IsCounted, IsMoving, IsCounted-moving}
use Rattle.hmc_laws.proofs.Standing.IsMoving.{ToCube, ToHost, Spoiled}
use Rattle.hmc_laws.proofs.Wired.{Wired}
use Rattle.hmc_delivery.proofs.Seen.{seen, seen-unnumbered}
use Rattle.hmc_delivery.proofs.Underway.{piped_with, copy_on}
use Rattle.hmc_delivery.proofs.Agreeing.{IsMapOf, EndsAt, end_at, out_by, arriving_is}
use Rattle.hmc_delivery.proofs.Hopping.{asking_for, not_spoiled, answer_out, unpoisoned_next}
use Rattle.hmc_laws.proofs.CopyGoes.{below, reply_slid, some_head}

pub record ForwardedPacket (topology : Topology) (past : List Entry) (e d : ℕ) : Type 0 where
  pub inside : e < directions_in topology
  pub pipe : PipeFrom
  pub is : pipe_onto topology d past ≡ Some (piped_with pipe pipe.pipe.came None)
  pub from : pipe.from ≡ e
  pub came : pipe.pipe.came ≡ pending (receiver_of e past)
  pub long : 1 ≤ length pipe.pipe.came
  pub way : Way topology pipe d
  pub profile : pipe.pipe.profile ≡ profile_of topology e
  pub up : IsOpen (sizes_on topology d).profile (sender_entries (sizes_on topology d) (toward d) (entries_on topology d past))
  pub named : lng_of (flit_at pipe.pipe 0) ≡ pipe.pipe.flits
  pub some : 1 ≤ pipe.pipe.flits
  pub apart : (e == d) ≡ false
  pub empty : contents topology past (landing_buffer topology e) ≡ []

-- it goes on to another direction: no link joins two ports of a cube
ports_apart : (topology : Topology) (e d cube port onward : ℕ) → Wired topology → e < directions_in topology → end_of topology e ≡ places.Port cube port → direction_from topology (places.Port cube onward) ≡ Some d → (e == d) ≡ false
ports_apart topology e d cube port onward wires inside lands starts = ne_eqb e d (λ same.
    let start : start_of topology e ≡ places.Port cube onward = ap (start_of topology) same ∙ wires.starts (places.Port cube onward) d starts in
    let joined : not (cube == cube) ≡ true = sym (ap₂ (λ (a b : Place). may_be_joined a b) start lands) ∙ wires.apart e inside in
    let clash : false ≡ true = sym (ap not (eq-eqb cube cube refl)) ∙ joined in cc)

pipe_now : (topology : Topology) (d : ℕ) (past : List Entry) (p : PipeFrom) → pipe_onto topology d past ≡ Some p → p.pipe.good ≡ None → pipe_onto topology d past ≡ Some (piped_with p p.pipe.came None)
pipe_now topology d past p is none = is ∙ (λ i. Some (record { from = p.from; pipe = record { flits = p.pipe.flits; profile = p.pipe.profile; came = p.pipe.came; good = none i } }))

-- its pipe fits the open place
fits_open : (topology : Topology) (d : ℕ) (past : List Entry) (p : PipeFrom) (o : IsOpen (sizes_on topology d).profile (sender_on topology d past)) → pipe_onto topology d past ≡ Some p → IsUp topology d past → IsPiped p.pipe o.part o.head o.count
fits_open topology d past p o is up = subst (λ (pipe : Option PipeFrom). UpPiped pipe (Some (record { part = o.part; place = open_place o }))) is (subst (UpPiped (pipe_onto topology d past)) (under-open (sizes_on topology d).profile (sender_on topology d past) o) up)

pub forwarded_packet : (setup : Setup) (past : List Entry) (e d : ℕ) → Wired setup.topology → Kept setup past → e < directions_in setup.topology → forwarded_onto setup.topology e past ≡ Some d → ForwardedPacket setup.topology past e d
forwarded_packet setup past e d wires keeps inside is =
    let t = setup.topology in
    let forwarding = keeps.forwarding e d inside is in
    let p = forwarding.pipe in
    let kept : PipeKept t past d p = subst (OnPipe t past d) forwarding.is (keeps.piped d) in
    let gathering = kept.gathering forwarding.gathers in
    elim (opened (sizes_on t d) (toward d) (entries_on t d past) (keeps.links (d / 2))) [
      | inl known ↦ absurd (known_waits (sizes_on t d).profile (sender_on t d past) known gathering.up)
      | inr o ↦
          let fits = fits_open t d past p o forwarding.is (keeps.up d) in
          let flits = fits.for.flits in
          let many = fits.many in record {
            inside = inside;
            pipe = p;
            is = pipe_now t d past p forwarding.is forwarding.gathers;
            from = forwarding.from;
            came = gathering.came ∙ ap (λ (n : ℕ). pending (receiver_of n past)) forwarding.from;
            long = kept.some;
            way = kept.way;
            profile = kept.profile ∙ ap (profile_of t) forwarding.from;
            up = o;
            named = ap lng_of fits.for.first ∙ heads-lng o.count o.head o.names ∙ sym flits;
            some = omega arith;
            apart = ports_apart t e d kept.way.cube kept.way.port kept.way.onward wires inside (ap (end_of t) (sym forwarding.from) ∙ kept.way.lands) kept.way.starts;
            empty = forwarding.empty;
          }
    ]

-- ---- its way

next_of : (topology : Topology) (m : Map) (cube onward d : ℕ) (x : PacketFields) → IsMapOf topology m → IsMoving topology x → x.poisoned ≡ false → port_by topology cube (packet_head x) (family_of x.command) ≡ Some onward
    → direction_from topology (places.Port cube onward) ≡ Some d → m.next (hop_goal (seen topology x)) cube ≡ Some d
next_of topology m cube onward d x map_of (ToCube asking) clean is starts =
    let port : port_to_cube (graph_of topology) x.cube cube ≡ Some onward =
    (below x.cube (cubes_in topology) (nat_lt x.cube (cubes_in topology)) (λ goal. port_to_cube (graph_of topology) goal cube) onward (sym (ap (port_by topology cube (packet_head x)) asking.asks) ∙ is)).1 in
    let other : (cube == x.cube) ≡ false = ne_eqb cube x.cube (λ same.
    let clash : None ≡ Some onward = sym (goal-none (graph_of topology) x.cube) ∙ ap (port_to_cube (graph_of topology) x.cube) (sym same) ∙ port in cc) in
    ap (λ g. m.next g cube) (asking_for topology x asking) ∙ map_of.next_cube x.cube cube
    ∙ ap (λ (b : Bool). if b then None else out_by topology cube (port_to_cube (graph_of topology) x.cube cube)) other ∙ ap (out_by topology cube) port ∙ starts
next_of topology m cube onward d x map_of (ToHost replying) clean is starts =
    let by_host : option_and_then (λ goal. port_to_host (graph_of topology) goal cube) (if_below (hosts_in topology) x.slid) ≡ Some onward =
    ap (λ (s : ℕ). option_and_then (λ goal. port_to_host (graph_of topology) goal cube) (if_below (hosts_in topology) s)) (sym (reply_slid (layout_of x.command) x.slid replying.replies))
    ∙ sym (ap (port_by topology cube (packet_head x)) replying.replies) ∙ is in
    answer_out topology m cube onward d x map_of replying (below x.slid (hosts_in topology) (nat_lt x.slid (hosts_in topology)) (λ goal. port_to_host (graph_of topology) goal cube) onward by_host).1 starts
next_of topology m cube onward d x map_of (Spoiled spoiled) clean is starts = absurd (not_spoiled topology x clean spoiled)

pub forwarded_next : (topology : Topology) (m : Map) (past : List Entry) (e d : ℕ) (x : PacketFields) → IsMapOf topology m → Wired topology → (is : ForwardedPacket topology past e d) → IsMoving topology x → x.poisoned ≡ false → head_in (flit_at is.pipe.pipe 0) ≡ Some (packet_head x)
    → next_queue m (hops.Buffer e) (seen topology x) ≡ Some (hops.Output d)
forwarded_next topology m past e d x map_of wires is moving clean head =
    let way = is.way in
    let at : EndsAt topology (places.Port way.cube way.port) = record { direction = e; inside = is.inside; ends = ap (end_of topology) (sym is.from) ∙ way.lands } in
    let same : way.head ≡ packet_head x = some_head way.head (packet_head x) (sym way.is_head ∙ head) in
    let onward : port_by topology way.cube (packet_head x) (family_of x.command) ≡ Some way.onward = ap (λ (h : Head). port_by topology way.cube h (family_of h.command)) (sym same) ∙ way.is_onward in
    ap (λ (n : ℕ). next_queue m (hops.Buffer n) (seen topology x)) (sym (arriving_is topology (places.Port way.cube way.port) wires at))
    ∙ unpoisoned_next topology m way.cube way.port x (Some d) map_of wires at clean (next_of topology m way.cube way.onward d x map_of moving clean onward way.starts)

-- ---- a packet that came whole

-- the packet that these flits are
pub record IsCome (topology : Topology) (past : List Entry) (e : ℕ) (flit : List ℕ) (x : PacketFields) : Type 0 where
  pub moving : IsMoving topology x
  pub clean : x.poisoned ≡ false
  pub rrp : ℕ
  pub fits : FitsProfile (profile_of topology e) x rrp
  pub spelled : pending (receiver_of e past) ++ flit ∷ [] ≡ spelling (profile_of topology e) x rrp

first_of : (came : List (List ℕ)) (flit : List ℕ) (l : List (List ℕ)) → 1 ≤ length came → came ++ flit ∷ [] ≡ l → (rest : List (List ℕ)) × (l ≡ get_or came 0 zero_flit ∷ rest)
first_of [] flit l some is = absurd (omega arith)
first_of (c ∷ came) flit l some is = (came ++ flit ∷ [], sym is)

no_null : (layout : Layout) → is_flow layout ≡ false → layout ≡ layouts.Null → ⊥
no_null layout no_flow is = let clash : true ≡ false = sym (ap is_flow is) ∙ no_flow in cc

-- its first flit names its head and its length
pub come_head : (topology : Topology) (past : List Entry) (e d : ℕ) (flit : List ℕ) (x : PacketFields) → (is : ForwardedPacket topology past e d) → IsCome topology past e flit x → (head_in (flit_at is.pipe.pipe 0) ≡ Some (packet_head x)) × (is.pipe.pipe.flits ≡ flits_of x)
come_head topology past e d flit x is come =
    let q = profile_of topology e in
    let counted : IsCounted x = IsCounted-moving topology x come.clean come.moving in
    let first = first_of is.pipe.pipe.came flit (spelling q x come.rrp) is.long (ap (λ l. l ++ flit ∷ []) is.came ∙ come.spelled) in (
      head_in-first q x come.rrp (flit_at is.pipe.pipe 0) first.0 counted.is_packet come.fits counted.layout first.1,
      sym is.named ∙ lng_of-first q x come.rrp (flit_at is.pipe.pipe 0) first.0 counted.is_packet (no_null (layout_of x.command) counted.layout) first.1,
    )

-- and its copy is seen as it is
pub come_copy : (topology : Topology) (past : List Entry) (e d : ℕ) (flit : List ℕ) (x : PacketFields) (n : Numbers) → (is : ForwardedPacket topology past e d) → IsCome topology past e flit x
    → seen topology (copy_on topology d is.pipe (is.pipe.pipe.came ++ flit ∷ []) true n) ≡ seen topology x
come_copy topology past e d flit x n is come =
    let q = profile_of topology e in
    let counted : IsCounted x = IsCounted-moving topology x come.clean come.moving in
    let came = is.pipe.pipe.came ++ flit ∷ [] in
    let whole : copy_on topology d is.pipe came true n ≡ renumbered x n true =
    (λ i. copy_on topology d (record { from = e; pipe = record { flits = (come_head topology past e d flit x is come).1 i; profile = is.profile i; came = []; good = None } }) came true n)
    ∙ copy-whole q (profile_of topology d) x come.rrp true n came counted.is_packet come.fits counted.layout counted.errstat (ap (λ l. l ++ flit ∷ []) is.came ∙ come.spelled) in
    ap (seen topology) whole ∙ sym (seen-unnumbered topology (renumbered x n true)) ∙ ap (seen topology) (same-unnumbered x n come.clean) ∙ seen-unnumbered topology x

-- it is gathered at a cube
pub forwarded_end : (topology : Topology) (m : Map) (past : List Entry) (e d : ℕ) → IsMapOf topology m → (is : ForwardedPacket topology past e d) → m.end_of e ≡ end_at (places.Port is.way.cube is.way.port)
forwarded_end topology m past e d map_of is = map_of.finish e is.inside ∙ ap end_at (ap (end_of topology) (sym is.from) ∙ is.way.lands)
