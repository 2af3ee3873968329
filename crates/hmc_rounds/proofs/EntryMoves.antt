-- Each entry of the cube and of the host that isn't idle makes a move.
use Rattle.std.proofs.Common.{◌≡◌, ◌≤◌, ◌<◌, ◌+◌, ◌*◌, ◌/◌, ◌∙◌, ℕ, suc, Bool, List, ◌∷◌, drop, length, map, refl, sym, ap, ap₂, subst, arith}
use Rattle.std.specs.Prelude.{filter}
use Rattle.std.proofs.lemmas.List.{length-map}
use Rattle.hmc_codes.specs.declared.place.Place.{Place}
use Rattle.hmc_codes.specs.declared.place.Place.TheVariants as places
use Rattle.hmc_packet.specs.Packet.{PacketFields, flits_of}
use Rattle.hmc_send.specs.declared.toward.Toward.{Toward}
use Rattle.hmc_send.specs.declared.toward.Toward.TheVariants.{Forth, Back}
use Rattle.hmc_send.specs.LinkEntries.{LinkEntry, other, takes, accepted_packets}
use Rattle.hmc_send.specs.LinkSenders.{queue_in, places_in}
use Rattle.hmc_send.specs.Places.{is_token, takes_tokens}
use Rattle.hmc_link_state.specs.State as drain
use Rattle.hmc_link_state.specs.State.{State, Side, under_way, weight, inside_cube}
use Rattle.hmc_link_state.specs.Round.{Moves}
use Rattle.hmc_link_state.specs.Steps.{Doing, Link}
use Rattle.hmc_entries.specs.declared.entry.Entry.{Entry}
use Rattle.hmc_journal.specs.Lawful.{Lawful}
use Rattle.hmc_journal.specs.Links.{toward, link_sizes, link_entries, sizes_on, entries_on}
use Rattle.hmc_journal.specs.Network.{IsNetwork}
use Rattle.hmc_journal.specs.QueueInvariant.{LinkInvariant}
use Rattle.hmc_journal.specs.Queues.{QueueId, leaves, contents, buffer_at}
use Rattle.hmc_journal.specs.Queues.QueueId.{Output, Port, Host}
use Rattle.hmc_journal.specs.Setup.{Setup, Topology, directions_in, end_of}
use Rattle.hmc_journal.proofs.EntryRule.{lawful_past}
use Rattle.hmc_laws.proofs.Entering.{accepted_are}
use Rattle.hmc_laws.proofs.LinkInvariant.{link_invariant}
use Rattle.hmc_journal.proofs.Moves.{arrives}
use Rattle.hmc_laws.proofs.Sound.{kept}
use Rattle.hmc_rounds.specs.Counted.{counted}
use Rattle.hmc_rounds.specs.LinkPart.{IsPlain, LinkPart, link_of, side_on}
use Rattle.hmc_rounds.specs.CubeQueues.{queues_of_vaults, queues_of_units, queues_of_answers}
use Rattle.hmc_journal.specs.UnderWay.{crossing_places}
use Rattle.hmc_rounds.proofs.Alone.{alone}
use Rattle.hmc_rounds.proofs.Lengths.{queue_entered, room_more, held_more}
use Rattle.hmc_rounds.proofs.Placed.{Placed}
use Rattle.hmc_rounds.proofs.Sides.{SidesMoved, LinkMoved}
use Rattle.hmc_rounds.proofs.Single.{Joined}

-- a case of one cube and one link, and its link's numbers
pub record Scene (setup : Setup) (doings : List LinkEntry → List Doing) : Type 0 where
  pub network : IsNetwork setup
  pub joined : Joined setup.topology
  pub part : LinkPart (sizes_on setup.topology 0) joined.requests doings

pub kept_entries : (setup : Setup) (past : List Entry) → IsNetwork setup → Joined setup.topology →
    Lawful setup past → IsPlain (sizes_on setup.topology 0) (entries_on setup.topology 0 past)
kept_entries setup past network j lawful =
    record {
      kept = (kept setup past network lawful).links 0;
      alone = alone setup network j past lawful;
    }

-- ---- lengths of queues and buffers by numbers

abbrev buffered : Topology → (link : ℕ) → Toward → List Entry → List PacketFields
buffered t link way past =
    drop (takes way (link_entries t link past))
    (filter is_token (accepted_packets (link_sizes t link).profile way (link_entries t link past)))

buffer_is : (setup : Setup) (past : List Entry) (d : ℕ) (way : Toward) (place : Place) →
    IsNetwork setup → Lawful setup past → d < 2 → LinkInvariant setup.topology past d →
    toward d ≡ way → d / 2 ≡ 0 → end_of setup.topology d ≡ place
    → contents setup.topology past (buffer_at place) ≡ buffered setup.topology 0 way past
buffer_is setup past d way place network lawful less inv way_is link_is ends =
    let t = setup.topology in
    ap (λ p. contents t past (buffer_at p)) (sym ends) ∙ inv.buffer
    ∙ ap (λ a. drop (takes (toward d) (entries_on t d past)) (filter is_token a))
    (accepted_are t d past)
    ∙ ap₂ (λ n w. buffered t n w past) link_is way_is

abbrev queued : Topology → (link : ℕ) → Toward → List Entry → List PacketFields
queued t link way past = queue_in (link_sizes t link) way (link_entries t link past)

output_is : (setup : Setup) (past : List Entry) (d : ℕ) (way : Toward) →
    LinkInvariant setup.topology past d → toward d ≡ way → d / 2 ≡ 0 →
    contents setup.topology past (Output d) ≡ queued setup.topology 0 way past
output_is setup past d way inv way_is link_is =
    inv.output ∙ ap₂ (λ n w. queued setup.topology n w past) link_is way_is

pub side_forth : (way : Toward) (l : Link) → side_on way way l ≡ l.forth
side_forth Forth l = refl
side_forth Back l = refl

pub side_back : (way : Toward) (l : Link) → side_on way (other way) l ≡ l.back
side_back Forth l = refl
side_back Back l = refl

inside : (t : Topology) (j : Joined t) (d : ℕ) → d < 2 → d < directions_in t
inside t j d less = subst (λ (n : ℕ). d < n) (sym j.two) less

pub port_buffer : (setup : Setup) (doings : List LinkEntry → List Doing) (sc : Scene setup doings)
    (past : List Entry) → Lawful setup past
    → (link_of setup.topology doings past).forth.buffer ≡ map flits_of
    (contents setup.topology past (Port 0 sc.joined.port))
port_buffer setup doings sc past lawful =
    let j = sc.joined in
    let t = setup.topology in
    let inv =
    link_invariant setup past j.forth sc.network (inside t j j.forth j.forth_less) lawful in
    let is =
    buffer_is setup past j.forth j.requests (places.Port 0 j.port) sc.network lawful
    j.forth_less inv j.way_forth j.link_forth j.end_forth in
    sym (ap (λ (s : Side). s.buffer) (side_forth j.requests (link_of t doings past)))
    ∙ sc.part.buffer j.requests (entries_on t 0 past)
    (kept_entries setup past sc.network sc.joined lawful) ∙ sym (ap (map flits_of) is)

pub host_buffer : (setup : Setup) (doings : List LinkEntry → List Doing) (sc : Scene setup doings)
    (past : List Entry) → Lawful setup past
    → (link_of setup.topology doings past).back.buffer ≡ map flits_of
    (contents setup.topology past (Host 0))
host_buffer setup doings sc past lawful =
    let j = sc.joined in
    let t = setup.topology in
    let inv = link_invariant setup past j.back sc.network (inside t j j.back j.back_less) lawful in
    let is =
    buffer_is setup past j.back (other j.requests) (places.Host 0) sc.network lawful j.back_less
    inv j.way_back j.link_back j.end_back in
    sym (ap (λ (s : Side). s.buffer) (side_back j.requests (link_of t doings past)))
    ∙ sc.part.buffer (other j.requests) (entries_on t 0 past)
    (kept_entries setup past sc.network sc.joined lawful) ∙ sym (ap (map flits_of) is)

pub back_queue : (setup : Setup) (doings : List LinkEntry → List Doing) (sc : Scene setup doings)
    (past : List Entry) → Lawful setup past
    → (link_of setup.topology doings past).back.queue ≡ map flits_of
    (contents setup.topology past (Output sc.joined.back))
back_queue setup doings sc past lawful =
    let j = sc.joined in
    let t = setup.topology in
    let inv = link_invariant setup past j.back sc.network (inside t j j.back j.back_less) lawful in
    let is = output_is setup past j.back (other j.requests) inv j.way_back j.link_back in
    sym (ap (λ (s : Side). s.queue) (side_back j.requests (link_of t doings past)))
    ∙ sc.part.queue (other j.requests) (entries_on t 0 past)
    (kept_entries setup past sc.network sc.joined lawful) ∙ sym (ap (map flits_of) is)

pub forth_queue : (setup : Setup) (doings : List LinkEntry → List Doing) (sc : Scene setup doings)
    (past : List Entry) → Lawful setup past
    → (link_of setup.topology doings past).forth.queue ≡ map flits_of
    (contents setup.topology past (Output sc.joined.forth))
forth_queue setup doings sc past lawful =
    let j = sc.joined in
    let t = setup.topology in
    let inv =
    link_invariant setup past j.forth sc.network (inside t j j.forth j.forth_less) lawful in
    let is = output_is setup past j.forth j.requests inv j.way_forth j.link_forth in
    sym (ap (λ (s : Side). s.queue) (side_forth j.requests (link_of t doings past)))
    ∙ sc.part.queue j.requests (entries_on t 0 past)
    (kept_entries setup past sc.network sc.joined lawful) ∙ sym (ap (map flits_of) is)

abbrev crossed : Topology → (link : ℕ) → Toward → List Entry → ℕ
crossed t link way past =
    length (filter takes_tokens
    (drop (length (accepted_packets (link_sizes t link).profile way (link_entries t link past)))
    (places_in (link_sizes t link) way (link_entries t link past))))

crossing_is : (t : Topology) (past : List Entry) (d : ℕ) (way : Toward) → toward d ≡ way →
    d / 2 ≡ 0 → length (crossing_places t past d) ≡ crossed t 0 way past
crossing_is t past d way way_is link_is =
    ap (λ a.
    length (filter takes_tokens
    (drop (length a) (places_in (sizes_on t d) (toward d) (entries_on t d past)))))
    (accepted_are t d past)
    ∙ ap₂ (λ n w. crossed t n w past) link_is way_is

pub crossing_forth : (setup : Setup) (doings : List LinkEntry → List Doing)
    (sc : Scene setup doings) (past : List Entry) → Lawful setup past
    → drain.crossing (link_of setup.topology doings past).forth ≡ length
    (crossing_places setup.topology past sc.joined.forth)
crossing_forth setup doings sc past lawful =
    let j = sc.joined in
    let t = setup.topology in
    sym (ap drain.crossing (side_forth j.requests (link_of t doings past)))
    ∙ sc.part.crossing j.requests (entries_on t 0 past)
    (kept_entries setup past sc.network sc.joined lawful)
    ∙ sym (crossing_is t past j.forth j.requests j.way_forth j.link_forth)

pub crossing_back : (setup : Setup) (doings : List LinkEntry → List Doing) (sc : Scene setup doings)
    (past : List Entry) → Lawful setup past
    → drain.crossing (link_of setup.topology doings past).back ≡ length
    (crossing_places setup.topology past sc.joined.back)
crossing_back setup doings sc past lawful =
    let j = sc.joined in
    let t = setup.topology in
    sym (ap drain.crossing (side_back j.requests (link_of t doings past)))
    ∙ sc.part.crossing (other j.requests) (entries_on t 0 past)
    (kept_entries setup past sc.network sc.joined lawful)
    ∙ sym (crossing_is t past j.back (other j.requests) j.way_back j.link_back)

-- a list of sizes is as long as its packets
pub as_long : (ns : List ℕ) (ps : List PacketFields) → ns ≡ map flits_of ps → length ns ≡ length ps
as_long ns ps is = ap length is ∙ length-map ps flits_of

-- ---- a move by numbers

lighter_sums : (fq fq' fc fc' bc bc' : ℕ) → fq' ≡ fq → fc' ≡ fc → bc' ≡ bc →
    (n n' v v' u u' a a' q q' h h' : ℕ) (dn dn' dv dv' du du' da da' dq dq' dh dh' : ℕ)
    → n' + dn ≡ n + dn' → v' + dv ≡ v + dv' → u' + du ≡ u + du' → a' + da ≡ a + da' →
    q' + dq ≡ q + dq' → h' + dh ≡ h + dh'
    → suc (905 * dn' + 904 * dv' + 903 * du' + 902 * da' + 901 * dq' + dh') ≤ 905 * dn + 904 * dv
    + 903 * du + 902 * da + 901 * dq + dh
    → suc (1805 * fq' + 1005 * fc' + 905 * n' + 904 * v' + 903 * u' + 902 * a' + 901 * q'
    + 101 * bc' + h') ≤ 1805 * fq + 1005 * fc + 905 * n + 904 * v + 903 * u + 902 * a + 901 * q
    + 101 * bc + h
lighter_sums fq fq' fc fc' bc bc' x y z n n' v v' u u' a a' q q' h h' dn dn' dv dv' du du' da da' dq
    dq' dh dh' en ev eu ea eq eh less = omega arith

fewer_sums : (fq fq' fc fc' bc bc' : ℕ) → fq' ≡ fq → fc' ≡ fc → bc' ≡ bc →
    (n n' v v' u u' a a' q q' h h' : ℕ) (dn dn' dv dv' du du' da da' dq dq' dh dh' : ℕ)
    → n' + dn ≡ n + dn' → v' + dv ≡ v + dv' → u' + du ≡ u + du' → a' + da ≡ a + da' →
    q' + dq ≡ q + dq' → h' + dh ≡ h + dh'
    → dn' + dv' + du' + da' + dq' + dh' ≤ dn + dv + du + da + dq + dh
    → fq' + fc' + (n' + v' + u' + a') + q' + bc' + h' ≤ fq + fc + (n + v + u + a) + q + bc + h
fewer_sums fq fq' fc fc' bc bc' x y z n n' v v' u u' a a' q q' h h' dn dn' dv dv' du du' da da' dq
    dq' dh dh' en ev eu ea eq eh less = omega arith

-- the packets of a queue by numbers, before and after an entry
plus_same : (now before gone to dn dm m l : ℕ) → now + gone ≡ before + to → gone ≡ dn → to ≡ dm →
    m ≡ now → l ≡ before → m + dn ≡ l + dm
plus_same now before gone to dn dm m l e x y f g = omega arith

-- the equations of the six numbers
record SixMoved (s t : State) (p v u a q h p' v' u' a' q' h' : ℕ) : Type 0 where
  of_port : length t.forth.buffer + p ≡ length s.forth.buffer + p'
  of_vaults : t.vaults + v ≡ s.vaults + v'
  of_units : t.banks + u ≡ s.banks + u'
  of_answers : t.answers + a ≡ s.answers + a'
  of_out : length t.back.queue + q ≡ length s.back.queue + q'
  of_host : length t.back.buffer + h ≡ length s.back.buffer + h'

six : (setup : Setup) (doings : List LinkEntry → List Doing) (sc : Scene setup doings)
    (entry : Entry) (past : List Entry) → Lawful setup (entry ∷ past)
    → (p v u a q h p' v' u' a' q' h' : ℕ) →
    Placed setup.topology sc.joined (leaves past entry) p v u a q h →
    Placed setup.topology sc.joined (queue_entered (arrives setup.topology past entry)) p' v' u' a'
    q' h'
    → (b b' : Bool) →
    SixMoved (counted setup.topology doings past b)
    (counted setup.topology doings (entry ∷ past) b') p v u a q h p' v' u' a' q' h'
six setup doings sc entry past lawful p v u a q h p' v' u' a' q' h' from to b b' =
    let t = setup.topology in
    let before = lawful_past setup entry past lawful in
    let room = λ (queue : QueueId). room_more setup entry past sc.network lawful queue in
    let some = λ (rooms : List QueueId). held_more setup entry past sc.network lawful rooms in
    record {
      of_port =
          plus_same _ _ _ _ p p' _ _ (room (Port 0 sc.joined.port)) from.in_port to.in_port
          (as_long _ _ (port_buffer setup doings sc (entry ∷ past) lawful))
          (as_long _ _ (port_buffer setup doings sc past before));
      of_vaults =
          plus_same _ _ _ _ v v' _ _ (some (queues_of_vaults t)) from.in_vaults to.in_vaults refl
          refl;
      of_units =
          plus_same _ _ _ _ u u' _ _ (some (queues_of_units t)) from.in_units to.in_units refl refl;
      of_answers =
          plus_same _ _ _ _ a a' _ _ (some (queues_of_answers t)) from.in_answers to.in_answers refl
          refl;
      of_out =
          plus_same _ _ _ _ q q' _ _ (room (Output sc.joined.back)) from.in_out to.in_out
          (as_long _ _ (back_queue setup doings sc (entry ∷ past) lawful))
          (as_long _ _ (back_queue setup doings sc past before));
      of_host =
          plus_same _ _ _ _ h h' _ _ (room (Host 0)) from.in_host to.in_host
          (as_long _ _ (host_buffer setup doings sc (entry ∷ past) lawful))
          (as_long _ _ (host_buffer setup doings sc past before));
    }

moved_six : (s t : State) → SidesMoved s.forth s.back t.forth t.back →
    (p v u a q h p' v' u' a' q' h' : ℕ) → SixMoved s t p v u a q h p' v' u' a' q' h'
    → suc (905 * p' + 904 * v' + 903 * u' + 902 * a' + 901 * q' + h') ≤ 905 * p + 904 * v + 903 * u
    + 902 * a + 901 * q + h → p' + v' + u' + a' + q' + h' ≤ p + v + u + a + q + h → Moves s t
moved_six s t x p v u a q h p' v' u' a' q' h' e less few =
    let fq : length t.forth.queue ≡ length s.forth.queue =
    ap (λ (z : Side). length z.queue) x.forth in
    let fc : drain.crossing t.forth ≡ drain.crossing s.forth = ap drain.crossing x.forth in
    let bc : drain.crossing t.back ≡ drain.crossing s.back = ap drain.crossing x.back in record {
      lighter =
          lighter_sums _ _ _ _ _ _ fq fc bc _ _ _ _ _ _ _ _ _ _ _ _ p p' v v' u u' a a' q q' h h'
          e.of_port e.of_vaults e.of_units e.of_answers e.of_out e.of_host less;
      fewer =
          fewer_sums _ _ _ _ _ _ fq fc bc _ _ _ _ _ _ _ _ _ _ _ _ p p' v v' u u' a a' q q' h h'
          e.of_port e.of_vaults e.of_units e.of_answers e.of_out e.of_host few;
      rises = x.rises;
      forth = x.forth;
      back = x.back;
      shifted = x.shifted;
      taken = x.took;
      lifted = x.lifted;
    }

pub moved_by : (setup : Setup) (doings : List LinkEntry → List Doing) (sc : Scene setup doings)
    (entry : Entry) (past : List Entry) → Lawful setup (entry ∷ past) →
    LinkMoved (link_of setup.topology doings past) (link_of setup.topology doings (entry ∷ past))
    → (p v u a q h p' v' u' a' q' h' : ℕ) →
    Placed setup.topology sc.joined (leaves past entry) p v u a q h →
    Placed setup.topology sc.joined (queue_entered (arrives setup.topology past entry)) p' v' u' a'
    q' h'
    → suc (905 * p' + 904 * v' + 903 * u' + 902 * a' + 901 * q' + h') ≤ 905 * p + 904 * v + 903 * u
    + 902 * a + 901 * q + h → p' + v' + u' + a' + q' + h' ≤ p + v + u + a + q + h
    → (b b' : Bool) →
    Moves (counted setup.topology doings past b) (counted setup.topology doings (entry ∷ past) b')
moved_by setup doings sc entry past lawful sides p v u a q h p' v' u' a' q' h' from to less few b
    b' =
    moved_six (counted setup.topology doings past b)
    (counted setup.topology doings (entry ∷ past) b') sides p v u a q h p' v' u' a' q' h'
    (six setup doings sc entry past lawful p v u a q h p' v' u' a' q' h' from to b b') less few
