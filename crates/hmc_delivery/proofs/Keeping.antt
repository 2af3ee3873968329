-- No request and no answer is lost or passes another on its way: what was given was executed or
-- waits, and what was lifted was taken or waits; and what each direction of a route carried is the
-- first of what the one before carried.
use Rattle.std.proofs.Common.{◌≡◌, ◌/◌, ◌∙◌, ◌==◌, ◌&&◌, ℕ, Bool, true, false, if◌then◌else◌, List, [], ◌∷◌, ◌++◌, map, refl, sym, ap, ap₂}
use Rattle.std.proofs.lemmas.Grind.{flat_map-append}
use Rattle.hmc_codes.specs.declared.unit.Unit.{Unit as RequestUnit}
use Rattle.hmc_codes.specs.Table.{table_line}
use Rattle.hmc_packet.specs.Packet.{PacketFields, null_packet}
use Rattle.hmc_packet.specs.Transactions.{request_in, answer_in, answer_by}
use Rattle.hmc_routes.specs.Route.{route_from_host, route_from_cube, Goal as goals}
use Rattle.hmc_hops.specs.Flows.{requests_to, requests_accepted, answers_accepted, waiting_inside as hop_waiting_inside, waiting_along as hop_waiting_along, given_to as hop_given_to, executed_by as hop_executed_by, answers_to as hop_answers_to, answers_lifted as hop_lifted, answers_taken as hop_taken}
use Rattle.hmc_journal.specs.Carried.{tagged_request, tagged_requests, answer_to, answers_to, waiting_along, waiting_for, requests_along, requests_waiting, answers_along, answers_waiting, answers_lifted, answers_taken}
use Rattle.hmc_entries.specs.declared.entry.Entry.{Entry}
use Rattle.hmc_journal.specs.Delivered.{IsPrefix, IsChain}
use Rattle.hmc_journal.specs.Directions.{accepted}
use Rattle.hmc_journal.specs.Filters.{TaggedRequest, TaggedAnswer, given_to, executed_by}
use Rattle.hmc_journal.specs.Lawful.{Lawful}
use Rattle.hmc_journal.specs.Network.{IsNetwork}
use Rattle.hmc_journal.specs.Routes.{route_to_cube, route_to_host}
use Rattle.hmc_journal.specs.Setup.{Topology, Setup, graph_of, unit_cube}
use Rattle.hmc_delivery.proofs.Answering.{lifted_are, taken_are}
use Rattle.hmc_delivery.proofs.Awaited.{routes_of, maps_routes}
use Rattle.hmc_delivery.proofs.Carrying.{IsRead, carried}
use Rattle.hmc_delivery.proofs.Collecting.{given_are}
use Rattle.hmc_delivery.proofs.EveryFlow.{RequestsAlong, AnswersAlong}
use Rattle.hmc_delivery.proofs.Executing.{executed_are}
use Rattle.hmc_delivery.proofs.Flowing.{requests_seen, answers_seen}
use Rattle.hmc_delivery.proofs.Hopped.{agrees}
use Rattle.hmc_delivery.proofs.Seen.{spot_of, moves}
use Rattle.hmc_laws.proofs.Sound.{kept}
use Rattle.hmc_delivery.proofs.Waiting.{all_inside, waits_along, waits_inside}
use Rattle.hmc_laws.proofs.Wired.{wired}

pub requests_read : (topology : Topology) (host : ℕ) (unit : RequestUnit) → IsRead topology (requests_to host (unit_cube unit) (spot_of unit)) (tagged_requests topology host unit)
unfolding tagged_requests request_in table_line
requests_read topology host unit = record {
  none = refl;
  null = refl;
  append = λ xs ys. flat_map-append (λ (packet : PacketFields). tagged_request topology host unit packet (request_in packet)) xs ys;
  seen_as = λ packets. requests_seen topology host unit packets;
}

null_answers : (cube host : ℕ) → answers_to cube host (null_packet ∷ []) ≡ []
unfolding answers_to answer_in answer_by
null_answers cube host = by_test ((0 == cube) && (0 == host))
  where
    none : List TaggedAnswer
    none = []

    by_test : (here : Bool) → (if here then none else none) ++ none ≡ none
    by_test true = refl
    by_test false = refl

pub answers_read : (topology : Topology) (cube host : ℕ) → IsRead topology (hop_answers_to cube host) (answers_to cube host)
unfolding answers_to
answers_read topology cube host = record {
  none = refl;
  null = null_answers cube host;
  append = λ xs ys. flat_map-append (answer_to cube host) xs ys;
  seen_as = λ packets. answers_seen topology cube host packets;
}

-- ---- chains

same_prefix : {X : Type 0} (front whole said all : List X) → front ≡ said → whole ≡ all → IsPrefix front whole → IsPrefix said all
same_prefix front whole said all front_is whole_is is = (is.0, sym whole_is ∙ is.1 ∙ ap (λ l. l ++ is.0) front_is)

same_chain : {X : Type 0} (whole last : List X) (list : ℕ → List X) (all end : List X) (said : ℕ → List X) (ds : List ℕ) → whole ≡ all → last ≡ end → ((d : ℕ) → list d ≡ said d)
    → IsChain whole (map list ds ++ last ∷ []) → IsChain all (map said ds ++ end ∷ [])
same_chain whole last list all end said [] whole_is last_is each chain = (same_prefix last whole end all last_is whole_is chain.0, tt)
same_chain whole last list all end said (d ∷ ds) whole_is last_is each chain =
    (same_prefix (list d) whole (said d) all (each d) whole_is chain.0, same_chain (list d) last list (said d) end said ds (each d) last_is each chain.1)

-- ---- the requests of a host to a unit

pub kept_requests : (setup : Setup) (past : List Entry) (host : ℕ) (unit : RequestUnit) → IsNetwork setup → Lawful setup past
    → RequestsAlong (routes_of setup) (moves setup.topology past) host (unit_cube unit) (spot_of unit) (route_to_cube setup.topology host (unit_cube unit))
    → given_to setup.topology host unit past ≡ executed_by host unit past ++ requests_waiting setup.topology host unit past
unfolding route_to_cube
kept_requests setup past host unit network lawful law =
    let t = setup.topology in
    let m = routes_of setup in
    let c = unit_cube unit in
    let s = spot_of unit in
    let moved = moves t past in
    let flow = requests_to host c s in
    let read = requests_read t host unit in
    let same = agrees setup m past network (maps_routes setup network) lawful in
    let inside = hop_waiting_inside m flow moved c s in
    let along = hop_waiting_along m flow moved (route_to_cube t host c) in
    sym (given_are setup host unit past network lawful) ∙ law.all
    ∙ ap₂ (λ (a b : List TaggedRequest). a ++ b) (executed_are setup host unit past network lawful)
    (ap₂ (λ (a b : List TaggedRequest). a ++ b) (waits_inside t m flow (tagged_requests t host unit) past moved read same unit)
    (waits_along t m flow (tagged_requests t host unit) past moved read same (λ d. (kept setup past network lawful).links (d / 2)) (wired setup network) (route_to_cube t host c) (all_inside t (route_from_host (graph_of t) (goals.ToCube c) host) (wired setup network)))
    ∙ sym (read.append (waiting_for t past unit) (waiting_along t past (route_to_cube t host c))))

pub chained_requests : (setup : Setup) (past : List Entry) (host : ℕ) (unit : RequestUnit) → IsNetwork setup → Lawful setup past
    → RequestsAlong (routes_of setup) (moves setup.topology past) host (unit_cube unit) (spot_of unit) (route_to_cube setup.topology host (unit_cube unit))
    → IsChain (given_to setup.topology host unit past) (requests_along setup.topology host unit past ++ executed_by host unit past ∷ [])
chained_requests setup past host unit network lawful law =
    let t = setup.topology in
    let c = unit_cube unit in
    let s = spot_of unit in
    let moved = moves t past in
    let said = λ (d : ℕ). tagged_requests t host unit (accepted t d past) in
    same_chain (hop_given_to host c s moved) (hop_executed_by host c s moved) (requests_accepted host c s moved) (given_to t host unit past) (executed_by host unit past) said (route_to_cube t host c)
    (given_are setup host unit past network lawful) (executed_are setup host unit past network lawful)
    (λ d. carried setup (requests_to host c s) (tagged_requests t host unit) d (requests_read t host unit) past lawful) law.chain

-- ---- the answers of a cube to a host

pub kept_answers : (setup : Setup) (past : List Entry) (cube host : ℕ) → IsNetwork setup → Lawful setup past
    → AnswersAlong (routes_of setup) (moves setup.topology past) cube host (route_to_host setup.topology cube host)
    → answers_lifted setup.topology cube host past ≡ answers_taken setup.topology cube host past ++ answers_waiting setup.topology cube host past
unfolding route_to_host
kept_answers setup past cube host network lawful law =
    let t = setup.topology in
    let m = routes_of setup in
    let moved = moves t past in
    let flow = hop_answers_to cube host in
    let along = hop_waiting_along m flow moved (route_to_host t cube host) in
    sym (lifted_are setup cube host past lawful) ∙ law.all
    ∙ ap₂ (λ (a b : List TaggedAnswer). a ++ b) (taken_are setup m cube host past network (maps_routes setup network) lawful)
    (waits_along t m flow (answers_to cube host) past moved (answers_read t cube host) (agrees setup m past network (maps_routes setup network) lawful) (λ d. (kept setup past network lawful).links (d / 2)) (wired setup network) (route_to_host t cube host) (all_inside t (route_from_cube (graph_of t) (goals.ToHost host) cube) (wired setup network)))

pub chained_answers : (setup : Setup) (past : List Entry) (cube host : ℕ) → IsNetwork setup → Lawful setup past
    → AnswersAlong (routes_of setup) (moves setup.topology past) cube host (route_to_host setup.topology cube host)
    → IsChain (answers_lifted setup.topology cube host past) (answers_along setup.topology cube host past ++ answers_taken setup.topology cube host past ∷ [])
chained_answers setup past cube host network lawful law =
    let t = setup.topology in
    let m = routes_of setup in
    let moved = moves t past in
    let said = λ (d : ℕ). answers_to cube host (accepted t d past) in
    same_chain (hop_lifted cube host moved) (hop_taken m cube host moved) (answers_accepted cube host moved) (answers_lifted t cube host past) (answers_taken t cube host past) said (route_to_host t cube host)
    (lifted_are setup cube host past lawful) (taken_are setup m cube host past network (maps_routes setup network) lawful)
    (λ d. carried setup (hop_answers_to cube host) (answers_to cube host) d (answers_read t cube host) past lawful) law.chain
