-- The laws of flows along the routes of a graph, also between a host and a cube of which one isn't
-- there.
use Rattle.std.proofs.Common.{◌≡◌, ◌≤◌, ◌<◌, ◌-◌, ◌∙◌, ℕ, suc, Bool, true, false, List, [], ◌∷◌, ◌++◌, map, refl, sym, ap, ap₂, subst, arith}
use Rattle.std.specs.List.{filter_map}
use Rattle.hmc_codes.specs.Graph.{GraphFields}
use Rattle.hmc_routes.specs.Directions.{direction_from}
use Rattle.hmc_routes.specs.Parted.{InOnePart}
use Rattle.hmc_routes.specs.Route.{route_from_cube, route_from_host}
use Rattle.hmc_routes.specs.Route.Goal.{ToHost, ToCube}
use Rattle.hmc_routes.specs.WellFormed.{IsGraph}
use Rattle.hmc_hops.specs.Delivered.{IsChain, IsStranger, RequestsDelivered, AnswersDelivered, NoneOfRequests, NoneOfAnswers, request_route, answer_route}
use Rattle.hmc_hops.specs.Flows.{Flow, waiting_at, waiting_on, waiting_along, waiting_inside, requests_to, answers_to, given_to, requests_accepted, executed_by, answers_lifted, answers_accepted, answers_taken}
use Rattle.hmc_hops.specs.GraphMap.{map_of}
use Rattle.hmc_hops.specs.Map.{Map}
use Rattle.hmc_hops.specs.Moves.{Move, MayAll}
use Rattle.hmc_hops.specs.Packets.{Spot}
use Rattle.hmc_hops.specs.Packets.Spot.{Bank, Registers}
use Rattle.hmc_hops.specs.Queues.{QueueId}
use Rattle.hmc_hops.specs.Queues.QueueId.{Output, Line, Buffer, Vault, UnitQueue}
use Rattle.hmc_hops.proofs.Delivering.{delivered}
use Rattle.hmc_hops.proofs.GraphMaps.{is_map, short-there, short-back}
use Rattle.hmc_hops.proofs.GraphRoutes.{requests_go, answers_go}
use Rattle.hmc_hops.proofs.Strangers.{requests_none, answers_none}

-- ---- the directions of the graph's routes

abbrev pub there : GraphFields → (host cube : ℕ) → List ℕ
there graph h c = filter_map (direction_from graph.joins) (route_from_host graph (ToCube c) h)

abbrev pub back : GraphFields → (cube host : ℕ) → List ℕ
back graph c h = filter_map (direction_from graph.joins) (route_from_cube graph (ToHost h) c)

-- ---- a flow of which nothing waits

none_on : {X : Type 0} (m : Map) (f : Flow X) (moved : List Move) → ((queue : QueueId) → waiting_at m f moved queue ≡ []) → (d : ℕ) → waiting_on m f moved d ≡ []
none_on m f moved none d = ap₂ (λ a b. a ++ b) (none (Buffer d)) (ap₂ (λ a b. a ++ b) (none (Line d)) (none (Output d)))

none_along : {X : Type 0} (m : Map) (f : Flow X) (moved : List Move) → ((queue : QueueId) → waiting_at m f moved queue ≡ []) → (ds : List ℕ) → waiting_along m f moved ds ≡ []
unfolding waiting_along
none_along m f moved none [] = refl
none_along m f moved none (d ∷ ds) = ap₂ (λ a b. a ++ b) (none_along m f moved none ds) (none_on m f moved none d)

none_inside : {X : Type 0} (m : Map) (f : Flow X) (moved : List Move) → ((queue : QueueId) → waiting_at m f moved queue ≡ []) → (c : ℕ) (s : Spot) → waiting_inside m f moved c s ≡ []
none_inside m f moved none c Registers = none (UnitQueue c Registers)
none_inside m f moved none c (Bank v b) = ap₂ (λ a b. a ++ b) (none (UnitQueue c (Bank v b))) (none (Vault c v))

-- empty lists are a chain
none_chain : {X : Type 0} (whole last : List X) (list : ℕ → List X) (ds : List ℕ) → ((d : ℕ) → list d ≡ []) → last ≡ [] → IsChain whole (map list ds ++ last ∷ [])
none_chain whole last list [] each none = ((whole, ap (λ l. l ++ whole) (sym none)), tt)
none_chain whole last list (d ∷ ds) each none = ((whole, ap (λ l. l ++ whole) (sym (each d))), none_chain (list d) last list ds each none)

-- ---- requests

-- what was given is what was executed, and then what waits in the cube and along these directions
pub record RequestsAlong (m : Map) (moved : List Move) (h c : ℕ) (s : Spot) (ds : List ℕ) : Type 0 where
  pub all : given_to h c s moved ≡ executed_by h c s moved ++ (waiting_inside m (requests_to h c s) moved c s ++ waiting_along m (requests_to h c s) moved ds)
  pub chain : IsChain (given_to h c s moved) (map (requests_accepted h c s moved) ds ++ executed_by h c s moved ∷ [])

pub requests_along : (graph : GraphFields) (moved : List Move) (h c : ℕ) (s : Spot) → IsGraph graph → InOnePart graph → MayAll (map_of graph) moved → RequestsAlong (map_of graph) moved h c s (there graph h c)
requests_along graph moved h c s is_graph one may = by ((map_of graph).is_goal (ToHost h)) ((map_of graph).is_goal (ToCube c)) refl refl
  where
    known : (map_of graph).is_goal (ToHost h) ≡ true → (map_of graph).is_goal (ToCube c) ≡ true → RequestsAlong (map_of graph) moved h c s (there graph h c)
    known host cube =
        let law : RequestsDelivered (map_of graph) moved h c s = (delivered (map_of graph) moved (is_map graph is_graph one) may).requests h c s host cube in
        let enough = short-there graph h c is_graph one host cube in
        let along : RequestsAlong (map_of graph) moved h c s (request_route (map_of graph) h c graph.cubes) = record { all = law.all graph.cubes enough; chain = law.chain graph.cubes enough } in
        subst (RequestsAlong (map_of graph) moved h c s) (requests_go graph h c is_graph host) along

    strange : IsStranger (map_of graph) h c → RequestsAlong (map_of graph) moved h c s (there graph h c)
    strange is =
        let m = map_of graph in
        let f = requests_to h c s in
        let none : NoneOfRequests m moved h c s = requests_none m moved h c s (is_map graph is_graph one) may is in record {
          all = none.given ∙ sym (ap₂ (λ a b. a ++ b) none.executed (ap₂ (λ a b. a ++ b) (none_inside m f moved none.waiting c s) (none_along m f moved none.waiting (there graph h c))));
          chain = none_chain (given_to h c s moved) (executed_by h c s moved) (requests_accepted h c s moved) (there graph h c) none.accepted none.executed;
        }

    by : (host cube : Bool) → (map_of graph).is_goal (ToHost h) ≡ host → (map_of graph).is_goal (ToCube c) ≡ cube → RequestsAlong (map_of graph) moved h c s (there graph h c)
    by true true host cube = known host cube
    by false cube no_host is = strange (λ host at. let clash : false ≡ true = sym no_host ∙ host in cc)
    by true false is no_cube = strange (λ host at. let clash : false ≡ true = sym no_cube ∙ at in cc)

-- ---- answers

-- what was lifted is what was taken, and then what waits along these directions
pub record AnswersAlong (m : Map) (moved : List Move) (c h : ℕ) (ds : List ℕ) : Type 0 where
  pub all : answers_lifted c h moved ≡ answers_taken m c h moved ++ waiting_along m (answers_to c h) moved ds
  pub chain : IsChain (answers_lifted c h moved) (map (answers_accepted c h moved) ds ++ answers_taken m c h moved ∷ [])

pub answers_along : (graph : GraphFields) (moved : List Move) (c h : ℕ) → IsGraph graph → InOnePart graph → MayAll (map_of graph) moved → AnswersAlong (map_of graph) moved c h (back graph c h)
answers_along graph moved c h is_graph one may = by ((map_of graph).is_goal (ToHost h)) ((map_of graph).is_goal (ToCube c)) refl refl
  where
    known : (map_of graph).is_goal (ToHost h) ≡ true → (map_of graph).is_goal (ToCube c) ≡ true → AnswersAlong (map_of graph) moved c h (back graph c h)
    known host cube =
        let more = graph.cubes - 1 in
        let some = is_graph.some_cubes in
        let count : graph.cubes ≡ suc more = omega arith in
        let less : (map_of graph).hops (ToHost h) c < graph.cubes = short-back graph h c is_graph one host cube in
        let enough : (map_of graph).hops (ToHost h) c ≤ more = omega arith in
        let law : AnswersDelivered (map_of graph) moved c h = (delivered (map_of graph) moved (is_map graph is_graph one) may).answers c h host cube in
        let along : AnswersAlong (map_of graph) moved c h (answer_route (map_of graph) c h more) = record { all = law.all more enough; chain = law.chain more enough } in
        subst (AnswersAlong (map_of graph) moved c h) (answers_go graph c h more is_graph count) along

    strange : IsStranger (map_of graph) h c → AnswersAlong (map_of graph) moved c h (back graph c h)
    strange is =
        let m = map_of graph in
        let f = answers_to c h in
        let none : NoneOfAnswers m moved c h = answers_none m moved c h (is_map graph is_graph one) may is in record {
          all = none.lifted ∙ sym (ap₂ (λ a b. a ++ b) none.taken (none_along m f moved none.waiting (back graph c h)));
          chain = none_chain (answers_lifted c h moved) (answers_taken m c h moved) (answers_accepted c h moved) (back graph c h) none.accepted none.taken;
        }

    by : (host cube : Bool) → (map_of graph).is_goal (ToHost h) ≡ host → (map_of graph).is_goal (ToCube c) ≡ cube → AnswersAlong (map_of graph) moved c h (back graph c h)
    by true true host cube = known host cube
    by false cube no_host is = strange (λ host at. let clash : false ≡ true = sym no_host ∙ host in cc)
    by true false is no_cube = strange (λ host at. let clash : false ≡ true = sym no_cube ∙ at in cc)
