-- A lawful journal delivers requests and answers in order over every hop, and all of them once no
-- packet is on its way.
use Rattle.std.proofs.Common.{◌≡◌, ◌∙◌, ℕ, Bool, true, false, List, length, refl, sym, ap}
use Rattle.hmc_codes.specs.declared.unit.Unit.{Unit as RequestUnit}
use Rattle.hmc_routes.specs.Route.Goal.{ToHost, ToCube}
use Rattle.hmc_hops.specs.Delivered.{NoneOfRequests, AllServed as HopServed}
use Rattle.hmc_hops.specs.Flows.{given_to as hop_given_to, executed_by as hop_executed_by}
use Rattle.hmc_hops.proofs.Delivering.{all_served as hops_served}
use Rattle.hmc_hops.proofs.PhaseSteps.{all_answered}
use Rattle.hmc_hops.proofs.Strangers.{requests_none}
use Rattle.hmc_entries.specs.declared.entry.Entry.{Entry}
use Rattle.hmc_journal.specs.Delivered.{DeliveredInOrder, AllServed}
use Rattle.hmc_journal.specs.Drained.{IsDrained}
use Rattle.hmc_journal.specs.Lawful.{Lawful}
use Rattle.hmc_journal.specs.Network.{IsNetwork}
use Rattle.hmc_journal.specs.Routes.{route_to_cube, route_to_host}
use Rattle.hmc_journal.specs.Setup.{Setup, graph_of, unit_cube}
use Rattle.hmc_delivery.proofs.Awaited.{routes_of, maps_routes, answers_tags}
use Rattle.hmc_delivery.proofs.Awaiting.{keeps_tags}
use Rattle.hmc_delivery.proofs.Collecting.{given_are}
use Rattle.hmc_delivery.proofs.Draining.{moves_drained}
use Rattle.hmc_delivery.proofs.Ends.{lifted_front, taken_front}
use Rattle.hmc_delivery.proofs.EveryFlow.{RequestsAlong, AnswersAlong, requests_along, answers_along}
use Rattle.hmc_delivery.proofs.Executing.{executed_are}
use Rattle.hmc_delivery.proofs.Keeping.{kept_requests, chained_requests, kept_answers, chained_answers}
use Rattle.hmc_delivery.proofs.MayMove.{may_all}
use Rattle.hmc_delivery.proofs.Seen.{spot_of, moves}
use Rattle.hmc_delivery.proofs.Tagging.{asked_are, took_are}

-- the laws of flows, along the routes that the journal's definitions name
requests_law : (setup : Setup) (past : List Entry) (host : ℕ) (unit : RequestUnit) → IsNetwork setup → Lawful setup past
    → RequestsAlong (routes_of setup) (moves setup.topology past) host (unit_cube unit) (spot_of unit) (route_to_cube setup.topology host (unit_cube unit))
unfolding route_to_cube
requests_law setup past host unit network lawful =
    requests_along (graph_of setup.topology) (moves setup.topology past) host (unit_cube unit) (spot_of unit) network.graph network.one_part (may_all setup (routes_of setup) past network (maps_routes setup network) lawful)

answers_law : (setup : Setup) (past : List Entry) (cube host : ℕ) → IsNetwork setup → Lawful setup past → AnswersAlong (routes_of setup) (moves setup.topology past) cube host (route_to_host setup.topology cube host)
unfolding route_to_host
answers_law setup past cube host network lawful =
    answers_along (graph_of setup.topology) (moves setup.topology past) cube host network.graph network.one_part (may_all setup (routes_of setup) past network (maps_routes setup network) lawful)

pub delivered_in_order : (setup : Setup) (past : List Entry) → IsNetwork setup → Lawful setup past → DeliveredInOrder setup past
delivered_in_order setup past network lawful = record {
  requests = λ host unit. chained_requests setup past host unit network lawful (requests_law setup past host unit network lawful);
  requests_kept = λ host unit. kept_requests setup past host unit network lawful (requests_law setup past host unit network lawful);
  lifted = λ cube from. lifted_front setup past cube from network lawful;
  taken = λ host. taken_front setup past host network lawful;
  answers = λ cube host. chained_answers setup past cube host network lawful (answers_law setup past cube host network lawful);
  answers_kept = λ cube host. kept_answers setup past cube host network lawful (answers_law setup past cube host network lawful);
  answered = λ host tag. (answers_tags setup past host tag network lawful).answered;
  replied = λ host tag. (answers_tags setup past host tag network lawful).replied;
  out = λ host tag. (answers_tags setup past host tag network lawful).out;
}

-- where no packet is on its way, each request that was given was executed
moves_served : (setup : Setup) (past : List Entry) (host : ℕ) (unit : RequestUnit) → IsNetwork setup → Lawful setup past → IsDrained setup.topology past
    → hop_executed_by host (unit_cube unit) (spot_of unit) (moves setup.topology past) ≡ hop_given_to host (unit_cube unit) (spot_of unit) (moves setup.topology past)
moves_served setup past host unit network lawful drained = by ((routes_of setup).is_goal (ToHost host)) ((routes_of setup).is_goal (ToCube (unit_cube unit))) refl refl
  where
    strange : ((routes_of setup).is_goal (ToHost host) ≡ true → (routes_of setup).is_goal (ToCube (unit_cube unit)) ≡ true → ⊥)
        → hop_executed_by host (unit_cube unit) (spot_of unit) (moves setup.topology past) ≡ hop_given_to host (unit_cube unit) (spot_of unit) (moves setup.topology past)
    strange is =
        let map_of = maps_routes setup network in
        let none : NoneOfRequests (routes_of setup) (moves setup.topology past) host (unit_cube unit) (spot_of unit) =
        requests_none (routes_of setup) (moves setup.topology past) host (unit_cube unit) (spot_of unit) map_of.is (may_all setup (routes_of setup) past network map_of lawful) is in
        none.executed ∙ sym none.given

    by : (known cube : Bool) → (routes_of setup).is_goal (ToHost host) ≡ known → (routes_of setup).is_goal (ToCube (unit_cube unit)) ≡ cube
        → hop_executed_by host (unit_cube unit) (spot_of unit) (moves setup.topology past) ≡ hop_given_to host (unit_cube unit) (spot_of unit) (moves setup.topology past)
    by true true known cube =
        let map_of = maps_routes setup network in
        let served : HopServed (routes_of setup) (moves setup.topology past) = hops_served (routes_of setup) (moves setup.topology past) map_of.is (may_all setup (routes_of setup) past network map_of lawful) (moves_drained setup past network lawful drained) in
        served.executed host (unit_cube unit) (spot_of unit) known cube
    by false cube none is = strange (λ known at. let clash : false ≡ true = sym none ∙ known in cc)
    by true false is none = strange (λ known at. let clash : false ≡ true = sym none ∙ at in cc)

pub all_served : (setup : Setup) (past : List Entry) → IsNetwork setup → Lawful setup past → IsDrained setup.topology past → AllServed setup.topology past
all_served setup past network lawful drained = record {
  executed = λ host unit. sym (executed_are setup host unit past network lawful) ∙ moves_served setup past host unit network lawful drained ∙ given_are setup host unit past network lawful;
  taken = λ host tag.
      let m = routes_of setup in
      let map_of = maps_routes setup network in
      let answered = all_answered m map_of.is (moves setup.topology past) (may_all setup m past network map_of lawful) (keeps_tags setup m past network map_of lawful) host tag (moves_drained setup past network lawful drained) in
      ap length (sym (took_are setup m host tag past network map_of lawful)) ∙ answered ∙ ap length (asked_are setup host tag past network lawful);
}
