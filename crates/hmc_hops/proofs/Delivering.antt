-- Every flow is delivered in order, and wholly where nothing is on its way.
use Rattle.std.proofs.Common.{◌≡◌, ◌≤◌, ◌∙◌, ℕ, Bool, true, false, Option, Some, None, List, [], ◌∷◌, ◌++◌, map, refl, sym, ap, ap₂, subst, arith, append-nil}
use Rattle.std.proofs.lemmas.Bool.{false_from_ne_true}
use Rattle.hmc_hops.specs.Packets.{Packet, Spot, is_live, is_token}
use Rattle.hmc_hops.specs.Packets.Spot.{Bank, Registers}
use Rattle.hmc_hops.specs.Map.{Map, IsMap, hops_at, route, leg}
use Rattle.hmc_routes.specs.Route.Goal.{ToHost, ToCube}
use Rattle.hmc_hops.specs.Queues.{QueueId}
use Rattle.hmc_hops.specs.Queues.QueueId.{Output, Line, Buffer, Vault, UnitQueue}
use Rattle.hmc_hops.specs.Moves.{Move, contents, MayAll}
use Rattle.hmc_hops.specs.Flows.{Flow, item_if, pick, waiting_at, waiting_along, waiting_inside, requests_to, answers_to, given_to, executed_by, answers_lifted, answers_accepted, answers_taken}
use Rattle.hmc_hops.specs.Delivered.{IsChain, request_route, answer_route, RequestsDelivered, AnswersDelivered, DeliveredInOrder, IsNoLine, NoTokens, IsDrained, AllServed}
use Rattle.hmc_hops.proofs.SameQueue.{live_parts}
use Rattle.hmc_hops.proofs.Telescope.{nothing_waits, chain_along}
use Rattle.hmc_hops.proofs.Requests.{requests_flow, requests_walk, given_is, first_hop, last_hop}
use Rattle.hmc_hops.proofs.Replies.{answers_flow, answers_walk, answers_lifted_is, first_back, last_back}

requests_delivered : (m : Map) (past : List Move) → IsMap m → MayAll m past → (h c : ℕ) (s : Spot) → m.is_goal (ToHost h) ≡ true → m.is_goal (ToCube c) ≡ true → RequestsDelivered m past h c s
unfolding leg
requests_delivered m past map lawful h c s host cube = record {
  all = λ more far. given_is m past map lawful h c more s host cube far;
  chain = λ more far.
      chain_along m (requests_to h c s) (ToCube c) (m.from_host h) past (executed_by h c s past) (requests_walk m h c s past map lawful) (λ i d at end. last_hop m past map lawful h c i d s host cube at end)
      more 0 (m.from_host h) (given_to h c s past) refl far (first_hop m past map lawful h c s host cube);
}

-- a cube that is there sends answers on
pub sends_on : (m : Map) (h c : ℕ) (o : Option ℕ) → IsMap m → m.is_goal (ToHost h) ≡ true → m.is_cube c ≡ true → m.next (ToHost h) c ≡ o → (d : ℕ) × (o ≡ Some d)
sends_on m h c (Some d) map host cube is = (d, refl)
sends_on m h c None map host cube is = let clash : ToHost h ≡ ToCube c = map.arrives (ToHost h) c host cube is in absurd (cc)

along : (m : Map) (past : List Move) → IsMap m → MayAll m past → (c h f : ℕ) → m.is_goal (ToHost h) ≡ true → m.next (ToHost h) c ≡ Some f → AnswersDelivered m past c h
unfolding leg
along m past routes lawful c h f host next = record {
  all = λ more far.
      answers_lifted_is m past routes lawful c h more f host next (subst (λ (k : ℕ). k ≤ more) (routes.nearer (ToHost h) c f next) far)
      ∙ ap (λ (o : Option ℕ). answers_taken m c h past ++ waiting_along m (answers_to c h) past (route m (ToHost h) more o)) (sym next);
  chain = λ more far.
      subst (λ (o : Option ℕ). IsChain (answers_lifted c h past) (map (λ e. answers_accepted c h past e) (route m (ToHost h) more o) ++ answers_taken m c h past ∷ [])) (sym next)
      (chain_along m (answers_to c h) (ToHost h) f past (answers_taken m c h past) (answers_walk m c h f past routes lawful next) (λ i d at end. last_back m past routes lawful c h i f d host next at end)
      more 0 f (answers_lifted c h past) refl (subst (λ (k : ℕ). k ≤ more) (routes.nearer (ToHost h) c f next) far) (first_back m past routes lawful c h f host next));
}

answers_delivered : (m : Map) (past : List Move) → IsMap m → MayAll m past → (c h : ℕ) → m.is_goal (ToHost h) ≡ true → m.is_cube c ≡ true → AnswersDelivered m past c h
answers_delivered m past map lawful c h host cube =
    let f = sends_on m h c (m.next (ToHost h) c) map host cube refl in along m past map lawful c h f.0 host f.1

pub delivered : (m : Map) (past : List Move) → IsMap m → MayAll m past → DeliveredInOrder m past
delivered m past map lawful = record { requests = requests_delivered m past map lawful; answers = answers_delivered m past map lawful }

nothing_at : {X : Type 0} (m : Map) (f : Flow X) (past : List Move) → IsDrained m past → (queue : QueueId) → IsNoLine queue → waiting_at m f past queue ≡ []
unfolding pick
nothing_at m f past drained queue place = ap (pick f) (drained.queues queue place)

none_of : {X : Type 0} (f : Flow X) (xs : List Packet) → ((x : Packet) → f.mine x ≡ true → is_live x ≡ true) → NoTokens xs → pick f xs ≡ []
unfolding pick
none_of f [] live none = refl
none_of f (x ∷ xs) live none =
    ap₂ (λ a b. a ++ b)
    (ap (λ (b : Bool). item_if b (f.value x)) (false_from_ne_true (f.mine x) (λ mine. let on : is_token x.kind ≡ true = (live_parts x (live x mine)).1 in let off : is_token x.kind ≡ false = none.0 in cc)))
    (none_of f xs live none.1)

-- no packet of a flow is in any queue
pub nothing_in : {X : Type 0} (m : Map) (f : Flow X) (past : List Move) → ((x : Packet) → f.mine x ≡ true → is_live x ≡ true) → IsDrained m past → (queue : QueueId) → waiting_at m f past queue ≡ []
nothing_in m f past live drained (Output d) = nothing_at m f past drained (Output d) tt
nothing_in m f past live drained (Line d) = none_of f (contents m past (Line d)) live (drained.lines d)
nothing_in m f past live drained (Buffer d) = nothing_at m f past drained (Buffer d) tt
nothing_in m f past live drained (Vault c v) = nothing_at m f past drained (Vault c v) tt
nothing_in m f past live drained (UnitQueue c s) = nothing_at m f past drained (UnitQueue c s) tt
nothing_in m f past live drained (QueueId.Answers c l) = nothing_at m f past drained (QueueId.Answers c l) tt

nothing_along : {X : Type 0} (m : Map) (f : Flow X) (past : List Move) → ((x : Packet) → f.mine x ≡ true → is_live x ≡ true) → IsDrained m past → (ds : List ℕ) → waiting_along m f past ds ≡ []
nothing_along m f past live drained ds =
    nothing_waits m f past (λ d. ap₂ (λ a b. a ++ b) (nothing_in m f past live drained (Buffer d)) (ap₂ (λ a b. a ++ b) (nothing_in m f past live drained (Line d)) (nothing_in m f past live drained (Output d)))) ds

nothing_inside : {X : Type 0} (m : Map) (f : Flow X) (past : List Move) → IsDrained m past → (c : ℕ) (s : Spot) → waiting_inside m f past c s ≡ []
nothing_inside m f past drained c Registers = nothing_at m f past drained (UnitQueue c Registers) tt
nothing_inside m f past drained c (Bank v b) = ap₂ (λ a b. a ++ b) (nothing_at m f past drained (UnitQueue c (Bank v b)) tt) (nothing_at m f past drained (Vault c v) tt)

all_taken : (m : Map) (past : List Move) → IsMap m → MayAll m past → IsDrained m past → (c h f : ℕ) → m.is_goal (ToHost h) ≡ true → m.is_cube c ≡ true → m.next (ToHost h) c ≡ Some f → answers_taken m c h past ≡ answers_lifted c h past
all_taken m past map lawful drained c h f host cube next =
    sym ((answers_delivered m past map lawful c h host cube).all (m.hops (ToHost h) c) (omega arith)
    ∙ ap (λ l. answers_taken m c h past ++ l) (nothing_along m (answers_to c h) past (answers_flow m c h f next).live drained (answer_route m c h (m.hops (ToHost h) c)))
    ∙ append-nil (answers_taken m c h past))

pub all_served : (m : Map) (past : List Move) → IsMap m → MayAll m past → IsDrained m past → AllServed m past
all_served m past map lawful drained = record {
  executed = λ h c s host cube.
      let more = hops_at m (ToCube c) (m.end_of (m.from_host h)) in
      sym ((requests_delivered m past map lawful h c s host cube).all more (omega arith)
      ∙ ap (λ l. executed_by h c s past ++ l) (ap₂ (λ a b. a ++ b) (nothing_inside m (requests_to h c s) past drained c s) (nothing_along m (requests_to h c s) past (requests_flow m h c s).live drained (request_route m h c more)))
      ∙ append-nil (executed_by h c s past));
  taken = λ c h host cube. let f = sends_on m h c (m.next (ToHost h) c) map host cube refl in all_taken m past map lawful drained c h f.0 host cube f.1;
}
