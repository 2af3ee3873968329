-- What is promised of requests and answers on every route.
use Rattle.std.specs.Prelude.{◌≡◌, ◌≤◌, ℕ, true, false, List, [], ◌∷◌, ◌++◌, map, Option, Some}
use Rattle.hmc_hops.specs.Packets.{Packet, Spot, is_token}
use Rattle.hmc_hops.specs.Map.{Map, route, hops_at, leg}
use Rattle.hmc_routes.specs.Route.Goal.{ToHost, ToCube}
use Rattle.hmc_hops.specs.Queues.{QueueId}
use Rattle.hmc_hops.specs.Queues.QueueId.{Line}
use Rattle.hmc_hops.specs.Moves.{Move, contents}
use Rattle.hmc_hops.specs.Flows.{waiting_at, waiting_along, waiting_inside, requests_to, answers_to, given_to, requests_accepted, executed_by, answers_lifted, answers_accepted, answers_taken}

-- the one list is a prefix of the other
abbrev pub IsPrefix : {X : Type 0} → List X → List X → Type 0
IsPrefix {X = X} front whole = (rest : List X) × (whole ≡ front ++ rest)

-- each list is a prefix of the one before it
abbrev pub IsChain : {X : Type 0} → (whole : List X) → (fronts : List (List X)) → Type 0
IsChain whole [] = Unit {0}
IsChain whole (front ∷ fronts) = IsPrefix front whole × IsChain front fronts

-- direction i of the route from a host to a cube
abbrev pub request_leg : Map → (host cube : ℕ) → ℕ → Option ℕ
request_leg m h c i = leg m (ToCube c) (Some (m.from_host h)) i

-- the directions of that route, where it has at most so many after the first
abbrev pub request_route : Map → (host cube : ℕ) → ℕ → List ℕ
request_route m h c more = route m (ToCube c) more (Some (m.from_host h))

-- direction i of the route from a cube to a host
abbrev pub answer_leg : Map → (cube host : ℕ) → ℕ → Option ℕ
answer_leg m c h i = leg m (ToHost h) (m.next (ToHost h) c) i

-- the directions of that route, where it has at most so many after the first
abbrev pub answer_route : Map → (cube host : ℕ) → ℕ → List ℕ
answer_route m c h more = route m (ToHost h) more (m.next (ToHost h) c)

-- The requests of a host to a unit arrive in order, and none is lost or made.
pub record RequestsDelivered (m : Map) (past : List Move) (h c : ℕ) (s : Spot) : Type 0 where
  -- those given are those executed, then those that wait in the cube, then those that wait on the
  -- route, the foremost first
  pub all : (more : ℕ) → hops_at m (ToCube c) (m.end_of (m.from_host h)) ≤ more →
      given_to h c s past
      ≡ executed_by h c s past ++
      (waiting_inside m (requests_to h c s) past c s ++
      waiting_along m (requests_to h c s) past (request_route m h c more))
  -- so those accepted on the first direction are a prefix of those given, those accepted on each
  -- further direction a prefix of the ones before, and those executed a prefix of the last
  pub chain : (more : ℕ) → hops_at m (ToCube c) (m.end_of (m.from_host h)) ≤ more →
      IsChain (given_to h c s past)
      (map (requests_accepted h c s past) (request_route m h c more)
      ++ executed_by h c s past ∷ [])

-- The answers of a cube to a host arrive in order, and none is lost or made.
pub record AnswersDelivered (m : Map) (past : List Move) (c h : ℕ) : Type 0 where
  -- those lifted are those taken, then those that wait on the route, the foremost first
  pub all : (more : ℕ) → m.hops (ToHost h) c ≤ more →
      answers_lifted c h past
      ≡ answers_taken m c h past ++
      waiting_along m (answers_to c h) past (answer_route m c h more)
  -- so those accepted on the first direction are a prefix of those lifted, those accepted on each
  -- further direction a prefix of the ones before, and those taken a prefix of the last
  pub chain : (more : ℕ) → m.hops (ToHost h) c ≤ more →
      IsChain (answers_lifted c h past)
      (map (answers_accepted c h past) (answer_route m c h more) ++ answers_taken m c h past ∷ [])

-- every flow between hosts and cubes that are there
pub record DeliveredInOrder (m : Map) (past : List Move) : Type 0 where
  pub requests : (h c : ℕ) (s : Spot) → m.is_goal (ToHost h) ≡ true → m.is_goal (ToCube c) ≡ true →
      RequestsDelivered m past h c s
  pub answers : (c h : ℕ) → m.is_goal (ToHost h) ≡ true → m.is_cube c ≡ true →
      AnswersDelivered m past c h

-- the host or the cube isn't there
abbrev pub IsStranger : Map → (host cube : ℕ) → Type 0
IsStranger m h c = m.is_goal (ToHost h) ≡ true → m.is_goal (ToCube c) ≡ true → ⊥

-- no request that counts goes from a host to a unit
pub record NoneOfRequests (m : Map) (past : List Move) (h c : ℕ) (s : Spot) : Type 0 where
  pub given : given_to h c s past ≡ []
  pub accepted : (d : ℕ) → requests_accepted h c s past d ≡ []
  pub executed : executed_by h c s past ≡ []
  pub waiting : (queue : QueueId) → waiting_at m (requests_to h c s) past queue ≡ []

-- no answer that counts goes from a cube to a host
pub record NoneOfAnswers (m : Map) (past : List Move) (c h : ℕ) : Type 0 where
  pub lifted : answers_lifted c h past ≡ []
  pub accepted : (d : ℕ) → answers_accepted c h past d ≡ []
  pub taken : answers_taken m c h past ≡ []
  pub waiting : (queue : QueueId) → waiting_at m (answers_to c h) past queue ≡ []

-- a queue that is no line
abbrev pub IsNoLine : QueueId → Type 0
IsNoLine (Line d) = ⊥
IsNoLine _ = Unit {0}

-- packets that only return tokens
abbrev pub NoTokens : List Packet → Type 0
NoTokens [] = Unit {0}
NoTokens (x ∷ xs) = (is_token x.kind ≡ false) × NoTokens xs

-- No packet is on its way: the queues are empty, and lines have at most packets that only return
-- tokens.
pub record IsDrained (m : Map) (past : List Move) : Type 0 where
  pub queues : (queue : QueueId) → IsNoLine queue → contents m past queue ≡ []
  pub lines : (d : ℕ) → NoTokens (contents m past (Line d))

-- what holds then: each request that isn't poisoned was executed, and each answer that was lifted
-- was taken
pub record AllServed (m : Map) (past : List Move) : Type 0 where
  pub executed : (h c : ℕ) (s : Spot) → m.is_goal (ToHost h) ≡ true → m.is_goal (ToCube c) ≡ true →
      executed_by h c s past ≡ given_to h c s past
  pub taken : (c h : ℕ) → m.is_goal (ToHost h) ≡ true → m.is_cube c ≡ true →
      answers_taken m c h past ≡ answers_lifted c h past
