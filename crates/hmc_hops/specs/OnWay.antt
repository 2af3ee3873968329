-- Where a packet may be: in queues on its own way alone.
use Rattle.std.specs.Prelude.{◌≡◌, ℕ, true, false, Some}
use Rattle.hmc_routes.specs.Route.Goal.{ToHost, ToCube}
use Rattle.hmc_hops.specs.Packets.{Packet, is_live, is_token, is_request}
use Rattle.hmc_hops.specs.Packets.Spot.{Bank}
use Rattle.hmc_hops.specs.Packets.Kind.{Replies}
use Rattle.hmc_hops.specs.Map.{Map, goal_of, first_of, leg}
use Rattle.hmc_hops.specs.Queues.{QueueId}
use Rattle.hmc_hops.specs.Queues.QueueId.{Output, Line, Buffer, Vault, UnitQueue, Answers}

-- the host and the cube of a packet are there
pub record IsKnown (m : Map) (x : Packet) : Type 0 where
  pub host : m.is_goal (ToHost x.host) ≡ true
  pub cube : m.is_goal (ToCube x.cube) ≡ true

-- the direction is one of the packet's route
pub record IsOnRoute (m : Map) (d : ℕ) (x : Packet) : Type 0 where
  pub known : IsKnown m x
  pub index : ℕ
  pub is : leg m (goal_of x) (first_of m x) index ≡ Some d

-- a request in the cube that it is for
pub record IsInCube (m : Map) (c : ℕ) (x : Packet) : Type 0 where
  pub known : IsKnown m x
  pub request : is_request x.kind ≡ true
  pub clean : x.poisoned ≡ false
  pub cube : x.cube ≡ c
  pub is_cube : m.is_cube c ≡ true

-- an answer in the cube that it comes from
pub record IsFromCube (m : Map) (c : ℕ) (x : Packet) : Type 0 where
  pub known : IsKnown m x
  pub reply : x.kind ≡ Replies
  pub clean : x.poisoned ≡ false
  pub cube : x.cube ≡ c
  pub is_cube : m.is_cube c ≡ true

-- What a queue may hold. On a direction each packet that counts is on its route, and a buffer holds
-- requests and answers alone. In a cube there are requests to it, each in the queue of its vault or
-- its unit, and answers from it; none of them is poisoned.
abbrev pub IsOnWay : Map → QueueId → Packet → Type 0
IsOnWay m (Output d) x = is_live x ≡ true → IsOnRoute m d x
IsOnWay m (Line d) x = is_live x ≡ true → IsOnRoute m d x
IsOnWay m (Buffer d) x = (is_token x.kind ≡ true) × (is_live x ≡ true → IsOnRoute m d x)
IsOnWay m (Vault c v) x = IsInCube m c x × ((b : ℕ) × (x.spot ≡ Bank v b))
IsOnWay m (UnitQueue c s) x = IsInCube m c x × (x.spot ≡ s)
IsOnWay m (Answers c from) x = IsFromCube m c x

-- a packet that counts is an answer to this host
abbrev pub IsAnswerFor : (host : ℕ) → Packet → Type 0
IsAnswerFor h x = is_live x ≡ true → (x.kind ≡ Replies) × (x.host ≡ h)
