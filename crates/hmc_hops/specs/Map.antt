-- What is known of routes: where a packet goes from a cube, and how far that is.
use Rattle.std.specs.Prelude.{◌≡◌, ℕ, zero, suc, Bool, true, List, [], ◌∷◌, Option, Some, None}
use Rattle.hmc_routes.specs.Route.{Goal}
use Rattle.hmc_routes.specs.Route.Goal.{ToHost, ToCube}
use Rattle.hmc_hops.specs.Packets.{Packet, Kind}
use Rattle.hmc_hops.specs.Packets.Kind.{Replies}

-- where a direction starts or ends: a host, or some port of a cube
pub data End : Type 0 where
  Host : ℕ → End
  Cube : ℕ → End

-- the ends of each direction, and the routes to each goal
pub record Map : Type 0 where
  pub start_of : (direction : ℕ) → End
  pub end_of : (direction : ℕ) → End
  pub from_host : (host : ℕ) → ℕ  -- the direction that starts at a host
  pub next : Goal → (cube : ℕ) → Option ℕ  -- the direction from a cube to a goal, None at the goal
  pub hops : Goal → (cube : ℕ) → ℕ  -- from a cube to a goal, those between cubes
  pub is_cube : ℕ → Bool  -- the cube is there
  pub is_goal : Goal → Bool  -- the goal is there

-- the hops from an end to a goal; a host is one nearer than its cube
abbrev pub hops_at : Map → Goal → End → ℕ
hops_at m goal (Host h) = 0
hops_at m goal (Cube c) = suc (m.hops goal c)

-- the direction that follows one which ends here
abbrev pub after_end : Map → Goal → End → Option ℕ
after_end m goal (Host h) = None
after_end m goal (Cube c) = m.next goal c

-- the direction that follows another on the route to a goal
abbrev pub after : Map → Goal → Option ℕ → Option ℕ
after m goal None = None
after m goal (Some d) = after_end m goal (m.end_of d)

-- the direction of a route with a number, from 0 on
unfoldable pub leg : Map → Goal → (first : Option ℕ) → ℕ → Option ℕ
leg m goal first zero = first
leg m goal first (suc i) = after m goal (leg m goal first i)

-- the directions of a route from one on, with at most so many after it
unfoldable pub route : Map → Goal → (more : ℕ) → Option ℕ → List ℕ
route m goal more None = []
route m goal zero (Some d) = d ∷ []
route m goal (suc more) (Some d) = d ∷ route m goal more (after m goal (Some d))

-- the goal of a packet of a kind between a host and a cube
abbrev pub goal_by : Kind → (host cube : ℕ) → Goal
goal_by Replies host cube = ToHost host
goal_by _ host cube = ToCube cube

-- where a packet goes
abbrev pub goal_of : Packet → Goal
goal_of x = goal_by x.kind x.host x.cube

-- the first direction of the route of a packet of a kind
abbrev pub first_by : Map → Kind → (host cube : ℕ) → Option ℕ
first_by m Replies host cube = m.next (ToHost host) cube
first_by m _ host cube = Some (m.from_host host)

-- the first direction of a packet's route
abbrev pub first_of : Map → Packet → Option ℕ
first_of m x = first_by m x.kind x.host x.cube

-- The routes fit one another: each direction comes nearer, and a route ends at its goal alone.
pub record IsMap (m : Map) : Type 0 where
  -- a cube is one hop farther than the end of the direction that it sends on
  pub nearer : (goal : Goal) (c d : ℕ) → m.next goal c ≡ Some d →
      m.hops goal c ≡ hops_at m goal (m.end_of d)
  -- that direction starts at the cube
  pub starts : (goal : Goal) (c d : ℕ) → m.next goal c ≡ Some d → m.start_of d ≡ Cube c
  -- a cube that sends nothing on is the goal
  pub arrives : (goal : Goal) (c : ℕ) → m.is_goal goal ≡ true → m.is_cube c ≡ true →
      m.next goal c ≡ None → goal ≡ ToCube c
  -- a route ends at no host but its goal
  pub reaches : (goal : Goal) (c d h : ℕ) → m.next goal c ≡ Some d → m.end_of d ≡ Host h →
      goal ≡ ToHost h
  -- a cube sends nothing on that is for it
  pub stops : (c : ℕ) → m.next (ToCube c) c ≡ None
  -- a direction ends at a cube that is there, or at a host
  pub cubes : (d c : ℕ) → m.end_of d ≡ Cube c → m.is_cube c ≡ true
  -- a host has one link, to a cube
  pub host_starts : (h : ℕ) → m.is_goal (ToHost h) ≡ true → m.start_of (m.from_host h) ≡ Host h
  pub host_ends : (h : ℕ) → m.is_goal (ToHost h) ≡ true →
      (c : ℕ) × (m.end_of (m.from_host h) ≡ Cube c)
