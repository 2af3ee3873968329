-- The directions that start and end at places.
use Rattle.std.proofs.Common.{◌≡◌, ◌<◌, ◌*◌, ◌∙◌, ℕ, Option, Some, None, length, refl, sym, subst, arith}
use Rattle.std.specs.Prelude.{option_map}
use Rattle.std.proofs.lemmas.List.{length-map}
use Rattle.hmc_codes.specs.declared.place.Place.{Place}
use Rattle.hmc_case.specs.declared.setup.LinkRow.{LinkRow}
use Rattle.hmc_routes.specs.Directions.{other}
use Rattle.hmc_journal.specs.Links.{direction_to}
use Rattle.hmc_journal.specs.Setup.{Topology, joins_of, directions_in, direction_from, end_of}
use Rattle.hmc_journal.proofs.Joins.{from_place, start_is_end, other_inside}

-- ---- directions and places

pub starts_there : (topology : Topology) (place : Place) (d : ℕ) → direction_from topology place ≡ Some d → d < directions_in topology
starts_there topology place d is =
    let at = from_place (joins_of topology) place d is in
    let inside : d < 2 * length (joins_of topology) = at.inside in omega (arith, length-map topology.links (λ (link : LinkRow). link.join))

pub record EndsAt (topology : Topology) (place : Place) (d : ℕ) : Type 0 where
  pub there : d < directions_in topology
  pub ends : end_of topology d ≡ place

to_by : (topology : Topology) (place : Place) (d : ℕ) (found : Option ℕ) → direction_from topology place ≡ found → option_map other found ≡ Some d → EndsAt topology place d
to_by topology place d None is to = absurd (cc)
to_by topology place d (Some e) is to =
    let same : other e ≡ d = cc in
    let at = from_place (joins_of topology) place e is in
    subst (EndsAt topology place) same (record {
      there = other_inside e (length topology.links) (starts_there topology place e is);
      ends = sym (start_is_end (joins_of topology) e) ∙ at.starts;
    })

pub ends_at : (topology : Topology) (place : Place) (d : ℕ) → direction_to topology place ≡ Some d → EndsAt topology place d
ends_at topology place d to = to_by topology place d (direction_from topology place) refl to
