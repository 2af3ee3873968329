-- The steps of a case are steps of the parts of its topology.
use Rattle.std.proofs.Common.{◌≡◌, ◌<◌, ◌+◌, ◌^◌, ◌||◌, ◌∙◌, ℕ, zero, suc, Bool, true, false, if◌then◌else◌, Option, Some, List, [], ◌∷◌, length, map, slice_get, refl, sym, ap, subst, arith, ap₂}
use Rattle.std.specs.Prelude.{slice_index_or}
use Rattle.std.specs.List.{All}
use Rattle.std.specs.Option.{option_map_or}
use Rattle.std.proofs.lemmas.List.FromFn.{get_or-map-range_with_len}
use Rattle.std.proofs.lemmas.List.Elements.{All-head, All-tail}
use Rattle.hmc_codes.specs.Limits.{ports}
use Rattle.hmc_codes.specs.Places.{same_place}
use Rattle.hmc_codes.specs.declared.lift.Lift.{Lift}
use Rattle.hmc_codes.specs.declared.lift.Lift.TheVariants as lifts
use Rattle.hmc_codes.specs.declared.place.Place.{Place}
use Rattle.hmc_codes.specs.declared.place.Place.TheVariants as places
use Rattle.hmc_routes.specs.Directions.{direction_among}
use Rattle.hmc_schedule.specs.declared.step.Step.{Step}
use Rattle.hmc_schedule.specs.declared.step.Step.TheVariants as steps
use Rattle.hmc_schedule.specs.Plan.{IsStepOf, HasFlit, IsPortOf, IsVaultOf, IsBankOf, IsLiftOf, CubePlanFields}
use Rattle.hmc_case.specs.Case.{CaseFields, IsCase}
use Rattle.hmc_case.specs.Net.{NetFields}
use Rattle.hmc_case.specs.Places.{is_taken}
use Rattle.hmc_case.specs.Plan.{ports_of, plans_of, plan_of}
use Rattle.hmc_case.specs.Setup.{CubeSetupFields}
use Rattle.hmc_case.specs.declared.setup.LinkRow.{LinkRow}
use Rattle.hmc_case.proofs.PlanLemmas.{length-plans_of}
use Rattle.hmc_units.specs.Unit.{UnitFields}
use Rattle.hmc_journal.specs.Setup.{Topology, setup_of, no_setup, hosts_in, Setup}
use Rattle.hmc_wiring.specs.Ready.{IsPortIn, IsVaultIn, IsBankIn, IsLiftIn, IsStepFor}
use Rattle.hmc_journal.specs.Network.{IsNetwork}
use Rattle.hmc_wiring.specs.Wiring.{IsLaidOut}

-- the plan of a cube
plan_at : (links : List LinkRow) (n : ℕ) (cubes : List CubeSetupFields) (k : ℕ) → k < length cubes → slice_get (plans_of links n cubes) k ≡ Some (ports_of links (n + k) (slice_index_or cubes k no_setup))
plan_at links n [] k less = absurd (omega arith)
plan_at links n (cube ∷ cubes) zero less = let same : n ≡ n + 0 = omega arith in ap (λ (m : ℕ). Some (ports_of links m cube)) same
plan_at links n (cube ∷ cubes) (suc k) less =
    let same : n + 1 + k ≡ n + suc k = omega arith in plan_at links (n + 1) cubes k (omega arith) ∙ ap (λ (m : ℕ). Some (ports_of links m (slice_index_or cubes k no_setup))) same

planned : (net : NetFields) (cube : ℕ) → cube < length (plans_of net.links 0 net.cubes) → slice_get (plans_of net.links 0 net.cubes) cube ≡ Some (ports_of net.links cube (slice_index_or net.cubes cube no_setup))
planned net cube less =
    let same : 0 + cube ≡ cube = omega arith in
    plan_at net.links 0 net.cubes cube (omega (arith, length-plans_of net.links 0 net.cubes)) ∙ ap (λ (m : ℕ). Some (ports_of net.links m (slice_index_or net.cubes cube no_setup))) same

-- where a link ends, a direction starts
taken_from : (first : ℕ) (links : List LinkRow) (place : Place) → is_taken links place ≡ true → (d : ℕ) × (direction_among first (map (λ (link : LinkRow). link.join) links) place ≡ Some d)
unfolding direction_among
taken_from first [] place is = absurd (cc)
taken_from first (link ∷ links) place is = by_ends (same_place link.join.a place) (same_place link.join.b place) refl refl is (λ later. taken_from (first + 2) links place later)
  where
    by_ends : (a b : Bool) → same_place link.join.a place ≡ a → same_place link.join.b place ≡ b → ((same_place link.join.a place || same_place link.join.b place) || is_taken links place) ≡ true
        → (is_taken links place ≡ true → (d : ℕ) × (direction_among (first + 2) (map (λ (l : LinkRow). l.join) links) place ≡ Some d))
        → (d : ℕ) × ((if same_place link.join.a place then Some first else if same_place link.join.b place then Some (first + 1) else direction_among (first + 2) (map (λ (l : LinkRow). l.join) links) place) ≡ Some d)
    by_ends true b a_is b_is is later = (first, ap (λ (t : Bool). if t then Some first else if same_place link.join.b place then Some (first + 1) else direction_among (first + 2) (map (λ (l : LinkRow). l.join) links) place) a_is)
    by_ends false true a_is b_is is later = (
      first + 1,
      ap (λ (t : Bool). if t then Some first else if same_place link.join.b place then Some (first + 1) else direction_among (first + 2) (map (λ (l : LinkRow). l.join) links) place) a_is
          ∙ ap (λ (t : Bool). if t then Some (first + 1) else direction_among (first + 2) (map (λ (l : LinkRow). l.join) links) place) b_is,
    )
    by_ends false false a_is b_is is later =
        let rest : is_taken links place ≡ true = sym (ap (λ (t : Bool). (t || same_place link.join.b place) || is_taken links place) a_is ∙ ap (λ (t : Bool). t || is_taken links place) b_is) ∙ is in
        let found = later rest in (
          found.0,
          ap (λ (t : Bool). if t then Some first else if same_place link.join.b place then Some (first + 1) else direction_among (first + 2) (map (λ (l : LinkRow). l.join) links) place) a_is
              ∙ ap (λ (t : Bool). if t then Some (first + 1) else direction_among (first + 2) (map (λ (l : LinkRow). l.join) links) place) b_is ∙ found.1,
        )

abbrev topology_for : NetFields → Topology
topology_for net = record { cubes = net.cubes; links = net.links }

cube_fits : (net : NetFields) (cube : ℕ) → cube < length (plans_of net.links 0 net.cubes) → cube < length net.cubes
cube_fits net cube less = omega (arith, length-plans_of net.links 0 net.cubes)

port_fits : (net : NetFields) (cube port : ℕ) → IsPortOf (plan_of net) cube port → IsPortIn (topology_for net) cube port
port_fits net cube port is =
    let joined : is_taken net.links (places.Port cube port) ≡ true =
    sym (ap (λ (o : Option CubePlanFields). option_map_or (λ (fields : CubePlanFields). slice_index_or fields.ports port false) o false) (planned net cube is.some_cube)
    ∙ get_or-map-range_with_len (λ (p : ℕ). is_taken net.links (places.Port cube p)) 0 ports port port false is.some_port (omega arith)) ∙ is.joined in
    let found = taken_from 0 net.links (places.Port cube port) joined in
    record { some_cube = cube_fits net cube is.some_cube; direction = found.0; joined = found.1 }

vault_fits : (net : NetFields) (cube vault : ℕ) → IsVaultOf (plan_of net) cube vault → IsVaultIn (topology_for net) cube vault
vault_fits net cube vault is = record {
  some_cube = cube_fits net cube is.some_cube;
  some_vault = subst (λ (n : ℕ). vault < n) (ap (λ (o : Option CubePlanFields). option_map_or (λ (fields : CubePlanFields). 2 ^ fields.shape.vault_bits) o 0) (planned net cube is.some_cube)) is.some_vault;
}

bank_fits : (net : NetFields) (cube vault bank : ℕ) → IsBankOf (plan_of net) cube vault bank → IsBankIn (topology_for net) cube vault bank
bank_fits net cube vault bank is = record {
  some_vault = vault_fits net cube vault is.some_vault;
  some_bank = subst (λ (n : ℕ). bank < n) (ap (λ (o : Option CubePlanFields). option_map_or (λ (fields : CubePlanFields). 2 ^ fields.shape.bank_bits) o 0) (planned net cube is.some_vault.some_cube)) is.some_bank;
}

lift_fits : (net : NetFields) (cube : ℕ) (from : Lift) → IsLiftOf (plan_of net) cube from → IsLiftIn (topology_for net) cube from
lift_fits net cube (lifts.Vault vault) is = record {
  some_cube = cube_fits net cube is.some_cube;
  some_lift = subst (λ (n : ℕ). vault < n) (ap (λ (o : Option CubePlanFields). option_map_or (λ (fields : CubePlanFields). 2 ^ fields.shape.vault_bits) o 0) (planned net cube is.some_cube)) is.some_lift;
}
lift_fits net cube lifts.Registers is = record { some_cube = cube_fits net cube is.some_cube; some_lift = tt }

step_fits : (net : NetFields) (step : Step) → net.hosts ≡ hosts_in (topology_for net) → IsStepOf (plan_of net) step → HasFlit step → IsStepFor (topology_for net) step
step_fits net (steps.Give host) hosts is has = subst (λ (n : ℕ). host < n) hosts is
step_fits net (steps.Send direction) hosts is has = is
step_fits net (steps.Land direction mask) hosts is has = record { some_direction = is; long = has.long }
step_fits net (steps.Shift cube port) hosts is has = port_fits net cube port is
step_fits net (steps.Spread cube vault) hosts is has = vault_fits net cube vault is
step_fits net (steps.Bank cube vault bank) hosts is has = bank_fits net cube vault bank is
step_fits net (steps.Registers cube) hosts is has = cube_fits net cube is
step_fits net (steps.Lift cube from) hosts is has = lift_fits net cube from is
step_fits net (steps.Take host) hosts is has = subst (λ (n : ℕ). host < n) hosts is
step_fits net (steps.Through cube port) hosts is has = port_fits net cube port is
step_fits net (steps.Unlock direction) hosts is has = is
step_fits net (steps.Retire slot) hosts is has = tt

pub steps_fit : (case : CaseFields) (slots : List (Option UnitFields)) → IsCase case → All (IsStepFor (setup_of case slots).topology) case.schedule
steps_fit case slots is = λ k d there. step_fits case.net (slice_index_or case.schedule k d) is.net.all_hosts (is.schedule k d there) (is.masks k d there)

-- a step of the schedule is one of these steps
pub step_at : (P : Step → Type 0) (schedule : List Step) (at : ℕ) (step : Step) → All P schedule → slice_get schedule at ≡ Some step → P step
step_at P [] at step all is = absurd (cc)
step_at P (first ∷ rest) zero step all is = let same : first ≡ step = cc in subst P same (All-head P first rest all)
step_at P (first ∷ rest) (suc at) step all is = step_at P rest at step (All-tail P first rest all) is

pub laid_out : (setup : Setup) → IsNetwork setup → IsLaidOut setup.topology
laid_out setup network = record { few_links = network.few_links; graph = network.graph; one_part = network.one_part; hosts = network.hosts }

-- the topology of these cubes and links
pub topology_is : (cubes own : List CubeSetupFields) (links rows : List LinkRow) → cubes ≡ own → links ≡ rows → ◌≡◌ {A = Topology} (record { cubes = cubes; links = links }) (record { cubes = own; links = rows })
topology_is cubes own links rows cubes_is links_is = ap₂ (λ (c : List CubeSetupFields) (l : List LinkRow). record { cubes = c; links = l }) cubes_is links_is
