-- A cube or a host of a network, as the code finds it and puts it back.
use Rattle.std.proofs.Common.{◌≡◌, ◌<◌, ◌∙◌, ℕ, Option, List, length, ap, ap₂, arith}
use Rattle.std.specs.Prelude.{slice_index_or, slice_set}
use Rattle.hmc_serial.specs.Cube.{CubeState}
use Rattle.hmc_cube.specs.Cube.{CubeFields}
use Rattle.hmc_host.specs.Host.{HostFields}
use Rattle.hmc_units.specs.Unit.{UnitFields}
use Rattle.hmc_link.specs.Held.{LinkHeld}
use Rattle.hmc_entries.specs.declared.entry.Entry.{Entry}
use Rattle.hmc_journal.specs.Setup.{Topology, cubes_in, hosts_in}
use Rattle.hmc_net.specs.Apply.{with_cube}
use Rattle.hmc_kept.specs.Hosts.{with_host, host_in, no_host}
use Rattle.hmc_tally.specs.Tally.{TallyFields}
use Rattle.hmc_net.specs.NetState.{NetState, cube_in, no_cube}
use Rattle.hmc_kept.specs.Pipes.{PipesHeld}
use Rattle.hmc_net.specs.Sees.{IsSized}
use Rattle.hmc_kept.proofs.Elements.{default_same}
use Rattle.hmc_net.proofs.Doing.{with_all, with_parts}

-- the cube that was found is that of the network
pub cube_found : (cubes : List CubeFields) (net : NetState) (at cube : ℕ) (x : CubeFields) → cubes ≡ net.cubes → at ≡ cube → x ≡ slice_index_or cubes at x → IsSized net → cube < cubes_in net.topology → x ≡ cube_in net.cubes cube
cube_found cubes net at cube x same at_is found sized there =
    let inside : cube < length net.cubes = omega (arith, there, sized.cubes) in
    found ∙ ap₂ (λ (l : List CubeFields) (n : ℕ). slice_index_or l n x) same at_is ∙ default_same net.cubes cube x no_cube inside

pub host_found : (hosts : List HostFields) (net : NetState) (at host : ℕ) (x : HostFields) → hosts ≡ net.hosts → at ≡ host → x ≡ slice_index_or hosts at x → IsSized net → host < hosts_in net.topology → x ≡ host_in net.hosts host
host_found hosts net at host x same at_is found sized there =
    let inside : host < length net.hosts = omega (arith, there, sized.hosts) in
    found ∙ ap₂ (λ (l : List HostFields) (n : ℕ). slice_index_or l n x) same at_is ∙ default_same net.hosts host x no_host inside

abbrev pub net_with : TallyFields → PipesHeld → Topology → List CubeFields → List HostFields → List (Option UnitFields) → List LinkHeld → Entry → NetState
net_with tally piped topology cubes hosts slots links last = record { topology = topology; cubes = cubes; hosts = hosts; slots = slots; links = links; tally = tally; piped = piped; last = last }

-- the network with one cube changed, other links and another entry
pub cube_changed : {tally : TallyFields} {piped : PipesHeld} {slots : List (Option UnitFields)} (topology : Topology) (net : NetState) (cubes : List CubeFields) (at cube : ℕ) (x y : CubeFields) (changed : CubeFields → CubeFields) (hosts : List HostFields) (old links : List LinkHeld) (before last entry : Entry)
    → net_with tally piped topology cubes hosts slots old before ≡ net → at ≡ cube → x ≡ cube_in net.cubes cube → y ≡ changed x → last ≡ entry
    → net_with tally piped topology (slice_set cubes at y) hosts slots links last ≡ with_parts net (with_cube cube changed net.cubes) net.hosts links entry
cube_changed topology net cubes at cube x y changed hosts old links before last entry same at_is x_is y_is last_is =
    ap (λ (n : NetState). record n { cubes = slice_set n.cubes at y; links = links; last = last }) same
    ∙ ap₂ (λ (n : ℕ) (z : CubeFields). record net { cubes = slice_set net.cubes n z; links = links; last = last }) at_is (y_is ∙ ap changed x_is)
    ∙ ap (λ (e : Entry). with_parts net (with_cube cube changed net.cubes) net.hosts links e) last_is

-- the network after an execution in one cube
pub cube_ran : {tally : TallyFields} {piped : PipesHeld} (topology : Topology) (net : NetState) (cubes : List CubeFields) (at cube : ℕ) (x y : CubeFields) (changed : List (Option UnitFields) → CubeFields → CubeFields) (hosts : List HostFields) (old slots : List (Option UnitFields))
    (left : CubeState → List (Option UnitFields) → List (Option UnitFields)) (links : List LinkHeld) (before last entry : Entry)
    → net_with tally piped topology cubes hosts old links before ≡ net → at ≡ cube → x ≡ cube_in net.cubes cube → y ≡ changed old x → slots ≡ left x.state old → last ≡ entry
    → net_with tally piped topology (slice_set cubes at y) hosts slots links last ≡ with_all net (with_cube cube (changed net.slots) net.cubes) net.hosts (left (cube_in net.cubes cube).state net.slots) net.links entry
cube_ran topology net cubes at cube x y changed hosts old slots left links before last entry same at_is x_is y_is slots_are last_is =
    let units : old ≡ net.slots = ap (λ (n : NetState). n.slots) same in
    ap (λ (n : NetState). record n { cubes = slice_set n.cubes at y; slots = slots; last = last }) same
    ∙ ap₂ (λ (n : ℕ) (z : CubeFields). record net { cubes = slice_set net.cubes n z; slots = slots; last = last }) at_is (y_is ∙ ap₂ changed units x_is)
    ∙ ap₂ (λ (s : List (Option UnitFields)) (e : Entry). with_all net (with_cube cube (changed net.slots) net.cubes) net.hosts s net.links e) (slots_are ∙ ap₂ (λ (z : CubeFields) (s : List (Option UnitFields)). left z.state s) x_is units) last_is

-- the network with other logic units and another entry
pub units_changed : {tally : TallyFields} {piped : PipesHeld} (topology : Topology) (net : NetState) (cubes : List CubeFields) (hosts : List HostFields) (old slots : List (Option UnitFields)) (changed : List (Option UnitFields) → List (Option UnitFields)) (links : List LinkHeld) (before last entry : Entry)
    → net_with tally piped topology cubes hosts old links before ≡ net → slots ≡ changed old → last ≡ entry → net_with tally piped topology cubes hosts slots links last ≡ record net { slots = changed net.slots; last = entry }
units_changed topology net cubes hosts old slots changed links before last entry same slots_are last_is =
    ap (λ (n : NetState). record n { slots = slots; last = last }) same
    ∙ ap₂ (λ (s : List (Option UnitFields)) (e : Entry). record net { slots = s; last = e }) (slots_are ∙ ap (λ (n : NetState). changed n.slots) same) last_is

-- the network with one cube changed and another entry
pub cube_only : {tally : TallyFields} {piped : PipesHeld} {slots : List (Option UnitFields)} (topology : Topology) (net : NetState) (cubes : List CubeFields) (at cube : ℕ) (x y : CubeFields) (changed : CubeFields → CubeFields) (hosts : List HostFields) (links : List LinkHeld) (before last entry : Entry)
    → net_with tally piped topology cubes hosts slots links before ≡ net → at ≡ cube → x ≡ cube_in net.cubes cube → y ≡ changed x → last ≡ entry
    → net_with tally piped topology (slice_set cubes at y) hosts slots links last ≡ with_parts net (with_cube cube changed net.cubes) net.hosts net.links entry
cube_only topology net cubes at cube x y changed hosts links before last entry same at_is x_is y_is last_is =
    ap (λ (n : NetState). record n { cubes = slice_set n.cubes at y; last = last }) same
    ∙ ap₂ (λ (n : ℕ) (z : CubeFields). record net { cubes = slice_set net.cubes n z; last = last }) at_is (y_is ∙ ap changed x_is)
    ∙ ap (λ (e : Entry). with_parts net (with_cube cube changed net.cubes) net.hosts net.links e) last_is

pub host_changed : {tally : TallyFields} {piped : PipesHeld} {slots : List (Option UnitFields)} (topology : Topology) (net : NetState) (cubes : List CubeFields) (hosts : List HostFields) (at host : ℕ) (x y : HostFields) (changed : HostFields → HostFields) (old links : List LinkHeld) (before last entry : Entry)
    → net_with tally piped topology cubes hosts slots old before ≡ net → at ≡ host → x ≡ host_in net.hosts host → y ≡ changed x → last ≡ entry
    → net_with tally piped topology cubes (slice_set hosts at y) slots links last ≡ with_parts net net.cubes (with_host host changed net.hosts) links entry
host_changed topology net cubes hosts at host x y changed old links before last entry same at_is x_is y_is last_is =
    ap (λ (n : NetState). record n { hosts = slice_set n.hosts at y; links = links; last = last }) same
    ∙ ap₂ (λ (n : ℕ) (z : HostFields). record net { hosts = slice_set net.hosts n z; links = links; last = last }) at_is (y_is ∙ ap changed x_is)
    ∙ ap (λ (e : Entry). with_parts net net.cubes (with_host host changed net.hosts) links e) last_is

-- the network with other links and another entry
pub links_changed : {tally : TallyFields} {piped : PipesHeld} {slots : List (Option UnitFields)} (topology : Topology) (net : NetState) (cubes : List CubeFields) (hosts : List HostFields) (old links : List LinkHeld) (before last entry : Entry) → net_with tally piped topology cubes hosts slots old before ≡ net → last ≡ entry → net_with tally piped topology cubes hosts slots links last ≡ with_parts net net.cubes net.hosts links entry
links_changed topology net cubes hosts old links before last entry same last_is =
    ap (λ (n : NetState). record n { links = links; last = last }) same ∙ ap (λ (e : Entry). with_parts net net.cubes net.hosts links e) last_is

-- the network with another entry
pub entry_changed : {tally : TallyFields} {piped : PipesHeld} {slots : List (Option UnitFields)} (topology : Topology) (net : NetState) (cubes : List CubeFields) (hosts : List HostFields) (links : List LinkHeld) (before last entry : Entry) → net_with tally piped topology cubes hosts slots links before ≡ net → last ≡ entry → net_with tally piped topology cubes hosts slots links last ≡ record net { last = entry }
entry_changed topology net cubes hosts links before last entry same last_is = ap (λ (n : NetState). record n { last = last }) same ∙ ap (λ (e : Entry). record net { last = e }) last_is
