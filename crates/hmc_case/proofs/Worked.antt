-- Definitions computed at cases of several cubes, links and hosts, and of both profiles.
use Rattle.std.proofs.Common.{◌≡◌, ℕ, zero, suc, List, [], ◌∷◌, ◌++◌, Result, Some, None, Ok, Err, true, false, refl}
use Rattle.std.specs.Prelude.{codes, map, pos, negsuc}
use Rattle.toml.specs.Data.{Data, Items, no_items, item, Members, no_members, member, string, integer, array, table}
use Rattle.hmc_codes.specs.declared.place.Join.{Join}
use Rattle.hmc_codes.specs.declared.place.Place.{Place}
use Rattle.hmc_codes.specs.declared.place.Place.TheVariants.{Host, Port}
use Rattle.hmc_case.specs.declared.fault.CaseKind.{CaseKind}
use Rattle.hmc_case.specs.declared.fault.CaseKind.TheVariants as kinds
use Rattle.hmc_case.specs.declared.fault.Section.{Section}
use Rattle.hmc_case.specs.declared.fault.Section.TheVariants as sections
use Rattle.hmc_case.specs.declared.setup.LinkRow.{LinkRow}
use Rattle.hmc_codes.specs.Link.{LinkFields}
use Rattle.hmc_routes.specs.Distance.{within}
use Rattle.hmc_routes.specs.Neighbours.{joined_to}
use Rattle.hmc_routes.specs.Parted.{parted}
use Rattle.hmc_codes.specs.declared.profile.Profile.{Profile}
use Rattle.hmc_codes.specs.declared.profile.Profile.TheVariants.{One, Two}
use Rattle.hmc_case.specs.declared.keys.Part.TheVariants as tables
use Rattle.hmc_case.specs.Cubes.{block_of, cube_setup_of}
use Rattle.hmc_case.specs.Keys.{is_key, table_of, number_at, text_at, items_at, profile_at}
use Rattle.hmc_case.specs.Links.{link_profile_of, sizes_of, link_of, links_of}
use Rattle.hmc_case.specs.Places.{place_of, is_same_cube, is_taken, ends_of, may_join}
use Rattle.hmc_case.specs.Parts.{parts_of}
use Rattle.hmc_case.specs.Plan.{plan_of}
use Rattle.hmc_case.specs.Net.{NetFields, net_with, net_of}
use Rattle.hmc_case.specs.Reading.{Fault, in_turn, in_section}
use Rattle.hmc_text.specs.Reading.{◌>>=◌}
use Rattle.hmc_case.specs.Setup.{CubeSetupFields}
use Rattle.hmc_case.specs.Together.{total_capacity, in_capacity, hosts_of, host_count, count_from_zero}
use Rattle.hmc_case.specs.Graph.{graph_of, in_one_part}
use Rattle.hmc_case.specs.Kind.{kind_word}

abbrev joined : Place → Place → Join
joined a b = record { a = a; b = b }

abbrev link : Place → Place → LinkRow
link a b = record { join = joined a b; setup = record { line = 8; tokens = 34; retry = 64; output = 4; profile = One } }

abbrev cube : ℕ → CubeSetupFields
cube vault_bits = record { shape = record { vault_bits = vault_bits; bank_bits = 4; rows = 1024; block = 256 }; queue = 4 }

abbrev least_cube : CubeSetupFields
least_cube = record { shape = record { vault_bits = 0; bank_bits = 0; rows = 1; block = 256 }; queue = 1 }

-- host 0 at cube 0, cubes 0 and 1 twice, host 1 at cube 1
abbrev two_cubes : List LinkRow
two_cubes = link (Host 0) (Port 0 0) ∷ link (Port 0 1) (Port 1 0) ∷ link (Port 1 1) (Port 0 2) ∷ link (Port 1 3) (Host 1) ∷ []

place_of-rows : map place_of (codes "h7" ∷ codes "h8" ∷ codes "h00" ∷ codes "H0" ∷ codes "c7.3" ∷ codes "c7.4" ∷ codes "c8.0" ∷ codes "c0:0" ∷ []) ≡
    Some (Host 7) ∷ None ∷ None ∷ None ∷ Some (Port 7 3) ∷ None ∷ None ∷ None ∷ []
place_of-rows = refl

is_same_cube-rows : map (is_same_cube (Port 3 1)) (Port 3 2 ∷ Port 2 1 ∷ Host 3 ∷ []) ≡ true ∷ false ∷ false ∷ []
is_same_cube-rows = refl

is_taken-rows : map (is_taken two_cubes) (Host 0 ∷ Host 1 ∷ Host 2 ∷ Port 0 2 ∷ Port 0 3 ∷ Port 1 2 ∷ Port 2 0 ∷ []) ≡
    true ∷ true ∷ false ∷ true ∷ false ∷ false ∷ false ∷ []
is_taken-rows = refl

-- the first that holds: two hosts, a cube to itself, an end of an earlier link at a or at b
may_join-rows : map (may_join two_cubes) (joined (Host 0) (Host 1) ∷ joined (Port 0 0) (Port 0 3) ∷ joined (Port 0 0) (Port 1 2) ∷ joined (Port 1 2) (Port 0 0) ∷ joined (Port 1 2) (Port 0 3) ∷ []) ≡
    Err kinds.Hosts ∷ Err kinds.SelfJoined ∷ Err kinds.Taken ∷ Err kinds.Taken ∷ Ok tt ∷ []
unfolding may_join
may_join-rows = refl

-- a is judged whole before b; each end may be a host or a port
ends_of-rows : map (λ (ends : List ℕ × List ℕ). ends_of 2 ends.0 ends.1)
    ((codes "h0", codes "c1.3") ∷ (codes "c0.1", codes "c1.0") ∷ (codes "c1.3", codes "h7") ∷ (codes "h0", codes "h0") ∷ (codes "c2.0", codes "x") ∷ (codes "c8.0", codes "c2.0") ∷ (codes "h0", codes "c2.0") ∷ (codes "h0", codes "x") ∷ []) ≡
    Ok (joined (Host 0) (Port 1 3)) ∷ Ok (joined (Port 0 1) (Port 1 0)) ∷ Ok (joined (Port 1 3) (Host 7)) ∷ Ok (joined (Host 0) (Host 0)) ∷ Err kinds.NoCube ∷ Err kinds.Endpoint ∷ Err kinds.NoCube ∷ Err kinds.Endpoint ∷ []
unfolding ends_of
ends_of-rows = refl

-- each has 2^22 bytes times 2^vault_bits
in_capacity-rows : map in_capacity ((cube 1 ∷ cube 1 ∷ []) ∷ (cube 1 ∷ cube 1 ∷ cube 0 ∷ []) ∷ (cube 2 ∷ []) ∷ (cube 3 ∷ []) ∷ []) ≡
    Ok tt ∷ Err kinds.Capacity ∷ Ok tt ∷ Err kinds.Capacity ∷ []
in_capacity-rows = refl

-- 2^24 bytes and the least cube more, which has 256
in_capacity-least_beyond : map in_capacity ((cube 1 ∷ cube 1 ∷ []) ∷ (cube 1 ∷ cube 1 ∷ least_cube ∷ []) ∷ []) ≡ Ok tt ∷ Err kinds.Capacity ∷ []
in_capacity-least_beyond = refl

host_count-two_cubes : host_count two_cubes ≡ 2
host_count-two_cubes = refl

-- by their links, at whichever end
hosts_of-two_cubes : hosts_of two_cubes ≡ 0 ∷ 1 ∷ []
hosts_of-two_cubes = refl

-- none, in any order, a gap, not from 0, one twice
count_from_zero-rows : map count_from_zero ([] ∷ (1 ∷ 0 ∷ []) ∷ (0 ∷ 2 ∷ []) ∷ (1 ∷ []) ∷ (0 ∷ 0 ∷ []) ∷ []) ≡
    Err kinds.Hosts ∷ Ok 2 ∷ Err kinds.Hosts ∷ Err kinds.Hosts ∷ Err kinds.Hosts ∷ []
unfolding count_from_zero
count_from_zero-rows = refl

-- a cube more is not reached
in_one_part-two_cubes : map (λ cubes. in_one_part (graph_of cubes two_cubes)) (2 ∷ 3 ∷ []) ≡ Ok tt ∷ Err kinds.Parted ∷ []
unfolding parted within joined_to
in_one_part-two_cubes = refl

-- a chain of four cubes by links in any order and direction, and the same without its middle
in_one_part-chain : map (λ links. in_one_part (graph_of 4 links)) ((link (Port 3 0) (Port 2 1) ∷ link (Port 0 1) (Port 1 0) ∷ link (Port 2 0) (Port 1 1) ∷ []) ∷ (link (Port 3 0) (Port 2 1) ∷ link (Port 0 1) (Port 1 0) ∷ []) ∷ []) ≡
    Ok tt ∷ Err kinds.Parted ∷ []
unfolding parted within joined_to
in_one_part-chain = refl

-- two directions a link, and each cube's own ports
plan_of-two_cubes : plan_of (record { cubes = cube 0 ∷ cube 1 ∷ []; links = two_cubes; hosts = 2 }) ≡ record {
  hosts = 2;
  directions = 8;
  cubes =
      record { shape = (cube 0).shape; ports = true ∷ true ∷ true ∷ false ∷ [] } ∷
      record { shape = (cube 1).shape; ports = true ∷ true ∷ false ∷ true ∷ [] } ∷ [];
}
plan_of-two_cubes = refl

kind_word-waiting : map kind_word (kinds.SelfJoined ∷ kinds.Taken ∷ kinds.Parted ∷ []) ≡ codes "self" ∷ codes "taken" ∷ codes "parted" ∷ []
kind_word-waiting = refl

-- each table has its own keys and no others
is_key-rows : map (is_key tables.Top) (codes "profile" ∷ codes "schedule" ∷ codes "block" ∷ codes "rows" ∷ []) ≡ true ∷ true ∷ false ∷ false ∷ []
is_key-rows = refl

is_key-cube : map (is_key (tables.Cube One)) (codes "rows" ∷ codes "queue" ∷ codes "block" ∷ codes "profile" ∷ codes "line" ∷ codes "Rows" ∷ []) ≡
    true ∷ true ∷ false ∷ false ∷ false ∷ false ∷ []
is_key-cube = refl

is_key-link : map (is_key (tables.Link One)) (codes "a" ∷ codes "output" ∷ codes "c" ∷ codes "profile" ∷ codes "queue" ∷ codes "block" ∷ []) ≡
    true ∷ true ∷ false ∷ false ∷ false ∷ false ∷ []
is_key-link = refl

-- in profile 2 a cube has its block, and a link its profile
is_key-two : map (is_key (tables.Cube Two)) (codes "rows" ∷ codes "block" ∷ codes "profile" ∷ []) ++ map (is_key (tables.Link Two)) (codes "retry" ∷ codes "profile" ∷ codes "block" ∷ []) ≡
    true ∷ true ∷ false ∷ true ∷ true ∷ false ∷ []
is_key-two = refl

abbrev cube_table : ℕ → ℕ → ℕ → ℕ → Data
cube_table vault_bits bank_bits rows queue = table (member (codes "bank_bits") (integer (pos bank_bits)) (member (codes "queue") (integer (pos queue))
    (member (codes "rows") (integer (pos rows)) (member (codes "vault_bits") (integer (pos vault_bits)) no_members))))

-- the least and the greatest cube
cube_setup_of-ends : map (cube_setup_of One) (cube_table 0 0 1 1 ∷ cube_table 5 4 1024 64 ∷ []) ≡
    Ok least_cube ∷ Ok (record { shape = record { vault_bits = 5; bank_bits = 4; rows = 1024; block = 256 }; queue = 64 }) ∷ []
unfolding cube_setup_of block_of table_of number_at
cube_setup_of-ends = refl

-- each number just past its range
cube_setup_of-beyond : map (cube_setup_of One) (cube_table 6 0 1 1 ∷ cube_table 0 5 1 1 ∷ cube_table 0 0 0 1 ∷ cube_table 0 0 1025 1 ∷ cube_table 0 0 1 0 ∷ cube_table 0 0 1 65 ∷ []) ≡
    Err kinds.Range ∷ Err kinds.Range ∷ Err kinds.Range ∷ Err kinds.Range ∷ Err kinds.Range ∷ Err kinds.Range ∷ []
unfolding cube_setup_of block_of table_of number_at
cube_setup_of-beyond = refl

abbrev with_block : ℕ → Data
with_block block = table (member (codes "bank_bits") (integer (pos 0)) (member (codes "block") (integer (pos block)) (member (codes "queue") (integer (pos 4))
    (member (codes "rows") (integer (pos 4)) (member (codes "vault_bits") (integer (pos 1)) no_members)))))

abbrev of_block : ℕ → CubeSetupFields
of_block block = record { shape = record { vault_bits = 1; bank_bits = 0; rows = 4; block = block }; queue = 4 }

-- a cube has a key for the size of its blocks in profile 2 alone, and must have it there
cube_setup_of-block : map (λ (row : Profile × Data). cube_setup_of row.0 row.1) ((One, with_block 256) ∷ (Two, cube_table 0 0 4 4) ∷ (Two, with_block 64) ∷ []) ≡ Err kinds.Unknown ∷ Err kinds.Missing ∷ Ok (of_block 64) ∷ []
unfolding cube_setup_of block_of table_of number_at
cube_setup_of-block = refl

-- the four sizes, and others
cube_setup_of-sizes : map (λ block. cube_setup_of Two (with_block block)) (32 ∷ 64 ∷ 128 ∷ 256 ∷ 0 ∷ 16 ∷ 48 ∷ 255 ∷ 257 ∷ 512 ∷ []) ≡
    Ok (of_block 32) ∷ Ok (of_block 64) ∷ Ok (of_block 128) ∷ Ok (of_block 256) ∷ Err kinds.Range ∷ Err kinds.Range ∷ Err kinds.Range ∷ Err kinds.Range ∷ Err kinds.Range ∷ Err kinds.Range ∷ []
unfolding cube_setup_of block_of table_of number_at
cube_setup_of-sizes = refl

-- with one vault bit, four rows and blocks of 64 bytes a cube has 512 bytes
total_capacity-block : total_capacity (of_block 64 ∷ []) ≡ 512
total_capacity-block = refl

number_at-negative : number_at (codes "rows") 0 9 (member (codes "rows") (integer (negsuc 0)) no_members) ≡ Err kinds.Range
unfolding number_at
number_at-negative = refl

abbrev sizes_table : ℕ → ℕ → ℕ → ℕ → Members
sizes_table line tokens retry output = member (codes "line") (integer (pos line)) (member (codes "output") (integer (pos output))
    (member (codes "retry") (integer (pos retry)) (member (codes "tokens") (integer (pos tokens)) no_members)))

-- the least and the greatest link
sizes_of-ends : map (sizes_of One) (sizes_table 1 17 17 1 ∷ sizes_table 64 1024 256 64 ∷ []) ≡
    Ok (record { line = 1; tokens = 17; retry = 17; output = 1; profile = One }) ∷
    Ok (record { line = 64; tokens = 1024; retry = 256; output = 64; profile = One }) ∷ []
unfolding sizes_of link_profile_of number_at
sizes_of-ends = refl

-- each number just past its range
sizes_of-beyond : map (sizes_of One) (sizes_table 0 17 17 1 ∷ sizes_table 65 17 17 1 ∷ sizes_table 1 16 17 1 ∷ sizes_table 1 1025 17 1 ∷ sizes_table 1 17 16 1 ∷ sizes_table 1 17 257 1 ∷
    sizes_table 1 17 17 0 ∷ sizes_table 1 17 17 65 ∷ []) ≡
    Err kinds.Range ∷ Err kinds.Range ∷ Err kinds.Range ∷ Err kinds.Range ∷ Err kinds.Range ∷ Err kinds.Range ∷ Err kinds.Range ∷ Err kinds.Range ∷ []
unfolding sizes_of link_profile_of number_at
sizes_of-beyond = refl

abbrev two_table : (retry profile : ℕ) → Members
two_table retry profile = member (codes "line") (integer (pos 8)) (member (codes "output") (integer (pos 4))
    (member (codes "profile") (integer (pos profile)) (member (codes "retry") (integer (pos retry)) (member (codes "tokens") (integer (pos 34)) no_members))))

abbrev sizes_with : ℕ → Profile → LinkFields
sizes_with retry profile = record { line = 8; tokens = 34; retry = retry; output = 4; profile = profile }

-- in profile 2 a link states its own; a retry buffer over 256 flits needs profile 2
sizes_of-two : map (λ (row : ℕ × ℕ). sizes_of Two (two_table row.0 row.1)) ((256, 1) ∷ (257, 1) ∷ (300, 1) ∷ (300, 2) ∷ (1024, 2) ∷ (1025, 2) ∷ (17, 2) ∷ (16, 2) ∷ (64, 0) ∷ (64, 3) ∷ []) ≡
    Ok (sizes_with 256 One) ∷ Err kinds.Range ∷ Err kinds.Range ∷ Ok (sizes_with 300 Two) ∷ Ok (sizes_with 1024 Two) ∷ Err kinds.Range ∷ Ok (sizes_with 17 Two) ∷ Err kinds.Range ∷ Err kinds.Range ∷ Err kinds.Range ∷ []
unfolding sizes_of link_profile_of profile_at number_at
sizes_of-two = refl

-- its profile may not be left out there; retry is judged before output, and output before profile
sizes_of-missing : map (sizes_of Two) (sizes_table 8 34 64 4 ∷ sizes_table 8 34 1025 4 ∷ sizes_table 8 34 64 65 ∷ []) ≡ Err kinds.Missing ∷ Err kinds.Range ∷ Err kinds.Range ∷ []
unfolding sizes_of link_profile_of profile_at number_at
sizes_of-missing = refl

abbrev items : ℕ → Items
items zero = no_items
items (suc n) = item (integer (pos 0)) (items n)

abbrev top_table : (cubes links profile : ℕ) → Members
top_table cubes links profile = member (codes "cubes") (array (items cubes)) (member (codes "links") (array (items links)) (member (codes "profile") (integer (pos profile))
    (member (codes "schedule") (string []) (member (codes "script") (string []) no_members))))

-- the two profiles
parts_of-profile : map (λ profile. parts_of (top_table 1 1 profile)) (1 ∷ 2 ∷ 0 ∷ 3 ∷ []) ≡
    Ok (record { profile = One; cubes = items 1; links = items 1; script = []; schedule = [] }) ∷
    Ok (record { profile = Two; cubes = items 1; links = items 1; script = []; schedule = [] }) ∷ Err kinds.Range ∷ Err kinds.Range ∷ []
unfolding parts_of profile_at number_at items_at text_at
parts_of-profile = refl

-- no cube, nine cubes, no link, 33 links; eight cubes and 32 links
parts_of-counts : map (λ (counts : ℕ × ℕ). parts_of (top_table counts.0 counts.1 1)) ((0, 1) ∷ (9, 1) ∷ (1, 0) ∷ (1, 33) ∷ (8, 32) ∷ []) ≡
    Err kinds.Range ∷ Err kinds.Range ∷ Err kinds.Range ∷ Err kinds.Range ∷ Ok (record { profile = One; cubes = items 8; links = items 32; script = []; schedule = [] }) ∷ []
unfolding parts_of profile_at number_at items_at text_at
parts_of-counts = refl

abbrev at_second : CaseKind → Fault
at_second kind = record { section = sections.Link; line = 1; kind = kind }

abbrev link_table : List ℕ → List ℕ → ℕ → Data
link_table a b line = table (member (codes "a") (string a) (member (codes "b") (string b) (member (codes "line") (integer (pos line))
    (member (codes "output") (integer (pos 4)) (member (codes "retry") (integer (pos 64)) (member (codes "tokens") (integer (pos 34)) no_members))))))

-- each link is judged whole before the next, beside those before it
links_of-rows : map (λ second. links_of One 2 (item (link_table (codes "h0") (codes "c0.0") 8) (item second no_items)))
    (link_table (codes "h1") (codes "c1.3") 8 ∷ link_table (codes "h0") (codes "c1.3") 8 ∷ link_table (codes "h1") (codes "c0.0") 8 ∷ link_table (codes "h0") (codes "c0.0") 65 ∷ []) ≡
    Ok (link (Host 0) (Port 0 0) ∷ link (Host 1) (Port 1 3) ∷ []) ∷ Err (at_second kinds.Taken) ∷ Err (at_second kinds.Taken) ∷ Err (at_second kinds.Range) ∷ []
unfolding in_turn link_of table_of text_at number_at sizes_of link_profile_of ends_of may_join
links_of-rows = refl

-- A document of this profile with these cubes and links, and what is read of it.
abbrev items_in : List Data → Items
items_in [] = no_items
items_in (value ∷ values) = item value (items_in values)

abbrev document : (profile : ℕ) → List Data → List Data → Members
document profile cubes links = member (codes "cubes") (array (items_in cubes)) (member (codes "links") (array (items_in links)) (member (codes "profile") (integer (pos profile))
    (member (codes "schedule") (string []) (member (codes "script") (string []) no_members))))

abbrev read : Members → Result NetFields Fault
read keys = in_section sections.Top 0 (parts_of keys) >>= (λ parts. net_of parts.profile parts.cubes parts.links)

abbrev refused : Section → ℕ → CaseKind → Result NetFields Fault
refused section line kind = Err (record { section = section; line = line; kind = kind })

abbrev small : CubeSetupFields
small = record { shape = record { vault_bits = 0; bank_bits = 0; rows = 4; block = 256 }; queue = 4 }

abbrev small_table : Data
small_table = cube_table 0 0 4 4

abbrev small_with_block : ℕ → Data
small_with_block block = table (member (codes "bank_bits") (integer (pos 0)) (member (codes "block") (integer (pos block)) (member (codes "queue") (integer (pos 4))
    (member (codes "rows") (integer (pos 4)) (member (codes "vault_bits") (integer (pos 0)) no_members)))))

abbrev joining : List ℕ → List ℕ → Data
joining a b = link_table a b 8

abbrev first_link : Data
first_link = joining (codes "h0") (codes "c0.0")

abbrev first_link_with : (retry profile : ℕ) → Data
first_link_with retry profile = table (member (codes "a") (string (codes "h0")) (member (codes "b") (string (codes "c0.0")) (two_table retry profile)))

abbrev own_sizes : LinkFields → LinkRow
own_sizes sizes = record { join = joined (Host 0) (Port 0 0); setup = sizes }

read-one_cube : read (document 1 (small_table ∷ []) (first_link ∷ [])) ≡ Ok (net_with (small ∷ []) (link (Host 0) (Port 0 0) ∷ []))
unfolding parts_of profile_at items_at net_of in_turn cube_setup_of block_of link_of table_of text_at number_at sizes_of link_profile_of ends_of may_join count_from_zero parted within joined_to
read-one_cube = refl

-- the same with profile 2 alone, with its block, with another block
read-two : map read (document 2 (small_table ∷ []) (first_link ∷ []) ∷ document 2 (small_with_block 256 ∷ []) (first_link ∷ []) ∷ document 2 (small_with_block 48 ∷ []) (first_link ∷ []) ∷ []) ≡
    refused sections.Cube 0 kinds.Missing ∷ refused sections.Link 0 kinds.Missing ∷ refused sections.Cube 0 kinds.Range ∷ []
unfolding parts_of profile_at items_at net_of in_turn cube_setup_of block_of link_of table_of text_at number_at sizes_of link_profile_of ends_of may_join count_from_zero parted within joined_to
read-two = refl

-- and with the profile of the link, under retry buffers of several sizes
read-link_profiles : map (λ (row : ℕ × ℕ). read (document 2 (small_with_block 256 ∷ []) (first_link_with row.0 row.1 ∷ []))) ((300, 1) ∷ (300, 2) ∷ (1024, 2) ∷ (1025, 2) ∷ []) ≡
    refused sections.Link 0 kinds.Range ∷ Ok (net_with (small ∷ []) (own_sizes (sizes_with 300 Two) ∷ [])) ∷ Ok (net_with (small ∷ []) (own_sizes (sizes_with 1024 Two) ∷ [])) ∷
    refused sections.Link 0 kinds.Range ∷ []
unfolding parts_of profile_at items_at net_of in_turn cube_setup_of block_of link_of table_of text_at number_at sizes_of link_profile_of ends_of may_join count_from_zero parted within joined_to
read-link_profiles = refl

-- in profile 1 neither key is known
read-unknown : map read (document 1 (small_with_block 256 ∷ []) (first_link_with 64 1 ∷ []) ∷ document 1 (small_table ∷ []) (first_link_with 64 1 ∷ []) ∷ []) ≡
    refused sections.Cube 0 kinds.Unknown ∷ refused sections.Link 0 kinds.Unknown ∷ []
unfolding parts_of profile_at items_at net_of in_turn cube_setup_of block_of link_of table_of text_at number_at sizes_of link_profile_of ends_of may_join count_from_zero parted within joined_to
read-unknown = refl

-- no host; two cubes of which one has no link; and each pair of faults in one case, of which the
-- first is found: the capacity and a link's end, a link's end and a host that is missing, a host
-- that is missing and a cube that isn't reached
read-faults_of_nets : map read (
    document 1 (small_table ∷ small_table ∷ []) (joining (codes "c0.0") (codes "c1.0") ∷ []) ∷
    document 1 (small_table ∷ small_table ∷ []) (first_link ∷ []) ∷
    document 1 (cube_table 3 4 1024 4 ∷ []) (joining (codes "x") (codes "c0.0") ∷ []) ∷
    document 1 (small_table ∷ small_table ∷ []) (joining (codes "h1") (codes "c0.0") ∷ joining (codes "c0.0") (codes "c1.0") ∷ []) ∷
    document 1 (small_table ∷ small_table ∷ []) (joining (codes "h1") (codes "c0.0") ∷ []) ∷ []) ≡
    refused sections.Net 0 kinds.Hosts ∷ refused sections.Net 0 kinds.Parted ∷ refused sections.Net 0 kinds.Capacity ∷ refused sections.Link 1 kinds.Taken ∷ refused sections.Net 0 kinds.Hosts ∷ []
unfolding parts_of profile_at items_at net_of in_turn cube_setup_of block_of link_of table_of text_at number_at sizes_of link_profile_of ends_of may_join count_from_zero parted within joined_to
read-faults_of_nets = refl

-- eight cubes in a row, and a host at each end
read-chain : read (document 1 (small_table ∷ small_table ∷ small_table ∷ small_table ∷ small_table ∷ small_table ∷ small_table ∷ small_table ∷ [])
    (first_link ∷ joining (codes "c0.1") (codes "c1.0") ∷ joining (codes "c1.1") (codes "c2.0") ∷ joining (codes "c2.1") (codes "c3.0") ∷ joining (codes "c3.1") (codes "c4.0") ∷
    joining (codes "c4.1") (codes "c5.0") ∷ joining (codes "c5.1") (codes "c6.0") ∷ joining (codes "c6.1") (codes "c7.0") ∷ joining (codes "h1") (codes "c7.1") ∷ [])) ≡
    Ok (net_with (small ∷ small ∷ small ∷ small ∷ small ∷ small ∷ small ∷ small ∷ [])
    (link (Host 0) (Port 0 0) ∷ link (Port 0 1) (Port 1 0) ∷ link (Port 1 1) (Port 2 0) ∷ link (Port 2 1) (Port 3 0) ∷ link (Port 3 1) (Port 4 0) ∷ link (Port 4 1) (Port 5 0) ∷
    link (Port 5 1) (Port 6 0) ∷ link (Port 6 1) (Port 7 0) ∷ link (Host 1) (Port 7 1) ∷ []))
unfolding parts_of profile_at items_at net_of in_turn cube_setup_of block_of link_of table_of text_at number_at sizes_of link_profile_of ends_of may_join count_from_zero parted within joined_to
read-chain = refl
