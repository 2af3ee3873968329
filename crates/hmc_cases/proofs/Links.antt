-- Each link that is read is one of a case, given the links before it.
use Rattle.std.proofs.Common.{◌≡◌, ◌≤◌, ℕ, nat_le, true, not, ◌&&◌, ◌||◌, List, [], ◌∷◌, ◌++◌, length, codes, refl, leb-true}
use Rattle.std.proofs.lemmas.Bool.{not-true, or_parts}
use Rattle.toml.specs.Data.{Data, Items, Members}
use Rattle.hmc_codes.specs.Limits.{most_queue, most_line, most_tokens, least_flits}
use Rattle.hmc_codes.specs.Link.{IsLinkSetup}
use Rattle.hmc_codes.specs.Places.{is_host}
use Rattle.hmc_codes.specs.Profile.{most_retry}
use Rattle.hmc_codes.specs.declared.place.Join.{Join}
use Rattle.hmc_codes.specs.declared.profile.Profile.{Profile}
use Rattle.hmc_codes.specs.declared.profile.Profile.TheVariants.{One, Two}
use Rattle.hmc_routes.specs.WellFormed.{is_there}
use Rattle.hmc_text.specs.Reading.{or_fault}
use Rattle.hmc_case.proofs.GraphLemmas.{apart_from, no-links, links-more}
use Rattle.hmc_case.specs.Graph.{AreLinks}
use Rattle.hmc_case.specs.Keys.{table_of, text_at, count_of, profile_at}
use Rattle.hmc_case.specs.Links.{link_profile_of, sizes_of, link_of, next_link, links_of}
use Rattle.hmc_case.specs.Places.{place_of, is_same_cube, is_taken, ends_of, may_join, IsNewJoin}
use Rattle.hmc_case.specs.declared.fault.CaseKind.TheVariants as kinds
use Rattle.hmc_case.specs.declared.fault.Section.TheVariants as sections
use Rattle.hmc_case.specs.declared.keys.Part.TheVariants as parts
use Rattle.hmc_case.specs.declared.setup.LinkRow.{LinkRow}
use Rattle.hmc_cases.proofs.Keys.{integer_known}
use Rattle.hmc_cases.proofs.Reading.{IfRead, value, after, after_any, so, both, tested, in_section_too, all_rows, rows_counted}

-- sizes

profile_known : (profile : Profile) (retry : ℕ) (table : Members) → retry ≤ most_retry profile
    → IfRead (link_profile_of profile retry table) (λ own. retry ≤ most_retry own)
unfolding link_profile_of
profile_known One retry table small = value small
profile_known Two retry table small =
    after_any (profile_at table) (λ own.
    after (tested kinds.Range (nat_le retry (most_retry own))) (λ done is.
    value (leb-true retry (most_retry own) is)))

sizes_known : (profile : Profile) (table : Members) → IfRead (sizes_of profile table) IsLinkSetup
unfolding sizes_of
sizes_known profile table =
    after (integer_known (codes "line") 1 most_line table) (λ line in_line.
    after (integer_known (codes "tokens") least_flits most_tokens table) (λ tokens in_tokens.
    after (integer_known (codes "retry") least_flits (most_retry profile) table) (λ retry in_retry.
    after (integer_known (codes "output") 1 most_queue table) (λ output in_output.
    after (profile_known profile retry table in_retry.most_is) (λ own fits.
    value (record {
      some_line = in_line.least_is;
      line = in_line.most_is;
      some_tokens = in_tokens.least_is;
      tokens = in_tokens.most_is;
      some_retry = in_retry.least_is;
      retry = fits;
      some_output = in_output.least_is;
      output = in_output.most_is;
    }))))))

-- ends

record AreThere (cubes : ℕ) (join : Join) : Type 0 where
  a : is_there cubes join.a ≡ true
  b : is_there cubes join.b ≡ true

ends_known : (cubes : ℕ) (a b : List ℕ) → IfRead (ends_of cubes a b) (AreThere cubes)
unfolding ends_of
ends_known cubes a b =
    after_any (or_fault kinds.Endpoint (place_of a)) (λ first.
    after (tested kinds.NoCube (is_there cubes first)) (λ done at_first.
    after_any (or_fault kinds.Endpoint (place_of b)) (λ second.
    after (tested kinds.NoCube (is_there cubes second)) (λ done at_second.
    value (record { a = at_first; b = at_second })))))

join_known : (cubes : ℕ) (links : List LinkRow) (join : Join) → AreThere cubes join
    → IfRead (may_join links join) (λ done. IsNewJoin cubes links join)
unfolding may_join
join_known cubes links join there =
    let hosts = is_host join.a && is_host join.b in
    let itself = is_same_cube join.a join.b in
    let taken = is_taken links join.a || is_taken links join.b in
    after (tested kinds.Hosts (not hosts)) (λ done no_hosts.
    after (tested kinds.SelfJoined (not itself)) (λ done not_itself.
    so (tested kinds.Taken (not taken)) (λ done free.
    let each_free = or_parts (is_taken links join.a) (is_taken links join.b) (not-true taken free) in
    record {
      a = there.a;
      b = there.b;
      apart = apart_from join.a join.b (not-true hosts no_hosts) (not-true itself not_itself);
      a_free = each_free.0;
      b_free = each_free.1;
    })))

-- links

link_known : (profile : Profile) (cubes : ℕ) (links : List LinkRow) (row : Data)
    → AreLinks cubes links
    → IfRead (link_of profile cubes links row) (λ link. AreLinks cubes (links ++ link ∷ []))
unfolding link_of
link_known profile cubes links row are =
    after_any (table_of (parts.Link profile) row) (λ table.
    after_any (text_at (codes "a") table) (λ a.
    after_any (text_at (codes "b") table) (λ b.
    after (sizes_known profile table) (λ sizes in_sizes.
    after (ends_known cubes a b) (λ join there.
    after (join_known cubes links join there) (λ done new.
    let link : LinkRow = record { join = join; setup = sizes } in
    value (links-more cubes links (links ++ link ∷ []) link refl new in_sizes are)))))))

next_known : (profile : Profile) (cubes : ℕ) (links : List LinkRow) (row : Data)
    → AreLinks cubes links
    → IfRead (next_link profile cubes links row) (λ link. AreLinks cubes (links ++ link ∷ []))
next_known profile cubes links row are =
    in_section_too sections.Link (length links) (link_known profile cubes links row are)

-- all links together are those of a case, and there is one for each item
pub links_known : (profile : Profile) (cubes : ℕ) (rows : Items)
    → IfRead (links_of profile cubes rows)
    (λ links. AreLinks cubes links × (length links ≡ count_of rows))
links_known profile cubes rows =
    both
    (all_rows (AreLinks cubes) (next_known profile cubes) [] rows (no-links cubes))
    (rows_counted (next_link profile cubes) rows)
