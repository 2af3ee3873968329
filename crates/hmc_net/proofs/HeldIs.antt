-- What the parts of a network hold is the number under way of its journal.
use Rattle.std.proofs.Common.{◌≡◌, ◌∙◌, ◌<◌, ◌≤◌, ◌+◌, ◌*◌, ◌^◌, ℕ, suc, false, List, [], ◌∷◌, length, map, drop, sum_by, refl, sym, ap, ap₂, arith, length-append}
use Rattle.std.specs.Prelude.{slice_index_or, filter}
use Rattle.std.specs.List.{range_with_len}
use Rattle.std.proofs.lemmas.List.{length-map}
use Rattle.std.proofs.lemmas.List.Sums.{sum_by-cons}
use Rattle.hmc_codes.specs.Link.{LinkFields}
use Rattle.hmc_codes.specs.Numbers.{upto}
use Rattle.hmc_codes.specs.Shape.{ShapeFields}
use Rattle.hmc_codes.specs.declared.lift.Lift.TheVariants as lifts
use Rattle.hmc_vault.specs.Vault.{VaultFields, bank_at, held_by}
use Rattle.hmc_cube.specs.Cube.{vault_at, no_vault, held_in_cube}
use Rattle.hmc_cube.specs.Parts.{AreParts}
use Rattle.hmc_link.specs.Held.{LinkHeld, held_on}
use Rattle.hmc_ends.specs.List.{list_by, listed_place, listed_packet}
use Rattle.hmc_link.specs.StandsFor.{LinkStandsFor}
use Rattle.hmc_packet.specs.Packet.{PacketFields}
use Rattle.hmc_send.specs.LinkEntries.{LinkEntry, accepted_packets}
use Rattle.hmc_send.specs.LinkSenders.{places_in, queue_in}
use Rattle.hmc_send.specs.Places.{Place, takes_tokens}
use Rattle.hmc_send.specs.declared.toward.Toward.TheVariants.{Forth, Back}
use Rattle.hmc_entries.specs.declared.entry.Entry.{Entry}
use Rattle.hmc_journal.specs.Lawful.{has_passed}
use Rattle.hmc_journal.specs.Links.{link_sizes, link_entries}
use Rattle.hmc_journal.specs.Queues.{contents}
use Rattle.hmc_journal.specs.Queues.QueueId.{Vault, Bank, Registers, Answers}
use Rattle.hmc_journal.specs.Setup.{Topology, Setup, cubes_in, shape_of}
use Rattle.hmc_journal.specs.UnderWay.{under_way}
use Rattle.hmc_bound.specs.Counts.{total, listed, of_way, of_link, long, of_vault, of_cube}
use Rattle.hmc_bound.proofs.Counts.{is_counted}
use Rattle.hmc_bound.proofs.Few.{is_few}
use Rattle.hmc_links.specs.LinkList.{LinksStandFor}
use Rattle.hmc_net.specs.NetState.{NetState, cube_in, no_cube}
use Rattle.hmc_net.specs.Stands.{StandsFor}
use Rattle.hmc_net.proofs.CubeSteps.{vault_fits}

-- ---- sums over places are sums over the list

by_place : {X : Type 0} (g : X → ℕ) (f : ℕ → ℕ) (d : X) (l : List X) (s : ℕ) →
    ((i : ℕ) → i < length l → f (s + i) ≡ g (slice_index_or l i d)) →
    total f (range_with_len s (length l)) ≡ sum_by g l
by_place g f d [] s same = refl
by_place g f d (x ∷ l) s same =
    let z : s + 0 ≡ s = omega arith in
    let first : f s ≡ g x = ap f (sym z) ∙ same 0 (omega arith) in
    ap₂ (λ (m n : ℕ). m + n) first
    (by_place g f d l (s + 1) (λ i less. ap f (let e : s + 1 + i ≡ s + suc i = omega arith in e)
    ∙ same (suc i) (omega (arith, less)))) ∙ sym (sum_by-cons g x l)

by_count : {X : Type 0} (g : X → ℕ) (f : ℕ → ℕ) (d : X) (l : List X) (n : ℕ) → length l ≡ n →
    ((i : ℕ) → i < length l → f i ≡ g (slice_index_or l i d)) → total f (upto n) ≡ sum_by g l
by_count g f d l n long same =
    ap (λ (m : ℕ). total f (upto m)) (sym long)
    ∙ by_place g f d l 0 (λ i less. ap f (let e : 0 + i ≡ i = omega arith in e) ∙ same i less)

sum_few : {X : Type 0} (g : X → ℕ) (d : X) (l : List X) (most : ℕ) →
    ((i : ℕ) → i < length l → g (slice_index_or l i d) ≤ most) → sum_by g l ≤ most * length l
sum_few g d [] most few = omega arith
sum_few g d (x ∷ l) most few =
    let c = sum_by-cons g x l in
    let h : g x ≤ most =
    few 0 (omega arith) in let r =
    sum_few g d l most (λ i less. few (suc i) (omega (arith, less))) in
    by_product (g x) (sum_by g l) (sum_by g (x ∷ l)) most (length l) c h r
  where
    by_product : (a b c m n : ℕ) → c ≡ a + b → a ≤ m → b ≤ m * n → c ≤ m * suc n
    by_product a b c m n e h r = omega (arith, e, h, r)

-- ---- links

list_long : (places : List Place) (waiting : List PacketFields) (n : ℕ) →
    length (list_by n places waiting) ≡ length (filter takes_tokens (drop n places))
    + length waiting
list_long places waiting n =
    length-append (map listed_place (filter takes_tokens (drop n places)))
    (map listed_packet waiting)
    ∙ ap₂ (λ (a b : ℕ). a + b) (length-map (filter takes_tokens (drop n places)) listed_place)
    (length-map waiting listed_packet)

link_is : (link : LinkFields) (held : LinkHeld) (es : List LinkEntry) → LinkStandsFor link held es →
    of_way link Forth es + of_way link Back es ≡ held_on held
link_is link held es s =
    let forth : held.forth ≡ listed link Forth es =
    s.lengths.forth
    ∙ list_long (places_in link Forth es) (queue_in link Forth es)
    (length (accepted_packets link.profile Forth es)) in
    let back : held.back ≡ listed link Back es =
    s.lengths.back
    ∙ list_long (places_in link Back es) (queue_in link Back es)
    (length (accepted_packets link.profile Back es)) in
    by_sums _ _ _ _ _ _ _ _ forth back (ap (λ (l : List PacketFields). length l) s.a.buffer)
    (ap (λ (l : List PacketFields). length l) s.b.buffer)
  where
    by_sums : (f b x y f' b' x' y' : ℕ) → f ≡ f' → b ≡ b' → x ≡ x' → y ≡ y' →
        (f' + y') + (b' + x') ≡ f + b + x + y
    by_sums f b x y f' b' x' y' p q r t = omega (arith, p, q, r, t)

link_few : (link : LinkFields) (held : LinkHeld) (es : List LinkEntry) →
    LinkStandsFor link held es → held_on held ≤ 10000
link_few link held es s =
    let a = is_few link Forth es s.kept in
    let b = is_few link Back es s.kept in
    let e = link_is link held es s in
    let t = s.sizes.tokens in let o = s.sizes.output in omega (arith, a, b, e, t, o)

links_are : (t : Topology) (past : List Entry) (links : List LinkHeld) →
    LinksStandFor t.links links (λ link. link_entries t link past) →
    (total (of_link t past) (upto (length t.links)) ≡ sum_by held_on links)
    × (sum_by held_on links ≤ 10000 * length links)
links_are t past [] stand =
    (ap (λ (n : ℕ). total (of_link t past) (upto n)) (sym stand.count), omega arith)
links_are t past (x ∷ links) stand = (
  by_count held_on (of_link t past) x (x ∷ links) (length t.links) stand.count
      (λ i less. link_is (link_sizes t i) (slice_index_or (x ∷ links) i x) (link_entries t i past)
      (stand.stand i x less)),
  sum_few held_on x (x ∷ links) 10000
      (λ i less. link_few (link_sizes t i) (slice_index_or (x ∷ links) i x) (link_entries t i past)
      (stand.stand i x less)),
)

-- ---- cubes

vault_is : (t : Topology) (past : List Entry) (c v : ℕ) (vault : VaultFields) →
    length vault.banks ≡ 2 ^ (shape_of t c).bank_bits →
    contents t past (Vault c v) ≡ vault.vault_queue →
    ((b : ℕ) → contents t past (Bank c v b) ≡ bank_at vault b) →
    contents t past (Answers c (lifts.Vault v)) ≡ vault.answers →
    of_vault t past c v ≡ held_by vault
vault_is t past c v vault count queue banks answers =
    let b =
    by_count length (λ b. long t past (Bank c v b)) [] vault.banks
    (2 ^ (shape_of t c).bank_bits) count
    (λ i less. ap (λ (l : List PacketFields). length l) (banks i)) in
    by_sums _ _ _ _ _ _ (ap (λ (l : List PacketFields). length l) queue) b
    (ap (λ (l : List PacketFields). length l) answers)
  where
    by_sums : (q b a q' b' a' : ℕ) → q ≡ q' → b ≡ b' → a ≡ a' → q + b + a ≡ q' + b' + a'
    by_sums q b a q' b' a' e f g = omega (arith, e, f, g)

cube_is : (setup : Setup) (past : List Entry) (net : NetState) → StandsFor net setup past →
    (c : ℕ) → c < length net.cubes → AreParts (cube_in net.cubes c) →
    of_cube setup.topology past c ≡ held_in_cube (cube_in net.cubes c)
cube_is setup past net s c less parts =
    let t = setup.topology in
    let x = cube_in net.cubes c in
    let shape : x.state.shape ≡ shape_of t c =
    (s.sized.fits c less).shape ∙ ap (λ (u : Topology). shape_of u c) s.topology in
    let vaults =
    by_count held_by (of_vault t past c) no_vault x.vaults (2 ^ (shape_of t c).vault_bits)
    (parts.vaults ∙ ap (λ (sh : ShapeFields). 2 ^ sh.vault_bits) shape)
    (λ v inside. vault_is t past c v (vault_at x v) ((vault_fits x v parts inside).banks
    ∙ ap (λ (sh : ShapeFields). 2 ^ sh.bank_bits) shape) (sym (s.queues (Vault c v) tt))
    (λ b. sym (s.queues (Bank c v b) tt)) (sym (s.queues (Answers c (lifts.Vault v)) tt))) in
    by_sums _ _ _ _ _ _ (ap (λ (l : List PacketFields). length l) (sym (s.queues (Registers c) tt)))
    (ap (λ (l : List PacketFields). length l) (sym (s.queues (Answers c lifts.Registers) tt)))
    vaults
  where
    by_sums : (r a v r' a' v' : ℕ) → r ≡ r' → a ≡ a' → v ≡ v' → r + a + v ≡ v' + r' + a'
    by_sums r a v r' a' v' e f g = omega (arith, e, f, g)

-- ---- all

pub record HeldIs (setup : Setup) (past : List Entry) (net : NetState) : Type 0 where
  pub value : under_way setup.topology past ≡ sum_by held_on net.links
      + sum_by held_in_cube net.cubes
  pub links : sum_by held_on net.links ≤ 320000
  pub cubes : length net.cubes ≤ 8

few_links : (a n : ℕ) → a ≤ 10000 * n → n ≤ 32 → a ≤ 320000
few_links a n le few = omega (arith, le, few)

pub held_is : (setup : Setup) (past : List Entry) (net : NetState) → StandsFor net setup past →
    has_passed past ≡ false → ((c : ℕ) → c < length net.cubes → AreParts (cube_in net.cubes c)) →
    HeldIs setup past net
held_is setup past net s off parts =
    let t = setup.topology in
    let stand = s.links off in
    let links = links_are t past net.links stand in
    let count : length net.cubes ≡ cubes_in t =
    s.sized.cubes ∙ ap (λ (u : Topology). cubes_in u) s.topology in
    let cubes : total (of_cube t past) (upto (cubes_in t)) ≡ sum_by held_in_cube net.cubes =
    by_count held_in_cube (of_cube t past) no_cube net.cubes (cubes_in t) count
    (λ i less. cube_is setup past net s i less (parts i less)) in
    record {
      value = is_counted setup s.network past s.lawful ∙ ap₂ (λ (a b : ℕ). a + b) links.0 cubes;
      links =
          few_links (sum_by held_on net.links) (length net.links) links.1 (let n = stand.count in
          let few = s.network.few_links in omega (arith, n, few));
      cubes = let few = s.network.graph.few_cubes in omega (arith, count, few);
    }
