-- A host of a network is asked for a request more.
use Rattle.std.proofs.Common.{◌≡◌, ◌∙◌, ◌<◌, ◌==◌, ◌++◌, ap, ap₂, ℕ, Option, Bool, true, false}
use Rattle.std.proofs.Common.{List, [], ◌∷◌, length, drop, refl, sym, subst, length-set, eqb-true}
use Rattle.std.specs.Prelude.{slice_set, Result, Ok, Err, OnOk}
use Rattle.std.proofs.lemmas.List.{append-nil, drop-append-le}
use Rattle.hmc_codes.specs.Request.{RequestFields, IsRequest}
use Rattle.hmc_script.specs.Items.{ItemFields, asked_item}
use Rattle.hmc_units.specs.Unit.{UnitFields}
use Rattle.hmc_link.specs.Held.{LinkHeld}
use Rattle.hmc_cube.specs.Cube.{CubeFields}
use Rattle.hmc_host.specs.Host.{HostFields, items_of, asked}
use Rattle.hmc_entries.specs.declared.entry.Entry.{Entry}
use Rattle.hmc_journal.specs.Hosts.{given_count, host_of}
use Rattle.hmc_journal.specs.Lawful.{Lawful}
use Rattle.hmc_journal.specs.Network.{IsItemOf}
use Rattle.hmc_journal.specs.Setup.{Setup, Topology, hosts_in, cubes_in}
use Rattle.hmc_journal.specs.StepView.{state_of}
use Rattle.hmc_tally.specs.Tally.{TallyFields}
use Rattle.hmc_kept.specs.Hosts.{with_host, host_in, no_host}
use Rattle.hmc_kept.specs.Pipes.{PipesHeld}
use Rattle.hmc_kept.proofs.Elements.{changed_at}
use Rattle.hmc_growing.specs.Growing.{with_item, IsOpen}
use Rattle.hmc_growing.proofs.AddedItem.{more_items, one_of, given_within, lawful_with_item}
use Rattle.hmc_growing.proofs.AddedItem.{network_with_item}
use Rattle.hmc_net.specs.Asked.{net_asked}
use Rattle.hmc_net.specs.NetState.{NetState}
use Rattle.hmc_net.specs.Stands.{StandsFor}
use Rattle.hmc_net.proofs.Indexed.{net_with}

-- a host of which these are left, and which is else as the journal says
abbrev with_left : Setup → List Entry → ℕ → List ItemFields → HostFields
with_left setup past k left = record (host_of setup past k) { left = left }

-- a request more is left after those that were
left_with : (setup : Setup) (item : ItemFields) (past : List Entry) (k : ℕ) (ys : List ItemFields) →
    Lawful setup past → items_of k (setup.script ++ item ∷ []) ≡ items_of k setup.script ++ ys
    → drop (given_count k past) (items_of k setup.script) ++ ys
    ≡ drop (given_count k past) (items_of k (setup.script ++ item ∷ []))
left_with setup item past k ys lawful longer =
    sym (ap (drop (given_count k past)) longer
    ∙ drop-append-le (given_count k past) (items_of k setup.script) ys
    (given_within setup k past lawful))

host_asked : (setup : Setup) (item : ItemFields) (past : List Entry) (hosts : List HostFields)
    (k : ℕ) (test : Bool) → (item.host == k) ≡ test → item.host < length hosts
    → ((j : ℕ) → j < length hosts → host_in hosts j ≡ host_of setup past j) → Lawful setup past →
    k < length hosts → host_in (with_host item.host (asked item) hosts) k
    ≡ host_of (with_item setup item) past k
unfolding host_of
host_asked setup item past hosts k true is inside same lawful there =
    changed_at hosts item.host k (asked item (host_in hosts item.host)) no_host true is inside
    ∙ ap (λ (j : ℕ). asked item (host_in hosts j)) (eqb-true item.host k is)
    ∙ ap (asked item) (same k there)
    ∙ ap (with_left setup past k) (left_with setup item past k (item ∷ []) lawful
    (more_items setup item k ∙ ap (λ (ys : List ItemFields). items_of k setup.script ++ ys)
    (one_of item k true is)))
host_asked setup item past hosts k false is inside same lawful there =
    changed_at hosts item.host k (asked item (host_in hosts item.host)) no_host false is inside
    ∙ same k there
    ∙ ap (λ (items : List ItemFields). with_left setup past k (drop (given_count k past) items))
    (sym (more_items setup item k
    ∙ ap (λ (ys : List ItemFields). items_of k setup.script ++ ys) (one_of item k false is)
    ∙ append-nil (items_of k setup.script)))

-- the network whose host was asked stands for the case with the request, and the same journal
pub stands_with_item : (net : NetState) (setup : Setup) (item : ItemFields) (past : List Entry) →
    StandsFor net setup past → IsOpen item.host past →
    IsItemOf (hosts_in setup.topology) (cubes_in setup.topology) item
    → StandsFor (net_asked item net) (with_item setup item) past
unfolding state_of
stands_with_item net setup item past s free is =
    let many : length net.hosts ≡ hosts_in setup.topology =
    s.sized.hosts ∙ ap hosts_in s.topology in
    let inside : item.host < length net.hosts =
    subst (λ (n : ℕ). item.host < n) (sym many) is.within.host in
    let as_many : length (with_host item.host (asked item) net.hosts) ≡ length net.hosts =
    length-set net.hosts item.host (asked item (host_in net.hosts item.host)) in
    record {
      network = network_with_item setup item s.network is;
      steps = s.steps;
      topology = s.topology;
      sized = record {
        cubes = s.sized.cubes;
        hosts = as_many ∙ s.sized.hosts;
        fits = s.sized.fits;
        piped = s.sized.piped;
      };
      lawful = lawful_with_item setup item past free s.lawful;
      queues = s.queues;
      moves = s.moves;
      state = s.state;
      hosts = λ k there. host_asked setup item past net.hosts k (item.host == k) refl inside s.hosts
          s.lawful (subst (λ (n : ℕ). k < n) as_many there);
      forwarded = s.forwarded;
      pipes = s.pipes;
      links = s.links;
      few = s.few;
      within = s.within;
      tally = s.tally;
    }

-- ---- as the code does it

-- a host that is there has its number
pub numbered : (net : NetState) (setup : Setup) (past : List Entry) (host : ℕ) →
    StandsFor net setup past → host < length net.hosts → (host_in net.hosts host).number ≡ host
unfolding host_of
numbered net setup past host s there = ap (λ (h : HostFields). h.number) (s.hosts host there)

pub asked_stands : (net now : NetState) (setup : Setup) (past : List Entry) (host : ℕ)
    (fenced poisoned : Bool) (request : RequestFields) → host < length net.hosts
    → now ≡ net_asked (asked_item host fenced poisoned request) net → StandsFor net setup past →
    IsOpen host past → IsRequest request → request.cube < cubes_in setup.topology
    → StandsFor now (with_item setup (asked_item host fenced poisoned request)) past
asked_stands net now setup past host fenced poisoned request there is s free good cube =
    let many : length net.hosts ≡ hosts_in setup.topology =
    s.sized.hosts ∙ ap hosts_in s.topology in
    subst (λ (n : NetState). StandsFor n (with_item setup (asked_item host fenced poisoned request))
    past) (sym is)
    (stands_with_item net setup (asked_item host fenced poisoned request) past s free
    (record {
      within = record { host = subst (λ (n : ℕ). host < n) many there; cube = cube };
      request = good;
    }))

-- the network with one host asked, as the code leaves it
pub host_asked_is : {tally : TallyFields} {piped : PipesHeld} {slots : List (Option UnitFields)}
    (topology : Topology) (net : NetState) (cubes : List CubeFields) (hosts : List HostFields)
    (at host : ℕ) (x y : HostFields) (fenced poisoned : Bool) (request : RequestFields)
    (links : List LinkHeld) (last : Entry)
    → net_with tally piped topology cubes hosts slots links last ≡ net → at ≡ host →
    x ≡ host_in net.hosts host → x.number ≡ host →
    y ≡ asked (asked_item x.number fenced poisoned request) x
    → net_with tally piped topology cubes (slice_set hosts at y) slots links last
    ≡ net_asked (asked_item host fenced poisoned request) net
host_asked_is topology net cubes hosts at host x y fenced poisoned request links last same at_is
    x_is number y_is =
    ap (λ (n : NetState). record n { hosts = slice_set n.hosts at y }) same
    ∙ ap₂ (λ (n : ℕ) (z : HostFields). record net { hosts = slice_set net.hosts n z }) at_is
    (y_is ∙ ap (λ (k : ℕ). asked (asked_item k fenced poisoned request) x) number
    ∙ ap (asked (asked_item host fenced poisoned request)) x_is)

pub on_ok : {A E P Q : Type 0} (r : Result A E) → (P → Q) → OnOk r P → OnOk r Q
on_ok (Ok x) f p = f p
on_ok (Err e) f p = tt

pub host_there : (net : NetState) (setup : Setup) (past : List Entry) (host : ℕ) →
    StandsFor net setup past → host < length net.hosts → host < hosts_in net.topology
host_there net setup past host s there = subst (λ (n : ℕ). host < n) s.sized.hosts there
