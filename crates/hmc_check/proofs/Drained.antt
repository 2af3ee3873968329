-- Nothing is on its way exactly where the journal is drained.
use Rattle.std.proofs.Common.{◌≡◌, ◌<◌, ◌+◌, ◌*◌, ◌/◌, ◌%◌, ◌∙◌, ◌-◌, ◌≤◌, ℕ, zero, suc, Bool, true, false, if◌then◌else◌, nat_lt, List, [], ◌∷◌, length, refl, sym, ap, subst, arith}
use Rattle.std.specs.Prelude.{slice_index_or}
use Rattle.std.specs.List.{All, list_all}
use Rattle.std.proofs.lemmas.Bool.{and_parts, and_from}
use Rattle.std.proofs.lemmas.Bool.Decides.{nat_tests}
use Rattle.std.proofs.lemmas.List.Elements.{All-nil, All-head, All-tail}
use Rattle.std.proofs.lemmas.Nat.{div_below, mod_below}
use native.Mathlib.Nat as nat
use Rattle.circular_buffer.proofs.Places.{slice_get-some}
use Rattle.hmc_codes.specs.Link.{LinkFields}
use Rattle.hmc_codes.specs.declared.lift.Lift.TheVariants as lifts
use Rattle.hmc_packet.specs.Packet.{PacketFields}
use Rattle.hmc_routes.specs.Directions.{other}
use Rattle.hmc_ends.specs.End.{EndFields, IsQuiet}
use Rattle.hmc_ends.specs.Parts.{parts_of}
use Rattle.hmc_ends.specs.StandsFor.{EndStandsFor, EndsStandFor}
use Rattle.hmc_send.specs.LinkEntries as ways
use Rattle.hmc_send.specs.LinkEntries.{LinkEntry}
use Rattle.hmc_send.specs.LinkSenders.{tokens}
use Rattle.hmc_send.specs.declared.toward.Toward.{Toward}
use Rattle.hmc_send.specs.declared.toward.Toward.TheVariants.{Forth, Back}
use Rattle.hmc_entries.specs.declared.entry.Entry.{Entry}
use Rattle.hmc_journal.specs.Drained.{IsDrained, is_drained}
use Rattle.hmc_journal.specs.Lawful.{has_passed}
use Rattle.hmc_journal.specs.Links.{toward, link_entries, entries_on, sizes_on}
use Rattle.hmc_journal.specs.Queues.{QueueId}
use Rattle.hmc_journal.specs.Queues.QueueId.{Vault, Bank, Registers, Answers}
use Rattle.hmc_journal.specs.Setup.{Setup, no_link, directions_in}
use Rattle.hmc_journal.proofs.Joins.{other_half}
use Rattle.hmc_kept.proofs.Elements.{default_same}
use Rattle.hmc_laws.proofs.DrainedTest.{drained_by_test}
use Rattle.hmc_kept.proofs.LawsShown.{IsLawBound, direction_shown}
use Rattle.hmc_kept.specs.InCubes.{IsCubeQueue}
use Rattle.hmc_kept.proofs.StillCubes.{IsStillCube, still_test}
use Rattle.hmc_kept.proofs.Stillness.{IsClear, same_test, drained_direction}
use Rattle.hmc_queues.specs.Queues.{CubeQueuesFields, AreEmpty, is_there, place_of, packets_in, packets_at, queues_at, no_queues, seats}
use Rattle.hmc_queues.specs.declared.queue_name.QueueName.{QueueName}
use Rattle.hmc_queues.specs.declared.queue_name.QueueName.TheVariants as names
use Rattle.hmc_directions.specs.Ends.{EndsHold}
use Rattle.hmc_kept.specs.Called.{sizes_by}
use Rattle.hmc_directions.proofs.Calls.{other_way, other_there}
use Rattle.hmc_check.specs.Finished.{is_still, are_empty}
use Rattle.hmc_check.specs.Past.{PastFields, Holds}
use Rattle.hmc_check.proofs.Holding.{law_of}
use Rattle.hmc_check.proofs.Tests.{lt_is}
use Rattle.hmc_check.proofs.Shown.{ends_quiet, queues_empty, quiet_ends, empty_queues}
use Rattle.hmc_kept.specs.Quiet.{is_quiet_end}

-- what holds of each element and of the default holds at any place
any_of : {X : Type 0} (P : X → Type 0) (xs : List X) (i : ℕ) (d : X) → P d → All P xs → P (slice_index_or xs i d)
any_of P [] i d none all = none
any_of P (x ∷ xs) zero d none all = All-head P x xs all
any_of P (x ∷ xs) (suc i) d none all = any_of P xs i d none (All-tail P x xs all)

-- ---- the queues of a cube

if_same : (test : Bool) → ◌≡◌ {A = List PacketFields} (if test then [] else []) []
if_same true = refl
if_same false = refl

none_in : (r : CubeQueuesFields) (room : QueueName) → AreEmpty r → packets_in r room ≡ []
none_in r room empty =
    ap (λ (l : List PacketFields). if is_there r room then l else []) (any_of (λ (l : List PacketFields). l ≡ []) r.queues (place_of r room) [] refl empty) ∙ if_same (is_there r room)

none_at : (all : List CubeQueuesFields) (cube : ℕ) (room : QueueName) → All AreEmpty all → packets_at all cube room ≡ []
none_at all cube room empty = none_in (queues_at all cube) room (any_of AreEmpty all cube no_queues (All-nil (λ (l : List PacketFields). l ≡ [])) empty)

-- each place is that of a queue
record Found (r : CubeQueuesFields) (k : ℕ) : Type 0 where
  pub room : QueueName
  pub there : is_there r room ≡ true
  pub place : place_of r room ≡ k

by_seat : (r : CubeQueuesFields) (g s k : ℕ) → g < r.vaults → s < r.banks + 2 → g * (r.banks + 2) + s ≡ k → Found r k
by_seat r g zero k vault seat is = record { room = names.Vault g; there = lt_is g r.vaults vault; place = is }
by_seat r g (suc zero) k vault seat is = record { room = names.Answers (lifts.Vault g); there = lt_is g r.vaults vault; place = is }
by_seat r g (suc (suc b)) k vault seat is =
    let same : 2 + b ≡ suc (suc b) = omega arith in record {
      room = names.Bank g b;
      there = and_from (nat_lt g r.vaults) (nat_lt b r.banks) (lt_is g r.vaults vault) (lt_is b r.banks (omega arith));
      place = ap (λ (n : ℕ). g * (r.banks + 2) + n) same ∙ is;
    }

last_seats : (r : CubeQueuesFields) (s k : ℕ) → s < 2 → r.vaults * (r.banks + 2) + s ≡ k → Found r k
last_seats r zero k seat is = record { room = names.Registers; there = refl; place = is }
last_seats r (suc zero) k seat is = record { room = names.Answers lifts.Registers; there = refl; place = is }
last_seats r (suc (suc s)) k seat is = absurd (omega arith)

by_place : (r : CubeQueuesFields) (k all : ℕ) (inside : Bool) → all ≡ r.vaults * (r.banks + 2) → nat_lt k all ≡ inside → k < all + 2 → Found r k
by_place r k all true is test less =
    let some : 0 < r.banks + 2 = omega arith in
    let below : k < all = grind (arith, nat_tests) in
    by_seat r (k / (r.banks + 2)) (k % (r.banks + 2)) k (div_below k (r.banks + 2) r.vaults some (subst (λ (n : ℕ). k < n) is below)) (mod_below k (r.banks + 2) some) (nat.div-add-mod' k (r.banks + 2))
by_place r k all false is test less =
    let over : all ≤ k = grind (arith, nat_tests) in
    let rest : all + (k - all) ≡ k = omega arith in
    last_seats r (k - all) k (omega arith) (ap (λ (n : ℕ). n + (k - all)) (sym is) ∙ rest)

found_at : (r : CubeQueuesFields) (k : ℕ) → k < seats r.vaults r.banks → Found r k
found_at r k less = by_place r k (r.vaults * (r.banks + 2)) (nat_lt k (r.vaults * (r.banks + 2))) refl refl less

in_place : (r : CubeQueuesFields) (room : QueueName) → is_there r room ≡ true → packets_in r room ≡ slice_index_or r.queues (place_of r room) []
in_place r room there = ap (λ (t : Bool). if t then slice_index_or r.queues (place_of r room) [] else []) there

all_empty : (r : CubeQueuesFields) → length r.queues ≡ seats r.vaults r.banks → ((room : QueueName) → packets_in r room ≡ []) → AreEmpty r
all_empty r count none = λ k d less.
    let found = found_at r k (omega (arith, count)) in
    sym (default_same r.queues k [] d less) ∙ ap (λ (n : ℕ). slice_index_or r.queues n []) (sym found.place) ∙ sym (in_place r found.room found.there) ∙ none found.room

-- ---- the ends of a direction

clear_of : (link : LinkFields) (way : Toward) (s l : EndFields) (past : List LinkEntry) → EndsStandFor link way s l past → IsQuiet s → IsQuiet l → IsClear link way past
unfolding tokens
clear_of link Forth s l past both near far = record {
  queue = sym both.sending.queue ∙ near.queue;
  buffer = sym both.landing.buffer ∙ far.buffer;
  transit = sym both.sending.transit ∙ near.transit;
}
clear_of link Back s l past both near far = record {
  queue = sym both.sending.queue ∙ near.queue;
  buffer = sym both.landing.buffer ∙ far.buffer;
  transit = sym both.sending.transit ∙ near.transit;
}

quiet_of : (link : LinkFields) (way : Toward) (s : EndFields) (past : List LinkEntry) → EndStandsFor link s (parts_of link way past) → IsClear link way past → IsClear link (ways.other way) past → IsQuiet s
unfolding tokens
quiet_of link Forth s past stands out back = record { queue = stands.queue ∙ out.queue; transit = stands.transit ∙ out.transit; buffer = stands.buffer ∙ back.buffer }
quiet_of link Back s past stands out back = record { queue = stands.queue ∙ out.queue; transit = stands.transit ∙ out.transit; buffer = stands.buffer ∙ back.buffer }

-- ---- still, so drained

still_cube : (setup : Setup) (past : List Entry) (p : PastFields) (cube : ℕ) → Holds setup past p → All AreEmpty p.queues → IsStillCube setup.topology past cube
still_cube setup past p cube holds none =
    let same = λ (queue : QueueId) (is : IsCubeQueue queue). sym (holds.inner.queues queue is) in
    record {
      vaults = λ vault. same (Vault cube vault) tt ∙ none_at p.queues cube (names.Vault vault) none;
      banks = λ vault bank. same (Bank cube vault bank) tt ∙ none_at p.queues cube (names.Bank vault bank) none;
      vault_answers = λ vault. same (Answers cube (lifts.Vault vault)) tt ∙ none_at p.queues cube (names.Answers (lifts.Vault vault)) none;
      registers = same (Registers cube) tt ∙ none_at p.queues cube names.Registers none;
      register_answers = same (Answers cube lifts.Registers) tt ∙ none_at p.queues cube (names.Answers lifts.Registers) none;
    }

clear_direction : (setup : Setup) (past : List Entry) (p : PastFields) (direction : ℕ) → EndsHold setup.topology.links p.ends (λ link. link_entries setup.topology link past) → All IsQuiet p.ends → direction < directions_in setup.topology → IsClear (sizes_on setup.topology direction) (toward direction) (entries_on setup.topology direction past)
clear_direction setup past p direction hold quiet there =
    let less : direction < length p.ends = omega (arith, hold.count) in
    let some = slice_get-some p.ends direction less in
    clear_of (sizes_on setup.topology direction) (toward direction) (slice_index_or p.ends direction some.0) (slice_index_or p.ends (other direction) some.0) (entries_on setup.topology direction past) (hold.stand direction some.0 less)
    (quiet direction some.0 less) (quiet (other direction) some.0 (other_there setup.topology.links p.ends (λ link. link_entries setup.topology link past) direction hold less))

-- ---- drained, so still

drained_end : (setup : Setup) (past : List Entry) (p : PastFields) (direction : ℕ) (d : EndFields) → EndsHold setup.topology.links p.ends (λ link. link_entries setup.topology link past) → IsLawBound setup past → IsDrained setup.topology past → direction < length p.ends → IsQuiet (slice_index_or p.ends direction d)
drained_end setup past p direction d hold law drained less =
    let t = setup.topology in
    let far : other direction < length p.ends = other_there t.links p.ends (λ link. link_entries t link past) direction hold less in
    let near_in : direction < directions_in t = omega (arith, hold.count) in
    let far_in : other direction < directions_in t = omega (arith, hold.count, far) in
    let out = drained_direction setup past direction (direction_shown setup past direction (law.queues.links direction near_in) (law.fed direction near_in)) drained in
    let back = drained_direction setup past (other direction) (direction_shown setup past (other direction) (law.queues.links (other direction) far_in) (law.fed (other direction) far_in)) drained in
    quiet_of (sizes_by t.links direction) (toward direction) (slice_index_or p.ends direction d) (link_entries t (direction / 2) past) (hold.stand direction d less).sending out
    (subst (λ (w : Toward). IsClear (sizes_by t.links direction) w (link_entries t (direction / 2) past)) (other_way direction)
    (subst (λ (n : ℕ). IsClear (slice_index_or t.links n no_link).setup (toward (other direction)) (link_entries t n past)) (other_half direction) back))

none_by : (setup : Setup) (past : List Entry) (p : PastFields) (cube : ℕ) (room : QueueName) → Holds setup past p → IsDrained setup.topology past → packets_at p.queues cube room ≡ []
none_by setup past p cube (names.Vault vault) holds drained = holds.inner.queues (Vault cube vault) tt ∙ drained.queues (Vault cube vault)
none_by setup past p cube (names.Bank vault bank) holds drained = holds.inner.queues (Bank cube vault bank) tt ∙ drained.queues (Bank cube vault bank)
none_by setup past p cube names.Registers holds drained = holds.inner.queues (Registers cube) tt ∙ drained.queues (Registers cube)
none_by setup past p cube (names.Answers from) holds drained = holds.inner.queues (Answers cube from) tt ∙ drained.queues (Answers cube from)

drained_queues : (setup : Setup) (past : List Entry) (p : PastFields) → Holds setup past p → IsDrained setup.topology past → All AreEmpty p.queues
drained_queues setup past p holds drained = λ cube d less.
    subst AreEmpty (default_same p.queues cube no_queues d less) (all_empty (queues_at p.queues cube) (holds.sized.fits cube less).count (λ room. none_by setup past p cube room holds drained))

-- so it is what the test of all queues and directions says
pub drained_test : (setup : Setup) (past : List Entry) (p : PastFields) → Holds setup past p → has_passed past ≡ false → is_still p ≡ is_drained setup.topology past
drained_test setup past p holds on =
    let law = law_of setup past p holds in
    same_test (is_still p) (is_drained setup.topology past)
    (λ yes.
    let parts = and_parts (list_all is_quiet_end p.ends) (list_all are_empty p.queues) yes in
    still_test setup past law (λ direction there. clear_direction setup past p direction (holds.ends on) (ends_quiet p.ends parts.0) there)
    (λ cube there. still_cube setup past p cube holds (queues_empty p.queues parts.1)))
    (λ yes.
    let drained = drained_by_test setup past holds.network holds.lawful yes in
    and_from (list_all is_quiet_end p.ends) (list_all are_empty p.queues)
    (quiet_ends p.ends (λ direction d less. drained_end setup past p direction d (holds.ends on) law drained less))
    (empty_queues p.queues (drained_queues setup past p holds drained)))
