-- What a network shows by numbers is what its journal leaves.
use Rattle.std.proofs.Common.{◌≡◌, ◌∙◌, ◌<◌, ℕ, Bool, true, false, List, Option, Some, None, ap, refl, sym, subst}
use Rattle.std.specs.Prelude.{nat_lt, if◌then◌else◌, slice_get}
use Rattle.std.proofs.lemmas.Bool.{ltb-true}
use Rattle.hmc_codes.specs.declared.counts.Counters.{Counters}
use Rattle.hmc_codes.specs.declared.counts.CubeCounts.{CubeCounts}
use Rattle.hmc_codes.specs.declared.counts.HostCounts.{HostCounts}
use Rattle.hmc_codes.specs.declared.counts.TokenRow.{TokenRow}
use Rattle.hmc_entries.specs.declared.entry.Entry.{Entry}
use Rattle.hmc_journal.specs.Final.{values_of}
use Rattle.hmc_journal.specs.Lawful.{has_passed}
use Rattle.hmc_journal.specs.Setup.{Setup}
use Rattle.hmc_net.proofs.FinalStands.{alike}
use Rattle.hmc_report.specs.Final.{FinalValues}
use Rattle.hmc_session.specs.Session.{SessionFields, StandsIn}
use Rattle.hmc_tally.proofs.Alike.{AreAlike}
use Rattle.hmc_c.specs.Handles.{shown}
use Rattle.hmc_c.specs.Shows.{ShowsLeft}
use Rattle.hmc_c.specs.Values.{LeftShown, ValueShown, block_in, block_of, counters_in, counters_out, cube_in, cube_out, host_in, host_out, register_in, tokens_in, tokens_out, values_in, where_below}
use Rattle.hmc_c.specs.declared.held.Held.{Held}
use Rattle.hmc_c.proofs.KeptLemmas.{stands_in}

where_by : {X : Type 0} (number n : ℕ) (b : Bool) (a c : Option X) → nat_lt number n ≡ b →
    (number < n → a ≡ c) → (if b then a else None) ≡ (if b then c else None)
where_by number n true a c is same = same (ltb-true number n is)
where_by number n false a c is same = refl

where_alike : {X : Type 0} (number m n : ℕ) (a c : Option X) → m ≡ n → (number < n → a ≡ c) →
    where_below number m a ≡ where_below number n c
where_alike number m n a c is same =
    ap (λ (k : ℕ). where_below number k a) is ∙ where_by number n (nat_lt number n) a c refl same

pub values_alike : (held : Held) (setup : Setup) (past : List Entry) →
    StandsIn (shown held) setup past → (shown held).passed ≡ false →
    AreAlike (values_in held) (values_of setup past)
values_alike held setup past stands on =
    alike (shown held).net setup past stands.stands (sym stands.passed ∙ on)

pub block_alike : (v w : FinalValues) (cube address : ℕ) → AreAlike v w →
    block_in v cube address ≡ block_in w cube address
block_alike v w cube address are =
    where_alike cube v.cubes w.cubes (block_of (v.memory cube) address) (block_of (w.memory cube) address) are.cubes
    (λ less. ap (λ (bytes : List ℕ). block_of bytes address) (are.memory cube less))

pub register_alike : (v w : FinalValues) (cube number : ℕ) → AreAlike v w →
    register_in v cube number ≡ register_in w cube number
register_alike v w cube number are =
    where_alike cube v.cubes w.cubes (slice_get (v.registers cube) number) (slice_get (w.registers cube) number) are.cubes
    (λ less. ap (λ (values : List ℕ). slice_get values number) (are.registers cube less))

pub tokens_alike : (v w : FinalValues) (direction : ℕ) → AreAlike v w →
    tokens_in v direction ≡ tokens_in w direction
tokens_alike v w direction are =
    where_alike direction v.directions w.directions (Some (tokens_out (v.tokens direction))) (Some (tokens_out (w.tokens direction))) are.directions
    (λ less. ap (λ (row : TokenRow). Some (tokens_out row)) (are.tokens direction less))

pub counters_alike : (v w : FinalValues) (direction : ℕ) → AreAlike v w →
    counters_in v direction ≡ counters_in w direction
counters_alike v w direction are =
    where_alike direction v.directions w.directions (Some (counters_out (v.counters direction))) (Some (counters_out (w.counters direction))) are.directions
    (λ less. ap (λ (row : Counters). Some (counters_out row)) (are.counters direction less))

pub host_alike : (v w : FinalValues) (host : ℕ) → AreAlike v w → host_in v host ≡ host_in w host
host_alike v w host are =
    where_alike host v.hosts w.hosts (Some (host_out (v.host_counts host))) (Some (host_out (w.host_counts host))) are.hosts
    (λ less. ap (λ (row : HostCounts). Some (host_out row)) (are.host_counts host less))

pub cube_alike : (v w : FinalValues) (cube : ℕ) → AreAlike v w → cube_in v cube ≡ cube_in w cube
cube_alike v w cube are =
    where_alike cube v.cubes w.cubes (Some (cube_out (v.cube_counts cube))) (Some (cube_out (w.cube_counts cube))) are.cubes
    (λ less. ap (λ (row : CubeCounts). Some (cube_out row)) (are.cube_counts cube less))

-- ---- what is shown

by_passed : {X : Type 0} (passed : Bool) (status : ℕ) (found value : Option X) (old new : X) →
    (passed ≡ false → found ≡ value) → LeftShown status passed found old new →
    LeftShown status passed value old new
by_passed true status found value old new same shows = shows
by_passed {X = X} false status found value old new same shows =
    subst (λ (v : Option X). ValueShown status v old new) (same refl) shows

-- what was found while no landing had passed is shown where none has
pub left_shown : {X : Type 0} (session : SessionFields) (setup : Setup) (past : List Entry)
    (status : ℕ) (found value : Option X) (old new : X) → StandsIn session setup past →
    (session.passed ≡ false → found ≡ value) → LeftShown status session.passed found old new →
    LeftShown status (has_passed past) value old new
left_shown {X = X} session setup past status found value old new stands same shows =
    subst (λ (b : Bool). LeftShown status b value old new) stands.passed
    (by_passed session.passed status found value old new same shows)

-- a handle that was open shows it
pub shows_left : {X : Type 0} (value : Setup → List Entry → Option X) (status : ℕ)
    (before after : Option Held) (held : Held) (found : Option X) (old new : X) →
    before ≡ Some held → after ≡ Some held →
    ((setup : Setup) (past : List Entry) → StandsIn (shown held) setup past →
    (shown held).passed ≡ false → found ≡ value setup past) →
    LeftShown status (shown held).passed found old new →
    ShowsLeft value status before after old new
shows_left value status before after held found old new was is same shows =
    subst (λ (handle : Option Held). ShowsLeft value status handle after old new) (sym was) (
      is,
      λ setup past stands.
          let of = stands_in held.kept setup past stands in
          left_shown (shown held) setup past status found (value setup past) old new of (same setup past of) shows,
    )
