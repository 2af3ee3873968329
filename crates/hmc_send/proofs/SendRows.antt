-- The rows of a send give what its choice gives.
use Rattle.std.proofs.Common.{◌≡◌, Bool, true, false, not, Option, Some, None, refl}
use Rattle.std.specs.Prelude.{◌&&◌, ◌==◌, option_map, unwrap_or, if◌then◌else◌}
use Rattle.hmc_codes.specs.declared.profile.Profile.{Profile}
use Rattle.hmc_packet.specs.declared.kind.Kind.{Kind}
use Rattle.hmc_packet.specs.declared.kind.Kind.TheVariants as kind
use Rattle.hmc_packet.specs.declared.view.Mode.{Mode}
use Rattle.hmc_packet.specs.declared.what.What.TheVariants as what
use Rattle.hmc_packet.specs.Rows.{given_if}
use Rattle.hmc_packet.specs.Spelling.{training_flit}
use Rattle.hmc_send.specs.declared.sent.Sent.TheVariants.{Out}
use Rattle.hmc_send.specs.Choice.{SendView, choice, going_on, irtry_or, irtry_due, again_or, is_train, is_abort, irtry_sent, first_flit, may_take, may_return, part_what, next_flit, unless_starved}
use Rattle.hmc_send.specs.Entries.{UnderWay}
use Rattle.hmc_send.specs.Places.{Place, packet_in}
use Rattle.hmc_send.specs.SendRows.{choice_by_rows}

-- a test is a row before what comes else
by_test : {X : Type 0} (test : Bool) (x other after : X) → other ≡ after → (if test then x else other) ≡ unwrap_or (given_if test x) after
by_test true x other after same = refl
by_test false x other after same = same

-- what there may be is a row before what comes else
by_option : {A X : Type 0} (o : Option A) (f : A → X) (y : Option A → X) (after : X) → ((a : A) → y (Some a) ≡ f a) → y None ≡ after → y o ≡ unwrap_or (option_map f o) after
by_option None f y after some none = none
by_option (Some a) f y after some none = some a

-- the row of the first Start
by_start : {X : Type 0} (test : Bool) (f : Kind → X) (y : Option Kind → X) (after : X) → ((k : Kind) → y (Some k) ≡ f k) → y None ≡ after → y (if test then Some kind.Start else None) ≡ unwrap_or (given_if test (f kind.Start)) after
by_start true f y after some none = some kind.Start
by_start false f y after some none = none

-- the three rows of IRTRYs before what comes else
by_irtry : {X : Type 0} (kinds : Option Kind) (mode : Mode) (go_back may_start : Bool) (f : Kind → X) (y : Option Kind → X) (after : X) → ((k : Kind) → y (Some k) ≡ f k) → y None ≡ after
    → y (irtry_due kinds mode go_back may_start) ≡ unwrap_or (option_map f kinds) (unwrap_or (given_if go_back (f kind.Clear)) (unwrap_or (given_if (is_abort mode && may_start) (f kind.Start)) after))
by_irtry (Some k) mode go_back may_start f y after some none = some k
by_irtry None mode true may_start f y after some none = some kind.Clear
by_irtry None mode false may_start f y after some none = by_start (is_abort mode && may_start) f y after some none

pub choice_rows : (profile : Profile) (s : SendView) → choice profile s ≡ choice_by_rows profile s
unfolding choice
choice_rows profile s =
    by_test (is_train s.given.own.mode) (Out training_flit what.Train) _ _
    (by_option s.under_way (λ (b : UnderWay). unless_starved (part_what b.part) (next_flit profile s.given.own.rrp s.given.feed b.place b.part)) (going_on profile s) _ (λ b. refl)
    (by_irtry s.burst s.given.own.mode s.go_back s.may_start (irtry_sent profile s.given.own.rrp) (irtry_or profile s) _ (λ k. refl)
    (by_option s.again (λ (place : Place). first_flit profile s.given.own.rrp what.Again (packet_in place)) (again_or profile s) _ (λ place. refl)
    (by_test (s.is_open && may_take s s.given.front) _ _ _
    (by_test (s.is_open && may_return s) _ _ _
    (by_test (not (s.given.own.rrp == s.shown)) _ _ _ refl))))))
