-- The rows of a landing give what its definition gives.
use Rattle.std.proofs.Common.{◌≡◌, ℕ, Bool, true, false, Option, Some, None, List, [], ◌∷◌, ◌++◌, length, Result, Ok, Err, refl}
use Rattle.std.specs.Prelude.{◌&&◌, ◌==◌, nat_lt, ◌+◌, option_map, unwrap_or, if◌then◌else◌}
use Rattle.hmc_codes.specs.Commands.{layout_of}
use Rattle.hmc_codes.specs.declared.layout.Layout.{Layout}
use Rattle.hmc_codes.specs.declared.layout.Layout.TheVariants as layouts
use Rattle.hmc_codes.specs.declared.profile.Profile.{Profile}
use Rattle.hmc_packet.specs.declared.bad.Bad.{Bad}
use Rattle.hmc_packet.specs.declared.bad.Bad.TheVariants as bads
use Rattle.hmc_packet.specs.declared.kind.Kind.{Kind}
use Rattle.hmc_packet.specs.declared.outcome.Outcome.TheVariants.{Quiet, Trained, Gathered, Accepted, Poisoned, Repeat, AbortedBad, AbortedOrder}
use Rattle.hmc_packet.specs.declared.reception.Reception.{Reception}
use Rattle.hmc_packet.specs.declared.seen.Seen.{Seen}
use Rattle.hmc_packet.specs.declared.view.Mode.{Mode}
use Rattle.hmc_packet.specs.declared.view.Mode.TheVariants.{Train, Abort, Good}
use Rattle.hmc_packet.specs.Irtry.{kind_of, irtry_in}
use Rattle.hmc_packet.specs.Landings.{is_training, whole_training}
use Rattle.hmc_packet.specs.Parts.{lng_of}
use Rattle.hmc_packet.specs.Reading.{is_null, read_of}
use Rattle.hmc_packet.specs.Receptions.{LandingView, checked, unchecked, irtry_reception, is_next, is_repeat, is_no_length, lng_with, sequenced_outcome, packet_reception, read_reception, abort_reception, mode_reception, reception_by}
use Rattle.hmc_packet.specs.Rows.{given_if, first_row}
use Rattle.hmc_packet.specs.LandingRows.{is_null_layout, is_irtry_layout, is_pret_layout, last_flit, landing_rows, other_landing, reception_by_rows}

-- the same under what both answers have in common
sequenced : {X Y : Type 0} (f : X → Y) (next poisoned again : Bool) (a b c d : X)
    → f (if next then (if poisoned then a else b) else if again then c else d)
    ≡ unwrap_or (given_if (next && poisoned) (f a)) (unwrap_or (given_if next (f b)) (unwrap_or (given_if again (f c)) (f d)))
sequenced f true true again a b c d = refl
sequenced f true false again a b c d = refl
sequenced f false poisoned true a b c d = refl
sequenced f false poisoned false a b c d = refl

-- the rows of a packet, by its layout
abbrev by_layout : Profile → LandingView → Seen → Layout → Reception
by_layout profile view seen layout =
    unwrap_or (given_if (is_null_layout layout) (checked Quiet None))
    (unwrap_or (given_if (is_irtry_layout layout) (irtry_reception (view.run (kind_of seen.packet.frp)) (kind_of seen.packet.frp) seen.rrp))
    (unwrap_or (given_if (is_pret_layout layout) (checked Quiet (Some seen.rrp)))
    (unwrap_or (given_if (is_next profile view seen.packet && seen.packet.poisoned) (checked Poisoned (Some seen.rrp)))
    (unwrap_or (given_if (is_next profile view seen.packet) (checked Accepted (Some seen.rrp)))
    (unwrap_or (given_if (is_repeat profile view seen.packet) (checked Repeat (Some seen.rrp)))
    (checked AbortedOrder (Some seen.rrp)))))))

in_order : (profile : Profile) (view : LandingView) (seen : Seen)
    → checked (sequenced_outcome profile view seen.packet) (Some seen.rrp)
    ≡ unwrap_or (given_if (is_next profile view seen.packet && seen.packet.poisoned) (checked Poisoned (Some seen.rrp)))
    (unwrap_or (given_if (is_next profile view seen.packet) (checked Accepted (Some seen.rrp)))
    (unwrap_or (given_if (is_repeat profile view seen.packet) (checked Repeat (Some seen.rrp)))
    (checked AbortedOrder (Some seen.rrp))))
in_order profile view seen =
    sequenced (λ outcome. checked outcome (Some seen.rrp)) (is_next profile view seen.packet) seen.packet.poisoned (is_repeat profile view seen.packet) Poisoned Accepted Repeat AbortedOrder

of_layout : (profile : Profile) (view : LandingView) (seen : Seen) (layout : Layout) → packet_reception profile view layout seen ≡ by_layout profile view seen layout
of_layout profile view seen layouts.Null = refl
of_layout profile view seen layouts.Irtry = refl
of_layout profile view seen layouts.Pret = refl
of_layout profile view seen layouts.Tret = in_order profile view seen
of_layout profile view seen layouts.Ask = in_order profile view seen
of_layout profile view seen layouts.Reply = in_order profile view seen

of_read : (profile : Profile) (view : LandingView) (read : Result Seen Bad) → read_reception profile view read ≡ last_flit profile view read
of_read profile view (Err bad) = refl
of_read profile view (Ok seen) = of_layout profile view seen (layout_of seen.packet.command)

train_tests : (trains last : Bool) → (if trains then checked (if last then Trained else Quiet) None else unchecked Quiet)
    ≡ unwrap_or (given_if (trains && last) (checked Trained None)) (unwrap_or (given_if trains (checked Quiet None)) (unchecked Quiet))
train_tests true true = refl
train_tests true false = refl
train_tests false last = refl

in_abort : (view : LandingView) (irtry : Option (Kind × ℕ)) → abort_reception view irtry
    ≡ unwrap_or (option_map (λ (irtry : Kind × ℕ). irtry_reception (view.run irtry.0) irtry.0 irtry.1) irtry) (unchecked Quiet)
in_abort view None = refl
in_abort view (Some irtry) = refl

three_tests : {X : Type 0} (t u v : Bool) (a b c d e : X) → d ≡ e → (if t then a else if u then b else if v then c else d) ≡ unwrap_or (given_if t a) (unwrap_or (given_if u b) (unwrap_or (given_if v c) e))
three_tests true u v a b c d e same = refl
three_tests false true v a b c d e same = refl
three_tests false false true a b c d e same = refl
three_tests false false false a b c d e same = same

by_mode : (mode : Mode) (profile : Profile) (view : LandingView) (flit : List ℕ) → mode_reception mode profile view flit ≡ first_row (landing_rows mode profile view) (other_landing mode profile view) flit
by_mode Train profile view flit = train_tests (is_training profile flit) (view.training + 1 == whole_training)
by_mode Abort profile view flit = in_abort view (irtry_in profile flit)
by_mode Good profile view flit =
    three_tests (length view.pending == 0 && is_null flit) (length view.pending == 0 && is_no_length (lng_of flit)) (nat_lt (length (view.pending ++ flit ∷ [])) (lng_with view.pending flit))
    (checked Quiet None) (unchecked (AbortedBad bads.Length)) (unchecked Gathered)
    (read_reception profile view (read_of profile (view.pending ++ flit ∷ []))) (last_flit profile view (read_of profile (view.pending ++ flit ∷ [])))
    (of_read profile view (read_of profile (view.pending ++ flit ∷ [])))

pub reception_rows : (profile : Profile) (view : LandingView) (flit : List ℕ) → reception_by profile view flit ≡ reception_by_rows profile view flit
unfolding reception_by
reception_rows profile view flit = by_mode view.mode profile view flit
