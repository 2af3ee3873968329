-- What the landing of a flit gives, by rows in their order: the first that gives something.
use Rattle.std.specs.Prelude.{ℕ, ◌+◌, ◌==◌, ◌&&◌, nat_lt, Bool, true, false, List, [], ◌∷◌, ◌++◌, length, Option, Some, None, option_map, Result, Ok, Err}
use Rattle.hmc_codes.specs.Commands.{layout_of}
use Rattle.hmc_codes.specs.declared.layout.Layout.{Layout}
use Rattle.hmc_codes.specs.declared.layout.Layout.TheVariants as layouts
use Rattle.hmc_codes.specs.declared.profile.Profile.{Profile}
use Rattle.hmc_packet.specs.declared.bad.Bad.{Bad}
use Rattle.hmc_packet.specs.declared.bad.Bad.TheVariants as bads
use Rattle.hmc_packet.specs.declared.outcome.Outcome.TheVariants.{Quiet, Trained, Gathered, Accepted, Poisoned, Repeat, AbortedBad, AbortedOrder}
use Rattle.hmc_packet.specs.declared.reception.Reception.{Reception}
use Rattle.hmc_packet.specs.declared.seen.Seen.{Seen}
use Rattle.hmc_packet.specs.declared.view.Mode.{Mode}
use Rattle.hmc_packet.specs.declared.view.Mode.TheVariants.{Train, Abort, Good}
use Rattle.hmc_packet.specs.Irtry.{kind_of, irtry_in}
use Rattle.hmc_packet.specs.Landings.{is_training, whole_training}
use Rattle.hmc_packet.specs.Parts.{lng_of}
use Rattle.hmc_packet.specs.Reading.{is_null, read_of}
use Rattle.hmc_packet.specs.Receptions.{LandingView, checked, unchecked, irtry_reception, is_next, is_repeat, is_no_length, lng_with}
use Rattle.hmc_packet.specs.Rows.{given_if, first_row}

-- ---- Train

-- the flit trains, and is the eighth in a row that does
abbrev pub trained : Profile → LandingView → List ℕ → Option Reception
trained profile view flit =
    given_if (is_training profile flit && (view.training + 1 == whole_training))
    (checked Trained None)

-- the flit trains
abbrev pub trains : Profile → LandingView → List ℕ → Option Reception
trains profile view flit = given_if (is_training profile flit) (checked Quiet None)

-- ---- Abort: each flit is read alone

-- a good IRTRY
abbrev pub irtry_alone : Profile → LandingView → List ℕ → Option Reception
irtry_alone profile view flit =
    option_map (λ irtry. irtry_reception (view.run irtry.0) irtry.0 irtry.1)
    (irtry_in profile flit)

-- ---- Good

-- a NULL at a packet's beginning
abbrev pub null_between : LandingView → List ℕ → Option Reception
null_between view flit =
    given_if (length view.pending == 0 && is_null flit) (checked Quiet None)

-- a first flit whose LNG is that of no packet
abbrev pub no_length : LandingView → List ℕ → Option Reception
no_length view flit =
    given_if (length view.pending == 0 && is_no_length (lng_of flit))
    (unchecked (AbortedBad bads.Length))

-- a flit before the last one of its packet
abbrev pub gathered : LandingView → List ℕ → Option Reception
gathered view flit =
    given_if (nat_lt (length (view.pending ++ flit ∷ [])) (lng_with view.pending flit))
    (unchecked Gathered)

abbrev pub is_flow : (test : Layout → Bool) → Seen → Bool
is_flow test seen = test (layout_of seen.packet.command)

abbrev pub is_null_layout : Layout → Bool
is_null_layout layouts.Null = true
is_null_layout _ = false

abbrev pub is_irtry_layout : Layout → Bool
is_irtry_layout layouts.Irtry = true
is_irtry_layout _ = false

abbrev pub is_pret_layout : Layout → Bool
is_pret_layout layouts.Pret = true
is_pret_layout _ = false

-- what a packet gives that was read at its last flit
abbrev pub packet_rows : Profile → LandingView → List (Seen → Option Reception)
packet_rows profile view =
    (λ seen. given_if (is_flow is_null_layout seen) (checked Quiet None))
    ∷ (λ seen. given_if (is_flow is_irtry_layout seen)
    (irtry_reception (view.run (kind_of seen.packet.frp)) (kind_of seen.packet.frp) seen.rrp))
    ∷ (λ seen. given_if (is_flow is_pret_layout seen) (checked Quiet (Some seen.rrp)))
    ∷ (λ seen. given_if (is_next profile view seen.packet && seen.packet.poisoned)
    (checked Poisoned (Some seen.rrp)))
    ∷ (λ seen. given_if (is_next profile view seen.packet) (checked Accepted (Some seen.rrp)))
    ∷ (λ seen. given_if (is_repeat profile view seen.packet) (checked Repeat (Some seen.rrp)))
    ∷ []

abbrev pub out_of_order : Seen → Reception
out_of_order seen = checked AbortedOrder (Some seen.rrp)

-- what the last flit of a packet gives, by what the packet's flits read as
abbrev pub last_flit : Profile → LandingView → Result Seen Bad → Reception
last_flit profile view (Err bad) = unchecked (AbortedBad bad)
last_flit profile view (Ok seen) = first_row (packet_rows profile view) out_of_order seen

-- ---- all modes

abbrev pub landing_rows : Mode → Profile → LandingView → List (List ℕ → Option Reception)
landing_rows Train profile view = trained profile view ∷ trains profile view ∷ []
landing_rows Abort profile view = irtry_alone profile view ∷ []
landing_rows Good profile view = null_between view ∷ no_length view ∷ gathered view ∷ []

-- what a landing gives for which no row gives something
abbrev pub other_landing : Mode → Profile → LandingView → List ℕ → Reception
other_landing Train profile view flit = unchecked Quiet
other_landing Abort profile view flit = unchecked Quiet
other_landing Good profile view flit =
    last_flit profile view (read_of profile (view.pending ++ flit ∷ []))

abbrev pub reception_by_rows : Profile → LandingView → List ℕ → Reception
reception_by_rows profile view flit =
    first_row (landing_rows view.mode profile view) (other_landing view.mode profile view) flit
