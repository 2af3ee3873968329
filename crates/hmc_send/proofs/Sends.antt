-- A sender that stands for a list stands, after a send, for the list with the entry of that send.
use Rattle.std.proofs.Common.{◌≡◌, ℕ, Bool, true, false, List, Some, None, refl, sym, ap, subst}
use Rattle.std.specs.Prelude.{if◌then◌else◌}
use Rattle.hmc_packet.specs.declared.feed.Feed.{Feed}
use Rattle.hmc_packet.specs.declared.feed.Feed.TheVariants.{Waiting, Whole, Last}
use Rattle.hmc_packet.specs.declared.kind.Kind.{Kind}
use Rattle.hmc_packet.specs.declared.kind.Kind.TheVariants as kind
use Rattle.hmc_packet.specs.declared.what.What.{What}
use Rattle.hmc_packet.specs.declared.what.What.TheVariants as what
use Rattle.hmc_packet.specs.Packet.{PacketFields}
use Rattle.hmc_send.specs.declared.state.State.{State}
use Rattle.hmc_send.specs.declared.sent.Sent.{Sent}
use Rattle.hmc_send.specs.declared.sent.Sent.TheVariants.{Out}
use Rattle.hmc_send.specs.Choice.{choice, irtry_of, irtry_sent, next_flit, part_what}
use Rattle.hmc_send.specs.Entries.{SenderEntry, Given, Part}
use Rattle.hmc_send.specs.declared.numbers.Numbers.{Numbers}
use Rattle.hmc_send.specs.Places.{Place}
use Rattle.hmc_send.specs.Sender.{view_held, after_send, MaySend, IsFedAt}
use Rattle.hmc_send.specs.StandsFor.{StandsFor, entries_after}
use Rattle.hmc_send.proofs.Cases.{Case, case_of}
use Rattle.hmc_send.proofs.Cases.Case.{trains, goes_on, starves, steers, repeats, begins, returns, points, idles}
use Rattle.hmc_send.proofs.Parts.{LastFed, stands-again, stands-again_on, stands-new_on, stands-whole, stands-last}
use Rattle.hmc_send.proofs.Steps.{stands-train, stands-null, stands-pret, stands-start, stands-clear, stands-tret, stands-new, at-end, is-due}

-- what is proved of each send
abbrev Stands : (held : State) → List SenderEntry → Given → Sent → Type 0
Stands held past given x = StandsFor (after_send given x held) (entries_after given x past)

as-what : (held : State) (past : List SenderEntry) (given : Given) (flit : List ℕ) (v w : What) → w ≡ v → Stands held past given (Out flit v) → Stands held past given (Out flit w)
as-what held past given flit v w same is = subst (λ (x : What). Stands held past given (Out flit x)) (sym same) is

by_feed : (held : State) (past : List SenderEntry) (given : Given) (flit head : List ℕ) (flits : ℕ) (n : Numbers) (part : Part) (feed : Feed) → StandsFor held past →
    held.under_way ≡ Some (record { part = part; place = Place.awaited head flits n }) → given.feed ≡ feed → IsFedAt held.retry part (Place.awaited head flits n) feed →
    next_flit held.retry.profile given.own.rrp feed (Place.awaited head flits n) part ≡ Some flit → Stands held past given (Out flit what.New)
by_feed held past given flit head flits n part Waiting is some same fed next = absurd cc
by_feed held past given flit head flits n part (Whole whole) is some same fed next =
    stands-whole held past given flit whole head flits n part is some fed.first_time same fed.fits
by_feed held past given flit head flits n part (Last half slid errstat good) is some same fed next =
    let f : LastFed = record { half = half; slid = slid; errstat = errstat; good = good } in
    stands-last held past given flit head f flits n part is some fed.first_time same fed.fits.0 fed.fits.1 fed.at_end

by_again : (held : State) (past : List SenderEntry) (given : Given) (flit : List ℕ) (part : Part) (packet : PacketFields) (again : Bool) → StandsFor held past →
    held.under_way ≡ Some (record { part = part; place = Place.known packet }) → part.again ≡ again → Stands held past given (Out flit (part_what part))
by_again held past given flit part packet true is some same =
    as-what held past given flit what.Again (part_what part) (ap (λ (b : Bool). if b then what.Again else what.New) same) (stands-again_on held past given flit part packet is some same)
by_again held past given flit part packet false is some same =
    as-what held past given flit what.New (part_what part) (ap (λ (b : Bool). if b then what.Again else what.New) same) (stands-new_on held past given flit part packet is some same)

by_place : (held : State) (past : List SenderEntry) (given : Given) (flit : List ℕ) (part : Part) (place : Place) → StandsFor held past →
    held.under_way ≡ Some (record { part = part; place = place }) → IsFedAt held.retry part place given.feed →
    next_flit held.retry.profile given.own.rrp given.feed place part ≡ Some flit → Stands held past given (Out flit (part_what part))
by_place held past given flit part (Place.known packet) is some fed next = by_again held past given flit part packet part.again is some refl
by_place held past given flit part (Place.awaited head flits n) is some fed next =
    as-what held past given flit what.New (part_what part) (ap (λ (b : Bool). if b then what.Again else what.New) fed.first_time)
    (by_feed held past given flit head flits n part given.feed is some refl fed next)

by_kind : (held : State) (past : List SenderEntry) (given : Given) (of : Kind) → StandsFor held past → held.under_way ≡ None →
    irtry_of (view_held held given) ≡ Some of → Stands held past given (irtry_sent held.retry.profile given.own.rrp of)
by_kind held past given kind.Clear is nothing due = stands-clear held past given _ is nothing (is-due held given kind.Clear due)
by_kind held past given kind.Start is nothing due = stands-start held past given _ is (is-due held given kind.Start due)

by_case : (held : State) (past : List SenderEntry) (given : Given) (x : Sent) → StandsFor held past → MaySend held given → Case held.retry.profile (view_held held given) x → Stands held past given x
by_case held past given x is may (trains t) = stands-train held past given _ is
by_case held past given x is may (goes_on t begun some flit next) =
    by_place held past given flit begun.part begun.place is some (may.fed begun some) next
by_case held past given x is may (starves t begun some next) = is
by_case held past given x is may (steers t nothing of due) = by_kind held past given of is nothing due
by_case held past given x is may (repeats b place some) = stands-again held past given _ place is b.nothing some
by_case held past given x is may (begins free can) = stands-new held past given _ is (at-end held given free.between.nothing may.within free.all_sent)
by_case held past given x is may (returns free opened can) = stands-tret held past given _ is (at-end held given free.between.nothing may.within free.all_sent)
by_case held past given x is may (points free other) = stands-pret held past given _ is
by_case held past given x is may (idles free same) = stands-null held past given _ is

-- the law of a send
pub stands-send : (held : State) (past : List SenderEntry) (given : Given) → StandsFor held past → MaySend held given →
    Stands held past given (choice held.retry.profile (view_held held given))
stands-send held past given is may = by_case held past given (choice held.retry.profile (view_held held given)) is may (case_of held.retry.profile (view_held held given))
