-- Small rows: when a sender is free, acknowledgements, room, numbers that wrap, error numbers, and
-- bursts.
use Rattle.std.proofs.Common.{◌≡◌, ℕ, true, false, List, [], ◌∷◌, Some, None, refl}
use Rattle.hmc_codes.specs.declared.layout.Layout.TheVariants as layouts
use Rattle.hmc_codes.specs.declared.profile.Profile.TheVariants.{One, Two}
use Rattle.hmc_packet.specs.declared.feed.Feed.TheVariants.{Waiting}
use Rattle.hmc_packet.specs.declared.kind.Kind.TheVariants as kind
use Rattle.hmc_packet.specs.declared.view.Mode.TheVariants as mode
use Rattle.hmc_packet.specs.Packet.{null_packet}
use Rattle.hmc_send.specs.declared.state.State.{State}
use Rattle.hmc_send.specs.Acknowledged.{acknowledged_among, acknowledged_after}
use Rattle.hmc_send.specs.Choice.{SendView, is_free, burst_of}
use Rattle.hmc_send.specs.Copies.{errstat_for}
use Rattle.hmc_send.specs.Entries.{places, acked}
use Rattle.hmc_send.specs.Given.{given_only, good_view}
use Rattle.hmc_send.specs.Places.{Place, numbers_after}
use Rattle.hmc_send.specs.Sender.{opening_sender, room_held, view_held, after_ran, after_through}
use Rattle.hmc_send.specs.StandsFor.{lacking}

-- an open sender with nothing to do
abbrev calm : SendView
calm = record {
  given = record { own = record { mode = mode.Good; rrp = 0 }; front = None; held = 0; due = 0; feed = Waiting };
  under_way = None;
  burst = None;
  go_back = false;
  may_start = true;
  again = None;
  pointer = 0;
  number = 0;
  is_open = true;
  room = 17;
  shown = 0;
}

free-calm : is_free calm ≡ true
free-calm = refl

-- before it is open, in a replay, in a burst, and where a go-back is due it isn't free
free-closed : is_free (record calm { is_open = false }) ≡ false
free-closed = refl

free-replay : is_free (record calm { again = Some (Place.known null_packet) }) ≡ false
free-replay = refl

free-burst : is_free (record calm { burst = Some kind.Start }) ≡ false
free-burst = refl

free-back : is_free (record calm { go_back = true }) ≡ false
free-back = refl

-- a new sender isn't free, nor is one that was opened by a run, whose go-back is due
abbrev new : State
new = opening_sender 17 One

free-new : is_free (view_held new (given_only good_view)) ≡ false
free-new = refl

free-ran : is_free (view_held (after_ran new) (given_only good_view)) ≡ false
free-ran = refl

free-gone : is_free (view_held (record (after_ran new) { go_back = false }) (given_only good_view)) ≡ true
free-gone = refl

-- a cut-through takes its room when it is begun
room-new : room_held new ≡ 17
room-new = refl

room-through : room_held (after_through [] 2 0 new) ≡ 15
room-through = refl

-- a pointer acknowledges the places up to the one that ends at it, and the base none; any other is
-- stray, and so is that of an open place
abbrev ending_at : ℕ → Place
ending_at frp = Place.known (record null_packet { frp = frp })

abbrev waiting : List Place
waiting = ending_at 3 ∷ ending_at 5 ∷ Place.awaited [] 2 (record { frp = 7; seq = 3; rtc = 0 }) ∷ []

acked-base : acknowledged_among 2 2 waiting ≡ Some 0
acked-base = refl

acked-second : acknowledged_among 5 2 waiting ≡ Some 2
acked-second = refl

acked-between : acknowledged_among 4 2 waiting ≡ None
acked-between = refl

acked-open : acknowledged_among 7 2 waiting ≡ None
acked-open = refl

acked-none : acknowledged_after One 0 [] ≡ Some 0
unfolding places acked
acked-none = refl

stray-none : acknowledged_after One 1 [] ≡ None
unfolding places acked
stray-none = refl

-- the numbers of the next packet wrap at the profile's number, and at 8
numbers-one : numbers_after One 511 7 1 3 ≡ record { frp = 0; seq = 0; rtc = 3 }
numbers-one = refl

numbers-two : numbers_after Two 511 7 1 3 ≡ record { frp = 512; seq = 0; rtc = 3 }
numbers-two = refl

-- an error number of seven bits keeps its three low ones in profile Two; a request has none
errstat-two : errstat_for Two layouts.Reply 77 ≡ 5
errstat-two = refl

errstat-one : errstat_for One layouts.Reply 77 ≡ 77
errstat-one = refl

errstat-ask : errstat_for One layouts.Ask 77 ≡ 0
errstat-ask = refl

-- a burst has 32
lacking-none : lacking 64 ≡ 0
lacking-none = refl

lacking-first : lacking 33 ≡ 31
lacking-first = refl

burst-clears : burst_of 33 64 ≡ Some kind.Clear
burst-clears = refl

burst-whole : burst_of 32 64 ≡ None
burst-whole = refl
