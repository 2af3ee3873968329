-- What the case that a send took says.
use Rattle.std.proofs.Common.{◌≡◌, ℕ, Bool, true, false, List, Option, Some, None, refl}
use Rattle.std.specs.Prelude.{◌==◌, ◌&&◌, not, nat_le, if◌then◌else◌}
use Rattle.std.proofs.lemmas.Bool.{and_parts}
use Rattle.hmc_codes.specs.Flit.{zero_flit}
use Rattle.hmc_codes.specs.declared.profile.Profile.{Profile}
use Rattle.hmc_packet.specs.declared.kind.Kind.{Kind}
use Rattle.hmc_packet.specs.declared.what.What.TheVariants as what
use Rattle.hmc_packet.specs.Packet.{PacketFields, flits_of}
use Rattle.hmc_packet.specs.Spelling.{training_flit}
use Rattle.hmc_send.specs.declared.sent.Sent.{Sent}
use Rattle.hmc_send.specs.declared.sent.Sent.TheVariants.{Out, Starved}
use Rattle.hmc_send.specs.Choice.{SendView, choice, is_train, irtry_sent, first_flit, next_of_view, may_take, may_return, pointer_or_null, again_or, irtry_of, irtry_or, part_what, next_flit, unless_starved, going_on}
use Rattle.hmc_send.specs.Entries.{UnderWay, or_null}
use Rattle.hmc_send.specs.Places.{Place, tret_packet, pret_packet, flit_of, packet_in}

-- nothing goes before a packet: no training, nothing under way, no IRTRY
pub record IsBetween (s : SendView) : Type 0 where
  pub trained : is_train s.given.own.mode ≡ false
  pub nothing : s.under_way ≡ None
  pub calm : irtry_of s ≡ None

-- and no packet again
pub record IsFree (s : SendView) : Type 0 where
  pub between : IsBetween s
  pub all_sent : s.again ≡ None

-- the front of the queue has tokens and room
pub record CanBegin (s : SendView) : Type 0 where
  pub packet : PacketFields
  pub front : s.given.front ≡ Some packet
  pub is_open : s.is_open ≡ true
  pub held : nat_le (flits_of packet) s.given.held ≡ true
  pub room : nat_le (flits_of packet) s.room ≡ true

-- the cases of a send, with what each gives
pub data Case (q : Profile) (s : SendView) : Sent → Type 0 where
  trains : is_train s.given.own.mode ≡ true → Case q s (Out training_flit what.Train)
  goes_on : is_train s.given.own.mode ≡ false → (begun : UnderWay) → s.under_way ≡ Some begun → (flit : List ℕ) →
      next_flit q s.given.own.rrp s.given.feed begun.place begun.part ≡ Some flit → Case q s (Out flit (part_what begun.part))
  starves : is_train s.given.own.mode ≡ false → (begun : UnderWay) → s.under_way ≡ Some begun →
      next_flit q s.given.own.rrp s.given.feed begun.place begun.part ≡ None → Case q s Starved
  steers : is_train s.given.own.mode ≡ false → s.under_way ≡ None → (kind : Kind) → irtry_of s ≡ Some kind → Case q s (irtry_sent q s.given.own.rrp kind)
  repeats : IsBetween s → (place : Place) → s.again ≡ Some place → Case q s (first_flit q s.given.own.rrp what.Again (packet_in place))
  begins : IsFree s → CanBegin s → Case q s (first_flit q s.given.own.rrp what.New (next_of_view q s (or_null s.given.front)))
  returns : IsFree s → s.is_open ≡ true → may_return s ≡ true → Case q s (first_flit q s.given.own.rrp what.Tret (next_of_view q s tret_packet))
  points : IsFree s → (s.given.own.rrp == s.shown) ≡ false → Case q s (Out (flit_of q pret_packet s.given.own.rrp 0) what.Pret)
  idles : IsFree s → (s.given.own.rrp == s.shown) ≡ true → Case q s (Out zero_flit what.Null)

can_begin : (s : SendView) (front : Option PacketFields) → s.given.front ≡ front → s.is_open ≡ true → may_take s front ≡ true → CanBegin s
can_begin s None is opened can = absurd cc
can_begin s (Some packet) is opened can =
    let both = and_parts (nat_le (flits_of packet) s.given.held) (nat_le (flits_of packet) s.room) can in
    record { packet = packet; front = is; is_open = opened; held = both.0; room = both.1 }

by_pointer : (q : Profile) (s : SendView) (same : Bool) → (s.given.own.rrp == s.shown) ≡ same → IsFree s →
    Case q s (if not same then Out (flit_of q pret_packet s.given.own.rrp 0) what.Pret else Out zero_flit what.Null)
by_pointer q s true is free = idles free is
by_pointer q s false is free = points free is

by_first : (q : Profile) (s : SendView) (new tokens : Bool) → (s.is_open && may_take s s.given.front) ≡ new → (s.is_open && may_return s) ≡ tokens → IsFree s →
    Case q s (if new then first_flit q s.given.own.rrp what.New (next_of_view q s (or_null s.given.front)) else
    if tokens then first_flit q s.given.own.rrp what.Tret (next_of_view q s tret_packet) else pointer_or_null q s)
by_first q s true tokens is-new is-tokens free =
    let both = and_parts s.is_open (may_take s s.given.front) is-new in
    begins free (can_begin s s.given.front refl both.0 both.1)
by_first q s false true is-new is-tokens free =
    let both = and_parts s.is_open (may_return s) is-tokens in returns free both.0 both.1
by_first q s false false is-new is-tokens free = by_pointer q s (s.given.own.rrp == s.shown) refl free

by_again : (q : Profile) (s : SendView) (place : Option Place) → s.again ≡ place → IsBetween s → Case q s (again_or q s place)
by_again q s None none is = by_first q s _ _ refl refl (record { between = is; all_sent = none })
by_again q s (Some place) some is = repeats is place some

by_irtry : (q : Profile) (s : SendView) (due : Option Kind) → irtry_of s ≡ due → is_train s.given.own.mode ≡ false → s.under_way ≡ None → Case q s (irtry_or q s due)
by_irtry q s None none trained nothing = by_again q s s.again refl (record { trained = trained; nothing = nothing; calm = none })
by_irtry q s (Some kind) some trained nothing = steers trained nothing kind some

by_flit : (q : Profile) (s : SendView) (begun : UnderWay) (flit : Option (List ℕ)) → next_flit q s.given.own.rrp s.given.feed begun.place begun.part ≡ flit → s.under_way ≡ Some begun → is_train s.given.own.mode ≡ false →
    Case q s (unless_starved (part_what begun.part) flit)
by_flit q s begun None is some trained = starves trained begun some is
by_flit q s begun (Some flit) is some trained = goes_on trained begun some flit is

by_part : (q : Profile) (s : SendView) (begun : Option UnderWay) → s.under_way ≡ begun → is_train s.given.own.mode ≡ false → Case q s (going_on q s begun)
by_part q s None nothing trained = by_irtry q s (irtry_of s) refl trained nothing
by_part q s (Some begun) some trained = by_flit q s begun _ refl some trained

by_train : (q : Profile) (s : SendView) (train : Bool) → is_train s.given.own.mode ≡ train → Case q s (if train then Out training_flit what.Train else going_on q s s.under_way)
by_train q s true is = trains is
by_train q s false is = by_part q s s.under_way refl is

-- the case that was taken
pub case_of : (q : Profile) (s : SendView) → Case q s (choice q s)
unfolding choice
case_of q s = by_train q s (is_train s.given.own.mode) refl
