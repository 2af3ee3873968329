-- A send leaves what each sender keeps.
use Rattle.std.proofs.Common.{◌≡◌, ◌∙◌, inl, inr, ◌<◌, ◌≤◌, ◌+◌, ◌%◌, ◌^◌, ℕ, suc, min, Bool, true, false, List, [], ◌∷◌, ◌++◌, length, map, Option, Some, None, refl, sym, ap, subst, arith, length-append, leb-true}
use Rattle.std.specs.Prelude.{nat_le, nat_lt, if◌then◌else◌}
use Rattle.std.proofs.lemmas.Bool.{and_parts}
use Rattle.std.proofs.lemmas.Option.{slice_get_within}
use Rattle.hmc_codes.proofs.General.{mod_small}
use Rattle.hmc_codes.specs.Profile.{modulus_of}
use Rattle.hmc_codes.specs.declared.profile.Profile.{Profile}
use Rattle.hmc_codes.specs.declared.profile.Profile.TheVariants.{One, Two}
use Rattle.hmc_packet.specs.declared.feed.Feed.{Feed}
use Rattle.hmc_packet.specs.Copy.{copied_packet}
use Rattle.hmc_packet.specs.declared.feed.Feed.TheVariants.{Waiting, Whole, Last}
use Rattle.hmc_packet.specs.declared.kind.Kind.{Kind}
use Rattle.hmc_packet.specs.declared.kind.Kind.TheVariants as kind
use Rattle.hmc_packet.specs.declared.what.What.{What}
use Rattle.hmc_packet.specs.declared.what.What.TheVariants as what
use Rattle.hmc_packet.specs.Packet.{PacketFields, flits_of, null_packet}
use Rattle.hmc_packet.specs.Reading.{packet_from}
use Rattle.hmc_packet.specs.Tail.{FitsField, tail_layout}
use Rattle.hmc_retry.specs.RetryBuffer.{room_of, next_pointer, packet_at, after_next, after_put}
use Rattle.hmc_tokens.specs.Account.{code_for}
use Rattle.hmc_send.specs.declared.numbers.Numbers.{Numbers}
use Rattle.hmc_send.specs.declared.sent.Sent.{Sent}
use Rattle.hmc_send.specs.declared.sent.Sent.TheVariants.{Out}
use Rattle.hmc_send.specs.declared.state.State.{State}
use Rattle.hmc_send.specs.Choice.{next_of_view, choice, irtry_sent, next_flit, part_what, may_return}
use Rattle.hmc_send.specs.Copies.{copy_of, place_fed}
use Rattle.hmc_send.specs.Entries.{Given, Part, UnderWay, with_place, part_after, part_with, or_null, shows_pointer}
use Rattle.hmc_send.specs.Given.{IsTaken, IsFrontFit, IsBegunFit, IsTakenFit}
use Rattle.hmc_send.specs.IsSender.{IsSender, IsBegunKept, IsNextKept}
use Rattle.hmc_send.specs.Kept.{CanBeSent}
use Rattle.hmc_send.specs.Places.{Place, tret_packet, flit_of}
use Rattle.hmc_send.specs.Sender.{view_held, open_places, places_held, position_held, next_held, part_of, retry_fed, after_sent, after_send, MaySend, IsFedAt}
use Rattle.hmc_send.proofs.Cases.{Case, CanBegin, case_of}
use Rattle.hmc_send.proofs.Cases.Case.{trains, goes_on, starves, steers, repeats, begins, returns, points, idles}
use Rattle.hmc_send.proofs.KeepLemmas.{keep-quiet, keep-irtry, keep-kept, keep-closed, keep-open, keep-filled, begun-known, buffer-next, few-others}
use Rattle.hmc_send.proofs.KeptLemmas.{room-bare, next-bare, CanBeSent-next, errstat-taken}
use Rattle.hmc_send.proofs.Lists.{length-known}
use Rattle.hmc_send.proofs.Parts.{again-none, again-some, new-some}
use Rattle.hmc_send.proofs.Steps.{new-none}

-- a packet that is begun for the first time has its place in the buffer
next-pointer : (held : State) (flits : ℕ) → IsSender held → held.under_way ≡ None → (held.pointer + flits) % modulus_of held.retry.profile ≡ next_pointer held.retry flits
next-pointer held flits is nothing = (λ i. (held.pointer + flits) % modulus_of (sym is.profile i)) ∙ next-bare held flits is nothing

by_new : (held : State) (given : Given) (flit : List ℕ) → IsSender held → IsFrontFit held.retry.profile given.front → IsTakenFit held.under_way (Out flit what.New) given.front → held.under_way ≡ None → CanBegin (view_held held given) →
    IsSender (after_sent given what.New flit held)
by_new held given flit is fit begun nothing can =
    let q = held.retry.profile in
    let p = or_null given.front in
    let same : can.packet ≡ p = ap or_null (sym can.front) in
    let taken : IsTaken q can.packet = subst (IsFrontFit q) can.front fit in
    let mine : IsTaken q p = subst (IsTaken q) same taken in
    let bare : IsBegunFit (Out flit what.New) given.front = subst (λ (u : Option UnderWay). IsTakenFit u (Out flit what.New) given.front) nothing begun in
    let few : can.packet.errstat < 2 ^ 7 = subst (IsBegunFit (Out flit what.New)) can.front bare in
    let errstat : FitsField (tail_layout q).errstat p.errstat = subst (λ (t : PacketFields). FitsField (tail_layout q).errstat t.errstat) same (errstat-taken q can.packet taken few) in
    let room : flits_of can.packet ≤ room_of held.retry = subst (λ (n : ℕ). flits_of can.packet ≤ n) (room-bare held nothing) (leb-true (flits_of can.packet) (view_held held given).room can.room) in
    let fits : flits_of p ≤ room_of held.retry = subst (λ (t : PacketFields). flits_of t ≤ room_of held.retry) same room in
    let sendable : CanBeSent q (next_held held given.due p) = CanBeSent-next q held.pointer held.number (code_for given.due) p (inl mine.token) errstat in
    subst IsSender (sym (new-none held given flit nothing))
    (keep-kept held (next_held held given.due p) (part_after false flit None) _ is nothing fits (next-pointer held (flits_of p) is nothing) (omega arith) sendable
    (begun-known (after_put (next_held held given.due p) held.retry) (next_held held given.due p) (part_after false flit None) sendable))

pub zero-fits : (q : Profile) → FitsField (tail_layout q).errstat 0
zero-fits One = omega arith
zero-fits Two = omega arith

by_tret : (held : State) (given : Given) (flit : List ℕ) → IsSender held → held.under_way ≡ None → may_return (view_held held given) ≡ true → IsSender (after_sent given what.Tret flit held)
by_tret held given flit is nothing can =
    let q = held.retry.profile in
    let both = and_parts (nat_lt 0 given.due) (nat_le 1 (view_held held given).room) can in
    let room : 1 ≤ room_of held.retry = subst (λ (n : ℕ). 1 ≤ n) (room-bare held nothing) (leb-true 1 (view_held held given).room both.1) in
    let sendable : CanBeSent q (next_held held given.due tret_packet) = CanBeSent-next q held.pointer held.number (code_for given.due) tret_packet (inr refl) (zero-fits q) in
    keep-kept held (next_held held given.due tret_packet) None _ is nothing room (next-pointer held 1 is nothing) (omega arith) sendable tt

by_again : (held : State) (given : Given) (flit : List ℕ) (place : Place) → IsSender held → held.under_way ≡ None → (view_held held given).again ≡ Some place → IsSender (after_sent given what.Again flit held)
by_again held given flit place is nothing some =
    let o : length (open_places held.under_way) ≡ 0 = ap (λ (u : Option UnderWay). length (open_places u)) nothing in
    let inside = slice_get_within (places_held held) (position_held held) place some in
    let size : length (places_held held) ≡ length held.retry.kept + length (open_places held.under_way) =
    length-append (map Place.known held.retry.kept) (open_places held.under_way) ∙ ap (λ (n : ℕ). n + length (open_places held.under_way)) (length-known held.retry.kept) in
    let lt : held.retry.position < length held.retry.kept = omega arith in
    subst IsSender (sym (again-none held given flit nothing))
    (keep-closed held (after_next held.retry) (packet_at held.retry.kept held.retry.position) (part_after true flit None) _ is (ap open_places nothing)
    (buffer-next held.retry is.buffer) refl refl refl refl (is.sendable held.retry.position null_packet lt))

known-kept : (held : State) (part : Part) (packet : PacketFields) → IsSender held → held.under_way ≡ Some (record { part = part; place = Place.known packet }) → CanBeSent held.retry.profile packet
known-kept held part packet is some = subst (IsBegunKept held.retry) some is.begun

by_known : (held : State) (given : Given) (flit : List ℕ) (part : Part) (packet : PacketFields) (again : Bool) → IsSender held → held.under_way ≡ Some (record { part = part; place = Place.known packet }) → part.again ≡ again →
    IsSender (after_send given (Out flit (part_what part)) held)
by_known held given flit part packet true is some same =
    subst (λ (w : What). IsSender (after_sent given w flit held)) (sym (ap (λ (b : Bool). if b then what.Again else what.New) same))
    (subst IsSender (sym (again-some held given flit part packet some))
    (keep-closed held held.retry packet (part_with part flit) _ is (ap open_places some) is.buffer refl refl refl refl (known-kept held part packet is some)))
by_known held given flit part packet false is some same =
    subst (λ (w : What). IsSender (after_sent given w flit held)) (sym (ap (λ (b : Bool). if b then what.Again else what.New) same))
    (subst IsSender (sym (new-some held given flit part (Place.known packet) some))
    (keep-closed held held.retry packet (part_with part flit) _ is (ap open_places some) is.buffer refl refl refl refl (known-kept held part packet is some)))

copy-frp : (q : Profile) (sent : List (List ℕ)) (half : List ℕ) (slid errstat : ℕ) (good : Bool) (n : Numbers) → (copy_of q sent half slid errstat good n).frp ≡ n.frp
unfolding copy_of copied_packet packet_from
copy-frp q sent half slid errstat good n = refl

by_feed : (held : State) (given : Given) (flit head : List ℕ) (flits : ℕ) (n : Numbers) (part : Part) (feed : Feed) → IsSender held →
    held.under_way ≡ Some (record { part = part; place = Place.awaited head flits n }) → given.feed ≡ feed → IsFedAt held.retry part (Place.awaited head flits n) feed →
    next_flit held.retry.profile given.own.rrp feed (Place.awaited head flits n) part ≡ Some flit → IsSender (after_sent given what.New flit held)
by_feed held given flit head flits n part Waiting is some same fed next = absurd cc
by_feed held given flit head flits n part (Whole whole) is some same fed next =
    let longer : Part = record part { sent = part.sent ++ flit ∷ [] } in
    let w : part_with part flit ≡ Some longer = ap (λ (b : Bool). if b then None else Some longer) fed.fits in
    let waits = Place.awaited head flits n in
    subst IsSender
    (sym (new-some held given flit part waits some ∙ (λ i. record held {
      retry = retry_fed held.retry.profile part.sent (same i) waits held.retry;
      under_way = with_place (place_fed held.retry.profile part.sent (same i) waits) (w i);
      others = min (suc held.others) 64;
      shown = if shows_pointer what.New flit (part_of held.under_way) then given.own.rrp else held.shown;
    })))
    (keep-open held part longer head flits n _ is some)
by_feed held given flit head flits n part (Last half slid errstat good) is some same fed next =
    let q = held.retry.profile in
    let waits = Place.awaited head flits n in
    let copy = copy_of q part.sent half slid errstat good n in
    let w : part_with part flit ≡ None = ap (λ (b : Bool). if b then None else Some (record part { sent = part.sent ++ flit ∷ [] })) fed.fits.0 in
    let kept : IsNextKept held.retry flits n = subst (IsBegunKept held.retry) some is.begun in
    let below : n.frp < modulus_of q = subst (λ (k : ℕ). k < modulus_of q) (sym kept.next) (mod_small q _) in
    let frp : copy.frp ≡ next_pointer held.retry (flits_of copy) = copy-frp q part.sent half slid errstat good n ∙ kept.next ∙ ap (next_pointer held.retry) (sym fed.fits.1) in
    subst IsSender
    (sym (new-some held given flit part waits some ∙ (λ i. record held {
      retry = retry_fed q part.sent (same i) waits held.retry;
      under_way = with_place (place_fed q part.sent (same i) waits) (w i);
      others = min (suc held.others) 64;
      shown = if shows_pointer what.New flit (part_of held.under_way) then given.own.rrp else held.shown;
    })))
    (keep-filled held part copy head flits n _ is some fed.fits.1 frp (fed.fits.2 below))

by_place : (held : State) (given : Given) (flit : List ℕ) (part : Part) (place : Place) → IsSender held → held.under_way ≡ Some (record { part = part; place = place }) → IsFedAt held.retry part place given.feed →
    next_flit held.retry.profile given.own.rrp given.feed place part ≡ Some flit → IsSender (after_send given (Out flit (part_what part)) held)
by_place held given flit part (Place.known packet) is some fed next = by_known held given flit part packet part.again is some refl
by_place held given flit part (Place.awaited head flits n) is some fed next =
    subst (λ (w : What). IsSender (after_sent given w flit held)) (sym (ap (λ (b : Bool). if b then what.Again else what.New) fed.first_time))
    (by_feed held given flit head flits n part given.feed is some refl fed next)

by_kind : (held : State) (given : Given) (of : Kind) → IsSender held → held.under_way ≡ None → IsSender (after_send given (irtry_sent held.retry.profile given.own.rrp of) held)
by_kind held given kind.Clear is nothing = keep-irtry held kind.Clear (min (suc held.others) 64) given.own.rrp is nothing (few-others held.others)
by_kind held given kind.Start is nothing = keep-irtry held kind.Start 0 given.own.rrp is nothing (omega arith)

by_case : (held : State) (given : Given) (x : Sent) → IsSender held → MaySend held given → IsFrontFit held.retry.profile given.front → IsTakenFit held.under_way x given.front → Case held.retry.profile (view_held held given) x → IsSender (after_send given x held)
by_case held given x is may fit begun (trains t) = keep-quiet held _ is
by_case held given x is may fit begun (goes_on t u some flit next) = by_place held given flit u.part u.place is some (may.fed u some) next
by_case held given x is may fit begun (starves t u some next) = is
by_case held given x is may fit begun (steers t nothing of due) = by_kind held given of is nothing
by_case held given x is may fit begun (repeats b place some) = by_again held given _ place is b.nothing some
by_case held given x is may fit begun (begins free can) = by_new held given _ is fit begun free.between.nothing can
by_case held given x is may fit begun (returns free opened can) = by_tret held given (flit_of held.retry.profile (next_of_view held.retry.profile (view_held held given) tret_packet) given.own.rrp 0) is free.between.nothing can
by_case held given x is may fit begun (points free other) = keep-quiet held _ is
by_case held given x is may fit begun (idles free same) = keep-quiet held _ is

pub keep-send : (held : State) (given : Given) (x : Sent) → IsSender held → MaySend held given → IsFrontFit held.profile given.front → IsTakenFit held.under_way x given.front → x ≡ choice held.profile (view_held held given) → IsSender (after_send given x held)
keep-send held given x is may fit begun same =
    let e : x ≡ choice held.retry.profile (view_held held given) = same ∙ ap (λ (q : Profile). choice q (view_held held given)) is.profile in
    subst (λ (y : Sent). IsSender (after_send given y held)) (sym e)
    (by_case held given (choice held.retry.profile (view_held held given)) is may (subst (λ (q : Profile). IsFrontFit q given.front) is.profile fit) (subst (λ (y : Sent). IsTakenFit held.under_way y given.front) e begun) (case_of held.retry.profile (view_held held given)))
