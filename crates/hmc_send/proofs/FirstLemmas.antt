-- Which packet is sent for the first time: the front of the queue, a TRET, or none.
use Rattle.std.proofs.Common.{◌≡◌, ◌∙◌, ℕ, Bool, true, false, ◌&&◌, nat_le, nat_lt, if◌then◌else◌, List, Option, Some, None, sym, ap}
use Rattle.hmc_codes.specs.declared.profile.Profile.{Profile}
use Rattle.hmc_packet.specs.Packet.{PacketFields, flits_of}
use Rattle.hmc_packet.specs.declared.what.What.TheVariants as what
use Rattle.hmc_retry.specs.RetryBuffer.{room_of}
use Rattle.hmc_tokens.specs.Account.{code_for}
use Rattle.hmc_send.specs.declared.sent.Sent.{Sent}
use Rattle.hmc_send.specs.declared.sent.Sent.TheVariants.{Out}
use Rattle.hmc_send.specs.declared.state.State.{State}
use Rattle.hmc_send.specs.Choice.{first_flit, first_time, may_return, may_take, next_of_view, pointer_or_null, pointer_sent}
use Rattle.hmc_send.specs.Entries.{Given, or_null}
use Rattle.hmc_send.specs.Places.{flit_of, next_packet, tret_packet}
use Rattle.hmc_send.specs.Sender.{view_held}
use Rattle.hmc_send.proofs.KeptLemmas.{room-bare}

-- the choice by its two tests
by-tests : (q : Profile) (held : State) (given : Given) (takes returns : Bool) →
    ((view_held held given).is_open && may_take (view_held held given) given.front) ≡ takes → ((view_held held given).is_open && may_return (view_held held given)) ≡ returns →
    first_time q (view_held held given) ≡ (if takes then first_flit q given.own.rrp what.New (next_of_view q (view_held held given) (or_null given.front)) else (if returns then first_flit q given.own.rrp what.Tret (next_of_view q (view_held held given) tret_packet) else pointer_or_null q (view_held held given)))
by-tests q held given takes returns takes_is returns_is =
    let s = view_held held given in
    let new : Sent = first_flit q given.own.rrp what.New (next_of_view q s (or_null given.front)) in
    let tokens : Sent = first_flit q given.own.rrp what.Tret (next_of_view q s tret_packet) in
    ap (λ (b : Bool). if b then new else (if s.is_open && may_return s then tokens else pointer_or_null q s)) takes_is
    ∙ ap (λ (b : Bool). if takes then new else (if b then tokens else pointer_or_null q s)) returns_is

-- whether a front may be begun
pub takes-front : (held : State) (given : Given) (packet : PacketFields) (flits : ℕ) (may : Bool) → held.under_way ≡ None → Some packet ≡ given.front → flits ≡ flits_of packet →
    may ≡ (nat_le flits given.held && nat_le flits (room_of held.retry)) → may_take (view_held held given) given.front ≡ may
takes-front held given packet flits may nothing front long is =
    let s = view_held held given in
    ap (may_take s) (sym front) ∙ ap (λ (n : ℕ). nat_le n given.held && nat_le n s.room) (sym long)
    ∙ ap (λ (r : ℕ). nat_le flits given.held && nat_le flits r) (room-bare held nothing) ∙ sym is

pub takes-none : (held : State) (given : Given) → None ≡ given.front → may_take (view_held held given) given.front ≡ false
takes-none held given none = ap (may_take (view_held held given)) (sym none)

returns-tokens : (held : State) (given : Given) (may : Bool) → held.under_way ≡ None → may ≡ (nat_lt 0 given.due && nat_le 1 (room_of held.retry)) → may_return (view_held held given) ≡ may
returns-tokens held given may nothing is =
    ap (λ (r : ℕ). nat_lt 0 given.due && nat_le 1 r) (room-bare held nothing) ∙ sym is

pub first-new : (q : Profile) (held : State) (given : Given) (packet : PacketFields) (rtc : ℕ) (flit : List ℕ) → held.is_open ≡ true → Some packet ≡ given.front → may_take (view_held held given) given.front ≡ true → rtc ≡ code_for given.due →
    flit ≡ flit_of q (next_packet q held.pointer held.number rtc packet) given.own.rrp 0 → Out flit what.New ≡ first_time q (view_held held given)
first-new q held given packet rtc flit opened front takes code is =
    let s = view_held held given in
    ap (λ (f : List ℕ). Out f what.New) (is ∙ ap (λ (n : ℕ). flit_of q (next_packet q held.pointer held.number n packet) given.own.rrp 0) code
    ∙ ap (λ (o : Option PacketFields). flit_of q (next_of_view q s (or_null o)) given.own.rrp 0) front)
    ∙ sym (by-tests q held given true (s.is_open && may_return s) (ap (λ (b : Bool). b && may_take s given.front) opened ∙ takes) (λ i. s.is_open && may_return s))

pub first-tret : (q : Profile) (held : State) (given : Given) (packet : PacketFields) (rtc : ℕ) (flit : List ℕ) → held.under_way ≡ None → held.is_open ≡ true → may_take (view_held held given) given.front ≡ false → true ≡ (nat_lt 0 given.due && nat_le 1 (room_of held.retry)) → rtc ≡ code_for given.due → packet ≡ tret_packet →
    flit ≡ flit_of q (next_packet q held.pointer held.number rtc packet) given.own.rrp 0 → Out flit what.Tret ≡ first_time q (view_held held given)
first-tret q held given packet rtc flit nothing opened takes may code tret is =
    let s = view_held held given in
    ap (λ (f : List ℕ). Out f what.Tret) (is ∙ ap (λ (n : ℕ). flit_of q (next_packet q held.pointer held.number n packet) given.own.rrp 0) code
    ∙ ap (λ (p : PacketFields). flit_of q (next_of_view q s p) given.own.rrp 0) tret)
    ∙ sym (by-tests q held given false true (ap (λ (b : Bool). b && may_take s given.front) opened ∙ takes) (ap (λ (b : Bool). b && may_return s) opened ∙ returns-tokens held given true nothing may))

-- it is not open
pub first-closed : (q : Profile) (held : State) (given : Given) (x : Sent) → held.is_open ≡ false → x ≡ pointer_sent q given.own.rrp held.shown → x ≡ first_time q (view_held held given)
first-closed q held given x closed is =
    let s = view_held held given in
    is ∙ sym (by-tests q held given false false (ap (λ (b : Bool). b && may_take s given.front) closed) (ap (λ (b : Bool). b && may_return s) closed))

-- it is open, and sends no packet
pub first-none : (q : Profile) (held : State) (given : Given) (x : Sent) → held.under_way ≡ None → held.is_open ≡ true → may_take (view_held held given) given.front ≡ false → false ≡ (nat_lt 0 given.due && nat_le 1 (room_of held.retry)) → x ≡ pointer_sent q given.own.rrp held.shown → x ≡ first_time q (view_held held given)
first-none q held given x nothing opened takes may is =
    let s = view_held held given in
    is ∙ sym (by-tests q held given false false (ap (λ (b : Bool). b && may_take s given.front) opened ∙ takes) (ap (λ (b : Bool). b && may_return s) opened ∙ returns-tokens held given false nothing may))
