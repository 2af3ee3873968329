-- The case that a sender takes, by flits and by numbers.
use Rattle.std.proofs.Common.{◌≡◌, ◌∙◌, ℕ, ◌%◌, ◌≤◌, Bool, true, false, List, Option, Some, None, refl, sym, ap, arith}
use Rattle.std.specs.Prelude.{not, ◌&&◌, ◌==◌, nat_le, nat_lt, if◌then◌else◌, is_some, slice_get}
use Rattle.std.proofs.lemmas.Grind.{common_steps}
use Rattle.hmc_codes.specs.declared.profile.Profile.{Profile}
use Rattle.hmc_packet.specs.declared.kind.Kind.{Kind}
use Rattle.hmc_packet.specs.declared.kind.Kind.TheVariants as kinds
use Rattle.hmc_packet.specs.declared.view.Mode as outer_mode
use Rattle.hmc_packet.specs.declared.what.What.{What}
use Rattle.hmc_packet.specs.declared.what.What.TheVariants as what
use Rattle.hmc_packet.specs.Packet.{PacketFields, flits_of}
use Rattle.hmc_send.specs.declared.sent.Sent as outer_sent
use Rattle.hmc_send.specs.declared.sent.Sent.TheVariants.{Out}
use Rattle.hmc_packet.specs.Spelling.{training_flit}
use Rattle.hmc_send.specs.Choice.{SendView, view_after, is_train, irtry_due, irtry_of, irtry_or, irtry_sent, again_or, going_on, first_time, may_take, part_what, what_of}
use Rattle.hmc_wire.proofs.SenderLists.{what_is}
use Rattle.hmc_send.specs.Choice as outer_choice
use Rattle.hmc_send.specs.Entries as entries
use Rattle.hmc_send.specs.Entries.{SenderEntry, Given, Part, UnderWay, or_null, are_bursts, enough_others, unfinished}
use Rattle.hmc_send.specs.Places.{Place, place_at}
use Rattle.hmc_packet.specs.Irtry.{irtry_flit}
use Rattle.hmc_send.proofs.Cases.{Case, Case as case, IsBetween, IsFree, case_of}
use Rattle.hmc_send.proofs.Steps.{nothing-begun, some-begun}
use Rattle.hmc_wire.specs.EntryTurns.{left_of}
use Rattle.hmc_link_state.specs.Choice.{Sight, Choice, Choice as choices, choice, begun_choice, free_choice, packet_choice, new_choice, is_training, is_abort, fits, flits_or}
use Rattle.hmc_steps.proofs.Codes.{zero-not}

-- ---- by numbers

pub train-picked : (s : Sight) → is_training s.mode ≡ true → choice s ≡ choices.train
train-picked s e = ap (λ (b : Bool). if b then choices.train else begun_choice s) e

pub next-picked : (s : Sight) → is_training s.mode ≡ false → (s.left == 0) ≡ false →
    s.is_there ≡ true → choice s ≡ choices.next
next-picked s e l t =
    ap (λ (b : Bool). if b then choices.train else begun_choice s) e
    ∙ ap (λ (b : Bool). if not b then (if s.is_there then choices.next else choices.starved)
    else (if not (s.clears % 32 == 0) then choices.clear else free_choice s)) l
    ∙ ap (λ (b : Bool). if b then choices.next else choices.starved) t

-- nothing is under way: an IRTRY or a packet
abbrev pub irtry_or_rest : (a b g m : Bool) → Choice → Choice
irtry_or_rest a b g m rest =
    if not a then choices.clear
    else (if not b then choices.start
    else (if g then choices.clear else (if m then choices.start else rest)))

pub out-picked : (s : Sight) → is_training s.mode ≡ false → (s.left == 0) ≡ true →
    choice s ≡ irtry_or_rest (s.clears % 32 == 0) (s.starts % 32 == 0) s.go_back
    (is_abort s.mode && s.is_long_ago) (packet_choice s)
out-picked s e l =
    ap (λ (b : Bool). if b then choices.train else begun_choice s) e
    ∙ ap (λ (b : Bool). if not b then (if s.is_there then choices.next else choices.starved)
    else (if not (s.clears % 32 == 0) then choices.clear else free_choice s)) l

abbrev pub choice_of_kind : Kind → Choice
choice_of_kind kinds.Clear = choices.clear
choice_of_kind kinds.Start = choices.start

abbrev due_by : (a b g m : Bool) → Option Kind
due_by a b g m =
    if not a then Some kinds.Clear
    else (if not b then Some kinds.Start
    else (if g then Some kinds.Clear else (if m then Some kinds.Start else None)))

some-kind : (k l : Kind) → Some k ≡ Some l → k ≡ l
some-kind k l e = cc

steered : (a b g m : Bool) (rest : Choice) (kind : Kind) → due_by a b g m ≡ Some kind →
    irtry_or_rest a b g m rest ≡ choice_of_kind kind
steered false b g m rest kind e = ap choice_of_kind (some-kind kinds.Clear kind e)
steered true false g m rest kind e = ap choice_of_kind (some-kind kinds.Start kind e)
steered true true true m rest kind e = ap choice_of_kind (some-kind kinds.Clear kind e)
steered true true false true rest kind e = ap choice_of_kind (some-kind kinds.Start kind e)
steered true true false false rest kind e = absurd cc

calm : (a b g m : Bool) (rest : Choice) → due_by a b g m ≡ None → irtry_or_rest a b g m rest ≡ rest
calm false b g m rest e = absurd cc
calm true false g m rest e = absurd cc
calm true true true m rest e = absurd cc
calm true true false true rest e = absurd cc
calm true true false false rest e = refl

due-same : (a b : Bool) (mode : outer_mode.Mode) (g may : Bool) →
    irtry_due (if not a then Some kinds.Clear else if not b then Some kinds.Start else None) mode g
    may ≡ due_by a b g (outer_choice.is_abort mode && may)
due-same false b mode g may = refl
due-same true false mode g may = refl
due-same true true mode g may = refl

-- ---- both

-- what an entry of a send is by numbers, after a sender's entries with this packet under way
abbrev pub begun_or_next : Option Part → Choice → Choice
begun_or_next None x = x
begun_or_next (Some part) x = choices.next

abbrev pub choice_of : Option Part → Given → What → Choice
choice_of u given what.Train = choices.train
choice_of u given what.Null = choices.null
choice_of u given what.Pret = choices.pret
choice_of u given what.Start = choices.start
choice_of u given what.Clear = choices.clear
choice_of u given what.Tret = choices.tret
choice_of u given what.New = begun_or_next u (choices.new (flits_of (or_null given.front)))
choice_of u given what.Again = begun_or_next u choices.again

abbrev pub size_of : Option PacketFields → Option ℕ
size_of None = None
size_of (Some packet) = Some (flits_of packet)

-- a sight is what a sender's entries and what a send is given say
pub record Sees (q : Profile) (retry : ℕ) (t : List SenderEntry) (given : Given) (s : Sight) :
    Type 0 where
  pub training : is_training s.mode ≡ is_train given.own.mode
  pub abort : is_abort s.mode ≡ outer_choice.is_abort given.own.mode
  pub left : s.left ≡ left_of (unfinished t)
  pub is_there : s.is_there ≡ true
  pub clears : s.clears ≡ entries.clears t
  pub starts : s.starts ≡ entries.starts t
  pub go_back : s.go_back ≡ entries.go_back t
  pub long : s.is_long_ago ≡ nat_le enough_others (entries.others t)
  pub more : nat_lt s.position s.begun ≡ is_some
      (slice_get (entries.places q t) (entries.position q t))
  pub is_open : s.is_open ≡ entries.is_open t
  pub front : s.front ≡ size_of given.front
  pub held : s.held ≡ given.held
  pub room : s.room ≡ entries.room q retry t
  pub due : s.due ≡ given.due
  pub acknowledged : s.is_acknowledged ≡ (given.own.rrp == entries.shown_pointer t)
  pub parts : (p : Part) → unfinished t ≡ Some p → 1 ≤ left_of (Some p)

zero-is : (n : ℕ) → n ≡ 0 → (n == 0) ≡ true
zero-is n e = grind (arith, common_steps)

part-next : (part : Part) (given : Given) →
    choice_of (Some part) given (part_what part) ≡ choices.next
part-next part given = by_again part.again
  where
    by_again : (b : Bool) →
        choice_of (Some part) given (if b then what.Again else what.New) ≡ choices.next
    by_again true = refl
    by_again false = refl

kind-what : (u : Option Part) (given : Given) (k : Kind) →
    choice_of_kind k ≡ choice_of u given (what_of k)
kind-what u given kinds.Clear = refl
kind-what u given kinds.Start = refl

abbrev pub fits_packet : Option PacketFields → (held room : ℕ) → Bool
fits_packet None held room = false
fits_packet (Some p) held room = nat_le (flits_of p) held && nat_le (flits_of p) room

fits-same : (front : Option PacketFields) (held room : ℕ) →
    fits (size_of front) held room ≡ fits_packet front held room
fits-same None held room = refl
fits-same (Some p) held room = refl

-- the tests before packets are those of the view
tests-same : (q : Profile) (retry : ℕ) (t : List SenderEntry) (given : Given) (s : Sight) →
    Sees q retry t given s →
    irtry_of (view_after q retry t given) ≡ due_by (s.clears % 32 == 0) (s.starts % 32 == 0)
    s.go_back (is_abort s.mode && s.is_long_ago)
unfolding view_after
tests-same q retry t given s e =
    due-same (are_bursts (entries.clears t)) (are_bursts (entries.starts t)) given.own.mode
    (entries.go_back t) (nat_le enough_others (entries.others t))
    ∙ sym (λ i. due_by (e.clears i % 32 == 0) (e.starts i % 32 == 0) (e.go_back i)
    (e.abort i && e.long i))

-- nothing is under way
nothing-left : (q : Profile) (retry : ℕ) (t : List SenderEntry) (given : Given) (s : Sight) →
    Sees q retry t given s → unfinished t ≡ None → (s.left == 0) ≡ true
nothing-left q retry t given s e nothing = zero-is s.left (e.left ∙ ap left_of nothing)

under-none : (q : Profile) (retry : ℕ) (t : List SenderEntry) (given : Given) →
    (view_after q retry t given).under_way ≡ None → unfinished t ≡ None
unfolding view_after
under-none q retry t given is =
    nothing-begun (place_at (entries.places q t) (entries.last_begun q t)) (unfinished t) (sym is)

trained-is : (q : Profile) (retry : ℕ) (t : List SenderEntry) (given : Given) →
    IsBetween (view_after q retry t given) → is_train given.own.mode ≡ false
unfolding view_after
trained-is q retry t given b = b.trained

free-picked : (q : Profile) (retry : ℕ) (t : List SenderEntry) (given : Given) (s : Sight) →
    Sees q retry t given s → IsBetween (view_after q retry t given) → choice s ≡ packet_choice s
free-picked q retry t given s e b =
    let nothing = under-none q retry t given b.nothing in
    out-picked s (e.training ∙ trained-is q retry t given b)
    (nothing-left q retry t given s e nothing)
    ∙ calm (s.clears % 32 == 0) (s.starts % 32 == 0) s.go_back (is_abort s.mode && s.is_long_ago)
    (packet_choice s) (sym (tests-same q retry t given s e) ∙ b.calm)

new-picked : (q : Profile) (retry : ℕ) (t : List SenderEntry) (given : Given) (s : Sight) →
    Sees q retry t given s → IsFree (view_after q retry t given) → choice s ≡ new_choice s
unfolding view_after
new-picked q retry t given s e f =
    free-picked q retry t given s e f.between
    ∙ ap (λ (b : Bool). if b then choices.again else new_choice s) (e.more
    ∙ ap (λ (o : Option Place). is_some o) f.all_sent)

-- the test for the front of the queue
front-test : (q : Profile) (retry : ℕ) (t : List SenderEntry) (given : Given) (s : Sight) →
    Sees q retry t given s →
    fits s.front s.held s.room ≡ fits_packet given.front given.held (entries.room q retry t)
front-test q retry t given s e =
    (λ i. fits (e.front i) (e.held i) (e.room i))
    ∙ fits-same given.front given.held (entries.room q retry t)

and-true : (a b : Bool) → a ≡ true → b ≡ true → (a && b) ≡ true
and-true true true d e = refl
and-true true false d e = absurd (let clash : false ≡ true = e in cc)
and-true false b d e = absurd (let clash : false ≡ true = d in cc)

-- a front that may be begun
begin-test : (front : Option PacketFields) (held room : ℕ) (p : PacketFields) → front ≡ Some p →
    nat_le (flits_of p) held ≡ true → nat_le (flits_of p) room ≡ true →
    fits_packet front held room ≡ true
begin-test front held room p is h r =
    ap (λ (o : Option PacketFields). fits_packet o held room) is
    ∙ and-true (nat_le (flits_of p) held) (nat_le (flits_of p) room) h r

flits-front : (front : Option PacketFields) (p : PacketFields) → front ≡ Some p →
    flits_or (size_of front) ≡ flits_of (or_null front)
flits-front front p is = (λ i. flits_or (size_of (is i))) ∙ sym (λ i. flits_of (or_null (is i)))

-- a new packet, tokens alone, a pointer alone, or a NULL
by-tests : (a b c : Bool) (f g h i : List ℕ) (w : What) (flit : List ℕ) (n : ℕ) (given : Given) →
    (a ≡ true → n ≡ flits_of (or_null given.front)) →
    (if a then Out f what.New else if b then Out g what.Tret
    else (if not c then Out h what.Pret else Out i what.Null)) ≡ Out flit w →
    (if a then choices.new n
    else (if b then choices.tret else (if not c then choices.pret else choices.null))) ≡ choice_of
    None given w
by-tests true b c f g h i w flit n given size is =
    ap choices.new (size refl) ∙ ap (choice_of None given) (what_is f flit what.New w is)
by-tests false true c f g h i w flit n given size is =
    ap (choice_of None given) (what_is g flit what.Tret w is)
by-tests false false false f g h i w flit n given size is =
    ap (choice_of None given) (what_is h flit what.Pret w is)
by-tests false false true f g h i w flit n given size is =
    ap (choice_of None given) (what_is i flit what.Null w is)

first-time : (q : Profile) (s : SendView) → IsFree s → outer_choice.choice q s ≡ first_time q s
unfolding outer_choice.choice
first-time q s f =
    ap (λ (b : Bool). if b then Out training_flit what.Train else going_on q s s.under_way)
    f.between.trained
    ∙ ap (going_on q s) f.between.nothing ∙ ap (irtry_or q s) f.between.calm
    ∙ ap (again_or q s) f.all_sent

take-same : (q : Profile) (retry : ℕ) (t : List SenderEntry) (given : Given)
    (front : Option PacketFields) →
    may_take (view_after q retry t given) front ≡ fits_packet front given.held
    (entries.room q retry t)
unfolding view_after
take-same q retry t given None = refl
take-same q retry t given (Some p) = refl

front-size : (front : Option PacketFields) (opened : Bool) (held room : ℕ) →
    (opened && fits_packet front held room) ≡ true →
    flits_or (size_of front) ≡ flits_of (or_null front)
front-size None true held room is = absurd (let clash : false ≡ true = is in cc)
front-size None false held room is = absurd (let clash : false ≡ true = is in cc)
front-size (Some p) opened held room is = refl

free-made : (q : Profile) (retry : ℕ) (t : List SenderEntry) (given : Given) (flit : List ℕ)
    (w : What) → first_time q (view_after q retry t given) ≡ Out flit w →
    (if entries.is_open t && may_take (view_after q retry t given) given.front then choices.new
    (flits_or (size_of given.front))
    else (if entries.is_open t
    && (nat_lt 0 given.due && nat_le 1 (entries.room q retry t)) then choices.tret
    else (if not (given.own.rrp == entries.shown_pointer t) then choices.pret else choices.null)))
    ≡ choice_of None given w
unfolding view_after
free-made q retry t given flit w is =
    by-tests (entries.is_open t && may_take (view_after q retry t given) given.front)
    (entries.is_open t && (nat_lt 0 given.due && nat_le 1 (entries.room q retry t)))
    (given.own.rrp == entries.shown_pointer t)
    _ _ _ _ w flit (flits_or (size_of given.front)) given
    (λ e. front-size given.front (entries.is_open t) given.held (entries.room q retry t)
    (ap (λ (b : Bool). entries.is_open t && b) (sym (take-same q retry t given given.front)) ∙ e))
    is

free-chosen : (q : Profile) (retry : ℕ) (t : List SenderEntry) (given : Given) (s : Sight)
    (flit : List ℕ) (w : What) → Sees q retry t given s → IsFree (view_after q retry t given) →
    outer_choice.choice q (view_after q retry t given) ≡ Out flit w →
    choice s ≡ choice_of None given w
free-chosen q retry t given s flit w e f chosen =
    let front : fits s.front s.held s.room ≡ may_take (view_after q retry t given) given.front =
    front-test q retry t given s e ∙ sym (take-same q retry t given given.front) in
    new-picked q retry t given s e f
    ∙ (λ i. if e.is_open i && front i then choices.new (flits_or (e.front i))
    else (if e.is_open i && (nat_lt 0 (e.due i) && nat_le 1 (e.room i)) then choices.tret
    else (if not (e.acknowledged i) then choices.pret else choices.null)))
    ∙ free-made q retry t given flit w (sym (first-time q (view_after q retry t given) f) ∙ chosen)

-- ---- each case

irtry-what : (q : Profile) (rrp : ℕ) (kind : Kind) (flit : List ℕ) (w : What) →
    irtry_sent q rrp kind ≡ Out flit w → what_of kind ≡ w
irtry-what q rrp kind flit w is = what_is (irtry_flit q kind rrp) flit (what_of kind) w is

under-some : (q : Profile) (retry : ℕ) (t : List SenderEntry) (given : Given) (begun : UnderWay) →
    (view_after q retry t given).under_way ≡ Some begun → unfinished t ≡ Some begun.part
unfolding view_after
under-some q retry t given begun is =
    (some-begun (place_at (entries.places q t) (entries.last_begun q t)) (unfinished t) begun
    (sym is)).part

mode-is : (q : Profile) (retry : ℕ) (t : List SenderEntry) (given : Given) (b : Bool) →
    is_train (view_after q retry t given).given.own.mode ≡ b → is_train given.own.mode ≡ b
unfolding view_after
mode-is q retry t given b is = is

rrp-is : (q : Profile) (retry : ℕ) (t : List SenderEntry) (given : Given) →
    (view_after q retry t given).given.own.rrp ≡ given.own.rrp
unfolding view_after
rrp-is q retry t given = refl

again-some : (q : Profile) (retry : ℕ) (t : List SenderEntry) (given : Given) (s : Sight)
    (place : Place) → Sees q retry t given s → (view_after q retry t given).again ≡ Some place →
    nat_lt s.position s.begun ≡ true
unfolding view_after
again-some q retry t given s place e is = e.more ∙ ap (λ (o : Option Place). is_some o) is

by-case : (q : Profile) (retry : ℕ) (t : List SenderEntry) (given : Given) (s : Sight)
    (x : outer_sent.Sent) (flit : List ℕ) (w : What) → Sees q retry t given s →
    outer_choice.choice q (view_after q retry t given) ≡ Out flit w → x ≡ Out flit w →
    Case q (view_after q retry t given) x → choice s ≡ choice_of (unfinished t) given w
by-case q retry t given s x flit w e chosen is (case.trains m) =
    train-picked s (e.training ∙ mode-is q retry t given true m)
    ∙ ap (choice_of (unfinished t) given) (what_is training_flit flit what.Train w is)
by-case q retry t given s x flit w e chosen is (case.goes_on m begun some f next) =
    let u = under-some q retry t given begun some in
    next-picked s (e.training ∙ mode-is q retry t given false m)
    (zero-not s.left (let l = e.left ∙ ap left_of u in let p = e.parts begun.part u in
    omega arith)) e.is_there
    ∙ sym (part-next begun.part given)
    ∙ (λ i. choice_of (sym u i) given (what_is f flit (part_what begun.part) w is i))
by-case q retry t given s x flit w e chosen is (case.starves m begun some next) = absurd cc
by-case q retry t given s x flit w e chosen is (case.steers m none kind due) =
    let nothing = under-none q retry t given none in
    out-picked s (e.training ∙ mode-is q retry t given false m)
    (nothing-left q retry t given s e nothing)
    ∙ steered (s.clears % 32 == 0) (s.starts % 32 == 0) s.go_back (is_abort s.mode && s.is_long_ago)
    (packet_choice s) kind (sym (tests-same q retry t given s e) ∙ due)
    ∙ kind-what (unfinished t) given kind
    ∙ ap (choice_of (unfinished t) given)
    (irtry-what q (view_after q retry t given).given.own.rrp kind flit w is)
by-case q retry t given s x flit w e chosen is (case.repeats b place again) =
    let nothing = under-none q retry t given b.nothing in
    free-picked q retry t given s e b
    ∙ ap (λ (c : Bool). if c then choices.again else new_choice s)
    (again-some q retry t given s place e again)
    ∙ (λ i. choice_of (sym nothing i) given (what_is _ flit what.Again w is i))
by-case q retry t given s x flit w e chosen is (case.begins f can) =
    free-chosen q retry t given s flit w e f chosen
    ∙ ap (λ (u : Option Part). choice_of u given w)
    (sym (under-none q retry t given f.between.nothing))
by-case q retry t given s x flit w e chosen is (case.returns f opened due) =
    free-chosen q retry t given s flit w e f chosen
    ∙ ap (λ (u : Option Part). choice_of u given w)
    (sym (under-none q retry t given f.between.nothing))
by-case q retry t given s x flit w e chosen is (case.points f other) =
    free-chosen q retry t given s flit w e f chosen
    ∙ ap (λ (u : Option Part). choice_of u given w)
    (sym (under-none q retry t given f.between.nothing))
by-case q retry t given s x flit w e chosen is (case.idles f same) =
    free-chosen q retry t given s flit w e f chosen
    ∙ ap (λ (u : Option Part). choice_of u given w)
    (sym (under-none q retry t given f.between.nothing))

-- the case by numbers is that of the entry
pub picked : (q : Profile) (retry : ℕ) (t : List SenderEntry) (given : Given) (s : Sight)
    (flit : List ℕ) (w : What) → Sees q retry t given s →
    outer_choice.choice q (view_after q retry t given) ≡ Out flit w →
    choice s ≡ choice_of (unfinished t) given w
picked q retry t given s flit w e chosen =
    by-case q retry t given s (outer_choice.choice q (view_after q retry t given)) flit w e chosen
    chosen (case_of q (view_after q retry t given))
