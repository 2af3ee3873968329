-- How long the lines are: a round sends one flit and lands one.
use Rattle.std.proofs.Common.{◌≡◌, ℕ, zero, suc, ◌+◌, ◌%◌, ◌≤◌, ◌==◌, nat_lt, nat_le, Bool, true, false, not, ◌&&◌, if◌then◌else◌, List, [], ◌∷◌, ◌++◌, length, refl, ◌∙◌, ap, arith}
use Rattle.std.proofs.lemmas.Grind.{common_steps}
use Rattle.hmc_numbers.specs.Direction.{Filler as fill, Item, Reached, Direction, rest}
use Rattle.hmc_numbers.specs.Direction.Item.{filler, clear, part}
use Rattle.hmc_numbers.specs.Direction.Reached.{training, aborting, between, inside, spoilt}
use Rattle.hmc_numbers.specs.Events.{Reading, Event, happens}
use Rattle.hmc_numbers.specs.Events.Reading.{plain, as_start, as_clear}
use Rattle.hmc_numbers.specs.Events.Event.{rests, sends_filler, sends_clear, begins, begins_through, begins_again, goes_on, acknowledges, drops, trains, opens, passes, gathers, accepts, repeats, spoils, breaks, unlocks}
use Rattle.hmc_numbers.specs.Pair.{Half, own_after, other_after}
use Rattle.hmc_numbers.specs.Pair.Move.{does, counts}
use Rattle.hmc_link_state.specs.Choice.{Sight, Choice, choice, begun_choice, free_choice, packet_choice, new_choice, idle_choice, is_training, is_abort, fits, flits_or}
use Rattle.hmc_link_state.specs.Choice.Choice.{train, starved, next, clear as clears, start, again, new, tret, pret, null}
use Rattle.hmc_link_state.specs.Sees.{event_of}
use Rattle.hmc_link_state.specs.Landing.{IsLanding}
use Rattle.hmc_link_state.specs.State.{Setup, Side, wire}
use Rattle.hmc_link_state.specs.Round.{sight, sent, sent_by, event_in_good, event_in_abort, event_at_far, event_here, is_counted_at, is_steady, landed_own, landed_other, front}
use Rattle.hmc_link_state.proofs.Chosen.{not_less}

-- Landings

pub lands_rest : (w : Direction) (e : Event) → IsLanding e → (happens w e).line ≡ rest w.line
lands_rest w rests h = absurd h
lands_rest w (sends_filler f) h = absurd h
lands_rest w sends_clear h = absurd h
lands_rest w (begins s) h = absurd h
lands_rest w (begins_through s) h = absurd h
lands_rest w begins_again h = absurd h
lands_rest w goes_on h = absurd h
lands_rest w (acknowledges n) h = absurd h
lands_rest w unlocks h = absurd h
lands_rest w (drops look) h = refl
lands_rest w trains h = refl
lands_rest w opens h = refl
lands_rest w (passes look) h = refl
lands_rest w gathers h = refl
lands_rest w accepts h = refl
lands_rest w repeats h = refl
lands_rest w (spoils c) h = refl
lands_rest w (breaks c) h = refl

if_landing : (b : Bool) (e f : Event) → IsLanding e → IsLanding f → IsLanding (if b then e else f)
if_landing true e f h k = h
if_landing false e f h k = k

good_lands : (w : Direction) (i : Item) → IsLanding (event_in_good w i)
good_lands w (filler fill.null) = tt
good_lands w (filler fill.train) = tt
good_lands w (filler fill.pret) = tt
good_lands w (filler fill.start) = tt
good_lands w clear = tt
good_lands w (part n k (suc more)) = tt
good_lands w (part n k zero) = if_landing (n == w.accepted + 1) accepts repeats tt tt

abort_lands : (run : ℕ) (look : Reading) → IsLanding (event_in_abort run look)
abort_lands run plain = tt
abort_lands run as_start = tt
abort_lands run as_clear = if_landing (run == 23) opens (drops as_clear) tt tt

pub far_lands : (x : Side) (look : Reading) (i : Item) (far : Reached) →
    IsLanding (event_at_far x look i far)
far_lands x look i training =
    if_landing (is_steady i look && (x.steady == 7)) trains (drops look) tt tt
far_lands x look i aborting = abort_lands (wire x).clear_run look
far_lands x look i between = good_lands (wire x) i
far_lands x look i (inside n k) = good_lands (wire x) i
far_lands x look i spoilt = if_landing (nat_le x.missing 1) (breaks false) (spoils false) tt tt

own_line : (h : Half) (n : ℕ) (b : Bool) (e : Event) →
    (own_after h n (if b then counts e else does e)).direction.line ≡ (happens h.direction e).line
own_line h n true e = refl
own_line h n false e = refl

other_line : (h o : Half) (b : Bool) (e : Event) →
    (other_after h o (if b then counts e else does e)).direction.line ≡ o.direction.line
other_line h o true e = refl
other_line h o false e = refl

pub lands_own : (x : Side) (costs : Bool) (look : Reading) →
    (wire (landed_own x costs look)).line ≡ rest (wire x).line
lands_own x costs look =
    own_line x.half 0 (is_counted_at x (wire x).far (event_here x look)) (event_here x look)
    ∙ lands_rest (wire x) (event_here x look) (far_lands x look (front x) (wire x).far)

pub lands_other : (own other : Side) (look : Reading) →
    (wire (landed_other own other look)).line ≡ (wire other).line
lands_other own other look =
    other_line own.half other.half (is_counted_at own (wire own).far (event_here own look))
    (event_here own look)

-- Sends

abbrev pub Sends : Choice → Type 0
Sends starved = ⊥
Sends c = Unit {0}

if_sends : (b : Bool) (c d : Choice) → Sends c → Sends d → Sends (if b then c else d)
if_sends true c d h k = h
if_sends false c d h k = k

idle_sends : (s : Sight) → Sends (idle_choice s)
idle_sends s = if_sends (not s.is_acknowledged) pret null tt tt

new_sends : (s : Sight) → Sends (new_choice s)
new_sends s =
    if_sends (s.is_open && fits s.front s.held s.room) (new (flits_or s.front))
    (if s.is_open && (nat_lt 0 s.due && nat_le 1 s.room) then tret else idle_choice s) tt
    (if_sends (s.is_open && (nat_lt 0 s.due && nat_le 1 s.room)) tret (idle_choice s) tt
    (idle_sends s))

packet_sends : (s : Sight) → Sends (packet_choice s)
packet_sends s = if_sends (nat_lt s.position s.begun) again (new_choice s) tt (new_sends s)

free_sends : (s : Sight) → Sends (free_choice s)
free_sends s =
    if_sends (not (s.starts % 32 == 0)) start (if s.go_back then clears
    else (if is_abort s.mode && s.is_long_ago then start else packet_choice s)) tt
    (if_sends s.go_back clears (if is_abort s.mode && s.is_long_ago then start else packet_choice s)
    tt
    (if_sends (is_abort s.mode && s.is_long_ago) start (packet_choice s) tt (packet_sends s)))

pub choice_sends : (c : Setup) (own other : Side) → Sends (choice (sight c own other))
choice_sends c own other =
    if_sends (is_training (sight c own other).mode) train (begun_choice (sight c own other)) tt
    (if_sends (not ((wire own).left == 0)) next (if not ((wire own).clears % 32 == 0) then clears
    else free_choice (sight c own other)) tt
    (if_sends (not ((wire own).clears % 32 == 0)) clears (free_choice (sight c own other)) tt
    (free_sends (sight c own other))))

pub one_more : (xs : List Item) (x : Item) → length (xs ++ x ∷ []) ≡ suc (length xs)
one_more [] x = refl
one_more (y ∷ ys) x = ap suc (one_more ys x)

pub adds_one : (w : Direction) (due : ℕ) (c : Choice) → Sends c →
    length (happens w (event_of due c)).line ≡ suc (length w.line)
adds_one w due train h = one_more w.line _
adds_one w due starved h = absurd h
adds_one w due next h = one_more w.line _
adds_one w due clears h = one_more w.line _
adds_one w due start h = one_more w.line _
adds_one w due again h = one_more w.line _
adds_one w due (new n) h = one_more w.line _
adds_one w due tret h = one_more w.line _
adds_one w due pret h = one_more w.line _
adds_one w due null h = one_more w.line _

pub lt_true : (a b : ℕ) → nat_lt a b ≡ true → suc a ≤ b
lt_true a b h = grind (arith, common_steps)

abbrev pub IsHalfFull : Setup → List Item → Type 0
IsHalfFull c xs = (length xs ≤ c.line) × (1 ≤ length xs)

sent_cases : (c : Setup) (own other : Side) (b : Bool) →
    nat_lt (length (wire own).line) c.line ≡ b → length (wire own).line ≤ c.line → 1 ≤ c.line →
    IsHalfFull c (wire (if b then sent_by c own other (choice (sight c own other)) else own)).line
sent_cases c own other true q h k =
    let e : length (wire (sent_by c own other (choice (sight c own other)))).line ≡ suc
    (length (wire own).line) =
    adds_one (wire own)
    (Rattle.hmc_numbers.specs.Tokens.due_tokens c.tokens other.half own.half)
    (choice (sight c own other)) (choice_sends c own other) in
    let l : suc (length (wire own).line) ≤ c.line = lt_true (length (wire own).line) c.line q in
    (omega (arith, e, l), omega (arith, e))
sent_cases c own other false q h k =
    let l : c.line ≤ length (wire own).line = not_less (length (wire own).line) c.line q in
    (h, omega (arith, l, k))

pub sent_fits : (c : Setup) (own other : Side) → length (wire own).line ≤ c.line → 1 ≤ c.line →
    IsHalfFull c (wire (sent c own other)).line
sent_fits c own other h k =
    sent_cases c own other (nat_lt (length (wire own).line) c.line) refl h k

rest_length : (xs : List Item) → 1 ≤ length xs → suc (length (rest xs)) ≡ length xs
rest_length [] h = absurd (omega arith)
rest_length (x ∷ xs) h = refl

-- after a send and a landing
pub rest_fits : (c : Setup) (xs ys : List Item) → IsHalfFull c xs → ys ≡ rest xs →
    suc (length ys) ≤ c.line
rest_fits c xs ys h q =
    let e : suc (length (rest xs)) ≡ length xs = rest_length xs h.1 in
    let d : length ys ≡ length (rest xs) = ap length q in
    omega (arith, e, d, h.0)
