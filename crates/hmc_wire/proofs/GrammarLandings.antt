-- What a landing gives by a grammar, from the landings before it of the same direction, the newest
-- first. Mirrors shows that a receiver's own entries give the same.
use Rattle.std.specs.Prelude.{ℕ, ◌+◌, ◌-◌, ◌%◌, ◌==◌, nat_lt, Bool, true, false, not, ◌&&◌, ◌||◌, if◌then◌else◌, List, [], ◌∷◌, ◌++◌, length, Option, Some, None}
use Rattle.hmc_codes.specs.Profile.{modulus_of, window_of}
use Rattle.hmc_packet.specs.Receptions.{is_no_length}
use Rattle.hmc_wire.proofs.Grammar.{Kind, Read, Grammar}
use Rattle.hmc_wire.proofs.Grammar.Kind.{start, clear}
use Rattle.hmc_wire.proofs.Grammar.Read.{bad, null, irtry, pret, packet}

pub data Mode : Type 0 where
  training : Mode
  abort : Mode
  good : Mode

pub data Outcome (B : Type 0) : Type 0 where
  quiet : Outcome B
  trained : Outcome B
  gathered : Outcome B
  accepted : Outcome B
  poisoned : Outcome B
  repeated : Outcome B
  aborted : B → Outcome B
  disordered : Outcome B
  ran : Kind → Outcome B

-- a landed flit with its outcome, and whether it was changed
pub data Landing (F B : Type 0) : Type 0 where
  landed : (changed : Bool) → F → Outcome B → Landing F B
  unlocked : Landing F B

abbrev pub Landings : Grammar → Type 0
Landings G = List (Landing G.Flit G.Bad)

-- the mode, unless the receiver is in Train
abbrev pub unless_training : Mode → Mode → Mode
unless_training training new = training
unless_training old new = new

abbrev pub mode_by : {B : Type 0} → Outcome B → Mode → Mode
mode_by trained m = abort
mode_by (ran clear) m = unless_training m good
mode_by (aborted b) m = unless_training m abort
mode_by disordered m = unless_training m abort
mode_by o m = m

abbrev pub mode_at : {F B : Type 0} → Mode → Landing F B → Mode
mode_at m (landed c f o) = mode_by o m
mode_at m unlocked = unless_training m abort

abbrev pub mode : (G : Grammar) → Landings G → Mode
mode G [] = training
mode G (e ∷ past) = mode_at (mode G past) e

abbrev pub pending_by : {F B : Type 0} → Outcome B → List F → F → List F
pending_by gathered fs f = fs ++ f ∷ []
pending_by o fs f = []

abbrev pub pending_at : {F B : Type 0} → List F → Landing F B → List F
pending_at fs (landed c f o) = pending_by o fs f
pending_at fs unlocked = []

-- the flits of the packet that is being gathered
abbrev pub pending : (G : Grammar) → Landings G → List G.Flit
pending G [] = []
pending G (e ∷ past) = pending_at (pending G past) e

abbrev pub spoilt_by : {B : Type 0} → Outcome B → Bool → Bool
spoilt_by gathered b = b
spoilt_by o b = false

abbrev pub spoilt_at : {F B : Type 0} → Bool → Landing F B → Bool
spoilt_at b (landed c f o) = spoilt_by o (c || b)
spoilt_at b unlocked = false

-- one of them was changed
abbrev pub is_spoilt : (G : Grammar) → Landings G → Bool
is_spoilt G [] = false
is_spoilt G (e ∷ past) = spoilt_at (is_spoilt G past) e

abbrev pub same_kind : Kind → Kind → Bool
same_kind start start = true
same_kind clear clear = true
same_kind k l = false

abbrev pub is_of : Kind → Option (Kind × ℕ) → Bool
is_of k None = false
is_of k (Some seen) = same_kind k seen.0

abbrev pub run_by : {B : Type 0} → Outcome B → Bool → ℕ → ℕ
run_by quiet b n = if b then n + 1 else 0
run_by (ran k) b n = if b then n + 1 else 0
run_by o b n = 0

abbrev pub run_at : (G : Grammar) → Kind → ℕ → Landing G.Flit G.Bad → ℕ
run_at G k n (landed c f o) = run_by o (is_of k (G.alone f)) n
run_at G k n unlocked = 0

-- how many IRTRYs of a kind were seen in a row
abbrev pub run : (G : Grammar) → Kind → Landings G → ℕ
run G k [] = 0
run G k (e ∷ past) = run_at G k (run G k past) e

abbrev pub is_some_irtry : Option (Kind × ℕ) → Bool
is_some_irtry None = false
is_some_irtry (Some seen) = true

abbrev pub is_steady : (G : Grammar) → G.Flit → Bool
is_steady G f = G.is_training f || is_some_irtry (G.alone f)

abbrev pub training_by : {B : Type 0} → Outcome B → Bool → ℕ → ℕ
training_by quiet b n = if b then n + 1 else 0
training_by o b n = 0

abbrev pub training_at : (G : Grammar) → ℕ → Landing G.Flit G.Bad → ℕ
training_at G n (landed c f o) = training_by o (is_steady G f) n
training_at G n unlocked = 0

abbrev pub trained_count : (G : Grammar) → Landings G → ℕ
trained_count G [] = 0
trained_count G (e ∷ past) = training_at G (trained_count G past) e

abbrev pub packets_in : {P B : Type 0} → Read P B → List P
packets_in (packet p r) = p ∷ []
packets_in x = []

abbrev pub taken_by : {P B : Type 0} → Outcome B → Read P B → List P
taken_by accepted x = packets_in x
taken_by poisoned x = packets_in x
taken_by o x = []

abbrev pub taken_at : (G : Grammar) → List G.Flit → Landing G.Flit G.Bad → List G.Packet
taken_at G fs (landed c f o) = taken_by o (G.read (fs ++ f ∷ []))
taken_at G fs unlocked = []

-- the packets accepted, poisoned ones too, the oldest first
abbrev pub accepted_in : (G : Grammar) → Landings G → List G.Packet
accepted_in G [] = []
accepted_in G (e ∷ past) = accepted_in G past ++ taken_at G (pending G past) e

abbrev pub flits_of : (G : Grammar) → List G.Packet → ℕ
flits_of G [] = 0
flits_of G (p ∷ ps) = G.flits p + flits_of G ps

-- Outcomes

abbrev pub ran_or_quiet : {B : Type 0} → Kind → (seen_before : ℕ) → Outcome B
ran_or_quiet k n = if n == 23 then ran k else quiet

abbrev pub in_abort : (G : Grammar) → Landings G → Option (Kind × ℕ) → Outcome G.Bad
in_abort G past None = quiet
in_abort G past (Some seen) = ran_or_quiet seen.0 (run G seen.0 past)

-- a sequenced packet, by the number of packets accepted and of their flits
abbrev pub in_order : (G : Grammar) → G.Packet → (flits count : ℕ) → Outcome G.Bad
in_order G p f n =
    if (G.frp p == (f + G.flits p) % modulus_of G.profile) && (G.seq p == (n + 1) % 8)
    then (if G.poisoned p then poisoned else accepted)
    else (if nat_lt ((f % modulus_of G.profile + (modulus_of G.profile - G.frp p)) % modulus_of G.profile) (window_of G.profile) then repeated else disordered)

abbrev pub of_read : (G : Grammar) → Landings G → Read G.Packet G.Bad → Outcome G.Bad
of_read G past (bad b) = aborted b
of_read G past null = quiet
of_read G past (irtry k r) = ran_or_quiet k (run G k past)
of_read G past (pret r) = quiet
of_read G past (packet p r) = in_order G p (flits_of G (accepted_in G past)) (length (accepted_in G past))

abbrev pub head_or : {F : Type 0} → List F → F → F
head_or [] f = f
head_or (g ∷ gs) f = g

abbrev pub is_empty : {F : Type 0} → List F → Bool
is_empty [] = true
is_empty (g ∷ gs) = false

abbrev pub in_good : (G : Grammar) → Landings G → List G.Flit → G.Flit → Outcome G.Bad
in_good G past fs f =
    if is_empty fs && G.is_null f then quiet
    else (if is_empty fs && is_no_length (G.lng f) then aborted G.wrong_length
    else (if nat_lt (length fs + 1) (G.lng (head_or fs f)) then gathered
    else of_read G past (G.read (fs ++ f ∷ []))))

abbrev pub in_mode : (G : Grammar) → Mode → Landings G → G.Flit → Outcome G.Bad
in_mode G training past f = if is_steady G f && trained_count G past == 7 then trained else quiet
in_mode G abort past f = in_abort G past (G.alone f)
in_mode G good past f = in_good G past (pending G past) f

-- the outcome of a landing of a flit
abbrev pub outcome : (G : Grammar) → Landings G → G.Flit → Outcome G.Bad
outcome G past f = in_mode G (mode G past) past f

abbrev pub is_read : {P B : Type 0} → Read P B → Bool
is_read (bad b) = false
is_read x = true

-- in Good a check succeeds at a NULL with nothing pending, and at a last flit whose packet is read
abbrev pub checks_good : (G : Grammar) → List G.Flit → G.Flit → Bool
checks_good G fs f = (is_empty fs && G.is_null f) || (not (nat_lt (length fs + 1) (G.lng (head_or fs f))) && is_read (G.read (fs ++ f ∷ [])))

-- a check succeeds
abbrev pub checks : (G : Grammar) → Mode → Landings G → G.Flit → Bool
checks G training past f = is_steady G f
checks G abort past f = is_some_irtry (G.alone f)
checks G good past f = checks_good G (pending G past) f
