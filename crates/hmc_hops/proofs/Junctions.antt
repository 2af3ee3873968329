-- What of a flow leaves a queue enters the next queue of its route, and nothing else of the flow does.
use Rattle.std.proofs.Common.{◌≡◌, ◌∙◌, ◌+◌, ℕ, suc, Bool, true, false, Option, Some, None, List, [], refl, sym, ap, ap₂, subst, arith}
use Rattle.hmc_codes.specs.declared.lift.Lift.{Lift}
use Rattle.hmc_hops.specs.Packets.{Packet, Spot, Kind, is_live, is_token, reply_to}
use Rattle.hmc_hops.specs.Packets.Spot.{Bank, Registers}
use Rattle.hmc_hops.specs.Packets.Kind.{Asks, Posts, Replies, Returns}
use Rattle.hmc_routes.specs.Route.{Goal}
use Rattle.hmc_hops.specs.Map.{Map, IsMap, End, goal_of, first_of, leg, hops_at}
use Rattle.hmc_hops.specs.Map.End.{Host, Cube}
use Rattle.hmc_routes.specs.Route.Goal.{ToHost}
use Rattle.hmc_hops.specs.Queues.{QueueId, same_queue, is_at, next_queue, first_queue, after_line, at_cube, after_buffer, unless_poisoned, after_answers, lift_of}
use Rattle.hmc_hops.specs.Queues.QueueId.{Output, Line, Buffer, Vault, UnitQueue, Answers}
use Rattle.hmc_hops.specs.Moves.{Move, packet_if, leaves, enters, answer_queue, IsSource, CanLeave, May, MayAll}
use Rattle.hmc_hops.specs.Moves.Move.{Rests, Comes, Goes, Executes}
use Rattle.hmc_hops.specs.Flows.{Flow, pick, flow_entered, flow_left}
use Rattle.hmc_hops.proofs.SameQueue.{bool_same, queue_is, same_of, at_is, at_of, live_parts}
use Rattle.hmc_hops.proofs.Legs.{Follows, one_leg, hops_leg}
use Rattle.hmc_hops.proofs.QueueLaws.{IsFlow, same_collected, pick_none}
use Rattle.hmc_hops.specs.OnWay.{IsOnWay, IsOnRoute}
use Rattle.hmc_hops.proofs.OnRoute.{mover_on_way, reply_goal}

abbrev pub IsAfter : QueueId → Type 0
IsAfter (Answers c l) = ⊥
IsAfter _ = Unit {0}

queue_off : (c : ℕ) (s : Spot) (queue : QueueId) → CanLeave queue → same_queue (UnitQueue c s) queue ≡ false
queue_off c s (Output d) left = refl
queue_off c s (Line d) left = refl
queue_off c s (Buffer d) left = refl
queue_off c s (Vault e v) left = refl
queue_off c s (UnitQueue e t) left = absurd left
queue_off c s (Answers e l) left = refl

answers_off : (c : ℕ) (l : Lift) (queue : QueueId) → IsAfter queue → same_queue (Answers c l) queue ≡ false
answers_off c l (Output d) left = refl
answers_off c l (Line d) left = refl
answers_off c l (Buffer d) left = refl
answers_off c l (Vault e v) left = refl
answers_off c l (UnitQueue e t) left = refl
answers_off c l (Answers e k) left = absurd left

pub answer_queue_off : (k : Kind) (c : ℕ) (s : Spot) (queue : QueueId) → IsAfter queue → is_at (answer_queue k c s) queue ≡ false
answer_queue_off Asks c s queue left = answers_off c (lift_of s) queue left
answer_queue_off Posts c s queue left = refl
answer_queue_off Replies c s queue left = refl
answer_queue_off Returns c s queue left = refl

-- a place where a flow goes from one queue to another
pub record Joins {X : Type 0} (m : Map) (f : Flow X) (from queue : QueueId) : Type 0 where
  pub left : CanLeave from
  pub entered : IsAfter queue
  pub on : (x : Packet) → f.mine x ≡ true → IsOnWay m from x → next_queue m from x ≡ Some queue
  pub back : (p : QueueId) (x : Packet) → f.mine x ≡ true → IsOnWay m p x → next_queue m p x ≡ Some queue → p ≡ from
  pub source : (x : Packet) → f.mine x ≡ true → IsSource m queue x → ⊥

goes_joined : {X : Type 0} (m : Map) (f : Flow X) (from queue : QueueId) → Joins m f from queue → (p : QueueId) (x : Packet) (mine : Bool) → f.mine x ≡ mine → IsOnWay m p x
    → pick f (packet_if (same_queue p from) x) ≡ pick f (packet_if (is_at (next_queue m p x) queue) x)
goes_joined m f from queue joins p x false is own = pick_none f (same_queue p from) x is ∙ sym (pick_none f (is_at (next_queue m p x) queue) x is)
goes_joined m f from queue joins p x true is own =
    ap (λ (b : Bool). pick f (packet_if b x))
    (bool_same (same_queue p from) (is_at (next_queue m p x) queue)
    (λ same. at_of (next_queue m p x) queue (subst (λ (r : QueueId). next_queue m r x ≡ Some queue) (sym (queue_is p from same)) (joins.on x is (subst (λ (r : QueueId). IsOnWay m r x) (queue_is p from same) own))))
    (λ at. same_of p from (joins.back p x is own (at_is (next_queue m p x) queue at))))

comes_joined : {X : Type 0} (m : Map) (f : Flow X) (queue into : QueueId) → ((x : Packet) → f.mine x ≡ true → IsSource m queue x → ⊥) → (x : Packet) (mine here : Bool) → f.mine x ≡ mine → same_queue into queue ≡ here → IsSource m into x
    → [] ≡ pick f (packet_if here x)
unfolding pick
comes_joined m f queue into none x false here is at source = sym (pick_none f here x is)
comes_joined m f queue into none x true false is at source = refl
comes_joined m f queue into none x true true is at source = absurd (none x is (subst (λ (r : QueueId). IsSource m r x) (queue_is into queue at) source))

pub junction : {X : Type 0} (m : Map) (f : Flow X) (from queue : QueueId) → IsMap m → Joins m f from queue → (past : List Move) → MayAll m past → flow_left f past from ≡ flow_entered m f past queue
unfolding pick
junction m f from queue map joins past lawful = same_collected m (λ move. pick f (leaves move from)) (λ move. pick f (enters m move queue)) agree past lawful
  where
    agree : (move : Move) (before : List Move) → May m before move → MayAll m before → pick f (leaves move from) ≡ pick f (enters m move queue)
    agree Rests before may law = refl
    agree (Comes into x) before may law = comes_joined m f queue into joins.source x (f.mine x) (same_queue into queue) refl refl may
    agree (Goes p n x) before may law = goes_joined m f from queue joins p x (f.mine x) refl (mover_on_way m map before law p n x may.1)
    agree (Executes c s n x answer) before may law =
        ap (λ (b : Bool). pick f (packet_if b x)) (queue_off c s from joins.left)
        ∙ sym (ap (λ (b : Bool). pick f (packet_if b (reply_to x answer))) (answer_queue_off x.kind c s queue joins.entered))

-- out of a buffer
pub record FromBuffer (m : Map) (d : ℕ) (x : Packet) (queue : QueueId) : Type 0 where
  pub cube : ℕ
  pub ends : m.end_of d ≡ Cube cube
  pub goes : at_cube (m.next (goal_of x) cube) (first_queue cube x.spot) ≡ Some queue

from_buffer : (m : Map) (d : ℕ) (x : Packet) (queue : QueueId) (poisoned : Bool) (end : End) → m.end_of d ≡ end → unless_poisoned poisoned (after_buffer m end x) ≡ Some queue → FromBuffer m d x queue
from_buffer m d x queue true end is goes = absurd (cc)
from_buffer m d x queue false (Host h) is goes = absurd (cc)
from_buffer m d x queue false (Cube c) is goes = record { cube = c; ends = is; goes = goes }

pub buffer_to : (m : Map) (d : ℕ) (x : Packet) (queue : QueueId) → next_queue m (Buffer d) x ≡ Some queue → FromBuffer m d x queue
buffer_to m d x queue goes = from_buffer m d x queue x.poisoned (m.end_of d) refl goes

entry_no_output : (c : ℕ) (s : Spot) (d : ℕ) → first_queue c s ≡ Output d → ⊥
entry_no_output c (Bank v b) d is = cc
entry_no_output c Registers d is = cc

some_is : (a b : QueueId) → Some a ≡ Some b → a ≡ b
some_is a b is = cc

pub at_cube_output : (o : Option ℕ) (c : ℕ) (s : Spot) (d : ℕ) → at_cube o (first_queue c s) ≡ Some (Output d) → o ≡ Some d
at_cube_output (Some e) c s d is = cc
at_cube_output None c s d is = absurd (entry_no_output c s d (some_is (first_queue c s) (Output d) is))

at_cube_line : (o : Option ℕ) (c : ℕ) (s : Spot) (d : ℕ) → at_cube o (first_queue c s) ≡ Some (Line d) → ⊥
at_cube_line (Some e) c s d is = cc
at_cube_line None c (Bank v b) d is = cc
at_cube_line None c Registers d is = cc

at_cube_buffer : (o : Option ℕ) (c : ℕ) (s : Spot) (d : ℕ) → at_cube o (first_queue c s) ≡ Some (Buffer d) → ⊥
at_cube_buffer (Some e) c s d is = cc
at_cube_buffer None c (Bank v b) d is = cc
at_cube_buffer None c Registers d is = cc

-- into an output queue: from a buffer or from answers
pub after_answers_output : (o : Option ℕ) (d : ℕ) → after_answers o ≡ Some (Output d) → o ≡ Some d
after_answers_output (Some e) d is = cc
after_answers_output None d is = cc

after_answers_none : (o : Option ℕ) (queue : QueueId) → ((d : ℕ) → Output d ≡ queue → ⊥) → after_answers o ≡ Some queue → ⊥
after_answers_none (Some e) queue off is = off e (some_is (Output e) queue is)
after_answers_none None queue off is = cc

-- from an output queue to its line
line_back : (m : Map) (d : ℕ) (p : QueueId) (x : Packet) → next_queue m p x ≡ Some (Line d) → p ≡ Output d
line_back m d (Output e) x is = cc
line_back m d (Line e) x is = by (is_token x.kind) is
  where
    by : (b : Bool) → after_line b e ≡ Some (Line d) → Line e ≡ Output d
    by true goes = cc
    by false goes = cc
line_back m d (Buffer e) x is = let b = buffer_to m e x (Line d) is in absurd (at_cube_line (m.next (goal_of x) b.cube) b.cube x.spot d b.goes)
line_back m d (Vault c v) x is = cc
line_back m d (UnitQueue c s) x is = cc
line_back m d (Answers c l) x is = absurd (after_answers_none (m.next (ToHost x.host) c) (Line d) (λ e o. cc o) is)

pub output_line : {X : Type 0} (m : Map) (f : Flow X) (goal : Goal) (first d : ℕ) → IsFlow m f goal first → Joins m f (Output d) (Line d)
output_line m f goal first d flow = record {
  left = tt;
  entered = tt;
  on = λ x mine own. refl;
  back = λ p x mine own goes. line_back m d p x goes;
  source = λ x mine source. let live : is_live x ≡ true = flow.live x mine in let off : is_live x ≡ false = source in cc;
}

-- from a line to its buffer
pub buffer_back : (m : Map) (d : ℕ) (p : QueueId) (x : Packet) → next_queue m p x ≡ Some (Buffer d) → p ≡ Line d
buffer_back m d (Output e) x is = cc
buffer_back m d (Line e) x is = by (is_token x.kind) is
  where
    by : (b : Bool) → after_line b e ≡ Some (Buffer d) → Line e ≡ Line d
    by true goes = cc
    by false goes = cc
buffer_back m d (Buffer e) x is = let b = buffer_to m e x (Buffer d) is in absurd (at_cube_buffer (m.next (goal_of x) b.cube) b.cube x.spot d b.goes)
buffer_back m d (Vault c v) x is = cc
buffer_back m d (UnitQueue c s) x is = cc
buffer_back m d (Answers c l) x is = absurd (after_answers_none (m.next (ToHost x.host) c) (Buffer d) (λ e o. cc o) is)

pub line_buffer : {X : Type 0} (m : Map) (f : Flow X) (goal : Goal) (first d : ℕ) → IsFlow m f goal first → Joins m f (Line d) (Buffer d)
line_buffer m f goal first d flow = record {
  left = tt;
  entered = tt;
  on = λ x mine own. ap (λ (b : Bool). after_line b d) (live_parts x (flow.live x mine)).1;
  back = λ p x mine own goes. buffer_back m d p x goes;
  source = λ x mine source. absurd source;
}

-- a direction that a packet of a flow travels is a leg of the flow's route
pub leg_of : {X : Type 0} (m : Map) (f : Flow X) (goal : Goal) (first d : ℕ) → IsFlow m f goal first → (x : Packet) → f.mine x ≡ true → IsOnRoute m d x → (i : ℕ) × (leg m goal (Some first) i ≡ Some d)
leg_of m f goal first d flow x mine t =
    (t.index, ap₂ (λ (g : Goal) (o : Option ℕ). leg m g o t.index) (sym (flow.goal_is x mine)) (sym (flow.first_is x mine)) ∙ t.is)

-- of two buffers of a flow at one cube there is one
one_buffer : {X : Type 0} (m : Map) (f : Flow X) (goal : Goal) (first i d e c : ℕ) → IsMap m → IsFlow m f goal first → leg m goal (Some first) i ≡ Some d → m.end_of d ≡ Cube c
    → (x : Packet) → f.mine x ≡ true → IsOnRoute m e x → m.end_of e ≡ Cube c → Buffer e ≡ Buffer d
one_buffer m f goal first i d e c map flow at ends x mine t other =
    let l = leg_of m f goal first e flow x mine t in
    ap Buffer (one_leg m goal first l.0 i e d map l.1 at (ap (hops_at m goal) (other ∙ sym ends)))

-- from a buffer to the next output queue of the route
output_back : {X : Type 0} (m : Map) (f : Flow X) (goal : Goal) (first i d e : ℕ) → IsMap m → IsFlow m f goal first → leg m goal (Some first) i ≡ Some d → (follows : Follows m goal d e)
    → leg m goal (Some first) (suc i) ≡ Some e → (p : QueueId) (x : Packet) → f.mine x ≡ true → IsOnWay m p x → next_queue m p x ≡ Some (Output e) → p ≡ Buffer d
unfolding leg
output_back m f goal first i d e map flow at follows next (Output k) x mine own goes = cc
output_back m f goal first i d e map flow at follows next (Line k) x mine own goes = by (is_token x.kind) goes
  where
    by : (b : Bool) → after_line b k ≡ Some (Output e) → Line k ≡ Buffer d
    by true is = cc
    by false is = cc
output_back m f goal first i d e map flow at follows next (Buffer k) x mine own goes =
    let b = buffer_to m k x (Output e) goes in
    let n : m.next (goal_of x) b.cube ≡ Some e = at_cube_output (m.next (goal_of x) b.cube) b.cube x.spot e b.goes in
    let one : Cube b.cube ≡ Cube follows.cube = sym (map.starts (goal_of x) b.cube e n) ∙ map.starts goal follows.cube e follows.next in
    one_buffer m f goal first i d k follows.cube map flow at follows.ends x mine (own.1 (flow.live x mine)) (b.ends ∙ one)
output_back m f goal first i d e map flow at follows next (Vault c v) x mine own goes = cc
output_back m f goal first i d e map flow at follows next (UnitQueue c s) x mine own goes = cc
output_back m f goal first i d e map flow at follows next (Answers c l) x mine own goes =
    let n : m.next (ToHost x.host) c ≡ Some e = after_answers_output (m.next (ToHost x.host) c) e goes in
    let start : first_of m x ≡ Some e = (reply_goal m x own.reply).1 ∙ ap (m.next (ToHost x.host)) own.cube ∙ n in
    let same : Some first ≡ Some e = sym (flow.first_is x mine) ∙ start in
    let r : hops_at m goal (m.end_of e) + suc i ≡ hops_at m goal (m.end_of first) = hops_leg m goal first (suc i) e map next in
    let q : hops_at m goal (m.end_of e) + 0 ≡ hops_at m goal (m.end_of first) = hops_leg m goal first 0 e map same in
    absurd (omega arith)

pub buffer_output : {X : Type 0} (m : Map) (f : Flow X) (goal : Goal) (first i d e : ℕ) → IsMap m → IsFlow m f goal first → leg m goal (Some first) i ≡ Some d → Follows m goal d e
    → leg m goal (Some first) (suc i) ≡ Some e → Joins m f (Buffer d) (Output e)
buffer_output m f goal first i d e map flow at follows next = record {
  left = tt;
  entered = tt;
  on = λ x mine own.
      ap (λ (b : Bool). unless_poisoned b (after_buffer m (m.end_of d) x)) (live_parts x (flow.live x mine)).0
      ∙ ap (λ (end : End). after_buffer m end x) follows.ends
      ∙ ap (λ (g : Goal). at_cube (m.next g follows.cube) (first_queue follows.cube x.spot)) (flow.goal_is x mine)
      ∙ ap (λ (o : Option ℕ). at_cube o (first_queue follows.cube x.spot)) follows.next;
  back = output_back m f goal first i d e map flow at follows next;
  source = λ x mine source.
      let start : Cube follows.cube ≡ Host x.host = sym (map.starts goal follows.cube e follows.next) ∙ ap m.start_of source.direction ∙ map.host_starts x.host source.host in cc;
}

-- from the last buffer into the cube
pub record Ends {X : Type 0} (m : Map) (f : Flow X) (goal : Goal) (d c : ℕ) (s : Spot) : Type 0 where
  pub ends : m.end_of d ≡ Cube c
  pub last : m.next goal c ≡ None
  pub spot : (x : Packet) → f.mine x ≡ true → x.spot ≡ s

entry_back : {X : Type 0} (m : Map) (f : Flow X) (goal : Goal) (first i d c : ℕ) (s : Spot) → IsMap m → IsFlow m f goal first → leg m goal (Some first) i ≡ Some d → Ends m f goal d c s
    → (p : QueueId) (x : Packet) → f.mine x ≡ true → IsOnWay m p x → next_queue m p x ≡ Some (first_queue c s) → p ≡ Buffer d
entry_back m f goal first i d c (Bank v b) map flow at ends (Output k) x mine own goes = cc
entry_back m f goal first i d c Registers map flow at ends (Output k) x mine own goes = cc
entry_back m f goal first i d c s map flow at ends (Line k) x mine own goes = by s (is_token x.kind) goes
  where
    by : (t : Spot) (b : Bool) → after_line b k ≡ Some (first_queue c t) → Line k ≡ Buffer d
    by (Bank v a) true is = cc
    by Registers true is = cc
    by t false is = cc
entry_back m f goal first i d c s map flow at ends (Buffer k) x mine own goes =
    let b = buffer_to m k x (first_queue c s) goes in
    let cube : b.cube ≡ c = by (m.next (goal_of x) b.cube) b.cube s (ap (λ (t : Spot). at_cube (m.next (goal_of x) b.cube) (first_queue b.cube t)) (sym (ends.spot x mine)) ∙ b.goes) in
    one_buffer m f goal first i d k c map flow at ends.ends x mine (own.1 (flow.live x mine)) (b.ends ∙ ap Cube cube)
  where
    by : (o : Option ℕ) (e : ℕ) (t : Spot) → at_cube o (first_queue e t) ≡ Some (first_queue c t) → e ≡ c
    by (Some k) e (Bank v b) is = cc
    by (Some k) e Registers is = cc
    by None e (Bank v b) is = cc
    by None e Registers is = cc
entry_back m f goal first i d c (Bank v b) map flow at ends (Vault e w) x mine own goes = cc
entry_back m f goal first i d c Registers map flow at ends (Vault e w) x mine own goes =
    let spot : Registers ≡ Bank w own.1.0 = sym (ends.spot x mine) ∙ own.1.1 in cc
entry_back m f goal first i d c s map flow at ends (UnitQueue e t) x mine own goes = cc
entry_back m f goal first i d c s map flow at ends (Answers e l) x mine own goes =
    absurd (after_answers_none (m.next (ToHost x.host) e) (first_queue c s) (λ k is. entry_no_output c s k (sym is)) goes)

entry_after : (c : ℕ) (s : Spot) → IsAfter (first_queue c s)
entry_after c (Bank v b) = tt
entry_after c Registers = tt

entry_no_source : (m : Map) (c : ℕ) (s : Spot) (x : Packet) → IsSource m (first_queue c s) x → ⊥
entry_no_source m c (Bank v b) x source = source
entry_no_source m c Registers x source = source

pub buffer_entry : {X : Type 0} (m : Map) (f : Flow X) (goal : Goal) (first i d c : ℕ) (s : Spot) → IsMap m → IsFlow m f goal first → leg m goal (Some first) i ≡ Some d → Ends m f goal d c s → Joins m f (Buffer d) (first_queue c s)
buffer_entry m f goal first i d c s map flow at ends = record {
  left = tt;
  entered = entry_after c s;
  on = λ x mine own.
      ap (λ (b : Bool). unless_poisoned b (after_buffer m (m.end_of d) x)) (live_parts x (flow.live x mine)).0
      ∙ ap (λ (end : End). after_buffer m end x) ends.ends
      ∙ ap (λ (g : Goal). at_cube (m.next g c) (first_queue c x.spot)) (flow.goal_is x mine)
      ∙ ap (λ (o : Option ℕ). at_cube o (first_queue c x.spot)) ends.last
      ∙ ap (λ (t : Spot). Some (first_queue c t)) (ends.spot x mine);
  back = entry_back m f goal first i d c s map flow at ends;
  source = λ x mine source. entry_no_source m c s x source;
}

-- from a vault to its bank
bank_back : (m : Map) (c v b : ℕ) (p : QueueId) (x : Packet) → x.spot ≡ Bank v b → IsOnWay m p x → next_queue m p x ≡ Some (UnitQueue c (Bank v b)) → p ≡ Vault c v
bank_back m c v b (Output d) x spot own goes = cc
bank_back m c v b (Line d) x spot own goes = by (is_token x.kind) goes
  where
    by : (a : Bool) → after_line a d ≡ Some (UnitQueue c (Bank v b)) → Line d ≡ Vault c v
    by true is = cc
    by false is = cc
bank_back m c v b (Buffer d) x spot own goes =
    let from = buffer_to m d x (UnitQueue c (Bank v b)) goes in
    absurd (by (m.next (goal_of x) from.cube) from.cube (ap (λ (t : Spot). at_cube (m.next (goal_of x) from.cube) (first_queue from.cube t)) (sym spot) ∙ from.goes))
  where
    by : (o : Option ℕ) (e : ℕ) → at_cube o (first_queue e (Bank v b)) ≡ Some (UnitQueue c (Bank v b)) → ⊥
    by (Some k) e is = cc
    by None e is = cc
bank_back m c v b (Vault e w) x spot own goes =
    let here : Bank w own.1.0 ≡ Bank v b = sym own.1.1 ∙ spot in
    let vault : w ≡ v = cc in
    let cube : e ≡ c = cc in ap₂ Vault cube vault
bank_back m c v b (UnitQueue e t) x spot own goes = cc
bank_back m c v b (Answers e l) x spot own goes = absurd (after_answers_none (m.next (ToHost x.host) e) (UnitQueue c (Bank v b)) (λ k is. cc is) goes)

pub vault_bank : {X : Type 0} (m : Map) (f : Flow X) (c v b : ℕ) → ((x : Packet) → f.mine x ≡ true → x.spot ≡ Bank v b) → Joins m f (Vault c v) (UnitQueue c (Bank v b))
vault_bank m f c v b spot = record {
  left = tt;
  entered = tt;
  on = λ x mine own. ap (λ (t : Spot). Some (UnitQueue c t)) (spot x mine);
  back = λ p x mine own goes. bank_back m c v b p x (spot x mine) own goes;
  source = λ x mine source. absurd source;
}
