-- Each move keeps the phase of a tag.
use Rattle.std.proofs.Common.{◌≡◌, ◌≤◌, ◌∙◌, ◌+◌, ◌==◌, ◌&&◌, ℕ, zero, suc, Bool, true, false, not, Option, Some, None, List, [], ◌∷◌, ◌++◌, length, All, refl, sym, ap, ap₂, eqb-true, eq-eqb, append-nil, length-append, arith}
use Rattle.std.proofs.lemmas.List.Elements.{All-nil, All-cons}
use Rattle.std.proofs.lemmas.Bool.{and_parts, and_from, not-true, false_from_ne_true}
use Rattle.hmc_codes.specs.declared.answer.Answer.{Answer}
use Rattle.hmc_codes.specs.declared.answer.Answer.TheVariants.{Silent}
use Rattle.hmc_hops.specs.Packets.{Packet, Spot, Kind, is_live, is_token, is_request, is_reply, no_request, reply_to}
use Rattle.hmc_hops.specs.Packets.Kind.{Asks, Posts, Replies, Returns}
use Rattle.hmc_hops.specs.Map.{Map, IsMap, End, goal_of, first_of, leg}
use Rattle.hmc_hops.specs.Map.End.{Host, Cube}
use Rattle.hmc_routes.specs.Route.Goal.{ToHost, ToCube}
use Rattle.hmc_hops.specs.Queues.{QueueId, same_queue, is_at, next_queue, after_line, at_cube, after_buffer, unless_poisoned, after_answers, first_queue, lift_of}
use Rattle.hmc_hops.specs.Queues.QueueId.{Output, Line, Buffer, Vault, UnitQueue, Answers}
use Rattle.hmc_hops.specs.Moves.{Move, packet_if, answer_queue, without_if, contents, IsPlaced, IsSource, CanLeave, MayAll}
use Rattle.hmc_hops.specs.Moves.Move.{Rests, Comes, Goes, Executes}
use Rattle.hmc_hops.specs.Flows.{item_if, pick, collect}
use Rattle.hmc_hops.specs.Flows.{is_host}
use Rattle.hmc_hops.specs.Tags.{is_asks, is_tagged, Errand, errand_by, errands_of, asks_now, executes_now, takes_now, request_of, answer_of, asked_under, executed_under, replied_under, answers_under, is_out, KeepsTags, Phase, errands_if, held, asks_left, replies_left, is_held, HasPhase, IsAnswered}
use Rattle.hmc_hops.specs.Tags.Errand.{Asked, Replied}
use Rattle.hmc_hops.specs.Tags.Phase.{Free, Held}
use Rattle.hmc_hops.proofs.SameQueue.{queue_same, live_parts}
use Rattle.hmc_hops.proofs.Legs.{before_leg}
use Rattle.hmc_hops.proofs.QueueLaws.{pick-append, pick_none}
use Rattle.hmc_hops.specs.OnWay.{IsAnswerFor, IsOnWay, IsOnRoute}
use Rattle.hmc_hops.proofs.OnRoute.{Each, all_on_way, mover_on_way, request_goal, reply_goal, reply_if_live}
use Rattle.hmc_hops.specs.Delivered.{IsDrained}
use Rattle.hmc_hops.proofs.Delivering.{nothing_in}
use Rattle.hmc_hops.proofs.Phases.{HasLeft, has_left, none_left, others_left, enters_held, accounts_still, accounts_asks, accounts_executes, accounts_takes, free_if, same_errand}
use Rattle.hmc_hops.proofs.Replies.{host_is}

-- a packet whose direction ends at a host is an answer to it
goal_is : (m : Map) → IsMap m → (d k i : ℕ) (x : Packet) (request : Bool) → is_request x.kind ≡ request → is_live x ≡ true → m.is_goal (ToHost x.host) ≡ true → leg m (goal_of x) (first_of m x) i ≡ Some d → m.end_of d ≡ Host k → goal_of x ≡ ToHost k
unfolding leg
goal_is m map d k (suc i) x request is live known at end =
    let b = before_leg m (goal_of x) (leg m (goal_of x) (first_of m x) i) d at in
    map.reaches (goal_of x) b.2.cube d k b.2.next end
goal_is m map d k zero x true is live known at end =
    let a = map.host_ends x.host known in
    let first : Some (m.from_host x.host) ≡ Some d = sym (request_goal m x is).1 ∙ at in
    let same : m.from_host x.host ≡ d = cc in
    let both : Cube a.0 ≡ Host k = sym a.1 ∙ ap m.end_of same ∙ end in absurd (cc)
goal_is m map d k zero x false is live known at end =
    let g = reply_goal m x (reply_if_live x.kind (live_parts x live).1 is) in
    g.0 ∙ map.reaches (ToHost x.host) x.cube d k (sym g.1 ∙ at) end

at_host_by : (m : Map) (k : ℕ) (x : Packet) (request : Bool) → is_request x.kind ≡ request → is_live x ≡ true → goal_of x ≡ ToHost k → (x.kind ≡ Replies) × (x.host ≡ k)
at_host_by m k x true is live goal = let g : ToCube x.cube ≡ ToHost k = sym (request_goal m x is).0 ∙ goal in absurd (cc)
at_host_by m k x false is live goal =
    let kind : x.kind ≡ Replies = reply_if_live x.kind (live_parts x live).1 is in
    let g : ToHost x.host ≡ ToHost k = sym (reply_goal m x kind).0 ∙ goal in
    let host : x.host ≡ k = cc in (kind, host)

pub at_host : (m : Map) → IsMap m → (d k : ℕ) (x : Packet) → is_live x ≡ true → IsOnRoute m d x → m.end_of d ≡ Host k → (x.kind ≡ Replies) × (x.host ≡ k)
at_host m map d k x live t end = at_host_by m k x (is_request x.kind) refl live (goal_is m map d k t.index x (is_request x.kind) refl live t.known.host t.is end)

-- so a host's buffer holds answers to it
each_at_host : (m : Map) → IsMap m → (d h : ℕ) (xs : List Packet) → m.end_of d ≡ Host h → Each (IsOnWay m (Buffer d)) xs → All (IsAnswerFor h) xs
each_at_host m map d h [] end each = All-nil (IsAnswerFor h)
each_at_host m map d h (x ∷ xs) end each = All-cons (IsAnswerFor h) x xs (λ live. at_host m map d h x live (each.0.1 live) end) (each_at_host m map d h xs end each.1)

pub all_at_host : (m : Map) (past : List Move) (d h : ℕ) → IsMap m → MayAll m past → m.end_of d ≡ Host h → All (IsAnswerFor h) (contents m past (Buffer d))
all_at_host m past d h map lawful end = each_at_host m map d h (contents m past (Buffer d)) end (all_on_way m map past lawful (Buffer d))

-- a live packet that goes nowhere is an answer at its host
pub record TakenHere (m : Map) (p : QueueId) (x : Packet) : Type 0 where
  pub direction : ℕ
  pub queue : p ≡ Buffer direction
  pub ends : m.end_of direction ≡ Host x.host
  pub reply : x.kind ≡ Replies

buffer_nowhere : (m : Map) → IsMap m → (d : ℕ) (x : Packet) (end : End) → m.end_of d ≡ end → is_live x ≡ true → IsOnRoute m d x → unless_poisoned false (after_buffer m end x) ≡ None → TakenHere m (Buffer d) x
buffer_nowhere m map d x (Host k) end live t goes = let a = at_host m map d k x live t end in record { direction = d; queue = refl; ends = end ∙ ap Host (sym a.1); reply = a.0 }
buffer_nowhere m map d x (Cube c) end live t goes = absurd (by (m.next (goal_of x) c) goes)
  where
    by : (o : Option ℕ) → at_cube o (first_queue c x.spot) ≡ None → ⊥
    by (Some e) is = cc
    by None is = cc

pub goes_nowhere : (m : Map) → IsMap m → (p : QueueId) (x : Packet) → IsOnWay m p x → is_live x ≡ true → CanLeave p → next_queue m p x ≡ None → TakenHere m p x
goes_nowhere m map (Output d) x own live left goes = absurd (cc)
goes_nowhere m map (Line d) x own live left goes =
    let some : Some (Buffer d) ≡ None = sym (ap (λ (b : Bool). after_line b d) (live_parts x live).1) ∙ goes in absurd (cc)
goes_nowhere m map (Buffer d) x own live left goes =
    buffer_nowhere m map d x (m.end_of d) refl live (own.1 live) (sym (ap (λ (b : Bool). unless_poisoned b (after_buffer m (m.end_of d) x)) (live_parts x live).0) ∙ goes)
goes_nowhere m map (Vault c v) x own live left goes = absurd (cc)
goes_nowhere m map (UnitQueue c s) x own live left goes = absurd left
goes_nowhere m map (Answers c l) x own live left goes = absurd (by (m.next (ToHost x.host) c) refl goes)
  where
    by : (o : Option ℕ) → m.next (ToHost x.host) c ≡ o → after_answers o ≡ None → ⊥
    by (Some e) next is = cc
    by None next is = let g : ToHost x.host ≡ ToCube c = map.arrives (ToHost x.host) c own.known.host own.is_cube next in cc

-- what a packet of a tag is
pub record IsErrand (h t : ℕ) (x : Packet) : Type 0 where
  pub clean : x.poisoned ≡ false
  pub tagged : is_tagged x.kind ≡ true
  pub host : x.host ≡ h
  pub tag : x.tag ≡ t

pub errand_is : (h t : ℕ) (x : Packet) → (errands_of h t).mine x ≡ true → IsErrand h t x
errand_is h t x mine =
    let one = and_parts (not x.poisoned && is_tagged x.kind) ((x.host == h) && (x.tag == t)) mine in
    let kind = and_parts (not x.poisoned) (is_tagged x.kind) one.0 in
    let two = and_parts (x.host == h) (x.tag == t) one.1 in
    record { clean = not-true x.poisoned kind.0; tagged = kind.1; host = eqb-true x.host h two.0; tag = eqb-true x.tag t two.1 }

tagged_token : (k : Kind) → is_tagged k ≡ true → is_token k ≡ true
tagged_token Asks is = refl
tagged_token Posts is = cc
tagged_token Replies is = refl
tagged_token Returns is = cc

errand_live : (h t : ℕ) (x : Packet) → IsErrand h t x → is_live x ≡ true
errand_live h t x is = and_from (not x.poisoned) (is_token x.kind) (ap not is.clean) (tagged_token x.kind is.tagged)

-- a packet that is taken under a tag is an answer under it
taken_mine : (m : Map) → IsMap m → (h t d : ℕ) (x : Packet) → IsOnWay m (Buffer d) x → (is_host (m.end_of d) h && (not x.poisoned && (x.tag == t))) ≡ true → (errands_of h t).mine x ≡ true
taken_mine m map h t d x own takes =
    let one = and_parts (is_host (m.end_of d) h) (not x.poisoned && (x.tag == t)) takes in
    let two = and_parts (not x.poisoned) (x.tag == t) one.1 in
    let live : is_live x ≡ true = and_from (not x.poisoned) (is_token x.kind) two.0 own.0 in
    let a = at_host m map d h x live (own.1 live) (host_is (m.end_of d) h one.0) in
    and_from (not x.poisoned && is_tagged x.kind) ((x.host == h) && (x.tag == t)) (and_from (not x.poisoned) (is_tagged x.kind) two.0 (ap is_tagged a.0)) (and_from (x.host == h) (x.tag == t) (eq-eqb x.host h a.1) two.1)

takes_false : (m : Map) → IsMap m → (h t : ℕ) (p : QueueId) (n : ℕ) (x : Packet) → IsOnWay m p x → (errands_of h t).mine x ≡ false → takes_now m h t (Goes p n x) ≡ false
takes_false m map h t (Output d) n x own off = refl
takes_false m map h t (Line d) n x own off = refl
takes_false m map h t (Buffer d) n x own off = false_from_ne_true (takes_now m h t (Goes (Buffer d) n x)) (λ on. let mine : (errands_of h t).mine x ≡ true = taken_mine m map h t d x own on in let o = off in let clash : true ≡ false = sym mine ∙ o in cc)
takes_false m map h t (Vault c v) n x own off = refl
takes_false m map h t (UnitQueue c s) n x own off = refl
takes_false m map h t (Answers c l) n x own off = refl

host_goes_nowhere : (m : Map) (d h : ℕ) (x : Packet) (poisoned : Bool) (queue : QueueId) → m.end_of d ≡ Host h → unless_poisoned poisoned (after_buffer m (m.end_of d) x) ≡ Some queue → ⊥
host_goes_nowhere m d h x true queue end goes = cc
host_goes_nowhere m d h x false queue end goes = let none : None ≡ Some queue = sym (ap (λ (e : End). after_buffer m e x) end) ∙ goes in cc

pub takes_not : (m : Map) (h t : ℕ) (p : QueueId) (n : ℕ) (x : Packet) (queue : QueueId) → next_queue m p x ≡ Some queue → takes_now m h t (Goes p n x) ≡ false
takes_not m h t (Output d) n x queue goes = refl
takes_not m h t (Line d) n x queue goes = refl
takes_not m h t (Buffer d) n x queue goes = false_from_ne_true (takes_now m h t (Goes (Buffer d) n x))
    (λ on. host_goes_nowhere m d h x x.poisoned queue (host_is (m.end_of d) h (and_parts (is_host (m.end_of d) h) (not x.poisoned && (x.tag == t)) on).0) goes)
takes_not m h t (Vault c v) n x queue goes = refl
takes_not m h t (UnitQueue c s) n x queue goes = refl
takes_not m h t (Answers c l) n x queue goes = refl

-- A packet goes on.
goes_other : (m : Map) → IsMap m → (h t : ℕ) (past : List Move) (p : QueueId) (n : ℕ) (x : Packet) → IsPlaced n x (contents m past p) → IsOnWay m p x → HasPhase m h t past → (errands_of h t).mine x ≡ false → HasPhase m h t (Goes p n x ∷ past)
unfolding contents collect is_out
goes_other m map h t past p n x at own has off =
    let f = errands_of h t in record {
      phase = has.phase;
      places = λ queue.
          pick-append f (without_if (same_queue p queue) n (contents m past queue)) (packet_if (is_at (next_queue m p x) queue) x)
          ∙ ap₂ (λ (a b : List Errand). a ++ b) (others_left m f past p n x at off queue) (pick_none f (is_at (next_queue m p x) queue) x off)
          ∙ append-nil (pick f (contents m past queue)) ∙ has.places queue;
      accounts = accounts_still false false (takes_now m h t (Goes p n x)) (asked_under h t past) (executed_under h t past) (replied_under h t past) (answers_under m h t past) (is_out m h t past) no_request x.answer has.phase has.phase refl refl (takes_false m map h t p n x own off) refl refl refl has.accounts;
    }

goes_on : (m : Map) (h t : ℕ) (past : List Move) (p : QueueId) (n : ℕ) (x : Packet) (queue : QueueId) → (has : HasPhase m h t past) → (errands_of h t).mine x ≡ true → HasLeft (errands_of h t) has.phase p n x (contents m past p) → next_queue m p x ≡ Some queue → HasPhase m h t (Goes p n x ∷ past)
unfolding contents collect is_out
goes_on m h t past p n x queue has on left goes =
    let f = errands_of h t in
    let same = same_errand has.phase p queue (f.value x) left.was in record {
      phase = Held queue (f.value x);
      places = λ here.
          pick-append f (without_if (same_queue p here) n (contents m past here)) (packet_if (is_at (next_queue m p x) here) x)
          ∙ ap₂ (λ (a b : List Errand). a ++ b) (none_left m f past has.phase p n x has.places left here)
          (ap (λ (o : Option QueueId). pick f (packet_if (is_at o here) x)) goes ∙ enters_held f queue here x on);
      accounts = accounts_still false false (takes_now m h t (Goes p n x)) (asked_under h t past) (executed_under h t past) (replied_under h t past) (answers_under m h t past) (is_out m h t past) no_request x.answer has.phase (Held queue (f.value x)) refl refl (takes_not m h t p n x queue goes) same.0 same.1 same.2 has.accounts;
    }

goes_out : (m : Map) (h t : ℕ) (past : List Move) (p : QueueId) (n : ℕ) (x : Packet) → (has : HasPhase m h t past) → (errands_of h t).mine x ≡ true → HasLeft (errands_of h t) has.phase p n x (contents m past p) → next_queue m p x ≡ None → TakenHere m p x
    → HasPhase m h t (Goes p n x ∷ past)
unfolding contents collect is_out pick
goes_out m h t past p n x has on left goes taken =
    let f = errands_of h t in
    let is = errand_is h t x on in
    let telling : f.value x ≡ Replied x.answer = ap (λ (k : Kind). errand_by (is_reply k) x) taken.reply in
    let takes : takes_now m h t (Goes p n x) ≡ true =
    ap (λ (r : QueueId). takes_now m h t (Goes r n x)) taken.queue
    ∙ and_from (is_host (m.end_of taken.direction) h) (not x.poisoned && (x.tag == t)) (ap (λ (e : End). is_host e h) taken.ends ∙ eq-eqb x.host h is.host) (and_from (not x.poisoned) (x.tag == t) (ap not is.clean) (eq-eqb x.tag t is.tag)) in record {
      phase = Free;
      places = λ here.
          pick-append f (without_if (same_queue p here) n (contents m past here)) (packet_if (is_at (next_queue m p x) here) x)
          ∙ ap₂ (λ (a b : List Errand). a ++ b) (none_left m f past has.phase p n x has.places left here) (ap (λ (o : Option QueueId). pick f (packet_if (is_at o here) x)) goes);
      accounts = accounts_takes (takes_now m h t (Goes p n x)) (asked_under h t past) (executed_under h t past) (replied_under h t past) (answers_under m h t past) (is_out m h t past) no_request x.answer has.phase p takes (left.was ∙ ap (Held p) telling) has.accounts;
    }

goes_step : (m : Map) → IsMap m → (h t : ℕ) (past : List Move) (p : QueueId) (n : ℕ) (x : Packet) → CanLeave p → IsPlaced n x (contents m past p) → IsOnWay m p x → HasPhase m h t past → HasPhase m h t (Goes p n x ∷ past)
goes_step m map h t past p n x free at own has = by ((errands_of h t).mine x) refl
  where
    further : (errands_of h t).mine x ≡ true → HasLeft (errands_of h t) has.phase p n x (contents m past p) → (o : Option QueueId) → next_queue m p x ≡ o → HasPhase m h t (Goes p n x ∷ past)
    further on left None goes = goes_out m h t past p n x has on left goes (goes_nowhere m map p x own (errand_live h t x (errand_is h t x on)) free goes)
    further on left (Some queue) goes = goes_on m h t past p n x queue has on left goes

    by : (mine : Bool) → (errands_of h t).mine x ≡ mine → HasPhase m h t (Goes p n x ∷ past)
    by false off = goes_other m map h t past p n x at own has off
    by true on = further on (has_left (errands_of h t) has.phase p n x (contents m past p) at on (has.places p)) (next_queue m p x) refl

-- A packet comes from outside.
request_tagged : (k : Kind) → is_request k ≡ true → is_tagged k ≡ is_asks k
request_tagged Asks is = refl
request_tagged Posts is = refl
request_tagged Replies is = cc
request_tagged Returns is = cc

request_no_reply : (k : Kind) → is_request k ≡ true → is_reply k ≡ false
request_no_reply Asks is = refl
request_no_reply Posts is = refl
request_no_reply Replies is = cc
request_no_reply Returns is = cc

given_mine : (h t d : ℕ) (x : Packet) → is_request x.kind ≡ true → (errands_of h t).mine x ≡ asks_now h t (Comes (Output d) x)
given_mine h t d x request = ap (λ (b : Bool). (not x.poisoned && b) && ((x.host == h) && (x.tag == t))) (request_tagged x.kind request)

given_step : (m : Map) (h t : ℕ) (past : List Move) (d : ℕ) (x : Packet) (asks : Bool) → asks_now h t (Comes (Output d) x) ≡ asks → is_request x.kind ≡ true → (asks ≡ true → is_out m h t past ≡ false) → HasPhase m h t past → HasPhase m h t (Comes (Output d) x ∷ past)
unfolding contents collect is_out
given_step m h t past d x false asks request fresh has =
    let f = errands_of h t in
    let off : f.mine x ≡ false = given_mine h t d x request ∙ asks in record {
      phase = has.phase;
      places = λ queue.
          pick-append f (contents m past queue) (packet_if (same_queue (Output d) queue) x)
          ∙ ap (λ (l : List Errand). pick f (contents m past queue) ++ l) (pick_none f (same_queue (Output d) queue) x off) ∙ append-nil (pick f (contents m past queue)) ∙ has.places queue;
      accounts = accounts_still (asks_now h t (Comes (Output d) x)) false false (asked_under h t past) (executed_under h t past) (replied_under h t past) (answers_under m h t past) (is_out m h t past) x.request Silent has.phase has.phase asks refl refl refl refl refl has.accounts;
    }
given_step m h t past d x true asks request fresh has =
    let f = errands_of h t in
    let on : f.mine x ≡ true = given_mine h t d x request ∙ asks in
    let free : has.phase ≡ Free = free_if has.phase (sym has.accounts.out_is ∙ fresh refl) in
    let asking : f.value x ≡ Asked x.request = ap (λ (b : Bool). errand_by b x) (request_no_reply x.kind request) in record {
      phase = Held (Output d) (Asked x.request);
      places = λ queue.
          pick-append f (contents m past queue) (packet_if (same_queue (Output d) queue) x)
          ∙ ap₂ (λ (a b : List Errand). a ++ b) (has.places queue ∙ ap (λ (p : Phase). held p queue) free) (enters_held f (Output d) queue x on ∙ ap (λ (e : Errand). held (Held (Output d) e) queue) asking);
      accounts = accounts_asks (asks_now h t (Comes (Output d) x)) (asked_under h t past) (executed_under h t past) (replied_under h t past) (answers_under m h t past) (is_out m h t past) x.request Silent has.phase (Output d) asks free has.accounts;
    }

dead_step : (m : Map) (h t : ℕ) (past : List Move) (d : ℕ) (x : Packet) → is_live x ≡ false → HasPhase m h t past → HasPhase m h t (Comes (Line d) x ∷ past)
unfolding contents collect is_out
dead_step m h t past d x dead has =
    let f = errands_of h t in
    let off : f.mine x ≡ false = false_from_ne_true (f.mine x) (λ on. let live : is_live x ≡ true = errand_live h t x (errand_is h t x on) in let clash : true ≡ false = sym live ∙ dead in cc) in record {
      phase = has.phase;
      places = λ queue.
          pick-append f (contents m past queue) (packet_if (same_queue (Line d) queue) x)
          ∙ ap (λ (l : List Errand). pick f (contents m past queue) ++ l) (pick_none f (same_queue (Line d) queue) x off) ∙ append-nil (pick f (contents m past queue)) ∙ has.places queue;
      accounts = accounts_still false false false (asked_under h t past) (executed_under h t past) (replied_under h t past) (answers_under m h t past) (is_out m h t past) x.request Silent has.phase has.phase refl refl refl refl refl refl has.accounts;
    }

comes_step : (m : Map) (h t : ℕ) (past : List Move) (into : QueueId) (x : Packet) → IsSource m into x → (asks_now h t (Comes into x) ≡ true → is_out m h t past ≡ false) → HasPhase m h t past → HasPhase m h t (Comes into x ∷ past)
comes_step m h t past (Output d) x source fresh has = given_step m h t past d x (asks_now h t (Comes (Output d) x)) refl source.request fresh has
comes_step m h t past (Line d) x source fresh has = dead_step m h t past d x source has
comes_step m h t past (Buffer d) x source fresh has = absurd source
comes_step m h t past (Vault c v) x source fresh has = absurd source
comes_step m h t past (UnitQueue c s) x source fresh has = absurd source
comes_step m h t past (Answers c l) x source fresh has = absurd source

-- A request is executed.
executes_mine : (h t c : ℕ) (s : Spot) (n : ℕ) (x : Packet) (answer : Answer) → x.poisoned ≡ false → is_request x.kind ≡ true → (errands_of h t).mine x ≡ executes_now h t (Executes c s n x answer)
executes_mine h t c s n x answer clean request = ap₂ (λ (p k : Bool). (not p && k) && ((x.host == h) && (x.tag == t))) clean (request_tagged x.kind request)

reply_off : (h t c : ℕ) (s : Spot) (x : Packet) (answer : Answer) (k : Kind) (queue : QueueId) → (is_asks k && ((x.host == h) && (x.tag == t))) ≡ false → pick (errands_of h t) (packet_if (is_at (answer_queue k c s) queue) (reply_to x answer)) ≡ []
unfolding pick
reply_off h t c s x answer Asks queue off = pick_none (errands_of h t) (is_at (answer_queue Asks c s) queue) (reply_to x answer) off
reply_off h t c s x answer Posts queue off = refl
reply_off h t c s x answer Replies queue off = refl
reply_off h t c s x answer Returns queue off = refl

asks_kind : (k : Kind) → is_asks k ≡ true → k ≡ Asks
asks_kind Asks is = refl
asks_kind Posts is = cc
asks_kind Replies is = cc
asks_kind Returns is = cc

executes_step : (m : Map) (h t : ℕ) (past : List Move) (c : ℕ) (s : Spot) (n : ℕ) (x : Packet) (answer : Answer) (turns : Bool) → executes_now h t (Executes c s n x answer) ≡ turns → IsPlaced n x (contents m past (UnitQueue c s)) → IsOnWay m (UnitQueue c s) x → HasPhase m h t past
    → HasPhase m h t (Executes c s n x answer ∷ past)
unfolding contents collect is_out
executes_step m h t past c s n x answer false turns at own has =
    let f = errands_of h t in
    let off : f.mine x ≡ false = executes_mine h t c s n x answer own.0.clean own.0.request ∙ turns in record {
      phase = has.phase;
      places = λ queue.
          pick-append f (without_if (same_queue (UnitQueue c s) queue) n (contents m past queue)) (packet_if (is_at (answer_queue x.kind c s) queue) (reply_to x answer))
          ∙ ap₂ (λ (a b : List Errand). a ++ b) (others_left m f past (UnitQueue c s) n x at off queue) (reply_off h t c s x answer x.kind queue turns)
          ∙ append-nil (pick f (contents m past queue)) ∙ has.places queue;
      accounts = accounts_still false (executes_now h t (Executes c s n x answer)) false (asked_under h t past) (executed_under h t past) (replied_under h t past) (answers_under m h t past) (is_out m h t past) x.request answer has.phase has.phase refl turns refl refl refl refl has.accounts;
    }
executes_step m h t past c s n x answer true turns at own has =
    let f = errands_of h t in
    let on : f.mine x ≡ true = executes_mine h t c s n x answer own.0.clean own.0.request ∙ turns in
    let both = and_parts (is_asks x.kind) ((x.host == h) && (x.tag == t)) turns in
    let kind : x.kind ≡ Asks = asks_kind x.kind both.0 in
    let left = has_left f has.phase (UnitQueue c s) n x (contents m past (UnitQueue c s)) at on (has.places (UnitQueue c s)) in
    let asking : f.value x ≡ Asked x.request = ap (λ (b : Bool). errand_by b x) (request_no_reply x.kind own.0.request) in record {
      phase = Held (Answers c (lift_of s)) (Replied answer);
      places = λ queue.
          pick-append f (without_if (same_queue (UnitQueue c s) queue) n (contents m past queue)) (packet_if (is_at (answer_queue x.kind c s) queue) (reply_to x answer))
          ∙ ap₂ (λ (a b : List Errand). a ++ b) (none_left m f past has.phase (UnitQueue c s) n x has.places left queue)
          (ap (λ (k : Kind). pick f (packet_if (is_at (answer_queue k c s) queue) (reply_to x answer))) kind ∙ enters_held f (Answers c (lift_of s)) queue (reply_to x answer) both.1);
      accounts = accounts_executes (executes_now h t (Executes c s n x answer)) (asked_under h t past) (executed_under h t past) (replied_under h t past) (answers_under m h t past) (is_out m h t past) x.request answer has.phase (UnitQueue c s) (Answers c (lift_of s)) turns (left.was ∙ ap (Held (UnitQueue c s)) asking) has.accounts;
    }

rests_step : (m : Map) (h t : ℕ) (past : List Move) → HasPhase m h t past → HasPhase m h t (Rests ∷ past)
unfolding contents collect is_out
rests_step m h t past has = record {
  phase = has.phase;
  places = λ queue. ap (pick (errands_of h t)) (append-nil (contents m past queue)) ∙ has.places queue;
  accounts = accounts_still false false false (asked_under h t past) (executed_under h t past) (replied_under h t past) (answers_under m h t past) (is_out m h t past) no_request Silent has.phase has.phase refl refl refl refl refl refl has.accounts;
}

pub has_phase : (m : Map) → IsMap m → (past : List Move) → MayAll m past → KeepsTags m past → (h t : ℕ) → HasPhase m h t past
unfolding contents collect is_out pick MayAll KeepsTags
has_phase m map [] lawful tagged h t = record { phase = Free; places = λ queue. refl; accounts = record { asked_is = refl; replied_is = refl; out_is = refl } }
has_phase m map (Rests ∷ past) lawful tagged h t = rests_step m h t past (has_phase m map past lawful.1 tagged.1 h t)
has_phase m map (Comes into x ∷ past) lawful tagged h t = comes_step m h t past into x lawful.0 (tagged.0 h t) (has_phase m map past lawful.1 tagged.1 h t)
has_phase m map (Goes p n x ∷ past) lawful tagged h t =
    goes_step m map h t past p n x lawful.0.0 lawful.0.1 (mover_on_way m map past lawful.1 p n x lawful.0.1) (has_phase m map past lawful.1 tagged.1 h t)
has_phase m map (Executes c s n x answer ∷ past) lawful tagged h t =
    executes_step m h t past c s n x answer (executes_now h t (Executes c s n x answer)) refl lawful.0 (mover_on_way m map past lawful.1 (UnitQueue c s) n x lawful.0) (has_phase m map past lawful.1 tagged.1 h t)

-- what follows from the phase
as_long : (h t : ℕ) (past : List Move) → length (executed_under h t past) ≡ length (replied_under h t past)
unfolding collect
as_long h t [] = refl
as_long h t (move ∷ past) =
    length-append (executed_under h t past) (item_if (executes_now h t move) (request_of move)) ∙ ap₂ (λ (a b : ℕ). a + b) (as_long h t past) (by (executes_now h t move)) ∙ sym (length-append (replied_under h t past) (item_if (executes_now h t move) (answer_of move)))
  where
    by : (b : Bool) → length (item_if b (request_of move)) ≡ length (item_if b (answer_of move))
    by true = refl
    by false = refl

asks_and_tells : (p : Phase) → length (asks_left p) + length (replies_left p) ≤ 1
asks_and_tells Free = omega arith
asks_and_tells (Held queue (Asked w)) = omega arith
asks_and_tells (Held queue (Replied w)) = omega arith

is_found : (p : Phase) (queue : QueueId) (errand : Errand) (rest : List Errand) → held p queue ≡ errand ∷ rest → is_held p ≡ true
is_found Free queue errand rest is = cc
is_found (Held here e) queue errand rest is = refl

pub is_answered : (m : Map) → IsMap m → (past : List Move) → MayAll m past → KeepsTags m past → (h t : ℕ) → IsAnswered m h t past
is_answered m map past lawful tagged h t =
    let has = has_phase m map past lawful tagged h t in
    let a : length (asked_under h t past) ≡ length (executed_under h t past) + length (asks_left has.phase) = ap length has.accounts.asked_is ∙ length-append (executed_under h t past) (asks_left has.phase) in
    let b : length (replied_under h t past) ≡ length (answers_under m h t past) + length (replies_left has.phase) = ap length has.accounts.replied_is ∙ length-append (answers_under m h t past) (replies_left has.phase) in
    let same : length (executed_under h t past) ≡ length (replied_under h t past) = as_long h t past in
    let few : length (asks_left has.phase) + length (replies_left has.phase) ≤ 1 = asks_and_tells has.phase in record {
      answered = (replies_left has.phase, has.accounts.replied_is);
      executed = (asks_left has.phase, has.accounts.asked_is);
      one_out = omega arith;
      finds = λ queue errand rest is. has.accounts.out_is ∙ is_found has.phase queue errand rest (sym (has.places queue) ∙ is);
    }

phase_free : (p : Phase) → ((queue : QueueId) → held p queue ≡ []) → p ≡ Free
phase_free Free none = refl
phase_free (Held here errand) none =
    let is : errand ∷ [] ≡ [] = sym (ap (λ (b : Bool). errands_if b errand) (queue_same here)) ∙ none here in absurd (cc)

pub all_answered : (m : Map) → IsMap m → (past : List Move) → MayAll m past → KeepsTags m past → (h t : ℕ) → IsDrained m past → length (answers_under m h t past) ≡ length (asked_under h t past)
all_answered m map past lawful tagged h t drained =
    let has = has_phase m map past lawful tagged h t in
    let free : has.phase ≡ Free = phase_free has.phase (λ queue. sym (has.places queue) ∙ nothing_in m (errands_of h t) past (λ x mine. errand_live h t x (errand_is h t x mine)) drained queue) in
    let asked : asked_under h t past ≡ executed_under h t past = has.accounts.asked_is ∙ ap (λ (p : Phase). executed_under h t past ++ asks_left p) free ∙ append-nil (executed_under h t past) in
    let replied : replied_under h t past ≡ answers_under m h t past = has.accounts.replied_is ∙ ap (λ (p : Phase). answers_under m h t past ++ replies_left p) free ∙ append-nil (answers_under m h t past) in
    ap length (sym replied) ∙ sym (as_long h t past) ∙ ap length (sym asked)
