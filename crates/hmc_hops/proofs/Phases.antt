-- A tag has one packet in the whole network, from its request to its answer.
use Rattle.std.proofs.Common.{◌≡◌, ◌∙◌, ℕ, zero, suc, Bool, true, false, List, [], ◌∷◌, ◌++◌, refl, sym, ap, ap₂, subst, append-nil}
use Rattle.hmc_codes.specs.Request.{RequestFields}
use Rattle.hmc_codes.specs.declared.answer.Answer.{Answer}
use Rattle.hmc_hops.specs.Packets.{Packet}
use Rattle.hmc_hops.specs.Map.{Map}
use Rattle.hmc_hops.specs.Queues.{QueueId, same_queue}
use Rattle.hmc_hops.specs.Moves.{Move, packet_if, without, without_if, contents, IsPlaced}
use Rattle.hmc_hops.specs.Flows.{Flow, item_if, pick}
use Rattle.hmc_hops.specs.Tags.{Errand, out_after, Phase, errands_if, held, asks_left, replies_left, is_held, PhaseAccounts}
use Rattle.hmc_hops.specs.Tags.Errand.{Asked, Replied}
use Rattle.hmc_hops.specs.Tags.Phase.{Free, Held}
use Rattle.hmc_hops.proofs.SameQueue.{queue_is}

-- a list with one packet of a filter
placed_off : {X : Type 0} (f : Flow X) (n : ℕ) (x : Packet) (xs : List Packet) → IsPlaced n x xs → f.mine x ≡ false → pick f (without n xs) ≡ pick f xs
unfolding pick without
placed_off f n x [] at off = absurd at
placed_off f zero x (y ∷ ys) at off = sym (ap (λ (b : Bool). item_if b (f.value y) ++ pick f ys) (ap f.mine at ∙ off))
placed_off f (suc n) x (y ∷ ys) at off = ap (λ l. item_if (f.mine y) (f.value y) ++ l) (placed_off f n x ys at.1 off)

placed_some : {X : Type 0} (f : Flow X) (n : ℕ) (x : Packet) (xs : List Packet) → IsPlaced n x xs → f.mine x ≡ true → pick f xs ≡ [] → ⊥
unfolding pick without
placed_some f n x [] at on none = at
placed_some f zero x (y ∷ ys) at on none =
    let is : f.value y ∷ pick f ys ≡ [] = sym (ap (λ (b : Bool). item_if b (f.value y) ++ pick f ys) (ap f.mine at ∙ on)) ∙ none in cc
placed_some f (suc n) x (y ∷ ys) at on none = by (f.mine y) none (placed_some f n x ys at.1 on)
  where
    by : (b : Bool) → item_if b (f.value y) ++ pick f ys ≡ [] → (pick f ys ≡ [] → ⊥) → ⊥
    by true none later = cc
    by false none later = later none

placed_one : {X : Type 0} (f : Flow X) (n : ℕ) (x : Packet) (xs : List Packet) (e : X) → IsPlaced n x xs → f.mine x ≡ true → pick f xs ≡ e ∷ [] → (f.value x ≡ e) × (pick f (without n xs) ≡ [])
unfolding pick without
placed_one f n x [] e at on one = absurd at
placed_one f zero x (y ∷ ys) e at on one =
    let is : f.value y ∷ pick f ys ≡ e ∷ [] = sym (ap (λ (b : Bool). item_if b (f.value y) ++ pick f ys) (ap f.mine at ∙ on)) ∙ one in
    let v : f.value y ≡ e = cc in
    let none : pick f ys ≡ [] = cc in
    (ap f.value (sym at) ∙ v, none)
placed_one f (suc n) x (y ∷ ys) e at on one = by (f.mine y) one (λ is. placed_one f n x ys e at.1 on is)
  where
    by : (b : Bool) → item_if b (f.value y) ++ pick f ys ≡ e ∷ [] → (pick f ys ≡ e ∷ [] → (f.value x ≡ e) × (pick f (without n ys) ≡ [])) → (f.value x ≡ e) × (item_if b (f.value y) ++ pick f (without n ys) ≡ [])
    by true one later = let none : pick f ys ≡ [] = cc in absurd (placed_some f n x ys at.1 on none)
    by false one later = later one

-- the packet of a phase leaves
pub record HasLeft (f : Flow Errand) (phase : Phase) (from : QueueId) (n : ℕ) (x : Packet) (xs : List Packet) : Type 0 where
  pub was : phase ≡ Held from (f.value x)
  pub none : pick f (without n xs) ≡ []

pub has_left : (f : Flow Errand) (phase : Phase) (from : QueueId) (n : ℕ) (x : Packet) (xs : List Packet) → IsPlaced n x xs → f.mine x ≡ true → pick f xs ≡ held phase from → HasLeft f phase from n x xs
has_left f Free from n x xs at on is = absurd (placed_some f n x xs at on is)
has_left f (Held here e) from n x xs at on is = by (same_queue here from) refl is
  where
    by : (b : Bool) → same_queue here from ≡ b → pick f xs ≡ errands_if b e → HasLeft f (Held here e) from n x xs
    by false same is = absurd (placed_some f n x xs at on is)
    by true same is =
        let one = placed_one f n x xs e at on is in
        record { was = ap₂ Held (queue_is here from same) (sym one.0); none = one.1 }

-- then no queue has a packet of the tag
pub none_left : (m : Map) (f : Flow Errand) (past : List Move) (phase : Phase) (from : QueueId) (n : ℕ) (x : Packet) → ((queue : QueueId) → pick f (contents m past queue) ≡ held phase queue) → HasLeft f phase from n x (contents m past from)
    → (queue : QueueId) → pick f (without_if (same_queue from queue) n (contents m past queue)) ≡ []
none_left m f past phase from n x places left queue = by (same_queue from queue) refl
  where
    by : (b : Bool) → same_queue from queue ≡ b → pick f (without_if b n (contents m past queue)) ≡ []
    by true same = subst (λ (r : QueueId). pick f (without n (contents m past r)) ≡ []) (queue_is from queue same) left.none
    by false same = places queue ∙ ap (λ (p : Phase). held p queue) left.was ∙ ap (λ (b : Bool). errands_if b (f.value x)) same

pub others_left : (m : Map) (f : Flow Errand) (past : List Move) (from : QueueId) (n : ℕ) (x : Packet) → IsPlaced n x (contents m past from) → f.mine x ≡ false → (queue : QueueId) → pick f (without_if (same_queue from queue) n (contents m past queue)) ≡ pick f (contents m past queue)
others_left m f past from n x at off queue = by (same_queue from queue) refl
  where
    by : (b : Bool) → same_queue from queue ≡ b → pick f (without_if b n (contents m past queue)) ≡ pick f (contents m past queue)
    by true same = subst (λ (r : QueueId). pick f (without n (contents m past r)) ≡ pick f (contents m past r)) (queue_is from queue same) (placed_off f n x (contents m past from) at off)
    by false same = refl

pub enters_held : (f : Flow Errand) (there queue : QueueId) (x : Packet) → f.mine x ≡ true → pick f (packet_if (same_queue there queue) x) ≡ held (Held there (f.value x)) queue
unfolding pick
enters_held f there queue x on = by (same_queue there queue)
  where
    by : (b : Bool) → pick f (packet_if b x) ≡ errands_if b (f.value x)
    by true = ap (λ (b : Bool). item_if b (f.value x) ++ []) on
    by false = refl

-- what was asked, executed, replied and taken after a move
pub accounts_still : (a r k : Bool) (asked executed : List RequestFields) (replied taken : List Answer) (out : Bool) (w : RequestFields) (v : Answer) (p q : Phase) → a ≡ false → r ≡ false → k ≡ false → asks_left q ≡ asks_left p → replies_left q ≡ replies_left p → is_held q ≡ is_held p → PhaseAccounts p asked executed replied taken out
    → PhaseAccounts q (asked ++ item_if a w) (executed ++ item_if r w) (replied ++ item_if r v) (taken ++ item_if k v) (out_after a k out)
accounts_still false false false asked executed replied taken out w v p q a r k asks accounts keeps t = record {
  asked_is = append-nil asked ∙ t.asked_is ∙ ap₂ (λ (x y : List RequestFields). x ++ y) (sym (append-nil executed)) (sym asks);
  replied_is = append-nil replied ∙ t.replied_is ∙ ap₂ (λ (x y : List Answer). x ++ y) (sym (append-nil taken)) (sym accounts);
  out_is = t.out_is ∙ sym keeps;
}
accounts_still true r k asked executed replied taken out w v p q a r' k' asks accounts keeps t = absurd (cc)
accounts_still false true k asked executed replied taken out w v p q a r' k' asks accounts keeps t = absurd (cc)
accounts_still false false true asked executed replied taken out w v p q a r' k' asks accounts keeps t = absurd (cc)

pub free_if : (p : Phase) → is_held p ≡ false → p ≡ Free
free_if Free is = refl
free_if (Held queue e) is = cc

pub accounts_asks : (a : Bool) (asked executed : List RequestFields) (replied taken : List Answer) (out : Bool) (w : RequestFields) (v : Answer) (p : Phase) (queue : QueueId) → a ≡ true → p ≡ Free → PhaseAccounts p asked executed replied taken out
    → PhaseAccounts (Held queue (Asked w)) (asked ++ item_if a w) (executed ++ []) (replied ++ []) (taken ++ []) (out_after a false out)
accounts_asks true asked executed replied taken out w v p queue a free t =
    let f : PhaseAccounts Free asked executed replied taken out = subst (λ (q : Phase). PhaseAccounts q asked executed replied taken out) free t in record {
      asked_is = ap (λ (l : List RequestFields). l ++ w ∷ []) (f.asked_is ∙ append-nil executed) ∙ ap (λ (l : List RequestFields). l ++ w ∷ []) (sym (append-nil executed));
      replied_is = append-nil replied ∙ f.replied_is ∙ ap (λ (l : List Answer). l ++ []) (sym (append-nil taken));
      out_is = refl;
    }
accounts_asks false asked executed replied taken out w v p queue a free t = absurd (cc)

pub accounts_executes : (r : Bool) (asked executed : List RequestFields) (replied taken : List Answer) (out : Bool) (w : RequestFields) (v : Answer) (p : Phase) (from queue : QueueId) → r ≡ true → p ≡ Held from (Asked w) → PhaseAccounts p asked executed replied taken out
    → PhaseAccounts (Held queue (Replied v)) (asked ++ []) (executed ++ item_if r w) (replied ++ item_if r v) (taken ++ []) (out_after false false out)
accounts_executes true asked executed replied taken out w v p from queue r was t =
    let f : PhaseAccounts (Held from (Asked w)) asked executed replied taken out = subst (λ (q : Phase). PhaseAccounts q asked executed replied taken out) was t in record {
      asked_is = append-nil asked ∙ f.asked_is ∙ sym (append-nil (executed ++ w ∷ []));
      replied_is = ap (λ (l : List Answer). l ++ v ∷ []) (f.replied_is ∙ append-nil taken) ∙ ap (λ (l : List Answer). l ++ v ∷ []) (sym (append-nil taken));
      out_is = f.out_is;
    }
accounts_executes false asked executed replied taken out w v p from queue r was t = absurd (cc)

pub accounts_takes : (k : Bool) (asked executed : List RequestFields) (replied taken : List Answer) (out : Bool) (w : RequestFields) (v : Answer) (p : Phase) (from : QueueId) → k ≡ true → p ≡ Held from (Replied v) → PhaseAccounts p asked executed replied taken out
    → PhaseAccounts Free (asked ++ []) (executed ++ []) (replied ++ []) (taken ++ item_if k v) (out_after false k out)
accounts_takes true asked executed replied taken out w v p from k was t =
    let f : PhaseAccounts (Held from (Replied v)) asked executed replied taken out = subst (λ (q : Phase). PhaseAccounts q asked executed replied taken out) was t in record {
      asked_is = append-nil asked ∙ f.asked_is ∙ ap (λ (l : List RequestFields). l ++ []) (sym (append-nil executed));
      replied_is = append-nil replied ∙ f.replied_is ∙ sym (append-nil (taken ++ v ∷ []));
      out_is = refl;
    }
accounts_takes false asked executed replied taken out w v p from k was t = absurd (cc)

pub same_errand : (p : Phase) (from there : QueueId) (e : Errand) → p ≡ Held from e → (asks_left (Held there e) ≡ asks_left p) × (replies_left (Held there e) ≡ replies_left p) × (is_held (Held there e) ≡ is_held p)
same_errand p from there e was =
    subst (λ (q : Phase). (asks_left (Held there e) ≡ asks_left q) × (replies_left (Held there e) ≡ replies_left q) × (is_held (Held there e) ≡ is_held q)) (sym was) (by e)
  where
    by : (d : Errand) → (asks_left (Held there d) ≡ asks_left (Held from d)) × (replies_left (Held there d) ≡ replies_left (Held from d)) × (is_held (Held there d) ≡ is_held (Held from d))
    by (Asked w) = (refl, refl, refl)
    by (Replied w) = (refl, refl, refl)
